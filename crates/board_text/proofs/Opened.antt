-- Laws: what the lent reader gives is what the reader of a file yields.
use Rattle.std.specs.Prelude.{List, ℕ, ◌≡◌, refl, Result, Ok, Err}
use Rattle.std.proofs.Common.{ap, ap₂, ◌∙◌}
use Rattle.records.specs.Records.{records_of, table_from}
use Rattle.records.specs.laws.Files.{file_back}
use Rattle.state.specs.declared.LeaseTable.{LeaseTable}
use Rattle.state.specs.declared.Ledger.{Ledger}
use Rattle.state_file.specs.StateFile.{book_in, read_file, refusal_number}
use Rattle.state_file.specs.declared.Loaded.{Loaded}
use Rattle.state_file.specs.declared.Refusal.{Refusal}
use Rattle.owned.specs.declared.Owned.{Owned}
use Rattle.owned.specs.Owned.{Opens}

abbrev book : Owned → LeaseTable → Loaded
book o t = record { state = o.ledger.state; table = t; memory = o.ledger.memory }

pub opened_is : (f : List ℕ) (o : Owned) (t : LeaseTable) → Opens (read_file f) (Ok o) → t ≡ table_from o.records.leases → Ok (book o t) ≡ read_file f
unfolding refusal_number book_in
opened_is f o t v e = go (read_file f) v (file_back f)
  where
    go : (r : Result Loaded Refusal) → Opens r (Ok o) → (refusal_number r ≡ 0 → table_from (records_of (book_in r).table) ≡ (book_in r).table) → Ok (book o t) ≡ r
    go (Ok b) (l, x) back =
        ap {B = Result Loaded Refusal} Ok (ap₂ {C = Loaded} (λ (g : Ledger) (u : LeaseTable). record { state = g.state; table = u; memory = g.memory }) l (e ∙ ap table_from x ∙ back refl))
    go (Err k) v back = absurd v

pub none_opened : (f : List ℕ) (k : Refusal) → Opens (read_file f) (Err k) → Err k ≡ read_file f
none_opened f k v = go (read_file f) v
  where
    go : (r : Result Loaded Refusal) → Opens r (Err k) → Err k ≡ r
    go (Ok b) v = absurd v
    go (Err e) v = ap Err v
