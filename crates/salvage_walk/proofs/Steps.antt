-- Laws: the loops of the walk over a file, turn by turn, and the whole walk.
use Rattle.std.specs.Prelude.{Bool, List, [], ◌≡◌, ◌+◌, ◌<◌, ◌≤◌, ℕ, eqb, get_or, length, replicate, set}
use Rattle.std.proofs.Math.Bool.{false, true}
use Rattle.std.proofs.Common.{◌∙◌}
use Rattle.std.proofs.Math.Path.{ap, ap₂, sym, subst}
use native.Mathlib.Omega.{arith}
use Rattle.lists.specs.Pick.{pick}
use Rattle.format.specs.Section.{Inside, InRow}
use Rattle.state.specs.declared.LeaseTable.{LeaseTable}
use Rattle.state.specs.declared.Memory.{Memory}
use Rattle.state.specs.declared.State.{State}
use Rattle.lease_file.specs.Place.{EntriesIn, StorableAt, after_entry, entries_in, entry_at}
use Rattle.release_file.specs.Place.{KeepableAt, ReleasesIn, after_release, file_release_at, releases_in}
use Rattle.state_file.specs.Place.{Formed, file_at}
use Rattle.state_file.specs.Records.{stored_state}
use Rattle.state_file.specs.StateFile.{zero_memory, zero_table}
use Rattle.state_file.specs.declared.Places.{Places}
use Rattle.salvage_walk.specs.declared.Walked.{Walked}
use Rattle.salvage_walk.specs.declared.WalkedReleases.{WalkedReleases}
use Rattle.salvage_rules.specs.Rules.{KeptWhole, entry_rule, hold_rule, lease_rule, release_rule, with_entry, with_hold, with_lease, with_release}
use Rattle.salvage_rules.specs.laws.Rules.{release_kept}
use Rattle.salvage_rules.proofs.Rules.{entry_kept}
use Rattle.salvage_list.specs.List.{marked}
use Rattle.salvage_walk.specs.Walk.{WalksFile, WalksRecords, WalksReleases, hold_rules, kept_after, lease_rules, leases_kept, records_kept, release_rules, releases_kept, rules_in, kept_with}
use Rattle.salvage_walk.specs.laws.Walk.{WalkInv, walk_in, walk_kept, walk_long, walk_rules, walk_start, walk_head, walk_open}
use mathlib.Core.List.{◌++◌, ◌∷◌, append_assoc}
use Prim.Native.Nat.{◌-◌}
use Rattle.std.proofs.Math.ListN.{length-append}
use Rattle.lists.specs.laws.Row.{row_push}
use Rattle.format.specs.Place.{walk}

-- ---- a turn of the walk
module _ {A B : Type 0} {rule : B → A → ℕ} {add : B → A → B} {v : List ℕ → ℕ → A} {next : List ℕ → ℕ → ℕ} {s : List ℕ} {from count : ℕ} {before : B} where
  module _ {b : B} {rules : List ℕ} {here i : ℕ} (w : WalkInv rule add v next s from count before b rules here i) where
    with_is : (r : ℕ) (b' : B) → r ≡ rule b (v s here) → b' ≡ pick (eqb r 0) (add b (v s here)) b → b' ≡ kept_with rule add b (v s here)
    unfolding kept_with
    with_is r b' er eb = eb ∙ ap (λ (k : ℕ). pick (eqb k 0) (add b (v s here)) b) er

    pub walk_next : (r n : ℕ) (b' : B) → i < count → r ≡ rule b (v s here) → b' ≡ pick (eqb r 0) (add b (v s here)) b → n ≡ next s here
        → WalkInv rule add v next s from count before b' (set rules i r) n (i + 1)
    unfolding rules_in
    walk_next r n b' h er eb en = record {
      within = omega arith;
      few = w.few;
      each = subst (λ (k : ℕ). InRow next s k (count - (i + 1))) (sym en) (walk_head w h).1;
      front = w.front ++ r ∷ [];
      many = length-append w.front (r ∷ []) ∙ (let e = w.many in let q : length w.front + 1 ≡ i + 1 = omega arith in q);
      laid =
          ap₂ (λ (l : List ℕ) (k : ℕ). set l k r) w.laid (sym w.many)
          ∙ row_push 0 255 w.front r (let e = w.many in let f = w.few in omega arith);
      kept =
          ap₂ (λ (c : B) (k : ℕ). kept_after rule add c (walk v next (count - (i + 1)) s k)) (with_is r b' er eb) en
          ∙ sym (ap (kept_after rule add b) (walk_open w h)) ∙ w.kept;
      told =
          append_assoc w.front (r ∷ []) (rules_in rule add b' (walk v next (count - (i + 1)) s n))
          ∙ ap (λ (l : List ℕ). w.front ++ l)
          (ap₂ {C = List ℕ} (λ (q : ℕ) (l : List ℕ). q ∷ l) er (ap₂ (λ (c : B) (k : ℕ). rules_in rule add c (walk v next (count - (i + 1)) s k)) (with_is r b' er eb) en)
          ∙ sym (ap (rules_in rule add b) (walk_open w h)))
          ∙ w.told;
    }

-- ---- the loops
pub record RecordsInv (holds : Bool) (st : State) (s : List ℕ) (at count : ℕ) (before table : LeaseTable) (rules : List ℕ) (here i : ℕ) : Type 0 where
  pub many : count ≡ get_or s at 0
  pub inv : WalkInv (entry_rule holds st) (with_entry holds) (entry_at holds) (after_entry holds) s (at + 1) (get_or s at 0) before table rules here i

pub records_start : {holds : Bool} {st : State} {s : List ℕ} {at count : ℕ} {before : LeaseTable} → EntriesIn holds s at → count ≡ get_or s at 0 → count < 256 → RecordsInv holds st s at count before before (replicate 255 0) (at + 1) 0
records_start v e h = record { many = e; inv = walk_start (omega arith) v.each }

module _ {holds : Bool} {st : State} {s : List ℕ} {at count : ℕ} {before table : LeaseTable} {rules : List ℕ} {here i : ℕ} (v : RecordsInv holds st s at count before table rules here i) where
  pub records_inside : i < count → Inside (after_entry holds) s here
  records_inside h = walk_in v.inv (let e = v.many in omega arith)

  pub records_place : i < count → count < 256 → i < length rules
  records_place h g = let e = walk_long v.inv in omega arith

  pub records_fit : (r : ℕ) → i < count → r ≡ entry_rule holds st table (entry_at holds s here) → KeptWhole (StorableAt holds s here) r
  records_fit r h e = entry_kept holds s here st table (records_inside h) e

  pub records_next : (r n : ℕ) (t : LeaseTable) → i < count → r ≡ entry_rule holds st table (entry_at holds s here) → t ≡ pick (eqb r 0) (with_entry holds table (entry_at holds s here)) table → n ≡ after_entry holds s here
      → RecordsInv holds st s at count before t (set rules i r) n (i + 1)
  records_next r n t h er et en = record { many = v.many; inv = walk_next v.inv r n t (let e = v.many in omega arith) er et en }

  pub records_table : count ≤ i → table ≡ kept_after (entry_rule holds st) (with_entry holds) before (entries_in holds s at)
  records_table h = walk_kept v.inv (let e = v.many in omega arith)

  pub records_rules : count ≤ i → rules ≡ marked (rules_in (entry_rule holds st) (with_entry holds) before (entries_in holds s at))
  records_rules h = walk_rules v.inv (let e = v.many in omega arith)

pub ruleset record_walk = (records_start, records_inside, records_place, records_fit, records_next, records_table, records_rules)

pub record ReleasesInv (st : State) (b : LeaseTable) (s : List ℕ) (at count : ℕ) (before memory : Memory) (rules : List ℕ) (here i : ℕ) : Type 0 where
  pub many : count ≡ get_or s at 0
  pub inv : WalkInv (release_rule st b) with_release file_release_at after_release s (at + 1) (get_or s at 0) before memory rules here i

pub releases_start : {st : State} {b : LeaseTable} {s : List ℕ} {at count : ℕ} {before : Memory} → ReleasesIn s at → count ≡ get_or s at 0 → count < 256 → ReleasesInv st b s at count before before (replicate 255 0) (at + 1) 0
releases_start v e h = record { many = e; inv = walk_start (omega arith) v.each }

module _ {st : State} {b : LeaseTable} {s : List ℕ} {at count : ℕ} {before memory : Memory} {rules : List ℕ} {here i : ℕ} (v : ReleasesInv st b s at count before memory rules here i) where
  pub releases_inside : i < count → Inside after_release s here
  releases_inside h = walk_in v.inv (let e = v.many in omega arith)

  pub releases_place : i < count → count < 256 → i < length rules
  releases_place h g = let e = walk_long v.inv in omega arith

  pub releases_fit : (r : ℕ) → i < count → r ≡ release_rule st b memory (file_release_at s here) → KeptWhole (KeepableAt s here) r
  releases_fit r h e = release_kept st b memory (releases_inside h) e

  pub releases_next : (r n : ℕ) (m : Memory) → i < count → r ≡ release_rule st b memory (file_release_at s here) → m ≡ pick (eqb r 0) (with_release memory (file_release_at s here)) memory → n ≡ after_release s here
      → ReleasesInv st b s at count before m (set rules i r) n (i + 1)
  releases_next r n m h er et en = record { many = v.many; inv = walk_next v.inv r n m (let e = v.many in omega arith) er et en }

  pub releases_memory : count ≤ i → memory ≡ kept_after (release_rule st b) with_release before (releases_in s at)
  releases_memory h = walk_kept v.inv (let e = v.many in omega arith)

  pub releases_rules : count ≤ i → rules ≡ marked (rules_in (release_rule st b) with_release before (releases_in s at))
  releases_rules h = walk_rules v.inv (let e = v.many in omega arith)

pub ruleset release_walk = (releases_start, releases_inside, releases_place, releases_fit, releases_next, releases_memory, releases_rules)

-- ---- the whole walk
module _ {s : List ℕ} {p : Places} (v : Formed s p) where
  module _ (st : State) (es : st ≡ stored_state (file_at s p)) (z : LeaseTable) (ez : z ≡ zero_table) (a : Walked) (wa : WalksRecords false st z (entries_in false s p.leases) a) where
    pub walked_leases : a.table ≡ leases_kept (file_at s p)
    unfolding entry_rule with_entry file_at
    walked_leases = wa.table ∙ ap₂ (λ (x : State) (y : LeaseTable). kept_after (lease_rule x) with_lease y (entries_in false s p.leases)) es ez

    pub walked_lease_rules : a.rules ≡ marked (lease_rules (file_at s p))
    unfolding entry_rule with_entry file_at
    walked_lease_rules = wa.rules ∙ ap₂ (λ (x : State) (y : LeaseTable). marked (rules_in (lease_rule x) with_lease y (entries_in false s p.leases))) es ez

    module _ (b : Walked) (wb : WalksRecords true st a.table (entries_in true s p.holds) b) where
      pub walked_records : b.table ≡ records_kept (file_at s p)
      unfolding entry_rule with_entry file_at
      walked_records = wb.table ∙ ap₂ (λ (x : State) (y : LeaseTable). kept_after (hold_rule x) with_hold y (entries_in true s p.holds)) es walked_leases

      pub walked_hold_rules : b.rules ≡ marked (hold_rules (file_at s p))
      unfolding entry_rule with_entry file_at
      walked_hold_rules = wb.rules ∙ ap₂ (λ (x : State) (y : LeaseTable). marked (rules_in (hold_rule x) with_hold y (entries_in true s p.holds))) es walked_leases

      module _ (m : Memory) (em : m ≡ zero_memory) (c : WalkedReleases) (wc : WalksReleases st b.table m (releases_in s p.releases) c) where
        pub walked_memory : c.memory ≡ releases_kept (file_at s p)
        unfolding file_at
        walked_memory = wc.memory ∙ ap (λ (y : Memory). kept_after (release_rule st b.table) with_release y (releases_in s p.releases)) em
            ∙ ap₂ (λ (x : State) (y : LeaseTable). kept_after (release_rule x y) with_release zero_memory (releases_in s p.releases)) es walked_records

        pub walked_release_rules : c.rules ≡ marked (release_rules (file_at s p))
        unfolding file_at
        walked_release_rules = wc.rules ∙ ap (λ (y : Memory). marked (rules_in (release_rule st b.table) with_release y (releases_in s p.releases))) em
            ∙ ap₂ (λ (x : State) (y : LeaseTable). marked (rules_in (release_rule x y) with_release zero_memory (releases_in s p.releases))) es walked_records

        pub walked_file : WalksFile (file_at s p) (record { state = st; table = b.table; memory = c.memory; leases = a.rules; holds = b.rules; releases = c.rules })
        walked_file = record { state = es; table = walked_records; memory = walked_memory; leases = walked_lease_rules; holds = walked_hold_rules; releases = walked_release_rules }
