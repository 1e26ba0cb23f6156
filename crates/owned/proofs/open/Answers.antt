-- `open` meets its contract: the reader over 128 records that are all zero.
use Rattle.std.proofs.Common.{◌≡◌, ◌∙◌, sym, ap, subst, refl, List, Result, Ok, Err, ℕ, length}
use Rattle.std.proofs.lemmas.List.{length-replicate}
use Rattle.std.proofs.lemmas.Result.{err_from_is_err_and}
use Rattle.state.specs.Book.{zero_lease}
use Rattle.state.specs.declared.Lease.{Lease}
use Rattle.state.specs.declared.Ledger.{Ledger}
use Rattle.state_file.specs.declared.Loaded.{Loaded}
use Rattle.state_file.specs.declared.Refusal.{Refusal}
use Rattle.state_file.specs.StateFile.{read_file}
use Rattle.records.specs.Lent.{ReadsLent, read_with}
use Rattle.records.specs.laws.Files.{read_book, read_none}
use Rattle.owned.specs.declared.Owned.{Owned}
use Rattle.owned.specs.Owned.{Opens}
use Rattle.owned.proofs.open.Goals as goal

accepted : (f : Result Loaded Refusal) {n : ℕ} (g : Ledger) (ls : List Lease) (o : Owned) → n ≡ 128 → ReadsLent (read_with n f g ls) o.ledger o.records.leases (Ok tt) → Opens f (Ok o)
accepted f g ls o e v =
    let k = read_book g ls f (subst (λ (n : ℕ). ReadsLent (read_with n f g ls) o.ledger o.records.leases (Ok tt)) e v) in
    subst (λ (x : Result Loaded Refusal). Opens x (Ok o)) (sym k.1) (k.2, k.3)

refused : (f : Result Loaded Refusal) {n : ℕ} (g : Ledger) (ls : List Lease) {g' : Ledger} {zs : List Lease} (e : Refusal) → n ≡ 128 → ReadsLent (read_with n f g ls) g' zs (Err e) → Opens f (Err e)
refused f g ls {g'} {zs} e q v =
    let k = read_none g ls f (subst (λ (n : ℕ). ReadsLent (read_with n f g ls) g' zs (Err e)) q v) in
    subst (λ (x : Result Loaded Refusal). Opens x (Err e)) (sym k) refl

pub returns : goal.returns
returns c =
    accepted (read_file c.args.file.now) c.blank-zero.result.ledger c.blank-zero.result.records.leases (record { ledger = c.read.new.ledger; records = record { leases = c.read.new.leases } })
    (ap length c.blank-zero.ensures.1 ∙ length-replicate 128 zero_lease) c.in_ok-read.ensures

pub returns-in_err-read : goal.returns-in_err-read
returns-in_err-read c = let p = err_from_is_err_and c.from_residual.result c.from_residual.ensures.1 in
    rw (p.1, p.2) (refused (read_file c.args.file.now) c.blank-zero.result.ledger c.blank-zero.result.records.leases _ (ap length c.blank-zero.ensures.1 ∙ length-replicate 128 zero_lease) c.in_err-read.ensures)
