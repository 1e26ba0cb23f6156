-- Specimens: another number of records than 128, by computation.
use mathlib.Core.Path.{◌≡◌, refl}
use mathlib.Core.List.{List}
use Prim.Native.Nat.{ℕ}
use lib.ListN.{replicate}
use Rattle.lists.specs.Pick.{pick}
use Rattle.state.specs.declared.Ledger.{Ledger}
use Rattle.state.specs.Book.{zero_lease}
use Rattle.server.specs.Halves.{discard_ruling}
use Rattle.records.specs.Lent.{is128}
use Rattle.record_verdict.specs.Verdict.{judge_lent, judge_with}

-- 127 records are discard 1, whatever the ledger, the names, the client, the time and the datagram, and are left as they were
judge_127 : (g : Ledger) (names : List ℕ) (client time : ℕ) (d : List ℕ)
    → judge_lent g (replicate 127 zero_lease) names client time d ≡ record { ruling = discard_ruling 1 0; ledger = g; leases = replicate 127 zero_lease }
unfolding judge_with is128 pick
judge_127 g names client time d = refl
