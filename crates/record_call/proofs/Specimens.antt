-- Specimens: another number of records than 128, by computation.
use mathlib.Core.Path.{◌≡◌, refl}
use mathlib.Core.List.{List}
use Prim.Native.Nat.{ℕ}
use lib.ListN.{replicate}
use Rattle.lists.specs.Pick.{pick}
use Rattle.state.specs.declared.Ledger.{Ledger}
use Rattle.state.specs.Book.{zero_lease}
use Rattle.server.specs.Serve.{Call}
use Rattle.records.specs.Lent.{is128}
use Rattle.record_call.specs.Call.{serve_lent, serve_with}

-- 127 and 129 records are discard 1, whatever the ledger, the names and the call
serve_127 : (g : Ledger) (names : List ℕ) (c : Call) → (serve_lent g (replicate 127 zero_lease) names c).outcome ≡ 1
unfolding serve_with is128 pick
serve_127 g names c = refl

serve_129 : (g : Ledger) (names : List ℕ) (c : Call) → (serve_lent g (replicate 129 zero_lease) names c).outcome ≡ 1
unfolding serve_with is128 pick
serve_129 g names c = refl
