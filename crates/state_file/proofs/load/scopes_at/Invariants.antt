use mathlib.Core.List.{map}
use Prim.Native.Nat.{◌*◌, ◌+◌}
use Rattle.state.specs.Book.{zero_scope}
use Rattle.lists.specs.laws.Pad.{PadInv}
use Rattle.state_file.specs.Place.{file_scope_at}
use Rattle.format.specs.Place.{row}
use Rattle.state_file.specs.Records.{stored_scope}
use Rattle.state_file.proofs.load.scopes_at.Given as goal

abbrev pub invariant-loop-i : goal.invariant-loop-i
invariant-loop-i l = PadInv zero_scope 4 (map stored_scope (row (file_scope_at l.h) (6 + l.h * 2) l.k l.s l.at)) l.k l.out l.i
