-- Specimens: the second half of a call, of a verdict that is a discard and of one that was made up, by computation.
use mathlib.Core.Path.{◌≡◌, refl}
use mathlib.Core.List.{List}
use Prim.Native.Nat.{ℕ}
use Rattle.lists.specs.Pick.{pick}
use Rattle.state.specs.declared.State.{State}
use Rattle.decision.specs.Verdicts.{discard_with}
use Rattle.server.specs.Halves.{discard_ruling, silent, write_of}

-- a discard in room for 511 octets is 2, with no offset; in room for 512 it is what it was
short_room : (s : State) (names : List ℕ) → write_of (discard_ruling 5 12) s names 511 ≡ silent 2 0 0
unfolding write_of discard_with pick
short_room s names = refl

enough_room : (s : State) (names : List ℕ) → write_of (discard_ruling 5 12) s names 512 ≡ silent 5 12 0
unfolding write_of discard_with pick
enough_room s names = refl

-- the first half gives no outcome above 8; of one that was made up the second makes 8
made_up : (s : State) (names : List ℕ) → write_of (discard_ruling 200 12) s names 512 ≡ silent 8 12 0
unfolding write_of discard_with pick
made_up s names = refl
