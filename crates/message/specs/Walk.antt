-- Definitions: test 5 (document 01, "Outcomes"): the walk over a datagram's options, one after the other, up to End or to the first that breaks a rule.
use Rattle.std.specs.Prelude.{ℕ, zero, suc, ◌+◌, ◌*◌, List, Bool, true, ◌&&◌, length, get_or, set, replicate, ltb, leb, eqb}
use Rattle.lists.specs.Pick.{pick}
use Rattle.octets.specs.Octets.{at16}
use Rattle.message.specs.Codes.{length_ok}
use Rattle.message.specs.declared.Walk.{Walk}
use Rattle.message.specs.declared.Stage.{Stage}
use Rattle.message.specs.declared.Stage.TheVariants.{Walking, Done, Broken}

-- of the option at a place: code(2), length(2), value
abbrev pub code_at : List ℕ → ℕ → ℕ
code_at s at = at16 s at

abbrev pub length_at : List ℕ → ℕ → ℕ
length_at s at = at16 s (at + 2)

-- the place after it
abbrev pub after_at : List ℕ → ℕ → ℕ
after_at s at = at + 4 + length_at s at

-- the layout: the option lies within the datagram
unfoldable pub layout_ok : List ℕ → ℕ → Bool
layout_ok s at = leb (at + 4) (length s) && leb (after_at s at) (length s)

-- past a list of option 12 that starts at p: count(2) and codes(2)
abbrev pub past_list : List ℕ → ℕ → ℕ
past_list s p = p + 2 + 2 * at16 s p

-- supported, requested and required, one after the other, end where the value ends (each ends after it starts, so one that does not lie
-- within the value ends past it)
unfoldable pub exactly_filled : List ℕ → ℕ → ℕ → Bool
exactly_filled s p end = eqb (past_list s (past_list s (past_list s p))) end

-- the value has a length that the table allows, and that of option 12 is exactly filled
unfoldable pub value_ok : List ℕ → ℕ → Bool
value_ok s at = length_ok (code_at s at) (length_at s at) && pick (eqb (code_at s at) 12) (exactly_filled s (at + 4) (after_at s at)) true

-- the walk stops at the first option that breaks a rule, of a repeat at the later, at one to three octets left over, or at the
-- datagram's end where End is missing: this is the offset that goes with discard 5
abbrev pub broken : Walk → Walk
broken w = record { at = w.at; stage = Broken; places = w.places }

abbrev pub done : Walk → Walk
done w = record { at = w.at; stage = Done; places = w.places }

-- past an option whose value has n octets
abbrev pub moved : ℕ → List ℕ → Walk → Walk
moved n places w = record { at = w.at + 4 + n; stage = Walking; places = places }

-- the option at the walk's place in a datagram of `size` octets, once its layout and value are right
unfoldable pub option_taken : ℕ → ℕ → ℕ → Walk → Walk
option_taken size code n w =
    -- End is the last four octets
    pick (eqb code 0) (pick (eqb (w.at + 4) size) (done w) (broken w))
    -- codes above 16 are stepped over and may repeat
    (pick (ltb 16 code) (moved n w.places w)
    -- a code from 1 to 16 comes at most once
    (pick (eqb (get_or w.places code 0) 0) (moved n (set w.places code w.at) w) (broken w)))

unfoldable pub step_of : List ℕ → Walk → Walk
step_of s w =
    pick (layout_ok s w.at)
    (pick (value_ok s w.at) (option_taken (length s) (code_at s w.at) (length_at s w.at) w) (broken w))
    (broken w)

abbrev pub onward : Stage → Walk → Walk → Walk
onward Walking w more = more
onward Done w more = w
onward Broken w more = w

-- the walk from w on, of at most k options
unfoldable pub walk_from : ℕ → List ℕ → Walk → Walk
walk_from zero s w = w
walk_from (suc k) s w =
    let more : Walk = walk_from k s (step_of s w) in
    onward w.stage w more

-- the options follow the header of eight octets; a place of 0 says that there is no such option yet
abbrev pub start : Walk
start = record { at = 8; stage = Walking; places = replicate 17 0 }

-- no datagram has more options than octets
unfoldable pub walk_of : List ℕ → Walk
walk_of s = walk_from (length s) s start
