-- Definitions: the reader of messages: tests 4, 5 and 6 (document 01, "Outcomes"), in this order.
use Rattle.std.specs.Prelude.{ℕ, ◌+◌, List, Bool, true, ◌&&◌, length, get_or, replicate, leb, eqb}
use Rattle.lists.specs.Pick.{pick}
use Rattle.octets.specs.Octets.{at16, at32}
use Rattle.lists.specs.Filter.{is_in}
use Rattle.message.specs.Codes.{client_types}
use Rattle.message.specs.Walk.{past_list, walk_of}
use Rattle.message.specs.declared.Message.{Message}
use Rattle.message.specs.declared.Reading.{Reading}
use Rattle.message.specs.declared.Walk.{Walk}
use Rattle.message.specs.declared.Stage.{Stage}
use Rattle.message.specs.declared.Stage.TheVariants.{Walking, Done, Broken}

-- how many octets a datagram may have
abbrev pub longest_datagram : ℕ
longest_datagram = 1472

-- test 4: length from 12 to the longest, version 0, family 1, a type that a client sends
unfoldable pub header_ok : List ℕ → Bool
header_ok s = leb 12 (length s) && (leb (length s) longest_datagram && (eqb (get_or s 0 0) 0 && (eqb (at16 s 2) 1 && is_in (get_or s 1 0) client_types)))

-- no message: the discard's number, and for discard 5 the offset of the first option that breaks a rule, or the datagram's length where
-- End or option 3 is missing; 0 with every other answer
abbrev pub no_message : ℕ → ℕ → Reading
no_message number fault = record { discard = number; fault = fault; message = record { kind = record { number = 0 }; xid = 0; places = replicate 17 0 } }

-- type(1) and transaction id(4) of the header, and where each option stands
abbrev pub message_of : List ℕ → List ℕ → Message
message_of s places = record { kind = record { number = get_or s 1 0 }; xid = at32 s 4; places = places }

-- the required list of the features whose value starts at p, the third, has no code
unfoldable pub required_empty : List ℕ → ℕ → Bool
required_empty s p = eqb (at16 s (past_list s (past_list s p))) 0

-- test 6: "required feature list not empty (we support none)"
unfoldable pub none_required : List ℕ → List ℕ → Bool
none_required s places = pick (eqb (get_or places 12 0) 0) true (required_empty s (get_or places 12 0 + 4))

-- the walk came to End: option 3 is required (where it is missing, the offset is the datagram's length)
unfoldable pub ended : List ℕ → List ℕ → Reading
ended s places =
    pick (eqb (get_or places 3 0) 0) (no_message 5 (length s))
    (pick (none_required s places) (record { discard = 0; fault = 0; message = message_of s places }) (no_message 6 0))

-- a walk of as many steps as octets has stopped: it is never `Walking`
abbrev pub by_stage : Stage → Reading → Reading → Reading
by_stage Walking whole bad = bad
by_stage Done whole bad = whole
by_stage Broken whole bad = bad

abbrev pub walked : List ℕ → Walk → Reading
walked s w = by_stage w.stage (ended s w.places) (no_message 5 w.at)

unfoldable pub read_of : List ℕ → Reading
read_of s = pick (header_ok s) (walked s (walk_of s)) (no_message 4 0)
