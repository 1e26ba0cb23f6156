-- Specimens: settings that are refused and settings that are not, at their bounds; and what is printed for a few inputs.
use Prim.Native.Nat.{ℕ}
use mathlib.Core.Path.{◌≡◌, refl}
use mathlib.Core.List.{List, [], ◌∷◌, ◌++◌}
use Rattle.guarantee_specimens.proofs.Opened.{computed}
use Rattle.records.specs.Records.{records_of, rows, rows_of, table_from, tenant_from}
use Rattle.records.specs.Lent.{is128}
use Rattle.record_call.specs.Call.{serve_with}
use Rattle.replay_text.specs.Replay.{hex_of, number_text, outcome_line, refused_line}
use Rattle.van_server.specs.Van.{day_of, day_to, open_of, printed_of, record_size, turn_of, van_scope, van_state}

-- what a van's specimen computes with: the call, on lent records, and the van's own definitions
unfoldable opened : Unit {0}
unfolding computed is128 serve_with rows rows_of table_from tenant_from records_of van_scope van_state open_of record_size turn_of day_to day_of printed_of number_text hex_of
opened = tt

-- server 10.1.1.1, clients 10.0.0.0 to 10.0.0.255, a pool of some size from 239.192.0.0 on
abbrev settings : ℕ → ℕ → List ℕ
settings size ttl = 10 ∷ 1 ∷ 1 ∷ 1 ∷ 10 ∷ 0 ∷ 0 ∷ 0 ∷ 10 ∷ 0 ∷ 0 ∷ 255 ∷ 239 ∷ 192 ∷ 0 ∷ 0 ∷ size ∷ ttl ∷ []

opens_4 : (open_of (settings 4 15)).refusal ≡ 0
unfolding opened
opens_4 = refl

opens_64 : (open_of (settings 64 255)).refusal ≡ 0
unfolding opened
opens_64 = refl

refused_65 : (open_of (settings 65 15)).refusal ≡ 21
unfolding opened
refused_65 = refl

refused_0 : (open_of (settings 0 15)).refusal ≡ 21
unfolding opened
refused_0 = refl

refused_ttl : (open_of (settings 4 0)).refusal ≡ 21
unfolding opened
refused_ttl = refl

-- cut off: nothing at all, and 17 octets
refused_none : printed_of [] ≡ refused_line 24
unfolding opened
refused_none = refl

refused_short : printed_of (10 ∷ 1 ∷ 1 ∷ 1 ∷ 10 ∷ 0 ∷ 0 ∷ 0 ∷ 10 ∷ 0 ∷ 0 ∷ 255 ∷ 239 ∷ 192 ∷ 0 ∷ 0 ∷ 4 ∷ []) ≡ refused_line 24
unfolding opened
refused_short = refl

-- unsound settings are refused whatever follows
refused_all : printed_of (settings 65 15 ++ 1 ∷ 2 ∷ 3 ∷ []) ≡ refused_line 21
unfolding opened
refused_all = refl

-- no record, no line
silent : printed_of (settings 4 15) ≡ []
unfolding opened
silent = refl

-- a stranger's empty datagram is discard 3, the van's own discard 4; then a record whose head is cut off
two_lines : printed_of (settings 4 15 ++ 0 ∷ 0 ∷ 0 ∷ 9 ∷ 10 ∷ 0 ∷ 1 ∷ 0 ∷ 0 ∷ 0 ∷ 0 ∷ 0 ∷ 0 ∷ 9 ∷ 10 ∷ 0 ∷ 0 ∷ 7 ∷ 0 ∷ 0 ∷ 0 ∷ []) ≡ 51 ∷ 10 ∷ 52 ∷ 10 ∷ refused_line 24
unfolding opened
two_lines = refl

-- a datagram of which an octet is missing is not answered
one_short : printed_of (settings 4 15 ++ 0 ∷ 0 ∷ 0 ∷ 9 ∷ 10 ∷ 0 ∷ 1 ∷ 0 ∷ 0 ∷ 0 ∷ 0 ∷ 0 ∷ 0 ∷ 9 ∷ 10 ∷ 0 ∷ 0 ∷ 7 ∷ 0 ∷ 2 ∷ 1 ∷ []) ≡ 51 ∷ 10 ∷ refused_line 24
unfolding opened
one_short = refl

-- a REQUEST for 64 of the four, at 1000, on the empty book: all four, from 1000 to 4600
asked : List ℕ
asked = 0 ∷ 0 ∷ 3 ∷ 232 ∷ 10 ∷ 0 ∷ 0 ∷ 7 ∷ 0 ∷ 34 ∷ 0 ∷ 3 ∷ 0 ∷ 1 ∷ 0 ∷ 0 ∷ 0 ∷ 7 ∷ 0 ∷ 3 ∷ 0 ∷ 2 ∷ 0 ∷ 65 ∷ 0 ∷ 4 ∷ 0 ∷ 4 ∷ 239 ∷ 192 ∷ 0 ∷ 0 ∷ 0 ∷ 7 ∷ 0 ∷ 4 ∷ 0 ∷ 1 ∷ 0 ∷ 64 ∷ 0 ∷ 0 ∷ 0 ∷ 0 ∷ []

gets_four : printed_of (settings 4 15 ++ asked) ≡ outcome_line 0 (0 ∷ 5 ∷ 0 ∷ 1 ∷ 0 ∷ 0 ∷ 0 ∷ 7 ∷ 0 ∷ 1 ∷ 0 ∷ 4 ∷ 0 ∷ 0 ∷ 14 ∷ 16 ∷ 0 ∷ 2 ∷ 0 ∷ 6 ∷ 0 ∷ 1 ∷ 10 ∷ 1 ∷ 1 ∷ 1 ∷ 0 ∷ 3 ∷ 0 ∷ 2 ∷ 0 ∷ 65 ∷ 0 ∷ 4 ∷ 0 ∷ 4 ∷ 239 ∷ 192 ∷ 0 ∷ 0 ∷ 0 ∷ 6 ∷ 0 ∷ 4 ∷ 0 ∷ 0 ∷ 3 ∷ 232 ∷ 0 ∷ 10 ∷ 0 ∷ 6 ∷ 239 ∷ 192 ∷ 0 ∷ 0 ∷ 0 ∷ 4 ∷ 0 ∷ 11 ∷ 0 ∷ 4 ∷ 0 ∷ 0 ∷ 3 ∷ 232 ∷ 0 ∷ 0 ∷ 0 ∷ 0 ∷ [])
unfolding opened asked
gets_four = refl
