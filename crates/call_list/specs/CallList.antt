-- Definitions: a list of calls on one book: what each record says, why one is not answered, the answers, and the book afterwards. 24 a record that is cut off,
-- then 27 fewer than 518 octets left for the next answer.
use Rattle.std.specs.Prelude.{ℕ, zero, suc, ◌+◌, ◌-◌, ◌%◌, min, Bool, true, List, [], ◌∷◌, ◌++◌, eqb, ltb, drop, length, take}
use Rattle.reply.specs.Reply.{least_room}
use Rattle.lists.specs.Pick.{pick}
use Rattle.octets.specs.Octets.{at16, at32, octets16}
use Rattle.state.specs.declared.Lease.{Lease}
use Rattle.state.specs.declared.Ledger.{Ledger}
use Rattle.server.specs.Serve.{Call}
use Rattle.record_call.specs.Call.{LentAnswer, serve_lent}

-- ---- work on a book: one call, or a list of calls
-- the number to tell, the offset that one call's carries (document 02, W-206) and the count of records read for it (W-210), the ledger and the records afterwards, how many octets of calls are done,
-- and the octets to hand out: a reply, or answers
pub record Worked : Type 0 where
  pub number : ℕ
  pub offset : ℕ
  pub count : ℕ
  pub ledger : Ledger
  pub leases : List Lease
  pub used : ℕ
  pub out : List ℕ

-- ---- a list of calls, each a record as `replay` reads it: time(4), client address(4), reply room length(2), datagram length(2), the datagram
-- how many octets the first record takes
abbrev pub record_size : List ℕ → ℕ
record_size cs = 12 + at16 cs 10

-- whether the first record is cut off
unfoldable pub cut_off : List ℕ → Bool
cut_off cs = pick (ltb (length cs) 12) true (ltb (length cs) (record_size cs))

-- the first call; a room above the least counts as the least: test 2 asks only whether it is below, and no reply is longer
abbrev pub call_in : List ℕ → Call
call_in cs = record { datagram = take (at16 cs 10) (drop 12 cs); client = at32 cs 4; time = at32 cs 0; room = min (at16 cs 8) least_room }

-- an answer: outcome(1), the offset that it carries(2), the count(1), which is at most 32, reply length(2), the reply
abbrev pub answer_octets : LentAnswer → List ℕ
answer_octets a = a.outcome ∷ octets16 a.offset ++ (a.count % 256) ∷ octets16 (length a.reply) ++ a.reply

-- room for any answer
abbrev pub answer_room : ℕ
answer_room = 6 + least_room

abbrev pub stopped : ℕ → Ledger → List Lease → Worked
stopped k g ls = record { number = k; offset = 0; count = 0; ledger = g; leases = ls; used = 0; out = [] }

-- the answer to the first record before those to the others
abbrev pub answer_before : List ℕ → LentAnswer → Worked → Worked
answer_before cs a r = record { number = r.number; offset = r.offset; count = r.count; ledger = r.ledger; leases = r.leases; used = record_size cs + r.used; out = answer_octets a ++ r.out }

-- why the first record is not answered, with so much room for answers left: 24, 27 or 0
unfoldable pub stop_in : List ℕ → ℕ → ℕ
stop_in cs room = pick (cut_off cs) 24 (pick (ltb room answer_room) 27 0)

-- at most k records, each on what the one before left
unfoldable pub replayed : ℕ → Ledger → List Lease → List ℕ → List ℕ → ℕ → Worked
replayed zero g ls names cs room = stopped 0 g ls
replayed (suc k) g ls names cs room =
    pick (eqb (length cs) 0) (stopped 0 g ls)
    (pick (eqb (stop_in cs room) 0)
    (answer_before cs (serve_lent g ls names (call_in cs))
    (replayed k (serve_lent g ls names (call_in cs)).ledger (serve_lent g ls names (call_in cs)).leases names (drop (record_size cs) cs) (room - length (answer_octets (serve_lent g ls names (call_in cs))))))
    (stopped (stop_in cs room) g ls))
