-- Statement: a book whose records are kept by any order, and the call on it: `book_b` of releases and `serve_of` of server with the order as a parameter, and the
-- same as these at the order of records (`serve_ordered` in proofs/Same.antt). At `by_identifier` it is the arrangement before document 02's W-209, which stands
-- here as a definition only.
use Rattle.std.specs.Prelude.{ℕ, Bool, not, ◌&&◌, List, [], ◌∷◌, ltb, eqb}
use Rattle.lists.specs.Pick.{pick}
use Rattle.message.specs.declared.Fields.{Fields}
use Rattle.message.specs.declared.Reading.{Reading}
use Rattle.message.specs.Read.{read_of}
use Rattle.message.specs.Values.{fields_of}
use Rattle.reply.specs.Reply.{least_room}
use Rattle.state.specs.Book.{Book, Order, advanced}
use Rattle.state.specs.Edit.{edited_book_by}
use Rattle.soundness.specs.Sound.{sound_by, tenants_in}
use Rattle.releases.specs.Whole.{board_good, memory_good, names_good}
use Rattle.decision.specs.declared.Decided.{Decided}
use Rattle.server.specs.Serve.{Answer, Call, count_for, decided_for, discarded, discarded_at, reply_of, tenant_of}

-- ---- a sound book
unfoldable pub book_by : Order → Book → Bool
book_by o b = sound_by o b.state b.table && (memory_good b && (board_good b && names_good b))

-- ---- the call: test 1 and the edit go by the order, and nothing else does
abbrev pub answered_by : Order → Book → ℕ → Fields → Decided → Answer
answered_by o b h m d = record {
  outcome = d.verdict.outcome;
  offset = 0;
  count = count_for b h m;
  reply = reply_of b.state b.names h m d.verdict;
  book = edited_book_by o d.edit h b;
}

unfoldable pub for_server_by : Order → Book → ℕ → Fields → Answer
for_server_by o b h m =
    pick (eqb m.kind 3 && not m.ours) (discarded 7 b)
    (answered_by o b h m (decided_for b h m))

unfoldable pub with_reading_by : Order → Book → ℕ → List ℕ → Reading → Answer
with_reading_by o b h s r = pick (eqb r.discard 0) (for_server_by o b h (fields_of s b.state.server r.message)) (discarded_at r.discard r.fault b)

unfoldable pub at_clock_by : Order → Book → ℕ → List ℕ → Answer
at_clock_by o b client s =
    pick (ltb (tenant_of b.state client) (tenants_in b.state)) (with_reading_by o b (tenant_of b.state client) s (read_of s)) (discarded 3 b)

unfoldable pub serve_by : Order → Book → Call → Answer
serve_by o b c =
    pick (book_by o b)
    (pick (ltb c.room least_room) (discarded 2 b) (at_clock_by o (advanced b c.time) c.client c.datagram))
    (discarded 1 b)

-- ---- what a caller is told but for the count, which goes by the order: "W-209's equality leaves it out" (W-210)
pub record Heard : Type 0 where
  pub outcome : ℕ
  pub offset : ℕ
  pub reply : List ℕ

abbrev pub heard : Answer → Heard
heard a = record { outcome = a.outcome; offset = a.offset; reply = a.reply }

-- ---- a list of calls: the book afterwards, and what callers are told
unfoldable pub run_by : Order → Book → List Call → Book
run_by o b [] = b
run_by o b (c ∷ cs) = run_by o (serve_by o b c).book cs

unfoldable pub told_by : Order → Book → List Call → List Heard
told_by o b [] = []
told_by o b (c ∷ cs) = heard (serve_by o b c) ∷ told_by o (serve_by o b c).book cs
