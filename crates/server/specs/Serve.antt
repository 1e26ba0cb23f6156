-- Definitions: a server call (document 01, "Outcomes, tested in this order" and "Replies"): a datagram, the client's address, the time, a book and the
-- length of the lent reply room give an outcome, a reply's octets and the book afterwards.
use Rattle.std.specs.Prelude.{ℕ, ◌-◌, Bool, not, ◌&&◌, List, [], ◌∷◌, ◌++◌, ◌≡◌, ltb, leb, eqb, length, drop}
use Rattle.lists.specs.Pick.{pick}
use Rattle.lists.specs.Place.{place_by}
use Rattle.message.specs.declared.Fields.{Fields}
use Rattle.message.specs.declared.Reading.{Reading}
use Rattle.message.specs.Read.{read_of}
use Rattle.message.specs.Values.{fields_of}
use Rattle.reply.specs.declared.Head.{Head}
use Rattle.reply.specs.declared.Terms.{Terms}
use Rattle.reply.specs.declared.Info.{Info}
use Rattle.reply.specs.declared.ScopeEntry.{ScopeEntry}
use Rattle.reply.specs.Reply.{least_room, offer_of, lease_ack_of, release_ack_of, info_ack_of, nak_of}
use Rattle.state.specs.declared.ClientRange.{ClientRange}
use Rattle.state.specs.declared.LeaseTable.{LeaseTable}
use Rattle.state.specs.declared.Memory.{Memory}
use Rattle.state.specs.declared.Scope.{Scope}
use Rattle.state.specs.declared.State.{State}
use Rattle.state.specs.Book.{Book, advanced, ranges_of, releases_at, remembered, scope_at}
use Rattle.state.specs.Edit.{edited_book}
use Rattle.releases.specs.Whole.{book_b}
use Rattle.soundness.specs.Sound.{tenants_in}
use Rattle.decision.specs.declared.Decided.{Decided}
use Rattle.decision.specs.declared.Reply.{Reply}
use Rattle.decision.specs.declared.Reply.TheVariants.{Nothing, Offer, LeaseAck, ReleaseAck, InfoAck, Nak}
use Rattle.decision.specs.declared.Verdict.{Verdict}
use Rattle.admission.specs.Tests.{own_of}
use Rattle.decision.specs.Decide.{decide_of}
use Rattle.decision.specs.Count.{count_of}
use Rattle.server.specs.declared.Outcome.{Outcome}

pub record Call : Type 0 where
  pub datagram : List ℕ
  pub client : ℕ
  pub time : ℕ
  pub room : ℕ

-- outcome 0 is a reply; a discard has no octets. "Discard 5 carries" the offset that the reader of options reports, "every other outcome 0" (document 02, W-206).
-- "A datagram's count, returned with its outcome" (W-210): how many of the house's records its lookups compared
pub record Answer : Type 0 where
  pub outcome : ℕ
  pub offset : ℕ
  pub count : ℕ
  pub reply : List ℕ
  pub book : Book

-- what of it the caller is told: the outcome's number, the offset and the count that go with it, and the reply's octets
pub record Said : Type 0 where
  pub outcome : ℕ
  pub offset : ℕ
  pub count : ℕ
  pub reply : List ℕ

-- the book of a state, a table, what is remembered and the names that are lent with them
abbrev pub book_of : State → LeaseTable → Memory → List ℕ → Book
book_of s t m names = record { state = s; table = t; memory = m; names = names }

-- a discard that carries an offset, and one that carries 0. These are discards 1 to 7: they come before any lookup
abbrev pub discarded_at : ℕ → ℕ → Book → Answer
discarded_at n offset b = record { outcome = n; offset = offset; count = 0; reply = []; book = b }

abbrev pub discarded : ℕ → Book → Answer
discarded n b = discarded_at n 0 b

-- ---- the reply that a verdict asks for
abbrev pub head_of : State → Fields → Head
head_of s m = record { xid = m.xid; server = s.server; id = m.id; features = m.features }

abbrev pub terms_of : State → Verdict → Terms
terms_of s v = record { length = v.end - v.start; start = v.start; scope = (scope_at s (v.scope - 1)).lowest; addresses = v.addresses; clock = s.clock }

abbrev pub entry_of : Scope → ScopeEntry
entry_of c = record { lowest = c.lowest; size = c.size; ttl = c.ttl }

-- to tenant h, counted from 0; its names go by the language that option 8 asks for
abbrev pub info_of : State → ℕ → Fields → Info
info_of s h m = record {
  scopes = entry_of (scope_at s 0) ∷ entry_of (scope_at s 1) ∷ entry_of (scope_at s 2) ∷ entry_of (scope_at s 3) ∷ [];
  count = s.scope_count;
  list_asked = m.list_asked;
  clock = s.clock;
  time_asked = m.time_asked;
  tenants = s.tenant_count;
  tenant = h;
  language = m.language;
}

-- with the names that are lent, to tenant h
abbrev pub by_reply : State → List ℕ → ℕ → Fields → Verdict → Reply → List ℕ
by_reply s names h m v Nothing = []
by_reply s names h m v Offer = offer_of (head_of s m) (terms_of s v)
by_reply s names h m v LeaseAck = lease_ack_of (head_of s m) (terms_of s v)
by_reply s names h m v ReleaseAck = release_ack_of (head_of s m)
by_reply s names h m v InfoAck = info_ack_of (head_of s m) (info_of s h m) names
by_reply s names h m v Nak = nak_of (head_of s m) v.error

unfoldable pub reply_of : State → List ℕ → ℕ → Fields → Verdict → List ℕ
reply_of s names h m v = by_reply s names h m v v.reply

-- ---- the tests
-- the count of tenant h's message: by its leases and by what is remembered of it, as the decision
abbrev pub count_for : Book → ℕ → Fields → ℕ
count_for b h m = count_of b.state (own_of b.table h) (remembered (releases_at b.memory h)) m

-- the reply that the verdict asks for, and the book with what the tenant has edited
abbrev pub answered : Book → ℕ → Fields → Decided → Answer
answered b h m d = record {
  outcome = d.verdict.outcome;
  offset = 0;
  count = count_for b h m;
  reply = reply_of b.state b.names h m d.verdict;
  book = edited_book d.edit h b;
}

-- the decision on tenant h's message: by its leases and by what is remembered of it
abbrev pub decided_for : Book → ℕ → Fields → Decided
decided_for b h m = decide_of b.state b.table (remembered (releases_at b.memory h)) h m

-- test 7: "REQUEST with a Server Identifier other than the six octets of family 1 and our address"; then the decision
unfoldable pub for_server : Book → ℕ → Fields → Answer
for_server b h m =
    pick (eqb m.kind 3 && not m.ours) (discarded 7 b)
    (answered b h m (decided_for b h m))

-- tests 4, 5 and 6, by the reader, whose offset is 0 with 4 and 6
unfoldable pub with_reading : Book → ℕ → List ℕ → Reading → Answer
with_reading b h s r = pick (eqb r.discard 0) (for_server b h (fields_of s b.state.server r.message)) (discarded_at r.discard r.fault b)

-- both ends of a client range belong to it
unfoldable pub has_client : ℕ → ClientRange → Bool
has_client a r = leb r.low a && leb a r.high

-- the tenant of a client's address; their number where it has none
unfoldable pub tenant_of : State → ℕ → ℕ
tenant_of s a = place_by (has_client a) (ranges_of s)

-- test 3: "client address in no house"
unfoldable pub at_clock : Book → ℕ → List ℕ → Answer
at_clock b client s =
    pick (ltb (tenant_of b.state client) (tenants_in b.state)) (with_reading b (tenant_of b.state client) s (read_of s)) (discarded 3 b)

-- test 1: "book unsound", for its names, its releases and its board too (document 02, W-201, W-202 and W-207). Tests 1 and 2 change nothing; "all other calls first set the book's clock .. and drop leases that end at or before it", and lapsed holds (W-205)
unfoldable pub serve_of : Book → Call → Answer
serve_of b c =
    pick (book_b b)
    (pick (ltb c.room least_room) (discarded 2 b) (at_clock (advanced b c.time) c.client c.datagram))
    (discarded 1 b)

-- ---- what a function promises
-- what the caller is told: the outcome, its offset, the count, the reply's length, and every octet of the reply buffer
pub record Tells (a : Said) (before after : List ℕ) (r : Outcome) : Type 0 where
  pub outcome : r.outcome ≡ a.outcome
  pub offset : r.offset ≡ a.offset
  pub count : r.count ≡ a.count
  pub size : r.length ≡ length a.reply
  pub buffer : after ≡ a.reply ++ drop (length a.reply) before
