-- Statement: the OFFER rule, and that an offer is held (document 02, W-205). The buyer's sentences are quoted beside what says them; what a call's book, tenant, period and scope are is said
-- in Statement.antt of `guarantee`.
use Rattle.std.specs.Prelude.{ℕ, ◌+◌, ◌-◌, ◌≤◌, ◌<◌, min, ◌≡◌, false, List, get_or, set}
use Rattle.lists.specs.All.{All}
use Rattle.message.specs.Read.{read_of}
use Rattle.message.specs.Values.{fields_of}
use Rattle.reply.specs.declared.Terms.{Terms}
use Rattle.reply.specs.Reply.{least_room, lease_ack_of, offer_of}
use Rattle.reply.specs.Ranges.{addresses_in}
use Rattle.state.specs.declared.Lease.{Lease}
use Rattle.state.specs.declared.State.{State}
use Rattle.state.specs.Book.{Book, hold_time, id_of, insert_of, laid_releases, lapsing_at, leases_of, put_releases}
use Rattle.state.specs.Edit.{forget_of}
use Rattle.state.specs.Board.{board_of}
use Rattle.proposal.specs.Proposals.{turned}
use Rattle.admission.specs.Tests.{error2_of, lease_id_in, own_of, recorded_of, resends}
use Rattle.server.specs.Serve.{Answer, Call, head_of, serve_of, tenant_of}
use Rattle.guarantee.specs.Statement.{run, SoundBook, state_at, table_at, tenant_for, own_for, releases_for, says_of, record_for, NoHold, scope_for, end_for, lease_of_type, terms_for}

-- ---- what an OFFER leaves
-- the hold that an OFFER leaves: "addresses and period as a lease has them, lapsing when the clock reaches thirty seconds after it, or the period's end if that is
-- sooner", with "type 1 and its DISCOVER's transaction id" (document 02, W-205)
abbrev pub hold_for : Book → Call → Lease
hold_for b c = lapsing_at (min ((state_at b c).clock + hold_time) (end_for b c)) (lease_of_type 1 b c)

-- ---- the OFFER rule: a DISCOVER "without option 2 draws an OFFER exactly if the same message sent as a REQUEST would get a new grant now, with
-- that period and those ranges"; document 02, W-205: "its OFFER rule is for identifiers without a hold"
-- a DISCOVER without option 2
pub record Discovers (c : Call) : Type 0 where
  pub type : get_or c.datagram 1 0 ≡ 1
  pub alone : get_or (read_of c.datagram).message.places 2 0 ≡ 0

-- "the same message sent as a REQUEST": the datagram with its type octet set to 3
abbrev pub as_request : List ℕ → List ℕ
as_request d = set d 1 3

abbrev pub requested : Call → Call
requested c = record { datagram = as_request c.datagram; client = c.client; time = c.time; room = c.room }

-- "draws an OFFER"
pub record Offered (a : Answer) : Type 0 where
  pub outcome : a.outcome ≡ 0
  pub type : get_or a.reply 1 0 ≡ 2

-- "would get a new grant now": an ACK, and it is no Resend
pub record NewlyGranted (b : Book) (c : Call) (a : Answer) : Type 0 where
  pub outcome : a.outcome ≡ 0
  pub type : get_or a.reply 1 0 ≡ 5
  pub new : resends (says_of b c) (record_for b c) ≡ false

-- of the answers to a DISCOVER and to the same message sent as a REQUEST
pub record OfferedAs (b : Book) (c : Call) (discover request : Answer) : Type 0 where
  -- "exactly if"
  pub offers : NewlyGranted b (requested c) request → Offered discover
  pub only : Offered discover → NewlyGranted b (requested c) request
  -- "with that period and those ranges": the ACK's octets, but for the type
  pub same : Offered discover → discover.reply ≡ set request.reply 1 2

unfoldable pub OfferRule : Type 0
OfferRule = (b : Book) (c : Call) → Discovers c → NoHold b c → OfferedAs b c (serve_of b c) (serve_of b (requested c))

-- ---- the offer is held (document 02, W-205)
-- the hold that the OFFER to d left, or that it repeated: the record of d's identifier afterwards
abbrev pub hold_left : Book → Call → Lease
hold_left b d = recorded_of (own_of (serve_of b d).book.table (tenant_for b d)) (says_of b d)

-- "An OFFER now leaves a hold" among the tenant's records, which "forgets its identifier's release"; nothing else changes
pub record LeavesHold (b : Book) (c : Call) (a : Answer) : Type 0 where
  -- what is offered is what is held
  pub reply : a.reply ≡ offer_of (head_of (state_at b c) (says_of b c)) (terms_for b c)
  pub left : hold_left b c ≡ hold_for b c
  pub state : a.book.state ≡ state_at b c
  pub others : (g : ℕ) → (g ≡ tenant_for b c → ⊥) → own_of a.book.table g ≡ own_of (table_at b c) g
  pub own : own_of a.book.table (tenant_for b c) ≡ insert_of (hold_for b c) (own_for b c)
  pub forgets : a.book.memory.releases ≡ (put_releases b.memory (tenant_for b c) (laid_releases (forget_of (id_of (hold_for b c)) (releases_for b c)))).releases
  pub board : a.book.memory.board ≡ board_of (leases_of a.book.table)

unfoldable pub OfferHolds : Type 0
OfferHolds = (b : Book) (c : Call) → SoundBook b → Discovers c → NoHold b c → Offered (serve_of b c) → LeavesHold b c (serve_of b c)

-- taken up at once, it is as if the REQUEST alone had been sent: the same answer and the same book. Not the count of records that were read for it (W-210): the hold
-- is found where without it every record is compared
pub record AnswersAlike (x y : Answer) : Type 0 where
  pub outcome : x.outcome ≡ y.outcome
  pub offset : x.offset ≡ y.offset
  pub reply : x.reply ≡ y.reply
  pub book : x.book ≡ y.book

unfoldable pub OfferTaken : Type 0
OfferTaken = (b : Book) (c : Call) → SoundBook b → Discovers c → NoHold b c → Offered (serve_of b c) → AnswersAlike (serve_of (serve_of b c).book (requested c)) (serve_of b (requested c))

-- a call that is not about tenant h's identifier i: by another house, or for another identifier. Calls leave the settings s as they are
unfoldable pub Elsewhere : State → ℕ → List ℕ → Call → Type 0
Elsewhere s h i c = tenant_of s c.client ≡ h → lease_id_in (fields_of c.datagram s.server (read_of c.datagram).message) ≡ i → ⊥

-- r, on a book w: the same message as a REQUEST, by the same house, before the hold lapses
pub record TakesUp (b : Book) (d : Call) (w : Book) (r : Call) : Type 0 where
  pub message : r.datagram ≡ as_request d.datagram
  pub house : tenant_for w r ≡ tenant_for b d
  pub room : least_room ≤ r.room
  -- the hold is live: of a new one the lapse is thirty seconds after the OFFER, or the period's end if that is sooner (`LeavesHold`)
  pub soon : (state_at w r).clock < (hold_left b d).lapse
  -- its Current Time, where it names one, is not too far from the clock by now: not error 2
  pub current : error2_of (state_at w r) (says_of w r) ≡ false

-- what the ACK says: the held period and addresses
abbrev pub held_terms : Book → Call → Book → Call → Terms
held_terms b d w r = record {
  length = (hold_left b d).end - (hold_left b d).start;
  start = (hold_left b d).start;
  scope = (scope_for b d).lowest;
  addresses = (hold_left b d).addresses;
  clock = (state_at w r).clock;
}

pub record GrantedAsOffered (b : Book) (d : Call) (w : Book) (r : Call) (offer a : Answer) : Type 0 where
  pub outcome : a.outcome ≡ 0
  pub reply : a.reply ≡ lease_ack_of (head_of (state_at w r) (says_of w r)) (held_terms b d w r)
  -- just the addresses offered, as the Ranges of both replies name them
  pub names : addresses_in a.reply ≡ addresses_in offer.reply
  -- and the lease is recorded with them
  pub lease : recorded_of (own_of a.book.table (tenant_for b d)) (says_of b d) ≡ turned (says_of w r) (hold_left b d)

-- "Presentation gets an OFFER, asks the editor, and finds the addresses gone" no more: whatever others sent since the OFFER, and the house itself for other
-- identifiers, at whatever times. A DISCOVER sent again meanwhile repeats the offer: take d to be the last
unfoldable pub OfferHeld : Type 0
OfferHeld =
    (b : Book) → SoundBook b → (d : Call) → Discovers d → Offered (serve_of b d)
    → (cs : List Call) → All (Elsewhere b.state (tenant_for b d) (lease_id_in (says_of b d))) cs
    → (r : Call) → TakesUp b d (run (serve_of b d).book cs) r
    → GrantedAsOffered b d (run (serve_of b d).book cs) r (serve_of b d) (serve_of (run (serve_of b d).book cs) r)
