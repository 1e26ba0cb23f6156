-- Statement: nobody could have given more (document 02, W-214). The buyer's sentences are quoted beside what says them; what a call's book, tenant, period and
-- scope are is said in Statement.antt of `guarantee`. A house is a tenant here, counted from 0, and a set of addresses is the set of their offsets in the scope.
use Rattle.std.specs.Prelude.{ℕ, ◌+◌, ◌≤◌, ◌<◌, ◌≡◌, true, false, length}
use Rattle.lists.specs.Pick.{pick}
use Rattle.address_set.specs.AddressSet.{difference_of, offsets}
use Rattle.message.specs.Read.{read_of}
use Rattle.reply.specs.Reply.{least_room, nak_of}
use Rattle.state.specs.declared.Lease.{Lease}
use Rattle.state.specs.Book.{Book, lease_with, leases_of}
use Rattle.state.specs.Edit.{dropping_first, edited_book, entering, no_edit}
use Rattle.releases.specs.Whole.{book_b}
use Rattle.soundness.specs.Sound.{tenants_in}
use Rattle.allocation.specs.declared.Grant.{Grant}
use Rattle.allocation.specs.Rule.{grant_of, held_by}
use Rattle.proposal.specs.Proposals.{default_lease, horizon, length_of, meets, latest_end}
use Rattle.admission.specs.Tests.{drops_hold, error1_of, error2_of, is_for_hold, own_of, resends}
use Rattle.server.specs.Serve.{Answer, Call, head_of, serve_of}
use Rattle.guarantee.specs.Statement.{SoundBook, ask_for, book_at, end_for, found_for, place_for, record_for, says_of, scope_for, start_for, state_at, tenant_for}

-- ---- "the sound book it brings to the grant rule": the clock raised, ended leases and lapsed holds dropped, and without the identifier's hold in another scope:
-- "a REQUEST for another scope first drops the hold" (W-205)
abbrev pub brought_for : Book → Call → Book
brought_for b c = pick (drops_hold (says_of b c) (found_for b c)) (edited_book (dropping_first (record_for b c) no_edit) (tenant_for b c) (book_at b c)) (book_at b c)

-- "the grant" of the rule on that book, its number and its addresses
abbrev pub rule_for : Book → Call → Grant
rule_for b c = grant_of (scope_for b c) (tenants_in (state_at b c)) (leases_of (brought_for b c).table) (ask_for b c)

-- ---- "any REQUEST" that brings its book there: past discards 1 to 7, Resend, errors 1 and 2, and what error 0 tests before the rule
pub record AsksRule (b : Book) (c : Call) : Type 0 where
  pub room : least_room ≤ c.room
  pub house : tenant_for b c < tenants_in (state_at b c)
  pub read : (read_of c.datagram).discard ≡ 0
  pub request : (says_of b c).kind ≡ 3
  pub ours : (says_of b c).ours ≡ true
  pub new : resends (says_of b c) (record_for b c) ≡ false
  pub error1 : error1_of (state_at b c) (says_of b c) (found_for b c) ≡ false
  pub error2 : error2_of (state_at b c) (says_of b c) ≡ false
  -- a REQUEST for a hold in the same scope gets what is held, and never comes to the rule
  pub elsewhere : is_for_hold (state_at b c) (says_of b c) (found_for b c) ≡ false
  -- its period is "inside the horizon and the 32-bit clock", its "minimum and latest start can be met", and "a lease record of its house's own" is left
  pub soon : start_for b c ≤ (state_at b c).clock + horizon
  pub fits : end_for b c ≤ latest_end
  pub met : meets (says_of b c) (start_for b c) (length_of (says_of b c) default_lease) ≡ true
  pub left : length (own_of (brought_for b c).table (tenant_for b c)) < 16

-- ---- "choice of addresses": any set of them
-- "recorded as a grant is": a lease of the REQUEST's identifier, scope and period, with type 3 and its transaction id
abbrev pub lease_on : Book → Call → ℕ → Lease
lease_on b c m = lease_with (place_for b c + 1) (says_of b c).id.len (says_of b c).id.octets 3 (says_of b c).xid (start_for b c) (end_for b c) m

-- "and with every other lease and hold unmoved": it enters the book as a grant does (`entering`), its release forgotten and the board's entries altered
abbrev pub book_with : Book → Call → ℕ → Book
book_with b c m = edited_book (entering (lease_on b c m)) (tenant_for b c) (brought_for b c)

abbrev pub size_of : ℕ → ℕ
size_of m = length (offsets m)

-- "new addresses": those that no live lease or hold of the house has
abbrev pub new_in : Book → Call → ℕ → ℕ
new_in b c m = size_of (difference_of m (held_by (leases_of (brought_for b c).table) (ask_for b c)))

pub record Choice (b : Book) (c : Call) (m : ℕ) : Type 0 where
  -- "up to the desired number"
  pub desired : size_of m ≤ (says_of b c).counts.desired
  -- "that leaves the book sound": the book's own soundness, test 1 of every call, which keeps the addresses in the scope too
  pub sound : book_b (book_with b c m) ≡ true

-- ---- the theorem, of the answer to the call
pub record Best (b : Book) (c : Call) (a : Answer) : Type 0 where
  -- "no choice of addresses .. has more addresses than the grant"
  pub none_more : (m : ℕ) → Choice b c m → size_of m ≤ (rule_for b c).number
  -- "and that no such choice of as many takes fewer new addresses"
  pub none_fewer_new : (m : ℕ) → Choice b c m → size_of m ≡ (rule_for b c).number → new_in b c (rule_for b c).addresses ≤ new_in b c m
  -- "Where the grant rule gives error 0, no such choice has from least to desired"
  pub none_enough : a.reply ≡ nak_of (head_of (state_at b c) (says_of b c)) 0 → (m : ℕ) → Choice b c m → (says_of b c).counts.least ≤ size_of m → ⊥
  -- and the grant is what the call gives where it is not below least: so many addresses, recorded
  pub exact : (says_of b c).counts.least ≤ (rule_for b c).number → size_of (rule_for b c).addresses ≡ (rule_for b c).number
  pub given : (says_of b c).counts.least ≤ (rule_for b c).number → a.book ≡ book_with b c (rule_for b c).addresses

unfoldable pub NobodyMore : Type 0
NobodyMore = (b : Book) → SoundBook b → (c : Call) → AsksRule b c → Best b c (serve_of b c)
