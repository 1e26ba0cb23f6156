-- Specimens: W-214's, by computation, on the book of Specimens.antt: a grant below the desired number, one of the house's own addresses first, an error 0, and a
-- REQUEST for another scope than its hold's. docs/BEST_GRANT.md tells the first three.
use Prim.Native.Nat.{ℕ, ◌+◌, ◌≤◌}
use mathlib.Core.Path.{◌≡◌, refl}
use mathlib.Core.Bool.{true, false}
use mathlib.Core.List.{List, [], ◌∷◌, ◌++◌}
use native.Mathlib.Omega.{arith}
use lib.Dec.{leb, ltb}
use lib.ListN.{length, replicate}
use borrow.Author.Tests.{leb-true, ltb-true}
use Rattle.message.specs.Read.{read_of}
use Rattle.reply.specs.Reply.{least_room, nak_of}
use Rattle.occupancy.specs.Board.{no_board}
use Rattle.state.specs.declared.Lease.{Lease}
use Rattle.state.specs.Book.{Book, laid_releases, lease_with, table_of, zero_scope}
use Rattle.state.specs.Edit.{edited_book, entering}
use Rattle.releases.specs.Whole.{book_b}
use Rattle.soundness.specs.Sound.{tenants_in}
use Rattle.proposal.specs.Proposals.{default_lease, horizon, length_of, meets, latest_end}
use Rattle.admission.specs.Tests.{error1_of, error2_of, is_for_hold, own_of, resends}
use Rattle.server.specs.Serve.{Call, head_of, serve_of}
use Rattle.guarantee.specs.Statement.{SoundBook, end_for, place_for, record_for, run, says_of, start_for, state_at, tenant_for, found_for}
use Rattle.best_grant.specs.Best.{AsksRule, Choice, NobodyMore, book_with, brought_for, size_of, new_in, rule_for}
use Rattle.best_grant.proofs.Best.{nobody_more}
use Rattle.guarantee.proofs.Kept.{run_sound}
use Rattle.guarantee_specimens.proofs.Opened.{computed}
use Rattle.guarantee_specimens.proofs.Specimens.{book, discover_as, end, header, house1, identifier, option, request, seconds, sound}

-- house 1, whose share is 2 and whose limit 3, takes.0 from 1000 to 2000
abbrev pub one : Call
one = house1 1000 (request 3 0x42 1 1 (option 1 (seconds 0x03 0xE8)))

abbrev pub now : Book
now = run book (one ∷ [])

-- and asks for more addresses, from 2000 on
abbrev pub later : ℕ → ℕ → Call
later least desired = house1 1000 (request 5 0x43 least desired (option 6 (seconds 0x07 0xD0) ++ option 11 (seconds 0x03 0xE8)))

-- the grant's number, its set of offsets, and how many of these are new
abbrev numbers : Book → Call → List ℕ
numbers b c = (rule_for b c).number ∷ (rule_for b c).addresses ∷ new_in b c (rule_for b c).addresses ∷ []

-- from 1 to 4: the grant is 3, which is .0, .1 and .2, the set 7, two of them new. From 1 to 2: .0 and .1, the set 3, one of them new. From 4 to 4: still 3
granted : (numbers now (later 1 4) ≡ 3 ∷ 7 ∷ 2 ∷ []) × (numbers now (later 1 2) ≡ 2 ∷ 3 ∷ 1 ∷ []) × (numbers now (later 4 4) ≡ 3 ∷ 7 ∷ 2 ∷ [])
unfolding computed
granted = (refl, refl, refl)

-- a REQUEST comes to the rule by thirteen tests, each of which computes
asked : (b : Book) (c : Call) → leb least_room c.room ≡ true → ltb (tenant_for b c) (tenants_in (state_at b c)) ≡ true → (read_of c.datagram).discard ≡ 0
    → (says_of b c).kind ≡ 3 → (says_of b c).ours ≡ true → resends (says_of b c) (record_for b c) ≡ false
    → error1_of (state_at b c) (says_of b c) (found_for b c) ≡ false → error2_of (state_at b c) (says_of b c) ≡ false
    → is_for_hold (state_at b c) (says_of b c) (found_for b c) ≡ false
    → leb (start_for b c) ((state_at b c).clock + horizon) ≡ true → leb (end_for b c) latest_end ≡ true → meets (says_of b c) (start_for b c) (length_of (says_of b c) default_lease) ≡ true
    → ltb (length (own_of (brought_for b c).table (tenant_for b c))) 16 ≡ true → AsksRule b c
asked b c room house read request ours new error1 error2 elsewhere soon fits met left = record {
  room = leb-true _ _ room;
  house = ltb-true _ _ house;
  read = read;
  request = request;
  ours = ours;
  new = new;
  error1 = error1;
  error2 = error2;
  elsewhere = elsewhere;
  soon = leb-true _ _ soon;
  fits = leb-true _ _ fits;
  met = met;
  left = ltb-true _ _ left;
}

now_sound : SoundBook now
now_sound = run_sound book (one ∷ []) sound

-- ---- the grant is below the desired number, and the premises are met: no choice has four, as that of .0 to .2 has not
pub asks : AsksRule now (later 1 4)
unfolding computed
asks = asked now (later 1 4) refl refl refl refl refl refl refl refl refl refl refl refl refl

choice : Choice now (later 1 4) 7
unfolding computed
choice = record { desired = leb-true _ _ refl; sound = refl }

pub most : size_of 7 ≤ (rule_for now (later 1 4)).number
unfolding NobodyMore
most = (nobody_more now now_sound (later 1 4) asks).none_more 7 choice

-- all four would be more than house 1's limit, and .1 to .3 with .0, which it has, too: the book is not sound with them
too_many : (book_b (book_with now (later 1 4) 15) ≡ false) × (book_b (book_with now (later 1 4) 14) ≡ false)
unfolding computed
too_many = (refl, refl)

-- ---- of as many: .1 and .2 leave the book sound too, but both are new
asks_two : AsksRule now (later 1 2)
unfolding computed
asks_two = asked now (later 1 2) refl refl refl refl refl refl refl refl refl refl refl refl refl

others : Choice now (later 1 2) 6
unfolding computed
others = record { desired = leb-true _ _ refl; sound = refl }

pub fewest : (new_in now (later 1 2) (rule_for now (later 1 2)).addresses ≤ new_in now (later 1 2) 6) × (new_in now (later 1 2) 6 ≡ 2)
unfolding NobodyMore computed
fewest = ((nobody_more now now_sound (later 1 2) asks_two).none_fewer_new 6 others refl, refl)

-- ---- error 0: four and no fewer are asked for, three could be had
asks_four : AsksRule now (later 4 4)
unfolding computed
asks_four = asked now (later 4 4) refl refl refl refl refl refl refl refl refl refl refl refl refl

refused : (serve_of now (later 4 4)).reply ≡ nak_of (head_of (state_at now (later 4 4)) (says_of now (later 4 4))) 0
unfolding computed
refused = refl

three : Choice now (later 4 4) 7
unfolding computed
three = record { desired = leb-true _ _ refl; sound = refl }

pub none : (m : ℕ) → Choice now (later 4 4) m → 4 ≤ size_of m → ⊥
unfolding NobodyMore computed
none = (nobody_more now now_sound (later 4 4) asks_four).none_enough refused

-- ---- a hold in another scope: 239.193.0.0 has two addresses, no shares and limits of 2. House 1 is offered.0 to .2 of the first scope, and asks for three of
-- the second for the same identifier: its hold is dropped, and both are granted
abbrev wide : Book
wide = record {
  state = record {
    server = book.state.server;
    clock = 1000;
    tenant_count = 2;
    tenants = book.state.tenants;
    scope_count = 2;
    scopes =
        record { lowest = 0xEFC00000; size = 4; ttl = 15; reserve = 2 ∷ 1 ∷ replicate 6 0; limit = 3 ∷ 4 ∷ replicate 6 0 }
        ∷ record { lowest = 0xEFC10000; size = 2; ttl = 15; reserve = replicate 8 0; limit = 2 ∷ 2 ∷ replicate 6 0 }
        ∷ replicate 2 zero_scope;
  };
  table = table_of (replicate 8 []);
  memory = record { releases = replicate 8 (laid_releases []); board = no_board };
  names = 2 ∷ replicate 6 0;
}

abbrev held : Book
held = run wide (house1 1000 (discover_as 3 0x42 2 3 []) ∷ [])

abbrev across : Call
across = house1 1001 (header 3 5 ++ identifier 0x42 ++ option 4 (0xEF ∷ 0xC1 ∷ 0 ∷ 0 ∷ []) ++ option 7 (0 ∷ 1 ∷ 0 ∷ 3 ∷ []) ++ end)

wide_sound : SoundBook wide
unfolding computed
wide_sound = record { tenants = refl; memory = refl; sound = refl }

asks_across : AsksRule held across
unfolding computed
asks_across = asked held across refl refl refl refl refl refl refl refl refl refl refl refl refl

both : Choice held across 3
unfolding computed
both = record { desired = leb-true _ _ refl; sound = refl }

pub across_most : (numbers held across ≡ 2 ∷ 3 ∷ 2 ∷ []) × (size_of 3 ≤ (rule_for held across).number)
unfolding NobodyMore computed
across_most = (refl, (nobody_more held (run_sound wide (house1 1000 (discover_as 3 0x42 2 3 []) ∷ []) wide_sound) across asks_across).none_more 3 both)

-- ---- no bound can be sharpened: each of these claims, which must-fail edits put into the statement, is false
unfoldable pub Always : (Book → Call → ℕ → Type 0) → Type 0
Always P = (b : Book) → SoundBook b → (c : Call) → AsksRule b c → (m : ℕ) → P b c m

-- the grant is itself a choice, so no choice needs to have one address fewer, or one new address more
pub grant_reached : Always (λ b c m. Choice b c m → size_of m + 1 ≤ (rule_for b c).number) → ⊥
unfolding Always computed
grant_reached claim = let p : 4 ≤ 3 = claim now now_sound (later 1 4) asks 7 choice in absurd (omega arith)

pub new_reached : Always (λ b c m. Choice b c m → size_of m ≡ (rule_for b c).number → new_in b c (rule_for b c).addresses + 1 ≤ new_in b c m) → ⊥
unfolding Always computed
new_reached claim = let p : 3 ≤ 2 = claim now now_sound (later 1 4) asks 7 choice refl in absurd (omega arith)

-- one address below least can be had where the rule gives error 0
pub below_least : Always (λ b c m. (serve_of b c).reply ≡ nak_of (head_of (state_at b c) (says_of b c)) 0 → Choice b c m → (says_of b c).counts.least ≤ size_of m + 1 → ⊥) → ⊥
unfolding Always computed
below_least claim = claim now now_sound (later 4 4) asks_four 7 refused three (leb-true _ _ refl)

-- a choice of one more than is desired can have more: .0 to .2, where two are desired
pub past_desired : Always (λ b c m. size_of m ≤ (says_of b c).counts.desired + 1 → book_b (book_with b c m) ≡ true → size_of m ≤ (rule_for b c).number) → ⊥
unfolding Always computed
past_desired claim = let p : 3 ≤ 2 = claim now now_sound (later 1 2) asks_two 7 (leb-true _ _ refl) refl in absurd (omega arith)

-- and so can one that overlaps another lease in the REQUEST's period: from 1999 on, when .0 is still in use, .1 and .2 are granted, the set 6; recorded from a second
-- later, .0 to .2 leave the book sound
abbrev sooner : Call
sooner = house1 1000 (request 5 0x43 1 3 (option 6 (seconds 0x07 0xCF) ++ option 11 (seconds 0x03 0xE8)))

abbrev second_later : Book → Call → ℕ → Lease
second_later b c m = lease_with (place_for b c + 1) (says_of b c).id.len (says_of b c).id.octets 3 (says_of b c).xid (start_for b c + 1) (end_for b c) m

asks_sooner : AsksRule now sooner
unfolding computed
asks_sooner = asked now sooner refl refl refl refl refl refl refl refl refl refl refl refl refl

in_use : (numbers now sooner ≡ 2 ∷ 6 ∷ 2 ∷ []) × (book_b (book_with now sooner 7) ≡ false)
unfolding computed
in_use = (refl, refl)

pub past_overlap : Always (λ b c m. size_of m ≤ (says_of b c).counts.desired → book_b (edited_book (entering (second_later b c m)) (tenant_for b c) (brought_for b c)) ≡ true → size_of m ≤ (rule_for b c).number) → ⊥
unfolding Always computed
past_overlap claim = let p : 3 ≤ 2 = claim now now_sound sooner asks_sooner 7 (leb-true _ _ refl) refl in absurd (omega arith)
