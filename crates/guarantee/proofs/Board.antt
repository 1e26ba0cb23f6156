-- Proof of what is claimed of the occupancy board (document 02, W-207): after any list of calls it is what the leases say; so a call alters no entry whose leases
-- stay and no holding whose tenant's leases in the scope stay, and past sizes and scopes there is nothing.
use Prim.Native.Nat.{ℕ, ◌+◌, ◌≤◌, ◌<◌}
use mathlib.Core.Path.{◌≡◌, refl, sym, ap, ap₂, ◌∙◌}
use mathlib.Core.Bool.{Bool, true, false}
use mathlib.Core.List.{List, [], ◌∷◌}
use native.Mathlib.Omega.{arith}
use lib.Dec.{ltb}
use lib.Bits.{bit_or, or_zero_l}
use lib.ListN.{length, get_or, length-map}
use borrow.Author.Tests.{ltb-true, ltb-false, ne_eqb}
use Rattle.lists.specs.Pick.{pick}
use Rattle.lists.specs.All.{all_by}
use Rattle.lists.specs.Filter.{filter_by}
use Rattle.lists.specs.laws.All.{all_head}
use Rattle.address_set.specs.AddressSet.{bit, offsets}
use Rattle.address_set.specs.laws.Bits.{bit_of_zero, offsets_of_zero}
use Rattle.occupancy.specs.declared.Board.{Board}
use Rattle.occupancy.specs.Board.{entry_at, held_in, scope_board_at}
use Rattle.state.specs.declared.Lease.{Lease}
use Rattle.state.specs.declared.State.{State}
use Rattle.state.specs.Book.{Book, addresses_of, held_of, in_scope, in_use, leases_of, scope_at, union_all}
use Rattle.state.specs.Board.{board_of, is_on}
use Rattle.state.specs.laws.Sets.{adds, addresses_cons}
use Rattle.state.proofs.Unmoved.{board_entry, board_held, entry_none, entry_unmoved, held_unmoved}
use Rattle.releases.proofs.Whole.{book_board, book_sound}
use Rattle.soundness.specs.laws.Added.{each_at}
use Rattle.soundness.specs.laws.Book.{Sound, lease_ok}
use Rattle.soundness.proofs.Lists.{sound_lists}
use Rattle.soundness.specs.laws.Facts.{lease_facts}
use Rattle.allocation.specs.laws.Kept.{held_below}
use Rattle.admission.specs.Tests.{own_of}
use Rattle.decision_laws.specs.laws.Kept.{own_is}
use Rattle.server.specs.Serve.{serve_of}
use Rattle.guarantee.specs.Statement.{BoardAgrees, BoardStays, BoardZero, SoundBook, run}
use Rattle.guarantee.proofs.Kept.{call_sound, run_sound}

-- ---- after any list of calls
pub board_agrees : BoardAgrees
unfolding BoardAgrees
board_agrees b v cs = book_board (run b cs) (run_sound b cs v).sound

-- ---- one call
long : (b : Book) → SoundBook b → length (leases_of b.table) ≡ 8
long b v = length-map b.table.tenants in_use ∙ v.tenants

-- what is told of a tenant's records goes for the leases that they stand for
by_own : (u : Lease → Bool) (b w : Book) (g : ℕ) → filter_by u (own_of w.table g) ≡ filter_by u (own_of b.table g) → filter_by u (get_or (leases_of w.table) g []) ≡ filter_by u (get_or (leases_of b.table) g [])
by_own u b w g e = ap (filter_by u) (sym (own_is w.table g)) ∙ e ∙ ap (filter_by u) (own_is b.table g)

pub board_stays : BoardStays
unfolding BoardStays
board_stays b v c =
    let w : Book = (serve_of b c).book in
    let u : SoundBook w = call_sound b c v in
    let p : b.memory.board ≡ board_of (leases_of b.table) = book_board b v.sound in
    let q : w.memory.board ≡ board_of (leases_of w.table) = book_board w u.sound in
    record {
      entries = λ k x here low f.
          ap (λ (z : Board). entry_at (scope_board_at z k) x) q ∙ board_entry (leases_of w.table) k x here low
          ∙ entry_unmoved (k + 1) x (leases_of w.table) (leases_of b.table) (long w u ∙ sym (long b v)) (λ g. by_own (is_on (k + 1) x) b w g (f g))
          ∙ sym (board_entry (leases_of b.table) k x here low) ∙ sym (ap (λ (z : Board). entry_at (scope_board_at z k) x) p);
      holdings = λ k g here known f.
          let m = long w u in
          let n = long b v in
          ap (λ (z : Board). held_in (scope_board_at z k) g) q ∙ board_held (leases_of w.table) k g here (omega arith)
          ∙ held_unmoved (k + 1) (get_or (leases_of w.table) g []) (get_or (leases_of b.table) g []) (by_own (in_scope (k + 1)) b w g f)
          ∙ sym (board_held (leases_of b.table) k g here (omega arith)) ∙ sym (ap (λ (z : Board). held_in (scope_board_at z k) g) p);
    }

-- ---- past a scope's size, and past the last scope
-- no lease is in a scope past the last
none_past : (s : State) (k : ℕ) → s.scope_count ≤ k → (x : List Lease) → all_by (lease_ok s) x ≡ true → held_of (k + 1) x ≡ 0
unfolding addresses_of filter_by union_all pick
none_past s k h [] e = refl
none_past s k h (l ∷ x) e =
    let p = all_head (lease_ok s) l x e in
    let f = lease_facts s l p.0 in
    let known = f.scope_known_law in
    let z : adds (in_scope (k + 1)) l ≡ 0 = ap (λ (b : Bool). pick b l.addresses 0) (ne_eqb l.scope (k + 1) (λ q. absurd (omega arith))) in
    addresses_cons (in_scope (k + 1)) l x ∙ ap₂ bit_or z (none_past s k h x p.1) ∙ or_zero_l 0

pub board_zero : BoardZero
unfolding BoardZero
board_zero b v =
    let s : State = b.state in
    let ts : List (List Lease) = leases_of b.table in
    let sound : Sound s ts = sound_lists s b.table (book_sound b v.sound) in
    let p : b.memory.board ≡ board_of ts = book_board b v.sound in
    record {
      entries = λ k x here low past.
          ap (λ (z : Board). entry_at (scope_board_at z k) x) p ∙ board_entry ts k x here low
          ∙ entry_none (k + 1) x ts (λ g. nobody s ts sound k x here low past g (ltb k s.scope_count) refl);
      holdings = λ k g here known past.
          let n = long b v in
          ap (λ (z : Board). held_in (scope_board_at z k) g) p ∙ board_held ts k g here (omega arith)
          ∙ ap length (ap offsets (none_past s k past (get_or ts g []) (each_at s ts sound g)) ∙ offsets_of_zero 0 64);
    }
  where
    nobody : (s : State) (ts : List (List Lease)) → Sound s ts → (k x : ℕ) → k < 4 → x < 64 → (scope_at s k).size ≤ x → (g : ℕ) (t : Bool) → ltb k s.scope_count ≡ t → bit (held_of (k + 1) (get_or ts g [])) x ≡ 0
    nobody s ts sound k x here low past g true e =
        let m = ltb-true k s.scope_count e in
        held_below s k (omega arith) (get_or ts g []) (each_at s ts sound g) x low past
    nobody s ts sound k x here low past g false e =
        ap (λ (z : ℕ). bit z x) (none_past s k (ltb-false k s.scope_count e) (get_or ts g []) (each_at s ts sound g)) ∙ bit_of_zero x
