-- Laws: a board has 544 octets; one for each loop that writes the elements of an array, each in as many octets; and the octets of an entry and of a scope.
use Rattle.std.specs.Prelude.{List, [], ◌++◌, ◌∷◌, ◌≡◌, refl, ◌*◌, ◌+◌, ◌-◌, ◌<◌, ◌≤◌, suc, ℕ, get_or, length, take}
use Rattle.std.proofs.Common.{◌∙◌, ap, sym, suc-mul, zero-mul, arith, length-append, take_all}
use Rattle.format.specs.Format.{write_all}
use Rattle.format.specs.laws.Rows.{row_all, row_more}
use Rattle.lists.specs.All.{All}
use Rattle.lists.specs.laws.All.{all_any}
use Rattle.lists.specs.laws.Part.{unmapped}
use Rattle.octets.specs.Octets.{Wrote}
use Rattle.octets.specs.laws.Octets.{wrote_as, wrote_joined, wrote_none}
use Rattle.occupancy.specs.Board.{no_entry, no_scope_board}
use Rattle.occupancy.specs.declared.Board.{Board}
use Rattle.occupancy.specs.declared.Entry.{Entry}
use Rattle.occupancy.specs.declared.ScopeBoard.{ScopeBoard}
use Rattle.occupancy_octets.specs.Octets.{ScopeLong, board_octets, board_size, entry_octets, scope_board_octets}

-- ---- how many octets
-- values of so many octets each
write_each : {A : Type 0} (w : A → List ℕ) (P : A → Type 0) (k : ℕ) → ((x : A) → P x → length (w x) ≡ k) → (l : List A) → All P l → length (write_all w l) ≡ length l * k
unfolding write_all All
write_each w P k f [] h = let z = zero-mul k in omega arith
write_each w P k f (x ∷ l) h =
    let ih = write_each w P k f l h.1 in
    let a = length-append (w x) (write_all w l) in
    let b = f x h.0 in
    let c = suc-mul (length l) k in
    omega arith

entry_size : (e : Entry) → length (entry_octets e) ≡ 2
unfolding entry_octets
entry_size e = refl

pub entries_size : (v : ScopeBoard) → length v.entries ≡ 64 → length (write_all entry_octets v.entries) ≡ 128
entries_size v e =
    write_each entry_octets (λ _. Unit {0}) 2 (λ x h. entry_size x) v.entries (all_any (λ (_ : Entry). Unit {0}) (λ x. tt) v.entries)
    ∙ ap (λ (n : ℕ). n * 2) e

scope_size : (v : ScopeBoard) → ScopeLong v → length (scope_board_octets v) ≡ 136
unfolding scope_board_octets
scope_size v h =
    let a = length-append (write_all entry_octets v.entries) v.held in
    let b = entries_size v h.entries in
    let c = h.held in
    omega arith

pub board_size_law : (b : Board) → length b.scopes ≡ 4 → All ScopeLong b.scopes → length (board_octets b) ≡ board_size
unfolding board_octets
board_size_law b e h = write_each scope_board_octets ScopeLong 136 scope_size b.scopes h ∙ ap (λ (n : ℕ). n * 136) e

-- ---- a row of m elements with k octets each, of which i are written
pub record EvenInv {A : Type 0} (w : A → List ℕ) (k : ℕ) (l : List A) (m : ℕ) (r₀ : List ℕ) (at : ℕ) (room : List ℕ) (to i : ℕ) : Type 0 where
  pub many : length l ≡ m
  pub within : i ≤ m
  pub kept : length room ≡ length r₀
  pub first : at ≤ length r₀
  pub fits : to + (m - i) * k ≤ length room
  pub wrote : Wrote r₀ at (write_all w (take i l)) room to

pub even_start : {A : Type 0} {w : A → List ℕ} {k : ℕ} {l : List A} {m : ℕ} {r₀ : List ℕ} {at : ℕ} → length l ≡ m → at + m * k ≤ length r₀ → EvenInv w k l m r₀ at r₀ at 0
unfolding write_all
even_start {k = k} {m = m} {r₀ = r₀} {at = at} e h =
    let z : (m - 0) * k ≡ m * k = ap (λ (n : ℕ). n * k) (let e : m - 0 ≡ m = omega arith in e) in
    record { many = e; within = omega arith; kept = refl; first = omega arith; fits = omega arith; wrote = wrote_none r₀ at }

module _ {A : Type 0} {w : A → List ℕ} {k : ℕ} {l : List A} {m : ℕ} {r₀ : List ℕ} {at : ℕ} {room : List ℕ} {to i : ℕ} (v : EvenInv w k l m r₀ at room to i) where
  left : i < m → (m - i) * k ≡ (m - (i + 1)) * k + k
  left h = ap (λ (n : ℕ). n * k) (let e : m - i ≡ suc (m - (i + 1)) = omega arith in e) ∙ suc-mul (m - (i + 1)) k

  pub even_room : i < m → to + k ≤ length room
  even_room h = let e = left h in omega (arith, v.fits)

  pub even_next : (d : A) {r₁ : List ℕ} {n : ℕ} → i < m → Wrote room to (w (get_or l i d)) r₁ n → n ≡ to + k → length r₁ ≡ length room → EvenInv w k l m r₀ at r₁ n (i + 1)
  even_next d {r₁} {n} h p g q = record {
    many = v.many;
    within = omega arith;
    kept = q ∙ v.kept;
    first = v.first;
    fits = let e = left h in omega (arith, v.fits);
    wrote =
        wrote_as
        (ap (λ (x : List ℕ). x ++ w (get_or l i d)) (sym (row_all w 0 (take i l)))
        ∙ sym (row_more (λ _ x. w x) d i l (omega (arith, v.many)))
        ∙ row_all w 0 (take (i + 1) l))
        (wrote_joined v.first v.wrote p);
  }

  pub even_end : m ≤ i → Wrote r₀ at (write_all w l) room to
  even_end h = wrote_as (ap (write_all w) (take_all i l (omega (arith, v.many)))) v.wrote

-- ---- an entry, the entries, a scope, all scopes
pub entry_wrote : {r₀ r₁ r₂ : List ℕ} {at a b : ℕ} (e : Entry) → at ≤ length r₀ → Wrote r₀ at (e.owner ∷ []) r₁ a → Wrote r₁ a (e.count ∷ []) r₂ b → Wrote r₀ at (entry_octets e) r₂ b
unfolding entry_octets
entry_wrote e h p q = wrote_joined h p q

pub entries_next : {l : List Entry} {m : ℕ} {r₀ : List ℕ} {at : ℕ} {room : List ℕ} {to i : ℕ} → EvenInv entry_octets 2 l m r₀ at room to i → {r₁ : List ℕ} {n : ℕ} → i < m → Wrote room to (entry_octets (get_or l i no_entry)) r₁ n → length r₁ ≡ length room
    → EvenInv entry_octets 2 l m r₀ at r₁ n (i + 1)
entries_next {l} {i = i} v h p q = even_next v no_entry h p (let s = entry_size (get_or l i no_entry) in omega (arith, p.next)) q

pub entries_place : (v : ScopeBoard) {r₀ : List ℕ} {at : ℕ} {room : List ℕ} {to i : ℕ} → EvenInv entry_octets 2 v.entries 64 r₀ at room to i → 64 ≤ i → to ≡ at + 128
entries_place v {to = to} e h = let w = even_end e h in let s = entries_size v e.many in omega (arith, w.next)

pub scope_wrote : {r₀ r₁ r₂ : List ℕ} {at a b : ℕ} (v : ScopeBoard) → length v.held ≡ 8 → at ≤ length r₀ → Wrote r₀ at (write_all entry_octets v.entries) r₁ a × (a ≡ at + 128) → Wrote r₁ a v.held r₂ b
    → Wrote r₀ at (scope_board_octets v) r₂ b × (b ≡ at + 136)
unfolding scope_board_octets
scope_wrote v e h p q =
    let g = p.1 in
    (wrote_joined h p.0 q, omega (arith, q.next))

pub scopes_next : {l : List ScopeBoard} {m : ℕ} {r₀ : List ℕ} {at : ℕ} {room : List ℕ} {to i : ℕ} → EvenInv scope_board_octets 136 l m r₀ at room to i → {r₁ : List ℕ} {n : ℕ} → i < m
    → Wrote room to (scope_board_octets (get_or l i no_scope_board)) r₁ n × (n ≡ to + 136) → length r₁ ≡ length room → EvenInv scope_board_octets 136 l m r₀ at r₁ n (i + 1)
scopes_next v h p q = even_next v no_scope_board h p.0 p.1 q

pub scopes_done : (b : Board) {r₀ : List ℕ} {at : ℕ} {room : List ℕ} {to i : ℕ} → EvenInv scope_board_octets 136 b.scopes 4 r₀ at room to i → 4 ≤ i → Wrote r₀ at (board_octets b) room to
unfolding board_octets
scopes_done b v h = even_end v h

pub ruleset evens = (even_start, even_room, even_end, unmapped)

pub ruleset entry_rows = (entries_next, entries_place, evens)

pub ruleset scope_rows = (scopes_next, scopes_done, evens)
