-- Laws: the board that leases say, with one lease of a tenant more or less, and with a run of them. While a tenant's leases go one after the other they are not
-- in order, so that what is known of them is that they are some of a sound book's.
use Prim.Native.Nat.{ℕ, ◌+◌, ◌≤◌, ◌<◌}
use Rattle.std.specs.Prelude.{◌≡◌, refl, Bool, true, length, get_or, set}
use Rattle.std.proofs.Common.{sym, ◌∙◌, subst, length-set, get_or-set_same, get_or-set_other, set-set, eq-eqb, eqb-true}
use Rattle.std.proofs.Math.Path.{ap}
use mathlib.Core.List.Permᴰ
use mathlib.Core.List.{List, [], ◌∷◌, ◌++◌, append_assoc}
use native.Mathlib.Omega.{arith}
use Rattle.std.specs.Int.Bits.{bit_and}
use Rattle.lists.specs.Pick.{pick}
use Rattle.lists.specs.Fold.{fold}
use Rattle.lists.specs.laws.All.{all_head}
use Rattle.lists.specs.Reordered.{Reordered}
use Rattle.lists.specs.laws.Reordered.{reordered_length, reordered_all}
use Rattle.lists.specs.laws.Some.{Part, part_all, part_length}
use Rattle.address_set.specs.AddressSet.{bit}
use Rattle.address_set.specs.laws.Bits.{bit_le, and_bit, bit_of_zero}
use Rattle.occupancy.specs.declared.Board.{Board}
use Rattle.state.specs.declared.Lease.{Lease}
use Rattle.state.specs.declared.State.{State}
use Rattle.state.specs.Book.{held_of, in_scope, board_with, board_without}
use Rattle.state.specs.Board.{board_of}
use Rattle.state.proofs.Board.{board_gained, board_lost}
use Rattle.state.specs.laws.Sets.{adds}
use Rattle.soundness.specs.Sound.{disjoint}
use Rattle.soundness.specs.laws.Book.{lease_ok, Sound}
use Rattle.soundness.specs.laws.Added.{each_at, few_at, owners_at}
use Rattle.soundness.specs.laws.Kept.{held_less}
use Rattle.soundness.specs.laws.Across.{apart_at, head_less}
use Rattle.soundness.specs.laws.Facts.{lease_facts, scopes_few}

-- ---- some of the leases
pub turned : {A : Type 0} (x y : List A) → Reordered (x ++ y) (y ++ x)
turned [] y = Permᴰ.symm (Permᴰ.append-nil y)
turned (a ∷ x) y = Permᴰ.trans (Permᴰ.cons refl (turned x y)) (Permᴰ.symm (Permᴰ.middle a y x))

-- those in front, and those behind
part_front : {A : Type 0} {w x : List A} (y e : List A) → Part w x → Reordered x (y ++ e) → Part w y
part_front {A} {w} {x} y e (z, d) r = (e ++ z, subst (λ (u : List A). Reordered w u) (append_assoc y e z) (Permᴰ.trans d (Permᴰ.append_right z r)))

part_behind : {A : Type 0} {w x : List A} (e y : List A) → Part w x → Reordered x (e ++ y) → Part w y
part_behind e y p r = part_front y e p (Permᴰ.trans r (turned e y))

-- a tenant's leases are some of those that ts has at its place
abbrev pub Within : List (List Lease) → List (List Lease) → Type 0
Within ts now = (g : ℕ) → Part (get_or ts g []) (get_or now g [])

disjoint_bits : (m n a : ℕ) → disjoint m n ≡ true → bit m a + bit n a ≤ 1
unfolding disjoint
disjoint_bits m n a e =
    let p = bit_le m a in
    let q = bit_le n a in
    let z = sym (and_bit m n a) ∙ ap (λ (k : ℕ). bit k a) (eqb-true (bit_and m n) 0 e) ∙ bit_of_zero a in
    omega arith

-- ---- one lease
module _ (s : State) (ts : List (List Lease)) (v : Sound s ts) (now : List (List Lease)) (w : Within ts now) (h : ℕ) (there : h < length now) (known : h < 8) where
  module _ (l : Lease) (x y : List Lease) (p : Part (get_or ts h []) y) (d : Reordered y (l ∷ x)) where
    ok : lease_ok s l ≡ true
    ok = (all_head (lease_ok s) l x (sym (reordered_all (lease_ok s) d) ∙ part_all (lease_ok s) (get_or ts h []) y p (each_at s ts v h))).0

    scope_some : 0 < l.scope
    scope_some = (lease_facts s l ok).scope_some

    scope_known_law : l.scope ≤ 4
    scope_known_law = let a = (lease_facts s l ok).scope_known_law in let b = scopes_few s ts v in omega arith

    at : get_or (set now h x) h [] ≡ x
    at = get_or-set_same now h x [] there

    few : length (get_or (set now h x) h []) ≤ 16
    few = let a = ap length at in let b = part_length (get_or ts h []) y p in let c = few_at s ts v h in let e = reordered_length d in omega arith

    own : (a : ℕ) → bit l.addresses a ≤ bit (held_of l.scope (get_or ts h [])) a
    unfolding pick
    own a =
        let k : ℕ = l.scope in
        let e : adds (in_scope k) l ≡ l.addresses = ap (λ (c : Bool). pick c l.addresses 0) (eq-eqb k k refl) in
        let f : bit (adds (in_scope k) l) a ≡ bit l.addresses a = ap (λ (m : ℕ). bit m a) e in
        let q = head_less k l [] a in
        let r = held_less k (get_or ts h []) (l ∷ []) (part_front (l ∷ []) x p d) a in
        omega arith

    alone : (g : ℕ) → (g ≡ h → ⊥) → (a : ℕ) → bit l.addresses a + bit (held_of l.scope (get_or (set now h x) g [])) a ≤ 1
    alone g n a =
        let k : ℕ = l.scope in
        let e : bit (held_of k (get_or (set now h x) g [])) a ≡ bit (held_of k (get_or now g [])) a = ap (λ (z : List Lease). bit (held_of k z) a) (get_or-set_other now h g x [] n) in
        let q = own a in
        let r = held_less k (get_or ts g []) (get_or now g []) (w g) a in
        let m = disjoint_bits (held_of k (get_or ts h [])) (held_of k (get_or ts g [])) a (apart_at (get_or ts h []) (get_or ts g []) (owners_at s ts v h g n) k scope_some scope_known_law) in
        omega arith

    in_set : h < length (set now h x)
    in_set = let e = length-set now h x in omega arith

    same : Reordered y (l ∷ get_or (set now h x) h [])
    same = subst (λ (z : List Lease). Reordered y (l ∷ z)) (sym at) d

    pub one_more : board_of (set now h y) ≡ board_with h (board_of (set now h x)) l
    one_more = ap board_of (sym (set-set now h x y)) ∙ board_gained l h (set now h x) y in_set known scope_some scope_known_law same few alone

    pub one_less : board_of (set now h x) ≡ board_without h (board_of (set now h y)) l
    one_less = board_lost l h (set now h x) y in_set known scope_some scope_known_law same few alone ∙ ap (λ (z : List (List Lease)). board_without h (board_of z) l) (set-set now h x y)

  -- ---- a run of leases
  -- the order of a tenant's leases is nothing to the board
  turned_board : (x y : List Lease) → Part (get_or ts h []) x → Reordered x y → board_of (set now h x) ≡ board_of (set now h y)
  turned_board [] [] p d = refl
  turned_board [] (l ∷ y) p d = absurd (let e = reordered_length d in omega arith)
  turned_board (l ∷ x) y p d =
      one_more l x (l ∷ x) p (Permᴰ.refl (l ∷ x)) ∙ sym (one_more l x y (part_front y [] p (Permᴰ.trans d (Permᴰ.symm (Permᴰ.append-nil y)))) (Permᴰ.symm d))

  pub run_less : (e x y : List Lease) → Part (get_or ts h []) x → Reordered x (e ++ y) → fold (board_without h) (board_of (set now h x)) e ≡ board_of (set now h y)
  run_less [] x y p d = turned_board x y p d
  run_less (l ∷ e) x y p d =
      ap (λ (b : Board). fold (board_without h) b e) (sym (one_less l (e ++ y) x p d)) ∙ run_less e (e ++ y) y (part_behind (l ∷ []) (e ++ y) p d) (Permᴰ.refl (e ++ y))

  pub run_more : (e x y : List Lease) → Part (get_or ts h []) x → Reordered x (e ++ y) → fold (board_with h) (board_of (set now h y)) e ≡ board_of (set now h x)
  run_more [] x y p d = sym (turned_board x y p d)
  run_more (l ∷ e) x y p d =
      let f : Part (get_or ts h []) (l ∷ y) = part_front (l ∷ y) e p (Permᴰ.trans d (Permᴰ.cons refl (turned e y))) in
      ap (λ (b : Board). fold (board_with h) b e) (sym (one_more l y (l ∷ y) f (Permᴰ.refl (l ∷ y))))
      ∙ run_more e x (l ∷ y) p (Permᴰ.trans d (Permᴰ.symm (Permᴰ.middle l e y)))
