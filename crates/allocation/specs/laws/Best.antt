-- Laws: no choice of addresses that leaves the book sound, recorded as a grant is and with every other lease and hold unmoved, has more addresses than the grant,
-- and none of as many takes fewer new ones (document 02, W-214).
use Prim.Native.Nat.{ℕ, suc, ◌+◌, ◌-◌, ◌≤◌, ◌<◌, min, max}
use Rattle.std.specs.Prelude.{◌≡◌, refl, Bool, ◌&&◌, ltb, length, take, get_or, set}
use Rattle.std.proofs.Common.{sym, ap₂, ◌∙◌, le_trans, get_or-set_same, get_or-set_other, le-leb, eqb-true, eq-eqb}
use Rattle.std.proofs.Math.Path.{ap, subst}
use Rattle.std.proofs.Math.Bool.{true, false}
use mathlib.Core.List.{List, [], ◌∷◌, map}
use native.Mathlib.Omega.{arith}
use Rattle.std.proofs.Math.Dec.{eqb}
use Rattle.std.specs.Int.Bits.{bit_and, bit_or}
use Rattle.std.proofs.lemmas.Bool.{eqb-false}
use Rattle.lists.specs.Pick.{pick}
use Rattle.lists.specs.All.{all_by, pairs_by}
use Rattle.lists.specs.laws.All.{all_head, pairs_head}
use Rattle.lists.specs.laws.Both.{and_parts, and_both, pairs_and}
use Rattle.lists.specs.laws.Reordered.{reordered_pairs}
use Rattle.lists.specs.Filter.{filter_by}
use Rattle.lists.specs.Down.{largest}
use Rattle.address_set.specs.AddressSet.{bit, offsets, set_of, difference_of, chosen}
use Rattle.address_set.specs.laws.Bits.{bit_le, or_bit, and_bit, bit_eq, bit_of_zero, size_union, chosen_is, low_in, low_size}
use Rattle.state.specs.declared.Lease.{Lease}
use Rattle.state.specs.declared.State.{State}
use Rattle.state.specs.Book.{union_all, addresses_of, in_scope, used_in, overlaps, held_of, held_count, busy_of, differ, insert_of, scope_at, reserve_at, limit_at, held_at, with_held, committed, committed_sum}
use Rattle.state.specs.laws.Sets.{adds, addresses_cons, insert_addresses}
use Rattle.state.specs.laws.Sorted.{insert_same}
use Rattle.soundness.specs.Sound.{tenants_in, scopes_in, disjoint, apart, compatible}
use Rattle.soundness.specs.laws.Book.{pair_ok, Sound}
use Rattle.soundness.specs.laws.Kept.{sum_less, count_less}
use Rattle.soundness.specs.laws.Added.{compatible_turn, pairs_at, owners_at}
use Rattle.allocation.specs.declared.Ask.{Ask}
use Rattle.allocation.specs.Rule.{busy_in, nobodys_of, held_by, free_of, held_after, allowed, grant_of}
use Rattle.allocation.specs.laws.Sets.{size, low, low_bit, low_past, low_small, low_same, by_64, size_or, difference_small, difference_in, difference_out, difference_bit}
use Rattle.allocation.specs.laws.Granted.{granted_least, free_held}
use Rattle.allocation.specs.laws.Kept.{bits_disjoint, apart_in_law, used_held}

-- ---- a lease that is compatible with others has none of their addresses in its period
one_apart : (l y : Lease) (a : ℕ) → compatible l y ≡ true → bit l.addresses a + bit (pick (used_in l.scope l.start l.end y) y.addresses 0) a ≤ 1
unfolding compatible used_in overlaps pick
one_apart l y a h = go (eqb l.scope y.scope) refl (eqb y.scope l.scope) refl (ltb l.start y.end) refl (ltb y.start l.end) refl h
  where
    none : bit l.addresses a + bit 0 a ≤ 1
    none = let z = bit_of_zero a in let w = bit_le l.addresses a in omega arith

    go : (p : Bool) → eqb l.scope y.scope ≡ p → (q : Bool) → eqb y.scope l.scope ≡ q → (r : Bool) → ltb l.start y.end ≡ r → (s : Bool) → ltb y.start l.end ≡ s
        → pick p (pick (r && s) (disjoint l.addresses y.addresses) true) true ≡ true → bit l.addresses a + bit (pick (q && (s && r)) y.addresses 0) a ≤ 1
    go p e false f r g s i h = none
    go p e true f true g false i h = none
    go p e true f false g true i h = none
    go p e true f false g false i h = none
    go true e true f true g true i h = bits_disjoint l.addresses y.addresses h a
    go false e true f true g true i h = absurd (eqb-false l.scope y.scope e (sym (eqb-true y.scope l.scope f)))

compatible_busy : (l : Lease) (x : List Lease) (a : ℕ) → all_by (compatible l) x ≡ true → bit l.addresses a + bit (busy_of l.scope l.start l.end x) a ≤ 1
unfolding addresses_of filter_by union_all
compatible_busy l [] a h = let z = bit_of_zero a in let w = bit_le l.addresses a in omega arith
compatible_busy l (y ∷ x) a h =
    let p = all_head (compatible l) y x h in
    let u : ℕ = adds (used_in l.scope l.start l.end) y in
    let e : bit (busy_of l.scope l.start l.end (y ∷ x)) a ≡ max (bit u a) (bit (busy_of l.scope l.start l.end x) a) =
    ap (λ (m : ℕ). bit m a) (addresses_cons (used_in l.scope l.start l.end) y x) ∙ or_bit u (busy_of l.scope l.start l.end x) a in
    let q = one_apart l y a p.0 in
    let r = compatible_busy l x a p.1 in
    omega arith

-- none of a union's sets has it
union_out : {A : Type 0} (f : A → ℕ) (d : A) (t : List A) (a x : ℕ) → x ≤ 1 → ((g : ℕ) → x + bit (f (get_or t g d)) a ≤ 1) → x + bit (union_all (map f t)) a ≤ 1
unfolding union_all
union_out f d [] a x o h = let z = bit_of_zero a in omega arith
union_out f d (y ∷ t) a x o h =
    let p = h 0 in let q = union_out f d t a x o (λ g. h (suc g)) in let r = or_bit (f y) (union_all (map f t)) a in omega arith

low_le : (m a : ℕ) → bit (low m) a ≤ bit m a
low_le m a = by_64 a (λ a. bit (low m) a ≤ bit m a) (λ a h. let e = low_bit m a h in omega arith) (λ a h. let e = low_past m a h in omega arith)

-- a difference has what only the first has
difference_has : (m n a : ℕ) → a < 64 → bit m a ≤ max (bit n a) (bit (difference_of m n) a)
difference_has m n a h =
    let e = difference_bit m n a in
    let u = low_bit m a h in let w = low_bit n a h in let p = bit_le m a in let q = bit_le n a in omega arith

-- ---- a choice
-- a lease l of the asking tenant, in the scope and the period asked for, that leaves the book sound: its addresses are the choice
pub record Choice (s : State) (t : List (List Lease)) (a : Ask) (l : Lease) : Type 0 where
  pub scope : l.scope ≡ a.scope
  pub start : l.start ≡ a.from
  pub end : l.end ≡ a.to
  pub sound : Sound s (set t a.tenant (insert_of l (get_or t a.tenant [])))

-- how many of a set the tenant does not have yet
abbrev pub new_in : List (List Lease) → Ask → ℕ → ℕ
new_in t a m = size (difference_of m (held_by t a))

module _ (s : State) (t : List (List Lease)) (k : ℕ) (here : k < scopes_in s) (a : Ask) (es : a.scope ≡ k + 1) (known : a.tenant < tenants_in s) (there : a.tenant < length t)
    (l : Lease) (c : Choice s t a l) where
  abbrev own : List Lease
  own = get_or t a.tenant []

  abbrev y : List Lease
  y = insert_of l (get_or t a.tenant [])

  abbrev after : List (List Lease)
  after = set t a.tenant (insert_of l (get_or t a.tenant []))

  mine : get_or after a.tenant [] ≡ y
  mine = get_or-set_same t a.tenant y [] there

  theirs : (g : ℕ) → (g ≡ a.tenant → ⊥) → get_or after g [] ≡ get_or t g []
  theirs g n = get_or-set_other t a.tenant g y [] n

  -- what is held afterwards
  held_is : held_of a.scope y ≡ bit_or l.addresses (held_by t a)
  unfolding pick
  held_is =
      insert_addresses (in_scope a.scope) l own
      ∙ ap (λ (b : Bool). bit_or (pick b l.addresses 0) (held_by t a)) (eq-eqb l.scope a.scope c.scope)

  -- rule 10: none of its addresses is busy in the period with a lease of the tenant
  own_apart : (x : ℕ) → bit l.addresses x + bit (busy_of a.scope a.from a.to own) x ≤ 1
  unfolding pair_ok
  own_apart x =
      let p = ap (pairs_by pair_ok) (sym mine) ∙ pairs_at s after c.sound a.tenant in
      let q = (and_parts (pairs_by differ y) (pairs_by compatible y) (sym (pairs_and differ compatible y) ∙ p)).1 in
      let w = (pairs_head compatible l own (sym (reordered_pairs compatible compatible_turn (insert_same l own)) ∙ q)).0 in
      let r = compatible_busy l own x w in
      subst (λ (i : ℕ). bit l.addresses x + bit (busy_of i a.from a.to own) x ≤ 1) c.scope
      (subst (λ (i : ℕ). bit l.addresses x + bit (busy_of l.scope i a.to own) x ≤ 1) c.start
      (subst (λ (i : ℕ). bit l.addresses x + bit (busy_of l.scope l.start i own) x ≤ 1) c.end r))

  -- rule 9: none is another tenant's
  others_apart : (g : ℕ) → (g ≡ a.tenant → ⊥) → (x : ℕ) → bit l.addresses x + bit (held_of a.scope (get_or t g [])) x ≤ 1
  others_apart g n x =
      let p : apart y (get_or t g []) ≡ true = ap₂ apart (sym mine) (sym (theirs g n)) ∙ owners_at s after c.sound a.tenant g n in
      let q : disjoint (held_of a.scope y) (held_of a.scope (get_or t g [])) ≡ true = ap (λ (i : ℕ). disjoint (held_of i y) (held_of i (get_or t g []))) es ∙ apart_in_law y (get_or t g []) k (omega arith) p in
      let r = bits_disjoint (held_of a.scope y) (held_of a.scope (get_or t g [])) q x in
      let e : bit (held_of a.scope y) x ≡ max (bit l.addresses x) (bit (held_by t a) x) = ap (λ (m : ℕ). bit m x) held_is ∙ or_bit l.addresses (held_by t a) x in
      omega arith

  -- so none is busy in the period at all
  none_busy : (x : ℕ) → bit l.addresses x + bit (busy_in a.scope a.from a.to t) x ≤ 1
  unfolding busy_in
  none_busy x = union_out (busy_of a.scope a.from a.to) [] t x (bit l.addresses x) (bit_le l.addresses x) (λ g. go g (eqb g a.tenant) refl)
    where
      go : (g : ℕ) (b : Bool) → eqb g a.tenant ≡ b → bit l.addresses x + bit (busy_of a.scope a.from a.to (get_or t g [])) x ≤ 1
      go g true e = subst (λ (i : ℕ). bit l.addresses x + bit (busy_of a.scope a.from a.to (get_or t i [])) x ≤ 1) (sym (eqb-true g a.tenant e)) (own_apart x)
      go g false e =
          let p = others_apart g (eqb-false g a.tenant e) x in
          let q = used_held a.scope a.from a.to (get_or t g []) x in
          omega arith

  -- its addresses are some of the f and the new ones
  few_own : size l.addresses ≤ size (free_of t a) + new_in t a l.addresses
  few_own =
      let p = count_less (low l.addresses) (bit_or (free_of t a) (difference_of l.addresses (held_by t a))) (λ x. by_64 x (λ x. bit (low l.addresses) x ≤ bit (bit_or (free_of t a) (difference_of l.addresses (held_by t a))) x) inside outside) in
      let q = size_or (free_of t a) (difference_of l.addresses (held_by t a)) in
      let r : size (low l.addresses) ≡ size l.addresses = ap length (low_same l.addresses) in
      omega arith
    where
      outside : (x : ℕ) → 64 ≤ x → bit (low l.addresses) x ≤ bit (bit_or (free_of t a) (difference_of l.addresses (held_by t a))) x
      outside x h = let z = low_past l.addresses x h in omega arith

      inside : (x : ℕ) → x < 64 → bit (low l.addresses) x ≤ bit (bit_or (free_of t a) (difference_of l.addresses (held_by t a))) x
      inside x h =
          let b = low_bit l.addresses x h in
          let o = or_bit (free_of t a) (difference_of l.addresses (held_by t a)) x in
          let n = difference_has l.addresses (held_by t a) x h in
          let f = difference_has (held_by t a) (busy_in a.scope a.from a.to t) x h in
          let u = none_busy x in
          let w = bit_le (held_by t a) x in
          omega arith

  -- the tenant then holds D and the new ones
  held_more : held_at t a.scope a.tenant + new_in t a l.addresses ≤ held_count a.scope y
  held_more =
      let n : ℕ = difference_of l.addresses (held_by t a) in
      let u = size_union (low (held_by t a)) n (low_small (held_by t a)) (difference_small l.addresses (held_by t a))
      (bit_eq (bit_and (low (held_by t a)) n) 0 (λ x. and_bit (low (held_by t a)) n x ∙ none x ∙ sym (bit_of_zero x))) in
      let r : size (low (held_by t a)) ≡ size (held_by t a) = ap length (low_same (held_by t a)) in
      let p = count_less (bit_or (low (held_by t a)) n) (bit_or l.addresses (held_by t a)) less in
      let e : held_count a.scope y ≡ size (bit_or l.addresses (held_by t a)) = ap size held_is in
      omega arith
    where
      none : (x : ℕ) → min (bit (low (held_by t a)) x) (bit (difference_of l.addresses (held_by t a)) x) ≡ 0
      none x =
          by_64 x (λ x. min (bit (low (held_by t a)) x) (bit (difference_of l.addresses (held_by t a)) x) ≡ 0)
          (λ x h. let p = low_bit (held_by t a) x h in let q = difference_out l.addresses (held_by t a) x in omega arith)
          (λ x h. let p = low_past (held_by t a) x h in omega arith)

      less : (x : ℕ) → bit (bit_or (low (held_by t a)) (difference_of l.addresses (held_by t a))) x ≤ bit (bit_or l.addresses (held_by t a)) x
      less x =
          let o = or_bit (low (held_by t a)) (difference_of l.addresses (held_by t a)) x in
          let p = or_bit l.addresses (held_by t a) x in
          let q = difference_in l.addresses (held_by t a) x in
          let r = low_le (held_by t a) x in
          omega arith

  -- rules 11 and 12 then allow as many as the choice has
  choice_allowed : allowed (scope_at s k) (tenants_in s) t a (size l.addresses) ≡ true
  unfolding allowed committed with_held pick
  choice_allowed =
      let d : ℕ = held_after t a (size l.addresses) in
      let p = c.sound.holdings k a.tenant here known in
      let h : held_at after (k + 1) a.tenant ≡ held_count a.scope y = ap (held_count (k + 1)) mine ∙ ap (λ (i : ℕ). held_count i y) (sym es) in
      let m = after_more in
      and_both (le-leb d (limit_at (scope_at s k) a.tenant) (omega arith))
      (le-leb (committed_sum (scope_at s k) (tenants_in s) (with_held a.tenant d (held_at t a.scope))) (scope_at s k).size (le_trans sums (c.sound.commitments k here)))
    where
      after_more : held_after t a (size l.addresses) ≤ held_count a.scope y
      after_more = let o = few_own in let m = held_more in omega arith

      sums : committed_sum (scope_at s k) (tenants_in s) (with_held a.tenant (held_after t a (size l.addresses)) (held_at t a.scope)) ≤ committed_sum (scope_at s k) (tenants_in s) (held_at after (k + 1))
      sums = sum_less _ (committed (scope_at s k) (held_at after (k + 1))) (tenants_in s) (λ g q. go g (eqb g a.tenant) refl)
        where
          go : (g : ℕ) (b : Bool) → eqb g a.tenant ≡ b
              → max (pick b (held_after t a (size l.addresses)) (held_at t a.scope g)) (reserve_at (scope_at s k) g) ≤ max (held_at after (k + 1) g) (reserve_at (scope_at s k) g)
          go g true e =
              let z : held_at after (k + 1) g ≡ held_count a.scope y = ap (held_at after (k + 1)) (eqb-true g a.tenant e) ∙ ap (held_count (k + 1)) mine ∙ ap (λ (i : ℕ). held_count i y) (sym es) in
              let m = after_more in
              omega arith
          go g false e =
              let z : held_at after (k + 1) g ≡ held_at t a.scope g = ap (held_count (k + 1)) (theirs g (eqb-false g a.tenant e)) ∙ ap (λ (i : ℕ). held_at t i g) (sym es) in
              omega arith

  -- ---- nobody could have given more
  pub none_more : size l.addresses ≤ a.desired → size l.addresses ≤ (grant_of (scope_at s k) (tenants_in s) t a).number
  none_more h = granted_least (scope_at s k) (tenants_in s) t a (size l.addresses) h choice_allowed

  -- nor as many with fewer new ones
  pub none_fewer_new : size l.addresses ≡ (grant_of (scope_at s k) (tenants_in s) t a).number → new_in t a (grant_of (scope_at s k) (tenants_in s) t a).addresses ≤ new_in t a l.addresses
  unfolding grant_of
  none_fewer_new e =
      let j : ℕ = largest (allowed (scope_at s k) (tenants_in s) t a) a.desired in
      let B : ℕ = set_of (take (j - size (free_of t a)) (offsets (nobodys_of (scope_at s k) t a))) in
      let p = count_less (difference_of (set_of (chosen j (free_of t a) (nobodys_of (scope_at s k) t a))) (held_by t a)) B (new_only j) in
      let q = low_size (nobodys_of (scope_at s k) t a) (j - size (free_of t a)) in
      let r = few_own in
      omega arith
    where
      new_only : (j x : ℕ) → bit (difference_of (set_of (chosen j (free_of t a) (nobodys_of (scope_at s k) t a))) (held_by t a)) x ≤ bit (set_of (take (j - size (free_of t a)) (offsets (nobodys_of (scope_at s k) t a)))) x
      new_only j x =
          let C : ℕ = set_of (chosen j (free_of t a) (nobodys_of (scope_at s k) t a)) in
          let i = difference_in C (held_by t a) x in
          let o = difference_out C (held_by t a) x in
          let u : bit C x ≡ max (bit (set_of (take j (offsets (free_of t a)))) x) (bit (set_of (take (j - size (free_of t a)) (offsets (nobodys_of (scope_at s k) t a)))) x) =
          ap (λ (m : ℕ). bit m x) (chosen_is j (free_of t a) (nobodys_of (scope_at s k) t a)) ∙ or_bit (set_of (take j (offsets (free_of t a)))) (set_of (take (j - size (free_of t a)) (offsets (nobodys_of (scope_at s k) t a)))) x in
          let f = low_in (free_of t a) 0 64 j x in
          let g = free_held t a x in
          let b = bit_le C x in
          omega arith
