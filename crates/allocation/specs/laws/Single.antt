-- Laws: of one tenant alone, whose reserve and limit are the scope's size (document 02, W-211), a request for the size or more gets just the addresses that no
-- lease or hold overlaps in its period.
use Prim.Native.Nat.{ℕ, zero, suc, ◌+◌, ◌-◌, ◌≤◌, ◌<◌, min, max}
use Rattle.std.specs.Prelude.{◌≡◌, refl, Bool, true, false, ltb, eqb, length, drop, get_or}
use Rattle.std.proofs.Common.{sym, ap₂, ◌∙◌, subst, le_trans, take_all}
use Rattle.std.proofs.Math.Path.{ap}
use mathlib.Core.List.{List, [], ◌∷◌, ◌++◌, map}
use native.Mathlib.Omega.{arith}
use Rattle.std.proofs.Math.Dec.{leb}
use Rattle.std.specs.Int.Bits.{bit_or}
use Rattle.std.proofs.Math.ListN.{length-append}
use borrow.Author.Tests.{le-leb, ltb-true, ltb-false, eqb-true, eqb-false, eq-eqb}
use Rattle.lists.specs.Pick.{pick}
use Rattle.lists.specs.All.{all_by}
use Rattle.lists.specs.laws.All.{all_head}
use Rattle.lists.specs.laws.Both.{and_both}
use Rattle.lists.specs.Filter.{filter_by}
use Rattle.lists.specs.Sums.{sum_to}
use Rattle.lists.specs.Down.{largest}
use Rattle.address_set.specs.AddressSet.{bit, offsets, set_of, difference_of, up_to}
use Rattle.address_set.specs.laws.Bits.{bit_le, or_bit, bit_eq, bit_of_zero, set_of_append}
use Rattle.address_set.specs.laws.Offsets.{bit_past}
use Rattle.state.specs.declared.Lease.{Lease}
use Rattle.state.specs.declared.State.{State}
use Rattle.state.specs.Book.{union_all, addresses_of, held_of, busy_of, scope_at, reserve_at, limit_at, held_at, with_held, committed, committed_sum}
use Rattle.soundness.specs.Sound.{tenants_in, scopes_in}
use Rattle.soundness.specs.laws.Book.{no_leases_b, Sound}
use Rattle.soundness.specs.laws.Kept.{count_less}
use Rattle.soundness.specs.laws.Added.{each_at}
use Rattle.allocation.specs.declared.Ask.{Ask}
use Rattle.allocation.specs.Rule.{taken_of, busy_in, pool_of, nobodys_of, held_by, free_of, held_after, allowed, grant_of}
use Rattle.allocation.specs.laws.Sets.{size, size_add, low, low_bit, low_past, low_same, by_64, difference_small, difference_bit, difference_in, pool_size, in_up_to}
use Rattle.allocation.specs.laws.Granted.{granted_least, size_most, held_taken, nobodys_out, free_held}
use Rattle.allocation.specs.laws.Kept.{held_below, used_held}

-- of one offset: held and not busy, or in the pool and not held
bits : (d b p : ℕ) → b ≤ d → d ≤ p → p ≤ 1 → max (d - min d b) (p - min p d) ≡ p - min p b
bits zero zero zero x y z = refl
bits zero zero (suc zero) x y z = refl
bits zero zero (suc (suc p)) x y z = absurd (omega arith)
bits zero (suc b) p x y z = absurd (omega arith)
bits (suc zero) zero (suc zero) x y z = refl
bits (suc zero) (suc zero) (suc zero) x y z = refl
bits (suc zero) (suc (suc b)) (suc zero) x y z = absurd (omega arith)
bits (suc zero) b zero x y z = absurd (omega arith)
bits (suc zero) b (suc (suc p)) x y z = absurd (omega arith)
bits (suc (suc d)) b p x y z = absurd (omega arith)

-- a union has no more than each of its sets may have
union_most : {A : Type 0} (f : A → ℕ) (d : A) (t : List A) (a b : ℕ) → ((g : ℕ) → bit (f (get_or t g d)) a ≤ b) → bit (union_all (map f t)) a ≤ b
unfolding union_all
union_most f d [] a b h = let z = bit_of_zero a in omega arith
union_most f d (x ∷ t) a b h = let p = h 0 in let q = union_most f d t a b (λ g. h (suc g)) in let r = or_bit (f x) (union_all (map f t)) a in omega arith

none_behind : (t : List (List Lease)) (n g : ℕ) → all_by no_leases_b (drop n t) ≡ true → n ≤ g → get_or t g [] ≡ []
none_behind [] n g h p = refl
none_behind ([] ∷ t) zero zero h p = refl
none_behind ((l ∷ x) ∷ t) zero zero h p = let z = eqb-true (length (l ∷ x)) 0 (all_head no_leases_b (l ∷ x) t h).0 in absurd (omega arith)
none_behind (x ∷ t) zero (suc g) h p = none_behind t zero g (all_head no_leases_b x t h).1 (omega arith)
none_behind (x ∷ t) (suc n) zero h p = absurd (omega arith)
none_behind (x ∷ t) (suc n) (suc g) h p = none_behind t n g h (omega arith)

module _ (s : State) (t : List (List Lease)) (v : Sound s t) (k : ℕ) (here : k < scopes_in s) (a : Ask) (es : a.scope ≡ k + 1) (mine : a.tenant ≡ 0) (alone : tenants_in s ≡ 1)
    (whole : reserve_at (scope_at s k) 0 ≡ (scope_at s k).size) (full : limit_at (scope_at s k) 0 ≡ (scope_at s k).size) (wish : (scope_at s k).size ≤ a.desired) where
  abbrev B : ℕ
  B = busy_in a.scope a.from a.to t

  -- what is somebody's is the tenant's
  taken_mine : (x : ℕ) → bit (taken_of a.scope t) x ≤ bit (held_by t a) x
  unfolding taken_of addresses_of filter_by union_all
  taken_mine x = union_most (held_of a.scope) [] t x (bit (held_by t a) x) (λ g. go g (eqb g 0) refl)
    where
      none : (l : List Lease) → l ≡ [] → bit (held_of a.scope l) x ≡ 0
      none l e = ap (λ (y : List Lease). bit (held_of a.scope y) x) e ∙ bit_of_zero x

      go : (g : ℕ) (b : Bool) → eqb g 0 ≡ b → bit (held_of a.scope (get_or t g [])) x ≤ bit (held_by t a) x
      go g true e = subst (λ (i : ℕ). bit (held_of a.scope (get_or t i [])) x ≤ bit (held_by t a) x) (mine ∙ sym (eqb-true g 0 e)) (omega arith)
      go g false e =
          let z = eqb-false g 0 e in
          let y = none (get_or t g []) (none_behind t 1 g (subst (λ (n : ℕ). all_by no_leases_b (drop n t) ≡ true) alone v.tenants) (omega arith)) in
          omega arith

  busy_mine : (x : ℕ) → bit (busy_in a.scope a.from a.to t) x ≤ bit (taken_of a.scope t) x
  unfolding busy_in
  busy_mine x = union_most (busy_of a.scope a.from a.to) [] t x (bit (taken_of a.scope t) x)
      (λ g. let p = used_held a.scope a.from a.to (get_or t g []) x in let q = held_taken a.scope t g x in omega arith)

  pool_bit : (x : ℕ) → x < 64 → bit (held_by t a) x ≤ bit (pool_of (scope_at s k)) x
  pool_bit x h = go (ltb x (scope_at s k).size) refl
    where
      go : (b : Bool) → ltb x (scope_at s k).size ≡ b → bit (held_by t a) x ≤ bit (pool_of (scope_at s k)) x
      go true e =
          let l = ltb-true x (scope_at s k).size e in
          let p = in_up_to (min (scope_at s k).size 64) x (omega arith) in
          let q = bit_le (held_by t a) x in omega arith
      go false e =
          let l = ltb-false x (scope_at s k).size e in
          let p : bit (held_by t a) x ≡ 0 = ap (λ (i : ℕ). bit (held_of i (get_or t a.tenant [])) x) es ∙ held_below s k here (get_or t a.tenant []) (each_at s t v a.tenant) x h l in
          omega arith

  -- D and what is nobody's are the whole pool
  all_held : held_at t a.scope a.tenant + size (nobodys_of (scope_at s k) t a) ≤ (scope_at s k).size
  all_held =
      let N : ℕ = nobodys_of (scope_at s k) t a in
      let p = size_add (held_by t a) N (λ x. let q = nobodys_out (scope_at s k) t a a.tenant x in omega arith) in
      let q = count_less (low (bit_or (held_by t a) N)) (pool_of (scope_at s k)) (λ x. by_64 x (λ x. bit (low (bit_or (held_by t a) N)) x ≤ bit (pool_of (scope_at s k)) x)
      (λ x h. let e = low_bit (bit_or (held_by t a) N) x h in let o = or_bit (held_by t a) N x in let i = pool_bit x h in let j = difference_in (pool_of (scope_at s k)) (taken_of a.scope t) x in omega arith)
      (λ x h. let e = low_past (bit_or (held_by t a) N) x h in omega arith)) in
      let r : size (low (bit_or (held_by t a) N)) ≡ size (bit_or (held_by t a) N) = ap length (low_same (bit_or (held_by t a) N)) in
      let f = size_most s t v k here in
      let z : size (pool_of (scope_at s k)) ≡ (scope_at s k).size = ap (λ (n : ℕ). size (set_of (up_to n))) (let e : min (scope_at s k).size 64 ≡ (scope_at s k).size = omega arith in e) ∙ pool_size (scope_at s k).size f in
      omega arith

  -- so that as many as there are may be given
  all_allowed_law : allowed (scope_at s k) (tenants_in s) t a (size (free_of t a) + size (nobodys_of (scope_at s k) t a)) ≡ true
  unfolding allowed committed with_held sum_to pick
  all_allowed_law =
      let d : ℕ = held_after t a (size (free_of t a) + size (nobodys_of (scope_at s k) t a)) in
      let h = all_held in
      let w : limit_at (scope_at s k) a.tenant ≡ (scope_at s k).size = ap (limit_at (scope_at s k)) mine ∙ full in
      and_both (le-leb d (limit_at (scope_at s k) a.tenant) (omega arith))
      (ap (λ (n : ℕ). leb (committed_sum (scope_at s k) n (with_held a.tenant d (held_at t a.scope))) (scope_at s k).size) alone
      ∙ le-leb (0 + max (pick (eqb 0 a.tenant) d (held_at t a.scope 0)) (reserve_at (scope_at s k) 0)) (scope_at s k).size
      (subst (λ (b : Bool). 0 + max (pick b d (held_at t a.scope 0)) (reserve_at (scope_at s k) 0) ≤ (scope_at s k).size) (sym (eq-eqb 0 a.tenant (sym mine))) (omega arith)))

  all_number : size (free_of t a) + size (nobodys_of (scope_at s k) t a) ≤ (grant_of (scope_at s k) (tenants_in s) t a).number
  all_number =
      granted_least (scope_at s k) (tenants_in s) t a (size (free_of t a) + size (nobodys_of (scope_at s k) t a)) (le_trans few wish) all_allowed_law
    where
      few : size (free_of t a) + size (nobodys_of (scope_at s k) t a) ≤ (scope_at s k).size
      few = let h = all_held in let p = count_less (free_of t a) (held_by t a) (free_held t a) in omega arith

  -- ---- just the addresses that no lease overlaps in the period
  pub gets_all : (grant_of (scope_at s k) (tenants_in s) t a).addresses ≡ difference_of (pool_of (scope_at s k)) (busy_in a.scope a.from a.to t)
  unfolding grant_of
  gets_all =
      let F : ℕ = free_of t a in
      let N : ℕ = nobodys_of (scope_at s k) t a in
      let n : ℕ = largest (allowed (scope_at s k) (tenants_in s) t a) a.desired in
      ap set_of (take_all n (offsets F ++ offsets N) (let e = length-append (offsets F) (offsets N) in let m = all_number in omega arith)) ∙ set_of_append (offsets F) (offsets N)
      ∙ bit_eq (bit_or (low F) (low N)) (difference_of (pool_of (scope_at s k)) (busy_in a.scope a.from a.to t)) (λ x. by_64 x (λ x. bit (bit_or (low (free_of t a)) (low (nobodys_of (scope_at s k) t a))) x ≡ bit (difference_of (pool_of (scope_at s k)) (busy_in a.scope a.from a.to t)) x) inside outside)
    where
      outside : (x : ℕ) → 64 ≤ x → bit (bit_or (low (free_of t a)) (low (nobodys_of (scope_at s k) t a))) x ≡ bit (difference_of (pool_of (scope_at s k)) (busy_in a.scope a.from a.to t)) x
      outside x h =
          let o = or_bit (low (free_of t a)) (low (nobodys_of (scope_at s k) t a)) x in
          let p = low_past (free_of t a) x h in let q = low_past (nobodys_of (scope_at s k) t a) x h in
          let r = bit_past 64 (difference_of (pool_of (scope_at s k)) (busy_in a.scope a.from a.to t)) x (difference_small (pool_of (scope_at s k)) (busy_in a.scope a.from a.to t)) h in
          omega arith

      inside : (x : ℕ) → x < 64 → bit (bit_or (low (free_of t a)) (low (nobodys_of (scope_at s k) t a))) x ≡ bit (difference_of (pool_of (scope_at s k)) (busy_in a.scope a.from a.to t)) x
      inside x h =
          go (bit (bit_or (low (free_of t a)) (low (nobodys_of (scope_at s k) t a))) x) (bit (free_of t a) x) (bit (nobodys_of (scope_at s k) t a) x) (bit (held_by t a) x) (bit (taken_of a.scope t) x) (bit B x) (bit (pool_of (scope_at s k)) x) (bit (difference_of (pool_of (scope_at s k)) (busy_in a.scope a.from a.to t)) x)
          (or_bit (low (free_of t a)) (low (nobodys_of (scope_at s k) t a)) x ∙ ap₂ max (low_bit (free_of t a) x h) (low_bit (nobodys_of (scope_at s k) t a) x h))
          (less (held_by t a) B) (less (pool_of (scope_at s k)) (taken_of a.scope t)) (less (pool_of (scope_at s k)) B)
          (taken_mine x) (held_taken a.scope t a.tenant x) (busy_mine x) (pool_bit x h) (bit_le (pool_of (scope_at s k)) x)
        where
          less : (m n : ℕ) → bit (difference_of m n) x ≡ bit m x - min (bit m x) (bit n x)
          less m n = difference_bit m n x ∙ ap₂ (λ (p q : ℕ). p - min p q) (low_bit m x h) (low_bit n x h)

          go : (u f n d w b p r : ℕ) → u ≡ max f n → f ≡ d - min d b → n ≡ p - min p w → r ≡ p - min p b → w ≤ d → d ≤ w → b ≤ w → d ≤ p → p ≤ 1 → u ≡ r
          go u f n d w b p r e1 e2 e3 e4 h1 h2 h3 h4 h5 =
              let z : w ≡ d = omega arith in
              e1 ∙ ap₂ max e2 (e3 ∙ ap (λ (i : ℕ). p - min p i) z) ∙ bits d b p (omega arith) h4 h5 ∙ sym e4
