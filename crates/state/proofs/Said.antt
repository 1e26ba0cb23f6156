-- Laws: how many leases are on an offset and whose it is, by the leases, and what one lease more makes of it.
use Prim.Native.Nat.{ℕ, zero, suc, ◌+◌, ◌≤◌, ◌<◌, max}
use Rattle.std.specs.Prelude.{◌≡◌, Bool, ◌&&◌, get_or, set}
use Rattle.std.proofs.Math.Path.{refl, ap}
use Rattle.std.proofs.Common.{◌∙◌, length-set, get_or-set_same, get_or-set_other, eq-eqb, ne_eqb}
use Rattle.std.proofs.Math.Bool.{true, false}
use mathlib.Core.List.{List, [], ◌∷◌}
use native.Mathlib.Omega.{arith}
use Rattle.std.proofs.Math.Dec.{eqb}
use Rattle.std.specs.Int.Bits.{bit_or}
use Rattle.std.proofs.Math.ListN.{length}
use Rattle.lists.specs.Pick.{pick}
use Rattle.lists.specs.Filter.{filter_by}
use Rattle.lists.specs.laws.Filter.{filter_length}
use Rattle.lists.specs.Reordered.{Reordered}
use Rattle.lists.specs.laws.Reordered.{reordered_length, reordered_filter}
use Rattle.address_set.specs.AddressSet.{bit}
use Rattle.address_set.specs.laws.Bits.{bit_le, or_bit, bit_of_zero}
use Rattle.state.specs.declared.Lease.{Lease}
use Rattle.state.specs.Book.{held_of, in_scope, addresses_of, union_all}
use Rattle.state.specs.Board.{is_on, count_in, count_on, owner_from}
use Rattle.state.specs.laws.Sets.{adds, addresses_cons, addresses_reordered}

module _ (s a : ℕ) where
  -- ---- of one tenant's leases
  pub count_cons : (l : Lease) (ls : List Lease) → count_in s a (l ∷ ls) ≡ bit (adds (in_scope s) l) a + count_in s a ls
  unfolding count_in is_on filter_by pick
  count_cons l ls = go (in_scope s l) (bit l.addresses a) refl (bit_le l.addresses a)
    where
      go : (b : Bool) (c : ℕ) → bit l.addresses a ≡ c → c ≤ 1
          → length (pick (b && eqb c 1) (l ∷ filter_by (is_on s a) ls) (filter_by (is_on s a) ls)) ≡ bit (pick b l.addresses 0) a + length (filter_by (is_on s a) ls)
      go true zero e h = omega arith
      go true (suc zero) e h = omega arith
      go true (suc (suc c)) e h = absurd (omega arith)
      go false c e h = let z = bit_of_zero a in omega arith

  pub count_few : (ls : List Lease) → count_in s a ls ≤ length ls
  unfolding count_in
  count_few ls = filter_length (is_on s a) ls

  held_cons : (l : Lease) (ls : List Lease) → bit (held_of s (l ∷ ls)) a ≡ max (bit (adds (in_scope s) l) a) (bit (held_of s ls) a)
  held_cons l ls = ap (λ (m : ℕ). bit m a) (addresses_cons (in_scope s) l ls) ∙ or_bit (adds (in_scope s) l) (held_of s ls) a

  -- an offset that they don't have has no lease, and one without a lease they don't have
  pub none_on : (ls : List Lease) → bit (held_of s ls) a ≡ 0 → count_in s a ls ≡ 0
  unfolding count_in filter_by
  none_on [] h = refl
  none_on (l ∷ ls) h = let e = held_cons l ls in let c = count_cons l ls in let ih = none_on ls (omega arith) in omega arith

  pub some_on : (ls : List Lease) → count_in s a ls ≡ 0 → bit (held_of s ls) a ≡ 0
  unfolding addresses_of filter_by union_all
  some_on [] h = bit_of_zero a
  some_on (l ∷ ls) h = let e = held_cons l ls in let c = count_cons l ls in let ih = some_on ls (omega arith) in omega arith

  -- ---- of all tenants' leases
  -- tenants other than h don't have the offset
  abbrev pub Only : ℕ → List (List Lease) → Type 0
  Only h ts = (g : ℕ) → (g ≡ h → ⊥) → bit (held_of s (get_or ts g [])) a ≡ 0

  pub owner_none : (ts : List (List Lease)) → ((g : ℕ) → bit (held_of s (get_or ts g [])) a ≡ 0) → owner_from 1 s a ts ≡ 0
  unfolding owner_from pick
  owner_none ts f = go 1 ts f
    where
      go : (i : ℕ) (ts : List (List Lease)) → ((g : ℕ) → bit (held_of s (get_or ts g [])) a ≡ 0) → owner_from i s a ts ≡ 0
      go i [] f = refl
      go i (x ∷ ts) f =
          let z = f 0 in
          ap (λ (b : Bool). pick b i (owner_from (suc i) s a ts)) (ne_eqb (bit (held_of s x) a) 1 (λ q. absurd (omega arith))) ∙ go (suc i) ts (λ g. f (suc g))

  pub owner_mine : (ts : List (List Lease)) (h : ℕ) → h < length ts → Only h ts → bit (held_of s (get_or ts h [])) a ≡ 1 → owner_from 1 s a ts ≡ h + 1
  unfolding owner_from pick
  owner_mine ts h t f o = go 1 ts h t f o ∙ (let e : 1 + h ≡ h + 1 = omega arith in e)
    where
      go : (i : ℕ) (ts : List (List Lease)) (h : ℕ) → h < length ts → Only h ts → bit (held_of s (get_or ts h [])) a ≡ 1 → owner_from i s a ts ≡ i + h
      go i [] h t f e = absurd (omega arith)
      go i (x ∷ ts) zero t f e = ap (λ (b : Bool). pick b i (owner_from (suc i) s a ts)) (eq-eqb (bit (held_of s x) a) 1 e) ∙ (let q : i ≡ i + 0 = omega arith in q)
      go i (x ∷ ts) (suc h) t f e =
          let z = f 0 (λ q. absurd (omega arith)) in
          ap (λ (b : Bool). pick b i (owner_from (suc i) s a ts)) (ne_eqb (bit (held_of s x) a) 1 (λ q. absurd (omega arith)))
          ∙ go (suc i) ts h (omega arith) (λ g n. f (suc g) (λ q. n (omega arith))) e ∙ (let q : suc i + h ≡ i + suc h = omega arith in q)

  -- the leases on it are then tenant h's
  pub own_count : (ts : List (List Lease)) (h : ℕ) → h < length ts → Only h ts → count_on s a ts ≡ count_in s a (get_or ts h [])
  unfolding count_on
  own_count [] h t f = absurd (omega arith)
  own_count (x ∷ ts) zero t f = let q = zeros ts (λ g. f (suc g) (λ z. absurd (omega arith))) in omega arith
    where
      zeros : (ts : List (List Lease)) → ((g : ℕ) → bit (held_of s (get_or ts g [])) a ≡ 0) → count_on s a ts ≡ 0
      zeros [] f = refl
      zeros (x ∷ ts) f = let p = none_on x (f 0) in let q = zeros ts (λ g. f (suc g)) in omega arith
  own_count (x ∷ ts) (suc h) t f =
      let p = none_on x (f 0 (λ z. absurd (omega arith))) in
      let q = own_count ts h (omega arith) (λ g n. f (suc g) (λ z. n (omega arith))) in
      omega arith

-- ---- tenant h's leases y are its own with l among them, in whichever order
module _ (l : Lease) (h : ℕ) (ts : List (List Lease)) (y : List Lease) (there : h < length ts) (r : Reordered y (l ∷ get_or ts h [])) where
  pub held_with : (s : ℕ) → held_of s y ≡ bit_or (adds (in_scope s) l) (held_of s (get_or ts h []))
  held_with s = addresses_reordered (in_scope s) r ∙ addresses_cons (in_scope s) l (get_or ts h [])

  module _ (s a : ℕ) where
    counts : count_in s a y ≡ bit (adds (in_scope s) l) a + count_in s a (get_or ts h [])
    unfolding count_in
    counts = reordered_length (reordered_filter (is_on s a) r) ∙ count_cons s a l (get_or ts h [])

    pub count_with : count_on s a (set ts h y) ≡ bit (adds (in_scope s) l) a + count_on s a ts
    unfolding count_on
    count_with = go ts h there counts
      where
        go : (ts : List (List Lease)) (h : ℕ) → h < length ts → count_in s a y ≡ bit (adds (in_scope s) l) a + count_in s a (get_or ts h [])
            → count_on s a (set ts h y) ≡ bit (adds (in_scope s) l) a + count_on s a ts
        go [] h t e = absurd (omega arith)
        go (x ∷ ts) zero t e = omega arith
        go (x ∷ ts) (suc h) t e = let ih = go ts h (omega arith) e in omega arith

    bit_with : bit (held_of s y) a ≡ max (bit (adds (in_scope s) l) a) (bit (held_of s (get_or ts h [])) a)
    bit_with = ap (λ (m : ℕ). bit m a) (held_with s) ∙ or_bit (adds (in_scope s) l) (held_of s (get_or ts h [])) a

    -- elsewhere the owner stays
    pub owner_stays : bit (adds (in_scope s) l) a ≡ 0 → owner_from 1 s a (set ts h y) ≡ owner_from 1 s a ts
    unfolding owner_from
    owner_stays z = go 1 ts h (let e = bit_with in let q = bit_le (held_of s (get_or ts h [])) a in omega arith)
      where
        go : (i : ℕ) (ts : List (List Lease)) (h : ℕ) → bit (held_of s y) a ≡ bit (held_of s (get_or ts h [])) a → owner_from i s a (set ts h y) ≡ owner_from i s a ts
        go i [] h e = refl
        go i (x ∷ ts) zero e = ap (λ (b : ℕ). pick (eqb b 1) i (owner_from (suc i) s a ts)) e
        go i (x ∷ ts) (suc h) e = ap (λ (n : ℕ). pick (eqb (bit (held_of s x) a) 1) i n) (go (suc i) ts h e)

    -- an address of the lease that no other tenant has is the tenant's
    pub owner_with : bit (adds (in_scope s) l) a ≡ 1 → Only s a h ts → owner_from 1 s a (set ts h y) ≡ h + 1
    owner_with o f =
        owner_mine s a (set ts h y) h (let n = length-set ts h y in omega arith) (λ g n. ap (λ (x : List Lease). bit (held_of s x) a) (get_or-set_other ts h g y [] n) ∙ f g n)
        (ap (λ (x : List Lease). bit (held_of s x) a) (get_or-set_same ts h y [] there) ∙ (let e = bit_with in let q = bit_le (held_of s (get_or ts h [])) a in omega arith))
