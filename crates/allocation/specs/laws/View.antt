-- Laws: in a sound book the tenant's own leases and the sets of all tenants are all that the rule goes by, since by rule 9 no other tenant's lease is on an
-- address of the tenant's.
use Prim.Native.Nat.{ℕ, zero, suc, ◌+◌, ◌-◌, ◌≤◌, ◌<◌, min}
use Rattle.std.proofs.Math.Path.{◌≡◌, refl, sym, ap, ap₂, subst}
use Rattle.std.proofs.Common.{◌∙◌, add-one, eqb-true, le-leb, leb-true, ltb-true}
use Rattle.std.specs.Prelude.{Bool, ◌&&◌, leb, eqb, length, set}
use Rattle.std.proofs.Math.Bool.{true, false}
use mathlib.Core.List.{List, [], ◌∷◌, map}
use native.Mathlib.Omega.{arith}
use Rattle.std.proofs.Math.Dec.{ltb}
use Rattle.std.specs.Int.Bits.{bit_or}
use Rattle.std.proofs.Math.ListN.{get_or, get_or-map}
use Rattle.std.proofs.lemmas.List.{length-map, set-get_or}
use Rattle.lists.specs.Pick.{pick}
use Rattle.lists.specs.All.{all_by}
use Rattle.lists.specs.laws.All.{all_head}
use Rattle.lists.specs.laws.Both.{and_parts, and_both}
use Rattle.lists.specs.Filter.{filter_by}
use Rattle.address_set.specs.AddressSet.{bit, difference_of}
use Rattle.address_set.specs.laws.Bits.{bit_le, or_bit, bit_of_zero}
use Rattle.state.specs.declared.Lease.{Lease}
use Rattle.state.specs.declared.TenantLeases.{TenantLeases}
use Rattle.state.specs.declared.LeaseTable.{LeaseTable}
use Rattle.state.specs.declared.Scope.{Scope}
use Rattle.state.specs.declared.State.{State}
use Rattle.state.specs.Book.{in_use, laid_out, leases_of, union_all, addresses_of, in_scope, held_of, busy_of}
use Rattle.state.specs.laws.Sets.{addresses_cons}
use Rattle.soundness.specs.declared.HeldTable.{HeldTable}
use Rattle.soundness.specs.Sound.{one_to, apart_in}
use Rattle.soundness.specs.Parts.{set_at, held_sets, holdings_of}
use Rattle.soundness.specs.View.{View}
use Rattle.soundness.specs.laws.Book.{lease_ok, Sound}
use Rattle.soundness.proofs.Lists.{sound_lists}
use Rattle.soundness.specs.laws.Added.{each_at, owners_at}
use Rattle.soundness.specs.laws.Facts.{scopes_few, lease_facts}
use Rattle.allocation.specs.declared.Ask.{Ask}
use Rattle.allocation.specs.declared.Grant.{Grant}
use Rattle.allocation.specs.Rule.{busy_in, free_of, grant_of, grant_to}
use Rattle.allocation.specs.Loops.{set_in, sets_in, free_in}
use Rattle.allocation.specs.Own.{grant_known, grant_in}
use Rattle.allocation.specs.laws.Loops.{held_read, grant_by}
use Rattle.allocation.specs.laws.Sets.{difference_agrees}
use Rattle.allocation.specs.laws.Kept.{bits_disjoint, apart_in_law, used_held}

-- ---- the sets of all tenants
-- no lease is in a scope that there cannot be
none_in : (s : State) (k : ℕ) (ls : List Lease) → s.scope_count ≤ 4 → one_to 4 k ≡ false → all_by (lease_ok s) ls ≡ true → held_of k ls ≡ 0
unfolding addresses_of filter_by union_all one_to pick
none_in s k [] few e h = refl
none_in s k (l ∷ ls) few e h =
    addresses_cons (in_scope k) l ls ∙ ap₂ bit_or (go (eqb l.scope k) refl) (none_in s k ls few e (all_head (lease_ok s) l ls h).1)
  where
    go : (b : Bool) → eqb l.scope k ≡ b → pick b l.addresses 0 ≡ 0
    go false q = refl
    go true q =
        let f = lease_facts s l (all_head (lease_ok s) l ls h).0 in
        let z : l.scope ≡ k = eqb-true l.scope k q in
        let y : (leb 1 k && leb k 4) ≡ true = and_both (le-leb 1 k (omega (arith, f.scope_some))) (le-leb k 4 (omega (arith, f.scope_known_law))) in
        let x : true ≡ false = sym y ∙ e in
        let w : ◌≡◌ {A = ℕ} 0 1 = cc in absurd (omega arith)

set_of_law : (t : TenantLeases) (k : ℕ) → 1 ≤ k → k ≤ 4 → set_at (held_sets t) (k - 1) ≡ held_of k (in_use t)
unfolding held_sets
set_of_law t zero h g = absurd (omega arith)
set_of_law t (suc zero) h g = refl
set_of_law t (suc (suc zero)) h g = refl
set_of_law t (suc (suc (suc zero))) h g = refl
set_of_law t (suc (suc (suc (suc zero)))) h g = refl
set_of_law t (suc (suc (suc (suc (suc k))))) h g = absurd (omega arith)

set_is : (s : State) (k : ℕ) (t : TenantLeases) → s.scope_count ≤ 4 → all_by (lease_ok s) (in_use t) ≡ true → set_in k (held_sets t) ≡ held_of k (in_use t)
unfolding set_in one_to pick
set_is s k t few h = go (one_to 4 k) refl
  where
    both : one_to 4 k ≡ true → (leb 1 k ≡ true) × (leb k 4 ≡ true)
    both e = and_parts (leb 1 k) (leb k 4) e

    go : (b : Bool) → one_to 4 k ≡ b → pick b (set_at (held_sets t) (k - 1)) 0 ≡ held_of k (in_use t)
    go true e = set_of_law t k (leb-true 1 k (both e).0) (leb-true k 4 (both e).1)
    go false e = sym (none_in s k (in_use t) few e h)

sets_are : (s : State) (k : ℕ) (ts : List TenantLeases) → s.scope_count ≤ 4 → all_by (all_by (lease_ok s)) (map in_use ts) ≡ true → map (set_in k) (map held_sets ts) ≡ map (held_of k) (map in_use ts)
sets_are s k [] few h = refl
sets_are s k (t ∷ ts) few h =
    let p = all_head (all_by (lease_ok s)) (in_use t) (map in_use ts) h in
    ap₂ {C = List ℕ} (λ (x : ℕ) (l : List ℕ). x ∷ l) (set_is s k t few p.0) (sets_are s k ts few p.1)

-- ---- a tenant's address is busy by a lease of its own, or not at all
-- m is one bit of a set of the tenant's; g is another tenant
module _ (k from to a m : ℕ) (one : m ≤ 1) where
  free_of_all : (ls : List (List Lease)) → ((g : ℕ) → bit (held_of k (get_or ls g [])) a + m ≤ 1) → bit (busy_in k from to ls) a + m ≤ 1
  unfolding busy_in union_all
  free_of_all [] f = let z = bit_of_zero a in omega arith
  free_of_all (y ∷ ls) f =
      let o = or_bit (busy_of k from to y) (busy_in k from to ls) a in
      let p = used_held k from to y a in let q = f 0 in
      let r = free_of_all ls (λ g. f (suc g)) in
      omega arith

  free_of_others : (ls : List (List Lease)) (h : ℕ) (x : List Lease) → h < length ls → ((g : ℕ) → (g ≡ h → ⊥) → bit (held_of k (get_or ls g [])) a + m ≤ 1)
      → min m (bit (busy_in k from to (set ls h x)) a) ≡ min m (bit (busy_of k from to x) a)
  unfolding busy_in union_all
  free_of_others [] h x p f = absurd (omega arith)
  free_of_others (y ∷ ls) zero x p f =
      let o = or_bit (busy_of k from to x) (busy_in k from to ls) a in
      let r = free_of_all ls (λ g. f (suc g) (λ e. absurd (omega arith))) in
      omega arith
  free_of_others (y ∷ ls) (suc h) x p f =
      let o = or_bit (busy_of k from to y) (busy_in k from to (set ls h x)) a in
      let u = used_held k from to y a in let q = f 0 (λ e. absurd (omega arith)) in
      let r = free_of_others ls h x (omega arith) (λ g n. f (suc g) (λ e. n (omega arith))) in
      omega arith

module _ (s : State) (ls : List (List Lease)) (v : Sound s ls) (h k : ℕ) where
  -- no other tenant holds an address of the tenant's
  apart_bits : (g : ℕ) → (g ≡ h → ⊥) → (a : ℕ) → bit (held_of k (get_or ls g [])) a + bit (held_of k (get_or ls h [])) a ≤ 1
  unfolding one_to
  apart_bits g n a = go (one_to 4 k) refl
    where
      apart_here : (j : ℕ) → 1 ≤ j → j ≤ 4 → apart_in j (get_or ls h []) (get_or ls g []) ≡ true
      apart_here zero p q = absurd (omega arith)
      apart_here (suc j) p q =
          subst (λ (i : ℕ). apart_in i (get_or ls h []) (get_or ls g []) ≡ true) (add-one j) (apart_in_law (get_or ls h []) (get_or ls g []) j (omega arith) (owners_at s ls v h g n))

      go : (b : Bool) → one_to 4 k ≡ b → bit (held_of k (get_or ls g [])) a + bit (held_of k (get_or ls h [])) a ≤ 1
      go true e =
          let p = and_parts (leb 1 k) (leb k 4) e in
          let q = bits_disjoint (held_of k (get_or ls h [])) (held_of k (get_or ls g [])) (apart_here k (leb-true 1 k p.0) (leb-true k 4 p.1)) a in
          omega arith
      go false e =
          let z : bit (held_of k (get_or ls h [])) a ≡ 0 = ap (λ (x : ℕ). bit x a) (none_in s k (get_or ls h []) (scopes_few s ls v) e (each_at s ls v h)) ∙ bit_of_zero a in
          let b = bit_le (held_of k (get_or ls g [])) a in
          omega arith

  -- the same where other leases x have taken the place of the tenant's
  pub busy_own : (from to m : ℕ) (x : List Lease) → h < length ls → ((a : ℕ) → bit m a ≤ bit (held_of k (get_or ls h [])) a)
      → (a : ℕ) → min (bit m a) (bit (busy_in k from to (set ls h x)) a) ≡ min (bit m a) (bit (busy_of k from to x) a)
  busy_own from to m x p f a =
      free_of_others k from to a (bit m a) (bit_le m a) ls h x p (λ g n. let q = apart_bits g n a in let r = f a in omega arith)

-- ---- what a call has of a book
module _ {s : State} {t : LeaseTable} {h : ℕ} {own : TenantLeases} {held : HeldTable} (w : View s t h own held) where
  pub view_sound : Sound s (leases_of t)
  view_sound = sound_lists s t w.sound

  pub view_there : h < length (leases_of t)
  view_there = let e = length-map t.tenants in_use in let k = w.known in let n = w.eight in omega arith

  pub view_own : in_use own ≡ get_or (leases_of t) h []
  unfolding laid_out
  view_own = ap in_use w.records ∙ sym (get_or-map in_use t.tenants h (laid_out []))

  pub view_sets : (k : ℕ) → sets_in k held ≡ map (held_of k) (leases_of t)
  unfolding sets_in holdings_of
  view_sets k =
      ap (λ (x : HeldTable). map (set_in k) x.tenants) w.holdings ∙ sets_are s k t.tenants (scopes_few s (leases_of t) view_sound) view_sound.each

-- ---- the grant
-- of any sound leases: by the tenant's own, and by what all tenants hold in the scope asked for
module _ (c : Scope) (n : ℕ) (a : Ask) {s : State} (ls : List (List Lease)) (v : Sound s ls) (there : a.tenant < length ls) (own : List Lease) (held : HeldTable)
    (mine : own ≡ get_or ls a.tenant []) (sets : sets_in a.scope held ≡ map (held_of a.scope) ls) where
  -- the tenant's addresses that are free in the period
  free_by : free_in (sets_in a.scope held) own a ≡ free_of ls a
  unfolding free_in
  free_by =
      let h : ℕ = a.tenant in
      let k : ℕ = a.scope in
      let x : List Lease = get_or ls h [] in
      ap₂ difference_of (ap (λ (m : List ℕ). get_or m h 0) sets ∙ held_read k ls h) (ap (busy_of k a.from a.to) mine)
      ∙ difference_agrees (held_of k x) (busy_of k a.from a.to x) (busy_in k a.from a.to ls)
      (λ b. sym (busy_own s ls v h k a.from a.to (held_of k x) x there (λ b. omega arith) b)
      ∙ ap (λ (l : List (List Lease)). min (bit (held_of k x) b) (bit (busy_in k a.from a.to l) b)) (set-get_or ls h []))

  pub grant_by_lists : grant_in own held c n a ≡ grant_to c n ls a
  unfolding grant_in grant_to pick
  grant_by_lists = go (ltb a.tenant (min n 8)) refl
    where
      go : (b : Bool) → ltb a.tenant (min n 8) ≡ b
          → ◌≡◌ {A = Grant} (pick b (grant_known own held c (min n 8) a) (record { number = 0; addresses = 0 })) (pick b (grant_of c (min n 8) ls a) (record { number = 0; addresses = 0 }))
      go true e = grant_by own held c (min n 8) ls a (ltb-true a.tenant (min n 8) e) sets free_by
      go false e = refl

pub grant_in_law : (c : Scope) (n : ℕ) (a : Ask) {s : State} {t : LeaseTable} {own : TenantLeases} {held : HeldTable} → View s t a.tenant own held → grant_in (in_use own) held c n a ≡ grant_to c n (leases_of t) a
grant_in_law c n a {s} {t} {own} {held} w = grant_by_lists c n a (leases_of t) (view_sound w) (view_there w) (in_use own) held (view_own w) (view_sets w a.scope)
