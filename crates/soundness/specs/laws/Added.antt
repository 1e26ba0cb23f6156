-- Laws: what keeps a book sound: one tenant's leases change, and what is new keeps the rules.
use Prim.Native.Nat.{ℕ, zero, suc, ◌+◌, ◌≤◌, ◌<◌, max}
use Rattle.std.specs.Prelude.{◌≡◌, Bool, true, false, ◌&&◌, ltb, eqb, drop, get_or, set}
use Rattle.std.proofs.Math.Path.{refl, ap, ap₂, subst}
use Rattle.std.proofs.Common.{sym, ◌∙◌, arith, get_or-set_same, get_or-set_other, eq-eqb, ne_eqb, eqb-true, le-leb, leb-true}
use mathlib.Core.List.{List, [], ◌∷◌}
use Rattle.std.specs.Int.Bits.{bit_and, bit_or, and_zero_r}
use Rattle.std.proofs.lemmas.Nat.{and_comm}
use Rattle.std.proofs.Math.ListN.{length}
use Rattle.std.proofs.lemmas.Bool.{eqb-false}
use Rattle.lists.specs.Pick.{pick}
use Rattle.lists.specs.All.{all_by, pairs_by}
use Rattle.lists.specs.laws.All.{all_head, all_cons, pairs_head, pairs_cons}
use Rattle.lists.specs.laws.Both.{and_parts, and_both, all_and, pairs_and}
use Rattle.lists.specs.Filter.{filter_by}
use Rattle.lists.specs.laws.Filter.{filter_all, filter_pairs, filter_passes}
use Rattle.lists.specs.laws.Sums.{sum_same}
use Rattle.state.specs.declared.Lease.{Lease}
use Rattle.state.specs.declared.State.{State}
use Rattle.state.specs.Book.{Order, id_of, differ, other, place_of, lease_at, insert_of, remove_of, addresses_of, union_all, overlaps, in_scope, held_of, held_count, scope_at, reserve_at, limit_at, held_at, committed, committed_sum}
use Rattle.state.specs.laws.Sets.{adds, addresses_cons, addresses_reordered, insert_addresses}
use Rattle.address_set.specs.AddressSet.{offsets}
use Rattle.state.specs.laws.Sorted.{differ_turn, insert_same, others_differ, taken_out}
use Rattle.lists.specs.Reordered.{Reordered}
use Rattle.lists.specs.laws.Reordered.{reordered_length, reordered_all, reordered_pairs}
use Rattle.address_set.specs.laws.Bits.{and_or}
use Rattle.soundness.specs.Sound.{tenants_in, scopes_in, disjoint, apart_in, apart, compatible}
use Rattle.soundness.specs.laws.Book.{lease_ok, pair_ok, few_leases, no_leases_b, Sound}

-- ---- lists with one element changed
pub all_set : {A : Type 0} (t : A → Bool) (l : List A) (h : ℕ) (x : A) → t x ≡ true → all_by t l ≡ true → all_by t (set l h x) ≡ true
all_set t [] h x p q = q
all_set t (y ∷ l) zero x p q = all_cons t x l p (all_head t y l q).1
all_set t (y ∷ l) (suc h) x p q = let r = all_head t y l q in all_cons t y (set l h x) r.0 (all_set t l h x p r.1)

all_at : {A : Type 0} (t : A → Bool) (d : A) (l : List A) → ((g : ℕ) → t (get_or l g d) ≡ true) → all_by t l ≡ true
unfolding all_by
all_at t d [] f = refl
all_at t d (x ∷ l) f = all_cons t x l (f 0) (all_at t d l (λ g. f (suc g)))

pairs_set : {A : Type 0} (t : A → A → Bool) (turn : (x y : A) → t x y ≡ t y x) (d : A) (l : List A) (h : ℕ) (x : A)
    → ((g : ℕ) → (g ≡ h → ⊥) → t x (get_or l g d) ≡ true) → pairs_by t l ≡ true → pairs_by t (set l h x) ≡ true
pairs_set t turn d [] h x f q = q
pairs_set t turn d (y ∷ l) zero x f q = pairs_cons t x l (all_at (t x) d l (λ g. f (suc g) (λ e. absurd (omega arith)))) (pairs_head t y l q).1
pairs_set t turn d (y ∷ l) (suc h) x f q =
    let r = pairs_head t y l q in
    pairs_cons t y (set l h x) (all_set (t y) l h x (turn y x ∙ f 0 (λ e. absurd (omega arith))) r.0)
    (pairs_set t turn d l h x (λ g e. f (suc g) (λ q. e (omega arith))) r.1)

drop_set : {A : Type 0} (l : List A) (n h : ℕ) (x : A) → h < n → drop n (set l h x) ≡ drop n l
drop_set [] n h x p = refl
drop_set (y ∷ l) zero h x p = absurd (omega arith)
drop_set (y ∷ l) (suc n) zero x p = refl
drop_set (y ∷ l) (suc n) (suc h) x p = drop_set l n h x (omega arith)

-- ---- both ways round
disjoint_turn : (m n : ℕ) → disjoint m n ≡ disjoint n m
unfolding disjoint
disjoint_turn m n = ap (λ (x : ℕ). eqb x 0) (and_comm m n)

apart_turn : (a b : List Lease) → apart a b ≡ apart b a
unfolding apart
apart_turn a b =
    ap₂ (λ (p q : Bool). p && q) (disjoint_turn (held_of 1 a) (held_of 1 b))
    (ap₂ (λ (p q : Bool). p && q) (disjoint_turn (held_of 2 a) (held_of 2 b)) (ap₂ (λ (p q : Bool). p && q) (disjoint_turn (held_of 3 a) (held_of 3 b)) (disjoint_turn (held_of 4 a) (held_of 4 b))))

eqb_turn : (m n : ℕ) → eqb m n ≡ eqb n m
eqb_turn m n = go (eqb n m) refl
  where
    go : (b : Bool) → eqb n m ≡ b → eqb m n ≡ b
    go true e = eq-eqb m n (sym (eqb-true n m e))
    go false e = ne_eqb m n (λ q. eqb-false n m e (sym q))

and_turn : (a b : Bool) → (a && b) ≡ (b && a)
and_turn true true = refl
and_turn true false = refl
and_turn false true = refl
and_turn false false = refl

pub compatible_turn : (a b : Lease) → compatible a b ≡ compatible b a
unfolding compatible overlaps
compatible_turn a b =
    ap₂ (λ (p q : Bool). pick p q true) (eqb_turn a.scope b.scope)
    (ap₂ (λ (p q : Bool). pick p q true) (and_turn (ltb a.start b.end) (ltb b.start a.end)) (disjoint_turn a.addresses b.addresses))

pub pair_turn : (a b : Lease) → pair_ok a b ≡ pair_ok b a
unfolding pair_ok
pair_turn a b = ap₂ (λ (p q : Bool). p && q) (differ_turn a b) (compatible_turn a b)

-- ---- a tenant's part of a sound book
pub sound_at : (t : List Lease → Bool) (ls : List (List Lease)) (h : ℕ) → t [] ≡ true → all_by t ls ≡ true → t (get_or ls h []) ≡ true
sound_at t [] h e p = e
sound_at t (x ∷ ls) zero e p = (all_head t x ls p).0
sound_at t (x ∷ ls) (suc h) e p = sound_at t ls h e (all_head t x ls p).1

module _ (s : State) (ls : List (List Lease)) (v : Sound s ls) (h : ℕ) where
  pub each_at : all_by (lease_ok s) (get_or ls h []) ≡ true
  unfolding all_by
  each_at = sound_at (all_by (lease_ok s)) ls h refl v.each

  pub pairs_at : pairs_by pair_ok (get_or ls h []) ≡ true
  unfolding pairs_by
  pairs_at = sound_at (pairs_by pair_ok) ls h refl v.pairs

  pub few_at : length (get_or ls h []) ≤ 16
  few_at = leb-true _ _ (sound_at few_leases ls h refl v.few)

pub rises_at : (o : Order) (ls : List (List Lease)) (h : ℕ) → all_by (pairs_by o) ls ≡ true → pairs_by o (get_or ls h []) ≡ true
unfolding pairs_by
rises_at o ls h rises = sound_at (pairs_by o) ls h refl rises

-- two tenants of a sound book have no address in common
apart_none : (x : List Lease) → apart x [] ≡ true
unfolding apart disjoint addresses_of filter_by union_all
apart_none x = and_both (none 1) (and_both (none 2) (and_both (none 3) (none 4)))
  where
    none : (k : ℕ) → eqb (bit_and (held_of k x) 0) 0 ≡ true
    none k = eq-eqb (bit_and (held_of k x) 0) 0 (and_zero_r (held_of k x))

pairs_two : (xs : List (List Lease)) (i j : ℕ) → (j ≡ i → ⊥) → pairs_by apart xs ≡ true → apart (get_or xs i []) (get_or xs j []) ≡ true
pairs_two [] i j n h = apart_none []
pairs_two (x ∷ xs) zero zero n h = absurd (n refl)
pairs_two (x ∷ xs) zero (suc j) n h = sound_at (apart x) xs j (apart_none x) (pairs_head apart x xs h).0
pairs_two (x ∷ xs) (suc i) zero n h = apart_turn (get_or xs i []) x ∙ sound_at (apart x) xs i (apart_none x) (pairs_head apart x xs h).0
pairs_two (x ∷ xs) (suc i) (suc j) n h = pairs_two xs i j (λ e. n (ap suc e)) (pairs_head apart x xs h).1

pub owners_at : (s : State) (ls : List (List Lease)) → Sound s ls → (h g : ℕ) → (g ≡ h → ⊥) → apart (get_or ls h []) (get_or ls g []) ≡ true
owners_at s ls v h g n = pairs_two ls h g n v.owners

-- ---- one tenant's leases give way to others
pub sound_put : (s : State) (ls : List (List Lease)) (h : ℕ) (x : List Lease) → Sound s ls → h < tenants_in s → h < length ls
    → few_leases x ≡ true → all_by (lease_ok s) x ≡ true → pairs_by pair_ok x ≡ true
    → ((g : ℕ) → (g ≡ h → ⊥) → apart x (get_or ls g []) ≡ true)
    → ((k : ℕ) → k < scopes_in s → held_count (k + 1) x ≤ limit_at (scope_at s k) h)
    → ((k : ℕ) → k < scopes_in s → committed_sum (scope_at s k) (tenants_in s) (held_at (set ls h x) (k + 1)) ≤ (scope_at s k).size)
    → Sound s (set ls h x)
sound_put s ls h x v known there few each pairs owners holdings commitments = record {
  settings = v.settings;
  few = all_set few_leases ls h x few v.few;
  each = all_set (all_by (lease_ok s)) ls h x each v.each;
  pairs = all_set (pairs_by pair_ok) ls h x pairs v.pairs;
  tenants = ap (all_by no_leases_b) (drop_set ls (tenants_in s) h x known) ∙ v.tenants;
  owners = pairs_set apart apart_turn [] ls h x owners v.owners;
  holdings = λ k g p q. at k g p q (eqb g h) refl;
  commitments = commitments;
}
  where
    at : (k g : ℕ) → k < scopes_in s → g < tenants_in s → (b : Bool) → eqb g h ≡ b → held_count (k + 1) (get_or (set ls h x) g []) ≤ limit_at (scope_at s k) g
    at k g p q true e =
        let z : g ≡ h = eqb-true g h e in
        subst (λ (j : ℕ). held_count (k + 1) (get_or (set ls h x) j []) ≤ limit_at (scope_at s k) j) (sym z)
        (subst (λ (y : List Lease). held_count (k + 1) y ≤ limit_at (scope_at s k) h) (sym (get_or-set_same ls h x [] there)) (holdings k p))
    at k g p q false e =
        subst (λ (y : List Lease). held_count (k + 1) y ≤ limit_at (scope_at s k) g) (sym (get_or-set_other ls h g x [] (eqb-false g h e))) (v.holdings k g p q)

-- ---- a new lease
disjoint_or : (m n k : ℕ) → disjoint m k ≡ true → disjoint n k ≡ true → disjoint (bit_or m n) k ≡ true
unfolding disjoint
disjoint_or m n k p q =
    eq-eqb (bit_and (bit_or m n) k) 0
    (and_comm (bit_or m n) k ∙ and_or k m n ∙ ap₂ bit_or (and_comm k m ∙ eqb-true (bit_and m k) 0 p) (and_comm k n ∙ eqb-true (bit_and n k) 0 q))

-- what a new lease takes of each scope is no other tenant's
pub apart_inserted : (l : Lease) (x y : List Lease) → apart x y ≡ true → ((s : ℕ) → disjoint (adds (in_scope s) l) (held_of s y) ≡ true) → apart (insert_of l x) y ≡ true
unfolding apart
apart_inserted l x y e f =
    let p = and_parts (apart_in 1 x y) (apart_in 2 x y && (apart_in 3 x y && apart_in 4 x y)) e in
    let q = and_parts (apart_in 2 x y) (apart_in 3 x y && apart_in 4 x y) p.1 in
    let r = and_parts (apart_in 3 x y) (apart_in 4 x y) q.1 in
    and_both (more 1 p.0) (and_both (more 2 q.0) (and_both (more 3 r.0) (more 4 r.1)))
  where
    more : (s : ℕ) → apart_in s x y ≡ true → apart_in s (insert_of l x) y ≡ true
    more s h = ap (λ (m : ℕ). disjoint m (held_of s y)) (insert_addresses (in_scope s) l x) ∙ disjoint_or (adds (in_scope s) l) (held_of s x) (held_of s y) (f s) h

-- a lease that a tenant gains, wherever it stands among the others
pub sound_gained : (s : State) (ls : List (List Lease)) (h : ℕ) (l : Lease) (y : List Lease) → Sound s ls → h < tenants_in s → h < length ls
    → Reordered y (l ∷ get_or ls h [])
    → length (get_or ls h []) < 16 → lease_ok s l ≡ true → all_by (other (id_of l)) (get_or ls h []) ≡ true → all_by (compatible l) (get_or ls h []) ≡ true
    → ((g : ℕ) → (g ≡ h → ⊥) → apart y (get_or ls g []) ≡ true)
    → ((k : ℕ) → k < scopes_in s → held_count (k + 1) y ≤ limit_at (scope_at s k) h)
    → ((k : ℕ) → k < scopes_in s → committed_sum (scope_at s k) (tenants_in s) (held_at (set ls h y) (k + 1)) ≤ (scope_at s k).size)
    → Sound s (set ls h y)
unfolding pair_ok
sound_gained s ls h l y v known there d room lease_ok_law new compatible_ok owners holdings commitments =
    let x : List Lease = get_or ls h [] in
    sound_put s ls h y v known there (le-leb (length y) 16 (let e = reordered_length d in omega arith))
    (reordered_all (lease_ok s) d ∙ all_cons (lease_ok s) l x lease_ok_law (each_at s ls v h))
    (reordered_pairs pair_ok pair_turn d ∙ pairs_cons pair_ok l x (all_and (differ l) (compatible l) x ∙ and_both (sym (others_differ l x) ∙ new) compatible_ok) (pairs_at s ls v h))
    owners holdings commitments

-- a grant, in its place
pub sound_inserted : (s : State) (ls : List (List Lease)) (h : ℕ) (l : Lease) → Sound s ls → h < tenants_in s → h < length ls
    → length (get_or ls h []) < 16 → lease_ok s l ≡ true → all_by (other (id_of l)) (get_or ls h []) ≡ true → all_by (compatible l) (get_or ls h []) ≡ true
    → ((g : ℕ) → (g ≡ h → ⊥) → apart (insert_of l (get_or ls h [])) (get_or ls g []) ≡ true)
    → ((k : ℕ) → k < scopes_in s → held_count (k + 1) (insert_of l (get_or ls h [])) ≤ limit_at (scope_at s k) h)
    → ((k : ℕ) → k < scopes_in s → committed_sum (scope_at s k) (tenants_in s) (held_at (set ls h (insert_of l (get_or ls h []))) (k + 1)) ≤ (scope_at s k).size)
    → Sound s (set ls h (insert_of l (get_or ls h [])))
sound_inserted s ls h l v known there room lease_ok_law new compatible_ok =
    sound_gained s ls h l (insert_of l (get_or ls h [])) v known there (insert_same l (get_or ls h [])) room lease_ok_law new compatible_ok

-- ---- a renewed lease: one of the same scope and addresses takes its place
module _ (s : State) (ls : List (List Lease)) (h : ℕ) (i : List ℕ) (l : Lease) (v : Sound s ls) (known : h < tenants_in s) (there : h < length ls)
    (mine : id_of l ≡ i) (found : place_of i (get_or ls h []) < length (get_or ls h []))
    (scope : (lease_at (get_or ls h []) (place_of i (get_or ls h []))).scope ≡ l.scope) (addresses : (lease_at (get_or ls h []) (place_of i (get_or ls h []))).addresses ≡ l.addresses) where
  abbrev own : List Lease
  own = get_or ls h []

  abbrev old : Lease
  old = lease_at (get_or ls h []) (place_of i (get_or ls h []))

  abbrev rest : List Lease
  rest = remove_of i (get_or ls h [])

  abbrev new : List Lease
  new = insert_of l (remove_of i (get_or ls h []))

  apart_ids : pairs_by differ own ≡ true
  unfolding pair_ok
  apart_ids = (and_parts (pairs_by differ own) (pairs_by compatible own) (sym (pairs_and differ compatible own) ∙ pairs_at s ls v h)).0

  out : Reordered own (old ∷ rest)
  out = taken_out i own apart_ids found

  others : all_by (other (id_of l)) rest ≡ true
  unfolding remove_of
  others = ap (λ (j : List ℕ). all_by (other j) rest) mine ∙ filter_passes (other i) own

  renewed_held : (k : ℕ) → held_of k new ≡ held_of k own
  renewed_held k =
      insert_addresses (in_scope k) l rest
      ∙ ap (λ (m : ℕ). bit_or m (held_of k rest)) (ap₂ (λ (c a : ℕ). pick (eqb c k) a 0) (sym scope) (sym addresses))
      ∙ sym (addresses_cons (in_scope k) old rest) ∙ sym (addresses_reordered (in_scope k) out)

  renewed_apart : (y : List Lease) → apart new y ≡ apart own y
  unfolding apart
  renewed_apart y =
      let f : (k : ℕ) → apart_in k new y ≡ apart_in k own y = λ k. ap (λ (m : ℕ). disjoint m (held_of k y)) (renewed_held k) in
      ap₂ (λ (a b : Bool). a && b) (f 1) (ap₂ (λ (a b : Bool). a && b) (f 2) (ap₂ (λ (a b : Bool). a && b) (f 3) (f 4)))

  renewed_count : (k g : ℕ) → held_count k (get_or (set ls h new) g []) ≡ held_count k (get_or ls g [])
  renewed_count k g = go (eqb g h) refl
    where
      go : (b : Bool) → eqb g h ≡ b → held_count k (get_or (set ls h new) g []) ≡ held_count k (get_or ls g [])
      go true e =
          let z = eqb-true g h e in
          ap (λ (j : ℕ). held_count k (get_or (set ls h new) j [])) z ∙ ap (held_count k) (get_or-set_same ls h new [] there) ∙ ap (λ (m : ℕ). length (offsets m)) (renewed_held k)
          ∙ ap (λ (j : ℕ). held_count k (get_or ls j [])) (sym z)
      go false e = ap (held_count k) (get_or-set_other ls h g new [] (eqb-false g h e))

  rest_each : all_by (lease_ok s) rest ≡ true
  unfolding remove_of
  rest_each = filter_all (lease_ok s) (other i) own (each_at s ls v h)

  rest_pairs : pairs_by pair_ok rest ≡ true
  unfolding remove_of
  rest_pairs = filter_pairs pair_ok (other i) own (pairs_at s ls v h)

  new_pairs : all_by (compatible l) rest ≡ true → all_by (pair_ok l) rest ≡ true
  unfolding pair_ok
  new_pairs c = all_and (differ l) (compatible l) rest ∙ and_both (sym (others_differ l rest) ∙ others) c

  pub sound_renewed : lease_ok s l ≡ true → all_by (compatible l) (remove_of i (get_or ls h [])) ≡ true → Sound s (set ls h (insert_of l (remove_of i (get_or ls h []))))
  unfolding committed
  sound_renewed ok c =
      sound_put s ls h new v known there
      (le-leb (length new) 16 (let a = reordered_length out in let b = reordered_length (insert_same l rest) in let d = few_at s ls v h in omega arith))
      (reordered_all (lease_ok s) (insert_same l rest) ∙ all_cons (lease_ok s) l rest ok rest_each)
      (reordered_pairs pair_ok pair_turn (insert_same l rest) ∙ pairs_cons pair_ok l rest (new_pairs c) rest_pairs)
      (λ g n. renewed_apart (get_or ls g []) ∙ owners_at s ls v h g n)
      (λ k q. subst (λ (m : ℕ). length (offsets m) ≤ limit_at (scope_at s k) h) (sym (renewed_held (k + 1))) (v.holdings k h q known))
      (λ k q. subst (λ (m : ℕ). m ≤ (scope_at s k).size)
      (sym (sum_same (committed (scope_at s k) (held_at (set ls h new) (k + 1))) (committed (scope_at s k) (held_at ls (k + 1))) (tenants_in s) (λ g r. ap (λ (n : ℕ). max n (reserve_at (scope_at s k) g)) (renewed_count (k + 1) g)))) (v.commitments k q))
