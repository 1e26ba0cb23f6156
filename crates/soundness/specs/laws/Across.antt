-- Laws: rule 10 over all leases of a sound book: no two on one address overlap, of whichever tenants they are.
use Rattle.std.specs.Prelude.{ℕ, zero, suc, ◌≤◌, ◌≡◌, refl, Bool, true, false, ◌&&◌, List, [], ◌∷◌, ◌++◌, leb}
use Rattle.std.proofs.Common.{sym, ap, ap₂, ◌∙◌, arith, eq-eqb, eqb-true, leb-true, le-leb}
use Rattle.std.specs.Int.Bits.{bit_or}
use Rattle.lists.specs.Pick.{pick}
use Rattle.lists.specs.All.{all_by, pairs_by}
use Rattle.lists.specs.laws.All.{all_head, all_cons, all_append, all_both, pairs_head, pairs_append}
use Rattle.lists.specs.laws.Both.{and_parts, and_both}
use Rattle.address_set.specs.AddressSet.{bit}
use Rattle.address_set.specs.laws.Bits.{or_bit}
use Rattle.state.specs.declared.Lease.{Lease}
use Rattle.state.specs.declared.State.{State}
use Rattle.state.specs.Book.{differ, in_scope, overlaps, held_of, scopes_of}
use Rattle.state.specs.laws.Sets.{adds, addresses_cons}
use Rattle.soundness.specs.Sound.{one_to, counts_b, size_b, scope_known, lease_b, id_b, offsets_b, padded_b, kind_b, period_b, disjoint, apart_in, apart, compatible, hold_b}
use Rattle.soundness.specs.laws.Book.{lease_ok, Sound, pairs_is, settings_front}
use Rattle.soundness.specs.laws.Kept.{disjoint_less}
use Rattle.soundness.specs.Across.{join_all}

-- a scope that there can be
unfoldable pub scope_b : Lease → Bool
scope_b l = one_to 4 l.scope

pub apart_at : (x y : List Lease) → apart x y ≡ true → (k : ℕ) → 1 ≤ k → k ≤ 4 → apart_in k x y ≡ true
unfolding apart
apart_at x y e zero p q = absurd (omega arith)
apart_at x y e (suc zero) p q = (and_parts (apart_in 1 x y) (apart_in 2 x y && (apart_in 3 x y && apart_in 4 x y)) e).0
apart_at x y e (suc (suc zero)) p q = (and_parts (apart_in 2 x y) (apart_in 3 x y && apart_in 4 x y) (and_parts (apart_in 1 x y) (apart_in 2 x y && (apart_in 3 x y && apart_in 4 x y)) e).1).0
apart_at x y e (suc (suc (suc zero))) p q =
    (and_parts (apart_in 3 x y) (apart_in 4 x y) (and_parts (apart_in 2 x y) (apart_in 3 x y && apart_in 4 x y) (and_parts (apart_in 1 x y) (apart_in 2 x y && (apart_in 3 x y && apart_in 4 x y)) e).1).1).0
apart_at x y e (suc (suc (suc (suc zero)))) p q =
    (and_parts (apart_in 3 x y) (apart_in 4 x y) (and_parts (apart_in 2 x y) (apart_in 3 x y && apart_in 4 x y) (and_parts (apart_in 1 x y) (apart_in 2 x y && (apart_in 3 x y && apart_in 4 x y)) e).1).1).1
apart_at x y e (suc (suc (suc (suc (suc k))))) p q = absurd (omega arith)

-- the first lease, and the rest, have no more than the list
pub head_less : (k : ℕ) (a : Lease) (x : List Lease) (n : ℕ) → bit (adds (in_scope k) a) n ≤ bit (held_of k (a ∷ x)) n
head_less k a x n =
    let e : bit (held_of k (a ∷ x)) n ≡ bit (bit_or (adds (in_scope k) a) (held_of k x)) n = ap (λ (m : ℕ). bit m n) (addresses_cons (in_scope k) a x) in
    let q = or_bit (adds (in_scope k) a) (held_of k x) n in omega arith

tail_less : (k : ℕ) (a : Lease) (x : List Lease) (n : ℕ) → bit (held_of k x) n ≤ bit (held_of k (a ∷ x)) n
tail_less k a x n =
    let e : bit (held_of k (a ∷ x)) n ≡ bit (bit_or (adds (in_scope k) a) (held_of k x)) n = ap (λ (m : ℕ). bit m n) (addresses_cons (in_scope k) a x) in
    let q = or_bit (adds (in_scope k) a) (held_of k x) n in omega arith

same : (m n : ℕ) → bit m n ≤ bit m n
same m n = omega arith

-- two leases in one scope with no address in common are compatible, and so are two in different scopes
two : (a b : Lease) → disjoint (adds (in_scope a.scope) a) (adds (in_scope a.scope) b) ≡ true → compatible a b ≡ true
unfolding compatible pick
two a b d = go (in_scope b.scope a) refl
  where
    last : (c : Bool) → pick c true true ≡ true
    last true = refl
    last false = refl

    go : (c : Bool) → in_scope b.scope a ≡ c → pick c (pick (overlaps b.start b.end a) (disjoint a.addresses b.addresses) true) true ≡ true
    go false e = refl
    go true e =
        let p : a.scope ≡ b.scope = eqb-true a.scope b.scope e in
        let f : adds (in_scope a.scope) a ≡ a.addresses = ap (λ (c : Bool). pick c a.addresses 0) (eq-eqb a.scope a.scope refl) in
        let g : adds (in_scope a.scope) b ≡ b.addresses = ap (λ (c : Bool). pick c b.addresses 0) (eq-eqb b.scope a.scope (sym p)) in
        ap (λ (c : Bool). pick (overlaps b.start b.end a) c true) (sym (ap₂ disjoint f g) ∙ d) ∙ last (overlaps b.start b.end a)

-- one lease with all of a list that has none of its addresses
one : (a : Lease) (y : List Lease) → disjoint (adds (in_scope a.scope) a) (held_of a.scope y) ≡ true → all_by (compatible a) y ≡ true
unfolding all_by
one a [] h = refl
one a (b ∷ y) h =
    let m : ℕ = adds (in_scope a.scope) a in
    let n : ℕ = held_of a.scope (b ∷ y) in
    all_cons (compatible a) b y (two a b (disjoint_less m n m (adds (in_scope a.scope) b) (same m) (head_less a.scope b y) h))
    (one a y (disjoint_less m n m (held_of a.scope y) (same m) (tail_less a.scope b y) h))

-- all of two tenants' leases
both : (x y : List Lease) → all_by scope_b x ≡ true → ((k : ℕ) → 1 ≤ k → k ≤ 4 → disjoint (held_of k x) (held_of k y) ≡ true) → all_by (λ a. all_by (compatible a) y) x ≡ true
unfolding all_by scope_b one_to
both [] y p f = refl
both (a ∷ x) y p f =
    let q = all_head scope_b a x p in
    let r = and_parts (leb 1 a.scope) (leb a.scope 4) q.0 in
    let k : ℕ = a.scope in
    all_cons (λ a. all_by (compatible a) y) a x
    (one a y (disjoint_less (held_of k (a ∷ x)) (held_of k y) (adds (in_scope k) a) (held_of k y) (head_less k a x) (same (held_of k y)) (f k (leb-true 1 k r.0) (leb-true k 4 r.1))))
    (both x y q.1 (λ k u v. disjoint_less (held_of k (a ∷ x)) (held_of k y) (held_of k x) (held_of k y) (tail_less k a x) (same (held_of k y)) (f k u v)))

every : (x : List Lease) → all_by (λ a. true) x ≡ true
unfolding all_by
every [] = refl
every (a ∷ x) = all_cons (λ a. true) a x refl (every x)

-- one tenant's with those of all later ones
later : (x : List Lease) (ls : List (List Lease)) → all_by scope_b x ≡ true → all_by (apart x) ls ≡ true → all_by (λ a. all_by (compatible a) (join_all ls)) x ≡ true
unfolding join_all all_by
later x [] p h = every x
later x (l ∷ ls) p h =
    let q = all_head (apart x) l ls h in
    all_both (λ a. all_by (compatible a) l) (λ a. all_by (compatible a) (join_all ls)) (λ a. all_by (compatible a) (l ++ join_all ls)) x (λ a u v. all_append (compatible a) l (join_all ls) u v)
    (both x l p (λ k u v. apart_at x l q.0 k u v)) (later x ls p q.1)

compatible_all : (ls : List (List Lease)) → all_by (all_by scope_b) ls ≡ true → all_by (pairs_by compatible) ls ≡ true → pairs_by apart ls ≡ true → pairs_by compatible (join_all ls) ≡ true
unfolding join_all pairs_by
compatible_all [] p q r = refl
compatible_all (l ∷ ls) p q r =
    let u = all_head (all_by scope_b) l ls p in
    let v = all_head (pairs_by compatible) l ls q in
    let w = pairs_head apart l ls r in
    pairs_append compatible l (join_all ls) v.0 (compatible_all ls u.1 v.1 w.1) (later l ls u.0 w.0)

scope_known_law : (s : State) (l : Lease) → counts_b s ≡ true → lease_ok s l ≡ true → scope_b l ≡ true
unfolding lease_ok lease_b counts_b scope_b one_to
scope_known_law s l c e =
    let p = (and_parts (lease_b s l) (padded_b l && hold_b s.clock l) (and_parts (id_b l && offsets_b s l) (lease_b s l && (padded_b l && hold_b s.clock l)) e).1).0 in
    let q = (and_parts (scope_known s l) (kind_b l && period_b s.clock l) p).0 in
    let r = and_parts (leb 1 l.scope) (leb l.scope s.scope_count) q in
    let f = (and_parts (one_to 8 s.tenant_count) (one_to 4 s.scope_count && all_by size_b (scopes_of s)) c).1 in
    let g = and_parts (leb 1 s.scope_count) (leb s.scope_count 4) (and_parts (one_to 4 s.scope_count) (all_by size_b (scopes_of s)) f).0 in
    let a = leb-true l.scope s.scope_count r.1 in
    let b = leb-true s.scope_count 4 g.1 in
    and_both r.0 (le-leb l.scope 4 (omega arith))

pub lists_compatible : (s : State) (ls : List (List Lease)) → Sound s ls → pairs_by compatible (join_all ls) ≡ true
lists_compatible s ls v =
    let c = (settings_front s ls v).0 in
    compatible_all ls
    (all_both (all_by (lease_ok s)) (all_by (lease_ok s)) (all_by scope_b) ls (λ l p q. all_both (lease_ok s) (lease_ok s) scope_b l (λ x a b. scope_known_law s x c a) p p) v.each v.each)
    (and_parts (all_by (pairs_by differ) ls) (all_by (pairs_by compatible) ls) (sym (pairs_is ls) ∙ v.pairs)).1 v.owners
