-- Laws: what keeps a book sound: leases only go.
use Rattle.std.specs.Prelude.{ℕ, zero, suc, ◌+◌, ◌≤◌, ◌<◌, min, ◌≡◌, refl, Bool, true, false, ◌&&◌, leb, ltb, length, drop, get_or, set}
use Rattle.std.proofs.Common.{sym, ap, ◌∙◌, subst, arith, le_trans, eq-eqb, eqb-true, le-leb, leb-true, lt-ltb, ltb-true}
use mathlib.Core.List.Permᴰ
use mathlib.Core.List.{List, [], ◌∷◌, map, append-nil}
use Rattle.std.specs.Int.Bits.{bit_and, bit_or}
use Rattle.lists.specs.All.{all_by, pairs_by}
use Rattle.lists.specs.laws.All.{all_head, all_cons, all_both, pairs_head, pairs_cons}
use Rattle.lists.specs.laws.Both.{and_parts, and_both}
use Rattle.lists.specs.Pick.{pick}
use Rattle.lists.specs.Filter.{filter_by}
use Rattle.lists.specs.laws.Filter.{filter_all, filter_pairs, filter_passes}
use Rattle.lists.specs.Reordered.{Reordered}
use Rattle.lists.specs.laws.Some.{Part, part_all, part_pairs, part_length, filter_part}
use Rattle.lists.specs.Sums.{sum_to}
use Rattle.address_set.specs.AddressSet.{bit, keep, offsets_from, offsets}
use Rattle.address_set.specs.laws.Bits.{or_bit, and_bit, bit_eq, bit_of_zero}
use Rattle.state.specs.declared.Lease.{Lease}
use Rattle.state.specs.declared.State.{State}
use Rattle.state.specs.Book.{Order, other, remove_of, live, live_of, with_clock, held_of, held_count, in_scope, scope_at, held_at, committed, hold_time, is_hold, until}
use Rattle.state.specs.laws.Sets.{addresses_append, addresses_reordered}
use Rattle.soundness.specs.Sound.{tenants_in, id_b, offsets_b, scope_known, kind_b, period_b, lease_b, padded_b, disjoint, apart_in, apart, counts_b, rule3, rule4, rule5, rule6, settings_b, hold_b, lapse_b}
use Rattle.soundness.specs.laws.Book.{settings_ok, lease_ok, pair_ok, few_leases, no_leases_b, Sound}
use Rattle.soundness.specs.laws.Added.{pair_turn}

-- ---- fewer addresses
-- a set with no other bits has no more offsets
count_from : (m n at k : ℕ) → ((a : ℕ) → bit m a ≤ bit n a) → length (offsets_from m at k) ≤ length (offsets_from n at k)
unfolding offsets_from
count_from m n at zero h = omega arith
count_from m n at (suc k) h = go (bit m at) (bit n at) (h at) (count_from m n (suc at) k h)
  where
    go : (b c : ℕ) → b ≤ c → length (offsets_from m (suc at) k) ≤ length (offsets_from n (suc at) k)
        → length (keep b at (offsets_from m (suc at) k)) ≤ length (keep c at (offsets_from n (suc at) k))
    go zero zero p ih = ih
    go zero (suc c) p ih = omega arith
    go (suc b) zero p ih = absurd (omega arith)
    go (suc b) (suc c) p ih = omega arith

pub count_less : (m n : ℕ) → ((a : ℕ) → bit m a ≤ bit n a) → length (offsets m) ≤ length (offsets n)
count_less m n h = count_from m n 0 64 h

pub disjoint_less : (m n m' n' : ℕ) → ((a : ℕ) → bit m' a ≤ bit m a) → ((a : ℕ) → bit n' a ≤ bit n a) → disjoint m n ≡ true → disjoint m' n' ≡ true
unfolding disjoint
disjoint_less m n m' n' f g e = eq-eqb (bit_and m' n') 0 (bit_eq (bit_and m' n') 0 (λ a. and_bit m' n' a ∙ none a ∙ sym (bit_of_zero a)))
  where
    none : (a : ℕ) → min (bit m' a) (bit n' a) ≡ 0
    none a =
        let z : min (bit m a) (bit n a) ≡ 0 = sym (and_bit m n a) ∙ ap (λ (x : ℕ). bit x a) (eqb-true (bit_and m n) 0 e) ∙ bit_of_zero a in
        let p = f a in let q = g a in omega arith

-- ---- fewer leases: some of each tenant's, in whichever order
unfoldable pub Shrunk : List (List Lease) → List (List Lease) → Type 0
Shrunk [] [] = Unit {0}
Shrunk [] (y ∷ ys) = ⊥
Shrunk (x ∷ xs) [] = ⊥
Shrunk (x ∷ xs) (y ∷ ys) = Part x y × Shrunk xs ys

pub held_less : (s : ℕ) (x y : List Lease) → Part x y → (a : ℕ) → bit (held_of s y) a ≤ bit (held_of s x) a
held_less s x y (z, d) a =
    let q = or_bit (held_of s y) (held_of s z) a in
    let r : bit (held_of s x) a ≡ bit (bit_or (held_of s y) (held_of s z)) a = ap (λ (m : ℕ). bit m a) (addresses_reordered (in_scope s) d ∙ addresses_append (in_scope s) y z) in
    omega arith

pub count_some : (s : ℕ) (x y : List Lease) → Part x y → held_count s y ≤ held_count s x
count_some s x y e = count_less (held_of s y) (held_of s x) (held_less s x y e)

apart_less : (a b a' b' : List Lease) → Part a a' → Part b b' → apart a b ≡ true → apart a' b' ≡ true
unfolding apart
apart_less a b a' b' p q e =
    let f = and_parts (apart_in 1 a b) (apart_in 2 a b && (apart_in 3 a b && apart_in 4 a b)) e in
    let g = and_parts (apart_in 2 a b) (apart_in 3 a b && apart_in 4 a b) f.1 in
    let h = and_parts (apart_in 3 a b) (apart_in 4 a b) g.1 in
    and_both (less 1 f.0) (and_both (less 2 g.0) (and_both (less 3 h.0) (less 4 h.1)))
  where
    less : (s : ℕ) → apart_in s a b ≡ true → apart_in s a' b' ≡ true
    less s = disjoint_less (held_of s a) (held_of s b) (held_of s a') (held_of s b') (held_less s a a' p) (held_less s b b' q)

module _ (t : List Lease → Bool) (keeps : (x y : List Lease) → Part x y → t x ≡ true → t y ≡ true) where
  all_shrunk : (xs ys : List (List Lease)) → Shrunk xs ys → all_by t xs ≡ true → all_by t ys ≡ true
  unfolding Shrunk
  all_shrunk [] [] v h = h
  all_shrunk [] (y ∷ ys) v h = absurd v
  all_shrunk (x ∷ xs) [] v h = absurd v
  all_shrunk (x ∷ xs) (y ∷ ys) v h = let p = all_head t x xs h in all_cons t y ys (keeps x y v.0 p.0) (all_shrunk xs ys v.1 p.1)

apart_all : (x y : List Lease) (xs ys : List (List Lease)) → Part x y → Shrunk xs ys → all_by (apart x) xs ≡ true → all_by (apart y) ys ≡ true
unfolding Shrunk all_by
apart_all x y [] [] p v h = refl
apart_all x y [] (b ∷ ys) p v h = absurd v
apart_all x y (a ∷ xs) [] p v h = absurd v
apart_all x y (a ∷ xs) (b ∷ ys) p v h = let q = all_head (apart x) a xs h in all_cons (apart y) b ys (apart_less x a y b p v.0 q.0) (apart_all x y xs ys p v.1 q.1)

owners_shrunk : (xs ys : List (List Lease)) → Shrunk xs ys → pairs_by apart xs ≡ true → pairs_by apart ys ≡ true
unfolding Shrunk
owners_shrunk [] [] v h = h
owners_shrunk [] (y ∷ ys) v h = absurd v
owners_shrunk (x ∷ xs) [] v h = absurd v
owners_shrunk (x ∷ xs) (y ∷ ys) v h = let p = pairs_head apart x xs h in pairs_cons apart y ys (apart_all x y xs ys v.0 v.1 p.0) (owners_shrunk xs ys v.1 p.1)

counts_shrunk : (s : ℕ) (xs ys : List (List Lease)) → Shrunk xs ys → (g : ℕ) → held_count s (get_or ys g []) ≤ held_count s (get_or xs g [])
unfolding Shrunk
counts_shrunk s [] [] v g = omega arith
counts_shrunk s [] (y ∷ ys) v g = absurd v
counts_shrunk s (x ∷ xs) [] v g = absurd v
counts_shrunk s (x ∷ xs) (y ∷ ys) v zero = count_some s x y v.0
counts_shrunk s (x ∷ xs) (y ∷ ys) v (suc g) = counts_shrunk s xs ys v.1 g

drop_shrunk : (n : ℕ) (xs ys : List (List Lease)) → Shrunk xs ys → Shrunk (drop n xs) (drop n ys)
unfolding Shrunk
drop_shrunk zero xs ys v = v
drop_shrunk (suc n) [] [] v = v
drop_shrunk (suc n) [] (y ∷ ys) v = absurd v
drop_shrunk (suc n) (x ∷ xs) [] v = absurd v
drop_shrunk (suc n) (x ∷ xs) (y ∷ ys) v = drop_shrunk n xs ys v.1

pub sum_less : (f g : ℕ → ℕ) (n : ℕ) → ((i : ℕ) → i < n → f i ≤ g i) → sum_to f n ≤ sum_to g n
unfolding sum_to
sum_less f g zero h = omega arith
sum_less f g (suc n) h = let p = sum_less f g n (λ i q. h i (omega arith)) in let q = h n (omega arith) in omega arith

-- no rule on the settings speaks of the clock
clockless : (s : State) (c : ℕ) → settings_ok (with_clock s c) ≡ settings_ok s
unfolding settings_ok counts_b rule3 rule4 rule5 rule6 settings_b
clockless s c = refl

-- ---- the book stays sound, with any clock at which its leases are sound
pub sound_shrunk : (s : State) (c : ℕ) (ls ls' : List (List Lease)) → Sound s ls → Shrunk ls ls' → all_by (all_by (lease_ok (with_clock s c))) ls' ≡ true → Sound (with_clock s c) ls'
unfolding committed
sound_shrunk s c ls ls' v w each = record {
  settings = same ∙ v.settings;
  few = all_shrunk few_leases few_some ls ls' w v.few;
  each = each;
  pairs = all_shrunk (pairs_by pair_ok) (part_pairs pair_ok pair_turn) ls ls' w v.pairs;
  tenants = all_shrunk no_leases_b none_some (drop (tenants_in s) ls) (drop (tenants_in s) ls') (drop_shrunk (tenants_in s) ls ls' w) v.tenants;
  owners = owners_shrunk ls ls' w v.owners;
  holdings = λ k g p q. le_trans (counts_shrunk (k + 1) ls ls' w g) (v.holdings k g p q);
  commitments = λ k p. le_trans (sum_less (committed (scope_at s k) (held_at ls' (k + 1))) (committed (scope_at s k) (held_at ls (k + 1))) (tenants_in s) (λ g q. let h = counts_shrunk (k + 1) ls ls' w g in omega arith)) (v.commitments k p);
}
  where
    same : settings_ok (with_clock s c) ≡ settings_ok s
    same = clockless s c

    few_some : (x y : List Lease) → Part x y → few_leases x ≡ true → few_leases y ≡ true
    few_some x y d h = let a = leb-true (length x) 16 h in let b = part_length x y d in le-leb (length y) 16 (omega arith)

    none_some : (x y : List Lease) → Part x y → no_leases_b x ≡ true → no_leases_b y ≡ true
    none_some x y d h = let a = eqb-true (length x) 0 h in let b = part_length x y d in eq-eqb (length y) 0 (omega arith)

-- ---- the clock is raised and the ended leases are dropped
-- a record that is live at a later clock ends after it, and a hold's lapse is as near as it was, or nearer
ends_later : (a c : ℕ) (l : Lease) → a ≤ c → live c l ≡ true → ltb a l.end ≡ true → hold_b a l ≡ true → (ltb c l.end ≡ true) × (hold_b c l ≡ true)
unfolding until hold_b lapse_b pick
ends_later a c l n h e k = go (is_hold l) h k
  where
    go : (b : Bool) → ltb c (pick b l.lapse l.end) ≡ true → pick b (lapse_b a l) true ≡ true → (ltb c l.end ≡ true) × (pick b (lapse_b c l) true ≡ true)
    go false p q = (p, refl)
    go true p q =
        let u = and_parts (ltb a l.lapse) (leb l.lapse (a + hold_time) && leb l.lapse l.end) q in
        let w = and_parts (leb l.lapse (a + hold_time)) (leb l.lapse l.end) u.1 in
        let x = ltb-true c l.lapse p in
        let y = leb-true l.lapse (a + hold_time) w.0 in
        let z = leb-true l.lapse l.end w.1 in
        (lt-ltb c l.end (omega arith), and_both p (and_both (le-leb l.lapse (c + hold_time) (omega arith)) w.1))

lease_later : (s : State) (c : ℕ) (l : Lease) → s.clock ≤ c → live c l ≡ true → lease_ok s l ≡ true → lease_ok (with_clock s c) l ≡ true
unfolding lease_ok lease_b period_b offsets_b
lease_later s c l n h e =
    let p = and_parts (id_b l && offsets_b s l) (lease_b s l && (padded_b l && hold_b s.clock l)) e in
    let q = and_parts (lease_b s l) (padded_b l && hold_b s.clock l) p.1 in
    let d = and_parts (padded_b l) (hold_b s.clock l) q.1 in
    let r = and_parts (scope_known s l) (kind_b l && period_b s.clock l) q.0 in
    let k = and_parts (kind_b l) (period_b s.clock l) r.1 in
    let t = and_parts (ltb l.start l.end) (ltb s.clock l.end && ltb 0 l.addresses) k.1 in
    let o = and_parts (ltb s.clock l.end) (ltb 0 l.addresses) t.1 in
    let f = ends_later s.clock c l n h o.0 d.1 in
    and_both p.0 (and_both (and_both r.0 (and_both k.0 (and_both t.0 (and_both f.0 o.1)))) (and_both d.0 f.1))

live_each : (s : State) (c : ℕ) (ls : List (List Lease)) → s.clock ≤ c → all_by (all_by (lease_ok s)) ls ≡ true → all_by (all_by (lease_ok (with_clock s c))) (map (live_of c) ls) ≡ true
unfolding live_of all_by
live_each s c [] n h = refl
live_each s c (l ∷ ls) n h =
    let p = all_head (all_by (lease_ok s)) l ls h in
    all_cons (all_by (lease_ok (with_clock s c))) (live_of c l) (map (live_of c) ls)
    (all_both (live c) (lease_ok s) (lease_ok (with_clock s c)) (filter_by (live c) l) (λ x. lease_later s c x n) (filter_passes (live c) l) (filter_all (lease_ok s) (live c) l p.0))
    (live_each s c ls n p.1)

live_shrunk : (c : ℕ) (ls : List (List Lease)) → Shrunk ls (map (live_of c) ls)
unfolding Shrunk live_of
live_shrunk c [] = tt
live_shrunk c (l ∷ ls) = (filter_part (live c) l, live_shrunk c ls)

-- and records go on rising, by whichever order
pub live_rises : (o : Order) (c : ℕ) (ls : List (List Lease)) → all_by (pairs_by o) ls ≡ true → all_by (pairs_by o) (map (live_of c) ls) ≡ true
unfolding live_of
live_rises o c [] h = h
live_rises o c (l ∷ ls) h =
    let p = all_head (pairs_by o) l ls h in
    all_cons (pairs_by o) (live_of c l) (map (live_of c) ls) (filter_pairs o (live c) l p.0) (live_rises o c ls p.1)

pub sound_advanced : (s : State) (c : ℕ) (ls : List (List Lease)) → s.clock ≤ c → Sound s ls → Sound (with_clock s c) (map (live_of c) ls)
sound_advanced s c ls n v = sound_shrunk s c ls (map (live_of c) ls) v (live_shrunk c ls) (live_each s c ls n v.each)

-- ---- one tenant's leases are fewer
pub all_part : (l : List Lease) → Part l l
all_part l = ([], subst (λ (x : List Lease). Reordered l x) (sym (append-nil l)) (Permᴰ.refl l))

same_shrunk : (ls : List (List Lease)) → Shrunk ls ls
unfolding Shrunk
same_shrunk [] = tt
same_shrunk (l ∷ ls) = (all_part l, same_shrunk ls)

set_shrunk : (ls : List (List Lease)) (h : ℕ) (u : Lease → Bool) → Shrunk ls (set ls h (filter_by u (get_or ls h [])))
unfolding Shrunk
set_shrunk [] h u = tt
set_shrunk (l ∷ ls) zero u = (filter_part u l, same_shrunk ls)
set_shrunk (l ∷ ls) (suc h) u = (all_part l, set_shrunk ls h u)

each_shrunk : (s : State) (xs ys : List (List Lease)) → Shrunk xs ys → all_by (all_by (lease_ok s)) xs ≡ true → all_by (all_by (lease_ok s)) ys ≡ true
each_shrunk s xs ys w = all_shrunk (all_by (lease_ok s)) (part_all (lease_ok s)) xs ys w

-- a lease is released
pub sound_removed : (s : State) (ls : List (List Lease)) (h : ℕ) (i : List ℕ) → Sound s ls → Sound s (set ls h (remove_of i (get_or ls h [])))
unfolding remove_of
sound_removed s ls h i v =
    let w = set_shrunk ls h (other i) in
    sound_shrunk s s.clock ls (set ls h (filter_by (other i) (get_or ls h []))) v w (each_shrunk s ls (set ls h (filter_by (other i) (get_or ls h []))) w v.each)
