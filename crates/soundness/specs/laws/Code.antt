-- Laws: between the rules and the code that decides them.
use Prim.Native.Nat.{ℕ, zero, suc, ◌+◌, ◌-◌, ◌^◌, ◌≤◌, ◌<◌, min, max}
use Rattle.std.specs.Prelude.{Bool, ◌&&◌, not, List, [], ◌∷◌, map, length, drop, take, ◌≡◌}
use Rattle.std.proofs.Math.Bool.{true, false}
use Rattle.std.proofs.Math.Dec.{leb, eqb, ltb}
use Rattle.std.proofs.Math.ListN.{get_or}
use Rattle.std.proofs.Common.{drop_of_length-le, length-take, ◌∙◌, drop-cons, take-take, add-one, pow_pos, pow_mono}
use Rattle.lists.specs.All.{all_by, pairs_by, all_to}
use Rattle.address_set.specs.AddressSet.{offsets, set_of, up_to}
use Rattle.state.specs.declared.Lease.{Lease}
use Rattle.state.specs.declared.TenantLeases.{TenantLeases}
use Rattle.state.specs.declared.LeaseTable.{LeaseTable}
use Rattle.state.specs.declared.Scope.{Scope}
use Rattle.state.specs.declared.State.{State}
use Rattle.state.specs.Book.{differ, in_use, in_scope, held_of, added_if, scope_at, limit_at, committed_sum, id_of, ordered, scopes_of, addresses_of, union_all, reserve_at, committed, until}
use Rattle.soundness.specs.declared.ScopeRules.{ScopeRules}
use Rattle.soundness.specs.declared.TenantRules.{TenantRules}
use Rattle.soundness.specs.declared.TableRules.{TableRules}
use Rattle.soundness.specs.declared.Rules.{Rules}
use Rattle.soundness.specs.declared.SettingsRules.{SettingsRules}
use Rattle.soundness.specs.declared.HoldingRules.{HoldingRules}
use Rattle.soundness.specs.declared.LoadRules.{LoadRules}
use Rattle.soundness.specs.declared.Held.{Held}
use Rattle.soundness.specs.declared.HeldTable.{HeldTable}
use Rattle.soundness.specs.Sound.{tenants_in, scopes_in, size_b, counts_b, id_b, records_b, offsets_b, rule3, pool_b, rule4, ttl_b, rule5, reserves_b, rule6, lease_b, tenants_b, rule9, compatible, rule11, rule12, layout_b, padded_b, tail_b, settings_b, one_to, zero_from, below_b, scope_of, unused_b, rule1, rule2, pools_apart, rule7, rule8, rule10, range_zero, scope_zero, rules_of, first_rule, first_broken, broken_of, sound_b, none_b, apart, hold_b, rule13, broken_by, layout_by, rule19_by, rules_by, sound_by}
use Rattle.std.proofs.Math.Path.{refl, sym, ap, ap₂}
use native.Mathlib.Omega.{arith}
use Rattle.std.specs.Int.Bits.{bit_or, or_add_and, or_zero_r}
use Rattle.std.proofs.lemmas.Nat.{and_le_r, and_le_l}
use borrow.Author.Tests.{eq-eqb, ne_eqb, eqb-true, eqb-false, lt-ltb, ltb-true, ltb-false, le-leb, lt-leb, leb-true, leb-false, not-true}
use Rattle.lists.specs.Pick.{pick}
use Rattle.lists.specs.laws.Pick.{pick_eq_got, pick_true}
use Rattle.lists.specs.Fold.{fold}
use Rattle.lists.specs.laws.All.{all_map, pairs_map, pairs_same, all_both, pairs_head, pairs_cons}
use Rattle.lists.specs.Filter.{filter_by}
use Rattle.state.specs.laws.Sets.{added_is}
use Rattle.identifier.specs.Order.{number_from, Octets, same_of}
use Rattle.identifier.specs.laws.Order.{same_true}
use Rattle.address_set.specs.laws.Bits.{length_offsets}
use Rattle.address_set.specs.laws.Offsets.{up_to_ones, below_bits}
use Rattle.soundness.specs.Parts.{and_scopes, scopes_all, tenant_rules_of, both_tenants, added_sets, none_h, holding_rules_in, table_rules_of, joined_rules, tenants_all, no_held, held_sets, holdings_of, set_at, apart_sets, size_in, count_in, limit_in, limits_in, committed_in, settings_rules_of, first_end_in, unlike, word_of}

-- ---- tenants

unfoldable pub and_tenants : State → TenantRules → TenantLeases → TenantRules
and_tenants s a t = record {
  records = a.records && records_b t;
  offsets = a.offsets && all_by (offsets_b s) (in_use t);
  leases = a.leases && all_by (lease_b s) (in_use t);
  holds = a.holds && all_by (hold_b s.clock) (in_use t);
  identifiers = a.identifiers && pairs_by differ (in_use t);
  periods = a.periods && pairs_by compatible (in_use t);
  layout = a.layout && layout_b t;
}

-- ---- the three parts of all rules

unfoldable pub holding_rules_of : State → LeaseTable → HoldingRules
holding_rules_of s t = record { tenants = tenants_b s t; owners = rule9 t; holdings = rule11 s t; commitments = rule12 s t }

-- ---- zeros, gathered by or
or_none : (a b : ℕ) → eqb (bit_or a b) 0 ≡ (eqb a 0 && eqb b 0)
or_none a b = go (eqb a 0) refl (eqb b 0) refl
  where
    go : (p : Bool) → eqb a 0 ≡ p → (q : Bool) → eqb b 0 ≡ q → eqb (bit_or a b) 0 ≡ (p && q)
    go true e true f = let x = eqb-true a 0 e in let y = eqb-true b 0 f in let s = or_add_and a b in eq-eqb (bit_or a b) 0 (omega arith)
    go true e false f = ne_eqb (bit_or a b) 0 (λ (z : bit_or a b ≡ 0). let s = or_add_and a b in let l = and_le_l a b in eqb-false b 0 f (omega arith))
    go false e q f = ne_eqb (bit_or a b) 0 (λ (z : bit_or a b ≡ 0). let s = or_add_and a b in let l = and_le_r a b in eqb-false a 0 e (omega arith))

-- the octets from place n on, gathered before place i
pub record ZeroInv (l : List ℕ) (k n : ℕ) (w : Bool) (any i : ℕ) : Type 0 where
  pub within : i ≤ k
  pub long : length l ≡ k
  pub whole : (eqb any 0 && zero_from (max i n) l) ≡ w

zero_step : (l : List ℕ) (i : ℕ) → i < length l → zero_from i l ≡ (eqb (get_or l i 0) 0 && zero_from (i + 1) l)
unfolding zero_from all_by pick
zero_step l i h = ap (all_by (λ x. eqb x 0)) (drop-cons l i 0 h) ∙ go (eqb (get_or l i 0) 0) ∙ ap (λ (k : ℕ). eqb (get_or l i 0) 0 && all_by (λ x. eqb x 0) (drop k l)) (sym (add-one i))
  where
    go : (b : Bool) → pick b (all_by (λ x. eqb x 0) (drop (suc i) l)) false ≡ (b && all_by (λ x. eqb x 0) (drop (suc i) l))
    go true = refl
    go false = refl

pub and_assoc : (a b c : Bool) → ((a && b) && c) ≡ (a && (b && c))
and_assoc true b c = refl
and_assoc false b c = refl

pub and_true_r : (a : Bool) → (a && true) ≡ a
and_true_r true = refl
and_true_r false = refl

zero_end_all : (l : List ℕ) (i : ℕ) → length l ≤ i → zero_from i l ≡ true
unfolding zero_from all_by
zero_end_all l i h = ap (all_by (λ x. eqb x 0)) (drop_of_length-le l {i = i} h)

module _ {l : List ℕ} {k n : ℕ} {w : Bool} {any i : ℕ} (v : ZeroInv l k n w any i) where
  pub zero_next : {x : ℕ} → i < k → x ≡ pick (ltb i n) 0 (get_or l i 0) → ZeroInv l k n w (bit_or any x) (i + 1)
  unfolding pick
  zero_next {x} h e = record { within = omega arith; long = v.long; whole = go (ltb i n) refl }
    where
      go : (b : Bool) → ltb i n ≡ b → (eqb (bit_or any x) 0 && zero_from (max (i + 1) n) l) ≡ w
      go true q =
          let p = ltb-true i n q in
          let z : x ≡ 0 = e ∙ ap (λ (b : Bool). pick b 0 (get_or l i 0)) q in
          ap₂ (λ (a m : ℕ). eqb a 0 && zero_from m l) (ap (bit_or any) z ∙ or_zero_r any) (let q : max (i + 1) n ≡ max i n = omega arith in q) ∙ v.whole
      go false q =
          let p = ltb-false i n q in
          let z : x ≡ get_or l i 0 = e ∙ ap (λ (b : Bool). pick b 0 (get_or l i 0)) q in
          ap₂ (λ (a m : ℕ). eqb (bit_or any a) 0 && zero_from m l) z (let q : max (i + 1) n ≡ i + 1 = omega arith in q)
          ∙ ap (λ (b : Bool). b && zero_from (i + 1) l) (or_none any (get_or l i 0)) ∙ and_assoc (eqb any 0) (eqb (get_or l i 0) 0) (zero_from (i + 1) l)
          ∙ sym (ap (λ (b : Bool). eqb any 0 && b) (zero_step l i (omega (arith, v.long)))) ∙ ap (λ (m : ℕ). eqb any 0 && zero_from m l) (let q : i ≡ max i n = omega arith in q) ∙ v.whole

  pub zero_end : k ≤ i → eqb any 0 ≡ w
  zero_end h = sym (and_true_r (eqb any 0)) ∙ ap (λ (b : Bool). eqb any 0 && b) (sym (zero_end_all l (max i n) (let g = v.long in omega arith))) ∙ v.whole

-- ---- all of a list, one test at a time
pub and_more : (a b r : Bool) → ((a && b) && r) ≡ (a && pick b r false)
unfolding pick
and_more true true r = refl
and_more true false r = refl
and_more false b r = refl

-- ---- scopes
five : {p p' q q' u u' r r' t t' : Bool} → p ≡ p' → q ≡ q' → u ≡ u' → r ≡ r' → t ≡ t'
    → ◌≡◌ {A = ScopeRules} (record { sizes = p; pools = q; ttls = u; reserves = r; tails = t }) (record { sizes = p'; pools = q'; ttls = u'; reserves = r'; tails = t' })
five a b c d e = cc

scopes_from : (n : ℕ) (a : ScopeRules) (l : List Scope) → fold (and_scopes n) a l
    ≡ record { sizes = a.sizes && all_by size_b l; pools = a.pools && all_by pool_b l; ttls = a.ttls && all_by ttl_b l; reserves = a.reserves && all_by (reserves_b n) l; tails = a.tails && all_by (tail_b n) l }
unfolding and_scopes all_by
scopes_from n a [] = sym (five (and_true_r a.sizes) (and_true_r a.pools) (and_true_r a.ttls) (and_true_r a.reserves) (and_true_r a.tails))
scopes_from n a (c ∷ l) =
    scopes_from n (and_scopes n a c) l
    ∙ five (and_more a.sizes (size_b c) (all_by size_b l)) (and_more a.pools (pool_b c) (all_by pool_b l)) (and_more a.ttls (ttl_b c) (all_by ttl_b l))
    (and_more a.reserves (reserves_b n c) (all_by (reserves_b n) l)) (and_more a.tails (tail_b n c) (all_by (tail_b n) l))

pub scopes_are : (n : ℕ) (l : List Scope) → fold (and_scopes n) (record { sizes = true; pools = true; ttls = true; reserves = true; tails = true }) l ≡ scopes_all n l
unfolding scopes_all
scopes_are n l = scopes_from n _ l

-- ---- a lease
lt_le : (m k : ℕ) → 0 < k → leb m (k - 1) ≡ ltb m k
lt_le m k h = go (ltb m k) refl
  where
    go : (b : Bool) → ltb m k ≡ b → leb m (k - 1) ≡ b
    go true e = let g = ltb-true m k e in le-leb m (k - 1) (omega arith)
    go false e = let g = ltb-false m k e in lt-leb m (k - 1) (omega arith)

-- in the pool of a scope: a number of as many bits
pub pool_is : (s : State) (l : Lease) (k pool : ℕ) (c : Scope) → l.addresses < 2 ^ 64 → k ≡ l.scope - 1 → c ≡ scope_at s k → pool ≡ set_of (up_to (min c.size 64))
    → leb l.addresses pool ≡ below_b (scope_of s l).size l.addresses
unfolding below_b
pool_is s l k pool c h ek ec ep =
    ap (leb l.addresses) (ep ∙ up_to_ones (min c.size 64)) ∙ lt_le l.addresses (2 ^ min c.size 64) (pow_pos (min c.size 64))
    ∙ cut c.size (leb c.size 64) refl ∙ sym (below_bits c.size l.addresses h)
    ∙ ap (λ (x : Scope). all_by (λ a. ltb a x.size) (offsets l.addresses)) (ec ∙ ap (scope_at s) ek)
  where
    cut : (n : ℕ) (b : Bool) → leb n 64 ≡ b → ltb l.addresses (2 ^ min n 64) ≡ ltb l.addresses (2 ^ n)
    cut n true e = let g = leb-true n 64 e in ap (λ (x : ℕ). ltb l.addresses (2 ^ x)) (let q : min n 64 ≡ n = omega arith in q)
    cut n false e =
        let g = leb-false n 64 e in
        let p : 2 ^ 64 ≤ 2 ^ n = pow_mono {i = 64} {j = n} (omega arith) in
        ap (λ (x : ℕ). ltb l.addresses (2 ^ x)) (let q : min n 64 ≡ 64 = omega arith in q) ∙ lt-ltb _ _ h ∙ sym (lt-ltb l.addresses (2 ^ n) (omega arith))

-- ---- two leases
-- identifiers whose first octets differ
unlike_differ : (a b : Lease) → unlike (word_of a) (word_of b) ≡ true → differ a b ≡ true
unfolding unlike word_of differ
unlike_differ a b p = go (same_of (id_of a) (id_of b)) refl
  where
    word : List ℕ → ℕ
    word i = pick (leb 8 (length i)) (number_from 0 (take 8 i)) 0

    go : (c : Bool) → same_of (id_of a) (id_of b) ≡ c → not c ≡ true
    go true e = absurd (eqb-false (word (id_of a)) (word (id_of b)) (not-true _ p) (ap word (same_true (id_of a) (id_of b) e)))
    go false e = refl

pairs_imply : {A : Type 0} (t u : A → A → Bool) (l : List A) → ((x y : A) → t x y ≡ true → u x y ≡ true) → pairs_by t l ≡ true → pairs_by u l ≡ true
unfolding pairs_by
pairs_imply t u [] f h = refl
pairs_imply t u (x ∷ l) f h =
    let p = pairs_head t x l h in
    pairs_cons u x l (all_both (t x) (t x) (u x) l (λ y a b. f x y a) p.0 p.0) (pairs_imply t u l f p.1)

take_map : {A B : Type 0} (f : A → B) (n : ℕ) (l : List A) → take n (map f l) ≡ map f (take n l)
take_map f zero l = refl
take_map f (suc n) [] = refl
take_map {B = B} f (suc n) (x ∷ l) = ap {B = List B} (λ (r : List B). f x ∷ r) (take_map f n l)

pub words_differ : (t : TenantLeases) {w : List ℕ} {r : Bool} → w ≡ map word_of t.leases → r ≡ pairs_by unlike (take t.count w) → r ≡ true → true ≡ pairs_by differ (in_use t)
words_differ t {w} {r} e p h =
    sym (pairs_imply (λ a b. unlike (word_of a) (word_of b)) differ (in_use t) unlike_differ
    (sym (pairs_map unlike word_of (in_use t)) ∙ ap (pairs_by unlike) (sym (ap (take t.count) e ∙ take_map word_of t.count t.leases)) ∙ sym p ∙ h))

pub word_long : (l : Lease) {x : ℕ} → 8 ≤ l.id_len → length l.id ≡ 32 → (x ≡ number_from 0 (take 8 (drop 0 l.id))) × Octets (take 8 (drop 0 l.id)) → x ≡ word_of l
unfolding word_of pick
word_long l h n e =
    let k = length-take l.id_len l.id in
    e.0 ∙ ap (number_from 0) (sym (take-take 8 l.id_len l.id h)) ∙ sym (ap (λ (b : Bool). pick b (number_from 0 (take 8 (id_of l))) 0) (le-leb 8 (length (id_of l)) (omega arith)))

pub word_short : (l : Lease) → l.id_len < 8 → 0 ≡ word_of l
unfolding word_of pick
word_short l h =
    let k = length-take l.id_len l.id in
    sym (ap (λ (b : Bool). pick b (number_from 0 (take 8 (id_of l))) 0) (lt-leb 8 (length (id_of l)) (omega arith)))

-- ---- tenants
seven : {p p' q q' u u' w w' r r' t t' v v' : Bool} → p ≡ p' → q ≡ q' → u ≡ u' → w ≡ w' → r ≡ r' → t ≡ t' → v ≡ v'
    → ◌≡◌ {A = TenantRules} (record { records = p; offsets = q; leases = u; holds = w; identifiers = r; periods = t; layout = v })
    (record { records = p'; offsets = q'; leases = u'; holds = w'; identifiers = r'; periods = t'; layout = v' })
seven a b c d e f g = cc

module _ (s : State) where
  abbrev offsets_t : TenantLeases → Bool
  offsets_t t = all_by (offsets_b s) (in_use t)

  abbrev leases_t : TenantLeases → Bool
  leases_t t = all_by (lease_b s) (in_use t)

  abbrev holds_t : TenantLeases → Bool
  holds_t t = all_by (hold_b s.clock) (in_use t)

abbrev differ_t : TenantLeases → Bool
differ_t t = pairs_by differ (in_use t)

abbrev compatible_t : TenantLeases → Bool
compatible_t t = pairs_by compatible (in_use t)

tenants_from_law : (s : State) (a : TenantRules) (l : List TenantLeases) → fold (and_tenants s) a l
    ≡ record {
      records = a.records && all_by records_b l;
      offsets = a.offsets && all_by (offsets_t s) l;
      leases = a.leases && all_by (leases_t s) l;
      holds = a.holds && all_by (holds_t s) l;
      identifiers = a.identifiers && all_by differ_t l;
      periods = a.periods && all_by compatible_t l;
      layout = a.layout && all_by layout_b l;
    }
unfolding and_tenants all_by
tenants_from_law s a [] = sym (seven (and_true_r a.records) (and_true_r a.offsets) (and_true_r a.leases) (and_true_r a.holds) (and_true_r a.identifiers) (and_true_r a.periods) (and_true_r a.layout))
tenants_from_law s a (t ∷ l) =
    tenants_from_law s (and_tenants s a t) l
    ∙ seven (and_more a.records (records_b t) (all_by records_b l)) (and_more a.offsets (offsets_t s t) (all_by (offsets_t s) l)) (and_more a.leases (leases_t s t) (all_by (leases_t s) l))
    (and_more a.holds (holds_t s t) (all_by (holds_t s) l))
    (and_more a.identifiers (differ_t t) (all_by differ_t l)) (and_more a.periods (compatible_t t) (all_by compatible_t l)) (and_more a.layout (layout_b t) (all_by layout_b l))

pub tenants_are : (s : State) (b : LeaseTable)
    → fold (and_tenants s) (record { records = true; offsets = true; leases = true; holds = true; identifiers = true; periods = true; layout = true }) b.tenants ≡ tenants_all s b
unfolding tenants_all
tenants_are s b =
    tenants_from_law s _ b.tenants
    ∙ seven refl (sym (all_map (all_by (offsets_b s)) in_use b.tenants)) (sym (all_map (all_by (lease_b s)) in_use b.tenants)) (sym (all_map (all_by (hold_b s.clock)) in_use b.tenants))
    (sym (all_map (pairs_by differ) in_use b.tenants))
    (sym (all_map (pairs_by compatible) in_use b.tenants)) refl

pub tenant_is : (s : State) (t : TenantLeases) {rising ids padded p q u x r v w : Bool} → ids ≡ all_by id_b (in_use t) → padded ≡ all_by padded_b (in_use t) → rising ≡ pairs_by ordered (in_use t)
    → p ≡ (leb t.count 16 && ids) → q ≡ all_by (offsets_b s) (in_use t) → u ≡ all_by (lease_b s) (in_use t) → x ≡ all_by (hold_b s.clock) (in_use t)
    → r ≡ pairs_by differ (in_use t) → v ≡ pairs_by compatible (in_use t)
    → w ≡ (rising && (padded && all_by unused_b (drop t.count t.leases)))
    → ◌≡◌ {A = TenantRules} (record { records = p; offsets = q; leases = u; holds = x; identifiers = r; periods = v; layout = w }) (tenant_rules_of s t)
unfolding tenant_rules_of records_b layout_by
tenant_is s t ei ep er p q u x r v w =
    seven (p ∙ ap (λ (x : Bool). leb t.count 16 && x) ei) q u x r v (w ∙ ap₂ (λ (x y : Bool). x && (y && all_by unused_b (drop t.count t.leases))) er ep)

pub tenant_and : (s : State) (a x r : TenantRules) (t : TenantLeases) → x ≡ tenant_rules_of s t → r ≡ both_tenants a x → r ≡ and_tenants s a t
unfolding and_tenants both_tenants tenant_rules_of
tenant_and s a x r t e p = p ∙ ap (both_tenants a) e

-- ---- address sets
pub sets_added : (h : Held) (l : Lease) {a b c d e u : ℕ} → a ≡ added_if (in_scope 1) (get_or h.sets 0 0) l → b ≡ added_if (in_scope 2) (get_or h.sets 1 0) l
    → c ≡ added_if (in_scope 3) (get_or h.sets 2 0) l → d ≡ added_if (in_scope 4) (get_or h.sets 3 0) l → u ≡ until l → e ≡ min h.first_end u
    → ◌≡◌ {A = Held} (record { sets = a ∷ b ∷ c ∷ d ∷ []; count = h.count; first_end = e }) (added_sets h l)
unfolding added_sets
sets_added h l p q r s u v = cc

sets_from : (n a b c d e : ℕ) (l : List Lease) → fold added_sets (record { sets = a ∷ b ∷ c ∷ d ∷ []; count = n; first_end = e }) l
    ≡ record {
      sets = fold (added_if (in_scope 1)) a l ∷ fold (added_if (in_scope 2)) b l ∷ fold (added_if (in_scope 3)) c l ∷ fold (added_if (in_scope 4)) d l ∷ [];
      count = n;
      first_end = fold (λ x y. min x (until y)) e l;
    }
unfolding added_sets
sets_from n a b c d e [] = refl
sets_from n a b c d e (x ∷ l) = sets_from n (added_if (in_scope 1) a x) (added_if (in_scope 2) b x) (added_if (in_scope 3) c x) (added_if (in_scope 4) d x) (min e (until x)) l

end_least : (l : List Lease) → first_end_in l ≤ 4294967295
unfolding first_end_in
end_least [] = omega arith
end_least (x ∷ l) = let h = end_least l in omega arith

ends_from : (e : ℕ) (l : List Lease) → e ≤ 4294967295 → fold (λ x y. min x (until y)) e l ≡ min e (first_end_in l)
unfolding first_end_in
ends_from e [] h = omega arith
ends_from e (x ∷ l) h = ends_from (min e (until x)) l (omega arith) ∙ (let q : min (min e (until x)) (first_end_in l) ≡ min e (min (until x) (first_end_in l)) = omega arith in q)

pub held_are : (t : TenantLeases) → fold added_sets (record { sets = 0 ∷ 0 ∷ 0 ∷ 0 ∷ []; count = t.count; first_end = 4294967295 }) (in_use t) ≡ held_sets t
unfolding held_sets
held_are t =
    sets_from t.count 0 0 0 0 4294967295 (in_use t)
    ∙ cc (added_is (in_scope 1) (in_use t), added_is (in_scope 2) (in_use t), added_is (in_scope 3) (in_use t), added_is (in_scope 4) (in_use t), end_is)
  where
    end_is : fold (λ x y. min x (until y)) 4294967295 (in_use t) ≡ first_end_in (in_use t)
    end_is = ends_from 4294967295 (in_use t) (omega arith) ∙ (let h = end_least (in_use t) in let q : min 4294967295 (first_end_in (in_use t)) ≡ first_end_in (in_use t) = omega arith in q)

pub holdings_are : (b : LeaseTable) (h : HeldTable) → h.tenants ≡ map held_sets b.tenants → h ≡ holdings_of b
unfolding holdings_of
holdings_are b h e = ap {B = HeldTable} (λ (x : List Held). record { tenants = x }) e

sets_apart : (a b : TenantLeases) → apart_sets (held_sets a) (held_sets b) ≡ apart (in_use a) (in_use b)
unfolding apart_sets held_sets apart
sets_apart a b = refl

pub owners_are : (b : LeaseTable) (h : HeldTable) {r : Bool} → h ≡ holdings_of b → r ≡ pairs_by apart_sets h.tenants → r ≡ rule9 b
unfolding holdings_of rule9
owners_are b h e p =
    p ∙ ap (λ (x : HeldTable). pairs_by apart_sets x.tenants) e ∙ pairs_map apart_sets held_sets b.tenants
    ∙ pairs_same (λ x y. apart_sets (held_sets x) (held_sets y)) (λ x y. apart (in_use x) (in_use y)) b.tenants sets_apart
    ∙ sym (pairs_map apart in_use b.tenants)

-- the count of a set is the holding that the leases give
set_of_law : (t : TenantLeases) (k : ℕ) → k < 4 → set_at (held_sets t) k ≡ held_of (k + 1) (in_use t)
unfolding held_sets
set_of_law t zero h = refl
set_of_law t (suc zero) h = refl
set_of_law t (suc (suc zero)) h = refl
set_of_law t (suc (suc (suc zero))) h = refl
set_of_law t (suc (suc (suc (suc k)))) h = absurd (omega arith)

pub set_at_law : (l : List TenantLeases) (k g : ℕ) → k < 4 → set_at (get_or (map held_sets l) g no_held) k ≡ held_of (k + 1) (get_or (map in_use l) g [])
unfolding addresses_of filter_by union_all
set_at_law [] k g h = refl
set_at_law (t ∷ l) k zero h = set_of_law t k h
set_at_law (t ∷ l) k (suc g) h = set_at_law l k g h

and_pick : (a b : Bool) → (a && b) ≡ pick a b false
unfolding pick
and_pick true b = refl
and_pick false b = refl

-- ---- the turns of the code
pub limit_at_law : (h : HeldTable) (c : Scope) (k g d : ℕ) (t : Held) {r : Bool} → t ≡ get_or h.tenants g no_held → d ≡ size_in t k → r ≡ leb d (limit_at c g) → r ≡ limit_in h c k g
unfolding limit_in count_in
limit_at_law h c k g d t e ed p = p ∙ ap (λ (x : ℕ). leb x (limit_at c g)) (ed ∙ ap (λ (x : Held). size_in x k) e)

pub committed_at : (h : HeldTable) (c : Scope) (k g d : ℕ) (t : Held) {r : ℕ} → t ≡ get_or h.tenants g no_held → d ≡ size_in t k → r ≡ max d (reserve_at c g) → r ≡ committed c (count_in h k) g
unfolding committed count_in
committed_at h c k g d t e ed p = p ∙ ap (λ (x : ℕ). max x (reserve_at c g)) (ed ∙ ap (λ (x : Held). size_in x k) e)

pub count_few : (m : ℕ) {r : ℕ} → r ≡ length (offsets m) → r ≤ 64
count_few m e = let f = length_offsets m in omega arith

pub committed_ok_is : (s : State) (h : HeldTable) (n k sum : ℕ) (c : Scope) {q : Bool} → q ≡ leb sum c.size → c ≡ scope_at s k → sum ≡ committed_sum c n (count_in h k) → q ≡ committed_in s h n k
unfolding committed_in
committed_ok_is s h n k sum c eq e p = eq ∙ ap (λ (x : ℕ). leb x c.size) p ∙ ap (λ (x : Scope). leb (committed_sum x n (count_in h k)) x.size) e

pub limits_in_law : (s : State) (h : HeldTable) (n k : ℕ) (c : Scope) {r : Bool} → c ≡ scope_at s k → r ≡ all_to (limit_in h c k) n → r ≡ limits_in s h n k
unfolding limits_in
limits_in_law s h n k c e p = p ∙ ap (λ (x : Scope). all_to (limit_in h x k) n) e

-- a test of every number below n, gathered
pub record FlagInv (p : ℕ → Bool) (n : ℕ) (b : Bool) (i : ℕ) : Type 0 where
  pub within : i ≤ n
  pub whole : b ≡ all_to p i

pub flag_start : {p : ℕ → Bool} {n : ℕ} → FlagInv p n true 0
unfolding all_to
flag_start = record { within = omega arith; whole = refl }

module _ {p : ℕ → Bool} {n : ℕ} {b : Bool} {i : ℕ} (v : FlagInv p n b i) where
  pub flag_next : {q r : Bool} → i < n → r ≡ (b && q) → q ≡ p i → FlagInv p n r (i + 1)
  unfolding all_to
  flag_next {q} {r} h f e = record { within = omega arith; whole = f ∙ ap₂ (λ (x y : Bool). x && y) v.whole e ∙ go (all_to p i) ∙ sym (ap (all_to p) (add-one i)) }
    where
      go : (a : Bool) → (a && p i) ≡ pick a (p i) false
      go a = and_pick a (p i)

  pub flag_end : n ≤ i → b ≡ all_to p n
  flag_end h = v.whole ∙ ap (all_to p) (let e : i ≡ n = omega (arith, v.within) in e)

pub ruleset flags = (flag_start, flag_next, flag_end)

-- ---- all rules
settings_same : {p p' q q' u u' r r' t t' v v' : Bool} → p ≡ p' → q ≡ q' → u ≡ u' → r ≡ r' → t ≡ t' → v ≡ v'
    → ◌≡◌ {A = SettingsRules} (record { counts = p; ranges = q; pools = u; ttls = r; reserves = t; unused = v }) (record { counts = p'; ranges = q'; pools = u'; ttls = r'; reserves = t'; unused = v' })
settings_same a b c d e f = cc

pub settings_are : (s : State) (n m : ℕ) (c : ScopeRules) {count range apart pool unused : Bool} → n ≡ tenants_in s → m ≡ scopes_in s → c ≡ scopes_all n (scopes_of s)
    → count ≡ (one_to 8 s.tenant_count && (one_to 4 s.scope_count && c.sizes)) → range ≡ rule3 s → apart ≡ pairs_by pools_apart (scopes_of s) → pool ≡ (c.pools && apart)
    → unused ≡ (all_by range_zero (drop n s.tenants) && (all_by scope_zero (drop m s.scopes) && c.tails))
    → ◌≡◌ {A = SettingsRules} (record { counts = count; ranges = range; pools = pool; ttls = c.ttls; reserves = c.reserves; unused = unused }) (settings_rules_of s)
unfolding settings_rules_of scopes_all counts_b rule4 rule5 rule6 settings_b
settings_are s n m c en em ec p q u r v =
    let e : c ≡ scopes_all (tenants_in s) (scopes_of s) = ec ∙ ap (λ (x : ℕ). scopes_all x (scopes_of s)) en in
    settings_same (p ∙ ap (λ (x : ScopeRules). one_to 8 s.tenant_count && (one_to 4 s.scope_count && x.sizes)) e) q (r ∙ ap₂ (λ (x : ScopeRules) (y : Bool). x.pools && y) e u) (ap (λ (x : ScopeRules). x.ttls) e)
    (ap (λ (x : ScopeRules). x.reserves) e)
    (v ∙ ap₂ (λ (x y : ℕ). all_by range_zero (drop x s.tenants) && (all_by scope_zero (drop y s.scopes) && c.tails)) en em
    ∙ ap (λ (x : ScopeRules). all_by range_zero (drop (tenants_in s) s.tenants) && (all_by scope_zero (drop (scopes_in s) s.scopes) && x.tails)) e)

pub holding_same : {p p' q q' u u' r r' : Bool} → p ≡ p' → q ≡ q' → u ≡ u' → r ≡ r'
    → ◌≡◌ {A = HoldingRules} (record { tenants = p; owners = q; holdings = u; commitments = r }) (record { tenants = p'; owners = q'; holdings = u'; commitments = r' })
holding_same a b c d = cc

pub holding_are : (s : State) (n m : ℕ) (h : HeldTable) (l : LoadRules) {p q : Bool} → n ≡ tenants_in s → m ≡ scopes_in s
    → p ≡ all_by none_h (drop n h.tenants) → q ≡ pairs_by apart_sets h.tenants → l.holdings ≡ all_to (limits_in s h n) m → l.commitments ≡ all_to (committed_in s h n) m
    → ◌≡◌ {A = HoldingRules} (record { tenants = p; owners = q; holdings = l.holdings; commitments = l.commitments }) (holding_rules_in s h)
unfolding holding_rules_in
holding_are s n m h l en em p q u r =
    holding_same (p ∙ ap (λ (x : ℕ). all_by none_h (drop x h.tenants)) en) q (u ∙ ap₂ (λ (x y : ℕ). all_to (limits_in s h x) y) en em) (r ∙ ap₂ (λ (x y : ℕ). all_to (committed_in s h x) y) en em)

pub drop_map : {A B : Type 0} (g : A → B) (n : ℕ) (l : List A) → drop n (map g l) ≡ map g (drop n l)
drop_map g zero l = refl
drop_map g (suc n) [] = refl
drop_map g (suc n) (x ∷ l) = drop_map g n l

pub known_are : (s : State) (b : LeaseTable) → all_by none_h (drop (tenants_in s) (holdings_of b).tenants) ≡ tenants_b s b
unfolding holdings_of tenants_b none_h held_sets none_b
known_are s b = ap (all_by none_h) (drop_map held_sets (tenants_in s) b.tenants) ∙ all_map none_h held_sets (drop (tenants_in s) b.tenants)

pub table_is : (s : State) (b : LeaseTable) (all : TenantRules) (h : HeldTable) → all ≡ tenants_all s b → h.tenants ≡ map held_sets b.tenants
    → ◌≡◌ {A = TableRules} (record { rules = all; held = h }) (table_rules_of s b)
unfolding table_rules_of
table_is s b all h p q = ap₂ {C = TableRules} (λ (x : TenantRules) (y : HeldTable). record { rules = x; held = y }) p (holdings_are b h q)

pub joined_all : (s : State) (t : LeaseTable) → joined_rules (settings_rules_of s) (tenants_all s t) (holding_rules_of s t) ≡ rules_of s t
unfolding joined_rules rules_by settings_rules_of tenants_all holding_rules_of rule1 rule2 rule7 rule8 rule10 rule13 rule19_by
joined_all s t = refl

module _ (r : Rules) {n : ℕ} (e : n ≡ first_rule r) where
  pub first_none : n ≡ 0 → r.layout ≡ true → 0 ≡ first_broken r
  unfolding first_broken
  first_none h b = pick_eq_got _ _ _ _ _ e h (pick_true _ _ _ _ b refl)

pub broken_is : (s : State) (t : LeaseTable) (r : Rules) {x : ℕ} → r ≡ rules_of s t → x ≡ first_broken r → x ≡ broken_of s t
unfolding broken_by
broken_is s t r e p = p ∙ ap first_broken e

pub sound_is : (s : State) (t : LeaseTable) {x : ℕ} → x ≡ broken_of s t → eqb x 0 ≡ sound_b s t
unfolding sound_by
sound_is s t e = ap (λ (x : ℕ). eqb x 0) e
