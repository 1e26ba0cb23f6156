-- Laws: a sound book's file is one that the records can hold, and its records are the book's.
use mathlib.Core.Bool.{Bool, ◌&&◌, ◌||◌, false, true}
use mathlib.Core.List.{List, [], ◌∷◌, append-nil, map}
use mathlib.Core.Path.{◌∙◌, ◌≡◌, ap, ap₂, refl, subst, sym}
use Prim.Native.Nat.{◌-◌, ◌<◌, ◌≤◌, min, suc, zero, ℕ}
use native.Mathlib.Omega.{arith}
use lib.Dec.{eqb, leb}
use lib.ListN.{drop, length, length-drop, length-map, replicate, take}
use lib.Seq.{length-take-le}
use borrow.Author.Tests.{eqb-true, le-leb, le-ltb, leb-true}
use Rattle.format.specs.Format.{Got, Octets, bad, got}
use Rattle.format.specs.Place.{is_whole}
use Rattle.format.specs.Section.{verbatim}
use Rattle.lease_file.specs.Records.{filed_holds, filed_leases, in_file_order, records_fit_b}
use Rattle.lease_file.specs.laws.Merge.{arranged_each, arranged_length, order_back}
use Rattle.lists.specs.Arranged.{arranged}
use Rattle.lists.specs.laws.Arranged.{arranged_sorted}
use Rattle.state.specs.laws.Layout.{read_back, table_back}
use Rattle.state.specs.laws.Sorted.{by_identifier_law}
use Rattle.lease_file.specs.laws.Table.{NeatTenant, OctetLease, holds_ok, leases_ok, table_again, table_fits}
use Rattle.lease_file.specs.laws.Records.{Neat}
use Rattle.lists.specs.All.{All, all_by, pairs_by}
use Rattle.lists.specs.laws.All.{all_drop, all_facts, all_head, all_map, all_mapped, all_take, one_fact, two_facts}
use Rattle.lists.specs.laws.Both.{and_parts}
use Rattle.lists.specs.Pick.{pick}
use Rattle.names.specs.Names.{Name, names_b, names_format}
use Rattle.names.specs.laws.Names.{names_lawful}
use Rattle.release_file.specs.Section.{filed_memory, releases_fit_b, stored_memory}
use Rattle.releases.specs.Rules.{memory_b}
use Rattle.soundness.specs.laws.Book.{AllRules, rules_of_law}
use Rattle.soundness.specs.Sound.{blank_b, counts_b, one_to, id_b, layout_b, padded_b, range_zero, records_b, rule1, rule8, rules_of, scope_zero, settings_b, size_b, sound_b, tail_b, unused_b, zero_from, layout_by, rule19_by, rules_by}
use Rattle.state.specs.Book.{by_identifier, differ, table_of, in_use, is_hold, laid_out, lapsing_at, lease_with, ordered, ranges_of, scopes_of, zero_lease, zero_scope}
use Rattle.state.specs.declared.ClientRange.{ClientRange}
use Rattle.state.specs.declared.Lease.{Lease}
use Rattle.state.specs.declared.LeaseTable.{LeaseTable}
use Rattle.state.specs.declared.Memory.{Memory}
use Rattle.state.specs.declared.Scope.{Scope}
use Rattle.state.specs.declared.State.{State}
use Rattle.state.specs.declared.TenantLeases.{TenantLeases}
use Rattle.state_file.proofs.Remembered.{memory_held, memory_same, memory_written}
use Rattle.state_file.proofs.RowLaws.{pair_length}
use Rattle.state_file.proofs.Zeros.{zero_tail, zero_whole}
use Rattle.state_file.specs.File.{File, file_format, part_format, scope_format, tenant_format}
use Rattle.state_file.specs.laws.Records.{filled_back}
use Rattle.state_file.specs.Records.{counts_fit, filed_as, filed_book, filed_scope, filled, fits_b, pair_up, stored_scope, stored_state, stored_table, zero_range}
use Rattle.state_file.specs.Typed.{Typed, TypedLease, TypedRange, TypedScope, TypedTenant}

-- ---- what is unused is zero
range_zero_law : (r : ClientRange) → range_zero r ≡ true → r ≡ zero_range
unfolding range_zero
range_zero_law r e =
    let p = and_parts _ _ e in
    let a : r.low ≡ 0 = eqb-true _ _ p.0 in
    let b : r.high ≡ 0 = eqb-true _ _ p.1 in
    ap₂ {C = ClientRange} (λ (x y : ℕ). record { low = x; high = y }) a b

ranges_zero : (l : List ClientRange) → all_by range_zero l ≡ true → l ≡ replicate (length l) zero_range
ranges_zero [] e = refl
ranges_zero (x ∷ l) e =
    let p = all_head range_zero x l e in
    ap₂ {C = List ClientRange} (λ (y : ClientRange) (r : List ClientRange). y ∷ r) (range_zero_law x p.0) (ranges_zero l p.1)

scope_zero_law : (c : Scope) → TypedScope c → scope_zero c ≡ true → c ≡ zero_scope
unfolding scope_zero tail_b
scope_zero_law c v e =
    let p = and_parts _ _ e in
    let q = and_parts _ _ p.1 in
    let r = and_parts _ _ q.1 in
    let t = and_parts _ _ r.1 in
    let a : c.lowest ≡ 0 = eqb-true _ _ p.0 in
    let b : c.size ≡ 0 = eqb-true _ _ q.0 in
    let d : c.ttl ≡ 0 = eqb-true _ _ r.0 in
    let x : c.reserve ≡ replicate 8 0 = zero_whole 8 c.reserve v.reserves t.0 in
    let y : c.limit ≡ replicate 8 0 = zero_whole 8 c.limit v.limits t.1 in
    ap₂ (λ (m : ℕ) (n : ℕ). make m n c.ttl c.reserve c.limit) a b ∙ ap₂ (λ (n : ℕ) (l : List ℕ). make 0 0 n l c.limit) d x ∙ ap (make 0 0 0 (replicate 8 0)) y
  where
    make : ℕ → ℕ → ℕ → List ℕ → List ℕ → Scope
    make m n o l k = record { lowest = m; size = n; ttl = o; reserve = l; limit = k }

scopes_zero : (l : List Scope) → All TypedScope l → all_by scope_zero l ≡ true → l ≡ replicate (length l) zero_scope
unfolding All
scopes_zero [] v e = refl
scopes_zero (x ∷ l) v e =
    let p = all_head scope_zero x l e in
    ap₂ {C = List Scope} (λ (y : Scope) (r : List Scope). y ∷ r) (scope_zero_law x v.0 p.0) (scopes_zero l v.1 p.1)

lease_zero : (l : Lease) → length l.id ≡ 32 → unused_b l ≡ true → l ≡ zero_lease
unfolding unused_b blank_b
lease_zero l v e =
    let p = and_parts _ _ e in
    let b = and_parts _ _ p.0 in
    let b1 = and_parts _ _ b.1 in
    let b2 = and_parts _ _ b1.1 in
    let b3 = and_parts _ _ b2.1 in
    let q = and_parts _ _ p.1 in
    let q1 = and_parts _ _ q.1 in
    let q2 = and_parts _ _ q1.1 in
    let e1 : l.scope ≡ 0 = eqb-true _ _ b.0 in
    let e2 : l.id_len ≡ 0 = eqb-true _ _ b1.0 in
    let e3 : l.kind ≡ 0 = eqb-true _ _ b2.0 in
    let e4 : l.xid ≡ 0 = eqb-true _ _ b3.0 in
    let e9 : l.lapse ≡ 0 = eqb-true _ _ b3.1 in
    let e5 : l.start ≡ 0 = eqb-true _ _ q.0 in
    let e6 : l.end ≡ 0 = eqb-true _ _ q1.0 in
    let e7 : l.addresses ≡ 0 = eqb-true _ _ q2.0 in
    let e8 : l.id ≡ replicate 32 0 = zero_whole 32 l.id v q2.1 in
    ap (λ (x : ℕ). lapsing_at x l) e9
    ∙ ap₂ (λ (x y : ℕ). lease_with x y l.id l.kind l.xid l.start l.end l.addresses) e1 e2
    ∙ ap₂ (λ (x : List ℕ) (y : ℕ). lease_with 0 0 x y l.xid l.start l.end l.addresses) e8 e3
    ∙ ap₂ (λ (x y : ℕ). lease_with 0 0 (replicate 32 0) 0 x y l.end l.addresses) e4 e5
    ∙ ap₂ (lease_with 0 0 (replicate 32 0) 0 0 0) e6 e7

pub leases_zero : (P : Lease → Type 0) → ((l : Lease) → P l → length l.id ≡ 32) → (l : List Lease) → All P l → all_by unused_b l ≡ true → l ≡ replicate (length l) zero_lease
unfolding All
leases_zero P long [] v e = refl
leases_zero P long (x ∷ l) v e =
    let p = all_head unused_b x l e in
    ap₂ {C = List Lease} (λ (y : Lease) (r : List Lease). y ∷ r) (lease_zero x (long x v.0) p.0) (leases_zero P long l v.1 p.1)

-- ---- a tenant's records
record Good (t : TenantLeases) : Type 0 where
  typed : TypedTenant t
  records : records_b t ≡ true
  apart : pairs_by differ (in_use t) ≡ true
  layout : layout_b t ≡ true

module _ (t : TenantLeases) (v : Good t) where
  good_count : t.count ≤ 16
  unfolding records_b
  good_count = leb-true _ _ (and_parts (leb t.count 16) (all_by id_b (in_use t)) v.records).0

  good_length : length (in_use t) ≡ t.count
  good_length = length-take-le t.count t.leases (let c = good_count in omega (arith, v.typed.long))

  good_ids : all_by id_b (in_use t) ≡ true
  unfolding records_b
  good_ids = (and_parts (leb t.count 16) (all_by id_b (in_use t)) v.records).1

  good_order : pairs_by ordered (in_use t) ≡ true
  unfolding layout_by
  good_order = (and_parts (pairs_by ordered (in_use t)) (all_by padded_b (in_use t) && all_by unused_b (drop t.count t.leases)) v.layout).0

  good_padded : all_by padded_b (in_use t) ≡ true
  unfolding layout_by
  good_padded = (and_parts (all_by padded_b (in_use t)) (all_by unused_b (drop t.count t.leases)) (and_parts (pairs_by ordered (in_use t)) (all_by padded_b (in_use t) && all_by unused_b (drop t.count t.leases)) v.layout).1).0

  good_unused : all_by unused_b (drop t.count t.leases) ≡ true
  unfolding layout_by
  good_unused = (and_parts (all_by padded_b (in_use t)) (all_by unused_b (drop t.count t.leases)) (and_parts (pairs_by ordered (in_use t)) (all_by padded_b (in_use t) && all_by unused_b (drop t.count t.leases)) v.layout).1).1

  good_typed : All TypedLease (in_use t)
  good_typed = all_take TypedLease t.count t.leases v.typed.each

  good_laid : laid_out (in_use t) ≡ t
  unfolding laid_out filled
  good_laid =
      ap₂ {C = TenantLeases} (λ (l : List Lease) (n : ℕ). record { leases = l; count = n })
      (filled_back zero_lease 16 t.count t.leases good_length
      (leases_zero TypedLease (λ l p. p.long) (drop t.count t.leases) (all_drop TypedLease t.count t.leases v.typed.each) good_unused
      ∙ ap (λ (k : ℕ). replicate k zero_lease) (length-drop t.count t.leases ∙ ap (λ (k : ℕ). k - t.count) v.typed.long)))
      good_length

-- a record in use
id_most : (l : Lease) → id_b l ≡ true → l.id_len ≤ 32
unfolding id_b
id_most l e = leb-true _ _ (and_parts (leb 2 l.id_len) (leb l.id_len 32) e).1

lapse_none : (l : Lease) → is_hold l || eqb l.lapse 0 ≡ true → is_hold l ≡ false → l.lapse ≡ 0
lapse_none l e h = eqb-true l.lapse 0 (sym (ap (λ (b : Bool). b || eqb l.lapse 0) h) ∙ e)

neat_of : (l : Lease) → TypedLease l → l.id_len ≤ 32 → padded_b l ≡ true → Neat l
unfolding padded_b
neat_of l w m e =
    let p = and_parts (is_hold l || eqb l.lapse 0) (zero_from l.id_len l.id) e in
    record { long = length-take-le l.id_len l.id (omega (arith, w.long)); most = m; zeros = zero_tail l.id_len 32 l.id w.long p.1; bits = w.addresses; lapse = lapse_none l p.0 }

-- in the order of the file
good_neat : (t : TenantLeases) → Good t → NeatTenant (laid_out (arranged by_identifier (in_use t)))
good_neat t v = record {
  few = let x = ap length back in let y = arranged_length by_identifier (in_use t) in let a = good_length t v in let b = good_count t v in omega arith;
  rising = ap (pairs_by by_identifier) back ∙ arranged_sorted differ by_identifier by_identifier_law (in_use t) v.apart;
  each = subst (All Neat) (sym back) (arranged_each Neat by_identifier (in_use t) each);
  laid = ap laid_out back;
}
  where
    back : in_use (laid_out (arranged by_identifier (in_use t))) ≡ arranged by_identifier (in_use t)
    back = read_back (arranged by_identifier (in_use t))

    each : All Neat (in_use t)
    each = two_facts (λ l. (TypedLease l) × (l.id_len ≤ 32)) (λ l. padded_b l ≡ true) Neat (in_use t) (λ l p q. neat_of l p.0 p.1 q)
        (two_facts TypedLease (λ l. l.id_len ≤ 32) (λ l. (TypedLease l) × (l.id_len ≤ 32)) (in_use t) (λ l p q. (p, q)) (good_typed t v)
        (all_facts id_b (λ l. l.id_len ≤ 32) (in_use t) id_most (good_ids t v)))
        (all_facts padded_b (λ l. padded_b l ≡ true) (in_use t) (λ l p. p) (good_padded t v))

good_octets : (t : TenantLeases) → Good t → All OctetLease (in_use (laid_out (arranged by_identifier (in_use t))))
good_octets t v = subst (All OctetLease) (sym (read_back (arranged by_identifier (in_use t)))) (arranged_each OctetLease by_identifier (in_use t) (one_fact TypedLease OctetLease (in_use t) (λ l w. record { scope = w.scope; id = w.id; kind = w.kind; xid = w.xid; start = w.start; end = w.end; lapse = w.lapse }) (good_typed t v)))

-- and back in the order of records
order_again : (ts : List TenantLeases) → All Good ts → map laid_out (map (arranged ordered) (map (arranged by_identifier) (map in_use ts))) ≡ ts
unfolding All
order_again [] v = refl
order_again (t ∷ ts) v =
    ap₂ {C = List TenantLeases} (λ (x : TenantLeases) (r : List TenantLeases). x ∷ r)
    (ap laid_out (order_back (in_use t) v.0.apart (good_order t v.0)) ∙ good_laid t v.0) (order_again ts v.1)

passes : (b c : Bool) → b ≡ false → c ≡ true → pick b false c ≡ true
unfolding pick
passes b c e p = ap (λ (x : Bool). pick x false c) e ∙ p

-- ---- scopes
firsts : (n : ℕ) (a b : List ℕ) → length a ≡ length b → map (λ p. p.reserve) (take n (pair_up a b)) ≡ take n a
unfolding pair_up
firsts zero a b e = refl
firsts (suc n) [] b e = refl
firsts (suc n) (x ∷ a) [] e = absurd (omega arith)
firsts (suc n) (x ∷ a) (y ∷ b) e = ap {B = List ℕ} (λ (r : List ℕ). x ∷ r) (firsts n a b (let q : length a ≡ length b = omega arith in q))

seconds : (n : ℕ) (a b : List ℕ) → length a ≡ length b → map (λ p. p.limit) (take n (pair_up a b)) ≡ take n b
unfolding pair_up
seconds zero a b e = refl
seconds (suc n) [] [] e = refl
seconds (suc n) [] (y ∷ b) e = absurd (omega arith)
seconds (suc n) (x ∷ a) [] e = absurd (omega arith)
seconds (suc n) (x ∷ a) (y ∷ b) e = ap {B = List ℕ} (λ (r : List ℕ). y ∷ r) (seconds n a b (let q : length a ≡ length b = omega arith in q))

column_back : (n : ℕ) (l : List ℕ) → n ≤ 8 → length l ≡ 8 → zero_from n l ≡ true → filled 0 8 (take n l) ≡ l
column_back n l h e z = filled_back 0 8 n l (length-take-le n l (omega arith)) (zero_tail n 8 l e z)

scope_back : (n : ℕ) (c : Scope) → n ≤ 8 → TypedScope c → tail_b n c ≡ true → stored_scope (filed_scope n c) ≡ c
unfolding stored_scope filed_scope tail_b
scope_back n c h v e =
    let p = and_parts (zero_from n c.reserve) (zero_from n c.limit) e in
    let q : length c.reserve ≡ length c.limit = v.reserves ∙ sym v.limits in
    ap₂ {C = Scope} (λ (x y : List ℕ). record { lowest = c.lowest; size = c.size; ttl = c.ttl; reserve = x; limit = y })
    (ap (filled 0 8) (firsts n c.reserve c.limit q) ∙ column_back n c.reserve h v.reserves p.0)
    (ap (filled 0 8) (seconds n c.reserve c.limit q) ∙ column_back n c.limit h v.limits p.1)

scopes_back : (n : ℕ) (l : List Scope) → n ≤ 8 → All TypedScope l → all_by (tail_b n) l ≡ true → map stored_scope (map (filed_scope n) l) ≡ l
unfolding All
scopes_back n [] h v e = refl
scopes_back n (c ∷ l) h v e =
    let p = all_head (tail_b n) c l e in
    ap₂ {C = List Scope} (λ (x : Scope) (r : List Scope). x ∷ r) (scope_back n c h v.0 p.0) (scopes_back n l h v.1 p.1)

parts_ok : (a b : List ℕ) → All (λ x. x < 256) a → All (λ x. x < 256) b → All part_format.ok (pair_up a b)
unfolding pair_up All
parts_ok [] b p q = tt
parts_ok (x ∷ a) [] p q = tt
parts_ok (x ∷ a) (y ∷ b) p q = ((p.0, q.0), parts_ok a b p.1 q.1)

scope_ok : (n k : ℕ) (c : Scope) → n ≤ 8 → k ≡ n → TypedScope c → (scope_format k).ok (filed_scope n c)
unfolding filed_scope
scope_ok n k c h e v =
    let l = pair_length 8 c.reserve c.limit v.reserves v.limits in
    (v.lowest, (v.size, (v.ttl, (length-take-le n (pair_up c.reserve c.limit) (omega arith) ∙ sym e, all_take part_format.ok n (pair_up c.reserve c.limit) (parts_ok c.reserve c.limit v.reserve v.limit)))))

picked : (b : Bool) (c : Bool) → b ≡ true → pick true b c ≡ true
unfolding pick
picked b c e = e

-- ---- names
-- good names are a section's octets
names_ok : (k h m n : ℕ) (names : List ℕ) → k ≡ m → h ≡ n → Octets names → names_b k h names ≡ true → (verbatim (names_format m n)).ok names
unfolding names_b is_whole
names_ok k h m n names ek eh o e = subst (λ (x : ℕ). (verbatim (names_format x n)).ok names) ek (subst (λ (x : ℕ). (verbatim (names_format k x)).ok names) eh (go ((names_format k h).read names) refl e))
  where
    go : (g : Got (List (List (List Name)))) → (names_format k h).read names ≡ g → is_whole g ≡ true → (verbatim (names_format k h)).ok names
    go (got x []) p w = let (q, r) = (names_lawful k h).reads names x [] o p in (x, q, r ∙ append-nil ((names_format k h).write x))
    go (got x (y ∷ r)) p w = let z : ◌≡◌ {A = ℕ} 0 1 = cc in absurd (omega arith)
    go bad p w = let z : ◌≡◌ {A = ℕ} 0 1 = cc in absurd (omega arith)

-- ---- the book
module _ (s : State) (b : LeaseTable) (m : Memory) (v : Typed s b m) (e : sound_b s b ≡ true) (w : memory_b s b m ≡ true) (names : List ℕ) where
  abbrev filed : File
  filed = filed_book (record { state = s; table = b; memory = m; names = names })

  rules : AllRules (rules_of s b)
  rules = rules_of_law s b e

  counted_both : (counts_b s ≡ true) × (all_by records_b b.tenants ≡ true)
  unfolding rules_by rule1
  counted_both = and_parts (counts_b s) (all_by records_b b.tenants) rules.limits

  laid_both : (settings_b s ≡ true) × (all_by layout_b b.tenants ≡ true)
  unfolding rules_by rule19_by
  laid_both = and_parts (settings_b s) (all_by layout_b b.tenants) rules.layout

  few_most : (most n : ℕ) → one_to most n ≡ true → n ≤ most
  unfolding one_to
  few_most most n p = leb-true n most (and_parts (leb 1 n) (leb n most) p).1

  tenants_few : s.tenant_count ≤ 8
  unfolding counts_b
  tenants_few = few_most 8 s.tenant_count (and_parts (one_to 8 s.tenant_count) (one_to 4 s.scope_count && all_by size_b (scopes_of s)) counted_both.0).0

  scopes_few : s.scope_count ≤ 4
  unfolding counts_b
  scopes_few =
      few_most 4 s.scope_count
      (and_parts (one_to 4 s.scope_count) (all_by size_b (scopes_of s)) (and_parts (one_to 8 s.tenant_count) (one_to 4 s.scope_count && all_by size_b (scopes_of s)) counted_both.0).1).0

  differ_both : all_by (λ t. pairs_by differ (in_use t)) b.tenants ≡ true
  unfolding rules_by rule8
  differ_both = sym (all_map (pairs_by differ) in_use b.tenants) ∙ rules.identifiers

  good : All Good b.tenants
  good =
      two_facts (λ t. (TypedTenant t) × (records_b t ≡ true)) (λ t. (pairs_by differ (in_use t) ≡ true) × (layout_b t ≡ true)) Good b.tenants (λ t p q. record { typed = p.0; records = p.1; apart = q.0; layout = q.1 })
      (two_facts TypedTenant (λ t. records_b t ≡ true) (λ t. (TypedTenant t) × (records_b t ≡ true)) b.tenants (λ t p q. (p, q)) v.leases
      (all_facts records_b (λ t. records_b t ≡ true) b.tenants (λ t p. p) counted_both.1))
      (two_facts (λ t. pairs_by differ (in_use t) ≡ true) (λ t. layout_b t ≡ true) (λ t. (pairs_by differ (in_use t) ≡ true) × (layout_b t ≡ true)) b.tenants (λ t p q. (p, q))
      (all_facts (λ t. pairs_by differ (in_use t)) (λ t. pairs_by differ (in_use t) ≡ true) b.tenants (λ t p. p) differ_both)
      (all_facts layout_b (λ t. layout_b t ≡ true) b.tenants (λ t p. p) laid_both.1))

  ranges_many : length (ranges_of s) ≡ s.tenant_count
  ranges_many = length-take-le s.tenant_count s.tenants (let h = tenants_few in omega (arith, v.eight))

  scopes_many : length (scopes_of s) ≡ s.scope_count
  scopes_many = length-take-le s.scope_count s.scopes (let h = scopes_few in omega (arith, v.four))

  -- the records in the order of the file
  ordered_each : (P : TenantLeases → Type 0) → ((t : TenantLeases) → Good t → P (laid_out (arranged by_identifier (in_use t)))) → All P (in_file_order b).tenants
  unfolding in_file_order table_of
  ordered_each P f =
      all_mapped P laid_out (map (arranged by_identifier) (map in_use b.tenants))
      (all_mapped (λ l. P (laid_out l)) (arranged by_identifier) (map in_use b.tenants) (all_mapped (λ l. P (laid_out (arranged by_identifier l))) in_use b.tenants (one_fact Good (λ t. P (laid_out (arranged by_identifier (in_use t)))) b.tenants f good)))

  eight : length (in_file_order b).tenants ≡ 8
  unfolding in_file_order table_of
  eight = length-map (map (arranged by_identifier) (map in_use b.tenants)) laid_out ∙ length-map (map in_use b.tenants) (arranged by_identifier) ∙ length-map b.tenants in_use ∙ v.tenants

  neat : All NeatTenant (in_file_order b).tenants
  neat = ordered_each NeatTenant good_neat

  octets : All (λ t. All OctetLease (in_use t)) (in_file_order b).tenants
  octets = ordered_each (λ t. All OctetLease (in_use t)) good_octets

  -- its file has octets
  pub book_ok : Octets names → names_b s.scope_count s.tenant_count names ≡ true → file_format.ok filed
  unfolding filed_book filed_as
  book_ok o good_names =
      let n = tenants_few in let k = scopes_few in
      let a = ranges_many in let c = scopes_many in
      let d = length-map (scopes_of s) (filed_scope s.tenant_count) in (
        (v.server, v.clock),
        (
          (let g : length (ranges_of s) < 256 = omega arith in g, ranges_ok),
          (
            (let g : length (map (filed_scope s.tenant_count) (scopes_of s)) < 256 = omega arith in g, scopes_ok),
            (
              leases_ok (in_file_order b) eight neat octets,
              (names_ok s.scope_count s.tenant_count _ _ names (sym (d ∙ c)) (sym a) o good_names, (memory_written s b m w v.memory v.releases, holds_ok (in_file_order b) eight neat octets)),
            ),
          ),
        ),
      )
    where
      ranges_ok : All tenant_format.ok (ranges_of s)
      ranges_ok = one_fact TypedRange tenant_format.ok (ranges_of s) (λ r p. (p.low, p.high)) (all_take TypedRange s.tenant_count s.tenants v.ranges)

      scopes_ok : All (scope_format (length (ranges_of s))).ok (map (filed_scope s.tenant_count) (scopes_of s))
      scopes_ok = all_mapped (scope_format (length (ranges_of s))).ok (filed_scope s.tenant_count) (scopes_of s)
          (one_fact TypedScope (λ c. (scope_format (length (ranges_of s))).ok (filed_scope s.tenant_count c)) (scopes_of s) (λ c p. scope_ok s.tenant_count (length (ranges_of s)) c tenants_few ranges_many p)
          (all_take TypedScope s.scope_count s.scopes v.scopes))

  -- the records can hold it
  pub book_fits : fits_b (filed) ≡ true
  unfolding fits_b filed_book filed_as counts_fit
  book_fits =
      let n = tenants_few in let k = scopes_few in
      let a = ranges_many in let c = scopes_many in
      let d = length-map (scopes_of s) (filed_scope s.tenant_count) in
      ap (λ (x : Bool). pick x (pick (records_fit_b (filed_leases (in_file_order b)) (filed_holds (in_file_order b))) (releases_fit_b (filed_memory m)) false) false)
      (passes _ _ (le-ltb 8 (length (ranges_of s)) (omega arith)) (le-leb (length (map (filed_scope s.tenant_count) (scopes_of s))) 4 (omega arith)))
      ∙ picked _ _ (ap (λ (x : Bool). pick x (releases_fit_b (filed_memory m)) false) (table_fits (in_file_order b) eight neat) ∙ picked _ _ (memory_held s b m w v.memory v.releases))

  -- and hold what the book holds
  pub table_same : stored_table (filed) ≡ b
  unfolding stored_table filed_book filed_as in_file_order table_of
  table_same =
      table_again (in_file_order b) eight neat
      ∙ ap (λ (l : List (List Lease)). table_of (map (arranged ordered) l)) (table_back (map (arranged by_identifier) (map in_use b.tenants)))
      ∙ ap {B = LeaseTable} (λ (l : List TenantLeases). record { tenants = l }) (order_again b.tenants good)

  pub releases_same : (stored_memory filed.releases).releases ≡ m.releases
  unfolding filed_book filed_as
  releases_same = memory_same s b m w v.memory v.releases

  cut_tenants : min s.tenant_count 8 ≡ s.tenant_count
  cut_tenants = let n = tenants_few in omega arith

  cut_scopes : min s.scope_count 4 ≡ s.scope_count
  cut_scopes = let n = scopes_few in omega arith

  tails : (all_by range_zero (drop s.tenant_count s.tenants) ≡ true) × (all_by scope_zero (drop s.scope_count s.scopes) ≡ true) × (all_by (tail_b s.tenant_count) (scopes_of s) ≡ true)
  unfolding settings_b
  tails =
      let p = and_parts (all_by range_zero (drop (min s.tenant_count 8) s.tenants)) (all_by scope_zero (drop (min s.scope_count 4) s.scopes) && all_by (tail_b (min s.tenant_count 8)) (scopes_of s)) laid_both.0 in
      let q = and_parts (all_by scope_zero (drop (min s.scope_count 4) s.scopes)) (all_by (tail_b (min s.tenant_count 8)) (scopes_of s)) p.1 in
      (ap (λ (n : ℕ). all_by range_zero (drop n s.tenants)) (sym cut_tenants) ∙ p.0, ap (λ (n : ℕ). all_by scope_zero (drop n s.scopes)) (sym cut_scopes) ∙ q.0, ap (λ (n : ℕ). all_by (tail_b n) (scopes_of s)) (sym cut_tenants) ∙ q.1)

  ranges_same : filled zero_range 8 (ranges_of s) ≡ s.tenants
  ranges_same =
      filled_back zero_range 8 s.tenant_count s.tenants ranges_many
      (ranges_zero (drop s.tenant_count s.tenants) tails.0 ∙ ap (λ (k : ℕ). replicate k zero_range) (length-drop s.tenant_count s.tenants ∙ ap (λ (k : ℕ). k - s.tenant_count) v.eight))

  scopes_same : filled zero_scope 4 (map stored_scope (map (filed_scope s.tenant_count) (scopes_of s))) ≡ s.scopes
  scopes_same =
      ap (filled zero_scope 4) (scopes_back s.tenant_count (scopes_of s) tenants_few (all_take TypedScope s.scope_count s.scopes v.scopes) tails.2)
      ∙ filled_back zero_scope 4 s.scope_count s.scopes scopes_many
      (scopes_zero (drop s.scope_count s.scopes) (all_drop TypedScope s.scope_count s.scopes v.scopes) tails.1
      ∙ ap (λ (k : ℕ). replicate k zero_scope) (length-drop s.scope_count s.scopes ∙ ap (λ (k : ℕ). k - s.scope_count) v.four))

  pub state_same : stored_state (filed) ≡ s
  unfolding stored_state filed_book filed_as
  state_same =
      ap₂ (λ (n m : ℕ). make n (filled zero_range 8 (ranges_of s)) m (filled zero_scope 4 (map stored_scope (map (filed_scope s.tenant_count) (scopes_of s))))) ranges_many (length-map (scopes_of s) (filed_scope s.tenant_count) ∙ scopes_many)
      ∙ ap₂ (λ (ts : List ClientRange) (cs : List Scope). make s.tenant_count ts s.scope_count cs) ranges_same scopes_same
    where
      make : ℕ → List ClientRange → ℕ → List Scope → State
      make n ts m cs = record { server = s.server; clock = s.clock; tenant_count = n; tenants = ts; scope_count = m; scopes = cs }
