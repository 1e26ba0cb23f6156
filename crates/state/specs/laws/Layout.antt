-- Laws: between records and lists.
use Rattle.std.specs.Prelude.{ℕ, ◌+◌, ◌-◌, max, ◌≤◌, ◌<◌, min, Bool, true, false, List, [], ◌∷◌, ◌++◌, map, eqb, ltb, leb, replicate, set, take, drop, get_or, ◌≡◌}
use Rattle.std.proofs.Math.Bool.{not}
use Rattle.std.proofs.Common.{append_assoc, append-nil, drop_of_length-le, leb-true, leb-false, length-append, length-drop, length-take, take_all, sym, ap₂, ◌∙◌}
use Rattle.std.proofs.lemmas.Simd.{map-map}
use Rattle.std.proofs.Math.ListN.{length}
use Rattle.std.proofs.Math.Nat.{min-eq_left}
use Rattle.lists.specs.Filter.{filter_by}
use Rattle.lists.specs.Pick.{pick}
use Rattle.lists.specs.Row.{laid_row}
use Rattle.std.specs.declared.cmp.Ordering.{Ordering}
use Rattle.std.specs.declared.cmp.Ordering.TheVariants.{Less, Equal, Greater}
use Rattle.std.specs.Ordering.{is_lt, ordering_index}
use Rattle.identifier.specs.Order.{order_of}
use Rattle.occupancy.specs.declared.Board.{Board}
use Rattle.state.specs.declared.Lease.{Lease}
use Rattle.state.specs.declared.TenantLeases.{TenantLeases}
use Rattle.state.specs.declared.LeaseTable.{LeaseTable}
use Rattle.state.specs.declared.Release.{Release}
use Rattle.state.specs.declared.TenantReleases.{TenantReleases}
use Rattle.state.specs.declared.OrderBy.{OrderBy}
use Rattle.state.specs.declared.OrderBy.TheVariants.{Ending, Identifier}
use Rattle.state.specs.declared.Scope.{Scope}
use Rattle.state.specs.declared.State.{State}
use Rattle.std.proofs.Math.Path.{refl, ap}
use native.Mathlib.Omega.{arith}
use Rattle.lists.specs.laws.Pick.{pick_lt, pick_not_lt, pick_yes, pick_no}
use Rattle.lists.specs.Fold.{fold}
use Rattle.lists.specs.Arranged.{insert_in}
use Rattle.lists.specs.laws.Filter.{filter_fewer}
use Rattle.lists.specs.laws.Each.{map_set, map_back}
use Rattle.lists.specs.laws.Row.{row_back, row_push, row_filtered, row_insert, row_length, row_in, row_out}
use Rattle.state.specs.Book.{Book, advanced, changed_to, lease_with, zero_lease, in_use, laid_out, pushed, kept_if, id_of, Order, by_identifier, ordered, order_for, named, other, inserted_in, remove_of, place_of, live_of, lease_at, table_of, leases_of, put_at, raised, dropped, cleared, with_clock, laid_releases, pushed_release, remembered, zero_release, inserted_by}

-- ---- one turn of the loops below
-- what an element is past the end of an array
abbrev pub no_lease : Lease
no_lease = lease_with 0 0 [] 0 0 0 0 0

abbrev pub no_release : Release
no_release = record { id_len = 0; id = []; xid = 0; time = 0 }

abbrev pub no_scope : Scope
no_scope = record { lowest = 0; size = 0; ttl = 0; reserve = []; limit = [] }

-- what is laid out is read back
pub read_back : (p : List Lease) → in_use (laid_out p) ≡ p
unfolding laid_out
read_back p = row_back zero_lease 16 p

pub releases_back : (p : List Release) → remembered (laid_releases p) ≡ p
unfolding laid_releases
releases_back p = row_back zero_release 4 p

-- one entry more behind those that are laid out, in any record of an array and a count
push_row : {A R : Type 0} (z : A) (n : ℕ) (made : List A → ℕ → R) (p : List A) (x : A) → length p < n
    → pick (ltb (length p) n) (made (set (laid_row z n p) (length p) x) (length p + 1)) (made (laid_row z n p) (length p)) ≡ made (laid_row z n (p ++ x ∷ [])) (length (p ++ x ∷ []))
push_row z n made p x h = sym (pick_lt _ _ _ (length p) n h (sym (ap₂ made (row_push z n p x h) (sym (length-append p (x ∷ []))))))

pub push_laid : (p : List Lease) (l : Lease) → length p < 16 → pushed (laid_out p) l ≡ laid_out (p ++ l ∷ [])
unfolding pushed laid_out
push_laid p l h = push_row zero_lease 16 (λ x k. record { leases = x; count = k }) p l h

pub push_release_laid : (p : List Release) (r : Release) → length p < 4 → pushed_release (laid_releases p) r ≡ laid_releases (p ++ r ∷ [])
unfolding pushed_release laid_releases
push_release_laid p r h = push_row zero_release 4 (λ x k. record { releases = x; count = k }) p r h

pub filter_is : (t : Lease → Bool) (x : ℕ) (l : List Lease) → length l ≡ 16 → fold (kept_if t) (laid_out []) (take x l) ≡ laid_out (filter_by t (take x l))
unfolding kept_if
filter_is t x l h = row_filtered 16 laid_out pushed push_laid t x l h

-- ---- the turns of the code: a lease that a call passes is written behind the last one
module _ (u : Lease → Bool) (now : TenantLeases) (l : Lease) {q : Bool} (e : q ≡ u l) where
  pub kept_in : {r : TenantLeases} → q ≡ true → r ≡ pushed now l → r ≡ kept_if u now l
  unfolding kept_if
  kept_in {r} y p = pick_yes _ now r e y p

  pub kept_out : q ≡ false → now ≡ kept_if u now l
  unfolding kept_if
  kept_out n = pick_no _ now _ e n refl

pub other_is : (i : List ℕ) (l : Lease) {q : Bool} → q ≡ named i l → not q ≡ other i l
other_is i l e = ap not e

-- ---- the order of two records
pub named_before_is : (a b : Lease) (o : Ordering) → ordering_index o ≡ order_of (id_of a) (id_of b) → is_lt o ≡ by_identifier a b
unfolding by_identifier
named_before_is a b Less e = ap (λ (x : ℕ). eqb x 0) e
named_before_is a b Equal e = ap (λ (x : ℕ). eqb x 0) e
named_before_is a b Greater e = ap (λ (x : ℕ). eqb x 0) e

module _ (a b : Lease) (by : OrderBy) {q : Bool} where
  pub comes_ending : by ≡ Ending → q ≡ ordered a b → q ≡ order_for by a b
  unfolding order_for
  comes_ending e p = p ∙ ap (λ (c : OrderBy). order_for c a b) (sym e)

  pub comes_named : by ≡ Identifier → q ≡ by_identifier a b → q ≡ order_for by a b
  unfolding order_for
  comes_named e p = p ∙ ap (λ (c : OrderBy). order_for c a b) (sym e)

-- ---- insertion
module _ (o : Order) (t : TenantLeases) (l : Lease) {n : ℕ} (k : n ≡ length (in_use t)) where
  pub inserted_in_law : {b r : TenantLeases} → n < 16 → b ≡ pushed (fold (kept_if (λ x. o x l)) (laid_out []) (in_use t)) l → r ≡ fold (kept_if (λ x. not (o x l))) b (in_use t) → r ≡ inserted_by o l t
  unfolding inserted_by kept_if
  inserted_in_law {b} {r} h eb er =
      let short : length (in_use t) < 16 = omega arith in
      let p : r ≡ fold (kept_if (λ x. not (o x l))) (pushed (fold (kept_if (λ x. o x l)) (laid_out []) (in_use t)) l) (in_use t) = cc in
      pick_lt (laid_out (insert_in o l (in_use t))) t r (length (in_use t)) 16 short (p ∙ row_insert 16 laid_out pushed push_laid o l (in_use t) short)

  pub inserted_full : 16 ≤ n → t ≡ inserted_by o l t
  unfolding inserted_by
  inserted_full h = pick_not_lt (laid_out (insert_in o l (in_use t))) t t (length (in_use t)) 16 (omega arith) refl

pub inserted_ending : (l : Lease) (t : TenantLeases) {r : TenantLeases} → r ≡ inserted_by (order_for Ending) l t → r ≡ inserted_in l t
unfolding order_for
inserted_ending l t e = e

-- ---- the loops, from the leases in use
laid_from : (ls q : List Lease) → length q + length ls ≤ 16 → fold pushed (laid_out q) ls ≡ laid_out (q ++ ls)
laid_from [] q h = ap laid_out (sym (append-nil q))
laid_from (x ∷ ls) q h =
    let m = length-append q (x ∷ []) in
    ap (λ (y : TenantLeases). fold pushed y ls) (push_laid q x (omega arith)) ∙ laid_from ls (q ++ x ∷ []) (omega arith) ∙ ap laid_out (append_assoc q (x ∷ []) ls)

-- a place past the last is the end
drop_min : {A : Type 0} (k : ℕ) (l : List A) → drop (min k (length l)) l ≡ drop k l
drop_min {A} k l = go (leb k (length l)) refl
  where
    go : (b : Bool) → leb k (length l) ≡ b → drop (min k (length l)) l ≡ drop k l
    go true h = let q = leb-true k (length l) h in ap (λ (x : ℕ). drop x l) (min-eq_left q)
    go false h = let q = leb-false k (length l) h in drop_of_length-le l {i = min k (length l)} (omega arith) ∙ sym (drop_of_length-le l {i = k} (omega arith))

module _ (t : TenantLeases) {own : List Lease} {z r : TenantLeases} (e : z ≡ laid_out []) (p : own ≡ in_use t) (g : length t.leases ≡ 16) where
  pub removed_is : (i : List ℕ) → r ≡ fold (kept_if (other i)) z own → r ≡ laid_out (remove_of i (in_use t))
  unfolding remove_of
  removed_is i q = q ∙ ap₂ (λ (x : TenantLeases) (l : List Lease). fold (kept_if (other i)) x l) e p ∙ filter_is (other i) t.count t.leases g

  -- from a place on
  pub rest_is : (k : ℕ) {m : ℕ} → m ≡ min k (length own) → r ≡ fold pushed z (take (length own - m) (drop m own)) → r ≡ laid_out (drop k (in_use t))
  rest_is k {m} h q =
      let long = length-drop m own in
      let u : take (length own - m) (drop m own) ≡ drop k (in_use t) =
      take_all (length own - m) (drop m own) (omega arith) ∙ ap (λ (x : ℕ). drop x own) h ∙ drop_min k own ∙ ap (drop k) p in
      let few = length-drop k (in_use t) in
      let all = length-take t.count t.leases in
      q ∙ ap₂ (λ (x : TenantLeases) (l : List Lease). fold pushed x l) e u ∙ laid_from (drop k (in_use t)) [] (omega arith)

pub empty_is : (l : Lease) → l ≡ zero_lease → ◌≡◌ {A = TenantLeases} (record { leases = replicate 16 l; count = 0 }) (laid_out [])
unfolding laid_out
empty_is l e = ap {B = TenantLeases} (λ (x : Lease). record { leases = replicate 16 x; count = 0 }) e

pub none_released : (r : Release) → r ≡ zero_release → ◌≡◌ {A = TenantReleases} (record { releases = replicate 4 r; count = 0 }) (laid_releases [])
unfolding laid_releases
none_released r e = ap {B = TenantReleases} (λ (x : Release). record { releases = replicate 4 x; count = 0 }) e

-- ---- removal
pub removed_fewer : (i : List ℕ) (ls : List Lease) → place_of i ls < length ls → length (remove_of i ls) < length ls
unfolding remove_of
removed_fewer i ls h = filter_fewer (named i) ls h

-- ---- lengths and places
pub length_in_use : (t : TenantLeases) (r : ℕ) → length t.leases ≡ 16 → r ≡ min t.count 16 → r ≡ length (in_use t)
length_in_use t r e p = row_length t.leases 16 t.count r e p

pub lease_in_law : (t : TenantLeases) (n at : ℕ) → length t.leases ≡ 16 → n ≡ min t.count 16 → at < n → get_or t.leases at no_lease ≡ lease_at (in_use t) at
lease_in_law t n at g e h = row_in t.leases 16 t.count n at no_lease zero_lease g e h

pub lease_out : (t : TenantLeases) (n at : ℕ) (r : Lease) → length t.leases ≡ 16 → r ≡ zero_lease → n ≡ min t.count 16 → n ≤ at → r ≡ lease_at (in_use t) at
lease_out t n at r g z e h = row_out t.leases 16 t.count n at zero_lease r g z e h

-- ---- all tenants
abbrev pub ended_in : ℕ → TenantLeases → TenantLeases
ended_in clock t = laid_out (live_of clock (in_use t))

pub dropped_is : (clock : ℕ) (b now : LeaseTable) → now.tenants ≡ map (ended_in clock) b.tenants → now ≡ dropped clock b
unfolding table_of dropped
dropped_is clock b now e =
    ap {B = LeaseTable} (λ (x : List TenantLeases). record { tenants = x })
    (e ∙ sym (ap (map laid_out) (map-map (live_of clock) in_use b.tenants) ∙ map-map laid_out (λ t. live_of clock (in_use t)) b.tenants))

-- what is laid out is read back
pub table_back : (ls : List (List Lease)) → leases_of (table_of ls) ≡ ls
unfolding table_of
table_back ls = map_back laid_out in_use read_back ls

-- one tenant's leases replaced
pub put_laid : (ls : List (List Lease)) (b : LeaseTable) (h : ℕ) (t : TenantLeases) (x : List Lease) → b ≡ table_of ls → t ≡ laid_out x → put_at b h t ≡ table_of (set ls h x)
unfolding table_of
put_laid ls b h t x e p =
    ap {B = LeaseTable} (λ (y : List TenantLeases). record { tenants = y }) (ap₂ {C = List TenantLeases} (λ (y : List TenantLeases) (z : TenantLeases). set y h z) (ap (λ (y : LeaseTable). y.tenants) e) p ∙ map_set laid_out ls h x)

-- ---- the clock
pub raised_is : (s : State) (time : ℕ) {k : ℕ} → k ≡ max s.clock time → with_clock s k ≡ raised s time
unfolding raised
raised_is s time e = ap (with_clock s) e

pub advanced_is : (b : Book) (time : ℕ) (s : State) (t : LeaseTable) (w : Board) → s ≡ raised b.state time → t ≡ dropped s.clock b.table
    → w ≡ cleared s.clock b.table b.memory.board → changed_to b s t (record { releases = b.memory.releases; board = w }) ≡ advanced b time
unfolding advanced raised
advanced_is b time s t w p q r =
    ap (λ (x : Board). changed_to b s t (record { releases = b.memory.releases; board = x })) r
    ∙ ap (λ (x : LeaseTable). changed_to b s x (record { releases = b.memory.releases; board = cleared s.clock b.table b.memory.board })) q
    ∙ ap (λ (x : State). changed_to b x (dropped x.clock b.table) (record { releases = b.memory.releases; board = cleared x.clock b.table b.memory.board })) p
