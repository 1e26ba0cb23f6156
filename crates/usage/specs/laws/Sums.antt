-- Laws: sums that stop at the largest u64, and the loops that add to the totals.
use Rattle.std.specs.Prelude.{ℕ, ◌+◌, ◌-◌, ◌*◌, ◌≤◌, ◌<◌, min, max, ◌≡◌, Bool, true, false, not, ◌&&◌, eqb, get_or, length, set, take}
use Rattle.std.proofs.Math.Path.{sym, ap, ap₂}
use Rattle.std.proofs.Common.{◌∙◌, arith, mul-le-mul}
use mathlib.Core.List.{List, [], ◌∷◌, map}
use Rattle.std.proofs.Math.ListN.{length-set}
use Rattle.std.proofs.Math.Seq.{take_all}
use Rattle.lists.specs.Pick.{pick}
use Rattle.lists.specs.Fold.{fold}
use Rattle.lists.specs.laws.Copy.{CopyInv, copy_front, copy_full, copy_start}
use Rattle.lists.specs.laws.Part.{PartInv, cut_take, unmapped}
use Rattle.lists.specs.laws.Row.{at_in}
use Rattle.address_set.specs.AddressSet.{offsets, up_to}
use Rattle.address_set.specs.laws.Offsets.{each_at, each_long}
use Rattle.state.specs.declared.Lease.{Lease}
use Rattle.state.specs.declared.LeaseTable.{LeaseTable}
use Rattle.state.specs.declared.TenantLeases.{TenantLeases}
use Rattle.state.specs.Book.{in_scope, in_use, is_hold, laid_out}
use Rattle.state.specs.laws.Layout.{no_lease}
use Rattle.usage.specs.declared.ScopeTotals.{ScopeTotals}
use Rattle.usage.specs.declared.Totals.{Totals}
use Rattle.usage.specs.Usage.{counted, covered, covered_in, sum_over}
use Rattle.usage.specs.Report.{added_scope, added_tenant, added_totals, capped_sum, cut, more_covered, no_scope_totals}

-- ---- one sum
pub product_small : (n d : ℕ) → n < 4294967296 → d < 4294967296 → n * d < 18446744073709551616
product_small n d h k =
    let m : n * d ≤ 4294967295 * 4294967295 = mul-le-mul (let z : n ≤ 4294967295 = omega arith in z) (let z : d ≤ 4294967295 = omega arith in z) in
    omega arith

pub cover_is : (l : Lease) (c n k e s d r : ℕ) → k ≡ length (offsets l.addresses) → e ≡ min l.end n → s ≡ max l.start c → d ≡ e - s → r ≡ k * d → r ≡ covered c n l
unfolding covered
cover_is l c n k e s d r p q u v w = w ∙ ap₂ (λ (x y : ℕ). x * y) p (v ∙ ap₂ (λ (x y : ℕ). x - y) q u)

-- ---- over a tenant's records
cut_add : (a b : ℕ) → capped_sum (cut a) b ≡ cut (a + b)
unfolding capped_sum cut
cut_add a b = omega arith

pub cut_cut : (a b : ℕ) → capped_sum (cut a) (cut b) ≡ cut (a + b)
unfolding capped_sum cut
cut_cut a b = omega arith

more_is : (s c n a : ℕ) (l : Lease) → more_covered s c n (cut a) l ≡ cut (a + pick (counted s l) (covered c n l) 0)
unfolding more_covered pick
more_is s c n a l = go (counted s l)
  where
    go : (b : Bool) → pick b (capped_sum (cut a) (covered c n l)) (cut a) ≡ cut (a + pick b (covered c n l) 0)
    go true = cut_add a (covered c n l)
    go false = ap cut (let z : a ≡ a + 0 = omega arith in z)

covered_from : (s c n a : ℕ) (ls : List Lease) → fold (more_covered s c n) (cut a) ls ≡ cut (a + covered_in s c n ls)
unfolding covered_in sum_over
covered_from s c n a [] = ap cut (let z : a ≡ a + 0 = omega arith in z)
covered_from s c n a (l ∷ ls) =
    ap (λ (x : ℕ). fold (more_covered s c n) x ls) (more_is s c n a l) ∙ covered_from s c n (a + pick (counted s l) (covered c n l) 0) ls
    ∙ ap cut (let z : a + pick (counted s l) (covered c n l) 0 + covered_in s c n ls ≡ a + (pick (counted s l) (covered c n l) 0 + covered_in s c n ls) = omega arith in z)

pub covered_fold : (s c n : ℕ) (ls : List Lease) → fold (more_covered s c n) 0 ls ≡ cut (covered_in s c n ls)
unfolding cut
covered_fold s c n ls = covered_from s c n 0 ls ∙ ap cut (let z : 0 + covered_in s c n ls ≡ covered_in s c n ls = omega arith in z)

-- the loop over those in use, as they are cut out of their array
pub cover_start : (s c n : ℕ) (t : TenantLeases) {m : ℕ} → length t.leases ≡ 16 → m ≡ min t.count 16
    → PartInv (more_covered s c n) no_lease (take m t.leases) (length (take m t.leases)) (cut (covered_in s c n (in_use t))) 0 0
cover_start s c n t {m} e p = record {
  within = omega arith;
  long = omega arith;
  whole =
      ap (fold (more_covered s c n) 0) (take_all (length (take m t.leases)) (take m t.leases) (omega arith) ∙ ap (λ (k : ℕ). take k t.leases) p ∙ cut_take 16 t.count t.leases e)
      ∙ covered_fold s c n (in_use t);
}

-- ---- over the tenants of a scope
pub record TenantsInv (t : LeaseTable) (s c n : ℕ) (v now : ScopeTotals) (i : ℕ) : Type 0 where
  pub within : i ≤ 8
  pub long : length v.tenants ≡ 8
  pub kept : length now.tenants ≡ 8
  pub copy : CopyInv 0 v.tenants 0 (map (added_tenant t s c n v) (up_to 8)) 8 now.tenants i

pub tenants_start : (t : LeaseTable) (s c n : ℕ) (v : ScopeTotals) → length v.tenants ≡ 8 → TenantsInv t s c n v v 0
tenants_start t s c n v h = record { within = omega arith; long = h; kept = h; copy = copy_start 8 8 h (each_long (added_tenant t s c n v) 8) (omega arith) (omega arith) }

module _ {t : LeaseTable} {s c n : ℕ} {v now : ScopeTotals} {i : ℕ} (w : TenantsInv t s c n v now i) where
  -- z is what the code's element is past the end
  pub tenants_next : (z : TenantLeases) {d x : ℕ} → length t.tenants ≡ 8 → i < 8 → d ≡ cut (covered_in s c n (in_use (get_or t.tenants i z))) → x ≡ capped_sum (get_or v.tenants i 0) d
      → TenantsInv t s c n v (record { tenants = set now.tenants i x }) (i + 1)
  unfolding added_tenant
  tenants_next z {x = x} l h e f = record {
    within = omega arith;
    long = w.long;
    kept = length-set now.tenants i x ∙ w.kept;
    copy =
        copy_front w.copy x h
        (f ∙ ap (λ (m : ℕ). capped_sum (get_or v.tenants i 0) m) (e ∙ ap (λ (r : TenantLeases). cut (covered_in s c n (in_use r))) (at_in t.tenants 8 i z (laid_out []) l h))
        ∙ sym (each_at (added_tenant t s c n v) 8 i 0 h));
  }

  pub tenants_end : 8 ≤ i → now ≡ added_scope t s c n v
  unfolding added_scope
  tenants_end h =
      ap {B = ScopeTotals} (λ (l : List ℕ). record { tenants = l })
      (copy_full w.copy h w.long ∙ take_all 8 (map (added_tenant t s c n v) (up_to 8)) (let z = each_long (added_tenant t s c n v) 8 in omega arith))

pub ruleset tenant_loops = (tenants_start, tenants_next, tenants_end, unmapped)

-- ---- over the scopes
unfoldable pub added_at : LeaseTable → ℕ → ℕ → Totals → ℕ → ScopeTotals
added_at t c n v k = added_scope t (k + 1) c n (get_or v.scopes k no_scope_totals)

pub record ScopesInv (t : LeaseTable) (c n : ℕ) (v now : Totals) (i : ℕ) : Type 0 where
  pub within : i ≤ 4
  pub long : length v.scopes ≡ 4
  pub kept : length now.scopes ≡ 4
  pub copy : CopyInv no_scope_totals v.scopes 0 (map (added_at t c n v) (up_to 4)) 4 now.scopes i

pub scopes_start : (t : LeaseTable) (c n : ℕ) (v : Totals) → length v.scopes ≡ 4 → ScopesInv t c n v v 0
scopes_start t c n v h = record { within = omega arith; long = h; kept = h; copy = copy_start 4 4 h (each_long (added_at t c n v) 4) (omega arith) (omega arith) }

module _ {t : LeaseTable} {c n : ℕ} {v now : Totals} {i : ℕ} (w : ScopesInv t c n v now i) where
  pub scopes_next : {s : ℕ} {q x : ScopeTotals} → i < 4 → q ≡ get_or v.scopes i no_scope_totals → s ≡ i + 1 → x ≡ added_scope t s c n q
      → ScopesInv t c n v (record { scopes = set now.scopes i x }) (i + 1)
  unfolding added_at
  scopes_next {x = x} h p e f = record {
    within = omega arith;
    long = w.long;
    kept = length-set now.scopes i x ∙ w.kept;
    copy = copy_front w.copy x h (f ∙ ap₂ (λ (m : ℕ) (r : ScopeTotals). added_scope t m c n r) e p ∙ sym (each_at (added_at t c n v) 4 i no_scope_totals h));
  }

  pub scopes_end : 4 ≤ i → now ≡ added_totals t c n v
  unfolding added_totals added_at
  scopes_end h =
      ap {B = Totals} (λ (l : List ScopeTotals). record { scopes = l })
      (copy_full w.copy h w.long ∙ take_all 4 (map (added_at t c n v) (up_to 4)) (let z = each_long (added_at t c n v) 4 in omega arith))

pub ruleset scope_loops = (scopes_start, scopes_next, scopes_end)

-- ---- which records count
pub counted_hold : {q : Bool} (s : ℕ) (l : Lease) → q ≡ is_hold l → q ≡ true → false ≡ counted s l
unfolding counted
counted_hold s l e h = sym (ap (λ (b : Bool). not b && in_scope s l) (sym e ∙ h))

pub counted_lease : {q : Bool} (s : ℕ) (l : Lease) → q ≡ is_hold l → q ≡ false → eqb l.scope s ≡ counted s l
unfolding counted
counted_lease s l e h = sym (ap (λ (b : Bool). not b && in_scope s l) (sym e ∙ h))

pub more_yes : {b : Bool} {q r : ℕ} (s c n sum : ℕ) (l : Lease) → b ≡ counted s l → b ≡ true → q ≡ covered c n l → r ≡ capped_sum sum q → r ≡ more_covered s c n sum l
unfolding more_covered pick
more_yes s c n sum l e h p f = f ∙ ap (capped_sum sum) p ∙ sym (ap (λ (x : Bool). pick x (capped_sum sum (covered c n l)) sum) (sym e ∙ h))

pub more_no : {b : Bool} (s c n sum : ℕ) (l : Lease) → b ≡ counted s l → b ≡ false → sum ≡ more_covered s c n sum l
unfolding more_covered pick
more_no s c n sum l e h = sym (ap (λ (x : Bool). pick x (capped_sum sum (covered c n l)) sum) (sym e ∙ h))
