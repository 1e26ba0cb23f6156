-- Laws: whether the records can hold the entries of the sections: each of them, and as many of each tenant.
use Rattle.std.specs.Prelude.{Bool, ◌&&◌, not, ◌≡◌, ◌+◌, ◌-◌, ◌<◌, ◌≤◌, ℕ, eqb, drop, length, replicate, set, take}
use mathlib.Core.Bool.{beq}
use Rattle.std.proofs.Math.Bool.{false, true}
use mathlib.Core.List.{List, ◌∷◌}
use Rattle.std.proofs.Common.{◌∙◌, add-one, drop-cons, drop_of_length-le, length-drop, length-take-le, le-leb, le-ltb, lt-ltb, ltb-false, ltb-true}
use Rattle.std.proofs.Math.Path.{ap, ap₂, refl, sym}
use native.Mathlib.Omega.{arith}
use Rattle.std.proofs.lemmas.Nat.{and_le_l, and_le_r, or_lt}
use Rattle.std.specs.Int.Bits.{bit_or, or_add_and}
use Rattle.std.proofs.Math.Dec.{leb, ltb}
use Rattle.std.proofs.Math.ListN.{get_or}
use Rattle.std.proofs.lemmas.Bool.{lt-leb}
use Rattle.format.specs.Section.{Inside}
use Rattle.format.specs.Tenants.{tally_by}
use Rattle.format.specs.laws.Entries.{TenantsInv, TestInv, count_end, count_small, count_start, one_more, per_get, row_facts, tenant_held, tenant_next, test_end, test_in, test_next, test_not, test_start}
use Rattle.lists.specs.All.{all_by, all_to}
use Rattle.lists.specs.Pick.{pick}
use Rattle.lists.specs.laws.All.{UptoInv, to_same, upto_broken, upto_end, upto_next, upto_start}
use Rattle.lists.specs.laws.Pick.{both, neither}
use Rattle.lease_file.specs.Place.{EntriesFit, EntriesIn, StorableAt, after_entry, after_lease, entries_in, entry_at, file_lease_at}
use Rattle.lease_file.specs.Records.{entry_fit_b, few_of, hold_fit_b, is_offset, lease_fit_b, records_fit_b, storable_b}
use Rattle.lease_file.specs.Section.{Entry, FileHold, FileLease, entry_tenant, lease_in}
use Rattle.lease_file.specs.laws.Form.{lease_of_law}

-- ---- offsets, gathered by or
or_low : (a b : ℕ) → ltb (bit_or a b) 64 ≡ (ltb a 64 && ltb b 64)
or_low a b = go (ltb a 64) refl (ltb b 64) refl
  where
    go : (p : Bool) → ltb a 64 ≡ p → (q : Bool) → ltb b 64 ≡ q → ltb (bit_or a b) 64 ≡ (p && q)
    go true e true f = lt-ltb (bit_or a b) 64 (or_lt 6 a b (ltb-true a 64 e) (ltb-true b 64 f))
    go true e false f = le-ltb (bit_or a b) 64 (let h = ltb-false b 64 f in let s = or_add_and a b in let l = and_le_l a b in omega arith)
    go false e q f = le-ltb (bit_or a b) 64 (let h = ltb-false a 64 e in let s = or_add_and a b in let l = and_le_r a b in omega arith)

pub record LowInv (l : List ℕ) (any i : ℕ) : Type 0 where
  pub whole : (ltb any 64 && all_by is_offset (drop i l)) ≡ all_by is_offset l

pub low_start : {l : List ℕ} → LowInv l 0 0
low_start = record { whole = refl }

module _ {l : List ℕ} {any i : ℕ} (v : LowInv l any i) where
  pub low_next : i < length l → LowInv l (bit_or any (get_or l i 0)) (i + 1)
  unfolding all_by pick
  low_next h = record {
    whole =
        ap (λ (b : Bool). b && all_by is_offset (drop (i + 1) l)) (or_low any (get_or l i 0))
        ∙ go (ltb any 64) (ltb (get_or l i 0) 64) (all_by is_offset (drop (i + 1) l))
        ∙ sym (ap (λ (m : List ℕ). ltb any 64 && all_by is_offset m) (drop-cons l i 0 h ∙ ap (λ (k : ℕ). get_or l i 0 ∷ drop k l) (sym (add-one i)))) ∙ v.whole;
  }
    where
      go : (a b r : Bool) → ((a && b) && r) ≡ (a && pick b r false)
      go true true r = refl
      go true false r = refl
      go false b r = refl

  pub low_end : length l ≤ i → ltb any 64 ≡ all_by is_offset l
  unfolding all_by
  low_end h = go (ltb any 64) ∙ sym (ap (λ (m : List ℕ). ltb any 64 && all_by is_offset m) (drop_of_length-le l {i = i} h)) ∙ v.whole
    where
      go : (b : Bool) → b ≡ (b && true)
      go true = refl
      go false = refl

pub ruleset lows = (low_start, low_next, low_end)

-- ---- one lease
module _ {s : List ℕ} {at n : ℕ} (v : Inside after_lease s at) (en : n ≡ get_or s (at + 2) 0) where
  id_long : n ≡ length (take (get_or s (at + 2) 0) (drop (at + 3) s))
  id_long = en ∙ sym (length-take-le (get_or s (at + 2) 0) (drop (at + 3) s) (let e = length-drop (at + 3) s in let r = v.room in omega arith))

  pub limit_long : 32 < n → 32 < length (file_lease_at s at).id
  unfolding file_lease_at
  limit_long h = let e = id_long in omega arith

  pub limit_short : n ≤ 32 → length (file_lease_at s at).id ≤ 32
  unfolding file_lease_at
  limit_short h = let e = id_long in omega arith

  pub limit_room : (k : ℕ) → k ≡ get_or s (at + (n + 16)) 0 → at + (n + 17) + k ≤ length s
  limit_room k ek = let e : k ≡ get_or s (at + (get_or s (at + 2) 0 + 16)) 0 = ek ∙ ap (λ (z : ℕ). get_or s (at + (z + 16)) 0) en in omega (arith, v.room)

  pub limit_low : (k : ℕ) (r : Bool) → k ≡ get_or s (at + (n + 16)) 0 → r ≡ all_by is_offset (take (at + (n + 17) + k - (at + (n + 17))) (drop (at + (n + 17)) s)) → r ≡ all_by is_offset (file_lease_at s at).offsets
  unfolding file_lease_at
  limit_low k r ek e = e ∙ ap (λ (x : ℕ). all_by is_offset (take x (drop (at + (n + 17)) s))) (let q : at + (n + 17) + k - (at + (n + 17)) ≡ k = omega arith in q) ∙ ap₂ (λ (x y : ℕ). all_by is_offset (take x (drop (at + (y + 17)) s))) (ek ∙ ap (λ (z : ℕ). get_or s (at + (z + 16)) 0) en) en

pub ruleset limits = (limit_long, limit_short, limit_room, limit_low)

-- ---- one entry: its type is the section's, and a record can hold its lease
abbrev pub kind_in : Bool → ℕ → Bool
kind_in holds kind = pick holds (eqb kind 1) (not (eqb kind 1))

pub kind_told : (holds : Bool) (kind : ℕ) → beq (eqb kind 1) holds ≡ kind_in holds kind
unfolding pick
kind_told holds kind = go holds (eqb kind 1)
  where
    go : (holds b : Bool) → beq b holds ≡ pick holds b (not b)
    go true true = refl
    go true false = refl
    go false true = refl
    go false false = refl

fit_is : (holds : Bool) (s : List ℕ) (at : ℕ) → pick (kind_in holds (file_lease_at s at).kind) (storable_b (file_lease_at s at)) false ≡ entry_fit_b holds (entry_at holds s at)
unfolding entry_fit_b entry_at hold_fit_b lease_fit_b pick
fit_is true s at = refl
fit_is false s at = go (eqb (file_lease_at s at).kind 1)
  where
    go : (b : Bool) → pick (not b) (storable_b (file_lease_at s at)) false ≡ pick b false (storable_b (file_lease_at s at))
    go true = refl
    go false = refl

module _ (holds : Bool) (s : List ℕ) (at n : ℕ) (en : n ≡ get_or s (at + 2) 0) {q : Bool} (eq : q ≡ kind_in holds (get_or s (at + (n + 3)) 0)) where
  fit_tested : (b : Bool) → q ≡ b → pick b (storable_b (file_lease_at s at)) false ≡ entry_fit_b holds (entry_at holds s at)
  unfolding file_lease_at
  fit_tested b e = ap (λ (x : Bool). pick x (storable_b (file_lease_at s at)) false) (sym e ∙ eq ∙ ap (λ (z : ℕ). kind_in holds (get_or s (at + (z + 3)) 0)) en) ∙ fit_is holds s at

  pub fit_yes : (r : Bool) → q ≡ true → r ≡ storable_b (file_lease_at s at) → r ≡ entry_fit_b holds (entry_at holds s at)
  unfolding pick
  fit_yes r e p = p ∙ fit_tested true e

  pub fit_not : q ≡ false → false ≡ entry_fit_b holds (entry_at holds s at)
  unfolding pick
  fit_not e = fit_tested false e

pub lease_inside : (holds : Bool) (s : List ℕ) (at : ℕ) → Inside (after_entry holds) s at → Inside after_lease s at
lease_inside holds s at v = record { room = let r = v.room in omega arith }

storable_held : (holds : Bool) (s : List ℕ) (at : ℕ) → Inside (after_entry holds) s at → entry_fit_b holds (entry_at holds s at) ≡ true → StorableAt holds s at
unfolding storable_b file_lease_at
storable_held holds s at v e =
    let a = neither _ _ (both (kind_in holds (file_lease_at s at).kind) (storable_b (file_lease_at s at)) (fit_is holds s at ∙ e)).1 in
    let b = neither _ _ a.1 in
    let p = neither _ _ b.1 in
    let h = ltb-false 32 (length (take (get_or s (at + 2) 0) (drop (at + 3) s))) p.0 in
    let l = length-take-le (get_or s (at + 2) 0) (drop (at + 3) s) (let d = length-drop (at + 3) s in let r = v.room in omega arith) in
    record { from = ltb-false (get_or s at 0) 1 a.0; to = ltb-false 8 (get_or s at 0) b.0; ids = omega arith; room = v.room }

pub entries_fit_law : (holds : Bool) (s : List ℕ) (at : ℕ) {a : Bool} → EntriesIn holds s at → a ≡ all_by (entry_fit_b holds) (entries_in holds s at) → a ≡ true → EntriesFit holds s at
entries_fit_law holds s at v p q = record { start = v.start; each = row_facts (entry_fit_b holds) (StorableAt holds) (entry_at holds) (after_entry holds) (storable_held holds) (get_or s at 0) s (at + 1) v.each (sym p ∙ q) }

-- the loop that tests each
pub record FitInv (holds : Bool) (s : List ℕ) (at count here i : ℕ) : Type 0 where
  pub many : count ≡ get_or s at 0
  pub inv : TestInv (entry_fit_b holds) (entry_at holds) (after_entry holds) s (at + 1) (get_or s at 0) here i

pub fit_start : {holds : Bool} {s : List ℕ} {at count : ℕ} → EntriesIn holds s at → count ≡ get_or s at 0 → FitInv holds s at count (at + 1) 0
fit_start v e = record { many = e; inv = test_start v.each }

module _ {holds : Bool} {s : List ℕ} {at count here i : ℕ} (v : FitInv holds s at count here i) where
  below : i < count → i < get_or s at 0
  below h = let e = v.many in omega arith

  pub fit_inside : i < count → Inside (after_entry holds) s here
  fit_inside h = test_in v.inv (below h)

  pub fit_broken : (r : Bool) → i < count → r ≡ entry_fit_b holds (entry_at holds s here) → r ≡ false → false ≡ all_by (entry_fit_b holds) (entries_in holds s at)
  fit_broken r h e f = test_not v.inv r (below h) e f

  pub fit_next : (r : Bool) (n : ℕ) → i < count → r ≡ entry_fit_b holds (entry_at holds s here) → r ≡ true → n ≡ after_entry holds s here → FitInv holds s at count n (i + 1)
  fit_next r n h e f q = record { many = v.many; inv = test_next v.inv r n (below h) e f q }

  pub fit_end : count ≤ i → true ≡ all_by (entry_fit_b holds) (entries_in holds s at)
  fit_end h = test_end v.inv (let e = v.many in omega arith)

pub ruleset entries_fit = (fit_start, fit_inside, fit_broken, fit_next, fit_end)

-- ---- a value for each tenant, from what it has first
pub record EntryInv {B : Type 0} (holds : Bool) (g : B → Entry holds → B) (z : ℕ → B) (d : B) (s : List ℕ) (at count : ℕ) (out : List B) (here i : ℕ) : Type 0 where
  pub many : count ≡ get_or s at 0
  pub inv : TenantsInv (entry_tenant holds) (StorableAt holds) (entry_at holds) (after_entry holds) g z d s (at + 1) (get_or s at 0) out here i

module _ {B : Type 0} {holds : Bool} {g : B → Entry holds → B} {z : ℕ → B} {d : B} {s : List ℕ} {at count : ℕ} {out : List B} {here i : ℕ} (v : EntryInv holds g z d s at count out here i) where
  within : i < count → i < get_or s at 0
  within h = let e = v.many in omega arith

  pub entry_held : i < count → StorableAt holds s here
  entry_held h = tenant_held v.inv (within h)

  pub entry_inside : i < count → Inside (after_entry holds) s here
  entry_inside h = record { room = (tenant_held v.inv (within h)).room }

  pub entry_turn : (j n : ℕ) (x : B) → i < count → j ≡ get_or s here 0 - 1 → x ≡ g (get_or out j d) (entry_at holds s here) → n ≡ after_entry holds s here → EntryInv holds g z d s at count (set out j x) n (i + 1)
  unfolding file_lease_at
  entry_turn j n x h ej ex en =
      let e : entry_tenant holds (entry_at holds s here) ≡ get_or s here 0 = ap (λ (y : FileLease). y.tenant) (lease_of_law holds s here) in
      record { many = v.many; inv = tenant_next v.inv j n x (λ p. let f = p.from in omega arith) (within h) (omega arith) ex en }

pub ruleset tenant_loop = (entry_held, entry_inside)

-- how many each has
abbrev pub TallyInv : Bool → List ℕ → ℕ → ℕ → List ℕ → ℕ → ℕ → Type 0
TallyInv holds s at count n here i = EntryInv holds one_more (λ k. 0) 0 s at count n here i

pub tally_start : {holds : Bool} {s : List ℕ} {at count : ℕ} → EntriesFit holds s at → count ≡ get_or s at 0 → TallyInv holds s at count (replicate 8 0) (at + 1) 0
tally_start v e = record { many = e; inv = count_start v.each }

module _ {holds : Bool} {s : List ℕ} {at count : ℕ} {n : List ℕ} {here i : ℕ} (v : TallyInv holds s at count n here i) where
  pub tally_small : (j : ℕ) → count < 256 → j < 8 → get_or n j 0 < 256
  tally_small j c h = count_small v.inv j (let e = v.many in omega arith) h

  pub tally_next : (j k : ℕ) → i < count → j ≡ get_or s here 0 - 1 → k ≡ after_entry holds s here → TallyInv holds s at count (set n j (get_or n j 0 + 1)) k (i + 1)
  tally_next j k h e q = entry_turn v j k _ h e refl q

  pub tally_end : count ≤ i → n ≡ tally_by (entry_tenant holds) (entries_in holds s at)
  tally_end h = count_end v.inv (let e = v.many in omega arith)

pub ruleset tallies = (tally_start, tally_next, tally_end, tenant_loop)

-- leases and holds together
pub record FewInv (a b : List ℕ) (i : ℕ) : Type 0 where
  pub inv : UptoInv (λ i. leb (get_or a i 0 + get_or b i 0) 16) 8 i

pub few_start : {a b : List ℕ} → FewInv a b 0
few_start = record { inv = upto_start }

module _ {a b : List ℕ} {i : ℕ} (v : FewInv a b i) where
  pub few_over : i < 8 → 16 < get_or a i 0 + get_or b i 0 → false ≡ all_to (λ i. leb (get_or a i 0 + get_or b i 0) 16) 8
  few_over h l = upto_broken v.inv h (sym (lt-leb (get_or a i 0 + get_or b i 0) 16 (omega arith))) refl

  pub few_fit : i < 8 → get_or a i 0 + get_or b i 0 ≤ 16 → FewInv a b (i + 1)
  few_fit h l = record { inv = upto_next v.inv h (sym (le-leb (get_or a i 0 + get_or b i 0) 16 (omega arith))) refl }

  pub few_end : 8 ≤ i → true ≡ all_to (λ i. leb (get_or a i 0 + get_or b i 0) 16) 8
  few_end h = upto_end v.inv h

pub ruleset fews = (few_start, few_over, few_fit, few_end)

-- ---- both sections
module _ (xs : List FileLease) (ys : List FileHold) {p : Bool} (ep : p ≡ all_by (entry_fit_b false) xs) where
  leases_tested : (c : Bool) → p ≡ c → pick c (pick (all_by hold_fit_b ys) (all_to (λ i. few_of xs ys (i + 1)) 8) false) false ≡ records_fit_b xs ys
  unfolding records_fit_b entry_fit_b
  leases_tested c t = ap (λ (x : Bool). pick x (pick (all_by hold_fit_b ys) (all_to (λ i. few_of xs ys (i + 1)) 8) false) false) (sym t ∙ ep)

  pub fits_leases : p ≡ false → false ≡ records_fit_b xs ys
  unfolding pick
  fits_leases t = leases_tested false t

  module _ {q : Bool} (eq : q ≡ all_by (entry_fit_b true) ys) (tp : p ≡ true) where
    holds_tested : (c : Bool) → q ≡ c → pick c (all_to (λ i. few_of xs ys (i + 1)) 8) false ≡ records_fit_b xs ys
    unfolding pick entry_fit_b
    holds_tested c t = ap (λ (x : Bool). pick x (all_to (λ i. few_of xs ys (i + 1)) 8) false) (sym t ∙ eq) ∙ leases_tested true tp

    pub fits_holds : q ≡ false → false ≡ records_fit_b xs ys
    unfolding pick
    fits_holds t = holds_tested false t

    pub fits_yes : (a b : List ℕ) (r : Bool) → q ≡ true → a ≡ tally_by (entry_tenant false) xs → b ≡ tally_by (entry_tenant true) ys → r ≡ all_to (λ i. leb (get_or a i 0 + get_or b i 0) 16) 8 → r ≡ records_fit_b xs ys
    unfolding pick few_of tally_by lease_in
    fits_yes a b r t ea eb er =
        er ∙ to_same (λ i. leb (get_or a i 0 + get_or b i 0) 16) (λ i. few_of xs ys (i + 1)) 8
        (λ i h. ap₂ (λ (x y : ℕ). leb (x + y) 16) (ap (λ (l : List ℕ). get_or l i 0) ea ∙ per_get _ 8 1 i 0 h) (ap (λ (l : List ℕ). get_or l i 0) eb ∙ per_get _ 8 1 i 0 h))
        ∙ holds_tested true t

pub ruleset sections_fit = (entries_fit_law, fits_leases, fits_holds, fits_yes)
