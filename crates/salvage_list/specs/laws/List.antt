-- Laws: the list of those dropped: how many there are, and their octets.
use Rattle.std.specs.Prelude.{Bool, false, true, ◌≡◌, refl, ◌*◌, ◌+◌, ◌-◌, ◌<◌, ◌≤◌, suc, zero, ℕ, eqb, get_or, length, replicate}
use mathlib.Core.List.{List, [], ◌++◌, ◌∷◌, append_assoc}
use Rattle.std.proofs.Common.{◌∙◌, ap₂, subst, sym, arith, zero-add, length-append, eq-eqb, ne_eqb}
use Rattle.std.proofs.Math.Path.{ap}
use Rattle.lists.specs.Pick.{pick}
use Rattle.lists.specs.Sums.{sum_to}
use Rattle.octets.specs.Octets.{Wrote, octets16}
use Rattle.octets.specs.laws.Octets.{wrote_as, wrote_joined, wrote_none}
use Rattle.format.specs.Rows.{write_from}
use Rattle.format.specs.laws.Rows.{RowInv, SizeInv, row_done, row_next, row_room, row_whole, size_end, size_next, size_start}
use Rattle.salvage_list.specs.List.{Dropped, dropped_at, dropped_from, dropped_in, dropped_list, dropped_octets, marked, one_if}

-- ---- how many
pub one_kept : (r : ℕ) → r ≡ 0 → 0 ≡ one_if r
unfolding one_if pick
one_kept r e = sym (ap (λ (b : Bool). pick {A = ℕ} b 0 1) (eq-eqb r 0 e))

pub one_dropped : (r : ℕ) → (r ≡ 0 → ⊥) → 1 ≡ one_if r
unfolding one_if pick
one_dropped r h = sym (ap (λ (b : Bool). pick {A = ℕ} b 0 1) (ne_eqb r 0 h))

sum_front : (f : ℕ → ℕ) (n : ℕ) → sum_to f (suc n) ≡ f 0 + sum_to (λ i. f (suc i)) n
unfolding sum_to
sum_front f zero = let e : 0 + f 0 ≡ f 0 + 0 = omega arith in e
sum_front f (suc n) =
    let ih = sum_front f n in
    let e : sum_to f n + f n + f (suc n) ≡ f 0 + (sum_to (λ i. f (suc i)) n + f (suc n)) = omega arith in
    e

-- whatever their kind, and from whatever place they count
dropped_sum : (kind n : ℕ) (rs : List ℕ) → length (dropped_from kind n rs) ≡ sum_to (λ i. one_if (get_or rs i 0)) (length rs)
unfolding dropped_from sum_to pick one_if
dropped_sum kind n [] = refl
dropped_sum kind n (r ∷ rs) = go (eqb r 0) refl (dropped_sum kind (n + 1) rs) ∙ sym (sum_front (λ i. one_if (get_or (r ∷ rs) i 0)) (length rs))
  where
    go : (b : Bool) → eqb r 0 ≡ b → length (dropped_from kind (n + 1) rs) ≡ sum_to (λ i. one_if (get_or rs i 0)) (length rs)
        → length (pick b (dropped_from kind (n + 1) rs) (record { kind = kind; place = n; rule = r } ∷ dropped_from kind (n + 1) rs)) ≡ one_if r + sum_to (λ i. one_if (get_or rs i 0)) (length rs)
    go true e ih = ih ∙ sym (ap (λ (k : ℕ). k + sum_to (λ i. one_if (get_or rs i 0)) (length rs)) (ap (λ (b : Bool). pick {A = ℕ} b 0 1) e) ∙ zero-add (sum_to (λ i. one_if (get_or rs i 0)) (length rs)))
    go false e ih =
        let o : one_if r ≡ 1 = ap (λ (b : Bool). pick {A = ℕ} b 0 1) e in
        let q : suc (length (dropped_from kind (n + 1) rs)) ≡ one_if r + sum_to (λ i. one_if (get_or rs i 0)) (length rs) = omega arith in
        q

pub dropped_any : (kind n : ℕ) (rs : List ℕ) → length (dropped_from kind n rs) ≡ length (dropped_from 0 1 rs)
dropped_any kind n rs = dropped_sum kind n rs ∙ sym (dropped_sum 0 1 rs)

pub broken_counted : (rs : List ℕ) (n : ℕ) → length rs ≡ 255 → n ≡ sum_to (λ i. one_if (get_or rs i 0)) 255 → n ≡ length (dropped_from 0 1 rs)
broken_counted rs n e p = p ∙ ap (sum_to (λ i. one_if (get_or rs i 0))) (sym e) ∙ sym (dropped_sum 0 1 rs)

-- the loop that counts
module _ (rs : List ℕ) {n i : ℕ} (v : SizeInv (λ i. one_if (get_or rs i 0)) 1 255 n i) where
  pub count_next : (r : ℕ) → i < 255 → r ≡ one_if (get_or rs i 0) → r ≤ 1 → SizeInv (λ i. one_if (get_or rs i 0)) 1 255 (n + r) (i + 1)
  count_next r h e g = size_next v r h e g

  pub count_end : length rs ≡ 255 → 255 ≤ i → n ≡ length (dropped_from 0 1 rs)
  count_end e h = broken_counted rs n e (size_end v h)

  pub count_few : n ≤ 255
  count_few = let w = v.within in let s = v.small in omega arith

pub ruleset counts = (size_start, count_next, count_end, count_few)

module _ (a b c : List ℕ) where
  pub all_counted : (x y z : ℕ) → x ≡ length (dropped_from 0 1 a) → y ≡ length (dropped_from 0 1 b) → z ≡ length (dropped_from 0 1 c) → x + y + z ≡ length (dropped_in a b c)
  all_counted x y z p q r =
      let u = dropped_any 1 1 a in
      let v = dropped_any 2 1 b in
      let w = dropped_any 3 1 c in
      let k = length-append (dropped_from 1 1 a ++ dropped_from 2 1 b) (dropped_from 3 1 c) in
      let m = length-append (dropped_from 1 1 a) (dropped_from 2 1 b) in
      omega arith

-- ---- octets
octets_long : (ds : List Dropped) → length (dropped_octets ds) ≡ 3 * length ds
unfolding dropped_octets
octets_long [] = refl
octets_long (d ∷ ds) = let ih = octets_long ds in let e : suc (suc (suc (length (dropped_octets ds)))) ≡ 3 * suc (length ds) = omega arith in e

octets_joined : (x y : List Dropped) → dropped_octets (x ++ y) ≡ dropped_octets x ++ dropped_octets y
unfolding dropped_octets
octets_joined [] y = refl
octets_joined (d ∷ x) y = ap {B = List ℕ} (λ (l : List ℕ). d.kind ∷ d.place ∷ d.rule ∷ l) (octets_joined x y)

pub list_long : (ds : List Dropped) (n : ℕ) → n ≡ length ds → 2 + 3 * n ≡ length (dropped_list ds)
unfolding dropped_list
list_long ds n e =
    let k = octets_long ds in
    let m = length-append (octets16 (length ds)) (dropped_octets ds) in
    omega arith

-- section by section
pub in_octets : (a b c : List ℕ) → dropped_octets (dropped_in a b c) ≡ dropped_octets (dropped_from 1 1 a) ++ dropped_octets (dropped_from 2 1 b) ++ dropped_octets (dropped_from 3 1 c)
in_octets a b c =
    octets_joined (dropped_from 1 1 a ++ dropped_from 2 1 b) (dropped_from 3 1 c)
    ∙ ap (λ (l : List ℕ). l ++ dropped_octets (dropped_from 3 1 c)) (octets_joined (dropped_from 1 1 a) (dropped_from 2 1 b))

-- an entry, where it is dropped
pub at_kept : (kind place r : ℕ) → r ≡ 0 → [] ≡ dropped_at kind place r
unfolding dropped_at pick
at_kept kind place r e = sym (ap (λ (b : Bool). pick b [] (kind ∷ place ∷ r ∷ [])) (eq-eqb r 0 e))

pub at_dropped : (kind place r : ℕ) → (r ≡ 0 → ⊥) → kind ∷ place ∷ r ∷ [] ≡ dropped_at kind place r
unfolding dropped_at pick
at_dropped kind place r h = sym (ap (λ (b : Bool). pick b [] (kind ∷ place ∷ r ∷ [])) (ne_eqb r 0 h))

pub at_three : (kind place r : ℕ) → (r ≡ 0 → ⊥) → length (dropped_at kind place r) ≡ 3
at_three kind place r h = sym (ap length (at_dropped kind place r h))

pub three_room : (at kind place r n : ℕ) → at + length (dropped_at kind place r) ≤ n → (r ≡ 0 → ⊥) → at + 3 ≤ n
three_room at kind place r n h e = let q = at_three kind place r e in omega arith

pub three_wrote : {r₀ r₁ r₂ r₃ : List ℕ} {at a b c x y z : ℕ} → at ≤ length r₀ → Wrote r₀ at (x ∷ []) r₁ a → Wrote r₁ a (y ∷ []) r₂ b → Wrote r₂ b (z ∷ []) r₃ c → Wrote r₀ at (x ∷ y ∷ z ∷ []) r₃ c
three_wrote h p q w = wrote_joined h (wrote_joined h p q) w

pub one_written : {r₀ r₁ : List ℕ} {at n : ℕ} (kind place r : ℕ) → (r ≡ 0 → ⊥) → Wrote r₀ at (kind ∷ place ∷ r ∷ []) r₁ n → Wrote r₀ at (dropped_at kind place r) r₁ n
one_written kind place r h w = wrote_as (at_dropped kind place r h) w

pub none_written : (r₀ : List ℕ) (at kind place r : ℕ) → r ≡ 0 → Wrote r₀ at (dropped_at kind place r) r₀ at
none_written r₀ at kind place r e = wrote_as (at_kept kind place r e) (wrote_none r₀ at)

-- the loop over a section
abbrev pub row_at : ℕ → ℕ → ℕ → List ℕ
row_at kind i r = dropped_at kind (i + 1) r

section_octets_law : (kind k : ℕ) (rs : List ℕ) → dropped_octets (dropped_from kind (k + 1) rs) ≡ write_from (row_at kind) k rs
unfolding dropped_from write_from dropped_octets pick dropped_at
section_octets_law kind k [] = refl
section_octets_law kind k (r ∷ rs) = go (eqb r 0) refl (ap (λ (j : ℕ). dropped_octets (dropped_from kind j rs)) (let e : k + 1 + 1 ≡ suc k + 1 = omega arith in e) ∙ section_octets_law kind (suc k) rs)
  where
    go : (b : Bool) → eqb r 0 ≡ b → dropped_octets (dropped_from kind (k + 1 + 1) rs) ≡ write_from (row_at kind) (suc k) rs
        → dropped_octets (pick b (dropped_from kind (k + 1 + 1) rs) (record { kind = kind; place = k + 1; rule = r } ∷ dropped_from kind (k + 1 + 1) rs)) ≡ dropped_at kind (k + 1) r ++ write_from (row_at kind) (suc k) rs
    go true e ih = ih ∙ sym (ap (λ (b : Bool). pick b [] (kind ∷ (k + 1) ∷ r ∷ []) ++ write_from (row_at kind) (suc k) rs) e)
    go false e ih =
        ap {B = List ℕ} (λ (l : List ℕ). kind ∷ (k + 1) ∷ r ∷ l) ih ∙ sym (ap (λ (b : Bool). pick b [] (kind ∷ (k + 1) ∷ r ∷ []) ++ write_from (row_at kind) (suc k) rs) e)

from_one : (kind : ℕ) (rs : List ℕ) → dropped_octets (dropped_from kind 1 rs) ≡ write_from (row_at kind) 0 rs
from_one kind rs = section_octets_law kind 0 rs

abbrev pub DroppedInv : ℕ → List ℕ → List ℕ → ℕ → List ℕ → ℕ → ℕ → Type 0
DroppedInv kind rules r₀ at list to i = RowInv (row_at kind) 0 rules 255 255 255 r₀ at list to i

pub drop_start : (kind : ℕ) (rules r₀ : List ℕ) (at : ℕ) → length rules ≡ 255 → at + length (dropped_octets (dropped_from kind 1 rules)) ≤ length r₀ → DroppedInv kind rules r₀ at r₀ at 0
drop_start kind rules r₀ at e h = row_whole e (subst (λ (x : List ℕ). at + length x ≤ length r₀) (from_one kind rules) h)

module _ (kind : ℕ) {rules r₀ : List ℕ} {at : ℕ} {list : List ℕ} {to i : ℕ} (v : DroppedInv kind rules r₀ at list to i) where
  pub drop_room : i < 255 → to + length (dropped_at kind (i + 1) (get_or rules i 0)) ≤ length list
  drop_room h = row_room v h

  pub drop_next : {r₁ : List ℕ} {k : ℕ} → i < 255 → Wrote list to (dropped_at kind (i + 1) (get_or rules i 0)) r₁ k → length r₁ ≡ length list → DroppedInv kind rules r₀ at r₁ k (i + 1)
  drop_next h p q = row_next v h p q

  pub drop_end : 255 ≤ i → Wrote r₀ at (dropped_octets (dropped_from kind 1 rules)) list to
  drop_end h = wrote_as (sym (from_one kind rules)) (row_done v h)

pub ruleset drops = (drop_start, drop_room, drop_next, drop_end)

-- the whole list: a count, and section by section
module _ (a b c : List ℕ) where
  abbrev first : List ℕ
  first = dropped_octets (dropped_from 1 1 a)

  abbrev second : List ℕ
  second = dropped_octets (dropped_from 2 1 b)

  abbrev third : List ℕ
  third = dropped_octets (dropped_from 3 1 c)

  list_octets_law : dropped_list (dropped_in a b c) ≡ octets16 (length (dropped_in a b c)) ++ (first ++ second ++ third)
  unfolding dropped_list
  list_octets_law = ap (λ (l : List ℕ). octets16 (length (dropped_in a b c)) ++ l) (in_octets a b c)

  list_length : length (dropped_list (dropped_in a b c)) ≡ 2 + (length first + length second + length third)
  list_length =
      ap length list_octets_law ∙ length-append (octets16 (length (dropped_in a b c))) (first ++ second ++ third) ∙ ap (λ (k : ℕ). 2 + k) (length-append (first ++ second) third ∙ ap (λ (k : ℕ). k + length third) (length-append first second))

  module _ (r₀ : List ℕ) (room : length (dropped_list (dropped_in a b c)) ≤ length r₀) where
    pub count_room : 0 + 2 ≤ length r₀
    count_room = let e = list_length in omega arith

    module _ (n : ℕ) {r₁ : List ℕ} {x : ℕ} (p : Wrote r₀ 0 (octets16 n) r₁ x) where
      pub first_room : length r₁ ≡ length r₀ → x + length (dropped_octets (dropped_from 1 1 a)) ≤ length r₁
      first_room e = let l = list_length in let q = p.next in omega arith

      module _ {r₂ : List ℕ} {y : ℕ} (q : Wrote r₁ x (dropped_octets (dropped_from 1 1 a)) r₂ y) where
        pub second_room : length r₂ ≡ length r₀ → y + length (dropped_octets (dropped_from 2 1 b)) ≤ length r₂
        second_room e = let l = list_length in let u = p.next in let v = q.next in omega arith

        module _ {r₃ : List ℕ} {z : ℕ} (w : Wrote r₂ y (dropped_octets (dropped_from 2 1 b)) r₃ z) where
          pub third_room : length r₃ ≡ length r₀ → z + length (dropped_octets (dropped_from 3 1 c)) ≤ length r₃
          third_room e = let l = list_length in let u = p.next in let v = q.next in let t = w.next in omega arith

          pub list_wrote : {r₄ : List ℕ} {k : ℕ} → n ≡ length (dropped_in a b c) → Wrote r₃ z (dropped_octets (dropped_from 3 1 c)) r₄ k → Wrote r₀ 0 (dropped_list (dropped_in a b c)) r₄ k
          list_wrote en t =
              let h : 0 ≤ length r₀ = omega arith in
              wrote_as
              (ap (λ (l : List ℕ). l ++ third) (append_assoc (octets16 n) first second) ∙ append_assoc (octets16 n) (first ++ second) third
              ∙ ap (λ (k : ℕ). octets16 k ++ (first ++ second ++ third)) en ∙ sym list_octets_law)
              (wrote_joined h (wrote_joined h (wrote_joined h p q) w) t)

-- zeros past the last entry drop nothing
none_dropped : (kind n m : ℕ) → dropped_from kind n (replicate m 0) ≡ []
unfolding dropped_from pick
none_dropped kind n zero = refl
none_dropped kind n (suc m) = none_dropped kind (n + 1) m

zeros_dropped : (kind n m : ℕ) (rs : List ℕ) → dropped_from kind n (rs ++ replicate m 0) ≡ dropped_from kind n rs
unfolding dropped_from
zeros_dropped kind n m [] = none_dropped kind n m
zeros_dropped kind n m (r ∷ rs) = ap (λ (l : List Dropped). pick (eqb r 0) l (record { kind = kind; place = n; rule = r } ∷ l)) (zeros_dropped kind (n + 1) m rs)

pub marked_dropped : (a b c x y z : List ℕ) → a ≡ marked x → b ≡ marked y → c ≡ marked z → dropped_in a b c ≡ dropped_in x y z
marked_dropped a b c x y z p q r =
    ap₂ {C = List Dropped} (λ (k l : List Dropped). k ++ l)
    (ap₂ {C = List Dropped} (λ (k l : List Dropped). k ++ l) (ap (dropped_from 1 1) p ∙ zeros_dropped 1 1 (255 - length x) x) (ap (dropped_from 2 1) q ∙ zeros_dropped 2 1 (255 - length y) y))
    (ap (dropped_from 3 1) r ∙ zeros_dropped 3 1 (255 - length z) z)
