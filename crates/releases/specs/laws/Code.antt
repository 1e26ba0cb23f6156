-- Laws: between the code and the definitions, arm by arm.
use Rattle.std.specs.Prelude.{ℕ, suc, ◌+◌, ◌*◌, ◌-◌, ◌≤◌, ◌<◌, min, Bool, not, ◌&&◌, ◌||◌, ◌≡◌, eqb, get_or, take}
use Rattle.std.proofs.Math.Bool.{true, false}
use mathlib.Core.List.{List, [], ◌∷◌, ◌++◌, append_assoc, append-nil}
use Rattle.std.proofs.Math.Path.{refl, sym, ap}
use Rattle.std.proofs.Common.{ap₂, ◌∙◌, add-one, drop-cons, take_all, take-append-drop, drop_of_length-le, drop-drop, eq-eqb, eqb-true, ne_eqb, le-leb, leb-true, lt-ltb, le-ltb, ltb-true, ltb-false}
use native.Mathlib.Omega.{arith}
use Rattle.std.proofs.Math.Dec.{ltb}
use Rattle.std.proofs.Math.ListN.{length, drop, length-append, length-take, length-drop}
use Rattle.std.proofs.lemmas.Bool.{eqb-false}
use Rattle.lists.specs.Pick.{pick}
use Rattle.lists.specs.All.{all_by, pairs_by}
use Rattle.lists.specs.Fold.{fold}
use Rattle.lists.specs.Filter.{filter_by}
use Rattle.lists.specs.Place.{place_by}
use Rattle.lists.specs.Row.{keep_row}
use Rattle.lists.specs.Next.{next_by}
use Rattle.lists.specs.laws.Part.{cut_take}
use Rattle.lists.specs.laws.Rest.{all_behind, next_within}
use Rattle.lists.specs.laws.Pick.{pick_yes, pick_no}
use Rattle.lists.specs.laws.Row.{row_filtered}
use Rattle.identifier.specs.Order.{number_from}
use Rattle.state.specs.declared.Lease.{Lease}
use Rattle.state.specs.declared.Release.{Release}
use Rattle.state.specs.declared.TenantReleases.{TenantReleases}
use Rattle.state.specs.Book.{laid_releases, pushed_release, remembered}
use Rattle.state.specs.Edit.{remember_of}
use Rattle.state.specs.laws.Layout.{push_release_laid}
use Rattle.soundness.specs.Sound.{zero_from}
use Rattle.releases.specs.declared.ReleaseRules.{ReleaseRules}
use Rattle.releases.specs.Rules.{both_rules, differs, few_b, filled_b, tenant_b, laid_b, length_b, not_leased, older, once_b, past_b, rules_at, unused_r}
use Rattle.releases.specs.laws.Tenants.{six}

pub not_is : {q p : Bool} → q ≡ p → not q ≡ not p
not_is e = ap not e

-- ---- a RELEASE sent again
-- whether one of a list passes, from what is left of it
abbrev pub found : (Release → Bool) → List Release → Bool
found t l = ltb (place_by t l) (length l)

ltb_suc : (a b : ℕ) → ltb (suc a) (suc b) ≡ ltb a b
ltb_suc a b = go (ltb a b) refl
  where
    go : (c : Bool) → ltb a b ≡ c → ltb (suc a) (suc b) ≡ c
    go true e = lt-ltb (suc a) (suc b) (let h = ltb-true a b e in omega arith)
    go false e = le-ltb (suc a) (suc b) (let h = ltb-false a b e in omega arith)

module _ (t : Release → Bool) (l : List Release) (i : ℕ) (d : Release) (h : i < length l) where
  found_here : found t (drop i l) ≡ found t (get_or l i d ∷ drop (i + 1) l)
  found_here = ap (found t) (drop-cons l i d h ∙ ap (λ (k : ℕ). get_or l i d ∷ drop k l) (sym (add-one i)))

  pub found_yes : {q w : Bool} → q ≡ t (get_or l i d) → q ≡ true → found t (drop i l) ≡ w → true ≡ w
  unfolding place_by pick
  found_yes f y p = sym (lt-ltb 0 (suc (length (drop (i + 1) l))) (omega arith)) ∙ ap (λ (b : Bool). ltb (pick b 0 (suc (place_by t (drop (i + 1) l)))) (suc (length (drop (i + 1) l)))) (sym y ∙ f) ∙ sym found_here ∙ p

  pub found_next : {q w : Bool} → q ≡ t (get_or l i d) → q ≡ false → found t (drop i l) ≡ w → found t (drop (i + 1) l) ≡ w
  unfolding place_by pick
  found_next f y p =
      sym (ltb_suc (place_by t (drop (i + 1) l)) (length (drop (i + 1) l)))
      ∙ ap (λ (b : Bool). ltb (pick b 0 (suc (place_by t (drop (i + 1) l)))) (suc (length (drop (i + 1) l)))) (sym y ∙ f) ∙ sym found_here ∙ p

pub found_none : (t : Release → Bool) (l : List Release) (i : ℕ) {w : Bool} → length l ≤ i → found t (drop i l) ≡ w → false ≡ w
unfolding place_by
found_none t l i h p = sym (ap (found t) (drop_of_length-le l {i = i} h)) ∙ p

pub found_start : (t : Release → Bool) (l : List Release) {n : ℕ} (x : ℕ) → n ≡ min x 4 → length l ≡ 4 → found t (take n l) ≡ found t (take x l)
found_start t l x e g = ap (λ (z : ℕ). found t (take z l)) e ∙ ap (found t) (cut_take 4 x l g)

-- ---- remembering and forgetting
-- one turn of a filter
unfoldable pub kept_r : (Release → Bool) → TenantReleases → Release → TenantReleases
kept_r t q r = keep_row pushed_release t q r

pub forgotten_is : (t : Release → Bool) (x : ℕ) (l : List Release) → length l ≡ 4 → fold (kept_r t) (laid_releases []) (take x l) ≡ laid_releases (filter_by t (take x l))
unfolding kept_r
forgotten_is t x l h = row_filtered 4 laid_releases pushed_release push_release_laid t x l h

-- a turn of the code
pub turn : (f : TenantReleases → Release → TenantReleases) (l : List Release) (i : ℕ) (d : Release) (acc : TenantReleases) {r w : TenantReleases} → i < length l → r ≡ f acc (get_or l i d) → fold f acc (drop i l) ≡ w
    → fold f r (drop (i + 1) l) ≡ w
turn f l i d acc h u p =
    ap (λ (b : TenantReleases). fold f b (drop (i + 1) l)) u ∙ sym (ap (fold f acc) (drop-cons l i d h ∙ ap (λ (k : ℕ). get_or l i d ∷ drop k l) (sym (add-one i)))) ∙ p

module _ (now : TenantReleases) (r : Release) (u : Release → Bool) where
  pub kept_in : {q : Bool} {z : TenantReleases} → q ≡ u r → q ≡ true → z ≡ pushed_release now r → z ≡ kept_r u now r
  unfolding kept_r
  kept_in e y p = pick_yes _ now _ e y p

  pub kept_out : {q : Bool} → q ≡ u r → q ≡ false → now ≡ kept_r u now r
  unfolding kept_r
  kept_out e n = pick_no _ now _ e n refl

-- those from a place on
laid_all : (p ls : List Release) → length p + length ls ≤ 4 → fold pushed_release (laid_releases p) ls ≡ laid_releases (p ++ ls)
laid_all p [] h = ap laid_releases (sym (append-nil p))
laid_all p (r ∷ ls) h =
    ap (λ (x : TenantReleases). fold pushed_release x ls) (push_release_laid p r (omega arith)) ∙ laid_all (p ++ r ∷ []) ls (omega (arith, length-append p (r ∷ []))) ∙ ap laid_releases (append_assoc p (r ∷ []) ls)

pub later_start : (l : List Release) {n : ℕ} {now : TenantReleases} (x from : ℕ) → now ≡ laid_releases [] → n ≡ min x 4 → length l ≡ 4 → from ≤ min x 4
    → fold pushed_release now (take (length (take n l) - from) (drop from (take n l))) ≡ laid_releases (drop from (take x l))
later_start l {n} {now} x from e g h f =
    ap₂ (λ (z : TenantReleases) (k : List Release). fold pushed_release z k) e
    (take_all (length (take n l) - from) (drop from (take n l)) (omega (arith, length-drop from (take n l))) ∙ ap (drop from) (ap (λ (z : ℕ). take z l) g ∙ cut_take 4 x l h))
    ∙ laid_all [] (drop from (take x l)) (let a = length-take x l in let b = length-drop from (take x l) in omega arith)

module _ (q : TenantReleases) (r : Release) {y z : TenantReleases} (g : length q.releases ≡ 4) where
  pub remember_room : q.count < 4 → y ≡ laid_releases (drop 0 (remembered q)) → z ≡ pushed_release y r → z ≡ laid_releases (remember_of r (remembered q))
  unfolding remember_of
  remember_room h e p =
      let k = length-take q.count q.releases in
      let m = length-append (remembered q) (r ∷ []) in
      let none : length (remembered q ++ r ∷ []) - 4 ≡ 0 = omega arith in
      p ∙ ap (λ (x : TenantReleases). pushed_release x r) e ∙ push_release_laid (remembered q) r (omega arith)
      ∙ sym (ap (λ (x : ℕ). laid_releases (drop x (remembered q ++ r ∷ []))) none)

  pub remember_full : 4 ≤ q.count → y ≡ laid_releases (drop 1 (remembered q)) → z ≡ pushed_release y r → z ≡ laid_releases (remember_of r (remembered q))
  unfolding remember_of
  remember_full h e p =
      let k = length-take q.count q.releases in
      let m = length-append (remembered q) (r ∷ []) in
      let j = length-drop 1 (remembered q) in
      let one : length (remembered q ++ r ∷ []) - 4 ≡ 1 = omega arith in
      p ∙ ap (λ (x : TenantReleases). pushed_release x r) e ∙ push_release_laid (drop 1 (remembered q)) r (omega arith)
      ∙ ap laid_releases (first (remembered q) (omega arith)) ∙ sym (ap (λ (x : ℕ). laid_releases (drop x (remembered q ++ r ∷ []))) one)
    where
      first : (l : List Release) → 0 < length l → drop 1 l ++ r ∷ [] ≡ drop 1 (l ++ r ∷ [])
      first [] h = absurd (omega arith)
      first (x ∷ l) h = refl

-- ---- the rules
pub older_within : (l : List Release) (x k n : ℕ) {r : Bool} → r ≡ next_by older (take n l) → n ≡ min x k → length l ≡ k → r ≡ pairs_by older (take x l)
unfolding older
older_within l x k n e c g = next_within older trans l x k n c g e
  where
    trans : (x y z : Release) → older x y ≡ true → older y z ≡ true → older x z ≡ true
    trans x y z p q = le-leb x.time z.time (let a = leb-true x.time y.time p in let b = leb-true y.time z.time q in omega arith)

-- what is behind a place, as a part of an array
pub part_behind : {A : Type 0} (l : List A) (n : ℕ) → take (length l - n) (drop n l) ≡ drop n l
part_behind l n = take_all (length l - n) (drop n l) (omega (arith, length-drop n l))

pub filled_is : (r : Release) (n : ℕ) {q : Bool} → n ≡ min r.id_len 32 → length r.id ≡ 32 → q ≡ all_by (λ x. eqb x 0) (take (length r.id - n) (drop n r.id)) → q ≡ filled_b r
unfolding zero_from filled_b
filled_is r n e g p = all_behind (λ x. eqb x 0) r.id r.id_len 32 n (p ∙ ap (all_by (λ x. eqb x 0)) (part_behind r.id n)) e g

-- eight octets are 0 where their number is
word_zero : (w : ℕ) (l : List ℕ) → eqb (number_from w l) 0 ≡ (eqb w 0 && all_by (λ x. eqb x 0) l)
unfolding number_from all_by pick
word_zero w [] = true_r (eqb w 0)
  where
    true_r : (b : Bool) → b ≡ (b && true)
    true_r true = refl
    true_r false = refl
word_zero w (x ∷ l) = word_zero (w * 256 + x) l ∙ go (eqb w 0) (eqb x 0) refl refl
  where
    go : (a b : Bool) → eqb w 0 ≡ a → eqb x 0 ≡ b → (eqb (w * 256 + x) 0 && all_by (λ x. eqb x 0) l) ≡ (a && pick b (all_by (λ x. eqb x 0) l) false)
    go true true p q = let e = eqb-true w 0 p in let f = eqb-true x 0 q in ap (λ (b : Bool). b && all_by (λ x. eqb x 0) l) (eq-eqb (w * 256 + x) 0 (omega arith))
    go true false p q = let f = eqb-false x 0 q in ap (λ (b : Bool). b && all_by (λ x. eqb x 0) l) (ne_eqb (w * 256 + x) 0 (λ z. f (omega arith)))
    go false b p q = let f = eqb-false w 0 p in ap (λ (b : Bool). b && all_by (λ x. eqb x 0) l) (ne_eqb (w * 256 + x) 0 (λ z. f (omega arith)))

all_parts : {A : Type 0} (t : A → Bool) (x y : List A) → all_by t (x ++ y) ≡ (all_by t x && all_by t y)
unfolding all_by pick
all_parts t [] y = refl
all_parts t (a ∷ x) y = go (t a) (all_parts t x y)
  where
    go : (b : Bool) → all_by t (x ++ y) ≡ (all_by t x && all_by t y) → pick b (all_by t (x ++ y)) false ≡ (pick b (all_by t x) false && all_by t y)
    go true ih = ih
    go false ih = refl

abbrev word0 : ℕ → List ℕ → Bool
word0 i a = eqb (number_from 0 (take 8 (drop i a))) 0

-- eight more from place i on
words_from : (a : List ℕ) (i : ℕ) → all_by (λ x. eqb x 0) (drop i a) ≡ (word0 i a && all_by (λ x. eqb x 0) (drop (i + 8) a))
words_from a i =
    ap (all_by (λ x. eqb x 0)) (sym (take-append-drop 8 (drop i a))) ∙ all_parts (λ x. eqb x 0) (take 8 (drop i a)) (drop 8 (drop i a))
    ∙ ap₂ (λ (x y : Bool). x && y) (sym (word_zero 0 (take 8 (drop i a)))) (ap (all_by (λ x. eqb x 0)) (drop-drop 8 i a))

four : (a b c d : Bool) → (((a && b) && c) && d) ≡ (a && (b && (c && d)))
four true true c d = refl
four true false c d = refl
four false b c d = refl

pub zeros_are : (a : List ℕ) {w x y z : ℕ} → length a ≡ 32 → w ≡ number_from 0 (take 8 (drop 0 a)) → x ≡ number_from 0 (take 8 (drop 8 a)) → y ≡ number_from 0 (take 8 (drop 16 a)) → z ≡ number_from 0 (take 8 (drop 24 a))
    → (((eqb w 0 && eqb x 0) && eqb y 0) && eqb z 0) ≡ zero_from 0 a
unfolding zero_from all_by
zeros_are a {w} {x} {y} {z} g ew ex ey ez =
    (let e : (((eqb w 0 && eqb x 0) && eqb y 0) && eqb z 0) ≡ (((word0 0 a && word0 8 a) && word0 16 a) && word0 24 a) = cc in e)
    ∙ four (word0 0 a) (word0 8 a) (word0 16 a) (word0 24 a)
    ∙ sym (words_from a 0 ∙ ap (λ (b : Bool). word0 0 a && b) (words_from a 8 ∙ ap (λ (b : Bool). word0 8 a && b) (words_from a 16 ∙ ap (λ (b : Bool). word0 16 a && b)
    (words_from a 24 ∙ ap (λ (l : List ℕ). word0 24 a && all_by (λ x. eqb x 0) l) (drop_of_length-le a {i = 32} (omega arith)) ∙ true_r (word0 24 a)))))
  where
    true_r : (b : Bool) → (b && true) ≡ b
    true_r true = refl
    true_r false = refl

-- ---- all rules
pub none_are : (n clock h : ℕ) (ls : List Lease) (q : TenantReleases) {f : Bool} → q.count ≡ 0 → f ≡ all_by unused_r (drop q.count q.releases)
    → ◌≡◌ {A = ReleaseRules} (record { tenants = true; few = true; lengths = true; once = true; times = true; layout = f }) (rules_at n clock h ls q)
unfolding rules_at tenant_b few_b once_b laid_b all_by pairs_by
none_are n clock h ls q {f} e p =
    six (tenant (ltb h n)) (sym (le-leb q.count 4 (omega arith))) (none (all_by length_b)) (none (λ l. pairs_by differs l && all_by (not_leased ls) l)) (none (all_by (past_b clock)))
    (p ∙ ap (λ (l : List Release). pairs_by older l && (all_by filled_b l && all_by unused_r (drop q.count q.releases))) (sym nothing))
  where
    nothing : remembered q ≡ []
    nothing = ap (λ (k : ℕ). take k q.releases) e

    none : (t : List Release → Bool) → t [] ≡ t (remembered q)
    none t = ap t (sym nothing)

    tenant : (b : Bool) → true ≡ (b || eqb q.count 0)
    tenant true = refl
    tenant false = sym (eq-eqb q.count 0 e)

pub added_is : (a x r : ReleaseRules) {y : ReleaseRules} → x ≡ y → r ≡ both_rules a x → r ≡ both_rules a y
added_is a x r e p = p ∙ ap (both_rules a) e
