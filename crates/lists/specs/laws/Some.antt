-- Laws: some of the elements, in whichever order: what a drop, a removal or a file's first entries leave. Rules that hold of all hold of these.
use Rattle.std.specs.Prelude.{◌≡◌, refl, Bool, true, not, List, [], ◌∷◌, ◌++◌, ◌≤◌, length}
use Rattle.std.proofs.Common.{sym, ◌∙◌, arith, length-append}
use mathlib.Core.List.Permᴰ
use Rattle.lists.specs.All.{all_by, pairs_by}
use Rattle.lists.specs.laws.All.{all_head, all_cons, pairs_head, pairs_cons}
use Rattle.lists.specs.Filter.{filter_by}
use Rattle.lists.specs.Reordered.{Reordered}
use Rattle.lists.specs.laws.Reordered.{reordered_all, reordered_pairs, reordered_length}
use Rattle.lists.specs.laws.Arranged.{split_reordered}

-- y is x without z
abbrev pub Part : {A : Type 0} → List A → List A → Type 0
Part {A} x y = (z : List A) × Reordered x (y ++ z)

front_all : {A : Type 0} (t : A → Bool) (y z : List A) → all_by t (y ++ z) ≡ true → all_by t y ≡ true
unfolding all_by
front_all t [] z h = refl
front_all t (a ∷ y) z h = let p = all_head t a (y ++ z) h in all_cons t a y p.0 (front_all t y z p.1)

front_pairs : {A : Type 0} (t : A → A → Bool) (y z : List A) → pairs_by t (y ++ z) ≡ true → pairs_by t y ≡ true
unfolding pairs_by
front_pairs t [] z h = refl
front_pairs t (a ∷ y) z h = let p = pairs_head t a (y ++ z) h in pairs_cons t a y (front_all (t a) y z p.0) (front_pairs t y z p.1)

pub part_all : {A : Type 0} (t : A → Bool) (x y : List A) → Part x y → all_by t x ≡ true → all_by t y ≡ true
part_all t x y (z, d) h = front_all t y z (sym (reordered_all t d) ∙ h)

pub part_pairs : {A : Type 0} (t : A → A → Bool) → ((a b : A) → t a b ≡ t b a) → (x y : List A) → Part x y → pairs_by t x ≡ true → pairs_by t y ≡ true
part_pairs t turn x y (z, d) h = front_pairs t y z (sym (reordered_pairs t turn d) ∙ h)

pub part_length : {A : Type 0} (x y : List A) → Part x y → length y ≤ length x
part_length x y (z, d) = let e = reordered_length d in let f = length-append y z in omega arith

-- a filter's, the first n, and what was there before an insertion
pub filter_part : {A : Type 0} (t : A → Bool) (l : List A) → Part l (filter_by t l)
filter_part t l = (filter_by (λ y. not (t y)) l, Permᴰ.symm (split_reordered t l))
