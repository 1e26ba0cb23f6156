-- Laws: of an array with a count, whose entries stand in front and a filler behind them; of any entry, filler and capacity.
use Rattle.std.specs.Prelude.{◌≡◌, refl, Bool, ℕ, zero, suc, ◌+◌, ◌-◌, ◌≤◌, ◌<◌, min, replicate, set, take, drop, get_or}
use Rattle.std.proofs.Common.{sym, ◌∙◌, arith, length-take, take-append-drop, take_at, get_or-take}
use Rattle.std.proofs.Math.Path.{ap}
use Rattle.std.proofs.Math.Bool.{not, true, false}
use mathlib.Core.List.{List, [], ◌∷◌, ◌++◌, append_assoc, append-nil}
use Rattle.std.proofs.Math.ListN.{length, length-append, get_or-eq_default}
use Rattle.std.proofs.lemmas.List.{set_at}
use Rattle.lists.specs.Pick.{pick}
use Rattle.lists.specs.Fold.{fold}
use Rattle.lists.specs.Filter.{filter_by}
use Rattle.lists.specs.Arranged.{insert_in}
use Rattle.lists.specs.Row.{laid_row, keep_row}
use Rattle.lists.specs.laws.Filter.{filter_both, filter_length}

-- what is laid out is read back
pub row_back : {A : Type 0} (z : A) (n : ℕ) (l : List A) → take (length l) (laid_row z n l) ≡ l
row_back z n l = take_at l (replicate (n - length l) z) (length l) refl

-- an array with only z past k is the row of its first k
pub row_fill : {A : Type 0} (z : A) (n k : ℕ) (a : List A) → length (take k a) ≡ k → drop k a ≡ replicate (n - k) z → laid_row z n (take k a) ≡ a
row_fill {A} z n k a e q = ap (λ (j : ℕ). take k a ++ replicate (n - j) z) e ∙ ap (λ (l : List A). take k a ++ l) (sym q) ∙ take-append-drop k a

-- one entry more, written behind the last
pub row_push : {A : Type 0} (z : A) (n : ℕ) (l : List A) (x : A) → length l < n → set (laid_row z n l) (length l) x ≡ laid_row z n (l ++ x ∷ [])
row_push z n l x h =
    let e : n - length l ≡ suc (n - length (l ++ x ∷ [])) = omega (arith, length-append l (x ∷ [])) in
    let rest = replicate (n - length (l ++ x ∷ [])) z in
    ap (λ (k : ℕ). set (l ++ replicate k z) (length l) x) e ∙ set_at l z rest x (length l) refl ∙ sym (append_assoc l (x ∷ []) rest)

-- ---- loops that write behind the last entry: rows of at most n, however they are laid out
module _ {A R : Type 0} (n : ℕ) (laid : List A → R) (push : R → A → R) (pushes : (l : List A) (x : A) → length l < n → push (laid l) x ≡ laid (l ++ x ∷ [])) where
  pub row_filter : (t : A → Bool) (ls p : List A) → length p + length (filter_by t ls) ≤ n → fold (keep_row push t) (laid p) ls ≡ laid (p ++ filter_by t ls)
  unfolding filter_by pick
  row_filter t [] p h = ap laid (sym (append-nil p))
  row_filter t (x ∷ ls) p h = go (t x) h (row_filter t ls p) (row_filter t ls (p ++ x ∷ []))
    where
      go : (b : Bool) → length p + length (pick b (x ∷ filter_by t ls) (filter_by t ls)) ≤ n
          → (length p + length (filter_by t ls) ≤ n → fold (keep_row push t) (laid p) ls ≡ laid (p ++ filter_by t ls))
          → (length (p ++ x ∷ []) + length (filter_by t ls) ≤ n → fold (keep_row push t) (laid (p ++ x ∷ [])) ls ≡ laid ((p ++ x ∷ []) ++ filter_by t ls))
          → fold (keep_row push t) (pick b (push (laid p) x) (laid p)) ls ≡ laid (p ++ pick b (x ∷ filter_by t ls) (filter_by t ls))
      go true h off on =
          ap (λ (r : R). fold (keep_row push t) r ls) (pushes p x (omega arith)) ∙ on (omega (arith, length-append p (x ∷ []))) ∙ ap laid (append_assoc p (x ∷ []) (filter_by t ls))
      go false h off on = off h

  -- of the first k entries of an array
  pub row_filtered : (t : A → Bool) (k : ℕ) (l : List A) → length l ≡ n → fold (keep_row push t) (laid []) (take k l) ≡ laid (filter_by t (take k l))
  row_filtered t k l h = row_filter t (take k l) [] (let a = filter_length t (take k l) in omega (arith, length-take k l))

  -- those before it, the new one, and the others
  pub row_insert : (before : A → A → Bool) (x : A) (ls : List A) → length ls < n
      → fold (keep_row push (λ y. not (before y x))) (push (fold (keep_row push (λ y. before y x)) (laid []) ls) x) ls ≡ laid (insert_in before x ls)
  unfolding insert_in
  row_insert before x ls h =
      let low : List A = filter_by (λ y. before y x) ls in
      let high : List A = filter_by (λ y. not (before y x)) ls in
      let k = filter_both (λ y. before y x) ls in
      let m = length-append low (x ∷ []) in
      ap (λ (r : R). fold (keep_row push (λ y. not (before y x))) (push r x) ls) (row_filter (λ y. before y x) ls [] (omega arith))
      ∙ ap (λ (r : R). fold (keep_row push (λ y. not (before y x))) r ls) (pushes low x (omega arith))
      ∙ row_filter (λ y. not (before y x)) ls (low ++ x ∷ []) (omega arith)
      ∙ ap laid (append_assoc low (x ∷ []) high)

-- ---- lengths and places
get_d_any : {A : Type 0} (l : List A) (i : ℕ) (d e : A) → i < length l → get_or l i d ≡ get_or l i e
get_d_any [] i d e h = absurd (omega arith)
get_d_any (x ∷ l) zero d e h = refl
get_d_any (x ∷ l) (suc i) d e h = get_d_any l i d e (omega arith)

-- an element that the code reads, or does not
module _ {A : Type 0} (l : List A) (n : ℕ) where
  pub at_in : (i : ℕ) (d e : A) → length l ≡ n → i < n → get_or l i d ≡ get_or l i e
  at_in i d e g h = get_d_any l i d e (omega arith)

  pub at_out : (i : ℕ) (d r : A) → length l ≡ n → n ≤ i → r ≡ d → r ≡ get_or l i d
  at_out i d r g h e = e ∙ sym (get_or-eq_default l d (omega arith))

  -- the same of the k entries of an array of n, with r or m as the code has their number
  pub row_length : (k r : ℕ) → length l ≡ n → r ≡ min k n → r ≡ length (take k l)
  row_length k r g e = omega (arith, length-take k l)

  pub row_in : (k m i : ℕ) (d z : A) → length l ≡ n → m ≡ min k n → i < m → get_or l i d ≡ get_or (take k l) i z
  row_in k m i d z g e h = get_d_any l i d z (omega arith) ∙ sym (get_or-take k l i z (omega arith))

  pub row_out : (k m i : ℕ) (z r : A) → length l ≡ n → r ≡ z → m ≡ min k n → m ≤ i → r ≡ get_or (take k l) i z
  row_out k m i z r g p e h = let q = length-take k l in p ∙ sym (get_or-eq_default (take k l) z (omega arith))
