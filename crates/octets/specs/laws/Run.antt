-- Laws: of a run of octets: a part of a slice, element by element.
use Rattle.std.specs.Prelude.{List, ◌∷◌, ◌++◌, ◌≡◌, ◌+◌, ◌<◌, ◌≤◌, ℕ, drop, get_or, length, replicate, take}
use Rattle.std.proofs.Common.{◌∙◌, ap₂, refl, sym, add-one, arith, length-drop, drop-cons, get_or-drop, get_or-take, length-take-le}
use Rattle.std.proofs.lemmas.List.{drop-replicate}
use Rattle.lists.specs.Row.{laid_row}

-- the k octets from at on
abbrev pub part : List ℕ → ℕ → ℕ → List ℕ
part s at k = take k (drop at s)

pub part_length : (s : List ℕ) (at k : ℕ) → at + k ≤ length s → length (part s at k) ≡ k
part_length s at k h = length-take-le k (drop at s) (let e = length-drop at s in omega arith)

pub part_element : (s : List ℕ) (at n i : ℕ) → i < n → get_or s (at + i) 0 ≡ get_or (part s at n) i 0
part_element s at n i h = sym (get_or-take n (drop at s) i 0 h ∙ get_or-drop at s i 0)

-- the next octet and the rest
pub part_next : (s : List ℕ) (at k i : ℕ) → at + k ≤ length s → i < k → drop i (part s at k) ≡ get_or s (at + i) 0 ∷ drop (i + 1) (part s at k)
part_next s at k i h g =
    drop-cons (part s at k) i 0 (let e = part_length s at k h in omega arith)
    ∙ ap₂ {C = List ℕ} (λ (x : ℕ) (n : ℕ). x ∷ drop n (part s at k)) (sym (part_element s at k i g)) (sym (add-one i))

-- a run in front of what was all z
pub laid : (z m : ℕ) {n : ℕ} (xs : List ℕ) {ys : List ℕ} → length xs ≡ n → ys ≡ xs → ys ++ drop n (replicate m z) ≡ laid_row z m xs
laid z m xs e p = rw (p, ← e, drop-replicate) refl
