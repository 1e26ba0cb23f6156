-- Laws: lists that zeros fill up.
use Rattle.std.specs.Prelude.{List, ◌≡◌, ◌-◌, ℕ, drop, length, replicate, take}
use Rattle.lists.specs.laws.Row.{row_back, row_fill}
use Rattle.state_file.specs.Records.{filled}

pub filled_take : {A : Type 0} (z : A) (n : ℕ) (l : List A) → take (length l) (filled z n l) ≡ l
unfolding filled
filled_take z n l = row_back z n l

-- an array with only z past k is the filled list of its first k
pub filled_back : {A : Type 0} (z : A) (n k : ℕ) (a : List A) → length (take k a) ≡ k → drop k a ≡ replicate (n - k) z → filled z n (take k a) ≡ a
unfolding filled
filled_back z n k a e q = row_fill z n k a e q
