-- Laws: the grant in closed form: no search over k.
use Rattle.std.specs.Prelude.{ℕ, ◌+◌, ◌-◌, ◌≤◌, ◌<◌, min, max, ◌≡◌, Bool, ◌&&◌}
use Rattle.std.proofs.Math.Path.{refl}
use Rattle.std.proofs.Common.{sym, ap, ◌∙◌, arith}
use Rattle.std.proofs.Math.Bool.{true, false}
use borrow.Author.Tests.{lt-leb, le-leb, leb-true}
use Rattle.std.proofs.Math.Dec.{leb}
use Rattle.lists.specs.Down.{largest}
use Rattle.lists.specs.laws.Down.{largest_closed, largest_none}
use Rattle.allocation.specs.declared.GrantNumbers.{GrantNumbers}
use Rattle.allocation.specs.Closed.{held_giving, committed_giving, allowed_of}

and_no_left : {a : Bool} (b : Bool) → a ≡ false → (a && b) ≡ false
and_no_left b e = ap (λ (t : Bool). t && b) e

and_right : {a : Bool} (b : Bool) → a ≡ true → (a && b) ≡ b
and_right b e = ap (λ (t : Bool). t && b) e

pub over_limit : (l : GrantNumbers) (n : ℕ) → l.limit < l.held → 0 ≡ largest (allowed_of l) n
unfolding allowed_of
over_limit l n h = sym (largest_none (allowed_of l) n (λ k. and_no_left (leb (committed_giving l k) l.size) (lt-leb (held_giving l k) l.limit (omega arith))))

no_size : (l : GrantNumbers) (k : ℕ) → l.size < l.others + max l.held l.reserve → allowed_of l k ≡ false
unfolding allowed_of
no_size l k h = go (leb (held_giving l k) l.limit)
  where
    go : (t : Bool) → (t && leb (committed_giving l k) l.size) ≡ false
    go true = lt-leb (committed_giving l k) l.size (omega arith)
    go false = refl

pub over_size : (l : GrantNumbers) (n own : ℕ) → own ≡ max l.held l.reserve → l.size < l.others + own → 0 ≡ largest (allowed_of l) n
over_size l n own e h = sym (largest_none (allowed_of l) n (λ k. no_size l k (omega arith)))

module _ (l : GrantNumbers) (n own room : ℕ) (e : own ≡ max l.held l.reserve) (inLimit : l.held ≤ l.limit) (inSize : l.others + own ≤ l.size)
    (er : room ≡ min (l.limit - l.held) (l.size - (l.others + l.held))) where
  fits : (k : ℕ) → k ≤ l.free + room → allowed_of l k ≡ true
  unfolding allowed_of
  fits k h = and_right (leb (committed_giving l k) l.size) (le-leb (held_giving l k) l.limit (omega arith)) ∙ le-leb (committed_giving l k) l.size (omega arith)

  over : (k : ℕ) → l.free + room < k → allowed_of l k ≡ false
  unfolding allowed_of
  over k h = go (leb (held_giving l k) l.limit) refl
    where
      go : (t : Bool) → leb (held_giving l k) l.limit ≡ t → (t && leb (committed_giving l k) l.size) ≡ false
      go true p = let q = leb-true (held_giving l k) l.limit p in lt-leb (committed_giving l k) l.size (omega arith)
      go false p = refl

  pub closed : (r : ℕ) → r ≡ min n (l.free + room) → r ≡ largest (allowed_of l) n
  closed r p = p ∙ sym (largest_closed (allowed_of l) (l.free + room) n fits over)

pub ruleset closes = (over_limit, over_size, closed)
