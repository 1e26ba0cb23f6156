-- Definitions: what the calls of a test that is handed over answer.
use Rattle.std.specs.Prelude.{◌≡◌, Bool}
use Rattle.std.specs.Fn.{Shared}
use denote.Ref.{Bor}

-- each call of f at an element answers what the test t says of it
abbrev pub Answers : {F A : Type 0} → Shared F (Bor A × Unit {0}) Bool → (A → Bool) → F → Type 0
Answers {F} {A} g t f = (x : Bor A) (r : Bool) → g.post f (x, tt) r → r ≡ t x.now

-- each call of f at two elements answers what the test t says of them
abbrev pub AnswersPairs : {F A : Type 0} → Shared F (Bor A × (Bor A × Unit {0})) Bool → (A → A → Bool) → F → Type 0
AnswersPairs {F} {A} g t f = (x y : Bor A) (r : Bool) → g.post f (x, (y, tt)) r → r ≡ t x.now y.now
