-- Laws: of what the caller of a call is told.
use Rattle.std.specs.Prelude.{◌≡◌, List, ℕ}
use Rattle.std.proofs.Common.{subst}
use Rattle.server.specs.declared.Outcome.{Outcome}
use Rattle.server.specs.Serve.{Said, Tells}

pub tells_as : {a b : Said} {x y : List ℕ} {r : Outcome} → a ≡ b → Tells a x y r → Tells b x y r
tells_as {x = x} {y} {r} e v = subst (λ (z : Said). Tells z x y r) e v
