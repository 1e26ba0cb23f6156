-- Proof of W-214 for the lent ledger and records, by `same`.
use mathlib.Core.Path.{sym, subst}
use Rattle.server.specs.Serve.{Answer}
use Rattle.best_grant.specs.Best.{Best, NobodyMore}
use Rattle.best_grant.proofs.Best.{nobody_more}
use Rattle.lent_guarantee.specs.Statement.{lent_book}
use Rattle.lent_guarantee.specs.Best.{LentNobodyMore}
use Rattle.lent_guarantee.proofs.Same.{same, sound_book}

pub lent_nobody_more : LentNobodyMore
unfolding LentNobodyMore NobodyMore
lent_nobody_more l v c r =
    subst (λ (a : Answer). Best (lent_book l) c a) (sym (same l.ledger l.leases l.names c v.whole))
    (nobody_more (lent_book l) (sound_book l.ledger l.leases l.names c v.whole v.eight v.sound) c r)
