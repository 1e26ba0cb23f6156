-- Statement: nobody could have given more (document 02, W-214), in words that speak of the lent ledger, the lent lease records and the lent names.
use Rattle.server.specs.Serve.{Call}
use Rattle.best_grant.specs.Best.{AsksRule, Best}
use Rattle.lent_guarantee.specs.Statement.{Lent, SoundLent, answer_of, lent_book, served}

-- of the answer to the lent call, for "any REQUEST and the sound book it brings to the grant rule"; its sentences are in best_grant's statement
unfoldable pub LentNobodyMore : Type 0
LentNobodyMore = (l : Lent) → SoundLent l → (c : Call) → AsksRule (lent_book l) c → Best (lent_book l) c (answer_of l.names (served l c))
