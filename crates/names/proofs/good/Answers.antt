-- `good` meets its contract: by where the section ends.
use Rattle.names.proofs.Ends.{whole_good}
use Rattle.names.proofs.good.Goals as goal

pub returns : goal.returns
returns c = whole_good _ _ _ c.section_end.ensures c.eq.ensures
