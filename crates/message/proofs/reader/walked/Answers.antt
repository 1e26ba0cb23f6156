-- `reader::walked` meets its contract: by the stage at which the walk stopped.
use Rattle.message.proofs.Steps.{walked_as, walked_good}
use Rattle.message.specs.declared.Stage.TheVariants.{Broken, Walking}
use Rattle.std.proofs.Common.{rules, ⊎_elim}
use Rattle.message.proofs.reader.walked.Goals as goal

pub ended-requires : goal.ended-requires
ended-requires c = search (walked_good, rules)

pub returns-in-Done : goal.returns-in-Done
returns-in-Done c = search (walked_as, rules)

pub returns-in-Walking : goal.returns-in-Walking
returns-in-Walking c = ⊎_elim (λ e. walked_as _ _ Walking _ e c.discarded.ensures) (λ e. walked_as _ _ Broken _ e c.discarded.ensures) c.in-Walking.is
