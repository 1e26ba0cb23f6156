-- `banshorra_check` meets its contract: by cases on what the check answers.
use Rattle.std.proofs.Common.{ap, sym, ◌∙◌}
use Rattle.state_file.specs.StateFile.{refusal_number}
use Rattle.embed.proofs.banshorra_check.Goals as goal

pub returns-in-Ok : goal.returns-in-Ok
unfolding refusal_number
returns-in-Ok c = ap refusal_number (sym c.in-Ok.is) ∙ c.check.ensures

pub returns-in-Err : goal.returns-in-Err
unfolding refusal_number
returns-in-Err c = c.number.ensures ∙ ap refusal_number (sym c.in-Err.is) ∙ c.check.ensures
