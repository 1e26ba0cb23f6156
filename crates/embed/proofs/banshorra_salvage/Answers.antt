-- `banshorra_salvage` meets its contract: by cases on what the salvage answers.
use Rattle.embed.proofs.Salvaged.{salvage_refused, salvage_told}
use Rattle.embed.proofs.banshorra_salvage.Goals as goal

pub returns-in-Ok : goal.returns-in-Ok
returns-in-Ok c = salvage_told c.salvage.ensures c.in-Ok.is

pub returns-in-Err : goal.returns-in-Err
returns-in-Err c = salvage_refused c.salvage.ensures c.in-Err.is c.number.ensures
