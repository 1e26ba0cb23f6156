-- `look_up` meets its contract: the record at the place that is found, or none.
use Rattle.std.proofs.Common.{rules}
use Rattle.lists.specs.laws.Part.{unmapped}
use Rattle.decision.specs.laws.Lookup.{absent_is, found_is, found_within}
use Rattle.decision.proofs.look_up.Goals as goal

pub bounds-own-at : goal.bounds-own-at
bounds-own-at c = found_within _ c.args.own _ (search (unmapped, rules)) c.find-x.ensures c.in-Some.is

pub returns-in-Some : goal.returns-in-Some
returns-in-Some c = found_is _ c.args.own _ (search (unmapped, rules)) c.find-x.ensures c.in-Some.is

pub returns-in-None : goal.returns-in-None
returns-in-None c = absent_is _ c.args.own _ (search (unmapped, rules)) c.find-x.ensures c.in-None.is
