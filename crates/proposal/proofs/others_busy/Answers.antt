-- `others_busy` meets its contract: a fold over the leases in use.
use Rattle.proposal.specs.laws.Others.{others_added}
use Rattle.lists.specs.laws.Part.{part_start, parts, unmapped}
use Rattle.std.proofs.Common.{rules}
use Rattle.proposal.proofs.others_busy.Goals as goal

pub loop-i-init : goal.loop-i-init
loop-i-init c = part_start c.args.own.count 16 (search rules) (search (unmapped, rules)) (others_added _ _ _ _ _)

pub add_other-sum-requires : goal.add_other-sum-requires
add_other-sum-requires c = search (parts, rules)

pub loop-i-preserved : goal.loop-i-preserved
loop-i-preserved c = search (parts, rules)

pub returns : goal.returns
returns c = search (parts, rules)
