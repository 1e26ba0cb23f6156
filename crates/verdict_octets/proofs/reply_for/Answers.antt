-- `reply_for` meets its contract: a law for each number.
use Rattle.verdict_octets.proofs.Octets.{replies}
use borrow.Author.Rules.{rules}
use Rattle.verdict_octets.proofs.reply_for.Goals as goal

pub returns-then-n-eq1 : goal.returns-then-n-eq1
returns-then-n-eq1 c = search (replies, rules)

pub returns-then-n-eq2 : goal.returns-then-n-eq2
returns-then-n-eq2 c = search (replies, rules)

pub returns-then-n-eq3 : goal.returns-then-n-eq3
returns-then-n-eq3 c = search (replies, rules)

pub returns-then-n-eq4 : goal.returns-then-n-eq4
returns-then-n-eq4 c = search (replies, rules)

pub returns-then-n-eq5 : goal.returns-then-n-eq5
returns-then-n-eq5 c = search (replies, rules)

pub returns : goal.returns
returns c = search (replies, rules)
