-- `put` meets its contract: part by part, 75 octets in all.
use Rattle.verdict_octets.specs.laws.Octets.{verdict_wrote}
use borrow.Author.Rules.{rules}
use Rattle.verdict_octets.proofs.put.Goals as goal

pub returns : goal.returns
returns c = verdict_wrote c.args.r (search rules) c.put_outcome-a.ensures c.put_place-b.ensures c.put_numbers-c.ensures c.put_asked-d.ensures c.put_language-e.ensures c.put_last.ensures
