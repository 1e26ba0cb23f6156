-- `has_client` meets its contract: by the definition, case by case.
use Rattle.lists.specs.laws.Both.{ands}
use Rattle.std.proofs.Common.{rules}
use Rattle.server.specs.Serve.{has_client}
use Rattle.server.proofs.has_client.Goals as goal

pub returns-then-r-client : goal.returns-then-r-client
unfolding has_client
returns-then-r-client c = search (ands, rules)

pub returns-else-r-client : goal.returns-else-r-client
unfolding has_client
returns-else-r-client c = search (ands, rules)
