-- `with_release` meets its contract: by `with_release_is`.
use Rattle.lists.specs.laws.Part.{unmapped}
use Rattle.salvage_rules.specs.laws.Rules.{with_release_is}
use borrow.Author.Rules.{rules}
use Rattle.salvage_rules.proofs.with_release.Goals as goal

pub tenant_place-h-requires : goal.tenant_place-h-requires
tenant_place-h-requires c = search (with_release_is, unmapped, rules)

pub returns : goal.returns
returns c = search (with_release_is, unmapped, rules)
