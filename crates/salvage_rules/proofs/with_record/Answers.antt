-- `with_record` meets its contract: by `with_record_law`.
use Rattle.lists.specs.laws.Part.{unmapped}
use Rattle.salvage_rules.specs.laws.Rules.{with_record_law}
use borrow.Author.Rules.{rules}
use Rattle.salvage_rules.proofs.with_record.Goals as goal

pub tenant_place-h-requires : goal.tenant_place-h-requires
tenant_place-h-requires c = search (with_record_law, unmapped, rules)

pub returns : goal.returns
returns c = search (with_record_law, unmapped, rules)
