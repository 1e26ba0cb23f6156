-- `limits_kept` meets its contract: by `limits_bad`, `limits_unknown`, `limits_known`.
use Rattle.lists.specs.laws.Part.{unmapped}
use Rattle.salvage_rules.specs.laws.Rules.{limits_bad, limits_known, limits_unknown, tenant_from_law, tenant_to}
use borrow.Author.Rules.{rules}
use borrow.Author.Tests.{not-false, not-true}
use Rattle.salvage_rules.proofs.limits_kept.Goals as goal

pub returns-then-not-id_length_ok : goal.returns-then-not-id_length_ok
returns-then-not-id_length_ok c = search (limits_bad, not-true, rules)

pub tenant_place-requires : goal.tenant_place-requires
tenant_place-requires c = search (tenant_from_law, tenant_to, not-true, rules)

pub returns-then-tenant_known : goal.returns-then-tenant_known
returns-then-tenant_known c = search (limits_known, unmapped, not-false, rules)

pub returns : goal.returns
returns c = search (limits_unknown, not-false, rules)
