-- `tenant_from` meets its contract: by `tenant_from_is` and `place_found`.
use Rattle.std.proofs.Common.{rules, ◌∙◌}
use Rattle.soundness.specs.Sound.{unused_b}
use Rattle.records.specs.laws.Table.{place_found, tenant_from_is}
use Rattle.records.proofs.tenant_from.Goals as goal

pub returns : goal.returns
returns c = tenant_from_is (c.unwrap_or.ensures ∙ place_found unused_b c.args.leases 16 (search rules) c.first_unused.ensures)
