-- `entry_rule` meets its contract: by `entry_limits`, `entry_offsets`, `entry_unnamed`, `entry_judged`.
use Rattle.salvage_rules.specs.laws.Rules.{named_facts, storable_here}
use Rattle.salvage_rules.proofs.Rules.{entry_judged, entry_limits, entry_offsets, entry_unnamed}
use Rattle.lease_file.specs.laws.Limits.{lease_inside}
use borrow.Author.Rules.{rules}
use borrow.Author.Tests.{not-false, not-true}
use Rattle.salvage_rules.proofs.entry_rule.Goals as goal

pub returns-then-not-limits_kept : goal.returns-then-not-limits_kept
returns-then-not-limits_kept c = search (entry_limits, not-true, rules)

pub returns-then-not-offsets_kept : goal.returns-then-not-offsets_kept
returns-then-not-offsets_kept c = search (entry_offsets, not-true, not-false, rules)

pub returns-then-not-is_named : goal.returns-then-not-is_named
returns-then-not-is_named c = search (entry_unnamed, not-true, not-false, rules)

pub judged_at-l-requires : goal.judged_at-l-requires
judged_at-l-requires c = storable_here _ _ _ _ _ c.requires c.limits_kept.ensures c.if-not-limits_kept.false c.is_named.ensures c.if-not-is_named.false

pub with_record-requires : goal.with_record-requires
with_record-requires c = named_facts _ _ _ _ c.is_named.ensures c.if-not-is_named.false

pub kind_at-requires : goal.kind_at-requires
kind_at-requires c = search (lease_inside, rules)

pub returns : goal.returns
returns c = search (entry_judged, not-false, rules)
