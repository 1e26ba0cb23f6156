-- `release_rule` meets its contract: by `release_unknown`, `release_fifth`, `release_misnamed`, `release_judged`.
use Rattle.salvage_rules.specs.laws.Rules.{keepable_here, release_fifth, release_judged, release_misnamed, release_unknown, tenant_facts}
use mathlib.Core.Path.{◌∙◌, sym}
use Rattle.salvage_rules.proofs.release_rule.Goals as goal

pub returns-then-not-tenant_known : goal.returns-then-not-tenant_known
returns-then-not-tenant_known c = release_unknown c.requires _ _ _ c.tenant_known.ensures c.if-not-tenant_known.true

pub is_full-requires : goal.is_full-requires
is_full-requires c = tenant_facts _ _ (sym c.tenant_known.ensures ∙ c.if-not-tenant_known.false)

pub returns-then-is_full : goal.returns-then-is_full
returns-then-is_full c = release_fifth c.requires _ _ _ c.tenant_known.ensures c.if-not-tenant_known.false c.is_full.ensures c.if-is_full.true

pub returns-then-not-id_length_ok : goal.returns-then-not-id_length_ok
returns-then-not-id_length_ok c = release_misnamed c.requires _ _ _ c.tenant_known.ensures c.if-not-tenant_known.false c.is_full.ensures c.if-is_full.false c.id_length_ok.ensures c.if-not-id_length_ok.true

pub with_release-requires : goal.with_release-requires
with_release-requires c = keepable_here _ c.requires c.tenant_known.ensures c.if-not-tenant_known.false c.id_length_ok.ensures c.if-not-id_length_ok.false

pub returns : goal.returns
returns c = release_judged c.requires _ _ _ c.tenant_known.ensures c.if-not-tenant_known.false c.is_full.ensures c.if-is_full.false c.id_length_ok.ensures _ _ _ c.if-not-id_length_ok.false c.with_release.ensures c.check_rules-all.ensures c.first_release.ensures
