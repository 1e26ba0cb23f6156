-- `load_rules` meets its contract: two flags over the scopes.
use Rattle.std.proofs.Common.{refl, rules}
use Rattle.soundness.specs.laws.Code.{flag_next, flags, limits_in_law, committed_ok_is}
use Rattle.soundness.proofs.holdings.load_rules.Goals as goal

pub loop-k-init : goal.loop-k-init
loop-k-init c = search (flags, rules)

pub loop-k-preserved : goal.loop-k-preserved
loop-k-preserved c = let at = c.scope_at-c.ensures in
    let load = c.scope_load-load.ensures in (
      flag_next c.loop-k.invariant.0 (search rules) refl (limits_in_law _ _ _ _ _ at load.0),
      flag_next c.loop-k.invariant.1 (search rules) refl (committed_ok_is _ _ _ _ _ _ c.has_room-commitments.ensures at load.1),
    )

pub returns : goal.returns
returns c = search (flags, rules)
