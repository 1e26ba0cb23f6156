-- `options::walk_options` meets its contract: the loop takes one option a turn (`Left`).
use Rattle.message.proofs.Steps.{left_start, left_step, left_stop, rank_falls}
use Rattle.message.specs.declared.Stage.TheVariants.{Broken, Done}
use Rattle.std.specs.Prelude.{refl}
use Rattle.std.proofs.Common.{rules, ⊎_elim}
use Rattle.message.proofs.options.walk_options.Goals as goal

pub loop-w-init : goal.loop-w-init
loop-w-init c = left_start c.args.s.now (search rules)

pub step-w-requires : goal.step-w-requires
step-w-requires c = (c.loop-w.invariant.within, search rules)

pub loop-w-smaller : goal.loop-w-smaller
loop-w-smaller c = rw c.step-w.ensures (rank_falls c.args.s.now c.loop-w.w c.in-Walking.is c.loop-w.invariant)

pub loop-w-preserved : goal.loop-w-preserved
loop-w-preserved c = rw c.step-w.ensures (left_step c.args.s.now c.loop-w.w c.in-Walking.is c.loop-w.invariant)

pub returns-in-Done : goal.returns-in-Done
returns-in-Done c = ⊎_elim (λ e. left_stop c.args.s.now c.loop-w.w Done e (λ m. refl) c.loop-w.invariant) (λ e. left_stop c.args.s.now c.loop-w.w Broken e (λ m. refl) c.loop-w.invariant) c.in-Done.is
