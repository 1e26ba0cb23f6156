-- `advance` meets its contract: only the clock differs.
use Rattle.std.proofs.Common.{rules, ◌≡◌, ap, max}
use Rattle.state.specs.Book.{raised, with_clock}
use Rattle.lent_steps.proofs.advance.Goals as goal

pub returns : goal.returns
unfolding raised
returns c =
    let n : c.max-ledger.result ≡ max c.args.ledger.now.state.clock c.args.time = search rules in
    ap (λ n. record { state = with_clock c.args.ledger.now.state n; memory = c.args.ledger.now.memory }) n
