-- `read_run` meets its contract: the octets lie in front of what was zero.
use Rattle.std.proofs.Common.{◌≡◌, ◌+◌, ◌-◌, arith}
use Rattle.octets.specs.laws.Run.{laid, part_length}
use Rattle.octets.proofs.read_run.Goals as goal

pub returns : goal.returns
returns c =
    let size : c.args.at + c.args.n - c.args.at ≡ c.args.n = omega arith in
    laid 0 32 _ (part_length c.args.s.now c.args.at c.args.n c.requires.1) (rw size at c.copy_from_slice.ensures.after)
