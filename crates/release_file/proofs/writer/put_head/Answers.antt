-- `put_head` meets its contract: by `head_wrote`, `id_length`.
use Rattle.release_file.specs.laws.Rows.{head_wrote, id_length}
use Rattle.std.proofs.Common.{ap, min, rules, ℕ, ◌∙◌}
use lib.ListN.{length}
use mathlib.Core.Path.{◌≡◌}
use native.Mathlib.Omega.{arith}
use Rattle.release_file.proofs.writer.put_head.Goals as goal

pub put_run-requires : goal.put_run-requires
put_run-requires c = let r = c.args.e in let w = c.min-n.ensures ∙ ap (λ (k : ℕ). min k 32) c.from.ensures in let q : length r.id ≡ 32 = search rules in let e = id_length r _ q w in (omega (arith, c.put_u8-b.ensures.next, c.put_u8-a.ensures.next), omega arith)

pub returns : goal.returns
returns c = head_wrote c.args.e (search rules) (c.min-n.ensures ∙ ap (λ (k : ℕ). min k 32) c.from.ensures) (search rules) c.put_u8-a.ensures c.put_u8-b.ensures c.put_run.ensures
