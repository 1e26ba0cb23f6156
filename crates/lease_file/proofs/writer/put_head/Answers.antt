-- `writer::put_head` meets its contract: by `head_wrote`, `id_length`.
use Rattle.std.proofs.Common.{◌≡◌, ◌∙◌, ℕ, min, length, ap, arith, rules}
use Rattle.lease_file.specs.laws.Rows.{head_wrote, id_length}
use Rattle.lease_file.proofs.writer.put_head.Goals as goal

pub put_run-requires : goal.put_run-requires
put_run-requires c = let e = id_length _ c.args.l (search rules) (c.min-n.ensures ∙ ap (λ (k : ℕ). min k 32) c.from.ensures) in let q : length c.args.l.id ≡ 32 = search rules in let w = (c.min-n.ensures ∙ ap (λ (k : ℕ). min k 32) c.from.ensures) in (omega (arith, c.put_u8-c.ensures.next, c.put_u8-b.ensures.next, c.put_u8-a.ensures.next), omega arith)

pub returns : goal.returns
returns c = let l = c.args.l in head_wrote l (search rules) (c.min-n.ensures ∙ ap (λ (k : ℕ). min k 32) c.from.ensures) (search rules) c.put_u8-a.ensures c.put_u8-b.ensures c.put_u8-c.ensures c.put_run.ensures
