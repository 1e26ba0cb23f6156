-- `put_if` meets its contract: by `octets_in`, `octets_out`.
use Rattle.lease_file.specs.laws.Rows.{octets_in, octets_out}
use Rattle.octets.specs.laws.Octets.{wrote_as, wrote_none}
use Rattle.std.proofs.Common.{rules, length, ap}
use Rattle.lease_file.proofs.writer.put_if.Goals as goal

pub put_entry-requires : goal.put_entry-requires
put_entry-requires c = let e = ap length (octets_in c.args.holds c.args.tenant 0 c.args.l c.of_kind.ensures c.if-of_kind.true) in search rules

pub returns-then-of_kind : goal.returns-then-of_kind
returns-then-of_kind c = wrote_as (octets_in c.args.holds c.args.tenant 0 c.args.l c.of_kind.ensures c.if-of_kind.true) c.put_entry.ensures

pub returns-else-of_kind : goal.returns-else-of_kind
returns-else-of_kind c = wrote_as (octets_out c.args.holds c.args.tenant 0 c.args.l c.of_kind.ensures c.if-of_kind.false) (wrote_none _ _)
