-- `write` meets its contract: what `records::write` says of the copies.
use Rattle.records.specs.laws.Lent.{room_lent_law, written_lent_law}
use Rattle.lent.proofs.write.Goals as goal

pub returns : goal.returns
returns c = record {
  answer = written_lent_law c.args.ledger.now c.args.leases.now c.args.names.now _ c.load-all.ensures c.write.ensures.answer;
  octets = room_lent_law c.args.ledger.now c.args.leases.now c.args.names.now _ c.load-all.ensures c.write.ensures.octets;
}
