-- `put_hex_octet` meets its contract: two digits, one after the other.
use Rattle.octets.specs.laws.Octets.{wrote_joined}
use Rattle.replay_text.specs.Replay.{hex_of}
use borrow.Author.Rules.{rules}
use Rattle.replay_text.proofs.put_hex_octet.Goals as goal

pub returns : goal.returns
unfolding hex_of
returns c = wrote_joined (search rules) (rw c.hex_digit.ensures at c.put_u8-a.ensures) (rw c.hex_digit-2.ensures at c.put_u8.ensures)
