-- `Message::wish` meets its contract: by what the lookup found; what was found lies within the datagram.
use Rattle.message.proofs.Steps.{four_fits}
use Rattle.std.proofs.Common.{arith}
use Rattle.message.proofs.Message.wish.Goals as goal

pub overflow_add-at : goal.overflow_add-at
overflow_add-at c = let h = four_fits _ _ _ _ _ c.requires.1.0 c.requires.0 c.find.ensures c.in_ok-at.was in omega (arith, h, c.requires.1.1)

pub read_u32-requires : goal.read_u32-requires
read_u32-requires c = let h = four_fits _ _ _ _ _ c.requires.1.0 c.requires.0 c.find.ensures c.in_ok-at.was in omega (arith, h)
