-- `Message::times` meets its contract: one option after the other.
use Rattle.lists.specs.Filter.{is_in}
use Rattle.lists.specs.Pick.{pick}
use Rattle.message.proofs.Steps.{four_time, times_is}
use borrow.Author.Rules.{rules}
use mathlib.Core.Path.{refl}
use Rattle.message.proofs.Message.times.Goals as goal

pub wish-requires : goal.wish-requires
unfolding is_in pick
wish-requires c = (search rules, (four_time 1 refl, search rules))

pub wish-requires-2 : goal.wish-requires-2
unfolding is_in pick
wish-requires-2 c = (search rules, (four_time 6 refl, search rules))

pub wish-requires-3 : goal.wish-requires-3
unfolding is_in pick
wish-requires-3 c = (search rules, (four_time 11 refl, search rules))

pub wish-requires-4 : goal.wish-requires-4
unfolding is_in pick
wish-requires-4 c = (search rules, (four_time 14 refl, search rules))

pub wish-requires-5 : goal.wish-requires-5
unfolding is_in pick
wish-requires-5 c = (search rules, (four_time 15 refl, search rules))

pub returns : goal.returns
returns c = search (times_is, rules)
