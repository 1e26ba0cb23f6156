-- `Message::fields` meets its contract: one value after the other.
use Rattle.message.proofs.Steps.{fields_is, four_scope}
use borrow.Author.Rules.{rules}
use Rattle.message.proofs.Message.fields.Goals as goal

pub wish-requires : goal.wish-requires
wish-requires c = search (four_scope, rules)

pub returns : goal.returns
returns c = fields_is _ _ _ c.identifier.ensures c.all_allowed.ensures c.wish.ensures c.counts.ensures c.times.ensures c.has.ensures c.is_for.ensures c.asks_for.ensures c.asks_for-2.ensures c.language.ensures
