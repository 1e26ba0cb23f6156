-- `open_at` meets its contract: a law for each of its two answers.
use Rattle.std.proofs.Common.{refl, Some, sym, ◌∙◌}
use Rattle.state_file.specs.Place.{FormedBy}
use Rattle.embed.proofs.Files.{open_unsound, open_yes}
use Rattle.embed.proofs.open_at.Goals as goal

pub returns-in-Ok : goal.returns-in-Ok
unfolding FormedBy
returns-in-Ok c = open_yes _ {l = Some c.args.places} c.requires refl (sym c.in-Ok.is ∙ c.book_at.ensures) c.owned_of.ensures

pub returns-in-Err : goal.returns-in-Err
unfolding FormedBy
returns-in-Err c = open_unsound _ {l = Some c.args.places} c.requires refl (sym c.in-Err.is ∙ c.book_at.ensures) c.number.ensures c.refused.ensures
