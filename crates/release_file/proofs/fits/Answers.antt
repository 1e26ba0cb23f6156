-- `fits` meets its contract: by `section_fits`.
use Rattle.release_file.specs.laws.Limits.{section_fits}
use borrow.Author.Rules.{rules}
use Rattle.release_file.proofs.fits.Goals as goal

pub all_keepable-requires : goal.all_keepable-requires
all_keepable-requires c = search (section_fits, rules)

pub all_few-requires : goal.all_few-requires
all_few-requires c = search (section_fits, rules)

pub returns-then-all_keepable : goal.returns-then-all_keepable
returns-then-all_keepable c = search (section_fits, rules)

pub returns-else-all_keepable : goal.returns-else-all_keepable
returns-else-all_keepable c = search (section_fits, rules)
