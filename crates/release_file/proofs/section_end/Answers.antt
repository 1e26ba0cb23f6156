-- `section_end` meets its contract: by `section_none`, `section_from`.
use Rattle.format.specs.laws.Section.{section_from, section_none}
use borrow.Author.Rules.{rules}
use Rattle.release_file.proofs.section_end.Goals as goal

pub returns-then-s-at : goal.returns-then-s-at
returns-then-s-at c = search (section_none, section_from, rules)

pub returns : goal.returns
returns c = search (section_from, rules)
