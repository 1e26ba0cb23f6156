-- `last_sections` meets its contract: the law of each section.
use Rattle.state_file.proofs.WholeForm.{first_inside, form_holds, form_names, form_over, form_releases, form_right, names_inside}
use borrow.Author.Rules.{rules}
use Rattle.state_file.proofs.form.last_sections.Goals as goal

pub bounds-s-scopes : goal.bounds-s-scopes
bounds-s-scopes c = let p = first_inside c.requires in search rules

pub bounds-s-9 : goal.bounds-s-9
bounds-s-9 c = let p = first_inside c.requires in search rules

pub section_end-lists-requires : goal.section_end-lists-requires
section_end-lists-requires c = let p = first_inside c.requires in search rules

pub returns-in_default : goal.returns-in_default
returns-in_default c = form_names _ c.requires c.section_end-lists.ensures c.in_default.is

pub section_end-memory-requires : goal.section_end-memory-requires
section_end-memory-requires c = names_inside _ _ _ c.section_end-lists.ensures c.in-Some.is

pub returns-in_default-memory : goal.returns-in_default-memory
returns-in_default-memory c = form_releases _ c.requires c.section_end-lists.ensures c.in-Some.is c.section_end-memory.ensures c.in_default-memory.is

pub returns-in_default-last : goal.returns-in_default-last
returns-in_default-last c = form_holds _ c.requires c.section_end-lists.ensures c.in-Some.is c.section_end-memory.ensures c.in-Some-memory.is c.section_end-last.ensures c.in_default-last.is

pub returns-then-end-s : goal.returns-then-end-s
returns-then-end-s c = form_over _ c.requires c.section_end-lists.ensures c.in-Some.is c.section_end-memory.ensures c.in-Some-memory.is c.section_end-last.ensures c.in-Some-last.is c.if-end-s.true

pub returns : goal.returns
returns c = form_right _ c.requires c.section_end-lists.ensures c.in-Some.is c.section_end-memory.ensures c.in-Some-memory.is c.section_end-last.ensures c.in-Some-last.is c.if-end-s.false
