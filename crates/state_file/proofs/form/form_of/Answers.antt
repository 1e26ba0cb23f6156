-- `form_of` meets its contract: by `forms`.
use Rattle.state_file.proofs.WholeForm.{count_in_law, form_first, form_leases, forms}
use borrow.Author.Rules.{rules}
use Rattle.state_file.proofs.form.form_of.Goals as goal

pub returns-then-len-gt-FILE_LIMIT : goal.returns-then-len-gt-FILE_LIMIT
returns-then-len-gt-FILE_LIMIT c = search (forms, rules)

pub returns-then-len-lt9 : goal.returns-then-len-lt9
returns-then-len-lt9 c = search (forms, rules)

pub returns-then-s-ne1 : goal.returns-then-s-ne1
returns-then-s-ne1 c = search (forms, rules)

pub returns-in_default : goal.returns-in_default
returns-in_default c = search (forms, rules)

pub bounds-s-9 : goal.bounds-s-9
bounds-s-9 c = let p = count_in_law _ _ _ c.counted_end-ranges.ensures c.in-Some.is in search rules

pub returns-in_default-pools : goal.returns-in_default-pools
returns-in_default-pools c = search (forms, rules)

pub returns-in_default-records : goal.returns-in_default-records
returns-in_default-records c = form_leases _ c.if-s-ne1.false c.if-len-lt9.false c.counted_end-ranges.ensures c.in-Some.is _ c.from.ensures c.counted_end-pools.ensures c.in-Some-pools.is c.section_end-records.ensures c.in_default-records.is

pub last_sections-requires : goal.last_sections-requires
last_sections-requires c = form_first _ c.if-s-ne1.false c.if-len-lt9.false c.counted_end-ranges.ensures c.in-Some.is _ c.from.ensures c.counted_end-pools.ensures c.in-Some-pools.is c.section_end-records.ensures c.if-len-gt-FILE_LIMIT.false c.in-Some-records.is
