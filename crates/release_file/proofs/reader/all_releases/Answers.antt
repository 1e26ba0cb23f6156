-- `all_releases` meets its contract: its loop keeps `FillInv`; by `fills`.
use Rattle.release_file.specs.laws.Load.{fills}
use borrow.Author.Rules.{rules}
use Rattle.release_file.proofs.reader.all_releases.Goals as goal

pub no_releases-out-requires : goal.no_releases-out-requires
no_releases-out-requires c = search (fills, rules)

pub loop-init : goal.loop-init
loop-init c = search (fills, rules)

pub tenant_place-t-requires : goal.tenant_place-t-requires
tenant_place-t-requires c = search (fills, rules)

pub release_at-requires : goal.release_at-requires
release_at-requires c = search (fills, rules)

pub push_release-requires : goal.push_release-requires
push_release-requires c = search (fills, rules)

pub release_next-here-requires : goal.release_next-here-requires
release_next-here-requires c = search (fills, rules)

pub loop-preserved : goal.loop-preserved
loop-preserved c = search (fills, rules)

pub returns : goal.returns
returns c = search (fills, rules)
