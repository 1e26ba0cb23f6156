-- `banshorra_serve` meets its contract: the file is read, the call is served, the file is written again; a refused file changes nothing.
use Rattle.embed.proofs.Files.{file_kept, file_served, names_inside}
use Rattle.embed.proofs.Sound.{call_sound, opened_known}
use Rattle.std.proofs.Common.{rules}
use Rattle.embed.proofs.banshorra_serve.Goals as goal

pub keep_names-k-requires : goal.keep_names-k-requires
keep_names-k-requires c = search (names_inside, rules)

pub serve_sound-r-requires : goal.serve_sound-r-requires
serve_sound-r-requires c = search (opened_known, rules)

pub write_sound-w-requires : goal.write_sound-w-requires
write_sound-w-requires c = search (call_sound, rules)

pub returns-then-f-eq0 : goal.returns-then-f-eq0
returns-then-f-eq0 c = search (file_served, rules)

pub returns : goal.returns
returns c = search (file_kept, rules)
