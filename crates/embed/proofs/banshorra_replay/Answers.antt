-- `banshorra_replay` meets its contract: the file is read, the list is answered, the file is written again; a refused file changes nothing.
use Rattle.embed.proofs.Files.{file_left, file_replayed, names_inside}
use Rattle.embed.proofs.Sound.{opened_sound}
use Rattle.std.proofs.Common.{rules}
use Rattle.embed.proofs.banshorra_replay.Goals as goal

pub keep_names-k-requires : goal.keep_names-k-requires
keep_names-k-requires c = search (names_inside, rules)

pub replay-p-requires : goal.replay-p-requires
replay-p-requires c = search (opened_sound, rules)

pub returns-then-f-eq0 : goal.returns-then-f-eq0
returns-then-f-eq0 c = search (file_replayed, rules)

pub returns : goal.returns
returns c = search (file_left, rules)
