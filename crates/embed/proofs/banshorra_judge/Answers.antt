-- `banshorra_judge` meets its contract: the file is read, the datagram is judged, the file is written again; a refused file changes nothing. The search does not come
use Rattle.embed.proofs.Files.{file_judged, file_unjudged, names_inside}
use Rattle.embed.proofs.Sound.{half_sound, opened_known}
use Rattle.std.proofs.Common.{rules}
use Rattle.embed.proofs.banshorra_judge.Goals as goal

pub keep_names-k-requires : goal.keep_names-k-requires
keep_names-k-requires c = search (names_inside, rules)

pub judge_sound-j-requires : goal.judge_sound-j-requires
judge_sound-j-requires c = search (opened_known, rules)

pub write_sound-w-requires : goal.write_sound-w-requires
write_sound-w-requires c = search (half_sound, rules)

pub returns-then-f-eq0 : goal.returns-then-f-eq0
returns-then-f-eq0 c = let a = c.args in
    file_judged _ _ c.open_in-f.ensures a.client a.time a.datagram.now c.if-f-eq0.true c.keep_names-k.ensures c.judge_sound-j.ensures c.write_sound-w.ensures.answer c.write_sound-w.ensures.octets
    c.put.ensures c.length_after.ensures c.number_after.ensures

pub returns : goal.returns
returns c = search (file_unjudged, rules)
