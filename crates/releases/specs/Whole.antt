-- Definitions: a sound book with what it remembers (document 02, W-202), its names (W-201) and its board (W-207): "bad names lent 1 or 22", releases "lent,
-- both are 1 or 22", and "a book whose board disagrees is unsound, 1 and 22".
use Rattle.std.specs.Prelude.{Bool, ◌&&◌}
use Rattle.names.specs.Names.{names_b}
use Rattle.state.specs.Book.{Book}
use Rattle.soundness.specs.Sound.{sound_b}
use Rattle.agreement.specs.Agrees.{agrees_b}
use Rattle.releases.specs.Rules.{memory_b}

-- the names are a section of the campus file for as many scopes and houses as the settings have
abbrev pub names_good : Book → Bool
names_good b = names_b b.state.scope_count b.state.tenant_count b.names

-- what is remembered keeps W-202's rules
abbrev pub memory_good : Book → Bool
memory_good b = memory_b b.state b.table b.memory

-- its board is what its leases say
abbrev pub board_good : Book → Bool
board_good b = agrees_b b.table b.memory.board

unfoldable pub book_b : Book → Bool
book_b b = sound_b b.state b.table && (memory_good b && (board_good b && names_good b))
