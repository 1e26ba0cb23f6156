-- A scope is read at twice the octets left and one more, its names at twice.
use Rattle.std.proofs.Common.{◌+◌, ◌-◌, length}
use Rattle.names.proofs.+scope_end_scope_names_end.Given as goal

abbrev pub decreases-scope_end : goal.decreases-scope_end
decreases-scope_end l = (length l.s.now - l.at) + (length l.s.now - l.at) + 1

abbrev pub decreases-scope_names_end : goal.decreases-scope_names_end
decreases-scope_names_end l = (length l.s.now - l.at) + (length l.s.now - l.at)
