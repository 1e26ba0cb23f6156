-- `open` meets its contract: the settings' length, then soundness.
use Rattle.van_server.proofs.Opened.{opens_cut, opens_sound, opens_unsound}
use borrow.Author.Rules.{rules}
use Rattle.van_server.proofs.open.Goals as goal

pub returns-then-settings-lt-SETTINGS : goal.returns-then-settings-lt-SETTINGS
returns-then-settings-lt-SETTINGS c = search (opens_cut, rules)

pub returns-then-is_sound : goal.returns-then-is_sound
returns-then-is_sound c = search (opens_sound, rules)

pub returns : goal.returns
returns c = search (opens_unsound, rules)
