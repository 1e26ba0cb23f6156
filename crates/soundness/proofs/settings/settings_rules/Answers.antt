-- `settings::settings_rules` meets its contract: by settings-are.
use Rattle.std.proofs.Common.{rules}
use Rattle.soundness.specs.laws.Code.{settings_are}
use Rattle.soundness.proofs.settings.settings_rules.Goals as goal

pub returns : goal.returns
returns c = search (settings_are, rules)
