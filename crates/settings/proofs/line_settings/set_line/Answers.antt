-- `settings::line_settings::set_line` meets its contract: the equation that each call gave says the rest. Assumes nothing.
use Rattle.std.proofs.Common.{rules}
use Rattle.settings.proofs.layout.Layouts.{line_set}
use Rattle.settings.proofs.line_settings.set_line.Goals as goal

pub returns-in-Fi : goal.returns-in-Fi
returns-in-Fi c = line_set _ _ _ _ _ c.requires (search rules)

pub returns-in-Nf : goal.returns-in-Nf
returns-in-Nf c = line_set _ _ _ _ _ c.requires (search rules)

pub returns-in-Ce : goal.returns-in-Ce
returns-in-Ce c = line_set _ _ _ _ _ c.requires (search rules)

pub returns-in-In : goal.returns-in-In
returns-in-In c = line_set _ _ _ _ _ c.requires (search rules)

pub returns-in-Ti : goal.returns-in-Ti
returns-in-Ti c = line_set _ _ _ _ _ c.requires (search rules)
