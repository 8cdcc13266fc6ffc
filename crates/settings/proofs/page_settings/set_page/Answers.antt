-- `settings::page_settings::set_page` meets its contract: the equation that each call gave says the rest. Assumes nothing.
use Rattle.std.proofs.Common.{rules}
use Rattle.settings.proofs.layout.Layouts.{page_set}
use Rattle.settings.proofs.page_settings.set_page.Goals as goal

pub returns-in-Pl : goal.returns-in-Pl
returns-in-Pl c = page_set _ _ _ _ _ _ c.requires (search rules)

pub returns-in-Po : goal.returns-in-Po
returns-in-Po c = page_set _ _ _ _ _ _ c.requires (search rules)

pub returns-in-Ll : goal.returns-in-Ll
returns-in-Ll c = page_set _ _ _ _ _ _ c.requires (search rules)

pub returns-in-Ad : goal.returns-in-Ad
returns-in-Ad c = page_set _ _ _ _ _ _ c.requires (search rules)

pub returns-in-Na : goal.returns-in-Na
returns-in-Na c = page_set _ _ _ _ _ _ c.requires (search rules)
