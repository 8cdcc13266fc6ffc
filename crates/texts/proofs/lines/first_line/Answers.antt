-- `texts::lines::first_line` meets its contract. Assumes nothing.
use Rattle.texts.proofs.lines.LineLaws.{line_front}
use Rattle.texts.proofs.lines.first_line.Goals as goal

pub returns : goal.returns
returns c = rw c.line_end.ensures.0 (line_front c.args.text.now)
