-- `line_syntax::lines::string_at` meets its contract: what stands behind the spaces decides. Assumes nothing.
use borrow.Author.Tests.{ne_eqb}
use Rattle.line_syntax.proofs.lines.PlaceLaws.{string_end, string_quoted, string_bare}
use Rattle.line_syntax.proofs.lines.string_at.Goals as goal
use Rattle.line_syntax.proofs.lines.string_at.Goals.{else-i-line-via-then-i-line+else-line-i-eq34, else-i-line-via-else-i-line}

pub returns-then-line-i-eq34 : goal.returns-then-line-i-eq34
returns-then-line-i-eq34 c = string_quoted _ _ _ c.skip_spaces-i.ensures c.if-i-line.true c.if-line-i-eq34.true

pub returns : goal.returns
returns c = elim c.else-i-line.branch [
  | else-i-line-via-then-i-line+else-line-i-eq34 w ↦ string_bare _ _ _ c.skip_spaces-i.ensures w.if-i-line.true (ne_eqb _ _ w.if-line-i-eq34.false)
  | else-i-line-via-else-i-line w ↦ string_end _ _ _ c.skip_spaces-i.ensures w.if-i-line.false
]
