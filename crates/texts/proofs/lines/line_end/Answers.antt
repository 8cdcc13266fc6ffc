-- `texts::lines::line_end` meets its contract: the first line is as long as the place of the first newline. Assumes nothing.
use Rattle.std.proofs.Common.{◌≡◌, ℕ, List, length, sym, ◌∙◌, arith, rules, tests}
use Rattle.std.proofs.lemmas.Iterator.{YieldsList-from_slice, IsFirst-from_position, index_from_first}
use Rattle.texts.specs.Lines.Lines.{first_line}
use Rattle.texts.proofs.lines.LineLaws.{line_none, line_stops, line_goes, line_short}
use Rattle.texts.proofs.lines.line_end.Goals as goal

pub returns : goal.returns
returns c =
    let t = c.args.text.now in
    let first = IsFirst-from_position _ _ _ (λ b. b ≡ 10) (λ b. b ≡ 10 → ⊥) c.position.ensures.ran (YieldsList-from_slice t cc) (λ x q k. search (rules, tests)) (λ x q k. search (rules, tests)) in
    let e = index_from_first (λ (l : List ℕ). length (first_line l)) (λ b. b ≡ 10) (λ b. b ≡ 10 → ⊥) line_none line_stops line_goes t _ first in
    let is : c.unwrap_or.result ≡ length (first_line t) = c.unwrap_or.ensures ∙ sym e in
    (is, omega (arith, line_short t))
