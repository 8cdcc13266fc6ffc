use mathlib.Core.Path.{◌≡◌}
use Prim.Native.Nat.{◌+◌, ◌≤◌}
use Rattle.fill.specs.Words.Parts.{bytes_between}
use Rattle.fill.specs.Words.Words.{run_length}
use Rattle.fill.proofs.words.Words.{run_width}
use Rattle.fill.proofs.words.word_end.Given as goal

abbrev pub invariant-loop-i : goal.invariant-loop-i
invariant-loop-i l = record {
  place : l.at + run_length (bytes_between l.line l.at l.to) ≡ l.i + run_length (bytes_between l.line l.i l.to);
  cells : run_width (bytes_between l.line l.at l.to) ≡ l.width + run_width (bytes_between l.line l.i l.to);
  few : l.width ≤ l.i;
}
