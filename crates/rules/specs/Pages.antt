-- The pages of a document and its closing answer (document 01, 'How far a promise reaches'). Assumes nothing.
use Rattle.std.specs.Prelude.{List, ℕ}
use Rattle.stream.specs.Machine.{Pages, pages_from}
use Rattle.rules.specs.Printers.{Printer}
use Rattle.rules.specs.State.{start}
use Rattle.rules.specs.Load.{formatter}

-- "These alone fix its pages ..: all that the rules here write for it as one source, up to its end or first refusal (2 to 12). They also fix its closing answer"
unfoldable pub pages : Printer → (document : List ℕ) → Pages
pages p d = pages_from (formatter p) (start p) d
