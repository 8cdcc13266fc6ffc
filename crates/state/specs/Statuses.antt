-- The whole state of a status and the arrays, and when work on it may begin. Assumes nothing.
use Rattle.std.specs.Prelude.{◌≡◌, List, ℕ, ◌≤◌, length, ℤ}
use Rattle.settings.specs.declared.layout.Printer.{Printer}
use Rattle.settings.specs.Layout.Layouts.{PrinterInvariant}
use Rattle.composition.specs.PageRows.PageState as page-state
use Rattle.composition.specs.PageRows.PageState.{page_state}
use Rattle.state.specs.declared.Status.{Status}
use Rattle.state.specs.Whole.{WholeState, text_columns, register_columns, whole_state, StateInvariant}

-- the whole of a status and the arrays
abbrev pub whole_of : Status → (cells arena ends : List ℕ) → (store textFirsts textSeconds kinds lengths : List ℕ) → (firsts seconds : List ℕ) → (values steps : List ℤ) → WholeState
whole_of s cs bs ps st tf ts ks ls fs ss vs us =
    whole_state (page_state s.layout s.page s.collected cs s.stack bs ps) s.planted (text_columns st tf ts ks ls s.texts) s.opening (register_columns fs ss vs us s.registers)

-- Work may begin: the whole is sound, at most 16 items lie on the stack, and the bytes are a line.
pub record StateReady (q : WholeState) (bytes row : List ℕ) (p : Printer) : Type 0 where
  pub sound : StateInvariant q
  pub items : q.page_state.stack.depth ≤ 16
  pub short : length bytes ≤ 512
  pub long : length row ≡ 872
  pub printer : PrinterInvariant p

-- Work on the page state may begin then, too.
module _ (s : Status) (cs bs ps st tf ts ks ls fs ss : List ℕ) (vs us : List ℤ) (bytes row : List ℕ) (p : Printer) where
  abbrev q : WholeState
  q = whole_of s cs bs ps st tf ts ks ls fs ss vs us

  pub page_ready : StateReady q bytes row p → page-state.PageReady s.planted q.page_state bytes row tf ts s.texts
  page_ready b = record { sound = b.sound.page_state; items = b.items; short = b.short; long = b.long; names = b.sound.lies.names }
