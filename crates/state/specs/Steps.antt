-- Parts of a status set anew, and what a piece of work leads to. Assumes nothing.
use Rattle.std.specs.Prelude.{ℕ}
use Rattle.traps.specs.declared.table.Planted.{Planted}
use Rattle.input_stack.specs.declared.stack.Stack.{Stack}
use Rattle.page.specs.declared.springs.Way.{Way}
use Rattle.composition.specs.declared.page_rows.PageOutcome.{PageOutcome}
use Rattle.state.specs.declared.Opening.{Opening}
use Rattle.state.specs.declared.Status.{Status}
use Rattle.state.specs.declared.WorkOutcome.{WorkOutcome}

-- nothing is written, and all is as it is
abbrev pub stayed : Way → Status → WorkOutcome
stayed w s = record { way = w; written = 0; status = s }

-- the page state after a piece of work on it
abbrev pub moved_to : PageOutcome → Status → WorkOutcome
moved_to o s = record {
  way = o.way;
  written = o.written;
  status = record { layout = o.layout; page = o.page; collected = o.collected; planted = s.planted; stack = o.stack; texts = s.texts; opening = s.opening; registers = s.registers };
}

-- other counts and parts
abbrev pub with_register_count : ℕ → Status → Status
with_register_count n s =
    record { layout = s.layout; page = s.page; collected = s.collected; planted = s.planted; stack = s.stack; texts = s.texts; opening = s.opening; registers = n }

abbrev pub with_planted : Planted → Status → Status
with_planted p s =
    record { layout = s.layout; page = s.page; collected = s.collected; planted = p; stack = s.stack; texts = s.texts; opening = s.opening; registers = s.registers }

abbrev pub with_text_count : ℕ → Opening → Status → Status
with_text_count n o s =
    record { layout = s.layout; page = s.page; collected = s.collected; planted = s.planted; stack = s.stack; texts = n; opening = o; registers = s.registers }

abbrev pub with_status_stack : Stack → Status → Status
with_status_stack k s =
    record { layout = s.layout; page = s.page; collected = s.collected; planted = s.planted; stack = k; texts = s.texts; opening = s.opening; registers = s.registers }
