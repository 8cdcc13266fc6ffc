-- What follows an if, as the code holds it. Assumes nothing.
use Rattle.std.specs.Prelude.{◌≡◌, List, [], ◌∷◌, ℕ}
use Rattle.rules.specs.Texts.{Text}
use Rattle.rules.specs.Lines.{line_of}
use Rattle.rules.specs.State.{Item, again}
use Rattle.input_stack.specs.declared.stack.Stack.{Stack}
use Rattle.input_stack.specs.Stack.Frames.{StackInvariant}
use Rattle.input_stack.specs.Stack.Items.{stack_of}
use Rattle.page.specs.Springs.Held.{StackFits}
use Rattle.page.specs.Springs.Calls.{KeepsGood}

-- the stack with what follows an if, dealt with as a line
abbrev pub followed : (rest : List ℕ) → List Item → List Item
followed [] k = k
followed (b ∷ l) k = again (line_of (b ∷ l)) ∷ k

-- what follows an if is put on the stack
pub record Followed (rest : List ℕ) (s : Stack) (arena ends : List ℕ) (r : Stack) (arena' ends' : List ℕ) : Type 0 where
  pub is : (ts : List Text) → stack_of ts r arena' ends' ≡ followed rest (stack_of ts s arena ends)
  pub good : (ts : List Text) → KeepsGood ts s arena ends r arena' ends'
  pub columns : StackInvariant r arena' ends'
  pub fits : StackFits r ends'
