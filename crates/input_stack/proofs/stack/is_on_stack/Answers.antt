-- `input_stack::stack::is_on_stack` meets its contract: `any` asks of each frame what `called_below` asks. Assumes nothing.
use Rattle.std.proofs.Common.{ℕ, ◌∙◌, refl, rules, tests, arith}
use Rattle.std.proofs.lemmas.Iterator.{YieldsList-from_range}
use Rattle.std.proofs.lemmas.Iterator.Search.{any_from_yields_List}
use Rattle.input_stack.specs.Stack.Frames.{entry_at, is_called}
use Rattle.input_stack.proofs.stack.Laws.{called_any}
use Rattle.input_stack.proofs.stack.is_on_stack.Goals as goal

pub returns : goal.returns
returns c =
    let a = c.args in let d = c.args.stack.depth in
    any_from_yields_List (λ (i : ℕ). is_called a.name (entry_at a.ends.now i).what) _ _ _ c.any.ensures.ran (YieldsList-from_range 0 d d refl (omega arith)) (λ x b q k. search (rules, tests))
    ∙ called_any a.name a.ends.now d
