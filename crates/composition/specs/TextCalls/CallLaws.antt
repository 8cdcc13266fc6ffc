-- The call of a text is what the rules do with a control line that has its name. Assumes nothing.
use Rattle.std.specs.Prelude.{◌≡◌, Bool, List, ℕ, Option, Some}
use Rattle.std.proofs.Common.{sym, ap, ◌∙◌}
use Rattle.rules.specs.Printers.{Printer}
use Rattle.rules.specs.declared.Name.{Name}
use Rattle.rules.specs.Texts.{Text, text_of}
use Rattle.rules.specs.State.{State}
use Rattle.rules.specs.Rows.{goes}
use Rattle.rules.specs.ControlLines.{text_meaning, obey}
use Rattle.composition.specs.TextCalls.Calls.{called_text}

module _ (p : Printer) (i q : Bool) (n : Name) (l : List ℕ) (s : State) where
  -- a name that has a text calls it
  pub text_obeyed : (ts : List Text) (t : Text) → text_of n ts ≡ Some t → goes (called_text (text_of n ts) l s) ≡ obey p (text_meaning (text_of n ts) n) i q n l s
  text_obeyed ts t e = ap (λ (o : Option Text). goes (called_text o l s)) e ∙ sym (ap (λ (o : Option Text). obey p (text_meaning o n) i q n l s) e)
