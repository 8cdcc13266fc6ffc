-- ds, de and rm, on the texts where they lie. Assumes nothing.
use Rattle.std.specs.Prelude.{◌≡◌, Bool, true, false, List, ℕ, ◌≤◌, length, Option, None, Some, Result, Ok, Err}
use Rattle.rules.specs.declared.Refusal.{Refusal}
use Rattle.rules.specs.Names.{Named}
use Rattle.rules.specs.Refusals.{Judged}
use Rattle.rules.specs.State.{State}
use Rattle.texts.specs.declared.columns.Texts.{Texts}
use Rattle.texts.specs.Table.Lent.{SameLoans}
use Rattle.input_stack.specs.declared.stack.Stack.{Stack}
use Rattle.requests.specs.Definitions.Texts.{ChangeRefines, OpensAs, DefinesAs, alone}

-- so many texts there are then, if anything was done, or the refusal
abbrev pub count_done : Result Bool Refusal → (count : ℕ) → Result (Option ℕ) Refusal
count_done (Ok true) n = Ok (Some n)
count_done (Ok false) n = Ok None
count_done (Err e) n = Err e

-- where nothing is done there are as many texts as before
abbrev pub CountKept : Result Bool Refusal → (count count' : ℕ) → Type 0
CountKept (Ok true) n n' = Unit
CountKept (Ok false) n n' = n' ≡ n
CountKept (Err e) n n' = n' ≡ n

-- ds and rm: the answer says whether anything was done
pub record ChangesIn (t : Texts) (k : Stack) (ends : List ℕ) (act : State → Judged State) (r : Result Bool Refusal) (t' : Texts) : Type 0 where
  pub changes : ChangeRefines t.store.now t.firsts.now t.seconds.now t.kinds.now t.lengths.now t.count k ends alone act (count_done r t'.count) t'.store.now t'.firsts.now t'.seconds.now t'.kinds.now t'.lengths.now
  pub count : CountKept r t.count t'.count
  pub loans : SameLoans t t'

-- de
pub record OpensIn (t : Texts) (k : Stack) (ends : List ℕ) (m : Named) (act : State → Judged State) (r : Result Bool Refusal) (t' : Texts) : Type 0 where
  pub opens : OpensAs t.store.now t.firsts.now t.seconds.now t.kinds.now t.lengths.now t.count k ends m act (count_done r t'.count) t'.store.now t'.firsts.now t'.seconds.now t'.kinds.now t'.lengths.now
  pub count : CountKept r t.count t'.count
  pub loans : SameLoans t t'

-- ds by a line, whose name is put in parts
pub record DefinesIn (t : Texts) (k : Stack) (ends : List ℕ) (act : State → Judged State) (r : Result Bool Refusal) (t' : Texts) (parts' : List ℕ) : Type 0 where
  pub defines : DefinesAs t.store.now t.firsts.now t.seconds.now t.kinds.now t.lengths.now t.count k ends act (count_done r t'.count) t'.store.now t'.firsts.now t'.seconds.now t'.kinds.now t'.lengths.now parts'
  pub count : CountKept r t.count t'.count
  pub loans : SameLoans t t'

-- what ds finds: a stack that is not too deep, and a store of 8,192 bytes
pub record ReadyToDefine (t : Texts) (k : Stack) : Type 0 where
  pub few : k.depth ≤ 17
  pub long : length t.store.now ≡ 8192
