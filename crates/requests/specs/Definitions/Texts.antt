-- ds, de and rm, as their answers stand for them in any state with a stack. Assumes nothing.
use Rattle.std.specs.Prelude.{◌≡◌, Bool, List, [], ℕ, length, Option, None, Some, Result, Ok, Err}
use Rattle.std.proofs.Math.Path.{refl}
use Rattle.rules.specs.declared.Name.{Name}
use Rattle.rules.specs.declared.TableChange.TheVariants.{De, Rm}
use Rattle.rules.specs.Printers.{Printer}
use Rattle.rules.specs.Names.{Named, one, too_long, name_of}
use Rattle.rules.specs.Names as names
use Rattle.rules.specs.declared.Refusal.{Refusal}
use Rattle.rules.specs.Refusals.{Judged}
use Rattle.rules.specs.Results.{judged_by}
use Rattle.rules.specs.Texts.{Text}
use Rattle.rules.specs.State.{State, Item}
use Rattle.rules.specs.StateSetters.{with_stack, with_texts, with_opened}
use Rattle.rules.specs.Acts.{argument_at, on_name, written_back, define_text, open_text, remove_text, change}
use Rattle.texts.specs.Table.Table.{texts_of, TextsInvariant}
use Rattle.texts.specs.Table.Changes.{Opens}
use Rattle.input_stack.specs.declared.stack.Stack.{Stack}
use Rattle.input_stack.specs.Stack.Frames.{frames_of}
use Rattle.input_stack.specs.Stack.Items.{stack_of, GoodFrames}

-- the state with these texts and this input stack
abbrev pub in_texts : List Text → List Item → State → State
in_texts ts k x = with_texts ts (with_stack k x)

-- the state with these texts, and the items of a stack seen over them
abbrev pub over_stack : Stack → (arena ends : List ℕ) → List Text → State → State
over_stack k bs ps ts x = in_texts ts (stack_of ts k bs ps) x

-- what is done with so many texts, or the state as it was
abbrev pub changed_of : Option ℕ → (count : ℕ) → (done : State → State) → (view : ℕ → State) → State
changed_of (Some n) c done view = done (view n)
changed_of None c done view = view c

-- how many texts there are then, of so many before
abbrev pub count_changed : Result (Option ℕ) Refusal → ℕ → ℕ
count_changed (Ok (Some n)) c = n
count_changed (Ok None) c = c
count_changed (Err e) c = c

-- where nothing is done and where it is refused, every byte of the store and of the columns is as it was
abbrev pub KeptTexts : Result (Option ℕ) Refusal → (st fs ss ks ls st' fs' ss' ks' ls' : List ℕ) → Type 0
KeptTexts (Ok (Some n)) st fs ss ks ls st' fs' ss' ks' ls' = Unit
KeptTexts (Ok None) st fs ss ks ls st' fs' ss' ks' ls' = (st' ≡ st) × (fs' ≡ fs) × (ss' ≡ ss) × (ks' ≡ ks) × (ls' ≡ ls)
KeptTexts (Err e) st fs ss ks ls st' fs' ss' ks' ls' = (st' ≡ st) × (fs' ≡ fs) × (ss' ≡ ss) × (ks' ≡ ks) × (ls' ≡ ls)

-- in any state these texts become what the rules say, under the same items of the stack, whatever their bytes; their frames stay good
pub record ChangeRefines (st fs ss ks ls : List ℕ) (count : ℕ) (k : Stack) (ends : List ℕ) (done : State → State) (act : State → Judged State) (r : Result (Option ℕ) Refusal) (st' fs' ss' ks' ls' : List ℕ) : Type 0 where
  pub is : (arena : List ℕ) (x : State)
      → judged_by (λ o. changed_of o count done (λ n. over_stack k arena ends (texts_of st' fs' ss' ks' ls' n) x)) r ≡ act (over_stack k arena ends (texts_of st fs ss ks ls count) x)
  pub good : (arena : List ℕ) → GoodFrames (texts_of st fs ss ks ls count) (frames_of k arena ends)
      → GoodFrames (texts_of st' fs' ss' ks' ls' (count_changed r count)) (frames_of k arena ends)
  pub lies : TextsInvariant st' fs' ss' ks' ls' (count_changed r count)
  pub long : length st' ≡ length st
  pub kept : KeptTexts r st fs ss ks ls st' fs' ss' ks' ls'

-- nothing else is done
abbrev pub alone : State → State
alone s = s

-- rm
abbrev pub removes : (name : List ℕ) → State → Judged State
removes m s = on_name (name_of m) s (remove_text s)

-- de
abbrev pub opens_text : (name : List ℕ) → State → Judged State
opens_text m s = on_name (name_of m) s (open_text s)

-- the definition of this name is open, with nothing in it
abbrev pub opened_as : Named → State → State
opened_as names.no_name s = s
opened_as too_long s = s
opened_as (one n) s = with_opened (Some (record { name = n; body = [] })) s

-- an empty body is open, if there is a name and it is not refused
abbrev pub ChangeOpens : Result (Option ℕ) Refusal → (store lengths : List ℕ) → Type 0
ChangeOpens (Ok (Some n)) st ls = Opens st ls n 0
ChangeOpens (Ok None) st ls = Unit
ChangeOpens (Err e) st ls = Unit

-- de of what this name is; the open definition itself is the caller's
pub record OpensAs (st fs ss ks ls : List ℕ) (count : ℕ) (k : Stack) (ends : List ℕ) (m : Named) (act : State → Judged State) (r : Result (Option ℕ) Refusal) (st' fs' ss' ks' ls' : List ℕ) : Type 0 where
  pub changes : ChangeRefines st fs ss ks ls count k ends (opened_as m) act r st' fs' ss' ks' ls'
  pub opens : ChangeOpens r st' ls'

-- ds of a name: the text is as it stands, or was written back
abbrev pub defines_as : Name → (bytes : List ℕ) → State → Judged State
defines_as n l s = define_text s l n

-- ds of what the name is
abbrev pub defines_by : (afterIf : Bool) → Named → (bytes : List ℕ) → State → Judged State
defines_by i m l s = on_name m s (define_text s (written_back i l))

-- ds, and the place that its name was written to
pub record DefinesAs (st fs ss ks ls : List ℕ) (count : ℕ) (k : Stack) (ends : List ℕ) (act : State → Judged State) (r : Result (Option ℕ) Refusal) (st' fs' ss' ks' ls' parts' : List ℕ) : Type 0 where
  pub changes : ChangeRefines st fs ss ks ls count k ends alone act r st' fs' ss' ks' ls'
  pub parts_long : length parts' ≡ 512

-- These are the rules' rm and de.
module _ (p : Printer) (l : List ℕ) (s : State) where
  pub removes_rm : removes (argument_at 0 l) s ≡ change p Rm l s
  unfolding change
  removes_rm = refl

  pub opens_de : opens_text (argument_at 0 l) s ≡ change p De l s
  unfolding change
  opens_de = refl
