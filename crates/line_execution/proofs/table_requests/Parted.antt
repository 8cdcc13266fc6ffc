-- Requests on tables by their arguments, and by the line that holds these. Assumes nothing.
use mathlib.Core.Path.{◌≡◌, ap, ◌∙◌, subst}
use mathlib.Core.Bool.{Bool}
use mathlib.Core.List.{List, []}
use Prim.Native.Nat.{ℕ}
use lib.ListN.{get_or}
use Rattle.std.specs.Prelude.{Option, Result}
use Rattle.rules.specs.declared.Refusal.{Refusal}
use Rattle.rules.specs.Names.{name_of}
use Rattle.rules.specs.Refusals.{Judged}
use Rattle.state.specs.declared.Opened.{Opened}
use Rattle.rules.specs.State.{State}
use Rattle.rules.specs.StateSetters.{with_registers, with_traps}
use Rattle.rules.specs.Acts.{argument_at, change, plant_trap}
use Rattle.rules.specs.declared.TableChange.TheVariants.{Nr, Wh, Rm, De}
use Rattle.registers.specs.declared.columns.Registers.{Registers}
use Rattle.registers.specs.Table.Lent.{registers_in}
use Rattle.texts.specs.declared.columns.Texts.{Texts}
use Rattle.texts.specs.Table.Table.{texts_of}
use Rattle.traps.specs.declared.table.Planted.{Planted}
use Rattle.traps.specs.Table.Table.{planted_of}
use Rattle.scan.specs.Arguments.Around.{arguments_of}
use Rattle.scan.specs.Arguments.Parting.{PartedAll}
use Rattle.line_syntax.specs.Lines.Places.{argument_is}
use Rattle.settings.specs.declared.layout.Printer.{Printer}
use Rattle.settings.specs.Layout.Layouts.{printer_of}
use Rattle.input_stack.specs.declared.stack.Stack.{Stack}
use Rattle.requests.specs.Nr.Registers.{assigns, assigns_nr}
use Rattle.requests.specs.Nr.Lent.{AssignsIn}
use Rattle.requests.specs.Wh.Traps.{PlantRefines, plants_wh}
use Rattle.requests.specs.Definitions.Texts.{over_stack, ChangeRefines, opens_text, removes, removes_rm, opens_de}
use Rattle.requests.specs.Definitions.Lent.{ChangesIn}
use Rattle.line_execution.specs.TableSteps.Lent.{OpenedAs}

-- the same registers by another name of the request
pub assigned_as : {t t' : Registers} {r : Result Unit Refusal} (act act' : State → Judged State) → AssignsIn t t' act r → ((s : State) → act s ≡ act' s) → AssignsIn t t' act' r
assigned_as {t} act act' a e = record { is = λ x. a.is x ∙ e (with_registers (registers_in t) x); kept = a.kept; loans = a.loans }

pub planted_as : {p : Planted} {r : Result Planted Refusal} (act act' : State → Judged State) → PlantRefines p act r → ((s : State) → act s ≡ act' s) → PlantRefines p act' r
planted_as {p} act act' a e = record { is = λ x. a.is x ∙ e (with_traps (planted_of p) x); within = a.within }

pub changed_as : {st fs ss ks ls : List ℕ} {n : ℕ} {k : Stack} {ps : List ℕ} {done : State → State} {r : Result (Option ℕ) Refusal} {st' fs' ss' ks' ls' : List ℕ} (act act' : State → Judged State) → ChangeRefines st fs ss ks ls n k ps done act r st' fs' ss' ks' ls'
    → ((s : State) → act s ≡ act' s) → ChangeRefines st fs ss ks ls n k ps done act' r st' fs' ss' ks' ls'
changed_as {st} {fs} {ss} {ks} {ls} {n} {k} {ps} act act' a e = record {
  is = λ bs x. a.is bs x ∙ e (over_stack k bs ps (texts_of st fs ss ks ls n) x);
  good = a.good;
  lies = a.lies;
  long = a.long;
  kept = a.kept;
}

-- rm, too
pub removed_as : {t t' : Texts} {k : Stack} {ps : List ℕ} {r : Result Bool Refusal} (act act' : State → Judged State) → ChangesIn t k ps act r t' → ((s : State) → act s ≡ act' s) → ChangesIn t k ps act' r t'
removed_as act act' a e = record { changes = changed_as act act' a.changes e; count = a.count; loans = a.loans }

-- three arguments, known
pub assigns_known : (q : Printer) (m m' v v' l l' : List ℕ) (s : State) → m ≡ m' → v ≡ v' → l ≡ l' → assigns q m v l s ≡ assigns q m' v' l' s
assigns_known q m m' v v' l l' s a b c = ap (λ (y : List ℕ). assigns q y v l s) a ∙ ap (λ (y : List ℕ). assigns q m' y l s) b ∙ ap (λ (y : List ℕ). assigns q m' v' y s) c

-- two arguments, known
pub plants_known : (q : Printer) (l l' m m' : List ℕ) (s : State) → l ≡ l' → m ≡ m' → plant_trap (printer_of q) l m s ≡ plant_trap (printer_of q) l' m' s
plants_known q l l' m m' s a b = ap (λ (y : List ℕ). plant_trap (printer_of q) y m s) a ∙ ap (λ (y : List ℕ). plant_trap (printer_of q) l' y s) b

-- the requests of a line whose arguments were parted
module _ (q : Printer) (line : List ℕ) (count : ℕ) (out ends : List ℕ) (p : PartedAll line 0 count out ends) (s : State) where
  abbrev given : ℕ → List ℕ
  given k = get_or (arguments_of out ends count) k []

  pub assigns_line : assigns q (given 0) (given 1) (given 2) s ≡ change (printer_of q) Nr line s
  assigns_line = assigns_known q (given 0) (argument_at 0 line) (given 1) (argument_at 1 line) (given 2) (argument_at 2 line) s (argument_is 0 p) (argument_is 1 p) (argument_is 2 p) ∙ assigns_nr q line s

  pub plants_line : plant_trap (printer_of q) (given 0) (given 1) s ≡ change (printer_of q) Wh line s
  plants_line = plants_known q (given 0) (argument_at 0 line) (given 1) (argument_at 1 line) s (argument_is 0 p) (argument_is 1 p) ∙ plants_wh (printer_of q) line s

  pub removes_line : (m : List ℕ) → m ≡ given 0 → removes m s ≡ change (printer_of q) Rm line s
  removes_line m e = ap (λ (y : List ℕ). removes y s) (e ∙ argument_is 0 p) ∙ removes_rm (printer_of q) line s

-- de of a line whose arguments were parted
pub opened_line : (q : Printer) (line : List ℕ) (count : ℕ) (out ends : List ℕ) → PartedAll line 0 count out ends → {t t' : Texts} {k : Stack} {ps : List ℕ} (r : Result (Option Opened) Refusal) (m : List ℕ)
    → m ≡ get_or (arguments_of out ends count) 0 []
    → OpenedAs t k ps (name_of m) (opens_text m) r t'
    → OpenedAs t k ps (name_of (argument_at 0 line)) (λ s. change (printer_of q) De line s) r t'
opened_line q line count out ends p {t} {t'} {k} {ps} r m e a =
    let f : m ≡ argument_at 0 line = e ∙ argument_is 0 p in
    let b : OpenedAs t k ps (name_of (argument_at 0 line)) (opens_text (argument_at 0 line)) r t' = subst (λ (v : List ℕ). OpenedAs t k ps (name_of v) (opens_text v) r t') f a in
    record {
      opens = record { changes = changed_as (opens_text (argument_at 0 line)) (λ s. change (printer_of q) De line s) b.opens.changes (λ s. opens_de (printer_of q) line s); opens = b.opens.opens };
      opening = b.opening;
      count = b.count;
      loans = b.loans;
    }
