-- The way to which a piece of work leads: where it is refused, the number is that of one of the twelve refusals. Each law takes what a
-- contract says of the work, and the law of its rule from `limits`; where the contract is over all texts of some names, these too. They are
-- for whoever calls the functions of page, composition, line_execution and formatter from outside. Assumes nothing.
use Rattle.std.specs.Prelude.{◌≡◌, refl, true, false, List, [], ℕ, zero, suc, take, replicate, Option, None, Some, Result, Ok, Err}
use Rattle.std.proofs.Math.Path.{sym, subst}
use Rattle.std.proofs.Common.{arith}
use Rattle.measure.specs.declared.Rows.{Rows}
use Rattle.measure.specs.Counts.{down_of}
use Rattle.rules.specs.Printers.{Printer, ten_to_the_inch}
use Rattle.rules.specs.declared.Refusal.{Refusal}
use Rattle.rules.specs.Columns.{Names}
use Rattle.rules.specs.Texts.{Text}
use Rattle.rules.specs.State.{State, Item, Definition, start}
use Rattle.rules.specs.StateSetters.{input, with_input, with_stored}
use Rattle.rules.specs.Rows.{Next}
use Rattle.rules.specs.ControlLines.{meaning_of}
use Rattle.limits.proofs.RefusalNumbers.{NumberOf, number_of, StateNumbered, NextNumbered, text_line_numbered, obey_numbered, keep_body_numbered, step_numbered}
use Rattle.texts.specs.Table.Table.{total_length, texts_of, TextsInvariant}
use Rattle.traps.specs.declared.table.Planted.{Planted}
use Rattle.traps.specs.Table.Table.{planted_of}
use Rattle.input_stack.specs.declared.frames.What.{What}
use Rattle.input_stack.specs.declared.stack.Stack.{Stack}
use Rattle.input_stack.specs.Stack.Items.{stack_of}
use Rattle.page.specs.declared.position.Page.{Page}
use Rattle.page.specs.Position.Landing.{page_of}
use Rattle.page.specs.declared.springs.Landed.{Landed}
use Rattle.page.specs.declared.springs.Way.{Way}
use Rattle.page.specs.declared.springs.Way.TheVariants.{On, Done, Refused}
use Rattle.page.specs.Springs.Held.{held_of}
use Rattle.page.specs.Springs.Calls.{close_by, state_on, MoveRefines}
use Rattle.composition.specs.PageRows.PageState.{PageState, state_at, PageRefines}
use Rattle.state.specs.Whole.{WholeState, state_in, StateRefines}
use Rattle.line_expansion.specs.declared.Dealt.{Dealt}
use Rattle.line_expansion.specs.declared.Dealt.TheVariants.{Closes, Keeps, Words, Control, Nothing}
use Rattle.line_expansion.specs.Dealing.{dealt_of, numbered, closes_in, keeps_in}
use Rattle.formatter.specs.StoredLines.Works.{StepRefines}

-- on, done, or refused by the number of one of the twelve
abbrev pub WayNumbered : Way → Type 0
WayNumbered On = Unit
WayNumbered Done = Unit
WayNumbered (Refused n) = NumberOf n

-- a way that closes a state as the rules do
by_state : (w : Way) (s : State) → StateNumbered (close_by w s) → WayNumbered w
by_state On s h = tt
by_state Done s h = tt
by_state (Refused n) s h = h

-- texts without bytes in rows of these names: they do for any law over all texts
none_long : (n k : ℕ) → total_length (take n (replicate k 0)) ≡ 0
unfolding total_length
none_long zero k = refl
none_long (suc n) zero = refl
none_long (suc n) (suc k) = omega (arith, none_long n k)

none_lies : (fs ss : List ℕ) (n : ℕ) → Names fs ss n → TextsInvariant [] fs ss (replicate 64 0) (replicate 64 0) n
none_lies fs ss n h = record { names = h; kinds_long = refl; lengths_long = refl; inside = omega (arith, none_long n 64) }

-- an open state, whose end was read
abbrev fresh_state : (stored : ℕ) → State
fresh_state n = let s = start ten_to_the_inch in with_input (input [] 0 true n []) s

-- A move down the page, or onto the next one.
pub move_way : (move : List Item → State → State) (page : Page) (rows : Rows) (planted : Planted) (h : Option What) (bytes : List ℕ) (s : Stack)
    (arena ends fs ss : List ℕ) (n : ℕ) (r : Landed) (arena' ends' : List ℕ) → Names fs ss n
    → ((held : List Item) (x : State) → StateNumbered x → StateNumbered (move held x))
    → MoveRefines move page rows planted h bytes s arena ends fs ss n r arena' ends' → WayNumbered r.way
move_way move page rows planted h bytes s arena ends fs ss n r arena' ends' e f m =
    let ts = texts_of [] fs ss (replicate 64 0) (replicate 64 0) n in
    let ps = planted_of planted in
    by_state r.way (state_on ts ps (down_of rows) (page_of r.page) (stack_of ts r.stack arena' ends') (fresh_state 0))
    (subst StateNumbered (sym (m.is [] (replicate 64 0) (replicate 64 0) (none_lies fs ss n e) (fresh_state 0)))
    (f (held_of ts h bytes) (state_on ts ps (down_of rows) (page_of page) (stack_of ts s arena ends) (fresh_state 0)) tt))

-- A piece of work on a page.
pub page_way : (rule : List Text → State → Next) (fs ss : List ℕ) (n : ℕ) (planted : Planted) (d : PageState) (w : Way) (written : ℕ)
    (d' : PageState) (row' : List ℕ) → Names fs ss n → ((ts : List Text) (x : State) → StateNumbered x → NextNumbered (rule ts x))
    → PageRefines rule fs ss n planted d w written d' row' → WayNumbered w
page_way rule fs ss n planted d w written d' row' e f m =
    let ts = texts_of [] fs ss (replicate 64 0) (replicate 64 0) n in
    let ps = planted_of planted in
    by_state w (state_at ts ps d' (fresh_state 0))
    (subst NextNumbered (sym (m.is [] (replicate 64 0) (replicate 64 0) (none_lies fs ss n e) (fresh_state 0))) (f ts (state_at ts ps d (fresh_state 0)) tt))

-- A piece of work on the whole state.
pub state_way : (rule : State → Next) (q : WholeState) (w : Way) (written : ℕ) (q' : WholeState) (row' : List ℕ)
    → ((x : State) → StateNumbered x → NextNumbered (rule x)) → StateRefines rule q w written q' row' → WayNumbered w
state_way rule q w written q' row' f m = by_state w (state_in q' (fresh_state 0)) (subst NextNumbered (sym (m.is (fresh_state 0))) (f (state_in q (fresh_state 0)) tt))

-- A step of a session.
pub step_way : (p : Printer) (q : WholeState) (stored : ℕ) (w : Way) (written : ℕ) (q' : WholeState) (stored' : ℕ) (row' : List ℕ)
    → StepRefines p q stored w written q' stored' row' → WayNumbered w
step_way p q stored w written q' stored' row' m =
    by_state w (state_in q' (with_stored stored' (fresh_state stored)))
    (subst NextNumbered (sym (m.is (fresh_state stored) refl refl (λ e. refl))) (step_numbered p (state_in q (fresh_state stored)) tt))

-- What is left to do with an expanded line, or its refusal.
module _ (p : Printer) where
  closes_numbered : (o : Option Definition) (x : State) → StateNumbered x → NextNumbered (closes_in p o x)
  closes_numbered None x h = h
  closes_numbered (Some d) x h = h

  keeps_numbered : (o : Option Definition) (l : List ℕ) (x : State) → StateNumbered x → NextNumbered (keeps_in p o l x)
  keeps_numbered None l x h = h
  keeps_numbered (Some d) l x h = keep_body_numbered p d l x h

  pub dealt_numbered : (d : Result Dealt Refusal) (out : List ℕ) (x : State) → StateNumbered x → NextNumbered (dealt_of p (numbered d) out x)
  dealt_numbered (Ok Closes) out x h = closes_numbered x.tables.opened x h
  dealt_numbered (Ok (Keeps n)) out x h = keeps_numbered x.tables.opened (take n out) x h
  dealt_numbered (Ok (Words n)) out x h = text_line_numbered (take n out) x h
  dealt_numbered (Ok (Control b k m n)) out x h = obey_numbered p (meaning_of k x) false b k (take n out) x h
  dealt_numbered (Ok Nothing) out x h = h
  dealt_numbered (Err e) out x h = number_of e
