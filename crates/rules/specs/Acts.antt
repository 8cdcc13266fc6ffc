-- What each request does once its line is expanded and its break is made (document 01, 'Numbers' and 'Lines and escapes').
use Rattle.std.specs.Prelude.{Bool, true, false, not, List, [], ◌∷◌, ℕ, leb, length, get_or, ℤ, pos, negsuc, ◌+ℤ◌, Option, None, Some}
use Rattle.rules.specs.Printers.{Printer}
use Rattle.rules.specs.declared.Name.{Name}
use Rattle.rules.specs.Bytes.{is_there}
use Rattle.rules.specs.Refusals.{Judged, value, bad, judge, ◌>>=◌}
use Rattle.rules.specs.Numbers.{cells, rows, units, signed, within}
use Rattle.rules.specs.Registers.{register_of, predefined, value_or0, step_or0, set_value}
use Rattle.rules.specs.Texts.{text_of, remove, define_string, open_macro}
use Rattle.rules.specs.Escapes.{escaped}
use Rattle.rules.specs.Names.{Named, one, too_long, name_of}
use Rattle.rules.specs.Arguments.{Part, first, arguments, string_text, condition}
use Rattle.rules.specs.Settings.{Layout, Setting, new_setting, go_back, changed, line_range, indent_range, offset_range, page_range}
use Rattle.rules.specs.LayoutSetters.{with_line, with_indent, with_offset, with_page_length, with_total, with_filling, with_adjusting, with_centred}
use Rattle.rules.specs.Traps.{plant, remove_trap}
use Rattle.rules.specs.declared.Breaking.{Breaking}
use Rattle.rules.specs.declared.Breaking.TheVariants.{Br, Sp, Bp, Sets}
use Rattle.rules.specs.declared.LineSetting.{LineSetting}
use Rattle.rules.specs.declared.LineSetting.TheVariants.{Fi, Nf, Ce, In, Ti}
use Rattle.rules.specs.declared.PageSetting.{PageSetting}
use Rattle.rules.specs.declared.PageSetting.TheVariants.{Pl, Po, Ll, Ad, Na}
use Rattle.rules.specs.declared.TableChange.{TableChange}
use Rattle.rules.specs.declared.TableChange.TheVariants.{Nr, De, Rm, Wh}
use Rattle.rules.specs.State.{State, again, on_stack}
use Rattle.rules.specs.StateSetters.{with_stack, with_layout, with_registers, with_texts, with_opened, with_traps}
use Rattle.rules.specs.Rows.{Next, goes, refuses, skip, eject}
use Rattle.rules.specs.Lines.{line_of, holds}

-- on with a value; a refusal closes
abbrev pub on_value : {A : Type 0} → Judged A → State → (A → Next) → Next
on_value (value a) s k = k a
on_value (bad n) s k = refuses n s

-- on with a new state, or a refusal
abbrev pub settles : Judged State → State → Next
settles j s = on_value j s goes

-- on with a new layout, or a refusal
abbrev pub laid_out : Judged Layout → State → Next
laid_out j s = on_value j s (λ y. goes (with_layout y s))

-- the n-th argument, from 0: "to a request an empty one is missing"
abbrev pub argument_at : ℕ → List ℕ → List ℕ
argument_at n l = get_or (arguments l) n []

-- a name argument: "a missing one means no action or refusal"; "7: .. longer than two bytes"
abbrev pub on_name : Named → State → (Name → Judged State) → Judged State
on_name Named.no_name s k = value s
on_name too_long s k = bad 7
on_name (one n) s k = k n

-- "9: a text on the input stack redefined or removed"
abbrev pub free : State → Name → Judged Name
free s n = judge (not (on_stack n s.input.stack)) 9 n

-- ds: "ds with a name only an empty string"; after an if the text is written back with escapes
abbrev pub written_back : (afterIf : Bool) → List ℕ → List ℕ
written_back true l = escaped l
written_back false l = l

-- ds with its name: "then 9, then 11 is tried"
abbrev pub define_text : State → List ℕ → Name → Judged State
define_text s l n = do
  m ← free s n
  ts ← define_string m l s.tables.texts
  value (with_texts ts s)

-- "ds with a name only an empty string"; with none it does nothing
abbrev pub define_from : Option Part → (afterIf : Bool) → State → Judged State
define_from None i s = value s
define_from (Some f) i s = on_name (name_of f.part) s (define_text s (written_back i (string_text f.rest)))

-- ds, by what follows its name
unfoldable pub defines : (afterIf : Bool) → List ℕ → State → Judged State
defines i l s = define_from (first l) i s

-- de: its old text is gone, and its lines come next
abbrev pub open_text : State → Name → Judged State
open_text s n = do
  m ← free s n
  ts ← open_macro m s.tables.texts
  value (with_opened (Some (record { name = m; body = [] })) (with_texts ts s))

-- "rm of a name with no user text does nothing"
abbrev pub remove_if : (there : Bool) → State → Name → Judged State
remove_if true s n = free s n >>= λ m. value (with_texts (remove m s.tables.texts) s)
remove_if false s n = value s

-- rm
abbrev pub remove_text : State → Name → Judged State
remove_text s n = remove_if (is_there (text_of n s.tables.texts)) s n

-- wh: "no name removes"; "11: .. 17th trap"
abbrev pub plant_at : ℤ → Named → State → Judged State
plant_at r Named.no_name s = value (with_traps (remove_trap r s.tables.traps) s)
plant_at r too_long s = bad 7
plant_at r (one n) s = let ts = plant r n s.tables.traps in judge (leb (length ts) 16) 11 (with_traps ts s)

-- if: "What follows its spaces, if anything, is dealt with as a line without second expansion"
abbrev pub follows : Bool → List ℕ → State → State
follows true [] s = s
follows true (b ∷ l) s = with_stack (again (line_of (b ∷ l)) ∷ s.input.stack) s
follows false l s = s

-- nr: "The sum with the old value is a result in the sense of 6 for nr only"
abbrev pub new_value : (signed : Bool) → (old change : ℤ) → Judged ℤ
new_value true old v = within (old +ℤ v)
new_value false old v = value v

-- ce: "n of 0 or less ends centring"
abbrev pub count_of : ℤ → ℕ
count_of (pos n) = n
count_of (negsuc n) = 0

module _ (p : Printer) where
  -- ll, in and po; missing, "the value before the last setting"
  abbrev pub setting : (range : ℤ → Judged ℕ) → Setting → List ℕ → Judged Setting
  setting range old [] = value (go_back old)
  setting range old (b ∷ l) = do
    v ← cells p.pitch (b ∷ l)
    n ← range (changed (signed (b ∷ l)) old.now v)
    value (new_setting n old)

  -- pl; missing, 66 rows
  abbrev pub page_length : (used old : ℕ) → List ℕ → Judged ℕ
  page_length used old [] = page_range used (pos p.page)
  page_length used old (b ∷ l) = do
    v ← rows p.pitch (b ∷ l)
    page_range used (changed (signed (b ∷ l)) old v)

  -- "for ti the old value is the indent at that moment, an unsigned ti is the total itself"
  abbrev pub indent_total : List ℕ → Layout → Judged Layout
  indent_total [] y = value y
  indent_total (b ∷ l) y = do
    v ← cells p.pitch (b ∷ l)
    n ← indent_range (changed (signed (b ∷ l)) y.indent.now v)
    value (with_total (Some n) y)

  -- sp: "sp 1" where missing
  abbrev pub spacing : List ℕ → Judged ℤ
  spacing [] = value (pos 1)
  spacing (b ∷ l) = rows p.pitch (b ∷ l)

  -- "ce 1" where missing
  abbrev pub centring : List ℕ → Judged ℕ
  centring [] = value 1
  centring (b ∷ l) = units p.pitch (b ∷ l) >>= λ v. value (count_of v)

  -- fi, nf, ce, in and ti, by their argument
  abbrev pub set_line : LineSetting → List ℕ → Layout → Judged Layout
  set_line Fi l y = value (with_filling true y)
  set_line Nf l y = value (with_filling false y)
  set_line Ce l y = centring l >>= λ n. value (with_centred n y)
  set_line In l y = setting indent_range y.indent l >>= λ v. value (with_indent v y)
  set_line Ti l y = indent_total l y

  -- A request that breaks, after its break.
  unfoldable pub act : Breaking → List ℕ → State → Next
  act Br l s = goes s
  act Sp l s = on_value (spacing (argument_at 0 l)) s (λ n. skip n s)
  act Bp l s = eject s.page.number s
  act (Sets r) l s = laid_out (set_line r (argument_at 0 l) s.layout) s

  -- pl, po, ll, ad and na, by their argument; pl looks at the rows used on the page
  abbrev pub set_page : PageSetting → (used : ℕ) → List ℕ → Layout → Judged Layout
  set_page Pl u l y = page_length u y.page l >>= λ n. value (with_page_length n y)
  set_page Po u l y = setting offset_range y.offset l >>= λ v. value (with_offset v y)
  set_page Ll u l y = setting line_range y.line l >>= λ v. value (with_line v y)
  set_page Ad u l y = value (with_adjusting true y)
  set_page Na u l y = value (with_adjusting false y)

  -- A request that sets the layout and does not break.
  abbrev pub lay : PageSetting → List ℕ → State → Next
  lay r l s = laid_out (set_page r s.page.used (argument_at 0 l) s.layout) s

  -- "nr without a step the old step (0 at first)"
  abbrev pub new_step : List ℕ → ℤ → Judged ℤ
  new_step [] old = value old
  new_step (b ∷ l) old = units p.pitch (b ∷ l)

  -- "7: .. a predefined register written"
  abbrev pub write_if : (predefined : Bool) → (new step : List ℕ) → State → Name → Judged State
  write_if true v l s n = bad 7
  write_if false v l s n = do
    x ← units p.pitch v
    y ← new_value (signed v) (value_or0 (register_of n s.tables.registers)) x
    z ← new_step l (step_or0 (register_of n s.tables.registers))
    rs ← set_value n y z s.tables.registers
    value (with_registers rs s)

  -- nr: without a value it does nothing
  abbrev pub write_register : (new step : List ℕ) → State → Name → Judged State
  write_register [] l s n = value s
  write_register (b ∷ v) l s n = write_if (predefined n) (b ∷ v) l s n

  -- wh: without a row it does nothing
  abbrev pub plant_trap : (row name : List ℕ) → State → Judged State
  plant_trap [] n s = value s
  plant_trap (b ∷ r) n s = rows p.pitch (b ∷ r) >>= λ v. plant_at v (name_of n) s

  -- `.if` alone does nothing
  abbrev pub if_line : (condition rest : List ℕ) → State → Judged State
  if_line [] l s = value s
  if_line (b ∷ c) l s = holds p s.page.number (b ∷ c) >>= λ v. value (follows v l s)

  -- A request that changes a table.
  unfoldable pub change : TableChange → List ℕ → State → Judged State
  change Nr l s = on_name (name_of (argument_at 0 l)) s (write_register (argument_at 1 l) (argument_at 2 l) s)
  change De l s = on_name (name_of (argument_at 0 l)) s (open_text s)
  change Rm l s = on_name (name_of (argument_at 0 l)) s (remove_text s)
  change Wh l s = plant_trap (argument_at 0 l) (argument_at 1 l) s

  -- if, by what follows its name
  unfoldable pub decide : List ℕ → State → Judged State
  decide l s = let c = condition l in if_line c.part c.rest s
