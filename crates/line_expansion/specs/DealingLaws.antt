-- Each way in which a line is dealt with, in the rules' terms. Assumes nothing.
use Rattle.std.specs.Prelude.{◌≡◌, refl, Bool, true, List, ℕ, length, take, Option, None, Some, Result, Ok, Err}
use Rattle.std.proofs.Math.Path.{sym, ap}
use Rattle.std.proofs.Common.{◌∙◌, subst, arith}
use Rattle.std.proofs.Math.Bool.{false}
use Rattle.rules.specs.declared.Name.{Name}
use Rattle.rules.specs.declared.Mode.{Mode}
use Rattle.rules.specs.declared.Mode.TheVariants.{Plain, Copy}
use Rattle.rules.specs.Bytes.{is_there}
use Rattle.rules.specs.Printers.{Printer}
use Rattle.rules.specs.Settings.{Layout}
use Rattle.rules.specs.Traps.{Page}
use Rattle.rules.specs.Texts.{Text, text_of}
use Rattle.rules.specs.Escapes as rules
use Rattle.rules.specs.State.{State, Definition, Line, plain_text, control, ignored}
use Rattle.rules.specs.TextLines.{text_line}
use Rattle.rules.specs.Requests.{mode_of}
use Rattle.rules.specs.Lines.{line_of, is_closing}
use Rattle.rules.specs.ControlLines.{Meaning, calls, means_request, nothing, text_meaning, prefix_of, obey, on_scan, keep_body, body_line, control_line, fresh_line, deal}
use Rattle.rules.specs.ControlLines as control-lines
use Rattle.registers.specs.declared.columns.RegisterValues.{RegisterValues}
use Rattle.registers.specs.Table.Lent.{registers_with, OnlyValues, only_none}
use Rattle.line_syntax.specs.declared.lines.Meaning as lines
use Rattle.line_syntax.specs.declared.lines.Meaning.TheVariants as meaning
use Rattle.line_syntax.specs.Lines.Meanings.{MeaningIs, CallsText, called_means}
use Rattle.rules.specs.declared.Kind.{Kind}
use Rattle.rules.specs.declared.Request.{Request}
use Rattle.rules.specs.declared.Refusal.{Refusal}
use Rattle.scan.specs.Expansion.Expansion.{ScannedTo}
use Rattle.line_expansion.specs.declared.Dealt.{Dealt}
use Rattle.line_expansion.specs.declared.Dealt.TheVariants.{Closes, Keeps, Words, Control, Nothing}
use Rattle.state.specs.Whole.{surroundings}
use Rattle.line_expansion.specs.Dealing.{scene, expansion_of, numbered, dealt_of, DealtInvariant, DealRefines}

-- what an expansion leads to: a body line, a text line, a control line, or a refusal
abbrev pub kept_as : Result ℕ Refusal → Result Dealt Refusal
kept_as (Ok n) = Ok (Keeps n)
kept_as (Err e) = Err e

abbrev pub words_as : Result ℕ Refusal → Result Dealt Refusal
words_as (Ok n) = Ok (Words n)
words_as (Err e) = Err e

abbrev pub control_as : Result ℕ Refusal → (period : Bool) → Name → lines.Meaning → Result Dealt Refusal
control_as (Ok n) q k m = Ok (Control q k m n)
control_as (Err e) q k m = Err e

module _ (p : Printer) (y : Layout) (g : Page) (ts : List Text) (args : List (List ℕ)) (line : List ℕ) (rg : RegisterValues) where
  abbrev before : Option Definition → State → State
  before o x = scene y g ts (registers_with rg) o x

  abbrev after : (rg' : RegisterValues) → Option Definition → State → State
  after rg' o x = scene y g ts (registers_with rg') o x

  -- an expansion of a part of the line
  abbrev Expanded : Result ℕ Refusal → Mode → (prefix : ℕ) → List ℕ → (out out' : List ℕ) → RegisterValues → Type 0
  Expanded r m k l out out' rg' = ScannedTo r (surroundings p y g ts args) m k l rg rg' out out'

  -- the same expansion, with its mode, prefix and line known
  pub expanded_as : (r : Result ℕ Refusal) (m m' : Mode) (j j' : ℕ) (l l' out out' : List ℕ) (rg' : RegisterValues) → m ≡ m' → j ≡ j' → l ≡ l' → Expanded r m j l out out' rg' → Expanded r m' j' l' out out' rg'
  expanded_as r m m' j j' l l' out out' rg' a b c h =
      subst (λ (v : List ℕ). Expanded r m' j' v out out' rg') c (subst (λ (v : ℕ). Expanded r m' v l out out' rg') b (subst (λ (v : Mode). Expanded r v j l out out' rg') a h))

  -- a line of text
  words_is : (r : Result ℕ Refusal) (out out' : List ℕ) (rg' : RegisterValues) → Expanded r Plain 0 line out out' rg' → line_of line ≡ plain_text line → (x : State)
      → dealt_of p (numbered (words_as r)) out' (after rg' None x) ≡ deal p args line (before None x)
  unfolding deal
  words_is (Ok n) out out' rg' a e x =
      ap (λ (v : rules.Scanned). on_scan v (before None x) text_line) a.is ∙ sym (ap (λ (l : Line). fresh_line p l args (before None x)) e)
  words_is (Err i) out out' rg' a e x =
      ap (λ (v : rules.Scanned). on_scan v (before None x) text_line) a.is ∙ sym (ap (λ (l : Line). fresh_line p l args (before None x)) e)

  -- a body line that is kept
  keeps_is : (r : Result ℕ Refusal) (out out' : List ℕ) (rg' : RegisterValues) → Expanded r Copy 0 line out out' rg' → is_closing line ≡ false → (d : Definition) (x : State)
      → dealt_of p (numbered (kept_as r)) out' (after rg' (Some d) x) ≡ deal p args line (before (Some d) x)
  unfolding deal
  keeps_is (Ok n) out out' rg' a e d x =
      ap (λ (v : rules.Scanned). on_scan v (before (Some d) x) (keep_body p d)) a.is ∙ sym (ap (λ (b : Bool). body_line p b d args line (before (Some d) x)) e)
  keeps_is (Err i) out out' rg' a e d x =
      ap (λ (v : rules.Scanned). on_scan v (before (Some d) x) (keep_body p d)) a.is ∙ sym (ap (λ (b : Bool). body_line p b d args line (before (Some d) x)) e)

  -- a control line whose name means something
  control_is : (q : Bool) (k : Name) (rest : List ℕ) (w : Meaning) (m : Mode) (u : lines.Meaning) (r : Result ℕ Refusal) (out out' : List ℕ) (rg' : RegisterValues) → Expanded r m (prefix_of k) rest out out' rg'
      → line_of line ≡ control q k rest → text_meaning (text_of k ts) k ≡ w
      → ((s : State) → control_line p w args q k rest s ≡ on_scan (control-lines.expand p args m (prefix_of k) rest s) s (obey p w false q k)) → (x : State)
      → dealt_of p (numbered (control_as r q k u)) out' (after rg' None x) ≡ deal p args line (before None x)
  unfolding deal
  control_is q k rest w m u (Ok n) out out' rg' a e f h x =
      ap (λ (v : Meaning). obey p v false q k (take n out') (after rg' None x)) f
      ∙ ap (λ (v : rules.Scanned). on_scan v (before None x) (obey p w false q k)) a.is
      ∙ sym (h (before None x)) ∙ sym (ap (λ (v : Meaning). control_line p v args q k rest (before None x)) f) ∙ sym (ap (λ (l : Line). fresh_line p l args (before None x)) e)
  control_is q k rest w m u (Err i) out out' rg' a e f h x =
      ap (λ (v : rules.Scanned). on_scan v (before None x) (obey p w false q k)) a.is
      ∙ sym (h (before None x)) ∙ sym (ap (λ (v : Meaning). control_line p v args q k rest (before None x)) f) ∙ sym (ap (λ (l : Line). fresh_line p l args (before None x)) e)

  -- what an expansion is within
  words_sound : (r : Result ℕ Refusal) (m : Mode) (k : ℕ) (l out out' : List ℕ) (rg' : RegisterValues) → Expanded r m k l out out' rg' → DealtInvariant false ts (numbered (words_as r))
  words_sound (Ok n) m k l out out' rg' a = a.kept.0
  words_sound (Err i) m k l out out' rg' a = tt

  keeps_sound : (r : Result ℕ Refusal) (m : Mode) (k : ℕ) (l out out' : List ℕ) (rg' : RegisterValues) → Expanded r m k l out out' rg' → DealtInvariant true ts (numbered (kept_as r))
  keeps_sound (Ok n) m k l out out' rg' a = a.kept.0
  keeps_sound (Err i) m k l out out' rg' a = tt

  control_sound : (r : Result ℕ Refusal) (m : Mode) (j : ℕ) (l out out' : List ℕ) (rg' : RegisterValues) (q : Bool) (k : Name) (u : lines.Meaning) → Expanded r m j l out out' rg' → MeaningIs ts k (Some u) → DealtInvariant false ts (numbered (control_as r q k u))
  control_sound (Ok n) m j l out out' rg' q k u a h = (a.kept.0, h)
  control_sound (Err i) m j l out out' rg' q k u a h = tt

  abbrev Deals : Result Dealt Refusal → Bool → (out' : List ℕ) → RegisterValues → Type 0
  Deals r b out' rg' = DealRefines r p y g ts b args line rg rg' out'

  -- a line where no definition is open
  closed_dealt : (r : Result Dealt Refusal) (out' : List ℕ) (rg' : RegisterValues) → OnlyValues rg rg' → length out' ≡ 512 → DealtInvariant false ts (numbered r)
      → ((x : State) → dealt_of p (numbered r) out' (after rg' None x) ≡ deal p args line (before None x)) → Deals r false out' rg'
  closed_dealt r out' rg' t l s h = record { is = go; rest = t; long = l; sound = s }
    where
      go : (o : Option Definition) → is_there o ≡ false → (x : State) → dealt_of p (numbered r) out' (after rg' o x) ≡ deal p args line (before o x)
      go None e x = h x
      go (Some d) e x = let z : ◌≡◌ {A = ℕ} 0 1 = cc in absurd (omega arith)

  -- and where one is
  open_dealt : (r : Result Dealt Refusal) (out' : List ℕ) (rg' : RegisterValues) → OnlyValues rg rg' → length out' ≡ 512 → DealtInvariant true ts (numbered r)
      → ((d : Definition) (x : State) → dealt_of p (numbered r) out' (after rg' (Some d) x) ≡ deal p args line (before (Some d) x)) → Deals r true out' rg'
  open_dealt r out' rg' t l s h = record { is = go; rest = t; long = l; sound = s }
    where
      go : (o : Option Definition) → is_there o ≡ true → (x : State) → dealt_of p (numbered r) out' (after rg' o x) ≡ deal p args line (before o x)
      go None e x = let z : ◌≡◌ {A = ℕ} 0 1 = cc in absurd (omega arith)
      go (Some d) e x = h d x

  pub words_dealt : (r : Result ℕ Refusal) (out out' : List ℕ) (rg' : RegisterValues) → Expanded r Plain 0 line out out' rg' → line_of line ≡ plain_text line → Deals (words_as r) false out' rg'
  words_dealt r out out' rg' a e = closed_dealt (words_as r) out' rg' a.rest a.long (words_sound r Plain 0 line out out' rg' a) (words_is r out out' rg' a e)

  pub keeps_dealt : (r : Result ℕ Refusal) (out out' : List ℕ) (rg' : RegisterValues) → Expanded r Copy 0 line out out' rg' → is_closing line ≡ false → Deals (kept_as r) true out' rg'
  keeps_dealt r out out' rg' a e = open_dealt (kept_as r) out' rg' a.rest a.long (keeps_sound r Copy 0 line out out' rg' a) (keeps_is r out out' rg' a e)

  call_dealt : (q : Bool) (k : Name) (rest : List ℕ) (h : Kind) (c : CallsText ts k h) (r : Result ℕ Refusal) (out out' : List ℕ) (rg' : RegisterValues) → Expanded r Plain (prefix_of k) rest out out' rg'
      → line_of line ≡ control q k rest → Deals (control_as r q k (meaning.Calls h)) false out' rg'
  call_dealt q k rest h c r out out' rg' a e =
      closed_dealt (control_as r q k (meaning.Calls h)) out' rg' a.rest a.long (control_sound r Plain (prefix_of k) rest out out' rg' q k (meaning.Calls h) a c)
      (control_is q k rest (calls c.text) Plain (meaning.Calls h) r out out' rg' a e (called_means c) (λ s. refl))

  request_dealt : (q : Bool) (k : Name) (rest : List ℕ) (i : Request) → text_meaning (text_of k ts) k ≡ means_request i → (r : Result ℕ Refusal) (out out' : List ℕ) (rg' : RegisterValues)
      → Expanded r (mode_of i) (prefix_of k) rest out out' rg' → line_of line ≡ control q k rest → Deals (control_as r q k (meaning.Requests i)) false out' rg'
  request_dealt q k rest i f r out out' rg' a e =
      closed_dealt (control_as r q k (meaning.Requests i)) out' rg' a.rest a.long (control_sound r (mode_of i) (prefix_of k) rest out out' rg' q k (meaning.Requests i) a f)
      (control_is q k rest (means_request i) (mode_of i) (meaning.Requests i) r out out' rg' a e f (λ s. refl))

  -- a control line whose name means something, in either mode
  pub control_dealt : (q : Bool) (k : Name) (rest : List ℕ) (u : lines.Meaning) → MeaningIs ts k (Some u) → (r : Result ℕ Refusal) (out out' : List ℕ) (rg' : RegisterValues)
      → Expanded r (expansion_of u) (prefix_of k) rest out out' rg' → line_of line ≡ control q k rest → Deals (control_as r q k u) false out' rg'
  control_dealt q k rest (meaning.Calls h) c r out out' rg' a e = call_dealt q k rest h c r out out' rg' a e
  control_dealt q k rest (meaning.Requests i) c r out out' rg' a e = request_dealt q k rest i c r out out' rg' a e

  module _ (out : List ℕ) (l : length out ≡ 512) where
    -- lines that are ignored unexpanded
    pub ignored_dealt : line_of line ≡ ignored → Deals (Ok Nothing) false out rg
    unfolding deal
    ignored_dealt e = closed_dealt (Ok Nothing) out rg only_none l tt (λ x. sym (ap (λ (v : Line). fresh_line p v args (before None x)) e))

    -- "lines with names .. unknown .. are ignored unexpanded"
    pub unknown_dealt : (q : Bool) (k : Name) (rest : List ℕ) → MeaningIs ts k None → line_of line ≡ control q k rest → Deals (Ok Nothing) false out rg
    unfolding deal
    unknown_dealt q k rest f e =
        closed_dealt (Ok Nothing) out rg only_none l tt (λ x. sym (ap (λ (v : Meaning). control_line p v args q k rest (before None x)) f) ∙ sym (ap (λ (v : Line). fresh_line p v args (before None x)) e))

    -- a definition is closed
    pub closes_dealt : is_closing line ≡ true → Deals (Ok Closes) true out rg
    unfolding deal
    closes_dealt e = open_dealt (Ok Closes) out rg only_none l tt (λ d x. sym (ap (λ (b : Bool). body_line p b d args line (before (Some d) x)) e))
