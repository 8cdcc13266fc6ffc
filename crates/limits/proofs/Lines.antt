-- Lines keep to the limits, whether they are dealt with as they were taken or as they were expanded. Assumes nothing.
use Rattle.std.specs.Prelude.{◌≡◌, Bool, false, ◌&&◌, List, [], ℕ, eqb, Option, None, Some}
use Rattle.std.proofs.Math.Path.{refl}
use Rattle.std.proofs.Common.{subst}
use Rattle.std.proofs.Math.Bool.{true}
use Rattle.rules.specs.declared.Name.{Name}
use Rattle.rules.specs.declared.Mode.{Mode}
use Rattle.rules.specs.declared.Mode.TheVariants.{Plain, Copy}
use Rattle.rules.specs.declared.Register.{Register}
use Rattle.rules.specs.declared.Breaking.{Breaking}
use Rattle.rules.specs.declared.Request.TheVariants.{Breaks, Lays, Changes, Ds, If}
use Rattle.rules.specs.Printers.{Printer}
use Rattle.rules.specs.Laws.Registers.{BoundedTable}
use Rattle.rules.specs.Texts.{Text, keep_line_in, keep_line, close_macro}
use Rattle.rules.specs.Laws.Texts.{distinct_close}
use Rattle.rules.specs.Escapes.{Surroundings, Scanned, scanned, scan_refused}
use Rattle.rules.specs.Laws.Escapes.{registers_after}
use Rattle.rules.specs.Arguments.{arguments}
use Rattle.rules.specs.Filling.{Collected}
use Rattle.rules.specs.Requests.{traits, starts_page, mode_of}
use Rattle.rules.specs.Lines.{line_of, is_closing}
use Rattle.rules.specs.State.{State, Line, plain_text, control, ignored, again, acts, Definition, seen}
use Rattle.rules.specs.StateSetters.{with_registers, with_opened}
use Rattle.rules.specs.Rows.{Next, goes}
use Rattle.rules.specs.TextLines.{text_line}
use Rattle.rules.specs.ControlLines.{Meaning, calls, means_request, nothing, meaning_of, held_after, held_first, prefix_of, on_scan, break_or_act, start_or_break, obey, deal_again, expand, control_line, fresh_line, keep_body, body_line, deal_from, deal}
use Rattle.limits.specs.Within.{Gone, OverText, Within, Keeps}
use Rattle.limits.proofs.Parts.{is_11, next_over, over_next, registers_kept, opened_kept, refuse_kept}
use Rattle.limits.proofs.Numbered.{Numbered, judge_numbered}
use Rattle.limits.proofs.Fair.{fair_any, given_kept, settles_kept}
use Rattle.limits.proofs.Expansion.{NumberedScan, scan_numbered, expansion_bounded}
use Rattle.limits.proofs.Rows.{LineReady, hold_none, hold_if, call_kept, start_page_kept, break_kept}
use Rattle.limits.proofs.TextLines.{text_kept}
use Rattle.limits.proofs.Texts.{defines_kept}
use Rattle.limits.proofs.Requests.{change_kept, decide_kept, lay_kept, act_kept}

-- on with an expanded line, or its refusal
scan_kept : (x : Scanned) (s : State) (k : List ℕ → State → Next) → Within s → NumberedScan x → BoundedTable (registers_after x)
    → ((l : List ℕ) (rs : List Register) → BoundedTable rs → Keeps (k l (with_registers rs s))) → Keeps (on_scan x s k)
scan_kept (scanned l rs) s k h r b f = f l rs b
scan_kept (scan_refused n rs) s k h r b f = refuse_kept (with_registers rs s) n r (registers_kept s h rs b)

pub keep_numbered : (ts : List Text) (body l : List ℕ) → Numbered (keep_line ts body l)
unfolding keep_line_in
keep_numbered ts body l = search (judge_numbered, is_11)

module _ (p : Printer) where
  break_or_act_kept : (q : Bool) (c : Option Collected) (r : Breaking) (l : List ℕ) (s : State) → LineReady s → Keeps (break_or_act p q c r l s)
  break_or_act_kept true (Some c) r l s h = break_kept c (held_after r l) s (hold_if (traits r).acts (acts r l) s tt h)
  break_or_act_kept true None r l s h = act_kept p r l s h
  break_or_act_kept false c r l s h = act_kept p r l s h

  start_or_break_kept : (t q : Bool) (r : Breaking) (n : Name) (l : List ℕ) (s : State) → LineReady s → Keeps (start_or_break p t q r n l s)
  start_or_break_kept true q r n l s h = start_page_kept (held_first r (control q n l)) s (hold_if (traits r).again (again (control q n l)) s tt h)
  start_or_break_kept false q r n l s h = break_or_act_kept q s.collected r l s h

  obey_kept : (x : Meaning) (i q : Bool) (n : Name) (l : List ℕ) (s : State) → LineReady s → Keeps (obey p x i q n l s)
  obey_kept nothing i q n l s h = h.0
  obey_kept (calls t) i q n l s h = call_kept t (arguments l) [] s (hold_none s h.0)
  obey_kept (means_request (Breaks r)) i q n l s h = start_or_break_kept (eqb s.page.number 0 && starts_page q r) q r n l s h
  obey_kept (means_request (Lays r)) i q n l s h = lay_kept p r l s h.0
  obey_kept (means_request (Changes r)) i q n l s h = settles_kept s h.0 (change_kept p r l s h)
  obey_kept (means_request Ds) i q n l s h = settles_kept s h.0 (defines_kept s h i l)
  obey_kept (means_request If) i q n l s h = settles_kept s h.0 (decide_kept p l s h)

  -- a line that is expanded
  pub again_kept : (x : Line) (s : State) → LineReady s → Keeps (deal_again p x s)
  unfolding deal_again
  again_kept ignored s h = h.0
  again_kept (plain_text l) s h = text_kept l s h
  again_kept (control q n l) s h = obey_kept (meaning_of n s) true q n l s h

  -- its expansion: whatever is in force, registers stay within their bounds
  expand_kept : (args : List (List ℕ)) (m : Mode) (j : ℕ) (l : List ℕ) (s : State) (k : List ℕ → State → Next) → Within s
      → ((e : List ℕ) (rs : List Register) → BoundedTable rs → Keeps (k e (with_registers rs s))) → Keeps (on_scan (expand p args m j l s) s k)
  expand_kept args m j l s k h f =
      let w : Surroundings = record { seen = seen p s; texts = s.tables.texts; arguments = args } in
      scan_kept (expand p args m j l s) s k h (scan_numbered w m s.tables.registers j l) (expansion_bounded w m s.tables.registers j l h.registers) f

  control_kept : (x : Meaning) (args : List (List ℕ)) (q : Bool) (n : Name) (l : List ℕ) (s : State) → LineReady s → Keeps (control_line p x args q n l s)
  control_kept nothing args q n l s h = h.0
  control_kept (calls t) args q n l s h =
      expand_kept args Plain (prefix_of n) l s (obey p (calls t) false q n) h.0
      (λ e rs b. obey_kept (calls t) false q n e (with_registers rs s) (registers_kept s h.0 rs b, h.1, h.2))
  control_kept (means_request r) args q n l s h =
      expand_kept args (mode_of r) (prefix_of n) l s (obey p (means_request r) false q n) h.0
      (λ e rs b. obey_kept (means_request r) false q n e (with_registers rs s) (registers_kept s h.0 rs b, h.1, h.2))

  fresh_kept : (x : Line) (args : List (List ℕ)) (s : State) → LineReady s → Keeps (fresh_line p x args s)
  fresh_kept ignored args s h = h.0
  fresh_kept (plain_text l) args s h =
      expand_kept args Plain 0 l s text_line h.0 (λ e rs b. text_kept e (with_registers rs s) (registers_kept s h.0 rs b, h.1, h.2))
  fresh_kept (control q n l) args s h = control_kept (meaning_of n s) args q n l s h

  -- a body line of an open definition
  body_kept : (d : Definition) (l : List ℕ) (s : State) → Within s → OverText s.input.stack → s.tables.opened ≡ Some d → Keeps (keep_body p d l s)
  body_kept d l s h y e =
      given_kept s (λ body. goes (with_opened (Some (record { name = d.name; body = body })) s)) h
      (fair_any (keep_line s.tables.texts d.body l) (keep_numbered s.tables.texts d.body l))
      (λ body u.
      let o : Option Definition = Some (record { name = d.name; body = body }) in
      opened_kept s h o s.tables.texts h.texts (subst (λ x. Gone x s.tables.texts) e h.gone)
      (next_over o s.closing s.input.stack (over_next s.input.stack y)))

  closing_kept : (t : Bool) (d : Definition) (args : List (List ℕ)) (l : List ℕ) (s : State) → Within s → OverText s.input.stack → s.tables.opened ≡ Some d
      → Keeps (body_line p t d args l s)
  closing_kept true d args l s h y e =
      let ts = s.tables.texts in
      opened_kept s h None (close_macro d.name d.body ts) (distinct_close d.name d.body ts h.texts (subst (λ x. Gone x ts) e h.gone)) tt tt
  closing_kept false d args l s h y e =
      expand_kept args Copy 0 l s (keep_body p d) h (λ x rs b. body_kept d x (with_registers rs s) (registers_kept s h rs b) y e)

  from_kept : (o : Option Definition) (args : List (List ℕ)) (l : List ℕ) (s : State) → Within s → OverText s.input.stack → s.tables.opened ≡ o
      → Keeps (deal_from p o args l s)
  from_kept (Some d) args l s h y e = closing_kept (is_closing l) d args l s h y e
  from_kept None args l s h y e = fresh_kept (line_of l) args s (h, y, e)

  -- a line as it was taken
  pub deal_kept : (args : List (List ℕ)) (l : List ℕ) (s : State) → Within s → OverText s.input.stack → Keeps (deal p args l s)
  unfolding deal
  deal_kept args l s h y = from_kept s.tables.opened args l s h y refl
