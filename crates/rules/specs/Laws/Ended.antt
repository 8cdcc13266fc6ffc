-- "once the end is read, no byte is taken": a state whose end was read never asks for one. Assumes nothing.
use Rattle.std.specs.Prelude.{◌≡◌, Bool, false, ◌&&◌, List, [], ◌∷◌, ℕ, zero, suc, eqb, ltb, ℤ, pos, negsuc, Option, None, Some}
use Rattle.std.proofs.Common.{sym, subst}
use Rattle.std.proofs.Math.Bool.{true}
use Rattle.stream.specs.Answers.{Closing}
use Rattle.stream.specs.Machine.{works, asks, closed}
use Rattle.rules.specs.Printers.{Printer}
use Rattle.rules.specs.declared.Name.{Name}
use Rattle.rules.specs.declared.Breaking.{Breaking}
use Rattle.rules.specs.declared.Breaking.TheVariants.{Br, Sp, Bp, Sets}
use Rattle.rules.specs.declared.Request.TheVariants.{Breaks, Lays, Changes, Ds, If}
use Rattle.rules.specs.declared.Mode.TheVariants.{Plain, Copy}
use Rattle.rules.specs.Refusals.{Judged, value, bad}
use Rattle.rules.specs.Requests.{starts_page, mode_of}
use Rattle.rules.specs.State.{State, Line, plain_text, control, ignored, Item, reading, fresh, again, others, acts, ejects, Definition}
use Rattle.rules.specs.StateSetters.{with_stack, with_stored, with_layout}
use Rattle.rules.specs.Settings.{Layout}
use Rattle.rules.specs.Texts.{keep_line}
use Rattle.rules.specs.Escapes.{Scanned, scanned, scan_refused}
use Rattle.rules.specs.Lines.{line_of, is_closing}
use Rattle.rules.specs.Filling.{Word, Collected, Placed, all_placed, full, begin, begun, place, words, standing, after, gap_after}
use Rattle.rules.specs.Rows.{Next, break, skip, eject_if, eject, eject_last, end_from, begin_end, last_page}
use Rattle.rules.specs.TextLines.{TextLineCase, starts, emptyLine, stands, fills, breaks, text_line_case, as_it_stands, filled, fill_from, fill, blank_from, gap_here, text_way, text_line}
use Rattle.rules.specs.Acts.{on_value, settles, laid_out, argument_at, spacing, set_line, act, set_page, change, defines, decide}
use Rattle.rules.specs.ControlLines.{Meaning, calls, means_request, nothing, meaning_of, prefix_of, on_scan, break_or_act, start_or_break, obey, deal_again, expand, control_line, fresh_line, keep_body, body_line, deal_from, deal}
use Rattle.rules.specs.Session.{leave, read_line, work, work_end, idle, step_from, step}

-- what a state does next is no question
abbrev pub NeverAsks : Next → Type 0
NeverAsks (works w s) = Unit
NeverAsks (asks t e) = ⊥
NeverAsks (closed a) = Unit

given_on : {A : Type 0} (j : Judged A) (s : State) (k : A → Next) → ((a : A) → NeverAsks (k a)) → NeverAsks (on_value j s k)
given_on (value a) s k f = f a
given_on (bad n) s k f = tt

-- rows
skip_on : (n : ℤ) (s : State) → NeverAsks (skip n s)
unfolding skip
skip_on (pos zero) s = tt
skip_on (pos (suc n)) s = tt
skip_on (negsuc n) s = tt

break_on : (c : Collected) (held : List Item) (s : State) → NeverAsks (break c held s)
unfolding break
break_on c held s = tt

eject_on : (n : ℕ) (s : State) → NeverAsks (eject n s)
unfolding eject
eject_on n s = go (eqb n s.page.number)
  where
    go : (t : Bool) → NeverAsks (eject_if t n s)
    go true = tt
    go false = tt

last_on : (s : State) → NeverAsks (eject_last s)
unfolding eject_last
last_on s = tt

end_on : (t : Bool) (s : State) → NeverAsks (work_end t s)
unfolding begin_end
end_on true s = last_on s
end_on false s = go s.collected s.page.used
  where
    go : (c : Option Collected) (r : ℕ) → NeverAsks (end_from c r (last_page s))
    go (Some c) r = break_on c [] (last_page s)
    go None zero = tt
    go None (suc r) = last_on (last_page s)

-- text lines
filled_on : (x : Placed) (g : ℕ) (s : State) → NeverAsks (filled x g s)
filled_on (all_placed c) g s = tt
filled_on (full c w ws) g s = tt

fill_on : (ws : List Word) (g : ℕ) (s : State) → NeverAsks (fill ws g s)
unfolding fill
fill_on [] g s = tt
fill_on (w ∷ ws) g s = go s.collected
  where
    go : (o : Option Collected) → NeverAsks (fill_from o w ws g s)
    go None = filled_on (place (begin s.layout w) ws) g (with_layout (begun s.layout) s)
    go (Some c) = filled_on (place c (w ∷ ws)) g s

blank_on : (o : Option Collected) (s : State) → NeverAsks (blank_from o s)
blank_on None s = skip_on (pos 1) s
blank_on (Some c) s = break_on c _ s

text_on : (l : List ℕ) (s : State) → NeverAsks (text_line l s)
unfolding text_line
text_on l s = go (text_line_case s.page.number (words l) s.collected (as_it_stands s.layout))
  where
    go : (x : TextLineCase) → NeverAsks (text_way x (words l) l s)
    go starts = tt
    go emptyLine = blank_on s.collected s
    go (breaks c) = break_on c _ s
    go stands = tt
    go fills = fill_on (after (gap_here s.collected) (standing (words l))) (gap_after (words l)) s

-- control lines, lines and items
module _ (p : Printer) where
  laid_on : (j : Judged Layout) (s : State) → NeverAsks (laid_out j s)
  laid_on j s = given_on j s _ (λ y. tt)

  act_on : (r : Breaking) (l : List ℕ) (s : State) → NeverAsks (act p r l s)
  unfolding act
  act_on Br l s = tt
  act_on Sp l s = given_on (spacing p (argument_at 0 l)) s _ (λ n. skip_on n s)
  act_on Bp l s = eject_on s.page.number s
  act_on (Sets r) l s = laid_on (set_line p r (argument_at 0 l) s.layout) s

  settles_on : (j : Judged State) (s : State) → NeverAsks (settles j s)
  settles_on j s = given_on j s _ (λ v. tt)

  break_or_act_on : (q : Bool) (c : Option Collected) (r : Breaking) (l : List ℕ) (s : State) → NeverAsks (break_or_act p q c r l s)
  break_or_act_on true (Some c) r l s = break_on c _ s
  break_or_act_on true None r l s = act_on r l s
  break_or_act_on false c r l s = act_on r l s

  start_on : (t q : Bool) (r : Breaking) (n : Name) (l : List ℕ) (s : State) → NeverAsks (start_or_break p t q r n l s)
  start_on true q r n l s = tt
  start_on false q r n l s = break_or_act_on q s.collected r l s

  obey_on : (x : Meaning) (i q : Bool) (n : Name) (l : List ℕ) (s : State) → NeverAsks (obey p x i q n l s)
  obey_on nothing i q n l s = tt
  obey_on (calls t) i q n l s = tt
  obey_on (means_request (Breaks r)) i q n l s = start_on (eqb s.page.number 0 && starts_page q r) q r n l s
  obey_on (means_request (Lays r)) i q n l s = laid_on (set_page p r s.page.used (argument_at 0 l) s.layout) s
  obey_on (means_request (Changes r)) i q n l s = settles_on (change p r l s) s
  obey_on (means_request Ds) i q n l s = settles_on (defines i l s) s
  obey_on (means_request If) i q n l s = settles_on (decide p l s) s

  again_on : (x : Line) (s : State) → NeverAsks (deal_again p x s)
  unfolding deal_again
  again_on ignored s = tt
  again_on (plain_text l) s = text_on l s
  again_on (control q n l) s = obey_on (meaning_of n s) true q n l s

  scan_on : (x : Scanned) (s : State) (k : List ℕ → State → Next) → ((l : List ℕ) (v : State) → NeverAsks (k l v)) → NeverAsks (on_scan x s k)
  scan_on (scanned l rs) s k f = f l _
  scan_on (scan_refused n rs) s k f = tt

  control_on : (x : Meaning) (args : List (List ℕ)) (q : Bool) (n : Name) (l : List ℕ) (s : State) → NeverAsks (control_line p x args q n l s)
  control_on nothing args q n l s = tt
  control_on (calls t) args q n l s = scan_on (expand p args Plain (prefix_of n) l s) s (obey p (calls t) false q n) (λ m v. obey_on (calls t) false q n m v)
  control_on (means_request r) args q n l s = scan_on (expand p args (mode_of r) (prefix_of n) l s) s (obey p (means_request r) false q n) (λ m v. obey_on (means_request r) false q n m v)

  fresh_on : (x : Line) (args : List (List ℕ)) (s : State) → NeverAsks (fresh_line p x args s)
  fresh_on ignored args s = tt
  fresh_on (plain_text l) args s = scan_on (expand p args Plain 0 l s) s text_line (λ m v. text_on m v)
  fresh_on (control q n l) args s = control_on (meaning_of n s) args q n l s

  body_on : (t : Bool) (d : Definition) (args : List (List ℕ)) (l : List ℕ) (s : State) → NeverAsks (body_line p t d args l s)
  body_on true d args l s = tt
  body_on false d args l s = scan_on (expand p args Copy 0 l s) s (keep_body p d) (λ m v. given_on (keep_line v.tables.texts d.body m) v _ (λ b. tt))

  deal_on : (args : List (List ℕ)) (l : List ℕ) (s : State) → NeverAsks (deal p args l s)
  unfolding deal
  deal_on args l s = go s.tables.opened
    where
      go : (o : Option Definition) → NeverAsks (deal_from p o args l s)
      go (Some d) = body_on (is_closing l) d args l s
      go None = fresh_on (line_of l) args s

  leave_on : (o : Option Definition) (s : State) → NeverAsks (leave o s)
  leave_on None s = tt
  leave_on (Some d) s = tt

  read_on_lem : (t : Bool) (args : List (List ℕ)) (l : List ℕ) (s : State) → NeverAsks (read_line p t args l s)
  read_on_lem true args l s = deal_on args l (with_stored (suc s.input.stored) s)
  read_on_lem false args l s = tt

  work_on : (i : Item) (s : State) → NeverAsks (work p i s)
  work_on (reading n [] args) s = leave_on s.tables.opened s
  work_on (reading n (l ∷ ls) args) s = read_on_lem (ltb s.input.stored 10000) args l (with_stack (reading n ls args ∷ s.input.stack) s)
  work_on (fresh l) s = deal_on [] l s
  work_on (again x) s = again_on x s
  work_on (others ws g) s = fill_on ws g s
  work_on (acts r l) s = act_on r l s
  work_on (ejects n) s = eject_on n s

  -- Sanity: "once the end is read, no byte is taken"
  pub ended_never_asks : (s : State) → s.input.ended ≡ true → NeverAsks (step p s)
  unfolding step
  ended_never_asks s h = go s.closing s.input.stack
    where
      idle_on : (o : Option Definition) → NeverAsks (idle p true o s)
      idle_on (Some d) = tt
      idle_on None = end_on s.page.last s

      go : (c : Option Closing) (k : List Item) → NeverAsks (step_from p c k s)
      go (Some a) k = tt
      go None [] = subst (λ (t : Bool). NeverAsks (idle p t s.tables.opened s)) (sym h) (idle_on s.tables.opened)
      go None (i ∷ k) = work_on i (with_stack k s)
