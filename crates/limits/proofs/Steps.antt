-- Every piece of work, every byte and the end keep to the limits. Assumes nothing.
use Rattle.std.specs.Prelude.{◌≡◌, Bool, true, false, ◌&&◌, List, [], ◌∷◌, ◌++◌, ℕ, suc, leb, ltb, eqb, length, Option, None, Some}
use Rattle.std.proofs.Math.Path.{refl}
use Rattle.std.proofs.Common.{sym, subst, arith, leb-true}
use Rattle.stream.specs.Answers.{Closing}
use Rattle.stream.specs.Machine.{works, asks}
use Rattle.rules.specs.Printers.{Printer}
use Rattle.rules.specs.Bytes.{newline}
use Rattle.rules.specs.Laws.Refusals.{both}
use Rattle.rules.specs.Laws.Tables.{Each}
use Rattle.rules.specs.State.{State, Item, reading, fresh, again, others, acts, ejects, Definition}
use Rattle.rules.specs.StateSetters.{with_input, with_stack, with_stored}
use Rattle.rules.specs.Session.{leave, begun_by, with_begun, gather, take_by, take_byte, last_line, read_end, work_end, read_line, work, idle, step_from, step}
use Rattle.limits.specs.Within.{SourceByte, OverText, Layer, Layered, Deep, NextLine, OpenOver, Answered, Within, Keeps}
use Rattle.limits.proofs.Parts.{is_2, is_3, is_8, is_10, is_12, next_over, none_over, over_next, popped_deep, stack_kept, refuse_popped, refuse_kept}
use Rattle.limits.proofs.Rows.{LineReady, eject_kept, eject_last_kept, begin_end_kept}
use Rattle.limits.proofs.TextLines.{fill_kept}
use Rattle.limits.proofs.Requests.{act_kept}
use Rattle.limits.proofs.Lines.{again_kept, deal_kept}

-- a byte behind the others
each_end : (g : List ℕ) (b : ℕ) → Each SourceByte g → SourceByte b → Each SourceByte (g ++ b ∷ [])
each_end [] b h i = (i, tt)
each_end (a ∷ g) b h i = (h.0, each_end g b h.1 i)

good_byte : (b : ℕ) → (leb 32 b && leb b 126) ≡ true → SourceByte b
good_byte b e = let t = both (leb 32 b) (leb b 126) e in record { least = leb-true 32 b t.0; most = leb-true b 126 t.1 }

-- a line alone on the stack, and nothing
one_deep : (e : Bool) (l : List ℕ) → Deep e (fresh l ∷ [])
one_deep true l = omega arith
one_deep false l = omega arith

none_deep : (e : Bool) → Deep e []
none_deep true = omega arith
none_deep false = omega arith

-- other gathered bytes, and lines next
gather_kept : (g : List ℕ) (k : List Item) (s : State) → Within s → Each SourceByte g → Layered k → Deep s.page.last k → NextLine k → Within (gather g k s)
gather_kept g k s h i l d n =
    record { registers = h.registers; traps = h.traps; places = h.places; texts = h.texts; gone = h.gone; line = h.line; centred = h.centred; gathered = i; stack = l; depth = d; opened = next_over s.tables.opened s.closing k n; closing = h.closing }

take_kept : (a n l c : Bool) (b : ℕ) (s : State) → Within s → (c ≡ true → SourceByte b) → Within (take_by a n l c b s)
take_kept true n l c b s h f = refuse_kept s 12 is_12 h
take_kept false true l c b s h f = gather_kept [] (fresh s.input.gathered ∷ []) s h tt (tt, tt) (one_deep s.page.last s.input.gathered) tt
take_kept false false true c b s h f = refuse_kept s 3 is_3 h
take_kept false false false true b s h f = gather_kept (s.input.gathered ++ b ∷ []) [] s h (each_end s.input.gathered b h.gathered (f refl)) tt (none_deep s.page.last) tt
take_kept false false false false b s h f = refuse_kept s 2 is_2 h

begun_kept : (g : List ℕ) (s : State) → s.closing ≡ None → Within s → Within (with_input (begun_by g s.input) s)
begun_kept [] s e h =
    record { registers = h.registers; traps = h.traps; places = h.places; texts = h.texts; gone = h.gone; line = h.line; centred = h.centred; gathered = tt; stack = h.stack; depth = h.depth; opened = h.opened; closing = subst (λ c. Answered c (suc s.input.line)) (sym e) tt }
begun_kept (b ∷ g) s e h = h

byte_kept : (b : ℕ) (s : State) → s.closing ≡ None → Within s → Within (take_byte b s)
unfolding take_byte
byte_kept b s e h =
    let t = with_begun s in
    take_kept (ltb 1000000 t.input.line) (eqb b newline) (leb 512 (length t.input.gathered)) (leb 32 b && leb b 126) b t
    (begun_kept s.input.gathered s e h) (good_byte b)

last_kept : (g : List ℕ) (s : State) → Within s → Within (gather [] (last_line g) s)
last_kept [] s h = gather_kept [] [] s h tt tt (none_deep s.page.last) tt
last_kept (b ∷ g) s h = gather_kept [] (fresh (b ∷ g) ∷ []) s h tt (tt, tt) (one_deep s.page.last (b ∷ g)) tt

read_end_kept : (s : State) → Within s → Within (read_end s)
unfolding read_end
read_end_kept s h = last_kept s.input.gathered s h

-- no definition is open where work that is held comes next
shut : (o : Option Definition) (k : List Item) → (NextLine k → ⊥) → OpenOver o None k → o ≡ None
shut None k f h = refl
shut (Some d) k f h = absurd (f h)

module _ (p : Printer) where
  leave_kept : (o : Option Definition) (k : List Item) (s : State) → Within s → Layered k → Deep s.page.last k → s.tables.opened ≡ o → Keeps (leave o (with_stack k s))
  leave_kept None k s h l d e = stack_kept s h k l d (none_over s.tables.opened s.closing k e)
  leave_kept (Some o) k s h l d e = refuse_popped s k 8 is_8 h l d

  read_kept : (t : Bool) (args : List (List ℕ)) (l : List ℕ) (s : State) → Within s → OverText s.input.stack → Keeps (read_line p t args l s)
  read_kept true args l s h y = deal_kept p args l (with_stored (suc s.input.stored) s) h y
  read_kept false args l s h y = refuse_kept s 10 is_10 h

  -- the item on top, over the others
  module _ (k : List Item) (s : State) (h : Within s) (l : Layered k) (d : Deep s.page.last k) where
    ready : (i : Item) → OverText k → (NextLine (i ∷ k) → ⊥) → OpenOver s.tables.opened None (i ∷ k) → LineReady (with_stack k s)
    ready i y f o =
        let e = shut s.tables.opened (i ∷ k) f o in
        (stack_kept s h k l d (none_over s.tables.opened s.closing k e), y, e)

    work_kept : (i : Item) → Layer i k → Deep s.page.last (i ∷ k) → OpenOver s.tables.opened None (i ∷ k) → Keeps (work p i (with_stack k s))
    work_kept (reading n [] args) y t o = leave_kept s.tables.opened k s h l d refl
    work_kept (reading n (x ∷ ls) args) y t o =
        let j = reading n ls args ∷ k in
        read_kept (ltb s.input.stored 10000) args x (with_stack j s) (stack_kept s h j (tt, l) t (next_over s.tables.opened s.closing j tt)) tt
    work_kept (fresh x) y t o = deal_kept p [] x (with_stack k s) (stack_kept s h k l d (next_over s.tables.opened s.closing k (over_next k y))) y
    work_kept (again x) y t o = again_kept p x (with_stack k s) (ready (again x) y (λ z. z) o)
    work_kept (others ws g) y t o = fill_kept ws g (with_stack k s) (ready (others ws g) y (λ z. z) o)
    work_kept (acts r x) y t o = act_kept p r x (with_stack k s) (ready (acts r x) y (λ z. z) o)
    work_kept (ejects n) y t o = eject_kept n (with_stack k s) (ready (ejects n) y (λ z. z) o)

  end_kept : (t : Bool) (s : State) → Within s → s.input.stack ≡ [] → Keeps (work_end t s)
  end_kept false s h e = begin_end_kept s h e
  end_kept true s h e = eject_last_kept s h

  idle_kept : (t : Bool) (o : Option Definition) (s : State) → s.closing ≡ None → s.input.stack ≡ [] → Within s → Keeps (idle p t o s)
  idle_kept false o s e f h = (read_end_kept s h, λ b. byte_kept b s e h)
  idle_kept true (Some d) s e f h = refuse_kept s 8 is_8 h
  idle_kept true None s e f h = end_kept s.page.last s h f

  from_kept : (c : Option Closing) (k : List Item) (s : State) → s.closing ≡ c → s.input.stack ≡ k → Within s → Keeps (step_from p c k s)
  from_kept (Some a) k s e f h = tt
  from_kept None [] s e f h = idle_kept s.input.ended s.tables.opened s e f h
  from_kept None (i ∷ k) s e f h =
      let l = subst Layered f h.stack in
      let o = subst (λ c. OpenOver s.tables.opened c (i ∷ k)) e (subst (λ j. OpenOver s.tables.opened s.closing j) f h.opened) in
      let d = subst (λ j. Deep s.page.last j) f h.depth in
      work_kept k s h l.1 (popped_deep i s.page.last k d) i l.0 d o

  -- THE LAW: a state within the limits leads to such states alone, whatever the printer.
  pub kept : (s : State) → Within s → Keeps (step p s)
  unfolding step
  kept s h = from_kept s.closing s.input.stack s refl refl h

  -- The same of each state that a piece of work leads to, that a byte does, and that the end does.
  module _ (s : State) (h : Within s) where
    pub works_within : (w : List ℕ) (s' : State) → step p s ≡ works w s' → Within s'
    works_within w s' e = subst Keeps e (kept s h)

    pub byte_within : (t : ℕ → State) (e : State) → step p s ≡ asks t e → (b : ℕ) → Within (t b)
    byte_within t e f b = (subst Keeps f (kept s h)).1 b

    pub end_within : (t : ℕ → State) (e : State) → step p s ≡ asks t e → Within e
    end_within t e f = (subst Keeps f (kept s h)).0
