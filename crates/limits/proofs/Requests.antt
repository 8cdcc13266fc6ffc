-- Each request keeps to the limits. Assumes nothing.
use Rattle.std.specs.Prelude.{◌≡◌, refl, Bool, true, false, ℕ, leb, eqb, length, ℤ, ◌+ℤ◌, Option, None, Some}
use mathlib.Core.List.{List, [], ◌∷◌}
use Rattle.std.proofs.Common.{arith}
use Rattle.rules.specs.declared.Name.{Name}
use Rattle.rules.specs.declared.Register.{Register}
use Rattle.rules.specs.declared.Trap.{Trap}
use Rattle.rules.specs.declared.Breaking.{Breaking}
use Rattle.rules.specs.declared.Breaking.TheVariants.{Br, Sp, Bp, Sets}
use Rattle.rules.specs.declared.LineSetting.{LineSetting}
use Rattle.rules.specs.declared.LineSetting.TheVariants.{Fi, Nf, Ce, In, Ti}
use Rattle.rules.specs.declared.PageSetting.{PageSetting}
use Rattle.rules.specs.declared.PageSetting.TheVariants.{Pl, Po, Ll, Ad, Na}
use Rattle.rules.specs.declared.TableChange.{TableChange}
use Rattle.rules.specs.declared.TableChange.TheVariants.{Nr, De, Rm, Wh}
use Rattle.rules.specs.Printers.{Printer}
use Rattle.rules.specs.Bytes.{byte, is_there}
use Rattle.rules.specs.Names.{Named, one, too_long, name_of}
use Rattle.rules.specs.Laws.Tables.{Each, OfSome, entry_each}
use Rattle.rules.specs.Numbers.{equal_z, units, signed}
use Rattle.rules.specs.Laws.Numbers.{Bounded, within_bounded}
use Rattle.rules.proofs.Laws.Numbers.{rows_bounded, units_bounded}
use Rattle.rules.specs.Registers.{register_of, set_value, predefined, value_or0, step_or0}
use Rattle.rules.specs.Laws.Registers.{BoundedRegister, register_bounded, set_bounded}
use Rattle.rules.specs.Texts.{text_of}
use Rattle.rules.specs.Traps.{plant, remove_trap}
use Rattle.rules.specs.Laws.Traps.{plant_here, plant_on, remove_here, remove_on, single_plant, single_remove}
use Rattle.rules.specs.LayoutSetters.{with_indent, with_offset, with_page_length, with_filling}
use Rattle.rules.specs.Arguments.{condition}
use Rattle.rules.specs.Lines.{line_of, expression, letters, simply_holds, holds_if, holds}
use Rattle.rules.specs.State.{State, again}
use Rattle.rules.specs.StateSetters.{with_layout, with_traps}
use Rattle.rules.specs.Rows.{skip}
use Rattle.rules.specs.Acts.{argument_at, open_text, remove_text, plant_at, follows, new_value, set_line, act, lay, new_step, write_if, write_register, plant_trap, if_line, change, decide}
use Rattle.limits.specs.Within.{BoundedTrap, Within, Keeps}
use Rattle.limits.proofs.Parts.{is_6, is_7, is_11, registers_kept, traps_kept, line_kept, centred_kept}
use Rattle.limits.proofs.Numbered.{Numbered, judge_numbered, after_numbered, within_numbered, rows_numbered, units_numbered}
use Rattle.limits.proofs.Fair.{Fair, fine, refusal, fair, fair_any, fair_of, fair_judge, given_kept, laid_kept, name_kept}
use Rattle.limits.proofs.Rows.{LineReady, hold, skip_kept, eject_kept}
use Rattle.limits.proofs.Texts.{open_kept, remove_kept}
use Rattle.limits.proofs.Settings.{setting_fair, line_fair, page_fair, total_fair, spacing_fair, centring_fair}

-- wh: traps stay within their bounds
plant_places : (z : ℤ) (n : Name) (ts : List Trap) → Bounded z → Each BoundedTrap ts → Each BoundedTrap (plant z n ts)
unfolding plant
plant_places z n [] b h = (b, tt)
plant_places z n (t ∷ ts) b h = go (equal_z z t.place.0) refl (plant_places z n ts b h.1)
  where
    go : (x : Bool) → equal_z z t.place.0 ≡ x → Each BoundedTrap (plant z n ts) → Each BoundedTrap (plant z n (t ∷ ts))
    go true e ih = rw (plant_here z n t ts e) (b, h.1)
    go false e ih = rw (plant_on z n t ts e) (h.0, ih)

remove_places : (z : ℤ) (ts : List Trap) → Each BoundedTrap ts → Each BoundedTrap (remove_trap z ts)
unfolding remove_trap
remove_places z [] h = tt
remove_places z (t ∷ ts) h = go (equal_z z t.place.0) refl (remove_places z ts h.1)
  where
    go : (x : Bool) → equal_z z t.place.0 ≡ x → Each BoundedTrap (remove_trap z ts) → Each BoundedTrap (remove_trap z (t ∷ ts))
    go true e ih = rw (remove_here z t ts e) h.1
    go false e ih = rw (remove_on z t ts e) (h.0, ih)

plant_at_kept : (z : ℤ) (m : Named) (s : State) → Bounded z → Within s → Fair Within (plant_at z m s)
plant_at_kept z Named.no_name s b h = let ts = s.tables.traps in fine (traps_kept s h (remove_trap z ts) (single_remove z ts h.traps) (remove_places z ts h.places))
plant_at_kept z too_long s b h = refusal is_7
plant_at_kept z (one n) s b h =
    let ts = s.tables.traps in
    fair_judge (leb (length (plant z n ts)) 16) 11 (with_traps (plant z n ts) s) is_11
    (λ e. traps_kept s h (plant z n ts) (single_plant z n ts h.traps) (plant_places z n ts b h.places))

module _ (p : Printer) where
  plant_kept : (l m : List ℕ) (s : State) → Within s → Fair Within (plant_trap p l m s)
  plant_kept [] m s h = fine h
  plant_kept (b ∷ l) m s h =
      fair_of _ (fair (rows_bounded p.pitch (b ∷ l)) (rows_numbered p.pitch (b ∷ l))) (λ z i. plant_at_kept z (name_of m) s i h)

  -- nr
  units_fair : (l : List ℕ) → Fair Bounded (units p.pitch l)
  units_fair l = fair (units_bounded p.pitch l) (units_numbered p.pitch l)

  new_fair : (b : Bool) (old v : ℤ) → Bounded v → Fair Bounded (new_value b old v)
  new_fair true old v h = fair (within_bounded (old +ℤ v)) (within_numbered (old +ℤ v))
  new_fair false old v h = fine h

  step_fair : (l : List ℕ) (old : ℤ) → Bounded old → Fair Bounded (new_step p l old)
  step_fair [] old h = fine h
  step_fair (b ∷ l) old h = units_fair (b ∷ l)

  old_step : (o : Option Register) → OfSome BoundedRegister o → Bounded (step_or0 o)
  old_step None h = omega arith
  old_step (Some r) h = h.1

  pub set_numbered : (n : Name) (v u : ℤ) (rs : List Register) → Numbered (set_value n v u rs)
  unfolding set_value
  set_numbered n v u rs = search (judge_numbered, is_11)

  write_kept : (b : Bool) (v l : List ℕ) (s : State) (n : Name) → Within s → Fair Within (write_if p b v l s n)
  write_kept true v l s n h = refusal is_7
  write_kept false v l s n h =
      let rs = s.tables.registers in
      fair_of _ (units_fair v) (λ x i.
      fair_of _ (new_fair (signed v) (value_or0 (register_of n rs)) x i) (λ y j.
      fair_of _ (step_fair l (step_or0 (register_of n rs)) (old_step (register_of n rs) (register_bounded n rs h.registers))) (λ z k.
      fair_of _ (fair (set_bounded n y z rs j k h.registers) (set_numbered n y z rs)) (λ qs m. fine (registers_kept s h qs m)))))

  writes_kept : (v l : List ℕ) (s : State) (n : Name) → Within s → Fair Within (write_register p v l s n)
  writes_kept [] l s n h = fine h
  writes_kept (b ∷ v) l s n h = write_kept (predefined n) (b ∷ v) l s n h

  -- if: its condition may be refused, and what follows is held
  expression_numbered : (page : ℕ) (l : List ℕ) → Numbered (expression p page l)
  expression_numbered page l = after_numbered (units p.pitch l) _ (units_numbered p.pitch l) (λ v. tt)

  simply_numbered : (page : ℕ) (l : List ℕ) → Numbered (simply_holds p page l)
  simply_numbered page [] = is_6
  simply_numbered page (b ∷ []) =
      entry_each (λ j. Numbered j) (letters p page) (expression p page (b ∷ [])) b (tt, (tt, (tt, (tt, tt)))) (expression_numbered page (b ∷ []))
  simply_numbered page (b ∷ c ∷ l) = expression_numbered page (b ∷ c ∷ l)

  holds_if_numbered : (t : Bool) (page b : ℕ) (l : List ℕ) → Numbered (holds_if p page t b l)
  holds_if_numbered true page b l = after_numbered (simply_holds p page l) _ (simply_numbered page l) (λ v. tt)
  holds_if_numbered false page b l = simply_numbered page (b ∷ l)

  pub holds_numbered : (page : ℕ) (l : List ℕ) → Numbered (holds p page l)
  unfolding holds
  holds_numbered page [] = is_6
  holds_numbered page (b ∷ l) = holds_if_numbered (eqb b (byte "!")) page b l

  follows_kept : (t : Bool) (l : List ℕ) (s : State) → LineReady s → Within (follows t l s)
  follows_kept true [] s h = h.0
  follows_kept true (b ∷ l) s h = (hold (again (line_of (b ∷ l))) s tt h).1
  follows_kept false l s h = h.0

  if_kept : (c l : List ℕ) (s : State) → LineReady s → Fair Within (if_line p c l s)
  if_kept [] l s h = fine h.0
  if_kept (b ∷ c) l s h =
      fair_of _ (fair_any (holds p s.page.number (b ∷ c)) (holds_numbered s.page.number (b ∷ c))) (λ v u. fine (follows_kept v l s h))

  -- A request that changes a table.
  pub change_kept : (r : TableChange) (l : List ℕ) (s : State) → LineReady s → Fair Within (change p r l s)
  unfolding change
  change_kept Nr l s h =
      name_kept (name_of (argument_at 0 l)) s (write_register p (argument_at 1 l) (argument_at 2 l) s) h.0 (λ n. writes_kept (argument_at 1 l) (argument_at 2 l) s n h.0)
  change_kept De l s h = name_kept (name_of (argument_at 0 l)) s (open_text s) h.0 (λ n. open_kept s h n)
  change_kept Rm l s h = name_kept (name_of (argument_at 0 l)) s (remove_text s) h.0 (λ n. remove_kept s h (is_there (text_of n s.tables.texts)) n)
  change_kept Wh l s h = plant_kept (argument_at 0 l) (argument_at 1 l) s h.0

  pub decide_kept : (l : List ℕ) (s : State) → LineReady s → Fair Within (decide p l s)
  unfolding decide
  decide_kept l s h = let c = condition l in if_kept c.part c.rest s h

  -- A request that sets the layout and does not break.
  pub lay_kept : (r : PageSetting) (l : List ℕ) (s : State) → Within s → Keeps (lay p r l s)
  lay_kept Pl l s h = laid_kept s h (fair_of _ (page_fair p s.page.used s.layout.page (argument_at 0 l)) (λ n k. fine {a = with_page_length n s.layout} h))
  lay_kept Po l s h = laid_kept s h (fair_of _ (setting_fair p 0 120 s.layout.offset (argument_at 0 l)) (λ v k. fine {a = with_offset v s.layout} h))
  lay_kept Ll l s h = laid_kept s h (fair_of _ (line_fair p s.layout.line (argument_at 0 l) h.line) (λ v k. fine (line_kept s h v k)))
  lay_kept Ad l s h = h
  lay_kept Na l s h = h

  -- fi, nf, ce, in and ti
  set_line_kept : (r : LineSetting) (l : List ℕ) (s : State) → Within s → Fair (λ y. Within (with_layout y s)) (set_line p r l s.layout)
  set_line_kept Fi l s h = fine {a = with_filling true s.layout} h
  set_line_kept Nf l s h = fine {a = with_filling false s.layout} h
  set_line_kept Ce l s h = fair_of _ (centring_fair p l) (λ n k. fine (centred_kept s h n k))
  set_line_kept In l s h = fair_of _ (setting_fair p 0 239 s.layout.indent l) (λ v k. fine {a = with_indent v s.layout} h)
  set_line_kept Ti l s h = total_fair p s l h

  -- A request that breaks, after its break.
  pub act_kept : (r : Breaking) (l : List ℕ) (s : State) → LineReady s → Keeps (act p r l s)
  unfolding act
  act_kept Br l s h = h.0
  act_kept Sp l s h = given_kept s (λ n. skip n s) h.0 (spacing_fair p (argument_at 0 l)) (λ n u. skip_kept n s h.0)
  act_kept Bp l s h = eject_kept s.page.number s h
  act_kept (Sets r) l s h = laid_kept s h.0 (set_line_kept r (argument_at 0 l) s h.0)
