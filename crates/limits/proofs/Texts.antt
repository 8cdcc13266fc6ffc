-- ds, de and rm keep to the limits. Assumes nothing.
use Rattle.std.specs.Prelude.{◌≡◌, Bool, true, false, not, List, [], ℕ, Option, None, Some}
use Rattle.std.proofs.Common.{sym, subst}
use Rattle.rules.specs.declared.Name.{Name}
use Rattle.rules.specs.Names.{name_of}
use Rattle.rules.specs.Texts.{Text, text_of, remove, define_string_in, open_macro}
use Rattle.rules.specs.Laws.Texts.{Distinct, distinct_remove, distinct_define, distinct_open, gone_open}
use Rattle.rules.specs.Arguments.{Part, first, string_text}
use Rattle.rules.specs.State.{State, on_stack}
use Rattle.rules.specs.Acts.{free, written_back, define_text, define_from, defines, open_text, remove_if}
use Rattle.limits.specs.Within.{Gone, Within}
use Rattle.limits.proofs.Parts.{is_9, is_11, next_over, over_next, texts_kept, opened_kept}
use Rattle.limits.proofs.Numbered.{Numbered, judge_numbered}
use Rattle.limits.proofs.Fair.{Fair, fine, fair_of, fair_judge, fair_given, name_kept}
use Rattle.limits.proofs.Rows.{LineReady}

-- a name that no text on the input stack has, or 9
pub free_fair : (s : State) (n : Name) → Fair (λ (m : Name). Unit) (free s n)
free_fair s n = fair_judge (not (on_stack n s.input.stack)) 9 n is_9 (λ e. tt)

-- the texts after a ds and after a de, or 11
pub define_numbered : (ts : List Text) (n : Name) (l : List ℕ) → Numbered (define_string_in 8192 n l ts)
unfolding define_string_in
define_numbered ts n l = search (judge_numbered, is_11)

pub open_numbered : (ts : List Text) (n : Name) → Numbered (open_macro n ts)
unfolding open_macro
open_numbered ts n = search (judge_numbered, is_11)

module _ (s : State) (h : LineReady s) where
  abbrev ts : List Text
  ts = s.tables.texts

  none_gone : (us : List Text) → Gone s.tables.opened us
  none_gone us = subst (λ o. Gone o us) (sym h.2) tt

  define_kept : (l : List ℕ) (n : Name) → Fair Within (define_text s l n)
  define_kept l n =
      fair_of _ (free_fair s n) (λ m u.
      fair_of _ (fair_given {P = Distinct} (define_string_in 8192 m l ts) (define_numbered ts m l) (λ us e. distinct_define 8192 m l ts us h.0.texts e))
      (λ us d. fine (texts_kept s h.0 us d (none_gone us))))

  from_kept : (o : Option Part) (i : Bool) → Fair Within (define_from o i s)
  from_kept None i = fine h.0
  from_kept (Some f) i = let l = written_back i (string_text f.rest) in name_kept (name_of f.part) s (define_text s l) h.0 (define_kept l)

  -- ds
  pub defines_kept : (i : Bool) (l : List ℕ) → Fair Within (defines i l s)
  unfolding defines
  defines_kept i l = from_kept (first l) i

  -- de
  pub open_kept : (n : Name) → Fair Within (open_text s n)
  open_kept n =
      fair_of _ (free_fair s n) (λ m u.
      fair_of _ (fair_given {P = λ us. Distinct us × (text_of m us ≡ None)} (open_macro m ts) (open_numbered ts m) (λ us e. (distinct_open m ts us h.0.texts e, gone_open m ts us h.0.texts e)))
      (λ us d. fine (opened_kept s h.0 (Some (record { name = m; body = [] })) us d.0 d.1
      (next_over (Some (record { name = m; body = [] })) s.closing s.input.stack (over_next s.input.stack h.1)))))

  -- rm
  pub remove_kept : (t : Bool) (n : Name) → Fair Within (remove_if t s n)
  remove_kept true n = fair_of _ (free_fair s n) (λ m u. fine (texts_kept s h.0 (remove m ts) (distinct_remove m ts h.0.texts) (none_gone (remove m ts))))
  remove_kept false n = fine h.0
