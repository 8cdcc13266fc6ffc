-- A call that takes its block into the source line that is being taken: one turn, and then the next block is asked for. Assumes nothing.
use mathlib.Core.Path.{◌≡◌, refl, sym, ap, ◌∙◌, subst}
use mathlib.Core.Bool.{Bool, true, false}
use mathlib.Core.List.{List, [], ◌++◌}
use Prim.Native.Nat.{ℕ, ◌+◌, ◌-◌, ◌≤◌}
use native.Mathlib.Nat.{le_refl}
use native.Mathlib.Omega.{arith}
use lib.ListN.{length, take, drop}
use lib.Seq.{length-take-le, take-length, paste, take-paste, length-paste}
use Rattle.stream.specs.declared.Answer.TheVariants as answer
use Rattle.rules.specs.State.{State}
use Rattle.rules.specs.StateSetters.{input, with_input}
use Rattle.source_line.specs.declared.Source.{Source}
use Rattle.source_line.specs.Gathering.{with_source, Takes}
use Rattle.source_line.specs.GatheringLaws.{BlockInside, inside_is, inside_takes}
use Rattle.state.specs.Whole.{state_in}
use Rattle.record.specs.declared.Record.{Record}
use Rattle.record.specs.declared.Waiting.{Waiting}
use Rattle.record.specs.declared.Closing.{Closing}
use Rattle.record.specs.declared.Closing.TheVariants.{Open, Done, Refused}
use Rattle.record.specs.View.{sourced, closed_as, whole_in, state_of, waiting_of, most_lines, RecordInvariant, ValidRecord}
use Rattle.record.specs.Turns.{InputReady, arrived, TurnReady, TurnRefines, HasWork, RunContract}
use Rattle.record.specs.Inside.{InsideCall, InsideJudged, longer_source, with_block}
use Rattle.record.proofs.Taking.{cleared}
use Rattle.record.proofs.Leading.{turn_take, stops_input}
use Rattle.record.proofs.Going.{go_start, go_turn, refines_stop}

-- what the test says
pub false_true : false ≡ true → ⊥
false_true e = let z : ◌≡◌ {A = ℕ} 0 1 = cc (e) in omega arith

module _ (r : Record) (st block : List ℕ) (last : Bool) (out : List ℕ) (l : ValidRecord r st) (h : InsideCall block last r.status.stack.depth r.source r.waiting r.closing) where
  abbrev s : Source
  s = r.source

  abbrev g : List ℕ
  g = r.gathered

  -- the bytes that the line has, and those with the block
  abbrev line : List ℕ
  line = take s.length g

  abbrev all : List ℕ
  all = paste g s.length block (length block)

  abbrev then : Record
  then = with_block block r

  abbrev parts : State
  parts = state_in (whole_in r st) (sourced s g)

  fits : BlockInside block s.length
  fits = inside_is block s.length h.inside

  long : length g ≡ 512
  long = l.formed.gathered_long

  sized : length line ≡ s.length
  sized = length-take-le s.length g (omega (arith, l.formed.short, long))

  both : take (s.length + length block) all ≡ line ++ block
  both =
      take-paste g s.length block (length block) (omega (arith, l.formed.short, long)) (le_refl (length block))
      ∙ ap (λ v. line ++ v) (take-length block)

  -- the states before and after, by their sources
  before : state_of r st ≡ with_source line s.line s.stored [] parts
  before =
      ap (λ v. closed_as v parts) h.unclosed ∙ cleared (whole_in r st) s s g g h.empty
      ∙ ap (λ v. with_input (input line s.line v s.stored []) parts) h.unended

  after : state_of then st ≡ with_source (line ++ block) s.line s.stored [] parts
  after =
      ap (λ v. closed_as v (state_in (whole_in r st) (sourced (longer_source s (length block)) all))) h.unclosed
      ∙ cleared (whole_in r st) s (longer_source s (length block)) all g h.empty
      ∙ ap (λ v. with_input (input (take (s.length + length block) all) s.line v s.stored []) parts) h.unended
      ∙ ap (λ v. with_source v s.line s.stored [] parts) both

  numbered : s.line ≤ 1000000
  numbered = subst (λ c. s.line ≤ most_lines c) h.unclosed l.formed.numbered

  takes : Takes (state_of r st) block (state_of then st)
  takes =
      subst (λ v. Takes v block (state_of then st)) (sym before)
      (subst (Takes (with_source line s.line s.stored [] parts) block) (sym after)
      (inside_takes parts refl block line s.line s.stored (subst (BlockInside block) (sym sized) fits) numbered))

  waits_none : waiting_of then ≡ []
  waits_none = let z : r.waiting.end - r.waiting.at ≡ 0 = omega (arith, h.none) in ap (λ n. take n (drop r.waiting.at r.row)) z

  formed : RecordInvariant then st
  formed = record {
    sound = l.formed.sound;
    fits = l.formed.fits;
    gathered_long = length-paste g s.length block (length block) (omega (arith, fits.fits, long)) (le_refl (length block)) ∙ long;
    row_long = l.formed.row_long;
    short = fits.fits;
    numbered = l.formed.numbered;
    counted = l.formed.counted;
    order = l.formed.order;
    inside = l.formed.inside;
  }

  may_turn : TurnReady block r st 0
  may_turn = record { valid = l; none = h.none; within = omega arith }

  leads : TurnRefines block last r st 0 then st (length block)
  leads =
      let n : length block - 0 ≡ length block = omega arith in
      let e : take (length block - 0) (drop 0 block) ≡ block = ap (λ v. take v block) n ∙ take-length block in
      turn_take block last r st 0 may_turn h.unclosed then st (length block)
      (record {
        between = state_of then st;
        takes = subst (λ v. Takes (state_of r st) v (state_of then st)) (sym e) takes;
        arrives = arrived refl waits_none formed refl;
        some = h.some;
        within = le_refl (length block);
      })

  may_stop : TurnReady block then st (length block)
  may_stop = record { valid = leads.valid; none = h.none; within = le_refl (length block) }

  asking : InputReady then st
  asking = record { formed = formed; unclosed = h.unclosed; empty = h.empty; unended = h.unended }

  -- The call takes all of the block, writes nothing and asks for more.
  pub runs_inside : RunContract r st block last out (record { answer = answer.NeedsInput; taken = length block; written = 0; next = then }) st out
  runs_inside =
      refines_stop r st block last out then st (length block) 0 out
      (go_turn r st block last out r st 0 0 out (go_start r st block last out l) may_turn then st (length block) leads)
      may_stop answer.NeedsInput then st (length block)
      (stops_input block last then st (length block) may_stop h.unclosed asking h.more refl)
