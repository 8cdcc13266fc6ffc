-- A call from C that takes its block into the source line that is being taken: one word is written. Assumes nothing.
use mathlib.Core.Path.{◌≡◌, refl, sym, ap, ◌∙◌, subst}
use mathlib.Core.Bool.{Bool}
use mathlib.Core.List.{List}
use Prim.Native.Nat.{ℕ, ◌+◌, ◌<◌}
use native.Mathlib.Omega.{arith}
use lib.ListN.{length}
use lib.Seq.{paste}
use lib.IntN.{ℤ}
use Rattle.stream.specs.declared.Answer.TheVariants as answer
use Rattle.source_line.specs.Gathering.{Appends}
use Rattle.source_line.specs.GatheringLaws.{BlockInside, inside_is}
use Rattle.record.specs.declared.Record.{Record}
use Rattle.record.specs.declared.RecordCore.{RecordCore}
use Rattle.record.specs.View.{ValidRecord}
use Rattle.record.specs.Turns.{record_of}
use Rattle.record.specs.Inside.{InsideCall, with_block}
use Rattle.session.specs.Contract.{CallContract}
use Rattle.session.proofs.Limits.{call_inside}
use Rattle.record_words.specs.Decoding.Words.{core_from_words}
use Rattle.record_words.specs.Encoding.Length.{word_there, with_source_length, length_written}
use Rattle.record_words.specs.Encoding.Kept.{record_in}
use Rattle.rockavine_c.specs.Replies.Replies.{is_last}
use Rattle.rockavine_c.specs.Calls.{BlockTaken, CCallContract}

module _ (ws : List ℤ) (g cs row bs ps tf ts ks ls fs ss : List ℕ) (vs us : List ℤ) (st bl : List ℕ) (mark : ℕ) (out : List ℕ) (pl : RecordCore) (e : pl ≡ core_from_words ws) (last : Bool) (m : last ≡ is_last mark)
    (l : ValidRecord (record_of pl g cs row bs ps tf ts ks ls fs ss vs us) st) (h : InsideCall bl last pl.status.stack.depth pl.source pl.waiting pl.closing) where
  abbrev n : ℕ
  n = pl.source.length

  fits : BlockInside bl n
  fits = inside_is bl n h.inside

  -- there is room for the block
  pub may_append : Appends bl g n
  may_append = record { fits = fits.fits; long = l.formed.gathered_long }

  -- the words stand for the record with the block
  pub from_inside : (ws' : List ℤ) (g' : List ℕ) → BlockTaken bl n ws g ws' g'
      → CCallContract (record_in ws g cs row bs ps tf ts ks ls fs ss vs us) ws st bl mark out 0 (length bl) 0 0 0 (record_in ws' g' cs row bs ps tf ts ks ls fs ss vs us) ws' st out
  from_inside ws' g' t =
      let r : Record = record_in ws g cs row bs ps tf ts ks ls fs ss vs us in
      let some = subst (λ (v : RecordCore). 0 < v.source.length) e fits.some in
      let place : core_from_words ws' ≡ with_source_length (n + length bl) pl =
      ap core_from_words t.words ∙ length_written ws (n + length bl) (word_there ws 27 some) (omega (arith, fits.fits)) ∙ ap (with_source_length (n + length bl)) (sym e) in
      let here : record_in ws' g' cs row bs ps tf ts ks ls fs ss vs us ≡ with_block bl (record_of pl g cs row bs ps tf ts ks ls fs ss vs us) =
      ap (λ (v : List ℕ). record_in ws' v cs row bs ps tf ts ks ls fs ss vs us) t.gathered
      ∙ ap (λ (v : RecordCore). record_of v (paste g n bl (length bl)) cs row bs ps tf ts ks ls fs ss vs us) place in
      let c = call_inside (record_of pl g cs row bs ps tf ts ks ls fs ss vs us) st bl last out l h in
      record {
        says = answer.NeedsInput;
        code_is = refl;
        number_is = refl;
        line_is = refl;
        called =
            subst (λ (v : Bool). CallContract r st bl v out (record { answer = answer.NeedsInput; taken = length bl; written = 0; next = record_in ws' g' cs row bs ps tf ts ks ls fs ss vs us }) st out) m
            (subst (λ (v : RecordCore). CallContract (record_of v g cs row bs ps tf ts ks ls fs ss vs us) st bl last out (record { answer = answer.NeedsInput; taken = length bl; written = 0; next = record_in ws' g' cs row bs ps tf ts ks ls fs ss vs us }) st out) e
            (subst (λ (v : Record). CallContract (record_of pl g cs row bs ps tf ts ks ls fs ss vs us) st bl last out (record { answer = answer.NeedsInput; taken = length bl; written = 0; next = v }) st out) (sym here) c));
        untouched = λ z. let y : ◌≡◌ {A = ℕ} 0 1 = cc (z) in absurd (omega arith);
      }
