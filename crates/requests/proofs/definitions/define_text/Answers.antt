-- `requests::definitions::define_text` meets its contract: a law for each way out. Assumes nothing.
use mathlib.Core.Path.{refl, sym, ◌∙◌}
use Rattle.std.proofs.lemmas.Result.{err_from_is_err_and}
use Rattle.rules.specs.declared.Refusal.TheVariants.{TextInUse}
use Rattle.texts.specs.Table.Table.{texts_of}
use Rattle.texts.specs.Table.Lent.{loans_same}
use Rattle.requests.specs.Definitions.Texts.{alone, defines_as}
use Rattle.requests.proofs.definitions.TextLaws.{refuses, define_held, defined, define_full}
use Rattle.requests.proofs.definitions.define_text.Goals as goal

pub returns-then-is_on_stack : goal.returns-then-is_on_stack
returns-then-is_on_stack c =
    let a = c.args in let t = c.args.texts.now in
    record {
      changes = refuses t.store.now t.firsts.now t.seconds.now t.kinds.now t.lengths.now t.count a.stack a.ends.now t.sound alone
          (defines_as a.name a.text.now) TextInUse
          (λ bs x. define_held (texts_of t.store.now t.firsts.now t.seconds.now t.kinds.now t.lengths.now t.count) a.stack a.ends.now a.name (sym c.if-is_on_stack.true ∙ c.is_on_stack.ensures) bs x a.text.now);
      count = refl;
      loans = loans_same;
    }

pub returns-in_err-define_string : goal.returns-in_err-define_string
returns-in_err-define_string c =
    let a = c.args in let t = c.args.texts.now in
    let p = err_from_is_err_and c.from_residual.result c.from_residual.ensures.1 in
    let m = c.in_err-define_string.ensures in
    rw (p.1, p.2)
    (record {
      changes = define_full t.store.now t.firsts.now t.seconds.now t.kinds.now t.lengths.now t.count a.stack a.ends.now a.name _ _ _ _ _
          (sym c.if-is_on_stack.false ∙ c.is_on_stack.ensures) a.text.now c.requires.long _ m.defined;
      count = m.refused;
      loans = m.loans;
    })

pub returns : goal.returns
returns c =
    let a = c.args in let t = c.args.texts.now in
    let m = c.in_ok-define_string.ensures in
    record {
      changes = defined t.store.now t.firsts.now t.seconds.now t.kinds.now t.lengths.now t.count a.stack a.ends.now a.name _ _ _ _ _
          (sym c.if-is_on_stack.false ∙ c.is_on_stack.ensures) a.text.now c.requires.long _ m.defined;
      count = tt;
      loans = m.loans;
    }
