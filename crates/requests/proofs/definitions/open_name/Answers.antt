-- `requests::definitions::open_name` meets its contract: a law for each way out. Assumes nothing.
use mathlib.Core.Path.{refl, sym, ◌∙◌}
use Rattle.std.proofs.lemmas.Result.{err_from_is_err_and}
use Rattle.rules.specs.declared.Refusal.TheVariants.{TextInUse}
use Rattle.rules.specs.Acts.{open_text}
use Rattle.rules.specs.Names.{one}
use Rattle.texts.specs.Table.Table.{texts_of}
use Rattle.texts.specs.Table.Lent.{loans_same}
use Rattle.requests.specs.Definitions.Texts.{opened_as}
use Rattle.requests.proofs.definitions.TextLaws.{refuses, open_held, opened, open_full}
use Rattle.requests.proofs.definitions.open_name.Goals as goal

pub returns-then-is_on_stack : goal.returns-then-is_on_stack
returns-then-is_on_stack c =
    let a = c.args in let t = c.args.texts.now in
    record {
      opens = record {
        changes = refuses t.store.now t.firsts.now t.seconds.now t.kinds.now t.lengths.now t.count a.stack a.ends.now t.sound (opened_as (one a.name)) (λ q. open_text q a.name) TextInUse
            (λ bs x. open_held (texts_of t.store.now t.firsts.now t.seconds.now t.kinds.now t.lengths.now t.count) a.stack a.ends.now a.name (sym c.if-is_on_stack.true ∙ c.is_on_stack.ensures) bs x);
        opens = tt;
      };
      count = refl;
      loans = loans_same;
    }

pub returns-in_err-open_macro : goal.returns-in_err-open_macro
returns-in_err-open_macro c =
    let a = c.args in let t = c.args.texts.now in
    let p = err_from_is_err_and c.from_residual.result c.from_residual.ensures.1 in
    let m = c.in_err-open_macro.ensures in
    rw (p.1, p.2)
    (record {
      opens = open_full t.store.now t.firsts.now t.seconds.now t.kinds.now t.lengths.now t.count a.stack a.ends.now a.name _ _ _ _ _
          (sym c.if-is_on_stack.false ∙ c.is_on_stack.ensures) _ m.opened;
      count = m.refused;
      loans = m.loans;
    })

pub returns : goal.returns
returns c =
    let a = c.args in let t = c.args.texts.now in
    let m = c.in_ok-open_macro.ensures in
    record {
      opens = opened t.store.now t.firsts.now t.seconds.now t.kinds.now t.lengths.now t.count a.stack a.ends.now a.name _ _ _ _ _
          (sym c.if-is_on_stack.false ∙ c.is_on_stack.ensures) _ m.opened;
      count = tt;
      loans = m.loans;
    }
