-- `texts::table::start_of` meets its contract: no sum of lengths in it is too great. Assumes nothing.
use Rattle.std.proofs.Common.{List, ℕ, take, ◌∙◌, arith, rules}
use Rattle.std.proofs.lemmas.Iterator.{YieldsList-from_slice, YieldsList-from_map}
use Rattle.std.proofs.lemmas.Iterator.Consumers.{sum_by_from_yields_List, fits_by_from_yields_list}
use Rattle.texts.proofs.table.Lists.{total_sum}
use Rattle.texts.proofs.table.start_of.Goals as goal

pub sum-requires-clause-fits : goal.sum-requires-clause-fits
sum-requires-clause-fits c =
    let l : List ℕ = take c.args.k c.args.lengths.now in
    fits_by_from_yields_list (λ (x : ℕ). x) l c.map.result _
    (YieldsList-from_map _ (λ (x : ℕ). x) (YieldsList-from_slice l cc) c.map.ensures.closure (λ x r q k. search rules)) (omega (arith, total_sum l, c.requires.fits))

pub returns : goal.returns
returns c =
    let l : List ℕ = take c.args.k c.args.lengths.now in
    sum_by_from_yields_List (λ (x : ℕ). x) l c.map.result _ c.sum.ensures.ran
    (YieldsList-from_map _ (λ (x : ℕ). x) (YieldsList-from_slice l cc) c.map.ensures.closure (λ x r q k. search rules)) ∙ total_sum l
