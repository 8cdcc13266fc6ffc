use mathlib.Core.Path.{◌≡◌}
use lib.ListN.{length}
use borrow.Author.Rules.{rules}
use Rattle.session.proofs.call.Goals as goal

pub call_parts-ran-requires : goal.call_parts-ran-requires
call_parts-ran-requires c =
    let a = c.args in
    let g-gathered = c.well_formed.0.1.1.1.1.1.1.0 in
    let l-gathered : length a.session.gathered ≡ 512 = search rules in
    let g-cells = c.well_formed.0.1.1.1.1.1.1.1.0 in
    let l-cells : length a.session.cells ≡ 512 = search rules in
    let g-row = c.well_formed.0.1.1.1.1.1.1.1.1.0 in
    let l-row : length a.session.row ≡ 872 = search rules in
    let g-arena = c.well_formed.0.1.1.1.1.1.1.1.1.1.0 in
    let l-arena : length a.session.arena ≡ 8704 = search rules in
    let g-ends = c.well_formed.0.1.1.1.1.1.1.1.1.1.1.0 in
    let l-ends : length a.session.ends ≡ 221 = search rules in
    let g-text-firsts = c.well_formed.0.1.1.1.1.1.1.1.1.1.1.1.0 in
    let l-text-firsts : length a.session.text_firsts ≡ 64 = search rules in
    let g-text-seconds = c.well_formed.0.1.1.1.1.1.1.1.1.1.1.1.1.0 in
    let l-text-seconds : length a.session.text_seconds ≡ 64 = search rules in
    let g-kinds = c.well_formed.0.1.1.1.1.1.1.1.1.1.1.1.1.1.0 in
    let l-kinds : length a.session.kinds ≡ 64 = search rules in
    let g-lengths = c.well_formed.0.1.1.1.1.1.1.1.1.1.1.1.1.1.1.0 in
    let l-lengths : length a.session.lengths ≡ 64 = search rules in
    let g-firsts = c.well_formed.0.1.1.1.1.1.1.1.1.1.1.1.1.1.1.1.0 in
    let l-firsts : length a.session.firsts ≡ 64 = search rules in
    let g-seconds = c.well_formed.0.1.1.1.1.1.1.1.1.1.1.1.1.1.1.1.1.0 in
    let l-seconds : length a.session.seconds ≡ 64 = search rules in
    let g-values = c.well_formed.0.1.1.1.1.1.1.1.1.1.1.1.1.1.1.1.1.1.0 in
    let l-values : length a.session.values ≡ 64 = search rules in
    let g-steps = c.well_formed.0.1.1.1.1.1.1.1.1.1.1.1.1.1.1.1.1.1.1.0 in
    let l-steps : length a.session.steps ≡ 64 = search rules in
    record {
      gathered = l-gathered;
      row = l-row;
      lent = record { ends_long = l-ends; texts_long = record { firsts_long = l-text-firsts; seconds_long = l-text-seconds }; lengths_long = l-lengths; registers_long = record { firsts_long = l-firsts; seconds_long = l-seconds } };
      cells = l-cells;
      arena = l-arena;
      kinds = l-kinds;
      numbers = record { values_long = l-values; steps_long = l-steps };
    }

pub returns : goal.returns
returns c =
    rw c.recorded.ensures c.call_parts-ran.ensures
