-- The starting record. Assumes nothing.
use Rattle.std.specs.Prelude.{◌≡◌, None, refl, true, false, List, ℕ, length, replicate, ℤ, pos}
use Rattle.std.proofs.Common.{sym, subst, arith}
use Rattle.std.proofs.lemmas.List.{length-replicate}
use Rattle.measure.specs.Counts.{cells_across, rows_down}
use Rattle.stream.specs.Condition3.{Call, Condition3}
use Rattle.rules.specs.Printers.{ten_to_the_inch}
use Rattle.rules.specs.State.{start}
use Rattle.rules.specs.Pages.{pages}
use Rattle.limits.specs.Within.{Within, ten_within}
use Rattle.settings.specs.declared.lengths.Setting.{Setting}
use Rattle.settings.specs.declared.layout.Layout.{Layout}
use Rattle.settings.specs.Layout.Layouts.{layout_of, LayoutInvariant}
use Rattle.traps.specs.Table.Table.{empty_table}
use Rattle.input_stack.specs.Stack.Frames.{no_frames, frames_to}
use Rattle.input_stack.specs.Stack.Items.{items_of}
use Rattle.texts.specs.Table.Table.{cut, lies_none}
use Rattle.composition.specs.PageRows.PageState.{no_line}
use Rattle.state.specs.declared.Status.{Status}
use Rattle.source_line.specs.declared.Source.{Source}
use Rattle.record.specs.declared.Record.{Record}
use Rattle.record.specs.declared.RecordCore.{RecordCore}
use Rattle.record.specs.View.{state_of, ValidRecord, RecordInvariant}
use Rattle.record.specs.Turns.{record_of, resting}
use Rattle.session.specs.Calls.{SessionCalls, condition_3_from}

-- a setting of so many cells
abbrev pub steady_setting : ℕ → Setting
steady_setting n = record { now = cells_across n; former = cells_across n }

-- "Start: ll 65, in 0, po 0, pl 66, filling and adjusting on"
abbrev pub first_layout : Layout
first_layout = record { line = steady_setting 65; indent = steady_setting 0; offset = steady_setting 0; page = rows_down 66; total = None; filling = true; adjusting = true; centred = 0 }

-- no page, no collected line, no trap, nothing on the stack, no text and no register
abbrev pub first_status : Status
first_status = record {
  layout = first_layout;
  page = record { number = 0; used = rows_down 0; last = false };
  collected = no_line;
  planted = empty_table;
  stack = no_frames;
  texts = 0;
  opening = record { there = false; name = record { first = 0; second = 0 }; length = 0 };
  registers = 0;
}

abbrev pub first_source : Source
first_source = record { line = 0; length = 0; ended = false; stored = 0 }

-- what is no array of the starting record
abbrev pub start_place : RecordCore
start_place = resting first_status first_source

-- the record of a session that begins, with these arrays
abbrev pub start_with : (g cs row bs ps tf ts ks ls fs ss : List ℕ) → (vs us : List ℤ) → Record
start_with g cs row bs ps tf ts ks ls fs ss vs us = record_of start_place g cs row bs ps tf ts ks ls fs ss vs us

-- THE STARTING RECORD
abbrev pub start_record : Record
start_record = start_with (replicate 512 0) (replicate 512 0) (replicate 872 0) (replicate 8704 0) (replicate 221 0) (replicate 64 0) (replicate 64 0) (replicate 64 0) (replicate 64 0) (replicate 64 0) (replicate 64 0) (replicate 64 (pos 0)) (replicate 64 (pos 0))

-- the arrays have their lengths
pub record Long (g cs row bs ps tf ts ks ls fs ss : List ℕ) (vs us : List ℤ) : Type 0 where
  pub gathered_long : length g ≡ 512
  pub cells_long : length cs ≡ 512
  pub row_long : length row ≡ 872
  pub arena_long : length bs ≡ 8704
  pub ends_long : length ps ≡ 221
  pub text_firsts_long : length tf ≡ 64
  pub text_seconds_long : length ts ≡ 64
  pub kinds_long : length ks ≡ 64
  pub lengths_long : length ls ≡ 64
  pub firsts_long : length fs ≡ 64
  pub seconds_long : length ss ≡ 64
  pub values_long : length vs ≡ 64
  pub steps_long : length us ≡ 64

limits : LayoutInvariant (layout_of first_layout)
limits = record {
  line = omega arith;
  line_former = omega arith;
  indent = omega arith;
  indent_former = omega arith;
  offset = omega arith;
  offset_former = omega arith;
  page_least = omega arith;
  page_most = omega arith;
  total = omega arith;
}

-- it is within its limits, and stands for the rules' start
pub formed_with : (g cs row bs ps tf ts ks ls fs ss : List ℕ) (vs us : List ℤ) → Long g cs row bs ps tf ts ks ls fs ss vs us → (st : List ℕ) → length st ≡ 8192
    → RecordInvariant (start_with g cs row bs ps tf ts ks ls fs ss vs us) st
unfolding frames_to items_of cut
formed_with g cs row bs ps tf ts ks ls fs ss vs us h st e = record {
  sound = record {
    page_state = record {
      limits = limits;
      above = omega arith;
      numbered = omega arith;
      few = omega arith;
      line = record { long = h.cells_long; few = omega arith; narrow = omega arith };
      indent = omega arith;
      next = record { plain = refl; most = omega arith };
      columns = record { few = omega arith; long = h.arena_long; ends_long = h.ends_long; sizes = λ i k. absurd (omega arith) };
    };
    lies = lies_none st tf ts ks ls h.text_firsts_long h.text_seconds_long h.kinds_long h.lengths_long;
    store = e;
    good = tt;
    opens = tt;
    table = record { names = record { firsts_long = h.firsts_long; seconds_long = h.seconds_long; few = omega arith }; values_long = h.values_long; steps_long = h.steps_long; sorted = tt };
  };
  fits = omega arith;
  gathered_long = h.gathered_long;
  row_long = h.row_long;
  short = omega arith;
  numbered = omega arith;
  counted = omega arith;
  order = omega arith;
  inside = omega arith;
}

state_with : (g cs row bs ps tf ts ks ls fs ss : List ℕ) (vs us : List ℤ) (st : List ℕ) → state_of (start_with g cs row bs ps tf ts ks ls fs ss vs us) st ≡ start ten_to_the_inch
unfolding frames_to items_of cut
state_with g cs row bs ps tf ts ks ls fs ss vs us st = refl

long : Long (replicate 512 0) (replicate 512 0) (replicate 872 0) (replicate 8704 0) (replicate 221 0) (replicate 64 0) (replicate 64 0) (replicate 64 0) (replicate 64 0) (replicate 64 0) (replicate 64 0) (replicate 64 (pos 0)) (replicate 64 (pos 0))
long = record { gathered_long = length-replicate {A = ℕ} 512 0; cells_long = length-replicate {A = ℕ} 512 0; row_long = length-replicate {A = ℕ} 872 0; arena_long = length-replicate {A = ℕ} 8704 0; ends_long = length-replicate {A = ℕ} 221 0; text_firsts_long = length-replicate {A = ℕ} 64 0; text_seconds_long = length-replicate {A = ℕ} 64 0; kinds_long = length-replicate {A = ℕ} 64 0; lengths_long = length-replicate {A = ℕ} 64 0; firsts_long = length-replicate {A = ℕ} 64 0; seconds_long = length-replicate {A = ℕ} 64 0; values_long = length-replicate {A = ℤ} 64 (pos 0); steps_long = length-replicate {A = ℤ} 64 (pos 0) }

-- It stands for the rules' start.
pub start_state : (st : List ℕ) → state_of start_record st ≡ start ten_to_the_inch
start_state st = state_with (replicate 512 0) (replicate 512 0) (replicate 872 0) (replicate 8704 0) (replicate 221 0) (replicate 64 0) (replicate 64 0) (replicate 64 0) (replicate 64 0) (replicate 64 0) (replicate 64 0) (replicate 64 (pos 0)) (replicate 64 (pos 0)) st

-- The starting record is within its limits, over any store of 8,192 bytes.
pub start_valid : (st : List ℕ) → length st ≡ 8192 → ValidRecord start_record st
start_valid st e = record { formed = formed_with (replicate 512 0) (replicate 512 0) (replicate 872 0) (replicate 8704 0) (replicate 221 0) (replicate 64 0) (replicate 64 0) (replicate 64 0) (replicate 64 0) (replicate 64 0) (replicate 64 0) (replicate 64 (pos 0)) (replicate 64 (pos 0)) long st e; within = subst Within (sym (start_state st)) ten_within }

-- CONDITION 3: for every document, every store of 8,192 bytes and every list of calls from the starting record on.
pub session_condition_3 : (doc store : List ℕ) (calls : List Call) → length store ≡ 8192 → SessionCalls start_record store doc calls → Condition3 (pages ten_to_the_inch doc) calls
session_condition_3 doc store calls e cs = condition_3_from start_record store (start_valid store e) refl (start_state store) doc calls cs
