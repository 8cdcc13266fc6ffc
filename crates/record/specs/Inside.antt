-- A call that takes its block into the source line that is being taken, and does no more. Assumes nothing.
use Rattle.std.specs.Prelude.{◌≡◌, Bool, true, false, List, ℕ, ◌+◌, ◌<◌, length}
use Rattle.std.proofs.Math.Seq.{paste}
use Rattle.source_line.specs.declared.Source.{Source}
use Rattle.source_line.specs.Gathering.{is_inside}
use Rattle.record.specs.declared.Record.{Record}
use Rattle.record.specs.declared.Waiting.{Waiting}
use Rattle.record.specs.declared.Closing.{Closing}
use Rattle.record.specs.declared.Closing.TheVariants.{Open}
use Rattle.record.specs.Turns.{record_of, core_of}

-- an open session for which nothing waits, without work, in the middle of a source line; and a block, not the last, that stays in that line
pub record InsideCall (block : List ℕ) (last : Bool) (depth : ℕ) (s : Source) (w : Waiting) (c : Closing) : Type 0 where
  pub more : last ≡ false
  pub some : 0 < length block
  pub none : w.at ≡ w.end
  pub empty : depth ≡ 0
  pub unended : s.ended ≡ false
  pub unclosed : c ≡ Open
  pub inside : is_inside block s.length ≡ true

pub record InsideJudged (b : Bool) (block : List ℕ) (last : Bool) (depth : ℕ) (s : Source) (w : Waiting) (c : Closing) : Type 0 where
  pub yes : b ≡ true → InsideCall block last depth s w c
  pub no : b ≡ false → InsideCall block last depth s w c → ⊥

-- a source with so many bytes of its line more
abbrev pub longer_source : Source → ℕ → Source
longer_source s n = record { line = s.line; length = s.length + n; ended = s.ended; stored = s.stored }

-- the record with the bytes of a block behind those gathered
abbrev pub with_block : (block : List ℕ) → Record → Record
with_block bl r =
    record_of (core_of r.status (longer_source r.source (length bl)) r.waiting r.closing) (paste r.gathered r.source.length bl (length bl)) r.cells r.row r.arena r.ends r.text_firsts r.text_seconds r.kinds r.lengths r.firsts r.seconds r.values r.steps
