-- What the contracts say of rows, as the rules say it of a layout. Assumes nothing.
use mathlib.Core.Path.{◌≡◌, ap}
use mathlib.Core.List.{List}
use Prim.Native.Nat.{ℕ, ◌+◌, ◌-◌}
use lib.Dec.{ltb}
use Rattle.rules.specs.Settings.{Layout}
use Rattle.rules.specs.Filling.{Word, adjusted, row, printed, spelled, span, indent_now, room_now, full_row, standing_row}
use Rattle.fill.specs.Collected.Filled.{collected_line}
use Rattle.fill.specs.Unfilled.Lines.{standing_of}
use Rattle.fill.proofs.unfilled.Rows.{adjusted_same, left_count}

module _ (y : Layout) (cells : List ℕ) (count indent room next : ℕ) where
  -- a collected line that is written for overflow
  pub full_is : row (y.offset.now + indent) (adjusted y.adjusting (collected_line indent room cells count 1)) ≡ full_row y (collected_line indent room cells count next)
  full_is = ap (row (y.offset.now + indent)) (adjusted_same y.adjusting indent indent room cells count 1 next)

-- a line of nf or ce
pub standing_is : (y : Layout) (ws : List Word) → standing_of y.offset.now (indent_now y) (room_now y) (ltb 0 y.centred) ws ≡ standing_row y ws
standing_is y ws = ap (λ (n : ℕ). row (y.offset.now + indent_now y + n) (printed (spelled ws))) (left_count y.centred (room_now y - span ws))
