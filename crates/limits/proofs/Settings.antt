-- pl, po, ll, in, ti and ce keep to the limits. Assumes nothing.
use Rattle.std.specs.Prelude.{◌&&◌, List, [], ◌∷◌, ℕ, suc, ◌≤◌, leb, ℤ, pos, negsuc}
use Rattle.std.proofs.Common.{arith, leb-true}
use Rattle.rules.specs.Printers.{Printer}
use Rattle.rules.specs.Laws.Refusals.{both}
use Rattle.rules.specs.Numbers.{cells, rows, signed}
use Rattle.rules.specs.Laws.Numbers.{Bounded}
use Rattle.rules.proofs.Laws.Numbers.{units_bounded}
use Rattle.rules.specs.Settings.{Setting, changed, in_range, line_range}
use Rattle.rules.specs.LayoutSetters.{with_total}
use Rattle.rules.specs.State.{State}
use Rattle.rules.specs.StateSetters.{with_layout}
use Rattle.rules.specs.Acts.{count_of, setting, page_length, indent_total, spacing, centring}
use Rattle.limits.specs.Within.{Ranged, Within}
use Rattle.limits.proofs.Parts.{is_7}
use Rattle.limits.proofs.Numbered.{cells_numbered, rows_numbered, units_numbered}
use Rattle.limits.proofs.Fair.{Fair, fine, refusal, fair, fair_any, fair_of, fair_judge}

-- a value in a range is between its ends
pub range_fair : (low high : ℕ) (z : ℤ) → Fair (λ n. (low ≤ n) × (n ≤ high)) (in_range low high z)
range_fair low high (pos n) =
    fair_judge (leb low n && leb n high) 7 n is_7 (λ h. let t = both (leb low n) (leb n high) h in (leb-true low n t.0, leb-true n high t.1))
range_fair low high (negsuc n) = refusal is_7

count_most : (z : ℤ) → Bounded z → count_of z ≤ 1000000000
count_most (pos n) h = h
count_most (negsuc n) h = omega arith

module _ (p : Printer) where
  -- any setting, given or refused
  pub setting_fair : (low high : ℕ) (old : Setting) (l : List ℕ) → Fair (λ (v : Setting). Unit) (setting p (in_range low high) old l)
  setting_fair low high old [] = fine tt
  setting_fair low high old (b ∷ l) =
      fair_of _ (fair_any (cells p.pitch (b ∷ l)) (cells_numbered p.pitch (b ∷ l)))
      (λ v u. fair_of _ (range_fair low high (changed (signed (b ∷ l)) old.now v)) (λ n k. fine tt))

  -- "ll 1 to 240 cells"
  pub line_fair : (old : Setting) (l : List ℕ) → Ranged old → Fair Ranged (setting p line_range old l)
  line_fair old [] h = fine (record { least = h.former_least; most = h.former_most; former_least = h.least; former_most = h.most })
  line_fair old (b ∷ l) h =
      fair_of _ (fair_any (cells p.pitch (b ∷ l)) (cells_numbered p.pitch (b ∷ l)))
      (λ v u. fair_of _ (range_fair 1 240 (changed (signed (b ∷ l)) old.now v)) (λ n k. fine (record { least = k.0; most = k.1; former_least = h.least; former_most = h.most })))

  pub page_fair : (used old : ℕ) (l : List ℕ) → Fair (λ n. (suc used ≤ n) × (n ≤ 500)) (page_length p used old l)
  page_fair used old [] = range_fair (suc used) 500 (pos p.page)
  page_fair used old (b ∷ l) =
      fair_of _ (fair_any (rows p.pitch (b ∷ l)) (rows_numbered p.pitch (b ∷ l))) (λ v u. range_fair (suc used) 500 (changed (signed (b ∷ l)) old v))

  -- ti changes its total alone
  pub total_fair : (s : State) (l : List ℕ) → Within s → Fair (λ y. Within (with_layout y s)) (indent_total p l s.layout)
  total_fair s [] h = fine h
  total_fair s (b ∷ l) h =
      fair_of _ (fair_any (cells p.pitch (b ∷ l)) (cells_numbered p.pitch (b ∷ l)))
      (λ v u. fair_of _ (range_fair 0 239 (changed (signed (b ∷ l)) s.layout.indent.now v)) (λ n k. fine {a = with_total _ s.layout} h))

  pub spacing_fair : (l : List ℕ) → Fair (λ (z : ℤ). Unit) (spacing p l)
  spacing_fair [] = fine tt
  spacing_fair (b ∷ l) = fair_any (rows p.pitch (b ∷ l)) (rows_numbered p.pitch (b ∷ l))

  -- "result outside ±1,000,000,000": so many lines are centred at most
  pub centring_fair : (l : List ℕ) → Fair (λ n. n ≤ 1000000000) (centring p l)
  centring_fair [] = fine {a = 1} (omega arith)
  centring_fair (b ∷ l) = fair_of _ (fair (units_bounded p.pitch (b ∷ l)) (units_numbered p.pitch (b ∷ l))) (λ z h. fine (count_most z h))
