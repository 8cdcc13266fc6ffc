-- Laws of the requests that set the layout. Assumes nothing.
use Rattle.std.specs.Prelude.{◌≡◌, refl, ◌&&◌, List, [], ◌∷◌, ℕ, suc, ◌≤◌, ◌<◌, leb, ℤ, pos, negsuc}
use Rattle.std.proofs.Common.{leb-true}
use Rattle.rules.specs.Printers.{Printer}
use Rattle.rules.specs.declared.LineSetting.{LineSetting}
use Rattle.rules.specs.declared.LineSetting.TheVariants.{Fi, Nf, Ce, In, Ti}
use Rattle.rules.specs.declared.PageSetting.{PageSetting}
use Rattle.rules.specs.declared.PageSetting.TheVariants.{Pl, Po, Ll, Ad, Na}
use Rattle.rules.specs.Laws.Refusals.{Every, every_value, every_refused, every, every_of, tested_every, both}
use Rattle.rules.specs.Numbers.{cells, rows, signed}
use Rattle.rules.specs.Settings.{Layout, changed, in_range, line_range, indent_range, offset_range}
use Rattle.rules.specs.Acts.{setting, page_length, indent_total, centring, set_line, set_page}

-- a value in a range is at least the low end and at most the high one
pub record Between (low high n : ℕ) : Type 0 where
  pub least : low ≤ n
  pub most : n ≤ high

pub in_range_lem : (low high : ℕ) (z : ℤ) → Every (Between low high) (in_range low high z)
in_range_lem low high (pos n) = tested_every (leb low n && leb n high) 7 n (λ h. let b = both (leb low n) (leb n high) h in record { least = leb-true low n b.0; most = leb-true n high b.1 })
in_range_lem low high (negsuc n) = every_refused

-- "pl 1 to 500 rows and above the rows already used on the page": so many are used, and a page is so long
abbrev pub PageAbove : (used : ℕ) → Layout → Type 0
PageAbove u y = (u < y.page) × (y.page ≤ 500)

module _ (p : Printer) where
  pub page_between : (used old : ℕ) (l : List ℕ) → Every (Between (suc used) 500) (page_length p used old l)
  page_between used old [] = in_range_lem (suc used) 500 (pos p.page)
  page_between used old (b ∷ l) = every (rows p.pitch (b ∷ l)) _ (λ v. in_range_lem (suc used) 500 (changed (signed (b ∷ l)) old v))

  total_page : (l : List ℕ) (y : Layout) → Every (λ z. z.page ≡ y.page) (indent_total p l y)
  total_page [] y = every_value refl
  total_page (b ∷ l) y = every (cells p.pitch (b ∷ l)) _ (λ v. every (indent_range (changed (signed (b ∷ l)) y.indent.now v)) _ (λ n. every_value refl))

  -- no request that breaks changes the page length
  pub set_line_page : (r : LineSetting) (l : List ℕ) (y : Layout) → Every (λ z. z.page ≡ y.page) (set_line p r l y)
  set_line_page Fi l y = every_value refl
  set_line_page Nf l y = every_value refl
  set_line_page Ce l y = every (centring p l) _ (λ n. every_value refl)
  set_line_page In l y = every (setting p indent_range y.indent l) _ (λ v. every_value refl)
  set_line_page Ti l y = total_page l y

  -- the page stays above the rows used on it
  pub set_page_above : (r : PageSetting) (used : ℕ) (l : List ℕ) (y : Layout) → PageAbove used y → Every (PageAbove used) (set_page p r used l y)
  set_page_above Pl u l y h = every_of _ (page_between u y.page l) (λ n k. every_value (k.least, k.most))
  set_page_above Po u l y h = every (setting p offset_range y.offset l) _ (λ v. every_value h)
  set_page_above Ll u l y h = every (setting p line_range y.line l) _ (λ v. every_value h)
  set_page_above Ad u l y h = every_value h
  set_page_above Na u l y h = every_value h
