-- Whether a lent record keeps to its limits ("1: .. the record breaks a limit below"): one test for each part. Assumes nothing.
use Rattle.std.specs.Prelude.{◌≡◌, Option, Some, None, Bool, true, false, ◌&&◌, List, [], ◌∷◌, ℕ, zero, suc, ◌+◌, ◌*◌, leb, ltb, eqb, ℤ, pos, negsuc, length, take, drop, unwrap_or}
use Rattle.measure.specs.declared.Rows.{Rows}
use Rattle.measure.specs.Counts.{across_of, down_of}
use Rattle.rules.specs.declared.Name.{Name}
use Rattle.registers.specs.Checks.Checks as registers
use Rattle.texts.specs.Table.Places.{text_place}
use Rattle.texts.specs.Table.Table.{total_length, names_of}
use Rattle.texts.specs.Table.Checks as texts
use Rattle.traps.specs.declared.table.Planted.{Planted}
use Rattle.settings.specs.declared.lengths.Setting.{Setting}
use Rattle.measure.specs.declared.Cells.{Cells}
use Rattle.settings.specs.declared.layout.Layout.{Layout}
use Rattle.settings.specs.Layout.Layouts.{total_of}
use Rattle.input_stack.specs.declared.frames.What.{What}
use Rattle.input_stack.specs.declared.frames.What.TheVariants as what
use Rattle.input_stack.specs.declared.stack.Entry.{Entry}
use Rattle.input_stack.specs.declared.stack.Stack.{Stack}
use Rattle.input_stack.specs.Stack.Frames.{entry_at, top_entry}
use Rattle.page.specs.declared.position.Page.{Page}
use Rattle.page.specs.Springs.Held.{is_text, limit_by}
use Rattle.composition.specs.declared.page_rows.Collected.{Collected}
use Rattle.state.specs.declared.Opening.{Opening}
use Rattle.state.specs.declared.Status.{Status}

-- what the types of the lent arrays say of their lengths
pub record Lent (ends textFirsts textSeconds lengths firsts seconds : List ℕ) : Type 0 where
  pub ends_long : length ends ≡ 221
  pub texts_long : texts.NameColumns textFirsts textSeconds
  pub lengths_long : length lengths ≡ 64
  pub registers_long : registers.NameColumns firsts seconds

-- the same of the arrays that no test reads, beside a store of so many bytes
pub record Beside (size : ℕ) (cells arena store kinds : List ℕ) (values steps : List ℤ) : Type 0 where
  pub cells_long : length cells ≡ 512
  pub arena_long : length arena ≡ 8704
  pub store_long : length store ≡ size
  pub kinds_long : length kinds ≡ 64
  pub numbers_long : registers.NumberColumns values steps

-- a setting and the value before it are at most so many cells
abbrev pub is_setting : (most : ℕ) → Setting → Bool
is_setting m s = leb (across_of s.now) m && leb (across_of s.former) m

-- "pl 1 to 500 rows"
abbrev pub is_length : Rows → Bool
is_length r = leb 1 (down_of r) && leb (down_of r) 500

-- "the ti total 0 to 239"
abbrev pub is_total : Option Cells → Bool
is_total t = leb (unwrap_or (total_of t) 0) 239

-- "ll 1 to 240 cells, in and the ti total 0 to 239, po 0 to 120, pl 1 to 500 rows": the most of each, and the least of pl
unfoldable pub is_layout : Layout → Bool
is_layout y = is_setting 240 y.line && is_setting 239 y.indent && is_setting 120 y.offset && is_length y.page && is_total y.total

-- "pl .. above the rows already used on the page"; "12: past 1,000,000 .. pages"
unfoldable pub is_page : Page → (length : Rows) → Bool
is_page g r = ltb (down_of g.used) (down_of r) && leb g.number 1000000

-- a gap of 0 to 2 cells
abbrev pub is_gap : ℤ → Bool
is_gap (pos n) = leb n 2
is_gap (negsuc n) = false

-- "expanded line passes 512 bytes" is refused, so no more cells are collected; a line's room is ll at most, its indent "0 to 239", and "the gap .. is 1, or 2"
unfoldable pub is_collected : Collected → Bool
is_collected c = leb c.length 512 && leb (across_of c.room) 512 && leb (across_of c.indent) 239 && is_gap c.next.0

-- "17th trap"
abbrev pub is_planted : Planted → Bool
is_planted p = leb p.count 16

-- the settings, the page, the collected line and the traps
unfoldable pub is_page_state : Status → Bool
is_page_state s = is_layout s.layout && is_page s.page s.layout.page && is_collected s.collected && is_planted s.planted

-- whether each of some places is not before the one in front of it, and none is past the end
unfoldable pub ends_in_order : (from end : ℕ) → List ℕ → Bool
ends_in_order from end [] = true
ends_in_order from end (p ∷ ps) = leb from p && leb p end && ends_in_order p end ps

-- "past nine are dropped": at most nine arguments, each within so many bytes and not before it begins
abbrev pub are_arguments : (ends : List ℕ) → (count size : ℕ) → Bool
are_arguments es n size = leb n 9 && ends_in_order 0 size (take n es)

-- whether a name has a place
abbrev pub is_at : Option ℕ → Bool
is_at (Some i) = true
is_at None = false

-- a text that is read is there, with its arguments; "the gap between input lines is 1, or 2"
unfoldable pub is_item : List Name → What → (size : ℕ) → (ends : List ℕ) → Bool
is_item ns (what.Reading n k c) size es = are_arguments es c size && is_at (text_place n ns)
is_item ns what.Text size es = true
is_item ns (what.Control q n) size es = true
is_item ns what.Ignored size es = true
is_item ns (what.Others g) size es = leb g 2
is_item ns (what.Acts r) size es = true
is_item ns (what.Ejects p) size es = true

-- "a source line or expanded line passes 512 bytes": no frame has more
abbrev pub is_frame : List Name → Entry → (ends : List ℕ) → Bool
is_frame ns e es = leb e.size 512 && is_item ns e.what e.size es

-- each frame below a depth
unfoldable pub are_frames : List Name → (ends : List ℕ) → (depth : ℕ) → Bool
are_frames ns ps zero = true
are_frames ns ps (suc d) = is_frame ns (entry_at ps d) (take 9 (drop (d * 13 + 4) ps)) && are_frames ns ps d

-- "input stack past 16 items": 16, and one that is no text for a moment over them
abbrev pub is_depth : Stack → (ends : List ℕ) → Bool
is_depth s ps = leb s.depth 17 && leb s.depth (limit_by (is_text (top_entry s ps).what))

-- the input stack, over texts of these names
unfoldable pub is_stack : List Name → Stack → (ends : List ℕ) → Bool
is_stack ns s ps = is_depth s ps && are_frames ns ps s.depth

-- "live text past 8,192 bytes", "65th name": the body of an open definition lies behind the texts, and a row is left for it
abbrev pub is_opening_if : (there : Bool) → Opening → (lengths : List ℕ) → (count store : ℕ) → Bool
is_opening_if true o ls n st = ltb n 64 && leb o.length 8192 && leb (total_length (take n ls) + o.length) st
is_opening_if false o ls n st = true

abbrev pub is_opening : Opening → (lengths : List ℕ) → (count store : ℕ) → Bool
is_opening o ls n st = is_opening_if o.there o ls n st

-- "store not 8,192 long"; "65th name .. or live text past 8,192 bytes"; the open definition
unfoldable pub are_texts : Status → (store : ℕ) → (lengths : List ℕ) → Bool
are_texts s st ls = eqb st 8192 && texts.is_text_table st ls s.texts && is_opening s.opening ls s.texts st

-- all limits of a record: those of the page state, the texts in their store, "65th register", and the input stack
unfoldable pub is_sound : Status → (store : ℕ) → (ends textFirsts textSeconds lengths firsts seconds : List ℕ) → Bool
is_sound s st ps tf ts ls fs ss =
    is_page_state s && are_texts s st ls && registers.is_register_table fs ss s.registers && is_stack (names_of tf ts s.texts) s.stack ps
