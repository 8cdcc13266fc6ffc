-- Whether a lent record keeps to the other limits, those that every state of the rules keeps to: one test for each. Assumes nothing.
use Rattle.std.specs.Prelude.{Bool, true, false, not, ◌&&◌, ◌||◌, List, [], ◌∷◌, ℕ, zero, suc, ◌+◌, leb, eqb, ℤ, take}
use Rattle.measure.specs.Counts.{across_of}
use Rattle.rules.specs.declared.Name.{Name}
use Rattle.rules.specs.declared.Trap.{Trap}
use Rattle.rules.specs.Rows.{the_end}
use Rattle.registers.specs.Checks.Checks as registers
use Rattle.texts.specs.Table.Places.{text_place}
use Rattle.texts.specs.Table.Table.{names_of}
use Rattle.texts.specs.Table.Checks as texts
use Rattle.traps.specs.Table.Table.{planted_of}
use Rattle.traps.specs.Table.Checks as traps
use Rattle.settings.specs.declared.lengths.Setting.{Setting}
use Rattle.settings.specs.declared.layout.Layout.{Layout}
use Rattle.input_stack.specs.declared.stack.Stack.{Stack}
use Rattle.input_stack.specs.Stack.Frames.{entry_at, top_entry}
use Rattle.page.specs.Springs.Held.{is_text, limit_by}
use Rattle.state.specs.declared.Status.{Status}
use Rattle.record_checks.specs.Soundness.Checks.{is_at}

-- what the types of the lent arrays of the tables say of their lengths
pub record LentTables (textFirsts textSeconds : List ℕ) (values steps : List ℤ) : Type 0 where
  pub texts_long : texts.NameColumns textFirsts textSeconds
  pub registers_long : registers.NumberColumns values steps

-- "6: .. result outside ±1,000,000,000": the row of a trap is the result of an expression
unfoldable pub are_places : List Trap → Bool
are_places [] = true
are_places (t ∷ ts) = registers.in_bounds t.place.0 && are_places ts

-- "the old text counts as gone when the new definition starts", and "A macro exists once closed": no text has the name of an open definition
abbrev pub is_gone : (there : Bool) → Name → List Name → Bool
is_gone true n ns = not (is_at (text_place n ns))
is_gone false n ns = true

-- "6: .. literal, step or result outside ±1,000,000,000" of the registers; "the same N is replaced" and its range; one text for a name, and none for that of an open definition
unfoldable pub are_tables : Status → (textFirsts textSeconds : List ℕ) → (values steps : List ℤ) → Bool
are_tables s tf ts vs us =
    registers.is_bounded vs us s.registers && traps.is_trap_table s.planted && are_places (planted_of s.planted)
    && texts.no_name_twice tf ts s.texts && is_gone s.opening.there s.opening.name (names_of tf ts s.texts)

-- "ll 1 to 240 cells", and the value before
abbrev pub is_ranged : Setting → Bool
is_ranged v = leb 1 (across_of v.now) && leb (across_of v.now) 240 && leb 1 (across_of v.former) && leb (across_of v.former) 240

-- ll; the lines that ce has still to centre were the result of an expression: "6: .. result outside ±1,000,000,000"
unfoldable pub are_settings : Layout → Bool
are_settings y = is_ranged y.line && leb y.centred 1000000000

-- "2: a source byte other than 10 and 32 to 126": 10 is no byte of a line
unfoldable pub are_bytes : List ℕ → Bool
are_bytes [] = true
are_bytes (b ∷ l) = leb 32 b && leb b 126 && are_bytes l

-- no such byte
abbrev pub odd_byte : ℕ → Bool
odd_byte b = not (leb 32 b && leb b 126)

-- "a source line .. passes 512 bytes": no more are gathered
abbrev pub is_gathered : (gathered : List ℕ) → (length : ℕ) → Bool
is_gathered g n = leb n 512 && are_bytes (take n g)

-- the items below a depth: one that is no text lies on a text, or at the bottom; `held` says that one lies on them
unfoldable pub layered_to : (held : Bool) → (ends : List ℕ) → (depth : ℕ) → Bool
layered_to held ps zero = true
layered_to held ps (suc d) = (is_text (entry_at ps d).what || not held) && layered_to (not (is_text (entry_at ps d).what)) ps d

-- "10: input stack past 16 items (texts; lines, requests or the end with work left after a trap)": work is held over a text
abbrev pub is_layered : Stack → (ends : List ℕ) → Bool
is_layered s ps = leb s.depth 17 && layered_to false ps s.depth

-- the same: 16 with the end, once it has begun, and one that is no text for a moment over them
abbrev pub is_deep : (last : Bool) → Stack → (ends : List ℕ) → Bool
is_deep e s ps = leb (s.depth + the_end e) (limit_by (is_text (top_entry s ps).what))

-- what comes next is a line: of the source, or of the text on top
abbrev pub is_next : Stack → (ends : List ℕ) → Bool
is_next s ps = eqb s.depth 0 || is_text (top_entry s ps).what

-- "8: a macro definition not ended when its input ends": while one is open, in a session that is not closed, lines come next
abbrev pub is_open_over : (running there : Bool) → Stack → (ends : List ℕ) → Bool
is_open_over true true s ps = is_next s ps
is_open_over true false s ps = true
is_open_over false t s ps = true

-- the items on the input stack
unfoldable pub is_pile : Status → (running : Bool) → (ends : List ℕ) → Bool
is_pile s running ps = is_layered s.stack ps && is_deep s.page.last s.stack ps && is_open_over running s.opening.there s.stack ps

-- all these limits, of a session that is open or closed, with so many bytes gathered
unfoldable pub is_within : Status → (running : Bool) → (ends gathered : List ℕ) → (length : ℕ) → (textFirsts textSeconds : List ℕ) → (values steps : List ℤ) → Bool
is_within s running ps g n tf ts vs us = are_tables s tf ts vs us && are_settings s.layout && is_gathered g n && is_pile s running ps
