-- Macros and strings (document 01, 'Lines and escapes' and 'Refusal numbers'). Assumes nothing.
use Rattle.std.specs.Prelude.{true, false, ◌&&◌, List, [], ◌∷◌, ◌++◌, ℕ, suc, ◌+◌, leb, ltb, length, Option}
use Rattle.rules.specs.Bytes.{newline, first_where}
use Rattle.rules.specs.declared.Name.{Name}
use Rattle.rules.specs.Names.{same_name}
use Rattle.rules.specs.Refusals.{Judged, judge}
use Rattle.rules.specs.declared.Kind.{Kind}
use Rattle.rules.specs.declared.Kind.TheVariants.{Macro, String}

-- "String bytes and macro lines with a newline each are live text"
pub record Text : Type 0 where
  pub name : Name
  pub kind : Kind
  pub bytes : List ℕ

-- a text, field by field
abbrev pub text : Name → Kind → List ℕ → Text
text n k l = record { name = n; kind = k; bytes = l }

-- the text of a name: "the string's own bytes", or a macro's
unfoldable pub text_of : Name → List Text → Option Text
unfolding first_where
text_of n ts = first_where (λ t. same_name n t.name) ts

-- "The room of redefined or removed text is used again"
unfoldable pub remove : Name → List Text → List Text
remove n [] = []
remove n (t ∷ ts) = elim (same_name n t.name) [ true ↦ ts | false ↦ t ∷ remove n ts ]

-- "String bytes and macro lines with a newline each are live text"
unfoldable pub live : List Text → ℕ
live [] = 0
live (t ∷ ts) = length t.bytes + live ts

-- ds: a string in the place of what had its name; "the old text counts as gone when the new definition starts";
-- "11: .. 65th name .. or live text past" so many bytes
unfoldable pub define_string_in : (room : ℕ) → Name → List ℕ → List Text → Judged (List Text)
unfolding remove live
define_string_in room n l ts =
    let others = remove n ts in
    judge (ltb (length others) 64 && leb (live others + length l) room) 11 (others ++ text n String l ∷ [])

-- "11: .. 65th name .. or live text past 8,192 bytes"
abbrev pub define_string : Name → List ℕ → List Text → Judged (List Text)
define_string n l ts = define_string_in 8192 n l ts

-- de: the texts while a macro is open; the old text is gone, and "A macro exists once closed"
unfoldable pub open_macro : Name → List Text → Judged (List Text)
unfolding remove
open_macro n ts = let others = remove n ts in judge (ltb (length others) 64) 11 others

-- a body line behind those before it, within so many bytes of live text
unfoldable pub keep_line_in : (room : ℕ) → List Text → (body line : List ℕ) → Judged (List ℕ)
unfolding live
keep_line_in room ts body line = judge (leb (live ts + (length body + suc (length line))) room) 11 (body ++ line ++ newline ∷ [])

-- "live text past 8,192 bytes"
abbrev pub keep_line : List Text → (body line : List ℕ) → Judged (List ℕ)
keep_line ts body line = keep_line_in 8192 ts body line

-- "A macro exists once closed"
abbrev pub close_macro : Name → (body : List ℕ) → List Text → List Text
close_macro n body ts = ts ++ text n Macro body ∷ []
