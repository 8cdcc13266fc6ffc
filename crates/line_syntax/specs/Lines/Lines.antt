-- What a line is and what name an argument is, as the code's answers stand for them. Assumes nothing.
use Rattle.std.specs.Prelude.{◌≡◌, refl, Bool, List, ℕ, Option, None, Some, ◌≤◌, length, drop}
use Rattle.rules.specs.declared.Name.{Name}
use Rattle.rules.specs.Names.{Named, no_name, one, too_long, name_of}
use Rattle.rules.specs.Refusals.{Judged, value, bad}
use Rattle.rules.specs.Arguments.{first_word}
use Rattle.rules.specs.State as state
use Rattle.rules.specs.Lines.{line_of, named_line}
use Rattle.line_syntax.specs.declared.lines.Line.{Line}
use Rattle.line_syntax.specs.declared.lines.Line.TheVariants.{Text, Control, Ignored}

-- the name that an argument is, if it is there: "7: a name argument longer than two bytes"
abbrev pub name_judged : Named → Judged (Option Name)
name_judged no_name = value None
name_judged (one n) = value (Some n)
name_judged too_long = bad 7

-- An answer tells what the name is that it judges.
pub one_judged : (n : Name) (m : Named) → value (Some n) ≡ name_judged m → one n ≡ m
one_judged n no_name e = cc
one_judged n (one k) e = cc
one_judged n too_long e = cc

pub none_judged : (m : Named) → value None ≡ name_judged m → no_name ≡ m
none_judged no_name e = refl
none_judged (one k) e = cc
none_judged too_long e = cc

pub long_judged : (k : ℕ) (m : Named) → bad k ≡ name_judged m → (too_long ≡ m) × (k ≡ 7)
long_judged k no_name e = cc
long_judged k (one n) e = cc
long_judged k too_long e = (refl, cc)

-- the rules' line of an answer: what follows a name begins at a place of the line
abbrev pub line_is : List ℕ → Line → state.Line
line_is l Text = state.plain_text l
line_is l (Control q n at) = state.control q n (drop at l)
line_is l Ignored = state.ignored

-- that place lies within the line
abbrev pub PlaceInside : List ℕ → Line → Type 0
PlaceInside l Text = Unit
PlaceInside l (Control q n at) = at ≤ length l
PlaceInside l Ignored = Unit

-- "A line whose first raw byte is . or ' is a control line"
pub record LineIs (l : List ℕ) (r : Line) : Type 0 where
  pub is : line_is l r ≡ line_of l
  pub inside : PlaceInside l r

-- "Its name is the raw bytes directly after that one up to a space", of a control line
pub record ControlIs (l : List ℕ) (period : Bool) (r : Line) : Type 0 where
  pub is : line_is l r ≡ named_line (name_of (first_word (drop 1 l)).part) period (first_word (drop 1 l)).rest
  pub inside : PlaceInside l r
