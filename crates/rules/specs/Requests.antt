-- The requests (document 01, 'What is built'), which of them break, and which start the first page ('Rows, pages, traps').
use Rattle.std.specs.Prelude.{Bool, true, false, ◌||◌, List, [], ◌∷◌, Option}
use Prim.Native.Char.{Char}
use Rattle.rules.specs.Bytes.{byte, first_where, entry_of}
use Rattle.rules.specs.Names.{two_bytes, same_name}
use Rattle.rules.specs.declared.Name.{Name}
use Rattle.rules.specs.declared.Mode.{Mode}
use Rattle.rules.specs.declared.Mode.TheVariants.{Plain, Copy}
use Rattle.rules.specs.declared.Breaking.{Breaking}
use Rattle.rules.specs.declared.Breaking.TheVariants.{Br, Sp, Bp, Sets}
use Rattle.rules.specs.declared.LineSetting.TheVariants.{Fi, Nf, Ce, In, Ti}
use Rattle.rules.specs.declared.PageSetting.TheVariants.{Pl, Po, Ll, Ad, Na}
use Rattle.rules.specs.declared.TableChange.TheVariants.{Nr, De, Rm, Wh}
use Rattle.rules.specs.declared.Request.{Request}
use Rattle.rules.specs.declared.Request.TheVariants.{Breaks, Lays, Changes, Ds, If}

-- a request and its name
abbrev pub is : Char → Char → Request → Name × Request
is a b r = (two_bytes (byte a) (byte b), r)

-- "Requests: br sp bp pl po ll in ti fi nf ad na ce nr ds de rm wh if"; "br sp bp fi nf ce in ti break"
abbrev pub requests : List (Name × Request)
requests =
    is "b" "r" (Breaks Br) ∷ is "s" "p" (Breaks Sp) ∷ is "b" "p" (Breaks Bp) ∷ is "p" "l" (Lays Pl) ∷ is "p" "o" (Lays Po)
    ∷ is "l" "l" (Lays Ll) ∷ is "i" "n" (Breaks (Sets In)) ∷ is "t" "i" (Breaks (Sets Ti)) ∷ is "f" "i" (Breaks (Sets Fi))
    ∷ is "n" "f" (Breaks (Sets Nf)) ∷ is "a" "d" (Lays Ad) ∷ is "n" "a" (Lays Na) ∷ is "c" "e" (Breaks (Sets Ce))
    ∷ is "n" "r" (Changes Nr) ∷ is "d" "s" Ds ∷ is "d" "e" (Changes De) ∷ is "r" "m" (Changes Rm) ∷ is "w" "h" (Changes Wh)
    ∷ is "i" "f" If ∷ []

-- the request of a name, if it names one
unfoldable pub request_of : Name → Option Request
unfolding first_where
request_of n = entry_of (first_where (λ e. same_name n e.0) requests)

-- What sets the breaking requests apart.
pub record Traits : Type 0 where
  -- it starts the first page when called with ' too: "sp or bp"
  pub starts : Bool
  -- it has something left to do after its break: all but br
  pub acts : Bool
  -- where it starts the first page, its line is dealt with after the top macro: "A bp that starts the first page does no more"
  pub again : Bool

-- "br sp bp fi nf ce in ti break", each with its traits
abbrev pub traits : Breaking → Traits
traits Br = record { starts = false; acts = false; again = true }
traits Sp = record { starts = true; acts = true; again = true }
traits Bp = record { starts = true; acts = true; again = false }
traits (Sets r) = record { starts = false; acts = true; again = true }

-- "The first page starts at the first text line, break, sp or bp": a break is a breaking request called with a period
abbrev pub starts_page : (period : Bool) → Breaking → Bool
starts_page period r = period || (traits r).starts

-- "ds lines, are in copy mode"
abbrev pub mode_of : Request → Mode
mode_of (Breaks r) = Plain
mode_of (Lays r) = Plain
mode_of (Changes r) = Plain
mode_of Ds = Copy
mode_of If = Plain
