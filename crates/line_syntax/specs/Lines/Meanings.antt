-- What a control line's name stands for. Assumes nothing.
use Rattle.std.specs.Prelude.{◌≡◌, List, ℕ, ◌≤◌, Option, None, Some}
use Rattle.std.proofs.Common.{ap}
use Rattle.rules.specs.declared.Name.{Name}
use Rattle.rules.specs.declared.Kind.{Kind}
use Rattle.rules.specs.Texts.{Text, text_of}
use Rattle.rules.specs.ControlLines.{calls, means_request, nothing, text_meaning, prefix_of}
use Rattle.line_syntax.specs.declared.lines.Meaning.{Meaning}
use Rattle.line_syntax.specs.declared.lines.Meaning.TheVariants.{Calls, Requests}

-- the text that a name calls
pub record CallsText (ts : List Text) (n : Name) (k : Kind) : Type 0 where
  pub text : Text
  pub is : text_of n ts ≡ Some text
  pub name : text.name ≡ n
  pub kind : text.kind ≡ k

-- "User names hide requests": a text of this kind, a request, or nothing
abbrev pub MeaningIs : List Text → Name → Option Meaning → Type 0
MeaningIs ts n (Some (Calls k)) = CallsText ts n k
MeaningIs ts n (Some (Requests r)) = text_meaning (text_of n ts) n ≡ means_request r
MeaningIs ts n None = text_meaning (text_of n ts) n ≡ nothing

-- A name that calls a text means that text.
pub called_means : {ts : List Text} {n : Name} {k : Kind} (c : CallsText ts n k) → text_meaning (text_of n ts) n ≡ calls c.text
called_means {ts} {n} c = ap (λ (o : Option Text). text_meaning o n) c.is

-- the bytes of control byte and name, of which there are at most three
pub record PrefixIs (n : Name) (r : ℕ) : Type 0 where
  pub is : r ≡ prefix_of n
  pub small : r ≤ 3
