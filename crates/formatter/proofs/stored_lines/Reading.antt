-- The next line of a text in the store. Assumes nothing.
use Rattle.std.specs.Prelude.{None, Some}
use mathlib.Core.Path.{◌≡◌, refl, ap, ◌∙◌}
use mathlib.Core.List.{List, [], ◌∷◌}
use Prim.Native.Nat.{ℕ, suc, ◌+◌, ◌-◌, ◌≤◌, ◌<◌}
use native.Mathlib.Omega.{arith}
use lib.ListN.{length, take, drop, length-drop}
use lib.Seq.{length-take-le}
use Rattle.rules.specs.declared.Kind.TheVariants.{Macro}
use Rattle.scan.specs.Arguments.Around.{cut_at, arguments_of}
use Rattle.texts.specs.declared.lines.Top.TheVariants.{Lines}
use Rattle.texts.specs.Lines.Lines.{first_line, part_in}
use Rattle.fill.specs.Words.Parts.{bytes_between}
use Rattle.fill.proofs.words.Parts.{part_drop}
use Rattle.input_stack.specs.Stack.Items.{unread_by}
use Rattle.input_stack.specs.Stack.ItemLaws.{unread_first, unread_none}
use Rattle.formatter.specs.StoredLines.Works.{UnreadLineIs}

module _ (st : List ℕ) (at size : ℕ) (h : at + size ≤ length st) where
  abbrev bytes : List ℕ
  bytes = take size (drop at st)

  text_part : bytes ≡ bytes_between st at (at + size)
  unfolding bytes_between
  text_part = let e : size ≡ at + size - at = omega arith in ap (λ (n : ℕ). take n (drop at st)) e

  bytes_length : length bytes ≡ size
  bytes_length = length-take-le size (drop at st) (omega (arith, length-drop at st))

  rest_part : (k : ℕ) → drop k bytes ≡ part_in st (record { at = at + k; end = at + size })
  unfolding bytes_between
  rest_part k = ap (drop k) text_part ∙ part_drop st at (at + size) k

  -- the next line of a macro, and the place behind its newline
  pub macro_next : (k n next : ℕ) → k < size → n ≡ length (first_line (part_in st (record { at = at + k; end = at + size }))) → next ≡ k + n + 1
      → UnreadLineIs (Some (Lines (record { at = at + k; end = at + size }), next)) st Macro bytes k
  macro_next k n next l e f =
      let rest = part_in st (record { at = at + k; end = at + size }) in
      let z : k + suc (length (first_line rest)) ≡ next = omega (arith, e, f) in (
        unread_first bytes k (omega (arith, bytes_length))
            ∙ ap (λ (x : List ℕ). first_line x ∷ unread_by Macro bytes (k + suc (length (first_line x)))) (rest_part k)
            ∙ ap (λ (m : ℕ). first_line rest ∷ unread_by Macro bytes m) z,
        (omega (arith, l), h),
      )

  -- nothing is left of a macro
  pub macro_none : (k : ℕ) → size ≤ k → UnreadLineIs None st Macro bytes k
  macro_none k l = unread_none bytes k (omega (arith, bytes_length))

-- a source line has no arguments
pub no_arguments_of : (l es : List ℕ) → arguments_of l es 0 ≡ []
unfolding cut_at
no_arguments_of l es = refl
