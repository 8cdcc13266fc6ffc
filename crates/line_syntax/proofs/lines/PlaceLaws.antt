-- The text of a ds and the condition of an if, by the places that the code finds. Assumes nothing.
use mathlib.Core.Path.{◌≡◌, refl, sym, ap, ◌∙◌}
use mathlib.Core.Bool.{Bool, true, false}
use mathlib.Core.List.{List, ◌∷◌}
use Prim.Native.Nat.{ℕ, zero, suc, ◌+◌, ◌-◌, ◌≤◌, ◌<◌}
use native.Mathlib.Omega.{arith}
use lib.Dec.{eqb}
use lib.ListN.{length, get_or, take, drop}
use Rattle.rules.specs.Bytes.{byte, space, first_where}
use Rattle.rules.specs.Arguments.{Part, part, byte_of, after_spaces, without_quote_by, without_quote, string_text, first_word, condition}
use Rattle.scan.specs.Arguments.Around.{begin_of}
use Rattle.scan.specs.Arguments.Parting.{Spaces, WordEnds}
use Rattle.scan.proofs.output.Places.{unread, nothing}
use Rattle.scan.proofs.arguments.Parts.{quote_is}
use Rattle.line_syntax.specs.declared.lines.ConditionPart.{ConditionPart}
use Rattle.line_syntax.specs.Lines.Places.{StringAt, ConditionAt}

-- another byte than a quote stays
not_quote : (b : ℕ) (l : List ℕ) → eqb b (byte "\"") ≡ false → without_quote_by (byte_of b) b l ≡ b ∷ l
unfolding first_where
not_quote b l f = go (eqb b space) refl
  where
    go : (s : Bool) → eqb b space ≡ s → without_quote_by (byte_of b) b l ≡ b ∷ l
    go true e = rw (first_where, e) refl
    go false e = rw (first_where, e, first_where, f) refl

module _ (s : List ℕ) (at r : ℕ) (g : Spaces s at r) where
  -- behind the spaces: the end, a quote, another byte
  text_from : (k : ℕ) → drop k s ≡ without_quote (drop r s) → r ≤ k → k ≤ length s → StringAt s at k
  unfolding string_text
  text_from k e h i = record { is = e ∙ ap without_quote g.is; onward = omega (arith, g.onward); inside = i }

  pub string_end : length s ≤ r → StringAt s at r
  string_end h = let u = nothing s r h in text_from r (u ∙ sym (ap without_quote u)) (omega arith) g.inside

  pub string_quoted : r < length s → get_or s r 0 ≡ byte "\"" → StringAt s at (r + 1)
  string_quoted h e =
      text_from (r + 1) (sym (ap without_quote (unread s r (byte "\"") h e) ∙ ap (λ k. without_quote_by k (byte "\"") (drop (r + 1) s)) quote_is)) (omega arith) (omega arith)

  pub string_bare : r < length s → eqb (get_or s r 0) (byte "\"") ≡ false → StringAt s at r
  string_bare h e =
      let u = unread s r (get_or s r 0) h refl in
      text_from r (u ∙ sym (ap without_quote u ∙ not_quote (get_or s r 0) (drop (r + 1) s) e)) (omega arith) g.inside

-- spaces, a word, spaces
pub condition_is_lem : (s : List ℕ) (at : ℕ) (c : ConditionPart) → Spaces s at c.from → WordEnds s c.from c.to → Spaces s c.to c.rest → ConditionAt s at c
unfolding condition
condition_is_lem s at c f w g = record {
  is = ap (part (take (c.to - c.from) (drop c.from s))) g.is ∙ ap (λ (p : Part). part p.part (after_spaces p.rest)) (w.is ∙ ap first_word f.is);
  ahead = f.onward;
  order = w.onward;
  onward = g.onward;
  inside = g.inside;
}

-- where an argument begins: the first at the start, another where the one before it ends
pub begins_first : (es : List ℕ) (k : ℕ) → k ≡ 0 → begin_of es k ≡ 0
begins_first es k e = rw e

pub begins_later : (es : List ℕ) (k : ℕ) → (k ≡ 0 → ⊥) → begin_of es k ≡ get_or es (k - 1) 0
begins_later es zero h = absurd (h refl)
begins_later es (suc k) h = let z : suc k - 1 ≡ k = omega arith in ap (λ (i : ℕ). get_or es i 0) (sym z)
