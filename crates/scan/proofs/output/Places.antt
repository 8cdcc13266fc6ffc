-- Places of a text. Assumes nothing.
use mathlib.Core.Path.{◌≡◌}
use mathlib.Core.List.{List, [], ◌∷◌}
use Prim.Native.Nat.{ℕ, ◌+◌, ◌<◌, ◌≤◌}
use native.Mathlib.Numerals.{add-one}
use lib.ListN.{length, get_or, drop, drop_of_length-le}
use lib.Seq.{drop-cons}

-- the byte at a place within the text is the first unread one
pub unread : (s : List ℕ) (at b : ℕ) → at < length s → get_or s at 0 ≡ b → drop at s ≡ b ∷ drop (at + 1) s
unread s at b h e = simp (drop-cons s at 0 h, e, add-one)

-- nothing is unread at the end
pub nothing : (s : List ℕ) (at : ℕ) → length s ≤ at → drop at s ≡ []
nothing s at h = drop_of_length-le s h
