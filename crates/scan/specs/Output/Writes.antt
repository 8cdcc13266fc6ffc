-- Bytes written into a buffer of which `limit` bytes may be written. Assumes nothing.
use Rattle.std.specs.Prelude.{◌≡◌, List, ◌∷◌, ◌++◌, ℕ, ◌+◌, ◌≤◌, ◌<◌, length, take, drop, get_or, Result, Ok, Err}
use Rattle.rules.specs.Bytes.{backslash}
use Rattle.rules.specs.declared.Register.{Register}
use Rattle.rules.specs.declared.Mode.{Mode}
use Rattle.rules.specs.Escapes.{Surroundings, scan_refused}
use Rattle.rules.specs.declared.Refusal.{Refusal}
use Rattle.rules.specs.declared.Refusal.TheVariants.{LongLine}
use Rattle.rules.specs.Results.{refusal_number}
use Rattle.scan.specs.declared.output.Copied.{Copied}
use Rattle.scan.specs.Output.Runs.{total}

-- so many bytes are written, and there may be so many
pub record Room (out : List ℕ) (written limit : ℕ) : Type 0 where
  pub long : length out ≡ 512
  pub low : written ≤ limit
  pub high : limit ≤ 512

-- the bytes l stand behind those written before, the bytes behind them are as they were
pub record Put (l out : List ℕ) (written limit n : ℕ) (out' : List ℕ) : Type 0 where
  pub count : n ≡ written + length l
  pub fits : n ≤ limit
  pub taken : take n out' ≡ take written out ++ l
  pub kept : drop n out' ≡ drop n out
  pub long : length out' ≡ 512

-- the bytes l are written, or there is no room for all of them: "3: .. expanded line passes 512 bytes"
abbrev pub WroteTo : Result ℕ Refusal → (l out : List ℕ) → (written limit : ℕ) → (out' : List ℕ) → Type 0
WroteTo (Ok n) l out written limit out' = Put l out written limit n out'
WroteTo (Err e) l out written limit out' = (e ≡ LongLine) × (limit < written + length l) × (length out' ≡ 512)

-- what the rules make of the text from `at` on is what they make of it from i on, behind the bytes written since
pub record Passed (text : List ℕ) (at left written limit : ℕ) (out : List ℕ) (i l n : ℕ) (out' : List ℕ) : Type 0 where
  pub is : (w : Surroundings) (m : Mode) (u : List (List ℕ)) (rs : List Register)
      → total w m out written limit left (drop at text ∷ u) rs ≡ total w m out' n limit l (drop i text ∷ u) rs
  pub low : at ≤ i
  pub high : i ≤ length text
  pub room : Room out' n limit
  pub more : written ≤ n
  pub kept : drop n out' ≡ drop n out

-- what the rules make of the text is this refusal
pub record Stops (text : List ℕ) (at left written limit : ℕ) (out : List ℕ) (e : Refusal) (out' : List ℕ) : Type 0 where
  pub is : (w : Surroundings) (m : Mode) (u : List (List ℕ)) (rs : List Register) → total w m out written limit left (drop at text ∷ u) rs ≡ scan_refused (refusal_number e) rs
  pub long : length out' ≡ 512

-- bytes that are no backslash were copied, up to a backslash or the end; or there is no room, or nothing left to be scanned
abbrev pub CopiedTo : Result Copied Refusal → (text : List ℕ) → (at left written limit : ℕ) → (out out' : List ℕ) → Type 0
CopiedTo (Ok c) text at left written limit out out' = Passed text at left written limit out c.at c.left c.written out' × (c.at < length text → get_or text c.at 0 ≡ backslash)
CopiedTo (Err e) text at left written limit out out' = Stops text at left written limit out e out'
