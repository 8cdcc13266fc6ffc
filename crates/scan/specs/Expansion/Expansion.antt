-- A text goes over into the expanded line. Assumes nothing.
use Rattle.std.specs.Prelude.{◌≡◌, List, ◌∷◌, ℕ, ◌≤◌, ◌<◌, length, take, drop, Result, Ok, Err}
use Rattle.rules.specs.declared.Refusal.{Refusal}
use Rattle.rules.specs.declared.Register.{Register}
use Rattle.rules.specs.Results.{refusal_number}
use Rattle.rules.specs.declared.Mode.{Mode}
use Rattle.rules.specs.Escapes.{Surroundings, scanned, scan_refused, Action}
use Rattle.rules.specs.Escapes as rules
use Rattle.registers.specs.declared.columns.RegisterValues.{RegisterValues}
use Rattle.registers.specs.Table.Lent.{registers_with, OnlyValues}
use Rattle.scan.specs.declared.escapes.EscapeAction.{EscapeAction}
use Rattle.scan.specs.declared.expansion.NextEscape.{NextEscape}
use Rattle.scan.specs.declared.expansion.NextEscape.TheVariants as next
use Rattle.scan.specs.declared.expansion.Progress.{Progress}
use Rattle.scan.specs.declared.expansion.Progress.TheVariants.{Over, Ended}
use Rattle.scan.specs.Escapes.Readings.{action_in}
use Rattle.scan.specs.Output.Runs.{total}
use Rattle.scan.specs.Output.Writes.{Room}
use Rattle.scan.specs.Expansion.Acts.{action_behind}

-- bytes were written, and those behind them are as they were
pub record BytesFilled (out : List ℕ) (written limit n : ℕ) (out' : List ℕ) : Type 0 where
  pub room : Room out' n limit
  pub more : written ≤ n
  pub kept : drop n out' ≡ drop n out

-- the text is read to its end
pub record ReadOver (text : List ℕ) (at left written limit : ℕ) (out : List ℕ) (l n : ℕ) (out' : List ℕ) : Type 0 where
  pub is : (w : Surroundings) (m : Mode) (u : List (List ℕ)) (rs : List Register) → total w m out written limit left (drop at text ∷ u) rs ≡ total w m out' n limit l u rs
  pub filled : BytesFilled out written limit n out'

-- an escape is read, and its action is to be done
pub record ReadEscape (m : Mode) (text : List ℕ) (at left written limit : ℕ) (out : List ℕ) (end l n : ℕ) (what : EscapeAction) (out' : List ℕ) : Type 0 where
  pub is : (w : Surroundings) (u : List (List ℕ)) (rs : List Register)
      → total w m out written limit left (drop at text ∷ u) rs ≡ action_behind w m out' n limit (action_in what) l (drop end text ∷ u) rs
  pub filled : BytesFilled out written limit n out'
  pub low : at < end
  pub high : end ≤ length text

-- what the rules make of the text is this refusal
pub record StopsIn (m : Mode) (text : List ℕ) (at left written limit : ℕ) (out : List ℕ) (e : Refusal) (out' : List ℕ) : Type 0 where
  pub is : (w : Surroundings) (u : List (List ℕ)) (rs : List Register) → total w m out written limit left (drop at text ∷ u) rs ≡ scan_refused (refusal_number e) rs
  pub long : length out' ≡ 512

-- the bytes up to an escape, and the escape
abbrev pub NextIs : Result NextEscape Refusal → Mode → (text : List ℕ) → (at left written limit : ℕ) → (out out' : List ℕ) → Type 0
NextIs (Ok (next.Over l n)) m text at left written limit out out' = ReadOver text at left written limit out l n out'
NextIs (Ok (next.Escape end l n what)) m text at left written limit out out' = ReadEscape m text at left written limit out end l n what out'
NextIs (Err e) m text at left written limit out out' = StopsIn m text at left written limit out e out'

-- what an answer says that the rules make of a text and those around it
abbrev pub progress_of : Result Progress Refusal → Surroundings → Mode → (out : List ℕ) → (limit : ℕ) → (unread : List (List ℕ)) → List Register → rules.Scanned
progress_of (Ok (Over l n)) w m out limit u rs = total w m out n limit l u rs
progress_of (Ok (Ended n)) w m out limit u rs = scanned (take n out) rs
progress_of (Err e) w m out limit u rs = scan_refused (refusal_number e) rs

abbrev pub SoundProgress : Result Progress Refusal → (out : List ℕ) → (written limit : ℕ) → (out' : List ℕ) → Type 0
SoundProgress (Ok (Over l n)) out written limit out' = BytesFilled out written limit n out'
SoundProgress (Ok (Ended n)) out written limit out' = BytesFilled out written limit n out'
SoundProgress (Err e) out written limit out' = length out' ≡ 512

-- an escape is carried out as the rules say, in a text that is within as many others as the depth
pub record CarriedOut (r : Result Progress Refusal) (w : Surroundings) (m : Mode) (a : Action) (depth left : ℕ) (out : List ℕ) (written limit : ℕ) (q q' : RegisterValues) (out' : List ℕ) : Type 0 where
  pub is : (t : List ℕ) (u : List (List ℕ)) → length u ≡ depth
      → action_behind w m out written limit a left (t ∷ u) (registers_with q) ≡ progress_of r w m out' limit (t ∷ u) (registers_with q')
  pub rest : OnlyValues q q'
  pub sound : SoundProgress r out written limit out'

-- a text is expanded as the rules say, in whatever texts it stands, as many as the depth
pub record ExpandsTo (r : Result Progress Refusal) (w : Surroundings) (m : Mode) (text : List ℕ) (depth left : ℕ) (out : List ℕ) (written limit : ℕ) (q q' : RegisterValues) (out' : List ℕ) : Type 0 where
  pub is : (u : List (List ℕ)) → length u ≡ depth
      → total w m out written limit left (text ∷ u) (registers_with q) ≡ progress_of r w m out' limit u (registers_with q')
  pub rest : OnlyValues q q'
  pub sound : SoundProgress r out written limit out'

-- the expanded line in the buffer, or a refusal, with the registers after it
abbrev pub scanned_of : Result ℕ Refusal → (out : List ℕ) → List Register → rules.Scanned
scanned_of (Ok n) out rs = scanned (take n out) rs
scanned_of (Err e) out rs = scan_refused (refusal_number e) rs

-- the bytes behind the line are as they were
abbrev pub KeptBehind : Result ℕ Refusal → (out out' : List ℕ) → Type 0
KeptBehind (Ok n) out out' = (n ≤ 512) × (drop n out' ≡ drop n out)
KeptBehind (Err e) out out' = Unit

-- a line is expanded as the rules say, and of the registers only values change
pub record ScannedTo (r : Result ℕ Refusal) (w : Surroundings) (m : Mode) (prefix : ℕ) (line : List ℕ) (q q' : RegisterValues) (out out' : List ℕ) : Type 0 where
  pub is : scanned_of r out' (registers_with q') ≡ rules.scan w m (registers_with q) prefix line
  pub rest : OnlyValues q q'
  pub kept : KeptBehind r out out'
  pub long : length out' ≡ 512
