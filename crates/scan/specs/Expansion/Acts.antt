-- What an action of an escape comes to. Assumes nothing.
use Rattle.std.specs.Prelude.{◌≡◌, List, ◌∷◌, ℕ, ◌+◌, ◌-◌, ◌≤◌, length, take, drop, Result, Ok, Err}
use Rattle.rules.specs.declared.Name.{Name}
use Rattle.rules.specs.declared.Refusal.{Refusal}
use Rattle.rules.specs.Results.{refusal_number}
use Rattle.rules.specs.declared.Turn.{Turn}
use Rattle.rules.specs.declared.Register.{Register}
use Rattle.rules.specs.declared.Mode.{Mode}
use Rattle.rules.specs.Registers.{Seen}
use Rattle.rules.specs.Texts.{Text, text_of}
use Rattle.rules.specs.Escapes.{Surroundings, Scanned, scanned, scan_refused, number, a_string, Action, wants, written_before}
use Rattle.registers.specs.declared.interpolation.Shown.{Shown}
use Rattle.registers.specs.declared.columns.RegisterValues.{RegisterValues}
use Rattle.registers.specs.Table.Lent.{registers_with, OnlyValues}
use Rattle.registers.specs.Interpolation.ReadOnly.{seen_of}
use Rattle.texts.specs.declared.columns.TextsRef.{TextsRef}
use Rattle.texts.specs.Table.Lent.{texts_at}
use Rattle.texts.specs.Table.Places.{bytes_or}
use Rattle.scan.specs.declared.expansion.Acted.{Acted}
use Rattle.scan.specs.declared.expansion.Acted.TheVariants.{Wrote, Enters, Ends}
use Rattle.scan.specs.Output.Runs.{run_action, total}
use Rattle.scan.specs.Output.Writes.{Room}

-- what the rules make of an action, behind the bytes written
abbrev pub action_behind : Surroundings → Mode → (out : List ℕ) → (written limit : ℕ) → Action → (left : ℕ) → (unread : List (List ℕ)) → List Register → Scanned
action_behind w m out written limit a left u rs = written_before (take written out) (run_action w m a left u (limit - written) rs)

-- what an answer says that they make of it
abbrev pub acted_of : Result Acted Refusal → Surroundings → Mode → (out : List ℕ) → (written limit left : ℕ) → (unread : List (List ℕ)) → List Register → Scanned
acted_of (Ok (Wrote n)) w m out written limit left u rs = total w m out n limit left u rs
acted_of (Ok (Enters n)) w m out written limit left u rs = total w m out written limit left (bytes_or (text_of n w.texts) ∷ u) rs
acted_of (Ok Ends) w m out written limit left u rs = scanned (take written out) rs
acted_of (Err e) w m out written limit left u rs = scan_refused (refusal_number e) rs

-- how far is written then, and that a string to be entered is not too deep
abbrev pub SoundActed : Result Acted Refusal → (out : List ℕ) → (written limit depth : ℕ) → (out' : List ℕ) → Type 0
SoundActed (Ok (Wrote n)) out written limit depth out' = Room out' n limit × (written ≤ n) × (drop n out' ≡ drop n out)
SoundActed (Ok (Enters n)) out written limit depth out' = (out' ≡ out) × (depth + 1 ≤ 8)
SoundActed (Ok Ends) out written limit depth out' = out' ≡ out
SoundActed (Err e) out written limit depth out' = length out' ≡ 512

-- an action is done as the rules say, at a depth of so many texts
pub record ActedTo (r : Result Acted Refusal) (w : Surroundings) (m : Mode) (out : List ℕ) (written limit depth : ℕ) (a : Action) (rs : List Register) (out' : List ℕ) (rs' : List Register) : Type 0 where
  pub is : (left : ℕ) (t : List ℕ) (u : List (List ℕ)) → length u ≡ depth
      → action_behind w m out written limit a left (t ∷ u) rs ≡ acted_of r w m out' written limit left (t ∷ u) rs'
  pub sound : SoundActed r out written limit depth out'

-- a register is shown, whatever else the line is expanded with
pub record ShownTo (r : Result Acted Refusal) (shown : Shown) (q q' : RegisterValues) (turn : Turn) (name : Name) (out : List ℕ) (written limit : ℕ) (out' : List ℕ) : Type 0 where
  pub is : (texts : List Text) (arguments : List (List ℕ)) (m : Mode) (depth : ℕ)
      → ActedTo r (record { seen = seen_of shown; texts = texts; arguments = arguments }) m out written limit depth (wants (number turn) name) (registers_with q) out' (registers_with q')
  pub rest : OnlyValues q q'

-- a string is entered, whatever else the line is expanded with
pub record EnteredTo (r : Result Acted Refusal) (x : TextsRef) (name : Name) (depth written : ℕ) : Type 0 where
  pub is : (seen : Seen) (arguments : List (List ℕ)) (m : Mode) (out : List ℕ) (limit : ℕ) (rs : List Register) → Room out written limit
      → ActedTo r (record { seen = seen; texts = texts_at x; arguments = arguments }) m out written limit depth (wants a_string name) rs out rs

-- an action is done as the rules say, and of the registers only values change
pub record ActsTo (r : Result Acted Refusal) (w : Surroundings) (m : Mode) (out : List ℕ) (written limit depth : ℕ) (a : Action) (q q' : RegisterValues) (out' : List ℕ) : Type 0 where
  pub acted : ActedTo r w m out written limit depth a (registers_with q) out' (registers_with q')
  pub rest : OnlyValues q q'
