-- What a call does with the bytes that are gathered at once, and with those that are written at once. Assumes nothing.
use Rattle.std.specs.Prelude.{◌≡◌, Bool, List, [], ◌∷◌, ◌++◌, ℕ, zero, suc, ◌+◌, ◌-◌, ◌*◌, ◌≤◌, length, take, drop, None}
use Rattle.std.proofs.Common.{sym, ◌∙◌, subst, arith}
use Rattle.std.proofs.Math.Path.{ap}
use Rattle.stream.specs.Machine.{Machine, Outcome, writing, taking, asks, call_from, Below}
use Rattle.stream.proofs.Laws.{call_takes}
use Rattle.rules.specs.Printers.{Printer}
use Rattle.rules.specs.State.{State}
use Rattle.rules.specs.Session.{take_byte, read_end, step, step_from, idle}
use Rattle.rules.specs.Load.{Good, load, byte_load, formatter}
use Rattle.rules.proofs.Laws.Falls.{falls}
use Rattle.source_line.specs.Gathering.{Asks, Takes}

-- these bytes taken and those written, and then the outcome
abbrev pub outcome_after : {S : Type 0} → (took bytes : List ℕ) → Outcome S → Outcome S
outcome_after t w o = record { took = t ++ o.took; bytes = w ++ o.bytes; rest = o.rest; answer = o.answer; waiting = o.waiting; state = o.state }

module _ (p : Printer) where
  -- a state that asks
  pub step_asks : (s : State) → Asks s → step p s ≡ asks (λ b. take_byte b s) (read_end s)
  unfolding step
  step_asks s a =
      ap (λ v. step_from p v s.input.stack s) a.closing ∙ ap (λ v. step_from p None v s) a.stack ∙ ap (λ v. idle p v s.tables.opened s) a.ended

  below : (s : State) → Good s → Asks s → Below (formatter p) Good (asks (λ b. take_byte b s) (read_end s)) (load s)
  below s g a = subst (λ v. Below (formatter p) Good v (load s)) (step_asks s a) (falls p s g)

  -- the bytes that lead from a state to another keep the limits, and add less than their load
  pub takes_good : (s : State) (bs : List ℕ) (s' : State) → Good s → Takes s bs s' → Good s' × (load s' + length bs ≤ length bs * byte_load + load s)
  takes_good s [] s' g t = subst (λ v. Good v × (load v + 0 ≤ 0 * byte_load + load s)) (sym t) (g, omega arith)
  takes_good s (b ∷ bs) s' g t =
      let n = (below s g t.0).1 b in
      let r = takes_good (take_byte b s) bs s' n.0 t.1 in
      (r.0, omega (arith, n.1, r.1))

  -- A call takes bytes that lead from a state to another.
  pub call_gathers : (s : State) (bs : List ℕ) (s' : State) → Good s → Takes s bs s' → (bl : List ℕ) (last : Bool) (room : ℕ)
      → call_from (formatter p) [] s (bs ++ bl) last room ≡ outcome_after bs [] (call_from (formatter p) [] s' bl last room)
  call_gathers s [] s' g t bl last room = ap (λ v. call_from (formatter p) [] v bl last room) (sym t)
  call_gathers s (b ∷ bs) s' g t bl last room =
      call_takes (formatter p) Good (falls p) s (λ v. take_byte v s) (read_end s) g (step_asks s t.0) b (bs ++ bl) last room
      ∙ ap (taking b) (call_gathers (take_byte b s) bs s' ((below s g t.0).1 b).0 t.1 bl last room)

-- A call writes n of the bytes that wait, where there are so many and room for them.
pub call_writes : {S : Type 0} (m : Machine S) (n : ℕ) (ws : List ℕ) (s : S) (bl : List ℕ) (last : Bool) (room : ℕ) → n ≤ length ws → n ≤ room
    → call_from m ws s bl last room ≡ outcome_after [] (take n ws) (call_from m (drop n ws) s bl last (room - n))
call_writes m zero ws s bl last room h k = let e : room - 0 ≡ room = omega arith in rw e
call_writes m (suc n) [] s bl last room h k = absurd (omega arith)
call_writes m (suc n) (w ∷ ws) s bl last zero h k = absurd (omega arith)
call_writes m (suc n) (w ∷ ws) s bl last (suc room) h k =
    let e : suc room - suc n ≡ room - n = omega arith in
    rw e (ap (writing w) (call_writes m n ws s bl last room (omega arith) (omega arith)))
