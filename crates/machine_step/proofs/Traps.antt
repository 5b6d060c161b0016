-- A transfer traps where one of its sides or addresses does, whichever byte it is given.
use Rattle.std.proofs.Common.{◌≡◌, ℕ, List, [], ◌∷◌, Option, Some, None, Result, Ok, Err, refl, sym, ap, ◌∙◌}
use Rattle.rtl_tree.specs.Moves.{Move}
use Rattle.rtl_value.specs.declared.state.Trap.{Trap}
use Rattle.rtl_value.specs.declared.state.State.{State}
use Rattle.rtl_value.specs.declared.state.Trap.TheVariants.{Place}
use Rattle.machine_turn.specs.declared.assigned.Assigned.{Assigned}
use Rattle.machine_turn.specs.Turn.{and_go, assigned_to, Made, put, made_by, tested_by}
use Rattle.machine_effect.specs.Turns.{Turned, TrapsBy, at_place, turned_by, turn_on}
use Rattle.machine_step.specs.Steps.{tested_on}

abbrev Tested : Type 0
Tested = Result (Unit {0}) Trap

-- the same trap, of another answer
abbrev made_trap : Tested → Result Made Trap
made_trap (Ok x) = Err Place
made_trap (Err t) = Err t

abbrev tested_trap : Result Made Trap → Tested
tested_trap (Ok d) = Ok tt
tested_trap (Err t) = Err t

abbrev place_trap : Tested → Turned
place_trap (Ok x) = TrapsBy Place
place_trap (Err t) = TrapsBy t

module _ (w : ℕ) (given : Option ℕ) (s : State) (c : Trap) where
  forward : (u : Result Assigned Trap) (q : Tested) (r : Result Made Trap) → (q ≡ Err c → r ≡ Err c)
      → and_go u (λ a. q) ≡ Err c → and_go u (λ a. and_go r (λ d. Ok (put w given a d))) ≡ Err c
  forward (Ok a) q r f e = ap (λ x. and_go x (λ d. Ok (put w given a d))) (f e)
  forward (Err t) q r f e = let h : (let x : Tested = Err t in x) ≡ Err c = e in ap made_trap h

  pub made_traps : (ms : List Move) → tested_by w ms s ≡ Err c → made_by w given ms s ≡ Err c
  made_traps [] e = absurd (let h : (let x : Tested = Ok tt in x) ≡ Err c = e in cc)
  made_traps (m ∷ ms) e = forward (assigned_to w m.to m.value s) (tested_by w ms s) (made_by w given ms s) (made_traps ms) e

  backward_rest : (a : Assigned) (q : Tested) (r : Result Made Trap) → (r ≡ Err c → q ≡ Err c) → and_go r (λ d. Ok (put w given a d)) ≡ Err c → q ≡ Err c
  backward_rest a q (Ok d) f e = absurd (let h : (let x : Result Made Trap = Ok (put w given a d) in x) ≡ Err c = e in cc)
  backward_rest a q (Err t) f e = f e

  backward : (u : Result Assigned Trap) (q : Tested) (r : Result Made Trap) → (r ≡ Err c → q ≡ Err c)
      → and_go u (λ a. and_go r (λ d. Ok (put w given a d))) ≡ Err c → and_go u (λ a. q) ≡ Err c
  backward (Ok a) q r f e = backward_rest a q r f e
  backward (Err t) q r f e = ap tested_trap e

  pub tested_traps : (ms : List Move) → made_by w given ms s ≡ Err c → tested_by w ms s ≡ Err c
  tested_traps [] e = absurd (let h : (let x : Result Made Trap = Ok _ in x) ≡ Err c = e in cc)
  tested_traps (m ∷ ms) e = backward (assigned_to w m.to m.value s) (tested_by w ms s) (made_by w given ms s) (tested_traps ms) e

pub turn_traps : (w : ℕ) (o : Option (List Move)) (given : Option ℕ) (place : ℕ) (s : State) (c : Trap) → tested_on w o place s ≡ Err c
    → turn_on w o given place s ≡ TrapsBy c
turn_traps w None given place s c e = ap place_trap e
turn_traps w (Some ms) given place s c e = ap (λ r. turned_by r (at_place place s)) (made_traps w given (at_place place s) c ms e)

-- what was tested doesn't trap
pub never_traps : (w : ℕ) (given : Option ℕ) (s : State) (c : Trap) (ms : List Move) → tested_by w ms s ≡ Ok tt → made_by w given ms s ≡ Err c → ⊥
never_traps w given s c ms e h = let clash : (let x : Tested = Ok tt in x) ≡ Err c = sym e ∙ tested_traps w given s c ms h in cc
