-- Machines that go step by step, and when one simulates another.
use Rattle.std.specs.Prelude.{◌≡◌, ℕ, zero, suc, ◌+◌, ◌<◌, ◌⊎◌, List}
use Rattle.behaviour.specs.Behaviour.{Wrong, Behaviour, Running, Ended, Failed, IsPrefix}
use Rattle.behaviour.specs.Run.{Run}

-- what a step does; a stop holds all that was printed up to it
pub data Move (S : Type 0) : Type 0 where
  Goes : S → Move S
  Stops : (out : List ℕ) (status : ℕ) → Move S
  Fails : (out : List ℕ) (why : Wrong) → Move S

pub record Machine : Type 1 where
  pub State : Type 0
  pub step : State → Move State
  pub printed : State → List ℕ

abbrev pub after : {S : Type 0} → Move S → (S → Behaviour) → Behaviour
after (Goes s) rest = rest s
after (Stops out status) rest = Ended out status
after (Fails out why) rest = Failed out why

-- at most n steps from s
abbrev pub run_by : {S : Type 0} → (S → Move S) → (S → List ℕ) → ℕ → S → Behaviour
run_by step printed zero s = Running (printed s)
run_by step printed (suc n) s = after (step s) (run_by step printed n)

abbrev pub printed_after : {S : Type 0} → (S → List ℕ) → Move S → List ℕ
printed_after printed (Goes s) = printed s
printed_after printed (Stops out status) = out
printed_after printed (Fails out why) = out

-- no step takes back what was printed
pub record OnlyPrints {S : Type 0} (step : S → Move S) (printed : S → List ℕ) : Type 0 where
  pub at : (s : S) → IsPrefix (printed s) (printed_after printed (step s))

abbrev pub run : (M : Machine) → M.State → Run
run M s n = run_by M.step M.printed n s

module _ (M : Machine) where
  -- from s the machine comes to t, in one step or more
  pub record Leads (s t : M.State) : Type 0 where
    pub steps : ℕ
    pub some : 0 < steps
    pub by : (k : ℕ) → run M s (steps + k) ≡ run M t k

  -- from s the machine comes to t, in any number of steps
  pub record Comes (s t : M.State) : Type 0 where
    pub steps : ℕ
    pub by : (k : ℕ) → run M s (steps + k) ≡ run M t k

-- from related states both machines come to related states, or both end alike, or the source fails
pub data Diagram (M N : Machine) (R : M.State → N.State → Type 0) (s : M.State) (t : N.State) : Type 0 where
  both_lead : (s' : M.State) (t' : N.State) → Leads M s s' → Leads N t t' → R s' t' → Diagram M N R s t
  both_stop : (n m : ℕ) (out : List ℕ) (status : ℕ) → run M s n ≡ Ended out status → run N t m ≡ Ended out status → Diagram M N R s t
  source_fails : (n : ℕ) (out : List ℕ) (why : Wrong) → run M s n ≡ Failed out why → Diagram M N R s t

-- the target N does what the source M does, as long as their states are related
pub record Simulates (M N : Machine) (R : M.State → N.State → Type 0) : Type 0 where
  pub same_output : (s : M.State) (t : N.State) → R s t → M.printed s ≡ N.printed t
  pub diagrams : (s : M.State) (t : N.State) → R s t → Diagram M N R s t

-- both moves go to related states, or both stop alike, or the source's move fails
abbrev pub MovesAlike : {S T : Type 0} → (S → T → Type 0) → Move S → Move T → Type 0
MovesAlike R (Goes s) (Goes t) = R s t
MovesAlike R (Goes s) (Stops out status) = ⊥
MovesAlike R (Goes s) (Fails out why) = ⊥
MovesAlike R (Stops out status) (Goes t) = ⊥
MovesAlike R (Stops out status) (Stops out' status') = (out ≡ out') × (status ≡ status')
MovesAlike R (Stops out status) (Fails out' why) = ⊥
MovesAlike R (Fails out why) y = Unit {0}

-- a simulation of one step by one step
pub record Lockstep (M N : Machine) (R : M.State → N.State → Type 0) : Type 0 where
  pub same_output : (s : M.State) (t : N.State) → R s t → M.printed s ≡ N.printed t
  pub moves : (s : M.State) (t : N.State) → R s t → MovesAlike R (M.step s) (N.step t)

-- what the target does about a step of the source: it takes one step or more, or none while a size of the source's state falls
abbrev pub IsMatched : (M N : Machine) → (M.State → N.State → Type 0) → (M.State → ℕ) → Move M.State → ℕ → N.State → Type 0
IsMatched M N R size (Goes s') n t = (t' : N.State) × R s' t' × (Leads N t t' ⊎ ((t' ≡ t) × (size s' < n)))
IsMatched M N R size (Stops out status) n t = (m : ℕ) × (run N t m ≡ Ended out status)
IsMatched M N R size (Fails out why) n t = Unit {0}

-- a simulation of each step by several steps or none
pub record Stuttering (M N : Machine) (R : M.State → N.State → Type 0) (size : M.State → ℕ) : Type 0 where
  pub same_output : (s : M.State) (t : N.State) → R s t → M.printed s ≡ N.printed t
  pub matches : (s : M.State) (t : N.State) → R s t → IsMatched M N R size (M.step s) (size s) t
