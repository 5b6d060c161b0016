-- Runs of machines are runs, and they are never wild.
use Rattle.std.proofs.Common.{◌≡◌, ℕ, zero, suc, ◌++◌, List, [], ◌∷◌, Option, Some, None, Result, Ok, Err, refl, ap}
use Rattle.std.proofs.lemmas.List.Elements.{All-head, All-tail}
use Rattle.std.specs.Prelude.{All, slice_get}
use Rattle.behaviour.specs.Behaviour.{Wrong, Behaviour, Running, Ended, Failed, IsPrefix, Trapped, Wild as WildRun}
use Rattle.behaviour.specs.Steps.{Move as Turn, Goes, Stops, Fails, after, run_by, printed_after, OnlyPrints}
use Rattle.behaviour.proofs.Prefix.{prefix_refl}
use Rattle.behaviour.proofs.Stepping.{run_by_is_run}
use Rattle.rtl_tree.specs.declared.cells.Cell.{Cell}
use Rattle.rtl_tree.specs.declared.cells.Cell.TheVariants.{Hard, Temp, Flag, Pc, Input, Output, Halt, Hole}
use Rattle.rtl_tree.specs.Moves.{Move}
use Rattle.rtl_effect.specs.Views.{View, Stop, Traps, Wild}
use Rattle.rtl_effect.specs.Effects.{Done, effect}
use Rattle.rtl_effect.specs.Calm.{Given, given, IsSet, Calm, traps, gives, IsMade}
use Rattle.rtl_effect.proofs.Calm.{effect_is_calm}
use Rattle.machine_run.specs.Machine.{Code, MachineState, start_view, start, start_cell, view_at, cell_with_next, byte_out, moved, halted, after_effect, turn_of, turn}
use Rattle.machine_run.specs.Laws.{IsRunnable, MachineRunIsRun, NeverWild}

-- an effect adds to what was printed
moved_prints : (out more : List ℕ) (place : Option ℕ) (v : View) → IsPrefix out (printed_after (λ s. s.printed) (moved place v (out ++ more)))
moved_prints out more (Some place) v = (more, refl)
moved_prints out more None v = (more, refl)

halted_prints : (out more : List ℕ) (halt place : Option ℕ) (v : View) → IsPrefix out (printed_after (λ s. s.printed) (halted halt place v (out ++ more)))
halted_prints out more (Some status) place v = (more, refl)
halted_prints out more None place v = moved_prints out more place v

after_prints : (s : MachineState) (r : Result Done Stop) → IsPrefix s.printed (printed_after (λ t. t.printed) (after_effect s r))
after_prints s (Ok d) = halted_prints s.printed (byte_out d.output) d.halt d.place d.view
after_prints s (Err (Traps trap)) = prefix_refl _
after_prints s (Err Wild) = prefix_refl _

turn_prints : (w : ℕ) (ms : Option (List Move)) (s : MachineState) → IsPrefix s.printed (printed_after (λ t. t.printed) (turn_of w ms s))
turn_prints w (Some ms) s = after_prints s (effect w ms (view_at s.place s.view))
turn_prints w None s = prefix_refl _

pub only_prints : (p : Code) → OnlyPrints (turn p) (λ s. s.printed)
only_prints p = record { at = λ s. turn_prints p.word (slice_get p.transfers s.place) s }

pub is_run : MachineRunIsRun
is_run p input = run_by_is_run (turn p) (λ s. s.printed) (only_prints p) (start p input)

next_given : (k : ℕ) (cells : Cell → Option ℕ) → ((c : Cell) → Given (cells c)) → (c : Cell) → Given (cell_with_next k cells c)
next_given k cells g Pc = given k
next_given k cells g (Hard n) = g (Hard n)
next_given k cells g (Temp n) = g (Temp n)
next_given k cells g (Flag n) = g (Flag n)
next_given k cells g Input = g Input
next_given k cells g Output = g Output
next_given k cells g Halt = g Halt
next_given k cells g (Hole n) = g (Hole n)

at_set : (k : ℕ) (v : View) → IsSet v → IsSet (view_at k v)
at_set k v s = record {
  cells = next_given (suc k) v.cells s.cells;
  bytes = s.bytes;
  reach = s.reach;
  labels = s.labels;
  targets = s.targets;
  places = s.places;
}

start_given : (w : ℕ) (input : List ℕ) (c : Cell) → Given (start_cell w input c)
start_given w input (Hard n) = given _
start_given w input (Temp n) = given _
start_given w input (Flag n) = given _
start_given w input Pc = given _
start_given w input Input = given _
start_given w input Output = given _
start_given w input Halt = given _
start_given w input (Hole n) = given _

start_set : (p : Code) (input : List ℕ) → IsSet (start_view p input)
start_set p input = record {
  cells = start_given p.word input;
  bytes = λ a. given _;
  reach = λ a. refl;
  labels = λ l. given _;
  targets = λ l. given _;
  places = λ n. given n;
}

-- a move to a state in which all is set, or a stop, or a trap
data Safe : Turn MachineState → Type 0 where
  goes : (s : MachineState) → IsSet s.view → Safe (Goes s)
  stops : (out : List ℕ) (status : ℕ) → Safe (Stops out status)
  trapped : (out : List ℕ) (kind place : ℕ) → Safe (Fails out (Trapped kind place))

moved_safe : (x : Option ℕ) (v : View) (out : List ℕ) → Given x → IsSet v → Safe (moved x v out)
moved_safe x v out (given n) s = goes _ s

halted_safe : (h x : Option ℕ) (v : View) (out : List ℕ) → Given x → IsSet v → Safe (halted h x v out)
halted_safe (Some status) x v out g s = stops _ _
halted_safe None x v out g s = moved_safe x v out g s

after_safe : (s : MachineState) (r : Result Done Stop) → Calm Done IsMade r → Safe (after_effect s r)
after_safe s r (traps t) = trapped _ _ _
after_safe s r (gives d m) = halted_safe d.halt d.place d.view _ m.place m.view

turn_safe : (w : ℕ) (ms : List Move) (s : MachineState) → IsSet s.view → IsRunnable ms → Safe (turn_of w (Some ms) s)
turn_safe w ms s g r = after_safe s _ (effect_is_calm w ms (view_at s.place s.view) (at_set s.place s.view g) r.formed r.filled)

get_safe : (w : ℕ) (ts : List (List Move)) (k : ℕ) (s : MachineState) → All IsRunnable ts → IsSet s.view → Safe (turn_of w (slice_get ts k) s)
get_safe w [] k s h g = trapped _ _ _
get_safe w (ms ∷ ts) zero s h g = turn_safe w ms s g (All-head IsRunnable ms ts h)
get_safe w (ms ∷ ts) (suc k) s h g = get_safe w ts k s (All-tail IsRunnable ms ts h) g

ended_apart : (a b : List ℕ) (status : ℕ) (why : Wrong) → Ended a status ≡ Failed b why → ⊥
ended_apart a b status why e = cc

running_apart : (a b : List ℕ) (why : Wrong) → Running a ≡ Failed b why → ⊥
running_apart a b why e = cc

abbrev why_of : Behaviour → Wrong
why_of (Running out) = WildRun
why_of (Ended out status) = WildRun
why_of (Failed out why) = why

failed_why : (a b : List ℕ) (x y : Wrong) → Failed a x ≡ Failed b y → x ≡ y
failed_why a b x y e = ap why_of e

wild_apart : (kind place : ℕ) → Trapped kind place ≡ WildRun → ⊥
wild_apart kind place e = cc

step_safe : (rest : MachineState → Behaviour) (m : Turn MachineState) → Safe m → (out : List ℕ)
    → ((s : MachineState) → IsSet s.view → rest s ≡ Failed out WildRun → ⊥) → after m rest ≡ Failed out WildRun → ⊥
step_safe rest m (goes s g) out go e = go s g e
step_safe rest m (stops o status) out go e = ended_apart _ _ _ _ e
step_safe rest m (trapped o kind place) out go e = wild_apart kind place (failed_why _ _ _ _ e)

run_safe : (p : Code) → All IsRunnable p.transfers → (n : ℕ) (s : MachineState) → IsSet s.view → (out : List ℕ)
    → run_by (turn p) (λ t. t.printed) n s ≡ Failed out WildRun → ⊥
run_safe p h zero s g out e = running_apart _ _ _ e
run_safe p h (suc n) s g out e =
    step_safe (run_by (turn p) (λ t. t.printed) n) (turn p s) (get_safe p.word p.transfers s.place s h g) out (λ t k f. run_safe p h n t k out f) e

pub never_wild : NeverWild
never_wild p h input n out e = run_safe p h n (start p input) (start_set p input) out e
