-- A program with a recursive function, linked with a link register and with pushed places to return to; and one in which a label stands in
-- two routines.
use Rattle.std.specs.Prelude.{◌≡◌, ℕ, zero, suc, ◌+◌, ◌==◌, List, [], ◌∷◌, Option, Some, None}
use Rattle.rtl_tree.specs.Trees.{Tree, Number, CodeLabel, Read, Load, Binary}
use Rattle.rtl_tree.specs.declared.cells.Cell.{Cell}
use Rattle.rtl_tree.specs.declared.cells.Cell.TheVariants.{Hard, Pc, Output}
use Rattle.rtl_tree.specs.declared.cells.Lab.TheVariants.{Block}
use Rattle.rtl_tree.specs.declared.expressions.Width.TheVariants.{Full}
use Rattle.rtl_tree.specs.declared.expressions.BinOp.TheVariants.{Add, Cmp, When}
use Rattle.rtl_word.specs.declared.Rel.TheVariants.{Eq}
use Rattle.behaviour.specs.Behaviour.{Ended}
use Rattle.temp_machine.specs.Routines.{Jumps, Branches, Calls, Returns, BasicBlock, Routine, Image, Target, pushed}
use Rattle.temp_machine.specs.Machine.{temporary_run}
use Rattle.machine_run.specs.Machine.{Code, machine_run}
use Rattle.link_code.specs.Linked.{Transfer, Job, Glue, program, labels_of, set, store, set_stack, move_stack, calling, going_back, save, fetch, finish}
use Rattle.link_code.specs.Runs.{IsLinkable}

-- the stack register is 6, the result 0, and 1 is general
abbrev pub target : Option ℕ → Target
target link = record { word = 16; memory = 64; base = 0; stack = 48; sp = 6; result = 0; link = link; general = λ n. n == 1; kept = [] }

abbrev pub one : Cell → Tree → Transfer
one c a = set c a ∷ []

-- main: f(3) is printed and returned
abbrev pub main_blocks : Option ℕ → List BasicBlock
main_blocks link =
    record { label = 0; body = one (Hard 1) (Number 3) ∷ (store (Read (Hard 6)) (Read (Hard 1)) ∷ []) ∷ []; exit = Calls (calling (target link) link 1) }
    ∷ record { label = 1; body = one Output (Read (Hard 0)) ∷ []; exit = Returns }
    ∷ []

-- f(n) is 65 where n is 1, else f(n - 1) + 1; the parameter stands above the frame
abbrev pub f_blocks : Option ℕ → List BasicBlock
f_blocks link =
    record {
      label = 2;
      body = one (Hard 1) (Load Full (Binary Add (Read (Hard 6)) (Number (8 + pushed (target link))))) ∷ one (Hard 1) (Binary Add (Read (Hard 1)) (Number 65535)) ∷ [];
      exit = Branches (one Pc (Binary When (Binary (Cmp Eq) (Read (Hard 1)) (Number 0)) (CodeLabel (Block 5))));
    }
    ∷ record { label = 3; body = (store (Read (Hard 6)) (Read (Hard 1)) ∷ []) ∷ []; exit = Calls (calling (target link) link 1) }
    ∷ record { label = 4; body = one (Hard 0) (Binary Add (Read (Hard 0)) (Number 1)) ∷ []; exit = Returns }
    ∷ record { label = 5; body = one (Hard 0) (Number 65) ∷ []; exit = Returns }
    ∷ []

abbrev pub routine : ℕ → List BasicBlock → Routine
routine params blocks = record { params = params; frame = 8; first_home = 6; slots = 1; homes = []; blocks = blocks }

abbrev pub routines : Option ℕ → ℕ → Routine
routines link zero = routine 0 (main_blocks link)
routines link (suc f) = routine 1 (f_blocks link)

abbrev pub image : (ℕ → Routine) → Image
image rs = record { routines = rs; main = 0; symbols = []; bytes = [] }

-- each added transfer is the one that it stands for
abbrev pub saved_by : Target → Option ℕ → ℕ → Transfer
saved_by t (Some z) k = save t z k
saved_by t None k = []

abbrev pub fetched_by : Target → Option ℕ → ℕ → Transfer
fetched_by t (Some z) k = fetch t z k
fetched_by t None k = []

abbrev pub glue : Target → Option ℕ → Glue
glue t link = record {
  set_stack = set_stack t;
  move_stack = move_stack t;
  calling = calling t link;
  going_back = going_back t link;
  save = saved_by t link;
  fetch = fetched_by t link;
  finish = finish t;
}

abbrev pub job : Option ℕ → (ℕ → Routine) → Job
job link rs = record { t = target link; p = image rs; glue = glue (target link) link; order = 0 ∷ 1 ∷ [] }

abbrev pub linked : Job → Code
linked j = record { word = j.t.word; size = j.t.memory; base = j.t.base; bytes = j.p.bytes; symbols = j.p.symbols; labels = labels_of j j.order; transfers = program j }

-- what is asked of it holds for both ways of calling
pub record PremisesAreMet : Type 0 where
  pub with_link_register : IsLinkable (job (Some 5) (routines (Some 5)))
  pub with_pushed_places : IsLinkable (job None (routines None))

-- the routines and both linked programs print 67 and end with it
pub record AllEndAlike : Type 0 where
  pub routines_end : temporary_run (target None) (image (routines None)) [] 11 ≡ Ended (67 ∷ []) 67
  pub with_link_register : machine_run (linked (job (Some 5) (routines (Some 5)))) [] 60 ≡ Ended (67 ∷ []) 67
  pub with_pushed_places : machine_run (linked (job None (routines None))) [] 60 ≡ Ended (67 ∷ []) 67

-- label 1 stands in both routines
abbrev pub twice : ℕ → Routine
twice zero = routine 0 (record { label = 0; body = []; exit = Calls (calling (target None) None 1) } ∷ record { label = 1; body = []; exit = Returns } ∷ [])
twice (suc f) =
    routine 0 (record { label = 2; body = one (Hard 0) (Number 5) ∷ []; exit = Jumps (one Pc (CodeLabel (Block 1))) } ∷ record { label = 1; body = one (Hard 0) (Number 7) ∷ []; exit = Returns } ∷ [])

-- then the linked program jumps to the other function, and ends with 5 in place of 7
pub record LabelsHaveToDiffer : Type 0 where
  pub routines_end : temporary_run (target None) (image twice) [] 9 ≡ Ended [] 7
  pub linked_ends : machine_run (linked (job None twice)) [] 30 ≡ Ended [] 5
