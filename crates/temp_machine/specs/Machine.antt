-- The temporary machine: it runs code in which temporaries stand in the place of registers, a block a step.
use Rattle.std.specs.Prelude.{ℕ, suc, ◌+◌, ◌*◌, ◌-◌, ◌%◌, if◌then◌else◌, nat_lt, nat_le, ◌==◌, Bool, true, false, ◌&&◌, List, [], ◌∷◌, ◌++◌, length, slice_get, slice_index, Option, Some, None, Result, Ok, Err}
use Rattle.std.specs.List.{list_any}
use Rattle.rtl_tree.specs.declared.cells.Cell.{Cell}
use Rattle.rtl_tree.specs.declared.cells.Cell.TheVariants.{Hard, Temp, Pc, Input}
use Rattle.rtl_tree.specs.declared.cells.Lab.{Lab}
use Rattle.rtl_tree.specs.declared.cells.Lab.TheVariants.{Block, Function}
use Rattle.rtl_tree.specs.Trees.{Tree, CodeLabel}
use Rattle.rtl_tree.specs.Moves.{Move}
use Rattle.behaviour.specs.Behaviour.{Wild as WildRun}
use Rattle.behaviour.specs.Run.{Run}
use Rattle.behaviour.specs.Steps.{Move as Step, Goes, Stops, Fails, Machine, run}
use Rattle.rtl_effect.specs.Views.{Stop, Mark, Gone, View}
use Rattle.rtl_effect.specs.Effects.{Done, effect, assigned, next_in}
use Rattle.rtl_norm_value.specs.Effect.{with_normal_jump}
use Rattle.temp_machine.specs.Routines.{Exit, Falls, Jumps, Branches, Calls, Returns, BasicBlock, Routine, Image, Target, word_bytes, pushed}
use Rattle.temp_machine.specs.Cells.{has_temporaries}

-- an active call: its function, the block at which it goes on, the address of its frame, and its temporaries
pub record Active : Type 0 where
  pub function : ℕ
  pub block : ℕ
  pub base : ℕ
  pub temps : ℕ → Option ℕ

-- a call that waits for another one, and the registers as they were
pub record Waiting : Type 0 where
  pub active : Active
  pub regs : ℕ → Option ℕ

pub record State : Type 0 where
  pub top : Active
  pub callers : List Waiting
  pub regs : ℕ → Option ℕ
  pub flags : ℕ → Mark
  pub bytes : ℕ → Option ℕ
  pub input : List ℕ
  pub printed : List ℕ

abbrev pub printed_in : State → List ℕ
printed_in s = s.printed

abbrev pub is_between : ℕ → ℕ → ℕ → Bool
is_between low high a = nat_le low a && nat_lt a high

abbrev pub printed_with : List ℕ → Option ℕ → List ℕ
printed_with out None = out
printed_with out (Some byte) = out ++ byte ∷ []

-- the position of the block with a label, from position k on
abbrev pub position : List BasicBlock → ℕ → ℕ → ℕ
position [] l k = k
position (b ∷ bs) l k = if b.label == l then k else position bs l (suc k)

-- the function that a call's transfer goes to
abbrev pub callee_by : Option Tree → Option ℕ
callee_by (Some (CodeLabel (Function f))) = Some f
callee_by _ = None

abbrev pub callee_of : ℕ → List Move → Option ℕ
callee_of w ms = callee_by (assigned (with_normal_jump w ms) Pc)

-- a jump goes to the label of a block; no label is a word
abbrev pub jump_target : Lab → Option ℕ
jump_target (Block l) = Some l
jump_target (Function f) = None

abbrev pub cell_in : ℕ → State → Cell → Option ℕ
cell_in w s (Hard n) = s.regs n
cell_in w s (Temp n) = s.top.temps n
cell_in w s Pc = None
cell_in w s Input = Some (next_in w s.input)
cell_in w s _ = Some 0

-- a transfer was made, and what follows goes by the view, what was printed, and the label that was jumped to
abbrev pub unless_halted : {A : Type 0} → Option ℕ → View → List ℕ → Option ℕ → (View → List ℕ → Option ℕ → Step A) → Step A
unless_halted None v out label next = next v out label
unless_halted (Some status) v out label next = Stops out status

abbrev pub made : {A : Type 0} → Result Done Stop → List ℕ → (View → List ℕ → Option ℕ → Step A) → Step A
made (Err stop) out next = Fails out WildRun
made (Ok done) out next = unless_halted done.halt done.view (printed_with out done.output) done.place next

-- the transfers of a body, one after the other
abbrev pub body_made : ℕ → List (List Move) → View → List ℕ → (View → List ℕ → Step State) → Step State
body_made w [] v out next = next v out
body_made w (ms ∷ rest) v out next = made (effect w ms v) out (λ z o label. body_made w rest z o next)

-- a Call unsets the bytes from one address up to another
abbrev pub unset_between : ℕ → ℕ → (ℕ → Option ℕ) → ℕ → Option ℕ
unset_between low high bytes a = if is_between low high a then None else bytes a

-- what main returns is the status, modulo 256
abbrev pub ended : List ℕ → Option ℕ → Step State
ended out None = Fails out WildRun
ended out (Some v) = Stops out (v % 256)

-- what needs more stack than there is fails
abbrev pub if_it_fits : {A : Type 0} → Bool → List ℕ → Step A → Step A
if_it_fits true out next = next
if_it_fits false out next = Fails out WildRun

abbrev pub is_kept : Target → ℕ → Bool
is_kept t n = list_any (λ k. k == n) t.kept

module _ (t : Target) (p : Image) where
  abbrev pub routine_of : Active → Routine
  routine_of c = p.routines c.function

  -- the frame of a call, from its lowest address on: outgoing arguments, the link word and one for each kept register, homes, arrays
  abbrev pub outgoing_to : Active → ℕ
  outgoing_to c = c.base + (routine_of c).first_home - word_bytes t * (1 + length t.kept)

  abbrev pub homes_from : Active → ℕ
  homes_from c = c.base + (routine_of c).first_home

  abbrev pub homes_to : Active → ℕ
  homes_to c = homes_from c + word_bytes t * (routine_of c).slots

  abbrev pub frame_to : Active → ℕ
  frame_to c = c.base + (routine_of c).frame

  -- above the frame, and the place to return to where it was pushed, stand the parameters
  abbrev pub params_from : Active → ℕ
  params_from c = frame_to c + pushed t

  abbrev pub params_to : Active → ℕ
  params_to c = params_from c + word_bytes t * (routine_of c).params

  abbrev pub is_in_data : ℕ → Bool
  is_in_data a = is_between t.base (t.base + length p.bytes) a

  abbrev pub is_in_arrays : Active → ℕ → Bool
  is_in_arrays c a = is_between (homes_to c) (frame_to c) a

  abbrev pub is_in_some_arrays : List Waiting → ℕ → Bool
  is_in_some_arrays [] a = false
  is_in_some_arrays (c ∷ cs) a = if is_in_arrays c.active a then true else is_in_some_arrays cs a

  -- what a call may touch: the data, the arrays of all active calls, its own outgoing arguments and parameters, and, where no temporary
  -- stands in its code, its own homes
  abbrev pub may_touch : Active → List Waiting → ℕ → Bool
  may_touch c cs a =
      if is_in_data a then true
      else (if is_in_arrays c a then true
      else (if is_in_some_arrays cs a then true
      else (if is_between c.base (outgoing_to c) a then true
      else (if is_between (params_from c) (params_to c) a then true
      else (if has_temporaries (routine_of c) then false else is_between (homes_from c) (homes_to c) a)))))

  -- what a transfer sees: labels are no words, and the program counter isn't set
  abbrev pub view_in : State → View
  view_in s = record {
    cells = cell_in t.word s;
    flags = s.flags;
    size = t.memory;
    bytes = s.bytes;
    reach = may_touch s.top s.callers;
    symbols = λ n. slice_index p.symbols n;
    labels = λ l. None;
    targets = jump_target;
    places = λ n. None;
    input = s.input;
  }

  -- the state with what a block changed, going on at another block
  abbrev pub state_with : State → View → List ℕ → ℕ → State
  state_with s v out k = record {
    top = record { function = s.top.function; block = k; base = s.top.base; temps = λ n. v.cells (Temp n) };
    callers = s.callers;
    regs = λ n. v.cells (Hard n);
    flags = v.flags;
    bytes = v.bytes;
    input = v.input;
    printed = out;
  }

  abbrev pub next_block : State → Option ℕ → ℕ
  next_block s None = suc s.top.block
  next_block s (Some l) = position (routine_of s.top).blocks l 0

  -- the stack that the active calls take
  abbrev pub taken_by : Active → ℕ
  taken_by c = (routine_of c).frame + word_bytes t

  abbrev pub taken_by_callers : List Waiting → ℕ
  taken_by_callers [] = 0
  taken_by_callers (c ∷ cs) = taken_by c.active + taken_by_callers cs

  abbrev pub taken : State → ℕ
  taken s = taken_by s.top + taken_by_callers s.callers

  abbrev pub fits_stack : State → Bool
  fits_stack s = nat_le (taken s) t.stack

  abbrev pub within_stack : {A : Type 0} → State → Step A → Step A
  within_stack s next = if_it_fits (fits_stack s) s.printed next

  -- a function is entered with its frame below an address: nothing is set but the stack register, and no byte of the frame and of what
  -- was pushed
  abbrev pub entry : ℕ → ℕ → ℕ
  entry f from = from - ((p.routines f).frame + pushed t)

  abbrev pub entered : ℕ → List Waiting → ℕ → (ℕ → Option ℕ) → List ℕ → List ℕ → State
  entered f callers from bytes input out = record {
    top = record { function = f; block = 0; base = entry f from; temps = λ n. None };
    callers = callers;
    regs = λ n. if n == t.sp then Some (entry f from) else None;
    flags = λ n. Gone;
    bytes = unset_between (entry f from) from bytes;
    input = input;
    printed = out;
  }

  -- the stack register and the kept registers are as in the caller, the result stays, and no other register is set
  abbrev pub register_after : Waiting → View → ℕ → Option ℕ
  register_after c v n = if n == t.sp then Some c.active.base else (if is_kept t n then c.regs n else (if n == t.result then v.cells (Hard n) else None))

  abbrev pub returned : List Waiting → View → List ℕ → Step State
  returned [] v out = ended out (v.cells (Hard t.result))
  returned (c ∷ cs) v out = Goes (record {
    top = c.active;
    callers = cs;
    regs = register_after c v;
    flags = λ n. Gone;
    bytes = v.bytes;
    input = v.input;
    printed = out;
  })

  abbrev pub waiting : State → View → List ℕ → Waiting
  waiting s v out = record { active = (state_with s v out (suc s.top.block)).top; regs = λ n. v.cells (Hard n) }

  abbrev pub called : Option ℕ → State → View → List ℕ → Step State
  called None s v out = Fails out WildRun
  called (Some f) s v out =
      let callee = entered f (waiting s v out ∷ s.callers) s.top.base v.bytes v.input out in
      within_stack callee (Goes callee)

  -- the value of the program counter is taken in its normal form
  abbrev pub exit_made : Exit → State → View → List ℕ → Step State
  exit_made Falls s v out = Goes (state_with s v out (suc s.top.block))
  exit_made (Jumps ms) s v out = made (effect t.word (with_normal_jump t.word ms) v) out (λ z o label. Goes (state_with s z o (next_block s label)))
  exit_made (Branches ms) s v out = made (effect t.word (with_normal_jump t.word ms) v) out (λ z o label. Goes (state_with s z o (next_block s label)))
  exit_made (Calls ms) s v out = called (callee_of t.word ms) s v out
  exit_made Returns s v out = returned s.callers v out

  abbrev pub block_made : Option BasicBlock → State → Step State
  block_made None s = Fails s.printed WildRun
  block_made (Some b) s = body_made t.word b.body (view_in s) s.printed (exit_made b.exit s)

  -- one block
  abbrev pub step : State → Step State
  step s = within_stack s (block_made (slice_get (routine_of s.top).blocks s.top.block) s)

  abbrev pub machine : Machine
  machine = record { State = State; step = step; printed = printed_in }

  -- before main is entered the data are set, and no other byte
  abbrev pub first_byte : ℕ → Option ℕ
  first_byte a = if is_in_data a then Some (slice_index p.bytes (a - t.base)) else None

  abbrev pub begin : List ℕ → State
  begin input = entered p.main [] t.memory first_byte input []

  -- what is seen of the code on an input within so many steps
  abbrev pub temporary_run : List ℕ → Run
  temporary_run input n = run machine (begin input) n
