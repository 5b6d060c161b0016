-- The run of a linked program is that of the routines it is made of.
use Rattle.std.specs.Prelude.{◌≡◌, ◌≢◌, ℕ, ◌+◌, ◌*◌, ◌≤◌, ◌<◌, ◌^◌, ◌%◌, Bool, true, false, List, [], ◌∷◌, length, Option, Some, None, slice_get, slice_index, Ok, All, ◌⊎◌}
use Rattle.std.specs.List.{AllByRecursion}
use Rattle.rtl_word.specs.Words.{IsWordSize}
use Rattle.rtl_tree.specs.Trees.{Tree, CodeLabel, Binary}
use Rattle.rtl_tree.specs.Moves.{Goal, ToCell}
use Rattle.rtl_tree.specs.WellFormed.{IsWellFormed}
use Rattle.rtl_tree.specs.declared.cells.Cell.{Cell}
use Rattle.rtl_tree.specs.declared.cells.Cell.TheVariants.{Hard, Temp, Pc}
use Rattle.rtl_tree.specs.declared.cells.Lab.TheVariants.{Block}
use Rattle.rtl_tree.specs.declared.expressions.BinOp.TheVariants.{When}
use Rattle.rtl_norm.specs.Transfers.{IsMoveFitting}
use Rattle.rtl_effect.specs.Views.{View}
use Rattle.rtl_effect.specs.Effects.{assigned, Done, effect}
use Rattle.rtl_effect.specs.Agree.{AllWithin}
use Rattle.rtl_norm_value.specs.Kept.{IsWordView}
use Rattle.rtl_norm_value.specs.Effect.{AreLabelsPlaces, with_normal_jump, IsMoveFilled}
use Rattle.behaviour.specs.Run.{Keep}
use Rattle.temp_machine.specs.Routines.{Exit, Falls, Jumps, Branches, Calls, Returns, BasicBlock, Target, word_bytes, pushed}
use Rattle.temp_machine.specs.Machine.{callee_of, first_byte, temporary_run}
use Rattle.machine_run.specs.Machine.{Code, machine_run}
use Rattle.link_code.specs.Linked.{Transfer, Job, Glue, code, stands, program, labels_of}

abbrev pub is_no_temporary : Cell → Bool
is_no_temporary (Temp n) = false
is_no_temporary c = true

abbrev pub Stands : ℕ → List ℕ → Type 0
Stands f [] = ⊥
Stands f (g ∷ gs) = (g ≡ f) ⊎ Stands f gs

-- no body sets the program counter
abbrev pub NoJump : Goal → Type 0
NoJump (ToCell Pc) = ⊥
NoJump _ = Unit {0}

abbrev pub NoJumps : Transfer → Type 0
NoJumps [] = Unit {0}
NoJumps (m ∷ ms) = NoJump m.to × NoJumps ms

-- a jump is to a label of its code, or depends on a condition
abbrev pub IsOwn : List BasicBlock → Tree → Type 0
IsOwn bs (CodeLabel (Block l)) = stands bs l ≡ true
IsOwn bs _ = ⊥

abbrev pub JumpOwn : List BasicBlock → Tree → Type 0
JumpOwn bs (Binary When c l) = IsOwn bs l
JumpOwn bs t = IsOwn bs t

abbrev pub GoalOwn : List BasicBlock → Goal → Tree → Type 0
GoalOwn bs (ToCell Pc) t = JumpOwn bs t
GoalOwn bs _ t = Unit {0}

abbrev pub JumpsOwn : List BasicBlock → Transfer → Type 0
JumpsOwn bs [] = Unit {0}
JumpsOwn bs (m ∷ ms) = GoalOwn bs m.to m.value × JumpsOwn bs ms

-- numbers are words
abbrev pub TransferFitting : ℕ → Transfer → Type 0
TransferFitting w ms = AllByRecursion (IsMoveFitting w) ms

-- no temporary is read, the stack register isn't set, and numbers are words
abbrev pub IsPlain : Target → Transfer → Type 0
IsPlain t ms = AllWithin is_no_temporary ms × (assigned ms (Hard t.sp) ≡ None) × TransferFitting t.word ms

abbrev pub BodyPlain : Target → List Transfer → Type 0
BodyPlain t [] = Unit {0}
BodyPlain t (ms ∷ rest) = IsPlain t ms × NoJumps ms × BodyPlain t rest

-- a jump, with the value of the program counter in its normal form
pub record JumpPlain (t : Target) (bs : List BasicBlock) (ms : Transfer) : Type 0 where
  pub plain : IsPlain t (with_normal_jump t.word ms)
  pub own : JumpsOwn bs (with_normal_jump t.word ms)
  pub formed : IsWellFormed ms
  pub fits : All (IsMoveFitting t.word) ms
  pub filled : All IsMoveFilled ms

abbrev pub LinkFits : Option ℕ → (pushed wb sp result : ℕ) → Type 0
LinkFits (Some z) pushed wb sp result = (pushed ≡ 0) × (z ≢ sp) × (z ≢ result)
LinkFits None pushed wb sp result = pushed ≡ wb

-- the same but for flags
pub record SameButFlags (d e : Done) : Type 0 where
  pub regs : (n : ℕ) → e.view.cells (Hard n) ≡ d.view.cells (Hard n)
  pub bytes : (a : ℕ) → e.view.bytes a ≡ d.view.bytes a
  pub input : e.view.input ≡ d.view.input
  pub place : e.place ≡ d.place
  pub output : e.output ≡ d.output
  pub halt : e.halt ≡ d.halt

-- on each view of the machine
abbrev pub DoesAs : ℕ → Transfer → Transfer → Type 0
DoesAs w ms shape = (z : View) (d : Done) → IsWordView w z → AreLabelsPlaces z → effect w shape z ≡ Ok d → (e : Done) × (effect w ms z ≡ Ok e) × SameButFlags d e

pub record IsGlue (t : Target) (link : Option ℕ) (g : Glue) : Type 0 where
  pub set_stack : DoesAs t.word g.set_stack (Rattle.link_code.specs.Linked.set_stack t)
  pub move_stack : (n : ℕ) → DoesAs t.word (g.move_stack n) (Rattle.link_code.specs.Linked.move_stack t n)
  pub calling : (f : ℕ) → DoesAs t.word (g.calling f) (Rattle.link_code.specs.Linked.calling t link f)
  pub going_back : DoesAs t.word g.going_back (Rattle.link_code.specs.Linked.going_back t link)
  pub save : (z k : ℕ) → link ≡ Some z → DoesAs t.word (g.save k) (Rattle.link_code.specs.Linked.save t z k)
  pub fetch : (z k : ℕ) → link ≡ Some z → DoesAs t.word (g.fetch k) (Rattle.link_code.specs.Linked.fetch t z k)
  pub finish : DoesAs t.word g.finish (Rattle.link_code.specs.Linked.finish t)

module _ (j : Job) where
  -- a call's transfer calls a function that is there, and the caller's frame has words for its arguments
  pub record CallPlain (f : ℕ) (ms : Transfer) : Type 0 where
    pub callee : ℕ
    pub calls : callee_of j.t.word ms ≡ Some callee
    pub there : Stands callee j.order
    pub arguments : word_bytes j.t * (code j callee).params + word_bytes j.t ≤ (code j f).first_home
    pub does : DoesAs j.t.word ms (Rattle.link_code.specs.Linked.calling j.t j.t.link callee)

  abbrev pub EndPlain : ℕ → Exit → Type 0
  EndPlain f Falls = Unit {0}
  EndPlain f (Jumps ms) = JumpPlain j.t (code j f).blocks ms
  EndPlain f (Branches ms) = JumpPlain j.t (code j f).blocks ms
  EndPlain f (Calls ms) = CallPlain f ms
  EndPlain f Returns = Unit {0}

  pub record IsCode (f : ℕ) : Type 0 where
    pub frame_words : (code j f).frame % word_bytes j.t ≡ 0
    pub first_words : (code j f).first_home % word_bytes j.t ≡ 0
    pub outgoing : word_bytes j.t ≤ (code j f).first_home
    pub homes_inside : (code j f).first_home + word_bytes j.t * (code j f).slots ≤ (code j f).frame
    pub bodies : (i : ℕ) (b : BasicBlock) → slice_get (code j f).blocks i ≡ Some b → BodyPlain j.t b.body
    pub ends : (i : ℕ) (b : BasicBlock) → slice_get (code j f).blocks i ≡ Some b → EndPlain f b.exit

  -- what linking asks: of the machine, of the added transfers and of each routine that is written
  pub record IsLinkable : Type 0 where
    pub sized : IsWordSize j.t.word
    pub memory_words : j.t.memory % word_bytes j.t ≡ 0
    pub memory_small : j.t.memory < 2 ^ j.t.word
    -- data and stack have room in memory
    pub room : j.t.base + length j.p.bytes + j.t.stack ≤ j.t.memory
    pub symbols : (n : ℕ) → slice_index j.p.symbols n < 2 ^ j.t.word
    pub data_bytes : (a n : ℕ) → first_byte j.t j.p a ≡ Some n → n < 256
    pub result_not_stack : j.t.result ≢ j.t.sp
    pub links : LinkFits j.t.link (pushed j.t) (word_bytes j.t) j.t.sp j.t.result
    -- a call keeps no register but the stack register
    pub none_kept : j.t.kept ≡ []
    pub glued : IsGlue j.t j.t.link j.glue
    pub main_stands : Stands j.p.main j.order
    pub codes : (f : ℕ) → Stands f j.order → IsCode f
    -- no label stands in two routines
    pub apart : (f g l : ℕ) → Stands f j.order → Stands g j.order → stands (code j f).blocks l ≡ true → stands (code j g).blocks l ≡ true → f ≡ g
    -- places are words
    pub short : length (program j) < 2 ^ j.t.word

  -- a program of a machine is the linked one: its lines, labels and data; no temporary stands in a line
  pub record IsLinked (c : Code) : Type 0 where
    pub bits : c.word ≡ j.t.word
    pub size : c.size ≡ j.t.memory
    pub lines : c.transfers ≡ program j
    pub labels : c.labels ≡ labels_of j j.order
    pub symbols : c.symbols ≡ j.p.symbols
    pub base : c.base ≡ j.t.base
    pub bytes : c.bytes ≡ j.p.bytes
    pub flat : (k : ℕ) (ms : Transfer) → slice_get (program j) k ≡ Some ms → AllWithin is_no_temporary ms

-- on each input of bytes on which the unlinked program never fails, the linked one never fails either and does the same
abbrev pub LinkedKeeps : Type 0
LinkedKeeps = (j : Job) → IsLinkable j → (c : Code) → IsLinked j c → Keep (machine_run c) (temporary_run j.t j.p)
