-- The codes of functions.
use Rattle.std.specs.Prelude.{◌≡◌, ℕ, suc, ◌+◌, ◌/◌, List, [], ◌∷◌, ◌++◌, map, All}
use Rattle.md_rows.specs.declared.description.RawDescription.{RawDescription}
use Rattle.md_shapes.specs.Shapes.{Frame as Fixed}
use Rattle.c_tree.specs.declared.typed.Function.{Function}
use Rattle.c_tree.specs.declared.typed.Typed.{Typed}
use Rattle.temp_machine.specs.Routines.{Target, pushed_by}
use Rattle.temp_code.specs.declared.code.Code.{Code}
use Rattle.temp_code.specs.Realised.{AreRealised, transfers_of}
use Rattle.temp_code.specs.Routines.{routine_of}
use Rattle.temp_shapes.specs.Elementary.{IsElementary}
use Rattle.temp_laws.specs.Targets.{target_of}
use Rattle.naive_code.specs.Operations.{Op}
use Rattle.naive_code.specs.Functions.{function_ops, function_labels, numbers_from}
use Rattle.naive_run.specs.Law.{Expands}
use Rattle.naive_builder.specs.Appending.{opened}
use Rattle.naive_forms.specs.Codes.{IsBuilt}
use Rattle.naive_expand.specs.declared.frames.Frame.{Frame}
use Rattle.naive_expand.specs.declared.functions.Made.{Made}

-- the machine of a description, none of whose registers is kept over calls
abbrev pub machine_of : RawDescription → Fixed → Target
machine_of d m = target_of d m []

abbrev pub AreElementary : RawDescription → Code → Type 0
AreElementary d c = All (λ b. All (IsElementary d) (transfers_of b)) c.blocks

-- the operations of a function whose first block has this label
abbrev pub operations : RawDescription → Fixed → Typed → Function → ℕ → List Op
operations d m t f label = function_ops [] d.word (pushed_by m.link (d.word / 8)) t f label

-- the numbers of a code, with homes for so many scalars and for depths behind them
pub record HasNumbers (number count : ℕ) (r : Frame) (depths : List ℕ) (c : Code) : Type 0 where
  pub function : c.function ≡ number
  pub params : c.params ≡ count
  pub frame : c.frame ≡ r.bytes
  pub first_home : c.first_home ≡ r.first_home
  pub slots : c.slots ≡ r.slots
  pub homes : c.homes ≡ numbers_from 16 r.scalars ++ map (λ d. 16 + r.scalars + d) depths

-- the naive code of the function of this number, whose first block has this label, by the description's instructions
pub record IsCodeOf (d : RawDescription) (m : Fixed) (t : Typed) (number : ℕ) (f : Function) (label : ℕ) (c : Code) : Type 0 where
  pub function : c.function ≡ number
  pub expands : Expands (machine_of d m) m t f label (routine_of c)
  pub labels : map (λ b. b.label) c.blocks ≡ label ∷ opened (operations d m t f label)
  pub realised : AreRealised d c
  pub elementary : AreElementary d c
  pub built : IsBuilt d m label (operations d m t f label) c

-- such a code, and the label behind those that the function takes
pub record IsMadeOf (d : RawDescription) (m : Fixed) (t : Typed) (number : ℕ) (f : Function) (label : ℕ) (made : Made) : Type 0 where
  pub code : IsCodeOf d m t number f label made.code
  pub next : made.next_label ≡ label + function_labels [] d.word t f

-- the codes of functions in order, from this number on; the labels of each are behind those of the one before it
abbrev pub AreCodesFrom : RawDescription → Fixed → Typed → (number label : ℕ) → List Function → List Code → Type 0
AreCodesFrom d m t n l [] [] = Unit {0}
AreCodesFrom d m t n l (f ∷ fs) (c ∷ cs) = IsCodeOf d m t n f l c × AreCodesFrom d m t (suc n) (l + function_labels [] d.word t f) fs cs
AreCodesFrom d m t n l [] (c ∷ cs) = ⊥
AreCodesFrom d m t n l (f ∷ fs) [] = ⊥
