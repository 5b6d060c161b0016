-- A unit of naive codes is such as each pass may ask.
use Rattle.std.specs.Prelude.{◌≡◌, ◌≤◌, ℕ, suc, ◌+◌, ◌*◌, List, [], ◌∷◌, length, Some, All}
use Rattle.md_rows.specs.declared.description.RawDescription.{RawDescription}
use Rattle.md_shapes.specs.Shapes.{Frame as Fixed}
use Rattle.md_covers.specs.Covers.{frame_in}
use Rattle.md_check.specs.Checking.{IsChecked}
use Rattle.c_tree.specs.declared.typed.Function.{Function}
use Rattle.c_tree.specs.declared.typed.Typed.{Typed}
use Rattle.c_limits.specs.Weights.{function_weight}
use Rattle.c_meaning.specs.Run.{main_in}
use Rattle.temp_machine.specs.Live.{ObeysHomes, reserve_homes}
use Rattle.temp_machine.specs.Tidy.{IsTidy, transfer_count, padded_room}
use Rattle.temp_machine.specs.Units.{IsSound, IsImage}
use Rattle.temp_code.specs.declared.code.Code.{Code}
use Rattle.temp_code.specs.declared.code.Unit.{Unit as Program}
use Rattle.temp_code.specs.Routines.{routine_of, image_of}
use Rattle.temp_laws.specs.Targets.{target_of}
use Rattle.naive_code.specs.Functions.{function_labels}
use Rattle.naive_run.specs.Law.{IsSoundTarget}
use Rattle.naive_forms.specs.Codes.{IsNaive}
use Rattle.naive_units.specs.Trees.{IsProperTree}
use Rattle.naive_units.specs.Transfers.{IsMadeBlock}

module _ (kept : List ℕ) (d : RawDescription) (m : Fixed) where
  -- the naive codes of functions in order, from this number and this label on
  abbrev pub AreNaiveFrom : Typed → (number label : ℕ) → List Function → List Code → Type 0
  AreNaiveFrom t n l [] [] = Unit {0}
  AreNaiveFrom t n l (f ∷ fs) (c ∷ cs) = (c.function ≡ n) × IsNaive kept d m t f l c × AreNaiveFrom t (suc n) (l + function_labels kept d.word t f) fs cs
  AreNaiveFrom t n l [] (c ∷ cs) = ⊥
  AreNaiveFrom t n l (f ∷ fs) [] = ⊥

  -- what holds of the code of a function, in a unit of so many
  pub record IsGoodCode (count : ℕ) (c : Code) : Type 0 where
    pub sound : IsSound (target_of d m kept) (routine_of c)
    pub tidy : IsTidy (target_of d m kept) (routine_of c)
    pub homes : ObeysHomes (target_of d m kept) (routine_of c)
    pub none_in_reserve : All (λ h. reserve_homes ≤ h) c.homes
    pub made : All (IsMadeBlock d m count) c.blocks

  -- a code has no more transfers than its function weighs, and its room is at most five times that
  pub record IsWithinWeight (f : Function) (c : Code) : Type 0 where
    pub transfers : transfer_count (routine_of c) ≤ function_weight kept f
    pub room : padded_room (target_of d m kept) (routine_of c) ≤ 5 * function_weight kept f

  abbrev pub AreWithinWeights : List Function → List Code → Type 0
  AreWithinWeights [] [] = Unit {0}
  AreWithinWeights (f ∷ fs) (c ∷ cs) = IsWithinWeight f c × AreWithinWeights fs cs
  AreWithinWeights [] (c ∷ cs) = ⊥
  AreWithinWeights (f ∷ fs) [] = ⊥

  pub record IsGoodUnit (t : Typed) (u : Program) : Type 0 where
    pub image : IsImage (target_of d m kept) (image_of u)
    pub codes : All (IsGoodCode (length t.functions)) u.codes
    pub weights : AreWithinWeights t.functions u.codes

abbrev pub UnitsAreGood : Type 0
UnitsAreGood =
    (w : ℕ) (d : RawDescription) (m : Fixed) (kept : List ℕ) (t : Typed) (u : Program) → IsChecked w d → frame_in d ≡ Some m → IsProperTree kept d.word t
    → IsSoundTarget (target_of d m kept) (image_of u) → (image_of u).main ≡ main_in t.functions → AreNaiveFrom kept d m t 0 0 t.functions u.codes
    → IsGoodUnit kept d m t u
