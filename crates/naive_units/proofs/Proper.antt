-- What is asked of the functions of a proper tree.
use Rattle.std.proofs.Common.{◌≡◌, ℕ, zero, suc, ◌≤◌, Bool, ◌&&◌, true, false, List, [], ◌∷◌, Some, sym, subst, refl}
use Rattle.std.specs.Prelude.{length, slice_get, All}
use Rattle.std.specs.List.{AllByRecursion, list_all}
use Rattle.std.proofs.lemmas.List.Elements.{All-from_recursion, recursion_from_All}
use Rattle.std.proofs.lemmas.Option.{same_Some, none-some}
use Rattle.std.proofs.lemmas.Bool.{true≢false}
use Rattle.rtl_tree.specs.declared.cells.Cell.{Cell}
use Rattle.rtl_tree.specs.declared.cells.Cell.TheVariants.{Hard, Temp, Flag, Pc, Input, Output, Halt, Hole}
use Rattle.md_rows.specs.declared.description.RawDescription.{RawDescription}
use Rattle.md_shapes.specs.Shapes.{Frame as Fixed}
use Rattle.c_tree.specs.declared.typed.Function.{Function}
use Rattle.c_tree.specs.declared.typed.Typed.{Typed}
use Rattle.c_limits.specs.Frames.{frame_bytes}
use Rattle.c_limits.specs.Weights.{function_weight}
use Rattle.c_sound.specs.Sound.{body_sound, known_in, functions_sound}
use Rattle.temp_machine.specs.Routines.{pushed}
use Rattle.temp_laws.specs.Targets.{target_of}
use Rattle.naive_code.specs.Operations.{Stop, Falls, Jumps, Branches, Calls, Returns, Op, Make, Meet, Scale, Extend, Close}
use Rattle.naive_code.specs.Functions.{function_homes}
use Rattle.naive_run.specs.Sound.{is_sound_function}
use Rattle.naive_counts.specs.Names.{names_scalars}
use Rattle.naive_counts.specs.Homes.{fills_lists, HomesAreSlots}
use Rattle.naive_fits.specs.Labels.{LabelsAreOnce}
use Rattle.naive_forms.specs.Operations.{IsTemporaryBelow, StopBelow, NamesBelow}
use Rattle.naive_forms.specs.Codes.{ops_in, IsProper}
use Rattle.naive_live.specs.Function.{IsSoundFunction, NamesAreTemporaries}
use Rattle.naive_live.specs.Function as live
use Rattle.naive_units.specs.Trees.{IsProperTree}

pub both_so : (a b : Bool) → (a && b) ≡ true → (a ≡ true) × (b ≡ true)
both_so true b e = (refl, e)
both_so false b e = absurd (true≢false (sym e))

pub record IsProperFunction (kept : List ℕ) (w : ℕ) (t : Typed) (f : Function) : Type 0 where
  pub so : IsSoundFunction kept w t f
  pub scalars : names_scalars t f f.body ≡ true
  pub filled : fills_lists f.body ≡ true
  pub short : frame_bytes kept w f ≤ 32000
  pub light : function_weight kept f ≤ 12000

functions_proper : (kept : List ℕ) (w : ℕ) (t : Typed) (fs : List Function) → list_all (is_sound_function kept w t) fs ≡ true → functions_sound w t fs ≡ true
    → list_all (λ f. names_scalars t f f.body) fs ≡ true → list_all (λ f. fills_lists f.body) fs ≡ true → AllByRecursion (λ f. frame_bytes kept w f ≤ 32000) fs
    → AllByRecursion (λ f. function_weight kept f ≤ 12000) fs → AllByRecursion (IsProperFunction kept w t) fs
functions_proper kept w t [] sound meant scalars filled short light = tt
functions_proper kept w t (f ∷ fs) sound meant scalars filled short light =
    let a = both_so (is_sound_function kept w t f) (list_all (is_sound_function kept w t) fs) sound in
    let b = both_so (body_sound (known_in w t f) f.body) (functions_sound w t fs) meant in
    let c = both_so (names_scalars t f f.body) (list_all (λ f. names_scalars t f f.body) fs) scalars in
    let e = both_so (fills_lists f.body) (list_all (λ f. fills_lists f.body) fs) filled in (
      record { so = record { meant = b.0; sound = a.0 }; scalars = c.0; filled = e.0; short = short.0; light = light.0 },
      functions_proper kept w t fs a.1 b.1 c.1 e.1 short.1 light.1,
    )

pub all_proper : (kept : List ℕ) (w : ℕ) (t : Typed) → IsProperTree kept w t → AllByRecursion (IsProperFunction kept w t) t.functions
all_proper kept w t p =
    functions_proper kept w t t.functions p.sound (both_so (functions_sound w t t.functions) _ p.meant).0 p.scalars p.filled
    (recursion_from_All (λ f. frame_bytes kept w f ≤ 32000) t.functions p.bounded.frames) (recursion_from_All (λ f. function_weight kept f ≤ 12000) t.functions p.light)

pub at_item : {A : Type 0} (P : A → Type 0) (xs : List A) (i : ℕ) (x : A) → AllByRecursion P xs → slice_get xs i ≡ Some x → P x
at_item P [] i x h e = absurd (none-some x e)
at_item P (y ∷ xs) zero x h e = subst P (same_Some y x e) h.0
at_item P (y ∷ xs) (suc i) x h e = at_item P xs i x h.1 e

-- ---- names

cell_below : (n : ℕ) (c : Cell) → live.IsTemporaryBelow n c → IsTemporaryBelow n c
cell_below n (Temp i) h = h
cell_below n (Hard i) h = h
cell_below n (Flag i) h = h
cell_below n Pc h = h
cell_below n Input h = h
cell_below n Output h = h
cell_below n Halt h = h
cell_below n (Hole i) h = h

stop_below : (n : ℕ) (s : Stop) → live.StopBelow n s → StopBelow n s
stop_below n Falls h = h
stop_below n (Jumps l) h = h
stop_below n (Branches r a b l) h = h
stop_below n (Calls f) h = h
stop_below n Returns h = h

operation_below : (n : ℕ) (o : Op) → live.NamesBelow n o → NamesBelow n o
operation_below n (Make p o) h = (cell_below n o.a h.0, cell_below n o.b h.1)
operation_below n (Meet a b) h = h
operation_below n (Scale a spare) h = h
operation_below n (Extend a spare) h = h
operation_below n (Close stop l) h = stop_below n stop h

all_below : (n : ℕ) (os : List Op) → AllByRecursion (live.NamesBelow n) os → AllByRecursion (NamesBelow n) os
all_below n [] h = tt
all_below n (o ∷ os) h = (operation_below n o h.0, all_below n os h.1)

names_below : (n k : ℕ) (os : List Op) → k ≡ n → All (live.NamesBelow n) os → All (NamesBelow k) os
names_below n k os e h =
    subst (λ (j : ℕ). All (NamesBelow j) os) (sym e) (All-from_recursion (NamesBelow n) os (all_below n os (recursion_from_All (live.NamesBelow n) os h)))

pub proper : NamesAreTemporaries → LabelsAreOnce → HomesAreSlots → (kept : List ℕ) (d : RawDescription) (m : Fixed) (t : Typed) (f : Function) (label : ℕ)
    → IsProperFunction kept d.word t f → IsProper kept d m t f label
proper names once homes kept d m t f label p = record {
  sound = p.so.sound;
  scalars = p.scalars;
  short = p.short;
  light = p.light;
  filled = p.filled;
  names = names_below _ (length (function_homes kept d.word t f)) (ops_in kept d m t f label) ((homes kept d.word t f).count)
      (names kept d.word (pushed (target_of d m kept)) t f label p.so);
  once = once kept d.word (pushed (target_of d m kept)) t f label;
}
