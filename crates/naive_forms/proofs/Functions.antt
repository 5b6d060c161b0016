-- The naive code of a function is such as each pass may ask.
use Rattle.std.proofs.Common.{◌≡◌, ℕ, suc, ◌+◌, ◌-◌, ◌*◌, ◌/◌, ◌%◌, ◌^◌, ◌<◌, ◌≤◌, List, [], ◌∷◌, Some, sym, ap, subst, arith}
use Rattle.std.specs.Prelude.{length, All, Contains}
use Rattle.std.specs.List.{AllByRecursion}
use Rattle.std.proofs.Math.Nat.{mul-suc}
use Rattle.std.proofs.lemmas.List.Elements.{All-nil, recursion_from_All}
use Rattle.rtl_word.specs.Words.{IsWordSize}
use Rattle.md_rows.specs.declared.description.RawDescription.{RawDescription}
use Rattle.md_shapes.specs.Shapes.{Frame as Fixed}
use Rattle.md_covers.specs.Covers.{frame_in}
use Rattle.md_check.specs.Checking.{IsChecked}
use Rattle.temp_machine.specs.Routines.{pushed}
use Rattle.temp_machine.specs.Tidy.{IsTidy, transfer_count, return_count, padded_room}
use Rattle.temp_machine.specs.Whole.{IsFramed, outgoing_words}
use Rattle.temp_machine.specs.Units.{IsSound}
use Rattle.temp_code.specs.declared.code.Code.{Code}
use Rattle.temp_code.specs.Routines.{routine_of}
use Rattle.temp_laws.specs.Targets.{target_of, TargetsAreSound}
use Rattle.c_tree.specs.declared.typed.Function.{Function}
use Rattle.c_tree.specs.declared.typed.Typed.{Typed}
use Rattle.c_limits.specs.Weights.{function_weight}
use Rattle.naive_code.specs.Operations.{Op}
use Rattle.naive_code.specs.Functions.{function_homes, slots_of, first_home_of}
use Rattle.naive_counts.specs.Counts.{most_with, WaysAreCounted, AreReturnsWithinWeight}
use Rattle.naive_counts.specs.Homes.{HomesAreSlots}
use Rattle.naive_builder.specs.Appending.{opened}
use Rattle.naive_forms.specs.Operations.{NamesBelow, Goes, most_arguments}
use Rattle.naive_forms.specs.Codes.{BuiltIsTidy, BuiltIsShort, ops_in, IsNaive, IsProper, FunctionsAreSound, FunctionsHaveRoom}
use Rattle.naive_forms.proofs.Transfers.{AreLaws, IsFormed}
use Rattle.naive_forms.proofs.Blocks.{blocks_formed}
use Rattle.naive_forms.proofs.Tidy.{is_tidy, is_straight}
use Rattle.naive_forms.proofs.Framed.{has_frame, enough_slots}
use Rattle.naive_forms.proofs.Rooms.{room_is, takes_is, built_takes}
use Rattle.naive_forms.proofs.Wholes.{is_whole}
use Rattle.naive_forms.proofs.FunctionsLead.{operations_go}

pub built_is_short : WaysAreCounted → BuiltIsShort
built_is_short counted d m label os c each per enough h =
    let e = takes_is each (routine_of c).blocks in
    let f = built_takes each counted d m per enough label os c h in
    omega (arith, e, f)

pub built_is_tidy : AreLaws → BuiltIsTidy
built_is_tidy laws w d m kept label t most n os c checked fixed some names goes built =
    let labels : ℕ → Type 0 = Contains (label ∷ opened os) in
    let formed = blocks_formed laws w d m checked fixed t labels most n some label os c (recursion_from_All (NamesBelow n) os names) (recursion_from_All (Goes t labels most) os goes) built in
    (is_straight d m kept t labels most n (routine_of c) formed, is_tidy d m kept t labels most n (routine_of c) formed)

-- the bits of a word
size_of : TargetsAreSound → (w : ℕ) (d : RawDescription) (m : Fixed) → IsChecked w d → frame_in d ≡ Some m → IsWordSize d.word
size_of targets w d m checked fixed = (targets w d m [] checked fixed (All-nil _) (λ i j e lt le. absurd (omega (arith, le)))).size

-- what is known of the operations of functions
pub record AreCounted : Type 0 where
  pub ways : WaysAreCounted
  pub homes : HomesAreSlots
  pub weight : AreReturnsWithinWeight

module _ (laws : AreLaws) (counts : AreCounted) (targets : TargetsAreSound) (w : ℕ) (d : RawDescription) (m : Fixed) (kept : List ℕ) (t : Typed) (f : Function) (label : ℕ) (c : Code)
    (checked : IsChecked w d) (fixed : frame_in d ≡ Some m) (proper : IsProper kept d m t f label) (naive : IsNaive kept d m t f label c) where
  abbrev os : List Op
  os = ops_in kept d m t f label

  abbrev labels : ℕ → Type 0
  labels = Contains (label ∷ opened os)

  abbrev most : ℕ
  most = most_arguments f

  abbrev n : ℕ
  n = length c.homes

  some : 0 < n
  some =
      let e : length c.homes ≡ length (function_homes kept d.word t f) = ap (λ (hs : List ℕ). length hs) naive.homes in
      let count = (counts.homes kept d.word t f).count in
      omega (arith, e, count)

  names : All (NamesBelow n) os
  names = subst (λ (hs : List ℕ). All (NamesBelow (length hs)) os) (sym naive.homes) proper.names

  goes : All (Goes t labels most) os
  goes = operations_go kept d.word (pushed (target_of d m kept)) t f label proper.sound

  pub formed : AllByRecursion (IsFormed d m t labels most n) (routine_of c).blocks
  formed = blocks_formed laws w d m checked fixed t labels most n some label os c (recursion_from_All (NamesBelow n) os names) (recursion_from_All (Goes t labels most) os goes) naive.built

  size : IsWordSize d.word
  size = size_of targets w d m checked fixed

  -- ---- room

  abbrev each : ℕ
  each = 4 + length kept

  short : 5 * transfer_count (routine_of c) + each * return_count (routine_of c) ≤ 5 * most_with (3 + length kept) os + each
  short = built_is_short counts.ways d m label os c each (3 + length kept) (omega arith) naive.built

  weighs : most_with (3 + length kept) os + 16 + 2 * length kept ≤ function_weight kept f
  weighs = counts.weight kept d.word (pushed (target_of d m kept)) t f label (3 + length kept) proper.scalars (omega arith)

  few : transfer_count (routine_of c) ≤ 2 ^ 32 - 2
  few = let a = short in let b = weighs in let e = proper.light in omega (arith, a, b, e)

  has_room : padded_room (target_of d m kept) (routine_of c) ≤ 5 * function_weight kept f
  has_room =
      let r = room_is d m t labels most n (routine_of c) formed in
      let a = short in let b = weighs in
      let one : 1 + return_count (routine_of c) ≡ suc (return_count (routine_of c)) = omega arith in
      let e : each * (1 + return_count (routine_of c)) ≡ each * suc (return_count (routine_of c)) = ap (λ (k : ℕ). each * k) one in
      let g : each * suc (return_count (routine_of c)) ≡ each * return_count (routine_of c) + each = mul-suc each (return_count (routine_of c)) in
      omega (arith, r, a, b, e, g)

  -- ---- soundness

  framed : IsFramed (target_of d m kept) (routine_of c)
  framed =
      let h = has_frame kept f d.word size in record {
        frame_words = subst (λ (k : ℕ). k % (d.word / 8) ≡ 0) (sym naive.frame) h.whole_frame;
        home_words = subst (λ (k : ℕ). k % (d.word / 8) ≡ 0) (sym naive.first_home) h.home_words;
        short = subst (λ (k : ℕ). k ≤ 32000) (sym naive.frame) proper.short;
        below_homes = subst (λ (k : ℕ). d.word / 8 * (3 + length kept) ≤ k) (sym naive.first_home) h.below_homes;
        reserve = subst (λ (k : ℕ). 16 ≤ k) (sym naive.slots) (enough_slots f);
        fits = subst (λ (k : ℕ). k + d.word / 8 * c.slots ≤ c.frame) (sym naive.first_home)
            (subst (λ (k : ℕ). first_home_of kept d.word f + d.word / 8 * k ≤ c.frame) (sym naive.slots)
            (subst (λ (k : ℕ). first_home_of kept d.word f + d.word / 8 * slots_of f ≤ k) (sym naive.frame) h.fits));
      }

  homes : All (λ h. h < c.slots) c.homes
  homes = subst (λ (hs : List ℕ). All (λ h. h < c.slots) hs) (sym naive.homes)
      (subst (λ (k : ℕ). All (λ h. h < k) (function_homes kept d.word t f)) (sym naive.slots) ((counts.homes kept d.word t f).among_filled proper.filled))

  sound : IsSound (target_of d m kept) (routine_of c)
  sound = record {
    whole = is_whole d m kept t label os c naive.built most proper.once homes few formed;
    framed = framed;
    straight = is_straight d m kept t labels most n (routine_of c) formed;
  }

  outgoing : outgoing_words (target_of d m kept) (routine_of c) ≡ most_arguments f
  outgoing =
      subst (λ (k : ℕ). (k - d.word / 8 * (1 + length kept)) / (d.word / 8) ≡ most_arguments f) (sym naive.first_home) (has_frame kept f d.word size).outgoing

  pub all_of : IsSound (target_of d m kept) (routine_of c) × IsTidy (target_of d m kept) (routine_of c) × (outgoing_words (target_of d m kept) (routine_of c) ≡ most_arguments f)
  all_of = (sound, is_tidy d m kept t labels most n (routine_of c) formed, outgoing)

  pub room_of_all : padded_room (target_of d m kept) (routine_of c) ≤ 5 * function_weight kept f
  room_of_all = has_room

pub functions_are_sound : AreLaws → AreCounted → TargetsAreSound → FunctionsAreSound
functions_are_sound laws counts targets w d m kept t f label c checked fixed proper naive = all_of laws counts targets w d m kept t f label c checked fixed proper naive

pub functions_have_room : AreLaws → AreCounted → TargetsAreSound → FunctionsHaveRoom
functions_have_room laws counts targets w d m kept t f label c checked fixed proper naive = room_of_all laws counts targets w d m kept t f label c checked fixed proper naive
