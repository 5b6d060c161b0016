-- The codes of all functions are such as each pass may ask.
use Rattle.std.proofs.Common.{◌≡◌, ℕ, zero, suc, ◌+◌, ◌*◌, ◌<◌, ◌≤◌, nat_lt, true, List, [], ◌∷◌, Some, refl, sym, ap, subst, ◌∙◌, arith}
use Rattle.std.specs.Prelude.{length, slice_get, All, Contains}
use Rattle.std.specs.List.{AllByRecursion}
use Rattle.std.proofs.lemmas.List.Elements.{All-from_recursion, recursion_from_All}
use Rattle.std.proofs.lemmas.Bool.Decides.{nat_tests}
use Rattle.md_rows.specs.declared.description.RawDescription.{RawDescription}
use Rattle.md_shapes.specs.Shapes.{Frame as Fixed}
use Rattle.md_covers.specs.Covers.{frame_in}
use Rattle.md_check.specs.Checking.{IsChecked}
use Rattle.c_tree.specs.declared.typed.Function.{Function}
use Rattle.c_tree.specs.declared.typed.Typed.{Typed}
use Rattle.c_limits.specs.Weights.{function_weight}
use Rattle.c_meaning.specs.Run.{main_in}
use Rattle.c_sound.specs.Sound.{functions_sound}
use Rattle.temp_machine.specs.Live.{reserve_homes}
use Rattle.temp_machine.specs.Routines.{Target, pushed}
use Rattle.temp_machine.specs.Tidy.{transfer_count, return_count}
use Rattle.temp_code.specs.declared.code.Code.{Code}
use Rattle.temp_code.specs.declared.code.Unit.{Unit as Program}
use Rattle.temp_code.specs.Routines.{routine_of, image_of}
use Rattle.temp_laws.specs.Targets.{target_of}
use Rattle.naive_code.specs.Functions.{function_labels}
use Rattle.naive_counts.specs.Counts.{most_in, IsWithinWeight as CodeIsWithinWeight}
use Rattle.naive_counts.specs.Homes.{HomesAreSlots}
use Rattle.naive_builder.specs.Appending.{opened}
use Rattle.naive_fits.specs.Labels.{LabelsAreOnce, LabelsAreOwn}
use Rattle.naive_forms.specs.Operations.{Goes, most_arguments, OperationsGo}
use Rattle.naive_forms.specs.Codes.{ops_in, IsNaive, IsProper, BuiltIsShort, FunctionsAreSound, FunctionsHaveRoom}
use Rattle.naive_forms.specs.Images.{AreCodes, UnitsAreImages}
use Rattle.naive_homes.specs.Homes.{HomesAreObeyed, NoneIsReserve}
use Rattle.naive_live.specs.Function.{NamesAreTemporaries}
use Rattle.naive_units.specs.Trees.{IsProperTree}
use Rattle.naive_units.specs.Units.{AreNaiveFrom, IsGoodCode, IsWithinWeight, AreWithinWeights, UnitsAreGood}
use Rattle.naive_units.proofs.Made.{blocks_made}
use Rattle.naive_units.proofs.Proper.{both_so, IsProperFunction, all_proper, at_item, proper}
use Rattle.naive_units.proofs.Numbered.{first_of, apart, code_at, none_at}

-- the laws that are cited
pub record AreLaws : Type 0 where
  pub sound : FunctionsAreSound
  pub room : FunctionsHaveRoom
  pub short : BuiltIsShort
  pub go : OperationsGo
  pub images : UnitsAreImages
  pub homes : HomesAreObeyed
  pub none : NoneIsReserve
  pub names : NamesAreTemporaries
  pub once : LabelsAreOnce
  pub own : LabelsAreOwn
  pub slots : HomesAreSlots
  pub weight : CodeIsWithinWeight

found_at : {A : Type 0} (xs : List A) (i : ℕ) → i < length xs → (x : A) × (slice_get xs i ≡ Some x)
found_at [] i lt = absurd (omega (arith, lt))
found_at (x ∷ xs) zero lt = (x, refl)
found_at (x ∷ xs) (suc i) lt = found_at xs i (omega (arith, lt))

below : (a b : ℕ) → nat_lt a b ≡ true → a < b
below a b e = grind (arith, nat_tests, e)

module _ (laws : AreLaws) (w : ℕ) (d : RawDescription) (m : Fixed) (kept : List ℕ) (t : Typed) (checked : IsChecked w d) (fixed : frame_in d ≡ Some m) where
  abbrev machine : Target
  machine = target_of d m kept

  proper_at : (f : Function) (l : ℕ) → IsProperFunction kept d.word t f → IsProper kept d m t f l
  proper_at f l p = proper laws.names laws.once laws.slots kept d m t f l p

  -- ---- one code

  good_code : (f : Function) (l : ℕ) (c : Code) → IsProperFunction kept d.word t f → IsNaive kept d m t f l c → IsGoodCode kept d m (length t.functions) c
  good_code f l c p naive =
      let sound = laws.sound w d m kept t f l c checked fixed (proper_at f l p) naive in
      let labels : ℕ → Type 0 = Contains (l ∷ opened (ops_in kept d m t f l)) in
      let goes = laws.go kept d.word (pushed machine) t f l p.so.sound in
      record {
        sound = sound.0;
        tidy = sound.1;
        homes = laws.homes w d m kept (pushed machine) t f l naive.built.emitted c checked p.so naive.built.appends naive.built.blocks naive.homes;
        none_in_reserve = subst (λ (hs : List ℕ). All (λ h. reserve_homes ≤ h) hs) (sym naive.homes) (laws.none kept d.word t f);
        made = blocks_made d m t labels (most_arguments f) l (ops_in kept d m t f l) c (recursion_from_All (Goes t labels (most_arguments f)) (ops_in kept d m t f l) goes) naive.built;
      }

  light_code : (f : Function) (l : ℕ) (c : Code) → IsProperFunction kept d.word t f → IsNaive kept d m t f l c → IsWithinWeight kept d m f c
  light_code f l c p naive =
      let short : 5 * transfer_count (routine_of c) + 0 * return_count (routine_of c) ≤ 5 * most_in (ops_in kept d m t f l) + 0 =
      laws.short d m l (ops_in kept d m t f l) c 0 0 (omega arith) naive.built in
      let weighs : most_in (ops_in kept d m t f l) + 16 ≤ function_weight kept f = laws.weight kept d.word (pushed machine) t f l p.scalars in
      record {
        transfers = omega (arith, short, weighs);
        room = laws.room w d m kept t f l c checked fixed (proper_at f l p) naive;
      }

  -- ---- all of them

  good_codes : (n l : ℕ) (fs : List Function) (cs : List Code) → AllByRecursion (IsProperFunction kept d.word t) fs → AreNaiveFrom kept d m t n l fs cs
      → AllByRecursion (IsGoodCode kept d m (length t.functions)) cs
  good_codes n l [] [] p a = tt
  good_codes n l (f ∷ fs) (c ∷ cs) p a = (good_code f l c p.0 a.1, good_codes (suc n) (l + function_labels kept d.word t f) fs cs p.1 a.2)
  good_codes n l [] (c ∷ cs) p a = absurd a
  good_codes n l (f ∷ fs) [] p a = absurd a

  light_codes : (n l : ℕ) (fs : List Function) (cs : List Code) → AllByRecursion (IsProperFunction kept d.word t) fs → AreNaiveFrom kept d m t n l fs cs
      → AreWithinWeights kept d m fs cs
  light_codes n l [] [] p a = tt
  light_codes n l (f ∷ fs) (c ∷ cs) p a = (light_code f l c p.0 a.1, light_codes (suc n) (l + function_labels kept d.word t f) fs cs p.1 a.2)
  light_codes n l [] (c ∷ cs) p a = absurd a
  light_codes n l (f ∷ fs) [] p a = absurd a

  are_codes : (u : Program) → IsProperTree kept d.word t → (image_of u).main ≡ main_in t.functions → AreNaiveFrom kept d m t 0 0 t.functions u.codes
      → AreCodes kept d m t (first_of kept d m t t.functions 0) (image_of u)
  are_codes u p e a =
      let each = all_proper kept d.word t p in
      let main = found_at t.functions (main_in t.functions) (below (main_in t.functions) (length t.functions) (both_so (functions_sound d.word t t.functions) _ p.meant).1) in
      record {
        main = (main.0, ap (λ (k : ℕ). slice_get t.functions k) e ∙ main.1);
        code = λ g f is. code_at kept d m t 0 0 t.functions u.codes g g f (omega arith) a is;
        proper = λ g f is. proper_at f (first_of kept d m t t.functions 0 g) (at_item (IsProperFunction kept d.word t) t.functions g f each is);
        none = λ g is. none_at kept d m t 0 0 t.functions u.codes g g (omega arith) a is;
        own = λ g f is. laws.own kept d.word (pushed machine) t f (first_of kept d m t t.functions 0 g);
        apart = λ g h f lt is. apart kept d m t t.functions 0 g h f lt is;
      }

pub units_are_good : AreLaws → UnitsAreGood
units_are_good laws w d m kept t u checked fixed p sound main naive =
    let each = all_proper kept d.word t p in
    record {
      image = laws.images w d m kept t (first_of kept d m t t.functions 0) (image_of u) checked fixed sound (are_codes laws w d m kept t checked fixed u p main naive);
      codes = All-from_recursion (IsGoodCode kept d m (length t.functions)) u.codes (good_codes laws w d m kept t checked fixed 0 0 t.functions u.codes each naive);
      weights = light_codes laws w d m kept t checked fixed 0 0 t.functions u.codes each naive;
    }
