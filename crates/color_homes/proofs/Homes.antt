-- A load of a home and a store to one, by the instruction of their shapes.
use Rattle.std.proofs.Common.{◌≡◌, ℕ, ◌<◌, ◌+◌, ◌++◌, true, List, [], ◌∷◌, get_or, take, length, inl, inr, refl, sym, ap, subst, ◌∙◌, append_assoc}
use Rattle.std.specs.Prelude.{IfOk, Result, Ok, Err, slice_index}
use Rattle.std.specs.List.{AllZip}
use Rattle.std.proofs.lemmas.List.{take_more}
use Rattle.std.proofs.lemmas.Option.{get_or_from_slice_get}
use Rattle.rtl_tree.specs.declared.memory.NoMemory.{NoMemory}
use Rattle.md_rows.specs.declared.description.RawDescription.{RawDescription}
use Rattle.md_rows.specs.Fits.{is_in}
use Rattle.md_shapes.specs.declared.patterns.Pattern.{Pattern}
use Rattle.md_shapes.specs.declared.patterns.Pattern.TheVariants.{LoadHome, StoreHome}
use Rattle.md_shapes.specs.Shapes.{Frame}
use Rattle.md_shapes.specs.Drawings.{frame_of}
use Rattle.md_covers.specs.Numbers.{runs_of, IsNumberOf}
use Rattle.md_covers.specs.Covers.{general_bits, IsOpenOf}
use Rattle.md_said.specs.Sound.{SaidIsSound}
use Rattle.md_said.specs.Limits.{SaidIsLimited}
use Rattle.md_check.specs.Checking.{IsChecked}
use Rattle.temp_machine.specs.Routines.{Routine, Target}
use Rattle.temp_machine.specs.Cells.{is_temporary}
use Rattle.temp_code.specs.declared.code.Transfer.{Transfer}
use Rattle.temp_code.specs.Realised.{IsRealised}
use Rattle.temp_code.specs.Routines.{routine_of}
use Rattle.temp_shapes.specs.Rows.{IsPatternCovered}
use Rattle.temp_shapes.specs.Elementary.{IsTransferOf}
use Rattle.temp_shapes.proofs.Roles.{checked_size}
use Rattle.temp_laws.specs.Keeping.{NamesAreShapes}
use Rattle.temp_laws.specs.Covered.{RequiredAreCovered}
use Rattle.temp_laws.proofs.Targets.{BitsAreSum}
use Rattle.color_spilling.specs.Spilling.{home_offset}
use Rattle.color_image.specs.Rows.{HomesAreStraight}
use Rattle.row_colors.specs.Spilling.{LoadsDo, StoresDo, HomesAreNumbers}
use Rattle.color_homes.specs.declared.places.Places.{Places}
use Rattle.color_homes.specs.Putting.{ArePlaces, target_in, IsPlainStep}
use Rattle.color_homes.specs.Loading.{is_home, at_home, HasHome, IsRegister, IsLoad, IsStore, Adds}
use Rattle.color_homes.proofs.Lists.{false_true, zip_more}
use Rattle.color_homes.proofs.Registers.{registers_sound}

pub home_of : (r : Routine) (k : ℕ) → HasHome r k → slice_index r.homes k < r.slots
home_of r k h = subst (λ (n : ℕ). n < r.slots) (sym (get_or_from_slice_get r.homes k h.0 0 h.1)) h.2

pub covered : (w : ℕ) (d : RawDescription) (p : Places) (pattern : Pattern) → RequiredAreCovered → IsChecked w d → ArePlaces d p → is_home pattern ≡ true → IsPatternCovered d pattern
covered w d p LoadHome required c places e = (required w d p.rows.now c places.rows).always LoadHome refl
covered w d p StoreHome required c places e = (required w d p.rows.now c places.rows).always StoreHome refl
covered w d p _ required c places e = false_true e

module _ (w : ℕ) (d : RawDescription) (p : Places) (c : IsChecked w d) (places : ArePlaces d p) where
  abbrev t : Target
  t = target_in d p

  abbrev r : Routine
  r = routine_of p.code.now

  abbrev frame : Frame
  frame = frame_of d.word p.rows.now.frame

  numbers : (pattern : Pattern) (k : ℕ) → SaidIsSound → HomesAreNumbers → is_home pattern ≡ true → HasHome r k → IsNumberOf (runs_of d.word pattern) (home_offset t r k)
  numbers LoadHome k sound law e h = (law t r k (checked_size w d sound c) places.framed (home_of r k h)).0
  numbers StoreHome k sound law e h = (law t r k (checked_size w d sound c) places.framed (home_of r k h)).1
  numbers _ k sound law e h = false_true e

  pub open_home : (pattern : Pattern) (n k number : ℕ) → SaidIsSound → SaidIsLimited → BitsAreSum → HomesAreNumbers → is_home pattern ≡ true → IsRegister d n → HasHome r k
      → number ≡ home_offset t r k → IsOpenOf d.word (general_bits d.registers) pattern (at_home n number)
  open_home pattern n k number sound limited sums law e register h is =
      let sum = (registers_sound w d limited sums c).sum in
      let general = subst (λ (set : ℕ). (n < 64) × (is_in set n ≡ true)) (sym sum) register in
      record { a = general; b = general; number = subst (IsNumberOf (runs_of d.word pattern)) (sym is) (numbers pattern k sound law e h) }

  module _ (n k : ℕ) (register : IsRegister d n) where
    spilling : NamesAreShapes → HomesAreStraight → (pattern : Pattern) → is_home pattern ≡ true → (x : Transfer) → IsRealised d x → IsTransferOf d frame pattern (at_home n (home_offset t r k)) x
        → IsPlainStep d t x
    spilling names straight LoadHome e x realised h = record {
      realised = realised;
      plain = names w d frame LoadHome (at_home n (home_offset t r k)) x c h is_temporary (record {
        hard = λ j f. false_true f;
        flags = λ j. refl;
        counter = refl;
        input = refl;
        output = refl;
        halt = refl;
      }) refl;
      straight = straight w d frame [] (at_home n (home_offset t r k)) n x c places.rows.frame refl register.1 (inl h);
    }
    spilling names straight StoreHome e x realised h = record {
      realised = realised;
      plain = names w d frame StoreHome (at_home n (home_offset t r k)) x c h is_temporary (record {
        hard = λ j f. false_true f;
        flags = λ j. refl;
        counter = refl;
        input = refl;
        output = refl;
        halt = refl;
      }) refl;
      straight = straight w d frame [] (at_home n (home_offset t r k)) n x c places.rows.frame refl register.1 (inr h);
    }
    spilling names straight _ e x realised h = false_true e

    pub load_is : LoadsDo → NamesAreShapes → HomesAreStraight → SaidIsSound → SaidIsLimited → BitsAreSum → HomesAreNumbers → HasHome r k
        → (result : Result Transfer NoMemory) → IfOk result (IsTransferOf d frame LoadHome (at_home n (home_offset t r k))) → IfOk result (IsRealised d)
        → IfOk result (IsLoad d t r n k)
    load_is does names straight sound limited sums numbers_law h (Ok x) shape realised = record {
      does = does w d frame (at_home n (home_offset t r k)) x n c (open_home LoadHome n k (home_offset t r k) sound limited sums numbers_law refl register h refl) shape refl;
      step = spilling names straight LoadHome refl x realised shape;
    }
    load_is does names straight sound limited sums numbers_law h (Err e) shape realised = tt

    pub store_is : StoresDo → NamesAreShapes → HomesAreStraight → SaidIsSound → SaidIsLimited → BitsAreSum → HomesAreNumbers → HasHome r k
        → (result : Result Transfer NoMemory) → IfOk result (IsTransferOf d frame StoreHome (at_home n (home_offset t r k))) → IfOk result (IsRealised d)
        → IfOk result (IsStore d t r n k)
    store_is does names straight sound limited sums numbers_law h (Ok x) shape realised = record {
      does = does w d frame (at_home n (home_offset t r k)) x n c (open_home StoreHome n k (home_offset t r k) sound limited sums numbers_law refl register h refl) shape refl;
      step = spilling names straight StoreHome refl x realised shape;
    }
    store_is does names straight sound limited sums numbers_law h (Err e) shape realised = tt

-- one more transfer
pub adds_next : (Is : ℕ → ℕ → Transfer → Type 0) (register : ℕ → ℕ) (ks : List ℕ) (i e : ℕ) (old now new : List Transfer) (x : Transfer) (n : ℕ) → i < length ks
    → Adds (λ k. Is (register k) k) (take i ks) old now → n ≡ register (get_or ks i e) → Is n (get_or ks i e) x → new ≡ now ++ x ∷ []
    → Adds (λ k. Is (register k) k) (take (i + 1) ks) old new
adds_next Is register ks i e old now new x n l a same is more = record {
  added = a.added ++ x ∷ [];
  are =
      subst (λ (js : List ℕ). AllZip (λ k. Is (register k) k) js (a.added ++ x ∷ [])) (sym (take_more ks i e l))
      (zip_more (λ k. Is (register k) k) (take i ks) a.added (get_or ks i e) x a.are (subst (λ (m : ℕ). Is m (get_or ks i e) x) same is));
  is = more ∙ (ap (λ (ys : List Transfer). ys ++ x ∷ []) a.is ∙ append_assoc old a.added (x ∷ []));
}
