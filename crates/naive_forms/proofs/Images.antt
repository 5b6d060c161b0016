-- A unit of naive codes is such as each pass may ask.
use Rattle.std.proofs.Common.{◌≡◌, ◌≢◌, ◌⊎◌, inl, inr, ℕ, zero, suc, ◌+◌, ◌<◌, ◌≤◌, List, [], ◌∷◌, map, Option, Some, None, refl, sym, ap, subst, ◌∙◌, arith}
use Rattle.std.specs.Prelude.{length, slice_get, Contains}
use Rattle.std.proofs.lemmas.Option.{same_Some, none-some}
use Rattle.std.proofs.lemmas.List.Elements.{All-contains}
use Rattle.rtl_tree.specs.Moves.{Move}
use Rattle.md_rows.specs.declared.description.RawDescription.{RawDescription}
use Rattle.md_shapes.specs.Shapes.{Frame as Fixed}
use Rattle.md_covers.specs.Covers.{frame_in}
use Rattle.md_check.specs.Checking.{IsChecked}
use Rattle.temp_machine.specs.Routines.{Calls, BasicBlock, Routine, Image, Target}
use Rattle.temp_machine.specs.Machine.{callee_of}
use Rattle.temp_machine.specs.Live.{Place, End, item_of, item_at}
use Rattle.temp_machine.specs.Whole.{HasLabel, outgoing_words}
use Rattle.temp_machine.specs.Units.{IsSound}
use Rattle.temp_code.specs.declared.code.Code.{Code}
use Rattle.temp_code.specs.Routines.{routine_of}
use Rattle.temp_laws.specs.Targets.{target_of, TargetsAreSound}
use Rattle.c_tree.specs.declared.typed.Function.{Function}
use Rattle.c_tree.specs.declared.typed.Typed.{Typed}
use Rattle.naive_code.specs.Functions.{function_labels}
use Rattle.naive_builder.specs.Appending.{opened}
use Rattle.naive_forms.specs.Operations.{IsCallee, most_arguments}
use Rattle.naive_forms.specs.Codes.{ops_in, IsNaive}
use Rattle.naive_forms.specs.Images.{IsAmong, AreCodes, UnitsAreImages}
use Rattle.naive_forms.proofs.Transfers.{AreLaws}
use Rattle.naive_forms.proofs.Places.{end_at}
use Rattle.naive_forms.proofs.Functions.{AreCounted, all_of, formed}
use Rattle.naive_forms.proofs.Wholes.{labels_are}

module _ (laws : AreLaws) (counts : AreCounted) (targets : TargetsAreSound) (w : ℕ) (d : RawDescription) (m : Fixed) (kept : List ℕ) (t : Typed) (first : ℕ → ℕ) (u : Image)
    (checked : IsChecked w d) (fixed : frame_in d ≡ Some m) (codes : AreCodes kept d m t first u) where
  abbrev machine : Target
  machine = target_of d m kept

  -- a function that is there: what its code is
  record IsThere (g : ℕ) : Type 0 where
    function : Function
    has : slice_get t.functions g ≡ Some function
    code : Code
    naive : IsNaive kept d m t function (first g) code
    routine : u.routines g ≡ routine_of code
    sound : IsSound machine (u.routines g)
    words : outgoing_words machine (u.routines g) ≡ most_arguments function

  there_by : (g : ℕ) (f : Function) → slice_get t.functions g ≡ Some f → IsThere g
  there_by g f has =
      let x = codes.code g f has in
      let h = all_of laws counts targets w d m kept t f (first g) x.0 checked fixed (codes.proper g f has) x.1 in
      record {
        function = f;
        has = has;
        code = x.0;
        naive = x.1;
        routine = x.2;
        sound = subst (λ (r : Routine). IsSound machine r) (sym x.2) h.0;
        words = subst (λ (r : Routine). outgoing_words machine r ≡ most_arguments f) (sym x.2) h.2;
      }

  by_option : (g : ℕ) (o : Option Function) → slice_get t.functions g ≡ o → 0 < length (u.routines g).blocks → IsThere g
  by_option g (Some f) e lt = there_by g f e
  by_option g None e lt =
      let none : length (u.routines g).blocks ≡ 0 = ap (λ (bs : List BasicBlock). length bs) (codes.none g e) in absurd (omega (arith, lt, none))

  there : (g : ℕ) → 0 < length (u.routines g).blocks → IsThere g
  there g lt = by_option g (slice_get t.functions g) refl lt

  -- a routine with a label has a block
  nonempty : (r : Routine) (l : ℕ) → HasLabel r l → 0 < length r.blocks
  nonempty r l h = by r.blocks h
    where
      by : (bs : List BasicBlock) → Contains (map (λ b. b.label) bs) l → 0 < length bs
      by [] (k, lt, e) = absurd (omega (arith, lt))
      by (b ∷ bs) h = omega arith

  -- its label is one of its function's
  among : (g l : ℕ) (x : IsThere g) → HasLabel (u.routines g) l → IsAmong (first g) (function_labels kept d.word t x.function) l
  among g l x h =
      let own = labels_are d m kept t (first g) (ops_in kept d m t x.function (first g)) x.code x.naive.built in
      let has : HasLabel (routine_of x.code) l = subst (λ (r : Routine). HasLabel r l) x.routine h in
      All-contains (IsAmong (first g) (function_labels kept d.word t x.function)) (first g ∷ opened (ops_in kept d m t x.function (first g))) l
      (codes.own g x.function x.has) (subst (λ (ls : List ℕ). Contains ls l) own has)

  before : (g h l : ℕ) (x : IsThere g) (y : IsThere h) → g < h → HasLabel (u.routines g) l → HasLabel (u.routines h) l → ⊥
  before g h l x y lt a b =
      let p = among g l x a in let q = among h l y b in
      let below : l < first g + function_labels kept d.word t x.function = p.1 in
      let above : first h ≤ l = q.0 in
      let apart = codes.apart g h x.function lt x.has in
      omega (arith, below, above, apart)

  differ : (g h l : ℕ) → g ≢ h → HasLabel (u.routines g) l → HasLabel (u.routines h) l → ⊥
  differ g h l ne a b =
      let x = there g (nonempty (u.routines g) l a) in let y = there h (nonempty (u.routines h) l b) in by x y (order g h)
    where
      order : (i j : ℕ) → (i < j) ⊎ ((j < i) ⊎ (i ≡ j))
      order zero zero = inr (inr refl)
      order zero (suc j) = inl (omega arith)
      order (suc i) zero = inr (inl (omega arith))
      order (suc i) (suc j) = onward (order i j)
        where
          onward : (i < j) ⊎ ((j < i) ⊎ (i ≡ j)) → (suc i < suc j) ⊎ ((suc j < suc i) ⊎ (suc i ≡ suc j))
          onward (inl lt) = inl (omega (arith, lt))
          onward (inr (inl lt)) = inr (inl (omega (arith, lt)))
          onward (inr (inr e)) = inr (inr (ap suc e))

      by : IsThere g → IsThere h → (g < h) ⊎ ((h < g) ⊎ (g ≡ h)) → ⊥
      by x y (inl lt) = before g h l x y lt a b
      by x y (inr (inl lt)) = before h g l y x lt b a
      by x y (inr (inr e)) = ne e

  -- a transfer calls one function
  same_callee : (ms : List Move) (g h : ℕ) → callee_of d.word ms ≡ Some g → callee_of d.word ms ≡ Some h → g ≡ h
  same_callee ms g h p q = same_Some g h (sym p ∙ q)

  same_params : (r : Routine) (c : Code) → r ≡ routine_of c → r.params ≡ c.params
  same_params r c e = ap (λ (x : Routine). x.params) e

  -- a call's arguments have words
  call_words : (g h : ℕ) (at : Place) (ms : List Move) → item_at (u.routines g) at ≡ Some (End (Calls ms)) → callee_of d.word ms ≡ Some h → IsThere g
      → (u.routines h).params ≤ outgoing_words machine (u.routines g)
  call_words g h at ms item goes x =
      let f = formed laws counts targets w d m kept t x.function (first g) x.code checked fixed (codes.proper g x.function x.has) x.naive in
      let here : item_at (routine_of x.code) at ≡ Some (End (Calls ms)) = subst (λ (r : Routine). item_at r at ≡ Some (End (Calls ms))) x.routine item in
      let e = (end_at d m t (Contains (first g ∷ opened (ops_in kept d m t x.function (first g)))) (most_arguments x.function) (length x.code.homes) (routine_of x.code) f at (Calls ms) here).ends in
      let same : e.callee ≡ h = same_callee ms e.callee h e.goes goes in
      let callee : IsCallee t (most_arguments x.function) h = subst (λ (k : ℕ). IsCallee t (most_arguments x.function) k) same e.own in
      let y = codes.code h callee.0 callee.1 in
      let routine = same_params (u.routines h) y.0 y.2 in
      let params : y.0.params ≡ length callee.0.params = y.1.params in
      let few = callee.2 in let words = x.words in
      omega (arith, routine, params, few, words)

  some_item : (r : Routine) (at : Place) (ms : List Move) → item_at r at ≡ Some (End (Calls ms)) → 0 < length r.blocks
  some_item r at ms e = by r.blocks e
    where
      by : (bs : List BasicBlock) → item_of (slice_get bs at.block) at.at ≡ Some (End (Calls ms)) → 0 < length bs
      by [] h = absurd (none-some (End (Calls ms)) h)
      by (b ∷ bs) h = omega arith

  main_is : 0 < length (u.routines u.main).blocks
  main_is =
      let x = there_by u.main codes.main.0 codes.main.1 in
      x.sound.whole.has_block

pub units_are_images : AreLaws → AreCounted → TargetsAreSound → UnitsAreImages
units_are_images laws counts targets w d m kept t first u checked fixed machine codes = record {
  bytes = machine.bytes;
  symbols = machine.symbols;
  room = machine.room;
  main = main_is laws counts targets w d m kept t first u checked fixed codes;
  routines = λ g lt. (there laws counts targets w d m kept t first u checked fixed codes g lt).sound;
  labels = differ laws counts targets w d m kept t first u checked fixed codes;
  arguments = λ g h at ms item goes.
      call_words laws counts targets w d m kept t first u checked fixed codes g h at ms item goes
      (there laws counts targets w d m kept t first u checked fixed codes g (some_item laws counts targets w d m kept t first u checked fixed codes (u.routines g) at ms item));
}
