-- The core of a transfer does what the transfer does.
use Rattle.std.proofs.Common.{◌≡◌, ℕ, ◌&&◌, ◌||◌, not, Bool, true, false, cond, List, [], ◌∷◌, Option, Some, Result, Ok, Err, refl, sym, ap, ◌∙◌, subst, arith, inl, inr}
use Rattle.std.specs.Prelude.{◌⊎◌}
use Rattle.std.proofs.lemmas.Bool.{eqb-true, eq-eqb}
use Rattle.rtl_tree.specs.Trees.{Tree, Read}
use Rattle.rtl_tree.specs.declared.cells.Cell.{Cell}
use Rattle.rtl_tree.specs.declared.cells.Cell.TheVariants.{Hard, Temp, Flag, Pc, Input, Output, Halt, Hole}
use Rattle.rtl_tree.specs.Same.{same_cell}
use Rattle.rtl_tree.specs.Moves.{Goal, ToCell, ToMemory, Move}
use Rattle.rtl_effect.specs.Views.{Stop, View, bind}
use Rattle.rtl_effect.specs.Effects.{assigned_by, assigned, storing_by, storing, is_input, takes, next_in, input_after, cell_after, cells_after, mark_after, tested_by, tested, event, went, Patch, patch_of, view_after, Done, effect}
use Rattle.temp_machine.specs.Cells.{sets_by, is_flag, move_reads, reads, reads_beside_flags, reads_for_flag}
use Rattle.color_cores.specs.Cores.{is_wanted, core, IsSameBeside, CoreDoes, CoreReads}

false_true : {A : Type 0} → false ≡ true → A
false_true e = absurd (let k : false ≡ true = e in cc)

true_false : {A : Type 0} → true ≡ false → A
true_false e = absurd (let k : true ≡ false = e in cc)

cell_is : (c d : Cell) → same_cell c d ≡ true → c ≡ d
cell_is (Hard m) (Hard n) e = ap Hard (eqb-true m n e)
cell_is (Temp m) (Temp n) e = ap Temp (eqb-true m n e)
cell_is (Flag m) (Flag n) e = ap Flag (eqb-true m n e)
cell_is (Hole m) (Hole n) e = ap Hole (eqb-true m n e)
cell_is Pc Pc e = refl
cell_is Input Input e = refl
cell_is Output Output e = refl
cell_is Halt Halt e = refl
cell_is _ _ e = absurd (let k : false ≡ true = e in cc)

bound : {A B : Type 0} (x : Result A Stop) (go : A → Result B Stop) (d : B) → bind x go ≡ Ok d → (a : A) × (x ≡ Ok a) × (go a ≡ Ok d)
bound (Ok a) go d e = (a, refl, e)
bound (Err s) go d e = absurd (let k : Err s ≡ Ok d = e in cc)

module _ (wanted : ℕ → Bool) where
  -- ---- what is assigned, stored and taken

  pub assigned_core : (c : Cell) → is_wanted wanted (ToCell c) ≡ true → (ms : List Move) → assigned (core wanted ms) c ≡ assigned ms c
  assigned_core c on [] = refl
  assigned_core c on (m ∷ ms) = by (is_wanted wanted m.to) refl (assigned_core c on ms)
    where
      -- what is left out is assigned to another cell
      left_out : (g : Goal) (o : Option Tree) → is_wanted wanted g ≡ false → o ≡ assigned_by g m.value c o
      left_out (ToMemory d a) o f = refl
      left_out (ToCell d) o f = pick (same_cell d c) refl
        where
          pick : (b : Bool) → same_cell d c ≡ b → o ≡ cond b (Some m.value) o
          pick true s = true_false (sym on ∙ ap (λ x. is_wanted wanted (ToCell x)) (sym (cell_is d c s)) ∙ f)
          pick false s = refl

      by : (b : Bool) → is_wanted wanted m.to ≡ b → assigned (core wanted ms) c ≡ assigned ms c → assigned (cond b (m ∷ core wanted ms) (core wanted ms)) c ≡ assigned (m ∷ ms) c
      by true f ih = ap (assigned_by m.to m.value c) ih
      by false f ih = ih ∙ left_out m.to (assigned ms c) f

  pub storing_core : (ms : List Move) → storing (core wanted ms) ≡ storing ms
  storing_core [] = refl
  storing_core (m ∷ ms) = by (is_wanted wanted m.to) refl (storing_core ms)
    where
      left_out : (g : Goal) → is_wanted wanted g ≡ false → storing ms ≡ storing_by g m.value (storing ms)
      left_out (ToMemory d a) f = true_false f
      left_out (ToCell d) f = refl

      by : (b : Bool) → is_wanted wanted m.to ≡ b → storing (core wanted ms) ≡ storing ms → storing (cond b (m ∷ core wanted ms) (core wanted ms)) ≡ storing (m ∷ ms)
      by true f ih = ap (storing_by m.to m.value) ih
      by false f ih = ih ∙ left_out m.to f

  module _ (w : ℕ) (v : View) where
    tested_core : (ms : List Move) → tested w ms v ≡ Ok tt → tested w (core wanted ms) v ≡ Ok tt
    tested_core [] e = refl
    tested_core (m ∷ ms) e =
        let first = bound (tested_by w m.to m.value v) (λ x. tested w ms v) tt e in
        by (is_wanted wanted m.to) (tested_core ms first.2) first.1
      where
        by : (b : Bool) → tested w (core wanted ms) v ≡ Ok tt → tested_by w m.to m.value v ≡ Ok tt → tested w (cond b (m ∷ core wanted ms) (core wanted ms)) v ≡ Ok tt
        by true ih f = ap (λ x. bind x (λ y. tested w (core wanted ms) v)) f ∙ ih
        by false ih f = ih

    -- a byte that is taken isn't left out: it is no pair
    takes_core : (ms : List Move) → tested w ms v ≡ Ok tt → takes (core wanted ms) ≡ takes ms
    takes_core [] e = refl
    takes_core (m ∷ ms) e =
        let first = bound (tested_by w m.to m.value v) (λ x. tested w ms v) tt e in
        by (is_wanted wanted m.to) refl (takes_core ms first.2) first.1
      where
        no_pair : (a : Tree) (n : ℕ) → tested_by w (ToCell (Flag n)) a v ≡ Ok tt → is_input a ≡ false
        no_pair (Read Input) n f = absurd (grind (arith, f))
        no_pair (Read c) n f = refl
        no_pair a n f = refl

        left_out : (g : Goal) → is_wanted wanted g ≡ false → tested_by w g m.value v ≡ Ok tt → is_input m.value ≡ false
        left_out (ToCell (Flag n)) f h = no_pair m.value n h
        left_out (ToCell c) f h = true_false f
        left_out (ToMemory d a) f h = true_false f

        by : (b : Bool) → is_wanted wanted m.to ≡ b → takes (core wanted ms) ≡ takes ms → tested_by w m.to m.value v ≡ Ok tt
            → takes (cond b (m ∷ core wanted ms) (core wanted ms)) ≡ cond (is_input m.value) true (takes ms)
        by true f ih h = ap (λ x. cond (is_input m.value) true x) ih
        by false f ih h = ih ∙ sym (ap (λ b. cond b true (takes ms)) (left_out m.to f h))

    -- ---- what is done

    module _ (ms : List Move) (tests : tested w ms v ≡ Ok tt) (p : Option Patch) where
      cells_same : (c : Cell) → cells_after w (core wanted ms) v c ≡ cells_after w ms v c
      cells_same (Hard n) = ap (λ a. cell_after w a v (v.cells (Hard n))) (assigned_core (Hard n) refl ms)
      cells_same (Temp n) = ap (λ a. cell_after w a v (v.cells (Temp n))) (assigned_core (Temp n) refl ms)
      cells_same Input = ap (λ b. Some (next_in w (input_after b v.input))) (takes_core ms tests)
      cells_same Pc = refl
      cells_same (Flag n) = refl
      cells_same Output = refl
      cells_same Halt = refl
      cells_same (Hole n) = refl

      same_beside : (q o h : Option ℕ)
          → IsSameBeside wanted (record { view = view_after w ms p v; place = q; output = o; halt = h }) (record { view = view_after w (core wanted ms) p v; place = q; output = o; halt = h })
      same_beside q o h = record {
        cells = cells_same;
        flags = λ n on. ap (λ a. mark_after w a v (v.flags n)) (assigned_core (Flag n) on ms);
        size = refl;
        bytes = λ a. refl;
        reach = λ a. refl;
        symbols = λ n. refl;
        labels = λ l. refl;
        targets = λ l. refl;
        places = λ n. refl;
        input = ap (λ b. input_after b v.input) (takes_core ms tests);
        place = refl;
        output = refl;
        halt = refl;
      }

    pub effect_made : (ms : List Move) (o h q : Option ℕ) (p : Option Patch) → tested w ms v ≡ Ok tt → event w (assigned ms Output) v ≡ Ok o → event w (assigned ms Halt) v ≡ Ok h → went w (assigned ms Pc) v ≡ Ok q
        → patch_of w (storing ms) v ≡ Ok p → effect w ms v ≡ Ok (record { view = view_after w ms p v; place = q; output = o; halt = h })
    effect_made ms o h q p a b c d e = λ i.
        bind (a i) (λ x. bind (b i) (λ o. bind (c i) (λ h. bind (d i) (λ q. bind (e i) (λ p. Ok (record { view = view_after w ms p v; place = q; output = o; halt = h }))))))

    done_is : (x d : Done) → (let r : Result Done Stop = Ok x in r ≡ Ok d) → x ≡ d
    done_is x d e = grind (arith, e)

    does : (ms : List Move) (d : Done) → effect w ms v ≡ Ok d → (e : Done) × (effect w (core wanted ms) v ≡ Ok e) × IsSameBeside wanted d e
    does ms d given =
        let a = bound (tested w ms v) _ d given in
        let b = bound (event w (assigned ms Output) v) _ d a.2 in
        let c = bound (event w (assigned ms Halt) v) _ d b.2 in
        let f = bound (went w (assigned ms Pc) v) _ d c.2 in
        let g = bound (patch_of w (storing ms) v) _ d f.2 in
        let e : Done = record { view = view_after w (core wanted ms) g.0 v; place = f.0; output = b.0; halt = c.0 } in (
          e,
          effect_made (core wanted ms) b.0 c.0 f.0 g.0 (tested_core ms a.1)
              (ap (λ x. event w x v) (assigned_core Output refl ms) ∙ b.1)
              (ap (λ x. event w x v) (assigned_core Halt refl ms) ∙ c.1)
              (ap (λ x. went w x v) (assigned_core Pc refl ms) ∙ f.1)
              (ap (λ x. patch_of w x v) (storing_core ms) ∙ g.1),
          subst (λ x. IsSameBeside wanted x e) (done_is (record { view = view_after w ms g.0 v; place = f.0; output = b.0; halt = c.0 }) d g.2) (same_beside ms a.1 g.0 f.0 b.0 c.0),
        )

  -- ---- what is read

  or_left : (b c : Bool) → b ≡ true → (b || c) ≡ true
  or_left b c e = subst (λ x. (x || c) ≡ true) (sym e) refl

  or_right : (b c : Bool) → c ≡ true → (b || c) ≡ true
  or_right true c e = refl
  or_right false c e = e

  module _ (c : Cell) where
    abbrev Counts : List Move → Type 0
    Counts ms = (reads_beside_flags c ms ≡ true) ⊎ ((n : ℕ) × (wanted n ≡ true) × (reads_for_flag n c ms ≡ true))

    behind : (m : Move) (ms : List Move) → Counts ms → Counts (m ∷ ms)
    behind m ms (inl e) = inl (or_right (not (sets_by is_flag m.to) && move_reads c m) _ e)
    behind m ms (inr x) = inr (x.0, x.1, or_right (sets_by (same_cell (Flag (x.0))) m.to && move_reads c m) _ x.2)

    first_counts : (m : Move) (ms : List Move) → is_wanted wanted m.to ≡ true → move_reads c m ≡ true → Counts (m ∷ ms)
    first_counts m ms on e = kind m.to refl on
      where
        other : sets_by is_flag m.to ≡ false → Counts (m ∷ ms)
        other f = inl (or_left (not (sets_by is_flag m.to) && move_reads c m) _ (ap (λ b. not b && move_reads c m) f ∙ e))

        flag : (n : ℕ) → wanted n ≡ true → sets_by (same_cell (Flag n)) m.to ≡ true → Counts (m ∷ ms)
        flag n h f = inr (n, h, or_left (sets_by (same_cell (Flag n)) m.to && move_reads c m) _ (ap (λ b. b && move_reads c m) f ∙ e))

        kind : (g : Goal) → m.to ≡ g → is_wanted wanted g ≡ true → Counts (m ∷ ms)
        kind (ToCell (Flag n)) s h = flag n h (ap (sets_by (same_cell (Flag n))) s ∙ eq-eqb n n refl)
        kind (ToCell (Hard n)) s h = other (ap (sets_by is_flag) s)
        kind (ToCell (Temp n)) s h = other (ap (sets_by is_flag) s)
        kind (ToCell (Hole n)) s h = other (ap (sets_by is_flag) s)
        kind (ToCell Pc) s h = other (ap (sets_by is_flag) s)
        kind (ToCell Input) s h = other (ap (sets_by is_flag) s)
        kind (ToCell Output) s h = other (ap (sets_by is_flag) s)
        kind (ToCell Halt) s h = other (ap (sets_by is_flag) s)
        kind (ToMemory d a) s h = other (ap (sets_by is_flag) s)

    counts : (ms : List Move) → reads c (core wanted ms) ≡ true → Counts ms
    counts [] e = false_true e
    counts (m ∷ ms) e = by (is_wanted wanted m.to) refl (counts ms) e
      where
        pick : (b : Bool) → is_wanted wanted m.to ≡ true → move_reads c m ≡ b → (reads c (core wanted ms) ≡ true → Counts ms) → (b || reads c (core wanted ms)) ≡ true → Counts (m ∷ ms)
        pick true f h ih k = first_counts m ms f h
        pick false f h ih k = behind m ms (ih k)

        by : (b : Bool) → is_wanted wanted m.to ≡ b → (reads c (core wanted ms) ≡ true → Counts ms) → reads c (cond b (m ∷ core wanted ms) (core wanted ms)) ≡ true → Counts (m ∷ ms)
        by true f ih k = pick (move_reads c m) f refl ih k
        by false f ih k = behind m ms (ih k)

pub core_does : CoreDoes
core_does w wanted ms v d given = does wanted w v ms d given

pub core_reads : CoreReads
core_reads wanted c ms e = counts wanted c ms e
