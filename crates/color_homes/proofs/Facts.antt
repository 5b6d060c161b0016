-- What is known of a transfer whose temporaries are put into registers and homes.
use Rattle.std.proofs.Common.{◌≡◌, ◌≢◌, ℕ, ◌≤◌, ◌==◌, Bool, true, false, List, [], ◌∷◌, ◌++◌, map, length, Option, Some, None, All, refl, sym, ap, subst, ◌∙◌, arith, append_assoc}
use Rattle.std.specs.Prelude.{filter, Result, Ok, Err, IfOk, OnOk}
use Rattle.std.specs.List.{AllZip}
use Rattle.std.proofs.lemmas.Bool.{eqb-true, eq-eqb}
use Rattle.std.proofs.lemmas.List.Elements.{All-nil, All-cons}
use Rattle.std.proofs.lemmas.List.Kept.{AllPairs-filter}
use Rattle.rtl_tree.specs.declared.cells.Cell.TheVariants.{Hard, Temp, Flag, Pc, Input, Output, Halt, Hole as RegisterHole}
use Rattle.rtl_tree.specs.Moves.{Goal, ToCell, ToMemory, Move}
use Rattle.rtl_tree.specs.Same.{same_cell}
use Rattle.rtl_tree.specs.declared.memory.NoMemory.{NoMemory}
use Rattle.md_rows.specs.declared.description.RawDescription.{RawDescription}
use Rattle.md_rows.specs.declared.instance.Bound.{Bound}
use Rattle.md_rows.specs.Fits.{is_in}
use Rattle.md_rows.specs.Instances.{general_set}
use Rattle.md_shapes.specs.Drawings.{frame_of}
use Rattle.md_said.specs.Sound.{SaidIsSound}
use Rattle.md_said.specs.Limits.{SaidIsLimited}
use Rattle.md_bounds.specs.Bounds.{SaidIsBounded}
use Rattle.md_check.specs.Checking.{IsChecked}
use Rattle.temp_machine.specs.Routines.{Routine, Target}
use Rattle.temp_machine.specs.Cells.{reads, sets, some_read, some_set, sets_by, is_temporary, mentions}
use Rattle.temp_machine.specs.Tidy.{is_among}
use Rattle.temp_machine.specs.Units.{IsTarget}
use Rattle.temp_code.specs.declared.code.Transfer.{Transfer}
use Rattle.temp_code.specs.Realised.{IsRealised}
use Rattle.temp_code.specs.Routines.{routine_of}
use Rattle.temp_laws.specs.Targets.{TargetsAreSound}
use Rattle.temp_laws.proofs.Making.{IsGoodRow}
use Rattle.temp_laws.proofs.Targets.{BitsAreSum}
use Rattle.row_laws.proofs.Rows.{good_rows}
use Rattle.color_code.specs.Colors.{Seats}
use Rattle.color_graph.specs.Seats.{seats_in}
use Rattle.color_registers.specs.Registers.{scratch_of}
use Rattle.color_renaming.specs.Renaming.{with_registers}
use Rattle.color_renaming.specs.Does.{IsSeparate, RenamedIsPlain}
use Rattle.color_spilling.specs.Spilling.{AreLoads, no_load, a_load, AreStores, no_store, a_store}
use Rattle.color_transfer.specs.Colored.{Stands, AreAtHome, IsScratch, AreColoredParts}
use Rattle.color_holding.specs.Places.{AreGeneral}
use Rattle.color_image.specs.Middles.{MiddlesAreStraight}
use Rattle.row_colors.specs.Registers.{ArePutIn}
use Rattle.color_homes.specs.declared.places.Places.{Places}
use Rattle.color_homes.specs.Spilled.{spilled_in, scratch_for, seated_or, register_in}
use Rattle.color_homes.specs.Putting.{MayBePut, target_in, ArePlaces, IsPlainStep, ArePut, PutsAll, PutsLoads}
use Rattle.color_homes.specs.Loading.{IsRegister, CanSpill, IsLoad, IsStore, Adds}
use Rattle.color_homes.proofs.Lists.{false_true, true_false, or_left, or_right, or_cases, all_among, AreApart, pairs_apart, filter_among, among_filter}
use Rattle.color_homes.proofs.AtHome.{Holds, inside, there, spilled_apart, spilled_few, scratch_among, scratch_differs}
use Rattle.color_homes.proofs.Registers.{AreSound, registers_sound, scratch_register, color_register, scratch_apart, scratch_no_color}
use Rattle.color_homes.proofs.Standing.{stands_held}

pub on_any : (P : Type 0) (result : Result Transfer NoMemory) → P → OnOk result P
on_any P (Ok x) h = h
on_any P (Err e) h = tt

by_seat : {A : Type 0} (o : Option ℕ) → ((c : ℕ) → o ≡ Some c → A) → (o ≡ None → A) → A
by_seat (Some c) f g = f c refl
by_seat None f g = g refl

goal_temporary : (k : ℕ) (g : Goal) → sets_by (same_cell (Temp k)) g ≡ true → sets_by is_temporary g ≡ true
goal_temporary k (ToCell (Temp n)) e = refl
goal_temporary k (ToCell (Hard n)) e = false_true e
goal_temporary k (ToCell (Flag n)) e = false_true e
goal_temporary k (ToCell Pc) e = false_true e
goal_temporary k (ToCell Input) e = false_true e
goal_temporary k (ToCell Output) e = false_true e
goal_temporary k (ToCell Halt) e = false_true e
goal_temporary k (ToCell (RegisterHole n)) e = false_true e
goal_temporary k (ToMemory w a) e = false_true e

set_temporary : (k : ℕ) (ms : List Move) → sets (Temp k) ms ≡ true → some_set is_temporary ms ≡ true
set_temporary k [] e = false_true e
set_temporary k (m ∷ ms) e =
    or_cases (sets_by (same_cell (Temp k)) m.to) (sets (Temp k) ms) e
    (λ f. or_left (sets_by is_temporary m.to) (some_set is_temporary ms) (goal_temporary k m.to f))
    (λ f. or_right (sets_by is_temporary m.to) (some_set is_temporary ms) (set_temporary k ms f))

module _ (d : RawDescription) (p : Places) (x : Transfer) where
  abbrev seats : Seats
  seats = seats_in p.seats.now

  abbrev t : Target
  t = target_in d p

  abbrev r : Routine
  r = routine_of p.code.now

  abbrev read_in : ℕ → Bool
  read_in k = reads (Temp k) x.what

  abbrev set_in : ℕ → Bool
  set_in k = sets (Temp k) x.what

  pub record Facts (js : List ℕ) : Type 0 where
    pub put_in : ArePutIn d (register_in p js) x.by.binding
    pub separate : IsSeparate (register_in p js) x.what
    pub can_load : All (CanSpill d r (register_in p js)) (filter read_in js)
    pub can_store : All (CanSpill d r (register_in p js)) (filter set_in js)
    pub at_home : AreAtHome seats (λ k. reads (Temp k) x.what ≡ true) (filter read_in js)
    pub to_home : AreAtHome seats (λ k. sets (Temp k) x.what ≡ true) (filter set_in js)
    pub scratch : IsScratch t seats (register_in p js) x.what
    pub seated : (k c : ℕ) → seats k ≡ Some c → register_in p js k ≡ c
    pub general : AreGeneral t seats

  module _ (js : List ℕ) (is : js ≡ spilled_in seats x.by.binding) (sound : AreSound d) (places : ArePlaces d p) (h : IsRealised d x) (good : IsGoodRow d.word h.row)
      (put : MayBePut t r seats x.what) where
    abbrev b : List Bound
    b = x.by.binding

    abbrev from : List ℕ
    from = p.scratch.now

    stand : (k : ℕ) → Stands x.what k → Holds k b
    stand k e = stands_held k b h.row.holes h.row.effects good.moves (subst (λ (ms : List Move). mentions (same_cell (Temp k)) ms ≡ true) h.effects e)

    held_among : (k : ℕ) → Holds k b → seats k ≡ None → is_among k js ≡ true
    held_among k q none = subst (λ (ks : List ℕ). is_among k ks ≡ true) (sym is) (there seats b k q.place q.is none)

    among_held : (k : ℕ) → is_among k js ≡ true → Holds k b × (seats k ≡ None)
    among_held k e = inside seats b k (subst (λ (ks : List ℕ). is_among k ks ≡ true) is e)

    few : length js ≤ length from
    few =
        let l = spilled_few seats d.word (general_set d.registers) d.rows x.by.row h.row b h.instance.has_row h.instance.fit in
        let m = ap (λ (ks : List ℕ). length ks) is in
        let n = ap (λ (ks : List ℕ). length ks) places.scratch in
        let e = sound.enough in
        omega (arith, l, m, n, e)

    apart : AreApart js
    apart = subst AreApart (sym is) (spilled_apart seats b)

    at_some : (k c : ℕ) → seats k ≡ Some c → register_in p js k ≡ c
    at_some k c e = ap (seated_or (scratch_for js from k)) e

    at_none : (k : ℕ) → seats k ≡ None → register_in p js k ≡ scratch_for js from k
    at_none k e = ap (seated_or (scratch_for js from k)) e

    in_scratch : (k : ℕ) → is_among k js ≡ true → is_among (scratch_for js from k) (scratch_of d) ≡ true
    in_scratch k e = subst (λ (ks : List ℕ). is_among (scratch_for js from k) ks ≡ true) places.scratch (scratch_among js from k e few)

    is_register : (k : ℕ) → Holds k b → IsRegister d (register_in p js k)
    is_register k q =
        by_seat (seats k) (λ c e. subst (IsRegister d) (sym (at_some k c e)) (color_register d sound c (places.colors k c e)))
        (λ e. subst (IsRegister d) (sym (at_none k e)) (scratch_register d sound (scratch_for js from k) (in_scratch k (held_among k q e))))

    scratch_is : IsScratch t seats (register_in p js) x.what
    scratch_is = record {
      general = λ k e none. (is_register k (stand k e)).1;
      no_color = λ j k c e none some q.
          scratch_no_color d sound (scratch_for js from k) c (in_scratch k (held_among k (stand k e) none)) (places.colors j c some) (sym (at_none k none) ∙ q);
      differ = λ j k e f nj nk ne q.
          scratch_differs js from j k (subst AreApart (sym places.scratch) (scratch_apart d sound)) (held_among j (stand j e) nj) (held_among k (stand k f) nk) few ne
          (sym (at_none j nj) ∙ (q ∙ at_none k nk));
    }

    set_stands : (k : ℕ) → sets (Temp k) x.what ≡ true → Stands x.what k
    set_stands k e = or_right (some_read (same_cell (Temp k)) x.what) (some_set (same_cell (Temp k)) x.what) e

    read_stands : (k : ℕ) → reads (Temp k) x.what ≡ true → Stands x.what k
    read_stands k e = or_left (some_read (same_cell (Temp k)) x.what) (some_set (same_cell (Temp k)) x.what) e

    clash : (j k : ℕ) → sets (Temp j) x.what ≡ true → sets (Temp k) x.what ≡ true → register_in p js j ≡ register_in p js k → j ≢ k → ⊥
    clash j k e f q ne =
        by_seat (seats j)
        (λ a s. by_seat (seats k) (λ c u. put.differ j k a ne e f s (u ∙ ap (λ (n : ℕ). Some n) (sym (at_some k c u) ∙ (sym q ∙ at_some j a s))))
        (λ u. scratch_is.no_color j k a (set_stands k f) u s (sym q ∙ at_some j a s)))
        (λ s. by_seat (seats k) (λ c u. scratch_is.no_color k j c (set_stands j e) s u (q ∙ at_some k c u))
        (λ u. scratch_is.differ j k (set_stands j e) (set_stands k f) s u ne q))

    same : (j k : ℕ) → (j ≢ k → ⊥) → j ≡ k
    same j k h = by (j == k) refl
      where
        by : (c : Bool) → (j == k) ≡ c → j ≡ k
        by true e = eqb-true j k e
        by false e = absurd (h (λ q. true_false (sym (eq-eqb j k q) ∙ e)))

    pub facts : Facts js
    facts = record {
      put_in = λ place k e. is_register k (record { place = place; is = e });
      separate = record {
        temps = λ j k e f q. same j k (clash j k e f q);
        registers = λ n k e f q. put.registers n k (subst (λ (m : ℕ). t.general m ≡ true) q (is_register k (stand k (set_stands k f))).1) e f;
      };
      can_load = all_among (CanSpill d r (register_in p js)) (filter read_in js) (λ k e.
          (let q = filter_among read_in k js e in (is_register k (among_held k q.0).0, put.homes k (read_stands k q.1))));
      can_store = all_among (CanSpill d r (register_in p js)) (filter set_in js) (λ k e.
          (let q = filter_among set_in k js e in (is_register k (among_held k q.0).0, put.homes k (set_stands k q.1))));
      at_home = record {
        are = λ k. (
          λ e. (let q = filter_among read_in k js e in (q.1, (among_held k q.0).1)),
          λ q. among_filter read_in k js (held_among k (stand k (read_stands k q.0)) q.1) q.0,
        );
        differ = AllPairs-filter (λ (j k : ℕ). j ≢ k) read_in js (pairs_apart js apart);
      };
      to_home = record {
        are = λ k. (
          λ e. (let q = filter_among set_in k js e in (q.1, (among_held k q.0).1)),
          λ q. among_filter set_in k js (held_among k (stand k (set_stands k q.0)) q.1) q.0,
        );
        differ = AllPairs-filter (λ (j k : ℕ). j ≢ k) set_in js (pairs_apart js apart);
      };
      scratch = scratch_is;
      seated = at_some;
      general = λ k c e. (color_register d sound c (places.colors k c e)).1;
    }

  -- from what is known of descriptions
  pub facts_of : (w : ℕ) (js : List ℕ) → SaidIsSound → SaidIsLimited → SaidIsBounded → BitsAreSum → IsChecked w d → js ≡ spilled_in seats x.by.binding → ArePlaces d p
      → IsRealised d x → MayBePut t r seats x.what → Facts js
  facts_of w js sound limited bounded sums c is places h put =
      facts js is (registers_sound w d limited sums c) places h (good_rows w d sound bounded c x.by.row h.row h.instance.has_row) put

  pub target_is : (w : ℕ) → TargetsAreSound → IsChecked w d → ArePlaces d p → IsTarget t
  target_is w targets c places =
      targets w d (frame_of d.word p.rows.now.frame) [] c places.rows.frame (All-nil (λ k. is_in (general_set d.registers) k ≡ true)) (λ i j k e f. absurd (omega (arith, f)))

  -- what is put

  module _ (register : ℕ → ℕ) where
    loads_are : (ks : List ℕ) (ys : List Transfer) → AllZip (λ k. IsLoad d t r (register k) k) ks ys → AreLoads t r register ks (map (λ y. y.what) ys)
    loads_are [] [] z = no_load
    loads_are (k ∷ ks) (y ∷ ys) z = a_load k ks y.what (map (λ y. y.what) ys) z.0.does (loads_are ks ys z.1)
    loads_are [] (y ∷ ys) z = absurd z
    loads_are (k ∷ ks) [] z = absurd z

    stores_are : (ks : List ℕ) (ys : List Transfer) → AllZip (λ k. IsStore d t r (register k) k) ks ys → AreStores t r register ks (map (λ y. y.what) ys)
    stores_are [] [] z = no_store
    stores_are (k ∷ ks) (y ∷ ys) z = a_store k ks y.what (map (λ y. y.what) ys) z.0.does (stores_are ks ys z.1)
    stores_are [] (y ∷ ys) z = absurd z
    stores_are (k ∷ ks) [] z = absurd z

    loads_spill : (ks : List ℕ) (ys : List Transfer) → AllZip (λ k. IsLoad d t r (register k) k) ks ys → All (IsPlainStep d t) ys
    loads_spill [] [] z = All-nil (IsPlainStep d t)
    loads_spill (k ∷ ks) (y ∷ ys) z = All-cons (IsPlainStep d t) y ys z.0.step (loads_spill ks ys z.1)
    loads_spill [] (y ∷ ys) z = absurd z
    loads_spill (k ∷ ks) [] z = absurd z

    stores_spill : (ks : List ℕ) (ys : List Transfer) → AllZip (λ k. IsStore d t r (register k) k) ks ys → All (IsPlainStep d t) ys
    stores_spill [] [] z = All-nil (IsPlainStep d t)
    stores_spill (k ∷ ks) (y ∷ ys) z = All-cons (IsPlainStep d t) y ys z.0.step (stores_spill ks ys z.1)
    stores_spill [] (y ∷ ys) z = absurd z
    stores_spill (k ∷ ks) [] z = absurd z

  module _ (plain : RenamedIsPlain) (middles : MiddlesAreStraight) (target : IsTarget t) (js : List ℕ) (f : Facts js) (middle : Transfer)
      (renamed : middle.what ≡ with_registers (register_in p js) x.what) (realised : IsRealised d middle) where
    parts_of : (results : List ℕ) (loads stores : List Transfer) → AreAtHome seats (λ k. sets (Temp k) x.what ≡ true) results
        → AllZip (λ k. IsLoad d t r (register_in p js k) k) (filter read_in js) loads → AllZip (λ k. IsStore d t r (register_in p js k) k) results stores
        → AreColoredParts t r seats x.what (map (λ y. y.what) loads) middle.what (map (λ y. y.what) stores)
    parts_of results loads stores home l s = record {
      register = register_in p js;
      operands = filter read_in js;
      results = results;
      renamed = renamed;
      seated = f.seated;
      at_home = f.at_home;
      to_home = home;
      are_loads = loads_are (register_in p js) (filter read_in js) loads l;
      are_stores = stores_are (register_in p js) results stores s;
      scratch = f.scratch;
    }

    put_of : (results : List ℕ) (loads stores : List Transfer) → AreAtHome seats (λ k. sets (Temp k) x.what ≡ true) results
        → AllZip (λ k. IsLoad d t r (register_in p js k) k) (filter read_in js) loads → AllZip (λ k. IsStore d t r (register_in p js k) k) results stores
        → ArePut d t r seats x loads middle stores
    put_of results loads stores home l s = record {
      parts = parts_of results loads stores home l s;
      realised = realised;
      plain = subst (λ (ms : List Move). mentions is_temporary ms ≡ false) (sym renamed) (plain (register_in p js) x.what);
      straight =
          middles t r seats x.what (map (λ y. y.what) loads) middle.what (map (λ y. y.what) stores) (parts_of results loads stores home l s) target f.general;
      before = loads_spill (register_in p js) (filter read_in js) loads l;
      behind = stores_spill (register_in p js) results stores s;
    }

    pub puts_all : (old one two new : List Transfer) → Adds (λ k. IsLoad d t r (register_in p js k) k) (filter read_in js) old one → two ≡ one ++ middle ∷ []
        → Adds (λ k. IsStore d t r (register_in p js k) k) (filter set_in js) two new → PutsAll d p x old new
    puts_all old one two new l e s = record {
      loads = l.added;
      middle = middle;
      stores = s.added;
      put = put_of (filter set_in js) l.added s.added f.to_home l.are s.are;
      is =
          s.is
          ∙ (ap (λ (ys : List Transfer). ys ++ s.added) (e ∙ ap (λ (ys : List Transfer). ys ++ middle ∷ []) l.is)
          ∙ (append_assoc (old ++ l.added) (middle ∷ []) s.added ∙ append_assoc old l.added (middle ∷ s.added)));
    }

    pub puts_loads : (old new : List Transfer) → some_set is_temporary x.what ≡ false → Adds (λ k. IsLoad d t r (register_in p js k) k) (filter read_in js) old new
        → PutsLoads d p x middle old new
    puts_loads old new none l = record {
      loads = l.added;
      put = put_of [] l.added [] (record {
        are = λ k. (λ e. false_true e, λ q. true_false (sym (set_temporary k x.what q.0) ∙ none));
        differ = λ i j e f g. absurd (omega (arith, g));
      }) l.are tt;
      is = l.is;
    }

  module _ (plain : RenamedIsPlain) (middles : MiddlesAreStraight) (target : IsTarget t) (js : List ℕ) (f : Facts js) (old : List Transfer) where
    pub all_put : (one two new : List Transfer) (middle : Transfer) (ks : List ℕ) → middle.what ≡ with_registers (register_in p js) x.what → IsRealised d middle
        → Adds (λ k. IsLoad d t r (register_in p js k) k) (filter read_in js) old one → two ≡ one ++ middle ∷ [] → ks ≡ filter set_in js → (result : Result (Unit {0}) NoMemory)
        → OnOk result (Adds (λ k. IsStore d t r (register_in p js k) k) ks two new) → OnOk result (PutsAll d p x old new)
    all_put one two new middle ks renamed realised l e same (Ok u) s =
        puts_all plain middles target js f middle renamed realised old one two new l e (subst (λ (ls : List ℕ). Adds (λ k. IsStore d t r (register_in p js k) k) ls two new) same s)
    all_put one two new middle ks renamed realised l e same (Err u) s = tt

    pub loads_put : (new : List Transfer) → some_set is_temporary x.what ≡ false → (result : Result Transfer NoMemory)
        → OnOk result (Adds (λ k. IsLoad d t r (register_in p js k) k) (filter read_in js) old new)
        → IfOk result (λ made. made.what ≡ with_registers (register_in p js) x.what) → IfOk result (IsRealised d) → IfOk result (λ made. PutsLoads d p x made old new)
    loads_put new none (Ok made) l renamed realised = puts_loads plain middles target js f made renamed realised old new none l
    loads_put new none (Err e) l renamed realised = tt
