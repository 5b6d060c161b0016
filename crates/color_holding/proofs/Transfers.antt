-- One transfer of the old code against its loads, the transfer with registers, and its stores.
use Rattle.std.proofs.Common.{◌≡◌, ◌≢◌, ℕ, ◌+◌, ◌*◌, ◌<◌, ◌≤◌, ◌==◌, ◌&&◌, Bool, true, false, List, slice_index, Option, Some, None, Ok, refl, sym, ap, ◌∙◌, subst, arith, inl, inr}
use Rattle.std.specs.Prelude.{nat_le, nat_lt, ◌⊎◌}
use Rattle.std.proofs.lemmas.Bool.{eqb-true, eqb-false, ltb-true, ltb-false, leb-true, leb-false}
use Rattle.behaviour.specs.Run.{AreBytes}
use Rattle.rtl_tree.specs.declared.cells.Cell.{Cell}
use Rattle.rtl_tree.specs.declared.cells.Cell.TheVariants.{Hard, Temp, Flag, Pc, Input, Output, Halt, Hole}
use Rattle.rtl_tree.specs.Same.{same_cell}
use Rattle.rtl_tree.specs.Moves.{Move}
use Rattle.rtl_effect.specs.Views.{View, word_at}
use Rattle.rtl_effect.specs.Effects.{assigned, Patch, cell_after, view_after, Done, effect}
use Rattle.rtl_effect.specs.Agree.{Tells, blank, word, Marks, Alike, AgreeBy, Ground}
use Rattle.rtl_effect.proofs.SeenGrowth.{tells_self}
use Rattle.rtl_norm_value.specs.Kept.{IsWordView}
use Rattle.rtl_norm_value.proofs.WordViews.{effect_leaves, words_are_kept}
use Rattle.temp_machine.specs.Routines.{Routine, Target, word_bytes}
use Rattle.temp_machine.specs.Cells.{some_set, reads, sets, has_temporaries, reads_beside_flags, reads_for_flag}
use Rattle.temp_machine.specs.Tidy.{is_among}
use Rattle.color_code.specs.Colors.{Seats}
use Rattle.color_renaming.specs.Renaming.{with_registers}
use Rattle.color_renaming.specs.Does.{IsSeparate, IsSpared}
use Rattle.color_renaming.proofs.Seeing.{maybe_with}
use Rattle.color_renaming.proofs.Assigning.{register_assigned}
use Rattle.color_cores.specs.Cores.{core}
use Rattle.color_cores.proofs.Cores.{core_reads}
use Rattle.color_spilling.specs.Spilling.{AreLoads, no_load, a_load, AreStores, no_store, a_store}
use Rattle.color_spilling.specs.Passing.{Passes, IsPlaced, home_address, IsReady, IsLoaded, IsStored}
use Rattle.color_spilling.proofs.Memory.{inside_of, word_same}
use Rattle.color_spilling.proofs.Steps.{by_bytes, among_here, homes_apart}
use Rattle.color_spilling.proofs.Passing.{loads_pass, stores_pass}
use Rattle.color_transfer.specs.Colored.{Stands, AreColoredParts}
use Rattle.color_holding.specs.Holding.{is_free, plain_of, is_plain, IsPlainView, is_home, where_is, Holds, IsStill}
use Rattle.color_holding.specs.Places.{IsOf, AreGeneral, IsPlace}
use Rattle.color_holding.specs.Laws.{IsKept, TransferKeeps}
use Rattle.color_holding.proofs.Members.{true_false, by_bool, by_seat, or_left, or_right, or_none, or_neither, and_of, core_reads_less, core_sets_less, unset_unassigned, unassigned_unset, numbers_renamed}
use Rattle.color_holding.proofs.Bytes.{effect_plain, passes_plain, passes_none}
use Rattle.color_holding.proofs.Renamed.{tells_along, is_read, back, IsRenamed, renamed}

tell_word : (a b c : Option ℕ) → Tells a b → ((n : ℕ) → b ≡ Some n → c ≡ Some n) → Tells a c
tell_word a b c (blank y) f = blank c
tell_word a b c (word n) f = subst (Tells (Some n)) (sym (f n refl)) (word n)

-- what a transfer leaves
left : {A : Type 0} (f : View → A) (w : ℕ) (ms : List Move) (v : View) (d : Done) → effect w ms v ≡ Ok d → ((p : Option Patch) → f (view_after w ms p v) ≡ f v) → f d.view ≡ f v
left f w ms v d e h = let l = effect_leaves w ms v d e in sym (ap f l.1) ∙ h l.0

-- without loads, and without stores, no flag changes
flags_loaded : (t : Target) (r : Routine) (register : ℕ → ℕ) (ks : List ℕ) (code : List (List Move)) (z x : View) (n : ℕ) → AreLoads t r register ks code → Passes t.word code z x
    → ((k : ℕ) → is_among k ks ≡ true → ⊥) → z.flags n ≡ x.flags n
flags_loaded t r register _ _ z x n no_load p none = ap (λ (v : View). v.flags n) (passes_none t.word z x p)
flags_loaded t r register _ _ z x n (a_load k ks ms rest does more) p none = absurd (none k (among_here k ks))

flags_stored : (t : Target) (r : Routine) (register : ℕ → ℕ) (ks : List ℕ) (code : List (List Move)) (z x : View) (n : ℕ) → AreStores t r register ks code → Passes t.word code z x
    → ((k : ℕ) → is_among k ks ≡ true → ⊥) → z.flags n ≡ x.flags n
flags_stored t r register _ _ z x n no_store p none = ap (λ (v : View). v.flags n) (passes_none t.word z x p)
flags_stored t r register _ _ z x n (a_store k ks ms rest does more) p none = absurd (none k (among_here k ks))

module _ (t : Target) (r : Routine) (seats : Seats) (base : ℕ) (placed : IsPlaced t r base) (general : AreGeneral t seats) where
  -- ---- homes

  in_home : (k b : ℕ) → IsOf r k → home_address t r base k ≤ b → b < home_address t r base k + word_bytes t → is_home t r seats base b ≡ true
  in_home k b of l h =
      let ends : home_address t r base k + word_bytes t ≤ base + r.first_home + word_bytes t * r.slots =
      by_bytes (λ n. slice_index r.homes k < r.slots → base + (r.first_home + n * slice_index r.homes k) + n ≤ base + r.first_home + n * r.slots)
      (λ h. omega (arith, h)) (λ h. omega (arith, h)) t.word placed.target.size of.home in
      and_of (has_temporaries r) _ of.stands (inside_of _ _ b (omega (arith, l)) (omega (arith, ends, h)))

  outside_home : (k b : ℕ) → IsOf r k → is_home t r seats base b ≡ false → (b < home_address t r base k) ⊎ (home_address t r base k + word_bytes t ≤ b)
  outside_home k b of e =
      by_bool (nat_lt b (home_address t r base k)) (λ f. inl (ltb-true b _ f)) (λ f.
      by_bool (nat_le (home_address t r base k + word_bytes t) b) (λ g. inr (leb-true _ b g)) (λ g.
      true_false (sym (in_home k b of (ltb-false b _ f) (leb-false _ b g)) ∙ e)))

  module _ (ms made : List Move) (before later : Cell → Bool) (place : IsPlace t r seats ms made before later) (loads stores : List (List Move)) (middle : List Move)
      (parts : AreColoredParts t r seats ms loads middle stores) where
    abbrev reg : ℕ → ℕ
    reg = parts.register

    abbrev wanted : ℕ → Bool
    wanted n = later (Flag n)

    abbrev cs : List Move
    cs = core wanted made

    -- ---- registers

    reads_stand : (k : ℕ) → reads (Temp k) ms ≡ true → Stands ms k
    reads_stand k e = or_left (reads (Temp k) ms) _ e

    sets_stand : (k : ℕ) → sets (Temp k) ms ≡ true → Stands ms k
    sets_stand k e = or_right (reads (Temp k) ms) _ e

    operand : (k : ℕ) → is_among k parts.operands ≡ true → Stands ms k
    operand k e = reads_stand k ((parts.at_home.are k).0 e).0

    operand_home : (k : ℕ) → is_among k parts.operands ≡ true → seats k ≡ None
    operand_home k e = ((parts.at_home.are k).0 e).1

    result_set : (k : ℕ) → is_among k parts.results ≡ true → sets (Temp k) ms ≡ true
    result_set k e = ((parts.to_home.are k).0 e).0

    result_home : (k : ℕ) → is_among k parts.results ≡ true → seats k ≡ None
    result_home k e = ((parts.to_home.are k).0 e).1

    reg_free : (k : ℕ) → Stands ms k → is_free t r (reg k) ≡ true
    reg_free k s = and_of (t.general (reg k)) _ (by_seat (seats k) (λ c e. ap t.general (parts.seated k c e) ∙ general k c e) (λ e. parts.scratch.general k s e)) (place.standing k s).stands

    not_reg : (k n : ℕ) → Stands ms k → is_free t r n ≡ false → reg k ≢ n
    not_reg k n s f e = true_false (sym (reg_free k s) ∙ ap (is_free t r) e ∙ f)

    stack_bound : is_free t r t.sp ≡ false
    stack_bound = ap (λ b. b && has_temporaries r) placed.target.stack

    no_hard : (n : ℕ) → is_free t r n ≡ true → reads (Hard n) made ≡ false
    no_hard n e = or_none (reads (Hard n) made) _ (place.free n e)

    no_hard_set : (n : ℕ) → is_free t r n ≡ true → some_set (same_cell (Hard n)) made ≡ false
    no_hard_set n e = or_neither (reads (Hard n) made) _ (place.free n e)

    apart_registers : (j k : ℕ) → j ≢ k → sets (Temp j) ms ≡ true → (sets (Temp k) ms ≡ true) ⊎ (later (Temp k) ≡ true) → (c : ℕ) → seats k ≡ Some c → reg j ≢ c
    apart_registers j k ne sj on c s e =
        by_seat (seats j) (λ a p. (place.apart j k ne sj on).registers a p (s ∙ ap Some (sym e ∙ parts.seated j a p))) (λ p. parts.scratch.no_color k j c (sets_stand j sj) p s e)

    apart_set : (j k : ℕ) → j ≢ k → sets (Temp j) ms ≡ true → sets (Temp k) ms ≡ true → reg j ≢ reg k
    apart_set j k ne sj sk e =
        by_seat (seats k) (λ c s. apart_registers j k ne sj (inl sk) c s (e ∙ parts.seated k c s)) (λ s.
        by_seat (seats j) (λ c p. apart_registers k j (λ g. ne (sym g)) sk (inl sj) c p (sym e ∙ parts.seated j c p))
        (λ p. parts.scratch.differ j k (sets_stand j sj) (sets_stand k sk) p s ne e))

    core_set : (k : ℕ) → sets (Temp k) cs ≡ true → sets (Temp k) ms ≡ true
    core_set k e = sym (place.for.sets k) ∙ core_sets_less wanted (Temp k) refl made e

    separate : IsSeparate reg cs
    separate = record {
      temps = λ j k sj sk e. by_bool (j == k) (λ f. eqb-true j k f) (λ f. absurd (apart_set j k (eqb-false j k f) (core_set j sj) (core_set k sk) e));
      registers = λ n k sn sk e.
          true_false (sym (core_sets_less wanted (Hard n) refl made sn) ∙ no_hard_set n (ap (is_free t r) (sym e) ∙ reg_free k (sets_stand k (core_set k sk))));
    }

    made_set : (k : ℕ) → sets (Temp k) made ≡ true → sets (Temp k) ms ≡ true
    made_set k e = sym (place.for.sets k) ∙ e

    spared : (n : ℕ) → is_free t r n ≡ false → IsSpared reg made n
    spared n f k s = not_reg k n (sets_stand k (made_set k s)) f

    read_before : (c : Cell) → reads c cs ≡ true → before c ≡ true
    read_before c e = by (core_reads wanted c made e)
      where
        by : (reads_beside_flags c made ≡ true) ⊎ ((n : ℕ) × (wanted n ≡ true) × (reads_for_flag n c made ≡ true)) → before c ≡ true
        by (inl f) = place.live.read c f
        by (inr x) = place.live.for_flag c (x.0) (x.1) (x.2)

    -- ---- after the loads

    module _ (v z x : View) (h : Holds t r seats base before v z) (passes : Passes t.word loads z x) (loaded : IsLoaded t r base reg parts.operands z x) (ready : IsReady t r base x) where
      flag_loaded : (n : ℕ) → before (Flag n) ≡ true → Marks (v.flags n) (x.flags n)
      flag_loaded n on =
          subst (Marks (v.flags n))
          (flags_loaded t r reg parts.operands loads z x n parts.are_loads passes (λ k o. true_false (sym on ∙ place.calm_before k n ((parts.at_home.are k).0 o).0)))
          (h.flags n on)

      new_plain : IsPlainView t.word x
      new_plain = passes_plain t.word loads z x passes h.new_plain

      plain_cell : (c : Cell) → is_plain c ≡ true → v.cells c ≡ x.cells c
      plain_cell c e = h.old_plain c e ∙ ap (λ i. plain_of t.word i c) (h.input ∙ sym loaded.stays.input) ∙ sym (new_plain c e)

      hard_loaded : (n : ℕ) → is_free t r n ≡ false → Tells (v.cells (Hard n)) (x.cells (Hard n))
      hard_loaded n f = subst (Tells (v.cells (Hard n))) (sym (loaded.others n (λ j o. not_reg j n (operand j o) f))) (h.registers n f)

      -- a temporary in a register keeps it
      seat_loaded : (k c : ℕ) → seats k ≡ Some c → before (Temp k) ≡ true → Tells (v.cells (Temp k)) (x.cells (Hard c))
      seat_loaded k c s on =
          subst (Tells (v.cells (Temp k))) (ap (λ o. where_is t r seats base o k z) s ∙ sym (loaded.others c (λ j o. parts.scratch.no_color k j c (operand j o) (operand_home j o) s))) (h.temps k on)

      home_held : (k : ℕ) → seats k ≡ None → before (Temp k) ≡ true → Tells (v.cells (Temp k)) (word_at z.bytes (home_address t r base k) (word_bytes t))
      home_held k s on = subst (Tells (v.cells (Temp k))) (ap (λ o. where_is t r seats base o k z) s) (h.temps k on)

      abbrev u : View
      u = back t.word reg made wanted v x

      plain_tells : (c : Cell) → is_plain c ≡ true → Tells (v.cells c) (x.cells c)
      plain_tells c e = subst (Tells (v.cells c)) (plain_cell c e) (tells_self (v.cells c))

      temp_read : (k : ℕ) → reads (Temp k) cs ≡ true → Tells (v.cells (Temp k)) (x.cells (Hard (reg k)))
      temp_read k e =
          by_seat (seats k)
          (λ c s. subst (λ n. Tells (v.cells (Temp k)) (x.cells (Hard n))) (sym (parts.seated k c s)) (seat_loaded k c s (read_before (Temp k) e)))
          (λ s. subst (Tells (v.cells (Temp k))) (sym (loaded.got k ((parts.at_home.are k).1 (place.for.reads k (core_reads_less wanted (Temp k) made e), s)))) (home_held k s (read_before (Temp k) e)))

      cell_read : (c : Cell) → reads c cs ≡ true → Tells (v.cells c) (u.cells c)
      cell_read (Temp k) e = temp_read k e
      cell_read (Hard n) e = by_bool (is_free t r n) (λ f. true_false (sym (core_reads_less wanted (Hard n) made e) ∙ no_hard n f)) (hard_loaded n)
      cell_read Pc e = plain_tells Pc refl
      cell_read Input e = plain_tells Input refl
      cell_read Output e = plain_tells Output refl
      cell_read Halt e = plain_tells Halt refl
      cell_read (Flag n) e = plain_tells (Flag n) refl
      cell_read (Hole n) e = plain_tells (Hole n) refl

      ground : Ground v u
      ground = record {
        bytes = λ a. subst (Tells (v.bytes a)) (sym (loaded.bytes a)) (h.land.bytes a);
        size = h.land.size ∙ sym loaded.stays.size;
        reach = λ a e. loaded.stays.reach a ∙ h.land.reach a e;
        symbols = λ n. h.land.symbols n ∙ sym (loaded.stays.symbols n);
        labels = λ l. subst (Tells (v.labels l)) (sym (loaded.stays.labels l)) (h.land.labels l);
        targets = λ l. h.targets l ∙ sym (loaded.stays.targets l);
        places = λ n. h.places n ∙ sym (loaded.stays.places n);
        place = plain_cell Pc refl;
      }

      agree : AgreeBy Alike (is_read t.word reg made wanted v x) v u
      agree = record {
        sight = record {
          cells = cell_read;
          flags = λ n e. flag_loaded n (read_before (Flag n) e);
          land = record { bytes = ground.bytes; size = ground.size; reach = ground.reach; symbols = ground.symbols; labels = ground.labels };
        };
        input = h.input ∙ sym loaded.stays.input;
        on = plain_cell Pc refl;
      }

      -- ---- after the transfer

      module _ (d : Done) (given : effect t.word made v ≡ Ok d) (ren : IsRenamed t.word reg made wanted v x d) where
        abbrev ns : List Move
        ns = with_registers reg made

        register_left : (n : ℕ) → IsSpared reg made n → assigned made (Hard n) ≡ None → ren.e.view.cells (Hard n) ≡ x.cells (Hard n)
        register_left n s none =
            left (λ (y : View). y.cells (Hard n)) t.word ns x ren.e ren.is
            (λ p. ap (λ o. cell_after t.word o x (x.cells (Hard n))) (register_assigned reg made n s ∙ ap (maybe_with reg) none))

        e_plain : IsPlainView t.word ren.e.view
        e_plain = effect_plain t.word ns x ren.e ren.is new_plain

        e_words : IsWordView t.word ren.e.view × AreBytes ren.e.view.input
        e_words = words_are_kept t.word ns x ren.e placed.target.size ready.words ready.bytes (numbers_renamed reg t.word made place.numbers) ren.is

        e_ready : IsReady t r base ren.e.view
        e_ready = record {
          stack = register_left t.sp (spared t.sp stack_bound) (unset_unassigned made (Hard t.sp) place.stack) ∙ ready.stack;
          size = left (λ (y : View). y.size) t.word ns x ren.e ren.is (λ p. refl) ∙ ready.size;
          reach = λ a f. left (λ (y : View). y.reach a) t.word ns x ren.e ren.is (λ p. refl) ∙ ready.reach a f;
          words = e_words.0;
          bytes = e_words.1;
          next = e_plain Input refl;
        }

        -- ---- after the stores

        module _ (y : View) (ends : Passes t.word stores ren.e.view y) (stored : IsStored t r base reg parts.results ren.e.view y) (y_ready : IsReady t r base y) where
          old_left : {A : Type 0} (f : View → A) → ((p : Option Patch) → f (view_after t.word made p v) ≡ f v) → f d.view ≡ f v
          old_left f k = left f t.word made v d given k

          new_left : {A : Type 0} (f : View → A) → ((p : Option Patch) → f (view_after t.word ns p x) ≡ f x) → f ren.e.view ≡ f x
          new_left f k = left f t.word ns x ren.e ren.is k

          temp_set : (k : ℕ) → sets (Temp k) ms ≡ true → Tells (d.view.cells (Temp k)) (where_is t r seats base (seats k) k y)
          temp_set k s =
              by_seat (seats k)
              (λ c q. subst (Tells (d.view.cells (Temp k)))
              (ap (λ n. ren.e.view.cells (Hard n)) (parts.seated k c q) ∙ sym (stored.registers c) ∙ ap (λ o. where_is t r seats base o k y) (sym q))
              (ren.temps k (place.for.sets k ∙ s)))
              (λ q. subst (Tells (d.view.cells (Temp k))) (ap (λ o. where_is t r seats base o k y) (sym q))
              (tell_word _ _ (word_at y.bytes (home_address t r base k) (word_bytes t)) (ren.temps k (place.for.sets k ∙ s)) (λ n. stored.got k n ((parts.to_home.are k).1 (s, q)))))

          module _ (k : ℕ) (on : later (Temp k) ≡ true) (s : sets (Temp k) ms ≡ false) where
            unset : some_set (same_cell (Temp k)) made ≡ false
            unset = place.for.sets k ∙ s

            other : (j : ℕ) → sets (Temp j) ms ≡ true → j ≢ k
            other j f g = true_false (sym f ∙ ap (λ i. sets (Temp i) ms) g ∙ s)

            was_live : before (Temp k) ≡ true
            was_live = place.live.kept (Temp k) unset on

            old_temp : d.view.cells (Temp k) ≡ v.cells (Temp k)
            old_temp = old_left (λ (y : View). y.cells (Temp k)) (λ p. ap (λ o. cell_after t.word o v (v.cells (Temp k))) (unset_unassigned made (Temp k) unset))

            seat_left : (c : ℕ) → seats k ≡ Some c → x.cells (Hard c) ≡ y.cells (Hard c)
            seat_left c q =
                sym (stored.registers c
                ∙ register_left c (λ j f. apart_registers j k (other j (made_set j f)) (made_set j f) (inr on) c q)
                (unset_unassigned made (Hard c) (no_hard_set c (and_of (t.general c) _ (general k c q) (place.living k on).stands))))

            home_left : seats k ≡ None → word_at z.bytes (home_address t r base k) (word_bytes t) ≡ word_at y.bytes (home_address t r base k) (word_bytes t)
            home_left q =
                word_same z.bytes y.bytes (home_address t r base k) (word_bytes t) (λ b l g.
                sym (stored.elsewhere b (λ j o. homes_apart t r base placed j k b ((place.apart j k (other j (result_set j o)) (result_set j o) (inr on)).homes (result_home j o) q) l g)
                ∙ ren.new_still b (h.private b (in_home k b (place.living k on) l g)) ∙ loaded.bytes b))

            temp_left : Tells (d.view.cells (Temp k)) (where_is t r seats base (seats k) k y)
            temp_left =
                subst (λ a. Tells a (where_is t r seats base (seats k) k y)) (sym old_temp)
                (by_seat (seats k)
                (λ c q. subst (Tells (v.cells (Temp k))) (seat_left c q ∙ ap (λ o. where_is t r seats base o k y) (sym q)) (seat_loaded k c q was_live))
                (λ q. subst (Tells (v.cells (Temp k))) (home_left q ∙ ap (λ o. where_is t r seats base o k y) (sym q)) (home_held k q was_live)))

          elsewhere : (a : ℕ) → is_home t r seats base a ≡ false → y.bytes a ≡ ren.e.view.bytes a
          elsewhere a f = stored.elsewhere a (λ k o. outside_home k a (place.standing k (sets_stand k (result_set k o))) f)

          old_blank : (a : ℕ) → is_home t r seats base a ≡ true → d.view.bytes a ≡ None
          old_blank a f = ren.old_still a (h.private a f) ∙ h.blank a f

          bytes_after : (a : ℕ) → Tells (d.view.bytes a) (y.bytes a)
          bytes_after a =
              by_bool (is_home t r seats base a)
              (λ f. subst (λ b. Tells b (y.bytes a)) (sym (old_blank a f)) (blank (y.bytes a)))
              (λ f. subst (Tells (d.view.bytes a)) (sym (elsewhere a f)) (ren.bytes a))

          flag_after : (n : ℕ) → later (Flag n) ≡ true → Marks (d.view.flags n) (y.flags n)
          flag_after n on =
              subst (Marks (d.view.flags n))
              (flags_stored t r reg parts.results stores ren.e.view y n parts.are_stores ends (λ k o. true_false (sym on ∙ place.calm_after k n (result_set k o))))
              (ren.flags n on (λ none. flag_loaded n (place.live.kept (Flag n) (unassigned_unset made (Flag n) none) on)))

          old_words : IsWordView t.word d.view
          old_words = (words_are_kept t.word made v d placed.target.size h.words (subst AreBytes (sym h.input) h.ready.bytes) place.numbers given).0

          holds_after : Holds t r seats base later d.view y
          holds_after = record {
            temps = λ k on. by_bool (sets (Temp k) ms) (temp_set k) (temp_left k on);
            registers = λ n f. subst (Tells (d.view.cells (Hard n))) (sym (stored.registers n)) (ren.registers n (spared n f) (hard_loaded n f));
            flags = flag_after;
            old_plain = effect_plain t.word made v d given h.old_plain;
            new_plain = passes_plain t.word stores ren.e.view y ends e_plain;
            land = record {
              bytes = bytes_after;
              size = old_left (λ (y : View). y.size) (λ p. refl) ∙ ground.size ∙ sym (stored.stays.size ∙ new_left (λ (y : View). y.size) (λ p. refl));
              reach = λ a f. stored.stays.reach a ∙ new_left (λ (y : View). y.reach a) (λ p. refl) ∙ ground.reach a (sym (old_left (λ (y : View). y.reach a) (λ p. refl)) ∙ f);
              symbols = λ n. old_left (λ (y : View). y.symbols n) (λ p. refl) ∙ ground.symbols n ∙ sym (stored.stays.symbols n ∙ new_left (λ (y : View). y.symbols n) (λ p. refl));
              labels = λ l. tells_along _ _ _ _ (sym (old_left (λ (y : View). y.labels l) (λ p. refl))) (sym (stored.stays.labels l ∙ new_left (λ (y : View). y.labels l) (λ p. refl))) (ground.labels l);
            };
            targets = λ l. old_left (λ (y : View). y.targets l) (λ p. refl) ∙ ground.targets l ∙ sym (stored.stays.targets l ∙ new_left (λ (y : View). y.targets l) (λ p. refl));
            places = λ n. old_left (λ (y : View). y.places n) (λ p. refl) ∙ ground.places n ∙ sym (stored.stays.places n ∙ new_left (λ (y : View). y.places n) (λ p. refl));
            input = sym ren.input ∙ sym stored.stays.input;
            words = old_words;
            ready = y_ready;
            private = λ a f. old_left (λ (y : View). y.reach a) (λ p. refl) ∙ h.private a f;
            blank = old_blank;
          }

          still_after : IsStill t r seats base v z d.view y
          still_after = record {
            old_reach = λ a. old_left (λ (y : View). y.reach a) (λ p. refl);
            new_reach = λ a. stored.stays.reach a ∙ new_left (λ (y : View). y.reach a) (λ p. refl) ∙ loaded.stays.reach a;
            old = ren.old_still;
            new = λ a f k. elsewhere a k ∙ ren.new_still a f ∙ loaded.bytes a;
            targets = λ l. old_left (λ (y : View). y.targets l) (λ p. refl);
          }

    keeps : (v z : View) (d : Done) → Holds t r seats base before v z → effect t.word made v ≡ Ok d → IsKept t r seats base later loads (with_registers reg made) stores v z d
    keeps v z d h given =
        let l = loads_pass t r base reg parts.operands loads z placed (λ k o. (place.standing k (operand k o)).home) parts.are_loads
        (λ j k p q ne. parts.scratch.differ j k (operand j p) (operand k q) (operand_home j p) (operand_home k q) ne) (λ k o. not_reg k t.sp (operand k o) stack_bound) h.ready in
        let ren = renamed t.word reg made wanted v l.0 (agree v z l.0 h l.1 l.2 l.3) (ground v z l.0 h l.1 l.2 l.3) d given separate l.3.words (place.quiet reg) in
        let s = stores_pass t r base reg parts.results stores ren.e.view placed (λ k o. (place.standing k (sets_stand k (result_set k o))).home) parts.are_stores
        (λ j k p q ne. (place.apart j k ne (result_set j p) (inl (result_set k q))).homes (result_home j p) (result_home k q))
        (e_ready v z l.0 h l.1 l.2 l.3 d given ren) in
        record {
          loaded = l.0;
          passes = l.1;
          made = ren.e;
          is = ren.is;
          place = ren.place;
          output = ren.output;
          halt = ren.halt;
          after = s.0;
          stored = s.1;
          holds = holds_after v z l.0 h l.1 l.2 l.3 d given ren s.0 s.1 s.2 s.3;
          still = still_after v z l.0 h l.1 l.2 l.3 d given ren s.0 s.1 s.2 s.3;
        }

pub transfer_keeps : TransferKeeps
transfer_keeps t r seats base ms made new before later loads stores middle parts v z d is placed general place h given =
    subst (λ n. IsKept t r seats base later loads n stores v z d) (sym is) (keeps t r seats base placed general ms made before later place loads stores middle parts v z d h given)
