-- What a list leaves out becomes 0, by a loop that makes a turn at least (C11 6.7.9p21).
use Rattle.std.proofs.Common.{◌≡◌, ◌≢◌, ℕ, zero, suc, ◌+◌, ◌*◌, ◌-◌, ◌≤◌, ◌<◌, ◌^◌, List, [], ◌∷◌, Option, Some, Ok, refl, sym, ap, ◌∙◌, subst, arith, true, false}
use Rattle.std.specs.Prelude.{Bool, ◌==◌, ◌&&◌, nat_le, nat_lt, if◌then◌else◌, unwrap_or}
use Rattle.std.proofs.lemmas.Bool.Decides.{nat_tests}
use Rattle.std.proofs.lemmas.Nat.{pow_pos}
use Rattle.std.proofs.Math.Nat.{mod-eq_of_lt, mul-suc}
use Rattle.behaviour.specs.Run.{AreBytes}
use Rattle.rtl_word.specs.declared.Rel.TheVariants.{Ne}
use Rattle.rtl_word.specs.Words.{IsWordSize, word_test}
use Rattle.rtl_word.proofs.Below.{by_size}
use Rattle.rtl_tree.specs.declared.cells.Cell.TheVariants.{Hard, Temp}
use Rattle.rtl_tree.specs.declared.expressions.BinOp.TheVariants as op
use Rattle.rtl_tree.specs.Trees.{Read, Binary}
use Rattle.rtl_effect.specs.Views.{word_at}
use Rattle.md_shapes.specs.declared.patterns.Pattern.TheVariants as shape
use Rattle.md_shapes.specs.Shapes.{Frame as Fixed}
use Rattle.c_tree.specs.declared.types.CType.{CType}
use Rattle.c_tree.specs.declared.types.CType.TheVariants as type
use Rattle.c_tree.specs.declared.typed.Variable.{Variable}
use Rattle.c_tree.specs.declared.typed.Variable.TheVariants as variable
use Rattle.c_tree.specs.declared.typed.Function.{Function}
use Rattle.c_tree.specs.declared.typed.Typed.{Typed}
use Rattle.c_limits.specs.Frames.{word_bytes, element_bytes, frame_bytes}
use Rattle.c_meaning.specs.Operators.{as_type}
use Rattle.c_meaning.specs.Parts.{State, give, load, fill, store as stored}
use Rattle.c_meaning.specs.Expressions.{array, type_in}
use Rattle.c_meaning.specs.Run.{kind_in}
use Rattle.c_meaning.specs.Statements.{next}
use Rattle.temp_machine.specs.Routines.{Image, Target}
use Rattle.temp_machine.specs.Live.{Place}
use Rattle.temp_machine.specs.Small.{Point}
use Rattle.naive_code.specs.Operations as code
use Rattle.naive_code.specs.Operations.{Op, Close, Falls, Branches, on_two}
use Rattle.naive_code.specs.Storage.{Frame, Elements, storage_of, scalar_count}
use Rattle.naive_code.specs.Expressions.{element, no_value, put_at}
use Rattle.naive_code.specs.Statements.{no_steps, cleared, cleared_rest}
use Rattle.naive_run.specs.Standing.{One}
use Rattle.naive_step.proofs.Doing.{Does, there, came}
use Rattle.naive_step.proofs.Making.{Call, Inside, At, routine_in}
use Rattle.naive_step.proofs.Acts.{SetsTemp}
use Rattle.naive_step.proofs.Scaling.{seen_two}
use Rattle.naive_step.proofs.Ends.{Opens, begin_of}
use Rattle.naive_rep.proofs.Rooms.{element_before}
use Rattle.naive_rep.proofs.Rep.{Told, Holds, cut_to}
use Rattle.naive_rep.proofs.Temporaries.{rep_temp}
use Rattle.naive_assigned.proofs.Assigned.{After, here, elsewhere, after_store, index_of}
use Rattle.naive_assigned.proofs.Ready.{Ready}
use Rattle.naive_assigned.proofs.Working.{Works, works_trans, works_sets, works_fresh, rep_works}
use Rattle.naive_values.proofs.Getting.{To, Ops, to_as, to_then, stands_split, sets, sets_number}
use Rattle.naive_values.proofs.Asked.{Stands_for, block_at, since_works}
use Rattle.naive_values.proofs.Places.{Puts, puts}
use Rattle.naive_tests.proofs.Tests.{works_opens, branched, closes_at}
use Rattle.naive_tests.proofs.Choosing.{falls_to}
use Rattle.naive_statements.proofs.Asked.{Past}
use Rattle.naive_statements.proofs.For.{PastDo}
use Rattle.naive_lists.proofs.Elements.{IsLocalArray, element_size, element_at, element_is, below_word, spot, kept_at, typed_so}

-- ---- elements of 0

pub zero_typed : (w : ℕ) (of : CType) → as_type w of 0 ≡ 0
zero_typed w type.Schar = refl
zero_typed w type.Uchar = refl
zero_typed w type.Int = mod-eq_of_lt (pow_pos w)
zero_typed w type.Unsigned = mod-eq_of_lt (pow_pos w)
zero_typed w type.Void = mod-eq_of_lt (pow_pos w)

some_bytes : (w : ℕ) (of : CType) → IsWordSize w → 1 ≤ element_bytes w of
some_bytes w type.Schar z = omega arith
some_bytes w type.Uchar z = omega arith
some_bytes w type.Int z = by_size (λ w. 1 ≤ word_bytes w) (omega arith) (omega arith) w z
some_bytes w type.Unsigned z = by_size (λ w. 1 ≤ word_bytes w) (omega arith) (omega arith) w z
some_bytes w type.Void z = by_size (λ w. 1 ≤ word_bytes w) (omega arith) (omega arith) w z

same_words : (w x y : ℕ) → x ≡ y → word_test w Ne x y ≡ false
same_words w x y e = grind (arith, nat_tests, e)

other_words : (w x y : ℕ) → x < y → word_test w Ne x y ≡ true
other_words w x y lt = grind (arith, nat_tests, lt)

both_hold : (y x from j : ℕ) → ((y == x) && nat_le from j) ≡ true → (y ≡ x) × (from ≤ j)
both_hold y x from j e = (grind (arith, nat_tests, e), grind (arith, nat_tests, e))

not_both : (y x from j : ℕ) → ((y == x) && nat_le from j) ≡ false → y ≡ x → from ≤ j → ⊥
not_both y x from j e same le = grind (arith, nat_tests, e, same, le)

below_not : (from to : ℕ) → nat_lt from to ≡ false → to ≤ from
below_not from to e = grind (arith, nat_tests, e)

below_so : (from to : ℕ) → nat_lt from to ≡ true → from < to
below_so from to e = grind (arith, nat_tests, e)

module _ (x from : ℕ) where
  -- the elements from one number on, and below another one, are 0, and all other objects as they were
  pub record Zeroed (to : ℕ) (s z : State) : Type 0 where
    pub zeros : (j : ℕ) → from ≤ j → j < to → load z (variable.Local x) j ≡ Some 0
    pub others : (y : Variable) (j : ℕ) → (y ≡ variable.Local x → from ≤ j → ⊥) → load z y j ≡ load s y j
    pub input : z.input ≡ s.input

  zeroed_none : (s : State) → Zeroed from s s
  zeroed_none s = record { zeros = λ j le lt. absurd (omega (arith, le, lt)); others = λ y j away. refl; input = refl }

  zeroed_more : (i : ℕ) (s z : State) → from ≤ i → Zeroed i s z → Zeroed (suc i) s (stored z (variable.Local x) i (Some 0))
  zeroed_more i s z le h = record {
    zeros = λ j above below. cleared_by j above below (after_store z (variable.Local x) i (Some 0) (variable.Local x) j);
    others = λ y j away. others_by y j away (after_store z (variable.Local x) i (Some 0) y j);
    input = h.input;
  }
    where
      cleared_by : (j : ℕ) → from ≤ j → j < suc i → After z (variable.Local x) i (Some 0) (variable.Local x) j → load (stored z (variable.Local x) i (Some 0)) (variable.Local x) j ≡ Some 0
      cleared_by j above below (here p q e) = e
      cleared_by j above below (elsewhere differs e) = e ∙ h.zeros j above (let ne : j ≢ i = differs refl in omega (arith, below, ne))

      others_by : (y : Variable) (j : ℕ) → (y ≡ variable.Local x → from ≤ j → ⊥) → After z (variable.Local x) i (Some 0) y j → load (stored z (variable.Local x) i (Some 0)) y j ≡ load s y j
      others_by y j away (here p q e) = absurd (away p (omega (arith, q, le)))
      others_by y j away (elsewhere differs e) = e ∙ h.others y j away

module _ (t : Target) (u : Image) (m : Fixed) (source : Typed) (f : Function) (k : Call) (ready : Ready t u m source f k) where
  abbrev Code : List Op → Place → Place → Type 0
  Code = Ops t u m source f k ready

  abbrev Does_one : Op → Place → Place → Type 0
  Does_one = One t.word m (routine_in t u k)

  abbrev Kept_but : ℕ → Point → Point → Type 0
  Kept_but a = Works t u m source f k a a

  -- what is done to a fresh temporary
  fresh_set : (a b : ℕ) (y : Option ℕ) (c d : Point) → a ≤ b → SetsTemp b y c d → Kept_but a c d
  fresh_set a b y c d le g = works_fresh t u m source f k b a a c d le (works_sets t u m source f k b a y c d g)

  reads_stack : (a : ℕ) (p q : Place) (c : Point) → Inside t u k c → At t u p c → c.view.cells (Hard t.sp) ≡ Some k.base → Does_one (code.read_stack a) p q → To t u m source f k ready q (SetsTemp a (Some k.base) c) c
  reads_stack a p q c i h sp one =
      let sp' : c.view.cells (Hard m.stack) ≡ Some k.base = ap (λ n. c.view.cells (Hard n)) ready.fixed.stack ∙ sp in
      sets t u m source f k ready p q c i h shape.ReadStack (on_two a a) a (Read (Hard m.stack)) (Some k.base) one refl refl (ap Ok sp')

  adds : (a b y z sum : ℕ) (p q : Place) (c : Point) → Inside t u k c → At t u p c → c.view.cells (Temp a) ≡ Some y → c.view.cells (Temp b) ≡ Some z → y + z ≡ sum → sum < 2 ^ t.word → Does_one (code.add a b) p q
      → To t u m source f k ready q (SetsTemp a (Some sum) c) c
  adds a b y z sum p q c i h left right is small one =
      let small' : y + z < 2 ^ t.word = omega (arith, is, small) in
      sets t u m source f k ready p q c i h (shape.Operate op.Add) (on_two a b) a (Binary op.Add (Read (Temp a)) (Read (Temp b))) (Some sum) one refl refl
      (seen_two t.word op.Add a b y z sum c.view left right (ap Ok (mod-eq_of_lt small' ∙ is)))

  module _ (x : ℕ) (by : CType) (size offset : ℕ) (it : IsLocalArray t u m source f k ready x by size offset) where
    abbrev bytes : ℕ
    bytes = element_size t u m source f k ready x by size offset it

    abbrev at_element : ℕ → ℕ
    at_element = element_at t u m source f k ready x by size offset it

    fits_word : (i : ℕ) → i ≤ size → at_element i < 2 ^ t.word
    fits_word = below_word t u m source f k ready x by size offset it

    is_element : (i : ℕ) → k.base + (offset + i * bytes) ≡ at_element i
    is_element = element_is t u m source f k ready x by size offset it

    next_element : (i : ℕ) → at_element i + bytes ≡ at_element (suc i)
    next_element i = let e : bytes * suc i ≡ bytes * i + bytes = mul-suc bytes i in omega (arith, e)

    -- ---- what is left out becomes 0

    module _ (from : ℕ) (s z : State) (d : Point) (h : Zeroed x from size s z) (r : Stands_for t u m source f k ready z d) where
      abbrev Holds_local : ℕ → ℕ → Option ℕ → Type 0
      Holds_local y j o = Holds t u k (kind_in source f (variable.Local y)) (storage_of t.kept t.word source f (variable.Local y)) j o d

      was : (j : ℕ) → Holds t u k (array by size) (Elements (Frame offset) by) j (load z (variable.Local x) j) d
      was j =
          subst (λ p. Holds t u k (array by size) p j (load z (variable.Local x) j) d) it.place
          (subst (λ g. Holds t u k g (storage_of t.kept t.word source f (variable.Local x)) j (load z (variable.Local x) j) d) it.kind (r.held (variable.Local x) j))

      holds_zero : (j : ℕ) → from ≤ j → Holds_local x j (Some 0)
      holds_zero j le =
          subst (λ g. Holds t u k g (storage_of t.kept t.word source f (variable.Local x)) j (Some 0) d) (sym it.kind)
          (subst (λ p. Holds t u k (array by size) p j (Some 0) d) (sym it.place)
          (λ lt. subst (λ o. Told (cut_to bytes o) (word_at d.view.bytes (at_element j) bytes)) (h.zeros j le lt) (was j lt)))

      held_by : (b : Bool) (y j : ℕ) → ((y == x) && nat_le from j) ≡ b → Holds_local y j (if b then Some 0 else s.locals y j)
      held_by true y j e = let p = both_hold y x from j e in subst (λ y. Holds_local y j (Some 0)) (sym p.0) (holds_zero j p.1)
      held_by false y j e = subst (Holds_local y j) (h.others (variable.Local y) j (λ p le. not_both y x from j e (ap index_of p) le)) (r.held (variable.Local y) j)

      held : (y : Variable) (j : ℕ) → Holds t u k (kind_in source f y) (storage_of t.kept t.word source f y) j (load (fill x from (Some 0) s) y j) d
      held (variable.Static y) j =
          subst (λ o. Holds t u k (kind_in source f (variable.Static y)) (storage_of t.kept t.word source f (variable.Static y)) j o d) (h.others (variable.Static y) j (λ p le. grind (arith, p))) (r.held (variable.Static y) j)
      held (variable.Parameter y) j =
          subst (λ o. Holds t u k (kind_in source f (variable.Parameter y)) (storage_of t.kept t.word source f (variable.Parameter y)) j o d) (h.others (variable.Parameter y) j (λ p le. grind (arith, p)))
          (r.held (variable.Parameter y) j)
      held (variable.Local y) j = held_by ((y == x) && nat_le from j) y j refl

      typed_by : (b : Bool) (y j v : ℕ) → ((y == x) && nat_le from j) ≡ b → (if b then Some 0 else s.locals y j) ≡ Some v → as_type t.word (type_in (kind_in source f (variable.Local y))) v ≡ v
      typed_by true y j v e is =
          let same : 0 ≡ v = ap (λ o. unwrap_or o 0) is in
          subst (λ v. as_type t.word (type_in (kind_in source f (variable.Local y))) v ≡ v) same (zero_typed t.word (type_in (kind_in source f (variable.Local y))))
      typed_by false y j v e is = r.typed (variable.Local y) j v (h.others (variable.Local y) j (λ p le. not_both y x from j e (ap index_of p) le) ∙ is)

      typed : (y : Variable) (j v : ℕ) → load (fill x from (Some 0) s) y j ≡ Some v → as_type t.word (type_in (kind_in source f y)) v ≡ v
      typed (variable.Static y) j v is = r.typed (variable.Static y) j v (h.others (variable.Static y) j (λ p le. grind (arith, p)) ∙ is)
      typed (variable.Parameter y) j v is = r.typed (variable.Parameter y) j v (h.others (variable.Parameter y) j (λ p le. grind (arith, p)) ∙ is)
      typed (variable.Local y) j v is = typed_by ((y == x) && nat_le from j) y j v refl is

      rep_filled : Stands_for t u m source f k ready (fill x from (Some 0) s) d
      rep_filled = record { stack = r.stack; input = r.input ∙ h.input; bytes = subst AreBytes h.input r.bytes; held = held; typed = typed }

    -- ---- the loop

    -- the addresses of an element and of the end, 0, and the size of an element are in their temporaries
    record Poised (a i : ℕ) (d : Point) : Type 0 where
      place : d.view.cells (Temp a) ≡ Some (at_element i)
      end : d.view.cells (Temp (a + 1)) ≡ Some (at_element size)
      zero_is : d.view.cells (Temp (a + 4)) ≡ Some 0
      step : d.view.cells (Temp (a + 5)) ≡ Some bytes

    record Started (a from : ℕ) (c d : Point) : Type 0 where
      place : d.view.cells (Temp a) ≡ Some (at_element from)
      top : d.view.cells (Temp (a + 1)) ≡ Some k.base
      works : Kept_but a c d

    starts : (a from : ℕ) (p r1 r2 r3 r4 : Place) (c : Point) → from ≤ size → Inside t u k c → At t u p c → c.view.cells (Hard t.sp) ≡ Some k.base → Does_one (code.read_stack a) p r1 → Does_one (code.read_stack (a + 1)) r1 r2
        → Does_one (code.constant (a + 2) (offset + from * bytes)) r2 r3 → Does_one (code.add a (a + 2)) r3 r4 → To t u m source f k ready r4 (Started a from c) c
    starts a from p r1 r2 r3 r4 c le i h sp one two three four =
        let other : a ≢ a + 1 = λ e. omega (arith, e) in
        let third : a ≢ a + 2 = λ e. omega (arith, e) in
        let second : a + 1 ≢ a + 2 = λ e. omega (arith, e) in
        let first : a + 1 ≢ a = λ e. omega (arith, e) in
        to_then t u m source f k ready r1 r4 (SetsTemp a (Some k.base) c) (Started a from c) c (reads_stack a p r1 c i h sp one)
        (λ d1 i1 h1 g1.
        to_then t u m source f k ready r2 r4 (SetsTemp (a + 1) (Some k.base) d1) (Started a from c) d1 (reads_stack (a + 1) r1 r2 d1 i1 h1 (g1.regs t.sp ∙ sp) two)
        (λ d2 i2 h2 g2.
        to_then t u m source f k ready r3 r4 (SetsTemp (a + 2) (Some (offset + from * bytes)) d2) (Started a from c) d2 (sets_number t u m source f k ready r2 r3 d2 i2 h2 (a + 2) (offset + from * bytes) three)
        (λ d3 i3 h3 g3.
        to_as t u m source f k ready r4 (SetsTemp a (Some (at_element from)) d3) (Started a from c) d3
        (adds a (a + 2) k.base (offset + from * bytes) (at_element from) r3 r4 d3 i3 h3 (g3.others a third ∙ (g2.others a other ∙ g1.temp)) g3.temp (is_element from) (fits_word from le) four)
        (λ d4 g4. record {
          place = g4.temp;
          top = g4.others (a + 1) first ∙ (g3.others (a + 1) second ∙ g2.temp);
          works = works_trans t u m source f k a a c d1 d4 (fresh_set a a (Some k.base) c d1 (omega arith) g1)
              (works_trans t u m source f k a a d1 d2 d4 (fresh_set a (a + 1) (Some k.base) d1 d2 (omega arith) g2)
              (works_trans t u m source f k a a d2 d3 d4 (fresh_set a (a + 2) (Some (offset + from * bytes)) d2 d3 (omega arith) g3) (fresh_set a a (Some (at_element from)) d3 d4 (omega arith) g4)));
        }))))

    record Set_up (a i : ℕ) (c d : Point) : Type 0 where
      poised : Poised a i d
      works : Kept_but a c d

    sets_up : (a from : ℕ) (p r1 r2 r3 r4 : Place) (c : Point) → Inside t u k c → At t u p c → c.view.cells (Temp a) ≡ Some (at_element from) → c.view.cells (Temp (a + 1)) ≡ Some k.base
        → Does_one (code.constant (a + 3) (offset + size * bytes)) p r1 → Does_one (code.add (a + 1) (a + 3)) r1 r2 → Does_one (code.constant (a + 4) 0) r2 r3 → Does_one (code.constant (a + 5) bytes) r3 r4
        → To t u m source f k ready r4 (Set_up a from c) c
    sets_up a from p r1 r2 r3 r4 c i h place top one two three four =
        to_then t u m source f k ready r1 r4 (SetsTemp (a + 3) (Some (offset + size * bytes)) c) (Set_up a from c) c (sets_number t u m source f k ready p r1 c i h (a + 3) (offset + size * bytes) one)
        (λ d1 i1 h1 g1.
        to_then t u m source f k ready r2 r4 (SetsTemp (a + 1) (Some (at_element size)) d1) (Set_up a from c) d1
        (adds (a + 1) (a + 3) k.base (offset + size * bytes) (at_element size) r1 r2 d1 i1 h1 (g1.others (a + 1) (λ e. omega (arith, e)) ∙ top) g1.temp (is_element size) (fits_word size (omega arith)) two)
        (λ d2 i2 h2 g2.
        to_then t u m source f k ready r3 r4 (SetsTemp (a + 4) (Some 0) d2) (Set_up a from c) d2 (sets_number t u m source f k ready r2 r3 d2 i2 h2 (a + 4) 0 three)
        (λ d3 i3 h3 g3.
        to_as t u m source f k ready r4 (SetsTemp (a + 5) (Some bytes) d3) (Set_up a from c) d3 (sets_number t u m source f k ready r3 r4 d3 i3 h3 (a + 5) bytes four)
        (λ d4 g4. record {
          poised = record {
            place = g4.others a (λ e. omega (arith, e)) ∙ (g3.others a (λ e. omega (arith, e)) ∙ (g2.others a (λ e. omega (arith, e)) ∙ (g1.others a (λ e. omega (arith, e)) ∙ place)));
            end = g4.others (a + 1) (λ e. omega (arith, e)) ∙ (g3.others (a + 1) (λ e. omega (arith, e)) ∙ g2.temp);
            zero_is = g4.others (a + 4) (λ e. omega (arith, e)) ∙ g3.temp;
            step = g4.temp;
          };
          works = works_trans t u m source f k a a c d1 d4 (fresh_set a (a + 3) (Some (offset + size * bytes)) c d1 (omega arith) g1)
              (works_trans t u m source f k a a d1 d2 d4 (fresh_set a (a + 1) (Some (at_element size)) d1 d2 (omega arith) g2)
              (works_trans t u m source f k a a d2 d3 d4 (fresh_set a (a + 4) (Some 0) d2 d3 (omega arith) g3) (fresh_set a (a + 5) (Some bytes) d3 d4 (omega arith) g4)));
        }))))

    -- behind a turn up to its branch
    record Turned (a i : ℕ) (z : State) (c d : Point) : Type 0 where
      poised : Poised a (suc i) d
      rep : Stands_for t u m source f k ready (stored z (variable.Local x) i (Some 0)) d
      above : (b : ℕ) → k.base + frame_bytes t.kept t.word f ≤ b → d.view.bytes b ≡ c.view.bytes b
      printed : d.printed ≡ c.printed

    -- an element is set to 0, and the address moves on
    turn : (a i : ℕ) (p r1 r2 : Place) (c : Point) (z : State) → i < size → scalar_count f ≤ a → Inside t u k c → At t u p c → Stands_for t u m source f k ready z c → Poised a i c → Code (put_at by a (a + 4)) p r1
        → Does_one (code.add a (a + 5)) r1 r2 → To t u m source f k ready r2 (Turned a i z c) c
    turn a i p r1 r2 c z lt fresh inside at rep h put one =
        let zero_small : 0 < 2 ^ t.word = pow_pos t.word in
        let apart : a + 4 ≢ a + 6 = λ e. omega (arith, e) in
        to_then t u m source f k ready r1 r2 (Puts t u m source f k ready (a + 6) (stored z (variable.Local x) i (Some 0)) c) (Turned a i z c) c
        (puts t u m source f k ready p r1 c inside at z rep (spot t u m source f k ready x by size offset it i) (element (Elements (Frame offset) by) no_value) a (a + 4) (a + 6) 0
        (kept_at t u m source f k ready x by size offset it i a c lt h.place) h.zero_is (typed_so t u m source f k ready x by size offset it 0 (zero_typed t.word by)) zero_small (omega (arith, fresh)) apart put)
        (λ d j at' g.
        let same : (b : ℕ) → a ≤ b → b < a + 6 → d.view.cells (Temp b) ≡ c.view.cells (Temp b) = λ b from below. g.temps b (omega (arith, from, fresh)) (λ e. omega (arith, e, below)) in
        to_as t u m source f k ready r2 (SetsTemp a (Some (at_element (suc i))) d) (Turned a i z c) d
        (adds a (a + 5) (at_element i) bytes (at_element (suc i)) r1 r2 d j at' (same a (omega arith) (omega arith) ∙ h.place) (same (a + 5) (omega arith) (omega arith) ∙ h.step) (next_element i)
        (fits_word (suc i) (let le : suc i ≤ size = omega (arith, lt) in le)) one)
        (λ e g'. record {
          poised = record {
            place = g'.temp;
            end = g'.others (a + 1) (λ e. omega (arith, e)) ∙ (same (a + 1) (omega arith) (omega arith) ∙ h.end);
            zero_is = g'.others (a + 4) (λ e. omega (arith, e)) ∙ (same (a + 4) (omega arith) (omega arith) ∙ h.zero_is);
            step = g'.others (a + 5) (λ e. omega (arith, e)) ∙ (same (a + 5) (omega arith) (omega arith) ∙ h.step);
          };
          rep = rep_temp t u k source f (stored z (variable.Local x) i (Some 0)) d e a (Some (at_element (suc i))) fresh g' g.rep;
          above = λ b from. g'.bytes b ∙ g.above b from;
          printed = g'.printed ∙ g.printed;
        }))

    -- all elements from one on are set to 0
    record Cleared (from : ℕ) (s : State) (c d : Point) : Type 0 where
      made : State
      zeroed : Zeroed x from size s made
      rep : Stands_for t u m source f k ready made d
      above : (b : ℕ) → k.base + frame_bytes t.kept t.word f ≤ b → d.view.bytes b ≡ c.view.bytes b
      printed : d.printed ≡ c.printed

    module _ (n from a label : ℕ) (q r1 r2 : Place) (s : State) (fresh : scalar_count f ≤ a) (put : Code (put_at by a (a + 4)) (begin_of (block_at t u m source f k ready label)) r1) (one : Does_one (code.add a (a + 5)) r1 r2)
        (branch : Does_one (Close (Branches Ne a (a + 1) label) (label + 1)) r2 q) where
      abbrev begins : Place
      begins = begin_of (block_at t u m source f k ready label)

      poised_on : (i : ℕ) (c d : Point) → Opens c d → Poised a i c → Poised a i d
      poised_on i c d o h = record { place = o.temps a ∙ h.place; end = o.temps (a + 1) ∙ h.end; zero_is = o.temps (a + 4) ∙ h.zero_is; step = o.temps (a + 5) ∙ h.step }

      rep_on : (z : State) (c d : Point) → Opens c d → Stands_for t u m source f k ready z c → Stands_for t u m source f k ready z d
      rep_on z c d o r = rep_works t u m source f k ready a a c d fresh fresh (works_opens t u m source f k ready n a a c d o) z r

      further : (i : ℕ) → suc i < size → at_element (suc i) < at_element size
      further i lt = let some = some_bytes t.word by ready.target.size in let h = element_before bytes (suc i) size lt in omega (arith, some, h)

      turns_clear : (left i : ℕ) → suc (i + left) ≡ size → from ≤ i → (c : Point) (z : State) → Inside t u k c → At t u begins c → Stands_for t u m source f k ready z c → Poised a i c → Zeroed x from i s z
          → To t u m source f k ready q (Cleared from s c) c
      turns_clear zero i last le c z inside at rep h zeroed =
          let end : suc i ≡ size = omega (arith, last) in
          let same : at_element (suc i) ≡ at_element size = ap at_element end in
          to_then t u m source f k ready r2 q (Turned a i z c) (Cleared from s c) c (turn a i begins r1 r2 c z (omega (arith, last)) fresh inside at rep h put one)
          (λ d j at' g.
          to_as t u m source f k ready q (Opens d) (Cleared from s c) d
          (branched t u m source f k ready n Ne a (a + 1) label (label + 1) (at_element (suc i)) (at_element size) r2 q d j at' g.poised.place g.poised.end branch false (same_words t.word _ _ same))
          (λ e o. record {
            made = stored z (variable.Local x) i (Some 0);
            zeroed = subst (λ b. Zeroed x from b s (stored z (variable.Local x) i (Some 0))) end (zeroed_more x from i s z le zeroed);
            rep = rep_on (stored z (variable.Local x) i (Some 0)) d e o g.rep;
            above = λ b above. o.bytes b ∙ g.above b above;
            printed = o.printed ∙ g.printed;
          }))
      turns_clear (suc left) i last le c z inside at rep h zeroed =
          let lt : suc i < size = omega (arith, last) in
          to_then t u m source f k ready r2 q (Turned a i z c) (Cleared from s c) c (turn a i begins r1 r2 c z (omega (arith, last)) fresh inside at rep h put one)
          (λ d j at' g.
          to_then t u m source f k ready begins q (Opens d) (Cleared from s c) d
          (branched t u m source f k ready n Ne a (a + 1) label (label + 1) (at_element (suc i)) (at_element size) r2 q d j at' g.poised.place g.poised.end branch true (other_words t.word _ _ (further i lt)))
          (λ e j2 at2 o.
          to_as t u m source f k ready q (Cleared from s e) (Cleared from s c) e
          (turns_clear left (suc i) (omega (arith, last)) (omega (arith, le)) e (stored z (variable.Local x) i (Some 0)) j2 at2 (rep_on (stored z (variable.Local x) i (Some 0)) d e o g.rep) (poised_on (suc i) d e o g.poised)
          (zeroed_more x from i s z le zeroed))
          (λ w y. record { made = y.made; zeroed = y.zeroed; rep = y.rep; above = λ b above. y.above b above ∙ (o.bytes b ∙ g.above b above); printed = y.printed ∙ (o.printed ∙ g.printed) })))

    module _ (n from : ℕ) where
      filled_past : (q : Place) (c : Point) (s : State) (d : Point) → Inside t u k d → At t u q d → Cleared from s c d → Past t u m source f k ready q c (fill x from (Some 0) s) d
      filled_past q c s d i h g = record { inside = i; at = h; rep = rep_filled from s g.made d g.zeroed g.rep; above = g.above }

      clears : from < size → PastDo t u m source f k ready n (λ s. give next (fill x from (Some 0) s)) (cleared t.word (Elements (Frame offset) by) from size)
      clears lt a first label b q c s fresh (r1, one, (r2, two, (r3, three, (r4, four, (r5, five, (r6, six, (r7, seven, (r8, eight, (r9, enter, loop))))))))) inside at rep =
          let parts = stands_split t u m k (put_at by first (first + 4)) (code.add first (first + 5) ∷ Close (Branches Ne first (first + 1) label) (label + 1) ∷ []) r9 q loop in
          by_loop parts.0 parts.1 parts.2
        where
          at_begin : r9 ≡ begin_of (block_at t u m source f k ready label)
          at_begin = closes_at t u m source f k ready n Falls label r8 r9 enter

          set_up : To t u m source f k ready r8 (Set_up first from c) c
          set_up =
              to_then t u m source f k ready r4 r8 (Started first from c) (Set_up first from c) c (starts first from b r1 r2 r3 r4 c (omega (arith, lt)) inside at rep.stack one two three four)
              (λ d j h g.
              to_as t u m source f k ready r8 (Set_up first from d) (Set_up first from c) d (sets_up first from r4 r5 r6 r7 r8 d j h g.place g.top five six seven eight)
              (λ e y. record { poised = y.poised; works = works_trans t u m source f k first first c d e g.works y.works }))

          by_loop : (p1 : Place) → Code (put_at by first (first + 4)) r9 p1 → Code (code.add first (first + 5) ∷ Close (Branches Ne first (first + 1) label) (label + 1) ∷ []) p1 q
              → Does t u n c (λ fl s d. Past t u m source f k ready q c s d) (give next (fill x from (Some 0) s))
          by_loop p1 put (p2, add, (p3, branch, last)) =
              let put' = subst (λ z. Code (put_at by first (first + 4)) z p1) at_begin put in
              let branch' = subst (λ z. Does_one (Close (Branches Ne first (first + 1) label) (label + 1)) p2 z) (sym last) branch in
              let to =
              to_then t u m source f k ready r8 q (Set_up first from c) (Cleared from s c) c set_up
              (λ d j h g.
              to_then t u m source f k ready r9 q (Opens d) (Cleared from s c) d (falls_to t u m source f k ready n label r8 r9 r9 d j h enter refl)
              (λ e j2 h2 o.
              let works = works_trans t u m source f k first first c d e g.works (works_opens t u m source f k ready n first first d e o) in
              let since = since_works t u m source f k ready first first first c e (omega arith) (omega arith) works in
              to_as t u m source f k ready q (Cleared from s e) (Cleared from s c) e
              (turns_clear n from first label q p1 p2 s fresh put' add branch' (size - suc from) from (omega (arith, lt)) (omega arith) e s j2 (subst (λ z. At t u z e) at_begin h2)
              (rep_works t u m source f k ready first first c e fresh fresh works s rep) (poised_on n from first label q p1 p2 s fresh put' add branch' from d e o g.poised) (zeroed_none x from s))
              (λ w y. record { made = y.made; zeroed = y.zeroed; rep = y.rep; above = λ b above. y.above b above ∙ since.above b above; printed = y.printed ∙ works.printed }))) in
              came t u n c to.point (λ fl s d. Past t u m source f k ready q c s d) next (fill x from (Some 0) s) to.comes to.fact.printed (filled_past q c s to.point to.inside to.at to.fact)

      leaves_none : size ≤ from → PastDo t u m source f k ready n (λ s. give next (fill x from (Some 0) s)) no_steps
      leaves_none le a first label b q c s fresh last inside at rep =
          let none : Zeroed x from size s s = record { zeros = λ j above below. absurd (omega (arith, above, below, le)); others = λ y j away. refl; input = refl } in
          there t u n c (λ fl s d. Past t u m source f k ready q c s d) next (fill x from (Some 0) s)
          (record { inside = inside; at = subst (λ z. At t u z c) (sym last) at; rep = rep_filled from s s c none rep; above = λ b above. refl })

      pub rest_cleared : PastDo t u m source f k ready n (λ s. give next (fill x from (Some 0) s)) (cleared_rest t.word (storage_of t.kept t.word source f (variable.Local x)) from size)
      rest_cleared = subst (λ z. PastDo t u m source f k ready n (λ s. give next (fill x from (Some 0) s)) (cleared_rest t.word z from size)) (sym it.place) (by_test (nat_lt from size) refl)
        where
          by_test : (b : Bool) → nat_lt from size ≡ b → PastDo t u m source f k ready n (λ s. give next (fill x from (Some 0) s)) (if b then cleared t.word (Elements (Frame offset) by) from size else no_steps)
          by_test true e = clears (below_so from size e)
          by_test false e = leaves_none (below_not from size e)
