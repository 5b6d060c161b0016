-- Elements of a local array are set by their numbers (C11 6.7.9).
use Rattle.std.proofs.Common.{◌≡◌, ◌≢◌, ℕ, suc, ◌+◌, ◌*◌, ◌≤◌, ◌<◌, ◌^◌, List, [], ◌∷◌, ◌++◌, Some, refl, sym, ap, ◌∙◌, subst, arith, true}
use Rattle.std.specs.Prelude.{length}
use Rattle.std.proofs.Math.Nat.{mul-le-mul_left, mul_comm}
use Rattle.rtl_tree.specs.declared.cells.Cell.TheVariants.{Temp}
use Rattle.md_shapes.specs.Shapes.{Frame as Fixed}
use Rattle.c_tree.specs.declared.types.CType.{CType}
use Rattle.c_tree.specs.declared.typed.Variable.TheVariants as variable
use Rattle.c_tree.specs.declared.typed.TypedExpr.{TypedExpr}
use Rattle.c_tree.specs.declared.typed.Function.{Function}
use Rattle.c_tree.specs.declared.typed.Typed.{Typed}
use Rattle.c_limits.specs.Frames.{element_bytes, frame_bytes}
use Rattle.c_meaning.specs.Operators.{as_type}
use Rattle.c_meaning.specs.Parts.{State, store as stored}
use Rattle.c_meaning.specs.Expressions.{array, type_in, World, Lvalue, meaning, as_object}
use Rattle.c_meaning.specs.Run.{kind_in}
use Rattle.c_meaning.specs.Statements.{Flow, next, elements, initialised}
use Rattle.temp_machine.specs.Routines.{Image, Target}
use Rattle.temp_machine.specs.Live.{Place}
use Rattle.temp_machine.specs.Small.{Point}
use Rattle.naive_code.specs.Operations as code
use Rattle.naive_code.specs.Operations.{Op}
use Rattle.naive_code.specs.Storage.{Frame, Elements, storage_of, scalar_count}
use Rattle.naive_code.specs.Expressions.{Value, element, no_value, base_ops, put_at, naive}
use Rattle.naive_code.specs.Functions.{site_of}
use Rattle.naive_code.specs.Statements.{put_elements}
use Rattle.naive_run.specs.Sound.{alike}
use Rattle.naive_step.proofs.Doing.{does_on, there}
use Rattle.naive_step.proofs.Making.{Call, Inside, At}
use Rattle.naive_rep.proofs.Rep.{address_of}
use Rattle.naive_assigned.proofs.Ready.{Ready, object_below}
use Rattle.naive_assigned.proofs.Working.{rep_works}
use Rattle.naive_values.proofs.Typed.{as_alike}
use Rattle.naive_values.proofs.Getting.{To, Ops, Gets, to_as, to_then, stands_split, bases}
use Rattle.naive_values.proofs.Asked.{IsFresh, Stands_for, Kept, in_array, ValueDoes, since_works}
use Rattle.naive_values.proofs.Places.{Puts, puts, array_area, array_has}
use Rattle.naive_values.proofs.Composing.{value_then, to_does}
use Rattle.naive_statements.proofs.Asked.{Past, past_since}
use Rattle.naive_statements.proofs.For.{PastDo}

up_to : (z i n : ℕ) → i ≤ n → z * i ≤ n * z
up_to z i n le = let h : z * i ≤ z * n = mul-le-mul_left z le in let e : z * n ≡ n * z = mul_comm z n in omega (arith, h, e)

module _ (t : Target) (u : Image) (m : Fixed) (source : Typed) (f : Function) (k : Call) (ready : Ready t u m source f k) where
  abbrev Code : List Op → Place → Place → Type 0
  Code = Ops t u m source f k ready

  -- an array of the function: the type of its elements, how many they are, and how far above the stack register they begin
  pub record IsLocalArray (x : ℕ) (by : CType) (size offset : ℕ) : Type 0 where
    pub kind : kind_in source f (variable.Local x) ≡ array by size
    pub place : storage_of t.kept t.word source f (variable.Local x) ≡ Elements (Frame offset) by

  -- an element was set
  pub record Put_in (s : State) (c d : Point) : Type 0 where
    pub rep : Stands_for t u m source f k ready s d
    pub above : (b : ℕ) → k.base + frame_bytes t.kept t.word f ≤ b → d.view.bytes b ≡ c.view.bytes b
    pub printed : d.printed ≡ c.printed

  module _ (x : ℕ) (by : CType) (size offset : ℕ) (it : IsLocalArray x by size offset) where
    abbrev pub element_size : ℕ
    element_size = element_bytes t.word by

    -- where an element begins, and the array ends
    abbrev pub element_at : ℕ → ℕ
    element_at i = k.base + offset + element_size * i

    pub below_word : (i : ℕ) → i ≤ size → element_at i < 2 ^ t.word
    below_word i le =
        let end = up_to element_size i size le in
        let below = object_below t u m source f k ready (variable.Local x) (array_area t u m source f k ready (Frame offset) by size) (array_has t u m source f k ready (variable.Local x) (Frame offset) by size it.place it.kind) in
        let high = ready.high in let memory = ready.target.memory in
        omega (arith, end, below, high, memory)

    -- as the code has it
    pub element_is : (i : ℕ) → k.base + (offset + i * element_size) ≡ element_at i
    element_is i = let e : i * element_size ≡ element_size * i = mul_comm i element_size in omega (arith, e)

    abbrev pub spot : ℕ → Lvalue
    spot i = record { variable = variable.Local x; index = i; at = record { line = 1; column = 1 } }

    pub kept_at : (i a : ℕ) (d : Point) → i < size → d.view.cells (Temp a) ≡ Some (element_at i) → Kept t u m source f k ready (element (Elements (Frame offset) by) no_value) (spot i) a d
    kept_at i a d lt holds = in_array (Frame offset) by size no_value refl it.place it.kind lt holds

    pub typed_so : (y : ℕ) → as_type t.word by y ≡ y → as_type t.word (type_in (kind_in source f (variable.Local x))) y ≡ y
    typed_so y typed = ap (λ g. as_type t.word (type_in g) y) it.kind ∙ typed

    -- a value comes from a temporary into an element
    puts_element : (i a v y : ℕ) (p q : Place) (c : Point) (s : State) → i < size → scalar_count f ≤ a → v < a → Inside t u k c → At t u p c → Stands_for t u m source f k ready s c → c.view.cells (Temp v) ≡ Some y
        → as_type t.word by y ≡ y → y < 2 ^ t.word → Code (code.read_stack a ∷ code.constant (a + 1) (offset + i * element_size) ∷ code.add a (a + 1) ∷ put_at by a v) p q
        → To t u m source f k ready q (Put_in (stored s (variable.Local x) i (Some y)) c) c
    puts_element i a v y p q c s lt fresh below inside at rep holds typed small ops =
        let base = Frame (offset + i * element_size) in
        let parts = stands_split t u m k (base_ops base a) (put_at by a v) p q ops in
        let fits : address_of t u k base < 2 ^ t.word = subst (λ z. z < 2 ^ t.word) (sym (element_is i)) (below_word i (let le : i ≤ size = omega (arith, lt) in le)) in
        to_then t u m source f k ready parts.0 q (Gets t u m source f k ready a (address_of t u k base) (a + 1) c) (Put_in (stored s (variable.Local x) i (Some y)) c) c
        (bases t u m source f k ready p parts.0 c inside at base a rep.stack fits parts.1)
        (λ d j at' g.
        let rep' = rep_works t u m source f k ready a (a + 1) c d fresh (omega (arith, fresh)) g.works s rep in
        let since = since_works t u m source f k ready a a (a + 1) c d (omega arith) (omega arith) g.works in
        let away : v ≢ a + 1 = λ e. omega (arith, e, below) in
        let other : v ≢ a = λ e. omega (arith, e, below) in
        to_as t u m source f k ready q (Puts t u m source f k ready (a + 1) (stored s (variable.Local x) i (Some y)) d) (Put_in (stored s (variable.Local x) i (Some y)) c) d
        (puts t u m source f k ready parts.0 q d j at' s rep' (spot i) (element (Elements (Frame offset) by) no_value) a v (a + 1) y (kept_at i a d lt (g.temp ∙ ap Some (element_is i)))
        (g.works.temps v (omega (arith, below)) other ∙ holds) (typed_so y typed) small (omega (arith, fresh)) away parts.2)
        (λ e z. record { rep = z.rep; above = λ b from. z.above b from ∙ since.above b from; printed = z.printed ∙ g.works.printed }))

    module _ (n : ℕ) (w : World) (bits : w.bits ≡ t.word) (same_kind : w.kind (variable.Local x) ≡ kind_in source f (variable.Local x)) where
      abbrev naive_of : TypedExpr → Value
      naive_of e = (naive (site_of t.kept t.word source f) e).value

      -- each listed value has the elements' type, and its code does what it does
      pub record Is_listed (e : TypedExpr) : Type 0 where
        pub fresh : IsFresh (naive_of e)
        pub same : alike (meaning w e).of by ≡ true
        pub does : ValueDoes t u m source f k ready n (meaning w e).of (meaning w e).value (naive_of e)

      abbrev pub All_listed : List TypedExpr → Type 0
      All_listed [] = Unit {0}
      All_listed (e ∷ es) = Is_listed e × All_listed es

      as_element : (y : ℕ) → as_type t.word by y ≡ y → as_object w (variable.Local x) y ≡ y
      as_element y typed = ap (λ b. as_type b (type_in (w.kind (variable.Local x))) y) bits ∙ (ap (λ g. as_type t.word (type_in g) y) same_kind ∙ typed_so y typed)

      abbrev Past_at : Place → Point → Flow → State → Point → Type 0
      Past_at q c fl s d = Past t u m source f k ready q c s d

      -- from the i-th on
      elements_from : (es : List TypedExpr) (i : ℕ) → i + length es ≤ size → All_listed es
          → PastDo t u m source f k ready n (elements w x i es) (put_elements (site_of t.kept t.word source f) (Elements (Frame offset) by) i es)
      elements_from [] i room all a first label p q c s fresh last inside at rep =
          there t u n c (Past_at q c) next s (record { inside = inside; at = subst (λ z. At t u z c) (sym last) at; rep = rep; above = λ b from. refl })
      elements_from (e ∷ es) i room all a first label p q c s fresh ops inside at rep =
          let v = naive_of e in
          let spare = first + v.temps in
          let put = code.read_stack spare ∷ code.constant (spare + 1) (offset + i * element_size) ∷ code.add spare (spare + 1) ∷ put_at by spare (v.result first) in
          let later = first + (v.temps + 2) in
          let rest = (put_elements (site_of t.kept t.word source f) (Elements (Frame offset) by) (suc i) es).ops a later (label + v.labels) in
          let parts = stands_split t u m k (v.ops first label ++ put) rest p q ops in
          value_then t u m source f k ready n (meaning w e).of v (meaning w e).value all.0.does put (Past_at q c) (λ y s1. elements w x (suc i) es (initialised w x i y s1)) first label p parts.0 c s fresh parts.1 inside at rep
          (λ r d y s1 ops' h.
          let value = h.value in
          let typed : as_type t.word by y ≡ y = sym (as_alike t.word (meaning w e).of by y all.0.same) ∙ value.1 in
          let lt : i < size = omega (arith, room) in
          to_does t u m source f k ready n parts.0 (Put_in (stored s1 (variable.Local x) i (Some y)) d) (Past_at q c) d (elements w x (suc i) es (initialised w x i y s1))
          (puts_element i spare (v.result first) y r parts.0 d s1 lt (omega (arith, fresh)) (all.0.fresh.to first) h.inside h.at h.rep value.0 typed value.2 ops') (λ b g. g.printed)
          (λ b j at' g.
          let rep' = subst (λ z. Stands_for t u m source f k ready (stored s1 (variable.Local x) i (Some z)) b) (sym (as_element y typed)) g.rep in
          does_on t u n b (Past_at q b) (Past_at q c) (elements w x (suc i) es (initialised w x i y s1))
          (elements_from es (suc i) (omega (arith, room)) all.1 a later (label + v.labels) parts.0 q b (initialised w x i y s1) (omega (arith, fresh)) parts.2 j at' rep')
          (λ fl s2 z o. past_since t u m source f k ready q c b s2 z (λ z' from. g.above z' from ∙ h.since.above z' from) o)))

      pub elements_do : (es : List TypedExpr) → length es ≤ size → All_listed es
          → PastDo t u m source f k ready n (elements w x 0 es) (put_elements (site_of t.kept t.word source f) (storage_of t.kept t.word source f (variable.Local x)) 0 es)
      elements_do es room all =
          subst (λ z. PastDo t u m source f k ready n (elements w x 0 es) (put_elements (site_of t.kept t.word source f) z 0 es)) (sym it.place) (elements_from es 0 (omega (arith, room)) all)
