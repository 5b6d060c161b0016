-- What is asked of the code of an expression: of its value, of its test, and of the place that it designates.
use Rattle.std.proofs.Common.{◌≡◌, ◌≢◌, ℕ, zero, suc, ◌+◌, ◌*◌, ◌≤◌, ◌<◌, ◌^◌, inr, List, [], ◌∷◌, ◌++◌, Option, Some, None, Ok, refl, sym, ap, ◌∙◌, subst, arith}
use Rattle.std.specs.Prelude.{Bool, true, false}
use Rattle.rtl_tree.specs.declared.cells.Cell.TheVariants.{Hard, Temp}
use Rattle.c_tree.specs.declared.types.CType.{CType}
use Rattle.c_tree.specs.declared.typed.Function.{Function}
use Rattle.c_tree.specs.declared.typed.Typed.{Typed}
use Rattle.c_limits.specs.Frames.{element_bytes, frame_bytes, arrays}
use Rattle.c_meaning.specs.Operators.{as_type}
use Rattle.c_meaning.specs.Parts.{State, Part, Value as Result, word, absent, then_do, demand}
use Rattle.c_meaning.specs.Expressions.{Kind, missing, scalar, array, type_in, Lvalue}
use Rattle.c_meaning.specs.Run.{kind_in}
use Rattle.md_shapes.specs.Shapes.{Frame as Fixed}
use Rattle.temp_machine.specs.Routines.{Image, Target}
use Rattle.temp_machine.specs.Machine.{position}
use Rattle.temp_machine.specs.Live.{Place}
use Rattle.temp_machine.specs.Small.{Point}
use Rattle.naive_code.specs.Storage.{Base, Storage, Temporary, Word, Elements, Missing, storage_of, scalar_count, arrays_from}
use Rattle.naive_code.specs.Expressions.{Value, Test, Designated, object, element, nowhere, opened}
use Rattle.naive_step.proofs.Doing.{Does, any, does_then, does_on, there, came}
use Rattle.naive_step.proofs.Making.{Call, Inside, At, routine_in}
use Rattle.naive_step.proofs.Acts.{Reached}
use Rattle.naive_step.proofs.Ends.{begin_of}
use Rattle.naive_rep.proofs.Rep.{Rep, address_of}
use Rattle.naive_assigned.proofs.Ready.{Ready}
use Rattle.naive_assigned.proofs.Working.{Works}
use Rattle.naive_values.proofs.Getting.{Ops}

-- of a value nothing is known; or it is the word 0 or 1
abbrev pub Any : Result → Type 0
Any v = Unit {0}

abbrev pub Is_truth : Result → Type 0
Is_truth (word v) = v < 2
Is_truth (absent at) = ⊥

-- whether a test leaves for its target: where the truth of the word is as the sense says
abbrev pub leaves : Bool → ℕ → Bool
leaves true zero = false
leaves true (suc n) = true
leaves false zero = true
leaves false (suc n) = false

-- the temporary of a value's result is one of its own
pub record IsFresh (v : Value) : Type 0 where
  pub from : (first : ℕ) → first ≤ v.result first
  pub to : (first : ℕ) → v.result first < first + v.temps

module _ (t : Target) (u : Image) (m : Fixed) (source : Typed) (f : Function) (k : Call) (ready : Ready t u m source f k) where
  abbrev pub Stands_for : State → Point → Type 0
  Stands_for = Rep t u k source f

  -- what holds on since a point: the temporaries of no object below a number, and the bytes above the frame
  pub record Since (a : ℕ) (c d : Point) : Type 0 where
    pub temps : (j : ℕ) → scalar_count f ≤ j → j < a → d.view.cells (Temp j) ≡ c.view.cells (Temp j)
    pub above : (b : ℕ) → k.base + frame_bytes t.kept t.word f ≤ b → d.view.bytes b ≡ c.view.bytes b

  pub since_refl : (a : ℕ) (c : Point) → Since a c c
  since_refl a c = record { temps = λ j from below. refl; above = λ b from. refl }

  pub since_trans : (a b : ℕ) (c d e : Point) → a ≤ b → Since a c d → Since b d e → Since a c e
  since_trans a b c d e le g h = record {
    temps = λ j from below. h.temps j from (omega (arith, le, below)) ∙ g.temps j from below;
    above = λ j from. h.above j from ∙ g.above j from;
  }

  arrays_end : frame_bytes t.kept t.word f ≡ arrays_from t.kept t.word f + arrays t.word f.locals
  arrays_end = refl

  pub since_works : (least a first : ℕ) (c d : Point) → least ≤ a → least ≤ first → Works t u m source f k a first c d → Since least c d
  since_works least a first c d le_a le w = record {
    temps = λ j from below. w.temps j (omega (arith, le, below)) (λ e. omega (arith, e, le_a, below));
    above = λ b from. let ends = arrays_end in w.bytes b (inr (omega (arith, ends, from)));
  }

  -- a word of the type stands in the temporary; of no value nothing is asked
  abbrev pub Stands_in : CType → ℕ → Result → Point → Type 0
  Stands_in of a (word v) d = (d.view.cells (Temp a) ≡ Some v) × (as_type t.word of v ≡ v) × (v < 2 ^ t.word)
  Stands_in of a (absent at) d = Unit {0}

  -- the value is in a temporary, and all else that counts is as it was
  pub record Has (of : CType) (result first : ℕ) (q : Place) (c : Point) (v : Result) (s : State) (d : Point) : Type 0 where
    pub inside : Inside t u k d
    pub at : At t u q d
    pub rep : Stands_for s d
    pub since : Since first c d
    pub value : Stands_in of result v d

  -- a value that is used is a word
  abbrev pub Has_word : CType → ℕ → ℕ → Place → Point → ℕ → State → Point → Type 0
  Has_word of result first q c v = Has of result first q c (word v)

  -- what is had since a later point is had since an earlier one
  pub had_since : (of : CType) (result a b : ℕ) (q : Place) (c d : Point) (v : Result) (s : State) (e : Point) → a ≤ b → Since a c d → Has of result b q d v s e → Has of result a q c v s e
  had_since of result a b q c d v s e le h g = record { inside = g.inside; at = g.at; rep = g.rep; since = since_trans a b c d e le h g.since; value = g.value }

  -- ---- places

  abbrev pub kind_at : Lvalue → Kind
  kind_at x = kind_in source f x.variable

  abbrev pub storage_at : Lvalue → Storage
  storage_at x = storage_of t.kept t.word source f x.variable

  -- where the object or the element is kept; the address of an element stands in a temporary
  pub data Kept (p : Designated) (x : Lvalue) (a : ℕ) (d : Point) : Type 0 where
    in_temporary : (n : ℕ) (by : CType) → p ≡ object (Temporary n) → storage_at x ≡ Temporary n → kind_at x ≡ scalar by → x.index ≡ 0 → Kept p x a d
    in_word : (y : ℕ) (by : CType) → p ≡ object (Word y) → storage_at x ≡ Word y → kind_at x ≡ scalar by → x.index ≡ 0 → Kept p x a d
    in_array : (base : Base) (by : CType) (n : ℕ) (i : Value) → p ≡ element (Elements base by) i → storage_at x ≡ Elements base by → kind_at x ≡ array by n → x.index < n
        → d.view.cells (Temp a) ≡ Some (address_of t u k base + element_bytes t.word by * x.index) → Kept p x a d

  pub record HasPlace (of : CType) (p : Designated) (a first : ℕ) (q : Place) (c : Point) (x : Lvalue) (s : State) (d : Point) : Type 0 where
    pub inside : Inside t u k d
    pub at : At t u q d
    pub rep : Stands_for s d
    pub since : Since first c d
    pub kept : Kept p x a d
    pub typed : (v : ℕ) → as_type t.word of v ≡ as_type t.word (type_in (kind_at x)) v

  -- an element's address is in a fresh temporary
  abbrev pub Place_fresh : Designated → Type 0
  Place_fresh (object s) = Unit {0}
  Place_fresh (element s i) = IsFresh (opened (element s i))
  Place_fresh nowhere = Unit {0}

  -- ---- tests

  -- the block of a label
  abbrev pub block_at : ℕ → ℕ
  block_at l = position (routine_in t u k).blocks l 0

  abbrev pub reached_at : Bool → ℕ → Place → Place
  reached_at true target q = begin_of (block_at target)
  reached_at false target q = q

  pub record Tested (sense : Bool) (target first : ℕ) (q : Place) (c : Point) (v : ℕ) (s : State) (d : Point) : Type 0 where
    pub inside : Inside t u k d
    pub at : At t u (reached_at (leaves sense v) target q) d
    pub rep : Stands_for s d
    pub since : Since first c d

  abbrev pub Tested_if : Bool → ℕ → ℕ → Place → Point → Result → State → Point → Type 0
  Tested_if sense target first q c (word v) s d = Tested sense target first q c v s d
  Tested_if sense target first q c (absent at) s d = Unit {0}

  -- something is known of the value, and a word was tested
  abbrev pub Tested_value : (Result → Type 0) → Bool → ℕ → ℕ → Place → Point → Result → State → Point → Type 0
  Tested_value P sense target first q c v s d = P v × Tested_if sense target first q c v s d

  -- a test ends with the block that it opens
  abbrev pub Opens_next : Test → Type 0
  Opens_next e = (sense : Bool) (target next first label : ℕ) (p q : Place) → Ops t u m source f k ready (e.ops sense target next first label) p q → q ≡ begin_of (block_at next)

  module _ (n : ℕ) where
    -- wherever the operations of a value stand, they bring it to its temporary
    abbrev pub ValueDoes : CType → (State → Part Result) → Value → Type 0
    ValueDoes of e v =
        (first label : ℕ) (p q : Place) (c : Point) (s : State) → scalar_count f ≤ first → Ops t u m source f k ready (v.ops first label) p q
        → Inside t u k c → At t u p c → Stands_for s c → Does t u n c (Has of (v.result first) first q c) (e s)

    abbrev pub PlaceDoes : CType → (State → Part Lvalue) → Designated → Type 0
    PlaceDoes of e x =
        (first label : ℕ) (p q : Place) (c : Point) (s : State) → scalar_count f ≤ first → Ops t u m source f k ready ((opened x).ops first label) p q
        → Inside t u k c → At t u p c → Stands_for s c → Does t u n c (HasPlace of x ((opened x).result first) first q c) (e s)

    abbrev pub TestDoes : (Result → Type 0) → (State → Part Result) → Test → Type 0
    TestDoes P e x =
        (sense : Bool) (target next first label : ℕ) (p q : Place) (c : Point) (s : State) → scalar_count f ≤ first → Ops t u m source f k ready (x.ops sense target next first label) p q
        → Inside t u k c → At t u p c → Stands_for s c → Does t u n c (Tested_value P sense target first q c) (e s)

    pub demanded : (of : CType) (result first : ℕ) (q : Place) (c : Point) (v : Result) (s : State) (d : Point) → Has of result first q c v s d → Does t u n d (Has_word of result first q c) (demand v s)
    demanded of result first q c (word v) s d h = there t u n d _ v s h
    demanded of result first q c (absent at) s d h = any [] _

    pub needed_does : (of : CType) (result first : ℕ) (q : Place) (c : Point) (x : Part Result) → Does t u n c (Has of result first q c) x → Does t u n c (Has_word of result first q c) (then_do x demand)
    needed_does of result first q c x h = does_then t u n c (Has of result first q c) _ x demand h (λ v s d g. demanded of result first q c v s d g)
