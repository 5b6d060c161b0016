-- Calls: the arguments are evaluated in order and stored, and the call does what the source's does.
use Rattle.std.proofs.Common.{◌≡◌, ◌≢◌, ℕ, zero, suc, ◌+◌, ◌*◌, ◌-◌, ◌/◌, ◌%◌, ◌^◌, ◌≤◌, ◌<◌, ◌⊎◌, inl, inr, List, [], ◌∷◌, ◌++◌, map, Option, Some, None, Ok, refl, sym, ap, ◌∙◌, subst, arith, true, false}
use Rattle.std.specs.Prelude.{slice_get, length}
use Rattle.std.proofs.Math.Nat.{mod-eq_of_lt, mul-suc}
use Rattle.behaviour.proofs.Stepping.{comes_trans}
use Rattle.rtl_word.specs.Words.{IsWordSize, word_add}
use Rattle.rtl_word.proofs.Below.{by_size}
use Rattle.rtl_tree.specs.declared.cells.Cell.TheVariants.{Hard, Temp}
use Rattle.rtl_tree.specs.declared.expressions.Width.TheVariants.{Full}
use Rattle.rtl_tree.specs.declared.expressions.BinOp.TheVariants as op
use Rattle.rtl_tree.specs.Trees.{Tree, Number, Read, Binary}
use Rattle.rtl_tree.specs.Moves.{Move}
use Rattle.rtl_effect.specs.Views.{View, seen, touched, word_at}
use Rattle.md_shapes.specs.declared.patterns.Pattern.TheVariants as shape
use Rattle.md_shapes.specs.Shapes.{Frame as Fixed}
use Rattle.c_tree.specs.declared.token.At.{At as Spot}
use Rattle.c_tree.specs.declared.types.CType.{CType}
use Rattle.c_tree.specs.declared.typed.Object.{Object}
use Rattle.c_tree.specs.declared.typed.Function.{Function}
use Rattle.c_tree.specs.declared.typed.Typed.{Typed}
use Rattle.c_limits.specs.Frames.{word_bytes, frame_bytes, is_helper}
use Rattle.c_meaning.specs.Operators.{as_type}
use Rattle.c_meaning.specs.Parts.{State, Part, then_do, give, demand, Value as Result, word, absent}
use Rattle.c_meaning.specs.Expressions.{Calls as SourceCalls, Evaluation, in_order}
use Rattle.temp_machine.specs.Routines.{Image, Target, Calls as CallsExit}
use Rattle.temp_machine.specs.Machine.{callee_of}
use Rattle.temp_machine.specs.Live.{Place, End, item_at}
use Rattle.temp_machine.specs.Small.{Point}
use Rattle.naive_code.specs.Operations as code
use Rattle.naive_code.specs.Operations.{Op, Close, Calls, on_two, with_number}
use Rattle.naive_code.specs.Storage.{scalar_count, arrays_from}
use Rattle.naive_code.specs.Expressions.{Value, Naive, arguments, results_of, stored_at, stored_from, called}
use Rattle.naive_run.specs.Sound.{alike}
use Rattle.naive_run.specs.Standing.{shaped, One}
use Rattle.naive_step.proofs.Doing.{Does, does_then, there}
use Rattle.naive_step.proofs.Making.{Call, Inside, At, routine_in}
use Rattle.naive_step.proofs.Acts.{SetsTemp, Stores, store}
use Rattle.naive_step.proofs.Ways.{make_has}
use Rattle.naive_step.proofs.Memory.{word_same, byte_apart}
use Rattle.naive_step.proofs.Ends.{begin_of, closed_at}
use Rattle.naive_assigned.proofs.Areas.{bytes_are}
use Rattle.naive_assigned.proofs.Stored.{word_back}
use Rattle.naive_assigned.proofs.Ready.{Ready, outgoing, touches_argument, argument_end, outgoing_below, frame_is}
use Rattle.naive_assigned.proofs.Working.{Works, rep_works, works_sets}
use Rattle.naive_values.proofs.Typed.{as_alike}
use Rattle.naive_values.proofs.Getting.{To, Ops, to_here, to_then, to_as, to_place, stands_split, sets}
use Rattle.naive_values.proofs.Asked.{IsFresh, Stands_for, Since, since_refl, since_trans, since_works, Stands_in, Has, Has_word, ValueDoes}
use Rattle.naive_values.proofs.Composing.{value_then}

module _ (t : Target) (u : Image) (m : Fixed) (source : Typed) (f : Function) (k : Call) (ready : Ready t u m source f k) where
  abbrev Code : List Op → Place → Place → Type 0
  Code = Ops t u m source f k ready

  abbrev pub word_size : ℕ
  word_size = word_bytes t.word

  -- where argument i is stored
  abbrev pub argument_at : ℕ → ℕ
  argument_at i = k.base + word_size * i

  -- ---- what a call does

  abbrev pub Returned : CType → Result → Point → Type 0
  Returned of (word v) d = (d.view.cells (Hard t.result) ≡ Some v) × (as_type t.word of v ≡ v) × (v < 2 ^ t.word)
  Returned of (absent at) d = Unit {0}

  -- a call of a function stands at the place, and its arguments are stored
  pub record Made_call (g : ℕ) (h : Function) (vs : List ℕ) (p : Place) (c : Point) (s : State) : Type 0 where
    pub function : slice_get source.functions g ≡ Some h
    pub caller : is_helper f.name ≡ false
    pub transfer : List Move
    pub item : item_at (routine_in t u k) p ≡ Some (End (CallsExit transfer))
    pub callee : callee_of t.word transfer ≡ Some g
    pub inside : Inside t u k c
    pub at : At t u p c
    pub rep : Stands_for t u m source f k ready s c
    pub count : length vs ≡ length h.params
    pub room : length vs ≤ outgoing t u m source f k ready
    pub words : (i v : ℕ) → slice_get vs i ≡ Some v → word_at c.view.bytes (argument_at i) (t.word / 8) ≡ Some v
    pub typed : (i v : ℕ) (o : Object) → slice_get h.params i ≡ Some o → slice_get vs i ≡ Some v → (as_type t.word o.element v ≡ v) × (v < 2 ^ t.word)

  -- the block behind the call is begun: the caller's temporaries and what is above its frame are as they were
  pub record Called (of : CType) (p : Place) (c : Point) (v : Result) (s : State) (d : Point) : Type 0 where
    pub inside : Inside t u k d
    pub at : At t u (begin_of (suc p.block)) d
    pub rep : Stands_for t u m source f k ready s d
    pub temps : (j : ℕ) → d.view.cells (Temp j) ≡ c.view.cells (Temp j)
    pub above : (b : ℕ) → k.base + frame_bytes t.kept t.word f ≤ b → d.view.bytes b ≡ c.view.bytes b
    pub result : Returned of v d

  pub record CallsDo (n : ℕ) (call : SourceCalls) : Type 0 where
    pub does : (spot : Spot) (g : ℕ) (h : Function) (vs : List ℕ) (p : Place) (c : Point) (s : State) → Made_call g h vs p c s → Does t u n c (Called h.result p c) (call spot g vs s)

  -- ---- arguments are stored

  -- from argument i on
  pub record Stored_args (i : ℕ) (vs : List ℕ) (c d : Point) : Type 0 where
    pub temps : (j : ℕ) → d.view.cells (Temp j) ≡ c.view.cells (Temp j)
    pub regs : (j : ℕ) → d.view.cells (Hard j) ≡ c.view.cells (Hard j)
    pub bytes : (b : ℕ) → (b < argument_at i) ⊎ (k.base + arrays_from t.kept t.word f ≤ b) → d.view.bytes b ≡ c.view.bytes b
    pub input : d.view.input ≡ c.view.input
    pub printed : d.printed ≡ c.printed
    pub words : (j v : ℕ) → slice_get vs j ≡ Some v → word_at d.view.bytes (argument_at (i + j)) (t.word / 8) ≡ Some v

  argument_below : (i : ℕ) → i < outgoing t u m source f k ready → argument_at i + t.word / 8 ≤ k.base + arrays_from t.kept t.word f
  argument_below i lt =
      let end = argument_end t u m source f k ready i lt in
      let below = outgoing_below t u m source f k ready in
      omega (arith, end, below)

  -- one of them
  stores_argument : (i a v : ℕ) (p r : Place) (c : Point) → Inside t u k c → At t u p c → c.view.cells (Hard t.sp) ≡ Some k.base → c.view.cells (Temp a) ≡ Some v → i < outgoing t u m source f k ready
      → One t.word m (routine_in t u k) (stored_at word_size i a) p r → To t u m source f k ready r (Stores (argument_at i) (t.word / 8) (Some v) c) c
  stores_argument zero a v p r c i h sp holds lt one =
      let sp' : c.view.cells (Hard m.stack) ≡ Some k.base = ap (λ n. c.view.cells (Hard n)) ready.fixed.stack ∙ sp in
      let first : argument_at 0 ≡ k.base = omega arith in
      let touches = touches_argument t u m source f k ready c.view 0 i.shows lt in
      subst (λ z. To t u m source f k ready r (Stores z (t.word / 8) (Some v) c) c) (sym first)
      (store t u m k ready.fits (shaped shape.StoreTop (on_two a a)) p r c (make_has t u m k ready.fits _ _ p r one) i h Full (Read (Hard m.stack)) a k.base (Some v) refl (ap Ok sp') holds
      (subst (λ z. touched (t.word / 8) c.view (Some z) ≡ Ok z) first touches))
  stores_argument (suc j) a v p r c i h sp holds lt one =
      let sp' : c.view.cells (Hard m.stack) ≡ Some k.base = ap (λ n. c.view.cells (Hard n)) ready.fixed.stack ∙ sp in
      let below = argument_below (suc j) lt in
      let arrays = frame_is t u m source f k ready in
      let high = ready.high in let memory = ready.target.memory in
      let small : argument_at (suc j) < 2 ^ t.word = omega (arith, below, arrays, high, memory) in
      let address : seen t.word (Binary op.Add (Read (Hard m.stack)) (Number (word_size * suc j))) c.view ≡ Ok (Some (argument_at (suc j))) = rw sp' (ap (λ z. Ok (Some z)) (mod-eq_of_lt small)) in
      store t u m k ready.fits (shaped shape.StoreHome (with_number a (word_size * suc j))) p r c (make_has t u m k ready.fits _ _ p r one) i h Full (Binary op.Add (Read (Hard m.stack)) (Number (word_size * suc j))) a
      (argument_at (suc j)) (Some v) refl address holds (touches_argument t u m source f k ready c.view (suc j) i.shows lt)

  module _ (X : Type 0) (ev : X → Evaluation) (nv : X → Naive) where
    abbrev pub values_of : List X → List Value
    values_of xs = map (λ e. e.value) (map nv xs)

    -- each operand's code does what the operand does
    abbrev pub All_do : ℕ → List X → Type 0
    All_do n [] = Unit {0}
    All_do n (x ∷ xs) = (IsFresh (nv x).value × ValueDoes t u m source f k ready n (ev x).of (ev x).value (nv x).value) × All_do n xs

    -- the operands' words stand in their temporaries
    abbrev pub Hold : List X → ℕ → List ℕ → Point → Type 0
    Hold [] first [] d = Unit {0}
    Hold [] first (v ∷ vs) d = ⊥
    Hold (x ∷ xs) first [] d = ⊥
    Hold (x ∷ xs) first (v ∷ vs) d = Stands_in t u m source f k ready (ev x).of ((nv x).value.result first) (word v) d × Hold xs (first + (nv x).value.temps) vs d

    pub record HasArgs (xs : List X) (first : ℕ) (q : Place) (c : Point) (vs : List ℕ) (s : State) (d : Point) : Type 0 where
      pub inside : Inside t u k d
      pub at : At t u q d
      pub rep : Stands_for t u m source f k ready s d
      pub since : Since t u m source f k ready first c d
      pub hold : Hold xs first vs d

    pub args_do : (n : ℕ) (xs : List X) → All_do n xs → (first label : ℕ) (p q : Place) (c : Point) (s : State) → scalar_count f ≤ first → Code ((arguments (values_of xs)).ops first label) p q
        → Inside t u k c → At t u p c → Stands_for t u m source f k ready s c → Does t u n c (HasArgs xs first q c) (in_order (map ev xs) s)
    args_do n [] each first label p q c s fresh last i h rep =
        there t u n c (HasArgs [] first q c) [] s (record { inside = i; at = subst (λ z. At t u z c) (sym last) h; rep = rep; since = since_refl t u m source f k ready first c; hold = tt })
    args_do n (x ∷ xs) each first label p q c s fresh ops i h rep =
        let a = (nv x).value in
        let later = first + a.temps in
        value_then t u m source f k ready n (ev x).of a (ev x).value each.0.1 ((arguments (values_of xs)).ops later (label + a.labels)) (HasArgs (x ∷ xs) first q c)
        (λ v s1. then_do (in_order (map ev xs) s1) (λ vs s2. give (v ∷ vs) s2)) first label p q c s fresh ops i h rep
        (λ r d v s1 rest g.
        does_then t u n d (HasArgs xs later q d) (HasArgs (x ∷ xs) first q c) (in_order (map ev xs) s1) (λ vs s2. give (v ∷ vs) s2)
        (args_do n xs each.1 later (label + a.labels) r q d s1 (omega (arith, fresh)) rest g.inside g.at g.rep)
        (λ vs s2 e b.
        let value = g.value in
        let from = each.0.0.from first in
        there t u n e (HasArgs (x ∷ xs) first q c) (v ∷ vs) s2 (record {
          inside = b.inside;
          at = b.at;
          rep = b.rep;
          since = since_trans t u m source f k ready first later c d e (omega arith) g.since b.since;
          hold = ((b.since.temps (a.result first) (omega (arith, fresh, from)) (each.0.0.to first) ∙ value.0, value.1, value.2), b.hold);
        })))

    hold_like : (xs : List X) (first : ℕ) (vs : List ℕ) (c d : Point) → ((j : ℕ) → d.view.cells (Temp j) ≡ c.view.cells (Temp j)) → Hold xs first vs c → Hold xs first vs d
    hold_like [] first [] c d same h = tt
    hold_like [] first (v ∷ vs) c d same h = h
    hold_like (x ∷ xs) first [] c d same h = h
    hold_like (x ∷ xs) first (v ∷ vs) c d same h = ((same ((nv x).value.result first) ∙ h.0.0, h.0.1, h.0.2), hold_like xs (first + (nv x).value.temps) vs c d same h.1)

    next_argument : (i : ℕ) → argument_at (suc i) ≡ argument_at i + word_size
    next_argument i = let e : word_size * suc i ≡ word_size * i + word_size = mul-suc word_size i in omega (arith, e)

    -- all of them
    pub stores_arguments : (xs : List X) (i first : ℕ) (vs : List ℕ) (p q : Place) (c : Point) → i + length xs ≤ outgoing t u m source f k ready → Inside t u k c → At t u p c → c.view.cells (Hard t.sp) ≡ Some k.base
        → Hold xs first vs c → Code (stored_from word_size i (results_of (values_of xs) first)) p q → To t u m source f k ready q (Stored_args i vs c) c
    stores_arguments [] i first [] p q c room inside h sp hold last =
        to_here t u m source f k ready p q _ c last inside h (record { temps = λ j. refl; regs = λ j. refl; bytes = λ b out. refl; input = refl; printed = refl; words = λ j v e. absurd (grind (arith, e)) })
    stores_arguments [] i first (v ∷ vs) p q c room inside h sp hold last = absurd hold
    stores_arguments (x ∷ xs) i first [] p q c room inside h sp hold ops = absurd hold
    stores_arguments (x ∷ xs) i first (v ∷ vs) p q c room inside h sp hold (r, one, rest) =
        let lt : i < outgoing t u m source f k ready = omega (arith, room) in
        to_then t u m source f k ready r q (Stores (argument_at i) (t.word / 8) (Some v) c) (Stored_args i (v ∷ vs) c) c
        (stores_argument i ((nv x).value.result first) v p r c inside h sp hold.0.0 lt one)
        (λ d j at' g.
        to_as t u m source f k ready q (Stored_args (suc i) vs d) (Stored_args i (v ∷ vs) c) d
        (stores_arguments xs (suc i) (first + (nv x).value.temps) vs r q d (omega (arith, room)) j at' (g.regs t.sp ∙ sp) (hold_like xs (first + (nv x).value.temps) vs c d g.temps hold.1) rest)
        (λ e b. joined c d e i v vs lt hold.0.2 g b))
      where
        joined : (c d e : Point) (i v : ℕ) (vs : List ℕ) → i < outgoing t u m source f k ready → v < 2 ^ t.word → Stores (argument_at i) (t.word / 8) (Some v) c d → Stored_args (suc i) vs d e → Stored_args i (v ∷ vs) c e
        joined c d e i v vs lt small g b = record {
          temps = λ j. b.temps j ∙ g.temps j;
          regs = λ j. b.regs j ∙ g.regs j;
          bytes = λ a out. b.bytes a (further a out) ∙ byte_apart (argument_at i) (t.word / 8) v c.view.bytes d.view.bytes g.bytes a (beside a out);
          input = b.input ∙ g.input;
          printed = b.printed ∙ g.printed;
          words = λ j w is. word_of j w is;
        }
          where
            size : t.word / 8 ≡ word_size
            size = bytes_are t.word ready.target.size

            further : (a : ℕ) → (a < argument_at i) ⊎ (k.base + arrays_from t.kept t.word f ≤ a) → (a < argument_at (suc i)) ⊎ (k.base + arrays_from t.kept t.word f ≤ a)
            further a (inl h) = inl (let e = next_argument i in omega (arith, e, h))
            further a (inr h) = inr h

            beside : (a : ℕ) → (a < argument_at i) ⊎ (k.base + arrays_from t.kept t.word f ≤ a) → (a < argument_at i) ⊎ (argument_at i + t.word / 8 ≤ a)
            beside a (inl h) = inl h
            beside a (inr h) = inr (let below = argument_below i lt in omega (arith, below, h))

            kept_word : word_at e.view.bytes (argument_at i) (t.word / 8) ≡ word_at d.view.bytes (argument_at i) (t.word / 8)
            kept_word = word_same d.view.bytes e.view.bytes (argument_at i) (t.word / 8) (λ a low high. b.bytes a (inl (let e = next_argument i in omega (arith, e, size, high))))

            word_of : (j w : ℕ) → slice_get (v ∷ vs) j ≡ Some w → word_at e.view.bytes (argument_at (i + j)) (t.word / 8) ≡ Some w
            word_of zero w is =
                ap (λ n. word_at e.view.bytes (argument_at n) (t.word / 8)) (let z : i + 0 ≡ i = omega arith in z)
                ∙ (kept_word ∙ (word_back t.word (argument_at i) v c.view.bytes d.view.bytes ready.target.size small g.bytes ∙ is))
            word_of (suc j) w is = ap (λ n. word_at e.view.bytes (argument_at n) (t.word / 8)) (let z : i + suc j ≡ suc i + j = omega arith in z) ∙ b.words j w is
