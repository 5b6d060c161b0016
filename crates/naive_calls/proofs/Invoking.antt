-- A call with its arguments, and that of a helper.
use Rattle.std.proofs.Common.{◌≡◌, ◌≢◌, ℕ, zero, suc, ◌+◌, ◌*◌, ◌-◌, ◌/◌, ◌%◌, ◌^◌, ◌≤◌, ◌<◌, ◌⊎◌, inl, inr, List, [], ◌∷◌, ◌++◌, map, Option, Some, None, Ok, refl, sym, ap, ◌∙◌, subst, arith, true, false}
use Rattle.std.specs.Prelude.{slice_get, length, unwrap_or}
use Rattle.rtl_tree.specs.declared.cells.Cell.TheVariants.{Hard, Temp}
use Rattle.rtl_tree.specs.Trees.{Read}
use Rattle.rtl_tree.specs.Moves.{Move}
use Rattle.rtl_effect.specs.Views.{word_at}
use Rattle.md_shapes.specs.declared.patterns.Pattern.TheVariants as shape
use Rattle.md_shapes.specs.Shapes.{Frame as Fixed}
use Rattle.c_tree.specs.declared.token.At.{At as Spot}
use Rattle.c_tree.specs.declared.types.CType.{CType}
use Rattle.c_tree.specs.declared.types.CType.TheVariants as type
use Rattle.c_tree.specs.declared.typed.Object.{Object}
use Rattle.c_tree.specs.declared.typed.Function.{Function}
use Rattle.c_tree.specs.declared.typed.Typed.{Typed}
use Rattle.c_limits.specs.Frames.{word_bytes, frame_bytes, is_helper}
use Rattle.c_meaning.specs.Operators.{as_type}
use Rattle.c_meaning.specs.Parts.{State, Part, then_do, give, demand, Value as Result, word, absent}
use Rattle.c_meaning.specs.Expressions.{Calls as SourceCalls, Evaluation, in_order}
use Rattle.temp_machine.specs.Routines.{Image, Target, Calls as CallsExit}
use Rattle.temp_machine.specs.Machine.{callee_of}
use Rattle.temp_machine.specs.Live.{Place, End, item_at}
use Rattle.temp_machine.specs.Small.{Point}
use Rattle.naive_code.specs.Operations as code
use Rattle.naive_code.specs.Operations.{Op, Close, Calls, on_two}
use Rattle.naive_code.specs.Storage.{scalar_count, arrays_from}
use Rattle.naive_code.specs.Expressions.{Value, Naive, arguments, results_of, stored_at, stored_from, called}
use Rattle.naive_run.specs.Sound.{alike}
use Rattle.naive_run.specs.Standing.{One}
use Rattle.naive_step.proofs.Doing.{Does, any, does_then, does_further, there}
use Rattle.naive_step.proofs.Making.{Call, Inside, At, routine_in}
use Rattle.naive_step.proofs.Acts.{SetsTemp}
use Rattle.naive_step.proofs.Ends.{begin_of, closed_at}
use Rattle.naive_assigned.proofs.Ready.{Ready, outgoing, frame_is}
use Rattle.naive_assigned.proofs.Working.{Works, rep_works, works_sets}
use Rattle.naive_values.proofs.Typed.{as_alike, as_word}
use Rattle.naive_values.proofs.Getting.{To, Ops, to_place, stands_split, sets}
use Rattle.naive_values.proofs.Asked.{IsFresh, Stands_for, Since, since_refl, since_trans, since_works, Stands_in, Has, Has_word, ValueDoes}
use Rattle.naive_values.proofs.Composing.{to_does}
use Rattle.naive_calls.proofs.Calling.{word_size, argument_at, Returned, Made_call, Called, CallsDo, Stored_args, values_of, All_do, Hold, HasArgs, args_do, stores_arguments}

module _ (t : Target) (u : Image) (m : Fixed) (source : Typed) (f : Function) (k : Call) (ready : Ready t u m source f k) where
  abbrev Code : List Op → Place → Place → Type 0
  Code = Ops t u m source f k ready

  -- what arguments that are stored leave
  pub works_args : (first : ℕ) (vs : List ℕ) (c d : Point) → Stored_args t u m source f k ready 0 vs c d → Works t u m source f k first first c d
  works_args first vs c d g = record {
    temps = λ j lt ne. g.temps j;
    stack = g.regs t.sp;
    bytes = λ b out. g.bytes b (outside b out);
    input = g.input;
    printed = g.printed;
  }
    where
      outside : (b : ℕ) → (b < k.base) ⊎ (k.base + arrays_from t.kept t.word f ≤ b) → (b < argument_at t u m source f k ready 0) ⊎ (k.base + arrays_from t.kept t.word f ≤ b)
      outside b (inl lt) = inl (omega (arith, lt))
      outside b (inr le) = inr le

  pub word_stored : (vs : List ℕ) (c d : Point) → Stored_args t u m source f k ready 0 vs c d → (i v : ℕ) → slice_get vs i ≡ Some v
      → word_at d.view.bytes (argument_at t u m source f k ready i) (t.word / 8) ≡ Some v
  word_stored vs c d g i v is = ap (λ j. word_at d.view.bytes (argument_at t u m source f k ready j) (t.word / 8)) (let z : i ≡ 0 + i = omega arith in z) ∙ g.words i v is

  since_called : (first : ℕ) (of : CType) (p : Place) (c d : Point) (v : Result) (s : State) → Called t u m source f k ready of p c v s d → Since t u m source f k ready first c d
  since_called first of p c d v s g = record { temps = λ j from below. g.temps j; above = g.above }

  -- the result of a call comes to a temporary
  returned_in : (of by : CType) (a : ℕ) (v : Result) (d e : Point) → alike of by ≡ true → Returned t u m source f k ready by v d → e.view.cells (Temp a) ≡ d.view.cells (Hard t.result) → Stands_in t u m source f k ready of a v e
  returned_in of by a (word v) d e same h is = (is ∙ h.0, as_alike t.word of by v same ∙ h.1, h.2)
  returned_in of by a (absent at) d e same h is = tt

  pub reads_result : (a : ℕ) (p q : Place) (c : Point) → Inside t u k c → At t u p c → Code (code.read_result a ∷ []) p q → To t u m source f k ready q (SetsTemp a (c.view.cells (Hard t.result)) c) c
  reads_result a p q c i h (r, one, last) =
      to_place t u m source f k ready r q _ c last
      (sets t u m source f k ready p r c i h shape.ReadResult (on_two a a) a (Read (Hard m.result)) (c.view.cells (Hard t.result)) one refl refl (ap (λ n. Ok (c.view.cells (Hard n))) ready.fixed.result))

  module _ (n : ℕ) (call : SourceCalls) (calls : CallsDo t u m source f k ready n call) where
    -- behind the call its result is read
    pub behind_call : (of by : CType) (a first : ℕ) (p q r : Place) (c d : Point) (v : Result) (s : State) (e : Point) → alike of by ≡ true → scalar_count f ≤ first → first ≤ a → r ≡ begin_of (suc p.block)
        → Since t u m source f k ready first c d → Called t u m source f k ready by p d v s e → Code (code.read_result a ∷ []) r q → Does t u n e (Has t u m source f k ready of a first q c) (give v s)
    behind_call of by a first p q r c d v s e same fresh le last since g ops =
        to_does t u m source f k ready n q (SetsTemp a (e.view.cells (Hard t.result)) e) (Has t u m source f k ready of a first q c) e (give v s)
        (reads_result a r q e g.inside (subst (λ z. At t u z e) (sym last) g.at) ops) (λ w h. h.printed)
        (λ w j at' h.
        let works = works_sets t u m source f k a first (e.view.cells (Hard t.result)) e w h in
        there t u n w (Has t u m source f k ready of a first q c) v s (record {
          inside = j;
          at = at';
          rep = rep_works t u m source f k ready a first e w (omega (arith, fresh, le)) fresh works s g.rep;
          since = since_trans t u m source f k ready first first c e w (omega arith)
              (since_trans t u m source f k ready first first c d e (omega arith) since (since_called first by p d e v s g))
              (since_works t u m source f k ready first a first e w le (omega arith) works);
          value = returned_in of by a v e w same g.result h.temp;
        }))

    module _ (X : Type 0) (ev : X → Evaluation) (nv : X → Naive) where
      abbrev vals : List X → List Value
      vals = values_of t u m source f k ready X ev nv

      -- the operands' types are those of the parameters
      abbrev pub Fit : List X → List Object → Type 0
      Fit [] [] = Unit {0}
      Fit [] (o ∷ os) = ⊥
      Fit (x ∷ xs) [] = ⊥
      Fit (x ∷ xs) (o ∷ os) = (alike (ev x).of o.element ≡ true) × Fit xs os

      pub args_count : (xs : List X) (os : List Object) (first : ℕ) (vs : List ℕ) (d : Point) → Fit xs os → Hold t u m source f k ready X ev nv xs first vs d → length vs ≡ length os
      args_count [] [] first [] d fit h = refl
      args_count [] [] first (v ∷ vs) d fit h = absurd h
      args_count [] (o ∷ os) first vs d fit h = absurd fit
      args_count (x ∷ xs) [] first vs d fit h = absurd fit
      args_count (x ∷ xs) (o ∷ os) first [] d fit h = absurd h
      args_count (x ∷ xs) (o ∷ os) first (v ∷ vs) d fit h = ap suc (args_count xs os (first + (nv x).value.temps) vs d fit.1 h.1)

      args_held : (xs : List X) (first : ℕ) (vs : List ℕ) (d : Point) → Hold t u m source f k ready X ev nv xs first vs d → length vs ≡ length xs
      args_held [] first [] d h = refl
      args_held [] first (v ∷ vs) d h = absurd h
      args_held (x ∷ xs) first [] d h = absurd h
      args_held (x ∷ xs) first (v ∷ vs) d h = ap suc (args_held xs (first + (nv x).value.temps) vs d h.1)

      pub args_typed : (xs : List X) (os : List Object) (first : ℕ) (vs : List ℕ) (d : Point) → Fit xs os → Hold t u m source f k ready X ev nv xs first vs d → (i v : ℕ) (o : Object) → slice_get os i ≡ Some o → slice_get vs i ≡ Some v
          → (as_type t.word o.element v ≡ v) × (v < 2 ^ t.word)
      args_typed [] [] first vs d fit h i v o is e = absurd (grind (arith, is))
      args_typed [] (o' ∷ os) first vs d fit h i v o is e = absurd fit
      args_typed (x ∷ xs) [] first vs d fit h i v o is e = absurd fit
      args_typed (x ∷ xs) (o' ∷ os) first [] d fit h i v o is e = absurd h
      args_typed (x ∷ xs) (o' ∷ os) first (w ∷ vs) d fit h zero v o is e =
          let same : w ≡ v = ap (λ z. unwrap_or z w) e in
          let element : o'.element ≡ o.element = ap (λ z. (unwrap_or z o').element) is in
          let typed : as_type t.word o'.element w ≡ w = sym (as_alike t.word (ev x).of o'.element w fit.0) ∙ h.0.1 in
          (subst (λ z. as_type t.word o.element z ≡ z) same (subst (λ z. as_type t.word z w ≡ w) element typed), subst (λ z. z < 2 ^ t.word) same h.0.2)
      args_typed (x ∷ xs) (o' ∷ os) first (w ∷ vs) d fit h (suc i) v o is e = args_typed xs os (first + (nv x).value.temps) vs d fit.1 h.1 i v o is e

      pub call_does : (spot : Spot) (g : ℕ) (h : Function) (of : CType) (xs : List X) → slice_get source.functions g ≡ Some h → is_helper f.name ≡ false → alike of h.result ≡ true → Fit xs h.params
          → length xs ≤ outgoing t u m source f k ready → All_do t u m source f k ready X ev nv n xs
          → ValueDoes t u m source f k ready n of (λ s. then_do (in_order (map ev xs) s) (call spot g)) (called (word_size t u m source f k ready) g (vals xs))
      call_does spot g h of xs is caller same fit room each first label p q c s fresh ops i at rep =
          let args = arguments (vals xs) in
          let a = first + args.temps in
          let after_args = stored_from (word_size t u m source f k ready) 0 (results_of (vals xs) first) ++ (Close (Calls g) label ∷ code.read_result a ∷ []) in
          let parts = stands_split t u m k (args.ops first (label + 1)) after_args p q ops in
          let second = stands_split t u m k (stored_from (word_size t u m source f k ready) 0 (results_of (vals xs) first)) (Close (Calls g) label ∷ code.read_result a ∷ []) parts.0 q parts.2 in
          does_then t u n c (HasArgs t u m source f k ready X ev nv xs first parts.0 c) (Has t u m source f k ready of a first q c) (in_order (map ev xs) s) (call spot g)
          (args_do t u m source f k ready X ev nv n xs each first (label + 1) p parts.0 c s fresh parts.1 i at rep)
          (λ vs s1 d b. by_call vs s1 d parts.0 second.0 b second.1 second.2)
        where
          by_call : (vs : List ℕ) (s1 : State) (d : Point) (r r1 : Place) → HasArgs t u m source f k ready X ev nv xs first r c vs s1 d
              → Code (stored_from (word_size t u m source f k ready) 0 (results_of (vals xs) first)) r r1 → Code (Close (Calls g) label ∷ code.read_result (first + (arguments (vals xs)).temps) ∷ []) r1 q
              → Does t u n d (Has t u m source f k ready of (first + (arguments (vals xs)).temps) first q c) (call spot g vs s1)
          by_call vs s1 d r r1 b stores (r2, (z, ((transfer, item, callee), z_is), found, next_is), rest) =
              let a = first + (arguments (vals xs)).temps in
              to_does t u m source f k ready n r1 (Stored_args t u m source f k ready 0 vs d) (Has t u m source f k ready of a first q c) d (call spot g vs s1)
              (stores_arguments t u m source f k ready X ev nv xs 0 first vs r r1 d (let z : 0 + length xs ≤ outgoing t u m source f k ready = omega (arith, room) in z) b.inside b.at b.rep.stack b.hold stores) (λ e h'. h'.printed)
              (λ e j at' h'.
              let works = works_args first vs d e h' in
              let rep' = rep_works t u m source f k ready first first d e fresh fresh works s1 b.rep in
              let since = since_trans t u m source f k ready first first c d e (omega arith) b.since (since_works t u m source f k ready first first first d e (omega arith) (omega arith) works) in
              does_further t u n e (Called t u m source f k ready h.result r1 e) (Has t u m source f k ready of a first q c) (call spot g vs s1)
              (calls.does spot g h vs r1 e s1 (record {
                function = is;
                caller = caller;
                transfer = transfer;
                item = item;
                callee = callee;
                inside = j;
                at = at';
                rep = rep';
                count = args_count xs h.params first vs d fit b.hold;
                room = (let held = args_held xs first vs d b.hold in omega (arith, held, room));
                words = word_stored vs d e h';
                typed = λ i v o got_o got. args_typed xs h.params first vs d fit b.hold i v o got_o got;
              }))
              (λ v s2 w g'. behind_call of h.result a first r1 q r2 c e v s2 w same fresh (omega arith) next_is since g' rest))
