-- Compound assignments: by an operator of the machine, or by a call of a helper (C11 6.5.16.2).
use Rattle.std.proofs.Common.{◌≡◌, ◌≢◌, ℕ, zero, suc, ◌+◌, ◌*◌, ◌^◌, ◌≤◌, ◌<◌, List, [], ◌∷◌, ◌++◌, Option, Some, None, refl, sym, ap, ◌∙◌, subst, arith, true, false}
use Rattle.std.specs.Prelude.{max, slice_get, length}
use Rattle.rtl_tree.specs.declared.cells.Cell.TheVariants.{Hard, Temp}
use Rattle.md_shapes.specs.Shapes.{Frame as Fixed}
use Rattle.c_tree.specs.declared.token.At.{At as Spot}
use Rattle.c_tree.specs.declared.types.CType.{CType}
use Rattle.c_tree.specs.declared.types.CType.TheVariants as type
use Rattle.c_tree.specs.declared.syntax.Arithmetic.{Arithmetic}
use Rattle.c_tree.specs.declared.typed.Operation.{Operation}
use Rattle.c_tree.specs.declared.typed.Operation.TheVariants as operation
use Rattle.c_tree.specs.declared.typed.Function.{Function}
use Rattle.c_tree.specs.declared.typed.Typed.{Typed}
use Rattle.c_limits.specs.Frames.{is_helper}
use Rattle.c_meaning.specs.Operators.{Outcome, gives, undefined, computed_in, calculate}
use Rattle.c_meaning.specs.Parts.{State, Part, then_do, give, act, demand, outcome, Value as Result, word, absent}
use Rattle.c_meaning.specs.Expressions.{Calls as SourceCalls, Evaluation, Lvalue, combined as source_combined, read, write}
use Rattle.temp_machine.specs.Routines.{Image, Target}
use Rattle.temp_machine.specs.Live.{Place}
use Rattle.temp_machine.specs.Small.{Point}
use Rattle.naive_code.specs.Operations as code
use Rattle.naive_code.specs.Operations.{Op, Close, Calls}
use Rattle.naive_code.specs.Storage.{scalar_count}
use Rattle.naive_code.specs.Expressions.{Value, Designated, opened, storage_in, got_from, put_into, settled, settled_in, narrowed, computed, Naive, Test, leaf, plain, combined, compound, operation_labels, results_of, stored_from}
use Rattle.naive_run.specs.Sound.{alike}
use Rattle.naive_run.specs.Standing.{One}
use Rattle.naive_step.proofs.Doing.{Does, any, does_then, does_further, came}
use Rattle.naive_step.proofs.Making.{Call, Inside, At, routine_in}
use Rattle.naive_assigned.proofs.Ready.{Ready, outgoing}
use Rattle.naive_assigned.proofs.Working.{rep_works}
use Rattle.naive_values.proofs.Calculating.{calculate_gives}
use Rattle.naive_values.proofs.Typed.{as_word}
use Rattle.naive_values.proofs.Getting.{Ops, stands_split}
use Rattle.naive_values.proofs.Asked.{IsFresh, Place_fresh, Stands_for, Since, since_refl, since_trans, since_works, Has, Has_word, HasPlace, demanded, ValueDoes, PlaceDoes}
use Rattle.naive_values.proofs.Operating.{computed_gets}
use Rattle.naive_values.proofs.Composing.{value_then, to_does}
use Rattle.naive_values.proofs.Objects.{read_does}
use Rattle.naive_assigns.proofs.Assigning.{place_then, next_spared, narrow_finish, world}
use Rattle.naive_calls.proofs.Calling.{word_size, Called, CallsDo, Stored_args, Hold, stores_arguments}
use Rattle.naive_calls.proofs.Invoking.{works_args, word_stored, args_count, args_typed, behind_call, Fit}

-- an operand that stands in a temporary already
abbrev pub standing : ℕ → Naive
standing a = plain type.Int (record { temps = 0; labels = 0; ops = λ t l. []; result = λ t. a; depths = λ d. [] })

abbrev pub an_int : ℕ → Evaluation
an_int a = record { of = type.Int; value = λ s. act 0 (record { line = 1; column = 1 }); lvalue = λ s. act 0 (record { line = 1; column = 1 }) }

module _ (t : Target) (u : Image) (m : Fixed) (source : Typed) (f : Function) (k : Call) (ready : Ready t u m source f k) (n : ℕ) (call : SourceCalls) (calls : CallsDo t u m source f k ready n call) where
  abbrev Code : List Op → Place → Place → Type 0
  Code = Ops t u m source f k ready

  -- a helper takes two words and gives one
  pub record Helps (g : ℕ) : Type 0 where
    pub helper : Function
    pub function : slice_get source.functions g ≡ Some helper
    pub caller : is_helper f.name ≡ false
    pub result : alike type.Int helper.result ≡ true
    pub fit : (a b : ℕ) → Fit t u m source f k ready n call calls ℕ an_int standing (a ∷ b ∷ []) helper.params

  abbrev pub Operation_fits : Operation → Type 0
  Operation_fits (operation.Operator o) = Unit {0}
  Operation_fits (operation.Helper g) = Helps g

  helper_does : (spot : Spot) (g a b l x y : ℕ) (p q : Place) (c : Point) (s : State) → Helps g → scalar_count f ≤ a → Inside t u k c → At t u p c → Stands_for t u m source f k ready s c
      → c.view.cells (Temp a) ≡ Some x → c.view.cells (Temp b) ≡ Some y → x < 2 ^ t.word → y < 2 ^ t.word
      → Code (code.store_top a ∷ code.store_home b (word_size t u m source f k ready) ∷ Close (Calls g) l ∷ code.read_result a ∷ []) p q
      → Does t u n c (Has_word t u m source f k ready type.Int a a q c) (then_do (call spot g (x ∷ y ∷ []) s) demand)
  helper_does spot g a b l x y p q c s helps fresh i h rep left right small_x small_y (r1, top, (r2, home, (r3, (z, ((transfer, item, callee), z_is), found, next_is), rest))) =
      does_then t u n c (Has t u m source f k ready type.Int a a q c) (Has_word t u m source f k ready type.Int a a q c) (call spot g (x ∷ y ∷ []) s) demand
      (to_does t u m source f k ready n r2 (Stored_args t u m source f k ready 0 (x ∷ y ∷ []) c) (Has t u m source f k ready type.Int a a q c) c (call spot g (x ∷ y ∷ []) s)
      (stores_arguments t u m source f k ready ℕ an_int standing (a ∷ b ∷ []) 0 0 (x ∷ y ∷ []) p r2 c room i h rep.stack hold (r1, top, (r2, home', refl))) (λ e g. g.printed)
      (λ e j at' g'.
      let works = works_args t u m source f k ready a (x ∷ y ∷ []) c e g' in
      let rep' = rep_works t u m source f k ready a a c e fresh fresh works s rep in
      does_further t u n e (Called t u m source f k ready helps.helper.result r2 e) (Has t u m source f k ready type.Int a a q c) (call spot g (x ∷ y ∷ []) s)
      (calls.does spot g helps.helper (x ∷ y ∷ []) r2 e s (record {
        function = helps.function;
        caller = helps.caller;
        transfer = transfer;
        item = item;
        callee = callee;
        inside = j;
        at = at';
        rep = rep';
        count = args_count t u m source f k ready n call calls ℕ an_int standing (a ∷ b ∷ []) helps.helper.params 0 (x ∷ y ∷ []) c (helps.fit a b) hold;
        room = (let fits : length (x ∷ y ∷ []) ≤ outgoing t u m source f k ready = omega arith in fits);
        words = word_stored t u m source f k ready (x ∷ y ∷ []) c e g';
        typed = λ i v o got_o got. args_typed t u m source f k ready n call calls ℕ an_int standing (a ∷ b ∷ []) helps.helper.params 0 (x ∷ y ∷ []) c (helps.fit a b) hold i v o got_o got;
      }))
      (λ v s2 w b'. behind_call t u m source f k ready n call calls type.Int helps.helper.result a a r2 q r3 c e v s2 w helps.result fresh (omega arith) next_is
      (since_works t u m source f k ready a a a c e (omega arith) (omega arith) works) b' rest)))
      (λ v s1 d w. demanded t u m source f k ready n type.Int a a q c v s1 d w)
    where
      room : 0 + length (a ∷ b ∷ []) ≤ outgoing t u m source f k ready
      room = omega arith

      hold : Hold t u m source f k ready ℕ an_int standing (a ∷ b ∷ []) 0 (x ∷ y ∷ []) c
      hold = ((left, as_word t.word type.Int x refl small_x, small_x), ((right, as_word t.word type.Int y refl small_y, small_y), tt))

      home' : One t.word m (routine_in t u k) (code.store_home b (word_size t u m source f k ready * 1)) r1 r2
      home' = subst (λ z. One t.word m (routine_in t u k) (code.store_home b z) r1 r2) (let z : word_size t u m source f k ready ≡ word_size t u m source f k ready * 1 = omega arith in z) home

  -- what a compound assignment computes
  combined_does : (o : Operation) (of by : CType) (spot : Spot) (a b l x y : ℕ) (p q : Place) (c : Point) (s : State) → Operation_fits o → scalar_count f ≤ a → a < b → Inside t u k c → At t u p c
      → Stands_for t u m source f k ready s c → c.view.cells (Temp a) ≡ Some x → c.view.cells (Temp b) ≡ Some y → x < 2 ^ t.word → y < 2 ^ t.word
      → Code (combined (word_size t u m source f k ready) o of by a b l) p q
      → Does t u n c (Has_word t u m source f k ready type.Int a a q c) (source_combined (world t u m source f k ready n call) o of by spot x y s)
  combined_does (operation.Helper g) of by spot a b l x y p q c s fits fresh lt i h rep left right small_x small_y ops = helper_does spot g a b l x y p q c s fits fresh i h rep left right small_x small_y ops
  combined_does (operation.Operator o) of by spot a b l x y p q c s fits fresh lt i h rep left right small_x small_y ops = by_outcome (calculate t.word (computed_in o of by) o x y) refl
    where
      by_outcome : (r : Outcome) → calculate t.word (computed_in o of by) o x y ≡ r → Does t u n c (Has_word t u m source f k ready type.Int a a q c) (outcome r spot s)
      by_outcome (undefined what) e = any [] _
      by_outcome (gives z) e =
          let g = calculate_gives t.word (computed_in o of by) o x y z ready.target.size e in
          let to = computed_gets t u m source f k ready p q c i h o (computed_in o of by) a b x y z b (λ e. omega (arith, e, lt)) (omega arith) left right e ops in
          came t u n c to.point (Has_word t u m source f k ready type.Int a a q c) z s to.comes to.fact.works.printed (record {
            inside = to.inside;
            at = to.at;
            rep = rep_works t u m source f k ready a b c to.point fresh (omega (arith, fresh, lt)) to.fact.works s rep;
            since = since_works t u m source f k ready a a b c to.point (omega arith) (omega (arith, lt)) to.fact.works;
            value = (to.fact.temp, as_word t.word type.Int z refl g.small, g.small);
          })

  -- the value is read before the right side is evaluated
  pub compound_does : (of left right : CType) (spot : Spot) (o : Operation) (x : State → Part Lvalue) (p : Designated) (e : State → Part Result) (v : Value) → Operation_fits o → Place_fresh t u m source f k ready p → IsFresh v
      → PlaceDoes t u m source f k ready n left x p → ValueDoes t u m source f k ready n right e v → alike of left ≡ true
      → ValueDoes t u m source f k ready n of (λ s. then_do (x s) (λ y s1. then_do (read y s1) (λ v s2. then_do (then_do (e s2) demand) (λ w s3.
      then_do (source_combined (world t u m source f k ready n call) o left right spot v w s3) (write (world t u m source f k ready n call) y)))))
      (compound (word_size t u m source f k ready) o left p right v)
  compound_does of left right spot o x p e val fits fresh_p fresh_v does_p does_v same first label b q c s fresh ops i at rep =
      let a = (opened p).result first in
      let v = first + (opened p).temps in
      let later = v + 2 in
      let spare = later + val.temps in
      let l = label + operation_labels o in
      let w = val.result later in
      let end = narrowed left v spare ++ (put_into (storage_in p) a v (spare + 1) ++ settled p a v) in
      let combine = combined (word_size t u m source f k ready) o left right v w label in
      let result = settled_in p a v in
      let Whole = Has t u m source f k ready of result first q c in
      place_then t u m source f k ready n left p x does_p (got_from (storage_in p) v a (v + 1) ++ (val.ops later (l + (opened p).labels) ++ (combine ++ end))) Whole
      (λ y s1. then_do (read y s1) (λ v s2. then_do (then_do (e s2) demand) (λ w s3. then_do (source_combined (world t u m source f k ready n call) o left right spot v w s3) (write (world t u m source f k ready n call) y))))
      first l b q c s fresh ops i at rep
      (λ r d y s1 rest g.
      let parts = stands_split t u m k (got_from (storage_in p) v a (v + 1)) (val.ops later (l + (opened p).labels) ++ (combine ++ end)) r q rest in
      does_then t u n d (Has_word t u m source f k ready left v v parts.0 d) Whole (read y s1)
      (λ v s2. then_do (then_do (e s2) demand) (λ w s3. then_do (source_combined (world t u m source f k ready n call) o left right spot v w s3) (write (world t u m source f k ready n call) y)))
      (read_does t u m source f k ready n left p a first r parts.0 c y s1 d v v (v + 1) (omega (arith, fresh)) (omega arith) (next_spared t u m source f k ready n p v) g parts.1)
      (λ z s2 d2 h.
      let old = h.value in
      value_then t u m source f k ready n right val e does_v (combine ++ end) Whole (λ w s3. then_do (source_combined (world t u m source f k ready n call) o left right spot z w s3) (write (world t u m source f k ready n call) y))
      later (l + (opened p).labels) parts.0 q d2 s2 (omega (arith, fresh)) parts.2 h.inside h.at h.rep
      (λ r3 d3 z3 s3 rest3 h3.
      let operand = h3.value in
      let from = fresh_v.from later in
      let split = stands_split t u m k combine end r3 q rest3 in
      does_then t u n d3 (Has_word t u m source f k ready type.Int v v split.0 d3) Whole (source_combined (world t u m source f k ready n call) o left right spot z z3 s3) (write (world t u m source f k ready n call) y)
      (combined_does o left right spot v w label z z3 r3 split.0 d3 s3 fits (omega (arith, fresh)) (omega (arith, from)) h3.inside h3.at h3.rep
      (h3.since.temps v (omega (arith, fresh)) (omega arith) ∙ old.0) operand.0 old.2 operand.2 split.1)
      (λ z4 s4 d4 h4.
      let new = h4.value in
      narrow_finish t u m source f k ready n call of left p y first v spare (spare + 1) z4 r q c d d4 s1 fresh fresh_p (omega arith) (omega arith) (omega arith) same g
      (since_trans t u m source f k ready v v d d2 d4 (omega arith) h.since (since_trans t u m source f k ready v v d2 d3 d4 (omega arith) (since_trans t u m source f k ready v later d2 d2 d3 (omega arith) (since_refl t u m source f k ready v d2) h3.since) h4.since)) split.0 s4 h4.inside h4.at h4.rep new.0 new.2 split.2))))
