-- `switch` (C11 6.8.4.2).
use Rattle.std.proofs.Common.{◌≡◌, ℕ, ◌+◌, ◌≤◌, List, [], ◌∷◌, ◌++◌, map, Option, Some, None, refl, sym, ◌∙◌, subst, arith}
use Rattle.behaviour.specs.Steps.{Comes}
use Rattle.behaviour.proofs.Stepping.{comes_trans}
use Rattle.md_shapes.specs.Shapes.{Frame as Fixed}
use Rattle.c_tree.specs.declared.types.CType.{CType}
use Rattle.c_tree.specs.declared.typed.Object.{Object as Thing}
use Rattle.c_tree.specs.declared.typed.Function.{Function}
use Rattle.c_tree.specs.declared.typed.Typed.{Typed}
use Rattle.c_meaning.specs.Parts.{State, Part, then_do, demand, Value as Result}
use Rattle.c_meaning.specs.Statements.{Flow, next, breaks, continues, returns, Does as SourceDoes, Execution, sequence, all_unset, from_label, or_default, left}
use Rattle.temp_machine.specs.Routines.{Image, Target}
use Rattle.temp_machine.specs.Live.{Place}
use Rattle.temp_machine.specs.Small.{Point}
use Rattle.naive_code.specs.Operations.{Op, Close, Falls, Jumps}
use Rattle.naive_code.specs.Storage.{scalar_count}
use Rattle.naive_code.specs.Expressions.{Value, Site}
use Rattle.naive_code.specs.Statements.{Around, Steps, valued, dispatched, otherwise, switch_steps}
use Rattle.naive_run.specs.Standing.{One}
use Rattle.naive_step.proofs.Doing.{M, Does, does_then, does_quietly, there}
use Rattle.naive_step.proofs.Making.{Call, Inside, At, routine_in}
use Rattle.naive_step.proofs.Ends.{begin_of}
use Rattle.naive_assigned.proofs.Ready.{Ready}
use Rattle.naive_assigned.proofs.Working.{rep_works}
use Rattle.naive_values.proofs.Getting.{Ops, stands_split}
use Rattle.naive_values.proofs.Asked.{IsFresh, Stands_for, Has_word, block_at, ValueDoes, needed_does, since_works}
use Rattle.naive_tests.proofs.Tests.{closes_at, works_opens}
use Rattle.naive_tests.proofs.Choosing.{falls_to, jumps_to}
use Rattle.naive_statements.proofs.Asked.{After, Way_from, past_since, after_since, with_way, StepsDo, past_opens}
use Rattle.naive_statements.proofs.Blocks.{rep_all_unset}
use Rattle.naive_statements.proofs.Dispatching.{goes_to, dispatches}
use Rattle.naive_switch.proofs.Labels.{found_case, chosen_found, or_behind, otherwise_found}
use Rattle.naive_switch.proofs.Entering.{EntersAt, All_execute, Enters_from, all_of, list_enters}

module _ (t : Target) (u : Image) (m : Fixed) (source : Typed) (f : Function) (k : Call) (ready : Ready t u m source f k) (n : ℕ) where
  abbrev Code : List Op → Place → Place → Type 0
  Code = Ops t u m source f k ready

  abbrev Steps_do : SourceDoes → Steps → Type 0
  Steps_do = StepsDo t u m source f k ready n

  abbrev Closes_by_fall : ℕ → Place → Place → Type 0
  Closes_by_fall label = One t.word m (routine_in t u k) (Close Falls label)

  abbrev Closes_by_jump : (to label : ℕ) → Place → Place → Type 0
  Closes_by_jump to label = One t.word m (routine_in t u k) (Close (Jumps to) label)

  abbrev label_at : ℕ → Place
  label_at l = begin_of (block_at t u m source f k ready l)

  module _ (a : Around) (label : ℕ) where
    -- a break leads behind the switch
    abbrev within : Around
    within = record { breaks = label; continues = a.continues }

    -- behind the statements of a switch
    is_left : (r z q : Place) (c d w : Point) (fl : Flow) (s : State) → Closes_by_fall label r z → q ≡ z → Way_from t u m source f k ready c d → After t u m source f k ready within r d fl s w
        → Does t u n w (After t u m source f k ready a q c) (left fl s)
    is_left r z q c d w next s one last way h =
        past_opens t u m source f k ready n a q r c w s (past_since t u m source f k ready r c d s w way.above h) (falls_to t u m source f k ready n label r z q w h.inside h.at one last)
    is_left r z q c d w breaks s one last way h =
        there t u n w (After t u m source f k ready a q c) next s (record {
          inside = h.inside;
          at = subst (λ y. At t u y w) (sym (last ∙ closes_at t u m source f k ready n Falls label r z one)) h.at;
          rep = h.rep;
          above = λ y from. h.above y from ∙ way.above y from;
        })
    is_left r z q c d w continues s one last way h = there t u n w (After t u m source f k ready a q c) continues s (after_since t u m source f k ready a q c d continues s w way h)
    is_left r z q c d w (returns v) s one last way h = there t u n w (After t u m source f k ready a q c) (returns v) s (after_since t u m source f k ready a q c d (returns v) s w way h)

    module _ (site : Site) (locals : List Thing) (p : Steps) (first base : ℕ) (r0 r1 r2 r3 q : Place) (fresh : scalar_count f ≤ first)
        (jump : Closes_by_jump (otherwise site locals base label p.cases) (label + 1) r0 r1) (body : Code (p.ops within first base) r1 r2) (fall : Closes_by_fall label r2 r3) (last : q ≡ r3) where
      -- the statements from one on
      runs : (c e : Point) (s : State) (es : List Execution) (j : ℕ) → EntersAt t u m source f k ready n (sequence es) p j → Way_from t u m source f k ready c e → Inside t u k e → At t u (label_at (base + j)) e
          → Stands_for t u m source f k ready s e → Does t u n e (After t u m source f k ready a q c) (then_do (sequence es s) left)
      runs c e s es j h way i at rep =
          does_then t u n e (After t u m source f k ready within r2 e) (After t u m source f k ready a q c) (sequence es s) left (h within first base r1 r2 e s fresh body i at rep)
          (λ fl s1 w g. is_left r2 r3 q c e w fl s1 fall last way g)

      -- where no case has the value: the default's, or none
      runs_default : (c e : Point) (s : State) (o : Option ℕ) (es : Option (List Execution)) → otherwise site locals base label p.cases ≡ or_behind base label o → Enters_from t u m source f k ready n o es p
          → Way_from t u m source f k ready c e → Inside t u k e → At t u r0 e → Stands_for t u m source f k ready s e → Does t u n e (After t u m source f k ready a q c) (then_do (or_default None es s) left)
      runs_default c e s o es leads h way i at rep =
          let to = jumps_to t u m source f k ready n (otherwise site locals base label p.cases) (label + 1) r0 r1 (label_at (otherwise site locals base label p.cases)) e i at jump refl in
          let rep' = rep_works t u m source f k ready first first e to.point fresh fresh (works_opens t u m source f k ready n first first e to.point to.fact) s rep in
          does_quietly t u n e to.point (After t u m source f k ready a q c) (then_do (or_default None es s) left) to.comes to.fact.printed
          (by_case o es h to.point (record { comes = comes_trans (M t u) c e to.point way.comes to.comes; above = λ y from. to.fact.bytes y ∙ way.above y from }) to.inside
          (subst (λ l. At t u (label_at l) to.point) leads to.at) rep')
        where
          by_case : (o : Option ℕ) (es : Option (List Execution)) → Enters_from t u m source f k ready n o es p → (w : Point) → Way_from t u m source f k ready c w → Inside t u k w → At t u (label_at (or_behind base label o)) w
              → Stands_for t u m source f k ready s w → Does t u n w (After t u m source f k ready a q c) (then_do (or_default None es s) left)
          by_case None None h w way i at rep =
              there t u n w (After t u m source f k ready a q c) next s
              (record { inside = i; at = subst (λ y. At t u y w) (sym (last ∙ closes_at t u m source f k ready n Falls label r2 r3 fall)) at; rep = rep; above = way.above })
          by_case None (Some es) h w way i at rep = absurd h
          by_case (Some j) None h w way i at rep = absurd h
          by_case (Some j) (Some es) h w way i at rep = runs c w s es j h way i at rep

      runs_case : (c e : Point) (s : State) (o d : Option ℕ) (es ds : Option (List Execution)) → Enters_from t u m source f k ready n o es p → otherwise site locals base label p.cases ≡ or_behind base label d
          → Enters_from t u m source f k ready n d ds p → Way_from t u m source f k ready c e → Inside t u k e → At t u (goes_to t u m source f k ready n site locals base r0 o) e → Stands_for t u m source f k ready s e
          → Does t u n e (After t u m source f k ready a q c) (then_do (or_default es ds s) left)
      runs_case c e s None d None ds h leads g way i at rep = runs_default c e s d ds leads g way i at rep
      runs_case c e s None d (Some es) ds h leads g way i at rep = absurd h
      runs_case c e s (Some j) d None ds h leads g way i at rep = absurd h
      runs_case c e s (Some j) d (Some es) ds h leads g way i at rep = runs c e s es j h way i at rep

  module _ (of : CType) (x : State → Part Result) (v : Value) (fresh_v : IsFresh v) (does_v : ValueDoes t u m source f k ready n of x v) (site : Site) (locals : List Thing) (X : Type 0) (ex : X → Execution) (st : X → Steps) (xs : List X)
      (all : All_execute t u m source f k ready n X ex st xs) (ys : List ℕ) where
    abbrev body : Steps
    body = all_of t u m source f k ready n X ex st xs

    abbrev count : ℕ
    count = valued site locals body.cases

    abbrev chooses : ℕ → SourceDoes
    chooses w s = then_do (or_default (from_label (Some w) (map ex xs)) (from_label None (map ex xs)) (all_unset ys s)) left

    module _ (a : Around) (first label : ℕ) (q : Place) (c : Point) (fresh : scalar_count f ≤ first) where
      abbrev temp : ℕ
      temp = first + v.temps

      abbrev base : ℕ
      base = label + 2 + count + v.labels

      abbrev compares : List Op
      compares = dispatched site locals (v.result first) base temp (label + 2) body.cases

      abbrev statements : List Op
      statements = body.ops (record { breaks = label; continues = a.continues }) (temp + count) base

      abbrev ends : List Op
      ends = Close (Jumps (otherwise site locals base label body.cases)) (label + 1) ∷ (statements ++ (Close Falls label ∷ []))

      abbrev Whole : Flow → State → Point → Type 0
      Whole = After t u m source f k ready a q c

      -- where the comparisons lead
      by_case : (w : ℕ) (s : State) (r0 : Place) (e : Point) → Code ends r0 q → Way_from t u m source f k ready c e → Inside t u k e
          → At t u (goes_to t u m source f k ready n site locals base r0 (found_case (Some w) body.cases)) e → Stands_for t u m source f k ready (all_unset ys s) e → Does t u n e Whole (chooses w s)
      by_case w s r0 e (r1, jump, behind) way i at rep =
          let parts = stands_split t u m k statements (Close Falls label ∷ []) r1 q behind in
          by_fall parts.0 parts.1 parts.2
        where
          by_fall : (r2 : Place) → Code statements r1 r2 → Code (Close Falls label ∷ []) r2 q → Does t u n e Whole (chooses w s)
          by_fall r2 inner (r3, fall, last) =
              runs_case a label site locals body (temp + count) base r0 r1 r2 r3 q (omega (arith, fresh)) jump inner fall last c e (all_unset ys s) (found_case (Some w) body.cases) (found_case None body.cases)
              (from_label (Some w) (map ex xs)) (from_label None (map ex xs)) (list_enters t u m source f k ready n X ex st (Some w) xs all) (otherwise_found site locals base label body.cases)
              (list_enters t u m source f k ready n X ex st None xs all) way i at rep

      by_value : (w : ℕ) (s : State) (d : Point) (r : Place) → Code (compares ++ ends) r q → Has_word t u m source f k ready of (v.result first) first r c w s d → Comes (M t u) c d → Does t u n d Whole (chooses w s)
      by_value w s d r rest h way =
          let value = h.value in
          let parts = stands_split t u m k compares ends r q rest in
          let to = dispatches t u m source f k ready n site locals body.cases (v.result first) base temp (label + 2) w r parts.0 d (fresh_v.to first) h.inside h.at value.0 parts.1 in
          let later : scalar_count f ≤ temp = omega (arith, fresh) in
          let since = since_works t u m source f k ready temp temp temp d to.point (omega arith) (omega arith) to.fact in
          does_quietly t u n d to.point Whole (chooses w s) to.comes to.fact.printed
          (by_case w s parts.0 to.point parts.2 (record { comes = comes_trans (M t u) c d to.point way to.comes; above = λ y from. since.above y from ∙ h.since.above y from }) to.inside
          (subst (λ o. At t u (goes_to t u m source f k ready n site locals base parts.0 o) to.point) (chosen_found w body.cases) to.at)
          (rep_all_unset t u m source f k ready ys s to.point (rep_works t u m source f k ready temp temp d to.point later later to.fact s h.rep)))

    pub switch_does : Steps_do (λ s. then_do (then_do (x s) demand) chooses) (switch_steps site locals v body)
    switch_does a first label b q c s fresh ops i at rep =
        let parts = stands_split t u m k (v.ops first (label + 2 + count)) (compares a first label q c fresh ++ ends a first label q c fresh) b q ops in
        does_then t u n c (λ w s1 d. Has_word t u m source f k ready of (v.result first) first parts.0 c w s1 d × Comes (M t u) c d) (After t u m source f k ready a q c) (then_do (x s) demand) chooses
        (with_way t u m source f k ready n c (Has_word t u m source f k ready of (v.result first) first parts.0 c) (then_do (x s) demand)
        (needed_does t u m source f k ready n of (v.result first) first parts.0 c (x s) (does_v first (label + 2 + count) b parts.0 c s fresh parts.1 i at rep)))
        (λ w s1 d g. by_value a first label q c fresh w s1 d parts.0 parts.2 g.0 g.1)
