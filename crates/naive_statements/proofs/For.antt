-- `for` (C11 6.8.5.3).
use Rattle.std.proofs.Common.{◌≡◌, ℕ, suc, ◌+◌, ◌≤◌, List, [], ◌∷◌, ◌++◌, sym, ◌∙◌, subst, arith, false}
use Rattle.behaviour.specs.Steps.{Comes}
use Rattle.behaviour.proofs.Stepping.{leads_comes, comes_trans}
use Rattle.md_shapes.specs.Shapes.{Frame as Fixed}
use Rattle.c_tree.specs.declared.typed.Object.{Object as Thing}
use Rattle.c_tree.specs.declared.typed.Function.{Function}
use Rattle.c_tree.specs.declared.typed.Typed.{Typed}
use Rattle.c_meaning.specs.Parts.{State, Part, then_do, demand, Value as Result}
use Rattle.c_meaning.specs.Statements.{Flow, next, breaks, continues, returns, Does as SourceDoes, nothing, turns}
use Rattle.temp_machine.specs.Routines.{Image, Target}
use Rattle.temp_machine.specs.Live.{Place}
use Rattle.temp_machine.specs.Small.{Point}
use Rattle.naive_code.specs.Operations.{Op, Close, Falls, Jumps}
use Rattle.naive_code.specs.Storage.{scalar_count}
use Rattle.c_tree.specs.declared.types.CType.{CType}
use Rattle.naive_code.specs.Expressions.{Value, Test, Site}
use Rattle.naive_code.specs.Statements.{Around, Steps, for_steps, dropped}
use Rattle.naive_run.specs.Standing.{One}
use Rattle.naive_step.proofs.Doing.{M, Does, does_quietly, does_then, fewer, there}
use Rattle.naive_step.proofs.Making.{Call, Inside, At, routine_in}
use Rattle.naive_step.proofs.Ends.{begin_of, close_falls, found_at, closed_at}
use Rattle.naive_assigned.proofs.Ready.{Ready}
use Rattle.naive_rep.proofs.Rep.{rep_like}
use Rattle.naive_values.proofs.Getting.{Ops, stands_split}
use Rattle.naive_values.proofs.Asked.{Stands_for, Has, block_at, ValueDoes}
use Rattle.naive_tests.proofs.Tests.{closes_at}
use Rattle.naive_statements.proofs.Asked.{Way_from, Past, After, with_way, StepsDo}
use Rattle.naive_statements.proofs.Loops.{at_once, Tests_false, Behind, turns_do, jumps_back, broken, returned_from}

module _ (t : Target) (u : Image) (m : Fixed) (source : Typed) (f : Function) (k : Call) (ready : Ready t u m source f k) (n : ℕ) where
  abbrev Code : List Op → Place → Place → Type 0
  Code = Ops t u m source f k ready

  abbrev Steps_do : SourceDoes → Steps → Type 0
  Steps_do = StepsDo t u m source f k ready n

  -- what stands before a loop or at the end of a turn is always run to its end
  abbrev pub PastDo : SourceDoes → Steps → Type 0
  PastDo e p =
      (a : Around) (first label : ℕ) (b q : Place) (c : Point) (s : State) → scalar_count f ≤ first → Code (p.ops a first label) b q → Inside t u k c → At t u b c
      → Stands_for t u m source f k ready s c → Does t u n c (λ fl s d. Past t u m source f k ready q c s d) (e s)

  pub dropped_past : (of : CType) (x : State → Part Result) (v : Value) → ValueDoes t u m source f k ready n of x v → PastDo (λ s. then_do (x s) (λ r. nothing)) (dropped v)
  dropped_past of x v does a first label b q c s fresh ops i at rep =
      does_then t u n c (Has t u m source f k ready of (v.result first) first q c) (λ fl s d. Past t u m source f k ready q c s d) (x s) (λ r. nothing) (does first label b q c s fresh ops i at rep)
      (λ r s1 d h. there t u n d (λ fl s d. Past t u m source f k ready q c s d) next s1 (record { inside = h.inside; at = h.at; rep = h.rep; above = h.since.above }))

  module _ (P : Result → Type 0) (x : State → Part Result) (e : Test) (test : Tests_false t u m source f k ready n P x e) (body : SourceDoes) (p : Steps) (does_body : Steps_do body p)
      (begin step : SourceDoes) (begins steps : Steps) (does_begin : PastDo begin begins) (does_step : PastDo step steps) where
    module _ (a : Around) (first label : ℕ) (q r0 r1 r2 r3 r4 : Place) (c : Point) (fresh : scalar_count f ≤ first) (end : q ≡ begin_of (block_at t u m source f k ready label))
        (test_ops : Code (e.ops false label (label + 2) (first + begins.temps) (label + 4 + begins.labels)) (begin_of (block_at t u m source f k ready (label + 1))) r1)
        (body_ops : Code (p.ops (record { breaks = label; continues = label + 3 }) (first + begins.temps + e.temps) (label + 4 + begins.labels + e.labels)) r1 r2)
        (fall : One t.word m (routine_in t u k) (Close Falls (label + 3)) r2 r3)
        (step_ops : Code (steps.ops a (first + begins.temps + e.temps + p.temps) (label + 4 + begins.labels + e.labels + p.labels)) r3 r4)
        (jump : One t.word m (routine_in t u k) (Close (Jumps (label + 1)) label) r4 q) where
      abbrev around : Around
      around = record { breaks = label; continues = label + 3 }

      first_e : scalar_count f ≤ first + begins.temps
      first_e = omega (arith, fresh)

      first_p : scalar_count f ≤ first + begins.temps + e.temps
      first_p = omega (arith, fresh)

      abbrev Is_behind : Type 0
      Is_behind = Behind t u m source f k ready n P x e test body p does_body step a around (first + begins.temps) label (label + 2) (first + begins.temps + e.temps) (label + 4 + begins.labels) (label + 4 + begins.labels + e.labels)
          q r1 r2 c first_e first_p end test_ops body_ops

      abbrev Whole : Flow → State → Point → Type 0
      Whole = After t u m source f k ready a q c

      abbrev Turns : ℕ → SourceDoes
      Turns left = turns left (λ s. then_do (x s) demand) body step

      -- the end of a turn, and the jump back
      ends_turn : (left j : ℕ) → ((j : ℕ) → j ≤ left → j ≤ n → (d : Point) (s : State) → Inside t u k d → At t u (begin_of (block_at t u m source f k ready (label + 1))) d → Stands_for t u m source f k ready s d
          → Way_from t u m source f k ready c d → Does t u j d Whole (Turns left s)) → j ≤ suc left → j ≤ n → (g : Point) (s : State) → Inside t u k g → At t u r3 g → Stands_for t u m source f k ready s g
          → Way_from t u m source f k ready c g → Does t u j g Whole (then_do (step s) (λ _. Turns left))
      ends_turn left j ih le small g s i at rep way =
          does_then t u j g (λ fl s1 w. Past t u m source f k ready r4 g s1 w × Comes (M t u) g w) Whole (step s) (λ _. Turns left)
          (fewer t u n j g (λ fl s1 w. Past t u m source f k ready r4 g s1 w × Comes (M t u) g w) (step s) small
          (with_way t u m source f k ready n g (λ fl s1 w. Past t u m source f k ready r4 g s1 w) (step s)
          (does_step a (first + begins.temps + e.temps + p.temps) (label + 4 + begins.labels + e.labels + p.labels) r3 r4 g s (omega (arith, fresh)) step_ops i at rep)))
          (λ fl s1 w z.
          jumps_back t u m source f k ready n P x e test body p does_body step a around (first + begins.temps) label (label + 2) (first + begins.temps + e.temps) (label + 4 + begins.labels) (label + 4 + begins.labels + e.labels)
          q r1 r2 c first_e first_p end test_ops body_ops label r4 q jump left j ih le small w s1
          (record { inside = z.0.inside; at = z.0.at; rep = z.0.rep; above = λ b from. z.0.above b from ∙ way.above b from }) (comes_trans (M t u) c g w way.comes z.1))

      for_behind : Is_behind
      for_behind left j ih le small d g next s way h on =
          let o = close_falls t u m k ready.fits (label + 3) r2 r3 g h.inside h.at fall in
          let at3 = subst (λ z. At t u z o.point) (sym (closed_at t u m k ready.fits Falls (label + 3) r2 r3 fall)) o.at in
          at_once (does_quietly t u j g o.point Whole (then_do (step s) (λ _. Turns left)) (leads_comes (M t u) g o.point o.leads) o.fact.printed
          (ends_turn left j ih le small o.point s o.inside at3 (rep_like t u k source f s g o.point (o.fact.regs t.sp) o.fact.input (λ y i is of kind. o.fact.temps i) o.fact.bytes h.rep)
          (record { comes = comes_trans (M t u) c g o.point (comes_trans (M t u) c d g way.comes on) (leads_comes (M t u) g o.point o.leads); above = λ b from. o.fact.bytes b ∙ (h.above b from ∙ way.above b from) })))
      for_behind left j ih le small d g continues s way h on =
          at_once (ends_turn left j ih le small g s h.0.inside (subst (λ z. At t u z g) (sym (closes_at t u m source f k ready n Falls (label + 3) r2 r3 fall)) h.0.at) h.0.rep
          (record { comes = comes_trans (M t u) c d g way.comes on; above = λ b from. h.0.above b from ∙ way.above b from }))
      for_behind left j ih le small d g breaks s way h on =
          at_once (broken t u m source f k ready n P x e test body p does_body step a around (first + begins.temps) label (label + 2) (first + begins.temps + e.temps) (label + 4 + begins.labels) (label + 4 + begins.labels + e.labels)
          q r1 r2 c first_e first_p end test_ops body_ops j d g s way h)
      for_behind left j ih le small d g (returns v) s way h on =
          at_once (returned_from t u m source f k ready n P x e test body p does_body step a around (first + begins.temps) label (label + 2) (first + begins.temps + e.temps) (label + 4 + begins.labels) (label + 4 + begins.labels + e.labels)
          q r1 r2 c first_e first_p end test_ops body_ops j d g v s way h)

      -- behind what stands before the loop
      enters : (most : ℕ) → n ≤ most → (b : Place) (d : Point) (s : State) → One t.word m (routine_in t u k) (Close Falls (label + 1)) b r0 → Past t u m source f k ready b c s d → Comes (M t u) c d → Does t u n d Whole (Turns most s)
      enters most le b d s enter h way =
          let o = close_falls t u m k ready.fits (label + 1) b r0 d h.inside h.at enter in
          let found : suc b.block ≡ block_at t u m source f k ready (label + 1) = sym (found_at t u m k ready.fits Falls (label + 1) b r0 enter) in
          does_quietly t u n d o.point Whole (Turns most s) (leads_comes (M t u) d o.point o.leads) o.fact.printed
          (turns_do t u m source f k ready n P x e test body p does_body step a around (first + begins.temps) label (label + 2) (first + begins.temps + e.temps) (label + 4 + begins.labels) (label + 4 + begins.labels + e.labels)
          q r1 r2 c first_e first_p end test_ops body_ops for_behind most n le (omega arith) o.point s o.inside (subst (λ z. At t u (begin_of z) o.point) found o.at)
          (rep_like t u k source f s d o.point (o.fact.regs t.sp) o.fact.input (λ y j is of kind. o.fact.temps j) o.fact.bytes h.rep)
          (record { comes = comes_trans (M t u) c d o.point way (leads_comes (M t u) d o.point o.leads); above = λ y from. o.fact.bytes y ∙ h.above y from }))

    pub for_does : (site : Site) (locals : List Thing) (most : ℕ) → n ≤ most → Steps_do (λ s. then_do (begin s) (λ _. turns most (λ s. then_do (x s) demand) body step)) (for_steps site locals begins e steps p)
    for_does site locals most le a first label b q c s fresh ops i at rep =
        let test_code = e.ops false label (label + 2) (first + begins.temps) (label + 4 + begins.labels) in
        let body_code = p.ops (record { breaks = label; continues = label + 3 }) (first + begins.temps + e.temps) (label + 4 + begins.labels + e.labels) in
        let step_code = steps.ops a (first + begins.temps + e.temps + p.temps) (label + 4 + begins.labels + e.labels + p.labels) in
        let turn = test_code ++ (body_code ++ (Close Falls (label + 3) ∷ (step_code ++ (Close (Jumps (label + 1)) label ∷ [])))) in
        let parts = stands_split t u m k (begins.ops a first (label + 4)) (Close Falls (label + 1) ∷ turn) b q ops in
        does_then t u n c (λ fl s1 d. Past t u m source f k ready parts.0 c s1 d × Comes (M t u) c d) (After t u m source f k ready a q c) (begin s) (λ _. turns most (λ s. then_do (x s) demand) body step)
        (with_way t u m source f k ready n c (λ fl s1 d. Past t u m source f k ready parts.0 c s1 d) (begin s) (does_begin a first (label + 4) b parts.0 c s fresh parts.1 i at rep))
        (λ fl s1 d h. by_turn parts.0 s1 d h.0 h.1 parts.2)
      where
        by_turn : (r : Place) (s1 : State) (d : Point) → Past t u m source f k ready r c s1 d → Comes (M t u) c d
            → Code (Close Falls (label + 1) ∷ (e.ops false label (label + 2) (first + begins.temps) (label + 4 + begins.labels)
            ++ (p.ops (record { breaks = label; continues = label + 3 }) (first + begins.temps + e.temps) (label + 4 + begins.labels + e.labels)
            ++ (Close Falls (label + 3) ∷ (steps.ops a (first + begins.temps + e.temps + p.temps) (label + 4 + begins.labels + e.labels + p.labels) ++ (Close (Jumps (label + 1)) label ∷ [])))))) r q
            → Does t u n d (After t u m source f k ready a q c) (turns most (λ s. then_do (x s) demand) body step s1)
        by_turn r s1 d h way (r0, enter, rest) =
            let test_code = e.ops false label (label + 2) (first + begins.temps) (label + 4 + begins.labels) in
            let body_code = p.ops (record { breaks = label; continues = label + 3 }) (first + begins.temps + e.temps) (label + 4 + begins.labels + e.labels) in
            let step_code = steps.ops a (first + begins.temps + e.temps + p.temps) (label + 4 + begins.labels + e.labels + p.labels) in
            let one = stands_split t u m k test_code (body_code ++ (Close Falls (label + 3) ∷ (step_code ++ (Close (Jumps (label + 1)) label ∷ [])))) r0 q rest in
            let two = stands_split t u m k body_code (Close Falls (label + 3) ∷ (step_code ++ (Close (Jumps (label + 1)) label ∷ []))) one.0 q one.2 in
            by_end r0 one.0 two.0 enter (subst (λ z. Code test_code z one.0) (closes_at t u m source f k ready n Falls (label + 1) r r0 enter) one.1) two.1 two.2
          where
            by_end : (r0 r1 r2 : Place) → One t.word m (routine_in t u k) (Close Falls (label + 1)) r r0
                → Code (e.ops false label (label + 2) (first + begins.temps) (label + 4 + begins.labels)) (begin_of (block_at t u m source f k ready (label + 1))) r1
                → Code (p.ops (record { breaks = label; continues = label + 3 }) (first + begins.temps + e.temps) (label + 4 + begins.labels + e.labels)) r1 r2
                → Code (Close Falls (label + 3) ∷ (steps.ops a (first + begins.temps + e.temps + p.temps) (label + 4 + begins.labels + e.labels + p.labels) ++ (Close (Jumps (label + 1)) label ∷ []))) r2 q
                → Does t u n d (After t u m source f k ready a q c) (turns most (λ s. then_do (x s) demand) body step s1)
            by_end r0 r1 r2 enter test_ops body_ops (r3, fall, rest) =
                let last = stands_split t u m k (steps.ops a (first + begins.temps + e.temps + p.temps) (label + 4 + begins.labels + e.labels + p.labels)) (Close (Jumps (label + 1)) label ∷ []) r3 q rest in
                by_jump r3 last.0 fall last.1 last.2
              where
                by_jump : (r3 r4 : Place) → One t.word m (routine_in t u k) (Close Falls (label + 3)) r2 r3
                    → Code (steps.ops a (first + begins.temps + e.temps + p.temps) (label + 4 + begins.labels + e.labels + p.labels)) r3 r4 → Code (Close (Jumps (label + 1)) label ∷ []) r4 q
                    → Does t u n d (After t u m source f k ready a q c) (turns most (λ s. then_do (x s) demand) body step s1)
                by_jump r3 r4 fall step_ops (r5, jump, same) =
                    let jump' : One t.word m (routine_in t u k) (Close (Jumps (label + 1)) label) r4 q = subst (λ z. One t.word m (routine_in t u k) (Close (Jumps (label + 1)) label) r4 z) (sym same) jump in
                    enters a first label q r0 r1 r2 r3 r4 c fresh (closes_at t u m source f k ready n (Jumps (label + 1)) label r4 q jump') test_ops body_ops fall step_ops jump' most le r d s1 enter h way
