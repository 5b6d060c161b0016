-- `do` (C11 6.8.5.2).
use Rattle.std.proofs.Common.{◌≡◌, ℕ, zero, suc, ◌+◌, ◌-◌, ◌≤◌, List, [], ◌∷◌, sym, ◌∙◌, subst, arith, true}
use Rattle.behaviour.specs.Steps.{Comes}
use Rattle.behaviour.proofs.Stepping.{leads_comes, comes_trans}
use Rattle.md_shapes.specs.Shapes.{Frame as Fixed}
use Rattle.c_tree.specs.declared.typed.Object.{Object as Thing}
use Rattle.c_tree.specs.declared.typed.Function.{Function}
use Rattle.c_tree.specs.declared.typed.Typed.{Typed}
use Rattle.c_meaning.specs.Parts.{State, Part, then_do, demand, Value as Result, word}
use Rattle.c_meaning.specs.Expressions.{at_zero}
use Rattle.c_meaning.specs.Statements.{Flow, next, breaks, continues, returns, Does as SourceDoes, nothing, turned, do_turns}
use Rattle.temp_machine.specs.Routines.{Image, Target}
use Rattle.temp_machine.specs.Live.{Place}
use Rattle.temp_machine.specs.Small.{Point}
use Rattle.naive_code.specs.Operations.{Op, Close, Falls}
use Rattle.naive_code.specs.Storage.{scalar_count}
use Rattle.naive_code.specs.Expressions.{Test, Site}
use Rattle.naive_code.specs.Statements.{Around, Steps, do_steps}
use Rattle.naive_run.specs.Standing.{One}
use Rattle.naive_step.proofs.Doing.{M, Does, does_quietly, does_then, fewer, there}
use Rattle.naive_step.proofs.Making.{Call, Inside, At, routine_in}
use Rattle.naive_step.proofs.Ends.{begin_of, close_falls, found_at, closed_at}
use Rattle.naive_assigned.proofs.Ready.{Ready}
use Rattle.naive_rep.proofs.Rep.{rep_like}
use Rattle.naive_values.proofs.Getting.{Ops, stands_split}
use Rattle.naive_values.proofs.Asked.{Stands_for, Tested, Tested_value, block_at, Opens_next, TestDoes}
use Rattle.naive_tests.proofs.Tests.{needed_test, closes_at}
use Rattle.naive_statements.proofs.Asked.{Way_from, After, after_since, with_way, StepsDo}
use Rattle.std.proofs.lemmas.List.{append-nil}
use Rattle.naive_statements.proofs.Loops.{Ahead, at_once, a_step, does_led, does_ahead, after_nothing, cut_at}

module _ (t : Target) (u : Image) (m : Fixed) (source : Typed) (f : Function) (k : Call) (ready : Ready t u m source f k) (n : ℕ) where
  abbrev Code : List Op → Place → Place → Type 0
  Code = Ops t u m source f k ready

  abbrev Steps_do : SourceDoes → Steps → Type 0
  Steps_do = StepsDo t u m source f k ready n

  module _ (P : Result → Type 0) (x : State → Part Result) (e : Test) (opens : Opens_next t u m source f k ready e) (test : TestDoes t u m source f k ready n P x e) (body : SourceDoes) (p : Steps) (does_body : Steps_do body p) where
    module _ (a : Around) (first label : ℕ) (q r1 r2 : Place) (c : Point) (fresh : scalar_count f ≤ first)
        (body_ops : Code (p.ops (record { breaks = label; continues = label + 2 }) first (label + 3)) (begin_of (block_at t u m source f k ready (label + 1))) r1)
        (fall : One t.word m (routine_in t u k) (Close Falls (label + 2)) r1 r2)
        (test_ops : Code (e.ops true (label + 1) label (first + p.temps) (label + 3 + p.labels)) r2 q) where
      abbrev inner : Around
      inner = record { breaks = label; continues = label + 2 }

      abbrev begins : ℕ
      begins = block_at t u m source f k ready (label + 1)

      abbrev Whole : Flow → State → Point → Type 0
      Whole = After t u m source f k ready a q c

      abbrev Turns : ℕ → SourceDoes
      Turns left = do_turns left (λ s. then_do (x s) demand) body

      abbrev Tail : ℕ → SourceDoes
      Tail left s = then_do (then_do (x s) demand) (λ v. at_zero v nothing (Turns left))

      end : q ≡ begin_of (block_at t u m source f k ready label)
      end = opens true (label + 1) label (first + p.temps) (label + 3 + p.labels) r2 q test_ops

      abbrev Turns_do : ℕ → Type 0
      Turns_do left = (j : ℕ) → j ≤ left → j ≤ n → (d : Point) (s : State) → Inside t u k d → At t u (begin_of begins) d → Stands_for t u m source f k ready s d → Way_from t u m source f k ready c d → Does t u j d Whole (Turns left s)

      -- the test behind a turn
      tests_turn : (left j : ℕ) → Turns_do left → j ≤ left → j ≤ n → (g : Point) (s : State) → Inside t u k g → At t u r2 g → Stands_for t u m source f k ready s g → Way_from t u m source f k ready c g → Does t u j g Whole (Tail left s)
      tests_turn left j ih le small g s i at rep way =
          does_then t u j g (λ v s1 w. Tested_value t u m source f k ready P true (label + 1) (first + p.temps) q g (word v) s1 w × Comes (M t u) g w) Whole (then_do (x s) demand) (λ v. at_zero v nothing (Turns left))
          (fewer t u n j g (λ v s1 w. Tested_value t u m source f k ready P true (label + 1) (first + p.temps) q g (word v) s1 w × Comes (M t u) g w) (then_do (x s) demand) small
          (with_way t u m source f k ready n g (λ v. Tested_value t u m source f k ready P true (label + 1) (first + p.temps) q g (word v)) (then_do (x s) demand)
          (needed_test t u m source f k ready n P true (label + 1) (first + p.temps) q g (x s) (test true (label + 1) label (first + p.temps) (label + 3 + p.labels) r2 q g s (omega (arith, fresh)) test_ops i at rep))))
          (λ v s1 w z. each v s1 w z.0.1 z.1)
        where
          each : (v : ℕ) (s1 : State) (w : Point) → Tested t u m source f k ready true (label + 1) (first + p.temps) q g v s1 w → Comes (M t u) g w → Does t u j w Whole (at_zero v nothing (Turns left) s1)
          each zero s1 w h on = there t u j w Whole next s1 (record { inside = h.inside; at = h.at; rep = h.rep; above = λ b from. h.since.above b from ∙ way.above b from })
          each (suc v) s1 w h on =
              ih j le small w s1 h.inside h.at h.rep (record { comes = comes_trans (M t u) c g w way.comes on; above = λ b from. h.since.above b from ∙ way.above b from })

      behind : (left j : ℕ) → Turns_do left → j ≤ suc left → j ≤ n → (d g : Point) (fl : Flow) (s : State) → Way_from t u m source f k ready c d → After t u m source f k ready inner r1 d fl s g → Comes (M t u) d g → Ahead t u j d g Whole (turned fl (Tail left) s)
      behind left j ih le small d g next s way h on =
          let o = close_falls t u m k ready.fits (label + 2) r1 r2 g h.inside h.at fall in
          let at2 = subst (λ z. At t u z o.point) (sym (closed_at t u m k ready.fits Falls (label + 2) r1 r2 fall)) o.at in
          at_once (subst (λ y. Does t u j g Whole y) (after_nothing t u (Tail left s))
          (does_led t u j (j - 1) g o.point Whole [] (Tail left s) (omega arith) o.leads (o.fact.printed ∙ sym (append-nil g.printed))
          (tests_turn left (j - 1) ih (omega (arith, le)) (omega (arith, small)) o.point s o.inside at2
          (rep_like t u k source f s g o.point (o.fact.regs t.sp) o.fact.input (λ y i is of kind. o.fact.temps i) o.fact.bytes h.rep)
          (record { comes = comes_trans (M t u) c g o.point (comes_trans (M t u) c d g way.comes on) (leads_comes (M t u) g o.point o.leads); above = λ b from. o.fact.bytes b ∙ (h.above b from ∙ way.above b from) }))))
      behind left j ih le small d g continues s way h on =
          a_step (j - 1) (omega arith) h.1
          (tests_turn left (j - 1) ih (omega (arith, le)) (omega (arith, small)) g s h.0.inside (subst (λ z. At t u z g) (sym (closes_at t u m source f k ready n Falls (label + 2) r1 r2 fall)) h.0.at) h.0.rep
          (record { comes = comes_trans (M t u) c d g way.comes on; above = λ b from. h.0.above b from ∙ way.above b from }))
      behind left j ih le small d g breaks s way h on =
          at_once (there t u j g Whole next s (record { inside = h.inside; at = subst (λ z. At t u z g) (sym end) h.at; rep = h.rep; above = λ b from. h.above b from ∙ way.above b from }))
      behind left j ih le small d g (returns v) s way h on = at_once (there t u j g Whole (returns v) s (after_since t u m source f k ready inner r1 c d (returns v) s g way h))

      turns_do : (left : ℕ) → Turns_do left
      turns_do zero j le small d s i at rep way = cut_at t u j d Whole le
      turns_do (suc left) j le small d s i at rep way =
          does_ahead t u j d (λ fl s2 w. After t u m source f k ready inner r1 d fl s2 w × Comes (M t u) d w) Whole (body s) (λ fl. turned fl (Tail left))
          (fewer t u n j d (λ fl s2 w. After t u m source f k ready inner r1 d fl s2 w × Comes (M t u) d w) (body s) small
          (with_way t u m source f k ready n d (After t u m source f k ready inner r1 d) (body s) (does_body inner first (label + 3) (begin_of begins) r1 d s fresh body_ops i at rep)))
          (λ fl s2 w z. behind left j (turns_do left) le small d w fl s2 way z.0 z.1)

    pub do_does : (site : Site) (locals : List Thing) (most : ℕ) → n ≤ most → Steps_do (do_turns most (λ s. then_do (x s) demand) body) (do_steps site locals p e)
    do_does site locals most le a first label b q c s fresh (r0, enter, rest) i at rep =
        let test_code = e.ops true (label + 1) label (first + p.temps) (label + 3 + p.labels) in
        let body_code = p.ops (record { breaks = label; continues = label + 2 }) first (label + 3) in
        let parts = stands_split t u m k body_code (Close Falls (label + 2) ∷ test_code) r0 q rest in
        by_parts parts.0 (subst (λ z. Code body_code z parts.0) (closes_at t u m source f k ready n Falls (label + 1) b r0 enter) parts.1) parts.2
      where
        by_parts : (r1 : Place) → Code (p.ops (record { breaks = label; continues = label + 2 }) first (label + 3)) (begin_of (block_at t u m source f k ready (label + 1))) r1
            → Code (Close Falls (label + 2) ∷ e.ops true (label + 1) label (first + p.temps) (label + 3 + p.labels)) r1 q
            → Does t u n c (After t u m source f k ready a q c) (do_turns most (λ s. then_do (x s) demand) body s)
        by_parts r1 body_ops (r2, fall, test_ops) =
            let o = close_falls t u m k ready.fits (label + 1) b r0 c i at enter in
            let found : suc b.block ≡ block_at t u m source f k ready (label + 1) = sym (found_at t u m k ready.fits Falls (label + 1) b r0 enter) in
            does_quietly t u n c o.point (After t u m source f k ready a q c) (do_turns most (λ s. then_do (x s) demand) body s) (leads_comes (M t u) c o.point o.leads) o.fact.printed
            (turns_do a first label q r1 r2 c fresh body_ops fall test_ops most n le (omega arith) o.point s o.inside (subst (λ z. At t u (begin_of z) o.point) found o.at)
            (rep_like t u k source f s c o.point (o.fact.regs t.sp) o.fact.input (λ y j is of kind. o.fact.temps j) o.fact.bytes rep)
            (record { comes = leads_comes (M t u) c o.point o.leads; above = λ y from. o.fact.bytes y }))
