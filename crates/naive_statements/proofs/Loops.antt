-- Loops: each turn takes a step of the machine at least (C11 6.8.5).
use Rattle.std.proofs.Common.{◌≡◌, ℕ, zero, suc, ◌+◌, ◌-◌, ◌≤◌, List, [], ◌∷◌, ◌++◌, refl, sym, ap, ◌∙◌, subst, arith, false}
use mathlib.Core.List.{append_assoc}
use Rattle.std.proofs.lemmas.List.{append-nil}
use Rattle.behaviour.specs.Behaviour.{Running}
use Rattle.behaviour.specs.Run.{IsFollowedBy}
use Rattle.behaviour.specs.Steps.{Comes, Leads, run}
use Rattle.behaviour.proofs.Reaching.{followed_sooner}
use Rattle.behaviour.proofs.Stepping.{leads_comes, leads_then_comes, leads_followed, comes_trans}
use Rattle.md_shapes.specs.Shapes.{Frame as Fixed}
use Rattle.c_tree.specs.declared.typed.Object.{Object as Thing}
use Rattle.c_tree.specs.declared.typed.Function.{Function}
use Rattle.c_tree.specs.declared.typed.Typed.{Typed}
use Rattle.c_meaning.specs.Parts.{State, Part, Gives, Cut, Fails, after, then_do, give, demand, Value as Result, word}
use Rattle.c_meaning.specs.Expressions.{at_zero}
use Rattle.c_meaning.specs.Statements.{Flow, next, breaks, continues, returns, Does as SourceDoes, nothing, cut, turned, turns}
use Rattle.temp_machine.specs.Routines.{Image, Target}
use Rattle.temp_machine.specs.Live.{Place}
use Rattle.temp_machine.specs.Small.{Point}
use Rattle.naive_code.specs.Operations.{Op, Close, Falls, Jumps}
use Rattle.naive_code.specs.Storage.{scalar_count}
use Rattle.naive_code.specs.Expressions.{Test, Site}
use Rattle.naive_code.specs.Statements.{Around, Steps, while_steps}
use Rattle.naive_run.specs.Standing.{One}
use Rattle.naive_step.proofs.Doing.{M, Does, comes, late, any, does_from, does_quietly, does_then, fewer, there}
use Rattle.naive_step.proofs.Making.{Call, Inside, At, routine_in}
use Rattle.naive_step.proofs.Ends.{begin_of, close_falls, close_jumps, found_at}
use Rattle.naive_assigned.proofs.Ready.{Ready}
use Rattle.naive_rep.proofs.Rep.{rep_like}
use Rattle.naive_values.proofs.Getting.{Ops, stands_split}
use Rattle.naive_values.proofs.Asked.{Stands_for, Tested, Tested_value, block_at, TestDoes}
use Rattle.naive_tests.proofs.Tests.{needed_test, closes_at}
use Rattle.naive_statements.proofs.Asked.{Way_from, Past, Back, After, after_since, with_way, StepsDo}

-- ---- steps that count

module _ (t : Target) (u : Image) where
  -- a step at least, and what is asked within one step less
  pub does_led : {A : Type 0} (n j : ℕ) (c d : Point) (Q : A → State → Point → Type 0) (out : List ℕ) (x : Part A) → n ≤ suc j → Leads (M t u) c d → d.printed ≡ c.printed ++ out → Does t u j d Q x → Does t u n c Q (after out x)
  does_led n j c d Q out (Gives more v s) le to p (comes _ _ _ e on q h) =
      comes (out ++ more) v s e (leads_comes (M t u) c e (leads_then_comes (M t u) c d e to on)) (q ∙ ap (λ xs. xs ++ more) p ∙ append_assoc c.printed out more) h
  does_led n j c d Q out (Cut more) le to p (late _ l) =
      late (out ++ more) (followed_sooner (suc j) n (Running (c.printed ++ (out ++ more))) (run (M t u) c) le
      (leads_followed (M t u) j (Running (c.printed ++ (out ++ more))) c d to
      (subst (λ o. IsFollowedBy j (Running o) (run (M t u) d)) (ap (λ xs. xs ++ more) p ∙ append_assoc c.printed out more) l)))
  does_led n j c d Q out (Fails more why) le to p (any _ _) = any (out ++ more) why

  -- what follows a part stands behind it, or a step behind it at least
  pub data Ahead {B : Type 0} (n : ℕ) (c d : Point) (P : B → State → Point → Type 0) (y : Part B) : Type 0 where
    at_once : Does t u n d P y → Ahead n c d P y
    a_step : (j : ℕ) → n ≤ suc j → Leads (M t u) c d → Does t u j d P y → Ahead n c d P y

  pub does_ahead : {A B : Type 0} (n : ℕ) (c : Point) (Q : A → State → Point → Type 0) (P : B → State → Point → Type 0) (x : Part A) (h : A → State → Part B)
      → Does t u n c Q x → ((v : A) (s : State) (d : Point) → Q v s d → Ahead n c d P (h v s)) → Does t u n c P (then_do x h)
  does_ahead n c Q P (Gives out v s) h (comes _ _ _ d on q k) each = by_way (each v s d k)
    where
      by_way : Ahead n c d P (h v s) → Does t u n c P (after out (h v s))
      by_way (at_once z) = does_from t u n c d P out (h v s) on q z
      by_way (a_step j le to z) = does_led n j c d P out (h v s) le to q z
  does_ahead n c Q P (Cut out) h (late _ l) each = late out l
  does_ahead n c Q P (Fails out why) h (any _ _) each = any out why

  pub after_nothing : {A : Type 0} (x : Part A) → after [] x ≡ x
  after_nothing (Gives out v s) = refl
  after_nothing (Cut out) = refl
  after_nothing (Fails out why) = refl

  -- where no turn is left, the run is cut
  pub cut_at : {A : Type 0} (j : ℕ) (c : Point) (Q : A → State → Point → Type 0) → j ≤ 0 → Does t u j c Q (Cut [])
  cut_at j c Q le = late [] (0, le, ap Running (sym (append-nil c.printed)))

module _ (t : Target) (u : Image) (m : Fixed) (source : Typed) (f : Function) (k : Call) (ready : Ready t u m source f k) (n : ℕ) where
  abbrev Code : List Op → Place → Place → Type 0
  Code = Ops t u m source f k ready

  abbrev Steps_do : SourceDoes → Steps → Type 0
  Steps_do = StepsDo t u m source f k ready n

  -- a test that leaves where its value is 0
  abbrev pub Tests_false : (Result → Type 0) → (State → Part Result) → Test → Type 0
  Tests_false P x e =
      (target next first label : ℕ) (p q : Place) (c : Point) (s : State) → scalar_count f ≤ first → Code (e.ops false target next first label) p q → Inside t u k c → At t u p c
      → Stands_for t u m source f k ready s c → Does t u n c (Tested_value t u m source f k ready P false target first q c) (x s)

  module _ (P : Result → Type 0) (x : State → Part Result) (e : Test) (test : Tests_false P x e) (body : SourceDoes) (p : Steps) (does_body : Steps_do body p) (step : SourceDoes) where
    -- the turns of a loop with a test before each, where the places of its parts are given, and what is asked behind its body
    module _ (a inner : Around) (first label next_label first_p label_e label_p : ℕ) (q r1 r2 : Place) (c : Point) (fresh : scalar_count f ≤ first) (fresh_p : scalar_count f ≤ first_p)
        (end : q ≡ begin_of (block_at t u m source f k ready label))
        (test_ops : Code (e.ops false label next_label first label_e) (begin_of (block_at t u m source f k ready (label + 1))) r1) (body_ops : Code (p.ops inner first_p label_p) r1 r2) where
      abbrev pub begins : ℕ
      begins = block_at t u m source f k ready (label + 1)

      abbrev pub Whole : Flow → State → Point → Type 0
      Whole = After t u m source f k ready a q c

      abbrev pub Turns : ℕ → SourceDoes
      Turns left = turns left (λ s. then_do (x s) demand) body step

      -- what is asked of the turns that are left, wherever the loop begins anew
      abbrev pub Turns_do : ℕ → Type 0
      Turns_do left = (j : ℕ) → j ≤ left → j ≤ n → (d : Point) (s : State) → Inside t u k d → At t u (begin_of begins) d → Stands_for t u m source f k ready s d → Way_from t u m source f k ready c d → Does t u j d Whole (Turns left s)

      -- and where a turn's body has been left
      abbrev pub Behind : Type 0
      Behind =
          (left j : ℕ) → Turns_do left → j ≤ suc left → j ≤ n → (d g : Point) (fl : Flow) (s : State) → Way_from t u m source f k ready c d → After t u m source f k ready inner r2 d fl s g → Comes (M t u) d g
          → Ahead t u j d g Whole (turned fl (λ s1. then_do (step s1) (λ _. Turns left)) s)

      -- the test fails: behind the loop
      leaves_loop : (j : ℕ) (d g : Point) (s : State) → Way_from t u m source f k ready c d → Tested t u m source f k ready false label first r1 d 0 s g → Does t u j g Whole (nothing s)
      leaves_loop j d g s way h =
          there t u j g Whole next s (record { inside = h.inside; at = subst (λ z. At t u z g) (sym end) h.at; rep = h.rep; above = λ b from. h.since.above b from ∙ way.above b from })

      tested_turn : (j : ℕ) → j ≤ n → (d : Point) (s : State) → Inside t u k d → At t u (begin_of begins) d → Stands_for t u m source f k ready s d
          → Does t u j d (λ v s1 g. Tested_value t u m source f k ready P false label first r1 d (word v) s1 g × Comes (M t u) d g) (then_do (x s) demand)
      tested_turn j small d s i at rep =
          fewer t u n j d _ (then_do (x s) demand) small
          (with_way t u m source f k ready n d (λ v. Tested_value t u m source f k ready P false label first r1 d (word v)) (then_do (x s) demand)
          (needed_test t u m source f k ready n P false label first r1 d (x s) (test label next_label first label_e (begin_of begins) r1 d s fresh test_ops i at rep)))

      pub turns_do : Behind → (left : ℕ) → Turns_do left
      turns_do behind zero j le small d s i at rep way =
          does_then t u j d (λ v s1 g. Tested_value t u m source f k ready P false label first r1 d (word v) s1 g × Comes (M t u) d g) Whole (then_do (x s) demand) (λ v. at_zero v nothing cut)
          (tested_turn j small d s i at rep) each
        where
          each : (v : ℕ) (s1 : State) (g : Point) → Tested_value t u m source f k ready P false label first r1 d (word v) s1 g × Comes (M t u) d g → Does t u j g Whole (at_zero v nothing cut s1)
          each zero s1 g h = leaves_loop j d g s1 way h.0.1
          each (suc v) s1 g h = cut_at t u j g Whole le
      turns_do behind (suc left) j le small d s i at rep way =
          does_then t u j d (λ v s1 g. Tested_value t u m source f k ready P false label first r1 d (word v) s1 g × Comes (M t u) d g) Whole (then_do (x s) demand)
          (λ v. at_zero v nothing (λ s1. then_do (body s1) (λ fl. turned fl (λ s2. then_do (step s2) (λ _. Turns left)))))
          (tested_turn j small d s i at rep) (λ v s1 g h. each (turns_do behind left) v s1 g h.0.1 h.1)
        where
          each : Turns_do left → (v : ℕ) (s1 : State) (g : Point) → Tested t u m source f k ready false label first r1 d v s1 g → Comes (M t u) d g
              → Does t u j g Whole (at_zero v nothing (λ s1. then_do (body s1) (λ fl. turned fl (λ s2. then_do (step s2) (λ _. Turns left)))) s1)
          each ih zero s1 g h on = leaves_loop j d g s1 way h
          each ih (suc v) s1 g h on =
              let way' : Way_from t u m source f k ready c g = record { comes = comes_trans (M t u) c d g way.comes on; above = λ b from. h.since.above b from ∙ way.above b from } in
              does_ahead t u j g (λ fl s2 w. After t u m source f k ready inner r2 g fl s2 w × Comes (M t u) g w) Whole (body s1) (λ fl. turned fl (λ s2. then_do (step s2) (λ _. Turns left)))
              (fewer t u n j g _ (body s1) small
              (with_way t u m source f k ready n g (After t u m source f k ready inner r2 g) (body s1) (does_body inner first_p label_p r1 r2 g s1 fresh_p body_ops h.inside h.at h.rep)))
              (λ fl s2 w z. behind left j ih le small g w fl s2 way' z.0 z.1)

      -- a jump back to where the loop begins
      pub jumps_back : (l : ℕ) (r z : Place) → One t.word m (routine_in t u k) (Close (Jumps (label + 1)) l) r z → (left j : ℕ) → Turns_do left → j ≤ suc left → j ≤ n → (g : Point) (s : State) → Past t u m source f k ready r c s g
          → Comes (M t u) c g → Does t u j g Whole (Turns left s)
      jumps_back l r z jump left j ih le small g s h way =
          let o = close_jumps t u m k ready.fits (label + 1) l r z g h.inside h.at jump in
          subst (λ y. Does t u j g Whole y) (after_nothing t u (Turns left s))
          (does_led t u j (j - 1) g o.point Whole [] (Turns left s) (omega arith) o.leads (o.fact.printed ∙ sym (append-nil g.printed))
          (ih (j - 1) (omega (arith, le)) (omega (arith, small)) o.point s o.inside o.at
          (rep_like t u k source f s g o.point (o.fact.regs t.sp) o.fact.input (λ y i is of kind. o.fact.temps i) o.fact.bytes h.rep)
          (record { comes = comes_trans (M t u) c g o.point way (leads_comes (M t u) g o.point o.leads); above = λ b from. o.fact.bytes b ∙ h.above b from })))

      -- behind the loop, or at a return
      pub broken : (j : ℕ) (d g : Point) (s : State) → Way_from t u m source f k ready c d → Past t u m source f k ready (begin_of (block_at t u m source f k ready label)) d s g → Does t u j g Whole (give next s)
      broken j d g s way h = there t u j g Whole next s (record { inside = h.inside; at = subst (λ z. At t u z g) (sym end) h.at; rep = h.rep; above = λ b from. h.above b from ∙ way.above b from })

      pub returned_from : (j : ℕ) (d g : Point) (v : Result) (s : State) → Way_from t u m source f k ready c d → Back t u m source f k ready d v s g → Does t u j g Whole (give (returns v) s)
      returned_from j d g v s way h = there t u j g Whole (returns v) s (after_since t u m source f k ready inner r2 c d (returns v) s g way h)

  -- ---- `while`

  module _ (P : Result → Type 0) (x : State → Part Result) (e : Test) (test : TestDoes t u m source f k ready n P x e) (body : SourceDoes) (p : Steps) (does_body : Steps_do body p) where
    falsely : Tests_false P x e
    falsely target onward first label = test false target onward first label

    pub while_does : (site : Site) (locals : List Thing) (most : ℕ) → n ≤ most → Steps_do (turns most (λ s. then_do (x s) demand) body nothing) (while_steps site locals e p)
    while_does site locals most le a first label b q c s fresh (r0, enter, rest) i at rep =
        let body_code = p.ops (record { breaks = label; continues = label + 1 }) (first + e.temps) (label + 3 + e.labels) in
        let parts = stands_split t u m k (e.ops false label (label + 2) first (label + 3)) (body_code ++ (Close (Jumps (label + 1)) label ∷ [])) r0 q rest in
        let inner_parts = stands_split t u m k body_code (Close (Jumps (label + 1)) label ∷ []) parts.0 q parts.2 in
        by_parts parts.0 inner_parts.0 (subst (λ z. Code (e.ops false label (label + 2) first (label + 3)) z parts.0) (closes_at t u m source f k ready n Falls (label + 1) b r0 enter) parts.1) inner_parts.1 inner_parts.2
      where
        by_parts : (r1 r2 : Place) → Code (e.ops false label (label + 2) first (label + 3)) (begin_of (block_at t u m source f k ready (label + 1))) r1
            → Code (p.ops (record { breaks = label; continues = label + 1 }) (first + e.temps) (label + 3 + e.labels)) r1 r2 → Code (Close (Jumps (label + 1)) label ∷ []) r2 q
            → Does t u n c (After t u m source f k ready a q c) (turns most (λ s. then_do (x s) demand) body nothing s)
        by_parts r1 r2 test_ops body_ops (r3, jump, last) =
            let o = close_falls t u m k ready.fits (label + 1) b r0 c i at enter in
            let found : suc b.block ≡ block_at t u m source f k ready (label + 1) = sym (found_at t u m k ready.fits Falls (label + 1) b r0 enter) in
            does_quietly t u n c o.point (After t u m source f k ready a q c) (turns most (λ s. then_do (x s) demand) body nothing s) (leads_comes (M t u) c o.point o.leads) o.fact.printed
            (turns_do P x e falsely body p does_body nothing a inner first label (label + 2) (first + e.temps) (label + 3) (label + 3 + e.labels) q r1 r2 c fresh (omega (arith, fresh)) end test_ops body_ops
            (λ left j ih le small d g fl s way h on. behind left j ih le small d g fl s way h on) most n le (omega arith) o.point s o.inside (subst (λ z. At t u (begin_of z) o.point) found o.at)
            (rep_like t u k source f s c o.point (o.fact.regs t.sp) o.fact.input (λ y j is of kind. o.fact.temps j) o.fact.bytes rep)
            (record { comes = leads_comes (M t u) c o.point o.leads; above = λ y from. o.fact.bytes y }))
          where
            inner : Around
            inner = record { breaks = label; continues = label + 1 }

            end : q ≡ begin_of (block_at t u m source f k ready label)
            end = last ∙ closes_at t u m source f k ready n (Jumps (label + 1)) label r2 r3 jump

            behind : Behind P x e falsely body p does_body nothing a (record { breaks = label; continues = label + 1 }) first label (label + 2) (first + e.temps) (label + 3) (label + 3 + e.labels) q r1 r2 c fresh (omega (arith, fresh)) end test_ops body_ops
            behind left j ih le small d g next s way h on =
                at_once (subst (λ y. Does t u j g (After t u m source f k ready a q c) y) (sym (after_nothing t u (turns left (λ s. then_do (x s) demand) body nothing s)))
                (jumps_back P x e falsely body p does_body nothing a (record { breaks = label; continues = label + 1 }) first label (label + 2) (first + e.temps) (label + 3) (label + 3 + e.labels) q r1 r2 c fresh (omega (arith, fresh)) end test_ops body_ops
                label r2 r3 jump left j ih le small g s (record { inside = h.inside; at = h.at; rep = h.rep; above = λ b from. h.above b from ∙ way.above b from }) (comes_trans (M t u) c d g way.comes on)))
            behind left j ih le small d g continues s way h on =
                a_step (j - 1) (omega arith) h.1 (subst (λ y. Does t u (j - 1) g (After t u m source f k ready a q c) y) (sym (after_nothing t u (turns left (λ s. then_do (x s) demand) body nothing s)))
                (ih (j - 1) (omega (arith, le)) (omega (arith, small)) g s h.0.inside h.0.at h.0.rep
                (record { comes = comes_trans (M t u) c d g way.comes on; above = λ b from. h.0.above b from ∙ way.above b from })))
            behind left j ih le small d g breaks s way h on =
                at_once (broken P x e falsely body p does_body nothing a (record { breaks = label; continues = label + 1 }) first label (label + 2) (first + e.temps) (label + 3) (label + 3 + e.labels) q r1 r2 c fresh (omega (arith, fresh)) end test_ops body_ops
                j d g s way h)
            behind left j ih le small d g (returns v) s way h on =
                at_once (returned_from P x e falsely body p does_body nothing a (record { breaks = label; continues = label + 1 }) first label (label + 2) (first + e.temps) (label + 3) (label + 3 + e.labels) q r1 r2 c fresh (omega (arith, fresh)) end test_ops body_ops
                j d g v s way h)
