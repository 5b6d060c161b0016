-- Expression statements, jumps, returns and `if` (C11 6.8.3, 6.8.4.1, 6.8.6).
use Rattle.std.proofs.Common.{◌≡◌, ◌≢◌, ℕ, zero, suc, ◌+◌, ◌≤◌, List, [], ◌∷◌, ◌++◌, Some, None, refl, sym, ap, ◌∙◌, subst, arith, true, false}
use Rattle.rtl_tree.specs.declared.cells.Cell.TheVariants.{Hard}
use Rattle.md_shapes.specs.declared.patterns.Pattern.TheVariants as shape
use Rattle.md_shapes.specs.Shapes.{Frame as Fixed}
use Rattle.c_tree.specs.declared.token.At.{At as Spot}
use Rattle.c_tree.specs.declared.types.CType.{CType}
use Rattle.c_tree.specs.declared.typed.Object.{Object as Thing}
use Rattle.c_tree.specs.declared.typed.Function.{Function}
use Rattle.c_tree.specs.declared.typed.Typed.{Typed}
use Rattle.c_meaning.specs.Parts.{State, Part, then_do, give, demand, Value as Result, word, absent}
use Rattle.c_meaning.specs.Expressions.{at_zero}
use Rattle.c_meaning.specs.Statements.{Flow, next, breaks, continues, returns, Does as SourceDoes, nothing}
use Rattle.temp_machine.specs.Routines.{Image, Target}
use Rattle.temp_machine.specs.Live.{Place}
use Rattle.temp_machine.specs.Small.{Point}
use Rattle.naive_code.specs.Operations as code
use Rattle.naive_code.specs.Operations.{Op, Stop, Close, Falls, Jumps, Returns, on_two}
use Rattle.naive_code.specs.Storage.{scalar_count}
use Rattle.naive_code.specs.Expressions.{Value, Test, Site}
use Rattle.naive_code.specs.Statements.{Around, Steps, dropped, used, leaving, if_steps, joined}
use Rattle.naive_run.specs.Sound.{alike}
use Rattle.naive_run.specs.Standing.{shaped, One}
use Rattle.behaviour.specs.Steps.{Comes, Leads}
use Rattle.behaviour.proofs.Stepping.{leads_comes}
use Rattle.naive_step.proofs.Doing.{M, Does, does_then, does_further, there, came}
use Rattle.naive_step.proofs.Making.{Call, Inside, At, routine_in}
use Rattle.naive_step.proofs.Acts.{set_reg}
use Rattle.naive_step.proofs.Ways.{make_has}
use Rattle.naive_step.proofs.Ends.{Opened, begin_of, close_jumps}
use Rattle.naive_assigned.proofs.Ready.{Ready}
use Rattle.naive_rep.proofs.Rep.{rep_like}
use Rattle.naive_values.proofs.Typed.{as_alike}
use Rattle.naive_values.proofs.Getting.{Ops, stands_split}
use Rattle.naive_values.proofs.Asked.{Stands_for, Has, Tested, Tested_value, block_at, Opens_next, ValueDoes, TestDoes}
use Rattle.naive_values.proofs.Composing.{value_then}
use Rattle.naive_tests.proofs.Tests.{needed_test, closes_at}
use Rattle.naive_tests.proofs.Choosing.{falls_to, jumps_to}
use Rattle.naive_statements.proofs.Asked.{Way_from, Past, After, after_since, with_way, StepsDo, past_opens}

module _ (t : Target) (u : Image) (m : Fixed) (source : Typed) (f : Function) (k : Call) (ready : Ready t u m source f k) (n : ℕ) where
  abbrev Code : List Op → Place → Place → Type 0
  Code = Ops t u m source f k ready

  abbrev Steps_do : SourceDoes → Steps → Type 0
  Steps_do = StepsDo t u m source f k ready n

  -- a value that isn't used
  pub dropped_does : (of : CType) (x : State → Part Result) (v : Value) → ValueDoes t u m source f k ready n of x v → Steps_do (λ s. then_do (x s) (λ r. nothing)) (dropped v)
  dropped_does of x v does a first label b q c s fresh ops i at rep =
      does_then t u n c (Has t u m source f k ready of (v.result first) first q c) (After t u m source f k ready a q c) (x s) (λ r. nothing) (does first label b q c s fresh ops i at rep)
      (λ r s1 d h. there t u n d (After t u m source f k ready a q c) next s1 (record { inside = h.inside; at = h.at; rep = h.rep; above = h.since.above }))

  -- ---- jumps

  left_to : (fl : Flow) (a : Around) (q : Place) (block : ℕ) (c : Point) (s : State)
      → ((d : Point) → Past t u m source f k ready (begin_of block) c s d → Leads (M t u) c d → After t u m source f k ready a q c fl s d) → Inside t u k c → Stands_for t u m source f k ready s c
      → Opened t u m k ready.fits block c → Does t u n c (After t u m source f k ready a q c) (give fl s)
  left_to fl a q block c s each i rep o =
      came t u n c o.point (After t u m source f k ready a q c) fl s (leads_comes (M t u) c o.point o.leads) o.fact.printed (each o.point (record {
        inside = o.inside;
        at = o.at;
        rep = rep_like t u k source f s c o.point (o.fact.regs t.sp) o.fact.input (λ x i is of kind. o.fact.temps i) o.fact.bytes rep;
        above = λ x from. o.fact.bytes x;
      }) o.leads)

  pub break_does : (site : Site) (locals : List Thing) → Steps_do (give breaks) (leaving site locals (λ a. Jumps a.breaks))
  break_does site locals a first label b q c s fresh (r, one, last) i at rep =
      left_to breaks a q (block_at t u m source f k ready a.breaks) c s (λ d h way. h) i rep (close_jumps t u m k ready.fits a.breaks label b r c i at one)

  pub continue_does : (site : Site) (locals : List Thing) → Steps_do (give continues) (leaving site locals (λ a. Jumps a.continues))
  continue_does site locals a first label b q c s fresh (r, one, last) i at rep =
      left_to continues a q (block_at t u m source f k ready a.continues) c s (λ d h way. (h, way)) i rep (close_jumps t u m k ready.fits a.continues label b r c i at one)

  -- ---- returns

  pub return_nothing : (site : Site) (locals : List Thing) (spot : Spot) → Steps_do (give (returns (absent spot))) (leaving site locals (λ a. Returns))
  return_nothing site locals spot a first label b q c s fresh (r, (z, (ends, same), found, is), last) i at rep =
      there t u n c (After t u m source f k ready a q c) (returns (absent spot)) s (record { inside = i; place = b; at = at; at_return = ends; rep = rep; above = λ x from. refl; result = tt })

  pub return_value : (site : Site) (locals : List Thing) (of : CType) (x : State → Part Result) (v : Value) → alike f.result of ≡ true → ValueDoes t u m source f k ready n of x v
      → Steps_do (λ s. then_do (then_do (x s) demand) (λ w s1. give (returns (word w)) s1)) (joined (used v [] (λ r t. code.set_result r ∷ [])) (leaving site locals (λ a. Returns)))
  return_value site locals of x v same does a first label b q c s fresh ops i at rep =
      let set = code.set_result (v.result first) ∷ [] in
      let end = Close Returns (label + v.labels) ∷ [] in
      let whole = stands_split t u m k (v.ops first label ++ set) end b q ops in
      value_then t u m source f k ready n of v x does set (After t u m source f k ready a q c) (λ w s1. give (returns (word w)) s1) first label b whole.0 c s fresh whole.1 i at rep
      (λ r d w s1 rest h. sets_and_returns r whole.0 d w s1 h rest whole.2)
    where
      other_register : t.sp ≢ m.result
      other_register e = ready.target.stack_is_no_result (e ∙ ready.fixed.result)

      sets_and_returns : (r r1 : Place) (d : Point) (w : ℕ) (s1 : State) → Has t u m source f k ready of (v.result first) first r c (word w) s1 d → Code (code.set_result (v.result first) ∷ []) r r1
          → Code (Close Returns (label + v.labels) ∷ []) r1 q → Does t u n d (After t u m source f k ready a q c) (give (returns (word w)) s1)
      sets_and_returns r r1 d w s1 h (r2, one, last) (r3, (z, (ends, same_place), found, is), last') =
          let value = h.value in
          let to = set_reg t u m k ready.fits (shaped shape.SetResult (on_two (v.result first) (v.result first))) r r2 d (make_has t u m k ready.fits _ _ r r2 one) h.inside h.at m.result (v.result first) refl in
          let g = to.fact in
          came t u n d to.point (After t u m source f k ready a q c) (returns (word w)) s1 to.comes g.printed (record {
            inside = to.inside;
            place = r1;
            at = subst (λ z. At t u z to.point) (sym last) to.at;
            at_return = ends;
            rep = rep_like t u k source f s1 d to.point (g.others t.sp other_register) g.input (λ y j is' of' kind. g.temps j) g.bytes h.rep;
            above = λ y from. g.bytes y ∙ h.since.above y from;
            result = (ap (λ j. to.point.view.cells (Hard j)) (sym ready.fixed.result) ∙ (g.reg ∙ value.0), as_alike t.word f.result of w same ∙ value.1, value.2);
          })

  -- ---- `if`

  -- behind a statement the open block falls to the next one
  then_falls : (a : Around) (l : ℕ) (r z q : Place) (c d : Point) (fl : Flow) (s : State) → One t.word m (routine_in t u k) (Close Falls l) r z → q ≡ z → After t u m source f k ready a r c fl s d
      → Does t u n d (After t u m source f k ready a q c) (give fl s)
  then_falls a l r z q c d next s one last h = past_opens t u m source f k ready n a q r c d s h (falls_to t u m source f k ready n l r z q d h.inside h.at one last)
  then_falls a l r z q c d breaks s one last h = there t u n d (After t u m source f k ready a q c) breaks s h
  then_falls a l r z q c d continues s one last h = there t u n d (After t u m source f k ready a q c) continues s h
  then_falls a l r z q c d (returns v) s one last h = there t u n d (After t u m source f k ready a q c) (returns v) s h

  -- a jump over what follows
  then_jumps : (a : Around) (to l : ℕ) (r z q : Place) (c d : Point) (fl : Flow) (s : State) → One t.word m (routine_in t u k) (Close (Jumps to) l) r z → q ≡ begin_of (block_at t u m source f k ready to)
      → After t u m source f k ready a r c fl s d → Does t u n d (After t u m source f k ready a q c) (give fl s)
  then_jumps a to l r z q c d next s one last h = past_opens t u m source f k ready n a q r c d s h (jumps_to t u m source f k ready n to l r z q d h.inside h.at one last)
  then_jumps a to l r z q c d breaks s one last h = there t u n d (After t u m source f k ready a q c) breaks s h
  then_jumps a to l r z q c d continues s one last h = there t u n d (After t u m source f k ready a q c) continues s h
  then_jumps a to l r z q c d (returns v) s one last h = there t u n d (After t u m source f k ready a q c) (returns v) s h

  -- a statement that is run from a later point, and what follows it
  runs_on : (e : SourceDoes) (p : Steps) (a : Around) (first label : ℕ) (r r1 q : Place) (c d : Point) (s : State) → Steps_do e p → scalar_count f ≤ first → Way_from t u m source f k ready c d
      → Inside t u k d → At t u r d → Stands_for t u m source f k ready s d → Code (p.ops a first label) r r1
      → ((fl : Flow) (s1 : State) (x : Point) → After t u m source f k ready a r1 c fl s1 x → Does t u n x (After t u m source f k ready a q c) (give fl s1)) → Does t u n d (After t u m source f k ready a q c) (e s)
  runs_on e p a first label r r1 q c d s does fresh above i at rep ops then_on =
      does_further t u n d (After t u m source f k ready a r1 d) (After t u m source f k ready a q c) (e s) (does a first label r r1 d s fresh ops i at rep)
      (λ fl s1 x h. then_on fl s1 x (after_since t u m source f k ready a r1 c d fl s1 x above h))

  module _ (locals : List Thing) (P : Result → Type 0) (x : State → Part Result) (e : Test) (opens : Opens_next t u m source f k ready e) (test : TestDoes t u m source f k ready n P x e) (yes_does : SourceDoes) (p : Steps) (does_p : Steps_do yes_does p) where
    pub if_does : (c : Site) → Steps_do (λ s. then_do (then_do (x s) demand) (λ v. at_zero v (λ s. give next s) yes_does)) (if_steps c locals e p None)
    if_does site a first label b q c s fresh ops i at rep =
        let then_ops = p.ops a (first + e.temps) (label + 2 + e.labels) in
        let parts = stands_split t u m k (e.ops false label (label + 1) first (label + 2)) (then_ops ++ (Close Falls label ∷ [])) b q ops in
        let inner = stands_split t u m k then_ops (Close Falls label ∷ []) parts.0 q parts.2 in
        does_then t u n c (λ v s1 d. Tested_value t u m source f k ready P false label first parts.0 c (word v) s1 d × Comes (M t u) c d) (After t u m source f k ready a q c) (then_do (x s) demand) (λ v. at_zero v (λ s. give next s) yes_does)
        (with_way t u m source f k ready n c (λ v. Tested_value t u m source f k ready P false label first parts.0 c (word v)) (then_do (x s) demand)
        (needed_test t u m source f k ready n P false label first parts.0 c (x s) (test false label (label + 1) first (label + 2) b parts.0 c s fresh parts.1 i at rep)))
        (λ v s1 d g. each v s1 d parts.0 inner.0 inner.1 inner.2 g.0.1 g.1)
      where
        each : (v : ℕ) (s1 : State) (d : Point) (r r1 : Place) → Code (p.ops a (first + e.temps) (label + 2 + e.labels)) r r1 → Code (Close Falls label ∷ []) r1 q → Tested t u m source f k ready false label first r c v s1 d → Comes (M t u) c d
            → Does t u n d (After t u m source f k ready a q c) (at_zero v (λ s. give next s) yes_does s1)
        each zero s1 d r r1 body (r2, one, last) g way =
            there t u n d (After t u m source f k ready a q c) next s1 (record {
              inside = g.inside;
              at = subst (λ z. At t u z d) (sym (last ∙ closes_at t u m source f k ready n Falls label r1 r2 one)) g.at;
              rep = g.rep;
              above = g.since.above;
            })
        each (suc v) s1 d r r1 body (r2, one, last) g way =
            runs_on yes_does p a (first + e.temps) (label + 2 + e.labels) r r1 q c d s1 does_p (omega (arith, fresh)) (record { comes = way; above = g.since.above }) g.inside g.at g.rep body
            (λ fl s2 w h. then_falls a label r1 r2 q c w fl s2 one last h)

    pub if_else_does : (c : Site) (no_does : SourceDoes) (o : Steps) → Steps_do no_does o
        → Steps_do (λ s. then_do (then_do (x s) demand) (λ v. at_zero v no_does yes_does)) (if_steps c locals e p (Some o))
    if_else_does site no_does o does_o a first label b q c s fresh ops i at rep =
        let then_ops = p.ops a (first + e.temps) (label + 3 + e.labels) in
        let else_ops = o.ops a (first + e.temps + p.temps) (label + 3 + e.labels + p.labels) in
        let rest = Close (Jumps (label + 2)) label ∷ (else_ops ++ (Close Falls (label + 2) ∷ [])) in
        let parts = stands_split t u m k (e.ops false label (label + 1) first (label + 3)) (then_ops ++ rest) b q ops in
        let inner = stands_split t u m k then_ops rest parts.0 q parts.2 in
        does_then t u n c (λ v s1 d. Tested_value t u m source f k ready P false label first parts.0 c (word v) s1 d × Comes (M t u) c d) (After t u m source f k ready a q c) (then_do (x s) demand) (λ v. at_zero v no_does yes_does)
        (with_way t u m source f k ready n c (λ v. Tested_value t u m source f k ready P false label first parts.0 c (word v)) (then_do (x s) demand)
        (needed_test t u m source f k ready n P false label first parts.0 c (x s) (test false label (label + 1) first (label + 3) b parts.0 c s fresh parts.1 i at rep)))
        (λ v s1 d g. each v s1 d parts.0 inner.0 inner.1 inner.2 g.0.1 g.1)
      where
        each : (v : ℕ) (s1 : State) (d : Point) (r r1 : Place) → Code (p.ops a (first + e.temps) (label + 3 + e.labels)) r r1
            → Code (Close (Jumps (label + 2)) label ∷ (o.ops a (first + e.temps + p.temps) (label + 3 + e.labels + p.labels) ++ (Close Falls (label + 2) ∷ []))) r1 q
            → Tested t u m source f k ready false label first r c v s1 d → Comes (M t u) c d → Does t u n d (After t u m source f k ready a q c) (at_zero v no_does yes_does s1)
        each v s1 d r r1 body (r2, jump, rest) g way = by_end (stands_split t u m k (o.ops a (first + e.temps + p.temps) (label + 3 + e.labels + p.labels)) (Close Falls (label + 2) ∷ []) r2 q rest) v g
          where
            by_end : (r3 : Place) × Code (o.ops a (first + e.temps + p.temps) (label + 3 + e.labels + p.labels)) r2 r3 × Code (Close Falls (label + 2) ∷ []) r3 q → (v : ℕ) → Tested t u m source f k ready false label first r c v s1 d
                → Does t u n d (After t u m source f k ready a q c) (at_zero v no_does yes_does s1)
            by_end (r3, other, (r4, fall, last)) zero g =
                runs_on no_does o a (first + e.temps + p.temps) (label + 3 + e.labels + p.labels) r2 r3 q c d s1 does_o (omega (arith, fresh)) (record { comes = way; above = g.since.above }) g.inside
                (subst (λ z. At t u z d) (sym (closes_at t u m source f k ready n (Jumps (label + 2)) label r1 r2 jump)) g.at) g.rep other
                (λ fl s2 w h. then_falls a (label + 2) r3 r4 q c w fl s2 fall last h)
            by_end (r3, other, (r4, fall, last)) (suc v) g =
                runs_on yes_does p a (first + e.temps) (label + 3 + e.labels) r r1 q c d s1 does_p (omega (arith, fresh)) (record { comes = way; above = g.since.above }) g.inside g.at g.rep body
                (λ fl s2 w h. then_jumps a (label + 2) label r1 r2 q c w fl s2 jump (last ∙ closes_at t u m source f k ready n Falls (label + 2) r3 r4 fall) h)
