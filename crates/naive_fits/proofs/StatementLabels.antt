-- The code of a statement opens labels among its own, each at most once.
use Rattle.std.proofs.Common.{◌≡◌, ℕ, suc, ◌+◌, ◌*◌, ◌≤◌, List, [], ◌∷◌, ◌++◌, map, Option, Some, None, refl, arith, true, false}
use Rattle.std.specs.Prelude.{Bool, length, slice_get, nat_lt, if◌then◌else◌}
use Rattle.rtl_word.specs.declared.Rel.TheVariants.{Ne}
use Rattle.c_tree.specs.declared.typed.Object.{Object}
use Rattle.c_tree.specs.declared.typed.TypedExpr.{TypedExpr}
use Rattle.c_tree.specs.declared.typed.LocalInit.{LocalInit}
use Rattle.c_tree.specs.declared.typed.LocalInit.TheVariants as init
use Rattle.c_tree.specs.declared.typed.Local.{Local}
use Rattle.c_tree.specs.declared.typed.Start.{Start}
use Rattle.c_tree.specs.declared.typed.Start.TheVariants as start
use Rattle.c_tree.specs.declared.typed.Stat.{Stat}
use Rattle.c_tree.specs.declared.typed.Stat.TheOpen as stat
use Rattle.c_tree.specs.declared.typed.Stat.TheFolds.{map-Stat}
use Rattle.c_tree.proofs.TypedFolds.{Both, stat_relates}
use Rattle.c_limits.specs.Frames.{element_bytes}
use Rattle.c_limits.specs.Weights.{length_of}
use Rattle.naive_code.specs.Operations as code
use Rattle.naive_code.specs.Operations.{Op, Falls, Jumps, Branches, Close, constant, add, read_stack, set_result}
use Rattle.naive_code.specs.Storage.{Symbol, Frame, Storage, Temporary, Word, Elements, Missing}
use Rattle.naive_code.specs.Expressions.{Value, Test, Site, naive, put_into, put_at}
use Rattle.naive_code.specs.Statements as steps
use Rattle.naive_code.specs.Statements.{Around, Steps, no_steps, joined, all_joined, used, dropped}
use Rattle.naive_fits.proofs.Windows.{window, count, count_append, cut, one_label, two_labels, three_labels, four_labels}
use Rattle.naive_fits.proofs.ExpressionLabels.{ValueOpens, TestOpens, put_none, put_into_none, expression_opens}

pub record StepsOpen (p : Steps) : Type 0 where
  pub ops : (a : Around) (t l x : ℕ) → count x (p.ops a t l) ≤ window l p.labels x

no_steps_open : StepsOpen no_steps
no_steps_open = record { ops = λ a t l x. omega arith }

joined_open : (p q : Steps) → StepsOpen p → StepsOpen q → StepsOpen (joined p q)
joined_open p q g h = record {
  ops = λ a t l x.
      let u = t + p.temps in let k = l + p.labels in
      let e = count_append x (p.ops a t l) (q.ops a u k) in
      let c = cut l p.labels q.labels k (p.labels + q.labels) x refl refl in
      let i = g.ops a t l x in let j = h.ops a u k x in
      omega (arith, e, c, i, j);
}

dropped_open : (v : Value) → ValueOpens v → StepsOpen (dropped v)
dropped_open v h = record { ops = λ a t l x. h t l x }

used_open : (v : Value) (depths : List ℕ) (os : ℕ → ℕ → List Op) → ValueOpens v → ((r s x : ℕ) → count x (os r s) ≡ 0) → StepsOpen (used v depths os)
used_open v depths os h none = record {
  ops = λ a t l x.
      let e = count_append x (v.ops t l) (os (v.result t) (t + v.temps)) in
      let i = h t l x in let j = none (v.result t) (t + v.temps) x in
      omega (arith, e, i, j);
}

module _ (c : Site) (locals : List Object) where
  value_of : (e : TypedExpr) → ValueOpens (naive c e).value
  value_of e = (expression_opens c e).value

  test_of : (e : TypedExpr) → TestOpens (naive c e).test
  test_of e = (expression_opens c e).test

  -- ---- declarations

  put_element_opens : (s : Storage) (i : ℕ) (v : Value) → ValueOpens v → StepsOpen (steps.put_element c.bits s i v)
  put_element_opens (Elements (Frame offset) of) i v h =
      used_open v (1 ∷ 2 ∷ []) (λ r t. read_stack t ∷ constant (t + 1) (offset + i * element_bytes c.bits of) ∷ add t (t + 1) ∷ put_at of t r) h
      (λ r t x. put_none of t r x)
  put_element_opens (Elements (Symbol y) of) i v h = no_steps_open
  put_element_opens (Temporary n) i v h = no_steps_open
  put_element_opens (Word y) i v h = no_steps_open
  put_element_opens Missing i v h = no_steps_open

  put_elements_open : (s : Storage) (i : ℕ) (es : List TypedExpr) → StepsOpen (steps.put_elements c s i es)
  put_elements_open s i [] = no_steps_open
  put_elements_open s i (e ∷ es) =
      joined_open (steps.put_element c.bits s i (naive c e).value) (steps.put_elements c s (suc i) es)
      (put_element_opens s i (naive c e).value (value_of e)) (put_elements_open s (suc i) es)

  cleared_opens : (s : Storage) (from to : ℕ) → StepsOpen (steps.cleared c.bits s from to)
  cleared_opens (Elements (Frame offset) of) from to = record {
    ops = λ a t l x.
        let e = count_append x (put_at of t (t + 4)) (add t (t + 5) ∷ Close (Branches Ne t (t + 1) l) (l + 1) ∷ []) in
        let p = put_none of t (t + 4) x in let d = two_labels l x in
        omega (arith, e, p, d);
  }
  cleared_opens (Elements (Symbol y) of) from to = no_steps_open
  cleared_opens (Temporary n) from to = no_steps_open
  cleared_opens (Word y) from to = no_steps_open
  cleared_opens Missing from to = no_steps_open

  cleared_rest_opens : (s : Storage) (listed size : ℕ) → StepsOpen (steps.cleared_rest c.bits s listed size)
  cleared_rest_opens s listed size = by_test (nat_lt listed size)
    where
      by_test : (b : Bool) → StepsOpen (if b then steps.cleared c.bits s listed size else no_steps)
      by_test true = cleared_opens s listed size
      by_test false = no_steps_open

  init_opens : (x : ℕ) (i : LocalInit) → StepsOpen (steps.init_steps c locals x i)
  init_opens x init.Absent = no_steps_open
  init_opens x (init.Value e) =
      used_open (naive c e).value (1 ∷ []) (λ r t. put_into (steps.storage_of_local c x) 0 r t) (value_of e) (λ r t y. put_into_none (steps.storage_of_local c x) 0 r t y)
  init_opens x (init.List es) =
      joined_open (steps.put_elements c (steps.storage_of_local c x) 0 es) (steps.cleared_rest c.bits (steps.storage_of_local c x) (length es) (length_of (slice_get locals x)))
      (put_elements_open (steps.storage_of_local c x) 0 es) (cleared_rest_opens (steps.storage_of_local c x) (length es) (length_of (slice_get locals x)))

  locals_open : (ls : List Local) → StepsOpen (steps.locals_steps c locals ls)
  locals_open [] = no_steps_open
  locals_open (l ∷ ls) = joined_open (steps.init_steps c locals l.number l.init) (steps.locals_steps c locals ls) (init_opens l.number l.init) (locals_open ls)

  evaluated_opens : (o : Option TypedExpr) → StepsOpen (steps.evaluated c locals o)
  evaluated_opens None = no_steps_open
  evaluated_opens (Some e) = dropped_open (naive c e).value (value_of e)

  started_opens : (s : Start) → StepsOpen (steps.started c locals s)
  started_opens start.Absent = no_steps_open
  started_opens (start.Value e) = dropped_open (naive c e).value (value_of e)
  started_opens (start.Declared at ls) = locals_open ls

  test_in_opens : (o : Option TypedExpr) → TestOpens (steps.test_in c locals o)
  test_in_opens None sense target next t l x = omega arith
  test_in_opens (Some e) sense target next t l x = test_of e sense target next t l x

  -- ---- statements

  if_opens : (e : Test) (p : Steps) → TestOpens e → StepsOpen p → StepsOpen (steps.if_steps c locals e p None)
  if_opens e p g h = record {
    ops = λ a t l x.
        let k = l + 2 + e.labels in
        let o1 = e.ops false l (l + 1) t (l + 2) in let o2 = p.ops a (t + e.temps) k in let last = Close Falls l ∷ [] in
        let z = count_append x o1 (o2 ++ last) in let z1 = count_append x o2 last in
        let c1 = cut l (2 + e.labels) p.labels k (2 + e.labels + p.labels) x (omega arith) refl in
        let c2 = cut l 2 e.labels (l + 2) (2 + e.labels) x refl refl in let c3 = two_labels l x in
        let i = g false l (l + 1) t (l + 2) x in let j = h.ops a (t + e.temps) k x in
        omega (arith, z, z1, c1, c2, c3, i, j);
  }

  if_else_opens : (e : Test) (p q : Steps) → TestOpens e → StepsOpen p → StepsOpen q → StepsOpen (steps.if_steps c locals e p (Some q))
  if_else_opens e p q g h i = record {
    ops = λ a t l x.
        let k1 = l + 3 + e.labels in let k2 = k1 + p.labels in
        let o1 = e.ops false l (l + 1) t (l + 3) in let o2 = p.ops a (t + e.temps) k1 in let o3 = q.ops a (t + e.temps + p.temps) k2 in
        let last = Close Falls (l + 2) ∷ [] in let middle = Close (Jumps (l + 2)) l ∷ (o3 ++ last) in
        let z = count_append x o1 (o2 ++ middle) in let z1 = count_append x o2 middle in let z2 = count_append x o3 last in
        let c0 = cut l (3 + e.labels + p.labels) q.labels k2 (3 + e.labels + p.labels + q.labels) x (omega arith) refl in
        let c1 = cut l (3 + e.labels) p.labels k1 (3 + e.labels + p.labels) x (omega arith) refl in
        let c2 = cut l 3 e.labels (l + 3) (3 + e.labels) x refl refl in let c3 = three_labels l x in
        let j1 = g false l (l + 1) t (l + 3) x in let j2 = h.ops a (t + e.temps) k1 x in let j3 = i.ops a (t + e.temps + p.temps) k2 x in
        omega (arith, z, z1, z2, c0, c1, c2, c3, j1, j2, j3);
  }

  while_opens : (e : Test) (p : Steps) → TestOpens e → StepsOpen p → StepsOpen (steps.while_steps c locals e p)
  while_opens e p g h = record {
    ops = λ a t l x.
        let b : Around = record { breaks = l; continues = l + 1 } in
        let k = l + 3 + e.labels in
        let o1 = e.ops false l (l + 2) t (l + 3) in let o2 = p.ops b (t + e.temps) k in let last = Close (Jumps (l + 1)) l ∷ [] in
        let z = count_append x o1 (o2 ++ last) in let z1 = count_append x o2 last in
        let c1 = cut l (3 + e.labels) p.labels k (3 + e.labels + p.labels) x (omega arith) refl in
        let c2 = cut l 3 e.labels (l + 3) (3 + e.labels) x refl refl in let c3 = three_labels l x in
        let i = g false l (l + 2) t (l + 3) x in let j = h.ops b (t + e.temps) k x in
        omega (arith, z, z1, c1, c2, c3, i, j);
  }

  do_opens : (p : Steps) (e : Test) → StepsOpen p → TestOpens e → StepsOpen (steps.do_steps c locals p e)
  do_opens p e h g = record {
    ops = λ a t l x.
        let b : Around = record { breaks = l; continues = l + 2 } in
        let k = l + 3 + p.labels in
        let o1 = p.ops b t (l + 3) in let o2 = e.ops true (l + 1) l (t + p.temps) k in
        let z = count_append x o1 (Close Falls (l + 2) ∷ o2) in
        let c1 = cut l (3 + p.labels) e.labels k (3 + p.labels + e.labels) x (omega arith) refl in
        let c2 = cut l 3 p.labels (l + 3) (3 + p.labels) x refl refl in let c3 = three_labels l x in
        let i = h.ops b t (l + 3) x in let j = g true (l + 1) l (t + p.temps) k x in
        omega (arith, z, c1, c2, c3, i, j);
  }

  for_opens : (first : Steps) (e : Test) (step p : Steps) → StepsOpen first → TestOpens e → StepsOpen step → StepsOpen p → StepsOpen (steps.for_steps c locals first e step p)
  for_opens first e step p f g s h = record {
    ops = λ a t l x.
        let b : Around = record { breaks = l; continues = l + 3 } in
        let t1 = t + first.temps in let t2 = t1 + e.temps in let t3 = t2 + p.temps in
        let l1 = l + 4 + first.labels in let l2 = l1 + e.labels in let l3 = l2 + p.labels in
        let o1 = first.ops a t (l + 4) in let o2 = e.ops false l (l + 2) t1 l1 in let o3 = p.ops b t2 l2 in let o4 = step.ops a t3 l3 in
        let last = Close (Jumps (l + 1)) l ∷ [] in
        let z = count_append x o1 (Close Falls (l + 1) ∷ (o2 ++ (o3 ++ Close Falls (l + 3) ∷ (o4 ++ last)))) in
        let z1 = count_append x o2 (o3 ++ Close Falls (l + 3) ∷ (o4 ++ last)) in let z2 = count_append x o3 (Close Falls (l + 3) ∷ (o4 ++ last)) in
        let z3 = count_append x o4 last in
        let n1 = 4 + first.labels in let n2 = n1 + e.labels in let n3 = n2 + p.labels in
        let c0 = cut l n3 step.labels l3 (n3 + step.labels) x (omega arith) refl in let c1 = cut l n2 p.labels l2 n3 x (omega arith) refl in
        let c2 = cut l n1 e.labels l1 n2 x (omega arith) refl in let c3 = cut l 4 first.labels (l + 4) n1 x refl refl in let c4 = four_labels l x in
        let i1 = f.ops a t (l + 4) x in let i2 = g false l (l + 2) t1 l1 x in let i3 = h.ops b t2 l2 x in let i4 = s.ops a t3 l3 x in
        omega (arith, z, z1, z2, z3, c0, c1, c2, c3, c4, i1, i2, i3, i4);
  }

  -- ---- switch

  abbrev valued : List (Option ℕ × ℕ) → ℕ
  valued = steps.valued c locals

  dispatched_open : (r base t l x : ℕ) (cs : List (Option ℕ × ℕ)) → count x (steps.dispatched c locals r base t l cs) ≤ window l (valued cs) x
  dispatched_open r base t l x [] = omega arith
  dispatched_open r base t l x ((Some v, k) ∷ cs) =
      let e = dispatched_open r base (t + 1) (l + 1) x cs in
      let d = cut l 1 (valued cs) (l + 1) (suc (valued cs)) x refl (omega arith) in let i = one_label l x in
      omega (arith, e, d, i)
  dispatched_open r base t l x ((None, k) ∷ cs) = dispatched_open r base t l x cs

  switch_opens : (e : Value) (p : Steps) → ValueOpens e → StepsOpen p → StepsOpen (steps.switch_steps c locals e p)
  switch_opens e p g h = record {
    ops = λ a t l x.
        let n = valued p.cases in
        let base = l + 2 + n + e.labels in
        let b : Around = record { breaks = l; continues = a.continues } in
        let o1 = e.ops t (l + 2 + n) in
        let o2 = steps.dispatched c locals (e.result t) base (t + e.temps) (l + 2) p.cases in
        let o3 = p.ops b (t + e.temps + n) base in
        let last = Close Falls l ∷ [] in
        let jump = Close (Jumps (steps.otherwise c locals base l p.cases)) (l + 1) in
        let z = count_append x o1 (o2 ++ jump ∷ (o3 ++ last)) in let z1 = count_append x o2 (jump ∷ (o3 ++ last)) in let z2 = count_append x o3 last in
        let c0 = cut l (2 + n + e.labels) p.labels base (2 + n + e.labels + p.labels) x (omega arith) refl in
        let c1 = cut l (2 + n) e.labels (l + 2 + n) (2 + n + e.labels) x (omega arith) refl in
        let c2 = cut l 2 n (l + 2) (2 + n) x refl refl in let c3 = two_labels l x in
        let i1 = g t (l + 2 + n) x in let i2 = dispatched_open (e.result t) base (t + e.temps) (l + 2) x p.cases in
        let i3 = h.ops b (t + e.temps + n) base x in
        omega (arith, z, z1, z2, c0, c1, c2, c3, i1, i2, i3);
  }

  labelled_opens : (v : Option ℕ) (p : Steps) → StepsOpen p → StepsOpen (steps.labelled c locals v p)
  labelled_opens v p h = record {
    ops = λ a t l x.
        let d = cut l 1 p.labels (l + 1) (1 + p.labels) x refl refl in let i = one_label l x in
        let j = h.ops a t (l + 1) x in
        omega (arith, d, i, j);
  }

  leaving_opens : (stop : Around → code.Stop) → StepsOpen (steps.leaving c locals stop)
  leaving_opens stop = record { ops = λ a t l x. let i = one_label l x in omega (arith, i) }

  return_opens : (o : Option TypedExpr) → StepsOpen (steps.return_steps c locals o)
  return_opens None = leaving_opens (λ a. code.Returns)
  return_opens (Some e) =
      joined_open (used (naive c e).value [] (λ r t. set_result r ∷ [])) (steps.leaving c locals (λ a. code.Returns))
      (used_open (naive c e).value [] (λ r t. set_result r ∷ []) (value_of e) (λ r t x. refl)) (leaving_opens (λ a. code.Returns))

  -- ---- all of them

  abbrev R : Steps → ℕ → Type 0
  R p n = StepsOpen p

  abbrev T : Type 0
  T = Both R

  list_opens : (ss : List T) → StepsOpen (all_joined (map (λ e. e.0) ss))
  list_opens [] = no_steps_open
  list_opens (s ∷ ss) = joined_open s.0 (all_joined (map (λ e. e.0) ss)) s.2 (list_opens ss)

  node_opens : (y : stat.Stat-F T) → StepsOpen (steps.node_steps c locals (map-Stat T Steps (λ e. e.0) y))
  node_opens (stat.Block at ss) = record { ops = (list_opens ss).ops }
  node_opens (stat.Declare at ls) = locals_open ls
  node_opens (stat.Evaluate at e) = evaluated_opens e
  node_opens (stat.If at e a None) = if_opens (naive c e).test a.0 (test_of e) a.2
  node_opens (stat.If at e a (Some b)) = if_else_opens (naive c e).test a.0 b.0 (test_of e) a.2 b.2
  node_opens (stat.While at e a) = while_opens (naive c e).test a.0 (test_of e) a.2
  node_opens (stat.DoWhile at a e) = do_opens a.0 (naive c e).test a.2 (test_of e)
  node_opens (stat.For at first test step a) =
      for_opens (steps.started c locals first) (steps.test_in c locals test) (steps.evaluated c locals step) a.0 (started_opens first) (test_in_opens test)
      (evaluated_opens step) a.2
  node_opens (stat.Switch at e ss) = switch_opens (naive c e).value (all_joined (map (λ e. e.0) ss)) (value_of e) (list_opens ss)
  node_opens (stat.Case at v a) = labelled_opens (Some v) a.0 a.2
  node_opens (stat.Default at a) = labelled_opens None a.0 a.2
  node_opens (stat.Break at) = leaving_opens (λ a. Jumps a.breaks)
  node_opens (stat.Continue at) = leaving_opens (λ a. Jumps a.continues)
  node_opens (stat.Return at e) = return_opens e

  pub statement_opens : (s : Stat) → StepsOpen (steps.steps_of c locals s)
  statement_opens = stat_relates Steps ℕ (steps.node_steps c locals) (λ y. 0) R node_opens
