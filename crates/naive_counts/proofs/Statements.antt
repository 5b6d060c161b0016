-- The code of a statement takes no more transfers than the statement weighs; a case keeps three for the switch that it stands in.
use Rattle.std.proofs.Common.{◌≡◌, ℕ, suc, ◌+◌, ◌*◌, ◌≤◌, List, [], ◌∷◌, ◌++◌, map, Option, Some, None, refl, ap, arith, true, false}
use Rattle.std.specs.Prelude.{Bool, length, slice_get, nat_lt, if◌then◌else◌}
use Rattle.rtl_word.specs.declared.Rel.TheVariants.{Ne}
use Rattle.c_tree.specs.declared.typed.TypedExpr.{TypedExpr}
use Rattle.c_tree.specs.declared.typed.LocalInit.{LocalInit}
use Rattle.c_tree.specs.declared.typed.LocalInit.TheVariants as init
use Rattle.c_tree.specs.declared.typed.Local.{Local}
use Rattle.c_tree.specs.declared.typed.Start.{Start}
use Rattle.c_tree.specs.declared.typed.Start.TheVariants as start
use Rattle.c_tree.specs.declared.typed.Stat.{Stat}
use Rattle.c_tree.specs.declared.typed.Stat.TheOpen as stat
use Rattle.c_tree.specs.declared.typed.Stat.TheFolds.{map-Stat}
use Rattle.c_tree.specs.declared.typed.Function.{Function}
use Rattle.c_tree.specs.declared.typed.Typed.{Typed}
use Rattle.c_limits.specs.Frames.{element_bytes}
use Rattle.c_limits.specs.Sums.{total}
use Rattle.c_limits.specs.Weights.{expr_weight, each_of, option_weight, length_of, init_weight, locals_weight, local_weight, start_weight, statement_weight, stat_weight}
use Rattle.naive_code.specs.Operations as code
use Rattle.naive_code.specs.Operations.{Op, Falls, Jumps, Branches, Close, constant, add, read_stack, set_result}
use Rattle.naive_code.specs.Storage.{Symbol, Frame, Storage, Temporary, Word, Elements, Missing}
use Rattle.naive_code.specs.Expressions.{Site, naive, put_into, put_at}
use Rattle.naive_code.specs.Statements as steps
use Rattle.naive_code.specs.Statements.{Around, Steps, no_steps, joined, all_joined, used, dropped, enclosed, shifted}
use Rattle.naive_counts.specs.Counts.{most_with}
use Rattle.naive_counts.specs.Names.{all_true, expression_names, option_names, list_names, init_names, locals_names, start_names, names_by, names_scalars}
use Rattle.naive_counts.proofs.Longest.{most_append}
use Rattle.naive_counts.proofs.Folds.{Three, statements_relate}
use Rattle.naive_counts.proofs.Expressions.{both_so, put_most, put_into_most, site, expression_within}

-- where a return counts as so many transfers
module _ (kept : List ℕ) (w : ℕ) (t : Typed) (f : Function) (per : ℕ) (small : per ≤ 3 + length kept) where
  abbrev here : Site
  here = site per kept w t f

  abbrev valued : List (Option ℕ × ℕ) → ℕ
  valued = steps.valued here f.locals

  pub record Takes (p : Steps) (n : ℕ) : Type 0 where
    pub ops : (a : Around) (first label : ℕ) → most_with per (p.ops a first label) + 3 * valued p.cases ≤ n

  more : (p : Steps) (n m : ℕ) → n ≤ m → Takes p n → Takes p m
  more p n m le h = record { ops = λ a first label. let g = h.ops a first label in omega (arith, g, le) }

  -- ---- cases

  valued_append : (xs ys : List (Option ℕ × ℕ)) → valued (xs ++ ys) ≡ valued xs + valued ys
  valued_append [] ys = omega arith
  valued_append ((Some v, k) ∷ xs) ys = let e = valued_append xs ys in omega (arith, e)
  valued_append ((None, k) ∷ xs) ys = valued_append xs ys

  valued_shifted : (n : ℕ) (xs : List (Option ℕ × ℕ)) → valued (map (shifted n) xs) ≡ valued xs
  valued_shifted n [] = refl
  valued_shifted n ((Some v, k) ∷ xs) = ap suc (valued_shifted n xs)
  valued_shifted n ((None, k) ∷ xs) = valued_shifted n xs

  dispatched_most : (r base first label : ℕ) (cs : List (Option ℕ × ℕ)) → most_with per (steps.dispatched here f.locals r base first label cs) ≡ 3 * valued cs
  dispatched_most r base first label [] = refl
  dispatched_most r base first label ((Some v, k) ∷ cs) = let e = dispatched_most r base (first + 1) (label + 1) cs in omega (arith, e)
  dispatched_most r base first label ((None, k) ∷ cs) = dispatched_most r base first label cs

  -- ---- one after the other

  no_takes : Takes no_steps 0
  no_takes = record { ops = λ a first label. omega arith }

  joined_takes : (p q : Steps) (n m : ℕ) → Takes p n → Takes q m → Takes (joined p q) (n + m)
  joined_takes p q n m g h = record {
    ops = λ a first label.
        let e = most_append per (p.ops a first label) (q.ops a (first + p.temps) (label + p.labels)) in
        let e1 = valued_append p.cases (map (shifted p.labels) q.cases) in let e2 = valued_shifted p.labels q.cases in
        let x = g.ops a first label in let y = h.ops a (first + p.temps) (label + p.labels) in
        omega (arith, e, e1, e2, x, y);
  }

  abbrev Values : TypedExpr → Type 0
  Values e = (a l : ℕ) → most_with per ((naive here e).value.ops a l) ≤ expr_weight e

  value_of : (e : TypedExpr) → expression_names t f e ≡ true → Values e
  value_of e so = (expression_within per kept w t f e so).value

  test_of : (e : TypedExpr) → expression_names t f e ≡ true → (sense : Bool) (target next a l : ℕ) → most_with per ((naive here e).test.ops sense target next a l) ≤ expr_weight e + 3
  test_of e so = (expression_within per kept w t f e so).test

  dropped_takes : (e : TypedExpr) → Values e → Takes (dropped (naive here e).value) (expr_weight e)
  dropped_takes e h = record { ops = λ a first label. let g = h first label in omega (arith, g) }

  used_takes : (e : TypedExpr) (depths : List ℕ) (os : ℕ → ℕ → List Op) (n : ℕ) → Values e → ((r s : ℕ) → most_with per (os r s) ≤ n) → Takes (used (naive here e).value depths os) (n + expr_weight e)
  used_takes e depths os n h g = record {
    ops = λ a first label.
        let v = (naive here e).value in
        let x = most_append per (v.ops first label) (os (v.result first) (first + v.temps)) in
        let y = h first label in let z = g (v.result first) (first + v.temps) in
        omega (arith, x, y, z);
  }

  -- ---- declarations

  put_element_takes : (s : Storage) (i : ℕ) (e : TypedExpr) → Values e → Takes (steps.put_element w s i (naive here e).value) (12 + expr_weight e)
  put_element_takes (Elements (Frame offset) of) i e h =
      more _ (4 + expr_weight e) (12 + expr_weight e) (omega arith)
      (used_takes e (1 ∷ 2 ∷ []) (λ r s. read_stack s ∷ constant (s + 1) (offset + i * element_bytes w of) ∷ add s (s + 1) ∷ put_at of s r) 4 h (λ r s. let p = put_most per of s r in omega (arith, p)))
  put_element_takes (Elements (Symbol y) of) i e h = more _ 0 _ (omega arith) no_takes
  put_element_takes (Temporary n) i e h = more _ 0 _ (omega arith) no_takes
  put_element_takes (Word y) i e h = more _ 0 _ (omega arith) no_takes
  put_element_takes Missing i e h = more _ 0 _ (omega arith) no_takes

  put_elements_take : (s : Storage) (i : ℕ) (es : List TypedExpr) → list_names t f es ≡ true → Takes (steps.put_elements here s i es) (each_of 12 es)
  put_elements_take s i [] so = no_takes
  put_elements_take s i (e ∷ es) so =
      let b = both_so _ _ so in
      joined_takes (steps.put_element w s i (naive here e).value) (steps.put_elements here s (suc i) es) (12 + expr_weight e) (each_of 12 es)
      (put_element_takes s i e (value_of e b.0)) (put_elements_take s (suc i) es b.1)

  cleared_takes : (s : Storage) (from to : ℕ) → Takes (steps.cleared w s from to) 24
  cleared_takes (Elements (Frame offset) of) from to = record {
    ops = λ a first label.
        let e = most_append per (put_at of first (first + 4)) (add first (first + 5) ∷ Close (Branches Ne first (first + 1) label) (label + 1) ∷ []) in
        let p = put_most per of first (first + 4) in
        omega (arith, e, p);
  }
  cleared_takes (Elements (Symbol y) of) from to = more _ 0 _ (omega arith) no_takes
  cleared_takes (Temporary n) from to = more _ 0 _ (omega arith) no_takes
  cleared_takes (Word y) from to = more _ 0 _ (omega arith) no_takes
  cleared_takes Missing from to = more _ 0 _ (omega arith) no_takes

  cleared_rest_takes : (s : Storage) (listed size : ℕ) → Takes (steps.cleared_rest w s listed size) (if nat_lt listed size then 24 else 0)
  cleared_rest_takes s listed size = by_test (nat_lt listed size)
    where
      by_test : (b : Bool) → Takes (if b then steps.cleared w s listed size else no_steps) (if b then 24 else 0)
      by_test true = cleared_takes s listed size
      by_test false = no_takes

  init_takes : (x : ℕ) (i : LocalInit) → init_names t f i ≡ true → Takes (steps.init_steps here f.locals x i) (init_weight (length_of (slice_get f.locals x)) i)
  init_takes x init.Absent so = no_takes
  init_takes x (init.Value e) so =
      used_takes e (1 ∷ []) (λ r s. put_into (steps.storage_of_local here x) 0 r s) 2 (value_of e so) (λ r s. put_into_most per (steps.storage_of_local here x) 0 r s)
  init_takes x (init.List es) so =
      joined_takes (steps.put_elements here (steps.storage_of_local here x) 0 es) (steps.cleared_rest w (steps.storage_of_local here x) (length es) (length_of (slice_get f.locals x))) (each_of 12 es) _
      (put_elements_take (steps.storage_of_local here x) 0 es so) (cleared_rest_takes (steps.storage_of_local here x) (length es) (length_of (slice_get f.locals x)))

  locals_take : (ls : List Local) → locals_names t f ls ≡ true → Takes (steps.locals_steps here f.locals ls) (locals_weight f.locals ls)
  locals_take [] so = no_takes
  locals_take (l ∷ ls) so =
      let b = both_so _ _ so in
      joined_takes (steps.init_steps here f.locals l.number l.init) (steps.locals_steps here f.locals ls) (local_weight f.locals l) (locals_weight f.locals ls) (init_takes l.number l.init b.0) (locals_take ls b.1)

  evaluated_takes : (o : Option TypedExpr) → option_names t f o ≡ true → Takes (steps.evaluated here f.locals o) (option_weight o)
  evaluated_takes None so = no_takes
  evaluated_takes (Some e) so = dropped_takes e (value_of e so)

  started_takes : (s : Start) → start_names t f s ≡ true → Takes (steps.started here f.locals s) (start_weight f.locals s)
  started_takes start.Absent so = no_takes
  started_takes (start.Value e) so = dropped_takes e (value_of e so)
  started_takes (start.Declared at ls) so = locals_take ls so

  test_in_most : (o : Option TypedExpr) → option_names t f o ≡ true → (sense : Bool) (target next a l : ℕ) → most_with per ((steps.test_in here f.locals o).ops sense target next a l) ≤ option_weight o + 3
  test_in_most None so sense target next a l = omega arith
  test_in_most (Some e) so sense target next a l = test_of e so sense target next a l

  -- ---- statements

  -- without cases
  alone : (p : Steps) (n : ℕ) → p.cases ≡ [] → ((a : Around) (first label : ℕ) → most_with per (p.ops a first label) ≤ n) → Takes p n
  alone p n e h = record { ops = λ a first label. let z : valued p.cases ≡ 0 = ap valued e in let g = h a first label in omega (arith, z, g) }

  abbrev Code_in : Steps → ℕ → Type 0
  Code_in p n = (a : Around) (first label : ℕ) → most_with per (p.ops a first label) ≤ n

  code_of : (p : Steps) (n : ℕ) → Takes p n → Code_in p n
  code_of p n h a first label = let g = h.ops a first label in omega (arith, g)

  if_takes : (e : TypedExpr) (p : Steps) (n : ℕ) → expression_names t f e ≡ true → Takes p n → Takes (steps.if_steps here f.locals (naive here e).test p None) (8 + expr_weight e + n + 0)
  if_takes e p n so h = alone _ _ refl (λ a first label.
      let x = (naive here e).test in
      let o1 = x.ops false label (label + 1) first (label + 2) in let o2 = p.ops a (first + x.temps) (label + 2 + x.labels) in
      let z = most_append per o1 (o2 ++ Close Falls label ∷ []) in let z1 = most_append per o2 (Close Falls label ∷ []) in
      let g = test_of e so false label (label + 1) first (label + 2) in let g1 = code_of p n h a (first + x.temps) (label + 2 + x.labels) in
      omega (arith, z, z1, g, g1))

  if_else_takes : (e : TypedExpr) (p q : Steps) (n m : ℕ) → expression_names t f e ≡ true → Takes p n → Takes q m → Takes (steps.if_steps here f.locals (naive here e).test p (Some q)) (8 + expr_weight e + n + m)
  if_else_takes e p q n m so h k = alone _ _ refl (λ a first label.
      let x = (naive here e).test in
      let o1 = x.ops false label (label + 1) first (label + 3) in
      let o2 = p.ops a (first + x.temps) (label + 3 + x.labels) in
      let o3 = q.ops a (first + x.temps + p.temps) (label + 3 + x.labels + p.labels) in
      let last = Close Falls (label + 2) ∷ [] in
      let z = most_append per o1 (o2 ++ Close (Jumps (label + 2)) label ∷ (o3 ++ last)) in let z1 = most_append per o2 (Close (Jumps (label + 2)) label ∷ (o3 ++ last)) in let z2 = most_append per o3 last in
      let g = test_of e so false label (label + 1) first (label + 3) in
      let g1 = code_of p n h a (first + x.temps) (label + 3 + x.labels) in
      let g2 = code_of q m k a (first + x.temps + p.temps) (label + 3 + x.labels + p.labels) in
      omega (arith, z, z1, z2, g, g1, g2))

  while_takes : (e : TypedExpr) (p : Steps) (n : ℕ) → expression_names t f e ≡ true → Takes p n → Takes (steps.while_steps here f.locals (naive here e).test p) (10 + expr_weight e + n)
  while_takes e p n so h = alone _ _ refl (λ a first label.
      let x = (naive here e).test in
      let b : Around = record { breaks = label; continues = label + 1 } in
      let o1 = x.ops false label (label + 2) first (label + 3) in let o2 = p.ops b (first + x.temps) (label + 3 + x.labels) in
      let last = Close (Jumps (label + 1)) label ∷ [] in
      let z = most_append per o1 (o2 ++ last) in let z1 = most_append per o2 last in
      let g = test_of e so false label (label + 2) first (label + 3) in let g1 = code_of p n h b (first + x.temps) (label + 3 + x.labels) in
      omega (arith, z, z1, g, g1))

  do_takes : (e : TypedExpr) (p : Steps) (n : ℕ) → expression_names t f e ≡ true → Takes p n → Takes (steps.do_steps here f.locals p (naive here e).test) (10 + n + expr_weight e)
  do_takes e p n so h = alone _ _ refl (λ a first label.
      let x = (naive here e).test in
      let b : Around = record { breaks = label; continues = label + 2 } in
      let o1 = p.ops b first (label + 3) in let o2 = x.ops true (label + 1) label (first + p.temps) (label + 3 + p.labels) in
      let z = most_append per o1 (Close Falls (label + 2) ∷ o2) in
      let g = test_of e so true (label + 1) label (first + p.temps) (label + 3 + p.labels) in let g1 = code_of p n h b first (label + 3) in
      omega (arith, z, g, g1))

  for_takes : (s : Start) (e o : Option TypedExpr) (p : Steps) (n : ℕ) → start_names t f s ≡ true → option_names t f e ≡ true → option_names t f o ≡ true → Takes p n
      → Takes (steps.for_steps here f.locals (steps.started here f.locals s) (steps.test_in here f.locals e) (steps.evaluated here f.locals o) p) (10 + start_weight f.locals s + option_weight e + option_weight o + n)
  for_takes s e o p n so_s so_e so_o h = alone _ _ refl (λ a first label.
      let begin = steps.started here f.locals s in let x = steps.test_in here f.locals e in let step = steps.evaluated here f.locals o in
      let b : Around = record { breaks = label; continues = label + 3 } in
      let t1 = first + begin.temps in let t2 = t1 + x.temps in let t3 = t2 + p.temps in
      let l1 = label + 4 + begin.labels in let l2 = l1 + x.labels in let l3 = l2 + p.labels in
      let o1 = begin.ops a first (label + 4) in let o2 = x.ops false label (label + 2) t1 l1 in let o3 = p.ops b t2 l2 in let o4 = step.ops a t3 l3 in
      let last = Close (Jumps (label + 1)) label ∷ [] in
      let z = most_append per o1 (Close Falls (label + 1) ∷ (o2 ++ (o3 ++ Close Falls (label + 3) ∷ (o4 ++ last)))) in
      let z1 = most_append per o2 (o3 ++ Close Falls (label + 3) ∷ (o4 ++ last)) in let z2 = most_append per o3 (Close Falls (label + 3) ∷ (o4 ++ last)) in let z3 = most_append per o4 last in
      let g = code_of begin _ (started_takes s so_s) a first (label + 4) in let g1 = test_in_most e so_e false label (label + 2) t1 l1 in
      let g2 = code_of p n h b t2 l2 in let g3 = code_of step _ (evaluated_takes o so_o) a t3 l3 in
      omega (arith, z, z1, z2, z3, g, g1, g2, g3))

  switch_takes : (e : TypedExpr) (p : Steps) (n : ℕ) → expression_names t f e ≡ true → Takes p n → Takes (steps.switch_steps here f.locals (naive here e).value p) (6 + expr_weight e + n)
  switch_takes e p n so h = alone _ _ refl (λ a first label.
      let v = (naive here e).value in let k = valued p.cases in
      let base = label + 2 + k + v.labels in
      let b : Around = record { breaks = label; continues = a.continues } in
      let o1 = v.ops first (label + 2 + k) in
      let o2 = steps.dispatched here f.locals (v.result first) base (first + v.temps) (label + 2) p.cases in
      let o3 = p.ops b (first + v.temps + k) base in
      let last = Close Falls label ∷ [] in
      let jump = Close (Jumps (steps.otherwise here f.locals base label p.cases)) (label + 1) in
      let z = most_append per o1 (o2 ++ jump ∷ (o3 ++ last)) in let z1 = most_append per o2 (jump ∷ (o3 ++ last)) in let z2 = most_append per o3 last in
      let g = value_of e so first (label + 2 + k) in let g1 = dispatched_most (v.result first) base (first + v.temps) (label + 2) p.cases in
      let g2 = h.ops b (first + v.temps + k) base in
      omega (arith, z, z1, z2, g, g1, g2))

  case_takes : (v : ℕ) (p : Steps) (n : ℕ) → Takes p n → Takes (steps.labelled here f.locals (Some v) p) (4 + n)
  case_takes v p n h = record {
    ops = λ a first label. let e = valued_shifted 1 p.cases in let g = h.ops a first (label + 1) in omega (arith, e, g);
  }

  default_takes : (p : Steps) (n : ℕ) → Takes p n → Takes (steps.labelled here f.locals None p) n
  default_takes p n h = record {
    ops = λ a first label. let e = valued_shifted 1 p.cases in let g = h.ops a first (label + 1) in omega (arith, e, g);
  }

  return_takes : (o : Option TypedExpr) → option_names t f o ≡ true → Takes (steps.return_steps here f.locals o) (4 + length kept + option_weight o)
  return_takes None so = alone _ _ refl (λ a first label. omega (arith, small))
  return_takes (Some e) so =
      more _ (1 + expr_weight e + per) _ (omega (arith, small))
      (joined_takes (used (naive here e).value [] (λ r s. set_result r ∷ [])) (steps.leaving here f.locals (λ a. code.Returns)) (1 + expr_weight e) per
      (used_takes e [] (λ r s. set_result r ∷ []) 1 (value_of e so) (λ r s. omega arith)) (alone _ _ refl (λ a first label. omega arith)))

  -- ---- all of them

  abbrev Within : Steps → ℕ → Bool → Type 0
  Within p n b = b ≡ true → Takes p n

  abbrev T : Type 0
  T = Three Steps ℕ Bool Within

  list_takes : (ss : List T) → all_true (map (λ e. e.2) ss) ≡ true → Takes (all_joined (map (λ e. e.0) ss)) (total (map (λ e. e.1) ss))
  list_takes [] so = no_takes
  list_takes (s ∷ ss) so =
      let b = both_so _ _ so in
      joined_takes s.0 (all_joined (map (λ e. e.0) ss)) s.1 (total (map (λ e. e.1) ss)) (s.3 b.0) (list_takes ss b.1)

  node_within : (y : stat.Stat-F T) → Within (steps.node_steps here f.locals (map-Stat T Steps (λ e. e.0) y)) (statement_weight kept f.locals (map-Stat T ℕ (λ e. e.1) y)) (names_by t f (map-Stat T Bool (λ e. e.2) y))
  node_within (stat.Block at ss) so = alone _ _ refl (code_of (all_joined (map (λ e. e.0) ss)) _ (list_takes ss so))
  node_within (stat.Declare at ls) so = locals_take ls so
  node_within (stat.Evaluate at e) so = more _ (option_weight e) _ (omega arith) (evaluated_takes e so)
  node_within (stat.If at e a None) so =
      let b = both_so _ _ so in let c = both_so _ _ b.0 in if_takes e a.0 a.1 c.0 (a.3 c.1)
  node_within (stat.If at e a (Some d)) so =
      let b = both_so _ _ so in let c = both_so _ _ b.0 in if_else_takes e a.0 d.0 a.1 d.1 c.0 (a.3 c.1) (d.3 b.1)
  node_within (stat.While at e a) so = let b = both_so _ _ so in while_takes e a.0 a.1 b.0 (a.3 b.1)
  node_within (stat.DoWhile at a e) so = let b = both_so _ _ so in do_takes e a.0 a.1 b.1 (a.3 b.0)
  node_within (stat.For at first test step a) so =
      let b = both_so _ _ so in let c = both_so _ _ b.0 in let d = both_so _ _ c.0 in for_takes first test step a.0 a.1 d.0 d.1 c.1 (a.3 b.1)
  node_within (stat.Switch at e ss) so = let b = both_so _ _ so in switch_takes e (all_joined (map (λ e. e.0) ss)) (total (map (λ e. e.1) ss)) b.0 (list_takes ss b.1)
  node_within (stat.Case at v a) so = case_takes v a.0 a.1 (a.3 so)
  node_within (stat.Default at a) so = default_takes a.0 a.1 (a.3 so)
  node_within (stat.Break at) so = alone _ _ refl (λ a first label. omega arith)
  node_within (stat.Continue at) so = alone _ _ refl (λ a first label. omega arith)
  node_within (stat.Return at e) so = return_takes e so

  pub statement_within : (s : Stat) → names_scalars t f s ≡ true → (a : Around) (first label : ℕ) → most_with per ((steps.steps_of here f.locals s).ops a first label) ≤ stat_weight kept f.locals s
  statement_within s so a first label =
      code_of _ _ (statements_relate Steps ℕ Bool Within (steps.node_steps here f.locals) (statement_weight kept f.locals) (names_by t f) node_within s so) a first label
