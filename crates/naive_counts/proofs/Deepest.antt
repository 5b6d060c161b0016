-- How deep the temporaries of a statement stand: each has a depth, and none is deeper than four above the deepest expression.
use Rattle.std.proofs.Common.{◌≡◌, ◌⊎◌, inl, inr, ℕ, zero, suc, ◌+◌, ◌≤◌, ◌<◌, List, [], ◌∷◌, ◌++◌, map, Option, Some, None, refl, ap, arith, true, false}
use Rattle.std.specs.Prelude.{◌&&◌, Bool, length, max, replicate, slice_get, nat_lt, if◌then◌else◌}
use Rattle.std.proofs.Math.Nat.{le-max_left, le-max_right}
use Rattle.c_tree.specs.declared.typed.Object.{Object}
use Rattle.c_tree.specs.declared.typed.TypedExpr.{TypedExpr}
use Rattle.c_tree.specs.declared.typed.LocalInit.{LocalInit}
use Rattle.c_tree.specs.declared.typed.LocalInit.TheVariants as init
use Rattle.c_tree.specs.declared.typed.Local.{Local}
use Rattle.c_tree.specs.declared.typed.Start.{Start}
use Rattle.c_tree.specs.declared.typed.Start.TheVariants as start
use Rattle.c_tree.specs.declared.typed.Stat.{Stat}
use Rattle.c_tree.specs.declared.typed.Stat.TheOpen as stat
use Rattle.c_tree.specs.declared.typed.Stat.TheFolds.{map-Stat}
use Rattle.c_tree.specs.declared.typed.TypedExpr.TheOpen.{TypedExpr-F, Comma, Assign, Compound, Conditional, Binary, Unary, Before, After, Constant, Object as Named, Element, Call, Convert}
use Rattle.c_tree.specs.declared.typed.TypedExpr.TheFolds.{map-TypedExpr}
use Rattle.c_tree.proofs.TypedFolds.{Both, expr_relates}
use Rattle.c_limits.specs.Depths.{depth_of, expression_depth, greatest, in_option, in_list, in_init, in_locals, in_start, in_statement, greatest_in}
use Rattle.c_limits.specs.Weights.{length_of}
use Rattle.naive_code.specs.Storage.{Symbol, Frame, Storage, Temporary, Word, Elements, Missing}
use Rattle.naive_code.specs.Expressions.{Site, naive}
use Rattle.naive_code.specs.Statements as steps
use Rattle.naive_code.specs.Statements.{Steps, no_steps, joined, all_joined, dropped}
use Rattle.naive_counts.specs.Names.{all_true}
use Rattle.naive_counts.specs.Homes.{init_filled, locals_filled, start_filled, filled_by, fills_lists}
use Rattle.naive_counts.proofs.Folds.{Three, statements_relate}
use Rattle.naive_counts.proofs.Depths.{Stand, stand_append, stand_more, stand_none, stand_as, expression_deep}

left_of : (a b m : ℕ) → max a b ≤ m → a ≤ m
left_of a b m h = let e = le-max_left a b in omega (arith, e, h)

right_of : (a b m : ℕ) → max a b ≤ m → b ≤ m
right_of a b m h = let e = le-max_right a b in omega (arith, e, h)

ones_below : (m n : ℕ) → 1 < m → Stand m n (replicate n 1)
ones_below m zero lt = stand_none m
ones_below m (suc n) lt = let h = ones_below m n lt in record { below = (lt, h.below); many = ap suc h.many }

-- ---- where the place for a loop that clears is

-- each expression has a depth
abbrev Deep : ℕ → ℕ → Type 0
Deep a b = 1 ≤ a

node_deep : (y : TypedExpr-F (Both Deep)) → Deep (expression_depth (map-TypedExpr (Both Deep) ℕ (λ e. e.0) y)) (expression_depth (map-TypedExpr (Both Deep) ℕ (λ e. e.1) y))
node_deep (Constant h v) = omega arith
node_deep (Named h x) = omega arith
node_deep (Convert h a) = let e = a.2 in omega (arith, e)
node_deep (Element h x i) = omega arith
node_deep (Assign h a b) = omega arith
node_deep (Compound h a o b) = omega arith
node_deep (Before h o a) = omega arith
node_deep (After h a o) = omega arith
node_deep (Binary h a o b) = omega arith
node_deep (Unary h o a) = omega arith
node_deep (Comma h a b) = omega arith
node_deep (Conditional h a b d) = omega arith
node_deep (Call h f es) = omega arith

some_depth : (e : TypedExpr) → 1 ≤ depth_of e
some_depth = expr_relates ℕ ℕ expression_depth expression_depth Deep node_deep

-- an expression is at hand, or lists have elements
abbrev Enough : Bool → ℕ → Type 0
Enough b m = (b ≡ true) ⊎ (1 ≤ m)

both_true : (a b : Bool) → (a && b) ≡ true → (a ≡ true) × (b ≡ true)
both_true true b e = (refl, e)
both_true false b e = absurd (grind (arith, e))

enough_left : (a b : Bool) (m : ℕ) → Enough (a && b) m → Enough a m
enough_left a b m (inl e) = inl (both_true a b e).0
enough_left a b m (inr e) = inr e

enough_right : (a b : Bool) (m : ℕ) → Enough (a && b) m → Enough b m
enough_right a b m (inl e) = inl (both_true a b e).1
enough_right a b m (inr e) = inr e

module _ (c : Site) (locals : List Object) where
  -- the temporaries of steps have depths, below four more than any number that is at least as great as their deepest expression
  abbrev Stands_to : ℕ → Steps → Type 0
  Stands_to m p = Stand (m + 4) p.temps p.depths

  pub record Held (p : Steps) (g : ℕ) (b : Bool) : Type 0 where
    pub each : (m : ℕ) → Enough b m → g ≤ m → Stands_to m p

  value_stands : (e : TypedExpr) (m : ℕ) → depth_of e ≤ m → Stand (m + 4) (naive c e).value.temps ((naive c e).value.depths 0)
  value_stands e m le = stand_more (0 + depth_of e) (m + 4) _ _ (omega (arith, le)) ((expression_deep c e).value 0)

  test_stands : (e : TypedExpr) (m : ℕ) → depth_of e ≤ m → Stand (m + 4) (naive c e).test.temps ((naive c e).test.depths 0)
  test_stands e m le = stand_more (0 + depth_of e) (m + 4) _ _ (omega (arith, le)) ((expression_deep c e).test 0)

  joined_stands : (p q : Steps) (m : ℕ) → Stands_to m p → Stands_to m q → Stands_to m (joined p q)
  joined_stands p q m h g = stand_append (m + 4) p.temps q.temps p.depths q.depths h g

  -- ---- declarations

  put_element_stands : (s : Storage) (i : ℕ) (e : TypedExpr) (m : ℕ) → depth_of e ≤ m → Stands_to m (steps.put_element c.bits s i (naive c e).value)
  put_element_stands (Elements (Frame offset) of) i e m le =
      stand_append (m + 4) (naive c e).value.temps 2 ((naive c e).value.depths 0) (1 ∷ 2 ∷ []) (value_stands e m le) (record { below = (omega arith, (omega arith, tt)); many = refl })
  put_element_stands (Elements (Symbol y) of) i e m le = stand_none (m + 4)
  put_element_stands (Temporary n) i e m le = stand_none (m + 4)
  put_element_stands (Word y) i e m le = stand_none (m + 4)
  put_element_stands Missing i e m le = stand_none (m + 4)

  put_elements_stand : (s : Storage) (i : ℕ) (es : List TypedExpr) (m : ℕ) → in_list depth_of es ≤ m → Stands_to m (steps.put_elements c s i es)
  put_elements_stand s i [] m le = stand_none (m + 4)
  put_elements_stand s i (e ∷ es) m le =
      joined_stands (steps.put_element c.bits s i (naive c e).value) (steps.put_elements c s (suc i) es) m (put_element_stands s i e m (left_of (depth_of e) (in_list depth_of es) m le))
      (put_elements_stand s (suc i) es m (right_of (depth_of e) (in_list depth_of es) m le))

  cleared_stands : (s : Storage) (from to m : ℕ) → 1 ≤ m → Stands_to m (steps.cleared c.bits s from to)
  cleared_stands (Elements (Frame offset) of) from to m some =
      record { below = (omega arith, (omega arith, (omega arith, (omega arith, (omega arith, (omega (arith, some), tt)))))); many = refl }
  cleared_stands (Elements (Symbol y) of) from to m some = stand_none (m + 4)
  cleared_stands (Temporary n) from to m some = stand_none (m + 4)
  cleared_stands (Word y) from to m some = stand_none (m + 4)
  cleared_stands Missing from to m some = stand_none (m + 4)

  cleared_rest_stands : (s : Storage) (listed size m : ℕ) → 1 ≤ m → Stands_to m (steps.cleared_rest c.bits s listed size)
  cleared_rest_stands s listed size m some = by_test (nat_lt listed size)
    where
      by_test : (b : Bool) → Stands_to m (if b then steps.cleared c.bits s listed size else no_steps)
      by_test true = cleared_stands s listed size m some
      by_test false = stand_none (m + 4)

  list_stands : (x : ℕ) (es : List TypedExpr) (m : ℕ) → 1 ≤ m → in_list depth_of es ≤ m → Stands_to m (steps.init_steps c locals x (init.List es))
  list_stands x es m some le =
      joined_stands (steps.put_elements c (steps.storage_of_local c x) 0 es) (steps.cleared_rest c.bits (steps.storage_of_local c x) (length es) (length_of (slice_get locals x))) m
      (put_elements_stand (steps.storage_of_local c x) 0 es m le) (cleared_rest_stands (steps.storage_of_local c x) (length es) (length_of (slice_get locals x)) m some)

  init_stands : (x : ℕ) (i : LocalInit) (m : ℕ) → Enough (init_filled i) m → in_init depth_of i ≤ m → Stands_to m (steps.init_steps c locals x i)
  init_stands x init.Absent m some le = stand_none (m + 4)
  init_stands x (init.Value e) m some le =
      stand_append (m + 4) (naive c e).value.temps 1 ((naive c e).value.depths 0) (1 ∷ []) (value_stands e m le) (record { below = (omega arith, tt); many = refl })
  init_stands x (init.List []) m some le = list_stands x [] m (by some) le
    where
      by : Enough false m → 1 ≤ m
      by (inl e) = absurd (grind (arith, e))
      by (inr e) = e
  init_stands x (init.List (e ∷ es)) m some le =
      let deep = some_depth e in let first = left_of (depth_of e) (in_list depth_of es) m le in list_stands x (e ∷ es) m (omega (arith, deep, first)) le

  locals_stand : (ls : List Local) (m : ℕ) → Enough (locals_filled ls) m → in_locals depth_of ls ≤ m → Stands_to m (steps.locals_steps c locals ls)
  locals_stand [] m some le = stand_none (m + 4)
  locals_stand (l ∷ ls) m some le =
      joined_stands (steps.init_steps c locals l.number l.init) (steps.locals_steps c locals ls) m (init_stands l.number l.init m (enough_left (init_filled l.init) (locals_filled ls) m some) (left_of (in_init depth_of l.init) (in_locals depth_of ls) m le))
      (locals_stand ls m (enough_right (init_filled l.init) (locals_filled ls) m some) (right_of (in_init depth_of l.init) (in_locals depth_of ls) m le))

  evaluated_stands : (o : Option TypedExpr) (m : ℕ) → in_option depth_of o ≤ m → Stands_to m (steps.evaluated c locals o)
  evaluated_stands None m le = stand_none (m + 4)
  evaluated_stands (Some e) m le = value_stands e m le

  started_stands : (s : Start) (m : ℕ) → Enough (start_filled s) m → in_start depth_of s ≤ m → Stands_to m (steps.started c locals s)
  started_stands start.Absent m some le = stand_none (m + 4)
  started_stands (start.Value e) m some le = value_stands e m le
  started_stands (start.Declared at ls) m some le = locals_stand ls m some le

  test_in_stands : (o : Option TypedExpr) (m : ℕ) → in_option depth_of o ≤ m → Stand (m + 4) (steps.test_in c locals o).temps ((steps.test_in c locals o).depths 0)
  test_in_stands None m le = stand_none (m + 4)
  test_in_stands (Some e) m le = test_stands e m le

  -- ---- statements

  abbrev T : Type 0
  T = Three Steps ℕ Bool Held

  list_held : (ss : List T) (m : ℕ) → Enough (all_true (map (λ e. e.2) ss)) m → greatest (map (λ e. e.1) ss) ≤ m → Stands_to m (all_joined (map (λ e. e.0) ss))
  list_held [] m some le = stand_none (m + 4)
  list_held (s ∷ ss) m some le =
      joined_stands s.0 (all_joined (map (λ e. e.0) ss)) m (s.3.each m (enough_left s.2 (all_true (map (λ e. e.2) ss)) m some) (left_of s.1 (greatest (map (λ e. e.1) ss)) m le)) (list_held ss m (enough_right s.2 (all_true (map (λ e. e.2) ss)) m some) (right_of s.1 (greatest (map (λ e. e.1) ss)) m le))

  for_stands : (first : Start) (test step : Option TypedExpr) (a : T) (m : ℕ) → Enough (start_filled first && a.2) m
      → max (max (in_start depth_of first) (in_option depth_of test)) (max (in_option depth_of step) a.1) ≤ m
      → Stands_to m (steps.for_steps c locals (steps.started c locals first) (steps.test_in c locals test) (steps.evaluated c locals step) a.0)
  for_stands first test step a m some le =
      let f = in_start depth_of first in let e = in_option depth_of test in let o = in_option depth_of step in
      let l = left_of (max f e) (max o a.1) m le in let r = right_of (max f e) (max o a.1) m le in
      let p1 = steps.started c locals first in let p2 = steps.test_in c locals test in let p4 = steps.evaluated c locals step in
      let s34 = stand_append (m + 4) a.0.temps p4.temps a.0.depths p4.depths (a.3.each m (enough_right (start_filled first) a.2 m some) (right_of o a.1 m r)) (evaluated_stands step m (left_of o a.1 m r)) in
      let s234 = stand_append (m + 4) p2.temps (a.0.temps + p4.temps) (p2.depths 0) (a.0.depths ++ p4.depths) (test_in_stands test m (right_of f e m l)) s34 in
      stand_as (m + 4) (p1.temps + (p2.temps + (a.0.temps + p4.temps))) (p1.temps + p2.temps + a.0.temps + p4.temps) (p1.depths ++ (p2.depths 0 ++ (a.0.depths ++ p4.depths))) (omega arith)
      (stand_append (m + 4) p1.temps (p2.temps + (a.0.temps + p4.temps)) p1.depths (p2.depths 0 ++ (a.0.depths ++ p4.depths)) (started_stands first m (enough_left (start_filled first) a.2 m some) (left_of f e m l)) s234)

  if_else_stands : (e : TypedExpr) (a b : T) (m : ℕ) → Enough (a.2 && b.2) m → max (depth_of e) (max a.1 b.1) ≤ m → Stands_to m (steps.if_steps c locals (naive c e).test a.0 (Some b.0))
  if_else_stands e a b m some le =
      let r = right_of (depth_of e) (max a.1 b.1) m le in
      let x = (naive c e).test in
      stand_as (m + 4) (x.temps + (a.0.temps + b.0.temps)) (x.temps + a.0.temps + b.0.temps) (x.depths 0 ++ (a.0.depths ++ b.0.depths)) (omega arith)
      (stand_append (m + 4) x.temps (a.0.temps + b.0.temps) (x.depths 0) (a.0.depths ++ b.0.depths) (test_stands e m (left_of (depth_of e) (max a.1 b.1) m le))
      (stand_append (m + 4) a.0.temps b.0.temps a.0.depths b.0.depths (a.3.each m (enough_left a.2 b.2 m some) (left_of a.1 b.1 m r)) (b.3.each m (enough_right a.2 b.2 m some) (right_of a.1 b.1 m r))))

  switch_stands : (e : TypedExpr) (ss : List T) (m : ℕ) → Enough (all_true (map (λ x. x.2) ss)) m → max (greatest (map (λ e. e.1) ss)) (depth_of e) ≤ m
      → Stands_to m (steps.switch_steps c locals (naive c e).value (all_joined (map (λ e. e.0) ss)))
  switch_stands e ss m some le =
      let g = greatest (map (λ e. e.1) ss) in
      let v = (naive c e).value in let p = all_joined (map (λ e. e.0) ss) in let n = steps.valued c locals p.cases in
      stand_as (m + 4) (v.temps + (n + p.temps)) (v.temps + n + p.temps) (v.depths 0 ++ (replicate n 1 ++ p.depths)) (omega arith)
      (stand_append (m + 4) v.temps (n + p.temps) (v.depths 0) (replicate n 1 ++ p.depths) (value_stands e m (right_of g (depth_of e) m le))
      (stand_append (m + 4) n p.temps (replicate n 1) p.depths (ones_below (m + 4) n (omega arith)) (list_held ss m some (left_of g (depth_of e) m le))))

  node_held : (y : stat.Stat-F T)
      → Held (steps.node_steps c locals (map-Stat T Steps (λ e. e.0) y)) (in_statement depth_of (map-Stat T ℕ (λ e. e.1) y)) (filled_by (map-Stat T Bool (λ e. e.2) y))
  node_held (stat.Block at ss) = record { each = list_held ss }
  node_held (stat.Declare at ls) = record { each = locals_stand ls }
  node_held (stat.Evaluate at e) = record { each = λ m some le. evaluated_stands e m le }
  node_held (stat.If at e a None) = record {
    each = λ m some le.
        stand_append (m + 4) (naive c e).test.temps a.0.temps ((naive c e).test.depths 0) a.0.depths (test_stands e m (left_of (depth_of e) (max a.1 0) m le))
        (a.3.each m (enough_left a.2 true m some) (left_of a.1 0 m (right_of (depth_of e) (max a.1 0) m le)));
  }
  node_held (stat.If at e a (Some b)) = record { each = if_else_stands e a b }
  node_held (stat.While at e a) = record {
    each = λ m some le.
        stand_append (m + 4) (naive c e).test.temps a.0.temps ((naive c e).test.depths 0) a.0.depths (test_stands e m (left_of (depth_of e) a.1 m le)) (a.3.each m some (right_of (depth_of e) a.1 m le));
  }
  node_held (stat.DoWhile at a e) = record {
    each = λ m some le.
        stand_append (m + 4) a.0.temps (naive c e).test.temps a.0.depths ((naive c e).test.depths 0) (a.3.each m some (right_of (depth_of e) a.1 m le)) (test_stands e m (left_of (depth_of e) a.1 m le));
  }
  node_held (stat.For at first test step a) = record { each = for_stands first test step a }
  node_held (stat.Switch at e ss) = record { each = switch_stands e ss }
  node_held (stat.Case at v a) = record { each = a.3.each }
  node_held (stat.Default at a) = record { each = a.3.each }
  node_held (stat.Break at) = record { each = λ m some le. stand_none (m + 4) }
  node_held (stat.Continue at) = record { each = λ m some le. stand_none (m + 4) }
  node_held (stat.Return at None) = record { each = λ m some le. stand_none (m + 4) }
  node_held (stat.Return at (Some e)) = record {
    each = λ m some le.
        stand_append (m + 4) ((naive c e).value.temps + 0) 0 ((naive c e).value.depths 0 ++ []) [] (stand_append (m + 4) (naive c e).value.temps 0 ((naive c e).value.depths 0) [] (value_stands e m le) (stand_none (m + 4)))
        (stand_none (m + 4));
  }

  pub statement_held : (s : Stat) → Held (steps.steps_of c locals s) (greatest_in depth_of s) (fills_lists s)
  statement_held = statements_relate Steps ℕ Bool Held (steps.node_steps c locals) (in_statement depth_of) filled_by node_held
