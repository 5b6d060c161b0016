-- Which statements a switch around them sees no case in, and how many cases of a list have a value.
use Rattle.std.proofs.Common.{◌≡◌, ℕ, suc, ◌+◌, ◌<◌, ◌≤◌, Bool, true, false, nat_lt, if◌then◌else◌, List, [], ◌∷◌, ◌++◌, length, drop, get_or, map, Option, Some, None, refl, ap, ◌∙◌, arith}
use Rattle.std.proofs.Math.ListN.{drop_of_length-le}
use Rattle.std.specs.Prelude.{slice_get}
use Rattle.c_tree.specs.declared.typed.Object.{Object}
use Rattle.c_tree.specs.declared.typed.TypedExpr.{TypedExpr}
use Rattle.c_tree.specs.declared.typed.LocalInit.{LocalInit}
use Rattle.c_tree.specs.declared.typed.LocalInit.TheVariants as init
use Rattle.c_tree.specs.declared.typed.Local.{Local}
use Rattle.c_tree.specs.declared.typed.Stat.{Stat}
use Rattle.c_limits.specs.Weights.{length_of}
use Rattle.naive_code.specs.Storage.{Storage, Temporary, Word, Elements, Missing, Symbol, Frame}
use Rattle.naive_code.specs.Expressions.{Value, Site, naive}
use Rattle.naive_code.specs.Statements.{Steps, joined, shifted, put_element, put_elements, cleared, cleared_rest, no_steps, init_steps, locals_steps, storage_of_local, evaluated, return_steps, steps_of, valued}
use Rattle.naive_expr.proofs.Gathering.{next_item}
use Rattle.naive_stat.specs.Runs.{block_steps}

none_joined : (p q : Steps) → p.cases ≡ [] → q.cases ≡ [] → (joined p q).cases ≡ []
none_joined p q h g = ap (λ xs. xs ++ map (shifted p.labels) q.cases) h ∙ ap (map (shifted p.labels)) g

element_none : (w : ℕ) (s : Storage) (i : ℕ) (v : Value) → (put_element w s i v).cases ≡ []
element_none w (Temporary k) i v = refl
element_none w (Word y) i v = refl
element_none w (Elements (Symbol y) of) i v = refl
element_none w (Elements (Frame o) of) i v = refl
element_none w Missing i v = refl

cleared_none : (w : ℕ) (s : Storage) (m n : ℕ) → (cleared w s m n).cases ≡ []
cleared_none w (Temporary k) m n = refl
cleared_none w (Word y) m n = refl
cleared_none w (Elements (Symbol y) of) m n = refl
cleared_none w (Elements (Frame o) of) m n = refl
cleared_none w Missing m n = refl

either_none : (b : Bool) (p : Steps) → p.cases ≡ [] → (if b then p else no_steps).cases ≡ []
either_none true p h = h
either_none false p h = refl

elements_none : (c : Site) (s : Storage) (i : ℕ) (es : List TypedExpr) → (put_elements c s i es).cases ≡ []
elements_none c s i [] = refl
elements_none c s i (e ∷ es) =
    none_joined (put_element c.bits s i (naive c e).value) (put_elements c s (suc i) es) (element_none c.bits s i (naive c e).value) (elements_none c s (suc i) es)

module _ (c : Site) (locals : List Object) where
  init_none : (x : ℕ) (i : LocalInit) → (init_steps c locals x i).cases ≡ []
  init_none x init.Absent = refl
  init_none x (init.Value e) = refl
  init_none x (init.List es) =
      let s = storage_of_local c x in
      let size = length_of (slice_get locals x) in
      none_joined (put_elements c s 0 es) (cleared_rest c.bits s (length es) size) (elements_none c s 0 es)
      (either_none (nat_lt (length es) size) (cleared c.bits s (length es) size) (cleared_none c.bits s (length es) size))

  pub locals_none : (ls : List Local) → (locals_steps c locals ls).cases ≡ []
  locals_none [] = refl
  locals_none (l ∷ ls) = none_joined (init_steps c locals l.number l.init) (locals_steps c locals ls) (init_none l.number l.init) (locals_none ls)

  pub evaluated_none : (e : Option TypedExpr) → (evaluated c locals e).cases ≡ []
  evaluated_none None = refl
  evaluated_none (Some e) = refl

  pub return_none : (e : Option TypedExpr) → (return_steps c locals e).cases ≡ []
  return_none None = refl
  return_none (Some e) = refl

  -- ---- how many cases have a value

  pub valued_append : (xs ys : List (Option ℕ × ℕ)) → valued c locals (xs ++ ys) ≡ valued c locals xs + valued c locals ys
  valued_append [] ys = omega arith
  valued_append ((Some v, k) ∷ xs) ys = let e = valued_append xs ys in omega (arith, e)
  valued_append ((None, k) ∷ xs) ys = valued_append xs ys

  pub valued_shifted : (n : ℕ) (xs : List (Option ℕ × ℕ)) → valued c locals (map (shifted n) xs) ≡ valued c locals xs
  valued_shifted n [] = refl
  valued_shifted n ((Some v, k) ∷ xs) = ap suc (valued_shifted n xs)
  valued_shifted n ((None, k) ∷ xs) = valued_shifted n xs

  -- a statement of a block further
  pub valued_next : (ss : List Stat) (n : ℕ) (s : Stat) (before count k whole : ℕ) → n < length ss → s ≡ get_or ss n s → count ≡ before + k → k ≡ valued c locals (steps_of c locals s).cases
      → before + valued c locals (block_steps c locals (drop n ss)).cases ≡ whole → count + valued c locals (block_steps c locals (drop (n + 1) ss)).cases ≡ whole
  valued_next ss n s before count k whole lt is sum own all =
      let p = steps_of c locals s in
      let rest = block_steps c locals (drop (n + 1) ss) in
      let left : valued c locals (block_steps c locals (drop n ss)).cases ≡ valued c locals p.cases + valued c locals rest.cases =
      ap (λ r. valued c locals (block_steps c locals r).cases) (next_item ss n s lt is)
      ∙ (valued_append p.cases (map (shifted p.labels) rest.cases) ∙ ap (λ r. valued c locals p.cases + r) (valued_shifted p.labels rest.cases)) in
      omega (arith, sum, own, left, all)

  pub valued_done : (ss : List Stat) (n count whole : ℕ) → length ss ≤ n → count + valued c locals (block_steps c locals (drop n ss)).cases ≡ whole → count ≡ whole
  valued_done ss n count whole le all =
      let none : valued c locals (block_steps c locals (drop n ss)).cases ≡ 0 = ap (λ r. valued c locals (block_steps c locals r).cases) (drop_of_length-le ss le) in
      omega (arith, none, all)
