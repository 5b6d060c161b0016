-- A step goes at most one deeper.
use Rattle.std.proofs.Common.{◌≡◌, ℕ, suc, ◌≤◌, Bool, true, false, List, [], ◌∷◌, ◌++◌, Option, Some, None, subst, arith}
use Rattle.std.specs.Prelude.{cond}
use Rattle.rtl_tree.specs.declared.expressions.BinOp.TheVariants.{Cmp}
use Rattle.rtl_spelling.specs.declared.signs.Sign.TheVariants as sign
use Rattle.rtl_spelling.specs.declared.senses.Bank.TheVariants.{Flag as FlagBank}
use Rattle.rtl_spelling.specs.declared.senses.Sense.{Sense}
use Rattle.rtl_spelling.specs.declared.senses.Sense.TheVariants as sense
use Rattle.rtl_spelling.specs.Tokens.{Token}
use Rattle.rtl_spelling.specs.Spelling.{Context, Placed}
use Rattle.rtl_spelling.specs.Senses.{sense_of, cell_at}
use Rattle.rtl_spelling.specs.Reading.{is_sign, leaf_at, has_holes}
use Rattle.rtl_spelling.proofs.Automaton.{Symbol, ATree, Inside, Operator, Tested, AfterRelation, Exactly, Index, HoleName, Place, Value, After, Stack, Step, below, tree_step, right_of, operator_step, tested_step, inside_step, place_step, value_step, start, on_test, on_found, step, stands, stood}
use Rattle.rtl_spelling.proofs.Runs.{Run}
use Rattle.rtl_spelling.proofs.Traces.{Within}

module _ (most : ℕ) where
  -- a tree is expected at most one deeper than trees may stand
  abbrev pub Shallow : Symbol → Type 0
  Shallow (ATree d) = d ≤ suc most
  Shallow (Inside d) = d ≤ most
  Shallow (Operator d) = d ≤ most
  Shallow (Tested d) = d ≤ most
  Shallow (AfterRelation d) = d ≤ most
  Shallow x = Unit {0}

  abbrev pub AllShallow : Stack → Type 0
  AllShallow [] = Unit {0}
  AllShallow (x ∷ s) = Shallow x × AllShallow s

  abbrev pub StepShallow : Step → Type 0
  StepShallow None = Unit {0}
  StepShallow (Some y) = (y.0 ≤ suc most) × (stands most y.0 ≡ true → AllShallow y.1)

  shallow_append : (s r : Stack) → AllShallow s → AllShallow r → AllShallow (s ++ r)
  shallow_append [] r h k = k
  shallow_append (x ∷ s) r h k = (h.0, shallow_append s r h.1 k)

  under : (d : ℕ) → d ≤ most → suc d ≤ suc most
  under d h = omega (arith, h)

  on_holes : (b : Bool) (d : ℕ) → d ≤ suc most → StepShallow (cond b (Some (d, HoleName ∷ Exactly sign.Greater ∷ [])) None)
  on_holes true d h = (h, λ _. (tt, (tt, tt)))
  on_holes false d h = tt

  tree_shallow : (c : Context) (d : ℕ) (v : Sense) → d ≤ suc most → StepShallow (tree_step c d v)
  tree_shallow c d (sense.Number n) h = (h, λ _. tt)
  tree_shallow c d (sense.Object n) h = (h, λ _. tt)
  tree_shallow c d (sense.Label n) h = (h, λ _. tt)
  tree_shallow c d (sense.Cell n) h = (h, λ _. tt)
  tree_shallow c d (sense.Bank n) h = (h, λ _. (tt, (tt, (tt, tt))))
  tree_shallow c d (sense.Memory n) h = (h, λ s. (tt, (under d (stood most d s), (tt, tt))))
  tree_shallow c d (sense.Sign sign.LeftParen) h = (h, λ s. (stood most d s, tt))
  tree_shallow c d (sense.Sign sign.Less) h = on_holes (has_holes c.holes) d h
  tree_shallow c d _ h = tt

  none_begun : (s : Stack) → AllShallow s → StepShallow (Some (0, s))
  none_begun s h = (omega arith, λ _. h)

  operator_shallow : (d : ℕ) (v : Sense) → d ≤ most → StepShallow (operator_step d v)
  operator_shallow d (sense.Binary o) h = none_begun (Exactly sign.Space ∷ right_of d) (tt, (under d h, (tt, tt)))
  operator_shallow d _ h = tt

  tested_shallow : (d : ℕ) (v : Sense) → d ≤ most → StepShallow (tested_step d v)
  tested_shallow d (sense.Binary (Cmp r)) h = none_begun (AfterRelation d ∷ []) (h, tt)
  tested_shallow d (sense.Binary o) h = none_begun (Exactly sign.Space ∷ right_of d) (tt, (under d h, (tt, tt)))
  tested_shallow d _ h = tt

  below_shallow : (s : Stack) (o : Step) → AllShallow s → StepShallow o → StepShallow (below s o)
  below_shallow s None h k = tt
  below_shallow s (Some y) h k = (k.0, λ t. shallow_append y.1 s (k.1 t) h)

  inside_shallow : (c : Context) (d : ℕ) (v : Sense) → d ≤ most → StepShallow (inside_step c d v)
  inside_shallow c d (sense.Unary o) h = none_begun (Exactly sign.Space ∷ right_of d) (tt, (under d h, (tt, tt)))
  inside_shallow c d (sense.Bank FlagBank) h =
      below_shallow (Exactly sign.Space ∷ Tested d ∷ []) (tree_step c (suc d) (sense.Bank FlagBank)) (tt, (h, tt)) (tree_shallow c (suc d) (sense.Bank FlagBank) (under d h))
  inside_shallow c d v h = below_shallow (Exactly sign.Space ∷ Operator d ∷ []) (tree_step c (suc d) v) (tt, (h, tt)) (tree_shallow c (suc d) v (under d h))

  place_shallow : (c : Context) (v : Sense) → StepShallow (place_step c v)
  place_shallow c (sense.Cell x) = tree_shallow c 1 (sense.Cell x) (omega arith)
  place_shallow c (sense.Bank b) = tree_shallow c 1 (sense.Bank b) (omega arith)
  place_shallow c (sense.Memory w) = tree_shallow c 1 (sense.Memory w) (omega arith)
  place_shallow c (sense.Sign sign.Less) = tree_shallow c 1 (sense.Sign sign.Less) (omega arith)
  place_shallow c _ = tt

  value_shallow : (c : Context) (v : Sense) → StepShallow (value_step c v)
  value_shallow c sense.Lost = none_begun [] tt
  value_shallow c v = tree_shallow c 1 v (omega arith)

  test_shallow : (b : Bool) (s : Stack) (o : Step) → AllShallow s → StepShallow o → StepShallow (on_test b s o)
  test_shallow true s o h k = none_begun s h
  test_shallow false s o h k = k

  found_shallow : {A : Type 0} (o : Option A) → StepShallow (on_found o)
  found_shallow None = tt
  found_shallow (Some x) = none_begun [] tt

  start_shallow : AllShallow start
  start_shallow = (tt, (tt, (tt, (tt, (tt, (tt, tt))))))

  step_shallow : (c : Context) (x : Symbol) (t : Token) → Shallow x → StepShallow (step c x t)
  step_shallow c (ATree d) t h = tree_shallow c d (sense_of c t) h
  step_shallow c (Inside d) t h = inside_shallow c d (sense_of c t) h
  step_shallow c (Operator d) t h = operator_shallow d (sense_of c t) h
  step_shallow c (Tested d) t h = tested_shallow d (sense_of c t) h
  step_shallow c (AfterRelation d) t h =
      test_shallow (is_sign sign.RightParen t) [] _ tt (test_shallow (is_sign sign.Space t) (right_of d) None (under d h, (tt, tt)) tt)
  step_shallow c (Exactly s) t h = test_shallow (is_sign s t) [] None tt tt
  step_shallow c (Index b) t h = found_shallow (cell_at b t)
  step_shallow c HoleName t h = found_shallow (leaf_at c t)
  step_shallow c Place t h = place_shallow c (sense_of c t)
  step_shallow c Value t h = value_shallow c (sense_of c t)
  step_shallow c After t h =
      test_shallow (is_sign sign.End t) [] _ tt (test_shallow (is_sign sign.Semicolon t) (Exactly sign.Space ∷ start) None (tt, start_shallow) tt)

  run_shallow : (c : Context) (ps : List Placed) (s r : Stack) → AllShallow s → Within most ps → Run c s ps r → AllShallow r
  run_shallow c [] s r h w k = subst AllShallow k h
  run_shallow c (p ∷ ps) [] r h w k = absurd k
  run_shallow c (p ∷ ps) (x ∷ s) r h w k =
      let y : StepShallow (Some (p.depth, k.0)) = subst StepShallow k.1 (step_shallow c x p.token h.0) in
      run_shallow c ps (k.0 ++ s) r (shallow_append k.0 s (y.1 w.0) h.1) w.1 k.2

  -- a token behind a run begins a tree at most one deeper
  pub next_shallow : (c : Context) (ps : List Placed) (x : Symbol) (r new : Stack) (d : ℕ) (t : Token) → Within most ps → Run c start ps (x ∷ r)
      → step c x t ≡ Some (d, new) → d ≤ suc most
  next_shallow c ps x r new d t w k e =
      let y : StepShallow (Some (d, new)) = subst StepShallow e (step_shallow c x t (run_shallow c ps start (x ∷ r) start_shallow w k).0) in y.0
