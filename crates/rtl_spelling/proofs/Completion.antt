-- Whatever is expected can be completed.
use Rattle.std.proofs.Common.{◌≡◌, ℕ, suc, Bool, true, false, List, [], ◌∷◌, ◌++◌, Option, Some, None, refl, ap, subst}
use Rattle.std.specs.Prelude.{cond, codes}
use Rattle.rtl_tree.specs.declared.expressions.BinOp.TheVariants.{Cmp}
use Rattle.rtl_tree.specs.Trees.{Tree}
use Rattle.rtl_spelling.specs.declared.signs.Sign.TheVariants as sign
use Rattle.rtl_spelling.specs.declared.senses.Bank.{Bank}
use Rattle.rtl_spelling.specs.declared.senses.Bank.TheVariants.{Register, Temporary, Flag as FlagBank}
use Rattle.rtl_spelling.specs.declared.senses.Sense.{Sense}
use Rattle.rtl_spelling.specs.declared.senses.Sense.TheVariants as sense
use Rattle.rtl_spelling.specs.Tokens.{Token, Word, Number, Mark}
use Rattle.rtl_spelling.specs.Holes.{Open, leaf_named}
use Rattle.rtl_spelling.specs.Spelling.{Context, Placed, starts, inner, mark}
use Rattle.rtl_spelling.specs.Senses.{sense_of, cell_at}
use Rattle.rtl_spelling.specs.Reading.{is_sign, leaf_at, has_holes}
use Rattle.rtl_spelling.proofs.Numbers.{same_bytes}
use Rattle.rtl_spelling.proofs.Automaton.{Symbol, ATree, Inside, Operator, Tested, AfterRelation, Exactly, Index, HoleName, Place, Value, After, Stack, Step, below, tree_step, right_of, operator_step, tested_step, inside_step, place_step, value_step, start, on_test, on_found, step}
use Rattle.rtl_spelling.proofs.Runs.{Run, run_append, Passes, exactly_step}

-- a hole's name is expected only where holes are open, and its `<` is nowhere expected alone
abbrev pub MayStand : Context → Symbol → Type 0
MayStand c HoleName = has_holes c.holes ≡ true
MayStand c (Exactly sign.Less) = ⊥
MayStand c x = Unit {0}

abbrev pub AllMay : Context → Stack → Type 0
AllMay c [] = Unit {0}
AllMay c (x ∷ s) = MayStand c x × AllMay c s

abbrev pub StepMay : Context → Step → Type 0
StepMay c None = Unit {0}
StepMay c (Some y) = AllMay c y.1

module _ (c : Context) where
  pub may_append : (s r : Stack) → AllMay c s → AllMay c r → AllMay c (s ++ r)
  may_append [] r h k = k
  may_append (x ∷ s) r h k = (h.0, may_append s r h.1 k)

  on_holes_may : (b : Bool) (d : ℕ) → has_holes c.holes ≡ b → StepMay c (cond b (Some (d, HoleName ∷ Exactly sign.Greater ∷ [])) None)
  on_holes_may true d e = (e, (tt, tt))
  on_holes_may false d e = tt

  tree_may : (d : ℕ) (v : Sense) → StepMay c (tree_step c d v)
  tree_may d (sense.Number n) = tt
  tree_may d (sense.Object k) = tt
  tree_may d (sense.Label l) = tt
  tree_may d (sense.Cell x) = tt
  tree_may d (sense.Bank b) = (tt, (tt, (tt, tt)))
  tree_may d (sense.Memory w) = (tt, (tt, (tt, tt)))
  tree_may d (sense.Sign sign.LeftParen) = (tt, tt)
  tree_may d (sense.Sign sign.Less) = on_holes_may (has_holes c.holes) d refl
  tree_may d _ = tt

  operator_may : (d : ℕ) (v : Sense) → StepMay c (operator_step d v)
  operator_may d (sense.Binary o) = (tt, (tt, (tt, tt)))
  operator_may d _ = tt

  tested_may : (d : ℕ) (v : Sense) → StepMay c (tested_step d v)
  tested_may d (sense.Binary (Cmp r)) = (tt, tt)
  tested_may d (sense.Binary o) = (tt, (tt, (tt, tt)))
  tested_may d _ = tt

  below_may : (s : Stack) (o : Step) → AllMay c s → StepMay c o → StepMay c (below s o)
  below_may s None h k = tt
  below_may s (Some y) h k = may_append y.1 s k h

  inside_may : (d : ℕ) (v : Sense) → StepMay c (inside_step c d v)
  inside_may d (sense.Unary o) = (tt, (tt, (tt, tt)))
  inside_may d (sense.Bank FlagBank) = (tt, (tt, (tt, (tt, (tt, tt)))))
  inside_may d v = below_may (Exactly sign.Space ∷ Operator d ∷ []) (tree_step c (suc d) v) (tt, (tt, tt)) (tree_may (suc d) v)

  place_may : (v : Sense) → StepMay c (place_step c v)
  place_may (sense.Cell x) = tt
  place_may (sense.Bank b) = (tt, (tt, (tt, tt)))
  place_may (sense.Memory w) = (tt, (tt, (tt, tt)))
  place_may (sense.Sign sign.Less) = tree_may 1 (sense.Sign sign.Less)
  place_may _ = tt

  value_may : (v : Sense) → StepMay c (value_step c v)
  value_may sense.Lost = tt
  value_may v = tree_may 1 v

  test_may : (b : Bool) (s : Stack) (o : Step) → AllMay c s → StepMay c o → StepMay c (on_test b s o)
  test_may true s o h k = h
  test_may false s o h k = k

  found_may : {A : Type 0} (o : Option A) → StepMay c (on_found o)
  found_may None = tt
  found_may (Some x) = tt

  step_may : (x : Symbol) (t : Token) → StepMay c (step c x t)
  step_may (ATree d) t = tree_may d (sense_of c t)
  step_may (Inside d) t = inside_may d (sense_of c t)
  step_may (Operator d) t = operator_may d (sense_of c t)
  step_may (Tested d) t = tested_may d (sense_of c t)
  step_may (AfterRelation d) t = test_may (is_sign sign.RightParen t) [] _ tt (test_may (is_sign sign.Space t) (right_of d) None (tt, (tt, tt)) tt)
  step_may (Exactly s) t = test_may (is_sign s t) [] None tt tt
  step_may (Index b) t = found_may (cell_at b t)
  step_may HoleName t = found_may (leaf_at c t)
  step_may Place t = place_may (sense_of c t)
  step_may Value t = value_may (sense_of c t)
  step_may After t =
      test_may (is_sign sign.End t) [] _ tt
      (test_may (is_sign sign.Semicolon t) (Exactly sign.Space ∷ start) None (tt, (tt, (tt, (tt, (tt, (tt, (tt, tt))))))) tt)

  pub start_may : AllMay c start
  start_may = (tt, (tt, (tt, (tt, (tt, (tt, tt))))))

  pub run_may : (ps : List Placed) (s r : Stack) → AllMay c s → Run c s ps r → AllMay c r
  run_may [] s r h k = subst (AllMay c) k h
  run_may (p ∷ ps) [] r h k = absurd k
  run_may (p ∷ ps) (x ∷ s) r h k =
      run_may ps (k.0 ++ s) r (may_append k.0 s (subst (StepMay c) k.1 (step_may x p.token)) h.1) k.2

  -- ---- a shortest way to complete

  abbrev right_leaf : ℕ → List Placed
  right_leaf d = inner (Mark sign.Plus) ∷ mark sign.Space ∷ starts (suc d) (Word (codes "PC")) ∷ mark sign.RightParen ∷ []

  record Completed (x : Symbol) : Type 0 where
    pub placed : List Placed
    pub passes : Passes c x placed

  index_zero : (b : Bank) (s : Stack) → Run c (Index b ∷ s) (inner (Number (codes "0")) ∷ []) s
  index_zero Register s = ([], refl, refl)
  index_zero Temporary s = ([], refl, refl)
  index_zero FlagBank s = ([], refl, refl)

  first_leaf : (hs : List Open) → has_holes hs ≡ true → (name : List ℕ) × (leaf : Tree) × (leaf_named hs name ≡ Some leaf)
  first_leaf [] e = absurd cc
  first_leaf (h ∷ hs) e = (h.name, h.leaf, ap (λ b. cond b (Some h.leaf) (leaf_named hs h.name)) (same_bytes h.name h.name refl))

  completed : (x : Symbol) → MayStand c x → Completed x
  completed (ATree d) h = record { placed = starts d (Word (codes "PC")) ∷ []; passes = λ s. ([], refl, refl) }
  completed (Inside d) h = record {
    placed = starts (suc d) (Word (codes "PC")) ∷ mark sign.Space ∷ right_leaf d;
    passes = λ s. (Exactly sign.Space ∷ Operator d ∷ [], refl, ([], refl, (Exactly sign.Space ∷ right_of d, refl, ([], refl, ([], refl, ([], refl, refl))))));
  }
  completed (Operator d) h = record {
    placed = right_leaf d;
    passes = λ s. (Exactly sign.Space ∷ right_of d, refl, ([], refl, ([], refl, ([], refl, refl))));
  }
  completed (Tested d) h = record {
    placed = right_leaf d;
    passes = λ s. (Exactly sign.Space ∷ right_of d, refl, ([], refl, ([], refl, ([], refl, refl))));
  }
  completed (AfterRelation d) h = record { placed = mark sign.RightParen ∷ []; passes = λ s. ([], refl, refl) }
  completed (Exactly g) h = record { placed = mark g ∷ []; passes = λ s. ([], exactly_step c g, refl) }
  completed (Index b) h = record { placed = inner (Number (codes "0")) ∷ []; passes = index_zero b }
  completed HoleName h = let l = first_leaf c.holes h in record { placed = inner (Word l.0) ∷ []; passes = λ s. ([], ap on_found l.2, refl) }
  completed Place h = record { placed = starts 1 (Word (codes "PC")) ∷ []; passes = λ s. ([], refl, refl) }
  completed Value h = record { placed = starts 1 (Word (codes "PC")) ∷ []; passes = λ s. ([], refl, refl) }
  completed After h = record { placed = mark sign.End ∷ []; passes = λ s. ([], refl, refl) }

  -- some tokens complete what is expected
  pub record Completes (s : Stack) : Type 0 where
    pub placed : List Placed
    pub run : Run c s placed []

  pub completes : (s : Stack) → AllMay c s → Completes s
  completes [] h = record { placed = []; run = refl }
  completes (x ∷ s) h =
      let front = completed x h.0 in
      let rest = completes s h.1 in
      record { placed = front.placed ++ rest.placed; run = run_append c front.placed rest.placed (x ∷ s) s [] (front.passes s) rest.run }
