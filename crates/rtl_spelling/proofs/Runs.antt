-- Runs of the automaton: over a spelling it passes from what is expected to what stands below.
use Rattle.std.proofs.Common.{◌≡◌, ℕ, suc, ◌<◌, Bool, true, List, [], ◌∷◌, ◌++◌, length, Option, Some, None, refl, sym, ap, subst, ◌∙◌, append_assoc, arith, inl, inr}
use Rattle.std.specs.Prelude.{◌⊎◌, cond, decimal, codes}
use Rattle.std.specs.Fmt.{signed_decimal}
use Rattle.rtl_word.specs.Words.{word_signed}
use Rattle.rtl_word.specs.declared.Rel.{Rel}
use Rattle.rtl_tree.specs.declared.cells.Cell.{Cell}
use Rattle.rtl_tree.specs.declared.cells.Cell.TheVariants.{Hard, Temp, Flag, Pc, Input, Output, Halt, Hole}
use Rattle.rtl_tree.specs.declared.expressions.BinOp.{BinOp}
use Rattle.rtl_tree.specs.declared.expressions.BinOp.TheVariants.{Cmp}
use Rattle.rtl_tree.specs.Trees.{Tree}
use Rattle.rtl_tree.specs.Moves.{Goal}
use Rattle.rtl_spelling.specs.declared.signs.Sign.{Sign}
use Rattle.rtl_spelling.specs.declared.signs.Sign.TheVariants as sign
use Rattle.rtl_spelling.specs.declared.senses.Bank.{Bank}
use Rattle.rtl_spelling.specs.declared.senses.Bank.TheVariants.{Register, Temporary, Flag as FlagBank}
use Rattle.rtl_spelling.specs.declared.senses.Sense.{Sense}
use Rattle.rtl_spelling.specs.declared.senses.Sense.TheVariants as sense
use Rattle.rtl_spelling.specs.Tokens.{Token, Word, Number, Mark}
use Rattle.rtl_spelling.specs.Holes.{Open, leaf_named}
use Rattle.rtl_spelling.specs.Spelling.{Context, IsContext, Placed, starts, inner, mark, begun, cell_tokens, IsSpelledCell, hole_tokens, relation_word, operator_token, Spells, number, symbol, function, block, cell, memory, unary, binary, test, hole, Said, SpellsPlace, to_cell, to_memory, to_hole, SpellsMove, value, lost, SpellsTransfer, last, more, becomes, name_token}
use Rattle.rtl_spelling.specs.Senses.{sense_of, bank_size}
use Rattle.rtl_spelling.specs.Reading.{has_holes}
use Rattle.rtl_spelling.proofs.Told.{number_told, object_told, function_told, block_told, memory_told, unary_told, operator_told, index_told, same_sign_itself}
use Rattle.rtl_spelling.proofs.Automaton.{Symbol, ATree, Inside, Operator, Tested, AfterRelation, Exactly, Index, HoleName, Place, Value, After, Stack, Step, below, tree_step, right_of, operator_step, tested_step, inside_step, place_step, value_step, start, on_test, on_found, step}

-- the automaton passes over the tokens, which begin trees at these depths
abbrev pub Run : Context → Stack → List Placed → Stack → Type 0
Run c s [] r = s ≡ r
Run c [] (p ∷ ps) r = ⊥
Run c (x ∷ s) (p ∷ ps) r = (new : Stack) × (step c x p.token ≡ Some (p.depth, new)) × Run c (new ++ s) ps r

pub run_append : (c : Context) (ps qs : List Placed) (a b r : Stack) → Run c a ps b → Run c b qs r → Run c a (ps ++ qs) r
run_append c [] qs a b r h k = subst (λ a. Run c a qs r) (sym h) k
run_append c (p ∷ ps) qs [] b r h k = absurd h
run_append c (p ∷ ps) qs (x ∷ a) b r h k = (h.0, h.1, run_append c ps qs (h.0 ++ a) b r h.2 k)

-- over the tokens of what a symbol expects
abbrev pub Passes : Context → Symbol → List Placed → Type 0
Passes c x ps = (s : Stack) → Run c (x ∷ s) ps s

module _ (c : Context) where
  pub one_step : (x : Symbol) (d : ℕ) (t : Token) → step c x t ≡ Some (d, []) → Passes c x (starts d t ∷ [])
  one_step x d t e s = ([], e, refl)

  -- a symbol, and then the rest
  pub then_run : (x : Symbol) (ps qs : List Placed) (s r : Stack) → Passes c x ps → Run c s qs r → Run c (x ∷ s) (ps ++ qs) r
  then_run x ps qs s r h k = run_append c ps qs (x ∷ s) s r (h s) k

  pub exactly_step : (s : Sign) → step c (Exactly s) (Mark s) ≡ Some (0, [])
  exactly_step s = ap (λ b. on_test b [] None) (same_sign_itself s)

  brackets_run : (b : Bank) (n : ℕ) → n < bank_size b → (s : Stack)
      → Run c (Exactly sign.LeftBracket ∷ Index b ∷ Exactly sign.RightBracket ∷ s) (mark sign.LeftBracket ∷ inner (Number (decimal n)) ∷ mark sign.RightBracket ∷ []) s
  brackets_run b n l s = ([], refl, ([], ap on_found (index_told b n l), ([], refl, refl)))

  abbrev bracketed : Bank → Stack
  bracketed b = Exactly sign.LeftBracket ∷ Index b ∷ Exactly sign.RightBracket ∷ []

  cell_run : (d : ℕ) (x : Cell) → IsSpelledCell x → Passes c (ATree d) (begun d (cell_tokens x))
  cell_run d (Hard n) h s = (bracketed Register, refl, brackets_run Register n h s)
  cell_run d (Temp n) h s = (bracketed Temporary, refl, brackets_run Temporary n h s)
  cell_run d (Flag n) h s = (bracketed FlagBank, refl, brackets_run FlagBank n h s)
  cell_run d Pc h s = ([], refl, refl)
  cell_run d Input h s = ([], refl, refl)
  cell_run d Output h s = ([], refl, refl)
  cell_run d Halt h s = ([], refl, refl)
  cell_run d (Hole n) h s = absurd h

  place_cell_run : (x : Cell) → IsSpelledCell x → Passes c Place (begun 1 (cell_tokens x))
  place_cell_run (Hard n) h s = (bracketed Register, refl, brackets_run Register n h s)
  place_cell_run (Temp n) h s = (bracketed Temporary, refl, brackets_run Temporary n h s)
  place_cell_run (Flag n) h s = (bracketed FlagBank, refl, brackets_run FlagBank n h s)
  place_cell_run Pc h s = ([], refl, refl)
  place_cell_run Input h s = ([], refl, refl)
  place_cell_run Output h s = ([], refl, refl)
  place_cell_run Halt h s = ([], refl, refl)
  place_cell_run (Hole n) h s = absurd h

  pub some_hole : (hs : List Open) (name : List ℕ) (leaf : Tree) → leaf_named hs name ≡ Some leaf → has_holes hs ≡ true
  some_hole [] name leaf e = absurd cc
  some_hole (h ∷ hs) name leaf e = refl

  abbrev on_holes : ℕ → Bool → Step
  on_holes d b = cond b (Some (d, HoleName ∷ Exactly sign.Greater ∷ [])) None

  hole_run : (d : ℕ) (name : List ℕ) (leaf : Tree) → leaf_named c.holes name ≡ Some leaf → Passes c (ATree d) (begun d (hole_tokens name))
  hole_run d name leaf e s =
      (HoleName ∷ Exactly sign.Greater ∷ [], ap (on_holes d) (some_hole c.holes name leaf e), ([], ap on_found e, ([], refl, refl)))

  place_hole_run : (name : List ℕ) (leaf : Tree) → leaf_named c.holes name ≡ Some leaf → Passes c Place (begun 1 (hole_tokens name))
  place_hole_run name leaf e s =
      (HoleName ∷ Exactly sign.Greater ∷ [], ap (on_holes 1) (some_hole c.holes name leaf e), ([], ap on_found e, ([], refl, refl)))

  address_run : (d : ℕ) (ps : List Placed) → Passes c (ATree d) ps → (s : Stack)
      → Run c (Exactly sign.LeftBracket ∷ ATree d ∷ Exactly sign.RightBracket ∷ s) (mark sign.LeftBracket ∷ (ps ++ mark sign.RightBracket ∷ [])) s
  address_run d ps h s =
      ([], refl, then_run (ATree d) ps (mark sign.RightBracket ∷ []) (Exactly sign.RightBracket ∷ s) s h ([], refl, refl))

  abbrev addressed : ℕ → Stack
  addressed d = Exactly sign.LeftBracket ∷ ATree d ∷ Exactly sign.RightBracket ∷ []

  right_run : (d : ℕ) (ps : List Placed) → Passes c (ATree (suc d)) ps → (s : Stack)
      → Run c (Exactly sign.Space ∷ ATree (suc d) ∷ Exactly sign.RightParen ∷ s) (mark sign.Space ∷ (ps ++ mark sign.RightParen ∷ [])) s
  right_run d ps h s =
      ([], refl, then_run (ATree (suc d)) ps (mark sign.RightParen ∷ []) (Exactly sign.RightParen ∷ s) s h ([], refl, refl))

  -- ---- an operator and the right tree, behind any left tree or a flag

  operator_run : (d : ℕ) (o : BinOp) (ps : List Placed) → Passes c (ATree (suc d)) ps → (s : Stack)
      → Run c (Exactly sign.Space ∷ Operator d ∷ s) (mark sign.Space ∷ inner (operator_token o) ∷ mark sign.Space ∷ (ps ++ mark sign.RightParen ∷ [])) s
  operator_run d o ps h s =
      ([], refl, (Exactly sign.Space ∷ right_of d, ap (operator_step d) (operator_told c o), right_run d ps h s))

  relation_run : (d : ℕ) (ps : List Placed) → Passes c (ATree (suc d)) ps → (s : Stack)
      → Run c (AfterRelation d ∷ s) (mark sign.Space ∷ (ps ++ mark sign.RightParen ∷ [])) s
  relation_run d ps h s =
      (right_of d, refl, then_run (ATree (suc d)) ps (mark sign.RightParen ∷ []) (Exactly sign.RightParen ∷ s) s h ([], refl, refl))

  tested_run_on : (d : ℕ) (o : BinOp) (ps : List Placed) → Passes c (ATree (suc d)) ps → (s : Stack)
      → Run c (Tested d ∷ s) (inner (operator_token o) ∷ mark sign.Space ∷ (ps ++ mark sign.RightParen ∷ [])) s
  tested_run_on d (Cmp r) ps h s = (AfterRelation d ∷ [], ap (tested_step d) (operator_told c (Cmp r)), relation_run d ps h s)
  tested_run_on d o ps h s = (Exactly sign.Space ∷ right_of d, ap (tested_step d) (operator_told c o), right_run d ps h s)

  tested_run : (d : ℕ) (o : BinOp) (ps : List Placed) → Passes c (ATree (suc d)) ps → (s : Stack)
      → Run c (Exactly sign.Space ∷ Tested d ∷ s) (mark sign.Space ∷ inner (operator_token o) ∷ mark sign.Space ∷ (ps ++ mark sign.RightParen ∷ [])) s
  tested_run d o ps h s = ([], refl, tested_run_on d o ps h s)

  -- ---- a tree as the left one in brackets

  abbrev Left : ℕ → Stack → Symbol → List Placed → Type 0
  Left d s x ps = Run c (Inside d ∷ s) ps (Exactly sign.Space ∷ x ∷ s)

  left_from : (d : ℕ) (p : Placed) (ps : List Placed) (s : Stack) (x : Symbol) (new : Stack)
      → inside_step c d (sense_of c p.token) ≡ Some (p.depth, new ++ Exactly sign.Space ∷ x ∷ []) → Run c (new ++ Exactly sign.Space ∷ x ∷ s) ps (Exactly sign.Space ∷ x ∷ s)
      → Left d s x (p ∷ ps)
  left_from d p ps s x new e h =
      (new ++ Exactly sign.Space ∷ x ∷ [], e, subst (λ a. Run c a ps (Exactly sign.Space ∷ x ∷ s)) (sym (append_assoc new (Exactly sign.Space ∷ x ∷ []) s)) h)

  left_on : (d : ℕ) (p : Placed) (ps : List Placed) (s : Stack) (v : Sense) → sense_of c p.token ≡ v → Passes c (ATree (suc d)) (p ∷ ps)
      → Left d s (Operator d) (p ∷ ps) ⊎ Left d s (Tested d) (p ∷ ps)
  left_on d p ps s (sense.Unary o) e h =
      let r = h s in
      let none : tree_step c (suc d) (sense.Unary o) ≡ Some (p.depth, r.0) = sym (ap (tree_step c (suc d)) e) ∙ r.1 in absurd cc
  left_on d p ps s (sense.Bank FlagBank) e h =
      let r = h (Exactly sign.Space ∷ Tested d ∷ s) in
      inr (left_from d p ps s (Tested d) r.0 (ap (inside_step c d) e ∙ ap (below (Exactly sign.Space ∷ Tested d ∷ [])) (sym (ap (tree_step c (suc d)) e) ∙ r.1)) r.2)
  left_on d p ps s v e h =
      let r = h (Exactly sign.Space ∷ Operator d ∷ s) in
      inl (left_from d p ps s (Operator d) r.0 (ap (inside_step c d) e ∙ ap (below (Exactly sign.Space ∷ Operator d ∷ [])) (sym (ap (tree_step c (suc d)) e) ∙ r.1)) r.2)

  left_run : (d : ℕ) (ps : List Placed) (s : Stack) → Passes c (ATree (suc d)) ps → Left d s (Operator d) ps ⊎ Left d s (Tested d) ps
  left_run d [] s h = absurd (omega (arith, ap length (h [])))
  left_run d (p ∷ ps) s h = left_on d p ps s (sense_of c p.token) refl h

  binary_run : (d : ℕ) (o : BinOp) (ps qs : List Placed) → Passes c (ATree (suc d)) ps → Passes c (ATree (suc d)) qs
      → Passes c (ATree d)
      (starts d (Mark sign.LeftParen)
      ∷ (ps ++ mark sign.Space ∷ inner (operator_token o) ∷ mark sign.Space ∷ (qs ++ mark sign.RightParen ∷ [])))
  binary_run d o ps qs h k s = (
    Inside d ∷ [],
    refl,
    elim (left_run d ps s h) as (λ _. Run c (Inside d ∷ s) (ps ++ mark sign.Space ∷ inner (operator_token o) ∷ mark sign.Space ∷ (qs ++ mark sign.RightParen ∷ [])) s) [
      | inl l ↦ run_append c ps _ (Inside d ∷ s) (Exactly sign.Space ∷ Operator d ∷ s) s l (operator_run d o qs k s)
      | inr l ↦ run_append c ps _ (Inside d ∷ s) (Exactly sign.Space ∷ Tested d ∷ s) s l (tested_run d o qs k s)
    ],
  )

  test_run : (d : ℕ) (r : Rel) (n : ℕ) → n < 8
      → Passes c (ATree d)
      (starts d (Mark sign.LeftParen)
      ∷ (begun (suc d) (cell_tokens (Flag n)) ++ mark sign.Space ∷ inner (Word (relation_word r)) ∷ mark sign.RightParen ∷ []))
  test_run d r n l s =
      let behind : Run c (Exactly sign.Space ∷ Tested d ∷ s) (mark sign.Space ∷ inner (Word (relation_word r)) ∷ mark sign.RightParen ∷ []) s =
      ([], refl, (AfterRelation d ∷ [], ap (tested_step d) (operator_told c (Cmp r)), ([], refl, refl))) in
      let front : Run c (Exactly sign.LeftBracket ∷ Index FlagBank ∷ Exactly sign.RightBracket ∷ Exactly sign.Space ∷ Tested d ∷ s) (mark sign.LeftBracket ∷ inner (Number (decimal n)) ∷ mark sign.RightBracket ∷ []) (Exactly sign.Space ∷ Tested d ∷ s) =
      brackets_run FlagBank n l (Exactly sign.Space ∷ Tested d ∷ s) in (
        Inside d ∷ [],
        refl,
        (
          bracketed FlagBank ++ (Exactly sign.Space ∷ Tested d ∷ []),
          refl,
          run_append c (mark sign.LeftBracket ∷ inner (Number (decimal n)) ∷ mark sign.RightBracket ∷ [])
              (mark sign.Space ∷ inner (Word (relation_word r)) ∷ mark sign.RightParen ∷ [])
              (Exactly sign.LeftBracket ∷ Index FlagBank ∷ Exactly sign.RightBracket ∷ Exactly sign.Space ∷ Tested d ∷ s) (Exactly sign.Space ∷ Tested d ∷ s) s front behind,
        ),
      )

  -- over a spelling the automaton passes
  pub spells_run : (k : IsContext c) (d : ℕ) (t : Tree) (ps : List Placed) → Spells c d t ps → Passes c (ATree d) ps
  spells_run k _ _ _ (number d n l) = one_step (ATree d) d (Number (signed_decimal (word_signed c.width n))) (ap (tree_step c d) (number_told c n k l))
  spells_run k _ _ _ (symbol d i name e) = one_step (ATree d) d (name_token name) (ap (tree_step c d) (object_told c i name k e))
  spells_run k _ _ _ (function d i name e) = one_step (ATree d) d (name_token name) (ap (tree_step c d) (function_told c i name k e))
  spells_run k _ _ _ (block d n l) = one_step (ATree d) d (Word (76 ∷ decimal n)) (ap (tree_step c d) (block_told c n l))
  spells_run k _ _ _ (cell d x h) = cell_run d x h
  spells_run k _ _ _ (memory d w a ps h) =
      λ s. (addressed (suc d), ap (tree_step c d) (memory_told c w), address_run (suc d) ps (spells_run k (suc d) a ps h) s)
  spells_run k _ _ _ (unary d o a ps b h) =
      λ s. (Inside d ∷ [], refl, (Exactly sign.Space ∷ right_of d, ap (inside_step c d) (unary_told c o b), right_run d ps (spells_run k (suc d) a ps h) s))
  spells_run k _ _ _ (binary d o a b ps qs h i) = binary_run d o ps qs (spells_run k (suc d) a ps h) (spells_run k (suc d) b qs i)
  spells_run k _ _ _ (test d r n l) = test_run d r n l
  spells_run k _ _ _ (hole d name leaf e) = hole_run d name leaf e

  place_run : (k : IsContext c) (g : Option Goal) (ps : List Placed) → SpellsPlace c g ps → Passes c Place ps
  place_run k _ _ (to_cell x h) = place_cell_run x h
  place_run k _ _ (to_memory w a ps h) =
      λ s. (addressed 2, ap (place_step c) (memory_told c w), address_run 2 ps (spells_run k 2 a ps h) s)
  place_run k _ _ (to_hole name leaf e) = place_hole_run name leaf e

  becomes_run : (ps : List Placed) (s : Stack) → Passes c Value ps
      → Run c (Exactly sign.Space ∷ Exactly sign.Equals ∷ Exactly sign.Space ∷ Value ∷ s) (becomes ps) s
  becomes_run ps s h = ([], refl, ([], refl, ([], refl, h s)))

  value_on : (p : Placed) (ps : List Placed) (v : Sense) → sense_of c p.token ≡ v → Passes c (ATree 1) (p ∷ ps) → Passes c Value (p ∷ ps)
  value_on p ps sense.Lost e h = λ s.
      let r = h s in
      let none : tree_step c 1 sense.Lost ≡ Some (p.depth, r.0) = sym (ap (tree_step c 1) e) ∙ r.1 in absurd cc
  value_on p ps v e h = λ s. let r = h s in (r.0, ap (value_step c) e ∙ (sym (ap (tree_step c 1) e) ∙ r.1), r.2)

  value_run : (ps : List Placed) → Passes c (ATree 1) ps → Passes c Value ps
  value_run [] h = λ s. absurd (omega (arith, ap length (h s)))
  value_run (p ∷ ps) h = value_on p ps (sense_of c p.token) refl h

  move_run : (k : IsContext c) (m : Said) (ps : List Placed) → SpellsMove c m ps → (s : Stack)
      → Run c (Place ∷ Exactly sign.Space ∷ Exactly sign.Equals ∷ Exactly sign.Space ∷ Value ∷ s) ps s
  move_run k _ _ (value g t ps qs h i) s =
      then_run Place ps (becomes qs) _ s (place_run k g ps h) (becomes_run qs s (value_run qs (spells_run k 1 t qs i)))
  move_run k _ _ (lost g ps h) s = then_run Place ps (becomes (inner (Word (codes "lost")) ∷ [])) _ s (place_run k g ps h) (becomes_run (inner (Word (codes "lost")) ∷ []) s (λ s. ([], refl, refl)))

  pub transfer_run : (k : IsContext c) (ms : List Said) (ps : List Placed) → SpellsTransfer c ms ps → Run c start ps []
  transfer_run k _ _ (last m ps h) = run_append c ps (mark sign.End ∷ []) start (After ∷ []) [] (move_run k m ps h (After ∷ [])) ([], refl, refl)
  transfer_run k _ _ (more m ms ps qs h i) =
      run_append c ps (mark sign.Semicolon ∷ mark sign.Space ∷ qs) start (After ∷ []) [] (move_run k m ps h (After ∷ [])) (Exactly sign.Space ∷ start, refl, ([], refl, transfer_run k ms qs i))
