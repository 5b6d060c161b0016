-- Without holes a transfer has one spelling: what is printed.
use Rattle.std.proofs.Common.{◌≡◌, ℕ, suc, List, [], ◌∷◌, ◌++◌, get_or, Option, Some, None, refl, sym, ap, ◌∙◌}
use Rattle.std.specs.Prelude.{codes}
use Rattle.std.proofs.lemmas.Option.{get_or_from_slice_get}
use Rattle.rtl_tree.specs.declared.expressions.UnOp.{UnOp}
use Rattle.rtl_tree.specs.declared.expressions.UnOp.TheVariants.{Neg, Not, Sxb, Test}
use Rattle.rtl_tree.specs.Trees.{Tree, Unary, NoPair}
use Rattle.rtl_tree.specs.Moves.{Goal, Move}
use Rattle.rtl_spelling.specs.declared.signs.Sign.TheVariants as sign
use Rattle.rtl_spelling.specs.Tokens.{Token, Word, Mark, spelled}
use Rattle.rtl_spelling.specs.Holes.{leaf_named}
use Rattle.rtl_spelling.specs.Spelling.{Context, Placed, inner, mark, tokens_in, name_token, memory_word, unary_word, operator_token, StandsBefore, Spells, number, symbol, function, block, cell, memory, unary, binary, test, hole, Said, SpellsPlace, to_cell, to_memory, to_hole, SpellsMove, value, lost, SpellsTransfer, last, more, becomes}
use Rattle.rtl_spelling.specs.Printing.{tree_tokens, goal_tokens, move_tokens, tokens_behind, tokens_of, text_of}
use Rattle.rtl_spelling.specs.Contract.{said_of, TextSays}
use Rattle.rtl_spelling.proofs.Ends.{tokens_append}
use Rattle.rtl_spelling.proofs.Lexed.{lexed_spelled}
use Rattle.rtl_spelling.proofs.Printed.{cell_begun}

closed : (ps : List Placed) (ts : List Token) (e : tokens_in ps ≡ ts) (p : Placed) → tokens_in (ps ++ p ∷ []) ≡ ts ++ p.token ∷ []
closed ps ts e p = tokens_append ps (p ∷ []) ∙ ap (λ l. l ++ p.token ∷ []) e

module _ (c : Context) (none : c.holes ≡ []) where
  no_leaf : (name : List ℕ) (leaf : Tree) → leaf_named c.holes name ≡ Some leaf → ⊥
  no_leaf name leaf e = absurd (let z : leaf_named [] name ≡ Some leaf = ap (λ hs. leaf_named hs name) (sym none) ∙ e in cc)

  unary_alone : (o : UnOp) (a : Tree) → StandsBefore o → tree_tokens c (Unary o a) ≡ Mark sign.LeftParen ∷ Word (unary_word o) ∷ Mark sign.Space ∷ (tree_tokens c a ++ Mark sign.RightParen ∷ [])
  unary_alone Neg a h = refl
  unary_alone Not a h = refl
  unary_alone Sxb a h = refl
  unary_alone (Test r) a h = absurd h

  named_alone : (ns : List (List ℕ)) (k : ℕ) (name : List ℕ) → name ≡ get_or ns k [] → name_token name ∷ [] ≡ name_token (get_or ns k []) ∷ []
  named_alone ns k name e = ap (λ n. name_token n ∷ []) e

  tree_alone : (d : ℕ) (t : Tree) (ps : List Placed) → Spells c d t ps → tokens_in ps ≡ tree_tokens c t
  tree_alone _ _ _ (number d n l) = refl
  tree_alone _ _ _ (symbol d n name e) = named_alone c.objects n name (sym (get_or_from_slice_get c.objects n name [] e))
  tree_alone _ _ _ (function d n name e) = named_alone c.functions n name (sym (get_or_from_slice_get c.functions n name [] e))
  tree_alone _ _ _ (block d n l) = refl
  tree_alone _ _ _ (cell d x h) = cell_begun d x
  tree_alone _ _ _ (memory d w a ps h) =
      ap (λ l. Word (memory_word w) ∷ Mark sign.LeftBracket ∷ l) (closed ps (tree_tokens c a) (tree_alone (suc d) a ps h) (mark sign.RightBracket))
  tree_alone _ _ _ (unary d o a ps b h) =
      ap (λ l. Mark sign.LeftParen ∷ Word (unary_word o) ∷ Mark sign.Space ∷ l) (closed ps (tree_tokens c a) (tree_alone (suc d) a ps h) (mark sign.RightParen)) ∙ sym (unary_alone o a b)
  tree_alone _ _ _ (binary d o a b ps qs h i) =
      let left : tokens_in ps ≡ tree_tokens c a = tree_alone (suc d) a ps h in
      let right = closed qs (tree_tokens c b) (tree_alone (suc d) b qs i) (mark sign.RightParen) in
      ap (λ l. Mark sign.LeftParen ∷ l)
      (tokens_append ps (mark sign.Space ∷ inner (operator_token o) ∷ mark sign.Space ∷ (qs ++ mark sign.RightParen ∷ []))
      ∙ (λ j. left j ++ Mark sign.Space ∷ operator_token o ∷ Mark sign.Space ∷ right j))
  tree_alone _ _ _ (test d r n l) = refl
  tree_alone _ _ _ (hole d name leaf e) = absurd (no_leaf name leaf e)

  abbrev place_tokens : Option Goal → List Token
  place_tokens (Some g) = goal_tokens c g
  place_tokens None = []

  place_alone : (g : Option Goal) (ps : List Placed) → SpellsPlace c g ps → tokens_in ps ≡ place_tokens g
  place_alone _ _ (to_cell x h) = cell_begun 1 x
  place_alone _ _ (to_memory w a ps h) =
      ap (λ l. Word (memory_word w) ∷ Mark sign.LeftBracket ∷ l) (closed ps (tree_tokens c a) (tree_alone 2 a ps h) (mark sign.RightBracket))
  place_alone _ _ (to_hole name leaf e) = absurd (no_leaf name leaf e)

  abbrev said_tokens : Said → List Token
  said_tokens m = place_tokens m.to ++ Mark sign.Space ∷ Mark sign.Equals ∷ Mark sign.Space ∷ tree_tokens c m.value

  becomes_alone : (g : Option Goal) (t : Tree) (ps qs : List Placed) → SpellsPlace c g ps → tokens_in qs ≡ tree_tokens c t → tokens_in (ps ++ becomes qs) ≡ said_tokens (record { to = g; value = t })
  becomes_alone g t ps qs h e =
      let place : tokens_in ps ≡ place_tokens g = place_alone g ps h in
      tokens_append ps (becomes qs) ∙ (λ j. place j ++ Mark sign.Space ∷ Mark sign.Equals ∷ Mark sign.Space ∷ e j)

  move_alone : (m : Said) (ps : List Placed) → SpellsMove c m ps → tokens_in ps ≡ said_tokens m
  move_alone _ _ (value g t ps qs h i) = becomes_alone g t ps qs h (tree_alone 1 t qs i)
  move_alone _ _ (lost g ps h) = becomes_alone g NoPair ps (inner (Word (codes "lost")) ∷ []) h refl

  abbrev all_behind : List Said → List Token
  all_behind [] = Mark sign.End ∷ []
  all_behind (m ∷ ms) = Mark sign.Semicolon ∷ Mark sign.Space ∷ (said_tokens m ++ all_behind ms)

  abbrev all_tokens : List Said → List Token
  all_tokens [] = Mark sign.End ∷ []
  all_tokens (m ∷ ms) = said_tokens m ++ all_behind ms

  joined : (m : Said) (ms : List Said) (ps qs : List Placed) → tokens_in ps ≡ said_tokens m → tokens_in qs ≡ all_tokens ms → SpellsTransfer c ms qs
      → tokens_in (ps ++ mark sign.Semicolon ∷ mark sign.Space ∷ qs) ≡ all_tokens (m ∷ ms)
  joined m [] ps qs e f h = absurd (no_transfer qs h)
    where
      nothing : (ms : List Said) (qs : List Placed) → SpellsTransfer c ms qs → ms ≡ [] → ⊥
      nothing _ _ (last m ps h) e = absurd cc
      nothing _ _ (more m ms ps qs h i) e = absurd cc

      no_transfer : (qs : List Placed) → SpellsTransfer c [] qs → ⊥
      no_transfer qs h = nothing [] qs h refl
  joined m (n ∷ ms) ps qs e f h =
      tokens_append ps (mark sign.Semicolon ∷ mark sign.Space ∷ qs) ∙ (λ j. e j ++ Mark sign.Semicolon ∷ Mark sign.Space ∷ f j)

  transfer_alone : (ms : List Said) (ps : List Placed) → SpellsTransfer c ms ps → tokens_in ps ≡ all_tokens ms
  transfer_alone _ _ (last m ps h) = closed ps (said_tokens m) (move_alone m ps h) (mark sign.End)
  transfer_alone _ _ (more m ms ps qs h i) = joined m ms ps qs (move_alone m ps h) (transfer_alone ms qs i) i

  behind_said : (ms : List Move) → all_behind (said_of ms) ≡ tokens_behind c ms
  behind_said [] = refl
  behind_said (m ∷ ms) = ap (λ l. Mark sign.Semicolon ∷ Mark sign.Space ∷ (move_tokens c m ++ l)) (behind_said ms)

  tokens_said : (ms : List Move) → all_tokens (said_of ms) ≡ tokens_of c ms
  tokens_said [] = refl
  tokens_said (m ∷ ms) = ap (λ l. move_tokens c m ++ l) (behind_said ms)

  pub printed_is_only : (text : List ℕ) (ms : List Move) → TextSays c text ms → text ≡ text_of c ms
  printed_is_only text ms t =
      let s = t.spells in
      let i = s.spelled_by in
      lexed_spelled text s.tokens s.lexes ∙ ap spelled (sym i.tokens ∙ transfer_alone (said_of ms) i.placed i.spells ∙ tokens_said ms)
