-- What is spelled is read back.
use Rattle.std.proofs.Common.{◌≡◌, ℕ, zero, suc, ◌+◌, ◌≤◌, ◌<◌, true, false, List, [], ◌∷◌, ◌++◌, length, Option, Some, refl, sym, ap, ◌∙◌, arith}
use Rattle.std.specs.Prelude.{cond, codes, decimal}
use Rattle.std.specs.Fmt.{signed_decimal}
use Rattle.std.proofs.lemmas.Bool.{lt-leb}
use Rattle.std.proofs.lemmas.List.{length-append}
use Rattle.rtl_word.specs.Words.{word_signed}
use Rattle.rtl_word.specs.declared.Rel.{Rel}
use Rattle.rtl_tree.specs.declared.cells.Cell.{Cell}
use Rattle.rtl_tree.specs.declared.cells.Cell.TheVariants.{Hard, Temp, Flag, Pc, Input, Output, Halt, Hole}
use Rattle.rtl_tree.specs.declared.expressions.Width.{Width}
use Rattle.rtl_tree.specs.declared.expressions.UnOp.{UnOp}
use Rattle.rtl_tree.specs.declared.expressions.UnOp.TheVariants.{Test}
use Rattle.rtl_tree.specs.declared.expressions.BinOp.{BinOp}
use Rattle.rtl_tree.specs.declared.expressions.BinOp.TheVariants.{Cmp}
use Rattle.rtl_tree.specs.Trees.{Tree, Read as ReadTree, Load, Unary, Binary, NoPair}
use Rattle.rtl_tree.specs.Moves.{Goal, ToCell, ToMemory}
use Rattle.rtl_spelling.specs.declared.signs.Sign.TheVariants as sign
use Rattle.rtl_spelling.specs.declared.senses.Bank.{Bank}
use Rattle.rtl_spelling.specs.declared.senses.Bank.TheVariants.{Register, Temporary, Flag as FlagBank}
use Rattle.rtl_spelling.specs.declared.senses.Sense.{Sense}
use Rattle.rtl_spelling.specs.declared.senses.Sense.TheVariants as sense
use Rattle.rtl_spelling.specs.Tokens.{Token, Word, Number, Mark}
use Rattle.rtl_spelling.specs.Holes.{leaf_named}
use Rattle.rtl_spelling.specs.Spelling.{Context, IsContext, Placed, starts, inner, mark, tokens_in, begun, cell_tokens, IsSpelledCell, name_token, memory_tokens, memory_word, unary_word, relation_word, operator_token, Spells, number, symbol, function, block, cell, memory, unary, binary, test, hole, Said, goal_of_leaf, SpellsPlace, to_cell, to_memory, to_hole, SpellsMove, value, lost, SpellsTransfer, last, more, becomes, StandsBefore}
use Rattle.rtl_spelling.specs.Senses.{sense_of, bank_cell, bank_size}
use Rattle.rtl_spelling.specs.Reading.{Read, ◌>>=◌, head_of, rest_of, gives, wrong, is_sign, expect, index_on, index, hole_on, hole as read_hole, too_deep, Reader, address, right, operator_on, operator, tested_on, tested, inside_on, inside, tree_on, tree, place_on, place, value_on, value as read_value, move, moves}
use Rattle.rtl_spelling.proofs.Automaton.{stands}
use Rattle.rtl_spelling.proofs.Traces.{Within}
use Rattle.rtl_spelling.proofs.Told.{number_told, object_told, function_told, block_told, memory_told, unary_told, operator_told, index_told}
use Rattle.rtl_spelling.proofs.Sound.{tokens_append, tokens_begun}
use Rattle.rtl_spelling.proofs.Runs.{some_hole}

abbrev Tokens : Type 0
Tokens = List Token

within_parts : (most : ℕ) (ps qs : List Placed) → Within most (ps ++ qs) → Within most ps × Within most qs
within_parts most [] qs h = (tt, h)
within_parts most (p ∷ ps) qs h = let r = within_parts most ps qs h.1 in ((h.0, r.0), r.1)

index_reads : (b : Bank) (n : ℕ) (us : Tokens) → n < bank_size b → index b (Mark sign.LeftBracket ∷ Number (decimal n) ∷ Mark sign.RightBracket ∷ us) ≡ gives (bank_cell b n) us
index_reads b n us l = ap (index_on (Number (decimal n) ∷ Mark sign.RightBracket ∷ us)) (index_told b n l)

module _ (c : Context) where
  hole_reads : (name : List ℕ) (a : Tree) (us : Tokens) → leaf_named c.holes name ≡ Some a → read_hole c (Mark sign.Less ∷ Word name ∷ Mark sign.Greater ∷ us) ≡ gives a us
  hole_reads name a us e = rw (some_hole c c.holes name a e) (ap (hole_on (Word name ∷ Mark sign.Greater ∷ us)) e)

  address_reads : (R : Reader) (a : Tree) (ps : List Placed) (us : Tokens) → R (tokens_in ps ++ Mark sign.RightBracket ∷ us) ≡ gives a (Mark sign.RightBracket ∷ us)
      → address R (Mark sign.LeftBracket ∷ (tokens_in (ps ++ mark sign.RightBracket ∷ []) ++ us)) ≡ gives a us
  address_reads R a ps us e =
      ap (λ ts. address R (Mark sign.LeftBracket ∷ ts)) (tokens_append ps (mark sign.RightBracket ∷ []) us)
      ∙ ap (λ (r : Read Tree). r >>= λ a us. expect sign.RightBracket us >>= λ _ us. gives a us) e

  right_reads : (R : Reader) (o : BinOp) (a b : Tree) (qs : List Placed) (us : Tokens) → R (tokens_in qs ++ Mark sign.RightParen ∷ us) ≡ gives b (Mark sign.RightParen ∷ us)
      → right R o a (Mark sign.Space ∷ (tokens_in (qs ++ mark sign.RightParen ∷ []) ++ us)) ≡ gives (Binary o a b) us
  right_reads R o a b qs us e =
      ap (λ ts. right R o a (Mark sign.Space ∷ ts)) (tokens_append qs (mark sign.RightParen ∷ []) us)
      ∙ ap (λ (r : Read Tree). r >>= λ b us. expect sign.RightParen us >>= λ _ us. gives (Binary o a b) us) e

  operator_reads : (R : Reader) (o : BinOp) (a : Tree) (us : Tokens) → operator c R a (Mark sign.Space ∷ operator_token o ∷ Mark sign.Space ∷ us) ≡ right R o a (Mark sign.Space ∷ us)
  operator_reads R o a us = ap (operator_on R a (operator_token o ∷ Mark sign.Space ∷ us)) (operator_told c o)

  tested_on_reads : (R : Reader) (o : BinOp) (a : Tree) (us : Tokens) → tested_on R a (operator_token o ∷ Mark sign.Space ∷ us) (sense.Binary o) ≡ right R o a (Mark sign.Space ∷ us)
  tested_on_reads R (Cmp r) a us = refl
  tested_on_reads R o a us = refl

  tested_reads : (R : Reader) (o : BinOp) (a : Tree) (us : Tokens) → tested c R a (Mark sign.Space ∷ operator_token o ∷ Mark sign.Space ∷ us) ≡ right R o a (Mark sign.Space ∷ us)
  tested_reads R o a us = ap (tested_on R a (operator_token o ∷ Mark sign.Space ∷ us)) (operator_told c o) ∙ tested_on_reads R o a us

  test_reads : (R : Reader) (q : Rel) (a : Tree) (us : Tokens) → tested c R a (Mark sign.Space ∷ Word (relation_word q) ∷ Mark sign.RightParen ∷ us) ≡ gives (Unary (Test q) a) us
  test_reads R q a us = ap (tested_on R a (Word (relation_word q) ∷ Mark sign.RightParen ∷ us)) (operator_told c (Cmp q))

  -- no tree begins with an operator
  no_unary : (f : ℕ) (ts us : Tokens) (a : Tree) (o : UnOp) → sense_of c (head_of ts) ≡ sense.Unary o → tree c f ts ≡ gives a us → ⊥
  no_unary zero ts us a o e h = let r : wrong {A = Tree} ts ≡ gives a us = ap (too_deep c ts) (sym e) ∙ h in absurd cc
  no_unary (suc f) ts us a o e h = let r : wrong {A = Tree} ts ≡ gives a us = ap (tree_on c (tree c f) ts) (sym e) ∙ h in absurd cc

  left_reads : (f : ℕ) (o : BinOp) (ts us : Tokens) (a : Tree) (v : Sense) → sense_of c (head_of ts) ≡ v → tree c f ts ≡ gives a (Mark sign.Space ∷ operator_token o ∷ Mark sign.Space ∷ us)
      → inside_on c (tree c f) ts v ≡ right (tree c f) o a (Mark sign.Space ∷ us)
  left_reads f o ts us a (sense.Unary p) e h = absurd (no_unary f ts _ a p e h)
  left_reads f o ts us a (sense.Bank FlagBank) e h = ap (λ (r : Read Tree). r >>= λ a us. tested c (tree c f) a us) h ∙ tested_reads (tree c f) o a us
  left_reads f o ts us a v e h = ap (λ (r : Read Tree). r >>= λ a us. operator c (tree c f) a us) h ∙ operator_reads (tree c f) o a us

  cell_reads : (R : Reader) (d : ℕ) (x : Cell) (us : Tokens) → IsSpelledCell x → tree_on c R (cell_tokens x ++ us) (sense_of c (head_of (cell_tokens x ++ us))) ≡ gives (ReadTree x) us
  cell_reads R d (Hard n) us h = ap (λ (r : Read Cell). r >>= λ x us. gives (ReadTree x) us) (index_reads Register n us h)
  cell_reads R d (Temp n) us h = ap (λ (r : Read Cell). r >>= λ x us. gives (ReadTree x) us) (index_reads Temporary n us h)
  cell_reads R d (Flag n) us h = ap (λ (r : Read Cell). r >>= λ x us. gives (ReadTree x) us) (index_reads FlagBank n us h)
  cell_reads R d Pc us h = refl
  cell_reads R d Input us h = refl
  cell_reads R d Output us h = refl
  cell_reads R d Halt us h = refl
  cell_reads R d (Hole n) us h = absurd h

  -- ---- trees

  head_cell : (most d : ℕ) (x : Cell) → IsSpelledCell x → Within most (begun d (cell_tokens x)) → stands most d ≡ true
  head_cell most d (Hard n) h w = w.0
  head_cell most d (Temp n) h w = w.0
  head_cell most d (Flag n) h w = w.0
  head_cell most d Pc h w = w.0
  head_cell most d Input h w = w.0
  head_cell most d Output h w = w.0
  head_cell most d Halt h w = w.0
  head_cell most d (Hole n) h w = absurd h

  -- a tree's first token begins it
  head_stands : (most d : ℕ) (t : Tree) (ps : List Placed) → Spells c d t ps → Within most ps → stands most d ≡ true
  head_stands most _ _ _ (number d n l) w = w.0
  head_stands most _ _ _ (symbol d n name e) w = w.0
  head_stands most _ _ _ (function d n name e) w = w.0
  head_stands most _ _ _ (block d n l) w = w.0
  head_stands most _ _ _ (cell d x h) w = head_cell most d x h w
  head_stands most _ _ _ (memory d v a ps h) w = w.0
  head_stands most _ _ _ (unary d o a ps b h) w = w.0
  head_stands most _ _ _ (binary d o a b ps qs h i) w = w.0
  head_stands most _ _ _ (test d q n l) w = w.0
  head_stands most _ _ _ (hole d name leaf e) w = w.0

  past_most : (most d : ℕ) → zero + d ≡ suc most → stands most d ≡ true → ⊥
  past_most most zero e h = absurd (omega (arith, e))
  past_most most (suc d) e h = absurd (let n : stands most (suc d) ≡ false = lt-leb (suc d) most (omega (arith, e)) in cc)

  abbrev ReadsBack : ℕ → Tree → List Placed → Type 0
  ReadsBack f t ps = (us : Tokens) → tree c f (tokens_in ps ++ us) ≡ gives t us

  binary_reads : (f d : ℕ) (o : BinOp) (a b : Tree) (ps qs : List Placed) → ReadsBack f a ps → ReadsBack f b qs
      → ReadsBack (suc f) (Binary o a b)
      (starts d (Mark sign.LeftParen) ∷ (ps ++ mark sign.Space ∷ inner (operator_token o) ∷ mark sign.Space ∷ (qs ++ mark sign.RightParen ∷ [])))
  binary_reads f d o a b ps qs h i us =
      let ws : Tokens = tokens_in (qs ++ mark sign.RightParen ∷ []) ++ us in
      let ts : Tokens = tokens_in ps ++ Mark sign.Space ∷ operator_token o ∷ Mark sign.Space ∷ ws in
      ap (inside c (tree c f)) (tokens_append ps (mark sign.Space ∷ inner (operator_token o) ∷ mark sign.Space ∷ (qs ++ mark sign.RightParen ∷ [])) us)
      ∙ left_reads f o ts ws a (sense_of c (head_of ts)) refl (h (Mark sign.Space ∷ operator_token o ∷ Mark sign.Space ∷ ws))
      ∙ right_reads (tree c f) o a b qs us (i (Mark sign.RightParen ∷ us))

  unary_reads : (f d : ℕ) (o : UnOp) (a : Tree) (ps : List Placed) → StandsBefore o → ReadsBack f a ps
      → ReadsBack (suc f) (Unary o a) (starts d (Mark sign.LeftParen) ∷ inner (Word (unary_word o)) ∷ mark sign.Space ∷ (ps ++ mark sign.RightParen ∷ []))
  unary_reads f d o a ps b h us =
      let ts : Tokens = tokens_in (ps ++ mark sign.RightParen ∷ []) ++ us in
      ap (inside_on c (tree c f) (Word (unary_word o) ∷ Mark sign.Space ∷ ts)) (unary_told c o b)
      ∙ ap (λ ts. tree c f ts >>= λ a us. expect sign.RightParen us >>= λ _ us. gives (Unary o a) us) (tokens_append ps (mark sign.RightParen ∷ []) us)
      ∙ ap (λ (r : Read Tree). r >>= λ a us. expect sign.RightParen us >>= λ _ us. gives (Unary o a) us) (h (Mark sign.RightParen ∷ us))

  memory_reads : (f d : ℕ) (w : Width) (a : Tree) (ps : List Placed) → ReadsBack f a ps → ReadsBack (suc f) (Load w a) (memory_tokens d w ps)
  memory_reads f d w a ps h us =
      let ts : Tokens = Mark sign.LeftBracket ∷ (tokens_in (ps ++ mark sign.RightBracket ∷ []) ++ us) in
      ap (tree_on c (tree c f) (Word (memory_word w) ∷ ts)) (memory_told c w)
      ∙ ap (λ (r : Read Tree). r >>= λ a us. gives (Load w a) us) (address_reads (tree c f) a ps us (h (Mark sign.RightBracket ∷ us)))

  flag_reads : (f : ℕ) (q : Rel) (n : ℕ) (us vs : Tokens) → tree c f (cell_tokens (Flag n) ++ vs) ≡ gives (ReadTree (Flag n)) vs → vs ≡ Mark sign.Space ∷ Word (relation_word q) ∷ Mark sign.RightParen ∷ us
      → inside c (tree c f) (cell_tokens (Flag n) ++ vs) ≡ gives (Unary (Test q) (ReadTree (Flag n))) us
  flag_reads f q n us vs h e =
      ap (λ (r : Read Tree). r >>= λ a us. tested c (tree c f) a us) h ∙ ap (tested c (tree c f) (ReadTree (Flag n))) e ∙ test_reads (tree c f) q (ReadTree (Flag n)) us

  flag_alone : (most f d n : ℕ) (us : Tokens) → f + suc d ≡ suc most → n < 8 → stands most (suc d) ≡ true → tree c f (cell_tokens (Flag n) ++ us) ≡ gives (ReadTree (Flag n)) us
  flag_alone most zero d n us e l h = absurd (past_most most (suc d) e h)
  flag_alone most (suc f) d n us e l h = cell_reads (tree c f) d (Flag n) us l

  pub reads_back : (k : IsContext c) (most d : ℕ) (t : Tree) (ps : List Placed) → Spells c d t ps → (f : ℕ) → f + d ≡ suc most → Within most ps → ReadsBack f t ps
  reads_back k most d t ps h zero e w us = absurd (past_most most d e (head_stands most d t ps h w))
  reads_back k most _ _ _ (number d n l) (suc f) e w us = ap (tree_on c (tree c f) (Number (signed_decimal (word_signed c.width n)) ∷ us)) (number_told c n k l)
  reads_back k most _ _ _ (symbol d n name is) (suc f) e w us = ap (tree_on c (tree c f) (name_token name ∷ us)) (object_told c n name k is)
  reads_back k most _ _ _ (function d n name is) (suc f) e w us = ap (tree_on c (tree c f) (name_token name ∷ us)) (function_told c n name k is)
  reads_back k most _ _ _ (block d n l) (suc f) e w us = ap (tree_on c (tree c f) (Word (76 ∷ decimal n) ∷ us)) (block_told c n l)
  reads_back k most _ _ _ (cell d x h) (suc f) e w us =
      ap (tree c (suc f)) (tokens_begun d (cell_tokens x) us) ∙ cell_reads (tree c f) d x us h
  reads_back k most _ _ _ (memory d v a ps h) (suc f) e w us =
      memory_reads f d v a ps (reads_back k most (suc d) a ps h f (omega (arith, e)) (within_parts most ps _ w.1.1).0) us
  reads_back k most _ _ _ (unary d o a ps b h) (suc f) e w us =
      unary_reads f d o a ps b (reads_back k most (suc d) a ps h f (omega (arith, e)) (within_parts most ps _ w.1.1.1).0) us
  reads_back k most _ _ _ (binary d o a b ps qs h i) (suc f) e w us =
      let p = within_parts most ps (mark sign.Space ∷ inner (operator_token o) ∷ mark sign.Space ∷ (qs ++ mark sign.RightParen ∷ [])) w.1 in
      binary_reads f d o a b ps qs
      (reads_back k most (suc d) a ps h f (omega (arith, e)) p.0)
      (reads_back k most (suc d) b qs i f (omega (arith, e)) (within_parts most qs (mark sign.RightParen ∷ []) p.1.1.1.1).0) us
  reads_back k most _ _ _ (test d q n l) (suc f) e w us =
      flag_reads f q n us (Mark sign.Space ∷ Word (relation_word q) ∷ Mark sign.RightParen ∷ us)
      (flag_alone most f d n (Mark sign.Space ∷ Word (relation_word q) ∷ Mark sign.RightParen ∷ us) (omega (arith, e)) l w.1.0) refl
  reads_back k most _ _ _ (hole d name leaf is) (suc f) e w us = hole_reads name leaf us is

  -- ---- assignments

  place_cell_reads : (R : Reader) (x : Cell) (us : Tokens) → IsSpelledCell x → place c R (cell_tokens x ++ us) ≡ gives (Some (ToCell x)) us
  place_cell_reads R (Hard n) us h = ap (λ (r : Read Cell). r >>= λ x us. gives (Some (ToCell x)) us) (index_reads Register n us h)
  place_cell_reads R (Temp n) us h = ap (λ (r : Read Cell). r >>= λ x us. gives (Some (ToCell x)) us) (index_reads Temporary n us h)
  place_cell_reads R (Flag n) us h = ap (λ (r : Read Cell). r >>= λ x us. gives (Some (ToCell x)) us) (index_reads FlagBank n us h)
  place_cell_reads R Pc us h = refl
  place_cell_reads R Input us h = refl
  place_cell_reads R Output us h = refl
  place_cell_reads R Halt us h = refl
  place_cell_reads R (Hole n) us h = absurd h

  place_memory_reads : (R : Reader) (w : Width) (a : Tree) (ps : List Placed) (us : Tokens) → R (tokens_in ps ++ Mark sign.RightBracket ∷ us) ≡ gives a (Mark sign.RightBracket ∷ us)
      → place c R (tokens_in (memory_tokens 1 w ps) ++ us) ≡ gives (Some (ToMemory w a)) us
  place_memory_reads R w a ps us h =
      let ts : Tokens = Mark sign.LeftBracket ∷ (tokens_in (ps ++ mark sign.RightBracket ∷ []) ++ us) in
      ap (place_on c R (Word (memory_word w) ∷ ts)) (memory_told c w)
      ∙ ap (λ (r : Read Tree). r >>= λ a us. gives (Some (ToMemory w a)) us) (address_reads R a ps us h)

  place_reads : (k : IsContext c) (f : ℕ) (g : Option Goal) (ps : List Placed) → SpellsPlace c g ps → Within (suc f) ps → (us : Tokens)
      → place c (tree c f) (tokens_in ps ++ us) ≡ gives g us
  place_reads k f _ _ (to_cell x h) w us = ap (place c (tree c f)) (tokens_begun 1 (cell_tokens x) us) ∙ place_cell_reads (tree c f) x us h
  place_reads k f _ _ (to_memory v a ps h) w us =
      place_memory_reads (tree c f) v a ps us
      (reads_back k (suc f) 2 a ps h f (omega arith) (within_parts (suc f) ps (mark sign.RightBracket ∷ []) w.1.1).0 (Mark sign.RightBracket ∷ us))
  place_reads k f _ _ (to_hole name leaf e) w us = ap (λ (r : Read Tree). r >>= λ t us. gives (goal_of_leaf t) us) (hole_reads name leaf us e)

  -- no tree is `lost`
  no_lost : (f : ℕ) (ts us : Tokens) (a : Tree) → sense_of c (head_of ts) ≡ sense.Lost → tree c f ts ≡ gives a us → ⊥
  no_lost zero ts us a e h = let r : wrong {A = Tree} ts ≡ gives a us = ap (too_deep c ts) (sym e) ∙ h in absurd cc
  no_lost (suc f) ts us a e h = let r : wrong {A = Tree} ts ≡ gives a us = ap (tree_on c (tree c f) ts) (sym e) ∙ h in absurd cc

  value_on_reads : (f : ℕ) (ts us : Tokens) (a : Tree) (v : Sense) → sense_of c (head_of ts) ≡ v → tree c f ts ≡ gives a us → value_on (tree c f) ts v ≡ gives a us
  value_on_reads f ts us a sense.Lost e h = absurd (no_lost f ts us a e h)
  value_on_reads f ts us a v e h = h

  value_reads : (f : ℕ) (ts us : Tokens) (a : Tree) → tree c f ts ≡ gives a us → read_value c (tree c f) ts ≡ gives a us
  value_reads f ts us a h = value_on_reads f ts us a (sense_of c (head_of ts)) refl h

  becomes_reads : (f : ℕ) (g : Option Goal) (t : Tree) (ps qs : List Placed) (us : Tokens)
      → place c (tree c f) (tokens_in ps ++ Mark sign.Space ∷ Mark sign.Equals ∷ Mark sign.Space ∷ (tokens_in qs ++ us)) ≡ gives g (Mark sign.Space ∷ Mark sign.Equals ∷ Mark sign.Space ∷ (tokens_in qs ++ us))
      → read_value c (tree c (suc f)) (tokens_in qs ++ us) ≡ gives t us
      → move c f (tokens_in (ps ++ becomes qs) ++ us) ≡ gives (record { to = g; value = t }) us
  becomes_reads f g t ps qs us h i =
      ap (move c f) (tokens_append ps (becomes qs) us)
      ∙ ap (λ (r : Read (Option Goal)). r >>= λ g us. expect sign.Space us >>= λ _ us. expect sign.Equals us >>= λ _ us. expect sign.Space us
      >>= λ _ us. read_value c (tree c (suc f)) us >>= λ t us. gives (record { to = g; value = t }) us) h
      ∙ ap (λ (r : Read Tree). r >>= λ t us. gives (record { to = g; value = t }) us) i

  move_reads : (k : IsContext c) (f : ℕ) (m : Said) (ps : List Placed) → SpellsMove c m ps → Within (suc f) ps → (us : Tokens)
      → move c f (tokens_in ps ++ us) ≡ gives m us
  move_reads k f _ _ (value g t ps qs h i) w us =
      let p = within_parts (suc f) ps (becomes qs) w in
      becomes_reads f g t ps qs us (place_reads k f g ps h p.0 _)
      (value_reads (suc f) (tokens_in qs ++ us) us t (reads_back k (suc f) 1 t qs i (suc f) (omega arith) p.1.1.1.1 us))
  move_reads k f _ _ (lost g ps h) w us =
      let p = within_parts (suc f) ps (becomes (inner (Word (codes "lost")) ∷ [])) w in
      becomes_reads f g NoPair ps (inner (Word (codes "lost")) ∷ []) us (place_reads k f g ps h p.0 _) refl

  abbrev behind : ℕ → ℕ → Said → Tokens → Read (List Said)
  behind f n m us =
      cond (is_sign sign.End (head_of us)) (gives (m ∷ []) (rest_of us))
      (expect sign.Semicolon us >>= λ _ us. expect sign.Space us >>= λ _ us. moves c f n us >>= λ ms us. gives (m ∷ ms) us)

  pub transfer_reads : (k : IsContext c) (f : ℕ) (ms : List Said) (ps : List Placed) → SpellsTransfer c ms ps → Within (suc f) ps
      → (n : ℕ) → length ps ≤ n → (us : Tokens) → moves c f n (tokens_in ps ++ us) ≡ gives ms us
  transfer_reads k f _ _ (last m ps h) w zero le us = absurd (omega (arith, le, length-append ps (mark sign.End ∷ [])))
  transfer_reads k f _ _ (more m ms ps qs h i) w zero le us = absurd (omega (arith, le, length-append ps (mark sign.Semicolon ∷ mark sign.Space ∷ qs)))
  transfer_reads k f _ _ (last m ps h) w (suc n) le us =
      ap (moves c f (suc n)) (tokens_append ps (mark sign.End ∷ []) us)
      ∙ ap (λ (r : Read Said). r >>= λ m us. behind f n m us) (move_reads k f m ps h (within_parts (suc f) ps (mark sign.End ∷ []) w).0 (Mark sign.End ∷ us))
  transfer_reads k f _ _ (more m ms ps qs h i) w (suc n) le us =
      let p = within_parts (suc f) ps (mark sign.Semicolon ∷ mark sign.Space ∷ qs) w in
      ap (moves c f (suc n)) (tokens_append ps (mark sign.Semicolon ∷ mark sign.Space ∷ qs) us)
      ∙ ap (λ (r : Read Said). r >>= λ m us. behind f n m us) (move_reads k f m ps h p.0 (Mark sign.Semicolon ∷ Mark sign.Space ∷ (tokens_in qs ++ us)))
      ∙ ap (λ (r : Read (List Said)). r >>= λ ms us. gives (m ∷ ms) us)
      (transfer_reads k f ms qs i p.1.1.1 n (omega (arith, le, length-append ps (mark sign.Semicolon ∷ mark sign.Space ∷ qs))) us)
