-- What is read is spelled so.
use Rattle.std.proofs.Common.{◌≡◌, ℕ, zero, suc, ◌<◌, Bool, true, false, List, [], ◌∷◌, ◌++◌, length, Option, Some, None, Ok, Err, refl, sym, ap, subst, ◌∙◌}
use Rattle.std.specs.Prelude.{cond, codes, decimal, map}
use Rattle.rtl_word.specs.declared.Rel.{Rel}
use Rattle.rtl_tree.specs.declared.cells.Cell.{Cell}
use Rattle.rtl_tree.specs.declared.cells.Cell.TheVariants.{Flag}
use Rattle.rtl_tree.specs.declared.cells.Lab.TheVariants.{Block, Function}
use Rattle.rtl_tree.specs.declared.expressions.Width.{Width}
use Rattle.rtl_tree.specs.declared.expressions.UnOp.{UnOp}
use Rattle.rtl_tree.specs.declared.expressions.UnOp.TheVariants.{Test}
use Rattle.rtl_tree.specs.declared.expressions.BinOp.{BinOp}
use Rattle.rtl_tree.specs.declared.expressions.BinOp.TheVariants.{Cmp}
use Rattle.rtl_tree.specs.Trees.{Tree, Number as NumberTree, Symbol, CodeLabel, Read as ReadTree, Load, Unary, Binary, NoPair}
use Rattle.rtl_tree.specs.Moves.{Goal, ToCell, ToMemory}
use Rattle.rtl_spelling.specs.declared.signs.Sign.{Sign}
use Rattle.rtl_spelling.specs.declared.signs.Sign.TheVariants as sign
use Rattle.rtl_spelling.specs.declared.senses.Bank.{Bank}
use Rattle.rtl_spelling.specs.declared.senses.Bank.TheVariants.{Register, Temporary, Flag as FlagBank}
use Rattle.rtl_spelling.specs.declared.senses.Sense.{Sense}
use Rattle.rtl_spelling.specs.declared.senses.Sense.TheVariants as sense
use Rattle.rtl_spelling.specs.Tokens.{Token, Word, Number, Mark}
use Rattle.rtl_spelling.specs.Holes.{leaf_named}
use Rattle.rtl_spelling.specs.Spelling.{Context, IsContext, Placed, starts, inner, mark, tokens_in, begun, cell_tokens, IsSpelledCell, hole_tokens, memory_tokens, memory_word, unary_word, relation_word, operator_token, Spells, number, symbol, function, block, cell, memory, unary, binary, test, hole, Said, goal_of_leaf, SpellsPlace, to_cell, to_memory, to_hole, SpellsMove, value, lost, SpellsTransfer, last, more, becomes}
use Rattle.rtl_spelling.specs.Senses.{sense_of, cell_at, bank_cell, bank_size}
use Rattle.rtl_spelling.specs.Reading.{Read, ◌>>=◌, head_of, rest_of, gives, wrong, deep, is_sign, expect, index_on, index, hole_on, leaf_at, has_holes, hole as read_hole, too_deep, Reader, address, right, operator_on, operator, after_relation, tested_on, tested, inside_on, inside, tree_on, tree, place_on, place, value_on, value as read_value, move, moves, transfer}
use Rattle.rtl_spelling.proofs.Says.{Says, says, bank_word, index_says, is_sign_is}

-- the reading, where it gives something, gives what is so
abbrev pub Gives : {A : Type 0} → (A → List Token → Type 0) → Read A → Type 0
Gives P (Ok x) = P x.0 x.1
Gives P (Err e) = Unit {0}

pub and_gives : {A B : Type 0} (P : A → List Token → Type 0) (Q : B → List Token → Type 0) (r : Read A) (g : A → List Token → Read B)
    → Gives P r → ((a : A) (us : List Token) → P a us → Gives Q (g a us)) → Gives Q (r >>= g)
and_gives P Q (Ok x) g h each = each x.0 x.1 h
and_gives P Q (Err e) g h each = tt

pub weaker_gives : {A : Type 0} (P Q : A → List Token → Type 0) (r : Read A) → Gives P r → ((a : A) (us : List Token) → P a us → Q a us) → Gives Q r
weaker_gives P Q (Ok x) h each = each x.0 x.1 h
weaker_gives P Q (Err e) h each = tt

abbrev Tokens : Type 0
Tokens = List Token

pub tokens_append : (ps qs : List Placed) (us : Tokens) → tokens_in (ps ++ qs) ++ us ≡ tokens_in ps ++ (tokens_in qs ++ us)
tokens_append [] qs us = refl
tokens_append (p ∷ ps) qs us = ap (λ l. p.token ∷ l) (tokens_append ps qs us)

tokens_inner : (ts us : Tokens) → tokens_in (map inner ts) ++ us ≡ ts ++ us
tokens_inner [] us = refl
tokens_inner (t ∷ ts) us = ap (λ l. t ∷ l) (tokens_inner ts us)

pub tokens_begun : (d : ℕ) (ts us : Tokens) → tokens_in (begun d ts) ++ us ≡ ts ++ us
tokens_begun d [] us = refl
tokens_begun d (t ∷ ts) us = ap (λ l. t ∷ l) (tokens_inner ts us)

-- the sign stands in front
abbrev After : Sign → Tokens → Unit {0} → Tokens → Type 0
After s ts _ us = ts ≡ Mark s ∷ us

expect_on : (b : Bool) (s : Sign) (t : Token) (ts : Tokens) → is_sign s t ≡ b → Gives (After s (t ∷ ts)) (cond b (gives tt ts) (wrong (t ∷ ts)))
expect_on true s t ts e = ap (λ u. u ∷ ts) (is_sign_is s t e)
expect_on false s t ts e = tt

pub expect_gives : (s : Sign) (ts : Tokens) → Gives (After s ts) (expect s ts)
expect_gives s [] = tt
expect_gives s (t ∷ ts) = expect_on (is_sign s t) s t ts refl

-- an index in brackets
record Indexed (b : Bank) (ts : Tokens) (x : Cell) (us : Tokens) : Type 0 where
  pub number : ℕ
  pub below : number < bank_size b
  pub is : x ≡ bank_cell b number
  pub split : ts ≡ Mark sign.LeftBracket ∷ Number (decimal number) ∷ Mark sign.RightBracket ∷ us

index_found : (b : Bank) (ts : Tokens) (t : Token) (us : Tokens) (o : Option Cell) → cell_at b t ≡ o → ts ≡ Mark sign.LeftBracket ∷ t ∷ us
    → Gives (Indexed b ts) (index_on (t ∷ us) o)
index_found b ts t us None e split = tt
index_found b ts t us (Some x) e split =
    let i = index_says b t x e in
    and_gives (After sign.RightBracket us) (Indexed b ts) (expect sign.RightBracket us) (λ _ vs. gives x vs) (expect_gives sign.RightBracket us) (λ _ vs f.
    record { number = i.number; below = i.below; is = i.is; split = split ∙ ap (λ l. Mark sign.LeftBracket ∷ t ∷ l) f ∙ ap (λ t. Mark sign.LeftBracket ∷ t ∷ Mark sign.RightBracket ∷ vs) i.token })

index_at : (b : Bank) (ts us : Tokens) → ts ≡ Mark sign.LeftBracket ∷ us → Gives (Indexed b ts) (index_on us (cell_at b (head_of us)))
index_at b ts [] split = tt
index_at b ts (t ∷ us) split = index_found b ts t us (cell_at b t) refl split

index_gives : (b : Bank) (ts : Tokens) → Gives (Indexed b ts) (index b ts)
index_gives b ts =
    and_gives (After sign.LeftBracket ts) (Indexed b ts) (expect sign.LeftBracket ts) (λ _ us. index_on us (cell_at b (head_of us)))
    (expect_gives sign.LeftBracket ts) (λ _ us e. index_at b ts us e)

-- the tokens of a cell with an index
bank_tokens : (b : Bank) (n : ℕ) → n < bank_size b → (IsSpelledCell (bank_cell b n)) × (cell_tokens (bank_cell b n) ≡ Word (bank_word b) ∷ Mark sign.LeftBracket ∷ Number (decimal n) ∷ Mark sign.RightBracket ∷ [])
bank_tokens Register n l = (l, refl)
bank_tokens Temporary n l = (l, refl)
bank_tokens FlagBank n l = (l, refl)

-- the word of a bank and an index are a cell
record CellRead (ts : Tokens) (x : Cell) (us : Tokens) : Type 0 where
  pub spelled : IsSpelledCell x
  pub split : ts ≡ cell_tokens x ++ us

cell_read : (b : Bank) (t : Token) (ts us : Tokens) (x : Cell) → t ≡ Word (bank_word b) → Indexed b ts x us → CellRead (t ∷ ts) x us
cell_read b t ts us x e i =
    let k = bank_tokens b i.number i.below in
    record {
      spelled = subst IsSpelledCell (sym i.is) k.0;
      split = ap (λ t. t ∷ ts) e ∙ ap (λ l. Word (bank_word b) ∷ l) i.split ∙ ap (λ l. l ++ us) (sym k.1) ∙ ap (λ x. cell_tokens x ++ us) (sym i.is);
    }

module _ (c : Context) (k : IsContext c) where
  -- the tree at depth d is spelled by what stands before us
  pub record Spelt (d : ℕ) (ts : Tokens) (t : Tree) (us : Tokens) : Type 0 where
    pub placed : List Placed
    pub split : ts ≡ tokens_in placed ++ us
    pub spells : Spells c d t placed

  one_token : (d : ℕ) (t : Token) (ts : Tokens) (a : Tree) (u : Token) → t ≡ u → Spells c d a (starts d u ∷ []) → Spelt d (t ∷ ts) a ts
  one_token d t ts a u e h = record { placed = starts d u ∷ []; split = ap (λ t. t ∷ ts) e; spells = h }

  cell_spelt : (d : ℕ) (ts us : Tokens) (x : Cell) → CellRead ts x us → Spelt d ts (ReadTree x) us
  cell_spelt d ts us x r = record { placed = begun d (cell_tokens x); split = r.split ∙ sym (tokens_begun d (cell_tokens x) us); spells = cell d x r.spelled }

  -- ---- holes

  record HoleRead (ts : Tokens) (t : Tree) (us : Tokens) : Type 0 where
    pub name : List ℕ
    pub leaf : leaf_named c.holes name ≡ Some t
    pub split : ts ≡ hole_tokens name ++ us

  hole_word : (name : List ℕ) (us : Tokens) (o : Option Tree) → leaf_named c.holes name ≡ o → Gives (HoleRead (Mark sign.Less ∷ Word name ∷ us)) (hole_on (Word name ∷ us) o)
  hole_word name us None e = tt
  hole_word name us (Some a) e =
      and_gives (After sign.Greater us) (HoleRead (Mark sign.Less ∷ Word name ∷ us)) (expect sign.Greater us) (λ _ us. gives a us) (expect_gives sign.Greater us)
      (λ _ vs f. record { name = name; leaf = e; split = ap (λ l. Mark sign.Less ∷ Word name ∷ l) f })

  hole_at : (ts : Tokens) → Gives (HoleRead (Mark sign.Less ∷ ts)) (hole_on ts (leaf_at c (head_of ts)))
  hole_at [] = tt
  hole_at (Word name ∷ ts) = hole_word name ts (leaf_named c.holes name) refl
  hole_at (Number bs ∷ ts) = tt
  hole_at (Mark s ∷ ts) = tt

  hole_when : (b : Bool) (t : Token) (ts : Tokens) → t ≡ Mark sign.Less → Gives (HoleRead (t ∷ ts)) (cond b (hole_on ts (leaf_at c (head_of ts))) (wrong (t ∷ ts)))
  hole_when true t ts e = subst (λ t. Gives (HoleRead (t ∷ ts)) (hole_on ts (leaf_at c (head_of ts)))) (sym e) (hole_at ts)
  hole_when false t ts e = tt

  hole_gives : (t : Token) (ts : Tokens) → t ≡ Mark sign.Less → Gives (HoleRead (t ∷ ts)) (read_hole c (t ∷ ts))
  hole_gives t ts e = hole_when (has_holes c.holes) t ts e

  hole_spelt : (d : ℕ) (ts us : Tokens) (a : Tree) → HoleRead ts a us → Spelt d ts a us
  hole_spelt d ts us a r =
      record { placed = begun d (hole_tokens r.name); split = r.split ∙ sym (tokens_begun d (hole_tokens r.name) us); spells = hole d r.name a r.leaf }

  -- ---- trees, where R reads the trees within

  record FlagRead (ts : Tokens) (a : Tree) (us : Tokens) : Type 0 where
    pub number : ℕ
    pub below : number < 8
    pub is : a ≡ ReadTree (Flag number)
    pub split : ts ≡ cell_tokens (Flag number) ++ us

  record IsSound (d : ℕ) (R : Reader) : Type 0 where
    pub spelt : (ts : Tokens) → Gives (Spelt d ts) (R ts)
    pub flag : (ts : Tokens) → sense_of c (head_of ts) ≡ sense.Bank FlagBank → Gives (FlagRead ts) (R ts)

  record Addressed (d : ℕ) (ts : Tokens) (a : Tree) (us : Tokens) : Type 0 where
    pub placed : List Placed
    pub split : ts ≡ Mark sign.LeftBracket ∷ (tokens_in placed ++ Mark sign.RightBracket ∷ us)
    pub spells : Spells c d a placed

  address_gives : (d : ℕ) (R : Reader) → IsSound d R → (ts : Tokens) → Gives (Addressed d ts) (address R ts)
  address_gives d R r ts =
      and_gives (After sign.LeftBracket ts) (Addressed d ts) (expect sign.LeftBracket ts) _ (expect_gives sign.LeftBracket ts) (λ _ us e.
      and_gives (Spelt d us) (Addressed d ts) (R us) _ (r.spelt us) (λ a vs s.
      and_gives (After sign.RightBracket vs) (Addressed d ts) (expect sign.RightBracket vs) (λ _ ws. gives a ws) (expect_gives sign.RightBracket vs) (λ _ ws f.
      record { placed = s.placed; split = e ∙ ap (λ l. Mark sign.LeftBracket ∷ l) (s.split ∙ ap (λ l. tokens_in s.placed ++ l) f); spells = s.spells })))

  memory_spelt : (d : ℕ) (w : Width) (t : Token) (ts : Tokens) (a : Tree) (us : Tokens) → t ≡ Word (memory_word w) → Addressed (suc d) ts a us → Spelt d (t ∷ ts) (Load w a) us
  memory_spelt d w t ts a us e r = record {
    placed = memory_tokens d w r.placed;
    split = ap (λ t. t ∷ ts) e ∙ ap (λ l. Word (memory_word w) ∷ l) (r.split ∙ ap (λ l. Mark sign.LeftBracket ∷ l) (sym (tokens_append r.placed (mark sign.RightBracket ∷ []) us)));
    spells = memory d w a r.placed r.spells;
  }

  record Righted (d : ℕ) (o : BinOp) (a : Tree) (ts : Tokens) (t : Tree) (us : Tokens) : Type 0 where
    pub right_tree : Tree
    pub placed : List Placed
    pub is : t ≡ Binary o a right_tree
    pub split : ts ≡ Mark sign.Space ∷ (tokens_in placed ++ Mark sign.RightParen ∷ us)
    pub spells : Spells c (suc d) right_tree placed

  right_gives : (d : ℕ) (R : Reader) → IsSound (suc d) R → (o : BinOp) (a : Tree) (ts : Tokens) → Gives (Righted d o a ts) (right R o a ts)
  right_gives d R r o a ts =
      and_gives (After sign.Space ts) (Righted d o a ts) (expect sign.Space ts) _ (expect_gives sign.Space ts) (λ _ us e.
      and_gives (Spelt (suc d) us) (Righted d o a ts) (R us) _ (r.spelt us) (λ b vs s.
      and_gives (After sign.RightParen vs) (Righted d o a ts) (expect sign.RightParen vs) (λ _ ws. gives (Binary o a b) ws) (expect_gives sign.RightParen vs) (λ _ ws f.
      record { right_tree = b; placed = s.placed; is = refl; split = e ∙ ap (λ l. Mark sign.Space ∷ l) (s.split ∙ ap (λ l. tokens_in s.placed ++ l) f); spells = s.spells })))

  -- what stands behind a left tree makes a tree of both, or tests it
  data Behind (d : ℕ) (a : Tree) (ts : Tokens) (t : Tree) (us : Tokens) : Type 0 where
    operates : (o : BinOp) (vs : Tokens) → ts ≡ Mark sign.Space ∷ operator_token o ∷ vs → Righted d o a vs t us → Behind d a ts t us
    tests : (r : Rel) → t ≡ Unary (Test r) a → ts ≡ Mark sign.Space ∷ Word (relation_word r) ∷ Mark sign.RightParen ∷ us → Behind d a ts t us

  record Operated (d : ℕ) (a : Tree) (ts : Tokens) (t : Tree) (us : Tokens) : Type 0 where
    pub by : BinOp
    pub after : Tokens
    pub split : ts ≡ Mark sign.Space ∷ operator_token by ∷ after
    pub rest : Righted d by a after t us

  operator_on_gives : (d : ℕ) (R : Reader) → IsSound (suc d) R → (a : Tree) (ts : Tokens) (t : Token) (us : Tokens) (v : Sense) → ts ≡ Mark sign.Space ∷ t ∷ us → Says c t v
      → Gives (Operated d a ts) (operator_on R a (t ∷ us) v)
  operator_on_gives d R r a ts t us (sense.Binary o) e s =
      weaker_gives (Righted d o a us) (Operated d a ts) (right R o a us) (right_gives d R r o a us)
      (λ b vs h. record { by = o; after = us; split = e ∙ ap (λ t. Mark sign.Space ∷ t ∷ us) s; rest = h })
  operator_on_gives d R r a ts t us _ e s = tt

  operator_at : (d : ℕ) (R : Reader) → IsSound (suc d) R → (a : Tree) (ts us : Tokens) → ts ≡ Mark sign.Space ∷ us
      → Gives (Operated d a ts) (operator_on R a us (sense_of c (head_of us)))
  operator_at d R r a ts [] e = tt
  operator_at d R r a ts (t ∷ us) e = operator_on_gives d R r a ts t us (sense_of c t) e (says c k t)

  operator_gives : (d : ℕ) (R : Reader) → IsSound (suc d) R → (a : Tree) (ts : Tokens) → Gives (Operated d a ts) (operator c R a ts)
  operator_gives d R r a ts =
      and_gives (After sign.Space ts) (Operated d a ts) (expect sign.Space ts) _ (expect_gives sign.Space ts) (λ _ us e. operator_at d R r a ts us e)

  relation_on : (d : ℕ) (R : Reader) → IsSound (suc d) R → (q : Rel) (a : Tree) (ts : Tokens) (t : Token) (us : Tokens) (b : Bool)
      → ts ≡ Mark sign.Space ∷ Word (relation_word q) ∷ t ∷ us → is_sign sign.RightParen t ≡ b
      → Gives (Behind d a ts) (cond b (gives (Unary (Test q) a) us) (right R (Cmp q) a (t ∷ us)))
  relation_on d R r q a ts t us true e h = tests q refl (e ∙ ap (λ t. Mark sign.Space ∷ Word (relation_word q) ∷ t ∷ us) (is_sign_is sign.RightParen t h))
  relation_on d R r q a ts t us false e h =
      weaker_gives (Righted d (Cmp q) a (t ∷ us)) (Behind d a ts) (right R (Cmp q) a (t ∷ us)) (right_gives d R r (Cmp q) a (t ∷ us)) (λ b vs i. operates (Cmp q) (t ∷ us) e i)

  relation_gives : (d : ℕ) (R : Reader) → IsSound (suc d) R → (q : Rel) (a : Tree) (ts us : Tokens) → ts ≡ Mark sign.Space ∷ Word (relation_word q) ∷ us
      → Gives (Behind d a ts) (after_relation R q a us)
  relation_gives d R r q a ts [] e = tt
  relation_gives d R r q a ts (t ∷ us) e = relation_on d R r q a ts t us (is_sign sign.RightParen t) e refl

  any_operator : (d : ℕ) (R : Reader) → IsSound (suc d) R → (o : BinOp) (a : Tree) (ts : Tokens) (t : Token) (us : Tokens) → ts ≡ Mark sign.Space ∷ t ∷ us → t ≡ operator_token o
      → Gives (Behind d a ts) (right R o a us)
  any_operator d R r o a ts t us e s =
      weaker_gives (Righted d o a us) (Behind d a ts) (right R o a us) (right_gives d R r o a us) (λ b vs h. operates o us (e ∙ ap (λ t. Mark sign.Space ∷ t ∷ us) s) h)

  tested_on_gives : (d : ℕ) (R : Reader) → IsSound (suc d) R → (a : Tree) (ts : Tokens) (t : Token) (us : Tokens) (v : Sense) → ts ≡ Mark sign.Space ∷ t ∷ us → Says c t v
      → Gives (Behind d a ts) (tested_on R a (t ∷ us) v)
  tested_on_gives d R r a ts t us (sense.Binary (Cmp q)) e s = relation_gives d R r q a ts us (e ∙ ap (λ t. Mark sign.Space ∷ t ∷ us) s)
  tested_on_gives d R r a ts t us (sense.Binary o) e s = any_operator d R r o a ts t us e s
  tested_on_gives d R r a ts t us _ e s = tt

  tested_at : (d : ℕ) (R : Reader) → IsSound (suc d) R → (a : Tree) (ts us : Tokens) → ts ≡ Mark sign.Space ∷ us
      → Gives (Behind d a ts) (tested_on R a us (sense_of c (head_of us)))
  tested_at d R r a ts [] e = tt
  tested_at d R r a ts (t ∷ us) e = tested_on_gives d R r a ts t us (sense_of c t) e (says c k t)

  tested_gives : (d : ℕ) (R : Reader) → IsSound (suc d) R → (a : Tree) (ts : Tokens) → Gives (Behind d a ts) (tested c R a ts)
  tested_gives d R r a ts =
      and_gives (After sign.Space ts) (Behind d a ts) (expect sign.Space ts) _ (expect_gives sign.Space ts) (λ _ us e. tested_at d R r a ts us e)

  -- ---- brackets: what stands behind the left one

  abbrev Bracketed : ℕ → Tokens → Tree → Tokens → Type 0
  Bracketed d ts t us = Spelt d (Mark sign.LeftParen ∷ ts) t us

  binary_spelt : (d : ℕ) (o : BinOp) (a b : Tree) (ps qs : List Placed) (ts vs ws us : Tokens) → Spells c (suc d) a ps → Spells c (suc d) b qs
      → ts ≡ tokens_in ps ++ vs → vs ≡ Mark sign.Space ∷ operator_token o ∷ ws → ws ≡ Mark sign.Space ∷ (tokens_in qs ++ Mark sign.RightParen ∷ us)
      → Bracketed d ts (Binary o a b) us
  binary_spelt d o a b ps qs ts vs ws us h i e f g = record {
    placed = starts d (Mark sign.LeftParen) ∷ (ps ++ mark sign.Space ∷ inner (operator_token o) ∷ mark sign.Space ∷ (qs ++ mark sign.RightParen ∷ []));
    split = ap (λ l. Mark sign.LeftParen ∷ l) (e ∙ ap (λ l. tokens_in ps ++ l)
        (f ∙ ap (λ l. Mark sign.Space ∷ operator_token o ∷ l) (g ∙ ap (λ l. Mark sign.Space ∷ l) (sym (tokens_append qs (mark sign.RightParen ∷ []) us))))
        ∙ sym (tokens_append ps (mark sign.Space ∷ inner (operator_token o) ∷ mark sign.Space ∷ (qs ++ mark sign.RightParen ∷ [])) us));
    spells = binary d o a b ps qs h i;
  }

  unary_spelt : (d : ℕ) (o : UnOp) (a : Tree) (ps : List Placed) (t : Token) (ts vs us : Tokens) → Says c t (sense.Unary o) → Spells c (suc d) a ps
      → ts ≡ Mark sign.Space ∷ (tokens_in ps ++ Mark sign.RightParen ∷ us) → Bracketed d (t ∷ ts) (Unary o a) us
  unary_spelt d o a ps t ts vs us s h e = record {
    placed = starts d (Mark sign.LeftParen) ∷ inner (Word (unary_word o)) ∷ mark sign.Space ∷ (ps ++ mark sign.RightParen ∷ []);
    split = ap (λ l. Mark sign.LeftParen ∷ l) (ap (λ t. t ∷ ts) s.1 ∙ ap (λ l. Word (unary_word o) ∷ l) (e ∙ ap (λ l. Mark sign.Space ∷ l) (sym (tokens_append ps (mark sign.RightParen ∷ []) us))));
    spells = unary d o a ps s.0 h;
  }

  test_spelt : (d : ℕ) (q : Rel) (n : ℕ) (ts vs us : Tokens) → n < 8 → ts ≡ cell_tokens (Flag n) ++ vs → vs ≡ Mark sign.Space ∷ Word (relation_word q) ∷ Mark sign.RightParen ∷ us
      → Bracketed d ts (Unary (Test q) (ReadTree (Flag n))) us
  test_spelt d q n ts vs us l e f = record {
    placed = starts d (Mark sign.LeftParen) ∷ (begun (suc d) (cell_tokens (Flag n)) ++ mark sign.Space ∷ inner (Word (relation_word q)) ∷ mark sign.RightParen ∷ []);
    split = ap (λ l. Mark sign.LeftParen ∷ l) (e ∙ ap (λ l. cell_tokens (Flag n) ++ l) f);
    spells = test d q n l;
  }

  operated_spelt : (d : ℕ) (a t : Tree) (ts vs us : Tokens) → Spelt (suc d) ts a vs → Operated d a vs t us → Bracketed d ts t us
  operated_spelt d a t ts vs us s o =
      subst (λ t. Bracketed d ts t us) (sym o.rest.is)
      (binary_spelt d o.by a o.rest.right_tree s.placed o.rest.placed ts vs o.after us s.spells o.rest.spells s.split o.split o.rest.split)

  behind_spelt : (d n : ℕ) (a t : Tree) (ts vs us : Tokens) → n < 8 → a ≡ ReadTree (Flag n) → ts ≡ cell_tokens (Flag n) ++ vs → Behind d a vs t us → Bracketed d ts t us
  behind_spelt d n a t ts vs us l e split (operates o ws f r) =
      operated_spelt d a t ts vs us
      (record { placed = begun (suc d) (cell_tokens (Flag n)); split = split; spells = subst (λ a. Spells c (suc d) a (begun (suc d) (cell_tokens (Flag n)))) (sym e) (cell (suc d) (Flag n) l) })
      (record { by = o; after = ws; split = f; rest = r })
  behind_spelt d n a t ts vs us l e split (tests q is f) =
      subst (λ t. Bracketed d ts t us) (sym (is ∙ ap (Unary (Test q)) e)) (test_spelt d q n ts vs us l split f)

  unary_gives : (d : ℕ) (R : Reader) → IsSound (suc d) R → (o : UnOp) (t : Token) (ts : Tokens) → Says c t (sense.Unary o)
      → Gives (Bracketed d (t ∷ ts)) (expect sign.Space ts >>= λ _ us. R us >>= λ a us. expect sign.RightParen us >>= λ _ us. gives (Unary o a) us)
  unary_gives d R r o t ts h =
      and_gives (After sign.Space ts) (Bracketed d (t ∷ ts)) (expect sign.Space ts) _ (expect_gives sign.Space ts) (λ _ us e.
      and_gives (Spelt (suc d) us) (Bracketed d (t ∷ ts)) (R us) _ (r.spelt us) (λ a vs s.
      and_gives (After sign.RightParen vs) (Bracketed d (t ∷ ts)) (expect sign.RightParen vs) (λ _ ws. gives (Unary o a) ws) (expect_gives sign.RightParen vs) (λ _ ws f.
      unary_spelt d o a s.placed t ts us ws h s.spells (e ∙ ap (λ l. Mark sign.Space ∷ l) (s.split ∙ ap (λ l. tokens_in s.placed ++ l) f)))))

  left_gives : (d : ℕ) (R : Reader) → IsSound (suc d) R → (ts : Tokens) → Gives (Bracketed d ts) (R ts >>= λ a us. operator c R a us)
  left_gives d R r ts =
      and_gives (Spelt (suc d) ts) (Bracketed d ts) (R ts) (λ a us. operator c R a us) (r.spelt ts) (λ a vs s.
      weaker_gives (Operated d a vs) (Bracketed d ts) (operator c R a vs) (operator_gives d R r a vs) (λ t us o. operated_spelt d a t ts vs us s o))

  flag_gives : (d : ℕ) (R : Reader) → IsSound (suc d) R → (ts : Tokens) → sense_of c (head_of ts) ≡ sense.Bank FlagBank → Gives (Bracketed d ts) (R ts >>= λ a us. tested c R a us)
  flag_gives d R r ts e =
      and_gives (FlagRead ts) (Bracketed d ts) (R ts) (λ a us. tested c R a us) (r.flag ts e) (λ a vs s.
      weaker_gives (Behind d a vs) (Bracketed d ts) (tested c R a vs) (tested_gives d R r a vs) (λ t us o. behind_spelt d s.number a t ts vs us s.below s.is s.split o))

  inside_on_gives : (d : ℕ) (R : Reader) → IsSound (suc d) R → (t : Token) (ts : Tokens) (v : Sense) → sense_of c t ≡ v → Says c t v → Gives (Bracketed d (t ∷ ts)) (inside_on c R (t ∷ ts) v)
  inside_on_gives d R r t ts (sense.Unary o) e s = unary_gives d R r o t ts s
  inside_on_gives d R r t ts (sense.Bank FlagBank) e s = flag_gives d R r (t ∷ ts) e
  inside_on_gives d R r t ts v e s = left_gives d R r (t ∷ ts)

  inside_gives : (d : ℕ) (R : Reader) → IsSound (suc d) R → (ts : Tokens) → Gives (Bracketed d ts) (inside c R ts)
  inside_gives d R r [] = left_gives d R r []
  inside_gives d R r (t ∷ ts) = inside_on_gives d R r t ts (sense_of c t) refl (says c k t)

  bank_gives : (b : Bank) (t : Token) (ts : Tokens) → t ≡ Word (bank_word b) → Gives (CellRead (t ∷ ts)) (index b ts)
  bank_gives b t ts e = weaker_gives (Indexed b ts) (CellRead (t ∷ ts)) (index b ts) (index_gives b ts) (λ x us i. cell_read b t ts us x e i)

  cell_token : (d : ℕ) (t : Token) (ts : Tokens) (x : Cell) → Says c t (sense.Cell x) → Spelt d (t ∷ ts) (ReadTree x) ts
  cell_token d t ts x s = cell_spelt d (t ∷ ts) ts x (record { spelled = s.0; split = ap (λ l. l ++ ts) s.1 })

  tree_on_gives : (d : ℕ) (R : Reader) → IsSound (suc d) R → (t : Token) (ts : Tokens) (v : Sense) → Says c t v → Gives (Spelt d (t ∷ ts)) (tree_on c R (t ∷ ts) v)
  tree_on_gives d R r t ts (sense.Number n) s = one_token d t ts (NumberTree n) _ s.1 (number d n s.0)
  tree_on_gives d R r t ts (sense.Object n) s = one_token d t ts (Symbol n) _ s.2 (symbol d n s.0 s.1)
  tree_on_gives d R r t ts (sense.Label (Function n)) s = one_token d t ts (CodeLabel (Function n)) _ s.2 (function d n s.0 s.1)
  tree_on_gives d R r t ts (sense.Label (Block n)) s = one_token d t ts (CodeLabel (Block n)) _ s.1 (block d n s.0)
  tree_on_gives d R r t ts (sense.Cell x) s = cell_token d t ts x s
  tree_on_gives d R r t ts (sense.Bank b) s =
      and_gives (CellRead (t ∷ ts)) (Spelt d (t ∷ ts)) (index b ts) (λ x us. gives (ReadTree x) us) (bank_gives b t ts s) (λ x us i. cell_spelt d (t ∷ ts) us x i)
  tree_on_gives d R r t ts (sense.Memory w) s =
      and_gives (Addressed (suc d) ts) (Spelt d (t ∷ ts)) (address R ts) (λ a us. gives (Load w a) us) (address_gives (suc d) R r ts) (λ a us i. memory_spelt d w t ts a us s i)
  tree_on_gives d R r t ts (sense.Sign sign.LeftParen) s =
      subst (λ t. Gives (Spelt d (t ∷ ts)) (inside c R ts)) (sym s) (inside_gives d R r ts)
  tree_on_gives d R r t ts (sense.Sign sign.Less) s =
      weaker_gives (HoleRead (t ∷ ts)) (Spelt d (t ∷ ts)) (read_hole c (t ∷ ts)) (hole_gives t ts s) (λ a us h. hole_spelt d (t ∷ ts) us a h)
  tree_on_gives d R r t ts _ s = tt

  deep_or_wrong : (P : Tree → Tokens → Type 0) (b : Bool) (ts : Tokens) → Gives P (cond b (deep ts) (wrong ts))
  deep_or_wrong P true ts = tt
  deep_or_wrong P false ts = tt

  nothing_deep : (P : Tree → Tokens → Type 0) (ts : Tokens) (v : Sense) → Gives P (too_deep c ts v)
  nothing_deep P ts (sense.Number n) = tt
  nothing_deep P ts (sense.Object n) = tt
  nothing_deep P ts (sense.Label n) = tt
  nothing_deep P ts (sense.Cell n) = tt
  nothing_deep P ts (sense.Bank n) = tt
  nothing_deep P ts (sense.Memory n) = tt
  nothing_deep P ts (sense.Sign sign.LeftParen) = tt
  nothing_deep P ts (sense.Sign sign.Less) = deep_or_wrong P (has_holes c.holes) ts
  nothing_deep P ts _ = tt

  tree_spelt : (f d : ℕ) → IsSound (suc d) (tree c f) → (ts : Tokens) → Gives (Spelt d ts) (tree c (suc f) ts)
  tree_spelt f d r [] = tt
  tree_spelt f d r (t ∷ ts) = tree_on_gives d (tree c f) r t ts (sense_of c t) (says c k t)

  flag_from_cell : (ts us : Tokens) (n : ℕ) (x : Cell) → x ≡ Flag n → CellRead ts x us → FlagRead ts (ReadTree x) us
  flag_from_cell ts us n x e r = record {
    number = n;
    below = subst IsSpelledCell e r.spelled;
    is = ap ReadTree e;
    split = r.split ∙ ap (λ x. cell_tokens x ++ us) e;
  }

  tree_flag : (f : ℕ) (ts : Tokens) → sense_of c (head_of ts) ≡ sense.Bank FlagBank → Gives (FlagRead ts) (tree c (suc f) ts)
  tree_flag f [] e = absurd cc
  tree_flag f (t ∷ ts) e =
      let word : Says c t (sense.Bank FlagBank) = subst (Says c t) e (says c k t) in
      subst (λ v. Gives (FlagRead (t ∷ ts)) (tree_on c (tree c f) (t ∷ ts) v)) (sym e)
      (and_gives (Indexed FlagBank ts) (FlagRead (t ∷ ts)) (index FlagBank ts) (λ x us. gives (ReadTree x) us) (index_gives FlagBank ts)
      (λ x us i. flag_from_cell (t ∷ ts) us i.number x i.is (cell_read FlagBank t ts us x word i)))

  tree_sound : (f d : ℕ) → IsSound d (tree c f)
  tree_sound zero d = record {
    spelt = λ ts. nothing_deep (Spelt d ts) ts (sense_of c (head_of ts));
    flag = λ ts e. nothing_deep (FlagRead ts) ts (sense_of c (head_of ts));
  }
  tree_sound (suc f) d = record { spelt = tree_spelt f d (tree_sound f (suc d)); flag = tree_flag f }

  -- a tree that is read is spelled by what stands before the rest
  pub tree_is_spelt : (f d : ℕ) (ts : Tokens) → Gives (Spelt d ts) (tree c f ts)
  tree_is_spelt f d ts = (tree_sound f d).spelt ts

  -- ---- assignments

  record Placing (ts : Tokens) (g : Option Goal) (us : Tokens) : Type 0 where
    pub placed : List Placed
    pub split : ts ≡ tokens_in placed ++ us
    pub spells : SpellsPlace c g placed

  cell_placing : (ts us : Tokens) (x : Cell) → CellRead ts x us → Placing ts (Some (ToCell x)) us
  cell_placing ts us x r = record { placed = begun 1 (cell_tokens x); split = r.split ∙ sym (tokens_begun 1 (cell_tokens x) us); spells = to_cell x r.spelled }

  memory_placing : (w : Width) (t : Token) (ts : Tokens) (a : Tree) (us : Tokens) → t ≡ Word (memory_word w) → Addressed 2 ts a us → Placing (t ∷ ts) (Some (ToMemory w a)) us
  memory_placing w t ts a us e r = record {
    placed = memory_tokens 1 w r.placed;
    split = ap (λ t. t ∷ ts) e ∙ ap (λ l. Word (memory_word w) ∷ l) (r.split ∙ ap (λ l. Mark sign.LeftBracket ∷ l) (sym (tokens_append r.placed (mark sign.RightBracket ∷ []) us)));
    spells = to_memory w a r.placed r.spells;
  }

  hole_placing : (ts us : Tokens) (a : Tree) → HoleRead ts a us → Placing ts (goal_of_leaf a) us
  hole_placing ts us a r =
      record { placed = begun 1 (hole_tokens r.name); split = r.split ∙ sym (tokens_begun 1 (hole_tokens r.name) us); spells = to_hole r.name a r.leaf }

  place_on_gives : (R : Reader) → IsSound 2 R → (t : Token) (ts : Tokens) (v : Sense) → Says c t v → Gives (Placing (t ∷ ts)) (place_on c R (t ∷ ts) v)
  place_on_gives R r t ts (sense.Cell x) s = cell_placing (t ∷ ts) ts x (record { spelled = s.0; split = ap (λ l. l ++ ts) s.1 })
  place_on_gives R r t ts (sense.Bank b) s =
      and_gives (CellRead (t ∷ ts)) (Placing (t ∷ ts)) (index b ts) (λ x us. gives (Some (ToCell x)) us) (bank_gives b t ts s) (λ x us i. cell_placing (t ∷ ts) us x i)
  place_on_gives R r t ts (sense.Memory w) s =
      and_gives (Addressed 2 ts) (Placing (t ∷ ts)) (address R ts) (λ a us. gives (Some (ToMemory w a)) us) (address_gives 2 R r ts) (λ a us i. memory_placing w t ts a us s i)
  place_on_gives R r t ts (sense.Sign sign.Less) s =
      and_gives (HoleRead (t ∷ ts)) (Placing (t ∷ ts)) (read_hole c (t ∷ ts)) (λ a us. gives (goal_of_leaf a) us) (hole_gives t ts s) (λ a us h. hole_placing (t ∷ ts) us a h)
  place_on_gives R r t ts _ s = tt

  place_gives : (R : Reader) → IsSound 2 R → (ts : Tokens) → Gives (Placing ts) (place c R ts)
  place_gives R r [] = tt
  place_gives R r (t ∷ ts) = place_on_gives R r t ts (sense_of c t) (says c k t)

  -- a value: a tree, or that it is lost
  data Valued (ts : Tokens) (t : Tree) (us : Tokens) : Type 0 where
    as_tree : Spelt 1 ts t us → Valued ts t us
    as_lost : t ≡ NoPair → ts ≡ Word (codes "lost") ∷ us → Valued ts t us

  value_on_gives : (S : Reader) → IsSound 1 S → (t : Token) (ts : Tokens) (v : Sense) → Says c t v → Gives (Valued (t ∷ ts)) (value_on S (t ∷ ts) v)
  value_on_gives S r t ts sense.Lost s = as_lost refl (ap (λ t. t ∷ ts) s)
  value_on_gives S r t ts v s = weaker_gives (Spelt 1 (t ∷ ts)) (Valued (t ∷ ts)) (S (t ∷ ts)) (r.spelt (t ∷ ts)) (λ a us h. as_tree h)

  value_gives : (S : Reader) → IsSound 1 S → (ts : Tokens) → Gives (Valued ts) (read_value c S ts)
  value_gives S r [] = weaker_gives (Spelt 1 []) (Valued []) (S []) (r.spelt []) (λ a us h. as_tree h)
  value_gives S r (t ∷ ts) = value_on_gives S r t ts (sense_of c t) (says c k t)

  record Moved (ts : Tokens) (m : Said) (us : Tokens) : Type 0 where
    pub placed : List Placed
    pub split : ts ≡ tokens_in placed ++ us
    pub spells : SpellsMove c m placed

  becomes_split : (ps qs : List Placed) (ts vs ws us : Tokens) → ts ≡ tokens_in ps ++ vs → vs ≡ Mark sign.Space ∷ Mark sign.Equals ∷ Mark sign.Space ∷ ws → ws ≡ tokens_in qs ++ us
      → ts ≡ tokens_in (ps ++ becomes qs) ++ us
  becomes_split ps qs ts vs ws us e f g =
      e ∙ ap (λ l. tokens_in ps ++ l) (f ∙ ap (λ l. Mark sign.Space ∷ Mark sign.Equals ∷ Mark sign.Space ∷ l) g) ∙ sym (tokens_append ps (becomes qs) us)

  moved : (g : Option Goal) (t : Tree) (ts vs ws us : Tokens) → Placing ts g vs → vs ≡ Mark sign.Space ∷ Mark sign.Equals ∷ Mark sign.Space ∷ ws → Valued ws t us
      → Moved ts (record { to = g; value = t }) us
  moved g t ts vs ws us p e (as_tree s) = record {
    placed = p.placed ++ becomes s.placed;
    split = becomes_split p.placed s.placed ts vs ws us p.split e s.split;
    spells = value g t p.placed s.placed p.spells s.spells;
  }
  moved g t ts vs ws us p e (as_lost is f) =
      subst (λ t. Moved ts (record { to = g; value = t }) us) (sym is) (record {
        placed = p.placed ++ becomes (inner (Word (codes "lost")) ∷ []);
        split = becomes_split p.placed (inner (Word (codes "lost")) ∷ []) ts vs ws us p.split e f;
        spells = lost g p.placed p.spells;
      })

  move_gives : (f : ℕ) (ts : Tokens) → Gives (Moved ts) (move c f ts)
  move_gives f ts =
      and_gives (Placing ts) (Moved ts) (place c (tree c f) ts) _ (place_gives (tree c f) (tree_sound f 2) ts) (λ g us p.
      and_gives (After sign.Space us) (Moved ts) (expect sign.Space us) _ (expect_gives sign.Space us) (λ _ vs e1.
      and_gives (After sign.Equals vs) (Moved ts) (expect sign.Equals vs) _ (expect_gives sign.Equals vs) (λ _ ws e2.
      and_gives (After sign.Space ws) (Moved ts) (expect sign.Space ws) _ (expect_gives sign.Space ws) (λ _ xs e3.
      and_gives (Valued xs) (Moved ts) (read_value c (tree c (suc f)) xs) (λ t ys. gives (record { to = g; value = t }) ys) (value_gives (tree c (suc f)) (tree_sound (suc f) 1) xs) (λ t ys v.
      moved g t ts us xs ys p (e1 ∙ ap (λ l. Mark sign.Space ∷ l) (e2 ∙ ap (λ l. Mark sign.Equals ∷ l) e3)) v)))))

  pub record Transferred (ts : Tokens) (ms : List Said) (us : Tokens) : Type 0 where
    pub placed : List Placed
    pub split : ts ≡ tokens_in placed ++ us
    pub spells : SpellsTransfer c ms placed

  last_transfer : (m : Said) (ts vs us : Tokens) → Moved ts m vs → vs ≡ Mark sign.End ∷ us → Transferred ts (m ∷ []) us
  last_transfer m ts vs us h e = record {
    placed = h.placed ++ mark sign.End ∷ [];
    split = h.split ∙ ap (λ l. tokens_in h.placed ++ l) e ∙ sym (tokens_append h.placed (mark sign.End ∷ []) us);
    spells = last m h.placed h.spells;
  }

  more_transfer : (m : Said) (ms : List Said) (ts vs ws us : Tokens) → Moved ts m vs → vs ≡ Mark sign.Semicolon ∷ Mark sign.Space ∷ ws → Transferred ws ms us → Transferred ts (m ∷ ms) us
  more_transfer m ms ts vs ws us h e r = record {
    placed = h.placed ++ mark sign.Semicolon ∷ mark sign.Space ∷ r.placed;
    split = h.split ∙ ap (λ l. tokens_in h.placed ++ l) (e ∙ ap (λ l. Mark sign.Semicolon ∷ Mark sign.Space ∷ l) r.split) ∙ sym (tokens_append h.placed (mark sign.Semicolon ∷ mark sign.Space ∷ r.placed) us);
    spells = more m ms h.placed r.placed h.spells r.spells;
  }

  further : (f n : ℕ) (m : Said) (ts us : Tokens) → Moved ts m us → ((ts : Tokens) → Gives (Transferred ts) (moves c f n ts))
      → Gives (Transferred ts) (expect sign.Semicolon us >>= λ _ us. expect sign.Space us >>= λ _ us. moves c f n us >>= λ ms us. gives (m ∷ ms) us)
  further f n m ts us h rest =
      and_gives (After sign.Semicolon us) (Transferred ts) (expect sign.Semicolon us) _ (expect_gives sign.Semicolon us) (λ _ vs e1.
      and_gives (After sign.Space vs) (Transferred ts) (expect sign.Space vs) _ (expect_gives sign.Space vs) (λ _ ws e2.
      and_gives (Transferred ws) (Transferred ts) (moves c f n ws) (λ ms us. gives (m ∷ ms) us) (rest ws) (λ ms xs r.
      more_transfer m ms ts us ws xs h (e1 ∙ ap (λ l. Mark sign.Semicolon ∷ l) e2) r)))

  behind_gives : (b : Bool) (f n : ℕ) (m : Said) (ts : Tokens) (t : Token) (us : Tokens) → is_sign sign.End t ≡ b → Moved ts m (t ∷ us) → ((ts : Tokens) → Gives (Transferred ts) (moves c f n ts))
      → Gives (Transferred ts) (cond b (gives (m ∷ []) us) (expect sign.Semicolon (t ∷ us) >>= λ _ us. expect sign.Space us >>= λ _ us. moves c f n us >>= λ ms us. gives (m ∷ ms) us))
  behind_gives true f n m ts t us e h rest = last_transfer m ts (t ∷ us) us h (ap (λ t. t ∷ us) (is_sign_is sign.End t e))
  behind_gives false f n m ts t us e h rest = further f n m ts (t ∷ us) h rest

  next_gives : (f n : ℕ) (m : Said) (ts us : Tokens) → Moved ts m us → ((ts : Tokens) → Gives (Transferred ts) (moves c f n ts))
      → Gives (Transferred ts) (cond (is_sign sign.End (head_of us)) (gives (m ∷ []) (rest_of us)) (expect sign.Semicolon us >>= λ _ us. expect sign.Space us >>= λ _ us. moves c f n us >>= λ ms us. gives (m ∷ ms) us))
  next_gives f n m ts [] h rest = tt
  next_gives f n m ts (t ∷ us) h rest = behind_gives (is_sign sign.End t) f n m ts t us refl h rest

  moves_gives : (f n : ℕ) (ts : Tokens) → Gives (Transferred ts) (moves c f n ts)
  moves_gives f zero ts = tt
  moves_gives f (suc n) ts =
      and_gives (Moved ts) (Transferred ts) (move c f ts) _ (move_gives f ts) (λ m us h. next_gives f n m ts us h (λ ts. moves_gives f n ts))

  pub transfer_spelled : (f : ℕ) (ts us : Tokens) (ms : List Said) → transfer c f ts ≡ gives ms us → Transferred ts ms us
  transfer_spelled f ts us ms e = let h : Gives (Transferred ts) (gives ms us) = subst (Gives (Transferred ts)) e (moves_gives f (length ts) ts) in h
