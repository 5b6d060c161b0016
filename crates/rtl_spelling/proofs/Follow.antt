-- The reading goes the way of the automaton.
use Rattle.std.proofs.Common.{◌≡◌, ℕ, zero, suc, ◌+◌, ◌≤◌, Bool, true, false, cond, if◌then◌else◌, List, [], ◌∷◌, ◌++◌, length, Option, Some, None, Ok, Err, refl, sym, ap, subst, ◌∙◌, append_assoc, arith}
use Rattle.rtl_word.specs.declared.Rel.{Rel}
use Rattle.rtl_tree.specs.declared.cells.Cell.{Cell}
use Rattle.rtl_tree.specs.declared.expressions.UnOp.{UnOp}
use Rattle.rtl_tree.specs.declared.expressions.UnOp.TheVariants.{Test}
use Rattle.rtl_tree.specs.declared.expressions.BinOp.{BinOp}
use Rattle.rtl_tree.specs.declared.expressions.BinOp.TheVariants.{Cmp}
use Rattle.rtl_tree.specs.Trees.{Tree, Load, Unary, Binary, Read as ReadTree}
use Rattle.rtl_tree.specs.Moves.{ToMemory, ToCell}
use Rattle.rtl_spelling.specs.declared.signs.Sign.{Sign}
use Rattle.rtl_spelling.specs.declared.signs.Sign.TheVariants as sign
use Rattle.rtl_spelling.specs.declared.senses.Bank.{Bank}
use Rattle.rtl_spelling.specs.declared.senses.Bank.TheVariants.{Flag as FlagBank}
use Rattle.rtl_spelling.specs.declared.senses.Sense.{Sense}
use Rattle.rtl_spelling.specs.declared.senses.Sense.TheVariants as sense
use Rattle.rtl_spelling.specs.Tokens.{Token}
use Rattle.rtl_spelling.specs.Spelling.{Context, Said, goal_of_leaf}
use Rattle.rtl_spelling.specs.Senses.{sense_of, cell_at}
use Rattle.rtl_spelling.specs.Reading.{Read, ◌>>=◌, head_of, rest_of, gives, wrong, deep, is_sign, expect, index_on, index, hole_on, leaf_at, has_holes, hole, too_deep, Reader, address, right, operator_on, operator, after_relation, tested_on, tested, inside_on, inside, tree_on, tree, place_on, place, value_on, value, move, moves, transfer}
use Rattle.rtl_spelling.proofs.Automaton.{Symbol, ATree, Inside, Operator, Tested, AfterRelation, Exactly, Index, HoleName, Place, Value, After, Stack, Step, below, tree_step, right_of, operator_step, tested_step, inside_step, place_step, value_step, start, on_test, on_found, step, stands, stand, past, followed, follow}

pub bind_assoc : {A B C : Type 0} (m : Read A) (g : A → List Token → Read B) (h : B → List Token → Read C) → ((m >>= g) >>= h) ≡ (m >>= λ x us. g x us >>= h)
bind_assoc (Ok x) g h = refl
bind_assoc (Err e) g h = refl

pub bind_ext : {A B : Type 0} (m : Read A) (g h : A → List Token → Read B) → ((x : A) (us : List Token) → g x us ≡ h x us) → (m >>= g) ≡ (m >>= h)
bind_ext (Ok x) g h each = each x.0 x.1
bind_ext (Err e) g h each = refl

abbrev pub onward : Context → ℕ → Stack → {A : Type 0} → A → List Token → Read (Unit {0})
onward c most s x us = follow c most s us

-- f reads what the symbol expects
pub record Follows (c : Context) (most : ℕ) {A : Type 0} (x : Symbol) (f : List Token → Read A) : Type 0 where
  pub is : (s : Stack) (ts : List Token) → follow c most (x ∷ s) ts ≡ (f ts >>= onward c most s)

abbrev Next : Type 0 → Type 0
Next A = A → List Token → Read (Unit {0})

module _ (c : Context) (most : ℕ) where
  -- the reading of a symbol, and then more
  pub and_then :
      {A : Type 0} {x : Symbol} (f : List Token → Read A) → Follows c most x f → (s : Stack) (ts : List Token) (g : Next A)
      → ((a : A) (us : List Token) → follow c most s us ≡ g a us) → follow c most (x ∷ s) ts ≡ (f ts >>= g)
  and_then f F s ts g each = F.is s ts ∙ bind_ext (f ts) (onward c most s) g each

  -- the same where what is read is a part
  pub and_part :
      {A B : Type 0} {x : Symbol} (f : List Token → Read A) (h : A → List Token → Read B) → Follows c most x f → (s : Stack) (ts : List Token) (g : Next B)
      → ((a : A) (us : List Token) → follow c most s us ≡ (h a us >>= g)) → follow c most (x ∷ s) ts ≡ ((f ts >>= h) >>= g)
  and_part f h F s ts g each = and_then f F s ts (λ a us. h a us >>= g) each ∙ sym (bind_assoc (f ts) h g)

  -- ---- symbols that one token fulfils

  exactly_on : (b : Bool) (s : Stack) (t : Token) (ts : List Token) →
      followed most (on_test b [] None) (t ∷ ts) (λ new. follow c most (new ++ s) ts)
      ≡ (cond b (gives {A = Unit {0}} tt ts) (wrong (t ∷ ts)) >>= onward c most s)
  exactly_on true s t ts = refl
  exactly_on false s t ts = refl

  exactly_is : (g : Sign) (s : Stack) (ts : List Token) → follow c most (Exactly g ∷ s) ts ≡ (expect g ts >>= onward c most s)
  exactly_is g s [] = refl
  exactly_is g s (t ∷ ts) = exactly_on (is_sign g t) s t ts

  pub exactly : (g : Sign) → Follows c most (Exactly g) (expect g)
  exactly g = record { is = exactly_is g }

  index_found : (o : Option Cell) (s : Stack) (t : Token) (ts : List Token) (g : Next Cell)
      → ((x : Cell) (us : List Token) → follow c most s us ≡ g x us)
      → followed most (on_found o) (t ∷ ts) (λ new. follow c most (new ++ Exactly sign.RightBracket ∷ s) ts) ≡ (index_on (t ∷ ts) o >>= g)
  index_found (Some x) s t ts g each = and_part (expect sign.RightBracket) (λ _ us. gives x us) (exactly sign.RightBracket) s ts g (λ _ us. each x us)
  index_found None s t ts g each = refl

  index_rest : (b : Bank) (s : Stack) (ts : List Token) (g : Next Cell)
      → ((x : Cell) (us : List Token) → follow c most s us ≡ g x us)
      → follow c most (Index b ∷ Exactly sign.RightBracket ∷ s) ts ≡ (index_on ts (cell_at b (head_of ts)) >>= g)
  index_rest b s [] g each = refl
  index_rest b s (t ∷ ts) g each = index_found (cell_at b t) s t ts g each

  index_is : (b : Bank) (s : Stack) (ts : List Token) (g : Next Cell)
      → ((x : Cell) (us : List Token) → follow c most s us ≡ g x us)
      → follow c most (Exactly sign.LeftBracket ∷ Index b ∷ Exactly sign.RightBracket ∷ s) ts ≡ (index b ts >>= g)
  index_is b s ts g each =
      and_part (expect sign.LeftBracket) (λ _ us. index_on us (cell_at b (head_of us))) (exactly sign.LeftBracket) _ ts g (λ _ us. index_rest b s us g each)

  hole_found : (o : Option Tree) (s : Stack) (t : Token) (ts : List Token) (g : Next Tree)
      → ((x : Tree) (us : List Token) → follow c most s us ≡ g x us)
      → followed most (on_found o) (t ∷ ts) (λ new. follow c most (new ++ Exactly sign.Greater ∷ s) ts) ≡ (hole_on (t ∷ ts) o >>= g)
  hole_found (Some x) s t ts g each = and_part (expect sign.Greater) (λ _ us. gives x us) (exactly sign.Greater) s ts g (λ _ us. each x us)
  hole_found None s t ts g each = refl

  hole_rest : (s : Stack) (ts : List Token) (g : Next Tree)
      → ((x : Tree) (us : List Token) → follow c most s us ≡ g x us)
      → follow c most (HoleName ∷ Exactly sign.Greater ∷ s) ts ≡ (hole_on ts (leaf_at c (head_of ts)) >>= g)
  hole_rest s [] g each = refl
  hole_rest s (t ∷ ts) g each = hole_found (leaf_at c t) s t ts g each

  -- ---- trees, where R reads the trees within

  abbrev Reads : ℕ → Reader → Type 0
  Reads d R = Follows c most (ATree d) R

  address_is : (d : ℕ) (R : Reader) → Reads d R → (s : Stack) (ts : List Token) (g : Next Tree)
      → ((a : Tree) (us : List Token) → follow c most s us ≡ g a us)
      → follow c most (Exactly sign.LeftBracket ∷ ATree d ∷ Exactly sign.RightBracket ∷ s) ts ≡ (address R ts >>= g)
  address_is d R r s ts g each =
      and_part (expect sign.LeftBracket) _ (exactly sign.LeftBracket) _ ts g (λ _ us.
      and_part R _ r _ us g (λ a us.
      and_part (expect sign.RightBracket) (λ _ us. gives a us) (exactly sign.RightBracket) s us g (λ _ us. each a us)))

  right_is : (d : ℕ) (R : Reader) (o : BinOp) (a : Tree) → Reads (suc d) R → (s : Stack) (ts : List Token)
      → follow c most (Exactly sign.Space ∷ ATree (suc d) ∷ Exactly sign.RightParen ∷ s) ts ≡ (right R o a ts >>= onward c most s)
  right_is d R o a r s ts =
      and_part (expect sign.Space) _ (exactly sign.Space) _ ts (onward c most s) (λ _ us.
      and_part R _ r _ us (onward c most s) (λ b us.
      and_part (expect sign.RightParen) (λ _ us. gives (Binary o a b) us) (exactly sign.RightParen) s us (onward c most s) (λ _ us. refl)))

  unary_is : (d : ℕ) (R : Reader) (o : UnOp) → Reads (suc d) R → (s : Stack) (ts : List Token)
      → follow c most (Exactly sign.Space ∷ ATree (suc d) ∷ Exactly sign.RightParen ∷ s) ts
      ≡ ((expect sign.Space ts >>= λ _ us. R us >>= λ a us. expect sign.RightParen us >>= λ _ us. gives (Unary o a) us) >>= onward c most s)
  unary_is d R o r s ts =
      and_part (expect sign.Space) _ (exactly sign.Space) _ ts (onward c most s) (λ _ us.
      and_part R _ r _ us (onward c most s) (λ b us.
      and_part (expect sign.RightParen) (λ _ us. gives (Unary o b) us) (exactly sign.RightParen) s us (onward c most s) (λ _ us. refl)))

  operator_on_is : (d : ℕ) (R : Reader) (a : Tree) → Reads (suc d) R → (s : Stack) (t : Token) (ts : List Token) (v : Sense)
      → followed most (operator_step d v) (t ∷ ts) (λ new. follow c most (new ++ s) ts) ≡ (operator_on R a (t ∷ ts) v >>= onward c most s)
  operator_on_is d R a r s t ts (sense.Binary o) = right_is d R o a r s ts
  operator_on_is d R a r s t ts _ = refl

  operator_is : (d : ℕ) (R : Reader) (a : Tree) → Reads (suc d) R → (s : Stack) (ts : List Token)
      → follow c most (Operator d ∷ s) ts ≡ (operator_on R a ts (sense_of c (head_of ts)) >>= onward c most s)
  operator_is d R a r s [] = refl
  operator_is d R a r s (t ∷ ts) = operator_on_is d R a r s t ts (sense_of c t)

  pub operator_follows : (d : ℕ) (R : Reader) (a : Tree) → Reads (suc d) R → (s : Stack) (ts : List Token)
      → follow c most (Exactly sign.Space ∷ Operator d ∷ s) ts ≡ (operator c R a ts >>= onward c most s)
  operator_follows d R a r s ts = and_part (expect sign.Space) _ (exactly sign.Space) _ ts (onward c most s) (λ _ us. operator_is d R a r s us)

  pushed_on :
      (b : Bool) (d : ℕ) (s : Stack) (t : Token) (ts : List Token)
      → followed most (on_test b (right_of d) None) (t ∷ ts) (λ new. follow c most (new ++ s) ts)
      ≡ followed most (on_test b [] None) (t ∷ ts) (λ new. follow c most (new ++ (ATree (suc d) ∷ Exactly sign.RightParen ∷ s)) ts)
  pushed_on true d s t ts = refl
  pushed_on false d s t ts = refl

  space_is :
      (d : ℕ) (R : Reader) (o : BinOp) (a : Tree) → Reads (suc d) R → (s : Stack) (t : Token) (ts : List Token)
      → followed most (on_test (is_sign sign.Space t) (right_of d) None) (t ∷ ts) (λ new. follow c most (new ++ s) ts)
      ≡ (right R o a (t ∷ ts) >>= onward c most s)
  space_is d R o a r s t ts = pushed_on (is_sign sign.Space t) d s t ts ∙ right_is d R o a r s (t ∷ ts)

  after_relation_on : (b : Bool) (d : ℕ) (R : Reader) (r : Rel) (a : Tree) → Reads (suc d) R → (s : Stack) (t : Token) (ts : List Token)
      → followed most (on_test b [] (on_test (is_sign sign.Space t) (right_of d) None)) (t ∷ ts) (λ new. follow c most (new ++ s) ts)
      ≡ (cond b (gives (Unary (Test r) a) ts) (right R (Cmp r) a (t ∷ ts)) >>= onward c most s)
  after_relation_on true d R r a read s t ts = refl
  after_relation_on false d R r a read s t ts = space_is d R (Cmp r) a read s t ts

  after_relation_is : (d : ℕ) (R : Reader) (r : Rel) (a : Tree) → Reads (suc d) R → (s : Stack) (ts : List Token)
      → follow c most (AfterRelation d ∷ s) ts ≡ (after_relation R r a ts >>= onward c most s)
  after_relation_is d R r a read s [] = refl
  after_relation_is d R r a read s (t ∷ ts) = after_relation_on (is_sign sign.RightParen t) d R r a read s t ts

  tested_on_is : (d : ℕ) (R : Reader) (a : Tree) → Reads (suc d) R → (s : Stack) (t : Token) (ts : List Token) (v : Sense)
      → followed most (tested_step d v) (t ∷ ts) (λ new. follow c most (new ++ s) ts) ≡ (tested_on R a (t ∷ ts) v >>= onward c most s)
  tested_on_is d R a r s t ts (sense.Binary (Cmp q)) = after_relation_is d R q a r s ts
  tested_on_is d R a r s t ts (sense.Binary o) = right_is d R o a r s ts
  tested_on_is d R a r s t ts _ = refl

  tested_rest : (d : ℕ) (R : Reader) (a : Tree) → Reads (suc d) R → (s : Stack) (ts : List Token)
      → follow c most (Tested d ∷ s) ts ≡ (tested_on R a ts (sense_of c (head_of ts)) >>= onward c most s)
  tested_rest d R a r s [] = refl
  tested_rest d R a r s (t ∷ ts) = tested_on_is d R a r s t ts (sense_of c t)

  tested_follows : (d : ℕ) (R : Reader) (a : Tree) → Reads (suc d) R → (s : Stack) (ts : List Token)
      → follow c most (Exactly sign.Space ∷ Tested d ∷ s) ts ≡ (tested c R a ts >>= onward c most s)
  tested_follows d R a r s ts = and_part (expect sign.Space) _ (exactly sign.Space) _ ts (onward c most s) (λ _ us. tested_rest d R a r s us)

  below_is : (o : Step) (S s : Stack) (ts us : List Token)
      → followed most (below S o) ts (λ new. follow c most (new ++ s) us) ≡ followed most o ts (λ new. follow c most (new ++ (S ++ s)) us)
  below_is None S s ts us = refl
  below_is (Some x) S s ts us = ap (λ new. cond (stands most x.0) (follow c most new us) (deep ts)) (append_assoc x.1 S s)

  through_tree : (d : ℕ) (S s : Stack) (t : Token) (ts : List Token) (v : Sense) → sense_of c t ≡ v
      → followed most (below S (tree_step c d v)) (t ∷ ts) (λ new. follow c most (new ++ s) ts) ≡ follow c most (ATree d ∷ (S ++ s)) (t ∷ ts)
  through_tree d S s t ts v e =
      sym (ap (λ v. followed most (below S (tree_step c d v)) (t ∷ ts) (λ new. follow c most (new ++ s) ts)) e)
      ∙ below_is (tree_step c d (sense_of c t)) S s (t ∷ ts) ts

  left_is : (d : ℕ) (R : Reader) → Reads (suc d) R → (s : Stack) (t : Token) (ts : List Token) (v : Sense) → sense_of c t ≡ v
      → followed most (below (Exactly sign.Space ∷ Operator d ∷ []) (tree_step c (suc d) v)) (t ∷ ts) (λ new. follow c most (new ++ s) ts)
      ≡ ((R (t ∷ ts) >>= λ a us. operator c R a us) >>= onward c most s)
  left_is d R r s t ts v e =
      through_tree (suc d) (Exactly sign.Space ∷ Operator d ∷ []) s t ts v e
      ∙ and_part R (λ a us. operator c R a us) r (Exactly sign.Space ∷ Operator d ∷ s) (t ∷ ts) (onward c most s) (λ a us. operator_follows d R a r s us)

  flag_is : (d : ℕ) (R : Reader) → Reads (suc d) R → (s : Stack) (t : Token) (ts : List Token) → sense_of c t ≡ sense.Bank FlagBank
      → followed most (below (Exactly sign.Space ∷ Tested d ∷ []) (tree_step c (suc d) (sense.Bank FlagBank))) (t ∷ ts) (λ new. follow c most (new ++ s) ts)
      ≡ ((R (t ∷ ts) >>= λ a us. tested c R a us) >>= onward c most s)
  flag_is d R r s t ts e =
      through_tree (suc d) (Exactly sign.Space ∷ Tested d ∷ []) s t ts (sense.Bank FlagBank) e
      ∙ and_part R (λ a us. tested c R a us) r (Exactly sign.Space ∷ Tested d ∷ s) (t ∷ ts) (onward c most s) (λ a us. tested_follows d R a r s us)

  inside_on_is : (d : ℕ) (R : Reader) → Reads (suc d) R → (s : Stack) (t : Token) (ts : List Token) (v : Sense) → sense_of c t ≡ v
      → followed most (inside_step c d v) (t ∷ ts) (λ new. follow c most (new ++ s) ts) ≡ (inside_on c R (t ∷ ts) v >>= onward c most s)
  inside_on_is d R r s t ts (sense.Unary o) e = unary_is d R o r s ts
  inside_on_is d R r s t ts (sense.Bank FlagBank) e = flag_is d R r s t ts e
  inside_on_is d R r s t ts v e = left_is d R r s t ts v e

  inside_is : (d : ℕ) (R : Reader) → Reads (suc d) R → (s : Stack) (ts : List Token)
      → follow c most (Inside d ∷ s) ts ≡ (inside c R ts >>= onward c most s)
  inside_is d R r s [] = and_part R (λ a us. operator c R a us) r (Exactly sign.Space ∷ Operator d ∷ s) [] (onward c most s) (λ a us. operator_follows d R a r s us)
  inside_is d R r s (t ∷ ts) = inside_on_is d R r s t ts (sense_of c t) refl

  hole_is : (b : Bool) (d : ℕ) → stands most d ≡ true → (s : Stack) (t : Token) (ts : List Token) (g : Next Tree)
      → ((x : Tree) (us : List Token) → follow c most s us ≡ g x us)
      → followed most (cond b (Some (d, HoleName ∷ Exactly sign.Greater ∷ [])) None) (t ∷ ts) (λ new. follow c most (new ++ s) ts)
      ≡ (cond b (hole_on ts (leaf_at c (head_of ts))) (wrong (t ∷ ts)) >>= g)
  hole_is true d h s t ts g each = rw h (hole_rest s ts g each)
  hole_is false d h s t ts g each = refl

  tree_on_is : (d : ℕ) (R : Reader) → stands most d ≡ true → Reads (suc d) R → (s : Stack) (t : Token) (ts : List Token) (v : Sense)
      → followed most (tree_step c d v) (t ∷ ts) (λ new. follow c most (new ++ s) ts) ≡ (tree_on c R (t ∷ ts) v >>= onward c most s)
  tree_on_is d R h r s t ts (sense.Number n) = rw h refl
  tree_on_is d R h r s t ts (sense.Object n) = rw h refl
  tree_on_is d R h r s t ts (sense.Label n) = rw h refl
  tree_on_is d R h r s t ts (sense.Cell n) = rw h refl
  tree_on_is d R h r s t ts (sense.Bank b) =
      rw h (index_is b s ts (λ x us. follow c most s us) (λ _ us. refl) ∙ sym (bind_assoc (index b ts) (λ x us. gives (ReadTree x) us) (onward c most s)))
  tree_on_is d R h r s t ts (sense.Memory w) =
      rw h (address_is (suc d) R r s ts (λ x us. follow c most s us) (λ _ us. refl) ∙ sym (bind_assoc (address R ts) (λ a us. gives (Load w a) us) (onward c most s)))
  tree_on_is d R h r s t ts (sense.Sign sign.LeftParen) = rw h (inside_is d R r s ts)
  tree_on_is d R h r s t ts (sense.Sign sign.Less) = hole_is (has_holes c.holes) d h s t ts (onward c most s) (λ _ us. refl)
  tree_on_is d R h r s t ts _ = refl

  deep_hole : (b : Bool) (d : ℕ) → stands most d ≡ false → (s : Stack) (t : Token) (ts : List Token)
      → followed most (cond b (Some (d, HoleName ∷ Exactly sign.Greater ∷ [])) None) (t ∷ ts) (λ new. follow c most (new ++ s) ts)
      ≡ (cond b (deep {A = Tree} (t ∷ ts)) (wrong (t ∷ ts)) >>= onward c most s)
  deep_hole true d h s t ts = rw h refl
  deep_hole false d h s t ts = refl

  too_deep_is : (d : ℕ) → stands most d ≡ false → (s : Stack) (t : Token) (ts : List Token) (v : Sense)
      → followed most (tree_step c d v) (t ∷ ts) (λ new. follow c most (new ++ s) ts) ≡ (too_deep c (t ∷ ts) v >>= onward c most s)
  too_deep_is d h s t ts (sense.Number n) = rw h refl
  too_deep_is d h s t ts (sense.Object n) = rw h refl
  too_deep_is d h s t ts (sense.Label n) = rw h refl
  too_deep_is d h s t ts (sense.Cell n) = rw h refl
  too_deep_is d h s t ts (sense.Bank b) = rw h refl
  too_deep_is d h s t ts (sense.Memory w) = rw h refl
  too_deep_is d h s t ts (sense.Sign sign.LeftParen) = rw h refl
  too_deep_is d h s t ts (sense.Sign sign.Less) = deep_hole (has_holes c.holes) d h s t ts
  too_deep_is d h s t ts _ = refl

  tree_is : (f d : ℕ) → f + d ≡ suc most → (s : Stack) (ts : List Token) → follow c most (ATree d ∷ s) ts ≡ (tree c f ts >>= onward c most s)
  tree_is zero d e s [] = refl
  tree_is zero d e s (t ∷ ts) = too_deep_is d (past most d (omega (arith, e))) s t ts (sense_of c t)
  tree_is (suc f) d e s [] = refl
  tree_is (suc f) d e s (t ∷ ts) =
      tree_on_is d (tree c f) (stand most d (omega (arith, e))) (record { is = tree_is f (suc d) (omega (arith, e)) }) s t ts (sense_of c t)

  pub tree_follows : (f d : ℕ) → f + d ≡ suc most → Reads d (tree c f)
  tree_follows f d e = record { is = tree_is f d e }

  -- ---- places and values

  place_on_is : (R : Reader) → 1 ≤ most → Reads 2 R → (s : Stack) (t : Token) (ts : List Token) (v : Sense)
      → followed most (place_step c v) (t ∷ ts) (λ new. follow c most (new ++ s) ts) ≡ (place_on c R (t ∷ ts) v >>= onward c most s)
  place_on_is R h r s t ts (sense.Cell n) = rw (stand most 1 h) refl
  place_on_is R h r s t ts (sense.Bank b) =
      rw (stand most 1 h) (index_is b s ts (λ x us. follow c most s us) (λ _ us. refl)
      ∙ sym (bind_assoc (index b ts) (λ x us. gives (Some (ToCell x)) us) (onward c most s)))
  place_on_is R h r s t ts (sense.Memory w) =
      rw (stand most 1 h) (address_is 2 R r s ts (λ x us. follow c most s us) (λ _ us. refl)
      ∙ sym (bind_assoc (address R ts) (λ a us. gives (Some (ToMemory w a)) us) (onward c most s)))
  place_on_is R h r s t ts (sense.Sign sign.Less) =
      hole_is (has_holes c.holes) 1 (stand most 1 h) s t ts (λ x us. follow c most s us) (λ _ us. refl)
      ∙ sym (bind_assoc (hole c (t ∷ ts)) (λ x us. gives (goal_of_leaf x) us) (onward c most s))
  place_on_is R h r s t ts _ = refl

  place_is : (R : Reader) → 1 ≤ most → Reads 2 R → (s : Stack) (ts : List Token)
      → follow c most (Place ∷ s) ts ≡ (place c R ts >>= onward c most s)
  place_is R h r s [] = refl
  place_is R h r s (t ∷ ts) = place_on_is R h r s t ts (sense_of c t)

  place_follows : (R : Reader) → 1 ≤ most → Reads 2 R → Follows c most Place (place c R)
  place_follows R h r = record { is = place_is R h r }

  value_tree : (S : Reader) → Reads 1 S → (s : Stack) (t : Token) (ts : List Token) (v : Sense) → sense_of c t ≡ v
      → followed most (tree_step c 1 v) (t ∷ ts) (λ new. follow c most (new ++ s) ts) ≡ (S (t ∷ ts) >>= onward c most s)
  value_tree S r s t ts v e =
      sym (ap (λ v. followed most (tree_step c 1 v) (t ∷ ts) (λ new. follow c most (new ++ s) ts)) e) ∙ r.is s (t ∷ ts)

  value_on_is : (S : Reader) → Reads 1 S → (s : Stack) (t : Token) (ts : List Token) (v : Sense) → sense_of c t ≡ v
      → followed most (value_step c v) (t ∷ ts) (λ new. follow c most (new ++ s) ts) ≡ (value_on S (t ∷ ts) v >>= onward c most s)
  value_on_is S r s t ts sense.Lost e = refl
  value_on_is S r s t ts v e = value_tree S r s t ts v e

  value_is : (S : Reader) → Reads 1 S → (s : Stack) (ts : List Token) → follow c most (Value ∷ s) ts ≡ (value c S ts >>= onward c most s)
  value_is S r s [] = r.is s []
  value_is S r s (t ∷ ts) = value_on_is S r s t ts (sense_of c t) refl

  value_follows : (S : Reader) → Reads 1 S → Follows c most Value (value c S)
  value_follows S r = record { is = value_is S r }

-- ---- a whole transfer

module _ (c : Context) (f : ℕ) where
  address_reads : Follows c (suc f) (ATree 2) (tree c f)
  address_reads = tree_follows c (suc f) f 2 (omega arith)

  value_reads : Follows c (suc f) (ATree 1) (tree c (suc f))
  value_reads = tree_follows c (suc f) (suc f) 1 (omega arith)

  pub move_is : (s : Stack) (ts : List Token) (g : Next Said)
      → ((m : Said) (us : List Token) → follow c (suc f) s us ≡ g m us)
      → follow c (suc f) (Place ∷ Exactly sign.Space ∷ Exactly sign.Equals ∷ Exactly sign.Space ∷ Value ∷ s) ts ≡ (move c f ts >>= g)
  move_is s ts g each =
      and_part c (suc f) (place c (tree c f)) _ (place_follows c (suc f) (tree c f) (omega arith) address_reads) _ ts g (λ p us.
      and_part c (suc f) (expect sign.Space) _ (exactly c (suc f) sign.Space) _ us g (λ _ us.
      and_part c (suc f) (expect sign.Equals) _ (exactly c (suc f) sign.Equals) _ us g (λ _ us.
      and_part c (suc f) (expect sign.Space) _ (exactly c (suc f) sign.Space) _ us g (λ _ us.
      and_part c (suc f) (value c (tree c (suc f))) (λ t us. gives (record { to = p; value = t }) us) (value_follows c (suc f) (tree c (suc f)) value_reads) s us g (λ t us. each _ us)))))

-- at most so many tokens are left
abbrev AtMost : ℕ → Read (Unit {0}) → Type 0
AtMost n (Ok x) = length x.1 ≤ n
AtMost n (Err e) = Unit {0}

longer : (m n : ℕ) (r : Read (Unit {0})) → m ≤ n → AtMost m r → AtMost n r
longer m n (Ok x) le h = omega (arith, le, h)
longer m n (Err e) le h = tt

module _ (c : Context) (most : ℕ) where
  followed_most : (b : Bool) (n : ℕ) (ts : List Token) (r : Read (Unit {0})) → AtMost n r → AtMost n (cond b r (deep ts))
  followed_most true n ts r h = h
  followed_most false n ts r h = tt

  step_most : (o : Step) (n : ℕ) (s : Stack) (us ts : List Token) → ((s : Stack) → AtMost n (follow c most s ts))
      → AtMost n (followed most o us (λ new. follow c most (new ++ s) ts))
  step_most None n s us ts h = tt
  step_most (Some y) n s us ts h = followed_most (stands most y.0) n us _ (h (y.1 ++ s))

  at_most : (s : Stack) (ts : List Token) → AtMost (length ts) (follow c most s ts)
  at_most [] ts = omega arith
  at_most (x ∷ s) [] = tt
  at_most (x ∷ s) (t ∷ ts) =
      longer (length ts) (suc (length ts)) _ (omega arith) (step_most (step c x t) (length ts) s (t ∷ ts) ts (λ s. at_most s ts))

  pub fewer : (x : Symbol) (s : Stack) (ts us : List Token) → follow c most (x ∷ s) ts ≡ gives tt us → suc (length us) ≤ length ts
  fewer x s [] us e = absurd cc
  fewer x s (t ∷ ts) us e =
      let k : AtMost (length ts) (gives tt us) =
      subst (λ r. AtMost (length ts) r) e (step_most (step c x t) (length ts) s (t ∷ ts) ts (λ s. at_most s ts)) in
      omega (arith, k)

module _ (c : Context) (f : ℕ) where
  move_fewer : (ts us : List Token) (m : Said) → move c f ts ≡ gives m us → suc (length us) ≤ length ts
  move_fewer ts us m e =
      fewer c (suc f) Place _ ts us
      (move_is c f [] ts (λ m us. gives tt us) (λ _ _. refl) ∙ ap (λ (r : Read Said). r >>= λ m us. gives tt us) e)

  -- what is read behind an assignment
  abbrev behind : ℕ → Said → List Token → Read (List Said)
  behind n m us =
      if is_sign sign.End (head_of us) then gives (m ∷ []) (rest_of us)
      else (expect sign.Semicolon us >>= λ _ us. expect sign.Space us >>= λ _ us. moves c f n us >>= λ ms us. gives (m ∷ ms) us)

  abbrev Whole : ℕ → Type 0
  Whole n = (ts : List Token) → length ts ≤ n → follow c (suc f) start ts ≡ (moves c f n ts >>= onward c (suc f) [])

  space_then : (b : Bool) (n : ℕ) (m : Said) → Whole n → (t : Token) (us : List Token) → length us ≤ n
      → followed (suc f) (on_test b [] None) (t ∷ us) (λ new. follow c (suc f) (new ++ start) us)
      ≡ ((cond b (gives {A = Unit {0}} tt us) (wrong (t ∷ us)) >>= λ _ us. moves c f n us >>= λ ms us. gives (m ∷ ms) us) >>= onward c (suc f) [])
  space_then true n m whole t us le = whole us le ∙ sym (bind_assoc (moves c f n us) (λ ms us. gives (m ∷ ms) us) (onward c (suc f) []))
  space_then false n m whole t us le = refl

  next_is : (n : ℕ) (m : Said) → Whole n → (us : List Token) → length us ≤ n
      → follow c (suc f) (Exactly sign.Space ∷ start) us
      ≡ ((expect sign.Space us >>= λ _ us. moves c f n us >>= λ ms us. gives (m ∷ ms) us) >>= onward c (suc f) [])
  next_is n m whole [] le = refl
  next_is n m whole (t ∷ us) le = space_then (is_sign sign.Space t) n m whole t us (omega (arith, le))

  semicolon_then : (b : Bool) (n : ℕ) (m : Said) → Whole n → (t : Token) (us : List Token) → length us ≤ n
      → followed (suc f) (on_test b (Exactly sign.Space ∷ start) None) (t ∷ us) (λ new. follow c (suc f) (new ++ []) us)
      ≡ ((cond b (gives {A = Unit {0}} tt us) (wrong (t ∷ us)) >>= λ _ us. expect sign.Space us >>= λ _ us. moves c f n us >>= λ ms us. gives (m ∷ ms) us)
      >>= onward c (suc f) [])
  semicolon_then true n m whole t us le = next_is n m whole us le
  semicolon_then false n m whole t us le = refl

  behind_on : (b : Bool) (n : ℕ) (m : Said) → Whole n → (t : Token) (us : List Token) → length us ≤ n
      → followed (suc f) (on_test b [] (on_test (is_sign sign.Semicolon t) (Exactly sign.Space ∷ start) None)) (t ∷ us) (λ new. follow c (suc f) (new ++ []) us)
      ≡ (cond b (gives (m ∷ []) us) (expect sign.Semicolon (t ∷ us) >>= λ _ us. expect sign.Space us >>= λ _ us. moves c f n us >>= λ ms us. gives (m ∷ ms) us)
      >>= onward c (suc f) [])
  behind_on true n m whole t us le = refl
  behind_on false n m whole t us le = semicolon_then (is_sign sign.Semicolon t) n m whole t us le

  behind_is : (n : ℕ) (m : Said) → Whole n → (us : List Token) → length us ≤ n
      → follow c (suc f) (After ∷ []) us ≡ (behind n m us >>= onward c (suc f) [])
  behind_is n m whole [] le = refl
  behind_is n m whole (t ∷ us) le = behind_on (is_sign sign.End t) n m whole t us (omega (arith, le))

  moves_from : (n : ℕ) → Whole n → (ts : List Token) → length ts ≤ suc n → (r : Read Said) → move c f ts ≡ r
      → (r >>= onward c (suc f) (After ∷ [])) ≡ ((r >>= behind n) >>= onward c (suc f) [])
  moves_from n whole ts le (Ok x) e = behind_is n x.0 whole x.1 (omega (arith, le, move_fewer ts x.1 x.0 e))
  moves_from n whole ts le (Err e) is = refl

  pub moves_is : (n : ℕ) → Whole n
  moves_is zero [] le = refl
  moves_is zero (t ∷ ts) le = absurd (omega (arith, le))
  moves_is (suc n) ts le =
      move_is c f (After ∷ []) ts (onward c (suc f) (After ∷ [])) (λ _ _. refl) ∙ moves_from n (moves_is n) ts le (move c f ts) refl

  -- the reading goes the way of the automaton
  pub transfer_is : (ts : List Token) → follow c (suc f) start ts ≡ (transfer c f ts >>= λ _ us. gives tt us)
  transfer_is ts = moves_is (length ts) ts (omega arith)
