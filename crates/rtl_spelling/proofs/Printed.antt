-- What is printed spells what was printed.
use Rattle.std.proofs.Common.{◌≡◌, ℕ, zero, suc, ◌+◌, ◌-◌, ◌^◌, ◌≤◌, ◌<◌, true, not, ◌&&◌, eqb, List, [], ◌∷◌, ◌++◌, length, get_or, Option, Some, refl, sym, ap, subst, ◌∙◌, append_assoc, arith, inl, inr}
use Rattle.std.specs.Prelude.{◌⊎◌, codes, decimal, nat_le, All}
use Rattle.std.specs.Fmt.{signed_decimal}
use Rattle.std.specs.Char.{is_ascii_digit}
use Rattle.std.specs.List.{AllPass, list_all}
use Rattle.std.proofs.lemmas.Bool.{and_parts, and_from, ne_eqb, lt-ltb, le-ltb, leb-true, cases_lt}
use Rattle.std.proofs.lemmas.Bool.Decides.{nat_tests}
use Rattle.std.proofs.lemmas.Fmt.{digits_decimal, decimal_nonempty, first_decimal, decimal_digit}
use Rattle.std.proofs.lemmas.List.Elements.{All-head, All-tail, All-weaker, All-get_or}
use Rattle.std.proofs.lemmas.List.Sums.{AllPass-from_list_all}
use Rattle.std.proofs.lemmas.Option.{slice_get-get_or}
use Rattle.asm_token.specs.Tokens.{is_name_start, is_name_byte}
use Rattle.asm_token.proofs.Bytes.{digit_is_name}
use Rattle.rtl_word.specs.Words.{IsWordSize, word_signed}
use Rattle.rtl_word.specs.declared.Rel.{Rel}
use Rattle.rtl_word.specs.declared.Rel.TheVariants.{Eq, Ne, Lt, Le, Gt, Ge, Ltu, Leu, Gtu, Geu}
use Rattle.rtl_word.proofs.Below.{by_size}
use Rattle.rtl_tree.specs.declared.cells.Cell.{Cell}
use Rattle.rtl_tree.specs.declared.cells.Cell.TheVariants.{Hard, Temp, Flag, Pc, Input, Output, Halt, Hole}
use Rattle.rtl_tree.specs.declared.cells.Lab.TheVariants.{Block, Function}
use Rattle.rtl_tree.specs.declared.constructs.Construct.TheVariants.{Compared}
use Rattle.rtl_tree.specs.declared.expressions.Width.{Width}
use Rattle.rtl_tree.specs.declared.expressions.Width.TheVariants.{Byte, Full}
use Rattle.rtl_tree.specs.declared.expressions.UnOp.{UnOp}
use Rattle.rtl_tree.specs.declared.expressions.UnOp.TheVariants.{Neg, Not, Sxb, Test}
use Rattle.rtl_tree.specs.declared.expressions.BinOp.{BinOp}
use Rattle.rtl_tree.specs.declared.expressions.BinOp.TheVariants.{Add, Sub, Mul, Div, Divu, Rem, Remu, And, Or, Xor, Shl, Shr, Shru, Cmp, Pair, When}
use Rattle.rtl_tree.specs.Names.{IsName as IsCName, IsNameByte, AreNames}
use Rattle.rtl_tree.specs.Trees.{Tree, Number as NumberTree, Symbol, CodeLabel, Read as ReadTree, Load, Unary, Binary, NoPair, AnyNumber, AnyName}
use Rattle.rtl_tree.specs.Moves.{Goal, ToCell, ToMemory, Move}
use Rattle.rtl_tree.specs.WellFormed.{depth, free_of, free_below, is_construct, is_flag, flags_tested, compares_for_flag, tests_flags, is_shallow, IsPlaced, IsWellFormed}
use Rattle.rtl_spelling.specs.declared.signs.Sign.{Sign}
use Rattle.rtl_spelling.specs.declared.signs.Sign.TheVariants as sign
use Rattle.rtl_spelling.specs.Tokens.{Token, Word, Number, Mark, IsMagnitude, IsNumber, IsToken}
use Rattle.rtl_spelling.specs.Spelling.{Context, IsContext, Placed, starts, inner, mark, tokens_in, begun, cell_tokens, IsSpelledCell, name_token, memory_tokens, memory_word, unary_word, relation_word, operator_token, Spells, number, symbol, function, block, cell, memory, unary, binary, test, Said, SpellsPlace, to_cell, to_memory, SpellsMove, value, lost, SpellsTransfer, last, more, becomes, StandsBefore}
use Rattle.rtl_spelling.specs.Printing.{tree_tokens, goal_tokens, move_tokens, tokens_of, text_of, IsPrintableCell, IsPrintableTree, IsPrintableGoal, IsPrintable, IsTypedCell, IsTypedTree, IsTypedGoal, IsTyped}
use Rattle.rtl_spelling.specs.Contract.{said_of, TextSays}
use Rattle.rtl_spelling.proofs.Traces.{Within}
use Rattle.rtl_spelling.proofs.Automaton.{stand}
use Rattle.rtl_spelling.proofs.Begun.{within_from}
use Rattle.rtl_spelling.proofs.Numbers.{AreDigits, own}
use Rattle.rtl_spelling.proofs.Ends.{tokens_append}
use Rattle.rtl_spelling.proofs.Lexed.{MayFollow, Written, written_lexed}

-- ---- the tokens are tokens

magnitude_of : (ds : List ℕ) → AreDigits ds → 0 < length ds → 48 < get_or ds 0 0 → IsMagnitude ds
magnitude_of [] a l h = absurd (omega (arith, l))
magnitude_of (d ∷ ds) a l h =
    let r = and_parts (is_ascii_digit d) (list_all is_ascii_digit ds) a in
    (and_from (is_ascii_digit d) (not (eqb d 48)) r.0 (ap not (ne_eqb d 48 (λ e. omega (arith, h, e)))), AllPass-from_list_all is_ascii_digit ds r.1)

decimal_magnitude : (n : ℕ) → 0 < n → n < 2 ^ 64 → IsMagnitude (decimal n)
decimal_magnitude n some small = magnitude_of (decimal n) (digits_decimal own n small) (decimal_nonempty n small) (first_decimal n some small)

decimal_number : (n : ℕ) → n < 2 ^ 64 → IsNumber (decimal n)
decimal_number zero small = inl (decimal_digit 0 (omega arith))
decimal_number (suc n) small = inr (inl (decimal_magnitude (suc n) (omega arith) small))

signed_number : (w n : ℕ) → 2 ^ w ≤ 2 ^ 63 → n < 2 ^ w → IsNumber (signed_decimal (word_signed w n))
signed_number w n small l = elim (cases_lt n (2 ^ (w - 1))) as (λ _. IsNumber (signed_decimal (word_signed w n))) [
  | inl lt ↦ rw (lt-ltb n (2 ^ (w - 1)) lt) (decimal_number n (omega (arith, small, l)))
  | inr le ↦ rw (le-ltb n (2 ^ (w - 1)) le)
      (inr (inr (decimal (suc (2 ^ w - suc n)), refl, decimal_magnitude (suc (2 ^ w - suc n)) (omega arith) (omega (arith, small, l)))))
]

word_number : (w n : ℕ) → IsWordSize w → n < 2 ^ w → IsNumber (signed_decimal (word_signed w n))
word_number w n s l = signed_number w n (by_size (λ w. 2 ^ w ≤ 2 ^ 63) (omega arith) (omega arith) w s) l

name_byte : (b : ℕ) → IsNameByte b → is_name_byte b ≡ true
name_byte b (inl e) = ap is_name_byte e
name_byte b (inr (inl h)) = grind (arith, nat_tests)
name_byte b (inr (inr (inl h))) = grind (arith, nat_tests)
name_byte b (inr (inr (inr h))) = grind (arith, nat_tests)

name_bytes : (name : List ℕ) → IsCName name → AllPass is_name_byte name
name_bytes name h = All-weaker IsNameByte (λ b. is_name_byte b ≡ true) name_byte name h.bytes

name_is_token : (ns : List (List ℕ)) (k : ℕ) → AreNames ns → k < length ns → IsToken (name_token (get_or ns k []))
name_is_token ns k h l = (refl, name_bytes (get_or ns k []) (All-get_or IsCName ns k [] l h.names))

block_is_token : (k : ℕ) → k < 2 ^ 64 → IsToken (Word (76 ∷ decimal k))
block_is_token k small =
    (refl, All-weaker (λ b. is_ascii_digit b ≡ true) (λ b. is_name_byte b ≡ true) digit_is_name (decimal k) (AllPass-from_list_all is_ascii_digit (decimal k) (digits_decimal own k small)))

-- ---- written tokens

cons_written : (t : Token) (ts : List Token) → IsToken t → ((u : Token) → MayFollow t u) → Written ts → Written (t ∷ ts)
cons_written t [] h f w = absurd w
cons_written t (u ∷ us) h f w = (h, f u, w)

word_token : (b : ℕ) (bs : List ℕ) → is_name_start b ≡ true → list_all is_name_byte bs ≡ true → IsToken (Word (b ∷ bs))
word_token b bs h k = (h, AllPass-from_list_all is_name_byte bs k)

relation_token : (r : Rel) → IsToken (Word (relation_word r))
relation_token Eq = word_token 101 (codes "q") refl refl
relation_token Ne = word_token 110 (codes "e") refl refl
relation_token Lt = word_token 108 (codes "t") refl refl
relation_token Le = word_token 108 (codes "e") refl refl
relation_token Gt = word_token 103 (codes "t") refl refl
relation_token Ge = word_token 103 (codes "e") refl refl
relation_token Ltu = word_token 108 (codes "tu") refl refl
relation_token Leu = word_token 108 (codes "eu") refl refl
relation_token Gtu = word_token 103 (codes "tu") refl refl
relation_token Geu = word_token 103 (codes "eu") refl refl

operator_written : (o : BinOp) (rest : List Token) → Written (Mark sign.Space ∷ rest) → Written (Mark sign.Space ∷ operator_token o ∷ Mark sign.Space ∷ rest)
operator_written Add rest w = (tt, tt, (tt, tt, w))
operator_written Sub rest w = (tt, tt, (tt, tt, w))
operator_written Mul rest w = (tt, tt, (tt, tt, w))
operator_written Div rest w = (tt, tt, (word_token 100 (codes "iv") refl refl, tt, w))
operator_written Divu rest w = (tt, tt, (word_token 100 (codes "ivu") refl refl, tt, w))
operator_written Rem rest w = (tt, tt, (word_token 114 (codes "em") refl refl, tt, w))
operator_written Remu rest w = (tt, tt, (word_token 114 (codes "emu") refl refl, tt, w))
operator_written And rest w = (tt, tt, (tt, tt, w))
operator_written Or rest w = (tt, tt, (tt, tt, w))
operator_written Xor rest w = (tt, tt, (tt, tt, w))
operator_written Shl rest w = (tt, tt, (word_token 115 (codes "hl") refl refl, tt, w))
operator_written Shr rest w = (tt, tt, (word_token 115 (codes "hr") refl refl, tt, w))
operator_written Shru rest w = (tt, tt, (word_token 115 (codes "hru") refl refl, tt, w))
operator_written (Cmp r) rest w = (tt, tt, (relation_token r, tt, w))
operator_written Pair rest w = (tt, tt, (tt, tt, w))
operator_written When rest w = (tt, tt, (tt, tt, w))

unary_token : (o : UnOp) → StandsBefore o → IsToken (Word (unary_word o))
unary_token Neg h = word_token 110 (codes "eg") refl refl
unary_token Not h = word_token 110 (codes "ot") refl refl
unary_token Sxb h = word_token 115 (codes "xb") refl refl
unary_token (Test r) h = absurd h

memory_token : (w : Width) → IsToken (Word (memory_word w))
memory_token Full = word_token 77 [] refl refl
memory_token Byte = word_token 66 [] refl refl

-- tokens that are written before any mark
abbrev pub IsWritten : List Token → Type 0
IsWritten ts = (s : Sign) (rest : List Token) → Written (Mark s ∷ rest) → Written (ts ++ Mark s ∷ rest)

index_written : (word : List ℕ) (n : ℕ) → IsToken (Word word) → n < 2 ^ 64 → IsWritten (Word word ∷ Mark sign.LeftBracket ∷ Number (decimal n) ∷ Mark sign.RightBracket ∷ [])
index_written word n h l s rest w = (h, tt, (tt, tt, (decimal_number n l, tt, (tt, tt, w))))

cell_written : (x : Cell) → IsSpelledCell x → IsWritten (cell_tokens x)
cell_written (Hard n) h = index_written (codes "r") n (word_token 114 [] refl refl) (omega (arith, h))
cell_written (Temp n) h = index_written (codes "t") n (word_token 116 [] refl refl) (omega (arith, h))
cell_written (Flag n) h = index_written (codes "f") n (word_token 102 [] refl refl) (omega (arith, h))
cell_written Pc h = λ s rest w. (word_token 80 (codes "C") refl refl, tt, w)
cell_written Input h = λ s rest w. (word_token 73 (codes "N") refl refl, tt, w)
cell_written Output h = λ s rest w. (word_token 79 (codes "UT") refl refl, tt, w)
cell_written Halt h = λ s rest w. (word_token 72 (codes "ALT") refl refl, tt, w)
cell_written (Hole n) h = absurd h

spelled_cell : (x : Cell) → IsPrintableCell x → IsTypedCell x → IsSpelledCell x
spelled_cell (Hard n) h k = h
spelled_cell (Temp n) h k = k
spelled_cell (Flag n) h k = h
spelled_cell Pc h k = tt
spelled_cell Input h k = tt
spelled_cell Output h k = tt
spelled_cell Halt h k = tt
spelled_cell (Hole n) h k = absurd h

one_written : (t : Token) → IsToken t → ((s : Sign) → MayFollow t (Mark s)) → IsWritten (t ∷ [])
one_written t h f s rest w = (h, f s, w)

-- an opening mark, then what is written
opened : (t : Token) (us : List Token) (s : Sign) (rest : List Token) → IsToken t → ((u : Token) → MayFollow t u) → IsWritten us → Written (Mark s ∷ rest) → Written (t ∷ (us ++ Mark s ∷ rest))
opened t us s rest h f i w = cons_written t (us ++ Mark s ∷ rest) h f (i s rest w)

-- ---- trees

-- no `lost`, and tests of flags alone
abbrev pub IsPlain : Tree → Type 0
IsPlain (Load w a) = IsPlain a
IsPlain (Unary (Test r) a) = is_flag a ≡ true
IsPlain (Unary o a) = IsPlain a
IsPlain (Binary o a b) = IsPlain a × IsPlain b
IsPlain NoPair = ⊥
IsPlain t = Unit {0}

within_append : (most : ℕ) (ps qs : List Placed) → Within most ps → Within most qs → Within most (ps ++ qs)
within_append most [] qs h k = k
within_append most (p ∷ ps) qs h k = (h.0, within_append most ps qs h.1 k)

cell_within : (most d : ℕ) (x : Cell) → d ≤ most → Within most (begun d (cell_tokens x))
cell_within most d (Hard n) h = (stand most d h, (refl, (refl, (refl, tt))))
cell_within most d (Temp n) h = (stand most d h, (refl, (refl, (refl, tt))))
cell_within most d (Flag n) h = (stand most d h, (refl, (refl, (refl, tt))))
cell_within most d Pc h = (stand most d h, tt)
cell_within most d Input h = (stand most d h, tt)
cell_within most d Output h = (stand most d h, tt)
cell_within most d Halt h = (stand most d h, tt)
cell_within most d (Hole n) h = tt

pub cell_begun : (d : ℕ) (x : Cell) → tokens_in (begun d (cell_tokens x)) ≡ cell_tokens x
cell_begun d (Hard n) = refl
cell_begun d (Temp n) = refl
cell_begun d (Flag n) = refl
cell_begun d Pc = refl
cell_begun d Input = refl
cell_begun d Output = refl
cell_begun d Halt = refl
cell_begun d (Hole n) = refl

module _ (c : Context) (k : IsContext c) where
  pub record Printed (d : ℕ) (t : Tree) : Type 0 where
    pub placed : List Placed
    pub tokens : tokens_in placed ≡ tree_tokens c t
    pub spells : Spells c d t placed
    pub written : IsWritten (tree_tokens c t)
    pub within : (most : ℕ) → d + depth t ≤ suc most → Within most placed

  one_printed : (d : ℕ) (t : Tree) (u : Token) → tree_tokens c t ≡ u ∷ [] → depth t ≡ 1 → IsToken u → ((s : Sign) → MayFollow u (Mark s)) → Spells c d t (starts d u ∷ []) → Printed d t
  one_printed d t u e n h f s = record {
    placed = starts d u ∷ [];
    tokens = sym e;
    spells = s;
    written = subst IsWritten (sym e) (one_written u h f);
    within = λ most le. (stand most d (omega (arith, le, n)), tt);
  }

  cell_printed : (d : ℕ) (x : Cell) → IsSpelledCell x → Printed d (ReadTree x)
  cell_printed d x h = record {
    placed = begun d (cell_tokens x);
    tokens = cell_begun d x;
    spells = cell d x h;
    written = cell_written x h;
    within = λ most le. cell_within most d x (omega (arith, le));
  }

  closed_tokens : (ps : List Placed) (ts : List Token) (s : Sign) → tokens_in ps ≡ ts → tokens_in (ps ++ mark s ∷ []) ≡ ts ++ Mark s ∷ []
  closed_tokens ps ts s e = tokens_append ps (mark s ∷ []) ∙ ap (λ l. l ++ Mark s ∷ []) e

  memory_written : (w : Width) (ts : List Token) → IsWritten ts → IsWritten (Word (memory_word w) ∷ Mark sign.LeftBracket ∷ (ts ++ Mark sign.RightBracket ∷ []))
  memory_written w ts h s rest r =
      let inside : Written (Mark sign.LeftBracket ∷ (ts ++ Mark sign.RightBracket ∷ Mark s ∷ rest)) =
      opened (Mark sign.LeftBracket) ts sign.RightBracket (Mark s ∷ rest) tt (λ u. tt) h (tt, tt, r) in
      let whole : Written (Word (memory_word w) ∷ Mark sign.LeftBracket ∷ (ts ++ Mark sign.RightBracket ∷ Mark s ∷ rest)) = (memory_token w, tt, inside) in
      subst (λ l. Written (Word (memory_word w) ∷ Mark sign.LeftBracket ∷ l)) (sym (append_assoc ts (Mark sign.RightBracket ∷ []) (Mark s ∷ rest))) whole

  memory_printed : (d : ℕ) (w : Width) (a : Tree) → Printed (suc d) a → Printed d (Load w a)
  memory_printed d w a p = record {
    placed = memory_tokens d w p.placed;
    tokens = ap (λ l. Word (memory_word w) ∷ Mark sign.LeftBracket ∷ l) (closed_tokens p.placed (tree_tokens c a) sign.RightBracket p.tokens);
    spells = memory d w a p.placed p.spells;
    written = memory_written w (tree_tokens c a) p.written;
    within = λ most le. (stand most d (omega (arith, le)), (refl, within_append most p.placed (mark sign.RightBracket ∷ []) (p.within most (omega (arith, le))) (refl, tt)));
  }

  unary_written : (o : UnOp) (ts : List Token) → StandsBefore o → IsWritten ts → IsWritten (Mark sign.LeftParen ∷ Word (unary_word o) ∷ Mark sign.Space ∷ (ts ++ Mark sign.RightParen ∷ []))
  unary_written o ts b h s rest r =
      let inside : Written (Mark sign.Space ∷ (ts ++ Mark sign.RightParen ∷ Mark s ∷ rest)) =
      opened (Mark sign.Space) ts sign.RightParen (Mark s ∷ rest) tt (λ u. tt) h (tt, tt, r) in
      let whole : Written (Mark sign.LeftParen ∷ Word (unary_word o) ∷ Mark sign.Space ∷ (ts ++ Mark sign.RightParen ∷ Mark s ∷ rest)) = (tt, tt, (unary_token o b, tt, inside)) in
      subst (λ l. Written (Mark sign.LeftParen ∷ Word (unary_word o) ∷ Mark sign.Space ∷ l)) (sym (append_assoc ts (Mark sign.RightParen ∷ []) (Mark s ∷ rest))) whole

  unary_printed : (d : ℕ) (o : UnOp) (a : Tree) → tree_tokens c (Unary o a) ≡ Mark sign.LeftParen ∷ Word (unary_word o) ∷ Mark sign.Space ∷ (tree_tokens c a ++ Mark sign.RightParen ∷ [])
      → StandsBefore o → Printed (suc d) a → Printed d (Unary o a)
  unary_printed d o a e b p = record {
    placed = starts d (Mark sign.LeftParen) ∷ inner (Word (unary_word o)) ∷ mark sign.Space ∷ (p.placed ++ mark sign.RightParen ∷ []);
    tokens = ap (λ l. Mark sign.LeftParen ∷ Word (unary_word o) ∷ Mark sign.Space ∷ l) (closed_tokens p.placed (tree_tokens c a) sign.RightParen p.tokens) ∙ sym e;
    spells = unary d o a p.placed b p.spells;
    written = subst IsWritten (sym e) (unary_written o (tree_tokens c a) b p.written);
    within = λ most le. (stand most d (omega (arith, le)), (refl, (refl, within_append most p.placed (mark sign.RightParen ∷ []) (p.within most (omega (arith, le))) (refl, tt))));
  }

  binary_written : (o : BinOp) (ts us : List Token) → IsWritten ts → IsWritten us
      → IsWritten (Mark sign.LeftParen ∷ (ts ++ Mark sign.Space ∷ operator_token o ∷ Mark sign.Space ∷ (us ++ Mark sign.RightParen ∷ [])))
  binary_written o ts us h i s rest r =
      let right : Written (Mark sign.Space ∷ (us ++ Mark sign.RightParen ∷ Mark s ∷ rest)) =
      opened (Mark sign.Space) us sign.RightParen (Mark s ∷ rest) tt (λ u. tt) i (tt, tt, r) in
      let whole : Written (Mark sign.LeftParen ∷ (ts ++ Mark sign.Space ∷ operator_token o ∷ Mark sign.Space ∷ (us ++ Mark sign.RightParen ∷ Mark s ∷ rest))) =
      opened (Mark sign.LeftParen) ts sign.Space (operator_token o ∷ Mark sign.Space ∷ (us ++ Mark sign.RightParen ∷ Mark s ∷ rest)) tt (λ u. tt) h (operator_written o _ right) in
      subst (λ l. Written (Mark sign.LeftParen ∷ l))
      (sym (append_assoc ts (Mark sign.Space ∷ operator_token o ∷ Mark sign.Space ∷ (us ++ Mark sign.RightParen ∷ [])) (Mark s ∷ rest)
      ∙ ap (λ l. ts ++ Mark sign.Space ∷ operator_token o ∷ Mark sign.Space ∷ l) (append_assoc us (Mark sign.RightParen ∷ []) (Mark s ∷ rest)))) whole

  binary_printed : (d : ℕ) (o : BinOp) (a b : Tree) → Printed (suc d) a → Printed (suc d) b → Printed d (Binary o a b)
  binary_printed d o a b p q = record {
    placed = starts d (Mark sign.LeftParen) ∷ (p.placed ++ mark sign.Space ∷ inner (operator_token o) ∷ mark sign.Space ∷ (q.placed ++ mark sign.RightParen ∷ []));
    tokens = ap (λ l. Mark sign.LeftParen ∷ l)
        (tokens_append p.placed (mark sign.Space ∷ inner (operator_token o) ∷ mark sign.Space ∷ (q.placed ++ mark sign.RightParen ∷ []))
        ∙ (λ i. p.tokens i ++ Mark sign.Space ∷ operator_token o ∷ Mark sign.Space ∷ closed_tokens q.placed (tree_tokens c b) sign.RightParen q.tokens i));
    spells = binary d o a b p.placed q.placed p.spells q.spells;
    written = binary_written o (tree_tokens c a) (tree_tokens c b) p.written q.written;
    within = λ most le. (
      stand most d (omega (arith, le)),
      within_append most p.placed (mark sign.Space ∷ inner (operator_token o) ∷ mark sign.Space ∷ (q.placed ++ mark sign.RightParen ∷ [])) (p.within most (omega (arith, le)))
          (refl, (refl, (refl, within_append most q.placed (mark sign.RightParen ∷ []) (q.within most (omega (arith, le))) (refl, tt)))),
    );
  }

  test_printed : (d : ℕ) (r : Rel) (a : Tree) → is_flag a ≡ true → IsPrintableTree c a → Printed d (Unary (Test r) a)
  test_printed d r (ReadTree (Flag n)) e h = record {
    placed = starts d (Mark sign.LeftParen) ∷ (begun (suc d) (cell_tokens (Flag n)) ++ mark sign.Space ∷ inner (Word (relation_word r)) ∷ mark sign.RightParen ∷ []);
    tokens = refl;
    spells = test d r n h;
    written = λ s rest w. (
      tt,
      tt,
      index_written (codes "f") n (word_token 102 [] refl refl) (omega (arith, h)) sign.Space (Word (relation_word r) ∷ Mark sign.RightParen ∷ Mark s ∷ rest)
          (tt, tt, (relation_token r, tt, (tt, tt, w))),
    );
    within = λ most le. (stand most d (omega (arith, le)), (stand most (suc d) (omega (arith, le)), (refl, (refl, (refl, (refl, (refl, (refl, tt))))))));
  }
  test_printed d r _ e h = absurd cc

  pub prints : (d : ℕ) (t : Tree) → IsPrintableTree c t → IsTypedTree t → IsPlain t → Printed d t
  prints d (NumberTree n) h i p =
      one_printed d (NumberTree n) (Number (signed_decimal (word_signed c.width n))) refl refl (word_number c.width n k.size h) (λ s. tt) (number d n h)
  prints d (Symbol n) h i p =
      one_printed d (Symbol n) (name_token (get_or c.objects n [])) refl refl (name_is_token c.objects n k.objects h) (λ s. tt) (symbol d n (get_or c.objects n []) (slice_get-get_or c.objects n [] h))
  prints d (CodeLabel (Function n)) h i p =
      one_printed d (CodeLabel (Function n)) (name_token (get_or c.functions n [])) refl refl (name_is_token c.functions n k.functions h) (λ s. tt) (function d n (get_or c.functions n []) (slice_get-get_or c.functions n [] h))
  prints d (CodeLabel (Block n)) h i p =
      one_printed d (CodeLabel (Block n)) (Word (76 ∷ decimal n)) refl refl (block_is_token n (omega (arith, i))) (λ s. tt) (block d n i)
  prints d (ReadTree x) h i p = cell_printed d x (spelled_cell x h i)
  prints d (Load w a) h i p = memory_printed d w a (prints (suc d) a h i p)
  prints d (Unary (Test r) a) h i p = test_printed d r a p h
  prints d (Unary Neg a) h i p = unary_printed d Neg a refl tt (prints (suc d) a h i p)
  prints d (Unary Not a) h i p = unary_printed d Not a refl tt (prints (suc d) a h i p)
  prints d (Unary Sxb a) h i p = unary_printed d Sxb a refl tt (prints (suc d) a h i p)
  prints d (Binary o a b) h i p = binary_printed d o a b (prints (suc d) a h.0 i.0 p.0) (prints (suc d) b h.1 i.1 p.1)
  prints d NoPair h i p = absurd p
  prints d (AnyNumber n) h i p = absurd h
  prints d (AnyName n) h i p = absurd h

-- ---- well-formed trees are plain

plain_from : (t : Tree) → free_of Compared t ≡ true → flags_tested t ≡ true → IsPlain t
plain_from (NumberTree n) h i = tt
plain_from (Symbol n) h i = tt
plain_from (CodeLabel l) h i = tt
plain_from (ReadTree x) h i = tt
plain_from (Load w a) h i = plain_from a h i
plain_from (Unary (Test r) a) h i = i
plain_from (Unary Neg a) h i = plain_from a h i
plain_from (Unary Not a) h i = plain_from a h i
plain_from (Unary Sxb a) h i = plain_from a h i
plain_from (Binary o a b) h i =
    let p = and_parts (not (is_construct Compared (Binary o a b))) (free_of Compared a && free_of Compared b) h in
    let q = and_parts (free_of Compared a) (free_of Compared b) p.1 in
    let r = and_parts (flags_tested a) (flags_tested b) i in
    (plain_from a q.0 r.0, plain_from b q.1 r.1)
plain_from NoPair h i = absurd cc
plain_from (AnyNumber n) h i = tt
plain_from (AnyName n) h i = tt

-- what a flag becomes
compared_plain : (t : Tree) → (is_construct Compared t && free_below Compared t) ≡ true → flags_tested t ≡ true → IsPlain t ⊎ (t ≡ NoPair)
compared_plain NoPair h i = inr refl
compared_plain (Binary o a b) h i =
    let p = and_parts (is_construct Compared (Binary o a b)) (free_of Compared a && free_of Compared b) h in
    let q = and_parts (free_of Compared a) (free_of Compared b) p.1 in
    let r = and_parts (flags_tested a) (flags_tested b) i in
    inl (plain_from a q.0 r.0, plain_from b q.1 r.1)
compared_plain _ h i = absurd cc

value_plain : (g : Goal) (t : Tree) → compares_for_flag g t ≡ true → tests_flags g t ≡ true → IsPlain t ⊎ (t ≡ NoPair)
value_plain (ToCell (Flag n)) t h i = compared_plain t h i
value_plain (ToMemory w a) t h i =
    inl (plain_from t (and_parts (free_of Compared a) (free_of Compared t) h).1 (and_parts (flags_tested a) (flags_tested t) i).1)
value_plain (ToCell _) t h i = inl (plain_from t h i)

address_plain : (w : Width) (a t : Tree) → compares_for_flag (ToMemory w a) t ≡ true → tests_flags (ToMemory w a) t ≡ true → IsPlain a
address_plain w a t h i = plain_from a (and_parts (free_of Compared a) (free_of Compared t) h).0 (and_parts (flags_tested a) (flags_tested t) i).0

module _ (c : Context) (k : IsContext c) where
  -- ---- assignments

  record PrintedPlace (g : Goal) : Type 0 where
    pub placed : List Placed
    pub tokens : tokens_in placed ≡ goal_tokens c g
    pub spells : SpellsPlace c (Some g) placed
    pub written : IsWritten (goal_tokens c g)
    pub within : Within 32 placed

  memory_place : (w : Width) (a : Tree) → Printed c k 2 a → suc (depth a) ≤ 32 → PrintedPlace (ToMemory w a)
  memory_place w a p le = record {
    placed = memory_tokens 1 w p.placed;
    tokens = ap (λ l. Word (memory_word w) ∷ Mark sign.LeftBracket ∷ l) (closed_tokens c k p.placed (tree_tokens c a) sign.RightBracket p.tokens);
    spells = to_memory w a p.placed p.spells;
    written = memory_written c k w (tree_tokens c a) p.written;
    within = (refl, (refl, within_append 32 p.placed (mark sign.RightBracket ∷ []) (p.within 32 (omega (arith, le))) (refl, tt)));
  }

  place_printed : (g : Goal) (t : Tree) → IsPrintableGoal c g → IsTypedGoal g → compares_for_flag g t ≡ true → tests_flags g t ≡ true → is_shallow g t ≡ true → PrintedPlace g
  place_printed (ToCell x) t h i f q s = record {
    placed = begun 1 (cell_tokens x);
    tokens = cell_begun 1 x;
    spells = to_cell x (spelled_cell x h i);
    written = cell_written x (spelled_cell x h i);
    within = cell_within 32 1 x (omega arith);
  }
  place_printed (ToMemory w a) t h i f q s =
      memory_place w a (prints c k 2 a h i (address_plain w a t f q)) (leb-true (suc (depth a)) 32 (and_parts (nat_le (suc (depth a)) 32) (nat_le (depth t) 32) s).0)

  record PrintedValue (t : Tree) : Type 0 where
    pub placed : List Placed
    pub tokens : tokens_in placed ≡ tree_tokens c t
    pub spells : (g : Option Goal) (ps : List Placed) → SpellsPlace c g ps → SpellsMove c (record { to = g; value = t }) (ps ++ becomes placed)
    pub written : IsWritten (tree_tokens c t)
    pub within : Within 32 placed

  value_depth : (g : Goal) (t : Tree) → is_shallow g t ≡ true → depth t ≤ 32
  value_depth (ToCell x) t s = leb-true (depth t) 32 s
  value_depth (ToMemory w a) t s = leb-true (depth t) 32 (and_parts (nat_le (suc (depth a)) 32) (nat_le (depth t) 32) s).1

  lost_value : PrintedValue NoPair
  lost_value = record {
    placed = inner (Word (codes "lost")) ∷ [];
    tokens = refl;
    spells = λ g ps h. lost g ps h;
    written = one_written (Word (codes "lost")) (word_token 108 (codes "ost") refl refl) (λ s. tt);
    within = (refl, tt);
  }

  tree_value : (t : Tree) → depth t ≤ 32 → Printed c k 1 t → PrintedValue t
  tree_value t le p = record {
    placed = p.placed;
    tokens = p.tokens;
    spells = λ g ps h. value g t ps p.placed h p.spells;
    written = p.written;
    within = p.within 32 (omega (arith, le));
  }

  value_printed : (g : Goal) (t : Tree) → IsPrintableTree c t → IsTypedTree t → compares_for_flag g t ≡ true → tests_flags g t ≡ true → is_shallow g t ≡ true → PrintedValue t
  value_printed g t h i f q s = elim (value_plain g t f q) as (λ _. PrintedValue t) [
    | inl p ↦ tree_value t (value_depth g t s) (prints c k 1 t h i p)
    | inr e ↦ subst PrintedValue (sym e) lost_value
  ]

  abbrev said : Move → Said
  said m = record { to = Some m.to; value = m.value }

  record PrintedMove (m : Move) : Type 0 where
    pub placed : List Placed
    pub tokens : tokens_in placed ≡ move_tokens c m
    pub spells : SpellsMove c (said m) placed
    pub written : IsWritten (move_tokens c m)
    pub within : Within 32 placed

  becomes_written : (ts us : List Token) → IsWritten ts → IsWritten us → IsWritten (ts ++ Mark sign.Space ∷ Mark sign.Equals ∷ Mark sign.Space ∷ us)
  becomes_written ts us h i s rest w =
      let value : Written (Mark sign.Space ∷ (us ++ Mark s ∷ rest)) = opened (Mark sign.Space) us s rest tt (λ u. tt) i w in
      subst Written (sym (append_assoc ts (Mark sign.Space ∷ Mark sign.Equals ∷ Mark sign.Space ∷ us) (Mark s ∷ rest)))
      (h sign.Space (Mark sign.Equals ∷ Mark sign.Space ∷ (us ++ Mark s ∷ rest)) (tt, tt, (tt, tt, value)))

  move_printed : (m : Move) → IsPrintableGoal c m.to × IsPrintableTree c m.value → IsTypedGoal m.to × IsTypedTree m.value → IsPlaced m → PrintedMove m
  move_printed m h i p =
      let place : PrintedPlace m.to = place_printed m.to m.value h.0 i.0 p.flags p.tests p.shallow in
      let value : PrintedValue m.value = value_printed m.to m.value h.1 i.1 p.flags p.tests p.shallow in
      record {
        placed = place.placed ++ becomes value.placed;
        tokens = tokens_append place.placed (becomes value.placed) ∙ (λ i. place.tokens i ++ Mark sign.Space ∷ Mark sign.Equals ∷ Mark sign.Space ∷ value.tokens i);
        spells = value.spells (Some m.to) place.placed place.spells;
        written = becomes_written (goal_tokens c m.to) (tree_tokens c m.value) place.written value.written;
        within = within_append 32 place.placed (becomes value.placed) place.within (refl, (refl, (refl, value.within)));
      }

  record PrintedTransfer (m : Move) (ms : List Move) : Type 0 where
    pub placed : List Placed
    pub tokens : tokens_in placed ≡ tokens_of c (m ∷ ms)
    pub spells : SpellsTransfer c (said_of (m ∷ ms)) placed
    pub written : Written (tokens_of c (m ∷ ms))
    pub within : Within 32 placed

  abbrev MayPrint : Move → Type 0
  MayPrint m = (IsPrintableGoal c m.to × IsPrintableTree c m.value) × (IsTypedGoal m.to × IsTypedTree m.value) × IsPlaced m

  transfer_printed : (m : Move) (ms : List Move) → All MayPrint (m ∷ ms) → PrintedTransfer m ms
  transfer_printed m [] h =
      let first : MayPrint m = All-head MayPrint m [] h in
      let p : PrintedMove m = move_printed m first.0 first.1 first.2 in
      record {
        placed = p.placed ++ mark sign.End ∷ [];
        tokens = tokens_append p.placed (mark sign.End ∷ []) ∙ ap (λ l. l ++ Mark sign.End ∷ []) p.tokens;
        spells = last (said m) p.placed p.spells;
        written = p.written sign.End [] refl;
        within = within_append 32 p.placed (mark sign.End ∷ []) p.within (refl, tt);
      }
  transfer_printed m (n ∷ ms) h =
      let first : MayPrint m = All-head MayPrint m (n ∷ ms) h in
      let p : PrintedMove m = move_printed m first.0 first.1 first.2 in
      let q : PrintedTransfer n ms = transfer_printed n ms (All-tail MayPrint m (n ∷ ms) h) in
      record {
        placed = p.placed ++ mark sign.Semicolon ∷ mark sign.Space ∷ q.placed;
        tokens = tokens_append p.placed (mark sign.Semicolon ∷ mark sign.Space ∷ q.placed) ∙ (λ i. p.tokens i ++ Mark sign.Semicolon ∷ Mark sign.Space ∷ q.tokens i);
        spells = more (said m) (said_of (n ∷ ms)) p.placed q.placed p.spells q.spells;
        written = p.written sign.Semicolon (Mark sign.Space ∷ tokens_of c (n ∷ ms))
            (tt, tt, cons_written (Mark sign.Space) (tokens_of c (n ∷ ms)) tt (λ u. tt) q.written);
        within = within_append 32 p.placed (mark sign.Semicolon ∷ mark sign.Space ∷ q.placed) p.within (refl, (refl, q.within));
      }

  all_may : (ms : List Move) → IsPrintable c ms → IsTyped ms → All IsPlaced ms → All MayPrint ms
  all_may ms h i p = λ j d l. (h j d l, i j d l, p j d l)

  pub printed_says : (ms : List Move) → IsPrintable c ms → IsTyped ms → IsWellFormed ms → TextSays c (text_of c ms) ms
  printed_says [] h i w = absurd (omega (arith, w.nonempty))
  printed_says (m ∷ ms) h i w =
      let p : PrintedTransfer m ms = transfer_printed m ms (all_may (m ∷ ms) h i w.placed) in
      record {
        spells = record {
          tokens = tokens_of c (m ∷ ms);
          lexes = written_lexed (tokens_of c (m ∷ ms)) p.written;
          spelled_by = record { placed = p.placed; tokens = p.tokens; spells = p.spells; within = within_from 32 p.placed p.within };
        };
        well_formed = w;
      }
