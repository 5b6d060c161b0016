-- The end stands last in a spelling, and nowhere else.
use Rattle.std.proofs.Common.{◌≡◌, ℕ, suc, ◌+◌, List, [], ◌∷◌, ◌++◌, length, refl, sym, ap, ◌∙◌, append_assoc, arith}
use Rattle.std.specs.Prelude.{codes}
use Rattle.std.proofs.lemmas.List.{length-append}
use Rattle.rtl_tree.specs.declared.cells.Cell.{Cell}
use Rattle.rtl_tree.specs.declared.cells.Cell.TheVariants.{Hard, Temp, Flag, Pc, Input, Output, Halt, Hole}
use Rattle.rtl_tree.specs.declared.expressions.BinOp.{BinOp}
use Rattle.rtl_tree.specs.declared.expressions.BinOp.TheVariants.{Add, Sub, Mul, Div, Divu, Rem, Remu, And, Or, Xor, Shl, Shr, Shru, Cmp, Pair, When}
use Rattle.rtl_tree.specs.Trees.{Tree}
use Rattle.std.specs.Prelude.{Option}
use Rattle.rtl_tree.specs.Moves.{Goal}
use Rattle.rtl_spelling.specs.declared.signs.Sign.TheVariants as sign
use Rattle.rtl_spelling.specs.Tokens.{Token, Word, Number, Mark}
use Rattle.rtl_spelling.specs.Law.{ends}
use Rattle.rtl_spelling.specs.Spelling.{Context, Placed, inner, mark, tokens_in, begun, cell_tokens, operator_token, Spells, number, symbol, function, block, cell, memory, unary, binary, test, hole, Said, SpellsPlace, to_cell, to_memory, to_hole, SpellsMove, value, lost, SpellsTransfer, last, more, becomes}

abbrev Tokens : Type 0
Tokens = List Token

-- how many ends a token is
abbrev an_end : Token → ℕ
an_end t = ends (t ∷ [])

ends_cons : (t : Token) (ts : Tokens) → ends (t ∷ ts) ≡ an_end t + ends ts
ends_cons (Word bs) ts = omega arith
ends_cons (Number bs) ts = omega arith
ends_cons (Mark sign.End) ts = omega arith
ends_cons (Mark s) ts = omega arith

pub ends_append : (ts us : Tokens) → ends (ts ++ us) ≡ ends ts + ends us
ends_append [] us = omega arith
ends_append (t ∷ ts) us = omega (arith, ends_cons t (ts ++ us), ends_cons t ts, ends_append ts us)

abbrev count : List Placed → ℕ
count ps = ends (tokens_in ps)

count_append : (ps qs : List Placed) → count (ps ++ qs) ≡ count ps + count qs
count_append [] qs = omega arith
count_append (p ∷ ps) qs = omega (arith, ends_cons p.token (tokens_in (ps ++ qs)), ends_cons p.token (tokens_in ps), count_append ps qs)

no_cell_end : (d : ℕ) (x : Cell) → count (begun d (cell_tokens x)) ≡ 0
no_cell_end d (Hard n) = refl
no_cell_end d (Temp n) = refl
no_cell_end d (Flag n) = refl
no_cell_end d Pc = refl
no_cell_end d Input = refl
no_cell_end d Output = refl
no_cell_end d Halt = refl
no_cell_end d (Hole n) = refl

no_operator_end : (o : BinOp) → an_end (operator_token o) ≡ 0
no_operator_end Add = refl
no_operator_end Sub = refl
no_operator_end Mul = refl
no_operator_end Div = refl
no_operator_end Divu = refl
no_operator_end Rem = refl
no_operator_end Remu = refl
no_operator_end And = refl
no_operator_end Or = refl
no_operator_end Xor = refl
no_operator_end Shl = refl
no_operator_end Shr = refl
no_operator_end Shru = refl
no_operator_end (Cmp r) = refl
no_operator_end Pair = refl
no_operator_end When = refl

close_end : (ps : List Placed) (s : Placed) → count ps ≡ 0 → count (s ∷ []) ≡ 0 → count (ps ++ s ∷ []) ≡ 0
close_end ps s h k = omega (arith, count_append ps (s ∷ []), h, k)

no_end : (c : Context) (d : ℕ) (t : Tree) (ps : List Placed) → Spells c d t ps → count ps ≡ 0
no_end c _ _ _ (number d n l) = refl
no_end c _ _ _ (symbol d n name e) = refl
no_end c _ _ _ (function d n name e) = refl
no_end c _ _ _ (block d n l) = refl
no_end c _ _ _ (cell d x h) = no_cell_end d x
no_end c _ _ _ (memory d w a ps h) = close_end ps (mark sign.RightBracket) (no_end c (suc d) a ps h) refl
no_end c _ _ _ (unary d o a ps b h) = close_end ps (mark sign.RightParen) (no_end c (suc d) a ps h) refl
no_end c _ _ _ (binary d o a b ps qs h i) =
    omega (
      arith,
      count_append ps (mark sign.Space ∷ inner (operator_token o) ∷ mark sign.Space ∷ (qs ++ mark sign.RightParen ∷ [])),
      ends_cons (operator_token o) (tokens_in (mark sign.Space ∷ (qs ++ mark sign.RightParen ∷ []))),
      no_operator_end o,
      no_end c (suc d) a ps h,
      close_end qs (mark sign.RightParen) (no_end c (suc d) b qs i) refl,
    )
no_end c _ _ _ (test d q n l) = refl
no_end c _ _ _ (hole d name leaf e) = refl

no_place_end : (c : Context) (g : Option Goal) (ps : List Placed) → SpellsPlace c g ps → count ps ≡ 0
no_place_end c _ _ (to_cell x h) = no_cell_end 1 x
no_place_end c _ _ (to_memory w a ps h) = close_end ps (mark sign.RightBracket) (no_end c 2 a ps h) refl
no_place_end c _ _ (to_hole name leaf e) = refl

no_move_end : (c : Context) (m : Said) (ps : List Placed) → SpellsMove c m ps → count ps ≡ 0
no_move_end c _ _ (value g t ps qs h i) = omega (arith, count_append ps (becomes qs), no_place_end c g ps h, no_end c 1 t qs i)
no_move_end c _ _ (lost g ps h) = omega (arith, count_append ps (becomes (inner (Word (codes "lost")) ∷ [])), no_place_end c g ps h)

-- a spelling without its end
pub record Bodied (ts : Tokens) : Type 0 where
  pub body : Tokens
  pub is : ts ≡ body ++ Mark sign.End ∷ []
  pub none : ends body ≡ 0

pub tokens_append : (ps qs : List Placed) → tokens_in (ps ++ qs) ≡ tokens_in ps ++ tokens_in qs
tokens_append [] qs = refl
tokens_append (p ∷ ps) qs = ap (λ l. p.token ∷ l) (tokens_append ps qs)

pub transfer_ended : (c : Context) (ms : List Said) (ps : List Placed) → SpellsTransfer c ms ps → Bodied (tokens_in ps)
transfer_ended c _ _ (last m ps h) = record { body = tokens_in ps; is = tokens_append ps (mark sign.End ∷ []); none = no_move_end c m ps h }
transfer_ended c _ _ (more m ms ps qs h i) =
    let r = transfer_ended c ms qs i in
    record {
      body = tokens_in ps ++ Mark sign.Semicolon ∷ Mark sign.Space ∷ r.body;
      is = tokens_append ps (mark sign.Semicolon ∷ mark sign.Space ∷ qs) ∙ ap (λ l. tokens_in ps ++ Mark sign.Semicolon ∷ Mark sign.Space ∷ l) r.is
          ∙ sym (append_assoc (tokens_in ps) (Mark sign.Semicolon ∷ Mark sign.Space ∷ r.body) (Mark sign.End ∷ []));
      none = omega (arith, ends_append (tokens_in ps) (Mark sign.Semicolon ∷ Mark sign.Space ∷ r.body), no_move_end c m ps h, r.none);
    }

ends_head : (t : Token) (ts us : Tokens) → t ≡ Mark sign.End → ends (t ∷ ts) ≡ 0 → us ≡ []
ends_head t ts us e h = let n : suc (ends ts) ≡ 0 = sym (ap (λ t. ends (t ∷ ts)) e) ∙ h in absurd (omega (arith, n))

-- behind an end nothing stands
pub one_end : (body front us : Tokens) → ends front ≡ 0 → body ++ Mark sign.End ∷ us ≡ front ++ Mark sign.End ∷ [] → us ≡ []
one_end [] [] us h e = cc
one_end [] (f ∷ front) us h e = let same : f ≡ Mark sign.End = cc in ends_head f front us same h
one_end (b ∷ body) [] us h e = absurd (omega (arith, ap length e, length-append body (Mark sign.End ∷ us)))
one_end (b ∷ body) (f ∷ front) us h e = let rest : body ++ Mark sign.End ∷ us ≡ front ++ Mark sign.End ∷ [] = cc in one_end body front us (omega (arith, h, ends_cons f front)) rest
