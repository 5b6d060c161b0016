-- Which tokens say what.
use Rattle.std.proofs.Common.{◌≡◌, ℕ, ◌^◌, ◌≤◌, ◌<◌, Bool, true, false, eqb, List, [], ◌∷◌, Option, Some, None, refl, sym, ap, subst, ◌∙◌, arith}
use Rattle.std.specs.Prelude.{slice_get, decimal, codes, cond}
use Rattle.std.specs.Fmt.{signed_decimal}
use Rattle.std.specs.List.{AllByRecursion}
use Rattle.std.specs.Option.{option_map}
use Rattle.std.specs.Str.{bytes_eq}
use Rattle.std.proofs.lemmas.Bool.{eqb-true, false≢true}
use Rattle.rtl_word.specs.Words.{word_signed}
use Rattle.rtl_tree.specs.declared.cells.Cell.{Cell}
use Rattle.rtl_tree.specs.declared.cells.Lab.TheVariants.{Block, Function}
use Rattle.rtl_spelling.specs.declared.signs.Sign.{Sign}
use Rattle.rtl_spelling.specs.declared.signs.Sign.TheVariants as sign
use Rattle.rtl_spelling.specs.declared.senses.Bank.{Bank}
use Rattle.rtl_spelling.specs.declared.senses.Bank.TheVariants.{Register, Temporary, Flag}
use Rattle.rtl_spelling.specs.declared.senses.Sense.{Sense}
use Rattle.rtl_spelling.specs.declared.senses.Sense.TheVariants as sense
use Rattle.rtl_spelling.specs.Tokens.{Token, Word, Number, Mark}
use Rattle.rtl_spelling.specs.Spelling.{Context, IsContext, name_token, memory_word, unary_word, StandsBefore, operator_token, cell_tokens, IsSpelledCell}
use Rattle.rtl_spelling.specs.Senses.{keywords, sense_among, sense_of, number_sense, name_sense, function_sense, block_sense, cell_at, bank_size, bank_cell, place_among, word_spelled, number_below}
use Rattle.rtl_spelling.specs.Reading.{same_sign, is_sign}
use Rattle.rtl_spelling.proofs.Numbers.{word_spelled_is, number_below_is, place_among_is, equal_bytes}

abbrev pub bank_word : Bank → List ℕ
bank_word Register = codes "r"
bank_word Temporary = codes "t"
bank_word Flag = codes "f"

-- what the token is where it says this
abbrev pub Says : Context → Token → Sense → Type 0
Says c t (sense.Number n) = (n < 2 ^ c.width) × (t ≡ Number (signed_decimal (word_signed c.width n)))
Says c t (sense.Object k) = (name : List ℕ) × (slice_get c.objects k ≡ Some name) × (t ≡ name_token name)
Says c t (sense.Label (Function k)) = (name : List ℕ) × (slice_get c.functions k ≡ Some name) × (t ≡ name_token name)
Says c t (sense.Label (Block k)) = (k < 2 ^ 32) × (t ≡ Word (76 ∷ decimal k))
Says c t (sense.Cell x) = IsSpelledCell x × (t ∷ [] ≡ cell_tokens x)
Says c t (sense.Bank b) = t ≡ Word (bank_word b)
Says c t (sense.Memory w) = t ≡ Word (memory_word w)
Says c t (sense.Unary o) = StandsBefore o × (t ≡ Word (unary_word o))
Says c t (sense.Binary o) = t ≡ operator_token o
Says c t sense.Lost = t ≡ Word (codes "lost")
Says c t (sense.Sign s) = t ≡ Mark s
Says c t sense.Strange = Unit {0}

module _ (c : Context) (k : IsContext c) where
  number_says : (bs : List ℕ) (o : Option ℕ) → word_spelled c.width bs ≡ o → Says c (Number bs) (number_sense o)
  number_says bs None e = tt
  number_says bs (Some n) e = let r = word_spelled_is c.width k.size n bs e in (r.0, ap Number r.1)

  mark_says : (s : Sign) → Says c (Mark s) (sense_of c (Mark s))
  mark_says sign.Space = refl
  mark_says sign.LeftBracket = refl
  mark_says sign.RightBracket = refl
  mark_says sign.LeftParen = refl
  mark_says sign.RightParen = refl
  mark_says sign.Semicolon = refl
  mark_says sign.Equals = refl
  mark_says sign.Plus = refl
  mark_says sign.Minus = refl
  mark_says sign.Star = refl
  mark_says sign.Ampersand = refl
  mark_says sign.Bar = refl
  mark_says sign.Caret = refl
  mark_says sign.Question = refl
  mark_says sign.Less = refl
  mark_says sign.Greater = refl
  mark_says sign.Arrow = refl
  mark_says sign.End = refl

  keywords_say : AllByRecursion (λ w. Says c (Word w.0) w.1) keywords
  keywords_say = (
    refl,
    (
      refl,
      (
        refl,
        (
          (tt, refl),
          (
            (tt, refl),
            (
              (tt, refl),
              (
                (tt, refl),
                (
                  refl,
                  (
                    refl,
                    (
                      (tt, refl),
                      (
                        (tt, refl),
                        (
                          (tt, refl),
                          (refl, (refl, (refl, (refl, (refl, (refl, (refl, (refl, (refl, (refl, (refl, (refl, (refl, (refl, (refl, (refl, (refl, (refl, tt)))))))))))))))))),
                        ),
                      ),
                    ),
                  ),
                ),
              ),
            ),
          ),
        ),
      ),
    ),
  )

  among_on : (t : Bool) (w : List ℕ × Sense) (ks : List (List ℕ × Sense)) (bs : List ℕ) → bytes_eq w.0 bs ≡ t → Says c (Word w.0) w.1 → Says c (Word bs) (sense_among ks bs)
      → Says c (Word bs) (cond t w.1 (sense_among ks bs))
  among_on true w ks bs e h i = subst (λ bs. Says c (Word bs) w.1) (equal_bytes w.0 bs e) h
  among_on false w ks bs e h i = i

  among_says : (ks : List (List ℕ × Sense)) (bs : List ℕ) → AllByRecursion (λ w. Says c (Word w.0) w.1) ks → Says c (Word bs) (sense_among ks bs)
  among_says [] bs h = tt
  among_says (w ∷ ks) bs h = among_on (bytes_eq w.0 bs) w ks bs refl h.0 (among_says ks bs h.1)

  block_says : (b : ℕ) (bs : List ℕ) (o : Option ℕ) → b ≡ 76 → number_below (2 ^ 32) bs ≡ o → Says c (Word (b ∷ bs)) (block_sense o)
  block_says b bs None eb e = tt
  block_says b bs (Some n) eb e =
      let r = number_below_is (2 ^ 32) n bs (omega arith) e in (r.below, ap Word (ap (λ b. b ∷ bs) eb ∙ ap (λ bs. 76 ∷ bs) r.bytes))

  named : (b : ℕ) (bs : List ℕ) → b ≡ 95 → Word (b ∷ bs) ≡ name_token bs
  named b bs e = ap (λ b. Word (b ∷ bs)) e

  function_says : (b : ℕ) (bs : List ℕ) (o : Option ℕ) → b ≡ 95 → place_among c.functions bs ≡ o → Says c (Word (b ∷ bs)) (function_sense o)
  function_says b bs None eb e = tt
  function_says b bs (Some n) eb e = (bs, place_among_is c.functions bs n e, named b bs eb)

  name_says : (b : ℕ) (bs : List ℕ) (o : Option ℕ) → b ≡ 95 → place_among c.objects bs ≡ o → Says c (Word (b ∷ bs)) (name_sense o (place_among c.functions bs))
  name_says b bs None eb e = function_says b bs (place_among c.functions bs) eb refl
  name_says b bs (Some n) eb e = (bs, place_among_is c.objects bs n e, named b bs eb)

  rest_says : (b : ℕ) (bs : List ℕ) (t : Bool) → eqb b 76 ≡ t → Says c (Word (b ∷ bs)) (cond t (block_sense (number_below (2 ^ 32) bs)) (sense_among keywords (b ∷ bs)))
  rest_says b bs true e = block_says b bs (number_below (2 ^ 32) bs) (eqb-true b 76 e) refl
  rest_says b bs false e = among_says keywords (b ∷ bs) keywords_say

  word_says : (b : ℕ) (bs : List ℕ) (t : Bool) → eqb b 95 ≡ t
      → Says c (Word (b ∷ bs)) (cond t (name_sense (place_among c.objects bs) (place_among c.functions bs)) (cond (eqb b 76) (block_sense (number_below (2 ^ 32) bs)) (sense_among keywords (b ∷ bs))))
  word_says b bs true e = name_says b bs (place_among c.objects bs) (eqb-true b 95 e) refl
  word_says b bs false e = rest_says b bs (eqb b 76) refl

  pub says : (t : Token) → Says c t (sense_of c t)
  says (Word []) = tt
  says (Word (b ∷ bs)) = word_says b bs (eqb b 95) refl
  says (Number bs) = number_says bs (word_spelled c.width bs) refl
  says (Mark s) = mark_says s

-- the cell with an index is spelled by it
pub record IndexSays (b : Bank) (t : Token) (x : Cell) : Type 0 where
  pub number : ℕ
  pub below : number < bank_size b
  pub is : x ≡ bank_cell b number
  pub token : t ≡ Number (decimal number)

small_bank : (b : Bank) → bank_size b ≤ 2 ^ 64
small_bank Register = omega arith
small_bank Temporary = omega arith
small_bank Flag = omega arith

index_on_says : (b : Bank) (bs : List ℕ) (x : Cell) (o : Option ℕ) → number_below (bank_size b) bs ≡ o → option_map (bank_cell b) o ≡ Some x → IndexSays b (Number bs) x
index_on_says b bs x None eo e = absurd cc
index_on_says b bs x (Some n) eo e =
    let r = number_below_is (bank_size b) n bs (small_bank b) eo in
    record { number = n; below = r.below; is = cc; token = ap Number r.bytes }

pub index_says : (b : Bank) (t : Token) (x : Cell) → cell_at b t ≡ Some x → IndexSays b t x
index_says b (Word bs) x e = absurd cc
index_says b (Mark s) x e = absurd cc
index_says b (Number bs) x e = index_on_says b bs x (number_below (bank_size b) bs) refl e

pub same_sign_is : (s r : Sign) → same_sign s r ≡ true → s ≡ r
same_sign_is sign.Space sign.Space e = refl
same_sign_is sign.LeftBracket sign.LeftBracket e = refl
same_sign_is sign.RightBracket sign.RightBracket e = refl
same_sign_is sign.LeftParen sign.LeftParen e = refl
same_sign_is sign.RightParen sign.RightParen e = refl
same_sign_is sign.Semicolon sign.Semicolon e = refl
same_sign_is sign.Equals sign.Equals e = refl
same_sign_is sign.Plus sign.Plus e = refl
same_sign_is sign.Minus sign.Minus e = refl
same_sign_is sign.Star sign.Star e = refl
same_sign_is sign.Ampersand sign.Ampersand e = refl
same_sign_is sign.Bar sign.Bar e = refl
same_sign_is sign.Caret sign.Caret e = refl
same_sign_is sign.Question sign.Question e = refl
same_sign_is sign.Less sign.Less e = refl
same_sign_is sign.Greater sign.Greater e = refl
same_sign_is sign.Arrow sign.Arrow e = refl
same_sign_is sign.End sign.End e = refl
same_sign_is _ _ e = absurd (false≢true e)

pub is_sign_is : (s : Sign) (t : Token) → is_sign s t ≡ true → t ≡ Mark s
is_sign_is s (Word bs) e = absurd cc
is_sign_is s (Number bs) e = absurd cc
is_sign_is s (Mark r) e = ap Mark (sym (same_sign_is s r e))
