-- What the tokens of a spelling say.
use Rattle.std.proofs.Common.{◌≡◌, ℕ, ◌^◌, ◌≤◌, ◌<◌, true, List, ◌∷◌, Some, refl, ap, ◌∙◌, arith}
use Rattle.std.specs.Prelude.{slice_get, decimal}
use Rattle.std.specs.Fmt.{signed_decimal}
use Rattle.std.specs.Option.{option_map}
use Rattle.rtl_word.specs.Words.{word_signed}
use Rattle.rtl_word.specs.declared.Rel.TheVariants.{Eq, Ne, Lt, Le, Gt, Ge, Ltu, Leu, Gtu, Geu}
use Rattle.rtl_tree.specs.declared.cells.Lab.TheVariants.{Block, Function}
use Rattle.rtl_tree.specs.declared.expressions.Width.{Width}
use Rattle.rtl_tree.specs.declared.expressions.Width.TheVariants.{Byte, Full}
use Rattle.rtl_tree.specs.declared.expressions.UnOp.{UnOp}
use Rattle.rtl_tree.specs.declared.expressions.UnOp.TheVariants.{Neg, Not, Sxb, Test}
use Rattle.rtl_tree.specs.declared.expressions.BinOp.{BinOp}
use Rattle.rtl_tree.specs.declared.expressions.BinOp.TheVariants.{Add, Sub, Mul, Div, Divu, Rem, Remu, And, Or, Xor, Shl, Shr, Shru, Cmp, Pair, When}
use Rattle.rtl_spelling.specs.declared.signs.Sign.{Sign}
use Rattle.rtl_spelling.specs.declared.signs.Sign.TheVariants as sign
use Rattle.rtl_spelling.specs.declared.senses.Bank.{Bank}
use Rattle.rtl_spelling.specs.declared.senses.Bank.TheVariants.{Register, Temporary, Flag}
use Rattle.rtl_spelling.specs.declared.senses.Sense.TheVariants as sense
use Rattle.rtl_spelling.specs.Tokens.{Word, Number}
use Rattle.rtl_spelling.specs.Spelling.{Context, IsContext, name_token, memory_word, unary_word, StandsBefore, operator_token}
use Rattle.rtl_spelling.specs.Senses.{sense_of, number_sense, name_sense, function_sense, block_sense, cell_at, bank_size, bank_cell, place_among}
use Rattle.rtl_spelling.specs.Reading.{same_sign}
use Rattle.rtl_spelling.proofs.Numbers.{word_spelled_signed, number_below_decimal, place_among_at, place_among_none, contains_at}

pub number_told : (c : Context) (n : ℕ) → IsContext c → n < 2 ^ c.width → sense_of c (Number (signed_decimal (word_signed c.width n))) ≡ sense.Number n
number_told c n k l = ap number_sense (word_spelled_signed c.width k.size n l)

pub object_told : (c : Context) (i : ℕ) (name : List ℕ) → IsContext c → slice_get c.objects i ≡ Some name → sense_of c (name_token name) ≡ sense.Object i
object_told c i name k e = ap (λ o. name_sense o (place_among c.functions name)) (place_among_at c.objects name i k.objects.different e)

pub function_told : (c : Context) (i : ℕ) (name : List ℕ) → IsContext c → slice_get c.functions i ≡ Some name → sense_of c (name_token name) ≡ sense.Label (Function i)
function_told c i name k e =
    ap (λ o. name_sense o (place_among c.functions name)) (place_among_none c.objects name (λ h. k.apart name h (contains_at c.functions name i e)))
    ∙ ap function_sense (place_among_at c.functions name i k.functions.different e)

pub block_told : (c : Context) (n : ℕ) → n < 2 ^ 32 → sense_of c (Word (76 ∷ decimal n)) ≡ sense.Label (Block n)
block_told c n l = ap block_sense (number_below_decimal (2 ^ 32) n l (omega arith))

pub memory_told : (c : Context) (w : Width) → sense_of c (Word (memory_word w)) ≡ sense.Memory w
memory_told c Full = refl
memory_told c Byte = refl

pub unary_told : (c : Context) (o : UnOp) → StandsBefore o → sense_of c (Word (unary_word o)) ≡ sense.Unary o
unary_told c Neg h = refl
unary_told c Not h = refl
unary_told c Sxb h = refl
unary_told c (Test r) h = absurd h

pub operator_told : (c : Context) (o : BinOp) → sense_of c (operator_token o) ≡ sense.Binary o
operator_told c Add = refl
operator_told c Sub = refl
operator_told c Mul = refl
operator_told c Div = refl
operator_told c Divu = refl
operator_told c Rem = refl
operator_told c Remu = refl
operator_told c And = refl
operator_told c Or = refl
operator_told c Xor = refl
operator_told c Shl = refl
operator_told c Shr = refl
operator_told c Shru = refl
operator_told c (Cmp Eq) = refl
operator_told c (Cmp Ne) = refl
operator_told c (Cmp Lt) = refl
operator_told c (Cmp Le) = refl
operator_told c (Cmp Gt) = refl
operator_told c (Cmp Ge) = refl
operator_told c (Cmp Ltu) = refl
operator_told c (Cmp Leu) = refl
operator_told c (Cmp Gtu) = refl
operator_told c (Cmp Geu) = refl
operator_told c Pair = refl
operator_told c When = refl

small_bank : (b : Bank) → bank_size b ≤ 2 ^ 64
small_bank Register = omega arith
small_bank Temporary = omega arith
small_bank Flag = omega arith

pub index_told : (b : Bank) (n : ℕ) → n < bank_size b → cell_at b (Number (decimal n)) ≡ Some (bank_cell b n)
index_told b n l = ap (option_map (bank_cell b)) (number_below_decimal (bank_size b) n l (small_bank b))

pub same_sign_itself : (s : Sign) → same_sign s s ≡ true
same_sign_itself sign.Space = refl
same_sign_itself sign.LeftBracket = refl
same_sign_itself sign.RightBracket = refl
same_sign_itself sign.LeftParen = refl
same_sign_itself sign.RightParen = refl
same_sign_itself sign.Semicolon = refl
same_sign_itself sign.Equals = refl
same_sign_itself sign.Plus = refl
same_sign_itself sign.Minus = refl
same_sign_itself sign.Star = refl
same_sign_itself sign.Ampersand = refl
same_sign_itself sign.Bar = refl
same_sign_itself sign.Caret = refl
same_sign_itself sign.Question = refl
same_sign_itself sign.Less = refl
same_sign_itself sign.Greater = refl
same_sign_itself sign.Arrow = refl
same_sign_itself sign.End = refl
