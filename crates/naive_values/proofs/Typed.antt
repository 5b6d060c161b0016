-- Values as those of a type.
use Rattle.std.proofs.Common.{◌≡◌, ℕ, ◌%◌, ◌^◌, ◌<◌, refl, sym, ap, ◌∙◌, subst, arith, true, false}
use Rattle.std.specs.Prelude.{Bool}
use Rattle.std.proofs.lemmas.Nat.{pow_pos, mod_below}
use Rattle.std.proofs.Math.Nat.{mod-eq_of_lt}
use Rattle.rtl_word.specs.Words.{IsWordSize}
use Rattle.rtl_word.proofs.Below.{by_size, word_sxb-below}
use Rattle.rtl_word.proofs.Bitwise.{sxb_sxb}
use Rattle.c_tree.specs.declared.types.CType.{CType}
use Rattle.c_tree.specs.declared.types.CType.TheVariants as type
use Rattle.c_meaning.specs.Operators.{as_type}
use Rattle.naive_run.specs.Sound.{is_word, alike}

pub as_type_small : (w : ℕ) (of : CType) (x : ℕ) → IsWordSize w → as_type w of x < 2 ^ w
as_type_small w type.Schar x z = word_sxb-below w x z
as_type_small w type.Uchar x z = by_size (λ w. x % 256 < 2 ^ w) (omega arith) (omega arith) w z
as_type_small w type.Int x z = mod_below _ _ (pow_pos w)
as_type_small w type.Unsigned x z = mod_below _ _ (pow_pos w)
as_type_small w type.Void x z = mod_below _ _ (pow_pos w)

pub as_type_twice : (w : ℕ) (of : CType) (x : ℕ) → IsWordSize w → as_type w of (as_type w of x) ≡ as_type w of x
as_type_twice w type.Schar x z = sxb_sxb w x z
as_type_twice w type.Uchar x z = omega arith
as_type_twice w type.Int x z = mod-eq_of_lt (mod_below _ _ (pow_pos w))
as_type_twice w type.Unsigned x z = mod-eq_of_lt (mod_below _ _ (pow_pos w))
as_type_twice w type.Void x z = mod-eq_of_lt (mod_below _ _ (pow_pos w))

-- a word stays in a type of words
pub as_word : (w : ℕ) (of : CType) (x : ℕ) → is_word of ≡ true → x < 2 ^ w → as_type w of x ≡ x
as_word w type.Int x e h = mod-eq_of_lt h
as_word w type.Unsigned x e h = mod-eq_of_lt h
as_word w type.Schar x e h = absurd (grind (arith, e))
as_word w type.Uchar x e h = absurd (grind (arith, e))
as_word w type.Void x e h = absurd (grind (arith, e))

not_alike : {A : Type 0} → false ≡ true → A
not_alike e = absurd (grind (arith, e))

-- types that count as one hold the same values
pub as_alike : (w : ℕ) (a b : CType) (x : ℕ) → alike a b ≡ true → as_type w a x ≡ as_type w b x
as_alike w type.Schar type.Schar x e = refl
as_alike w type.Schar type.Uchar x e = not_alike e
as_alike w type.Schar type.Int x e = not_alike e
as_alike w type.Schar type.Unsigned x e = not_alike e
as_alike w type.Schar type.Void x e = not_alike e
as_alike w type.Uchar type.Schar x e = not_alike e
as_alike w type.Uchar type.Uchar x e = refl
as_alike w type.Uchar type.Int x e = not_alike e
as_alike w type.Uchar type.Unsigned x e = not_alike e
as_alike w type.Uchar type.Void x e = not_alike e
as_alike w type.Int type.Schar x e = not_alike e
as_alike w type.Int type.Uchar x e = not_alike e
as_alike w type.Int type.Int x e = refl
as_alike w type.Int type.Unsigned x e = refl
as_alike w type.Int type.Void x e = refl
as_alike w type.Unsigned type.Schar x e = not_alike e
as_alike w type.Unsigned type.Uchar x e = not_alike e
as_alike w type.Unsigned type.Int x e = refl
as_alike w type.Unsigned type.Unsigned x e = refl
as_alike w type.Unsigned type.Void x e = refl
as_alike w type.Void type.Schar x e = not_alike e
as_alike w type.Void type.Uchar x e = not_alike e
as_alike w type.Void type.Int x e = refl
as_alike w type.Void type.Unsigned x e = refl
as_alike w type.Void type.Void x e = refl
