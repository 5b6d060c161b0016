-- Where a source's operator is defined, the operator of its helper gives the same.
use Rattle.std.proofs.Common.{◌≡◌, ℕ, ◌*◌, ◌-◌, ◌%◌, ◌^◌, ◌<◌, ◌≤◌, Option, Some, None, Bool, true, false, ◌&&◌, if◌then◌else◌, nat_lt, cond, refl, ap, subst, ◌∙◌, arith}
use Rattle.std.proofs.Math.Nat.{mod-eq_of_lt}
use Rattle.std.proofs.Math.Pow.{pow_mono}
use Rattle.std.proofs.lemmas.Bool.Decides.{nat_tests}
use Rattle.std.specs.Prelude.{◌*ℤ◌}
use Rattle.rtl_word.specs.Words.{word_mul, word_signed}
use Rattle.c_tree.specs.declared.types.CType.{CType}
use Rattle.c_tree.specs.declared.types.CType.TheVariants as type
use Rattle.c_tree.specs.declared.syntax.Arithmetic.{Arithmetic}
use Rattle.c_tree.specs.declared.syntax.Arithmetic.TheVariants as arithmetic
use Rattle.c_meaning.specs.Operators.{Outcome, gives, undefined, or_act, is_int, shifted, in_int, in_unsigned, in_type, calculate}
use Rattle.c_helpers.specs.declared.operator.Operator.{Operator}
use Rattle.c_helpers.specs.Operators.{given_by}
use Rattle.c_lowering.specs.Lowering.{Operators, signed_helper, unsigned_helper, helper_for, if_chosen, wanted}
use Rattle.c_lowering.proofs.Lowered.{none_some}

abbrev IsUndefined : Outcome → Type 0
IsUndefined (gives v) = ⊥
IsUndefined (undefined what) = Unit {0}

differ : (what v : ℕ) → undefined what ≡ gives v → ⊥
differ what v e = subst IsUndefined e tt

abbrev number : Outcome → ℕ
number (gives v) = v
number (undefined what) = 0

same_number : (a b : ℕ) → gives a ≡ gives b → Some a ≡ Some b
same_number a b e = ap (λ r. Some (number r)) e

both_true : (a b : Bool) (r : Outcome) (v : ℕ) → (if a && b then r else undefined 0) ≡ gives v → (a ≡ true) × (b ≡ true) × (r ≡ gives v)
both_true true true r v e = (refl, refl, e)
both_true true false r v e = absurd (differ 0 v e)
both_true false b r v e = absurd (differ 0 v e)

if_gives : (b : Bool) (r : Outcome) (what v : ℕ) → (if b then r else undefined what) ≡ gives v → r ≡ gives v
if_gives true r what v e = e
if_gives false r what v e = absurd (differ what v e)

or_gives : (o : Option ℕ) (what v : ℕ) → or_act what o ≡ gives v → o ≡ Some v
or_gives None what v e = absurd (differ what v e)
or_gives (Some u) what v e = ap (λ r. Some (number r)) e

-- a helper that is picked is the one
same_operator : (j k : Operator) → Some j ≡ Some k → j ≡ k
same_operator j k e = ap (λ o. or_this j o) e
  where
    or_this : Operator → Option Operator → Operator
    or_this k None = k
    or_this k (Some j) = j

module _ (w x y v : ℕ) where
  abbrev Right : Operator → Type 0
  Right k = given_by w k x y ≡ Some v

  picks : (j k : Operator) → Some j ≡ Some k → Right j → Right k
  picks j k e r = subst Right (same_operator j k e) r

  shifted_so : shifted w x y ≡ gives v → cond (nat_lt y w) (Some (x * 2 ^ y % 2 ^ w)) None ≡ Some v
  shifted_so e = by_count (nat_lt y w) e
    where
      half : 2 ^ (w - 1) ≤ 2 ^ w
      half = pow_mono (omega arith)

      by_value : (b : Bool) → nat_lt (x * 2 ^ y) (2 ^ (w - 1)) ≡ b → (if b then gives (x * 2 ^ y) else undefined 4) ≡ gives v → Some (x * 2 ^ y % 2 ^ w) ≡ Some v
      by_value true l f =
          let small : x * 2 ^ y < 2 ^ (w - 1) = grind (arith, nat_tests, l) in
          let less : x * 2 ^ y < 2 ^ w = omega (arith, small, half) in
          ap Some (mod-eq_of_lt less ∙ ap number f)
      by_value false l f = absurd (differ 4 v f)

      by_count : (b : Bool) → (if b then (if nat_lt (x * 2 ^ y) (2 ^ (w - 1)) then gives (x * 2 ^ y) else undefined 4) else undefined 3) ≡ gives v → cond b (Some (x * 2 ^ y % 2 ^ w)) None ≡ Some v
      by_count true f = by_value (nat_lt (x * 2 ^ y) (2 ^ (w - 1))) refl f
      by_count false f = absurd (differ 3 v f)

  signed_so : (o : Arithmetic) (k : Operator) → signed_helper o ≡ Some k → in_int w o x y ≡ gives v → Right k
  signed_so arithmetic.Multiply k e f =
      picks _ k e (same_number (word_mul w x y) v (if_gives (is_int w (word_signed w x *ℤ word_signed w y)) (gives (word_mul w x y)) 1 v f))
  signed_so arithmetic.Divide k e f = picks _ k e (or_gives _ 2 v f)
  signed_so arithmetic.Remainder k e f = picks _ k e (or_gives _ 2 v f)
  signed_so arithmetic.ShiftLeft k e f = picks _ k e (shifted_so f)
  signed_so arithmetic.ShiftRight k e f = picks _ k e (or_gives _ 3 v f)
  signed_so arithmetic.Xor k e f = picks _ k e (ap (λ r. Some (number r)) f)
  signed_so arithmetic.Add k e f = absurd (none_some k e)
  signed_so arithmetic.Subtract k e f = absurd (none_some k e)
  signed_so arithmetic.And k e f = absurd (none_some k e)
  signed_so arithmetic.Or k e f = absurd (none_some k e)

  unsigned_so : (o : Arithmetic) (k : Operator) → unsigned_helper o ≡ Some k → in_unsigned w o x y ≡ gives v → Right k
  unsigned_so arithmetic.Multiply k e f = picks _ k e (ap (λ r. Some (number r)) f)
  unsigned_so arithmetic.Divide k e f = picks _ k e (or_gives _ 2 v f)
  unsigned_so arithmetic.Remainder k e f = picks _ k e (or_gives _ 2 v f)
  unsigned_so arithmetic.ShiftLeft k e f = picks _ k e (or_gives _ 3 v f)
  unsigned_so arithmetic.ShiftRight k e f = picks _ k e (or_gives _ 3 v f)
  unsigned_so arithmetic.Xor k e f = picks _ k e (ap (λ r. Some (number r)) f)
  unsigned_so arithmetic.Add k e f = absurd (none_some k e)
  unsigned_so arithmetic.Subtract k e f = absurd (none_some k e)
  unsigned_so arithmetic.And k e f = absurd (none_some k e)
  unsigned_so arithmetic.Or k e f = absurd (none_some k e)

  typed_so : (t : CType) (o : Arithmetic) (k : Operator) → helper_for t o ≡ Some k → in_type w t o x y ≡ gives v → Right k
  typed_so type.Unsigned o k e f = unsigned_so o k e f
  typed_so type.Int o k e f = signed_so o k e f
  typed_so type.Schar o k e f = signed_so o k e f
  typed_so type.Uchar o k e f = signed_so o k e f
  typed_so type.Void o k e f = signed_so o k e f

-- of a chosen operator: the set has it, and the operands are words of which it gives this
pub record Computes (p : Operators) (w : ℕ) (k : Operator) (x y v : ℕ) : Type 0 where
  pub chosen : p k ≡ true
  pub x_word : x < 2 ^ w
  pub y_word : y < 2 ^ w
  pub value : given_by w k x y ≡ Some v

picked : (p : Operators) (b : Bool) (j k : Operator) → p j ≡ b → (if b then Some j else None) ≡ Some k → (p k ≡ true) × (Some j ≡ Some k)
picked p true j k q e = (subst (λ i. p i ≡ true) (same_operator j k e) q, e)
picked p false j k q e = absurd (none_some k e)

chosen_so : (p : Operators) (n : ℕ) (o : Option Operator) (k : Operator) → if_chosen p n o ≡ Some k → (p k ≡ true) × (o ≡ Some k)
chosen_so p n None k e = absurd (none_some k e)
chosen_so p n (Some j) k e = picked p (p j) j k refl e

pub computes_so : (p : Operators) (n w : ℕ) (t : CType) (o : Arithmetic) (k : Operator) (x y v : ℕ) → wanted p n t o ≡ Some k → calculate w t o x y ≡ gives v → Computes p w k x y v
computes_so p n w t o k x y v e f =
    let b = both_true (nat_lt x (2 ^ w)) (nat_lt y (2 ^ w)) (in_type w t o x y) v f in
    let c = chosen_so p n (helper_for t o) k e in
    record { chosen = c.0; x_word = grind (arith, nat_tests, b.0); y_word = grind (arith, nat_tests, b.1); value = typed_so w x y v t o k c.1 b.2 }
