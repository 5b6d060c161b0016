-- Operations that can be made: lists of them, numbers, and the parts of an expression's code.
use Rattle.std.proofs.Common.{◌≡◌, ℕ, zero, suc, ◌+◌, ◌*◌, ◌%◌, ◌^◌, ◌≤◌, ◌<◌, inl, List, [], ◌∷◌, ◌++◌, Some, refl, ap, subst, arith, true, false}
use Rattle.std.proofs.lemmas.Bool.Decides.{nat_tests}
use Rattle.std.proofs.lemmas.Nat.{pow_pos, mod_below}
use Rattle.std.proofs.lemmas.Option.{slice_get_within, get_or_from_slice_get}
use Rattle.std.specs.Prelude.{Bool, ◌&&◌, ◌==◌, nat_le, nat_lt, slice_get, unwrap_or, All}
use Rattle.std.specs.List.{AllByRecursion, list_all}
use Rattle.rtl_word.specs.Words.{IsWordSize}
use Rattle.rtl_word.proofs.Below.{by_size, word_sxb-below}
use Rattle.rtl_tree.specs.declared.expressions.BinOp.{BinOp}
use Rattle.rtl_tree.specs.declared.expressions.BinOp.TheVariants as op
use Rattle.md_rows.specs.declared.description.RawDescription.{RawDescription}
use Rattle.md_shapes.specs.declared.patterns.Pattern.TheVariants as shape
use Rattle.md_covers.specs.Numbers.{runs_of, IsNumberOf}
use Rattle.c_tree.specs.declared.types.CType.{CType}
use Rattle.c_tree.specs.declared.types.CType.TheVariants as type
use Rattle.c_tree.specs.declared.syntax.Arithmetic.{Arithmetic}
use Rattle.c_tree.specs.declared.syntax.Arithmetic.TheVariants as arithmetic
use Rattle.c_tree.specs.declared.syntax.StepOperator.{StepOperator}
use Rattle.c_tree.specs.declared.syntax.StepOperator.TheVariants as step
use Rattle.c_limits.specs.Frames.{word_bytes}
use Rattle.c_meaning.specs.Operators.{as_type}
use Rattle.naive_code.specs.Operations.{Op, add}
use Rattle.naive_code.specs.Storage.{Base, Symbol, Frame, Storage, Temporary, Word, Elements, Missing}
use Rattle.naive_code.specs.Expressions as naive
use Rattle.naive_code.specs.Expressions.{Designated, object, element, nowhere}
use Rattle.naive_builder.specs.Covered.{IsUsable}
use Rattle.naive_fits.specs.Doable.{IsDoable}
use Rattle.naive_fits.specs.Expandable.{AreThere, optional, is_there}

-- ---- tests and lists

pub not_so : {A : Type 0} → false ≡ true → A
not_so e = absurd (grind (arith, e))

pub both_so : (a b : Bool) → (a && b) ≡ true → (a ≡ true) × (b ≡ true)
both_so true b e = (refl, e)
both_so false b e = not_so e

pub at_most : (a b : ℕ) → nat_le a b ≡ true → a ≤ b
at_most a b e = grind (arith, nat_tests, e)

pub below : (a b : ℕ) → nat_lt a b ≡ true → a < b
below a b e = grind (arith, nat_tests, e)

pub same_number : (a b : ℕ) → (a == b) ≡ true → a ≡ b
same_number a b e = grind (arith, nat_tests, e)

same_item : {A : Type 0} (x y : A) → Some x ≡ Some y → x ≡ y
same_item x y e = ap (λ o. unwrap_or o x) e

-- an item of a list that passes a test
pub passes : {A : Type 0} (p : A → Bool) (xs : List A) (i : ℕ) (x : A) → list_all p xs ≡ true → slice_get xs i ≡ Some x → p x ≡ true
passes p [] i x all is = absurd (grind (arith, is))
passes p (y ∷ ys) zero x all is = subst (λ z. p z ≡ true) (same_item y x is) (both_so _ _ all).0
passes p (y ∷ ys) (suc i) x all is = passes p ys i x (both_so _ _ all).1 is

pub holds_at : {A : Type 0} (P : A → Type 0) (xs : List A) (i : ℕ) (x : A) → All P xs → slice_get xs i ≡ Some x → P x
holds_at P xs i x all is = subst P (get_or_from_slice_get xs i x x is) (all i x (slice_get_within xs i x is))

-- ---- numbers

-- a value of a type is a word
pub as_type_word : (w : ℕ) (of : CType) (x : ℕ) → IsWordSize w → as_type w of x < 2 ^ w
as_type_word w type.Schar x z = word_sxb-below w x z
as_type_word w type.Uchar x z = by_size (λ w. x % 256 < 2 ^ w) (omega arith) (omega arith) w z
as_type_word w type.Int x z = mod_below _ _ (pow_pos w)
as_type_word w type.Unsigned x z = mod_below _ _ (pow_pos w)
as_type_word w type.Void x z = mod_below _ _ (pow_pos w)

small_word : (w n : ℕ) → IsWordSize w → n ≤ 32000 → n < 2 ^ w
small_word w n z le = by_size (λ w. n < 2 ^ w) (omega (arith, le)) (omega (arith, le)) w z

-- a multiple of a word's bytes in a frame, or a little above it
pub offset_is : (w i n : ℕ) → IsWordSize w → n ≡ word_bytes w * suc i → n ≤ 32252 → IsNumberOf (runs_of w shape.LoadHome) n
offset_is w i n z = by_size (λ w. n ≡ word_bytes w * suc i → n ≤ 32252 → IsNumberOf (runs_of w shape.LoadHome) n) narrow wide w z
  where
    narrow : n ≡ word_bytes 16 * suc i → n ≤ 32252 → IsNumberOf (runs_of 16 shape.LoadHome) n
    narrow e le = inl (record { place = i; within = omega (arith, e, le); is = omega (arith, e) })

    wide : n ≡ word_bytes 32 * suc i → n ≤ 32252 → IsNumberOf (runs_of 32 shape.LoadHome) n
    wide e le = inl (record { place = i; within = omega (arith, e, le); is = omega (arith, e) })

pub few_words : (w i : ℕ) → IsWordSize w → i ≤ 16 → IsNumberOf (runs_of w shape.LoadHome) (word_bytes w * suc i)
few_words w i z le = offset_is w i (word_bytes w * suc i) z refl (by_size (λ w. word_bytes w * suc i ≤ 32252) (omega (arith, le)) (omega (arith, le)) w z)

-- ---- storages

abbrev pub BaseFits : Base → Type 0
BaseFits (Symbol y) = y < 2 ^ 16
BaseFits (Frame offset) = offset ≤ 32000

abbrev pub StorageFits : Storage → Type 0
StorageFits (Temporary k) = Unit {0}
StorageFits (Word y) = y < 2 ^ 16
StorageFits (Elements base of) = BaseFits base
StorageFits Missing = Unit {0}

module _ (d : RawDescription) where
  abbrev pub Fit : List Op → Type 0
  Fit os = AllByRecursion (IsDoable d) os

  pub fit_append : (os ps : List Op) → Fit os → Fit ps → Fit (os ++ ps)
  fit_append [] ps g h = h
  fit_append (o ∷ os) ps g h = (g.0, fit_append os ps g.1 h)

  -- ---- operations without numbers

  scaled_fit : (of : CType) (i t : ℕ) → Fit (naive.scaled of i t)
  scaled_fit type.Schar i t = tt
  scaled_fit type.Uchar i t = tt
  scaled_fit type.Int i t = (tt, tt)
  scaled_fit type.Unsigned i t = (tt, tt)
  scaled_fit type.Void i t = (tt, tt)

  pub put_fit : (of : CType) (a v : ℕ) → Fit (naive.put_at of a v)
  put_fit type.Schar a v = (tt, tt)
  put_fit type.Uchar a v = (tt, tt)
  put_fit type.Int a v = (tt, tt)
  put_fit type.Unsigned a v = (tt, tt)
  put_fit type.Void a v = (tt, tt)

  pub put_into_fit : (s : Storage) (a v t : ℕ) → StorageFits s → Fit (naive.put_into s a v t)
  put_into_fit (Temporary k) a v t h = (tt, tt)
  put_into_fit (Word y) a v t h = (h, (tt, tt))
  put_into_fit (Elements b of) a v t h = put_fit of a v
  put_into_fit Missing a v t h = tt

  pub settled_fit : (p : Designated) (a v : ℕ) → Fit (naive.settled p a v)
  settled_fit (object s) a v = tt
  settled_fit (element s i) a v = (tt, tt)
  settled_fit nowhere a v = tt

  pub stepped_fit : (o : StepOperator) → IsUsable d (naive.step_operator o)
  stepped_fit step.Increment = tt
  stepped_fit step.Decrement = tt

  pub computed_fit : (has : BinOp → Bool) → AreThere d has → (o : Arithmetic) (of : CType) (a b : ℕ) → is_there has (optional o of) ≡ true → Fit (naive.computed o of a b)
  computed_fit has there arithmetic.Add of a b e = (tt, tt)
  computed_fit has there arithmetic.Subtract of a b e = (tt, tt)
  computed_fit has there arithmetic.Multiply of a b e = (there op.Mul e, tt)
  computed_fit has there arithmetic.Divide of a b e = (there (naive.by_type of op.Div op.Divu) e, tt)
  computed_fit has there arithmetic.Remainder of a b e = (there (naive.by_type of op.Rem op.Remu) e, tt)
  computed_fit has there arithmetic.And of a b e = (tt, tt)
  computed_fit has there arithmetic.Xor of a b e = (there op.Xor e, tt)
  computed_fit has there arithmetic.Or of a b e = (tt, tt)
  computed_fit has there arithmetic.ShiftLeft of a b e = (there op.Shl e, tt)
  computed_fit has there arithmetic.ShiftRight of a b e = (there (naive.by_type of op.Shr op.Shru) e, tt)

  -- ---- operations with numbers

  module _ (size : IsWordSize d.word) where
    pub small : (n : ℕ) → n ≤ 32000 → n < 2 ^ d.word
    small n le = small_word d.word n size le

    pub narrowed_fit : (of : CType) (v t : ℕ) → Fit (naive.narrowed of v t)
    narrowed_fit type.Schar v t = (tt, tt)
    narrowed_fit type.Uchar v t = (small 255 (omega arith), (tt, tt))
    narrowed_fit type.Int v t = tt
    narrowed_fit type.Unsigned v t = tt
    narrowed_fit type.Void v t = tt

    pub fetched_fit : (of : CType) (v a t : ℕ) → Fit (naive.fetched of v a t)
    fetched_fit type.Schar v a t = (tt, tt)
    fetched_fit type.Uchar v a t = (tt, (small 255 (omega arith), (tt, tt)))
    fetched_fit type.Int v a t = (tt, tt)
    fetched_fit type.Unsigned v a t = (tt, tt)
    fetched_fit type.Void v a t = (tt, tt)

    base_fit : (b : Base) (t : ℕ) → BaseFits b → Fit (naive.base_ops b t)
    base_fit (Symbol y) t h = (h, tt)
    base_fit (Frame offset) t h = (tt, (small offset h, (tt, tt)))

    pub addressed_fit : (b : Base) (of : CType) (i t : ℕ) → BaseFits b → Fit (naive.addressed b of i t)
    addressed_fit b of i t h =
        fit_append (naive.scaled of i (t + 2)) (naive.base_ops b t ++ add i t ∷ []) (scaled_fit of i (t + 2))
        (fit_append (naive.base_ops b t) (add i t ∷ []) (base_fit b t h) (tt, tt))

    pub got_fit : (s : Storage) (v a t : ℕ) → StorageFits s → Fit (naive.got_from s v a t)
    got_fit (Temporary k) v a t h = (tt, tt)
    got_fit (Word y) v a t h = (h, (tt, tt))
    got_fit (Elements b of) v a t h = fetched_fit of v a t
    got_fit Missing v a t h = tt
