-- Before main is called, the values of the objects of the file stand at their addresses.
use Rattle.std.proofs.Common.{◌≡◌, ℕ, ◌+◌, ◌*◌, ◌/◌, ◌%◌, ◌^◌, ◌<◌, List, Option, Some, None, refl, ap, ◌∙◌, subst, arith}
use Rattle.std.specs.Prelude.{slice_get, slice_index, unwrap_or}
use Rattle.std.proofs.Math.Nat.{mod-eq_of_lt}
use Rattle.rtl_word.specs.Words.{IsWordSize}
use Rattle.rtl_word.proofs.Below.{by_size}
use Rattle.rtl_effect.specs.Views.{word_at}
use Rattle.md_shapes.specs.Shapes.{Frame as Fixed}
use Rattle.c_tree.specs.declared.types.CType.{CType}
use Rattle.c_tree.specs.declared.typed.Static.{Static}
use Rattle.c_tree.specs.declared.typed.Typed.{Typed}
use Rattle.c_limits.specs.Frames.{element_bytes}
use Rattle.c_meaning.specs.Operators.{as_type}
use Rattle.c_meaning.specs.Expressions.{Kind, scalar, array, type_in}
use Rattle.c_meaning.specs.Run.{kind_of, kind_by, object_of, listed, at_start}
use Rattle.temp_machine.specs.Routines.{Image, Target}
use Rattle.temp_machine.specs.Machine.{first_byte}
use Rattle.naive_run.specs.Law.{IsUnitOf, cell_bytes, cell_bytes_by, count_by, element_count}
use Rattle.naive_rep.proofs.Rep.{Told, cut_to}
use Rattle.naive_values.proofs.Typed.{as_type_small, as_type_twice}
use Rattle.naive_function.proofs.Statics.{Statics_in}

abbrev length_in : Kind → ℕ
length_in (array of n) = n
length_in kind = 0

of_element : (of : CType) (l : Option ℕ) → type_in (kind_by of l) ≡ of
of_element of None = refl
of_element of (Some n) = refl

whole_word : (w v : ℕ) → IsWordSize w → v < 2 ^ w → v % 256 ^ (w / 8) ≡ v
whole_word w v z = by_size (λ w. v < 2 ^ w → v % 256 ^ (w / 8) ≡ v) (λ h. mod-eq_of_lt h) (λ h. mod-eq_of_lt h) w z

module _ (t : Target) (u : Image) (m : Fixed) (source : Typed) (size : IsWordSize t.word) (unit : IsUnitOf t m source u) where
  abbrev value_of : Static → ℕ → ℕ
  value_of s i = as_type t.word s.object.element (unwrap_or (slice_get s.init i) 0)

  abbrev byte_at : ℕ → Option ℕ
  byte_at = first_byte t u

  abbrev address_of : ℕ → ℕ
  address_of x = slice_index u.symbols x

  stands : (x i : ℕ) (s : Static) → slice_get source.statics x ≡ Some s → i < element_count s.object
      → word_at byte_at (address_of x + cell_bytes t.word s.object * i) (cell_bytes t.word s.object) ≡ Some (value_of s i % 256 ^ cell_bytes t.word s.object)
  stands x i s is lt = (unit.statics x s is).values i (value_of s i) lt refl

  scalar_stands : (x : ℕ) (of : CType) (o : Option Static) → slice_get source.statics x ≡ o → kind_of (object_of o) ≡ scalar of
      → Told (listed t.word o 0) (word_at byte_at (address_of x) (t.word / 8))
  scalar_stands x of None is e = tt
  scalar_stands x of (Some s) is e = by_length s.object.length refl e
    where
      by_length : (l : Option ℕ) → s.object.length ≡ l → kind_by s.object.element l ≡ scalar of → Told (listed t.word (Some s) 0) (word_at byte_at (address_of x) (t.word / 8))
      by_length (Some n) l g = absurd (grind (arith, g))
      by_length None l g =
          let cell : cell_bytes t.word s.object ≡ t.word / 8 = ap (cell_bytes_by t.word s.object.element) l in
          let count : element_count s.object ≡ 1 = ap count_by l in
          let here : address_of x ≡ address_of x + t.word / 8 * 0 = omega arith in
          let there = subst (λ n. word_at byte_at (address_of x + n * 0) n ≡ Some (value_of s 0 % 256 ^ n)) cell (stands x 0 s is (omega (arith, count))) in
          ap (λ a. word_at byte_at a (t.word / 8)) here ∙ (there ∙ ap Some (whole_word t.word (value_of s 0) size (as_type_small t.word s.object.element _ size)))

  element_stands : (x i n : ℕ) (of : CType) (o : Option Static) → slice_get source.statics x ≡ o → kind_of (object_of o) ≡ array of n → i < n
      → Told (cut_to (element_bytes t.word of) (listed t.word o i)) (word_at byte_at (address_of x + element_bytes t.word of * i) (element_bytes t.word of))
  element_stands x i n of None is e lt = tt
  element_stands x i n of (Some s) is e lt = by_length s.object.length refl e
    where
      by_length : (l : Option ℕ) → s.object.length ≡ l → kind_by s.object.element l ≡ array of n
          → Told (cut_to (element_bytes t.word of) (listed t.word (Some s) i)) (word_at byte_at (address_of x + element_bytes t.word of * i) (element_bytes t.word of))
      by_length None l g = absurd (grind (arith, g))
      by_length (Some k) l g =
          let element : s.object.element ≡ of = ap type_in g in
          let cell : cell_bytes t.word s.object ≡ element_bytes t.word of = ap (cell_bytes_by t.word s.object.element) l ∙ ap (element_bytes t.word) element in
          let count : element_count s.object ≡ n = ap count_by l ∙ ap length_in g in
          subst (λ n. word_at byte_at (address_of x + n * i) n ≡ Some (value_of s i % 256 ^ n)) cell (stands x i s is (omega (arith, count, lt)))

  typed : (i v : ℕ) (o : Option Static) → listed t.word o i ≡ Some v → as_type t.word (type_in (kind_of (object_of o))) v ≡ v
  typed i v None e = absurd (grind (arith, e))
  typed i v (Some s) e =
      let is : value_of s i ≡ v = ap (λ o. unwrap_or o v) e in
      subst (λ y. as_type t.word (type_in (kind_by s.object.element s.object.length)) y ≡ y) is
      (ap (λ of. as_type t.word of (value_of s i)) (of_element s.object.element s.object.length) ∙ as_type_twice t.word s.object.element _ size)

  pub statics_stand : (input : List ℕ) → Statics_in t u source (first_byte t u) (at_start t.word source input).statics
  statics_stand input = record {
    words = λ x of e. scalar_stands x of (slice_get source.statics x) refl e;
    elements = λ x i n of e lt. element_stands x i n of (slice_get source.statics x) refl e lt;
    typed = λ x i v e. typed i v (slice_get source.statics x) e;
  }
