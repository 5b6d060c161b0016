-- Offsets in a frame: where arrays stand, and where parameters are read from.
use Rattle.std.proofs.Common.{◌≡◌, ℕ, zero, suc, ◌+◌, ◌-◌, ◌*◌, ◌/◌, ◌^◌, ◌≤◌, ◌<◌, inl, inr, List, [], ◌∷◌, Option, Some, None, refl, subst, arith}
use Rattle.std.proofs.Math.Nat.{mul-add, mul_comm, mul-le-mul_right}
use Rattle.std.proofs.lemmas.Option.{slice_get_within}
use Rattle.std.specs.Prelude.{length, take, slice_get}
use Rattle.rtl_word.specs.Words.{IsWordSize}
use Rattle.rtl_word.proofs.Below.{by_size}
use Rattle.md_shapes.specs.declared.patterns.Pattern.TheVariants as shape
use Rattle.md_covers.specs.Numbers.{runs_of, IsNumberOf}
use Rattle.c_tree.specs.declared.types.CType.{CType}
use Rattle.c_tree.specs.declared.types.CType.TheVariants as type
use Rattle.c_tree.specs.declared.typed.Variable.{Variable}
use Rattle.c_tree.specs.declared.typed.Variable.TheVariants as variable
use Rattle.c_tree.specs.declared.typed.Object.{Object}
use Rattle.c_tree.specs.declared.typed.Static.{Static}
use Rattle.c_tree.specs.declared.typed.Function.{Function}
use Rattle.c_tree.specs.declared.typed.Typed.{Typed}
use Rattle.c_limits.specs.Frames.{word_bytes, element_bytes, rounded, array_bytes, array_in, arrays, frame_words, frame_bytes}
use Rattle.temp_machine.specs.Routines.{pushed_by}
use Rattle.naive_code.specs.Storage.{static_storage, static_in, local_storage, local_in, storage_of, arrays_from}
use Rattle.naive_fits.proofs.Parts.{offset_is, StorageFits}

-- ---- arrays

abbrev pub room_in : ℕ → Option Object → ℕ
room_in w None = 0
room_in w (Some o) = array_in w o.element o.length

array_within : (w : ℕ) (os : List Object) (x : ℕ) → arrays w (take x os) + room_in w (slice_get os x) ≤ arrays w os
array_within w [] zero = omega arith
array_within w [] (suc x) = omega arith
array_within w (o ∷ os) zero = omega arith
array_within w (o ∷ os) (suc x) = let ih = array_within w os x in omega (arith, ih)

abbrev pub array_offset : List ℕ → ℕ → Function → ℕ → ℕ
array_offset kept w f x = arrays_from kept w f + arrays w (take x f.locals)

pub array_room : (kept : List ℕ) (w : ℕ) (f : Function) (x : ℕ) → frame_bytes kept w f ≤ 32000 → array_offset kept w f x + room_in w (slice_get f.locals x) ≤ 32000
array_room kept w f x le = let h = array_within w f.locals x in omega (arith, le, h)

pub element_small : (w : ℕ) (of : CType) → IsWordSize w → element_bytes w of ≤ 32000
element_small w type.Schar z = omega arith
element_small w type.Uchar z = omega arith
element_small w type.Int z = by_size (λ w. word_bytes w ≤ 32000) (omega arith) (omega arith) w z
element_small w type.Unsigned z = by_size (λ w. word_bytes w ≤ 32000) (omega arith) (omega arith) w z
element_small w type.Void z = by_size (λ w. word_bytes w ≤ 32000) (omega arith) (omega arith) w z

rounds_up : (w n : ℕ) → IsWordSize w → n ≤ rounded w n
rounds_up w n z = by_size (λ w. n ≤ rounded w n) (omega arith) (omega arith) w z

pub element_within : (w : ℕ) (of : CType) (offset i n : ℕ) → IsWordSize w → offset + array_bytes w of n ≤ 32000 → i ≤ n → offset + i * element_bytes w of ≤ 32000
element_within w of offset i n z le few =
    let g = mul-le-mul_right (element_bytes w of) few in let h = rounds_up w (n * element_bytes w of) z in omega (arith, le, g, h)

-- ---- storages

module _ (kept : List ℕ) (w : ℕ) (t : Typed) (f : Function) (statics : length t.statics ≤ 2 ^ 16) (frame : frame_bytes kept w f ≤ 32000) where
  static_fits : (x : ℕ) (o : Option Static) → slice_get t.statics x ≡ o → StorageFits (static_in x o)
  static_fits x None is = tt
  static_fits x (Some s) is = by_length s.object.length (let lt = slice_get_within t.statics x s is in omega (arith, lt, statics))
    where
      by_length : (l : Option ℕ) → x < 2 ^ 16 → StorageFits (static_storage x s.object.element l)
      by_length None lt = lt
      by_length (Some n) lt = lt

  local_fits : (temp offset : ℕ) (o : Option Object) → offset ≤ 32000 → StorageFits (local_in temp offset o)
  local_fits temp offset None le = tt
  local_fits temp offset (Some o) le = by_length o.length
    where
      by_length : (l : Option ℕ) → StorageFits (local_storage temp offset o.element l)
      by_length None = tt
      by_length (Some n) = le

  pub storages_fit : (x : Variable) → StorageFits (storage_of kept w t f x)
  storages_fit (variable.Static x) = static_fits x (slice_get t.statics x) refl
  storages_fit (variable.Parameter x) = tt
  storages_fit (variable.Local x) = local_fits _ (array_offset kept w f x) (slice_get f.locals x) (let h = array_room kept w f x frame in omega (arith, h))

-- ---- parameters

array_words : (w : ℕ) (of : CType) (l : Option ℕ) → (k : ℕ) × (array_in w of l ≡ word_bytes w * k)
array_words w of None = (0, omega arith)
array_words w of (Some n) = ((n * element_bytes w of + (word_bytes w - 1)) / word_bytes w, mul_comm _ (word_bytes w))

arrays_words : (w : ℕ) (os : List Object) → (k : ℕ) × (arrays w os ≡ word_bytes w * k)
arrays_words w [] = (0, omega arith)
arrays_words w (o ∷ os) =
    let a = array_words w o.element o.length in let b = arrays_words w os in
    let e = a.1 in let g = b.1 in let h = mul-add (word_bytes w) a.0 b.0 in
    (a.0 + b.0, omega (arith, e, g, h))

-- a frame is whole words
pub frame_whole : (kept : List ℕ) (w : ℕ) (f : Function) → (m : ℕ) × (frame_bytes kept w f ≡ word_bytes w * suc m)
frame_whole kept w f =
    let a = arrays_words w f.locals in
    let e = a.1 in let h = mul-add (word_bytes w) (frame_words kept f) a.0 in
    let next : frame_words kept f + a.0 ≡ suc (frame_words kept f + a.0 - 1) = omega arith in
    let whole : frame_bytes kept w f ≡ word_bytes w * (frame_words kept f + a.0) = omega (arith, e, h) in
    (frame_words kept f + a.0 - 1, subst (λ k. frame_bytes kept w f ≡ word_bytes w * k) next whole)

pub parameter_offset : (w frame m i : ℕ) (link : Option ℕ) → IsWordSize w → frame ≡ word_bytes w * suc m → frame ≤ 32000 → i < 16
    → IsNumberOf (runs_of w shape.LoadHome) (frame + pushed_by link (w / 8) + word_bytes w * i)
parameter_offset w frame m i None z =
    by_size (λ w. frame ≡ word_bytes w * suc m → frame ≤ 32000 → i < 16 → IsNumberOf (runs_of w shape.LoadHome) (frame + w / 8 + word_bytes w * i))
    (λ e le few. offset_is 16 (suc (m + i)) _ (inl refl) (omega (arith, e)) (omega (arith, le, few)))
    (λ e le few. offset_is 32 (suc (m + i)) _ (inr refl) (omega (arith, e)) (omega (arith, le, few))) w z
parameter_offset w frame m i (Some r) z =
    by_size (λ w. frame ≡ word_bytes w * suc m → frame ≤ 32000 → i < 16 → IsNumberOf (runs_of w shape.LoadHome) (frame + 0 + word_bytes w * i))
    (λ e le few. offset_is 16 (m + i) _ (inl refl) (omega (arith, e)) (omega (arith, le, few)))
    (λ e le few. offset_is 32 (m + i) _ (inr refl) (omega (arith, e)) (omega (arith, le, few))) w z
