-- How many bytes objects take.
use Rattle.std.proofs.Common.{◌≡◌, ℕ, zero, suc, ◌+◌, ◌*◌, ◌/◌, ◌%◌, ◌≤◌, List, [], ◌∷◌, length, replicate, Option, Some, None, refl, ap, subst, arith}
use Rattle.std.specs.Int.{bytes_low_first}
use Rattle.std.specs.List.{flat_map, range_with_len}
use Rattle.std.proofs.lemmas.List.{length-append, length-replicate}
use Rattle.std.proofs.Math.Nat.{mul-mod_left, mul-suc}
use Rattle.rtl_word.specs.Words.{IsWordSize}
use Rattle.rtl_word.proofs.Below.{by_size}
use Rattle.c_tree.specs.declared.types.CType.{CType}
use Rattle.c_tree.specs.declared.typed.Object.{Object}
use Rattle.c_tree.specs.declared.typed.Static.{Static}
use Rattle.c_limits.specs.Frames.{word_bytes, element_bytes, rounded, bytes_by, object_bytes}
use Rattle.naive_run.specs.Law.{cell_bytes_by, cell_bytes, count_by, element_count}
use Rattle.naive_data.specs.Layout.{value_at, element_data, filling, object_data, data_of, size_of, addresses}

pub eighth : (w : ℕ) → IsWordSize w → word_bytes w ≡ w / 8
eighth w size = by_size (λ w. word_bytes w ≡ w / 8) refl refl w size

rounded_up : (w n : ℕ) → IsWordSize w → n ≤ rounded w n
rounded_up w n size = by_size (λ w. n ≤ rounded w n) (omega arith) (omega arith) w size

cells_fit : (w : ℕ) (t : CType) (l : Option ℕ) → IsWordSize w → cell_bytes_by w t l * count_by l ≤ bytes_by w t l
cells_fit w t None size = let e = eighth w size in omega (arith, e)
cells_fit w t (Some n) size =
    let h = rounded_up w (n * element_bytes w t) size in
    let e : element_bytes w t * n ≡ n * element_bytes w t = grind arith in
    omega (arith, h, e)

pub used : (w : ℕ) (o : Object) → IsWordSize w → cell_bytes w o * element_count o ≤ object_bytes w o
used w o size = cells_fit w o.element o.length size

words_by : (w : ℕ) (t : CType) (l : Option ℕ) → IsWordSize w → bytes_by w t l % word_bytes w ≡ 0
words_by w t None size = by_size (λ w. word_bytes w % word_bytes w ≡ 0) refl refl w size
words_by w t (Some n) size = mul-mod_left _ (word_bytes w)

pub words : (w : ℕ) (o : Object) → IsWordSize w → object_bytes w o % (w / 8) ≡ 0
words w o size = subst (λ b. object_bytes w o % b ≡ 0) (eighth w size) (words_by w o.element o.length size)

-- ---- lengths

pub length_low : (i k v : ℕ) → length (bytes_low_first i k v) ≡ k
length_low i zero v = refl
length_low i (suc k) v = ap suc (length_low (suc i) k v)

length_elements : (w : ℕ) (s : Static) (i n : ℕ) → length (flat_map (element_data w s) (range_with_len i n)) ≡ cell_bytes w s.object * n
length_elements w s i zero = omega arith
length_elements w s i (suc n) =
    let size = cell_bytes w s.object in
    let rest = flat_map (element_data w s) (range_with_len (i + 1) n) in
    let both = length-append (element_data w s i) rest in
    let first = length_low 0 size (value_at w s i) in
    let behind = length_elements w s (i + 1) n in
    let more = mul-suc size n in
    omega (arith, both, first, behind, more)

pub length_object : (w : ℕ) (s : Static) → IsWordSize w → length (object_data w s) ≡ object_bytes w s.object
length_object w s size =
    let cells = flat_map (element_data w s) (range_with_len 0 (element_count s.object)) in
    let zeros : List ℕ = replicate (filling w s.object) 0 in
    let both = length-append cells zeros in
    let first = length_elements w s 0 (element_count s.object) in
    let behind : length zeros ≡ filling w s.object = length-replicate (filling w s.object) 0 in
    let fits = used w s.object size in
    omega (arith, both, first, behind, fits)

pub length_data : (w : ℕ) (ss : List Static) → IsWordSize w → length (data_of w ss) ≡ size_of w ss
length_data w [] size = refl
length_data w (s ∷ ss) size =
    let both = length-append (object_data w s) (data_of w ss) in
    let first = length_object w s size in
    let behind = length_data w ss size in
    omega (arith, both, first, behind)

pub length_addresses : (w a : ℕ) (ss : List Static) → length (addresses w a ss) ≡ length ss
length_addresses w a [] = refl
length_addresses w a (s ∷ ss) = ap suc (length_addresses w (a + object_bytes w s.object) ss)
