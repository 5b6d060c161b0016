-- What the bytes of an image are read as.
use Rattle.std.proofs.Common.{◌≡◌, ℕ, zero, suc, ◌+◌, ◌*◌, ◌-◌, ◌/◌, ◌%◌, ◌^◌, ◌<◌, List, [], ◌∷◌, ◌++◌, length, Some, true, refl, sym, ap, ◌∙◌, subst, arith}
use Rattle.std.specs.Prelude.{slice_index, nat_le, nat_lt, All}
use Rattle.std.specs.Int.{byte_at, bytes_low_first}
use Rattle.std.specs.List.{flat_map, range_with_len}
use Rattle.std.proofs.lemmas.Bool.Decides.{nat_tests}
use Rattle.std.proofs.lemmas.List.{length-append, append_assoc}
use Rattle.std.proofs.lemmas.List.Elements.{All-nil, All-cons, All-append, All-replicate}
use Rattle.std.proofs.Math.Seq.{get_or-append_seam}
use Rattle.std.proofs.Math.Nat.{div-div-eq-div-mul, div-one, mod-one, one-le-pow, pow-suc, mul-suc}
use Rattle.std.proofs.Math.Arith.{mod-mul}
use Rattle.rtl_effect.specs.Views.{word_at}
use Rattle.c_tree.specs.declared.typed.Static.{Static}
use Rattle.temp_machine.specs.Routines.{Image, Target}
use Rattle.temp_machine.specs.Machine.{first_byte}
use Rattle.naive_run.specs.Law.{cell_bytes, element_count}
use Rattle.naive_data.specs.Layout.{value_at, element_data, filling, object_data, data_of}
use Rattle.naive_data.proofs.Lengths.{length_low}

-- ---- the digits of a number to the base 256

digit : (v i : ℕ) → byte_at i v ≡ v / 256 ^ i % 256
digit v zero = ap (λ x. x % 256) (sym (div-one v))
digit v (suc i) = refl

low_first : (v i k : ℕ) → byte_at i v + 256 * (v / 256 ^ suc i % 256 ^ k) ≡ v / 256 ^ i % 256 ^ suc k
low_first v i k =
    let n = v / 256 ^ i in
    let above : v / 256 ^ suc i ≡ n / 256 = ap (λ p. v / p) (pow-suc 256 i) ∙ sym (div-div-eq-div-mul v (256 ^ i) 256) in
    let power = one-le-pow k 256 (omega arith) in
    let split : n % (256 ^ k * 256) ≡ n / 256 % 256 ^ k * 256 + n % 256 = mod-mul n {m = 256 ^ k} {c = 256} (omega (arith, power)) (omega arith) in
    rw (digit v i, above, pow-suc 256 k, split) (omega arith)

-- ---- bytes are below 256

digit_small : (i v : ℕ) → byte_at i v < 256
digit_small zero v = omega arith
digit_small (suc i) v = omega arith

low_small : (i k v : ℕ) → All (λ b. b < 256) (bytes_low_first i k v)
low_small i zero v = All-nil (λ b. b < 256)
low_small i (suc k) v = All-cons (λ b. b < 256) (byte_at i v) (bytes_low_first (suc i) k v) (digit_small i v) (low_small (suc i) k v)

elements_small : (w : ℕ) (s : Static) (is : List ℕ) → All (λ b. b < 256) (flat_map (element_data w s) is)
elements_small w s [] = All-nil (λ b. b < 256)
elements_small w s (i ∷ is) =
    All-append (λ b. b < 256) (element_data w s i) (flat_map (element_data w s) is) (low_small 0 (cell_bytes w s.object) (value_at w s i)) (elements_small w s is)

pub data_small : (w : ℕ) (ss : List Static) → All (λ b. b < 256) (data_of w ss)
data_small w [] = All-nil (λ b. b < 256)
data_small w (s ∷ ss) =
    let cells = elements_small w s (range_with_len 0 (element_count s.object)) in
    let zeros = All-replicate (λ b. b < 256) (filling w s.object) 0 (omega arith) in
    All-append (λ b. b < 256) (object_data w s) (data_of w ss) (All-append (λ b. b < 256) _ _ cells zeros) (data_small w ss)

-- ---- the words of an image

module _ (t : Target) (u : Image) where
  byte_there : (front rest : List ℕ) (b : ℕ) → u.bytes ≡ front ++ b ∷ rest → first_byte t u (t.base + length front) ≡ Some b
  byte_there front rest b e =
      let n : length u.bytes ≡ length front + suc (length rest) = ap length e ∙ length-append front (b ∷ rest) in
      let low : nat_le t.base (t.base + length front) ≡ true = grind (arith, nat_tests) in
      let high : nat_lt (t.base + length front) (t.base + length u.bytes) ≡ true = grind (arith, nat_tests, n) in
      let back : t.base + length front - t.base ≡ length front = omega arith in
      rw (low, high) (ap Some (ap (slice_index u.bytes) back ∙ (ap (λ bs. slice_index bs (length front)) e ∙ get_or-append_seam front b rest 0)))

  -- so many bytes of a number, from one on
  low_there : (k i v : ℕ) (front rest : List ℕ) → u.bytes ≡ front ++ (bytes_low_first i k v ++ rest)
      → word_at (first_byte t u) (t.base + length front) k ≡ Some (v / 256 ^ i % 256 ^ k)
  low_there zero i v front rest e = ap Some (sym (mod-one (v / 256 ^ i)))
  low_there (suc k) i v front rest e =
      let b = byte_at i v in
      let low = bytes_low_first (suc i) k v in
      let here = byte_there front (low ++ rest) b e in
      let next : u.bytes ≡ (front ++ b ∷ []) ++ (low ++ rest) = e ∙ sym (append_assoc front (b ∷ []) (low ++ rest)) in
      let at : t.base + length (front ++ b ∷ []) ≡ t.base + length front + 1 = let n = length-append front (b ∷ []) in omega (arith, n) in
      let above : word_at (first_byte t u) (t.base + length front + 1) k ≡ Some (v / 256 ^ suc i % 256 ^ k) =
      subst (λ a. word_at (first_byte t u) a k ≡ Some (v / 256 ^ suc i % 256 ^ k)) at (low_there k (suc i) v (front ++ b ∷ []) rest next) in
      rw (here, above) (ap Some (low_first v i k))

  -- element j behind element i, at an address
  pub element_there : (w : ℕ) (s : Static) (n i j a x : ℕ) (front rest : List ℕ) → j < n → a ≡ t.base + length front + cell_bytes w s.object * j → x ≡ i + j
      → u.bytes ≡ front ++ (flat_map (element_data w s) (range_with_len i n) ++ rest)
      → word_at (first_byte t u) a (cell_bytes w s.object) ≡ Some (value_at w s x % 256 ^ cell_bytes w s.object)
  element_there w s zero i j a x front rest lt at is e = absurd (omega (arith, lt))
  element_there w s (suc n) i zero a x front rest lt at is e =
      let size = cell_bytes w s.object in
      let behind = flat_map (element_data w s) (range_with_len (i + 1) n) in
      let cut : u.bytes ≡ front ++ (element_data w s i ++ (behind ++ rest)) = e ∙ ap (λ bs. front ++ bs) (append_assoc (element_data w s i) behind rest) in
      let there = low_there size 0 (value_at w s i) front (behind ++ rest) cut in
      let same_place : a ≡ t.base + length front = omega (arith, at) in
      let same : x ≡ i = omega (arith, is) in
      ap (λ b. word_at (first_byte t u) b size) same_place ∙ (there ∙ (ap (λ v. Some (v % 256 ^ size)) (div-one (value_at w s i)) ∙ ap (λ y. Some (value_at w s y % 256 ^ size)) (sym same)))
  element_there w s (suc n) i (suc j) a x front rest lt at is e =
      let size = cell_bytes w s.object in
      let first = element_data w s i in
      let behind = flat_map (element_data w s) (range_with_len (i + 1) n) in
      let cut : u.bytes ≡ (front ++ first) ++ (behind ++ rest) =
      e ∙ (ap (λ bs. front ++ bs) (append_assoc first behind rest) ∙ sym (append_assoc front first (behind ++ rest))) in
      let ahead = length-append front first in
      let one = length_low 0 size (value_at w s i) in
      let more = mul-suc size j in
      element_there w s n (i + 1) j a x (front ++ first) rest (omega (arith, lt)) (omega (arith, at, ahead, one, more)) (omega (arith, is)) cut
