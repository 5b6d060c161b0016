-- How far the bytes of the data reach.
use Rattle.std.proofs.Common.{◌≡◌, ℕ, zero, suc, ◌+◌, ◌-◌, ◌/◌, ◌%◌, ◌^◌, ◌<◌, ◌≤◌, List, [], ◌∷◌, ◌++◌, length, replicate, Result, Ok, Err, refl, ap, ◌∙◌, arith, append_assoc, length-append}
use Rattle.std.specs.Prelude.{IfOk}
use Rattle.asm_program.specs.TextLines.{Said, Nothing, Labelled, Word, Byte, Space}
use Rattle.asm_program.specs.Places.{aligned, magnitude, reach_after}
use Rattle.asm_program.specs.Programs.{low_bytes, padded, residue, bytes_after}

length_low : (k n : ℕ) → length (low_bytes k n) ≡ k
length_low zero n = refl
length_low (suc k) n = ap suc (length_low k (n / 256))

length_zeros : (k : ℕ) (x : ℕ) → length (replicate k x) ≡ k
length_zeros zero x = refl
length_zeros (suc k) x = ap suc (length_zeros k x)

pub above : (n k : ℕ) → 0 < n → k ≤ aligned n k
above n k h = omega arith

padded_length : (n : ℕ) (bytes : List ℕ) → 0 < n → length (padded n bytes) ≡ aligned n (length bytes)
padded_length n bytes h =
    let e = length-append bytes (replicate (aligned n (length bytes) - length bytes) 0) in
    let f = length_zeros (aligned n (length bytes) - length bytes) 0 in
    let g = above n (length bytes) h in
    omega (arith, e, f, g)

pub reaches : (n : ℕ) (bytes : List ℕ) (s : Said) → 0 < n → length (bytes_after n bytes s) ≡ reach_after n (length bytes) s
reaches n bytes (Labelled l) h = padded_length n bytes h
reaches n bytes (Word z) h =
    let e = length-append (padded n bytes) (low_bytes n (residue (256 ^ n) z)) in
    let f = length_low n (residue (256 ^ n) z) in
    let g = padded_length n bytes h in
    omega (arith, e, f, g)
reaches n bytes (Byte z) h = length-append bytes (residue 256 z ∷ [])
reaches n bytes (Space z) h = length-append bytes (replicate (magnitude z) 0) ∙ ap (λ (k : ℕ). length bytes + k) (length_zeros (magnitude z) 0)
reaches n bytes Nothing h = refl
reaches n bytes _ h = refl

-- a low byte, and those above it
pub low_more : (a b : List ℕ) (count n : ℕ) → b ≡ a ++ n % 256 ∷ [] → 0 < count → b ++ low_bytes (count - 1) (n / 256) ≡ a ++ low_bytes count n
low_more a b zero n e h = absurd (omega arith)
low_more a b (suc k) n e h =
    let next : suc k - 1 ≡ k = omega arith in
    ap (λ (m : ℕ). b ++ low_bytes m (n / 256)) next ∙ ap (λ (bs : List ℕ). bs ++ low_bytes k (n / 256)) e ∙ append_assoc a (n % 256 ∷ []) (low_bytes k (n / 256))

pub weaker : {V E : Type 0} (P Q : V → Type 0) → ((x : V) → P x → Q x) → (r : Result V E) → IfOk r P → IfOk r Q
weaker P Q f (Ok x) h = f x h
weaker P Q f (Err e) h = tt
