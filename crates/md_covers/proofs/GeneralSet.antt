-- The bits of the general registers are their sum, where the registers' numbers differ.
use Rattle.std.proofs.Common.{◌≡◌, ◌≢◌, ℕ, suc, ◌+◌, ◌<◌, nat_lt, true, List, [], ◌∷◌, map, slice_get, Some, bit_and, bit_or, max, inl, inr, refl, sym, ap, subst, arith, ◌∙◌}
use Rattle.std.specs.Prelude.{All, AllPairs, sum}
use Rattle.std.specs.Int.{bit_at}
use Rattle.std.specs.Int.Bits.{or_add_and}
use Rattle.std.proofs.lemmas.Bool.Decides.{nat_tests}
use Rattle.std.proofs.lemmas.Nat.Bits.{bit_at-zero, bit_at_or, bit_at_and, bit_at-pow_other, same_from_bits}
use Rattle.std.specs.List.{fold}
use Rattle.rtl_tree.proofs.Pairs.{AllPairs-first, AllPairs-rest}
use Rattle.md_rows.specs.declared.description.Register.{Register}
use Rattle.md_rows.specs.declared.description.Role.{Role}
use Rattle.md_rows.specs.declared.description.Role.TheVariants.{General, Result, Stack, Link, Other}
use Rattle.md_rows.specs.Instances.{role_bit, general_set}
use Rattle.md_match.proofs.Apart.{all_at}
use Rattle.md_covers.proofs.Changes.{same_or_not}
use Rattle.md_covers.specs.Covers.{general_bit, general_bits}

-- a register's bit is the bit of its number alone
bit_is : (role : Role) (n : ℕ) → n < 64 → general_bit role n ≡ role_bit role n
bit_is General n l = let t : nat_lt n 64 ≡ true = grind (arith, nat_tests, l) in rw t refl
bit_is Result n l = refl
bit_is Stack n l = refl
bit_is Link n l = refl
bit_is Other n l = refl

other_bit : (role : Role) (m n : ℕ) → n ≢ m → bit_at (role_bit role m) n ≡ 0
other_bit General m n d = bit_at-pow_other m n d
other_bit Result m n d = bit_at-zero n
other_bit Stack m n d = bit_at-zero n
other_bit Link m n d = bit_at-zero n
other_bit Other m n d = bit_at-zero n

-- a number that no register has is in none of the bits
absent : (n : ℕ) (rs : List Register) → ((j : ℕ) (r : Register) → slice_get rs j ≡ Some r → r.number < 64)
    → ((j : ℕ) (r : Register) → slice_get rs j ≡ Some r → n ≢ r.number) → bit_at (general_bits rs) n ≡ 0
absent n [] small apart = bit_at-zero n
absent n (r ∷ rs) small apart =
    let a = bit_at_or (general_bit r.role r.number) (general_bits rs) n in
    let b : bit_at (general_bit r.role r.number) n ≡ 0 =
    ap (λ x. bit_at x n) (bit_is r.role r.number (small 0 r refl)) ∙ other_bit r.role r.number n (apart 0 r refl) in
    let c = absent n rs (λ j s e. small (suc j) s e) (λ j s e. apart (suc j) s e) in
    a ∙ (ap (λ x. max x (bit_at (general_bits rs) n)) b ∙ ap (λ y. max 0 y) c)

apart_bits : (role : Role) (n g : ℕ) → bit_at g n ≡ 0 → bit_and (role_bit role n) g ≡ 0
apart_bits role n g e = same_from_bits (bit_and (role_bit role n) g) 0 (λ i. elim (same_or_not i n) [
  | inl q ↦
      (let a = bit_at_and (role_bit role n) g i in
      let b : bit_at g i ≡ 0 = subst (λ k. bit_at g k ≡ 0) (sym q) e in
      let z = bit_at-zero i in omega (arith, a, b, z))
  | inr d ↦
      (let a = bit_at_and (role_bit role n) g i in
      let b = other_bit role n i d in
      let z = bit_at-zero i in omega (arith, a, b, z))
])

sum_from : (a : ℕ) (xs : List ℕ) → fold ◌+◌ a xs ≡ a + fold ◌+◌ 0 xs
sum_from a [] = omega arith
sum_from a (x ∷ xs) = let p = sum_from (a + x) xs in let q = sum_from (0 + x) xs in omega (arith, p, q)

sum_first : (x : ℕ) (xs : List ℕ) → sum (x ∷ xs) ≡ x + sum xs
sum_first x xs = let p = sum_from (0 + x) xs in omega (arith, p)

bits_by : (rs : List Register) → ((j : ℕ) (r : Register) → slice_get rs j ≡ Some r → r.number < 64)
    → AllPairs (λ r s. r.number ≢ s.number) rs → general_bits rs ≡ general_set rs
bits_by [] small apart = refl
bits_by (r ∷ rs) small apart =
    let i = bit_is r.role r.number (small 0 r refl) in
    let g = bits_by rs (λ j s e. small (suc j) s e) (AllPairs-rest (λ r s. r.number ≢ s.number) r rs apart) in
    let first = AllPairs-first (λ r s. r.number ≢ s.number) r rs apart in
    let none = absent r.number rs (λ j s e. small (suc j) s e) (λ j s e. all_at (λ s. r.number ≢ s.number) rs first j s e) in
    let z = apart_bits r.role r.number (general_bits rs) none in
    let o = or_add_and (role_bit r.role r.number) (general_bits rs) in
    let s : general_set (r ∷ rs) ≡ role_bit r.role r.number + general_set rs = sum_first (role_bit r.role r.number) (map (λ x. role_bit x.role x.number) rs) in
    let t : bit_or (role_bit r.role r.number) (general_bits rs) ≡ general_set (r ∷ rs) = omega (arith, o, z, g, s) in
    ap (λ x. bit_or x (general_bits rs)) i ∙ t

pub bits_are_set : (rs : List Register) → All (λ r. r.number < 64) rs → AllPairs (λ r s. r.number ≢ s.number) rs → general_bits rs ≡ general_set rs
bits_are_set rs small apart = bits_by rs (λ j r e. all_at (λ r. r.number < 64) rs small j r e) apart
