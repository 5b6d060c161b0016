-- The homes of temporaries, one more.
use Rattle.std.proofs.Common.{◌≡◌, ℕ, suc, ◌+◌, ◌-◌, ◌<◌, List, ◌∷◌, ◌++◌, [], sym, ap, ◌∙◌, arith, append_assoc}
use Rattle.naive_code.specs.Functions.{numbers_from}

next_number : (a i k : ℕ) → i < k → numbers_from (a + i) (k - i) ≡ (a + i) ∷ numbers_from (a + (i + 1)) (k - (i + 1))
next_number a i k h =
    let count : k - i ≡ suc (k - (i + 1)) = omega (arith, h) in
    let next : suc (a + i) ≡ a + (i + 1) = omega arith in
    ap (λ (n : ℕ). numbers_from (a + i) n) count ∙ ap (λ (n : ℕ). (a + i) ∷ numbers_from n (k - (i + 1))) next

pub one_home : (a i k : ℕ) (old now more all : List ℕ) → i < k → more ≡ now ++ (a + i) ∷ [] → now ++ numbers_from (a + i) (k - i) ≡ old ++ all
    → more ++ numbers_from (a + (i + 1)) (k - (i + 1)) ≡ old ++ all
one_home a i k old now more all h e q =
    ap (λ (xs : List ℕ). xs ++ numbers_from (a + (i + 1)) (k - (i + 1))) e ∙ append_assoc now ((a + i) ∷ []) (numbers_from (a + (i + 1)) (k - (i + 1)))
    ∙ (ap (λ (xs : List ℕ). now ++ xs) (sym (next_number a i k h)) ∙ q)
