-- Relations with their operands exchanged, and relations that do not hold.
use Rattle.std.proofs.Common.{◌≡◌, ℕ, true, false, not, cond, nat_eq, arith, refl, ap}
use Rattle.std.proofs.lemmas.Bool.Decides.{nat_tests}
use Rattle.std.proofs.lemmas.Int.{ints}
use Rattle.rtl_word.specs.declared.Rel.{Rel}
use Rattle.rtl_word.specs.declared.Rel.TheVariants.{Eq, Ne, Lt, Le, Gt, Ge, Ltu, Leu, Gtu, Geu}
use Rattle.rtl_word.specs.Words.{word_test, word_rel, mirrored, negated}

pub test_mirrored : (w : ℕ) (r : Rel) (a b : ℕ) → word_test w (mirrored r) b a ≡ word_test w r a b
test_mirrored w Eq a b = let h : nat_eq b a ≡ nat_eq a b = grind (arith, nat_tests) in h
test_mirrored w Ne a b = let h : nat_eq b a ≡ nat_eq a b = grind (arith, nat_tests) in ap not h
test_mirrored w Lt a b = refl
test_mirrored w Le a b = refl
test_mirrored w Gt a b = refl
test_mirrored w Ge a b = refl
test_mirrored w Ltu a b = refl
test_mirrored w Leu a b = refl
test_mirrored w Gtu a b = refl
test_mirrored w Geu a b = refl

pub rel_mirrored : (w : ℕ) (r : Rel) (a b : ℕ) → word_rel w (mirrored r) b a ≡ word_rel w r a b
rel_mirrored w r a b = ap (λ t. cond t 1 0) (test_mirrored w r a b)

pub test_negated : (w : ℕ) (r : Rel) (a b : ℕ) → word_test w (negated r) a b ≡ not (word_test w r a b)
test_negated w Eq a b = refl
test_negated w Ne a b = elim (nat_eq a b) as (λ t. t ≡ not (not t)) [ true ↦ refl | false ↦ refl ]
test_negated w Lt a b = grind (arith, nat_tests, ints)
test_negated w Le a b = grind (arith, nat_tests, ints)
test_negated w Gt a b = grind (arith, nat_tests, ints)
test_negated w Ge a b = grind (arith, nat_tests, ints)
test_negated w Ltu a b = grind (arith, nat_tests)
test_negated w Leu a b = grind (arith, nat_tests)
test_negated w Gtu a b = grind (arith, nat_tests)
test_negated w Geu a b = grind (arith, nat_tests)
