-- One more label.
use Rattle.std.proofs.Common.{◌≡◌, ℕ, ◌==◌, arith, Bool, true, false, cond, ◌||◌, List, [], ◌∷◌, ◌++◌, Option, Some, None, refl, sym, ap, ◌∙◌}
use Rattle.std.specs.Prelude.{nat_eq}
use Rattle.std.specs.Option.{option_eq}
use Rattle.std.specs.HashSet as bag
use Rattle.std.specs.HashSet.{HashSet}
use Rattle.std.proofs.lemmas.Bool.Decides.{nat_tests}
use Rattle.c_typing.specs.Statements.{same_label, among}
use Rattle.c_scopes.specs.Values.{HoldsLabels}

turned : (m n : ℕ) → (m == n) ≡ nat_eq n m
turned m n = grind (arith, nat_tests)

is_label : (k q : Option ℕ) → same_label q k ≡ option_eq nat_eq k q
is_label (Some v) (Some x) = turned x v
is_label (Some v) None = refl
is_label None (Some x) = refl
is_label None None = refl

last : (a b : Bool) → a ≡ b → (a || false) ≡ cond b true false
last true b e = ap (λ x. cond x true false) e
last false b e = ap (λ x. cond x true false) e

before : (a b x y : Bool) → x ≡ cond b true y → (a || x) ≡ cond b true (a || y)
before true true x y e = refl
before true false x y e = refl
before false b x y e = e

among_more : (k q : Option ℕ) (labels : List (Option ℕ)) → among q (labels ++ k ∷ []) ≡ cond (option_eq nat_eq k q) true (among q labels)
among_more k q [] = last (same_label q k) (option_eq nat_eq k q) (is_label k q)
among_more k q (l ∷ ls) = before (same_label q l) (option_eq nat_eq k q) (among q (ls ++ k ∷ [])) (among q ls) (among_more k q ls)

module _ {S : Type 0} (old new : HashSet (Option ℕ) S) (labels : List (Option ℕ)) (k : Option ℕ) where
  pub holds_more : HoldsLabels labels old → ((q : Option ℕ) → bag.contains (option_eq nat_eq) new q ≡ cond (option_eq nat_eq k q) true (bag.contains (option_eq nat_eq) old q))
      → HoldsLabels (labels ++ k ∷ []) new
  holds_more held put q = put q ∙ ap (λ (x : Bool). cond (option_eq nat_eq k q) true x) (held q) ∙ sym (among_more k q labels)
