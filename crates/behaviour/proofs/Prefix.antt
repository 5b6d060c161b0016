-- Prefixes of what is printed.
use Rattle.std.proofs.Common.{ℕ, List, [], ◌++◌, refl, sym, ap, ◌∙◌, append_assoc, append-nil}
use Rattle.behaviour.specs.Behaviour.{IsPrefix}

pub prefix_refl : (xs : List ℕ) → IsPrefix xs xs
prefix_refl xs = ([], sym (append-nil xs))

pub prefix_nil : (xs : List ℕ) → IsPrefix [] xs
prefix_nil xs = (xs, refl)

pub prefix_append : (xs ys : List ℕ) → IsPrefix xs (xs ++ ys)
prefix_append xs ys = (ys, refl)

pub prefix_trans : (xs ys zs : List ℕ) → IsPrefix xs ys → IsPrefix ys zs → IsPrefix xs zs
prefix_trans xs ys zs first second = (first.0 ++ second.0, second.1 ∙ ap (λ l. l ++ second.0) first.1 ∙ append_assoc xs first.0 second.0)
