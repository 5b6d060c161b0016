-- Tests of lists.
use Rattle.std.proofs.Common.{◌≡◌, Bool, true, false, ◌||◌, List, [], ◌∷◌, map, refl, ap, ◌∙◌}
use Rattle.std.specs.List.{list_any, flat_map}
use Rattle.std.proofs.lemmas.List.Folds.{list_any-append}

pub list_any-map : {X Y : Type 0} (t : Y → Bool) (f : X → Y) (xs : List X) → list_any t (map f xs) ≡ list_any (λ x. t (f x)) xs
list_any-map t f [] = refl
list_any-map t f (x ∷ xs) = ap (λ b. t (f x) || b) (list_any-map t f xs)

pub or_false : (a : Bool) → (a || false) ≡ a
or_false true = refl
or_false false = refl

pub list_any-flat_map : {X Y : Type 0} (t : Y → Bool) (f : X → List Y) (xs : List X) → list_any t (flat_map f xs) ≡ list_any (λ x. list_any t (f x)) xs
list_any-flat_map t f [] = refl
list_any-flat_map t f (x ∷ xs) = list_any-append t (f x) (flat_map f xs) ∙ ap (λ b. list_any t (f x) || b) (list_any-flat_map t f xs)

pub list_any-same : {X : Type 0} (t u : X → Bool) (xs : List X) → ((x : X) → t x ≡ u x) → list_any t xs ≡ list_any u xs
list_any-same t u [] e = refl
list_any-same t u (x ∷ xs) e = ap (λ b. b || list_any t xs) (e x) ∙ ap (λ b. u x || b) (list_any-same t u xs e)
