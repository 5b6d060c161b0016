-- Declarations, one by one.
use Rattle.std.proofs.Common.{◌≡◌, ℕ, suc, ◌+◌, ◌<◌, List, [], ◌∷◌, ◌++◌, map, take, drop, length, get_or, sym, ap, ◌∙◌, subst, arith, drop-cons}
use Rattle.std.specs.declared.option.Option.{Option}
use Rattle.std.specs.List.{filter_map}
use Rattle.std.proofs.lemmas.List.{map_more}
use Rattle.std.proofs.lemmas.List.Elements.{filter_map-append}
use Rattle.md_forms.specs.declared.declarations.Declaration.{Declaration}
use Rattle.md_forms.specs.Seen.{declarations_of}
use Rattle.md_reader.specs.Ranges.{AreInRange}

-- what one item more gives
pub one_more :
    {X Y Z : Type 0} (seen : X → Y) (given : Y → Option Z) (xs : List X) (i : ℕ) (x : X) → i < length xs → x ≡ get_or xs i x
    → filter_map given (map seen (take (i + 1) xs)) ≡ filter_map given (map seen (take i xs)) ++ filter_map given (seen x ∷ [])
one_more seen given xs i x within at =
    ap (filter_map given) (map_more seen xs i x within)
    ∙ filter_map-append given (map seen (take i xs)) (seen (get_or xs i x) ∷ [])
    ∙ ap (λ y. filter_map given (map seen (take i xs)) ++ filter_map given (seen y ∷ [])) (sym at)

from_here : {A : Type 0} (xs : List A) (i : ℕ) (x : A) → i < length xs → x ≡ get_or xs i x → drop i xs ≡ x ∷ drop (i + 1) xs
from_here xs i x within at =
    let next : suc i ≡ i + 1 = omega arith in
    drop-cons xs i x within ∙ ap (λ y. y ∷ drop (suc i) xs) (sym at) ∙ ap (λ n. x ∷ drop n xs) next

-- the numbers behind a declaration are in range with its own
pub rest_in_range :
    (ds : List Declaration) (i : ℕ) (d : Declaration) → i < length ds → d ≡ get_or ds i d → AreInRange (declarations_of (drop i ds)) → AreInRange (declarations_of (drop (i + 1) ds))
rest_in_range ds i d within at all = (subst (λ xs. AreInRange (declarations_of xs)) (from_here ds i d within at) all).1
