-- How many holes a row has whose own holes are filled.
use Rattle.std.proofs.Common.{◌≡◌, ℕ, ◌+◌, List, [], ◌∷◌, length, refl, ap, ◌∙◌, length-append}
use Rattle.std.proofs.lemmas.List.Elements.{filter_map-append}
use Rattle.md_text.specs.Pieces.{Piece, Literal, Hole, slots}
use Rattle.md_text.specs.Declarations.{Declaration}
use Rattle.md_text.specs.Expansion as text
use Rattle.md_expand.specs.Fillings.{filling_seen, all_seen, hole_total}
use Rattle.md_expand.specs.declared.modes.Filling.{Filling}

pub holes_replaced :
    (w : ℕ) (ds : List Declaration) (ps : List Piece) (fs : List Filling) → length fs ≡ length (slots ps)
    → length (text.holes_in (text.replaced ps (all_seen w ds fs))) ≡ hole_total w ds fs
holes_replaced w ds [] [] e = refl
holes_replaced w ds [] (f ∷ fs) e = absurd (cc)
holes_replaced w ds (Literal t ∷ ps) fs e = holes_replaced w ds ps fs e
holes_replaced w ds (Hole h ∷ ps) [] e = absurd (cc)
holes_replaced w ds (Hole h ∷ ps) (f ∷ fs) e =
    let rest : length fs ≡ length (slots ps) = cc in
    ap length (filter_map-append text.hole_of (filling_seen w ds f).text (text.replaced ps (all_seen w ds fs)))
    ∙ length-append (text.holes_in (filling_seen w ds f).text) (text.holes_in (text.replaced ps (all_seen w ds fs)))
    ∙ ap (λ n. length (text.holes_in (filling_seen w ds f).text) + n) (holes_replaced w ds ps fs rest)
