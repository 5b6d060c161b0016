-- Rows of the program as those of texts.
use Rattle.std.proofs.Common.{◌≡◌, ℕ, zero, suc, ◌+◌, ◌<◌, ◌≤◌, List, [], ◌∷◌, ◌++◌, map, take, length, get_or, refl, sym, ap, ◌∙◌, subst, arith}
use Rattle.std.specs.Prelude.{unwrap_or, option_map}
use Rattle.std.specs.declared.option.Option.TheVariants.{Some}
use Rattle.std.specs.Global.{Vec}
use Rattle.md_rows.specs.declared.row.Row.{Row}
use Rattle.md_text.specs.Expansion.{Expanded as Expansion, holes_in}
use Rattle.md_text.specs.Accepted.{pieces_from, row_of}
use Rattle.md_expand.specs.declared.expanded.Expanded.{Expanded}
use Rattle.md_expand.specs.declared.moves.Filled.{Filled}
use Rattle.md_expand.specs.Seen.{all_shown}
use Rattle.md_expand.specs.Filled.{assign_of}
use Rattle.md_expand.specs.Expanded.{IsExpanded, AllExpanded}
use Rattle.md_expand.proofs.RowLimits.{same_transfer}
use Rattle.md_reader.specs.RowsMade.{row_with}

-- what is made of a row of the program is the row that the text's gives
pub row_made :
    (r : Expansion) (e : Expanded) (v : Vec Filled) → e.transfer ≡ Some v → length (holes_in (all_shown e.text.items)) ≤ 8 → IsExpanded r e
    → row_with e v.items ≡ row_of r
row_made r e v some few x =
    let transfer : Some (map assign_of v.items) ≡ r.transfer =
    ap (option_map (λ u. map assign_of u.items)) (sym some) ∙ same_transfer r e x (omega (arith, few)) in
    let moves : map assign_of v.items ≡ unwrap_or r.transfer [] = ap (λ o. unwrap_or o []) transfer in
    let text = ap (pieces_from 0) x.text in
    let holes = ap holes_in x.text in
    λ i. record { line = x.line i; text = text i; holes = holes i; effects = moves i; normal = moves i }

next_row :
    (rs : List Expansion) (es : List Expanded) (i : ℕ) (e : Expanded) (m : Row) → i < length es → e ≡ get_or es i e → AllExpanded rs es
    → ((r : Expansion) → IsExpanded r e → m ≡ row_of r) → map row_of (take (suc i) rs) ≡ map row_of (take i rs) ++ m ∷ []
next_row [] [] i e m within at a made = absurd (omega (arith, within))
next_row [] (x ∷ es) i e m within at a made = absurd a
next_row (r ∷ rs) [] i e m within at a made = absurd a
next_row (r ∷ rs) (x ∷ es) zero e m within at a made = ap (λ y. y ∷ []) (sym (made r (subst (IsExpanded r) (sym at) a.0)))
next_row (r ∷ rs) (x ∷ es) (suc i) e m within at a made =
    ap (λ ys. row_of r ∷ ys) (next_row rs es i e m (omega (arith, within)) at a.1 made)

-- rows that are made of the first of the program, and one more
pub one_row_more :
    (rs : List Expansion) (es : List Expanded) (i : ℕ) (e : Expanded) (m : Row) (before : List Row) → i < length es → e ≡ get_or es i e → AllExpanded rs es
    → ((r : Expansion) → IsExpanded r e → m ≡ row_of r) → before ≡ map row_of (take i rs) → before ++ m ∷ [] ≡ map row_of (take (i + 1) rs)
one_row_more rs es i e m before within at a made so_far =
    let next : suc i ≡ i + 1 = omega arith in
    ap (λ ms. ms ++ m ∷ []) so_far ∙ sym (next_row rs es i e m within at a made) ∙ ap (λ n. map row_of (take n rs)) next

-- a text has as many rows as stand for them
pub all_made : (rs : List Expansion) (es : List Expanded) (n : ℕ) → length es ≤ n → AllExpanded rs es → take n rs ≡ rs
all_made [] es zero long a = refl
all_made [] es (suc n) long a = refl
all_made (r ∷ rs) [] n long a = absurd a
all_made (r ∷ rs) (e ∷ es) zero long a = absurd (omega (arith, long))
all_made (r ∷ rs) (e ∷ es) (suc n) long a = ap (λ ys. r ∷ ys) (all_made rs es n (omega (arith, long)) a.1)
