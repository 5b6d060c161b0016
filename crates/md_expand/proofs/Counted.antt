-- The row past the most rows.
use Rattle.std.proofs.Common.{◌≡◌, ℕ, suc, ◌<◌, List, [], ◌∷◌, take, refl, sym, ap, ◌∙◌, arith}
use Rattle.std.specs.Prelude.{zero}
use Rattle.std.specs.declared.option.Option.{Option}
use Rattle.std.specs.declared.option.Option.TheVariants.{Some, None}
use Rattle.std.specs.List.{slice_get}
use Rattle.md_text.specs.Declarations.{Declared}
use Rattle.md_text.specs.Expansion as text
use Rattle.md_text.specs.Accepted.{HasTooMany, most_rows}
use Rattle.md_rules.specs.Least.{IsLeast}
use Rattle.md_expand.specs.declared.expanded.Expanded.{Expanded}
use Rattle.md_expand.specs.Expanded.{IsExpanded, AllExpanded, line_of}

abbrev BothAt : Option text.Expanded → Option Expanded → Type 0
BothAt None None = Unit {0}
BothAt (Some row) (Some e) = IsExpanded row e
BothAt _ _ = ⊥

at : (rows : List text.Expanded) (es : List Expanded) (n : ℕ) → AllExpanded rows es → BothAt (slice_get rows n) (slice_get es n)
at [] [] n a = tt
at [] (e ∷ es) n a = absurd a
at (row ∷ rows) [] n a = absurd a
at (row ∷ rows) (e ∷ es) zero a = a.0
at (row ∷ rows) (e ∷ es) (suc n) a = at rows es n a.1

within : {A : Type 0} (m n : ℕ) (xs : List A) → n < m → slice_get (take m xs) n ≡ slice_get xs n
within zero n xs lt = absurd (omega arith)
within (suc m) n [] lt = refl
within (suc m) zero (x ∷ xs) lt = refl
within (suc m) (suc n) (x ∷ xs) lt = within m n xs (omega arith)

by_row : (d : Declared) (r : Option text.Expanded) (e : Option Expanded) → slice_get (text.expansions d.width d.all) most_rows ≡ r → BothAt r e → IsLeast (HasTooMany d) (line_of e)
by_row d None None same b = λ n h. let never : Some h.row ≡ None = sym h.next ∙ same in cc
by_row d None (Some e) same b = absurd b
by_row d (Some row) None same b = absurd b
by_row d (Some row) (Some e) same b = (
  record { row = row; next = same; at = sym b.line },
  λ m h.
      let rows : Some row ≡ Some h.row = sym same ∙ h.next in
      let row_is : row ≡ h.row = cc in
      let lines : e.line ≡ m = b.line ∙ ap (λ x. x.line) row_is ∙ h.at in
      omega (arith, lines),
)

pub least_passing :
    (d : Declared) (es : List Expanded) → AllExpanded (take 4097 (text.expansions d.width d.all)) es → IsLeast (HasTooMany d) (line_of (slice_get es most_rows))
least_passing d es a =
    let rows = text.expansions d.width d.all in
    by_row d (slice_get (take 4097 rows) most_rows) (slice_get es most_rows) (sym (within 4097 most_rows rows (omega arith))) (at (take 4097 rows) es most_rows a)
