-- The line that is written of an accepted description.
use Rattle.std.specs.Prelude.{ℕ, List, [], ◌∷◌, ◌++◌, length, codes, decimal}
use Rattle.md_rows.specs.declared.description.RawDescription.{RawDescription}

abbrev pub verdict_line_of : RawDescription → List ℕ
verdict_line_of d =
    codes "accepted " ++ (d.name ++ (codes " word " ++ (decimal d.word ++ (codes " rows " ++ (decimal (length d.rows) ++ 10 ∷ [])))))
