-- The line of an accepted description.
use Rattle.std.proofs.Common.{◌≡◌, ℕ, List, [], ◌∷◌, ◌++◌, Some, None, ap, ◌∙◌}
use Rattle.std.specs.Prelude.{codes, decimal}
use Rattle.std.proofs.lemmas.List.{length-map}
use Rattle.vp_io.specs.Files.{Told, OfFile}
use Rattle.md_rows.specs.declared.description.RawDescription.{RawDescription}
use Rattle.md_check.specs.Accepted.{normalised, normalised_row}
use Rattle.md_verdict.specs.declared.accepted.Accepted.{Accepted}
use Rattle.md_verdict.specs.Verdict.{description_in}
use Rattle.md_verdict.specs.Line.{verdict_line_of}
use Rattle.vpo_top.specs.Commands.{IsMachineOf, IsVerdictOn}

-- normal forms change neither the name nor the number of rows
line_of_normal : (d : RawDescription) → verdict_line_of (normalised d) ≡ verdict_line_of d
line_of_normal d =
    ap (λ n. codes "accepted " ++ (d.name ++ (codes " word " ++ (decimal d.word ++ (codes " rows " ++ (decimal n ++ 10 ∷ []))))))
    (length-map d.rows (normalised_row d.word))

pub verdict_on : (told : Told) (name : List ℕ) (machine : Accepted) (line : List ℕ) → OfFile told name (λ text. IsMachineOf text machine)
    → line ≡ verdict_line_of (description_in machine) → OfFile told name (λ text. IsVerdictOn text line)
verdict_on None name machine line is written = tt
verdict_on (Some files) name machine line is written =
    (is.1.said, is.1.is_accepted, written ∙ ap verdict_line_of is.1.normal ∙ line_of_normal is.1.said)
