-- What it says of each declaration that a rule isn't broken.
use Rattle.std.proofs.Common.{◌≡◌, ℕ, Bool, true, false, IsTrue, List, [], ◌∷◌, ◌++◌, refl, sym, ap, append_assoc, ◌∙◌}
use Rattle.md_text.specs.Forms.{Form}
use Rattle.md_text.specs.Declarations.{Declaration}
use Rattle.md_text.specs.Accepted.{HasBroken}

-- no declaration breaks the test of it and those before
abbrev pub Unbroken : (List Declaration → Form → Bool) → List Declaration → List Declaration → Type 0
Unbroken test before [] = Unit {0}
Unbroken test before (d ∷ ds) = (test before d.form ≡ false) × Unbroken test (before ++ d ∷ []) ds

false_of : (b : Bool) → (b ≡ true → ⊥) → b ≡ false
false_of true h = absurd (h refl)
false_of false h = refl

pub unbroken_from : (test : List Declaration → Form → Bool) (all before ds : List Declaration) → all ≡ before ++ ds
    → ((line : ℕ) → HasBroken test all line → ⊥) → Unbroken test before ds
unbroken_from test all before [] e h = tt
unbroken_from test all before (d ∷ ds) e h = (
  false_of (test before d.form) (λ b. h d.line (record { before = before; after = ds; form = d.form; split = e; breaks = b })),
  unbroken_from test all (before ++ d ∷ []) ds (e ∙ sym (append_assoc before (d ∷ []) ds)) h,
)
