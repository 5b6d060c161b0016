-- Declarations of which a test breaks none.
use Rattle.std.proofs.Common.{◌≡◌, ℕ, Bool, true, false, List, ◌∷◌, ◌++◌, refl}
use Rattle.md_text.specs.Forms.{Form}
use Rattle.md_text.specs.Declarations.{Declaration}
use Rattle.md_text.specs.Accepted.{HasBroken}

pub unbroken :
    (test : List Declaration → Form → Bool) (ds : List Declaration) → ((line : ℕ) → HasBroken test ds line → ⊥)
    → (before after : List Declaration) (d : Declaration) → ds ≡ before ++ d ∷ after → test before d.form ≡ false
unbroken test ds never before after d split = by (test before d.form) refl
  where
    by : (b : Bool) → test before d.form ≡ b → b ≡ false
    by false e = refl
    by true e = absurd (never d.line (record { before = before; after = after; form = d.form; split = split; breaks = e }))
