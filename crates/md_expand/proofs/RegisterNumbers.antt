-- Registers whose numbers are in range fit in 64 bits.
use Rattle.std.proofs.Common.{◌≡◌, ℕ, ◌<◌, ℤ, pos, negsuc, false, not, List, [], ◌∷◌, ◌++◌, refl, sym, ◌∙◌, arith, append_assoc}
use Rattle.std.proofs.lemmas.Bool.Decides.{nat_tests}
use Rattle.md_text.specs.Forms.{Form, RegisterLine}
use Rattle.md_text.specs.Declarations.{Declaration, number_of}
use Rattle.md_text.specs.Heading.{is_from_to, is_out_of_range}
use Rattle.md_text.specs.Accepted.{HasBroken}
use Rattle.md_expand.specs.Bits.{FitsIn64, FitIn64}
use Rattle.md_expand.proofs.Unbroken.{unbroken}

below_64 : (z : ℤ) → not (is_from_to 0 63 z) ≡ false → number_of z < 64
below_64 (pos n) e = grind (arith, nat_tests)
below_64 (negsuc n) e = absurd (cc)

fits_in_64 : (w : ℕ) (before : List Declaration) (form : Form) → is_out_of_range w before form ≡ false → FitsIn64 form
fits_in_64 w before (RegisterLine k name role) e = below_64 k e
fits_in_64 w before _ e = tt

pub fit_in_64 : (w : ℕ) (ds : List Declaration) → ((line : ℕ) → HasBroken (is_out_of_range w) ds line → ⊥) → FitIn64 ds
fit_in_64 w ds never = behind [] ds refl
  where
    behind : (before after : List Declaration) → ds ≡ before ++ after → FitIn64 after
    behind before [] split = tt
    behind before (d ∷ after) split = (
      fits_in_64 w before d.form (unbroken (is_out_of_range w) ds never before after d split),
      behind (before ++ d ∷ []) after (split ∙ sym (append_assoc before (d ∷ []) after)),
    )
