-- Only row lines give rows.
use Rattle.std.proofs.Common.{◌≡◌, ℕ, List, [], refl}
use Rattle.md_text.specs.Forms.{OpenTransfer}
use Rattle.md_text.specs.Declarations.{Declaration}
use Rattle.md_text.specs.Expansion.{expansions_of}
use Rattle.md_forms.specs.Seen.{form_of}
use Rattle.md_forms.specs.declared.pieces.Piece.{Piece}
use Rattle.md_forms.specs.declared.declarations.Form.{Form}
use Rattle.md_forms.specs.declared.declarations.Form.TheVariants.{Version, MachineName, WordBits, MemorySize, DataBegin, StackSize, RegisterLine, FlagLine, ClassLine, ModeLine, RowLine}

pub gives_none :
    (w : ℕ) (ds : List Declaration) (line : ℕ) (f : Form) → ((text : List Piece) (transfer : OpenTransfer) → f ≡ RowLine text transfer → ⊥)
    → expansions_of w ds line (form_of f) ≡ []
gives_none w ds line Version n = refl
gives_none w ds line (MachineName name) n = refl
gives_none w ds line (WordBits z) n = refl
gives_none w ds line (MemorySize z) n = refl
gives_none w ds line (DataBegin z) n = refl
gives_none w ds line (StackSize z) n = refl
gives_none w ds line (RegisterLine k name role) n = refl
gives_none w ds line (FlagLine k name) n = refl
gives_none w ds line (ClassLine name registers) n = refl
gives_none w ds line (ModeLine name text tree) n = refl
gives_none w ds line (RowLine text transfer) n = absurd (n text transfer refl)
