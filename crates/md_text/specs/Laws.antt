-- Laws of descriptions' texts.
use Rattle.std.specs.Prelude.{◌≡◌, ℕ, List}
use Rattle.md_rows.specs.declared.description.RawDescription.{RawDescription}
use Rattle.md_text.specs.Lines.{FallsInto}
use Rattle.md_text.specs.Pieces.{Piece, SpellsText}
use Rattle.rtl_word.specs.Words.{IsWordSize}
use Rattle.md_text.specs.Forms.{Form, HasForm}
use Rattle.md_text.specs.Declarations.{Declared, Declares}
use Rattle.md_text.specs.Numbered.{IsNumbered}
use Rattle.md_text.specs.Accepted.{Rule, Told, Says}

abbrev pub AtMostOneFall : Type 0
AtMostOneFall =
    (text : List ℕ) (lines more : List (List ℕ)) (rest other : List ℕ) → FallsInto text lines rest → FallsInto text more other
    → (lines ≡ more) × (rest ≡ other)

abbrev pub AtMostOneText : Type 0
AtMostOneText = (bytes : List ℕ) (pieces others : List Piece) → SpellsText bytes pieces → SpellsText bytes others → pieces ≡ others

abbrev pub AtMostOneTold : Type 0
AtMostOneTold = (text : List ℕ) (r s : Rule) (l m : ℕ) → Told text r l → Told text s m → (r ≡ s) × (l ≡ m)

abbrev pub AtMostOneForm : Type 0
AtMostOneForm = (w : ℕ) (line : List ℕ) (f g : Form) → IsWordSize w → HasForm w line f → HasForm w line g → f ≡ g

abbrev pub AtMostOneDeclared : Type 0
AtMostOneDeclared = (text : List ℕ) (d e : Declared) → Declares text d → Declares text e → d ≡ e

abbrev pub AtMostOneDescription : Type 0
AtMostOneDescription = (text : List ℕ) (d e : RawDescription) → Says text d → Says text e → d ≡ e

abbrev pub DeclaredIsNumbered : Type 0
DeclaredIsNumbered = (text : List ℕ) (d : Declared) → Declares text d → IsNumbered d
