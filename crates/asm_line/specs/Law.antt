-- A line is that of one instance at most.
use Rattle.std.specs.Prelude.{◌≡◌, ℕ, List, All}
use Rattle.asm_token.specs.Tokens.{Token}
use Rattle.rtl_tree.specs.Names.{AreNames}
use Rattle.rtl_tree.specs.declared.c_names.Names.{Names}
use Rattle.md_rows.specs.declared.description.RawDescription.{RawDescription}
use Rattle.md_rows.specs.declared.instance.Instance.{Instance}
use Rattle.md_check.specs.Checking.{IsChecked}
use Rattle.asm_row.specs.Line.{IsLineOf, HasNumber}
use Rattle.asm_row.specs.Readable.{IsReadable}

-- the lines of an accepted description can be read
abbrev pub CheckedIsReadable : Type 0
CheckedIsReadable = (w : ℕ) (d : RawDescription) → IsChecked w d → IsReadable d

-- in an accepted description the tokens of a line are those of one instance at most
abbrev pub AtMostOneInstance : Type 0
AtMostOneInstance =
    (w : ℕ) (d : RawDescription) (n : Names) (i j : Instance) (tokens : List Token) → IsChecked w d → AreNames n.objects → AreNames n.functions
    → All HasNumber i.binding → All HasNumber j.binding → IsLineOf d n i tokens → IsLineOf d n j tokens → i ≡ j
