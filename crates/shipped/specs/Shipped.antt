-- The descriptions that come with the program.
use Rattle.std.specs.Prelude.{ℕ, List, [], ◌∷◌, ◌++◌, codes}
use Rattle.shipped.specs.declared.Shipped.{Shipped}
use Rattle.shipped.specs.declared.Shipped.TheVariants.{Pdp11, Mips}
use Rattle.shipped.specs.Pdp11.{pdp11_lines}
use Rattle.shipped.specs.Mips.{mips_lines}

-- each line ends with a line feed
abbrev pub text_with : List (List ℕ) → List ℕ
text_with [] = []
text_with (line ∷ lines) = line ++ 10 ∷ text_with lines

abbrev pub lines_of : Shipped → List (List ℕ)
lines_of Pdp11 = pdp11_lines
lines_of Mips = mips_lines

abbrev pub text_of : Shipped → List ℕ
text_of s = text_with (lines_of s)

abbrev pub name_of : Shipped → List ℕ
name_of Pdp11 = codes "pdp11"
name_of Mips = codes "mips"
