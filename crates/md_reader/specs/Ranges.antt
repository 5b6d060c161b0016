-- Numbers of declarations that are in range.
use Rattle.std.specs.Prelude.{◌<◌, ◌^◌, List, [], ◌∷◌}
use Rattle.md_text.specs.Forms.{Form, MemorySize, DataBegin, StackSize, RegisterLine, FlagLine}
use Rattle.md_text.specs.Declarations.{Declaration, number_of}

-- sizes have 32 bits, registers have numbers below 64, and flags below 8
abbrev pub IsInRange : Form → Type 0
IsInRange (MemorySize z) = number_of z < 2 ^ 32
IsInRange (DataBegin z) = number_of z < 2 ^ 32
IsInRange (StackSize z) = number_of z < 2 ^ 32
IsInRange (RegisterLine k name role) = number_of k < 64
IsInRange (FlagLine k name) = number_of k < 8
IsInRange _ = Unit {0}

abbrev pub AreInRange : List Declaration → Type 0
AreInRange [] = Unit {0}
AreInRange (d ∷ ds) = IsInRange d.form × AreInRange ds
