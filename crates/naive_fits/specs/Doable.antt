-- Operations that a description's rows can do: their numbers fit the shapes, and the description covers their operators.
use Rattle.std.specs.Prelude.{◌<◌, ◌^◌, List, All}
use Rattle.md_rows.specs.declared.description.RawDescription.{RawDescription}
use Rattle.md_shapes.specs.declared.patterns.Pattern.{Pattern}
use Rattle.md_shapes.specs.declared.patterns.Pattern.TheVariants as shape
use Rattle.md_shapes.specs.Shapes.{Open}
use Rattle.md_covers.specs.Numbers.{runs_of, IsNumberOf}
use Rattle.naive_code.specs.Operations as code
use Rattle.naive_builder.specs.Covered.{IsUsable}

abbrev pub IsMakeable : RawDescription → Pattern → Open → Type 0
IsMakeable d shape.SetNumber p = p.number < 2 ^ d.word
IsMakeable d shape.SetSymbol p = p.symbol < 2 ^ 16
IsMakeable d shape.LoadHome p = IsNumberOf (runs_of d.word shape.LoadHome) p.number
IsMakeable d shape.StoreHome p = IsNumberOf (runs_of d.word shape.LoadHome) p.number
IsMakeable d (shape.Operate o) p = IsUsable d o
IsMakeable d _ p = Unit {0}

abbrev pub IsCallable : code.Stop → Type 0
IsCallable (code.Calls f) = f < 2 ^ 16
IsCallable _ = Unit {0}

abbrev pub IsDoable : RawDescription → code.Op → Type 0
IsDoable d (code.Make pattern at) = IsMakeable d pattern at
IsDoable d (code.Close stop l) = IsCallable stop
IsDoable d _ = Unit {0}

abbrev pub AreDoable : RawDescription → List code.Op → Type 0
AreDoable d os = All (IsDoable d) os
