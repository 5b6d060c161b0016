-- What a shape leaves open, as the code has it.
use Rattle.md_shapes.specs.Shapes.{Open}
use Rattle.temp_shapes.specs.declared.figures.Operands.{Operands}

abbrev pub open_of : Operands → Open
open_of p = record { a = p.a; b = p.b; number = p.number; symbol = p.symbol; label = p.label }
