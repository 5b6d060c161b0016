-- The sorts of operators between two operands, as the code has them.
use Rattle.c_meaning.specs.Operators as meaning
use Rattle.naive_expr.specs.declared.operators.Sort.{Sort}
use Rattle.naive_expr.specs.declared.operators.Sort.TheVariants.{Computes, Compares, Logical}

abbrev pub sort_in : Sort → meaning.Sort
sort_in (Computes o) = meaning.computes o
sort_in (Compares r u) = meaning.compares r u
sort_in (Logical and) = meaning.logical and
