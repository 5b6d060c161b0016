-- The values of arguments.
use Rattle.std.specs.Prelude.{List, map}
use Rattle.c_tree.specs.declared.typed.TypedExpr.{TypedExpr}
use Rattle.naive_code.specs.Expressions.{Value, Site, naive}

abbrev pub values_of : Site → List TypedExpr → List Value
values_of c es = map (λ e. (naive c e).value) es
