-- Where an expression of the syntax tree begins.
use Rattle.c_tree.specs.declared.token.At.{At}
use Rattle.c_tree.specs.declared.syntax.Expr.{Expr, out-Expr}
use Rattle.c_tree.specs.declared.syntax.Expr.TheOpen.{Expr-F, Comma, Assign, Conditional, Binary, Cast, Unary, Before, After, Name, Element, Call, Number, Character, Paren}

abbrev pub place_in : {A : Type 0} → Expr-F A → At
place_in (Comma at a b) = at
place_in (Assign at a o b) = at
place_in (Conditional at a b c) = at
place_in (Binary at a o b) = at
place_in (Cast at w e) = at
place_in (Unary at o e) = at
place_in (Before at o e) = at
place_in (After at e o) = at
place_in (Name at n) = at
place_in (Element at n e) = at
place_in (Call at n es) = at
place_in (Number at v d u) = at
place_in (Character at v) = at
place_in (Paren at e) = at

-- the place of an expression's first token
unfoldable pub place_of : Expr → At
place_of e = place_in (out-Expr e)
