-- What is asked of an expression of the typed tree.
use Rattle.std.specs.Prelude.{Bool, true, false}
use Rattle.c_tree.specs.declared.typed.Head.{Head}
use Rattle.c_tree.specs.declared.typed.TypedExpr.{TypedExpr, out-TypedExpr}
use Rattle.c_tree.specs.declared.typed.TypedExpr.TheOpen.{TypedExpr-F, Comma, Assign, Compound, Conditional, Binary, Unary, Before, After, Constant, Object, Element, Call, Convert}

abbrev pub head_in : {A : Type 0} → TypedExpr-F A → Head
head_in (Comma h a b) = h
head_in (Assign h a b) = h
head_in (Compound h a o b) = h
head_in (Conditional h a b c) = h
head_in (Binary h a o b) = h
head_in (Unary h o a) = h
head_in (Before h o a) = h
head_in (After h a o) = h
head_in (Constant h v) = h
head_in (Object h v) = h
head_in (Element h v a) = h
head_in (Call h f es) = h
head_in (Convert h a) = h

-- the type of an expression, and the place of its first token
unfoldable pub head_of : TypedExpr → Head
head_of e = head_in (out-TypedExpr e)

abbrev pub is_place_in : {A : Type 0} → TypedExpr-F A → Bool
is_place_in (Object h v) = true
is_place_in (Element h v a) = true
is_place_in _ = false

-- an object or an element (C11 6.3.2.1)
unfoldable pub is_place : TypedExpr → Bool
is_place e = is_place_in (out-TypedExpr e)
