-- The reading of declarations (C11 6.7), for those that the grammar has.
use Rattle.std.specs.Prelude.{ℕ, zero, suc, Bool, true, false, if◌then◌else◌, List, [], ◌∷◌, ◌++◌, Option, Some, None}
use Rattle.c_tree.specs.declared.token.At.{At}
use Rattle.c_tree.specs.declared.syntax.Expr.{Expr}
use Rattle.c_tree.specs.declared.syntax.TypeWords.{TypeWords}
use Rattle.c_tree.specs.declared.syntax.Size.{Size}
use Rattle.c_tree.specs.declared.syntax.Size.TheVariants as size_
use Rattle.c_tree.specs.declared.syntax.Initialiser.{Initialiser}
use Rattle.c_tree.specs.declared.syntax.Initialiser.TheVariants as initialiser_
use Rattle.c_tree.specs.declared.syntax.Identifier.{Identifier}
use Rattle.c_tree.specs.declared.syntax.Item.{Item}
use Rattle.c_tree.specs.declared.syntax.Return.{Return}
use Rattle.c_tree.specs.declared.syntax.Return.TheVariants as return_
use Rattle.c_tree.specs.declared.syntax.Parameter.{Parameter}
use Rattle.c_tree.specs.declared.syntax.Parameters.{Parameters}
use Rattle.c_tree.specs.declared.syntax.Parameters.TheVariants as parameters_
use Rattle.c_tree.specs.declared.syntax.Declaration.{Declaration}
use Rattle.c_tree.specs.declared.syntax.Declaration.TheVariants as declaration_
use Rattle.c_declarations.specs.declared.declarations.Opening.{Opening}
use Rattle.c_declarations.specs.declared.declarations.Opening.TheVariants as opening_
use Rattle.c_grammar.specs.declared.sign.Sign.{Sign}
use Rattle.c_grammar.specs.declared.sign.Sign.TheVariants as sign
use Rattle.c_reading.specs.Parsers.{Parser, ◌>>=◌, ◌>>◌, pure, out, peek, place, same, phrase, eat, expect, name, name_if_any, more}
use Rattle.c_reading.specs.Expressions.{Reader, assign, conditional, type_words, read}

module _ (T : ℕ → Bool) where
  -- ---- declared names

  module _ (R : Reader) where
    -- behind the opening bracket
    unfoldable pub given_size : Parser Size
    given_size = do
      s ← peek
      if same s sign.RightBracket then eat T >> pure size_.Absent else (do
        e ← phrase (R conditional)
        expect T sign.RightBracket
        pure (size_.Given e))

    unfoldable pub size : Parser Size
    size = do
      s ← peek
      if same s sign.LeftBracket then eat T >> given_size else pure size_.Scalar

  -- behind a value in braces: where it is the last one, whether a comma stands behind it
  unfoldable pub value_end : Parser (Option Bool)
  value_end = do
    goes_on ← more T sign.RightBrace
    s ← peek
    if goes_on then (if same s sign.RightBrace then eat T >> pure (Some true) else pure None) else pure (Some false)

  unfoldable pub next_value : ℕ → Parser (Expr × Option Bool)
  next_value d = do
    x ← read T d assign
    end ← value_end
    pure (x, end)

  -- the list that ends here, or what goes on
  abbrev pub listed : At → List Expr → Parser Initialiser → Option Bool → Parser Initialiser
  listed at es p None = p
  listed at es p (Some comma) = pure (initialiser_.List at es comma)

  -- the values in the braces that begin there, behind those that were read
  unfoldable pub values : ℕ → At → List Expr → Parser Initialiser
  values zero at es = out
  values (suc d) at es = do
    x ← next_value d
    listed at (es ++ x.0 ∷ []) (values d at (es ++ x.0 ∷ [])) x.1

  abbrev pub value_by : ℕ → At → Sign → Parser Initialiser
  value_by d at sign.LeftBrace = eat T >> values d at []
  value_by d at _ = do
    e ← read T d assign
    pure (initialiser_.Value e)

  -- behind the equals sign
  unfoldable pub value : ℕ → Parser Initialiser
  value d = do
    at ← place
    s ← peek
    value_by d at s

  unfoldable pub initialiser : ℕ → Parser Initialiser
  initialiser d = do
    s ← peek
    if same s sign.Assign then eat T >> value d else pure initialiser_.Absent

  -- behind the name of an object
  unfoldable pub object : ℕ → Identifier → Parser Item
  object d n = do
    z ← size (read T d)
    i ← initialiser d
    pure (record { name = n; size = z; initialiser = i })

  -- an object, and whether a comma stands behind it
  unfoldable pub next_object : ℕ → Identifier → Parser (Item × Bool)
  next_object d n = do
    i ← object d n
    goes_on ← more T sign.Semicolon
    pure (i, goes_on)

  unfoldable pub next_item : ℕ → Parser (Item × Bool)
  next_item d = do
    n ← name T
    next_object d n

  -- the objects behind those that were read, up to the semicolon
  unfoldable pub items : ℕ → List Item → Parser (List Item)
  items zero is = out
  items (suc d) is = do
    x ← next_item d
    if x.1 then items d (is ++ x.0 ∷ []) else pure (is ++ x.0 ∷ [])

  -- the objects, where the first one's name was read
  unfoldable pub objects : ℕ → Identifier → Parser (List Item)
  objects d n = do
    x ← next_object d n
    if x.1 then items d (x.0 ∷ []) else pure (x.0 ∷ [])

  -- ---- parameters

  unfoldable pub parameter : Parser Parameter
  parameter = do
    at ← place
    w ← type_words T
    n ← name_if_any T
    pure (record { at = at; words = w; name = n })

  -- a parameter, and whether a comma stands behind it
  unfoldable pub next_parameter : Parser (Parameter × Bool)
  next_parameter = do
    p ← parameter
    goes_on ← more T sign.RightParen
    pure (p, goes_on)

  -- the parameters behind those that were read, up to the closing parenthesis
  unfoldable pub parameter_list : ℕ → List Parameter → Parser Parameters
  parameter_list zero ps = out
  parameter_list (suc d) ps = do
    x ← next_parameter
    if x.1 then parameter_list d (ps ++ x.0 ∷ []) else pure (parameters_.List (ps ++ x.0 ∷ []))

  abbrev pub parameters_by : ℕ → Sign → Parser Parameters
  parameters_by d sign.RightParen = eat T >> pure parameters_.Empty
  parameters_by d sign.Void = do
    eat T
    expect T sign.RightParen
    pure parameters_.Void
  parameters_by d _ = parameter_list d []

  -- behind the opening parenthesis
  unfoldable pub parameters : ℕ → Parser Parameters
  parameters d = peek >>= parameters_by d

  -- ---- declarations

  -- behind the name of a function
  unfoldable pub heading : ℕ → At → Return → Identifier → Parser Opening
  heading d at r n = do
    expect T sign.LeftParen
    ps ← parameters d
    pure (opening_.Function at r n ps)

  -- behind the type of a declaration
  unfoldable pub typed_opening : ℕ → At → TypeWords → Parser Opening
  typed_opening d at w = do
    n ← name T
    s ← peek
    if same s sign.LeftParen then heading d at (return_.Value w) n else (do
      is ← objects d n
      pure (opening_.Objects (declaration_.Objects at w is)))

  abbrev pub opening_by : ℕ → At → Sign → Parser Opening
  opening_by d at sign.Void = do
    eat T
    n ← name T
    heading d at return_.Void n
  opening_by d at _ = do
    w ← type_words T
    typed_opening d at w

  unfoldable pub opening : ℕ → Parser Opening
  opening d = do
    at ← place
    s ← peek
    opening_by d at s

  abbrev pub declared : Opening → Parser Declaration
  declared (opening_.Objects x) = pure x
  declared (opening_.Function at r n ps) = do
    expect T sign.Semicolon
    pure (declaration_.Function at r n ps)

  unfoldable pub declaration : ℕ → Parser Declaration
  declaration d = opening d >>= declared
