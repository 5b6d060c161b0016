-- The functions of a source, by the first tokens of their declarations alone (C11 6.7.6.3, 6.9.1), and the names that rule
-- 14 forbids.
use Rattle.std.specs.Prelude.{ℕ, suc, Bool, true, false, ◌==◌, ◌&&◌, ◌||◌, not, Option, Some, None, List, [], ◌∷◌, ◌++◌, map, if◌then◌else◌, codes}
use Rattle.std.specs.Str.{bytes_eq}
use Rattle.c_tree.specs.declared.types.CType.{CType}
use Rattle.c_tree.specs.declared.types.CType.TheVariants as type
use Rattle.c_tree.specs.declared.syntax.Return.{Return}
use Rattle.c_tree.specs.declared.syntax.Return.TheVariants as gives
use Rattle.c_tree.specs.declared.syntax.Parameter.{Parameter}
use Rattle.c_tree.specs.declared.syntax.Parameters.{Parameters}
use Rattle.c_tree.specs.declared.syntax.Parameters.TheVariants as parameters
use Rattle.c_tree.specs.declared.syntax.Declaration.TheVariants as declaration
use Rattle.c_tree.specs.declared.syntax.External.{External}
use Rattle.c_tree.specs.declared.syntax.External.TheVariants as external
use Rattle.c_tree.specs.declared.typed.Callee.{Callee}
use Rattle.c_tree.specs.declared.typed.Callee.TheVariants as callee
use Rattle.c_typing.specs.declared.names.Signature.{Signature}
use Rattle.c_typing.specs.Types.{same_type, type_of_words}
use Rattle.c_typing.specs.Expressions.{is_macro}

abbrev pub return_type : Return → CType
return_type gives.Void = type.Void
return_type (gives.Value t) = type_of_words t

abbrev pub parameter_list : Parameters → List Parameter
parameter_list (parameters.List ps) = ps
parameter_list parameters.Empty = []
parameter_list parameters.Void = []

abbrev pub parameter_type : Parameter → CType
parameter_type p = type_of_words p.words

-- a declaration or a definition of a function
pub record Heading : Type 0 where
  pub name : List ℕ
  pub result : CType
  pub params : List CType
  pub defines : Bool

abbrev pub heading : List ℕ → Return → Parameters → Bool → Heading
heading n r ps b = record { name = n; result = return_type r; params = map parameter_type (parameter_list ps); defines = b }

-- what the include declares (C11 7.21.7)
abbrev pub of_getchar : Heading
of_getchar = record { name = codes "getchar"; result = type.Int; params = []; defines = false }

abbrev pub of_putchar : Heading
of_putchar = record { name = codes "putchar"; result = type.Int; params = type.Int ∷ []; defines = false }

abbrev pub headings_in : External → List Heading
headings_in (external.Include at) = of_getchar ∷ of_putchar ∷ []
headings_in (external.Declared (declaration.Objects at t is)) = []
headings_in (external.Declared (declaration.Function at r n ps)) = heading n.bytes r ps false ∷ []
headings_in (external.Defined at r n ps brace body) = heading n.bytes r ps true ∷ []

abbrev pub headings : List External → List Heading
headings [] = []
headings (x ∷ xs) = headings_in x ++ headings xs

abbrev pub is_getchar : List ℕ → Bool
is_getchar n = bytes_eq n (codes "getchar")

abbrev pub is_putchar : List ℕ → Bool
is_putchar n = bytes_eq n (codes "putchar")

-- the number of the first definition of a name, where k definitions stand above
abbrev pub definition_from : ℕ → List Heading → List ℕ → Option ℕ
definition_from k [] n = None
definition_from k (h ∷ hs) n = if h.defines
    then (if bytes_eq h.name n then Some k else definition_from (suc k) hs n)
    else definition_from k hs n

abbrev pub definition_of : List Heading → List ℕ → Option ℕ
definition_of hs n = definition_from 0 hs n

abbrev pub defined : Option ℕ → Option Callee
defined None = None
defined (Some k) = Some (callee.Defined k)

-- what a call of a name calls, where `first` gives the number of a name's first definition
abbrev pub callee_of : (List ℕ → Option ℕ) → List ℕ → Option Callee
callee_of first n = if is_getchar n then Some callee.Getchar else (if is_putchar n then Some callee.Putchar else defined (first n))

-- one signature for each heading: a function's number is that of its first heading, so what it is declared as later changes no call
abbrev pub signature : (List ℕ → Option ℕ) → Heading → Signature
signature first h = record { result = h.result; params = h.params; callee = callee_of first h.name }

abbrev pub signatures : List External → List Signature
signatures xs = let hs = headings xs in map (signature (definition_of hs)) hs

abbrev pub same_types : List CType → List CType → Bool
same_types [] [] = true
same_types (a ∷ as_) (b ∷ bs) = same_type a b && same_types as_ bs
same_types [] (b ∷ bs) = false
same_types (a ∷ as_) [] = false

abbrev pub same_heading : Heading → CType → List CType → Bool
same_heading h t ts = same_type h.result t && same_types h.params ts

-- ---- RULE 14: names that begin with `__`, those of the include, and `main` as an object

abbrev pub begins_with_mark : List ℕ → Bool
begins_with_mark [] = false
begins_with_mark (b ∷ bs) = b == 95

abbrev pub is_reserved : List ℕ → Bool
is_reserved [] = false
is_reserved (b ∷ bs) = b == 95 && begins_with_mark bs

-- an object of this name
abbrev pub forbidden_object : Bool → List ℕ → Bool
forbidden_object included n = is_reserved n || bytes_eq n (codes "main") || is_getchar n || is_putchar n || is_macro included n

-- a function: one of the include may be declared as it is there
abbrev pub forbidden_function : Bool → Heading → Bool
forbidden_function included h = is_reserved h.name || is_macro included h.name
    || (is_getchar h.name && (h.defines || not (same_heading h of_getchar.result of_getchar.params)))
    || (is_putchar h.name && (h.defines || not (same_heading h of_putchar.result of_putchar.params)))
