-- A whole source (C11 6.9): the objects and functions of the file, and the rules that are broken in it.
use Rattle.std.specs.Prelude.{ℕ, ◌≡◌, suc, length, Bool, true, false, ◌==◌, ◌&&◌, ◌||◌, not, nat_lt, Option, Some, None, List, [], ◌∷◌, ◌++◌, map, if◌then◌else◌, slice_get, slice_set, codes}
use Rattle.std.specs.Str.{bytes_eq}
use Rattle.c_tree.specs.declared.token.At.{At}
use Rattle.c_tree.specs.declared.types.CType.{CType}
use Rattle.c_tree.specs.declared.types.CType.TheVariants as type
use Rattle.c_tree.specs.declared.syntax.Expr.{Expr}
use Rattle.c_tree.specs.declared.syntax.Return.{Return}
use Rattle.c_tree.specs.declared.syntax.Identifier.{Identifier}
use Rattle.c_tree.specs.declared.syntax.Initialiser.{Initialiser}
use Rattle.c_tree.specs.declared.syntax.Initialiser.TheVariants as initialiser
use Rattle.c_tree.specs.declared.syntax.Item.{Item}
use Rattle.c_tree.specs.declared.syntax.Parameter.{Parameter}
use Rattle.c_tree.specs.declared.syntax.Parameters.{Parameters}
use Rattle.c_tree.specs.declared.syntax.Declaration.TheVariants as declaration
use Rattle.c_tree.specs.declared.syntax.Statement.{Statement}
use Rattle.c_tree.specs.declared.syntax.External.{External}
use Rattle.c_tree.specs.declared.syntax.External.TheVariants as external
use Rattle.c_tree.specs.declared.syntax.Syntax.{Syntax}
use Rattle.c_tree.specs.declared.typed.Variable.{Variable}
use Rattle.c_tree.specs.declared.typed.Variable.TheVariants as variable
use Rattle.c_tree.specs.declared.typed.Object.{Object}
use Rattle.c_tree.specs.declared.typed.Static.{Static}
use Rattle.c_tree.specs.declared.typed.Function.{Function}
use Rattle.c_tree.specs.declared.typed.Typed.{Typed}
use Rattle.c_tree.specs.declared.typed.Stat.{Stat}
use Rattle.c_tree.specs.declared.typed.Stat.TheVariants as stat
use Rattle.c_constants.specs.Operators.{as_type}
use Rattle.c_typing.specs.declared.names.Meaning.{Meaning}
use Rattle.c_typing.specs.declared.names.Meaning.TheVariants as means
use Rattle.c_typing.specs.declared.names.Extent.{Extent}
use Rattle.c_typing.specs.declared.names.Extent.TheVariants as extent
use Rattle.c_typing.specs.declared.names.Signature.{Signature}
use Rattle.c_typing.specs.declared.names.Around.{Around}
use Rattle.c_typing.specs.Faults.{Faults, sound, broken, ◌also◌, Breaks}
use Rattle.c_typing.specs.Types.{same_type, type_of_words}
use Rattle.c_typing.specs.Scopes.{Entry, meaning}
use Rattle.c_typing.specs.Expressions.{Within, Judged, broken_if, one}
use Rattle.c_typing.specs.Functions.{Heading, heading, headings, signatures, definition_of, same_heading, of_getchar, of_putchar, forbidden_object, forbidden_function, parameter_list, parameter_type, return_type}
use Rattle.c_typing.specs.Statements as st

-- ---- the rules

-- RULE 12 of a function: something else is declared, or a function of another type
abbrev pub other_signature : Heading → Option Signature → Bool
other_signature h None = true
other_signature h (Some s) = not (same_heading h s.result s.params)

abbrev pub other_function : List Signature → Heading → Option Meaning → Bool
other_function ss h None = false
other_function ss h (Some (means.Function f)) = other_signature h (slice_get ss f)
other_function ss h (Some (means.Scalar v t)) = true
other_function ss h (Some (means.Array v t k)) = true
other_function ss h (Some means.EndOfFile) = true

-- RULE 13, a second definition of a function: its first stands among the n above
abbrev pub is_above : ℕ → Option ℕ → Bool
is_above n None = false
is_above n (Some k) = nat_lt k n

-- RULE 12 of an object: something else is declared, or an object of another type; a faulty size tells no type
abbrev pub is_other_length : Extent → ℕ → Bool
is_other_length extent.Scalar k = true
is_other_length (extent.Elements n) k = not (k == n)
is_other_length extent.Unknown k = false

abbrev pub is_array : Extent → Bool
is_array extent.Scalar = false
is_array (extent.Elements n) = true
is_array extent.Unknown = true

abbrev pub other_object : CType → Extent → Meaning → Bool
other_object t x (means.Function f) = true
other_object t x (means.Scalar v u) = not (same_type t u) || is_array x
other_object t x (means.Array v u k) = not (same_type t u) || is_other_length x k
other_object t x means.EndOfFile = true

-- RULE 31, no definition of `main` as int without parameters (C11 5.1.2.2.1)
abbrev pub is_main : Heading → Bool
is_main h = h.defines && (bytes_eq h.name (codes "main") && same_heading h type.Int [])

abbrev pub has_main : List Heading → Bool
has_main [] = false
has_main (h ∷ hs) = is_main h || has_main hs

-- ---- what goes along: the names, the static objects, how many headings and how many definitions stand above, and
-- whether the include does

pub record File : Type 0 where
  pub names : List Entry
  pub statics : List Static
  pub above : ℕ
  pub definitions : ℕ
  pub included : Bool

abbrev pub entry : List ℕ → Meaning → Entry
entry n m = record { name = n; means = m }

-- a name that is new stands for what is declared here, and any other for what it did
abbrev pub with_name : List Entry → Option Meaning → Entry → List Entry
with_name names None e = names ++ e ∷ []
with_name names (Some m) e = names

abbrev pub more_if : Bool → ℕ → ℕ
more_if true n = suc n
more_if false n = n

abbrev pub with_heading : File → Heading → File
with_heading f h = record {
  names = with_name f.names (meaning f.names h.name) (entry h.name (means.Function f.above));
  statics = f.statics;
  above = suc f.above;
  definitions = (if h.defines then suc f.definitions else f.definitions);
  included = f.included;
}

abbrev pub with_include : File → File
with_include f =
    let g = with_heading (with_heading f of_getchar) of_putchar in
    record { names = g.names; statics = g.statics; above = g.above; definitions = g.definitions; included = true }

-- ---- objects of the file

abbrev pub here_of : File → st.Here
here_of f = record { names = f.names; locals = []; labels = [] }

-- the number of a static object
abbrev pub variable_number : Variable → Option ℕ
variable_number (variable.Static k) = Some k
variable_number (variable.Parameter k) = None
variable_number (variable.Local k) = None

abbrev pub static_of : Meaning → Option ℕ
static_of (means.Scalar v t) = variable_number v
static_of (means.Array v t n) = variable_number v
static_of (means.Function f) = None
static_of means.EndOfFile = None

abbrev pub means_static : ℕ → CType → Option ℕ → Meaning
means_static k t None = means.Scalar (variable.Static k) t
means_static k t (Some n) = means.Array (variable.Static k) t n

abbrev pub with_values : Option Static → List ℕ → Option Static
with_values None vs = None
with_values (Some s) vs = Some (record { object = s.object; init = vs })

-- the values of the k-th object
abbrev pub set_some : List Static → ℕ → Option Static → List Static
set_some ss k None = ss
set_some ss k (Some s) = slice_set ss k s

abbrev pub given : List Static → Option ℕ → List ℕ → List Static
given ss None vs = ss
given ss (Some k) vs = set_some ss k (with_values (slice_get ss k) vs)

-- an object that is new has its name and its number from here on
abbrev pub with_static : File → Item → CType → Option ℕ → Option Meaning → File
with_static f i t len None = record {
  names = f.names ++ entry i.name.bytes (means_static (length f.statics) t len) ∷ [];
  statics = f.statics ++ record { object = record { name = i.name.bytes; element = t; length = len; at = i.name.at }; init = [] } ∷ [];
  above = f.above;
  definitions = f.definitions;
  included = f.included;
}
with_static f i t len (Some m) = f

abbrev pub with_statics : File → List Static → File
with_statics f ss = record { names = f.names; statics = ss; above = f.above; definitions = f.definitions; included = f.included }

abbrev pub static_number : File → Option Meaning → Option ℕ
static_number f None = Some (length f.statics)
static_number f (Some m) = static_of m

abbrev pub with_given : File → Initialiser → Option ℕ → List ℕ → File
with_given f initialiser.Absent k vs = f
with_given f (initialiser.Value e) k vs = with_statics f (given f.statics k vs)
with_given f (initialiser.List at es b) k vs = with_statics f (given f.statics k vs)

-- whether it has values already
abbrev pub is_given : Option Static → Bool
is_given None = false
is_given (Some s) = not (length s.init == 0)

abbrev pub has_given : List Static → Option ℕ → Bool
has_given ss None = false
has_given ss (Some k) = is_given (slice_get ss k)

abbrev pub again : File → Initialiser → CType → Extent → Option Meaning → Bool
again f i t x None = false
again f i t x (Some m) = other_object t x m || (not (st.is_absent i) && has_given f.statics (static_of m))

-- ---- parameters

pub record Params : Type 0 where
  pub names : List Entry
  pub objects : List Object

abbrev pub with_parameter : Params → Parameter → Option Identifier → Params
with_parameter p x None = record {
  names = p.names;
  objects = p.objects ++ record { name = []; element = parameter_type x; length = None; at = x.at } ∷ [];
}
with_parameter p x (Some n) = record {
  names = p.names ++ entry n.bytes (means.Scalar (variable.Parameter (length p.objects)) (parameter_type x)) ∷ [];
  objects = p.objects ++ record { name = n.bytes; element = parameter_type x; length = None; at = n.at } ∷ [];
}

abbrev pub with_parameters : Params → List Parameter → Params
with_parameters p [] = p
with_parameters p (x ∷ xs) = with_parameters (with_parameter p x x.name) xs

-- RULE 33, more than 16 parameters; RULE 17, an unnamed one in a definition; RULES 14 and 12 of a name
abbrev pub parameter_faults : Bool → ℕ → Bool → Params → Parameter → Option Identifier → Faults
parameter_faults included start defines p x None = broken_if (length p.objects == 16) 33 x.at also broken_if defines 17 x.at
parameter_faults included start defines p x (Some n) =
    broken_if (length p.objects == 16) 33 x.at also broken_if (forbidden_object included n.bytes) 14 n.at also broken_if (st.is_here start p.names n.bytes) 12 n.at

abbrev pub parameters_faults : Bool → ℕ → Bool → Params → List Parameter → Faults
parameters_faults included start defines p [] = sound
parameters_faults included start defines p (x ∷ xs) =
    parameter_faults included start defines p x x.name also parameters_faults included start defines (with_parameter p x x.name) xs

-- a function's parameters stand behind the names of the file, in a scope of their own
abbrev pub no_parameters : File → Params
no_parameters f = record { names = f.names; objects = [] }

abbrev pub parameters_of : File → Parameters → Params
parameters_of f ps = with_parameters (no_parameters f) (parameter_list ps)

abbrev pub faults_of_parameters : File → Bool → Parameters → Faults
faults_of_parameters f defines ps = parameters_faults f.included (length f.names) defines (no_parameters f) (parameter_list ps)

-- ---- a part of the file

pub record Parts : Type 0 where
  pub functions : Option (List Function)
  pub file : File
  pub faults : Faults

abbrev pub parts : Option (List Function) → File → Faults → Parts
parts fs f e = record { functions = fs; file = f; faults = e }

abbrev pub function_tree : At → Identifier → CType → List Object → List Object → List Stat → Function
function_tree brace n t ps ls ss = record { name = n.bytes; result = t; params = ps; locals = ls; body = stat.Block brace ss; at = n.at }

abbrev pub around_body : CType → ℕ → Around
around_body t start = record { result = t; start = start; labels_stand = false; loops = false; breaks = false }

module _ (ss : List Signature) (w : ℕ) where
  abbrev pub within : File → Within
  within f = record { signatures = ss; bits = w; included = f.included }

  -- RULE 18, a static initialiser that isn't a constant expression with a defined value
  abbrev pub word_of : CType → Option ℕ → List ℕ
  word_of t None = []
  word_of t (Some v) = as_type w t v ∷ []

  abbrev pub static_fault : Judged → Faults
  static_fault j = j.faults also st.faulty_unless (st.constant_of w j.seen.tree) j.seen.tree 18 j.seen.at

  abbrev pub static_words : CType → List Judged → List ℕ
  static_words t [] = []
  static_words t (j ∷ js) = word_of t (st.constant_of w j.seen.tree) ++ static_words t js

  abbrev pub static_faults : Extent → ℕ → List Judged → Faults
  static_faults x i [] = sound
  static_faults x i (j ∷ js) = static_fault j also broken_if (st.is_full x i) 19 j.seen.at also static_faults x (suc i) js

  abbrev pub judged_at : File → Expr → Judged
  judged_at f e = st.expression_at (within f) (here_of f) e

  abbrev pub static_values : File → CType → Extent → Initialiser → List ℕ × Faults
  static_values f t x initialiser.Absent = ([], sound)
  static_values f t extent.Scalar (initialiser.Value e) = let j = judged_at f e in (word_of t (st.constant_of w j.seen.tree), static_fault j)
  static_values f t (extent.Elements n) (initialiser.Value e) = let j = judged_at f e in ([], static_fault j also broken 19 j.seen.at)
  static_values f t extent.Unknown (initialiser.Value e) = let j = judged_at f e in ([], static_fault j also broken 19 j.seen.at)
  static_values f t extent.Scalar (initialiser.List at es b) = ([], broken 19 at also static_faults extent.Scalar 0 (map (judged_at f) es))
  static_values f t (extent.Elements n) (initialiser.List at es b) = let js = map (judged_at f) es in (static_words t js, static_faults (extent.Elements n) 0 js)
  static_values f t extent.Unknown (initialiser.List at es b) = ([], static_faults extent.Unknown 0 (map (judged_at f) es))

  abbrev pub static_item : File → CType → Item → File × Faults
  static_item f t i =
      let j = st.sized (within f) (here_of f) i.size in
      let x = st.extent_of (within f) j.seen i.size i.initialiser in
      let m = meaning f.names i.name.bytes in
      -- the scope of the name begins before its initialiser
      let inner = with_static f i t (st.length_of x) m in
      let v = static_values inner t x i.initialiser in (
        with_given inner i.initialiser (static_number f m) v.0,
        broken_if (forbidden_object f.included i.name.bytes) 14 i.name.at
            also j.faults also st.size_faults (within f) j.seen i.size i.initialiser i.name.at
            also broken_if (again f i.initialiser t x m) 12 i.name.at also v.1,
      )

  abbrev pub static_items : File → CType → List Item → File × Faults
  static_items f t [] = (f, sound)
  static_items f t (i ∷ is) =
      let a = static_item f t i in
      let b = static_items a.0 t is in
      (b.0, a.1 also b.1)

  -- a definition behind its heading: parameters stand in the scope of the body
  abbrev pub with_body : File → Return → Identifier → Parameters → At → List Statement → Parts
  with_body f r n ps brace body =
      let p = parameters_of f ps in
      let x = st.sequence (within f) (around_body (return_type r) (length f.names)) (record { names = p.names; locals = []; labels = [] }) (map (st.walk (within f)) body) in
      parts (st.single (one (function_tree brace n (return_type r) p.objects x.here.locals) x.tree)) f (faults_of_parameters f true ps also x.faults)

-- `first` gives the number of a name's first definition among the definitions of the file
abbrev pub heading_faults : (List ℕ → Option ℕ) → List Signature → File → Heading → At → At → Faults
heading_faults first ss f h at name_at =
    broken_if (forbidden_function f.included h) 14 at
    also broken_if (other_function ss h (meaning f.names h.name)) 12 name_at
    also broken_if (h.defines && is_above f.definitions (first h.name)) 13 at

module _ (first : List ℕ → Option ℕ) (ss : List Signature) (w : ℕ) where
  abbrev pub part : File → External → Parts
  part f (external.Include at) = parts (Some []) (with_include f) sound
  part f (external.Declared (declaration.Objects at t is)) = let a = static_items ss w f (type_of_words t) is in parts (Some []) a.0 a.1
  part f (external.Declared (declaration.Function at r n ps)) =
      let h = heading n.bytes r ps false in
      let f2 = with_heading f h in
      parts (Some []) f2 (heading_faults first ss f h at n.at also faults_of_parameters f2 false ps)
  part f (external.Defined at r n ps brace body) =
      let h = heading n.bytes r ps true in
      let f2 = with_heading f h in
      let a = with_body ss w f2 r n ps brace body in
      parts a.functions f2 (heading_faults first ss f h at n.at also a.faults)

  abbrev pub all_parts : File → List External → Parts
  all_parts f [] = parts (Some []) f sound
  all_parts f (x ∷ xs) =
      let a = part f x in
      let b = all_parts a.file xs in
      parts (st.joined a.functions b.functions) b.file (a.faults also b.faults)

abbrev pub nothing : File
nothing = record { names = []; statics = []; above = 0; definitions = 0; included = false }

-- a whole source: its tree, and the rules broken in it
pub record Programmed : Type 0 where
  pub tree : Option Typed
  pub faults : Faults

abbrev pub typed : List Static → List Function → Typed
typed ss fs = record { statics = ss; functions = fs }

abbrev pub program : ℕ → Syntax → Programmed
program w s =
    let hs = headings s.parts in
    let a = all_parts (definition_of hs) (signatures s.parts) w nothing s.parts in
    record { tree = one (typed a.file.statics) a.functions; faults = a.faults also broken_if (not (has_main hs)) 31 s.end }

-- no rule is broken, and this is the tree
pub record IsTyped (w : ℕ) (s : Syntax) (t : Typed) : Type 0 where
  pub sound : (rule : ℕ) (at : At) → Breaks (program w s).faults rule at → ⊥
  pub tree : (program w s).tree ≡ Some t
