-- Expressions: for each its typed tree, and the rules that are broken in it (C11 6.5).
use Rattle.std.specs.Prelude.{ℕ, ◌-◌, ◌%◌, ◌^◌, suc, length, Bool, true, false, ◌==◌, ◌&&◌, ◌||◌, not, nat_lt, Option, Some, None, List, [], ◌∷◌, ◌++◌, if◌then◌else◌, slice_get, codes}
use Rattle.std.specs.Str.{bytes_eq}
use Rattle.rtl_word.specs.Words.{word_of_signed}
use Rattle.c_tree.specs.declared.token.At.{At}
use Rattle.c_tree.specs.declared.types.CType.{CType}
use Rattle.c_tree.specs.declared.types.CType.TheVariants as type
use Rattle.c_tree.specs.declared.syntax.Expr.{Expr}
use Rattle.c_tree.specs.declared.syntax.Expr.TheOpen.{Expr-F, Comma, Assign, Conditional, Binary, Cast, Unary, Before, After, Name, Element, Call, Number, Character, Paren}
use Rattle.c_tree.specs.declared.syntax.Expr.TheFolds.{fold-Expr}
use Rattle.c_tree.specs.declared.syntax.Arithmetic.{Arithmetic}
use Rattle.c_tree.specs.declared.syntax.AssignOperator.TheVariants as assign
use Rattle.c_tree.specs.declared.syntax.BinaryOperator.{BinaryOperator}
use Rattle.c_tree.specs.declared.syntax.UnaryOperator.{UnaryOperator}
use Rattle.c_tree.specs.declared.syntax.StepOperator.{StepOperator}
use Rattle.c_tree.specs.declared.typed.Callee.{Callee}
use Rattle.c_tree.specs.declared.typed.Operation.TheVariants as operation
use Rattle.c_tree.specs.declared.typed.TypedExpr.{TypedExpr}
use Rattle.c_tree.specs.declared.typed.TypedExpr.TheVariants as tree
use Rattle.c_tree.specs.Heads.{head_of, is_place}
use Rattle.c_typing.specs.declared.names.Meaning.{Meaning}
use Rattle.c_typing.specs.declared.names.Meaning.TheVariants as means
use Rattle.c_typing.specs.declared.names.Signature.{Signature}
use Rattle.c_typing.specs.declared.names.Typing.{Typing}
use Rattle.c_typing.specs.declared.names.Usage.{Usage}
use Rattle.c_typing.specs.declared.names.Usage.TheVariants as usage
use Rattle.c_typing.specs.Faults.{Faults, sound, broken, ◌also◌}
use Rattle.c_typing.specs.Types.{head, same_type, type_of_words, converted, left_type, right_type, binary_type, operand_type, unary_type, compound_type, conditional_type}
use Rattle.c_typing.specs.Scopes.{Entry, meaning}

-- what holds of a whole part of the file: the functions, how many bits a word has, and whether the include stands above
pub record Within : Type 0 where
  pub signatures : List Signature
  pub bits : ℕ
  pub included : Bool

-- what an expression stands among: the names that are declared before it, besides
pub record Setting : Type 0 where
  pub names : List Entry
  pub within : Within

-- an expression: what is seen of it, and the rules broken in it
pub record Judged : Type 0 where
  pub seen : Typing
  pub faults : Faults

abbrev pub seen : At → Option TypedExpr → Typing
seen at t = record { at = at; tree = t }

abbrev pub judged : At → Option TypedExpr → Faults → Judged
judged at t f = record { seen = seen at t; faults = f }

-- the macro `EOF` of the include stands before each declaration
abbrev pub is_macro : Bool → List ℕ → Bool
is_macro included n = included && bytes_eq n (codes "EOF")

abbrev pub meaning_at : Setting → List ℕ → Option Meaning
meaning_at c n = if is_macro c.within.included n then Some means.EndOfFile else meaning c.names n

-- ---- the rules

abbrev pub broken_if : Bool → ℕ → At → Faults
broken_if true rule at = broken rule at
broken_if false rule at = sound

abbrev pub broken_by : Option ℕ → At → Faults
broken_by None at = sound
broken_by (Some rule) at = broken rule at

abbrev pub unless : {A : Type 0} → Bool → Option A → Option A
unless true x = None
unless false x = x

-- RULE 24, a void value used: an operand whose value is used
abbrev pub is_void : Option TypedExpr → Bool
is_void None = false
is_void (Some e) = same_type (head_of e).of type.Void

abbrev pub void_used : Typing → Faults
void_used a = broken_if (is_void a.tree) 24 a.at

abbrev pub as_value : Typing → Typing
as_value a = seen a.at (unless (is_void a.tree) a.tree)

abbrev pub used : Judged → Judged
used a = record { seen = as_value a.seen; faults = a.faults also void_used a.seen }

-- the last operands of `?:` are both void or both values, else RULE 24 is told at the void one
abbrev pub is_value : Option TypedExpr → Bool
is_value None = false
is_value (Some e) = not (same_type (head_of e).of type.Void)

abbrev pub is_mixed : Option TypedExpr → Option TypedExpr → Bool
is_mixed a b = (is_void a && is_value b) || (is_value a && is_void b)

abbrev pub void_beside : Typing → Typing → Faults
void_beside a b = broken_if (is_void a.tree && is_value b.tree) 24 a.at

-- RULE 25, a left side that is no object or element
abbrev pub is_no_place : Option TypedExpr → Bool
is_no_place None = false
is_no_place (Some e) = not (is_place e)

abbrev pub no_place_assigned : Typing → Faults
no_place_assigned a = broken_if (is_no_place a.tree) 25 a.at

abbrev pub as_place : Typing → Typing
as_place a = seen a.at (unless (is_no_place a.tree) a.tree)

abbrev pub assigned : Judged → Judged
assigned a = record { seen = as_place (used a).seen; faults = (used a).faults also no_place_assigned (used a).seen }

-- RULE 32, a call of a function that is defined nowhere; RULE 23, a wrong number of arguments
abbrev pub undefined : Option Callee → Option ℕ
undefined None = Some 32
undefined (Some f) = None

abbrev pub wants : Option Signature → ℕ → Option ℕ
wants None n = Some 21
wants (Some s) n = if length s.params == n then undefined s.callee else Some 23

-- RULES 11, 20 to 23: the use of a name, as an object, as an array with an index, as a function with so many arguments
abbrev pub misuse : List Signature → Option Meaning → Usage → Option ℕ
misuse ss None u = Some 11
misuse ss (Some (means.Scalar v t)) usage.Object = None
misuse ss (Some (means.Scalar v t)) usage.Array = Some 22
misuse ss (Some (means.Scalar v t)) (usage.Function n) = Some 22
misuse ss (Some (means.Array v t k)) usage.Object = Some 20
misuse ss (Some (means.Array v t k)) usage.Array = None
misuse ss (Some (means.Array v t k)) (usage.Function n) = Some 20
misuse ss (Some (means.Function f)) usage.Object = Some 21
misuse ss (Some (means.Function f)) usage.Array = Some 21
misuse ss (Some (means.Function f)) (usage.Function n) = wants (slice_get ss f) n
misuse ss (Some means.EndOfFile) usage.Object = None
misuse ss (Some means.EndOfFile) usage.Array = Some 22
misuse ss (Some means.EndOfFile) (usage.Function n) = Some 22

abbrev pub if_proper : {A : Type 0} → Option ℕ → Option A → Option A
if_proper None x = x
if_proper (Some rule) x = None

-- ---- the trees

abbrev pub comma_tree : At → TypedExpr → TypedExpr → TypedExpr
comma_tree at a b = tree.Comma (head (head_of b).of at) a b

abbrev pub assign_tree : At → TypedExpr → TypedExpr → TypedExpr
assign_tree at a b = tree.Assign (head (head_of a).of at) a (converted (head_of a).of b)

abbrev pub compound_tree : At → Arithmetic → TypedExpr → TypedExpr → TypedExpr
compound_tree at o a b = tree.Compound (head (head_of a).of at) a (operation.Operator o) (converted (compound_type o (head_of a).of (head_of b).of) b)

abbrev pub conditional_tree : At → TypedExpr → TypedExpr → TypedExpr → TypedExpr
conditional_tree at a b c =
    let t = conditional_type (head_of b).of (head_of c).of in
    tree.Conditional (head t at) a (converted t b) (converted t c)

abbrev pub binary_tree : At → BinaryOperator → TypedExpr → TypedExpr → TypedExpr
binary_tree at o a b =
    let s = (head_of a).of in
    let t = (head_of b).of in
    tree.Binary (head (binary_type o s t) at) (converted (left_type o s t) a) o (converted (right_type o s t) b)

abbrev pub cast_tree : At → CType → TypedExpr → TypedExpr
cast_tree at t a = tree.Convert (head t at) a

abbrev pub unary_tree : At → UnaryOperator → TypedExpr → TypedExpr
unary_tree at o a = let t = (head_of a).of in tree.Unary (head (unary_type o t) at) o (converted (operand_type o t) a)

abbrev pub before_tree : At → StepOperator → TypedExpr → TypedExpr
before_tree at o a = tree.Before (head (head_of a).of at) o a

abbrev pub after_tree : At → StepOperator → TypedExpr → TypedExpr
after_tree at o a = tree.After (head (head_of a).of at) a o

abbrev pub one : {A B : Type 0} → (A → B) → Option A → Option B
one f None = None
one f (Some a) = Some (f a)

abbrev pub two : {A B C : Type 0} → (A → B → C) → Option A → Option B → Option C
two f None b = None
two f (Some a) b = one (f a) b

abbrev pub together : {A B C : Type 0} → Option A → Option B → Option C → Option (A × B × C)
together (Some a) (Some b) (Some c) = Some (a, b, c)
together None b c = None
together (Some a) None c = None
together (Some a) (Some b) None = None

abbrev pub three : {A B C D : Type 0} → (A → B → C → D) → Option A → Option B → Option C → Option D
three {A} {B} {C} {D} f a b c = one (λ (x : A × B × C). f x.0 x.1 x.2) (together a b c)

-- EOF is -1
abbrev pub object_tree : ℕ → At → Option Meaning → Option TypedExpr
object_tree w at (Some (means.Scalar v t)) = Some (tree.Object (head t at) v)
object_tree w at (Some means.EndOfFile) = Some (tree.Constant (head type.Int at) (2 ^ w - 1))
object_tree w at (Some (means.Array v t k)) = None
object_tree w at (Some (means.Function f)) = None
object_tree w at None = None

abbrev pub element_tree : At → Option Meaning → Option TypedExpr → Option TypedExpr
element_tree at (Some (means.Array v t k)) i = one (tree.Element (head t at) v) i
element_tree at _ i = None

-- ---- arguments: each in its parameter's type

abbrev pub argument : Option CType → TypedExpr → TypedExpr
argument None e = e
argument (Some t) e = converted t e

abbrev pub argument_of : Option CType → Option TypedExpr → List TypedExpr
argument_of t None = []
argument_of t (Some e) = argument t e ∷ []

-- the sound ones, from the i-th parameter on
abbrev pub arguments : List CType → ℕ → List Judged → List TypedExpr
arguments ts i [] = []
arguments ts i (a ∷ as_) = argument_of (slice_get ts i) (used a).seen.tree ++ arguments ts (suc i) as_

abbrev pub is_sound : {A : Type 0} → Option A → Bool
is_sound None = false
is_sound (Some e) = true

abbrev pub all_sound : List Judged → Bool
all_sound [] = true
all_sound (a ∷ as_) = is_sound (used a).seen.tree && all_sound as_

abbrev pub faults_of : List Judged → Faults
faults_of [] = sound
faults_of (a ∷ as_) = (used a).faults also faults_of as_

abbrev pub params_of : Option Signature → List CType
params_of None = []
params_of (Some s) = s.params

-- the function that a name stands for
abbrev pub signature_of : List Signature → Option Meaning → Option Signature
signature_of ss (Some (means.Function f)) = slice_get ss f
signature_of ss _ = None

abbrev pub call_to : At → CType → Option Callee → List TypedExpr → Option TypedExpr
call_to at t None es = None
call_to at t (Some f) es = Some (tree.Call (head t at) f es)

abbrev pub call_of : At → Option Signature → List TypedExpr → Option TypedExpr
call_of at None es = None
call_of at (Some s) es = call_to at s.result s.callee es

abbrev pub call_tree : At → Option Meaning → Option Signature → List TypedExpr → Option TypedExpr
call_tree at (Some (means.Function f)) s es = call_of at s es
call_tree at _ s es = None

-- ---- constants

-- RULE 34, a constant that needs a long type (C11 6.4.4.1p5)
abbrev pub number_type : ℕ → ℕ → Bool → Bool → Option CType
number_type w v decimal true = if nat_lt v (2 ^ w) then Some type.Unsigned else None
number_type w v true false = if nat_lt v (2 ^ (w - 1)) then Some type.Int else None
number_type w v false false = if nat_lt v (2 ^ (w - 1)) then Some type.Int else (if nat_lt v (2 ^ w) then Some type.Unsigned else None)

abbrev pub number : At → ℕ → Option CType → Judged
number at v None = judged at None (broken 34 at)
number at v (Some t) = judged at (Some (tree.Constant (head t at) v)) sound

-- ---- the table

abbrev pub expression : Setting → Expr-F Judged → Judged
expression c (Name at n) =
    let m = meaning_at c n in
    judged at (object_tree c.within.bits at m) (broken_by (misuse c.within.signatures m usage.Object) at)
expression c (Element at n a) =
    let m = meaning_at c n in
    judged at (element_tree at m (used a).seen.tree) (broken_by (misuse c.within.signatures m usage.Array) at also (used a).faults)
expression c (Call at n as_) =
    let m = meaning_at c n in
    let wrong = misuse c.within.signatures m (usage.Function (length as_)) in
    let s = signature_of c.within.signatures m in
    judged at (if_proper wrong (unless (not (all_sound as_)) (call_tree at m s (arguments (params_of s) 0 as_)))) (broken_by wrong at also faults_of as_)
expression c (Number at v d u) = number at v (number_type c.within.bits v d u)
expression c (Character at v) = judged at (Some (tree.Constant (head type.Int at) (word_of_signed c.within.bits v % 2 ^ c.within.bits))) sound
expression c (Comma at a b) = judged at (two (comma_tree at) a.seen.tree b.seen.tree) (a.faults also b.faults)
expression c (Assign at a assign.Plain b) = judged at (two (assign_tree at) (assigned a).seen.tree (used b).seen.tree) ((assigned a).faults also (used b).faults)
expression c (Assign at a (assign.Compound o) b) = judged at (two (compound_tree at o) (assigned a).seen.tree (used b).seen.tree) ((assigned a).faults also (used b).faults)
expression c (Conditional at a b d) =
    judged at (unless (is_mixed b.seen.tree d.seen.tree) (three (conditional_tree at) (used a).seen.tree b.seen.tree d.seen.tree))
    ((used a).faults also b.faults also d.faults also void_beside b.seen d.seen also void_beside d.seen b.seen)
expression c (Binary at a o b) = judged at (two (binary_tree at o) (used a).seen.tree (used b).seen.tree) ((used a).faults also (used b).faults)
expression c (Cast at t a) = judged at (one (cast_tree at (type_of_words t)) (used a).seen.tree) (used a).faults
expression c (Unary at o a) = judged at (one (unary_tree at o) (used a).seen.tree) (used a).faults
expression c (Before at o a) = judged at (one (before_tree at o) (assigned a).seen.tree) (assigned a).faults
expression c (After at a o) = judged at (one (after_tree at o) (assigned a).seen.tree) (assigned a).faults
expression c (Paren at a) = judged at a.seen.tree a.faults

abbrev pub judge : Setting → Expr → Judged
judge c = fold-Expr Judged (expression c)
