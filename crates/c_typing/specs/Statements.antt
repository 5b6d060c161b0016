-- Statements and declarations in blocks (C11 6.7, 6.8): scopes, typed trees, and the rules that are broken in them.
use Rattle.std.specs.Prelude.{ℕ, suc, ◌-◌, ◌^◌, length, drop, map, Bool, true, false, ◌==◌, ◌&&◌, ◌||◌, not, nat_le, nat_lt, Option, Some, None, List, [], ◌∷◌, ◌++◌, if◌then◌else◌}
use Rattle.c_tree.specs.declared.token.At.{At}
use Rattle.c_tree.specs.declared.types.CType.{CType}
use Rattle.c_tree.specs.declared.types.CType.TheVariants as type
use Rattle.c_tree.specs.declared.syntax.Expr.{Expr}
use Rattle.c_tree.specs.declared.syntax.Size.{Size}
use Rattle.c_tree.specs.declared.syntax.Size.TheVariants as size
use Rattle.c_tree.specs.declared.syntax.Initialiser.{Initialiser}
use Rattle.c_tree.specs.declared.syntax.Initialiser.TheVariants as initialiser
use Rattle.c_tree.specs.declared.syntax.Item.{Item}
use Rattle.c_tree.specs.declared.syntax.Start.{Start}
use Rattle.c_tree.specs.declared.syntax.Start.TheVariants as start
use Rattle.c_tree.specs.declared.syntax.Declaration.{Declaration}
use Rattle.c_tree.specs.declared.syntax.Declaration.TheVariants as declaration
use Rattle.c_tree.specs.declared.syntax.Statement.{Statement}
use Rattle.c_tree.specs.declared.syntax.Statement.TheOpen as s
use Rattle.c_tree.specs.declared.syntax.Statement.TheFolds.{fold-Statement}
use Rattle.c_tree.specs.declared.typed.Variable.TheVariants as variable
use Rattle.c_tree.specs.declared.typed.Object.{Object}
use Rattle.c_tree.specs.declared.typed.Local.{Local}
use Rattle.c_tree.specs.declared.typed.LocalInit.{LocalInit}
use Rattle.c_tree.specs.declared.typed.LocalInit.TheVariants as init
use Rattle.c_tree.specs.declared.typed.TypedExpr.{TypedExpr}
use Rattle.c_tree.specs.declared.typed.Start as typed
use Rattle.c_tree.specs.declared.typed.Start.TheVariants as begin
use Rattle.c_tree.specs.declared.typed.Stat.{Stat}
use Rattle.c_tree.specs.declared.typed.Stat.TheVariants as stat
use Rattle.c_tree.specs.Heads.{head_of}
use Rattle.c_constants.specs.Constants.{constant_value}
use Rattle.c_typing.specs.declared.names.Meaning.{Meaning}
use Rattle.c_typing.specs.declared.names.Meaning.TheVariants as means
use Rattle.c_typing.specs.declared.names.Extent.{Extent}
use Rattle.c_typing.specs.declared.names.Extent.TheVariants as extent
use Rattle.c_typing.specs.declared.names.Around.{Around}
use Rattle.c_typing.specs.declared.names.Typing.{Typing}
use Rattle.c_typing.specs.Faults.{Faults, sound, broken, ◌also◌}
use Rattle.c_typing.specs.Types.{type_of_words, promoted, converted}
use Rattle.c_typing.specs.Scopes.{Entry, meaning}
use Rattle.c_typing.specs.Expressions.{Within, Setting, Judged, judge, used, judged, broken_if, one, two, three, together, unless}
use Rattle.c_typing.specs.Functions.{heading, forbidden_object, forbidden_function}

-- what goes along: all names that are declared, the oldest first, the function's local objects, and the labels of the
-- switch around (None: `default`)
pub record Here : Type 0 where
  pub names : List Entry
  pub locals : List Object
  pub labels : List (Option ℕ)

-- a statement, or several: trees (None: faulty), what stands behind it, and the rules broken in it
pub record Walked (T : Type 0) : Type 0 where
  pub tree : Option T
  pub here : Here
  pub faults : Faults

abbrev pub walked : {T : Type 0} → Option T → Here → Faults → Walked T
walked t h f = record { tree = t; here = h; faults = f }

abbrev pub Walk : Type 0
Walk = Around → Here → Walked Stat

-- ---- the rules

-- RULE 12, a name declared twice in one scope, which begins behind the first names
abbrev pub is_declared : Option Meaning → Bool
is_declared None = false
is_declared (Some m) = true

abbrev pub is_here : ℕ → List Entry → List ℕ → Bool
is_here start names n = is_declared (meaning (drop start names) n)

-- RULE 16, an array size that isn't a constant expression in 1 to 1,048,576: an int is read with its sign (with 16 bits -1 is the word 65,535)
abbrev pub is_size : ℕ → CType → ℕ → Bool
is_size w type.Unsigned n = nat_le 1 n && nat_le n 1048576
is_size w _ n = nat_le 1 n && (nat_le n 1048576 && nat_lt n (2 ^ (w - 1)))

abbrev pub size_in_range : ℕ → CType → Option ℕ → Option ℕ
size_in_range w t None = None
size_in_range w t (Some n) = if is_size w t n then Some n else None

abbrev pub size_of : ℕ → Option TypedExpr → Option ℕ
size_of w None = None
size_of w (Some e) = size_in_range w (head_of e).of (constant_value w e)

abbrev pub constant_of : ℕ → Option TypedExpr → Option ℕ
constant_of w None = None
constant_of w (Some e) = constant_value w e

-- RULES 16, 18: of sound expressions alone
abbrev pub faulty_unless : Option ℕ → Option TypedExpr → ℕ → At → Faults
faulty_unless v None rule at = sound
faulty_unless None (Some e) rule at = broken rule at
faulty_unless (Some v) (Some e) rule at = sound

-- how many elements there are where the size is absent: those that stand in braces
abbrev pub listed : Initialiser → Option ℕ
listed (initialiser.List at es b) = Some (length es)
listed initialiser.Absent = None
listed (initialiser.Value e) = None

-- RULE 17, an absent size without an initialiser
abbrev pub is_absent : Initialiser → Bool
is_absent initialiser.Absent = true
is_absent (initialiser.Value e) = false
is_absent (initialiser.List at es b) = false

abbrev pub elements : Option ℕ → Extent
elements None = extent.Unknown
elements (Some n) = extent.Elements n

-- RULE 19, more initialisers than elements: whether i elements are all
abbrev pub is_full : Extent → ℕ → Bool
is_full (extent.Elements n) i = n == i
is_full extent.Scalar i = false
is_full extent.Unknown i = false

abbrev pub values_faults : Extent → ℕ → List Judged → Faults
values_faults x i [] = sound
values_faults x i (j ∷ js) = j.faults also broken_if (is_full x i) 19 j.seen.at also values_faults x (suc i) js

-- RULE 29, equal values, or two defaults
abbrev pub same_label : Option ℕ → Option ℕ → Bool
same_label (Some v) (Some x) = v == x
same_label (Some v) None = false
same_label None None = true
same_label None (Some x) = false

abbrev pub among : Option ℕ → List (Option ℕ) → Bool
among l [] = false
among l (x ∷ xs) = same_label l x || among l xs

-- RULE 30, `return` with a value in a void function, or without in another
abbrev pub returns_wrong : CType → Bool → Bool
returns_wrong type.Void has_value = has_value
returns_wrong _ has_value = not has_value

abbrev pub kept_if : {A : Type 0} → Bool → Option A → Option A
kept_if true x = x
kept_if false x = None

-- several trees
abbrev pub single : {A : Type 0} → Option A → Option (List A)
single None = None
single (Some a) = Some (a ∷ [])

abbrev pub joined : {A : Type 0} → Option (List A) → Option (List A) → Option (List A)
joined None b = None
joined (Some as_) None = None
joined (Some as_) (Some bs) = Some (as_ ++ bs)

-- ---- objects

-- where no expression stands
abbrev pub nothing_judged : Judged
nothing_judged = judged (record { line = 1; column = 1 }) None sound

abbrev pub length_of : Extent → Option ℕ
length_of extent.Scalar = None
length_of (extent.Elements n) = Some n
length_of extent.Unknown = Some 0

abbrev pub means_object : ℕ → CType → Option ℕ → Meaning
means_object k t None = means.Scalar (variable.Local k) t
means_object k t (Some n) = means.Array (variable.Local k) t n

-- the scope of a name begins behind its declarator (C11 6.2.1p7)
abbrev pub with_object : Here → List ℕ → At → CType → Option ℕ → Here
with_object h n at t len = record {
  names = h.names ++ record { name = n; means = means_object (length h.locals) t len } ∷ [];
  locals = h.locals ++ record { name = n; element = t; length = len; at = at } ∷ [];
  labels = h.labels;
}

abbrev pub value_init : CType → TypedExpr → LocalInit
value_init t x = init.Value (converted t x)

abbrev pub values : CType → List Judged → Option (List TypedExpr)
values t [] = Some []
values t (j ∷ js) = joined (single (one (converted t) j.seen.tree)) (values t js)

abbrev pub local_of : ℕ → LocalInit → Local
local_of k i = record { number = k; init = i }

-- ---- what stands around a statement that isn't directly in a switch's block, a loop's body, a block, a switch's block

abbrev pub plain : Around → Around
plain c = record { result = c.result; start = c.start; labels_stand = false; loops = c.loops; breaks = c.breaks }

abbrev pub looped : Around → Around
looped c = record { result = c.result; start = c.start; labels_stand = false; loops = true; breaks = true }

abbrev pub in_block : Around → Here → Around
in_block c h = record { result = c.result; start = length h.names; labels_stand = false; loops = c.loops; breaks = c.breaks }

abbrev pub in_switch : Around → Here → Around
in_switch c h = record { result = c.result; start = length h.names; labels_stand = true; loops = c.loops; breaks = true }

-- names end with their scope; objects stay the function's
abbrev pub behind : Here → Here → Here
behind h inner = record { names = h.names; locals = inner.locals; labels = inner.labels }

-- a switch has labels of its own
abbrev pub without_labels : Here → Here
without_labels h = record { names = h.names; locals = h.locals; labels = [] }

abbrev pub with_labels : Here → List (Option ℕ) → Here
with_labels h ls = record { names = h.names; locals = h.locals; labels = ls }

-- ---- trees

abbrev pub evaluate : At → TypedExpr → Stat
evaluate at x = stat.Evaluate at (Some x)

abbrev pub if_tree : At → TypedExpr → Stat → Stat
if_tree at x a = stat.If at x a None

abbrev pub if_else_tree : At → TypedExpr → Stat → Stat → Stat
if_else_tree at x a b = stat.If at x a (Some b)

abbrev pub do_tree : At → TypedExpr → Stat → Stat
do_tree at x a = stat.DoWhile at a x

-- the three parts in a `for`'s parentheses
abbrev pub for_tree : At → typed.Start × Option TypedExpr × Option TypedExpr → Stat → Stat
for_tree at x a = stat.For at x.0 x.1 x.2 a

abbrev pub switch_tree : At → TypedExpr → List Stat → Stat
switch_tree at x ss = stat.Switch at (converted (promoted (head_of x).of) x) ss

abbrev pub case_tree : At → ℕ → Stat → Stat
case_tree at v a = stat.Case at v a

abbrev pub return_tree : At → CType → TypedExpr → Stat
return_tree at t e = stat.Return at (Some (converted t e))

-- RULES 28 and 29, a label
abbrev pub label_faults : Around → Here → At → At → Option ℕ → Faults
label_faults c h at value_at l = broken_if (not c.labels_stand) 28 at also broken_if (c.labels_stand && among l h.labels) 29 value_at

abbrev pub with_label : Around → Here → Option ℕ → Here
with_label c h l = if c.labels_stand then record { names = h.names; locals = h.locals; labels = h.labels ++ l ∷ [] } else h

-- a faulty value is no label
abbrev pub case_faults : Around → Here → At → At → Option ℕ → Faults
case_faults c h at value_at None = broken_if (not c.labels_stand) 28 at
case_faults c h at value_at (Some v) = label_faults c h at value_at (Some v)

abbrev pub with_case : Around → Here → Option ℕ → Here
with_case c h None = h
with_case c h (Some v) = with_label c h (Some v)

module _ (g : Within) where
  -- an expression there
  abbrev pub setting : Here → Setting
  setting h = record { names = h.names; within = g }

  abbrev pub expression_at : Here → Expr → Judged
  expression_at h = judge (setting h)

  abbrev pub value_at : Here → Expr → Judged
  value_at h e = used (judge (setting h) e)

  -- ---- declarations (C11 6.7)

  abbrev pub sized : Here → Size → Judged
  sized h (size.Given e) = expression_at h e
  sized h size.Scalar = nothing_judged
  sized h size.Absent = nothing_judged

  abbrev pub size_faults : Typing → Size → Initialiser → At → Faults
  size_faults j size.Scalar i at = sound
  size_faults j size.Absent i at = broken_if (is_absent i) 17 at
  size_faults j (size.Given e) i at = faulty_unless (size_of g.bits j.tree) j.tree 16 j.at

  abbrev pub extent_of : Typing → Size → Initialiser → Extent
  extent_of j size.Scalar i = extent.Scalar
  extent_of j size.Absent i = elements (listed i)
  extent_of j (size.Given e) i = elements (size_of g.bits j.tree)

  -- RULE 19, braces on a scalar, or an array initialiser without braces
  abbrev pub initialised : Here → CType → Extent → Initialiser → Option LocalInit × Faults
  initialised h t x initialiser.Absent = (Some init.Absent, sound)
  initialised h t extent.Scalar (initialiser.Value e) =
      let j = value_at h e in
      (one (value_init t) j.seen.tree, j.faults)
  initialised h t (extent.Elements n) (initialiser.Value e) = let j = value_at h e in (None, j.faults also broken 19 j.seen.at)
  initialised h t extent.Unknown (initialiser.Value e) = let j = value_at h e in (None, j.faults also broken 19 j.seen.at)
  initialised h t extent.Scalar (initialiser.List at es b) = (None, broken 19 at also values_faults extent.Scalar 0 (map (value_at h) es))
  initialised h t (extent.Elements n) (initialiser.List at es b) =
      let js = map (value_at h) es in
      (one init.List (values t js), values_faults (extent.Elements n) 0 js)
  initialised h t extent.Unknown (initialiser.List at es b) =
      let js = map (value_at h) es in
      (one init.List (values t js), values_faults extent.Unknown 0 js)

  abbrev pub item : Around → Here → CType → Item → Walked Local
  item c h t i =
      let j = sized h i.size in
      let x = extent_of j.seen i.size i.initialiser in
      let inner = with_object h i.name.bytes i.name.at t (length_of x) in
      let v = initialised inner t x i.initialiser in
      walked (one (local_of (length h.locals)) v.0) inner
      (broken_if (is_here c.start h.names i.name.bytes) 12 i.name.at also broken_if (forbidden_object g.included i.name.bytes) 14 i.name.at
      also j.faults also size_faults j.seen i.size i.initialiser i.name.at also v.1)

  abbrev pub items : Around → Here → CType → List Item → Walked (List Local)
  items c h t [] = walked (Some []) h sound
  items c h t (i ∷ is) =
      let a = item c h t i in
      let b = items c a.here t is in
      walked (joined (single a.tree) b.tree) b.here (a.faults also b.faults)

  -- RULE 15, a function declared inside a function
  abbrev pub locals_of : Around → Here → Declaration → Walked (List Local)
  locals_of c h (declaration.Objects at t is) = items c h (type_of_words t) is
  locals_of c h (declaration.Function at r n ps) =
      walked None h (broken_if (forbidden_function g.included (heading n.bytes r ps false)) 14 at also broken 15 at)

  abbrev pub place_of_declaration : Declaration → At
  place_of_declaration (declaration.Objects at t is) = at
  place_of_declaration (declaration.Function at r n ps) = at

  abbrev pub declared : Around → Here → Declaration → Walked Stat
  declared c h d = let a = locals_of c h d in walked (one (stat.Declare (place_of_declaration d)) a.tree) a.here a.faults

  -- ---- statements (C11 6.8)

  abbrev pub sequence : Around → Here → List Walk → Walked (List Stat)
  sequence c h [] = walked (Some []) h sound
  sequence c h (a ∷ rest) =
      let x = a c h in
      let y = sequence c x.here rest in
      walked (joined (single x.tree) y.tree) y.here (x.faults also y.faults)

  abbrev pub block : Around → Here → List Walk → Walked (List Stat)
  block c h ws =
      let a = sequence (in_block c h) h ws in
      walked a.tree (behind h a.here) a.faults

  abbrev pub switch_block : Around → Here → List Walk → Walked (List Stat)
  switch_block c h ws =
      let a = sequence (in_switch c h) (without_labels h) ws in
      walked a.tree (with_labels (behind h a.here) h.labels) a.faults

  abbrev pub evaluated : Here → At → Option Expr → Walked Stat
  evaluated h at None = walked (Some (stat.Evaluate at None)) h sound
  evaluated h at (Some e) =
      let j = expression_at h e in
      walked (one (evaluate at) j.seen.tree) h j.faults

  abbrev pub returned : Around → Here → At → Option Expr → Walked Stat
  returned c h at None =
      walked (unless (returns_wrong c.result false) (Some (stat.Return at None))) h (broken_if (returns_wrong c.result false) 30 at)
  returned c h at (Some e) =
      let j = value_at h e in
      walked (unless (returns_wrong c.result true) (one (return_tree at c.result) j.seen.tree)) h (broken_if (returns_wrong c.result true) 30 at also j.faults)

  -- what stands before the first semicolon of a `for`, whose scope has begun
  abbrev pub begun : Around → Here → Start → Walked typed.Start
  begun c h start.Absent = walked (Some begin.Absent) h sound
  begun c h (start.Value e) = let j = expression_at h e in walked (one begin.Value j.seen.tree) h j.faults
  begun c h (start.Declared d) = let a = locals_of c h d in walked (one (begin.Declared (place_of_declaration d)) a.tree) a.here a.faults

  -- an expression that may be left out: the test's value is used, that of the step isn't
  abbrev pub tested : Here → Option Expr → Option (Option TypedExpr) × Faults
  tested h None = (Some None, sound)
  tested h (Some e) = let j = value_at h e in (one Some j.seen.tree, j.faults)

  abbrev pub stepped : Here → Option Expr → Option (Option TypedExpr) × Faults
  stepped h None = (Some None, sound)
  stepped h (Some e) = let j = expression_at h e in (one Some j.seen.tree, j.faults)

  abbrev pub statement : s.Statement-F Walk → Walk
  statement (s.Block at ws) c h =
      let a = block c h ws in
      walked (one (stat.Block at) a.tree) a.here a.faults
  statement (s.Declared d) c h = declared c h d
  statement (s.Evaluate at e) c h = evaluated h at e
  statement (s.If at e a None) c h =
      let j = value_at h e in
      let x = a (plain c) h in
      walked (two (if_tree at) j.seen.tree x.tree) x.here (j.faults also x.faults)
  statement (s.If at e a (Some b)) c h =
      let j = value_at h e in
      let x = a (plain c) h in
      let y = b (plain c) x.here in
      walked (three (if_else_tree at) j.seen.tree x.tree y.tree) y.here (j.faults also x.faults also y.faults)
  statement (s.While at e a) c h =
      let j = value_at h e in
      let x = a (looped c) h in
      walked (two (stat.While at) j.seen.tree x.tree) x.here (j.faults also x.faults)
  statement (s.DoWhile at a e) c h =
      let x = a (looped c) h in
      let j = value_at x.here e in
      walked (two (do_tree at) j.seen.tree x.tree) x.here (x.faults also j.faults)
  statement (s.For at i t u a) c h =
      let b = begun (in_block c h) h i in
      let x = tested b.here t in
      let y = stepped b.here u in
      let z = a (looped c) b.here in
      walked (two (for_tree at) (together b.tree x.0 y.0) z.tree) (behind h z.here) (b.faults also x.1 also y.1 also z.faults)
  statement (s.Switch at e ws) c h =
      let j = value_at h e in
      let a = switch_block c h ws in
      walked (two (switch_tree at) j.seen.tree a.tree) a.here (j.faults also a.faults)
  statement (s.Case at e a) c h =
      let j = expression_at h e in
      let v = constant_of g.bits j.seen.tree in
      let x = a c (with_case c h v) in
      walked (kept_if c.labels_stand (two (case_tree at) v x.tree)) x.here (j.faults also faulty_unless v j.seen.tree 18 j.seen.at also case_faults c h at j.seen.at v also x.faults)
  statement (s.Default at a) c h =
      let x = a c (with_label c h None) in
      walked (kept_if c.labels_stand (one (stat.Default at) x.tree)) x.here (label_faults c h at at None also x.faults)
  statement (s.Break at) c h = walked (kept_if c.breaks (Some (stat.Break at))) h (broken_if (not c.breaks) 26 at)
  statement (s.Continue at) c h = walked (kept_if c.loops (Some (stat.Continue at))) h (broken_if (not c.loops) 27 at)
  statement (s.Return at e) c h = returned c h at e

  abbrev pub walk : Statement → Walk
  walk = fold-Statement Walk statement
