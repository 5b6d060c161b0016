-- The words that the machine has read in a state, and what the parts that it holds must be.
use Rattle.std.specs.Prelude.{ℕ, suc, ◌+◌, ◌≡◌, ◌≤◌, List, [], ◌∷◌, ◌++◌, map, Bool, true, false, Some, None, if◌then◌else◌}
use Rattle.c_tree.specs.declared.token.At.{At}
use Rattle.c_tree.specs.declared.syntax.TypeWords.{TypeWords}
use Rattle.c_tree.specs.declared.syntax.Expr.{Expr}
use Rattle.c_tree.specs.declared.syntax.Item.{Item}
use Rattle.c_tree.specs.declared.syntax.Parameter.{Parameter}
use Rattle.c_tree.specs.declared.syntax.Statement.{Statement}
use Rattle.c_tree.specs.declared.syntax.External.{External}
use Rattle.c_grammar.specs.declared.sign.Sign.TheVariants as sign
use Rattle.c_grammar.specs.Words.{a_name, a_sign}
use Rattle.c_grammar.specs.Operators.{precedence, binary_sign, assign_sign, unary_sign, step_sign}
use Rattle.c_grammar.specs.Phrases.{Leaf, leaf, Said, Part, sub, open_, expr, item, piece, stands, entry, behind, leaves_of, leaves_at, all_fit, the_sign, operator, name, each}
use Rattle.c_grammar.specs.Grammar.{about, type, constant, maybe, started, condition, sized, declarator, returned, parameter, listed, about_statement, part}
use Rattle.c_parser.proofs.Asked.{place_of}
use Rattle.c_parser.proofs.Machine.{Frame, unary, before, cast, binary, question, colon, comma, paren, element, arguments, Under, in_block, in_if, in_else, in_while, in_do, in_for, in_switch, in_case, in_default, in_body, Home, at_top, at_block, at_start, Naming, Heading, Use, evaluate, if_, while_, switch_, start_, return_, case_, do_, test_, next_, size_, value_, list_, home_nesting, start_behind, maybe_behind, inside, outer, use_hole, hole, opens, entered, spot, first}
use Rattle.c_parser.proofs.Machine as m

-- ---- lists with commas behind each

abbrev pub trail : {A : Type 0} → (A → Part) → List A → List Part
trail f [] = []
trail f (x ∷ xs) = f x ∷ the_sign sign.Comma ∷ trail f xs

abbrev pub argument : Expr → Part
argument e = open_ 1 (about e)

-- ---- statements

-- the parts of a statement that stand before what is wanted
abbrev pub begun_under : Under → List Part
begun_under (in_block at ss) = []
begun_under (in_if at e) = the_sign sign.If ∷ condition e []
begun_under (in_else at e a) = the_sign sign.If ∷ condition e (open_ 2 (about_statement a) ∷ the_sign sign.Else ∷ [])
begun_under (in_while at e) = the_sign sign.While ∷ condition e []
begun_under (in_do at) = the_sign sign.Do ∷ []
begun_under (in_for at b t n) = the_sign sign.For ∷ the_sign sign.LeftParen ∷ (started b ++ (maybe t ++ the_sign sign.Semicolon ∷ (maybe n ++ the_sign sign.RightParen ∷ [])))
begun_under (in_switch at e ss) = the_sign sign.Switch ∷ condition e []
begun_under (in_case at e) = the_sign sign.Case ∷ constant e ∷ the_sign sign.Colon ∷ []
begun_under (in_default at) = the_sign sign.Default ∷ the_sign sign.Colon ∷ []
begun_under (in_body ps at r n qs brace ss) = []

abbrev pub items : List Statement → List Part
items ss = the_sign sign.LeftBrace ∷ each item (map about_statement ss)

abbrev pub tops : List External → List Part
tops ps = each piece (map part ps)

abbrev pub text_unders : List Under → List Leaf → List Leaf
text_unders [] r = r
text_unders (in_block at ss ∷ us) r = text_unders us (leaves_at at (items ss) (suc (suc (inside us))) r)
text_unders (in_if at e ∷ us) r = text_unders us (leaves_at at (begun_under (in_if at e)) (suc (inside us)) r)
text_unders (in_else at e a ∷ us) r = text_unders us (leaves_at at (begun_under (in_else at e a)) (suc (inside us)) r)
text_unders (in_while at e ∷ us) r = text_unders us (leaves_at at (begun_under (in_while at e)) (suc (inside us)) r)
text_unders (in_do at ∷ us) r = text_unders us (leaves_at at (begun_under (in_do at)) (suc (inside us)) r)
text_unders (in_for at b t n ∷ us) r = text_unders us (leaves_at at (begun_under (in_for at b t n)) (suc (inside us)) r)
text_unders (in_switch at e ss ∷ us) r = text_unders us (leaves_at at (begun_under (in_switch at e ss)) (suc (inside us)) (leaves_of (items ss) (suc (behind (suc (inside us)) (about e))) r))
text_unders (in_case at e ∷ us) r = text_unders us (leaves_at at (begun_under (in_case at e)) (suc (inside us)) r)
text_unders (in_default at ∷ us) r = text_unders us (leaves_at at (begun_under (in_default at)) (suc (inside us)) r)
text_unders (in_body ps at g n qs brace ss ∷ us) r = leaves_of (tops ps) 0 (leaves_at at (returned g) 0 (leaf (a_name n.bytes) (Some n.at) 0 ∷ leaf (a_sign sign.LeftParen) None 0 ∷ leaves_of (listed qs) 0 (leaf (a_sign sign.RightParen) None 0 ∷ leaves_at brace (items ss) 1 r)))

abbrev pub ok_items : List Statement → Type 0
ok_items ss = all_fit (each item (map about_statement ss)) ≡ true

abbrev pub ok_unders : List Under → Type 0
ok_unders [] = ⊥
ok_unders (in_block at ss ∷ us) = ok_items ss × ok_unders us
ok_unders (in_switch at e ss ∷ us) = (all_fit (begun_under (in_switch at e ss)) ≡ true) × ok_items ss × ok_unders us
ok_unders (in_body ps at g n qs brace ss ∷ us) = (all_fit (tops ps) ≡ true) × (all_fit (listed qs) ≡ true) × ok_items ss
ok_unders (f ∷ us) = (all_fit (begun_under f) ≡ true) × ok_unders us

-- ---- declarations

abbrev pub text_home : Home → List Leaf → List Leaf
text_home (at_top ps) r = leaves_of (tops ps) 0 r
text_home (at_block us) r = text_unders us r
text_home (at_start at us) r = text_unders us (leaves_at at (the_sign sign.For ∷ the_sign sign.LeftParen ∷ []) (suc (inside us)) r)

abbrev pub ok_home : Home → Type 0
ok_home (at_top ps) = all_fit (tops ps) ≡ true
ok_home (at_block us) = ok_unders us × (m.is_block us ≡ true)
ok_home (at_start at us) = ok_unders us

abbrev pub object : Item → Part
object x = piece (declarator x)

abbrev pub text_type : At → TypeWords → Home → List Leaf → List Leaf
text_type at t h r = text_home h (leaves_at at (type t) (home_nesting h) r)

abbrev pub text_naming : Naming → List Leaf → List Leaf
text_naming i r = text_type i.at i.words i.home (leaves_of (trail object i.done) (home_nesting i.home) (leaf (a_name i.name.bytes) (Some i.name.at) (home_nesting i.home) ∷ r))

abbrev pub a_parameter : Parameter → Part
a_parameter x = piece (parameter x)

-- up to the opening parenthesis
abbrev pub text_heading : Heading → List Leaf → List Leaf
text_heading k r = text_home k.home (leaves_at k.at (returned k.gives) (home_nesting k.home) (leaf (a_name k.name.bytes) (Some k.name.at) (home_nesting k.home) ∷ leaf (a_sign sign.LeftParen) None (home_nesting k.home) ∷ r))

abbrev pub ok_naming : Naming → Type 0
ok_naming i = ok_home i.home × (all_fit (trail object i.done) ≡ true)

-- ---- uses

abbrev pub text_use : Use → List Leaf → List Leaf
text_use (evaluate us) r = text_unders us r
text_use (if_ at us) r = text_unders us (leaves_at at (the_sign sign.If ∷ the_sign sign.LeftParen ∷ []) (suc (inside us)) r)
text_use (while_ at us) r = text_unders us (leaves_at at (the_sign sign.While ∷ the_sign sign.LeftParen ∷ []) (suc (inside us)) r)
text_use (switch_ at us) r = text_unders us (leaves_at at (the_sign sign.Switch ∷ the_sign sign.LeftParen ∷ []) (suc (inside us)) r)
text_use (start_ at us) r = text_unders us (leaves_at at (the_sign sign.For ∷ the_sign sign.LeftParen ∷ []) (suc (inside us)) r)
text_use (return_ at us) r = text_unders us (leaves_at at (the_sign sign.Return ∷ []) (suc (inside us)) r)
text_use (case_ at us) r = text_unders us (leaves_at at (the_sign sign.Case ∷ []) (suc (inside us)) r)
text_use (do_ at s us) r = text_unders us (leaves_at at (the_sign sign.Do ∷ open_ 1 (about_statement s) ∷ the_sign sign.While ∷ the_sign sign.LeftParen ∷ []) (suc (inside us)) r)
text_use (test_ at b us) r = text_unders us (leaves_at at (the_sign sign.For ∷ the_sign sign.LeftParen ∷ started b) (suc (inside us)) r)
text_use (next_ at b t us) r = text_unders us (leaves_at at (the_sign sign.For ∷ the_sign sign.LeftParen ∷ (started b ++ (maybe t ++ the_sign sign.Semicolon ∷ []))) (suc (inside us)) r)
text_use (size_ i) r = text_naming i (leaf (a_sign sign.LeftBracket) None (home_nesting i.home) ∷ r)
text_use (value_ i z) r = text_naming i (leaves_of (sized z) (home_nesting i.home) (leaf (a_sign sign.Assign) None (home_nesting i.home) ∷ r))
text_use (list_ i z at es) r = text_naming i (leaves_of (sized z) (home_nesting i.home) (leaf (a_sign sign.Assign) None (home_nesting i.home) ∷ leaf (a_sign sign.LeftBrace) (Some at) (home_nesting i.home) ∷ leaves_of (trail argument es) (home_nesting i.home) r))

abbrev pub ok_use : Use → Type 0
ok_use (evaluate us) = ok_unders us
ok_use (if_ at us) = ok_unders us
ok_use (while_ at us) = ok_unders us
ok_use (switch_ at us) = ok_unders us
ok_use (start_ at us) = ok_unders us
ok_use (return_ at us) = ok_unders us
ok_use (case_ at us) = ok_unders us
ok_use (do_ at s us) = (stands 1 (about_statement s) ≡ true) × ok_unders us
ok_use (test_ at b us) = (all_fit (started b) ≡ true) × ok_unders us
ok_use (next_ at b t us) = (all_fit (started b) ≡ true) × (all_fit (maybe t) ≡ true) × ok_unders us
ok_use (size_ i) = ok_naming i
ok_use (value_ i z) = (all_fit (sized z) ≡ true) × ok_naming i
ok_use (list_ i z at es) = (all_fit (sized z) ≡ true) × (all_fit (trail argument es) ≡ true) × ok_naming i

-- ---- expressions

abbrev pub place : Frame → At
place (unary at o) = at
place (before at o) = at
place (cast at t) = at
place (binary a o) = place_of a
place (m.assign a o) = place_of a
place (question c) = place_of c
place (colon c a) = place_of c
place (comma a) = place_of a
place (paren at) = at
place (element at n) = at
place (arguments at n es) = at

-- the parts that stand before the wanted one
abbrev pub begun : Frame → List Part
begun (unary at o) = operator (unary_sign o) ∷ []
begun (before at o) = operator (step_sign o) ∷ []
begun (cast at t) = the_sign sign.LeftParen ∷ (type t ++ operator sign.RightParen ∷ [])
begun (binary a o) = sub (precedence o) (about a) ∷ operator (binary_sign o) ∷ []
begun (m.assign a o) = sub 14 (about a) ∷ operator (assign_sign o) ∷ []
begun (question c) = sub 3 (about c) ∷ operator sign.Question ∷ []
begun (colon c a) = sub 3 (about c) ∷ operator sign.Question ∷ expr (about a) ∷ the_sign sign.Colon ∷ []
begun (comma a) = expr (about a) ∷ operator sign.Comma ∷ []
begun (paren at) = the_sign sign.LeftParen ∷ []
begun (element at n) = name n ∷ the_sign sign.LeftBracket ∷ []
begun (arguments at n es) = name n ∷ the_sign sign.LeftParen ∷ trail argument es

abbrev pub base : Frame → List Frame → Use → ℕ
base (comma a) fs u = spot fs u
base f fs u = first fs u

abbrev pub made_level : Frame → ℕ
made_level (unary at o) = 14
made_level (before at o) = 14
made_level (cast at t) = 13
made_level (binary a o) = precedence o
made_level (m.assign a o) = 1
made_level (question c) = 2
made_level (colon c a) = 2
made_level (comma a) = 0
made_level _ = 16

abbrev pub text_frames : List Frame → Use → List Leaf → List Leaf
text_frames [] u r = text_use u r
text_frames (f ∷ fs) u r = text_frames fs u (leaves_at (place f) (begun f) (base f fs u) r)

abbrev pub ok_frames : List Frame → Use → Type 0
ok_frames [] u = ok_use u
ok_frames (f ∷ fs) u = (all_fit (begun f) ≡ true) × (hole fs u ≤ made_level f) × ok_frames fs u

abbrev pub use_low : Use → Bool
use_low (case_ at us) = false
use_low (size_ i) = false
use_low (value_ i z) = false
use_low (list_ i z at es) = false
use_low _ = true

-- any expression is wanted
abbrev pub low : List Frame → Use → Bool
low [] u = use_low u
low (question c ∷ fs) u = true
low (paren at ∷ fs) u = true
low (element at n ∷ fs) u = true
low (f ∷ fs) u = false

-- the nesting of the wanted expression's first word
abbrev pub lead : List Frame → Use → Said → ℕ
lead fs u S = if low fs u then entry (spot fs u) S else first fs u

-- what closes a bracket, or the rest of a conditional
abbrev pub ending : Frame → List Frame → Use → Expr → List Leaf → List Leaf
ending (question c) fs u e r = leaf (a_sign sign.Colon) None (behind (suc (first fs u + (about c).marks)) (about e)) ∷ leaf (a_name []) (Some (place_of c)) (behind (suc (first fs u + (about c).marks)) (about e)) ∷ r
ending (paren at) fs u e r = leaf (a_sign sign.RightParen) None (behind (first fs u) (about e)) ∷ r
ending (element at n) fs u e r = leaf (a_sign sign.RightBracket) None (behind (first fs u) (about e)) ∷ r
ending (arguments at n es) fs u e r = leaf (a_sign sign.RightParen) None (first fs u) ∷ r
ending _ fs u e r = r
