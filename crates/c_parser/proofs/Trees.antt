-- Induction on trees, a layer at a time.
use Rattle.std.proofs.Common.{◌≡◌, refl, sym, ap, subst, ◌∙◌, List, Option, Some, None, map}
use Rattle.c_tree.specs.declared.token.At.{At}
use Rattle.c_tree.specs.declared.syntax.Expr.{Expr, out-Expr}
use Rattle.c_tree.specs.declared.syntax.Expr.TheViews.{roll-Expr}
use Rattle.c_tree.specs.declared.syntax.Expr.TheVariants as tree
use denote.Hole.Carrier
use Rattle.std.specs.Prelude.{ℕ, ℤ, Bool}
use Rattle.c_tree.specs.declared.syntax.BinaryOperator.{BinaryOperator}
use Rattle.c_tree.specs.declared.syntax.AssignOperator.{AssignOperator}
use Rattle.c_tree.specs.declared.syntax.UnaryOperator.{UnaryOperator}
use Rattle.c_tree.specs.declared.syntax.StepOperator.{StepOperator}
use Rattle.c_tree.specs.declared.syntax.TypeWords.{TypeWords}
use Rattle.c_tree.specs.declared.syntax.Expr.TheOpen.{Expr-F, Comma, Assign, Conditional, Binary, Cast, Unary, Before, After, Name, Element, Call, Number, Character, Paren}
use Rattle.c_tree.specs.declared.syntax.Expr.TheFolds.{fold-roll-Expr, ind-Expr, map-Expr}
use Rattle.c_tree.specs.declared.syntax.Statement.{Statement}
use Rattle.c_tree.specs.declared.syntax.Statement.TheViews.{roll-Statement}
use Rattle.c_tree.specs.declared.syntax.Statement.TheOpen as s
use Rattle.c_tree.specs.declared.syntax.Statement.TheOpen.{Statement-F}
use Rattle.c_tree.specs.declared.syntax.Statement.TheVariants as tree_
use Rattle.c_tree.specs.declared.syntax.Declaration.{Declaration}
use Rattle.c_tree.specs.declared.syntax.Start.{Start}
use Rattle.c_tree.specs.declared.syntax.Statement.TheFolds.{fold-roll-Statement, ind-Statement, map-Statement}
use Rattle.c_grammar.specs.Phrases.{Said}
use Rattle.c_grammar.specs.Grammar.{expression, about, statement, about_statement}
use Rattle.c_parser.proofs.Asked.{place_of}

-- ---- expressions

pub record Layers (P : Expr → Type 0) : Type 0 where
  pub comma_ : (at : At) → (a : Expr) → (b : Expr) → P a → P b → P (tree.Comma at a b)
  pub assign_ : (at : At) → (a : Expr) → (o : AssignOperator) → (b : Expr) → P a → P b → P (tree.Assign at a o b)
  pub conditional_ : (at : At) → (a : Expr) → (b : Expr) → (c : Expr) → P a → P b → P c → P (tree.Conditional at a b c)
  pub binary_ : (at : At) → (a : Expr) → (o : BinaryOperator) → (b : Expr) → P a → P b → P (tree.Binary at a o b)
  pub cast_ : (at : At) → (t : TypeWords) → (a : Expr) → P a → P (tree.Cast at t a)
  pub unary_ : (at : At) → (o : UnaryOperator) → (a : Expr) → P a → P (tree.Unary at o a)
  pub before_ : (at : At) → (o : StepOperator) → (a : Expr) → P a → P (tree.Before at o a)
  pub after_ : (at : At) → (a : Expr) → (o : StepOperator) → P a → P (tree.After at a o)
  pub name_ : (at : At) → (n : List ℕ) → P (tree.Name at n)
  pub element_ : (at : At) → (n : List ℕ) → (a : Expr) → P a → P (tree.Element at n a)
  pub call_ : (at : At) → (n : List ℕ) → (es : List ((e : Expr) × P e)) → P (tree.Call at n (map (λ a. a.0) es))
  pub number_ : (at : At) → (v : ℕ) → (d : Bool) → (u : Bool) → P (tree.Number at v d u)
  pub character_ : (at : At) → (v : ℤ) → P (tree.Character at v)
  pub paren_ : (at : At) → (a : Expr) → P a → P (tree.Paren at a)

layer : (P : Expr → Type 0) → Layers P → (y : Expr-F ((e : Expr) × P e)) → P (roll-Expr (map-Expr ((e : Expr) × P e) Expr (λ a. a.0) y))
unfolding roll-Expr denote.Hole.Carrier.roll
layer P l (Comma at a b) = l.comma_ at a.0 b.0 a.1 b.1
layer P l (Assign at a o b) = l.assign_ at a.0 o b.0 a.1 b.1
layer P l (Conditional at a b c) = l.conditional_ at a.0 b.0 c.0 a.1 b.1 c.1
layer P l (Binary at a o b) = l.binary_ at a.0 o b.0 a.1 b.1
layer P l (Cast at t a) = l.cast_ at t a.0 a.1
layer P l (Unary at o a) = l.unary_ at o a.0 a.1
layer P l (Before at o a) = l.before_ at o a.0 a.1
layer P l (After at a o) = l.after_ at a.0 o a.1
layer P l (Name at n) = l.name_ at n
layer P l (Element at n a) = l.element_ at n a.0 a.1
layer P l (Call at n es) = l.call_ at n es
layer P l (Number at v d u) = l.number_ at v d u
layer P l (Character at v) = l.character_ at v
layer P l (Paren at a) = l.paren_ at a.0 a.1

pub induction : (P : Expr → Type 0) → Layers P → (e : Expr) → P e
induction P l = ind-Expr P (λ x y is. subst (λ w. P (roll-Expr w)) is (layer P l y))

about_roll : (y : Expr-F Expr) → about (roll-Expr y) ≡ expression (map-Expr Expr Said about y)
about_roll y = fold-roll-Expr Said expression y

pub said_comma : (at : At) (a : Expr) (b : Expr) → about (tree.Comma at a b) ≡ expression (Comma at (about a) (about b))
unfolding roll-Expr denote.Hole.Carrier.roll
said_comma at a b = about_roll (Comma at a b)

pub said_assign : (at : At) (a : Expr) (o : AssignOperator) (b : Expr) → about (tree.Assign at a o b) ≡ expression (Assign at (about a) o (about b))
unfolding roll-Expr denote.Hole.Carrier.roll
said_assign at a o b = about_roll (Assign at a o b)

pub said_conditional : (at : At) (a : Expr) (b : Expr) (c : Expr) → about (tree.Conditional at a b c) ≡ expression (Conditional at (about a) (about b) (about c))
unfolding roll-Expr denote.Hole.Carrier.roll
said_conditional at a b c = about_roll (Conditional at a b c)

pub said_binary : (at : At) (a : Expr) (o : BinaryOperator) (b : Expr) → about (tree.Binary at a o b) ≡ expression (Binary at (about a) o (about b))
unfolding roll-Expr denote.Hole.Carrier.roll
said_binary at a o b = about_roll (Binary at a o b)

pub said_cast : (at : At) (t : TypeWords) (a : Expr) → about (tree.Cast at t a) ≡ expression (Cast at t (about a))
unfolding roll-Expr denote.Hole.Carrier.roll
said_cast at t a = about_roll (Cast at t a)

pub said_unary : (at : At) (o : UnaryOperator) (a : Expr) → about (tree.Unary at o a) ≡ expression (Unary at o (about a))
unfolding roll-Expr denote.Hole.Carrier.roll
said_unary at o a = about_roll (Unary at o a)

pub said_before : (at : At) (o : StepOperator) (a : Expr) → about (tree.Before at o a) ≡ expression (Before at o (about a))
unfolding roll-Expr denote.Hole.Carrier.roll
said_before at o a = about_roll (Before at o a)

pub said_after : (at : At) (a : Expr) (o : StepOperator) → about (tree.After at a o) ≡ expression (After at (about a) o)
unfolding roll-Expr denote.Hole.Carrier.roll
said_after at a o = about_roll (After at a o)

pub said_name : (at : At) (n : List ℕ) → about (tree.Name at n) ≡ expression (Name at n)
unfolding roll-Expr denote.Hole.Carrier.roll
said_name at n = about_roll (Name at n)

pub said_element : (at : At) (n : List ℕ) (a : Expr) → about (tree.Element at n a) ≡ expression (Element at n (about a))
unfolding roll-Expr denote.Hole.Carrier.roll
said_element at n a = about_roll (Element at n a)

pub said_call : (at : At) (n : List ℕ) (es : List Expr) → about (tree.Call at n es) ≡ expression (Call at n (map about es))
unfolding roll-Expr denote.Hole.Carrier.roll
said_call at n es = about_roll (Call at n es)

pub said_number : (at : At) (v : ℕ) (d : Bool) (u : Bool) → about (tree.Number at v d u) ≡ expression (Number at v d u)
unfolding roll-Expr denote.Hole.Carrier.roll
said_number at v d u = about_roll (Number at v d u)

pub said_character : (at : At) (v : ℤ) → about (tree.Character at v) ≡ expression (Character at v)
unfolding roll-Expr denote.Hole.Carrier.roll
said_character at v = about_roll (Character at v)

pub said_paren : (at : At) (a : Expr) → about (tree.Paren at a) ≡ expression (Paren at (about a))
unfolding roll-Expr denote.Hole.Carrier.roll
said_paren at a = about_roll (Paren at a)

pub place_comma : (at : At) (a : Expr) (b : Expr) → place_of (tree.Comma at a b) ≡ at
unfolding out-Expr denote.Hole.Carrier.out
place_comma at a b = refl

pub place_assign : (at : At) (a : Expr) (o : AssignOperator) (b : Expr) → place_of (tree.Assign at a o b) ≡ at
unfolding out-Expr denote.Hole.Carrier.out
place_assign at a o b = refl

pub place_conditional : (at : At) (a : Expr) (b : Expr) (c : Expr) → place_of (tree.Conditional at a b c) ≡ at
unfolding out-Expr denote.Hole.Carrier.out
place_conditional at a b c = refl

pub place_binary : (at : At) (a : Expr) (o : BinaryOperator) (b : Expr) → place_of (tree.Binary at a o b) ≡ at
unfolding out-Expr denote.Hole.Carrier.out
place_binary at a o b = refl

pub place_cast : (at : At) (t : TypeWords) (a : Expr) → place_of (tree.Cast at t a) ≡ at
unfolding out-Expr denote.Hole.Carrier.out
place_cast at t a = refl

pub place_unary : (at : At) (o : UnaryOperator) (a : Expr) → place_of (tree.Unary at o a) ≡ at
unfolding out-Expr denote.Hole.Carrier.out
place_unary at o a = refl

pub place_before : (at : At) (o : StepOperator) (a : Expr) → place_of (tree.Before at o a) ≡ at
unfolding out-Expr denote.Hole.Carrier.out
place_before at o a = refl

pub place_after : (at : At) (a : Expr) (o : StepOperator) → place_of (tree.After at a o) ≡ at
unfolding out-Expr denote.Hole.Carrier.out
place_after at a o = refl

pub place_name : (at : At) (n : List ℕ) → place_of (tree.Name at n) ≡ at
unfolding out-Expr denote.Hole.Carrier.out
place_name at n = refl

pub place_element : (at : At) (n : List ℕ) (a : Expr) → place_of (tree.Element at n a) ≡ at
unfolding out-Expr denote.Hole.Carrier.out
place_element at n a = refl

pub place_call : (at : At) (n : List ℕ) (es : List Expr) → place_of (tree.Call at n es) ≡ at
unfolding out-Expr denote.Hole.Carrier.out
place_call at n es = refl

pub place_number : (at : At) (v : ℕ) (d : Bool) (u : Bool) → place_of (tree.Number at v d u) ≡ at
unfolding out-Expr denote.Hole.Carrier.out
place_number at v d u = refl

pub place_character : (at : At) (v : ℤ) → place_of (tree.Character at v) ≡ at
unfolding out-Expr denote.Hole.Carrier.out
place_character at v = refl

pub place_paren : (at : At) (a : Expr) → place_of (tree.Paren at a) ≡ at
unfolding out-Expr denote.Hole.Carrier.out
place_paren at a = refl

pub at_of : (e : Expr) → (about e).at ≡ Some (place_of e)
at_of = induction (λ e. (about e).at ≡ Some (place_of e)) (record {
  comma_ = λ at a b _ _. ap (λ (s : Said). s.at) (said_comma at a b) ∙ ap (λ (p : At). Some p) (sym (place_comma at a b));
  assign_ = λ at a o b _ _. ap (λ (s : Said). s.at) (said_assign at a o b) ∙ ap (λ (p : At). Some p) (sym (place_assign at a o b));
  conditional_ = λ at a b c _ _ _. ap (λ (s : Said). s.at) (said_conditional at a b c) ∙ ap (λ (p : At). Some p) (sym (place_conditional at a b c));
  binary_ = λ at a o b _ _. ap (λ (s : Said). s.at) (said_binary at a o b) ∙ ap (λ (p : At). Some p) (sym (place_binary at a o b));
  cast_ = λ at t a _. ap (λ (s : Said). s.at) (said_cast at t a) ∙ ap (λ (p : At). Some p) (sym (place_cast at t a));
  unary_ = λ at o a _. ap (λ (s : Said). s.at) (said_unary at o a) ∙ ap (λ (p : At). Some p) (sym (place_unary at o a));
  before_ = λ at o a _. ap (λ (s : Said). s.at) (said_before at o a) ∙ ap (λ (p : At). Some p) (sym (place_before at o a));
  after_ = λ at a o _. ap (λ (s : Said). s.at) (said_after at a o) ∙ ap (λ (p : At). Some p) (sym (place_after at a o));
  name_ = λ at n. ap (λ (s : Said). s.at) (said_name at n) ∙ ap (λ (p : At). Some p) (sym (place_name at n));
  element_ = λ at n a _. ap (λ (s : Said). s.at) (said_element at n a) ∙ ap (λ (p : At). Some p) (sym (place_element at n a));
  call_ = λ at n es. ap (λ (s : Said). s.at) (said_call at n (map (λ a. a.0) es)) ∙ ap (λ (p : At). Some p) (sym (place_call at n (map (λ a. a.0) es)));
  number_ = λ at v d u. ap (λ (s : Said). s.at) (said_number at v d u) ∙ ap (λ (p : At). Some p) (sym (place_number at v d u));
  character_ = λ at v. ap (λ (s : Said). s.at) (said_character at v) ∙ ap (λ (p : At). Some p) (sym (place_character at v));
  paren_ = λ at a _. ap (λ (s : Said). s.at) (said_paren at a) ∙ ap (λ (p : At). Some p) (sym (place_paren at a));
})

-- ---- statements

pub record Statements (P : Statement → Type 0) : Type 0 where
  pub block_ : (at : At) → (ss : List ((s : Statement) × P s)) → P (tree_.Block at (map (λ a. a.0) ss))
  pub declared_ : (d : Declaration) → P (tree_.Declared d)
  pub evaluate_ : (at : At) → (e : Option Expr) → P (tree_.Evaluate at e)
  pub if_ : (at : At) (e : Expr) (a : Statement) → P a → P (tree_.If at e a None)
  pub if_else : (at : At) (e : Expr) (a b : Statement) → P a → P b → P (tree_.If at e a (Some b))
  pub while_ : (at : At) → (e : Expr) → (a : Statement) → P a → P (tree_.While at e a)
  pub dowhile_ : (at : At) → (a : Statement) → (e : Expr) → P a → P (tree_.DoWhile at a e)
  pub for_ : (at : At) → (b : Start) → (t : Option Expr) → (n : Option Expr) → (a : Statement) → P a → P (tree_.For at b t n a)
  pub switch_ : (at : At) → (e : Expr) → (ss : List ((s : Statement) × P s)) → P (tree_.Switch at e (map (λ a. a.0) ss))
  pub case_ : (at : At) → (e : Expr) → (a : Statement) → P a → P (tree_.Case at e a)
  pub default_ : (at : At) → (a : Statement) → P a → P (tree_.Default at a)
  pub break_ : (at : At) → P (tree_.Break at)
  pub continue_ : (at : At) → P (tree_.Continue at)
  pub return_ : (at : At) → (e : Option Expr) → P (tree_.Return at e)

stat_layer : (P : Statement → Type 0) → Statements P → (y : Statement-F ((s : Statement) × P s)) → P (roll-Statement (map-Statement ((s : Statement) × P s) Statement (λ a. a.0) y))
unfolding roll-Statement denote.Hole.Carrier.roll
stat_layer P l (s.Block at ss) = l.block_ at ss
stat_layer P l (s.Declared d) = l.declared_ d
stat_layer P l (s.Evaluate at e) = l.evaluate_ at e
stat_layer P l (s.If at e a None) = l.if_ at e a.0 a.1
stat_layer P l (s.If at e a (Some b)) = l.if_else at e a.0 b.0 a.1 b.1
stat_layer P l (s.While at e a) = l.while_ at e a.0 a.1
stat_layer P l (s.DoWhile at a e) = l.dowhile_ at a.0 e a.1
stat_layer P l (s.For at b t n a) = l.for_ at b t n a.0 a.1
stat_layer P l (s.Switch at e ss) = l.switch_ at e ss
stat_layer P l (s.Case at e a) = l.case_ at e a.0 a.1
stat_layer P l (s.Default at a) = l.default_ at a.0 a.1
stat_layer P l (s.Break at) = l.break_ at
stat_layer P l (s.Continue at) = l.continue_ at
stat_layer P l (s.Return at e) = l.return_ at e

pub stat_induction : (P : Statement → Type 0) → Statements P → (e : Statement) → P e
stat_induction P l = ind-Statement P (λ x y is. subst (λ w. P (roll-Statement w)) is (stat_layer P l y))

stat_roll : (y : Statement-F Statement) → about_statement (roll-Statement y) ≡ statement (map-Statement Statement Said about_statement y)
stat_roll y = fold-roll-Statement Said statement y

pub told_block : (at : At) (ss : List Statement) → about_statement (tree_.Block at ss) ≡ statement (s.Block at (map about_statement ss))
unfolding roll-Statement denote.Hole.Carrier.roll
told_block at ss = stat_roll (s.Block at ss)

pub told_declared : (d : Declaration) → about_statement (tree_.Declared d) ≡ statement (s.Declared d)
unfolding roll-Statement denote.Hole.Carrier.roll
told_declared d = stat_roll (s.Declared d)

pub told_evaluate : (at : At) (e : Option Expr) → about_statement (tree_.Evaluate at e) ≡ statement (s.Evaluate at e)
unfolding roll-Statement denote.Hole.Carrier.roll
told_evaluate at e = stat_roll (s.Evaluate at e)

pub told_if : (at : At) (e : Expr) (a : Statement) → about_statement (tree_.If at e a None) ≡ statement (s.If at e (about_statement a) None)
unfolding roll-Statement denote.Hole.Carrier.roll
told_if at e a = stat_roll (s.If at e a None)

pub told_if_else : (at : At) (e : Expr) (a b : Statement) → about_statement (tree_.If at e a (Some b)) ≡ statement (s.If at e (about_statement a) (Some (about_statement b)))
unfolding roll-Statement denote.Hole.Carrier.roll
told_if_else at e a b = stat_roll (s.If at e a (Some b))

pub told_while : (at : At) (e : Expr) (a : Statement) → about_statement (tree_.While at e a) ≡ statement (s.While at e (about_statement a))
unfolding roll-Statement denote.Hole.Carrier.roll
told_while at e a = stat_roll (s.While at e a)

pub told_dowhile : (at : At) (a : Statement) (e : Expr) → about_statement (tree_.DoWhile at a e) ≡ statement (s.DoWhile at (about_statement a) e)
unfolding roll-Statement denote.Hole.Carrier.roll
told_dowhile at a e = stat_roll (s.DoWhile at a e)

pub told_for : (at : At) (b : Start) (t : Option Expr) (n : Option Expr) (a : Statement) → about_statement (tree_.For at b t n a) ≡ statement (s.For at b t n (about_statement a))
unfolding roll-Statement denote.Hole.Carrier.roll
told_for at b t n a = stat_roll (s.For at b t n a)

pub told_switch : (at : At) (e : Expr) (ss : List Statement) → about_statement (tree_.Switch at e ss) ≡ statement (s.Switch at e (map about_statement ss))
unfolding roll-Statement denote.Hole.Carrier.roll
told_switch at e ss = stat_roll (s.Switch at e ss)

pub told_case : (at : At) (e : Expr) (a : Statement) → about_statement (tree_.Case at e a) ≡ statement (s.Case at e (about_statement a))
unfolding roll-Statement denote.Hole.Carrier.roll
told_case at e a = stat_roll (s.Case at e a)

pub told_default : (at : At) (a : Statement) → about_statement (tree_.Default at a) ≡ statement (s.Default at (about_statement a))
unfolding roll-Statement denote.Hole.Carrier.roll
told_default at a = stat_roll (s.Default at a)

pub told_break : (at : At) → about_statement (tree_.Break at) ≡ statement (s.Break at)
unfolding roll-Statement denote.Hole.Carrier.roll
told_break at = stat_roll (s.Break at)

pub told_continue : (at : At) → about_statement (tree_.Continue at) ≡ statement (s.Continue at)
unfolding roll-Statement denote.Hole.Carrier.roll
told_continue at = stat_roll (s.Continue at)

pub told_return : (at : At) (e : Option Expr) → about_statement (tree_.Return at e) ≡ statement (s.Return at e)
unfolding roll-Statement denote.Hole.Carrier.roll
told_return at e = stat_roll (s.Return at e)
