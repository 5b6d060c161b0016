-- An expression that breaks no rule has a typed tree.
use Rattle.std.proofs.Common.{◌≡◌, ℕ, Bool, true, false, ◌&&◌, ◌||◌, not, Option, Some, None, List, [], ◌∷◌, map, length, slice_get, refl, sym, subst, ◌∙◌, if◌then◌else◌, ◌==◌}
use Rattle.std.proofs.lemmas.Bool.{true≢false}
use Rattle.c_tree.proofs.ExprFolds.{With, expr_keeps}
use Rattle.c_tree.specs.declared.token.At.{At}
use Rattle.c_tree.specs.declared.types.CType.{CType}
use Rattle.c_tree.specs.declared.types.CType.TheVariants as type
use Rattle.c_tree.specs.declared.syntax.Expr.{Expr}
use Rattle.c_tree.specs.declared.syntax.AssignOperator.TheVariants as assign
use Rattle.c_tree.specs.declared.syntax.Expr.TheOpen.{Expr-F, Comma, Assign, Conditional, Binary, Cast, Unary, Before, After, Name, Element, Call, Number, Character, Paren}
use Rattle.c_tree.specs.declared.syntax.Expr.TheFolds.{map-Expr}
use Rattle.c_tree.specs.declared.typed.Callee.{Callee}
use Rattle.c_tree.specs.declared.typed.TypedExpr.{TypedExpr}
use Rattle.c_tree.specs.Heads.{head_of}
use Rattle.c_typing.specs.declared.names.Meaning.{Meaning}
use Rattle.c_typing.specs.declared.names.Meaning.TheVariants as means
use Rattle.c_typing.specs.declared.names.Signature.{Signature}
use Rattle.c_typing.specs.declared.names.Typing.{Typing}
use Rattle.c_typing.specs.declared.names.Usage.TheVariants as usage
use Rattle.c_typing.specs.Faults.{clean}
use Rattle.c_typing.specs.Types.{same_type}
use Rattle.c_typing.specs.Expressions.{Setting, Judged, expression, judge, meaning_at, used, assigned, is_sound, is_void, is_value, is_mixed, void_beside, is_no_place, unless, broken_if, broken_by, misuse, wants, if_proper, one, two, three, object_tree, element_tree, signature_of, call_to, call_of, call_tree, undefined, all_sound, faults_of, number}

-- where no rule is broken there is a tree
record Good (j : Judged) : Type 0 where
  has : clean j.faults ≡ true → is_sound j.seen.tree ≡ true

pub no : {A : Type 0} → false ≡ true → A
no e = absurd (true≢false (sym e))

pub left_of : (a b : Bool) → (a && b) ≡ true → a ≡ true
left_of true b e = refl
left_of false b e = no e

pub right_of : (a b : Bool) → (a && b) ≡ true → b ≡ true
right_of true b e = e
right_of false b e = no e

pub if_kept : {A : Type 0} (b : Bool) (rule : ℕ) (at : At) (x : Option A) → clean (broken_if b rule at) ≡ true → is_sound x ≡ true → is_sound (unless b x) ≡ true
if_kept true rule at x e h = no e
if_kept false rule at x e h = h

used_good : (a : Judged) → Good a → Good (used a)
used_good a g = record { has = λ e. if_kept (is_void a.seen.tree) 24 a.seen.at a.seen.tree (right_of _ _ e) (g.has (left_of _ _ e)) }

assigned_good : (a : Judged) → Good a → Good (assigned a)
assigned_good a g =
    let u = used_good a g in
    record { has = λ e. if_kept (is_no_place (used a).seen.tree) 25 a.seen.at (used a).seen.tree (right_of _ _ e) (u.has (left_of _ _ e)) }

pub one_sound : {A B : Type 0} (f : A → B) (x : Option A) → is_sound x ≡ true → is_sound (one f x) ≡ true
one_sound f None h = no h
one_sound f (Some a) h = refl

pub two_sound : {A B C : Type 0} (f : A → B → C) (x : Option A) (y : Option B) → is_sound x ≡ true → is_sound y ≡ true → is_sound (two f x y) ≡ true
two_sound f None y h k = no h
two_sound f (Some a) y h k = one_sound (f a) y k

pub three_sound : {A B C D : Type 0} (f : A → B → C → D) (x : Option A) (y : Option B) (z : Option C) → is_sound x ≡ true → is_sound y ≡ true → is_sound z ≡ true → is_sound (three f x y z) ≡ true
three_sound f None y z h k l = no h
three_sound f (Some a) None z h k l = no k
three_sound f (Some a) (Some b) None h k l = no l
three_sound f (Some a) (Some b) (Some c) h k l = refl

object_good : (w : ℕ) (ss : List Signature) (at : At) (m : Option Meaning) → clean (broken_by (misuse ss m usage.Object) at) ≡ true → is_sound (object_tree w at m) ≡ true
object_good w ss at None e = no e
object_good w ss at (Some (means.Scalar v t)) e = refl
object_good w ss at (Some (means.Array v t k)) e = no e
object_good w ss at (Some (means.Function f)) e = no e
object_good w ss at (Some means.EndOfFile) e = refl

element_good : (ss : List Signature) (at : At) (m : Option Meaning) (i : Option TypedExpr) → clean (broken_by (misuse ss m usage.Array) at) ≡ true → is_sound i ≡ true → is_sound (element_tree at m i) ≡ true
element_good ss at None i e h = no e
element_good ss at (Some (means.Scalar v t)) i e h = no e
element_good ss at (Some (means.Array v t k)) i e h = one_sound _ i h
element_good ss at (Some (means.Function f)) i e h = no e
element_good ss at (Some means.EndOfFile) i e h = no e

defined_good : (at : At) (t : CType) (f : Option Callee) (es : List TypedExpr) → clean (broken_by (undefined f) at) ≡ true → is_sound (if_proper (undefined f) (call_to at t f es)) ≡ true
defined_good at t None es e = no e
defined_good at t (Some f) es e = refl

called_good : (at : At) (s : Option Signature) (n : ℕ) (es : List TypedExpr) → clean (broken_by (wants s n) at) ≡ true → is_sound (if_proper (wants s n) (call_of at s es)) ≡ true
called_good at None n es e = no e
called_good at (Some s) n es e = by (length s.params == n) e
  where
    by : (b : Bool) → clean (broken_by (if b then undefined s.callee else Some 23) at) ≡ true → is_sound (if_proper (if b then undefined s.callee else Some 23) (call_of at (Some s) es)) ≡ true
    by true e = defined_good at s.result s.callee es e
    by false e = no e

call_good : (ss : List Signature) (at : At) (m : Option Meaning) (n : ℕ) (b : Bool) (es : List TypedExpr) → clean (broken_by (misuse ss m (usage.Function n)) at) ≡ true → b ≡ true
    → is_sound (if_proper (misuse ss m (usage.Function n)) (unless (not b) (call_tree at m (signature_of ss m) es))) ≡ true
call_good ss at m n false es e h = no h
call_good ss at None n true es e h = no e
call_good ss at (Some (means.Scalar v t)) n true es e h = no e
call_good ss at (Some (means.Array v t k)) n true es e h = no e
call_good ss at (Some means.EndOfFile) n true es e h = no e
call_good ss at (Some (means.Function f)) n true es e h = called_good at (slice_get ss f) n es e

both_true : (a b : Bool) → a ≡ true → b ≡ true → (a && b) ≡ true
both_true true b h k = k
both_true false b h k = no h

args_good : (as_ : List (With Good)) → clean (faults_of (map (λ e. e.0) as_)) ≡ true → all_sound (map (λ e. e.0) as_) ≡ true
args_good [] e = refl
args_good (a ∷ as_) e = both_true _ _ ((used_good a.0 a.1).has (left_of _ _ e)) (args_good as_ (right_of _ _ e))

number_good : (at : At) (v : ℕ) (t : Option CType) → Good (number at v t)
number_good at v None = record { has = λ e. no e }
number_good at v (Some t) = record { has = λ e. refl }

-- two last operands of `?:` of which none is void beside a value
mixed_kept : (v w : Bool) (p q : At) (x : Option TypedExpr) → clean (broken_if v 24 p) ≡ true → clean (broken_if w 24 q) ≡ true → is_sound x ≡ true → is_sound (unless (v || w) x) ≡ true
mixed_kept true w p q x e h k = no e
mixed_kept false true p q x e h k = no h
mixed_kept false false p q x e h k = k

swapped : (a b : Bool) → (a && b) ≡ (b && a)
swapped true true = refl
swapped true false = refl
swapped false true = refl
swapped false false = refl

beside_kept : (b d : Typing) (x : Option TypedExpr) → clean (void_beside b d) ≡ true → clean (void_beside d b) ≡ true → is_sound x ≡ true → is_sound (unless (is_mixed b.tree d.tree) x) ≡ true
beside_kept b d x e h k =
    let f : clean (broken_if (is_value b.tree && is_void d.tree) 24 d.at) ≡ true = subst (λ v. clean (broken_if v 24 d.at) ≡ true) (swapped (is_void d.tree) (is_value b.tree)) h in
    mixed_kept (is_void b.tree && is_value d.tree) (is_value b.tree && is_void d.tree) b.at d.at x e f k

module _ (c : Setting) where
  step : (y : Expr-F (With Good)) → Good (expression c (map-Expr (With Good) Judged (λ e. e.0) y))
  step (Name at n) = record { has = object_good c.within.bits c.within.signatures at (meaning_at c n) }
  step (Element at n a) = record { has = λ e. element_good c.within.signatures at (meaning_at c n) _ (left_of _ _ e) ((used_good a.0 a.1).has (right_of _ _ e)) }
  step (Call at n as_) = record { has = λ e. call_good c.within.signatures at (meaning_at c n) _ _ _ (left_of _ _ e) (args_good as_ (right_of _ _ e)) }
  step (Number at v d u) = number_good at v _
  step (Character at v) = record { has = λ e. refl }
  step (Comma at a b) = record { has = λ e. two_sound _ _ _ (a.1.has (left_of _ _ e)) (b.1.has (right_of _ _ e)) }
  step (Binary at a o b) = record { has = λ e. two_sound _ _ _ ((used_good a.0 a.1).has (left_of _ _ e)) ((used_good b.0 b.1).has (right_of _ _ e)) }
  step (Conditional at a b d) = record {
    has = λ e.
        let l1 = left_of _ _ e in let l2 = left_of _ _ l1 in let l3 = left_of _ _ l2 in
        beside_kept b.0.seen d.0.seen _ (right_of _ _ l1) (right_of _ _ e)
        (three_sound _ _ _ _ ((used_good a.0 a.1).has (left_of _ _ l3)) (b.1.has (right_of _ _ l3)) (d.1.has (right_of _ _ l2)));
  }
  step (Assign at a assign.Plain b) = record { has = λ e. two_sound _ _ _ ((assigned_good a.0 a.1).has (left_of _ _ e)) ((used_good b.0 b.1).has (right_of _ _ e)) }
  step (Assign at a (assign.Compound o) b) = record { has = λ e. two_sound _ _ _ ((assigned_good a.0 a.1).has (left_of _ _ e)) ((used_good b.0 b.1).has (right_of _ _ e)) }
  step (Cast at t a) = record { has = λ e. one_sound _ _ ((used_good a.0 a.1).has e) }
  step (Unary at o a) = record { has = λ e. one_sound _ _ ((used_good a.0 a.1).has e) }
  step (Before at o a) = record { has = λ e. one_sound _ _ ((assigned_good a.0 a.1).has e) }
  step (After at a o) = record { has = λ e. one_sound _ _ ((assigned_good a.0 a.1).has e) }
  step (Paren at a) = record { has = a.1.has }

pub has_tree : (c : Setting) (e : Expr) → clean (judge c e).faults ≡ true → is_sound (judge c e).seen.tree ≡ true
has_tree c e = (expr_keeps Judged (expression c) Good (step c) e).has
