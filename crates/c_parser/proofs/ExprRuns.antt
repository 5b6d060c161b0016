-- The machine over the words of an expression comes to have that expression.
use denote.Enum.Bare.{same_true}
use Rattle.c_grammar.specs.contracts.sign.Sign.{the_type}
use Rattle.std.proofs.Common.{rules, ◌≡◌, ℕ, suc, ◌<◌, ◌≤◌, Bool, true, false, cond, nat_le, ◌&&◌, List, [], ◌∷◌, map, None, refl, sym, ap, subst, ◌∙◌, arith}
use Rattle.std.proofs.lemmas.Bool.{and_parts, leb-true, le-leb, and_from}
use Rattle.std.proofs.lemmas.Bool.Decides.{nat_tests}
use Rattle.c_tree.specs.declared.token.At.{At}
use Rattle.c_tree.specs.declared.syntax.BinaryOperator.{BinaryOperator}
use Rattle.c_tree.specs.declared.syntax.BinaryOperator.TheVariants as binary_
use Rattle.c_tree.specs.declared.syntax.Arithmetic.TheVariants as arithmetic_
use Rattle.c_tree.specs.declared.syntax.AssignOperator.{AssignOperator}
use Rattle.c_tree.specs.declared.syntax.AssignOperator.TheVariants as assign_
use Rattle.c_tree.specs.declared.syntax.UnaryOperator.{UnaryOperator}
use Rattle.c_tree.specs.declared.syntax.UnaryOperator.TheVariants as unary_
use Rattle.c_tree.specs.declared.syntax.StepOperator.{StepOperator}
use Rattle.c_tree.specs.declared.syntax.StepOperator.TheVariants as step_
use Rattle.c_tree.specs.declared.syntax.Expr.{Expr}
use Rattle.c_grammar.specs.declared.sign.Sign.{Sign}
use Rattle.c_grammar.specs.declared.sign.Sign.TheVariants as sign
use Rattle.c_grammar.specs.Words.{Word, a_name, a_number, a_character, a_sign, sign_of_word}
use Rattle.c_grammar.specs.Operators.{precedence, binary_sign, assign_sign, unary_sign, step_sign}
use Rattle.c_grammar.specs.Phrases.{Leaf, Said, stands, is_at, same_place, entry}
use Rattle.c_grammar.specs.Grammar.{about}
use Rattle.c_reading.specs.Parsers.{same}
use Rattle.c_parser.proofs.Asked.{place_of, type_of}
use Rattle.c_parser.proofs.Machine as m
use Rattle.c_parser.proofs.Machine.{State, operand, have, named, opened, casting, Frame, Use, step, run, Outcome, Next, goes, moved, hole, opens, entered, spot, first, Op, op_of, own, left, is_op, takes, push, fill, shut, offer, close_use}
use Rattle.c_parser.proofs.Trees.{at_of, induction, said_comma, said_assign, said_conditional, said_binary, said_cast, said_unary, said_before, said_after, said_name, said_element, said_call, said_number, said_character, said_paren}
use Rattle.c_parser.proofs.Runs.{head_sign, starts}

-- ---- what fits

pub record Left (at : At) (k : ℕ) (a : Expr) (more : Bool) : Type 0 where
  pub place : at ≡ place_of a
  pub level : k ≤ (about a).level
  pub fits : (about a).fits ≡ true
  pub rest : more ≡ true

pub record Fit (k : ℕ) (a : Expr) (more : Bool) : Type 0 where
  pub level : k ≤ (about a).level
  pub fits : (about a).fits ≡ true
  pub rest : more ≡ true

pub same_at : (a b : At) → same_place a b ≡ true → a ≡ b
same_at a b e = let l : a.line ≡ b.line = grind (arith, nat_tests, e) in let c : a.column ≡ b.column = grind (arith, nat_tests, e) in λ i. record { line = l i; column = c i }

pub placed : (at : At) (a : Expr) → is_at at (about a).at ≡ true → at ≡ place_of a
placed at a e = same_at at (place_of a) (subst (λ o. is_at at o ≡ true) (at_of a) e)

pub fit : (k : ℕ) (a : Expr) (more : Bool) → (stands k (about a) && more) ≡ true → Fit k a more
fit k a more e = let p = and_parts (stands k (about a)) more e in let q = and_parts (nat_le k (about a).level) (about a).fits p.0 in record { level = leb-true k _ q.0; fits = q.1; rest = p.1 }

pub left_fit : (at : At) (k : ℕ) (a : Expr) (more : Bool) → (is_at at (about a).at && (stands k (about a) && more)) ≡ true → Left at k a more
left_fit at k a more e = let p = and_parts (is_at at (about a).at) _ e in let f = fit k a more p.1 in record { place = placed at a p.0; level = f.level; fits = f.fits; rest = f.rest }

-- ---- which operators reach over a tree

abbrev pub bound : Op → ℕ
bound m.closes = 0
bound o = suc (own o)

abbrev pub binds : Sign → ℕ
binds sign.LeftParen = 17
binds sign.LeftBracket = 17
binds s = bound (op_of s)

pub record Follow (l : ℕ) (r : List Leaf) : Type 0 where
  pub top : binds (head_sign r) ≤ 16
  pub cast : l ≤ 14 → binds (head_sign r) ≤ 13
  pub mid : l ≤ 12 → binds (head_sign r) ≤ suc l
  pub two : l ≤ 2 → binds (head_sign r) ≤ 2
  pub one : l ≤ 1 → binds (head_sign r) ≤ 1

pub follow_up : (k l : ℕ) (r : List Leaf) → k ≤ l → Follow k r → Follow l r
follow_up k l r le f = record {
  top = f.top;
  cast = λ h. omega (arith, f.cast, le, h);
  mid = λ h. omega (arith, f.mid, le, h);
  two = λ h. omega (arith, f.two, le, h);
  one = λ h. omega (arith, f.one, le, h);
}

-- a sign that reaches over nothing
pub follow_none : (l : ℕ) (r : List Leaf) → binds (head_sign r) ≡ 0 → Follow l r
follow_none l r e = record { top = omega (arith, e); cast = λ h. omega (arith, e); mid = λ h. omega (arith, e); two = λ h. omega (arith, e); one = λ h. omega (arith, e) }

pub follow_comma : (l : ℕ) (r : List Leaf) → binds (head_sign r) ≡ 1 → Follow l r
follow_comma l r e = record { top = omega (arith, e); cast = λ h. omega (arith, e); mid = λ h. omega (arith, e); two = λ h. omega (arith, e); one = λ h. omega (arith, e) }

pub prec_low : (o : BinaryOperator) → 3 ≤ precedence o
prec_low binary_.LogicalOr = omega arith
prec_low binary_.LogicalAnd = omega arith
prec_low binary_.Or = omega arith
prec_low binary_.Xor = omega arith
prec_low binary_.And = omega arith
prec_low binary_.Equal = omega arith
prec_low binary_.NotEqual = omega arith
prec_low binary_.Less = omega arith
prec_low binary_.Greater = omega arith
prec_low binary_.LessEqual = omega arith
prec_low binary_.GreaterEqual = omega arith
prec_low _ = omega arith

pub prec_high : (o : BinaryOperator) → precedence o ≤ 12
prec_high binary_.LogicalOr = omega arith
prec_high _ = omega arith

pub binary_op : (o : BinaryOperator) → op_of (binary_sign o) ≡ m.joins o
binary_op binary_.LogicalOr = refl
binary_op _ = refl

pub assign_op : (o : AssignOperator) → op_of (assign_sign o) ≡ m.assigns o
assign_op assign_.Plain = refl
assign_op (assign_.Compound arithmetic_.Add) = refl
assign_op (assign_.Compound _) = refl

pub step_op : (o : StepOperator) → op_of (step_sign o) ≡ m.steps o
step_op step_.Increment = refl
step_op step_.Decrement = refl

pub binary_binds : (o : BinaryOperator) → binds (binary_sign o) ≡ suc (precedence o)
binary_binds binary_.LogicalOr = refl
binary_binds _ = refl

pub assign_binds : (o : AssignOperator) → binds (assign_sign o) ≡ 2
assign_binds assign_.Plain = refl
assign_binds (assign_.Compound arithmetic_.Add) = refl
assign_binds (assign_.Compound _) = refl

pub step_binds : (o : StepOperator) → binds (step_sign o) ≡ 16
step_binds step_.Increment = refl
step_binds step_.Decrement = refl

bound_own : (o : Op) (k : ℕ) → 1 ≤ k → bound o ≤ k → own o < k
bound_own m.closes k one le = omega arith
bound_own (m.joins o) k one le = omega arith
bound_own (m.assigns o) k one le = omega arith
bound_own (m.steps o) k one le = omega arith
bound_own m.asks k one le = omega arith
bound_own m.commas k one le = omega arith

pub under : (s : Sign) (k : ℕ) → 1 ≤ k → k ≤ 16 → binds s ≤ k → own (op_of s) < k
under sign.LeftParen k one high le = absurd (omega arith)
under sign.LeftBracket k one high le = absurd (omega arith)
under s k one high le = bound_own (op_of s) k one le

-- ---- what an operator does

pub takes_it : (fs : List Frame) (u : Use) (o : Op) (e : Expr) → is_op o ≡ true → hole fs u ≤ own o → left o ≤ (about e).level → takes fs u o e ≡ true
takes_it fs u o e is h l = and_from _ _ is (and_from _ _ (le-leb _ _ h) (le-leb _ _ l))

pub never : (b c d : Bool) → c ≡ false → (b && (c && d)) ≡ false
never true c d h = ap (λ x. x && d) h
never false c d h = refl

pub passes : (fs : List Frame) (u : Use) (o : Op) (e : Expr) → own o < hole fs u → takes fs u o e ≡ false
passes fs u o e h = let f : nat_le (hole fs u) (own o) ≡ false = grind (arith, nat_tests, h) in never (is_op o) _ _ f

pub offered : (s : Sign) (e : Expr) (fs : List Frame) (u : Use) → takes fs u (op_of s) e ≡ true → offer s e fs u ≡ push (op_of s) e fs u
offered s e [] u h = rw h refl
offered s e (f ∷ fs) u h = rw h refl

pub pushed : (o : Op) (s : Sign) (e : Expr) (fs : List Frame) (u : Use) → op_of s ≡ o → is_op o ≡ true → hole fs u ≤ own o → left o ≤ (about e).level → offer s e fs u ≡ push o e fs u
pushed o s e fs u is op h l = offered s e fs u (subst (λ p. takes fs u p e ≡ true) (sym is) (takes_it fs u o e op h l)) ∙ ap (λ p. push p e fs u) is

pub shut_by : (s : Sign) (e : Expr) (f : Frame) (fs : List Frame) (u : Use) → own (op_of s) < hole (f ∷ fs) u → offer s e (f ∷ fs) u ≡ shut f e fs u s (offer s (fill f e) fs u)
shut_by s e f fs u h = ap (λ b. cond b (push (op_of s) e (f ∷ fs) u) (shut f e fs u s (offer s (fill f e) fs u))) (passes (f ∷ fs) u (op_of s) e h)

-- a sign that is no operator
pub shut_none : (s : Sign) (e : Expr) (f : Frame) (fs : List Frame) (u : Use) → op_of s ≡ m.closes → offer s e (f ∷ fs) u ≡ shut f e fs u s (offer s (fill f e) fs u)
shut_none s e f fs u h = ap (λ (o : Op). cond (takes (f ∷ fs) u o e) (push (op_of s) e (f ∷ fs) u) (shut f e fs u s (offer s (fill f e) fs u))) h

pub open_hole : (fs : List Frame) (u : Use) → hole fs u ≡ 0 → opens fs ≡ true
open_hole [] u h = refl
open_hole (m.unary at o ∷ fs) u h = absurd (omega (arith, h))
open_hole (m.before at o ∷ fs) u h = absurd (omega (arith, h))
open_hole (m.cast at t ∷ fs) u h = absurd (omega (arith, h))
open_hole (m.binary a o ∷ fs) u h = absurd (omega (arith, h))
open_hole (m.assign a o ∷ fs) u h = refl
open_hole (m.question c ∷ fs) u h = refl
open_hole (m.colon c a ∷ fs) u h = absurd (omega (arith, h))
open_hole (m.comma a ∷ fs) u h = refl
open_hole (m.paren at ∷ fs) u h = refl
open_hole (m.element at n ∷ fs) u h = refl
open_hole (m.arguments at n es ∷ fs) u h = refl

pub open_first : (fs : List Frame) (u : Use) → hole fs u ≡ 0 → first fs u ≡ suc (spot fs u)
open_first fs u h = ap (λ b. cond b (suc (spot fs u)) (spot fs u)) (open_hole fs u h)

pub entry_open : (n : ℕ) (S : Said) → 1 ≤ S.level → entry n S ≡ suc n
entry_open n S h = ap (λ b. cond b (suc n) n) (le-leb 1 S.level h)

-- ---- the first word

pub heads : (e : Expr) (n : ℕ) (r : List Leaf) → starts (head_sign ((about e).leaves n r)) ≡ true
heads = induction (λ e. (n : ℕ) (r : List Leaf) → starts (head_sign ((about e).leaves n r)) ≡ true) (record {
  comma_ = λ at a b ha hb n r. begin _ _ (said_comma at a b) n r (ha _ _);
  assign_ = λ at a o b ha hb n r. begin _ _ (said_assign at a o b) n r (ha _ _);
  conditional_ = λ at a b c ha hb hc n r. begin _ _ (said_conditional at a b c) n r (ha _ _);
  binary_ = λ at a o b ha hb n r. begin _ _ (said_binary at a o b) n r (ha _ _);
  cast_ = λ at t a ha n r. begin _ _ (said_cast at t a) n r refl;
  unary_ = λ at o a ha n r. begin _ _ (said_unary at o a) n r (unary_starts o);
  before_ = λ at o a ha n r. begin _ _ (said_before at o a) n r (step_starts o);
  after_ = λ at a o ha n r. begin _ _ (said_after at a o) n r (ha _ _);
  name_ = λ at n k r. begin _ _ (said_name at n) k r refl;
  element_ = λ at n a ha k r. begin _ _ (said_element at n a) k r refl;
  call_ = λ at n es k r. begin _ _ (said_call at n (map (λ a. a.0) es)) k r refl;
  number_ = λ at v d u n r. begin _ _ (said_number at v d u) n r refl;
  character_ = λ at v n r. begin _ _ (said_character at v) n r refl;
  paren_ = λ at a ha n r. begin _ _ (said_paren at a) n r refl;
})
  where
    begin : (A B : Said) → A ≡ B → (n : ℕ) (r : List Leaf) → starts (head_sign (B.leaves n r)) ≡ true → starts (head_sign (A.leaves n r)) ≡ true
    begin A B e n r h = subst (λ (s : Said). starts (head_sign (s.leaves n r)) ≡ true) (sym e) h

    unary_starts : (o : UnaryOperator) → starts (unary_sign o) ≡ true
    unary_starts unary_.Plus = refl
    unary_starts _ = refl

    step_starts : (o : StepOperator) → starts (step_sign o) ≡ true
    step_starts step_.Increment = refl
    step_starts step_.Decrement = refl

pub no_type : (s : Sign) → starts s ≡ true → type_of s ≡ None
no_type sign.Char h = absurd cc
no_type sign.Int h = absurd cc
no_type sign.Signed h = absurd cc
no_type sign.Unsigned h = absurd cc
no_type s h = refl

-- a word that no expression begins with
pub not_at : (s x : Sign) → starts s ≡ true → starts x ≡ false → same s x ≡ false
not_at s x h g = go (same s x) refl
  where
    no_true : false ≡ true → ⊥
    no_true e = absurd cc

    go : (b : Bool) → same s x ≡ b → b ≡ false
    go false e = refl
    go true e = absurd (no_true (sym g ∙ (ap starts (sym (same_true the_type (search rules) s x e)) ∙ h)))

pub not_sign : (w : Word) (x : Sign) → starts (sign_of_word w) ≡ true → starts x ≡ false → m.is_sign w x ≡ false
not_sign (a_sign sign.End) x h g = refl
not_sign (a_sign s) x h g = not_at s x h g
not_sign (a_name n) x h g = refl
not_sign (a_number v d u) x h g = refl
not_sign (a_character v) x h g = refl
