-- The reading of an expression does what the machine does.
use denote.Hole.Carrier
use Rattle.c_tree.specs.declared.syntax.Expr.{out-Expr}
use denote.Enum.Bare.{same_true}
use Rattle.c_grammar.specs.contracts.sign.Sign.{the_type}
use Rattle.std.proofs.Common.{rules, ◌≡◌, ℕ, zero, suc, ◌+◌, ◌<◌, ◌≤◌, Bool, true, false, cond, nat_le, nat_lt, ◌&&◌, List, [], ◌∷◌, ◌++◌, length, map, Option, Some, None, Ok, Err, refl, sym, ap, subst, ◌∙◌, arith}
use Rattle.std.proofs.lemmas.Bool.{leb-true, le-leb, leb-false, ltb-true, ltb-false}
use Rattle.std.proofs.lemmas.Bool.Decides.{nat_tests}
use Rattle.c_tree.specs.declared.token.At.{At}
use Rattle.c_tree.specs.declared.syntax.TypeWords.{TypeWords}
use Rattle.c_tree.specs.declared.syntax.TypeWords.TheVariants as words
use Rattle.c_tree.specs.declared.syntax.BinaryOperator.{BinaryOperator}
use Rattle.c_tree.specs.declared.syntax.BinaryOperator.TheVariants as binary_
use Rattle.c_tree.specs.declared.syntax.Arithmetic.TheVariants as arithmetic_
use Rattle.c_tree.specs.declared.syntax.AssignOperator.{AssignOperator}
use Rattle.c_tree.specs.declared.syntax.AssignOperator.TheVariants as assign_
use Rattle.c_tree.specs.declared.syntax.UnaryOperator.{UnaryOperator}
use Rattle.c_tree.specs.declared.syntax.UnaryOperator.TheVariants as unary_
use Rattle.c_tree.specs.declared.syntax.StepOperator.{StepOperator}
use Rattle.c_tree.specs.declared.syntax.StepOperator.TheVariants as step_
use Rattle.c_tree.specs.declared.syntax.Expr.{Expr}
use Rattle.c_tree.specs.declared.syntax.Expr.TheVariants as tree
use Rattle.c_grammar.specs.declared.sign.Sign.{Sign}
use Rattle.c_grammar.specs.declared.sign.Sign.TheVariants as sign
use Rattle.c_grammar.specs.Words.{Word, a_name, a_number, a_character, a_sign, sign_of_word, Lexeme}
use Rattle.c_grammar.specs.Operators.{precedence}
use Rattle.c_grammar.specs.Phrases.{Said, sub, behind, marks_of, commas, the_sign, operator}
use Rattle.c_grammar.specs.Grammar.{about, type, assign}
use Rattle.c_reading.specs.Parsers.{Wrong, Deep, Out, same, Read, Parser, ◌>>=◌, ◌>>◌, and_then, pure, wrong, word_at, place_at, sign_at, eat, expect, more, deeper, counted}
use Rattle.c_reading.specs.Expressions as r
use Rattle.c_tree.specs.Places as places
use Rattle.c_reading.specs.Trees as q
use Rattle.c_parser.proofs.Asked.{place_of, type_of, joined}
use Rattle.c_parser.proofs.Machine as m
use Rattle.c_parser.proofs.Machine.{State, operand, have, named, opened, casting, Frame, Use, step, run, Outcome, Next, goes, moved, at_end, hole, opens, entered, spot, first, Op, op_of, own, left, is_op, takes, push, fill, shut, offer, close_use}
use Rattle.c_parser.proofs.Trees.{induction, said_comma, said_assign, said_conditional, said_binary, said_cast, said_unary, said_before, said_after, said_name, said_element, said_call, said_number, said_character, said_paren, place_comma, place_assign, place_conditional, place_binary, place_cast, place_unary, place_before, place_after, place_name, place_element, place_call, place_number, place_character, place_paren}
use Rattle.c_parser.proofs.ExprRuns.{prec_low, prec_high, passes, pushed}
use Rattle.c_parser.proofs.Reached.{word_is}

-- ---- the reading's questions

pub same_place_of : (e : Expr) → places.place_of e ≡ place_of e
unfolding places.place_of
same_place_of e = refl

pub same_type_of : (s : Sign) → q.type_of s ≡ type_of s
unfolding q.type_of
same_type_of s = refl

pub same_joined : (t : TypeWords) (s : Sign) → q.joined t s ≡ joined t s
unfolding q.joined
same_joined t s = refl

pub binary_some : (s : Sign) (o : BinaryOperator) → q.binary_of s ≡ Some o → op_of s ≡ m.joins o
unfolding q.binary_of
binary_some sign.LogicalOr o e = let f : binary_.LogicalOr ≡ o = cc in ap (λ x. m.joins x) f
binary_some sign.LogicalAnd o e = let f : binary_.LogicalAnd ≡ o = cc in ap (λ x. m.joins x) f
binary_some sign.Bar o e = let f : binary_.Or ≡ o = cc in ap (λ x. m.joins x) f
binary_some sign.Caret o e = let f : binary_.Xor ≡ o = cc in ap (λ x. m.joins x) f
binary_some sign.Ampersand o e = let f : binary_.And ≡ o = cc in ap (λ x. m.joins x) f
binary_some sign.Equal o e = let f : binary_.Equal ≡ o = cc in ap (λ x. m.joins x) f
binary_some sign.NotEqual o e = let f : binary_.NotEqual ≡ o = cc in ap (λ x. m.joins x) f
binary_some sign.Less o e = let f : binary_.Less ≡ o = cc in ap (λ x. m.joins x) f
binary_some sign.Greater o e = let f : binary_.Greater ≡ o = cc in ap (λ x. m.joins x) f
binary_some sign.LessEqual o e = let f : binary_.LessEqual ≡ o = cc in ap (λ x. m.joins x) f
binary_some sign.GreaterEqual o e = let f : binary_.GreaterEqual ≡ o = cc in ap (λ x. m.joins x) f
binary_some sign.ShiftLeft o e = let f : binary_.ShiftLeft ≡ o = cc in ap (λ x. m.joins x) f
binary_some sign.ShiftRight o e = let f : binary_.ShiftRight ≡ o = cc in ap (λ x. m.joins x) f
binary_some sign.Plus o e = let f : binary_.Add ≡ o = cc in ap (λ x. m.joins x) f
binary_some sign.Minus o e = let f : binary_.Subtract ≡ o = cc in ap (λ x. m.joins x) f
binary_some sign.Star o e = let f : binary_.Multiply ≡ o = cc in ap (λ x. m.joins x) f
binary_some sign.Slash o e = let f : binary_.Divide ≡ o = cc in ap (λ x. m.joins x) f
binary_some sign.Percent o e = let f : binary_.Remainder ≡ o = cc in ap (λ x. m.joins x) f
binary_some _ o e = absurd cc

pub binary_none : (s : Sign) (o : BinaryOperator) → q.binary_of s ≡ None → op_of s ≡ m.joins o → ⊥
unfolding q.binary_of
binary_none sign.LogicalOr o e h = absurd cc
binary_none _ o e h = absurd cc

pub assign_some : (s : Sign) (o : AssignOperator) → q.assign_of s ≡ Some o → op_of s ≡ m.assigns o
unfolding q.assign_of
assign_some sign.Assign o e = let f : assign_.Plain ≡ o = cc in ap (λ x. m.assigns x) f
assign_some sign.AssignAdd o e = let f : assign_.Compound arithmetic_.Add ≡ o = cc in ap (λ x. m.assigns x) f
assign_some sign.AssignSubtract o e = let f : assign_.Compound arithmetic_.Subtract ≡ o = cc in ap (λ x. m.assigns x) f
assign_some sign.AssignMultiply o e = let f : assign_.Compound arithmetic_.Multiply ≡ o = cc in ap (λ x. m.assigns x) f
assign_some sign.AssignDivide o e = let f : assign_.Compound arithmetic_.Divide ≡ o = cc in ap (λ x. m.assigns x) f
assign_some sign.AssignRemainder o e = let f : assign_.Compound arithmetic_.Remainder ≡ o = cc in ap (λ x. m.assigns x) f
assign_some sign.AssignAnd o e = let f : assign_.Compound arithmetic_.And ≡ o = cc in ap (λ x. m.assigns x) f
assign_some sign.AssignXor o e = let f : assign_.Compound arithmetic_.Xor ≡ o = cc in ap (λ x. m.assigns x) f
assign_some sign.AssignOr o e = let f : assign_.Compound arithmetic_.Or ≡ o = cc in ap (λ x. m.assigns x) f
assign_some sign.AssignShiftLeft o e = let f : assign_.Compound arithmetic_.ShiftLeft ≡ o = cc in ap (λ x. m.assigns x) f
assign_some sign.AssignShiftRight o e = let f : assign_.Compound arithmetic_.ShiftRight ≡ o = cc in ap (λ x. m.assigns x) f
assign_some _ o e = absurd cc

pub assign_none : (s : Sign) (o : AssignOperator) → q.assign_of s ≡ None → op_of s ≡ m.assigns o → ⊥
unfolding q.assign_of
assign_none sign.Assign o e h = absurd cc
assign_none _ o e h = absurd cc

level_by : (e : Expr) (S : Said) (b : Bool) → about e ≡ S → nat_le 14 S.level ≡ b → nat_le 14 (about e).level ≡ b
level_by e S b is h = ap (λ (s : Said). nat_le 14 s.level) is ∙ h

low_prec : (o : BinaryOperator) → nat_le 14 (precedence o) ≡ false
low_prec binary_.LogicalOr = refl
low_prec _ = refl

pub unary_is : (e : Expr) → q.is_unary e ≡ nat_le 14 (about e).level
unfolding q.is_unary out-Expr denote.Hole.Carrier.out
unary_is = induction (λ e. q.is_unary e ≡ nat_le 14 (about e).level) (record {
  comma_ = λ at a b ha hb. sym (level_by _ _ false (said_comma at a b) refl);
  assign_ = λ at a o b ha hb. sym (level_by _ _ false (said_assign at a o b) refl);
  conditional_ = λ at a b c ha hb hc. sym (level_by _ _ false (said_conditional at a b c) refl);
  binary_ = λ at a o b ha hb. sym (level_by _ _ false (said_binary at a o b) (low_prec o));
  cast_ = λ at t a ha. sym (level_by _ _ false (said_cast at t a) refl);
  unary_ = λ at o a ha. sym (level_by _ _ true (said_unary at o a) refl);
  before_ = λ at o a ha. sym (level_by _ _ true (said_before at o a) refl);
  after_ = λ at a o ha. sym (level_by _ _ true (said_after at a o) refl);
  name_ = λ at n. sym (level_by _ _ true (said_name at n) refl);
  element_ = λ at n a ha. sym (level_by _ _ true (said_element at n a) refl);
  call_ = λ at n es. sym (level_by _ _ true (said_call at n (map (λ a. a.0) es)) refl);
  number_ = λ at v d u. sym (level_by _ _ true (said_number at v d u) refl);
  character_ = λ at v. sym (level_by _ _ true (said_character at v) refl);
  paren_ = λ at a ha. sym (level_by _ _ true (said_paren at a) refl);
})

-- ---- where an operator stops

abbrev pub Stop : ℕ → Op → Expr → Type 0
Stop k (m.assigns o) e = k ≤ 1 → (about e).level < 14
Stop k m.closes e = Unit {0}
Stop k o e = own o < k

pub stop_up : (j k : ℕ) (o : Op) (e : Expr) → j ≤ k → Stop j o e → Stop k o e
stop_up j k (m.assigns o) e le h = λ g. h (omega (arith, g, le))
stop_up j k m.closes e le h = tt
stop_up j k (m.joins o) e le h = omega (arith, h, le)
stop_up j k (m.steps o) e le h = omega (arith, h, le)
stop_up j k m.asks e le h = omega (arith, h, le)
stop_up j k m.commas e le h = omega (arith, h, le)

pub stop_same : (k : ℕ) (o : Op) (x y : Expr) → (about y).level < 14 → Stop k o x → Stop k o y
stop_same k (m.assigns o) x y l h = λ g. l
stop_same k m.closes x y l h = tt
stop_same k (m.joins o) x y l h = h
stop_same k (m.steps o) x y l h = h
stop_same k m.asks x y l h = h
stop_same k m.commas x y l h = h

pub stop_zero : (o : Op) (e : Expr) → Stop 1 o e → (o ≡ m.commas → ⊥) → Stop 0 o e
stop_zero (m.assigns o) e h n = λ g. h (omega arith)
stop_zero m.closes e h n = tt
stop_zero (m.joins o) e h n = absurd (omega (arith, h, prec_low o))
stop_zero (m.steps o) e h n = absurd (omega (arith, h))
stop_zero m.asks e h n = absurd (omega (arith, h))
stop_zero m.commas e h n = absurd (n refl)

pub stop_one : (o : Op) (e : Expr) → Stop 2 o e → ((x : AssignOperator) → o ≡ m.assigns x → (about e).level < 14) → Stop 1 o e
stop_one (m.assigns o) e h n = λ g. n o refl
stop_one m.closes e h n = tt
stop_one (m.joins o) e h n = absurd (omega (arith, h, prec_low o))
stop_one (m.steps o) e h n = absurd (omega (arith, h))
stop_one m.asks e h n = absurd (omega (arith, h))
stop_one m.commas e h n = omega arith

pub stop_two : (o : Op) (e : Expr) → Stop 3 o e → (o ≡ m.asks → ⊥) → Stop 2 o e
stop_two (m.assigns o) e h n = λ g. absurd (omega (arith, g))
stop_two m.closes e h n = tt
stop_two (m.joins o) e h n = absurd (omega (arith, h, prec_low o))
stop_two (m.steps o) e h n = absurd (omega (arith, h))
stop_two m.asks e h n = absurd (n refl)
stop_two m.commas e h n = omega arith

-- an operator behind an operand, which holds it no stronger than the operand stands
abbrev pub Edge : Op → Expr → Type 0
Edge (m.joins o) e = precedence o ≤ (about e).level
Edge (m.steps o) e = ⊥
Edge o e = Unit {0}

pub edge_of : (k : ℕ) (o : Op) (e y : Expr) → k ≤ 13 → (k ≤ suc (about y).level) → Stop k o e → Edge o y
edge_of k (m.joins o) e y le l h = omega (arith, h, l)
edge_of k (m.steps o) e y le l h = absurd (omega (arith, h, le))
edge_of k (m.assigns o) e y le l h = tt
edge_of k m.asks e y le l h = tt
edge_of k m.commas e y le l h = tt
edge_of k m.closes e y le l h = tt

pub stop_k : (k : ℕ) (o : Op) (e : Expr) → 3 ≤ k → Edge o e → ((x : BinaryOperator) → o ≡ m.joins x → precedence x < k) → Stop k o e
stop_k k (m.joins o) e lo h n = n o refl
stop_k k (m.steps o) e lo h n = absurd h
stop_k k (m.assigns o) e lo h n = λ g. absurd (omega (arith, g, lo))
stop_k k m.asks e lo h n = omega (arith, lo)
stop_k k m.commas e lo h n = omega (arith, lo)
stop_k k m.closes e lo h n = tt

pub stop_unary : (o : Op) (e : Expr) → ((x : StepOperator) → o ≡ m.steps x → ⊥) → Stop 13 o e
stop_unary (m.joins o) e n = omega (arith, prec_high o)
stop_unary (m.steps o) e n = absurd (n o refl)
stop_unary (m.assigns o) e n = λ g. absurd (omega (arith, g))
stop_unary m.asks e n = omega arith
stop_unary m.commas e n = omega arith
stop_unary m.closes e n = tt

false_right : (b : Bool) → (b && false) ≡ false
false_right true = refl
false_right false = refl

-- what stops isn't taken
pub stop_takes : (fs : List Frame) (u : Use) (o : Op) (e : Expr) → Stop (hole fs u) o e → takes fs u o e ≡ false
stop_takes fs u m.closes e h = refl
stop_takes fs u (m.joins o) e h = passes fs u (m.joins o) e h
stop_takes fs u (m.steps o) e h = passes fs u (m.steps o) e h
stop_takes fs u m.asks e h = passes fs u m.asks e h
stop_takes fs u m.commas e h = passes fs u m.commas e h
stop_takes fs u (m.assigns o) e h = by_hole (nat_le (hole fs u) 1) refl
  where
    by_hole : (b : Bool) → nat_le (hole fs u) 1 ≡ b → takes fs u (m.assigns o) e ≡ false
    by_hole true is = let f : nat_le 14 (about e).level ≡ false = let l = h (leb-true _ _ is) in grind (arith, nat_tests, l) in ap (λ b. true && (nat_le (hole fs u) 1 && b)) f ∙ false_right (nat_le (hole fs u) 1)
    by_hole false is = ap (λ b. true && (b && nat_le 14 (about e).level)) is

-- ---- nesting

pub behind_plus : (n : ℕ) (S : Said) → behind n S ≡ n + behind 0 S
behind_plus n S = go (nat_le 1 S.level)
  where
    go : (b : Bool) → cond b n (n + S.marks) ≡ n + cond b 0 (0 + S.marks)
    go true = omega arith
    go false = omega arith

pub behind_open : (n : ℕ) (S : Said) → 1 ≤ S.level → behind n S ≡ n
behind_open n S h = ap (λ b. cond b n (n + S.marks)) (le-leb 1 S.level h)

pub open_low : (fs : List Frame) (u : Use) → hole fs u ≤ 1 → opens fs ≡ true
open_low [] u h = refl
open_low (m.unary at o ∷ fs) u h = absurd (omega (arith, h))
open_low (m.before at o ∷ fs) u h = absurd (omega (arith, h))
open_low (m.cast at t ∷ fs) u h = absurd (omega (arith, h))
open_low (m.binary a o ∷ fs) u h = absurd (omega (arith, h, prec_low o))
open_low (m.assign a o ∷ fs) u h = refl
open_low (m.question c ∷ fs) u h = refl
open_low (m.colon c a ∷ fs) u h = absurd (omega (arith, h))
open_low (m.comma a ∷ fs) u h = refl
open_low (m.paren at ∷ fs) u h = refl
open_low (m.element at n ∷ fs) u h = refl
open_low (m.arguments at n es ∷ fs) u h = refl

pub low_first : (fs : List Frame) (u : Use) → hole fs u ≤ 1 → first fs u ≡ suc (spot fs u)
low_first fs u h = ap (λ b. cond b (suc (spot fs u)) (spot fs u)) (open_low fs u h)

-- ---- the machine and a reading

module _ (T : ℕ → Bool) where
  -- the outcome is that of the state that what was read leads to
  abbrev pub Sim : {A : Type 0} → Read A → Outcome → (A → State) → (A → ℕ → List Lexeme → Type 0) → Type 0
  Sim (Ok x) v k Q = (v ≡ run T x.2 (k x.0)) × Q x.0 x.1 x.2
  Sim (Err (Wrong j)) v k Q = v ≡ Err (Wrong j)
  Sim (Err (Deep j)) v k Q = v ≡ Err (Deep j)
  Sim (Err Out) v k Q = Unit {0}

  pub sim_then : {A B : Type 0} (a : Read A) (f : A → Parser B) (v : Outcome) (k : A → State) (Q : A → ℕ → List Lexeme → Type 0) (l : B → State) (P : B → ℕ → List Lexeme → Type 0)
      → Sim a v k Q → ((x : A) (n : ℕ) (us : List Lexeme) → Q x n us → Sim (f x n us) (run T us (k x)) l P) → Sim (and_then a f) v l P
  sim_then (Ok x) f v k Q l P s h = subst (λ w. Sim (f x.0 x.1 x.2) w l P) (sym s.0) (h x.0 x.1 x.2 s.1)
  sim_then (Err (Wrong j)) f v k Q l P s h = s
  sim_then (Err (Deep j)) f v k Q l P s h = s
  sim_then (Err Out) f v k Q l P s h = tt

  pub sim_as : {A : Type 0} (a : Read A) (v w : Outcome) (k : A → State) (Q : A → ℕ → List Lexeme → Type 0) → v ≡ w → Sim a w k Q → Sim a v k Q
  sim_as a v w k Q e s = subst (λ x. Sim a x k Q) (sym e) s

  pub sim_weaker : {A : Type 0} (a : Read A) (v : Outcome) (k : A → State) (Q P : A → ℕ → List Lexeme → Type 0) → ((x : A) (n : ℕ) (us : List Lexeme) → Q x n us → P x n us) → Sim a v k Q → Sim a v k P
  sim_weaker (Ok x) v k Q P h s = (s.0, h x.0 x.1 x.2 s.1)
  sim_weaker (Err (Wrong j)) v k Q P h s = s
  sim_weaker (Err (Deep j)) v k Q P h s = s
  sim_weaker (Err Out) v k Q P h s = tt

  pub record Took (n m : ℕ) : Type 0 where
    pub nesting : m ≡ n

  abbrev eaten : ℕ → List Lexeme → Bool → Read (Unit {0})
  eaten n us b = cond b (Ok (tt, n, us)) (Err (Deep (suc (length us))))

  pub sim_eat : (s s2 : State) (n : ℕ) (ts : List Lexeme) → at_end s ≡ Err (Wrong 0) → ((t : Lexeme) (us : List Lexeme) → ts ≡ t ∷ us → step s t ≡ Some (n, s2)) → Sim (eat T n ts) (run T ts s) (λ x. s2) (λ x m us. Took n m)
  unfolding eat
  sim_eat s s2 n [] e h = e
  sim_eat s s2 n (t ∷ us) e h = ate (T n) refl
    where
      ate : (b : Bool) → T n ≡ b → Sim (eaten n us b) (m.settled (at_end s) (moved T (suc (length us)) (step s t) (run T us))) (λ x. s2) (λ x m us. Took n m)
      ate true is = (ap (λ a. m.settled a (moved T (suc (length us)) (step s t) (run T us))) e ∙ ap (λ (x : Next). moved T (suc (length us)) x (run T us)) (h t us refl) ∙ ap (λ b. cond b (run T us s2) (Err (Deep (suc (length us))))) is, record { nesting = refl })
      ate false is = ap (λ a. m.settled a (moved T (suc (length us)) (step s t) (run T us))) e ∙ ap (λ (x : Next). moved T (suc (length us)) x (run T us)) (h t us refl) ∙ ap (λ b. cond b (run T us s2) (Err (Deep (suc (length us))))) is

  pub sim_counted : (s s2 : State) (n : ℕ) (ts : List Lexeme) → at_end s ≡ Err (Wrong 0) → ((t : Lexeme) (us : List Lexeme) → ts ≡ t ∷ us → step s t ≡ Some (n, s2)) → Sim (counted T n ts) (run T ts s) (λ x. s2) (λ x m us. Took (suc n) m)
  sim_counted s s2 n ts e h = sim_then (eat T n ts) (λ x. deeper) (run T ts s) (λ x. s2) (λ x m us. Took n m) (λ x. s2) (λ x m us. Took (suc n) m) (sim_eat s s2 n ts e h) (λ x m us g. (refl, record { nesting = ap suc g.nesting }))

  pub sim_wrong : {A : Type 0} (s : State) (n : ℕ) (ts : List Lexeme) (k : A → State) (Q : A → ℕ → List Lexeme → Type 0) → at_end s ≡ Err (Wrong 0) → ((t : Lexeme) (us : List Lexeme) → ts ≡ t ∷ us → step s t ≡ None) → Sim (wrong n ts) (run T ts s) k Q
  sim_wrong s n [] k Q e h = e
  sim_wrong s n (t ∷ us) k Q e h = (λ i. m.settled (e i) (moved T (suc (length us)) (h t us refl i) (run T us)))

  pub same_run : (s s2 : State) (ts : List Lexeme) → at_end s ≡ at_end s2 → ((t : Lexeme) (us : List Lexeme) → ts ≡ t ∷ us → step s t ≡ step s2 t) → run T ts s ≡ run T ts s2
  same_run s s2 [] e h = e
  same_run s s2 (t ∷ us) e h = (λ i. m.settled (e i) (moved T (suc (length us)) (h t us refl i) (run T us)))

  pub sign_is : (ts : List Lexeme) (t : Lexeme) (us : List Lexeme) (s : Sign) → ts ≡ t ∷ us → sign_at ts ≡ s → sign_of_word t.word ≡ s
  unfolding sign_at
  sign_is ts t us s e h = ap sign_at (sym e) ∙ h

  pub word_at_is : (ts : List Lexeme) (t : Lexeme) (us : List Lexeme) (w : Word) → ts ≡ t ∷ us → word_at ts ≡ w → t.word ≡ w
  unfolding word_at
  word_at_is ts t us w e h = ap word_at (sym e) ∙ h

  pub place_is : (ts : List Lexeme) (t : Lexeme) (us : List Lexeme) → ts ≡ t ∷ us → t.at ≡ place_at ts
  unfolding place_at
  place_is ts t us e = ap place_at (sym e)

  -- a sign that is expected
  pub sim_expect : (s s2 : State) (x : Sign) (n : ℕ) (ts : List Lexeme) → at_end s ≡ Err (Wrong 0) → ((t : Lexeme) (us : List Lexeme) → ts ≡ t ∷ us → sign_of_word t.word ≡ x → step s t ≡ Some (n, s2)) → ((t : Lexeme) (us : List Lexeme) → ts ≡ t ∷ us → same (sign_of_word t.word) x ≡ false → step s t ≡ None) → Sim (expect T x n ts) (run T ts s) (λ x. s2) (λ x m us. Took n m)
  unfolding expect
  sim_expect s s2 x n ts e yes_ no_ = by_sign (same (sign_at ts) x) refl
    where
      by_sign : (b : Bool) → same (sign_at ts) x ≡ b → Sim ((cond b (eat T) wrong) n ts) (run T ts s) (λ x. s2) (λ x m us. Took n m)
      by_sign true is = sim_eat s s2 n ts e (λ t us l. yes_ t us l (sign_is ts t us x l (same_true the_type (search rules) (sign_at ts) x is)))
      by_sign false is = sim_wrong {A = Unit {0}} s n ts (λ x. s2) (λ x m us. Took n m) e (λ t us l. no_ t us l (ap (λ y. same y x) (sign_is ts t us (sign_at ts) l refl) ∙ is))

  -- ---- what a goal comes to

  pub record Got (k : ℕ) (p : At) (nest : Expr → ℕ) (x : Expr) (n : ℕ) (us : List Lexeme) : Type 0 where
    pub level : k ≤ (about x).level
    pub place : place_of x ≡ p
    pub nesting : n ≡ nest x
    pub stop : Stop k (op_of (sign_at us)) x

  abbrev pub inner : List Frame → Use → Expr → ℕ
  inner fs u x = first fs u + (about x).marks

  abbrev pub outside : List Frame → Use → Expr → ℕ
  outside fs u x = behind (spot fs u) (about x)

  abbrev pub Has : Read Expr → List Lexeme → State → List Frame → Use → ℕ → At → (Expr → ℕ) → Type 0
  Has a ts s fs u k p nest = Sim a (run T ts s) (λ x. have x fs u) (Got k p nest)

  pub record Reads (R : r.Reader) : Type 0 where
    pub expr : (fs : List Frame) (u : Use) (n : ℕ) (ts : List Lexeme) → hole fs u ≡ 0 → n ≡ spot fs u → Has (R r.expr n ts) ts (operand fs u) fs u 0 (place_at ts) (outside fs u)
    pub assign : (fs : List Frame) (u : Use) (n : ℕ) (ts : List Lexeme) → hole fs u ≤ 1 → n ≡ spot fs u → Has (R r.assign n ts) ts (operand fs u) fs u 1 (place_at ts) (λ x. spot fs u)
    pub conditional : (fs : List Frame) (u : Use) (n : ℕ) (ts : List Lexeme) → hole fs u ≤ 2 → n ≡ first fs u → Has (R r.conditional n ts) ts (operand fs u) fs u 2 (place_at ts) (inner fs u)
    pub binary : (k : ℕ) (fs : List Frame) (u : Use) (n : ℕ) (ts : List Lexeme) → 3 ≤ k → k ≤ 13 → hole fs u ≤ k → n ≡ first fs u → Has (R (r.binary k) n ts) ts (operand fs u) fs u k (place_at ts) (inner fs u)
    pub cast : (fs : List Frame) (u : Use) (n : ℕ) (ts : List Lexeme) → hole fs u ≤ 13 → n ≡ first fs u → Has (R r.cast n ts) ts (operand fs u) fs u 13 (place_at ts) (inner fs u)
    pub unary : (fs : List Frame) (u : Use) (n : ℕ) (ts : List Lexeme) → hole fs u ≤ 14 → (hole fs u ≤ 13 → sign_at ts ≡ sign.LeftParen → ⊥) → n ≡ first fs u → Has (R r.unary n ts) ts (operand fs u) fs u 14 (place_at ts) (inner fs u)
    pub after_comma : (e : Expr) (fs : List Frame) (u : Use) (n : ℕ) (ts : List Lexeme) → hole fs u ≡ 0 → n ≡ outside fs u e → Stop 1 (op_of (sign_at ts)) e → Has (R (r.after_comma e) n ts) ts (have e fs u) fs u 0 (place_of e) (outside fs u)
    pub after_operand : (k : ℕ) (e : Expr) (fs : List Frame) (u : Use) (n : ℕ) (ts : List Lexeme) → 3 ≤ k → k ≤ 13 → hole fs u ≤ k → k ≤ (about e).level → n ≡ inner fs u e → Edge (op_of (sign_at ts)) e → Has (R (r.after_operand k e) n ts) ts (have e fs u) fs u k (place_of e) (inner fs u)
    pub after_postfix : (e : Expr) (fs : List Frame) (u : Use) (n : ℕ) (ts : List Lexeme) → hole fs u ≤ 15 → 15 ≤ (about e).level → n ≡ inner fs u e → Has (R (r.after_postfix e) n ts) ts (have e fs u) fs u 14 (place_of e) (inner fs u)
    pub in_call : (at : At) (f : List ℕ) (es : List Expr) (fs : List Frame) (u : Use) (n : ℕ) (ts : List Lexeme) → n ≡ first fs u → Sim (R (r.in_call at f es) n ts) (run T ts (operand (m.arguments at f es ∷ fs) u)) (λ x. have x fs u) (λ x n2 us. (15 ≤ (about x).level) × (place_of x ≡ at) × (n2 ≡ inner fs u x))

  pub got_as : (a : Read Expr) (v : Outcome) (fs : List Frame) (u : Use) (j k : ℕ) (p p2 : At) (f g : Expr → ℕ) → ((x : Expr) (n : ℕ) (us : List Lexeme) → Got j p f x n us → Got k p2 g x n us) → Sim a v (λ x. have x fs u) (Got j p f) → Sim a v (λ x. have x fs u) (Got k p2 g)
  got_as a v fs u j k p p2 f g h s = sim_weaker a v (λ x. have x fs u) (Got j p f) (Got k p2 g) h s

  -- the machine takes an operator
  op_step : (e : Expr) (fs : List Frame) (u : Use) (o : Op) (ts : List Lexeme) (n : ℕ) (s2 : State) → op_of (sign_at ts) ≡ o → is_op o ≡ true → hole fs u ≤ own o → left o ≤ (about e).level → push o e fs u ≡ Some (n, s2) → (t : Lexeme) (us : List Lexeme) → ts ≡ t ∷ us → step (have e fs u) t ≡ Some (n, s2)
  op_step e fs u o ts n s2 is op h l to t us q = pushed o (sign_of_word t.word) e fs u (ap op_of (sign_is ts t us (sign_at ts) q refl) ∙ is) op h l ∙ to

  -- a full frame
  full : (e y : Expr) (f : Frame) (fs : List Frame) (u : Use) (ts : List Lexeme) → ((s : Sign) (more : Next) → shut f e fs u s more ≡ more) → Stop (hole (f ∷ fs) u) (op_of (sign_at ts)) e → fill f e ≡ y → run T ts (have e (f ∷ fs) u) ≡ run T ts (have y fs u)
  full e y f fs u ts through st is = same_run (have e (f ∷ fs) u) (have (fill f e) fs u) ts refl
      (λ t us q. let s : Sign = sign_of_word t.word in
      ap (λ b. cond b (push (op_of s) e (f ∷ fs) u) (shut f e fs u s (offer s (fill f e) fs u))) (stop_takes (f ∷ fs) u (op_of s) e (subst (λ y. Stop (hole (f ∷ fs) u) (op_of y) e) (sym (sign_is ts t us (sign_at ts) q refl)) st)) ∙ through s (offer s (fill f e) fs u))
      ∙ ap (λ z. run T ts (have z fs u)) is

  -- what the machine does behind an expression that no operator takes on
  shuts : (e : Expr) (f : Frame) (fs : List Frame) (u : Use) (ts : List Lexeme) → Stop (hole (f ∷ fs) u) (op_of (sign_at ts)) e → (t : Lexeme) (us : List Lexeme) → ts ≡ t ∷ us → step (have e (f ∷ fs) u) t ≡ shut f e fs u (sign_of_word t.word) (offer (sign_of_word t.word) (fill f e) fs u)
  shuts e f fs u ts st t us q = let s : Sign = sign_of_word t.word in ap (λ b. cond b (push (op_of s) e (f ∷ fs) u) (shut f e fs u s (offer s (fill f e) fs u))) (stop_takes (f ∷ fs) u (op_of s) e (subst (λ y. Stop (hole (f ∷ fs) u) (op_of y) e) (sym (sign_is ts t us (sign_at ts) q refl)) st))

  -- ---- lists

  pub sim_more : (s more_ end_ : State) (close : Sign) (n : ℕ) (ts : List Lexeme) → at_end s ≡ Err (Wrong 0)
      → ((t : Lexeme) (us : List Lexeme) → ts ≡ t ∷ us → sign_of_word t.word ≡ sign.Comma → step s t ≡ Some (n, more_))
      → ((t : Lexeme) (us : List Lexeme) → ts ≡ t ∷ us → sign_of_word t.word ≡ close → step s t ≡ Some (n, end_))
      → ((t : Lexeme) (us : List Lexeme) → ts ≡ t ∷ us → same (sign_of_word t.word) sign.Comma ≡ false → same (sign_of_word t.word) close ≡ false → step s t ≡ None)
      → Sim (more T close n ts) (run T ts s) (λ b. cond b more_ end_) (λ b k us. Took n k)
  unfolding more
  sim_more s more_ end_ close n ts e comma_ close_ neither = by_comma (same (sign_at ts) sign.Comma) refl
    where
      by_close : (b : Bool) → same (sign_at ts) close ≡ b → same (sign_at ts) sign.Comma ≡ false → Sim ((cond b (eat T >> pure false) wrong) n ts) (run T ts s) (λ b. cond b more_ end_) (λ b k us. Took n k)
      by_close true is no_comma = sim_then (eat T n ts) _ (run T ts s) (λ x. end_) (λ x k us. Took n k) (λ b. cond b more_ end_) (λ b k us. Took n k)
          (sim_eat s end_ n ts e (λ t us q. close_ t us q (sign_is ts t us close q (same_true the_type (search rules) (sign_at ts) close is))))
          (λ x k us g. (refl, g))
      by_close false is no_comma = sim_wrong {A = Bool} s n ts (λ b. cond b more_ end_) (λ b k us. Took n k) e (λ t us q. let w = sign_is ts t us (sign_at ts) q refl in neither t us q (ap (λ y. same y sign.Comma) w ∙ no_comma) (ap (λ y. same y close) w ∙ is))

      by_comma : (b : Bool) → same (sign_at ts) sign.Comma ≡ b → Sim ((cond b (eat T >> pure true) (cond (same (sign_at ts) close) (eat T >> pure false) wrong)) n ts) (run T ts s) (λ b. cond b more_ end_) (λ b k us. Took n k)
      by_comma true is = sim_then (eat T n ts) _ (run T ts s) (λ x. more_) (λ x k us. Took n k) (λ b. cond b more_ end_) (λ b k us. Took n k)
          (sim_eat s more_ n ts e (λ t us q. comma_ t us q (sign_is ts t us sign.Comma q (same_true the_type (search rules) (sign_at ts) sign.Comma is))))
          (λ x k us g. (refl, g))
      by_comma false is = by_close (same (sign_at ts) close) refl is

  -- ---- types

  -- what the words of a type do
  pub record Words (s0 : State) (c : TypeWords → State) (n : ℕ) (ts : List Lexeme) : Type 0 where
    pub begins : (t : Lexeme) (us : List Lexeme) → ts ≡ t ∷ us → (ty : TypeWords) → type_of (sign_of_word t.word) ≡ Some ty → step s0 t ≡ Some (n, c ty)
    pub others : (t : Lexeme) (us : List Lexeme) → ts ≡ t ∷ us → type_of (sign_of_word t.word) ≡ None → step s0 t ≡ None
    pub extends : (t : Lexeme) (ty v : TypeWords) → joined ty (sign_of_word t.word) ≡ Some v → step (c ty) t ≡ Some (n, c v)
    pub open_first : at_end s0 ≡ Err (Wrong 0)
    pub open_last : (ty : TypeWords) → at_end (c ty) ≡ Err (Wrong 0)

  joined_twice : (ty : TypeWords) (x y : Sign) (v : TypeWords) → joined ty x ≡ Some v → joined v y ≡ None
  joined_twice words.Char sign.Signed y v e = let f : words.CharSigned ≡ v = cc in subst (λ z. joined z y ≡ None) f refl
  joined_twice words.Char sign.Unsigned y v e = let f : words.CharUnsigned ≡ v = cc in subst (λ z. joined z y ≡ None) f refl
  joined_twice words.Int sign.Signed y v e = let f : words.IntSigned ≡ v = cc in subst (λ z. joined z y ≡ None) f refl
  joined_twice words.Int sign.Unsigned y v e = let f : words.IntUnsigned ≡ v = cc in subst (λ z. joined z y ≡ None) f refl
  joined_twice words.Signed sign.Char y v e = let f : words.SignedChar ≡ v = cc in subst (λ z. joined z y ≡ None) f refl
  joined_twice words.Signed sign.Int y v e = let f : words.SignedInt ≡ v = cc in subst (λ z. joined z y ≡ None) f refl
  joined_twice words.Unsigned sign.Char y v e = let f : words.UnsignedChar ≡ v = cc in subst (λ z. joined z y ≡ None) f refl
  joined_twice words.Unsigned sign.Int y v e = let f : words.UnsignedInt ≡ v = cc in subst (λ z. joined z y ≡ None) f refl
  joined_twice _ _ y v e = absurd cc

  pub record Typed (n : ℕ) (w : TypeWords) (k : ℕ) (us : List Lexeme) : Type 0 where
    pub nesting : k ≡ n
    pub ended : joined w (sign_at us) ≡ None

  pub types_sim : (s0 : State) (c : TypeWords → State) (n : ℕ) (ts : List Lexeme) → Words s0 c n ts → Sim (r.type_words T n ts) (run T ts s0) c (Typed n)
  unfolding r.type_words q.type_of q.joined
  types_sim s0 c n ts y = by_first (type_of (sign_at ts)) refl
    where
      by_second : (w : TypeWords) (k : ℕ) (us : List Lexeme) → k ≡ n → (o : Option TypeWords) → joined w (sign_at us) ≡ o → Sim (r.second_word T w o k us) (run T us (c w)) c (Typed n)
      by_second w k us e None is = (refl, record { nesting = e; ended = is })
      by_second w k us e (Some v) is = sim_then (eat T k us) _ (run T us (c w)) (λ x. c v) (λ x j vs. Took k j) c (Typed n)
          (sim_eat (c w) (c v) k us (y.open_last w) (λ t vs q. y.extends t w v (ap (λ x. joined w x) (sign_is us t vs (sign_at us) q refl) ∙ is) ∙ ap (λ i. goes i (c v)) (sym e)))
          (λ x j vs g. (refl, record { nesting = g.nesting ∙ e; ended = joined_twice w (sign_at us) (sign_at vs) v is }))

      by_first : (o : Option TypeWords) → type_of (sign_at ts) ≡ o → Sim (r.first_word T o n ts) (run T ts s0) c (Typed n)
      by_first None is = sim_wrong {A = TypeWords} s0 n ts c (Typed n) y.open_first (λ t us q. y.others t us q (ap type_of (sign_is ts t us (sign_at ts) q refl) ∙ is))
      by_first (Some w) is = sim_then (eat T n ts) _ (run T ts s0) (λ x. c w) (λ x k us. Took n k) c (Typed n)
          (sim_eat s0 (c w) n ts y.open_first (λ t us q. y.begins t us q w (ap type_of (sign_is ts t us (sign_at ts) q refl) ∙ is)))
          (λ x k us g. by_second w k us g.nesting (joined w (sign_at us)) refl)

  module _ (R : r.Reader) (R_reads : Reads R) where
    -- ---- commas

    marks_comma : (at : At) (a x : Expr) (n : ℕ) → behind n (about (tree.Comma at a x)) ≡ suc (behind n (about a))
    marks_comma at a x n = ap (λ (s : Said). behind n s) (said_comma at a x) ∙ omega (arith, behind_plus n (about a))

    comma_sim : (e : Expr) (fs : List Frame) (u : Use) (n : ℕ) (ts : List Lexeme) → hole fs u ≡ 0 → n ≡ outside fs u e → Stop 1 (op_of (sign_at ts)) e → (s : Sign) → sign_at ts ≡ s → Has (r.comma_by T R e s n ts) ts (have e fs u) fs u 0 (place_of e) (outside fs u)
    unfolding places.place_of
    comma_sim e fs u n ts h0 nn st sign.Comma is =
        sim_then (counted T n ts) _ (run T ts (have e fs u)) (λ x. operand (m.comma e ∷ fs) u) (λ x k us. Took (suc n) k) (λ x. have x fs u) (Got 0 (place_of e) (outside fs u))
        (sim_counted (have e fs u) (operand (m.comma e ∷ fs) u) n ts refl (op_step e fs u m.commas ts n _ (ap op_of is) refl (omega (arith, h0)) (omega arith) (ap (λ k. goes k (operand (m.comma e ∷ fs) u)) (sym nn))))
        (λ y k us g. sim_then (R r.assign k us) _ (run T us (operand (m.comma e ∷ fs) u)) (λ x. have x (m.comma e ∷ fs) u) (Got 1 (place_at us) (λ x. spot (m.comma e ∷ fs) u)) (λ x. have x fs u) (Got 0 (place_of e) (outside fs u))
        (R_reads.assign (m.comma e ∷ fs) u k us (omega arith) (omega (arith, g.nesting, nn)))
        (λ x l vs gx. let whole : Expr = tree.Comma (place_of e) e x in
        sim_as (R (r.after_comma whole) l vs) (run T vs (have x (m.comma e ∷ fs) u)) (run T vs (have whole fs u)) (λ x. have x fs u) (Got 0 (place_of e) (outside fs u))
        (full x whole (m.comma e) fs u vs (λ s more. refl) gx.stop refl)
        (got_as _ _ fs u 0 0 (place_of whole) (place_of e) (outside fs u) (outside fs u) (λ z i ws gz. record { level = gz.level; place = gz.place ∙ place_comma (place_of e) e x; nesting = gz.nesting; stop = gz.stop })
        (R_reads.after_comma whole fs u l vs h0 (omega (arith, gx.nesting, marks_comma (place_of e) e x (spot fs u))) (stop_same 1 _ x whole (omega (arith, ap (λ (s : Said). s.level) (said_comma (place_of e) e x))) gx.stop)))))
    comma_sim e fs u n ts h0 nn st s is = (refl, record { level = omega arith; place = refl; nesting = nn; stop = stop_zero (op_of (sign_at ts)) e st (λ c. not_comma (sym (ap op_of is) ∙ c)) })
      where
        not_comma : op_of s ≡ m.commas → ⊥
        not_comma e = absurd cc

    expr_sim : (fs : List Frame) (u : Use) (n : ℕ) (ts : List Lexeme) → hole fs u ≡ 0 → n ≡ spot fs u → Has (r.step T R r.expr n ts) ts (operand fs u) fs u 0 (place_at ts) (outside fs u)
    expr_sim fs u n ts h nn = sim_then (R r.assign n ts) _ (run T ts (operand fs u)) (λ x. have x fs u) (Got 1 (place_at ts) (λ x. spot fs u)) (λ x. have x fs u) (Got 0 (place_at ts) (outside fs u))
        (R_reads.assign fs u n ts (omega (arith, h)) nn)
        (λ x k us g. got_as _ _ fs u 0 0 (place_of x) (place_at ts) (outside fs u) (outside fs u) (λ z i ws gz. record { level = gz.level; place = gz.place ∙ g.place; nesting = gz.nesting; stop = gz.stop })
        (R_reads.after_comma x fs u k us h (g.nesting ∙ sym (behind_open (spot fs u) (about x) g.level)) g.stop))

    -- ---- assignments

    record Left_side (p : At) (x : Expr) (us : List Lexeme) : Type 0 where
      level : 1 ≤ (about x).level
      place : place_of x ≡ p
      stop : Stop 1 (op_of (sign_at us)) x

    left_sim : (p : At) (e : Expr) (fs : List Frame) (u : Use) (n : ℕ) (ts : List Lexeme) → hole fs u ≤ 1 → n ≡ inner fs u e → 2 ≤ (about e).level → place_of e ≡ p → Stop 2 (op_of (sign_at ts)) e → Sim (r.after_left T R e n ts) (run T ts (have e fs u)) (λ x. have x fs u) (λ x k us. Left_side p x us)
    unfolding r.after_left places.place_of
    left_sim p e fs u n ts h nn l pl st = by_assign (q.assign_of (sign_at ts)) refl
      where
        by_unary : (o : AssignOperator) → op_of (sign_at ts) ≡ m.assigns o → (b : Bool) → q.is_unary e ≡ b → Sim ((cond b (counted T >>= (λ y. R r.assign >>= (λ x. pure (tree.Assign (places.place_of e) e o x)))) (pure e)) n ts) (run T ts (have e fs u)) (λ x. have x fs u) (λ x k us. Left_side p x us)
        by_unary o is false un = (refl, record { level = omega (arith, l); place = pl; stop = stop_one (op_of (sign_at ts)) e st (λ x c. let f : nat_le 14 (about e).level ≡ false = sym (unary_is e) ∙ un in omega (arith, leb-false 14 (about e).level f)) })
        by_unary o is true un =
            let fourteen : 14 ≤ (about e).level = leb-true 14 (about e).level (sym (unary_is e) ∙ un) in
            sim_then (counted T n ts) _ (run T ts (have e fs u)) (λ x. operand (m.assign e o ∷ fs) u) (λ x k us. Took (suc n) k) (λ x. have x fs u) (λ x k us. Left_side p x us)
            (sim_counted (have e fs u) (operand (m.assign e o ∷ fs) u) n ts refl (op_step e fs u (m.assigns o) ts n _ is refl h fourteen (ap (λ k. goes k (operand (m.assign e o ∷ fs) u)) (sym nn))))
            (λ y k us g. sim_then (R r.assign k us) _ (run T us (operand (m.assign e o ∷ fs) u)) (λ x. have x (m.assign e o ∷ fs) u) (Got 1 (place_at us) (λ x. spot (m.assign e o ∷ fs) u)) (λ x. have x fs u) (λ x k us. Left_side p x us)
            (R_reads.assign (m.assign e o ∷ fs) u k us (omega arith) (omega (arith, g.nesting, nn)))
            (λ x i vs gx. let whole : Expr = tree.Assign (place_of e) e o x in let lv = ap (λ (s : Said). s.level) (said_assign (place_of e) e o x) in
            (full x whole (m.assign e o) fs u vs (λ s more. refl) gx.stop refl, record { level = omega (arith, lv); place = place_assign (place_of e) e o x ∙ pl; stop = stop_same 1 _ x whole (omega (arith, lv)) gx.stop })))

        by_assign : (o : Option AssignOperator) → q.assign_of (sign_at ts) ≡ o → Sim (r.assigned T R e o n ts) (run T ts (have e fs u)) (λ x. have x fs u) (λ x k us. Left_side p x us)
        by_assign None is = (refl, record { level = omega (arith, l); place = pl; stop = stop_one (op_of (sign_at ts)) e st (λ x c. absurd (assign_none (sign_at ts) x is c)) })
        by_assign (Some o) is = by_unary o (assign_some (sign_at ts) o is) (q.is_unary e) refl

    assign_sim : (fs : List Frame) (u : Use) (n : ℕ) (ts : List Lexeme) → hole fs u ≤ 1 → n ≡ spot fs u → Has (r.step T R r.assign n ts) ts (operand fs u) fs u 1 (place_at ts) (λ x. spot fs u)
    assign_sim fs u n ts h nn = sim_then (and_then (R r.conditional (suc n) ts) (r.after_left T R)) _ (run T ts (operand fs u)) (λ x. have x fs u) (λ x k us. Left_side (place_at ts) x us) (λ x. have x fs u) (Got 1 (place_at ts) (λ x. spot fs u))
        (sim_then (R r.conditional (suc n) ts) (r.after_left T R) (run T ts (operand fs u)) (λ x. have x fs u) (Got 2 (place_at ts) (inner fs u)) (λ x. have x fs u) (λ x k us. Left_side (place_at ts) x us)
        (R_reads.conditional fs u (suc n) ts (omega (arith, h)) (ap suc nn ∙ sym (low_first fs u h)))
        (λ x k us g. left_sim (place_at ts) x fs u k us h g.nesting g.level g.place g.stop))
        (λ x k us g. (refl, record { level = g.level; place = g.place; nesting = nn; stop = g.stop }))

    -- ---- operators

    marks_binary : (at : At) (a : Expr) (o : BinaryOperator) (x : Expr) (n : ℕ) → n + (about (tree.Binary at a o x)).marks ≡ suc (n + (about a).marks) + (about x).marks
    marks_binary at a o x n = ap (λ (s : Said). n + s.marks) (said_binary at a o x) ∙ omega arith

    operand_sim : (k : ℕ) (e : Expr) (fs : List Frame) (u : Use) (n : ℕ) (ts : List Lexeme) → 3 ≤ k → k ≤ 13 → hole fs u ≤ k → k ≤ (about e).level → n ≡ inner fs u e → Edge (op_of (sign_at ts)) e → Has (r.step T R (r.after_operand k e) n ts) ts (have e fs u) fs u k (place_of e) (inner fs u)
    unfolding places.place_of
    operand_sim k e fs u n ts lo hi h l nn ed = by_binary (q.binary_of (sign_at ts)) refl
      where
        stays : ((x : BinaryOperator) → op_of (sign_at ts) ≡ m.joins x → precedence x < k) → Sim (pure e n ts) (run T ts (have e fs u)) (λ x. have x fs u) (Got k (place_of e) (inner fs u))
        stays f = (refl, record { level = l; place = refl; nesting = nn; stop = stop_k k (op_of (sign_at ts)) e lo ed f })

        joins_same : (a b : BinaryOperator) → m.joins a ≡ m.joins b → a ≡ b
        joins_same a b e = cc

        by_prec : (o : BinaryOperator) → op_of (sign_at ts) ≡ m.joins o → (b : Bool) → nat_lt (precedence o) k ≡ b → Sim ((cond b (pure e) (counted T >>= (λ y. R (r.binary (suc (precedence o))) >>= (λ x. R (r.after_operand k (tree.Binary (places.place_of e) e o x)))))) n ts) (run T ts (have e fs u)) (λ x. have x fs u) (Got k (place_of e) (inner fs u))
        by_prec o is true lt = stays (λ x c. subst (λ y. precedence y < k) (joins_same o x (sym is ∙ c)) (ltb-true (precedence o) k lt))
        by_prec o is false ge =
            let kk : k ≤ precedence o = ltb-false (precedence o) k ge in
            let left_ok : precedence o ≤ (about e).level = let d : Edge (m.joins o) e = subst (λ y. Edge y e) is ed in d in
            let hi2 = prec_high o in
            sim_then (counted T n ts) _ (run T ts (have e fs u)) (λ x. operand (m.binary e o ∷ fs) u) (λ x i us. Took (suc n) i) (λ x. have x fs u) (Got k (place_of e) (inner fs u))
            (sim_counted (have e fs u) (operand (m.binary e o ∷ fs) u) n ts refl (op_step e fs u (m.joins o) ts n _ is refl (omega (arith, h, kk)) left_ok (ap (λ i. goes i (operand (m.binary e o ∷ fs) u)) (sym nn))))
            (λ y i us g. sim_then (R (r.binary (suc (precedence o))) i us) _ (run T us (operand (m.binary e o ∷ fs) u)) (λ x. have x (m.binary e o ∷ fs) u) (Got (suc (precedence o)) (place_at us) (inner (m.binary e o ∷ fs) u)) (λ x. have x fs u) (Got k (place_of e) (inner fs u))
            (R_reads.binary (suc (precedence o)) (m.binary e o ∷ fs) u i us (omega (arith, prec_low o)) (omega (arith, hi2)) (omega arith) (omega (arith, g.nesting, nn)))
            (λ x j vs gx. let whole : Expr = tree.Binary (place_of e) e o x in let lv = ap (λ (s : Said). s.level) (said_binary (place_of e) e o x) in
            sim_as (R (r.after_operand k whole) j vs) (run T vs (have x (m.binary e o ∷ fs) u)) (run T vs (have whole fs u)) (λ x. have x fs u) (Got k (place_of e) (inner fs u))
            (full x whole (m.binary e o) fs u vs (λ s more. refl) gx.stop refl)
            (got_as _ _ fs u k k (place_of whole) (place_of e) (inner fs u) (inner fs u) (λ z i2 ws gz. record { level = gz.level; place = gz.place ∙ place_binary (place_of e) e o x; nesting = gz.nesting; stop = gz.stop })
            (R_reads.after_operand k whole fs u j vs lo hi h (omega (arith, lv, kk)) (gx.nesting ∙ sym (marks_binary (place_of e) e o x (first fs u))) (edge_of (suc (precedence o)) (op_of (sign_at vs)) x whole (omega (arith, hi2)) (omega (arith, lv)) gx.stop)))))

        by_binary : (o : Option BinaryOperator) → q.binary_of (sign_at ts) ≡ o → Has (r.operated T R k e o n ts) ts (have e fs u) fs u k (place_of e) (inner fs u)
        by_binary None is = stays (λ x c. absurd (binary_none (sign_at ts) x is c))
        by_binary (Some o) is = by_prec o (binary_some (sign_at ts) o is) (nat_lt (precedence o) k) refl

    binary_sim : (k : ℕ) (fs : List Frame) (u : Use) (n : ℕ) (ts : List Lexeme) → 3 ≤ k → k ≤ 13 → hole fs u ≤ k → n ≡ first fs u → Has (r.step T R (r.binary k) n ts) ts (operand fs u) fs u k (place_at ts) (inner fs u)
    binary_sim k fs u n ts lo hi h nn = sim_then (R r.cast n ts) _ (run T ts (operand fs u)) (λ x. have x fs u) (Got 13 (place_at ts) (inner fs u)) (λ x. have x fs u) (Got k (place_at ts) (inner fs u))
        (R_reads.cast fs u n ts (omega (arith, h, hi)) nn)
        (λ x i us g. got_as _ _ fs u k k (place_of x) (place_at ts) (inner fs u) (inner fs u) (λ z j ws gz. record { level = gz.level; place = gz.place ∙ g.place; nesting = gz.nesting; stop = gz.stop })
        (R_reads.after_operand k x fs u i us lo hi h (omega (arith, hi, g.level)) g.nesting (edge_of 13 (op_of (sign_at us)) x x (omega arith) (omega (arith, g.level)) g.stop)))

    -- ---- conditionals

    marks_conditional : (at : At) (a b c : Expr) (n : ℕ) → n + (about (tree.Conditional at a b c)).marks ≡ behind (suc (n + (about a).marks)) (about b) + (about c).marks
    marks_conditional at a b c n = ap (λ (s : Said). n + s.marks) (said_conditional at a b c) ∙ omega (arith, behind_plus (suc (n + (about a).marks)) (about b))

    record Branches (e : Expr) (fs : List Frame) (u : Use) (p : Expr × Expr) (n : ℕ) (us : List Lexeme) : Type 0 where
      nesting : n ≡ inner (m.colon e p.0 ∷ fs) u p.1
      stop : Stop 2 (op_of (sign_at us)) p.1

    branches_sim : (e : Expr) (fs : List Frame) (u : Use) (n : ℕ) (ts : List Lexeme) → n ≡ spot (m.question e ∷ fs) u → Sim (r.branches T R n ts) (run T ts (operand (m.question e ∷ fs) u)) (λ p. have p.1 (m.colon e p.0 ∷ fs) u) (Branches e fs u)
    unfolding r.branches
    branches_sim e fs u n ts nn = sim_then (R r.expr n ts) _ (run T ts (operand (m.question e ∷ fs) u)) (λ x. have x (m.question e ∷ fs) u) (Got 0 (place_at ts) (outside (m.question e ∷ fs) u)) (λ p. have p.1 (m.colon e p.0 ∷ fs) u) (Branches e fs u)
        (R_reads.expr (m.question e ∷ fs) u n ts refl nn)
        (λ a i us g. sim_then (expect T sign.Colon i us) _ (run T us (have a (m.question e ∷ fs) u)) (λ x. operand (m.colon e a ∷ fs) u) (λ x k vs. Took i k) (λ p. have p.1 (m.colon e p.0 ∷ fs) u) (Branches e fs u)
        (sim_expect (have a (m.question e ∷ fs) u) (operand (m.colon e a ∷ fs) u) sign.Colon i us refl
        (λ t vs q w. shuts a (m.question e) fs u us g.stop t vs q ∙ ap (λ x. m.on x sign.Colon (goes (outside (m.question e ∷ fs) u a) (operand (m.colon e a ∷ fs) u)) None) w ∙ ap (λ k. goes k (operand (m.colon e a ∷ fs) u)) (sym g.nesting))
        (λ t vs q w. shuts a (m.question e) fs u us g.stop t vs q ∙ ap (λ b. cond b (goes (outside (m.question e ∷ fs) u a) (operand (m.colon e a ∷ fs) u)) None) w))
        (λ y k vs gk. sim_then (R r.conditional k vs) _ (run T vs (operand (m.colon e a ∷ fs) u)) (λ x. have x (m.colon e a ∷ fs) u) (Got 2 (place_at vs) (inner (m.colon e a ∷ fs) u)) (λ p. have p.1 (m.colon e p.0 ∷ fs) u) (Branches e fs u)
        (R_reads.conditional (m.colon e a ∷ fs) u k vs (omega arith) (gk.nesting ∙ g.nesting))
        (λ b j ws gb. (refl, record { nesting = gb.nesting; stop = gb.stop }))))

    question_sim : (p : At) (e : Expr) (fs : List Frame) (u : Use) (n : ℕ) (ts : List Lexeme) → hole fs u ≤ 2 → n ≡ inner fs u e → 3 ≤ (about e).level → place_of e ≡ p → Stop 3 (op_of (sign_at ts)) e → (s : Sign) → sign_at ts ≡ s → Has (r.conditional_by T R e s n ts) ts (have e fs u) fs u 2 p (inner fs u)
    unfolding places.place_of
    question_sim p e fs u n ts h nn l pl st sign.Question is =
        sim_then (counted T n ts) _ (run T ts (have e fs u)) (λ x. operand (m.question e ∷ fs) u) (λ x i us. Took (suc n) i) (λ x. have x fs u) (Got 2 p (inner fs u))
        (sim_counted (have e fs u) (operand (m.question e ∷ fs) u) n ts refl (op_step e fs u m.asks ts n _ (ap op_of is) refl h l (ap (λ i. goes i (operand (m.question e ∷ fs) u)) (sym nn))))
        (λ y i us g. sim_then (r.branches T R i us) _ (run T us (operand (m.question e ∷ fs) u)) (λ p. have p.1 (m.colon e p.0 ∷ fs) u) (Branches e fs u) (λ x. have x fs u) (Got 2 p (inner fs u))
        (branches_sim e fs u i us (omega (arith, g.nesting, nn)))
        (λ b j vs gb. let whole : Expr = tree.Conditional (place_of e) e b.0 b.1 in let lv = ap (λ (s : Said). s.level) (said_conditional (place_of e) e b.0 b.1) in (
          full b.1 whole (m.colon e b.0) fs u vs (λ s more. refl) gb.stop refl,
          record { level = omega (arith, lv); place = place_conditional (place_of e) e b.0 b.1 ∙ pl; nesting = gb.nesting ∙ sym (marks_conditional (place_of e) e b.0 b.1 (first fs u)); stop = stop_same 2 _ b.1 whole (omega (arith, lv)) gb.stop },
        )))
    question_sim p e fs u n ts h nn l pl st s is = (refl, record { level = omega (arith, l); place = pl; nesting = nn; stop = stop_two (op_of (sign_at ts)) e st (λ c. not_asks (sym (ap op_of is) ∙ c)) })
      where
        not_asks : op_of s ≡ m.asks → ⊥
        not_asks e = absurd cc

    conditional_sim : (fs : List Frame) (u : Use) (n : ℕ) (ts : List Lexeme) → hole fs u ≤ 2 → n ≡ first fs u → Has (r.step T R r.conditional n ts) ts (operand fs u) fs u 2 (place_at ts) (inner fs u)
    conditional_sim fs u n ts h nn = sim_then (R (r.binary 3) n ts) _ (run T ts (operand fs u)) (λ x. have x fs u) (Got 3 (place_at ts) (inner fs u)) (λ x. have x fs u) (Got 2 (place_at ts) (inner fs u))
        (R_reads.binary 3 fs u n ts (omega arith) (omega arith) (omega (arith, h)) nn)
        (λ x i us g. question_sim (place_at ts) x fs u i us h g.nesting g.level g.place g.stop (sign_at us) refl)

    -- ---- postfix

    marks_after : (at : At) (e : Expr) (o : StepOperator) (n : ℕ) → n + (about (tree.After at e o)).marks ≡ suc (n + (about e).marks)
    marks_after at e o n = ap (λ (s : Said). n + s.marks) (said_after at e o) ∙ omega arith

    behind_sim : (e : Expr) (o : StepOperator) (fs : List Frame) (u : Use) (n : ℕ) (ts : List Lexeme) → hole fs u ≤ 15 → 15 ≤ (about e).level → n ≡ inner fs u e → op_of (sign_at ts) ≡ m.steps o → Has (r.stepped_behind T R e o n ts) ts (have e fs u) fs u 14 (place_of e) (inner fs u)
    unfolding r.stepped_behind places.place_of
    behind_sim e o fs u n ts h l nn is =
        let whole : Expr = tree.After (place_of e) e o in
        sim_then (counted T n ts) _ (run T ts (have e fs u)) (λ x. have whole fs u) (λ x i us. Took (suc n) i) (λ x. have x fs u) (Got 14 (place_of e) (inner fs u))
        (sim_counted (have e fs u) (have whole fs u) n ts refl (op_step e fs u (m.steps o) ts n _ is refl h l (ap (λ i. goes i (have whole fs u)) (sym nn))))
        (λ y i us g. got_as _ _ fs u 14 14 (place_of whole) (place_of e) (inner fs u) (inner fs u) (λ z j ws gz. record { level = gz.level; place = gz.place ∙ place_after (place_of e) e o; nesting = gz.nesting; stop = gz.stop })
        (R_reads.after_postfix whole fs u i us h (omega (arith, ap (λ (s : Said). s.level) (said_after (place_of e) e o))) (omega (arith, g.nesting, nn, marks_after (place_of e) e o (first fs u)))))

    postfix_sim : (e : Expr) (fs : List Frame) (u : Use) (n : ℕ) (ts : List Lexeme) → hole fs u ≤ 15 → 15 ≤ (about e).level → n ≡ inner fs u e → (s : Sign) → sign_at ts ≡ s → Has (r.postfix_by T R e s n ts) ts (have e fs u) fs u 14 (place_of e) (inner fs u)
    postfix_sim e fs u n ts h l nn sign.Increment is = behind_sim e step_.Increment fs u n ts h l nn (ap op_of is)
    postfix_sim e fs u n ts h l nn sign.Decrement is = behind_sim e step_.Decrement fs u n ts h l nn (ap op_of is)
    postfix_sim e fs u n ts h l nn s is = (refl, record { level = omega (arith, l); place = refl; nesting = nn; stop = stop_up 13 14 (op_of (sign_at ts)) e (omega arith) (stop_unary (op_of (sign_at ts)) e (λ x c. not_steps x (sym (ap op_of is) ∙ c))) })
      where
        not_steps : (x : StepOperator) → op_of s ≡ m.steps x → ⊥
        not_steps x e = absurd cc

    -- ---- brackets

    -- an expression up to the bracket that closes it
    marks_paren : (at : At) (e : Expr) (n : ℕ) → n + (about (tree.Paren at e)).marks ≡ behind n (about e)
    marks_paren at e n = ap (λ (s : Said). n + s.marks) (said_paren at e) ∙ omega (arith, behind_plus n (about e))

    marks_element : (at : At) (f : List ℕ) (e : Expr) (n : ℕ) → n + (about (tree.Element at f e)).marks ≡ behind n (about e)
    marks_element at f e n = ap (λ (s : Said). n + s.marks) (said_element at f e) ∙ omega (arith, behind_plus n (about e))

    parenthesis_sim : (at : At) (fs : List Frame) (u : Use) (n : ℕ) (ts : List Lexeme) → hole fs u ≤ 14 → n ≡ first fs u → Has (r.parenthesis T R at n ts) ts (operand (m.paren at ∷ fs) u) fs u 14 at (inner fs u)
    unfolding r.parenthesis
    parenthesis_sim at fs u n ts h nn = sim_then (R r.expr n ts) _ (run T ts (operand (m.paren at ∷ fs) u)) (λ x. have x (m.paren at ∷ fs) u) (Got 0 (place_at ts) (outside (m.paren at ∷ fs) u)) (λ x. have x fs u) (Got 14 at (inner fs u))
        (R_reads.expr (m.paren at ∷ fs) u n ts refl nn)
        (λ e i us g. let whole : Expr = tree.Paren at e in sim_then (expect T sign.RightParen i us) _ (run T us (have e (m.paren at ∷ fs) u)) (λ x. have whole fs u) (λ x k vs. Took i k) (λ x. have x fs u) (Got 14 at (inner fs u))
        (sim_expect (have e (m.paren at ∷ fs) u) (have whole fs u) sign.RightParen i us refl
        (λ t vs q w. shuts e (m.paren at) fs u us g.stop t vs q ∙ ap (λ x. m.on x sign.RightParen (goes (outside (m.paren at ∷ fs) u e) (have whole fs u)) None) w ∙ ap (λ k. goes k (have whole fs u)) (sym g.nesting))
        (λ t vs q w. shuts e (m.paren at) fs u us g.stop t vs q ∙ ap (λ b. cond b (goes (outside (m.paren at ∷ fs) u e) (have whole fs u)) None) w))
        (λ y k vs gk. got_as _ _ fs u 14 14 (place_of whole) at (inner fs u) (inner fs u) (λ z j ws gz. record { level = gz.level; place = gz.place ∙ place_paren at e; nesting = gz.nesting; stop = gz.stop })
        (R_reads.after_postfix whole fs u k vs (omega (arith, h)) (omega (arith, ap (λ (s : Said). s.level) (said_paren at e))) (gk.nesting ∙ g.nesting ∙ sym (marks_paren at e (first fs u))))))

    called_sim : (at : At) (f : List ℕ) (fs : List Frame) (u : Use) (n : ℕ) (ts : List Lexeme) → n ≡ first fs u → (s : Sign) → sign_at ts ≡ s → Sim (r.called_by T R at f s n ts) (run T ts (m.either sign.RightParen (first fs u) (have (tree.Call at f []) fs u) (operand (m.arguments at f [] ∷ fs) u))) (λ x. have x fs u) (λ x n2 us. (15 ≤ (about x).level) × (place_of x ≡ at) × (n2 ≡ inner fs u x))
    called_sim at f fs u n ts nn sign.RightParen is = sim_then (eat T n ts) _ (run T ts (m.either sign.RightParen (first fs u) (have (tree.Call at f []) fs u) (operand (m.arguments at f [] ∷ fs) u))) (λ x. have (tree.Call at f []) fs u) (λ x k us. Took n k) (λ x. have x fs u) (λ x n2 us. (15 ≤ (about x).level) × (place_of x ≡ at) × (n2 ≡ inner fs u x))
        (sim_eat (m.either sign.RightParen (first fs u) (have (tree.Call at f []) fs u) (operand (m.arguments at f [] ∷ fs) u)) (have (tree.Call at f []) fs u) n ts refl (λ t us q. ap (λ w. cond (m.is_sign w sign.RightParen) (goes (first fs u) (have (tree.Call at f []) fs u)) (step (operand (m.arguments at f [] ∷ fs) u) t)) (word_is t.word sign.RightParen (sign_is ts t us sign.RightParen q is) refl) ∙ ap (λ k. goes k (have (tree.Call at f []) fs u)) (sym nn)))
        (λ y k us g. (refl, (omega (arith, ap (λ (s : Said). s.level) (said_call at f [])), place_call at f [], omega (arith, g.nesting, nn, ap (λ (s : Said). s.marks) (said_call at f [])))))
    called_sim at f fs u n ts nn s is = sim_as (R (r.in_call at f []) n ts) (run T ts (m.either sign.RightParen (first fs u) (have (tree.Call at f []) fs u) (operand (m.arguments at f [] ∷ fs) u))) (run T ts (operand (m.arguments at f [] ∷ fs) u)) (λ x. have x fs u) (λ x n2 us. (15 ≤ (about x).level) × (place_of x ≡ at) × (n2 ≡ inner fs u x))
        (same_run (m.either sign.RightParen (first fs u) (have (tree.Call at f []) fs u) (operand (m.arguments at f [] ∷ fs) u)) (operand (m.arguments at f [] ∷ fs) u) ts refl (λ t us q. ap (λ b. cond b (goes (first fs u) (have (tree.Call at f []) fs u)) (step (operand (m.arguments at f [] ∷ fs) u) t)) (not_close t.word (sign_is ts t us s q is))))
        (R_reads.in_call at f [] fs u n ts nn)
      where
        not_close : (w : Word) → sign_of_word w ≡ s → m.is_sign w sign.RightParen ≡ false
        not_close (a_name n) e = refl
        not_close (a_number v d k) e = refl
        not_close (a_character v) e = refl
        not_close (a_sign x) e = subst (λ y. m.is_sign (a_sign y) sign.RightParen ≡ false) (sym e) refl

    call_end : (at : At) (f : List ℕ) (fs : List Frame) (u : Use) (n : ℕ) (ts : List Lexeme) → hole fs u ≤ 14 → n ≡ first fs u → Has (and_then (r.called T R at f n ts) (λ e. R (r.after_postfix e))) ts (m.either sign.RightParen (first fs u) (have (tree.Call at f []) fs u) (operand (m.arguments at f [] ∷ fs) u)) fs u 14 at (inner fs u)
    unfolding r.called
    call_end at f fs u n ts h nn = sim_then (r.called_by T R at f (sign_at ts) n ts) _ _ (λ x. have x fs u) (λ x n2 us. (15 ≤ (about x).level) × (place_of x ≡ at) × (n2 ≡ inner fs u x)) (λ x. have x fs u) (Got 14 at (inner fs u))
        (called_sim at f fs u n ts nn (sign_at ts) refl)
        (λ x k us g. got_as _ _ fs u 14 14 (place_of x) at (inner fs u) (inner fs u) (λ z j ws gz. record { level = gz.level; place = gz.place ∙ g.1; nesting = gz.nesting; stop = gz.stop })
        (R_reads.after_postfix x fs u k us (omega (arith, h)) g.0 g.2))

    named_sim : (at : At) (f : List ℕ) (fs : List Frame) (u : Use) (n : ℕ) (ts : List Lexeme) → hole fs u ≤ 14 → n ≡ first fs u → (s : Sign) → sign_at ts ≡ s → Has (r.named_by T R at f s n ts) ts (named at f fs u) fs u 14 at (inner fs u)
    named_sim at f fs u n ts h nn sign.LeftParen is =
        sim_then (eat T n ts) _ (run T ts (named at f fs u)) (λ x. m.either sign.RightParen (first fs u) (have (tree.Call at f []) fs u) (operand (m.arguments at f [] ∷ fs) u)) (λ x k us. Took n k) (λ x. have x fs u) (Got 14 at (inner fs u))
        (sim_eat (named at f fs u) (m.either sign.RightParen (first fs u) (have (tree.Call at f []) fs u) (operand (m.arguments at f [] ∷ fs) u)) n ts refl (λ t us q. ap (λ x. m.on_name at f fs u x) (sign_is ts t us sign.LeftParen q is) ∙ ap (λ k. goes k (m.either sign.RightParen (first fs u) (have (tree.Call at f []) fs u) (operand (m.arguments at f [] ∷ fs) u))) (sym nn)))
        (λ y k us g. call_end at f fs u k us h (g.nesting ∙ nn))
    named_sim at f fs u n ts h nn sign.LeftBracket is =
        sim_then (eat T n ts) _ (run T ts (named at f fs u)) (λ x. operand (m.element at f ∷ fs) u) (λ x k us. Took n k) (λ x. have x fs u) (Got 14 at (inner fs u))
        (sim_eat (named at f fs u) (operand (m.element at f ∷ fs) u) n ts refl (λ t us q. ap (λ x. m.on_name at f fs u x) (sign_is ts t us sign.LeftBracket q is) ∙ ap (λ k. goes k (operand (m.element at f ∷ fs) u)) (sym nn)))
        (λ y k us g. sim_then (R r.expr k us) _ (run T us (operand (m.element at f ∷ fs) u)) (λ x. have x (m.element at f ∷ fs) u) (Got 0 (place_at us) (outside (m.element at f ∷ fs) u)) (λ x. have x fs u) (Got 14 at (inner fs u))
        (R_reads.expr (m.element at f ∷ fs) u k us refl (g.nesting ∙ nn))
        (λ e i vs ge. let whole : Expr = tree.Element at f e in sim_then (expect T sign.RightBracket i vs) _ (run T vs (have e (m.element at f ∷ fs) u)) (λ x. have whole fs u) (λ x j ws. Took i j) (λ x. have x fs u) (Got 14 at (inner fs u))
        (sim_expect (have e (m.element at f ∷ fs) u) (have whole fs u) sign.RightBracket i vs refl
        (λ t ws q w. shuts e (m.element at f) fs u vs ge.stop t ws q ∙ ap (λ x. m.on x sign.RightBracket (goes (outside (m.element at f ∷ fs) u e) (have whole fs u)) None) w ∙ ap (λ k. goes k (have whole fs u)) (sym ge.nesting))
        (λ t ws q w. shuts e (m.element at f) fs u vs ge.stop t ws q ∙ ap (λ b. cond b (goes (outside (m.element at f ∷ fs) u e) (have whole fs u)) None) w))
        (λ y2 j ws gj. got_as _ _ fs u 14 14 (place_of whole) at (inner fs u) (inner fs u) (λ z l os gz. record { level = gz.level; place = gz.place ∙ place_element at f e; nesting = gz.nesting; stop = gz.stop })
        (R_reads.after_postfix whole fs u j ws (omega (arith, h)) (omega (arith, ap (λ (s : Said). s.level) (said_element at f e))) (gj.nesting ∙ ge.nesting ∙ sym (marks_element at f e (first fs u)))))))
    named_sim at f fs u n ts h nn s is =
        let name : Expr = tree.Name at f in
        sim_as (R (r.after_postfix name) n ts) (run T ts (named at f fs u)) (run T ts (have name fs u)) (λ x. have x fs u) (Got 14 at (inner fs u))
        (same_run (named at f fs u) (have name fs u) ts refl (λ t us q. let w = sign_is ts t us s q is in ap (λ x. m.on_name at f fs u x) w ∙ ap (λ x. offer x name fs u) (sym w)))
        (got_as _ _ fs u 14 14 (place_of name) at (inner fs u) (inner fs u) (λ z l os gz. record { level = gz.level; place = gz.place ∙ place_name at f; nesting = gz.nesting; stop = gz.stop })
        (R_reads.after_postfix name fs u n ts (omega (arith, h)) (omega (arith, ap (λ (s : Said). s.level) (said_name at f))) (omega (arith, nn, ap (λ (s : Said). s.marks) (said_name at f)))))

    -- an operand of one word
    literal_sim : (at : At) (e : Expr) (w : Word) (fs : List Frame) (u : Use) (n : ℕ) (ts : List Lexeme) → hole fs u ≤ 14 → n ≡ first fs u → word_at ts ≡ w → at ≡ place_at ts → ((q : At) → m.on_operand at w fs u ≡ goes (first fs u) (have e fs u)) → 15 ≤ (about e).level → place_of e ≡ at → (about e).marks ≡ 0 → Has (and_then (eat T n ts) (λ x. R (r.after_postfix e))) ts (operand fs u) fs u 14 at (inner fs u)
    literal_sim at e w fs u n ts h nn is here does l pl mk =
        sim_then (eat T n ts) _ (run T ts (operand fs u)) (λ x. have e fs u) (λ x k us. Took n k) (λ x. have x fs u) (Got 14 at (inner fs u))
        (sim_eat (operand fs u) (have e fs u) n ts refl (λ t us q. ap (λ y. m.on_operand t.at y fs u) (word_at_is ts t us w q is) ∙ ap (λ y. m.on_operand y w fs u) (place_is ts t us q ∙ sym here) ∙ does at ∙ ap (λ k. goes k (have e fs u)) (sym nn)))
        (λ y k us g. got_as _ _ fs u 14 14 (place_of e) at (inner fs u) (inner fs u) (λ z j ws gz. record { level = gz.level; place = gz.place ∙ pl; nesting = gz.nesting; stop = gz.stop })
        (R_reads.after_postfix e fs u k us (omega (arith, h)) l (omega (arith, g.nesting, nn, mk))))

    primary_sim : (at : At) (fs : List Frame) (u : Use) (n : ℕ) (ts : List Lexeme) → hole fs u ≤ 14 → n ≡ first fs u → at ≡ place_at ts → ((x : Sign) → word_at ts ≡ a_sign x → m.prefix at x fs u ≡ None) → (w : Word) → word_at ts ≡ w → Has (r.primary_by T R at w n ts) ts (operand fs u) fs u 14 at (inner fs u)
    unfolding r.named
    primary_sim at fs u n ts h nn here no_sign (a_name f) is = sim_then (eat T n ts) _ (run T ts (operand fs u)) (λ x. named at f fs u) (λ x k us. Took n k) (λ x. have x fs u) (Got 14 at (inner fs u))
        (sim_eat (operand fs u) (named at f fs u) n ts refl (λ t us q. ap (λ y. m.on_operand t.at y fs u) (word_at_is ts t us (a_name f) q is) ∙ ap (λ y. goes (first fs u) (named y f fs u)) (place_is ts t us q ∙ sym here) ∙ ap (λ k. goes k (named at f fs u)) (sym nn)))
        (λ y k us g. named_sim at f fs u k us h (g.nesting ∙ nn) (sign_at us) refl)
    primary_sim at fs u n ts h nn here no_sign (a_number v d k) is = literal_sim at (tree.Number at v d k) (a_number v d k) fs u n ts h nn is here (λ q. refl) (omega (arith, ap (λ (s : Said). s.level) (said_number at v d k))) (place_number at v d k) (ap (λ (s : Said). s.marks) (said_number at v d k))
    primary_sim at fs u n ts h nn here no_sign (a_character v) is = literal_sim at (tree.Character at v) (a_character v) fs u n ts h nn is here (λ q. refl) (omega (arith, ap (λ (s : Said). s.level) (said_character at v))) (place_character at v) (ap (λ (s : Said). s.marks) (said_character at v))
    primary_sim at fs u n ts h nn here no_sign (a_sign x) is = sim_wrong (operand fs u) n ts (λ x. have x fs u) (Got 14 at (inner fs u)) refl (λ t us q. ap (λ y. m.on_operand t.at y fs u) (word_at_is ts t us (a_sign x) q is) ∙ ap (λ y. m.prefix y x fs u) (place_is ts t us q ∙ sym here) ∙ no_sign x is)

    word_sign : (ts : List Lexeme) (x : Sign) → word_at ts ≡ a_sign x → sign_at ts ≡ x
    unfolding word_at sign_at
    word_sign [] x e = let f : sign.End ≡ x = cc in f
    word_sign (t ∷ ts) x e = ap sign_of_word e

    -- ---- unary

    -- the first word of an operand is this sign
    prefix_step : (ts : List Lexeme) (x : Sign) (at : At) (fs : List Frame) (u : Use) (n : ℕ) (s2 : State) → sign_at ts ≡ x → same x sign.Other ≡ false → at ≡ place_at ts → m.prefix at x fs u ≡ Some (n, s2) → (t : Lexeme) (us : List Lexeme) → ts ≡ t ∷ us → step (operand fs u) t ≡ Some (n, s2)
    prefix_step ts x at fs u n s2 is other here does t us q = ap (λ w. m.on_operand t.at w fs u) (word_is t.word x (sign_is ts t us x q is) other) ∙ ap (λ y. m.prefix y x fs u) (place_is ts t us q ∙ sym here) ∙ does

    stepped_sim : (at : At) (o : StepOperator) (x : Sign) (fs : List Frame) (u : Use) (n : ℕ) (ts : List Lexeme) → hole fs u ≤ 14 → n ≡ first fs u → sign_at ts ≡ x → same x sign.Other ≡ false → at ≡ place_at ts → m.prefix at x fs u ≡ goes (first fs u) (operand (m.before at o ∷ fs) u) → Has (r.stepped T R at o n ts) ts (operand fs u) fs u 14 at (inner fs u)
    unfolding r.stepped
    stepped_sim at o x fs u n ts h nn is other here does = sim_then (counted T n ts) _ (run T ts (operand fs u)) (λ x. operand (m.before at o ∷ fs) u) (λ x k us. Took (suc n) k) (λ x. have x fs u) (Got 14 at (inner fs u))
        (sim_counted (operand fs u) (operand (m.before at o ∷ fs) u) n ts refl (prefix_step ts x at fs u n _ is other here (does ∙ ap (λ k. goes k (operand (m.before at o ∷ fs) u)) (sym nn))))
        (λ y k us g. sim_then (R r.unary k us) _ (run T us (operand (m.before at o ∷ fs) u)) (λ x. have x (m.before at o ∷ fs) u) (Got 14 (place_at us) (inner (m.before at o ∷ fs) u)) (λ x. have x fs u) (Got 14 at (inner fs u))
        (R_reads.unary (m.before at o ∷ fs) u k us (omega arith) (λ le. absurd (omega (arith, le))) (omega (arith, g.nesting, nn)))
        (λ e i vs ge. let whole : Expr = tree.Before at o e in (
          full e whole (m.before at o) fs u vs (λ s more. refl) ge.stop refl,
          record { level = omega (arith, ap (λ (s : Said). s.level) (said_before at o e)); place = place_before at o e; nesting = omega (arith, ge.nesting, ap (λ (s : Said). s.marks) (said_before at o e)); stop = stop_other (op_of (sign_at vs)) e whole ge.stop },
        )))
      where
        stop_other : (o : Op) (e y : Expr) → Stop 14 o e → Stop 14 o y
        stop_other (m.assigns o) e y h = λ g. absurd (omega (arith, g))
        stop_other m.closes e y h = tt
        stop_other (m.joins o) e y h = h
        stop_other (m.steps o) e y h = h
        stop_other m.asks e y h = h
        stop_other m.commas e y h = h

    signed_sim : (at : At) (o : UnaryOperator) (x : Sign) (fs : List Frame) (u : Use) (n : ℕ) (ts : List Lexeme) → hole fs u ≤ 14 → n ≡ first fs u → sign_at ts ≡ x → same x sign.Other ≡ false → at ≡ place_at ts → m.prefix at x fs u ≡ goes (first fs u) (operand (m.unary at o ∷ fs) u) → Has (r.signed T R at o n ts) ts (operand fs u) fs u 14 at (inner fs u)
    unfolding r.signed
    signed_sim at o x fs u n ts h nn is other here does = sim_then (counted T n ts) _ (run T ts (operand fs u)) (λ x. operand (m.unary at o ∷ fs) u) (λ x k us. Took (suc n) k) (λ x. have x fs u) (Got 14 at (inner fs u))
        (sim_counted (operand fs u) (operand (m.unary at o ∷ fs) u) n ts refl (prefix_step ts x at fs u n _ is other here (does ∙ ap (λ k. goes k (operand (m.unary at o ∷ fs) u)) (sym nn))))
        (λ y k us g. sim_then (R r.cast k us) _ (run T us (operand (m.unary at o ∷ fs) u)) (λ x. have x (m.unary at o ∷ fs) u) (Got 13 (place_at us) (inner (m.unary at o ∷ fs) u)) (λ x. have x fs u) (Got 14 at (inner fs u))
        (R_reads.cast (m.unary at o ∷ fs) u k us (omega arith) (omega (arith, g.nesting, nn)))
        (λ e i vs ge. let whole : Expr = tree.Unary at o e in (
          full e whole (m.unary at o) fs u vs (λ s more. refl) ge.stop refl,
          record { level = omega (arith, ap (λ (s : Said). s.level) (said_unary at o e)); place = place_unary at o e; nesting = omega (arith, ge.nesting, ap (λ (s : Said). s.marks) (said_unary at o e)); stop = stop_other (op_of (sign_at vs)) e whole ge.stop },
        )))
      where
        stop_other : (o : Op) (e y : Expr) → Stop 13 o e → Stop 14 o y
        stop_other (m.assigns o) e y h = λ g. absurd (omega (arith, g))
        stop_other m.closes e y h = tt
        stop_other (m.joins o) e y h = omega (arith, h)
        stop_other (m.steps o) e y h = omega (arith, h)
        stop_other m.asks e y h = omega arith
        stop_other m.commas e y h = omega arith

    unary_sim : (at : At) (fs : List Frame) (u : Use) (n : ℕ) (ts : List Lexeme) → hole fs u ≤ 14 → (hole fs u ≤ 13 → sign_at ts ≡ sign.LeftParen → ⊥) → n ≡ first fs u → at ≡ place_at ts → (s : Sign) → sign_at ts ≡ s → Has (r.unary_by T R at s n ts) ts (operand fs u) fs u 14 at (inner fs u)
    unfolding r.primary
    unary_sim at fs u n ts h np nn here sign.Increment is = stepped_sim at step_.Increment sign.Increment fs u n ts h nn is refl here refl
    unary_sim at fs u n ts h np nn here sign.Decrement is = stepped_sim at step_.Decrement sign.Decrement fs u n ts h nn is refl here refl
    unary_sim at fs u n ts h np nn here sign.Plus is = signed_sim at unary_.Plus sign.Plus fs u n ts h nn is refl here refl
    unary_sim at fs u n ts h np nn here sign.Minus is = signed_sim at unary_.Minus sign.Minus fs u n ts h nn is refl here refl
    unary_sim at fs u n ts h np nn here sign.Tilde is = signed_sim at unary_.Complement sign.Tilde fs u n ts h nn is refl here refl
    unary_sim at fs u n ts h np nn here sign.Exclamation is = signed_sim at unary_.Not sign.Exclamation fs u n ts h nn is refl here refl
    unary_sim at fs u n ts h np nn here sign.LeftParen is = sim_then (eat T n ts) _ (run T ts (operand fs u)) (λ x. opened at fs u) (λ x k us. Took n k) (λ x. have x fs u) (Got 14 at (inner fs u))
        (sim_eat (operand fs u) (opened at fs u) n ts refl (prefix_step ts sign.LeftParen at fs u n _ is refl here (ap (λ k. goes k (opened at fs u)) (sym nn))))
        (λ y k us g. sim_as (r.parenthesis T R at k us) (run T us (opened at fs u)) (run T us (operand (m.paren at ∷ fs) u)) (λ x. have x fs u) (Got 14 at (inner fs u))
        (same_run (opened at fs u) (operand (m.paren at ∷ fs) u) us refl (λ t vs q. never_type t.at t.word (type_of (sign_of_word t.word)) refl))
        (parenthesis_sim at fs u k us h (g.nesting ∙ nn)))
      where
        high : nat_le (hole fs u) 13 ≡ false
        high = by_hole (nat_le (hole fs u) 13) refl
          where
            by_hole : (b : Bool) → nat_le (hole fs u) 13 ≡ b → b ≡ false
            by_hole false e = refl
            by_hole true e = absurd (np (leb-true (hole fs u) 13 e) is)

        type_none : (w : Word) (ty : TypeWords) (p : At) → type_of (sign_of_word w) ≡ Some ty → m.on_operand p w (m.paren at ∷ fs) u ≡ None
        type_none (a_name x) ty p e = absurd cc
        type_none (a_number v d x) ty p e = absurd cc
        type_none (a_character v) ty p e = absurd cc
        type_none (a_sign sign.Char) ty p e = refl
        type_none (a_sign sign.Int) ty p e = refl
        type_none (a_sign sign.Signed) ty p e = refl
        type_none (a_sign sign.Unsigned) ty p e = refl
        type_none (a_sign _) ty p e = absurd cc

        never_type : (p : At) (w : Word) (o : Option TypeWords) → type_of (sign_of_word w) ≡ o → m.on_opened at p w o fs u ≡ m.on_operand p w (m.paren at ∷ fs) u
        never_type p w None e = refl
        never_type p w (Some ty) e = ap (λ b. cond b (goes (first fs u) (casting at ty fs u)) None) high ∙ sym (type_none w ty p e)
    unary_sim at fs u n ts h np nn here s is = primary_sim at fs u n ts h nn here (λ x e. no_prefix x (sign_same x e)) (word_at ts) refl
      where
        sign_same : (x : Sign) → word_at ts ≡ a_sign x → x ≡ s
        sign_same x e = sym (word_sign ts x e) ∙ is

        no_prefix : (x : Sign) → x ≡ s → m.prefix at x fs u ≡ None
        no_prefix x e = subst (λ y. m.prefix at y fs u ≡ None) (sym e) refl

    -- ---- casts

    marks_cast : (at : At) (ty : TypeWords) (e : Expr) (n : ℕ) → n + (about (tree.Cast at ty e)).marks ≡ suc n + (about e).marks
    marks_cast at ty e n = ap (λ (s : Said). n + s.marks) (said_cast at ty e) ∙ omega (arith, typed_marks ty)
      where
        typed_marks : (ty : TypeWords) → marks_of (type ty ++ operator sign.RightParen ∷ sub 13 (about e) ∷ []) ≡ suc ((about e).marks + 0)
        typed_marks words.Char = refl
        typed_marks words.Int = refl
        typed_marks words.Signed = refl
        typed_marks words.Unsigned = refl
        typed_marks _ = refl

    cast_end : (at : At) (ty : TypeWords) (fs : List Frame) (u : Use) (n : ℕ) (ts : List Lexeme) → n ≡ first fs u → joined ty (sign_at ts) ≡ None → Has ((expect T sign.RightParen >>= (λ x. deeper >>= (λ y. R r.cast >>= (λ e. pure (tree.Cast at ty e))))) n ts) ts (casting at ty fs u) fs u 13 at (inner fs u)
    cast_end at ty fs u n ts nn none = sim_then (expect T sign.RightParen n ts) _ (run T ts (casting at ty fs u)) (λ x. operand (m.cast at ty ∷ fs) u) (λ x k us. Took n k) (λ x. have x fs u) (Got 13 at (inner fs u))
        (sim_expect (casting at ty fs u) (operand (m.cast at ty ∷ fs) u) sign.RightParen n ts refl
        (λ t us q w. at_none t us q ∙ ap (λ x. m.on x sign.RightParen (goes (first fs u) (operand (m.cast at ty ∷ fs) u)) None) w ∙ ap (λ k. goes k (operand (m.cast at ty ∷ fs) u)) (sym nn))
        (λ t us q w. at_none t us q ∙ ap (λ b. cond b (goes (first fs u) (operand (m.cast at ty ∷ fs) u)) None) w))
        (λ y k us g. sim_then (R r.cast (suc k) us) _ (run T us (operand (m.cast at ty ∷ fs) u)) (λ x. have x (m.cast at ty ∷ fs) u) (Got 13 (place_at us) (inner (m.cast at ty ∷ fs) u)) (λ x. have x fs u) (Got 13 at (inner fs u))
        (R_reads.cast (m.cast at ty ∷ fs) u (suc k) us (omega arith) (omega (arith, g.nesting, nn)))
        (λ e i vs ge. let whole : Expr = tree.Cast at ty e in let lv = ap (λ (s : Said). s.level) (said_cast at ty e) in
        (full e whole (m.cast at ty) fs u vs (λ s more. refl) ge.stop refl, record { level = omega (arith, lv); place = place_cast at ty e; nesting = ge.nesting ∙ sym (marks_cast at ty e (first fs u)); stop = stop_same 13 _ e whole (omega (arith, lv)) ge.stop })))
      where
        at_none : (t : Lexeme) (us : List Lexeme) → ts ≡ t ∷ us → step (casting at ty fs u) t ≡ m.on (sign_of_word t.word) sign.RightParen (goes (first fs u) (operand (m.cast at ty ∷ fs) u)) None
        at_none t us q = ap (λ o. m.on_casting at ty (sign_of_word t.word) o fs u) (ap (λ x. joined ty x) (sign_is ts t us (sign_at ts) q refl) ∙ none)

    stop_down : (o : Op) (e : Expr) → Stop 14 o e → Stop 13 o e
    stop_down (m.assigns o) e h = λ g. absurd (omega (arith, g))
    stop_down m.closes e h = tt
    stop_down (m.joins o) e h = omega (arith, prec_high o)
    stop_down (m.steps o) e h = absurd (omega (arith, h))
    stop_down m.asks e h = omega arith
    stop_down m.commas e h = omega arith

    lower : (a : Read Expr) (v : Outcome) (fs : List Frame) (u : Use) (p : At) → Sim a v (λ x. have x fs u) (Got 14 p (inner fs u)) → Sim a v (λ x. have x fs u) (Got 13 p (inner fs u))
    lower a v fs u p s = got_as a v fs u 14 13 p p (inner fs u) (inner fs u) (λ x n us g. record { level = omega (arith, g.level); place = g.place; nesting = g.nesting; stop = stop_down _ x g.stop }) s

    parenthesised_sim : (at : At) (fs : List Frame) (u : Use) (n : ℕ) (ts : List Lexeme) → hole fs u ≤ 13 → n ≡ first fs u → (o : Option TypeWords) → type_of (sign_at ts) ≡ o → Has (r.cast_or_parenthesis_by T R at o n ts) ts (opened at fs u) fs u 13 at (inner fs u)
    parenthesised_sim at fs u n ts h nn None is = lower _ _ fs u at (sim_as (r.parenthesis T R at n ts) (run T ts (opened at fs u)) (run T ts (operand (m.paren at ∷ fs) u)) (λ x. have x fs u) (Got 14 at (inner fs u))
        (same_run (opened at fs u) (operand (m.paren at ∷ fs) u) ts refl (λ t us q. ap (λ o. m.on_opened at t.at t.word o fs u) (ap type_of (sign_is ts t us (sign_at ts) q refl) ∙ is)))
        (parenthesis_sim at fs u n ts (omega (arith, h)) nn))
    parenthesised_sim at fs u n ts h nn (Some ty) is = sim_then (r.type_words T n ts) _ (run T ts (opened at fs u)) (λ w. casting at w fs u) (Typed n) (λ x. have x fs u) (Got 13 at (inner fs u))
        (types_sim (opened at fs u) (λ w. casting at w fs u) n ts (record {
          begins = λ t us q w e. ap (λ o. m.on_opened at t.at t.word o fs u) e ∙ ap (λ b. cond b (goes (first fs u) (casting at w fs u)) None) (le-leb _ _ h) ∙ ap (λ k. goes k (casting at w fs u)) (sym nn);
          others = λ t us q e. absurd (some_none ty (sym is ∙ ap type_of (sym (sign_is ts t us (sign_at ts) q refl)) ∙ e));
          extends = λ t w v e. ap (λ o. m.on_casting at w (sign_of_word t.word) o fs u) e ∙ ap (λ k. goes k (casting at v fs u)) (sym nn);
          open_first = refl;
          open_last = λ w. refl;
        }))
        (λ w k us g. cast_end at w fs u k us (g.nesting ∙ nn) g.ended)
      where
        some_none : (w : TypeWords) → Some w ≡ None → ⊥
        some_none w e = absurd cc

    cast_sim : (at : At) (fs : List Frame) (u : Use) (n : ℕ) (ts : List Lexeme) → hole fs u ≤ 13 → n ≡ first fs u → at ≡ place_at ts → (s : Sign) → sign_at ts ≡ s → Has (r.cast_by T R at s n ts) ts (operand fs u) fs u 13 at (inner fs u)
    unfolding r.cast_or_parenthesis q.type_of
    cast_sim at fs u n ts h nn here sign.LeftParen is = sim_then (eat T n ts) _ (run T ts (operand fs u)) (λ x. opened at fs u) (λ x k us. Took n k) (λ x. have x fs u) (Got 13 at (inner fs u))
        (sim_eat (operand fs u) (opened at fs u) n ts refl (prefix_step ts sign.LeftParen at fs u n _ is refl here (ap (λ k. goes k (opened at fs u)) (sym nn))))
        (λ y k us g. parenthesised_sim at fs u k us h (g.nesting ∙ nn) (type_of (sign_at us)) refl)
    cast_sim at fs u n ts h nn here s is = lower _ _ fs u at (got_as _ _ fs u 14 14 (place_at ts) at (inner fs u) (inner fs u) (λ x k us g. record { level = g.level; place = g.place ∙ sym here; nesting = g.nesting; stop = g.stop })
        (R_reads.unary fs u n ts (omega (arith, h)) (λ le p. not_paren (sym is ∙ p)) nn))
      where
        not_paren : s ≡ sign.LeftParen → ⊥
        not_paren e = absurd cc

    -- ---- arguments

    abbrev Called : At → List Frame → Use → Expr → ℕ → List Lexeme → Type 0
    Called at fs u x n2 us = (15 ≤ (about x).level) × (place_of x ≡ at) × (n2 ≡ inner fs u x)

    marks_call : (at : At) (f : List ℕ) (es : List Expr) → (about (tree.Call at f es)).marks ≡ 0
    marks_call at f es = ap (λ (s : Said). s.marks) (said_call at f es) ∙ none es
      where
        none : (es : List Expr) → marks_of (commas assign (map about es) ++ the_sign sign.RightParen ∷ []) ≡ 0
        none [] = refl
        none (x ∷ []) = refl
        none (x ∷ y ∷ es) = none (y ∷ es)

    call_sim : (at : At) (f : List ℕ) (es : List Expr) (fs : List Frame) (u : Use) (n : ℕ) (ts : List Lexeme) → n ≡ first fs u → Sim (r.step T R (r.in_call at f es) n ts) (run T ts (operand (m.arguments at f es ∷ fs) u)) (λ x. have x fs u) (Called at fs u)
    call_sim at f es fs u n ts nn = sim_then (R r.assign n ts) _ (run T ts (operand (m.arguments at f es ∷ fs) u)) (λ x. have x (m.arguments at f es ∷ fs) u) (Got 1 (place_at ts) (λ x. spot (m.arguments at f es ∷ fs) u)) (λ x. have x fs u) (Called at fs u)
        (R_reads.assign (m.arguments at f es ∷ fs) u n ts (omega arith) nn)
        (λ x k us g. sim_then (more T sign.RightParen k us) _ (run T us (have x (m.arguments at f es ∷ fs) u)) (λ b. cond b (operand (m.arguments at f (es ++ x ∷ []) ∷ fs) u) (have (tree.Call at f (es ++ x ∷ [])) fs u)) (λ b i vs. Took k i) (λ x. have x fs u) (Called at fs u)
        (sim_more (have x (m.arguments at f es ∷ fs) u) (operand (m.arguments at f (es ++ x ∷ []) ∷ fs) u) (have (tree.Call at f (es ++ x ∷ [])) fs u) sign.RightParen k us refl
        (λ t vs q w. shuts x (m.arguments at f es) fs u us g.stop t vs q ∙ ap (λ y. shut (m.arguments at f es) x fs u y (offer (sign_of_word t.word) (fill (m.arguments at f es) x) fs u)) w ∙ ap (λ i. goes i (operand (m.arguments at f (es ++ x ∷ []) ∷ fs) u)) (sym g.nesting))
        (λ t vs q w. shuts x (m.arguments at f es) fs u us g.stop t vs q ∙ ap (λ y. shut (m.arguments at f es) x fs u y (offer (sign_of_word t.word) (fill (m.arguments at f es) x) fs u)) w ∙ ap (λ i. goes i (have (tree.Call at f (es ++ x ∷ [])) fs u)) (sym g.nesting))
        (λ t vs q c d. shuts x (m.arguments at f es) fs u us g.stop t vs q ∙ ap (λ b. cond b (goes (first fs u) (operand (m.arguments at f (es ++ x ∷ []) ∷ fs) u)) (m.on (sign_of_word t.word) sign.RightParen (goes (first fs u) (have (tree.Call at f (es ++ x ∷ [])) fs u)) None)) c ∙ ap (λ b. cond b (goes (first fs u) (have (tree.Call at f (es ++ x ∷ [])) fs u)) None) d))
        (λ b i vs gi. onward x b i vs (gi.nesting ∙ g.nesting)))
      where
        onward : (x : Expr) (b : Bool) (i : ℕ) (vs : List Lexeme) → i ≡ first fs u → Sim ((cond b (R (r.in_call at f (es ++ x ∷ []))) (pure (tree.Call at f (es ++ x ∷ [])))) i vs) (run T vs (cond b (operand (m.arguments at f (es ++ x ∷ []) ∷ fs) u) (have (tree.Call at f (es ++ x ∷ [])) fs u))) (λ x. have x fs u) (Called at fs u)
        onward x true i vs e = R_reads.in_call at f (es ++ x ∷ []) fs u i vs e
        onward x false i vs e = (refl, (omega (arith, ap (λ (s : Said). s.level) (said_call at f (es ++ x ∷ []))), place_call at f (es ++ x ∷ []), omega (arith, e, marks_call at f (es ++ x ∷ []))))

    pub step_reads : Reads (r.step T R)
    step_reads = record {
      expr = expr_sim;
      assign = assign_sim;
      conditional = conditional_sim;
      binary = binary_sim;
      cast = λ fs u n ts h nn. cast_sim (place_at ts) fs u n ts h nn refl (sign_at ts) refl;
      unary = λ fs u n ts h np nn. unary_sim (place_at ts) fs u n ts h np nn refl (sign_at ts) refl;
      after_comma = λ e fs u n ts h nn st. comma_sim e fs u n ts h nn st (sign_at ts) refl;
      after_operand = operand_sim;
      after_postfix = λ e fs u n ts h l nn. postfix_sim e fs u n ts h l nn (sign_at ts) refl;
      in_call = call_sim;
    }

  pub nothing_reads : Reads (r.read T 0)
  nothing_reads = record {
    expr = λ fs u n ts h nn. tt;
    assign = λ fs u n ts h nn. tt;
    conditional = λ fs u n ts h nn. tt;
    binary = λ k fs u n ts lo hi h nn. tt;
    cast = λ fs u n ts h nn. tt;
    unary = λ fs u n ts h np nn. tt;
    after_comma = λ e fs u n ts h nn st. tt;
    after_operand = λ k e fs u n ts lo hi h l nn ed. tt;
    after_postfix = λ e fs u n ts h l nn. tt;
    in_call = λ at f es fs u n ts nn. tt;
  }

  -- the reading of expressions, however deep its calls may go
  pub read_reads : (d : ℕ) → Reads (r.read T d)
  read_reads zero = nothing_reads
  read_reads (suc d) = step_reads (r.read T d) (read_reads d)
