-- The machine over the words of an expression comes to have that expression.
use Rattle.std.proofs.Common.{◌≡◌, ℕ, ℤ, suc, ◌+◌, ◌≤◌, Bool, true, cond, ◌&&◌, List, [], ◌∷◌, ◌++◌, map, Some, None, refl, sym, ap, subst, ◌∙◌, append_assoc, arith}
use Rattle.std.proofs.lemmas.Bool.{and_parts, le-leb}
use Rattle.c_tree.specs.declared.token.At.{At}
use Rattle.c_tree.specs.declared.syntax.TypeWords.{TypeWords}
use Rattle.c_tree.specs.declared.syntax.TypeWords.TheVariants as words
use Rattle.c_tree.specs.declared.syntax.BinaryOperator.{BinaryOperator}
use Rattle.c_tree.specs.declared.syntax.AssignOperator.{AssignOperator}
use Rattle.c_tree.specs.declared.syntax.UnaryOperator.{UnaryOperator}
use Rattle.c_tree.specs.declared.syntax.UnaryOperator.TheVariants as unary_
use Rattle.c_tree.specs.declared.syntax.StepOperator.{StepOperator}
use Rattle.c_tree.specs.declared.syntax.StepOperator.TheVariants as step_
use Rattle.c_tree.specs.declared.syntax.Expr.{Expr}
use Rattle.c_tree.specs.declared.syntax.Expr.TheVariants as tree
use Rattle.c_grammar.specs.declared.sign.Sign.{Sign}
use Rattle.c_grammar.specs.declared.sign.Sign.TheVariants as sign
use Rattle.c_grammar.specs.Words.{a_sign, sign_of_word, Lexeme}
use Rattle.c_grammar.specs.Operators.{precedence, binary_sign, assign_sign, unary_sign, step_sign}
use Rattle.c_grammar.specs.Phrases.{Leaf, leaf, Said, Part, sub, stands, is_at, entry, leaves_of, all_fit, commas, the_sign, operator}
use Rattle.c_grammar.specs.Grammar.{about, type, assign}
use Rattle.c_parser.proofs.Asked.{place_of, joined}
use Rattle.c_parser.proofs.Machine as m
use Rattle.c_parser.proofs.Machine.{State, operand, have, named, opened, casting, Frame, Use, step, run, Outcome, Next, goes, moved, hole, opens, entered, spot, first, Op, op_of, own, left, is_op, takes, push, fill, shut, offer, close_use}
use Rattle.c_parser.proofs.Trees.{induction, said_comma, said_assign, said_conditional, said_binary, said_cast, said_unary, said_before, said_after, said_name, said_element, said_call, said_number, said_character, said_paren}
use Rattle.c_parser.proofs.Runs.{lex, head_sign, starts, Met, met_as, took, skip, alike, typed, Typing, type_of_leaves}
use Rattle.c_parser.proofs.ExprRuns.{not_sign, fit, left_fit, placed, binds, Follow, follow_up, follow_none, follow_comma, prec_low, prec_high, binary_op, assign_op, step_op, binary_binds, assign_binds, step_binds, under, pushed, shut_by, shut_none, open_first, entry_open, heads, no_type}

abbrev a_sign_leaf : Sign → ℕ → Leaf
a_sign_leaf s n = leaf (a_sign s) None n

unary_step : (p : At) (o : UnaryOperator) (fs : List Frame) (u : Use) → m.prefix p (unary_sign o) fs u ≡ goes (first fs u) (operand (m.unary p o ∷ fs) u)
unary_step p unary_.Plus fs u = refl
unary_step p _ fs u = refl

before_step : (p : At) (o : StepOperator) (fs : List Frame) (u : Use) → m.prefix p (step_sign o) fs u ≡ goes (first fs u) (operand (m.before p o ∷ fs) u)
before_step p step_.Increment fs u = refl
before_step p _ fs u = refl

unnamed : (at : At) (n : List ℕ) (fs : List Frame) (u : Use) (s : Sign) → binds s ≤ 16 → m.on_name at n fs u s ≡ offer s (tree.Name at n) fs u
unnamed at n fs u sign.LeftParen h = absurd (omega arith)
unnamed at n fs u sign.LeftBracket h = absurd (omega arith)
unnamed at n fs u s h = refl

follow_13 : (r : List Leaf) → Follow 14 r → Follow 13 r
follow_13 r f = record { top = f.top; cast = λ h. f.cast (omega arith); mid = λ h. absurd (omega (arith, h)); two = λ h. absurd (omega (arith, h)); one = λ h. absurd (omega (arith, h)) }

module _ (T : ℕ → Bool) where
  abbrev pub Goal : Expr → List Frame → Use → List Leaf → List Leaf → Type 0
  Goal e fs u ls r = (ts : List Lexeme) (v : Outcome) → Met T ts ls → ((vs : List Lexeme) → Met T vs r → run T vs (have e fs u) ≡ v) → run T ts (operand fs u) ≡ v

  abbrev pub All : Expr → Said → Type 0
  All e S = (fs : List Frame) (u : Use) → hole fs u ≤ S.level → (r : List Leaf) → Follow S.level r → Goal e fs u (S.leaves (first fs u) r) r

  pub record Claims (e : Expr) (S : Said) : Type 0 where
    pub all : 1 ≤ S.level → All e S
    pub exp : (fs : List Frame) (u : Use) → hole fs u ≡ 0 → (r : List Leaf) → Follow S.level r → Goal e fs u (S.leaves (entry (spot fs u) S) r) r

  from_all : (e : Expr) (S : Said) → 1 ≤ S.level → All e S → Claims e S
  from_all e S one all = record {
    all = λ o. all;
    exp = λ fs u z r f ts v mt k. all fs u (omega (arith, z)) r f ts v (met_as T ts _ _ (ap (λ n. S.leaves n r) (entry_open (spot fs u) S one ∙ sym (open_first fs u z))) mt) k;
  }

  pub filled : (e : Expr) (f : Frame) (fs : List Frame) (u : Use) (k : ℕ) (ts : List Lexeme) (r : List Leaf) → hole (f ∷ fs) u ≡ k → 1 ≤ k → k ≤ 16 → binds (head_sign r) ≤ k → ((s : Sign) (more : Next) → shut f e fs u s more ≡ more) → Met T ts r → run T ts (have e (f ∷ fs) u) ≡ run T ts (have (fill f e) fs u)
  filled e f fs u k ts r is one high le through mt = alike T (have e (f ∷ fs) u) (have (fill f e) fs u) ts r refl
      (λ t st. shut_by (sign_of_word t.word) e f fs u (omega (arith, is, under (sign_of_word t.word) k one high (subst (λ s. binds s ≤ k) (sym st) le))) ∙ through _ _) mt

  -- a word that an expression's operator is
  operates : (e : Expr) (fs : List Frame) (u : Use) (s2 : State) (o : Op) (x : Sign) (n : ℕ) (p : At) → op_of x ≡ o → is_op o ≡ true → hole fs u ≤ own o → left o ≤ (about e).level → push o e fs u ≡ Some (n, s2) → step (have e fs u) (lex (a_sign x) p) ≡ Some (n, s2)
  operates e fs u s2 o x n p is op h l to = pushed o x e fs u is op h l ∙ to

  abbrev pub Good : Expr → Type 0
  Good e = (about e).fits ≡ true → Claims e (about e)

  number_good : (at : At) (v : ℕ) (d k : Bool) → Good (tree.Number at v d k)
  number_good at v d k fits = subst (λ s. Claims (tree.Number at v d k) s) (sym (said_number at v d k)) (from_all _ _ (omega arith)
      (λ fs u h r f ts w mt go. took T (operand fs u) (have (tree.Number at v d k) fs u) ts w (λ p st. ap (λ q. goes (first fs u) (have (tree.Number q v d k) fs u)) (sym st)) mt go))

  character_good : (at : At) (v : ℤ) → Good (tree.Character at v)
  character_good at v fits = subst (λ s. Claims (tree.Character at v) s) (sym (said_character at v)) (from_all _ _ (omega arith)
      (λ fs u h r f ts w mt go. took T (operand fs u) (have (tree.Character at v) fs u) ts w (λ p st. ap (λ q. goes (first fs u) (have (tree.Character q v) fs u)) (sym st)) mt go))

  name_good : (at : At) (n : List ℕ) → Good (tree.Name at n)
  name_good at n fits = subst (λ s. Claims (tree.Name at n) s) (sym (said_name at n)) (from_all _ _ (omega arith)
      (λ fs u h r f ts w mt go. took T (operand fs u) (named at n fs u) ts w (λ p st. ap (λ q. goes (first fs u) (named q n fs u)) (sym st)) mt
      (λ vs mv. alike T (named at n fs u) (have (tree.Name at n) fs u) vs r refl (λ t st. unnamed at n fs u (sign_of_word t.word) (subst (λ s. binds s ≤ 16) (sym st) f.top)) mv ∙ go vs mv)))

  unary_good : (at : At) (o : UnaryOperator) (a : Expr) → Good a → Good (tree.Unary at o a)
  unary_good at o a ga fits = subst (λ s. Claims (tree.Unary at o a) s) (sym (said_unary at o a)) (
      let p = fit 13 a true (subst (λ (s : Said). s.fits ≡ true) (said_unary at o a) fits) in
      from_all _ _ (omega arith)
      (λ fs u h r f ts w mt go. took T (operand fs u) (operand (m.unary at o ∷ fs) u) ts w (λ q st. unary_step q o fs u ∙ ap (λ z. goes (first fs u) (operand (m.unary z o ∷ fs) u)) (sym st)) mt
      (λ vs mv. (ga p.fits).all (omega (arith, p.level)) (m.unary at o ∷ fs) u p.level r (follow_up 13 _ r p.level (follow_13 r f)) vs w mv
      (λ xs mx. filled a (m.unary at o) fs u 13 xs r refl (omega arith) (omega arith) (f.cast (omega arith)) (λ s more. refl) mx ∙ go xs mx))))

  before_good : (at : At) (o : StepOperator) (a : Expr) → Good a → Good (tree.Before at o a)
  before_good at o a ga fits = subst (λ s. Claims (tree.Before at o a) s) (sym (said_before at o a)) (
      let p = fit 14 a true (subst (λ (s : Said). s.fits ≡ true) (said_before at o a) fits) in
      from_all _ _ (omega arith)
      (λ fs u h r f ts w mt go. took T (operand fs u) (operand (m.before at o ∷ fs) u) ts w (λ q st. before_step q o fs u ∙ ap (λ z. goes (first fs u) (operand (m.before z o ∷ fs) u)) (sym st)) mt
      (λ vs mv. (ga p.fits).all (omega (arith, p.level)) (m.before at o ∷ fs) u p.level r (follow_up 14 _ r p.level f) vs w mv
      (λ xs mx. filled a (m.before at o) fs u 14 xs r refl (omega arith) (omega arith) (omega (arith, f.cast)) (λ s more. refl) mx ∙ go xs mx))))

  after_good : (at : At) (a : Expr) (o : StepOperator) → Good a → Good (tree.After at a o)
  after_good at a o ga fits =
      let p = left_fit at 15 a true (subst (λ (s : Said). s.fits ≡ true) (said_after at a o) fits) in
      subst (λ s. Claims (tree.After at a o) s) (sym (said_after at a o)) (from_all _ _ (omega arith)
      (λ fs u h r f ts w mt go. (ga p.fits).all (omega (arith, p.level)) fs u (omega (arith, h, p.level)) _ (reaches _ _ p.level) ts w mt
      (λ vs mv. took T (have a fs u) (have (tree.After at a o) fs u) vs w (λ q st. operates a fs u _ (m.steps o) (step_sign o) _ q (step_op o) refl h p.level (ap (λ z. goes (first fs u + (about a).marks) (have (tree.After z a o) fs u)) (sym p.place))) mv go)))
    where
      reaches : (r : List Leaf) {n : ℕ} (l : ℕ) → 15 ≤ l → Follow l (a_sign_leaf (step_sign o) n ∷ r)
      reaches r l h = let b = step_binds o in record { top = omega (arith, b); cast = λ g. absurd (omega (arith, g, h)); mid = λ g. absurd (omega (arith, g, h)); two = λ g. absurd (omega (arith, g, h)); one = λ g. absurd (omega (arith, g, h)) }

  binary_good : (at : At) (a : Expr) (o : BinaryOperator) (b : Expr) → Good a → Good b → Good (tree.Binary at a o b)
  binary_good at a o b ga gb fits =
      let p = left_fit at (precedence o) a _ (subst (λ (s : Said). s.fits ≡ true) (said_binary at a o b) fits) in
      let q = fit (suc (precedence o)) b true p.rest in
      let lo = prec_low o in let hi = prec_high o in
      subst (λ s. Claims (tree.Binary at a o b) s) (sym (said_binary at a o b)) (from_all _ _ (omega (arith, lo))
      (λ fs u h r f ts w mt go. (ga p.fits).all (omega (arith, lo, p.level)) fs u (omega (arith, h, p.level)) _ (reaches _ _ p.level) ts w mt
      (λ vs mv. took T (have a fs u) (operand (m.binary a o ∷ fs) u) vs w (λ z st. operates a fs u _ (m.joins o) (binary_sign o) _ z (binary_op o) refl h p.level refl) mv
      (λ xs mx. (gb q.fits).all (omega (arith, q.level)) (m.binary a o ∷ fs) u q.level r (follow_up (precedence o) _ r (omega (arith, q.level)) f) xs w mx
      (λ ys my. filled b (m.binary a o) fs u (suc (precedence o)) ys r refl (omega arith) (omega (arith, hi)) (f.mid hi) (λ s more. refl) my ∙ ap (λ z. run T ys (have (tree.Binary z a o b) fs u)) (sym p.place) ∙ go ys my)))))
    where
      reaches : (r : List Leaf) {n : ℕ} (l : ℕ) → precedence o ≤ l → Follow l (a_sign_leaf (binary_sign o) n ∷ r)
      reaches r l h = let b = binary_binds o in let lo = prec_low o in let hi = prec_high o in record { top = omega (arith, b, hi); cast = λ g. omega (arith, b, hi); mid = λ g. omega (arith, b, h); two = λ g. absurd (omega (arith, g, h, lo)); one = λ g. absurd (omega (arith, g, h, lo)) }

  assign_good : (at : At) (a : Expr) (o : AssignOperator) (b : Expr) → Good a → Good b → Good (tree.Assign at a o b)
  assign_good at a o b ga gb fits =
      let p = left_fit at 14 a _ (subst (λ (s : Said). s.fits ≡ true) (said_assign at a o b) fits) in
      let q = fit 1 b true p.rest in
      subst (λ s. Claims (tree.Assign at a o b) s) (sym (said_assign at a o b)) (from_all _ _ (omega arith)
      (λ fs u h r f ts w mt go. (ga p.fits).all (omega (arith, p.level)) fs u (omega (arith, h, p.level)) _ (reaches _ _ p.level) ts w mt
      (λ vs mv. took T (have a fs u) (operand (m.assign a o ∷ fs) u) vs w (λ z st. operates a fs u _ (m.assigns o) (assign_sign o) _ z (assign_op o) refl h p.level refl) mv
      (λ xs mx. (gb q.fits).all q.level (m.assign a o ∷ fs) u q.level r (follow_up 1 _ r q.level f) xs w mx
      (λ ys my. filled b (m.assign a o) fs u 1 ys r refl (omega arith) (omega arith) (f.one (omega arith)) (λ s more. refl) my ∙ ap (λ z. run T ys (have (tree.Assign z a o b) fs u)) (sym p.place) ∙ go ys my)))))
    where
      reaches : (r : List Leaf) {n : ℕ} (l : ℕ) → 14 ≤ l → Follow l (a_sign_leaf (assign_sign o) n ∷ r)
      reaches r l h = let b = assign_binds o in record { top = omega (arith, b); cast = λ g. omega (arith, b); mid = λ g. absurd (omega (arith, g, h)); two = λ g. absurd (omega (arith, g, h)); one = λ g. absurd (omega (arith, g, h)) }

  comma_good : (at : At) (a b : Expr) → Good a → Good b → Good (tree.Comma at a b)
  comma_good at a b ga gb fits =
      let f0 : (is_at at (about a).at && ((about a).fits && (stands 1 (about b) && true))) ≡ true = subst (λ (s : Said). s.fits ≡ true) (said_comma at a b) fits in
      let p = and_parts (is_at at (about a).at) _ f0 in
      let p2 = and_parts (about a).fits _ p.1 in
      let q = fit 1 b true p2.1 in
      let place : at ≡ place_of a = placed at a p.0 in
      subst (λ s. Claims (tree.Comma at a b) s) (sym (said_comma at a b)) (record {
        all = λ one. absurd (omega (arith, one));
        exp = λ fs u z r f ts w mt go. (ga p2.0).exp fs u z _ (follow_comma _ _ refl) ts w mt
            (λ vs mv. took T (have a fs u) (operand (m.comma a ∷ fs) u) vs w (λ y st. operates a fs u _ m.commas sign.Comma _ y refl refl (omega (arith, z)) (omega arith) refl) mv
            (λ xs mx. (gb q.fits).all q.level (m.comma a ∷ fs) u q.level r (follow_up 0 _ r (omega arith) f) xs w mx
            (λ ys my. filled b (m.comma a) fs u 1 ys r refl (omega arith) (omega arith) (f.one (omega arith)) (λ s more. refl) my ∙ ap (λ y. run T ys (have (tree.Comma y a b) fs u)) (sym place) ∙ go ys my)));
      })

  conditional_good : (at : At) (a b c : Expr) → Good a → Good b → Good c → Good (tree.Conditional at a b c)
  conditional_good at a b c ga gb gc fits =
      let p = left_fit at 3 a _ (subst (λ (s : Said). s.fits ≡ true) (said_conditional at a b c) fits) in
      let p2 = and_parts (about b).fits _ p.rest in
      let q = fit 2 c true p2.1 in
      subst (λ s. Claims (tree.Conditional at a b c) s) (sym (said_conditional at a b c)) (from_all _ _ (omega arith)
      (λ fs u h r f ts w mt go. (ga p.fits).all (omega (arith, p.level)) fs u (omega (arith, h, p.level)) _ (reaches _ _ p.level) ts w mt
      (λ vs mv. took T (have a fs u) (operand (m.question a ∷ fs) u) vs w (λ z st. operates a fs u _ m.asks sign.Question _ z refl refl h p.level refl) mv
      (λ xs mx. (gb p2.0).exp (m.question a ∷ fs) u refl _ (follow_none _ _ refl) xs w mx
      (λ ys my. took T (have b (m.question a ∷ fs) u) (operand (m.colon a b ∷ fs) u) ys w (λ z st. shut_none sign.Colon b (m.question a) fs u refl) my
      (λ ws mw. (gc q.fits).all (omega (arith, q.level)) (m.colon a b ∷ fs) u q.level r (follow_up 2 _ r q.level f) ws w mw
      (λ zs mz. filled c (m.colon a b) fs u 2 zs r refl (omega arith) (omega arith) (f.two (omega arith)) (λ s more. refl) mz ∙ ap (λ z. run T zs (have (tree.Conditional z a b c) fs u)) (sym p.place) ∙ go zs mz)))))))
    where
      reaches : (r : List Leaf) {n : ℕ} (l : ℕ) → 3 ≤ l → Follow l (a_sign_leaf sign.Question n ∷ r)
      reaches r l h = record { top = omega arith; cast = λ g. omega arith; mid = λ g. omega (arith, h); two = λ g. absurd (omega (arith, g, h)); one = λ g. absurd (omega (arith, g, h)) }

  paren_good : (at : At) (a : Expr) → Good a → Good (tree.Paren at a)
  paren_good at a ga fits =
      let p = and_parts (about a).fits _ (subst (λ (s : Said). s.fits ≡ true) (said_paren at a) fits) in
      subst (λ s. Claims (tree.Paren at a) s) (sym (said_paren at a)) (from_all _ _ (omega arith)
      (λ fs u h r f ts w mt go. took T (operand fs u) (opened at fs u) ts w (λ q st. ap (λ z. goes (first fs u) (opened z fs u)) (sym st)) mt
      (λ vs mv. skip T (opened at fs u) (operand (m.paren at ∷ fs) u) refl vs (λ t st. ap (λ o. m.on_opened at t.at t.word o fs u) (no_type _ st)) (heads a _ _) mv
      ∙ (ga p.0).exp (m.paren at ∷ fs) u refl _ (follow_none _ _ refl) vs w mv
      (λ xs mx. took T (have a (m.paren at ∷ fs) u) (have (tree.Paren at a) fs u) xs w (λ z st. shut_none sign.RightParen a (m.paren at) fs u refl) mx go))))

  element_good : (at : At) (n : List ℕ) (a : Expr) → Good a → Good (tree.Element at n a)
  element_good at n a ga fits =
      let p = and_parts (about a).fits _ (subst (λ (s : Said). s.fits ≡ true) (said_element at n a) fits) in
      subst (λ s. Claims (tree.Element at n a) s) (sym (said_element at n a)) (from_all _ _ (omega arith)
      (λ fs u h r f ts w mt go. took T (operand fs u) (named at n fs u) ts w (λ q st. ap (λ z. goes (first fs u) (named z n fs u)) (sym st)) mt
      (λ ws mw. took T (named at n fs u) (operand (m.element at n ∷ fs) u) ws w (λ q st. refl) mw
      (λ vs mv. (ga p.0).exp (m.element at n ∷ fs) u refl _ (follow_none _ _ refl) vs w mv
      (λ xs mx. took T (have a (m.element at n ∷ fs) u) (have (tree.Element at n a) fs u) xs w (λ z st. shut_none sign.RightBracket a (m.element at n) fs u refl) mx go)))))

  cast_good : (at : At) (t : TypeWords) (a : Expr) → Good a → Good (tree.Cast at t a)
  cast_good at t a ga fits =
      let p = fit 13 a true (fits_behind t (subst (λ (s : Said). s.fits ≡ true) (said_cast at t a) fits)) in
      subst (λ s. Claims (tree.Cast at t a) s) (sym (said_cast at t a)) (from_all _ _ (omega arith)
      (λ fs u h r f ts w mt go. took T (operand fs u) (opened at fs u) ts w (λ q st. ap (λ z. goes (first fs u) (opened z fs u)) (sym st)) mt
      (λ vs mv. typed T None (opened at fs u) (λ y. casting at y fs u) (first fs u) (typing fs u h) t _ vs w (met_as T vs _ _ (type_of_leaves T t _ _ _) mv)
      (λ xs mx. took T (casting at t fs u) (operand (m.cast at t ∷ fs) u) xs w (λ z st. ap (λ o. m.on_casting at t sign.RightParen o fs u) (no_more t)) mx
      (λ ys my. (ga p.fits).all (omega (arith, p.level)) (m.cast at t ∷ fs) u p.level r (follow_up 13 _ r p.level f) ys w my
      (λ zs mz. filled a (m.cast at t) fs u 13 zs r refl (omega arith) (omega arith) (f.cast (omega arith)) (λ s more. refl) mz ∙ go zs mz))))))
    where
      typing : (fs : List Frame) (u : Use) → hole fs u ≤ 13 → Typing T None (opened at fs u) (λ y. casting at y fs u) (first fs u)
      typing fs u h = record {
        begins = λ x y is q st. ap (λ o. m.on_opened at q (a_sign x) o fs u) is ∙ ap (λ b. cond b (goes (first fs u) (casting at y fs u)) None) (le-leb _ _ h);
        extends = λ y x y2 is q. ap (λ o. m.on_casting at y x o fs u) is;
      }

      no_more : (y : TypeWords) → joined y sign.RightParen ≡ None
      no_more words.Char = refl
      no_more _ = refl

      fits_behind : (y : TypeWords) → all_fit (type y ++ operator sign.RightParen ∷ sub 13 (about a) ∷ []) ≡ true → (stands 13 (about a) && true) ≡ true
      fits_behind words.Char h = h
      fits_behind words.SignedChar h = h
      fits_behind _ h = h

  -- ---- arguments

  abbrev pub Known : Type 0
  Known = (e : Expr) × Good e

  abbrev pub trees : List Known → List Expr
  trees = map (λ a. a.0)

  abbrev closing : List Known → List Part
  closing es = commas assign (map about (trees es)) ++ the_sign sign.RightParen ∷ []

  arguments_run : (at : At) (n : List ℕ) (fs : List Frame) (u : Use) (done : List Expr) (e : Known) (es : List Known) → all_fit (closing (e ∷ es)) ≡ true → (r : List Leaf) (ts : List Lexeme) (v : Outcome)
      → Met T ts (leaves_of (closing (e ∷ es)) (first fs u) r) → ((vs : List Lexeme) → Met T vs r → run T vs (have (tree.Call at n (done ++ trees (e ∷ es))) fs u) ≡ v) → run T ts (operand (m.arguments at n done ∷ fs) u) ≡ v
  arguments_run at n fs u done e [] fits r ts w mt go =
      let p = fit 1 e.0 true fits in
      (e.1 p.fits).all p.level (m.arguments at n done ∷ fs) u p.level _ (follow_none _ _ refl) ts w mt
      (λ xs mx. took T (have e.0 (m.arguments at n done ∷ fs) u) (have (tree.Call at n (done ++ e.0 ∷ [])) fs u) xs w (λ z st. shut_none sign.RightParen e.0 (m.arguments at n done) fs u refl) mx go)
  arguments_run at n fs u done e (f ∷ es) fits r ts w mt go =
      let p = fit 1 e.0 _ fits in
      (e.1 p.fits).all p.level (m.arguments at n done ∷ fs) u p.level _ (follow_comma _ _ refl) ts w mt
      (λ xs mx. took T (have e.0 (m.arguments at n done ∷ fs) u) (operand (m.arguments at n (done ++ e.0 ∷ []) ∷ fs) u) xs w (λ z st. shut_by sign.Comma e.0 (m.arguments at n done) fs u (omega arith)) mx
      (λ ys my. arguments_run at n fs u (done ++ e.0 ∷ []) f es p.rest r ys w my (λ zs mz. ap (λ l. run T zs (have (tree.Call at n l) fs u)) (append_assoc done (e.0 ∷ []) (trees (f ∷ es))) ∙ go zs mz)))

  first_head : (e : Known) (es : List Known) (n : ℕ) (r : List Leaf) → starts (head_sign (leaves_of (closing (e ∷ es)) n r)) ≡ true
  first_head e [] n r = heads e.0 _ _
  first_head e (f ∷ es) n r = heads e.0 _ _

  call_good : (at : At) (n : List ℕ) (es : List Known) → Good (tree.Call at n (trees es))
  call_good at n es fits = subst (λ s. Claims (tree.Call at n (trees es)) s) (sym (said_call at n (trees es))) (from_all _ _ (omega arith)
      (λ fs u h r f ts w mt go. took T (operand fs u) (named at n fs u) ts w (λ q st. ap (λ z. goes (first fs u) (named z n fs u)) (sym st)) mt
      (λ ws mw. took T (named at n fs u) (m.either sign.RightParen (first fs u) (have (tree.Call at n []) fs u) (operand (m.arguments at n [] ∷ fs) u)) ws w (λ q st. refl) mw (λ vs mv. called es (subst (λ (s : Said). s.fits ≡ true) (said_call at n (trees es)) fits) fs u r vs w mv go))))
    where
      called : (es : List Known) → all_fit (closing es) ≡ true → (fs : List Frame) (u : Use) (r : List Leaf) (ts : List Lexeme) (w : Outcome) → Met T ts (leaves_of (closing es) (first fs u) r) → ((vs : List Lexeme) → Met T vs r → run T vs (have (tree.Call at n (trees es)) fs u) ≡ w) → run T ts (m.either sign.RightParen (first fs u) (have (tree.Call at n []) fs u) (operand (m.arguments at n [] ∷ fs) u)) ≡ w
      called [] fits fs u r ts w mt go = took T (m.either sign.RightParen (first fs u) (have (tree.Call at n []) fs u) (operand (m.arguments at n [] ∷ fs) u)) (have (tree.Call at n []) fs u) ts w (λ z st. refl) mt go
      called (e ∷ es) fits fs u r ts w mt go = skip T (m.either sign.RightParen (first fs u) (have (tree.Call at n []) fs u) (operand (m.arguments at n [] ∷ fs) u)) (operand (m.arguments at n [] ∷ fs) u) refl ts
          (λ t st. ap (λ b. cond b (goes (first fs u) (have (tree.Call at n []) fs u)) (step (operand (m.arguments at n [] ∷ fs) u) t)) (not_sign t.word sign.RightParen st refl)) (first_head e es _ _) mt ∙ arguments_run at n fs u [] e es fits r ts w mt go

  -- the words of an expression that fits lead from where one is wanted to where it is had
  pub complete : (e : Expr) → Good e
  complete = induction Good (record {
    comma_ = comma_good;
    assign_ = assign_good;
    conditional_ = conditional_good;
    binary_ = binary_good;
    cast_ = cast_good;
    unary_ = unary_good;
    before_ = before_good;
    after_ = after_good;
    name_ = name_good;
    element_ = element_good;
    call_ = call_good;
    number_ = number_good;
    character_ = character_good;
    paren_ = paren_good;
  })
