-- The reading of declarations does what the machine does.
use denote.Enum.Bare.{same_true}
use Rattle.c_grammar.specs.contracts.sign.Sign.{the_type}
use Rattle.std.proofs.Common.{rules, ◌⊎◌, inl, inr, ◌≡◌, ℕ, zero, suc, Bool, true, false, cond, List, [], ◌∷◌, ◌++◌, Option, Some, None, Ok, Err, refl, sym, ap, subst, ◌∙◌, arith}
use Rattle.c_tree.specs.declared.token.At.{At}
use Rattle.c_tree.specs.declared.syntax.TypeWords.{TypeWords}
use Rattle.c_tree.specs.declared.syntax.Expr.{Expr}
use Rattle.c_grammar.specs.declared.sign.Sign.{Sign}
use Rattle.c_grammar.specs.declared.sign.Sign.TheVariants as sign
use Rattle.c_grammar.specs.Words.{Word, a_name, a_number, a_character, a_sign, sign_of_word, Lexeme}
use Rattle.c_reading.specs.Parsers.{Wrong, same, Parser, ◌>>=◌, ◌>>◌, and_then, pure, wrong, word_at, place_at, sign_at, eat, expect, more}
use Rattle.c_reading.specs.Expressions as r
use Rattle.c_parser.proofs.Asked.{type_of, joined}
use Rattle.c_tree.specs.declared.syntax.Size.{Size}
use Rattle.c_tree.specs.declared.syntax.Size.TheVariants as size
use Rattle.c_tree.specs.declared.syntax.Initialiser.TheVariants as initialiser
use Rattle.c_tree.specs.declared.syntax.Identifier.{Identifier}
use Rattle.c_tree.specs.declared.syntax.Item.{Item}
use Rattle.c_tree.specs.declared.syntax.Return.{Return}
use Rattle.c_tree.specs.declared.syntax.Return.TheVariants as gives
use Rattle.c_tree.specs.declared.syntax.Parameter.{Parameter}
use Rattle.c_tree.specs.declared.syntax.Parameters.{Parameters}
use Rattle.c_tree.specs.declared.syntax.Parameters.TheVariants as parameters
use Rattle.c_tree.specs.declared.syntax.Declaration.TheVariants as declaration
use Rattle.c_declarations.specs.Declarations as d
use Rattle.c_declarations.specs.declared.declarations.Opening.{Opening}
use Rattle.c_declarations.specs.declared.declarations.Opening.TheVariants as opening_
use Rattle.c_reading.specs.Parsers.{name, name_by, name_if_any, name_if_any_by}
use Rattle.c_parser.proofs.Machine as m
use Rattle.c_parser.proofs.Machine.{State, operand, have, Use, step, run, Outcome, Next, goes, moved, at_end, hole, first, spot, op_of, takes, push, close_use, use_hole, Home, Naming, Heading, home_nesting, conclude, item_named, item_sized, item_valued, item_ended, item_next, item_end, item_of, value_after, parameters_first, parameter_typed, parameter_ended, parameter_next, header, declaring, either, is_sign, identifier}
use Rattle.c_parser.proofs.Reached.{word_is}
use Rattle.c_parser.proofs.Sim.{Stop, stop_takes, Sim, sim_then, sim_as, sim_weaker, Took, sim_eat, sim_wrong, same_run, sign_is, word_at_is, place_is, sim_expect, sim_more, Words, Typed, types_sim, Got, inner, read_reads}

pub is_no_sign : (w : Word) (x : Sign) → same (sign_of_word w) x ≡ false → is_sign w x ≡ false
is_no_sign (a_name n) x h = refl
is_no_sign (a_number v d u) x h = refl
is_no_sign (a_character v) x h = refl
is_no_sign (a_sign sign.End) x h = refl
is_no_sign (a_sign s) x h = h

pub is_a_sign : (w : Word) (x : Sign) → sign_of_word w ≡ x → same x sign.Other ≡ false → is_sign (a_sign x) x ≡ true → is_sign w x ≡ true
is_a_sign w x h o t = ap (λ y. is_sign y x) (word_is w x h o) ∙ t

module _ (T : ℕ → Bool) where
  -- a whole expression, and what its use makes of the next word
  pub use_step : (e : Expr) (u : Use) (ts : List Lexeme) → Stop (use_hole u) (op_of (sign_at ts)) e → (t : Lexeme) (us : List Lexeme) → ts ≡ t ∷ us → step (have e [] u) t ≡ close_use u e (sign_of_word t.word)
  use_step e u ts st t us q = let s : Sign = sign_of_word t.word in ap (λ b. cond b (push (op_of s) e [] u) (close_use u e s)) (stop_takes [] u (op_of s) e (subst (λ y. Stop (use_hole u) (op_of y) e) (sym (sign_is T ts t us (sign_at ts) q refl)) st))

  -- a sign, or something else
  pub sim_choice : {A : Type 0} (x : Sign) (n : ℕ) (ts : List Lexeme) (a b : State) (p z : Parser A) (k : A → State) (Q : A → ℕ → List Lexeme → Type 0) → is_sign (a_sign x) x ≡ true → same x sign.Other ≡ false → at_end b ≡ Err (Wrong 0)
      → ((y : ℕ) (us : List Lexeme) → Took T n y → Sim T (p y us) (run T us a) k Q) → Sim T (z n ts) (run T ts b) k Q → (c : Bool) → same (sign_at ts) x ≡ c → Sim T ((cond c (eat T >> p) z) n ts) (run T ts (either x n a b)) k Q
  sim_choice x n ts a b p z k Q self other ends h g true is = sim_then T (eat T n ts) _ (run T ts (either x n a b)) (λ y. a) (λ y i us. Took T n i) k Q
      (sim_eat T (either x n a b) a n ts refl (λ t us q. ap (λ c. cond c (goes n a) (step b t)) (is_a_sign t.word x (sign_is T ts t us x q (same_true the_type (search rules) (sign_at ts) x is)) other self)))
      (λ y i us l. h i us l)
  sim_choice x n ts a b p z k Q self other ends h g false is = sim_as T (z n ts) (run T ts (either x n a b)) (run T ts b) k Q
      (same_run T (either x n a b) b ts (sym ends) (λ t us q. ap (λ c. cond c (goes n a) (step b t)) (is_no_sign t.word x (ap (λ y. same y x) (sign_is T ts t us (sign_at ts) q refl) ∙ is)))) g

  pub sim_name : (s : State) (s2 : Identifier → State) (n : ℕ) (ts : List Lexeme) → at_end s ≡ Err (Wrong 0) → ((t : Lexeme) (f : List ℕ) (us : List Lexeme) → ts ≡ t ∷ us → t.word ≡ a_name f → step s t ≡ Some (n, s2 (identifier t.at f))) → ((t : Lexeme) (us : List Lexeme) → ts ≡ t ∷ us → ((f : List ℕ) → t.word ≡ a_name f → ⊥) → step s t ≡ None)
      → Sim T (name T n ts) (run T ts s) s2 (λ f k us. Took T n k)
  unfolding name
  sim_name s s2 n ts e yes_ no_ = by_word (word_at ts) refl
    where
      wrong_word : ((f : List ℕ) → word_at ts ≡ a_name f → ⊥) → Sim T (wrong {A = Identifier} n ts) (run T ts s) s2 (λ f k us. Took T n k)
      wrong_word h = sim_wrong T {A = Identifier} s n ts s2 (λ f k us. Took T n k) e (λ t us q. no_ t us q (λ f w. h f (sym (sym w ∙ word_at_is T ts t us (word_at ts) q refl))))

      by_word : (w : Word) → word_at ts ≡ w → Sim T (name_by T (place_at ts) w n ts) (run T ts s) s2 (λ f k us. Took T n k)
      by_word (a_name f) is = sim_then T (eat T n ts) _ (run T ts s) (λ x. s2 (identifier (place_at ts) f)) (λ x k us. Took T n k) s2 (λ f k us. Took T n k)
          (sim_eat T s (s2 (identifier (place_at ts) f)) n ts e (λ t us q. yes_ t f us q (word_at_is T ts t us (a_name f) q is) ∙ ap (λ y. goes n (s2 (identifier y f))) (place_is T ts t us q)))
          (λ x k us g. (refl, g))
      by_word (a_number v d2 k) is = wrong_word (λ f w. absurd (apart (sym is ∙ w)))
        where
          apart : {f : List ℕ} → a_number v d2 k ≡ a_name f → ⊥
          apart h = absurd cc
      by_word (a_character v) is = wrong_word (λ f w. absurd (apart (sym is ∙ w)))
        where
          apart : {f : List ℕ} → a_character v ≡ a_name f → ⊥
          apart h = absurd cc
      by_word (a_sign x) is = wrong_word (λ f w. absurd (apart (sym is ∙ w)))
        where
          apart : {f : List ℕ} → a_sign x ≡ a_name f → ⊥
          apart h = absurd cc

  -- a sign that the machine expects
  pub expected_sim : (x : Sign) (n0 : ℕ) (a : State) (n : ℕ) (ts : List Lexeme) → n ≡ n0 → same x sign.Other ≡ false → is_sign (a_sign x) x ≡ true → Sim T (expect T x n ts) (run T ts (m.expect x n0 a)) (λ y. a) (λ y k us. Took T n k)
  expected_sim x n0 a n ts e other self = sim_expect T (m.expect x n0 a) a x n ts refl
      (λ t us q w. ap (λ c. cond c (goes n0 a) None) (is_a_sign t.word x w other self) ∙ ap (λ k. goes k a) (sym e))
      (λ t us q w. ap (λ c. cond c (goes n0 a) None) (is_no_sign t.word x w))

  -- ---- sizes

  sized_sim : (b : ℕ) (i : Naming) (n : ℕ) (ts : List Lexeme) → n ≡ home_nesting i.home → Sim T (d.given_size T (r.read T b) n ts) (run T ts (either sign.RightBracket n (item_sized i size.Absent) (operand [] (m.size_ i)))) (λ z. item_sized i z) (λ z k us. Took T n k)
  unfolding d.given_size
  sized_sim b i n ts nn = sim_choice sign.RightBracket n ts (item_sized i size.Absent) (operand [] (m.size_ i)) (pure size.Absent) _ (λ z. item_sized i z) (λ z k us. Took T n k) refl refl refl
      (λ y us g. (refl, g))
      (sim_then T (and_then (r.read T b r.conditional (suc n) ts) (λ x k us. Ok (x, n, us))) _ (run T ts (operand [] (m.size_ i))) (λ e. have e [] (m.size_ i)) (λ e k us. (k ≡ n) × Stop 2 (op_of (sign_at us)) e) (λ z. item_sized i z) (λ z k us. Took T n k)
      (sim_then T (r.read T b r.conditional (suc n) ts) _ (run T ts (operand [] (m.size_ i))) (λ e. have e [] (m.size_ i)) (Got T 2 (place_at ts) (inner T [] (m.size_ i))) (λ e. have e [] (m.size_ i)) (λ e k us. (k ≡ n) × Stop 2 (op_of (sign_at us)) e)
      ((read_reads T b).conditional [] (m.size_ i) (suc n) ts (omega arith) (ap suc nn))
      (λ e k us g. (refl, (refl, g.stop))))
      (λ e k us g. sim_then T (expect T sign.RightBracket k us) _ (run T us (have e [] (m.size_ i))) (λ x. item_sized i (size.Given e)) (λ x j vs. Took T k j) (λ z. item_sized i z) (λ z k us. Took T n k)
      (sim_expect T (have e [] (m.size_ i)) (item_sized i (size.Given e)) sign.RightBracket k us refl
      (λ t vs q w. use_step e (m.size_ i) us g.1 t vs q ∙ ap (λ x. close_use (m.size_ i) e x) w ∙ ap (λ j. goes j (item_sized i (size.Given e))) (sym nn ∙ sym g.0))
      (λ t vs q w. use_step e (m.size_ i) us g.1 t vs q ∙ size_none e (sign_of_word t.word) w))
      (λ x j vs h. (refl, record { nesting = h.nesting ∙ g.0 }))))
      (same (sign_at ts) sign.RightBracket) refl
    where
      size_none : (e : Expr) (s : Sign) → same s sign.RightBracket ≡ false → close_use (m.size_ i) e s ≡ None
      size_none e sign.RightBracket h = absurd cc
      size_none e s h = refl

  size_sim : (b : ℕ) (i : Naming) (n : ℕ) (ts : List Lexeme) → n ≡ home_nesting i.home → Sim T (d.size T (r.read T b) n ts) (run T ts (item_named i)) (λ z. item_sized i z) (λ z k us. Took T n k)
  unfolding d.size
  size_sim b i n ts nn = by_sign (same (sign_at ts) sign.LeftBracket) refl
    where
      plain : (s : Sign) → same s sign.LeftBracket ≡ false → m.on_named i s ≡ m.on_sized i size.Scalar s
      plain sign.LeftBracket h = absurd cc
      plain s h = refl

      by_sign : (c : Bool) → same (sign_at ts) sign.LeftBracket ≡ c → Sim T ((cond c (eat T >> d.given_size T (r.read T b)) (pure size.Scalar)) n ts) (run T ts (item_named i)) (λ z. item_sized i z) (λ z k us. Took T n k)
      by_sign true is = sim_then T (eat T n ts) _ (run T ts (item_named i)) (λ x. either sign.RightBracket n (item_sized i size.Absent) (operand [] (m.size_ i))) (λ x k us. Took T n k) (λ z. item_sized i z) (λ z k us. Took T n k)
          (sim_eat T (item_named i) (either sign.RightBracket n (item_sized i size.Absent) (operand [] (m.size_ i))) n ts refl (λ t us q. ap (λ x. m.on_named i x) (sign_is T ts t us sign.LeftBracket q (same_true the_type (search rules) (sign_at ts) sign.LeftBracket is)) ∙ ap (λ k. goes k (either sign.RightBracket k (item_sized i size.Absent) (operand [] (m.size_ i)))) (sym nn)))
          (λ x k us g. sim_weaker T _ _ (λ z. item_sized i z) (λ z j vs. Took T k j) (λ z j vs. Took T n j) (λ z j vs h. record { nesting = h.nesting ∙ g.nesting }) (sim_as T _ _ (run T us (either sign.RightBracket k (item_sized i size.Absent) (operand [] (m.size_ i)))) (λ z. item_sized i z) (λ z j vs. Took T k j) (ap (λ j. run T us (either sign.RightBracket j (item_sized i size.Absent) (operand [] (m.size_ i)))) (sym g.nesting)) (sized_sim b i k us (g.nesting ∙ nn))))
      by_sign false is = (same_run T (item_named i) (item_sized i size.Scalar) ts refl (λ t us q. plain (sign_of_word t.word) (ap (λ y. same y sign.LeftBracket) (sign_is T ts t us (sign_at ts) q refl) ∙ is)), record { nesting = refl })

  -- ---- initialisers

  abbrev ended_by : Naming → Size → At → List Expr → Option Bool → State
  ended_by i z at es None = operand [] (m.list_ i z at es)
  ended_by i z at es (Some c) = item_end i z (initialiser.List at es c)

  value_end_sim : (i : Naming) (z : Size) (at : At) (es : List Expr) (x : Expr) (n : ℕ) (ts : List Lexeme) → n ≡ home_nesting i.home → Stop 1 (op_of (sign_at ts)) x → Sim T (d.value_end T n ts) (run T ts (have x [] (m.list_ i z at es))) (ended_by i z at (es ++ x ∷ [])) (λ c k us. Took T n k)
  unfolding d.value_end
  value_end_sim i z at es x n ts nn st = sim_then T (more T sign.RightBrace n ts) _ (run T ts (have x [] (m.list_ i z at es))) (λ b. cond b (value_after i z at (es ++ x ∷ [])) (item_end i z (initialiser.List at (es ++ x ∷ []) false))) (λ b k us. Took T n k) (ended_by i z at (es ++ x ∷ [])) (λ c k us. Took T n k)
      (sim_more T (have x [] (m.list_ i z at es)) (value_after i z at (es ++ x ∷ [])) (item_end i z (initialiser.List at (es ++ x ∷ []) false)) sign.RightBrace n ts refl
      (λ t us q w. use_step x (m.list_ i z at es) ts st t us q ∙ ap (λ y. close_use (m.list_ i z at es) x y) w ∙ ap (λ k. goes k (value_after i z at (es ++ x ∷ []))) (sym nn))
      (λ t us q w. use_step x (m.list_ i z at es) ts st t us q ∙ ap (λ y. close_use (m.list_ i z at es) x y) w ∙ ap (λ k. goes k (item_end i z (initialiser.List at (es ++ x ∷ []) false))) (sym nn))
      (λ t us q c e. use_step x (m.list_ i z at es) ts st t us q ∙ neither (sign_of_word t.word) c e))
      (λ b k us g. onward b k us g)
    where
      neither : (s : Sign) → same s sign.Comma ≡ false → same s sign.RightBrace ≡ false → close_use (m.list_ i z at es) x s ≡ None
      neither sign.Comma c e = absurd cc
      neither sign.RightBrace c e = absurd cc
      neither s c e = refl

      last : (k : ℕ) (us : List Lexeme) → Took T n k → (c : Bool) → same (sign_at us) sign.RightBrace ≡ c → Sim T ((cond c (eat T >> pure (Some true)) (pure None)) k us) (run T us (value_after i z at (es ++ x ∷ []))) (ended_by i z at (es ++ x ∷ [])) (λ c j vs. Took T n j)
      last k us g c is = sim_as T _ _ (run T us (either sign.RightBrace k (item_end i z (initialiser.List at (es ++ x ∷ []) true)) (operand [] (m.list_ i z at (es ++ x ∷ []))))) (ended_by i z at (es ++ x ∷ [])) (λ c j vs. Took T n j)
          (ap (λ j. run T us (either sign.RightBrace j (item_end i z (initialiser.List at (es ++ x ∷ []) true)) (operand [] (m.list_ i z at (es ++ x ∷ []))))) (sym (g.nesting ∙ nn)))
          (sim_choice sign.RightBrace k us (item_end i z (initialiser.List at (es ++ x ∷ []) true)) (operand [] (m.list_ i z at (es ++ x ∷ []))) (pure (Some true)) (pure None) (ended_by i z at (es ++ x ∷ [])) (λ c j vs. Took T n j) refl refl refl
          (λ y vs h. (refl, record { nesting = h.nesting ∙ g.nesting })) (refl, g) c is)

      onward : (b : Bool) (k : ℕ) (us : List Lexeme) → Took T n k → Sim T ((cond b (cond (same (sign_at us) sign.RightBrace) (eat T >> pure (Some true)) (pure None)) (pure (Some false))) k us) (run T us (cond b (value_after i z at (es ++ x ∷ [])) (item_end i z (initialiser.List at (es ++ x ∷ []) false)))) (ended_by i z at (es ++ x ∷ [])) (λ c j vs. Took T n j)
      onward true k us g = last k us g (same (sign_at us) sign.RightBrace) refl
      onward false k us g = (refl, g)

  values_sim : (b : ℕ) (i : Naming) (z : Size) (at : At) (es : List Expr) (n : ℕ) (ts : List Lexeme) → n ≡ home_nesting i.home → Sim T (d.values T b at es n ts) (run T ts (operand [] (m.list_ i z at es))) (λ v. item_end i z v) (λ v k us. Took T n k)
  unfolding d.values d.next_value
  values_sim zero i z at es n ts nn = tt
  values_sim (suc b) i z at es n ts nn = sim_then T (and_then (r.read T b r.assign n ts) (λ x. d.value_end T >>= (λ c. pure (x, c)))) _ (run T ts (operand [] (m.list_ i z at es))) (λ y. ended_by i z at (es ++ y.0 ∷ []) y.1) (λ y k us. Took T n k) (λ v. item_end i z v) (λ v k us. Took T n k)
      (sim_then T (r.read T b r.assign n ts) _ (run T ts (operand [] (m.list_ i z at es))) (λ x. have x [] (m.list_ i z at es)) (Got T 1 (place_at ts) (λ x. home_nesting i.home)) (λ y. ended_by i z at (es ++ y.0 ∷ []) y.1) (λ y k us. Took T n k)
      ((read_reads T b).assign [] (m.list_ i z at es) n ts (omega arith) nn)
      (λ x k us g. sim_then T (d.value_end T k us) _ (run T us (have x [] (m.list_ i z at es))) (ended_by i z at (es ++ x ∷ [])) (λ c j vs. Took T k j) (λ y. ended_by i z at (es ++ y.0 ∷ []) y.1) (λ y k us. Took T n k)
      (value_end_sim i z at es x k us g.nesting g.stop)
      (λ c j vs h. (refl, record { nesting = h.nesting ∙ g.nesting ∙ sym nn }))))
      (λ y k us g. onward y.0 k us (values_sim b i z at (es ++ y.0 ∷ []) k us (g.nesting ∙ nn)) y.1 g)
    where
      onward : (y : Expr) (k : ℕ) (us : List Lexeme) → Sim T (d.values T b at (es ++ y ∷ []) k us) (run T us (operand [] (m.list_ i z at (es ++ y ∷ [])))) (λ v. item_end i z v) (λ v j vs. Took T k j) → (c : Option Bool) → Took T n k → Sim T (d.listed T at (es ++ y ∷ []) (d.values T b at (es ++ y ∷ [])) c k us) (run T us (ended_by i z at (es ++ y ∷ []) c)) (λ v. item_end i z v) (λ v j vs. Took T n j)
      onward y k us h None g = sim_weaker T _ _ (λ v. item_end i z v) _ (λ v j vs. Took T n j) (λ v j vs l. record { nesting = l.nesting ∙ g.nesting }) h
      onward y k us h (Some c) g = (refl, g)

  -- what stands behind an equals sign begins with a brace, or not
  braced : (i : Naming) (z : Size) (t : Lexeme) → is_sign t.word sign.LeftBrace ≡ true → step (item_valued i z) t ≡ goes (home_nesting i.home) (operand [] (m.list_ i z t.at []))
  braced i z t h = ap (λ c. cond c (goes (home_nesting i.home) (operand [] (m.list_ i z t.at []))) (step (operand [] (m.value_ i z)) t)) h

  unbraced : (i : Naming) (z : Size) (t : Lexeme) → is_sign t.word sign.LeftBrace ≡ false → step (item_valued i z) t ≡ step (operand [] (m.value_ i z)) t
  unbraced i z t h = ap (λ c. cond c (goes (home_nesting i.home) (operand [] (m.list_ i z t.at []))) (step (operand [] (m.value_ i z)) t)) h

  same_value : (i : Naming) (z : Size) (e : Expr) (us : List Lexeme) → Stop 1 (op_of (sign_at us)) e → run T us (have e [] (m.value_ i z)) ≡ run T us (item_end i z (initialiser.Value e))
  same_value i z e us st = same_run T (have e [] (m.value_ i z)) (item_end i z (initialiser.Value e)) us refl (λ t vs q. use_step e (m.value_ i z) us st t vs q)

  value_sim : (b : ℕ) (i : Naming) (z : Size) (n : ℕ) (ts : List Lexeme) → n ≡ home_nesting i.home → (s : Sign) → sign_at ts ≡ s → Sim T (d.value_by T b (place_at ts) s n ts) (run T ts (item_valued i z)) (λ v. item_end i z v) (λ v k us. Took T n k)
  value_sim b i z n ts nn sign.LeftBrace is = sim_then T (eat T n ts) _ (run T ts (item_valued i z)) (λ x. operand [] (m.list_ i z (place_at ts) [])) (λ x k us. Took T n k) (λ v. item_end i z v) (λ v k us. Took T n k)
      (sim_eat T (item_valued i z) (operand [] (m.list_ i z (place_at ts) [])) n ts refl (λ t us q. braced i z t (is_a_sign t.word sign.LeftBrace (sign_is T ts t us sign.LeftBrace q is) refl refl) ∙ ap (λ p. goes (home_nesting i.home) (operand [] (m.list_ i z p []))) (place_is T ts t us q) ∙ ap (λ k. goes k (operand [] (m.list_ i z (place_at ts) []))) (sym nn)))
      (λ x k us g. sim_weaker T _ _ (λ v. item_end i z v) _ (λ v j vs. Took T n j) (λ v j vs l. record { nesting = l.nesting ∙ g.nesting }) (values_sim b i z (place_at ts) [] k us (g.nesting ∙ nn)))
  value_sim b i z n ts nn s is = sim_as T _ (run T ts (item_valued i z)) (run T ts (operand [] (m.value_ i z))) (λ v. item_end i z v) (λ v k us. Took T n k)
      (same_run T (item_valued i z) (operand [] (m.value_ i z)) ts refl (λ t us q. unbraced i z t (is_no_sign t.word sign.LeftBrace (ap (λ y. same y sign.LeftBrace) (sign_is T ts t us s q is)))))
      (sim_then T (r.read T b r.assign n ts) _ (run T ts (operand [] (m.value_ i z))) (λ e. have e [] (m.value_ i z)) (Got T 1 (place_at ts) (λ x. home_nesting i.home)) (λ v. item_end i z v) (λ v k us. Took T n k)
      ((read_reads T b).assign [] (m.value_ i z) n ts (omega arith) nn)
      (λ e k us g. (same_value i z e us g.stop, record { nesting = g.nesting ∙ sym nn })))

  initialiser_sim : (b : ℕ) (i : Naming) (z : Size) (n : ℕ) (ts : List Lexeme) → n ≡ home_nesting i.home → Sim T (d.initialiser T b n ts) (run T ts (item_sized i z)) (λ v. item_end i z v) (λ v k us. Took T n k)
  unfolding d.initialiser d.value
  initialiser_sim b i z n ts nn = by_sign (same (sign_at ts) sign.Assign) refl
    where
      plain : (s : Sign) → same s sign.Assign ≡ false → m.on_sized i z s ≡ m.on_item_end i z initialiser.Absent s
      plain sign.Assign h = absurd cc
      plain s h = refl

      by_sign : (c : Bool) → same (sign_at ts) sign.Assign ≡ c → Sim T ((cond c (eat T >> d.value T b) (pure initialiser.Absent)) n ts) (run T ts (item_sized i z)) (λ v. item_end i z v) (λ v k us. Took T n k)
      by_sign true is = sim_then T (eat T n ts) _ (run T ts (item_sized i z)) (λ x. item_valued i z) (λ x k us. Took T n k) (λ v. item_end i z v) (λ v k us. Took T n k)
          (sim_eat T (item_sized i z) (item_valued i z) n ts refl (λ t us q. ap (λ x. m.on_sized i z x) (sign_is T ts t us sign.Assign q (same_true the_type (search rules) (sign_at ts) sign.Assign is)) ∙ ap (λ k. goes k (item_valued i z)) (sym nn)))
          (λ x k us g. sim_weaker T _ _ (λ v. item_end i z v) _ (λ v j vs. Took T n j) (λ v j vs l. record { nesting = l.nesting ∙ g.nesting }) (value_sim b i z k us (g.nesting ∙ nn) (sign_at us) refl))
      by_sign false is = (same_run T (item_sized i z) (item_end i z initialiser.Absent) ts refl (λ t us q. plain (sign_of_word t.word) (ap (λ y. same y sign.Assign) (sign_is T ts t us (sign_at ts) q refl) ∙ is)), record { nesting = refl })

  -- ---- objects

  abbrev naming : At → TypeWords → List Item → Home → Identifier → Naming
  naming at t is h f = record { at = at; words = t; done = is; home = h; name = f }

  abbrev after_object : At → TypeWords → List Item → Home → Item × Bool → State
  after_object at t is h x = cond x.1 (item_next at t (is ++ x.0 ∷ []) h) (conclude h (declaration.Objects at t (is ++ x.0 ∷ [])))

  object_sim : (b : ℕ) (at : At) (t : TypeWords) (is : List Item) (h : Home) (f : Identifier) (n : ℕ) (ts : List Lexeme) → n ≡ home_nesting h → Sim T (d.object T b f n ts) (run T ts (item_named (naming at t is h f))) (λ x. item_ended at t (is ++ x ∷ []) h) (λ x k us. Took T n k)
  unfolding d.object
  object_sim b at t is h f n ts nn = sim_then T (d.size T (r.read T b) n ts) _ (run T ts (item_named (naming at t is h f))) (λ z. item_sized (naming at t is h f) z) (λ z k us. Took T n k) (λ x. item_ended at t (is ++ x ∷ []) h) (λ x k us. Took T n k)
      (size_sim b (naming at t is h f) n ts nn)
      (λ z k us g. sim_then T (d.initialiser T b k us) _ (run T us (item_sized (naming at t is h f) z)) (λ v. item_end (naming at t is h f) z v) (λ v j vs. Took T k j) (λ x. item_ended at t (is ++ x ∷ []) h) (λ x k us. Took T n k)
      (initialiser_sim b (naming at t is h f) z k us (g.nesting ∙ nn))
      (λ v j vs l. (refl, record { nesting = l.nesting ∙ g.nesting })))

  next_object_sim : (b : ℕ) (at : At) (t : TypeWords) (is : List Item) (h : Home) (f : Identifier) (n : ℕ) (ts : List Lexeme) → n ≡ home_nesting h → Sim T (d.next_object T b f n ts) (run T ts (item_named (naming at t is h f))) (after_object at t is h) (λ x k us. Took T n k)
  unfolding d.next_object
  next_object_sim b at t is h f n ts nn = sim_then T (d.object T b f n ts) _ (run T ts (item_named (naming at t is h f))) (λ x. item_ended at t (is ++ x ∷ []) h) (λ x k us. Took T n k) (after_object at t is h) (λ x k us. Took T n k)
      (object_sim b at t is h f n ts nn)
      (λ x k us g. sim_then T (more T sign.Semicolon k us) _ (run T us (item_ended at t (is ++ x ∷ []) h)) (λ c. after_object at t is h (x, c)) (λ c j vs. Took T k j) (after_object at t is h) (λ x k us. Took T n k)
      (sim_more T (item_ended at t (is ++ x ∷ []) h) (item_next at t (is ++ x ∷ []) h) (conclude h (declaration.Objects at t (is ++ x ∷ []))) sign.Semicolon k us refl
      (λ l vs q w. ap (λ y. m.on_ended at t (is ++ x ∷ []) h y) w ∙ ap (λ j. goes j (item_next at t (is ++ x ∷ []) h)) (sym (g.nesting ∙ nn)))
      (λ l vs q w. ap (λ y. m.on_ended at t (is ++ x ∷ []) h y) w ∙ ap (λ j. goes j (conclude h (declaration.Objects at t (is ++ x ∷ [])))) (sym (g.nesting ∙ nn)))
      (λ l vs q c e. neither x (sign_of_word l.word) c e))
      (λ c j vs l. (refl, record { nesting = l.nesting ∙ g.nesting })))
    where
      neither : (x : Item) (s : Sign) → same s sign.Comma ≡ false → same s sign.Semicolon ≡ false → m.on_ended at t (is ++ x ∷ []) h s ≡ None
      neither x sign.Comma c e = absurd cc
      neither x sign.Semicolon c e = absurd cc
      neither x s c e = refl

  items_sim : (b : ℕ) (at : At) (t : TypeWords) (is : List Item) (h : Home) (n : ℕ) (ts : List Lexeme) → n ≡ home_nesting h → Sim T (d.items T b is n ts) (run T ts (item_next at t is h)) (λ xs. conclude h (declaration.Objects at t xs)) (λ x k us. Took T n k)
  unfolding d.items d.next_item
  items_sim zero at t is h n ts nn = tt
  items_sim (suc b) at t is h n ts nn = sim_then T (and_then (name T n ts) (d.next_object T b)) _ (run T ts (item_next at t is h)) (after_object at t is h) (λ x k us. Took T n k) (λ xs. conclude h (declaration.Objects at t xs)) (λ x k us. Took T n k)
      (sim_then T (name T n ts) (d.next_object T b) (run T ts (item_next at t is h)) (λ f. item_named (naming at t is h f)) (λ f k us. Took T n k) (after_object at t is h) (λ x k us. Took T n k)
      (sim_name (item_next at t is h) (λ f. item_named (naming at t is h f)) n ts refl
      (λ l f us q w. ap (λ y. m.on_next l.at y at t is h) w ∙ ap (λ k. goes k (item_named (naming at t is h (identifier l.at f)))) (sym nn))
      (λ l us q no_name. other l.at l.word no_name))
      (λ f k us g. sim_weaker T _ _ (after_object at t is h) _ (λ x j vs. Took T n j) (λ x j vs l. record { nesting = l.nesting ∙ g.nesting }) (next_object_sim b at t is h f k us (g.nesting ∙ nn))))
      (λ x k us g. onward x.0 k us (items_sim b at t (is ++ x.0 ∷ []) h k us (g.nesting ∙ nn)) x.1 g)
    where
      other : (p : At) (w : Word) → ((f : List ℕ) → w ≡ a_name f → ⊥) → m.on_next p w at t is h ≡ None
      other p (a_name f) k = absurd (k f refl)
      other p (a_number v e u) k = refl
      other p (a_character v) k = refl
      other p (a_sign s) k = refl

      onward : (x : Item) (k : ℕ) (us : List Lexeme) → Sim T (d.items T b (is ++ x ∷ []) k us) (run T us (item_next at t (is ++ x ∷ []) h)) (λ xs. conclude h (declaration.Objects at t xs)) (λ y j vs. Took T k j) → (c : Bool) → Took T n k → Sim T ((cond c (d.items T b (is ++ x ∷ [])) (pure (is ++ x ∷ []))) k us) (run T us (after_object at t is h (x, c))) (λ xs. conclude h (declaration.Objects at t xs)) (λ y j vs. Took T n j)
      onward x k us l true g = sim_weaker T _ _ (λ xs. conclude h (declaration.Objects at t xs)) _ (λ y j vs. Took T n j) (λ y j vs e. record { nesting = e.nesting ∙ g.nesting }) l
      onward x k us l false g = (refl, g)

  objects_sim : (b : ℕ) (at : At) (t : TypeWords) (h : Home) (f : Identifier) (n : ℕ) (ts : List Lexeme) → n ≡ home_nesting h → Sim T (d.objects T b f n ts) (run T ts (item_named (naming at t [] h f))) (λ xs. conclude h (declaration.Objects at t xs)) (λ x k us. Took T n k)
  unfolding d.objects
  objects_sim b at t h f n ts nn = sim_then T (d.next_object T b f n ts) _ (run T ts (item_named (naming at t [] h f))) (after_object at t [] h) (λ x k us. Took T n k) (λ xs. conclude h (declaration.Objects at t xs)) (λ x k us. Took T n k)
      (next_object_sim b at t [] h f n ts nn)
      (λ x k us g. onward x.0 k us (items_sim b at t (x.0 ∷ []) h k us (g.nesting ∙ nn)) x.1 g)
    where
      onward : (x : Item) (k : ℕ) (us : List Lexeme) → Sim T (d.items T b (x ∷ []) k us) (run T us (item_next at t (x ∷ []) h)) (λ xs. conclude h (declaration.Objects at t xs)) (λ y j vs. Took T k j) → (c : Bool) → Took T n k → Sim T ((cond c (d.items T b (x ∷ [])) (pure (x ∷ []))) k us) (run T us (after_object at t [] h (x, c))) (λ xs. conclude h (declaration.Objects at t xs)) (λ y j vs. Took T n j)
      onward x k us l true g = sim_weaker T _ _ (λ xs. conclude h (declaration.Objects at t xs)) _ (λ y j vs. Took T n j) (λ y j vs e. record { nesting = e.nesting ∙ g.nesting }) l
      onward x k us l false g = (refl, g)

  -- ---- parameters

  abbrev a_parameter : At → TypeWords → Option Identifier → Parameter
  a_parameter p t f = record { at = p; words = t; name = f }

  if_any_sim : (k : Heading) (ps : List Parameter) (p : At) (ty : TypeWords) (n : ℕ) (ts : List Lexeme) → n ≡ home_nesting k.home → joined ty (sign_at ts) ≡ None → Sim T (name_if_any T n ts) (run T ts (parameter_typed k ps p ty)) (λ f. parameter_ended k (ps ++ a_parameter p ty f ∷ [])) (λ f j us. Took T n j)
  unfolding name_if_any
  if_any_sim k ps p ty n ts nn none = by_word (word_at ts) refl
    where
      at_none : (t : Lexeme) (us : List Lexeme) → ts ≡ t ∷ us → step (parameter_typed k ps p ty) t ≡ m.on_parameter_name t.at t.word k ps p ty
      at_none t us q = ap (λ o. m.on_typed t.at t.word o k ps p ty) (ap (λ x. joined ty x) (sign_is T ts t us (sign_at ts) q refl) ∙ none)

      no_name : ((t : Lexeme) (us : List Lexeme) → ts ≡ t ∷ us → m.on_parameter_name t.at t.word k ps p ty ≡ m.on_parameter_end k (ps ++ a_parameter p ty None ∷ []) (sign_of_word t.word)) → Sim T (pure {A = Option Identifier} None n ts) (run T ts (parameter_typed k ps p ty)) (λ f. parameter_ended k (ps ++ a_parameter p ty f ∷ [])) (λ f j us. Took T n j)
      no_name h = (same_run T (parameter_typed k ps p ty) (parameter_ended k (ps ++ a_parameter p ty None ∷ [])) ts refl (λ t us q. at_none t us q ∙ h t us q), record { nesting = refl })

      by_word : (w : Word) → word_at ts ≡ w → Sim T (name_if_any_by T (place_at ts) w n ts) (run T ts (parameter_typed k ps p ty)) (λ f. parameter_ended k (ps ++ a_parameter p ty f ∷ [])) (λ f j us. Took T n j)
      by_word (a_name f) is = sim_then T (eat T n ts) _ (run T ts (parameter_typed k ps p ty)) (λ x. parameter_ended k (ps ++ a_parameter p ty (Some (identifier (place_at ts) f)) ∷ [])) (λ x j us. Took T n j) (λ f. parameter_ended k (ps ++ a_parameter p ty f ∷ [])) (λ f j us. Took T n j)
          (sim_eat T (parameter_typed k ps p ty) (parameter_ended k (ps ++ a_parameter p ty (Some (identifier (place_at ts) f)) ∷ [])) n ts refl (λ t us q. at_none t us q ∙ ap (λ w. m.on_parameter_name t.at w k ps p ty) (word_at_is T ts t us (a_name f) q is) ∙ ap (λ y. goes (home_nesting k.home) (parameter_ended k (ps ++ a_parameter p ty (Some (identifier y f)) ∷ []))) (place_is T ts t us q) ∙ ap (λ j. goes j (parameter_ended k (ps ++ a_parameter p ty (Some (identifier (place_at ts) f)) ∷ []))) (sym nn)))
          (λ x j us g. (refl, g))
      by_word (a_number v e u) is = no_name (λ t us q. let w = word_at_is T ts t us (a_number v e u) q is in ap (λ y. m.on_parameter_name t.at y k ps p ty) w ∙ ap (λ y. m.on_parameter_end k (ps ++ a_parameter p ty None ∷ []) (sign_of_word y)) (sym w))
      by_word (a_character v) is = no_name (λ t us q. let w = word_at_is T ts t us (a_character v) q is in ap (λ y. m.on_parameter_name t.at y k ps p ty) w ∙ ap (λ y. m.on_parameter_end k (ps ++ a_parameter p ty None ∷ []) (sign_of_word y)) (sym w))
      by_word (a_sign x) is = no_name (λ t us q. let w = word_at_is T ts t us (a_sign x) q is in ap (λ y. m.on_parameter_name t.at y k ps p ty) w ∙ ap (λ y. m.on_parameter_end k (ps ++ a_parameter p ty None ∷ []) (sign_of_word y)) (sym w))

  parameter_sim : (k : Heading) (ps : List Parameter) (s : State) (n : ℕ) (ts : List Lexeme) → n ≡ home_nesting k.home → Words T s (λ ty. parameter_typed k ps (place_at ts) ty) n ts → Sim T (d.parameter T n ts) (run T ts s) (λ x. parameter_ended k (ps ++ x ∷ [])) (λ x j us. Took T n j)
  unfolding d.parameter
  parameter_sim k ps s n ts nn y = sim_then T (r.type_words T n ts) _ (run T ts s) (λ ty. parameter_typed k ps (place_at ts) ty) (Typed T n) (λ x. parameter_ended k (ps ++ x ∷ [])) (λ x j us. Took T n j)
      (types_sim T s (λ ty. parameter_typed k ps (place_at ts) ty) n ts y)
      (λ ty j us g. sim_then T (name_if_any T j us) _ (run T us (parameter_typed k ps (place_at ts) ty)) (λ f. parameter_ended k (ps ++ a_parameter (place_at ts) ty f ∷ [])) (λ f l vs. Took T j l) (λ x. parameter_ended k (ps ++ x ∷ [])) (λ x j us. Took T n j)
      (if_any_sim k ps (place_at ts) ty j us (g.nesting ∙ nn) g.ended)
      (λ f l vs h. (refl, record { nesting = h.nesting ∙ g.nesting })))

  abbrev after_parameter : Heading → List Parameter → Parameter × Bool → State
  after_parameter k ps x = cond x.1 (parameter_next k (ps ++ x.0 ∷ [])) (header k (parameters.List (ps ++ x.0 ∷ [])))

  next_parameter_sim : (k : Heading) (ps : List Parameter) (s : State) (n : ℕ) (ts : List Lexeme) → n ≡ home_nesting k.home → Words T s (λ ty. parameter_typed k ps (place_at ts) ty) n ts → Sim T (d.next_parameter T n ts) (run T ts s) (after_parameter k ps) (λ x j us. Took T n j)
  unfolding d.next_parameter
  next_parameter_sim k ps s n ts nn y = sim_then T (d.parameter T n ts) _ (run T ts s) (λ x. parameter_ended k (ps ++ x ∷ [])) (λ x j us. Took T n j) (after_parameter k ps) (λ x j us. Took T n j)
      (parameter_sim k ps s n ts nn y)
      (λ x j us g. sim_then T (more T sign.RightParen j us) _ (run T us (parameter_ended k (ps ++ x ∷ []))) (λ c. after_parameter k ps (x, c)) (λ c l vs. Took T j l) (after_parameter k ps) (λ x j us. Took T n j)
      (sim_more T (parameter_ended k (ps ++ x ∷ [])) (parameter_next k (ps ++ x ∷ [])) (header k (parameters.List (ps ++ x ∷ []))) sign.RightParen j us refl
      (λ l vs q w. ap (λ y. m.on_parameter_end k (ps ++ x ∷ []) y) w ∙ ap (λ i. goes i (parameter_next k (ps ++ x ∷ []))) (sym (g.nesting ∙ nn)))
      (λ l vs q w. ap (λ y. m.on_parameter_end k (ps ++ x ∷ []) y) w ∙ ap (λ i. goes i (header k (parameters.List (ps ++ x ∷ [])))) (sym (g.nesting ∙ nn)))
      (λ l vs q c e. neither x (sign_of_word l.word) c e))
      (λ c l vs h. (refl, record { nesting = h.nesting ∙ g.nesting })))
    where
      neither : (x : Parameter) (s : Sign) → same s sign.Comma ≡ false → same s sign.RightParen ≡ false → m.on_parameter_end k (ps ++ x ∷ []) s ≡ None
      neither x sign.Comma c e = absurd cc
      neither x sign.RightParen c e = absurd cc
      neither x s c e = refl

  next_words : (k : Heading) (ps : List Parameter) (n : ℕ) (ts : List Lexeme) → n ≡ home_nesting k.home → Words T (parameter_next k ps) (λ ty. parameter_typed k ps (place_at ts) ty) n ts
  next_words k ps n ts nn = record {
    begins = λ t us q ty e. ap (λ o. m.on_parameter t.at o k ps) e ∙ ap (λ z. goes (home_nesting k.home) (parameter_typed k ps z ty)) (place_is T ts t us q) ∙ ap (λ j. goes j (parameter_typed k ps (place_at ts) ty)) (sym nn);
    others = λ t us q e. ap (λ o. m.on_parameter t.at o k ps) e;
    extends = λ t ty v e. ap (λ o. m.on_typed t.at t.word o k ps (place_at ts) ty) e ∙ ap (λ j. goes j (parameter_typed k ps (place_at ts) v)) (sym nn);
    open_first = refl;
    open_last = λ ty. refl;
  }

  list_sim : (b : ℕ) (k : Heading) (ps : List Parameter) (s : State) (n : ℕ) (ts : List Lexeme) → n ≡ home_nesting k.home → Words T s (λ ty. parameter_typed k ps (place_at ts) ty) n ts → Sim T (d.parameter_list T b ps n ts) (run T ts s) (λ qs. header k qs) (λ x j us. Took T n j)
  unfolding d.parameter_list
  list_sim zero k ps s n ts nn y = tt
  list_sim (suc b) k ps s n ts nn y = sim_then T (d.next_parameter T n ts) _ (run T ts s) (after_parameter k ps) (λ x j us. Took T n j) (λ qs. header k qs) (λ x j us. Took T n j)
      (next_parameter_sim k ps s n ts nn y)
      (λ x j us g. onward x.0 j us (list_sim b k (ps ++ x.0 ∷ []) (parameter_next k (ps ++ x.0 ∷ [])) j us (g.nesting ∙ nn) (next_words k (ps ++ x.0 ∷ []) j us (g.nesting ∙ nn))) x.1 g)
    where
      onward : (x : Parameter) (j : ℕ) (us : List Lexeme) → Sim T (d.parameter_list T b (ps ++ x ∷ []) j us) (run T us (parameter_next k (ps ++ x ∷ []))) (λ qs. header k qs) (λ y l vs. Took T j l) → (c : Bool) → Took T n j → Sim T ((cond c (d.parameter_list T b (ps ++ x ∷ [])) (pure (parameters.List (ps ++ x ∷ [])))) j us) (run T us (after_parameter k ps (x, c))) (λ qs. header k qs) (λ y l vs. Took T n l)
      onward x j us l true g = sim_weaker T _ _ (λ qs. header k qs) _ (λ y l vs. Took T n l) (λ y l vs e. record { nesting = e.nesting ∙ g.nesting }) l
      onward x j us l false g = (refl, g)

  parameters_sim : (b : ℕ) (k : Heading) (n : ℕ) (ts : List Lexeme) → n ≡ home_nesting k.home → (s : Sign) → sign_at ts ≡ s → Sim T (d.parameters_by T b s n ts) (run T ts (parameters_first k)) (λ qs. header k qs) (λ x j us. Took T n j)
  parameters_sim b k n ts nn sign.RightParen is = sim_then T (eat T n ts) _ (run T ts (parameters_first k)) (λ x. header k parameters.Empty) (λ x j us. Took T n j) (λ qs. header k qs) (λ x j us. Took T n j)
      (sim_eat T (parameters_first k) (header k parameters.Empty) n ts refl (λ t us q. ap (λ x. m.on_parameters t.at x k) (sign_is T ts t us sign.RightParen q is) ∙ ap (λ j. goes j (header k parameters.Empty)) (sym nn)))
      (λ x j us g. (refl, g))
  parameters_sim b k n ts nn sign.Void is = sim_then T (eat T n ts) _ (run T ts (parameters_first k)) (λ x. m.expect sign.RightParen n (header k parameters.Void)) (λ x j us. Took T n j) (λ qs. header k qs) (λ x j us. Took T n j)
      (sim_eat T (parameters_first k) (m.expect sign.RightParen n (header k parameters.Void)) n ts refl (λ t us q. ap (λ x. m.on_parameters t.at x k) (sign_is T ts t us sign.Void q is) ∙ ap (λ j. goes j (m.expect sign.RightParen j (header k parameters.Void))) (sym nn)))
      (λ x j us g. sim_then T (expect T sign.RightParen j us) _ (run T us (m.expect sign.RightParen n (header k parameters.Void))) (λ x. header k parameters.Void) (λ x l vs. Took T j l) (λ qs. header k qs) (λ x j us. Took T n j)
      (expected_sim sign.RightParen n (header k parameters.Void) j us g.nesting refl refl)
      (λ x l vs h. (refl, record { nesting = h.nesting ∙ g.nesting })))
  parameters_sim b k n ts nn s is = list_sim b k [] (parameters_first k) n ts nn (record {
    begins = λ t us q ty e. first_type t ty (sign_is T ts t us s q is) e ∙ ap (λ z. goes (home_nesting k.home) (parameter_typed k [] z ty)) (place_is T ts t us q) ∙ ap (λ j. goes j (parameter_typed k [] (place_at ts) ty)) (sym nn);
    others = λ t us q e. first_other t (sign_is T ts t us s q is) e;
    extends = λ t ty v e. ap (λ o. m.on_typed t.at t.word o k [] (place_at ts) ty) e ∙ ap (λ j. goes j (parameter_typed k [] (place_at ts) v)) (sym nn);
    open_first = refl;
    open_last = λ ty. refl;
  })
    where
      first_type : (t : Lexeme) (ty : TypeWords) → sign_of_word t.word ≡ s → type_of (sign_of_word t.word) ≡ Some ty → m.on_parameters t.at (sign_of_word t.word) k ≡ goes (home_nesting k.home) (parameter_typed k [] t.at ty)
      first_type t ty w e = ap (λ x. m.on_parameters t.at x k) w ∙ ap (λ o. m.on_parameter t.at o k []) (ap type_of (sym w) ∙ e)

      first_other : (t : Lexeme) → sign_of_word t.word ≡ s → type_of (sign_of_word t.word) ≡ None → m.on_parameters t.at (sign_of_word t.word) k ≡ None
      first_other t w e = ap (λ x. m.on_parameters t.at x k) w ∙ ap (λ o. m.on_parameter t.at o k []) (ap type_of (sym w) ∙ e)

  -- ---- headings

  abbrev heading : At → Return → Identifier → Home → Heading
  heading at g f h = record { at = at; gives = g; name = f; home = h }

  abbrev pub opened_by : Home → Opening → State
  opened_by h (opening_.Objects x) = conclude h x
  opened_by h (opening_.Function at g f qs) = header (heading at g f h) qs

  heading_sim : (b : ℕ) (at : At) (g : Return) (f : Identifier) (h : Home) (n : ℕ) (ts : List Lexeme) → n ≡ home_nesting h → (g ≡ gives.Void ⊎ sign_at ts ≡ sign.LeftParen) → Sim T (d.heading T b at g f n ts) (run T ts (m.declared at g f h)) (opened_by h) (λ x j us. Took T n j)
  unfolding d.heading d.parameters
  heading_sim b at g f h n ts nn may = sim_then T (expect T sign.LeftParen n ts) _ (run T ts (m.declared at g f h)) (λ x. parameters_first (heading at g f h)) (λ x j us. Took T n j) (opened_by h) (λ x j us. Took T n j)
      (sim_expect T (m.declared at g f h) (parameters_first (heading at g f h)) sign.LeftParen n ts refl
      (λ t us q w. ap (λ x. m.on_declared at g f h x) w ∙ ap (λ j. goes j (parameters_first (heading at g f h))) (sym nn))
      (λ t us q w. other may (sign_of_word t.word) w (λ is. sign_is T ts t us sign.LeftParen q is)))
      (λ x j us l. sim_then T (d.parameters_by T b (sign_at us) j us) _ (run T us (parameters_first (heading at g f h))) (λ qs. header (heading at g f h) qs) (λ qs i vs. Took T j i) (opened_by h) (λ x j us. Took T n j)
      (parameters_sim b (heading at g f h) j us (l.nesting ∙ nn) (sign_at us) refl)
      (λ qs i vs e. (refl, record { nesting = e.nesting ∙ l.nesting })))
    where
      is_void : (g : Return) (s : Sign) → g ≡ gives.Void → same s sign.LeftParen ≡ false → m.on_declared at g f h s ≡ None
      is_void g sign.LeftParen v w = absurd cc
      is_void g s v w = subst (λ y. m.on_declared at y f h s ≡ None) (sym v) refl

      other : (g ≡ gives.Void ⊎ sign_at ts ≡ sign.LeftParen) → (s : Sign) → same s sign.LeftParen ≡ false → (sign_at ts ≡ sign.LeftParen → s ≡ sign.LeftParen) → m.on_declared at g f h s ≡ None
      other (inl v) s w to = is_void g s v w
      other (inr e) s w to = absurd (apart (sym w ∙ ap (λ y. same y sign.LeftParen) (to e)))
        where
          apart : false ≡ true → ⊥
          apart z = absurd cc

  -- ---- declarations

  -- where a declaration may begin
  pub record Starts (s0 : State) (h : Home) (n : ℕ) (ts : List Lexeme) : Type 0 where
    pub by_type : (t : Lexeme) (us : List Lexeme) → ts ≡ t ∷ us → (ty : TypeWords) → type_of (sign_of_word t.word) ≡ Some ty → step s0 t ≡ Some (n, declaring (place_at ts) (gives.Value ty) h)
    pub by_void : (t : Lexeme) (us : List Lexeme) → ts ≡ t ∷ us → sign_of_word t.word ≡ sign.Void → step s0 t ≡ Some (n, declaring (place_at ts) gives.Void h)
    pub by_other : (t : Lexeme) (us : List Lexeme) → ts ≡ t ∷ us → type_of (sign_of_word t.word) ≡ None → same (sign_of_word t.word) sign.Void ≡ false → step s0 t ≡ None
    pub ends : at_end s0 ≡ Err (Wrong 0)

  declared_name_other : (p at : At) (g : Return) (w : Word) (h : Home) → ((f : List ℕ) → w ≡ a_name f → ⊥) → m.on_declared_name p at g w h ≡ None
  declared_name_other p at g (a_name f) h k = absurd (k f refl)
  declared_name_other p at g (a_number v e u) h k = refl
  declared_name_other p at g (a_character v) h k = refl
  declared_name_other p at g (a_sign s) h k = refl

  -- the name behind a type or void
  name_sim : (at : At) (g : Return) (h : Home) (n : ℕ) (ts : List Lexeme) → n ≡ home_nesting h → ((t : Lexeme) (us : List Lexeme) → ts ≡ t ∷ us → m.more_words g (sign_of_word t.word) ≡ None) → Sim T (name T n ts) (run T ts (declaring at g h)) (λ f. m.declared at g f h) (λ f j us. Took T n j)
  name_sim at g h n ts nn none = sim_name (declaring at g h) (λ f. m.declared at g f h) n ts refl
      (λ t f us q w. ap (λ o. m.on_declaring t.at at g t.word o h) (none t us q) ∙ ap (λ y. m.on_declared_name t.at at g y h) w ∙ ap (λ j. goes j (m.declared at g (identifier t.at f) h)) (sym nn))
      (λ t us q k. ap (λ o. m.on_declaring t.at at g t.word o h) (none t us q) ∙ declared_name_other t.at at g t.word h k)

  typed_opening_sim : (b : ℕ) (at : At) (w : TypeWords) (h : Home) (n : ℕ) (ts : List Lexeme) → n ≡ home_nesting h → joined w (sign_at ts) ≡ None → Sim T (d.typed_opening T b at w n ts) (run T ts (declaring at (gives.Value w) h)) (opened_by h) (λ x j us. Took T n j)
  unfolding d.typed_opening
  typed_opening_sim b at w h n ts nn none = sim_then T (name T n ts) _ (run T ts (declaring at (gives.Value w) h)) (λ f. m.declared at (gives.Value w) f h) (λ f j us. Took T n j) (opened_by h) (λ x j us. Took T n j)
      (name_sim at (gives.Value w) h n ts nn (λ t us q. ap (λ x. joined w x) (sign_is T ts t us (sign_at ts) q refl) ∙ none))
      (λ f j us g. by_sign f j us g (same (sign_at us) sign.LeftParen) refl)
    where
      plain : (f : Identifier) (s : Sign) → same s sign.LeftParen ≡ false → m.on_declared at (gives.Value w) f h s ≡ m.on_named (naming at w [] h f) s
      plain f sign.LeftParen e = absurd cc
      plain f s e = refl

      by_sign : (f : Identifier) (j : ℕ) (us : List Lexeme) → Took T n j → (c : Bool) → same (sign_at us) sign.LeftParen ≡ c
          → Sim T ((cond c (d.heading T b at (gives.Value w) f) (d.objects T b f >>= (λ is. pure (opening_.Objects (declaration.Objects at w is))))) j us) (run T us (m.declared at (gives.Value w) f h)) (opened_by h) (λ x i vs. Took T n i)
      by_sign f j us g true is = sim_weaker T _ _ (opened_by h) _ (λ x i vs. Took T n i) (λ x i vs l. record { nesting = l.nesting ∙ g.nesting }) (heading_sim b at (gives.Value w) f h j us (g.nesting ∙ nn) (inr (same_true the_type (search rules) (sign_at us) sign.LeftParen is)))
      by_sign f j us g false is = sim_as T _ _ (run T us (item_named (naming at w [] h f))) (opened_by h) (λ x i vs. Took T n i)
          (same_run T (m.declared at (gives.Value w) f h) (item_named (naming at w [] h f)) us refl (λ t vs q. plain f (sign_of_word t.word) (ap (λ y. same y sign.LeftParen) (sign_is T us t vs (sign_at us) q refl) ∙ is)))
          (sim_then T (d.objects T b f j us) _ (run T us (item_named (naming at w [] h f))) (λ xs. conclude h (declaration.Objects at w xs)) (λ x i vs. Took T j i) (opened_by h) (λ x i vs. Took T n i)
          (objects_sim b at w h f j us (g.nesting ∙ nn))
          (λ xs i vs l. (refl, record { nesting = l.nesting ∙ g.nesting })))

  opening_sim : (b : ℕ) (s0 : State) (h : Home) (n : ℕ) (ts : List Lexeme) → n ≡ home_nesting h → Starts s0 h n ts → (s : Sign) → sign_at ts ≡ s → Sim T (d.opening_by T b (place_at ts) s n ts) (run T ts s0) (opened_by h) (λ x j us. Took T n j)
  opening_sim b s0 h n ts nn y sign.Void is = sim_then T (eat T n ts) _ (run T ts s0) (λ x. declaring (place_at ts) gives.Void h) (λ x j us. Took T n j) (opened_by h) (λ x j us. Took T n j)
      (sim_eat T s0 (declaring (place_at ts) gives.Void h) n ts y.ends (λ t us q. y.by_void t us q (sign_is T ts t us sign.Void q is)))
      (λ x j us g. sim_then T (name T j us) _ (run T us (declaring (place_at ts) gives.Void h)) (λ f. m.declared (place_at ts) gives.Void f h) (λ f i vs. Took T j i) (opened_by h) (λ x j us. Took T n j)
      (name_sim (place_at ts) gives.Void h j us (g.nesting ∙ nn) (λ t vs q. refl))
      (λ f i vs l. sim_weaker T _ _ (opened_by h) _ (λ x k ws. Took T n k) (λ x k ws e. record { nesting = e.nesting ∙ l.nesting ∙ g.nesting }) (heading_sim b (place_at ts) gives.Void f h i vs (l.nesting ∙ g.nesting ∙ nn) (inl refl))))
  opening_sim b s0 h n ts nn y s is = sim_then T (r.type_words T n ts) _ (run T ts s0) (λ ty. declaring (place_at ts) (gives.Value ty) h) (Typed T n) (opened_by h) (λ x j us. Took T n j)
      (types_sim T s0 (λ ty. declaring (place_at ts) (gives.Value ty) h) n ts (record {
        begins = y.by_type;
        others = λ t us q e. y.by_other t us q e (ap (λ x. same x sign.Void) (sign_is T ts t us s q is));
        extends = λ t ty v e. ap (λ o. m.on_declaring t.at (place_at ts) (gives.Value ty) t.word o h) e ∙ ap (λ j. goes j (declaring (place_at ts) (gives.Value v) h)) (sym nn);
        open_first = y.ends;
        open_last = λ ty. refl;
      }))
      (λ ty j us g. sim_weaker T _ _ (opened_by h) _ (λ x k ws. Took T n k) (λ x k ws e. record { nesting = e.nesting ∙ g.nesting }) (typed_opening_sim b (place_at ts) ty h j us (g.nesting ∙ nn) g.ended))

  pub openings_sim : (b : ℕ) (s0 : State) (h : Home) (n : ℕ) (ts : List Lexeme) → n ≡ home_nesting h → Starts s0 h n ts → Sim T (d.opening T b n ts) (run T ts s0) (opened_by h) (λ x j us. Took T n j)
  unfolding d.opening
  openings_sim b s0 h n ts nn y = opening_sim b s0 h n ts nn y (sign_at ts) refl

  header_sim : (k : Heading) (qs : Parameters) (n : ℕ) (ts : List Lexeme) → n ≡ home_nesting k.home → (((p : At) → m.on_body p k qs k.home ≡ None) ⊎ same (sign_at ts) sign.LeftBrace ≡ false) → Sim T (expect T sign.Semicolon n ts) (run T ts (header k qs)) (λ x. conclude k.home (declaration.Function k.at k.gives k.name qs)) (λ x j us. Took T n j)
  header_sim k qs n ts nn may = sim_expect T (header k qs) (conclude k.home (declaration.Function k.at k.gives k.name qs)) sign.Semicolon n ts refl
      (λ t us q w. ap (λ x. m.on_header t.at k qs x) w ∙ ap (λ j. goes j (conclude k.home (declaration.Function k.at k.gives k.name qs))) (sym nn))
      (λ t us q w. other may t.at (sign_of_word t.word) w (sign_is T ts t us (sign_at ts) q refl))
    where
      other : (((p : At) → m.on_body p k qs k.home ≡ None) ⊎ same (sign_at ts) sign.LeftBrace ≡ false) → (p : At) (s : Sign) → same s sign.Semicolon ≡ false → s ≡ sign_at ts → m.on_header p k qs s ≡ None
      other may p sign.Semicolon w e = absurd cc
      other (inl h) p sign.LeftBrace w e = h p
      other (inr h) p sign.LeftBrace w e = absurd (apart (sym (ap (λ x. same x sign.LeftBrace) e ∙ h)))
        where
          apart : false ≡ true → ⊥
          apart z = absurd cc
      other may p s w e = refl

  pub header_end : (k : Heading) (qs : Parameters) (n : ℕ) (ts : List Lexeme) → n ≡ home_nesting k.home → (((p : At) → m.on_body p k qs k.home ≡ None) ⊎ same (sign_at ts) sign.LeftBrace ≡ false) → Sim T (expect T sign.Semicolon n ts) (run T ts (header k qs)) (λ x. conclude k.home (declaration.Function k.at k.gives k.name qs)) (λ x j us. Took T n j)
  header_end = header_sim

  -- a declaration that stands in a function
  pub declaration_sim : (b : ℕ) (s0 : State) (h : Home) (n : ℕ) (ts : List Lexeme) → n ≡ home_nesting h → ((p : At) (k : Heading) (qs : Parameters) → m.on_body p k qs h ≡ None) → Starts s0 h n ts → Sim T (d.declaration T b n ts) (run T ts s0) (λ x. conclude h x) (λ x j us. Took T n j)
  unfolding d.declaration
  declaration_sim b s0 h n ts nn inner_ y = sim_then T (d.opening T b n ts) (d.declared T) (run T ts s0) (opened_by h) (λ x j us. Took T n j) (λ x. conclude h x) (λ x j us. Took T n j)
      (openings_sim b s0 h n ts nn y)
      ends
    where
      ends : (o : Opening) (j : ℕ) (us : List Lexeme) → Took T n j → Sim T (d.declared T o j us) (run T us (opened_by h o)) (λ x. conclude h x) (λ x i vs. Took T n i)
      ends (opening_.Objects x) j us g = (refl, g)
      ends (opening_.Function at r2 f qs) j us g = sim_then T (expect T sign.Semicolon j us) _ (run T us (header (heading at r2 f h) qs)) (λ x. conclude h (declaration.Function at r2 f qs)) (λ x i vs. Took T j i) (λ x. conclude h x) (λ x i vs. Took T n i)
          (header_sim (heading at r2 f h) qs j us (g.nesting ∙ nn) (inl (λ p. inner_ p (heading at r2 f h) qs)))
          (λ x i vs l. (refl, record { nesting = l.nesting ∙ g.nesting }))
