-- The reading of statements and programs does what the machine does.
use denote.Enum.Bare.{same_true}
use Rattle.c_grammar.specs.contracts.sign.Sign.{the_type}
use Rattle.std.proofs.Common.{rules, inr, ◌≡◌, ℕ, zero, suc, Bool, true, false, cond, List, [], ◌∷◌, ◌++◌, Option, Some, None, Ok, Err, refl, sym, ap, subst, ◌∙◌, arith}
use Rattle.c_tree.specs.declared.token.At.{At}
use Rattle.c_tree.specs.declared.syntax.TypeWords.{TypeWords}
use Rattle.c_tree.specs.declared.syntax.Expr.{Expr}
use Rattle.c_grammar.specs.declared.sign.Sign.{Sign}
use Rattle.c_grammar.specs.declared.sign.Sign.TheVariants as sign
use Rattle.c_grammar.specs.Words.{Word, a_sign, sign_of_word, Lexeme}
use Rattle.c_grammar.specs.Phrases.{behind}
use Rattle.c_grammar.specs.Grammar.{about}
use Rattle.c_reading.specs.Parsers.{Wrong, Deep, Out, same, Read, Parser, ◌>>=◌, ◌>>◌, and_then, pure, place_at, sign_at, eat, expect}
use Rattle.c_reading.specs.Expressions as r
use Rattle.c_reading.specs.Trees as q
use Rattle.c_parser.proofs.Asked.{place_of, type_of}
use Rattle.c_tree.specs.declared.syntax.Identifier.{Identifier}
use Rattle.c_tree.specs.declared.syntax.Return.{Return}
use Rattle.c_tree.specs.declared.syntax.Syntax.{Syntax}
use Rattle.c_tree.specs.declared.syntax.Return.TheVariants as gives
use Rattle.c_tree.specs.declared.syntax.Parameters.{Parameters}
use Rattle.c_tree.specs.declared.syntax.Declaration.TheVariants as declaration
use Rattle.c_declarations.specs.Declarations as d
use Rattle.c_declarations.specs.declared.declarations.Opening.{Opening}
use Rattle.c_declarations.specs.declared.declarations.Opening.TheVariants as opening_
use Rattle.c_tree.specs.declared.syntax.Start.{Start}
use Rattle.c_tree.specs.declared.syntax.Start.TheVariants as start
use Rattle.c_tree.specs.declared.syntax.Statement.{Statement}
use Rattle.c_tree.specs.declared.syntax.Statement.TheVariants as tree_
use Rattle.c_tree.specs.declared.syntax.External.{External}
use Rattle.c_tree.specs.declared.syntax.External.TheVariants as external
use Rattle.c_program.specs.Statements as st
use Rattle.c_parser.proofs.Machine as m
use Rattle.c_parser.proofs.Machine.{State, operand, have, want, got, Under, Use, step, run, Outcome, Next, goes, moved, at_end, hole, first, spot, outer, op_of, takes, push, close_use, use_hole, is_block, inside, add, maybe_behind, start_behind, for_test, for_next, Home, Naming, Heading, home_nesting, conclude, header, declaring, either, is_sign}
use Rattle.c_parser.proofs.Sim.{Stop, Sim, sim_then, sim_as, sim_weaker, Took, sim_eat, same_run, sign_is, place_is, sim_expect, Got, inner, outside, read_reads}
use Rattle.c_parser.proofs.DeclSim.{is_no_sign, is_a_sign, use_step, expected_sim, Starts, declaration_sim, openings_sim, opened_by, header_end}

-- ---- blocks

pub data Open_block : Type 0 where
  of_block : At → List Under → Open_block
  of_switch : At → Expr → List Under → Open_block
  of_body : List External → At → Return → Identifier → Parameters → At → Open_block

abbrev pub unders : Open_block → List Statement → List Under
unders (of_block at us) ss = m.in_block at ss ∷ us
unders (of_switch at e us) ss = m.in_switch at e ss ∷ us
unders (of_body ps at g f qs brace) ss = m.in_body ps at g f qs brace ss ∷ []

abbrev pub nest : Open_block → ℕ
nest (of_block at us) = suc (suc (inside us))
nest (of_switch at e us) = suc (behind (suc (inside us)) (about e))
nest (of_body ps at g f qs brace) = 1

abbrev pub closed : Open_block → List Statement → State
closed (of_block at us) ss = got (tree_.Block at ss) us
closed (of_switch at e us) ss = got (tree_.Switch at e ss) us
closed (of_body ps at g f qs brace) ss = m.program (ps ++ external.Defined at g f qs brace ss ∷ [])

abbrev Nothing : {A : Type 0} → A → ℕ → List Lexeme → Type 0
Nothing x n us = Unit {0}

same_cond : {A : Type 0} (b : Bool) (x y : A) → x ≡ y → cond b x y ≡ y
same_cond true x y e = e
same_cond false x y e = refl

-- the end of the program is what is left
pub record End_next (p : Syntax) (us : List Lexeme) : Type 0 where
  pub sign : same (sign_at us) sign.End ≡ true
  pub place : p.end ≡ place_at us

module _ (T : ℕ → Bool) where
  -- the next word begins a statement
  abbrev Plain : List Under → List Lexeme → Type 0
  Plain us ts = (t : Lexeme) (rest : List Lexeme) → ts ≡ t ∷ rest → step (want us) t ≡ m.on_statement t.at t.word (sign_of_word t.word) us

  pub record Stat_reads (S : st.Statements) : Type 0 where
    pub one : (us : List Under) (n : ℕ) (ts : List Lexeme) → n ≡ inside us → Plain us ts → Sim T (S.one n ts) (run T ts (want us)) (λ x. got x us) (λ x k vs. Took T n k)
    pub rest : (c : Open_block) (ss : List Statement) (n : ℕ) (ts : List Lexeme) → n ≡ nest c → Sim T (S.rest ss n ts) (run T ts (want (unders c ss))) (closed c) Nothing

  -- ---- expressions of statements

  paren_sim : (b : ℕ) (u : Use) (s2 : Expr → State) (n : ℕ) (ts : List Lexeme) → n ≡ outer u → use_hole u ≡ 0 → ((e : Expr) → close_use u e sign.RightParen ≡ Some (behind (outer u) (about e), s2 e)) → ((e : Expr) (s : Sign) → same s sign.RightParen ≡ false → close_use u e s ≡ None)
      → Sim T (st.condition T (r.read T b) n ts) (run T ts (m.expect sign.LeftParen (outer u) (operand [] u))) s2 (λ e k us. k ≡ behind (outer u) (about e))
  unfolding st.condition
  paren_sim b u s2 n ts nn low does none = sim_then T (expect T sign.LeftParen n ts) _ (run T ts (m.expect sign.LeftParen (outer u) (operand [] u))) (λ x. operand [] u) (λ x k us. Took T n k) s2 (λ e k us. k ≡ behind (outer u) (about e))
      (expected_sim T sign.LeftParen (outer u) (operand [] u) n ts nn refl refl)
      (λ x k us g. sim_then T (r.read T b r.expr k us) _ (run T us (operand [] u)) (λ e. have e [] u) (Got T 0 (place_at us) (outside T [] u)) s2 (λ e k us. k ≡ behind (outer u) (about e))
      ((read_reads T b).expr [] u k us low (g.nesting ∙ nn))
      (λ e j vs ge. sim_then T (expect T sign.RightParen j vs) _ (run T vs (have e [] u)) (λ x. s2 e) (λ x i ws. Took T j i) s2 (λ e k us. k ≡ behind (outer u) (about e))
      (sim_expect T (have e [] u) (s2 e) sign.RightParen j vs refl
      (λ t ws q w. use_step T e u vs (subst (λ y. Stop y (op_of (sign_at vs)) e) (sym low) ge.stop) t ws q ∙ ap (λ y. close_use u e y) w ∙ does e ∙ ap (λ i. goes i (s2 e)) (sym ge.nesting))
      (λ t ws q w. use_step T e u vs (subst (λ y. Stop y (op_of (sign_at vs)) e) (sym low) ge.stop) t ws q ∙ none e (sign_of_word t.word) w))
      (λ x i ws h. (refl, h.nesting ∙ ge.nesting))))

  pub record Maybe (u : Use) (p : At) (x : Option Expr) (k : ℕ) (us : List Lexeme) : Type 0 where
    pub nesting : k ≡ maybe_behind (outer u) x
    pub place : (e : Expr) → x ≡ Some e → place_of e ≡ p

  some_inj : (a b : Expr) → Some a ≡ Some b → a ≡ b
  some_inj a b e = cc

  optional_sim : (b : ℕ) (u : Use) (close : Sign) (s0 : State) (a : Option Expr → State) (n : ℕ) (ts : List Lexeme) → n ≡ outer u → use_hole u ≡ 0 → at_end s0 ≡ Err (Wrong 0)
      → ((t : Lexeme) (us : List Lexeme) → ts ≡ t ∷ us → sign_of_word t.word ≡ close → step s0 t ≡ Some (n, a None))
      → (same (sign_at ts) close ≡ false → run T ts s0 ≡ run T ts (operand [] u))
      → ((e : Expr) → close_use u e close ≡ Some (behind (outer u) (about e), a (Some e))) → ((e : Expr) (s : Sign) → same s close ≡ false → close_use u e s ≡ None)
      → Sim T (st.optional T (r.read T b) close n ts) (run T ts s0) a (Maybe u (place_at ts))
  unfolding st.optional
  optional_sim b u close s0 a n ts nn low ends yes_ no_ does none = by_sign (same (sign_at ts) close) refl
    where
      by_sign : (c : Bool) → same (sign_at ts) close ≡ c → Sim T ((cond c (eat T >> pure None) (r.read T b r.expr >>= (λ e. expect T close >>= (λ x. pure (Some e))))) n ts) (run T ts s0) a (Maybe u (place_at ts))
      by_sign true is = sim_then T (eat T n ts) _ (run T ts s0) (λ x. a None) (λ x k us. Took T n k) a (Maybe u (place_at ts))
          (sim_eat T s0 (a None) n ts ends (λ t us q. yes_ t us q (sign_is T ts t us close q (same_true the_type (search rules) (sign_at ts) close is))))
          (λ x k us g. (refl, record { nesting = g.nesting ∙ nn; place = λ e l. absurd cc }))
      by_sign false is = sim_as T _ (run T ts s0) (run T ts (operand [] u)) a (Maybe u (place_at ts)) (no_ is)
          (sim_then T (r.read T b r.expr n ts) _ (run T ts (operand [] u)) (λ e. have e [] u) (Got T 0 (place_at ts) (outside T [] u)) a (Maybe u (place_at ts))
          ((read_reads T b).expr [] u n ts low nn)
          (λ e j vs ge. sim_then T (expect T close j vs) _ (run T vs (have e [] u)) (λ x. a (Some e)) (λ x i ws. Took T j i) a (Maybe u (place_at ts))
          (sim_expect T (have e [] u) (a (Some e)) close j vs refl
          (λ t ws q w. use_step T e u vs (subst (λ y. Stop y (op_of (sign_at vs)) e) (sym low) ge.stop) t ws q ∙ ap (λ y. close_use u e y) w ∙ does e ∙ ap (λ i. goes i (a (Some e))) (sym ge.nesting))
          (λ t ws q w. use_step T e u vs (subst (λ y. Stop y (op_of (sign_at vs)) e) (sym low) ge.stop) t ws q ∙ none e (sign_of_word t.word) w))
          (λ x i ws h. (refl, record { nesting = h.nesting ∙ ge.nesting; place = λ y l. subst (λ z. place_of z ≡ place_at ts) (some_inj e y l) ge.place }))))

  -- from a state that takes the word or reads on
  either_yes : (close : Sign) (n : ℕ) (a b : State) (ts : List Lexeme) → same close sign.Other ≡ false → is_sign (a_sign close) close ≡ true → (t : Lexeme) (us : List Lexeme) → ts ≡ t ∷ us → sign_of_word t.word ≡ close → step (either close n a b) t ≡ Some (n, a)
  either_yes close n a b ts other self t us q w = ap (λ c. cond c (goes n a) (step b t)) (is_a_sign t.word close w other self)

  either_no : (close : Sign) (n : ℕ) (a b : State) (ts : List Lexeme) → at_end b ≡ Err (Wrong 0) → same (sign_at ts) close ≡ false → run T ts (either close n a b) ≡ run T ts b
  either_no close n a b ts ends w = same_run T (either close n a b) b ts (sym ends) (λ t us q. ap (λ c. cond c (goes n a) (step b t)) (is_no_sign t.word close (ap (λ y. same y close) (sign_is T ts t us (sign_at ts) q refl) ∙ w)))

  no_paren : (u : Use) → ((e : Expr) (s : Sign) → same s sign.RightParen ≡ false → close_use u e s ≡ None) → (e : Expr) (s : Sign) → same s sign.RightParen ≡ false → close_use u e s ≡ None
  no_paren u h = h

  if_none : (at : At) (us : List Under) (e : Expr) (s : Sign) → same s sign.RightParen ≡ false → close_use (m.if_ at us) e s ≡ None
  if_none at us e sign.RightParen w = absurd cc
  if_none at us e s w = refl

  while_none : (at : At) (us : List Under) (e : Expr) (s : Sign) → same s sign.RightParen ≡ false → close_use (m.while_ at us) e s ≡ None
  while_none at us e sign.RightParen w = absurd cc
  while_none at us e s w = refl

  switch_none : (at : At) (us : List Under) (e : Expr) (s : Sign) → same s sign.RightParen ≡ false → close_use (m.switch_ at us) e s ≡ None
  switch_none at us e sign.RightParen w = absurd cc
  switch_none at us e s w = refl

  do_none : (at : At) (x : Statement) (us : List Under) (e : Expr) (s : Sign) → same s sign.RightParen ≡ false → close_use (m.do_ at x us) e s ≡ None
  do_none at x us e sign.RightParen w = absurd cc
  do_none at x us e s w = refl

  next_none : (at : At) (b : Start) (x : Option Expr) (us : List Under) (e : Expr) (s : Sign) → same s sign.RightParen ≡ false → close_use (m.next_ at b x us) e s ≡ None
  next_none at b x us e sign.RightParen w = absurd cc
  next_none at b x us e s w = refl

  test_none : (at : At) (b : Start) (us : List Under) (e : Expr) (s : Sign) → same s sign.Semicolon ≡ false → close_use (m.test_ at b us) e s ≡ None
  test_none at b us e sign.Semicolon w = absurd cc
  test_none at b us e s w = refl

  start_none : (at : At) (us : List Under) (e : Expr) (s : Sign) → same s sign.Semicolon ≡ false → close_use (m.start_ at us) e s ≡ None
  start_none at us e sign.Semicolon w = absurd cc
  start_none at us e s w = refl

  return_none : (at : At) (us : List Under) (e : Expr) (s : Sign) → same s sign.Semicolon ≡ false → close_use (m.return_ at us) e s ≡ None
  return_none at us e sign.Semicolon w = absurd cc
  return_none at us e s w = refl

  evaluate_none : (us : List Under) (e : Expr) (s : Sign) → same s sign.Semicolon ≡ false → close_use (m.evaluate us) e s ≡ None
  evaluate_none us e sign.Semicolon w = absurd cc
  evaluate_none us e s w = refl

  case_none : (at : At) (us : List Under) (e : Expr) (s : Sign) → same s sign.Colon ≡ false → close_use (m.case_ at us) e s ≡ None
  case_none at us e sign.Colon w = absurd cc
  case_none at us e s w = refl

  -- ---- declarations in functions

  begins_one : (x : Sign) → q.begins_declaration x ≡ true → type_of x ≡ None → same x sign.Void ≡ false → ⊥
  unfolding q.begins_declaration
  begins_one sign.Void h t v = absurd cc
  begins_one sign.Char h t v = absurd cc
  begins_one sign.Int h t v = absurd cc
  begins_one sign.Signed h t v = absurd cc
  begins_one sign.Unsigned h t v = absurd cc
  begins_one _ h t v = absurd cc

  first_type : (p : At) (w : Word) (at : At) (us : List Under) (x : Sign) (ty : TypeWords) → type_of x ≡ Some ty → m.on_first p w x at us ≡ Some (suc (inside us), declaring p (gives.Value ty) (m.at_start at us))
  first_type p w at us sign.Char ty is = ap (λ o. m.on_declaration p sign.Char o (m.at_start at us) (m.on_operand p w [] (m.start_ at us))) is
  first_type p w at us sign.Int ty is = ap (λ o. m.on_declaration p sign.Int o (m.at_start at us) (m.on_operand p w [] (m.start_ at us))) is
  first_type p w at us sign.Signed ty is = ap (λ o. m.on_declaration p sign.Signed o (m.at_start at us) (m.on_operand p w [] (m.start_ at us))) is
  first_type p w at us sign.Unsigned ty is = ap (λ o. m.on_declaration p sign.Unsigned o (m.at_start at us) (m.on_operand p w [] (m.start_ at us))) is
  first_type p w at us _ ty is = absurd cc

  item_type : (p : At) (w : Word) (us : List Under) (x : Sign) (ty : TypeWords) → type_of x ≡ Some ty → m.on_item p w x us ≡ Some (inside us, declaring p (gives.Value ty) (m.at_block us))
  item_type p w us sign.Char ty is = ap (λ o. m.on_declaration p sign.Char o (m.at_block us) (m.on_statement p w sign.Char us)) is
  item_type p w us sign.Int ty is = ap (λ o. m.on_declaration p sign.Int o (m.at_block us) (m.on_statement p w sign.Int us)) is
  item_type p w us sign.Signed ty is = ap (λ o. m.on_declaration p sign.Signed o (m.at_block us) (m.on_statement p w sign.Signed us)) is
  item_type p w us sign.Unsigned ty is = ap (λ o. m.on_declaration p sign.Unsigned o (m.at_block us) (m.on_statement p w sign.Unsigned us)) is
  item_type p w us _ ty is = absurd cc

  start_starts : (at : At) (us : List Under) (n : ℕ) (ts : List Lexeme) → n ≡ suc (inside us) → q.begins_declaration (sign_at ts) ≡ true → Starts T (m.for_first at us) (m.at_start at us) n ts
  start_starts at us n ts nn bd = record {
    by_type = λ t r2 l ty e. first_type t.at t.word at us (sign_of_word t.word) ty e ∙ ap (λ z. goes (suc (inside us)) (declaring z (gives.Value ty) (m.at_start at us))) (place_is T ts t r2 l) ∙ ap (λ j. goes j (declaring (place_at ts) (gives.Value ty) (m.at_start at us))) (sym nn);
    by_void = λ t r2 l w. ap (λ x. m.on_first t.at t.word x at us) w ∙ ap (λ z. goes (suc (inside us)) (declaring z gives.Void (m.at_start at us))) (place_is T ts t r2 l) ∙ ap (λ j. goes j (declaring (place_at ts) gives.Void (m.at_start at us))) (sym nn);
    by_other = λ t r2 l e v. absurd (begins_one (sign_of_word t.word) (ap q.begins_declaration (sign_is T ts t r2 (sign_at ts) l refl) ∙ bd) e v);
    ends = refl;
  }

  item_starts : (c : Open_block) (ss : List Statement) (n : ℕ) (ts : List Lexeme) → n ≡ nest c → q.begins_declaration (sign_at ts) ≡ true → Starts T (want (unders c ss)) (m.at_block (unders c ss)) n ts
  item_starts c ss n ts nn bd = record {
    by_type = λ t r2 l ty e. item_step c t ∙ item_type t.at t.word (unders c ss) (sign_of_word t.word) ty e ∙ ap (λ z. goes (inside (unders c ss)) (declaring z (gives.Value ty) (m.at_block (unders c ss)))) (place_is T ts t r2 l) ∙ ap (λ j. goes j (declaring (place_at ts) (gives.Value ty) (m.at_block (unders c ss)))) (nest_is c ∙ sym nn);
    by_void = λ t r2 l w. item_step c t ∙ ap (λ x. m.on_item t.at t.word x (unders c ss)) w ∙ ap (λ z. goes (inside (unders c ss)) (declaring z gives.Void (m.at_block (unders c ss)))) (place_is T ts t r2 l) ∙ ap (λ j. goes j (declaring (place_at ts) gives.Void (m.at_block (unders c ss)))) (nest_is c ∙ sym nn);
    by_other = λ t r2 l e v. absurd (begins_one (sign_of_word t.word) (ap q.begins_declaration (sign_is T ts t r2 (sign_at ts) l refl) ∙ bd) e v);
    ends = refl;
  }
    where
      item_step : (c : Open_block) (t : Lexeme) → step (want (unders c ss)) t ≡ m.on_item t.at t.word (sign_of_word t.word) (unders c ss)
      item_step (of_block at us) t = refl
      item_step (of_switch at e us) t = refl
      item_step (of_body ps at g f qs brace) t = refl

      nest_is : (c : Open_block) → inside (unders c ss) ≡ nest c
      nest_is (of_block at us) = refl
      nest_is (of_switch at e us) = refl
      nest_is (of_body ps at g f qs brace) = refl

  plain_first : (t : Lexeme) (at : At) (us : List Under) (x : Sign) → q.begins_declaration x ≡ false → same x sign.Semicolon ≡ false → m.on_first t.at t.word x at us ≡ m.on_operand t.at t.word [] (m.start_ at us)
  unfolding q.begins_declaration
  plain_first t at us sign.Semicolon h w = absurd cc
  plain_first t at us sign.Void h w = absurd cc
  plain_first t at us sign.Char h w = absurd cc
  plain_first t at us sign.Int h w = absurd cc
  plain_first t at us sign.Signed h w = absurd cc
  plain_first t at us sign.Unsigned h w = absurd cc
  plain_first t at us x h w = refl

  started_sim : (b : ℕ) (at : At) (us : List Under) (n : ℕ) (ts : List Lexeme) → n ≡ suc (inside us) → same (sign_at ts) sign.Semicolon ≡ false → Sim T (st.started T b n ts) (run T ts (m.for_first at us)) (λ x. for_test at x us) (λ x k vs. k ≡ start_behind (suc (inside us)) x)
  unfolding st.started
  started_sim b at us n ts nn semi = by_decl (q.begins_declaration (sign_at ts)) refl
    where
      by_decl : (c : Bool) → q.begins_declaration (sign_at ts) ≡ c → Sim T ((cond c (d.declaration T b >>= (λ x. pure (start.Declared x))) (r.read T b r.expr >>= (λ e. expect T sign.Semicolon >>= (λ y. pure (start.Value e))))) n ts) (run T ts (m.for_first at us)) (λ x. for_test at x us) (λ x k vs. k ≡ start_behind (suc (inside us)) x)
      by_decl true is = sim_then T (d.declaration T b n ts) _ (run T ts (m.for_first at us)) (λ x. conclude (m.at_start at us) x) (λ x k vs. Took T n k) (λ x. for_test at x us) (λ x k vs. k ≡ start_behind (suc (inside us)) x)
          (declaration_sim T b (m.for_first at us) (m.at_start at us) n ts nn (λ p k qs. refl) (start_starts at us n ts nn is))
          (λ x k vs g. (refl, g.nesting ∙ nn))
      by_decl false is = sim_as T _ (run T ts (m.for_first at us)) (run T ts (operand [] (m.start_ at us))) (λ x. for_test at x us) (λ x k vs. k ≡ start_behind (suc (inside us)) x)
          (same_run T (m.for_first at us) (operand [] (m.start_ at us)) ts refl (λ t r2 l. plain_first t at us (sign_of_word t.word) (ap q.begins_declaration (sign_is T ts t r2 (sign_at ts) l refl) ∙ is) (ap (λ y. same y sign.Semicolon) (sign_is T ts t r2 (sign_at ts) l refl) ∙ semi)))
          (sim_then T (r.read T b r.expr n ts) _ (run T ts (operand [] (m.start_ at us))) (λ e. have e [] (m.start_ at us)) (Got T 0 (place_at ts) (outside T [] (m.start_ at us))) (λ x. for_test at x us) (λ x k vs. k ≡ start_behind (suc (inside us)) x)
          ((read_reads T b).expr [] (m.start_ at us) n ts refl nn)
          (λ e j vs ge. sim_then T (expect T sign.Semicolon j vs) _ (run T vs (have e [] (m.start_ at us))) (λ x. for_test at (start.Value e) us) (λ x i ws. Took T j i) (λ x. for_test at x us) (λ x k vs. k ≡ start_behind (suc (inside us)) x)
          (sim_expect T (have e [] (m.start_ at us)) (for_test at (start.Value e) us) sign.Semicolon j vs refl
          (λ t ws l w. use_step T e (m.start_ at us) vs ge.stop t ws l ∙ ap (λ y. close_use (m.start_ at us) e y) w ∙ ap (λ i. goes i (for_test at (start.Value e) us)) (sym ge.nesting))
          (λ t ws l w. use_step T e (m.start_ at us) vs ge.stop t ws l ∙ start_none at us e (sign_of_word t.word) w))
          (λ x i ws h. (refl, h.nesting ∙ ge.nesting))))

  start_sim : (b : ℕ) (at : At) (us : List Under) (n : ℕ) (ts : List Lexeme) → n ≡ suc (inside us) → (x : Sign) → sign_at ts ≡ x → Sim T (st.start_by T b x n ts) (run T ts (m.for_first at us)) (λ x. for_test at x us) (λ x k vs. k ≡ start_behind (suc (inside us)) x)
  start_sim b at us n ts nn sign.Semicolon is = sim_then T (eat T n ts) _ (run T ts (m.for_first at us)) (λ y. for_test at start.Absent us) (λ y k vs. Took T n k) (λ x. for_test at x us) (λ x k vs. k ≡ start_behind (suc (inside us)) x)
      (sim_eat T (m.for_first at us) (for_test at start.Absent us) n ts refl (λ t r2 l. ap (λ x. m.on_first t.at t.word x at us) (sign_is T ts t r2 sign.Semicolon l is) ∙ ap (λ j. goes j (for_test at start.Absent us)) (sym nn)))
      (λ y k vs g. (refl, g.nesting ∙ nn))
  start_sim b at us n ts nn x is = started_sim b at us n ts nn (ap (λ y. same y sign.Semicolon) is)

  -- another state that does the same
  restate : {A : Type 0} (a : Read A) (v : Outcome) (k l : A → State) (Q : A → ℕ → List Lexeme → Type 0) → ((x : A) (vs : List Lexeme) → run T vs (k x) ≡ run T vs (l x)) → Sim T a v k Q → Sim T a v l Q
  restate (Ok x) v k l Q h s = (s.0 ∙ h x.0 x.2, s.1)
  restate (Err (Wrong j)) v k l Q h s = s
  restate (Err (Deep j)) v k l Q h s = s
  restate (Err Out) v k l Q h s = tt

  module _ (b : ℕ) (S : st.Statements) (S_reads : Stat_reads S) where
    -- the first word of a statement
    first_step : (us : List Under) (n : ℕ) (ts : List Lexeme) (x : Sign) (s2 : At → State) → n ≡ suc (inside us) → Plain us ts → sign_at ts ≡ x → ((p : At) (w : Word) → m.on_statement p w x us ≡ goes (suc (inside us)) (s2 p)) → (t : Lexeme) (rest : List Lexeme) → ts ≡ t ∷ rest → step (want us) t ≡ Some (n, s2 (place_at ts))
    first_step us n ts x s2 nn pl is does t rest l = pl t rest l ∙ ap (λ y. m.on_statement t.at t.word y us) (sign_is T ts t rest x l is) ∙ does t.at t.word ∙ ap (λ z. goes (suc (inside us)) (s2 z)) (place_is T ts t rest l) ∙ ap (λ j. goes j (s2 (place_at ts))) (sym nn)

    abbrev Stat : (us : List Under) (n : ℕ) (ts : List Lexeme) → Parser Statement → Type 0
    Stat us n ts p = Sim T (p n ts) (run T ts (want us)) (λ x. got x us) Nothing

    same_got : (x y : Statement) (us vs : List Under) (ts : List Lexeme) → ((t : Lexeme) → step (got x us) t ≡ step (got y vs) t) → run T ts (got x us) ≡ run T ts (got y vs)
    same_got x y us vs ts h = same_run T (got x us) (got y vs) ts refl (λ t rest l. h t)

    while_sim : (us : List Under) (n : ℕ) (ts : List Lexeme) → n ≡ suc (inside us) → Plain us ts → sign_at ts ≡ sign.While → Stat us n ts (st.while_statement T b S (place_at ts))
    unfolding st.while_statement
    while_sim us n ts nn pl is = let at = place_at ts in sim_then T (eat T n ts) _ (run T ts (want us)) (λ x. m.expect sign.LeftParen (suc (inside us)) (operand [] (m.while_ at us))) (λ x k vs. Took T n k) (λ x. got x us) Nothing
        (sim_eat T (want us) (m.expect sign.LeftParen (suc (inside us)) (operand [] (m.while_ at us))) n ts refl (first_step us n ts sign.While (λ z. m.expect sign.LeftParen (suc (inside us)) (operand [] (m.while_ z us))) nn pl is (λ p w. refl)))
        (λ x k vs g. sim_then T (st.condition T (r.read T b) k vs) _ (run T vs (m.expect sign.LeftParen (suc (inside us)) (operand [] (m.while_ at us)))) (λ e. want (m.in_while at e ∷ us)) (λ e j ws. j ≡ behind (suc (inside us)) (about e)) (λ x. got x us) Nothing
        (paren_sim b (m.while_ at us) (λ e. want (m.in_while at e ∷ us)) k vs (g.nesting ∙ nn) refl (λ e. refl) (while_none at us))
        (λ e j ws ge. sim_then T (S.one j ws) _ (run T ws (want (m.in_while at e ∷ us))) (λ a. got a (m.in_while at e ∷ us)) (λ a i os. Took T j i) (λ x. got x us) Nothing
        (S_reads.one (m.in_while at e ∷ us) j ws ge (λ t rest l. refl))
        (λ a i os h. (same_got a (tree_.While at e a) (m.in_while at e ∷ us) us os (λ t. refl), tt))))

    else_sim : (at : At) (e : Expr) (a : Statement) (us : List Under) (n : ℕ) (ts : List Lexeme) → n ≡ inside (m.in_if at e ∷ us) → (x : Sign) → sign_at ts ≡ x → Sim T (st.else_by T S x n ts) (run T ts (got a (m.in_if at e ∷ us))) (λ y. got (tree_.If at e a y) us) Nothing
    else_sim at e a us n ts nn sign.Else is = sim_then T (eat T n ts) _ (run T ts (got a (m.in_if at e ∷ us))) (λ x. want (m.in_else at e a ∷ us)) (λ x k vs. Took T n k) (λ y. got (tree_.If at e a y) us) Nothing
        (sim_eat T (got a (m.in_if at e ∷ us)) (want (m.in_else at e a ∷ us)) n ts refl (λ t rest l. ap (λ y. m.on y sign.Else (goes (inside (m.in_if at e ∷ us)) (want (m.in_else at e a ∷ us))) (m.settle t.at t.word (sign_of_word t.word) (tree_.If at e a None) us)) (sign_is T ts t rest sign.Else l is) ∙ ap (λ k. goes k (want (m.in_else at e a ∷ us))) (sym nn)))
        (λ x k vs g. sim_then T (S.one k vs) _ (run T vs (want (m.in_else at e a ∷ us))) (λ y. got y (m.in_else at e a ∷ us)) (λ y i os. Took T k i) (λ y. got (tree_.If at e a y) us) Nothing
        (S_reads.one (m.in_else at e a ∷ us) k vs (g.nesting ∙ nn) (λ t rest l. refl))
        (λ y i os h. (same_got y (tree_.If at e a (Some y)) (m.in_else at e a ∷ us) us os (λ t. refl), tt)))
    else_sim at e a us n ts nn x is = (same_run T (got a (m.in_if at e ∷ us)) (got (tree_.If at e a None) us) ts refl (λ t rest l. ap (λ c. cond c (goes (inside (m.in_if at e ∷ us)) (want (m.in_else at e a ∷ us))) (m.settle t.at t.word (sign_of_word t.word) (tree_.If at e a None) us)) (ap (λ y. same y sign.Else) (sign_is T ts t rest x l is))), tt)

    if_sim : (us : List Under) (n : ℕ) (ts : List Lexeme) → n ≡ suc (inside us) → Plain us ts → sign_at ts ≡ sign.If → Stat us n ts (st.if_statement T b S (place_at ts))
    unfolding st.if_statement st.else_branch
    if_sim us n ts nn pl is = let at = place_at ts in sim_then T (eat T n ts) _ (run T ts (want us)) (λ x. m.expect sign.LeftParen (suc (inside us)) (operand [] (m.if_ at us))) (λ x k vs. Took T n k) (λ x. got x us) Nothing
        (sim_eat T (want us) (m.expect sign.LeftParen (suc (inside us)) (operand [] (m.if_ at us))) n ts refl (first_step us n ts sign.If (λ z. m.expect sign.LeftParen (suc (inside us)) (operand [] (m.if_ z us))) nn pl is (λ p w. refl)))
        (λ x k vs g. sim_then T (st.condition T (r.read T b) k vs) _ (run T vs (m.expect sign.LeftParen (suc (inside us)) (operand [] (m.if_ at us)))) (λ e. want (m.in_if at e ∷ us)) (λ e j ws. j ≡ behind (suc (inside us)) (about e)) (λ x. got x us) Nothing
        (paren_sim b (m.if_ at us) (λ e. want (m.in_if at e ∷ us)) k vs (g.nesting ∙ nn) refl (λ e. refl) (if_none at us))
        (λ e j ws ge. sim_then T (S.one j ws) _ (run T ws (want (m.in_if at e ∷ us))) (λ a. got a (m.in_if at e ∷ us)) (λ a i os. Took T j i) (λ x. got x us) Nothing
        (S_reads.one (m.in_if at e ∷ us) j ws ge (λ t rest l. refl))
        (λ a i os h. sim_then T (st.else_by T S (sign_at os) i os) _ (run T os (got a (m.in_if at e ∷ us))) (λ y. got (tree_.If at e a y) us) Nothing (λ x. got x us) Nothing
        (else_sim at e a us i os (h.nesting ∙ ge) (sign_at os) refl)
        (λ y l zs f. (refl, tt)))))

    do_end_sim : (at : At) (a : Statement) (us : List Under) (n : ℕ) (ts : List Lexeme) → n ≡ suc (inside us) → Sim T (st.do_end T (r.read T b) n ts) (run T ts (got a (m.in_do at ∷ us))) (λ e. got (tree_.DoWhile at a e) us) Nothing
    unfolding st.do_end
    do_end_sim at a us n ts nn = sim_then T (expect T sign.While n ts) _ (run T ts (got a (m.in_do at ∷ us))) (λ x. m.expect sign.LeftParen (suc (inside us)) (operand [] (m.do_ at a us))) (λ x k vs. Took T n k) (λ e. got (tree_.DoWhile at a e) us) Nothing
        (sim_expect T (got a (m.in_do at ∷ us)) (m.expect sign.LeftParen (suc (inside us)) (operand [] (m.do_ at a us))) sign.While n ts refl
        (λ t rest l w. ap (λ y. m.on y sign.While (goes (suc (inside us)) (m.expect sign.LeftParen (suc (inside us)) (operand [] (m.do_ at a us)))) None) w ∙ ap (λ k. goes k (m.expect sign.LeftParen (suc (inside us)) (operand [] (m.do_ at a us)))) (sym nn))
        (λ t rest l w. ap (λ c. cond c (goes (suc (inside us)) (m.expect sign.LeftParen (suc (inside us)) (operand [] (m.do_ at a us)))) None) w))
        (λ x k vs g. sim_then T (st.condition T (r.read T b) k vs) _ (run T vs (m.expect sign.LeftParen (suc (inside us)) (operand [] (m.do_ at a us)))) (λ e. m.expect sign.Semicolon (behind (suc (inside us)) (about e)) (got (tree_.DoWhile at a e) us)) (λ e j ws. j ≡ behind (suc (inside us)) (about e)) (λ e. got (tree_.DoWhile at a e) us) Nothing
        (paren_sim b (m.do_ at a us) (λ e. m.expect sign.Semicolon (behind (suc (inside us)) (about e)) (got (tree_.DoWhile at a e) us)) k vs (g.nesting ∙ nn) refl (λ e. refl) (do_none at a us))
        (λ e j ws ge. sim_then T (expect T sign.Semicolon j ws) _ (run T ws (m.expect sign.Semicolon (behind (suc (inside us)) (about e)) (got (tree_.DoWhile at a e) us))) (λ y. got (tree_.DoWhile at a e) us) (λ y i os. Took T j i) (λ e. got (tree_.DoWhile at a e) us) Nothing
        (expected_sim T sign.Semicolon (behind (suc (inside us)) (about e)) (got (tree_.DoWhile at a e) us) j ws ge refl refl)
        (λ y i os h. (refl, tt))))

    do_sim : (us : List Under) (n : ℕ) (ts : List Lexeme) → n ≡ suc (inside us) → Plain us ts → sign_at ts ≡ sign.Do → Stat us n ts (st.do_statement T b S (place_at ts))
    unfolding st.do_statement
    do_sim us n ts nn pl is = let at = place_at ts in sim_then T (eat T n ts) _ (run T ts (want us)) (λ x. want (m.in_do at ∷ us)) (λ x k vs. Took T n k) (λ x. got x us) Nothing
        (sim_eat T (want us) (want (m.in_do at ∷ us)) n ts refl (first_step us n ts sign.Do (λ z. want (m.in_do z ∷ us)) nn pl is (λ p w. refl)))
        (λ x k vs g. sim_then T (S.one k vs) _ (run T vs (want (m.in_do at ∷ us))) (λ a. got a (m.in_do at ∷ us)) (λ a i os. Took T k i) (λ x. got x us) Nothing
        (S_reads.one (m.in_do at ∷ us) k vs (g.nesting ∙ nn) (λ t rest l. refl))
        (λ a i os h. sim_then T (st.do_end T (r.read T b) i os) _ (run T os (got a (m.in_do at ∷ us))) (λ e. got (tree_.DoWhile at a e) us) Nothing (λ x. got x us) Nothing
        (do_end_sim at a us i os (h.nesting ∙ g.nesting ∙ nn))
        (λ e l zs f. (refl, tt))))

    header_sim : (at : At) (us : List Under) (n : ℕ) (ts : List Lexeme) → n ≡ suc (inside us) → Plain us ts → sign_at ts ≡ sign.For → at ≡ place_at ts → Sim T (st.for_header T b n ts) (run T ts (want us)) (λ x. want (m.in_for at x.0 x.1 x.2 ∷ us)) (λ x k vs. k ≡ inside (m.in_for at x.0 x.1 x.2 ∷ us))
    unfolding st.for_header st.start
    header_sim at us n ts nn pl is here = sim_then T (eat T n ts) _ (run T ts (want us)) (λ x. m.expect sign.LeftParen (suc (inside us)) (m.for_first at us)) (λ x k vs. Took T n k) (λ x. want (m.in_for at x.0 x.1 x.2 ∷ us)) (λ x k vs. k ≡ inside (m.in_for at x.0 x.1 x.2 ∷ us))
        (sim_eat T (want us) (m.expect sign.LeftParen (suc (inside us)) (m.for_first at us)) n ts refl (λ t rest l. first_step us n ts sign.For (λ z. m.expect sign.LeftParen (suc (inside us)) (m.for_first z us)) nn pl is (λ p w. refl) t rest l ∙ ap (λ z. goes n (m.expect sign.LeftParen (suc (inside us)) (m.for_first z us))) (sym here)))
        (λ x k vs g. sim_then T (expect T sign.LeftParen k vs) _ (run T vs (m.expect sign.LeftParen (suc (inside us)) (m.for_first at us))) (λ y. m.for_first at us) (λ y j ws. Took T k j) (λ x. want (m.in_for at x.0 x.1 x.2 ∷ us)) (λ x k vs. k ≡ inside (m.in_for at x.0 x.1 x.2 ∷ us))
        (expected_sim T sign.LeftParen (suc (inside us)) (m.for_first at us) k vs (g.nesting ∙ nn) refl refl)
        (λ y j ws h. sim_then T (st.start_by T b (sign_at ws) j ws) _ (run T ws (m.for_first at us)) (λ x. for_test at x us) (λ x k vs. k ≡ start_behind (suc (inside us)) x) (λ x. want (m.in_for at x.0 x.1 x.2 ∷ us)) (λ x k vs. k ≡ inside (m.in_for at x.0 x.1 x.2 ∷ us))
        (start_sim b at us j ws (h.nesting ∙ g.nesting ∙ nn) (sign_at ws) refl)
        (λ a i os ga. sim_then T (st.optional T (r.read T b) sign.Semicolon i os) _ (run T os (for_test at a us)) (λ t. for_next at a t us) (Maybe (m.test_ at a us) (place_at os)) (λ x. want (m.in_for at x.0 x.1 x.2 ∷ us)) (λ x k vs. k ≡ inside (m.in_for at x.0 x.1 x.2 ∷ us))
        (optional_sim b (m.test_ at a us) sign.Semicolon (for_test at a us) (λ t. for_next at a t us) i os ga refl refl
        (λ t rest l w. either_yes sign.Semicolon (start_behind (suc (inside us)) a) (for_next at a None us) (operand [] (m.test_ at a us)) os refl refl t rest l w ∙ ap (λ c. goes c (for_next at a None us)) (sym ga))
        (λ w. either_no sign.Semicolon (start_behind (suc (inside us)) a) (for_next at a None us) (operand [] (m.test_ at a us)) os refl w)
        (λ e. refl) (test_none at a us))
        (λ t l zs gt. sim_then T (st.optional T (r.read T b) sign.RightParen l zs) _ (run T zs (for_next at a t us)) (λ y. want (m.in_for at a t y ∷ us)) (Maybe (m.next_ at a t us) (place_at zs)) (λ x. want (m.in_for at x.0 x.1 x.2 ∷ us)) (λ x k vs. k ≡ inside (m.in_for at x.0 x.1 x.2 ∷ us))
        (optional_sim b (m.next_ at a t us) sign.RightParen (for_next at a t us) (λ y. want (m.in_for at a t y ∷ us)) l zs gt.nesting refl refl
        (λ v rest l2 w. either_yes sign.RightParen (maybe_behind (start_behind (suc (inside us)) a) t) (want (m.in_for at a t None ∷ us)) (operand [] (m.next_ at a t us)) zs refl refl v rest l2 w ∙ ap (λ c. goes c (want (m.in_for at a t None ∷ us))) (sym gt.nesting))
        (λ w. either_no sign.RightParen (maybe_behind (start_behind (suc (inside us)) a) t) (want (m.in_for at a t None ∷ us)) (operand [] (m.next_ at a t us)) zs refl w)
        (λ e. refl) (next_none at a t us))
        (λ y f qs gy. (refl, gy.nesting))))))

    for_sim : (us : List Under) (n : ℕ) (ts : List Lexeme) → n ≡ suc (inside us) → Plain us ts → sign_at ts ≡ sign.For → Stat us n ts (st.for_statement T b S (place_at ts))
    unfolding st.for_statement
    for_sim us n ts nn pl is = let at = place_at ts in sim_then T (st.for_header T b n ts) _ (run T ts (want us)) (λ x. want (m.in_for at x.0 x.1 x.2 ∷ us)) (λ x k vs. k ≡ inside (m.in_for at x.0 x.1 x.2 ∷ us)) (λ x. got x us) Nothing
        (header_sim at us n ts nn pl is refl)
        (λ x k vs g. sim_then T (S.one k vs) _ (run T vs (want (m.in_for at x.0 x.1 x.2 ∷ us))) (λ a. got a (m.in_for at x.0 x.1 x.2 ∷ us)) (λ a i os. Took T k i) (λ x. got x us) Nothing
        (S_reads.one (m.in_for at x.0 x.1 x.2 ∷ us) k vs g (λ t rest l. refl))
        (λ a i os h. (same_got a (tree_.For at x.0 x.1 x.2 a) (m.in_for at x.0 x.1 x.2 ∷ us) us os (λ t. refl), tt)))

    -- a block from its brace on
    block_sim : (c : Open_block) (s0 : State) (n : ℕ) (ts : List Lexeme) → suc n ≡ nest c → at_end s0 ≡ Err (Wrong 0)
        → ((t : Lexeme) (rest : List Lexeme) → ts ≡ t ∷ rest → sign_of_word t.word ≡ sign.LeftBrace → step s0 t ≡ Some (suc n, want (unders c [])))
        → ((t : Lexeme) (rest : List Lexeme) → ts ≡ t ∷ rest → same (sign_of_word t.word) sign.LeftBrace ≡ false → step s0 t ≡ None)
        → Sim T (st.block T S n ts) (run T ts s0) (closed c) (λ x k vs. Took T n k)
    unfolding st.block
    block_sim c s0 n ts nn ends yes_ no_ = sim_then T (and_then (expect T sign.LeftBrace (suc n) ts) (λ x. S.rest [])) _ (run T ts s0) (closed c) Nothing (closed c) (λ x k vs. Took T n k)
        (sim_then T (expect T sign.LeftBrace (suc n) ts) (λ x. S.rest []) (run T ts s0) (λ x. want (unders c [])) (λ x k vs. Took T (suc n) k) (closed c) Nothing
        (sim_expect T s0 (want (unders c [])) sign.LeftBrace (suc n) ts ends yes_ no_)
        (λ x k vs g. S_reads.rest c [] k vs (g.nesting ∙ nn)))
        (λ x k vs g. (refl, record { nesting = refl }))

    block_statement_sim : (us : List Under) (n : ℕ) (ts : List Lexeme) → n ≡ suc (inside us) → Plain us ts → sign_at ts ≡ sign.LeftBrace → Stat us n ts (st.block_statement T b S (place_at ts))
    unfolding st.block_statement
    block_statement_sim us n ts nn pl is = let at = place_at ts in sim_then T (st.block T S n ts) _ (run T ts (want us)) (λ ss. got (tree_.Block at ss) us) (λ x k vs. Took T n k) (λ x. got x us) Nothing
        (block_sim (of_block at us) (want us) n ts (ap suc nn) refl
        (λ t rest l w. pl t rest l ∙ ap (λ y. m.on_statement t.at t.word y us) w ∙ ap (λ z. goes (suc (suc (inside us))) (want (m.in_block z [] ∷ us))) (place_is T ts t rest l) ∙ ap (λ j. goes (suc j) (want (m.in_block at [] ∷ us))) (sym nn))
        (λ t rest l w. absurd (apart (sym w ∙ ap (λ y. same y sign.LeftBrace) (sign_is T ts t rest sign.LeftBrace l is)))))
        (λ ss k vs g. (refl, tt))
      where
        apart : false ≡ true → ⊥
        apart z = absurd cc

    switch_sim : (us : List Under) (n : ℕ) (ts : List Lexeme) → n ≡ suc (inside us) → Plain us ts → sign_at ts ≡ sign.Switch → Stat us n ts (st.switch_statement T b S (place_at ts))
    unfolding st.switch_statement
    switch_sim us n ts nn pl is = let at = place_at ts in sim_then T (eat T n ts) _ (run T ts (want us)) (λ x. m.expect sign.LeftParen (suc (inside us)) (operand [] (m.switch_ at us))) (λ x k vs. Took T n k) (λ x. got x us) Nothing
        (sim_eat T (want us) (m.expect sign.LeftParen (suc (inside us)) (operand [] (m.switch_ at us))) n ts refl (first_step us n ts sign.Switch (λ z. m.expect sign.LeftParen (suc (inside us)) (operand [] (m.switch_ z us))) nn pl is (λ p w. refl)))
        (λ x k vs g. sim_then T (st.condition T (r.read T b) k vs) _ (run T vs (m.expect sign.LeftParen (suc (inside us)) (operand [] (m.switch_ at us)))) (λ e. m.expect sign.LeftBrace (suc (behind (suc (inside us)) (about e))) (want (m.in_switch at e [] ∷ us))) (λ e j ws. j ≡ behind (suc (inside us)) (about e)) (λ x. got x us) Nothing
        (paren_sim b (m.switch_ at us) (λ e. m.expect sign.LeftBrace (suc (behind (suc (inside us)) (about e))) (want (m.in_switch at e [] ∷ us))) k vs (g.nesting ∙ nn) refl (λ e. refl) (switch_none at us))
        (λ e j ws ge. sim_then T (st.block T S j ws) _ (run T ws (m.expect sign.LeftBrace (suc (behind (suc (inside us)) (about e))) (want (m.in_switch at e [] ∷ us)))) (λ ss. got (tree_.Switch at e ss) us) (λ ss i os. Took T j i) (λ x. got x us) Nothing
        (block_sim (of_switch at e us) (m.expect sign.LeftBrace (suc (behind (suc (inside us)) (about e))) (want (m.in_switch at e [] ∷ us))) j ws (ap suc ge) refl
        (λ t rest l w. ap (λ c. cond c (goes (suc (behind (suc (inside us)) (about e))) (want (m.in_switch at e [] ∷ us))) None) (is_a_sign t.word sign.LeftBrace w refl refl) ∙ ap (λ i. goes (suc i) (want (m.in_switch at e [] ∷ us))) (sym ge))
        (λ t rest l w. ap (λ c. cond c (goes (suc (behind (suc (inside us)) (about e))) (want (m.in_switch at e [] ∷ us))) None) (is_no_sign t.word sign.LeftBrace w)))
        (λ ss i os h. (refl, tt))))

    label_sim : (at : At) (us : List Under) (n : ℕ) (ts : List Lexeme) → n ≡ suc (inside us) → Plain us ts → sign_at ts ≡ sign.Case → at ≡ place_at ts → Sim T (st.case_label T (r.read T b) n ts) (run T ts (want us)) (λ e. want (m.in_case at e ∷ us)) (λ e k vs. Took T n k)
    unfolding st.case_label
    label_sim at us n ts nn pl is here = sim_then T (eat T n ts) _ (run T ts (want us)) (λ x. operand [] (m.case_ at us)) (λ x k vs. Took T n k) (λ e. want (m.in_case at e ∷ us)) (λ e k vs. Took T n k)
        (sim_eat T (want us) (operand [] (m.case_ at us)) n ts refl (λ t rest l. first_step us n ts sign.Case (λ z. operand [] (m.case_ z us)) nn pl is (λ p w. refl) t rest l ∙ ap (λ z. goes n (operand [] (m.case_ z us))) (sym here)))
        (λ x k vs g. sim_then T (and_then (r.read T b r.conditional (suc k) vs) (λ x i os. Ok (x, k, os))) _ (run T vs (operand [] (m.case_ at us))) (λ e. have e [] (m.case_ at us)) (λ e j ws. (j ≡ k) × Stop 2 (op_of (sign_at ws)) e) (λ e. want (m.in_case at e ∷ us)) (λ e k vs. Took T n k)
        (sim_then T (r.read T b r.conditional (suc k) vs) _ (run T vs (operand [] (m.case_ at us))) (λ e. have e [] (m.case_ at us)) (Got T 2 (place_at vs) (inner T [] (m.case_ at us))) (λ e. have e [] (m.case_ at us)) (λ e j ws. (j ≡ k) × Stop 2 (op_of (sign_at ws)) e)
        ((read_reads T b).conditional [] (m.case_ at us) (suc k) vs (omega arith) (ap suc (g.nesting ∙ nn)))
        (λ e j ws ge. (refl, (refl, ge.stop))))
        (λ e j ws ge. sim_then T (expect T sign.Colon j ws) _ (run T ws (have e [] (m.case_ at us))) (λ y. want (m.in_case at e ∷ us)) (λ y i os. Took T j i) (λ e. want (m.in_case at e ∷ us)) (λ e k vs. Took T n k)
        (sim_expect T (have e [] (m.case_ at us)) (want (m.in_case at e ∷ us)) sign.Colon j ws refl
        (λ t rest l w. use_step T e (m.case_ at us) ws ge.1 t rest l ∙ ap (λ y. close_use (m.case_ at us) e y) w ∙ ap (λ i. goes i (want (m.in_case at e ∷ us))) (sym (ge.0 ∙ g.nesting ∙ nn)))
        (λ t rest l w. use_step T e (m.case_ at us) ws ge.1 t rest l ∙ case_none at us e (sign_of_word t.word) w))
        (λ y i os h. (refl, record { nesting = h.nesting ∙ ge.0 ∙ g.nesting }))))

    case_sim : (us : List Under) (n : ℕ) (ts : List Lexeme) → n ≡ suc (inside us) → Plain us ts → sign_at ts ≡ sign.Case → Stat us n ts (st.case_statement T b S (place_at ts))
    unfolding st.case_statement
    case_sim us n ts nn pl is = let at = place_at ts in sim_then T (st.case_label T (r.read T b) n ts) _ (run T ts (want us)) (λ e. want (m.in_case at e ∷ us)) (λ e k vs. Took T n k) (λ x. got x us) Nothing
        (label_sim at us n ts nn pl is refl)
        (λ e k vs g. sim_then T (S.one k vs) _ (run T vs (want (m.in_case at e ∷ us))) (λ a. got a (m.in_case at e ∷ us)) (λ a i os. Took T k i) (λ x. got x us) Nothing
        (S_reads.one (m.in_case at e ∷ us) k vs (g.nesting ∙ nn) (λ t rest l. refl))
        (λ a i os h. (same_got a (tree_.Case at e a) (m.in_case at e ∷ us) us os (λ t. refl), tt)))

    default_sim : (us : List Under) (n : ℕ) (ts : List Lexeme) → n ≡ suc (inside us) → Plain us ts → sign_at ts ≡ sign.Default → Stat us n ts (st.default_statement T b S (place_at ts))
    unfolding st.default_statement
    default_sim us n ts nn pl is = let at = place_at ts in sim_then T (eat T n ts) _ (run T ts (want us)) (λ x. m.expect sign.Colon (suc (inside us)) (want (m.in_default at ∷ us))) (λ x k vs. Took T n k) (λ x. got x us) Nothing
        (sim_eat T (want us) (m.expect sign.Colon (suc (inside us)) (want (m.in_default at ∷ us))) n ts refl (first_step us n ts sign.Default (λ z. m.expect sign.Colon (suc (inside us)) (want (m.in_default z ∷ us))) nn pl is (λ p w. refl)))
        (λ x k vs g. sim_then T (expect T sign.Colon k vs) _ (run T vs (m.expect sign.Colon (suc (inside us)) (want (m.in_default at ∷ us)))) (λ y. want (m.in_default at ∷ us)) (λ y j ws. Took T k j) (λ x. got x us) Nothing
        (expected_sim T sign.Colon (suc (inside us)) (want (m.in_default at ∷ us)) k vs (g.nesting ∙ nn) refl refl)
        (λ y j ws h. sim_then T (S.one j ws) _ (run T ws (want (m.in_default at ∷ us))) (λ a. got a (m.in_default at ∷ us)) (λ a i os. Took T j i) (λ x. got x us) Nothing
        (S_reads.one (m.in_default at ∷ us) j ws (h.nesting ∙ g.nesting ∙ nn) (λ t rest l. refl))
        (λ a i os f. (same_got a (tree_.Default at a) (m.in_default at ∷ us) us os (λ t. refl), tt))))

    jump_sim : (us : List Under) (n : ℕ) (ts : List Lexeme) (x : Sign) (y : At → Statement) → n ≡ suc (inside us) → Plain us ts → sign_at ts ≡ x → ((p : At) (w : Word) → m.on_statement p w x us ≡ goes (suc (inside us)) (m.expect sign.Semicolon (suc (inside us)) (got (y p) us))) → Stat us n ts (eat T >> (expect T sign.Semicolon >> pure (y (place_at ts))))
    jump_sim us n ts x y nn pl is does = let at = place_at ts in sim_then T (eat T n ts) _ (run T ts (want us)) (λ z. m.expect sign.Semicolon (suc (inside us)) (got (y at) us)) (λ z k vs. Took T n k) (λ x. got x us) Nothing
        (sim_eat T (want us) (m.expect sign.Semicolon (suc (inside us)) (got (y at) us)) n ts refl (first_step us n ts x (λ z. m.expect sign.Semicolon (suc (inside us)) (got (y z) us)) nn pl is does))
        (λ z k vs g. sim_then T (expect T sign.Semicolon k vs) _ (run T vs (m.expect sign.Semicolon (suc (inside us)) (got (y at) us))) (λ z. got (y at) us) (λ z j ws. Took T k j) (λ x. got x us) Nothing
        (expected_sim T sign.Semicolon (suc (inside us)) (got (y at) us) k vs (g.nesting ∙ nn) refl refl)
        (λ z j ws h. (refl, tt)))

    return_sim : (us : List Under) (n : ℕ) (ts : List Lexeme) → n ≡ suc (inside us) → Plain us ts → sign_at ts ≡ sign.Return → Stat us n ts (st.return_statement T b S (place_at ts))
    unfolding st.return_statement
    return_sim us n ts nn pl is = let at = place_at ts in let ahead : State = either sign.Semicolon (suc (inside us)) (got (tree_.Return at None) us) (operand [] (m.return_ at us)) in
        sim_then T (eat T n ts) _ (run T ts (want us)) (λ x. ahead) (λ x k vs. Took T n k) (λ x. got x us) Nothing
        (sim_eat T (want us) ahead n ts refl (first_step us n ts sign.Return (λ z. either sign.Semicolon (suc (inside us)) (got (tree_.Return z None) us) (operand [] (m.return_ z us))) nn pl is (λ p w. refl)))
        (λ x k vs g. sim_then T (st.optional T (r.read T b) sign.Semicolon k vs) _ (run T vs ahead) (λ e. got (tree_.Return at e) us) (Maybe (m.return_ at us) (place_at vs)) (λ x. got x us) Nothing
        (optional_sim b (m.return_ at us) sign.Semicolon ahead (λ e. got (tree_.Return at e) us) k vs (g.nesting ∙ nn) refl refl
        (λ t rest l w. either_yes sign.Semicolon (suc (inside us)) (got (tree_.Return at None) us) (operand [] (m.return_ at us)) vs refl refl t rest l w ∙ ap (λ c. goes c (got (tree_.Return at None) us)) (sym (g.nesting ∙ nn)))
        (λ w. either_no sign.Semicolon (suc (inside us)) (got (tree_.Return at None) us) (operand [] (m.return_ at us)) vs refl w)
        (λ e. refl) (return_none at us))
        (λ e j ws h. (refl, tt)))

    abbrev evaluated : At → List Under → Option Expr → State
    evaluated at us None = got (tree_.Evaluate at None) us
    evaluated at us (Some e) = got (tree_.Evaluate (place_of e) (Some e)) us

    expression_sim : (us : List Under) (n : ℕ) (ts : List Lexeme) → n ≡ suc (inside us) → Plain us ts → (same (sign_at ts) sign.Semicolon ≡ false → (t : Lexeme) → sign_of_word t.word ≡ sign_at ts → m.on_statement t.at t.word (sign_of_word t.word) us ≡ m.on_operand t.at t.word [] (m.evaluate us)) → Stat us n ts (st.expression_statement T b S (place_at ts))
    unfolding st.expression_statement
    expression_sim us n ts nn pl op = let at = place_at ts in sim_then T (st.optional T (r.read T b) sign.Semicolon n ts) _ (run T ts (want us)) (evaluated at us) (Maybe (m.evaluate us) (place_at ts)) (λ x. got x us) Nothing
        (optional_sim b (m.evaluate us) sign.Semicolon (want us) (evaluated at us) n ts nn refl refl
        (λ t rest l w. pl t rest l ∙ ap (λ y. m.on_statement t.at t.word y us) w ∙ ap (λ z. goes (suc (inside us)) (got (tree_.Evaluate z None) us)) (place_is T ts t rest l) ∙ ap (λ c. goes c (got (tree_.Evaluate at None) us)) (sym nn))
        (λ w. same_run T (want us) (operand [] (m.evaluate us)) ts refl (λ t rest l. pl t rest l ∙ op w t (sign_is T ts t rest (sign_at ts) l refl)))
        (λ e. refl) (evaluate_none us))
        (λ e j ws h. (placed_at e ws h.place, tt))
      where
        placed_at : (e : Option Expr) (ws : List Lexeme) → ((x : Expr) → e ≡ Some x → place_of x ≡ place_at ts) → run T ws (evaluated (place_at ts) us e) ≡ run T ws (got (tree_.Evaluate (place_at ts) e) us)
        placed_at None ws h = refl
        placed_at (Some x) ws h = ap (λ z. run T ws (got (tree_.Evaluate z (Some x)) us)) (h x refl)

    by_statement : (us : List Under) (n : ℕ) (ts : List Lexeme) → n ≡ suc (inside us) → Plain us ts → (x : Sign) → sign_at ts ≡ x → Stat us n ts (st.statement_by T b S (place_at ts) x)
    unfolding st.break_statement st.continue_statement
    by_statement us n ts nn pl sign.LeftBrace is = block_statement_sim us n ts nn pl is
    by_statement us n ts nn pl sign.If is = if_sim us n ts nn pl is
    by_statement us n ts nn pl sign.While is = while_sim us n ts nn pl is
    by_statement us n ts nn pl sign.Do is = do_sim us n ts nn pl is
    by_statement us n ts nn pl sign.For is = for_sim us n ts nn pl is
    by_statement us n ts nn pl sign.Switch is = switch_sim us n ts nn pl is
    by_statement us n ts nn pl sign.Case is = case_sim us n ts nn pl is
    by_statement us n ts nn pl sign.Default is = default_sim us n ts nn pl is
    by_statement us n ts nn pl sign.Break is = jump_sim us n ts sign.Break (λ p. tree_.Break p) nn pl is (λ p w. refl)
    by_statement us n ts nn pl sign.Continue is = jump_sim us n ts sign.Continue (λ p. tree_.Continue p) nn pl is (λ p w. refl)
    by_statement us n ts nn pl sign.Return is = return_sim us n ts nn pl is
    by_statement us n ts nn pl sign.Semicolon is = expression_sim us n ts nn pl (λ w t e. absurd (apart (sym w ∙ ap (λ y. same y sign.Semicolon) is)))
      where
        apart : false ≡ true → ⊥
        apart z = absurd cc
    by_statement us n ts nn pl x is = expression_sim us n ts nn pl (λ w t e. ap (λ y. m.on_statement t.at t.word y us) (e ∙ is))

    one_sim : (us : List Under) (n : ℕ) (ts : List Lexeme) → n ≡ inside us → Plain us ts → Sim T ((st.statements_step T b S).one n ts) (run T ts (want us)) (λ x. got x us) (λ x k vs. Took T n k)
    unfolding st.statement_at
    one_sim us n ts nn pl = sim_then T (st.statement_by T b S (place_at ts) (sign_at ts) (suc n) ts) _ (run T ts (want us)) (λ x. got x us) Nothing (λ x. got x us) (λ x k vs. Took T n k)
        (by_statement us (suc n) ts (ap suc nn) pl (sign_at ts) refl)
        (λ x k vs g. (refl, record { nesting = refl }))

    -- ---- blocks

    plain_item : (p : At) (w : Word) (us : List Under) (x : Sign) → q.begins_declaration x ≡ false → same x sign.RightBrace ≡ false → m.on_item p w x us ≡ m.on_statement p w x us
    unfolding q.begins_declaration
    plain_item p w us sign.RightBrace h v = absurd cc
    plain_item p w us sign.Void h v = absurd cc
    plain_item p w us sign.Char h v = absurd cc
    plain_item p w us sign.Int h v = absurd cc
    plain_item p w us sign.Signed h v = absurd cc
    plain_item p w us sign.Unsigned h v = absurd cc
    plain_item p w us x h v = refl

    item_step : (c : Open_block) (ss : List Statement) (t : Lexeme) → step (want (unders c ss)) t ≡ m.on_item t.at t.word (sign_of_word t.word) (unders c ss)
    item_step (of_block at us) ss t = refl
    item_step (of_switch at e us) ss t = refl
    item_step (of_body ps at g f qs brace) ss t = refl

    nest_is : (c : Open_block) (ss : List Statement) → inside (unders c ss) ≡ nest c
    nest_is (of_block at us) ss = refl
    nest_is (of_switch at e us) ss = refl
    nest_is (of_body ps at g f qs brace) ss = refl

    adds_one : (c : Open_block) (ss : List Statement) (x : Statement) → add x (unders c ss) ≡ unders c (ss ++ x ∷ [])
    adds_one (of_block at us) ss x = refl
    adds_one (of_switch at e us) ss x = refl
    adds_one (of_body ps at g f qs brace) ss x = refl

    settles : (c : Open_block) (ss : List Statement) (x : Statement) (t : Lexeme) → step (got x (unders c ss)) t ≡ step (want (unders c (ss ++ x ∷ []))) t
    settles (of_block at us) ss x t = refl
    settles (of_switch at e us) ss x t = refl
    settles (of_body ps at g f qs brace) ss x t = refl

    closes_block : (c : Open_block) (ss : List Statement) (p : At) (w : Word) → m.on_item p w sign.RightBrace (unders c ss) ≡ goes (nest c) (closed c ss)
    closes_block (of_block at us) ss p w = refl
    closes_block (of_switch at e us) ss p w = refl
    closes_block (of_body ps at g f qs brace) ss p w = refl

    block_item_sim : (c : Open_block) (ss : List Statement) (n : ℕ) (ts : List Lexeme) → n ≡ nest c → same (sign_at ts) sign.RightBrace ≡ false → Sim T (st.block_item T b S n ts) (run T ts (want (unders c ss))) (λ x. want (unders c (ss ++ x ∷ []))) (λ x k vs. Took T n k)
    unfolding st.block_item
    block_item_sim c ss n ts nn brace = by_decl (q.begins_declaration (sign_at ts)) refl
      where
        by_decl : (d0 : Bool) → q.begins_declaration (sign_at ts) ≡ d0 → Sim T ((cond d0 (d.declaration T b >>= (λ x. pure (tree_.Declared x))) S.one) n ts) (run T ts (want (unders c ss))) (λ x. want (unders c (ss ++ x ∷ []))) (λ x k vs. Took T n k)
        by_decl true is = sim_then T (d.declaration T b n ts) _ (run T ts (want (unders c ss))) (λ x. conclude (m.at_block (unders c ss)) x) (λ x k vs. Took T n k) (λ x. want (unders c (ss ++ x ∷ []))) (λ x k vs. Took T n k)
            (declaration_sim T b (want (unders c ss)) (m.at_block (unders c ss)) n ts (nn ∙ sym (nest_is c ss)) (λ p k qs. refl) (item_starts c ss n ts nn is))
            (λ x k vs g. (ap (λ us. run T vs (want us)) (adds_one c ss (tree_.Declared x)), g))
        by_decl false is = sim_weaker_state (sim_as T (S.one n ts) (run T ts (want (unders c ss))) (run T ts (want (unders c ss))) (λ x. got x (unders c ss)) (λ x k vs. Took T n k) refl
            (S_reads.one (unders c ss) n ts (nn ∙ sym (nest_is c ss)) (λ t rest l. item_step c ss t ∙ plain_item t.at t.word (unders c ss) (sign_of_word t.word) (ap q.begins_declaration (sign_is T ts t rest (sign_at ts) l refl) ∙ is) (ap (λ y. same y sign.RightBrace) (sign_is T ts t rest (sign_at ts) l refl) ∙ brace))))
          where
            sim_weaker_state : Sim T (S.one n ts) (run T ts (want (unders c ss))) (λ x. got x (unders c ss)) (λ x k vs. Took T n k) → Sim T (S.one n ts) (run T ts (want (unders c ss))) (λ x. want (unders c (ss ++ x ∷ []))) (λ x k vs. Took T n k)
            sim_weaker_state h = restate (S.one n ts) (run T ts (want (unders c ss))) (λ x. got x (unders c ss)) (λ x. want (unders c (ss ++ x ∷ []))) (λ x k vs. Took T n k) (λ x vs. same_run T (got x (unders c ss)) (want (unders c (ss ++ x ∷ []))) vs refl (λ t rest l. settles c ss x t)) h

    rest_sim : (c : Open_block) (ss : List Statement) (n : ℕ) (ts : List Lexeme) → n ≡ nest c → Sim T ((st.statements_step T b S).rest ss n ts) (run T ts (want (unders c ss))) (closed c) Nothing
    rest_sim c ss n ts nn = by_sign (same (sign_at ts) sign.RightBrace) refl
      where
        by_sign : (e : Bool) → same (sign_at ts) sign.RightBrace ≡ e → Sim T ((cond e (eat T >> pure ss) (st.block_item T b S >>= (λ x. S.rest (ss ++ x ∷ [])))) n ts) (run T ts (want (unders c ss))) (closed c) Nothing
        by_sign true is = sim_then T (eat T n ts) _ (run T ts (want (unders c ss))) (λ x. closed c ss) (λ x k vs. Took T n k) (closed c) Nothing
            (sim_eat T (want (unders c ss)) (closed c ss) n ts refl (λ t rest l. item_step c ss t ∙ ap (λ x. m.on_item t.at t.word x (unders c ss)) (sign_is T ts t rest sign.RightBrace l (same_true the_type (search rules) (sign_at ts) sign.RightBrace is)) ∙ closes_block c ss t.at t.word ∙ ap (λ k. goes k (closed c ss)) (sym nn)))
            (λ x k vs g. (refl, tt))
        by_sign false is = sim_then T (st.block_item T b S n ts) _ (run T ts (want (unders c ss))) (λ x. want (unders c (ss ++ x ∷ []))) (λ x k vs. Took T n k) (closed c) Nothing
            (block_item_sim c ss n ts nn is)
            (λ x k vs g. S_reads.rest c (ss ++ x ∷ []) k vs (g.nesting ∙ nn))

    pub step_stats : Stat_reads (st.statements_step T b S)
    step_stats = record { one = one_sim; rest = rest_sim }

  pub stats_read : (b : ℕ) → Stat_reads (st.statements T b)
  stats_read zero = record { one = λ us n ts nn pl. tt; rest = λ c ss n ts nn. tt }
  stats_read (suc b) = step_stats b (st.statements T b) (stats_read b)

  -- ---- programs

  top_type : (p : At) (ps : List External) (x : Sign) (ty : TypeWords) → type_of x ≡ Some ty → m.on_program p x ps ≡ Some (0, declaring p (gives.Value ty) (m.at_top ps))
  top_type p ps sign.Char ty is = ap (λ o. m.on_declaration p sign.Char o (m.at_top ps) None) is
  top_type p ps sign.Int ty is = ap (λ o. m.on_declaration p sign.Int o (m.at_top ps) None) is
  top_type p ps sign.Signed ty is = ap (λ o. m.on_declaration p sign.Signed o (m.at_top ps) None) is
  top_type p ps sign.Unsigned ty is = ap (λ o. m.on_declaration p sign.Unsigned o (m.at_top ps) None) is
  top_type p ps _ ty is = absurd cc

  top_other : (p : At) (ps : List External) (x : Sign) → type_of x ≡ None → same x sign.Void ≡ false → same x sign.Include ≡ false → same x sign.End ≡ false → m.on_program p x ps ≡ None
  top_other p ps sign.Include t v i e = absurd cc
  top_other p ps sign.End t v i e = absurd cc
  top_other p ps sign.Void t v i e = absurd cc
  top_other p ps sign.Char t v i e = absurd cc
  top_other p ps sign.Int t v i e = absurd cc
  top_other p ps sign.Signed t v i e = absurd cc
  top_other p ps sign.Unsigned t v i e = absurd cc
  top_other p ps x t v i e = refl

  abbrev head : At → Return → Identifier → List External → Heading
  head at g f ps = record { at = at; gives = g; name = f; home = m.at_top ps }

  part_sim : (b : ℕ) (ps : List External) (o : Opening) (n : ℕ) (ts : List Lexeme) → n ≡ 0 → Sim T (st.part T b o n ts) (run T ts (opened_by T (m.at_top ps) o)) (λ x. m.program (ps ++ x ∷ [])) (λ x k vs. Took T n k)
  unfolding st.part
  part_sim b ps (opening_.Objects x) n ts nn = (refl, record { nesting = refl })
  part_sim b ps (opening_.Function at g f qs) n ts nn = by_sign (same (sign_at ts) sign.LeftBrace) refl
    where
      no_brace : (x : Sign) → same x sign.LeftBrace ≡ false → sign_at ts ≡ x → same (sign_at ts) sign.LeftBrace ≡ true → ⊥
      no_brace x w e h = apart (sym w ∙ ap (λ y. same y sign.LeftBrace) (sym e) ∙ h)
        where
          apart : false ≡ true → ⊥
          apart z = absurd cc

      by_sign : (c : Bool) → same (sign_at ts) sign.LeftBrace ≡ c → Sim T ((cond c (st.block T (st.statements T b) >>= (λ ss. pure (external.Defined at g f qs (place_at ts) ss))) (expect T sign.Semicolon >>= (λ x. pure (external.Declared (declaration.Function at g f qs))))) n ts) (run T ts (header (head at g f ps) qs)) (λ x. m.program (ps ++ x ∷ [])) (λ x k vs. Took T n k)
      by_sign true is = sim_then T (st.block T (st.statements T b) n ts) _ (run T ts (header (head at g f ps) qs)) (closed (of_body ps at g f qs (place_at ts))) (λ x k vs. Took T n k) (λ x. m.program (ps ++ x ∷ [])) (λ x k vs. Took T n k)
          (block_sim b (st.statements T b) (stats_read b) (of_body ps at g f qs (place_at ts)) (header (head at g f ps) qs) n ts (ap suc nn) refl
          (λ t rest l w. ap (λ y. m.on_header t.at (head at g f ps) qs y) w ∙ ap (λ p. goes 1 (want (m.in_body ps at g f qs p [] ∷ []))) (place_is T ts t rest l) ∙ ap (λ k. goes (suc k) (want (m.in_body ps at g f qs (place_at ts) [] ∷ []))) (sym nn))
          (λ t rest l w. absurd (no_brace (sign_of_word t.word) w (sym (sign_is T ts t rest (sign_at ts) l refl)) is)))
          (λ ss k vs h. (refl, h))
      by_sign false is = sim_then T (expect T sign.Semicolon n ts) _ (run T ts (header (head at g f ps) qs)) (λ x. m.program (ps ++ external.Declared (declaration.Function at g f qs) ∷ [])) (λ x k vs. Took T n k) (λ x. m.program (ps ++ x ∷ [])) (λ x k vs. Took T n k)
          (header_end T (head at g f ps) qs n ts nn (inr is))
          (λ x k vs h. (refl, h))

  external_sim : (b : ℕ) (ps : List External) (n : ℕ) (ts : List Lexeme) → n ≡ 0 → same (sign_at ts) sign.End ≡ false → (x : Sign) → sign_at ts ≡ x → Sim T (st.external_by T b (place_at ts) x n ts) (run T ts (m.program ps)) (λ x. m.program (ps ++ x ∷ [])) (λ x k vs. Took T n k)
  external_sim b ps n ts nn end_ sign.Include is = sim_then T (eat T n ts) _ (run T ts (m.program ps)) (λ x. m.program (ps ++ external.Include (place_at ts) ∷ [])) (λ x k vs. Took T n k) (λ x. m.program (ps ++ x ∷ [])) (λ x k vs. Took T n k)
      (sim_eat T (m.program ps) (m.program (ps ++ external.Include (place_at ts) ∷ [])) n ts refl (λ t rest l. ap (λ y. m.on_program t.at y ps) (sign_is T ts t rest sign.Include l is) ∙ ap (λ z. goes 0 (m.program (ps ++ external.Include z ∷ []))) (place_is T ts t rest l) ∙ ap (λ k. goes k (m.program (ps ++ external.Include (place_at ts) ∷ []))) (sym nn)))
      (λ x k vs g. (refl, g))
  external_sim b ps n ts nn end_ x is = sim_then T (d.opening T b n ts) _ (run T ts (m.program ps)) (opened_by T (m.at_top ps)) (λ x k vs. Took T n k) (λ x. m.program (ps ++ x ∷ [])) (λ x k vs. Took T n k)
      (openings_sim T b (m.program ps) (m.at_top ps) n ts nn (record {
        by_type = λ t rest l ty e. top_type t.at ps (sign_of_word t.word) ty e ∙ ap (λ z. goes 0 (declaring z (gives.Value ty) (m.at_top ps))) (place_is T ts t rest l) ∙ ap (λ k. goes k (declaring (place_at ts) (gives.Value ty) (m.at_top ps))) (sym nn);
        by_void = λ t rest l w. ap (λ y. m.on_program t.at y ps) w ∙ ap (λ z. goes 0 (declaring z gives.Void (m.at_top ps))) (place_is T ts t rest l) ∙ ap (λ k. goes k (declaring (place_at ts) gives.Void (m.at_top ps))) (sym nn);
        by_other = λ t rest l e v. top_other t.at ps (sign_of_word t.word) e v (ap (λ y. same y sign.Include) (sign_is T ts t rest x l is)) (ap (λ y. same y sign.End) (sign_is T ts t rest (sign_at ts) l refl) ∙ end_);
        ends = refl;
      }))
      (λ o k vs g. sim_weaker T _ _ (λ x. m.program (ps ++ x ∷ [])) _ (λ x j ws. Took T n j) (λ x j ws h. record { nesting = h.nesting ∙ g.nesting }) (part_sim b ps o k vs (g.nesting ∙ nn)))

  pub parts_sim : (b : ℕ) (ps : List External) (n : ℕ) (ts : List Lexeme) → n ≡ 0 → Sim T (st.parts T b ps n ts) (run T ts (m.program ps)) (λ p. m.program p.parts) (λ p k us. End_next p us)
  unfolding st.parts st.external
  parts_sim zero ps n ts nn = tt
  parts_sim (suc b) ps n ts nn = by_sign (λ x k vs e. parts_sim b (ps ++ x ∷ []) k vs e) (same (sign_at ts) sign.End) refl
    where
      by_sign : ((x : External) (k : ℕ) (vs : List Lexeme) → k ≡ 0 → Sim T (st.parts T b (ps ++ x ∷ []) k vs) (run T vs (m.program (ps ++ x ∷ []))) (λ p. m.program p.parts) (λ p k us. End_next p us))
          → (c : Bool) → same (sign_at ts) sign.End ≡ c → Sim T ((cond c (pure (record { parts = ps; end = place_at ts })) (st.external T b >>= (λ x. st.parts T b (ps ++ x ∷ [])))) n ts) (run T ts (m.program ps)) (λ p. m.program p.parts) (λ p k us. End_next p us)
      by_sign more_ true is = (refl, record { sign = is; place = refl })
      by_sign more_ false is = sim_then T (st.external_by T b (place_at ts) (sign_at ts) n ts) _ (run T ts (m.program ps)) (λ x. m.program (ps ++ x ∷ [])) (λ x k vs. Took T n k) (λ p. m.program p.parts) (λ p k us. End_next p us)
          (external_sim b ps n ts nn is (sign_at ts) refl)
          (λ x k vs g. more_ x k vs (g.nesting ∙ nn))
