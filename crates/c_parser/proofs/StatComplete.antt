-- The machine over the words of a statement comes to have that statement, and over those of a program to its end.
use Rattle.std.proofs.Common.{◌≡◌, ℕ, suc, ◌≤◌, Bool, true, false, cond, nat_le, ◌&&◌, List, [], ◌∷◌, ◌++◌, map, Option, Some, None, Ok, refl, sym, ap, subst, ◌∙◌, append_assoc, arith}
use Rattle.std.proofs.lemmas.Bool.{and_parts, leb-true}
use Rattle.std.proofs.lemmas.List.{append-nil}
use Rattle.c_tree.specs.declared.token.At.{At}
use Rattle.c_tree.specs.declared.syntax.TypeWords.{TypeWords}
use Rattle.c_tree.specs.declared.syntax.TypeWords.TheVariants as words
use Rattle.c_tree.specs.declared.syntax.Expr.{Expr}
use Rattle.c_tree.specs.declared.syntax.Identifier.{Identifier}
use Rattle.c_tree.specs.declared.syntax.Return.{Return}
use Rattle.c_tree.specs.declared.syntax.Return.TheVariants as gives
use Rattle.c_tree.specs.declared.syntax.Parameter.{Parameter}
use Rattle.c_tree.specs.declared.syntax.Parameters.{Parameters}
use Rattle.c_tree.specs.declared.syntax.Parameters.TheVariants as parameters
use Rattle.c_tree.specs.declared.syntax.Declaration.{Declaration}
use Rattle.c_tree.specs.declared.syntax.Declaration.TheVariants as declaration
use Rattle.c_grammar.specs.declared.sign.Sign.{Sign}
use Rattle.c_grammar.specs.declared.sign.Sign.TheVariants as sign
use Rattle.c_grammar.specs.Words.{Word, a_sign, sign_of_word, Lexeme}
use Rattle.c_grammar.specs.Phrases.{Leaf, leaf, Said, Part, stands, is_at, entry, behind, leaves_of, leaves_at, all_fit, open_, item, piece, commas, node, each, phrase, placed as placed_word, the_sign}
use Rattle.c_grammar.specs.Grammar.{about, maybe, started, condition, statement_part, braces, block, declared, about_statement, returned, called, listed, parameter, part, program}
use Rattle.c_tree.specs.declared.syntax.Start.{Start}
use Rattle.c_tree.specs.declared.syntax.Start.TheVariants as start
use Rattle.c_tree.specs.declared.syntax.Statement.{Statement}
use Rattle.c_tree.specs.declared.syntax.Statement.TheVariants as tree_
use Rattle.c_tree.specs.declared.syntax.External.{External}
use Rattle.c_tree.specs.declared.syntax.External.TheVariants as external
use Rattle.c_tree.specs.declared.syntax.Syntax.{Syntax}
use Rattle.c_reading.specs.Parsers.{same}
use Rattle.c_parser.proofs.Asked.{place_of, type_of}
use Rattle.c_parser.proofs.Machine as m
use Rattle.c_parser.proofs.Machine.{State, operand, have, want, got, Use, Under, step, run, Outcome, Next, goes, moved, hole, first, outer, use_hole, op_of, closes, close_use, close_block, is_block, inside, add, maybe_behind, start_behind, for_test, for_next, offer, Home, home_nesting, conclude, header, either, expect}
use Rattle.c_parser.proofs.Trees.{stat_induction, told_block, told_declared, told_evaluate, told_if, told_if_else, told_while, told_dowhile, told_for, told_switch, told_case, told_default, told_break, told_continue, told_return}
use Rattle.c_parser.proofs.Runs.{lex, head_sign, starts, Met, met_as, took, skip, alike, type_leaves, type_at_leaves}
use Rattle.c_parser.proofs.ExprRuns.{not_sign, fit, placed, binds, entry_open, follow_none, heads}
use Rattle.c_parser.proofs.ExprComplete.{complete}
use Rattle.c_parser.proofs.DeclComplete.{Opens, declaration_run, heading_run}

-- ---- first words

-- a word of the start of a statement or a declaration
abbrev pub starts_item : Sign → Bool
starts_item sign.Other = true
starts_item sign.Plus = true
starts_item sign.Minus = true
starts_item sign.Tilde = true
starts_item sign.Exclamation = true
starts_item sign.Increment = true
starts_item sign.Decrement = true
starts_item sign.LeftParen = true
starts_item sign.LeftBrace = true
starts_item sign.Semicolon = true
starts_item sign.If = true
starts_item sign.While = true
starts_item sign.Do = true
starts_item sign.For = true
starts_item sign.Switch = true
starts_item sign.Case = true
starts_item sign.Default = true
starts_item sign.Break = true
starts_item sign.Continue = true
starts_item sign.Return = true
starts_item sign.Char = true
starts_item sign.Int = true
starts_item sign.Signed = true
starts_item sign.Unsigned = true
starts_item sign.Void = true
starts_item _ = false

starts_too : (s : Sign) → starts s ≡ true → starts_item s ≡ true
starts_too sign.Other h = refl
starts_too sign.Plus h = refl
starts_too sign.Minus h = refl
starts_too sign.Tilde h = refl
starts_too sign.Exclamation h = refl
starts_too sign.Increment h = refl
starts_too sign.Decrement h = refl
starts_too sign.LeftParen h = refl
starts_too _ h = absurd cc

no_else : (s : Sign) → starts_item s ≡ true → same s sign.Else ≡ false
no_else sign.Else h = absurd cc
no_else s h = refl

type_head : (t : TypeWords) (o : Option At) (n : ℕ) (r : List Leaf) → starts_item (head_sign (type_leaves (λ k. true) o t n r)) ≡ true
type_head words.Char o n r = refl
type_head _ o n r = refl

pub declared_head : (d : Declaration) (n : ℕ) (r : List Leaf) → starts_item (head_sign ((declared d).leaves n r)) ≡ true
declared_head (declaration.Objects at t is) n r = subst (λ l. starts_item (head_sign l) ≡ true) (sym (type_at_leaves (λ k. true) at t _ n r)) (type_head t _ n _)
declared_head (declaration.Function at gives.Void f ps) n r = refl
declared_head (declaration.Function at (gives.Value t) f ps) n r = subst (λ l. starts_item (head_sign l) ≡ true) (sym (type_at_leaves (λ k. true) at t _ n r)) (type_head t _ n _)

stat_heads : (x : Statement) (n : ℕ) (r : List Leaf) → starts_item (head_sign ((about_statement x).leaves n r)) ≡ true
stat_heads = stat_induction (λ x. (n : ℕ) (r : List Leaf) → starts_item (head_sign ((about_statement x).leaves n r)) ≡ true) (record {
  block_ = λ at ss n r. begin _ _ (told_block at (map (λ a. a.0) ss)) n r refl;
  declared_ = λ d n r. begin _ _ (told_declared d) n r (declared_head d n r);
  evaluate_ = λ at e n r. begin _ _ (told_evaluate at e) n r (maybe_head at e n r);
  if_ = λ at e a ha n r. begin _ _ (told_if at e a) n r refl;
  if_else = λ at e a b ha hb n r. begin _ _ (told_if_else at e a b) n r refl;
  while_ = λ at e a ha n r. begin _ _ (told_while at e a) n r refl;
  dowhile_ = λ at a e ha n r. begin _ _ (told_dowhile at a e) n r refl;
  for_ = λ at b t x a ha n r. begin _ _ (told_for at b t x a) n r refl;
  switch_ = λ at e ss n r. begin _ _ (told_switch at e (map (λ a. a.0) ss)) n r refl;
  case_ = λ at e a ha n r. begin _ _ (told_case at e a) n r refl;
  default_ = λ at a ha n r. begin _ _ (told_default at a) n r refl;
  break_ = λ at n r. begin _ _ (told_break at) n r refl;
  continue_ = λ at n r. begin _ _ (told_continue at) n r refl;
  return_ = λ at e n r. begin _ _ (told_return at e) n r refl;
})
  where
    begin : (A B : Said) → A ≡ B → (n : ℕ) (r : List Leaf) → starts_item (head_sign (B.leaves n r)) ≡ true → starts_item (head_sign (A.leaves n r)) ≡ true
    begin A B e n r h = subst (λ (s : Said). starts_item (head_sign (s.leaves n r)) ≡ true) (sym e) h

    maybe_head : (at : At) (e : Option Expr) (n : ℕ) (r : List Leaf) → starts_item (head_sign (leaves_at at (maybe e ++ the_sign sign.Semicolon ∷ []) n r)) ≡ true
    maybe_head at None n r = refl
    maybe_head at (Some e) n r = starts_too _ (heads e _ _)

-- ---- where a statement is wanted

same_cond : {A : Type 0} (b : Bool) (x y : A) → x ≡ y → cond b x y ≡ y
same_cond true x y e = e
same_cond false x y e = refl

abbrev plain : Sign → Bool
plain sign.RightBrace = false
plain sign.Void = false
plain sign.Char = false
plain sign.Int = false
plain sign.Signed = false
plain sign.Unsigned = false
plain _ = true

plain_item : (at : At) (w : Word) (us : List Under) (s : Sign) → plain s ≡ true → m.on_item at w s us ≡ m.on_statement at w s us
plain_item at w us sign.RightBrace h = absurd cc
plain_item at w us sign.Void h = absurd cc
plain_item at w us sign.Char h = absurd cc
plain_item at w us sign.Int h = absurd cc
plain_item at w us sign.Signed h = absurd cc
plain_item at w us sign.Unsigned h = absurd cc
plain_item at w us s h = refl

wanted : (at : At) (w : Word) (us : List Under) → plain (sign_of_word w) ≡ true → step (want us) (lex w at) ≡ m.on_statement at w (sign_of_word w) us
wanted at w us h = same_cond (is_block us) _ _ (plain_item at w us (sign_of_word w) h)

-- an expression's first word
wanted_value : (us : List Under) (t : Lexeme) → starts (sign_of_word t.word) ≡ true → step (want us) t ≡ step (operand [] (m.evaluate us)) t
wanted_value us t h = same_cond (is_block us) _ _ (plain_item t.at t.word us (sign_of_word t.word) (is_plain _ h)) ∙ falls (sign_of_word t.word) h
  where
    is_plain : (s : Sign) → starts s ≡ true → plain s ≡ true
    is_plain sign.Other h = refl
    is_plain sign.Plus h = refl
    is_plain sign.Minus h = refl
    is_plain sign.Tilde h = refl
    is_plain sign.Exclamation h = refl
    is_plain sign.Increment h = refl
    is_plain sign.Decrement h = refl
    is_plain sign.LeftParen h = refl
    is_plain _ h = absurd cc

    falls : (s : Sign) → starts s ≡ true → m.on_statement t.at t.word s us ≡ m.on_operand t.at t.word [] (m.evaluate us)
    falls sign.Other h = refl
    falls sign.Plus h = refl
    falls sign.Minus h = refl
    falls sign.Tilde h = refl
    falls sign.Exclamation h = refl
    falls sign.Increment h = refl
    falls sign.Decrement h = refl
    falls sign.LeftParen h = refl
    falls _ h = absurd cc

-- ---- blocks

abbrev pub after_block : List Under → State
after_block (m.in_block at ss ∷ us) = got (tree_.Block at ss) us
after_block (m.in_switch at e ss ∷ us) = got (tree_.Switch at e ss) us
after_block (m.in_body ps at r n qs brace ss ∷ us) = m.program (ps ++ external.Defined at r n qs brace ss ∷ [])
after_block us = want us

abbrev adds : List Statement → List Under → List Under
adds [] us = us
adds (x ∷ xs) us = adds xs (add x us)

inside_add : (x : Statement) (us : List Under) → is_block us ≡ true → inside (add x us) ≡ inside us
inside_add x [] h = refl
inside_add x (m.in_block at ss ∷ us) h = refl
inside_add x (m.in_switch at e ss ∷ us) h = refl
inside_add x (m.in_body ps at r n qs brace ss ∷ us) h = refl
inside_add x (_ ∷ us) h = refl

block_add : (x : Statement) (us : List Under) → is_block us ≡ true → is_block (add x us) ≡ true
block_add x [] h = h
block_add x (m.in_block at ss ∷ us) h = refl
block_add x (m.in_switch at e ss ∷ us) h = refl
block_add x (m.in_body ps at r n qs brace ss ∷ us) h = refl
block_add x (_ ∷ us) h = absurd cc

close_step : (us : List Under) (p : At) → is_block us ≡ true → step (want us) (lex (a_sign sign.RightBrace) p) ≡ Some (inside us, after_block us)
close_step [] p h = absurd cc
close_step (m.in_block at ss ∷ us) p h = refl
close_step (m.in_switch at e ss ∷ us) p h = refl
close_step (m.in_body ps at r n qs brace ss ∷ us) p h = refl
close_step (_ ∷ us) p h = absurd cc

settle_block : (x : Statement) (us : List Under) (t : Lexeme) → is_block us ≡ true → step (got x us) t ≡ step (want (add x us)) t
settle_block x [] t h = absurd cc
settle_block x (m.in_block at ss ∷ us) t h = refl
settle_block x (m.in_switch at e ss ∷ us) t h = refl
settle_block x (m.in_body ps at r n qs brace ss ∷ us) t h = refl
settle_block x (_ ∷ us) t h = absurd cc

adds_block : (xs done : List Statement) (at : At) (us : List Under) → adds xs (m.in_block at done ∷ us) ≡ m.in_block at (done ++ xs) ∷ us
adds_block [] done at us = ap (λ l. m.in_block at l ∷ us) (sym (append-nil done))
adds_block (x ∷ xs) done at us = adds_block xs (done ++ x ∷ []) at us ∙ ap (λ l. m.in_block at l ∷ us) (append_assoc done (x ∷ []) xs)

adds_switch : (xs done : List Statement) (at : At) (e : Expr) (us : List Under) → adds xs (m.in_switch at e done ∷ us) ≡ m.in_switch at e (done ++ xs) ∷ us
adds_switch [] done at e us = ap (λ l. m.in_switch at e l ∷ us) (sym (append-nil done))
adds_switch (x ∷ xs) done at e us = adds_switch xs (done ++ x ∷ []) at e us ∙ ap (λ l. m.in_switch at e l ∷ us) (append_assoc done (x ∷ []) xs)

adds_body : (xs done : List Statement) (ps : List External) (at : At) (r : Return) (n : Identifier) (qs : Parameters) (brace : At) (us : List Under) → adds xs (m.in_body ps at r n qs brace done ∷ us) ≡ m.in_body ps at r n qs brace (done ++ xs) ∷ us
adds_body [] done ps at r n qs brace us = ap (λ l. m.in_body ps at r n qs brace l ∷ us) (sym (append-nil done))
adds_body (x ∷ xs) done ps at r n qs brace us = adds_body xs (done ++ x ∷ []) ps at r n qs brace us ∙ ap (λ l. m.in_body ps at r n qs brace l ∷ us) (append_assoc done (x ∷ []) xs)

opens_block : (us : List Under) → is_block us ≡ true → Opens (want us) (m.at_block us)
opens_block us h = record { with_type = λ x t is p. ap (λ b. cond b (m.on_item p (a_sign x) x us) (m.on_statement p (a_sign x) x us)) h ∙ typed x t is p; with_void = λ p. ap (λ b. cond b (m.on_item p (a_sign sign.Void) sign.Void us) (m.on_statement p (a_sign sign.Void) sign.Void us)) h }
  where
    typed : (x : Sign) (t : TypeWords) → type_of x ≡ Some t → (p : At) → m.on_item p (a_sign x) x us ≡ Some (inside us, m.declaring p (gives.Value t) (m.at_block us))
    typed sign.Char t is p = ap (λ o. m.on_declaration p sign.Char o (m.at_block us) (m.on_statement p (a_sign sign.Char) sign.Char us)) is
    typed sign.Int t is p = ap (λ o. m.on_declaration p sign.Int o (m.at_block us) (m.on_statement p (a_sign sign.Int) sign.Int us)) is
    typed sign.Signed t is p = ap (λ o. m.on_declaration p sign.Signed o (m.at_block us) (m.on_statement p (a_sign sign.Signed) sign.Signed us)) is
    typed sign.Unsigned t is p = ap (λ o. m.on_declaration p sign.Unsigned o (m.at_block us) (m.on_statement p (a_sign sign.Unsigned) sign.Unsigned us)) is
    typed _ t is p = absurd cc

pub record Part_fit (k : ℕ) (a : Statement) (more : Bool) : Type 0 where
  pub level : k ≤ (about_statement a).level
  pub fits : (about_statement a).fits ≡ true
  pub rest : more ≡ true

part_fit : (k : ℕ) (a : Statement) (more : Bool) → (stands k (about_statement a) && more) ≡ true → Part_fit k a more
part_fit k a more e = let p = and_parts (stands k (about_statement a)) more e in let q = and_parts (nat_le k (about_statement a).level) (about_statement a).fits p.0 in record { level = leb-true k _ q.0; fits = q.1; rest = p.1 }

-- no else stands behind what one could join
pub record Later (l : ℕ) (r : List Leaf) : Type 0 where
  pub holds : l ≡ 1 → same (head_sign r) sign.Else ≡ false

module _ (T : ℕ → Bool) where
  abbrev pub Goal : State → State → List Leaf → List Leaf → Type 0
  Goal s s2 ls r = (ts : List Lexeme) (v : Outcome) → Met T ts ls → ((vs : List Lexeme) → Met T vs r → run T vs s2 ≡ v) → run T ts s ≡ v

  pub record Claims (x : Statement) (S : Said) : Type 0 where
    pub all : 1 ≤ S.level → (us : List Under) (r : List Leaf) → Later S.level r → Goal (want us) (got x us) (S.leaves (suc (inside us)) r) r
    pub item : (us : List Under) → is_block us ≡ true → (r : List Leaf) → Later S.level r → Goal (want us) (want (add x us)) (S.leaves (entry (inside us) S) r) r

  abbrev All : Statement → Said → Type 0
  All x S = (us : List Under) (r : List Leaf) → Later S.level r → Goal (want us) (got x us) (S.leaves (suc (inside us)) r) r

  from_all : (x : Statement) (S : Said) → 1 ≤ S.level → All x S → Claims x S
  from_all x S one all = record {
    all = λ o. all;
    item = λ us h r l ts v mt go. all us r l ts v (met_as T ts _ _ (ap (λ n. S.leaves n r) (entry_open (inside us) S one)) mt)
        (λ vs mv. alike T (got x us) (want (add x us)) vs r refl (λ t st. settle_block x us t h) mv ∙ go vs mv);
  }

  abbrev pub Good : Statement → Type 0
  Good x = (about_statement x).fits ≡ true → Claims x (about_statement x)

  -- a word of its own begins a statement
  begins : (us : List Under) (s2 : At → State) (x : Sign) (at : At) (n : ℕ) (r : List Leaf) → plain x ≡ true → ((q : At) → m.on_statement q (a_sign x) x us ≡ Some (n, s2 q)) → (ts : List Lexeme) (v : Outcome) → Met T ts (leaf (a_sign x) (Some at) n ∷ r) → ((vs : List Lexeme) → Met T vs r → run T vs (s2 at) ≡ v) → run T ts (want us) ≡ v
  begins us s2 x at n r h does ts v mt go = took T (want us) (s2 at) ts v (λ q st. wanted q (a_sign x) us h ∙ does q ∙ ap (λ z. Some (n, s2 z)) (sym st)) mt go

  -- the value that is read for a use, up to a word
  value_run : (e : Expr) (u : Use) (close : Sign) (s2 : State) → use_hole u ≡ 0 → op_of close ≡ closes → binds close ≡ 0 → close_use u e close ≡ Some (behind (outer u) (about e), s2) → (about e).fits ≡ true → (r : List Leaf) → Goal (operand [] u) s2 ((about e).leaves (entry (outer u) (about e)) (leaf (a_sign close) None (behind (outer u) (about e)) ∷ r)) r
  value_run e u close s2 hole0 op bind does fits r ts v mt go = (complete T e fits).exp [] u hole0 _ (follow_none _ _ bind) ts v mt
      (λ vs mv. took T (have e [] u) s2 vs v (λ q st. ap (λ o. cond (m.takes [] u o e) (m.push o e [] u) (close_use u e close)) op ∙ does) mv go)

  condition_run : (e : Expr) (u : Use) (s2 : State) (more : List Part) → use_hole u ≡ 0 → close_use u e sign.RightParen ≡ Some (behind (outer u) (about e), s2) → (about e).fits ≡ true → (r : List Leaf)
      → Goal (expect sign.LeftParen (outer u) (operand [] u)) s2 (leaves_of (condition e more) (outer u) r) (leaves_of more (behind (outer u) (about e)) r)
  condition_run e u s2 more hole0 does fits r ts v mt go = took T (expect sign.LeftParen (outer u) (operand [] u)) (operand [] u) ts v (λ q st. refl) mt
      (λ vs mv. value_run e u sign.RightParen s2 hole0 refl refl does fits _ vs v mv go)

  maybe_run : (x : Option Expr) (u : Use) (close : Sign) (a : Option Expr → State) (more : List Part) → use_hole u ≡ 0 → op_of close ≡ closes → binds close ≡ 0 → starts close ≡ false → m.is_sign (a_sign close) close ≡ true → ((e : Expr) → close_use u e close ≡ Some (behind (outer u) (about e), a (Some e)))
      → all_fit (maybe x ++ the_sign close ∷ more) ≡ true → (r : List Leaf) → Goal (either close (outer u) (a None) (operand [] u)) (a x) (leaves_of (maybe x ++ the_sign close ∷ more) (outer u) r) (leaves_of more (maybe_behind (outer u) x) r)
  maybe_run None u close a more hole0 op bind none self does fits r ts v mt go = took T (either close (outer u) (a None) (operand [] u)) (a None) ts v (λ q st. ap (λ b. cond b (Some (outer u, a None)) (step (operand [] u) (lex (a_sign close) q))) self) mt go
  maybe_run (Some e) u close a more hole0 op bind none self does fits r ts v mt go =
      skip T (either close (outer u) (a None) (operand [] u)) (operand [] u) refl ts (λ t st. ap (λ b. cond b (Some (outer u, a None)) (step (operand [] u) t)) (not_sign t.word close st none)) (heads e _ _) mt
      ∙ value_run e u close (a (Some e)) hole0 op bind (does e) (and_parts _ _ fits).0 _ ts v mt go

  maybe_fits : (x : Option Expr) (ps : List Part) → all_fit (maybe x ++ ps) ≡ true → all_fit ps ≡ true
  maybe_fits None ps h = h
  maybe_fits (Some e) ps h = (and_parts _ _ h).1

  later_up : (k l : ℕ) (r : List Leaf) → (k ≡ 1 → l ≡ 1) → Later l r → Later k r
  later_up k l r f h = record { holds = λ e. h.holds (f e) }

  -- ---- statements of one part

  jump_good : (x : Statement) (at : At) (word : Sign) → plain word ≡ true → about_statement x ≡ node at 2 (the_sign word ∷ the_sign sign.Semicolon ∷ []) → (s2 : List Under → At → State)
      → ((us : List Under) (q : At) → m.on_statement q (a_sign word) word us ≡ Some (suc (inside us), expect sign.Semicolon (suc (inside us)) (s2 us q))) → ((us : List Under) → s2 us at ≡ got x us) → Good x
  jump_good x at word h is s2 does ends fits = subst (λ s. Claims x s) (sym is) (from_all _ _ (omega arith)
      (λ us r l ts v mt go. begins us (λ q. expect sign.Semicolon (suc (inside us)) (s2 us q)) word at _ _ h (does us) ts v mt
      (λ vs mv. took T (expect sign.Semicolon (suc (inside us)) (s2 us at)) (s2 us at) vs v (λ q st. refl) mv (λ xs mx. ap (λ s. run T xs s) (ends us) ∙ go xs mx))))

  declared_good : (d : Declaration) → Good (tree_.Declared d)
  declared_good d fits = subst (λ s. Claims (tree_.Declared d) s) (sym (told_declared d)) (record {
    all = λ one. absurd (low d one);
    item = λ us h r l ts v mt go. declaration_run T d (m.at_block us) (want us) (opens_block us h) (subst (λ (s : Said). s.fits ≡ true) (told_declared d) fits) r ts v (met_as T ts _ _ (ap (λ n. (declared d).leaves n r) (low_entry d (inside us))) mt) go;
  })
    where
      low : (d : Declaration) → 1 ≤ (declared d).level → ⊥
      low (declaration.Objects at t is) h = omega (arith, h)
      low (declaration.Function at g n ps) h = omega (arith, h)

      low_entry : (d : Declaration) (n : ℕ) → entry n (declared d) ≡ n
      low_entry (declaration.Objects at t is) n = refl
      low_entry (declaration.Function at g n2 ps) n = refl

  evaluate_good : (at : At) (e : Option Expr) → Good (tree_.Evaluate at e)
  evaluate_good at None fits = subst (λ s. Claims (tree_.Evaluate at None) s) (sym (told_evaluate at None)) (from_all _ _ (omega arith)
      (λ us r l ts v mt go. begins us (λ q. got (tree_.Evaluate q None) us) sign.Semicolon at _ _ refl (λ q. refl) ts v mt go))
  evaluate_good at (Some e) fits =
      let f0 : (is_at at (about e).at && ((about e).fits && true)) ≡ true = subst (λ (s : Said). s.fits ≡ true) (told_evaluate at (Some e)) fits in
      let p = and_parts (is_at at (about e).at) _ f0 in
      subst (λ s. Claims (tree_.Evaluate at (Some e)) s) (sym (told_evaluate at (Some e))) (from_all _ _ (omega arith)
      (λ us r l ts v mt go. skip T (want us) (operand [] (m.evaluate us)) refl ts (wanted_value us) (heads e _ _) mt
      ∙ value_run e (m.evaluate us) sign.Semicolon (got (tree_.Evaluate (place_of e) (Some e)) us) refl refl refl refl (and_parts (about e).fits _ p.1).0 r ts v mt
      (λ vs mv. ap (λ z. run T vs (got (tree_.Evaluate z (Some e)) us)) (sym (placed at e p.0)) ∙ go vs mv)))

  return_good : (at : At) (e : Option Expr) → Good (tree_.Return at e)
  return_good at e fits = subst (λ s. Claims (tree_.Return at e) s) (sym (told_return at e)) (from_all _ _ (omega arith)
      (λ us r l ts v mt go. begins us (λ q. either sign.Semicolon (suc (inside us)) (got (tree_.Return q None) us) (operand [] (m.return_ q us))) sign.Return at _ _ refl (λ q. refl) ts v mt
      (λ vs mv. maybe_run e (m.return_ at us) sign.Semicolon (λ x. got (tree_.Return at x) us) [] refl refl refl refl refl (λ x. refl) (subst (λ (s : Said). s.fits ≡ true) (told_return at e) fits) r vs v mv go)))

  -- ---- statements with a statement

  while_good : (at : At) (e : Expr) (a : Statement) → Good a → Good (tree_.While at e a)
  while_good at e a ga fits =
      let p = and_parts (about e).fits _ (subst (λ (s : Said). s.fits ≡ true) (told_while at e a) fits) in
      let q = part_fit 1 a true p.1 in
      subst (λ s. Claims (tree_.While at e a) s) (sym (told_while at e a)) (from_all _ _ q.level
      (λ us r l ts v mt go. begins us (λ z. expect sign.LeftParen (suc (inside us)) (operand [] (m.while_ z us))) sign.While at _ _ refl (λ z. refl) ts v mt
      (λ vs mv. condition_run e (m.while_ at us) (want (m.in_while at e ∷ us)) (statement_part (about_statement a) ∷ []) refl refl p.0 r vs v mv
      (λ xs mx. (ga q.fits).all q.level (m.in_while at e ∷ us) r l xs v mx
      (λ ys my. alike T (got a (m.in_while at e ∷ us)) (got (tree_.While at e a) us) ys r refl (λ t st. refl) my ∙ go ys my)))))

  if_good : (at : At) (e : Expr) (a : Statement) → Good a → Good (tree_.If at e a None)
  if_good at e a ga fits =
      let p = and_parts (about e).fits _ (subst (λ (s : Said). s.fits ≡ true) (told_if at e a) fits) in
      let q = part_fit 1 a true p.1 in
      subst (λ s. Claims (tree_.If at e a None) s) (sym (told_if at e a)) (from_all _ _ (omega arith)
      (λ us r l ts v mt go. begins us (λ z. expect sign.LeftParen (suc (inside us)) (operand [] (m.if_ z us))) sign.If at _ _ refl (λ z. refl) ts v mt
      (λ vs mv. condition_run e (m.if_ at us) (want (m.in_if at e ∷ us)) (statement_part (about_statement a) ∷ []) refl refl p.0 r vs v mv
      (λ xs mx. (ga q.fits).all q.level (m.in_if at e ∷ us) r (record { holds = λ z. l.holds refl }) xs v mx
      (λ ys my. alike T (got a (m.in_if at e ∷ us)) (got (tree_.If at e a None) us) ys r refl
      (λ t st. ap (λ b. cond b (goes (inside (m.in_if at e ∷ us)) (want (m.in_else at e a ∷ us))) (step (got (tree_.If at e a None) us) t)) (ap (λ z. same z sign.Else) st ∙ l.holds refl)) my ∙ go ys my)))))

  if_else_good : (at : At) (e : Expr) (a b : Statement) → Good a → Good b → Good (tree_.If at e a (Some b))
  if_else_good at e a b ga gb fits =
      let p = and_parts (about e).fits _ (subst (λ (s : Said). s.fits ≡ true) (told_if_else at e a b) fits) in
      let q = part_fit 2 a _ p.1 in
      let o = part_fit 1 b true q.rest in
      subst (λ s. Claims (tree_.If at e a (Some b)) s) (sym (told_if_else at e a b)) (from_all _ _ o.level
      (λ us r l ts v mt go. begins us (λ z. expect sign.LeftParen (suc (inside us)) (operand [] (m.if_ z us))) sign.If at _ _ refl (λ z. refl) ts v mt
      (λ vs mv. condition_run e (m.if_ at us) (want (m.in_if at e ∷ us)) (open_ 2 (about_statement a) ∷ the_sign sign.Else ∷ statement_part (about_statement b) ∷ []) refl refl p.0 r vs v mv
      (λ xs mx. (ga q.fits).all (omega (arith, q.level)) (m.in_if at e ∷ us) _ (record { holds = λ z. absurd (omega (arith, z, q.level)) }) xs v mx
      (λ ys my. took T (got a (m.in_if at e ∷ us)) (want (m.in_else at e a ∷ us)) ys v (λ z st. refl) my
      (λ zs mz. (gb o.fits).all o.level (m.in_else at e a ∷ us) r l zs v mz
      (λ ws mw. alike T (got b (m.in_else at e a ∷ us)) (got (tree_.If at e a (Some b)) us) ws r refl (λ t st. refl) mw ∙ go ws mw)))))))

  dowhile_good : (at : At) (a : Statement) (e : Expr) → Good a → Good (tree_.DoWhile at a e)
  dowhile_good at a e ga fits =
      let q = part_fit 1 a _ (subst (λ (s : Said). s.fits ≡ true) (told_dowhile at a e) fits) in
      let p = and_parts (about e).fits _ q.rest in
      subst (λ s. Claims (tree_.DoWhile at a e) s) (sym (told_dowhile at a e)) (from_all _ _ (omega arith)
      (λ us r l ts v mt go. begins us (λ z. want (m.in_do z ∷ us)) sign.Do at _ _ refl (λ z. refl) ts v mt
      (λ vs mv. (ga q.fits).all q.level (m.in_do at ∷ us) _ (record { holds = λ z. refl }) vs v mv
      (λ xs mx. took T (got a (m.in_do at ∷ us)) (expect sign.LeftParen (suc (inside us)) (operand [] (m.do_ at a us))) xs v (λ z st. refl) mx
      (λ ys my. condition_run e (m.do_ at a us) (expect sign.Semicolon (behind (suc (inside us)) (about e)) (got (tree_.DoWhile at a e) us)) (the_sign sign.Semicolon ∷ []) refl refl p.0 r ys v my
      (λ zs mz. took T (expect sign.Semicolon (behind (suc (inside us)) (about e)) (got (tree_.DoWhile at a e) us)) (got (tree_.DoWhile at a e) us) zs v (λ z st. refl) mz go))))))

  case_good : (at : At) (e : Expr) (a : Statement) → Good a → Good (tree_.Case at e a)
  case_good at e a ga fits =
      let p = fit 2 e _ (subst (λ (s : Said). s.fits ≡ true) (told_case at e a) fits) in
      let q = part_fit 1 a true p.rest in
      subst (λ s. Claims (tree_.Case at e a) s) (sym (told_case at e a)) (from_all _ _ q.level
      (λ us r l ts v mt go. begins us (λ z. operand [] (m.case_ z us)) sign.Case at _ _ refl (λ z. refl) ts v mt
      (λ vs mv. (complete T e p.fits).all (omega (arith, p.level)) [] (m.case_ at us) p.level _ (follow_none _ _ refl) vs v mv
      (λ xs mx. took T (have e [] (m.case_ at us)) (want (m.in_case at e ∷ us)) xs v (λ z st. refl) mx
      (λ ys my. (ga q.fits).all q.level (m.in_case at e ∷ us) r l ys v my
      (λ zs mz. alike T (got a (m.in_case at e ∷ us)) (got (tree_.Case at e a) us) zs r refl (λ t st. refl) mz ∙ go zs mz))))))

  default_good : (at : At) (a : Statement) → Good a → Good (tree_.Default at a)
  default_good at a ga fits =
      let q = part_fit 1 a true (subst (λ (s : Said). s.fits ≡ true) (told_default at a) fits) in
      subst (λ s. Claims (tree_.Default at a) s) (sym (told_default at a)) (from_all _ _ q.level
      (λ us r l ts v mt go. begins us (λ z. expect sign.Colon (suc (inside us)) (want (m.in_default z ∷ us))) sign.Default at _ _ refl (λ z. refl) ts v mt
      (λ xs mx. took T (expect sign.Colon (suc (inside us)) (want (m.in_default at ∷ us))) (want (m.in_default at ∷ us)) xs v (λ z st. refl) mx
      (λ ys my. (ga q.fits).all q.level (m.in_default at ∷ us) r l ys v my
      (λ zs mz. alike T (got a (m.in_default at ∷ us)) (got (tree_.Default at a) us) zs r refl (λ t st. refl) mz ∙ go zs mz)))))

  started_run : (at : At) (us : List Under) (b : Start) (more : List Part) → all_fit (started b ++ more) ≡ true → (r : List Leaf)
      → Goal (m.for_first at us) (for_test at b us) (leaves_of (started b ++ more) (suc (inside us)) r) (leaves_of more (start_behind (suc (inside us)) b) r)
  started_run at us start.Absent more fits r ts v mt go = took T (m.for_first at us) (for_test at start.Absent us) ts v (λ q st. refl) mt go
  started_run at us (start.Value e) more fits r ts v mt go =
      skip T (m.for_first at us) (operand [] (m.start_ at us)) refl ts (λ t st. first_value t (sign_of_word t.word) st) (heads e _ _) mt
      ∙ value_run e (m.start_ at us) sign.Semicolon (for_test at (start.Value e) us) refl refl refl refl (and_parts _ _ fits).0 _ ts v mt go
    where
      first_value : (t : Lexeme) (s : Sign) → starts s ≡ true → m.on_first t.at t.word s at us ≡ m.on_operand t.at t.word [] (m.start_ at us)
      first_value t sign.Other h = refl
      first_value t sign.Plus h = refl
      first_value t sign.Minus h = refl
      first_value t sign.Tilde h = refl
      first_value t sign.Exclamation h = refl
      first_value t sign.Increment h = refl
      first_value t sign.Decrement h = refl
      first_value t sign.LeftParen h = refl
      first_value t _ h = absurd cc
  started_run at us (start.Declared d) more fits r ts v mt go = declaration_run T d (m.at_start at us) (m.for_first at us) opening (and_parts _ _ fits).0 _ ts v mt go
    where
      first_type : (p : At) (x : Sign) (t : TypeWords) → type_of x ≡ Some t → m.on_first p (a_sign x) x at us ≡ Some (suc (inside us), m.declaring p (gives.Value t) (m.at_start at us))
      first_type p sign.Char t is = ap (λ o. m.on_declaration p sign.Char o (m.at_start at us) None) is
      first_type p sign.Int t is = ap (λ o. m.on_declaration p sign.Int o (m.at_start at us) None) is
      first_type p sign.Signed t is = ap (λ o. m.on_declaration p sign.Signed o (m.at_start at us) None) is
      first_type p sign.Unsigned t is = ap (λ o. m.on_declaration p sign.Unsigned o (m.at_start at us) None) is
      first_type p _ t is = absurd cc

      opening : Opens (m.for_first at us) (m.at_start at us)
      opening = record { with_type = λ x t is p. first_type p x t is; with_void = λ p. refl }

  started_fits : (b : Start) (ps : List Part) → all_fit (started b ++ ps) ≡ true → all_fit ps ≡ true
  started_fits start.Absent ps h = h
  started_fits (start.Value e) ps h = (and_parts _ _ h).1
  started_fits (start.Declared d) ps h = (and_parts _ _ h).1

  for_good : (at : At) (b : Start) (t n : Option Expr) (a : Statement) → Good a → Good (tree_.For at b t n a)
  for_good at b t n a ga fits =
      let f0 = subst (λ (s : Said). s.fits ≡ true) (told_for at b t n a) fits in
      let last : List Part = statement_part (about_statement a) ∷ [] in
      let third : List Part = maybe n ++ the_sign sign.RightParen ∷ last in
      let f1 = started_fits b (maybe t ++ the_sign sign.Semicolon ∷ third) f0 in
      let f2 = maybe_fits t (the_sign sign.Semicolon ∷ third) f1 in
      let q = part_fit 1 a true (maybe_fits n (the_sign sign.RightParen ∷ last) f2) in
      subst (λ s. Claims (tree_.For at b t n a) s) (sym (told_for at b t n a)) (from_all _ _ q.level
      (λ us r l ts v mt go. begins us (λ z. expect sign.LeftParen (suc (inside us)) (m.for_first z us)) sign.For at _ _ refl (λ z. refl) ts v mt
      (λ vs mv. took T (expect sign.LeftParen (suc (inside us)) (m.for_first at us)) (m.for_first at us) vs v (λ z st. refl) mv
      (λ ws mw. started_run at us b (maybe t ++ the_sign sign.Semicolon ∷ third) f0 r ws v mw
      (λ xs mx. maybe_run t (m.test_ at b us) sign.Semicolon (λ x. for_next at b x us) third refl refl refl refl refl (λ x. refl) f1 r xs v mx
      (λ ys my. maybe_run n (m.next_ at b t us) sign.RightParen (λ x. want (m.in_for at b t x ∷ us)) last refl refl refl refl refl (λ x. refl) f2 r ys v my
      (λ zs mz. (ga q.fits).all q.level (m.in_for at b t n ∷ us) r l zs v mz
      (λ os mo. alike T (got a (m.in_for at b t n ∷ us)) (got (tree_.For at b t n a) us) os r refl (λ t st. refl) mo ∙ go os mo))))))))

  -- ---- blocks

  abbrev pub Known : Type 0
  Known = (x : Statement) × Good x

  abbrev pub trees : List Known → List Statement
  trees = map (λ a. a.0)

  abbrev closed : List Known → List Part
  closed xs = each item (map about_statement (trees xs)) ++ the_sign sign.RightBrace ∷ []

  closed_later : (xs : List Known) (l n : ℕ) (r : List Leaf) → Later l (leaves_of (closed xs) n r)
  closed_later [] l n r = record { holds = λ z. refl }
  closed_later (x ∷ xs) l n r = record { holds = λ z. no_else _ (stat_heads x.0 _ _) }

  items_run : (us : List Under) → is_block us ≡ true → (xs : List Known) → all_fit (closed xs) ≡ true → (r : List Leaf) → Goal (want us) (after_block (adds (trees xs) us)) (leaves_of (closed xs) (inside us) r) r
  items_run us h [] fits r ts v mt go = took T (want us) (after_block us) ts v (λ q st. close_step us q h) mt go
  items_run us h (x ∷ xs) fits r ts v mt go =
      let p = and_parts (about_statement x.0).fits _ fits in
      (x.1 p.0).item us h _ (closed_later xs _ _ _) ts v mt
      (λ vs mv. items_run (add x.0 us) (block_add x.0 us h) xs p.1 r vs v (met_as T vs _ _ (ap (λ n. leaves_of (closed xs) n r) (sym (inside_add x.0 us h))) mv) go)

  block_good : (at : At) (xs : List Known) → Good (tree_.Block at (trees xs))
  block_good at xs fits =
      let f0 : ((true && all_fit (closed xs)) && true) ≡ true = (and_parts _ _ (subst (λ (s : Said). s.fits ≡ true) (told_block at (trees xs)) fits)).1 in
      subst (λ s. Claims (tree_.Block at (trees xs)) s) (sym (told_block at (trees xs))) (from_all _ _ (omega arith)
      (λ us r l ts v mt go. begins us (λ z. want (m.in_block z [] ∷ us)) sign.LeftBrace at _ _ refl (λ z. refl) ts v mt
      (λ vs mv. items_run (m.in_block at [] ∷ us) refl xs (and_parts _ _ f0).0 r vs v mv
      (λ ys my. ap (λ s. run T ys s) (ap after_block (adds_block (trees xs) [] at us)) ∙ go ys my))))

  switch_good : (at : At) (e : Expr) (xs : List Known) → Good (tree_.Switch at e (trees xs))
  switch_good at e xs fits =
      let p = and_parts (about e).fits _ (subst (λ (s : Said). s.fits ≡ true) (told_switch at e (trees xs)) fits) in
      let f0 : ((all_fit (closed xs)) && true) ≡ true = p.1 in
      subst (λ s. Claims (tree_.Switch at e (trees xs)) s) (sym (told_switch at e (trees xs))) (from_all _ _ (omega arith)
      (λ us r l ts v mt go. begins us (λ z. expect sign.LeftParen (suc (inside us)) (operand [] (m.switch_ z us))) sign.Switch at _ _ refl (λ z. refl) ts v mt
      (λ vs mv. condition_run e (m.switch_ at us) (expect sign.LeftBrace (suc (behind (suc (inside us)) (about e))) (want (m.in_switch at e [] ∷ us))) (open_ 0 (phrase (braces (map about_statement (trees xs)))) ∷ []) refl refl p.0 r vs v mv
      (λ ws mw. took T (expect sign.LeftBrace (suc (behind (suc (inside us)) (about e))) (want (m.in_switch at e [] ∷ us))) (want (m.in_switch at e [] ∷ us)) ws v (λ z st. refl) mw
      (λ xs2 mx. items_run (m.in_switch at e [] ∷ us) refl xs (and_parts _ _ f0).0 r xs2 v mx
      (λ ys my. ap (λ s. run T ys s) (ap after_block (adds_switch (trees xs) [] at e us)) ∙ go ys my))))))

  pub complete_statement : (x : Statement) → Good x
  complete_statement = stat_induction Good (record {
    block_ = block_good;
    declared_ = declared_good;
    evaluate_ = evaluate_good;
    if_ = if_good;
    if_else = if_else_good;
    while_ = while_good;
    dowhile_ = dowhile_good;
    for_ = for_good;
    switch_ = switch_good;
    case_ = case_good;
    default_ = default_good;
    break_ = λ at. jump_good (tree_.Break at) at sign.Break refl (told_break at) (λ us q. got (tree_.Break q) us) (λ us q. refl) (λ us. refl);
    continue_ = λ at. jump_good (tree_.Continue at) at sign.Continue refl (told_continue at) (λ us q. got (tree_.Continue q) us) (λ us q. refl) (λ us. refl);
    return_ = return_good;
  })

  -- ---- programs

  opens_top : (ps : List External) → Opens (m.program ps) (m.at_top ps)
  opens_top ps = record { with_type = λ x t is p. typed x t is p; with_void = λ p. refl }
    where
      typed : (x : Sign) (t : TypeWords) → type_of x ≡ Some t → (p : At) → m.on_program p x ps ≡ Some (0, m.declaring p (gives.Value t) (m.at_top ps))
      typed sign.Char t is p = ap (λ o. m.on_declaration p sign.Char o (m.at_top ps) None) is
      typed sign.Int t is p = ap (λ o. m.on_declaration p sign.Int o (m.at_top ps) None) is
      typed sign.Signed t is p = ap (λ o. m.on_declaration p sign.Signed o (m.at_top ps) None) is
      typed sign.Unsigned t is p = ap (λ o. m.on_declaration p sign.Unsigned o (m.at_top ps) None) is
      typed _ t is p = absurd cc

  abbrev known : List Statement → List Known
  known [] = []
  known (x ∷ xs) = (x, complete_statement x) ∷ known xs

  known_trees : (xs : List Statement) → trees (known xs) ≡ xs
  known_trees [] = refl
  known_trees (x ∷ xs) = ap (λ l. x ∷ l) (known_trees xs)

  returned_fits : (g : Return) (ps : List Part) → all_fit (returned g ++ ps) ≡ true → all_fit ps ≡ true
  returned_fits gives.Void ps h = h
  returned_fits (gives.Value words.Char) ps h = h
  returned_fits (gives.Value words.SignedChar) ps h = h
  returned_fits (gives.Value _) ps h = h

  abbrev bodied : Identifier → Parameters → At → List Statement → List Part
  bodied n qs brace body = called n qs (block brace (map about_statement body) ∷ [])

  listed_fits : (qs : Parameters) (ps : List Part) → all_fit (listed qs ++ the_sign sign.RightParen ∷ ps) ≡ true → all_fit ps ≡ true
  listed_fits parameters.Empty ps h = h
  listed_fits parameters.Void ps h = h
  listed_fits (parameters.List []) ps h = absurd cc
  listed_fits (parameters.List (p ∷ qs)) ps h = behind_list p qs ps h
    where
      behind_list : (p : Parameter) (qs : List Parameter) (ps : List Part) → all_fit (commas piece (map parameter (p ∷ qs)) ++ the_sign sign.RightParen ∷ ps) ≡ true → all_fit ps ≡ true
      behind_list p [] ps h = (and_parts (parameter p).fits _ h).1
      behind_list p (q ∷ qs) ps h = behind_list q qs ps ((and_parts (parameter p).fits _ h).1)

  external_run : (x : External) (ps : List External) → (part x).fits ≡ true → (r : List Leaf) → Goal (m.program ps) (m.program (ps ++ x ∷ [])) ((part x).leaves 0 r) r
  external_run (external.Include at) ps fits r ts v mt go = took T (m.program ps) (m.program (ps ++ external.Include at ∷ [])) ts v (λ q st. ap (λ z. goes 0 (m.program (ps ++ external.Include z ∷ []))) (sym st)) mt go
  external_run (external.Declared d) ps fits r ts v mt go = declaration_run T d (m.at_top ps) (m.program ps) (opens_top ps) fits r ts v mt go
  external_run (external.Defined at g n qs brace body) ps fits r ts v mt go =
      let f1 = (and_parts _ _ fits).1 in
      let f2 : (all_fit (closed (known body)) && true) ≡ true = subst (λ l. (all_fit (each item (map about_statement l) ++ the_sign sign.RightBrace ∷ []) && true) ≡ true) (sym (known_trees body)) (listed_fits qs _ (returned_fits g (bodied n qs brace body) f1)) in
      heading_run T at g n qs (block brace (map about_statement body) ∷ []) (m.at_top ps) (m.program ps) (opens_top ps) f1 r ts v mt
      (λ vs mv. took T (header (record { at = at; gives = g; name = n; home = m.at_top ps }) qs) (want (m.in_body ps at g n qs brace [] ∷ [])) vs v (λ z st. ap (λ p. goes 1 (want (m.in_body ps at g n qs p [] ∷ []))) (sym st)) mv
      (λ ws mw. items_run (m.in_body ps at g n qs brace [] ∷ []) refl (known body) (and_parts _ _ f2).0 r ws v (met_as T ws _ _ (ap (λ l. leaves_of (each item (map about_statement l) ++ the_sign sign.RightBrace ∷ []) 1 r) (sym (known_trees body))) mw)
      (λ ys my. ap (λ s. run T ys s) (ap after_block (adds_body (trees (known body)) [] ps at g n qs brace [] ∙ ap (λ l. m.in_body ps at g n qs brace l ∷ []) (known_trees body))) ∙ go ys my)))

  abbrev whole : List External → At → Outcome
  whole ps at = Ok (record { parts = ps; end = at })

  parts_run : (xs ps : List External) (at : At) → all_fit (each piece (map part xs) ++ placed_word at (a_sign sign.End) ∷ []) ≡ true → (ts : List Lexeme) → Met T ts (leaves_of (each piece (map part xs) ++ placed_word at (a_sign sign.End) ∷ []) 0 []) → run T ts (m.program ps) ≡ whole (ps ++ xs) at
  parts_run [] ps at fits ts mt = took T (m.program ps) (m.finished (record { parts = ps; end = at })) ts (whole (ps ++ []) at) (λ q st. ap (λ z. goes 0 (m.finished (record { parts = ps; end = z }))) (sym st)) mt finish
    where
      finish : (vs : List Lexeme) → Met T vs [] → run T vs (m.finished (record { parts = ps; end = at })) ≡ whole (ps ++ []) at
      finish [] mv = ap (λ l. whole l at) (sym (append-nil ps))
      finish (t ∷ vs) mv = absurd mv.meets
  parts_run (x ∷ xs) ps at fits ts mt =
      let p = and_parts (part x).fits _ fits in
      external_run x ps p.0 _ ts (whole (ps ++ x ∷ xs) at) mt (λ vs mv. parts_run xs (ps ++ x ∷ []) at p.1 vs mv ∙ ap (λ l. whole l at) (append_assoc ps (x ∷ []) xs))

  -- the words of a program lead to it
  pub complete_program : (p : Syntax) (ts : List Lexeme) → (program p).fits ≡ true → Met T ts ((program p).leaves 0 []) → run T ts (m.program []) ≡ Ok p
  complete_program p ts fits mt = parts_run p.parts [] p.end fits ts mt
