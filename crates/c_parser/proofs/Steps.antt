-- A step of the machine over an expression or a declaration keeps what the words read so far are.
use denote.Enum.Bare.{same_true}
use Rattle.c_grammar.specs.contracts.sign.Sign.{the_type}
use Rattle.std.proofs.Common.{rules, ◌≡◌, ℕ, suc, ◌+◌, ◌≤◌, Bool, true, false, cond, nat_le, ◌&&◌, List, [], ◌∷◌, ◌++◌, map, Option, Some, None, refl, sym, ap, subst, ◌∙◌, arith}
use Rattle.std.proofs.lemmas.Bool.{and_parts, leb-true, and_from}
use Rattle.std.proofs.lemmas.List.{append-nil}
use Rattle.c_tree.specs.declared.token.At.{At}
use Rattle.c_tree.specs.declared.syntax.TypeWords.{TypeWords}
use Rattle.c_tree.specs.declared.syntax.TypeWords.TheVariants as words
use Rattle.c_tree.specs.declared.syntax.Expr.{Expr}
use Rattle.c_tree.specs.declared.syntax.Expr.TheVariants as tree
use Rattle.c_tree.specs.declared.syntax.UnaryOperator.TheVariants as unary_
use Rattle.c_tree.specs.declared.syntax.StepOperator.TheVariants as step_
use Rattle.c_tree.specs.declared.syntax.Size.{Size}
use Rattle.c_tree.specs.declared.syntax.Size.TheVariants as size
use Rattle.c_tree.specs.declared.syntax.Initialiser.{Initialiser}
use Rattle.c_tree.specs.declared.syntax.Initialiser.TheVariants as initialiser
use Rattle.c_tree.specs.declared.syntax.Item.{Item}
use Rattle.c_tree.specs.declared.syntax.Declaration.{Declaration}
use Rattle.c_tree.specs.declared.syntax.Declaration.TheVariants as declaration
use Rattle.c_grammar.specs.declared.sign.Sign.{Sign}
use Rattle.c_grammar.specs.declared.sign.Sign.TheVariants as sign
use Rattle.c_grammar.specs.Words.{Word, a_name, a_number, a_character, a_sign, sign_of_word, Lexeme}
use Rattle.c_grammar.specs.Operators.{precedence, binary_sign, assign_sign, step_sign}
use Rattle.c_grammar.specs.Phrases.{begins_at, some, Leaf, leaf, Said, Part, stands, entry, behind, leaves_of, leaves_at, all_fit, open_, piece, commas, the_sign, operator}
use Rattle.c_grammar.specs.Grammar.{sized, initialised, declarator, assign, about, type, maybe, started, condition, declared, about_statement, returned, listed}
use Rattle.c_tree.specs.declared.syntax.Start.{Start}
use Rattle.c_tree.specs.declared.syntax.Start.TheVariants as start
use Rattle.c_tree.specs.declared.syntax.Statement.{Statement}
use Rattle.c_tree.specs.declared.syntax.Statement.TheVariants as tree_
use Rattle.c_tree.specs.declared.syntax.External.TheVariants as external
use Rattle.c_reading.specs.Parsers.{same}
use Rattle.c_parser.proofs.Asked.{place_of, type_of, joined}
use Rattle.c_parser.proofs.Machine as m
use Rattle.c_parser.proofs.Machine.{Frame, State, operand, have, named, opened, casting, want, got, Use, Under, Home, Naming, Heading, step, Next, goes, hole, opens, entered, spot, first, outer, use_hole, Op, op_of, own, left, is_op, takes, push, fill, shut, offer, close_use, close_block, is_block, inside, add, maybe_behind, start_behind, for_test, for_next, home_nesting, conclude, either, expect, item_of, item_end, value_after}
use Rattle.c_parser.proofs.Trees.{said_name, said_call, said_number, said_character, said_after, told_declared, told_evaluate, told_dowhile, told_return}
use Rattle.c_parser.proofs.Runs.{lex}
use Rattle.c_parser.proofs.ExprRuns.{prec_high}
use Rattle.c_parser.proofs.Fill.{trail_last, trail_snoc, fit_append, at_self, lead_first, hole_low, stands_it, text_have, Ok_have, filled_text, filled_ok}
use Rattle.c_parser.proofs.Text.{trail, argument, object, tops, text_unders, ok_unders, text_home, ok_home, text_type, text_naming, ok_naming, text_use, ok_use, text_frames, ok_frames, lead, ending}
use denote.Enum.Bare.{same_true}
use Rattle.c_grammar.specs.contracts.sign.Sign.{the_type}
use Rattle.std.proofs.Common.{rules}
use Rattle.c_grammar.specs.Operators.{binary_sign}
use Rattle.c_parser.proofs.ExprRuns.{prec_low}
use Rattle.c_parser.proofs.Fill.{trail_leaves}
use Rattle.c_parser.proofs.Reached.{Taken, Pre, pre_as, pre_more, word_is, joined_sign, type_sign, type_no_other, type_snoc, type_then, type_at_then, trail_pieces, comma_pieces, tops_snoc, tops_fit, items_snoc, items_fit, Stat_text, signed, Reached, Stepped}

-- ---- single facts

pub hole_max : (fs : List Frame) (u : Use) → hole fs u ≤ 14
hole_max [] (m.case_ at us) = omega arith
hole_max [] (m.size_ i) = omega arith
hole_max [] _ = omega arith
hole_max (m.binary a o ∷ fs) u = omega (arith, prec_high o)
hole_max (_ ∷ fs) u = omega arith

pub lit : (e : Expr) (S : Said) (fs : List Frame) (u : Use) (r : List Leaf) → about e ≡ S → 1 ≤ S.level → text_have e fs u r ≡ text_frames fs u (S.leaves (first fs u) r)
lit e S fs u r is h = ap (λ s. text_frames fs u (s.leaves (lead fs u s) r)) is ∙ ap (λ n. text_frames fs u (S.leaves n r)) (lead_first fs u S h)

pub lit_ok : (e : Expr) (S : Said) (fs : List Frame) (u : Use) → about e ≡ S → 14 ≤ S.level → S.fits ≡ true → ok_frames fs u → Ok_have e fs u
lit_ok e S fs u is l f ok = record { level = omega (arith, hole_max fs u, ap (λ (s : Said). s.level) is, l); fits = ap (λ (s : Said). s.fits) is ∙ f; frames = ok }

-- the sign of an operator
abbrev sign_by : Op → Sign
sign_by (m.joins o) = binary_sign o
sign_by (m.assigns o) = assign_sign o
sign_by (m.steps o) = step_sign o
sign_by m.asks = sign.Question
sign_by m.commas = sign.Comma
sign_by m.closes = sign.Other

op_back : (s : Sign) → is_op (op_of s) ≡ true → s ≡ sign_by (op_of s)
op_back sign.LogicalOr h = refl
op_back sign.LogicalAnd h = refl
op_back sign.Bar h = refl
op_back sign.Caret h = refl
op_back sign.Ampersand h = refl
op_back sign.Equal h = refl
op_back sign.NotEqual h = refl
op_back sign.Less h = refl
op_back sign.Greater h = refl
op_back sign.LessEqual h = refl
op_back sign.GreaterEqual h = refl
op_back sign.ShiftLeft h = refl
op_back sign.ShiftRight h = refl
op_back sign.Plus h = refl
op_back sign.Minus h = refl
op_back sign.Star h = refl
op_back sign.Slash h = refl
op_back sign.Percent h = refl
op_back sign.Assign h = refl
op_back sign.AssignAdd h = refl
op_back sign.AssignSubtract h = refl
op_back sign.AssignMultiply h = refl
op_back sign.AssignDivide h = refl
op_back sign.AssignRemainder h = refl
op_back sign.AssignAnd h = refl
op_back sign.AssignXor h = refl
op_back sign.AssignOr h = refl
op_back sign.AssignShiftLeft h = refl
op_back sign.AssignShiftRight h = refl
op_back sign.Increment h = refl
op_back sign.Decrement h = refl
op_back sign.Question h = refl
op_back sign.Comma h = refl
op_back _ h = absurd cc

op_named : (s : Sign) → is_op (op_of s) ≡ true → same s sign.Other ≡ false
op_named sign.Other h = absurd cc
op_named s h = refl

pub comma_trail : {A : Type 0} (f : A → Said) (x : A) (xs : List A) (n : ℕ) (r : List Leaf) → leaves_of (trail (λ y. piece (f y)) (x ∷ xs)) n r ≡ leaves_of (commas piece (map f (x ∷ xs))) n (leaf (a_sign sign.Comma) None n ∷ r)
comma_trail f x [] n r = refl
comma_trail f x (y ∷ xs) n r = ap (λ l. (f x).leaves n (leaf (a_sign sign.Comma) None n ∷ l)) (comma_trail f y xs n r)

pub comma_trail_fit : {A : Type 0} (f : A → Said) (x : A) (xs : List A) → all_fit (commas piece (map f (x ∷ xs))) ≡ true → all_fit (trail (λ y. piece (f y)) (x ∷ xs)) ≡ true
comma_trail_fit f x [] h = h
comma_trail_fit f x (y ∷ xs) h = let p = and_parts (f x).fits _ h in and_from _ _ p.0 (comma_trail_fit f y xs p.1)

values_trail : (x : Expr) (xs : List Expr) (ps : List Part) (n : ℕ) (r : List Leaf) → leaves_of (commas assign (map about (x ∷ xs)) ++ the_sign sign.Comma ∷ ps) n r ≡ leaves_of (trail argument (x ∷ xs)) n (leaves_of ps n r)
values_trail x [] ps n r = refl
values_trail x (y ∷ xs) ps n r = ap (λ l. (about x).leaves (suc n) (leaf (a_sign sign.Comma) None n ∷ l)) (values_trail y xs ps n r)

values_fit : (x : Expr) (xs : List Expr) → all_fit (trail argument (x ∷ xs)) ≡ true → all_fit (commas assign (map about (x ∷ xs)) ++ the_sign sign.Comma ∷ the_sign sign.RightBrace ∷ []) ≡ true
values_fit x [] h = h
values_fit x (y ∷ xs) h = let p = and_parts (stands 1 (about x)) _ h in and_from _ _ p.0 (values_fit y xs p.1)

pub sized_then : (z : Size) (ps : List Part) (n : ℕ) (r : List Leaf) → leaves_of (sized z ++ ps) n r ≡ leaves_of (sized z) n (leaves_of ps n r)
sized_then size.Scalar ps n r = refl
sized_then size.Absent ps n r = refl
sized_then (size.Given e) ps n r = refl

-- one more object
pub item_text : (i : Naming) (z : Size) (v : Initialiser) (r : List Leaf) → text_type i.at i.words i.home (leaves_of (commas piece (map declarator (i.done ++ item_of i z v ∷ []))) (home_nesting i.home) r) ≡ text_naming i (leaves_of (sized z) (home_nesting i.home) (leaves_of (initialised v) (home_nesting i.home) r))
item_text i z v r = ap (λ l. text_type i.at i.words i.home l) (
    ap (λ ps. leaves_of ps (home_nesting i.home) r) (sym (append-nil (commas piece (map declarator (i.done ++ item_of i z v ∷ [])))) ∙ trail_last object declarator piece (λ x. refl) i.done (item_of i z v) [])
    ∙ trail_pieces declarator i.done (object (item_of i z v) ∷ []) (home_nesting i.home) r
    ∙ ap (λ l. leaves_of (trail object i.done) (home_nesting i.home) (leaf (a_name i.name.bytes) (Some i.name.at) (home_nesting i.home) ∷ l)) (sized_then z (initialised v) (home_nesting i.home) r))

item_fits : (i : Naming) (z : Size) (v : Initialiser) → all_fit (trail object i.done) ≡ true → all_fit (sized z) ≡ true → all_fit (initialised v) ≡ true → all_fit (some (i.done ++ item_of i z v ∷ []) ∷ commas piece (map declarator (i.done ++ item_of i z v ∷ []))) ≡ true
item_fits i z v h k l = any i.done (ap all_fit (sym (append-nil (commas piece (map declarator (i.done ++ item_of i z v ∷ [])))) ∙ trail_last object declarator piece (λ x. refl) i.done (item_of i z v) []) ∙ fit_append (trail object i.done) (object (item_of i z v) ∷ []) h (and_from (declarator (item_of i z v)).fits true (fit_append (sized z) (initialised v) k l) refl))
  where
    any : (done : List Item) → all_fit (commas piece (map declarator (done ++ item_of i z v ∷ []))) ≡ true → all_fit (some (done ++ item_of i z v ∷ []) ∷ commas piece (map declarator (done ++ item_of i z v ∷ []))) ≡ true
    any [] h = h
    any (x ∷ xs) h = h

pub by_sign : (xs : Taken) (f g : List Leaf → List Leaf) (s : Sign) (n : ℕ) (p : At) → Pre xs f → ((r : List Leaf) → g r ≡ f (leaf (a_sign s) None n ∷ r)) → Pre (signed xs s n p) g
by_sign xs f g s n p h e = pre_more xs f g (lex (a_sign s) p) (a_sign s) None n refl tt h e

-- ---- states ahead

pub started_then : (b : Start) (ps : List Part) (n : ℕ) (r : List Leaf) → leaves_of (started b ++ ps) n r ≡ leaves_of (started b) n (leaves_of ps (start_behind n b) r)
started_then start.Absent ps n r = refl
started_then (start.Value e) ps n r = refl
started_then (start.Declared d) ps n r = refl

pub maybe_then : (x : Option Expr) (ps : List Part) (n : ℕ) (r : List Leaf) → leaves_of (maybe x ++ ps) n r ≡ leaves_of (maybe x) n (leaves_of ps (maybe_behind n x) r)
maybe_then None ps n r = refl
maybe_then (Some e) ps n r = refl

abbrev for_text : At → List Under → List Part → List Leaf → List Leaf
for_text at us ps r = text_unders us (leaves_at at (the_sign sign.For ∷ the_sign sign.LeftParen ∷ ps) (suc (inside us)) r)

-- the header of a for up to the words behind a part of it
pub for_parts : (at : At) (us : List Under) (b : Start) (ps : List Part) (r : List Leaf) → for_text at us (started b ++ ps) r ≡ for_text at us (started b) (leaves_of ps (start_behind (suc (inside us)) b) r)
for_parts at us b ps r = ap (λ l. text_unders us (leaf (a_sign sign.For) (Some at) (suc (inside us)) ∷ leaf (a_sign sign.LeftParen) None (suc (inside us)) ∷ l)) (started_then b ps (suc (inside us)) r)

pub next_reached : (xs : Taken) (at : At) (b : Start) (t : Option Expr) (us : List Under) → Pre xs (text_use (m.next_ at b t us)) → all_fit (started b) ≡ true → all_fit (maybe t) ≡ true → ok_unders us → Reached xs (for_next at b t us)
next_reached xs at b t us p fb ft ok = (λ q. (by_sign xs (text_use (m.next_ at b t us)) (text_unders (m.in_for at b t None ∷ us)) sign.RightParen _ q p ends, (fit_append (started b) _ fb (fit_append (maybe t) _ ft refl), ok)), (p, (fb, ft, ok)))
  where
    ends : (r : List Leaf) → for_text at us (started b ++ (maybe t ++ the_sign sign.Semicolon ∷ the_sign sign.RightParen ∷ [])) r ≡ for_text at us (started b ++ (maybe t ++ the_sign sign.Semicolon ∷ [])) (leaf (a_sign sign.RightParen) None (maybe_behind (start_behind (suc (inside us)) b) t) ∷ r)
    ends r = for_parts at us b _ r ∙ ap (λ l. for_text at us (started b) l) (maybe_then t _ _ r) ∙ sym (for_parts at us b _ _ ∙ ap (λ l. for_text at us (started b) l) (maybe_then t _ _ _))

pub test_reached : (xs : Taken) (at : At) (b : Start) (us : List Under) → Pre xs (for_text at us (started b)) → all_fit (started b) ≡ true → ok_unders us → Reached xs (for_test at b us)
test_reached xs at b us p fb ok = (λ q. next_reached (signed xs sign.Semicolon _ q) at b None us (by_sign xs (for_text at us (started b)) (text_use (m.next_ at b None us)) sign.Semicolon _ q p (λ r. for_parts at us b (the_sign sign.Semicolon ∷ []) r)) fb refl ok, (p, (fb, ok)))

pub add_reached : (xs : Taken) (x : Statement) (us : List Under) → Pre xs (λ r. text_unders us ((about_statement x).leaves (entry (inside us) (about_statement x)) r)) → (about_statement x).fits ≡ true → ok_unders us → is_block us ≡ true → Reached xs (want (add x us))
add_reached xs x [] p fx ok h = absurd cc
add_reached xs x (m.in_block at ss ∷ us) p fx ok h = (pre_as xs _ (text_unders (m.in_block at (ss ++ x ∷ []) ∷ us)) (λ r. ap (λ l. text_unders us (leaf (a_sign sign.LeftBrace) (Some at) (suc (suc (inside us))) ∷ l)) (items_snoc ss x _ r)) p, (items_fit ss x ok.0 fx, ok.1))
add_reached xs x (m.in_switch at e ss ∷ us) p fx ok h = (pre_as xs _ (text_unders (m.in_switch at e (ss ++ x ∷ []) ∷ us)) (λ r. ap (λ l. text_unders us (leaves_at at (the_sign sign.Switch ∷ condition e []) (suc (inside us)) (leaf (a_sign sign.LeftBrace) None (suc (behind (suc (inside us)) (about e))) ∷ l))) (items_snoc ss x _ r)) p, (ok.0, items_fit ss x ok.1 fx, ok.2))
add_reached xs x (m.in_body ps at g n qs brace ss ∷ us) p fx ok h = (pre_as xs _ (text_unders (m.in_body ps at g n qs brace (ss ++ x ∷ []) ∷ us)) (λ r. ap (λ l. leaves_of (tops ps) 0 (leaves_at at (returned g) 0 (leaf (a_name n.bytes) (Some n.at) 0 ∷ leaf (a_sign sign.LeftParen) None 0 ∷ leaves_of (listed qs) 0 (leaf (a_sign sign.RightParen) None 0 ∷ leaf (a_sign sign.LeftBrace) (Some brace) 1 ∷ l)))) (items_snoc ss x 1 r)) p, (ok.0, ok.1, items_fit ss x ok.2 fx))
add_reached xs x (_ ∷ us) p fx ok h = absurd cc

pub declared_entry : (d : Declaration) (n : ℕ) → entry n (declared d) ≡ n
declared_entry (declaration.Objects at t is) n = refl
declared_entry (declaration.Function at g k ps) n = refl

pub conclude_reached : (xs : Taken) (h : Home) (d : Declaration) → Pre xs (λ r. text_home h ((declared d).leaves (home_nesting h) r)) → (declared d).fits ≡ true → ok_home h → Reached xs (conclude h d)
conclude_reached xs (m.at_top ps) d p f ok = (pre_as xs _ _ (λ r. tops_snoc ps (external.Declared d) r) p, tops_fit ps (external.Declared d) ok f)
conclude_reached xs (m.at_block us) d p f ok = add_reached xs (tree_.Declared d) us (pre_as xs _ _ (λ r. ap (λ (s : Said). text_unders us (s.leaves (entry (inside us) s) r)) (told_declared d) ∙ ap (λ n. text_unders us ((declared d).leaves n r)) (declared_entry d (inside us))) p) (ap (λ (s : Said). s.fits) (told_declared d) ∙ f) ok.0 ok.1
conclude_reached xs (m.at_start at us) d p f ok = test_reached xs at (start.Declared d) us p (and_from _ _ f refl) ok

pub item_end_reached : (xs : Taken) (i : Naming) (z : Size) (v : Initialiser) → Pre xs (λ r. text_naming i (leaves_of (sized z) (home_nesting i.home) (leaves_of (initialised v) (home_nesting i.home) r))) → all_fit (sized z) ≡ true → all_fit (initialised v) ≡ true → ok_naming i → Reached xs (item_end i z v)
item_end_reached xs i z v p fz fv ok = (pre_as xs _ _ (item_text i z v) p, item_fits i z v ok.1 fz fv, ok.0)

-- ---- steps

module _ (xs : Taken) (t : Lexeme) where
  pub stepped_on : (s x : Sign) (a b : Next) → (s ≡ x → Stepped xs t a) → (same s x ≡ false → Stepped xs t b) → Stepped xs t (m.on s x a b)
  stepped_on s x a b h k = go (same s x) refl
    where
      go : (c : Bool) → same s x ≡ c → Stepped xs t (cond c a b)
      go true e = h (same_true the_type (search rules) s x e)
      go false e = k e

  pub stepped_if : (c : Bool) (a b : Next) → (c ≡ true → Stepped xs t a) → (c ≡ false → Stepped xs t b) → Stepped xs t (cond c a b)
  stepped_if true a b h k = h refl
  stepped_if false a b h k = k refl

  -- the word is this sign
  pub none_at : (f g : List Leaf → List Leaf) (s : Sign) (n : ℕ) → sign_of_word t.word ≡ s → same s sign.Other ≡ false → Pre xs f → ((r : List Leaf) → g r ≡ f (leaf (a_sign s) None n ∷ r)) → Pre (xs ++ (t, n) ∷ []) g
  none_at f g s n e o p h = pre_more xs f g t (a_sign s) None n (word_is t.word s e o) tt p h

  pub some_at : (f g : List Leaf → List Leaf) (s : Sign) (n : ℕ) → sign_of_word t.word ≡ s → same s sign.Other ≡ false → Pre xs f → ((r : List Leaf) → g r ≡ f (leaf (a_sign s) (Some t.at) n ∷ r)) → Pre (xs ++ (t, n) ∷ []) g
  some_at f g s n e o p h = pre_more xs f g t (a_sign s) (Some t.at) n (word_is t.word s e o) refl p h

  -- ---- operands

  prefix_reached : (s : Sign) (fs : List Frame) (u : Use) → sign_of_word t.word ≡ s → Pre xs (text_frames fs u) → ok_frames fs u → Stepped xs t (m.prefix t.at s fs u)
  prefix_reached sign.Plus fs u e p ok = (some_at _ (text_frames (m.unary t.at unary_.Plus ∷ fs) u) sign.Plus _ e refl p (λ r. refl), (refl, omega (arith, hole_max fs u), ok))
  prefix_reached sign.Minus fs u e p ok = (some_at _ (text_frames (m.unary t.at unary_.Minus ∷ fs) u) sign.Minus _ e refl p (λ r. refl), (refl, omega (arith, hole_max fs u), ok))
  prefix_reached sign.Tilde fs u e p ok = (some_at _ (text_frames (m.unary t.at unary_.Complement ∷ fs) u) sign.Tilde _ e refl p (λ r. refl), (refl, omega (arith, hole_max fs u), ok))
  prefix_reached sign.Exclamation fs u e p ok = (some_at _ (text_frames (m.unary t.at unary_.Not ∷ fs) u) sign.Exclamation _ e refl p (λ r. refl), (refl, omega (arith, hole_max fs u), ok))
  prefix_reached sign.Increment fs u e p ok = (some_at _ (text_frames (m.before t.at step_.Increment ∷ fs) u) sign.Increment _ e refl p (λ r. refl), (refl, omega (arith, hole_max fs u), ok))
  prefix_reached sign.Decrement fs u e p ok = (some_at _ (text_frames (m.before t.at step_.Decrement ∷ fs) u) sign.Decrement _ e refl p (λ r. refl), (refl, omega (arith, hole_max fs u), ok))
  prefix_reached sign.LeftParen fs u e p ok = (some_at _ _ sign.LeftParen _ e refl p (λ r. refl), ok)
  prefix_reached _ fs u e p ok = tt

  pub operand_reached : (w : Word) (fs : List Frame) (u : Use) → t.word ≡ w → Pre xs (text_frames fs u) → ok_frames fs u → Stepped xs t (m.on_operand t.at w fs u)
  operand_reached (a_name n) fs u e p ok = (pre_more xs _ _ t (a_name n) (Some t.at) _ e refl p (λ r. refl), ok)
  operand_reached (a_number v d k) fs u e p ok = (pre_more xs _ _ t (a_number v d k) (Some t.at) _ e refl p (λ r. lit (tree.Number t.at v d k) _ fs u r (said_number t.at v d k) (omega arith)), lit_ok _ _ fs u (said_number t.at v d k) (omega arith) refl ok)
  operand_reached (a_character v) fs u e p ok = (pre_more xs _ _ t (a_character v) (Some t.at) _ e refl p (λ r. lit (tree.Character t.at v) _ fs u r (said_character t.at v) (omega arith)), lit_ok _ _ fs u (said_character t.at v) (omega arith) refl ok)
  operand_reached (a_sign s) fs u e p ok = prefix_reached s fs u (ap sign_of_word e) p ok

  pub opened_reached : (at : At) (o : Option TypeWords) (fs : List Frame) (u : Use) → type_of (sign_of_word t.word) ≡ o → Pre xs (λ r. text_frames fs u (leaf (a_sign sign.LeftParen) (Some at) (first fs u) ∷ r)) → ok_frames fs u → Stepped xs t (m.on_opened at t.at t.word o fs u)
  opened_reached at None fs u e p ok = operand_reached t.word (m.paren at ∷ fs) u refl p (refl, omega (arith, hole_max fs u), ok)
  opened_reached at (Some ty) fs u e p ok = stepped_if (nat_le (hole fs u) 13) _ _ (λ h. (none_at _ _ (sign_of_word t.word) _ refl (type_no_other _ ty e) p (λ r. ap (λ ps. text_frames fs u (leaf (a_sign sign.LeftParen) (Some at) (first fs u) ∷ leaves_of ps (first fs u) r)) (type_sign _ ty e)), leb-true _ _ h, ok)) (λ h. tt)

  cast_fit : (ty : TypeWords) → all_fit (type ty ++ operator sign.RightParen ∷ []) ≡ true
  cast_fit words.Char = refl
  cast_fit _ = refl

  pub casting_reached : (at : At) (ty : TypeWords) (s : Sign) (o : Option TypeWords) (fs : List Frame) (u : Use) → sign_of_word t.word ≡ s → joined ty s ≡ o → Reached xs (casting at ty fs u) → Stepped xs t (m.on_casting at ty s o fs u)
  casting_reached at ty s (Some more) fs u e j p = (none_at _ _ s _ e (joined_sign ty s more j) p.0 (λ r. ap (λ l. text_frames fs u (leaf (a_sign sign.LeftParen) (Some at) (first fs u) ∷ l)) (type_snoc ty s more (first fs u) r j)), p.1, p.2)
  casting_reached at ty s None fs u e j p = stepped_on s sign.RightParen _ None (λ h. (none_at _ (text_frames (m.cast at ty ∷ fs) u) sign.RightParen _ (e ∙ h) refl p.0 (λ r. ap (λ l. text_frames fs u (leaf (a_sign sign.LeftParen) (Some at) (first fs u) ∷ l)) (type_then ty (operator sign.RightParen ∷ []) (first fs u) r)), (cast_fit ty, p.1, p.2))) (λ h. tt)

  -- ---- operators

  pushed_reached : (s : Sign) (o : Op) (e : Expr) (fs : List Frame) (u : Use) → sign_of_word t.word ≡ s → op_of s ≡ o → takes fs u o e ≡ true → Reached xs (have e fs u) → Stepped xs t (push o e fs u)
  pushed_reached s o e fs u w is tk p =
      let a = and_parts (is_op o) _ tk in
      let b = and_parts (nat_le (hole fs u) (own o)) _ a.1 in
      let so : s ≡ sign_by o = op_back s (ap is_op is ∙ a.0) ∙ ap sign_by is in
      go o (w ∙ so) (subst (λ x. same x sign.Other ≡ false) so (op_named s (ap is_op is ∙ a.0))) (leb-true _ _ b.0) (leb-true _ _ b.1)
    where
      go : (o : Op) → sign_of_word t.word ≡ sign_by o → same (sign_by o) sign.Other ≡ false → hole fs u ≤ own o → left o ≤ (about e).level → Stepped xs t (push o e fs u)
      go (m.joins o) w2 nm h l = (none_at _ (text_frames (m.binary e o ∷ fs) u) (binary_sign o) _ w2 nm p.0 (λ r. ap (λ n. text_frames fs u ((about e).leaves n (leaf (a_sign (binary_sign o)) None (first fs u + (about e).marks) ∷ r))) (sym (lead_first fs u (about e) (omega (arith, l, prec_low o))))), (and_from _ _ (stands_it (precedence o) (about e) l p.1.fits) refl, h, p.1.frames))
      go (m.assigns o) w2 nm h l = (none_at _ (text_frames (m.assign e o ∷ fs) u) (assign_sign o) _ w2 nm p.0 (λ r. ap (λ n. text_frames fs u ((about e).leaves n (leaf (a_sign (assign_sign o)) None (first fs u + (about e).marks) ∷ r))) (sym (lead_first fs u (about e) (omega (arith, l))))), (and_from _ _ (stands_it 14 (about e) l p.1.fits) refl, h, p.1.frames))
      go m.asks w2 nm h l = (none_at _ (text_frames (m.question e ∷ fs) u) sign.Question _ w2 nm p.0 (λ r. ap (λ n. text_frames fs u ((about e).leaves n (leaf (a_sign sign.Question) None (first fs u + (about e).marks) ∷ r))) (sym (lead_first fs u (about e) (omega (arith, l))))), (and_from _ _ (stands_it 3 (about e) l p.1.fits) refl, h, p.1.frames))
      go (m.steps o) w2 nm h l = (
        none_at _ (text_have (tree.After (place_of e) e o) fs u) (step_sign o) _ w2 nm p.0 (λ r. lit (tree.After (place_of e) e o) _ fs u r (said_after (place_of e) e o) (omega arith) ∙ ap (λ n. text_frames fs u ((about e).leaves n (leaf (a_sign (step_sign o)) None (first fs u + (about e).marks) ∷ r))) (sym (lead_first fs u (about e) (omega (arith, l))))),
        lit_ok (tree.After (place_of e) e o) _ fs u (said_after (place_of e) e o) (omega arith) (and_from _ _ (at_self e) (and_from _ _ (stands_it 15 (about e) l p.1.fits) refl)) p.1.frames,
      )
      go m.commas w2 nm h l = (none_at _ (text_frames (m.comma e ∷ fs) u) sign.Comma _ w2 nm p.0 (λ r. ap (λ b. text_frames fs u ((about e).leaves (cond b (entry (spot fs u) (about e)) (first fs u)) (leaf (a_sign sign.Comma) None (behind (spot fs u) (about e)) ∷ r))) (sym (hole_low fs u (omega (arith, h))))), (and_from _ _ p.1.fits refl, h, p.1.frames))
      go m.closes w2 nm h l = tt

  -- ---- the ends of objects

  pub head_fit : (at : At) (ty : TypeWords) (ps : List Part) → all_fit ps ≡ true → (begins_at at (type ty ++ ps) && all_fit (type ty ++ ps)) ≡ true
  head_fit at words.Char ps h = h
  head_fit at words.SignedChar ps h = h
  head_fit at words.CharSigned ps h = h
  head_fit at words.UnsignedChar ps h = h
  head_fit at words.CharUnsigned ps h = h
  head_fit at words.Int ps h = h
  head_fit at words.Signed ps h = h
  head_fit at words.SignedInt ps h = h
  head_fit at words.IntSigned ps h = h
  head_fit at words.Unsigned ps h = h
  head_fit at words.UnsignedInt ps h = h
  head_fit at words.IntUnsigned ps h = h

  objects_fit : (at : At) (ty : TypeWords) (is : List Item) → all_fit (some is ∷ commas piece (map declarator is)) ≡ true → (declared (declaration.Objects at ty is)).fits ≡ true
  objects_fit at ty is h = head_fit at ty _ (last is h)
    where
      last : (is : List Item) → all_fit (some is ∷ commas piece (map declarator is)) ≡ true → all_fit (some is ∷ (commas piece (map declarator is) ++ the_sign sign.Semicolon ∷ [])) ≡ true
      last [] h = absurd cc
      last (i ∷ is) h = fit_append (commas piece (map declarator (i ∷ is))) (the_sign sign.Semicolon ∷ []) h refl

  pub ended_reached : (at : At) (ty : TypeWords) (is : List Item) (h : Home) (s : Sign) → sign_of_word t.word ≡ s → Reached xs (m.item_ended at ty is h) → Stepped xs t (m.on_ended at ty is h s)
  ended_reached at ty [] h s e p = absurd (none p.1)
    where
      none : all_fit (some {A = Item} [] ∷ []) ≡ true → ⊥
      none x = absurd cc
  ended_reached at ty (i ∷ is) h sign.Comma e p = (none_at _ (λ r. text_type at ty h (leaves_of (trail object (i ∷ is)) (home_nesting h) r)) sign.Comma _ e refl p.0 (λ r. ap (λ l. text_type at ty h l) (comma_trail declarator i is (home_nesting h) r)), comma_trail_fit declarator i is p.1, p.2)
  ended_reached at ty (i ∷ is) h sign.Semicolon e p = conclude_reached (xs ++ (t, home_nesting h) ∷ []) h (declaration.Objects at ty (i ∷ is))
      (none_at _ (λ r. text_home h ((declared (declaration.Objects at ty (i ∷ is))).leaves (home_nesting h) r)) sign.Semicolon _ e refl p.0 (λ r. ap (λ l. text_home h l) (type_at_then at ty _ (home_nesting h) r ∙ ap (λ l. leaves_at at (type ty) (home_nesting h) l) (comma_pieces declarator (i ∷ is) (the_sign sign.Semicolon ∷ []) (home_nesting h) r))))
      (objects_fit at ty (i ∷ is) p.1) p.2
  ended_reached at ty (i ∷ is) h _ e p = tt

  pub item_end_step : (i : Naming) (z : Size) (v : Initialiser) (s : Sign) → sign_of_word t.word ≡ s → Pre xs (λ r. text_naming i (leaves_of (sized z) (home_nesting i.home) (leaves_of (initialised v) (home_nesting i.home) r))) → all_fit (sized z) ≡ true → all_fit (initialised v) ≡ true → ok_naming i → Stepped xs t (m.on_item_end i z v s)
  item_end_step i z v s e p fz fv ok = ended_reached i.at i.words (i.done ++ item_of i z v ∷ []) i.home s e (item_end_reached xs i z v p fz fv ok)

  -- ---- the ends of expressions

  -- the values of a list, and a comma
  value_after_reached : (n : ℕ) (i : Naming) (z : Size) (at : At) (es : List Expr) (e : Expr) → Pre (xs ++ (t, n) ∷ []) (text_use (m.list_ i z at (es ++ e ∷ []))) → ok_use (m.list_ i z at (es ++ e ∷ [])) → Reached (xs ++ (t, n) ∷ []) (value_after i z at (es ++ e ∷ []))
  value_after_reached n i z at es e p ok = (
    (λ q. item_end_reached (signed (xs ++ (t, n) ∷ []) sign.RightBrace _ q) i z (initialiser.List at (es ++ e ∷ []) true)
        (by_sign (xs ++ (t, n) ∷ []) (text_use (m.list_ i z at (es ++ e ∷ []))) _ sign.RightBrace _ q p (λ r. ap (λ l. text_naming i (leaves_of (sized z) (home_nesting i.home) l)) (listed_text es r))) ok.0 (listed_fit es ok.1) ok.2),
    (p, ok),
  )
    where
      listed_text : (es : List Expr) (r : List Leaf) → leaves_of (initialised (initialiser.List at (es ++ e ∷ []) true)) (home_nesting i.home) r
          ≡ leaf (a_sign sign.Assign) None (home_nesting i.home) ∷ leaf (a_sign sign.LeftBrace) (Some at) (home_nesting i.home) ∷ leaves_of (trail argument (es ++ e ∷ [])) (home_nesting i.home) (leaf (a_sign sign.RightBrace) None (home_nesting i.home) ∷ r)
      listed_text [] r = refl
      listed_text (x ∷ es) r = ap (λ l. leaf (a_sign sign.Assign) None (home_nesting i.home) ∷ leaf (a_sign sign.LeftBrace) (Some at) (home_nesting i.home) ∷ l) (values_trail x (es ++ e ∷ []) (the_sign sign.RightBrace ∷ []) (home_nesting i.home) r)

      listed_fit : (es : List Expr) → all_fit (trail argument (es ++ e ∷ [])) ≡ true → all_fit (initialised (initialiser.List at (es ++ e ∷ []) true)) ≡ true
      listed_fit [] h = h
      listed_fit (x ∷ es) h = values_fit x (es ++ e ∷ []) h

  last_value : (i : Naming) (z : Size) (at : At) (es : List Expr) (e : Expr) (r : List Leaf) → leaves_of (initialised (initialiser.List at (es ++ e ∷ []) false)) (home_nesting i.home) r
      ≡ leaf (a_sign sign.Assign) None (home_nesting i.home) ∷ leaf (a_sign sign.LeftBrace) (Some at) (home_nesting i.home) ∷ leaves_of (trail argument es) (home_nesting i.home) ((about e).leaves (suc (home_nesting i.home)) (leaf (a_sign sign.RightBrace) None (home_nesting i.home) ∷ r))
  last_value i z at es e r = some_list es ∙ ap (λ l. leaf (a_sign sign.Assign) None (home_nesting i.home) ∷ leaf (a_sign sign.LeftBrace) (Some at) (home_nesting i.home) ∷ l)
      (ap (λ ps. leaves_of ps (home_nesting i.home) r) (trail_last argument about assign (λ x. refl) es e (the_sign sign.RightBrace ∷ [])) ∙ trail_leaves about 1 es (argument e ∷ the_sign sign.RightBrace ∷ []) (home_nesting i.home) r)
    where
      some_list : (es : List Expr) → leaves_of (initialised (initialiser.List at (es ++ e ∷ []) false)) (home_nesting i.home) r ≡ leaf (a_sign sign.Assign) None (home_nesting i.home) ∷ leaf (a_sign sign.LeftBrace) (Some at) (home_nesting i.home) ∷ leaves_of (commas assign (map about (es ++ e ∷ [])) ++ the_sign sign.RightBrace ∷ []) (home_nesting i.home) r
      some_list [] = refl
      some_list (x ∷ es) = refl

  last_value_fit : (at : At) (es : List Expr) (e : Expr) → all_fit (trail argument es) ≡ true → stands 1 (about e) ≡ true → all_fit (initialised (initialiser.List at (es ++ e ∷ []) false)) ≡ true
  last_value_fit at es e h k = some_list es (ap all_fit (trail_last argument about assign (λ x. refl) es e (the_sign sign.RightBrace ∷ [])) ∙ fit_append (trail argument es) (argument e ∷ the_sign sign.RightBrace ∷ []) h (and_from _ _ k refl))
    where
      some_list : (es : List Expr) → all_fit (commas assign (map about (es ++ e ∷ [])) ++ the_sign sign.RightBrace ∷ []) ≡ true → all_fit (initialised (initialiser.List at (es ++ e ∷ []) false)) ≡ true
      some_list [] h = h
      some_list (x ∷ es) h = h

  for_value : (at : At) (us : List Under) (b : Start) (e : Expr) (r : List Leaf) → text_use (m.next_ at b (Some e) us) r ≡ for_text at us (started b) ((about e).leaves (entry (start_behind (suc (inside us)) b) (about e)) (leaf (a_sign sign.Semicolon) None (behind (start_behind (suc (inside us)) b) (about e)) ∷ r))
  for_value at us b e r = for_parts at us b _ r

  for_last : (at : At) (us : List Under) (b : Start) (x : Option Expr) (e : Expr) (r : List Leaf) → text_unders (m.in_for at b x (Some e) ∷ us) r
      ≡ text_use (m.next_ at b x us) ((about e).leaves (entry (maybe_behind (start_behind (suc (inside us)) b) x) (about e)) (leaf (a_sign sign.RightParen) None (behind (maybe_behind (start_behind (suc (inside us)) b) x) (about e)) ∷ r))
  for_last at us b x e r = for_parts at us b _ r ∙ ap (λ l. for_text at us (started b) l) (maybe_then x _ _ r) ∙ sym (for_parts at us b _ _ ∙ ap (λ l. for_text at us (started b) l) (maybe_then x _ _ _))

  use_reached : (u : Use) (e : Expr) (s : Sign) → sign_of_word t.word ≡ s → Reached xs (have e [] u) → Stepped xs t (close_use u e s)
  use_reached (m.evaluate us) e sign.Semicolon w p = (
    none_at _ (Stat_text (tree_.Evaluate (place_of e) (Some e)) us) sign.Semicolon _ w refl p.0 (λ r. ap (λ (s : Said). text_unders us (s.leaves (suc (inside us)) r)) (told_evaluate (place_of e) (Some e))),
    p.1.frames,
    ap (λ (s : Said). stands 2 s) (told_evaluate (place_of e) (Some e)) ∙ and_from _ _ (at_self e) (and_from _ _ p.1.fits refl),
  )
  use_reached (m.if_ at us) e sign.RightParen w p = (none_at _ (text_unders (m.in_if at e ∷ us)) sign.RightParen _ w refl p.0 (λ r. refl), (and_from _ _ p.1.fits refl, p.1.frames))
  use_reached (m.while_ at us) e sign.RightParen w p = (none_at _ (text_unders (m.in_while at e ∷ us)) sign.RightParen _ w refl p.0 (λ r. refl), (and_from _ _ p.1.fits refl, p.1.frames))
  use_reached (m.switch_ at us) e sign.RightParen w p = λ q. (
    by_sign (xs ++ (t, behind (suc (inside us)) (about e)) ∷ []) (λ r. text_unders us (leaves_at at (the_sign sign.Switch ∷ condition e []) (suc (inside us)) r)) (text_unders (m.in_switch at e [] ∷ us)) sign.LeftBrace _ q
        (none_at _ (λ r. text_unders us (leaves_at at (the_sign sign.Switch ∷ condition e []) (suc (inside us)) r)) sign.RightParen _ w refl p.0 (λ r. refl)) (λ r. refl),
    (and_from _ _ p.1.fits refl, refl, p.1.frames),
  )
  use_reached (m.start_ at us) e sign.Semicolon w p = test_reached (xs ++ (t, behind (suc (inside us)) (about e)) ∷ []) at (start.Value e) us (none_at _ (for_text at us (started (start.Value e))) sign.Semicolon _ w refl p.0 (λ r. refl)) (and_from _ _ p.1.fits refl) p.1.frames
  use_reached (m.return_ at us) e sign.Semicolon w p = (none_at _ (Stat_text (tree_.Return at (Some e)) us) sign.Semicolon _ w refl p.0 (λ r. ap (λ (s : Said). text_unders us (s.leaves (suc (inside us)) r)) (told_return at (Some e))), p.1.frames, ap (λ (s : Said). stands 2 s) (told_return at (Some e)) ∙ and_from _ _ p.1.fits refl)
  use_reached (m.case_ at us) e sign.Colon w p = (none_at _ (text_unders (m.in_case at e ∷ us)) sign.Colon _ w refl p.0 (λ r. refl), (and_from _ _ (stands_it 2 (about e) p.1.level p.1.fits) refl, p.1.frames))
  use_reached (m.do_ at x us) e sign.RightParen w p = λ q. (
    by_sign (xs ++ (t, behind (suc (inside us)) (about e)) ∷ []) (λ r. text_unders us (leaves_at at (the_sign sign.Do ∷ open_ 1 (about_statement x) ∷ the_sign sign.While ∷ condition e []) (suc (inside us)) r)) (Stat_text (tree_.DoWhile at x e) us) sign.Semicolon _ q
        (none_at _ _ sign.RightParen _ w refl p.0 (λ r. refl)) (λ r. ap (λ (s : Said). text_unders us (s.leaves (suc (inside us)) r)) (told_dowhile at x e)),
    p.1.frames.1,
    ap (λ (s : Said). stands 2 s) (told_dowhile at x e) ∙ and_from _ _ p.1.frames.0 (and_from _ _ p.1.fits refl),
  )
  use_reached (m.test_ at b us) e sign.Semicolon w p = next_reached (xs ++ (t, behind (start_behind (suc (inside us)) b) (about e)) ∷ []) at b (Some e) us (none_at _ (text_use (m.next_ at b (Some e) us)) sign.Semicolon _ w refl p.0 (for_value at us b e)) p.1.frames.0 (and_from _ _ p.1.fits refl) p.1.frames.1
  use_reached (m.next_ at b x us) e sign.RightParen w p = (none_at _ (text_unders (m.in_for at b x (Some e) ∷ us)) sign.RightParen _ w refl p.0 (for_last at us b x e), (fit_append (started b) _ p.1.frames.0 (fit_append (maybe x) _ p.1.frames.1 (and_from _ _ p.1.fits refl)), p.1.frames.2))
  use_reached (m.size_ i) e sign.RightBracket w p = (none_at _ (λ r. text_naming i (leaves_of (sized (size.Given e)) (home_nesting i.home) r)) sign.RightBracket _ w refl p.0 (λ r. refl), and_from _ _ (stands_it 2 (about e) p.1.level p.1.fits) refl, p.1.frames)
  use_reached (m.value_ i z) e s w p = item_end_step i z (initialiser.Value e) s w p.0 p.1.frames.0 (and_from _ _ (stands_it 1 (about e) p.1.level p.1.fits) refl) p.1.frames.1
  use_reached (m.list_ i z at es) e sign.Comma w p = value_after_reached (home_nesting i.home) i z at es e
      (none_at _ (text_use (m.list_ i z at (es ++ e ∷ []))) sign.Comma _ w refl p.0 (λ r. ap (λ l. text_naming i (leaves_of (sized z) (home_nesting i.home) (leaf (a_sign sign.Assign) None (home_nesting i.home) ∷ leaf (a_sign sign.LeftBrace) (Some at) (home_nesting i.home) ∷ l))) (ap (λ ps. leaves_of ps (home_nesting i.home) r) (sym (append-nil (trail argument (es ++ e ∷ []))) ∙ trail_snoc argument es e []) ∙ trail_leaves about 1 es (argument e ∷ the_sign sign.Comma ∷ []) (home_nesting i.home) r)))
      (p.1.frames.0, (ap all_fit (sym (append-nil (trail argument (es ++ e ∷ []))) ∙ trail_snoc argument es e []) ∙ fit_append (trail argument es) (argument e ∷ the_sign sign.Comma ∷ []) p.1.frames.1 (and_from _ _ (stands_it 1 (about e) p.1.level p.1.fits) refl)), p.1.frames.2)
  use_reached (m.list_ i z at es) e sign.RightBrace w p = item_end_reached (xs ++ (t, home_nesting i.home) ∷ []) i z (initialiser.List at (es ++ e ∷ []) false)
      (none_at _ (λ r. text_naming i (leaves_of (sized z) (home_nesting i.home) (leaves_of (initialised (initialiser.List at (es ++ e ∷ []) false)) (home_nesting i.home) r))) sign.RightBrace _ w refl p.0 (λ r. ap (λ l. text_naming i (leaves_of (sized z) (home_nesting i.home) l)) (last_value i z at es e r)))
      p.1.frames.0 (last_value_fit at es e p.1.frames.1 (stands_it 1 (about e) p.1.level p.1.fits)) p.1.frames.2
  use_reached _ e _ w p = tt

  -- ---- the next word behind an expression

  pub filled_reached : (f : Frame) (e : Expr) (fs : List Frame) (u : Use) → Reached xs (have e (f ∷ fs) u) → ((r : List Leaf) → ending f fs u e r ≡ r) → Reached xs (have (fill f e) fs u)
  filled_reached f e fs u p h = (pre_as xs _ _ (λ r. filled_text e f fs u r p.1 ∙ ap (λ l. text_have e (f ∷ fs) u l) (h r)) p.0, filled_ok e f fs u p.1)

  shut_reached : (f : Frame) (e : Expr) (fs : List Frame) (u : Use) (s : Sign) (more : Next) → sign_of_word t.word ≡ s → Reached xs (have e (f ∷ fs) u) → (Reached xs (have (fill f e) fs u) → Stepped xs t more) → Stepped xs t (shut f e fs u s more)
  shut_reached (m.unary at o) e fs u s more w p go = go (filled_reached (m.unary at o) e fs u p (λ r. refl))
  shut_reached (m.before at o) e fs u s more w p go = go (filled_reached (m.before at o) e fs u p (λ r. refl))
  shut_reached (m.cast at ty) e fs u s more w p go = go (filled_reached (m.cast at ty) e fs u p (λ r. refl))
  shut_reached (m.binary a o) e fs u s more w p go = go (filled_reached (m.binary a o) e fs u p (λ r. refl))
  shut_reached (m.assign a o) e fs u s more w p go = go (filled_reached (m.assign a o) e fs u p (λ r. refl))
  shut_reached (m.colon c a) e fs u s more w p go = go (filled_reached (m.colon c a) e fs u p (λ r. refl))
  shut_reached (m.comma a) e fs u s more w p go = go (filled_reached (m.comma a) e fs u p (λ r. refl))
  shut_reached (m.question c) e fs u s more w p go = stepped_on s sign.Colon _ None (λ h. (none_at _ (text_frames (m.colon c e ∷ fs) u) sign.Colon _ (w ∙ h) refl p.0 (λ r. refl), (and_from _ _ (and_parts _ _ p.1.frames.0).0 (and_from _ _ p.1.fits refl), p.1.frames.1, p.1.frames.2))) (λ h. tt)
  shut_reached (m.paren at) e fs u s more w p go = stepped_on s sign.RightParen _ None (λ h. (none_at _ (text_have (tree.Paren at e) fs u) sign.RightParen _ (w ∙ h) refl p.0 (λ r. filled_text e (m.paren at) fs u r p.1), filled_ok e (m.paren at) fs u p.1)) (λ h. tt)
  shut_reached (m.element at n) e fs u s more w p go = stepped_on s sign.RightBracket _ None (λ h. (none_at _ (text_have (tree.Element at n e) fs u) sign.RightBracket _ (w ∙ h) refl p.0 (λ r. filled_text e (m.element at n) fs u r p.1), filled_ok e (m.element at n) fs u p.1)) (λ h. tt)
  shut_reached (m.arguments at n es) e fs u s more w p go = stepped_on s sign.Comma _ _
      (λ h. (
        none_at _ (text_frames (m.arguments at n (es ++ e ∷ []) ∷ fs) u) sign.Comma _ (w ∙ h) refl p.0 (λ r. ap (λ l. text_frames fs u (leaf (a_name n) (Some at) (first fs u) ∷ leaf (a_sign sign.LeftParen) None (first fs u) ∷ l)) (ap (λ ps. leaves_of ps (first fs u) r) (sym (append-nil (trail argument (es ++ e ∷ []))) ∙ trail_snoc argument es e []) ∙ trail_leaves about 1 es (argument e ∷ the_sign sign.Comma ∷ []) (first fs u) r)),
        ((ap all_fit (sym (append-nil (trail argument (es ++ e ∷ []))) ∙ trail_snoc argument es e []) ∙ fit_append (trail argument es) (argument e ∷ the_sign sign.Comma ∷ []) p.1.frames.0 (and_from _ _ (stands_it 1 (about e) p.1.level p.1.fits) refl)), p.1.frames.1, p.1.frames.2),
      ))
      (λ g. stepped_on s sign.RightParen _ None (λ h. (none_at _ (text_have (tree.Call at n (es ++ e ∷ [])) fs u) sign.RightParen _ (w ∙ h) refl p.0 (λ r. filled_text e (m.arguments at n es) fs u r p.1), filled_ok e (m.arguments at n es) fs u p.1)) (λ h. tt))

  pub offer_reached : (fs : List Frame) (e : Expr) (u : Use) (s : Sign) → sign_of_word t.word ≡ s → Reached xs (have e fs u) → Stepped xs t (offer s e fs u)
  offer_reached [] e u s w p = stepped_if (takes [] u (op_of s) e) _ _ (λ h. pushed_reached s (op_of s) e [] u w refl h p) (λ h. use_reached u e s w p)
  offer_reached (f ∷ fs) e u s w p = stepped_if (takes (f ∷ fs) u (op_of s) e) _ _ (λ h. pushed_reached s (op_of s) e (f ∷ fs) u w refl h p) (λ h. shut_reached f e fs u s (offer s (fill f e) fs u) w p (λ q. offer_reached fs (fill f e) u s w q))

  pub named_reached : (at : At) (n : List ℕ) (fs : List Frame) (u : Use) (s : Sign) → sign_of_word t.word ≡ s → Reached xs (m.named at n fs u) → Stepped xs t (m.on_name at n fs u s)
  named_reached at n fs u sign.LeftParen w p =
      let q = none_at _ (text_frames (m.arguments at n [] ∷ fs) u) sign.LeftParen _ w refl p.0 (λ r. refl) in (
        (λ z. (by_sign _ (text_frames (m.arguments at n [] ∷ fs) u) (text_have (tree.Call at n []) fs u) sign.RightParen _ z q (λ r. lit (tree.Call at n []) _ fs u r (said_call at n []) (omega arith)), lit_ok (tree.Call at n []) _ fs u (said_call at n []) (omega arith) refl p.1)),
        (q, (refl, omega (arith, hole_max fs u), p.1)),
      )
  named_reached at n fs u sign.LeftBracket w p = (none_at _ (text_frames (m.element at n ∷ fs) u) sign.LeftBracket _ w refl p.0 (λ r. refl), (refl, omega (arith, hole_max fs u), p.1))
  named_reached at n fs u s w p = offer_reached fs (tree.Name at n) u s w (pre_as xs _ _ (λ r. lit (tree.Name at n) _ fs u r (said_name at n) (omega arith)) p.0, lit_ok (tree.Name at n) _ fs u (said_name at n) (omega arith) refl p.1)
