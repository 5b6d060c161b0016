-- Each step of the machine keeps that the words read so far are those of the parts that it holds.
use denote.Enum.Bare.{same_true}
use Rattle.c_grammar.specs.contracts.sign.Sign.{the_type}
use Rattle.std.proofs.Common.{rules, ◌≡◌, ℕ, suc, ◌≤◌, true, false, nat_le, ◌&&◌, List, [], ◌∷◌, ◌++◌, map, Option, Some, None, refl, sym, ap, subst, ◌∙◌, arith}
use Rattle.std.proofs.lemmas.Bool.{and_parts, leb-true, le-leb, and_from}
use Rattle.std.proofs.lemmas.List.{append-nil}
use Rattle.c_tree.specs.declared.token.At.{At}
use Rattle.c_tree.specs.declared.syntax.TypeWords.{TypeWords}
use Rattle.c_tree.specs.declared.syntax.Expr.{Expr}
use Rattle.c_tree.specs.declared.syntax.Size.{Size}
use Rattle.c_tree.specs.declared.syntax.Size.TheVariants as size
use Rattle.c_tree.specs.declared.syntax.Initialiser.TheVariants as initialiser
use Rattle.c_tree.specs.declared.syntax.Identifier.{Identifier}
use Rattle.c_tree.specs.declared.syntax.Item.{Item}
use Rattle.c_tree.specs.declared.syntax.Return.{Return}
use Rattle.c_tree.specs.declared.syntax.Return.TheVariants as gives
use Rattle.c_tree.specs.declared.syntax.Parameter.{Parameter}
use Rattle.c_tree.specs.declared.syntax.Parameters.{Parameters}
use Rattle.c_tree.specs.declared.syntax.Parameters.TheVariants as parameters
use Rattle.c_tree.specs.declared.syntax.Declaration.TheVariants as declaration
use Rattle.c_grammar.specs.declared.sign.Sign.{Sign}
use Rattle.c_grammar.specs.declared.sign.Sign.TheVariants as sign
use Rattle.c_grammar.specs.Words.{Word, a_name, a_number, a_character, a_sign, sign_of_word, Lexeme}
use Rattle.c_grammar.specs.Phrases.{begins_at, some, Leaf, leaf, Said, Part, stands, entry, behind, leaves_of, leaves_at, all_fit, open_, item, piece, commas, each, the_sign}
use Rattle.c_grammar.specs.Grammar.{sized, maybe_name, about, type, maybe, started, condition, statement_part, declared, about_statement, returned, listed, parameter, part}
use Rattle.c_tree.specs.declared.syntax.Start.{Start}
use Rattle.c_tree.specs.declared.syntax.Start.TheVariants as start
use Rattle.c_tree.specs.declared.syntax.Statement.{Statement}
use Rattle.c_tree.specs.declared.syntax.Statement.TheVariants as tree_
use Rattle.c_tree.specs.declared.syntax.External.{External}
use Rattle.c_tree.specs.declared.syntax.External.TheVariants as external
use Rattle.c_reading.specs.Parsers.{same}
use Rattle.c_parser.proofs.Asked.{type_of, joined}
use Rattle.c_parser.proofs.Machine as m
use Rattle.c_parser.proofs.Machine.{Frame, State, operand, have, named, opened, casting, want, got, Use, Under, Home, Naming, Heading, step, Next, goes, hole, opens, entered, spot, first, outer, use_hole, Op, op_of, own, left, is_op, takes, push, fill, shut, offer, close_use, close_block, is_block, inside, add, maybe_behind, start_behind, for_test, for_next, home_nesting, conclude, either, expect, item_of, item_end, value_after}
use Rattle.c_parser.proofs.Trees.{told_block, told_evaluate, told_if, told_if_else, told_while, told_for, told_switch, told_case, told_default, told_break, told_continue, told_return}
use Rattle.c_parser.proofs.Runs.{lex}
use Rattle.c_parser.proofs.Fill.{trail_last, fit_append, same_self, stands_it}
use Rattle.c_parser.proofs.Text.{trail, a_parameter, items, tops, text_unders, ok_items, ok_unders, text_home, ok_home, text_naming, text_heading, text_use}
use denote.Enum.Bare.{same_true}
use Rattle.c_grammar.specs.contracts.sign.Sign.{the_type}
use Rattle.std.proofs.Common.{rules}
use Rattle.c_parser.proofs.ExprRuns.{entry_open}
use Rattle.c_parser.proofs.Text.{begun_under}
use Rattle.c_parser.proofs.Reached.{Taken, Pre, pre_as, pre_more, word_is, joined_sign, type_sign, type_no_other, type_at_snoc, type_at_then, returned_then, trail_pieces, comma_pieces, each_items, tops_snoc, tops_fit, Stat_text, signed, text_header, Reached, Stepped}
use Rattle.c_parser.proofs.Steps.{comma_trail, comma_trail_fit, by_sign, test_reached, add_reached, conclude_reached, stepped_on, stepped_if, none_at, some_at, operand_reached, opened_reached, casting_reached, ended_reached, head_fit, item_end_step, offer_reached, named_reached}

for_filled : (b : Start) (x y : Option Expr) (a : Said) (n : ℕ) (r : List Leaf) → leaves_of (started b ++ (maybe x ++ the_sign sign.Semicolon ∷ (maybe y ++ the_sign sign.RightParen ∷ statement_part a ∷ []))) n r
    ≡ leaves_of (started b ++ (maybe x ++ the_sign sign.Semicolon ∷ (maybe y ++ the_sign sign.RightParen ∷ []))) n (a.leaves (suc (maybe_behind (maybe_behind (start_behind n b) x) y)) r)
for_filled start.Absent None None a n r = refl
for_filled start.Absent None (Some y) a n r = refl
for_filled start.Absent (Some x) None a n r = refl
for_filled start.Absent (Some x) (Some y) a n r = refl
for_filled (start.Value e) None None a n r = refl
for_filled (start.Value e) None (Some y) a n r = refl
for_filled (start.Value e) (Some x) None a n r = refl
for_filled (start.Value e) (Some x) (Some y) a n r = refl
for_filled (start.Declared d) None None a n r = refl
for_filled (start.Declared d) None (Some y) a n r = refl
for_filled (start.Declared d) (Some x) None a n r = refl
for_filled (start.Declared d) (Some x) (Some y) a n r = refl

tail_fit : (x y : Option Expr) (a : Said) → all_fit (maybe x ++ the_sign sign.Semicolon ∷ (maybe y ++ the_sign sign.RightParen ∷ [])) ≡ true → stands 1 a ≡ true → all_fit (maybe x ++ the_sign sign.Semicolon ∷ (maybe y ++ the_sign sign.RightParen ∷ statement_part a ∷ [])) ≡ true
tail_fit None None a h k = and_from _ _ k refl
tail_fit None (Some y) a h k = let p = and_parts (about y).fits _ h in and_from _ _ p.0 (and_from _ _ k refl)
tail_fit (Some x) None a h k = let p = and_parts (about x).fits _ h in and_from _ _ p.0 (and_from _ _ k refl)
tail_fit (Some x) (Some y) a h k = let p = and_parts (about x).fits _ h in let q = and_parts (about y).fits _ p.1 in and_from _ _ p.0 (and_from _ _ q.0 (and_from _ _ k refl))

for_fit : (b : Start) (x y : Option Expr) (a : Said) → all_fit (started b ++ (maybe x ++ the_sign sign.Semicolon ∷ (maybe y ++ the_sign sign.RightParen ∷ []))) ≡ true → stands 1 a ≡ true → all_fit (started b ++ (maybe x ++ the_sign sign.Semicolon ∷ (maybe y ++ the_sign sign.RightParen ∷ statement_part a ∷ []))) ≡ true
for_fit start.Absent x y a h k = tail_fit x y a h k
for_fit (start.Value e) x y a h k = let p = and_parts (about e).fits _ h in and_from _ _ p.0 (tail_fit x y a p.1 k)
for_fit (start.Declared d) x y a h k = let p = and_parts (declared d).fits _ h in and_from _ _ p.0 (tail_fit x y a p.1 k)

-- ---- a statement in what lacks one

-- a statement of at least the level, with what was read before it
pub record Filled (xs : Taken) (us : List Under) (k : ℕ) (x : Statement) : Type 0 where
  pub text : Pre xs (Stat_text x us)
  pub level : k ≤ (about_statement x).level
  pub fits : (about_statement x).fits ≡ true

stands_by : (xs : Taken) (us : List Under) (k : ℕ) (x : Statement) → Filled xs us k x → stands k (about_statement x) ≡ true
stands_by xs us k x f = and_from _ _ (le-leb k _ f.level) f.fits

weaker : (j k : ℕ) (S : Said) → k ≤ j → stands j S ≡ true → stands k S ≡ true
weaker j k S le h = let p = and_parts (nat_le j S.level) S.fits h in and_from _ _ (le-leb k _ (omega (arith, leb-true j _ p.0, le))) p.1

filled_by : (xs : Taken) (us vs : List Under) (x y : Statement) (S : Said) (k : ℕ) → about_statement y ≡ S → ((r : List Leaf) → text_unders us (S.leaves (suc (inside us)) r) ≡ Stat_text x vs r) → k ≤ S.level → S.fits ≡ true → Pre xs (Stat_text x vs) → Filled xs us k y
filled_by xs us vs x y S k is h l f p = record { text = pre_as xs _ _ (λ r. ap (λ (s : Said). text_unders us (s.leaves (suc (inside us)) r)) is ∙ h r) p; level = omega (arith, l, ap (λ (s : Said). s.level) is); fits = ap (λ (s : Said). s.fits) is ∙ f }

pub fill_while : (xs : Taken) (at : At) (e : Expr) (us : List Under) (x : Statement) (k : ℕ) → 1 ≤ k → all_fit (begun_under (m.in_while at e)) ≡ true → Filled xs (m.in_while at e ∷ us) k x → Filled xs us k (tree_.While at e x)
fill_while xs at e us x k one ok f = filled_by xs us (m.in_while at e ∷ us) x (tree_.While at e x) _ k (told_while at e x) (λ r. refl) f.level (and_from _ _ (and_parts _ _ ok).0 (and_from _ _ (stands_it 1 (about_statement x) (omega (arith, one, f.level)) f.fits) refl)) f.text

pub fill_case : (xs : Taken) (at : At) (e : Expr) (us : List Under) (x : Statement) (k : ℕ) → 1 ≤ k → all_fit (begun_under (m.in_case at e)) ≡ true → Filled xs (m.in_case at e ∷ us) k x → Filled xs us k (tree_.Case at e x)
fill_case xs at e us x k one ok f = filled_by xs us (m.in_case at e ∷ us) x (tree_.Case at e x) _ k (told_case at e x) (λ r. refl) f.level (and_from _ _ (and_parts _ _ ok).0 (and_from _ _ (stands_it 1 (about_statement x) (omega (arith, one, f.level)) f.fits) refl)) f.text

pub fill_default : (xs : Taken) (at : At) (us : List Under) (x : Statement) (k : ℕ) → 1 ≤ k → Filled xs (m.in_default at ∷ us) k x → Filled xs us k (tree_.Default at x)
fill_default xs at us x k one f = filled_by xs us (m.in_default at ∷ us) x (tree_.Default at x) _ k (told_default at x) (λ r. refl) f.level (and_from _ _ (stands_it 1 (about_statement x) (omega (arith, one, f.level)) f.fits) refl) f.text

pub fill_for : (xs : Taken) (at : At) (b : Start) (t n : Option Expr) (us : List Under) (x : Statement) (k : ℕ) → 1 ≤ k → all_fit (begun_under (m.in_for at b t n)) ≡ true → Filled xs (m.in_for at b t n ∷ us) k x → Filled xs us k (tree_.For at b t n x)
fill_for xs at b t n us x k one ok f = filled_by xs us (m.in_for at b t n ∷ us) x (tree_.For at b t n x) _ k (told_for at b t n x) (λ r. ap (λ l. text_unders us (leaf (a_sign sign.For) (Some at) (suc (inside us)) ∷ leaf (a_sign sign.LeftParen) None (suc (inside us)) ∷ l)) (for_filled b t n (about_statement x) (suc (inside us)) r)) f.level (for_fit b t n (about_statement x) ok (stands_it 1 (about_statement x) (omega (arith, one, f.level)) f.fits)) f.text

pub fill_if : (xs : Taken) (at : At) (e : Expr) (us : List Under) (x : Statement) → all_fit (begun_under (m.in_if at e)) ≡ true → Filled xs (m.in_if at e ∷ us) 1 x → Filled xs us 1 (tree_.If at e x None)
fill_if xs at e us x ok f = filled_by xs us (m.in_if at e ∷ us) x (tree_.If at e x None) _ 1 (told_if at e x) (λ r. refl) (omega arith) (and_from _ _ (and_parts _ _ ok).0 (and_from _ _ (stands_it 1 (about_statement x) f.level f.fits) refl)) f.text

pub fill_else : (xs : Taken) (at : At) (e : Expr) (a : Statement) (us : List Under) (x : Statement) (k : ℕ) → 1 ≤ k → all_fit (begun_under (m.in_else at e a)) ≡ true → Filled xs (m.in_else at e a ∷ us) k x → Filled xs us k (tree_.If at e a (Some x))
fill_else xs at e a us x k one ok f =
    let p = and_parts (about e).fits _ ok in let q = and_parts (stands 2 (about_statement a)) true p.1 in
    filled_by xs us (m.in_else at e a ∷ us) x (tree_.If at e a (Some x)) _ k (told_if_else at e a x) (λ r. refl) f.level (and_from _ _ p.0 (and_from _ _ q.0 (and_from _ _ (stands_it 1 (about_statement x) (omega (arith, one, f.level)) f.fits) refl))) f.text

block_entry : (us : List Under) (x : Statement) (r : List Leaf) → 1 ≤ (about_statement x).level → text_unders us ((about_statement x).leaves (entry (inside us) (about_statement x)) r) ≡ Stat_text x us r
block_entry us x r h = ap (λ n. text_unders us ((about_statement x).leaves n r)) (entry_open (inside us) (about_statement x) h)

pub filled_block : (xs : Taken) (us : List Under) (x : Statement) → is_block us ≡ true → ok_unders us → Filled xs us 1 x → Reached xs (want (add x us))
filled_block xs us x h ok f = add_reached xs x us (pre_as xs _ _ (λ r. block_entry us x r f.level) f.text) f.fits ok h

-- ---- steps

-- the word that is taken for a sign is that sign
is_word : (w : Word) (s : Sign) → m.is_sign w s ≡ true → w ≡ a_sign s
is_word (a_sign sign.End) s e = absurd cc
is_word (a_sign x) s e = ap a_sign (same_true the_type (search rules) x s e)
is_word (a_name n) s e = absurd cc
is_word (a_number v d u) s e = absurd cc
is_word (a_character v) s e = absurd cc

module _ (xs : Taken) (t : Lexeme) where
  stat_first : (us : List Under) (at : At) (s : Sign) → sign_of_word t.word ≡ s → same s sign.Other ≡ false → t.at ≡ at → Pre xs (text_unders us) → Pre (xs ++ (t, suc (inside us)) ∷ []) (λ r. text_unders us (leaf (a_sign s) (Some at) (suc (inside us)) ∷ r))
  stat_first us at s w o is p = some_at xs t (text_unders us) _ s _ w o p (λ r. ap (λ q. text_unders us (leaf (a_sign s) (Some q) (suc (inside us)) ∷ r)) (sym is))

  pub statement_reached : (s : Sign) (us : List Under) → sign_of_word t.word ≡ s → Pre xs (text_unders us) → ok_unders us → Stepped xs t (m.on_statement t.at t.word s us)
  statement_reached sign.LeftBrace us w p ok = (some_at xs t _ (text_unders (m.in_block t.at [] ∷ us)) sign.LeftBrace _ w refl p (λ r. refl), (refl, ok))
  statement_reached sign.Semicolon us w p ok = (some_at xs t _ (Stat_text (tree_.Evaluate t.at None) us) sign.Semicolon _ w refl p (λ r. ap (λ (s : Said). text_unders us (s.leaves (suc (inside us)) r)) (told_evaluate t.at None)), ok, ap (λ (s : Said). stands 2 s) (told_evaluate t.at None))
  statement_reached sign.If us w p ok = λ q. (by_sign _ _ (text_use (m.if_ t.at us)) sign.LeftParen _ q (stat_first us t.at sign.If w refl refl p) (λ r. refl), ok)
  statement_reached sign.While us w p ok = λ q. (by_sign _ _ (text_use (m.while_ t.at us)) sign.LeftParen _ q (stat_first us t.at sign.While w refl refl p) (λ r. refl), ok)
  statement_reached sign.Do us w p ok = (some_at xs t _ (text_unders (m.in_do t.at ∷ us)) sign.Do _ w refl p (λ r. refl), (refl, ok))
  statement_reached sign.For us w p ok = λ q. (by_sign _ _ (text_home (m.at_start t.at us)) sign.LeftParen _ q (stat_first us t.at sign.For w refl refl p) (λ r. refl), ok)
  statement_reached sign.Switch us w p ok = λ q. (by_sign _ _ (text_use (m.switch_ t.at us)) sign.LeftParen _ q (stat_first us t.at sign.Switch w refl refl p) (λ r. refl), ok)
  statement_reached sign.Case us w p ok = (some_at xs t _ (text_use (m.case_ t.at us)) sign.Case _ w refl p (λ r. refl), ok)
  statement_reached sign.Default us w p ok = λ q. (by_sign _ _ (text_unders (m.in_default t.at ∷ us)) sign.Colon _ q (stat_first us t.at sign.Default w refl refl p) (λ r. refl), (refl, ok))
  statement_reached sign.Break us w p ok = λ q. (by_sign _ _ (Stat_text (tree_.Break t.at) us) sign.Semicolon _ q (stat_first us t.at sign.Break w refl refl p) (λ r. ap (λ (s : Said). text_unders us (s.leaves (suc (inside us)) r)) (told_break t.at)), ok, ap (λ (s : Said). stands 2 s) (told_break t.at))
  statement_reached sign.Continue us w p ok = λ q. (by_sign _ _ (Stat_text (tree_.Continue t.at) us) sign.Semicolon _ q (stat_first us t.at sign.Continue w refl refl p) (λ r. ap (λ (s : Said). text_unders us (s.leaves (suc (inside us)) r)) (told_continue t.at)), ok, ap (λ (s : Said). stands 2 s) (told_continue t.at))
  statement_reached sign.Return us w p ok = ((λ q. (by_sign _ _ (Stat_text (tree_.Return t.at None) us) sign.Semicolon _ q (stat_first us t.at sign.Return w refl refl p) (λ r. ap (λ (s : Said). text_unders us (s.leaves (suc (inside us)) r)) (told_return t.at None)), ok, ap (λ (s : Said). stands 2 s) (told_return t.at None))), (stat_first us t.at sign.Return w refl refl p, ok))
  statement_reached s us w p ok = operand_reached xs t t.word [] (m.evaluate us) refl p ok

  declaration_reached : (s : Sign) (o : Option TypeWords) (h : Home) (other : Next) → sign_of_word t.word ≡ s → type_of s ≡ o → Pre xs (text_home h) → ok_home h → Stepped xs t other → Stepped xs t (m.on_declaration t.at s o h other)
  declaration_reached s (Some ty) h other w is p ok k = (some_at xs t _ (λ r. text_home h (leaves_at t.at (type ty) (home_nesting h) r)) s _ w (type_no_other s ty is) p (λ r. ap (λ ps. text_home h (leaves_at t.at ps (home_nesting h) r)) (type_sign s ty is)), ok)
  declaration_reached s None h other w is p ok k = stepped_on xs t s sign.Void _ other (λ e. (some_at xs t _ (λ r. text_home h (leaves_at t.at (returned gives.Void) (home_nesting h) r)) sign.Void _ (w ∙ e) refl p (λ r. refl), ok)) (λ e. k)

  heads_fit : (at : At) (g : Return) (ps : List Part) → all_fit ps ≡ true → (begins_at at (returned g ++ ps) && all_fit (returned g ++ ps)) ≡ true
  heads_fit at gives.Void ps h = h
  heads_fit at (gives.Value ty) ps h = head_fit xs t at ty ps h

  listed_then : (qs : Parameters) (ps : List Part) (n : ℕ) (r : List Leaf) → leaves_of (listed qs ++ ps) n r ≡ leaves_of (listed qs) n (leaves_of ps n r)
  listed_then parameters.Empty ps n r = refl
  listed_then parameters.Void ps n r = refl
  listed_then (parameters.List []) ps n r = refl
  listed_then (parameters.List (q ∷ qs)) ps n r = comma_pieces parameter (q ∷ qs) ps n r

  defined_text : (at : At) (g : Return) (n : Identifier) (qs : Parameters) (brace : At) (ss : List Statement) (r : List Leaf) → (part (external.Defined at g n qs brace ss)).leaves 0 r
      ≡ leaves_at at (returned g) 0 (leaf (a_name n.bytes) (Some n.at) 0 ∷ leaf (a_sign sign.LeftParen) None 0 ∷ leaves_of (listed qs) 0 (leaf (a_sign sign.RightParen) None 0 ∷ leaf (a_sign sign.LeftBrace) (Some brace) 1 ∷ leaves_of (each item (map about_statement ss)) 1 (leaf (a_sign sign.RightBrace) None 1 ∷ r)))
  defined_text at g n qs brace ss r = returned_then at g _ 0 r ∙ ap (λ l. leaves_at at (returned g) 0 (leaf (a_name n.bytes) (Some n.at) 0 ∷ leaf (a_sign sign.LeftParen) None 0 ∷ l)) (listed_then qs _ 0 r ∙ ap (λ l. leaves_of (listed qs) 0 (leaf (a_sign sign.RightParen) None 0 ∷ leaf (a_sign sign.LeftBrace) (Some brace) 1 ∷ l)) (each_items about_statement ss (the_sign sign.RightBrace ∷ []) 1 r))

  defined_fit : (at : At) (g : Return) (n : Identifier) (qs : Parameters) (brace : At) (ss : List Statement) → all_fit (listed qs) ≡ true → ok_items ss → (part (external.Defined at g n qs brace ss)).fits ≡ true
  defined_fit at g n qs brace ss h k = heads_fit at g _ (fit_append (listed qs) _ h (and_from _ _ (fit_append (items ss) (the_sign sign.RightBrace ∷ []) k refl) refl))

  pub close_reached : (us : List Under) → sign_of_word t.word ≡ sign.RightBrace → Pre xs (text_unders us) → ok_unders us → Stepped xs t (close_block us)
  close_reached [] w p ok = tt
  close_reached (m.in_block at ss ∷ us) w p ok = (
    none_at xs t _ (Stat_text (tree_.Block at ss) us) sign.RightBrace _ w refl p (λ r. ap (λ (s : Said). text_unders us (s.leaves (suc (inside us)) r)) (told_block at ss) ∙ ap (λ l. text_unders us (leaf (a_sign sign.LeftBrace) (Some at) (suc (suc (inside us))) ∷ l)) (each_items about_statement ss (the_sign sign.RightBrace ∷ []) (suc (suc (inside us))) r)),
    ok.1,
    ap (λ (s : Said). stands 2 s) (told_block at ss) ∙ and_from _ _ (same_self at) (and_from _ _ (fit_append (items ss) (the_sign sign.RightBrace ∷ []) ok.0 refl) refl),
  )
  close_reached (m.in_switch at e ss ∷ us) w p ok = (
    none_at xs t _ (Stat_text (tree_.Switch at e ss) us) sign.RightBrace _ w refl p (λ r. ap (λ (s : Said). text_unders us (s.leaves (suc (inside us)) r)) (told_switch at e ss) ∙ ap (λ l. text_unders us (leaves_at at (the_sign sign.Switch ∷ condition e []) (suc (inside us)) (leaf (a_sign sign.LeftBrace) None (suc (behind (suc (inside us)) (about e))) ∷ l))) (each_items about_statement ss (the_sign sign.RightBrace ∷ []) (suc (behind (suc (inside us)) (about e))) r)),
    ok.2,
    ap (λ (s : Said). stands 2 s) (told_switch at e ss) ∙ and_from _ _ (and_parts _ _ ok.0).0 (and_from _ _ (fit_append (items ss) (the_sign sign.RightBrace ∷ []) ok.1 refl) refl),
  )
  close_reached (m.in_body ps at g n qs brace ss ∷ us) w p ok = (none_at xs t _ (λ r. leaves_of (tops (ps ++ external.Defined at g n qs brace ss ∷ [])) 0 r) sign.RightBrace _ w refl p (λ r. tops_snoc ps (external.Defined at g n qs brace ss) r ∙ ap (λ l. leaves_of (tops ps) 0 l) (defined_text at g n qs brace ss r)), tops_fit ps (external.Defined at g n qs brace ss) ok.0 (defined_fit at g n qs brace ss ok.1 ok.2))
  close_reached (_ ∷ us) w p ok = tt

  -- an item of a block, or a statement
  item_reached : (us : List Under) (s : Sign) → sign_of_word t.word ≡ s → Pre xs (text_unders us) → ok_unders us → is_block us ≡ true → Stepped xs t (m.on_item t.at t.word s us)
  item_reached us s w p ok h = stepped_on xs t s sign.RightBrace _ _ (λ e. close_reached us (w ∙ e) p ok) (λ e. declaration_reached s (type_of s) (m.at_block us) _ w refl p (ok, h) (statement_reached s us w p ok))

  want_reached : (us : List Under) (s : Sign) → sign_of_word t.word ≡ s → Pre xs (text_unders us) → ok_unders us → Stepped xs t (m.on_want t.at t.word s us)
  want_reached us s w p ok = stepped_if xs t (is_block us) _ _ (λ h. item_reached us s w p ok h) (λ h. statement_reached s us w p ok)

  -- the level that a statement must have before this word
  abbrev before_word : Sign → ℕ
  before_word sign.Else = 2
  before_word s = 1

  low_word : (s : Sign) → 1 ≤ before_word s
  low_word sign.Else = omega arith
  low_word s = omega arith

  no_else : (s : Sign) → same s sign.Else ≡ false → before_word s ≡ 1
  no_else sign.Else h = absurd cc
  no_else s h = refl

  block_more : (us : List Under) (x : Statement) → is_block us ≡ true → is_block (add x us) ≡ true
  block_more [] x h = h
  block_more (m.in_block at ss ∷ us) x h = refl
  block_more (m.in_switch at e ss ∷ us) x h = refl
  block_more (m.in_body ps at r n qs brace ss ∷ us) x h = refl
  block_more (_ ∷ us) x h = absurd cc

  settled_block : (us : List Under) (x : Statement) (s : Sign) → sign_of_word t.word ≡ s → is_block us ≡ true → ok_unders us → Filled xs us (before_word s) x → Stepped xs t (m.on_item t.at t.word s (add x us))
  settled_block us x s w h ok f =
      let q = filled_block xs us x h ok (record { text = f.text; level = omega (arith, f.level, low_word s); fits = f.fits }) in
      item_reached (add x us) s w q.0 q.1 (block_more us x h)

  settled : (us : List Under) (x : Statement) (s : Sign) → sign_of_word t.word ≡ s → ok_unders us → Filled xs us (before_word s) x → Stepped xs t (m.settle t.at t.word s x us)
  settled [] x s w ok f = tt
  settled (m.in_if at e ∷ us) x s w ok f = stepped_on xs t s sign.Else _ _
      (λ h. (none_at xs t _ (text_unders (m.in_else at e x ∷ us)) sign.Else _ (w ∙ h) refl f.text (λ r. refl), (and_from _ _ (and_parts _ _ ok.0).0 (and_from _ _ (stands_it 2 (about_statement x) (omega (arith, f.level, ap before_word h)) f.fits) refl), ok.1)))
      (λ h. let g = fill_if xs at e us x ok.0 (record { text = f.text; level = omega (arith, f.level, low_word s); fits = f.fits }) in
      settled us (tree_.If at e x None) s w ok.1 (record { text = g.text; level = omega (arith, g.level, no_else s h); fits = g.fits }))
  settled (m.in_else at e a ∷ us) x s w ok f = settled us (tree_.If at e a (Some x)) s w ok.1 (fill_else xs at e a us x (before_word s) (low_word s) ok.0 f)
  settled (m.in_while at e ∷ us) x s w ok f = settled us (tree_.While at e x) s w ok.1 (fill_while xs at e us x (before_word s) (low_word s) ok.0 f)
  settled (m.in_for at b y n ∷ us) x s w ok f = settled us (tree_.For at b y n x) s w ok.1 (fill_for xs at b y n us x (before_word s) (low_word s) ok.0 f)
  settled (m.in_case at e ∷ us) x s w ok f = settled us (tree_.Case at e x) s w ok.1 (fill_case xs at e us x (before_word s) (low_word s) ok.0 f)
  settled (m.in_default at ∷ us) x s w ok f = settled us (tree_.Default at x) s w ok.1 (fill_default xs at us x (before_word s) (low_word s) f)
  settled (m.in_do at ∷ us) x s w ok f = stepped_on xs t s sign.While _ None
      (λ h. λ q. (by_sign _ (λ r. text_unders us (leaves_at at (the_sign sign.Do ∷ open_ 1 (about_statement x) ∷ the_sign sign.While ∷ []) (suc (inside us)) r)) (text_use (m.do_ at x us)) sign.LeftParen _ q (none_at xs t _ _ sign.While _ (w ∙ h) refl f.text (λ r. refl)) (λ r. refl), (stands_it 1 (about_statement x) (omega (arith, f.level, low_word s)) f.fits, ok.1)))
      (λ h. tt)
  settled (m.in_block at ss ∷ us) x s w ok f = settled_block (m.in_block at ss ∷ us) x s w refl ok f
  settled (m.in_switch at e ss ∷ us) x s w ok f = settled_block (m.in_switch at e ss ∷ us) x s w refl ok f
  settled (m.in_body ps at r n qs brace ss ∷ us) x s w ok f = settled_block (m.in_body ps at r n qs brace ss ∷ us) x s w refl ok f

  first_reached : (at : At) (us : List Under) (s : Sign) → sign_of_word t.word ≡ s → Reached xs (m.for_first at us) → Stepped xs t (m.on_first t.at t.word s at us)
  first_reached at us s w p = stepped_on xs t s sign.Semicolon _ _ (λ h. test_reached _ at start.Absent us (none_at xs t _ _ sign.Semicolon _ (w ∙ h) refl p.0 (λ r. refl)) refl p.1)
      (λ h. declaration_reached s (type_of s) (m.at_start at us) _ w refl p.0 p.1 (operand_reached xs t t.word [] (m.start_ at us) refl p.0 p.1))

  -- ---- declarations

  more_reached : (at : At) (g : Return) (w : Word) (o : Option TypeWords) (h : Home) → t.word ≡ w → m.more_words g (sign_of_word w) ≡ o → Reached xs (m.declaring at g h) → Stepped xs t (m.on_declaring t.at at g w o h)
  more_reached at gives.Void w (Some ty) h e j p = absurd cc
  more_reached at (gives.Value old) w (Some ty) h e j p = (none_at xs t _ (λ r. text_home h (leaves_at at (type ty) (home_nesting h) r)) (sign_of_word w) _ (ap sign_of_word e) (joined_sign old _ ty j) p.0 (λ r. ap (λ l. text_home h l) (type_at_snoc at old _ ty (home_nesting h) r j)), p.1)
  more_reached at g (a_name n) None h e j p = (pre_more xs _ _ t (a_name n) (Some t.at) _ e refl p.0 (λ r. refl), p.1)
  more_reached at g (a_number v d k) None h e j p = tt
  more_reached at g (a_character v) None h e j p = tt
  more_reached at g (a_sign x) None h e j p = tt

  sized_reached : (i : Naming) (z : Size) (s : Sign) → sign_of_word t.word ≡ s → Reached xs (m.item_sized i z) → Stepped xs t (m.on_sized i z s)
  sized_reached i z sign.Assign w p = (none_at xs t _ (text_use (m.value_ i z)) sign.Assign _ w refl p.0 (λ r. refl), (p.1, p.2))
  sized_reached i z s w p = item_end_step xs t i z initialiser.Absent s w p.0 p.1 refl p.2

  valued_reached : (i : Naming) (z : Size) → Reached xs (m.item_valued i z) → Stepped xs t (m.on_valued t.at t.word i z)
  valued_reached i z p = stepped_if xs t (m.is_sign t.word sign.LeftBrace) _ _
      (λ h. (pre_more xs _ (text_use (m.list_ i z t.at [])) t (a_sign sign.LeftBrace) (Some t.at) _ (is_word t.word sign.LeftBrace h) refl p.0 (λ r. refl), (p.1.0, refl, p.1.1)))
      (λ h. operand_reached xs t t.word [] (m.value_ i z) refl p.0 p.1)

  item_named_reached : (i : Naming) (s : Sign) → sign_of_word t.word ≡ s → Reached xs (m.item_named i) → Stepped xs t (m.on_named i s)
  item_named_reached i sign.LeftBracket w p =
      let q = none_at xs t _ (text_use (m.size_ i)) sign.LeftBracket _ w refl p.0 (λ r. refl) in
      ((λ y. (by_sign _ (text_use (m.size_ i)) (λ r. text_naming i (leaves_of (sized size.Absent) (home_nesting i.home) r)) sign.RightBracket _ y q (λ r. refl), refl, p.1)), (q, p.1))
  item_named_reached i s w p = sized_reached i size.Scalar s w (p.0, refl, p.1)

  declared_reached : (at : At) (g : Return) (n : Identifier) (h : Home) (s : Sign) → sign_of_word t.word ≡ s → Reached xs (m.declared at g n h) → Stepped xs t (m.on_declared at g n h s)
  declared_reached at g n h sign.LeftParen w p = (none_at xs t _ (text_heading (record { at = at; gives = g; name = n; home = h })) sign.LeftParen _ w refl p.0 (λ r. refl), p.1)
  declared_reached at gives.Void n h s w p = tt
  declared_reached at (gives.Value ty) n h s w p = item_named_reached (record { at = at; words = ty; done = []; home = h; name = n }) s w (p.0, (p.1, refl))

  next_item_reached : (w : Word) (at : At) (ty : TypeWords) (is : List Item) (h : Home) → t.word ≡ w → Reached xs (m.item_next at ty is h) → Stepped xs t (m.on_next t.at w at ty is h)
  next_item_reached (a_name n) at ty is h e p = (pre_more xs _ _ t (a_name n) (Some t.at) _ e refl p.0 (λ r. refl), (p.2, p.1))
  next_item_reached (a_number v d k) at ty is h e p = tt
  next_item_reached (a_character v) at ty is h e p = tt
  next_item_reached (a_sign x) at ty is h e p = tt

  -- ---- parameters

  parameter_reached : (s : Sign) (o : Option TypeWords) (k : Heading) (ps : List Parameter) → sign_of_word t.word ≡ s → type_of s ≡ o → Reached xs (m.parameter_next k ps) → Stepped xs t (m.on_parameter t.at o k ps)
  parameter_reached s None k ps w is p = tt
  parameter_reached s (Some ty) k ps w is p = (some_at xs t _ (λ r. text_heading k (leaves_of (trail a_parameter ps) (home_nesting k.home) (leaves_at t.at (type ty) (home_nesting k.home) r))) s _ w (type_no_other s ty is) p.0 (λ r. ap (λ q. text_heading k (leaves_of (trail a_parameter ps) (home_nesting k.home) (leaves_at t.at q (home_nesting k.home) r))) (type_sign s ty is)), p.1, p.2)

  pub parameters_reached : (k : Heading) (s : Sign) → sign_of_word t.word ≡ s → Reached xs (m.parameters_first k) → Stepped xs t (m.on_parameters t.at s k)
  parameters_reached k sign.RightParen w p = (none_at xs t _ (text_header k parameters.Empty) sign.RightParen _ w refl p.0 (λ r. refl), refl, p.1)
  parameters_reached k sign.Void w p = λ q. (by_sign _ (λ r. text_heading k (leaf (a_sign sign.Void) None (home_nesting k.home) ∷ r)) (text_header k parameters.Void) sign.RightParen _ q (none_at xs t _ _ sign.Void _ w refl p.0 (λ r. refl)) (λ r. refl), refl, p.1)
  parameters_reached k s w p = parameter_reached s (type_of s) k [] w refl (p.0, refl, p.1)

  parameter_end_reached : (k : Heading) (ps : List Parameter) (s : Sign) → sign_of_word t.word ≡ s → Reached xs (m.parameter_ended k ps) → Stepped xs t (m.on_parameter_end k ps s)
  parameter_end_reached k [] s w p = absurd (none p.1)
    where
      none : all_fit (some {A = Parameter} [] ∷ []) ≡ true → ⊥
      none x = absurd cc
  parameter_end_reached k (q ∷ ps) sign.Comma w p = (none_at xs t _ (λ r. text_heading k (leaves_of (trail a_parameter (q ∷ ps)) (home_nesting k.home) r)) sign.Comma _ w refl p.0 (λ r. ap (λ l. text_heading k l) (comma_trail parameter q ps (home_nesting k.home) r)), comma_trail_fit parameter q ps p.1, p.2)
  parameter_end_reached k (q ∷ ps) sign.RightParen w p = (none_at xs t _ (text_header k (parameters.List (q ∷ ps))) sign.RightParen _ w refl p.0 (λ r. refl), p.1, p.2)
  parameter_end_reached k (q ∷ ps) _ w p = tt

  abbrev parameter_by : At → TypeWords → Option Identifier → Parameter
  parameter_by q ty n = record { at = q; words = ty; name = n }

  parameter_text : (k : Heading) (ps : List Parameter) (q : At) (ty : TypeWords) (n : Option Identifier) (r : List Leaf) → text_heading k (leaves_of (commas piece (map parameter (ps ++ parameter_by q ty n ∷ []))) (home_nesting k.home) r)
      ≡ text_heading k (leaves_of (trail a_parameter ps) (home_nesting k.home) (leaves_at q (type ty) (home_nesting k.home) (leaves_of (maybe_name n) (home_nesting k.home) r)))
  parameter_text k ps q ty n r = ap (λ l. text_heading k l) (
      ap (λ qs. leaves_of qs (home_nesting k.home) r) (sym (append-nil (commas piece (map parameter (ps ++ parameter_by q ty n ∷ [])))) ∙ trail_last a_parameter parameter piece (λ x. refl) ps (parameter_by q ty n) [])
      ∙ trail_pieces parameter ps (a_parameter (parameter_by q ty n) ∷ []) (home_nesting k.home) r
      ∙ ap (λ l. leaves_of (trail a_parameter ps) (home_nesting k.home) l) (type_at_then q ty (maybe_name n) (home_nesting k.home) r))

  parameter_fits : (ps : List Parameter) (q : At) (ty : TypeWords) (n : Option Identifier) → all_fit (trail a_parameter ps) ≡ true → all_fit (some (ps ++ parameter_by q ty n ∷ []) ∷ commas piece (map parameter (ps ++ parameter_by q ty n ∷ []))) ≡ true
  parameter_fits ps q ty n h = any ps (ap all_fit (sym (append-nil (commas piece (map parameter (ps ++ parameter_by q ty n ∷ [])))) ∙ trail_last a_parameter parameter piece (λ x. refl) ps (parameter_by q ty n) []) ∙ fit_append (trail a_parameter ps) (a_parameter (parameter_by q ty n) ∷ []) h (and_from (parameter (parameter_by q ty n)).fits true (head_fit xs t q ty (maybe_name n) (name_fits n)) refl))
    where
      name_fits : (n : Option Identifier) → all_fit (maybe_name n) ≡ true
      name_fits None = refl
      name_fits (Some n) = refl

      any : (ps : List Parameter) → all_fit (commas piece (map parameter (ps ++ parameter_by q ty n ∷ []))) ≡ true → all_fit (some (ps ++ parameter_by q ty n ∷ []) ∷ commas piece (map parameter (ps ++ parameter_by q ty n ∷ []))) ≡ true
      any [] h = h
      any (x ∷ ps) h = h

  typed_reached : (w : Word) (o : Option TypeWords) (k : Heading) (ps : List Parameter) (q : At) (ty : TypeWords) → t.word ≡ w → joined ty (sign_of_word w) ≡ o → Reached xs (m.parameter_typed k ps q ty) → Stepped xs t (m.on_typed t.at w o k ps q ty)
  typed_reached w (Some more) k ps q ty e j p = (none_at xs t _ (λ r. text_heading k (leaves_of (trail a_parameter ps) (home_nesting k.home) (leaves_at q (type more) (home_nesting k.home) r))) (sign_of_word w) _ (ap sign_of_word e) (joined_sign ty _ more j) p.0 (λ r. ap (λ l. text_heading k (leaves_of (trail a_parameter ps) (home_nesting k.home) l)) (type_at_snoc q ty _ more (home_nesting k.home) r j)), p.1, p.2)
  typed_reached (a_name n) None k ps q ty e j p = (pre_more xs _ (λ r. text_heading k (leaves_of (commas piece (map parameter (ps ++ parameter_by q ty (Some (m.identifier t.at n)) ∷ []))) (home_nesting k.home) r)) t (a_name n) (Some t.at) _ e refl p.0 (λ r. parameter_text k ps q ty (Some (m.identifier t.at n)) r), parameter_fits ps q ty (Some (m.identifier t.at n)) p.1, p.2)
  typed_reached (a_number v d y) None k ps q ty e j p = parameter_end_reached k _ _ (ap sign_of_word e) (pre_as xs _ _ (parameter_text k ps q ty None) p.0, parameter_fits ps q ty None p.1, p.2)
  typed_reached (a_character v) None k ps q ty e j p = parameter_end_reached k _ _ (ap sign_of_word e) (pre_as xs _ _ (parameter_text k ps q ty None) p.0, parameter_fits ps q ty None p.1, p.2)
  typed_reached (a_sign x) None k ps q ty e j p = parameter_end_reached k _ _ (ap sign_of_word e) (pre_as xs _ _ (parameter_text k ps q ty None) p.0, parameter_fits ps q ty None p.1, p.2)

  function_text : (k : Heading) (qs : Parameters) (r : List Leaf) → text_home k.home ((declared (declaration.Function k.at k.gives k.name qs)).leaves (home_nesting k.home) r) ≡ text_header k qs (leaf (a_sign sign.Semicolon) None (home_nesting k.home) ∷ r)
  function_text k qs r = ap (λ l. text_home k.home l) (returned_then k.at k.gives _ _ r ∙ ap (λ l. leaves_at k.at (returned k.gives) (home_nesting k.home) (leaf (a_name k.name.bytes) (Some k.name.at) (home_nesting k.home) ∷ leaf (a_sign sign.LeftParen) None (home_nesting k.home) ∷ l)) (listed_then qs _ _ r))

  body_reached : (k : Heading) (qs : Parameters) (h : Home) → k.home ≡ h → sign_of_word t.word ≡ sign.LeftBrace → Reached xs (m.header k qs) → Stepped xs t (m.on_body t.at k qs h)
  body_reached k qs (m.at_top ps) e w p = (some_at xs t _ (text_unders (m.in_body ps k.at k.gives k.name qs t.at [] ∷ [])) sign.LeftBrace _ w refl p.0 (λ r. sym (ap (λ h. text_home h (leaves_at k.at (returned k.gives) (home_nesting h) (leaf (a_name k.name.bytes) (Some k.name.at) (home_nesting h) ∷ leaf (a_sign sign.LeftParen) None (home_nesting h) ∷ leaves_of (listed qs) (home_nesting h) (leaf (a_sign sign.RightParen) None (home_nesting h) ∷ leaf (a_sign sign.LeftBrace) (Some t.at) 1 ∷ r)))) e)), (subst (λ h. ok_home h) e p.2, p.1, refl))
  body_reached k qs (m.at_block us) e w p = tt
  body_reached k qs (m.at_start at us) e w p = tt

  pub header_reached : (k : Heading) (qs : Parameters) (s : Sign) → sign_of_word t.word ≡ s → Reached xs (m.header k qs) → Stepped xs t (m.on_header t.at k qs s)
  header_reached k qs sign.Semicolon w p = conclude_reached _ k.home (declaration.Function k.at k.gives k.name qs) (none_at xs t _ _ sign.Semicolon _ w refl p.0 (function_text k qs)) (heads_fit k.at k.gives _ (fit_append (listed qs) _ p.1 refl)) p.2
  header_reached k qs sign.LeftBrace w p = body_reached k qs k.home refl w p
  header_reached k qs _ w p = tt

  program_reached : (ps : List External) (s : Sign) → sign_of_word t.word ≡ s → Reached xs (m.program ps) → Stepped xs t (m.on_program t.at s ps)
  program_reached ps sign.Include w p = (some_at xs t _ (λ r. leaves_of (tops (ps ++ external.Include t.at ∷ [])) 0 r) sign.Include _ w refl p.0 (λ r. tops_snoc ps (external.Include t.at) r), tops_fit ps (external.Include t.at) p.1 refl)
  program_reached ps sign.End w p = (some_at xs t _ _ sign.End _ w refl p.0 (λ r. refl), p.1, (xs, t, refl, word_is t.word sign.End w refl))
  program_reached ps s w p = declaration_reached s (type_of s) (m.at_top ps) None w refl p.0 p.1 tt

  -- ---- each step

  word_max : (s : Sign) → before_word s ≤ 2
  word_max sign.Else = omega arith
  word_max s = omega arith

  -- the word that was expected
  expected : (s : Sign) (n : ℕ) (a : State) → m.is_sign t.word s ≡ true → ((p : At) → Reached (signed xs s n p) a) → Reached (xs ++ (t, n) ∷ []) a
  expected s n a h p = let same : lex (a_sign s) t.at ≡ t = λ i. record { word = sym (is_word t.word s h) i; at = t.at } in subst (λ l. Reached (xs ++ (l, n) ∷ []) a) same (p t.at)

  pub stepped : (s : State) → Reached xs s → Stepped xs t (step s t)
  stepped (operand fs u) p = operand_reached xs t t.word fs u refl p.0 p.1
  stepped (have e fs u) p = offer_reached xs t fs e u _ refl p
  stepped (named at n fs u) p = named_reached xs t at n fs u _ refl p
  stepped (opened at fs u) p = opened_reached xs t at _ fs u refl p.0 p.1
  stepped (casting at ty fs u) p = casting_reached xs t at ty _ _ fs u refl refl p
  stepped (expect s n a) p = stepped_if xs t (m.is_sign t.word s) (goes n a) None (λ h. expected s n a h p) (λ h. tt)
  stepped (either s n a b) p = stepped_if xs t (m.is_sign t.word s) (goes n a) (step b t) (λ h. expected s n a h p.0) (λ h. stepped b p.1)
  stepped (want us) p = want_reached us _ refl p.0 p.1
  stepped (got x us) p = settled us x _ refl p.1 (record { text = p.0; level = omega (arith, leb-true 2 (about_statement x).level (and_parts _ _ p.2).0, word_max (sign_of_word t.word)); fits = (and_parts (nat_le 2 (about_statement x).level) (about_statement x).fits p.2).1 })
  stepped (m.for_first at us) p = first_reached at us _ refl p
  stepped (m.declaring at g h) p = more_reached at g t.word _ h refl refl p
  stepped (m.declared at g n h) p = declared_reached at g n h _ refl p
  stepped (m.item_named i) p = item_named_reached i _ refl p
  stepped (m.item_sized i z) p = sized_reached i z _ refl p
  stepped (m.item_valued i z) p = valued_reached i z p
  stepped (m.item_ended at ty is h) p = ended_reached xs t at ty is h _ refl p
  stepped (m.item_next at ty is h) p = next_item_reached t.word at ty is h refl p
  stepped (m.parameters_first k) p = parameters_reached k _ refl p
  stepped (m.parameter_typed k ps q ty) p = typed_reached t.word _ k ps q ty refl refl p
  stepped (m.parameter_ended k ps) p = parameter_end_reached k ps _ refl p
  stepped (m.parameter_next k ps) p = parameter_reached _ _ k ps refl refl p
  stepped (m.header k qs) p = header_reached k qs _ refl p
  stepped (m.program ps) p = program_reached ps _ refl p
  stepped (m.finished q) p = tt
