-- What the machine has read in any state begins a program.
use Rattle.std.proofs.Common.{◌≡◌, ℕ, suc, ◌+◌, true, false, nat_le, List, [], ◌∷◌, ◌++◌, Option, Some, None, refl, ap, subst, ◌∙◌, append_assoc, arith}
use Rattle.std.proofs.lemmas.Bool.{and_parts, leb-true}
use Rattle.c_tree.specs.declared.token.At.{At}
use Rattle.c_tree.specs.declared.syntax.TypeWords.{TypeWords}
use Rattle.c_tree.specs.declared.syntax.TypeWords.TheVariants as words
use Rattle.c_tree.specs.declared.syntax.Expr.{Expr}
use Rattle.c_tree.specs.declared.syntax.Expr.TheVariants as tree
use Rattle.c_tree.specs.declared.syntax.Size.{Size}
use Rattle.c_tree.specs.declared.syntax.Size.TheVariants as size
use Rattle.c_tree.specs.declared.syntax.Initialiser.TheVariants as initialiser
use Rattle.c_tree.specs.declared.syntax.Identifier.{Identifier}
use Rattle.c_tree.specs.declared.syntax.Item.{Item}
use Rattle.c_tree.specs.declared.syntax.Return.{Return}
use Rattle.c_tree.specs.declared.syntax.Return.TheVariants as gives
use Rattle.c_tree.specs.declared.syntax.Parameter.{Parameter}
use Rattle.c_tree.specs.declared.syntax.Parameters.{Parameters}
use Rattle.c_tree.specs.declared.syntax.Parameters.TheVariants as parameters
use Rattle.c_tree.specs.declared.syntax.Declaration.{Declaration}
use Rattle.c_tree.specs.declared.syntax.Declaration.TheVariants as declaration
use Rattle.c_grammar.specs.declared.sign.Sign.{Sign}
use Rattle.c_grammar.specs.declared.sign.Sign.TheVariants as sign
use Rattle.c_grammar.specs.Words.{a_name, a_sign, Lexeme}
use Rattle.c_grammar.specs.Phrases.{Leaf, leaf, Said, behind, leaves_of, leaves_at, all_fit, open_, placed, the_sign}
use Rattle.c_grammar.specs.Grammar.{about, about_statement, part, program}
use Rattle.c_tree.specs.declared.syntax.Start.{Start}
use Rattle.c_tree.specs.declared.syntax.Start.TheVariants as start
use Rattle.c_tree.specs.declared.syntax.Statement.{Statement}
use Rattle.c_tree.specs.declared.syntax.Statement.TheVariants as tree_
use Rattle.c_tree.specs.declared.syntax.External.{External}
use Rattle.c_tree.specs.declared.syntax.External.TheVariants as external
use Rattle.c_tree.specs.declared.syntax.Syntax.{Syntax}
use Rattle.c_parser.proofs.Asked.{place_of}
use Rattle.c_parser.proofs.Machine as m
use Rattle.c_parser.proofs.Machine.{Frame, State, operand, have, named, opened, casting, want, got, Use, Under, Home, Naming, Heading, step, Next, goes, hole, opens, entered, spot, first, outer, use_hole, Op, op_of, own, left, is_op, takes, push, fill, shut, offer, close_use, close_block, is_block, inside, add, maybe_behind, start_behind, for_test, for_next, home_nesting, conclude, either, expect, item_of, item_end, value_after}
use Rattle.c_parser.proofs.Trees.{said_name, told_evaluate}
use Rattle.c_parser.proofs.Runs.{lex}
use Rattle.c_parser.proofs.DeclComplete.{joined_other, joined_close}
use Rattle.c_parser.proofs.Fill.{fit_append, stands_it}
use Rattle.c_parser.proofs.Text.{tops, text_unders, ok_unders, text_use}
use Rattle.c_parser.proofs.Reached.{Taken, pre_as, Stat_text, signed, Reached, Stepped}
use Rattle.c_parser.proofs.Steps.{hole_max, lit, lit_ok, by_sign, item_end_reached, none_at, some_at}
use Rattle.c_grammar.specs.Spelling.{leaves_of_program}
use Rattle.c_parser.proofs.Reached.{Spelt}
use Rattle.c_parser.proofs.Steps.{filled_reached}
use Rattle.c_parser.proofs.StatSteps.{Filled, fill_while, fill_case, fill_default, fill_for, fill_if, fill_else, filled_block, stepped}

-- words with their nesting begin a program
pub record Done (xs : Taken) : Type 0 where
  pub tree : Syntax
  pub leaves : List Leaf
  pub rest : List Leaf
  pub split : leaves_of_program tree ≡ leaves ++ rest
  pub spells : Spelt xs leaves
  pub fits : (program tree).fits ≡ true

-- fewer words do so too
spelt_front : (xs ys : Taken) (ls : List Leaf) → Spelt (xs ++ ys) ls → (front : List Leaf) × (back : List Leaf) × (ls ≡ front ++ back) × Spelt xs front
spelt_front [] ys ls h = ([], ls, refl, tt)
spelt_front (x ∷ xs) ys [] h = absurd h
spelt_front (x ∷ xs) ys (l ∷ ls) h = let k = spelt_front xs ys ls h.3 in (l ∷ k.0, k.1, ap (λ z. l ∷ z) k.2, (h.0, h.1, h.2, k.3))

pub fewer : (xs ys : Taken) → Done (xs ++ ys) → Done xs
fewer xs ys d = let k = spelt_front xs ys d.leaves d.spells in record { tree = d.tree; leaves = k.0; rest = k.1 ++ d.rest; split = d.split ∙ ap (λ l. l ++ d.rest) k.2 ∙ append_assoc k.0 k.1 d.rest; spells = k.3; fits = d.fits }

abbrev some_place : At
some_place = record { line = 1; column = 1 }

abbrev sign_token : Sign → Lexeme
sign_token s = lex (a_sign s) (record { line = 1; column = 1 })

abbrev no_name : Identifier
no_name = record { at = record { line = 1; column = 1 }; bytes = [] }

abbrev name_token : Lexeme
name_token = lex (a_name []) (record { line = 1; column = 1 })

abbrev pub end_leaf : At → Leaf
end_leaf at = leaf (a_sign sign.End) (Some at) 0

pub each_end : (ps : List External) (at : At) (r : List Leaf) → leaves_of (tops ps ++ placed at (a_sign sign.End) ∷ []) 0 r ≡ leaves_of (tops ps) 0 (end_leaf at ∷ r)
each_end ps at r = go ps
  where
    go : (ps : List External) → leaves_of (tops ps ++ placed at (a_sign sign.End) ∷ []) 0 r ≡ leaves_of (tops ps) 0 (end_leaf at ∷ r)
    go [] = refl
    go (x ∷ ps) = ap (λ l. (part x).leaves 0 l) (go ps)

pub end_fit : (ps : List External) (at : At) → all_fit (tops ps) ≡ true → all_fit (tops ps ++ placed at (a_sign sign.End) ∷ []) ≡ true
end_fit ps at h = fit_append (tops ps) (placed at (a_sign sign.End) ∷ []) h refl

done_program : (xs : Taken) (ps : List External) → Reached xs (m.program ps) → Done xs
done_program xs ps p = record {
  tree = record { parts = ps; end = some_place };
  leaves = p.0.leaves;
  rest = end_leaf some_place ∷ [];
  split = each_end ps some_place [] ∙ p.0.is (end_leaf some_place ∷ []);
  spells = p.0.spells;
  fits = end_fit ps some_place p.1;
}

done_finished : (xs : Taken) (a : Syntax) → Reached xs (m.finished a) → Done xs
done_finished xs a p = record { tree = a; leaves = p.0.leaves; rest = []; split = each_end a.parts a.end [] ∙ p.0.is []; spells = p.0.spells; fits = end_fit a.parts a.end p.1 }

-- one more word
next : (xs : Taken) (t : Lexeme) (s : State) → Reached xs s → Stepped xs t (step s t)
next xs t s p = stepped xs t s p

named_have : (xs : Taken) (at : At) (n : List ℕ) (fs : List Frame) (u : Use) → Reached xs (m.named at n fs u) → Reached xs (have (tree.Name at n) fs u)
named_have xs at n fs u p = (pre_as xs _ _ (λ r. lit (tree.Name at n) _ fs u r (said_name at n) (omega arith)) p.0, lit_ok (tree.Name at n) _ fs u (said_name at n) (omega arith) refl p.1)

operand_have : (xs : Taken) (fs : List Frame) (u : Use) → Reached xs (operand fs u) → Reached (xs ++ (name_token, first fs u) ∷ []) (have (tree.Name (record { line = 1; column = 1 }) []) fs u)
operand_have xs fs u p = named_have _ _ [] fs u (next xs name_token (operand fs u) p)

got_filled : (xs : Taken) (x : Statement) (us : List Under) → Reached xs (got x us) → Filled xs us 1 x
got_filled xs x us p = let q = and_parts (nat_le 2 (about_statement x).level) (about_statement x).fits p.2 in record { text = p.0; level = omega (arith, leb-true 2 (about_statement x).level q.0); fits = q.1 }

-- a statement that is full
done_filled : (us : List Under) (xs : Taken) (x : Statement) → ok_unders us → Filled xs us 1 x → Done xs
done_filled [] xs x ok f = absurd ok
done_filled (m.in_if at e ∷ us) xs x ok f = done_filled us xs _ ok.1 (fill_if xs at e us x ok.0 f)
done_filled (m.in_else at e a ∷ us) xs x ok f = done_filled us xs _ ok.1 (fill_else xs at e a us x 1 (omega arith) ok.0 f)
done_filled (m.in_while at e ∷ us) xs x ok f = done_filled us xs _ ok.1 (fill_while xs at e us x 1 (omega arith) ok.0 f)
done_filled (m.in_for at b y n ∷ us) xs x ok f = done_filled us xs _ ok.1 (fill_for xs at b y n us x 1 (omega arith) ok.0 f)
done_filled (m.in_case at e ∷ us) xs x ok f = done_filled us xs _ ok.1 (fill_case xs at e us x 1 (omega arith) ok.0 f)
done_filled (m.in_default at ∷ us) xs x ok f = done_filled us xs _ ok.1 (fill_default xs at us x 1 (omega arith) f)
done_filled (m.in_do at ∷ us) xs x ok f =
    let n = suc (inside us) in
    let p0 = none_at xs (sign_token sign.While) _ (λ r. text_unders us (leaves_at at (the_sign sign.Do ∷ open_ 1 (about_statement x) ∷ the_sign sign.While ∷ []) (suc (inside us)) r)) sign.While n refl refl f.text (λ r. refl) in
    let xs1 : Taken = xs ++ (sign_token sign.While, n) ∷ [] in
    let p1 : Reached (signed xs1 sign.LeftParen n at) (operand [] (m.do_ at x us)) = (by_sign xs1 _ (text_use (m.do_ at x us)) sign.LeftParen n at p0 (λ r. refl), (stands_it 1 (about_statement x) f.level f.fits, ok.1)) in
    let xs2 : Taken = signed xs1 sign.LeftParen n at in
    let p2 = operand_have xs2 [] (m.do_ at x us) p1 in
    let xs3 : Taken = xs2 ++ (name_token, first [] (m.do_ at x us)) ∷ [] in
    let e : Expr = tree.Name (record { line = 1; column = 1 }) [] in
    let b = behind (suc (inside us)) (about e) in
    let p3 : (q : At) → Reached (signed (xs3 ++ (sign_token sign.RightParen, b) ∷ []) sign.Semicolon b q) (got (tree_.DoWhile at x e) us) = next xs3 (sign_token sign.RightParen) (have e [] (m.do_ at x us)) p2 in
    let xs4 : Taken = signed (xs3 ++ (sign_token sign.RightParen, b) ∷ []) sign.Semicolon b at in
    fewer xs _ (fewer xs1 _ (fewer xs2 _ (fewer xs3 _ (fewer (xs3 ++ (sign_token sign.RightParen, b) ∷ []) _ (done_filled us xs4 (tree_.DoWhile at x e) ok.1 (got_filled xs4 _ us (p3 at)))))))
done_filled (m.in_block at ss ∷ us) xs x ok f =
    let t : Lexeme × ℕ = (sign_token sign.RightBrace, suc (suc (inside us))) in
    let p : Reached (xs ++ t ∷ []) (got (tree_.Block at (ss ++ x ∷ [])) us) = next xs (sign_token sign.RightBrace) (want (add x (m.in_block at ss ∷ us))) (filled_block xs (m.in_block at ss ∷ us) x refl ok f) in
    fewer xs (t ∷ []) (done_filled us (xs ++ t ∷ []) (tree_.Block at (ss ++ x ∷ [])) ok.1 (got_filled (xs ++ t ∷ []) (tree_.Block at (ss ++ x ∷ [])) us p))
done_filled (m.in_switch at e ss ∷ us) xs x ok f =
    let t : Lexeme × ℕ = (sign_token sign.RightBrace, suc (behind (suc (inside us)) (about e))) in
    let p : Reached (xs ++ t ∷ []) (got (tree_.Switch at e (ss ++ x ∷ [])) us) = next xs (sign_token sign.RightBrace) (want (add x (m.in_switch at e ss ∷ us))) (filled_block xs (m.in_switch at e ss ∷ us) x refl ok f) in
    fewer xs (t ∷ []) (done_filled us (xs ++ t ∷ []) (tree_.Switch at e (ss ++ x ∷ [])) ok.2 (got_filled (xs ++ t ∷ []) (tree_.Switch at e (ss ++ x ∷ [])) us p))
done_filled (m.in_body ps at g n qs brace ss ∷ us) xs x ok f =
    let t : Lexeme × ℕ = (sign_token sign.RightBrace, 1) in
    let qss : List External = ps ++ external.Defined at g n qs brace (ss ++ x ∷ []) ∷ [] in
    let p : Reached (xs ++ t ∷ []) (m.program qss) = next xs (sign_token sign.RightBrace) (want (add x (m.in_body ps at g n qs brace ss ∷ us))) (filled_block xs (m.in_body ps at g n qs brace ss ∷ us) x refl ok f) in
    fewer xs (t ∷ []) (done_program (xs ++ t ∷ []) qss p)

done_got : (xs : Taken) (x : Statement) (us : List Under) → Reached xs (got x us) → Done xs
done_got xs x us p = done_filled us xs x p.1 (got_filled xs x us p)

-- where a statement is wanted
done_want : (xs : Taken) (us : List Under) → Reached xs (want us) → Done xs
done_want xs us p = fewer xs ((sign_token sign.Semicolon, suc (inside us)) ∷ []) (done_filled us _ (tree_.Evaluate (record { line = 1; column = 1 }) None) p.1 (record {
  text = some_at xs (sign_token sign.Semicolon) _ (Stat_text (tree_.Evaluate (record { line = 1; column = 1 }) None) us) sign.Semicolon _ refl refl p.0 (λ r. ap (λ (s : Said). text_unders us (s.leaves (suc (inside us)) r)) (told_evaluate (record { line = 1; column = 1 }) None));
  level = omega (arith, ap (λ (s : Said). s.level) (told_evaluate (record { line = 1; column = 1 }) None));
  fits = ap (λ (s : Said). s.fits) (told_evaluate (record { line = 1; column = 1 }) None);
}))

-- the header of a for
done_next : (xs : Taken) (at : At) (b : Start) (y : Option Expr) (us : List Under) → Reached xs (for_next at b y us) → Done xs
done_next xs at b y us p = let n = maybe_behind (start_behind (suc (inside us)) b) y in fewer xs ((lex (a_sign sign.RightParen) at, n) ∷ []) (done_want (signed xs sign.RightParen n at) (m.in_for at b y None ∷ us) (p.0 at))

done_test : (xs : Taken) (at : At) (b : Start) (us : List Under) → Reached xs (for_test at b us) → Done xs
done_test xs at b us p = let n = start_behind (suc (inside us)) b in fewer xs ((lex (a_sign sign.Semicolon) at, n) ∷ []) (done_next (signed xs sign.Semicolon n at) at b None us (p.0 at))

done_conclude : (xs : Taken) (h : Home) (d : Declaration) → Reached xs (conclude h d) → Done xs
done_conclude xs (m.at_top ps) d p = done_program xs (ps ++ external.Declared d ∷ []) p
done_conclude xs (m.at_block us) d p = done_want xs (add (tree_.Declared d) us) p
done_conclude xs (m.at_start at us) d p = done_test xs at (start.Declared d) us p

done_ended : (xs : Taken) (at : At) (ty : TypeWords) (is : List Item) (h : Home) → Reached xs (m.item_ended at ty is h) → Done xs
done_ended xs at ty is h p = fewer xs ((sign_token sign.Semicolon, home_nesting h) ∷ []) (done_conclude (xs ++ (sign_token sign.Semicolon, home_nesting h) ∷ []) h (declaration.Objects at ty is) (next xs (sign_token sign.Semicolon) (m.item_ended at ty is h) p))

done_header : (xs : Taken) (k : Heading) (qs : Parameters) → Reached xs (m.header k qs) → Done xs
done_header xs k qs p = fewer xs ((sign_token sign.Semicolon, home_nesting k.home) ∷ []) (done_conclude (xs ++ (sign_token sign.Semicolon, home_nesting k.home) ∷ []) k.home (declaration.Function k.at k.gives k.name qs) (next xs (sign_token sign.Semicolon) (m.header k qs) p))

done_parameters : (xs : Taken) (k : Heading) → Reached xs (m.parameters_first k) → Done xs
done_parameters xs k p = fewer xs ((sign_token sign.RightParen, home_nesting k.home) ∷ []) (done_header (xs ++ (sign_token sign.RightParen, home_nesting k.home) ∷ []) k parameters.Empty (next xs (sign_token sign.RightParen) (m.parameters_first k) p))

done_parameter_end : (xs : Taken) (k : Heading) (ps : List Parameter) → Reached xs (m.parameter_ended k ps) → Done xs
done_parameter_end xs k ps p = fewer xs ((sign_token sign.RightParen, home_nesting k.home) ∷ []) (done_header (xs ++ (sign_token sign.RightParen, home_nesting k.home) ∷ []) k (parameters.List ps) (next xs (sign_token sign.RightParen) (m.parameter_ended k ps) p))

done_parameter : (xs : Taken) (k : Heading) (ps : List Parameter) (at : At) (ty : TypeWords) → Reached xs (m.parameter_typed k ps at ty) → Done xs
done_parameter xs k ps at ty p =
    let qs : List Parameter = ps ++ record { at = at; words = ty; name = Some no_name } ∷ [] in
    fewer xs ((name_token, home_nesting k.home) ∷ []) (done_parameter_end (xs ++ (name_token, home_nesting k.home) ∷ []) k qs (subst (λ y. Stepped xs name_token (m.on_typed (record { line = 1; column = 1 }) (a_name []) y k ps at ty)) (joined_other ty) (next xs name_token (m.parameter_typed k ps at ty) p)))

done_parameter_next : (xs : Taken) (k : Heading) (ps : List Parameter) → Reached xs (m.parameter_next k ps) → Done xs
done_parameter_next xs k ps p = fewer xs ((sign_token sign.Int, home_nesting k.home) ∷ []) (done_parameter (xs ++ (sign_token sign.Int, home_nesting k.home) ∷ []) k ps (record { line = 1; column = 1 }) words.Int (next xs (sign_token sign.Int) (m.parameter_next k ps) p))

done_declared : (xs : Taken) (at : At) (g : Return) (n : Identifier) (h : Home) → Reached xs (m.declared at g n h) → Done xs
done_declared xs at g n h p = fewer xs ((sign_token sign.LeftParen, home_nesting h) ∷ []) (done_parameters (xs ++ (sign_token sign.LeftParen, home_nesting h) ∷ []) (record { at = at; gives = g; name = n; home = h }) (next xs (sign_token sign.LeftParen) (m.declared at g n h) p))

done_declaring : (xs : Taken) (at : At) (g : Return) (h : Home) → Reached xs (m.declaring at g h) → Done xs
done_declaring xs at g h p = fewer xs ((name_token, home_nesting h) ∷ []) (done_declared (xs ++ (name_token, home_nesting h) ∷ []) at g no_name h (subst (λ y. Stepped xs name_token (m.on_declaring (record { line = 1; column = 1 }) at g (a_name []) y h)) (no_more g) (next xs name_token (m.declaring at g h) p)))
  where
    no_more : (g : Return) → m.more_words g sign.Other ≡ None
    no_more gives.Void = refl
    no_more (gives.Value ty) = joined_other ty

done_sized : (xs : Taken) (i : Naming) (z : Size) → Reached xs (m.item_sized i z) → Done xs
done_sized xs i z p = done_ended xs i.at i.words (i.done ++ item_of i z initialiser.Absent ∷ []) i.home (item_end_reached xs i z initialiser.Absent p.0 p.1 refl p.2)

done_named : (xs : Taken) (i : Naming) → Reached xs (m.item_named i) → Done xs
done_named xs i p = done_sized xs i size.Scalar (p.0, refl, p.1)

done_next_item : (xs : Taken) (at : At) (ty : TypeWords) (is : List Item) (h : Home) → Reached xs (m.item_next at ty is h) → Done xs
done_next_item xs at ty is h p = fewer xs ((name_token, home_nesting h) ∷ []) (done_named (xs ++ (name_token, home_nesting h) ∷ []) (record { at = at; words = ty; done = is; home = h; name = no_name }) (next xs name_token (m.item_next at ty is h) p))

-- an expression that is read for a use
done_use : (u : Use) (xs : Taken) (e : Expr) → Reached xs (have e [] u) → Done xs
done_use (m.evaluate us) xs e p = let t : Lexeme × ℕ = (sign_token sign.Semicolon, behind (suc (inside us)) (about e)) in fewer xs (t ∷ []) (done_got (xs ++ t ∷ []) (tree_.Evaluate (place_of e) (Some e)) us (next xs t.0 (have e [] (m.evaluate us)) p))
done_use (m.if_ at us) xs e p = let t : Lexeme × ℕ = (sign_token sign.RightParen, behind (suc (inside us)) (about e)) in fewer xs (t ∷ []) (done_want (xs ++ t ∷ []) (m.in_if at e ∷ us) (next xs t.0 (have e [] (m.if_ at us)) p))
done_use (m.while_ at us) xs e p = let t : Lexeme × ℕ = (sign_token sign.RightParen, behind (suc (inside us)) (about e)) in fewer xs (t ∷ []) (done_want (xs ++ t ∷ []) (m.in_while at e ∷ us) (next xs t.0 (have e [] (m.while_ at us)) p))
done_use (m.switch_ at us) xs e p =
    let n = behind (suc (inside us)) (about e) in
    let t : Lexeme × ℕ = (sign_token sign.RightParen, n) in
    let q : (y : At) → Reached (signed (xs ++ t ∷ []) sign.LeftBrace (suc n) y) (want (m.in_switch at e [] ∷ us)) = next xs t.0 (have e [] (m.switch_ at us)) p in
    fewer xs (t ∷ []) (fewer (xs ++ t ∷ []) ((lex (a_sign sign.LeftBrace) at, suc n) ∷ []) (done_want (signed (xs ++ t ∷ []) sign.LeftBrace (suc n) at) (m.in_switch at e [] ∷ us) (q at)))
done_use (m.start_ at us) xs e p = let t : Lexeme × ℕ = (sign_token sign.Semicolon, behind (suc (inside us)) (about e)) in fewer xs (t ∷ []) (done_test (xs ++ t ∷ []) at (start.Value e) us (next xs t.0 (have e [] (m.start_ at us)) p))
done_use (m.return_ at us) xs e p = let t : Lexeme × ℕ = (sign_token sign.Semicolon, behind (suc (inside us)) (about e)) in fewer xs (t ∷ []) (done_got (xs ++ t ∷ []) (tree_.Return at (Some e)) us (next xs t.0 (have e [] (m.return_ at us)) p))
done_use (m.case_ at us) xs e p = let t : Lexeme × ℕ = (sign_token sign.Colon, suc (inside us)) in fewer xs (t ∷ []) (done_want (xs ++ t ∷ []) (m.in_case at e ∷ us) (next xs t.0 (have e [] (m.case_ at us)) p))
done_use (m.do_ at x us) xs e p =
    let n = behind (suc (inside us)) (about e) in
    let t : Lexeme × ℕ = (sign_token sign.RightParen, n) in
    let q : (y : At) → Reached (signed (xs ++ t ∷ []) sign.Semicolon n y) (got (tree_.DoWhile at x e) us) = next xs t.0 (have e [] (m.do_ at x us)) p in
    fewer xs (t ∷ []) (fewer (xs ++ t ∷ []) ((lex (a_sign sign.Semicolon) at, n) ∷ []) (done_got (signed (xs ++ t ∷ []) sign.Semicolon n at) (tree_.DoWhile at x e) us (q at)))
done_use (m.test_ at b us) xs e p = let t : Lexeme × ℕ = (sign_token sign.Semicolon, behind (start_behind (suc (inside us)) b) (about e)) in fewer xs (t ∷ []) (done_next (xs ++ t ∷ []) at b (Some e) us (next xs t.0 (have e [] (m.test_ at b us)) p))
done_use (m.next_ at b y us) xs e p = let t : Lexeme × ℕ = (sign_token sign.RightParen, behind (maybe_behind (start_behind (suc (inside us)) b) y) (about e)) in fewer xs (t ∷ []) (done_want (xs ++ t ∷ []) (m.in_for at b y (Some e) ∷ us) (next xs t.0 (have e [] (m.next_ at b y us)) p))
done_use (m.size_ i) xs e p = let t : Lexeme × ℕ = (sign_token sign.RightBracket, home_nesting i.home) in fewer xs (t ∷ []) (done_sized (xs ++ t ∷ []) i (size.Given e) (next xs t.0 (have e [] (m.size_ i)) p))
done_use (m.value_ i z) xs e p = let t : Lexeme × ℕ = (sign_token sign.Semicolon, home_nesting i.home) in fewer xs (t ∷ []) (done_conclude (xs ++ t ∷ []) i.home (declaration.Objects i.at i.words (i.done ++ item_of i z (initialiser.Value e) ∷ [])) (next xs t.0 (have e [] (m.value_ i z)) p))
done_use (m.list_ i z at es) xs e p = let t : Lexeme × ℕ = (sign_token sign.RightBrace, home_nesting i.home) in fewer xs (t ∷ []) (done_ended (xs ++ t ∷ []) i.at i.words (i.done ++ item_of i z (initialiser.List at (es ++ e ∷ []) false) ∷ []) i.home (next xs t.0 (have e [] (m.list_ i z at es)) p))

-- an expression in what lacks one
done_have : (fs : List Frame) (u : Use) (xs : Taken) (e : Expr) → Reached xs (have e fs u) → Done xs
done_have [] u xs e p = done_use u xs e p
done_have (m.unary at o ∷ fs) u xs e p = done_have fs u xs (fill (m.unary at o) e) (filled_reached xs name_token (m.unary at o) e fs u p (λ r. refl))
done_have (m.before at o ∷ fs) u xs e p = done_have fs u xs (fill (m.before at o) e) (filled_reached xs name_token (m.before at o) e fs u p (λ r. refl))
done_have (m.cast at ty ∷ fs) u xs e p = done_have fs u xs (fill (m.cast at ty) e) (filled_reached xs name_token (m.cast at ty) e fs u p (λ r. refl))
done_have (m.binary a o ∷ fs) u xs e p = done_have fs u xs (fill (m.binary a o) e) (filled_reached xs name_token (m.binary a o) e fs u p (λ r. refl))
done_have (m.assign a o ∷ fs) u xs e p = done_have fs u xs (fill (m.assign a o) e) (filled_reached xs name_token (m.assign a o) e fs u p (λ r. refl))
done_have (m.colon c a ∷ fs) u xs e p = done_have fs u xs (fill (m.colon c a) e) (filled_reached xs name_token (m.colon c a) e fs u p (λ r. refl))
done_have (m.comma a ∷ fs) u xs e p = done_have fs u xs (fill (m.comma a) e) (filled_reached xs name_token (m.comma a) e fs u p (λ r. refl))
done_have (m.question c ∷ fs) u xs e p =
    let t : Lexeme × ℕ = (sign_token sign.Colon, behind (suc (first fs u + (about c).marks)) (about e)) in
    let q : Reached (xs ++ t ∷ []) (operand (m.colon c e ∷ fs) u) = next xs t.0 (have e (m.question c ∷ fs) u) p in
    let xs2 : Taken = (xs ++ t ∷ []) ++ (name_token, first (m.colon c e ∷ fs) u) ∷ [] in
    let y : Expr = tree.Name (record { line = 1; column = 1 }) [] in
    let o : Reached xs2 (have (fill (m.colon c e) y) fs u) = filled_reached xs2 name_token (m.colon c e) y fs u (operand_have (xs ++ t ∷ []) (m.colon c e ∷ fs) u q) (λ r. refl) in
    fewer xs (t ∷ []) (fewer (xs ++ t ∷ []) ((name_token, first (m.colon c e ∷ fs) u) ∷ []) (done_have fs u xs2 (fill (m.colon c e) y) o))
done_have (m.paren at ∷ fs) u xs e p = let t : Lexeme × ℕ = (sign_token sign.RightParen, behind (first fs u) (about e)) in fewer xs (t ∷ []) (done_have fs u (xs ++ t ∷ []) (tree.Paren at e) (next xs t.0 (have e (m.paren at ∷ fs) u) p))
done_have (m.element at n ∷ fs) u xs e p = let t : Lexeme × ℕ = (sign_token sign.RightBracket, behind (first fs u) (about e)) in fewer xs (t ∷ []) (done_have fs u (xs ++ t ∷ []) (tree.Element at n e) (next xs t.0 (have e (m.element at n ∷ fs) u) p))
done_have (m.arguments at n es ∷ fs) u xs e p = let t : Lexeme × ℕ = (sign_token sign.RightParen, first fs u) in fewer xs (t ∷ []) (done_have fs u (xs ++ t ∷ []) (tree.Call at n (es ++ e ∷ [])) (next xs t.0 (have e (m.arguments at n es ∷ fs) u) p))

done_operand : (xs : Taken) (fs : List Frame) (u : Use) → Reached xs (operand fs u) → Done xs
done_operand xs fs u p = fewer xs ((name_token, first fs u) ∷ []) (done_have fs u (xs ++ (name_token, first fs u) ∷ []) (tree.Name (record { line = 1; column = 1 }) []) (operand_have xs fs u p))

pub done : (s : State) (xs : Taken) → Reached xs s → Done xs
done (operand fs u) xs p = done_operand xs fs u p
done (have e fs u) xs p = done_have fs u xs e p
done (m.named at n fs u) xs p = done_have fs u xs (tree.Name at n) (named_have xs at n fs u p)
done (m.opened at fs u) xs p = done_operand xs (m.paren at ∷ fs) u (p.0, (refl, omega (arith, hole_max fs u), p.1))
done (m.casting at ty fs u) xs p = fewer xs ((sign_token sign.RightParen, first fs u) ∷ []) (done_operand (xs ++ (sign_token sign.RightParen, first fs u) ∷ []) (m.cast at ty ∷ fs) u (subst (λ y. Stepped xs (sign_token sign.RightParen) (m.on_casting at ty sign.RightParen y fs u)) (joined_close ty) (next xs (sign_token sign.RightParen) (m.casting at ty fs u) p)))
done (expect s n a) xs p = fewer xs ((lex (a_sign s) (record { line = 1; column = 1 }), n) ∷ []) (done a (signed xs s n (record { line = 1; column = 1 })) (p (record { line = 1; column = 1 })))
done (either s n a b) xs p = done b xs p.1
done (want us) xs p = done_want xs us p
done (got x us) xs p = done_got xs x us p
done (m.for_first at us) xs p = done_operand xs [] (m.start_ at us) p
done (m.declaring at g h) xs p = done_declaring xs at g h p
done (m.declared at g n h) xs p = done_declared xs at g n h p
done (m.item_named i) xs p = done_named xs i p
done (m.item_sized i z) xs p = done_sized xs i z p
done (m.item_valued i z) xs p = done_operand xs [] (m.value_ i z) p
done (m.item_ended at ty is h) xs p = done_ended xs at ty is h p
done (m.item_next at ty is h) xs p = done_next_item xs at ty is h p
done (m.parameters_first k) xs p = done_parameters xs k p
done (m.parameter_typed k ps q ty) xs p = done_parameter xs k ps q ty p
done (m.parameter_ended k ps) xs p = done_parameter_end xs k ps p
done (m.parameter_next k ps) xs p = done_parameter_next xs k ps p
done (m.header k qs) xs p = done_header xs k qs p
done (m.program ps) xs p = done_program xs ps p
done (m.finished a) xs p = done_finished xs a p
