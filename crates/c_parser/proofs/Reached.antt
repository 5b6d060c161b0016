-- In each state that the machine comes to, the words that it read are those of the parts that it holds.
use Rattle.std.proofs.Common.{◌≡◌, ℕ, suc, ◌≤◌, true, false, List, [], ◌∷◌, ◌++◌, map, Option, Some, None, refl, sym, ap, ◌∙◌, append_assoc}
use Rattle.std.proofs.lemmas.Bool.{and_from}
use Rattle.c_tree.specs.declared.token.At.{At}
use Rattle.c_tree.specs.declared.syntax.TypeWords.{TypeWords}
use Rattle.c_tree.specs.declared.syntax.TypeWords.TheVariants as words
use Rattle.c_tree.specs.declared.syntax.Return.{Return}
use Rattle.c_tree.specs.declared.syntax.Return.TheVariants as gives
use Rattle.c_tree.specs.declared.syntax.Parameters.{Parameters}
use Rattle.c_grammar.specs.declared.sign.Sign.{Sign}
use Rattle.c_grammar.specs.declared.sign.Sign.TheVariants as sign
use Rattle.c_grammar.specs.Words.{Word, a_name, a_number, a_character, a_sign, sign_of_word, Lexeme}
use Rattle.c_grammar.specs.Operators.{type_signs}
use Rattle.c_grammar.specs.Phrases.{some, Leaf, leaf, Said, Part, stands, entry, leaves_of, leaves_at, all_fit, item, piece, commas, each, the_sign}
use Rattle.c_grammar.specs.Grammar.{sized, declarator, signs, type, about_statement, returned, listed, parameter, part}
use Rattle.c_tree.specs.declared.syntax.Statement.{Statement}
use Rattle.c_tree.specs.declared.syntax.External.{External}
use Rattle.c_grammar.specs.Spelling.{Stands}
use Rattle.c_reading.specs.Parsers.{same}
use Rattle.c_parser.proofs.Asked.{type_of, joined}
use Rattle.c_parser.proofs.Machine as m
use Rattle.c_parser.proofs.Machine.{Frame, State, operand, have, named, opened, casting, want, got, Use, Under, Home, Naming, Heading, step, Next, goes, hole, opens, entered, spot, first, outer, use_hole, Op, op_of, own, left, is_op, takes, push, fill, shut, offer, close_use, close_block, is_block, inside, add, maybe_behind, start_behind, for_test, for_next, home_nesting, conclude, either, expect, item_of, item_end, value_after}
use Rattle.c_parser.proofs.Runs.{lex}
use Rattle.c_parser.proofs.DeclComplete.{joined_other}
use Rattle.c_parser.proofs.Fill.{fit_append, text_have, Ok_have}
use Rattle.c_parser.proofs.Text.{trail, object, a_parameter, tops, text_unders, ok_unders, text_home, ok_home, text_type, text_naming, ok_naming, text_heading, text_use, ok_use, text_frames, ok_frames}

-- ---- words with their nesting

abbrev pub Taken : Type 0
Taken = List (Lexeme × ℕ)

abbrev pub Spelt : Taken → List Leaf → Type 0
Spelt [] [] = Unit {0}
Spelt (x ∷ xs) (l ∷ ls) = (x.0.word ≡ l.word) × Stands l.at x.0.at × (x.1 ≡ l.nesting) × Spelt xs ls
Spelt _ _ = ⊥

pub record Pre (xs : Taken) (f : List Leaf → List Leaf) : Type 0 where
  pub leaves : List Leaf
  pub is : (r : List Leaf) → f r ≡ leaves ++ r
  pub spells : Spelt xs leaves

pub pre_as : (xs : Taken) (f g : List Leaf → List Leaf) → ((r : List Leaf) → g r ≡ f r) → Pre xs f → Pre xs g
pre_as xs f g e p = record { leaves = p.leaves; is = λ r. e r ∙ p.is r; spells = p.spells }

spelt_snoc : (xs : Taken) (ls : List Leaf) (x : Lexeme × ℕ) (l : Leaf) → Spelt xs ls → (x.0.word ≡ l.word) × Stands l.at x.0.at × (x.1 ≡ l.nesting) → Spelt (xs ++ x ∷ []) (ls ++ l ∷ [])
spelt_snoc [] [] x l s h = (h.0, h.1, h.2, tt)
spelt_snoc [] (k ∷ ls) x l s h = absurd s
spelt_snoc (y ∷ xs) [] x l s h = absurd s
spelt_snoc (y ∷ xs) (k ∷ ls) x l s h = (s.0, s.1, s.2, spelt_snoc xs ls x l s.3 h)

pub pre_more : (xs : Taken) (f g : List Leaf → List Leaf) (t : Lexeme) (w : Word) (o : Option At) (n : ℕ) → t.word ≡ w → Stands o t.at → Pre xs f → ((r : List Leaf) → g r ≡ f (leaf w o n ∷ r)) → Pre (xs ++ (t, n) ∷ []) g
pre_more xs f g t w o n tw st p e = record {
  leaves = p.leaves ++ leaf w o n ∷ [];
  is = λ r. e r ∙ p.is (leaf w o n ∷ r) ∙ sym (append_assoc p.leaves (leaf w o n ∷ []) r);
  spells = spelt_snoc xs p.leaves (t, n) (leaf w o n) p.spells (tw, st, refl);
}

pub word_is : (w : Word) (s : Sign) → sign_of_word w ≡ s → same s sign.Other ≡ false → w ≡ a_sign s
word_is (a_sign x) s e h = ap a_sign e
word_is (a_name n) s e h = absurd (no_true (sym h ∙ ap (λ x. same x sign.Other) (sym e)))
  where
    no_true : false ≡ true → ⊥
    no_true e = absurd cc
word_is (a_number v d u) s e h = absurd (no_true (sym h ∙ ap (λ x. same x sign.Other) (sym e)))
  where
    no_true : false ≡ true → ⊥
    no_true e = absurd cc
word_is (a_character v) s e h = absurd (no_true (sym h ∙ ap (λ x. same x sign.Other) (sym e)))
  where
    no_true : false ≡ true → ⊥
    no_true e = absurd cc

-- ---- types and lists

joined_signs : (t : TypeWords) (x : Sign) (t2 : TypeWords) → joined t x ≡ Some t2 → type_signs t2 ≡ type_signs t ++ x ∷ []
joined_signs words.Char sign.Signed t2 e = let f : words.CharSigned ≡ t2 = cc in ap type_signs (sym f)
joined_signs words.Char sign.Unsigned t2 e = let f : words.CharUnsigned ≡ t2 = cc in ap type_signs (sym f)
joined_signs words.Int sign.Signed t2 e = let f : words.IntSigned ≡ t2 = cc in ap type_signs (sym f)
joined_signs words.Int sign.Unsigned t2 e = let f : words.IntUnsigned ≡ t2 = cc in ap type_signs (sym f)
joined_signs words.Signed sign.Char t2 e = let f : words.SignedChar ≡ t2 = cc in ap type_signs (sym f)
joined_signs words.Signed sign.Int t2 e = let f : words.SignedInt ≡ t2 = cc in ap type_signs (sym f)
joined_signs words.Unsigned sign.Char t2 e = let f : words.UnsignedChar ≡ t2 = cc in ap type_signs (sym f)
joined_signs words.Unsigned sign.Int t2 e = let f : words.UnsignedInt ≡ t2 = cc in ap type_signs (sym f)
joined_signs _ _ t2 e = absurd cc

pub joined_sign : (t : TypeWords) (x : Sign) (t2 : TypeWords) → joined t x ≡ Some t2 → same x sign.Other ≡ false
joined_sign t sign.Other t2 e = absurd (none (sym (joined_other t) ∙ e))
  where
    none : None ≡ Some t2 → ⊥
    none h = absurd cc
joined_sign t x t2 e = refl

pub type_sign : (x : Sign) (t : TypeWords) → type_of x ≡ Some t → type t ≡ the_sign x ∷ []
type_sign sign.Char t e = let f : words.Char ≡ t = cc in ap type (sym f)
type_sign sign.Int t e = let f : words.Int ≡ t = cc in ap type (sym f)
type_sign sign.Signed t e = let f : words.Signed ≡ t = cc in ap type (sym f)
type_sign sign.Unsigned t e = let f : words.Unsigned ≡ t = cc in ap type (sym f)
type_sign _ t e = absurd cc

pub type_no_other : (x : Sign) (t : TypeWords) → type_of x ≡ Some t → same x sign.Other ≡ false
type_no_other sign.Other t e = absurd cc
type_no_other x t e = refl

signs_snoc : (ss : List Sign) (x : Sign) (n : ℕ) (r : List Leaf) → leaves_of (signs (ss ++ x ∷ [])) n r ≡ leaves_of (signs ss) n (leaf (a_sign x) None n ∷ r)
signs_snoc [] x n r = refl
signs_snoc (y ∷ ss) x n r = ap (λ l. leaf (a_sign y) None n ∷ l) (signs_snoc ss x n r)

pub type_snoc : (t : TypeWords) (x : Sign) (t2 : TypeWords) (n : ℕ) (r : List Leaf) → joined t x ≡ Some t2 → leaves_of (type t2) n r ≡ leaves_of (type t) n (leaf (a_sign x) None n ∷ r)
type_snoc t x t2 n r e = ap (λ ss. leaves_of (signs ss) n r) (joined_signs t x t2 e) ∙ signs_snoc (type_signs t) x n r

pub type_at_snoc : (at : At) (t : TypeWords) (x : Sign) (t2 : TypeWords) (n : ℕ) (r : List Leaf) → joined t x ≡ Some t2 → leaves_at at (type t2) n r ≡ leaves_at at (type t) n (leaf (a_sign x) None n ∷ r)
type_at_snoc at words.Char x t2 n r e = ap (λ ss. leaves_at at (signs ss) n r) (joined_signs words.Char x t2 e)
type_at_snoc at words.Int x t2 n r e = ap (λ ss. leaves_at at (signs ss) n r) (joined_signs words.Int x t2 e)
type_at_snoc at words.Signed x t2 n r e = ap (λ ss. leaves_at at (signs ss) n r) (joined_signs words.Signed x t2 e)
type_at_snoc at words.Unsigned x t2 n r e = ap (λ ss. leaves_at at (signs ss) n r) (joined_signs words.Unsigned x t2 e)
type_at_snoc at _ x t2 n r e = absurd cc

pub type_then : (t : TypeWords) (ps : List Part) (n : ℕ) (r : List Leaf) → leaves_of (type t ++ ps) n r ≡ leaves_of (type t) n (leaves_of ps n r)
type_then t ps n r = go (type_signs t)
  where
    go : (ss : List Sign) → leaves_of (signs ss ++ ps) n r ≡ leaves_of (signs ss) n (leaves_of ps n r)
    go [] = refl
    go (s ∷ ss) = ap (λ l. leaf (a_sign s) None n ∷ l) (go ss)

pub type_at_then : (at : At) (t : TypeWords) (ps : List Part) (n : ℕ) (r : List Leaf) → leaves_at at (type t ++ ps) n r ≡ leaves_at at (type t) n (leaves_of ps n r)
type_at_then at words.Char ps n r = refl
type_at_then at words.SignedChar ps n r = refl
type_at_then at words.CharSigned ps n r = refl
type_at_then at words.UnsignedChar ps n r = refl
type_at_then at words.CharUnsigned ps n r = refl
type_at_then at words.Int ps n r = refl
type_at_then at words.Signed ps n r = refl
type_at_then at words.SignedInt ps n r = refl
type_at_then at words.IntSigned ps n r = refl
type_at_then at words.Unsigned ps n r = refl
type_at_then at words.UnsignedInt ps n r = refl
type_at_then at words.IntUnsigned ps n r = refl

pub returned_then : (at : At) (g : Return) (ps : List Part) (n : ℕ) (r : List Leaf) → leaves_at at (returned g ++ ps) n r ≡ leaves_at at (returned g) n (leaves_of ps n r)
returned_then at gives.Void ps n r = refl
returned_then at (gives.Value t) ps n r = type_at_then at t ps n r

pub trail_pieces : {A : Type 0} (f : A → Said) (xs : List A) (ps : List Part) (n : ℕ) (r : List Leaf) → leaves_of (trail (λ x. piece (f x)) xs ++ ps) n r ≡ leaves_of (trail (λ x. piece (f x)) xs) n (leaves_of ps n r)
trail_pieces f [] ps n r = refl
trail_pieces f (x ∷ xs) ps n r = ap (λ l. (f x).leaves n (leaf (a_sign sign.Comma) None n ∷ l)) (trail_pieces f xs ps n r)

pub comma_pieces : {A : Type 0} (f : A → Said) (xs : List A) (ps : List Part) (n : ℕ) (r : List Leaf) → leaves_of (commas piece (map f xs) ++ ps) n r ≡ leaves_of (commas piece (map f xs)) n (leaves_of ps n r)
comma_pieces f [] ps n r = refl
comma_pieces f (x ∷ []) ps n r = refl
comma_pieces f (x ∷ y ∷ xs) ps n r = ap (λ l. (f x).leaves n (leaf (a_sign sign.Comma) None n ∷ l)) (comma_pieces f (y ∷ xs) ps n r)

pub each_snoc : {A : Type 0} (k : Said → Part) (f : A → Said) (xs : List A) (x : A) → each k (map f (xs ++ x ∷ [])) ≡ each k (map f xs) ++ k (f x) ∷ []
each_snoc k f [] x = refl
each_snoc k f (y ∷ xs) x = ap (λ l. k (f y) ∷ l) (each_snoc k f xs x)

each_pieces : {A : Type 0} (f : A → Said) (xs : List A) (ps : List Part) (n : ℕ) (r : List Leaf) → leaves_of (each piece (map f xs) ++ ps) n r ≡ leaves_of (each piece (map f xs)) n (leaves_of ps n r)
each_pieces f [] ps n r = refl
each_pieces f (x ∷ xs) ps n r = ap (λ l. (f x).leaves n l) (each_pieces f xs ps n r)

pub each_items : {A : Type 0} (f : A → Said) (xs : List A) (ps : List Part) (n : ℕ) (r : List Leaf) → leaves_of (each item (map f xs) ++ ps) n r ≡ leaves_of (each item (map f xs)) n (leaves_of ps n r)
each_items f [] ps n r = refl
each_items f (x ∷ xs) ps n r = ap (λ l. (f x).leaves (entry n (f x)) l) (each_items f xs ps n r)

pub tops_snoc : (ps : List External) (x : External) (r : List Leaf) → leaves_of (tops (ps ++ x ∷ [])) 0 r ≡ leaves_of (tops ps) 0 ((part x).leaves 0 r)
tops_snoc ps x r = ap (λ l. leaves_of l 0 r) (each_snoc piece part ps x) ∙ each_pieces part ps (piece (part x) ∷ []) 0 r

pub tops_fit : (ps : List External) (x : External) → all_fit (tops ps) ≡ true → (part x).fits ≡ true → all_fit (tops (ps ++ x ∷ [])) ≡ true
tops_fit ps x h k = ap all_fit (each_snoc piece part ps x) ∙ fit_append (tops ps) (piece (part x) ∷ []) h (and_from _ _ k refl)

abbrev block_items : List Statement → List Part
block_items ss = each item (map about_statement ss)

pub items_snoc : (ss : List Statement) (x : Statement) (n : ℕ) (r : List Leaf) → leaves_of (block_items (ss ++ x ∷ [])) n r ≡ leaves_of (block_items ss) n ((about_statement x).leaves (entry n (about_statement x)) r)
items_snoc ss x n r = ap (λ l. leaves_of l n r) (each_snoc item about_statement ss x) ∙ each_items about_statement ss (item (about_statement x) ∷ []) n r

pub items_fit : (ss : List Statement) (x : Statement) → all_fit (block_items ss) ≡ true → (about_statement x).fits ≡ true → all_fit (block_items (ss ++ x ∷ [])) ≡ true
items_fit ss x h k = ap all_fit (each_snoc item about_statement ss x) ∙ fit_append (block_items ss) (item (about_statement x) ∷ []) h (and_from _ _ k refl)

-- ---- what is reached

abbrev pub Stat_text : Statement → List Under → List Leaf → List Leaf
Stat_text x us r = text_unders us ((about_statement x).leaves (suc (inside us)) r)

abbrev pub signed : Taken → Sign → ℕ → At → Taken
signed xs s n p = xs ++ (lex (a_sign s) p, n) ∷ []

abbrev pub text_header : Heading → Parameters → List Leaf → List Leaf
text_header k qs r = text_heading k (leaves_of (listed qs) (home_nesting k.home) (leaf (a_sign sign.RightParen) None (home_nesting k.home) ∷ r))

abbrev pub Reached : Taken → State → Type 0
Reached xs (operand fs u) = Pre xs (text_frames fs u) × ok_frames fs u
Reached xs (have e fs u) = Pre xs (text_have e fs u) × Ok_have e fs u
Reached xs (named at n fs u) = Pre xs (λ r. text_frames fs u (leaf (a_name n) (Some at) (first fs u) ∷ r)) × ok_frames fs u
Reached xs (opened at fs u) = Pre xs (λ r. text_frames fs u (leaf (a_sign sign.LeftParen) (Some at) (first fs u) ∷ r)) × ok_frames fs u
Reached xs (casting at t fs u) = Pre xs (λ r. text_frames fs u (leaf (a_sign sign.LeftParen) (Some at) (first fs u) ∷ leaves_of (type t) (first fs u) r)) × (hole fs u ≤ 13) × ok_frames fs u
Reached xs (expect s n a) = (p : At) → Reached (signed xs s n p) a
Reached xs (either s n a b) = ((p : At) → Reached (signed xs s n p) a) × Reached xs b
Reached xs (want us) = Pre xs (text_unders us) × ok_unders us
Reached xs (got x us) = Pre xs (Stat_text x us) × ok_unders us × (stands 2 (about_statement x) ≡ true)
Reached xs (m.for_first at us) = Pre xs (text_home (m.at_start at us)) × ok_unders us
Reached xs (m.declaring at g h) = Pre xs (λ r. text_home h (leaves_at at (returned g) (home_nesting h) r)) × ok_home h
Reached xs (m.declared at g n h) = Pre xs (λ r. text_home h (leaves_at at (returned g) (home_nesting h) (leaf (a_name n.bytes) (Some n.at) (home_nesting h) ∷ r))) × ok_home h
Reached xs (m.item_named i) = Pre xs (text_naming i) × ok_naming i
Reached xs (m.item_sized i z) = Pre xs (λ r. text_naming i (leaves_of (sized z) (home_nesting i.home) r)) × (all_fit (sized z) ≡ true) × ok_naming i
Reached xs (m.item_valued i z) = Pre xs (text_use (m.value_ i z)) × ok_use (m.value_ i z)
Reached xs (m.item_ended at t is h) = Pre xs (λ r. text_type at t h (leaves_of (commas piece (map declarator is)) (home_nesting h) r)) × (all_fit (some is ∷ commas piece (map declarator is)) ≡ true) × ok_home h
Reached xs (m.item_next at t is h) = Pre xs (λ r. text_type at t h (leaves_of (trail object is) (home_nesting h) r)) × (all_fit (trail object is) ≡ true) × ok_home h
Reached xs (m.parameters_first k) = Pre xs (text_heading k) × ok_home k.home
Reached xs (m.parameter_typed k ps p t) = Pre xs (λ r. text_heading k (leaves_of (trail a_parameter ps) (home_nesting k.home) (leaves_at p (type t) (home_nesting k.home) r))) × (all_fit (trail a_parameter ps) ≡ true) × ok_home k.home
Reached xs (m.parameter_ended k ps) = Pre xs (λ r. text_heading k (leaves_of (commas piece (map parameter ps)) (home_nesting k.home) r)) × (all_fit (some ps ∷ commas piece (map parameter ps)) ≡ true) × ok_home k.home
Reached xs (m.parameter_next k ps) = Pre xs (λ r. text_heading k (leaves_of (trail a_parameter ps) (home_nesting k.home) r)) × (all_fit (trail a_parameter ps) ≡ true) × ok_home k.home
Reached xs (m.header k qs) = Pre xs (text_header k qs) × (all_fit (listed qs) ≡ true) × ok_home k.home
Reached xs (m.program ps) = Pre xs (λ r. leaves_of (tops ps) 0 r) × (all_fit (tops ps) ≡ true)
Reached xs (m.finished p) = Pre xs (λ r. leaves_of (tops p.parts) 0 (leaf (a_sign sign.End) (Some p.end) 0 ∷ r)) × (all_fit (tops p.parts) ≡ true) × ((ys : Taken) × (t : Lexeme) × (xs ≡ ys ++ (t, 0) ∷ []) × (t.word ≡ a_sign sign.End))

abbrev pub Stepped : Taken → Lexeme → Next → Type 0
Stepped xs t None = Unit {0}
Stepped xs t (Some x) = Reached (xs ++ (t, x.0) ∷ []) x.1
