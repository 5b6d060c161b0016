-- What is read of an expression with its last part, and that it fits.
use Rattle.std.proofs.Common.{◌≡◌, ℕ, suc, ◌+◌, ◌≤◌, Bool, true, false, cond, nat_le, ◌==◌, ◌&&◌, List, [], ◌∷◌, ◌++◌, map, Some, None, refl, sym, ap, subst, ◌∙◌, append_assoc, arith}
use Rattle.std.proofs.lemmas.Bool.{and_parts, le-leb, and_from}
use Rattle.std.proofs.lemmas.Bool.Decides.{nat_tests}
use Rattle.c_tree.specs.declared.token.At.{At}
use Rattle.c_tree.specs.declared.syntax.TypeWords.{TypeWords}
use Rattle.c_tree.specs.declared.syntax.TypeWords.TheVariants as words
use Rattle.c_tree.specs.declared.syntax.Expr.{Expr}
use Rattle.c_tree.specs.declared.syntax.Expr.TheVariants as tree
use Rattle.c_grammar.specs.declared.sign.Sign.TheVariants as sign
use Rattle.c_grammar.specs.Words.{a_name, a_sign}
use Rattle.c_grammar.specs.Operators.{precedence}
use Rattle.c_grammar.specs.Phrases.{Leaf, leaf, Said, Part, sub, stands, is_at, same_place, entry, behind, leaves_of, leaves_at, all_fit, open_, expr, piece, commas, the_sign, operator, begins_at, node}
use Rattle.c_grammar.specs.Phrases as m2
use Rattle.c_grammar.specs.Grammar.{about, type, assign}
use Rattle.c_reading.specs.Parsers.{same}
use Rattle.c_parser.proofs.Asked.{place_of}
use Rattle.c_parser.proofs.Machine as m
use Rattle.c_parser.proofs.Machine.{Frame, Use, use_hole, hole, opens, entered, spot, first, fill}
use Rattle.c_parser.proofs.Trees.{at_of, said_comma, said_assign, said_conditional, said_binary, said_cast, said_unary, said_before, said_name, said_element, said_call, said_paren}
use Rattle.c_parser.proofs.ExprRuns.{open_first, entry_open, prec_low}
use Rattle.c_parser.proofs.Text.{trail, argument, place, begun, base, made_level, text_frames, ok_frames, use_low, low, lead, ending}

-- lists with a comma behind each, and one more
pub trail_last : {A : Type 0} (f : A → Part) (g : A → Said) (h : Said → Part) → ((x : A) → h (g x) ≡ f x) → (xs : List A) (x : A) (ps : List Part) → commas h (map g (xs ++ x ∷ [])) ++ ps ≡ trail f xs ++ f x ∷ ps
trail_last f g h same [] x ps = ap (λ p. p ∷ ps) (same x)
trail_last f g h same (y ∷ []) x ps = λ i. same y i ∷ the_sign sign.Comma ∷ same x i ∷ ps
trail_last f g h same (y ∷ z ∷ xs) x ps = λ i. same y i ∷ the_sign sign.Comma ∷ trail_last f g h same (z ∷ xs) x ps i

pub trail_snoc : {A : Type 0} (f : A → Part) (xs : List A) (x : A) (ps : List Part) → trail f (xs ++ x ∷ []) ++ ps ≡ trail f xs ++ f x ∷ the_sign sign.Comma ∷ ps
trail_snoc f [] x ps = refl
trail_snoc f (y ∷ xs) x ps = ap (λ l. f y ∷ the_sign sign.Comma ∷ l) (trail_snoc f xs x ps)

pub fit_append : (xs ys : List Part) → all_fit xs ≡ true → all_fit ys ≡ true → all_fit (xs ++ ys) ≡ true
fit_append [] ys h k = k
fit_append (m2.the w ∷ xs) ys h k = fit_append xs ys h k
fit_append (m2.mark w ∷ xs) ys h k = fit_append xs ys h k
fit_append (m2.sub n a ∷ xs) ys h k = let p = and_parts _ _ h in and_from _ _ p.0 (fit_append xs ys p.1 k)
fit_append (m2.open_ n a ∷ xs) ys h k = let p = and_parts _ _ h in and_from _ _ p.0 (fit_append xs ys p.1 k)
fit_append (m2.expr a ∷ xs) ys h k = let p = and_parts _ _ h in and_from _ _ p.0 (fit_append xs ys p.1 k)
fit_append (m2.item a ∷ xs) ys h k = let p = and_parts _ _ h in and_from _ _ p.0 (fit_append xs ys p.1 k)
fit_append (m2.piece a ∷ xs) ys h k = let p = and_parts _ _ h in and_from _ _ p.0 (fit_append xs ys p.1 k)
fit_append (m2.only b ∷ xs) ys h k = let p = and_parts _ _ h in and_from _ _ p.0 (fit_append xs ys p.1 k)

-- ---- places

pub same_self : (a : At) → same_place a a ≡ true
same_self a = let l : (a.line == a.line) ≡ true = grind (arith, nat_tests) in let c : (a.column == a.column) ≡ true = grind (arith, nat_tests) in and_from _ _ l c

pub at_self : (e : Expr) → is_at (place_of e) (about e).at ≡ true
at_self e = subst (λ o. is_at (place_of e) o ≡ true) (sym (at_of e)) (same_self (place_of e))

-- ---- the nesting of the first word

use_low_hole : (u : Use) → use_low u ≡ true → use_hole u ≡ 0
use_low_hole (m.case_ at us) h = absurd cc
use_low_hole (m.size_ i) h = absurd cc
use_low_hole (m.value_ i z) h = absurd cc
use_low_hole (m.list_ i z at es) h = absurd cc
use_low_hole _ h = refl

pub low_hole : (fs : List Frame) (u : Use) → low fs u ≡ true → hole fs u ≡ 0
low_hole [] u h = use_low_hole u h
low_hole (m.question c ∷ fs) u h = refl
low_hole (m.paren at ∷ fs) u h = refl
low_hole (m.element at n ∷ fs) u h = refl
low_hole (_ ∷ fs) u h = absurd cc

use_hole_low : (u : Use) → use_hole u ≡ 0 → use_low u ≡ true
use_hole_low (m.case_ at us) h = absurd (omega (arith, h))
use_hole_low (m.size_ i) h = absurd (omega (arith, h))
use_hole_low (m.value_ i z) h = absurd (omega (arith, h))
use_hole_low (m.list_ i z at es) h = absurd (omega (arith, h))
use_hole_low _ h = refl

pub hole_low : (fs : List Frame) (u : Use) → hole fs u ≡ 0 → low fs u ≡ true
hole_low [] u h = use_hole_low u h
hole_low (m.question c ∷ fs) u h = refl
hole_low (m.paren at ∷ fs) u h = refl
hole_low (m.element at n ∷ fs) u h = refl
hole_low (m.binary a o ∷ fs) u h = absurd (omega (arith, h))
hole_low (_ ∷ fs) u h = absurd (omega (arith, h))

pub lead_first : (fs : List Frame) (u : Use) (S : Said) → 1 ≤ S.level → lead fs u S ≡ first fs u
lead_first fs u S h = go (low fs u) refl
  where
    go : (b : Bool) → low fs u ≡ b → cond b (entry (spot fs u) S) (first fs u) ≡ first fs u
    go false e = refl
    go true e = entry_open (spot fs u) S h ∙ sym (open_first fs u (low_hole fs u e))

pub lead_low : (fs : List Frame) (u : Use) (S : Said) → hole fs u ≡ 0 → S.level ≡ 0 → lead fs u S ≡ spot fs u
lead_low fs u S h l = ap (λ b. cond b (entry (spot fs u) S) (first fs u)) (hole_low fs u h) ∙ ap (λ k. cond (nat_le 1 k) (suc (spot fs u)) (spot fs u)) l

-- ---- what is made

pub made_by : (f : Frame) (e : Expr) → (about (fill f e)).level ≡ made_level f
made_by (m.unary at o) e = ap (λ (s : Said). s.level) (said_unary at o e)
made_by (m.before at o) e = ap (λ (s : Said). s.level) (said_before at o e)
made_by (m.cast at t) e = ap (λ (s : Said). s.level) (said_cast at t e)
made_by (m.binary a o) e = ap (λ (s : Said). s.level) (said_binary (place_of a) a o e)
made_by (m.assign a o) e = ap (λ (s : Said). s.level) (said_assign (place_of a) a o e)
made_by (m.question c) e = ap (λ (s : Said). s.level) (said_conditional (place_of c) c e (tree.Name (place_of c) []))
made_by (m.colon c a) e = ap (λ (s : Said). s.level) (said_conditional (place_of c) c a e)
made_by (m.comma a) e = ap (λ (s : Said). s.level) (said_comma (place_of a) a e)
made_by (m.paren at) e = ap (λ (s : Said). s.level) (said_paren at e)
made_by (m.element at n) e = ap (λ (s : Said). s.level) (said_element at n e)
made_by (m.arguments at n es) e = ap (λ (s : Said). s.level) (said_call at n (es ++ e ∷ []))

pub lead_base : (f : Frame) (e : Expr) (fs : List Frame) (u : Use) → hole fs u ≤ made_level f → lead fs u (about (fill f e)) ≡ base f fs u
lead_base (m.comma a) e fs u h = lead_low fs u (about (fill (m.comma a) e)) (omega (arith, h)) (made_by (m.comma a) e)
lead_base (m.unary at o) e fs u h = lead_first fs u (about (fill (m.unary at o) e)) (omega (arith, made_by (m.unary at o) e))
lead_base (m.before at o) e fs u h = lead_first fs u (about (fill (m.before at o) e)) (omega (arith, made_by (m.before at o) e))
lead_base (m.cast at t) e fs u h = lead_first fs u (about (fill (m.cast at t) e)) (omega (arith, made_by (m.cast at t) e))
lead_base (m.binary a o) e fs u h = lead_first fs u (about (fill (m.binary a o) e)) (omega (arith, made_by (m.binary a o) e, prec_low o))
lead_base (m.assign a o) e fs u h = lead_first fs u (about (fill (m.assign a o) e)) (omega (arith, made_by (m.assign a o) e))
lead_base (m.question c) e fs u h = lead_first fs u (about (fill (m.question c) e)) (omega (arith, made_by (m.question c) e))
lead_base (m.colon c a) e fs u h = lead_first fs u (about (fill (m.colon c a) e)) (omega (arith, made_by (m.colon c a) e))
lead_base (m.paren at) e fs u h = lead_first fs u (about (fill (m.paren at) e)) (omega (arith, made_by (m.paren at) e))
lead_base (m.element at n) e fs u h = lead_first fs u (about (fill (m.element at n) e)) (omega (arith, made_by (m.element at n) e))
lead_base (m.arguments at n es) e fs u h = lead_first fs u (about (fill (m.arguments at n es) e)) (omega (arith, made_by (m.arguments at n es) e))

cast_leaves : (t : TypeWords) (S : Said) (n : ℕ) (r : List Leaf) → leaves_of (type t ++ operator sign.RightParen ∷ m2.sub 13 S ∷ []) n r ≡ leaves_of (type t ++ operator sign.RightParen ∷ []) n (S.leaves (suc n) r)
cast_leaves words.Char S n r = refl
cast_leaves words.SignedChar S n r = refl
cast_leaves words.CharSigned S n r = refl
cast_leaves words.UnsignedChar S n r = refl
cast_leaves words.CharUnsigned S n r = refl
cast_leaves words.Int S n r = refl
cast_leaves words.Signed S n r = refl
cast_leaves _ S n r = refl

pub trail_leaves : {A : Type 0} (f : A → Said) (k : ℕ) (xs : List A) (ps : List Part) (n : ℕ) (r : List Leaf) → leaves_of (trail (λ x. open_ k (f x)) xs ++ ps) n r ≡ leaves_of (trail (λ x. open_ k (f x)) xs) n (leaves_of ps n r)
trail_leaves f k [] ps n r = refl
trail_leaves f k (x ∷ xs) ps n r = ap (λ l. (f x).leaves (suc n) (leaf (a_sign sign.Comma) None n ∷ l)) (trail_leaves f k xs ps n r)

pub fill_text : (f : Frame) (e : Expr) (fs : List Frame) (u : Use) (r : List Leaf) → (about (fill f e)).leaves (base f fs u) r ≡ leaves_at (place f) (begun f) (base f fs u) ((about e).leaves (lead (f ∷ fs) u (about e)) (ending f fs u e r))
fill_text (m.unary at o) e fs u r = ap (λ (s : Said). s.leaves (first fs u) r) (said_unary at o e)
fill_text (m.before at o) e fs u r = ap (λ (s : Said). s.leaves (first fs u) r) (said_before at o e)
fill_text (m.cast at t) e fs u r = ap (λ (s : Said). s.leaves (first fs u) r) (said_cast at t e) ∙ ap (λ l. leaf (a_sign sign.LeftParen) (Some at) (first fs u) ∷ l) (cast_leaves t (about e) (first fs u) r)
fill_text (m.binary a o) e fs u r = ap (λ (s : Said). s.leaves (first fs u) r) (said_binary (place_of a) a o e)
fill_text (m.assign a o) e fs u r = ap (λ (s : Said). s.leaves (first fs u) r) (said_assign (place_of a) a o e)
fill_text (m.question c) e fs u r = ap (λ (s : Said). s.leaves (first fs u) r) (said_conditional (place_of c) c e (tree.Name (place_of c) []))
    ∙ ap (λ (s : Said). (about c).leaves (first fs u) (leaf (a_sign sign.Question) None (first fs u + (about c).marks) ∷ (about e).leaves (entry (suc (first fs u + (about c).marks)) (about e)) (leaf (a_sign sign.Colon) None (behind (suc (first fs u + (about c).marks)) (about e)) ∷ s.leaves (behind (suc (first fs u + (about c).marks)) (about e)) r))) (said_name (place_of c) [])
fill_text (m.colon c a) e fs u r = ap (λ (s : Said). s.leaves (first fs u) r) (said_conditional (place_of c) c a e)
fill_text (m.comma a) e fs u r = ap (λ (s : Said). s.leaves (spot fs u) r) (said_comma (place_of a) a e)
fill_text (m.paren at) e fs u r = ap (λ (s : Said). s.leaves (first fs u) r) (said_paren at e)
fill_text (m.element at n) e fs u r = ap (λ (s : Said). s.leaves (first fs u) r) (said_element at n e)
fill_text (m.arguments at n es) e fs u r = ap (λ (s : Said). s.leaves (first fs u) r) (said_call at n (es ++ e ∷ []))
    ∙ ap (λ l. leaf (a_name n) (Some at) (first fs u) ∷ leaf (a_sign sign.LeftParen) None (first fs u) ∷ l)
    (ap (λ ps. leaves_of ps (first fs u) r) (trail_last argument about assign (λ x. refl) es e (the_sign sign.RightParen ∷ [])) ∙ trail_leaves about 1 es (argument e ∷ the_sign sign.RightParen ∷ []) (first fs u) r)

pub stands_it : (k : ℕ) (S : Said) → k ≤ S.level → S.fits ≡ true → stands k S ≡ true
stands_it k S h f = and_from _ _ (le-leb k S.level h) f

true_and : (x y : Bool) → x ≡ true → y ≡ true → (x && y) ≡ true
true_and x y h k = and_from x y h k

-- what is made fits
pub fill_fits : (f : Frame) (e : Expr) (fs : List Frame) (u : Use) → all_fit (begun f) ≡ true → hole (f ∷ fs) u ≤ (about e).level → (about e).fits ≡ true → (about (fill f e)).fits ≡ true
fill_fits (m.unary at o) e fs u h l k = ap (λ (s : Said). s.fits) (said_unary at o e) ∙ true_and _ _ (stands_it 13 (about e) l k) refl
fill_fits (m.before at o) e fs u h l k = ap (λ (s : Said). s.fits) (said_before at o e) ∙ true_and _ _ (stands_it 14 (about e) l k) refl
fill_fits (m.cast at t) e fs u h l k = ap (λ (s : Said). s.fits) (said_cast at t e) ∙ ap all_fit (sym (append_assoc (type t) (operator sign.RightParen ∷ []) (m2.sub 13 (about e) ∷ []))) ∙ fit_append (type t ++ operator sign.RightParen ∷ []) (m2.sub 13 (about e) ∷ []) h (true_and _ _ (stands_it 13 (about e) l k) refl)
fill_fits (m.binary a o) e fs u h l k = ap (λ (s : Said). s.fits) (said_binary (place_of a) a o e) ∙ true_and _ _ (at_self a) (true_and _ _ (and_parts _ _ h).0 (true_and _ _ (stands_it (suc (precedence o)) (about e) l k) refl))
fill_fits (m.assign a o) e fs u h l k = ap (λ (s : Said). s.fits) (said_assign (place_of a) a o e) ∙ true_and _ _ (at_self a) (true_and _ _ (and_parts _ _ h).0 (true_and _ _ (stands_it 1 (about e) l k) refl))
fill_fits (m.question c) e fs u h l k = ap (λ (s : Said). s.fits) (said_conditional (place_of c) c e (tree.Name (place_of c) [])) ∙ true_and _ _ (at_self c) (true_and _ _ (and_parts _ _ h).0 (true_and _ _ k (true_and _ _ (ap (λ (s : Said). stands 2 s) (said_name (place_of c) [])) refl)))
fill_fits (m.colon c a) e fs u h l k = let p = and_parts (stands 3 (about c)) _ h in ap (λ (s : Said). s.fits) (said_conditional (place_of c) c a e) ∙ true_and _ _ (at_self c) (true_and _ _ p.0 (true_and _ _ (and_parts _ _ p.1).0 (true_and _ _ (stands_it 2 (about e) l k) refl)))
fill_fits (m.comma a) e fs u h l k = ap (λ (s : Said). s.fits) (said_comma (place_of a) a e) ∙ true_and _ _ (at_self a) (true_and _ _ (and_parts _ _ h).0 (true_and _ _ (stands_it 1 (about e) l k) refl))
fill_fits (m.paren at) e fs u h l k = ap (λ (s : Said). s.fits) (said_paren at e) ∙ true_and _ _ k refl
fill_fits (m.element at n) e fs u h l k = ap (λ (s : Said). s.fits) (said_element at n e) ∙ true_and _ _ k refl
fill_fits (m.arguments at n es) e fs u h l k = ap (λ (s : Said). s.fits) (said_call at n (es ++ e ∷ [])) ∙ ap all_fit (trail_last argument about assign (λ x. refl) es e (the_sign sign.RightParen ∷ [])) ∙ fit_append (trail argument es) (argument e ∷ the_sign sign.RightParen ∷ []) h (true_and _ _ (stands_it 1 (about e) l k) refl)

-- ---- what the machine has, read from its first word on

abbrev pub text_have : Expr → List Frame → Use → List Leaf → List Leaf
text_have e fs u r = text_frames fs u ((about e).leaves (lead fs u (about e)) r)

pub record Ok_have (e : Expr) (fs : List Frame) (u : Use) : Type 0 where
  pub level : hole fs u ≤ (about e).level
  pub fits : (about e).fits ≡ true
  pub frames : ok_frames fs u

pub filled_text : (e : Expr) (f : Frame) (fs : List Frame) (u : Use) (r : List Leaf) → Ok_have e (f ∷ fs) u → text_have (fill f e) fs u r ≡ text_have e (f ∷ fs) u (ending f fs u e r)
filled_text e f fs u r ok = ap (λ n. text_frames fs u ((about (fill f e)).leaves n r)) (lead_base f e fs u ok.frames.1) ∙ ap (λ l. text_frames fs u l) (fill_text f e fs u r)

pub filled_ok : (e : Expr) (f : Frame) (fs : List Frame) (u : Use) → Ok_have e (f ∷ fs) u → Ok_have (fill f e) fs u
filled_ok e f fs u ok = record { level = omega (arith, made_by f e, ok.frames.1); fits = fill_fits f e fs u ok.frames.0 ok.level ok.fits; frames = ok.frames.2 }
