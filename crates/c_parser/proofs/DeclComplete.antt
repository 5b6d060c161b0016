-- The machine over the words of a declaration comes to what that declaration concludes.
use Rattle.std.proofs.Common.{◌≡◌, ℕ, Bool, true, false, cond, List, [], ◌∷◌, ◌++◌, map, Option, Some, None, refl, sym, ap, subst, ◌∙◌, append_assoc, arith}
use Rattle.std.proofs.lemmas.Bool.{and_parts}
use Rattle.c_tree.specs.declared.token.At.{At}
use Rattle.c_tree.specs.declared.syntax.TypeWords.{TypeWords}
use Rattle.c_tree.specs.declared.syntax.TypeWords.TheVariants as words
use Rattle.c_tree.specs.declared.syntax.Expr.{Expr}
use Rattle.c_tree.specs.declared.syntax.Size.{Size}
use Rattle.c_tree.specs.declared.syntax.Size.TheVariants as size
use Rattle.c_tree.specs.declared.syntax.Initialiser.{Initialiser}
use Rattle.c_tree.specs.declared.syntax.Initialiser.TheVariants as initialiser
use Rattle.c_tree.specs.declared.syntax.Identifier.{Identifier}
use Rattle.c_tree.specs.declared.syntax.Item.{Item}
use Rattle.c_tree.specs.declared.syntax.Return.{Return}
use Rattle.c_tree.specs.declared.syntax.Return.TheVariants as gives
use Rattle.c_tree.specs.declared.syntax.Parameter.{Parameter}
use Rattle.c_tree.specs.declared.syntax.Parameters.{Parameters}
use Rattle.c_tree.specs.declared.syntax.Parameters.TheVariants as parameters
use Rattle.c_tree.specs.declared.syntax.Declaration.{Declaration}
use Rattle.c_tree.specs.declared.syntax.Declaration.TheVariants as declaration
use Rattle.c_grammar.specs.declared.sign.Sign.{Sign}
use Rattle.c_grammar.specs.declared.sign.Sign.TheVariants as sign
use Rattle.c_grammar.specs.Words.{Word, a_name, a_number, a_character, a_sign, sign_of_word, Lexeme}
use Rattle.c_grammar.specs.Phrases.{Leaf, leaf, Part, leaves_of, leaves_at, all_fit, piece, only, commas, the_sign}
use Rattle.c_grammar.specs.Grammar.{about, type, assign, sized, initialised, last_comma, declarator, returned, maybe_name, parameter, listed, called, declared}
use Rattle.c_reading.specs.Parsers.{same}
use Rattle.c_parser.proofs.Asked.{type_of, joined}
use Rattle.c_parser.proofs.Machine as m
use Rattle.c_parser.proofs.Machine.{State, operand, have, Use, step, run, Outcome, Next, goes, moved, hole, first, op_of, takes, close_use, offer, Home, Naming, Heading, home_nesting, conclude, item_named, item_sized, item_valued, item_ended, item_next, item_end, item_of, value_after, parameters_first, parameter_typed, parameter_ended, parameter_next, header, declaring, either, expect}
use Rattle.c_parser.proofs.Runs.{lex, head_sign, starts, Met, met_as, took, skip, alike, typed, Typing, type_at_leaves}
use Rattle.c_parser.proofs.ExprRuns.{not_sign, fit, binds, Follow, follow_none, follow_comma, heads}
use Rattle.c_parser.proofs.ExprComplete.{complete}

pub joined_other : (t : TypeWords) → joined t sign.Other ≡ None
joined_other words.Char = refl
joined_other _ = refl

pub joined_comma : (t : TypeWords) → joined t sign.Comma ≡ None
joined_comma words.Char = refl
joined_comma _ = refl

pub joined_close : (t : TypeWords) → joined t sign.RightParen ≡ None
joined_close words.Char = refl
joined_close _ = refl

-- what stands behind a declared object
pub data Ends (close : Sign) (r : List Leaf) : Type 0 where
  by_comma : head_sign r ≡ sign.Comma → Ends close r
  by_close : head_sign r ≡ close → Ends close r

-- where a declaration may begin
pub record Opens (s : State) (h : Home) : Type 0 where
  pub with_type : (x : Sign) (t : TypeWords) → type_of x ≡ Some t → (p : At) → step s (lex (a_sign x) p) ≡ Some (home_nesting h, declaring p (gives.Value t) h)
  pub with_void : (p : At) → step s (lex (a_sign sign.Void) p) ≡ Some (home_nesting h, declaring p gives.Void h)

module _ (T : ℕ → Bool) where
  -- ---- sizes

  sizes : (i : Naming) (z : Size) (ps : List Part) → all_fit (sized z ++ ps) ≡ true → (r : List Leaf) (ts : List Lexeme) (v : Outcome) → (same (head_sign (leaves_of ps (home_nesting i.home) r)) sign.LeftBracket ≡ false) → Met T ts (leaves_of (sized z ++ ps) (home_nesting i.home) r)
      → ((vs : List Lexeme) → Met T vs (leaves_of ps (home_nesting i.home) r) → run T vs (item_sized i z) ≡ v) → run T ts (item_named i) ≡ v
  sizes i size.Scalar ps fits r ts w nb mt go = alike T (item_named i) (item_sized i size.Scalar) ts (leaves_of ps (home_nesting i.home) r) refl (λ t st. unsized (sign_of_word t.word) (subst (λ s. same s sign.LeftBracket ≡ false) (sym st) nb)) mt ∙ go ts mt
    where
      unsized : (s : Sign) → same s sign.LeftBracket ≡ false → m.on_named i s ≡ m.on_sized i size.Scalar s
      unsized sign.LeftBracket h = absurd cc
      unsized s h = refl
  sizes i size.Absent ps fits r ts w nb mt go = took T (item_named i) (either sign.RightBracket (home_nesting i.home) (item_sized i size.Absent) (operand [] (m.size_ i))) ts w (λ q st. refl) mt
      (λ vs mv. took T (either sign.RightBracket (home_nesting i.home) (item_sized i size.Absent) (operand [] (m.size_ i))) (item_sized i size.Absent) vs w (λ q st. refl) mv go)
  sizes i (size.Given e) ps fits r ts w nb mt go =
      let p = fit 2 e _ fits in
      took T (item_named i) (either sign.RightBracket (home_nesting i.home) (item_sized i size.Absent) (operand [] (m.size_ i))) ts w (λ q st. refl) mt
      (λ vs mv. skip T (either sign.RightBracket (home_nesting i.home) (item_sized i size.Absent) (operand [] (m.size_ i))) (operand [] (m.size_ i)) refl vs
      (λ t st. ap (λ b. cond b (goes (home_nesting i.home) (item_sized i size.Absent)) (step (operand [] (m.size_ i)) t)) (not_sign t.word sign.RightBracket st refl)) (heads e _ _) mv
      ∙ (complete T e p.fits).all (omega (arith, p.level)) [] (m.size_ i) p.level _ (follow_none _ _ refl) vs w mv
      (λ xs mx. took T (have e [] (m.size_ i)) (item_sized i (size.Given e)) xs w (λ q st. refl) mx go))

  -- ---- initialisers

  values_run : (i : Naming) (z : Size) (at : At) (done : List Expr) (e : Expr) (es : List Expr) (last : Bool) → all_fit (commas assign (map about (e ∷ es)) ++ (last_comma last ++ the_sign sign.RightBrace ∷ [])) ≡ true → (r : List Leaf) (ts : List Lexeme) (v : Outcome)
      → Met T ts (leaves_of (commas assign (map about (e ∷ es)) ++ (last_comma last ++ the_sign sign.RightBrace ∷ [])) (home_nesting i.home) r)
      → ((vs : List Lexeme) → Met T vs r → run T vs (item_end i z (initialiser.List at (done ++ e ∷ es) last)) ≡ v) → run T ts (operand [] (m.list_ i z at done)) ≡ v
  values_run i z at done e [] false fits r ts w mt go =
      let p = fit 1 e _ fits in
      (complete T e p.fits).all p.level [] (m.list_ i z at done) p.level _ (follow_none _ _ refl) ts w mt
      (λ xs mx. took T (have e [] (m.list_ i z at done)) (item_end i z (initialiser.List at (done ++ e ∷ []) false)) xs w (λ q st. refl) mx go)
  values_run i z at done e [] true fits r ts w mt go =
      let p = fit 1 e _ fits in
      (complete T e p.fits).all p.level [] (m.list_ i z at done) p.level _ (follow_comma _ _ refl) ts w mt
      (λ xs mx. took T (have e [] (m.list_ i z at done)) (value_after i z at (done ++ e ∷ [])) xs w (λ q st. refl) mx
      (λ ys my. took T (value_after i z at (done ++ e ∷ [])) (item_end i z (initialiser.List at (done ++ e ∷ []) true)) ys w (λ q st. refl) my go))
  values_run i z at done e (f ∷ es) last fits r ts w mt go =
      let p = fit 1 e _ fits in
      (complete T e p.fits).all p.level [] (m.list_ i z at done) p.level _ (follow_comma _ _ refl) ts w mt
      (λ xs mx. took T (have e [] (m.list_ i z at done)) (value_after i z at (done ++ e ∷ [])) xs w (λ q st. refl) mx
      (λ ys my. skip T (value_after i z at (done ++ e ∷ [])) (operand [] (m.list_ i z at (done ++ e ∷ []))) refl ys
      (λ t st. ap (λ b. cond b (goes (home_nesting i.home) (item_end i z (initialiser.List at (done ++ e ∷ []) true))) (step (operand [] (m.list_ i z at (done ++ e ∷ []))) t)) (not_sign t.word sign.RightBrace st refl)) (value_head f es _ _ _) my
      ∙ values_run i z at (done ++ e ∷ []) f es last p.rest r ys w my (λ zs mz. ap (λ l. run T zs (item_end i z (initialiser.List at l last))) (append_assoc done (e ∷ []) (f ∷ es)) ∙ go zs mz)))
    where
      value_head : (e : Expr) (es : List Expr) (ps : List Part) (n : ℕ) (r : List Leaf) → starts (head_sign (leaves_of (commas assign (map about (e ∷ es)) ++ ps) n r)) ≡ true
      value_head e [] ps n r = heads e _ _
      value_head e (f ∷ es) ps n r = heads e _ _

  ended_value : (i : Naming) (z : Size) (e : Expr) (r : List Leaf) (ts : List Lexeme) → Ends sign.Semicolon r → Met T ts r → run T ts (have e [] (m.value_ i z)) ≡ run T ts (item_end i z (initialiser.Value e))
  ended_value i z e r ts (by_comma h) mt = alike T (have e [] (m.value_ i z)) (item_end i z (initialiser.Value e)) ts r refl (λ t st. same_step (sign_of_word t.word) (st ∙ h)) mt
    where
      same_step : (s : Sign) → s ≡ sign.Comma → offer s e [] (m.value_ i z) ≡ m.on_item_end i z (initialiser.Value e) s
      same_step s is = subst (λ s. offer s e [] (m.value_ i z) ≡ m.on_item_end i z (initialiser.Value e) s) (sym is) refl
  ended_value i z e r ts (by_close h) mt = alike T (have e [] (m.value_ i z)) (item_end i z (initialiser.Value e)) ts r refl (λ t st. same_step (sign_of_word t.word) (st ∙ h)) mt
    where
      same_step : (s : Sign) → s ≡ sign.Semicolon → offer s e [] (m.value_ i z) ≡ m.on_item_end i z (initialiser.Value e) s
      same_step s is = subst (λ s. offer s e [] (m.value_ i z) ≡ m.on_item_end i z (initialiser.Value e) s) (sym is) refl

  ends_binds : (r : List Leaf) → Ends sign.Semicolon r → (l : ℕ) → Follow l r
  ends_binds r (by_comma h) l = follow_comma l r (ap binds h)
  ends_binds r (by_close h) l = follow_none l r (ap binds h)

  initials : (i : Naming) (z : Size) (x : Initialiser) → all_fit (initialised x) ≡ true → (r : List Leaf) → Ends sign.Semicolon r → (ts : List Lexeme) (v : Outcome) → Met T ts (leaves_of (initialised x) (home_nesting i.home) r)
      → ((vs : List Lexeme) → Met T vs r → run T vs (item_end i z x) ≡ v) → run T ts (item_sized i z) ≡ v
  initials i z initialiser.Absent fits r (by_comma h) ts w mt go = alike T (item_sized i z) (item_end i z initialiser.Absent) ts r refl (λ t st. subst (λ s. m.on_sized i z s ≡ m.on_item_end i z initialiser.Absent s) (sym (st ∙ h)) refl) mt ∙ go ts mt
  initials i z initialiser.Absent fits r (by_close h) ts w mt go = alike T (item_sized i z) (item_end i z initialiser.Absent) ts r refl (λ t st. subst (λ s. m.on_sized i z s ≡ m.on_item_end i z initialiser.Absent s) (sym (st ∙ h)) refl) mt ∙ go ts mt
  initials i z (initialiser.Value e) fits r ends ts w mt go =
      let p = fit 1 e true fits in
      took T (item_sized i z) (item_valued i z) ts w (λ q st. refl) mt
      (λ vs mv. skip T (item_valued i z) (operand [] (m.value_ i z)) refl vs
      (λ t st. ap (λ b. cond b (goes (home_nesting i.home) (operand [] (m.list_ i z t.at []))) (step (operand [] (m.value_ i z)) t)) (not_sign t.word sign.LeftBrace st refl)) (heads e _ _) mv
      ∙ (complete T e p.fits).all p.level [] (m.value_ i z) p.level r (ends_binds r ends _) vs w mv
      (λ xs mx. ended_value i z e r xs ends mx ∙ go xs mx))
  initials i z (initialiser.List at [] last) fits r ends ts w mt go = absurd cc
  initials i z (initialiser.List at (e ∷ es) last) fits r ends ts w mt go =
      took T (item_sized i z) (item_valued i z) ts w (λ q st. refl) mt
      (λ vs mv. took T (item_valued i z) (operand [] (m.list_ i z at [])) vs w (λ q st. ap (λ p. goes (home_nesting i.home) (operand [] (m.list_ i z p []))) (sym st)) mv
      (λ xs mx. values_run i z at [] e es last fits r xs w mx go))

  -- ---- objects

  abbrev naming : At → TypeWords → List Item → Home → Item → Naming
  naming at t is h i = record { at = at; words = t; done = is; home = h; name = i.name }

  initial_head : (x : Initialiser) (r : List Leaf) (n : ℕ) → Ends sign.Semicolon r → same (head_sign (leaves_of (initialised x) n r)) sign.LeftBracket ≡ false
  initial_head initialiser.Absent r n (by_comma h) = ap (λ s. same s sign.LeftBracket) h
  initial_head initialiser.Absent r n (by_close h) = ap (λ s. same s sign.LeftBracket) h
  initial_head (initialiser.Value e) r n ends = refl
  initial_head (initialiser.List at [] last) r n ends = refl
  initial_head (initialiser.List at (e ∷ es) last) r n ends = refl

  object_run : (k : Naming) (z : Size) (x : Initialiser) → all_fit (sized z ++ initialised x) ≡ true → (r : List Leaf) → Ends sign.Semicolon r → (ts : List Lexeme) (v : Outcome) → Met T ts (leaves_of (sized z ++ initialised x) (home_nesting k.home) r)
      → ((vs : List Lexeme) → Met T vs r → run T vs (item_end k z x) ≡ v) → run T ts (item_named k) ≡ v
  object_run k z x fits r ends ts w mt go = sizes k z (initialised x) fits r ts w (initial_head x r _ ends) mt (λ vs mv. initials k z x (behind_size z x fits) r ends vs w mv go)
    where
      behind_size : (z : Size) (x : Initialiser) → all_fit (sized z ++ initialised x) ≡ true → all_fit (initialised x) ≡ true
      behind_size size.Scalar x h = h
      behind_size size.Absent x h = h
      behind_size (size.Given e) x h = (fit 2 e _ h).rest

  first_fits : (j : Item) (is : List Item) → all_fit (commas piece (map declarator (j ∷ is)) ++ the_sign sign.Semicolon ∷ []) ≡ true → all_fit (sized j.size ++ initialised j.initialiser) ≡ true
  first_fits j [] h = (and_parts (declarator j).fits true h).0
  first_fits j (l ∷ is) h = (and_parts (declarator j).fits _ h).0

  objects_run : (at : At) (t : TypeWords) (done : List Item) (h : Home) (i : Item) (is : List Item) → all_fit (commas piece (map declarator (i ∷ is)) ++ the_sign sign.Semicolon ∷ []) ≡ true → (r : List Leaf) (ts : List Lexeme) (v : Outcome) (s : State)
      → ((vs : List Lexeme) (ps : List Part) → Met T vs (leaf (a_name i.name.bytes) (Some i.name.at) (home_nesting h) ∷ leaves_of (sized i.size ++ initialised i.initialiser) (home_nesting h) (leaves_of ps (home_nesting h) r)) → Ends sign.Semicolon (leaves_of ps (home_nesting h) r)
      → ((xs : List Lexeme) → Met T xs (leaves_of ps (home_nesting h) r) → run T xs (item_end (naming at t done h i) i.size i.initialiser) ≡ v) → run T vs s ≡ v)
      → Met T ts (leaves_of (commas piece (map declarator (i ∷ is)) ++ the_sign sign.Semicolon ∷ []) (home_nesting h) r)
      → ((vs : List Lexeme) → Met T vs r → run T vs (conclude h (declaration.Objects at t (done ++ i ∷ is))) ≡ v) → run T ts s ≡ v
  objects_run at t done h i [] fits r ts w s enter mt go = enter ts (the_sign sign.Semicolon ∷ []) mt (by_close refl)
      (λ xs mx. took T (item_end (naming at t done h i) i.size i.initialiser) (conclude h (declaration.Objects at t (done ++ i ∷ []))) xs w (λ q st. refl) mx go)
  objects_run at t done h i (j ∷ is) fits r ts w s enter mt go =
      let more = (and_parts (declarator i).fits _ fits).1 in
      enter ts (the_sign sign.Comma ∷ (commas piece (map declarator (j ∷ is)) ++ the_sign sign.Semicolon ∷ [])) mt (by_comma refl)
      (λ xs mx. took T (item_end (naming at t done h i) i.size i.initialiser) (item_next at t (done ++ i ∷ []) h) xs w (λ q st. refl) mx
      (λ ys my. objects_run at t (done ++ i ∷ []) h j is more r ys w (item_next at t (done ++ i ∷ []) h)
      (λ vs ps mv ends k. took T (item_next at t (done ++ i ∷ []) h) (item_named (naming at t (done ++ i ∷ []) h j)) vs w (λ q st. ap (λ z. goes (home_nesting h) (item_named (record { at = at; words = t; done = done ++ i ∷ []; home = h; name = m.identifier z j.name.bytes }))) (sym st)) mv
      (λ zs mz. object_run (naming at t (done ++ i ∷ []) h j) j.size j.initialiser (first_fits j is more) _ ends zs w mz k)) my
      (λ zs mz. ap (λ l. run T zs (conclude h (declaration.Objects at t l))) (append_assoc done (i ∷ []) (j ∷ is)) ∙ go zs mz)))

  type_fits : (t : TypeWords) (ps : List Part) → all_fit (type t ++ ps) ≡ true → all_fit ps ≡ true
  type_fits words.Char ps h = h
  type_fits words.SignedChar ps h = h
  type_fits words.CharSigned ps h = h
  type_fits words.UnsignedChar ps h = h
  type_fits words.CharUnsigned ps h = h
  type_fits words.Int ps h = h
  type_fits words.Signed ps h = h
  type_fits words.SignedInt ps h = h
  type_fits words.IntSigned ps h = h
  type_fits words.Unsigned ps h = h
  type_fits words.UnsignedInt ps h = h
  type_fits words.IntUnsigned ps h = h

  typing : (at : At) (h : Home) (s : State) → Opens s h → Typing T (Some at) s (λ t. declaring at (gives.Value t) h) (home_nesting h)
  typing at h s o = record {
    begins = λ x t is p st. o.with_type x t is p ∙ ap (λ z. goes (home_nesting h) (declaring z (gives.Value t) h)) (sym st);
    extends = λ t x t2 is p. ap (λ y. m.on_declaring p at (gives.Value t) (a_sign x) y h) is;
  }

  -- the name behind a type
  first_name : (at : At) (t : TypeWords) (h : Home) (n : Identifier) (p : At) → n.at ≡ p → step (declaring at (gives.Value t) h) (lex (a_name n.bytes) p) ≡ Some (home_nesting h, m.declared at (gives.Value t) n h)
  first_name at t h n p st = ap (λ y. m.on_declaring p at (gives.Value t) (a_name n.bytes) y h) (joined_other t) ∙ ap (λ z. goes (home_nesting h) (m.declared at (gives.Value t) (m.identifier z n.bytes) h)) (sym st)

  objects_head : (z : Size) (x : Initialiser) (r : List Leaf) (n : ℕ) → Ends sign.Semicolon r → same (head_sign (leaves_of (sized z ++ initialised x) n r)) sign.LeftParen ≡ false
  objects_head size.Absent x r n e = refl
  objects_head (size.Given y) x r n e = refl
  objects_head size.Scalar initialiser.Absent r n (by_comma h) = ap (λ s. same s sign.LeftParen) h
  objects_head size.Scalar initialiser.Absent r n (by_close h) = ap (λ s. same s sign.LeftParen) h
  objects_head size.Scalar (initialiser.Value e) r n ends = refl
  objects_head size.Scalar (initialiser.List at [] last) r n ends = refl
  objects_head size.Scalar (initialiser.List at (e ∷ es) last) r n ends = refl

  no_paren : (at : At) (t : TypeWords) (n : Identifier) (h : Home) (s : Sign) → same s sign.LeftParen ≡ false → m.on_declared at (gives.Value t) n h s ≡ m.on_named (record { at = at; words = t; done = []; home = h; name = n }) s
  no_paren at t n h sign.LeftParen e = absurd cc
  no_paren at t n h s e = refl

  -- ---- parameters

  abbrev parameter_of : At → TypeWords → Option Identifier → Parameter
  parameter_of at t n = record { at = at; words = t; name = n }

  named_parameter : (k : Heading) (done : List Parameter) (at : At) (t : TypeWords) (n : Option Identifier) (r : List Leaf) → Ends sign.RightParen r → (ts : List Lexeme) (v : Outcome) → Met T ts (leaves_of (maybe_name n) (home_nesting k.home) r)
      → ((vs : List Lexeme) → Met T vs r → run T vs (parameter_ended k (done ++ parameter_of at t n ∷ [])) ≡ v) → run T ts (parameter_typed k done at t) ≡ v
  named_parameter k done at t (Some n) r ends ts w mt go = took T (parameter_typed k done at t) (parameter_ended k (done ++ parameter_of at t (Some n) ∷ [])) ts w (λ q st. ap (λ y. m.on_typed q (a_name n.bytes) y k done at t) (joined_other t) ∙ ap (λ z. goes (home_nesting k.home) (parameter_ended k (done ++ parameter_of at t (Some (m.identifier z n.bytes)) ∷ []))) (sym st)) mt go
  named_parameter k done at t None r ends ts w mt go = alike T (parameter_typed k done at t) (parameter_ended k (done ++ parameter_of at t None ∷ [])) ts r refl (λ l st. unnamed l.at l.word ends st) mt ∙ go ts mt
    where
      at_sign : (p : At) (x : Sign) (y : Word) → sign_of_word y ≡ x → joined t x ≡ None → (same x sign.Other ≡ false) → m.on_typed p y (joined t (sign_of_word y)) k done at t ≡ m.on_parameter_end k (done ++ parameter_of at t None ∷ []) (sign_of_word y)
      at_sign p x (a_name n) is no_join other = absurd (no_true (sym other ∙ ap (λ s. same s sign.Other) (sym is)))
        where
          no_true : false ≡ true → ⊥
          no_true e = absurd cc
      at_sign p x (a_number v d u) is no_join other = ap (λ z. m.on_typed p (a_number v d u) z k done at t) (joined_other t)
      at_sign p x (a_character v) is no_join other = ap (λ z. m.on_typed p (a_character v) z k done at t) (joined_other t)
      at_sign p x (a_sign s) is no_join other = ap (λ z. m.on_typed p (a_sign s) z k done at t) (ap (λ y. joined t y) is ∙ no_join)

      unnamed : (p : At) (y : Word) → Ends sign.RightParen r → sign_of_word y ≡ head_sign r → m.on_typed p y (joined t (sign_of_word y)) k done at t ≡ m.on_parameter_end k (done ++ parameter_of at t None ∷ []) (sign_of_word y)
      unnamed p y (by_comma h) st = at_sign p sign.Comma y (st ∙ h) (joined_comma t) refl
      unnamed p y (by_close h) st = at_sign p sign.RightParen y (st ∙ h) (joined_close t) refl

  abbrev listing : List Parameter → List Part → List Part
  listing ps more = commas piece (map parameter ps) ++ the_sign sign.RightParen ∷ more

  parameters_run : (k : Heading) (done : List Parameter) (p : Parameter) (ps : List Parameter) (more : List Part) (r : List Leaf) (ts : List Lexeme) (v : Outcome) (s : State)
      → Typing T (Some p.at) s (λ t. parameter_typed k done p.at t) (home_nesting k.home)
      → Met T ts (leaves_of (listing (p ∷ ps) more) (home_nesting k.home) r)
      → ((vs : List Lexeme) → Met T vs (leaves_of more (home_nesting k.home) r) → run T vs (header k (parameters.List (done ++ p ∷ ps))) ≡ v) → run T ts s ≡ v
  parameters_run k done p [] more r ts w s y mt go =
      typed T (Some p.at) s (λ t. parameter_typed k done p.at t) _ y p.words _ ts w (met_as T ts _ _ (type_at_leaves T p.at p.words (maybe_name p.name) _ _) mt)
      (λ vs mv. named_parameter k done p.at p.words p.name _ (by_close refl) vs w mv
      (λ xs mx. took T (parameter_ended k (done ++ p ∷ [])) (header k (parameters.List (done ++ p ∷ []))) xs w (λ q st. refl) mx go))
  parameters_run k done p (q ∷ ps) more r ts w s y mt go =
      typed T (Some p.at) s (λ t. parameter_typed k done p.at t) _ y p.words _ ts w (met_as T ts _ _ (type_at_leaves T p.at p.words (maybe_name p.name) _ _) mt)
      (λ vs mv. named_parameter k done p.at p.words p.name _ (by_comma refl) vs w mv
      (λ xs mx. took T (parameter_ended k (done ++ p ∷ [])) (parameter_next k (done ++ p ∷ [])) xs w (λ z st. refl) mx
      (λ ys my. parameters_run k (done ++ p ∷ []) q ps more r ys w (parameter_next k (done ++ p ∷ [])) (next q) my
      (λ zs mz. ap (λ l. run T zs (header k (parameters.List l))) (append_assoc done (p ∷ []) (q ∷ ps)) ∙ go zs mz))))
    where
      next : (q : Parameter) → Typing T (Some q.at) (parameter_next k (done ++ p ∷ [])) (λ t. parameter_typed k (done ++ p ∷ []) q.at t) (home_nesting k.home)
      next q = record {
        begins = λ x t is z st. ap (λ o. m.on_parameter z o k (done ++ p ∷ [])) is ∙ ap (λ o. goes (home_nesting k.home) (parameter_typed k (done ++ p ∷ []) o t)) (sym st);
        extends = λ t x t2 is z. ap (λ o. m.on_typed z (a_sign x) o k (done ++ p ∷ []) q.at t) is;
      }

  listed_run : (k : Heading) (ps : Parameters) (more : List Part) → all_fit (listed ps ++ the_sign sign.RightParen ∷ more) ≡ true → (r : List Leaf) (ts : List Lexeme) (v : Outcome)
      → Met T ts (leaves_of (listed ps ++ the_sign sign.RightParen ∷ more) (home_nesting k.home) r)
      → ((vs : List Lexeme) → Met T vs (leaves_of more (home_nesting k.home) r) → run T vs (header k ps) ≡ v) → run T ts (parameters_first k) ≡ v
  listed_run k parameters.Empty more fits r ts w mt go = took T (parameters_first k) (header k parameters.Empty) ts w (λ q st. refl) mt go
  listed_run k parameters.Void more fits r ts w mt go = took T (parameters_first k) (expect sign.RightParen (home_nesting k.home) (header k parameters.Void)) ts w (λ q st. refl) mt
      (λ vs mv. took T (expect sign.RightParen (home_nesting k.home) (header k parameters.Void)) (header k parameters.Void) vs w (λ q st. refl) mv go)
  listed_run k (parameters.List []) more fits r ts w mt go = absurd cc
  listed_run k (parameters.List (p ∷ ps)) more fits r ts w mt go = parameters_run k [] p ps more r ts w (parameters_first k) first_typing mt go
    where
      first_type : (z : At) (x : Sign) (t : TypeWords) → type_of x ≡ Some t → m.on_parameters z x k ≡ goes (home_nesting k.home) (parameter_typed k [] z t)
      first_type z sign.Char t is = ap (λ o. m.on_parameter z o k []) is
      first_type z sign.Int t is = ap (λ o. m.on_parameter z o k []) is
      first_type z sign.Signed t is = ap (λ o. m.on_parameter z o k []) is
      first_type z sign.Unsigned t is = ap (λ o. m.on_parameter z o k []) is
      first_type z _ t is = absurd cc

      first_typing : Typing T (Some p.at) (parameters_first k) (λ t. parameter_typed k [] p.at t) (home_nesting k.home)
      first_typing = record {
        begins = λ x t is z st. first_type z x t is ∙ ap (λ o. goes (home_nesting k.home) (parameter_typed k [] o t)) (sym st);
        extends = λ t x t2 is z. ap (λ o. m.on_typed z (a_sign x) o k [] p.at t) is;
      }

  -- ---- declarations

  abbrev heading : At → Return → Identifier → Home → Heading
  heading at g n h = record { at = at; gives = g; name = n; home = h }

  called_fits : (n : Identifier) (ps : Parameters) (more : List Part) → all_fit (called n ps more) ≡ true → all_fit (listed ps ++ the_sign sign.RightParen ∷ more) ≡ true
  called_fits n ps more h = h

  -- up to the closing parenthesis of a function's parameters
  pub heading_run : (at : At) (g : Return) (n : Identifier) (ps : Parameters) (more : List Part) (h : Home) (s : State) → Opens s h → all_fit (returned g ++ called n ps more) ≡ true → (r : List Leaf) (ts : List Lexeme) (v : Outcome)
      → Met T ts (leaves_at at (returned g ++ called n ps more) (home_nesting h) r)
      → ((vs : List Lexeme) → Met T vs (leaves_of more (home_nesting h) r) → run T vs (header (heading at g n h) ps) ≡ v) → run T ts s ≡ v
  heading_run at gives.Void n ps more h s o fits r ts w mt go =
      took T s (declaring at gives.Void h) ts w (λ q st. o.with_void q ∙ ap (λ z. goes (home_nesting h) (declaring z gives.Void h)) (sym st)) mt
      (λ vs mv. took T (declaring at gives.Void h) (m.declared at gives.Void n h) vs w (λ q st. ap (λ z. goes (home_nesting h) (m.declared at gives.Void (m.identifier z n.bytes) h)) (sym st)) mv
      (λ xs mx. took T (m.declared at gives.Void n h) (parameters_first (heading at gives.Void n h)) xs w (λ z st. refl) mx
      (λ ys my. listed_run (heading at gives.Void n h) ps more fits r ys w my go)))
  heading_run at (gives.Value t) n ps more h s o fits r ts w mt go =
      typed T (Some at) s (λ y. declaring at (gives.Value y) h) _ (typing at h s o) t _ ts w (met_as T ts _ _ (type_at_leaves T at t (called n ps more) _ _) mt)
      (λ vs mv. took T (declaring at (gives.Value t) h) (m.declared at (gives.Value t) n h) vs w (λ q st. first_name at t h n q st) mv
      (λ xs mx. took T (m.declared at (gives.Value t) n h) (parameters_first (heading at (gives.Value t) n h)) xs w (λ z st. refl) mx
      (λ ys my. listed_run (heading at (gives.Value t) n h) ps more (type_fits t (called n ps more) fits) r ys w my go)))

  pub declaration_run : (d : Declaration) (h : Home) (s : State) → Opens s h → (declared d).fits ≡ true → (r : List Leaf) (ts : List Lexeme) (v : Outcome)
      → Met T ts ((declared d).leaves (home_nesting h) r)
      → ((vs : List Lexeme) → Met T vs r → run T vs (conclude h d) ≡ v) → run T ts s ≡ v
  declaration_run (declaration.Function at g n ps) h s o fits r ts w mt go = heading_run at g n ps (the_sign sign.Semicolon ∷ []) h s o (and_parts _ _ fits).1 r ts w mt
      (λ vs mv. took T (header (heading at g n h) ps) (conclude h (declaration.Function at g n ps)) vs w (λ q st. refl) mv go)
  declaration_run (declaration.Objects at t []) h s o fits r ts w mt go = absurd (nothing (type_fits t _ (and_parts _ _ fits).1))
    where
      nothing : all_fit (only false ∷ the_sign sign.Semicolon ∷ []) ≡ true → ⊥
      nothing e = absurd cc
  declaration_run (declaration.Objects at t (i ∷ is)) h s o fits r ts w mt go =
      typed T (Some at) s (λ y. declaring at (gives.Value y) h) _ (typing at h s o) t _ ts w (met_as T ts _ _ (type_at_leaves T at t _ _ _) mt)
      (λ vs mv. objects_run at t [] h i is (type_fits t _ (and_parts _ _ fits).1) r vs w (declaring at (gives.Value t) h)
      (λ xs ps mx ends k. took T (declaring at (gives.Value t) h) (m.declared at (gives.Value t) i.name h) xs w (λ q st. first_name at t h i.name q st) mx
      (λ ys my. alike T (m.declared at (gives.Value t) i.name h) (item_named (naming at t [] h i)) ys _ refl (λ l st. no_paren at t i.name h (sign_of_word l.word) (ap (λ x. same x sign.LeftParen) st ∙ objects_head i.size i.initialiser _ _ ends)) my
      ∙ object_run (naming at t [] h i) i.size i.initialiser (first_fits i is (type_fits t _ (and_parts _ _ fits).1)) _ ends ys w my k)) mv go)
