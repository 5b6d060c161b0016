-- The typed tree of a text that breaks no rule is regular.
use Rattle.std.proofs.Common.{◌≡◌, ℕ, suc, ◌≤◌, ◌==◌, nat_le, Bool, true, false, Option, Some, None, List, [], ◌∷◌, ◌++◌, map, length, refl, subst, ap, arith}
use Rattle.std.specs.List.{list_all}
use Rattle.std.specs.Option.{unwrap_or}
use Rattle.std.proofs.lemmas.Bool.{and_from as both}
use Rattle.std.proofs.lemmas.Bool.Decides.{nat_tests}
use Rattle.rtl_word.specs.Words.{IsWordSize}
use Rattle.c_tree.specs.declared.token.At.{At}
use Rattle.c_tree.specs.declared.syntax.Return.{Return}
use Rattle.c_tree.specs.declared.syntax.Return.TheVariants as gives
use Rattle.c_tree.specs.declared.syntax.Identifier.{Identifier}
use Rattle.c_tree.specs.declared.syntax.Parameter.{Parameter}
use Rattle.c_tree.specs.declared.syntax.Parameters.{Parameters}
use Rattle.c_tree.specs.declared.syntax.Parameters.TheVariants as parameters
use Rattle.c_tree.specs.declared.syntax.Declaration.TheVariants as declaration
use Rattle.c_tree.specs.declared.syntax.Statement.{Statement}
use Rattle.c_tree.specs.declared.syntax.External.{External}
use Rattle.c_tree.specs.declared.syntax.External.TheVariants as external
use Rattle.c_tree.specs.declared.syntax.Syntax.{Syntax}
use Rattle.c_tree.specs.declared.typed.Function.{Function}
use Rattle.c_tree.specs.declared.typed.Typed.{Typed}
use Rattle.c_grammar.specs.declared.sign.Sign.TheVariants as sign
use Rattle.c_grammar.specs.Operators.{type_signs}
use Rattle.c_grammar.specs.Phrases.{Part, node, item, piece, the_sign, stands, all_fit, each, commas}
use Rattle.c_grammar.specs.Grammar as grammar
use Rattle.c_typing.specs.Faults.{clean}
use Rattle.c_typing.specs.Expressions.{one}
use Rattle.c_typing.specs.Functions.{heading, headings, definition_of, signatures, parameter_list, return_type}
use Rattle.c_typing.specs.declared.names.Signature.{Signature}
use Rattle.c_typing.specs.Statements as st
use Rattle.c_typing.specs.Program as p
use Rattle.c_typing.proofs.Trees.{left_of, right_of}
use Rattle.c_sound.proofs.Judged.{Kept, one_keeps}
use Rattle.c_sound.proofs.Programs.{is_not, clean_of, Is_nothing}
use Rattle.naive_regular.specs.Regular.{is_regular_function, is_regular}
use Rattle.naive_regular.specs.Laws.{TypedIsRegular}
use Rattle.naive_regular.proofs.Regular.{all_regular, block_regular}
use Rattle.naive_regular.proofs.Walked.{signs_fit, other_items, parts_fit, stands_fit, list_keeps}

-- ---- parameters

one_more : {A : Type 0} (xs : List A) (x : A) → length (xs ++ x ∷ []) ≡ suc (length xs)
one_more [] x = refl
one_more (y ∷ xs) x = ap suc (one_more xs x)

room_for : (n k : ℕ) → k ≡ suc n → n ≤ 16 → (n == 16) ≡ false → k ≤ 16
room_for n k e h q = grind (arith, nat_tests, e, h, q)

parameter_count : (included : Bool) (start : ℕ) (defines : Bool) (a : p.Params) (x : Parameter) (m : Option Identifier)
    → clean (p.parameter_faults included start defines a x m) ≡ true → length a.objects ≤ 16 → length (p.with_parameter a x m).objects ≤ 16
parameter_count included start defines a x None e h = room_for (length a.objects) _ (one_more a.objects _) h (is_not _ 33 x.at (left_of _ _ e))
parameter_count included start defines a x (Some m) e h = room_for (length a.objects) _ (one_more a.objects _) h (is_not _ 33 x.at (left_of _ _ (left_of _ _ e)))

parameters_count : (included : Bool) (start : ℕ) (defines : Bool) (a : p.Params) (xs : List Parameter)
    → clean (p.parameters_faults included start defines a xs) ≡ true → length a.objects ≤ 16 → length (p.with_parameters a xs).objects ≤ 16
parameters_count included start defines a [] e h = h
parameters_count included start defines a (x ∷ xs) e h =
    parameters_count included start defines (p.with_parameter a x x.name) xs (right_of _ _ e) (parameter_count included start defines a x x.name (left_of _ _ e) h)

few : (n : ℕ) → n ≤ 16 → nat_le n 16 ≡ true
few n h = grind (arith, nat_tests, h)

-- ---- the parts of a heading

listed_fit : (ps : Parameters) (rest : List Part) → all_fit (grammar.listed ps ++ rest) ≡ true → all_fit rest ≡ true
listed_fit parameters.Empty rest h = h
listed_fit parameters.Void rest h = h
listed_fit (parameters.List []) rest h = right_of false _ h
listed_fit (parameters.List (x ∷ xs)) rest h = all_behind (x ∷ xs) h
  where
    all_behind : (ys : List Parameter) → all_fit (commas piece (map grammar.parameter ys) ++ rest) ≡ true → all_fit rest ≡ true
    all_behind [] k = k
    all_behind (y ∷ ys) k = all_behind ys (other_items (grammar.parameter y) (map grammar.parameter ys) rest k)

returned_fit : (r : Return) (rest : List Part) → all_fit (grammar.returned r ++ rest) ≡ true → all_fit rest ≡ true
returned_fit gives.Void rest h = h
returned_fit (gives.Value t) rest h = signs_fit (type_signs t) rest h

abbrev the_brace : Part
the_brace = the_sign sign.RightBrace

-- the parts of a body
body_fit : (at : At) (r : Return) (m : Identifier) (ps : Parameters) (brace : At) (body : List Statement) → (grammar.part (external.Defined at r m ps brace body)).fits ≡ true
    → all_fit (each item (map grammar.about_statement body) ++ the_brace ∷ []) ≡ true
body_fit at r m ps brace body f =
    let statements = map grammar.about_statement body in
    let braces = node brace 0 (grammar.braces statements) in
    let last = the_sign sign.RightParen ∷ grammar.block brace statements ∷ [] in
    let called = grammar.called m ps (grammar.block brace statements ∷ []) in
    let behind : all_fit last ≡ true = listed_fit ps last (returned_fit r called (parts_fit at (grammar.returned r ++ called) f)) in
    stands_fit 0 braces (left_of (stands 0 braces) _ behind)

module _ (first : List ℕ → Option ℕ) (ss : List Signature) (w : ℕ) (z : IsWordSize w) where
  abbrev functions_regular : List Function → Bool
  functions_regular fs = list_all (is_regular_function w) fs

  -- ---- a definition

  body_keeps : (f : p.File) (r : Return) (m : Identifier) (ps : Parameters) (brace : At) (body : List Statement) (rest : List Part)
      → clean (p.faults_of_parameters f true ps) ≡ true → all_fit (each item (map grammar.about_statement body) ++ rest) ≡ true
      → Kept (is_regular_function w)
      (let q = p.parameters_of f ps in
      let x = st.sequence (p.within ss w f) (p.around_body (return_type r) (length f.names)) (record { names = q.names; locals = []; labels = [] }) (map (st.walk (p.within ss w f)) body) in
      one (p.function_tree brace m (return_type r) q.objects x.here.locals) x.tree)
  body_keeps f r m ps brace body rest e fits =
      let g = p.within ss w f in
      let q = p.parameters_of f ps in
      let h : st.Here = record { names = q.names; locals = []; labels = [] } in
      let c = p.around_body (return_type r) (length f.names) in
      let x = st.sequence g c h (map (st.walk g) body) in
      let many = few (length q.objects) (parameters_count f.included (length f.names) true (p.no_parameters f) (parameter_list ps) e (omega arith)) in
      one_keeps (all_regular w) (is_regular_function w) (p.function_tree brace m (return_type r) q.objects x.here.locals) (λ us k. both _ _ many (block_regular w brace us k)) x.tree
      (list_keeps g z c h body rest fits)

  appended : (fs gs : List Function) → functions_regular fs ≡ true → functions_regular gs ≡ true → functions_regular (fs ++ gs) ≡ true
  appended [] gs h k = k
  appended (f ∷ fs) gs h k = both _ _ (left_of (is_regular_function w f) _ h) (appended fs gs (right_of (is_regular_function w f) _ h) k)

  joined_keep : (a b : Option (List Function)) → Kept functions_regular a → Kept functions_regular b → Kept functions_regular (st.joined a b)
  joined_keep None b h k = tt
  joined_keep (Some fs) None h k = tt
  joined_keep (Some fs) (Some gs) h k = appended fs gs h k

  single_keeps : (o : Option Function) → Kept (is_regular_function w) o → Kept functions_regular (st.single o)
  single_keeps None h = tt
  single_keeps (Some f) h = both _ _ h refl

  -- ---- the parts of the file

  part_keeps : (f : p.File) (x : External) → (grammar.part x).fits ≡ true → clean (p.part first ss w f x).faults ≡ true → Kept functions_regular (p.part first ss w f x).functions
  part_keeps f (external.Include at) fits e = refl
  part_keeps f (external.Declared (declaration.Objects at u is)) fits e = refl
  part_keeps f (external.Declared (declaration.Function at r m ps)) fits e = refl
  part_keeps f (external.Defined at r m ps brace body) fits e =
      let g = p.with_heading f (heading m.bytes r ps true) in
      single_keeps _ (body_keeps g r m ps brace body (the_brace ∷ []) (left_of _ _ (right_of _ _ e)) (body_fit at r m ps brace body fits))

  parts_keep : (f : p.File) (xs : List External) (rest : List Part) → all_fit (each piece (map grammar.part xs) ++ rest) ≡ true
      → clean (p.all_parts first ss w f xs).faults ≡ true → Kept functions_regular (p.all_parts first ss w f xs).functions
  parts_keep f [] rest fits e = refl
  parts_keep f (x ∷ xs) rest fits e =
      let a = p.part first ss w f x in
      joined_keep a.functions (p.all_parts first ss w a.file xs).functions (part_keeps f x (left_of (grammar.part x).fits _ fits) (left_of _ _ e))
      (parts_keep a.file xs rest (right_of (grammar.part x).fits _ fits) (right_of _ _ e))

-- ---- the whole

module _ (w : ℕ) (s : Syntax) (z : IsWordSize w) (fits : (grammar.program s).fits ≡ true) (faultless : clean (p.program w s).faults ≡ true) where
  abbrev a : p.Parts
  a = p.all_parts (definition_of (headings s.parts)) (signatures s.parts) w p.nothing s.parts

  whole : Kept (λ fs. list_all (is_regular_function w) fs) a.functions
  whole = parts_keep (definition_of (headings s.parts)) (signatures s.parts) w z p.nothing s.parts _ fits (left_of _ _ faultless)

  of_tree : (t : Typed) (o : Option (List Function)) → a.functions ≡ o → one (p.typed a.file.statics) o ≡ Some t → is_regular w t ≡ true
  of_tree t None e i = absurd (subst Is_nothing i tt)
  of_tree t (Some fs) e i =
      subst (λ (u : Typed). is_regular w u ≡ true) (ap (λ o. unwrap_or o (p.typed a.file.statics fs)) i) (subst (Kept (λ fs. list_all (is_regular_function w) fs)) e whole)

pub typed_is_regular : TypedIsRegular
typed_is_regular w ts s t z spelled is = of_tree w s z spelled.fits (clean_of (p.program w s).faults is.sound) t _ refl is.tree
