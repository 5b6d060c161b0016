-- The typed tree of a statement is regular, where the grammar says that each list of initialisers has a value.
use Rattle.std.proofs.Common.{◌≡◌, ℕ, nat_le, ◌&&◌, Bool, true, false, Option, Some, None, List, [], ◌∷◌, ◌++◌, map, refl, sym, subst}
use Rattle.std.proofs.lemmas.Bool.{and_from as both}
use Rattle.rtl_word.specs.Words.{IsWordSize}
use Rattle.c_tree.proofs.ExprFolds.{With}
use Rattle.c_tree.specs.declared.token.At.{At}
use Rattle.c_tree.specs.declared.types.CType.{CType}
use Rattle.c_tree.specs.declared.syntax.Expr.{Expr}
use Rattle.c_tree.specs.declared.syntax.TypeWords.{TypeWords}
use Rattle.c_tree.specs.declared.syntax.Size.{Size}
use Rattle.c_tree.specs.declared.syntax.Size.TheVariants as size
use Rattle.c_tree.specs.declared.syntax.Initialiser.{Initialiser}
use Rattle.c_tree.specs.declared.syntax.Initialiser.TheVariants as initialiser
use Rattle.c_tree.specs.declared.syntax.Item.{Item}
use Rattle.c_tree.specs.declared.syntax.Start.{Start}
use Rattle.c_tree.specs.declared.syntax.Start.TheVariants as start
use Rattle.c_tree.specs.declared.syntax.Declaration.{Declaration}
use Rattle.c_tree.specs.declared.syntax.Declaration.TheVariants as declaration
use Rattle.c_tree.specs.declared.syntax.Statement.{Statement}
use Rattle.c_tree.specs.declared.syntax.Statement.TheOpen as s
use Rattle.c_tree.specs.declared.syntax.Statement.TheViews.{roll-Statement}
use Rattle.c_tree.specs.declared.syntax.Statement.TheFolds.{fold-roll-Statement, ind-Statement, map-Statement}
use Rattle.c_tree.specs.declared.typed.Local.{Local}
use Rattle.c_tree.specs.declared.typed.LocalInit.TheVariants as init
use Rattle.c_tree.specs.declared.typed.Start as typed
use Rattle.c_tree.specs.declared.typed.Start.TheVariants as begin
use Rattle.c_tree.specs.declared.typed.TypedExpr.{TypedExpr}
use Rattle.c_tree.specs.declared.typed.Stat.{Stat}
use Rattle.c_tree.specs.declared.typed.Stat.TheVariants as stat
use Rattle.c_grammar.specs.declared.sign.Sign.{Sign}
use Rattle.c_grammar.specs.declared.sign.Sign.TheVariants as sign
use Rattle.c_grammar.specs.Operators.{type_signs}
use Rattle.c_grammar.specs.Phrases.{Part, Said, node, phrase, item, piece, the_sign, some, all_fit, begins_at, stands, each, commas}
use Rattle.c_grammar.specs.Grammar as grammar
use Rattle.c_typing.specs.declared.names.Around.{Around}
use Rattle.c_typing.specs.declared.names.Extent.{Extent}
use Rattle.c_typing.specs.declared.names.Extent.TheVariants as extent
use Rattle.c_typing.specs.Types.{type_of_words, converted}
use Rattle.c_typing.specs.Expressions.{Within, one, two, together}
use Rattle.c_typing.specs.Statements as st
use Rattle.c_typing.proofs.Trees.{no, left_of, right_of}
use Rattle.c_sound.proofs.Judged.{Kept, one_keeps, two_keeps, three_keeps, unless_keeps}
use Rattle.c_sound.proofs.Walked.{kept_keeps, joined_keeps}
use Rattle.naive_counts.specs.Homes.{init_filled, locals_filled, start_filled}
use Rattle.naive_regular.proofs.Constants.{is_word, constant_is_word}
use Rattle.naive_regular.proofs.Regular.{regular, all_regular, block_regular, declare_regular, evaluate_regular, if_regular, else_regular, while_regular, do_regular, for_regular, switch_regular, case_regular, default_regular, break_regular, continue_regular, return_regular}

abbrev any : {A : Type 0} → A → Bool
any x = true

whatever : {A : Type 0} (o : Option A) → Kept any o
whatever None = tt
whatever (Some x) = refl

-- ---- parts of a phrase

abbrev semicolon : Part
semicolon = the_sign sign.Semicolon

abbrev brace : Part
brace = the_sign sign.RightBrace

pub signs_fit : (ss : List Sign) (rest : List Part) → all_fit (grammar.signs ss ++ rest) ≡ true → all_fit rest ≡ true
signs_fit [] rest h = h
signs_fit (x ∷ ss) rest h = signs_fit ss rest h

sized_fit : (z : Size) (rest : List Part) → all_fit (grammar.sized z ++ rest) ≡ true → all_fit rest ≡ true
sized_fit size.Scalar rest h = h
sized_fit size.Absent rest h = h
sized_fit (size.Given e) rest h = right_of (stands 2 (grammar.about e)) _ h

maybe_fit : (e : Option Expr) (rest : List Part) → all_fit (grammar.maybe e ++ rest) ≡ true → all_fit rest ≡ true
maybe_fit None rest h = h
maybe_fit (Some e) rest h = right_of (grammar.about e).fits _ h

start_fit : (i : Start) (rest : List Part) → all_fit (grammar.started i ++ rest) ≡ true → all_fit rest ≡ true
start_fit start.Absent rest h = h
start_fit (start.Value e) rest h = right_of (grammar.about e).fits _ h
start_fit (start.Declared d) rest h = right_of (grammar.declared d).fits _ h

pub first_item : (a : Said) (more : List Said) (rest : List Part) → all_fit (commas piece (a ∷ more) ++ rest) ≡ true → a.fits ≡ true
first_item a [] rest h = left_of a.fits _ h
first_item a (b ∷ more) rest h = left_of a.fits _ h

pub other_items : (a : Said) (more : List Said) (rest : List Part) → all_fit (commas piece (a ∷ more) ++ rest) ≡ true → all_fit (commas piece more ++ rest) ≡ true
other_items a [] rest h = right_of a.fits _ h
other_items a (b ∷ more) rest h = right_of a.fits _ h

-- of the parts of a node
pub parts_fit : (at : At) (ps : List Part) → (begins_at at ps && all_fit ps) ≡ true → all_fit ps ≡ true
parts_fit at ps h = right_of (begins_at at ps) (all_fit ps) h

pub stands_fit : (k : ℕ) (a : Said) → stands k a ≡ true → a.fits ≡ true
stands_fit k a h = right_of (nat_le k a.level) a.fits h

module _ (g : Within) (z : IsWordSize g.bits) where
  abbrev Regular : Stat → Bool
  Regular = regular g.bits

  abbrev AllRegular : List Stat → Bool
  AllRegular = all_regular g.bits

  -- ---- declarations

  filled_values : (o : Option TypedExpr) (u : Option (List TypedExpr)) → Kept init_filled (one init.List (st.joined (st.single o) u))
  filled_values None u = tt
  filled_values (Some x) None = tt
  filled_values (Some x) (Some xs) = refl

  init_keeps : (h : st.Here) (t : CType) (x : Extent) (i : Initialiser) → all_fit (grammar.initialised i) ≡ true → Kept init_filled (st.initialised g h t x i).0
  init_keeps h t x initialiser.Absent f = refl
  init_keeps h t extent.Scalar (initialiser.Value e) f = one_keeps any init_filled (st.value_init t) (λ y q. refl) (st.value_at g h e).seen.tree (whatever _)
  init_keeps h t (extent.Elements m) (initialiser.Value e) f = tt
  init_keeps h t extent.Unknown (initialiser.Value e) f = tt
  init_keeps h t extent.Scalar (initialiser.List at es q) f = tt
  init_keeps h t (extent.Elements m) (initialiser.List at [] q) f = no f
  init_keeps h t extent.Unknown (initialiser.List at [] q) f = no f
  init_keeps h t (extent.Elements m) (initialiser.List at (e ∷ es) q) f = filled_values (one (converted t) (st.value_at g h e).seen.tree) (st.values t (map (st.value_at g h) es))
  init_keeps h t extent.Unknown (initialiser.List at (e ∷ es) q) f = filled_values (one (converted t) (st.value_at g h e).seen.tree) (st.values t (map (st.value_at g h) es))

  abbrev local_filled : Local → Bool
  local_filled l = init_filled l.init

  item_keeps : (c : Around) (h : st.Here) (t : CType) (i : Item) → (grammar.declarator i).fits ≡ true → Kept local_filled (st.item g c h t i).tree
  item_keeps c h t i f =
      let j = st.sized g h i.size in
      let x = st.extent_of g j.seen i.size i.initialiser in
      let inner = st.with_object h i.name.bytes i.name.at t (st.length_of x) in
      one_keeps init_filled local_filled (st.local_of _) (λ y q. q) (st.initialised g inner t x i.initialiser).0
      (init_keeps inner t x i.initialiser (sized_fit i.size (grammar.initialised i.initialiser) f))

  items_keep : (c : Around) (h : st.Here) (t : CType) (is : List Item) (rest : List Part) → all_fit (commas piece (map grammar.declarator is) ++ rest) ≡ true
      → Kept locals_filled (st.items g c h t is).tree
  items_keep c h t [] rest f = refl
  items_keep c h t (i ∷ is) rest f =
      joined_keeps local_filled locals_filled (λ u us p q. both _ _ p q) (st.item g c h t i).tree (st.items g c (st.item g c h t i).here t is).tree
      (item_keeps c h t i (first_item (grammar.declarator i) (map grammar.declarator is) rest f))
      (items_keep c (st.item g c h t i).here t is rest (other_items (grammar.declarator i) (map grammar.declarator is) rest f))

  -- behind the words of a type
  behind_type : (at : At) (is : List Item) (t : TypeWords) → (grammar.declared (declaration.Objects at t is)).fits ≡ true
      → all_fit (grammar.signs (type_signs t) ++ (some is ∷ commas piece (map grammar.declarator is) ++ semicolon ∷ [])) ≡ true
  behind_type at is t f = parts_fit at (grammar.type t ++ (some is ∷ commas piece (map grammar.declarator is) ++ semicolon ∷ [])) f

  objects_keep : (c : Around) (h : st.Here) (at : At) (t : TypeWords) (is : List Item) → (grammar.declared (declaration.Objects at t is)).fits ≡ true
      → Kept locals_filled (st.items g c h (type_of_words t) is).tree
  objects_keep c h at t [] f = refl
  objects_keep c h at t (i ∷ is) f = items_keep c h (type_of_words t) (i ∷ is) (semicolon ∷ [])
      (signs_fit (type_signs t) (some (i ∷ is) ∷ commas piece (map grammar.declarator (i ∷ is)) ++ semicolon ∷ []) (behind_type at (i ∷ is) t f))

  locals_keep : (c : Around) (h : st.Here) (d : Declaration) → (grammar.declared d).fits ≡ true → Kept locals_filled (st.locals_of g c h d).tree
  locals_keep c h (declaration.Objects at t is) f = objects_keep c h at t is f
  locals_keep c h (declaration.Function at r m ps) f = tt

  begun_keeps : (c : Around) (h : st.Here) (i : Start) (rest : List Part) → all_fit (grammar.started i ++ rest) ≡ true → Kept start_filled (st.begun g c h i).tree
  begun_keeps c h start.Absent rest f = refl
  begun_keeps c h (start.Value e) rest f = one_keeps any start_filled begin.Value (λ y q. refl) (st.expression_at g h e).seen.tree (whatever _)
  begun_keeps c h (start.Declared d) rest f =
      one_keeps locals_filled start_filled (begin.Declared (st.place_of_declaration g d)) (λ y q. q) (st.locals_of g c h d).tree
      (locals_keep c h d (left_of (grammar.declared d).fits _ f))

  for_keeps : (at : At) (i : Option typed.Start) (t u : Option (Option TypedExpr)) (a : Option Stat) → Kept start_filled i → Kept Regular a
      → Kept Regular (two (st.for_tree at) (together i t u) a)
  for_keeps at None t u a h k = tt
  for_keeps at (Some x) None u a h k = tt
  for_keeps at (Some x) (Some y) None a h k = tt
  for_keeps at (Some x) (Some y) (Some v) None h k = tt
  for_keeps at (Some x) (Some y) (Some v) (Some b) h k = for_regular g.bits at x y v b h k

  -- ---- statements

  abbrev pub Good : Statement → Type 0
  Good x = (grammar.about_statement x).fits ≡ true → (c : Around) (h : st.Here) → Kept Regular (st.walk g x c h).tree

  abbrev Layer : Type 0
  Layer = s.Statement-F (With Good)

  abbrev plain : Layer → s.Statement-F Statement
  plain y = map-Statement (With Good) Statement (λ e. e.0) y

  abbrev said : List (With Good) → List Said
  said ws = map grammar.about_statement (map (λ e. e.0) ws)

  abbrev walks : List (With Good) → List st.Walk
  walks ws = map (st.walk g) (map (λ e. e.0) ws)

  sequence_keeps : (c : Around) (h : st.Here) (ws : List (With Good)) (rest : List Part) → all_fit (each item (said ws) ++ rest) ≡ true
      → Kept AllRegular (st.sequence g c h (walks ws)).tree
  sequence_keeps c h [] rest f = refl
  sequence_keeps c h (v ∷ ws) rest f =
      let fits = (grammar.about_statement v.0).fits in
      joined_keeps Regular AllRegular (λ u us p q. both _ _ p q) (st.walk g v.0 c h).tree (st.sequence g c (st.walk g v.0 c h).here (walks ws)).tree
      (v.1 (left_of fits _ f) c h) (sequence_keeps c (st.walk g v.0 c h).here ws rest (right_of fits _ f))

  -- the parts of a `for` behind its last semicolon and behind its first part
  abbrev rest_of : Said → List Part
  rest_of a = the_sign sign.RightParen ∷ grammar.statement_part a ∷ []

  abbrev for_behind : Option Expr → Option Expr → Said → List Part
  for_behind t u a = grammar.maybe t ++ semicolon ∷ (grammar.maybe u ++ rest_of a)

  step : (y : Layer) → (grammar.statement (map-Statement Statement Said grammar.about_statement (plain y))).fits ≡ true → (c : Around) (h : st.Here)
      → Kept Regular (st.statement g (map-Statement Statement st.Walk (st.walk g) (plain y)) c h).tree
  step (s.Block at ws) f c h =
      let braces = grammar.braces (said ws) in
      let inner = stands_fit 0 (node at 0 braces) (left_of (stands 0 (node at 0 braces)) _ (parts_fit at (grammar.block at (said ws) ∷ []) f)) in
      one_keeps AllRegular Regular (stat.Block at) (λ u p. block_regular g.bits at u p) _ (sequence_keeps (st.in_block c h) h ws (brace ∷ []) inner)
  step (s.Declared d) f c h =
      one_keeps locals_filled Regular (stat.Declare (st.place_of_declaration g d)) (λ u p. declare_regular g.bits _ u p) (st.locals_of g c h d).tree (locals_keep c h d f)
  step (s.Evaluate at None) f c h = evaluate_regular g.bits at None
  step (s.Evaluate at (Some e)) f c h = one_keeps any Regular (st.evaluate at) (λ u p. evaluate_regular g.bits at (Some u)) (st.expression_at g h e).seen.tree (whatever (st.expression_at g h e).seen.tree)
  step (s.If at e a None) f c h =
      let fits = grammar.about_statement a.0 in
      let k = stands_fit 1 fits (left_of (stands 1 fits) _ (right_of (grammar.about e).fits _ f)) in
      two_keeps any Regular Regular (st.if_tree at) (λ u v p q. if_regular g.bits at u v q) (st.value_at g h e).seen.tree _ (whatever (st.value_at g h e).seen.tree) (a.1 k (st.plain c) h)
  step (s.If at e a (Some b)) f c h =
      let first = grammar.about_statement a.0 in
      let second = grammar.about_statement b.0 in
      let both_fit = right_of (grammar.about e).fits _ f in
      let k = stands_fit 2 first (left_of (stands 2 first) _ both_fit) in
      let l = stands_fit 1 second (left_of (stands 1 second) _ (right_of (stands 2 first) _ both_fit)) in
      three_keeps any Regular Regular Regular (st.if_else_tree at) (λ u v r p q i. else_regular g.bits at u v r q i) (st.value_at g h e).seen.tree _ _ (whatever (st.value_at g h e).seen.tree) (a.1 k (st.plain c) h)
      (b.1 l (st.plain c) (st.walk g a.0 (st.plain c) h).here)
  step (s.While at e a) f c h =
      let fits = grammar.about_statement a.0 in
      let k = stands_fit 1 fits (left_of (stands 1 fits) _ (right_of (grammar.about e).fits _ f)) in
      two_keeps any Regular Regular (stat.While at) (λ u v p q. while_regular g.bits at u v q) (st.value_at g h e).seen.tree _ (whatever (st.value_at g h e).seen.tree) (a.1 k (st.looped c) h)
  step (s.DoWhile at a e) f c h =
      let fits = grammar.about_statement a.0 in
      let k = stands_fit 1 fits (left_of (stands 1 fits) _ f) in
      two_keeps any Regular Regular (st.do_tree at) (λ u v p q. do_regular g.bits at u v q) (st.value_at g (st.walk g a.0 (st.looped c) h).here e).seen.tree _ (whatever (st.value_at g (st.walk g a.0 (st.looped c) h).here e).seen.tree) (a.1 k (st.looped c) h)
  step (s.For at i t u a) f c h =
      let fits = grammar.about_statement a.0 in
      let parts : all_fit (grammar.started i ++ for_behind t u fits) ≡ true = f in
      let k = stands_fit 1 fits (left_of (stands 1 fits) _ (maybe_fit u (rest_of fits) (maybe_fit t (semicolon ∷ (grammar.maybe u ++ rest_of fits)) (start_fit i (for_behind t u fits) parts)))) in
      for_keeps at _ _ _ _ (begun_keeps (st.in_block c h) h i (for_behind t u fits) parts) (a.1 k (st.looped c) (st.begun g (st.in_block c h) h i).here)
  step (s.Switch at e ws) f c h =
      let braces = phrase (grammar.braces (said ws)) in
      let inner = stands_fit 0 braces (left_of (stands 0 braces) _ (right_of (grammar.about e).fits _ f)) in
      two_keeps any AllRegular Regular (st.switch_tree at) (λ u us p q. switch_regular g.bits at _ us q) (st.value_at g h e).seen.tree _ (whatever (st.value_at g h e).seen.tree)
      (sequence_keeps (st.in_switch c h) (st.without_labels h) ws (brace ∷ []) inner)
  step (s.Case at e a) f c h =
      let fits = grammar.about_statement a.0 in
      let v = st.constant_of g.bits (st.expression_at g h e).seen.tree in
      let k = stands_fit 1 fits (left_of (stands 1 fits) _ (right_of (stands 2 (grammar.about e)) _ f)) in
      kept_keeps Regular c.labels_stand _
      (two_keeps (is_word g.bits z) Regular Regular (st.case_tree at) (λ m u p q. case_regular g.bits at m u p q) v _
      (constant_is_word g.bits z (st.expression_at g h e).seen.tree) (a.1 k c (st.with_case c h v)))
  step (s.Default at a) f c h =
      let fits = grammar.about_statement a.0 in
      let k = stands_fit 1 fits (left_of (stands 1 fits) _ f) in
      kept_keeps Regular c.labels_stand _ (one_keeps Regular Regular (stat.Default at) (λ u p. default_regular g.bits at u p) _ (a.1 k c (st.with_label c h None)))
  step (s.Break at) f c h = kept_keeps Regular c.breaks _ (break_regular g.bits at)
  step (s.Continue at) f c h = kept_keeps Regular c.loops _ (continue_regular g.bits at)
  step (s.Return at None) f c h = unless_keeps Regular (st.returns_wrong c.result false) (Some (stat.Return at None)) (return_regular g.bits at None)
  step (s.Return at (Some e)) f c h =
      unless_keeps Regular (st.returns_wrong c.result true) (one (st.return_tree at c.result) (st.value_at g h e).seen.tree)
      (one_keeps any Regular (st.return_tree at c.result) (λ u p. return_regular g.bits at (Some (converted c.result u))) (st.value_at g h e).seen.tree (whatever (st.value_at g h e).seen.tree))

  layer_good : (y : Layer) → Good (roll-Statement (plain y))
  layer_good y = λ f c h.
      let said_is = fold-roll-Statement Said grammar.statement (plain y) in
      let fits = subst (λ (a : Said). a.fits ≡ true) said_is f in
      subst (λ (x : st.Walk). Kept Regular (x c h).tree) (sym (fold-roll-Statement st.Walk (st.statement g) (plain y))) (step y fits c h)

  all_good : (x : Statement) → Good x
  all_good = ind-Statement Good (λ x y is. subst (λ v. Good (roll-Statement v)) is (layer_good y))

  pub list_keeps : (c : Around) (h : st.Here) (xs : List Statement) (rest : List Part) → all_fit (each item (map grammar.about_statement xs) ++ rest) ≡ true
      → Kept AllRegular (st.sequence g c h (map (st.walk g) xs)).tree
  list_keeps c h [] rest f = refl
  list_keeps c h (x ∷ xs) rest f =
      let fits = (grammar.about_statement x).fits in
      joined_keeps Regular AllRegular (λ u us p q. both _ _ p q) (st.walk g x c h).tree (st.sequence g c (st.walk g x c h).here (map (st.walk g) xs)).tree
      (all_good x (left_of fits _ f) c h) (list_keeps c (st.walk g x c h).here xs rest (right_of fits _ f))
