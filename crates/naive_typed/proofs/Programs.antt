-- The typed tree of a source that breaks no rule is sound.
use Rattle.std.proofs.Common.{◌≡◌, ℕ, nat_le, Bool, true, false, ◌||◌, not, Option, Some, None, List, [], ◌∷◌, ◌++◌, map, length, slice_get, codes, refl, sym, ap, ◌∙◌, subst}
use Rattle.std.specs.Str.{bytes_eq}
use Rattle.std.specs.List.{list_all}
use Rattle.std.specs.Option.{unwrap_or}
use Rattle.std.proofs.lemmas.Bool.{and_from as both}
use Rattle.std.proofs.lemmas.Slice.Eq.{bytes_eq-Decides}
use Rattle.c_tree.specs.declared.token.At.{At}
use Rattle.c_tree.specs.declared.types.CType.{CType}
use Rattle.c_tree.specs.declared.types.CType.TheVariants as type
use Rattle.c_tree.specs.declared.syntax.Return.{Return}
use Rattle.c_tree.specs.declared.syntax.Identifier.{Identifier}
use Rattle.c_tree.specs.declared.syntax.Initialiser.{Initialiser}
use Rattle.c_tree.specs.declared.syntax.Item.{Item}
use Rattle.c_tree.specs.declared.syntax.Parameter.{Parameter}
use Rattle.c_tree.specs.declared.syntax.Parameters.{Parameters}
use Rattle.c_tree.specs.declared.syntax.Declaration.TheVariants as declaration
use Rattle.c_tree.specs.declared.syntax.Statement.{Statement}
use Rattle.c_tree.specs.declared.syntax.External.{External}
use Rattle.c_tree.specs.declared.syntax.External.TheVariants as external
use Rattle.c_tree.specs.declared.syntax.Syntax.{Syntax}
use Rattle.c_tree.specs.declared.typed.Variable.{Variable}
use Rattle.c_tree.specs.declared.typed.Variable.TheVariants as variable
use Rattle.c_tree.specs.declared.typed.Object.{Object}
use Rattle.c_tree.specs.declared.typed.Static.{Static}
use Rattle.c_tree.specs.declared.typed.Function.{Function}
use Rattle.c_tree.specs.declared.typed.Typed.{Typed}
use Rattle.c_tree.specs.declared.typed.Stat.{Stat}
use Rattle.c_typing.specs.declared.names.Meaning.{Meaning}
use Rattle.c_typing.specs.declared.names.Meaning.TheVariants as means
use Rattle.c_typing.specs.declared.names.Signature.{Signature}
use Rattle.c_typing.specs.Faults.{clean}
use Rattle.c_typing.specs.Types.{type_of_words}
use Rattle.c_typing.specs.Scopes.{Entry, meaning}
use Rattle.c_typing.specs.Expressions.{one}
use Rattle.c_typing.specs.Functions.{Heading, heading, headings, headings_in, definition_of, signatures, is_reserved, of_getchar, of_putchar, parameter_type, parameter_list, return_type}
use Rattle.c_typing.specs.Statements as st
use Rattle.c_typing.specs.Program as p
use Rattle.c_typing.proofs.Trees.{no, left_of, right_of}
use Rattle.c_limits.specs.Frames.{is_helper}
use Rattle.c_meaning.specs.Expressions.{Kind, missing}
use Rattle.c_meaning.specs.Run.{kind_by, kind_of, kind_in}
use Rattle.c_sound.specs.Sound.{is_scalar as is_single, is_array}
use Rattle.c_sound.proofs.Judged.{Kept}
use Rattle.c_sound.proofs.Walked.{Begins, same, further, next_in}
use Rattle.c_sound.proofs.Programs.{objects, object_at, many, one_behind, initialised_objects, initialised_names, is_not, denied, made_keeps, clean_of, Is_nothing}
use Rattle.naive_run.specs.Sound.{is_word, is_scalar, left_of as left_in, all_left, is_sound_function, is_sound}
use Rattle.naive_typed.specs.Laws.{TypedIsSound}
use Rattle.naive_typed.proofs.Nodes.{leaves, by_ends, block_leaves}
use Rattle.naive_typed.proofs.Judged.{Stands, Names, named_more, one_each, Signatures}
use Rattle.naive_typed.proofs.Walked.{list_good}
use Rattle.naive_typed.proofs.Headings.{Typed_as, Good_heading, All_good, headings_good, definitions, Makes_maybe, params_elements, functions_made, signatures_callable, Main, main_among, main_type}

-- ---- functions

when : (a b : Bool) → (a ≡ true → b ≡ true) → (not a || b) ≡ true
when true b h = h refl
when false b h = refl

unless_so : (a b : Bool) → not a ≡ true → (not a || b) ≡ true
unless_so true b h = no h
unless_so false b h = refl

-- a reserved name is that of a helper, so no source defines one
is_plain : (name : List ℕ) → is_reserved name ≡ false → not (is_helper name) ≡ true
is_plain [] e = refl
is_plain (a ∷ []) e = refl
is_plain (a ∷ b ∷ rest) e = ap not e

all_behind : {A : Type 0} (q : A → Bool) (xs : List A) (x : A) → list_all q xs ≡ true → q x ≡ true → list_all q (xs ++ x ∷ []) ≡ true
all_behind q [] x h i = both _ _ i refl
all_behind q (y ∷ xs) x h i = both _ _ (left_of _ _ h) (all_behind q xs x (right_of _ _ h) i)

parameter_scalar : (a : p.Params) (x : Parameter) (m : Option Identifier) → list_all is_scalar a.objects ≡ true → list_all is_scalar (p.with_parameter a x m).objects ≡ true
parameter_scalar a x None h = all_behind is_scalar a.objects _ h refl
parameter_scalar a x (Some m) h = all_behind is_scalar a.objects _ h refl

parameters_scalar : (a : p.Params) (xs : List Parameter) → list_all is_scalar a.objects ≡ true → list_all is_scalar (p.with_parameters a xs).objects ≡ true
parameters_scalar a [] h = h
parameters_scalar a (x ∷ xs) h = parameters_scalar (p.with_parameter a x x.name) xs (parameter_scalar a x x.name h)

-- ---- the parts of the file, of which the whole is this

module _ (kept : List ℕ) (w : ℕ) (t : Typed) (first : List ℕ → Option ℕ) (ss : List Signature) (calls : Signatures t ss) (ends : List Entry) (main : Main ss ends) where
  -- objects of the file alone
  abbrev kind : Variable → Kind
  kind (variable.Static x) = kind_of (slice_get (objects t.statics) x)
  kind (variable.Parameter x) = missing
  kind (variable.Local x) = missing

  stands_in : (f : Function) (m : Meaning) → Stands kind m → Stands (kind_in t f) m
  stands_in f (means.Scalar (variable.Static x) u) h = ap kind_of (object_at t.statics x) ∙ h
  stands_in f (means.Scalar (variable.Parameter x) u) h = no (ap is_single h)
  stands_in f (means.Scalar (variable.Local x) u) h = no (ap is_single h)
  stands_in f (means.Array (variable.Static x) u l) h = ap kind_of (object_at t.statics x) ∙ h
  stands_in f (means.Array (variable.Parameter x) u l) h = no (ap is_array h)
  stands_in f (means.Array (variable.Local x) u l) h = no (ap is_array h)
  stands_in f (means.Function i) h = tt
  stands_in f means.EndOfFile h = tt

  names_in : (f : Function) (es : List Entry) → Names kind es → Names (kind_in t f) es
  names_in f [] h = tt
  names_in f (e ∷ es) h = (stands_in f e.means h.0, names_in f es h.1)

  -- ---- objects

  record Good_file (f g : p.File) : Type 0 where
    grows : Begins (objects f.statics) (objects g.statics)
    names : Begins (objects g.statics) (objects t.statics) → Names kind f.names → Names kind g.names

  same_file : (f : p.File) → Good_file f f
  same_file f = record { grows = same (objects f.statics); names = λ a b. b }

  both_files : (f g h : p.File) → Good_file f g → Good_file g h → Good_file f h
  both_files f g h a b = record { grows = further _ _ _ a.grows b.grows; names = λ c d. b.names c (a.names (further _ _ _ b.grows c) d) }

  static_stands : (u : CType) (i : ℕ) (l : Option ℕ) (o : Object) → o.element ≡ u → o.length ≡ l → slice_get (objects t.statics) i ≡ Some o → Stands kind (p.means_static i u l)
  static_stands u i None o d e is = ap kind_of is ∙ (ap (kind_by o.element) e ∙ ap (λ (v : CType). kind_by v None) d)
  static_stands u i (Some m) o d e is = ap kind_of is ∙ (ap (kind_by o.element) e ∙ ap (λ (v : CType). kind_by v (Some m)) d)

  static_good : (f : p.File) (i : Item) (u : CType) (l : Option ℕ) (m : Option Meaning) → Good_file f (p.with_static f i u l m)
  static_good f i u l (Some m) = same_file f
  static_good f i u l None =
      let o : Object = record { name = i.name.bytes; element = u; length = l; at = i.name.at } in
      let s : Static = record { object = o; init = [] } in
      record {
        grows = (o ∷ [], one_behind f.statics s);
        names = λ a b. named_more kind f.names (p.entry i.name.bytes (p.means_static (length f.statics) u l)) b (static_stands u (length f.statics) l o refl refl
            (ap (slice_get (objects t.statics)) (sym (many f.statics)) ∙ next_in (objects f.statics) o (objects t.statics) (subst (λ os. Begins os (objects t.statics)) (one_behind f.statics s) a)));
      }

  given_good : (f : p.File) (i : Initialiser) (k : Option ℕ) (vs : List ℕ) → Good_file f (p.with_given f i k vs)
  given_good f i k vs = record {
    grows = subst (Begins (objects f.statics)) (sym (initialised_objects f i k vs)) (same (objects f.statics));
    names = λ a b. subst (Names kind) (sym (initialised_names f i k vs)) b;
  }

  item_good : (f : p.File) (u : CType) (i : Item) → Good_file f (p.static_item ss w f u i).0
  item_good f u i =
      let j = st.sized (p.within ss w f) (p.here_of f) i.size in
      let x = st.extent_of (p.within ss w f) j.seen i.size i.initialiser in
      let m = meaning f.names i.name.bytes in
      let inner = p.with_static f i u (st.length_of x) m in
      both_files f inner _ (static_good f i u (st.length_of x) m) (given_good inner i.initialiser (p.static_number f m) (p.static_values ss w inner u x i.initialiser).0)

  items_good : (f : p.File) (u : CType) (is : List Item) → Good_file f (p.static_items ss w f u is).0
  items_good f u [] = same_file f
  items_good f u (i ∷ is) = both_files f (p.static_item ss w f u i).0 _ (item_good f u i) (items_good (p.static_item ss w f u i).0 u is)

  -- ---- headings and parameters

  with_name_named : (k : Variable → Kind) (es : List Entry) (m : Option Meaning) (e : Entry) → Names k es → Stands k e.means → Names k (p.with_name es m e)
  with_name_named k es None e h i = named_more k es e h i
  with_name_named k es (Some m) e h i = h

  heading_good : (f : p.File) (h : Heading) → Good_file f (p.with_heading f h)
  heading_good f h = record { grows = same (objects f.statics); names = λ a b. with_name_named kind f.names (meaning f.names h.name) (p.entry h.name (means.Function f.above)) b tt }

  include_good : (f : p.File) → Good_file f (p.with_include f)
  include_good f =
      let g = p.with_heading f of_getchar in
      let x = both_files f g (p.with_heading g of_putchar) (heading_good f of_getchar) (heading_good g of_putchar) in
      record { grows = x.grows; names = x.names }

  record Good_params (k : Variable → Kind) (all : List Object) (a b : p.Params) : Type 0 where
    grows : Begins a.objects b.objects
    names : Begins b.objects all → Names k a.names → Names k b.names

  both_params : (k : Variable → Kind) (all : List Object) (a b c : p.Params) → Good_params k all a b → Good_params k all b c → Good_params k all a c
  both_params k all a b c x y = record { grows = further _ _ _ x.grows y.grows; names = λ d e. y.names d (x.names (further _ _ _ y.grows d) e) }

  module _ (k : Variable → Kind) (all : List Object) (kinds : (j : ℕ) → k (variable.Parameter j) ≡ kind_of (slice_get all j)) where
    parameter_good : (a : p.Params) (x : Parameter) (m : Option Identifier) → Good_params k all a (p.with_parameter a x m)
    parameter_good a x None = record { grows = (_ ∷ [], refl); names = λ c d. d }
    parameter_good a x (Some m) =
        let o : Object = record { name = m.bytes; element = parameter_type x; length = None; at = m.at } in
        record {
          grows = (o ∷ [], refl);
          names = λ c d. named_more k a.names (p.entry m.bytes (means.Scalar (variable.Parameter (length a.objects)) (parameter_type x))) d
              (kinds (length a.objects) ∙ ap kind_of (next_in a.objects o all c));
        }

    parameters_good : (a : p.Params) (xs : List Parameter) → Good_params k all a (p.with_parameters a xs)
    parameters_good a [] = record { grows = same a.objects; names = λ c d. d }
    parameters_good a (x ∷ xs) = both_params k all a (p.with_parameter a x x.name) _ (parameter_good a x x.name) (parameters_good (p.with_parameter a x x.name) xs)

  -- ---- bodies

  abbrev function_sound : Function → Bool
  function_sound f = is_sound_function kept w t f

  body_keeps : (f : p.File) → Names kind f.names → (r : Return) (m : Identifier) (ps : Parameters) (brace : At) (body : List Statement) → Good_heading ss ends (heading m.bytes r ps true)
      → clean (p.with_body ss w f r m ps brace body).faults ≡ true
      → Kept function_sound
      (let q = p.parameters_of f ps in
      let x = st.sequence (p.within ss w f) (p.around_body (return_type r) (length f.names)) (record { names = q.names; locals = []; labels = [] }) (map (st.walk (p.within ss w f)) body) in
      one (p.function_tree brace m (return_type r) q.objects x.here.locals) x.tree)
  body_keeps f named r m ps brace body good faultless =
      let g = p.within ss w f in
      let q = p.parameters_of f ps in
      let h : st.Here = record { names = q.names; locals = []; labels = [] } in
      let c = p.around_body (return_type r) (length f.names) in
      let x = st.sequence g c h (map (st.walk g) body) in
      let made = p.function_tree brace m (return_type r) q.objects x.here.locals in
      let plain = is_plain m.bytes good.plain in
      let typed : bytes_eq m.bytes (codes "main") ≡ true → Typed_as (heading m.bytes r ps true) type.Int [] = λ i.
      main_type ss ends main (heading m.bytes r ps true) good ((bytes_eq-Decides m.bytes (codes "main")).0 i) in
      let valued : return_type r ≡ type.Void → not (bytes_eq m.bytes (codes "main")) ≡ true = λ v. never_both (bytes_eq m.bytes (codes "main")) (λ i. no (ap is_word (sym v ∙ (typed i).0))) in
      let alone : bytes_eq m.bytes (codes "main") ≡ true → nat_le (length q.objects) 0 ≡ true = λ i.
      ap (λ (n : ℕ). nat_le n 0) (sym (one_each q.objects) ∙ ap length (params_elements (p.no_parameters f) (parameter_list ps) ∙ (typed i).1)) in
      made_keeps made function_sound x.tree (λ us e.
      (let k = kind_in t (made us) in
      let names = (parameters_good k q.objects (λ j. refl) (p.no_parameters f) (parameter_list ps)).names (same q.objects) (names_in (made us) f.names named) in
      let whole = list_good g t (made us) plain valued calls c h refl body in
      let trees = subst (Kept (λ (vs : List Stat). leaves false false (all_left (map (left_in w t (made us)) vs)))) e (whole.tree (same x.here.locals) names (right_of _ _ faultless)) in
      both _ _ (both _ _ (both _ _ (by_ends _ (block_leaves w t (made us) false false brace us trees)) (parameters_scalar (p.no_parameters f) (parameter_list ps) refl))
      (when (bytes_eq m.bytes (codes "main")) _ alone)) (unless_so (is_helper m.bytes) _ plain)))
    where
      never_both : (b : Bool) → (b ≡ true → ⊥) → not b ≡ true
      never_both true h = absurd (h refl)
      never_both false h = refl

  -- ---- all parts

  abbrev functions_keep : List Function → Bool
  functions_keep fs = list_all (is_sound_function kept w t) fs

  record Good_parts (f : p.File) (r : p.Parts) : Type 0 where
    file : Good_file f r.file
    functions : Begins (objects r.file.statics) (objects t.statics) → Names kind f.names → Kept functions_keep r.functions

  appended : (fs gs : List Function) → functions_keep fs ≡ true → functions_keep gs ≡ true → functions_keep (fs ++ gs) ≡ true
  appended [] gs h i = i
  appended (f ∷ fs) gs h i = both _ _ (left_of _ _ h) (appended fs gs (right_of _ _ h) i)

  joined_keep : (a b : Option (List Function)) → Kept functions_keep a → Kept functions_keep b → Kept functions_keep (st.joined a b)
  joined_keep None b h i = tt
  joined_keep (Some fs) None h i = tt
  joined_keep (Some fs) (Some gs) h i = appended fs gs h i

  single_keeps : (o : Option Function) → Kept function_sound o → Kept functions_keep (st.single o)
  single_keeps None h = tt
  single_keeps (Some f) h = both _ _ h refl

  part_good : (f : p.File) (x : External) → All_good ss ends (headings_in x) → clean (p.part first ss w f x).faults ≡ true → Good_parts f (p.part first ss w f x)
  part_good f (external.Include at) h c = record { file = include_good f; functions = λ a b. refl }
  part_good f (external.Declared (declaration.Objects at u is)) h c = record { file = items_good f (type_of_words u) is; functions = λ a b. refl }
  part_good f (external.Declared (declaration.Function at r m ps)) h c = record { file = heading_good f (heading m.bytes r ps false); functions = λ a b. refl }
  part_good f (external.Defined at r m ps brace body) h c =
      let g = p.with_heading f (heading m.bytes r ps true) in
      let x = heading_good f (heading m.bytes r ps true) in
      record { file = x; functions = λ a b. single_keeps _ (body_keeps g (x.names a b) r m ps brace body h.0 (right_of _ _ c)) }

  parted : (hs gs : List Heading) → All_good ss ends (hs ++ gs) → All_good ss ends hs × All_good ss ends gs
  parted [] gs h = (tt, h)
  parted (x ∷ hs) gs h = let both_parts = parted hs gs h.1 in ((h.0, both_parts.0), both_parts.1)

  parts_good : (f : p.File) (xs : List External) → All_good ss ends (headings xs) → clean (p.all_parts first ss w f xs).faults ≡ true → Good_parts f (p.all_parts first ss w f xs)
  parts_good f [] h c = record { file = same_file f; functions = λ a b. refl }
  parts_good f (x ∷ xs) h c =
      let a = p.part first ss w f x in
      let heads = parted (headings_in x) (headings xs) h in
      let i = part_good f x heads.0 (left_of _ _ c) in
      let j = parts_good a.file xs heads.1 (right_of _ _ c) in
      record {
        file = both_files f a.file _ i.file j.file;
        functions = λ d e. joined_keep a.functions (p.all_parts first ss w a.file xs).functions (i.functions (further _ _ _ j.file.grows d) e) (j.functions d (i.file.names (further _ _ _ j.file.grows d) e));
      }

-- ---- the whole

module _ (kept : List ℕ) (w : ℕ) (s : Syntax) (faultless : clean (p.program w s).faults ≡ true) where
  abbrev hs : List Heading
  hs = headings s.parts

  abbrev a : p.Parts
  a = p.all_parts (definition_of (headings s.parts)) (signatures s.parts) w p.nothing s.parts

  whole : (fs : List Function) → a.functions ≡ Some fs → is_sound kept w (p.typed a.file.statics fs) ≡ true
  whole fs e =
      let first = definition_of hs in
      let ss = signatures s.parts in
      let ends = a.file.names in
      let t = p.typed a.file.statics fs in
      let good = headings_good first hs w ends p.nothing s.parts [] refl refl (left_of _ _ faultless) (λ name m h. h) in
      let made = subst (Makes_maybe (definitions hs)) e (functions_made first ss w p.nothing s.parts) in
      let main = main_among ss ends hs good (denied (p.has_main hs) (is_not (not (p.has_main hs)) 31 s.end (right_of _ _ faultless))) in
      let all = parts_good kept w t first ss (signatures_callable ss ends t hs good made hs good) ends main p.nothing s.parts good (left_of _ _ faultless) in
      subst (Kept (list_all (is_sound_function kept w t))) e (all.functions (same (objects a.file.statics)) tt)

  of_tree : (t : Typed) (o : Option (List Function)) → a.functions ≡ o → one (p.typed a.file.statics) o ≡ Some t → is_sound kept w t ≡ true
  of_tree t None e i = absurd (subst Is_nothing i tt)
  of_tree t (Some fs) e i = subst (λ (u : Typed). is_sound kept w u ≡ true) (ap (λ o. unwrap_or o (p.typed a.file.statics fs)) i) (whole fs e)

pub typed_is_sound : TypedIsSound
typed_is_sound kept w s t is = of_tree kept w s (clean_of (p.program w s).faults is.sound) t _ refl is.tree
