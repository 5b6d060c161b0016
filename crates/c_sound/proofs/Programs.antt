-- The typed tree of a source that breaks no rule means something throughout.
use Rattle.std.proofs.Common.{◌≡◌, ℕ, zero, suc, ◌+◌, ◌<◌, nat_lt, Bool, true, false, ◌&&◌, ◌||◌, not, if◌then◌else◌, Option, Some, None, List, [], ◌∷◌, ◌++◌, map, length, slice_get, inl, inr, codes, refl, sym, ap, ◌∙◌, subst, arith}
use Rattle.std.specs.Prelude.{⊤}
use Rattle.std.specs.Str.{bytes_eq}
use Rattle.std.specs.Option.{unwrap_or}
use Rattle.std.proofs.lemmas.Bool.Decides.{nat_tests}
use Rattle.rtl_word.specs.Words.{IsWordSize}
use Rattle.c_tree.specs.declared.token.At.{At}
use Rattle.c_tree.specs.declared.types.CType.{CType}
use Rattle.c_tree.specs.declared.types.CType.TheVariants as type
use Rattle.c_tree.specs.declared.syntax.Return.{Return}
use Rattle.c_tree.specs.declared.syntax.Identifier.{Identifier}
use Rattle.c_tree.specs.declared.syntax.Initialiser.{Initialiser}
use Rattle.c_tree.specs.declared.syntax.Initialiser.TheVariants as initialiser
use Rattle.c_tree.specs.declared.syntax.Item.{Item}
use Rattle.c_tree.specs.declared.syntax.Parameter.{Parameter}
use Rattle.c_tree.specs.declared.syntax.Parameters.{Parameters}
use Rattle.c_tree.specs.declared.syntax.Declaration.TheVariants as declaration
use Rattle.c_tree.specs.declared.syntax.Statement.{Statement}
use Rattle.c_tree.specs.declared.syntax.External.{External}
use Rattle.c_tree.specs.declared.syntax.External.TheVariants as external
use Rattle.c_tree.specs.declared.syntax.Syntax.{Syntax}
use Rattle.c_tree.specs.declared.typed.Variable.{Variable}
use Rattle.c_tree.specs.declared.typed.Variable.TheVariants as variable
use Rattle.c_tree.specs.declared.typed.Callee.TheVariants as callee
use Rattle.c_tree.specs.declared.typed.Object.{Object}
use Rattle.c_tree.specs.declared.typed.Static.{Static}
use Rattle.c_tree.specs.declared.typed.Function.{Function}
use Rattle.c_tree.specs.declared.typed.Typed.{Typed}
use Rattle.c_tree.specs.declared.typed.Stat.{Stat}
use Rattle.c_typing.specs.declared.names.Meaning.{Meaning}
use Rattle.c_typing.specs.declared.names.Meaning.TheVariants as means
use Rattle.c_typing.specs.declared.names.Signature.{Signature}
use Rattle.c_typing.specs.Faults.{Faults, sound, broken, ◌also◌, Breaks, clean}
use Rattle.c_typing.specs.Types.{type_of_words}
use Rattle.c_typing.specs.Scopes.{Entry, meaning}
use Rattle.c_typing.specs.Expressions.{broken_if, one}
use Rattle.c_typing.specs.Functions.{Heading, heading, headings_in, headings, definition_from, definition_of, defined, callee_of, signature, signatures, is_getchar, is_putchar, same_types, same_heading, of_getchar, of_putchar, forbidden_function, parameter_type, parameter_list, return_type}
use Rattle.c_typing.specs.Statements as st
use Rattle.c_typing.specs.Program as p
use Rattle.c_meaning.specs.Expressions.{Kind, missing}
use Rattle.c_meaning.specs.Run.{kind_by, kind_of, object_of, kind_in, main_in}
use Rattle.c_sound.specs.Sound.{is_scalar, is_array, all, body_sound, known_in, functions_sound, is_meant}
use Rattle.c_sound.specs.Laws.{TypedIsMeant}
use Rattle.c_sound.proofs.Fine.{no, left_of, right_of}
use Rattle.c_sound.proofs.Nodes.{both, block_sound}
use Rattle.c_sound.proofs.Judged.{Kept, over, Stands, Names, named_more, Callable, Signatures, is_filled}
use Rattle.c_sound.proofs.Walked.{Begins, same, further, next_in, list_good}

-- ---- objects of the file

abbrev pub objects : List Static → List Object
objects ss = map (λ s. s.object) ss

pub object_at : (ss : List Static) (x : ℕ) → object_of (slice_get ss x) ≡ slice_get (objects ss) x
object_at [] x = refl
object_at (s ∷ ss) zero = refl
object_at (s ∷ ss) (suc x) = object_at ss x

pub many : (ss : List Static) → length (objects ss) ≡ length ss
many [] = refl
many (s ∷ ss) = ap suc (many ss)

pub one_behind : (ss : List Static) (s : Static) → objects (ss ++ s ∷ []) ≡ objects ss ++ s.object ∷ []
one_behind [] s = refl
one_behind (x ∷ ss) s = ap (λ os. x.object ∷ os) (one_behind ss s)

set_behind : (s : Static) (ss : List Static) (k : ℕ) (o : Option Static) → p.set_some (s ∷ ss) (suc k) o ≡ s ∷ p.set_some ss k o
set_behind s ss k None = refl
set_behind s ss k (Some x) = refl

-- values change no object
values_set : (ss : List Static) (k : ℕ) (vs : List ℕ) → objects (p.set_some ss k (p.with_values (slice_get ss k) vs)) ≡ objects ss
values_set [] k vs = refl
values_set (s ∷ ss) zero vs = refl
values_set (s ∷ ss) (suc k) vs = ap objects (set_behind s ss k (p.with_values (slice_get ss k) vs)) ∙ ap (λ os. s.object ∷ os) (values_set ss k vs)

given_objects : (ss : List Static) (k : Option ℕ) (vs : List ℕ) → objects (p.given ss k vs) ≡ objects ss
given_objects ss None vs = refl
given_objects ss (Some k) vs = values_set ss k vs

pub initialised_objects : (f : p.File) (i : Initialiser) (k : Option ℕ) (vs : List ℕ) → objects (p.with_given f i k vs).statics ≡ objects f.statics
initialised_objects f initialiser.Absent k vs = refl
initialised_objects f (initialiser.Value e) k vs = given_objects f.statics k vs
initialised_objects f (initialiser.List at es b) k vs = given_objects f.statics k vs

pub initialised_names : (f : p.File) (i : Initialiser) (k : Option ℕ) (vs : List ℕ) → (p.with_given f i k vs).names ≡ f.names
initialised_names f initialiser.Absent k vs = refl
initialised_names f (initialiser.Value e) k vs = refl
initialised_names f (initialiser.List at es b) k vs = refl

-- ---- the functions of the file

abbrev count : List Heading → ℕ
count [] = 0
count (h ∷ hs) = if h.defines then suc (count hs) else count hs

abbrev Below : ℕ → Option ℕ → Type 0
Below m None = ⊤
Below m (Some i) = i < m

raised : (m n : ℕ) → m ≡ n → (o : Option ℕ) → Below m o → Below n o
raised m n e o h = subst (λ k. Below k o) e h

definition_below : (k : ℕ) (hs : List Heading) (name : List ℕ) → Below (k + count hs) (definition_from k hs name)
definition_below k [] name = tt
definition_below k (h ∷ hs) name = by h.defines (definition_below (suc k) hs name) (definition_below k hs name)
  where
    at_name : (b : Bool) (o : Option ℕ) → Below (suc k + count hs) o → Below (k + suc (count hs)) (if b then Some k else o)
    at_name true o g = omega arith
    at_name false o g = raised (suc k + count hs) (k + suc (count hs)) (omega arith) o g

    by : (b : Bool) → Below (suc k + count hs) (definition_from (suc k) hs name) → Below (k + count hs) (definition_from k hs name)
        → Below (k + (if b then suc (count hs) else count hs)) (if b then (if bytes_eq h.name name then Some k else definition_from (suc k) hs name) else definition_from k hs name)
    by true g i = at_name (bytes_eq h.name name) (definition_from (suc k) hs name) g
    by false g i = i

-- a heading of `putchar` has a parameter
abbrev Is_proper : Heading → Type 0
Is_proper h = is_putchar h.name ≡ true → is_filled h.params ≡ true

abbrev Proper : List Heading → Type 0
Proper [] = ⊤
Proper (h ∷ hs) = Is_proper h × Proper hs

filled : (ts : List CType) → same_types ts (type.Int ∷ []) ≡ true → is_filled ts ≡ true
filled [] e = no e
filled (t ∷ ts) e = refl

unforbidden : (a b : Bool) → (a || b) ≡ false → b ≡ false
unforbidden true b e = no (sym e)
unforbidden false b e = e

pub negated : (a b c : Bool) → (a && (b || not c)) ≡ false → a ≡ true → c ≡ true
negated true true c e i = no (sym e)
negated true false true e i = refl
negated true false false e i = no (sym e)
negated false b c e i = no i

pub is_not : (b : Bool) (rule : ℕ) (at : At) → clean (broken_if b rule at) ≡ true → b ≡ false
is_not true rule at e = no e
is_not false rule at e = refl

allowed : (included : Bool) (h : Heading) → forbidden_function included h ≡ false → Is_proper h
allowed included h e i = filled h.params (right_of _ _ (negated (is_putchar h.name) h.defines (same_heading h of_putchar.result of_putchar.params) (unforbidden _ _ e) i))

module _ (n : ℕ) (first : List ℕ → Option ℕ) (below : (name : List ℕ) → Below n (first name)) where
  defined_callable : (ts : List CType) (o : Option ℕ) → Below n o → Callable n ts (defined o)
  defined_callable ts None h = tt
  defined_callable ts (Some i) h = over i n h

  signature_callable : (h : Heading) → Is_proper h → Callable n h.params (callee_of first h.name)
  signature_callable h e = by (is_getchar h.name) (is_putchar h.name) refl
    where
      by : (a b : Bool) → is_putchar h.name ≡ b → Callable n h.params (if a then Some callee.Getchar else (if b then Some callee.Putchar else defined (first h.name)))
      by true b i = tt
      by false true i = e i
      by false false i = defined_callable h.params (first h.name) (below h.name)

  signatures_callable : (hs : List Heading) → Proper hs → Signatures n (map (signature first) hs)
  signatures_callable [] h = tt
  signatures_callable (x ∷ hs) h = (signature_callable x h.0, signatures_callable hs h.1)

pub made_keeps : {A B : Type 0} (made : A → B) (q : B → Bool) (o : Option A) → ((us : A) → o ≡ Some us → q (made us) ≡ true) → Kept q (one made o)
made_keeps made q None f = tt
made_keeps made q (Some us) f = f us refl

-- ---- the parts of the file, of which the whole is this

module _ (w : ℕ) (z : IsWordSize w) (t : Typed) (first : List ℕ → Option ℕ) (ss : List Signature) (calls : Signatures (length t.functions) ss) where
  abbrev n : ℕ
  n = length t.functions

  -- objects of the file alone
  abbrev kind : Variable → Kind
  kind (variable.Static x) = kind_of (slice_get (objects t.statics) x)
  kind (variable.Parameter x) = missing
  kind (variable.Local x) = missing

  scalar_in : (f : Function) (x : Variable) → is_scalar (kind x) ≡ true → is_scalar (kind_in t f x) ≡ true
  scalar_in f (variable.Static x) e = ap (λ o. is_scalar (kind_of o)) (object_at t.statics x) ∙ e
  scalar_in f (variable.Parameter x) e = no e
  scalar_in f (variable.Local x) e = no e

  array_in : (f : Function) (x : Variable) → is_array (kind x) ≡ true → is_array (kind_in t f x) ≡ true
  array_in f (variable.Static x) e = ap (λ o. is_array (kind_of o)) (object_at t.statics x) ∙ e
  array_in f (variable.Parameter x) e = no e
  array_in f (variable.Local x) e = no e

  stands_in : (f : Function) (m : Meaning) → Stands kind m → Stands (kind_in t f) m
  stands_in f (means.Scalar v u) h = scalar_in f v h
  stands_in f (means.Array v u l) h = array_in f v h
  stands_in f (means.Function i) h = tt
  stands_in f means.EndOfFile h = tt

  names_in : (f : Function) (es : List Entry) → Names kind es → Names (kind_in t f) es
  names_in f [] h = tt
  names_in f (e ∷ es) h = (stands_in f e.means h.0, names_in f es h.1)

  -- ---- objects

  record Good_file (f g : p.File) : Type 0 where
    grows : Begins (objects f.statics) (objects g.statics)
    names : Begins (objects g.statics) (objects t.statics) → Names kind f.names → Names kind g.names

  same_file : (f : p.File) → Good_file f f
  same_file f = record { grows = same (objects f.statics); names = λ a b. b }

  both_files : (f g h : p.File) → Good_file f g → Good_file g h → Good_file f h
  both_files f g h a b = record { grows = further _ _ _ a.grows b.grows; names = λ c d. b.names c (a.names (further _ _ _ b.grows c) d) }

  static_stands : (u : CType) (i : ℕ) (l : Option ℕ) (o : Object) → o.length ≡ l → slice_get (objects t.statics) i ≡ Some o → Stands kind (p.means_static i u l)
  static_stands u i None o e is = ap (λ a. is_scalar (kind_of a)) is ∙ ap (λ a. is_scalar (kind_by o.element a)) e
  static_stands u i (Some m) o e is = ap (λ a. is_array (kind_of a)) is ∙ ap (λ a. is_array (kind_by o.element a)) e

  static_good : (f : p.File) (i : Item) (u : CType) (l : Option ℕ) (m : Option Meaning) → Good_file f (p.with_static f i u l m)
  static_good f i u l (Some m) = same_file f
  static_good f i u l None =
      let o : Object = record { name = i.name.bytes; element = u; length = l; at = i.name.at } in
      let s : Static = record { object = o; init = [] } in
      record {
        grows = (o ∷ [], one_behind f.statics s);
        names = λ a b. named_more kind f.names (p.entry i.name.bytes (p.means_static (length f.statics) u l)) b (static_stands u (length f.statics) l o refl
            (ap (slice_get (objects t.statics)) (sym (many f.statics)) ∙ next_in (objects f.statics) o (objects t.statics) (subst (λ os. Begins os (objects t.statics)) (one_behind f.statics s) a)));
      }

  given_good : (f : p.File) (i : Initialiser) (k : Option ℕ) (vs : List ℕ) → Good_file f (p.with_given f i k vs)
  given_good f i k vs = record {
    grows = subst (Begins (objects f.statics)) (sym (initialised_objects f i k vs)) (same (objects f.statics));
    names = λ a b. subst (Names kind) (sym (initialised_names f i k vs)) b;
  }

  item_good : (f : p.File) (u : CType) (i : Item) → Good_file f (p.static_item ss w f u i).0
  item_good f u i =
      let j = st.sized (p.within ss w f) (p.here_of f) i.size in
      let x = st.extent_of (p.within ss w f) j.seen i.size i.initialiser in
      let m = meaning f.names i.name.bytes in
      let inner = p.with_static f i u (st.length_of x) m in
      both_files f inner _ (static_good f i u (st.length_of x) m) (given_good inner i.initialiser (p.static_number f m) (p.static_values ss w inner u x i.initialiser).0)

  items_good : (f : p.File) (u : CType) (is : List Item) → Good_file f (p.static_items ss w f u is).0
  items_good f u [] = same_file f
  items_good f u (i ∷ is) = both_files f (p.static_item ss w f u i).0 _ (item_good f u i) (items_good (p.static_item ss w f u i).0 u is)

  -- ---- headings and parameters

  with_name_named : (k : Variable → Kind) (es : List Entry) (m : Option Meaning) (e : Entry) → Names k es → Stands k e.means → Names k (p.with_name es m e)
  with_name_named k es None e h i = named_more k es e h i
  with_name_named k es (Some m) e h i = h

  heading_good : (f : p.File) (h : Heading) → Good_file f (p.with_heading f h)
  heading_good f h = record { grows = same (objects f.statics); names = λ a b. with_name_named kind f.names (meaning f.names h.name) (p.entry h.name (means.Function f.above)) b tt }

  include_good : (f : p.File) → Good_file f (p.with_include f)
  include_good f =
      let g = p.with_heading f of_getchar in
      let x = both_files f g (p.with_heading g of_putchar) (heading_good f of_getchar) (heading_good g of_putchar) in
      record { grows = x.grows; names = x.names }

  record Good_params (k : Variable → Kind) (all : List Object) (a b : p.Params) : Type 0 where
    grows : Begins a.objects b.objects
    names : Begins b.objects all → Names k a.names → Names k b.names

  both_params : (k : Variable → Kind) (all : List Object) (a b c : p.Params) → Good_params k all a b → Good_params k all b c → Good_params k all a c
  both_params k all a b c x y = record { grows = further _ _ _ x.grows y.grows; names = λ d e. y.names d (x.names (further _ _ _ y.grows d) e) }

  module _ (k : Variable → Kind) (all : List Object) (kinds : (j : ℕ) → k (variable.Parameter j) ≡ kind_of (slice_get all j)) where
    parameter_good : (a : p.Params) (x : Parameter) (m : Option Identifier) → Good_params k all a (p.with_parameter a x m)
    parameter_good a x None = record { grows = (_ ∷ [], refl); names = λ c d. d }
    parameter_good a x (Some m) =
        let o : Object = record { name = m.bytes; element = parameter_type x; length = None; at = m.at } in
        record {
          grows = (o ∷ [], refl);
          names = λ c d. named_more k a.names (p.entry m.bytes (means.Scalar (variable.Parameter (length a.objects)) (parameter_type x))) d
              (ap is_scalar (kinds (length a.objects) ∙ ap kind_of (next_in a.objects o all c)));
        }

    parameters_good : (a : p.Params) (xs : List Parameter) → Good_params k all a (p.with_parameters a xs)
    parameters_good a [] = record { grows = same a.objects; names = λ c d. d }
    parameters_good a (x ∷ xs) = both_params k all a (p.with_parameter a x x.name) _ (parameter_good a x x.name) (parameters_good (p.with_parameter a x x.name) xs)

  -- ---- bodies

  abbrev function_sound : Function → Bool
  function_sound f = body_sound (known_in w t f) f.body

  body_keeps : (f : p.File) → Names kind f.names → (r : Return) (m : Identifier) (ps : Parameters) (brace : At) (body : List Statement)
      → Kept function_sound
      (let q = p.parameters_of f ps in
      let x = st.sequence (p.within ss w f) (p.around_body (return_type r) (length f.names)) (record { names = q.names; locals = []; labels = [] }) (map (st.walk (p.within ss w f)) body) in
      one (p.function_tree brace m (return_type r) q.objects x.here.locals) x.tree)
  body_keeps f named r m ps brace body =
      let g = p.within ss w f in
      let q = p.parameters_of f ps in
      let h : st.Here = record { names = q.names; locals = []; labels = [] } in
      let c = p.around_body (return_type r) (length f.names) in
      let x = st.sequence g c h (map (st.walk g) body) in
      let made = p.function_tree brace m (return_type r) q.objects x.here.locals in
      made_keeps made function_sound x.tree (λ us e.
      (let k = kind_in t (made us) in
      let names = (parameters_good k q.objects (λ j. refl) (p.no_parameters f) (parameter_list ps)).names (same q.objects) (names_in (made us) f.names named) in
      let whole = list_good g z k n calls x.here.locals (λ j. refl) c h body in
      block_sound (known_in w t (made us)) brace us (subst (Kept (λ (vs : List Stat). all (map (body_sound (known_in w t (made us))) vs))) e (whole.tree (same x.here.locals) names))))

  -- ---- all parts

  abbrev functions_keep : List Function → Bool
  functions_keep fs = functions_sound w t fs

  record Good_parts (f : p.File) (r : p.Parts) : Type 0 where
    file : Good_file f r.file
    functions : Begins (objects r.file.statics) (objects t.statics) → Names kind f.names → Kept functions_keep r.functions

  appended : (fs gs : List Function) → functions_keep fs ≡ true → functions_keep gs ≡ true → functions_keep (fs ++ gs) ≡ true
  appended [] gs h i = i
  appended (f ∷ fs) gs h i = both _ _ (left_of _ _ h) (appended fs gs (right_of _ _ h) i)

  joined_keep : (a b : Option (List Function)) → Kept functions_keep a → Kept functions_keep b → Kept functions_keep (st.joined a b)
  joined_keep None b h i = tt
  joined_keep (Some fs) None h i = tt
  joined_keep (Some fs) (Some gs) h i = appended fs gs h i

  single_keeps : (o : Option Function) → Kept function_sound o → Kept functions_keep (st.single o)
  single_keeps None h = tt
  single_keeps (Some f) h = both _ _ h refl

  part_good : (f : p.File) (x : External) → Good_parts f (p.part first ss w f x)
  part_good f (external.Include at) = record { file = include_good f; functions = λ a b. refl }
  part_good f (external.Declared (declaration.Objects at u is)) = record { file = items_good f (type_of_words u) is; functions = λ a b. refl }
  part_good f (external.Declared (declaration.Function at r m ps)) = record { file = heading_good f (heading m.bytes r ps false); functions = λ a b. refl }
  part_good f (external.Defined at r m ps brace body) =
      let g = p.with_heading f (heading m.bytes r ps true) in
      let x = heading_good f (heading m.bytes r ps true) in
      record { file = x; functions = λ a b. single_keeps _ (body_keeps g (x.names a b) r m ps brace body) }

  parts_good : (f : p.File) (xs : List External) → Good_parts f (p.all_parts first ss w f xs)
  parts_good f [] = record { file = same_file f; functions = λ a b. refl }
  parts_good f (x ∷ xs) =
      let a = p.part first ss w f x in
      let i = part_good f x in
      let j = parts_good a.file xs in
      record {
        file = both_files f a.file _ i.file j.file;
        functions = λ c d. joined_keep a.functions (p.all_parts first ss w a.file xs).functions (i.functions (further _ _ _ j.file.grows c) d) (j.functions c (i.file.names (further _ _ _ j.file.grows c) d));
      }

-- ---- how many functions there are, and that `main` is among them

module _ (first : List ℕ → Option ℕ) (ss : List Signature) (w : ℕ) where
  abbrev Counted : List Heading → Option (List Function) → Type 0
  Counted hs None = ⊤
  Counted hs (Some fs) = (length fs ≡ count hs) × (p.has_main hs ≡ true → nat_lt (main_in fs) (length fs) ≡ true)

  none_added : (hs more : List Heading) → count more ≡ count hs → p.has_main more ≡ p.has_main hs → (o : Option (List Function)) → Counted hs o → Counted more (st.joined (Some []) o)
  none_added hs more c m None h = tt
  none_added hs more c m (Some fs) h = (h.0 ∙ sym c, λ e. h.1 (sym m ∙ e))

  main_among : (b c d : Bool) (i l : ℕ) → (d ≡ true → nat_lt i l ≡ true) → ((b && c) || d) ≡ true → nat_lt (if b then 0 else suc i) (suc l) ≡ true
  main_among true c d i l h e = over 0 (suc l) (omega arith)
  main_among false c d i l h e = let less = h e in grind (arith, nat_tests, less)

  one_added : {A : Type 0} (m : List ℕ) (r : Return) (ps : Parameters) (hs : List Heading) (made : A → Function) → ((us : A) → (made us).name ≡ m)
      → (o : Option A) (fs : Option (List Function)) → Counted hs fs → Counted (heading m r ps true ∷ hs) (st.joined (st.single (one made o)) fs)
  one_added m r ps hs made named None fs h = tt
  one_added m r ps hs made named (Some us) None h = tt
  one_added m r ps hs made named (Some us) (Some fs) h = (
    ap suc h.0,
    λ e. subst (λ b. nat_lt (if b then 0 else suc (main_in fs)) (suc (length fs)) ≡ true) (ap (λ x. bytes_eq x (codes "main")) (sym (named us)))
        (main_among (bytes_eq m (codes "main")) (same_heading (heading m r ps true) type.Int []) (p.has_main hs) (main_in fs) (length fs) h.1 e),
  )

  counted : (f : p.File) (xs : List External) → Counted (headings xs) (p.all_parts first ss w f xs).functions
  counted f [] = (refl, λ e. no e)
  counted f (external.Include at ∷ xs) = none_added (headings xs) (of_getchar ∷ of_putchar ∷ headings xs) refl refl _ (counted (p.with_include f) xs)
  counted f (external.Declared (declaration.Objects at t is) ∷ xs) = none_added (headings xs) (headings xs) refl refl _ (counted (p.static_items ss w f (type_of_words t) is).0 xs)
  counted f (external.Declared (declaration.Function at r m ps) ∷ xs) = none_added (headings xs) (heading m.bytes r ps false ∷ headings xs) refl refl _ (counted (p.with_heading f (heading m.bytes r ps false)) xs)
  counted f (external.Defined at r m ps brace body ∷ xs) = one_added m.bytes r ps (headings xs) _ (λ us. refl) _ _ (counted (p.with_heading f (heading m.bytes r ps true)) xs)

  -- the rule that a heading of `putchar` breaks where it has no parameter
  proper_part : (f : p.File) (x : External) (hs : List Heading) → clean (p.part first ss w f x).faults ≡ true → Proper hs → Proper (headings_in x ++ hs)
  proper_part f (external.Include at) hs e h = ((λ i. no i), ((λ i. refl), h))
  proper_part f (external.Declared (declaration.Objects at t is)) hs e h = h
  proper_part f (external.Declared (declaration.Function at r m ps)) hs e h =
      (allowed f.included (heading m.bytes r ps false) (is_not _ 14 at (left_of _ _ (left_of _ _ (left_of _ _ e)))), h)
  proper_part f (external.Defined at r m ps brace body) hs e h =
      (allowed f.included (heading m.bytes r ps true) (is_not _ 14 at (left_of _ _ (left_of _ _ (left_of _ _ e)))), h)

  proper : (f : p.File) (xs : List External) → clean (p.all_parts first ss w f xs).faults ≡ true → Proper (headings xs)
  proper f [] e = tt
  proper f (x ∷ xs) e = proper_part f x (headings xs) (left_of _ _ e) (proper (p.part first ss w f x).file xs (right_of _ _ e))

-- ---- the whole

pub clean_of : (f : Faults) → ((rule : ℕ) (at : At) → Breaks f rule at → ⊥) → clean f ≡ true
clean_of sound h = refl
clean_of (broken rule at) h = absurd (h rule at (refl, refl))
clean_of (f also g) h = both (clean f) (clean g) (clean_of f (λ rule at b. h rule at (inl b))) (clean_of g (λ rule at b. h rule at (inr b)))

pub denied : (b : Bool) → not b ≡ false → b ≡ true
denied true e = refl
denied false e = no (sym e)

abbrev pub Is_nothing : Option Typed → Type 0
Is_nothing None = ⊤
Is_nothing (Some t) = ⊥

from_zero : (m n : ℕ) → n ≡ m → 0 + m ≡ n
from_zero m n e = omega (arith, e)

module _ (w : ℕ) (s : Syntax) (z : IsWordSize w) (faultless : clean (p.program w s).faults ≡ true) where
  abbrev hs : List Heading
  hs = headings s.parts

  abbrev a : p.Parts
  a = p.all_parts (definition_of (headings s.parts)) (signatures s.parts) w p.nothing s.parts

  whole : (fs : List Function) → a.functions ≡ Some fs → is_meant w (p.typed a.file.statics fs) ≡ true
  whole fs e =
      let first = definition_of hs in
      let ss = signatures s.parts in
      let all_of : Counted first ss w hs (Some fs) = subst (Counted first ss w hs) e (counted first ss w p.nothing s.parts) in
      let main = denied (p.has_main hs) (is_not (not (p.has_main hs)) 31 s.end (right_of _ _ faultless)) in
      let below : (name : List ℕ) → Below (length fs) (first name) = λ name. raised (0 + count hs) (length fs) (from_zero (count hs) (length fs) all_of.0) (first name) (definition_below 0 hs name) in
      let calls = signatures_callable (length fs) first below hs (proper first ss w p.nothing s.parts (left_of _ _ faultless)) in
      let t = p.typed a.file.statics fs in
      let good = parts_good w z t first ss calls p.nothing s.parts in
      both _ _ (subst (Kept (functions_sound w t)) e (good.functions (same (objects a.file.statics)) tt)) (all_of.1 main)

  of_tree : (t : Typed) (o : Option (List Function)) → a.functions ≡ o → one (p.typed a.file.statics) o ≡ Some t → is_meant w t ≡ true
  of_tree t None e i = absurd (subst Is_nothing i tt)
  of_tree t (Some fs) e i = subst (λ (u : Typed). is_meant w u ≡ true) (ap (λ o. unwrap_or o (p.typed a.file.statics fs)) i) (whole fs e)

pub typed_is_meant : TypedIsMeant
typed_is_meant w s t z is = of_tree w s z (clean_of (p.program w s).faults is.sound) t _ refl is.tree
