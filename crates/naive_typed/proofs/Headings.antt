-- Functions and their headings: headings of one name have one type, and each definition makes the function of its number.
use Rattle.std.proofs.Common.{◌≡◌, ℕ, zero, suc, ◌+◌, Bool, true, false, ◌||◌, if◌then◌else◌, Option, Some, None, List, [], ◌∷◌, ◌++◌, map, length, slice_get, codes, refl, sym, ap, ◌∙◌, subst, arith}
use Rattle.std.specs.Prelude.{⊤}
use Rattle.std.specs.Str.{bytes_eq}
use Rattle.std.proofs.lemmas.Slice.Eq.{bytes_eq-Decides}
use mathlib.Core.List.{append_assoc, append-nil}
use Rattle.c_tree.specs.declared.types.CType.{CType}
use Rattle.c_tree.specs.declared.types.CType.TheVariants as type
use Rattle.c_tree.specs.declared.syntax.Identifier.{Identifier}
use Rattle.c_tree.specs.declared.syntax.Initialiser.{Initialiser}
use Rattle.c_tree.specs.declared.syntax.Initialiser.TheVariants as initialiser
use Rattle.c_tree.specs.declared.syntax.Item.{Item}
use Rattle.c_tree.specs.declared.syntax.Parameter.{Parameter}
use Rattle.c_tree.specs.declared.syntax.Declaration.TheVariants as declaration
use Rattle.c_tree.specs.declared.syntax.External.{External}
use Rattle.c_tree.specs.declared.syntax.External.TheVariants as external
use Rattle.c_tree.specs.declared.typed.Callee.TheVariants as callee
use Rattle.c_tree.specs.declared.typed.Object.{Object}
use Rattle.c_tree.specs.declared.typed.Function.{Function}
use Rattle.c_tree.specs.declared.typed.Typed.{Typed}
use Rattle.c_typing.specs.declared.names.Meaning.{Meaning}
use Rattle.c_typing.specs.declared.names.Meaning.TheVariants as means
use Rattle.c_typing.specs.declared.names.Signature.{Signature}
use Rattle.c_typing.specs.Faults.{clean}
use Rattle.c_typing.specs.Types.{type_of_words}
use Rattle.c_typing.specs.Scopes.{Entry, or_else, meaning}
use Rattle.c_typing.specs.Expressions.{one}
use Rattle.c_typing.specs.Functions.{Heading, heading, headings, definition_from, definition_of, defined, callee_of, signature, is_getchar, is_putchar, is_reserved, same_types, same_heading, of_getchar, of_putchar, forbidden_function, parameter_type, parameter_list}
use Rattle.c_typing.specs.Statements as st
use Rattle.c_typing.specs.Program as p
use Rattle.c_typing.proofs.Trees.{no, left_of, right_of}
use Rattle.c_sound.proofs.Programs.{initialised_names, negated, is_not, denied}
use Rattle.naive_typed.proofs.Judged.{same_type_is, elements, Is_function, Callable, Signatures}

-- ---- types of headings

same_types_are : (as_ bs : List CType) → same_types as_ bs ≡ true → as_ ≡ bs
same_types_are [] [] e = refl
same_types_are [] (b ∷ bs) e = no e
same_types_are (a ∷ as_) [] e = no e
same_types_are (a ∷ as_) (b ∷ bs) e = ap (λ (u : CType). u ∷ as_) (same_type_is a b (left_of _ _ e)) ∙ ap (λ (us : List CType). b ∷ us) (same_types_are as_ bs (right_of _ _ e))

abbrev pub Typed_as : Heading → CType → List CType → Type 0
Typed_as h u ts = (h.result ≡ u) × (h.params ≡ ts)

same_heading_is : (h : Heading) (u : CType) (ts : List CType) → same_heading h u ts ≡ true → Typed_as h u ts
same_heading_is h u ts e = (same_type_is h.result u (left_of _ _ e), same_types_are h.params ts (right_of _ _ e))

abbrev Same : Heading → Option Signature → Type 0
Same h None = ⊥
Same h (Some s) = Typed_as h s.result s.params

same_signature : (h : Heading) (s : Option Signature) → p.other_signature h s ≡ false → Same h s
same_signature h None e = no (sym e)
same_signature h (Some s) e = same_heading_is h s.result s.params (denied _ e)

-- ---- names of the file: what one stands for is settled where it is first declared

abbrev Keeps : List Entry → List Entry → Type 0
Keeps es ds = (name : List ℕ) (m : Meaning) → meaning es name ≡ Some m → meaning ds name ≡ Some m

abbrev Is_none : Option Meaning → Type 0
Is_none None = ⊤
Is_none (Some m) = ⊥

meaning_behind : (es : List Entry) (e : Entry) (name : List ℕ) → meaning (es ++ e ∷ []) name ≡ (if bytes_eq e.name name then Some e.means else meaning es name)
meaning_behind [] e name = refl
meaning_behind (x ∷ es) e name = ap (λ (o : Option Meaning). or_else o (if bytes_eq x.name name then Some x.means else None)) (meaning_behind es e name) ∙ by (bytes_eq e.name name)
  where
    by : (b : Bool) → or_else (if b then Some e.means else meaning es name) (if bytes_eq x.name name then Some x.means else None)
        ≡ (if b then Some e.means else or_else (meaning es name) (if bytes_eq x.name name then Some x.means else None))
    by true = refl
    by false = refl

keeps_new : (es : List Entry) (e : Entry) → meaning es e.name ≡ None → Keeps es (es ++ e ∷ [])
keeps_new es e new name m h = meaning_behind es e name ∙ by (bytes_eq e.name name) refl
  where
    by : (b : Bool) → bytes_eq e.name name ≡ b → (if b then Some e.means else meaning es name) ≡ Some m
    by true i = absurd (subst Is_none (sym new ∙ ap (meaning es) ((bytes_eq-Decides e.name name).0 i) ∙ h) tt)
    by false i = h

with_name_keeps : (es : List Entry) (m : Option Meaning) (e : Entry) → meaning es e.name ≡ m → Keeps es (p.with_name es m e)
with_name_keeps es None e h = keeps_new es e h
with_name_keeps es (Some m) e h = λ name x i. i

heading_keeps : (f : p.File) (h : Heading) → Keeps f.names (p.with_heading f h).names
heading_keeps f h = with_name_keeps f.names (meaning f.names h.name) (p.entry h.name (means.Function f.above)) refl

-- objects come between headings
record Stays (f g : p.File) : Type 0 where
  names : Keeps f.names g.names
  above : g.above ≡ f.above

static_stays : (f : p.File) (i : Item) (u : CType) (l : Option ℕ) (m : Option Meaning) → meaning f.names i.name.bytes ≡ m → Stays f (p.with_static f i u l m)
static_stays f i u l None e = record { names = keeps_new f.names (p.entry i.name.bytes (p.means_static (length f.statics) u l)) e; above = refl }
static_stays f i u l (Some m) e = record { names = λ name x h. h; above = refl }

given_above : (f : p.File) (i : Initialiser) (k : Option ℕ) (vs : List ℕ) → (p.with_given f i k vs).above ≡ f.above
given_above f initialiser.Absent k vs = refl
given_above f (initialiser.Value e) k vs = refl
given_above f (initialiser.List at es b) k vs = refl

given_stays : (f g : p.File) (i : Initialiser) (k : Option ℕ) (vs : List ℕ) → Stays f g → Stays f (p.with_given g i k vs)
given_stays f g i k vs h = record {
  names = λ name m e. ap (λ (es : List Entry). meaning es name) (initialised_names g i k vs) ∙ h.names name m e;
  above = given_above g i k vs ∙ h.above;
}

items_stay : (ss : List Signature) (w : ℕ) (f : p.File) (u : CType) (is : List Item) → Stays f (p.static_items ss w f u is).0
items_stay ss w f u [] = record { names = λ name m h. h; above = refl }
items_stay ss w f u (i ∷ is) =
    let j = st.sized (p.within ss w f) (p.here_of f) i.size in
    let x = st.extent_of (p.within ss w f) j.seen i.size i.initialiser in
    let m = meaning f.names i.name.bytes in
    let inner = p.with_static f i u (st.length_of x) m in
    let a = given_stays f inner i.initialiser (p.static_number f m) (p.static_values ss w inner u x i.initialiser).0 (static_stays f i u (st.length_of x) m refl) in
    let b = items_stay ss w (p.static_item ss w f u i).0 u is in
    record { names = λ name y h. b.names name y (a.names name y h); above = b.above ∙ a.above }

module _ (first : List ℕ → Option ℕ) (ss : List Signature) (w : ℕ) where
  part_keeps : (f : p.File) (x : External) → Keeps f.names (p.part first ss w f x).file.names
  part_keeps f (external.Include at) = λ name m h. heading_keeps (p.with_heading f of_getchar) of_putchar name m (heading_keeps f of_getchar name m h)
  part_keeps f (external.Declared (declaration.Objects at t is)) = (items_stay ss w f (type_of_words t) is).names
  part_keeps f (external.Declared (declaration.Function at r m ps)) = heading_keeps f (heading m.bytes r ps false)
  part_keeps f (external.Defined at r m ps brace body) = heading_keeps f (heading m.bytes r ps true)

  parts_keep : (f : p.File) (xs : List External) → Keeps f.names (p.all_parts first ss w f xs).file.names
  parts_keep f [] = λ name m h. h
  parts_keep f (x ∷ xs) = λ name m h. parts_keep (p.part first ss w f x).file xs name m (part_keeps f x name m h)

-- ---- a heading that breaks no rule has the type for which its name stands in the end

abbrev Means : List Signature → Heading → Option Meaning → Type 0
Means ss h None = ⊥
Means ss h (Some (means.Function i)) = Same h (slice_get ss i)
Means ss h (Some (means.Scalar v u)) = ⊥
Means ss h (Some (means.Array v u m)) = ⊥
Means ss h (Some means.EndOfFile) = ⊥

other_is : (ss : List Signature) (h : Heading) (m : Meaning) → p.other_function ss h (Some m) ≡ false → Means ss h (Some m)
other_is ss h (means.Function i) e = same_signature h (slice_get ss i) e
other_is ss h (means.Scalar v u) e = no (sym e)
other_is ss h (means.Array v u m) e = no (sym e)
other_is ss h means.EndOfFile e = no (sym e)

pub record Good_heading (ss : List Signature) (names : List Entry) (h : Heading) : Type 0 where
  pub plain : is_reserved h.name ≡ false
  pub reads : is_getchar h.name ≡ true → Typed_as h type.Int []
  pub writes : is_putchar h.name ≡ true → Typed_as h type.Int (type.Int ∷ [])
  pub means : is_getchar h.name ≡ false → is_putchar h.name ≡ false → Means ss h (meaning names h.name)

abbrev pub All_good : List Signature → List Entry → List Heading → Type 0
All_good ss names [] = ⊤
All_good ss names (h ∷ hs) = Good_heading ss names h × All_good ss names hs

neither : (a b : Bool) → (a || b) ≡ false → (a ≡ false) × (b ≡ false)
neither true b e = no (sym e)
neither false b e = (refl, e)

heading_means : (ss : List Signature) (names : List Entry) (f : p.File) (h : Heading) (m : Option Meaning) → meaning f.names h.name ≡ m → p.other_function ss h m ≡ false → Same h (slice_get ss f.above)
    → Keeps (p.with_name f.names m (p.entry h.name (means.Function f.above))) names → Means ss h (meaning names h.name)
heading_means ss names f h None e a b k =
    let own : bytes_eq h.name h.name ≡ true = (bytes_eq-Decides h.name h.name).1 refl in
    let stands = meaning_behind f.names (p.entry h.name (means.Function f.above)) h.name ∙ ap (λ (c : Bool). if c then Some (means.Function f.above) else meaning f.names h.name) own in
    subst (Means ss h) (sym (k h.name (means.Function f.above) stands)) b
heading_means ss names f h (Some m) e a b k = subst (Means ss h) (sym (k h.name m e)) (other_is ss h m a)

heading_good : (ss : List Signature) (names : List Entry) (f : p.File) (h : Heading) → forbidden_function f.included h ≡ false → p.other_function ss h (meaning f.names h.name) ≡ false
    → Same h (slice_get ss f.above) → Keeps (p.with_heading f h).names names → Good_heading ss names h
heading_good ss names f h a b s k =
    let x = neither _ _ a in
    let y = neither _ _ x.0 in
    let z = neither _ _ y.0 in
    record {
      plain = z.0;
      reads = λ i. same_heading_is h type.Int [] (negated (is_getchar h.name) h.defines _ y.1 i);
      writes = λ i. same_heading_is h type.Int (type.Int ∷ []) (negated (is_putchar h.name) h.defines _ x.1 i);
      means = λ i j. heading_means ss names f h (meaning f.names h.name) refl b s k;
    }

getchar_good : (ss : List Signature) (names : List Entry) → Good_heading ss names of_getchar
getchar_good ss names = record { plain = refl; reads = λ i. (refl, refl); writes = λ i. no i; means = λ i j. no (sym i) }

putchar_good : (ss : List Signature) (names : List Entry) → Good_heading ss names of_putchar
putchar_good ss names = record { plain = refl; reads = λ i. no i; writes = λ i. (refl, refl); means = λ i j. no (sym j) }

one_longer : {A : Type 0} (xs : List A) (x : A) → length (xs ++ x ∷ []) ≡ suc (length xs)
one_longer [] x = refl
one_longer (y ∷ xs) x = ap suc (one_longer xs x)

module _ (first : List ℕ → Option ℕ) (hs : List Heading) (w : ℕ) (names : List Entry) where
  abbrev ss : List Signature
  ss = map (signature first) hs

  signature_at : (past : List Heading) (h : Heading) (rest : List Heading) → slice_get (map (signature first) (past ++ h ∷ rest)) (length past) ≡ Some (signature first h)
  signature_at [] h rest = refl
  signature_at (x ∷ past) h rest = signature_at past h rest

  same_at : (past : List Heading) (h : Heading) (rest : List Heading) (n : ℕ) → hs ≡ past ++ h ∷ rest → length past ≡ n → Same h (slice_get ss n)
  same_at past h rest n e a =
      subst (Same h) (sym (ap (λ (us : List Heading). slice_get (map (signature first) us) n) e ∙ (ap (slice_get (map (signature first) (past ++ h ∷ rest))) (sym a) ∙ signature_at past h rest))) (refl, refl)

  begins : (past : List Heading) (h : Heading) (rest : List Heading) → hs ≡ past ++ h ∷ rest → hs ≡ (past ++ h ∷ []) ++ rest
  begins past h rest e = e ∙ sym (append_assoc past (h ∷ []) rest)

  one_above : (past : List Heading) (h : Heading) (n : ℕ) → length past ≡ n → length (past ++ h ∷ []) ≡ suc n
  one_above past h n a = one_longer past h ∙ ap suc a

  pub headings_good : (f : p.File) (xs : List External) (past : List Heading) → hs ≡ past ++ headings xs → length past ≡ f.above → clean (p.all_parts first ss w f xs).faults ≡ true
      → Keeps (p.all_parts first ss w f xs).file.names names → All_good ss names (headings xs)
  headings_good f [] past e a c k = tt
  headings_good f (external.Include at ∷ xs) past e a c k =
      let one = begins past of_getchar (of_putchar ∷ headings xs) e in
      let two = begins (past ++ of_getchar ∷ []) of_putchar (headings xs) one in (
        getchar_good ss names,
        (
          putchar_good ss names,
          headings_good (p.with_include f) xs ((past ++ of_getchar ∷ []) ++ of_putchar ∷ []) two
              (one_above (past ++ of_getchar ∷ []) of_putchar (suc f.above) (one_above past of_getchar f.above a)) c k,
        ),
      )
  headings_good f (external.Declared (declaration.Objects at t is) ∷ xs) past e a c k =
      headings_good (p.static_items ss w f (type_of_words t) is).0 xs past e (a ∙ sym (items_stay ss w f (type_of_words t) is).above) (right_of _ _ c) k
  headings_good f (external.Declared (declaration.Function at r m ps) ∷ xs) past e a c k =
      let h = heading m.bytes r ps false in
      let rules = left_of _ _ (left_of _ _ (left_of _ _ c)) in (
        heading_good ss names f h (is_not _ 14 at (left_of _ _ rules)) (is_not _ 12 m.at (right_of _ _ rules)) (same_at past h (headings xs) f.above e a)
            (λ name x i. k name x (parts_keep first ss w (p.with_heading f h) xs name x i)),
        headings_good (p.with_heading f h) xs (past ++ h ∷ []) (begins past h (headings xs) e) (one_above past h f.above a) (right_of _ _ c) k,
      )
  headings_good f (external.Defined at r m ps brace body ∷ xs) past e a c k =
      let h = heading m.bytes r ps true in
      let rules = left_of _ _ (left_of _ _ (left_of _ _ c)) in (
        heading_good ss names f h (is_not _ 14 at (left_of _ _ rules)) (is_not _ 12 m.at (right_of _ _ rules)) (same_at past h (headings xs) f.above e a)
            (λ name x i. k name x (parts_keep first ss w (p.with_heading f h) xs name x i)),
        headings_good (p.with_heading f h) xs (past ++ h ∷ []) (begins past h (headings xs) e) (one_above past h f.above a) (right_of _ _ c) k,
      )

-- ---- each definition makes the function of its number

abbrev pub definitions : List Heading → List Heading
definitions [] = []
definitions (h ∷ hs) = if h.defines then h ∷ definitions hs else definitions hs

pub record Made (d : Heading) (f : Function) : Type 0 where
  pub result : f.result ≡ d.result
  pub params : elements f.params ≡ d.params

abbrev pub Makes : List Heading → List Function → Type 0
Makes [] [] = ⊤
Makes [] (f ∷ fs) = ⊥
Makes (d ∷ ds) [] = ⊥
Makes (d ∷ ds) (f ∷ fs) = Made d f × Makes ds fs

abbrev pub Makes_maybe : List Heading → Option (List Function) → Type 0
Makes_maybe ds None = ⊤
Makes_maybe ds (Some fs) = Makes ds fs

elements_behind : (os : List Object) (o : Object) → elements (os ++ o ∷ []) ≡ elements os ++ o.element ∷ []
elements_behind [] o = refl
elements_behind (x ∷ os) o = ap (λ (us : List CType). x.element ∷ us) (elements_behind os o)

parameter_elements : (q : p.Params) (x : Parameter) (m : Option Identifier) → elements (p.with_parameter q x m).objects ≡ elements q.objects ++ parameter_type x ∷ []
parameter_elements q x None = elements_behind q.objects _
parameter_elements q x (Some m) = elements_behind q.objects _

pub params_elements : (q : p.Params) (xs : List Parameter) → elements (p.with_parameters q xs).objects ≡ elements q.objects ++ map parameter_type xs
params_elements q [] = sym (append-nil (elements q.objects))
params_elements q (x ∷ xs) =
    params_elements (p.with_parameter q x x.name) xs ∙ (ap (λ (us : List CType). us ++ map parameter_type xs) (parameter_elements q x x.name) ∙ append_assoc (elements q.objects) (parameter_type x ∷ []) (map parameter_type xs))

module _ (first : List ℕ → Option ℕ) (ss : List Signature) (w : ℕ) where
  none_made : (ds : List Heading) (o : Option (List Function)) → Makes_maybe ds o → Makes_maybe ds (st.joined (Some []) o)
  none_made ds None h = tt
  none_made ds (Some fs) h = h

  one_made : {A : Type 0} (d : Heading) (ds : List Heading) (made : A → Function) → ((us : A) → Made d (made us)) → (o : Option A) (fs : Option (List Function))
      → Makes_maybe ds fs → Makes_maybe (d ∷ ds) (st.joined (st.single (one made o)) fs)
  one_made d ds made g None fs h = tt
  one_made d ds made g (Some us) None h = tt
  one_made d ds made g (Some us) (Some fs) h = (g us, h)

  pub functions_made : (f : p.File) (xs : List External) → Makes_maybe (definitions (headings xs)) (p.all_parts first ss w f xs).functions
  functions_made f [] = tt
  functions_made f (external.Include at ∷ xs) = none_made _ _ (functions_made (p.with_include f) xs)
  functions_made f (external.Declared (declaration.Objects at t is) ∷ xs) = none_made _ _ (functions_made (p.static_items ss w f (type_of_words t) is).0 xs)
  functions_made f (external.Declared (declaration.Function at r m ps) ∷ xs) = none_made _ _ (functions_made (p.with_heading f (heading m.bytes r ps false)) xs)
  functions_made f (external.Defined at r m ps brace body ∷ xs) =
      let g = p.with_heading f (heading m.bytes r ps true) in
      one_made (heading m.bytes r ps true) (definitions (headings xs)) _ (λ us. record { result = refl; params = params_elements (p.no_parameters g) (parameter_list ps) }) _ _ (functions_made g xs)

-- ---- so a call is one of a function with the type of each of its headings

abbrev Made_at : Option Heading → Option Function → Type 0
Made_at None o = ⊤
Made_at (Some d) None = ⊥
Made_at (Some d) (Some f) = Made d f

made_at : (ds : List Heading) (fs : List Function) → Makes ds fs → (i : ℕ) → Made_at (slice_get ds i) (slice_get fs i)
made_at [] fs h i = tt
made_at (d ∷ ds) [] h i = absurd h
made_at (d ∷ ds) (f ∷ fs) h zero = h.0
made_at (d ∷ ds) (f ∷ fs) h (suc i) = made_at ds fs h.1 i

next_number : (k i : ℕ) → suc k + i ≡ k + suc i
next_number k i = omega arith

same_number : (k : ℕ) → k ≡ k + 0
same_number k = omega arith

from_zero : (i : ℕ) → 0 + i ≡ i
from_zero i = omega arith

module _ (ss : List Signature) (names : List Entry) where
  abbrev Good : Heading → Type 0
  Good h = Good_heading ss names h

  agree_at : (h d : Heading) (s : Option Signature) → Same h s → Same d s → Typed_as h d.result d.params
  agree_at h d None a b = absurd a
  agree_at h d (Some s) a b = (a.0 ∙ sym b.0, a.1 ∙ sym b.1)

  agree : (h d : Heading) (m : Option Meaning) → Means ss h m → Means ss d m → Typed_as h d.result d.params
  agree h d None a b = absurd a
  agree h d (Some (means.Function i)) a b = agree_at h d (slice_get ss i) a b
  agree h d (Some (means.Scalar v u)) a b = absurd a
  agree h d (Some (means.Array v u m)) a b = absurd a
  agree h d (Some means.EndOfFile) a b = absurd a

  one_type : (h d : Heading) → Good h → Good d → d.name ≡ h.name → is_getchar h.name ≡ false → is_putchar h.name ≡ false → Typed_as h d.result d.params
  one_type h d x y e i j = agree h d (meaning names h.name) (x.means i j) (subst (λ (n : List ℕ). Means ss d (meaning names n)) e (y.means (ap is_getchar e ∙ i) (ap is_putchar e ∙ j)))

  abbrev Named : List ℕ → Option Heading → Type 0
  Named name None = ⊥
  Named name (Some d) = (d.name ≡ name) × Good d

  abbrev Found : ℕ → List Heading → List ℕ → Option ℕ → Type 0
  Found k ds name None = ⊤
  Found k ds name (Some j) = (i : ℕ) × (j ≡ k + i) × Named name (slice_get ds i)

  later : (k : ℕ) (d : Heading) (ds : List Heading) (name : List ℕ) (o : Option ℕ) → Found (suc k) ds name o → Found k (d ∷ ds) name o
  later k d ds name None h = tt
  later k d ds name (Some j) h = (suc h.0, h.1 ∙ next_number k h.0, h.2)

  found : (k : ℕ) (hs : List Heading) → All_good ss names hs → (name : List ℕ) → Found k (definitions hs) name (definition_from k hs name)
  found k [] g name = tt
  found k (h ∷ hs) g name = by h.defines (found (suc k) hs g.1 name) (found k hs g.1 name)
    where
      at_name : (b : Bool) → bytes_eq h.name name ≡ b → Found (suc k) (definitions hs) name (definition_from (suc k) hs name)
          → Found k (h ∷ definitions hs) name (if b then Some k else definition_from (suc k) hs name)
      at_name true e i = (0, same_number k, ((bytes_eq-Decides h.name name).0 e, g.0))
      at_name false e i = later k h (definitions hs) name (definition_from (suc k) hs name) i

      by : (b : Bool) → Found (suc k) (definitions hs) name (definition_from (suc k) hs name) → Found k (definitions hs) name (definition_from k hs name)
          → Found k (if b then h ∷ definitions hs else definitions hs) name (if b then (if bytes_eq h.name name then Some k else definition_from (suc k) hs name) else definition_from k hs name)
      by true i j = at_name (bytes_eq h.name name) refl i
      by false i j = j

  module _ (t : Typed) (hs : List Heading) (good : All_good ss names hs) (made : Makes (definitions hs) t.functions) where
    of_heading : (h : Heading) → Good h → is_getchar h.name ≡ false → is_putchar h.name ≡ false → (d : Option Heading) (f : Option Function) → Named h.name d → Made_at d f → Is_function h.result h.params f
    of_heading h x i j None f n m = absurd n
    of_heading h x i j (Some d) None n m = absurd m
    of_heading h x i j (Some d) (Some f) n m = let same = one_type h d x n.1 n.0 i j in (m.result ∙ sym same.0, m.params ∙ sym same.1)

    calls_made : (h : Heading) → Good h → is_getchar h.name ≡ false → is_putchar h.name ≡ false → (o : Option ℕ) → Found 0 (definitions hs) h.name o → Callable t h.result h.params (defined o)
    calls_made h x i j None n = tt
    calls_made h x i j (Some k) n = subst (λ (l : ℕ). Is_function h.result h.params (slice_get t.functions l)) (sym (n.1 ∙ from_zero n.0))
        (of_heading h x i j (slice_get (definitions hs) n.0) (slice_get t.functions n.0) n.2 (made_at (definitions hs) t.functions made n.0))

    signature_callable : (h : Heading) → Good h → Callable t h.result h.params (callee_of (definition_of hs) h.name)
    signature_callable h x = by (is_getchar h.name) (is_putchar h.name) refl refl
      where
        by : (a b : Bool) → is_getchar h.name ≡ a → is_putchar h.name ≡ b
            → Callable t h.result h.params (if a then Some callee.Getchar else (if b then Some callee.Putchar else defined (definition_of hs h.name)))
        by true b i j = x.reads i
        by false true i j = x.writes j
        by false false i j = calls_made h x i j (definition_of hs h.name) (found 0 hs good h.name)

    pub signatures_callable : (rest : List Heading) → All_good ss names rest → Signatures t (map (signature (definition_of hs)) rest)
    signatures_callable [] g = tt
    signatures_callable (h ∷ rest) g = (signature_callable h g.0, signatures_callable rest g.1)

  -- ---- `main`

  abbrev pub Main : Type 0
  Main = (h : Heading) × (h.name ≡ codes "main") × Typed_as h type.Int [] × Good h

  pub main_among : (hs : List Heading) → All_good ss names hs → p.has_main hs ≡ true → Main
  main_among [] g e = no e
  main_among (h ∷ hs) g e = by (p.is_main h) refl e (main_among hs g.1)
    where
      by : (b : Bool) → p.is_main h ≡ b → (b || p.has_main hs) ≡ true → (p.has_main hs ≡ true → Main) → Main
      by true i j rest = (h, (bytes_eq-Decides h.name (codes "main")).0 (left_of _ _ (right_of _ _ i)), same_heading_is h type.Int [] (right_of _ _ (right_of _ _ i)), g.0)
      by false i j rest = rest j

  -- each `main` has the type of the one that is asked for
  pub main_type : Main → (d : Heading) → Good d → d.name ≡ codes "main" → Typed_as d type.Int []
  main_type x d g e = let same = one_type d x.0 g x.3 (x.1 ∙ sym e) (ap is_getchar e) (ap is_putchar e) in (same.0 ∙ x.2.0, same.1 ∙ x.2.1)
