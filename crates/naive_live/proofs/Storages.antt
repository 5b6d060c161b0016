-- Where the objects of a sound function are kept.
use Rattle.std.proofs.Common.{◌≡◌, ℕ, zero, suc, ◌+◌, ◌<◌, Bool, true, false, ◌&&◌, List, [], ◌∷◌, Option, Some, None, refl, sym, ap, ◌∙◌, subst, arith}
use Rattle.std.specs.Prelude.{length, slice_get, take}
use Rattle.std.specs.List.{list_all}
use Rattle.std.proofs.lemmas.Option.{slice_get_within}
use Rattle.c_tree.specs.declared.types.CType.{CType}
use Rattle.c_tree.specs.declared.typed.Variable.{Variable}
use Rattle.c_tree.specs.declared.typed.Variable.TheVariants as variable
use Rattle.c_tree.specs.declared.typed.Object.{Object}
use Rattle.c_tree.specs.declared.typed.Static.{Static}
use Rattle.c_tree.specs.declared.typed.Function.{Function}
use Rattle.c_tree.specs.declared.typed.Typed.{Typed}
use Rattle.c_limits.specs.Frames.{scalar_in, scalars, arrays}
use Rattle.c_meaning.specs.Run.{kind_in, kind_of, kind_by, object_of}
use Rattle.c_sound.specs.Sound.{is_scalar, is_array}
use Rattle.naive_code.specs.Storage.{Base, Symbol, Frame, Storage, Temporary, Elements, storage_of, local_in, local_storage, static_in, static_storage, scalar_count, arrays_from}
use Rattle.naive_run.specs.Sound as sound
use Rattle.naive_live.proofs.Places.{IsScalarIn, in_temporary, in_word}

clash : false ≡ true → ⊥
clash e = cc

pub both_so : (a b : Bool) → (a && b) ≡ true → (a ≡ true) × (b ≡ true)
both_so true b e = (refl, e)
both_so false b e = absurd (clash e)

pub all_at : {A : Type 0} (p : A → Bool) (xs : List A) (i : ℕ) (x : A) → list_all p xs ≡ true → slice_get xs i ≡ Some x → p x ≡ true
all_at p [] i x e h = cc
all_at p (y ∷ ys) zero x e h = let k = both_so (p y) (list_all p ys) e in let q : y ≡ x = cc in subst (λ z. p z ≡ true) q k.0
all_at p (y ∷ ys) (suc i) x e h = let k = both_so (p y) (list_all p ys) e in all_at p ys i x k.1 h

-- before a scalar there are fewer
fewer_first : (ls : List Object) (x : ℕ) (o : Object) → slice_get ls x ≡ Some o → o.length ≡ None → scalars (take x ls) < scalars ls
fewer_first [] x o e h = cc
fewer_first (l ∷ ls) zero o e h =
    let q : l ≡ o = cc in
    let none : l.length ≡ None = ap (λ (z : Object). z.length) q ∙ h in
    subst (λ (k : Option ℕ). 0 < scalar_in k + scalars ls) (sym none) (omega arith)
fewer_first (l ∷ ls) (suc x) o e h = let k = fewer_first ls x o e h in omega (arith, k)

-- by kind and length
by_kind_scalar : (t : CType) (l : Option ℕ) → is_scalar (kind_by t l) ≡ true → l ≡ None
by_kind_scalar t None e = refl
by_kind_scalar t (Some n) e = absurd (clash e)

by_kind_array : (t : CType) (l : Option ℕ) → is_array (kind_by t l) ≡ true → (n : ℕ) × (l ≡ Some n)
by_kind_array t None e = absurd (clash e)
by_kind_array t (Some n) e = (n, refl)

abbrev pub IsArrayIn : Storage → Type 0
IsArrayIn s = (base : Base) × (of : CType) × (s ≡ Elements base of)

module _ (depth : ℕ → Option ℕ) (n : ℕ) where
  static_scalar : (x : ℕ) (o : Option Static) → is_scalar (kind_of (object_of o)) ≡ true → IsScalarIn depth n (static_in x o)
  static_scalar x None e = absurd (clash e)
  static_scalar x (Some s) e =
      subst (λ (l : Option ℕ). IsScalarIn depth n (static_storage x s.object.element l)) (sym (by_kind_scalar s.object.element s.object.length e)) (in_word x)

  local_scalar : (temp offset : ℕ) (o : Option Object) → ((p : Object) → o ≡ Some p → p.length ≡ None → temp < n) → is_scalar (kind_of o) ≡ true
      → IsScalarIn depth n (local_in temp offset o)
  local_scalar temp offset None h e = absurd (clash e)
  local_scalar temp offset (Some o) h e =
      let none = by_kind_scalar o.element o.length e in
      subst (λ (l : Option ℕ). IsScalarIn depth n (local_storage temp offset o.element l)) (sym none) (in_temporary temp (h o refl none))

  parameter_scalar : (x : ℕ) (o : Option Object) → ((p : Object) → o ≡ Some p → x < n) → is_scalar (kind_of o) ≡ true → IsScalarIn depth n (Temporary x)
  parameter_scalar x None h e = absurd (clash e)
  parameter_scalar x (Some o) h e = in_temporary x (h o refl)

static_array : (x : ℕ) (o : Option Static) → is_array (kind_of (object_of o)) ≡ true → IsArrayIn (static_in x o)
static_array x None e = absurd (clash e)
static_array x (Some s) e =
    let k = by_kind_array s.object.element s.object.length e in
    (Symbol x, s.object.element, ap (static_storage x s.object.element) k.1)

local_array : (temp offset : ℕ) (o : Option Object) → is_array (kind_of o) ≡ true → IsArrayIn (local_in temp offset o)
local_array temp offset None e = absurd (clash e)
local_array temp offset (Some o) e =
    let k = by_kind_array o.element o.length e in
    (Frame offset, o.element, ap (local_storage temp offset o.element) k.1)

parameter_array : {A : Type 0} (o : Option Object) → ((p : Object) → o ≡ Some p → sound.is_scalar p ≡ true) → is_array (kind_of o) ≡ true → A
parameter_array None h e = absurd (clash e)
parameter_array (Some o) h e =
    let k = by_kind_array o.element o.length e in
    let q : sound.is_scalar_by (Some k.0) ≡ true = ap sound.is_scalar_by (sym k.1) ∙ h o refl in absurd (clash q)

module _ (kept : List ℕ) (w : ℕ) (t : Typed) (f : Function) where
  pub scalar_storage : (depth : ℕ → Option ℕ) (x : Variable) → is_scalar (kind_in t f x) ≡ true → IsScalarIn depth (scalar_count f) (storage_of kept w t f x)
  scalar_storage depth (variable.Static x) e = static_scalar depth (scalar_count f) x (slice_get t.statics x) e
  scalar_storage depth (variable.Parameter x) e =
      parameter_scalar depth (scalar_count f) x (slice_get f.params x) (λ p q. (let k = slice_get_within f.params x p q in omega (arith, k))) e
  scalar_storage depth (variable.Local x) e =
      local_scalar depth (scalar_count f) (length f.params + scalars (take x f.locals)) (arrays_from kept w f + arrays w (take x f.locals)) (slice_get f.locals x)
      (λ p q none. (let k = fewer_first f.locals x p q none in omega (arith, k))) e

  pub array_storage : list_all sound.is_scalar f.params ≡ true → (x : Variable) → is_array (kind_in t f x) ≡ true → IsArrayIn (storage_of kept w t f x)
  array_storage params (variable.Static x) e = static_array x (slice_get t.statics x) e
  array_storage params (variable.Parameter x) e = parameter_array (slice_get f.params x) (λ p q. all_at sound.is_scalar f.params x p params q) e
  array_storage params (variable.Local x) e =
      local_array (length f.params + scalars (take x f.locals)) (arrays_from kept w f + arrays w (take x f.locals)) (slice_get f.locals x) e
