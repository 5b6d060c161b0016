-- An array's elements are kept in memory, a scalar in a temporary or a word.
use Rattle.std.proofs.Common.{◌≡◌, ℕ, ◌⊎◌, inl, inr, List, Option, Some, None, refl, sym, ap, ◌∙◌, subst, arith}
use Rattle.std.specs.Prelude.{slice_get}
use Rattle.c_tree.specs.declared.types.CType.{CType}
use Rattle.c_tree.specs.declared.typed.Variable.{Variable}
use Rattle.c_tree.specs.declared.typed.Variable.TheVariants as variable
use Rattle.c_tree.specs.declared.typed.Object.{Object}
use Rattle.c_tree.specs.declared.typed.Static.{Static}
use Rattle.c_tree.specs.declared.typed.Function.{Function}
use Rattle.c_tree.specs.declared.typed.Typed.{Typed}
use Rattle.c_meaning.specs.Expressions.{Kind, missing, scalar, array, type_in}
use Rattle.c_meaning.specs.Run.{kind_in, kind_of, kind_by, object_of}
use Rattle.naive_code.specs.Storage.{Base, Symbol, Frame, Storage, Temporary, Word, Elements, storage_of, local_in, local_storage, static_in, static_storage}

same_element : (a b : CType) (n k : ℕ) → array a n ≡ array b k → a ≡ b
same_element a b n k e = ap type_in e

static_array : (x n : ℕ) (of : CType) (o : Option Static) → kind_of (object_of o) ≡ array of n → (base : Base) × (static_in x o ≡ Elements base of)
static_array x n of None e = absurd (grind (arith, e))
static_array x n of (Some s) e = by_length s.object.length e
  where
    by_length : (l : Option ℕ) → kind_by s.object.element l ≡ array of n → (base : Base) × (static_storage x s.object.element l ≡ Elements base of)
    by_length None g = absurd (grind (arith, g))
    by_length (Some k) g = (Symbol x, ap (Elements (Symbol x)) (same_element _ _ _ _ g))

local_array : (temp offset n : ℕ) (of : CType) (o : Option Object) → kind_of o ≡ array of n → (base : Base) × (local_in temp offset o ≡ Elements base of)
local_array temp offset n of None e = absurd (grind (arith, e))
local_array temp offset n of (Some o) e = by_length o.length e
  where
    by_length : (l : Option ℕ) → kind_by o.element l ≡ array of n → (base : Base) × (local_storage temp offset o.element l ≡ Elements base of)
    by_length None g = absurd (grind (arith, g))
    by_length (Some k) g = (Frame offset, ap (Elements (Frame offset)) (same_element _ _ _ _ g))

no_array : {A : Type 0} (n : ℕ) (of : CType) (o : Option Object) → ((p : Object) → o ≡ Some p → p.length ≡ None) → kind_of o ≡ array of n → A
no_array n of None scalars e = absurd (grind (arith, e))
no_array n of (Some o) scalars e =
    let g : kind_by o.element None ≡ array of n = ap (kind_by o.element) (sym (scalars o refl)) ∙ e in
    absurd (grind (arith, g))

static_scalar : (x : ℕ) (of : CType) (o : Option Static) → kind_of (object_of o) ≡ scalar of → static_in x o ≡ Word x
static_scalar x of None e = absurd (grind (arith, e))
static_scalar x of (Some s) e = by_length s.object.length e
  where
    by_length : (l : Option ℕ) → kind_by s.object.element l ≡ scalar of → static_storage x s.object.element l ≡ Word x
    by_length None g = refl
    by_length (Some k) g = absurd (grind (arith, g))

local_scalar : (temp offset : ℕ) (of : CType) (o : Option Object) → kind_of o ≡ scalar of → local_in temp offset o ≡ Temporary temp
local_scalar temp offset of None e = absurd (grind (arith, e))
local_scalar temp offset of (Some o) e = by_length o.length e
  where
    by_length : (l : Option ℕ) → kind_by o.element l ≡ scalar of → local_storage temp offset o.element l ≡ Temporary temp
    by_length None g = refl
    by_length (Some k) g = absurd (grind (arith, g))

module _ (kept : List ℕ) (w : ℕ) (source : Typed) (f : Function) where
  pub array_storage : ((x : ℕ) (o : Object) → slice_get f.params x ≡ Some o → o.length ≡ None) → (x : Variable) (of : CType) (n : ℕ) → kind_in source f x ≡ array of n
      → (base : Base) × (storage_of kept w source f x ≡ Elements base of)
  array_storage scalars (variable.Static x) of n e = static_array x n of (slice_get source.statics x) e
  array_storage scalars (variable.Parameter x) of n e = no_array n of (slice_get f.params x) (scalars x) e
  array_storage scalars (variable.Local x) of n e = local_array _ _ n of (slice_get f.locals x) e

  pub scalar_storage : (x : Variable) (of : CType) → kind_in source f x ≡ scalar of → ((n : ℕ) × (storage_of kept w source f x ≡ Temporary n)) ⊎ ((y : ℕ) × (storage_of kept w source f x ≡ Word y))
  scalar_storage (variable.Static x) of e = inr (x, static_scalar x of (slice_get source.statics x) e)
  scalar_storage (variable.Parameter x) of e = inl (x, refl)
  scalar_storage (variable.Local x) of e = inl (_, local_scalar _ _ of (slice_get f.locals x) e)
