-- A scalar in a temporary is assigned to.
use Rattle.std.proofs.Common.{◌≡◌, ◌≢◌, ℕ, zero, suc, ◌+◌, ◌*◌, ◌≤◌, ◌<◌, ◌⊎◌, inl, inr, List, [], ◌∷◌, Option, Some, None, refl, sym, ap, ◌∙◌, subst, arith}
use Rattle.std.specs.Prelude.{Bool, true, false, ◌==◌, ◌&&◌, if◌then◌else◌, take, slice_get, length, unwrap_or}
use Rattle.std.proofs.lemmas.Bool.{cases_lt}
use Rattle.std.proofs.lemmas.Bool.Decides.{nat_tests}
use Rattle.c_tree.specs.declared.types.CType.{CType}
use Rattle.c_tree.specs.declared.typed.Variable.{Variable}
use Rattle.c_tree.specs.declared.typed.Variable.TheVariants as variable
use Rattle.c_tree.specs.declared.typed.Object.{Object}
use Rattle.c_tree.specs.declared.typed.Function.{Function}
use Rattle.c_tree.specs.declared.typed.Typed.{Typed}
use Rattle.c_limits.specs.Frames.{arrays, scalars}
use Rattle.c_meaning.specs.Operators.{as_type}
use Rattle.behaviour.specs.Run.{AreBytes}
use Rattle.c_meaning.specs.Parts.{State, Store, load, put, store, with_statics, with_params, with_locals}
use Rattle.c_meaning.specs.Expressions.{Kind, missing, scalar, array, type_in}
use Rattle.c_meaning.specs.Run.{kind_in, kind_of}
use Rattle.temp_machine.specs.Routines.{Image, Target}
use Rattle.temp_machine.specs.Small.{Point}
use Rattle.naive_code.specs.Storage.{Storage, Temporary, Word, Elements, Missing, storage_of, local_in, local_storage, scalar_count, arrays_from}
use Rattle.naive_step.proofs.Making.{Call}
use Rattle.naive_step.proofs.Acts.{SetsTemp}
use Rattle.naive_step.proofs.Memory.{word_same}
use Rattle.naive_rep.proofs.Rooms.{scalar_before}
use Rattle.naive_rep.proofs.Rep.{Told, Holds, Rep, holds_like}
use Rattle.naive_rep.proofs.Temporaries.{number_of, no_static, parameter_below, local_number}

-- ---- what a store leaves

-- the value that is stored, or another one as it was
pub data After (s : State) (x : Variable) (i : ℕ) (v : Option ℕ) (y : Variable) (j : ℕ) : Type 0 where
  here : y ≡ x → j ≡ i → load (store s x i v) y j ≡ v → After s x i v y j
  elsewhere : (y ≡ x → j ≡ i → ⊥) → load (store s x i v) y j ≡ load s y j → After s x i v y j

same_test : (a b : ℕ) → (a == b) ≡ true → a ≡ b
same_test a b h = grind (arith, nat_tests, h)

other_test : (a b : ℕ) → (a == b) ≡ false → a ≢ b
other_test a b h e = grind (arith, nat_tests, h, e)

-- of one store of objects
data Put (st : Store) (x i : ℕ) (v : Option ℕ) (y j : ℕ) : Type 0 where
  put_here : y ≡ x → j ≡ i → put st x i v y j ≡ v → Put st x i v y j
  put_elsewhere : (y ≡ x → j ≡ i → ⊥) → put st x i v y j ≡ st y j → Put st x i v y j

put_cases : (st : Store) (x i : ℕ) (v : Option ℕ) (y j : ℕ) → Put st x i v y j
put_cases st x i v y j = by_tests (y == x) (j == i) refl refl
  where
    by_tests : (a b : Bool) → (y == x) ≡ a → (j == i) ≡ b → Put st x i v y j
    by_tests true true e f = put_here (same_test y x e) (same_test j i f) (rw (e, f) refl)
    by_tests true false e f = put_elsewhere (λ p q. other_test j i f q) (rw (e, f) refl)
    by_tests false b e f = put_elsewhere (λ p q. other_test y x e p) (rw e refl)

abbrev pub index_of : Variable → ℕ
index_of (variable.Static x) = x
index_of (variable.Parameter x) = x
index_of (variable.Local x) = x

pub after_store : (s : State) (x : Variable) (i : ℕ) (v : Option ℕ) (y : Variable) (j : ℕ) → After s x i v y j
after_store s (variable.Static x) i v (variable.Static y) j = elim (put_cases s.statics x i v y j) as (λ _. After s (variable.Static x) i v (variable.Static y) j) [
  | put_here p q e ↦ here (ap variable.Static p) q e
  | put_elsewhere differs e ↦ elsewhere (λ p. differs (ap index_of p)) e
]
after_store s (variable.Parameter x) i v (variable.Parameter y) j = elim (put_cases s.params x i v y j) as (λ _. After s (variable.Parameter x) i v (variable.Parameter y) j) [
  | put_here p q e ↦ here (ap variable.Parameter p) q e
  | put_elsewhere differs e ↦ elsewhere (λ p. differs (ap index_of p)) e
]
after_store s (variable.Local x) i v (variable.Local y) j = elim (put_cases s.locals x i v y j) as (λ _. After s (variable.Local x) i v (variable.Local y) j) [
  | put_here p q e ↦ here (ap variable.Local p) q e
  | put_elsewhere differs e ↦ elsewhere (λ p. differs (ap index_of p)) e
]
after_store s (variable.Static x) i v (variable.Parameter y) j = elsewhere (λ p q. grind (arith, p)) refl
after_store s (variable.Static x) i v (variable.Local y) j = elsewhere (λ p q. grind (arith, p)) refl
after_store s (variable.Parameter x) i v (variable.Static y) j = elsewhere (λ p q. grind (arith, p)) refl
after_store s (variable.Parameter x) i v (variable.Local y) j = elsewhere (λ p q. grind (arith, p)) refl
after_store s (variable.Local x) i v (variable.Static y) j = elsewhere (λ p q. grind (arith, p)) refl
after_store s (variable.Local x) i v (variable.Parameter y) j = elsewhere (λ p q. grind (arith, p)) refl

-- ---- two scalars have two temporaries

local_length : (temp offset n : ℕ) (os : List Object) (x : ℕ) (o : Option Object) → slice_get os x ≡ o → local_in temp offset o ≡ Temporary n
    → (p : Object) × (slice_get os x ≡ Some p) × (p.length ≡ None)
local_length temp offset n os x None is e = absurd (grind (arith, e))
local_length temp offset n os x (Some o) is e = by_length o.length refl e
  where
    by_length : (l : Option ℕ) → o.length ≡ l → local_storage temp offset o.element l ≡ Temporary n → (p : Object) × (slice_get os x ≡ Some p) × (p.length ≡ None)
    by_length None l z = (o, is, l)
    by_length (Some k) l z = absurd (grind (arith, z))

same_local : (os : List Object) (x y : ℕ) (o p : Object) → slice_get os x ≡ Some o → o.length ≡ None → slice_get os y ≡ Some p → p.length ≡ None → scalars (take x os) ≡ scalars (take y os) → x ≡ y
same_local os x y o p is_x none_x is_y none_y e = elim (cases_lt x y) as (λ _. x ≡ y) [
  | inl lt ↦ (let z = scalar_before os x y o lt is_x none_x in absurd (omega (arith, z, e)))
  | inr ge ↦ elim (cases_lt y x) as (λ _. x ≡ y) [
    | inl lt ↦ (let z = scalar_before os y x p lt is_y none_y in absurd (omega (arith, z, e)))
    | inr le ↦ omega (arith, ge, le)
  ]
]

module _ (kept : List ℕ) (w : ℕ) (source : Typed) (f : Function) where
  abbrev place_of : Variable → Storage
  place_of = storage_of kept w source f

  pub one_temporary : (x y : Variable) (n : ℕ) (of by : CType) → place_of x ≡ Temporary n → place_of y ≡ Temporary n → kind_in source f x ≡ scalar of → kind_in source f y ≡ scalar by → x ≡ y
  one_temporary (variable.Static x) y n of by e g is be = absurd (no_static x n (slice_get source.statics x) e)
  one_temporary x (variable.Static y) n of by e g is be = absurd (no_static y n (slice_get source.statics y) g)
  one_temporary (variable.Parameter x) (variable.Parameter y) n of by e g is be = ap variable.Parameter (ap number_of e ∙ sym (ap number_of g))
  one_temporary (variable.Parameter x) (variable.Local y) n of by e g is be =
      let below = parameter_below f.params x of (slice_get f.params x) refl is in
      let same : x ≡ n = ap number_of e in
      let other = (local_number (length f.params + scalars (take y f.locals)) (arrays_from kept w f + arrays w (take y f.locals)) n f.locals y (slice_get f.locals y) refl g).0 in
      absurd (omega (arith, below, same, other))
  one_temporary (variable.Local x) (variable.Parameter y) n of by e g is be =
      let below = parameter_below f.params y by (slice_get f.params y) refl be in
      let same : y ≡ n = ap number_of g in
      let other = (local_number (length f.params + scalars (take x f.locals)) (arrays_from kept w f + arrays w (take x f.locals)) n f.locals x (slice_get f.locals x) refl e).0 in
      absurd (omega (arith, below, same, other))
  one_temporary (variable.Local x) (variable.Local y) n of by e g is be =
      let a = (local_number (length f.params + scalars (take x f.locals)) (arrays_from kept w f + arrays w (take x f.locals)) n f.locals x (slice_get f.locals x) refl e).0 in
      let b = (local_number (length f.params + scalars (take y f.locals)) (arrays_from kept w f + arrays w (take y f.locals)) n f.locals y (slice_get f.locals y) refl g).0 in
      let o = local_length (length f.params + scalars (take x f.locals)) (arrays_from kept w f + arrays w (take x f.locals)) n f.locals x (slice_get f.locals x) refl e in
      let p = local_length (length f.params + scalars (take y f.locals)) (arrays_from kept w f + arrays w (take y f.locals)) n f.locals y (slice_get f.locals y) refl g in
      ap variable.Local (same_local f.locals x y o.0 p.0 o.1 o.2 p.1 p.2 (omega (arith, a, b)))

module _ (t : Target) (u : Image) (k : Call) (source : Typed) (f : Function) where
  -- a scalar in a temporary is set to a value of its type
  pub rep_set : (s : State) (c d : Point) (x : Variable) (n v : ℕ) (of : CType) → storage_of t.kept t.word source f x ≡ Temporary n → kind_in source f x ≡ scalar of → as_type t.word of v ≡ v
      → SetsTemp n (Some v) c d → Rep t u k source f s c → Rep t u k source f (store s x 0 (Some v)) d
  rep_set s c d x n v of place kind typed h r = record {
    stack = h.regs t.sp ∙ r.stack;
    input = h.input ∙ input_is;
    bytes = bytes_are;
    held = λ y j. held_by y j (after_store s x 0 (Some v) y j);
    typed = λ y j z e. typed_by y j z e (after_store s x 0 (Some v) y j);
  }
    where
      by_variable : (A : State → Type 0) → ((st : Store) → A (with_statics st s)) → ((st : Store) → A (with_params st s)) → ((st : Store) → A (with_locals st s)) → (y : Variable) → A (store s y 0 (Some v))
      by_variable A a b g (variable.Static y) = a _
      by_variable A a b g (variable.Parameter y) = b _
      by_variable A a b g (variable.Local y) = g _

      input_is : c.view.input ≡ (store s x 0 (Some v)).input
      input_is = by_variable (λ z. c.view.input ≡ z.input) (λ st. r.input) (λ st. r.input) (λ st. r.input) x

      bytes_are : AreBytes (store s x 0 (Some v)).input
      bytes_are = by_variable (λ z. AreBytes z.input) (λ st. r.bytes) (λ st. r.bytes) (λ st. r.bytes) x

      told_here : (i : ℕ) (g : Kind) (place' : Storage) → g ≡ scalar of → place' ≡ Temporary n → Holds t u k g place' i (Some v) d
      told_here i g place' e e' = subst (λ g. Holds t u k g place' i (Some v) d) (sym e) (subst (λ p. Holds t u k (scalar of) p i (Some v) d) (sym e') (λ z. h.temp))

      held_by : (y : Variable) (j : ℕ) → After s x 0 (Some v) y j → Holds t u k (kind_in source f y) (storage_of t.kept t.word source f y) j (load (store s x 0 (Some v)) y j) d
      held_by y j (here p q e) =
          subst (λ o. Holds t u k (kind_in source f y) (storage_of t.kept t.word source f y) j o d) (sym e)
          (told_here j (kind_in source f y) (storage_of t.kept t.word source f y) (ap (kind_in source f) p ∙ kind) (ap (storage_of t.kept t.word source f) p ∙ place))
      held_by y j (elsewhere differs e) =
          subst (λ o. Holds t u k (kind_in source f y) (storage_of t.kept t.word source f y) j o d) (sym e)
          (holds_like t u k (kind_in source f y) (storage_of t.kept t.word source f y) j (load s y j) c d
          (λ i is by is_scalar zero_is. h.others i (λ same. differs (one_temporary t.kept t.word source f y x n by of (is ∙ ap Temporary same) place is_scalar kind) zero_is))
          (λ a i. word_same c.view.bytes d.view.bytes a i (λ b low high. h.bytes b)) (r.held y j))

      typed_by : (y : Variable) (j z : ℕ) → load (store s x 0 (Some v)) y j ≡ Some z → After s x 0 (Some v) y j → as_type t.word (type_in (kind_in source f y)) z ≡ z
      typed_by y j z e (here p q is) =
          let same : z ≡ v = ap (λ o. unwrap_or o z) (sym e ∙ is) in
          subst (λ g. as_type t.word (type_in g) z ≡ z) (sym (ap (kind_in source f) p ∙ kind)) (ap (as_type t.word of) same ∙ (typed ∙ sym same))
      typed_by y j z e (elsewhere differs is) = r.typed y j z (sym is ∙ e)
