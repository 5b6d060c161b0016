-- The temporaries of scalars are the first ones, and no operation of an expression sets one but an assignment.
use Rattle.std.proofs.Common.{◌≡◌, ◌≢◌, ℕ, zero, suc, ◌+◌, ◌*◌, ◌≤◌, ◌<◌, List, [], ◌∷◌, Option, Some, None, refl, sym, ap, ◌∙◌, subst, arith}
use Rattle.std.specs.Prelude.{take, slice_get, length}
use Rattle.std.proofs.lemmas.Option.{slice_get_within}
use Rattle.c_tree.specs.declared.types.CType.{CType}
use Rattle.c_tree.specs.declared.typed.Variable.{Variable}
use Rattle.c_tree.specs.declared.typed.Variable.TheVariants as variable
use Rattle.c_tree.specs.declared.typed.Object.{Object}
use Rattle.c_tree.specs.declared.typed.Static.{Static}
use Rattle.c_tree.specs.declared.typed.Function.{Function}
use Rattle.c_tree.specs.declared.typed.Typed.{Typed}
use Rattle.c_limits.specs.Frames.{arrays, scalars}
use Rattle.c_meaning.specs.Parts.{State}
use Rattle.c_meaning.specs.Expressions.{Kind, missing, scalar, array}
use Rattle.c_meaning.specs.Run.{kind_in, kind_of}
use Rattle.temp_machine.specs.Routines.{Image, Target}
use Rattle.temp_machine.specs.Small.{Point}
use Rattle.naive_code.specs.Storage.{Storage, Temporary, Word, Elements, Missing, storage_of, local_in, local_storage, static_in, static_storage, scalar_count, arrays_from}
use Rattle.naive_step.proofs.Making.{Call}
use Rattle.naive_step.proofs.Acts.{SetsTemp}
use Rattle.naive_rep.proofs.Rooms.{scalar_below}
use Rattle.naive_rep.proofs.Rep.{Rep, rep_like}

abbrev pub number_of : Storage → ℕ
number_of (Temporary n) = n
number_of _ = 0

pub no_static : (x n : ℕ) (o : Option Static) → static_in x o ≡ Temporary n → ⊥
no_static x n None e = grind (arith, e)
no_static x n (Some s) e = by_length s.object.length e
  where
    by_length : (l : Option ℕ) → static_storage x s.object.element l ≡ Temporary n → ⊥
    by_length None z = grind (arith, z)
    by_length (Some k) z = grind (arith, z)

pub parameter_below : (os : List Object) (x : ℕ) (of : CType) (o : Option Object) → slice_get os x ≡ o → kind_of o ≡ scalar of → x < length os
parameter_below os x of None is e = absurd (grind (arith, e))
parameter_below os x of (Some o) is e = slice_get_within os x o is

pub local_number : (temp offset n : ℕ) (os : List Object) (x : ℕ) (o : Option Object) → slice_get os x ≡ o → local_in temp offset o ≡ Temporary n → (n ≡ temp) × (scalars (take x os) < scalars os)
local_number temp offset n os x None is e = absurd (grind (arith, e))
local_number temp offset n os x (Some o) is e = by_length o.length refl e
  where
    by_length : (l : Option ℕ) → o.length ≡ l → local_storage temp offset o.element l ≡ Temporary n → (n ≡ temp) × (scalars (take x os) < scalars os)
    by_length None l z = (sym (ap number_of z), scalar_below os x o is l)
    by_length (Some k) l z = absurd (grind (arith, z))

pub temporary_below : (kept : List ℕ) (w : ℕ) (source : Typed) (f : Function) (x : Variable) (n : ℕ) → storage_of kept w source f x ≡ Temporary n → (of : CType) → kind_in source f x ≡ scalar of → n < scalar_count f
temporary_below kept w source f (variable.Static x) n e of is = absurd (no_static x n (slice_get source.statics x) e)
temporary_below kept w source f (variable.Parameter x) n e of is =
    let same : x ≡ n = ap number_of e in
    let below : x < length f.params = parameter_below f.params x of (slice_get f.params x) refl is in
    omega (arith, same, below)
temporary_below kept w source f (variable.Local x) n e of is =
    let h = local_number (length f.params + scalars (take x f.locals)) (arrays_from kept w f + arrays w (take x f.locals)) n f.locals x (slice_get f.locals x) refl e in
    let same = h.0 in let below = h.1 in
    omega (arith, same, below)

module _ (t : Target) (u : Image) (k : Call) (source : Typed) (f : Function) where
  -- a temporary of no object is set
  pub rep_temp : (s : State) (c d : Point) (a : ℕ) (x : Option ℕ) → scalar_count f ≤ a → SetsTemp a x c d → Rep t u k source f s c → Rep t u k source f s d
  rep_temp s c d a x le h r =
      rep_like t u k source f s c d (h.regs t.sp) h.input
      (λ y n is of kind. h.others n (λ e. let below = temporary_below t.kept t.word source f y n is of kind in omega (arith, e, le, below)))
      h.bytes r
