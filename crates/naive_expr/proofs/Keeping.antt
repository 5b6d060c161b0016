-- The tables of a site say where each object is kept.
use Rattle.std.proofs.Common.{◌≡◌, ℕ, zero, suc, ◌+◌, List, [], ◌∷◌, length, map, take, Option, Some, None, refl, sym, ap, ◌∙◌, add-zero, zero-add, arith}
use Rattle.std.specs.Prelude.{slice_get}
use Rattle.c_tree.specs.declared.typed.Object.{Object}
use Rattle.c_tree.specs.declared.typed.Static.{Static}
use Rattle.c_tree.specs.declared.typed.Function.{Function}
use Rattle.c_tree.specs.declared.typed.Typed.{Typed}
use Rattle.c_tree.specs.declared.typed.Variable.{Variable}
use Rattle.c_tree.specs.declared.typed.Variable.TheVariants as variable
use Rattle.c_limits.specs.Frames.{scalars, arrays, scalar_in, array_in}
use Rattle.naive_code.specs.Storage as place
use Rattle.naive_code.specs.Storage.{static_storage, static_in, local_storage, local_in, arrays_from}
use Rattle.naive_code.specs.Functions.{site_of as site_in}
use Rattle.naive_expr.specs.declared.sites.Storage.{Storage}
use Rattle.naive_expr.specs.declared.sites.Site.{Site}
use Rattle.naive_expr.specs.Seen.{storage_of, entry_of, places_of, site_of}
use Rattle.naive_expr.specs.Tables.{statics_from, locals_from}

abbrev or_missing : Option place.Storage → place.Storage
or_missing None = place.Missing
or_missing (Some s) = s

entry_map : (made : List Storage) (x : ℕ) → entry_of (slice_get made x) ≡ or_missing (slice_get (map storage_of made) x)
entry_map [] x = refl
entry_map (s ∷ rest) zero = refl
entry_map (s ∷ rest) (suc x) = entry_map rest x

static_at : (ss : List Static) (n x : ℕ) → or_missing (slice_get (statics_from n ss) x) ≡ static_in (n + x) (slice_get ss x)
static_at [] n x = refl
static_at (s ∷ ss) n zero = ap (λ k. static_storage k s.object.element s.object.length) (sym (add-zero n))
static_at (s ∷ ss) n (suc x) =
    let same : (n + 1) + x ≡ n + suc x = omega arith in
    static_at ss (n + 1) x ∙ ap (λ k. static_in k (slice_get ss x)) same

local_at : (w : ℕ) (os : List Object) (temp offset x : ℕ)
    → or_missing (slice_get (locals_from w temp offset os) x) ≡ local_in (temp + scalars (take x os)) (offset + arrays w (take x os)) (slice_get os x)
local_at w [] temp offset x = refl
local_at w (o ∷ os) temp offset zero =
    ap (λ k. local_storage k offset o.element o.length) (sym (add-zero temp)) ∙ ap (λ k. local_storage (temp + 0) k o.element o.length) (sym (add-zero offset))
local_at w (o ∷ os) temp offset (suc x) =
    let t : (temp + scalar_in o.length) + scalars (take x os) ≡ temp + (scalar_in o.length + scalars (take x os)) = omega arith in
    let k : (offset + array_in w o.element o.length) + arrays w (take x os) ≡ offset + (array_in w o.element o.length + arrays w (take x os)) = omega arith in
    local_at w os (temp + scalar_in o.length) (offset + array_in w o.element o.length) x
    ∙ (ap (λ n. local_in n ((offset + array_in w o.element o.length) + arrays w (take x os)) (slice_get os x)) t
    ∙ ap (λ n. local_in (temp + (scalar_in o.length + scalars (take x os))) n (slice_get os x)) k)

place_is : (w : ℕ) (t : Typed) (f : Function) (s : Site) → map storage_of s.statics ≡ statics_from 0 t.statics
    → map storage_of s.locals ≡ locals_from w (length f.params) (arrays_from [] w f) f.locals → (v : Variable) → places_of s v ≡ place.storage_of [] w t f v
place_is w t f s e g (variable.Static x) =
    entry_map s.statics x ∙ (ap (λ r. or_missing (slice_get r x)) e ∙ (static_at t.statics 0 x ∙ ap (λ k. static_in k (slice_get t.statics x)) (zero-add x)))
place_is w t f s e g (variable.Parameter x) = refl
place_is w t f s e g (variable.Local x) =
    entry_map s.locals x ∙ (ap (λ r. or_missing (slice_get r x)) g ∙ local_at w f.locals (length f.params) (arrays_from [] w f) x)

pub site_is : (w : ℕ) (t : Typed) (f : Function) (s : Site) → s.bits ≡ w → map storage_of s.statics ≡ statics_from 0 t.statics
    → map storage_of s.locals ≡ locals_from w (length f.params) (arrays_from [] w f) f.locals → site_of s ≡ site_in [] w t f
site_is w t f s b e g =
    let q = place_is w t f s e g in
    λ i. record { bits = b i; storage = λ v. q v i }
