-- The bytes of objects: two objects have no byte in common.
use Rattle.std.proofs.Common.{◌≡◌, ◌≢◌, ℕ, zero, suc, ◌+◌, ◌*◌, ◌-◌, ◌/◌, ◌≤◌, ◌<◌, ◌⊎◌, inl, inr, List, [], ◌∷◌, Option, Some, None, refl, sym, ap, ◌∙◌, subst, arith}
use Rattle.std.specs.Prelude.{take, slice_get, slice_index, length, unwrap_or}
use Rattle.std.proofs.lemmas.Bool.{cases_lt}
use Rattle.rtl_word.specs.Words.{IsWordSize}
use Rattle.rtl_word.proofs.Below.{by_size}
use Rattle.md_shapes.specs.Shapes.{Frame as Fixed}
use Rattle.c_tree.specs.declared.types.CType.{CType}
use Rattle.c_tree.specs.declared.typed.Variable.{Variable}
use Rattle.c_tree.specs.declared.typed.Variable.TheVariants as variable
use Rattle.c_tree.specs.declared.typed.Object.{Object}
use Rattle.c_tree.specs.declared.typed.Static.{Static}
use Rattle.c_tree.specs.declared.typed.Function.{Function}
use Rattle.c_tree.specs.declared.typed.Typed.{Typed}
use Rattle.c_limits.specs.Frames.{element_bytes, word_bytes, object_bytes, bytes_by, array_bytes, array_in, arrays, rounded, scalars}
use Rattle.c_meaning.specs.Expressions.{Kind, missing, scalar, array}
use Rattle.c_meaning.specs.Run.{kind_in, kind_of, kind_by, object_of}
use Rattle.temp_machine.specs.Routines.{Image, Target}
use Rattle.naive_code.specs.Storage.{Base, Symbol, Frame, Storage, Temporary, Word, Elements, Missing, storage_of, local_in, local_storage, static_in, static_storage, arrays_from}
use Rattle.naive_run.specs.Law.{IsUnitOf, HoldsStatic}
use Rattle.naive_step.proofs.Making.{Call}
use Rattle.naive_rep.proofs.Rooms.{array_before}
use Rattle.naive_rep.proofs.Rep.{address_of}

-- bytes from an address on
pub record Area : Type 0 where
  pub from : ℕ
  pub count : ℕ

abbrev area : ℕ → ℕ → Area
area a n = record { from = a; count = n }

pub rounds_up : (w n : ℕ) → IsWordSize w → n ≤ rounded w n
rounds_up w n z = by_size (λ w. n ≤ rounded w n) (omega arith) (omega arith) w z

pub bytes_are : (w : ℕ) → IsWordSize w → w / 8 ≡ word_bytes w
bytes_are w z = by_size (λ w. w / 8 ≡ word_bytes w) refl refl w z

module _ (t : Target) (u : Image) (k : Call) where
  -- the bytes of an object that is kept in memory
  abbrev pub area_of : Kind → Storage → Option Area
  area_of (scalar of) (Word y) = Some (area (slice_index u.symbols y) (t.word / 8))
  area_of (array of n) (Elements base by) = Some (area (address_of t u k base) (n * element_bytes t.word by))
  area_of kind place = None

  no_area : {A : Type 0} (z : Area) → None ≡ Some z → A
  no_area z e = absurd (grind (arith, e))

  same_area : (y z : Area) → Some y ≡ Some z → y ≡ z
  same_area y z e = ap (λ o. unwrap_or o y) e

  module _ (m : Fixed) (source : Typed) (f : Function) (size : IsWordSize t.word) (unit : IsUnitOf t m source u) (low : t.base + length u.bytes ≤ k.base) where
    -- of an object of the file
    pub record OfStatic (x : ℕ) (z : Area) : Type 0 where
      pub static : Static
      pub is : slice_get source.statics x ≡ Some static
      pub from : z.from ≡ slice_index u.symbols x
      pub count : z.count ≤ object_bytes t.word static.object

    static_area : (x : ℕ) (z : Area) (o : Option Static) → slice_get source.statics x ≡ o → area_of (kind_of (object_of o)) (static_in x o) ≡ Some z → OfStatic x z
    static_area x z None is e = no_area z e
    static_area x z (Some s) is e = by_length s.object.length refl e
      where
        by_length : (l : Option ℕ) → s.object.length ≡ l → area_of (kind_by s.object.element l) (static_storage x s.object.element l) ≡ Some z → OfStatic x z
        by_length None l g = record {
          static = s;
          is = is;
          from = ap (λ y. y.from) (sym (same_area _ z g));
          count =
              let here : z.count ≡ t.word / 8 = ap (λ y. y.count) (sym (same_area _ z g)) in
              let there : object_bytes t.word s.object ≡ word_bytes t.word = ap (bytes_by t.word s.object.element) l in
              let bytes = bytes_are t.word size in
              omega (arith, here, there, bytes);
        }
        by_length (Some n) l g = record {
          static = s;
          is = is;
          from = ap (λ y. y.from) (sym (same_area _ z g));
          count =
              let here : z.count ≡ n * element_bytes t.word s.object.element = ap (λ y. y.count) (sym (same_area _ z g)) in
              let there : object_bytes t.word s.object ≡ rounded t.word (n * element_bytes t.word s.object.element) = ap (bytes_by t.word s.object.element) l in
              let up = rounds_up t.word (n * element_bytes t.word s.object.element) size in
              omega (arith, here, there, up);
        }

    -- of an array of the function
    pub record OfLocal (x : ℕ) (z : Area) : Type 0 where
      pub local : Object
      pub is : slice_get f.locals x ≡ Some local
      pub from : z.from ≡ k.base + (arrays_from t.kept t.word f + arrays t.word (take x f.locals))
      pub count : z.count ≤ array_in t.word local.element local.length

    local_area : (x temp : ℕ) (z : Area) (o : Option Object) → slice_get f.locals x ≡ o
        → area_of (kind_of o) (local_in temp (arrays_from t.kept t.word f + arrays t.word (take x f.locals)) o) ≡ Some z → OfLocal x z
    local_area x temp z None is e = no_area z e
    local_area x temp z (Some o) is e = by_length o.length refl e
      where
        by_length : (l : Option ℕ) → o.length ≡ l → area_of (kind_by o.element l) (local_storage temp (arrays_from t.kept t.word f + arrays t.word (take x f.locals)) o.element l) ≡ Some z → OfLocal x z
        by_length None l g = no_area z g
        by_length (Some n) l g = record {
          local = o;
          is = is;
          from = ap (λ y. y.from) (sym (same_area _ z g));
          count =
              let here : z.count ≡ n * element_bytes t.word o.element = ap (λ y. y.count) (sym (same_area _ z g)) in
              let there : array_in t.word o.element o.length ≡ rounded t.word (n * element_bytes t.word o.element) = ap (array_in t.word o.element) l in
              let up = rounds_up t.word (n * element_bytes t.word o.element) size in
              omega (arith, here, there, up);
        }

    abbrev pub Apart : Area → Area → Type 0
    Apart y z = (y.from + y.count ≤ z.from) ⊎ (z.from + z.count ≤ y.from)

    statics_apart : (x y : ℕ) (a b : Area) → x ≢ y → OfStatic x a → OfStatic y b → Apart a b
    statics_apart x y a b ne p q = elim (cases_lt x y) as (λ _. Apart a b) [
      | inl lt ↦ inl (let z = unit.apart x y p.static q.static lt p.is q.is in omega (arith, z, p.from, p.count, q.from))
      | inr ge ↦ elim (cases_lt y x) as (λ _. Apart a b) [
        | inl lt ↦ inr (let z = unit.apart y x q.static p.static lt q.is p.is in omega (arith, z, q.from, q.count, p.from))
        | inr le ↦ absurd (ne (omega (arith, ge, le)))
      ]
    ]

    locals_apart : (x y : ℕ) (a b : Area) → x ≢ y → OfLocal x a → OfLocal y b → Apart a b
    locals_apart x y a b ne p q = elim (cases_lt x y) as (λ _. Apart a b) [
      | inl lt ↦ inl (let z = array_before t.word f.locals x y p.local lt p.is in omega (arith, z, p.from, p.count, q.from))
      | inr ge ↦ elim (cases_lt y x) as (λ _. Apart a b) [
        | inl lt ↦ inr (let z = array_before t.word f.locals y x q.local lt q.is in omega (arith, z, q.from, q.count, p.from))
        | inr le ↦ absurd (ne (omega (arith, ge, le)))
      ]
    ]

    static_below : (x y : ℕ) (a b : Area) → OfStatic x a → OfLocal y b → a.from + a.count ≤ b.from
    static_below x y a b p q = let z = (unit.statics x p.static p.is).to in omega (arith, z, low, p.from, p.count, q.from)

    abbrev pub object_area : Variable → Option Area
    object_area x = area_of (kind_in source f x) (storage_of t.kept t.word source f x)

    pub no_parameter : {A : Type 0} (x : ℕ) (z : Area) (g : Kind) → area_of g (Temporary x) ≡ Some z → A
    no_parameter x z missing e = no_area z e
    no_parameter x z (scalar of) e = no_area z e
    no_parameter x z (array of n) e = no_area z e

    pub of_static : (x : ℕ) (z : Area) → object_area (variable.Static x) ≡ Some z → OfStatic x z
    of_static x z e = static_area x z (slice_get source.statics x) refl e

    pub of_local : (x : ℕ) (z : Area) → object_area (variable.Local x) ≡ Some z → OfLocal x z
    of_local x z e = local_area x (length f.params + scalars (take x f.locals)) z (slice_get f.locals x) refl e

    -- two objects have no byte in common
    pub areas_apart : (x y : Variable) (a b : Area) → x ≢ y → object_area x ≡ Some a → object_area y ≡ Some b → Apart a b
    areas_apart (variable.Static x) (variable.Static y) a b ne e g = statics_apart x y a b (λ z. ne (ap variable.Static z)) (of_static x a e) (of_static y b g)
    areas_apart (variable.Static x) (variable.Local y) a b ne e g = inl (static_below x y a b (of_static x a e) (of_local y b g))
    areas_apart (variable.Local x) (variable.Static y) a b ne e g = inr (static_below y x b a (of_static y b g) (of_local x a e))
    areas_apart (variable.Local x) (variable.Local y) a b ne e g = locals_apart x y a b (λ z. ne (ap variable.Local z)) (of_local x a e) (of_local y b g)
    areas_apart (variable.Parameter x) y a b ne e g = no_parameter x a (kind_in source f (variable.Parameter x)) e
    areas_apart x (variable.Parameter y) a b ne e g = no_parameter y b (kind_in source f (variable.Parameter y)) g
