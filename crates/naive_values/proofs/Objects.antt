-- Names of objects and elements of arrays: the places that they designate, and their values.
use Rattle.std.proofs.Common.{◌≡◌, ◌≢◌, ℕ, zero, suc, ◌+◌, ◌*◌, ◌-◌, ◌^◌, ◌≤◌, ◌<◌, ◌⊎◌, inl, inr, List, [], ◌∷◌, ◌++◌, Option, Some, None, refl, sym, ap, ◌∙◌, subst, arith}
use Rattle.std.specs.Prelude.{Bool, true, false, if◌then◌else◌, nat_lt, ◌&&◌}
use Rattle.std.proofs.lemmas.Bool.Decides.{nat_tests}
use mathlib.Core.List.{append_assoc}
use Rattle.rtl_tree.specs.declared.cells.Cell.TheVariants.{Temp}
use Rattle.md_shapes.specs.Shapes.{Frame as Fixed}
use Rattle.c_tree.specs.declared.token.At.{At as Spot}
use Rattle.c_tree.specs.declared.types.CType.{CType}
use Rattle.c_tree.specs.declared.types.CType.TheVariants as type
use Rattle.c_tree.specs.declared.typed.Head.{Head}
use Rattle.c_tree.specs.declared.typed.Variable.{Variable}
use Rattle.c_tree.specs.declared.typed.Function.{Function}
use Rattle.c_tree.specs.declared.typed.Typed.{Typed}
use Rattle.c_limits.specs.Frames.{element_bytes}
use Rattle.c_meaning.specs.Operators.{as_type}
use Rattle.c_meaning.specs.Parts.{State, Part, then_do, give, act, demand, load, Value as Result, word, absent}
use Rattle.c_meaning.specs.Expressions.{Kind, missing, scalar, array, type_in, Lvalue, designated, whole, element as element_of, is_inside, read, set_or_act, as_value}
use Rattle.c_meaning.specs.Run.{kind_in}
use Rattle.temp_machine.specs.Routines.{Image, Target}
use Rattle.temp_machine.specs.Live.{Place}
use Rattle.temp_machine.specs.Small.{Point}
use Rattle.naive_code.specs.Operations.{Op}
use Rattle.naive_code.specs.Storage.{Base, Storage, Temporary, Word, Elements, storage_of, scalar_count}
use Rattle.naive_code.specs.Expressions.{Value, Designated, object, element, opened, storage_in, got_from, fetched, addressed, address_in, read_object, read_element}
use Rattle.naive_run.specs.Sound.{alike}
use Rattle.naive_step.proofs.Doing.{Does, any, does_then, does_on, there, came}
use Rattle.naive_step.proofs.Making.{Call, Inside, At, routine_in}
use Rattle.naive_rep.proofs.Rooms.{within}
use Rattle.naive_rep.proofs.Rep.{address_of}
use Rattle.naive_assigned.proofs.Areas.{area_of}
use Rattle.naive_assigned.proofs.Ready.{Ready, object_below}
use Rattle.naive_assigned.proofs.Storages.{array_storage, scalar_storage}
use Rattle.naive_assigned.proofs.Working.{rep_works}
use Rattle.naive_values.proofs.Typed.{as_type_small, as_alike}
use Rattle.naive_values.proofs.Getting.{To, Ops, Gets, stands_split, addresses}
use Rattle.naive_values.proofs.Asked.{IsFresh, Stands_for, Since, since_refl, since_trans, since_works, Has, Has_word, had_since, HasPlace, Kept, in_temporary, in_word, in_array, kind_at, storage_at, ValueDoes, PlaceDoes}
use Rattle.naive_values.proofs.Places.{Spared, gets_kept, array_area, array_has}
use Rattle.naive_values.proofs.Composing.{value_then}

both_lt : (length i : ℕ) (a b : Bool) → nat_lt i length ≡ a → (a && b) ≡ true → i < length
both_lt length i true b p g = grind (arith, nat_tests, p)
both_lt length i false b p g = absurd (grind (arith, g))

-- an index that is inside is below the length
inside_lt : (w : ℕ) (of : CType) (length i : ℕ) → is_inside w of length i ≡ true → i < length
inside_lt w type.Unsigned length i e = grind (arith, nat_tests, e)
inside_lt w type.Schar length i e = both_lt length i (nat_lt i length) (nat_lt i (2 ^ (w - 1))) refl e
inside_lt w type.Uchar length i e = both_lt length i (nat_lt i length) (nat_lt i (2 ^ (w - 1))) refl e
inside_lt w type.Int length i e = both_lt length i (nat_lt i length) (nat_lt i (2 ^ (w - 1))) refl e
inside_lt w type.Void length i e = both_lt length i (nat_lt i length) (nat_lt i (2 ^ (w - 1))) refl e

module _ (t : Target) (u : Image) (m : Fixed) (source : Typed) (f : Function) (k : Call) (ready : Ready t u m source f k) (n : ℕ) where
  abbrev Code : List Op → Place → Place → Type 0
  Code = Ops t u m source f k ready

  -- the value of a place is read
  pub read_does : (of : CType) (p : Designated) (a first : ℕ) (r q : Place) (c : Point) (x : Lvalue) (s : State) (d : Point) (v least spare : ℕ) → scalar_count f ≤ least → least ≤ v → Spared t u m source f k ready p v least spare
      → HasPlace t u m source f k ready of p a first r c x s d → Code (got_from (storage_in p) v a spare) r q → Does t u n d (Has_word t u m source f k ready of v least q d) (read x s)
  read_does of p a first r q c x s d v least spare fresh le spared h ops = by_value (load s x.variable x.index) refl
    where
      by_value : (o : Option ℕ) → load s x.variable x.index ≡ o → Does t u n d (Has_word t u m source f k ready of v least q d) (set_or_act o x.at s)
      by_value None e = any [] _
      by_value (Some z) e =
          let to = gets_kept t u m source f k ready r q d h.inside h.at s h.rep x p v a least spare z spared h.kept e ops in
          let typed : as_type t.word of z ≡ z = h.typed z ∙ h.rep.typed x.variable x.index z e in
          came t u n d to.point (Has_word t u m source f k ready of v least q d) z s to.comes to.fact.works.printed (record {
            inside = to.inside;
            at = to.at;
            rep = rep_works t u m source f k ready v least d to.point (omega (arith, fresh, le)) fresh to.fact.works s h.rep;
            since = since_works t u m source f k ready least v least d to.point le (omega arith) to.fact.works;
            value = (to.fact.temp, typed, subst (λ z. z < 2 ^ t.word) typed (as_type_small t.word of z ready.target.size));
          })

  -- and is the value of the whole
  read_value : (of : CType) (p : Designated) (a first : ℕ) (r q : Place) (c : Point) (x : Lvalue) (s : State) (d : Point) (v spare : ℕ) → scalar_count f ≤ first → first ≤ v → Spared t u m source f k ready p v first spare
      → HasPlace t u m source f k ready of p a first r c x s d → Code (got_from (storage_in p) v a spare) r q → Does t u n d (Has t u m source f k ready of v first q c) (as_value (read x s))
  read_value of p a first r q c x s d v spare fresh le spared h ops =
      does_then t u n d (Has_word t u m source f k ready of v first q d) (Has t u m source f k ready of v first q c) (read x s) (λ v s. give (word v) s)
      (read_does of p a first r q c x s d v first spare fresh le spared h ops)
      (λ z s1 e g. there t u n e (Has t u m source f k ready of v first q c) (word z) s1 (had_since t u m source f k ready of v first first q c d (word z) s1 e (omega arith) h.since g))

  -- ---- a name

  module _ (h : Head) (x : Variable) (same : alike h.of (type_in (kind_in source f x)) ≡ true) where
    abbrev storage : Storage
    storage = storage_of t.kept t.word source f x

    typed_so : (v : ℕ) → as_type t.word h.of v ≡ as_type t.word (type_in (kind_in source f x)) v
    typed_so v = as_alike t.word h.of (type_in (kind_in source f x)) v same

    kept_scalar : (by : CType) (at : ℕ) (c : Point) → kind_in source f x ≡ scalar by → ((j : ℕ) × (storage ≡ Temporary j)) ⊎ ((y : ℕ) × (storage ≡ Word y)) → Kept t u m source f k ready (object storage) (designated h x 0) at c
    kept_scalar by at c kind (inl (j, place)) = in_temporary j by (ap object place) place kind refl
    kept_scalar by at c kind (inr (y, place)) = in_word y by (ap object place) place kind refl

    has_object : (first : ℕ) (p q : Place) (c : Point) (s : State) → q ≡ p → Inside t u k c → At t u p c → Stands_for t u m source f k ready s c
        → Does t u n c (HasPlace t u m source f k ready h.of (object storage) 0 first q c) (whole (kind_in source f x) h x s)
    has_object first p q c s last i at rep = by_kind (kind_in source f x) refl
      where
        by_kind : (g : Kind) → kind_in source f x ≡ g → Does t u n c (HasPlace t u m source f k ready h.of (object storage) 0 first q c) (whole g h x s)
        by_kind missing e = any [] _
        by_kind (array of length) e = any [] _
        by_kind (scalar by) e = there t u n c _ (designated h x 0) s (record {
          inside = i;
          at = subst (λ z. At t u z c) (sym last) at;
          rep = rep;
          since = since_refl t u m source f k ready first c;
          kept = kept_scalar by 0 c e (scalar_storage t.kept t.word source f x by e);
          typed = typed_so;
        })

    pub object_place : PlaceDoes t u m source f k ready n h.of (whole (kind_in source f x) h x) (object storage)
    object_place first label p q c s fresh last i at rep = has_object first p q c s last i at rep

    pub object_value : ValueDoes t u m source f k ready n h.of (λ s. then_do (whole (kind_in source f x) h x s) (λ y s1. as_value (read y s1))) (read_object storage)
    object_value first label p q c s fresh ops i at rep =
        does_then t u n c (HasPlace t u m source f k ready h.of (object storage) 0 first p c) (Has t u m source f k ready h.of first first q c) (whole (kind_in source f x) h x s) (λ y s1. as_value (read y s1))
        (has_object first p p c s refl i at rep)
        (λ y s1 d g. read_value h.of (object storage) 0 first p q c y s1 d first 0 fresh (omega arith) tt g ops)

  -- ---- an element

  module _ (h : Head) (x : Variable) (by : CType) (length : ℕ) (base : Base) (kind : kind_in source f x ≡ array by length) (place : storage_of t.kept t.word source f x ≡ Elements base by)
      (same : alike h.of by ≡ true) (of : CType) (e : State → Part Result) (v : Value) (fresh_v : IsFresh v) (does : ValueDoes t u m source f k ready n of e v) where
    abbrev it : Designated
    it = element (Elements base by) v

    below_word : (i : ℕ) → i < length → address_of t u k base + element_bytes t.word by * i < 2 ^ t.word
    below_word i lt =
        let end = within (element_bytes t.word by) i length lt in
        let below = object_below t u m source f k ready x (array_area t u m source f k ready base by length) (array_has t u m source f k ready x base by length place kind) in
        let high = ready.high in let memory = ready.target.memory in
        omega (arith, end, below, high, memory)

    has_element : (first : ℕ) (r q : Place) (c d : Point) (i : ℕ) (s : State) → scalar_count f ≤ first → Code (addressed base by (v.result first) (first + v.temps)) r q
        → Has_word t u m source f k ready of (v.result first) first r c i s d → Does t u n d (HasPlace t u m source f k ready h.of it (v.result first) first q c) (element_of (array by length) t.word of h x i s)
    has_element first r q c d i s fresh ops g = by_test (is_inside t.word of length i) refl
      where
        by_test : (b : Bool) → is_inside t.word of length i ≡ b → Does t u n d (HasPlace t u m source f k ready h.of it (v.result first) first q c) (if b then give (designated h x i) s else act 5 h.at)
        by_test false is = any [] _
        by_test true is =
            let lt = inside_lt t.word of length i is in
            let value = g.value in
            let least = fresh_v.from first in
            let to = addresses t u m source f k ready r q d g.inside g.at base by (v.result first) (first + v.temps) i (fresh_v.to first) g.rep.stack (below_word i lt) value.0 ops in
            came t u n d to.point (HasPlace t u m source f k ready h.of it (v.result first) first q c) (designated h x i) s to.comes to.fact.works.printed (record {
              inside = to.inside;
              at = to.at;
              rep = rep_works t u m source f k ready (v.result first) (first + v.temps) d to.point (omega (arith, fresh, least)) (omega (arith, fresh)) to.fact.works s g.rep;
              since = since_trans t u m source f k ready first first c d to.point (omega arith) g.since
                  (since_works t u m source f k ready first (v.result first) (first + v.temps) d to.point least (omega arith) to.fact.works);
              kept = in_array base by length v refl place kind lt to.fact.temp;
              typed = λ z. as_alike t.word h.of by z same ∙ ap (λ g. as_type t.word (type_in g) z) (sym kind);
            })

    pub element_place : PlaceDoes t u m source f k ready n h.of (λ s. then_do (then_do (e s) demand) (element_of (array by length) t.word of h x)) it
    element_place first label p q c s fresh ops i at rep =
        value_then t u m source f k ready n of v e does (addressed base by (v.result first) (first + v.temps)) (HasPlace t u m source f k ready h.of it (v.result first) first q c)
        (element_of (array by length) t.word of h x) first label p q c s fresh ops i at rep
        (λ r d a s1 rest g. has_element first r q c d a s1 fresh rest g)

    pub element_value : ValueDoes t u m source f k ready n h.of (λ s. then_do (then_do (e s) demand) (λ a s1. then_do (element_of (array by length) t.word of h x a s1) (λ y s2. as_value (read y s2)))) (read_element (Elements base by) v)
    element_value first label p q c s fresh ops i at rep =
        let at_end = first + (v.temps + 3) in
        let address = addressed base by (v.result first) (first + v.temps) in
        let fetch = fetched by (v.result first) (v.result first) at_end in
        value_then t u m source f k ready n of v e does (address ++ fetch) (Has t u m source f k ready h.of (v.result first) first q c)
        (λ a s1. then_do (element_of (array by length) t.word of h x a s1) (λ y s2. as_value (read y s2))) first label p q c s fresh
        (subst (λ os. Code os p q) (append_assoc (v.ops first label) address fetch) ops) i at rep
        (λ r d a s1 rest g.
        let parts = stands_split t u m k address fetch r q rest in
        does_then t u n d (HasPlace t u m source f k ready h.of it (v.result first) first parts.0 c) (Has t u m source f k ready h.of (v.result first) first q c)
        (element_of (array by length) t.word of h x a s1) (λ y s2. as_value (read y s2))
        (has_element first r parts.0 c d a s1 fresh parts.1 g)
        (λ y s2 z b. read_value h.of it (v.result first) first parts.0 q c y s2 z (v.result first) at_end fresh (fresh_v.from first)
        (let lt = fresh_v.to first in ((let z : v.result first < at_end = omega (arith, lt) in z), (let z : first ≤ at_end = omega arith in z))) b parts.2))
