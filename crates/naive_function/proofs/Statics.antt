-- The values of the objects of the file, which all calls share.
use Rattle.std.proofs.Common.{◌≡◌, ℕ, ◌+◌, ◌*◌, ◌/◌, ◌≤◌, ◌<◌, Option, Some, None, refl, sym, ap, ◌∙◌, subst, arith}
use Rattle.std.specs.Prelude.{slice_get, slice_index, length}
use Rattle.rtl_word.specs.Words.{IsWordSize}
use Rattle.rtl_effect.specs.Views.{word_at}
use Rattle.md_shapes.specs.Shapes.{Frame as Fixed}
use Rattle.c_tree.specs.declared.types.CType.{CType}
use Rattle.c_tree.specs.declared.typed.Variable.TheVariants as variable
use Rattle.c_tree.specs.declared.typed.Static.{Static}
use Rattle.c_tree.specs.declared.typed.Function.{Function}
use Rattle.c_tree.specs.declared.typed.Typed.{Typed}
use Rattle.c_limits.specs.Frames.{element_bytes, word_bytes, object_bytes, bytes_by, rounded}
use Rattle.c_meaning.specs.Operators.{as_type}
use Rattle.c_meaning.specs.Parts.{State, Store}
use Rattle.c_meaning.specs.Expressions.{Kind, scalar, array, type_in}
use Rattle.c_meaning.specs.Run.{kind_of, kind_by, object_of}
use Rattle.temp_machine.specs.Routines.{Image, Target}
use Rattle.temp_machine.specs.Small.{Point}
use Rattle.naive_code.specs.Storage.{static_in, static_storage}
use Rattle.naive_run.specs.Law.{IsUnitOf}
use Rattle.naive_step.proofs.Making.{Call}
use Rattle.naive_step.proofs.Memory.{word_same}
use Rattle.naive_rep.proofs.Rooms.{within}
use Rattle.naive_rep.proofs.Rep.{Told, Holds, Rep, cut_to, told_same}
use Rattle.naive_assigned.proofs.Areas.{bytes_are, rounds_up}
use Rattle.naive_lists.proofs.Lists.{array_length}

same_length : (a b : CType) (n k : ℕ) → array a n ≡ array b k → n ≡ k
same_length a b n k e = ap array_length e

same_element : (a b : CType) (n k : ℕ) → array a n ≡ array b k → a ≡ b
same_element a b n k e = ap type_in e

module _ (t : Target) (u : Image) (source : Typed) where
  abbrev pub static_kind : ℕ → Kind
  static_kind x = kind_of (object_of (slice_get source.statics x))

  -- the values stand in bytes
  pub record Statics_in (bytes : ℕ → Option ℕ) (statics : Store) : Type 0 where
    pub words : (x : ℕ) (of : CType) → static_kind x ≡ scalar of → Told (statics x 0) (word_at bytes (slice_index u.symbols x) (t.word / 8))
    pub elements : (x i n : ℕ) (of : CType) → static_kind x ≡ array of n → i < n
        → Told (cut_to (element_bytes t.word of) (statics x i)) (word_at bytes (slice_index u.symbols x + element_bytes t.word of * i) (element_bytes t.word of))
    pub typed : (x i v : ℕ) → statics x i ≡ Some v → as_type t.word (type_in (static_kind x)) v ≡ v

  -- ---- where the objects of the file end

  module _ (m : Fixed) (size : IsWordSize t.word) (unit : IsUnitOf t m source u) where
    word_end : (x : ℕ) (of : CType) (o : Option Static) → slice_get source.statics x ≡ o → kind_of (object_of o) ≡ scalar of → slice_index u.symbols x + t.word / 8 ≤ t.base + length u.bytes
    word_end x of None is e = absurd (grind (arith, e))
    word_end x of (Some s) is e = by_length s.object.length refl e
      where
        by_length : (l : Option ℕ) → s.object.length ≡ l → kind_by s.object.element l ≡ scalar of → slice_index u.symbols x + t.word / 8 ≤ t.base + length u.bytes
        by_length (Some n) l g = absurd (grind (arith, g))
        by_length None l g =
            let end = (unit.statics x s is).to in
            let there : object_bytes t.word s.object ≡ word_bytes t.word = ap (bytes_by t.word s.object.element) l in
            let bytes = bytes_are t.word size in
            omega (arith, end, there, bytes)

    element_end : (x i n : ℕ) (of : CType) (o : Option Static) → slice_get source.statics x ≡ o → kind_of (object_of o) ≡ array of n → i < n
        → slice_index u.symbols x + element_bytes t.word of * i + element_bytes t.word of ≤ t.base + length u.bytes
    element_end x i n of None is e lt = absurd (grind (arith, e))
    element_end x i n of (Some s) is e lt = by_length s.object.length refl e
      where
        by_length : (l : Option ℕ) → s.object.length ≡ l → kind_by s.object.element l ≡ array of n → slice_index u.symbols x + element_bytes t.word of * i + element_bytes t.word of ≤ t.base + length u.bytes
        by_length None l g = absurd (grind (arith, g))
        by_length (Some n') l g =
            let end = (unit.statics x s is).to in
            let there : object_bytes t.word s.object ≡ rounded t.word (n' * element_bytes t.word s.object.element) = ap (bytes_by t.word s.object.element) l in
            let up = rounds_up t.word (n' * element_bytes t.word s.object.element) size in
            let same : n' * element_bytes t.word s.object.element ≡ n * element_bytes t.word of =
            ap (λ a. n' * element_bytes t.word a) (same_element _ _ _ _ g) ∙ ap (λ k. k * element_bytes t.word of) (same_length _ _ _ _ g) in
            let last = within (element_bytes t.word of) i n lt in
            omega (arith, end, there, up, same, last)

    -- where no byte of the data has changed, the values haven't
    pub statics_same : (bytes bytes' : ℕ → Option ℕ) (statics : Store) → ((b : ℕ) → b < t.base + length u.bytes → bytes' b ≡ bytes b) → Statics_in bytes statics → Statics_in bytes' statics
    statics_same bytes bytes' statics same h = record {
      words = λ x of e.
          let end = word_end x of (slice_get source.statics x) refl e in
          told_same (statics x 0) _ _ (word_same bytes bytes' (slice_index u.symbols x) (t.word / 8) (λ b low high. same b (omega (arith, end, high)))) (h.words x of e);
      elements = λ x i n of e lt.
          let end = element_end x i n of (slice_get source.statics x) refl e lt in
          told_same (cut_to (element_bytes t.word of) (statics x i)) _ _ (word_same bytes bytes' (slice_index u.symbols x + element_bytes t.word of * i) (element_bytes t.word of) (λ b low high. same b (omega (arith, end, high))))
          (h.elements x i n of e lt);
      typed = h.typed;
    }

  -- ---- and a point that stands for them

  module _ (k : Call) (c : Point) where
    abbrev Held : ℕ → ℕ → Option Static → Option ℕ → Type 0
    Held x i o v = Holds t u k (kind_of (object_of o)) (static_in x o) i v c

    word_of : (x : ℕ) (of : CType) (o : Option Static) (v : Option ℕ) → kind_of (object_of o) ≡ scalar of → Held x 0 o v → Told v (word_at c.view.bytes (slice_index u.symbols x) (t.word / 8))
    word_of x of None v e h = absurd (grind (arith, e))
    word_of x of (Some s) v e h = by_length s.object.length e h
      where
        by_length : (l : Option ℕ) → kind_by s.object.element l ≡ scalar of → Holds t u k (kind_by s.object.element l) (static_storage x s.object.element l) 0 v c → Told v (word_at c.view.bytes (slice_index u.symbols x) (t.word / 8))
        by_length None g h = h refl
        by_length (Some n) g h = absurd (grind (arith, g))

    element_of : (x i n : ℕ) (of : CType) (o : Option Static) (v : Option ℕ) → kind_of (object_of o) ≡ array of n → i < n → Held x i o v
        → Told (cut_to (element_bytes t.word of) v) (word_at c.view.bytes (slice_index u.symbols x + element_bytes t.word of * i) (element_bytes t.word of))
    element_of x i n of None v e lt h = absurd (grind (arith, e))
    element_of x i n of (Some s) v e lt h = by_length s.object.length e h
      where
        by_length : (l : Option ℕ) → kind_by s.object.element l ≡ array of n → Holds t u k (kind_by s.object.element l) (static_storage x s.object.element l) i v c
            → Told (cut_to (element_bytes t.word of) v) (word_at c.view.bytes (slice_index u.symbols x + element_bytes t.word of * i) (element_bytes t.word of))
        by_length None g h = absurd (grind (arith, g))
        by_length (Some n') g h =
            subst (λ a. Told (cut_to (element_bytes t.word a) v) (word_at c.view.bytes (slice_index u.symbols x + element_bytes t.word a * i) (element_bytes t.word a))) (same_element _ _ _ _ g)
            (h (let same = same_length _ _ _ _ g in omega (arith, lt, same)))

    held_of : (x i : ℕ) (o : Option Static) (v : Option ℕ) → ((of : CType) → kind_of (object_of o) ≡ scalar of → i ≡ 0 → Told v (word_at c.view.bytes (slice_index u.symbols x) (t.word / 8)))
        → ((of : CType) (n : ℕ) → kind_of (object_of o) ≡ array of n → i < n → Told (cut_to (element_bytes t.word of) v) (word_at c.view.bytes (slice_index u.symbols x + element_bytes t.word of * i) (element_bytes t.word of)))
        → Held x i o v
    held_of x i None v words elements = tt
    held_of x i (Some s) v words elements = by_length s.object.length words elements
      where
        by_length : (l : Option ℕ) → ((of : CType) → kind_by s.object.element l ≡ scalar of → i ≡ 0 → Told v (word_at c.view.bytes (slice_index u.symbols x) (t.word / 8)))
            → ((of : CType) (n : ℕ) → kind_by s.object.element l ≡ array of n → i < n → Told (cut_to (element_bytes t.word of) v) (word_at c.view.bytes (slice_index u.symbols x + element_bytes t.word of * i) (element_bytes t.word of)))
            → Holds t u k (kind_by s.object.element l) (static_storage x s.object.element l) i v c
        by_length None words elements = λ z. words s.object.element refl z
        by_length (Some n) words elements = λ lt. elements s.object.element n refl lt

    pub statics_of : (f : Function) (s : State) → Rep t u k source f s c → Statics_in c.view.bytes s.statics
    statics_of f s r = record {
      words = λ x of e. word_of x of (slice_get source.statics x) (s.statics x 0) e (r.held (variable.Static x) 0);
      elements = λ x i n of e lt. element_of x i n of (slice_get source.statics x) (s.statics x i) e lt (r.held (variable.Static x) i);
      typed = λ x i v e. r.typed (variable.Static x) i v e;
    }

    pub statics_held : (statics : Store) → Statics_in c.view.bytes statics → (x i : ℕ) → Held x i (slice_get source.statics x) (statics x i)
    statics_held statics h x i =
        held_of x i (slice_get source.statics x) (statics x i)
        (λ of e z. subst (λ j. Told (statics x j) (word_at c.view.bytes (slice_index u.symbols x) (t.word / 8))) (sym z) (h.words x of e)) (λ of n e lt. h.elements x i n of e lt)
