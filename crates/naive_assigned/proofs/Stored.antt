-- An object in memory is assigned to.
use Rattle.std.proofs.Common.{◌≡◌, ◌≢◌, ℕ, zero, suc, ◌+◌, ◌*◌, ◌%◌, ◌/◌, ◌^◌, ◌≤◌, ◌<◌, ◌⊎◌, inl, inr, List, Option, Some, None, refl, sym, ap, ◌∙◌, subst, arith}
use Rattle.std.specs.Prelude.{slice_index, length, unwrap_or}
use Rattle.std.proofs.lemmas.Bool.{cases_lt}
use Rattle.behaviour.specs.Run.{AreBytes}
use Rattle.rtl_word.specs.Words.{IsWordSize}
use Rattle.rtl_word.proofs.Below.{by_size}
use Rattle.rtl_effect.specs.Views.{word_at}
use Rattle.rtl_effect.specs.Effects.{patched}
use Rattle.md_shapes.specs.Shapes.{Frame as Fixed}
use Rattle.c_tree.specs.declared.types.CType.{CType}
use Rattle.c_tree.specs.declared.types.CType.TheVariants as type
use Rattle.c_tree.specs.declared.typed.Variable.{Variable}
use Rattle.c_tree.specs.declared.typed.Variable.TheVariants as variable
use Rattle.c_tree.specs.declared.typed.Function.{Function}
use Rattle.c_tree.specs.declared.typed.Typed.{Typed}
use Rattle.c_limits.specs.Frames.{element_bytes}
use Rattle.c_meaning.specs.Operators.{as_type}
use Rattle.c_meaning.specs.Parts.{State, Store, load, store, with_statics, with_params, with_locals}
use Rattle.c_meaning.specs.Expressions.{Kind, missing, scalar, array, type_in}
use Rattle.c_meaning.specs.Run.{kind_in}
use Rattle.temp_machine.specs.Routines.{Image, Target}
use Rattle.temp_machine.specs.Small.{Point}
use Rattle.naive_code.specs.Storage.{Base, Storage, Temporary, Word, Elements, Missing, storage_of}
use Rattle.naive_run.specs.Law.{IsUnitOf}
use Rattle.naive_step.proofs.Making.{Call}
use Rattle.naive_step.proofs.Acts.{Stores}
use Rattle.naive_step.proofs.Memory.{word_apart, back_1, back_2, back_4}
use Rattle.naive_rep.proofs.Rooms.{element_before, within}
use Rattle.naive_rep.proofs.Rep.{Told, Holds, Rep, told_same, cut_to, address_of}
use Rattle.naive_assigned.proofs.Assigned.{After, here, elsewhere, after_store, index_of}
use Rattle.naive_assigned.proofs.Areas.{Area, area_of, areas_apart}

-- ---- an element's bytes

-- what was stored in as many bytes as an element has
pub element_back : (w : ℕ) (of : CType) (at v : ℕ) (m m' : ℕ → Option ℕ) → IsWordSize w
    → ((b : ℕ) → m' b ≡ patched (Some (record { at = at; count = element_bytes w of; value = Some v })) m b) → word_at m' at (element_bytes w of) ≡ Some (v % 256 ^ element_bytes w of)
element_back w type.Schar at v m m' z h = back_1 at v m m' h
element_back w type.Uchar at v m m' z h = back_1 at v m m' h
element_back w type.Int at v m m' z h =
    by_size (λ w. ((b : ℕ) → m' b ≡ patched (Some (record { at = at; count = element_bytes w type.Int; value = Some v })) m b) → word_at m' at (element_bytes w type.Int) ≡ Some (v % 256 ^ element_bytes w type.Int))
    (back_2 at v m m') (back_4 at v m m') w z h
element_back w type.Unsigned at v m m' z h =
    by_size (λ w. ((b : ℕ) → m' b ≡ patched (Some (record { at = at; count = element_bytes w type.Unsigned; value = Some v })) m b) → word_at m' at (element_bytes w type.Unsigned) ≡ Some (v % 256 ^ element_bytes w type.Unsigned))
    (back_2 at v m m') (back_4 at v m m') w z h
element_back w type.Void at v m m' z h =
    by_size (λ w. ((b : ℕ) → m' b ≡ patched (Some (record { at = at; count = element_bytes w type.Void; value = Some v })) m b) → word_at m' at (element_bytes w type.Void) ≡ Some (v % 256 ^ element_bytes w type.Void))
    (back_2 at v m m') (back_4 at v m m') w z h

pub word_back : (w at v : ℕ) (m m' : ℕ → Option ℕ) → IsWordSize w → v < 2 ^ w
    → ((b : ℕ) → m' b ≡ patched (Some (record { at = at; count = w / 8; value = Some v })) m b) → word_at m' at (w / 8) ≡ Some v
word_back w at v m m' z small h =
    by_size (λ w. v < 2 ^ w → ((b : ℕ) → m' b ≡ patched (Some (record { at = at; count = w / 8; value = Some v })) m b) → word_at m' at (w / 8) ≡ Some v)
    (λ lt h. back_2 at v m m' h ∙ ap Some (omega (arith, lt))) (λ lt h. back_4 at v m m' h ∙ ap Some (omega (arith, lt))) w z small h

-- ---- variables

same_number : (a b : ℕ) → (a ≡ b) ⊎ (a ≢ b)
same_number a b = elim (cases_lt a b) as (λ _. (a ≡ b) ⊎ (a ≢ b)) [
  | inl lt ↦ inr (λ e. omega (arith, e, lt))
  | inr ge ↦ elim (cases_lt b a) as (λ _. (a ≡ b) ⊎ (a ≢ b)) [ inl lt ↦ inr (λ e. omega (arith, e, lt)) | inr le ↦ inl (omega (arith, ge, le)) ]
]

by_number : (make : ℕ → Variable) → ((a b : ℕ) → make a ≡ make b → a ≡ b) → (a b : ℕ) → (a ≡ b) ⊎ (a ≢ b) → (make a ≡ make b) ⊎ (make a ≢ make b)
by_number make one a b (inl e) = inl (ap make e)
by_number make one a b (inr ne) = inr (λ e. ne (one a b e))

same_variable : (y z : Variable) → (y ≡ z) ⊎ (y ≢ z)
same_variable (variable.Static a) (variable.Static b) = by_number variable.Static (λ a b e. ap index_of e) a b (same_number a b)
same_variable (variable.Parameter a) (variable.Parameter b) = by_number variable.Parameter (λ a b e. ap index_of e) a b (same_number a b)
same_variable (variable.Local a) (variable.Local b) = by_number variable.Local (λ a b e. ap index_of e) a b (same_number a b)
same_variable (variable.Static a) (variable.Parameter b) = inr (λ p. grind (arith, p))
same_variable (variable.Static a) (variable.Local b) = inr (λ p. grind (arith, p))
same_variable (variable.Parameter a) (variable.Static b) = inr (λ p. grind (arith, p))
same_variable (variable.Parameter a) (variable.Local b) = inr (λ p. grind (arith, p))
same_variable (variable.Local a) (variable.Static b) = inr (λ p. grind (arith, p))
same_variable (variable.Local a) (variable.Parameter b) = inr (λ p. grind (arith, p))

-- two elements of an array have no byte in common
elements_apart : (from size i j : ℕ) → (j ≡ i → ⊥) → (from + size * j + size ≤ from + size * i) ⊎ (from + size * i + size ≤ from + size * j)
elements_apart from size i j ne = elim (cases_lt j i) as (λ _. (from + size * j + size ≤ from + size * i) ⊎ (from + size * i + size ≤ from + size * j)) [
  | inl lt ↦ inl (let z = element_before size j i lt in omega (arith, z))
  | inr ge ↦ elim (cases_lt i j) as (λ _. (from + size * j + size ≤ from + size * i) ⊎ (from + size * i + size ≤ from + size * j)) [
    | inl lt ↦ inr (let z = element_before size i j lt in omega (arith, z))
    | inr le ↦ absurd (ne (omega (arith, ge, le)))
  ]
]

module _ (t : Target) (u : Image) (k : Call) where
  -- bytes that are stored, and an object that has none of them
  holds_apart : (kind : Kind) (place : Storage) (j : ℕ) (o : Option ℕ) (at count v : ℕ) (c d : Point) → Stores at count (Some v) c d
      → ((z : Area) → area_of t u k kind place ≡ Some z → (at + count ≤ z.from) ⊎ (z.from + z.count ≤ at)) → Holds t u k kind place j o c → Holds t u k kind place j o d
  holds_apart (scalar of) (Temporary n) j o at count v c d s apart h = λ z. told_same o _ _ (s.temps n) (h z)
  holds_apart (scalar of) (Word y) j o at count v c d s apart h = λ z. told_same o _ _ (word_apart at count v c.view.bytes d.view.bytes s.bytes _ _ (turned (apart _ refl))) (h z)
    where
      turned : {A B : Type 0} → A ⊎ B → B ⊎ A
      turned (inl a) = inr a
      turned (inr b) = inl b
  holds_apart (scalar of) (Elements b by) j o at count v c d s apart h = tt
  holds_apart (scalar of) Missing j o at count v c d s apart h = tt
  holds_apart (array of n) (Temporary i) j o at count v c d s apart h = tt
  holds_apart (array of n) (Word y) j o at count v c d s apart h = tt
  holds_apart (array of n) (Elements b by) j o at count v c d s apart h =
      λ lt. told_same (cut_to (element_bytes t.word by) o) _ _ (word_apart at count v c.view.bytes d.view.bytes s.bytes _ _ (beside lt (apart _ refl))) (h lt)
    where
      beside : j < n → (at + count ≤ address_of t u k b) ⊎ (address_of t u k b + n * element_bytes t.word by ≤ at)
          → (address_of t u k b + element_bytes t.word by * j + element_bytes t.word by ≤ at) ⊎ (at + count ≤ address_of t u k b + element_bytes t.word by * j)
      beside lt (inl le) = inr (omega (arith, le))
      beside lt (inr le) = inl (let z = within (element_bytes t.word by) j n lt in omega (arith, le, z))
  holds_apart (array of n) Missing j o at count v c d s apart h = tt
  holds_apart missing place j o at count v c d s apart h = tt

  module _ (m : Fixed) (source : Typed) (f : Function) (size : IsWordSize t.word) (unit : IsUnitOf t m source u) (low : t.base + length u.bytes ≤ k.base) where
    abbrev kind_of_it : Variable → Kind
    kind_of_it = kind_in source f

    abbrev place_of_it : Variable → Storage
    place_of_it = storage_of t.kept t.word source f

    -- what is stored lies within one object, and of this one's own values all is known
    stored_in : (s : State) (c d : Point) (x : Variable) (i v at count : ℕ) (a : Area) → area_of t u k (kind_of_it x) (place_of_it x) ≡ Some a → a.from ≤ at → at + count ≤ a.from + a.count
        → as_type t.word (type_in (kind_of_it x)) v ≡ v → Stores at count (Some v) c d
        → Holds t u k (kind_of_it x) (place_of_it x) i (Some v) d
        → ((j : ℕ) → (j ≡ i → ⊥) → Holds t u k (kind_of_it x) (place_of_it x) j (load s x j) d)
        → Rep t u k source f s c → Rep t u k source f (store s x i (Some v)) d
    stored_in s c d x i v at count a is from to typed h own others r = record {
      stack = h.regs t.sp ∙ r.stack;
      input = h.input ∙ input_is;
      bytes = bytes_are;
      held = λ y j. held_by y j (after_store s x i (Some v) y j);
      typed = λ y j z e. typed_by y j z e (after_store s x i (Some v) y j);
    }
      where
        by_variable : (A : State → Type 0) → ((st : Store) → A (with_statics st s)) → ((st : Store) → A (with_params st s)) → ((st : Store) → A (with_locals st s)) → (y : Variable) → A (store s y i (Some v))
        by_variable A p q g (variable.Static y) = p _
        by_variable A p q g (variable.Parameter y) = q _
        by_variable A p q g (variable.Local y) = g _

        input_is : c.view.input ≡ (store s x i (Some v)).input
        input_is = by_variable (λ z. c.view.input ≡ z.input) (λ st. r.input) (λ st. r.input) (λ st. r.input) x

        bytes_are : AreBytes (store s x i (Some v)).input
        bytes_are = by_variable (λ z. AreBytes z.input) (λ st. r.bytes) (λ st. r.bytes) (λ st. r.bytes) x

        of_other : (y : Variable) (j : ℕ) → (y ≡ x) ⊎ (y ≢ x) → (y ≡ x → j ≡ i → ⊥) → Holds t u k (kind_of_it y) (place_of_it y) j (load s y j) d
        of_other y j (inl same) differs = subst (λ y. Holds t u k (kind_of_it y) (place_of_it y) j (load s y j) d) (sym same) (others j (differs same))
        of_other y j (inr ne) differs =
            holds_apart (kind_of_it y) (place_of_it y) j (load s y j) at count v c d h (λ z e. beside z (areas_apart t u k m source f size unit low y x z a ne e is)) (r.held y j)
          where
            beside : (z : Area) → (z.from + z.count ≤ a.from) ⊎ (a.from + a.count ≤ z.from) → (at + count ≤ z.from) ⊎ (z.from + z.count ≤ at)
            beside z (inl le) = inr (omega (arith, le, from))
            beside z (inr le) = inl (omega (arith, le, to))

        held_by : (y : Variable) (j : ℕ) → After s x i (Some v) y j → Holds t u k (kind_of_it y) (place_of_it y) j (load (store s x i (Some v)) y j) d
        held_by y j (here p q e) =
            subst (λ o. Holds t u k (kind_of_it y) (place_of_it y) j o d) (sym e)
            (subst (λ y. Holds t u k (kind_of_it y) (place_of_it y) j (Some v) d) (sym p) (subst (λ j. Holds t u k (kind_of_it x) (place_of_it x) j (Some v) d) (sym q) own))
        held_by y j (elsewhere differs e) = subst (λ o. Holds t u k (kind_of_it y) (place_of_it y) j o d) (sym e) (of_other y j (same_variable y x) differs)

        typed_by : (y : Variable) (j z : ℕ) → load (store s x i (Some v)) y j ≡ Some z → After s x i (Some v) y j → as_type t.word (type_in (kind_of_it y)) z ≡ z
        typed_by y j z e (here p q g) =
            let same : z ≡ v = ap (λ o. unwrap_or o z) (sym e ∙ g) in
            subst (λ y. as_type t.word (type_in (kind_of_it y)) z ≡ z) (sym p) (ap (as_type t.word (type_in (kind_of_it x))) same ∙ (typed ∙ sym same))
        typed_by y j z e (elsewhere differs g) = r.typed y j z (sym g ∙ e)

    -- an element of an array is set to a value of its type
    pub rep_element : (s : State) (c d : Point) (x : Variable) (i n v : ℕ) (base : Base) (of by : CType) → kind_of_it x ≡ array of n → place_of_it x ≡ Elements base by → i < n → as_type t.word of v ≡ v
        → Stores (address_of t u k base + element_bytes t.word by * i) (element_bytes t.word by) (Some v) c d → Rep t u k source f s c → Rep t u k source f (store s x i (Some v)) d
    rep_element s c d x i n v base of by kind place lt typed h r =
        stored_in s c d x i v _ _ (record { from = address_of t u k base; count = n * element_bytes t.word by }) (ap (λ g. area_of t u k g (place_of_it x)) kind ∙ ap (area_of t u k (array of n)) place)
        (omega arith) (let z = within (element_bytes t.word by) i n lt in omega (arith, z)) (ap (λ g. as_type t.word (type_in g) v) kind ∙ typed) h
        (at_place i (Some v) d (λ less. element_back t.word by _ v c.view.bytes d.view.bytes size h.bytes))
        (λ j ne. at_place j (load s x j) d (λ less. told_same (cut_to (element_bytes t.word by) (load s x j)) _ _
        (word_apart _ _ v c.view.bytes d.view.bytes h.bytes _ _ (elements_apart (address_of t u k base) (element_bytes t.word by) i j ne))
        (was j less))) r
      where
        at_place : (j : ℕ) (o : Option ℕ) (e : Point) → Holds t u k (array of n) (Elements base by) j o e → Holds t u k (kind_of_it x) (place_of_it x) j o e
        at_place j o e g = subst (λ z. Holds t u k z (place_of_it x) j o e) (sym kind) (subst (λ z. Holds t u k (array of n) z j o e) (sym place) g)

        was : (j : ℕ) → Holds t u k (array of n) (Elements base by) j (load s x j) c
        was j = subst (λ z. Holds t u k (array of n) z j (load s x j) c) place (subst (λ z. Holds t u k z (place_of_it x) j (load s x j) c) kind (r.held x j))

    -- a scalar of the file is set to a value of its type
    pub rep_word : (s : State) (c d : Point) (x : Variable) (y v : ℕ) (of : CType) → kind_of_it x ≡ scalar of → place_of_it x ≡ Word y → v < 2 ^ t.word → as_type t.word of v ≡ v
        → Stores (slice_index u.symbols y) (t.word / 8) (Some v) c d → Rep t u k source f s c → Rep t u k source f (store s x 0 (Some v)) d
    rep_word s c d x y v of kind place small typed h r =
        stored_in s c d x 0 v _ _ (record { from = slice_index u.symbols y; count = t.word / 8 }) (ap (λ g. area_of t u k g (place_of_it x)) kind ∙ ap (area_of t u k (scalar of)) place)
        (omega arith) (omega arith) (ap (λ g. as_type t.word (type_in g) v) kind ∙ typed) h
        (at_place 0 (Some v) (λ z. word_back t.word _ v c.view.bytes d.view.bytes size small h.bytes))
        (λ j ne. at_place j (load s x j) (λ z. absurd (ne z))) r
      where
        at_place : (j : ℕ) (o : Option ℕ) → Holds t u k (scalar of) (Word y) j o d → Holds t u k (kind_of_it x) (place_of_it x) j o d
        at_place j o g = subst (λ z. Holds t u k z (place_of_it x) j o d) (sym kind) (subst (λ z. Holds t u k (scalar of) z j o d) (sym place) g)
