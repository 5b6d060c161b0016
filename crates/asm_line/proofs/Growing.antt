-- Names that are added behind others.
use Rattle.std.proofs.Common.{◌≡◌, ℕ, zero, suc, ◌+◌, ◌<◌, List, [], ◌∷◌, ◌++◌, length, take, get_or, map, Option, Some, None, option_map, slice_get, All, Contains, refl, sym, ap, subst, ◌∙◌, append_assoc, arith}
use Rattle.std.proofs.lemmas.List.{append-nil, take_more, map-append}
use Rattle.std.proofs.lemmas.List.Elements.{All-nil, All-cons, All-append, All-weaker, All-tail, All-head, All-contains_itself}
use Rattle.rtl_tree.specs.declared.cells.Cell.TheVariants.{Hard, Temp, Flag, Pc, Input, Output, Halt, Hole as RegisterHole}
use Rattle.rtl_tree.specs.declared.cells.Lab.TheVariants.{Block as BlockLabel, Function as FunctionLabel}
use Rattle.rtl_tree.specs.declared.c_names.Names.{Names}
use Rattle.md_rows.specs.declared.instance.Bound.{Bound}
use Rattle.md_rows.specs.declared.instance.Bound.TheVariants.{Reg, Num as NumBound, Sym, Label}
use Rattle.asm_row.specs.Reading.{Value, Object, Function, AreValues, value_in}
use Rattle.asm_row.specs.declared.values.Value.{Value as Held}
use Rattle.asm_row.specs.Found.{value_of, values_of}
use Rattle.asm_line.specs.Answers.{Grows, IsExtension, AddsAll, Adds}
use Rattle.asm_row.proofs.HoleValues.{Mapped, mapped, no_item}

pub grows_none : (P : List ℕ → Type 0) (xs : List (List ℕ)) → Grows P xs xs
grows_none P xs = record { more = []; are = sym (append-nil xs); each = All-nil P }

pub grows_by : (P : List ℕ → Type 0) (xs : List (List ℕ)) (x : List ℕ) → P x → Grows P xs (xs ++ x ∷ [])
grows_by P xs x h = record { more = x ∷ []; are = refl; each = All-cons P x [] h (All-nil P) }

pub grows_more : (P : List ℕ → Type 0) (xs ys zs : List (List ℕ)) → Grows P xs ys → Grows P ys zs → Grows P xs zs
grows_more P xs ys zs a b = record {
  more = a.more ++ b.more;
  are = b.are ∙ ap (λ (l : List (List ℕ)). l ++ b.more) a.are ∙ append_assoc xs a.more b.more;
  each = All-append P a.more b.more a.each b.each;
}

pub grows_as : (P Q : List ℕ → Type 0) → ((x : List ℕ) → P x → Q x) → (xs ys : List (List ℕ)) → Grows P xs ys → Grows Q xs ys
grows_as P Q f xs ys a = record { more = a.more; are = a.are; each = All-weaker P Q f a.more a.each }

module _ (P Q : List ℕ → Type 0) where
  pub extends_none : (n : Names) → IsExtension P Q n n
  extends_none n = record { objects = grows_none P n.objects; functions = grows_none Q n.functions }

  pub extends_more : (n m k : Names) → IsExtension P Q n m → IsExtension P Q m k → IsExtension P Q n k
  extends_more n m k a b = record {
    objects = grows_more P n.objects m.objects k.objects a.objects b.objects;
    functions = grows_more Q n.functions m.functions k.functions a.functions b.functions;
  }

  pub extends_as : (R S : List ℕ → Type 0) → ((x : List ℕ) → P x → R x) → ((x : List ℕ) → Q x → S x) → (n m : Names) → IsExtension P Q n m → IsExtension R S n m
  extends_as R S f g n m a = record {
    objects = grows_as P R f n.objects m.objects a.objects;
    functions = grows_as Q S g n.functions m.functions a.functions;
  }

  -- a name stays at its place

  get_still : (xs ys : List (List ℕ)) (k : ℕ) (x : List ℕ) → slice_get xs k ≡ Some x → slice_get (xs ++ ys) k ≡ Some x
  get_still [] ys k x e = absurd (no_item x e)
  get_still (y ∷ xs) ys zero x e = e
  get_still (y ∷ xs) ys (suc k) x e = get_still xs ys k x e

  named_still : (R : List ℕ → Type 0) (f : List ℕ → Value) (xs ys : List (List ℕ)) (k : ℕ) (v : Value) → Grows R xs ys
      → option_map f (slice_get xs k) ≡ Some v → option_map f (slice_get ys k) ≡ Some v
  named_still R f xs ys k v g e =
      let it = mapped f (slice_get xs k) v e in
      ap (λ (zs : List (List ℕ)). option_map f (slice_get zs k)) g.are ∙ ap (option_map f) (get_still xs g.more k it.it it.has) ∙ ap Some it.is

  value_still : (n m : Names) → IsExtension P Q n m → (b : Bound) (v : Value) → value_in n b ≡ Some v → value_in m b ≡ Some v
  value_still n m g (Reg (Hard k)) v e = e
  value_still n m g (NumBound k) v e = e
  value_still n m g (Sym s) v e = named_still P Object n.objects m.objects s v g.objects e
  value_still n m g (Label (BlockLabel b)) v e = e
  value_still n m g (Label (FunctionLabel f)) v e = named_still Q Function n.functions m.functions f v g.functions e
  value_still n m g _ v e = absurd (no_item v e)

  pub values_still : (n m : Names) → IsExtension P Q n m → (bs : List Bound) (vs : List Value) → AreValues n bs vs → AreValues m bs vs
  values_still n m g [] [] a = tt
  values_still n m g (b ∷ bs) (v ∷ vs) a = (value_still n m g b v a.0, values_still n m g bs vs a.1)
  values_still n m g [] (v ∷ vs) a = absurd a
  values_still n m g (b ∷ bs) [] a = absurd a

pub values_push : (n : Names) (bs : List Bound) (vs : List Value) (b : Bound) (v : Value) → AreValues n bs vs → value_in n b ≡ Some v
    → AreValues n (bs ++ b ∷ []) (vs ++ v ∷ [])
values_push n [] [] b v a e = (e, tt)
values_push n (x ∷ bs) (y ∷ vs) b v a e = (a.0, values_push n bs vs b v a.1 e)
values_push n [] (v ∷ vs) b u a e = absurd a
values_push n (x ∷ bs) [] b v a e = absurd a

-- one value of these adds its name

pub adds_one : (vs : List Value) (v : Value) (n m k : Names) → Contains vs v → AddsAll vs n m → Adds v m k → AddsAll vs n k
adds_one vs v n m k c a b =
    extends_more (λ x. Contains vs (Object x)) (λ x. Contains vs (Function x)) n m k a
    (extends_as (λ x. v ≡ Object x) (λ x. v ≡ Function x) (λ x. Contains vs (Object x)) (λ x. Contains vs (Function x))
    (λ x e. subst (Contains vs) e c) (λ x e. subst (Contains vs) e c) m k b)

-- the value of an item of a list

pub item_of : (P : Value → Type 0) (vs : List Held) (i : ℕ) (d : Held) → i < length vs → All P (values_of vs) → P (value_of (get_or vs i d))
item_of P [] i d h a = absurd (omega arith)
item_of P (v ∷ vs) zero d h a = All-head P (value_of v) (values_of vs) a
item_of P (v ∷ vs) (suc i) d h a = item_of P vs i d (omega arith) (All-tail P (value_of v) (values_of vs) a)

module _ (vs : List Held) (i : ℕ) (d : Held) (within : i < length vs) where
  pub contains_item : Contains (values_of vs) (value_of (get_or vs i d))
  contains_item = item_of (Contains (values_of vs)) vs i d within (All-contains_itself (values_of vs))

  pub adds_item : (n m k : Names) → AddsAll (values_of vs) n m → Adds (value_of (get_or vs i d)) m k → AddsAll (values_of vs) n k
  adds_item n m k a b = adds_one (values_of vs) (value_of (get_or vs i d)) n m k contains_item a b

  take_item : values_of (take (i + 1) vs) ≡ values_of (take i vs) ++ value_of (get_or vs i d) ∷ []
  take_item = ap values_of (take_more vs i d within) ∙ map-append value_of (take i vs) (get_or vs i d ∷ [])

  pub values_more : (n m : Names) (bs cs : List Bound) (b : Bound) → Adds (value_of (get_or vs i d)) n m → AreValues n bs (values_of (take i vs))
      → value_in m b ≡ Some (value_of (get_or vs i d)) → cs ≡ bs ++ b ∷ [] → AreValues m cs (values_of (take (i + 1) vs))
  values_more n m bs cs b g a e same =
      let v = value_of (get_or vs i d) in
      subst (λ (us : List Value). AreValues m cs us) (sym take_item)
      (subst (λ (xs : List Bound). AreValues m xs (values_of (take i vs) ++ v ∷ [])) (sym same)
      (values_push m bs (values_of (take i vs)) b v (values_still (λ y. v ≡ Object y) (λ y. v ≡ Function y) n m g bs (values_of (take i vs)) a) e))
