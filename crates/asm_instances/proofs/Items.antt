-- Values, as they are gone over.
use Rattle.std.proofs.Common.{◌≡◌, ℕ, zero, suc, ◌+◌, ◌<◌, List, [], ◌∷◌, ◌++◌, length, take, get_or, Some, All, sym, ap, subst, ◌∙◌, arith}
use Rattle.std.proofs.lemmas.List.{take_more, map-append}
use Rattle.std.proofs.lemmas.List.Elements.{All-nil, All-cons, All-append, All-tail, All-head}
use Rattle.rtl_tree.specs.declared.c_names.Names.{Names}
use Rattle.md_rows.specs.declared.instance.Bound.{Bound}
use Rattle.asm_row.specs.declared.values.Value.{Value as Held}
use Rattle.asm_row.specs.Line.{HasNumber}
use Rattle.asm_row.specs.Reading.{Value, AreValues, value_in}
use Rattle.asm_row.specs.Found.{value_of, values_of}

pub item_of : (P : Value → Type 0) (vs : List Held) (i : ℕ) (d : Held) → i < length vs → All P (values_of vs) → P (value_of (get_or vs i d))
item_of P [] i d h a = absurd (omega arith)
item_of P (v ∷ vs) zero d h a = All-head P (value_of v) (values_of vs) a
item_of P (v ∷ vs) (suc i) d h a = item_of P vs i d (omega arith) (All-tail P (value_of v) (values_of vs) a)

values_push : (n : Names) (bs : List Bound) (vs : List Value) (b : Bound) (v : Value) → AreValues n bs vs → value_in n b ≡ Some v → AreValues n (bs ++ b ∷ []) (vs ++ v ∷ [])
values_push n [] [] b v a e = (e, tt)
values_push n [] (w ∷ vs) b v a e = absurd a
values_push n (c ∷ bs) [] b v a e = absurd a
values_push n (c ∷ bs) (w ∷ vs) b v a e = (a.0, values_push n bs vs b v a.1 e)

module _ (vs : List Held) (i : ℕ) (d : Held) (within : i < length vs) where
  take_item : values_of (take (i + 1) vs) ≡ values_of (take i vs) ++ value_of (get_or vs i d) ∷ []
  take_item = ap values_of (take_more vs i d within) ∙ map-append value_of (take i vs) (get_or vs i d ∷ [])

  pub values_more : (n : Names) (bs cs : List Bound) (b : Bound) → AreValues n bs (values_of (take i vs)) → value_in n b ≡ Some (value_of (get_or vs i d)) → cs ≡ bs ++ b ∷ []
      → AreValues n cs (values_of (take (i + 1) vs))
  values_more n bs cs b a e same =
      subst (λ (us : List Value). AreValues n cs us) (sym take_item)
      (subst (λ (xs : List Bound). AreValues n xs (values_of (take i vs) ++ value_of (get_or vs i d) ∷ [])) (sym same)
      (values_push n bs (values_of (take i vs)) b (value_of (get_or vs i d)) a e))

pub numbers_more : (bs cs : List Bound) (b : Bound) → All HasNumber bs → HasNumber b → cs ≡ bs ++ b ∷ [] → All HasNumber cs
numbers_more bs cs b a h same = subst (All HasNumber) (sym same) (All-append HasNumber bs (b ∷ []) a (All-cons HasNumber b [] h (All-nil HasNumber)))
