-- Operations that are appended one after the other.
use Rattle.std.proofs.Common.{◌≡◌, ℕ, zero, suc, ◌+◌, ◌<◌, ◌≤◌, List, [], ◌∷◌, length, drop, get_or, map, refl, sym, subst, arith}
use Rattle.std.proofs.lemmas.List.{drop_all}
use Rattle.std.proofs.lemmas.List.Elements.{All-head, All-tail}
use Rattle.md_rows.specs.declared.description.RawDescription.{RawDescription}
use Rattle.md_shapes.specs.Shapes.{Frame as Fixed}
use Rattle.naive_code.specs.Operations.{Op}
use Rattle.naive_builder.specs.Appending.{Emitted, Appends, nothing, one_more}
use Rattle.naive_expr.specs.declared.operations.Op.{Op as Held}
use Rattle.naive_expr.specs.Seen.{op_of}
use Rattle.naive_fits.specs.Doable.{AreDoable, IsDoable}
use Rattle.naive_expand.proofs.Lists.{next_item}

-- nothing more was appended
none_more : (d : RawDescription) (m : Fixed) (s t u : Emitted) (none os : List Op) → none ≡ [] → Appends d m s none t → Appends d m t os u → Appends d m s os u
none_more d m _ _ u _ os e (nothing s) h = h
none_more d m _ _ u _ os e (one_more s x t o rest one more) h = absurd (cc)

appends_first : (d : RawDescription) (m : Fixed) (s t u : Emitted) (o : Op) (first os : List Op) → first ≡ o ∷ [] → Appends d m s first t → Appends d m t os u
    → Appends d m s (o ∷ os) u
appends_first d m _ _ u o _ os e (nothing s) h = absurd (cc)
appends_first d m _ _ u o _ os e (one_more s x t p rest one more) h =
    let same : p ≡ o = cc in
    let none : rest ≡ [] = cc in
    subst (λ (q : Op). Appends d m s (q ∷ os) u) same (one_more s x u p os one (none_more d m x t u rest os none more h))

-- what is left of a list is appended after its next operation
pub appends_next : (d : RawDescription) (m : Fixed) (s t u : Emitted) (os : List Held) (i : ℕ) (x : Held) → i < length os
    → Appends d m s (op_of (get_or os i x) ∷ []) t → Appends d m t (map op_of (drop (i + 1) os)) u → Appends d m s (map op_of (drop i os)) u
appends_next d m s t u os i x lt h k =
    let o = op_of (get_or os i x) in
    subst (λ (xs : List Held). Appends d m s (map op_of xs) u) (sym (next_item os i x lt))
    (appends_first d m s t u o (o ∷ []) (map op_of (drop (i + 1) os)) refl h k)

-- and nothing behind the last one
pub appends_none : (d : RawDescription) (m : Fixed) (s : Emitted) (os : List Held) (i : ℕ) → length os ≤ i → Appends d m s (map op_of (drop i os)) s
appends_none d m s os i h = subst (λ (xs : List Held). Appends d m s (map op_of xs) s) (sym (drop_all i os h)) (nothing s)

pub doable_at : (d : RawDescription) (os : List Held) (i : ℕ) (x : Held) → AreDoable d (map op_of os) → i < length os → IsDoable d (op_of (get_or os i x))
doable_at d [] i x h lt = absurd (omega (arith, lt))
doable_at d (o ∷ os) zero x h lt = All-head (IsDoable d) (op_of o) (map op_of os) h
doable_at d (o ∷ os) (suc i) x h lt = doable_at d os i x (All-tail (IsDoable d) (op_of o) (map op_of os) h) (omega (arith, lt))
