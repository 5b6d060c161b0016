-- From what stands in slots to a binding, and from what a row does to an instance.
use Rattle.std.proofs.Common.{zero, suc, ◌≡◌, ℕ, ◌+◌, ◌<◌, ◌≤◌, List, [], ◌∷◌, ◌++◌, map, filter_map, length, take, get_or, slice_get, Option, Some, None, refl, sym, subst, ap, arith, ◌∙◌}
use Rattle.std.specs.Prelude.{AllPairs, ◌≢◌}
use Rattle.std.specs.List.{cons_option}
use Rattle.std.proofs.lemmas.List.{take_more, length-take-le}
use Rattle.rtl_tree.specs.declared.cells.Cell.{Cell}
use Rattle.rtl_tree.specs.Moves.{Goal, ToCell, ToMemory, Move}
use Rattle.rtl_norm.specs.Transfers.{norm_goal, norm_moves}
use Rattle.md_rows.specs.declared.row.Row.{Row}
use Rattle.md_rows.specs.declared.instance.Bound.{Bound}
use Rattle.md_rows.specs.Instances.{assigned_register, filled_goal, filled_move, effects_with}
use Rattle.md_match.specs.Slots.{Slots}
use Rattle.md_match.specs.Does.{known, assigned}

known_append : (s t : Slots) → known (s ++ t) ≡ known s ++ known t
known_append [] t = refl
known_append (Some v ∷ s) t = ap (λ (vs : List Bound). v ∷ vs) (known_append s t)
known_append (None ∷ s) t = known_append s t

known_short : (s : Slots) → length (known s) ≤ length s
known_short [] = omega arith
known_short (Some v ∷ s) = let h = known_short s in omega (arith, h)
known_short (None ∷ s) = let h = known_short s in omega (arith, h)

-- the normal form keeps the places that are cells, so it assigns the same registers

same_register : (w : ℕ) (b : List Bound) (g : Goal) → assigned_register (filled_goal b (norm_goal w g)) ≡ assigned_register (filled_goal b g)
same_register w b (ToCell c) = refl
same_register w b (ToMemory d a) = refl

same_registers : (w : ℕ) (b : List Bound) (ms : List Move)
    → filter_map (assigned b) (norm_moves w ms) ≡ filter_map (λ m. assigned_register m.to) (map (filled_move b) ms)
same_registers w b [] = refl
same_registers w b (m ∷ ms) =
    ap (λ (o : Option Cell). cons_option o (filter_map (assigned b) (norm_moves w ms))) (same_register w b m.to)
    ∙ ap (λ (cs : List Cell). cons_option (assigned_register (filled_goal b m.to)) cs) (same_registers w b ms)

pub different : (w : ℕ) (b : List Bound) (row : Row) → row.normal ≡ norm_moves w row.effects → AllPairs (λ c d. c ≢ d) (filter_map (assigned b) row.normal)
    → AllPairs (λ c d. c ≢ d) (filter_map (λ m. assigned_register m.to) (effects_with row b))
different w b row e h =
    subst (AllPairs (λ c d. c ≢ d)) (ap (λ (ms : List Move). filter_map (assigned b) ms) e ∙ same_registers w b row.effects) h

pub values_next : (s : Slots) (n : ℕ) (d : Option Bound) (items more : List Bound) → n < length s → items ≡ known (take n s)
    → more ≡ items ++ known (get_or s n d ∷ []) → more ≡ known (take (n + 1) s)
values_next s n d items more l e f =
    f ∙ (ap (λ (xs : List Bound). xs ++ known (get_or s n d ∷ [])) e ∙ sym (ap known (take_more s n d l) ∙ known_append (take n s) (get_or s n d ∷ [])))

take_short : (n : ℕ) (s : Slots) → length (take n s) ≤ n
take_short zero s = omega arith
take_short (suc n) [] = omega arith
take_short (suc n) (x ∷ s) = let h = take_short n s in omega (arith, h)

pub binding_short : (items : List Bound) (n : ℕ) (s : Slots) → items ≡ known (take n s) → n ≤ 8 → length items ≤ 8
binding_short items n s e l =
    let a = ap (λ (xs : List Bound). length xs) e in
    let b = known_short (take n s) in
    let c = take_short n s in
    omega (arith, a, b, c, l)
