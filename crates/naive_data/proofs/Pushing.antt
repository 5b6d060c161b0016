-- Bytes that are put behind others.
use Rattle.std.proofs.Common.{◌≡◌, ℕ, zero, suc, ◌+◌, ◌-◌, ◌<◌, ◌≤◌, List, ◌∷◌, ◌++◌, length, take, drop, refl, sym, ap, ◌∙◌, arith}
use Rattle.std.specs.Int.{byte_at, bytes_low_first}
use Rattle.std.specs.List.{flat_map, range_with_len}
use Rattle.std.proofs.lemmas.List.{append_assoc, append-nil}
use Rattle.std.proofs.Math.ListN.{drop_of_length-le}
use Rattle.c_tree.specs.declared.typed.Static.{Static}
use Rattle.naive_run.specs.Law.{cell_bytes}
use Rattle.naive_data.specs.Layout.{value_at, element_data}

low_of_low : (i k n v : ℕ) → n ≤ k → take n (bytes_low_first i k v) ≡ bytes_low_first i n v
low_of_low i k zero v le = refl
low_of_low i zero (suc n) v le = absurd (omega (arith, le))
low_of_low i (suc k) (suc n) v le = ap (λ bs. byte_at i v ∷ bs) (low_of_low (suc i) k n v (omega (arith, le)))

-- the low bytes of a number were put behind
pub low_pushed : (bytes old low : List ℕ) (at count value : ℕ) → bytes ++ drop at low ≡ old ++ low → length low ≤ at → low ≡ take count (bytes_low_first 0 4 value) → count ≤ 4
    → bytes ≡ old ++ bytes_low_first 0 count value
low_pushed bytes old low at count value e past is few =
    sym (append-nil bytes) ∙ (ap (λ bs. bytes ++ bs) (sym (drop_of_length-le low past)) ∙ (e ∙ ap (λ bs. old ++ bs) (is ∙ low_of_low 0 4 count value few)))

-- one element more
pub element_more : (w : ℕ) (s : Static) (i n end size v : ℕ) (bytes more whole : List ℕ) → i < end → end ≡ n → size ≡ cell_bytes w s.object → v ≡ value_at w s i
    → more ≡ bytes ++ bytes_low_first 0 size v → bytes ++ flat_map (element_data w s) (range_with_len i (n - i)) ≡ whole
    → more ++ flat_map (element_data w s) (range_with_len (i + 1) (n - (i + 1))) ≡ whole
element_more w s i n end size v bytes more whole lt same is_size is_value is_more e =
    let rest = flat_map (element_data w s) (range_with_len (i + 1) (n - (i + 1))) in
    let left : suc (n - (i + 1)) ≡ n - i = omega (arith, lt, same) in
    let element : bytes_low_first 0 size v ≡ element_data w s i = ap (λ k. bytes_low_first 0 k v) is_size ∙ ap (λ x. bytes_low_first 0 (cell_bytes w s.object) x) is_value in
    ap (λ bs. bs ++ rest) (is_more ∙ ap (λ bs. bytes ++ bs) element)
    ∙ (append_assoc bytes (element_data w s i) rest ∙ (ap (λ k. bytes ++ flat_map (element_data w s) (range_with_len i k)) left ∙ e))
