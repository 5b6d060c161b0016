-- Lists that are cut behind their ends.
use Rattle.std.proofs.Common.{◌≡◌, ℕ, ◌≤◌, List, length, take, drop, sym, ◌∙◌, arith}
use Rattle.std.proofs.lemmas.List.{take_all, drop_all}

pub take_past : (n : ℕ) (xs : List ℕ) → length xs ≤ n → take (length xs) xs ≡ take n xs
take_past n xs l = take_all (length xs) xs (omega arith) ∙ sym (take_all n xs l)

pub drop_past : (n : ℕ) (xs : List ℕ) → length xs ≤ n → drop (length xs) xs ≡ drop n xs
drop_past n xs l = drop_all (length xs) xs (omega arith) ∙ sym (drop_all n xs l)
