-- A scope that is left: of the names those in front stay.
use Rattle.std.proofs.Common.{◌≡◌, ◌≤◌, ◌+◌, ℕ, suc, zero, List, [], ◌∷◌, ◌++◌, map, length, take, length-append, refl, sym, ap, ◌∙◌, subst, arith}
use Rattle.c_typing.specs.Scopes.{Entry}
use Rattle.c_names.specs.declared.entry.Kept.{Kept}
use Rattle.c_names.specs.Known.{entry_of, entries_of}

never : (n : ℕ) → suc n ≤ 0 → ⊥
never n h = omega arith

less : (m n : ℕ) → suc m ≤ suc n → m ≤ n
less m n h = omega arith

pub same_length : (ks : List Kept) → length ks ≡ length (entries_of ks)
same_length [] = refl
same_length (k ∷ ks) = ap suc (same_length ks)

pub take_entries : (n : ℕ) (ks : List Kept) → entries_of (take n ks) ≡ take n (entries_of ks)
take_entries zero ks = refl
take_entries (suc n) [] = refl
take_entries (suc n) (k ∷ ks) = ap (λ es. entry_of k ∷ es) (take_entries n ks)

pub take_front : (n : ℕ) (xs ys : List Entry) → n ≤ length xs → take n (xs ++ ys) ≡ take n xs
take_front zero xs ys h = refl
take_front (suc n) [] ys h = absurd (never n h)
take_front (suc n) (x ∷ xs) ys h = ap (λ zs. x ∷ zs) (take_front n xs ys (less n (length xs) h))

pub take_all : (xs : List Entry) → take (length xs) xs ≡ xs
take_all [] = refl
take_all (x ∷ xs) = ap (λ zs. x ∷ zs) (take_all xs)

further : (start a b c : ℕ) → start ≤ a → c ≡ a + b → start ≤ c
further start a b c h e = omega arith

-- the names after are those before and more
pub fits : (start : ℕ) (before : List Entry) (after : List Kept) (more : List Entry) → start ≤ length before → entries_of after ≡ before ++ more → start ≤ length after
fits start before after more h e = further start (length before) (length more) (length after) h (same_length after ∙ ap length e ∙ length-append before more)

pub left : (start : ℕ) (before : List Entry) (after : List Kept) (more : List Entry) → start ≤ length before → entries_of after ≡ before ++ more → entries_of (take start after) ≡ take start before
left start before after more h e = take_entries start after ∙ ap (take start) e ∙ take_front start before more h
