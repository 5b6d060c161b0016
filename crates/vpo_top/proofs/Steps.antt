-- Numbers of steps as words.
use Rattle.std.proofs.Common.{◌≡◌, ◌≢◌, ℕ, ◌≤◌, List, None, Some, Result, Ok, refl, sym, subst, ap, ◌∙◌, Bool, true, false, ◌&&◌, bytes_eq, Decides, cond, arith}
use Rattle.std.specs.Prelude.{decimal, nat_le}
use Rattle.std.specs.Str.Parse.{digits_value, ParsesUnsigned}
use Rattle.std.proofs.lemmas.Slice.Eq.{bytes_eq-Decides}
use Rattle.std.proofs.lemmas.Bool.Decides.{nat_tests}
use Rattle.std.proofs.lemmas.Fmt.{parse-decimal, decimal_is_IsNumeral}
use Rattle.vpo_top.specs.Request.{step_limit, are_steps, steps_of}

-- a word of these steps
record AreSteps (word : List ℕ) (n : ℕ) : Type 0 where
  some : 1 ≤ n
  most : n ≤ step_limit
  spelled : decimal n ≡ word

steps_are : (word : List ℕ) (n : ℕ) → are_steps word n ≡ true → AreSteps word n
steps_are word n e = by_cases (nat_le 1 n) refl (nat_le n step_limit) refl (bytes_eq (decimal n) word) (bytes_eq-Decides (decimal n) word) e
  where
    by_cases : (a : Bool) → nat_le 1 n ≡ a → (b : Bool) → nat_le n step_limit ≡ b → (c : Bool) → Decides c (decimal n ≡ word) → ((a && b) && c) ≡ true → AreSteps word n
    by_cases true p true q true d e = record { some = grind (arith, nat_tests, p); most = grind (arith, nat_tests, q); spelled = d.0 refl }
    by_cases true p true q false d e = absurd (cc e)
    by_cases true p false q c d e = absurd (cc e)
    by_cases false p b q c d e = absurd (cc e)

-- what is read of the word is the number, where it is one
pub read_is : {E : Type 0} (word : List ℕ) (r : Result ℕ E) → ParsesUnsigned 64 10 word r → are_steps word (digits_value 10 word) ≡ true
    → r ≡ Ok (digits_value 10 word)
read_is word r parses e =
    let are = steps_are word (digits_value 10 word) e in
    parse-decimal 64 (digits_value 10 word) word r (omega (arith, are.most)) (omega (arith, are.most)) (sym are.spelled) parses

-- a word from which no number is read asks for no steps
pub none_read : {E : Type 0} (word : List ℕ) (r : Result ℕ E) → ParsesUnsigned 64 10 word r → ((n : ℕ) → r ≢ Ok n) → steps_of word ≡ None
none_read word r parses none = by_case (are_steps word (digits_value 10 word)) refl
  where
    by_case : (b : Bool) → are_steps word (digits_value 10 word) ≡ b → cond b (Some (digits_value 10 word)) None ≡ None
    by_case true e = absurd (none _ (read_is word r parses e))
    by_case false e = refl

-- the number that the word spells is what its digits write
pub some_read : (word : List ℕ) (n : ℕ) → are_steps word n ≡ true → Some n ≡ steps_of word
some_read word n e =
    let are = steps_are word n e in
    let value : digits_value 10 word ≡ n = ap (digits_value 10) (sym are.spelled) ∙ (decimal_is_IsNumeral n (omega (arith, are.most))).1 in
    let P : ℕ → Type 0 = λ m. Some n ≡ cond (are_steps word m) (Some m) None in
    let Q : Bool → Type 0 = λ b. Some n ≡ cond b (Some n) None in
    subst P (sym value) (subst Q (sym e) refl)

-- another number was read of it
pub other_read : {E : Type 0} (word : List ℕ) (r : Result ℕ E) (n : ℕ) → ParsesUnsigned 64 10 word r → r ≡ Ok n → are_steps word n ≡ false → steps_of word ≡ None
other_read word r n parses is e = by_case (are_steps word (digits_value 10 word)) refl
  where
    by_case : (b : Bool) → are_steps word (digits_value 10 word) ≡ b → cond b (Some (digits_value 10 word)) None ≡ None
    by_case true t =
        let same : n ≡ digits_value 10 word = cc (read_is word r parses t, is) in
        let P : ℕ → Type 0 = λ m. are_steps word m ≡ false in
        absurd (cc (subst P same e, t))
    by_case false t = refl
