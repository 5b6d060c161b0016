-- The longest token by the first byte of a text.
use Rattle.std.proofs.Common.{◌≡◌, ℕ, ◌+◌, ◌^◌, ◌<◌, ◌≤◌, suc, zero, ℤ, pos, negsuc, Bool, true, false, eqb, List, [], ◌∷◌, ◌++◌, length, get_or, take, drop, refl, sym, ap, subst, ◌∙◌, arith, inl, inr, add-one, Some, None, to_z, of_z, w64}
use Rattle.std.proofs.Math.Nat.{pow-le-pow_right}
use Rattle.std.proofs.lemmas.Bool.{cases_Bool, and_from, both_ways, ne_eqb}
use Rattle.std.proofs.lemmas.Fmt.{decimal-digits_value, decimal_digit}
use Rattle.std.proofs.lemmas.Int.{ints}
use Rattle.std.proofs.lemmas.Int.Digits.{digits_value-lt}
use Rattle.std.proofs.lemmas.List.{length-take-le, take-append-drop, get_or-take}
use Rattle.std.proofs.lemmas.List.Elements.{All-nil, All-cons}
use Rattle.std.proofs.lemmas.List.Sums.{prefix_len-le-length}
use Rattle.std.specs.Char.{is_ascii_digit}
use Rattle.std.specs.Fmt.{decimal}
use Rattle.std.specs.List.{AllPass, prefix_len}
use Rattle.std.specs.Prelude.{neg_ℤ, ◌-ℤ◌, slice_get}
use Rattle.std.specs.Str.{all_ascii_digits}
use Rattle.std.specs.Str.Parse.{digits_value}
use Rattle.asm_token.specs.Tokens.{Name, Number, Mark, is_name_start, is_name_byte, is_mark, IsToken, LongestToken, BeginsNoToken}
use Rattle.asm_token.specs.Length.{is_nonzero_digit, digit_count, magnitude_length, negative_length, token_length}
use Rattle.asm_token.proofs.Bytes.{start_is_name, nonzero_is_digit, nonzero_no_zero}
use Rattle.asm_token.proofs.Lengths.{own, number_is, negative_more}
use Rattle.asm_token.proofs.Front.{longest_token, no_token}

-- names, marks and 0

passes_more : (p : ℕ → Bool) (b : ℕ) (bs : List ℕ) (n : ℕ) → p b ≡ true → AllPass p (take n bs) → AllPass p (take (1 + n) (b ∷ bs))
passes_more p b bs n e h = let next : 1 + n ≡ suc n = omega arith in rw next (All-cons (λ y. p y ≡ true) b (take n bs) e h)

passes_before : (p : ℕ → Bool) (bs : List ℕ) → AllPass p (take (prefix_len p bs) bs)
passes_before p [] = All-nil (λ y. p y ≡ true)
passes_before p (b ∷ bs) = elim (cases_Bool (p b)) [
  | inl e ↦ rw e (passes_more p b bs (prefix_len p bs) e (passes_before p bs))
  | inr e ↦ rw e (All-nil (λ y. p y ≡ true))
]

name_count : (b : ℕ) (bs : List ℕ) → is_name_byte b ≡ true → prefix_len is_name_byte (b ∷ bs) ≡ suc (prefix_len is_name_byte bs)
name_count b bs e = rw e (omega arith)

name_found : (b : ℕ) (bs : List ℕ) → is_name_start b ≡ true → LongestToken (b ∷ bs) (Name (take (prefix_len is_name_byte (b ∷ bs)) (b ∷ bs))) (prefix_len is_name_byte (b ∷ bs))
name_found b bs h =
    let n : ℕ = prefix_len is_name_byte (b ∷ bs) in
    let count : n ≡ suc (prefix_len is_name_byte bs) = name_count b bs (start_is_name b h) in
    let token : IsToken (Name (take n (b ∷ bs))) = rw count (h, passes_before is_name_byte bs) in
    longest_token (b ∷ bs) (Name (take n (b ∷ bs))) n token (sym (take-append-drop n (b ∷ bs))) (length-take-le n (b ∷ bs) (prefix_len-le-length is_name_byte (b ∷ bs))) (rw h (omega arith))

mark_found : (b : ℕ) (bs : List ℕ) → is_name_start b ≡ false → is_mark b ≡ true → LongestToken (b ∷ bs) (Mark b) 1
mark_found b bs a h = longest_token (b ∷ bs) (Mark b) 1 h refl refl (rw a (rw h (omega arith)))

zero_found : (bs : List ℕ) → LongestToken (48 ∷ bs) (Number (pos 0)) 1
zero_found bs =
    let zero_is : decimal 0 ≡ 48 ∷ [] = decimal_digit 0 (omega arith) in
    let spelled : 48 ∷ bs ≡ decimal 0 ++ bs = rw zero_is in
    longest_token (48 ∷ bs) (Number (pos 0)) 1 (omega arith) spelled (ap length zero_is) (omega arith)

-- the digits of a number other than 0

magnitude_first : (text : List ℕ) → 0 < magnitude_length text → is_nonzero_digit (get_or text 0 0) ≡ true
magnitude_first [] l = absurd (omega arith)
magnitude_first (b ∷ bs) l = elim (cases_Bool (is_nonzero_digit b)) [
  | inl e ↦ e
  | inr e ↦ absurd (let z : magnitude_length (b ∷ bs) ≡ 0 = rw e in omega arith)
]

magnitude_count : (text : List ℕ) → 0 < magnitude_length text → magnitude_length text ≡ digit_count text
magnitude_count [] l = absurd (omega arith)
magnitude_count (b ∷ bs) l = let e : is_nonzero_digit b ≡ true = magnitude_first (b ∷ bs) l in rw e

digits_before : (n : ℕ) (text : List ℕ) → n ≤ prefix_len is_ascii_digit text → all_ascii_digits (take n text) ≡ true
digits_before zero text l = refl
digits_before (suc n) [] l = absurd (omega arith)
digits_before (suc n) (b ∷ bs) l = elim (cases_Bool (is_ascii_digit b)) [
  | inl e ↦ let count : prefix_len is_ascii_digit (b ∷ bs) ≡ 1 + prefix_len is_ascii_digit bs = rw e in
      and_from (is_ascii_digit b) (all_ascii_digits (take n bs)) e (digits_before n bs (omega arith))
  | inr e ↦ absurd (let none : prefix_len is_ascii_digit (b ∷ bs) ≡ 0 = rw e in omega arith)
]

-- the number that the first n bytes spell
pub record Magnitude (text : List ℕ) (n v : ℕ) : Type 0 where
  pub some : 0 < v
  pub fits : v < 10 ^ 10
  pub spelled : text ≡ decimal v ++ drop n text
  pub bytes : length (decimal v) ≡ n

pub magnitude_found : (text : List ℕ) → 0 < magnitude_length text → Magnitude text (magnitude_length text) (digits_value 10 (take (magnitude_length text) text))
magnitude_found text l =
    let n : ℕ = magnitude_length text in
    let ds : List ℕ = take n text in
    let v : ℕ = digits_value 10 ds in
    let count : n ≡ digit_count text = magnitude_count text l in
    let few : n ≤ 10 = omega arith in
    let within : n ≤ length text = omega (arith, prefix_len-le-length is_ascii_digit text) in
    let size : length ds ≡ n = length-take-le n text within in
    let digits : all_ascii_digits ds ≡ true = digits_before n text (omega arith) in
    let top : 10 ^ length ds ≤ 10 ^ 10 = pow-le-pow_right (omega arith) (let under : length ds ≤ 10 = omega arith in under) in
    let below : v < 10 ^ length ds = digits_value-lt 10 ds (own.to ds digits) in
    let fits : v < 10 ^ 10 = omega arith in
    let first : is_nonzero_digit (get_or text 0 0) ≡ true = magnitude_first text l in
    let same : get_or ds 0 0 ≡ get_or text 0 0 = get_or-take n text 0 0 l in
    let not_zero : get_or ds 0 0 ≡ 48 → ⊥ = λ e. both_ways (eqb (get_or text 0 0) 48) (nonzero_no_zero (get_or text 0 0) first) (ap (λ b. eqb b 48) (sym same ∙ e)) in
    let spelled : decimal v ≡ ds = decimal-digits_value own ds digits (omega arith) (λ e. absurd (not_zero e)) (omega arith) in
    let some : 0 < v = positive v ds spelled not_zero in
    record { some = some; fits = fits; spelled = rw spelled (sym (take-append-drop n text)); bytes = ap length spelled ∙ size }
  where
    positive : (v : ℕ) (ds : List ℕ) → decimal v ≡ ds → (get_or ds 0 0 ≡ 48 → ⊥) → 0 < v
    positive zero ds e apart = absurd (apart (ap (λ bs. get_or bs 0 0) (sym e ∙ decimal_digit 0 (omega arith))))
    positive (suc v) ds e apart = omega arith

number_found : (b : ℕ) (bs : List ℕ) → 0 < magnitude_length (b ∷ bs) → LongestToken (b ∷ bs) (Number (pos (digits_value 10 (take (magnitude_length (b ∷ bs)) (b ∷ bs))))) (magnitude_length (b ∷ bs))
number_found b bs l =
    let m = magnitude_found (b ∷ bs) l in
    let first : is_nonzero_digit b ≡ true = magnitude_first (b ∷ bs) l in
    let digit : is_ascii_digit b ≡ true = nonzero_is_digit b first in
    let same : token_length (b ∷ bs) ≡ digit_count (b ∷ bs) = number_is b bs first in
    let count : magnitude_length (b ∷ bs) ≡ digit_count (b ∷ bs) = magnitude_count (b ∷ bs) l in
    longest_token (b ∷ bs) (Number (pos (digits_value 10 (take (magnitude_length (b ∷ bs)) (b ∷ bs))))) (magnitude_length (b ∷ bs)) m.fits m.spelled m.bytes (omega arith)

negative_token : (bs : List ℕ) (n v : ℕ) → Magnitude bs n v → n ≡ magnitude_length bs → 0 < n → LongestToken (45 ∷ bs) (Number (neg_ℤ (pos v))) (n + 1)
negative_token bs n zero m h l = absurd (omega (arith, m.some))
negative_token bs n (suc v) m h l =
    let longer : drop (n + 1) (45 ∷ bs) ≡ drop n bs = rw add-one in
    let spelled : 45 ∷ bs ≡ (45 ∷ decimal (suc v)) ++ drop (n + 1) (45 ∷ bs) = rw longer (ap (λ cs. 45 ∷ cs) m.spelled) in
    let most : token_length (45 ∷ bs) ≡ n + 1 = ap negative_length (sym h) ∙ negative_more n l in
    longest_token (45 ∷ bs) (Number (negsuc v)) (n + 1) m.fits spelled (omega (arith, m.bytes)) (omega arith)

-- what `-m` computes
negated : (v : ℕ) → v < 10 ^ 10 → to_z w64 (of_z w64 (pos 0 -ℤ to_z w64 (of_z w64 (pos v)))) ≡ neg_ℤ (pos v)
negated v h = omega (arith, ints)

kept : (v : ℕ) → v < 10 ^ 10 → to_z w64 (of_z w64 (pos v)) ≡ pos v
kept v h = omega (arith, ints)

-- the first byte of a text

pub record Front (text : List ℕ) (b : ℕ) : Type 0 where
  pub rest : List ℕ
  pub is : text ≡ b ∷ rest

pub front_from : (text : List ℕ) (b : ℕ) → Some b ≡ slice_get text 0 → Front text b
front_from [] b e = cc
front_from (c ∷ cs) b e = record { rest = cs; is = ap (λ d. d ∷ cs) (let same : c ≡ b = cc in same) }

pub nothing_from : (text : List ℕ) → None ≡ slice_get text 0 → BeginsNoToken text
nothing_from [] e = no_token [] refl
nothing_from (c ∷ cs) e = cc

pub name_at : (text : List ℕ) (b n : ℕ) → Front text b → is_name_start b ≡ true → n ≡ prefix_len is_name_byte text → LongestToken text (Name (take n text)) n
name_at text b n f h e =
    let P : List ℕ → Type 0 = λ t. LongestToken t (Name (take (prefix_len is_name_byte t) t)) (prefix_len is_name_byte t) in
    let Q : ℕ → Type 0 = λ k. LongestToken text (Name (take k text)) k in
    subst Q (sym e) (subst P (sym f.is) (name_found b f.rest h))

pub mark_at : (text : List ℕ) (b : ℕ) → Front text b → is_name_start b ≡ false → is_mark b ≡ true → LongestToken text (Mark b) 1
mark_at text b f a h = let P : List ℕ → Type 0 = λ t. LongestToken t (Mark b) 1 in subst P (sym f.is) (mark_found b f.rest a h)

pub zero_at : (text : List ℕ) (b : ℕ) → Front text b → b ≡ 48 → LongestToken text (Number (pos 0)) 1
zero_at text b f e =
    let P : List ℕ → Type 0 = λ t. LongestToken t (Number (pos 0)) 1 in
    subst P (sym (f.is ∙ ap (λ c. c ∷ f.rest) e)) (zero_found f.rest)

pub number_at : (text : List ℕ) (b n : ℕ) (m : ℤ) → Front text b → n ≡ magnitude_length text → 0 < n → m ≡ pos (digits_value 10 (take n text)) → LongestToken text (Number (to_z w64 (of_z w64 m))) n
number_at text b n m f e l v =
    let some : 0 < magnitude_length text = omega arith in
    let P : List ℕ → Type 0 = λ t. (0 < magnitude_length t) → LongestToken t (Number (pos (digits_value 10 (take (magnitude_length t) t)))) (magnitude_length t) in
    let found : LongestToken text (Number (pos (digits_value 10 (take (magnitude_length text) text)))) (magnitude_length text) = subst P (sym f.is) (number_found b f.rest) some in
    let Q : ℕ → Type 0 = λ k. LongestToken text (Number (pos (digits_value 10 (take k text)))) k in
    let R : ℤ → Type 0 = λ z. LongestToken text (Number z) n in
    let at_n : LongestToken text (Number (pos (digits_value 10 (take n text)))) n = subst Q (sym e) found in
    subst R (sym (ap (λ z. to_z w64 (of_z w64 z)) v ∙ kept (digits_value 10 (take n text)) at_n.is_token)) at_n

pub negative_at : (text rest : List ℕ) (b n : ℕ) (m : ℤ) → Front text b → b ≡ 45 → rest ≡ drop 1 text → n ≡ magnitude_length rest → 0 < n → m ≡ pos (digits_value 10 (take n rest)) → LongestToken text (Number (to_z w64 (of_z w64 (pos 0 -ℤ to_z w64 (of_z w64 m))))) (n + 1)
negative_at text rest b n m f e t h l v =
    let is : text ≡ 45 ∷ f.rest = f.is ∙ ap (λ c. c ∷ f.rest) e in
    let tail : rest ≡ f.rest = t ∙ ap (drop 1) is in
    let P : ℕ → Type 0 = λ k. Magnitude rest k (digits_value 10 (take k rest)) in
    let mag : Magnitude rest n (digits_value 10 (take n rest)) = subst P (sym h) (magnitude_found rest (omega arith)) in
    let Q : List ℕ → Type 0 = λ s. LongestToken s (Number (neg_ℤ (pos (digits_value 10 (take n rest))))) (n + 1) in
    let whole : 45 ∷ rest ≡ text = ap (λ s. 45 ∷ s) tail ∙ sym is in
    let found : LongestToken text (Number (neg_ℤ (pos (digits_value 10 (take n rest))))) (n + 1) = subst Q whole (negative_token rest n (digits_value 10 (take n rest)) mag h l) in
    let R : ℤ → Type 0 = λ z. LongestToken text (Number z) (n + 1) in
    subst R (sym (ap (λ z. to_z w64 (of_z w64 (pos 0 -ℤ to_z w64 (of_z w64 z)))) v ∙ negated (digits_value 10 (take n rest)) mag.fits)) found

-- no token

no_length_at_other : (b : ℕ) (bs : List ℕ) → is_name_start b ≡ false → is_mark b ≡ false → (b ≡ 48 → ⊥) → (b ≡ 45 → ⊥) → magnitude_length (b ∷ bs) ≡ 0 → token_length (b ∷ bs) ≡ 0
no_length_at_other b bs a m z s h =
    let zero_no : eqb b 48 ≡ false = ne_eqb b 48 z in
    let minus_no : eqb b 45 ≡ false = ne_eqb b 45 s in
    rw a (rw m (rw zero_no (rw minus_no (rw zero_no at h))))

pub no_token_at_minus : (text rest : List ℕ) (b : ℕ) → Front text b → b ≡ 45 → rest ≡ drop 1 text → magnitude_length rest ≡ 0 → BeginsNoToken text
no_token_at_minus text rest b f e t h =
    let is : text ≡ 45 ∷ f.rest = f.is ∙ ap (λ c. c ∷ f.rest) e in
    let tail : rest ≡ f.rest = t ∙ ap (drop 1) is in
    no_token text (ap token_length is ∙ ap negative_length (ap magnitude_length (sym tail) ∙ h))

pub no_token_at_other : (text : List ℕ) (b : ℕ) → Front text b → is_name_start b ≡ false → is_mark b ≡ false → (b ≡ 48 → ⊥) → (b ≡ 45 → ⊥) → magnitude_length text ≡ 0 → BeginsNoToken text
no_token_at_other text b f a m z s h =
    no_token text (ap token_length f.is ∙ no_length_at_other b f.rest a m z s (ap magnitude_length (sym f.is) ∙ h))
