-- The numbers of a text, and the places of names.
use Rattle.std.proofs.Common.{◌≡◌, ◌≢◌, ℕ, zero, suc, ◌+◌, ◌-◌, ◌^◌, ◌≤◌, ◌<◌, Bool, true, false, not, ◌&&◌, nat_lt, eqb, cond, List, [], ◌∷◌, length, get_or, Option, Some, None, refl, sym, ap, subst, ◌∙◌, arith, inl, inr}
use Rattle.std.specs.Prelude.{slice_get, AllPairs, Contains, decimal}
use Rattle.std.specs.Fmt.{signed_decimal}
use Rattle.std.specs.Char.{is_ascii_digit}
use Rattle.std.specs.List.{list_all}
use Rattle.std.specs.Option.{option_map}
use Rattle.std.specs.Str.{bytes_eq}
use Rattle.std.specs.Str.Parse.{digits_value}
use Rattle.std.proofs.lemmas.Bool.{false_from_ne_true, cases_eq, cases_lt, and_parts, and_from, or_left, or_right, ltb-true, lt-ltb, le-ltb, eqb-true, eqb-false, ne_eqb, eq-eqb}
use Rattle.std.proofs.lemmas.Bool.Decides.{nat_tests}
use Rattle.std.proofs.lemmas.Fmt.{digits_decimal, digits_value-decimal, decimal-digits_value, decimal_nonempty, first_decimal, decimal_digit}
use Rattle.std.proofs.lemmas.Option.{slice_get_within, get_or_from_slice_get}
use Rattle.std.proofs.lemmas.Slice.Eq.{bytes_eq-Decides}
use Rattle.std.proofs.lemmas.Str.Parse.{IsNumeralModel, IsDigitsTest, numerals_by_value}
use Rattle.std.specs.Int.{IsInRange}
use Rattle.asm_token.proofs.Bytes.{digit_range}
use Rattle.rtl_word.specs.Words.{IsWordSize, word_signed}
use Rattle.rtl_word.proofs.Below.{by_size}
use Rattle.rtl_spelling.specs.Senses.{is_plain, number_below, negative_word, word_spelled, place_among}

abbrev pub AreDigits : List ℕ → Type 0
AreDigits ds = list_all is_ascii_digit ds ≡ true

in_range : (b : ℕ) → IsInRange 48 57 b → is_ascii_digit b ≡ true
in_range b h = grind (arith, nat_tests)

tests_digits : IsDigitsTest AreDigits
tests_digits = record {
  empty = refl;
  parts = λ c cs h. let p = and_parts (is_ascii_digit c) (list_all is_ascii_digit cs) h in (digit_range c p.0, p.1);
  more = λ c cs r h. and_from (is_ascii_digit c) (list_all is_ascii_digit cs) (in_range c r) h;
}

pub own : IsNumeralModel AreDigits (digits_value 10)
own = numerals_by_value AreDigits tests_digits

is_plain_from : (ds : List ℕ) → AreDigits ds → 0 < length ds → (get_or ds 0 0 ≡ 48 → length ds ≡ 1) → is_plain ds ≡ true
is_plain_from [] a l h = absurd (omega arith)
is_plain_from (d ∷ ds) a l h = and_from (list_all is_ascii_digit (d ∷ ds)) _ a (elim (cases_eq d 48) [
  | inl e ↦ or_right (not (eqb d 48)) (eqb (length ds) 0) (eq-eqb (length ds) 0 (omega (arith, h e)))
  | inr n ↦ or_left (not (eqb d 48)) (eqb (length ds) 0) (ap not (ne_eqb d 48 n))
])

pub plain_decimal : (n : ℕ) → n < 2 ^ 64 → is_plain (decimal n) ≡ true
plain_decimal zero h = ap is_plain (decimal_digit 0 (omega arith))
plain_decimal (suc n) h =
    is_plain_from (decimal (suc n)) (digits_decimal own (suc n) h) (decimal_nonempty (suc n) h)
    (λ e. absurd (omega (arith, e, first_decimal (suc n) (omega arith) h)))

pub plain_digits : (ds : List ℕ) → is_plain ds ≡ true → AreDigits ds
plain_digits [] h = refl
plain_digits (d ∷ ds) h = (and_parts (list_all is_ascii_digit (d ∷ ds)) _ h).0

plain_zero : (ds : List ℕ) → is_plain ds ≡ true → get_or ds 0 0 ≡ 48 → length ds ≡ 1
plain_zero [] h e = absurd cc
plain_zero (d ∷ ds) h e = grind (arith, nat_tests)

plain_some : (ds : List ℕ) → is_plain ds ≡ true → 0 < length ds
plain_some [] h = absurd cc
plain_some (d ∷ ds) h = omega arith

-- plain digits are what is printed of their value
pub plain_is : (ds : List ℕ) → is_plain ds ≡ true → digits_value 10 ds < 2 ^ 64 → ds ≡ decimal (digits_value 10 ds)
plain_is ds h small = sym (decimal-digits_value own ds (plain_digits ds h) (plain_some ds h) (plain_zero ds h) small)

pub number_below_decimal : (bound n : ℕ) → n < bound → bound ≤ 2 ^ 64 → number_below bound (decimal n) ≡ Some n
number_below_decimal bound n l h =
    let small : n < 2 ^ 64 = omega (arith, l, h) in
    let value : digits_value 10 (decimal n) ≡ n = digits_value-decimal own n small in
    rw (plain_decimal n small, value, lt-ltb n bound l) refl

-- the number below a bound that is read is printed so
pub record IsNumeralOf (bound n : ℕ) (bs : List ℕ) : Type 0 where
  pub below : n < bound
  pub bytes : bs ≡ decimal n

below_from : (a b : Bool) (bound v n : ℕ) (bs : List ℕ) → a ≡ is_plain bs → b ≡ nat_lt v bound → v ≡ digits_value 10 bs → bound ≤ 2 ^ 64
    → cond (a && b) (Some v) None ≡ Some n → IsNumeralOf bound n bs
below_from true true bound v n bs ea eb ev h e =
    let same : v ≡ n = cc in
    let l : v < bound = ltb-true v bound (sym eb) in
    record {
      below = subst (λ m. m < bound) same l;
      bytes = plain_is bs (sym ea) (omega (arith, l, h, ev)) ∙ ap decimal (sym ev ∙ same);
    }
below_from true false bound v n bs ea eb ev h e = absurd cc
below_from false b bound v n bs ea eb ev h e = absurd cc

pub number_below_is : (bound n : ℕ) (bs : List ℕ) → bound ≤ 2 ^ 64 → number_below bound bs ≡ Some n → IsNumeralOf bound n bs
number_below_is bound n bs h e =
    below_from (is_plain bs) (nat_lt (digits_value 10 bs) bound) bound (digits_value 10 bs) n bs refl refl refl h e

-- plain digits have no sign
unsigned : (w : ℕ) (ds : List ℕ) → is_plain ds ≡ true → word_spelled w ds ≡ number_below (2 ^ (w - 1)) ds
unsigned w [] h = absurd cc
unsigned w (d ∷ ds) h =
    let r = digit_range d (and_parts (is_ascii_digit d) _ (plain_digits (d ∷ ds) h)).0 in
    rw (ne_eqb d 45 (λ e. omega (arith, r.0, e))) refl

abbrev ReadsBack : ℕ → Type 0
ReadsBack w = (n : ℕ) → n < 2 ^ w → word_spelled w (signed_decimal (word_signed w n)) ≡ Some n

abbrev IsReadBack : ℕ → Type 0
IsReadBack w = (n : ℕ) (bs : List ℕ) → word_spelled w bs ≡ Some n → (n < 2 ^ w) × (bs ≡ signed_decimal (word_signed w n))

-- of a word below zero, by its magnitude
negative : (w n m : ℕ) → m ≡ 2 ^ w - n → 0 < m → m ≤ 2 ^ (w - 1) → 2 ^ (w - 1) + 1 ≤ 2 ^ 64 → n < 2 ^ w → word_spelled w (45 ∷ decimal m) ≡ Some n
negative w n m e some few small l =
    rw (number_below_decimal (2 ^ (w - 1) + 1) m (omega (arith, few)) small, ne_eqb m 0 (λ z. omega (arith, z, some))) (ap Some (omega (arith, e, l)))

reads_back : (w n h : ℕ) → h ≡ 2 ^ (w - 1) → h + h ≡ 2 ^ w → h + 1 ≤ 2 ^ 64 → n < 2 ^ w → word_spelled w (signed_decimal (word_signed w n)) ≡ Some n
reads_back w n h eh et small l = elim (cases_lt n h) as (λ _. word_spelled w (signed_decimal (word_signed w n)) ≡ Some n) [
  | inl lt ↦ let low : n < 2 ^ (w - 1) = omega (arith, lt, eh) in
      rw (lt-ltb n (2 ^ (w - 1)) low)
      (unsigned w (decimal n) (plain_decimal n (omega (arith, lt, small))) ∙ number_below_decimal (2 ^ (w - 1)) n low (omega (arith, eh, small)))
  | inr le ↦ let high : 2 ^ (w - 1) ≤ n = omega (arith, le, eh) in
      rw (le-ltb n (2 ^ (w - 1)) high)
      (negative w n (suc (2 ^ w - suc n)) (omega (arith, l)) (omega arith) (omega (arith, le, et, eh, l)) (omega (arith, eh, small)) l)
]

-- a word of either size, once read, is read back
pub word_spelled_signed : (w : ℕ) → IsWordSize w → ReadsBack w
word_spelled_signed w s =
    by_size ReadsBack
    (λ n l. reads_back 16 n 32768 refl refl (omega arith) l)
    (λ n l. reads_back 32 n 2147483648 refl refl (omega arith) l) w s

-- ---- and what is read is printed so

is_negative : (w n m h : ℕ) (bs : List ℕ) → h ≡ 2 ^ (w - 1) → h + h ≡ 2 ^ w → h + 1 ≤ 2 ^ 64 → IsNumeralOf (2 ^ (w - 1) + 1) m bs → (m ≡ 0 → ⊥) → 2 ^ w - m ≡ n
    → (n < 2 ^ w) × (45 ∷ bs ≡ signed_decimal (word_signed w n))
is_negative w n m h bs eh et small k some is =
    let below : m < 2 ^ (w - 1) + 1 = k.below in
    let positive : 0 < m = omega (arith, some) in
    let high : 2 ^ (w - 1) ≤ n = omega (arith, below, is, eh, et) in
    let same : m ≡ suc (2 ^ w - suc n) = omega (arith, below, is, eh, et, positive) in
    (omega (arith, is, positive, eh, et, below), rw (le-ltb n (2 ^ (w - 1)) high) (ap (λ ds. 45 ∷ ds) (k.bytes ∙ ap decimal same)))

negative_from : (w n h : ℕ) (bs : List ℕ) → h ≡ 2 ^ (w - 1) → h + h ≡ 2 ^ w → h + 1 ≤ 2 ^ 64 → (o : Option ℕ) → number_below (2 ^ (w - 1) + 1) bs ≡ o → negative_word w o ≡ Some n
    → (n < 2 ^ w) × (45 ∷ bs ≡ signed_decimal (word_signed w n))
negative_from w n h bs eh et small None eo e = absurd cc
negative_from w n h bs eh et small (Some m) eo e = go (eqb m 0) refl e
  where
    go : (b : Bool) → eqb m 0 ≡ b → cond b None (Some (2 ^ w - m)) ≡ Some n → (n < 2 ^ w) × (45 ∷ bs ≡ signed_decimal (word_signed w n))
    go true eb e = absurd cc
    go false eb e =
        is_negative w n m h bs eh et small (number_below_is (2 ^ (w - 1) + 1) m bs (omega (arith, eh, small)) eo) (eqb-false m 0 eb) cc

positive_from : (w n h : ℕ) (bs : List ℕ) → h ≡ 2 ^ (w - 1) → h + h ≡ 2 ^ w → h + 1 ≤ 2 ^ 64 → number_below (2 ^ (w - 1)) bs ≡ Some n
    → (n < 2 ^ w) × (bs ≡ signed_decimal (word_signed w n))
positive_from w n h bs eh et small e =
    let k = number_below_is (2 ^ (w - 1)) n bs (omega (arith, eh, small)) e in
    let below : n < 2 ^ (w - 1) = k.below in
    (omega (arith, below, eh, et), rw (lt-ltb n (2 ^ (w - 1)) below) k.bytes)

is_read_back : (w n h : ℕ) (bs : List ℕ) → h ≡ 2 ^ (w - 1) → h + h ≡ 2 ^ w → h + 1 ≤ 2 ^ 64 → word_spelled w bs ≡ Some n → (n < 2 ^ w) × (bs ≡ signed_decimal (word_signed w n))
is_read_back w n h [] eh et small e = absurd cc
is_read_back w n h (b ∷ bs) eh et small e = go (eqb b 45) refl e
  where
    go : (t : Bool) → eqb b 45 ≡ t → cond t (negative_word w (number_below (2 ^ (w - 1) + 1) bs)) (number_below (2 ^ (w - 1)) (b ∷ bs)) ≡ Some n
        → (n < 2 ^ w) × (b ∷ bs ≡ signed_decimal (word_signed w n))
    go true et' e =
        let r = negative_from w n h bs eh et small (number_below (2 ^ (w - 1) + 1) bs) refl e in
        (r.0, ap (λ c. c ∷ bs) (eqb-true b 45 et') ∙ r.1)
    go false et' e = positive_from w n h (b ∷ bs) eh et small e

pub word_spelled_is : (w : ℕ) → IsWordSize w → IsReadBack w
word_spelled_is w s =
    by_size IsReadBack
    (λ n bs e. is_read_back 16 n 32768 bs refl refl (omega arith) e)
    (λ n bs e. is_read_back 32 n 2147483648 bs refl refl (omega arith) e) w s

-- ---- names

abbrev Names : Type 0
Names = List (List ℕ)

abbrev FindsIn : Names → List ℕ → Type 0
FindsIn ns name = (k : ℕ) → place_among ns name ≡ Some k → slice_get ns k ≡ Some name

some_same : {A : Type 0} (x y : A) → Some x ≡ Some y → x ≡ y
some_same x y e = cc

pub equal_bytes : (m n : List ℕ) → bytes_eq m n ≡ true → m ≡ n
equal_bytes m n e = (bytes_eq-Decides m n).0 e

pub same_bytes : (m n : List ℕ) → m ≡ n → bytes_eq m n ≡ true
same_bytes m n e = (bytes_eq-Decides m n).1 e

pub other_bytes : (m n : List ℕ) → (m ≡ n → ⊥) → bytes_eq m n ≡ false
other_bytes m n h = false_from_ne_true (bytes_eq m n) (λ e. h (equal_bytes m n e))

later_place : (n : List ℕ) (ns : Names) (name : List ℕ) (o : Option ℕ) (k : ℕ) → ((j : ℕ) → o ≡ Some j → slice_get ns j ≡ Some name)
    → option_map suc o ≡ Some k → slice_get (n ∷ ns) k ≡ Some name
later_place n ns name None k h e = absurd cc
later_place n ns name (Some j) k h e = subst (λ k. slice_get (n ∷ ns) k ≡ Some name) (some_same (suc j) k e) (h j refl)

place_on : (b : Bool) (n : List ℕ) (ns : Names) (name : List ℕ) (k : ℕ) → bytes_eq n name ≡ b → FindsIn ns name
    → cond b (Some 0) (option_map suc (place_among ns name)) ≡ Some k → slice_get (n ∷ ns) k ≡ Some name
place_on true n ns name k eb h e = subst (λ k. slice_get (n ∷ ns) k ≡ Some name) (some_same 0 k e) (ap Some (equal_bytes n name eb))
place_on false n ns name k eb h e = later_place n ns name (place_among ns name) k h e

pub place_among_is : (ns : Names) (name : List ℕ) → FindsIn ns name
place_among_is [] name k e = absurd cc
place_among_is (n ∷ ns) name k e = place_on (bytes_eq n name) n ns name k refl (place_among_is ns name) e

-- the place of a name that stands nowhere before it
first_place : (ns : Names) (name : List ℕ) (k : ℕ) → slice_get ns k ≡ Some name → ((j : ℕ) → j < k → slice_get ns j ≡ Some name → ⊥) → place_among ns name ≡ Some k
first_place [] name k e h = absurd cc
first_place (n ∷ ns) name zero e h = rw (same_bytes n name (some_same n name e)) refl
first_place (n ∷ ns) name (suc k) e h =
    rw (other_bytes n name (λ s. h 0 (omega arith) (ap Some s)), first_place ns name k e (λ j l s. h (suc j) (omega (arith, l)) s)) refl

pub place_among_at : (ns : Names) (name : List ℕ) (k : ℕ) → AllPairs (λ m n. m ≢ n) ns → slice_get ns k ≡ Some name → place_among ns name ≡ Some k
place_among_at ns name k different e =
    first_place ns name k e (λ j l s.
    different j k name l (slice_get_within ns k name e) (get_or_from_slice_get ns j name name s ∙ sym (get_or_from_slice_get ns k name name e)))

no_place : (ns : Names) (name : List ℕ) (o : Option ℕ) → place_among ns name ≡ o → (Contains ns name → ⊥) → o ≡ None
no_place ns name None e h = refl
no_place ns name (Some k) e h = let s = place_among_is ns name k e in absurd (h (k, slice_get_within ns k name s, get_or_from_slice_get ns k name name s))

pub place_among_none : (ns : Names) (name : List ℕ) → (Contains ns name → ⊥) → place_among ns name ≡ None
place_among_none ns name h = no_place ns name (place_among ns name) refl h

pub contains_at : (ns : Names) (name : List ℕ) (k : ℕ) → slice_get ns k ≡ Some name → Contains ns name
contains_at ns name k e = (k, slice_get_within ns k name e, get_or_from_slice_get ns k name name e)
