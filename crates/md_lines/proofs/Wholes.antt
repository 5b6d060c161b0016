-- Bytes that are one token.
use Rattle.std.proofs.Common.{◌≡◌, ℕ, ℤ, Bool, true, false, List, [], length, drop, refl, sym, ap, ◌∙◌, arith, length-append}
use Rattle.std.proofs.lemmas.List.{append-nil}
use Rattle.asm_token.specs.Tokens.{Token, Name, Number, Mark, IsName, spelling, LongestToken, BeginsNoToken}
use Rattle.asm_token.proofs.Steps.{same_token}
use Rattle.md_lines.specs.Fields.{IsWholeToken, IsWholeNumber}

pub part_is_not : (bs : List ℕ) (t : Token) (n : ℕ) → LongestToken bs t n → (n ≡ length bs → ⊥) → (u : Token) → IsWholeToken bs u → ⊥
part_is_not bs t n h d u s =
    let least = h.longest.at_least u [] s.token (sym h.spelled ∙ s.text ∙ sym (append-nil (spelling u))) in
    d (omega (arith, least, h.bytes, ap length s.text, ap length h.spelled, length-append (spelling t) (drop n bs)))

pub none_is : (bs : List ℕ) → BeginsNoToken bs → (u : Token) → IsWholeToken bs u → ⊥
none_is bs n u s = n u [] s.token (s.text ∙ sym (append-nil (spelling u)))

-- bytes are at most one token
pub one_whole : (bs : List ℕ) (t u : Token) → IsWholeToken bs t → IsWholeToken bs u → t ≡ u
one_whole bs t u p q = same_token t u p.token q.token (sym p.text ∙ q.text)

abbrev is_name : Token → Bool
is_name (Name bs) = true
is_name _ = false

abbrev is_number : Token → Bool
is_number (Number z) = true
is_number _ = false

clash : (b : Bool) → b ≡ true → b ≡ false → ⊥
clash b p q = let no : true ≡ false → ⊥ = λ e. cc in no (sym p ∙ q)

whole_name : (bs : List ℕ) → IsName bs → IsWholeToken bs (Name bs)
whole_name bs h = record { token = h; text = refl }

whole_number : (bs : List ℕ) (z : ℤ) → IsWholeNumber bs z → IsWholeToken bs (Number z)
whole_number bs z h = record { token = h.number; text = h.text }

pub number_no_name : (bs : List ℕ) (z : ℤ) → IsWholeToken bs (Number z) → IsName bs → ⊥
number_no_name bs z h n = let e : false ≡ true = ap is_name (one_whole bs (Number z) (Name bs) h (whole_name bs n)) in clash false e refl

pub nothing_no_name : (bs : List ℕ) → ((t : Token) → IsWholeToken bs t → ⊥) → IsName bs → ⊥
nothing_no_name bs none n = none (Name bs) (whole_name bs n)

pub name_no_number : (bs w : List ℕ) → IsWholeToken bs (Name w) → (z : ℤ) → IsWholeNumber bs z → ⊥
name_no_number bs w h z n = let e : false ≡ true = ap is_number (one_whole bs (Name w) (Number z) h (whole_number bs z n)) in clash false e refl

pub mark_no_number : (bs : List ℕ) (c : ℕ) → IsWholeToken bs (Mark c) → (z : ℤ) → IsWholeNumber bs z → ⊥
mark_no_number bs c h z n = let e : false ≡ true = ap is_number (one_whole bs (Mark c) (Number z) h (whole_number bs z n)) in clash false e refl

pub nothing_no_number : (bs : List ℕ) → ((t : Token) → IsWholeToken bs t → ⊥) → (z : ℤ) → IsWholeNumber bs z → ⊥
nothing_no_number bs none z n = none (Number z) (whole_number bs z n)

pub no_truth : {A : Type 0} → false ≡ true → A
no_truth e = let no : false ≡ true → ⊥ = λ q. cc in absurd (no e)
