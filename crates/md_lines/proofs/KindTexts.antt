-- What the parts of a hole's text tell of the hole.
use Rattle.std.proofs.Common.{◌≡◌, ℕ, ℤ, Bool, true, false, List, [], ◌∷◌, ◌++◌, refl, sym, ap, subst, ◌∙◌, codes}
use Rattle.std.proofs.lemmas.List.{append_assoc}
use Rattle.std.specs.Fmt.{signed_decimal}
use Rattle.std.proofs.lemmas.Slice.Eq.{bytes_eq-Decides}
use Rattle.std.specs.Str.{bytes_eq}
use Rattle.asm_token.specs.Tokens.{IsName}
use Rattle.md_text.specs.Lines.{lacks}
use Rattle.md_text.specs.Pieces.{Range, OfWord, Between, Kind, Named, Numbers, Symbols, Labels, Slot, IsKind, range_text, kind_text, slot_text, is_kind_word}
use Rattle.md_text.proofs.Bytes.{lacks_both, number_lacks, name_lacks}
use Rattle.md_text.proofs.Splits.{no_such_byte}
use Rattle.md_lines.specs.Fields.{IsWholeNumber, IsRangeText, IsKindText, IsPlain, IsSlotText}
use Rattle.md_lines.specs.Parts.{IsSplitAtByte}
use Rattle.md_lines.proofs.Places.{split_once}

-- ranges

at_dot : (text : List ℕ) (low high : ℤ) → IsRangeText text (Between low high) → IsSplitAtByte 46 text (signed_decimal low) (46 ∷ signed_decimal high)
at_dot text low high h = record { text = h.text ∙ append_assoc (signed_decimal low) (codes "..") (signed_decimal high); first = number_lacks 46 low refl h.range.0 }

tail_of : (b c : ℕ) (bs cs : List ℕ) → b ∷ bs ≡ c ∷ cs → bs ≡ cs
tail_of b c bs cs e = cc

pub no_dots : (text front rest : List ℕ) → IsSplitAtByte 46 text front rest → ((more : List ℕ) → rest ≡ codes "." ++ more → ⊥) → (low high : ℤ) → IsRangeText text (Between low high) → ⊥
no_dots text front rest s none low high h =
    none (signed_decimal high) (split_once 46 text front rest (signed_decimal low) (46 ∷ signed_decimal high) s (at_dot text low high h)).1

pub no_low : (text front rest : List ℕ) → IsSplitAtByte 46 text front rest → ((z : ℤ) → IsWholeNumber front z → ⊥) → (low high : ℤ) → IsRangeText text (Between low high) → ⊥
no_low text front rest s none low high h =
    none low (record { text = (split_once 46 text front rest (signed_decimal low) (46 ∷ signed_decimal high) s (at_dot text low high h)).0; number = h.range.0 })

pub no_high : (text front rest back : List ℕ) → IsSplitAtByte 46 text front rest → rest ≡ codes "." ++ back → ((z : ℤ) → IsWholeNumber back z → ⊥) → (low high : ℤ) → IsRangeText text (Between low high) → ⊥
no_high text front rest back s e none low high h =
    let same = split_once 46 text front rest (signed_decimal low) (46 ∷ signed_decimal high) s (at_dot text low high h) in
    none high (record { text = tail_of 46 46 back (signed_decimal high) (sym e ∙ same.1); number = h.range.1 })

-- kinds

not_true : (b : Bool) → (b ≡ true → ⊥) → b ≡ false
not_true true h = absurd (h refl)
not_true false h = refl

pub no_kind_word : (text : List ℕ) → (text ≡ codes "word" → ⊥) → (text ≡ codes "sym" → ⊥) → (text ≡ codes "label" → ⊥) → is_kind_word text ≡ false
no_kind_word text a b c =
    let word = not_true (bytes_eq text (codes "word")) (λ e. a ((bytes_eq-Decides text (codes "word")).0 e)) in
    let sym_ = not_true (bytes_eq text (codes "sym")) (λ e. b ((bytes_eq-Decides text (codes "sym")).0 e)) in
    let label = not_true (bytes_eq text (codes "label")) (λ e. c ((bytes_eq-Decides text (codes "label")).0 e)) in
    rw word (rw sym_ label)

pub name_kind : (text : List ℕ) → IsName text → (text ≡ codes "sym" → ⊥) → (text ≡ codes "label" → ⊥) → ((r : Range) → IsRangeText text r → ⊥) → IsKindText text (Named text)
name_kind text h b c none = record { kind = (h, no_kind_word text (λ e. none OfWord (record { range = tt; text = e })) b c); text = refl }

-- no exclamation mark stands in a kind that isn't inverted
plain_lacks : (k : Kind) → IsKind k → IsPlain k → lacks 33 (kind_text k) ≡ true
plain_lacks (Named name) h p = name_lacks 33 name refl h.0
plain_lacks (Numbers true r) h p = absurd p
plain_lacks (Numbers false OfWord) h p = refl
plain_lacks (Numbers false (Between low high)) h p =
    lacks_both 33 (signed_decimal low ++ codes "..") (signed_decimal high)
    (lacks_both 33 (signed_decimal low) (codes "..") (number_lacks 33 low refl h.0) refl) (number_lacks 33 high refl h.1)
plain_lacks Symbols h p = refl
plain_lacks Labels h p = refl

inverted_is : (text rest : List ℕ) → text ≡ codes "!" ++ rest → ((r : Range) → IsRangeText rest r → ⊥) → (k : Kind) → IsKindText text k → (IsPlain k → ⊥) → ⊥
inverted_is text rest e none (Named name) h p = p tt
inverted_is text rest e none (Numbers true r) h p = none r (record { range = h.kind; text = tail_of 33 33 rest (range_text r) (sym e ∙ h.text) })
inverted_is text rest e none (Numbers false r) h p = p tt
inverted_is text rest e none Symbols h p = p tt
inverted_is text rest e none Labels h p = p tt

pub no_inverted : (text rest : List ℕ) → text ≡ codes "!" ++ rest → ((r : Range) → IsRangeText rest r → ⊥) → (k : Kind) → IsKindText text k → ⊥
no_inverted text rest e none k h =
    inverted_is text rest e none k h (λ p. no_such_byte 33 (kind_text k) [] rest (plain_lacks k h.kind p) (sym h.text ∙ e))

-- holes

at_colon : (text : List ℕ) (h : Slot) → IsSlotText text h → IsSplitAtByte 58 text h.name (kind_text h.kind)
at_colon text h k = record { text = k.text; first = name_lacks 58 h.name refl k.slot.named }

pub no_hole_kind : (text name rest : List ℕ) → IsSplitAtByte 58 text name rest → ((k : Kind) → IsKindText rest k → ⊥) → (h : Slot) → IsSlotText text h → ⊥
no_hole_kind text name rest s none h k =
    none h.kind (record { kind = k.slot.kind; text = (split_once 58 text name rest h.name (kind_text h.kind) s (at_colon text h k)).1 })

pub no_hole_name : (text name rest : List ℕ) → IsSplitAtByte 58 text name rest → (IsName name → ⊥) → (h : Slot) → IsSlotText text h → ⊥
no_hole_name text name rest s none h k =
    none (subst IsName (sym (split_once 58 text name rest h.name (kind_text h.kind) s (at_colon text h k)).0) k.slot.named)
