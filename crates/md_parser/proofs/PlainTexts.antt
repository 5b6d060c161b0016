-- The parts of lines of registers, flags and classes.
use Rattle.std.proofs.Common.{◌≡◌, ◌≢◌, ℕ, ◌-◌, ◌<◌, ◌≤◌, ℤ, true, List, [], ◌∷◌, ◌++◌, length, map, refl, sym, ap, subst, ◌∙◌, arith, codes, Bor}
use Rattle.std.proofs.lemmas.List.{append_cancel_left, length-map}
use Rattle.std.specs.Fmt.{signed_decimal}
use Rattle.std.specs.List.{flat_map}
use Rattle.asm_token.specs.Tokens.{IsName}
use Rattle.md_rows.specs.declared.description.Role.{Role}
use Rattle.md_text.specs.Lines.{lacks}
use Rattle.md_text.specs.Forms.{IsNameLine, IsNumberLine, IsRegisterLine, IsFlagLine, IsClassLine, role_word}
use Rattle.md_text.proofs.Bytes.{number_lacks, name_lacks}
use Rattle.md_text.proofs.FormTexts.{ended, spaced_ended, ended_once}
use Rattle.md_text.proofs.Splits.{no_such_byte}
use Rattle.md_text.proofs.TextPieces.{tail_of}
use Rattle.md_lines.specs.Fields.{IsWholeNumber, AreSpacedNames}
use Rattle.md_lines.specs.Parts.{IsSplitAtByte}
use Rattle.md_lines.proofs.Places.{split_once}
use Rattle.md_parser.specs.ClassNames.{SpacesClass}

-- registers

register_split : (line rest name : List ℕ) (k : ℤ) (role : Role) → line ≡ codes "reg " ++ rest → IsRegisterLine line k name role → IsSplitAtByte 32 rest (signed_decimal k) (name ++ 32 ∷ role_word role)
register_split line rest name k role e h = record {
  text = append_cancel_left (codes "reg ") rest (signed_decimal k ++ 32 ∷ (name ++ 32 ∷ role_word role)) (sym e ∙ h.text);
  first = number_lacks 32 k refl h.number;
}

name_split : (line more name : List ℕ) (k : ℤ) (role : Role) → more ≡ name ++ 32 ∷ role_word role → IsRegisterLine line k name role → IsSplitAtByte 32 more name (role_word role)
name_split line more name k role e h = record { text = e; first = name_lacks 32 name refl h.named }

-- what has been split off, where the line is a register's
record RegisterParts (digits more : List ℕ) (k : ℤ) (name : List ℕ) (role : Role) : Type 0 where
  number : digits ≡ signed_decimal k
  second : IsSplitAtByte 32 more name (role_word role)

parts_of : (line rest digits more name : List ℕ) (k : ℤ) (role : Role) → line ≡ codes "reg " ++ rest → IsSplitAtByte 32 rest digits more → IsRegisterLine line k name role → RegisterParts digits more k name role
parts_of line rest digits more name k role e s h =
    let same = split_once 32 rest digits more (signed_decimal k) (name ++ 32 ∷ role_word role) s (register_split line rest name k role e h) in
    record { number = same.0; second = name_split line more name k role same.1 h }

pub no_second_space : (line rest digits more : List ℕ) → line ≡ codes "reg " ++ rest → IsSplitAtByte 32 rest digits more → lacks 32 more ≡ true → (k : ℤ) (name : List ℕ) (role : Role) → IsRegisterLine line k name role → ⊥
no_second_space line rest digits more e s l k name role h =
    no_such_byte 32 more name (role_word role) l (parts_of line rest digits more name k role e s h).second.text

pub no_register_number : (line rest digits more : List ℕ) → line ≡ codes "reg " ++ rest → IsSplitAtByte 32 rest digits more → ((z : ℤ) → IsWholeNumber digits z → ⊥) → (k : ℤ) (name : List ℕ) (role : Role) → IsRegisterLine line k name role → ⊥
no_register_number line rest digits more e s none k name role h =
    none k (record { text = (parts_of line rest digits more name k role e s h).number; number = h.number })

pub no_role : (line rest digits more front back : List ℕ) → line ≡ codes "reg " ++ rest → IsSplitAtByte 32 rest digits more → IsSplitAtByte 32 more front back → ((role : Role) → back ≢ role_word role) → (k : ℤ) (name : List ℕ) (role : Role) → IsRegisterLine line k name role → ⊥
no_role line rest digits more front back e s t none k name role h =
    none role (split_once 32 more front back name (role_word role) t (parts_of line rest digits more name k role e s h).second).1

pub no_register_name : (line rest digits more front back : List ℕ) → line ≡ codes "reg " ++ rest → IsSplitAtByte 32 rest digits more → IsSplitAtByte 32 more front back → (IsName front → ⊥) → (k : ℤ) (name : List ℕ) (role : Role) → IsRegisterLine line k name role → ⊥
no_register_name line rest digits more front back e s t none k name role h =
    none (subst IsName (sym (split_once 32 more front back name (role_word role) t (parts_of line rest digits more name k role e s h).second).0) h.named)

-- flags

flag_split : (line rest name : List ℕ) (k : ℤ) → line ≡ codes "flag " ++ rest → IsFlagLine line k name → IsSplitAtByte 32 rest (signed_decimal k) name
flag_split line rest name k e h = record {
  text = append_cancel_left (codes "flag ") rest (signed_decimal k ++ 32 ∷ name) (sym e ∙ h.text);
  first = number_lacks 32 k refl h.number;
}

pub no_flag_number : (line rest digits more : List ℕ) → line ≡ codes "flag " ++ rest → IsSplitAtByte 32 rest digits more → ((z : ℤ) → IsWholeNumber digits z → ⊥) → (k : ℤ) (name : List ℕ) → IsFlagLine line k name → ⊥
no_flag_number line rest digits more e s none k name h =
    none k (record { text = (split_once 32 rest digits more (signed_decimal k) name s (flag_split line rest name k e h)).0; number = h.number })

pub no_flag_name : (line rest digits more : List ℕ) → line ≡ codes "flag " ++ rest → IsSplitAtByte 32 rest digits more → (IsName more → ⊥) → (k : ℤ) (name : List ℕ) → IsFlagLine line k name → ⊥
no_flag_name line rest digits more e s none k name h =
    none (subst IsName (sym (split_once 32 rest digits more (signed_decimal k) name s (flag_split line rest name k e h)).1) h.named)

-- classes

spaced_class : (line rest name : List ℕ) (registers : List (List ℕ)) → line ≡ codes "class" ++ rest → IsClassLine line name registers → AreSpacedNames rest (name ∷ registers)
spaced_class line rest name registers e h = record {
  text = append_cancel_left (codes "class") rest (32 ∷ (name ++ flat_map (λ register. 32 ∷ register) registers)) (sym e ∙ h.text);
  each = (h.named, h.each);
  some = omega arith;
}

pub no_class_names : (line rest : List ℕ) → line ≡ codes "class" ++ rest → ((names : List (List ℕ)) → AreSpacedNames rest names → ⊥) → (name : List ℕ) (registers : List (List ℕ)) → IsClassLine line name registers → ⊥
no_class_names line rest e none name registers h = none (name ∷ registers) (spaced_class line rest name registers e h)

names_once : (rest : List ℕ) (ms ns : List (List ℕ)) → AreSpacedNames rest ms → AreSpacedNames rest ns → ms ≡ ns
names_once rest ms ns p q =
    let texts = ap (λ r. r ++ 32 ∷ []) (sym p.text ∙ q.text) in
    let same : 32 ∷ ended ms ≡ 32 ∷ ended ns = sym (spaced_ended ms) ∙ texts ∙ spaced_ended ns in
    ended_once ms ns p.each q.each (tail_of 32 32 (ended ms) (ended ns) same)

pub too_few_names : (line rest : List ℕ) (xs : List (Bor (List ℕ))) → line ≡ codes "class" ++ rest → AreSpacedNames rest (map (λ n. n.now) xs) → length xs < 2 → (name : List ℕ) (registers : List (List ℕ)) → IsClassLine line name registers → ⊥
too_few_names line rest xs e h l name registers k =
    let same = names_once rest (map (λ n. n.now) xs) (name ∷ registers) h (spaced_class line rest name registers e k) in
    absurd (omega (arith, l, k.some, ap length same, length-map xs (λ n. n.now)))

pub class_spaced : (line rest : List ℕ) (xs : List (Bor (List ℕ))) → line ≡ codes "class" ++ rest → AreSpacedNames rest (map (λ n. n.now) xs) → 2 ≤ length xs → SpacesClass line (map (λ n. n.now) xs)
class_spaced line rest xs e h l = record { text = e ∙ ap (λ r. codes "class" ++ r) h.text; each = h.each; several = omega (arith, l, length-map xs (λ n. n.now)) }

-- names and numbers behind a word

pub no_name_behind : (word line rest : List ℕ) → line ≡ word ++ rest → (IsName rest → ⊥) → (name : List ℕ) → IsNameLine word line name → ⊥
no_name_behind word line rest e none name h = none (subst IsName (append_cancel_left word name rest (sym h.text ∙ e)) h.named)

pub no_number_behind : (word line rest : List ℕ) → line ≡ word ++ rest → ((z : ℤ) → IsWholeNumber rest z → ⊥) → (z : ℤ) → IsNumberLine word line z → ⊥
no_number_behind word line rest e none z h = none z (record { text = append_cancel_left word rest (signed_decimal z) (sym e ∙ h.text); number = h.number })
