-- At most one rule is told, at one line.
use Rattle.std.proofs.Common.{◌≡◌, ℕ, ◌<◌, cond, eqb, List, refl, sym, ap, subst, ◌∙◌, arith}
use Rattle.md_text.specs.Accepted.{Rule, BadByte, OtherVersion, NoForm, BadHeading, OutOfRange, DeclaredTwice, NotDeclared, ReservedName, WrongRoles, BadTransfer, MisusedHole, ModeInMode, TooLarge, TooMany, number_of, Told}

rule_of : ℕ → Rule
rule_of n =
    cond (eqb n 1) BadByte
    (cond (eqb n 2) OtherVersion
    (cond (eqb n 3) NoForm
    (cond (eqb n 4) BadHeading
    (cond (eqb n 5) OutOfRange
    (cond (eqb n 6) DeclaredTwice
    (cond (eqb n 7) NotDeclared
    (cond (eqb n 8) ReservedName
    (cond (eqb n 9) WrongRoles
    (cond (eqb n 10) BadTransfer
    (cond (eqb n 11) MisusedHole
    (cond (eqb n 12) ModeInMode
    (cond (eqb n 13) TooLarge TooMany))))))))))))

rule_back : (r : Rule) → rule_of (number_of r) ≡ r
unfolding rule_of
rule_back BadByte = refl
rule_back OtherVersion = refl
rule_back NoForm = refl
rule_back BadHeading = refl
rule_back OutOfRange = refl
rule_back DeclaredTwice = refl
rule_back NotDeclared = refl
rule_back ReservedName = refl
rule_back WrongRoles = refl
rule_back BadTransfer = refl
rule_back MisusedHole = refl
rule_back ModeInMode = refl
rule_back TooLarge = refl
rule_back TooMany = refl

neither : (m n : ℕ) → (m < n → ⊥) → (n < m → ⊥) → m ≡ n
neither m n p q = omega arith

lines_same : (text : List ℕ) (r s : Rule) (l m : ℕ) → r ≡ s → Told text r l → Told text s m → l ≡ m
lines_same text r s l m e p q =
    let P : Rule → Type 0 = λ k. Told text k l in
    let here : Told text s l = subst P e p in
    neither l m (λ k. q.least_line l k here.broken) (λ k. here.least_line m k q.broken)

pub told_once : (text : List ℕ) (r s : Rule) (l m : ℕ) → Told text r l → Told text s m → (r ≡ s) × (l ≡ m)
told_once text r s l m p q =
    let number : number_of r ≡ number_of s = neither (number_of r) (number_of s) (λ k. q.least_rule r l k p.broken) (λ k. p.least_rule s m k q.broken) in
    let rule : r ≡ s = sym (rule_back r) ∙ ap rule_of number ∙ rule_back s in
    (rule, lines_same text r s l m rule p q)
