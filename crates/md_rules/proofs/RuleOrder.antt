-- The first rule that is broken, from rule to rule.
use Rattle.std.proofs.Common.{◌≡◌, ℕ, ◌==◌, cond, refl, sym, ap, ◌∙◌}
use Rattle.md_text.specs.Accepted.{Rule, BadByte, OtherVersion, NoForm, BadHeading, OutOfRange, DeclaredTwice, NotDeclared, ReservedName, WrongRoles, BadTransfer, MisusedHole, ModeInMode, TooLarge, TooMany, number_of}

of_number : ℕ → Rule
of_number n =
    cond (n == 1) BadByte (cond (n == 2) OtherVersion (cond (n == 3) NoForm (cond (n == 4) BadHeading (cond (n == 5) OutOfRange
    (cond (n == 6) DeclaredTwice (cond (n == 7) NotDeclared (cond (n == 8) ReservedName (cond (n == 9) WrongRoles (cond (n == 10) BadTransfer
    (cond (n == 11) MisusedHole (cond (n == 12) ModeInMode (cond (n == 13) TooLarge TooMany))))))))))))

of_number-number_of : (r : Rule) → of_number (number_of r) ≡ r
unfolding of_number
of_number-number_of BadByte = refl
of_number-number_of OtherVersion = refl
of_number-number_of NoForm = refl
of_number-number_of BadHeading = refl
of_number-number_of OutOfRange = refl
of_number-number_of DeclaredTwice = refl
of_number-number_of NotDeclared = refl
of_number-number_of ReservedName = refl
of_number-number_of WrongRoles = refl
of_number-number_of BadTransfer = refl
of_number-number_of MisusedHole = refl
of_number-number_of ModeInMode = refl
of_number-number_of TooLarge = refl
of_number-number_of TooMany = refl

pub same_rule : (r s : Rule) → number_of r ≡ number_of s → r ≡ s
same_rule r s e = sym (of_number-number_of r) ∙ ap of_number e ∙ of_number-number_of s
