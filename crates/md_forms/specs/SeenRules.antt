-- The rules of the program as those of texts.
use Rattle.md_text.specs.Accepted as text
use Rattle.md_forms.specs.declared.rules.Rule.{Rule}
use Rattle.md_forms.specs.declared.rules.Rule.TheVariants.{BadByte, OtherVersion, NoForm, BadHeading, OutOfRange, DeclaredTwice, NotDeclared, ReservedName, WrongRoles, BadTransfer, MisusedHole, ModeInMode, TooLarge, TooMany}

abbrev pub rule_of : Rule → text.Rule
rule_of BadByte = text.BadByte
rule_of OtherVersion = text.OtherVersion
rule_of NoForm = text.NoForm
rule_of BadHeading = text.BadHeading
rule_of OutOfRange = text.OutOfRange
rule_of DeclaredTwice = text.DeclaredTwice
rule_of NotDeclared = text.NotDeclared
rule_of ReservedName = text.ReservedName
rule_of WrongRoles = text.WrongRoles
rule_of BadTransfer = text.BadTransfer
rule_of MisusedHole = text.MisusedHole
rule_of ModeInMode = text.ModeInMode
rule_of TooLarge = text.TooLarge
rule_of TooMany = text.TooMany
