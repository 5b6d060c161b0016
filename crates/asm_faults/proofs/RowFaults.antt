-- What a row's values tell of an instruction.
use Rattle.std.proofs.Common.{◌≡◌, ℕ, ◌↔◌, Bool, true, false, IsTrue, List, Some, All, subst}
use Rattle.std.specs.List.{AllByRecursion}
use Rattle.std.proofs.lemmas.List.Elements.{All-from_recursion, recursion_from_All}
use Rattle.asm_token.specs.Tokens.{Token}
use Rattle.md_rows.specs.declared.description.RawDescription.{RawDescription}
use Rattle.asm_row.specs.Readable.{IsReadable}
use Rattle.asm_row.specs.Reading.{Value}
use Rattle.asm_row.specs.Found.{IsFound}
use Rattle.asm_program.specs.declared.rules.Rule.TheVariants.{NotInPart}
use Rattle.asm_program.specs.TextLines.{Said}
use Rattle.asm_program.specs.Rules.{IsMade, IsPlaced}
use Rattle.asm_faults.specs.Checks.{IsRowChecked}
use Rattle.asm_row.proofs.FoundOnce.{found_once}

not_both : (b : Bool) → b ≡ true → b ≡ false → ⊥
not_both b e f = cc

module _ (d : RawDescription) (all : List Said) (ts : List Token) (place : ℕ) (vs : List Value) (b : Bool) (f : IsFound d ts place vs) (p : IsTrue b ↔ AllByRecursion (IsPlaced all) vs) where
  pub is_made : b ≡ true → IsMade d all ts
  is_made e = record { place = place; values = vs; found = f; placed = All-from_recursion (IsPlaced all) vs (p.0 e) }

  pub not_made : IsReadable d → b ≡ false → IsRowChecked d all ts (Some NotInPart)
  not_made readable e = (
    (place, vs, f),
    λ m. not_both b (p.1 (recursion_from_All (IsPlaced all) vs (subst (All (IsPlaced all)) (found_once d readable ts m.place place m.values vs m.found f) m.placed))) e,
  )
