-- The rows of what an accepted text says have literal tokens of their own.
use Rattle.std.proofs.Common.{ℕ, ◌<◌, List, [], length, All, refl, sym, subst}
use Rattle.asm_token.specs.Tokens.{Name as NameToken, IsToken}
use Rattle.md_text.specs.Lines.{kept}
use Rattle.md_text.specs.Declarations.{Declared, Declares, registers_in}
use Rattle.md_text.specs.Expansion.{expansions}
use Rattle.md_text.specs.Rules.{has_reserved_name}
use Rattle.md_text.specs.Accepted.{ReservedName, IsAccepted, row_of, description_of}
use Rattle.md_said.proofs.Lists.{each_get, all_of_each}
use Rattle.md_said.proofs.Unbroken.{unbroken_from}
use Rattle.md_said.proofs.Whole.{mapped_at}
use Rattle.md_literals.specs.Literals.{IsLiteralPiece, HasLiterals, SaidHasLiterals}
use Rattle.md_literals.proofs.Pieces.{free_forms, registers_named, IsFreeRow, rows_free, pieces_literal, some_pieces}

declared_literal : (text : List ℕ) (d : Declared) → IsAccepted text → Declares text d → HasLiterals (description_of d)
declared_literal text d a h =
    let names = unbroken_from has_reserved_name d.all [] d.all refl (λ l b. a ReservedName l (record { declared = d; declares = h; breaks = b })) in
    let forms = free_forms d.width (kept h.lines) [] d.all h.forms names in
    let all = expansions d.width d.all in
    let free = rows_free d.width d.all forms in
    record {
      registers = all_of_each (λ r. IsToken (NameToken r.name)) (registers_in d.all) (registers_named d.all forms);
      some = mapped_at row_of (λ r. 0 < length r.text) all (λ i e k. let row = each_get IsFreeRow all free i e k in some_pieces 0 e.text row.some);
      pieces = mapped_at row_of (λ r. All IsLiteralPiece r.text) all
          (λ i e k. let row = each_get IsFreeRow all free i e k in all_of_each IsLiteralPiece (row_of e).text (pieces_literal 0 e.text row.each));
    }

pub said_literal : SaidHasLiterals
said_literal text raw s = subst HasLiterals (sym s.same) (declared_literal text s.declared s.accepted s.declares)
