-- What a row reads of a line.
use Rattle.std.proofs.Common.{◌≡◌, List, [], Option, Some, None, sym, subst, ◌∙◌}
use Rattle.asm_token.specs.Tokens.{Token}
use Rattle.md_rows.specs.declared.description.RawDescription.{RawDescription}
use Rattle.md_rows.specs.declared.row.Row.{Row}
use Rattle.md_overlap.specs.Premises.{AreNames}
use Rattle.asm_row.specs.Reading.{Value, ReadsText}
use Rattle.asm_row.specs.Found.{AreRead, IsRowRead, CanBe, assigned_in}
use Rattle.asm_row.proofs.Texts.{text_once}
use Rattle.asm_row.proofs.Different.{pairs_from, pairs_to}

module _ (d : RawDescription) (row : Row) (ts : List Token) where
  abbrev Read : Option (List Value) → Type 0
  Read o = AreRead d.word d.registers row.text row.holes ts [] o

  pub row_none : Read None → IsRowRead d row ts None
  row_none r = λ vs k. r vs k.reads

  pub row_some : (all : List Value) → Read (Some all) → CanBe d row all → IsRowRead d row ts (Some all)
  row_some all r c =
      record {
        reads = subst (λ (vs : List Value). ReadsText d.word d.registers row.text row.holes ts vs) (sym r.2) r.1;
        short = c.1;
        different = pairs_from (assigned_in all row.effects) c.0;
      }

  pub row_other : AreNames d.registers → (all : List Value) → Read (Some all) → (CanBe d row all → ⊥) → IsRowRead d row ts None
  row_other names all r never = λ vs k.
      let same : all ≡ vs = r.2 ∙ text_once d.word d.registers names row.text row.holes ts r.0 vs r.1 k.reads in
      never (subst (CanBe d row) (sym same) (pairs_to (assigned_in vs row.effects) k.different, k.short))
