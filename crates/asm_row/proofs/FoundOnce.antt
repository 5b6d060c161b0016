-- The tokens of a line say the same of one row alone.
use Rattle.std.proofs.Common.{◌≡◌, ℕ, List, slice_get, sym, ap, subst, ◌∙◌}
use Rattle.asm_token.specs.Tokens.{Token}
use Rattle.md_rows.specs.declared.description.RawDescription.{RawDescription}
use Rattle.md_rows.specs.declared.row.Row.{Row}
use Rattle.asm_row.specs.Readable.{IsReadable}
use Rattle.asm_row.specs.Reading.{Value, ReadsText}
use Rattle.asm_row.specs.Found.{IsFound}
use Rattle.asm_row.proofs.HoleValues.{same_item}
use Rattle.asm_row.proofs.Texts.{text_once}
use Rattle.asm_row.proofs.Unique.{same_place}

module _ (d : RawDescription) (readable : IsReadable d) (ts : List Token) where
  pub found_once : (i j : ℕ) (vs us : List Value) → IsFound d ts i vs → IsFound d ts j us → vs ≡ us
  found_once i j vs us a b =
      let rows = same_place d readable i j a.row b.row ts
      (record { has = a.has; values = vs; reads = a.reading.reads }) (record { has = b.has; values = us; reads = b.reading.reads }) in
      let row = same_item a.row b.row (sym a.has ∙ ap (slice_get d.rows) rows ∙ b.has) in
      text_once d.word d.registers readable.names b.row.text b.row.holes ts vs us
      (subst (λ (x : Row). ReadsText d.word d.registers x.text x.holes ts vs) row a.reading.reads) b.reading.reads
