-- The instance of a line that is known.
use Rattle.std.proofs.Common.{ℕ, List, All, subst}
use Rattle.asm_token.specs.Tokens.{Token}
use Rattle.rtl_tree.specs.Names.{AreNames}
use Rattle.rtl_tree.specs.declared.c_names.Names.{Names}
use Rattle.md_rows.specs.declared.description.RawDescription.{RawDescription}
use Rattle.md_rows.specs.declared.instance.Bound.{Bound}
use Rattle.md_rows.specs.declared.instance.Instance.{Instance}
use Rattle.asm_row.specs.Line.{HasNumber, IsLineOf}
use Rattle.asm_row.specs.Readable.{IsReadable}
use Rattle.asm_row.specs.Reading.{Value, AreValues}
use Rattle.asm_row.specs.Found.{IsFound, NoRow}
use Rattle.asm_row.proofs.Made.{made}
use Rattle.asm_row.proofs.Unique.{line_reads, one_instance}
use Rattle.asm_instances.specs.Known.{IsBoundLine, IsKnown, IsKnownLine}
use Rattle.asm_row.proofs.FoundOnce.{found_once}

module _ (d : RawDescription) (readable : IsReadable d) (n : Names) (ts : List Token) where
  -- what is found is known
  pub known_values : IsKnownLine d n ts → (place : ℕ) (vs : List Value) → IsFound d ts place vs → All (IsKnown n) vs
  known_values k place vs f = subst (All (IsKnown n)) (found_once d readable ts k.place place k.values vs k.found f) k.known

  pub some_row : IsKnownLine d n ts → NoRow d ts → ⊥
  some_row k never = never k.place k.found.row k.values k.found.has k.found.reading

  pub bound_line : AreNames n.objects → AreNames n.functions → (place : ℕ) (vs : List Value) (b : List Bound) → IsFound d ts place vs → AreValues n b vs → All HasNumber b
      → IsBoundLine d n ts (record { row = place; binding = b })
  bound_line objects functions place vs b f a numbers =
      let i : Instance = record { row = place; binding = b } in
      let line : IsLineOf d n i ts = made d n objects functions place b ts vs readable f a in
      record {
        values = vs;
        found = f;
        are = a;
        line = record {
          numbers = numbers;
          line = line;
          only = λ j m l. one_instance d readable n objects functions j i ts (line_reads d readable n objects functions j ts m l) (line_reads d readable n objects functions i ts numbers line);
        };
      }
