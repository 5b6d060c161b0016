use Rattle.std.proofs.Common.{◌<◌, List, [], length}
use Rattle.asm_program.specs.TextLines.{Said}
use Rattle.asm_data.specs.Data.{AreData, AreDataLeft}
use Rattle.asm_data.proofs.data.data_of.Given as goal

abbrev pub invariant-loop-rest : goal.invariant-loop-rest
invariant-loop-rest l =
    record {
      small : length l.data.bytes.items < 4294967296;
      left : (lines : List Said) → AreData l.d l.text lines [] → AreDataLeft l.d lines l.rest l.data.symbols.items l.data.bytes.items;
    }

abbrev pub decreases-loop-rest : goal.decreases-loop-rest
decreases-loop-rest l = length l.rest
