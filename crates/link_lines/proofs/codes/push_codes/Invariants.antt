use Rattle.std.proofs.Common.{◌≡◌, ◌++◌, drop, length, map}
use Rattle.std.specs.Prelude.{All}
use Rattle.md_instances.specs.Instances.{IsOfDescription}
use Rattle.rtl_machine.specs.Loading.{moves_of}
use Rattle.link_lines.specs.Lines.{labels_of_codes, lines_of_codes}
use Rattle.link_lines.proofs.codes.push_codes.Given as goal

abbrev pub invariant-loop-code : goal.invariant-loop-code
invariant-loop-code g l =
    record {
      lines :
          map (moves_of l.m) l.written.lines.items ++ lines_of_codes l.m l.rows (drop l.code-index l.codes)
          ≡ map (moves_of l.m) l.fn.written.lines.items ++ lines_of_codes l.m l.rows l.codes;
      rows : All (IsOfDescription l.m) l.fn.written.lines.items → All (IsOfDescription l.m) l.written.lines.items;
      labels :
          l.written.labels.items ++ labels_of_codes l.m l.rows (length l.written.lines.items) (drop l.code-index l.codes)
          ≡ l.fn.written.labels.items ++ labels_of_codes l.m l.rows (length l.fn.written.lines.items) l.codes;
    }
