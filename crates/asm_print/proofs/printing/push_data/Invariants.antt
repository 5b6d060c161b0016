use Rattle.std.proofs.Common.{◌≡◌, ◌+◌, ◌++◌, drop, length, map}
use Rattle.asm_print.specs.Layout.{AreBetween, byte_lines, object_stop, woven}
use Rattle.asm_print.specs.Written.{text_of}
use Rattle.asm_print.proofs.printing.push_data.Given as goal

abbrev pub invariant-loop-object : goal.invariant-loop-object
invariant-loop-object l =
    record {
      appended :
          l.out.items ++ text_of (woven l.place (map (object_stop l.names) (drop l.object-index l.objects)) (byte_lines l.rest))
          ≡ l.fn.out.items ++ text_of (woven l.base (map (object_stop l.names) l.objects) (byte_lines l.bytes));
      order : AreBetween l.place (l.place + length l.rest) (map (object_stop l.names) (drop l.object-index l.objects));
    }
