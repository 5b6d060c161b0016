use Rattle.std.proofs.Common.{◌≡◌, map, take}
use Rattle.machine_forms.specs.Forms.{moves_of}
use Rattle.rtl_machine.specs.Loading.{linked_line}
use Rattle.rtl_machine.proofs.loading.linked_lines.Given as goal

abbrev pub invariant-loop-line : goal.invariant-loop-line
invariant-loop-line l = map moves_of l.code.items ≡ map (linked_line l.d l.p) (take l.line-index l.p.lines)
