use Rattle.std.proofs.Common.{◌∙◌}
use Rattle.asm_token.specs.Line.{line_of}
use Rattle.asm_print.specs.Layout.{tokens_of}
use Rattle.asm_print.proofs.Appending.{appended}
use Rattle.asm_print.proofs.Instructions.{line_is}
use Rattle.asm_print.proofs.printing.push_instruction.Goals as goal

pub returns : goal.returns
returns g c =
    appended c.args.out.now.items c.push.new.self.items c.extend_from_slice.new.self.items c.push-2.new.self.items (line_of (tokens_of c.args.m.now c.args.names.now c.args.instance.now))
    c.bytes.result.now c.in_ok-push.ensures.items c.in_ok-extend_from_slice.ensures.items c.in_ok-push-2.ensures.items
    (c.bytes.ensures.bytes ∙ line_is c.args.m.now c.args.names.now c.args.instance.now c.print_line.new.out c.print_line.ensures)
