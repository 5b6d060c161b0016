use Rattle.std.proofs.Common.{All, length, ap, sym, subst, ◌∙◌}
use Rattle.md_rows.specs.declared.instance.Instance.{Instance}
use Rattle.asm_row.specs.Line.{IsNamed}
use Rattle.asm_program.specs.TextLines.{Others}
use Rattle.asm_print.specs.Layout.{instruction_lines, label_stop, tokens_of}
use Rattle.asm_print.specs.Printable.{IsOf}
use Rattle.asm_print.proofs.Appending.{room_for, next_order, next_text, map_take, map_drop, all_drop}
use Rattle.asm_print.proofs.printing.push_text_part.Goals as goal

pub split_at-requires-in-loop-label : goal.split_at-requires-in-loop-label
split_at-requires-in-loop-label g c =
    room_for (label_stop c.args.names.now) c.args.labels.now c.loop-label.label-index _ c.loop-label-test.true c.loop-label.place (length c.loop-label.rest.now) c.loop-label.invariant.order

pub loop-label-preserved : goal.loop-label-preserved
loop-label-preserved g c =
    record {
      appended =
          next_text (label_stop c.args.names.now) c.args.labels.now c.loop-label.label-index _ c.loop-label-test.true c.loop-label.out.items c.push_instructions.new.out.items
          c.push_label.new.out.items _ c.loop-label.place (instruction_lines c.args.m.now c.args.names.now c.loop-label.rest.now)
          (instruction_lines c.args.m.now c.args.names.now c.split_at-in-loop-label.result.0.now)
          (instruction_lines c.args.m.now c.args.names.now c.split_at-in-loop-label.result.1.now)
          (ap (instruction_lines c.args.m.now c.args.names.now) c.split_at-in-loop-label.ensures.front
          ∙ map_take (λ (i : Instance). Others (tokens_of c.args.m.now c.args.names.now i)) _ c.loop-label.rest.now)
          (ap (instruction_lines c.args.m.now c.args.names.now) c.split_at-in-loop-label.ensures.back
          ∙ map_drop (λ (i : Instance). Others (tokens_of c.args.m.now c.args.names.now i)) _ c.loop-label.rest.now)
          c.in_ok-push_instructions.ensures c.in_ok-push_label.ensures c.loop-label.invariant.appended;
      order =
          next_order (label_stop c.args.names.now) c.args.labels.now c.loop-label.label-index _ c.loop-label-test.true c.loop-label.place (length c.loop-label.rest.now)
          (length c.split_at-in-loop-label.result.1.now) c.loop-label.invariant.order c.split_at-in-loop-label.ensures.back_len;
      instances =
          subst (All (IsOf c.args.m.now)) (sym c.split_at-in-loop-label.ensures.back) (all_drop (IsOf c.args.m.now) _ c.loop-label.rest.now c.loop-label.invariant.instances);
      named =
          subst (All (λ (i : Instance). All (IsNamed c.args.names.now) i.binding)) (sym c.split_at-in-loop-label.ensures.back)
          (all_drop (λ (i : Instance). All (IsNamed c.args.names.now) i.binding) _ c.loop-label.rest.now c.loop-label.invariant.named);
    }
