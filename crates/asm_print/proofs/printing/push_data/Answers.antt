use Rattle.std.proofs.Common.{ℕ, pos, length, ap, ◌∙◌}
use Rattle.asm_program.specs.TextLines.{Byte}
use Rattle.asm_print.specs.Layout.{byte_lines, object_stop}
use Rattle.asm_print.proofs.Appending.{room_for, next_order, next_text, map_take, map_drop}
use Rattle.asm_print.proofs.printing.push_data.Goals as goal

pub split_at-requires-in-loop-object : goal.split_at-requires-in-loop-object
split_at-requires-in-loop-object c =
    room_for (object_stop c.args.names.now) c.args.objects.now c.loop-object.object-index _ c.loop-object-test.true c.loop-object.place (length c.loop-object.rest.now) c.loop-object.invariant.order

pub loop-object-preserved : goal.loop-object-preserved
loop-object-preserved c =
    record {
      appended =
          next_text (object_stop c.args.names.now) c.args.objects.now c.loop-object.object-index _ c.loop-object-test.true c.loop-object.out.items c.push_bytes.new.out.items
          c.push_object.new.out.items _ c.loop-object.place (byte_lines c.loop-object.rest.now) (byte_lines c.split_at-in-loop-object.result.0.now)
          (byte_lines c.split_at-in-loop-object.result.1.now)
          (ap byte_lines c.split_at-in-loop-object.ensures.front ∙ map_take (λ (b : ℕ). Byte (pos b)) _ c.loop-object.rest.now)
          (ap byte_lines c.split_at-in-loop-object.ensures.back ∙ map_drop (λ (b : ℕ). Byte (pos b)) _ c.loop-object.rest.now)
          c.in_ok-push_bytes.ensures c.in_ok-push_object.ensures c.loop-object.invariant.appended;
      order =
          next_order (object_stop c.args.names.now) c.args.objects.now c.loop-object.object-index _ c.loop-object-test.true c.loop-object.place (length c.loop-object.rest.now)
          (length c.split_at-in-loop-object.result.1.now) c.loop-object.invariant.order c.split_at-in-loop-object.ensures.back_len;
    }
