use Rattle.std.proofs.Common.{◌+◌, take, sym, subst}
use Rattle.smallvec.specs.SmallVec.{SmallVec}
use Rattle.md_rows.specs.declared.instance.Bound.{Bound}
use Rattle.recogniser.proofs.Known.{HasKnown, one_known, none_known}
use Rattle.recogniser.proofs.binding.binding_of.Goals as goal
use Rattle.recogniser.proofs.binding.binding_of.Goals.{in-Some, in_default}

pub loop-slot-preserved : goal.loop-slot-preserved
loop-slot-preserved c = elim c.match-slot.branch [
  | in-Some w ↦
      subst (λ (v : SmallVec Bound). HasKnown (take c.args.count c.args.slots.now) (c.loop-slot.slot-index + 1) v.items v.capacity) (sym w.list-is)
      (one_known (take c.args.count c.args.slots.now) c.loop-slot.slot-index w.in-Some.value c.loop-slot.list.items w.push_reserved.new.self.items
      c.loop-slot.list.capacity w.push_reserved.new.self.capacity c.loop-slot-test.true w.in-Some.is c.loop-slot.invariant w.push_reserved.ensures.items w.push_reserved.ensures.capacity)
  | in_default w ↦
      subst (λ (v : SmallVec Bound). HasKnown (take c.args.count c.args.slots.now) (c.loop-slot.slot-index + 1) v.items v.capacity) (sym w.list-is)
      (none_known (take c.args.count c.args.slots.now) c.loop-slot.slot-index c.loop-slot.list.items c.loop-slot.list.capacity c.loop-slot-test.true
      w.in_default.not-Some c.loop-slot.invariant)
]
