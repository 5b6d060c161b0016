use Rattle.std.proofs.Common.{ℕ, ◌<◌, List, All, length, sym, subst, ap, refl, arith}
use Rattle.std.specs.List.Sorted.{IsPermutation}
use Rattle.rtl_value.specs.declared.state.LabelAt.{LabelAt}
use Rattle.asm_program.specs.Programs.{Assembled, HasFunction}
use Rattle.asm_print.specs.declared.stops.ObjectAt.{ObjectAt}
use Rattle.asm_print.specs.Layout.{numbered}
use Rattle.asm_print.specs.Printable.{IsAddress}
use Rattle.asm_print.proofs.Ordered.{few_objects, sorted_all, labels_between, data_between, laid}
use Rattle.asm_print.proofs.printing.laid_out.Goals as goal

pub push_text_part-requires-clause-functions : goal.push_text_part-requires-clause-functions
push_text_part-requires-clause-functions g c =
    sorted_all (HasFunction c.p.inside.names) _ c.deref.result.now c.in_ok-labels.labels.items c.deref-3.result.now c.p.invariant.functions c.deref.ensures.value c.in_ok-labels.ensures.all
    c.deref-3.ensures.value

pub push_text_part-requires-clause-order : goal.push_text_part-requires-clause-order
push_text_part-requires-clause-order g c =
    labels_between c.p.inside.names _ _ c.deref.result.now c.in_ok-labels.labels.items c.deref-3.result.now c.p.invariant.within c.deref.ensures.value c.in_ok-labels.ensures.all
    c.in_ok-labels.ensures.order c.deref-3.ensures.value (length c.deref-4.result.now) (ap length c.deref-4.ensures.value)

pub push_data-requires-clause-named : goal.push_data-requires-clause-named
push_data-requires-clause-named g c =
    sorted_all (λ (o : ObjectAt). o.object < length c.p.inside.names.objects) (numbered 0 c.deref-2.result.now) (numbered 0 c.deref-2.result.now) c.in_ok-objects.objects.items c.deref-5.result.now
    (few_objects c.p.inside.names 0 c.deref-2.result.now (omega (arith, ap length c.deref-2.ensures.value, c.p.invariant.addresses))) refl c.in_ok-objects.ensures.all c.deref-5.ensures.value

pub push_data-requires-clause-order : goal.push_data-requires-clause-order
push_data-requires-clause-order g c =
    data_between c.args.m.now c.raw.result.now _ c.deref-2.result.now c.in_ok-objects.objects.items c.deref-5.result.now c.deref-6.result.now
    (subst (λ (x : Assembled). All (IsAddress c.args.m.now x) x.symbols) (sym c.p.view_is) c.requires.printable.addresses) c.raw.ensures.description c.deref-6.ensures.value
    c.deref-2.ensures.value c.in_ok-objects.ensures.all c.in_ok-objects.ensures.order c.deref-5.ensures.value

pub returns : goal.returns
returns g c =
    laid c.args.m.now c.raw.result.now c.args.p.now _ c.deref-3.result.now c.deref-5.result.now c.deref-4.result.now c.deref-6.result.now c.in_ok-out.out.items c.push_text_part.new.out.items
    c.extend_from_slice.new.self.items c.push_data.new.out.items c.p.view_is c.raw.ensures.description
    (subst (λ (xs : List LabelAt). IsPermutation xs c.deref-3.result.now) c.deref.ensures.value
    (subst (IsPermutation c.deref.result.now) (sym c.deref-3.ensures.value) c.in_ok-labels.ensures.all))
    (subst (λ (xs : List ℕ). IsPermutation (numbered 0 xs) c.deref-5.result.now) c.deref-2.ensures.value
    (subst (IsPermutation (numbered 0 c.deref-2.result.now)) (sym c.deref-5.ensures.value) c.in_ok-objects.ensures.all))
    c.deref-4.ensures.value c.deref-6.ensures.value
    (labels_between c.p.inside.names _ _ c.deref.result.now c.in_ok-labels.labels.items c.deref-3.result.now c.p.invariant.within c.deref.ensures.value c.in_ok-labels.ensures.all
    c.in_ok-labels.ensures.order c.deref-3.ensures.value (length c.deref-4.result.now) (ap length c.deref-4.ensures.value))
    (data_between c.args.m.now c.raw.result.now _ c.deref-2.result.now c.in_ok-objects.objects.items c.deref-5.result.now c.deref-6.result.now
    (subst (λ (x : Assembled). All (IsAddress c.args.m.now x) x.symbols) (sym c.p.view_is) c.requires.printable.addresses) c.raw.ensures.description c.deref-6.ensures.value
    c.deref-2.ensures.value c.in_ok-objects.ensures.all c.in_ok-objects.ensures.order c.deref-5.ensures.value)
    c.in_ok-out.ensures.items
    c.in_ok-push_text_part.ensures c.in_ok-extend_from_slice.ensures.items c.in_ok-push_data.ensures
