use Rattle.frame_link.proofs.Names.{FirstApart}
use Rattle.frame_link.proofs.conditions.are_apart.Given as goal

abbrev pub invariant-loop-function : goal.invariant-loop-function
invariant-loop-function l = FirstApart l.objects l.functions l.function
