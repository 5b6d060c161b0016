-- Each worked run is computed, layer for layer.
use Rattle.std.proofs.Common.{refl}
use Rattle.c_tree.specs.declared.typed.TypedExpr.TheFolds.{fold-roll-TypedExpr}
use Rattle.c_tree.specs.declared.typed.Stat.TheFolds.{fold-roll-Stat}
use Rattle.c_meaning.specs.Worked.{OperatorActs, ObjectActs, CallActs, Orders, Loops, Conversions}

pub operator_acts : OperatorActs
operator_acts = record {
  sum = simp (fold-roll-Stat, fold-roll-TypedExpr) refl;
  difference = simp (fold-roll-Stat, fold-roll-TypedExpr) refl;
  product = simp (fold-roll-Stat, fold-roll-TypedExpr) refl;
  negation = simp (fold-roll-Stat, fold-roll-TypedExpr) refl;
  quotient = simp (fold-roll-Stat, fold-roll-TypedExpr) refl;
  overflow = simp (fold-roll-Stat, fold-roll-TypedExpr) refl;
  count = simp (fold-roll-Stat, fold-roll-TypedExpr) refl;
  below = simp (fold-roll-Stat, fold-roll-TypedExpr) refl;
  both = simp (fold-roll-Stat, fold-roll-TypedExpr) refl;
  negative = simp (fold-roll-Stat, fold-roll-TypedExpr) refl;
  shifted = simp (fold-roll-Stat, fold-roll-TypedExpr) refl;
}

pub object_acts : ObjectActs
object_acts = record {
  scalar = simp (fold-roll-Stat, fold-roll-TypedExpr) refl;
  compound_assignment = simp (fold-roll-Stat, fold-roll-TypedExpr) refl;
  increment = simp (fold-roll-Stat, fold-roll-TypedExpr) refl;
  unset_element = simp (fold-roll-Stat, fold-roll-TypedExpr) refl;
  set_element = simp (fold-roll-Stat, fold-roll-TypedExpr) refl;
  above = simp (fold-roll-Stat, fold-roll-TypedExpr) refl;
  below = simp (fold-roll-Stat, fold-roll-TypedExpr) refl;
  listed = simp (fold-roll-Stat, fold-roll-TypedExpr) refl;
  unset_again = simp (fold-roll-Stat, fold-roll-TypedExpr) refl;
}

pub call_acts : CallActs
call_acts = record {
  used = simp (fold-roll-Stat, fold-roll-TypedExpr) refl;
  not_used = simp (fold-roll-Stat, fold-roll-TypedExpr) refl;
  main_ends = simp fold-roll-Stat refl;
  over = simp (fold-roll-Stat, fold-roll-TypedExpr) refl;
  too_deep = simp (fold-roll-Stat, fold-roll-TypedExpr) refl;
  absent = simp (fold-roll-Stat, fold-roll-TypedExpr) refl;
}

pub orders : Orders
orders = record {
  conjunction = simp (fold-roll-Stat, fold-roll-TypedExpr) refl;
  disjunction = simp (fold-roll-Stat, fold-roll-TypedExpr) refl;
  arguments = simp (fold-roll-Stat, fold-roll-TypedExpr) refl;
  left_first = simp (fold-roll-Stat, fold-roll-TypedExpr) refl;
}

pub loops : Loops
loops = record {
  endless_0 = refl;
  endless_1 = simp (fold-roll-Stat, fold-roll-TypedExpr) refl;
  endless_3 = simp (fold-roll-Stat, fold-roll-TypedExpr) refl;
  nothing_to_copy = simp (fold-roll-Stat, fold-roll-TypedExpr) refl;
  copied = simp (fold-roll-Stat, fold-roll-TypedExpr) refl;
  copied_in_part = simp (fold-roll-Stat, fold-roll-TypedExpr) refl;
  switched = simp (fold-roll-Stat, fold-roll-TypedExpr) refl;
}

pub conversions : Conversions
conversions = record {
  modulo = simp (fold-roll-Stat, fold-roll-TypedExpr) refl;
  wrapped = simp (fold-roll-Stat, fold-roll-TypedExpr) refl;
  unsigned_relation = simp (fold-roll-Stat, fold-roll-TypedExpr) refl;
  signed_relation = simp (fold-roll-Stat, fold-roll-TypedExpr) refl;
  no_overflow = simp (fold-roll-Stat, fold-roll-TypedExpr) refl;
  byte = simp (fold-roll-Stat, fold-roll-TypedExpr) refl;
}
