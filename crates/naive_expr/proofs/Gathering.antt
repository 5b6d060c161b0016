-- Arguments that are evaluated in turn.
use Rattle.std.proofs.Common.{◌≡◌, ℕ, suc, ◌+◌, ◌<◌, List, ◌∷◌, ◌++◌, length, drop, get_or, drop-cons, sym, ap, ◌∙◌, arith}
use Rattle.c_tree.specs.declared.typed.TypedExpr.{TypedExpr}
use Rattle.naive_code.specs.Expressions.{Value, Site, arguments, results_of}
use Rattle.naive_expr.specs.declared.emission.Emitter.{Emitter}
use Rattle.naive_expr.specs.Emitted.{emitted}
use Rattle.naive_expr.specs.Operands.{values_of}

-- what was gathered and what the rest adds is the whole
pub record Gathers (c : Site) (old now : Emitter) (whole : Value) (results : List ℕ) (depth at : ℕ) (made : List ℕ) (rest : List TypedExpr) : Type 0 where
  pub ops : emitted now ++ (arguments (values_of c rest)).ops now.next_temp now.next_label ≡ emitted old ++ whole.ops old.next_temp old.next_label
  pub depths : now.depths ++ (arguments (values_of c rest)).depths at ≡ old.depths ++ whole.depths depth
  pub temp : now.next_temp + (arguments (values_of c rest)).temps ≡ old.next_temp + whole.temps
  pub label : now.next_label + (arguments (values_of c rest)).labels ≡ old.next_label + whole.labels
  pub results_are : made ++ results_of (values_of c rest) now.next_temp ≡ results

pub next_item : {A : Type 0} (xs : List A) (i : ℕ) (x : A) → i < length xs → x ≡ get_or xs i x → drop i xs ≡ x ∷ drop (i + 1) xs
next_item xs i x lt is =
    let next : suc i ≡ i + 1 = omega arith in
    drop-cons xs i x lt ∙ (ap (λ y. y ∷ drop (suc i) xs) (sym is) ∙ ap (λ k. x ∷ drop k xs) next)
