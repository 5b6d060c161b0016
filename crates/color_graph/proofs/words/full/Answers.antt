use Rattle.std.proofs.Common.{◌≡◌, ℕ, List, true, sym, subst}
use Rattle.flow_live.specs.Rows.{has_temporary}
use Rattle.color_graph.proofs.Bitwise.{full_bits}
use Rattle.color_graph.proofs.words.full.Goals as goal

pub returns : goal.returns
returns c = λ k l. subst (λ (words : List ℕ). has_temporary words k ≡ true) (sym (c.in_ok-vec.ensures.items_if_clones_equal (λ y h. h))) (full_bits c.args.count k l)
