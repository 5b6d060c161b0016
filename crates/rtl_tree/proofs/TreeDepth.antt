-- How deep trees are.
use Rattle.std.proofs.Common.{ℕ, ◌<◌, ◌≡◌, false, arith}
use Rattle.std.specs.Prelude.{nat_le}
use Rattle.std.proofs.lemmas.Bool.Decides.{nat_tests}
use Rattle.rtl_tree.specs.Trees.{Tree, Load, Unary, Binary}
use Rattle.rtl_tree.specs.WellFormed.{depth}

pub depth-positive : (t : Tree) → 0 < depth t
depth-positive (Load w a) = omega arith
depth-positive (Unary o a) = omega arith
depth-positive (Binary o a b) = omega arith
depth-positive _ = omega arith

pub depth-above-zero : (t : Tree) (n : ℕ) → n ≡ 0 → nat_le (depth t) n ≡ false
depth-above-zero t n e = let p : 0 < depth t = depth-positive t in grind (arith, nat_tests)
