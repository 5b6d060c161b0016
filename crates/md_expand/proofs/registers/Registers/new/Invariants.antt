use Rattle.std.proofs.Common.{◌≡◌, ◌≤◌, ℕ, List, length, drop}
use Rattle.md_forms.specs.Seen.{declarations_of}
use Rattle.md_expand.specs.Bits.{bits_at}
use Rattle.md_expand.proofs.NamedBits.{first_bit}
use Rattle.md_expand.proofs.registers.Registers.new.Given as goal

abbrev pub invariant-loop-left : goal.invariant-loop-left
invariant-loop-left l = record {
  within : l.left ≤ length l.all;
  bits : (name : List ℕ) → bits_at l.bits name ≡ first_bit (declarations_of (drop l.left l.all)) name;
}

abbrev pub decreases-loop-left : goal.decreases-loop-left
decreases-loop-left l = l.left
