-- Where no register is barred, each tree is free of them.
use Rattle.std.proofs.Common.{◌≡◌, ℕ, Bool, true, false, not, ◌&&◌, ◌==◌, refl, ap, sym, ◌∙◌}
use Rattle.std.proofs.lemmas.Nat.Bits.{bit_at-zero}
use Rattle.rtl_tree.specs.Trees.{Tree, Number, Symbol, CodeLabel, Read, Load, Unary, Binary, NoPair, AnyNumber, AnyName}
use Rattle.rtl_tree.specs.Moves.{Move}
use Rattle.rtl_tree.specs.declared.cells.Cell.TheVariants.{Hard, Temp, Flag, Pc, Input, Output, Halt, Hole as RegisterHole}
use Rattle.rtl_tree.proofs.Equality.{and_both}
use Rattle.md_match.specs.Searches.{names_none, is_flag_of, is_idle}

none_named : (t : Tree) → names_none 0 t ≡ true
none_named (Read (Hard k)) = ap (λ n. not (n == 1)) (bit_at-zero k)
none_named (Load w a) = none_named a
none_named (Unary o a) = none_named a
none_named (Binary o a b) = and_both (names_none 0 a) (names_none 0 b) (none_named a) (none_named b)
none_named (Number n) = refl
none_named (Symbol n) = refl
none_named (CodeLabel n) = refl
none_named NoPair = refl
none_named (AnyNumber n) = refl
none_named (AnyName n) = refl
none_named (Read (Temp k)) = refl
none_named (Read (Flag k)) = refl
none_named (Read (RegisterHole k)) = refl
none_named (Read Pc) = refl
none_named (Read Input) = refl
none_named (Read Output) = refl
none_named (Read Halt) = refl

and_true : (a b : Bool) → b ≡ true → (a && b) ≡ a
and_true true b e = e
and_true false b e = refl

pub idle_to_flags : (flags : ℕ) (r : Move) → is_idle flags 0 r ≡ is_flag_of flags r.to
idle_to_flags flags r = and_true (is_flag_of flags r.to) (names_none 0 r.value) (none_named r.value)
