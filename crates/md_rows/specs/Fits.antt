-- Which values fit which holes, and what a number hole prints.
use Rattle.std.specs.Prelude.{ℕ, suc, ◌-◌, ◌%◌, ◌^◌, Bool, true, false, cond, ◌&&◌, ◌==◌, nat_lt, Option, Some, None, is_some, ℤ, pos, negsuc, int_le, bit_and}
use Rattle.std.specs.Int.{bit_at}
use Rattle.rtl_tree.specs.declared.cells.Cell.TheVariants.{Hard, Temp}
use Rattle.md_rows.specs.declared.row.Hole.{Hole}
use Rattle.md_rows.specs.declared.row.Hole.TheVariants.{Reg as RegHole, Num as NumHole, Sym as SymHole, Label as LabelHole}
use Rattle.md_rows.specs.declared.instance.Bound.{Bound}
use Rattle.md_rows.specs.declared.instance.Bound.TheVariants.{Reg, Num, Sym, Label}

-- the word of a number: the number modulo 2 ^ w
abbrev pub word_of : ℕ → ℤ → ℕ
word_of w (pos n) = n % 2 ^ w
word_of w (negsuc n) = 2 ^ w - 1 - n % 2 ^ w

-- the value of a number hole that prints p
abbrev pub value_of_number : ℕ → Bool → ℤ → ℕ
value_of_number w inverted p = cond inverted (2 ^ w - 1 - word_of w p) (word_of w p)

abbrev pub within : ℤ → ℤ → ℤ → Bool
within low high p = int_le low p && int_le p high

-- the word v, less 2 ^ w
abbrev pub below_zero : ℕ → ℕ → ℤ
below_zero w v = negsuc (2 ^ w - suc v)

-- v, or its complement where the hole is inverted
abbrev pub turned : ℕ → Bool → ℕ → ℕ
turned w inverted v = cond inverted (2 ^ w - 1 - v) v

-- what a number hole of the value v prints, if the value is one of the hole's
abbrev pub printed : ℕ → ℤ → ℤ → Bool → ℕ → Option ℤ
printed w low high inverted v =
    cond (within low high (pos (turned w inverted v))) (Some (pos (turned w inverted v)))
    (cond (within low high (below_zero w (turned w inverted v))) (Some (below_zero w (turned w inverted v))) None)

-- whether a set of registers, a bit for each, has register k
abbrev pub is_in : ℕ → ℕ → Bool
is_in set k = bit_at set k == 1

-- whether a value fits a hole, on words of w bits, where g has the bits of the general registers; a temporary stands in a hole whose
-- class has every general register
abbrev pub fits : ℕ → ℕ → Hole → Bound → Bool
fits w g (RegHole class) (Reg (Hard k)) = nat_lt k 64 && is_in class k
fits w g (RegHole class) (Reg (Temp n)) = bit_and class g == g
fits w g (NumHole low high inverted) (Num v) = nat_lt v (2 ^ w) && is_some (printed w low high inverted v)
fits w g SymHole (Sym n) = true
fits w g LabelHole (Label l) = true
fits w g _ _ = false
