-- Which shapes the rows of a description cover, as code finds out.
use Rattle.std.specs.Prelude.{◌≡◌, ◌<◌, ℕ, Bool, true, false, Option, Some, None}
use Rattle.rtl_word.specs.declared.Rel.{Rel}
use Rattle.rtl_tree.specs.declared.expressions.BinOp.{BinOp}
use Rattle.rtl_tree.specs.declared.expressions.BinOp.TheVariants.{Add, Sub, Or}
use Rattle.md_rows.specs.declared.description.RawDescription.{RawDescription}
use Rattle.md_shapes.specs.declared.patterns.Pattern.{Pattern}
use Rattle.md_shapes.specs.declared.patterns.Pattern.TheVariants.{Operate, Compare, BranchByFlag}
use Rattle.md_shapes.specs.Shapes.{Open}
use Rattle.md_covers.specs.Covers.{IsOpenOf, general_bits}
use Rattle.temp_shapes.specs.Patterns.{is_operator}
use Rattle.temp_shapes.specs.Rows.{IsPatternCovered}
use Rattle.temp_shapes.specs.Elementary.{IsTemporary}

-- some row covers an operator that a description needn't have
pub record HasOperator (d : RawDescription) (o : BinOp) : Type 0 where
  pub operator : is_operator o ≡ true
  pub covered : IsPatternCovered d (Operate o)

-- an operator that code may use: each description adds, subtracts and joins the bits of two words
abbrev pub IsUsable : RawDescription → BinOp → Type 0
IsUsable d Add = Unit {0}
IsUsable d Sub = Unit {0}
IsUsable d Or = Unit {0}
IsUsable d o = HasOperator d o

-- a comparison into the flag and a jump that tests it are covered
pub record IsFlagOf (d : RawDescription) (relation : Rel) (flag : ℕ) : Type 0 where
  pub is_flag : flag < 8
  pub compares : IsPatternCovered d (Compare flag)
  pub jumps : IsPatternCovered d (BranchByFlag relation flag)

abbrev pub IsFlagFor : RawDescription → Rel → Option ℕ → Type 0
IsFlagFor d relation (Some flag) = IsFlagOf d relation flag
IsFlagFor d relation None = (flag : ℕ) → IsFlagOf d relation flag → ⊥

-- what a test tells
abbrev pub IsTold : Type 0 → Bool → Type 0
IsTold P true = P
IsTold P false = P → ⊥

-- what a transfer of a shape on temporaries asks of its operands
pub record AreOperands (d : RawDescription) (pattern : Pattern) (p : Open) : Type 0 where
  pub fit : IsOpenOf d.word (general_bits d.registers) pattern p
  pub a : IsTemporary p.a
  pub b : IsTemporary p.b
