-- What an accepted description covers, in the code's terms.
use Rattle.std.proofs.Common.{◌≡◌, inl, inr, ℕ, true, false, Bool, refl, subst}
use Rattle.rtl_word.specs.declared.Rel.{Rel}
use Rattle.rtl_tree.specs.declared.expressions.BinOp.{BinOp}
use Rattle.rtl_tree.specs.declared.expressions.BinOp.TheVariants as op
use Rattle.md_rows.specs.declared.description.RawDescription.{RawDescription}
use Rattle.md_shapes.specs.declared.patterns.Pattern.TheVariants.{Operate, Clear, Branch}
use Rattle.md_check.specs.Checking.{IsChecked}
use Rattle.temp_shapes.specs.declared.rows.ShapeRows.{ShapeRows}
use Rattle.temp_shapes.specs.Patterns.{is_operator}
use Rattle.temp_shapes.specs.Rows.{AreShapeRows, IsPatternCovered}
use Rattle.temp_laws.specs.Covered.{AreShapesCovered, RequiredAreCovered}
use Rattle.naive_builder.specs.Covered.{IsUsable, IsFlagOf, IsTold}

-- by the law, where what was checked is the description at hand
pub covered_by : (w : ℕ) (d e : RawDescription) (t : ShapeRows) → RequiredAreCovered → e ≡ d → IsChecked w e → AreShapeRows d t → AreShapesCovered d
covered_by w d e t law same checked rows = law w d t (subst (λ (x : RawDescription). IsChecked w x) same checked) rows

pub clear_covered : (d : RawDescription) → AreShapesCovered d → (IsPatternCovered d (Operate op.And) → ⊥) → IsPatternCovered d Clear
clear_covered d h n = elim h.clearing [ inl c ↦ absurd (n c) | inr c ↦ c ]

pub usable_listed : (d : RawDescription) (o : BinOp) → IsUsable d o → is_operator o ≡ true
usable_listed d op.Add h = refl
usable_listed d op.Sub h = refl
usable_listed d op.Or h = refl
usable_listed d op.Mul h = h.operator
usable_listed d op.Div h = h.operator
usable_listed d op.Divu h = h.operator
usable_listed d op.Rem h = h.operator
usable_listed d op.Remu h = h.operator
usable_listed d op.And h = h.operator
usable_listed d op.Xor h = h.operator
usable_listed d op.Shl h = h.operator
usable_listed d op.Shr h = h.operator
usable_listed d op.Shru h = h.operator
usable_listed d (op.Cmp r) h = h.operator
usable_listed d op.Pair h = h.operator
usable_listed d op.When h = h.operator

pub usable_covered : (d : RawDescription) (o : BinOp) → AreShapesCovered d → IsUsable d o → IsPatternCovered d (Operate o)
usable_covered d op.Add k h = k.always (Operate op.Add) refl
usable_covered d op.Sub k h = k.always (Operate op.Sub) refl
usable_covered d op.Or k h = k.always (Operate op.Or) refl
usable_covered d op.Mul k h = h.covered
usable_covered d op.Div k h = h.covered
usable_covered d op.Divu k h = h.covered
usable_covered d op.Rem k h = h.covered
usable_covered d op.Remu k h = h.covered
usable_covered d op.And k h = h.covered
usable_covered d op.Xor k h = h.covered
usable_covered d op.Shl k h = h.covered
usable_covered d op.Shr k h = h.covered
usable_covered d op.Shru k h = h.covered
usable_covered d (op.Cmp r) k h = h.covered
usable_covered d op.Pair k h = h.covered
usable_covered d op.When k h = h.covered

-- where no jump on a relation is covered, some flag serves
pub flag_there : (d : RawDescription) (r : Rel) → AreShapesCovered d → (IsPatternCovered d (Branch r) → ⊥) → ((j : ℕ) → IsFlagOf d r j → ⊥) → ⊥
flag_there d r k direct none = elim (k.branching r) [
  | inl c ↦ direct c
  | inr c ↦ none c.flag (record { is_flag = c.is_flag; compares = c.compares; jumps = c.jumps })
]

-- what a test denies
pub if_not_told : (P : Type 0) (b : Bool) → b ≡ false → IsTold P b → P → ⊥
if_not_told P b e h = subst (λ (x : Bool). IsTold P x) e h
