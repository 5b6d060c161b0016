-- An operator whose shape is covered may be used.
use Rattle.std.proofs.Common.{◌≡◌, ℕ, ◌+◌, Bool, true, Some, None, refl, sym, ◌∙◌}
use Rattle.std.proofs.lemmas.Bool.{false≢true}
use Rattle.rtl_tree.specs.declared.expressions.BinOp.{BinOp}
use Rattle.rtl_tree.specs.declared.expressions.BinOp.TheVariants.{Add, Sub, Mul, Div, Divu, Rem, Remu, And, Or, Xor, Shl, Shr, Shru, Cmp, Pair, When}
use Rattle.md_rows.specs.declared.description.RawDescription.{RawDescription}
use Rattle.md_shapes.specs.Shapes.{plain}
use Rattle.md_shapes.specs.Patterns.{pattern_of}
use Rattle.md_shapes.specs.declared.patterns.Pattern.TheVariants.{Operate}
use Rattle.md_check.specs.Accepted.{IsCovered}
use Rattle.temp_shapes.specs.Patterns.{is_operator}
use Rattle.naive_builder.specs.Covered.{HasOperator, IsUsable}
use Rattle.c_lacks.specs.Operators.{AreOperators, place_of}

of_shape : (d : RawDescription) (o : BinOp) (n : ℕ) → is_operator o ≡ true → pattern_of (plain (30 + n)) ≡ Some (Operate o) → IsCovered d (plain (30 + n)) → HasOperator d o
of_shape d o n is pattern c = record {
  operator = is;
  covered = record { at = c.at; row = c.row; has = c.has; covers = record { shape = plain (30 + n); pattern_is = pattern; covers = c.covers } };
}

module _ (d : RawDescription) (has : BinOp → Bool) (a : AreOperators d has) where
  there : (o : BinOp) (n : ℕ) → is_operator o ≡ true → pattern_of (plain (30 + n)) ≡ Some (Operate o) → place_of o ≡ Some n → has o ≡ true → HasOperator d o
  there o n is pattern e h = of_shape d o n is pattern ((a.covered o n e).0 h)

  not_there : (o : BinOp) → place_of o ≡ None → has o ≡ true → HasOperator d o
  not_there o e h = absurd (false≢true (sym (a.others o e) ∙ h))

  pub usable : (o : BinOp) → has o ≡ true → IsUsable d o
  usable Add h = tt
  usable Sub h = tt
  usable Or h = tt
  usable Mul h = there Mul 0 refl refl refl h
  usable Div h = there Div 1 refl refl refl h
  usable Divu h = there Divu 2 refl refl refl h
  usable Rem h = there Rem 3 refl refl refl h
  usable Remu h = there Remu 4 refl refl refl h
  usable Shl h = there Shl 5 refl refl refl h
  usable Shr h = there Shr 6 refl refl refl h
  usable Shru h = there Shru 7 refl refl refl h
  usable Xor h = there Xor 8 refl refl refl h
  usable And h = not_there And refl h
  usable (Cmp r) h = not_there (Cmp r) refl h
  usable Pair h = not_there Pair refl h
  usable When h = not_there When refl h
