-- The code of operators on two temporaries.
use Rattle.std.proofs.Common.{◌≡◌, ◌≢◌, ℕ, zero, suc, ◌+◌, ◌*◌, ◌^◌, ◌≤◌, ◌<◌, List, [], ◌∷◌, Option, Some, None, Result, Ok, Err, refl, sym, ap, ◌∙◌, subst, arith}
use Rattle.std.specs.Prelude.{bit_and}
use Rattle.rtl_tree.specs.declared.cells.Cell.TheVariants.{Hard, Temp}
use Rattle.rtl_tree.specs.declared.expressions.BinOp.{BinOp}
use Rattle.rtl_tree.specs.declared.expressions.BinOp.TheVariants as op
use Rattle.rtl_tree.specs.Trees.{Read, Binary}
use Rattle.rtl_value.specs.declared.state.Trap.{Trap}
use Rattle.rtl_value.specs.Values.{binary_of}
use Rattle.md_shapes.specs.declared.patterns.Pattern.TheVariants as shape
use Rattle.md_shapes.specs.Shapes.{Frame as Fixed}
use Rattle.c_tree.specs.declared.types.CType.{CType}
use Rattle.c_tree.specs.declared.syntax.Arithmetic.{Arithmetic}
use Rattle.c_tree.specs.declared.syntax.Arithmetic.TheVariants as arithmetic
use Rattle.c_tree.specs.declared.typed.Function.{Function}
use Rattle.c_tree.specs.declared.typed.Typed.{Typed}
use Rattle.c_meaning.specs.Operators.{gives, in_type, calculate}
use Rattle.temp_machine.specs.Routines.{Image, Target}
use Rattle.temp_machine.specs.Live.{Place}
use Rattle.temp_machine.specs.Small.{Point}
use Rattle.naive_code.specs.Operations as code
use Rattle.naive_code.specs.Operations.{Op, Meet, on_two}
use Rattle.naive_code.specs.Expressions.{computed}
use Rattle.naive_step.proofs.Making.{Call, Inside, At, routine_in}
use Rattle.naive_step.proofs.Ways.{meet}
use Rattle.naive_step.proofs.Scaling.{seen_two}
use Rattle.naive_assigned.proofs.Ready.{Ready}
use Rattle.naive_assigned.proofs.Working.{works_uses}
use Rattle.naive_values.proofs.Calculating.{Of_words, words_given, Gives_word, operator, calculate_gives}
use Rattle.naive_values.proofs.Getting.{To, Ops, Gets, to_as, to_place, gets_sets, sets}

abbrev number_in : ℕ → Result ℕ Trap → ℕ
number_in n (Ok v) = v
number_in n (Err e) = n

abbrev pub ok : ℕ → Result ℕ Trap
ok v = Ok v

pub same_number : (v z : ℕ) → ok v ≡ ok z → v ≡ z
same_number v z e = ap (number_in v) e

module _ (t : Target) (u : Image) (m : Fixed) (source : Typed) (f : Function) (k : Call) (ready : Ready t u m source f k) where
  module _ (p q : Place) (c : Point) (i : Inside t u k c) (h : At t u p c) where
    pub operated : (o : BinOp) (a b x y z first : ℕ) → c.view.cells (Temp a) ≡ Some x → c.view.cells (Temp b) ≡ Some y → binary_of t.word o x y ≡ Ok z → Ops t u m source f k ready (code.operate o a b ∷ []) p q
        → To t u m source f k ready q (Gets t u m source f k ready a z first c) c
    operated o a b x y z first left right is (r, one, last) =
        to_place t u m source f k ready r q _ c last
        (gets_sets t u m source f k ready a z first r c
        (sets t u m source f k ready p r c i h (shape.Operate o) (on_two a b) a (Binary o (Read (Temp a)) (Read (Temp b))) (Some z) one refl refl (seen_two t.word o a b x y z c.view left right is)))

    pub met : (a b x y first : ℕ) → a ≢ b → first ≤ b → y < 2 ^ t.word → c.view.cells (Temp a) ≡ Some x → c.view.cells (Temp b) ≡ Some y → Ops t u m source f k ready (Meet a b ∷ []) p q
        → To t u m source f k ready q (Gets t u m source f k ready a (bit_and x y) first c) c
    met a b x y first ne le small left right (r, one, last) =
        to_place t u m source f k ready r q _ c last
        (to_as t u m source f k ready r _ _ c (meet t u m k ready.fits p r c i h a b x y ne small left right one)
        (λ d g. record { temp = g.temp; works = works_uses t u m source f k a b first (bit_and x y) c d le g }))

    -- where the source's operator has a value, the code brings it to the left operand's temporary
    pub computed_gets : (o : Arithmetic) (of : CType) (a b x y z first : ℕ) → a ≢ b → first ≤ b → c.view.cells (Temp a) ≡ Some x → c.view.cells (Temp b) ≡ Some y → calculate t.word of o x y ≡ gives z
        → Ops t u m source f k ready (computed o of a b) p q → To t u m source f k ready q (Gets t u m source f k ready a z first c) c
    computed_gets o of a b x y z first ne le left right e = by_operator o (calculate_gives t.word of o x y z ready.target.size e) (words_given t.word x y (in_type t.word of o x y) z e).right
      where
        by_operator : (o : Arithmetic) → Gives_word t.word (operator o of) x y z → y < 2 ^ t.word → Ops t u m source f k ready (computed o of a b) p q → To t u m source f k ready q (Gets t u m source f k ready a z first c) c
        by_operator arithmetic.Add g small ops = operated op.Add a b x y z first left right g.value ops
        by_operator arithmetic.Subtract g small ops = operated op.Sub a b x y z first left right g.value ops
        by_operator arithmetic.Multiply g small ops = operated op.Mul a b x y z first left right g.value ops
        by_operator arithmetic.Divide g small ops = operated (operator arithmetic.Divide of) a b x y z first left right g.value ops
        by_operator arithmetic.Remainder g small ops = operated (operator arithmetic.Remainder of) a b x y z first left right g.value ops
        by_operator arithmetic.And g small ops =
            subst (λ n. To t u m source f k ready q (Gets t u m source f k ready a n first c) c) (same_number (bit_and x y) z g.value) (met a b x y first ne le small left right ops)
        by_operator arithmetic.Xor g small ops = operated op.Xor a b x y z first left right g.value ops
        by_operator arithmetic.Or g small ops = operated op.Or a b x y z first left right g.value ops
        by_operator arithmetic.ShiftLeft g small ops = operated op.Shl a b x y z first left right g.value ops
        by_operator arithmetic.ShiftRight g small ops = operated (operator arithmetic.ShiftRight of) a b x y z first left right g.value ops
