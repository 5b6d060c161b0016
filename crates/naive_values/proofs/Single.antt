-- Operators on one operand, and arithmetic on two (C11 6.5.3.3, 6.5.5 to 6.5.12).
use Rattle.std.proofs.Common.{◌≡◌, ◌≢◌, ℕ, zero, suc, ◌+◌, ◌^◌, ◌≤◌, ◌<◌, List, [], ◌∷◌, ◌++◌, Option, Some, None, Ok, refl, sym, ap, ◌∙◌, subst, arith, true, false}
use Rattle.std.proofs.lemmas.List.{append-nil}
use Rattle.rtl_word.specs.Words.{IsWordSize, word_sub, word_neg, word_not}
use Rattle.rtl_effect.specs.Views.{seen}
use Rattle.rtl_word.proofs.Below.{word_sub-below, word_not-below}
use Rattle.rtl_word.proofs.Sums.{zero_sub}
use Rattle.rtl_tree.specs.declared.cells.Cell.TheVariants.{Temp}
use Rattle.rtl_tree.specs.declared.expressions.UnOp.TheVariants.{Not}
use Rattle.rtl_tree.specs.declared.expressions.BinOp.TheVariants as op
use Rattle.rtl_tree.specs.Trees.{Read, Unary}
use Rattle.md_shapes.specs.declared.patterns.Pattern.TheVariants as shape
use Rattle.md_shapes.specs.Shapes.{Frame as Fixed}
use Rattle.c_tree.specs.declared.token.At.{At as Spot}
use Rattle.c_tree.specs.declared.types.CType.{CType}
use Rattle.c_tree.specs.declared.types.CType.TheVariants as type
use Rattle.c_tree.specs.declared.syntax.Arithmetic.{Arithmetic}
use Rattle.c_tree.specs.declared.syntax.Arithmetic.TheVariants as arithmetic
use Rattle.c_tree.specs.declared.typed.Function.{Function}
use Rattle.c_tree.specs.declared.typed.Typed.{Typed}
use Rattle.c_meaning.specs.Operators.{Outcome, gives, undefined, as_type, negate, calculate}
use Rattle.c_meaning.specs.Parts.{State, Part, then_do, give, demand, outcome, Value as Result, word, absent}
use Rattle.c_meaning.specs.Expressions.{as_value}
use Rattle.temp_machine.specs.Routines.{Image, Target}
use Rattle.temp_machine.specs.Live.{Place}
use Rattle.temp_machine.specs.Small.{Point}
use Rattle.naive_code.specs.Operations as code
use Rattle.naive_code.specs.Operations.{Op, on_two}
use Rattle.naive_code.specs.Storage.{scalar_count}
use Rattle.naive_code.specs.Expressions.{Value, then_on, negated, joined, computed}
use Rattle.naive_run.specs.Sound.{is_word}
use Rattle.naive_step.proofs.Doing.{Does, any, does_then, there}
use Rattle.naive_step.proofs.Making.{Call, Inside, At, routine_in}
use Rattle.naive_step.proofs.Acts.{SetsTemp}
use Rattle.naive_assigned.proofs.Ready.{Ready}
use Rattle.naive_assigned.proofs.Working.{works_sets, works_fresh}
use Rattle.naive_values.proofs.Calculating.{calculate_gives, same_value}
use Rattle.naive_values.proofs.Typed.{as_word}
use Rattle.naive_values.proofs.Getting.{Ops, Gets, to_place, gets_after, gets_sets, sets, sets_number}
use Rattle.naive_values.proofs.Asked.{IsFresh, Stands_for, Since, since_refl, since_trans, Has, Has_word, ValueDoes}
use Rattle.naive_values.proofs.Operating.{operated, same_number, computed_gets}
use Rattle.naive_values.proofs.Composing.{value_then, gave}

negate_int : (w : ℕ) (of : CType) (x z : ℕ) → IsWordSize w → calculate w of arithmetic.Subtract 0 x ≡ gives z → word_sub w 0 x ≡ z
negate_int w of x z size e = same_number (word_sub w 0 x) z (calculate_gives w of arithmetic.Subtract 0 x z size e).value

negate_gives : (w : ℕ) (of : CType) (x z : ℕ) → IsWordSize w → negate w of x ≡ gives z → word_sub w 0 x ≡ z
negate_gives w type.Unsigned x z size e = zero_sub w x ∙ same_value (word_neg w x) z e
negate_gives w type.Schar x z size e = negate_int w type.Schar x z size e
negate_gives w type.Uchar x z size e = negate_int w type.Uchar x z size e
negate_gives w type.Int x z size e = negate_int w type.Int x z size e
negate_gives w type.Void x z size e = negate_int w type.Void x z size e

module _ (t : Target) (u : Image) (m : Fixed) (source : Typed) (f : Function) (k : Call) (ready : Ready t u m source f k) (n : ℕ) where
  abbrev Code : List Op → Place → Place → Type 0
  Code = Ops t u m source f k ready

  pub plus_does : (of by : CType) (x : State → Part Result) (v : Value) (spot : Spot) → is_word of ≡ true → ValueDoes t u m source f k ready n by x v
      → ValueDoes t u m source f k ready n of (λ s. then_do (then_do (x s) demand) (λ a s1. as_value (outcome (gives a) spot s1))) v
  plus_does of by x v spot words does first label p q c s fresh ops i at rep =
      value_then t u m source f k ready n by v x does [] (Has t u m source f k ready of (v.result first) first q c) (λ a s1. as_value (outcome (gives a) spot s1)) first label p q c s fresh
      (subst (λ z. Code z p q) (sym (append-nil (v.ops first label))) ops) i at rep
      (λ r d a s1 last h.
      let value = h.value in
      there t u n d (Has t u m source f k ready of (v.result first) first q c) (word a) s1
      (record { inside = h.inside; at = subst (λ z. At t u z d) (sym last) h.at; rep = h.rep; since = h.since; value = (value.0, as_word t.word of a words value.2, value.2) }))

  pub complement_does : (of by : CType) (x : State → Part Result) (v : Value) (depths : ℕ → List ℕ) (spot : Spot) → is_word of ≡ true → IsFresh v → ValueDoes t u m source f k ready n by x v
      → ValueDoes t u m source f k ready n of (λ s. then_do (then_do (x s) demand) (λ a s1. as_value (outcome (gives (word_not t.word a)) spot s1))) (then_on v 0 depths (λ a spare. code.complement a ∷ []))
  complement_does of by x v depths spot words fresh_v does first label p q c s fresh ops i at rep =
      value_then t u m source f k ready n by v x does (code.complement (v.result first) ∷ []) (Has t u m source f k ready of (v.result first) first q c) (λ a s1. as_value (outcome (gives (word_not t.word a)) spot s1))
      first label p q c s fresh ops i at rep
      (λ r d a s1 rest h.
      let value = h.value in
      let z = word_not t.word a in
      let small : z < 2 ^ t.word = word_not-below t.word a in
      gave t u m source f k ready n of (v.result first) first first first z q c d s1 fresh (omega arith) (fresh_v.from first) (omega arith) h.since h.rep (as_word t.word of z words small) small
      (to_place t u m source f k ready rest.0 q _ d rest.2
      (gets_sets t u m source f k ready (v.result first) z first rest.0 d
      (sets t u m source f k ready r rest.0 d h.inside h.at shape.Complement (on_two (v.result first) (v.result first)) (v.result first) (Unary Not (Read (Temp (v.result first)))) (Some z) rest.1 refl refl (not_seen (v.result first) a d value.0)))))
    where
      not_seen : (b a : ℕ) (d : Point) → d.view.cells (Temp b) ≡ Some a → seen t.word (Unary Not (Read (Temp b))) d.view ≡ Ok (Some (word_not t.word a))
      not_seen b a d holds = rw holds refl

  -- the difference from 0
  pub minus_does : (of by : CType) (x : State → Part Result) (v : Value) (spot : Spot) → is_word of ≡ true → IsFresh v → ValueDoes t u m source f k ready n by x v
      → ValueDoes t u m source f k ready n of (λ s. then_do (then_do (x s) demand) (λ a s1. as_value (outcome (negate t.word by a) spot s1))) (negated v)
  minus_does of by x v spot words fresh_v does first label p q c s fresh ops i at rep =
      let b = first + v.temps in
      value_then t u m source f k ready n by v x does (code.constant b 0 ∷ code.operate op.Sub b (v.result first) ∷ []) (Has t u m source f k ready of b first q c) (λ a s1. as_value (outcome (negate t.word by a) spot s1))
      first label p q c s fresh ops i at rep
      (λ r d a s1 rest h. by_outcome r d a s1 rest h (negate t.word by a) refl)
    where
      by_outcome : (r : Place) (d : Point) (a : ℕ) (s1 : State) → Code (code.constant (first + v.temps) 0 ∷ code.operate op.Sub (first + v.temps) (v.result first) ∷ []) r q
          → Has_word t u m source f k ready by (v.result first) first r c a s1 d → (o : Outcome) → negate t.word by a ≡ o
          → Does t u n d (Has t u m source f k ready of (first + v.temps) first q c) (as_value (outcome o spot s1))
      by_outcome r d a s1 rest h (undefined what) e = any [] _
      by_outcome r d a s1 (r1, one, rest) h (gives z) e =
          let b = first + v.temps in
          let value = h.value in
          let is : word_sub t.word 0 a ≡ z = negate_gives t.word by a z ready.target.size e in
          let small : z < 2 ^ t.word = subst (λ y. y < 2 ^ t.word) is (word_sub-below t.word 0 a) in
          let below = fresh_v.to first in
          gave t u m source f k ready n of b first first b z q c d s1 fresh (omega arith) (omega arith) (omega arith) h.since h.rep (as_word t.word of z words small) small
          (gets_after t u m source f k ready b z b r1 q (SetsTemp b (Some 0) d) d (sets_number t u m source f k ready r r1 d h.inside h.at b 0 one) (λ w g. works_sets t u m source f k b b (Some 0) d w g)
          (λ w j at' g. operated t u m source f k ready r1 q w j at' op.Sub b (v.result first) 0 a z b g.temp (g.others (v.result first) (λ eq. omega (arith, eq, below)) ∙ value.0) (ap Ok is) rest))

  -- two operands, and an operator of the machine
  pub arithmetic_does : (of left right : CType) (x y : State → Part Result) (v w : Value) (o : Arithmetic) (spot : Spot) → is_word of ≡ true → IsFresh v → IsFresh w
      → ValueDoes t u m source f k ready n left x v → ValueDoes t u m source f k ready n right y w
      → ValueDoes t u m source f k ready n of (λ s. then_do (then_do (x s) demand) (λ a s1. then_do (then_do (y s1) demand) (λ b s2. as_value (outcome (calculate t.word left o a b) spot s2)))) (joined v w (computed o left))
  arithmetic_does of left right x y v w o spot words fresh_v fresh_w does_x does_y first label p q c s fresh ops i at rep =
      let later = first + v.temps in
      let compute = computed o left (v.result first) (w.result later) in
      let Whole = Has t u m source f k ready of (v.result first) first q c in
      value_then t u m source f k ready n left v x does_x (w.ops later (label + v.labels) ++ compute) Whole (λ a s1. then_do (then_do (y s1) demand) (λ b s2. as_value (outcome (calculate t.word left o a b) spot s2)))
      first label p q c s fresh ops i at rep
      (λ r d a s1 rest h.
      let first_value = h.value in
      value_then t u m source f k ready n right w y does_y compute Whole (λ b s2. as_value (outcome (calculate t.word left o a b) spot s2)) later (label + v.labels) r q d s1 (omega (arith, fresh)) rest h.inside h.at h.rep
      (λ r2 e b s2 rest' g.
      let second = g.value in
      let from = fresh_v.from first in
      by_outcome r2 e a b s2 rest' g.inside g.at g.rep (since_trans t u m source f k ready first later c d e (omega arith) h.since g.since)
      (g.since.temps (v.result first) (omega (arith, fresh, from)) (fresh_v.to first) ∙ first_value.0) second.0 (calculate t.word left o a b) refl))
    where
      by_outcome : (r : Place) (e : Point) (a b : ℕ) (s2 : State) → Code (computed o left (v.result first) (w.result (first + v.temps))) r q → Inside t u k e → At t u r e → Stands_for t u m source f k ready s2 e
          → Since t u m source f k ready first c e → e.view.cells (Temp (v.result first)) ≡ Some a → e.view.cells (Temp (w.result (first + v.temps))) ≡ Some b → (g : Outcome) → calculate t.word left o a b ≡ g
          → Does t u n e (Has t u m source f k ready of (v.result first) first q c) (as_value (outcome g spot s2))
      by_outcome r e a b s2 rest j at' rep' since left_is right_is (undefined what) is = any [] _
      by_outcome r e a b s2 rest j at' rep' since left_is right_is (gives z) is =
          let small = (calculate_gives t.word left o a b z ready.target.size is).small in
          let below = fresh_v.to first in
          let from = fresh_w.from (first + v.temps) in
          gave t u m source f k ready n of (v.result first) first first (first + v.temps) z q c e s2 fresh (omega arith) (fresh_v.from first) (omega arith) since rep' (as_word t.word of z words small) small
          (computed_gets t u m source f k ready r q e j at' o left (v.result first) (w.result (first + v.temps)) a b z (first + v.temps) (λ eq. omega (arith, eq, below, from)) from left_is right_is is rest)
