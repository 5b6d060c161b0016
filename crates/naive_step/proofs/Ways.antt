-- Operations that take one transfer or several, by what the description covers: each way gives the same value.
use Rattle.std.proofs.Common.{◌≡◌, ◌≢◌, ℕ, zero, suc, ◌+◌, ◌*◌, ◌-◌, ◌%◌, ◌/◌, ◌^◌, ◌<◌, ◌⊎◌, inl, inr, List, [], ◌∷◌, ◌++◌, Option, Some, None, Result, Ok, Err, refl, sym, ap, ◌∙◌, subst, arith, true, false}
use Rattle.std.specs.Prelude.{Contains, length, slice_index_or}
use Rattle.std.proofs.lemmas.Bool.Decides.{nat_tests}
use Rattle.behaviour.specs.Steps.{Comes}
use Rattle.behaviour.proofs.Stepping.{comes_trans}
use Rattle.rtl_word.specs.Words.{IsWordSize, word_not, word_add, word_shl}
use Rattle.rtl_word.proofs.Sums.{not_not}
use Rattle.std.specs.Int.Bits.{bit_and}
use Rattle.rtl_tree.specs.declared.cells.Cell.TheVariants.{Hard, Temp}
use Rattle.rtl_tree.specs.declared.expressions.UnOp.TheVariants.{Not}
use Rattle.rtl_tree.specs.declared.expressions.BinOp.TheVariants as op
use Rattle.rtl_tree.specs.Trees.{Tree, Number, Read, Unary, Binary}
use Rattle.md_shapes.specs.declared.patterns.Pattern.{Pattern}
use Rattle.md_shapes.specs.declared.patterns.Pattern.TheVariants as shape
use Rattle.rtl_effect.specs.Views.{seen}
use Rattle.rtl_effect.specs.Effects.{is_input}
use Rattle.md_shapes.specs.Shapes.{Frame as Fixed, Open, shape_moves, set_cell}
use Rattle.temp_machine.specs.Routines.{Image, Target}
use Rattle.temp_machine.specs.Live.{Place}
use Rattle.temp_machine.specs.Small.{Point}
use Rattle.naive_code.specs.Operations.{Make, Meet, Scale, Extend, on_two, with_number}
use Rattle.naive_run.specs.Standing.{Shaped, shaped, HasShaped, HasAll, One, log_bytes}
use Rattle.naive_step.proofs.Doing.{M}
use Rattle.naive_step.proofs.Making.{Call, Fits, Inside, At, routine_in}
use Rattle.naive_step.proofs.Acts.{SetsTemp, Reached, set_temp}

-- ---- the members of short lists

one_member : {A : Type 0} (a x : A) → Contains (a ∷ []) x → a ≡ x
one_member a x (zero, lt, e) = e
one_member a x (suc n, lt, e) = absurd (omega (arith, lt))

pub two_members : {A : Type 0} (a b x : A) → Contains (a ∷ b ∷ []) x → (a ≡ x) ⊎ (b ≡ x)
two_members a b x (zero, lt, e) = inl e
two_members a b x (suc zero, lt, e) = inr e
two_members a b x (suc (suc n), lt, e) = absurd (omega (arith, lt))

pub three_members : {A : Type 0} (a b c x : A) → Contains (a ∷ b ∷ c ∷ []) x → (a ≡ x) ⊎ ((b ≡ x) ⊎ (c ≡ x))
three_members a b c x (zero, lt, e) = inl e
three_members a b c x (suc zero, lt, e) = inr (inl e)
three_members a b c x (suc (suc zero), lt, e) = inr (inr e)
three_members a b c x (suc (suc (suc n)), lt, e) = absurd (omega (arith, lt))

-- a temporary has a value, and a second one is used up
pub record UsesUp (a spare x : ℕ) (c d : Point) : Type 0 where
  pub temp : d.view.cells (Temp a) ≡ Some x
  pub others : (n : ℕ) → n ≢ a → n ≢ spare → d.view.cells (Temp n) ≡ c.view.cells (Temp n)
  pub regs : (n : ℕ) → d.view.cells (Hard n) ≡ c.view.cells (Hard n)
  pub bytes : (b : ℕ) → d.view.bytes b ≡ c.view.bytes b
  pub input : d.view.input ≡ c.view.input
  pub printed : d.printed ≡ c.printed

module _ (t : Target) (u : Image) (m : Fixed) (k : Call) (fits : Fits t u k) where
  abbrev Has : Shaped → Place → Place → Type 0
  Has = HasShaped t.word m (routine_in t u k)

  abbrev All_of : List Shaped → Place → Place → Type 0
  All_of = HasAll t.word m (routine_in t u k)

  abbrev To : Place → (Point → Type 0) → Point → Type 0
  To = Reached t u m k fits

  pub last_has : (s : Shaped) (p q : Place) → All_of (s ∷ []) p q → Has s p q
  last_has s p q h = subst (λ r. Has s p r) (sym h.2) h.1

  -- an operation that is a transfer of a shape
  pub make_has : (pat : Pattern) (o : Open) (p q : Place) → One t.word m (routine_in t u k) (Make pat o) p q → Has (shaped pat o) p q
  make_has pat o p q h = last_has (shaped pat o) p q (subst (λ way. All_of way p q) (sym (one_member (shaped pat o ∷ []) h.0 h.1)) h.2)

  -- what is reached from where something was reached
  further : (q : Place) (P : Point → Type 0) (c d : Point) → Comes (M t u) c d → To q P d → To q P c
  further q P c d to r = record { point = r.point; comes = comes_trans (M t u) c d r.point to r.comes; inside = r.inside; at = r.at; fact = r.fact }

  uses_one : (a spare x : ℕ) (c d : Point) → SetsTemp a (Some x) c d → UsesUp a spare x c d
  uses_one a spare x c d s = record { temp = s.temp; others = λ n ne no. s.others n ne; regs = s.regs; bytes = s.bytes; input = s.input; printed = s.printed }

  -- the spare temporary is set, and then the other one
  uses_two : (a spare x : ℕ) (y : Option ℕ) (c d e : Point) → SetsTemp spare y c d → UsesUp a spare x d e → UsesUp a spare x c e
  uses_two a spare x y c d e s r = record {
    temp = r.temp;
    others = λ n ne no. r.others n ne no ∙ s.others n no;
    regs = λ n. r.regs n ∙ s.regs n;
    bytes = λ b. r.bytes b ∙ s.bytes b;
    input = r.input ∙ s.input;
    printed = r.printed ∙ s.printed;
  }

  -- the temporary is set twice
  uses_again : (a spare x : ℕ) (y : Option ℕ) (c d e : Point) → SetsTemp a y c d → UsesUp a spare x d e → UsesUp a spare x c e
  uses_again a spare x y c d e s r = record {
    temp = r.temp;
    others = λ n ne no. r.others n ne no ∙ s.others n ne;
    regs = λ n. r.regs n ∙ s.regs n;
    bytes = λ b. r.bytes b ∙ s.bytes b;
    input = r.input ∙ s.input;
    printed = r.printed ∙ s.printed;
  }

  pub then_two : (a spare x : ℕ) (y : Option ℕ) (p q : Place) (c : Point) (r : To p (SetsTemp spare y c) c) → To q (UsesUp a spare x r.point) r.point → To q (UsesUp a spare x c) c
  then_two a spare x y p q c r z =
      further q _ c r.point r.comes (record { point = z.point; comes = z.comes; inside = z.inside; at = z.at; fact = uses_two a spare x y c r.point z.point r.fact z.fact })

  pub then_again : (a spare x : ℕ) (y : Option ℕ) (p q : Place) (c : Point) (r : To p (SetsTemp a y c) c) → To q (UsesUp a spare x r.point) r.point → To q (UsesUp a spare x c) c
  then_again a spare x y p q c r z =
      further q _ c r.point r.comes (record { point = z.point; comes = z.comes; inside = z.inside; at = z.at; fact = uses_again a spare x y c r.point z.point r.fact z.fact })

  -- a transfer that sets the temporary last
  pub sets_last : (s : Shaped) (a spare x : ℕ) (e : Tree) (p q : Place) (c : Point) → Has s p q → Inside t u k c → At t u p c
      → shape_moves m s.pattern s.at ≡ set_cell (Temp a) e → is_input e ≡ false
      → seen t.word e c.view ≡ Ok (Some x) → To q (UsesUp a spare x c) c
  sets_last s a spare x e p q c has i h is quiet sees =
      let r = set_temp t u m k fits s p q c has i h a e (Some x) is quiet sees in
      record { point = r.point; comes = r.comes; inside = r.inside; at = r.at; fact = uses_one a spare x c r.point r.fact }

  module _ (p q : Place) (c : Point) (i : Inside t u k c) (h : At t u p c) where
    -- the bits that two have in common, by one transfer or by two complements
    pub meet : (a b x y : ℕ) → a ≢ b → y < 2 ^ t.word → c.view.cells (Temp a) ≡ Some x → c.view.cells (Temp b) ≡ Some y
        → One t.word m (routine_in t u k) (Meet a b) p q → To q (UsesUp a b (bit_and x y) c) c
    meet a b x y ne small holds_a holds_b (way, is, all) = by_way (two_members _ _ way is)
      where
        directly : All_of (shaped (shape.Operate op.And) (on_two a b) ∷ []) p q → To q (UsesUp a b (bit_and x y) c) c
        directly hs = sets_last _ a b (bit_and x y) (Binary op.And (Read (Temp a)) (Read (Temp b))) p q c (last_has _ p q hs) i h refl refl (rw (holds_a, holds_b) refl)

        in_two : All_of (shaped shape.Complement (on_two b b) ∷ shaped shape.Clear (on_two a b) ∷ []) p q → To q (UsesUp a b (bit_and x y) c) c
        in_two (r, first, rest) =
            let d = set_temp t u m k fits _ p r c first i h b (Unary Not (Read (Temp b))) (Some (word_not t.word y)) refl refl (rw holds_b refl) in
            let holds : d.point.view.cells (Temp a) ≡ Some x = d.fact.others a ne ∙ holds_a in
            let twice : bit_and x (word_not t.word (word_not t.word y)) ≡ bit_and x y = ap (bit_and x) (not_not t.word y small) in
            then_two a b (bit_and x y) (Some (word_not t.word y)) r q c d
            (sets_last _ a b (bit_and x y) (Binary op.And (Read (Temp a)) (Unary Not (Read (Temp b)))) r q d.point (last_has _ r q rest) d.inside d.at refl refl
            (rw (holds, d.fact.temp) (ap (λ z. Ok (Some z)) twice)))

        by_way : ((shaped (shape.Operate op.And) (on_two a b) ∷ []) ≡ way) ⊎ ((shaped shape.Complement (on_two b b) ∷ shaped shape.Clear (on_two a b) ∷ []) ≡ way) → To q (UsesUp a b (bit_and x y) c) c
        by_way (inl e) = directly (subst (λ w. All_of w p q) (sym e) all)
        by_way (inr e) = in_two (subst (λ w. All_of w p q) (sym e) all)
