-- An index scaled to words, and a byte with its sign extended: each way gives the same value.
use Rattle.std.proofs.Common.{◌≡◌, ◌≢◌, ℕ, zero, suc, ◌+◌, ◌*◌, ◌-◌, ◌%◌, ◌/◌, ◌^◌, ◌<◌, ◌≤◌, ◌⊎◌, inl, inr, List, [], ◌∷◌, ◌++◌, Option, Some, None, Result, Ok, Err, refl, sym, ap, ◌∙◌, subst, arith, true, false}
use Rattle.std.specs.Prelude.{Contains, length, slice_index_or}
use Rattle.std.proofs.lemmas.Bool.Decides.{nat_tests}
use Rattle.std.proofs.lemmas.Int.{ints}
use Rattle.behaviour.specs.Steps.{Comes}
use Rattle.behaviour.proofs.Stepping.{comes_trans}
use Rattle.rtl_word.specs.Words.{IsWordSize, word_add, word_shl, word_shr, word_sxb}
use Rattle.rtl_word.proofs.Below.{by_size}
use Rattle.rtl_word.proofs.Bitwise.{sxb_same}
use Rattle.rtl_tree.specs.declared.cells.Cell.TheVariants.{Hard, Temp}
use Rattle.rtl_tree.specs.declared.expressions.Width.TheVariants.{Byte}
use Rattle.rtl_tree.specs.declared.expressions.UnOp.TheVariants.{Sxb}
use Rattle.rtl_tree.specs.declared.expressions.BinOp.{BinOp}
use Rattle.rtl_tree.specs.declared.expressions.BinOp.TheVariants as op
use Rattle.rtl_tree.specs.Trees.{Tree, Number, Read, Load, Unary, Binary}
use Rattle.rtl_value.specs.declared.state.Trap.TheVariants.{Shift}
use Rattle.rtl_value.specs.Values.{binary_of, or_trap}
use Rattle.rtl_effect.specs.Views.{View, seen, binary_seen, lifted, touched}
use Rattle.md_shapes.specs.declared.patterns.Pattern.TheVariants as shape
use Rattle.md_shapes.specs.Shapes.{Frame as Fixed, shape_moves, set_cell}
use Rattle.temp_machine.specs.Routines.{Image, Target}
use Rattle.temp_machine.specs.Live.{Place}
use Rattle.temp_machine.specs.Small.{Point}
use Rattle.naive_code.specs.Operations.{Scale, on_two, with_number}
use Rattle.naive_run.specs.Standing.{Shaped, shaped, HasShaped, HasAll, One, log_bytes, doubled, shifted}
use Rattle.naive_step.proofs.Doing.{M}
use Rattle.naive_step.proofs.Making.{Call, Fits, Inside, At, routine_in}
use Rattle.naive_step.proofs.Acts.{SetsTemp, Reached, set_temp}
use Rattle.naive_step.proofs.Ways.{UsesUp, two_members, last_has, then_two, then_again, sets_last}

-- what an operator on two temporaries is seen to be
pub seen_two : (w : ℕ) (o : BinOp) (a b x y z : ℕ) (v : View) → v.cells (Temp a) ≡ Some x → v.cells (Temp b) ≡ Some y → binary_of w o x y ≡ Ok z
    → seen w (Binary o (Read (Temp a)) (Read (Temp b))) v ≡ Ok (Some z)
seen_two w o a b x y z v holds_a holds_b is = ap (λ p. binary_seen w o p (v.cells (Temp b))) holds_a ∙ (ap (binary_seen w o (Some x)) holds_b ∙ ap lifted is)

shl_scales : (w x : ℕ) → IsWordSize w → x * (w / 8) < 2 ^ w → word_shl w x (log_bytes w) ≡ Some (x * (w / 8))
shl_scales w x z = by_size (λ n. x * (n / 8) < 2 ^ n → word_shl n x (log_bytes n) ≡ Some (x * (n / 8))) (λ h. ap Some (omega (arith, h))) (λ h. ap Some (omega (arith, h))) w z

add_twice_16 : (x : ℕ) → x * 2 < 65536 → word_add 16 x x ≡ x * 2
add_twice_16 x h = omega (arith, h)

add_twice_32 : (x : ℕ) → x * 4 < 4294967296 → word_add 32 (word_add 32 x x) (word_add 32 x x) ≡ x * 4
add_twice_32 x h = omega (arith, h)

module _ (t : Target) (u : Image) (m : Fixed) (k : Call) (fits : Fits t u k) (p q : Place) (c : Point) (i : Inside t u k c) (h : At t u p c) where
  abbrev Ends_with : ℕ → ℕ → ℕ → Type 0
  Ends_with a spare x = Reached t u m k fits q (UsesUp a spare x c) c

  pub scale : (a spare x : ℕ) → a ≢ spare → IsWordSize t.word → x * (t.word / 8) < 2 ^ t.word → c.view.cells (Temp a) ≡ Some x
      → One t.word m (routine_in t u k) (Scale a spare) p q → Ends_with a spare (x * (t.word / 8))
  scale a spare x ne size small holds (way, is, all) = by_way (two_members _ _ way is)
    where
      by_shift : HasAll t.word m (routine_in t u k) (shifted t.word a spare) p q → Ends_with a spare (x * (t.word / 8))
      by_shift (r, first, rest) =
          let d = set_temp t u m k fits _ p r c first i h spare (Number (log_bytes t.word)) (Some (log_bytes t.word)) refl refl refl in
          then_two t u m k fits a spare (x * (t.word / 8)) (Some (log_bytes t.word)) r q c d
          (sets_last t u m k fits _ a spare (x * (t.word / 8)) (Binary op.Shl (Read (Temp a)) (Read (Temp spare))) r q d.point (last_has t u m k fits _ r q rest) d.inside d.at refl refl
          (seen_two t.word op.Shl a spare x (log_bytes t.word) (x * (t.word / 8)) d.point.view (d.fact.others a ne ∙ holds) d.fact.temp
          (ap (λ o. or_trap o Shift) (shl_scales t.word x size small))))

      in_16 : t.word ≡ 16 → HasAll t.word m (routine_in t u k) (shaped (shape.Operate op.Add) (on_two a a) ∷ []) p q → Ends_with a spare (x * (t.word / 8))
      in_16 e hs =
          sets_last t u m k fits _ a spare (x * (t.word / 8)) (Binary op.Add (Read (Temp a)) (Read (Temp a))) p q c (last_has t u m k fits _ p q hs) i h refl refl
          (seen_two t.word op.Add a a x x (x * (t.word / 8)) c.view holds holds
          (ap Ok (subst (λ n. x * (n / 8) < 2 ^ n → word_add n x x ≡ x * (n / 8)) (sym e) (add_twice_16 x) small)))

      in_32 : t.word ≡ 32 → HasAll t.word m (routine_in t u k) (shaped (shape.Operate op.Add) (on_two a a) ∷ shaped (shape.Operate op.Add) (on_two a a) ∷ []) p q → Ends_with a spare (x * (t.word / 8))
      in_32 e (r, first, rest) =
          let y = word_add t.word x x in
          let d = set_temp t u m k fits _ p r c first i h a (Binary op.Add (Read (Temp a)) (Read (Temp a))) (Some y) refl refl (seen_two t.word op.Add a a x x y c.view holds holds refl) in
          then_again t u m k fits a spare (x * (t.word / 8)) (Some y) r q c d
          (sets_last t u m k fits _ a spare (x * (t.word / 8)) (Binary op.Add (Read (Temp a)) (Read (Temp a))) r q d.point (last_has t u m k fits _ r q rest) d.inside d.at refl refl
          (seen_two t.word op.Add a a y y (x * (t.word / 8)) d.point.view d.fact.temp d.fact.temp
          (ap Ok (subst (λ n. x * (n / 8) < 2 ^ n → word_add n (word_add n x x) (word_add n x x) ≡ x * (n / 8)) (sym e) (add_twice_32 x) small))))

      by_sums : IsWordSize t.word → HasAll t.word m (routine_in t u k) (doubled t.word a) p q → Ends_with a spare (x * (t.word / 8))
      by_sums (inl e) hs = in_16 e (subst (λ n. HasAll t.word m (routine_in t u k) (doubled n a) p q) e hs)
      by_sums (inr e) hs = in_32 e (subst (λ n. HasAll t.word m (routine_in t u k) (doubled n a) p q) e hs)

      by_way : (shifted t.word a spare ≡ way) ⊎ (doubled t.word a ≡ way) → Ends_with a spare (x * (t.word / 8))
      by_way (inl e) = by_shift (subst (λ w. HasAll t.word m (routine_in t u k) w p q) (sym e) all)
      by_way (inr e) = by_sums size (subst (λ w. HasAll t.word m (routine_in t u k) w p q) (sym e) all)
