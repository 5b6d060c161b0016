-- A byte with its sign extended: by one transfer, by shifts, or through the lowest of the outgoing arguments.
use Rattle.std.proofs.Common.{◌≡◌, ◌≢◌, ℕ, zero, suc, ◌+◌, ◌*◌, ◌-◌, ◌%◌, ◌/◌, ◌^◌, ◌<◌, ◌≤◌, ◌⊎◌, inl, inr, List, [], ◌∷◌, ◌++◌, Option, Some, None, Result, Ok, Err, refl, sym, ap, ◌∙◌, subst, arith, true, false}
use Rattle.std.specs.Prelude.{Contains, Bool, nat_le, nat_lt, ◌&&◌, if◌then◌else◌}
use Rattle.std.proofs.lemmas.Bool.Decides.{nat_tests}
use Rattle.std.proofs.lemmas.Int.{ints}
use Rattle.behaviour.specs.Steps.{Comes}
use Rattle.behaviour.proofs.Stepping.{comes_trans}
use Rattle.rtl_word.specs.Words.{IsWordSize, word_shl, word_shr, word_sxb}
use Rattle.rtl_word.proofs.Below.{by_size}
use Rattle.rtl_word.proofs.Bitwise.{sxb_same}
use Rattle.rtl_tree.specs.declared.cells.Cell.TheVariants.{Hard, Temp}
use Rattle.rtl_tree.specs.declared.expressions.Width.TheVariants.{Byte}
use Rattle.rtl_tree.specs.declared.expressions.UnOp.TheVariants.{Sxb}
use Rattle.rtl_tree.specs.declared.expressions.BinOp.TheVariants as op
use Rattle.rtl_tree.specs.Trees.{Tree, Number, Read, Load, Unary, Binary}
use Rattle.rtl_value.specs.declared.state.Trap.TheVariants.{Shift}
use Rattle.rtl_value.specs.Values.{or_trap}
use Rattle.rtl_effect.specs.Views.{View, seen, touched, word_at}
use Rattle.rtl_effect.specs.Effects.{patched}
use Rattle.md_shapes.specs.declared.patterns.Pattern.TheVariants as shape
use Rattle.md_shapes.specs.Shapes.{Frame as Fixed}
use Rattle.temp_machine.specs.Routines.{Image, Target}
use Rattle.temp_machine.specs.Live.{Place}
use Rattle.temp_machine.specs.Small.{Point}
use Rattle.naive_code.specs.Operations.{Extend, on_two, with_number}
use Rattle.naive_run.specs.Standing.{Shaped, shaped, HasShaped, HasAll, One, shifted_twice, stored_and_loaded}
use Rattle.naive_step.proofs.Doing.{M}
use Rattle.naive_step.proofs.Making.{Call, Fits, Shows, Inside, At, routine_in}
use Rattle.naive_step.proofs.Acts.{SetsTemp, Stores, Reached, set_temp, store}
use Rattle.naive_step.proofs.Ways.{UsesUp, three_members, last_has, then_two, then_again, sets_last}
use Rattle.naive_step.proofs.Scaling.{seen_two}
use Rattle.naive_step.proofs.Memory.{back_1}

-- a temporary has a value, a second one is used up, and so may be the byte at one place
pub record Extends (spot a spare x : ℕ) (c d : Point) : Type 0 where
  pub temp : d.view.cells (Temp a) ≡ Some x
  pub others : (n : ℕ) → n ≢ a → n ≢ spare → d.view.cells (Temp n) ≡ c.view.cells (Temp n)
  pub regs : (n : ℕ) → d.view.cells (Hard n) ≡ c.view.cells (Hard n)
  pub bytes : (b : ℕ) → b ≢ spot → d.view.bytes b ≡ c.view.bytes b
  pub input : d.view.input ≡ c.view.input
  pub printed : d.printed ≡ c.printed

shl_up : (w x : ℕ) → IsWordSize w → word_shl w x (w - 8) ≡ Some (x * 2 ^ (w - 8) % 2 ^ w)
shl_up w x z = by_size (λ n. word_shl n x (n - 8) ≡ Some (x * 2 ^ (n - 8) % 2 ^ n)) refl refl w z

shr_down : (w x : ℕ) → IsWordSize w → word_shr w (x * 2 ^ (w - 8) % 2 ^ w) (w - 8) ≡ Some (word_sxb w x)
shr_down w x z =
    by_size (λ n. word_shr n (x * 2 ^ (n - 8) % 2 ^ n) (n - 8) ≡ Some (word_sxb n x)) (ap Some (grind (arith, nat_tests, ints))) (ap Some (grind (arith, nat_tests, ints))) w z

other_byte : (a x b : ℕ) (m : ℕ → Option ℕ) → b ≢ a → patched (Some (record { at = a; count = 1; value = Some x })) m b ≡ m b
other_byte a x b m ne = rw off refl
  where
    off : (nat_le a b && nat_lt b (a + 1)) ≡ false
    off = grind (arith, nat_tests, ne)

module _ (t : Target) (u : Image) (m : Fixed) (k : Call) (fits : Fits t u k) (p q : Place) (c : Point) (i : Inside t u k c) (h : At t u p c) where
  abbrev Ends_with : ℕ → ℕ → ℕ → Type 0
  Ends_with a spare x = Reached t u m k fits q (Extends k.base a spare x c) c

  abbrev All_of : List Shaped → Place → Place → Type 0
  All_of = HasAll t.word m (routine_in t u k)

  from_uses : (a spare x : ℕ) → Reached t u m k fits q (UsesUp a spare x c) c → Ends_with a spare x
  from_uses a spare x r = record {
    point = r.point;
    comes = r.comes;
    inside = r.inside;
    at = r.at;
    fact = record {
      temp = r.fact.temp;
      others = r.fact.others;
      regs = r.fact.regs;
      bytes = λ b ne. r.fact.bytes b;
      input = r.fact.input;
      printed = r.fact.printed;
    };
  }

  pub extend : (a spare x : ℕ) → a ≢ spare → IsWordSize t.word → m.stack ≡ t.sp → c.view.cells (Hard t.sp) ≡ Some k.base → ((v : View) → Shows t u k v → touched 1 v (Some k.base) ≡ Ok k.base)
      → c.view.cells (Temp a) ≡ Some x → One t.word m (routine_in t u k) (Extend a spare) p q → Ends_with a spare (word_sxb t.word x)
  extend a spare x ne size stack_is holds_sp touches holds (way, is, all) = by_way (three_members _ _ _ way is)
    where
      directly : All_of (shaped shape.ExtendByte (on_two a a) ∷ []) p q → Ends_with a spare (word_sxb t.word x)
      directly hs =
          from_uses a spare (word_sxb t.word x) (sets_last t u m k fits _ a spare (word_sxb t.word x) (Unary Sxb (Read (Temp a))) p q c (last_has t u m k fits _ p q hs) i h refl refl (rw holds refl))

      by_shifts : All_of (shifted_twice t.word a spare) p q → Ends_with a spare (word_sxb t.word x)
      by_shifts (r, first, (s, second, rest)) =
          let y = x * 2 ^ (t.word - 8) % 2 ^ t.word in
          let d = set_temp t u m k fits _ p r c first i h spare (Number (t.word - 8)) (Some (t.word - 8)) refl refl refl in
          let e = set_temp t u m k fits _ r s d.point second d.inside d.at a (Binary op.Shl (Read (Temp a)) (Read (Temp spare))) (Some y) refl refl
          (seen_two t.word op.Shl a spare x (t.word - 8) y d.point.view (d.fact.others a ne ∙ holds) d.fact.temp (ap (λ o. or_trap o Shift) (shl_up t.word x size))) in
          from_uses a spare (word_sxb t.word x)
          (then_two t u m k fits a spare (word_sxb t.word x) (Some (t.word - 8)) r q c d
          (then_again t u m k fits a spare (word_sxb t.word x) (Some y) s q d.point e
          (sets_last t u m k fits _ a spare (word_sxb t.word x) (Binary op.Shr (Read (Temp a)) (Read (Temp spare))) s q e.point (last_has t u m k fits _ s q rest) e.inside e.at refl refl
          (seen_two t.word op.Shr a spare y (t.word - 8) (word_sxb t.word x) e.point.view e.fact.temp (e.fact.others spare (λ z. ne (sym z)) ∙ d.fact.temp)
          (ap (λ o. or_trap o Shift) (shr_down t.word x size))))))

      through_memory : All_of (stored_and_loaded a spare) p q → Ends_with a spare (word_sxb t.word x)
      through_memory (r, first, (s, second, rest)) =
          let base_is : c.view.cells (Hard m.stack) ≡ Some k.base = ap (λ n. c.view.cells (Hard n)) stack_is ∙ holds_sp in
          let d = set_temp t u m k fits _ p r c first i h spare (Read (Hard m.stack)) (Some k.base) refl refl (ap Ok base_is) in
          let e = store t u m k fits _ r s d.point second d.inside d.at Byte (Read (Temp spare)) a k.base (Some x) refl (ap Ok d.fact.temp) (d.fact.others a ne ∙ holds)
          (touches d.point.view d.inside.shows) in
          let holds_spare : e.point.view.cells (Temp spare) ≡ Some k.base = e.fact.temps spare ∙ d.fact.temp in
          let byte : word_at e.point.view.bytes k.base 1 ≡ Some (x % 256) = back_1 k.base x d.point.view.bytes e.point.view.bytes e.fact.bytes in
          let same : word_sxb t.word (x % 256) ≡ word_sxb t.word x = sxb_same t.word (x % 256) x (omega arith) in
          let f = sets_last t u m k fits _ a spare (word_sxb t.word x) (Unary Sxb (Load Byte (Read (Temp spare)))) s q e.point (last_has t u m k fits _ s q rest) e.inside e.at refl refl
          (rw (holds_spare, touches e.point.view e.inside.shows, byte) (ap (λ z. Ok (Some z)) same)) in
          record {
            point = f.point;
            comes = comes_trans (M t u) c d.point f.point d.comes (comes_trans (M t u) d.point e.point f.point e.comes f.comes);
            inside = f.inside;
            at = f.at;
            fact = record {
              temp = f.fact.temp;
              others = λ n na ns. f.fact.others n na ns ∙ (e.fact.temps n ∙ d.fact.others n ns);
              regs = λ n. f.fact.regs n ∙ (e.fact.regs n ∙ d.fact.regs n);
              bytes = λ b nb. f.fact.bytes b ∙ (e.fact.bytes b ∙ (other_byte k.base x b d.point.view.bytes nb ∙ d.fact.bytes b));
              input = f.fact.input ∙ (e.fact.input ∙ d.fact.input);
              printed = f.fact.printed ∙ (e.fact.printed ∙ d.fact.printed);
            };
          }

      by_way : ((shaped shape.ExtendByte (on_two a a) ∷ []) ≡ way) ⊎ ((shifted_twice t.word a spare ≡ way) ⊎ (stored_and_loaded a spare ≡ way)) → Ends_with a spare (word_sxb t.word x)
      by_way (inl e) = directly (subst (λ w. All_of w p q) (sym e) all)
      by_way (inr (inl e)) = by_shifts (subst (λ w. All_of w p q) (sym e) all)
      by_way (inr (inr e)) = through_memory (subst (λ w. All_of w p q) (sym e) all)
