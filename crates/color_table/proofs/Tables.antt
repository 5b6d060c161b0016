-- A transfer at a place, by a table that is exact there.
use Rattle.std.proofs.Common.{◌≡◌, ℕ, ◌<◌, ◌&&◌, not, Bool, true, false, List, [], ◌∷◌, Some, refl, sym, ap, ◌∙◌, subst, inl, inr}
use Rattle.std.specs.Prelude.{◌⊎◌, ◌↔◌, All}
use Rattle.std.proofs.lemmas.Bool.{eqb-true}
use Rattle.std.proofs.lemmas.Option.{get_or_from_slice_get}
use Rattle.rtl_tree.specs.declared.cells.Cell.{Cell}
use Rattle.rtl_tree.specs.declared.cells.Cell.TheVariants.{Hard, Temp, Flag, Pc, Input, Output, Halt, Hole}
use Rattle.rtl_tree.specs.Same.{same_cell}
use Rattle.rtl_tree.specs.Moves.{Move}
use Rattle.rtl_norm.specs.Transfers.{IsMoveFitting}
use Rattle.temp_machine.specs.Routines.{Falls, Jumps, Branches, Calls, Returns, Routine, Target}
use Rattle.temp_machine.specs.Cells.{sets_by, is_flag, move_reads, reads, sets, some_set, mentions, uses, is_temporary, is_hard_among, has_temporaries, reads_beside_flags, reads_for_flag}
use Rattle.temp_machine.specs.Live.{Place, Item, Transfer, End, item_at, item_reads, item_reads_for, item_sets, IsRead, here as read_here, for_flag as read_for, later as read_later, IsLive, always as always_live, read as read_live, IsLiveAfter, AreLiveAtOnce, both_set, left_set}
use Rattle.temp_machine.specs.Tidy.{transfer_in, HasTransfer}
use Rattle.color_code.specs.Colors.{Seats}
use Rattle.color_holding.specs.Holding.{is_free}
use Rattle.color_holding.specs.Places.{IsOf, IsQuiet, IsPlace}
use Rattle.color_holding.proofs.Members.{false_true, true_false, by_bool, or_left}
use Rattle.color_jumps.specs.Jumps.{ReadsLess}
use Rattle.color_table.specs.Tables.{IsColorable}
use Rattle.color_table.proofs.Standing.{or_more, read_more, some_set_more, mentions_more, is_used}

pub temp_is : (k : ℕ) (c : Cell) → same_cell (Temp k) c ≡ true → is_temporary c ≡ true
temp_is k (Temp j) e = refl
temp_is k (Hard n) e = e
temp_is k (Flag n) e = e
temp_is k Pc e = e
temp_is k Input e = e
temp_is k Output e = e
temp_is k Halt e = e
temp_is k (Hole n) e = e

hard_is : (g : ℕ → Bool) (n : ℕ) → g n ≡ true → (c : Cell) → same_cell (Hard n) c ≡ true → is_hard_among g c ≡ true
hard_is g n on (Hard m) e = ap g (sym (eqb-true n m e)) ∙ on
hard_is g n on (Temp j) e = e
hard_is g n on (Flag m) e = e
hard_is g n on Pc e = e
hard_is g n on Input e = e
hard_is g n on Output e = e
hard_is g n on Halt e = e
hard_is g n on (Hole m) e = e

and_both : {A : Type 0} (b c : Bool) → (b && c) ≡ true → (b ≡ true → c ≡ true → A) → A
and_both true c e f = f refl e
and_both false c e f = false_true e

-- what is read beside flags, or for a flag, is read
beside_less : (c : Cell) (ms : List Move) → reads_beside_flags c ms ≡ true → reads c ms ≡ true
beside_less c [] e = e
beside_less c (m ∷ ms) e =
    or_more (not (sets_by is_flag m.to) && move_reads c m) (reads_beside_flags c ms) (move_reads c m) (reads c ms)
    (λ h. and_both (not (sets_by is_flag m.to)) (move_reads c m) h (λ f g. g)) (beside_less c ms) e

for_less : (n : ℕ) (c : Cell) (ms : List Move) → reads_for_flag n c ms ≡ true → reads c ms ≡ true
for_less n c [] e = e
for_less n c (m ∷ ms) e =
    or_more (sets_by (same_cell (Flag n)) m.to && move_reads c m) (reads_for_flag n c ms) (move_reads c m) (reads c ms)
    (λ h. and_both (sets_by (same_cell (Flag n)) m.to) (move_reads c m) h (λ f g. g)) (for_less n c ms) e

module _ (t : Target) (r : Routine) (colors : List ℕ) (seats : Seats) (owes : IsColorable t r colors seats) where
  -- ---- what stands in the code is the routine's

  of_use : (k : ℕ) → uses (same_cell (Temp k)) r ≡ true → has_temporaries r ≡ true → IsOf r k
  of_use k e has =
      let h = owes.whole.homes k e in
      record { stands = has; home = subst (λ (n : ℕ). n < r.slots) (sym (get_or_from_slice_get r.homes k h.0 0 h.1)) h.2 }

  of_item : (k : ℕ) (p : Place) (x : Item) (ms : List Move) → item_at r p ≡ Some x → transfer_in x ≡ Some ms → mentions (same_cell (Temp k)) ms ≡ true → IsOf r k
  of_item k p x ms at is e =
      of_use k (is_used (same_cell (Temp k)) ms e r p x at is) (is_used is_temporary ms (mentions_more (same_cell (Temp k)) is_temporary (temp_is k) ms e) r p x at is)

  of_read_item : (k : ℕ) (p : Place) (x : Item) → item_at r p ≡ Some x → item_reads t (Temp k) x ≡ true → IsOf r k
  of_read_item k p (Transfer ms) at e = of_item k p (Transfer ms) ms at refl (or_left (reads (Temp k) ms) _ (beside_less (Temp k) ms e))
  of_read_item k p (End (Jumps ms)) at e = of_item k p (End (Jumps ms)) ms at refl (or_left (reads (Temp k) ms) _ (beside_less (Temp k) ms e))
  of_read_item k p (End (Branches ms)) at e = of_item k p (End (Branches ms)) ms at refl (or_left (reads (Temp k) ms) _ (beside_less (Temp k) ms e))
  of_read_item k p (End (Calls ms)) at e = of_item k p (End (Calls ms)) ms at refl (or_left (reads (Temp k) ms) _ (beside_less (Temp k) ms e))
  of_read_item k p (End Falls) at e = false_true e
  of_read_item k p (End Returns) at e = false_true e

  of_flag_item : (k n : ℕ) (p : Place) (x : Item) → item_at r p ≡ Some x → item_reads_for n (Temp k) x ≡ true → IsOf r k
  of_flag_item k n p (Transfer ms) at e = of_item k p (Transfer ms) ms at refl (or_left (reads (Temp k) ms) _ (for_less n (Temp k) ms e))
  of_flag_item k n p (End (Jumps ms)) at e = of_item k p (End (Jumps ms)) ms at refl (or_left (reads (Temp k) ms) _ (for_less n (Temp k) ms e))
  of_flag_item k n p (End (Branches ms)) at e = of_item k p (End (Branches ms)) ms at refl (or_left (reads (Temp k) ms) _ (for_less n (Temp k) ms e))
  of_flag_item k n p (End (Calls ms)) at e = false_true e
  of_flag_item k n p (End Falls) at e = false_true e
  of_flag_item k n p (End Returns) at e = false_true e

  of_read : (k : ℕ) (c : Cell) (p : Place) → c ≡ Temp k → IsRead t r c p → IsOf r k
  of_read k _ _ is (read_here c p x at e) = of_read_item k p x at (ap (λ d. item_reads t d x) (sym is) ∙ e)
  of_read k _ _ is (read_for c n p next x at e goes rest) = of_flag_item k n p x at (ap (λ d. item_reads_for n d x) (sym is) ∙ e)
  of_read k _ _ is (read_later c p next x at e goes rest) = of_read k c next is rest

  pub of_live : (k : ℕ) (p : Place) → IsLive t r (Temp k) p → IsOf r k
  of_live k p (always_live e) = false_true e
  of_live k p (read_live h) = of_read k (Temp k) p refl h

  -- ---- one transfer

  module _ (p : Place) (x : Item) (at : item_at r p ≡ Some x) (ms made : List Move) (is : transfer_in x ≡ Some ms) (less : (c : Cell) → ReadsLess made ms c)
      (same : (c : Cell) → some_set (same_cell c) made ≡ some_set (same_cell c) ms)
      (reads_is : (c : Cell) → item_reads t c x ≡ reads_beside_flags c ms) (reads_for_is : (n : ℕ) (c : Cell) → item_reads_for n c x ≡ reads_for_flag n c ms) (sets_is : (c : Cell) → item_sets t c x ≡ sets c ms)
      (before later : Cell → Bool) (exact : (c : Cell) → (before c ≡ true) ↔ IsLive t r c p) (after : (c : Cell) → later c ≡ true → IsLiveAfter t r c p)
      (stack : sets (Hard t.sp) ms ≡ false) (numbers : All (IsMoveFitting t.word) made) (quiet : IsQuiet t.word later made) where
    has : HasTransfer r p ms
    has = record { item = x; at = at; is = is }

    flag_wanted : (c : Cell) (n : ℕ) → later (Flag n) ≡ true → reads_for_flag n c ms ≡ true → IsLive t r c p
    flag_wanted c n on e = by (after (Flag n) on)
      where
        by : IsLiveAfter t r (Flag n) p → IsLive t r c p
        by a = live a.live
          where
            live : IsLive t r (Flag n) a.next → IsLive t r c p
            live (always_live f) = false_true f
            live (read_live h) = read_live (read_for c n p a.next x at (reads_for_is n c ∙ e) a.goes h)

    still_live : (c : Cell) → sets c ms ≡ false → later c ≡ true → IsLive t r c p
    still_live c s on = by (after c on)
      where
        by : IsLiveAfter t r c p → IsLive t r c p
        by a = live a.live
          where
            live : IsLive t r c a.next → IsLive t r c p
            live (always_live f) = always_live f
            live (read_live h) = read_live (read_later c p a.next x at (sets_is c ∙ s) a.goes h)

    kept : (c : Cell) → sets c made ≡ false → later c ≡ true → before c ≡ true
    kept Input s on = (exact Input).1 (always_live refl)
    kept (Hard n) s on = (exact (Hard n)).1 (still_live (Hard n) (sym (same (Hard n)) ∙ s) on)
    kept (Temp n) s on = (exact (Temp n)).1 (still_live (Temp n) (sym (same (Temp n)) ∙ s) on)
    kept (Flag n) s on = (exact (Flag n)).1 (still_live (Flag n) (sym (same (Flag n)) ∙ s) on)
    kept Pc s on = (exact Pc).1 (still_live Pc (sym (same Pc) ∙ s) on)
    kept Output s on = (exact Output).1 (still_live Output (sym (same Output) ∙ s) on)
    kept Halt s on = (exact Halt).1 (still_live Halt (sym (same Halt) ∙ s) on)
    kept (Hole n) s on = (exact (Hole n)).1 (still_live (Hole n) (sym (same (Hole n)) ∙ s) on)

    at_once : (j k : ℕ) → sets (Temp j) ms ≡ true → (sets (Temp k) ms ≡ true) ⊎ (later (Temp k) ≡ true) → AreLiveAtOnce t r j k
    at_once j k sj (inl sk) = both_set p x at (sets_is (Temp j) ∙ sj) (sets_is (Temp k) ∙ sk)
    at_once j k sj (inr on) = left_set p x at (sets_is (Temp j) ∙ sj) (after (Temp k) on)

    made_mentions : (c : Cell) → mentions (same_cell c) made ≡ true → mentions (same_cell c) ms ≡ true
    made_mentions c e = or_more (reads c made) (some_set (same_cell c) made) (reads c ms) (some_set (same_cell c) ms) (less c).reads (λ f. sym (same c) ∙ f) e

    no_register : (n : ℕ) → is_free t r n ≡ true → mentions (same_cell (Hard n)) made ≡ false
    no_register n f =
        by_bool (mentions (same_cell (Hard n)) made)
        (λ e. and_both (t.general n) (has_temporaries r) f (λ g h.
        true_false (sym (is_used (is_hard_among t.general) ms (mentions_more (same_cell (Hard n)) (is_hard_among t.general) (hard_is t.general n g) ms (made_mentions (Hard n) e)) r p x at is)
        ∙ owes.tidy.registers h)))
        (λ e. e)

    pub place_of : IsPlace t r seats ms made before later
    place_of = record {
      for = record { reads = λ k. (less (Temp k)).reads; sets = λ k. same (Temp k) };
      live = record {
        read = λ c e. (exact c).1 (read_live (read_here c p x at (reads_is c ∙ (less c).beside_flags e)));
        for_flag = λ c n on e. (exact c).1 (flag_wanted c n on ((less c).for_flag n e));
        kept = kept;
      };
      apart = λ j k ne sj on. record { registers = λ c. owes.coloring.differ j k c ne (at_once j k sj on); homes = λ a b. owes.homes j k ne (at_once j k sj on) };
      calm_before = λ k n e. by_bool (before (Flag n)) (λ f. absurd (owes.tidy.before_read p ms n has (read_more (same_cell (Temp k)) is_temporary (temp_is k) ms e) ((exact (Flag n)).0 f))) (λ f. f);
      calm_after = λ k n e. by_bool (later (Flag n)) (λ f. absurd (owes.tidy.after_set p ms n has (some_set_more (same_cell (Temp k)) is_temporary (temp_is k) ms e) (after (Flag n) f))) (λ f. f);
      free = no_register;
      stack = same (Hard t.sp) ∙ stack;
      numbers = numbers;
      quiet = quiet;
      standing = λ k e. of_item k p x ms at is e;
      living = λ k on. of_live k (after (Temp k) on).next (after (Temp k) on).live;
    }
