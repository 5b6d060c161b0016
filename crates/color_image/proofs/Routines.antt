-- A coloured routine is a sound routine.
use Rattle.std.proofs.Common.{◌≡◌, ◌≢◌, ℕ, ◌+◌, ◌-◌, ◌*◌, ◌/◌, ◌%◌, ◌^◌, ◌<◌, ◌≤◌, Bool, true, List, [], ◌∷◌, length, map, slice_get, Option, Some, None, AllPairs, Contains, refl, sym, ap, ◌∙◌, subst, arith}
use Rattle.std.specs.Prelude.{◌↔◌}
use Rattle.std.specs.List.{list_any}
use Rattle.std.proofs.lemmas.Slice.Zip.{AllZip-left}
use Rattle.std.proofs.lemmas.List.Elements.{length_all_zip}
use Rattle.rtl_tree.specs.declared.cells.Cell.{Cell}
use Rattle.rtl_tree.specs.declared.cells.Cell.TheVariants.{Temp, Pc}
use Rattle.rtl_tree.specs.declared.cells.Lab.TheVariants.{Block}
use Rattle.rtl_tree.specs.Trees.{CodeLabel}
use Rattle.rtl_tree.specs.Same.{same_cell}
use Rattle.rtl_tree.specs.Moves.{Move}
use Rattle.rtl_effect.specs.Effects.{assigned}
use Rattle.rtl_norm_value.specs.Effect.{with_normal_jump}
use Rattle.temp_machine.specs.Routines.{Exit, Jumps, Branches, Calls, BasicBlock, Routine, Target, block_transfers, word_bytes}
use Rattle.temp_machine.specs.Cells.{mentions, uses, is_temporary}
use Rattle.temp_machine.specs.Live.{Place, Transfer, End, item_of, item_at}
use Rattle.temp_machine.specs.Flow.{label_of}
use Rattle.temp_machine.specs.Tidy.{room, transfer_count}
use Rattle.temp_machine.specs.Whole.{HasLabel, IsFinal, IsWhole, IsFramed, IsStraight, outgoing_words}
use Rattle.temp_machine.specs.Units.{IsTarget}
use Rattle.color_code.specs.Colors.{Seats}
use Rattle.color_transfer.specs.Colored.{AreColoredParts}
use Rattle.color_transfer.specs.Code.{IsColoredBlock, IsColoredRoutine}
use Rattle.color_holding.specs.Places.{AreGeneral}
use Rattle.color_holding.proofs.Members.{true_false}
use Rattle.color_table.proofs.Standing.{or_more, mentions_more}
use Rattle.color_table.proofs.Tables.{temp_is}
use Rattle.color_table.proofs.Blocks.{end_of}
use Rattle.color_steps.proofs.Sizes.{colored_is_small}
use Rattle.color_image.specs.Laws.{IsStraightTransfer, HasStraightSpills, HaveSameCalls}
use Rattle.color_image.proofs.Transfers.{jumps_on, label_on, stack_left}
use Rattle.color_image.proofs.Blocks.{none_is_some, Each, each_of, each_item, IsStraightIf, block_straight, end_is, jump_was, branch_was, call_was, final_on, ArePairs, pair_at, label_at, labels_same}

any_more : {A : Type 0} (f g : A → Bool) → ((x : A) → f x ≡ true → g x ≡ true) → (xs : List A) → list_any f xs ≡ true → list_any g xs ≡ true
any_more f g more [] e = e
any_more f g more (x ∷ xs) e = or_more (f x) (list_any f xs) (g x) (list_any g xs) (more x) (any_more f g more xs) e

uses_more : (p q : Cell → Bool) → ((c : Cell) → p c ≡ true → q c ≡ true) → (r : Routine) → uses p r ≡ true → uses q r ≡ true
uses_more p q more r e =
    any_more (λ (b : BasicBlock). list_any (mentions p) (block_transfers b)) (λ (b : BasicBlock). list_any (mentions q) (block_transfers b))
    (λ b. any_more (mentions p) (mentions q) (mentions_more p q more) (block_transfers b)) r.blocks e

at_most : (a b c : ℕ) → a ≤ b → b ≤ c → a ≤ c
at_most a b c p q = omega (arith, p, q)

module _ (t : Target) (seats : Seats) (old new : Routine) (colored : IsColoredRoutine t seats old new) where
  pub length_same : length new.blocks ≡ length old.blocks
  length_same = sym (length_all_zip _ _ _ colored.blocks)

  pairs : ArePairs t old seats old.blocks new.blocks
  pairs = AllZip-left _ _ _ colored.blocks

  -- the old block of a new one
  was : (k : ℕ) (c : BasicBlock) → slice_get new.blocks k ≡ Some c → (b : BasicBlock) × (slice_get old.blocks k ≡ Some b) × IsColoredBlock t old seats b c
  was = pair_at t old seats old.blocks new.blocks pairs (sym length_same)

  labels : map (λ b. b.label) new.blocks ≡ map (λ b. b.label) old.blocks
  labels = labels_same t old seats old.blocks new.blocks pairs (sym length_same)

  pub label_was : (l : ℕ) → HasLabel new l → HasLabel old l
  label_was l h = subst (λ ls. Contains ls l) labels h

  label_is : (l : ℕ) → HasLabel old l → HasLabel new l
  label_is l h = subst (λ ls. Contains ls l) (sym labels) h

  -- ---- what stands at a place

  -- an end of the new code, and the block that it was
  record EndWas (k : ℕ) (e : Exit) : Type 0 where
    pub block : BasicBlock
    pub made : BasicBlock
    pub has : slice_get old.blocks k ≡ Some block
    pub is : made.exit ≡ e
    pub coloring : IsColoredBlock t old seats block made

  end_was : (p : Place) (e : Exit) → item_at new p ≡ Some (End e) → EndWas p.block e
  end_was p e = by (slice_get new.blocks p.block) refl
    where
      by : (x : Option BasicBlock) → slice_get new.blocks p.block ≡ x → item_of x p.at ≡ Some (End e) → EndWas p.block e
      by None s i = none_is_some (End e) i
      by (Some c) s i =
          let b = was p.block c s in
          record { block = b.0; made = c; has = b.1; is = end_is c.body c.exit e p.at i; coloring = b.2 }

  abbrev end_place : ℕ → BasicBlock → Place
  end_place k b = record { block = k; at = length b.body }

  stood : (k : ℕ) (b : BasicBlock) (e : Exit) → slice_get old.blocks k ≡ Some b → b.exit ≡ e → item_at old (end_place k b) ≡ Some (End e)
  stood k b e s q = ap (λ o. item_of o (length b.body)) s ∙ end_of b.body b.exit ∙ ap (λ x. Some (End x)) q

  -- a jump or a branch, as it was
  record JumpWas (made : List Move → Exit) (ns : List Move) : Type 0 where
    pub transfer : List Move
    pub place : Place
    pub stands : item_at old place ≡ Some (End (made transfer))
    pub loads : List (List Move)
    pub parts : AreColoredParts t old seats transfer loads ns []

  jump : (p : Place) (ns : List Move) → item_at new p ≡ Some (End (Jumps ns)) → JumpWas Jumps ns
  jump p ns i =
      let e = end_was p (Jumps ns) i in
      let j = jump_was t old seats e.block.exit e.made.exit e.coloring.loads ns e.coloring.exit e.is in
      record { transfer = j.0; place = end_place p.block e.block; stands = stood p.block e.block (Jumps (j.0)) e.has j.1; loads = e.coloring.loads; parts = j.2 }

  branch : (p : Place) (ns : List Move) → item_at new p ≡ Some (End (Branches ns)) → JumpWas Branches ns
  branch p ns i =
      let e = end_was p (Branches ns) i in
      let j = branch_was t old seats e.block.exit e.made.exit e.coloring.loads ns e.coloring.exit e.is in
      record { transfer = j.0; place = end_place p.block e.block; stands = stood p.block e.block (Branches (j.0)) e.has j.1; loads = e.coloring.loads; parts = j.2 }

  pub call_stood : (p : Place) (ms : List Move) → item_at new p ≡ Some (End (Calls ms)) → (q : Place) × (item_at old q ≡ Some (End (Calls ms)))
  call_stood p ms i =
      let e = end_was p (Calls ms) i in
      let c = call_was t old seats e.block.exit e.made.exit e.coloring.loads ms e.coloring.exit in
      (end_place p.block e.block, stood p.block e.block (Calls ms) e.has (c.0 e.is))

  pub same_calls : HaveSameCalls old new
  same_calls k b c ms s q =
      let d = was k c q in
      let same : d.0 ≡ b = by_some (d.0) b (sym (d.1) ∙ s) in
      subst (λ (x : BasicBlock). (c.exit ≡ Calls ms) ↔ (x.exit ≡ Calls ms)) same (call_was t old seats (d.0).exit c.exit (d.2).loads ms (d.2).exit)
    where
      by_some : (x y : BasicBlock) → Some x ≡ Some y → x ≡ y
      by_some x y e = ap (or_else x) e
        where
          or_else : BasicBlock → Option BasicBlock → BasicBlock
          or_else d (Some b) = b
          or_else d None = d

  pub outgoing_same : outgoing_words t new ≡ outgoing_words t old
  outgoing_same = ap (λ h. (h - word_bytes t * (1 + length t.kept)) / word_bytes t) colored.first_home

  -- ---- the conditions

  module _ (whole : IsWhole t.word old) (fits : room old ≤ 2 ^ 32 - 2) where
    differ : AllPairs (λ b c. b.label ≢ c.label) new.blocks
    differ i j d p q e =
        whole.different i j d p (subst (λ (n : ℕ). j < n) length_same q)
        (sym (label_at t old seats old.blocks new.blocks pairs (sym length_same) i d) ∙ e ∙ label_at t old seats old.blocks new.blocks pairs (sym length_same) j d)

    jumps_well : (p : Place) (ns : List Move) → item_at new p ≡ Some (End (Jumps ns)) → (l : ℕ) × (assigned (with_normal_jump t.word ns) Pc ≡ Some (CodeLabel (Block l))) × HasLabel new l
    jumps_well p ns i =
        let j = jump p ns i in
        let w = whole.jumps j.place j.transfer j.stands in
        (w.0, jumps_on t old seats j.transfer j.loads ns [] j.parts t.word w.0 w.1, label_is w.0 w.2)

    branches_well : (p : Place) (ns : List Move) → item_at new p ≡ Some (End (Branches ns)) → (l : ℕ) × (label_of t.word ns ≡ Some l) × HasLabel new l
    branches_well p ns i =
        let j = branch p ns i in
        let w = whole.branches j.place j.transfer j.stands in
        (w.0, label_on t old seats j.transfer j.loads ns [] j.parts t.word ∙ w.1, label_is w.0 w.2)

    last_well : (c : BasicBlock) → slice_get new.blocks (length new.blocks - 1) ≡ Some c → IsFinal c.exit
    last_well c s =
        let b = was (length new.blocks - 1) c s in
        final_on t old seats (b.0).exit c.exit (b.2).loads (b.2).exit (whole.last b.0 (subst (λ (n : ℕ). slice_get old.blocks (n - 1) ≡ Some (b.0)) length_same b.1))

    pub whole_on : IsWhole t.word new
    whole_on = record {
      has_block = subst (λ (n : ℕ). 0 < n) (sym length_same) whole.has_block;
      different = differ;
      few = at_most (transfer_count new) (room old) (2 ^ 32 - 2) (colored_is_small t seats old new colored).transfers fits;
      jumps = jumps_well;
      branches = branches_well;
      last = last_well;
      homes = λ n e. true_false (sym (uses_more (same_cell (Temp n)) is_temporary (temp_is n) new e) ∙ colored.plain);
    }

  pub framed_on : IsFramed t old → IsFramed t new
  framed_on f = record {
    frame_words = ap (λ n. n % word_bytes t) colored.frame ∙ f.frame_words;
    home_words = ap (λ n. n % word_bytes t) colored.first_home ∙ f.home_words;
    short = subst (λ (n : ℕ). n ≤ 32000) (sym colored.frame) f.short;
    below_homes = subst (λ (n : ℕ). word_bytes t * (3 + length t.kept) ≤ n) (sym colored.first_home) f.below_homes;
    reserve = subst (λ (n : ℕ). 16 ≤ n) (sym colored.slots) f.reserve;
    fits =
        subst (λ (n : ℕ). n + word_bytes t * new.slots ≤ new.frame) (sym colored.first_home)
        (subst (λ (n : ℕ). old.first_home + word_bytes t * n ≤ new.frame) (sym colored.slots)
        (subst (λ (n : ℕ). old.first_home + word_bytes t * old.slots ≤ n) (sym colored.frame) f.fits));
  }

  module _ (target : IsTarget t) (general : AreGeneral t seats) (straight : IsStraight t old) (spills : HasStraightSpills t new) where
    old_straight : (k : ℕ) (b : BasicBlock) → slice_get old.blocks k ≡ Some b → Each (IsStraightTransfer t) b.body
    old_straight k b s =
        each_of (IsStraightTransfer t) b.body b.exit (λ j ms i.
        let at = ap (λ o. item_of o j) s ∙ i in
        record { counter = straight.counter (record { block = k; at = j }) ms at; stack = straight.stack_in_bodies (record { block = k; at = j }) ms at })

    bodies : (p : Place) (ms : List Move) → item_at new p ≡ Some (Transfer ms) → IsStraightTransfer t ms
    bodies p ms i = by (slice_get new.blocks p.block) refl i
      where
        by : (x : Option BasicBlock) → slice_get new.blocks p.block ≡ x → item_of x p.at ≡ Some (Transfer ms) → IsStraightTransfer t ms
        by None s h = none_is_some (Transfer ms) h
        by (Some c) s h =
            let b = was p.block c s in
            each_item (IsStraightIf t old seats target general) c.body c.exit p.at ms
            (block_straight t old seats target general b.0 c b.2 (old_straight p.block b.0 b.1)) h (spills p ms i)

    pub straight_still : IsStraight t new
    straight_still = record {
      stack_in_bodies = λ p ms i. (bodies p ms i).stack;
      stack_in_jumps = λ p ms i. let j = jump p ms i in stack_left t old seats j.transfer j.loads ms [] j.parts target general (straight.stack_in_jumps j.place j.transfer j.stands);
      stack_in_branches = λ p ms i. let j = branch p ms i in stack_left t old seats j.transfer j.loads ms [] j.parts target general (straight.stack_in_branches j.place j.transfer j.stands);
      counter = λ p ms i. (bodies p ms i).counter;
    }
