-- What each block of a code owes that may be coloured.
use Rattle.std.proofs.Common.{◌≡◌, ℕ, zero, suc, Bool, true, List, [], ◌∷◌, ◌++◌, map, slice_get, length, Option, Some, None, All, refl, sym, ap, subst, ◌∙◌}
use Rattle.std.specs.Prelude.{option_map}
use Rattle.std.proofs.lemmas.Bool.{eqb-true}
use Rattle.std.proofs.lemmas.Option.{slice_get-map}
use Rattle.std.proofs.lemmas.List.Elements.{All-nil, All-cons, All-head, All-tail}
use Rattle.rtl_tree.specs.declared.cells.Cell.{Cell}
use Rattle.rtl_tree.specs.declared.cells.Cell.TheVariants.{Hard, Temp, Flag, Pc, Input, Output, Halt, Hole}
use Rattle.rtl_tree.specs.Same.{same_cell}
use Rattle.rtl_tree.specs.Moves.{Move}
use Rattle.md_rows.specs.declared.description.RawDescription.{RawDescription}
use Rattle.md_match.proofs.Apart.{from_at, all_at}
use Rattle.temp_machine.specs.Routines.{Exit, Jumps, Branches, BasicBlock, Routine, Target}
use Rattle.temp_machine.specs.Cells.{reads, sets, is_temporary, is_hard_among}
use Rattle.temp_machine.specs.Live.{Place, Item, Transfer as Stands, End as Ends, item_in, item_of, item_at, item_sets, both_set}
use Rattle.temp_machine.specs.Tidy.{transfer_in}
use Rattle.temp_code.specs.declared.code.Transfer.{Transfer}
use Rattle.temp_code.specs.declared.code.End.{End}
use Rattle.temp_code.specs.declared.code.End.TheVariants.{Fall, Jump, Branch, Call, Return}
use Rattle.temp_code.specs.declared.code.Block.{Block}
use Rattle.temp_code.specs.declared.code.Code.{Code}
use Rattle.temp_code.specs.Realised.{IsRealised, end_transfers, transfers_of}
use Rattle.temp_code.specs.Routines.{routine_of, block_of, exit_of}
use Rattle.color_code.specs.Colors.{Seats}
use Rattle.color_graph.specs.Seats.{seats_in}
use Rattle.color_holding.proofs.Members.{true_false, or_right}
use Rattle.color_table.proofs.Standing.{mentions_more, is_used}
use Rattle.color_table.proofs.Tables.{temp_is}
use Rattle.color_table.proofs.Blocks.{end_of}
use Rattle.color_homes.specs.declared.places.Places.{Places}
use Rattle.color_homes.specs.Putting.{MayBePut, target_in}
use Rattle.reg_color.specs.Codes.{MayBeColored}
use Rattle.reg_color.specs.Putting.{MayStand, MayEnd, MayBeBlock}
use Rattle.reg_color.proofs.Bodies.{what}

hard_is : (g : ℕ → Bool) (n : ℕ) → g n ≡ true → (c : Cell) → same_cell (Hard n) c ≡ true → is_hard_among g c ≡ true
hard_is g n on (Hard m) e = ap g (sym (eqb-true n m e)) ∙ on
hard_is g n on (Temp j) e = e
hard_is g n on (Flag m) e = e
hard_is g n on Pc e = e
hard_is g n on Input e = e
hard_is g n on Output e = e
hard_is g n on Halt e = e
hard_is g n on (Hole m) e = e

item_there : (xs : List Transfer) (e : Exit) (i : ℕ) (x : Transfer) → slice_get xs i ≡ Some x → item_in (map what xs) e i ≡ Some (Stands x.what)
item_there [] e i x h = absurd (let c : None ≡ Some x = h in cc)
item_there (y ∷ ys) e zero x h = ap (λ (o : Option Transfer). by o) h
  where
    by : Option Transfer → Option Item
    by (Some z) = Some (Stands z.what)
    by None = None
item_there (y ∷ ys) e (suc i) x h = item_there ys e i x h

all_left : (P : Transfer → Type 0) (xs ys : List Transfer) → All P (xs ++ ys) → All P xs
all_left P [] ys h = All-nil P
all_left P (x ∷ xs) ys h = All-cons P x xs (All-head P x (xs ++ ys) h) (all_left P xs ys (All-tail P x (xs ++ ys) h))

all_right : (P : Transfer → Type 0) (xs ys : List Transfer) → All P (xs ++ ys) → All P ys
all_right P [] ys h = h
all_right P (x ∷ xs) ys h = all_right P xs ys (All-tail P x (xs ++ ys) h)

module _ (d : RawDescription) (p : Places) (h : MayBeColored d (target_in d p) (seats_in p.seats.now) p.code.now) where
  abbrev t : Target
  t = target_in d p

  abbrev c : Code
  c = p.code.now

  abbrev r : Routine
  r = routine_of c

  abbrev seats : Seats
  seats = seats_in p.seats.now

  module _ (at : Place) (x : Item) (ms : List Move) (stands : item_at r at ≡ Some x) (is : transfer_in x ≡ Some ms) (set : (k : ℕ) → item_sets t (Temp k) x ≡ sets (Temp k) ms) where
    no_register : (n k : ℕ) → t.general n ≡ true → sets (Hard n) ms ≡ true → sets (Temp k) ms ≡ true → ⊥
    no_register n k general hard temp =
        let temporary = is_used is_temporary ms
        (mentions_more (same_cell (Temp k)) is_temporary (temp_is k) ms (or_right (reads (Temp k) ms) (sets (Temp k) ms) temp)) r at x stands is in
        let register = is_used (is_hard_among t.general) ms
        (mentions_more (same_cell (Hard n)) (is_hard_among t.general) (hard_is t.general n general) ms (or_right (reads (Hard n) ms) (sets (Hard n) ms) hard)) r at x stands is in
        true_false (sym register ∙ h.tidy.registers temporary)

    may_be_put : MayBePut t r seats ms
    may_be_put =
        record {
          homes = λ k m. h.sound.whole.homes k (is_used (same_cell (Temp k)) ms m r at x stands is);
          differ = λ i j n ne a b e. h.coloring.differ i j n ne (both_set at x stands (set i ∙ a) (set j ∙ b)) e;
          registers = no_register;
        }

  module _ (k : ℕ) (b : Block) (has : slice_get c.blocks k ≡ Some b) where
    there : slice_get r.blocks k ≡ Some (block_of b)
    there = slice_get-map block_of c.blocks k ∙ ap (option_map block_of) has

    realised : All (IsRealised d) (transfers_of b)
    realised = all_at (λ (b : Block). All (IsRealised d) (transfers_of b)) c.blocks h.realised k b has

    abbrev end_place : Place
    end_place = record { block = k; at = length (map what b.body) }

    end_there : item_at r end_place ≡ Some (Ends (exit_of b.end))
    end_there = ap (λ (o : Option BasicBlock). item_of o (length (map what b.body))) there ∙ end_of (map what b.body) (exit_of b.end)

    one_may_stand : (i : ℕ) (x : Transfer) → slice_get b.body i ≡ Some x → MayStand d p x
    one_may_stand i x e =
        let at : Place = record { block = k; at = i } in
        let stands : item_at r (record { block = k; at = i }) ≡ Some (Stands x.what) =
        ap (λ (o : Option BasicBlock). item_of o i) there ∙ item_there b.body (exit_of b.end) i x e in
        record {
          realised = all_at (IsRealised d) b.body (all_left (IsRealised d) b.body (end_transfers b.end) realised) i x e;
          may = may_be_put (record { block = k; at = i }) (Stands x.what) x.what stands refl (λ j. refl);
          straight =
              record {
                counter = h.sound.straight.counter (record { block = k; at = i }) x.what stands;
                stack = h.sound.straight.stack_in_bodies (record { block = k; at = i }) x.what stands;
              };
        }

    end_realised : (e : End) → b.end ≡ e → All (IsRealised d) (end_transfers e)
    end_realised e is = subst (λ (f : End). All (IsRealised d) (end_transfers f)) is (all_right (IsRealised d) b.body (end_transfers b.end) realised)

    end_stands : (e : End) → b.end ≡ e → item_at r end_place ≡ Some (Ends (exit_of e))
    end_stands e is = end_there ∙ ap (λ (f : End). Some (Ends (exit_of f))) is

    end_may : (e : End) → b.end ≡ e → MayEnd d p e
    end_may Fall is = tt
    end_may (Jump x) is =
        record {
          realised = All-head (IsRealised d) x [] (end_realised (Jump x) is);
          may = may_be_put end_place (Ends (Jumps x.what)) x.what (end_stands (Jump x) is) refl (λ j. refl);
          sets = h.tidy.jumps end_place x.what (end_stands (Jump x) is);
        }
    end_may (Branch x) is =
        record {
          realised = All-head (IsRealised d) x [] (end_realised (Branch x) is);
          may = may_be_put end_place (Ends (Branches x.what)) x.what (end_stands (Branch x) is) refl (λ j. refl);
          sets = h.tidy.branches end_place x.what (end_stands (Branch x) is);
        }
    end_may (Call x) is = record { realised = All-head (IsRealised d) x [] (end_realised (Call x) is); plain = h.calls k b x has is }
    end_may Return is = tt

    block_may : MayBeBlock d p b
    block_may = record { body = from_at (MayStand d p) b.body one_may_stand; end = end_may b.end refl }

  pub blocks_may : All (MayBeBlock d p) c.blocks
  blocks_may = from_at (MayBeBlock d p) c.blocks block_may
