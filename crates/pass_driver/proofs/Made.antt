-- What stands at a place of a naive code is the transfer of a shape.
use Rattle.std.proofs.Common.{◌≡◌, ℕ, zero, suc, ◌<◌, List, [], ◌∷◌, map, Option, Some, None, ap, ◌∙◌, inl, inr}
use Rattle.std.specs.Prelude.{◌⊎◌, slice_get, All}
use Rattle.std.proofs.lemmas.List.Elements.{All-head, All-tail}
use Rattle.std.proofs.lemmas.Option.{same_Some, none-some}
use Rattle.rtl_tree.specs.Moves.{Move}
use Rattle.md_rows.specs.declared.description.RawDescription.{RawDescription}
use Rattle.md_shapes.specs.declared.patterns.Pattern.TheVariants as shape
use Rattle.md_shapes.specs.Shapes.{Frame}
use Rattle.temp_machine.specs.Routines.{Exit, Jumps, Branches, Calls}
use Rattle.temp_machine.specs.Live.{Place, Item, Transfer as Inside, End as AtEnd, item_in, item_of, item_at}
use Rattle.temp_code.specs.declared.code.Transfer.{Transfer}
use Rattle.temp_code.specs.declared.code.End.{End}
use Rattle.temp_code.specs.declared.code.End.TheVariants.{Fall, Jump, Branch, Call, Return}
use Rattle.temp_code.specs.declared.code.Block.{Block}
use Rattle.temp_code.specs.declared.code.Code.{Code}
use Rattle.temp_code.specs.Realised.{IsRealised, end_transfers, transfers_of, AreRealised}
use Rattle.temp_code.specs.Routines.{exit_of, block_of, routine_of}
use Rattle.color_table.specs.Tables.{IsJump}
use Rattle.naive_run.specs.Standing.{Shaped, shaped, with_label, on_two_to}
use Rattle.naive_builder.specs.Appending.{IsMade, with_function}
use Rattle.naive_units.specs.Transfers.{IsMadeInside, IsBranching, directly, by_flag, IsMadeEnd, IsMadeBlock}
use Rattle.pass_driver.proofs.Lists.{all_left, all_right}

abbrev moves_in : List Move → Item → List Move
moves_in ns (Inside ms) = ms
moves_in ns (AtEnd e) = ns

abbrev exit_in : Exit → Item → Exit
exit_in f (Inside ms) = f
exit_in f (AtEnd e) = e

inside_no_end : {A : Type 0} (ms : List Move) (e : Exit) → Some (Inside ms) ≡ Some (AtEnd e) → A
inside_no_end ms e h = absurd (let k : Some (Inside ms) ≡ Some (AtEnd e) = h in cc)

end_no_inside : {A : Type 0} (ms : List Move) (e : Exit) → Some (AtEnd e) ≡ Some (Inside ms) → A
end_no_inside ms e h = absurd (let k : Some (AtEnd e) ≡ Some (Inside ms) = h in cc)

-- the transfer of a jump, and that of a call
abbrev jump_in : Exit → Option (List Move)
jump_in (Jumps ms) = Some ms
jump_in (Branches ms) = Some ms
jump_in _ = None

abbrev call_in : Exit → Option (List Move)
call_in (Calls ms) = Some ms
call_in _ = None

module _ (d : RawDescription) (frame : Frame) (count : ℕ) where
  -- a transfer of a shape, which an instruction makes
  pub record IsOfShape (ms : List Move) : Type 0 where
    pub transfer : Transfer
    pub what : transfer.what ≡ ms
    pub shape : Shaped
    pub made : IsMade d frame shape transfer
    pub realised : IsRealised d transfer

  -- in a body
  pub record IsInside (ms : List Move) : Type 0 where
    pub transfer : Transfer
    pub what : transfer.what ≡ ms
    pub made : IsMadeInside d frame transfer
    pub realised : IsRealised d transfer

  -- that calls a function
  pub record IsCall (ms : List Move) : Type 0 where
    pub transfer : Transfer
    pub what : transfer.what ≡ ms
    pub callee : ℕ
    pub below : callee < count
    pub made : IsMade d frame (shaped shape.Call (with_function callee)) transfer

  record IsEndAt (e : Exit) : Type 0 where
    end : End
    is : exit_of end ≡ e
    made : IsMadeEnd d frame count end
    realised : All (IsRealised d) (end_transfers end)

  abbrev Realised : Transfer → Type 0
  Realised = IsRealised d

  abbrev AreMade : List Block → Type 0
  AreMade bs = All (IsMadeBlock d frame count) bs

  abbrev HaveRows : List Block → Type 0
  HaveRows bs = All (λ b. All Realised (transfers_of b)) bs

  in_body : (ts : List Transfer) (e : Exit) (k : ℕ) (ms : List Move) → All (IsMadeInside d frame) ts → All Realised ts
      → item_in (map (λ t. t.what) ts) e k ≡ Some (Inside ms) → IsInside ms
  in_body [] e zero ms h r i = end_no_inside ms e i
  in_body [] e (suc k) ms h r i = absurd (none-some (Inside ms) i)
  in_body (t ∷ ts) e zero ms h r i = record {
    transfer = t;
    what = ap (moves_in ms) (same_Some (Inside t.what) (Inside ms) i);
    made = All-head (IsMadeInside d frame) t ts h;
    realised = All-head Realised t ts r;
  }
  in_body (t ∷ ts) e (suc k) ms h r i = in_body ts e k ms (All-tail (IsMadeInside d frame) t ts h) (All-tail Realised t ts r) i

  end_is : (ts : List Transfer) (f : Exit) (k : ℕ) (e : Exit) → item_in (map (λ t. t.what) ts) f k ≡ Some (AtEnd e) → f ≡ e
  end_is [] f zero e i = ap (exit_in f) (same_Some (AtEnd f) (AtEnd e) i)
  end_is [] f (suc k) e i = absurd (none-some (AtEnd e) i)
  end_is (t ∷ ts) f zero e i = inside_no_end t.what e i
  end_is (t ∷ ts) f (suc k) e i = end_is ts f k e i

  inside_of : (bs : List Block) (k at : ℕ) (ms : List Move) → AreMade bs → HaveRows bs → item_of (slice_get (map block_of bs) k) at ≡ Some (Inside ms) → IsInside ms
  inside_of [] k at ms h r i = absurd (none-some (Inside ms) i)
  inside_of (b ∷ bs) zero at ms h r i =
      in_body b.body (exit_of b.end) at ms (All-head (IsMadeBlock d frame count) b bs h).body
      (all_left Realised b.body (end_transfers b.end) (All-head (λ b. All Realised (transfers_of b)) b bs r)) i
  inside_of (b ∷ bs) (suc k) at ms h r i =
      inside_of bs k at ms (All-tail (IsMadeBlock d frame count) b bs h) (All-tail (λ b. All Realised (transfers_of b)) b bs r) i

  end_of : (bs : List Block) (k at : ℕ) (e : Exit) → AreMade bs → HaveRows bs → item_of (slice_get (map block_of bs) k) at ≡ Some (AtEnd e) → IsEndAt e
  end_of [] k at e h r i = absurd (none-some (AtEnd e) i)
  end_of (b ∷ bs) zero at e h r i = record {
    end = b.end;
    is = end_is b.body (exit_of b.end) at e i;
    made = (All-head (IsMadeBlock d frame count) b bs h).end;
    realised = all_right Realised b.body (end_transfers b.end) (All-head (λ b. All Realised (transfers_of b)) b bs r);
  }
  end_of (b ∷ bs) (suc k) at e h r i = end_of bs k at e (All-tail (IsMadeBlock d frame count) b bs h) (All-tail (λ b. All Realised (transfers_of b)) b bs r) i

  one : (t : Transfer) → All Realised (t ∷ []) → IsRealised d t
  one t h = All-head Realised t [] h

  jump_made : (x : End) (ms : List Move) → IsMadeEnd d frame count x → All Realised (end_transfers x) → jump_in (exit_of x) ≡ Some ms → IsOfShape ms
  jump_made Fall ms h r e = absurd (none-some ms e)
  jump_made (Jump t) ms h r e =
      record { transfer = t; what = same_Some t.what ms e; shape = shaped shape.Jump (with_label h.0); made = h.1; realised = one t r }
  jump_made (Branch t) ms h r e = by t (one t r) (same_Some t.what ms e) h
    where
      by : (t : Transfer) → IsRealised d t → t.what ≡ ms → IsBranching d frame t → IsOfShape ms
      by _ r q (directly rel a b l t h) = record { transfer = t; what = q; shape = shaped (shape.Branch rel) (on_two_to a b l); made = h; realised = r }
      by _ r q (by_flag rel a b l j t h) = record { transfer = t; what = q; shape = shaped (shape.BranchByFlag rel j) (on_two_to a b l); made = h; realised = r }
  jump_made (Call t) ms h r e = absurd (none-some ms e)
  jump_made Return ms h r e = absurd (none-some ms e)

  pub call_made : (x : End) (ms : List Move) → IsMadeEnd d frame count x → call_in (exit_of x) ≡ Some ms → IsCall ms
  call_made Fall ms h e = absurd (none-some ms e)
  call_made (Jump t) ms h e = absurd (none-some ms e)
  call_made (Branch t) ms h e = absurd (none-some ms e)
  call_made (Call t) ms h e = record { transfer = t; what = same_Some t.what ms e; callee = h.0; below = h.1; made = h.2 }
  call_made Return ms h e = absurd (none-some ms e)

  module _ (c : Code) (made : AreMade c.blocks) (rows : AreRealised d c) where
    pub inside_at : (p : Place) (ms : List Move) → item_at (routine_of c) p ≡ Some (Inside ms) → IsInside ms
    inside_at p ms i = inside_of c.blocks p.block p.at ms made rows i

    pub jump_at : (p : Place) (e : Exit) (ms : List Move) → item_at (routine_of c) p ≡ Some (AtEnd e) → IsJump e ms → IsOfShape ms
    jump_at p e ms i j =
        let x = end_of c.blocks p.block p.at e made rows i in jump_made x.end ms x.made x.realised (ap jump_in x.is ∙ jump_is j)
      where
        jump_is : (e ≡ Jumps ms) ⊎ (e ≡ Branches ms) → jump_in e ≡ Some ms
        jump_is (inl q) = ap jump_in q
        jump_is (inr q) = ap jump_in q

    pub call_at : (p : Place) (ms : List Move) → item_at (routine_of c) p ≡ Some (AtEnd (Calls ms)) → IsCall ms
    call_at p ms i = let x = end_of c.blocks p.block p.at (Calls ms) made rows i in call_made x.end ms x.made (ap call_in x.is)
