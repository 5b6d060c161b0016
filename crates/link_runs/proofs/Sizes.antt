-- A linked program has no more lines than its codes had room.
use Rattle.std.proofs.Common.{◌≡◌, ℕ, suc, ◌+◌, ◌*◌, ◌≤◌, ◌<◌, ◌^◌, List, [], ◌∷◌, map, length, slice_get, Option, Some, None, sym, ap, arith}
use Rattle.std.specs.Prelude.{MatchOption, IsSomeAnd}
use Rattle.std.specs.List.{sum}
use Rattle.std.proofs.lemmas.List.{length-append}
use Rattle.std.proofs.lemmas.List.Elements.{length_all_zip}
use Rattle.std.proofs.lemmas.List.Sums.{sum_by-cons}
use Rattle.std.proofs.lemmas.Slice.Zip.{AllZip-left}
use Rattle.rtl_word.specs.Words.{IsWordSize}
use Rattle.rtl_word.proofs.Below.{by_size}
use Rattle.rtl_tree.specs.Moves.{Move}
use Rattle.md_rows.specs.declared.description.RawDescription.{RawDescription}
use Rattle.md_said.specs.Sound.{SaidIsSound}
use Rattle.asm_program.specs.Rules.{instruction_limit}
use Rattle.temp_machine.specs.Routines.{Exit, Falls, Jumps, Branches, Calls, Returns, Routine, exit_transfers, block_transfers}
use Rattle.temp_machine.specs.Tidy.{room, transfers_of, transfer_count, one_if_return, return_count, padded_room}
use Rattle.temp_code.specs.declared.code.Block.{Block}
use Rattle.temp_code.specs.declared.code.Code.{Code}
use Rattle.temp_code.specs.Routines.{block_of, exit_of, routine_of}
use Rattle.temp_shapes.specs.declared.rows.ShapeRows.{ShapeRows}
use Rattle.temp_shapes.proofs.Roles.{checked_size}
use Rattle.color_steps.specs.Sizes.{IsSmall}
use Rattle.link_code.specs.Linked.{entry, leave, end_lines, program}
use Rattle.link_lines.specs.Glue.{glue_of, job_of}
use Rattle.link_lines.specs.Laws.{CodesAreLinked}
use Rattle.link_lines.specs.Lines.{frame, target, entry_of, block_of_lines, blocks_lines, lines_of_code, lines_of_codes}
use Rattle.link_runs.specs.Sizes.{ProgramIsShort, rooms, RoomsAreEnough}

-- places are words

below_limit : (w n : ℕ) → IsWordSize w → n ≤ instruction_limit w → n < 2 ^ w
below_limit w n size = by_size (λ v. n ≤ instruction_limit v → n < 2 ^ v) (λ h. omega (arith, h)) (λ h. omega (arith, h)) w size

pub short : SaidIsSound → ProgramIsShort
short sound w d n c h = below_limit d.word n (checked_size w d sound c) h

module _ (d : RawDescription) (t : ShapeRows) where
  -- an entry has at most two lines, a return three
  entry_short : (z : Option ℕ) (r : Routine) → length (entry (target d t) (glue_of d t) z r) ≤ 2
  entry_short (Some z) r = omega arith
  entry_short None r = omega arith

  leave_short : (z : Option ℕ) (r : Routine) → length (leave (target d t) (glue_of d t) z r) ≤ 3
  leave_short (Some z) r = omega arith
  leave_short None r = omega arith

  end_short : (r : Routine) (e : Exit) → length (end_lines (target d t) (glue_of d t) (frame d t).link r e) ≤ length (exit_transfers e) + 3 * one_if_return e
  end_short r Falls = omega arith
  end_short r (Jumps ms) = omega arith
  end_short r (Branches ms) = omega arith
  end_short r (Calls ms) = omega arith
  end_short r Returns = let h = leave_short (frame d t).link r in omega (arith, h)

  module _ (c : Code) where
    abbrev returns : List Block → ℕ
    returns bs = sum (map (λ b. one_if_return b.exit) (map block_of bs))

    block_short : (b : Block) → length (block_of_lines d t c b) ≤ length (block_transfers (block_of b)) + 3 * one_if_return (exit_of b.end)
    block_short b =
        let l = length-append (block_of b).body (end_lines (target d t) (glue_of d t) (frame d t).link (routine_of c) (exit_of b.end)) in
        let m = length-append (block_of b).body (exit_transfers (exit_of b.end)) in
        let h = end_short (routine_of c) (exit_of b.end) in
        omega (arith, l, m, h)

    blocks_short : (bs : List Block) → length (blocks_lines d t c bs) ≤ length (transfers_of (map block_of bs)) + 3 * returns bs
    blocks_short [] = omega arith
    blocks_short (b ∷ bs) =
        let l = length-append (block_of_lines d t c b) (blocks_lines d t c bs) in
        let m = length-append (block_transfers (block_of b)) (transfers_of (map block_of bs)) in
        let s : returns (b ∷ bs) ≡ one_if_return (exit_of b.end) + returns bs =
        sum_by-cons (λ n. n) (one_if_return (exit_of b.end)) (map (λ b. one_if_return b.exit) (map block_of bs)) in
        let h = block_short b in
        let k = blocks_short bs in
        omega (arith, l, m, s, h, k)

    code_short : length (lines_of_code d t c) ≤ transfer_count (routine_of c) + 3 * return_count (routine_of c) + 2
    code_short =
        let l = length-append (entry_of d t c) (blocks_lines d t c c.blocks) in
        let e = entry_short (frame d t).link (routine_of c) in
        let h = blocks_short c.blocks in
        omega (arith, l, e, h)

    fits : (b : Code) → IsSmall (routine_of b) (routine_of c) → length (lines_of_code d t c) ≤ padded_room (target d t) (routine_of b)
    fits b small = sums (length (lines_of_code d t c)) (transfer_count (routine_of c)) (room (routine_of b)) (return_count (routine_of c)) (return_count (routine_of b)) code_short small.transfers small.returns
      where
        sums : (l n m x y : ℕ) → l ≤ n + 3 * x + 2 → n ≤ m → x ≡ y → l ≤ m + 4 * (1 + y)
        sums l n m x y h k e = omega (arith, h, k, e)

  all_fit : (bs cs : List Code) → ((k : ℕ) → MatchOption (slice_get bs k) (Unit {0}) (λ b. IsSomeAnd (slice_get cs k) (λ c. IsSmall (routine_of b) (routine_of c))))
      → length bs ≡ length cs → length (lines_of_codes d t cs) ≤ rooms (target d t) bs
  all_fit [] [] h e = omega arith
  all_fit [] (c ∷ cs) h e = absurd (omega (arith, e))
  all_fit (b ∷ bs) [] h e = absurd (omega (arith, e))
  all_fit (b ∷ bs) (c ∷ cs) h e =
      let f = fits c b (h 0) in
      let g = all_fit bs cs (λ k. h (suc k)) (omega (arith, e)) in
      let l = length-append (lines_of_code d t c) (lines_of_codes d t cs) in
      omega (arith, f, g, l)

pub enough : CodesAreLinked → RoomsAreEnough
enough linked d t old u apart small =
    let h = all_fit d t old u.codes (AllZip-left (λ b c. IsSmall (routine_of b) (routine_of c)) old u.codes small)
    (length_all_zip (λ b c. IsSmall (routine_of b) (routine_of c)) old u.codes small) in
    let is : length (program (job_of d t u)) ≡ suc (suc (suc (length (lines_of_codes d t u.codes)))) =
    sym (ap (λ (xs : List (List Move)). length xs) (linked d t u apart).lines) in
    omega (arith, h, is)
