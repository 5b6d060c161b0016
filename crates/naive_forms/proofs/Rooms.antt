-- How many transfers and returns naive code has, and how much room they take.
use Rattle.std.proofs.Common.{◌≡◌, ℕ, suc, ◌+◌, ◌*◌, ◌≤◌, List, [], ◌∷◌, ◌++◌, map, refl, ap, arith}
use Rattle.std.specs.Prelude.{length, sum}
use Rattle.std.specs.List.{AllByRecursion}
use Rattle.std.proofs.Math.Nat.{mul-suc}
use Rattle.std.proofs.lemmas.List.{length-append}
use Rattle.std.proofs.lemmas.List.Sums.{sum_by-cons}
use Rattle.rtl_tree.specs.Moves.{Move}
use Rattle.md_rows.specs.declared.description.RawDescription.{RawDescription}
use Rattle.md_shapes.specs.Shapes.{Frame as Fixed}
use Rattle.temp_machine.specs.Routines.{Exit, Falls, Jumps, Branches, Calls, Returns, BasicBlock, Routine, exit_transfers, block_transfers}
use Rattle.temp_machine.specs.Tidy.{room_of, transfers_of, one_if_return, transfer_count, room}
use Rattle.temp_code.specs.declared.code.Transfer.{Transfer}
use Rattle.temp_code.specs.declared.code.End.{End}
use Rattle.temp_code.specs.declared.code.End.TheVariants.{Return}
use Rattle.temp_code.specs.declared.code.Block.{Block}
use Rattle.temp_code.specs.declared.code.Code.{Code}
use Rattle.temp_code.specs.Routines.{exit_of, block_of, routine_of}
use Rattle.c_tree.specs.declared.typed.Typed.{Typed}
use Rattle.naive_code.specs.Operations.{Stop, Op}
use Rattle.naive_run.specs.Standing.{Shaped}
use Rattle.naive_counts.specs.Counts.{most_at_end, most_with, WaysAreCounted}
use Rattle.naive_builder.specs.Appending.{Emitted, begun, AllMade, IsEnd, falls, jumps, branches, branches_by_flag, calls, leaves, AppendsOne, puts, closes, Appends, nothing, one_more}
use Rattle.naive_builder.specs.Finished.{finished}
use Rattle.naive_forms.specs.Codes.{IsBuilt}
use Rattle.naive_forms.proofs.Tests.{each_append}
use Rattle.naive_forms.proofs.Transfers.{IsKept, IsFormed}
use Rattle.naive_forms.proofs.Tidy.{block_kept}

-- ---- each transfer has the least room

module _ (d : RawDescription) (m : Fixed) (source : Typed) (labels : ℕ → Type 0) (most n : ℕ) where
  transfers_kept : (bs : List BasicBlock) → AllByRecursion (IsFormed d m source labels most n) bs → AllByRecursion (IsKept d m source labels most n) (transfers_of bs)
  transfers_kept [] h = tt
  transfers_kept (b ∷ bs) h =
      each_append (IsKept d m source labels most n) (block_transfers b) (transfers_of bs) (block_kept d m source labels most n b h.0) (transfers_kept bs h.1)

  rooms : (xs : List (List Move)) → AllByRecursion (IsKept d m source labels most n) xs → sum (map room_of xs) ≡ 5 * length xs
  rooms [] h = refl
  rooms (x ∷ xs) h =
      let e = sum_by-cons (λ (k : ℕ). k) (room_of x) (map room_of xs) in let five = h.0.room in let ih = rooms xs h.1 in
      omega (arith, e, five, ih)

  pub room_is : (r : Routine) → AllByRecursion (IsFormed d m source labels most n) r.blocks → room r ≡ 5 * transfer_count r
  room_is r formed = rooms (transfers_of r.blocks) (transfers_kept r.blocks formed)

-- ---- what code takes: five for each transfer, and as much as is said for each return

module _ (c : ℕ) where
  abbrev exit_takes : Exit → ℕ
  exit_takes Falls = 0
  exit_takes (Jumps ms) = 5
  exit_takes (Branches ms) = 5
  exit_takes (Calls ms) = 5
  exit_takes Returns = c

  abbrev takes : List BasicBlock → ℕ
  takes [] = 0
  takes (b ∷ bs) = 5 * length b.body + exit_takes b.exit + takes bs

  abbrev returns_in : List BasicBlock → ℕ
  returns_in bs = sum (map (λ b. one_if_return b.exit) bs)

  exit_is : (e : Exit) (k : ℕ) → exit_takes e + c * k ≡ 5 * length (exit_transfers e) + c * (one_if_return e + k)
  exit_is Falls k = let z : 0 + k ≡ k = omega arith in let e : c * (0 + k) ≡ c * k = ap (λ (i : ℕ). c * i) z in omega (arith, e)
  exit_is (Jumps ms) k = let z : 0 + k ≡ k = omega arith in let e : c * (0 + k) ≡ c * k = ap (λ (i : ℕ). c * i) z in omega (arith, e)
  exit_is (Branches ms) k = let z : 0 + k ≡ k = omega arith in let e : c * (0 + k) ≡ c * k = ap (λ (i : ℕ). c * i) z in omega (arith, e)
  exit_is (Calls ms) k = let z : 0 + k ≡ k = omega arith in let e : c * (0 + k) ≡ c * k = ap (λ (i : ℕ). c * i) z in omega (arith, e)
  exit_is Returns k =
      let z : 1 + k ≡ suc k = omega arith in let e : c * (1 + k) ≡ c * suc k = ap (λ (i : ℕ). c * i) z in let f : c * suc k ≡ c * k + c = mul-suc c k in
      omega (arith, e, f)

  pub takes_is : (bs : List BasicBlock) → takes bs ≡ 5 * length (transfers_of bs) + c * returns_in bs
  takes_is [] = let z : c * 0 ≡ 0 = omega arith in omega (arith, z)
  takes_is (b ∷ bs) =
      let e : returns_in (b ∷ bs) ≡ one_if_return b.exit + returns_in bs = sum_by-cons (λ (k : ℕ). k) (one_if_return b.exit) (map (λ x. one_if_return x.exit) bs) in
      let f : c * returns_in (b ∷ bs) ≡ c * (one_if_return b.exit + returns_in bs) = ap (λ (k : ℕ). c * k) e in
      let g : exit_takes b.exit + c * returns_in bs ≡ 5 * length (exit_transfers b.exit) + c * (one_if_return b.exit + returns_in bs) = exit_is b.exit (returns_in bs) in
      let h : length (block_transfers b ++ transfers_of bs) ≡ length (block_transfers b) + length (transfers_of bs) = length-append (block_transfers b) (transfers_of bs) in
      let i : length (block_transfers b) ≡ length b.body + length (exit_transfers b.exit) = length-append b.body (exit_transfers b.exit) in
      let ih : takes bs ≡ 5 * length (transfers_of bs) + c * returns_in bs = takes_is bs in
      omega (arith, f, g, h, i, ih)

  abbrev block_takes : List Block → ℕ
  block_takes bs = takes (map block_of bs)

  takes_append : (xs ys : List Block) → block_takes (xs ++ ys) ≡ block_takes xs + block_takes ys
  takes_append [] ys = omega arith
  takes_append (x ∷ xs) ys = let e : block_takes (xs ++ ys) ≡ block_takes xs + block_takes ys = takes_append xs ys in omega (arith, e)

  abbrev so_far : Emitted → ℕ
  so_far s = block_takes s.blocks + 5 * length s.body

  whats_long : (ts : List Transfer) → length (map (λ t. t.what) ts) ≡ length ts
  whats_long [] = refl
  whats_long (t ∷ ts) = ap suc (whats_long ts)

  module _ (counted : WaysAreCounted) (d : RawDescription) (m : Fixed) (per : ℕ) (enough : c ≤ 5 * per) where
    as_many : (ss : List Shaped) (ts : List Transfer) → AllMade d m ss ts → length ts ≡ length ss
    as_many [] [] h = refl
    as_many (s ∷ ss) (t ∷ ts) h = ap suc (as_many ss ts h.2)
    as_many [] (t ∷ ts) h = absurd h
    as_many (s ∷ ss) [] h = absurd h

    end_takes : (stop : Stop) (ts : List Transfer) (e : End) → IsEnd d m stop ts e → 5 * length ts + exit_takes (exit_of e) ≤ 5 * most_at_end per stop
    end_takes _ _ _ falls = omega arith
    end_takes _ _ _ leaves = omega (arith, enough)
    end_takes _ _ _ (jumps l t h) = omega arith
    end_takes _ _ _ (branches r a b l t h) = omega arith
    end_takes _ _ _ (branches_by_flag r a b l j compare t g h) = omega arith
    end_takes _ _ _ (calls f t h) = omega arith

    one_takes : (s t : Emitted) (o : Op) (os : List Op) → AppendsOne d m s o t → so_far t + 5 * most_with per os ≤ so_far s + 5 * most_with per (o ∷ os)
    one_takes _ _ _ os (puts s o way ts has made) =
        let e : length (s.body ++ ts) ≡ length s.body + length ts = length-append s.body ts in
        let f : length ts ≡ length way = as_many way ts made in
        let g = counted d.word per o way has in
        omega (arith, e, f, g)
    one_takes _ _ _ os (closes s stop l ts e h) =
        let b : Block = record { label = s.label; body = s.body ++ ts; end = e } in
        let x : block_takes (s.blocks ++ b ∷ []) ≡ block_takes s.blocks + block_takes (b ∷ []) = takes_append s.blocks (b ∷ []) in
        let y : length (map (λ (t : Transfer). t.what) (s.body ++ ts)) ≡ length (s.body ++ ts) = whats_long (s.body ++ ts) in
        let z : length (s.body ++ ts) ≡ length s.body + length ts = length-append s.body ts in
        let g = end_takes stop ts e h in
        omega (arith, x, y, z, g)

    all_take : (s t : Emitted) (os : List Op) → Appends d m s os t → so_far t ≤ so_far s + 5 * most_with per os
    all_take _ _ _ (nothing s) = omega arith
    all_take _ _ _ (one_more s t u o os one rest) =
        let e = all_take t u os rest in let f = one_takes s t o os one in omega (arith, e, f)

    pub built_takes : (label : ℕ) (os : List Op) (code : Code) → IsBuilt d m label os code → takes (routine_of code).blocks ≤ 5 * most_with per os + c
    built_takes label os code h =
        let s = h.emitted in
        let b : Block = record { label = s.label; body = s.body; end = Return } in
        let e : block_takes code.blocks ≡ block_takes (finished s) = ap (λ (bs : List Block). block_takes bs) h.blocks in
        let x : block_takes (finished s) ≡ block_takes s.blocks + block_takes (b ∷ []) = takes_append s.blocks (b ∷ []) in
        let y : length (map (λ (t : Transfer). t.what) s.body) ≡ length s.body = whats_long s.body in
        let g : so_far s ≤ so_far (begun label) + 5 * most_with per os = all_take (begun label) s os h.appends in
        omega (arith, e, x, y, g)
