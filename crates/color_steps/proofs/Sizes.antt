-- A coloured routine takes at most the room of the old one.
use Rattle.std.proofs.Common.{◌≡◌, ℕ, suc, ◌+◌, ◌≤◌, List, [], ◌∷◌, ◌++◌, length, map, refl, sym, ap, ◌∙◌, arith}
use Rattle.std.specs.Prelude.{slice_get, MatchOption, IsSomeAnd}
use Rattle.std.specs.List.{sum, fold}
use Rattle.std.proofs.lemmas.List.{length-append}
use Rattle.std.proofs.lemmas.Slice.Zip.{AllZip-left}
use Rattle.std.proofs.lemmas.List.Elements.{length_all_zip}
use Rattle.rtl_tree.specs.Moves.{Move}
use Rattle.temp_machine.specs.Routines.{Exit, BasicBlock, Routine, Target, block_transfers, exit_transfers}
use Rattle.temp_machine.specs.Tidy.{room_of, transfers_of, one_if_return}
use Rattle.color_code.specs.Colors.{Seats}
use Rattle.color_transfer.specs.Colored.{AreColoredParts}
use Rattle.color_transfer.specs.Code.{AreColored, no_transfer, a_transfer, IsColoredExit, falls, jumps, branches, calls, returns, IsColoredBlock}
use Rattle.color_transfer.proofs.Room.{colored_fits}
use Rattle.color_steps.specs.Sizes.{ColoredIsSmall}

sum_from : (a : ℕ) (xs : List ℕ) → fold ◌+◌ a xs ≡ a + sum xs
sum_from a [] = omega arith
sum_from a (x ∷ xs) = let h = sum_from (a + x) xs in let k = sum_from (0 + x) xs in omega (arith, h, k)

sum_one : (x : ℕ) (xs : List ℕ) → sum (x ∷ xs) ≡ x + sum xs
sum_one x xs = let h = sum_from (0 + x) xs in omega (arith, h)

rooms_append : (xs ys : List (List Move)) → sum (map room_of (xs ++ ys)) ≡ sum (map room_of xs) + sum (map room_of ys)
rooms_append [] ys = omega arith
rooms_append (x ∷ xs) ys =
    let h = rooms_append xs ys in
    let a : sum (map room_of (x ∷ (xs ++ ys))) ≡ room_of x + sum (map room_of (xs ++ ys)) = sum_one (room_of x) (map room_of (xs ++ ys)) in
    let b : sum (map room_of (x ∷ xs)) ≡ room_of x + sum (map room_of xs) = sum_one (room_of x) (map room_of xs) in
    a ∙ ap (λ n. room_of x + n) h ∙ sums (room_of x) (sum (map room_of xs)) (sum (map room_of ys)) ∙ ap (λ n. n + sum (map room_of ys)) (sym b)
  where
    sums : (a b c : ℕ) → a + (b + c) ≡ a + b + c
    sums a b c = omega arith

room_one : (ms : List Move) → 1 ≤ room_of ms
room_one ms = omega arith

module _ (t : Target) (r : Routine) (seats : Seats) where
  body_fits : (body new : List (List Move)) → AreColored t r seats body new → length new ≤ sum (map room_of body)
  body_fits body new no_transfer = omega arith
  body_fits body new (a_transfer ms made rest further c cs) =
      let l = length-append made further in
      let h = colored_fits t r seats ms made c in
      let k = body_fits rest further cs in
      let s : sum (map room_of (ms ∷ rest)) ≡ room_of ms + sum (map room_of rest) = sum_one (room_of ms) (map room_of rest) in
      omega (arith, l, h, k, s)

  jump_fits : (ms new : List Move) (loads : List (List Move)) → AreColoredParts t r seats ms loads new [] → length (loads ++ (new ∷ [])) ≤ 0 + room_of ms
  jump_fits ms new loads p = let h = colored_fits t r seats ms (loads ++ (new ∷ [])) (record { loads = loads; middle = new; stores = []; is = refl; parts = p }) in omega (arith, h)

  exit_fits : (e e' : Exit) (loads : List (List Move)) → IsColoredExit t r seats e loads e' → length (loads ++ exit_transfers e') ≤ sum (map room_of (exit_transfers e))
  exit_fits e e' loads falls = omega arith
  exit_fits e e' loads (jumps ms loads' new p) = jump_fits ms new loads p
  exit_fits e e' loads (branches ms loads' new p) = jump_fits ms new loads p
  exit_fits e e' loads (calls ms) = let h = room_one ms in omega (arith, h)
  exit_fits e e' loads returns = omega arith

  same_return : (e e' : Exit) (loads : List (List Move)) → IsColoredExit t r seats e loads e' → one_if_return e' ≡ one_if_return e
  same_return e e' loads falls = refl
  same_return e e' loads (jumps ms loads' new p) = refl
  same_return e e' loads (branches ms loads' new p) = refl
  same_return e e' loads (calls ms) = refl
  same_return e e' loads returns = refl

  block_fits : (b c : BasicBlock) → IsColoredBlock t r seats b c → length (block_transfers c) ≤ sum (map room_of (block_transfers b))
  block_fits b c q =
      let is : length (block_transfers c) ≡ length (q.body ++ q.loads) + length (exit_transfers c.exit) = length-append c.body (exit_transfers c.exit) ∙ ap (λ xs. length xs + length (exit_transfers c.exit)) q.is in
      let l = length-append q.body q.loads in
      let m = length-append q.loads (exit_transfers c.exit) in
      let h = body_fits b.body q.body q.colored in
      let k = exit_fits b.exit c.exit q.loads q.exit in
      let s = rooms_append b.body (exit_transfers b.exit) in
      omega (arith, is, l, m, h, k, s)

  all_fit : (bs cs : List BasicBlock) → ((k : ℕ) → MatchOption (slice_get bs k) (Unit {0}) (λ b. IsSomeAnd (slice_get cs k) (IsColoredBlock t r seats b))) → length bs ≡ length cs
      → length (transfers_of cs) ≤ sum (map room_of (transfers_of bs))
  all_fit [] [] h e = omega arith
  all_fit [] (c ∷ cs) h e = absurd (omega (arith, e))
  all_fit (b ∷ bs) [] h e = absurd (omega (arith, e))
  all_fit (b ∷ bs) (c ∷ cs) h e =
      let f = block_fits b c (h 0) in
      let g = all_fit bs cs (λ k. h (suc k)) (omega (arith, e)) in
      let l = length-append (block_transfers c) (transfers_of cs) in
      let s = rooms_append (block_transfers b) (transfers_of bs) in
      omega (arith, f, g, l, s)

  all_return : (bs cs : List BasicBlock) → ((k : ℕ) → MatchOption (slice_get bs k) (Unit {0}) (λ b. IsSomeAnd (slice_get cs k) (IsColoredBlock t r seats b))) → length bs ≡ length cs
      → sum (map (λ b. one_if_return b.exit) cs) ≡ sum (map (λ b. one_if_return b.exit) bs)
  all_return [] [] h e = refl
  all_return [] (c ∷ cs) h e = absurd (omega (arith, e))
  all_return (b ∷ bs) [] h e = absurd (omega (arith, e))
  all_return (b ∷ bs) (c ∷ cs) h e =
      let f = same_return b.exit c.exit (h 0).loads (h 0).exit in
      let g = all_return bs cs (λ k. h (suc k)) (omega (arith, e)) in
      sum_one (one_if_return c.exit) (map (λ b. one_if_return b.exit) cs) ∙ (λ i. f i + g i) ∙ sym (sum_one (one_if_return b.exit) (map (λ b. one_if_return b.exit) bs))

pub colored_is_small : ColoredIsSmall
colored_is_small t seats old new c =
    record {
      transfers = all_fit t old seats old.blocks new.blocks (AllZip-left _ _ _ c.blocks) (length_all_zip _ _ _ c.blocks);
      returns = all_return t old seats old.blocks new.blocks (AllZip-left _ _ _ c.blocks) (length_all_zip _ _ _ c.blocks);
    }
