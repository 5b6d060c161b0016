-- The places of a block.
use Rattle.std.proofs.Common.{◌≡◌, ℕ, suc, ◌+◌, ◌||◌, Bool, true, List, [], ◌∷◌, length, slice_get, Some, refl, ap, ◌∙◌, subst, arith, inl, inr}
use Rattle.std.specs.Prelude.{◌⊎◌}
use Rattle.rtl_tree.specs.declared.cells.Cell.{Cell}
use Rattle.rtl_tree.specs.Same.{same_cell}
use Rattle.rtl_tree.specs.Moves.{Move}
use Rattle.rtl_norm_value.specs.Effect.{with_normal_jump}
use Rattle.temp_machine.specs.Routines.{Exit, Jumps, Branches, BasicBlock, Routine, Target}
use Rattle.temp_machine.specs.Cells.{sets_by, some_set}
use Rattle.temp_machine.specs.Live.{Place, Transfer, End, item_in, item_of, item_at, inside, across, IsLiveAfter}
use Rattle.temp_machine.specs.Flow.{successors}
use Rattle.color_code.specs.Colors.{Seats}
use Rattle.color_holding.specs.Places.{IsPlace, ArePlaces, no_place, a_place}
use Rattle.color_jumps.specs.Jumps.{ReadsLess}
use Rattle.color_jumps.proofs.Reading.{jump_reads_less}
use Rattle.color_table.specs.Tables.{Table, IsExact, behind, IsJump, IsColorable, AreCalm}
use Rattle.color_table.specs.Laws.{BodiesArePlaces, JumpsArePlaces}
use Rattle.color_table.proofs.Standing.{any_is}
use Rattle.color_table.proofs.Tables.{place_of}

-- a jump in normal form sets what the jump sets
jump_sets : (w : ℕ) (p : Cell → Bool) (ms : List Move) → some_set p (with_normal_jump w ms) ≡ some_set p ms
jump_sets w p [] = refl
jump_sets w p (m ∷ ms) = ap (λ b. sets_by p m.to || b) (jump_sets w p ms)

module _ (t : Target) (r : Routine) (colors : List ℕ) (seats : Seats) (live : Table) (owes : IsColorable t r colors seats) (exact : IsExact t r live) (calm : AreCalm t r live) where
  self_less : (ms : List Move) (c : Cell) → ReadsLess ms ms c
  self_less ms c = record { reads = λ e. e; beside_flags = λ e. e; for_flag = λ n e. e }

  in_body : (block at : ℕ) (ms : List Move) → item_at r (record { block = block; at = at }) ≡ Some (Transfer ms)
      → IsPlace t r seats ms ms (live (record { block = block; at = at })) (live (record { block = block; at = suc at }))
  in_body block at ms h =
      place_of t r colors seats owes (record { block = block; at = at }) (Transfer ms) h ms ms refl (self_less ms) (λ c. refl) (λ c. refl) (λ n c. refl) (λ c. refl)
      (live (record { block = block; at = at })) (live (record { block = block; at = suc at })) (exact (record { block = block; at = at }))
      (λ c e. record { next = record { block = block; at = suc at }; goes = inside block at ms h; live = (exact (record { block = block; at = suc at }) c).0 e })
      (owes.straight.stack_in_bodies (record { block = block; at = at }) ms h) (calm.numbers (record { block = block; at = at }) ms h) (calm.quiet block at ms h)

  module _ (block : ℕ) (e : Exit) where
    places_from : (rest : List (List Move)) (k : ℕ) → ((i n : ℕ) → n ≡ k + i → item_at r (record { block = block; at = n }) ≡ item_in rest e i)
        → ArePlaces t r seats rest (live (record { block = block; at = k })) (live (record { block = block; at = k + length rest }))
    places_from [] k h =
        let same : k ≡ k + 0 = omega arith in
        subst (λ (n : ℕ). ArePlaces t r seats [] (live (record { block = block; at = k })) (live (record { block = block; at = n }))) same (no_place (live (record { block = block; at = k })))
    places_from (ms ∷ rest) k h =
        let first : k ≡ k + 0 = omega arith in
        let same : suc k + length rest ≡ k + length (ms ∷ rest) = omega arith in
        subst (λ (n : ℕ). ArePlaces t r seats (ms ∷ rest) (live (record { block = block; at = k })) (live (record { block = block; at = n }))) same
        (a_place ms rest (live (record { block = block; at = k })) (live (record { block = block; at = suc k })) (live (record { block = block; at = suc k + length rest }))
        (in_body block k ms (h 0 k first)) (places_from rest (suc k) (λ i n s. h (suc i) n (omega (arith, s)))))

  -- what is live behind an end
  next_live : (p : Place) (e : Exit) → item_at r p ≡ Some (End e) → (c : Cell) → behind t.word r live p.block c ≡ true → IsLiveAfter t r c p
  next_live p e at c on =
      let h = any_is (λ k. live (record { block = k; at = 0 }) c) (successors t.word r p.block) on in
      record { next = record { block = h.0; at = 0 }; goes = across p.block p.at h.0 e at h.1; live = (exact (record { block = h.0; at = 0 }) c).0 h.2 }

  jump_place : (p : Place) (ms : List Move) → (item_at r p ≡ Some (End (Jumps ms))) ⊎ (item_at r p ≡ Some (End (Branches ms)))
      → IsPlace t r seats ms (with_normal_jump t.word ms) (live p) (behind t.word r live p.block)
  jump_place p ms (inl h) =
      place_of t r colors seats owes p (End (Jumps ms)) h ms (with_normal_jump t.word ms) refl (jump_reads_less t.word ms) (λ c. jump_sets t.word (same_cell c) ms) (λ c. refl) (λ n c. refl) (λ c. refl)
      (live p) (behind t.word r live p.block) (exact p) (next_live p (Jumps ms) h) (owes.straight.stack_in_jumps p ms h)
      (calm.jump_numbers p (Jumps ms) ms h (inl refl)) (calm.jump_quiet p (Jumps ms) ms h (inl refl))
  jump_place p ms (inr h) =
      place_of t r colors seats owes p (End (Branches ms)) h ms (with_normal_jump t.word ms) refl (jump_reads_less t.word ms) (λ c. jump_sets t.word (same_cell c) ms) (λ c. refl) (λ n c. refl) (λ c. refl)
      (live p) (behind t.word r live p.block) (exact p) (next_live p (Branches ms) h) (owes.straight.stack_in_branches p ms h)
      (calm.jump_numbers p (Branches ms) ms h (inr refl)) (calm.jump_quiet p (Branches ms) ms h (inr refl))

  body_places : (k : ℕ) (b : BasicBlock) → slice_get r.blocks k ≡ Some b → ArePlaces t r seats b.body (live (record { block = k; at = 0 })) (live (record { block = k; at = length b.body }))
  body_places k b has =
      let same : 0 + length b.body ≡ length b.body = omega arith in
      subst (λ (n : ℕ). ArePlaces t r seats b.body (live (record { block = k; at = 0 })) (live (record { block = k; at = n }))) same
      (places_from k b.exit b.body 0 (λ i n s.
      let is : n ≡ i = omega (arith, s) in ap (λ o. item_of o n) has ∙ ap (item_in b.body b.exit) is))

pub end_of : (body : List (List Move)) (e : Exit) → item_in body e (length body) ≡ Some (End e)
end_of [] e = refl
end_of (ms ∷ rest) e = end_of rest e

pub bodies_are_places : BodiesArePlaces
bodies_are_places t r colors seats live k b owes exact calm has = body_places t r colors seats live owes exact calm k b has

pub jumps_are_places : JumpsArePlaces
jumps_are_places t r colors seats live k b ms owes exact calm has is =
    jump_place t r colors seats live owes exact calm (record { block = k; at = length b.body }) ms (by is)
  where
    at_end : item_at r (record { block = k; at = length b.body }) ≡ Some (End b.exit)
    at_end = ap (λ o. item_of o (length b.body)) has ∙ end_of b.body b.exit

    by : IsJump b.exit ms → (item_at r (record { block = k; at = length b.body }) ≡ Some (End (Jumps ms))) ⊎ (item_at r (record { block = k; at = length b.body }) ≡ Some (End (Branches ms)))
    by (inl e) = inl (at_end ∙ ap (λ x. Some (End x)) e)
    by (inr e) = inr (at_end ∙ ap (λ x. Some (End x)) e)
