-- The blocks of a coloured routine beside the old ones.
use Rattle.std.proofs.Common.{◌≡◌, ℕ, zero, suc, ◌==◌, true, List, [], ◌∷◌, ◌++◌, length, map, slice_get, slice_index_or, Option, Some, None, MatchOption, IsSomeAnd, refl, sym, ap, subst, arith, inl, inr}
use Rattle.std.specs.Prelude.{◌↔◌}
use Rattle.std.proofs.lemmas.Bool.{eq-eqb}
use Rattle.rtl_tree.specs.declared.cells.Cell.TheVariants.{Temp}
use Rattle.rtl_tree.specs.Moves.{Move}
use Rattle.temp_machine.specs.Routines.{Exit, Falls, Jumps, Branches, Calls, Returns, BasicBlock, Routine, Target}
use Rattle.temp_machine.specs.Cells.{reads, sets}
use Rattle.temp_machine.specs.Live.{Item, Transfer, End, item_in}
use Rattle.temp_machine.specs.Tidy.{is_among}
use Rattle.temp_machine.specs.Whole.{IsFinal}
use Rattle.temp_machine.specs.Units.{IsTarget}
use Rattle.color_code.specs.Colors.{Seats}
use Rattle.color_spilling.specs.Spilling.{home_offset, AreLoads, no_load, a_load, AreStores, no_store, a_store}
use Rattle.color_transfer.specs.Colored.{AreColoredParts}
use Rattle.color_transfer.specs.Code.{AreColored, no_transfer, a_transfer, IsColoredExit, falls, jumps, branches, calls, returns, IsColoredBlock}
use Rattle.color_holding.specs.Places.{AreGeneral}
use Rattle.color_holding.proofs.Members.{same_some, or_left, or_right}
use Rattle.color_image.specs.Laws.{IsSpill, loads, stores, IsStraightTransfer}
use Rattle.color_image.proofs.Transfers.{in_general, straight_on}

pub none_is_some : {A : Type 0} {B : Type 0} (x : B) → None ≡ Some x → A
none_is_some x e = absurd (let k : None ≡ Some x = e in cc)

-- ---- the transfers of a body

abbrev pub Each : (List Move → Type 0) → List (List Move) → Type 0
Each P [] = Unit {0}
Each P (ms ∷ rest) = P ms × Each P rest

module _ (P : List Move → Type 0) where
  each_append : (xs ys : List (List Move)) → Each P xs → Each P ys → Each P (xs ++ ys)
  each_append [] ys h k = k
  each_append (x ∷ xs) ys h k = (h.0, each_append xs ys h.1 k)

  pub each_of : (xs : List (List Move)) (e : Exit) → ((k : ℕ) (ms : List Move) → item_in xs e k ≡ Some (Transfer ms) → P ms) → Each P xs
  each_of [] e h = tt
  each_of (x ∷ xs) e h = (h 0 x refl, each_of xs e (λ k ms i. h (suc k) ms i))

  pub each_item : (xs : List (List Move)) (e : Exit) (k : ℕ) (ms : List Move) → Each P xs → item_in xs e k ≡ Some (Transfer ms) → P ms
  each_item [] e zero ms h i = absurd (let c : Some (End e) ≡ Some (Transfer ms) = i in cc)
  each_item [] e (suc k) ms h i = none_is_some (Transfer ms) i
  each_item (x ∷ xs) e zero ms h i = subst P (same_moves x ms i) h.0
    where
      moves_in : List Move → Option Item → List Move
      moves_in d (Some (Transfer ns)) = ns
      moves_in d _ = d

      same_moves : (x ms : List Move) → Some (Transfer x) ≡ Some (Transfer ms) → x ≡ ms
      same_moves x ms i = ap (moves_in x) i
  each_item (x ∷ xs) e (suc k) ms h i = each_item xs e k ms h.1 i

module _ (t : Target) (r : Routine) (seats : Seats) (target : IsTarget t) (general : AreGeneral t seats) where
  -- it is straight, where it is if it is a load or a store
  abbrev pub IsStraightIf : List Move → Type 0
  IsStraightIf ms = (IsSpill t ms → IsStraightTransfer t ms) → IsStraightTransfer t ms

  module _ (register : ℕ → ℕ) where
    loads_straight : (ks : List ℕ) (code : List (List Move)) → ((k : ℕ) → is_among k ks ≡ true → t.general (register k) ≡ true) → AreLoads t r register ks code → Each IsStraightIf code
    loads_straight _ _ h no_load = tt
    loads_straight _ _ h (a_load k ks ms rest does more) = (
      λ go. go (loads (register k) (home_offset t r k) (h k (or_left (k == k) (is_among k ks) (eq-eqb k k refl))) does),
      loads_straight ks rest (λ j m. h j (or_right (k == j) (is_among j ks) m)) more,
    )

    stores_straight : (ks : List ℕ) (code : List (List Move)) → ((k : ℕ) → is_among k ks ≡ true → t.general (register k) ≡ true) → AreStores t r register ks code → Each IsStraightIf code
    stores_straight _ _ h no_store = tt
    stores_straight _ _ h (a_store k ks ms rest does more) = (
      λ go. go (stores (register k) (home_offset t r k) (h k (or_left (k == k) (is_among k ks) (eq-eqb k k refl))) does),
      stores_straight ks rest (λ j m. h j (or_right (k == j) (is_among j ks) m)) more,
    )

  module _ (ms : List Move) (before : List (List Move)) (middle : List Move) (behind : List (List Move)) (parts : AreColoredParts t r seats ms before middle behind) where
    before_straight : Each IsStraightIf before
    before_straight =
        loads_straight parts.register parts.operands before
        (λ k m. in_general t r seats ms before middle behind parts target general k (or_left (reads (Temp k) ms) (sets (Temp k) ms) ((parts.at_home.are k).0 m).0)) parts.are_loads

    behind_straight : Each IsStraightIf behind
    behind_straight =
        stores_straight parts.register parts.results behind
        (λ k m. in_general t r seats ms before middle behind parts target general k (or_right (reads (Temp k) ms) (sets (Temp k) ms) ((parts.to_home.are k).0 m).0)) parts.are_stores

    parts_straight : IsStraightTransfer t ms → Each IsStraightIf (before ++ (middle ∷ behind))
    parts_straight s = each_append IsStraightIf before (middle ∷ behind) before_straight ((λ go. straight_on t r seats ms before middle behind parts target general s), behind_straight)

  body_straight : (old new : List (List Move)) → AreColored t r seats old new → Each (IsStraightTransfer t) old → Each IsStraightIf new
  body_straight _ _ no_transfer h = tt
  body_straight _ _ (a_transfer ms made rest further c cs) h =
      each_append IsStraightIf made further (subst (Each IsStraightIf) (sym c.is) (parts_straight ms c.loads c.middle c.stores c.parts h.0)) (body_straight rest further cs h.1)

  end_straight : (e e' : Exit) (before : List (List Move)) → IsColoredExit t r seats e before e' → Each IsStraightIf before
  end_straight e e' before falls = tt
  end_straight e e' before (jumps ms before' new p) = before_straight ms before' new [] p
  end_straight e e' before (branches ms before' new p) = before_straight ms before' new [] p
  end_straight e e' before (calls ms) = tt
  end_straight e e' before returns = tt

  pub block_straight : (b c : BasicBlock) → IsColoredBlock t r seats b c → Each (IsStraightTransfer t) b.body → Each IsStraightIf c.body
  block_straight b c q h =
      subst (Each IsStraightIf) (sym q.is) (each_append IsStraightIf q.body q.loads (body_straight b.body q.body q.colored h) (end_straight b.exit c.exit q.loads q.exit))

-- ---- ends

pub end_is : (body : List (List Move)) (e f : Exit) (k : ℕ) → item_in body e k ≡ Some (End f) → e ≡ f
end_is [] e f zero h = ap (exit_in e) h
  where
    exit_in : Exit → Option Item → Exit
    exit_in d (Some (End x)) = x
    exit_in d _ = d
end_is [] e f (suc k) h = none_is_some (End f) h
end_is (ms ∷ rest) e f zero h = absurd (let c : Some (Transfer ms) ≡ Some (End f) = h in cc)
end_is (ms ∷ rest) e f (suc k) h = end_is rest e f k h

abbrev moves_of : List Move → Exit → List Move
moves_of d (Jumps ms) = ms
moves_of d (Branches ms) = ms
moves_of d _ = d

module _ (t : Target) (r : Routine) (seats : Seats) where
  -- what a jump of the new code was
  pub jump_was : (e e' : Exit) (before : List (List Move)) (new : List Move) → IsColoredExit t r seats e before e' → e' ≡ Jumps new
      → (ms : List Move) × (e ≡ Jumps ms) × AreColoredParts t r seats ms before new []
  jump_was e e' before new falls h = absurd (let k : Falls ≡ Jumps new = h in cc)
  jump_was e e' before new (jumps ms before' made p) h = (ms, refl, subst (λ ns. AreColoredParts t r seats ms before' ns []) (ap (moves_of made) h) p)
  jump_was e e' before new (branches ms before' made p) h = absurd (let k : Branches made ≡ Jumps new = h in cc)
  jump_was e e' before new (calls ms) h = absurd (let k : Calls ms ≡ Jumps new = h in cc)
  jump_was e e' before new returns h = absurd (let k : Returns ≡ Jumps new = h in cc)

  pub branch_was : (e e' : Exit) (before : List (List Move)) (new : List Move) → IsColoredExit t r seats e before e' → e' ≡ Branches new
      → (ms : List Move) × (e ≡ Branches ms) × AreColoredParts t r seats ms before new []
  branch_was e e' before new falls h = absurd (let k : Falls ≡ Branches new = h in cc)
  branch_was e e' before new (jumps ms before' made p) h = absurd (let k : Jumps made ≡ Branches new = h in cc)
  branch_was e e' before new (branches ms before' made p) h = (ms, refl, subst (λ ns. AreColoredParts t r seats ms before' ns []) (ap (moves_of made) h) p)
  branch_was e e' before new (calls ms) h = absurd (let k : Calls ms ≡ Branches new = h in cc)
  branch_was e e' before new returns h = absurd (let k : Returns ≡ Branches new = h in cc)

  pub call_was : (e e' : Exit) (before : List (List Move)) (ms : List Move) → IsColoredExit t r seats e before e' → (e' ≡ Calls ms) ↔ (e ≡ Calls ms)
  call_was e e' before ms falls = (λ h. h, λ h. h)
  call_was e e' before ms (jumps ns before' made p) = (λ h. absurd (let k : Jumps made ≡ Calls ms = h in cc), λ h. absurd (let k : Jumps ns ≡ Calls ms = h in cc))
  call_was e e' before ms (branches ns before' made p) = (λ h. absurd (let k : Branches made ≡ Calls ms = h in cc), λ h. absurd (let k : Branches ns ≡ Calls ms = h in cc))
  call_was e e' before ms (calls ns) = (λ h. h, λ h. h)
  call_was e e' before ms returns = (λ h. h, λ h. h)

  pub final_on : (e e' : Exit) (before : List (List Move)) → IsColoredExit t r seats e before e' → IsFinal e → IsFinal e'
  final_on e e' before falls f = f
  final_on e e' before (jumps ms before' made p) f = inl (made, refl)
  final_on e e' before (branches ms before' made p) f = by f
    where
      by : IsFinal (Branches ms) → IsFinal (Branches made)
      by (inl h) = absurd (let k : Branches ms ≡ Jumps (h.0) = h.1 in cc)
      by (inr h) = absurd (let k : Branches ms ≡ Returns = h in cc)
  final_on e e' before (calls ms) f = f
  final_on e e' before returns f = f

  -- ---- pairs of blocks

  abbrev pub ArePairs : List BasicBlock → List BasicBlock → Type 0
  ArePairs bs cs = (k : ℕ) → MatchOption (slice_get bs k) (Unit {0}) (λ b. IsSomeAnd (slice_get cs k) (IsColoredBlock t r seats b))

  pub pair_at : (bs cs : List BasicBlock) → ArePairs bs cs → length bs ≡ length cs → (k : ℕ) (c : BasicBlock) → slice_get cs k ≡ Some c
      → (b : BasicBlock) × (slice_get bs k ≡ Some b) × IsColoredBlock t r seats b c
  pair_at [] [] h e k c s = none_is_some c s
  pair_at [] (d ∷ ds) h e k c s = absurd (omega (arith, e))
  pair_at (b ∷ bs) [] h e k c s = none_is_some c s
  pair_at (b ∷ bs) (d ∷ ds) h e zero c s = (b, refl, subst (IsColoredBlock t r seats b) (same_some d c s) (h 0))
  pair_at (b ∷ bs) (d ∷ ds) h e (suc k) c s = pair_at bs ds (λ j. h (suc j)) (omega (arith, e)) k c s

  pub label_at : (bs cs : List BasicBlock) → ArePairs bs cs → length bs ≡ length cs → (k : ℕ) (d : BasicBlock) → (slice_index_or cs k d).label ≡ (slice_index_or bs k d).label
  label_at [] [] h e k d = refl
  label_at [] (c ∷ cs) h e k d = absurd (omega (arith, e))
  label_at (b ∷ bs) [] h e k d = absurd (omega (arith, e))
  label_at (b ∷ bs) (c ∷ cs) h e zero d = (h 0).label
  label_at (b ∷ bs) (c ∷ cs) h e (suc k) d = label_at bs cs (λ j. h (suc j)) (omega (arith, e)) k d

  pub labels_same : (bs cs : List BasicBlock) → ArePairs bs cs → length bs ≡ length cs → map (λ b. b.label) cs ≡ map (λ b. b.label) bs
  labels_same [] [] h e = refl
  labels_same [] (c ∷ cs) h e = absurd (omega (arith, e))
  labels_same (b ∷ bs) [] h e = absurd (omega (arith, e))
  labels_same (b ∷ bs) (c ∷ cs) h e =
      let first = (h 0).label in
      let rest = labels_same bs cs (λ j. h (suc j)) (omega (arith, e)) in
      λ i. first i ∷ rest i
