-- The naive code of a function is whole: labels differ, jumps go to its labels, its last block returns, and each temporary has a home.
use Rattle.std.proofs.Common.{◌≡◌, ◌≢◌, inr, ℕ, suc, ◌+◌, ◌-◌, ◌^◌, ◌<◌, ◌≤◌, List, [], ◌∷◌, ◌++◌, map, Some, refl, sym, ap, subst, ◌∙◌, arith, true, false}
use Rattle.std.specs.Prelude.{Bool, ◌==◌, if◌then◌else◌, length, slice_get, get_or, All, AllPairs, Contains}
use Rattle.std.specs.List.{AllByRecursion}
use Rattle.std.proofs.lemmas.Option.{slice_get-get_or, same_Some}
use Rattle.std.proofs.lemmas.List.{append_assoc, map-append}
use Rattle.std.proofs.lemmas.List.Elements.{All-from_recursion, All-get_or}
use Rattle.std.proofs.lemmas.List.Kept.{AllPairs-cons}
use Rattle.md_rows.specs.declared.description.RawDescription.{RawDescription}
use Rattle.md_shapes.specs.Shapes.{Frame as Fixed}
use Rattle.temp_machine.specs.Routines.{Jumps, Branches, BasicBlock}
use Rattle.temp_machine.specs.Tidy.{transfer_count}
use Rattle.temp_machine.specs.Whole.{HasLabel, IsFinal, IsWhole}
use Rattle.temp_code.specs.declared.code.Block.{Block}
use Rattle.temp_code.specs.declared.code.End.TheVariants.{Return}
use Rattle.temp_code.specs.declared.code.Code.{Code}
use Rattle.temp_code.specs.Routines.{block_of, routine_of}
use Rattle.c_tree.specs.declared.typed.Typed.{Typed}
use Rattle.naive_code.specs.Operations.{Op, Make, Meet, Scale, Extend, Close}
use Rattle.naive_run.specs.Standing.{Shaped, ways}
use Rattle.naive_builder.specs.Appending.{Emitted, begun, AppendsOne, puts, closes, Appends, nothing, one_more, opened}
use Rattle.naive_builder.specs.Finished.{finished, times, AreOnce}
use Rattle.naive_forms.specs.Codes.{IsBuilt}
use Rattle.naive_forms.proofs.Tests.{unequal}
use Rattle.naive_forms.proofs.Transfers.{IsFormed}
use Rattle.naive_forms.proofs.Places.{end_at}
use Rattle.naive_forms.proofs.Tidy.{names_below}

-- ---- labels

abbrev basic_labels : List BasicBlock → List ℕ
basic_labels bs = map (λ b. b.label) bs

abbrev labels_in : List Block → List ℕ
labels_in bs = map (λ b. b.label) bs

module _ (d : RawDescription) (m : Fixed) where
  opens_none : (o : Op) (os : List Op) (way : List Shaped) → Contains (ways d.word o) way → opened (o ∷ os) ≡ opened os
  opens_none (Make p a) os way h = refl
  opens_none (Meet a b) os way h = refl
  opens_none (Scale a b) os way h = refl
  opens_none (Extend a b) os way h = refl
  opens_none (Close stop l) os way h = absurd (omega (arith, h.1))

  one_labels : (s t : Emitted) (o : Op) (os : List Op) → AppendsOne d m s o t
      → labels_in t.blocks ++ (t.label ∷ opened os) ≡ labels_in s.blocks ++ (s.label ∷ opened (o ∷ os))
  one_labels _ _ _ os (puts s o way ts h k) = ap (λ (ls : List ℕ). labels_in s.blocks ++ (s.label ∷ ls)) (sym (opens_none o os way h))
  one_labels _ _ _ os (closes s stop l ts e h) =
      ap (λ (ls : List ℕ). ls ++ (l ∷ opened os)) (map-append (λ (x : Block). x.label) s.blocks _)
      ∙ append_assoc (labels_in s.blocks) (s.label ∷ []) (l ∷ opened os)

  -- the labels are those of the blocks that were there, and those that are opened
  labels_of : (s t : Emitted) (os : List Op) → Appends d m s os t → labels_in (finished t) ≡ labels_in s.blocks ++ (s.label ∷ opened os)
  labels_of _ _ _ (nothing s) = map-append (λ (x : Block). x.label) s.blocks _
  labels_of _ _ _ (one_more s t u o os one rest) = labels_of t u os rest ∙ one_labels s t o os one

same_labels : (bs : List Block) → basic_labels (map block_of bs) ≡ labels_in bs
same_labels [] = refl
same_labels (b ∷ bs) = ap (λ (ls : List ℕ). b.label ∷ ls) (same_labels bs)

not_counted : (q : Bool) (k : ℕ) → (if q then 1 else 0) + k ≡ 0 → (q ≡ false) × (k ≡ 0)
not_counted true k e = absurd (omega (arith, e))
not_counted false k e = (refl, omega (arith, e))

absent : (x : ℕ) (bs : List BasicBlock) → times x (basic_labels bs) ≡ 0 → AllByRecursion (λ b. x ≢ b.label) bs
absent x [] e = tt
absent x (b ∷ bs) e =
    let h = not_counted (b.label == x) (times x (basic_labels bs)) e in
    ((λ same. unequal b.label x h.0 (sym same)), absent x bs h.1)

counted_itself : (x : ℕ) (ls : List ℕ) → times x (x ∷ ls) ≡ 1 + times x ls
counted_itself x ls = by (x == x) refl
  where
    by : (q : Bool) → (x == x) ≡ q → (if q then 1 else 0) + times x ls ≡ 1 + times x ls
    by true e = refl
    by false e = absurd (unequal x x e refl)

pub once_pairs : (bs : List BasicBlock) → AreOnce (basic_labels bs) → AllPairs (λ b c. b.label ≢ c.label) bs
once_pairs [] once = λ i j e lt le. absurd (omega (arith, le))
once_pairs (b ∷ bs) once =
    let one = once b.label in let e = counted_itself b.label (basic_labels bs) in
    let none : times b.label (basic_labels bs) ≡ 0 = omega (arith, one, e) in
    AllPairs-cons (λ b c. b.label ≢ c.label) b bs
    (All-from_recursion (λ c. b.label ≢ c.label) bs (absent b.label bs none))
    (once_pairs bs (λ x. let h = once x in omega (arith, h)))

-- ---- the last block

last_block : (bs : List Block) (b : Block) → slice_get (map block_of (bs ++ b ∷ [])) (length bs) ≡ Some (block_of b)
last_block [] b = refl
last_block (x ∷ bs) b = last_block bs b

count_blocks : (bs : List Block) (b : Block) → length (map block_of (bs ++ b ∷ [])) ≡ suc (length bs)
count_blocks [] b = refl
count_blocks (x ∷ bs) b = ap suc (count_blocks bs b)

module _ (d : RawDescription) (m : Fixed) (kept : List ℕ) (source : Typed) (label : ℕ) (os : List Op) (c : Code) (built : IsBuilt d m label os c) where
  abbrev own : List ℕ
  own = label ∷ opened os

  -- the labels of the blocks are the first one and those that are opened
  pub labels_are : basic_labels (routine_of c).blocks ≡ own
  labels_are = same_labels c.blocks ∙ (ap (λ (bs : List Block). labels_in bs) built.blocks ∙ labels_of d m (begun label) built.emitted os built.appends)

  has_own : (l : ℕ) → Contains own l → HasLabel (routine_of c) l
  has_own l h = subst (λ (ls : List ℕ). Contains ls l) (sym labels_are) h

  abbrev last : Block
  last = record { label = built.emitted.label; body = built.emitted.body; end = Return }

  blocks_are : (routine_of c).blocks ≡ map block_of (built.emitted.blocks ++ last ∷ [])
  blocks_are = ap (λ (bs : List Block). map block_of bs) built.blocks

  pub some_block : 0 < length (routine_of c).blocks
  some_block =
      let e : length (routine_of c).blocks ≡ length (map block_of (built.emitted.blocks ++ last ∷ [])) = ap (λ (bs : List BasicBlock). length bs) blocks_are in
      let f = count_blocks built.emitted.blocks last in
      omega (arith, e, f)

  last_returns : (b : BasicBlock) → slice_get (routine_of c).blocks (length (routine_of c).blocks - 1) ≡ Some b → IsFinal b.exit
  last_returns b h =
      let e : length (routine_of c).blocks ≡ length (map block_of (built.emitted.blocks ++ last ∷ [])) = ap (λ (bs : List BasicBlock). length bs) blocks_are in
      let f = count_blocks built.emitted.blocks last in
      let k : length (routine_of c).blocks - 1 ≡ length built.emitted.blocks = omega (arith, e, f) in
      let at : slice_get (routine_of c).blocks (length (routine_of c).blocks - 1) ≡ Some (block_of last) =
      ap (λ (i : ℕ). slice_get (routine_of c).blocks i) k
      ∙ (ap (λ (bs : List BasicBlock). slice_get bs (length built.emitted.blocks)) blocks_are ∙ last_block built.emitted.blocks last) in
      let same : block_of last ≡ b = same_Some (block_of last) b (sym at ∙ h) in
      subst (λ (x : BasicBlock). IsFinal x.exit) same (inr refl)

  module _ (most : ℕ) (once : AreOnce own) (homes : All (λ h. h < c.slots) c.homes) (few : transfer_count (routine_of c) ≤ 2 ^ 32 - 2)
      (formed : AllByRecursion (IsFormed d m source (Contains own) most (length c.homes)) (routine_of c).blocks) where
    home_of : (i : ℕ) → i < length c.homes → (h : ℕ) × (slice_get c.homes i ≡ Some h) × (h < c.slots)
    home_of i lt = (get_or c.homes i 0, slice_get-get_or c.homes i 0 lt, All-get_or (λ h. h < c.slots) c.homes i 0 lt homes)

    pub is_whole : IsWhole d.word (routine_of c)
    is_whole = record {
      has_block = some_block;
      different = once_pairs (routine_of c).blocks (subst (λ (ls : List ℕ). AreOnce ls) (sym labels_are) once);
      few = few;
      jumps = λ p ms e.
          let h = (end_at d m source (Contains own) most (length c.homes) (routine_of c) formed p (Jumps ms) e).ends in
          (h.label, h.goes, has_own h.label h.own);
      branches = λ p ms e.
          let h = (end_at d m source (Contains own) most (length c.homes) (routine_of c) formed p (Branches ms) e).ends in
          (h.label, h.goes, has_own h.label h.own);
      last = last_returns;
      homes = λ i e. home_of i (names_below d m kept source (Contains own) most (length c.homes) (routine_of c) formed i e);
    }
