-- The labels of emitted code, and where the block of a label stands.
use Rattle.std.proofs.Common.{◌≡◌, ℕ, suc, ◌+◌, ◌≤◌, Bool, true, false, List, [], ◌∷◌, ◌++◌, map, length, refl, sym, ap, ◌∙◌, arith}
use Rattle.std.specs.Prelude.{◌==◌, if◌then◌else◌, Contains}
use Rattle.std.proofs.lemmas.Bool.Decides.{nat_tests}
use Rattle.std.proofs.lemmas.List.{append_assoc, map-append}
use Rattle.md_rows.specs.declared.description.RawDescription.{RawDescription}
use Rattle.md_shapes.specs.Shapes.{Frame as Fixed}
use Rattle.temp_machine.specs.Machine.{position}
use Rattle.temp_code.specs.declared.code.Block.{Block}
use Rattle.temp_code.specs.Routines.{block_of}
use Rattle.naive_code.specs.Operations.{Op, Make, Meet, Scale, Extend, Close}
use Rattle.naive_run.specs.Standing.{Shaped, ways}
use Rattle.naive_builder.specs.Appending.{Emitted, AppendsOne, puts, closes, Appends, nothing, one_more, opened}
use Rattle.naive_builder.specs.Finished.{finished, times, AreOnce}

abbrev pub labels_in : List Block → List ℕ
labels_in bs = map (λ b. b.label) bs

times_append : (x : ℕ) (xs ys : List ℕ) → times x (xs ++ ys) ≡ times x xs + times x ys
times_append x [] ys = omega arith
times_append x (y ∷ xs) ys = let e : times x (xs ++ ys) ≡ times x xs + times x ys = times_append x xs ys in omega (arith, e)

itself : (n : ℕ) → (n == n) ≡ true
itself n = grind (arith, nat_tests)

if_true : {A : Type 0} (q : Bool) (x y : A) → q ≡ true → (if q then x else y) ≡ x
if_true true x y e = refl
if_true false x y e = absurd cc

not_counted : (q : Bool) (n : ℕ) → (if q then 1 else 0) + n ≡ 0 → (q ≡ false) × (n ≡ 0)
not_counted true n e = absurd (omega (arith, e))
not_counted false n e = (refl, omega (arith, e))

-- a label that stands once stands nowhere before
nowhere_before : (bs : List Block) (b : Block) (rest : List Block) → AreOnce (labels_in (bs ++ (b ∷ rest))) → times b.label (labels_in bs) ≡ 0
nowhere_before bs b rest once =
    let l = b.label in
    let cut : times l (labels_in (bs ++ (b ∷ rest))) ≡ times l (labels_in bs) + times l (labels_in (b ∷ rest)) =
    ap (λ (ls : List ℕ). times l ls) (map-append (λ (x : Block). x.label) bs (b ∷ rest)) ∙ times_append l (labels_in bs) (labels_in (b ∷ rest)) in
    let one : times l (labels_in (b ∷ rest)) ≡ 1 + times l (labels_in rest) = ap (λ (n : ℕ). n + times l (labels_in rest)) (if_true (l == l) 1 0 (itself l)) in
    let most : times l (labels_in (bs ++ (b ∷ rest))) ≤ 1 = once l in
    omega (arith, cut, one, most)

position_from : (bs : List Block) (b : Block) (rest : List Block) (k : ℕ) → times b.label (labels_in bs) ≡ 0
    → position (map block_of (bs ++ (b ∷ rest))) b.label k ≡ k + length bs
position_from [] b rest k e = if_true (b.label == b.label) k _ (itself b.label) ∙ omega arith
position_from (x ∷ bs) b rest k e =
    let h = not_counted (x.label == b.label) (times b.label (labels_in bs)) e in
    let skipped : position (map block_of ((x ∷ bs) ++ (b ∷ rest))) b.label k ≡ position (map block_of (bs ++ (b ∷ rest))) b.label (suc k) =
    ap (λ (q : Bool). if q then k else position (map block_of (bs ++ (b ∷ rest))) b.label (suc k)) h.0 in
    let sum : suc k + length bs ≡ k + suc (length bs) = omega arith in
    skipped ∙ (position_from bs b rest (suc k) h.1 ∙ sum)

-- where each label stands once, that of a block leads to it
pub position_of : (bs : List Block) (b : Block) (rest : List Block) → AreOnce (labels_in (bs ++ (b ∷ rest)))
    → position (map block_of (bs ++ (b ∷ rest))) b.label 0 ≡ length bs
position_of bs b rest once = position_from bs b rest 0 (nowhere_before bs b rest once) ∙ omega arith

module _ (d : RawDescription) (m : Fixed) where
  opens_none : (o : Op) (os : List Op) (way : List Shaped) → Contains (ways d.word o) way → opened (o ∷ os) ≡ opened os
  opens_none (Make p a) os way h = refl
  opens_none (Meet a b) os way h = refl
  opens_none (Scale a b) os way h = refl
  opens_none (Extend a b) os way h = refl
  opens_none (Close stop l) os way h = absurd (omega (arith, h.1))

  one_labels : (s t : Emitted) (o : Op) (os : List Op) → AppendsOne d m s o t
      → labels_in t.blocks ++ (t.label ∷ opened os) ≡ labels_in s.blocks ++ (s.label ∷ opened (o ∷ os))
  one_labels _ _ _ os (puts s o way ts h k) = ap (λ (ls : List ℕ). labels_in s.blocks ++ (s.label ∷ ls)) (sym (opens_none o os way h))
  one_labels _ _ _ os (closes s stop l ts e h) =
      ap (λ (ls : List ℕ). ls ++ (l ∷ opened os)) (map-append (λ (x : Block). x.label) s.blocks _)
      ∙ append_assoc (labels_in s.blocks) (s.label ∷ []) (l ∷ opened os)

  -- the labels are those of the blocks that were there, and those that are opened
  pub labels_of : (s t : Emitted) (os : List Op) → Appends d m s os t → labels_in (finished t) ≡ labels_in s.blocks ++ (s.label ∷ opened os)
  labels_of _ _ _ (nothing s) = map-append (λ (x : Block). x.label) s.blocks _
  labels_of _ _ _ (one_more s t u o os one rest) = labels_of t u os rest ∙ one_labels s t o os one
