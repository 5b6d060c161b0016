-- What stands at a place of naive code.
use Rattle.std.proofs.Common.{◌≡◌, ℕ, zero, suc, List, [], ◌∷◌, ◌++◌, Option, Some, None, refl, sym, ap, subst, true, false}
use Rattle.std.specs.Prelude.{Bool, length, slice_get}
use Rattle.std.specs.List.{AllByRecursion}
use Rattle.std.proofs.lemmas.Option.{none-some, same_Some}
use Rattle.rtl_tree.specs.Moves.{Move}
use Rattle.md_rows.specs.declared.description.RawDescription.{RawDescription}
use Rattle.md_shapes.specs.Shapes.{Frame as Fixed}
use Rattle.temp_machine.specs.Routines.{Exit, Falls, BasicBlock, Routine}
use Rattle.temp_machine.specs.Live.{Place, Item, Transfer, End, item_in, item_of, item_at}
use Rattle.c_tree.specs.declared.typed.Typed.{Typed}
use Rattle.naive_forms.proofs.Tests.{unlike, each_at}
use Rattle.naive_forms.proofs.Transfers.{IsBody, Ends, IsFormed}

-- ---- items

abbrev moves_in : Item → List Move
moves_in (Transfer ms) = ms
moves_in (End e) = []

abbrev exit_in : Item → Exit
exit_in (Transfer ms) = Falls
exit_in (End e) = e

abbrev is_transfer : Item → Bool
is_transfer (Transfer ms) = true
is_transfer (End e) = false

pub same_transfer : (a b : List Move) → Some (Transfer a) ≡ Some (Transfer b) → a ≡ b
same_transfer a b e = ap (λ (x : Item). moves_in x) (same_Some (Transfer a) (Transfer b) e)

pub same_end : (a b : Exit) → Some (End a) ≡ Some (End b) → a ≡ b
same_end a b e = ap (λ (x : Item). exit_in x) (same_Some (End a) (End b) e)

pub not_both : (a : List Move) (b : Exit) → Some (Transfer a) ≡ Some (End b) → ⊥
not_both a b e = unlike (ap (λ (x : Item). is_transfer x) (same_Some (Transfer a) (End b) e))

found : (o : Option BasicBlock) (k : ℕ) (x : Item) → item_of o k ≡ Some x → (b : BasicBlock) × (o ≡ Some b) × (item_in b.body b.exit k ≡ Some x)
found (Some b) k x e = (b, refl, e)
found None k x e = absurd (none-some x e)

body_in : (P : List Move → Type 0) (xs : List (List Move)) (e : Exit) (k : ℕ) (ms : List Move) → item_in xs e k ≡ Some (Transfer ms) → AllByRecursion P xs → P ms
body_in P [] e zero ms h all = absurd (not_both ms e (sym h))
body_in P [] e (suc k) ms h all = absurd (none-some (Transfer ms) h)
body_in P (x ∷ xs) e zero ms h all = subst P (same_transfer x ms h) all.0
body_in P (x ∷ xs) e (suc k) ms h all = body_in P xs e k ms h all.1

end_in : (xs : List (List Move)) (e : Exit) (k : ℕ) (f : Exit) → item_in xs e k ≡ Some (End f) → (e ≡ f) × (k ≡ length xs)
end_in [] e zero f h = (same_end e f h, refl)
end_in [] e (suc k) f h = absurd (none-some (End f) h)
end_in (x ∷ xs) e zero f h = absurd (not_both x f h)
end_in (x ∷ xs) e (suc k) f h = let ih = end_in xs e k f h in (ih.0, ap suc ih.1)

-- the last transfer of a body
pub last_in : (xs : List (List Move)) (y : List Move) (e : Exit) → item_in (xs ++ y ∷ []) e (length xs) ≡ Some (Transfer y)
last_in [] y e = refl
last_in (x ∷ xs) y e = last_in xs y e

module _ (d : RawDescription) (m : Fixed) (source : Typed) (labels : ℕ → Type 0) (most n : ℕ) (r : Routine)
    (formed : AllByRecursion (IsFormed d m source labels most n) r.blocks) where
  pub body_at : (p : Place) (ms : List Move) → item_at r p ≡ Some (Transfer ms) → IsBody d m source labels most n ms
  body_at p ms e =
      let f = found (slice_get r.blocks p.block) p.at (Transfer ms) e in
      let b = each_at (IsFormed d m source labels most n) r.blocks p.block f.0 formed f.1 in
      body_in (IsBody d m source labels most n) f.0.body f.0.exit p.at ms f.2 b.body

  -- the end of a block, behind its body
  pub record IsEndAt (p : Place) (x : Exit) : Type 0 where
    pub block : BasicBlock
    pub has : slice_get r.blocks p.block ≡ Some block
    pub behind : p.at ≡ length block.body
    pub ends : Ends d m source labels most n block.body x

  pub end_at : (p : Place) (x : Exit) → item_at r p ≡ Some (End x) → IsEndAt p x
  end_at p x e =
      let f = found (slice_get r.blocks p.block) p.at (End x) e in
      let b = each_at (IsFormed d m source labels most n) r.blocks p.block f.0 formed f.1 in
      let g = end_in f.0.body f.0.exit p.at x f.2 in
      record { block = f.0; has = f.1; behind = g.1; ends = subst (λ (y : Exit). Ends d m source labels most n f.0.body y) g.0 b.ends }
