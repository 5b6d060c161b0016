-- Where labels stand first, from the last block back.
use Rattle.std.proofs.Common.{◌≡◌, ℕ, zero, suc, ◌+◌, ◌<◌, Bool, true, false, cond, List, [], ◌∷◌, length, drop, map, Option, Some, None, refl, sym, ap, ◌∙◌, arith, get_or}
use Rattle.std.specs.Prelude.{slice_get, nat_eq, ◌==◌, if◌then◌else◌}
use Rattle.std.specs.Option.{unwrap_or}
use Rattle.std.proofs.lemmas.Option.{none-some, same_Some}
use Rattle.temp_machine.specs.Routines.{BasicBlock}
use Rattle.temp_machine.specs.Machine.{position}
use Rattle.temp_code.specs.declared.code.Block.{Block}
use Rattle.temp_code.specs.Routines.{block_of}

pub drop_at : {A : Type 0} (xs : List A) (i : ℕ) (x : A) → slice_get xs i ≡ Some x → drop i xs ≡ x ∷ drop (suc i) xs
drop_at [] i x e = absurd (none-some x e)
drop_at (y ∷ ys) zero x e = ap (λ z. z ∷ ys) (same_Some y x e)
drop_at (y ∷ ys) (suc i) x e = drop_at ys i x e

chosen : (b : Bool) (at n : ℕ) (o : Option ℕ) → unwrap_or (cond b (Some at) o) n ≡ (if b then at else unwrap_or o n)
chosen true at n o = refl
chosen false at n o = refl

-- with the label of the block before put in
pub position_back : (bs : List BasicBlock) (at n l : ℕ) (b : BasicBlock) (old new : Option ℕ) → slice_get bs at ≡ Some b
    → unwrap_or old n ≡ position (drop (suc at) bs) l (suc at) → new ≡ cond (nat_eq b.label l) (Some at) old
    → unwrap_or new n ≡ position (drop at bs) l at
position_back bs at n l b old new has before update =
    ap (λ (o : Option ℕ). unwrap_or o n) update
    ∙ chosen (b.label == l) at n old
    ∙ ap (λ (k : ℕ). if b.label == l then at else k) before
    ∙ sym (ap (λ (xs : List BasicBlock). position xs l at) (drop_at bs at b has))
