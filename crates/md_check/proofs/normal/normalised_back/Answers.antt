use Rattle.std.proofs.Common.{◌≡◌, ◌++◌, ℕ, List, [], ◌∷◌, map, length, slice_get, Some, sym, subst, ap, ◌∙◌}
use Rattle.md_rows.specs.declared.row.Row.{Row}
use Rattle.md_check.specs.Accepted.{normalised_row}
use Rattle.md_check.specs.Checking.{reversed}
use Rattle.md_check.proofs.Rows.{get_last, get_front, turned_step, map_last}
use Rattle.md_check.proofs.normal.normalised_back.Goals as goal

pub with_normal-requires : goal.with_normal-requires
with_normal-requires g c =
    let e : c.loop-row.rows ≡ c.pop.new.self ++ c.in-Some.row ∷ [] = c.in-Some.ensures in
    record {
      sound = c.loop-row.invariant.sound (length c.pop.new.self) c.in-Some.row
          (subst (λ (xs : List Row). slice_get xs (length c.pop.new.self) ≡ Some c.in-Some.row) (sym e) (get_last c.pop.new.self c.in-Some.row));
    }

pub loop-row-preserved : goal.loop-row-preserved
loop-row-preserved g c =
    let f = normalised_row g.W.Word.BITS in
    let back = c.loop-row.back in
    let left = c.pop.new.self in
    let row = c.in-Some.row in
    let e : c.loop-row.rows ≡ left ++ row ∷ [] = c.in-Some.ensures in
    let p : c.push.new.self ≡ back ++ c.with_normal.result ∷ [] = c.in_ok-push.ensures.ok in
    let q : c.with_normal.result ≡ f row = c.with_normal.ensures in
    record {
      turned = ap (λ (xs : List Row). xs ++ reversed (map f left)) p
          ∙ (ap (λ (x : Row). (back ++ x ∷ []) ++ reversed (map f left)) q
          ∙ (turned_step back (map f left) (f row)
          ∙ (ap (λ (xs : List Row). back ++ reversed xs) (sym (map_last f left row))
          ∙ (ap (λ (xs : List Row). back ++ reversed (map f xs)) (sym e)
          ∙ c.loop-row.invariant.turned))));
      sound = λ i x k. c.loop-row.invariant.sound i x
          (subst (λ (xs : List Row). slice_get xs i ≡ Some x) (sym e) (get_front left (row ∷ []) i x k));
    }
