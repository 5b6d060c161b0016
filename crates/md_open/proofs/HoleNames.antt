-- The names of holes, one by one.
use Rattle.std.proofs.Common.{◌≡◌, ℕ, ◌+◌, ◌-◌, ◌<◌, ◌≤◌, suc, List, [], ◌∷◌, ◌++◌, length, get_or, take, sym, ap, ◌∙◌, arith, add-one}
use Rattle.std.proofs.lemmas.List.{length-take-le}
use Rattle.std.proofs.Math.Seq.{take-suc}
use Rattle.rtl_tree.specs.declared.cells.Cell.TheVariants.{Hole}
use Rattle.rtl_tree.specs.Trees.{Read}
use Rattle.rtl_spelling.specs.declared.signs.Sign.TheVariants as sign
use Rattle.rtl_spelling.specs.Holes.{Open}
use Rattle.rtl_spelling.specs.Tokens.{Token, Word, Mark}
use Rattle.md_text.specs.Forms.{hole_names, open_from}

-- holes by their names

open_more : (n : ℕ) (names : List (List ℕ)) (name : List ℕ) → open_from n (names ++ name ∷ []) ≡ open_from n names ++ record { name = name; leaf = Read (Hole (n + length names)) } ∷ []
open_more n [] name = let e : n ≡ n + 0 = omega arith in ap (λ k. record { name = name; leaf = Read (Hole k) } ∷ []) e
open_more n (m ∷ names) name =
    let e : suc n + length names ≡ n + suc (length names) = omega arith in
    ap (λ hs. record { name = m; leaf = Read (Hole n) } ∷ hs) (open_more (suc n) names name ∙ ap (λ k. open_from (suc n) names ++ record { name = name; leaf = Read (Hole k) } ∷ []) e)

pub open_pushed : (hs more : List Open) (names : List (List ℕ)) (i : ℕ) (d name : List ℕ) → i < length names → hs ≡ open_from 0 (take i names) → name ≡ get_or names i d → more ≡ hs ++ record { name = name; leaf = Read (Hole i) } ∷ [] → more ≡ open_from 0 (take (i + 1) names)
open_pushed hs more names i d name l h e m =
    let size : 0 + length (take i names) ≡ i = omega (arith, length-take-le i names (omega (arith, l))) in
    let one : take (i + 1) names ≡ take i names ++ name ∷ [] = ap (λ k. take k names) (add-one i) ∙ take-suc names i d l ∙ ap (λ n. take i names ++ n ∷ []) (sym e) in
    m ∙ ap (λ hs. hs ++ record { name = name; leaf = Read (Hole i) } ∷ []) h
    ∙ ap (λ k. open_from 0 (take i names) ++ record { name = name; leaf = Read (Hole k) } ∷ []) (sym size)
    ∙ sym (open_more 0 (take i names) name) ∙ ap (open_from 0) (sym one)

-- no more holes than tokens
pub few_names : (ts : List Token) → length (hole_names ts) ≤ length ts
few_names [] = omega arith
few_names (Mark sign.Less ∷ Word name ∷ ts) = omega (arith, few_names ts)
few_names (t ∷ ts) = omega (arith, few_names ts)
