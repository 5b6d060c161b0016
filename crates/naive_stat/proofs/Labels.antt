-- The labels of cases.
use Rattle.std.proofs.Common.{◌≡◌, ℕ, ◌+◌, ◌<◌, List, [], ◌∷◌, ◌++◌, length, drop, get_or, map, Option, refl, sym, ap, ◌∙◌, append_assoc, arith}
use Rattle.std.proofs.lemmas.List.{map-append}
use Rattle.c_tree.specs.declared.typed.Object.{Object}
use Rattle.c_tree.specs.declared.typed.Stat.{Stat}
use Rattle.naive_code.specs.Expressions.{Site}
use Rattle.naive_code.specs.Statements.{Steps, labelled, shifted, steps_of}
use Rattle.naive_expr.proofs.Gathering.{next_item}
use Rattle.naive_stat.specs.declared.cases.Case.{Case}
use Rattle.naive_stat.specs.Cases.{case_of, cases_of, placed}
use Rattle.naive_stat.specs.Runs.{block_steps}

shift_twice : (m n : ℕ) (x : Option ℕ × ℕ) → shifted m (shifted n x) ≡ shifted (m + n) x
shift_twice m n (v, k) = let same : (k + n) + m ≡ k + (m + n) = omega arith in ap (λ i. (v, i)) same

pub placed_twice : (m n : ℕ) (cs : List (Option ℕ × ℕ)) → placed m (map (shifted n) cs) ≡ placed (m + n) cs
placed_twice m n [] = refl
placed_twice m n (x ∷ cs) = ap (λ y. y ∷ placed m (map (shifted n) cs)) (shift_twice m n x) ∙ ap (λ ys. shifted (m + n) x ∷ ys) (placed_twice m n cs)

pub placed_append : (m : ℕ) (cs ds : List (Option ℕ × ℕ)) → placed m (cs ++ ds) ≡ placed m cs ++ placed m ds
placed_append m [] ds = refl
placed_append m (x ∷ cs) ds = ap (λ ys. shifted m x ∷ ys) (placed_append m cs ds)

module _ (c : Site) (locals : List Object) where
  -- the cases of a labelled statement: its own label, and those that it sees
  pub labelled_cases : (v : Option ℕ) (p : Steps) (label now : ℕ) (start with_own all more : List Case) → start ≡ [] → with_own ≡ start ++ record { value = v; label = label } ∷ [] → all ≡ with_own ++ more
      → now ≡ label + 1 → cases_of more ≡ placed now p.cases → cases_of all ≡ placed label (labelled c locals v p).cases
  labelled_cases v p label now start with_own all more none own both behind e =
      let first : label ≡ 0 + label = omega arith in
      let made : all ≡ record { value = v; label = label } ∷ more = both ∙ ap (λ z. z ++ more) (own ∙ ap (λ z. z ++ record { value = v; label = label } ∷ []) none) in
      ap cases_of made ∙ (ap (λ k. (v, k) ∷ cases_of more) first
      ∙ ap (λ ys. (v, 0 + label) ∷ ys) (e ∙ (ap (λ l. placed l p.cases) behind ∙ sym (placed_twice label 1 p.cases))))

  -- the cases of a block, a statement further
  pub cases_next : (ss : List Stat) (n : ℕ) (s : Stat) (now new : ℕ) (made all more : List Case) (whole : List (Option ℕ × ℕ)) → n < length ss → s ≡ get_or ss n s
      → new ≡ now + (steps_of c locals s).labels → cases_of more ≡ placed now (steps_of c locals s).cases → all ≡ made ++ more
      → cases_of made ++ placed now (block_steps c locals (drop n ss)).cases ≡ whole → cases_of all ++ placed new (block_steps c locals (drop (n + 1) ss)).cases ≡ whole
  cases_next ss n s now new made all more whole lt is label e both before =
      let p = steps_of c locals s in
      let rest = (block_steps c locals (drop (n + 1) ss)).cases in
      let left : placed now (block_steps c locals (drop n ss)).cases ≡ placed now (p.cases ++ map (shifted p.labels) rest) = ap (λ k. placed now (block_steps c locals k).cases) (next_item ss n s lt is) in
      let parts : placed now (p.cases ++ map (shifted p.labels) rest) ≡ cases_of more ++ placed new rest =
      placed_append now p.cases (map (shifted p.labels) rest)
      ∙ (ap (λ z. z ++ placed now (map (shifted p.labels) rest)) (sym e)
      ∙ ap (λ z. cases_of more ++ z) (placed_twice now p.labels rest ∙ ap (λ k. placed k rest) (sym label))) in
      ap (λ z. cases_of z ++ placed new rest) both ∙ (ap (λ z. z ++ placed new rest) (map-append case_of made more)
      ∙ (append_assoc (cases_of made) (cases_of more) (placed new rest) ∙ (ap (λ z. cases_of made ++ z) (sym (left ∙ parts)) ∙ before)))
