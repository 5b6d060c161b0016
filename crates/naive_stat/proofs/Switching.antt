-- What a `switch` appends, from what its parts do.
use Rattle.std.proofs.Common.{◌≡◌, ℕ, ◌+◌, List, [], ◌∷◌, ◌++◌, replicate, Option, Some, None, refl, ap, ◌∙◌, append-nil, append_assoc, arith}
use Rattle.c_tree.specs.declared.typed.Object.{Object}
use Rattle.rtl_word.specs.declared.Rel.TheVariants.{Eq}
use Rattle.naive_code.specs.Operations.{Close, Falls, Jumps, Branches, constant}
use Rattle.naive_code.specs.Expressions.{Value, Site}
use Rattle.naive_code.specs.Statements.{Steps, Around, switch_steps, valued, dispatched, otherwise}
use Rattle.naive_expr.specs.declared.emission.Emitter.{Emitter}
use Rattle.naive_expr.specs.Emitted.{emitted, Adds, Brings}
use Rattle.naive_expr.proofs.Adding.{adds_then, adds_as}
use Rattle.naive_stat.specs.Cases.{placed, compared, default_of}
use Rattle.naive_stat.specs.Runs.{Runs}

pub nothing_emitted : (t l : ℕ) → emitted (record { ops = []; depths = []; next_temp = t; next_label = l }) ≡ []
unfolding emitted
nothing_emitted t l = refl

-- the code of the block was made apart
apart : (s3 s5 s6 b0 b1 : Emitter) (p : Steps) (inner : Around) → b0 ≡ record { ops = []; depths = []; next_temp = s3.next_temp; next_label = s3.next_label }
    → s5.next_temp ≡ s3.next_temp → s5.next_label ≡ s3.next_label → Runs b0 b1 p inner
    → emitted s6 ≡ emitted s5 ++ emitted b1 → s6.depths ≡ s5.depths ++ b1.depths → s6.next_temp ≡ b1.next_temp → s6.next_label ≡ b1.next_label
    → Adds s5 s6 (p.ops inner s3.next_temp s3.next_label) p.depths p.temps p.labels
apart s3 s5 s6 b0 b1 p inner is t l hp ho hd ht hl =
    let none : emitted b0 ≡ [] = ap emitted is ∙ nothing_emitted s3.next_temp s3.next_label in
    let no_depths : b0.depths ≡ [] = ap (λ (b : Emitter). b.depths) is in
    let temp0 : b0.next_temp ≡ s3.next_temp = ap (λ (b : Emitter). b.next_temp) is in
    let label0 : b0.next_label ≡ s3.next_label = ap (λ (b : Emitter). b.next_label) is in
    record {
      ops = ho ∙ ap (λ z. emitted s5 ++ z) (hp.ops ∙ (ap (λ z. z ++ p.ops inner b0.next_temp b0.next_label) none ∙ (let same : p.ops inner b0.next_temp b0.next_label ≡ p.ops inner s3.next_temp s3.next_label = cc in same)));
      depths = hd ∙ ap (λ z. s5.depths ++ z) (hp.depths ∙ ap (λ z. z ++ p.depths) no_depths);
      temp = omega (arith, ht, hp.temp, temp0, t);
      label = omega (arith, hl, hp.label, label0, l);
    }

module _ (c : Site) (locals : List Object) where
  compared_is : (r base t l : ℕ) (cs : List (Option ℕ × ℕ)) → compared r t l (placed base cs) ≡ dispatched c locals r base t l cs
  compared_is r base t l [] = refl
  compared_is r base t l ((Some v, k) ∷ rest) =
      let same : k + base ≡ base + k = omega arith in
      ap (λ n. constant t v ∷ Close (Branches Eq r t n) l ∷ compared r (t + 1) (l + 1) (placed base rest)) same
      ∙ ap (λ os. constant t v ∷ Close (Branches Eq r t (base + k)) l ∷ os) (compared_is r base (t + 1) (l + 1) rest)
  compared_is r base t l ((None, k) ∷ rest) = compared_is r base t l rest

  default_is : (base behind : ℕ) (cs : List (Option ℕ × ℕ)) → default_of behind (placed base cs) ≡ otherwise c locals base behind cs
  default_is base behind [] = refl
  default_is base behind ((Some v, k) ∷ rest) = default_is base behind rest
  default_is base behind ((None, k) ∷ rest) = omega arith

  pub switch_adds : (s s0 s1 s2 s3 s5 s6 s7 b0 b1 : Emitter) (e : Value) (p : Steps) (a inner : Around) (n label first value temp : ℕ) (cs : List (Option ℕ × ℕ))
      → n ≡ valued c locals p.cases → Adds s s0 [] [] 0 2 → label ≡ s.next_label → Adds s0 s1 [] [] 0 n → first ≡ s0.next_label → Brings s1 s2 e 0 → value ≡ e.result s1.next_temp
      → Adds s2 s3 [] (replicate n 1) n 0 → temp ≡ s2.next_temp → inner ≡ record { breaks = label; continues = a.continues }
      → b0 ≡ record { ops = []; depths = []; next_temp = s3.next_temp; next_label = s3.next_label } → Runs b0 b1 p inner → cs ≡ placed b0.next_label p.cases
      → Adds s3 s5 (compared value temp first cs ++ Close (Jumps (default_of label cs)) (label + 1) ∷ []) [] 0 0
      → emitted s6 ≡ emitted s5 ++ emitted b1 → s6.depths ≡ s5.depths ++ b1.depths → s6.next_temp ≡ b1.next_temp → s6.next_label ≡ b1.next_label
      → Adds s6 s7 (Close Falls label ∷ []) [] 0 0 → Runs s s7 (switch_steps c locals e p) a
  switch_adds s s0 s1 s2 s3 s5 s6 s7 b0 b1 e p a inner n label first value temp cs hn hl is hl2 is2 he hv hf ht hi hb hp hcs hc ho hd hst hsl hz =
      let label_first : first ≡ s.next_label + 2 = omega (arith, is2, hl.label) in
      let temp1 : s1.next_temp ≡ s.next_temp = omega (arith, hl.temp, hl2.temp) in
      let label1 : s1.next_label ≡ s.next_label + 2 + valued c locals p.cases = omega (arith, hl.label, hl2.label, hn) in
      let temp2 : s2.next_temp ≡ s.next_temp + e.temps = he.temp ∙ ap (λ k. k + e.temps) temp1 in
      let temp3 : s3.next_temp ≡ s.next_temp + e.temps + valued c locals p.cases = omega (arith, temp2, hf.temp, hn) in
      let label3 : s3.next_label ≡ s.next_label + 2 + valued c locals p.cases + e.labels = omega (arith, label1, he.label, hf.label) in
      let base = s.next_label + 2 + valued c locals p.cases + e.labels in
      let cases : cs ≡ placed base p.cases = hcs ∙ ap (λ k. placed k p.cases) (ap (λ (b : Emitter). b.next_label) hb ∙ label3) in
      let comparisons : compared value temp first cs ≡ dispatched c locals value base temp first p.cases = ap (compared value temp first) cases ∙ compared_is value base temp first p.cases in
      let default : default_of label cs ≡ otherwise c locals base label p.cases = ap (default_of label) cases ∙ default_is base label p.cases in
      let body = apart s3 s5 s6 b0 b1 p inner hb (omega (arith, hc.temp)) (omega (arith, hc.label)) hp ho hd hst hsl in
      let same_value : value ≡ e.result s.next_temp = hv ∙ ap e.result temp1 in
      let same_temp : temp ≡ s.next_temp + e.temps = ht ∙ temp2 in
      let rest = p.ops inner s3.next_temp s3.next_label ++ Close Falls label ∷ [] in
      let dispatch : (compared value temp first cs ++ Close (Jumps (default_of label cs)) (label + 1) ∷ []) ++ rest
      ≡ dispatched c locals value base temp first p.cases ++ Close (Jumps (otherwise c locals base label p.cases)) (label + 1) ∷ rest =
      append_assoc (compared value temp first cs) (Close (Jumps (default_of label cs)) (label + 1) ∷ []) rest
      ∙ (ap (λ z. z ++ Close (Jumps (default_of label cs)) (label + 1) ∷ rest) comparisons
      ∙ ap (λ k. dispatched c locals value base temp first p.cases ++ Close (Jumps k) (label + 1) ∷ rest) default) in
      let same : e.ops s1.next_temp s1.next_label ++ (dispatched c locals value base temp first p.cases ++ Close (Jumps (otherwise c locals base label p.cases)) (label + 1) ∷ rest)
      ≡ (switch_steps c locals e p).ops a s.next_temp s.next_label = cc in
      adds_as (ap (λ z. e.ops s1.next_temp s1.next_label ++ z) dispatch ∙ same)
      (ap (λ z. e.depths 0 ++ (replicate n 1 ++ z)) (append-nil p.depths) ∙ ap (λ k. e.depths 0 ++ (replicate k 1 ++ p.depths)) hn)
      (omega (arith, hn)) (omega (arith, hn))
      (adds_then hl (adds_then hl2 (adds_then he (adds_then hf (adds_then hc (adds_then body hz))))))
