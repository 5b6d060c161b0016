-- What a `for` appends, from what its parts do.
use Rattle.std.proofs.Common.{◌≡◌, ℕ, ◌+◌, Bool, false, List, [], ◌∷◌, ◌++◌, ap, ◌∙◌, append-nil, arith}
use Rattle.c_tree.specs.declared.typed.Object.{Object}
use Rattle.naive_code.specs.Operations.{Close, Falls, Jumps}
use Rattle.naive_code.specs.Expressions.{Test, Site}
use Rattle.naive_code.specs.Statements.{Steps, Around, for_steps}
use Rattle.naive_expr.specs.declared.emission.Emitter.{Emitter}
use Rattle.naive_expr.specs.declared.emission.Jump.{Jump}
use Rattle.naive_expr.specs.Emitted.{Adds, Decides}
use Rattle.naive_expr.proofs.Adding.{adds_then, adds_as}
use Rattle.naive_stat.specs.Runs.{Runs}

abbrev jump_to : Bool → (target next : ℕ) → Jump
jump_to s t n = record { sense = s; target = t; next = n }

module _ (c : Site) (locals : List Object) where
  pub for_adds : (s s0 s1 s2 s3 s4 s5 s6 s7 : Emitter) (first : Steps) (e : Test) (step p : Steps) (a : Around) (label : ℕ) → Adds s s0 [] [] 0 4 → label ≡ s.next_label
      → ((b : Around) → Runs s0 s1 first b) → Adds s1 s2 (Close Falls (label + 1) ∷ []) [] 0 0 → Decides s2 s3 e (jump_to false label (label + 2)) 0
      → Runs s3 s4 p (record { breaks = label; continues = label + 3 }) → Adds s4 s5 (Close Falls (label + 3) ∷ []) [] 0 0
      → ((b : Around) → Runs s5 s6 step b) → Adds s6 s7 (Close (Jumps (label + 1)) label ∷ []) [] 0 0 → Runs s s7 (for_steps c locals first e step p) a
  for_adds s s0 s1 s2 s3 s4 s5 s6 s7 first e step p a label hl is hfirst hf he hp hg hstep hj =
      let h1 = hfirst a in
      let h6 = hstep a in
      let temp0 : s0.next_temp ≡ s.next_temp = omega (arith, hl.temp) in
      let label0 = hl.label in
      let temp2 : s2.next_temp ≡ s.next_temp + first.temps = omega (arith, temp0, h1.temp, hf.temp) in
      let label2 : s2.next_label ≡ s.next_label + 4 + first.labels = omega (arith, label0, h1.label, hf.label) in
      let temp3 : s3.next_temp ≡ s.next_temp + first.temps + e.temps = he.temp ∙ ap (λ k. k + e.temps) temp2 in
      let label3 : s3.next_label ≡ s.next_label + 4 + first.labels + e.labels = he.label ∙ ap (λ k. k + e.labels) label2 in
      let temp5 : s5.next_temp ≡ s.next_temp + first.temps + e.temps + p.temps = omega (arith, temp3, hp.temp, hg.temp) in
      let label5 : s5.next_label ≡ s.next_label + 4 + first.labels + e.labels + p.labels = omega (arith, label3, hp.label, hg.label) in
      adds_as (let same : first.ops a s0.next_temp s0.next_label ++ Close Falls (label + 1) ∷ (e.ops false label (label + 2) s2.next_temp s2.next_label ++ (p.ops (record { breaks = label; continues = label + 3 }) s3.next_temp s3.next_label ++ Close Falls (label + 3) ∷ (step.ops a s5.next_temp s5.next_label ++ Close (Jumps (label + 1)) label ∷ []))) ≡ (for_steps c locals first e step p).ops a s.next_temp s.next_label = cc in same)
      (ap (λ z. first.depths ++ (e.depths 0 ++ (p.depths ++ z))) (append-nil step.depths)) (omega arith) (omega arith)
      (adds_then hl (adds_then h1 (adds_then hf (adds_then he (adds_then hp (adds_then hg (adds_then h6 hj)))))))
