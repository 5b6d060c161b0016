-- A whole function, from what its parts append.
use Rattle.std.proofs.Common.{◌≡◌, ℕ, suc, ◌+◌, ◌-◌, ◌*◌, ◌<◌, Bool, List, [], ◌∷◌, ◌++◌, length, sym, ap, subst, ◌∙◌, append_assoc, arith}
use Rattle.c_tree.specs.declared.typed.Object.{Object}
use Rattle.c_tree.specs.declared.typed.Stat.{Stat}
use Rattle.c_tree.specs.declared.typed.Function.{Function}
use Rattle.c_tree.specs.declared.typed.Typed.{Typed}
use Rattle.c_limits.specs.Frames.{frame_bytes, word_bytes}
use Rattle.c_meaning.specs.Run.{is_main}
use Rattle.naive_code.specs.Operations.{Op, load_home}
use Rattle.naive_code.specs.Storage.{scalar_count}
use Rattle.naive_code.specs.Expressions.{Site}
use Rattle.naive_code.specs.Statements.{Steps, steps_of}
use Rattle.naive_code.specs.Functions.{body_steps, ending, entry_from, nowhere, site_of}
use Rattle.naive_expr.specs.declared.emission.Emitter.{Emitter}
use Rattle.naive_expr.specs.Emitted.{Adds, emitted}
use Rattle.naive_expr.proofs.Adding.{adds_then}
use Rattle.naive_stat.specs.Functions.{AreOperationsOf}
use Rattle.naive_stat.specs.Runs.{Runs}
use Rattle.naive_stat.proofs.Switching.{nothing_emitted}

one_fewer : (n i : ℕ) → i < n → n - i ≡ suc (n - (i + 1))
one_fewer n i lt = omega (arith, lt)

-- a parameter more
pub entry_next : (bytes offset i n k : ℕ) (now new : Emitter) (whole : List Op) → i < n → k ≡ offset + bytes * i → Adds now new (load_home i k ∷ []) [] 0 0
    → emitted now ++ entry_from bytes offset i (n - i) ≡ whole → emitted new ++ entry_from bytes offset (i + 1) (n - (i + 1)) ≡ whole
entry_next bytes offset i n k now new whole lt at h before =
    let rest = entry_from bytes offset (i + 1) (n - (i + 1)) in
    let next : i + 1 ≡ suc i = omega arith in
    ap (λ z. z ++ rest) h.ops ∙ (append_assoc (emitted now) (load_home i k ∷ []) rest
    ∙ (ap (λ m. emitted now ++ load_home i m ∷ rest) at
    ∙ (ap (λ j. emitted now ++ load_home i (offset + bytes * i) ∷ entry_from bytes offset j (n - (i + 1))) next
    ∙ (ap (λ m. emitted now ++ entry_from bytes offset i m) (sym (one_fewer n i lt)) ∙ before))))

pub function_made : (w pushed : ℕ) (t : Typed) (f : Function) (label scalars bytes offset count : ℕ) (main : Bool) (s0 s1 s2 s3 : Emitter) (x : Site) (locals : List Object) (body : Stat)
    → s0 ≡ record { ops = []; depths = []; next_temp = scalars; next_label = label + 1 } → scalars ≡ scalar_count f → x ≡ site_of [] w t f → bytes ≡ word_bytes x.bits
    → offset ≡ frame_bytes [] w f + pushed → count ≡ length f.params → locals ≡ f.locals → body ≡ f.body → main ≡ is_main f
    → Adds s0 s1 (entry_from bytes offset 0 count) [] 0 0 → Runs s1 s2 (steps_of x locals body) nowhere → Adds s2 s3 (ending main s2.next_temp) (0 ∷ []) 1 0
    → AreOperationsOf w pushed t f label s3
function_made w pushed t f label scalars bytes offset count main s0 s1 s2 s3 x locals body is hs hx hb ho hc hl hbody hm h1 h2 h3 =
    let p = body_steps [] w t f in
    let same : steps_of x locals body ≡ p = ap (λ y. steps_of y locals body) hx ∙ (ap (λ ls. steps_of (site_of [] w t f) ls body) hl ∙ ap (steps_of (site_of [] w t f) f.locals) hbody) in
    let run : Runs s1 s2 p nowhere = subst (λ (q : Steps). Runs s1 s2 q nowhere) same h2 in
    let all = adds_then h1 (adds_then run h3) in
    let none : emitted s0 ≡ [] = ap emitted is ∙ nothing_emitted scalars (label + 1) in
    let no_depths : s0.depths ≡ [] = ap (λ (s : Emitter). s.depths) is in
    let temp0 : s0.next_temp ≡ scalar_count f = ap (λ (s : Emitter). s.next_temp) is ∙ hs in
    let label0 : s0.next_label ≡ label + 1 = ap (λ (s : Emitter). s.next_label) is in
    let temp1 : s1.next_temp ≡ scalar_count f = omega (arith, h1.temp, temp0) in
    let label1 : s1.next_label ≡ label + 1 = omega (arith, h1.label, label0) in
    let temp2 : s2.next_temp ≡ scalar_count f + p.temps = run.temp ∙ ap (λ k. k + p.temps) temp1 in
    let width : bytes ≡ word_bytes w = hb ∙ ap (λ (y : Site). word_bytes y.bits) hx in
    let after = p.ops nowhere s1.next_temp s1.next_label ++ ending main s2.next_temp in
    let entry : entry_from bytes offset 0 count ≡ entry_from (word_bytes w) (frame_bytes [] w f + pushed) 0 (length f.params) =
    ap (λ b. entry_from b offset 0 count) width ∙ (ap (λ o. entry_from (word_bytes w) o 0 count) ho ∙ ap (entry_from (word_bytes w) (frame_bytes [] w f + pushed) 0) hc) in
    let rest : after ≡ p.ops nowhere (scalar_count f) (label + 1) ++ ending (is_main f) (scalar_count f + p.temps) =
    ap (λ k. p.ops nowhere k s1.next_label ++ ending main s2.next_temp) temp1
    ∙ (ap (λ l. p.ops nowhere (scalar_count f) l ++ ending main s2.next_temp) label1
    ∙ (ap (λ m. p.ops nowhere (scalar_count f) (label + 1) ++ ending m s2.next_temp) hm
    ∙ ap (λ k. p.ops nowhere (scalar_count f) (label + 1) ++ ending (is_main f) k) temp2)) in
    let labels : s3.next_label ≡ s0.next_label + (0 + (p.labels + 0)) = all.label in
    record {
      ops = all.ops ∙ (ap (λ z. z ++ (entry_from bytes offset 0 count ++ after)) none
          ∙ (ap (λ z. z ++ after) entry ∙ ap (λ z. entry_from (word_bytes w) (frame_bytes [] w f + pushed) 0 (length f.params) ++ z) rest));
      depths = all.depths ∙ ap (λ z. z ++ (p.depths ++ 0 ∷ [])) no_depths;
      next = omega (arith, labels, label0);
    }
