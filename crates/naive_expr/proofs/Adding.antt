-- What was appended in turn.
use Rattle.std.proofs.Common.{◌≡◌, ℕ, ◌+◌, List, ◌++◌, ap, ◌∙◌, append_assoc, arith}
use Rattle.naive_code.specs.Operations.{Op}
use Rattle.naive_expr.specs.declared.emission.Emitter.{Emitter}
use Rattle.naive_expr.specs.Emitted.{emitted, Adds}

in_turn : {A : Type 0} (a b c xs ys : List A) → b ≡ a ++ xs → c ≡ b ++ ys → c ≡ a ++ (xs ++ ys)
in_turn a b c xs ys h k = k ∙ (ap (λ z. z ++ ys) h ∙ append_assoc a xs ys)

counted : (a b c m n : ℕ) → b ≡ a + m → c ≡ b + n → c ≡ a + (m + n)
counted a b c m n h k = omega (arith, h, k)

pub adds_then : {a b c : Emitter} {os ps : List Op} {ds es : List ℕ} {m n k j : ℕ} → Adds a b os ds m k → Adds b c ps es n j → Adds a c (os ++ ps) (ds ++ es) (m + n) (k + j)
adds_then h g = record {
  ops = in_turn _ _ _ _ _ h.ops g.ops;
  depths = in_turn _ _ _ _ _ h.depths g.depths;
  temp = counted _ _ _ _ _ h.temp g.temp;
  label = counted _ _ _ _ _ h.label g.label;
}

-- the same, said otherwise
pub adds_as : {a b : Emitter} {os ps : List Op} {ds es : List ℕ} {m n k j : ℕ} → os ≡ ps → ds ≡ es → m ≡ n → k ≡ j → Adds a b os ds m k → Adds a b ps es n j
adds_as {a} {b} e f g h x = record {
  ops = x.ops ∙ ap (λ z. emitted a ++ z) e;
  depths = x.depths ∙ ap (λ z. a.depths ++ z) f;
  temp = x.temp ∙ ap (λ z. a.next_temp + z) g;
  label = x.label ∙ ap (λ z. a.next_label + z) h;
}
