-- A part that goes at least as far as another.
use Rattle.std.proofs.Common.{◌≡◌, ℕ, zero, suc, List, [], ◌++◌, refl, sym, ap, subst, ◌∙◌}
use mathlib.Core.List.{append_assoc}
use Rattle.behaviour.specs.Behaviour.{IsPrefix}
use Rattle.behaviour.proofs.Prefix.{prefix_refl, prefix_nil, prefix_append, prefix_trans}
use Rattle.c_meaning.specs.Parts.{State, Part, Gives, Cut, Fails, after, then_do}
use Rattle.c_meaning.specs.Expressions.{at_zero}

-- what a part prints
abbrev pub out_of : {A : Type 0} → Part A → List ℕ
out_of (Gives out a s) = out
out_of (Cut out) = out
out_of (Fails out why) = out

-- the second is the first, or goes on from where the first was cut
abbrev pub Goes : {A : Type 0} → Part A → Part A → Type 0
Goes (Gives out a s) q = q ≡ Gives out a s
Goes (Cut out) q = IsPrefix out (out_of q)
Goes (Fails out why) q = q ≡ Fails out why

-- as a record, so that a lemma's arguments are found from it
pub record Below {A : Type 0} (p q : Part A) : Type 0 where
  pub goes : Goes p q

abbrev pub All_below : {A : Type 0} → (State → Part A) → (State → Part A) → Type 0
All_below f g = (s : State) → Below (f s) (g s)

pub same : {A : Type 0} (p : Part A) → Below p p
same (Gives out a s) = record { goes = refl }
same (Cut out) = record { goes = prefix_refl out }
same (Fails out why) = record { goes = refl }

pub cut_below : {A : Type 0} (p : Part A) → Below (Cut []) p
cut_below p = record { goes = prefix_nil (out_of p) }

out_after : {A : Type 0} (out : List ℕ) (p : Part A) → out_of (after out p) ≡ out ++ out_of p
out_after out (Gives o a s) = refl
out_after out (Cut o) = refl
out_after out (Fails o why) = refl

longer : (out more rest : List ℕ) → IsPrefix more rest → IsPrefix (out ++ more) (out ++ rest)
longer out more rest e = (e.0, ap (λ xs. out ++ xs) e.1 ∙ sym (append_assoc out more e.0))

after_below : {A : Type 0} (out : List ℕ) (p q : Part A) → Below p q → Below (after out p) (after out q)
after_below out (Gives o a s) q b = record { goes = ap (after out) b.goes }
after_below out (Cut o) q b = record { goes = subst (IsPrefix (out ++ o)) (sym (out_after out q)) (longer out o (out_of q) b.goes) }
after_below out (Fails o why) q b = record { goes = ap (after out) b.goes }

-- what is printed before the rest is printed with it
out_then : {A B : Type 0} (p : Part A) (f : A → State → Part B) → IsPrefix (out_of p) (out_of (then_do p f))
out_then (Gives out a s) f = subst (IsPrefix out) (sym (out_after out (f a s))) (prefix_append out (out_of (f a s)))
out_then (Cut out) f = prefix_refl out
out_then (Fails out why) f = prefix_refl out

pub then_below : {A B : Type 0} (p q : Part A) (f g : A → State → Part B) → Below p q → ((a : A) → All_below (f a) (g a)) → Below (then_do p f) (then_do q g)
then_below (Gives out a s) q f g b each = subst (λ r. Below (after out (f a s)) (then_do r g)) (sym b.goes) (after_below out (f a s) (g a s) (each a s))
then_below (Cut out) q f g b each = record { goes = prefix_trans _ _ _ b.goes (out_then q g) }
then_below (Fails out why) q f g b each = record { goes = ap (λ r. then_do r g) b.goes }

pub zero_below : {A : Type 0} (v : ℕ) (f g f' g' : State → Part A) → All_below f f' → All_below g g' → All_below (at_zero v f g) (at_zero v f' g')
zero_below zero f g f' g' a b s = a s
zero_below (suc v) f g f' g' a b s = b s
