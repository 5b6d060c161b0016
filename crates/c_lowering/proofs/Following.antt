-- How far a lowered part goes, against the source's: at least as far, or at most. Of a source that fails nothing is asked.
use Rattle.std.proofs.Common.{◌≡◌, ℕ, zero, suc, List, ◌++◌, refl, sym, ap, subst, ◌∙◌}
use mathlib.Core.List.{append_assoc}
use Rattle.behaviour.specs.Behaviour.{IsPrefix, Wrong}
use Rattle.behaviour.proofs.Prefix.{prefix_refl, prefix_append, prefix_trans}
use Rattle.c_meaning.specs.Parts.{State, Part, Gives, Cut, Fails, after, then_do, give}
use Rattle.c_meaning.specs.Expressions.{at_zero}
use Rattle.c_meaning.proofs.Below.{out_of, Below}

pub data Way : Type 0 where
  at_least at_most : Way

-- the second part is the lowered one
abbrev pub Follows : {A : Type 0} → Way → Part A → Part A → Type 0
Follows at_least (Gives out a s) q = q ≡ Gives out a s
Follows at_least (Cut out) q = IsPrefix out (out_of q)
Follows at_most (Gives out a s) (Gives more b t) = Gives more b t ≡ Gives out a s
Follows at_most (Gives out a s) (Cut more) = IsPrefix more out
Follows at_most (Gives out a s) (Fails more why) = ⊥
Follows at_most (Cut out) (Gives more b t) = ⊥
Follows at_most (Cut out) (Cut more) = IsPrefix more out
Follows at_most (Cut out) (Fails more why) = ⊥
Follows way (Fails out why) q = Unit {0}

pub record Rel {A : Type 0} (way : Way) (p q : Part A) : Type 0 where
  pub goes : Follows way p q

abbrev pub All_rel : {A : Type 0} → Way → (State → Part A) → (State → Part A) → Type 0
All_rel way f g = (s : State) → Rel way (f s) (g s)

pub same_rel : {A : Type 0} (way : Way) (p : Part A) → Rel way p p
same_rel at_least (Gives out a s) = record { goes = refl }
same_rel at_least (Cut out) = record { goes = prefix_refl out }
same_rel at_most (Gives out a s) = record { goes = refl }
same_rel at_most (Cut out) = record { goes = prefix_refl out }
same_rel at_least (Fails out why) = record { goes = tt }
same_rel at_most (Fails out why) = record { goes = tt }

pub fails_rel : {A : Type 0} (way : Way) (out : List ℕ) (why : Wrong) (q : Part A) → Rel way (Fails out why) q
fails_rel at_least out why q = record { goes = tt }
fails_rel at_most out why q = record { goes = tt }

out_after : {A : Type 0} (out : List ℕ) (p : Part A) → out_of (after out p) ≡ out ++ out_of p
out_after out (Gives o a s) = refl
out_after out (Cut o) = refl
out_after out (Fails o why) = refl

longer : (out more rest : List ℕ) → IsPrefix more rest → IsPrefix (out ++ more) (out ++ rest)
longer out more rest e = (e.0, ap (λ xs. out ++ xs) e.1 ∙ sym (append_assoc out more e.0))

out_then : {A B : Type 0} (p : Part A) (f : A → State → Part B) → IsPrefix (out_of p) (out_of (then_do p f))
out_then (Gives out a s) f = subst (IsPrefix out) (sym (out_after out (f a s))) (prefix_append out (out_of (f a s)))
out_then (Cut out) f = prefix_refl out
out_then (Fails out why) f = prefix_refl out

pub after_rel : {A : Type 0} (way : Way) (out : List ℕ) (p q : Part A) → Rel way p q → Rel way (after out p) (after out q)
after_rel at_least out (Gives o a s) q b = record { goes = ap (after out) b.goes }
after_rel at_least out (Cut o) q b = record { goes = subst (IsPrefix (out ++ o)) (sym (out_after out q)) (longer out o (out_of q) b.goes) }
after_rel at_least out (Fails o why) q b = record { goes = tt }
after_rel at_most out (Gives o a s) (Gives m b' t) b = record { goes = ap (after out) b.goes }
after_rel at_most out (Gives o a s) (Cut m) b = record { goes = longer out m o b.goes }
after_rel at_most out (Gives o a s) (Fails m why) b = absurd b.goes
after_rel at_most out (Cut o) (Gives m b' t) b = absurd b.goes
after_rel at_most out (Cut o) (Cut m) b = record { goes = longer out m o b.goes }
after_rel at_most out (Cut o) (Fails m why) b = absurd b.goes
after_rel at_most out (Fails o why) q b = record { goes = tt }

-- a part that was cut goes at most as far as one that prints as much
cut_short : {B : Type 0} (out m : List ℕ) (p : Part B) → IsPrefix m out → Rel at_most (after out p) (Cut m)
cut_short out m (Gives o b s) e = record { goes = prefix_trans _ _ _ e (prefix_append out o) }
cut_short out m (Cut o) e = record { goes = prefix_trans _ _ _ e (prefix_append out o) }
cut_short out m (Fails o why) e = record { goes = tt }

pub then_rel : {A B : Type 0} (way : Way) (p q : Part A) (f g : A → State → Part B) → Rel way p q → ((a : A) → All_rel way (f a) (g a)) → Rel way (then_do p f) (then_do q g)
then_rel at_least (Gives out a s) q f g b each = subst (λ r. Rel at_least (after out (f a s)) (then_do r g)) (sym b.goes) (after_rel at_least out (f a s) (g a s) (each a s))
then_rel at_least (Cut out) q f g b each = record { goes = prefix_trans _ _ _ b.goes (out_then q g) }
then_rel at_least (Fails out why) q f g b each = record { goes = tt }
then_rel at_most (Gives out a s) (Gives m c t) f g b each =
    subst (λ r. Rel at_most (after out (f a s)) (then_do r g)) (sym b.goes) (after_rel at_most out (f a s) (g a s) (each a s))
then_rel at_most (Gives out a s) (Cut m) f g b each = cut_short out m (f a s) b.goes
then_rel at_most (Gives out a s) (Fails m why) f g b each = absurd b.goes
then_rel at_most (Cut out) (Gives m c t) f g b each = absurd b.goes
then_rel at_most (Cut out) (Cut m) f g b each = record { goes = b.goes }
then_rel at_most (Cut out) (Fails m why) f g b each = absurd b.goes
then_rel at_most (Fails out why) q f g b each = record { goes = tt }

pub zero_rel : {A : Type 0} (way : Way) (v : ℕ) (f g f' g' : State → Part A) → All_rel way f f' → All_rel way g g' → All_rel way (at_zero v f g) (at_zero v f' g')
zero_rel way zero f g f' g' a b s = a s
zero_rel way (suc v) f g f' g' a b s = b s

-- ---- from and to `Below`

abbrev is_failure : {A : Type 0} → Part A → Type 0
is_failure (Gives o b t) = ⊥
is_failure (Cut o) = ⊥
is_failure (Fails o w) = Unit {0}

pub at_most_from : {A : Type 0} (a : A) (s : State) (q : Part A) → Below q (give a s) → Rel at_most (give a s) q
at_most_from a s (Gives out b t) e = record { goes = sym e.goes }
at_most_from a s (Cut out) e = record { goes = e.goes }
at_most_from a s (Fails out why) e = absurd (subst is_failure (sym e.goes) tt)
