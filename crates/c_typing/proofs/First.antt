-- What is told is the first of all that is broken.
use Rattle.std.proofs.Common.{◌≡◌, ℕ, Bool, true, false, ◌&&◌, Option, Some, None, arith, refl, sym, ap, subst, ◌∙◌, if◌then◌else◌}
use Rattle.std.specs.Prelude.{◌⊎◌}
use Rattle.std.proofs.Common.{inl, inr}
use Rattle.std.proofs.lemmas.Bool.Decides.{nat_tests}
use Rattle.std.proofs.lemmas.Option.{none-some, same_Some}
use Rattle.c_tree.specs.declared.token.At.{At}
use Rattle.c_typing.specs.declared.names.Fault.{Fault}
use Rattle.c_typing.specs.Faults.{Faults, sound, broken, ◌also◌, Breaks, IsFirst, comes_before, fault, note, notes, clean}
use Rattle.c_typing.specs.Laws.{TellsFirst, TellsNone}

not_itself : (a : Fault) → comes_before a a ≡ false
not_itself a = grind (arith, nat_tests)

not_both : (a b : Fault) → comes_before a b ≡ true → comes_before b a ≡ false
not_both a b h = grind (arith, nat_tests, h)

not_through : (a b c : Fault) → comes_before a b ≡ false → comes_before b c ≡ false → comes_before a c ≡ false
not_through a b c h k = grind (arith, nat_tests, h, k)

-- what is known of the first fault, where l was told before
record Told (l : Option Fault) (fs : Faults) (f : Fault) : Type 0 where
  from : (l ≡ Some f) ⊎ Breaks fs f.rule f.at
  old : (g : Fault) → l ≡ Some g → comes_before g f ≡ false
  least : (rule : ℕ) (at : At) → Breaks fs rule at → comes_before (fault rule at) f ≡ false

record Nothing (l : Option Fault) (fs : Faults) : Type 0 where
  old : l ≡ None
  none : (rule : ℕ) (at : At) → Breaks fs rule at → ⊥

same_fault : (r : ℕ) (p : At) (rule : ℕ) (at : At) (f : Fault) → (rule ≡ r) × (at ≡ p) → comes_before (fault r p) f ≡ false → comes_before (fault rule at) f ≡ false
same_fault r p rule at f e h = subst (λ x. comes_before (fault x at) f ≡ false) (sym e.0) (subst (λ x. comes_before (fault r x) f ≡ false) (sym e.1) h)

two_noted : (g f h : Fault) (b : Bool) → comes_before g f ≡ b → (if b then g else f) ≡ h → Told (Some g) (broken f.rule f.at) h
two_noted g f h true e is = record {
  from = inl (ap Some is);
  old = λ k s. subst (λ x. comes_before k x ≡ false) is (subst (λ x. comes_before x g ≡ false) (same_Some _ _ s) (not_itself g));
  least = λ rule at s. same_fault f.rule f.at rule at h s (subst (λ x. comes_before f x ≡ false) is (not_both g f e));
}
two_noted g f h false e is = record {
  from = inr (sym (ap (λ x. x.rule) is), sym (ap (λ x. x.at) is));
  old = λ k s. subst (λ x. comes_before k x ≡ false) is (subst (λ x. comes_before x f ≡ false) (same_Some _ _ s) e);
  least = λ rule at s. same_fault f.rule f.at rule at h s (subst (λ x. comes_before f x ≡ false) is (not_itself f));
}

noted : (l : Option Fault) (f h : Fault) → note l f ≡ Some h → Told l (broken f.rule f.at) h
noted None f h e = record {
  from = inr (sym (ap (λ x. x.rule) (same_Some _ _ e)), sym (ap (λ x. x.at) (same_Some _ _ e)));
  old = λ g s. absurd (none-some _ s);
  least = λ rule at s. same_fault f.rule f.at rule at h s (subst (λ x. comes_before f x ≡ false) (same_Some _ _ e) (not_itself f));
}
noted (Some g) f h e = two_noted g f h (comes_before g f) refl (same_Some _ _ e)

not_nothing : (l : Option Fault) (f : Fault) → note l f ≡ None → ⊥
not_nothing None f e = absurd (none-some _ (sym e))
not_nothing (Some g) f e = absurd (none-some _ (sym e))

nothing_told : (fs : Faults) (l : Option Fault) → notes l fs ≡ None → Nothing l fs
nothing_told sound l e = record { old = e; none = λ rule at b. b }
nothing_told (broken r p) l e = absurd (not_nothing l (fault r p) e)
nothing_told (f also g) l e =
    let y = nothing_told g (notes l f) e in
    let x = nothing_told f l y.old in
    record { old = x.old; none = neither x.none y.none }
  where
    neither : ((rule : ℕ) (at : At) → Breaks f rule at → ⊥) → ((rule : ℕ) (at : At) → Breaks g rule at → ⊥) → (rule : ℕ) (at : At) → Breaks (f also g) rule at → ⊥
    neither x y rule at (inl b) = x rule at b
    neither x y rule at (inr b) = y rule at b

either : (f g : Faults) (h : Fault) → ((rule : ℕ) (at : At) → Breaks f rule at → comes_before (fault rule at) h ≡ false) → ((rule : ℕ) (at : At) → Breaks g rule at → comes_before (fault rule at) h ≡ false)
    → (rule : ℕ) (at : At) → Breaks (f also g) rule at → comes_before (fault rule at) h ≡ false
either f g h x y rule at (inl b) = x rule at b
either f g h x y rule at (inr b) = y rule at b

from_both : (l : Option Fault) (f g : Faults) (k h : Fault) → Told l f k → (Some k ≡ Some h) ⊎ Breaks g h.rule h.at → (l ≡ Some h) ⊎ Breaks (f also g) h.rule h.at
from_both l f g k h t (inr b) = inr (inr b)
from_both l f g k h t (inl e) = go t.from
  where
    go : (l ≡ Some k) ⊎ Breaks f k.rule k.at → (l ≡ Some h) ⊎ Breaks (f also g) h.rule h.at
    go (inl s) = inl (s ∙ e)
    go (inr b) = inr (inl (subst (λ x. Breaks f x.rule x.at) (same_Some _ _ e) b))

second : (l : Option Fault) (f g : Faults) (h : Fault) → Nothing l f → Told None g h → Told l (f also g) h
second l f g h n t = record {
  from = go t.from;
  old = λ k s. absurd (none-some _ (sym n.old ∙ s));
  least = either f g h (λ rule at b. absurd (n.none rule at b)) t.least;
}
  where
    go : (None ≡ Some h) ⊎ Breaks g h.rule h.at → (l ≡ Some h) ⊎ Breaks (f also g) h.rule h.at
    go (inl s) = absurd (none-some _ s)
    go (inr b) = inr (inr b)

joined : (l : Option Fault) (f g : Faults) (k h : Fault) → Told l f k → Told (Some k) g h → Told l (f also g) h
joined l f g k h t u = record {
  from = from_both l f g k h t u.from;
  old = λ x s. not_through x k h (t.old x s) (u.old k refl);
  least = either f g h (λ rule at b. not_through (fault rule at) k h (t.least rule at b) (u.old k refl)) u.least;
}

told : (fs : Faults) (l : Option Fault) (f : Fault) → notes l fs ≡ Some f → Told l fs f
told sound l f e = record { from = inl e; old = λ g s. subst (λ x. comes_before x f ≡ false) (sym (same_Some _ _ (sym s ∙ e))) (not_itself f); least = λ rule at b. absurd b }
told (broken r p) l f e = noted l (fault r p) f e
told (f also g) l h e = by (notes l f) (λ m. told f l m) (nothing_told f l) (told g (notes l f) h e)
  where
    by : (m : Option Fault) → ((k : Fault) → m ≡ Some k → Told l f k) → (m ≡ None → Nothing l f) → Told m g h → Told l (f also g) h
    by None x n t = second l f g h (n refl) t
    by (Some k) x n t = joined l f g k h (x k refl) t

of_told : (fs : Faults) (f : Fault) → Told None fs f → IsFirst fs f
of_told fs f t = record { breaks = go t.from; least = t.least }
  where
    go : (None ≡ Some f) ⊎ Breaks fs f.rule f.at → Breaks fs f.rule f.at
    go (inl s) = absurd (none-some _ s)
    go (inr b) = b

pub tells_first : TellsFirst
tells_first fs f e = of_told fs f (told fs None f e)

pub tells_none : TellsNone
tells_none fs e = (nothing_told fs None e).none

pub clean_where_none : (fs : Faults) (l : Option Fault) → notes l fs ≡ None → clean fs ≡ true
clean_where_none sound l e = refl
clean_where_none (broken r p) l e = absurd (not_nothing l (fault r p) e)
clean_where_none (f also g) l e = both_clean (clean f) (clean g) (clean_where_none f l (nothing_told g (notes l f) e).old) (clean_where_none g (notes l f) e)
  where
    both_clean : (a b : Bool) → a ≡ true → b ≡ true → (a && b) ≡ true
    both_clean a b h k = ap (λ x. x && b) h ∙ k
