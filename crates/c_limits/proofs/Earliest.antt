-- What is noted is the first of all.
use Rattle.std.specs.Prelude.{◌⊎◌}
use Rattle.std.proofs.Common.{◌≡◌, Bool, true, false, if◌then◌else◌, Option, Some, None, List, [], ◌∷◌, ◌++◌, inl, inr, refl, sym, ap, subst, ◌∙◌, arith}
use Rattle.std.proofs.lemmas.Bool.Decides.{nat_tests}
use Rattle.std.proofs.lemmas.Option.{none-some, same_Some}
use Rattle.vp_io.specs.declared.answers.Reason.{Reason}
use Rattle.c_limits.specs.Limits.{comes_before, Stands, IsFirst}
use Rattle.c_limits.specs.First.{note, first_of}

not_itself : (a : Reason) → comes_before a a ≡ false
not_itself a = grind (arith, nat_tests)

not_both : (a b : Reason) → comes_before a b ≡ true → comes_before b a ≡ false
not_both a b h = grind (arith, nat_tests, h)

not_through : (a b c : Reason) → comes_before a b ≡ false → comes_before b c ≡ false → comes_before a c ≡ false
not_through a b c h k = grind (arith, nat_tests, h, k)

-- what is known of the first, where l was noted before
record Noted (l : Option Reason) (rs : List Reason) (r : Reason) : Type 0 where
  from : (l ≡ Some r) ⊎ Stands r rs
  old : (x : Reason) → l ≡ Some x → comes_before x r ≡ false
  first : (x : Reason) → Stands x rs → comes_before x r ≡ false

not_after : (x y r : Reason) → x ≡ y → comes_before y r ≡ false → comes_before x r ≡ false
not_after x y r e h = subst (λ z. comes_before z r ≡ false) (sym e) h

in_both : (y : Reason) (ys : List Reason) (r : Reason) → comes_before y r ≡ false → ((x : Reason) → Stands x ys → comes_before x r ≡ false) → (x : Reason) → Stands x (y ∷ ys) → comes_before x r ≡ false
in_both y ys r h k x (inl e) = not_after x y r e h
in_both y ys r h k x (inr s) = k x s

from_new : (l : Option Reason) (y : Reason) (ys : List Reason) (r : Reason) → (Some y ≡ Some r) ⊎ Stands r ys → (l ≡ Some r) ⊎ Stands r (y ∷ ys)
from_new l y ys r (inl e) = inr (inl (sym (same_Some _ _ e)))
from_new l y ys r (inr s) = inr (inr s)

from_old : (l : Option Reason) (y : Reason) (ys : List Reason) (r : Reason) → (l ≡ Some r) ⊎ Stands r ys → (l ≡ Some r) ⊎ Stands r (y ∷ ys)
from_old l y ys r (inl e) = inl e
from_old l y ys r (inr s) = inr (inr s)

noted_one : (z y : Reason) (ys : List Reason) (r : Reason) (b : Bool) → comes_before y z ≡ b → Noted (Some (if b then y else z)) ys r → Noted (Some z) (y ∷ ys) r
noted_one z y ys r true e n = record {
  from = from_new (Some z) y ys r n.from;
  old = λ x s. not_after x z r (sym (same_Some _ _ s)) (not_through z y r (not_both y z e) (n.old y refl));
  first = in_both y ys r (n.old y refl) n.first;
}
noted_one z y ys r false e n = record {
  from = from_old (Some z) y ys r n.from;
  old = n.old;
  first = in_both y ys r (not_through y z r e (n.old z refl)) n.first;
}

noted_more : (l : Option Reason) (y : Reason) (ys : List Reason) (r : Reason) → Noted (note l y) ys r → Noted l (y ∷ ys) r
noted_more None y ys r n = record {
  from = from_new None y ys r n.from;
  old = λ x s. absurd (none-some _ s);
  first = in_both y ys r (n.old y refl) n.first;
}
noted_more (Some z) y ys r n = noted_one z y ys r (comes_before y z) refl n

noted : (rs : List Reason) (l : Option Reason) (r : Reason) → first_of l rs ≡ Some r → Noted l rs r
noted [] l r e = record { from = inl e; old = λ x s. not_after x r r (sym (same_Some _ _ (sym e ∙ s))) (not_itself r); first = λ x s. absurd s }
noted (y ∷ ys) l r e = noted_more l y ys r (noted ys (note l y) r e)

pub first_is_first : (rs : List Reason) (r : Reason) → first_of None rs ≡ Some r → IsFirst rs r
first_is_first rs r e = let n = noted rs None r e in record { stands = of_none n.from; first = n.first }
  where
    of_none : (None ≡ Some r) ⊎ Stands r rs → Stands r rs
    of_none (inl s) = absurd (none-some _ s)
    of_none (inr s) = s

stays_some : (rs : List Reason) (x : Reason) → first_of (Some x) rs ≡ None → ⊥
stays_some [] x e = none-some _ (sym e)
stays_some (y ∷ ys) x e = stays_some ys (if comes_before y x then y else x) e

pub none_is_empty : (rs : List Reason) → first_of None rs ≡ None → rs ≡ []
none_is_empty [] e = refl
none_is_empty (y ∷ ys) e = absurd (stays_some ys y e)

pub first_of-append : (xs ys : List Reason) (l : Option Reason) → first_of l (xs ++ ys) ≡ first_of (first_of l xs) ys
first_of-append [] ys l = refl
first_of-append (x ∷ xs) ys l = first_of-append xs ys (note l x)
