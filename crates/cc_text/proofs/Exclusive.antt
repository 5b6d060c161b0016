-- No source is both accepted and refused.
use Rattle.std.proofs.Common.{◌≡◌, ℕ, Bool, true, false, List, [], Option, Some, None, Result, Ok, Err, refl, sym, ap, subst, ◌∙◌}
use Rattle.std.proofs.lemmas.Option.{same_Some}
use Rattle.vp_io.specs.declared.answers.Reason.{Reason}
use Rattle.rtl_tree.specs.declared.expressions.BinOp.{BinOp}
use Rattle.md_rows.specs.declared.description.RawDescription.{RawDescription}
use Rattle.c_tree.specs.declared.syntax.Syntax.{Syntax}
use Rattle.c_tree.specs.declared.typed.Typed.{Typed}
use Rattle.c_source.specs.Source.{SpellsTree, IsRefused, OneOutcome}
use Rattle.c_typing.specs.Program.{IsTyped, program}
use Rattle.c_limits.specs.Limits.{Stands}
use Rattle.c_lacks.specs.Operators.{AreOperators, place_of}
use Rattle.c_lacks.specs.Lacks.{tree_lacks, IsSound, IsToldOf}
use Rattle.pass_driver.specs.Compiling.{limits_broken}
use Rattle.cc_text.specs.Sources.{IsTypedSource, IsSource, IsAccepted, IsRefusedFor}

-- a description has one set of operators
same_bool : (x y : Bool) → (x ≡ true → y ≡ true) → (y ≡ true → x ≡ true) → x ≡ y
same_bool true y f g = sym (f refl)
same_bool false true f g = g refl
same_bool false false f g = refl

module _ (d : RawDescription) (has other : BinOp → Bool) (a : AreOperators d has) (b : AreOperators d other) where
  has_alike : (o : BinOp) → has o ≡ other o
  has_alike o = by_place (place_of o) refl
    where
      by_place : (p : Option ℕ) → place_of o ≡ p → has o ≡ other o
      by_place None e = a.others o e ∙ sym (b.others o e)
      by_place (Some n) e =
          same_bool (has o) (other o) (λ h. (b.covered o n e).1 ((a.covered o n e).0 h)) (λ h. (a.covered o n e).1 ((b.covered o n e).0 h))

  one_set : has ≡ other
  one_set = λ i o. has_alike o i

abbrev tree_or : Syntax → Result Syntax Reason → Syntax
tree_or s (Ok t) = t
tree_or s (Err r) = s

module _ (law : OneOutcome) (source : List ℕ) where
  same_tree : (s t : Syntax) → SpellsTree source s → SpellsTree source t → s ≡ t
  same_tree s t a b = ap (tree_or s) (law source (Ok s) (Ok t) a b)

  spelled_or_refused : (s : Syntax) (r : Reason) → SpellsTree source s → IsRefused source r → ⊥
  spelled_or_refused s r a b = absurd (cc (law source (Ok s) (Err r) a b))

  module _ (w : ℕ) where
    same_typed : (t u : Typed) → IsTypedSource w source t → IsTypedSource w source u → t ≡ u
    same_typed t u a b =
        let is : IsTyped w b.tree t = subst (λ s. IsTyped w s t) (same_tree a.tree b.tree a.spells b.spells) a.typed in
        same_Some _ _ (sym is.tree ∙ b.typed.tree)

    typed_or_told : (t : Typed) (s : Syntax) (r : Reason) → IsTypedSource w source t → SpellsTree source s → IsToldOf (program w s).faults r → ⊥
    typed_or_told t s r a b told =
        let is : IsTyped w s t = subst (λ x. IsTyped w x t) (same_tree a.tree s a.spells b) a.typed in is.sound _ _ told.first.breaks

  module _ (d : RawDescription) (t : Typed) (is : IsSource d source t) where
    refused : (r : Reason) → IsRefusedFor d source r → ⊥
    refused r (IsRefusedFor.by_spelling h) = spelled_or_refused is.typed.tree r is.typed.spells h
    refused r (IsRefusedFor.by_typing s spells told) = typed_or_told d.word t s r is.typed spells told
    refused r (IsRefusedFor.by_limits u typed first) =
        let none : limits_broken d u ≡ [] = subst (λ x. limits_broken d x ≡ []) (same_typed d.word t u is.typed typed) is.within in
        subst (λ fs. Stands r fs) none first.stands
    refused r (IsRefusedFor.by_operators u typed within lacks) =
        let here : IsSound (tree_lacks is.operators.has u) =
        subst (λ x. IsSound (tree_lacks is.operators.has x)) (same_typed d.word t u is.typed typed) is.operators.lacks_none in
        let same : is.operators.has ≡ lacks.has = one_set d is.operators.has lacks.has is.operators.operators lacks.operators in
        let sound : IsSound (tree_lacks lacks.has u) = subst (λ has. IsSound (tree_lacks has u)) same here in
        sound _ _ lacks.first.first.breaks

pub never_both : OneOutcome → (d : RawDescription) (source : List ℕ) (r : Reason) → IsAccepted d source → IsRefusedFor d source r → ⊥
never_both law d source r a refusal = refused law source d a.0 a.1 r refusal
