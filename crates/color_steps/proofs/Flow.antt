-- Where the transfer at the end of a block leads.
use Rattle.std.proofs.Common.{◌≡◌, ℕ, zero, suc, Option, Some, None, Result, Ok, Err, List, refl, sym, ap, ◌∙◌, inl, inr}
use Rattle.std.specs.Prelude.{◌⊎◌}
use Rattle.rtl_tree.specs.declared.cells.Cell.TheVariants.{Pc}
use Rattle.rtl_tree.specs.declared.cells.Lab.TheVariants.{Block, Function}
use Rattle.rtl_tree.specs.declared.expressions.BinOp.TheVariants.{Add, Sub, Mul, Div, Divu, Rem, Remu, And, Or, Xor, Shl, Shr, Shru, Cmp, Pair, When}
use Rattle.rtl_tree.specs.Trees.{Tree, Number, Symbol, CodeLabel, Read, Load, Unary, Binary, NoPair, AnyNumber, AnyName}
use Rattle.rtl_tree.specs.Moves.{Move}
use Rattle.rtl_effect.specs.Views.{Stop, Wild, View, bind, seen}
use Rattle.rtl_effect.specs.Effects.{Done, tested, event, assigned, went, chosen, aimed, patch_of, storing, effect}
use Rattle.temp_machine.specs.Flow.{label_by}

bind_ok : {A B : Type 0} (u : Result A Stop) (f : A → Result B Stop) (y : B) → bind u f ≡ Ok y → (x : A) × (u ≡ Ok x) × (f x ≡ Ok y)
bind_ok (Ok x) f y e = (x, refl, e)
bind_ok (Err s) f y e = absurd (let k : Err s ≡ Ok y = e in cc)

abbrev from_ok : {A : Type 0} → A → Result A Stop → A
from_ok d (Ok x) = x
from_ok d (Err s) = d

same_ok : {A : Type 0} (x y : A) → ◌≡◌ {A = Result A Stop} (Ok x) (Ok y) → x ≡ y
same_ok x y e = ap (λ r. from_ok x r) e

-- the place where a transfer goes on
pub place_went : (w : ℕ) (ms : List Move) (v : View) (d : Done) → effect w ms v ≡ Ok d → went w (assigned ms Pc) v ≡ Ok d.place
place_went w ms v d e =
    let a = bind_ok (tested w ms v) _ d e in
    let b = bind_ok (event w (assigned ms Rattle.rtl_tree.specs.declared.cells.Cell.TheVariants.Output) v) _ d (a.2) in
    let c = bind_ok (event w (assigned ms Rattle.rtl_tree.specs.declared.cells.Cell.TheVariants.Halt) v) _ d (b.2) in
    let q = bind_ok (went w (assigned ms Pc) v) _ d (c.2) in
    let p = bind_ok (patch_of w (storing ms) v) _ d (q.2) in
    q.1 ∙ ap (λ (x : Done). Ok x.place) (same_ok _ _ (p.2))

none_some : {A : Type 0} (l : ℕ) → None ≡ Some l → A
none_some l e = absurd (let k : None ≡ Some l = e in cc)

module _ (w : ℕ) (v : View) (l : ℕ) (q : Option ℕ) (targets : (k : ℕ) → v.targets (Block k) ≡ Some k) where
  abbrev Leads : Type 0
  Leads = (q ≡ v.cells Pc) ⊎ (q ≡ Some l)

  chosen_is : (x y : Option ℕ) → chosen v x y ≡ Ok q → (q ≡ v.cells Pc) ⊎ (q ≡ y)
  chosen_is (Some zero) y e = inl (sym (same_ok _ _ e))
  chosen_is (Some (suc n)) (Some y) e = inr (sym (same_ok _ _ e))
  chosen_is (Some (suc n)) None e = absurd (let b : Err Wild ≡ Ok q = e in cc)
  chosen_is None y e = absurd (let b : Err Wild ≡ Ok q = e in cc)

  -- a jump to the label of a block
  jump_is : (k : ℕ) → Some k ≡ Some l → went w (Some (CodeLabel (Block k))) v ≡ Ok q → q ≡ Some l
  jump_is k e g = same_ok _ _ (sym g ∙ ap aimed (targets k)) ∙ e

  choice_is : (c : Tree) (k : ℕ) → Some k ≡ Some l → went w (Some (Binary When c (CodeLabel (Block k)))) v ≡ Ok q → Leads
  choice_is c k e g =
      let first = bind_ok (seen w c v) _ q g in
      by (chosen_is (first.0) (v.targets (Block k)) (first.2))
    where
      by : (q ≡ v.cells Pc) ⊎ (q ≡ v.targets (Block k)) → Leads
      by (inl x) = inl x
      by (inr x) = inr (x ∙ targets k ∙ e)

  when_is : (c t : Tree) → label_by (Some (Binary When c t)) ≡ Some l → went w (Some (Binary When c t)) v ≡ Ok q → Leads
  when_is c (CodeLabel (Block k)) e g = choice_is c k e g
  when_is c (CodeLabel (Function f)) e g = none_some l e
  when_is c (Number n) e g = none_some l e
  when_is c (Symbol n) e g = none_some l e
  when_is c (Read d) e g = none_some l e
  when_is c (Load d a) e g = none_some l e
  when_is c (Unary o a) e g = none_some l e
  when_is c (Binary o a b) e g = none_some l e
  when_is c NoPair e g = none_some l e
  when_is c (AnyNumber n) e g = none_some l e
  when_is c (AnyName n) e g = none_some l e

  -- a transfer with this label goes there, or on
  pub label_leads : (o : Option Tree) → label_by o ≡ Some l → went w o v ≡ Ok q → Leads
  label_leads None e g = none_some l e
  label_leads (Some (Number n)) e g = none_some l e
  label_leads (Some (Symbol n)) e g = none_some l e
  label_leads (Some (CodeLabel (Block k))) e g = inr (jump_is k e g)
  label_leads (Some (CodeLabel (Function f))) e g = none_some l e
  label_leads (Some (Read d)) e g = none_some l e
  label_leads (Some (Load d a)) e g = none_some l e
  label_leads (Some (Unary o a)) e g = none_some l e
  label_leads (Some (Binary When a b)) e g = when_is a b e g
  label_leads (Some (Binary Add a b)) e g = none_some l e
  label_leads (Some (Binary Sub a b)) e g = none_some l e
  label_leads (Some (Binary Mul a b)) e g = none_some l e
  label_leads (Some (Binary Div a b)) e g = none_some l e
  label_leads (Some (Binary Divu a b)) e g = none_some l e
  label_leads (Some (Binary Rem a b)) e g = none_some l e
  label_leads (Some (Binary Remu a b)) e g = none_some l e
  label_leads (Some (Binary And a b)) e g = none_some l e
  label_leads (Some (Binary Or a b)) e g = none_some l e
  label_leads (Some (Binary Xor a b)) e g = none_some l e
  label_leads (Some (Binary Shl a b)) e g = none_some l e
  label_leads (Some (Binary Shr a b)) e g = none_some l e
  label_leads (Some (Binary Shru a b)) e g = none_some l e
  label_leads (Some (Binary (Cmp r) a b)) e g = none_some l e
  label_leads (Some (Binary Pair a b)) e g = none_some l e
  label_leads (Some NoPair) e g = none_some l e
  label_leads (Some (AnyNumber n)) e g = none_some l e
  label_leads (Some (AnyName n)) e g = none_some l e

-- a jump to the label of a block goes there
pub jump_leads : (w : ℕ) (v : View) (l : ℕ) (q : Option ℕ) (o : Option Tree) → ((k : ℕ) → v.targets (Block k) ≡ Some k) → o ≡ Some (CodeLabel (Block l)) → went w o v ≡ Ok q → q ≡ Some l
jump_leads w v l q o targets e g = jump_is w v l q targets l refl (ap (λ x. went w x v) (sym e) ∙ g)
