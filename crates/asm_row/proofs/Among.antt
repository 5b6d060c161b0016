-- A register that has a name is one of the registers.
use Rattle.std.proofs.Common.{◌≡◌, inl, inr, ℕ, Bool, true, false, cond, ◌==◌, List, [], ◌∷◌, Option, Some, None, refl, sym, subst}
use Rattle.std.specs.Prelude.{MatchOption}
use Rattle.std.proofs.lemmas.Bool.{eqb-true}
use Rattle.md_rows.specs.declared.description.Register.{Register}
use Rattle.md_rows.specs.Instances.{register_name}
use Rattle.asm_row.specs.Found.{HasNumberAmong, IsRegister}
use Rattle.asm_row.proofs.HoleValues.{no_item}

first_or : (b : Bool) (r : Register) (rs : List Register) (k : ℕ) (name : List ℕ) → (b ≡ true → r.number ≡ k)
    → (register_name rs k ≡ Some name → HasNumberAmong k rs) → cond b (Some r.name) (register_name rs k) ≡ Some name → HasNumberAmong k (r ∷ rs)
first_or true r rs k name p f e = inl (p refl)
first_or false r rs k name p f e = inr (f e)

is_among : (rs : List Register) (k : ℕ) (name : List ℕ) → register_name rs k ≡ Some name → HasNumberAmong k rs
is_among [] k name e = absurd (no_item name e)
is_among (r ∷ rs) k name e = first_or (r.number == k) r rs k name (eqb-true r.number k) (is_among rs k name) e

pub named_match : (rs : List Register) (class : ℕ) (name : List ℕ) (o : Option ℕ)
    → MatchOption o ((k : ℕ) → HasNumberAmong k rs → IsRegister rs class name k → ⊥) (λ k. IsRegister rs class name k)
    → MatchOption o ((k : ℕ) → IsRegister rs class name k → ⊥) (λ k. IsRegister rs class name k)
named_match rs class name None m = λ k h. m k (is_among rs k name h.1) h
named_match rs class name (Some k) m = m

pub among_match : (rs ss : List Register) (r : Register) (class : ℕ) (name : List ℕ) (o : Option ℕ) → (IsRegister rs class name r.number → ⊥)
    → MatchOption o ((k : ℕ) → HasNumberAmong k ss → IsRegister rs class name k → ⊥) (λ k. IsRegister rs class name k)
    → MatchOption o ((k : ℕ) → HasNumberAmong k (r ∷ ss) → IsRegister rs class name k → ⊥) (λ k. IsRegister rs class name k)
among_match rs ss r class name (Some k) never m = m
among_match rs ss r class name None never m = λ k h i. elim h [ inl e ↦ never (subst (IsRegister rs class name) (sym e) i) | inr q ↦ m k q i ]
