-- What is known of an accepted description: its registers, its rows, and the shapes that they cover.
use Rattle.std.proofs.Common.{◌≡◌, ◌⊎◌, inl, inr, ℕ, suc, ◌<◌, ◌≤◌, List, [], ◌∷◌, map, length, slice_get, Option, Some, None, refl, sym, subst, ap, arith, ◌∙◌}
use Rattle.rtl_word.specs.Words.{IsWordSize}
use Rattle.md_rows.specs.declared.description.RawDescription.{RawDescription}
use Rattle.md_rows.specs.declared.row.Row.{Row}
use Rattle.md_shapes.specs.Shapes.{Frame}
use Rattle.std.specs.Prelude.{All, AllPairs, ◌≢◌}
use Rattle.md_rows.specs.declared.description.Register.{Register}
use Rattle.md_rows.specs.Instances.{general_set}
use Rattle.md_covers.specs.Covers.{frame_in, general_bits}
use Rattle.md_said.specs.Sound.{SaidIsSound}
use Rattle.md_said.specs.Limits.{SaidIsLimited}
use Rattle.md_check.specs.Accepted.{MissingShape, normalised, normalised_row, HasShape}
use Rattle.md_check.specs.Checking.{IsChecked}
use Rattle.temp_shapes.specs.Rows.{HasRoles}

unequal : (m n : ℕ) → (m < n) → m ≡ n → ⊥
unequal m n l e = omega arith

-- the first shape is covered, and a row covers shapes only where there are these registers
no_frame : (d : RawDescription) → frame_in d ≡ None → HasShape d 1 → ⊥
no_frame d e h =
    let c = h.other (unequal 1 18 (omega arith)) (unequal 1 20 (omega arith)) in
    none_some c.covers.frame (sym e ∙ c.covers.frame_is)
  where
    none_some : (f : Frame) → None ≡ Some f → ⊥
    none_some f e = cc

roles_by : (d : RawDescription) (o : Option Frame) → frame_in d ≡ o → (HasShape d 1 → ⊥) ⊎ HasRoles d
roles_by d (Some f) e = inr (record { frame = f; is = e })
roles_by d None e = inl (no_frame d e)

pub checked_roles : (w : ℕ) (d : RawDescription) → IsChecked w d → HasRoles d
checked_roles w d c =
    subst HasRoles (sym c.normal) (elim (roles_by (normalised c.said) (frame_in (normalised c.said)) refl) [
      | inl n ↦ absurd (c.accepted.whole MissingShape c.said.last 1 (record { misses = record { required = refl; missing = n }; last = refl }))
      | inr r ↦ r
    ])

mapped_length : {A B : Type 0} (f : A → B) (xs : List A) → length (map f xs) ≡ length xs
mapped_length f [] = refl
mapped_length f (x ∷ xs) = ap suc (mapped_length f xs)

pub checked_few : (w : ℕ) (d : RawDescription) → SaidIsLimited → IsChecked w d → length d.rows ≤ 4096
checked_few w d said c =
    subst (λ (e : RawDescription). length e.rows ≤ 4096) (sym c.normal)
    (let l = (said c.text c.said c.accepted.says).few_rows in
    let n = mapped_length (normalised_row c.said.word) c.said.rows in
    omega (arith, l, n))

pub checked_word : (w : ℕ) (d : RawDescription) → IsChecked w d → d.word ≡ w
checked_word w d c = ap (λ (e : RawDescription). e.word) c.normal ∙ c.word

pub checked_size : (w : ℕ) (d : RawDescription) → SaidIsSound → IsChecked w d → IsWordSize d.word
checked_size w d sound c = subst (λ (e : RawDescription). IsWordSize e.word) (sym c.normal) (sound c.text c.said c.accepted.says).size

pub checked_general : (w : ℕ) (d : RawDescription) → SaidIsLimited → IsChecked w d
    → ((rs : List Register) → All (λ r. r.number < 64) rs → AllPairs (λ r s. r.number ≢ s.number) rs → general_bits rs ≡ general_set rs)
    → general_bits d.registers ≡ general_set d.registers
checked_general w d said c sums =
    let l = said c.text c.said c.accepted.says in
    subst (λ (e : RawDescription). general_bits e.registers ≡ general_set e.registers) (sym c.normal) (sums c.said.registers l.numbers l.apart)
