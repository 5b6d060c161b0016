-- What is known of an accepted description.
use Rattle.std.proofs.Common.{◌≡◌, ◌≢◌, ℕ, zero, suc, ◌<◌, ◌≤◌, List, [], ◌∷◌, map, length, slice_get, Some, None, All, refl, sym, subst, ap, arith, ◌∙◌}
use Rattle.std.specs.Prelude.{AllPairs}
use Rattle.rtl_word.specs.Words.{IsWordSize}
use Rattle.md_rows.specs.declared.description.RawDescription.{RawDescription}
use Rattle.md_rows.specs.declared.description.Register.{Register}
use Rattle.md_rows.specs.declared.row.Row.{Row}
use Rattle.md_rows.specs.Instances.{general_set}
use Rattle.md_covers.specs.Covers.{IsReadRow, general_bits}
use Rattle.md_said.specs.Sound.{SaidIsSound}
use Rattle.md_said.specs.Limits.{IsLimited, SaidIsLimited}
use Rattle.md_check.specs.Accepted.{normalised, normalised_row}
use Rattle.md_check.specs.Checking.{IsChecked}
use Rattle.md_check.proofs.Telling.{checked_rows}
use Rattle.recogniser.specs.Searching.{IsSound}

no_some : {A : Type 0} (x : A) → None ≡ Some x → ⊥
no_some x e = cc

some_same : {A : Type 0} (x y : A) → Some x ≡ Some y → x ≡ y
some_same x y e = cc

mapped_length : {A B : Type 0} (f : A → B) (xs : List A) → length (map f xs) ≡ length xs
mapped_length f [] = refl
mapped_length f (x ∷ xs) = ap suc (mapped_length f xs)

-- a row with its normal form has the holes of the row
few_at : (w : ℕ) (rows : List Row) → ((k : ℕ) (row : Row) → slice_get rows k ≡ Some row → length row.holes ≤ 8)
    → (k : ℕ) (row : Row) → slice_get (map (normalised_row w) rows) k ≡ Some row → length row.holes ≤ 8
few_at w [] f k row e = absurd (no_some row e)
few_at w (r ∷ rows) f zero row e = subst (λ (x : Row). length x.holes ≤ 8) (some_same (normalised_row w r) row e) (f zero r refl)
few_at w (r ∷ rows) f (suc k) row e = few_at w rows (λ i x h. f (suc i) x h) k row e

limited : (d : RawDescription) → IsLimited d → IsLimited (normalised d)
limited d h = record {
  numbers = h.numbers;
  apart = h.apart;
  few_rows = (let n = mapped_length (normalised_row d.word) d.rows in let l = h.few_rows in omega (arith, n, l));
  few_holes = few_at d.word d.rows h.few_holes;
}

-- the limits hold of the description that was accepted
pub checked_limited : (w : ℕ) (d : RawDescription) → SaidIsLimited → IsChecked w d → IsLimited d
checked_limited w d said c = subst IsLimited (sym c.normal) (limited c.said (said c.text c.said c.accepted.says))

checked_word : (w : ℕ) (d : RawDescription) → IsChecked w d → d.word ≡ w
checked_word w d c = ap (λ (e : RawDescription). e.word) c.normal ∙ c.word

checked_size : (w : ℕ) (d : RawDescription) → SaidIsSound → IsChecked w d → IsWordSize d.word
checked_size w d sound c = subst (λ (e : RawDescription). IsWordSize e.word) (sym c.normal) (sound c.text c.said c.accepted.says).size

pub checked_sound : (w : ℕ) (d : RawDescription) → SaidIsSound → SaidIsLimited → IsChecked w d → IsSound d
checked_sound w d sound said c =
    let l = checked_limited w d said c in
    record {
      size = checked_size w d sound c;
      few_rows = l.few_rows;
      rows = λ k row has. record {
        few_holes = l.few_holes k row has;
        read = subst (λ (v : ℕ). IsReadRow v row) (sym (checked_word w d c)) (checked_rows w d sound c k row has);
      };
    }

pub checked_general : (w : ℕ) (d : RawDescription) → SaidIsLimited → IsChecked w d
    → ((rs : List Register) → All (λ r. r.number < 64) rs → AllPairs (λ r s. r.number ≢ s.number) rs → general_bits rs ≡ general_set rs)
    → general_bits d.registers ≡ general_set d.registers
checked_general w d said c sums = let l = checked_limited w d said c in sums d.registers l.numbers l.apart
