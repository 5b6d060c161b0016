-- Rows by their places, and lists turned round.
use Rattle.std.proofs.Common.{◌≡◌, ◌⊎◌, ◌↔◌, ℕ, zero, suc, ◌+◌, ◌<◌, ◌≤◌, Bool, true, false, cond, nat_lt, nat_le, ◌&&◌, ◌||◌, IsTrue, List, [], ◌∷◌, ◌++◌, map, length, slice_get, get_or, is_some, Option, Some, None, Result, Ok, Err, inl, inr, refl, sym, subst, ap, arith, append_assoc, ◌∙◌}
use Rattle.std.specs.List.{list_any}
use Rattle.std.proofs.lemmas.Option.{slice_get_read, slice_get_within}
use Rattle.std.proofs.lemmas.Bool.Decides.{nat_tests}
use Rattle.md_rows.specs.declared.description.Register.{Register}
use Rattle.md_rows.specs.declared.description.Role.{Role}
use Rattle.md_rows.specs.declared.description.Role.TheVariants.{Link}
use Rattle.md_covers.specs.Covers.{Covers, first_with, same_role}
use Rattle.std.specs.Prelude.{IfOk}
use Rattle.rtl_word.specs.declared.Rel.{Rel}
use Rattle.rtl_word.specs.declared.Rel.TheVariants.{Eq}
use Rattle.md_rows.specs.declared.description.RawDescription.{RawDescription}
use Rattle.md_rows.specs.declared.row.Row.{Row}
use Rattle.md_shapes.specs.declared.table.Shape.{Shape}
use Rattle.md_check.specs.Accepted.{IsCovered, shape}
use Rattle.md_check.specs.Checking.{reversed}

pub item_at : {A : Type 0} (i : ℕ) (xs ys : List A) (x : A) → xs ≡ ys → i < length xs → x ≡ get_or xs i x → slice_get ys i ≡ Some x
item_at i xs ys x e h r = subst (λ (zs : List _). slice_get zs i ≡ Some x) e (slice_get_read xs (length xs) i x refl h r)

some_same : {A : Type 0} (x y : A) → Some x ≡ Some y → x ≡ y
some_same x y e = cc

earlier_by : (n i : ℕ) (b : Bool) → nat_lt n i ≡ b → n < i + 1 → (n < i) ⊎ (n ≡ i)
earlier_by n i true e h = inl (grind (arith, nat_tests))
earlier_by n i false e h = inr (grind (arith, nat_tests))

pub earlier_one : (n i : ℕ) → n < i + 1 → (n < i) ⊎ (n ≡ i)
earlier_one n i h = earlier_by n i (nat_lt n i) refl h

link_found : (b : Bool) (k : ℕ) (x : Bool) (o : Option ℕ) → x ≡ is_some o → (b || x) ≡ is_some (cond b (Some k) o)
link_found true k x o h = refl
link_found false k x o h = h

pub any_first : (role : Role) (rs : List Register) → list_any (λ r. same_role r.role role) rs ≡ is_some (first_with role rs)
any_first role [] = refl
any_first role (r ∷ rs) = link_found (same_role r.role role) r.number (list_any (λ s. same_role s.role role) rs) (first_with role rs) (any_first role rs)

pub reversed_last : {A : Type 0} (xs : List A) (x : A) → reversed (xs ++ x ∷ []) ≡ x ∷ reversed xs
reversed_last [] x = refl
reversed_last (y ∷ xs) x = ap (λ (zs : List _). zs ++ y ∷ []) (reversed_last xs x)

pub map_last : {A B : Type 0} (f : A → B) (xs : List A) (x : A) → map f (xs ++ x ∷ []) ≡ map f xs ++ f x ∷ []
map_last f [] x = refl
map_last f (y ∷ xs) x = ap (λ (zs : List _). f y ∷ zs) (map_last f xs x)

pub reversed_twice : {A : Type 0} (xs : List A) → reversed (reversed xs) ≡ xs
reversed_twice [] = refl
reversed_twice (x ∷ xs) = reversed_last (reversed xs) x ∙ ap (λ (zs : List _). x ∷ zs) (reversed_twice xs)

-- the item that is moved from the end of one list to the end of another
pub turned_step : {A : Type 0} (back rest : List A) (x : A) → (back ++ x ∷ []) ++ reversed rest ≡ back ++ reversed (rest ++ x ∷ [])
turned_step back rest x = append_assoc back (x ∷ []) (reversed rest) ∙ ap (λ (zs : List _). back ++ zs) (sym (reversed_last rest x))

no_some : {A : Type 0} (x : A) → None ≡ Some x → ⊥
no_some x e = cc

pub get_front : {A : Type 0} (xs ys : List A) (i : ℕ) (x : A) → slice_get xs i ≡ Some x → slice_get (xs ++ ys) i ≡ Some x
get_front [] ys i x e = absurd (no_some x e)
get_front (y ∷ xs) ys zero x e = e
get_front (y ∷ xs) ys (suc i) x e = get_front xs ys i x e

pub get_last : {A : Type 0} (xs : List A) (x : A) → slice_get (xs ++ x ∷ []) (length xs) ≡ Some x
get_last [] x = refl
get_last (y ∷ xs) x = get_last xs x

pub ok_by : {A E : Type 0} (r : Result A E) (P Q : A → Type 0) → ((x : A) → P x → Q x) → IfOk r P → IfOk r Q
ok_by (Ok x) P Q f h = f x h
ok_by (Err e) P Q f h = h

-- what no row so far covers, and no flag so far serves

pub within : {A : Type 0} (xs ys : List A) (i j : ℕ) (x : A) → ys ≡ xs → length ys ≤ i → slice_get xs j ≡ Some x → j < i
within xs ys i j x e h k = let l = slice_get_within xs j x k in let s : length ys ≡ length xs = ap length e in omega (arith, l, s, h)

clash : (b : Bool) → b ≡ true → b ≡ false → ⊥
clash b h k = let q : true ≡ false = sym h ∙ k in cc

pub not_covered_next : (d : RawDescription) (s : Shape) (i : ℕ) (row : Row) (b : Bool) → slice_get d.rows i ≡ Some row → IsTrue b ↔ Covers d row s → b ≡ false
    → ((j : ℕ) (r : Row) → j < i → slice_get d.rows j ≡ Some r → Covers d r s → ⊥)
    → (j : ℕ) (r : Row) → j < i + 1 → slice_get d.rows j ≡ Some r → Covers d r s → ⊥
not_covered_next d s i row b has iff never f j r l k x = elim (earlier_one j i l) [
  | inl m ↦ f j r m k x
  | inr m ↦ (let same : r ≡ row = some_same r row (sym k ∙ (ap (λ (n : ℕ). slice_get d.rows n) m ∙ has)) in
      clash b (iff.1 (subst (λ (z : Row). Covers d z s) same x)) never)
]

pub not_flag_next : (d : RawDescription) (r : Rel) (i : ℕ) (b : Bool)
    → IsTrue b ↔ (IsCovered d (shape 20 1 Eq i) × IsCovered d (shape 20 2 r i)) → b ≡ false
    → ((j : ℕ) → j < i → IsCovered d (shape 20 1 Eq j) → IsCovered d (shape 20 2 r j) → ⊥)
    → (j : ℕ) → j < i + 1 → IsCovered d (shape 20 1 Eq j) → IsCovered d (shape 20 2 r j) → ⊥
not_flag_next d r i b iff never f j l x y = elim (earlier_one j i l) [
  | inl m ↦ f j m x y
  | inr m ↦ clash b (iff.1 (subst (λ (n : ℕ). IsCovered d (shape 20 1 Eq n)) m x, subst (λ (n : ℕ). IsCovered d (shape 20 2 r n)) m y)) never
]
