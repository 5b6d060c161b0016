-- What an accepted description gives of its rows.
use Rattle.std.proofs.Common.{◌≡◌, inl, inr, ℕ, zero, suc, ◌<◌, ◌≤◌, Bool, ◌||◌, IsTrue, List, [], ◌∷◌, length, map, take, Some, None, slice_get, Contains, refl, sym, subst, ap, arith}
use Rattle.std.specs.Prelude.{nat_lt}
use Rattle.std.proofs.lemmas.Bool.{cases_order, ltb-false, false_from_ne_true, or_left}
use Rattle.std.proofs.lemmas.Option.{slice_get_within, get_or_from_slice_get}
use Rattle.asm_token.specs.Tokens.{Token, Name as NameToken, Number as NumberToken, Mark as MarkToken}
use Rattle.md_rows.specs.declared.description.Register.{Register}
use Rattle.md_rows.specs.declared.description.RawDescription.{RawDescription}
use Rattle.md_rows.specs.declared.row.Row.{Row}
use Rattle.md_rows.specs.declared.row.Hole.{Hole as RowHole}
use Rattle.md_text.specs.Declarations.{Declared, Declares, registers_in}
use Rattle.md_text.specs.Expansion.{Shown, Fixed, Vacant, holes_in, Expanded, expansions}
use Rattle.md_text.specs.Rules.{has_deep, is_too_large}
use Rattle.md_text.specs.Accepted.{IsAccepted, TooLarge, TooMany, most_rows, pieces_from, row_of, description_of, Says}
use Rattle.md_overlap.specs.Overlap.{Overlap, Meet}
use Rattle.md_said.specs.Sound.{IsSound}
use Rattle.md_said.proofs.Lists.{Each, each_get}
use Rattle.md_said.proofs.Whole.{said_sound}
use Rattle.md_check.specs.Accepted.{IsWhole, Overlapping, normalised, normalised_row}
use Rattle.md_check.specs.Checking.{IsChecked}
use Rattle.asm_row.specs.Readable.{StandInOrder, HasNames, HaveNames, IsReadableRow, IsReadable}
use Rattle.asm_line.proofs.Classes.{rows_named}

-- an item of a mapped list comes from one of the list
record From {A B : Type 0} (f : A → B) (xs : List A) (i : ℕ) (y : B) : Type 0 where
  it : A
  has : slice_get xs i ≡ Some it
  is : f it ≡ y

no_item : {A : Type 0} (y : A) → None ≡ Some y → ⊥
no_item y e = cc

same_item : {A : Type 0} (x y : A) → Some x ≡ Some y → x ≡ y
same_item x y e = cc

from_map : {A B : Type 0} (f : A → B) (xs : List A) (i : ℕ) (y : B) → slice_get (map f xs) i ≡ Some y → From f xs i y
from_map f [] i y e = absurd (no_item y e)
from_map f (x ∷ xs) zero y e = record { it = x; has = refl; is = same_item (f x) y e }
from_map f (x ∷ xs) (suc i) y e = let k = from_map f xs i y e in record { it = k.it; has = k.has; is = k.is }

length_map : {A B : Type 0} (f : A → B) (xs : List A) → length (map f xs) ≡ length xs
length_map f [] = refl
length_map f (x ∷ xs) = ap suc (length_map f xs)

-- holes in order

fixed_in_order : (n : ℕ) (t : Token) (text : List Shown) → StandInOrder n (pieces_from n text) (holes_in text)
    → StandInOrder n (pieces_from n (Fixed t ∷ text)) (holes_in text)
fixed_in_order n (NameToken bytes) text h = h
fixed_in_order n (NumberToken z) text h = h
fixed_in_order n (MarkToken b) text h = h

in_order : (n : ℕ) (text : List Shown) → StandInOrder n (pieces_from n text) (holes_in text)
in_order n [] = tt
in_order n (Fixed t ∷ text) = fixed_in_order n t text (in_order n text)
in_order n (Vacant h ∷ text) = (refl, in_order (suc n) text)

have_names : (rs : List Register) (hs : List RowHole) → Each (HasNames rs) hs → HaveNames rs hs
have_names rs [] h = tt
have_names rs (x ∷ hs) h = (h.0, have_names rs hs h.1)

-- how many rows and holes there are

within_most : {A : Type 0} (n : ℕ) (xs : List A) → ((x : A) → slice_get xs n ≡ Some x → ⊥) → length xs ≤ n
within_most zero [] h = omega arith
within_most zero (x ∷ xs) h = absurd (h x refl)
within_most (suc n) [] h = omega arith
within_most (suc n) (x ∷ xs) h = let k = within_most n xs (λ y e. h y e) in omega arith

take_all : {A : Type 0} (n : ℕ) (xs : List A) → length xs ≤ n → take n xs ≡ xs
take_all zero [] h = refl
take_all (suc n) [] h = refl
take_all zero (x ∷ xs) h = absurd (let k : suc (length xs) ≤ 0 = h in omega arith)
take_all (suc n) (x ∷ xs) h = ap (λ (ys : List _). x ∷ ys) (take_all n xs (let k : suc (length xs) ≤ suc n = h in omega arith))

contains_at : {A : Type 0} (xs : List A) (i : ℕ) (x : A) → slice_get xs i ≡ Some x → Contains xs x
contains_at xs i x e = (i, slice_get_within xs i x e, get_or_from_slice_get xs i x x e)

few_by : (n : ℕ) (deep : Bool) → (IsTrue (nat_lt 8 n || deep) → ⊥) → n ≤ 8
few_by n deep h = ltb-false 8 n (false_from_ne_true (nat_lt 8 n) (λ e. h (or_left (nat_lt 8 n) deep e)))

module _ (text : List ℕ) (dd : Declared) (a : IsAccepted text) (h : Declares text dd) where
  abbrev rows : List Expanded
  rows = expansions dd.width dd.all

  few_rows : length rows ≤ 4096
  few_rows = within_most most_rows rows (λ row e. a TooMany row.line (record { declared = dd; declares = h; breaks = record { row = row; next = e; at = refl } }))

  not_large : (i : ℕ) (row : Expanded) → slice_get rows i ≡ Some row → IsTrue (is_too_large row) → ⊥
  not_large i row e large =
      a TooLarge row.line (record {
        declared = dd;
        declares = h;
        breaks = record {
          row = row;
          counted = subst (λ (xs : List Expanded). Contains xs row) (sym (take_all most_rows rows few_rows)) (contains_at rows i row e);
          at = refl;
          breaks = large;
        };
      })

  abbrev said : RawDescription
  said = description_of dd

  row_readable : (i : ℕ) (row : Expanded) → slice_get rows i ≡ Some row → IsReadableRow said (row_of row)
  row_readable i row e = record {
    in_order = in_order 0 row.text;
    few = few_by (length (holes_in row.text)) (has_deep row.transfer) (not_large i row e);
    named = have_names said.registers (holes_in row.text)
        (each_get (λ x. Each (HasNames (registers_in dd.all)) (holes_in x.text)) rows (rows_named dd.width dd.all) i row e);
  }

  said_readable : (i : ℕ) (row : Row) → slice_get said.rows i ≡ Some row → IsReadableRow said row
  said_readable i row e =
      let k = from_map row_of rows i row e in
      subst (IsReadableRow said) k.is (row_readable i k.it k.has)

  said_few : length said.rows ≤ 4096
  said_few = subst (λ (n : ℕ). n ≤ 4096) (sym (length_map row_of rows)) few_rows

-- rows that overlap are one

turn : {P Q : Token → Type 0} → Meet P Q → Meet Q P
turn m = record { token = m.token; left = m.right; right = m.left }

turn_rows : (d : RawDescription) (r s : Row) → Overlap d r s → Overlap d s r
turn_rows d r s o = record { same_length = sym o.same_length; each = λ i p q e f. turn (o.each i q p f e) }

later : (d : RawDescription) (i j : ℕ) (r s : Row) → IsWhole d → slice_get d.rows i ≡ Some r → slice_get d.rows j ≡ Some s → Overlap d r s → j < i → ⊥
later d i j r s whole e f o less =
    whole Overlapping r.line s.line (record {
      at = i;
      before = slice_get_within d.rows i r e;
      row = r;
      has = e;
      overlap = record { at = j; before = less; other = s; has = f; overlap = o; line_is = refl };
      line_is = refl;
    })

one_row : (d : RawDescription) (i j : ℕ) (r s : Row) → IsWhole d → slice_get d.rows i ≡ Some r → slice_get d.rows j ≡ Some s → Overlap d r s → i ≡ j
one_row d i j r s whole e f o =
    elim (cases_order i j) [
      | inl same ↦ same
      | inr (inl less) ↦ absurd (later d j i s r whole f e (turn_rows d r s o) less)
      | inr (inr more) ↦ absurd (later d i j r s whole e f o more)
    ]

-- the same with normal forms

module _ (d : RawDescription) where
  abbrev n : RawDescription
  n = normalised d

  row_normal : (i : ℕ) (row : Row) → ((k : ℕ) (r : Row) → slice_get d.rows k ≡ Some r → IsReadableRow d r) → slice_get n.rows i ≡ Some row → IsReadableRow n row
  row_normal i row h e =
      let k = from_map (normalised_row d.word) d.rows i row e in
      let r = h i k.it k.has in
      subst (IsReadableRow n) k.is (record { in_order = r.in_order; few = r.few; named = r.named })

  overlap_normal : (r s : Row) → Overlap n (normalised_row d.word r) (normalised_row d.word s) → Overlap d r s
  overlap_normal r s o = record { same_length = o.same_length; each = o.each }

  one_normal : (i j : ℕ) (r s : Row) → IsWhole d → slice_get n.rows i ≡ Some r → slice_get n.rows j ≡ Some s → Overlap n r s → i ≡ j
  one_normal i j r s whole e f o =
      let a = from_map (normalised_row d.word) d.rows i r e in
      let b = from_map (normalised_row d.word) d.rows j s f in
      one_row d i j a.it b.it whole a.has b.has
      (overlap_normal a.it b.it (subst (λ (x : Row). Overlap n x (normalised_row d.word b.it)) (sym a.is) (subst (λ (x : Row). Overlap n r x) (sym b.is) o)))

  normal_readable : IsSound d → IsWhole d → length d.rows ≤ 4096 → ((k : ℕ) (r : Row) → slice_get d.rows k ≡ Some r → IsReadableRow d r) → IsReadable n
  normal_readable sound whole few h = record {
    size = sound.size;
    names = sound.names;
    few = subst (λ (m : ℕ). m ≤ 4096) (sym (length_map (normalised_row d.word) d.rows)) few;
    rows = λ i row e. row_normal i row h e;
    apart = λ i j r s e f o. one_normal i j r s whole e f o;
  }

says_readable : (text : List ℕ) (d : RawDescription) → Says text d → IsWhole d → IsReadable (normalised d)
says_readable text d s whole =
    subst (λ (x : RawDescription). IsWhole x → IsSound x → IsReadable (normalised x)) (sym s.same)
    (λ w sound. normal_readable (description_of s.declared) sound w (said_few text s.declared s.accepted s.declares) (said_readable text s.declared s.accepted s.declares))
    whole (said_sound text d s)

pub checked_readable : (w : ℕ) (d : RawDescription) → IsChecked w d → IsReadable d
checked_readable w d c = subst IsReadable (sym c.normal) (says_readable c.text c.said c.accepted.says c.accepted.whole)
