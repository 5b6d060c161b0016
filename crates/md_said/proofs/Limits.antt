-- The numbers of registers, and how many rows and holes there are.
use Rattle.std.proofs.Common.{◌≡◌, ◌≢◌, ◌⊎◌, ℕ, zero, suc, ◌<◌, ◌≤◌, ℤ, pos, negsuc, Bool, true, false, not, cond, nat_lt, ◌||◌, ◌==◌, IsTrue, List, [], ◌∷◌, ◌++◌, length, map, take, filter_map, Option, Some, None, slice_get, All, Contains, inl, inr, refl, sym, subst, ap, arith, ◌∙◌, eq-eqb}
use Rattle.std.specs.Prelude.{AllPairs}
use Rattle.std.specs.List.{list_any, cons_option}
use Rattle.std.specs.Str.{bytes_eq}
use Rattle.std.proofs.lemmas.Bool.Decides.{nat_tests}
use Rattle.std.proofs.lemmas.List.Kept.{AllPairs-cons}
use Rattle.md_rows.specs.declared.description.RawDescription.{RawDescription}
use Rattle.md_rows.specs.declared.description.Register.{Register}
use Rattle.md_rows.specs.declared.row.Row.{Row}
use Rattle.md_text.specs.Forms.{Form, Version, MachineName, WordBits, MemorySize, DataBegin, StackSize, RegisterLine, FlagLine, ClassLine, ModeLine, RowLine}
use Rattle.md_text.specs.Declarations.{Declaration, Declared, Declares, register_of, registers_in, number_of}
use Rattle.md_text.specs.Expansion.{Expanded, holes_in, expansions}
use Rattle.md_text.specs.Heading.{is_from_to, is_out_of_range}
use Rattle.md_text.specs.Rules.{is_declared_twice, is_too_large, has_deep}
use Rattle.md_text.specs.Accepted.{OutOfRange, DeclaredTwice, TooLarge, TooMany, HasBrokenRow, IsAccepted, most_rows, counted_rows, row_of, description_of, Says}
use Rattle.md_said.specs.Limits.{IsLimited, SaidIsLimited}
use Rattle.md_said.proofs.Lists.{Each, each_get, all_of_each}
use Rattle.md_said.proofs.Unbroken.{Unbroken, unbroken_from}
use Rattle.md_said.proofs.Whole.{within_most, take_all, contains_at, mapped_at, false_by}

clash : false ≡ true → ⊥
clash e = cc

-- numbers in range

below_64 : (z : ℤ) → not (is_from_to 0 63 z) ≡ false → number_of z < 64
below_64 (pos n) e = grind (arith, nat_tests)
below_64 (negsuc n) e = absurd (cc)

abbrev AreSmall : List Register → Type 0
AreSmall rs = Each (λ r. r.number < 64) rs

small_cons : (w : ℕ) (before : List Declaration) (form : Form) (rs : List Register) → is_out_of_range w before form ≡ false → AreSmall rs
    → AreSmall (cons_option (register_of form) rs)
small_cons w before (RegisterLine k name role) rs e a = (below_64 k e, a)
small_cons w before _ rs e a = a

small_from : (w : ℕ) (before ds : List Declaration) → Unbroken (is_out_of_range w) before ds → AreSmall (registers_in ds)
small_from w before [] u = tt
small_from w before (d ∷ ds) u = small_cons w before d.form (registers_in ds) u.0 (small_from w (before ++ d ∷ []) ds u.1)

-- numbers that differ

one_more : (a b : Bool) → (a ≡ true) ⊎ (b ≡ true) → (a || b) ≡ true
one_more true b h = refl
one_more false b h = elim h [ inl x ↦ absurd (clash x) | inr y ↦ y ]

split_or : (a b : Bool) → (a || b) ≡ true → (a ≡ true) ⊎ (b ≡ true)
split_or true b h = inl refl
split_or false b h = inr h

-- a register of this number is among these
abbrev has_number : ℕ → List Register → Bool
has_number n rs = list_any (λ r. r.number == n) rs

kept_by : (n : ℕ) (o : Option Register) (rs ss : List Register) → (has_number n rs ≡ true → has_number n ss ≡ true)
    → has_number n (cons_option o rs) ≡ true → has_number n (cons_option o ss) ≡ true
kept_by n None rs ss f h = f h
kept_by n (Some r) rs ss f h = elim (split_or (r.number == n) (has_number n rs) h) [
  | inl x ↦ one_more (r.number == n) (has_number n ss) (inl x)
  | inr y ↦ one_more (r.number == n) (has_number n ss) (inr (f y))
]

kept_number : (n : ℕ) (before ds : List Declaration) → has_number n (registers_in before) ≡ true → has_number n (registers_in (before ++ ds)) ≡ true
kept_number n [] ds h = absurd (clash h)
kept_number n (d ∷ before) ds h =
    kept_by n (register_of d.form) (registers_in before) (registers_in (before ++ ds)) (kept_number n before ds) h

grown_by : (n : ℕ) (o : Option Register) (rs : List Register) → has_number n rs ≡ true → has_number n (cons_option o rs) ≡ true
grown_by n None rs h = h
grown_by n (Some r) rs h = one_more (r.number == n) (has_number n rs) (inr h)

last_number : (before : List Declaration) (d : Declaration) (r : Register) → register_of d.form ≡ Some r
    → has_number r.number (registers_in (before ++ d ∷ [])) ≡ true
last_number [] d r e = subst (λ (o : Option Register). has_number r.number (cons_option o []) ≡ true) (sym e)
    (one_more (r.number == r.number) false (inl (eq-eqb r.number r.number refl)))
last_number (x ∷ before) d r e = grown_by r.number (register_of x.form) (registers_in (before ++ d ∷ [])) (last_number before d r e)

twice_numbered : (name : List ℕ) (n : ℕ) (rs : List Register) → has_number n rs ≡ true → list_any (λ r. r.number == n || bytes_eq r.name name) rs ≡ true
twice_numbered name n [] h = h
twice_numbered name n (r ∷ rs) h = elim (split_or (r.number == n) (has_number n rs) h) [
  | inl x ↦ one_more (r.number == n || bytes_eq r.name name) (list_any (λ s. s.number == n || bytes_eq s.name name) rs)
      (inl (one_more (r.number == n) (bytes_eq r.name name) (inl x)))
  | inr y ↦ one_more (r.number == n || bytes_eq r.name name) (list_any (λ s. s.number == n || bytes_eq s.name name) rs)
      (inr (twice_numbered name n rs y))
]

abbrev AreOthers : ℕ → List Register → Type 0
AreOthers n rs = Each (λ r. n ≢ r.number) rs

other_cons : (n : ℕ) (before : List Declaration) (form : Form) (rs : List Register) → has_number n (registers_in before) ≡ true
    → is_declared_twice before form ≡ false → AreOthers n rs → AreOthers n (cons_option (register_of form) rs)
other_cons n before (RegisterLine k name role) rs h t o =
    (λ e. clash (sym t ∙ twice_numbered name (number_of k) (registers_in before) (subst (λ (m : ℕ). has_number m (registers_in before) ≡ true) e h)), o)
other_cons n before _ rs h t o = o

-- later registers have other numbers than one before them
others_from : (n : ℕ) (before ds : List Declaration) → has_number n (registers_in before) ≡ true → Unbroken is_declared_twice before ds
    → AreOthers n (registers_in ds)
others_from n before [] h u = tt
others_from n before (d ∷ ds) h u =
    other_cons n before d.form (registers_in ds) h u.0 (others_from n (before ++ d ∷ []) ds (kept_number n before (d ∷ []) h) u.1)

abbrev AreApart : List Register → Type 0
AreApart rs = AllPairs (λ r s. r.number ≢ s.number) rs

apart_cons : (o : Option Register) (rs : List Register) → ((r : Register) → o ≡ Some r → AreOthers r.number rs) → AreApart rs → AreApart (cons_option o rs)
apart_cons None rs f a = a
apart_cons (Some r) rs f a = AllPairs-cons (λ r s. r.number ≢ s.number) r rs (all_of_each (λ s. r.number ≢ s.number) rs (f r refl)) a

none_apart : AreApart []
none_apart i j d lt within = absurd (omega arith)

apart_from : (before ds : List Declaration) → Unbroken is_declared_twice before ds → AreApart (registers_in ds)
apart_from before [] u = none_apart
apart_from before (d ∷ ds) u =
    apart_cons (register_of d.form) (registers_in ds) (λ r e. others_from r.number (before ++ d ∷ []) ds (last_number before d r e) u.1)
    (apart_from (before ++ d ∷ []) ds u.1)

-- rows and holes

mapped_length : {A B : Type 0} (f : A → B) (xs : List A) → length (map f xs) ≡ length xs
mapped_length f [] = refl
mapped_length f (x ∷ xs) = ap suc (mapped_length f xs)

neither : (a b : Bool) → (a || b) ≡ false → a ≡ false
neither true b h = h
neither false b h = refl

at_most_8 : (n : ℕ) (b : Bool) → (nat_lt 8 n || b) ≡ false → n ≤ 8
at_most_8 n b e = let k = neither (nat_lt 8 n) b e in grind (arith, nat_tests)

few_holes : (d : Declared) (row : Expanded) → Contains (counted_rows d) row → ((line : ℕ) → HasBrokenRow (λ r. IsTrue (is_too_large r)) d line → ⊥)
    → length (holes_in row.text) ≤ 8
few_holes d row counted h =
    at_most_8 (length (holes_in row.text)) (has_deep row.transfer)
    (false_by (is_too_large row) (λ t. h row.line (record { row = row; counted = counted; at = refl; breaks = t })))

declared_limited : (text : List ℕ) (d : Declared) → IsAccepted text → Declares text d → IsLimited (description_of d)
declared_limited text d a h =
    let ranges = unbroken_from (is_out_of_range d.width) d.all [] d.all refl (λ l b. a OutOfRange l (record { declared = d; declares = h; breaks = b })) in
    let once = unbroken_from is_declared_twice d.all [] d.all refl (λ l b. a DeclaredTwice l (record { declared = d; declares = h; breaks = b })) in
    let all = expansions d.width d.all in
    let few = within_most most_rows all (λ row e. a TooMany row.line (record { declared = d; declares = h; breaks = record { row = row; next = e; at = refl } })) in
    let whole = take_all most_rows all few in
    record {
      numbers = all_of_each (λ r. r.number < 64) (registers_in d.all) (small_from d.width [] d.all ranges);
      apart = apart_from [] d.all once;
      few_rows = (let n = mapped_length row_of all in omega (arith, n, few));
      few_holes = mapped_at row_of (λ r. length r.holes ≤ 8) all
          (λ i e k. few_holes d e (subst (λ (xs : List Expanded). Contains xs e) (sym whole) (contains_at all i e k))
          (λ l b. a TooLarge l (record { declared = d; declares = h; breaks = b })));
    }

pub said_limited : SaidIsLimited
said_limited text raw s = subst IsLimited (sym s.same) (declared_limited text s.declared s.accepted s.declares)
