-- Each register of a class of an accepted description is declared, so it has a name.
use Rattle.std.proofs.Common.{◌≡◌, ◌⊎◌, inl, inr, ℕ, ◌^◌, max, Bool, true, false, cond, ◌==◌, IsTrue, List, [], ◌∷◌, ◌++◌, map, flat_map, fold, bit_or, Option, Some, None, option_map, unwrap_or, is_some, refl, sym, ap, subst, ◌∙◌, arith}
use Rattle.std.specs.Int.{bit_at}
use Rattle.std.specs.List.{find, cons_option}
use Rattle.std.specs.Str.{bytes_eq}
use Rattle.std.proofs.lemmas.Bool.{eqb-true, eq-eqb, cases_eq}
use Rattle.std.proofs.lemmas.Nat.Bits.{bit_at-zero, bit_at_or, bit_at-pow_other}
use Rattle.md_rows.specs.declared.description.Register.{Register}
use Rattle.md_rows.specs.declared.row.Hole.{Hole as RowHole}
use Rattle.md_rows.specs.Fits.{is_in}
use Rattle.md_rows.specs.Instances.{register_name}
use Rattle.md_text.specs.Pieces.{Kind, Named, Numbers, Symbols, Labels, Slot, Piece, Literal, Hole, slots, has_name}
use Rattle.md_text.specs.Forms.{Form, Version, MachineName, WordBits, MemorySize, DataBegin, StackSize, RegisterLine, FlagLine, ClassLine, ModeLine, RowLine}
use Rattle.md_text.specs.Declarations.{Declaration, Class, Alternative, registers_in, classes_in, mode_names, register_bit, register_bits, class_bits}
use Rattle.md_text.specs.Expansion.{Shown, taken_by, Filling, shown, filling_of, itself, alternatives_of, fillings, choices, hole_of, holes_in, replaced, Expanded, expanded, expansions_of, expansions}
use Rattle.md_said.proofs.Lists.{Each, each_append, each_map, each_flat_map}
use Rattle.asm_row.specs.Readable.{HasNames}

-- the registers of these bits are declared
abbrev AreDeclared : List Register → ℕ → Type 0
AreDeclared rs bits = (k : ℕ) → IsTrue (is_in bits k) → IsTrue (is_some (register_name rs k))

none_declared : (rs : List Register) → AreDeclared rs 0
none_declared rs k h = let one : bit_at 0 k ≡ 1 = eqb-true (bit_at 0 k) 1 h in absurd (omega (arith, one, bit_at-zero k))

in_pow : (n k : ℕ) → IsTrue (is_in (2 ^ n) k) → n ≡ k
in_pow n k h =
    let one : bit_at (2 ^ n) k ≡ 1 = eqb-true (bit_at (2 ^ n) k) 1 h in
    elim (cases_eq k n) [ inl e ↦ sym e | inr d ↦ absurd (omega (arith, one, bit_at-pow_other n k d)) ]

one_of : (a b : ℕ) → max a b ≡ 1 → (a ≡ 1) ⊎ (b ≡ 1)
one_of a b h = grind (arith, h)

declared_or : (rs : List Register) (a b : ℕ) → AreDeclared rs a → AreDeclared rs b → AreDeclared rs (bit_or a b)
declared_or rs a b h g k i =
    let one : max (bit_at a k) (bit_at b k) ≡ 1 = sym (bit_at_or a b k) ∙ eqb-true (bit_at (bit_or a b) k) 1 i in
    elim (one_of (bit_at a k) (bit_at b k) one) [ inl e ↦ h k (eq-eqb (bit_at a k) 1 e) | inr e ↦ g k (eq-eqb (bit_at b k) 1 e) ]

-- a register more

named_first : (k n : ℕ) (name : List ℕ) (rest : Option (List ℕ)) → n ≡ k → IsTrue (is_some (cond (n == k) (Some name) rest))
named_first k n name rest e = rw (eq-eqb n k e) refl

named_later : (b : Bool) (name : List ℕ) (rest : Option (List ℕ)) → IsTrue (is_some rest) → IsTrue (is_some (cond b (Some name) rest))
named_later true name rest h = refl
named_later false name rest h = h

bit_of_either : (rs : List Register) (r : Register) (b : Bool) (o : Option Register) → AreDeclared rs (unwrap_or (option_map (λ s. 2 ^ s.number) o) 0)
    → AreDeclared (r ∷ rs) (unwrap_or (option_map (λ s. 2 ^ s.number) (cond b (Some r) o)) 0)
bit_of_either rs r true o h k i = named_first k r.number r.name (register_name rs k) (in_pow r.number k i)
bit_of_either rs r false o h k i = named_later (r.number == k) r.name (register_name rs k) (h k i)

bit_declared : (rs : List Register) (name : List ℕ) → AreDeclared rs (register_bit rs name)
bit_declared [] name = none_declared []
bit_declared (r ∷ rs) name = bit_of_either rs r (bytes_eq r.name name) (find (λ s. bytes_eq s.name name) rs) (bit_declared rs name)

bits_declared : (rs : List Register) (names : List (List ℕ)) (bits : ℕ) → AreDeclared rs bits
    → AreDeclared rs (fold (λ b name. bit_or b (register_bit rs name)) bits names)
bits_declared rs [] bits h = h
bits_declared rs (name ∷ names) bits h =
    bits_declared rs names (bit_or bits (register_bit rs name)) (declared_or rs bits (register_bit rs name) h (bit_declared rs name))

some_declared : (rs : List Register) (o : Option Class) → AreDeclared rs (unwrap_or (option_map (λ c. register_bits rs c.registers) o) 0)
some_declared rs None = none_declared rs
some_declared rs (Some c) = bits_declared rs c.registers 0 (none_declared rs)

class_declared : (ds : List Declaration) (name : List ℕ) → AreDeclared (registers_in ds) (class_bits ds name)
class_declared ds name = some_declared (registers_in ds) (find (λ c. bytes_eq c.name name) (classes_in ds))

-- the holes of rows without modes

module _ (w : ℕ) (ds : List Declaration) where
  abbrev Named_ : RowHole → Type 0
  Named_ = HasNames (registers_in ds)

  taken_named : (kind : Kind) → Named_ (taken_by w ds kind)
  taken_named (Named name) = λ k small i. class_declared ds name k i
  taken_named (Numbers inverted range) = tt
  taken_named Symbols = tt
  taken_named Labels = tt

  shown_named : (text : List Piece) → Each Named_ (holes_in (map (shown w ds) text))
  shown_named [] = tt
  shown_named (Literal t ∷ text) = shown_named text
  shown_named (Hole h ∷ text) = (taken_named h.kind, shown_named text)

  abbrev IsNamedFilling : Filling → Type 0
  IsNamedFilling f = Each Named_ (holes_in f.text)

  either_named : (b : Bool) (fs gs : List Filling) → Each IsNamedFilling fs → Each IsNamedFilling gs → Each IsNamedFilling (cond b fs gs)
  either_named true fs gs h k = h
  either_named false fs gs h k = k

  modes_named : (xs : List Alternative) → Each IsNamedFilling (map (filling_of w ds) xs)
  modes_named [] = tt
  modes_named (x ∷ xs) = (shown_named x.text, modes_named xs)

  fillings_named : (kind : Kind) → Each IsNamedFilling (fillings w ds kind)
  fillings_named (Named name) =
      either_named (has_name (mode_names ds) name) (map (filling_of w ds) (alternatives_of ds name)) (itself (taken_by w ds (Named name)) ∷ [])
      (modes_named (alternatives_of ds name)) ((taken_named (Named name), tt), tt)
  fillings_named (Numbers inverted range) = ((tt, tt), tt)
  fillings_named Symbols = ((tt, tt), tt)
  fillings_named Labels = ((tt, tt), tt)

  choices_named : (hs : List Slot) → Each (Each IsNamedFilling) (choices (map (λ h. fillings w ds h.kind) hs))
  choices_named [] = (tt, tt)
  choices_named (x ∷ hs) =
      each_flat_map IsNamedFilling (Each IsNamedFilling) (λ f. map (λ fs. f ∷ fs) (choices (map (λ h. fillings w ds h.kind) hs)))
      (λ f g. each_map (Each IsNamedFilling) (Each IsNamedFilling) (λ fs. f ∷ fs) (λ fs k. (g, k)) (choices (map (λ h. fillings w ds h.kind) hs)) (choices_named hs))
      (fillings w ds x.kind) (fillings_named x.kind)

  holes_cons : (o : Option RowHole) (xs ys : List RowHole) → cons_option o (xs ++ ys) ≡ cons_option o xs ++ ys
  holes_cons None xs ys = refl
  holes_cons (Some x) xs ys = refl

  holes_append : (xs ys : List Shown) → holes_in (xs ++ ys) ≡ holes_in xs ++ holes_in ys
  holes_append [] ys = refl
  holes_append (x ∷ xs) ys = ap (cons_option (hole_of x)) (holes_append xs ys) ∙ holes_cons (hole_of x) (holes_in xs) (holes_in ys)

  replaced_named : (text : List Piece) (fs : List Filling) → Each IsNamedFilling fs → Each Named_ (holes_in (replaced text fs))
  replaced_named [] fs h = tt
  replaced_named (Literal t ∷ text) fs h = replaced_named text fs h
  replaced_named (Hole x ∷ text) [] h = tt
  replaced_named (Hole x ∷ text) (f ∷ fs) h =
      subst (Each Named_) (sym (holes_append f.text (replaced text fs)))
      (each_append Named_ (holes_in f.text) (holes_in (replaced text fs)) h.0 (replaced_named text fs h.1))

  abbrev IsNamedRow : Expanded → Type 0
  IsNamedRow row = Each Named_ (holes_in row.text)

  row_named : (line : ℕ) (form : Form) → Each IsNamedRow (expansions_of w ds line form)
  row_named line (RowLine text t) =
      each_map (Each IsNamedFilling) IsNamedRow (expanded line text t) (λ fs k. replaced_named text fs k)
      (choices (map (λ x. fillings w ds x.kind) (slots text))) (choices_named (slots text))
  row_named line (ModeLine n x y) = tt
  row_named line Version = tt
  row_named line (MachineName n) = tt
  row_named line (WordBits z) = tt
  row_named line (MemorySize z) = tt
  row_named line (DataBegin z) = tt
  row_named line (StackSize z) = tt
  row_named line (RegisterLine k n role) = tt
  row_named line (FlagLine k n) = tt
  row_named line (ClassLine n ns) = tt

  rows_of_named : (some : List Declaration) → Each IsNamedRow (flat_map (λ d. expansions_of w ds d.line d.form) some)
  rows_of_named [] = tt
  rows_of_named (d ∷ some) =
      each_append IsNamedRow (expansions_of w ds d.line d.form) (flat_map (λ d. expansions_of w ds d.line d.form) some)
      (row_named d.line d.form) (rows_of_named some)

  -- the registers of the classes of each row's holes are declared
  pub rows_named : Each (λ row. Each (HasNames (registers_in ds)) (holes_in row.text)) (expansions w ds)
  rows_named = rows_of_named ds
