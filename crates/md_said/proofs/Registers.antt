-- The names of registers differ, and aren't reserved.
use Rattle.std.proofs.Common.{◌≡◌, ◌⊎◌, ℕ, Bool, true, false, ◌||◌, ◌==◌, List, [], ◌∷◌, ◌++◌, filter_map, Option, Some, None, refl, sym, subst, ap, inl, inr, ◌∙◌}
use Rattle.std.specs.List.{list_any, cons_option}
use Rattle.std.specs.Str.{bytes_eq}
use Rattle.std.proofs.lemmas.Slice.Eq.{bytes_eq-Decides}
use Rattle.md_rows.specs.declared.description.Register.{Register}
use Rattle.md_text.specs.Forms.{Form, Version, MachineName, WordBits, MemorySize, DataBegin, StackSize, RegisterLine, FlagLine, ClassLine, ModeLine, RowLine}
use Rattle.md_text.specs.Declarations.{Declaration, register_of, registers_in, number_of}
use Rattle.md_text.specs.Rules.{is_declared_twice, has_reserved_name, is_reserved}
use Rattle.md_overlap.specs.Premises.{IsOther, AreNames}
use Rattle.md_said.proofs.Unbroken.{Unbroken}

-- a register of this name is among these
abbrev has_named : List ℕ → List Register → Bool
has_named name rs = list_any (λ r. bytes_eq r.name name) rs

clash : false ≡ true → ⊥
clash e = cc

one_more : (a b : Bool) → (a ≡ true) ⊎ (b ≡ true) → (a || b) ≡ true
one_more true b h = refl
one_more false b h = elim h [ inl x ↦ absurd (clash x) | inr y ↦ y ]

split_or : (a b : Bool) → (a || b) ≡ true → (a ≡ true) ⊎ (b ≡ true)
split_or true b h = inl refl
split_or false b h = inr h

-- a register that is declared stays so, and the last one is declared too

kept_by : (name : List ℕ) (o : Option Register) (rs ss : List Register) → (has_named name rs ≡ true → has_named name ss ≡ true)
    → has_named name (cons_option o rs) ≡ true → has_named name (cons_option o ss) ≡ true
kept_by name None rs ss f h = f h
kept_by name (Some r) rs ss f h = elim (split_or (bytes_eq r.name name) (has_named name rs) h) [
  | inl x ↦ one_more (bytes_eq r.name name) (has_named name ss) (inl x)
  | inr y ↦ one_more (bytes_eq r.name name) (has_named name ss) (inr (f y))
]

kept_named : (name : List ℕ) (before ds : List Declaration) → has_named name (registers_in before) ≡ true
    → has_named name (registers_in (before ++ ds)) ≡ true
kept_named name [] ds h = absurd (clash h)
kept_named name (d ∷ before) ds h =
    kept_by name (register_of d.form) (registers_in before) (registers_in (before ++ ds)) (kept_named name before ds) h

grown_by : (name : List ℕ) (o : Option Register) (rs : List Register) → has_named name rs ≡ true → has_named name (cons_option o rs) ≡ true
grown_by name None rs h = h
grown_by name (Some r) rs h = one_more (bytes_eq r.name name) (has_named name rs) (inr h)

bytes_same : (name : List ℕ) → bytes_eq name name ≡ true
bytes_same name = (bytes_eq-Decides name name).1 refl

last_named : (before : List Declaration) (d : Declaration) (r : Register) → register_of d.form ≡ Some r
    → has_named r.name (registers_in (before ++ d ∷ [])) ≡ true
last_named [] d r e = subst (λ (o : Option Register). has_named r.name (cons_option o []) ≡ true) (sym e)
    (one_more (bytes_eq r.name r.name) false (inl (bytes_same r.name)))
last_named (x ∷ before) d r e = grown_by r.name (register_of x.form) (registers_in (before ++ d ∷ [])) (last_named before d r e)

-- whether a register is declared twice

twice_named : (name : List ℕ) (n : ℕ) (rs : List Register) → has_named name rs ≡ true
    → list_any (λ r. r.number == n || bytes_eq r.name name) rs ≡ true
twice_named name n [] h = h
twice_named name n (r ∷ rs) h = elim (split_or (bytes_eq r.name name) (has_named name rs) h) [
  | inl x ↦ one_more (r.number == n || bytes_eq r.name name) (list_any (λ s. s.number == n || bytes_eq s.name name) rs)
      (inl (one_more (r.number == n) (bytes_eq r.name name) (inr x)))
  | inr y ↦ one_more (r.number == n || bytes_eq r.name name) (list_any (λ s. s.number == n || bytes_eq s.name name) rs)
      (inr (twice_named name n rs y))
]

other_cons : (name : List ℕ) (before : List Declaration) (form : Form) (rs : List Register) → has_named name (registers_in before) ≡ true
    → is_declared_twice before form ≡ false → IsOther name rs → IsOther name (cons_option (register_of form) rs)
other_cons name before (RegisterLine k other role) rs h t o =
    (λ e. clash (sym t ∙ twice_named other (number_of k) (registers_in before) (subst (λ (m : List ℕ). has_named m (registers_in before) ≡ true) e h)), o)
other_cons name before Version rs h t o = o
other_cons name before (MachineName n) rs h t o = o
other_cons name before (WordBits z) rs h t o = o
other_cons name before (MemorySize z) rs h t o = o
other_cons name before (DataBegin z) rs h t o = o
other_cons name before (StackSize z) rs h t o = o
other_cons name before (FlagLine k n) rs h t o = o
other_cons name before (ClassLine n ns) rs h t o = o
other_cons name before (ModeLine n x y) rs h t o = o
other_cons name before (RowLine x y) rs h t o = o

-- later registers have other names than one before them
others_from : (name : List ℕ) (before ds : List Declaration) → has_named name (registers_in before) ≡ true → Unbroken is_declared_twice before ds
    → IsOther name (registers_in ds)
others_from name before [] h u = tt
others_from name before (d ∷ ds) h u =
    other_cons name before d.form (registers_in ds) h u.0 (others_from name (before ++ d ∷ []) ds (kept_named name before (d ∷ []) h) u.1)

names_cons : (before : List Declaration) (form : Form) (rs : List Register) → has_reserved_name before form ≡ false
    → ((r : Register) → register_of form ≡ Some r → IsOther r.name rs) → AreNames rs → AreNames (cons_option (register_of form) rs)
names_cons before (RegisterLine k name role) rs f o a = (f, o (record { number = number_of k; name = name; role = role }) refl, a)
names_cons before Version rs f o a = a
names_cons before (MachineName n) rs f o a = a
names_cons before (WordBits z) rs f o a = a
names_cons before (MemorySize z) rs f o a = a
names_cons before (DataBegin z) rs f o a = a
names_cons before (StackSize z) rs f o a = a
names_cons before (FlagLine k n) rs f o a = a
names_cons before (ClassLine n ns) rs f o a = a
names_cons before (ModeLine n x y) rs f o a = a
names_cons before (RowLine x y) rs f o a = a

pub names_from : (before ds : List Declaration) → Unbroken is_declared_twice before ds → Unbroken has_reserved_name before ds
    → AreNames (registers_in ds)
names_from before [] t f = tt
names_from before (d ∷ ds) t f =
    names_cons before d.form (registers_in ds) f.0
    (λ r e. others_from r.name (before ++ d ∷ []) ds (last_named before d r e) t.1)
    (names_from (before ++ d ∷ []) ds t.1 f.1)
