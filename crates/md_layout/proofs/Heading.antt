-- What the heading of an accepted text says: the lines of memory, data and stack, in this order.
use Rattle.std.proofs.Common.{◌≡◌, ℕ, ◌+◌, ◌/◌, ◌%◌, ◌<◌, ◌≤◌, ℤ, pos, negsuc, Bool, true, false, not, ◌&&◌, List, [], ◌∷◌, ◌++◌, filter_map, length, Option, Some, None, refl, sym, subst, ap, arith, ◌∙◌}
use Rattle.std.specs.Prelude.{nat_lt, ◌==◌}
use Rattle.std.specs.List.{cons_option}
use Rattle.std.proofs.lemmas.Bool.Decides.{nat_tests}
use Rattle.md_text.specs.Forms.{Form, MemorySize, DataBegin, StackSize}
use Rattle.md_text.specs.Declarations.{Declaration, Declared, Declares, number_of, first_number, memory_number, data_number, stack_number, memory_in, data_in, stack_in}
use Rattle.md_text.specs.Heading.{place_in_heading, breaks_heading, is_whole, is_from_to, leaves_room, is_out_of_range}
use Rattle.md_text.specs.Accepted.{BadHeading, OutOfRange, elsewhere, unfinished, IsAccepted, description_of}
use Rattle.md_said.proofs.Forms.{both_of}
use Rattle.md_said.proofs.Unbroken.{Unbroken, unbroken_from}
use Rattle.md_layout.specs.Layout.{IsLaidOut, SaidIsLaidOut}

not_false : (b : Bool) → not b ≡ false → b ≡ true
not_false true h = refl
not_false false h = let q : true ≡ false = h in cc

same_place : (p k : ℕ) → not (p == k) ≡ false → p ≡ k
same_place p k h = let e = not_false (p == k) h in grind (arith, nat_tests, e)

memory_line : (form : Form) → place_in_heading form ≡ 3 → (z : ℤ) × (form ≡ MemorySize z)
memory_line (MemorySize z) e = (z, refl)
memory_line _ e = absurd (omega (arith, e))

data_line : (form : Form) → place_in_heading form ≡ 4 → (z : ℤ) × (form ≡ DataBegin z)
data_line (DataBegin z) e = (z, refl)
data_line _ e = absurd (omega (arith, e))

stack_line : (form : Form) → place_in_heading form ≡ 5 → (z : ℤ) × (form ≡ StackSize z)
stack_line (StackSize z) e = (z, refl)
stack_line _ e = absurd (omega (arith, e))

no_memory : (form : Form) → place_in_heading form < 3 → memory_number form ≡ None
no_memory (MemorySize z) h = absurd (omega (arith, h))
no_memory _ h = refl

no_data : (form : Form) → place_in_heading form < 4 → data_number form ≡ None
no_data (DataBegin z) h = absurd (omega (arith, h))
no_data _ h = refl

no_stack : (form : Form) → place_in_heading form < 5 → stack_number form ≡ None
no_stack (StackSize z) h = absurd (omega (arith, h))
no_stack _ h = refl

-- lines that say no number of a kind
abbrev Silent : (Form → Option ℤ) → List Declaration → Type 0
Silent number [] = Unit {0}
Silent number (d ∷ ds) = (number d.form ≡ None) × Silent number ds

skipped : (o : Option ℤ) (zs : List ℤ) → o ≡ None → first_number (cons_option o zs) ≡ first_number zs
skipped None zs e = refl
skipped (Some z) zs e = absurd (cc)

said : (o : Option ℤ) (z : ℤ) (zs : List ℤ) → o ≡ Some z → first_number (cons_option o zs) ≡ number_of z
said None z zs e = absurd (cc)
said (Some y) z zs e = let k : y ≡ z = cc in ap number_of k

-- the first line behind them that says one
first_said : (number : Form → Option ℤ) (before : List Declaration) (d : Declaration) (rest : List Declaration) (z : ℤ) → Silent number before
    → number d.form ≡ Some z → first_number (filter_map (λ x. number x.form) (before ++ d ∷ rest)) ≡ number_of z
first_said number [] d rest z s e = said (number d.form) z (filter_map (λ x. number x.form) rest) e
first_said number (b ∷ before) d rest z s e = skipped (number b.form) (filter_map (λ x. number x.form) (before ++ d ∷ rest)) s.0 ∙ first_said number before d rest z s.1 e

whole_number : (w : ℕ) (z : ℤ) → not (is_whole w z) ≡ false → number_of z % (w / 8) ≡ 0
whole_number w (pos n) e = no_rest (n % (w / 8)) (not_false (n % (w / 8) == 0) e)
  where
    no_rest : (m : ℕ) → m == 0 ≡ true → m ≡ 0
    no_rest m e = grind (arith, nat_tests, e)
whole_number w (negsuc n) e = absurd (cc)

room_left : (w : ℕ) (before : List Declaration) (z : ℤ) → is_out_of_range w before (StackSize z) ≡ false → data_in before + number_of z < memory_in before
room_left w before z e =
    let k = both_of (is_whole w z) (is_from_to 1024 1048576 z && leaves_room before z) (not_false (is_whole w z && (is_from_to 1024 1048576 z && leaves_room before z)) e) in
    less (data_in before + number_of z) (memory_in before) (both_of (is_from_to 1024 1048576 z) (leaves_room before z) k.1).1
  where
    less : (m n : ℕ) → nat_lt m n ≡ true → m < n
    less m n e = grind (arith, nat_tests, e)

record IsLaid (w memory base stack : ℕ) : Type 0 where
  aligned : base % (w / 8) ≡ 0
  room : base + stack < memory

-- the heading's lines, and what stands behind them
module _ (w : ℕ) (a b c d e f : Declaration) (rest : List Declaration) where
  laid_by : (x y z : ℤ) → place_in_heading a.form < 3 → place_in_heading b.form < 3 → place_in_heading c.form < 3
      → d.form ≡ MemorySize x → e.form ≡ DataBegin y → f.form ≡ StackSize z
      → is_out_of_range w (a ∷ b ∷ c ∷ d ∷ []) e.form ≡ false → is_out_of_range w (a ∷ b ∷ c ∷ d ∷ e ∷ []) f.form ≡ false
      → IsLaid w (memory_in (a ∷ b ∷ c ∷ d ∷ e ∷ f ∷ rest)) (data_in (a ∷ b ∷ c ∷ d ∷ e ∷ f ∷ rest)) (stack_in (a ∷ b ∷ c ∷ d ∷ e ∷ f ∷ rest))
  laid_by x y z p q r h i j k l =
      let places : place_in_heading d.form ≡ 3 = ap place_in_heading h in
      let placed : place_in_heading e.form ≡ 4 = ap place_in_heading i in
      let whole = whole_number w y (subst (λ (form : Form). is_out_of_range w (a ∷ b ∷ c ∷ d ∷ []) form ≡ false) i k) in
      let room = room_left w (a ∷ b ∷ c ∷ d ∷ e ∷ []) z (subst (λ (form : Form). is_out_of_range w (a ∷ b ∷ c ∷ d ∷ e ∷ []) form ≡ false) j l) in
      let memory = λ (more : List Declaration). first_said memory_number (a ∷ b ∷ c ∷ []) d more x
      (no_memory a.form p, (no_memory b.form q, (no_memory c.form r, tt))) (ap memory_number h) in
      let bytes = λ (more : List Declaration). first_said data_number (a ∷ b ∷ c ∷ d ∷ []) e more y
      (no_data a.form (omega (arith, p)), (no_data b.form (omega (arith, q)), (no_data c.form (omega (arith, r)), (no_data d.form (omega (arith, places)), tt)))) (ap data_number i) in
      let stack = first_said stack_number (a ∷ b ∷ c ∷ d ∷ e ∷ []) f rest z
      (no_stack a.form (omega (arith, p)), (no_stack b.form (omega (arith, q)), (no_stack c.form (omega (arith, r)), (no_stack d.form (omega (arith, places)), (no_stack e.form (omega (arith, placed)), tt)))))
      (ap stack_number j) in
      record {
        aligned = subst (λ (n : ℕ). n % (w / 8) ≡ 0) (sym (bytes (f ∷ rest))) whole;
        room = less _ _ _ _ _ _ _ _ (bytes (f ∷ rest)) stack (memory (e ∷ f ∷ rest)) (bytes []) (memory (e ∷ [])) room;
      }
    where
      less : (b s m y z x v u : ℕ) → b ≡ y → s ≡ z → m ≡ x → v ≡ y → u ≡ x → v + z < u → b + s < m
      less b s m y z x v u p q r t k h = omega (arith, p, q, r, t, k, h)

laid : (w : ℕ) (ds : List Declaration) → 6 ≤ length ds → Unbroken breaks_heading [] ds → Unbroken (is_out_of_range w) [] ds
    → IsLaid w (memory_in ds) (data_in ds) (stack_in ds)
laid w (a ∷ (b ∷ (c ∷ (d ∷ (e ∷ (f ∷ rest)))))) l h r =
    let p = same_place (place_in_heading a.form) 0 h.0 in
    let q = same_place (place_in_heading b.form) 1 h.1.0 in
    let s = same_place (place_in_heading c.form) 2 h.1.1.0 in
    let x = memory_line d.form (same_place (place_in_heading d.form) 3 h.1.1.1.0) in
    let y = data_line e.form (same_place (place_in_heading e.form) 4 h.1.1.1.1.0) in
    let z = stack_line f.form (same_place (place_in_heading f.form) 5 h.1.1.1.1.1.0) in
    laid_by w a b c d e f rest x.0 y.0 z.0 (omega (arith, p)) (omega (arith, q)) (omega (arith, s)) x.1 y.1 z.1 r.1.1.1.1.0 r.1.1.1.1.1.0
laid w _ l h r = absurd (omega (arith, l))

declared_laid : (text : List ℕ) (d : Declared) → IsAccepted text → Declares text d → IsLaidOut (description_of d)
declared_laid text d a h =
    let heading = unbroken_from breaks_heading d.all [] d.all refl (λ l b. a BadHeading l (record { declared = d; declares = h; breaks = elsewhere l b })) in
    let ranges = unbroken_from (is_out_of_range d.width) d.all [] d.all refl (λ l b. a OutOfRange l (record { declared = d; declares = h; breaks = b })) in
    let many = at_least 6 (length d.all) (λ u. a BadHeading d.last (record { declared = d; declares = h; breaks = unfinished u })) in
    let k = laid d.width d.all many heading ranges in
    record { aligned = k.aligned; room = k.room }
  where
    at_least : (m n : ℕ) → (n < m → ⊥) → m ≤ n
    at_least m n h = grind (arith, h)

pub said_laid_out : SaidIsLaidOut
said_laid_out text raw s = subst IsLaidOut (sym s.same) (declared_laid text s.declared s.accepted s.declares)
