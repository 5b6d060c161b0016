-- A machine before its first instruction stands where the definition's run starts.
use Rattle.std.proofs.Common.{◌≡◌, ℕ, zero, suc, ◌+◌, ◌-◌, ◌<◌, ◌≤◌, ◌^◌, All, Bool, true, false, cond, List, [], ◌∷◌, ◌++◌, length, slice_get, slice_index, replicate, Some, None, refl, sym, ap, ◌∙◌, subst, arith}
use Rattle.std.proofs.lemmas.Bool.Decides.{nat_tests}
use Rattle.std.proofs.lemmas.Nat.{pow_pos}
use Rattle.std.proofs.lemmas.List.Elements.{All-replicate}
use Rattle.std.specs.Prelude.{nat_le}
use Rattle.behaviour.specs.Steps.{run_by}
use Rattle.rtl_tree.specs.declared.cells.Cell.{Cell}
use Rattle.rtl_tree.specs.declared.cells.Cell.TheVariants.{Hard, Temp, Flag, Pc, Input, Output, Halt, Hole}
use Rattle.rtl_value.specs.declared.state.State.{State}
use Rattle.rtl_value.specs.Values.{cell_of, AreWords, IsPairOfWords}
use Rattle.rtl_effect.specs.Views.{Gone, mark_of}
use Rattle.machine_run.specs.Machine.{Code, start, start_view, start_byte, turn, view_at}
use Rattle.machine_turn.specs.declared.held.Held.{Held}
use Rattle.machine_turn.specs.Held.{IsCellRead, IsHeld, state_of}
use Rattle.machine_effect.specs.Turns.{at_place}
use Rattle.machine_effect.specs.Standing.{Shows, Stands}
use Rattle.machine_step.specs.declared.running.Running.{Running}
use Rattle.machine_step.specs.Runs.{named, Comes, HasRun}
use Rattle.rtl_machine.specs.Loading.{memory_with_data}

zeros : (n k : ℕ) → slice_index (replicate n 0) k ≡ 0
zeros zero k = refl
zeros (suc n) zero = refl
zeros (suc n) (suc k) = zeros n k

lost_flag : (n k : ℕ) → mark_of (slice_get (replicate n None) k) ≡ Gone
lost_flag zero k = refl
lost_flag (suc n) zero = refl
lost_flag (suc n) (suc k) = lost_flag n k

shifted : (base a : ℕ) (bytes : List ℕ) → base ≤ a → slice_index (replicate base 0 ++ bytes) a ≡ slice_index bytes (a - base)
shifted zero a bytes l = let same : a ≡ a - 0 = omega arith in ap (slice_index bytes) same
shifted (suc n) zero bytes l = let none : ⊥ = omega arith in absurd none
shifted (suc n) (suc a) bytes l =
    let rest : n ≤ a = omega arith in
    let same : a - n ≡ suc a - suc n = omega arith in
    shifted n a bytes rest ∙ ap (slice_index bytes) same

before : (base a : ℕ) (bytes : List ℕ) → a < base → slice_index (replicate base 0 ++ bytes) a ≡ 0
before zero a bytes l = let none : ⊥ = omega arith in absurd none
before (suc n) zero bytes l = refl
before (suc n) (suc a) bytes l = let rest : a < n = omega arith in before n a bytes rest

front : (base a : ℕ) (bytes : List ℕ) (b : Bool) → nat_le base a ≡ b → slice_index (replicate base 0 ++ bytes) a ≡ cond b (slice_index bytes (a - base)) 0
front base a bytes true e = let l : base ≤ a = grind (arith, nat_tests, e) in shifted base a bytes l
front base a bytes false e = let l : a < base = grind (arith, nat_tests, e) in before base a bytes l

-- zeros behind a list don't change what an index finds
zeros_behind : (xs : List ℕ) (n a : ℕ) → slice_index (xs ++ replicate n 0) a ≡ slice_index xs a
zeros_behind [] n a = zeros n a
zeros_behind (x ∷ xs) n zero = refl
zeros_behind (x ∷ xs) n (suc a) = zeros_behind xs n a

data_at : (p : Code) (a n : ℕ) → slice_index ((replicate p.base 0 ++ p.bytes) ++ replicate n 0) a ≡ start_byte p a
data_at p a n = zeros_behind (replicate p.base 0 ++ p.bytes) n a ∙ front p.base a p.bytes (nat_le p.base a) refl

same_length : (n x : ℕ) → length (replicate n x) ≡ n
same_length zero x = refl
same_length (suc n) x = ap (λ k. suc k) (same_length n x)

append_length : (xs ys : List ℕ) → length (xs ++ ys) ≡ length xs + length ys
append_length [] ys = let same : length ys ≡ 0 + length ys = omega arith in same
append_length (x ∷ xs) ys =
    let rest = append_length xs ys in
    let same : suc (length (xs ++ ys)) ≡ suc (length xs) + length ys = omega (arith, rest) in same

memory_length : (base size : ℕ) (bytes : List ℕ) → base + length bytes ≤ size → length (memory_with_data base size bytes) ≡ size
memory_length base size bytes l =
    let n = size - (base + length bytes) in
    let first = append_length (replicate base 0 ++ bytes) (replicate (size - (base + length bytes)) 0) in
    let second = append_length (replicate base 0) bytes in
    let a = same_length base 0 in
    let b = same_length (size - (base + length bytes)) 0 in
    omega (arith, first, second, a, b, l)

module _ (p : Code) (h : Held) (registers : h.registers ≡ replicate 64 0) (flags : h.flags ≡ replicate 8 None)
    (memory : h.memory.items ≡ memory_with_data p.base p.size p.bytes) (fits : p.base + length p.bytes ≤ p.size) where
  abbrev first : State
  first = at_place 0 (named p (state_of h))

  register_zero : (k : ℕ) → Some 0 ≡ Some (slice_index h.registers k)
  register_zero k = ap (λ n. Some n) (sym (ap (λ rs. slice_index rs k) registers ∙ zeros 64 k))

  cells_start : (input : List ℕ) (c : Cell) → IsCellRead c → (view_at 0 (start_view p input)).cells c ≡ Some (cell_of p.word first c)
  cells_start input (Hard k) l = register_zero k
  cells_start input (Temp k) l = refl
  cells_start input (Flag k) l = refl
  cells_start input Pc l = refl
  cells_start input Input l = absurd l
  cells_start input Output l = refl
  cells_start input Halt l = refl
  cells_start input (Hole k) l = refl

  shows_start : (input : List ℕ) → Shows p.word first (view_at 0 (start_view p input))
  shows_start input = record {
    cells = cells_start input;
    flags = λ k. sym (ap (λ fs. mark_of (slice_get fs k)) flags ∙ lost_flag 8 k);
    size = sym (ap length memory ∙ memory_length p.base p.size p.bytes fits);
    bytes = λ a l. ap (λ n. Some n) (sym (ap (λ m. slice_index m a) memory ∙ data_at p a (p.size - (p.base + length p.bytes))));
    reach = λ a. refl;
    symbols = λ n. refl;
    labels = λ l. refl;
    targets = λ l. refl;
    places = λ n. refl;
  }

  comes_start : (m : Running) → m.held ≡ h → m.place ≡ 0 → (more : List ℕ) → Comes p.word p more 0 m more []
  comes_start m e f more = record {
    state = start p more;
    leads = λ j. let same : 0 + j ≡ j = omega arith in ap (λ k. run_by (turn p) (λ s. s.printed) k (start p more)) same;
    stands =
        subst (λ k. Stands p.word k (named p (state_of m.held)) more (start p more)) (sym f)
        (subst (λ x. Stands p.word 0 (named p (state_of x)) more (start p more)) (sym e)
        (record { place_is = refl; shows = shows_start more; input_is = refl; next = refl }));
    printed_is = refl;
  }

-- nothing was taken and nothing printed
pub run_start : (w : ℕ) (p : Code) (m : Running) → p.word ≡ w → m.held.registers ≡ replicate 64 0 → m.held.flags ≡ replicate 8 None
    → m.held.memory.items ≡ memory_with_data p.base p.size p.bytes → p.base + length p.bytes ≤ p.size → m.place ≡ 0 → HasRun w p m [] [] 0
run_start w p m word registers flags memory fits place =
    subst (λ x. HasRun x p m [] [] 0) word (λ more f. comes_start p m.held registers flags memory fits m refl place more)

-- what is held before the first instruction are words
pub held_start : (w : ℕ) (h : Held) → h.registers ≡ replicate 64 0 → h.flags ≡ replicate 8 None → h.next ≡ 0 → IsHeld w h
held_start w h registers flags next = record {
  many = ap length registers;
  eight = ap length flags;
  words = subst (AreWords w) (sym registers) (λ k l. subst (λ n. n < 2 ^ w) (sym (zeros 64 k)) (pow_pos w));
  pairs = subst (All (λ q. IsPairOfWords w q)) (sym flags) (All-replicate (λ q. IsPairOfWords w q) 8 None tt);
  next = subst (λ n. n < 2 ^ w) (sym next) (pow_pos w);
}
