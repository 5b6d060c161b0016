-- Whether a transfer is well formed is decided by a test.
use Rattle.std.proofs.Common.{◌≡◌, ℕ, suc, ◌<◌, ◌≤◌, Bool, true, false, ◌&&◌, List, [], ◌∷◌, length, All, refl, sym, subst, arith}
use Rattle.std.specs.Prelude.{nat_lt, nat_le, count_by, AllPairs, slice_index_or}
use Rattle.std.proofs.lemmas.Bool.Decides.{nat_tests}
use Rattle.std.proofs.lemmas.List.Elements.{All-nil, All-head, All-tail, All-cons}
use Rattle.std.proofs.lemmas.List.Kept.{AllPairs-cons}
use Rattle.rtl_tree.specs.Moves.{Move}
use Rattle.rtl_tree.specs.WellFormed.{is_shallow, compares_for_flag, tests_flags, jumps_by_counter, takes_for_register, reads_no_output, is_store, set_apart, IsPlaced, IsWellFormed}

both : (a b : Bool) → a ≡ true → b ≡ true → (a && b) ≡ true
both a b e f = subst (λ (x : Bool). (x && b) ≡ true) (sym e) f

both_of : (a b : Bool) → (a && b) ≡ true → (a ≡ true) × (b ≡ true)
both_of true b e = (refl, e)
both_of false b e = (cc, cc)

abbrev placed : Move → Bool
placed m =
    is_shallow m.to m.value && (compares_for_flag m.to m.value && (tests_flags m.to m.value && (jumps_by_counter m.to m.value
    && (takes_for_register m.to m.value && reads_no_output m.to m.value))))

placed_true : (m : Move) → IsPlaced m → placed m ≡ true
placed_true m p = both _ _ p.shallow (both _ _ p.flags (both _ _ p.tests (both _ _ p.jumps (both _ _ p.input p.output))))

placed_is : (m : Move) → placed m ≡ true → IsPlaced m
placed_is m e =
    let a = both_of (is_shallow m.to m.value) _ e in
    let b = both_of (compares_for_flag m.to m.value) _ a.1 in
    let c = both_of (tests_flags m.to m.value) _ b.1 in
    let d = both_of (jumps_by_counter m.to m.value) _ c.1 in
    let f = both_of (takes_for_register m.to m.value) (reads_no_output m.to m.value) d.1 in
    record { shallow = a.0; flags = b.0; tests = c.0; jumps = d.0; input = f.0; output = f.1 }

abbrev all_placed : List Move → Bool
all_placed [] = true
all_placed (m ∷ ms) = placed m && all_placed ms

all_placed_true : (ms : List Move) → All IsPlaced ms → all_placed ms ≡ true
all_placed_true [] h = refl
all_placed_true (m ∷ ms) h = both _ _ (placed_true m (All-head IsPlaced m ms h)) (all_placed_true ms (All-tail IsPlaced m ms h))

all_placed_is : (ms : List Move) → all_placed ms ≡ true → All IsPlaced ms
all_placed_is [] e = All-nil IsPlaced
all_placed_is (m ∷ ms) e = let p = both_of (placed m) (all_placed ms) e in All-cons IsPlaced m ms (placed_is m p.0) (all_placed_is ms p.1)

abbrev apart_from : Move → List Move → Bool
apart_from m [] = true
apart_from m (n ∷ ns) = set_apart m n && apart_from m ns

abbrev all_apart : List Move → Bool
all_apart [] = true
all_apart (m ∷ ms) = apart_from m ms && all_apart ms

abbrev Apart : Move → Move → Type 0
Apart m n = set_apart m n ≡ true

apart_from_true : (m : Move) (ns : List Move) → ((j : ℕ) (d : Move) → j < length ns → Apart m (slice_index_or ns j d)) → apart_from m ns ≡ true
apart_from_true m [] h = refl
apart_from_true m (n ∷ ns) h = both _ _ (h 0 m (omega arith)) (apart_from_true m ns (λ j d l. h (suc j) d (omega (arith, l))))

apart_from_is : (m : Move) (ns : List Move) → apart_from m ns ≡ true → All (Apart m) ns
apart_from_is m [] e = All-nil (Apart m)
apart_from_is m (n ∷ ns) e = let p = both_of (set_apart m n) (apart_from m ns) e in All-cons (Apart m) n ns p.0 (apart_from_is m ns p.1)

all_apart_true : (ms : List Move) → AllPairs Apart ms → all_apart ms ≡ true
all_apart_true [] h = refl
all_apart_true (m ∷ ms) h =
    both _ _ (apart_from_true m ms (λ j d l. h 0 (suc j) d (omega arith) (omega (arith, l))))
    (all_apart_true ms (λ i j d l k. h (suc i) (suc j) d (omega (arith, l)) (omega (arith, k))))

none_apart : AllPairs Apart []
none_apart i j d l k = absurd (omega (arith, k))

all_apart_is : (ms : List Move) → all_apart ms ≡ true → AllPairs Apart ms
all_apart_is [] e = none_apart
all_apart_is (m ∷ ms) e =
    let p = both_of (apart_from m ms) (all_apart ms) e in AllPairs-cons Apart m ms (apart_from_is m ms p.0) (all_apart_is ms p.1)

abbrev pub formed : List Move → Bool
formed ms =
    nat_lt 0 (length ms) && (nat_le (length ms) 6 && (all_placed ms && (all_apart ms && nat_le (count_by (λ m. is_store m.to) ms) 1)))

lt_true : (m n : ℕ) → m < n → nat_lt m n ≡ true
lt_true m n l = grind (arith, nat_tests, l)

le_true : (m n : ℕ) → m ≤ n → nat_le m n ≡ true
le_true m n l = grind (arith, nat_tests, l)

lt_is : (m n : ℕ) → nat_lt m n ≡ true → m < n
lt_is m n e = grind (arith, nat_tests, e)

le_is : (m n : ℕ) → nat_le m n ≡ true → m ≤ n
le_is m n e = grind (arith, nat_tests, e)

pub formed_true : (ms : List Move) → IsWellFormed ms → formed ms ≡ true
formed_true ms h =
    both _ _ (lt_true 0 (length ms) h.nonempty) (both _ _ (le_true (length ms) 6 h.short) (both _ _ (all_placed_true ms h.placed)
    (both _ _ (all_apart_true ms h.once) (le_true (count_by (λ m. is_store m.to) ms) 1 h.one_store))))

pub formed_is : (ms : List Move) → formed ms ≡ true → IsWellFormed ms
formed_is ms e =
    let a = both_of (nat_lt 0 (length ms)) _ e in
    let b = both_of (nat_le (length ms) 6) _ a.1 in
    let c = both_of (all_placed ms) _ b.1 in
    let d = both_of (all_apart ms) (nat_le (count_by (λ m. is_store m.to) ms) 1) c.1 in
    record {
      nonempty = lt_is 0 (length ms) a.0;
      short = le_is (length ms) 6 b.0;
      placed = all_placed_is ms c.0;
      once = all_apart_is ms d.0;
      one_store = le_is (count_by (λ m. is_store m.to) ms) 1 d.1;
    }
