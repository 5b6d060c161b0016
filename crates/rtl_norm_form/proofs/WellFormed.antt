-- The normal form of a well-formed transfer is well formed.
use Rattle.std.proofs.Common.{◌≡◌, ℕ, suc, ◌+◌, ◌<◌, ◌≤◌, true, nat_le, cond, fold, List, [], ◌∷◌, length, get_or, arith, refl, sym, ap, subst, ◌∙◌}
use Rattle.std.specs.List.{All, AllPairs}
use Rattle.std.proofs.lemmas.List.{length-map, get_or-map}
use Rattle.std.proofs.lemmas.List.Elements.{All-map}
use Rattle.std.proofs.lemmas.Bool.Decides.{nat_tests}
use Rattle.rtl_tree.specs.Trees.{Tree}
use Rattle.rtl_tree.specs.Moves.{Goal, ToCell, ToMemory, Move}
use Rattle.rtl_tree.specs.WellFormed.{depth, is_construct, free_of, free_of_both, flags_tested, compares_for_flag, jumps_by_counter, takes_for_register, tests_flags, is_shallow, is_store, same_goal_cell, set_apart, IsPlaced, IsWellFormed}
use Rattle.rtl_tree.specs.declared.cells.Cell.TheVariants.{Hard, Temp, Flag, Pc, Input, Hole}
use Rattle.rtl_tree.specs.declared.constructs.Construct.{Construct}
use Rattle.rtl_tree.specs.declared.constructs.Construct.TheVariants.{Compared, Jump, Taken, Written}
use Rattle.rtl_tree.specs.declared.expressions.Width.{Width}
use Rattle.rtl_tree.specs.declared.expressions.Width.TheVariants.{Byte, Full}
use Rattle.rtl_norm.specs.Normal.{norm}
use Rattle.rtl_norm.specs.Transfers.{norm_goal, norm_value, norm_move, norm_moves}
use Rattle.rtl_norm_form.proofs.Constructs.{and_true, both_true, norm_free, stored_free, below_of, norm_below, norm_compared, not_input, norm_taken}
use Rattle.rtl_norm_form.proofs.Depth.{norm_depth, stored_depth}
use Rattle.rtl_norm_form.proofs.Flags.{norm_tested, stored_tested}

-- what is stored, where the byte rule may apply
memory_free : (k : Construct) (w : ℕ) (d : Width) (a t : Tree) → free_of k t ≡ true → free_of k (norm_value w (ToMemory d a) t) ≡ true
memory_free k w Byte a t h = stored_free k (norm w t) (norm_free k w t h)
memory_free k w Full a t h = norm_free k w t h

memory_tested : (w : ℕ) (d : Width) (a t : Tree) → flags_tested t ≡ true → flags_tested (norm_value w (ToMemory d a) t) ≡ true
memory_tested w Byte a t h = stored_tested (norm w t) (norm_tested w t h)
memory_tested w Full a t h = norm_tested w t h

memory_depth : (w : ℕ) (d : Width) (a t : Tree) → depth (norm_value w (ToMemory d a) t) ≤ depth t
memory_depth w Byte a t = omega (arith, stored_depth (norm w t), norm_depth w t)
memory_depth w Full a t = norm_depth w t

within : (m n k : ℕ) → m ≤ n → nat_le n k ≡ true → nat_le m k ≡ true
within m n k h e = grind (arith, nat_tests)

free_both : (k : Construct) (w : ℕ) (g : Goal) (t : Tree) → free_of_both k g t ≡ true → free_of_both k (norm_goal w g) (norm_value w g t) ≡ true
free_both k w (ToCell c) t h = norm_free k w t h
free_both k w (ToMemory d a) t h =
    let p = and_true (free_of k a) _ h in
    both_true _ _ (norm_free k w a p.0) (memory_free k w d a t p.1)

shallow_kept : (w : ℕ) (g : Goal) (t : Tree) → is_shallow g t ≡ true → is_shallow (norm_goal w g) (norm_value w g t) ≡ true
shallow_kept w (ToCell c) t h = within _ (depth t) 32 (norm_depth w t) h
shallow_kept w (ToMemory d a) t h =
    let p = and_true (nat_le (suc (depth a)) 32) _ h in
    both_true _ _ (within _ (suc (depth a)) 32 (omega (arith, norm_depth w a)) p.0) (within _ (depth t) 32 (memory_depth w d a t) p.1)

tests_kept : (w : ℕ) (g : Goal) (t : Tree) → tests_flags g t ≡ true → tests_flags (norm_goal w g) (norm_value w g t) ≡ true
tests_kept w (ToCell c) t h = norm_tested w t h
tests_kept w (ToMemory d a) t h =
    let p = and_true (flags_tested a) _ h in
    both_true _ _ (norm_tested w a p.0) (memory_tested w d a t p.1)

flags_kept : (w : ℕ) (g : Goal) (t : Tree) → compares_for_flag g t ≡ true → compares_for_flag (norm_goal w g) (norm_value w g t) ≡ true
flags_kept w (ToCell (Flag n)) t h = norm_compared w t h
flags_kept w (ToCell c) t h = norm_free Compared w t h
flags_kept w (ToMemory d a) t h = free_both Compared w (ToMemory d a) t h

jumps_kept : (w : ℕ) (g : Goal) (t : Tree) → jumps_by_counter g t ≡ true → jumps_by_counter (norm_goal w g) (norm_value w g t) ≡ true
jumps_kept w (ToCell Pc) t h = norm_below Jump w t h
jumps_kept w (ToCell c) t h = norm_free Jump w t h
jumps_kept w (ToMemory d a) t h = free_both Jump w (ToMemory d a) t h

input_kept : (w : ℕ) (g : Goal) (t : Tree) → takes_for_register g t ≡ true → takes_for_register (norm_goal w g) (norm_value w g t) ≡ true
input_kept w (ToCell (Hard n)) t h = norm_below Taken w t h
input_kept w (ToCell (Temp n)) t h = norm_below Taken w t h
input_kept w (ToCell (Hole n)) t h = norm_below Taken w t h
input_kept w (ToCell Input) t h = h
input_kept w (ToCell c) t h = norm_free Taken w t h
input_kept w (ToMemory d a) t h = free_both Taken w (ToMemory d a) t h

placed_kept : (w : ℕ) (m : Move) → IsPlaced m → IsPlaced (norm_move w m)
placed_kept w m p =
    record {
      shallow = shallow_kept w m.to m.value p.shallow;
      flags = flags_kept w m.to m.value p.flags;
      tests = tests_kept w m.to m.value p.tests;
      jumps = jumps_kept w m.to m.value p.jumps;
      input = input_kept w m.to m.value p.input;
      output = free_both Written w m.to m.value p.output;
    }

-- goals keep their kind
same_goals : (w : ℕ) (g h : Goal) → same_goal_cell (norm_goal w g) (norm_goal w h) ≡ same_goal_cell g h
same_goals w (ToCell c) (ToCell d) = refl
same_goals w (ToCell c) (ToMemory d a) = refl
same_goals w (ToMemory d a) h = refl

same_stores : (w : ℕ) (g : Goal) → is_store (norm_goal w g) ≡ is_store g
same_stores w (ToCell c) = refl
same_stores w (ToMemory d a) = refl

taken_free : (w : ℕ) (t : Tree) → free_of Taken t ≡ true → is_construct Taken (norm w t) ≡ is_construct Taken t
taken_free w t h = norm_taken w t (below_of Taken t h)

same_taken : (w : ℕ) (g : Goal) (t : Tree) → takes_for_register g t ≡ true → is_construct Taken (norm_value w g t) ≡ is_construct Taken t
same_taken w (ToCell (Hard n)) t h = norm_taken w t h
same_taken w (ToCell (Temp n)) t h = norm_taken w t h
same_taken w (ToCell (Hole n)) t h = norm_taken w t h
same_taken w (ToCell Input) t h = cc
same_taken w (ToCell c) t h = taken_free w t h
same_taken w (ToMemory d a) t h =
    let p = and_true (free_of Taken a) _ h in
    not_input _ (memory_free Taken w d a t p.1) ∙ sym (not_input t p.1)

apart_kept : (w : ℕ) (m n : Move) → IsPlaced m → IsPlaced n → set_apart m n ≡ true → set_apart (norm_move w m) (norm_move w n) ≡ true
apart_kept w m n p q h =
    let goals = same_goals w m.to n.to in
    let first = same_taken w m.to m.value p.input in
    let second = same_taken w n.to n.value q.input in
    cc

apart_all : (w : ℕ) (ms : List Move) → All IsPlaced ms → AllPairs (λ m n. set_apart m n ≡ true) ms → AllPairs (λ m n. set_apart m n ≡ true) (norm_moves w ms)
apart_all w ms p h i j d lt inside =
    let second : j < length ms = omega (arith, length-map ms (norm_move w)) in
    let first : i < length ms = omega arith in
    let left = get_or-map (norm_move w) ms i d d first in
    let right = get_or-map (norm_move w) ms j d d second in
    subst (λ m. set_apart m (get_or (norm_moves w ms) j d) ≡ true) (sym left)
    (subst (λ n. set_apart (norm_move w (get_or ms i d)) n ≡ true) (sym right)
    (apart_kept w (get_or ms i d) (get_or ms j d) (p i d first) (p j d second) (h i j d lt second)))

stores_from : (w n : ℕ) (ms : List Move) → fold (λ a m. a + cond (is_store m.to) 1 0) n (norm_moves w ms) ≡ fold (λ a m. a + cond (is_store m.to) 1 0) n ms
stores_from w n [] = refl
stores_from w n (m ∷ ms) =
    ap (λ b. fold (λ a x. a + cond (is_store x.to) 1 0) (n + cond b 1 0) (norm_moves w ms)) (same_stores w m.to)
    ∙ stores_from w (n + cond (is_store m.to) 1 0) ms

pub well_formed_kept : (w : ℕ) (ms : List Move) → IsWellFormed ms → IsWellFormed (norm_moves w ms)
well_formed_kept w ms h =
    let long = length-map ms (norm_move w) in
    let stores = stores_from w 0 ms in
    record {
      nonempty = omega (arith, h.nonempty);
      short = omega (arith, h.short);
      placed = All-map IsPlaced (norm_move w) ms (λ k d lt. placed_kept w (get_or ms k d) (h.placed k d lt));
      once = apart_all w ms h.placed h.once;
      one_store = rw stores h.one_store;
    }
