-- The normal form of a well-formed transfer does what the transfer does.
use Rattle.std.proofs.Common.{◌≡◌, ℕ, zero, suc, ◌+◌, ◌-◌, ◌/◌, ◌%◌, Bool, true, false, ◌&&◌, cond, Option, Some, None, Result, Ok, Err, List, [], ◌∷◌, arith, refl, sym, ap, subst, ◌∙◌, inl, inr, ◌⊎◌}
use Rattle.std.specs.Prelude.{◌==◌, nat_le, nat_lt, if◌then◌else◌}
use Rattle.std.specs.List.{AllByRecursion}
use Rattle.std.proofs.lemmas.List.Elements.{recursion_from_All}
use Rattle.std.proofs.lemmas.Bool.Decides.{nat_tests}
use Rattle.rtl_word.specs.Words.{IsWordSize, word_sxb}
use Rattle.rtl_word.proofs.Bitwise.{low_of_sxb, low_of_cut}
use Rattle.rtl_tree.specs.Trees.{Tree, Number, Symbol, CodeLabel, Read, Load, Unary, Binary, NoPair, AnyNumber, AnyName}
use Rattle.rtl_tree.specs.Moves.{Goal, ToCell, ToMemory, Move}
use Rattle.rtl_tree.specs.Sorts.{IsFitting, IsWordTree}
use Rattle.rtl_tree.specs.Same.{same_cell}
use Rattle.rtl_tree.proofs.Equality.{same_cell-is}
use Rattle.rtl_tree.specs.declared.cells.Cell.{Cell}
use Rattle.rtl_tree.specs.declared.cells.Cell.TheVariants.{Hard, Temp, Flag, Pc, Input, Output, Halt, Hole}
use Rattle.rtl_tree.specs.declared.expressions.Width.{Width}
use Rattle.rtl_tree.specs.declared.expressions.Width.TheVariants.{Byte, Full}
use Rattle.rtl_tree.specs.declared.expressions.UnOp.TheVariants.{Sxb}
use Rattle.rtl_tree.specs.declared.expressions.BinOp.TheVariants.{And, Pair, When}
use Rattle.rtl_norm.specs.Normal.{finish, norm}
use Rattle.rtl_norm.specs.Transfers.{stored_byte, norm_goal, norm_value, norm_move, norm_moves, IsGoalFitting}
use Rattle.rtl_norm.proofs.Rewrites.{Rewrites, folds, swaps, joins, drops, goes, none_some}
use Rattle.rtl_norm.proofs.Finish.{finish_keeps, fits_kept, norm_fits}
use Rattle.rtl_norm.proofs.Settled.{norm_norm}
use Rattle.rtl_effect.specs.Views.{Stop, Mark, View, Seen, bind, width_of, touched, unary_on, binary_on, seen}
use Rattle.rtl_effect.specs.Effects.{assigned_by, assigned, Storing, storing_by, storing, is_input, takes, needed, mark_of_two, marked, place_at, target, chosen, aimed, jump, Fine, done, tested_cell, place_of, tested_by, tested, Patch, patch_of, byte_of, patched, plain, plain_mark, cell_after, mark_after, event, went, input_after, next_in, cells_after, Done, view_after, effect}
use Rattle.rtl_norm_value.specs.Kept.{IsWordView}
use Rattle.rtl_norm_value.specs.Effect.{IsSameView, IsSameEffect, both_stop, both_do, AreLabelsPlaces, IsNormalJump, HasNormalJump, jump_in_form, with_normal_jump, EffectIsKept, NormalJumpIsKept, JumpIsPlace, NormalFormHasNormalJump}
use Rattle.rtl_norm_value.proofs.Seen.{seen_is_kept, word_is_kept, seen_kept, word_kept, norm_pair}
use Rattle.rtl_norm_value.proofs.Alike.{same_effect_swap, same_effect_trans}
use Rattle.rtl_norm_value.proofs.Sorted.{IsFlagValue, IsJumpTree, IsSorted, IsSortedMove, AreSorted, sorted_moves}

-- what the laws need of a view
record Ground (w : ℕ) (v : View) : Type 0 where
  size : IsWordSize w
  words : IsWordView w v

kept : (w : ℕ) (v : View) → Ground w v → (t : Tree) → IsFitting w t → IsWordTree t → seen w (norm w t) v ≡ seen w t v
kept w v g t f h = seen_is_kept w t v g.size g.words f h

-- flags
marked_kept : (w : ℕ) (v : View) → Ground w v → (t : Tree) → IsFitting w t → IsFlagValue t → marked w (norm w t) v ≡ marked w t v
marked_kept w v g (Binary Pair a b) f h =
    ap (λ x. marked w x v) (norm_pair w a b)
    ∙ (ap (λ r. bind r (λ x. bind (seen w (norm w b) v) (λ y. Ok (mark_of_two x y)))) (kept w v g a f.0 h.0)
    ∙ ap (λ r. bind (seen w a v) (λ x. bind r (λ y. Ok (mark_of_two x y)))) (kept w v g b f.1 h.1))
marked_kept w v g NoPair f h = refl
marked_kept w v g _ f h = absurd h

-- jumps
abbrev landed : View → Seen → Seen
landed v r = bind r (λ x. Ok (place_at v x))

target_seen : (w : ℕ) (v : View) → AreLabelsPlaces v → (t : Tree) → target w t v ≡ landed v (seen w t v)
target_seen w v p (CodeLabel l) = ap (λ o. let r : Seen = Ok o in r) (sym (p l))
target_seen w v p _ = refl

jump_word : (w : ℕ) (v : View) → AreLabelsPlaces v → (t : Tree) → IsWordTree t → jump w t v ≡ bind (landed v (seen w t v)) aimed
jump_word w v p (Binary When a b) h = absurd h.0
jump_word w v p t h = ap (λ r. bind r aimed) (target_seen w v p t)

chosen_goes : (v : View) (n : ℕ) (r : Seen) → n == 0 ≡ false → bind r aimed ≡ bind r (chosen v (Some n))
chosen_goes v zero r e = cc
chosen_goes v (suc n) (Ok (Some y)) e = refl
chosen_goes v (suc n) (Ok None) e = refl
chosen_goes v (suc n) (Err s) e = refl

-- what steps at the root of a jump keep
record JumpKept (w : ℕ) (v : View) (r : Result (Option ℕ) Stop) (t : Tree) : Type 0 where
  fits : IsFitting w t
  sort : IsJumpTree t
  same : jump w t v ≡ r

jump_sort : (t : Tree) → IsWordTree t → IsJumpTree t
jump_sort (Binary When a b) h = absurd h.0
jump_sort t h = h

module _ (w : ℕ) (v : View) (g : Ground w v) (p : AreLabelsPlaces v) where
  word_step : (r : Result (Option ℕ) Stop) (t u : Tree) → Rewrites w t u → IsFitting w t → IsWordTree t → jump w t v ≡ r → JumpKept w v r u
  word_step r t u s f h e =
      let k = word_kept w t u s h in
      record {
        fits = fits_kept w g.size t u s f;
        sort = jump_sort u k;
        same = jump_word w v p u k ∙ (ap (λ x. bind (landed v x) aimed) (seen_kept w v g.size g.words t u s f h) ∙ (sym (jump_word w v p t h) ∙ e));
      }

  when_step : (r : Result (Option ℕ) Stop) (c l u : Tree) → Rewrites w (Binary When c l) u → IsFitting w (Binary When c l) → IsWordTree l → jump w (Binary When c l) v ≡ r → JumpKept w v r u
  when_step r _ _ _ (folds When a b n x) f h e = absurd (none_some n x)
  when_step r _ _ _ (swaps When a b x y z) f h e = absurd (let k : false ≡ true = x in cc)
  when_step r _ _ _ (joins When q a c d n x) f h e = absurd (none_some n x)
  when_step r _ _ _ (drops When a c x) f h e = absurd (let k : false ≡ true = x in cc)
  when_step r _ _ _ (goes a c x) f h e =
      record {
        fits = f.1;
        sort = jump_sort a h;
        same = jump_word w v p a h ∙ (ap (λ y. bind y aimed) (sym (target_seen w v p a)) ∙ (chosen_goes v c (target w a v) x ∙ e));
      }

  jump_step : (r : Result (Option ℕ) Stop) (t u : Tree) → Rewrites w t u → JumpKept w v r t → JumpKept w v r u
  jump_step r (Binary When c l) u s k = when_step r c l u s k.fits k.sort.1 k.same
  jump_step r (Number n) u s k = word_step r (Number n) u s k.fits k.sort k.same
  jump_step r (Symbol n) u s k = word_step r (Symbol n) u s k.fits k.sort k.same
  jump_step r (CodeLabel l) u s k = word_step r (CodeLabel l) u s k.fits k.sort k.same
  jump_step r (Read c) u s k = word_step r (Read c) u s k.fits k.sort k.same
  jump_step r (Load d a) u s k = word_step r (Load d a) u s k.fits k.sort k.same
  jump_step r (Unary o a) u s k = word_step r (Unary o a) u s k.fits k.sort k.same
  jump_step r (Binary o a b) u s k = word_step r (Binary o a b) u s k.fits k.sort k.same
  jump_step r NoPair u s k = absurd k.sort
  jump_step r (AnyNumber n) u s k = absurd k.sort
  jump_step r (AnyName n) u s k = absurd k.sort

  jump_same : (c l d m : Tree) → seen w c v ≡ seen w d v → seen w l v ≡ seen w m v → jump w (Binary When c l) v ≡ jump w (Binary When d m) v
  jump_same c l d m e h =
      ap (λ r. bind r (λ x. bind (target w l v) (chosen v x))) e
      ∙ ap (λ r. bind (seen w d v) (λ x. bind r (chosen v x))) (target_seen w v p l ∙ (ap (landed v) h ∙ sym (target_seen w v p m)))

  word_jump : (t : Tree) → IsFitting w t → IsWordTree t → JumpKept w v (jump w t v) (norm w t)
  word_jump t f h =
      let k = word_is_kept w t v g.size g.words f h in
      record {
        fits = norm_fits w t g.size f;
        sort = jump_sort (norm w t) k;
        same = jump_word w v p (norm w t) k ∙ (ap (λ r. bind (landed v r) aimed) (kept w v g t f h) ∙ sym (jump_word w v p t h));
      }

  when_jump : (c l : Tree) → IsFitting w (Binary When c l) → IsJumpTree (Binary When c l) → JumpKept w v (jump w (Binary When c l) v) (norm w (Binary When c l))
  when_jump c l f h =
      let r = jump w (Binary When (norm w c) (norm w l)) v in
      let P : Tree → Type 0 = λ u. JumpKept w v r u in
      let end : P (finish w (Binary When (norm w c) (norm w l))) =
      finish_keeps w P (λ x y s k. jump_step r x y s k) (Binary When (norm w c) (norm w l))
      (record {
        fits = (norm_fits w c g.size f.0, norm_fits w l g.size f.1);
        sort = (word_is_kept w c v g.size g.words f.0 h.0, word_is_kept w l v g.size g.words f.1 h.1);
        same = refl;
      }) in
      record {
        fits = end.fits;
        sort = end.sort;
        same = end.same ∙ jump_same (norm w c) (norm w l) c l (kept w v g c f.0 h.0) (kept w v g l f.1 h.1);
      }

  jump_normal : (t : Tree) → IsFitting w t → IsJumpTree t → JumpKept w v (jump w t v) (norm w t)
  jump_normal (Binary When c l) f h = when_jump c l f h
  jump_normal (Number n) f h = word_jump (Number n) f h
  jump_normal (Symbol n) f h = word_jump (Symbol n) f h
  jump_normal (CodeLabel l) f h = word_jump (CodeLabel l) f h
  jump_normal (Read c) f h = word_jump (Read c) f h
  jump_normal (Load d a) f h = word_jump (Load d a) f h
  jump_normal (Unary o a) f h = word_jump (Unary o a) f h
  jump_normal (Binary o a b) f h = word_jump (Binary o a b) f h
  jump_normal NoPair f h = absurd h
  jump_normal (AnyNumber n) f h = absurd h
  jump_normal (AnyName n) f h = absurd h

-- where the program counter is assigned, the normal form leads to the same place
abbrev LeadsAlike : ℕ → View → Goal → Tree → Type 0
LeadsAlike w v (ToCell Pc) t = jump w (norm w t) v ≡ jump w t v
LeadsAlike w v _ t = Unit {0}

abbrev AllLeadAlike : ℕ → View → List Move → Type 0
AllLeadAlike w v [] = Unit {0}
AllLeadAlike w v (m ∷ ms) = LeadsAlike w v m.to m.value × AllLeadAlike w v ms

abbrev LeadsAlikeIf : ℕ → View → Option Tree → Type 0
LeadsAlikeIf w v (Some t) = jump w (norm w t) v ≡ jump w t v
LeadsAlikeIf w v None = Unit {0}

lead_by : (w : ℕ) (v : View) (g : Goal) (t : Tree) (q : Option Tree) → LeadsAlike w v g t → LeadsAlikeIf w v q → LeadsAlikeIf w v (assigned_by g t Pc q)
lead_by w v (ToCell Pc) t q h k = h
lead_by w v (ToCell (Hard n)) t q h k = k
lead_by w v (ToCell (Temp n)) t q h k = k
lead_by w v (ToCell (Flag n)) t q h k = k
lead_by w v (ToCell Input) t q h k = k
lead_by w v (ToCell Output) t q h k = k
lead_by w v (ToCell Halt) t q h k = k
lead_by w v (ToCell (Hole n)) t q h k = k
lead_by w v (ToMemory d a) t q h k = k

jump_leads : (w : ℕ) (v : View) (ms : List Move) → AllLeadAlike w v ms → LeadsAlikeIf w v (assigned ms Pc)
jump_leads w v [] h = tt
jump_leads w v (m ∷ ms) h = lead_by w v m.to m.value (assigned ms Pc) h.0 (jump_leads w v ms h.1)

places_lead : (w : ℕ) (v : View) → Ground w v → AreLabelsPlaces v → (to : Goal) (t : Tree) → IsFitting w t → IsSorted to t → LeadsAlike w v to t
places_lead w v g p (ToCell Pc) t f h = (jump_normal w v g p t f h).same
places_lead w v g p _ t f h = tt

all_places_lead : (w : ℕ) (v : View) → Ground w v → AreLabelsPlaces v → (ms : List Move) → AreSorted w ms → AllLeadAlike w v ms
all_places_lead w v g p [] h = tt
all_places_lead w v g p (m ∷ ms) h = (places_lead w v g p m.to m.value h.0.fits.1 h.0.sort, all_places_lead w v g p ms h.1)

form_leads : (w : ℕ) (v : View) (to : Goal) (t : Tree) → IsNormalJump w to t → LeadsAlike w v to t
form_leads w v (ToCell Pc) t e = ap (λ u. jump w u v) e
form_leads w v _ t e = tt

all_forms_lead : (w : ℕ) (v : View) (ms : List Move) → AllByRecursion (λ m. IsNormalJump w m.to m.value) ms → AllLeadAlike w v ms
all_forms_lead w v [] h = tt
all_forms_lead w v (m ∷ ms) h = (form_leads w v m.to m.value h.0, all_forms_lead w v ms h.1)

-- what is stored as a byte
data IsStoredAlike : Seen → Seen → Type 0 where
  stops : (s : Stop) → IsStoredAlike (Err s) (Err s)
  blanks : IsStoredAlike (Ok None) (Ok None)
  words : (x y : ℕ) → x % 256 ≡ y % 256 → IsStoredAlike (Ok (Some x)) (Ok (Some y))

stored_self : (r : Seen) → IsStoredAlike r r
stored_self (Ok (Some x)) = words x x refl
stored_self (Ok None) = blanks
stored_self (Err s) = stops s

stored_sxb : (w : ℕ) (r : Seen) → IsWordSize w → IsStoredAlike r (unary_on w Sxb r)
stored_sxb w (Ok (Some x)) z = words x (word_sxb w x) (sym (low_of_sxb w x z))
stored_sxb w (Ok None) z = blanks
stored_sxb w (Err s) z = stops s

stored_cut : (w c : ℕ) (r : Seen) → c == 255 ≡ true → IsStoredAlike r (binary_on w And r (Ok (Some c)))
stored_cut w c (Ok (Some x)) e =
    let d : c ≡ 255 = grind (arith, nat_tests) in
    let P : ℕ → Type 0 = λ k. IsStoredAlike (Ok (Some x)) (binary_on w And (Ok (Some x)) (Ok (Some k))) in
    subst P (sym d) (words x _ (sym (low_of_cut x)))
stored_cut w c (Ok None) e = blanks
stored_cut w c (Err s) e = stops s

stored_alike : (w : ℕ) (v : View) → IsWordSize w → (t : Tree) → IsStoredAlike (seen w (stored_byte t) v) (seen w t v)
stored_alike w v z (Unary Sxb b) = stored_sxb w (seen w b v) z
stored_alike w v z (Binary And b (Number c)) =
    elim (c == 255) as (λ x. c == 255 ≡ x → IsStoredAlike (seen w (cond x b (Binary And b (Number c))) v) (seen w (Binary And b (Number c)) v)) [
      | true ↦ λ e. stored_cut w c (seen w b v) e
      | false ↦ λ e. stored_self (seen w (Binary And b (Number c)) v)
    ] refl
stored_alike w v z t = stored_self (seen w t v)

-- what is stored with a width
abbrev IsValueAlike : Width → Seen → Seen → Type 0
IsValueAlike Byte r q = IsStoredAlike r q
IsValueAlike Full r q = r ≡ q

value_alike : (w : ℕ) (v : View) → Ground w v → (d : Width) (a t : Tree) → IsFitting w t → IsWordTree t → IsValueAlike d (seen w (norm_value w (ToMemory d a) t) v) (seen w t v)
value_alike w v g Byte a t f h =
    let P : Seen → Type 0 = λ r. IsStoredAlike (seen w (stored_byte (norm w t)) v) r in
    subst P (kept w v g t f h) (stored_alike w v g.size (norm w t))
value_alike w v g Full a t f h = kept w v g t f h

-- the tests of an assignment
alike_then : {B : Type 0} (r q : Seen) (k : Result B Stop) → IsStoredAlike r q → bind r (λ x. k) ≡ bind q (λ x. k)
alike_then _ _ k (stops s) = refl
alike_then _ _ k blanks = refl
alike_then _ _ k (words x y e) = refl

value_then : {B : Type 0} (d : Width) (r q : Seen) (k : Result B Stop) → IsValueAlike d r q → bind r (λ x. k) ≡ bind q (λ x. k)
value_then Byte r q k h = alike_then r q k h
value_then Full r q k h = ap (λ y. bind y (λ x. k)) h

place_kept : (w : ℕ) (v : View) → Ground w v → (d : Width) (a : Tree) → IsFitting w a → IsWordTree a → place_of w d (norm w a) v ≡ place_of w d a v
place_kept w v g d a f h = ap (λ r. bind r (touched (width_of w d) v)) (kept w v g a f h)

cell_tested : (w : ℕ) (v : View) → Ground w v → (c : Cell) (t : Tree) → IsFitting w t → IsSorted (ToCell c) t → LeadsAlike w v (ToCell c) t → tested_cell w c (norm w t) v ≡ tested_cell w c t v
cell_tested w v g (Hard n) t f h k = ap done (kept w v g t f h)
cell_tested w v g (Temp n) t f h k = ap done (kept w v g t f h)
cell_tested w v g (Flag n) t f h k = ap done (marked_kept w v g t f h)
cell_tested w v g Pc t f h k = ap done k
cell_tested w v g Output t f h k = ap (λ r. done (bind r needed)) (kept w v g t f h)
cell_tested w v g Halt t f h k = ap (λ r. done (bind r needed)) (kept w v g t f h)
cell_tested w v g Input t f h k = refl
cell_tested w v g (Hole n) t f h k = refl

move_tested : (w : ℕ) (v : View) → Ground w v → (to : Goal) (t : Tree) → IsGoalFitting w to → IsFitting w t → IsSorted to t → LeadsAlike w v to t → tested_by w (norm_goal w to) (norm_value w to t) v ≡ tested_by w to t v
move_tested w v g (ToCell c) t j f h l = cell_tested w v g c t f h l
move_tested w v g (ToMemory d a) t j f h l =
    value_then d _ _ (done (place_of w d (norm w a) v)) (value_alike w v g d a t f h.1)
    ∙ ap (λ k. bind (seen w t v) (λ x. done k)) (place_kept w v g d a j h.0)

moves_tested : (w : ℕ) (v : View) → Ground w v → (ms : List Move) → AreSorted w ms → AllLeadAlike w v ms → tested w (norm_moves w ms) v ≡ tested w ms v
moves_tested w v g [] h l = refl
moves_tested w v g (m ∷ ms) h l =
    ap (λ r. bind r (λ x. tested w (norm_moves w ms) v)) (move_tested w v g m.to m.value h.0.fits.0 h.0.fits.1 h.0.sort l.0)
    ∙ ap (λ k. bind (tested_by w m.to m.value v) (λ x. k)) (moves_tested w v g ms h.1 l.1)

-- what is assigned to a cell
abbrev norm_if : ℕ → Option Tree → Option Tree
norm_if w (Some t) = Some (norm w t)
norm_if w None = None

abbrev IsSortedIf : ℕ → Cell → Option Tree → Type 0
IsSortedIf w c (Some t) = IsFitting w t × IsSorted (ToCell c) t
IsSortedIf w c None = Unit {0}

choice_norm : (w : ℕ) (x : Bool) (t : Tree) (p q : Option Tree) → p ≡ norm_if w q → (if x then Some (norm w t) else p) ≡ norm_if w (if x then Some t else q)
choice_norm w true t p q e = refl
choice_norm w false t p q e = e

assigned_norm_by : (w : ℕ) (c : Cell) (g : Goal) (t : Tree) (p q : Option Tree) → p ≡ norm_if w q → assigned_by (norm_goal w g) (norm_value w g t) c p ≡ norm_if w (assigned_by g t c q)
assigned_norm_by w c (ToCell d) t p q e = choice_norm w (same_cell d c) t p q e
assigned_norm_by w c (ToMemory d a) t p q e = e

assigned_norm : (w : ℕ) (c : Cell) (ms : List Move) → assigned (norm_moves w ms) c ≡ norm_if w (assigned ms c)
assigned_norm w c [] = refl
assigned_norm w c (m ∷ ms) = assigned_norm_by w c m.to m.value (assigned (norm_moves w ms) c) (assigned ms c) (assigned_norm w c ms)

choice_sorted : (w : ℕ) (d c : Cell) (t : Tree) (q : Option Tree) → (same_cell d c ≡ true → IsSortedIf w c (Some t)) → IsSortedIf w c q → IsSortedIf w c (if same_cell d c then Some t else q)
choice_sorted w d c t q h k =
    elim (same_cell d c) as (λ x. same_cell d c ≡ x → IsSortedIf w c (if x then Some t else q)) [ true ↦ λ e. h e | false ↦ λ e. k ] refl

assigned_sorted_by : (w : ℕ) (c : Cell) (g : Goal) (t : Tree) (q : Option Tree) → IsFitting w t → IsSorted g t → IsSortedIf w c q → IsSortedIf w c (assigned_by g t c q)
assigned_sorted_by w c (ToCell d) t q f s k =
    choice_sorted w d c t q
    (λ e. (f, (let P : Cell → Type 0 = λ k. IsSorted (ToCell k) t in subst P (same_cell-is d c e) s)))
    k
assigned_sorted_by w c (ToMemory d a) t q f s k = k

assigned_sorted : (w : ℕ) (c : Cell) (ms : List Move) → AreSorted w ms → IsSortedIf w c (assigned ms c)
assigned_sorted w c [] h = tt
assigned_sorted w c (m ∷ ms) h =
    assigned_sorted_by w c m.to m.value (assigned ms c) h.0.fits.1 h.0.sort (assigned_sorted w c ms h.1)

event_same : (w : ℕ) (v : View) (t u : Tree) → seen w t v ≡ seen w u v → event w (Some t) v ≡ event w (Some u) v
event_same w v t u e = ap (λ r. bind (bind r needed) (λ n. Ok (Some (n % 256)))) e

event_kept : (w : ℕ) (v : View) → Ground w v → (o : Option Tree) → IsSortedIf w Output o → event w (norm_if w o) v ≡ event w o v
event_kept w v g (Some t) h = event_same w v (norm w t) t (kept w v g t h.0 h.1)
event_kept w v g None h = refl

went_kept : (w : ℕ) (v : View) (o : Option Tree) → LeadsAlikeIf w v o → went w (norm_if w o) v ≡ went w o v
went_kept w v (Some t) h = h
went_kept w v None h = refl

cell_kept : (w : ℕ) (v : View) → Ground w v → (o : Option Tree) (old : Option ℕ) → IsSortedIf w (Hard 0) o → cell_after w (norm_if w o) v old ≡ cell_after w o v old
cell_kept w v g (Some t) old h = ap plain (kept w v g t h.0 h.1)
cell_kept w v g None old h = refl

mark_kept : (w : ℕ) (v : View) → Ground w v → (n : ℕ) (o : Option Tree) (old : Mark) → IsSortedIf w (Flag n) o → mark_after w (norm_if w o) v old ≡ mark_after w o v old
mark_kept w v g n (Some t) old h = ap plain_mark (marked_kept w v g t h.0 h.1)
mark_kept w v g n None old h = refl

-- a register and a temporary hold words alike
hard_sorted : (w n : ℕ) (o : Option Tree) → IsSortedIf w (Hard n) o → IsSortedIf w (Hard 0) o
hard_sorted w n (Some t) h = h
hard_sorted w n None h = h

temp_sorted : (w n : ℕ) (o : Option Tree) → IsSortedIf w (Temp n) o → IsSortedIf w (Hard 0) o
temp_sorted w n (Some t) h = h
temp_sorted w n None h = h

halt_sorted : (w : ℕ) (o : Option Tree) → IsSortedIf w Halt o → IsSortedIf w Output o
halt_sorted w (Some t) h = h
halt_sorted w None h = h

takes_kept : (w : ℕ) (ms : List Move) → AreSorted w ms → takes (norm_moves w ms) ≡ takes ms
takes_kept w [] h = refl
takes_kept w (m ∷ ms) h =
    ap (λ x. if x then true else takes (norm_moves w ms)) h.0.input
    ∙ ap (λ y. if is_input m.value then true else y) (takes_kept w ms h.1)

-- what is stored
abbrev norm_storing : ℕ → Option Storing → Option Storing
norm_storing w (Some s) = Some (record { width = s.width; place = norm w s.place; value = norm_value w (ToMemory s.width s.place) s.value })
norm_storing w None = None

abbrev IsStoringSorted : ℕ → Option Storing → Type 0
IsStoringSorted w (Some s) = (IsFitting w s.place × IsFitting w s.value) × IsWordTree s.place × IsWordTree s.value
IsStoringSorted w None = Unit {0}

storing_norm_by : (w : ℕ) (g : Goal) (t : Tree) (p q : Option Storing) → p ≡ norm_storing w q → storing_by (norm_goal w g) (norm_value w g t) p ≡ norm_storing w (storing_by g t q)
storing_norm_by w (ToCell d) t p q e = e
storing_norm_by w (ToMemory d a) t p q e = refl

storing_norm : (w : ℕ) (ms : List Move) → storing (norm_moves w ms) ≡ norm_storing w (storing ms)
storing_norm w [] = refl
storing_norm w (m ∷ ms) = storing_norm_by w m.to m.value (storing (norm_moves w ms)) (storing ms) (storing_norm w ms)

storing_sorted_by : (w : ℕ) (g : Goal) (t : Tree) (q : Option Storing) → IsGoalFitting w g → IsFitting w t → IsSorted g t → IsStoringSorted w q → IsStoringSorted w (storing_by g t q)
storing_sorted_by w (ToCell d) t q j f s k = k
storing_sorted_by w (ToMemory d a) t q j f s k = ((j, f), s.0, s.1)

storing_sorted : (w : ℕ) (ms : List Move) → AreSorted w ms → IsStoringSorted w (storing ms)
storing_sorted w [] h = tt
storing_sorted w (m ∷ ms) h =
    storing_sorted_by w m.to m.value (storing ms) h.0.fits.0 h.0.fits.1 h.0.sort (storing_sorted w ms h.1)

-- two patches that leave the same bytes
data IsPatchAlike : Result (Option Patch) Stop → Result (Option Patch) Stop → Type 0 where
  fails : (s : Stop) → IsPatchAlike (Err s) (Err s)
  leaves : (p q : Option Patch) → ((m : ℕ → Option ℕ) (b : ℕ) → patched p m b ≡ patched q m b) → IsPatchAlike (Ok p) (Ok q)

patch_self : (r : Result (Option Patch) Stop) → IsPatchAlike r r
patch_self (Ok p) = leaves p p (λ m b. refl)
patch_self (Err s) = fails s

abbrev patch_at : Result ℕ Stop → ℕ → Option ℕ → Result (Option Patch) Stop
patch_at r n x = bind r (λ a. Ok (Some (record { at = a; count = n; value = x })))

-- one byte
low_byte : (x y k : ℕ) → x % 256 ≡ y % 256 → k ≡ 0 → byte_of (Some x) k ≡ byte_of (Some y) k
low_byte x y k e h =
    let P : ℕ → Type 0 = λ j. byte_of (Some x) j ≡ byte_of (Some y) j in
    let d : x / 1 % 256 ≡ y / 1 % 256 = omega arith in
    subst P (sym h) (ap Some d)

one_byte : (a b : ℕ) → nat_le a b && nat_lt b (a + 1) ≡ true → b - a ≡ 0
one_byte a b e = grind (arith, nat_tests)

byte_same : (x y a b : ℕ) (m : ℕ → Option ℕ) → x % 256 ≡ y % 256 →
    (if nat_le a b && nat_lt b (a + 1) then byte_of (Some x) (b - a) else m b) ≡ (if nat_le a b && nat_lt b (a + 1) then byte_of (Some y) (b - a) else m b)
byte_same x y a b m e =
    elim (nat_le a b && nat_lt b (a + 1)) as (λ t. nat_le a b && nat_lt b (a + 1) ≡ t → (if t then byte_of (Some x) (b - a) else m b) ≡ (if t then byte_of (Some y) (b - a) else m b)) [
      | true ↦ λ h. low_byte x y (b - a) e (one_byte a b h)
      | false ↦ λ h. refl
    ] refl

byte_patch : (r : Result ℕ Stop) (x y : ℕ) → x % 256 ≡ y % 256 → IsPatchAlike (patch_at r 1 (Some x)) (patch_at r 1 (Some y))
byte_patch (Ok a) x y e =
    leaves (Some (record { at = a; count = 1; value = Some x })) (Some (record { at = a; count = 1; value = Some y }))
    (λ m b. byte_same x y a b m e)
byte_patch (Err s) x y e = fails s

stored_patch : (p : Result ℕ Stop) (r q : Seen) → IsStoredAlike r q → IsPatchAlike (bind r (patch_at p 1)) (bind q (patch_at p 1))
stored_patch p _ _ (stops s) = fails s
stored_patch p _ _ blanks = patch_self (patch_at p 1 None)
stored_patch p _ _ (words x y e) = byte_patch p x y e

value_patch : (w : ℕ) (d : Width) (p : Result ℕ Stop) (r q : Seen) → IsValueAlike d r q → IsPatchAlike (bind r (patch_at p (width_of w d))) (bind q (patch_at p (width_of w d)))
value_patch w Byte p r q h = stored_patch p r q h
value_patch w Full p r q h =
    let P : Seen → Type 0 = λ x. IsPatchAlike (bind r (patch_at p (width_of w Full))) (bind x (patch_at p (width_of w Full))) in
    subst P h (patch_self (bind r (patch_at p (width_of w Full))))

patch_kept : (w : ℕ) (v : View) → Ground w v → (o : Option Storing) → IsStoringSorted w o → IsPatchAlike (patch_of w (norm_storing w o) v) (patch_of w o v)
patch_kept w v g (Some s) h =
    let e = place_kept w v g s.width s.place h.0.0 h.1 in
    let P : Result ℕ Stop → Type 0 = λ p. IsPatchAlike (bind (seen w (norm_value w (ToMemory s.width s.place) s.value) v) (patch_at (place_of w s.width (norm w s.place) v) (width_of w s.width))) (bind (seen w s.value v) (patch_at p (width_of w s.width))) in
    subst P e (value_patch w s.width (place_of w s.width (norm w s.place) v) _ _ (value_alike w v g s.width s.place s.value h.0.1 h.2))
patch_kept w v g None h = patch_self (patch_of w None v)

-- the views after both
cells_kept : (w : ℕ) (v : View) → Ground w v → (ms : List Move) → AreSorted w ms → (c : Cell) → cells_after w (norm_moves w ms) v c ≡ cells_after w ms v c
cells_kept w v g ms h (Hard n) =
    ap (λ o. cell_after w o v (v.cells (Hard n))) (assigned_norm w (Hard n) ms)
    ∙ cell_kept w v g (assigned ms (Hard n)) (v.cells (Hard n)) (hard_sorted w n (assigned ms (Hard n)) (assigned_sorted w (Hard n) ms h))
cells_kept w v g ms h (Temp n) =
    ap (λ o. cell_after w o v (v.cells (Temp n))) (assigned_norm w (Temp n) ms)
    ∙ cell_kept w v g (assigned ms (Temp n)) (v.cells (Temp n)) (temp_sorted w n (assigned ms (Temp n)) (assigned_sorted w (Temp n) ms h))
cells_kept w v g ms h Input = ap (λ t. Some (next_in w (input_after t v.input))) (takes_kept w ms h)
cells_kept w v g ms h Pc = refl
cells_kept w v g ms h (Flag n) = refl
cells_kept w v g ms h Output = refl
cells_kept w v g ms h Halt = refl
cells_kept w v g ms h (Hole n) = refl

flags_kept : (w : ℕ) (v : View) → Ground w v → (ms : List Move) → AreSorted w ms → (n : ℕ) → mark_after w (assigned (norm_moves w ms) (Flag n)) v (v.flags n) ≡ mark_after w (assigned ms (Flag n)) v (v.flags n)
flags_kept w v g ms h n =
    ap (λ o. mark_after w o v (v.flags n)) (assigned_norm w (Flag n) ms)
    ∙ mark_kept w v g n (assigned ms (Flag n)) (v.flags n) (assigned_sorted w (Flag n) ms h)

view_kept : (w : ℕ) (v : View) → Ground w v → (ms : List Move) → AreSorted w ms → (p q : Option Patch) → ((m : ℕ → Option ℕ) (b : ℕ) → patched p m b ≡ patched q m b) → IsSameView (view_after w (norm_moves w ms) p v) (view_after w ms q v)
view_kept w v g ms h p q k = record {
  cells = cells_kept w v g ms h;
  flags = flags_kept w v g ms h;
  size = refl;
  bytes = k v.bytes;
  reach = λ a. refl;
  symbols = λ n. refl;
  labels = λ l. refl;
  targets = λ l. refl;
  places = λ n. refl;
  input = ap (λ t. input_after t v.input) (takes_kept w ms h);
}

-- the parts of an effect, one after the other
abbrev parts : Fine → Result (Option ℕ) Stop → Result (Option ℕ) Stop → Result (Option ℕ) Stop → Result (Option Patch) Stop → (Option Patch → View) → Result Done Stop
parts f o h q p go =
    bind f (λ x. bind o (λ output. bind h (λ halt. bind q (λ place. bind p (λ patch.
    Ok (record { view = go patch; place = place; output = output; halt = halt }))))))

parts_same : (f : Fine) (o h q : Result (Option ℕ) Stop) (p r : Result (Option Patch) Stop) (go to : Option Patch → View) → IsPatchAlike p r → ((x y : Option Patch) → ((m : ℕ → Option ℕ) (b : ℕ) → patched x m b ≡ patched y m b) → IsSameView (go x) (to y)) → IsSameEffect (parts f o h q p go) (parts f o h q r to)
parts_same (Err s) o h q p r go to k j = both_stop s
parts_same (Ok f) (Err s) h q p r go to k j = both_stop s
parts_same (Ok f) (Ok o) (Err s) q p r go to k j = both_stop s
parts_same (Ok f) (Ok o) (Ok h) (Err s) p r go to k j = both_stop s
parts_same (Ok f) (Ok o) (Ok h) (Ok q) _ _ go to (fails s) j = both_stop s
parts_same (Ok f) (Ok o) (Ok h) (Ok q) _ _ go to (leaves x y e) j =
    both_do (record { view = go x; place = q; output = o; halt = h }) (record { view = to y; place = q; output = o; halt = h })
    (record { view = j x y e; place = refl; output = refl; halt = refl })

sorted_effect : (w : ℕ) (v : View) → Ground w v → (ms : List Move) → AreSorted w ms → AllLeadAlike w v ms → IsSameEffect (effect w (norm_moves w ms) v) (effect w ms v)
sorted_effect w v g ms h l =
    let ns = norm_moves w ms in
    let test : tested w ns v ≡ tested w ms v = moves_tested w v g ms h l in
    let output : event w (assigned ns Output) v ≡ event w (assigned ms Output) v =
    ap (λ o. event w o v) (assigned_norm w Output ms) ∙ event_kept w v g (assigned ms Output) (assigned_sorted w Output ms h) in
    let halt : event w (assigned ns Halt) v ≡ event w (assigned ms Halt) v =
    ap (λ o. event w o v) (assigned_norm w Halt ms) ∙ event_kept w v g (assigned ms Halt) (halt_sorted w (assigned ms Halt) (assigned_sorted w Halt ms h)) in
    let place : went w (assigned ns Pc) v ≡ went w (assigned ms Pc) v =
    ap (λ o. went w o v) (assigned_norm w Pc ms) ∙ went_kept w v (assigned ms Pc) (jump_leads w v ms l) in
    let P : Option Storing → Type 0 = λ o. IsPatchAlike (patch_of w o v) (patch_of w (storing ms) v) in
    let patch : P (storing ns) = subst P (sym (storing_norm w ms)) (patch_kept w v g (storing ms) (storing_sorted w ms h)) in
    let all = parts_same (tested w ms v) (event w (assigned ms Output) v) (event w (assigned ms Halt) v) (went w (assigned ms Pc) v)
    (patch_of w (storing ns) v) (patch_of w (storing ms) v) (λ p. view_after w ns p v) (λ p. view_after w ms p v) patch (view_kept w v g ms h) in
    let to : Option Patch → View = λ p. view_after w ns p v in
    let R : Result Done Stop → Type 0 = λ x. IsSameEffect x (effect w ms v) in
    let with_test = ap (λ f. parts f (event w (assigned ns Output) v) (event w (assigned ns Halt) v) (went w (assigned ns Pc) v) (patch_of w (storing ns) v) to) test in
    let with_output = ap (λ o. parts (tested w ms v) o (event w (assigned ns Halt) v) (went w (assigned ns Pc) v) (patch_of w (storing ns) v) to) output in
    let with_halt = ap (λ o. parts (tested w ms v) (event w (assigned ms Output) v) o (went w (assigned ns Pc) v) (patch_of w (storing ns) v) to) halt in
    let with_place = ap (λ o. parts (tested w ms v) (event w (assigned ms Output) v) (event w (assigned ms Halt) v) o (patch_of w (storing ns) v) to) place in
    subst R (sym (with_test ∙ (with_output ∙ (with_halt ∙ with_place)))) all

leads_of : (w : ℕ) (v : View) → Ground w v → (ms : List Move) → AreSorted w ms → AreLabelsPlaces v ⊎ HasNormalJump w ms → AllLeadAlike w v ms
leads_of w v g ms h (inl p) = all_places_lead w v g p ms h
leads_of w v g ms h (inr n) = all_forms_lead w v ms (recursion_from_All _ ms n)

pub effect_is_kept : EffectIsKept
effect_is_kept w ms v z k p h f l =
    let g : Ground w v = record { size = z; words = k } in
    let s = sorted_moves w ms (recursion_from_All _ ms h.placed) (recursion_from_All _ ms f) (recursion_from_All _ ms l) in
    sorted_effect w v g ms s (leads_of w v g ms s p)

-- the jump in its normal form

-- a view in which labels are their places, since they have none
abbrev unlabelled : View → View
unlabelled v = record v { labels = λ l. None; targets = λ l. None }

unlabelled_words : (w : ℕ) (v : View) → IsWordView w v → IsWordView w (unlabelled v)
unlabelled_words w v k = record { cells = k.cells; bytes = k.bytes; symbols = k.symbols; labels = λ l n e. absurd (grind (arith, e)) }

sorted_form : (w : ℕ) (v : View) → Ground w v → (to : Goal) (t : Tree) → IsSortedMove w (record { to = to; value = t }) → IsSortedMove w (record { to = to; value = jump_in_form w to t })
sorted_form w v g (ToCell Pc) t h =
    let u : Ground w (unlabelled v) = record { size = g.size; words = unlabelled_words w v g.words } in
    let k = jump_normal w (unlabelled v) u (λ l. refl) t h.fits.1 h.sort in
    record { fits = (tt, k.fits); sort = k.sort; input = ap is_input (norm_norm w t) }
sorted_form w v g (ToCell (Hard n)) t h = h
sorted_form w v g (ToCell (Temp n)) t h = h
sorted_form w v g (ToCell (Flag n)) t h = h
sorted_form w v g (ToCell Input) t h = h
sorted_form w v g (ToCell Output) t h = h
sorted_form w v g (ToCell Halt) t h = h
sorted_form w v g (ToCell (Hole n)) t h = h
sorted_form w v g (ToMemory d a) t h = h

sorted_forms : (w : ℕ) (v : View) → Ground w v → (ms : List Move) → AreSorted w ms → AreSorted w (with_normal_jump w ms)
sorted_forms w v g [] h = tt
sorted_forms w v g (m ∷ ms) h = (sorted_form w v g m.to m.value h.0, sorted_forms w v g ms h.1)

form_normal : (w : ℕ) (v : View) (to : Goal) (t : Tree) → LeadsAlike w v to (jump_in_form w to t)
form_normal w v (ToCell Pc) t = ap (λ u. jump w u v) (norm_norm w t)
form_normal w v (ToCell (Hard n)) t = tt
form_normal w v (ToCell (Temp n)) t = tt
form_normal w v (ToCell (Flag n)) t = tt
form_normal w v (ToCell Input) t = tt
form_normal w v (ToCell Output) t = tt
form_normal w v (ToCell Halt) t = tt
form_normal w v (ToCell (Hole n)) t = tt
form_normal w v (ToMemory d a) t = tt

forms_normal : (w : ℕ) (v : View) (ms : List Move) → AllLeadAlike w v (with_normal_jump w ms)
forms_normal w v [] = tt
forms_normal w v (m ∷ ms) = (form_normal w v m.to m.value, forms_normal w v ms)

value_again : (w : ℕ) (to : Goal) (t : Tree) → norm_value w to (jump_in_form w to t) ≡ norm_value w to t
value_again w (ToCell Pc) t = norm_norm w t
value_again w _ t = refl

moves_again : (w : ℕ) (ms : List Move) → norm_moves w (with_normal_jump w ms) ≡ norm_moves w ms
moves_again w [] = refl
moves_again w (m ∷ ms) =
    ap (λ t. record { to = norm_goal w m.to; value = t } ∷ norm_moves w (with_normal_jump w ms)) (value_again w m.to m.value)
    ∙ ap (λ rest. norm_move w m ∷ rest) (moves_again w ms)

pub normal_jump_is_kept : NormalJumpIsKept
normal_jump_is_kept w ms v z k h f l =
    let g : Ground w v = record { size = z; words = k } in
    let s = sorted_moves w ms (recursion_from_All _ ms h.placed) (recursion_from_All _ ms f) (recursion_from_All _ ms l) in
    let P : List Move → Type 0 = λ ns. IsSameEffect (effect w ns v) (effect w (with_normal_jump w ms) v) in
    subst P (moves_again w ms) (sorted_effect w v g (with_normal_jump w ms) (sorted_forms w v g ms s) (forms_normal w v ms))

pub jump_is_place : JumpIsPlace
jump_is_place w ms v z k p h f l =
    same_effect_trans _ _ _ (same_effect_swap _ _ (normal_jump_is_kept w ms v z k h f l)) (effect_is_kept w ms v z k (inl p) h f l)

form_of_value : (w : ℕ) (to : Goal) (t : Tree) → jump_in_form w (norm_goal w to) (norm_value w to t) ≡ norm_value w to t
form_of_value w (ToCell Pc) t = norm_norm w t
form_of_value w _ t = refl

pub normal_form_has_normal_jump : NormalFormHasNormalJump
normal_form_has_normal_jump w [] = refl
normal_form_has_normal_jump w (m ∷ ms) =
    ap (λ t. record { to = norm_goal w m.to; value = t } ∷ with_normal_jump w (norm_moves w ms)) (form_of_value w m.to m.value)
    ∙ ap (λ rest. norm_move w m ∷ rest) (normal_form_has_normal_jump w ms)
