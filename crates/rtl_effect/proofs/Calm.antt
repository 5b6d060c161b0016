-- Where all is set, no transfer is wild.
use Rattle.std.proofs.Common.{◌≡◌, ℕ, zero, suc, ◌+◌, ◌-◌, Bool, true, false, cond, List, [], ◌∷◌, nat_lt, Option, Some, None, Result, Ok, Err, refl, subst, arith}
use Rattle.std.proofs.lemmas.List.Elements.{All-head, All-tail}
use Rattle.std.specs.Prelude.{nat_le, ◌&&◌, All}
use Rattle.rtl_tree.specs.Trees.{Tree, Number, Symbol, CodeLabel, Read, Load, Unary, Binary, NoPair, AnyNumber, AnyName}
use Rattle.rtl_tree.specs.declared.cells.Cell.{Cell}
use Rattle.rtl_tree.specs.declared.cells.Cell.TheVariants.{Hard, Temp, Flag, Pc, Input, Output, Halt, Hole}
use Rattle.rtl_tree.specs.declared.expressions.Width.{Width}
use Rattle.rtl_word.specs.declared.Rel.{Rel}
use Rattle.rtl_tree.specs.declared.expressions.UnOp.{UnOp}
use Rattle.rtl_tree.specs.declared.expressions.UnOp.TheVariants.{Neg, Not, Sxb, Test}
use Rattle.rtl_tree.specs.declared.expressions.BinOp.{BinOp}
use Rattle.rtl_tree.specs.declared.expressions.BinOp.TheVariants.{Pair, When, Cmp}
use Rattle.rtl_tree.specs.Moves.{Goal, ToCell, ToMemory, Move}
use Rattle.rtl_tree.specs.Same.{same_cell}
use Rattle.rtl_tree.specs.declared.constructs.Construct.TheVariants.{Compared}
use Rattle.rtl_tree.specs.WellFormed.{IsPlaced, is_construct, compares_for_flag, takes_for_register}
use Rattle.rtl_tree.proofs.Equality.{same_cell-is}
use Rattle.rtl_value.specs.declared.state.Trap.{Trap}
use Rattle.rtl_value.specs.declared.state.Trap.TheVariants.{Address, Align}
use Rattle.rtl_value.specs.Values.{binary_of}
use Rattle.rtl_effect.specs.Views.{Stop, Traps, Wild, Mark, Holds, Gone, View, Seen, bind, lifted, both, word_at, all_reached, width_of, touched, unary_on, unary_seen, binary_on, binary_seen, load_on, mark_test, test_seen, seen}
use Rattle.rtl_effect.specs.Effects.{assigned_by, assigned, Storing, storing, needed, marked, place_at, target, chosen, aimed, jump, valued, Fine, done, tested_cell, place_of, tested_by, tested, Patch, patch_of, byte_of, patched, plain, cell_after, event, went, cells_after, Done, view_after, effect}
use Rattle.rtl_effect.specs.Calm.{Given, given, IsSet, Calm, traps, gives, is_no_hole, AssignsNoHole, IsMade}
use Rattle.rtl_effect.specs.EffectLaws.{EffectIsCalm}

pub bind_calm : (A B : Type 0) (P : A → Type 0) (Q : B → Type 0) (u : Result A Stop) (f : A → Result B Stop)
    → Calm A P u → ((x : A) → P x → Calm B Q (f x)) → Calm B Q (bind u f)
bind_calm A B P Q u f (traps t) go = traps t
bind_calm A B P Q u f (gives x p) go = go x p

abbrev pub Sound : Seen → Type 0
Sound = Calm (Option ℕ) Given

abbrev pub True : (A : Type 0) → A → Type 0
True A x = Unit {0}

lifted_calm : (u : Result ℕ Trap) → Sound (lifted u)
lifted_calm (Ok n) = gives _ (given n)
lifted_calm (Err t) = traps t

unary_calm : (w : ℕ) (o : UnOp) (x : Option ℕ) → Given x → Sound (unary_seen w o x)
unary_calm w o x (given n) = gives _ (given _)

binary_calm : (w : ℕ) (o : BinOp) (x y : Option ℕ) → Given x → Given y → Sound (binary_seen w o x y)
binary_calm w o x y (given n) (given m) = lifted_calm (binary_of w o n m)

both_given : (x y : Option ℕ) (f : ℕ → ℕ → ℕ) → Given x → Given y → Given (both x y f)
both_given x y f (given n) (given m) = given _

mark_calm : (w : ℕ) (r : Rel) (m : Mark) → Sound (mark_test w r m)
mark_calm w r (Holds a b) = gives _ (given _)
mark_calm w r Gone = traps _

reach_cases : (b c : Bool) → b ≡ true → c ≡ true → cond b c false ≡ true
reach_cases true c e f = f
reach_cases false c e f = e

module _ (v : View) (s : IsSet v) where
  word_given : (a n : ℕ) → Given (word_at v.bytes a n)
  word_given a zero = given 0
  word_given a (suc n) = both_given _ _ _ (s.bytes a) (word_given (a + 1) n)

  reached : (a n : ℕ) → all_reached v.reach a n ≡ true
  reached a zero = refl
  reached a (suc n) = reach_cases (v.reach a) _ (s.reach a) (reached (a + 1) n)

  touch_cases : (x y z : Bool) (a : ℕ) → z ≡ true
      → Calm ℕ (True ℕ) (cond x (cond y (cond z (Ok a) (Err Wild)) (Err (Traps Align))) (Err (Traps Address)))
  touch_cases true true true a e = gives a tt
  touch_cases true true false a e = absurd (let k : false ≡ true = e in cc)
  touch_cases true false z a e = traps _
  touch_cases false y z a e = traps _

  touched_calm : (n : ℕ) (x : Option ℕ) → Given x → Calm ℕ (True ℕ) (touched n v x)
  touched_calm n x (given a) = touch_cases _ _ _ a (reached a n)

  load_calm : (n : ℕ) (u : Seen) → Sound u → Sound (load_on n v u)
  load_calm n u h =
      bind_calm _ _ Given Given u _ h
      (λ x g. bind_calm _ _ (True ℕ) Given (touched n v x) _ (touched_calm n x g) (λ b t. gives _ (word_given b n)))

  two_calm : (w : ℕ) (o : BinOp) (a b : Seen) → Sound a → Sound b → Sound (binary_on w o a b)
  two_calm w o a b h k = bind_calm _ _ Given Given a _ h (λ x g. bind_calm _ _ Given Given b _ k (λ y f. binary_calm w o x y g f))

  one_calm : (w : ℕ) (o : UnOp) (a : Seen) → Sound a → Sound (unary_on w o a)
  one_calm w o a h = bind_calm _ _ Given Given a _ h (λ x g. unary_calm w o x g)

  mutual
    pub seen_calm : (w : ℕ) (t : Tree) → Sound (seen w t v)
    seen_calm w (Number n) = gives _ (given n)
    seen_calm w (Symbol n) = gives _ (given _)
    seen_calm w (CodeLabel l) = gives _ (s.labels l)
    seen_calm w (Read c) = gives _ (s.cells c)
    seen_calm w (Load d a) = load_calm (width_of w d) _ (seen_calm w a)
    seen_calm w (Unary (Test r) a) = test_calm w r a
    seen_calm w (Unary Neg a) = one_calm w Neg _ (seen_calm w a)
    seen_calm w (Unary Not a) = one_calm w Not _ (seen_calm w a)
    seen_calm w (Unary Sxb a) = one_calm w Sxb _ (seen_calm w a)
    seen_calm w (Binary o a b) = two_calm w o _ _ (seen_calm w a) (seen_calm w b)
    seen_calm w NoPair = traps _
    seen_calm w (AnyNumber n) = traps _
    seen_calm w (AnyName n) = traps _

    test_calm : (w : ℕ) (r : Rel) (t : Tree) → Sound (test_seen w r t v)
    test_calm w r (Read (Flag n)) = mark_calm w r (v.flags n)
    test_calm w r (Binary Pair a b) = two_calm w (Cmp r) _ _ (seen_calm w a) (seen_calm w b)
    test_calm w r _ = traps _

  needed_calm : (x : Option ℕ) → Given x → Calm ℕ (True ℕ) (needed x)
  needed_calm x (given n) = gives n tt

  valued_calm : (w : ℕ) (t : Tree) → Calm ℕ (True ℕ) (valued w t v)
  valued_calm w t = bind_calm _ _ Given (True ℕ) _ _ (seen_calm w t) needed_calm

  place_given : (x : Option ℕ) → Given x → Given (place_at v x)
  place_given x (given n) = s.places n

  target_calm : (w : ℕ) (t : Tree) → Sound (target w t v)
  target_calm w (CodeLabel l) = gives _ (s.targets l)
  target_calm w t = bind_calm _ _ Given Given _ _ (seen_calm w t) (λ x g. gives _ (place_given x g))

  chosen_calm : (x y : Option ℕ) → Given x → Given y → Sound (chosen v x y)
  chosen_calm x y (given zero) g = gives _ (s.cells Pc)
  chosen_calm x y (given (suc n)) (given m) = gives _ (given m)

  aimed_calm : (x : Option ℕ) → Given x → Sound (aimed x)
  aimed_calm x (given n) = gives _ (given n)

  jump_calm : (w : ℕ) (t : Tree) → Sound (jump w t v)
  jump_calm w (Binary When c l) =
      bind_calm _ _ Given Given _ _ (seen_calm w c) (λ x g. bind_calm _ _ Given Given _ _ (target_calm w l) (λ y f. chosen_calm x y g f))
  jump_calm w t = bind_calm _ _ Given Given _ _ (target_calm w t) aimed_calm

  -- a flag's value is a pair or is lost
  marked_calm : (w : ℕ) (t : Tree) (rest : Bool) → is_construct Compared t && rest ≡ true → Calm Mark (True Mark) (marked w t v)
  marked_calm w (Binary Pair a b) rest e =
      bind_calm _ _ Given (True Mark) _ _ (seen_calm w a) (λ x g. bind_calm _ _ Given (True Mark) _ _ (seen_calm w b) (λ y f. gives _ tt))
  marked_calm w NoPair rest e = gives _ tt
  marked_calm w _ rest e = absurd (let k : false ≡ true = e in cc)

  done_calm : (A : Type 0) (P : A → Type 0) (u : Result A Stop) → Calm A P u → Calm (Unit {0}) (True (Unit {0})) (done u)
  done_calm A P u (traps t) = traps t
  done_calm A P u (gives x p) = gives tt tt

  -- a value of a cell that isn't a flag, the input or a hole
  cell_calm : (w : ℕ) (c : Cell) (t : Tree) → compares_for_flag (ToCell c) t ≡ true → takes_for_register (ToCell c) t ≡ true → is_no_hole (ToCell c) ≡ true
      → Calm (Unit {0}) (True (Unit {0})) (tested_cell w c t v)
  cell_calm w (Hard n) t e f h = done_calm _ Given _ (seen_calm w t)
  cell_calm w (Temp n) t e f h = done_calm _ Given _ (seen_calm w t)
  cell_calm w (Flag n) t e f h = done_calm _ (True Mark) _ (marked_calm w t _ e)
  cell_calm w Pc t e f h = done_calm _ Given _ (jump_calm w t)
  cell_calm w Output t e f h = done_calm _ (True ℕ) _ (valued_calm w t)
  cell_calm w Halt t e f h = done_calm _ (True ℕ) _ (valued_calm w t)
  cell_calm w Input t e f h = absurd (let k : false ≡ true = f in cc)
  cell_calm w (Hole n) t e f h = absurd (let k : false ≡ true = h in cc)

  place_calm : (w : ℕ) (d : Width) (a : Tree) → Calm ℕ (True ℕ) (place_of w d a v)
  place_calm w d a = bind_calm _ _ Given (True ℕ) _ _ (seen_calm w a) (λ x g. touched_calm (width_of w d) x g)

  goal_calm : (w : ℕ) (g : Goal) (t : Tree) → compares_for_flag g t ≡ true → takes_for_register g t ≡ true → is_no_hole g ≡ true
      → Calm (Unit {0}) (True (Unit {0})) (tested_by w g t v)
  goal_calm w (ToCell c) t e f h = cell_calm w c t e f h
  goal_calm w (ToMemory d a) t e f h =
      bind_calm _ _ Given (True (Unit {0})) _ _ (seen_calm w t) (λ x g. done_calm _ (True ℕ) _ (place_calm w d a))

  placed : (m : Move) (ms : List Move) → All IsPlaced (m ∷ ms) → IsPlaced m
  placed m ms h = All-head IsPlaced m ms h

  tested_calm : (w : ℕ) (ms : List Move) → All IsPlaced ms → All (λ m. is_no_hole m.to ≡ true) ms → Calm (Unit {0}) (True (Unit {0})) (tested w ms v)
  tested_calm w [] h k = gives tt tt
  tested_calm w (m ∷ ms) h k =
      bind_calm _ _ (True (Unit {0})) (True (Unit {0})) _ _ (goal_calm w m.to m.value (placed m ms h).flags (placed m ms h).input (All-head (λ q. is_no_hole q.to ≡ true) m ms k))
      (λ x g. tested_calm w ms (All-tail IsPlaced m ms h) (All-tail (λ q. is_no_hole q.to ≡ true) m ms k))

  event_calm : (w : ℕ) (o : Option Tree) → Calm (Option ℕ) (True (Option ℕ)) (event w o v)
  event_calm w None = gives _ tt
  event_calm w (Some t) = bind_calm _ _ (True ℕ) (True (Option ℕ)) _ _ (valued_calm w t) (λ n g. gives _ tt)

  went_calm : (w : ℕ) (o : Option Tree) → Calm (Option ℕ) Given (went w o v)
  went_calm w None = gives _ (s.cells Pc)
  went_calm w (Some t) = jump_calm w t

  abbrev PatchGiven : Option Patch → Type 0
  PatchGiven None = Unit {0}
  PatchGiven (Some p) = Given p.value

  patch_calm : (w : ℕ) (o : Option Storing) → Calm (Option Patch) PatchGiven (patch_of w o v)
  patch_calm w None = gives None tt
  patch_calm w (Some q) =
      bind_calm _ _ Given PatchGiven _ _ (seen_calm w q.value)
      (λ x g. bind_calm _ _ (True ℕ) PatchGiven _ _ (place_calm w q.width q.place) (λ a t. gives _ g))

  byte_given : (x : Option ℕ) (k : ℕ) → Given x → Given (byte_of x k)
  byte_given x k (given n) = given _

  cond_given : (b : Bool) (x y : Option ℕ) → Given x → Given y → Given (cond b x y)
  cond_given true x y g h = g
  cond_given false x y g h = h

  patched_given : (p : Option Patch) (b : ℕ) → PatchGiven p → Given (patched p v.bytes b)
  patched_given None b g = s.bytes b
  patched_given (Some p) b g = cond_given (nat_le p.at b && nat_lt b (p.at + p.count)) _ _ (byte_given p.value (b - p.at) g) (s.bytes b)

  -- what is assigned to a cell was tested
  abbrev Tested : ℕ → Cell → Option Tree → Type 0
  Tested w c None = Unit {0}
  Tested w c (Some t) = tested_cell w c t v ≡ Ok tt

  pick_tested : (w : ℕ) (c d : Cell) (t : Tree) (o : Option Tree) (b : Bool) → same_cell d c ≡ b → tested_cell w d t v ≡ Ok tt → Tested w c o
      → Tested w c (cond b (Some t) o)
  pick_tested w c d t o true e h k = subst (λ x. tested_cell w x t v ≡ Ok tt) (same_cell-is d c e) h
  pick_tested w c d t o false e h k = k

  goal_tested : (w : ℕ) (c : Cell) (g : Goal) (t : Tree) (o : Option Tree) → tested_by w g t v ≡ Ok tt → Tested w c o → Tested w c (assigned_by g t c o)
  goal_tested w c (ToCell d) t o h k = pick_tested w c d t o (same_cell d c) refl h k
  goal_tested w c (ToMemory d a) t o h k = k

  first_fine : (u : Fine) (go : Fine) → bind u (λ x. go) ≡ Ok tt → u ≡ Ok tt
  first_fine (Ok x) go e = refl
  first_fine (Err k) go e = absurd (grind (arith, e))

  then_fine : (u : Fine) (go : Fine) → bind u (λ x. go) ≡ Ok tt → go ≡ Ok tt
  then_fine (Ok x) go e = e
  then_fine (Err k) go e = absurd (grind (arith, e))

  assigned_tested : (w : ℕ) (ms : List Move) (c : Cell) → tested w ms v ≡ Ok tt → Tested w c (assigned ms c)
  assigned_tested w [] c e = tt
  assigned_tested w (m ∷ ms) c e =
      goal_tested w c m.to m.value _ (first_fine (tested_by w m.to m.value v) (tested w ms v) e)
      (assigned_tested w ms c (then_fine (tested_by w m.to m.value v) (tested w ms v) e))

  plain_given : (u : Seen) → Sound u → done u ≡ Ok tt → Given (plain u)
  plain_given u (gives x g) e = g
  plain_given u (traps t) e = absurd (grind (arith, e))

  hard_given : (w k : ℕ) (o : Option Tree) (old : Option ℕ) → Given old → Tested w (Hard k) o → Given (cell_after w o v old)
  hard_given w k None old g h = g
  hard_given w k (Some t) old g h = plain_given (seen w t v) (seen_calm w t) h

  temp_given : (w k : ℕ) (o : Option Tree) (old : Option ℕ) → Given old → Tested w (Temp k) o → Given (cell_after w o v old)
  temp_given w k None old g h = g
  temp_given w k (Some t) old g h = plain_given (seen w t v) (seen_calm w t) h

  after_given : (w : ℕ) (ms : List Move) → tested w ms v ≡ Ok tt → (c : Cell) → Given (cells_after w ms v c)
  after_given w ms e (Hard k) = hard_given w k _ _ (s.cells (Hard k)) (assigned_tested w ms (Hard k) e)
  after_given w ms e (Temp k) = temp_given w k _ _ (s.cells (Temp k)) (assigned_tested w ms (Temp k) e)
  after_given w ms e Input = given _
  after_given w ms e Pc = s.cells Pc
  after_given w ms e (Flag k) = given _
  after_given w ms e Output = given _
  after_given w ms e Halt = given _
  after_given w ms e (Hole k) = given _

  after_set : (w : ℕ) (ms : List Move) (p : Option Patch) → tested w ms v ≡ Ok tt → PatchGiven p → IsSet (view_after w ms p v)
  after_set w ms p e g = record {
    cells = after_given w ms e;
    bytes = λ a. patched_given p a g;
    reach = s.reach;
    labels = s.labels;
    targets = s.targets;
    places = s.places;
  }

  rest_calm : (w : ℕ) (ms : List Move) → tested w ms v ≡ Ok tt → Calm Done IsMade
      (bind (event w (assigned ms Output) v) (λ o. bind (event w (assigned ms Halt) v) (λ h. bind (went w (assigned ms Pc) v) (λ q.
      bind (patch_of w (storing ms) v) (λ p. Ok (record { view = view_after w ms p v; place = q; output = o; halt = h }))))))
  rest_calm w ms e =
      bind_calm _ _ (True (Option ℕ)) IsMade _ _ (event_calm w (assigned ms Output)) (λ o i.
      bind_calm _ _ (True (Option ℕ)) IsMade _ _ (event_calm w (assigned ms Halt)) (λ h j.
      bind_calm _ _ Given IsMade _ _ (went_calm w (assigned ms Pc)) (λ q k.
      bind_calm _ _ PatchGiven IsMade _ _ (patch_calm w (storing ms)) (λ p l.
      gives _ (record { view = after_set w ms p e l; place = k })))))

  effect_cases : (u : Fine) (go : Result Done Stop) → Calm (Unit {0}) (True (Unit {0})) u → (u ≡ Ok tt → Calm Done IsMade go) → Calm Done IsMade (bind u (λ x. go))
  effect_cases u go (traps t) h = traps t
  effect_cases u go (gives x p) h = h refl

pub effect_calm : (w : ℕ) (ms : List Move) (v : View) → IsSet v → All IsPlaced ms → AssignsNoHole ms → Calm Done IsMade (effect w ms v)
effect_calm w ms v s placed filled = effect_cases v s (tested w ms v) _ (tested_calm v s w ms placed filled) (rest_calm v s w ms)

pub effect_is_calm : EffectIsCalm
effect_is_calm w ms v s formed filled = effect_calm w ms v s formed.placed filled
