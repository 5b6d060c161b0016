-- A transfer made on two views that agree gives views that agree.
use Rattle.std.proofs.Common.{◌≡◌, ℕ, zero, suc, ◌+◌, ◌-◌, ◌%◌, Bool, true, false, cond, List, [], ◌∷◌, nat_lt, Option, Some, None, Result, Ok, refl, ap, subst}
use Rattle.std.specs.Prelude.{nat_le, ◌&&◌}
use Rattle.rtl_tree.specs.Trees.{Tree, CodeLabel, Binary, NoPair}
use Rattle.rtl_tree.specs.declared.cells.Cell.{Cell}
use Rattle.rtl_tree.specs.declared.cells.Cell.TheVariants.{Hard, Temp, Flag, Pc, Input, Output, Halt, Hole}
use Rattle.rtl_tree.specs.declared.expressions.Width.{Width}
use Rattle.rtl_tree.specs.declared.expressions.BinOp.TheVariants.{Pair, When}
use Rattle.rtl_effect.specs.Views.{Stop, Mark, View, Seen, bind, width_of, seen}
use Rattle.rtl_tree.specs.Moves.{Goal, ToCell, ToMemory, Move}
use Rattle.rtl_tree.specs.Same.{same_cell}
use Rattle.rtl_effect.specs.Effects.{assigned_by, assigned, Storing, storing_by, storing, takes, needed, mark_of_two, marked, place_at, target, chosen, aimed, jump, valued, Fine, done, tested_cell, place_of, tested_by, tested, Patch, patch_of, byte_of, patched, plain, plain_mark, cell_after, mark_after, event, went, input_after, next_in, cells_after, Done, view_after, effect}
pub use Rattle.rtl_effect.specs.Agree.{Alike}
use Rattle.rtl_effect.specs.Agree.{Tells, blank, word, Marks, gone, holds, Refines, stops, gives, Sight, AgreeBy, Aimed, TargetAims, JumpAims, MaybeAims, GoalAims, AllAim, Ground, Shows, Agree, Within, GoalWithin, AllWithin, DoneAgree, DoneAgreeBy}
use Rattle.rtl_effect.proofs.SeenGrowth.{Sees, bind_refines, tells_self, Equal, touch_by, seen_by, sight_of}

abbrev pub Any : Unit {0} → Unit {0} → Type 0
Any x y = Unit {0}

abbrev pub IsFine : Fine → Fine → Type 0
IsFine = Refines (Unit {0}) (Unit {0}) Any

pub done_refines : (A B : Type 0) (R : A → B → Type 0) (u : Result A Stop) (v : Result B Stop) → Refines A B R u v → IsFine (done u) (done v)
done_refines A B R u v (stops s y) = stops s _
done_refines A B R u v (gives x y r) = gives tt tt tt

pub data Patches : Option Patch → Option Patch → Type 0 where
  neither : Patches None None
  either : (at count : ℕ) (x y : Option ℕ) → Tells x y → Patches (Some (record { at = at; count = count; value = x })) (Some (record { at = at; count = count; value = y }))

pub two_marks : (x y p q : Option ℕ) → Tells x y → Tells p q → Marks (mark_of_two x p) (mark_of_two y q)
two_marks x y p q (blank z) k = gone _
two_marks x y p q (word n) (blank z) = gone _
two_marks x y p q (word n) (word m) = holds n m

pub needed_refines : (x y : Option ℕ) → Tells x y → Refines ℕ ℕ Equal (needed x) (needed y)
needed_refines x y (blank z) = stops _ _
needed_refines x y (word n) = gives _ _ refl

byte_tells : (x y : Option ℕ) (k : ℕ) → Tells x y → Tells (byte_of x k) (byte_of y k)
byte_tells x y k (blank z) = blank _
byte_tells x y k (word n) = word _

tells_cases : (b : Bool) (p q x y : Option ℕ) → Tells p q → Tells x y → Tells (cond b p x) (cond b q y)
tells_cases true p q x y h k = h
tells_cases false p q x y h k = k

pub patched_tells : (p q : Option Patch) (m k : ℕ → Option ℕ) → Patches p q → ((a : ℕ) → Tells (m a) (k a)) → (b : ℕ) → Tells (patched p m b) (patched q k b)
patched_tells p q m k neither h b = h b
patched_tells p q m k (either at count x y t) h b = tells_cases (nat_le at b && nat_lt b (at + count)) _ _ _ _ (byte_tells x y (b - at) t) (h b)

pub plain_tells : (u v : Seen) → Sees u v → Tells (plain u) (plain v)
plain_tells u v (stops s y) = blank _
plain_tells u v (gives x y t) = t

pub plain_marks : (u v : Result Mark Stop) → Refines Mark Mark Marks u v → Marks (plain_mark u) (plain_mark v)
plain_marks u v (stops s y) = gone _
plain_marks u v (gives x y t) = t

abbrev pub MaybeWithin : (Cell → Bool) → Option Tree → Type 0
MaybeWithin live None = Unit {0}
MaybeWithin live (Some t) = Within live t

abbrev pub StoringWithin : (Cell → Bool) → Option Storing → Type 0
StoringWithin live None = Unit {0}
StoringWithin live (Some s) = Within live s.value × Within live s.place

module _ (live : Cell → Bool) where
  pick_within : (b : Bool) (t : Tree) (o : Option Tree) → Within live t → MaybeWithin live o → MaybeWithin live (cond b (Some t) o)
  pick_within true t o h k = h
  pick_within false t o h k = k

  goal_within : (g : Goal) (t : Tree) (c : Cell) (o : Option Tree) → Within live t → MaybeWithin live o → MaybeWithin live (assigned_by g t c o)
  goal_within (ToCell d) t c o h k = pick_within (same_cell d c) t o h k
  goal_within (ToMemory d a) t c o h k = k

  pub assigned_within : (ms : List Move) (c : Cell) → AllWithin live ms → MaybeWithin live (assigned ms c)
  assigned_within [] c h = tt
  assigned_within (m ∷ ms) c h = goal_within m.to m.value c _ h.0 (assigned_within ms c h.2)

  store_within : (g : Goal) (t : Tree) (o : Option Storing) → Within live t → GoalWithin live g → StoringWithin live o → StoringWithin live (storing_by g t o)
  store_within (ToCell d) t o h i k = k
  store_within (ToMemory d a) t o h i k = (h, i)

  pub storing_within : (ms : List Move) → AllWithin live ms → StoringWithin live (storing ms)
  storing_within [] h = tt
  storing_within (m ∷ ms) h = store_within m.to m.value _ h.0 h.1 (storing_within ms h.2)

-- as bind_refines, with the equations of what was given
pub bind_given : (A A' B B' : Type 0) (R : A → A' → Type 0) (Q : B → B' → Type 0) (u : Result A Stop) (u' : Result A' Stop) (f : A → Result B Stop) (g : A' → Result B' Stop)
    → Refines A A' R u u' → ((x : A) (y : A') → u ≡ Ok x → R x y → Refines B B' Q (f x) (g y)) → Refines B B' Q (bind u f) (bind u' g)
bind_given A A' B B' R Q u u' f g (stops s y) h = stops s (bind y g)
bind_given A A' B B' R Q u u' f g (gives x y r) h = h x y refl r

pub weaker_refines : (A B : Type 0) (R Q : A → B → Type 0) (u : Result A Stop) (v : Result B Stop) → ((x : A) (y : B) → R x y → Q x y) → Refines A B R u v → Refines A B Q u v
weaker_refines A B R Q u v h (stops s y) = stops s y
weaker_refines A B R Q u v h (gives x y r) = gives x y (h x y r)

pick_aims : (P : Option ℕ → Option ℕ → Type 0) (v z : View) (g : Goal) (t : Tree) (o : Option Tree) → GoalAims P v z g t → MaybeAims P v z o → MaybeAims P v z (assigned_by g t Pc o)
pick_aims P v z (ToCell Pc) t o h k = h
pick_aims P v z (ToCell (Hard n)) t o h k = k
pick_aims P v z (ToCell (Temp n)) t o h k = k
pick_aims P v z (ToCell (Flag n)) t o h k = k
pick_aims P v z (ToCell Input) t o h k = k
pick_aims P v z (ToCell Output) t o h k = k
pick_aims P v z (ToCell Halt) t o h k = k
pick_aims P v z (ToCell (Hole n)) t o h k = k
pick_aims P v z (ToMemory d a) t o h k = k

pub assigned_aims : (P : Option ℕ → Option ℕ → Type 0) (v z : View) (ms : List Move) → AllAim P v z ms → MaybeAims P v z (assigned ms Pc)
assigned_aims P v z [] h = tt
assigned_aims P v z (m ∷ ms) h = pick_aims P v z m.to m.value _ h.0 (assigned_aims P v z ms h.1)

-- where places are numbered alike, every value leads to the same place
same_aimed : (x y : Option ℕ) → x ≡ y → Aimed Alike x y
same_aimed x y e = subst (Aimed Alike x) e (self x)
  where
    self : (x : Option ℕ) → Aimed Alike x x
    self None = tt
    self (Some n) = refl

same_target : (v z : View) → Ground v z → (t : Tree) → TargetAims Alike v z t
same_target v z g (CodeLabel l) = same_aimed _ _ (g.targets l)
same_target v z g _ = λ n. same_aimed _ _ (g.places n)

same_jump : (v z : View) → Ground v z → (t : Tree) → JumpAims Alike v z t
same_jump v z g (Binary When c l) = same_target v z g l
same_jump v z g t = same_target v z g t

pub same_goal : (v z : View) → Ground v z → (k : Goal) (t : Tree) → GoalAims Alike v z k t
same_goal v z g (ToCell Pc) t = same_jump v z g t
same_goal v z g _ t = tt

pub same_all : (v z : View) → Ground v z → (ms : List Move) → AllAim Alike v z ms
same_all v z g [] = tt
same_all v z g (m ∷ ms) = (same_goal v z g m.to m.value, same_all v z g ms)

module _ (P : Option ℕ → Option ℕ → Type 0) (live : Cell → Bool) (v z : View) (g : Sight live v z) (on : P (v.cells Pc) (z.cells Pc)) where
  abbrev Leads : Result (Option ℕ) Stop → Result (Option ℕ) Stop → Type 0
  Leads = Refines (Option ℕ) (Option ℕ) P

  pub chosen_by : (x y p q : Option ℕ) → Tells x y → Aimed P p q → Leads (chosen v x p) (chosen z y q)
  chosen_by x y p q (blank k) t = stops _ _
  chosen_by x y p q (word zero) t = gives _ _ on
  chosen_by x y None q (word (suc n)) t = stops _ _
  chosen_by x y (Some m) None (word (suc n)) t = absurd t
  chosen_by x y (Some m) (Some k) (word (suc n)) t = gives _ _ t

  pub aimed_by : (x y : Option ℕ) → Aimed P x y → Leads (aimed x) (aimed y)
  aimed_by None y t = stops _ _
  aimed_by (Some n) None t = absurd t
  aimed_by (Some n) (Some m) t = gives _ _ t

  word_aimed : ((n : ℕ) → Aimed P (v.places n) (z.places n)) → (x y : Option ℕ) → Tells x y → Aimed P (place_at v x) (place_at z y)
  word_aimed f x y (blank z) = tt
  word_aimed f x y (word n) = f n

  pub target_by : (w : ℕ) (t : Tree) → Within live t → TargetAims P v z t → Refines (Option ℕ) (Option ℕ) (Aimed P) (target w t v) (target w t z)
  target_by w (CodeLabel l) i a = gives _ _ a
  target_by w t i a = bind_refines _ _ _ _ Tells (Aimed P) (seen w t v) (seen w t z) _ _ (seen_by live v z g w t i) (λ x y t. gives _ _ (word_aimed a x y t))

  pub marked_by : (w : ℕ) (t : Tree) → Within live t → Refines Mark Mark Marks (marked w t v) (marked w t z)
  marked_by w (Binary Pair a b) i =
      bind_refines _ _ _ _ Tells Marks (seen w a v) (seen w a z) _ _ (seen_by live v z g w a i.0)
      (λ x y t. bind_refines _ _ _ _ Tells Marks (seen w b v) (seen w b z) _ _ (seen_by live v z g w b i.1) (λ p q r. gives _ _ (two_marks x y p q t r)))
  marked_by w NoPair i = gives _ _ (gone _)
  marked_by w _ i = stops _ _

  pub jump_by : (w : ℕ) (t : Tree) → Within live t → JumpAims P v z t → Leads (jump w t v) (jump w t z)
  jump_by w (Binary When c l) i a =
      bind_refines _ _ _ _ Tells P (seen w c v) (seen w c z) _ _ (seen_by live v z g w c i.0)
      (λ x y t. bind_refines _ _ _ _ (Aimed P) P (target w l v) (target w l z) _ _ (target_by w l i.1 a) (λ p q r. chosen_by x y p q t r))
  jump_by w t i a = bind_refines _ _ _ _ (Aimed P) P (target w t v) (target w t z) _ _ (target_by w t i a) aimed_by

  pub valued_by : (w : ℕ) (t : Tree) → Within live t → Refines ℕ ℕ Equal (valued w t v) (valued w t z)
  valued_by w t i = bind_refines _ _ _ _ Tells Equal (seen w t v) (seen w t z) _ _ (seen_by live v z g w t i) needed_refines

  cell_by : (w : ℕ) (c : Cell) (t : Tree) → Within live t → GoalAims P v z (ToCell c) t → IsFine (tested_cell w c t v) (tested_cell w c t z)
  cell_by w (Hard n) t i a = done_refines _ _ Tells _ _ (seen_by live v z g w t i)
  cell_by w (Temp n) t i a = done_refines _ _ Tells _ _ (seen_by live v z g w t i)
  cell_by w (Flag n) t i a = done_refines _ _ Marks _ _ (marked_by w t i)
  cell_by w Pc t i a = done_refines _ _ P _ _ (jump_by w t i a)
  cell_by w Output t i a = done_refines _ _ Equal _ _ (valued_by w t i)
  cell_by w Halt t i a = done_refines _ _ Equal _ _ (valued_by w t i)
  cell_by w Input t i a = stops _ _
  cell_by w (Hole n) t i a = stops _ _

  pub place_by : (w : ℕ) (d : Width) (a : Tree) → Within live a → Refines ℕ ℕ Equal (place_of w d a v) (place_of w d a z)
  place_by w d a i = bind_refines _ _ _ _ Tells Equal (seen w a v) (seen w a z) _ _ (seen_by live v z g w a i) (touch_by v z g.land (width_of w d))

  goal_by : (w : ℕ) (k : Goal) (t : Tree) → Within live t → GoalWithin live k → GoalAims P v z k t → IsFine (tested_by w k t v) (tested_by w k t z)
  goal_by w (ToCell c) t i j a = cell_by w c t i a
  goal_by w (ToMemory d p) t i j a = bind_refines _ _ _ _ Tells Any (seen w t v) (seen w t z) _ _ (seen_by live v z g w t i) (λ x y r. done_refines _ _ Equal _ _ (place_by w d p j))

  pub all_tested : (w : ℕ) (ms : List Move) → AllWithin live ms → AllAim P v z ms → IsFine (tested w ms v) (tested w ms z)
  all_tested w [] h a = gives tt tt tt
  all_tested w (m ∷ ms) h a = bind_refines _ _ _ _ Any Any (tested_by w m.to m.value v) (tested_by w m.to m.value z) _ _ (goal_by w m.to m.value h.0 h.1 a.0) (λ x y r. all_tested w ms h.2 a.1)

  pub event_by : (w : ℕ) (o : Option Tree) → MaybeWithin live o → Refines (Option ℕ) (Option ℕ) Alike (event w o v) (event w o z)
  event_by w None h = gives _ _ refl
  event_by w (Some t) h = bind_refines _ _ _ _ Equal Alike (valued w t v) (valued w t z) _ _ (valued_by w t h) (λ x y e. gives _ _ (ap (λ n. Some (n % 256)) e))

  pub went_by : (w : ℕ) (o : Option Tree) → MaybeWithin live o → MaybeAims P v z o → Leads (went w o v) (went w o z)
  went_by w None h a = gives _ _ on
  went_by w (Some t) h a = jump_by w t h a

  pub patch_by : (w : ℕ) (o : Option Storing) → StoringWithin live o → Refines (Option Patch) (Option Patch) Patches (patch_of w o v) (patch_of w o z)
  patch_by w None h = gives _ _ neither
  patch_by w (Some s) h =
      bind_refines _ _ _ _ Tells Patches (seen w s.value v) (seen w s.value z) _ _ (seen_by live v z g w s.value h.0)
      (λ x y t. bind_refines _ _ _ _ Equal Patches (place_of w s.width s.place v) (place_of w s.width s.place z) _ _ (place_by w s.width s.place h.1)
      (λ a b e. subst (λ k. Refines (Option Patch) (Option Patch) Patches (Ok (Some (record { at = a; count = width_of w s.width; value = x }))) (Ok (Some (record { at = k; count = width_of w s.width; value = y })))) e (gives _ _ (either a (width_of w s.width) x y t))))

  pub cell_tells : (w : ℕ) (o : Option Tree) (x y : Option ℕ) → MaybeWithin live o → (o ≡ None → Tells x y) → Tells (cell_after w o v x) (cell_after w o z y)
  cell_tells w None x y h k = k refl
  cell_tells w (Some t) x y h k = plain_tells _ _ (seen_by live v z g w t h)

  pub mark_tells : (w : ℕ) (o : Option Tree) (x y : Mark) → MaybeWithin live o → (o ≡ None → Marks x y) → Marks (mark_after w o v x) (mark_after w o z y)
  mark_tells w None x y h k = k refl
  mark_tells w (Some t) x y h k = plain_marks _ _ (marked_by w t h)

-- what was done on both sides
pub data Made (P : Option ℕ → Option ℕ → Type 0) (w : ℕ) (ms : List Move) (v z : View) : Done → Done → Type 0 where
  both_made : (o h q q' : Option ℕ) (p p' : Option Patch) → Patches p p' → P q q' → patch_of w (storing ms) v ≡ Ok p → went w (assigned ms Pc) v ≡ Ok q
      → Made P w ms v z (record { view = view_after w ms p v; place = q; output = o; halt = h }) (record { view = view_after w ms p' z; place = q'; output = o; halt = h })

module _ (P : Option ℕ → Option ℕ → Type 0) (live : Cell → Bool) (v z : View) (g : AgreeBy P live v z) (w : ℕ) (ms : List Move) (inside : AllWithin live ms) (aims : AllAim P v z ms) where
  abbrev pub IsMade : Result Done Stop → Result Done Stop → Type 0
  IsMade = Refines Done Done (Made P w ms v z)

  pub effect_made : IsMade (effect w ms v) (effect w ms z)
  effect_made =
      bind_refines _ _ _ _ Any (Made P w ms v z) (tested w ms v) (tested w ms z) _ _ (all_tested P live v z g.sight g.on w ms inside aims) (λ a b t.
      bind_refines _ _ _ _ Alike (Made P w ms v z) (event w (assigned ms Output) v) (event w (assigned ms Output) z) _ _ (event_by P live v z g.sight g.on w (assigned ms Output) (assigned_within live ms Output inside)) (λ o o' eo.
      bind_refines _ _ _ _ Alike (Made P w ms v z) (event w (assigned ms Halt) v) (event w (assigned ms Halt) z) _ _ (event_by P live v z g.sight g.on w (assigned ms Halt) (assigned_within live ms Halt inside)) (λ h h' eh.
      bind_given _ _ _ _ P (Made P w ms v z) (went w (assigned ms Pc) v) (went w (assigned ms Pc) z) _ _ (went_by P live v z g.sight g.on w (assigned ms Pc) (assigned_within live ms Pc inside) (assigned_aims P v z ms aims)) (λ q q' fq eq.
      bind_given _ _ _ _ Patches (Made P w ms v z) (patch_of w (storing ms) v) (patch_of w (storing ms) z) _ _ (patch_by P live v z g.sight g.on w (storing ms) (storing_within live ms inside)) (λ p p' fp ep.
      finish o o' h h' q q' p p' eo eh eq ep fp fq)))))
    where
      finish : (o o' h h' q q' : Option ℕ) (p p' : Option Patch) → o ≡ o' → h ≡ h' → P q q' → Patches p p' → patch_of w (storing ms) v ≡ Ok p → went w (assigned ms Pc) v ≡ Ok q
          → IsMade (Ok (record { view = view_after w ms p v; place = q; output = o; halt = h })) (Ok (record { view = view_after w ms p' z; place = q'; output = o'; halt = h' }))
      finish o o' h h' q q' p p' eo eh eq ep e f =
          subst (λ x. IsMade (Ok (record { view = view_after w ms p v; place = q; output = o; halt = h })) (Ok (record { view = view_after w ms p' z; place = q'; output = x; halt = h' }))) eo
          (subst (λ x. IsMade (Ok (record { view = view_after w ms p v; place = q; output = o; halt = h })) (Ok (record { view = view_after w ms p' z; place = q'; output = o; halt = x }))) eh
          (gives _ _ (both_made o h q q' p p' ep eq e f)))

  module _ (later : Cell → Bool) (kept : (c : Cell) → later c ≡ true → assigned ms c ≡ None → live c ≡ true) (counted : later Pc ≡ true → Tells (v.cells Pc) (z.cells Pc)) where
    cells_tell : (c : Cell) → later c ≡ true → Tells (cells_after w ms v c) (cells_after w ms z c)
    cells_tell (Hard n) on = cell_tells P live v z g.sight g.on w _ _ _ (assigned_within live ms (Hard n) inside) (λ e. g.sight.cells (Hard n) (kept (Hard n) on e))
    cells_tell (Temp n) on = cell_tells P live v z g.sight g.on w _ _ _ (assigned_within live ms (Temp n) inside) (λ e. g.sight.cells (Temp n) (kept (Temp n) on e))
    cells_tell Input on = subst (λ i. Tells (cells_after w ms v Input) (Some (next_in w (input_after (takes ms) i)))) g.input (word _)
    cells_tell Pc on = counted on
    cells_tell c on = word 0

    pub sight_after : (p q : Option Patch) → Patches p q → Sight later (view_after w ms p v) (view_after w ms q z)
    sight_after p q h = record {
      cells = cells_tell;
      flags = λ n on. mark_tells P live v z g.sight g.on w _ _ _ (assigned_within live ms (Flag n) inside) (λ e. g.sight.flags n (kept (Flag n) on e));
      land = record {
        bytes = patched_tells p q v.bytes z.bytes h g.sight.land.bytes;
        size = g.sight.land.size;
        reach = g.sight.land.reach;
        symbols = g.sight.land.symbols;
        labels = g.sight.land.labels;
      };
    }

    pub made_agree : (x y : Done) → Made P w ms v z x y → DoneAgreeBy P later x y
    made_agree x y (both_made o h q q' p p' ep eq e f) = record {
      view = record { sight = sight_after p p' ep; input = ap (input_after (takes ms)) g.input; on = g.on };
      place = eq;
      output = refl;
      halt = refl;
    }

    pub effect_by : Refines Done Done (DoneAgreeBy P later) (effect w ms v) (effect w ms z)
    effect_by = weaker_refines _ _ (Made P w ms v z) (DoneAgreeBy P later) (effect w ms v) (effect w ms z) made_agree effect_made

-- the same where places are numbered alike
module _ (live : Cell → Bool) (v z : View) (g : Shows live v z) where
  pub marked_grows : (w : ℕ) (t : Tree) → Within live t → Refines Mark Mark Marks (marked w t v) (marked w t z)
  marked_grows = marked_by Alike live v z (sight_of live v z g) g.ground.place

  pub tested_grows : (w : ℕ) (ms : List Move) → AllWithin live ms → IsFine (tested w ms v) (tested w ms z)
  tested_grows w ms h = all_tested Alike live v z (sight_of live v z g) g.ground.place w ms h (same_all v z g.ground ms)

  pub event_grows : (w : ℕ) (o : Option Tree) → MaybeWithin live o → Refines (Option ℕ) (Option ℕ) Alike (event w o v) (event w o z)
  event_grows = event_by Alike live v z (sight_of live v z g) g.ground.place

  pub went_grows : (w : ℕ) (o : Option Tree) → MaybeWithin live o → Refines (Option ℕ) (Option ℕ) Alike (went w o v) (went w o z)
  went_grows w o h = went_by Alike live v z (sight_of live v z g) g.ground.place w o h (aims o)
    where
      aims : (o : Option Tree) → MaybeAims Alike v z o
      aims None = tt
      aims (Some t) = same_jump v z g.ground t

  pub patch_grows : (w : ℕ) (o : Option Storing) → StoringWithin live o → Refines (Option Patch) (Option Patch) Patches (patch_of w o v) (patch_of w o z)
  patch_grows = patch_by Alike live v z (sight_of live v z g) g.ground.place

  pub after_tells : (w : ℕ) (o : Option Tree) (x y : Option ℕ) → MaybeWithin live o → (o ≡ None → Tells x y) → Tells (cell_after w o v x) (cell_after w o z y)
  after_tells = cell_tells Alike live v z (sight_of live v z g) g.ground.place

  pub after_marks : (w : ℕ) (o : Option Tree) (x y : Mark) → MaybeWithin live o → (o ≡ None → Marks x y) → Marks (mark_after w o v x) (mark_after w o z y)
  after_marks = mark_tells Alike live v z (sight_of live v z g) g.ground.place

module _ (live : Cell → Bool) (v z : View) (g : Agree live v z) (w : ℕ) (ms : List Move) (inside : AllWithin live ms) (later : Cell → Bool) (kept : (c : Cell) → later c ≡ true → assigned ms c ≡ None → live c ≡ true) where
  agree_of : AgreeBy Alike live v z
  agree_of = record { sight = sight_of live v z g.shows; input = g.input; on = g.shows.ground.place }

  done_of : (x y : Done) → Made Alike w ms v z x y → DoneAgree later x y
  done_of x y (both_made o h q q' p p' ep eq e f) =
      let s = sight_after Alike live v z agree_of w ms inside (same_all v z g.shows.ground ms) later kept (λ on. subst (Tells (v.cells Pc)) g.shows.ground.place (tells_self _)) p p' ep in
      record {
        view = record {
          shows = record {
            cells = s.cells;
            flags = s.flags;
            ground = record { bytes = s.land.bytes; size = s.land.size; reach = s.land.reach; symbols = s.land.symbols; labels = s.land.labels; targets = g.shows.ground.targets; places = g.shows.ground.places; place = g.shows.ground.place };
          };
          input = ap (input_after (takes ms)) g.input;
        };
        place = eq;
        output = refl;
        halt = refl;
      }

  pub effect_grows : Refines Done Done (DoneAgree later) (effect w ms v) (effect w ms z)
  effect_grows = weaker_refines _ _ (Made Alike w ms v z) (DoneAgree later) (effect w ms v) (effect w ms z) done_of (effect_made Alike live v z agree_of w ms inside (same_all v z g.shows.ground ms))
