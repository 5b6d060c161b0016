-- What is alike stays alike where leaves are changed, and what a row does it does after a change.
use Rattle.std.proofs.Common.{◌≡◌, ◌⊎◌, ℕ, zero, suc, Bool, true, false, ◌||◌, List, [], ◌∷◌, map, length, set, slice_get, Some, None, inl, inr, refl, sym, subst, ap, arith, ◌∙◌}
use Rattle.std.specs.Prelude.{◌≢◌, AllPairs, filter_map}
use Rattle.rtl_tree.specs.Trees.{Tree, Number, Symbol, CodeLabel, Read, Load, Unary, Binary, NoPair, AnyNumber, AnyName}
use Rattle.rtl_tree.specs.Moves.{Goal, ToCell, ToMemory, Move}
use Rattle.rtl_tree.specs.Likeness.{IsAlike, equal, loads, unaries, straight, crossed}
use Rattle.rtl_tree.specs.Same.{same_tree}
use Rattle.rtl_tree.proofs.Equality.{same_tree-is, same_tree-own}
use Rattle.rtl_tree.specs.declared.cells.Cell.{Cell}
use Rattle.rtl_tree.specs.declared.cells.Cell.TheVariants.{Hard, Temp, Flag, Pc, Input, Output, Halt, Hole as RegisterHole}
use Rattle.rtl_tree.specs.declared.cells.Lab.{Lab}
use Rattle.md_rows.specs.declared.row.Hole.{Hole}
use Rattle.md_rows.specs.declared.instance.Bound.{Bound}
use Rattle.md_rows.specs.declared.instance.Bound.TheVariants.{Reg, Num, Sym, Label}
use Rattle.md_rows.specs.Instances.{leaf_of, held_by, filled}
use Rattle.md_match.specs.Slots.{fit_of}
use Rattle.md_match.specs.Searches.{Marks, no_marks, is_marked, goal_tree, occurs_by}
use Rattle.md_match.specs.Does.{IsAlikeMove, Takes, all_taken, taken, IsMarked, IsPartOfMarked, AllTraps, assigned, Does}
use Rattle.md_match.proofs.Binding.{or_true, fit_each, fit_length, fit_all}

-- what is put for leaves
pub record Change : Type 0 where
  pub cell : Cell → Cell
  pub number : ℕ → ℕ
  pub symbol : ℕ → ℕ
  pub label : Lab → Lab

abbrev pub changed : Change → Tree → Tree
changed d (Number n) = Number (d.number n)
changed d (Symbol n) = Symbol (d.symbol n)
changed d (CodeLabel l) = CodeLabel (d.label l)
changed d (Read c) = Read (d.cell c)
changed d (Load w a) = Load w (changed d a)
changed d (Unary o a) = Unary o (changed d a)
changed d (Binary o a b) = Binary o (changed d a) (changed d b)
changed d t = t

abbrev pub changed_goal : Change → Goal → Goal
changed_goal d (ToCell c) = ToCell (d.cell c)
changed_goal d (ToMemory w a) = ToMemory w (changed d a)

abbrev pub changed_move : Change → Move → Move
changed_move d m = record { to = changed_goal d m.to; value = changed d m.value }

abbrev pub changed_bound : Change → Bound → Bound
changed_bound d (Reg c) = Reg (d.cell c)
changed_bound d (Num n) = Num (d.number n)
changed_bound d (Sym n) = Sym (d.symbol n)
changed_bound d (Label l) = Label (d.label l)

-- a tree that the change leaves alone
abbrev pub IsFixed : Change → Tree → Type 0
IsFixed d (Number n) = d.number n ≡ n
IsFixed d (Symbol n) = d.symbol n ≡ n
IsFixed d (CodeLabel l) = d.label l ≡ l
IsFixed d (Read c) = d.cell c ≡ c
IsFixed d (Load w a) = IsFixed d a
IsFixed d (Unary o a) = IsFixed d a
IsFixed d (Binary o a b) = IsFixed d a × IsFixed d b
IsFixed d _ = Unit {0}

pub alike_changed : (d : Change) (x y : Tree) → IsAlike x y → IsAlike (changed d x) (changed d y)
alike_changed d x _ (equal _) = equal (changed d x)
alike_changed d _ _ (loads w a b h) = loads w (changed d a) (changed d b) (alike_changed d a b h)
alike_changed d _ _ (unaries o a b h) = unaries o (changed d a) (changed d b) (alike_changed d a b h)
alike_changed d _ _ (straight o a b c e h k) =
    straight o (changed d a) (changed d b) (changed d c) (changed d e) (alike_changed d a c h) (alike_changed d b e k)
alike_changed d _ _ (crossed o a b c e q h k) =
    crossed o (changed d a) (changed d b) (changed d c) (changed d e) q (alike_changed d a e h) (alike_changed d b c k)

leaf_changed : (d : Change) (v : Bound) → leaf_of (changed_bound d v) ≡ changed d (leaf_of v)
leaf_changed d (Reg c) = refl
leaf_changed d (Num n) = refl
leaf_changed d (Sym n) = refl
leaf_changed d (Label l) = refl

get_changed : (d : Change) (b : List Bound) (h : ℕ) (hole : Tree) → changed d hole ≡ hole
    → held_by hole (slice_get (map (changed_bound d) b) h) ≡ changed d (held_by hole (slice_get b h))
get_changed d [] h hole e = sym e
get_changed d (v ∷ vs) zero hole e = leaf_changed d v
get_changed d (v ∷ vs) (suc h) hole e = get_changed d vs h hole e

pub filled_changed : (d : Change) (b : List Bound) (r : Tree) → IsFixed d r → filled (map (changed_bound d) b) r ≡ changed d (filled b r)
filled_changed d b (Read (RegisterHole h)) x = get_changed d b h (Read (RegisterHole h)) (ap Read x)
filled_changed d b (AnyNumber h) x = get_changed d b h (AnyNumber h) refl
filled_changed d b (AnyName h) x = get_changed d b h (AnyName h) refl
filled_changed d b (Load w a) x = ap (Load w) (filled_changed d b a x)
filled_changed d b (Unary o a) x = ap (Unary o) (filled_changed d b a x)
filled_changed d b (Binary o a c) x = let p = filled_changed d b a x.0 in let q = filled_changed d b c x.1 in cc
filled_changed d b (Number n) x = ap Number (sym x)
filled_changed d b (Symbol n) x = ap Symbol (sym x)
filled_changed d b (CodeLabel n) x = ap CodeLabel (sym x)
filled_changed d b NoPair x = refl
filled_changed d b (Read (Hard n)) x = ap Read (sym x)
filled_changed d b (Read (Temp n)) x = ap Read (sym x)
filled_changed d b (Read (Flag n)) x = ap Read (sym x)
filled_changed d b (Read Pc) x = ap Read (sym x)
filled_changed d b (Read Input) x = ap Read (sym x)
filled_changed d b (Read Output) x = ap Read (sym x)
filled_changed d b (Read Halt) x = ap Read (sym x)

same_changed : (d : Change) (b : List Bound) (x t : Tree) → IsFixed d x → IsFixed d t → same_tree (filled b x) (filled b t) ≡ true
    → same_tree (filled (map (changed_bound d) b) x) (filled (map (changed_bound d) b) t) ≡ true
same_changed d b x t f g e =
    let i : filled b x ≡ filled b t = same_tree-is (filled b x) (filled b t) e in
    let p = filled_changed d b x f in
    let q = filled_changed d b t g in
    let s : filled (map (changed_bound d) b) x ≡ filled (map (changed_bound d) b) t = p ∙ (ap (changed d) i ∙ sym q) in
    subst (λ z. same_tree (filled (map (changed_bound d) b) x) z ≡ true) s (same_tree-own (filled (map (changed_bound d) b) x))

or_left : (a b : Bool) → a ≡ true → (a || b) ≡ true
or_left true b e = refl
or_left false b e = let k : false ≡ true = e in cc

or_right : (a b : Bool) → b ≡ true → (a || b) ≡ true
or_right true b e = refl
or_right false b e = e

pub occurs_changed : (d : Change) (b : List Bound) (x : Tree) → IsFixed d x → (t : Tree) → IsFixed d t
    → occurs_by (filled b) x t ≡ true → occurs_by (filled (map (changed_bound d) b)) x t ≡ true
occurs_changed d b x f (Load w a) g e =
    let c = map (changed_bound d) b in
    elim (or_true (same_tree (filled b x) (filled b (Load w a))) (occurs_by (filled b) x a) e) [
      | inl p ↦ or_left (same_tree (filled c x) (filled c (Load w a))) (occurs_by (filled c) x a) (same_changed d b x (Load w a) f g p)
      | inr p ↦ or_right (same_tree (filled c x) (filled c (Load w a))) (occurs_by (filled c) x a) (occurs_changed d b x f a g p)
    ]
occurs_changed d b x f (Unary o a) g e =
    let c = map (changed_bound d) b in
    elim (or_true (same_tree (filled b x) (filled b (Unary o a))) (occurs_by (filled b) x a) e) [
      | inl p ↦ or_left (same_tree (filled c x) (filled c (Unary o a))) (occurs_by (filled c) x a) (same_changed d b x (Unary o a) f g p)
      | inr p ↦ or_right (same_tree (filled c x) (filled c (Unary o a))) (occurs_by (filled c) x a) (occurs_changed d b x f a g p)
    ]
occurs_changed d b x f (Binary o a k) g e =
    let c = map (changed_bound d) b in
    elim (or_true (same_tree (filled b x) (filled b (Binary o a k))) (occurs_by (filled b) x a || occurs_by (filled b) x k) e) [
      | inl p ↦ or_left (same_tree (filled c x) (filled c (Binary o a k))) (occurs_by (filled c) x a || occurs_by (filled c) x k)
          (same_changed d b x (Binary o a k) f g p)
      | inr p ↦ or_right (same_tree (filled c x) (filled c (Binary o a k))) (occurs_by (filled c) x a || occurs_by (filled c) x k)
          (elim (or_true (occurs_by (filled b) x a) (occurs_by (filled b) x k) p) [
            | inl q ↦ or_left (occurs_by (filled c) x a) (occurs_by (filled c) x k) (occurs_changed d b x f a g.0 q)
            | inr q ↦ or_right (occurs_by (filled c) x a) (occurs_by (filled c) x k) (occurs_changed d b x f k g.1 q)
          ])
    ]
occurs_changed d b x f (Number n) g e = same_changed d b x (Number n) f g e
occurs_changed d b x f (Symbol n) g e = same_changed d b x (Symbol n) f g e
occurs_changed d b x f (CodeLabel n) g e = same_changed d b x (CodeLabel n) f g e
occurs_changed d b x f (Read n) g e = same_changed d b x (Read n) f g e
occurs_changed d b x f NoPair g e = same_changed d b x NoPair f g e
occurs_changed d b x f (AnyNumber n) g e = same_changed d b x (AnyNumber n) f g e
occurs_changed d b x f (AnyName n) g e = same_changed d b x (AnyName n) f g e

-- an assignment that the change leaves alone
pub record IsFixedMove (d : Change) (r : Move) : Type 0 where
  pub place : IsFixed d (goal_tree r.to)
  pub value : IsFixed d r.value

-- a property of each assignment of a transfer
abbrev pub Each : (Move → Type 0) → List Move → Type 0
Each Q [] = Unit {0}
Each Q (e ∷ es) = Q e × Each Q es

goal_changed : (d : Change) (g : Goal) → goal_tree (changed_goal d g) ≡ changed d (goal_tree g)
goal_changed d (ToCell c) = refl
goal_changed d (ToMemory w a) = refl

alike_move_changed : (d : Change) (b : List Bound) (r e : Move) → IsFixedMove d r → IsAlikeMove b r e
    → IsAlikeMove (map (changed_bound d) b) r (changed_move d e)
alike_move_changed d b r e f a = record {
  place = (let p = filled_changed d b (goal_tree r.to) f.place in
      let q = alike_changed d (filled b (goal_tree r.to)) (goal_tree e.to) a.place in
      let s = subst (λ x. IsAlike x (changed d (goal_tree e.to))) (sym p) q in
      subst (λ x. IsAlike (filled (map (changed_bound d) b) (goal_tree r.to)) x) (sym (goal_changed d e.to)) s);
  value = subst (λ x. IsAlike x (changed d e.value)) (sym (filled_changed d b r.value f.value)) (alike_changed d (filled b r.value) e.value a.value);
}

-- an assignment that is taken by one of a kind is left alone
pub record FixesTaken (d : Change) (row : List Move) (b : List Bound) (Q : Move → Type 0) : Type 0 where
  pub each : (j : ℕ) (r e : Move) → slice_get row j ≡ Some r → Q e → IsAlikeMove b r e → IsFixedMove d r

pub takes_changed : (d : Change) (row : List Move) (b : List Bound) (Q : Move → Type 0) → FixesTaken d row b Q → (used left : Marks) (es : List Move)
    → Each Q es → Takes row b used es left → Takes row (map (changed_bound d) b) used (map (changed_move d) es) left
takes_changed d row b Q f _ _ _ q (all_taken used) = all_taken used
takes_changed d row b Q f _ _ _ q (taken e es j r used left is free a rest) =
    taken (changed_move d e) (map (changed_move d) es) j r used left is free (alike_move_changed d b r e (f.each j r e is q.0 a) a)
    (takes_changed d row b Q f (set used j true) left es q.1 rest)

pub other_mark : (used : Marks) (j k : ℕ) → (k ≡ j → ⊥) → is_marked used k ≡ false → is_marked (set used j true) k ≡ false
other_mark [] j k n e = e
other_mark (u ∷ us) zero zero n e = absurd (n refl)
other_mark (u ∷ us) zero (suc k) n e = e
other_mark (u ∷ us) (suc j) zero n e = e
other_mark (u ∷ us) (suc j) (suc k) n e = other_mark us j k (λ q. n (ap suc q)) e

pub same_or_not : (j h : ℕ) → (j ≡ h) ⊎ (j ≡ h → ⊥)
same_or_not zero zero = inl refl
same_or_not zero (suc h) = inr (λ e. omega arith)
same_or_not (suc j) zero = inr (λ e. omega arith)
same_or_not (suc j) (suc h) = elim (same_or_not j h) [ inl e ↦ inl (ap suc e) | inr n ↦ inr (λ e. n (omega arith)) ]

-- what takes an assignment that got a mark
pub record TakenBy (b : List Bound) (Q : Move → Type 0) (r : Move) : Type 0 where
  pub by : Move
  pub kind : Q by
  pub alike : IsAlikeMove b r by

pub taken_by : (row : List Move) (b : List Bound) (Q : Move → Type 0) (used left : Marks) (es : List Move) → Each Q es → Takes row b used es left
    → (k : ℕ) (m : Move) → slice_get row k ≡ Some m → is_marked used k ≡ false → is_marked left k ≡ true → TakenBy b Q m
taken_by row b Q _ _ _ q (all_taken used) k m is n y = let x : true ≡ false = sym y ∙ n in cc
taken_by row b Q _ _ _ q (taken e es j r used left at free a rest) k m is n y = elim (same_or_not k j) [
  | inl i ↦
      (let same : r ≡ m = (let c : slice_get row j ≡ Some m = subst (λ o. slice_get row o ≡ Some m) i is in cc) in
      subst (TakenBy b Q) same (record { by = e; kind = q.0; alike = a }))
  | inr d ↦ taken_by row b Q (set used j true) left es q.1 rest k m is (other_mark used j k d n) y
]

pub no_mark : (j : ℕ) → is_marked no_marks j ≡ false
no_mark j = unmarked 6 j
  where
    blank : ℕ → Marks
    blank zero = []
    blank (suc n) = false ∷ blank n

    unmarked : (n j : ℕ) → is_marked (blank n) j ≡ false
    unmarked zero j = refl
    unmarked (suc n) zero = refl
    unmarked (suc n) (suc j) = unmarked n j

-- nodes that can trap
pub traps_two : (P Q R : Tree → Type 0) → ((x : Tree) → P x → Q x → R x) → (t : Tree) → AllTraps P t → AllTraps Q t → AllTraps R t
traps_two P Q R f (Load w a) p q = (f (Load w a) p.0 q.0, traps_two P Q R f a p.1 q.1)
traps_two P Q R f (Unary o a) p q = ((λ e. f (Unary o a) (p.0 e) (q.0 e)), traps_two P Q R f a p.1 q.1)
traps_two P Q R f (Binary o a b) p q =
    ((λ e. f (Binary o a b) (p.0 e) (q.0 e)), traps_two P Q R f a p.1 q.1, traps_two P Q R f b p.2 q.2)
traps_two P Q R f _ p q = tt

part_changed : (d : Change) (row : List Move) (marks : Marks) (b : List Bound)
    → ((j : ℕ) (r : Move) → slice_get row j ≡ Some r → is_marked marks j ≡ true → IsFixedMove d r)
    → (x : Tree) → IsPartOfMarked row marks b x → IsFixed d x → IsPartOfMarked row marks (map (changed_bound d) b) x
part_changed d row marks b f x p g =
    let c = map (changed_bound d) b in
    let m = p.move in
    let fixed = f p.marked.place m p.marked.is p.marked.marked in
    record {
      move = m;
      marked = p.marked;
      part = elim (or_true (occurs_by (filled b) x (goal_tree m.to)) (occurs_by (filled b) x m.value) p.part) [
        | inl q ↦ or_left (occurs_by (filled c) x (goal_tree m.to)) (occurs_by (filled c) x m.value)
            (occurs_changed d b x g (goal_tree m.to) fixed.place q)
        | inr q ↦ or_right (occurs_by (filled c) x (goal_tree m.to)) (occurs_by (filled c) x m.value)
            (occurs_changed d b x g m.value fixed.value q)
      ];
    }

get_bound : (d : Change) (b : List Bound) (h : ℕ) (v : Bound) → slice_get (map (changed_bound d) b) h ≡ Some v
    → (u : Bound) × (slice_get b h ≡ Some u) × (changed_bound d u ≡ v)
get_bound d [] h v e = let k : None ≡ Some v = e in cc
get_bound d (u ∷ us) zero v e = (u, refl, cc)
get_bound d (u ∷ us) (suc h) v e = get_bound d us h v e

map_length : (d : Change) (b : List Bound) → length (map (changed_bound d) b) ≡ length b
map_length d [] = refl
map_length d (v ∷ vs) = ap suc (map_length d vs)

-- what is asked of a change
pub record Carries (w g : ℕ) (holes : List Hole) (d : Change) (row es : List Move) (b : List Bound) (marks : Marks) (Q : Move → Type 0) : Type 0 where
  pub fits : (h : ℕ) (v : Bound) → fit_of w g holes h v ≡ true → fit_of w g holes h (changed_bound d v) ≡ true
  pub kinds : Each Q es
  pub takes : FixesTaken d row b Q
  pub traps : (r : Move) → IsMarked row marks false r → AllTraps (IsFixed d) r.value
  pub different : AllPairs (λ x y. x ≢ y) (filter_map (assigned (map (changed_bound d) b)) row)

-- what a row does it does after a change
pub does_changed : (w g : ℕ) (holes : List Hole) (idle : Move → Bool) (d : Change) (row es : List Move) (b : List Bound) (marks : Marks) (Q : Move → Type 0)
    → Carries w g holes d row es b marks Q → Does w g holes idle row es b marks
    → Does w g holes idle row (map (changed_move d) es) (map (changed_bound d) b) marks
does_changed w g holes idle d row es b marks Q c h = record {
  fit = fit_all w g holes (map (changed_bound d) b) (map_length d b ∙ fit_length w g holes b h.fit) (λ k v e.
      (let x = get_bound d b k v e in
      subst (λ z. fit_of w g holes k z ≡ true) x.2 (c.fits k x.0 (fit_each w g holes b h.fit k x.0 x.1))));
  takes = takes_changed d row b Q c.takes no_marks marks es c.kinds h.takes;
  others = h.others;
  traps = λ r m. traps_two (IsPartOfMarked row marks b) (IsFixed d) (IsPartOfMarked row marks (map (changed_bound d) b))
      (λ x p f. part_changed d row marks b
      (λ j n is y. (let t = taken_by row b Q no_marks marks es c.kinds h.takes j n is (no_mark j) y in c.takes.each j n t.by is t.kind t.alike))
      x p f)
      r.value (h.traps r m) (c.traps r m);
  bound = h.bound;
  different = c.different;
}
