-- At most one instance is the first that does a transfer.
use Rattle.std.proofs.Common.{◌≡◌, ℕ, zero, suc, ◌<◌, Bool, true, false, nat_lt, ◌||◌, List, [], ◌∷◌, ◌++◌, length, set, slice_get, Some, inl, inr, refl, sym, subst, ap, arith, ◌∙◌}
use Rattle.std.proofs.lemmas.Bool.Decides.{nat_tests}
use Rattle.std.proofs.lemmas.Bool.{eqb-true}
use Rattle.std.proofs.lemmas.Option.{slice_get_within}
use Rattle.rtl_tree.specs.Trees.{Tree, Read, Load, Unary, Binary, AnyNumber, AnyName}
use Rattle.rtl_tree.specs.Moves.{Move}
use Rattle.rtl_tree.specs.Sets.{CellBits}
use Rattle.rtl_tree.specs.declared.cells.Cell.TheVariants.{Hole as RegisterHole}
use Rattle.md_rows.specs.declared.description.RawDescription.{RawDescription}
use Rattle.md_rows.specs.declared.row.Row.{Row}
use Rattle.md_rows.specs.declared.row.Hole.{Hole}
use Rattle.md_rows.specs.declared.instance.Bound.{Bound}
use Rattle.md_rows.specs.declared.instance.Bound.TheVariants.{Reg, Num, Sym, Label}
use Rattle.md_rows.specs.declared.instance.Instance.{Instance}
use Rattle.md_rows.specs.Instances.{leaf_of, held_by, filled, general_set}
use Rattle.md_match.specs.Searches.{Marks, no_marks, is_marked, goal_tree}
use Rattle.md_match.specs.Does.{has_hole, Does}
use Rattle.md_match.proofs.Sound.{same_or_not}
use Rattle.md_match.proofs.Binding.{or_true, fit_length}
use Rattle.md_match.proofs.Done.{no_mark}
use Rattle.recogniser.specs.Choices.{Choice, Place, IsAlikeBy, TakesBy, all_taken, taken}
use Rattle.recogniser.specs.Recognising.{is_dead_flag, DoesTransfer, DoesBy, IsFirst}
use Rattle.recogniser.proofs.Determined.{determines}
use Rattle.recogniser.proofs.Compared.{AreCompared, after_one, compares}

-- what takes the first assignment, and then the others
record Taking (row : List Move) (b : List Bound) (used : Marks) (e : Move) (es : List Move) (cs : List Choice) (left : Marks) : Type 0 where
  place : ℕ
  move : Move
  ps : List Choice
  vs : List Choice
  rest : List Choice
  is : cs ≡ Place place ∷ ps ++ (vs ++ rest)
  has : slice_get row place ≡ Some move
  free : is_marked used place ≡ false
  goal : IsAlikeBy (filled b (goal_tree move.to)) (goal_tree e.to) ps
  value : IsAlikeBy (filled b move.value) e.value vs
  others : TakesBy row b (set used place true) es rest left

first_taking : (row : List Move) (b : List Bound) (used : Marks) (fs : List Move) (cs : List Choice) (left : Marks) (e : Move) (es : List Move)
    → TakesBy row b used fs cs left → fs ≡ e ∷ es → Taking row b used e es cs left
first_taking row b _ _ _ _ e es (all_taken used) p = absurd cc
first_taking row b _ _ _ _ e es (taken f fs j r used left ps vs cs q free g v rest) p =
    let h : f ≡ e = cc in
    let t : fs ≡ es = cc in
    record {
      place = j;
      move = r;
      ps = ps;
      vs = vs;
      rest = cs;
      is = refl;
      has = q;
      free = free;
      goal = subst (λ (m : Move). IsAlikeBy (filled b (goal_tree r.to)) (goal_tree m.to) ps) h g;
      value = subst (λ (m : Move). IsAlikeBy (filled b r.value) m.value vs) h v;
      others = subst (λ (ms : List Move). TakesBy row b (set used j true) ms cs left) t rest;
    }

last_taking : (row : List Move) (b : List Bound) (used : Marks) (fs : List Move) (cs : List Choice) (left : Marks) → TakesBy row b used fs cs left → fs ≡ []
    → (cs ≡ []) × (left ≡ used)
last_taking row b _ _ _ _ (all_taken used) p = (refl, refl)
last_taking row b _ _ _ _ (taken f fs j r used left ps vs cs q free g v rest) p = absurd cc

-- lists for one transfer are compared

places : (i j : ℕ) (cs ds : List Choice) (a b : Bool) → nat_lt i j ≡ a → nat_lt j i ≡ b → (i ≡ j → AreCompared cs ds)
    → AreCompared (Place i ∷ cs) (Place j ∷ ds)
places i j cs ds true b p q f = inl (inl (grind (arith, nat_tests)))
places i j cs ds false true p q f = inr (inr (inl (grind (arith, nat_tests))))
places i j cs ds false false p q f =
    let e : i ≡ j = grind (arith, nat_tests) in
    subst (λ (k : ℕ). AreCompared (Place i ∷ cs) (Place k ∷ ds)) e (after_one (Place i) cs ds (f e))

compared_by : (ks ls ms ns : List Choice) → ks ≡ ms → ls ≡ ns → AreCompared ms ns → AreCompared ks ls
compared_by ks ls ms ns p q h = subst (λ (l : List Choice). AreCompared l ls) (sym p) (subst (λ (l : List Choice). AreCompared ms l) (sym q) h)

pub takings_compared : (row other : List Move) (b c : List Bound) (es : List Move) (used : Marks) (cs ds : List Choice) (left more : Marks)
    → TakesBy row b used es cs left → TakesBy other c used es ds more → AreCompared cs ds
takings_compared row other b c [] used cs ds left more h k =
    let x = last_taking row b used [] cs left h refl in
    let y = last_taking other c used [] ds more k refl in
    inr (inl (x.0 ∙ sym y.0))
takings_compared row other b c (e ∷ es) used cs ds left more h k =
    let x = first_taking row b used (e ∷ es) cs left e es h refl in
    let y = first_taking other c used (e ∷ es) ds more e es k refl in
    compared_by cs ds (Place x.place ∷ x.ps ++ (x.vs ++ x.rest)) (Place y.place ∷ y.ps ++ (y.vs ++ y.rest)) x.is y.is
    (places x.place y.place (x.ps ++ (x.vs ++ x.rest)) (y.ps ++ (y.vs ++ y.rest)) (nat_lt x.place y.place) (nat_lt y.place x.place) refl refl
    (λ same. compares (goal_tree e.to) (filled b (goal_tree x.move.to)) (filled c (goal_tree y.move.to)) x.ps y.ps (x.vs ++ x.rest) (y.vs ++ y.rest) x.goal y.goal
    (compares e.value (filled b x.move.value) (filled c y.move.value) x.vs y.vs x.rest y.rest x.value y.value
    (takings_compared row other b c es (set used x.place true) x.rest y.rest left more x.others
    (subst (λ (n : ℕ). TakesBy other c (set used n true) es y.rest more) (sym same) y.others)))))

-- one list of choices fills what it takes in one way

record IsFilledAlike (b c : List Bound) (r : Move) : Type 0 where
  place : filled b (goal_tree r.to) ≡ filled c (goal_tree r.to)
  value : filled b r.value ≡ filled c r.value

abbrev AreFilledAlike : List Move → List Bound → List Bound → Marks → Marks → Type 0
AreFilledAlike row b c used left = (k : ℕ) (r : Move) → slice_get row k ≡ Some r → is_marked used k ≡ false → is_marked left k ≡ true → IsFilledAlike b c r

some_same : {A : Type 0} (x y : A) → Some x ≡ Some y → x ≡ y
some_same x y e = cc

place_same : (i j : ℕ) (cs ds : List Choice) → Place i ∷ cs ≡ Place j ∷ ds → (i ≡ j) × (cs ≡ ds)
place_same i j cs ds e = let p : Place i ≡ Place j = cc in (cc, cc)

other_mark : (used : Marks) (j k : ℕ) → (k ≡ j → ⊥) → is_marked used k ≡ false → is_marked (set used j true) k ≡ false
other_mark [] j k n e = e
other_mark (u ∷ us) zero zero n e = absurd (n refl)
other_mark (u ∷ us) zero (suc k) n e = e
other_mark (u ∷ us) (suc j) zero n e = e
other_mark (u ∷ us) (suc j) (suc k) n e = other_mark us j k (λ q. n (ap suc q)) e

takings_alike : (row : List Move) (b c : List Bound) (es : List Move) (used : Marks) (cs ds : List Choice) (left more : Marks)
    → TakesBy row b used es cs left → TakesBy row c used es ds more → cs ≡ ds → AreFilledAlike row b c used left
takings_alike row b c [] used cs ds left more h k p i r is free marked =
    let x = last_taking row b used [] cs left h refl in
    let q : true ≡ false = sym marked ∙ (ap (λ (m : Marks). is_marked m i) x.1 ∙ free) in
    absurd (let z : true ≡ false = q in cc)
takings_alike row b c (e ∷ es) used cs ds left more h k p i r is free marked =
    let x = first_taking row b used (e ∷ es) cs left e es h refl in
    let y = first_taking row c used (e ∷ es) ds more e es k refl in
    let heads = place_same x.place y.place (x.ps ++ (x.vs ++ x.rest)) (y.ps ++ (y.vs ++ y.rest)) (sym x.is ∙ (p ∙ y.is)) in
    let move : y.move ≡ x.move = some_same y.move x.move (sym y.has ∙ (ap (slice_get row) (sym heads.0) ∙ x.has)) in
    let goals = determines (goal_tree e.to) (filled b (goal_tree x.move.to)) (filled c (goal_tree y.move.to)) x.ps y.ps (x.vs ++ x.rest) (y.vs ++ y.rest) x.goal y.goal heads.1 in
    let values = determines e.value (filled b x.move.value) (filled c y.move.value) x.vs y.vs x.rest y.rest x.value y.value goals.1 in
    elim (same_or_not i x.place) [
      | inl at ↦
          (let same : x.move ≡ r = some_same x.move r (sym x.has ∙ (ap (slice_get row) (sym at) ∙ is)) in
          subst (IsFilledAlike b c) same (record {
            place = goals.0 ∙ ap (λ (m : Move). filled c (goal_tree m.to)) move;
            value = values.0 ∙ ap (λ (m : Move). filled c m.value) move;
          }))
      | inr apart ↦ takings_alike row b c es (set used x.place true) x.rest y.rest left more x.others
          (subst (λ (n : ℕ). TakesBy row c (set used n true) es y.rest more) (sym heads.0) y.others) values.1
          i r is (other_mark used x.place i apart free) marked
    ]

-- trees that are filled alike hold the same in their holes

same_leaf : (v w : Bound) → leaf_of v ≡ leaf_of w → v ≡ w
same_leaf (Reg c) (Reg d) e = let q : c ≡ d = cc in ap Reg q
same_leaf (Num c) (Num d) e = let q : c ≡ d = cc in ap Num q
same_leaf (Sym c) (Sym d) e = let q : c ≡ d = cc in ap Sym q
same_leaf (Label c) (Label d) e = let q : c ≡ d = cc in ap Label q
same_leaf (Reg c) (Num d) e = absurd cc
same_leaf (Reg c) (Sym d) e = absurd cc
same_leaf (Reg c) (Label d) e = absurd cc
same_leaf (Num c) (Reg d) e = absurd cc
same_leaf (Num c) (Sym d) e = absurd cc
same_leaf (Num c) (Label d) e = absurd cc
same_leaf (Sym c) (Reg d) e = absurd cc
same_leaf (Sym c) (Num d) e = absurd cc
same_leaf (Sym c) (Label d) e = absurd cc
same_leaf (Label c) (Reg d) e = absurd cc
same_leaf (Label c) (Num d) e = absurd cc
same_leaf (Label c) (Sym d) e = absurd cc

same_held : (hole : Tree) (b c : List Bound) (h : ℕ) (v w : Bound) → slice_get b h ≡ Some v → slice_get c h ≡ Some w
    → held_by hole (slice_get b h) ≡ held_by hole (slice_get c h) → v ≡ w
same_held hole b c h v w p q e = same_leaf v w (sym (ap (held_by hole) p) ∙ (e ∙ ap (held_by hole) q))

held_alike : (b c : List Bound) (h : ℕ) (v w : Bound) → slice_get b h ≡ Some v → slice_get c h ≡ Some w → (t : Tree) → has_hole h t ≡ true
    → filled b t ≡ filled c t → v ≡ w
held_alike b c h v w p q (Read (RegisterHole k)) i e =
    let at : h ≡ k = eqb-true h k i in
    same_held (Read (RegisterHole k)) b c k v w (ap (slice_get b) (sym at) ∙ p) (ap (slice_get c) (sym at) ∙ q) e
held_alike b c h v w p q (AnyNumber k) i e =
    let at : h ≡ k = eqb-true h k i in
    same_held (AnyNumber k) b c k v w (ap (slice_get b) (sym at) ∙ p) (ap (slice_get c) (sym at) ∙ q) e
held_alike b c h v w p q (AnyName k) i e =
    let at : h ≡ k = eqb-true h k i in
    same_held (AnyName k) b c k v w (ap (slice_get b) (sym at) ∙ p) (ap (slice_get c) (sym at) ∙ q) e
held_alike b c h v w p q (Load u a) i e = held_alike b c h v w p q a i cc
held_alike b c h v w p q (Unary o a) i e = held_alike b c h v w p q a i cc
held_alike b c h v w p q (Binary o a d) i e = elim (or_true (has_hole h a) (has_hole h d) i) [
  | inl x ↦ held_alike b c h v w p q a x cc
  | inr x ↦ held_alike b c h v w p q d x cc
]
held_alike b c h v w p q _ i e = absurd (let k : false ≡ true = i in cc)

move_alike : (b c : List Bound) (h : ℕ) (v w : Bound) (r : Move) → slice_get b h ≡ Some v → slice_get c h ≡ Some w
    → (has_hole h (goal_tree r.to) || has_hole h r.value) ≡ true → IsFilledAlike b c r → v ≡ w
move_alike b c h v w r p q i a = elim (or_true (has_hole h (goal_tree r.to)) (has_hole h r.value) i) [
  | inl x ↦ held_alike b c h v w p q (goal_tree r.to) x a.place
  | inr x ↦ held_alike b c h v w p q r.value x a.value
]

same_lists : (b c : List Bound) → length b ≡ length c → ((h : ℕ) (v w : Bound) → slice_get b h ≡ Some v → slice_get c h ≡ Some w → v ≡ w) → b ≡ c
same_lists [] [] e f = refl
same_lists [] (w ∷ ws) e f = absurd (omega (arith, e))
same_lists (v ∷ vs) [] e f = absurd (omega (arith, e))
same_lists (v ∷ vs) (w ∷ ws) e f =
    let p = f 0 v w refl refl in
    let q = same_lists vs ws (omega (arith, e)) (λ h x y i j. f (suc h) x y i j) in
    cc

same_binding : (w g : ℕ) (holes : List Hole) (idle : Move → Bool) (row es : List Move) (b c : List Bound) (cs : List Choice) (left more : Marks)
    → Does w g holes idle row es b left → Does w g holes idle row es c more → TakesBy row b no_marks es cs left → TakesBy row c no_marks es cs more → b ≡ c
same_binding w g holes idle row es b c cs left more d f h k =
    let alike = takings_alike row b c es no_marks cs cs left more h k refl in
    let long = fit_length w g holes b d.fit in
    same_lists b c (long ∙ sym (fit_length w g holes c f.fit)) (λ n x y p q.
    (let within = slice_get_within b n x p in
    let at = d.bound n (omega (arith, within, long)) in
    move_alike b c n x y at.move p q at.has
    (alike at.marked.place at.move at.marked.is (no_mark at.marked.place) at.marked.marked)))

-- instances

does_it : (d : RawDescription) (dead : CellBits) (es : List Move) (i : Instance) (cs : List Choice) → DoesBy d dead es i cs → DoesTransfer d dead es i
does_it d dead es i cs h = record { row = h.row; instance = h.instance; marks = h.marks; does = h.does }

same_place_by : (i j : ℕ) (a b : Bool) → nat_lt i j ≡ a → nat_lt j i ≡ b → (i < j → ⊥) → (j < i → ⊥) → i ≡ j
same_place_by i j true b p q f g = absurd (f (grind (arith, nat_tests)))
same_place_by i j false true p q f g = absurd (g (grind (arith, nat_tests)))
same_place_by i j false false p q f g = grind (arith, nat_tests)

same_instance : (i j : Instance) → i.row ≡ j.row → i.binding ≡ j.binding → i ≡ j
same_instance i j p q = λ t. record { row = p t; binding = q t }

pub one_first : (d : RawDescription) (dead : CellBits) (es : List Move) (i j : Instance) → IsFirst d dead es i → IsFirst d dead es j → i ≡ j
one_first d dead es i j f g =
    let place = same_place_by i.row j.row (nat_lt i.row j.row) (nat_lt j.row i.row) refl refl
    (λ l. g.first_row i l (does_it d dead es i f.choices f.does)) (λ l. f.first_row j l (does_it d dead es j g.choices g.does)) in
    let row : g.does.row ≡ f.does.row = some_same g.does.row f.does.row (sym g.does.instance.has_row ∙ (ap (slice_get d.rows) (sym place) ∙ f.does.instance.has_row)) in
    let takes : TakesBy f.does.row.normal j.binding no_marks es g.choices g.does.marks =
    subst (λ (r : Row). TakesBy r.normal j.binding no_marks es g.choices g.does.marks) row g.does.by in
    let does = subst (λ (r : Row). Does d.word (general_set d.registers) r.holes (λ m. is_dead_flag dead m.to) r.normal es j.binding g.does.marks) row g.does.does in
    elim (takings_compared f.does.row.normal f.does.row.normal i.binding j.binding es no_marks f.choices g.choices f.does.marks g.does.marks f.does.by takes) [
      | inl earlier ↦ absurd (g.first_choices i f.choices place f.does earlier)
      | inr other ↦ elim other [
        | inl same ↦ same_instance i j place
            (same_binding d.word (general_set d.registers) f.does.row.holes (λ m. is_dead_flag dead m.to) f.does.row.normal es i.binding j.binding f.choices f.does.marks g.does.marks
            f.does.does does f.does.by
            (subst (λ (cs : List Choice). TakesBy f.does.row.normal j.binding no_marks es cs g.does.marks) (sym same) takes))
        | inr later ↦ absurd (f.first_choices j g.choices (sym place) g.does later)
      ]
    ]
