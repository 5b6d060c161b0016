-- The search for a transfer gives what the first accepted choices give, and nothing where none are accepted.
use Rattle.std.proofs.Common.{◌≡◌, ◌⊎◌, ℕ, zero, suc, ◌+◌, ◌<◌, Bool, true, false, cond, List, [], ◌∷◌, set, slice_get, Option, Some, None, inl, inr, refl, sym, subst, ap, arith, ◌∙◌}
use Rattle.rtl_tree.specs.Moves.{Move}
use Rattle.md_match.specs.Slots.{Slots, Fit}
use Rattle.md_match.specs.Find.{find, or_else}
use Rattle.md_match.specs.Searches.{Marks, Search, is_marked, accept, match_all, pick, one, goal_tree}
use Rattle.md_match.specs.Ways.{Choice, Way, Before, Choices, Ended, Next, Ways, ended, next, Earlier, by_place, by_goal, by_value, by_rest, FoundAll}
use Rattle.md_match.proofs.Ways.{find_none, find_some, way_same}

both_none : (x y : Option Slots) → or_else x y ≡ None → (x ≡ None) × (y ≡ None)
both_none (Some v) y e = let k : Some v ≡ None = e in cc
both_none None y e = (refl, e)

free_none : (b : Bool) (x : Option Slots) → b ≡ false → cond b None x ≡ None → x ≡ None
free_none true x e f = let k : true ≡ false = e in cc
free_none false x e f = f

pick_none : (f : Fit) (rs : List Move) (i j : ℕ) (e r : Move) (used : Marks) (k : Marks → Slots → Option Slots) (s : Slots)
    → pick f rs i e used k s ≡ None → slice_get rs j ≡ Some r → is_marked used (i + j) ≡ false → one f r e (k (set used (i + j) true)) s ≡ None
pick_none f [] i j e r used k s n q u = let x : None ≡ Some r = q in cc
pick_none f (x ∷ rs) i zero e r used k s n q u =
    let h : x ≡ r = cc in
    let z : i + 0 ≡ i = omega arith in
    let m = free_none (is_marked used i) (one f x e (k (set used i true)) s) (ap (is_marked used) (sym z) ∙ u)
    (both_none (cond (is_marked used i) None (one f x e (k (set used i true)) s)) (pick f rs (i + 1) e used k s) n).0 in
    subst (λ (p : ℕ). one f r e (k (set used p true)) s ≡ None) (sym z) (subst (λ (y : Move). one f y e (k (set used i true)) s ≡ None) h m)
pick_none f (x ∷ rs) i (suc j) e r used k s n q u =
    let z : (i + 1) + j ≡ i + suc j = omega arith in
    let m = pick_none f rs (i + 1) j e r used k s
    (both_none (cond (is_marked used i) None (one f x e (k (set used i true)) s)) (pick f rs (i + 1) e used k s) n).1 q (ap (is_marked used) z ∙ u) in
    subst (λ (p : ℕ). one f r e (k (set used p true)) s ≡ None) z m

pub match_none : (t : Search) (es : List Move) (used : Marks) (s : Slots) → match_all t es used s ≡ None
    → (cs : Choices) (left : Marks) (u : Slots) → Ways t es cs used s left u → accept t left u ≡ None
match_none t _ _ _ n _ _ _ (ended used s) = n
match_none t _ _ _ n _ _ _ (next e es j r p v cs used s a b left u q free wp wv ws) =
    let z : 0 + j ≡ j = omega arith in
    let o = pick_none t.fit t.row 0 j e r used (match_all t es) s n q (ap (is_marked used) z ∙ free) in
    let o2 : one t.fit r e (match_all t es (set used j true)) s ≡ None =
    subst (λ (i : ℕ). one t.fit r e (match_all t es (set used i true)) s ≡ None) z o in
    let x = find_none t.fit (goal_tree r.to) (goal_tree e.to) (find t.fit r.value e.value (match_all t es (set used j true))) s o2 p a wp in
    let y = find_none t.fit r.value e.value (match_all t es (set used j true)) a x v b wv in
    match_none t es (set used j true) b y cs left u ws

record Picked (f : Fit) (rs : List Move) (i : ℕ) (e : Move) (used : Marks) (k : Marks → Slots → Option Slots) (s u : Slots) : Type 0 where
  place : ℕ
  move : Move
  is : slice_get rs place ≡ Some move
  free : is_marked used (i + place) ≡ false
  goes : one f move e (k (set used (i + place) true)) s ≡ Some u
  before : (j : ℕ) (r : Move) → j < place → slice_get rs j ≡ Some r → is_marked used (i + j) ≡ false → one f r e (k (set used (i + j) true)) s ≡ None

here_some : (b : Bool) (x y : Option Slots) (u : Slots) → or_else (cond b None x) y ≡ Some u
    → ((b ≡ false) × (x ≡ Some u)) ⊎ ((b ≡ false → x ≡ None) × (y ≡ Some u))
here_some true x y u e = inr ((λ q. (let k : true ≡ false = q in cc)), e)
here_some false (Some v) y u e = inl (refl, e)
here_some false None y u e = inr ((λ q. refl), e)

later_before : (f : Fit) (x : Move) (rs : List Move) (i : ℕ) (e : Move) (used : Marks) (k : Marks → Slots → Option Slots) (s u : Slots)
    → (is_marked used i ≡ false → one f x e (k (set used i true)) s ≡ None) → (h : Picked f rs (i + 1) e used k s u)
    → (j : ℕ) (r : Move) → j < suc h.place → slice_get (x ∷ rs) j ≡ Some r → is_marked used (i + j) ≡ false → one f r e (k (set used (i + j) true)) s ≡ None
later_before f x rs i e used k s u n h zero r l q a =
    let z : i + 0 ≡ i = omega arith in
    let y : x ≡ r = cc in
    subst (λ (p : ℕ). one f r e (k (set used p true)) s ≡ None) (sym z)
    (subst (λ (m : Move). one f m e (k (set used i true)) s ≡ None) y (n (ap (is_marked used) (sym z) ∙ a)))
later_before f x rs i e used k s u n h (suc j) r l q a =
    let z : (i + 1) + j ≡ i + suc j = omega arith in
    subst (λ (p : ℕ). one f r e (k (set used p true)) s ≡ None) z (h.before j r (omega (arith, l)) q (ap (is_marked used) z ∙ a))

later_pick : (f : Fit) (x : Move) (rs : List Move) (i : ℕ) (e : Move) (used : Marks) (k : Marks → Slots → Option Slots) (s u : Slots)
    → (is_marked used i ≡ false → one f x e (k (set used i true)) s ≡ None) → Picked f rs (i + 1) e used k s u → Picked f (x ∷ rs) i e used k s u
later_pick f x rs i e used k s u n h =
    let z : (i + 1) + h.place ≡ i + suc h.place = omega arith in
    record {
      place = suc h.place;
      move = h.move;
      is = h.is;
      free = ap (is_marked used) (sym z) ∙ h.free;
      goes = subst (λ (p : ℕ). one f h.move e (k (set used p true)) s ≡ Some u) z h.goes;
      before = later_before f x rs i e used k s u n h;
    }

pick_some : (f : Fit) (rs : List Move) (i : ℕ) (e : Move) (used : Marks) (k : Marks → Slots → Option Slots) (s u : Slots)
    → pick f rs i e used k s ≡ Some u → Picked f rs i e used k s u
pick_some f [] i e used k s u n = let q : None ≡ Some u = n in cc
pick_some f (x ∷ rs) i e used k s u n =
    let z : i + 0 ≡ i = omega arith in
    elim (here_some (is_marked used i) (one f x e (k (set used i true)) s) (pick f rs (i + 1) e used k s) u n) [
      | inl h ↦ record {
        place = 0;
        move = x;
        is = refl;
        free = ap (is_marked used) z ∙ h.0;
        goes = subst (λ (p : ℕ). one f x e (k (set used p true)) s ≡ Some u) (sym z) h.1;
        before = λ j r l q a. absurd (omega (arith, l));
      }
      | inr h ↦ later_pick f x rs i e used k s u h.0 (pick_some f rs (i + 1) e used k s u h.1)
    ]

not_ended : (cs ds : Choices) → Earlier cs ds → ds ≡ Ended → ⊥
not_ended _ _ (by_place i j p q v w cs ds l) e = cc
not_ended _ _ (by_goal j p q v w cs ds b) e = cc
not_ended _ _ (by_value j p v w cs ds b) e = cc
not_ended _ _ (by_rest j p v cs ds b) e = cc

-- what comes before the first choices comes to nothing
first_of : (t : Search) (e : Move) (es : List Move) (used : Marks) (s a b u : Slots) (j : ℕ) (r : Move) (p v : Choice) (by : Choices)
    → slice_get t.row j ≡ Some r
    → ((i : ℕ) (m : Move) → i < j → slice_get t.row i ≡ Some m → is_marked used i ≡ false → one t.fit m e (match_all t es (set used i true)) s ≡ None)
    → Way t.fit (goal_tree r.to) (goal_tree e.to) p s a
    → ((q : Choice) (x : Slots) → Way t.fit (goal_tree r.to) (goal_tree e.to) q s x → Before q p → find t.fit r.value e.value (match_all t es (set used j true)) x ≡ None)
    → Way t.fit r.value e.value v a b
    → ((q : Choice) (x : Slots) → Way t.fit r.value e.value q a x → Before q v → match_all t es (set used j true) x ≡ None)
    → ((cs : Choices) (l : Marks) (x : Slots) → Ways t es cs (set used j true) b l x → Earlier cs by → accept t l x ≡ None)
    → (cs : Choices) (l : Marks) (x : Slots) → Ways t (e ∷ es) cs used s l x → Earlier cs (Next j p v by) → accept t l x ≡ None
first_of t e es used s a b u j r p v by is before wp fp wv fv fr _ l x (next _ _ i m q w cs _ _ c d _ _ im free xp xv xs) (by_place _ _ _ _ _ _ _ _ lt) =
    let o = before i m lt im free in
    let y = find_none t.fit (goal_tree m.to) (goal_tree e.to) (find t.fit m.value e.value (match_all t es (set used i true))) s o q c xp in
    match_none t es (set used i true) d (find_none t.fit m.value e.value (match_all t es (set used i true)) c y w d xv) cs l x xs
first_of t e es used s a b u j r p v by is before wp fp wv fv fr _ l x (next _ _ _ m q w cs _ _ c d _ _ im free xp xv xs) (by_goal _ _ _ _ _ _ _ bf) =
    let k : m ≡ r = cc in
    let xp2 = subst (λ (n : Move). Way t.fit (goal_tree n.to) (goal_tree e.to) q s c) k xp in
    let xv2 = subst (λ (n : Move). Way t.fit n.value e.value w c d) k xv in
    match_none t es (set used j true) d (find_none t.fit r.value e.value (match_all t es (set used j true)) c (fp q c xp2 bf) w d xv2) cs l x xs
first_of t e es used s a b u j r p v by is before wp fp wv fv fr _ l x (next _ _ _ m _ w cs _ _ c d _ _ im free xp xv xs) (by_value _ _ _ _ _ _ bf) =
    let k : m ≡ r = cc in
    let xp2 = subst (λ (n : Move). Way t.fit (goal_tree n.to) (goal_tree e.to) p s c) k xp in
    let xv2 = subst (λ (n : Move). Way t.fit n.value e.value w c d) k xv in
    let ca = way_same t.fit (goal_tree r.to) (goal_tree e.to) p s c a xp2 wp in
    match_none t es (set used j true) d (fv w d (subst (λ (y : Slots). Way t.fit r.value e.value w y d) ca xv2) bf) cs l x xs
first_of t e es used s a b u j r p v by is before wp fp wv fv fr _ l x (next _ _ _ m _ _ cs _ _ c d _ _ im free xp xv xs) (by_rest _ _ _ _ _ bf) =
    let k : m ≡ r = cc in
    let xp2 = subst (λ (n : Move). Way t.fit (goal_tree n.to) (goal_tree e.to) p s c) k xp in
    let xv2 = subst (λ (n : Move). Way t.fit n.value e.value v c d) k xv in
    let ca = way_same t.fit (goal_tree r.to) (goal_tree e.to) p s c a xp2 wp in
    let xv3 = subst (λ (y : Slots). Way t.fit r.value e.value v y d) ca xv2 in
    let db = way_same t.fit r.value e.value v a d b xv3 wv in
    fr cs l x (subst (λ (y : Slots). Ways t es cs (set used j true) y l x) db xs) bf

pub match_some : (t : Search) (es : List Move) (used : Marks) (s u : Slots) → match_all t es used s ≡ Some u → FoundAll t es used s u
match_some t [] used s u g = record {
  by = Ended;
  left = used;
  to = s;
  ways = ended used s;
  goes = g;
  first = λ cs l v w b. absurd (not_ended cs Ended b refl);
}
match_some t (e ∷ es) used s u g =
    let h = pick_some t.fit t.row 0 e used (match_all t es) s u g in
    let z : 0 + h.place ≡ h.place = omega arith in
    let goes : one t.fit h.move e (match_all t es (set used h.place true)) s ≡ Some u =
    subst (λ (i : ℕ). one t.fit h.move e (match_all t es (set used i true)) s ≡ Some u) z h.goes in
    let p = find_some t.fit (goal_tree h.move.to) (goal_tree e.to) (find t.fit h.move.value e.value (match_all t es (set used h.place true))) s u goes in
    let v = find_some t.fit h.move.value e.value (match_all t es (set used h.place true)) p.to u p.goes in
    let r = match_some t es (set used h.place true) v.to u v.goes in
    let free : is_marked used h.place ≡ false = ap (is_marked used) (sym z) ∙ h.free in
    record {
      by = Next h.place p.by v.by r.by;
      left = r.left;
      to = r.to;
      ways = next e es h.place h.move p.by v.by r.by used s p.to v.to r.left r.to h.is free p.way v.way r.ways;
      goes = r.goes;
      first = first_of t e es used s p.to v.to u h.place h.move p.by v.by r.by h.is
          (λ i m l q a. (let y : 0 + i ≡ i = omega arith in
          subst (λ (n : ℕ). one t.fit m e (match_all t es (set used n true)) s ≡ None) y (h.before i m l q (ap (is_marked used) y ∙ a))))
          p.way p.first v.way v.first r.first;
    }
