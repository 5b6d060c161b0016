-- The order of lists of choices is the one in which the search tries its ways.
use Rattle.std.proofs.Common.{◌≡◌, ◌⊎◌, ℕ, Bool, true, false, cond, List, [], ◌∷◌, ◌++◌, inl, inr, refl, subst, ap, append_assoc}
use Rattle.rtl_tree.specs.Trees.{Tree, Load, Unary, Binary}
use Rattle.rtl_tree.specs.Moves.{Move}
use Rattle.rtl_tree.specs.Likeness.{commutes}
use Rattle.md_match.specs.Searches.{goal_tree}
use Rattle.md_match.specs.Ways.{Choice as Turn, Here, Under, Straight, Crossed, Before, under, unswapped as turned_later, left_straight, right_straight, left_crossed, right_crossed, Choices as Turns, Ended, Next, Earlier as TriedBefore, by_place, by_goal, by_value, by_rest}
use Rattle.recogniser.specs.Choices.{Choice, Place, Unswapped, Swapped, Precedes, Earlier}

-- the choices of the search at the nodes of a tree, as a list
abbrev pub swaps : Tree → Turn → List Choice
swaps (Load w a) (Under i) = swaps a i
swaps (Unary o a) (Under i) = swaps a i
swaps (Binary o a b) (Straight i j) = cond (commutes o) (Unswapped ∷ swaps a i ++ swaps b j) (swaps a i ++ swaps b j)
swaps (Binary o a b) (Crossed i j) = Swapped ∷ swaps a i ++ swaps b j
swaps t i = []

-- and at those of the assignments of a transfer
abbrev pub listed : List Move → Turns → List Choice
listed (e ∷ es) (Next j p v cs) = Place j ∷ swaps (goal_tree e.to) p ++ (swaps e.value v ++ listed es cs)
listed es cs = []

-- choices at the nodes of this tree
abbrev pub IsOf : Tree → Turn → Type 0
IsOf (Load w a) (Under i) = IsOf a i
IsOf (Load w a) i = ⊥
IsOf (Unary o a) (Under i) = IsOf a i
IsOf (Unary o a) i = ⊥
IsOf (Binary o a b) (Straight i j) = IsOf a i × IsOf b j
IsOf (Binary o a b) (Crossed i j) = (commutes o ≡ true) × IsOf a i × IsOf b j
IsOf (Binary o a b) i = ⊥
IsOf t Here = Unit {0}
IsOf t i = ⊥

abbrev pub AreOf : List Move → Turns → Type 0
AreOf [] Ended = Unit {0}
AreOf (e ∷ es) (Next j p v cs) = IsOf (goal_tree e.to) p × IsOf e.value v × AreOf es cs
AreOf es cs = ⊥

-- the choices come before others of the tree, or are the same and what follows decides
abbrev Decides : Turn → Turn → List Choice → List Choice → Type 0
Decides i j xs ys = Before i j ⊎ ((i ≡ j) × Earlier xs ys)

below : (c : Choice) (xs ys : List Choice) → (Precedes c c → ⊥) → Earlier (c ∷ xs) (c ∷ ys) → Earlier xs ys
below c xs ys n h = elim h [ inl p ↦ absurd (n p) | inr q ↦ q.1 ]

below_cond : (k : Bool) (us vs xs ys : List Choice) → Earlier (cond k (Unswapped ∷ us) us ++ xs) (cond k (Unswapped ∷ vs) vs ++ ys)
    → Earlier (us ++ xs) (vs ++ ys)
below_cond true us vs xs ys h = below Unswapped (us ++ xs) (vs ++ ys) (λ p. p) h
below_cond false us vs xs ys h = h

-- two parts of a list, the first of which decides before the second
both : (i j k l : Turn) (ps qs rs ss xs ys : List Choice) → ((us vs : List Choice) → Earlier (ps ++ us) (rs ++ vs) → Decides i k us vs)
    → ((us vs : List Choice) → Earlier (qs ++ us) (ss ++ vs) → Decides j l us vs)
    → Earlier ((ps ++ qs) ++ xs) ((rs ++ ss) ++ ys) → Before i k ⊎ ((i ≡ k) × Decides j l xs ys)
both i j k l ps qs rs ss xs ys f g h =
    let apart : Earlier (ps ++ (qs ++ xs)) (rs ++ (ss ++ ys)) =
    subst (λ (zs : List Choice). Earlier (ps ++ (qs ++ xs)) zs) (append_assoc rs ss ys)
    (subst (λ (zs : List Choice). Earlier zs ((rs ++ ss) ++ ys)) (append_assoc ps qs xs) h) in
    elim (f (qs ++ xs) (ss ++ ys) apart) [
      | inl b ↦ inl b
      | inr q ↦ inr (q.0, g xs ys q.1)
    ]

straight_first : (i j k l : Turn) (xs ys : List Choice) → Before i k ⊎ ((i ≡ k) × Decides j l xs ys) → Decides (Straight i j) (Straight k l) xs ys
straight_first i j k l xs ys h = elim h [
  | inl b ↦ inl (left_straight i j k l b)
  | inr q ↦ elim q.1 [
    | inl b ↦ inl (subst (λ (n : Turn). Before (Straight i j) (Straight n l)) q.0 (right_straight i j l b))
    | inr r ↦ inr ((let x = q.0 in let y = r.0 in cc), r.1)
  ]
]

crossed_first : (i j k l : Turn) (xs ys : List Choice) → Before i k ⊎ ((i ≡ k) × Decides j l xs ys) → Decides (Crossed i j) (Crossed k l) xs ys
crossed_first i j k l xs ys h = elim h [
  | inl b ↦ inl (left_crossed i j k l b)
  | inr q ↦ elim q.1 [
    | inl b ↦ inl (subst (λ (n : Turn). Before (Crossed i j) (Crossed n l)) q.0 (right_crossed i j l b))
    | inr r ↦ inr ((let x = q.0 in let y = r.0 in cc), r.1)
  ]
]

-- swapped operands don't come before unswapped ones
not_before : (k : Bool) (us vs ws : List Choice) → k ≡ true → Earlier (Swapped ∷ us) (cond k (Unswapped ∷ vs) vs ++ ws) → ⊥
not_before true us vs ws e h = elim h [ inl p ↦ p | inr q ↦ (let x : Swapped ≡ Unswapped = q.0 in cc) ]
not_before false us vs ws e h = let x : false ≡ true = e in cc

under_first : (i j : Turn) (xs ys : List Choice) → Decides i j xs ys → Decides (Under i) (Under j) xs ys
under_first i j xs ys h = elim h [ inl b ↦ inl (under i j b) | inr q ↦ inr (ap Under q.0, q.1) ]

order : (e : Tree) (i j : Turn) → IsOf e i → IsOf e j → (xs ys : List Choice) → Earlier (swaps e i ++ xs) (swaps e j ++ ys) → Decides i j xs ys
order (Load w a) (Under i) (Under j) p q xs ys h = under_first i j xs ys (order a i j p q xs ys h)
order (Load w a) (Under i) _ p q xs ys h = absurd q
order (Load w a) _ _ p q xs ys h = absurd p
order (Unary o a) (Under i) (Under j) p q xs ys h = under_first i j xs ys (order a i j p q xs ys h)
order (Unary o a) (Under i) _ p q xs ys h = absurd q
order (Unary o a) _ _ p q xs ys h = absurd p
order (Binary o a b) (Straight i j) (Straight k l) p q xs ys h =
    straight_first i j k l xs ys
    (both i j k l (swaps a i) (swaps b j) (swaps a k) (swaps b l) xs ys (λ us vs d. order a i k p.0 q.0 us vs d) (λ us vs d. order b j l p.1 q.1 us vs d)
    (below_cond (commutes o) (swaps a i ++ swaps b j) (swaps a k ++ swaps b l) xs ys h))
order (Binary o a b) (Straight i j) (Crossed k l) p q xs ys h = inl (turned_later i j k l)
order (Binary o a b) (Crossed i j) (Straight k l) p q xs ys h =
    absurd (not_before (commutes o) ((swaps a i ++ swaps b j) ++ xs) (swaps a k ++ swaps b l) ys p.0 h)
order (Binary o a b) (Crossed i j) (Crossed k l) p q xs ys h =
    crossed_first i j k l xs ys
    (both i j k l (swaps a i) (swaps b j) (swaps a k) (swaps b l) xs ys (λ us vs d. order a i k p.1 q.1 us vs d) (λ us vs d. order b j l p.2 q.2 us vs d)
    (below Swapped ((swaps a i ++ swaps b j) ++ xs) ((swaps a k ++ swaps b l) ++ ys) (λ x. x) h))
order (Binary o a b) (Straight i j) _ p q xs ys h = absurd q
order (Binary o a b) (Crossed i j) _ p q xs ys h = absurd q
order (Binary o a b) _ _ p q xs ys h = absurd p
order _ Here Here p q xs ys h = inr (refl, h)
order _ Here _ p q xs ys h = absurd q
order _ _ _ p q xs ys h = absurd p

place_is : (i j : ℕ) → Place i ≡ Place j → i ≡ j
place_is i j e = cc

next_order : (i j : ℕ) (p q v w : Turn) (cs ds : Turns) → i ≡ j → p ≡ q → v ≡ w → TriedBefore cs ds → TriedBefore (Next i p v cs) (Next j q w ds)
next_order i j p q v w cs ds a b c h =
    let x : Next i p v ds ≡ Next j q w ds = cc in
    subst (λ (z : Turns). TriedBefore (Next i p v cs) z) x (by_rest i p v cs ds h)

value_order : (i j : ℕ) (p q v w : Turn) (cs ds : Turns) → i ≡ j → p ≡ q → Before v w → TriedBefore (Next i p v cs) (Next j q w ds)
value_order i j p q v w cs ds a b h =
    let x : Next i p w ds ≡ Next j q w ds = cc in
    subst (λ (z : Turns). TriedBefore (Next i p v cs) z) x (by_value i p v w cs ds h)

goal_order : (i j : ℕ) (p q v w : Turn) (cs ds : Turns) → i ≡ j → Before p q → TriedBefore (Next i p v cs) (Next j q w ds)
goal_order i j p q v w cs ds a h = subst (λ (n : ℕ). TriedBefore (Next i p v cs) (Next n q w ds)) a (by_goal i p q v w cs ds h)

-- what comes earlier in the order of lists is tried before
pub tried_before : (es : List Move) (cs ds : Turns) → AreOf es cs → AreOf es ds → Earlier (listed es cs) (listed es ds) → TriedBefore cs ds
tried_before [] Ended Ended x y h = absurd h
tried_before [] Ended _ x y h = absurd y
tried_before [] _ _ x y h = absurd x
tried_before (e ∷ es) (Next i p v cs) (Next j q w ds) x y h = elim h [
  | inl l ↦ by_place i j p q v w cs ds l
  | inr a ↦
      (let at = place_is i j a.0 in
      elim (order (goal_tree e.to) p q x.0 y.0 (swaps e.value v ++ listed es cs) (swaps e.value w ++ listed es ds) a.1) [
        | inl b ↦ goal_order i j p q v w cs ds at b
        | inr c ↦ elim (order e.value v w x.1 y.1 (listed es cs) (listed es ds) c.1) [
          | inl b ↦ value_order i j p q v w cs ds at c.0 b
          | inr d ↦ next_order i j p q v w cs ds at c.0 d.0 (tried_before es cs ds x.2 y.2 d.1)
        ]
      ])
]
tried_before (e ∷ es) (Next i p v cs) _ x y h = absurd y
tried_before (e ∷ es) _ _ x y h = absurd x
