-- Paths of a finite graph are decided: those through one more node are those without it, and those that go to it and on from it (Warshall).
use Rattle.std.proofs.Common.{◌≡◌, ◌⊎◌, inl, inr, Bool, true, ◌||◌, ◌&&◌, List, [], ◌∷◌}
use Rattle.std.specs.List.{list_any}
use Rattle.rtl_tree.proofs.Equality.{and_left, and_right}
use Rattle.live_decided.proofs.Lists.{In, here, there, none_in, or_cases, or_left, or_right, both, any_in, in_any}

module _ (N : Type 0) (edge : N → N → Bool) where
  -- whether a path through some of these nodes leads from one node to another
  abbrev pub leads : List N → N → N → Bool
  leads [] a b = edge a b
  leads (s ∷ ss) a b = leads ss a b || (leads ss a s && leads ss s b)

  pub data Path (ss : List N) : N → N → Type 0 where
    one : (a b : N) → edge a b ≡ true → Path ss a b
    more : (a x b : N) → edge a x ≡ true → In x ss → Path ss x b → Path ss a b

  weaken : (s : N) (ss : List N) (a b : N) → Path ss a b → Path (s ∷ ss) a b
  weaken s ss _ _ (one a b e) = one a b e
  weaken s ss _ _ (more a x b e i v) = more a x b e (there x s ss i) (weaken s ss x b v)

  join : (ss : List N) (a x b : N) → Path ss a x → In x ss → Path ss x b → Path ss a b
  join ss _ _ b (one a x e) i v = more a x b e i v
  join ss _ _ b (more a y x e k u) i v = more a y b e k (join ss y x b u i v)

  pub sound : (ss : List N) (a b : N) → leads ss a b ≡ true → Path ss a b
  sound [] a b e = one a b e
  sound (s ∷ ss) a b e = elim (or_cases (leads ss a b) (leads ss a s && leads ss s b) e) [
    | inl p ↦ weaken s ss a b (sound ss a b p)
    | inr q ↦ join (s ∷ ss) a s b (weaken s ss a s (sound ss a s (and_left (leads ss a s) _ q))) (here s ss) (weaken s ss s b (sound ss s b (and_right (leads ss a s) _ q)))
  ]

  abbrev IsWhole : List N → Type 0
  IsWhole ss = (a b : N) → Path ss a b → leads ss a b ≡ true

  abbrev IsSplit : N → List N → N → N → Type 0
  IsSplit s ss a b = (leads ss a b ≡ true) ⊎ ((leads ss a s ≡ true) × (leads ss s b ≡ true))

  step : (s : N) (ss : List N) → IsWhole ss → (a x b : N) → edge a x ≡ true → In x (s ∷ ss) → IsSplit s ss x b → IsSplit s ss a b
  step _ _ w a _ b e (here s ss) (inl p) = inr (w a s (one a s e), p)
  step _ _ w a _ b e (here s ss) (inr q) = inr (w a s (one a s e), q.1)
  step _ _ w a _ b e (there x s ss i) (inl p) = inl (w a b (more a x b e i (sound ss x b p)))
  step _ _ w a _ b e (there x s ss i) (inr q) = inr (w a s (more a x s e i (sound ss x s q.0)), q.1)

  split : (s : N) (ss : List N) → IsWhole ss → (a b : N) → Path (s ∷ ss) a b → IsSplit s ss a b
  split s ss w _ _ (one a b e) = inl (w a b (one a b e))
  split s ss w _ _ (more a x b e i v) = step s ss w a x b e i (split s ss w x b v)

  pub whole : (ss : List N) → IsWhole ss
  whole [] _ _ (one a b e) = e
  whole [] _ _ (more a x b e i v) = absurd (none_in i)
  whole (s ∷ ss) a b v = elim (split s ss (whole ss) a b v) [
    | inl p ↦ or_left (leads ss a b) (leads ss a s && leads ss s b) p
    | inr q ↦ or_right (leads ss a b) (leads ss a s && leads ss s b) (both (leads ss a s) (leads ss s b) q.0 q.1)
  ]

  module _ (accept : N → Bool) where
    -- some path leads to a node that is accepted
    pub data Reaches : N → Type 0 where
      ends : (a : N) → accept a ≡ true → Reaches a
      goes : (a b : N) → edge a b ≡ true → Reaches b → Reaches a

    abbrev pub reaches : List N → N → Bool
    reaches ss a = accept a || list_any (λ b. leads ss a b && accept b) ss

    by_path : (ss : List N) (a b : N) → Path ss a b → accept b ≡ true → Reaches a
    by_path ss _ _ (one a b e) f = goes a b e (ends b f)
    by_path ss _ _ (more a x b e i v) f = goes a x e (by_path ss x b v f)

    pub does_reach : (ss : List N) (a : N) → reaches ss a ≡ true → Reaches a
    does_reach ss a e = elim (or_cases (accept a) (list_any (λ b. leads ss a b && accept b) ss) e) [
      | inl p ↦ ends a p
      | inr q ↦ (let k = any_in (λ b. leads ss a b && accept b) ss q in
          by_path ss a k.0 (sound ss a k.0 (and_left (leads ss a k.0) _ k.2)) (and_right (leads ss a k.0) _ k.2))
    ]

    record Ends (ss : List N) (a : N) : Type 0 where
      to : N
      among : In to ss
      path : Path ss a to
      is : accept to ≡ true

    module _ (P : N → Type 0) (ss : List N) (closed : (a b : N) → P a → edge a b ≡ true → Reaches b → P b × In b ss) where
      ends_of : (a : N) → P a → Reaches a → (accept a ≡ true) ⊎ Ends ss a
      ends_of _ p (ends a e) = inl e
      ends_of _ p (goes a b e r) =
          let k = closed a b p e r in
          elim (ends_of b k.0 r) [
            | inl f ↦ inr (record { to = b; among = k.1; path = one a b e; is = f })
            | inr x ↦ inr (record { to = x.to; among = x.among; path = more a b x.to e k.1 x.path; is = x.is })
          ]

      pub reached : (a : N) → P a → Reaches a → reaches ss a ≡ true
      reached a p r = elim (ends_of a p r) [
        | inl e ↦ or_left (accept a) (list_any (λ b. leads ss a b && accept b) ss) e
        | inr x ↦ or_right (accept a) (list_any (λ b. leads ss a b && accept b) ss)
            (in_any (λ b. leads ss a b && accept b) ss x.to x.among (both (leads ss a x.to) (accept x.to) (whole ss a x.to x.path) x.is))
      ]
