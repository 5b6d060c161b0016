-- Operations one after the other, and what each of them asks.
use Rattle.std.proofs.Common.{◌≡◌, ◌⊎◌, inl, inr, ℕ, ◌<◌, List, [], ◌∷◌, ◌++◌, Option, refl, sym}
use Rattle.rtl_word.specs.declared.Rel.{Rel}
use Rattle.rtl_tree.specs.declared.cells.Cell.TheVariants.{Temp}
use Rattle.naive_code.specs.Operations.{Falls, Branches, Op, Close}
use Rattle.naive_live.specs.Live.{Has, Within, AreApart, Comes, Passes, Lives}
use Rattle.naive_live.proofs.Lists.{within_same, within_then, within_as}

module _ (depth : ℕ → Option ℕ) (scalars : ℕ) (env : ℕ → List ℕ) where
  abbrev pub Live_through : List ℕ → List Op → List ℕ → Type 0
  Live_through = Lives depth scalars env

  -- more may be live before
  pub wider : (os : List Op) (xs ys us : List ℕ) → Within xs ys → Live_through xs os us → Live_through ys os us
  wider [] xs ys us h k = within_then us xs ys k h
  wider (o ∷ os) xs ys us h k = (k.0, within_then k.0 xs ys k.1 h, k.2, k.3, k.4)

  pub lives_then : (os ps : List Op) (xs ys us : List ℕ) → Live_through xs os ys → Live_through ys ps us → Live_through xs (os ++ ps) us
  lives_then [] ps xs ys us h k = wider ps ys xs us h k
  lives_then (o ∷ os) ps xs ys us h k = (h.0, h.1, h.2, h.3, lives_then os ps h.2 ys us h.4 k)

  -- where something is dropped in between
  pub lives_after : (os ps : List Op) (xs ys zs us : List ℕ) → Live_through xs os ys → Within zs ys → Live_through zs ps us → Live_through xs (os ++ ps) us
  lives_after os ps xs ys zs us h w k = lives_then os ps xs ys us h (wider ps zs ys us w k)

  -- where less is live behind
  pub narrower : (os : List Op) (xs ys zs : List ℕ) → Live_through xs os ys → Within zs ys → Live_through xs os zs
  narrower [] xs ys zs h w = within_then zs ys xs w h
  narrower (o ∷ os) xs ys zs h w = (h.0, h.1, h.2, h.3, narrower os h.2 ys zs h.4 w)

  -- one operation, and others
  pub first : (o : Op) (os : List Op) (xs ys us : List ℕ) → Passes depth scalars env xs o ys → Live_through ys os us → Live_through xs (o ∷ os) us
  first o os xs ys us p k = (xs, within_same xs, ys, p, k)

  pub only : (o : Op) (xs ys : List ℕ) → Passes depth scalars env xs o ys → Live_through xs (o ∷ []) ys
  only o xs ys p = (xs, within_same xs, ys, p, within_same ys)

  -- an assignment to a temporary that wasn't live, to one that is, and to a scalar

  pub comes_new : (a : ℕ) (xs : List ℕ) → AreApart depth (a ∷ xs) → Comes depth scalars env xs (Temp a) (a ∷ xs)
  comes_new a xs h = inr (record { has = inl refl; others = λ j k. k; apart = h })

  pub comes_again : (a : ℕ) (xs : List ℕ) → Has xs a → AreApart depth xs → Comes depth scalars env xs (Temp a) xs
  comes_again a xs k h = inr (record { has = k; others = λ j m. inr m; apart = h })

  -- below the one on top
  pub comes_under : (a x : ℕ) (xs : List ℕ) → AreApart depth (x ∷ a ∷ xs) → Comes depth scalars env (x ∷ xs) (Temp a) (x ∷ a ∷ xs)
  comes_under a x xs h = inr (record { has = inr (inl refl); others = others; apart = h })
    where
      others : (j : ℕ) → Has (x ∷ a ∷ xs) j → (j ≡ a) ⊎ Has (x ∷ xs) j
      others j (inl e) = inr (inl e)
      others j (inr (inl e)) = inl e
      others j (inr (inr k)) = inr (inr k)

  -- in its place
  pub comes_for : (a x : ℕ) (xs : List ℕ) → AreApart depth (a ∷ xs) → Comes depth scalars env (x ∷ xs) (Temp a) (a ∷ xs)
  comes_for a x xs h = inr (record { has = inl refl; others = others; apart = h })
    where
      others : (j : ℕ) → Has (a ∷ xs) j → (j ≡ a) ⊎ Has (x ∷ xs) j
      others j (inl e) = inl e
      others j (inr k) = inr (inr k)

  pub comes_scalar : (a : ℕ) (xs : List ℕ) → a < scalars → Comes depth scalars env xs (Temp a) xs
  comes_scalar a xs lt = inl (lt, within_same xs)

  -- the block ends, and what is live behind is what is live where the next one begins

  pub falls : (l : ℕ) (xs ys : List ℕ) → env l ≡ ys → AreApart depth ys → Within ys xs → Live_through xs (Close Falls l ∷ []) ys
  falls l xs ys e h w = only (Close Falls l) xs ys (sym e, h, w)

  pub branches : (r : Rel) (a b target next : ℕ) (xs ys : List ℕ) → env target ≡ ys → env next ≡ ys → AreApart depth ys → Has xs a → Has xs b → Within ys xs
      → Live_through xs (Close (Branches r a b target) next ∷ []) ys
  branches r a b target next xs ys e f h p q w =
      only (Close (Branches r a b target) next) xs ys (sym f, h, (inr p, inr q, within_as (env target) ys xs e w, w))
