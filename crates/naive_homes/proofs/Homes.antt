-- Temporaries that are live at once have different homes.
use Rattle.std.proofs.Common.{◌≡◌, ◌⊎◌, inl, inr, ℕ, zero, suc, ◌+◌, ◌<◌, ◌≤◌, List, [], ◌∷◌, ◌++◌, map, slice_get, Some, None, refl, sym, ap, ◌∙◌, subst, arith}
use Rattle.std.specs.Prelude.{◌≢◌, All, slice_index}
use Rattle.std.proofs.lemmas.List.Elements.{All-cons, All-nil}
use Rattle.temp_machine.specs.Live.{reserve_homes}
use Rattle.temp_code.specs.declared.code.Block.{Block}
use Rattle.temp_code.specs.Routines.{routine_of, block_of, exit_of}
use Rattle.temp_laws.specs.Targets.{target_of}
use Rattle.naive_code.specs.Storage.{scalar_count}
use Rattle.naive_code.specs.Functions.{body_steps, numbers_from, function_ops}
use Rattle.naive_builder.specs.Appending.{begun}
use Rattle.naive_builder.specs.Finished.{finished}
use Rattle.naive_live.specs.Live.{Has, AreApart}
use Rattle.naive_live.specs.Function.{numbered, depth_in, FunctionsLive}
use Rattle.naive_live.proofs.Steps.{nothing_apart}
use Rattle.naive_homes.specs.Homes.{HomesAreObeyed, NoneIsReserve}
use Rattle.naive_homes.proofs.Transfers.{AreLaws}
use Rattle.naive_homes.proofs.Blocks.{RestLives, start_of, Chain, remains}
use Rattle.naive_homes.proofs.Paths.{together}

-- ---- the home of each temporary

abbrev moved : ℕ → List ℕ → List ℕ
moved n ds = map (λ d. n + d) ds

no_some : {A : Type 0} (x : A) → None ≡ Some x → ⊥
no_some x e = cc

same_some : {A : Type 0} (x y : A) → Some x ≡ Some y → x ≡ y
same_some x y e = cc

-- of a scalar
scalar_home : (k n m : ℕ) (ds : List ℕ) (i : ℕ) → i < n → slice_index (numbers_from k n ++ moved m ds) i ≡ k + i
scalar_home k zero m ds i lt = absurd (omega (arith, lt))
scalar_home k (suc n) m ds zero lt = let q : k ≡ k + 0 = omega arith in q
scalar_home k (suc n) m ds (suc i) lt =
    let less : i < n = omega (arith, lt) in
    let e = scalar_home (suc k) n m ds i less in let q : suc k + i ≡ k + suc i = omega arith in e ∙ q

depth_home : (m : ℕ) (ds : List ℕ) (i d : ℕ) → slice_get ds i ≡ Some d → slice_index (moved m ds) i ≡ m + d
depth_home m [] i d e = absurd (no_some d e)
depth_home m (x ∷ ds) zero d e = ap (λ (y : ℕ). m + y) (same_some x d e)
depth_home m (x ∷ ds) (suc i) d e = depth_home m ds i d e

-- of one with a depth
deep_home : (k n m : ℕ) (ds : List ℕ) (i d : ℕ) → numbered n ds i ≡ Some d → slice_index (numbers_from k n ++ moved m ds) i ≡ m + d
deep_home k zero m ds i d e = depth_home m ds i d e
deep_home k (suc n) m ds zero d e = absurd (no_some d e)
deep_home k (suc n) m ds (suc i) d e = deep_home (suc k) n m ds i d e

-- one that isn't a scalar's has no home of those
least_home : (m : ℕ) (ds : List ℕ) (i : ℕ) → (slice_index (moved m ds) i ≡ 0) ⊎ (m ≤ slice_index (moved m ds) i)
least_home m [] i = inl refl
least_home m (x ∷ ds) zero = let q : m ≤ m + x = omega arith in inr q
least_home m (x ∷ ds) (suc i) = least_home m ds i

other_home : (k n m : ℕ) (ds : List ℕ) (i : ℕ) → n ≤ i → (slice_index (numbers_from k n ++ moved m ds) i ≡ 0) ⊎ (m ≤ slice_index (numbers_from k n ++ moved m ds) i)
other_home k zero m ds i le = least_home m ds i
other_home k (suc n) m ds zero le = absurd (omega (arith, le))
other_home k (suc n) m ds (suc i) le = let less : n ≤ i = omega (arith, le) in other_home (suc k) n m ds i less

below_or : (i n : ℕ) → (i < n) ⊎ (n ≤ i)
below_or i zero = inr (omega arith)
below_or zero (suc n) = inl (omega arith)
below_or (suc i) (suc n) = by (below_or i n)
  where
    by : (i < n) ⊎ (n ≤ i) → (suc i < suc n) ⊎ (suc n ≤ suc i)
    by (inl lt) = inl (omega (arith, lt))
    by (inr le) = inr (omega (arith, le))

-- a scalar's home is no other temporary's

not_other : (n a b i : ℕ) → i < n → a ≡ 16 + i → a ≡ b → (b ≡ 0) ⊎ (16 + n ≤ b) → ⊥
not_other n a b i lt p e (inl z) = omega (arith, p, z, e)
not_other n a b i lt p e (inr le) = omega (arith, p, le, e, lt)

scalar_apart : (n : ℕ) (ds : List ℕ) (i j : ℕ) → i ≢ j → i < n
    → slice_index (numbers_from 16 n ++ moved (16 + n) ds) i ≡ slice_index (numbers_from 16 n ++ moved (16 + n) ds) j → ⊥
scalar_apart n ds i j differ lt e = by (below_or j n)
  where
    by : (j < n) ⊎ (n ≤ j) → ⊥
    by (inl less) =
        let p = scalar_home 16 n (16 + n) ds i lt in let q = scalar_home 16 n (16 + n) ds j less in
        let same : i ≡ j = omega (arith, p, q, e) in differ same
    by (inr le) =
        not_other n (slice_index (numbers_from 16 n ++ moved (16 + n) ds) i) (slice_index (numbers_from 16 n ++ moved (16 + n) ds) j) i lt
        (scalar_home 16 n (16 + n) ds i lt) e (other_home 16 n (16 + n) ds j le)

-- two that stand together have different homes
apart_homes : (n : ℕ) (ds : List ℕ) (all : List ℕ) (i j : ℕ) → AreApart (numbered n ds) all → i ≢ j → (i < n) ⊎ Has all i → (j < n) ⊎ Has all j
    → slice_index (numbers_from 16 n ++ moved (16 + n) ds) i ≢ slice_index (numbers_from 16 n ++ moved (16 + n) ds) j
apart_homes n ds all i j a differ (inl lt) k e = scalar_apart n ds i j differ lt e
apart_homes n ds all i j a differ (inr h) (inl lt) e = scalar_apart n ds j i (λ q. differ (sym q)) lt (sym e)
apart_homes n ds all i j a differ (inr h) (inr k) e =
    let x = a.deep i h in let y = a.deep j k in
    let p = deep_home 16 n (16 + n) ds i x.0 x.1 in let q = deep_home 16 n (16 + n) ds j y.0 y.1 in
    let same : x.0 ≡ y.0 = omega (arith, p, q, e) in
    differ (a.apart i j h k (x.1 ∙ (ap (λ (z : ℕ). Some z) same ∙ sym y.1)))

-- ---- the whole

module _ (laws : AreLaws) (live : FunctionsLive) where
  pub homes_are_obeyed : HomesAreObeyed
  homes_are_obeyed w d frame kept pushed source f label s c checked so appends blocks homes i j differ at_once =
      let depth = depth_in kept d.word source f in let scalars = scalar_count f in
      let x = live kept d.word pushed source f label so in
      let env = x.at_label in
      let none = nothing_apart depth scalars in
      let z = remains laws w d frame checked depth scalars env (begun label) s (function_ops kept d.word pushed source f label) [] [] appends none x.lives in
      let ds = (body_steps kept d.word source f).depths ++ 0 ∷ [] in
      let t = target_of d frame kept in let r = routine_of c in
      let whole : Chain depth scalars env d.word (map block_of (finished s)) =
      subst (λ (bs : List Block). Chain depth scalars env d.word (map block_of bs)) (sym z.within.is) (
        subst (AreApart depth) (sym x.first) none,
        subst (λ (xs : List ℕ). RestLives depth scalars env d.word None xs (map (λ t. t.what) z.within.more) (exit_of z.within.end) (start_of depth scalars env d.word (map block_of z.within.rest))) (sym x.first) z.opens,
        z.chain,
      ) in
      let chain = subst (λ (bs : List Block). Chain depth scalars env d.word (map block_of bs)) (sym blocks) whole in
      let k = together t r depth scalars env chain i j at_once in
      subst (λ (hs : List ℕ). slice_index hs i ≢ slice_index hs j) (sym homes) (apart_homes scalars ds k.all i j k.apart differ k.first k.second)

all_least : (k n m : ℕ) (ds : List ℕ) → 16 ≤ k → 16 ≤ m → All (λ h. reserve_homes ≤ h) (numbers_from k n ++ moved m ds)
all_least k zero m [] le ge = All-nil (λ h. reserve_homes ≤ h)
all_least k zero m (d ∷ ds) le ge =
    All-cons (λ h. reserve_homes ≤ h) (m + d) (moved m ds) (let q : 16 ≤ m + d = omega (arith, ge) in q) (all_least k zero m ds le ge)
all_least k (suc n) m ds le ge =
    All-cons (λ h. reserve_homes ≤ h) k (numbers_from (suc k) n ++ moved m ds) le (let more : 16 ≤ suc k = omega (arith, le) in all_least (suc k) n m ds more ge)

pub none_is_reserve : NoneIsReserve
none_is_reserve kept w source f =
    let n = scalar_count f in let m : 16 ≤ 16 + n = omega arith in let k : 16 ≤ 16 = omega arith in
    all_least 16 n (16 + n) ((body_steps kept w source f).depths ++ 0 ∷ []) k m
