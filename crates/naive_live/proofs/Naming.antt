-- What is live has a depth throughout, so each operation names temporaries that have a home.
use Rattle.std.proofs.Common.{◌≡◌, inl, inr, ℕ, zero, suc, ◌+◌, ◌<◌, ◌≤◌, List, [], ◌∷◌, ◌++◌, Option, Some, None, refl, sym, subst, arith}
use Rattle.std.specs.Prelude.{length, All}
use Rattle.std.proofs.lemmas.List.Elements.{All-cons, All-nil}
use Rattle.std.proofs.lemmas.Option.{slice_get_within}
use Rattle.rtl_tree.specs.declared.cells.Cell.{Cell}
use Rattle.rtl_tree.specs.declared.cells.Cell.TheVariants.{Hard, Temp, Flag, Pc, Input, Output, Halt, Hole}
use Rattle.naive_code.specs.Operations.{Stop, Falls, Jumps, Branches, Calls, Returns, Op, Make, Meet, Scale, Extend, Close}
use Rattle.naive_code.specs.Storage.{scalar_count}
use Rattle.naive_code.specs.Functions.{body_steps, function_ops}
use Rattle.naive_live.specs.Live.{Has, AreApart, Access, Neither, Reads, ReadsBoth, Sets, SetsBySecond, Changes, ChangesBySecond, Unused, access, Holds, Comes, Accesses, Stops, Passes, Lives}
use Rattle.naive_live.specs.Function.{numbered, depth_in, IsTemporaryBelow, StopBelow, NamesBelow, NamesAreTemporaries}
use Rattle.naive_live.proofs.Lists.{apart_within}
use Rattle.naive_live.proofs.Steps.{nothing_apart}
use Rattle.naive_live.proofs.Values.{sum_of}
use Rattle.naive_live.proofs.Functions.{body_stacked, functions_live}

module _ (depth : ℕ → Option ℕ) (scalars : ℕ) (env : ℕ → List ℕ) where
  -- what is live behind an operation is apart, where what is live before it is

  comes_apart : (live behind : List ℕ) (c : Cell) → AreApart depth live → Comes depth scalars env live c behind → AreApart depth behind
  comes_apart live behind (Temp i) a (inl k) = apart_within depth behind live k.1 a
  comes_apart live behind (Temp i) a (inr k) = k.apart
  comes_apart live behind (Hard n) a k = absurd k
  comes_apart live behind (Flag n) a k = absurd k
  comes_apart live behind Pc a k = absurd k
  comes_apart live behind Input a k = absurd k
  comes_apart live behind Output a k = absurd k
  comes_apart live behind Halt a k = absurd k
  comes_apart live behind (Hole n) a k = absurd k

  pub accesses_apart : (how : Access) (live behind : List ℕ) (x y : Cell) → AreApart depth live → Accesses depth scalars env how live x y behind → AreApart depth behind
  accesses_apart Neither live behind x y a k = apart_within depth behind live k.2 a
  accesses_apart Reads live behind x y a k = apart_within depth behind live k.2 a
  accesses_apart ReadsBoth live behind x y a k = apart_within depth behind live k.2 a
  accesses_apart Sets live behind x y a k = comes_apart live behind x a k.1
  accesses_apart SetsBySecond live behind x y a k = comes_apart live behind x a k.1
  accesses_apart Changes live behind x y a k = apart_within depth behind live k.2 a
  accesses_apart ChangesBySecond live behind x y a k = apart_within depth behind live k.2 a
  accesses_apart Unused live behind x y a k = absurd k

  pub passes_apart : (o : Op) (live behind : List ℕ) → AreApart depth live → Passes depth scalars env live o behind → AreApart depth behind
  passes_apart (Make p o) live behind a k = accesses_apart (access p) live behind o.a o.b a k
  passes_apart (Meet x y) live behind a k = apart_within depth behind live k.2 a
  passes_apart (Scale x y) live behind a k = apart_within depth behind live k.2 a
  passes_apart (Extend x y) live behind a k = apart_within depth behind live k.2 a
  passes_apart (Close stop l) live behind a k = k.1

  -- ---- names

  module _ (n : ℕ) (bound : (i d : ℕ) → depth i ≡ Some d → i < n) (scalars_below : scalars ≤ n) (some : 0 < n) where
    abbrev Below : Cell → Type 0
    Below = IsTemporaryBelow n

    live_below : (live : List ℕ) (i : ℕ) → AreApart depth live → Has live i → i < n
    live_below live i a k = let d = a.deep i k in bound i d.0 d.1

    holds_below : (live : List ℕ) (c : Cell) → AreApart depth live → Holds depth scalars env live c → Below c
    holds_below live (Temp i) a (inl lt) = omega (arith, lt, scalars_below)
    holds_below live (Temp i) a (inr k) = live_below live i a k
    holds_below live (Hard n) a k = absurd k
    holds_below live (Flag n) a k = absurd k
    holds_below live Pc a k = absurd k
    holds_below live Input a k = absurd k
    holds_below live Output a k = absurd k
    holds_below live Halt a k = absurd k
    holds_below live (Hole n) a k = absurd k

    comes_below : (live behind : List ℕ) (c : Cell) → Comes depth scalars env live c behind → Below c
    comes_below live behind (Temp i) (inl k) = let lt = k.0 in omega (arith, lt, scalars_below)
    comes_below live behind (Temp i) (inr k) = live_below behind i k.apart k.has
    comes_below live behind (Hard n) k = absurd k
    comes_below live behind (Flag n) k = absurd k
    comes_below live behind Pc k = absurd k
    comes_below live behind Input k = absurd k
    comes_below live behind Output k = absurd k
    comes_below live behind Halt k = absurd k
    comes_below live behind (Hole n) k = absurd k

    both_below : (x y : Cell) → y ≡ x → Below x → Below x × Below y
    both_below x y e h = (h, subst Below (sym e) h)

    accesses_below : (how : Access) (live behind : List ℕ) (x y : Cell) → AreApart depth live → Accesses depth scalars env how live x y behind → Below x × Below y
    accesses_below Neither live behind x y a k = (subst Below (sym k.0) some, subst Below (sym k.1) some)
    accesses_below Reads live behind x y a k = both_below x y k.0 (holds_below live x a k.1)
    accesses_below ReadsBoth live behind x y a k = (holds_below live x a k.0, holds_below live y a k.1)
    accesses_below Sets live behind x y a k = both_below x y k.0 (comes_below live behind x k.1)
    accesses_below SetsBySecond live behind x y a k = (comes_below live behind x k.1, holds_below live y a k.0)
    accesses_below Changes live behind x y a k = both_below x y k.0 (holds_below live x a k.1)
    accesses_below ChangesBySecond live behind x y a k = (holds_below live x a k.0, holds_below live y a k.1)
    accesses_below Unused live behind x y a k = absurd k

    stops_below : (stop : Stop) (live behind : List ℕ) → AreApart depth live → Stops depth scalars env live stop behind → StopBelow n stop
    stops_below Falls live behind a k = tt
    stops_below (Jumps l) live behind a k = tt
    stops_below (Branches r x y l) live behind a k = (holds_below live (Temp x) a k.0, holds_below live (Temp y) a k.1)
    stops_below (Calls f) live behind a k = tt
    stops_below Returns live behind a k = tt

    passes_below : (o : Op) (live behind : List ℕ) → AreApart depth live → Passes depth scalars env live o behind → NamesBelow n o
    passes_below (Make p o) live behind a k = accesses_below (access p) live behind o.a o.b a k
    passes_below (Meet x y) live behind a k = (holds_below live (Temp x) a k.0, holds_below live (Temp y) a k.1)
    passes_below (Scale x y) live behind a k = (holds_below live (Temp x) a k.0, live_below (y ∷ live) y k.1 (inl refl))
    passes_below (Extend x y) live behind a k = (holds_below live (Temp x) a k.0, live_below (y ∷ live) y k.1 (inl refl))
    passes_below (Close stop l) live behind a k = stops_below stop live behind a k.2

    all_below : (os : List Op) (live behind : List ℕ) → AreApart depth live → Lives depth scalars env live os behind → All (NamesBelow n) os
    all_below [] live behind a k = All-nil (NamesBelow n)
    all_below (o ∷ os) live behind a k =
        let kept = apart_within depth k.0 live k.1 a in
        All-cons (NamesBelow n) o os (passes_below o k.0 k.2 kept k.3) (all_below os k.2 behind (passes_apart o k.0 k.2 kept k.3) k.4)

-- ---- the whole

numbered_below : (n : ℕ) (xs : List ℕ) (i d : ℕ) → numbered n xs i ≡ Some d → i < n + length xs
numbered_below zero xs i d e = let k = slice_get_within xs i d e in omega (arith, k)
numbered_below (suc n) xs zero d e = absurd (let q : None ≡ Some d = e in cc)
numbered_below (suc n) xs (suc i) d e = let k = numbered_below n xs i d e in omega (arith, k)

pub names_are_temporaries : NamesAreTemporaries
names_are_temporaries kept w pushed t f label so =
    let body = body_steps kept w t f in let scalars = scalar_count f in
    let depth = depth_in kept w t f in
    let n = scalars + body.temps + 1 in
    let x = functions_live kept w pushed t f label so in
    let long = sum_of ℕ body.depths (0 ∷ []) body.temps 1 (body_stacked kept w t f so).many refl in
    let below : (i d : ℕ) → depth i ≡ Some d → i < n = λ i d e. (let k = numbered_below scalars (body.depths ++ 0 ∷ []) i d e in omega (arith, k, long)) in
    all_below depth scalars x.at_label n below (omega arith) (omega arith) (function_ops kept w pushed t f label) [] [] (nothing_apart depth scalars) x.lives
