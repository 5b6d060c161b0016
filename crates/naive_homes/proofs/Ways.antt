-- Each way to do an operation keeps what is live as the operation does.
use Rattle.std.proofs.Common.{inl, inr, ℕ, zero, suc, ◌-◌, Bool, true, false, ◌==◌, if◌then◌else◌, List, [], ◌∷◌, map, Option, refl, subst, arith}
use Rattle.std.specs.Prelude.{Contains}
use Rattle.rtl_tree.specs.declared.cells.Cell.TheVariants.{Temp}
use Rattle.rtl_tree.specs.declared.expressions.BinOp.TheVariants as op
use Rattle.md_shapes.specs.declared.patterns.Pattern.TheVariants as shape
use Rattle.naive_code.specs.Operations.{Op, Make, Meet, Scale, Extend, Close, on_two, with_number}
use Rattle.naive_run.specs.Standing.{Shaped, shaped, ways, doubled, shifted, shifted_twice, stored_and_loaded, log_bytes}
use Rattle.naive_live.specs.Live.{Within, AreApart, Holds, Comes, Passes, Lives}
use Rattle.naive_live.proofs.Lists.{within_same, within_rest, apart_within}
use Rattle.naive_live.proofs.Passing.{narrower, first, only, comes_new}

of_one : (P : List Shaped → Type 0) (a way : List Shaped) → P a → Contains (a ∷ []) way → P way
of_one P a way p (zero, lt, e) = subst P e p
of_one P a way p (suc k, lt, e) = absurd (omega (arith, lt))

of_two : (P : List Shaped → Type 0) (a b way : List Shaped) → P a → P b → Contains (a ∷ b ∷ []) way → P way
of_two P a b way p q (zero, lt, e) = subst P e p
of_two P a b way p q (suc zero, lt, e) = subst P e q
of_two P a b way p q (suc (suc k), lt, e) = absurd (omega (arith, lt))

of_three : (P : List Shaped → Type 0) (a b c way : List Shaped) → P a → P b → P c → Contains (a ∷ b ∷ c ∷ []) way → P way
of_three P a b c way p q r (zero, lt, e) = subst P e p
of_three P a b c way p q r (suc zero, lt, e) = subst P e q
of_three P a b c way p q r (suc (suc zero), lt, e) = subst P e r
of_three P a b c way p q r (suc (suc (suc k)), lt, e) = absurd (omega (arith, lt))

-- a transfer of a shape as an operation of its own
abbrev pub made : Shaped → Op
made s = Make s.pattern s.at

module _ (depth : ℕ → Option ℕ) (scalars : ℕ) (env : ℕ → List ℕ) (live behind : List ℕ) where
  abbrev LiveBy : List Shaped → Type 0
  LiveBy way = Lives depth scalars env live (map made way) behind

  abbrev Held : ℕ → Type 0
  Held a = Holds depth scalars env live (Temp a)

  held_more : (t a : ℕ) → Held a → Holds depth scalars env (t ∷ live) (Temp a)
  held_more t a (inl lt) = inl lt
  held_more t a (inr k) = inr (inr k)

  within_more : (t : ℕ) → Within behind live → Within behind (t ∷ live)
  within_more t w i k = inr (w i k)

  meet_by : (a b : ℕ) → Held a → Held b → Within behind live → LiveBy (shaped shape.Complement (on_two b b) ∷ shaped shape.Clear (on_two a b) ∷ [])
  meet_by a b h k w =
      first depth scalars env (Make shape.Complement (on_two b b)) (Make shape.Clear (on_two a b) ∷ []) live live behind (refl, k, within_same live)
      (only depth scalars env (Make shape.Clear (on_two a b)) live behind (h, k, w))

  doubled_live : (w a : ℕ) → Held a → Within behind live → LiveBy (doubled w a)
  doubled_live w a h within = by_test (w == 16)
    where
      by_test : (b : Bool)
          → LiveBy (shaped (shape.Operate op.Add) (on_two a a) ∷ (if b then [] else shaped (shape.Operate op.Add) (on_two a a) ∷ []))
      by_test true = only depth scalars env (Make (shape.Operate op.Add) (on_two a a)) live behind (h, h, within)
      by_test false =
          first depth scalars env (Make (shape.Operate op.Add) (on_two a a)) (Make (shape.Operate op.Add) (on_two a a) ∷ []) live live behind (h, h, within_same live)
          (only depth scalars env (Make (shape.Operate op.Add) (on_two a a)) live behind (h, h, within))

  module _ (a t : ℕ) (h : Held a) (apart : AreApart depth (t ∷ live)) (w : Within behind live) where
    abbrev us : List ℕ
    us = t ∷ live

    set : Comes depth scalars env live (Temp t) us
    set = comes_new depth scalars env t live apart

    shifted_live : (size : ℕ) → LiveBy (shifted size a t)
    shifted_live size =
        first depth scalars env (Make shape.SetNumber (with_number t (log_bytes size))) (Make (shape.Operate op.Shl) (on_two a t) ∷ []) live us behind (refl, set)
        (only depth scalars env (Make (shape.Operate op.Shl) (on_two a t)) us behind (held_more t a h, inr (inl refl), within_more t w))

    twice_live : (size : ℕ) → LiveBy (shifted_twice size a t)
    twice_live size =
        let up = Make (shape.Operate op.Shl) (on_two a t) in let down = Make (shape.Operate op.Shr) (on_two a t) in
        first depth scalars env (Make shape.SetNumber (with_number t (size - 8))) (up ∷ down ∷ []) live us behind (refl, set)
        (first depth scalars env up (down ∷ []) us us behind (held_more t a h, inr (inl refl), within_same us)
        (only depth scalars env down us behind (held_more t a h, inr (inl refl), within_more t w)))

    comes_back : Comes depth scalars env us (Temp a) live
    comes_back = by h
      where
        by : Held a → Comes depth scalars env us (Temp a) live
        by (inl lt) = inl (lt, within_rest t live)
        by (inr k) = inr (record { has = k; others = λ j m. inr (inr m); apart = apart_within depth live us (within_rest t live) apart })

    loaded_live : LiveBy (stored_and_loaded a t)
    loaded_live =
        let stores = Make shape.StoreByte (on_two t a) in let loads = Make shape.LoadByte (on_two a t) in
        first depth scalars env (Make shape.ReadStack (on_two t t)) (stores ∷ loads ∷ []) live us behind (refl, set)
        (first depth scalars env stores (loads ∷ []) us us behind (inr (inl refl), held_more t a h, within_same us)
        (narrower depth scalars env (loads ∷ []) us live behind (only depth scalars env loads us live (inr (inl refl), comes_back)) w))

  ways_by : (w : ℕ) (o : Op) → Passes depth scalars env live o behind → (way : List Shaped) → Contains (ways w o) way → LiveBy way
  ways_by w (Make p o) h way k = of_one LiveBy (shaped p o ∷ []) way (only depth scalars env (Make p o) live behind h) k
  ways_by w (Meet a b) h way k =
      of_two LiveBy (shaped (shape.Operate op.And) (on_two a b) ∷ []) (shaped shape.Complement (on_two b b) ∷ shaped shape.Clear (on_two a b) ∷ []) way
      (only depth scalars env (Make (shape.Operate op.And) (on_two a b)) live behind h) (meet_by a b h.0 h.1 h.2) k
  ways_by w (Scale a t) h way k = of_two LiveBy (shifted w a t) (doubled w a) way (shifted_live a t h.0 h.1 h.2 w) (doubled_live w a h.0 h.2) k
  ways_by w (Extend a t) h way k =
      of_three LiveBy (shaped shape.ExtendByte (on_two a a) ∷ []) (shifted_twice w a t) (stored_and_loaded a t) way
      (only depth scalars env (Make shape.ExtendByte (on_two a a)) live behind (refl, h.0, h.2)) (twice_live a t h.0 h.1 h.2 w) (loaded_live a t h.0 h.1 h.2) k
  ways_by w (Close stop l) h way k = absurd (omega (arith, k.1))

pub ways_live : (depth : ℕ → Option ℕ) (scalars : ℕ) (env : ℕ → List ℕ) (w : ℕ) (o : Op) (live behind : List ℕ) → Passes depth scalars env live o behind
    → (way : List Shaped) → Contains (ways w o) way → Lives depth scalars env live (map made way) behind
ways_live depth scalars env w o live behind h way k = ways_by depth scalars env live behind w o h way k
