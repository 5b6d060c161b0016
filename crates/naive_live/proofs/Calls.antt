-- What is live in the code of calls.
use Rattle.std.proofs.Common.{◌≡◌, inl, inr, ℕ, zero, suc, ◌+◌, List, [], ◌∷◌, ◌++◌, Option, refl, sym, arith}
use Rattle.std.specs.Prelude.{length}
use Rattle.c_tree.specs.declared.typed.Callee.{Callee}
use Rattle.c_tree.specs.declared.typed.Callee.TheVariants as callee
use Rattle.naive_code.specs.Operations.{Calls, Meet, Close, constant, take_input, put_output, read_result, set_result}
use Rattle.naive_code.specs.Expressions.{Value, arguments, results_of, stored_at, stored_from, called, put_character, call_of}
use Rattle.naive_live.specs.Live.{Has, Within, Lives, Passes}
use Rattle.naive_live.proofs.Lists.{within_same, within_rest, within_then, Below, stacked, apart_below, fresh}
use Rattle.naive_live.proofs.Passing.{lives_then, first, only, comes_new}
use Rattle.naive_live.proofs.Values.{sum_of, Deep, Marked, IsStacked, marked_first, marked_second, marked_as, deep_first, deep_second, leaf_stacked, then_on_stacked}

abbrev AllHas : List ℕ → List ℕ → Type 0
AllHas xs [] = Unit {0}
AllHas xs (r ∷ rs) = Has xs r × AllHas xs rs

module _ (depth : ℕ → Option ℕ) (scalars : ℕ) where
  abbrev pub AllStacked : List Value → Type 0
  AllStacked [] = Unit {0}
  AllStacked (a ∷ rest) = IsStacked depth scalars a × AllStacked rest

  -- the arguments' values come on top, one deeper than the other
  record ArgumentsLive (es : List Value) (xs : List ℕ) (t l : ℕ) : Type 0 where
    behind : List ℕ
    marks : List (List ℕ)
    many : length marks ≡ (arguments es).labels
    lives : (env : ℕ → List ℕ) → Marked depth scalars env l marks → Lives depth scalars env xs ((arguments es).ops t l) behind
    holds : AllHas behind (results_of es t)
    keeps : Within xs behind

  arguments_many : (es : List Value) → AllStacked es → (d : ℕ) → length ((arguments es).depths d) ≡ (arguments es).temps
  arguments_many [] h d = refl
  arguments_many (a ∷ rest) h d =
      sum_of ℕ (a.depths d) ((arguments rest).depths (d + 1)) a.temps (arguments rest).temps (h.0.many d) (arguments_many rest h.1 (d + 1))

  arguments_live : (es : List Value) → AllStacked es → (xs : List ℕ) (d t l : ℕ) → Below depth d xs → Deep depth scalars t ((arguments es).depths d) → ArgumentsLive es xs t l
  arguments_live [] h xs d t l b k = record { behind = xs; marks = []; many = refl; lives = λ env m. within_same xs; holds = tt; keeps = within_same xs }
  arguments_live (a ∷ rest) h xs d t l b k =
      let others = arguments rest in
      let x = h.0.each xs d t l b (deep_first depth scalars t (a.depths d) (others.depths (d + 1)) k) in
      let r = a.result t in
      let y = arguments_live rest h.1 (r ∷ xs) (d + 1) (t + a.temps) (l + a.labels) (stacked depth d r xs x.deep b)
      (deep_second depth scalars t a.temps (a.depths d) (others.depths (d + 1)) (h.0.many d) k) in
      record {
        behind = y.behind;
        marks = x.marks ++ y.marks;
        many = sum_of (List ℕ) x.marks y.marks a.labels others.labels x.many y.many;
        lives = λ env m.
            lives_then depth scalars env (a.ops t l) (others.ops (t + a.temps) (l + a.labels)) xs (r ∷ xs) y.behind
            (x.lives env (marked_first depth scalars env l x.marks y.marks m))
            (y.lives env (marked_second depth scalars env l a.labels x.marks y.marks x.many m));
        holds = (y.keeps r (inl refl), y.holds);
        keeps = within_then xs (r ∷ xs) y.behind (within_rest r xs) y.keeps;
      }

  module _ (env : ℕ → List ℕ) (xs : List ℕ) where
    stored_passes : (bytes i a : ℕ) → Has xs a → Passes depth scalars env xs (stored_at bytes i a) xs
    stored_passes bytes zero a h = (refl, inr h, within_same xs)
    stored_passes bytes (suc i) a h = (refl, inr h, within_same xs)

    stored_lives : (bytes i : ℕ) (rs : List ℕ) → AllHas xs rs → Lives depth scalars env xs (stored_from bytes i rs) xs
    stored_lives bytes i [] h = within_same xs
    stored_lives bytes i (r ∷ rs) h =
        first depth scalars env (stored_at bytes i r) (stored_from bytes (suc i) rs) xs xs xs (stored_passes bytes i r h.0) (stored_lives bytes (suc i) rs h.1)

  called_stacked : (bytes f : ℕ) (es : List Value) → AllStacked es → IsStacked depth scalars (called bytes f es)
  called_stacked bytes f es h = record {
    many = λ d. sum_of ℕ ((arguments es).depths d) (d ∷ []) (arguments es).temps 1 (arguments_many es h d) refl;
    each = λ xs d t l b k.
        let args = arguments es in
        let x = arguments_live es h xs d t (l + 1) b (deep_first depth scalars t (args.depths d) (d ∷ []) k) in
        let r = t + args.temps in
        let last = deep_second depth scalars t args.temps (args.depths d) (d ∷ []) (arguments_many es h d) k in
        let one : suc l ≡ l + 1 = omega arith in
        record {
          marks = xs ∷ x.marks;
          many = (let e = x.many in omega (arith, e));
          lives = λ env m.
              let rest = Close (Calls f) l ∷ read_result r ∷ [] in
              lives_then depth scalars env (args.ops t (l + 1)) (stored_from bytes 0 (results_of es t) ++ rest) xs x.behind (r ∷ xs)
              (x.lives env (marked_as depth scalars env (suc l) (l + 1) x.marks one m.1))
              (lives_then depth scalars env (stored_from bytes 0 (results_of es t)) rest x.behind x.behind (r ∷ xs) (stored_lives env x.behind bytes 0 (results_of es t) x.holds)
              (first depth scalars env (Close (Calls f) l) (read_result r ∷ []) x.behind xs (r ∷ xs) (sym m.0, apart_below depth d xs b, x.keeps)
              (only depth scalars env (read_result r) xs (r ∷ xs) (refl, comes_new depth scalars env r xs (fresh depth d r xs last.0 b)))));
          deep = last.0;
        };
  }

  getchar_stacked : (bytes : ℕ) (es : List Value) → IsStacked depth scalars (call_of bytes callee.Getchar es)
  getchar_stacked bytes es =
      leaf_stacked depth scalars (λ t. take_input ∷ read_result t ∷ [])
      (λ env xs d t b e.
      first depth scalars env take_input (read_result t ∷ []) xs xs (t ∷ xs) (refl, refl, within_same xs)
      (only depth scalars env (read_result t) xs (t ∷ xs) (refl, comes_new depth scalars env t xs (fresh depth d t xs e b))))

  putchar_stacked : (a : Value) (rest : List Value) → IsStacked depth scalars a → IsStacked depth scalars (put_character (a ∷ rest))
  putchar_stacked a rest p =
      then_on_stacked depth scalars a 1 (λ d. (d + 1) ∷ []) (λ v t. set_result v ∷ put_output ∷ constant t 255 ∷ Meet v t ∷ []) p (λ d. refl)
      (λ env xs d v t b e h.
      (let ys = v ∷ xs in
      first depth scalars env (set_result v) (put_output ∷ constant t 255 ∷ Meet v t ∷ []) ys ys ys (refl, inr (inl refl), within_same ys)
      (first depth scalars env put_output (constant t 255 ∷ Meet v t ∷ []) ys ys ys (refl, refl, within_same ys)
      (first depth scalars env (constant t 255) (Meet v t ∷ []) ys (t ∷ ys) ys (refl, comes_new depth scalars env t ys (fresh depth (d + 1) t ys h.0 (stacked depth d v xs e b)))
      (only depth scalars env (Meet v t) (t ∷ ys) ys (inr (inr (inl refl)), inr (inl refl), within_rest t ys))))))

  -- `putchar` has an argument
  abbrev pub IsGiven : Callee → List Value → Type 0
  IsGiven callee.Putchar [] = ⊥
  IsGiven c es = Unit {0}

  pub call_stacked : (bytes : ℕ) (c : Callee) (es : List Value) → IsGiven c es → AllStacked es → IsStacked depth scalars (call_of bytes c es)
  call_stacked bytes (callee.Defined f) es g h = called_stacked bytes f es h
  call_stacked bytes callee.Getchar es g h = getchar_stacked bytes es
  call_stacked bytes callee.Putchar [] g h = absurd g
  call_stacked bytes callee.Putchar (a ∷ rest) g h = putchar_stacked a rest h.0
