-- What is live in the code of steps, put together of others: nothing before and behind.
use Rattle.std.proofs.Common.{◌≡◌, inl, inr, ℕ, suc, ◌+◌, ◌*◌, ◌≤◌, Bool, true, false, List, [], ◌∷◌, ◌++◌, map, Option, Some, refl, sym, arith}
use Rattle.std.specs.Prelude.{length, nat_lt, if◌then◌else◌}
use Rattle.rtl_word.specs.declared.Rel.TheVariants.{Ne}
use Rattle.c_tree.specs.declared.types.CType.{CType}
use Rattle.c_tree.specs.declared.typed.Object.{Object}
use Rattle.c_limits.specs.Frames.{element_bytes}
use Rattle.naive_code.specs.Operations.{Stop, Falls, Branches, Op, Close, constant, add, read_stack}
use Rattle.naive_code.specs.Storage.{Symbol, Frame, Storage, Temporary, Word, Elements, Missing}
use Rattle.naive_code.specs.Expressions.{Value, Site, put_at}
use Rattle.naive_code.specs.Statements as steps
use Rattle.naive_code.specs.Statements.{Steps, Around, no_steps, shifted, joined, all_joined, dropped, used, enclosed}
use Rattle.naive_live.specs.Live.{AreApart, Lives}
use Rattle.naive_live.proofs.Lists.{within_same, within_rest, within_as, below_more, stacked, apart_below, fresh, at_get}
use Rattle.naive_live.proofs.Passing.{lives_then, narrower, first, only, comes_new}
use Rattle.naive_live.proofs.Values.{sum_of, Deep, Marked, IsStacked, marked_first, marked_second, deep_first, deep_second, label_as}
use Rattle.naive_live.proofs.Places.{put_at_lives}

two_three : 2 ≤ 3
two_three = omega arith

pub suc_one : (l : ℕ) → suc l ≡ l + 1
suc_one l = omega arith

pub suc_two : (l : ℕ) → suc (suc l) ≡ l + 2
suc_two l = omega arith

module _ (depth : ℕ → Option ℕ) (scalars : ℕ) where
  -- nothing is live where the blocks of cases begin
  abbrev pub CasesMarked : (ℕ → List ℕ) → ℕ → List (Option ℕ × ℕ) → Type 0
  CasesMarked env l [] = Unit {0}
  CasesMarked env l (c ∷ cs) = (env (l + c.1) ≡ []) × CasesMarked env l cs

  pub record StepsLive (p : Steps) (t l : ℕ) : Type 0 where
    pub marks : List (List ℕ)
    pub many : length marks ≡ p.labels
    pub lives : (env : ℕ → List ℕ) (a : Around) → Marked depth scalars env l marks → env a.breaks ≡ [] → env a.continues ≡ []
        → Lives depth scalars env [] (p.ops a t l) []
    pub cases : (env : ℕ → List ℕ) → Marked depth scalars env l marks → CasesMarked env l p.cases

  pub record AreStacked (p : Steps) : Type 0 where
    pub many : length p.depths ≡ p.temps
    pub each : (t l : ℕ) → Deep depth scalars t p.depths → StepsLive p t l

  pub nothing_apart : AreApart depth []
  nothing_apart = apart_below depth 0 [] tt

  -- ---- cases

  cases_append : (env : ℕ → List ℕ) (l : ℕ) (xs ys : List (Option ℕ × ℕ)) → CasesMarked env l xs → CasesMarked env l ys → CasesMarked env l (xs ++ ys)
  cases_append env l [] ys h k = k
  cases_append env l (x ∷ xs) ys h k = (h.0, cases_append env l xs ys h.1 k)

  pub cases_shifted : (env : ℕ → List ℕ) (l n : ℕ) (xs : List (Option ℕ × ℕ)) → CasesMarked env (l + n) xs → CasesMarked env l (map (shifted n) xs)
  cases_shifted env l n [] h = tt
  cases_shifted env l n (x ∷ xs) h =
      let q : l + n + x.1 ≡ l + (x.1 + n) = omega arith in
      (label_as depth scalars env (l + n + x.1) (l + (x.1 + n)) [] q h.0, cases_shifted env l n xs h.1)

  -- ---- one after the other

  pub no_stacked : AreStacked no_steps
  no_stacked = record { many = refl; each = λ t l h. record { marks = []; many = refl; lives = λ env a m b c. within_same []; cases = λ env m. tt } }

  pub joined_stacked : (p q : Steps) → AreStacked p → AreStacked q → AreStacked (joined p q)
  joined_stacked p q h k = record {
    many = sum_of ℕ p.depths q.depths p.temps q.temps h.many k.many;
    each = λ t l deep.
        let x = h.each t l (deep_first depth scalars t p.depths q.depths deep) in
        let y = k.each (t + p.temps) (l + p.labels) (deep_second depth scalars t p.temps p.depths q.depths h.many deep) in
        record {
          marks = x.marks ++ y.marks;
          many = sum_of (List ℕ) x.marks y.marks p.labels q.labels x.many y.many;
          lives = λ env a m b c.
              lives_then depth scalars env (p.ops a t l) (q.ops a (t + p.temps) (l + p.labels)) [] [] []
              (x.lives env a (marked_first depth scalars env l x.marks y.marks m) b c)
              (y.lives env a (marked_second depth scalars env l p.labels x.marks y.marks x.many m) b c);
          cases = λ env m.
              cases_append env l p.cases (map (shifted p.labels) q.cases) (x.cases env (marked_first depth scalars env l x.marks y.marks m))
              (cases_shifted env l p.labels q.cases (y.cases env (marked_second depth scalars env l p.labels x.marks y.marks x.many m)));
        };
  }

  pub enclosed_stacked : (p : Steps) → AreStacked p → AreStacked (enclosed p)
  enclosed_stacked p h = record {
    many = h.many;
    each = λ t l deep. (let x = h.each t l deep in record { marks = x.marks; many = x.many; lives = x.lives; cases = λ env m. tt });
  }

  pub dropped_stacked : (v : Value) → IsStacked depth scalars v → AreStacked (dropped v)
  dropped_stacked v h = record {
    many = h.many 0;
    each = λ t l deep.
        let x = h.each [] 0 t l tt deep in
        record {
          marks = x.marks;
          many = x.many;
          lives = λ env a m b c. narrower depth scalars env (v.ops t l) [] (v.result t ∷ []) [] (x.lives env m) (within_rest (v.result t) []);
          cases = λ env m. tt;
        };
  }

  pub used_stacked : (v : Value) (depths : List ℕ) (os : ℕ → ℕ → List Op) → IsStacked depth scalars v
      → ((env : ℕ → List ℕ) (r t : ℕ) → depth r ≡ Some 0 → Deep depth scalars t depths → Lives depth scalars env (r ∷ []) (os r t) []) → AreStacked (used v depths os)
  used_stacked v depths os h f = record {
    many = sum_of ℕ (v.depths 0) depths v.temps (length depths) (h.many 0) refl;
    each = λ t l deep.
        let x = h.each [] 0 t l tt (deep_first depth scalars t (v.depths 0) depths deep) in
        record {
          marks = x.marks;
          many = x.many;
          lives = λ env a m b c.
              lives_then depth scalars env (v.ops t l) (os (v.result t) (t + v.temps)) [] (v.result t ∷ []) [] (x.lives env m)
              (f env (v.result t) (t + v.temps) x.deep (deep_second depth scalars t v.temps (v.depths 0) depths (h.many 0) deep));
          cases = λ env m. tt;
        };
  }

  -- ---- elements of local arrays

  pub put_element_stacked : (w : ℕ) (s : Storage) (i : ℕ) (v : Value) → IsStacked depth scalars v → AreStacked (steps.put_element w s i v)
  put_element_stacked w (Elements (Frame offset) of) i v h =
      used_stacked v (1 ∷ 2 ∷ []) (λ r t. read_stack t ∷ constant (t + 1) (offset + i * element_bytes w of) ∷ add t (t + 1) ∷ put_at of t r) h
      (λ env r t e deep.
      (let us = r ∷ [] in let ws = t ∷ us in let u = t + 1 in
      let one = stacked depth 0 r [] e tt in
      let two = stacked depth 1 t us deep.0 one in
      let at_u = at_get ℕ (λ i d. depth i ≡ Some d) 1 (1 ∷ 2 ∷ []) t 2 refl deep in
      let n = offset + i * element_bytes w of in
      first depth scalars env (read_stack t) (constant u n ∷ add t u ∷ put_at of t r) us ws [] (refl, comes_new depth scalars env t us (fresh depth 1 t us deep.0 one))
      (first depth scalars env (constant u n) (add t u ∷ put_at of t r) ws (u ∷ ws) [] (refl, comes_new depth scalars env u ws (fresh depth 2 u ws at_u two))
      (first depth scalars env (add t u) (put_at of t r) (u ∷ ws) ws [] (inr (inr (inl refl)), inr (inl refl), within_rest u ws)
      (narrower depth scalars env (put_at of t r) ws ws [] (put_at_lives depth scalars env ws of t r (inl refl) (inr (inl refl))) (λ i k. absurd k))))))
  put_element_stacked w (Elements (Symbol y) of) i v h = no_stacked
  put_element_stacked w (Temporary k) i v h = no_stacked
  put_element_stacked w (Word y) i v h = no_stacked
  put_element_stacked w Missing i v h = no_stacked

  cleared_lives : (w offset : ℕ) (of : CType) (from to t l : ℕ) → Deep depth scalars t (0 ∷ 1 ∷ 2 ∷ 2 ∷ 3 ∷ 4 ∷ []) → StepsLive (steps.cleared w (Elements (Frame offset) of) from to) t l
  cleared_lives w offset of from to t l deep =
      let row = 0 ∷ 1 ∷ 2 ∷ 2 ∷ 3 ∷ 4 ∷ [] in
      let P : ℕ → ℕ → Type 0 = λ i d. depth i ≡ Some d in
      let e1 = at_get ℕ P 1 row t 1 refl deep in let e2 = at_get ℕ P 2 row t 2 refl deep in let e3 = at_get ℕ P 3 row t 2 refl deep in
      let e4 = at_get ℕ P 4 row t 3 refl deep in let e5 = at_get ℕ P 5 row t 4 refl deep in
      let xs = t ∷ [] in let ys = (t + 1) ∷ xs in let zs = (t + 4) ∷ ys in let us = (t + 5) ∷ zs in
      let bx = stacked depth 0 t [] deep.0 tt in let by = stacked depth 1 (t + 1) xs e1 bx in
      let by_more = below_more depth 2 3 ys two_three by in
      let bz = stacked depth 3 (t + 4) ys e4 by_more in
      let lone = fresh depth 4 (t + 5) zs e5 bz in
      let second_label = suc_one l in
      record {
        marks = us ∷ ([] ∷ []);
        many = refl;
        lives = λ env a m b c.
            let m1 = label_as depth scalars env (suc l) (l + 1) [] second_label m.1.0 in
            let low = offset + from * element_bytes w of in let high = offset + to * element_bytes w of in
            let last = Close (Branches Ne t (t + 1) l) (l + 1) in
            let turn = put_at of t (t + 4) ++ add t (t + 5) ∷ last ∷ [] in
            let o8 = Close Falls l ∷ turn in
            let o7 = constant (t + 5) (element_bytes w of) ∷ o8 in
            let o6 = constant (t + 4) 0 ∷ o7 in
            let o5 = add (t + 1) (t + 3) ∷ o6 in
            let o4 = constant (t + 3) high ∷ o5 in
            let o3 = add t (t + 2) ∷ o4 in
            let o2 = constant (t + 2) low ∷ o3 in
            let o1 = read_stack (t + 1) ∷ o2 in
            first depth scalars env (read_stack t) o1 [] xs [] (refl, comes_new depth scalars env t [] (fresh depth 0 t [] deep.0 tt))
            (first depth scalars env (read_stack (t + 1)) o2 xs ys [] (refl, comes_new depth scalars env (t + 1) xs (fresh depth 1 (t + 1) xs e1 bx))
            (first depth scalars env (constant (t + 2) low) o3 ys ((t + 2) ∷ ys) [] (refl, comes_new depth scalars env (t + 2) ys (fresh depth 2 (t + 2) ys e2 by))
            (first depth scalars env (add t (t + 2)) o4 ((t + 2) ∷ ys) ys [] (inr (inr (inr (inl refl))), inr (inl refl), within_rest (t + 2) ys)
            (first depth scalars env (constant (t + 3) high) o5 ys ((t + 3) ∷ ys) [] (refl, comes_new depth scalars env (t + 3) ys (fresh depth 2 (t + 3) ys e3 by))
            (first depth scalars env (add (t + 1) (t + 3)) o6 ((t + 3) ∷ ys) ys [] (inr (inr (inl refl)), inr (inl refl), within_rest (t + 3) ys)
            (first depth scalars env (constant (t + 4) 0) o7 ys zs [] (refl, comes_new depth scalars env (t + 4) ys (fresh depth 3 (t + 4) ys e4 by_more))
            (first depth scalars env (constant (t + 5) (element_bytes w of)) o8 zs us [] (refl, comes_new depth scalars env (t + 5) zs lone)
            (first depth scalars env (Close Falls l) turn us us [] (sym m.0, lone, within_same us)
            (lives_then depth scalars env (put_at of t (t + 4)) (add t (t + 5) ∷ last ∷ []) us us []
            (put_at_lives depth scalars env us of t (t + 4) (inr (inr (inr (inl refl)))) (inr (inl refl)))
            (first depth scalars env (add t (t + 5)) (last ∷ []) us us [] (inr (inr (inr (inr (inl refl)))), inr (inl refl), within_same us)
            (only depth scalars env last us []
            (sym m1, nothing_apart, (inr (inr (inr (inr (inl refl)))), inr (inr (inr (inl refl))), within_as (env l) us us m.0 (within_same us), λ i k. absurd k)))))))))))));
        cases = λ env m. tt;
      }

  pub cleared_stacked : (w : ℕ) (s : Storage) (from to : ℕ) → AreStacked (steps.cleared w s from to)
  cleared_stacked w (Elements (Frame offset) of) from to = record { many = refl; each = λ t l deep. cleared_lives w offset of from to t l deep }
  cleared_stacked w (Elements (Symbol y) of) from to = no_stacked
  cleared_stacked w (Temporary k) from to = no_stacked
  cleared_stacked w (Word y) from to = no_stacked
  cleared_stacked w Missing from to = no_stacked

  pub cleared_rest_stacked : (w : ℕ) (s : Storage) (listed size : ℕ) → AreStacked (steps.cleared_rest w s listed size)
  cleared_rest_stacked w s listed size = by_test (nat_lt listed size)
    where
      by_test : (b : Bool) → AreStacked (if b then steps.cleared w s listed size else no_steps)
      by_test true = cleared_stacked w s listed size
      by_test false = no_stacked

  -- ---- what ends a block

  pub leaving_stacked : (c : Site) (locals : List Object) (stop : Around → Stop)
      → ((env : ℕ → List ℕ) (a : Around) → env a.breaks ≡ [] → env a.continues ≡ [] → (l : ℕ) → env l ≡ [] → Lives depth scalars env [] (Close (stop a) l ∷ []) [])
      → AreStacked (steps.leaving c locals stop)
  leaving_stacked c locals stop f = record {
    many = refl;
    each = λ t l deep. record { marks = [] ∷ []; many = refl; lives = λ env a m b e. f env a b e l m.0; cases = λ env m. tt };
  }
