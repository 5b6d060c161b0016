-- What is live in the code of values and tests, put together of others.
use Rattle.std.proofs.Common.{◌≡◌, inl, inr, ℕ, suc, ◌+◌, ◌<◌, ◌≤◌, Bool, true, false, not, List, [], ◌∷◌, ◌++◌, Option, Some, refl, sym, ap, ◌∙◌, subst, arith}
use Rattle.std.specs.Prelude.{length}
use Rattle.std.proofs.lemmas.List.{length-append}
use Rattle.rtl_word.specs.declared.Rel.{Rel}
use Rattle.rtl_word.specs.declared.Rel.TheVariants.{Ne}
use Rattle.rtl_tree.specs.declared.expressions.BinOp.TheVariants as op
use Rattle.naive_code.specs.Operations.{Falls, Jumps, Branches, Op, Close, copy, constant, operate}
use Rattle.naive_code.specs.Expressions.{Value, Test, leaf, both, then_on, relation_if, test_of, compared, decided, in_turn, denied, tested_after, value_of, joined, negated, chosen}
use Rattle.naive_live.specs.Live.{Lives}
use Rattle.naive_live.proofs.Lists.{within_same, within_rest, within_as, Below, below_more, stacked, apart_below, fresh, At, at_as, at_first, at_second}
use Rattle.naive_live.proofs.Passing.{lives_then, lives_after, first, only, comes_new, comes_again, comes_under, comes_for, falls, branches}

pub sum_of : (A : Type 0) (xs ys : List A) (m n : ℕ) → length xs ≡ m → length ys ≡ n → length (xs ++ ys) ≡ m + n
sum_of A xs ys m n p q = let e = length-append xs ys in omega (arith, e, p, q)

module _ (depth : ℕ → Option ℕ) (scalars : ℕ) where
  -- temporaries from one on have these depths
  abbrev pub Deep : ℕ → List ℕ → Type 0
  Deep = At ℕ (λ i d. depth i ≡ Some d)

  -- where the blocks of labels from one on begin, these are live
  abbrev pub Marked : (ℕ → List ℕ) → ℕ → List (List ℕ) → Type 0
  Marked env = At (List ℕ) (λ l xs. env l ≡ xs)

  -- the result comes on top of what is live below it
  pub record ValueLives (v : Value) (xs : List ℕ) (d t l : ℕ) : Type 0 where
    pub marks : List (List ℕ)
    pub many : length marks ≡ v.labels
    pub lives : (env : ℕ → List ℕ) → Marked env l marks → Lives depth scalars env xs (v.ops t l) (v.result t ∷ xs)
    pub deep : depth (v.result t) ≡ Some d

  pub record IsStacked (v : Value) : Type 0 where
    pub many : (d : ℕ) → length (v.depths d) ≡ v.temps
    pub each : (xs : List ℕ) (d t l : ℕ) → Below depth d xs → Deep t (v.depths d) → ValueLives v xs d t l

  -- a test leaves what is live as it is
  pub record TestLives (x : Test) (xs : List ℕ) (t l : ℕ) : Type 0 where
    pub marks : List (List ℕ)
    pub many : length marks ≡ x.labels
    pub lives : (env : ℕ → List ℕ) (sense : Bool) (target next : ℕ) → Marked env l marks → env target ≡ xs → env next ≡ xs
        → Lives depth scalars env xs (x.ops sense target next t l) xs

  pub record IsStackedTest (x : Test) : Type 0 where
    pub many : (d : ℕ) → length (x.depths d) ≡ x.temps
    pub each : (xs : List ℕ) (d t l : ℕ) → Below depth d xs → Deep t (x.depths d) → TestLives x xs t l

  -- ---- rows of marks and depths

  pub marked_first : (env : ℕ → List ℕ) (l : ℕ) (xs ys : List (List ℕ)) → Marked env l (xs ++ ys) → Marked env l xs
  marked_first env l xs ys h = at_first (List ℕ) (λ l xs. env l ≡ xs) xs ys l h

  pub marked_second : (env : ℕ → List ℕ) (l m : ℕ) (xs ys : List (List ℕ)) → length xs ≡ m → Marked env l (xs ++ ys) → Marked env (l + m) ys
  marked_second env l m xs ys e h = at_second (List ℕ) (λ l xs. env l ≡ xs) xs ys l m e h

  pub marked_as : (env : ℕ → List ℕ) (l m : ℕ) (xs : List (List ℕ)) → l ≡ m → Marked env l xs → Marked env m xs
  marked_as env l m xs e h = at_as (List ℕ) (λ l xs. env l ≡ xs) l m xs e h

  pub deep_first : (t : ℕ) (xs ys : List ℕ) → Deep t (xs ++ ys) → Deep t xs
  deep_first t xs ys h = at_first ℕ (λ i d. depth i ≡ Some d) xs ys t h

  pub deep_second : (t m : ℕ) (xs ys : List ℕ) → length xs ≡ m → Deep t (xs ++ ys) → Deep (t + m) ys
  deep_second t m xs ys e h = at_second ℕ (λ i d. depth i ≡ Some d) xs ys t m e h

  pub deep_as : (t m : ℕ) (xs : List ℕ) → t ≡ m → Deep t xs → Deep m xs
  deep_as t m xs e h = at_as ℕ (λ i d. depth i ≡ Some d) t m xs e h

  pub label_as : (env : ℕ → List ℕ) (l m : ℕ) (xs : List ℕ) → l ≡ m → env l ≡ xs → env m ≡ xs
  label_as env l m xs e h = subst (λ (k : ℕ). env k ≡ xs) e h

  pub depth_as : (t d e : ℕ) → d ≡ e → depth t ≡ Some d → depth t ≡ Some e
  depth_as t d e q h = h ∙ ap (λ (k : ℕ). Some k) q

  -- ---- values

  pub leaf_stacked : (os : ℕ → List Op)
      → ((env : ℕ → List ℕ) (xs : List ℕ) (d t : ℕ) → Below depth d xs → depth t ≡ Some d → Lives depth scalars env xs (os t) (t ∷ xs))
      → IsStacked (leaf os)
  leaf_stacked os f = record {
    many = λ d. refl;
    each = λ xs d t l b h. record { marks = []; many = refl; lives = λ env m. f env xs d t b h.0; deep = h.0 };
  }

  pub then_on_stacked : (a : Value) (count : ℕ) (depths : ℕ → List ℕ) (os : ℕ → ℕ → List Op) → IsStacked a → ((d : ℕ) → length (depths d) ≡ count)
      → ((env : ℕ → List ℕ) (xs : List ℕ) (d v t : ℕ) → Below depth d xs → depth v ≡ Some d → Deep t (depths d) → Lives depth scalars env (v ∷ xs) (os v t) (v ∷ xs))
      → IsStacked (then_on a count depths os)
  then_on_stacked a count depths os p long f = record {
    many = λ d. sum_of ℕ (a.depths d) (depths d) a.temps count (p.many d) (long d);
    each = λ xs d t l b h.
        let x = p.each xs d t l b (deep_first t (a.depths d) (depths d) h) in record {
          marks = x.marks;
          many = x.many;
          lives = λ env m.
              lives_then depth scalars env (a.ops t l) (os (a.result t) (t + a.temps)) xs (a.result t ∷ xs) (a.result t ∷ xs) (x.lives env m)
              (f env xs d (a.result t) (t + a.temps) b x.deep (deep_second t a.temps (a.depths d) (depths d) (p.many d) h));
          deep = x.deep;
        };
  }

  -- two values, of which the second one stands deeper
  module _ (a b : Value) (p : IsStacked a) (q : IsStacked b) where
    pub joined_stacked : (os : ℕ → ℕ → List Op)
        → ((env : ℕ → List ℕ) (xs : List ℕ) (x y : ℕ) → Lives depth scalars env (y ∷ x ∷ xs) (os x y) (x ∷ xs)) → IsStacked (joined a b os)
    joined_stacked os f = record {
      many = λ d. sum_of ℕ (a.depths d) (b.depths (d + 1)) a.temps b.temps (p.many d) (q.many (d + 1));
      each = λ xs d t l below h.
          let x = p.each xs d t l below (deep_first t (a.depths d) (b.depths (d + 1)) h) in
          let ra = a.result t in let rb = b.result (t + a.temps) in
          let y = q.each (ra ∷ xs) (d + 1) (t + a.temps) (l + a.labels) (stacked depth d ra xs x.deep below) (deep_second t a.temps (a.depths d) (b.depths (d + 1)) (p.many d) h) in
          record {
            marks = x.marks ++ y.marks;
            many = sum_of (List ℕ) x.marks y.marks a.labels b.labels x.many y.many;
            lives = λ env m.
                lives_then depth scalars env (a.ops t l) (b.ops (t + a.temps) (l + a.labels) ++ os ra rb) xs (ra ∷ xs) (ra ∷ xs)
                (x.lives env (marked_first env l x.marks y.marks m))
                (lives_then depth scalars env (b.ops (t + a.temps) (l + a.labels)) (os ra rb) (ra ∷ xs) (rb ∷ ra ∷ xs) (ra ∷ xs)
                (y.lives env (marked_second env l a.labels x.marks y.marks x.many m)) (f env xs ra rb));
            deep = x.deep;
          };
    }

    pub compared_stacked : (r : Rel) → IsStackedTest (compared r a b)
    compared_stacked r = record {
      many = λ d. sum_of ℕ (a.depths d) (b.depths (d + 1)) a.temps b.temps (p.many d) (q.many (d + 1));
      each = λ xs d t l below h.
          let x = p.each xs d t l below (deep_first t (a.depths d) (b.depths (d + 1)) h) in
          let ra = a.result t in let rb = b.result (t + a.temps) in
          let y = q.each (ra ∷ xs) (d + 1) (t + a.temps) (l + a.labels) (stacked depth d ra xs x.deep below) (deep_second t a.temps (a.depths d) (b.depths (d + 1)) (p.many d) h) in
          record {
            marks = x.marks ++ y.marks;
            many = sum_of (List ℕ) x.marks y.marks a.labels b.labels x.many y.many;
            lives = λ env sense target next m e g.
                let end = Close (Branches (relation_if sense r) ra rb target) next ∷ [] in
                lives_then depth scalars env (a.ops t l) (b.ops (t + a.temps) (l + a.labels) ++ end) xs (ra ∷ xs) xs
                (x.lives env (marked_first env l x.marks y.marks m))
                (lives_then depth scalars env (b.ops (t + a.temps) (l + a.labels)) end (ra ∷ xs) (rb ∷ ra ∷ xs) xs
                (y.lives env (marked_second env l a.labels x.marks y.marks x.many m))
                (branches depth scalars env (relation_if sense r) ra rb target next (rb ∷ ra ∷ xs) xs e g (apart_below depth d xs below) (inr (inl refl)) (inl refl)
                (λ i k. inr (inr k))));
          };
    }

    -- one after the other, at the same depth
    pub comma_stacked : IsStacked (both a 0 b)
    comma_stacked = record {
      many = λ d. sum_of ℕ (a.depths d) (b.depths (d + 0)) a.temps b.temps (p.many d) (q.many (d + 0));
      each = λ xs d t l below h.
          let x = p.each xs d t l below (deep_first t (a.depths d) (b.depths (d + 0)) h) in
          let same : d + 0 ≡ d = omega arith in
          let low : d ≤ d + 0 = omega arith in
          let y = q.each xs (d + 0) (t + a.temps) (l + a.labels) (below_more depth d (d + 0) xs low below) (deep_second t a.temps (a.depths d) (b.depths (d + 0)) (p.many d) h) in
          record {
            marks = x.marks ++ y.marks;
            many = sum_of (List ℕ) x.marks y.marks a.labels b.labels x.many y.many;
            lives = λ env m.
                lives_after depth scalars env (a.ops t l) (b.ops (t + a.temps) (l + a.labels)) xs (a.result t ∷ xs) xs (b.result (t + a.temps) ∷ xs)
                (x.lives env (marked_first env l x.marks y.marks m)) (within_rest (a.result t) xs)
                (y.lives env (marked_second env l a.labels x.marks y.marks x.many m));
            deep = depth_as (b.result (t + a.temps)) (d + 0) d same y.deep;
          };
    }

  -- ---- tests

  pub test_of_stacked : (a : Value) → IsStacked a → IsStackedTest (test_of a)
  test_of_stacked a p = record {
    many = λ d. sum_of ℕ (a.depths d) ((d + 1) ∷ []) a.temps 1 (p.many d) refl;
    each = λ xs d t l below h.
        let x = p.each xs d t l below (deep_first t (a.depths d) ((d + 1) ∷ []) h) in
        let ra = a.result t in let z = t + a.temps in
        let deep = deep_second t a.temps (a.depths d) ((d + 1) ∷ []) (p.many d) h in
        record {
          marks = x.marks;
          many = x.many;
          lives = λ env sense target next m e g.
              let end = Close (Branches (relation_if sense Ne) ra z target) next ∷ [] in
              lives_then depth scalars env (a.ops t l) (constant z 0 ∷ end) xs (ra ∷ xs) xs (x.lives env m)
              (first depth scalars env (constant z 0) end (ra ∷ xs) (z ∷ ra ∷ xs) xs
              (refl, comes_new depth scalars env z (ra ∷ xs) (fresh depth (d + 1) z (ra ∷ xs) deep.0 (stacked depth d ra xs x.deep below)))
              (branches depth scalars env (relation_if sense Ne) ra z target next (z ∷ ra ∷ xs) xs e g (apart_below depth d xs below) (inr (inl refl)) (inl refl)
              (λ i k. inr (inr k))));
        };
  }

  pub denied_stacked : (a : Test) → IsStackedTest a → IsStackedTest (denied a)
  denied_stacked a p = record {
    many = p.many;
    each = λ xs d t l below h.
        let x = p.each xs d t l below h in
        record { marks = x.marks; many = x.many; lives = λ env sense target next m e g. x.lives env (not sense) target next m e g };
  }

  pub after_stacked : (a : Value) (b : Test) → IsStacked a → IsStackedTest b → IsStackedTest (tested_after a b)
  after_stacked a b p q = record {
    many = λ d. sum_of ℕ (a.depths d) (b.depths d) a.temps b.temps (p.many d) (q.many d);
    each = λ xs d t l below h.
        let x = p.each xs d t l below (deep_first t (a.depths d) (b.depths d) h) in
        let y = q.each xs d (t + a.temps) (l + a.labels) below (deep_second t a.temps (a.depths d) (b.depths d) (p.many d) h) in
        record {
          marks = x.marks ++ y.marks;
          many = sum_of (List ℕ) x.marks y.marks a.labels b.labels x.many y.many;
          lives = λ env sense target next m e g.
              lives_after depth scalars env (a.ops t l) (b.ops sense target next (t + a.temps) (l + a.labels)) xs (a.result t ∷ xs) xs xs
              (x.lives env (marked_first env l x.marks y.marks m)) (within_rest (a.result t) xs)
              (y.lives env sense target next (marked_second env l a.labels x.marks y.marks x.many m) e g);
        };
  }

  decided_mark : (env : ℕ → List ℕ) (xs : List ℕ) (and sense : Bool) (target next : ℕ) → env target ≡ xs → env next ≡ xs → env (decided and sense target next) ≡ xs
  decided_mark env xs true true target next e g = g
  decided_mark env xs true false target next e g = e
  decided_mark env xs false true target next e g = e
  decided_mark env xs false false target next e g = g

  pub in_turn_stacked : (and : Bool) (a b : Test) → IsStackedTest a → IsStackedTest b → IsStackedTest (in_turn and a b)
  in_turn_stacked and a b p q = record {
    many = λ d. sum_of ℕ (a.depths d) (b.depths d) a.temps b.temps (p.many d) (q.many d);
    each = λ xs d t l below h.
        let x = p.each xs d t (l + 1) below (deep_first t (a.depths d) (b.depths d) h) in
        let y = q.each xs d (t + a.temps) (l + 1 + a.labels) below (deep_second t a.temps (a.depths d) (b.depths d) (p.many d) h) in
        let long = sum_of (List ℕ) x.marks y.marks a.labels b.labels x.many y.many in
        let one : suc l ≡ l + 1 = omega arith in
        record {
          marks = xs ∷ (x.marks ++ y.marks);
          many = omega (arith, long);
          lives = λ env sense target next m e g.
              let n = marked_as env (suc l) (l + 1) (x.marks ++ y.marks) one m.1 in
              lives_then depth scalars env (a.ops (not and) (decided and sense target next) l t (l + 1)) (b.ops sense target next (t + a.temps) (l + 1 + a.labels)) xs xs xs
              (x.lives env (not and) (decided and sense target next) l (marked_first env (l + 1) x.marks y.marks n) (decided_mark env xs and sense target next e g) m.0)
              (y.lives env sense target next (marked_second env (l + 1) a.labels x.marks y.marks x.many n) e g);
        };
  }

  -- ---- values of tests

  pub value_of_stacked : (a : Test) → IsStackedTest a → IsStacked (value_of a)
  value_of_stacked a p = record {
    many = λ d. (let e = p.many (d + 1) in omega (arith, e));
    each = λ xs d t l below h.
        let ys = t ∷ xs in
        let one : suc t ≡ t + 1 = omega arith in
        let first_label : suc l ≡ l + 1 = omega arith in let second_label : suc (suc l) ≡ l + 2 = omega arith in
        let x = p.each ys (d + 1) (t + 1) (l + 2) (stacked depth d t xs h.0 below) (deep_as (suc t) (t + 1) (a.depths (d + 1)) one h.1) in
        let lone = fresh depth d t xs h.0 below in
        record {
          marks = ys ∷ (ys ∷ x.marks);
          many = (let e = x.many in omega (arith, e));
          lives = λ env m.
              let rest = constant t 1 ∷ Close Falls l ∷ [] in
              first depth scalars env (constant t 0) (a.ops false l (l + 1) (t + 1) (l + 2) ++ rest) xs ys ys (refl, comes_new depth scalars env t xs lone)
              (lives_then depth scalars env (a.ops false l (l + 1) (t + 1) (l + 2)) rest ys ys ys
              (x.lives env false l (l + 1) (marked_as env (suc (suc l)) (l + 2) x.marks second_label m.1.1) m.0 (label_as env (suc l) (l + 1) ys first_label m.1.0))
              (first depth scalars env (constant t 1) (Close Falls l ∷ []) ys ys ys (refl, comes_again depth scalars env t ys (inl refl) lone)
              (falls depth scalars env l ys ys m.0 lone (within_same ys))));
          deep = h.0;
        };
  }

  pub negated_stacked : (a : Value) → IsStacked a → IsStacked (negated a)
  negated_stacked a p = record {
    many = λ d. sum_of ℕ (a.depths (d + 1)) (d ∷ []) a.temps 1 (p.many (d + 1)) refl;
    each = λ xs d t l below h.
        let low : d ≤ d + 1 = omega arith in let lt : d < d + 1 = omega arith in
        let x = p.each xs (d + 1) t l (below_more depth d (d + 1) xs low below) (deep_first t (a.depths (d + 1)) (d ∷ []) h) in
        let ra = a.result t in let z = t + a.temps in
        let deep = deep_second t a.temps (a.depths (d + 1)) (d ∷ []) (p.many (d + 1)) h in
        record {
          marks = x.marks;
          many = x.many;
          lives = λ env m.
              let last = operate op.Sub z ra in
              lives_then depth scalars env (a.ops t l) (constant z 0 ∷ last ∷ []) xs (ra ∷ xs) (z ∷ xs) (x.lives env m)
              (first depth scalars env (constant z 0) (last ∷ []) (ra ∷ xs) (ra ∷ z ∷ xs) (z ∷ xs)
              (refl, comes_under depth scalars env z ra xs (fresh depth (d + 1) ra (z ∷ xs) x.deep (stacked depth d z xs deep.0 below)))
              (only depth scalars env last (ra ∷ z ∷ xs) (z ∷ xs) (inr (inr (inl refl)), inr (inl refl), within_rest ra (z ∷ xs))));
          deep = deep.0;
        };
  }

  -- ---- `?:`

  module _ (a : Test) (b c : Value) (p : IsStackedTest a) (q : IsStacked b) (r : IsStacked c) where
    pub chosen_stacked : IsStacked (chosen a b c)
    chosen_stacked = record {
      many = λ d.
          (let e = sum_of ℕ (a.depths (d + 1)) (b.depths (d + 1) ++ c.depths (d + 1)) a.temps (b.temps + c.temps) (p.many (d + 1))
          (sum_of ℕ (b.depths (d + 1)) (c.depths (d + 1)) b.temps c.temps (q.many (d + 1)) (r.many (d + 1))) in omega (arith, e));
      each = λ xs d t l below h.
          let ys = t ∷ xs in
          let low : d ≤ d + 1 = omega arith in
          let deeper = below_more depth d (d + 1) xs low below in
          let one : suc t ≡ t + 1 = omega arith in
          let rest = b.depths (d + 1) ++ c.depths (d + 1) in
          let t1 = t + 1 + a.temps in let t2 = t1 + b.temps in let l1 = l + 3 + a.labels in
          let deep = deep_as (suc t) (t + 1) (a.depths (d + 1) ++ rest) one h.1 in
          let deep_b = deep_second (t + 1) a.temps (a.depths (d + 1)) rest (p.many (d + 1)) deep in
          let x = p.each xs (d + 1) (t + 1) (l + 3) deeper (deep_first (t + 1) (a.depths (d + 1)) rest deep) in
          let y = q.each xs (d + 1) t1 l1 deeper (deep_first t1 (b.depths (d + 1)) (c.depths (d + 1)) deep_b) in
          let z = r.each xs (d + 1) t2 (l1 + b.labels) deeper (deep_second t1 b.temps (b.depths (d + 1)) (c.depths (d + 1)) (q.many (d + 1)) deep_b) in
          let rb = b.result t1 in let rc = c.result t2 in
          let lone = fresh depth d t xs h.0 below in
          let second_label : suc l ≡ l + 1 = omega arith in let third_label : suc (suc l) ≡ l + 2 = omega arith in let others : suc (suc (suc l)) ≡ l + 3 = omega arith in
          let long = sum_of (List ℕ) x.marks (y.marks ++ z.marks) a.labels (b.labels + c.labels) x.many (sum_of (List ℕ) y.marks z.marks b.labels c.labels y.many z.many) in
          record {
            marks = xs ∷ (xs ∷ (ys ∷ (x.marks ++ (y.marks ++ z.marks))));
            many = omega (arith, long);
            lives = λ env m.
                let m1 = label_as env (suc l) (l + 1) xs second_label m.1.0 in let m2 = label_as env (suc (suc l)) (l + 2) ys third_label m.1.1.0 in
                let n = marked_as env (suc (suc (suc l))) (l + 3) (x.marks ++ (y.marks ++ z.marks)) others m.1.1.1 in
                let n1 = marked_second env (l + 3) a.labels x.marks (y.marks ++ z.marks) x.many n in
                let last = copy t rc ∷ Close Falls (l + 2) ∷ [] in
                let third = c.ops t2 (l1 + b.labels) ++ last in
                let second = copy t rb ∷ Close (Jumps (l + 2)) l ∷ third in
                lives_then depth scalars env (a.ops false l (l + 1) (t + 1) (l + 3)) (b.ops t1 l1 ++ second) xs xs ys
                (x.lives env false l (l + 1) (marked_first env (l + 3) x.marks (y.marks ++ z.marks) n) m.0 m1)
                (lives_then depth scalars env (b.ops t1 l1) second xs (rb ∷ xs) ys (y.lives env (marked_first env l1 y.marks z.marks n1))
                (first depth scalars env (copy t rb) (Close (Jumps (l + 2)) l ∷ third) (rb ∷ xs) ys ys (inr (inl refl), comes_for depth scalars env t rb xs lone)
                (first depth scalars env (Close (Jumps (l + 2)) l) third ys xs ys (sym m.0, apart_below depth d xs below, within_as (env (l + 2)) ys ys m2 (within_same ys))
                (lives_then depth scalars env (c.ops t2 (l1 + b.labels)) last xs (rc ∷ xs) ys (z.lives env (marked_second env l1 b.labels y.marks z.marks y.many n1))
                (first depth scalars env (copy t rc) (Close Falls (l + 2) ∷ []) (rc ∷ xs) ys ys (inr (inl refl), comes_for depth scalars env t rc xs lone)
                (falls depth scalars env (l + 2) ys ys m2 lone (within_same ys)))))));
            deep = h.0;
          };
    }
