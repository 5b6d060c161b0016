-- What is live in the code of choices, loops and `switch`.
use Rattle.std.proofs.Common.{◌≡◌, inl, inr, ℕ, zero, suc, ◌+◌, true, false, List, [], ◌∷◌, ◌++◌, Option, Some, None, refl, sym, ap, arith}
use Rattle.std.specs.Prelude.{length, replicate}
use Rattle.rtl_word.specs.declared.Rel.TheVariants.{Eq}
use Rattle.c_tree.specs.declared.typed.Object.{Object}
use Rattle.naive_code.specs.Operations.{Falls, Jumps, Branches, Op, Close, constant}
use Rattle.naive_code.specs.Expressions.{Value, Test, Site}
use Rattle.naive_code.specs.Statements as steps
use Rattle.naive_code.specs.Statements.{Steps, Around, shifted}
use Rattle.naive_live.specs.Live.{Within, Lives}
use Rattle.naive_live.proofs.Lists.{within_same, within_rest, within_as, stacked, apart_below, fresh}
use Rattle.naive_live.proofs.Passing.{lives_then, first, comes_new}
use Rattle.naive_live.proofs.Values.{sum_of, Deep, Marked, IsStacked, IsStackedTest, marked_first, marked_second, marked_as, deep_first, deep_second, deep_as, label_as}
use Rattle.naive_live.proofs.Steps.{suc_two, CasesMarked, AreStacked, nothing_apart, cases_shifted}

module _ (depth : ℕ → Option ℕ) (scalars : ℕ) (c : Site) (locals : List Object) where
  abbrev Marks : (ℕ → List ℕ) → ℕ → List (List ℕ) → Type 0
  Marks env = Marked depth scalars env

  module _ (env : ℕ → List ℕ) where
    abbrev L : List Op → Type 0
    L os = Lives depth scalars env [] os []

    nothing_in : (l : ℕ) (xs : List ℕ) → env l ≡ [] → Within (env l) xs
    nothing_in l xs e = within_as (env l) [] xs e (λ i k. absurd k)

    fall_into : (l : ℕ) (rest : List Op) → env l ≡ [] → L rest → L (Close Falls l ∷ rest)
    fall_into l rest e k = first depth scalars env (Close Falls l) rest [] [] [] (sym e, nothing_apart depth scalars, within_same []) k

    jump_to : (j l : ℕ) (rest : List Op) → env j ≡ [] → env l ≡ [] → L rest → L (Close (Jumps j) l ∷ rest)
    jump_to j l rest g e k = first depth scalars env (Close (Jumps j) l) rest [] [] [] (sym e, nothing_apart depth scalars, nothing_in j [] g) k

    then_on : (os ps : List Op) → L os → L ps → L (os ++ ps)
    then_on os ps h k = lives_then depth scalars env os ps [] [] [] h k

    no_more : L []
    no_more = within_same []

    -- the next labels
    one_on : (l : ℕ) → env (suc l) ≡ [] → env (l + 1) ≡ []
    one_on l e = label_as depth scalars env (suc l) (l + 1) [] (omega arith) e

    two_on : (l : ℕ) → env (suc (suc l)) ≡ [] → env (l + 2) ≡ []
    two_on l e = label_as depth scalars env (suc (suc l)) (l + 2) [] (omega arith) e

    three_on : (l : ℕ) → env (suc (suc (suc l))) ≡ [] → env (l + 3) ≡ []
    three_on l e = label_as depth scalars env (suc (suc (suc l))) (l + 3) [] (omega arith) e

  -- ---- choices

  pub if_stacked : (e : Test) (p : Steps) → IsStackedTest depth scalars e → AreStacked depth scalars p → AreStacked depth scalars (steps.if_steps c locals e p None)
  if_stacked e p h k = record {
    many = sum_of ℕ (e.depths 0) p.depths e.temps p.temps (h.many 0) k.many;
    each = λ t l deep.
        let x = h.each [] 0 t (l + 2) tt (deep_first depth scalars t (e.depths 0) p.depths deep) in
        let y = k.each (t + e.temps) (l + 2 + e.labels) (deep_second depth scalars t e.temps (e.depths 0) p.depths (h.many 0) deep) in
        let long = sum_of (List ℕ) x.marks y.marks e.labels p.labels x.many y.many in
        let others : suc (suc l) ≡ l + 2 = omega arith in
        record {
          marks = [] ∷ ([] ∷ (x.marks ++ y.marks));
          many = omega (arith, long);
          lives = λ env a m b o.
              let n = marked_as depth scalars env (suc (suc l)) (l + 2) (x.marks ++ y.marks) others m.1.1 in
              then_on env (e.ops false l (l + 1) t (l + 2)) (p.ops a (t + e.temps) (l + 2 + e.labels) ++ Close Falls l ∷ [])
              (x.lives env false l (l + 1) (marked_first depth scalars env (l + 2) x.marks y.marks n) m.0 (one_on env l m.1.0))
              (then_on env (p.ops a (t + e.temps) (l + 2 + e.labels)) (Close Falls l ∷ []) (y.lives env a (marked_second depth scalars env (l + 2) e.labels x.marks y.marks x.many n) b o)
              (fall_into env l [] m.0 (no_more env)));
          cases = λ env m. tt;
        };
  }

  pub if_else_stacked : (e : Test) (p q : Steps) → IsStackedTest depth scalars e → AreStacked depth scalars p → AreStacked depth scalars q
      → AreStacked depth scalars (steps.if_steps c locals e p (Some q))
  if_else_stacked e p q h k r = record {
    many =
        (let s = sum_of ℕ (e.depths 0) (p.depths ++ q.depths) e.temps (p.temps + q.temps) (h.many 0) (sum_of ℕ p.depths q.depths p.temps q.temps k.many r.many) in omega (arith, s));
    each = λ t l deep.
        let rest = deep_second depth scalars t e.temps (e.depths 0) (p.depths ++ q.depths) (h.many 0) deep in
        let x = h.each [] 0 t (l + 3) tt (deep_first depth scalars t (e.depths 0) (p.depths ++ q.depths) deep) in
        let t1 = t + e.temps in let l1 = l + 3 + e.labels in
        let y = k.each t1 l1 (deep_first depth scalars t1 p.depths q.depths rest) in
        let z = r.each (t1 + p.temps) (l1 + p.labels) (deep_second depth scalars t1 p.temps p.depths q.depths k.many rest) in
        let long = sum_of (List ℕ) x.marks (y.marks ++ z.marks) e.labels (p.labels + q.labels) x.many (sum_of (List ℕ) y.marks z.marks p.labels q.labels y.many z.many) in
        let others : suc (suc (suc l)) ≡ l + 3 = omega arith in
        record {
          marks = [] ∷ ([] ∷ ([] ∷ (x.marks ++ (y.marks ++ z.marks))));
          many = omega (arith, long);
          lives = λ env a m b o.
              let n = marked_as depth scalars env (suc (suc (suc l))) (l + 3) (x.marks ++ (y.marks ++ z.marks)) others m.1.1.1 in
              let n1 = marked_second depth scalars env (l + 3) e.labels x.marks (y.marks ++ z.marks) x.many n in
              let last = q.ops a (t1 + p.temps) (l1 + p.labels) ++ Close Falls (l + 2) ∷ [] in
              let m2 = two_on env l m.1.1.0 in
              then_on env (e.ops false l (l + 1) t (l + 3)) (p.ops a t1 l1 ++ Close (Jumps (l + 2)) l ∷ last)
              (x.lives env false l (l + 1) (marked_first depth scalars env (l + 3) x.marks (y.marks ++ z.marks) n) m.0 (one_on env l m.1.0))
              (then_on env (p.ops a t1 l1) (Close (Jumps (l + 2)) l ∷ last) (y.lives env a (marked_first depth scalars env l1 y.marks z.marks n1) b o)
              (jump_to env (l + 2) l last m2 m.0
              (then_on env (q.ops a (t1 + p.temps) (l1 + p.labels)) (Close Falls (l + 2) ∷ []) (z.lives env a (marked_second depth scalars env l1 p.labels y.marks z.marks y.many n1) b o)
              (fall_into env (l + 2) [] m2 (no_more env)))));
          cases = λ env m. tt;
        };
  }

  -- ---- loops

  pub while_stacked : (e : Test) (p : Steps) → IsStackedTest depth scalars e → AreStacked depth scalars p → AreStacked depth scalars (steps.while_steps c locals e p)
  while_stacked e p h k = record {
    many = sum_of ℕ (e.depths 0) p.depths e.temps p.temps (h.many 0) k.many;
    each = λ t l deep.
        let x = h.each [] 0 t (l + 3) tt (deep_first depth scalars t (e.depths 0) p.depths deep) in
        let y = k.each (t + e.temps) (l + 3 + e.labels) (deep_second depth scalars t e.temps (e.depths 0) p.depths (h.many 0) deep) in
        let long = sum_of (List ℕ) x.marks y.marks e.labels p.labels x.many y.many in
        let others : suc (suc (suc l)) ≡ l + 3 = omega arith in
        record {
          marks = [] ∷ ([] ∷ ([] ∷ (x.marks ++ y.marks)));
          many = omega (arith, long);
          lives = λ env a m b o.
              let n = marked_as depth scalars env (suc (suc (suc l))) (l + 3) (x.marks ++ y.marks) others m.1.1.1 in
              let m1 = one_on env l m.1.0 in
              let inside : Around = record { breaks = l; continues = l + 1 } in
              let last = Close (Jumps (l + 1)) l ∷ [] in
              let body = p.ops inside (t + e.temps) (l + 3 + e.labels) in
              fall_into env (l + 1) (e.ops false l (l + 2) t (l + 3) ++ (body ++ last)) m1
              (then_on env (e.ops false l (l + 2) t (l + 3)) (body ++ last)
              (x.lives env false l (l + 2) (marked_first depth scalars env (l + 3) x.marks y.marks n) m.0 (two_on env l m.1.1.0))
              (then_on env body last (y.lives env inside (marked_second depth scalars env (l + 3) e.labels x.marks y.marks x.many n) m.0 m1)
              (jump_to env (l + 1) l [] m1 m.0 (no_more env))));
          cases = λ env m. tt;
        };
  }

  pub do_stacked : (p : Steps) (e : Test) → AreStacked depth scalars p → IsStackedTest depth scalars e → AreStacked depth scalars (steps.do_steps c locals p e)
  do_stacked p e k h = record {
    many = sum_of ℕ p.depths (e.depths 0) p.temps e.temps k.many (h.many 0);
    each = λ t l deep.
        let y = k.each t (l + 3) (deep_first depth scalars t p.depths (e.depths 0) deep) in
        let x = h.each [] 0 (t + p.temps) (l + 3 + p.labels) tt (deep_second depth scalars t p.temps p.depths (e.depths 0) k.many deep) in
        let long = sum_of (List ℕ) y.marks x.marks p.labels e.labels y.many x.many in
        let others : suc (suc (suc l)) ≡ l + 3 = omega arith in
        record {
          marks = [] ∷ ([] ∷ ([] ∷ (y.marks ++ x.marks)));
          many = omega (arith, long);
          lives = λ env a m b o.
              let n = marked_as depth scalars env (suc (suc (suc l))) (l + 3) (y.marks ++ x.marks) others m.1.1.1 in
              let m1 = one_on env l m.1.0 in let m2 = two_on env l m.1.1.0 in
              let inside : Around = record { breaks = l; continues = l + 2 } in
              let last = e.ops true (l + 1) l (t + p.temps) (l + 3 + p.labels) in
              let body = p.ops inside t (l + 3) in
              fall_into env (l + 1) (body ++ Close Falls (l + 2) ∷ last) m1
              (then_on env body (Close Falls (l + 2) ∷ last) (y.lives env inside (marked_first depth scalars env (l + 3) y.marks x.marks n) m.0 m2)
              (fall_into env (l + 2) last m2
              (x.lives env true (l + 1) l (marked_second depth scalars env (l + 3) p.labels y.marks x.marks y.many n) m1 m.0)));
          cases = λ env m. tt;
        };
  }

  module _ (first : Steps) (e : Test) (step p : Steps) (f : AreStacked depth scalars first) (h : IsStackedTest depth scalars e)
      (s : AreStacked depth scalars step) (k : AreStacked depth scalars p) where
    pub for_stacked : AreStacked depth scalars (steps.for_steps c locals first e step p)
    for_stacked = record {
      many =
          (let s1 = sum_of ℕ p.depths step.depths p.temps step.temps k.many s.many in
          let s2 = sum_of ℕ (e.depths 0) (p.depths ++ step.depths) e.temps (p.temps + step.temps) (h.many 0) s1 in
          let s3 = sum_of ℕ first.depths (e.depths 0 ++ (p.depths ++ step.depths)) first.temps (e.temps + (p.temps + step.temps)) f.many s2 in omega (arith, s3));
      each = λ t l deep.
          let d2 = p.depths ++ step.depths in let d1 = e.depths 0 ++ d2 in
          let t1 = t + first.temps in let t2 = t1 + e.temps in let t3 = t2 + p.temps in
          let l1 = l + 4 + first.labels in let l2 = l1 + e.labels in let l3 = l2 + p.labels in
          let g1 = deep_second depth scalars t first.temps first.depths d1 f.many deep in
          let g2 = deep_second depth scalars t1 e.temps (e.depths 0) d2 (h.many 0) g1 in
          let w = f.each t (l + 4) (deep_first depth scalars t first.depths d1 deep) in
          let x = h.each [] 0 t1 l1 tt (deep_first depth scalars t1 (e.depths 0) d2 g1) in
          let y = k.each t2 l2 (deep_first depth scalars t2 p.depths step.depths g2) in
          let z = s.each t3 l3 (deep_second depth scalars t2 p.temps p.depths step.depths k.many g2) in
          let n3 = y.marks ++ z.marks in let n2 = x.marks ++ n3 in
          let s1 = sum_of (List ℕ) y.marks z.marks p.labels step.labels y.many z.many in
          let s2 = sum_of (List ℕ) x.marks n3 e.labels (p.labels + step.labels) x.many s1 in
          let s3 = sum_of (List ℕ) w.marks n2 first.labels (e.labels + (p.labels + step.labels)) w.many s2 in
          let others : suc (suc (suc (suc l))) ≡ l + 4 = omega arith in
          record {
            marks = [] ∷ ([] ∷ ([] ∷ ([] ∷ (w.marks ++ n2))));
            many = omega (arith, s3);
            lives = λ env a m b o.
                let n = marked_as depth scalars env (suc (suc (suc (suc l)))) (l + 4) (w.marks ++ n2) others m.1.1.1.1 in
                let q1 = marked_second depth scalars env (l + 4) first.labels w.marks n2 w.many n in
                let q2 = marked_second depth scalars env l1 e.labels x.marks n3 x.many q1 in
                let m1 = one_on env l m.1.0 in let m2 = two_on env l m.1.1.0 in let m3 = three_on env l m.1.1.1.0 in
                let inside : Around = record { breaks = l; continues = l + 3 } in
                let last = Close (Jumps (l + 1)) l ∷ [] in
                let stepping = Close Falls (l + 3) ∷ (step.ops a t3 l3 ++ last) in
                let turn = e.ops false l (l + 2) t1 l1 ++ (p.ops inside t2 l2 ++ stepping) in
                then_on env (first.ops a t (l + 4)) (Close Falls (l + 1) ∷ turn) (w.lives env a (marked_first depth scalars env (l + 4) w.marks n2 n) b o)
                (fall_into env (l + 1) turn m1
                (then_on env (e.ops false l (l + 2) t1 l1) (p.ops inside t2 l2 ++ stepping) (x.lives env false l (l + 2) (marked_first depth scalars env l1 x.marks n3 q1) m.0 m2)
                (then_on env (p.ops inside t2 l2) stepping (y.lives env inside (marked_first depth scalars env l2 y.marks z.marks q2) m.0 m3)
                (fall_into env (l + 3) (step.ops a t3 l3 ++ last) m3
                (then_on env (step.ops a t3 l3) last (z.lives env a (marked_second depth scalars env l2 p.labels y.marks z.marks y.many q2) b o)
                (jump_to env (l + 1) l [] m1 m.0 (no_more env)))))));
            cases = λ env m. tt;
          };
    }

  -- ---- `switch`

  replicate_many : (A : Type 0) (n : ℕ) (x : A) → length (replicate n x) ≡ n
  replicate_many A zero x = refl
  replicate_many A (suc n) x = ap suc (replicate_many A n x)

  abbrev valued : List (Option ℕ × ℕ) → ℕ
  valued = steps.valued c locals

  -- the value is compared with that of each case, and stays live until the last one
  dispatched_live : (env : ℕ → List ℕ) (r base t l : ℕ) (cs : List (Option ℕ × ℕ)) → depth r ≡ Some 0 → CasesMarked depth scalars env base cs
      → Marks env l (replicate (valued cs) (r ∷ [])) → Deep depth scalars t (replicate (valued cs) 1)
      → Lives depth scalars env (r ∷ []) (steps.dispatched c locals r base t l cs) (r ∷ [])
  dispatched_live env r base t l [] e g m d = within_same (r ∷ [])
  dispatched_live env r base t l ((None, k) ∷ cs) e g m d = dispatched_live env r base t l cs e g.1 m d
  dispatched_live env r base t l ((Some v, k) ∷ cs) e g m d =
      let us = r ∷ [] in let ws = t ∷ us in
      let more = steps.dispatched c locals r base (t + 1) (l + 1) cs in
      let one = stacked depth 0 r [] e tt in
      let next_temp : suc t ≡ t + 1 = omega arith in let next_label : suc l ≡ l + 1 = omega arith in
      first depth scalars env (constant t v) (Close (Branches Eq r t (base + k)) l ∷ more) us ws us (refl, comes_new depth scalars env t us (fresh depth 1 t us d.0 one))
      (first depth scalars env (Close (Branches Eq r t (base + k)) l) more ws us us
      (sym m.0, apart_below depth 1 us one, (inr (inr (inl refl)), inr (inl refl), nothing_in env (base + k) ws g.0, within_rest t us))
      (dispatched_live env r base (t + 1) (l + 1) cs e g.1 (marked_as depth scalars env (suc l) (l + 1) (replicate (valued cs) us) next_label m.1)
      (deep_as depth scalars (suc t) (t + 1) (replicate (valued cs) 1) next_temp d.1)))

  otherwise_mark : (env : ℕ → List ℕ) (base behind : ℕ) (cs : List (Option ℕ × ℕ)) → env behind ≡ [] → CasesMarked depth scalars env base cs
      → env (steps.otherwise c locals base behind cs) ≡ []
  otherwise_mark env base behind [] e g = e
  otherwise_mark env base behind ((Some v, k) ∷ cs) e g = otherwise_mark env base behind cs e g.1
  otherwise_mark env base behind ((None, k) ∷ cs) e g = g.0

  pub switch_stacked : (e : Value) (p : Steps) → IsStacked depth scalars e → AreStacked depth scalars p → AreStacked depth scalars (steps.switch_steps c locals e p)
  switch_stacked e p h k = record {
    many =
        (let n = valued p.cases in
        let s = sum_of ℕ (e.depths 0) (replicate n 1 ++ p.depths) e.temps (n + p.temps) (h.many 0) (sum_of ℕ (replicate n 1) p.depths n p.temps (replicate_many ℕ n 1) k.many) in
        omega (arith, s));
    each = λ t l deep.
        let n = valued p.cases in let ones = replicate n 1 in
        let base = l + 2 + n + e.labels in
        let r = e.result t in let us = r ∷ [] in
        let g1 = deep_second depth scalars t e.temps (e.depths 0) (ones ++ p.depths) (h.many 0) deep in
        let g2 = deep_second depth scalars (t + e.temps) n ones p.depths (replicate_many ℕ n 1) g1 in
        let x = h.each [] 0 t (l + 2 + n) tt (deep_first depth scalars t (e.depths 0) (ones ++ p.depths) deep) in
        let y = k.each (t + e.temps + n) base g2 in
        let rows = replicate n us in
        let long = sum_of (List ℕ) rows (x.marks ++ y.marks) n (e.labels + p.labels) (replicate_many (List ℕ) n us) (sum_of (List ℕ) x.marks y.marks e.labels p.labels x.many y.many) in
        let others = suc_two l in
        record {
          marks = [] ∷ ([] ∷ (rows ++ (x.marks ++ y.marks)));
          many = omega (arith, long);
          lives = λ env a m b o.
              let q = marked_as depth scalars env (suc (suc l)) (l + 2) (rows ++ (x.marks ++ y.marks)) others m.1.1 in
              let q1 = marked_second depth scalars env (l + 2) n rows (x.marks ++ y.marks) (replicate_many (List ℕ) n us) q in
              let q2 = marked_second depth scalars env (l + 2 + n) e.labels x.marks y.marks x.many q1 in
              let m1 = one_on env l m.1.0 in
              let inside : Around = record { breaks = l; continues = a.continues } in
              let cases = y.cases env q2 in
              let j = steps.otherwise c locals base l p.cases in
              let last = p.ops inside (t + e.temps + n) base ++ Close Falls l ∷ [] in
              let compares = steps.dispatched c locals r base (t + e.temps) (l + 2) p.cases in
              lives_then depth scalars env (e.ops t (l + 2 + n)) (compares ++ Close (Jumps j) (l + 1) ∷ last) [] us []
              (x.lives env (marked_first depth scalars env (l + 2 + n) x.marks y.marks q1))
              (lives_then depth scalars env compares (Close (Jumps j) (l + 1) ∷ last) us us []
              (dispatched_live env r base (t + e.temps) (l + 2) p.cases x.deep cases (marked_first depth scalars env (l + 2) rows (x.marks ++ y.marks) q)
              (deep_first depth scalars (t + e.temps) ones p.depths g1))
              (first depth scalars env (Close (Jumps j) (l + 1)) last us [] [] (sym m1, nothing_apart depth scalars, nothing_in env j us (otherwise_mark env base l p.cases m.0 cases))
              (then_on env (p.ops inside (t + e.temps + n) base) (Close Falls l ∷ []) (y.lives env inside q2 m.0 o) (fall_into env l [] m.0 (no_more env)))));
          cases = λ env m. tt;
        };
  }

  pub labelled_stacked : (v : Option ℕ) (p : Steps) → AreStacked depth scalars p → AreStacked depth scalars (steps.labelled c locals v p)
  labelled_stacked v p h = record {
    many = h.many;
    each = λ t l deep.
        let x = h.each t (l + 1) deep in
        let one : suc l ≡ l + 1 = omega arith in let same : l ≡ l + 0 = omega arith in
        record {
          marks = [] ∷ x.marks;
          many = (let e = x.many in omega (arith, e));
          lives = λ env a m b o. fall_into env l (p.ops a t (l + 1)) m.0 (x.lives env a (marked_as depth scalars env (suc l) (l + 1) x.marks one m.1) b o);
          cases = λ env m.
              (label_as depth scalars env l (l + 0) [] same m.0, cases_shifted depth scalars env l 1 p.cases (x.cases env (marked_as depth scalars env (suc l) (l + 1) x.marks one m.1)));
        };
  }
