-- The code of a sound statement whose operators are there can be made.
use Rattle.std.proofs.Common.{◌≡◌, ℕ, suc, ◌+◌, ◌*◌, ◌^◌, ◌≤◌, ◌<◌, List, [], ◌∷◌, ◌++◌, map, Option, Some, None, arith, true, false}
use Rattle.std.specs.Prelude.{Bool, ◌&&◌, length, slice_get, nat_le, nat_lt, if◌then◌else◌}
use Rattle.std.specs.List.{list_all}
use Rattle.rtl_word.specs.Words.{IsWordSize}
use Rattle.rtl_word.specs.declared.Rel.TheVariants.{Ne}
use Rattle.rtl_tree.specs.declared.expressions.BinOp.{BinOp}
use Rattle.md_rows.specs.declared.description.RawDescription.{RawDescription}
use Rattle.c_tree.specs.declared.types.CType.{CType}
use Rattle.c_tree.specs.declared.typed.Variable.TheVariants as variable
use Rattle.c_tree.specs.declared.typed.Object.{Object}
use Rattle.c_tree.specs.declared.typed.Function.{Function}
use Rattle.c_tree.specs.declared.typed.Typed.{Typed}
use Rattle.c_tree.specs.declared.typed.TypedExpr.{TypedExpr}
use Rattle.c_tree.specs.declared.typed.LocalInit.{LocalInit}
use Rattle.c_tree.specs.declared.typed.LocalInit.TheVariants as init
use Rattle.c_tree.specs.declared.typed.Local.{Local}
use Rattle.c_tree.specs.declared.typed.Start.{Start}
use Rattle.c_tree.specs.declared.typed.Start.TheVariants as start
use Rattle.c_tree.specs.declared.typed.Stat.{Stat}
use Rattle.c_tree.specs.declared.typed.Stat.TheOpen as stat
use Rattle.c_tree.specs.declared.typed.Stat.TheFolds.{fold-Stat, map-Stat}
use Rattle.c_limits.specs.Frames.{element_bytes, array_bytes, array_in, frame_bytes}
use Rattle.c_limits.specs.Sums.{or_0}
use Rattle.c_limits.specs.Weights.{length_of}
use Rattle.c_meaning.specs.Expressions.{Kind, missing, scalar, array}
use Rattle.c_meaning.specs.Run.{kind_in, kind_of, kind_by}
use Rattle.naive_code.specs.Operations as code
use Rattle.naive_code.specs.Operations.{Op, Falls, Jumps, Branches, Close, constant, add, read_stack, set_result}
use Rattle.naive_code.specs.Storage.{Frame, Storage, Elements, local_in, local_storage, storage_of}
use Rattle.naive_code.specs.Expressions.{Value, Test, Site, naive, put_into, put_at}
use Rattle.naive_code.specs.Statements as steps
use Rattle.naive_code.specs.Statements.{Around, Steps, no_steps, joined, all_joined, used, dropped, enclosed, shifted}
use Rattle.naive_code.specs.Functions.{site_of}
use Rattle.naive_run.specs.Sound.{Left, all_left, checked, has_type, is_sound_or_absent, fits_init, fit_locals, fits_start, fits_return, left_by, left_of}
use Rattle.naive_counts.proofs.Folds.{Three, statements_relate}
use Rattle.naive_fits.specs.Expandable.{AreThere, is_there_in, option_there, init_there, locals_there, start_there, expandable_by, all_so}
use Rattle.naive_fits.proofs.Parts.{not_so, both_so, at_most, below, Fit, fit_append, put_fit, put_into_fit, small}
use Rattle.naive_fits.proofs.ExpressionsFit.{ValueFits, TestFits, Coded, expression_coded}
use Rattle.naive_fits.proofs.Frames.{room_in, array_offset, array_room, element_small, element_within, storages_fit}

module _ (d : RawDescription) (size : IsWordSize d.word) where
  -- the values of cases are words
  abbrev CasesFit : List (Option ℕ × ℕ) → Type 0
  CasesFit [] = Unit {0}
  CasesFit ((Some v, k) ∷ cs) = (v < 2 ^ d.word) × CasesFit cs
  CasesFit ((None, k) ∷ cs) = CasesFit cs

  cases_append : (xs ys : List (Option ℕ × ℕ)) → CasesFit xs → CasesFit ys → CasesFit (xs ++ ys)
  cases_append [] ys g h = h
  cases_append ((Some v, k) ∷ xs) ys g h = (g.0, cases_append xs ys g.1 h)
  cases_append ((None, k) ∷ xs) ys g h = cases_append xs ys g h

  cases_shifted : (n : ℕ) (xs : List (Option ℕ × ℕ)) → CasesFit xs → CasesFit (map (shifted n) xs)
  cases_shifted n [] g = tt
  cases_shifted n ((Some v, k) ∷ xs) g = (g.0, cases_shifted n xs g.1)
  cases_shifted n ((None, k) ∷ xs) g = cases_shifted n xs g

  pub record StepsFit (p : Steps) : Type 0 where
    pub ops : (a : Around) (t l : ℕ) → Fit d (p.ops a t l)
    pub cases : CasesFit p.cases

  no_steps_fit : StepsFit no_steps
  no_steps_fit = record { ops = λ a t l. tt; cases = tt }

  joined_fit : (p q : Steps) → StepsFit p → StepsFit q → StepsFit (joined p q)
  joined_fit p q g h = record {
    ops = λ a t l.
        let u = t + p.temps in let k = l + p.labels in
        fit_append d (p.ops a t l) (q.ops a u k) (g.ops a t l) (h.ops a u k);
    cases = cases_append p.cases (map (shifted p.labels) q.cases) g.cases (cases_shifted p.labels q.cases h.cases);
  }

  dropped_fit : (v : Value) → ValueFits d size v → StepsFit (dropped v)
  dropped_fit v h = record { ops = λ a t l. h t l; cases = tt }

  used_fit : (v : Value) (depths : List ℕ) (os : ℕ → ℕ → List Op) → ValueFits d size v → ((r s : ℕ) → Fit d (os r s)) → StepsFit (used v depths os)
  used_fit v depths os h last = record {
    ops = λ a t l. fit_append d (v.ops t l) (os (v.result t) (t + v.temps)) (h t l) (last (v.result t) (t + v.temps));
    cases = tt;
  }

  module _ (has : BinOp → Bool) (there : AreThere d has) (t : Typed) (f : Function) (few_functions : length t.functions ≤ 2 ^ 16)
      (few_params : (n : ℕ) (g : Function) → slice_get t.functions n ≡ Some g → length g.params ≤ 16) (kept : List ℕ)
      (statics : length t.statics ≤ 2 ^ 16) (frame : frame_bytes kept d.word f ≤ 32000) where
    abbrev c : Site
    c = site_of kept d.word t f

    abbrev locals : List Object
    locals = f.locals

    abbrev IsSound : TypedExpr → Type 0
    IsSound e = (checked d.word t f e).sound ≡ true

    coded : (e : TypedExpr) → IsSound e → is_there_in has e ≡ true → Coded d size (naive c e)
    coded = expression_coded d size has there t f few_functions few_params (storage_of kept d.word t f) (storages_fit kept d.word t f statics frame)

    value_of : (e : TypedExpr) → IsSound e → is_there_in has e ≡ true → ValueFits d size (naive c e).value
    value_of e s u = (coded e s u).value

    test_of : (e : TypedExpr) → IsSound e → is_there_in has e ≡ true → TestFits d size (naive c e).test
    test_of e s u = (coded e s u).test

    -- ---- declarations

    module _ (offset n : ℕ) (of : CType) (room : offset + array_bytes d.word of n ≤ 32000) where
      abbrev elements : Storage
      elements = Elements (Frame offset) of

      at_element : (i : ℕ) → i ≤ n → offset + i * element_bytes d.word of < 2 ^ d.word
      at_element i le = small d size (offset + i * element_bytes d.word of) (element_within d.word of offset i n size room le)

      put_elements_fit : (i : ℕ) (es : List TypedExpr) (by : CType) → i + length es ≤ n → list_all (has_type d.word t f by) es ≡ true
          → list_all (is_there_in has) es ≡ true → StepsFit (steps.put_elements c elements i es)
      put_elements_fit i [] by le s u = no_steps_fit
      put_elements_fit i (e ∷ es) by le s u =
          let p = both_so _ _ s in let q = both_so _ _ p.0 in let v = both_so _ _ u in
          let here : i ≤ n = omega (arith, le) in
          joined_fit (steps.put_element d.word elements i (naive c e).value) (steps.put_elements c elements (suc i) es)
          (used_fit (naive c e).value (1 ∷ 2 ∷ []) (λ r k. read_stack k ∷ constant (k + 1) (offset + i * element_bytes d.word of) ∷ add k (k + 1) ∷ put_at of k r)
          (value_of e q.0 v.0) (λ r k. (tt, (at_element i here, (tt, put_fit d of k r)))))
          (put_elements_fit (suc i) es by (omega (arith, le)) p.1 v.1)

      cleared_fit : (from to : ℕ) → from ≤ n → to ≤ n → StepsFit (steps.cleared d.word elements from to)
      cleared_fit from to g h = record {
        ops = λ a k l. (
          tt,
          (
            tt,
            (
              at_element from g,
              (
                tt,
                (
                  at_element to h,
                  (
                    tt,
                    (
                      small d size 0 (omega arith),
                      (
                        small d size (element_bytes d.word of) (element_small d.word of size),
                        (tt, fit_append d (put_at of k (k + 4)) (add k (k + 5) ∷ Close (Branches Ne k (k + 1) l) (l + 1) ∷ []) (put_fit d of k (k + 4)) (tt, (tt, tt))),
                      ),
                    ),
                  ),
                ),
              ),
            ),
          ),
        );
        cases = tt;
      }

      cleared_rest_fit : (listed : ℕ) → listed ≤ n → StepsFit (steps.cleared_rest d.word elements listed n)
      cleared_rest_fit listed le = by_test (nat_lt listed n)
        where
          by_test : (b : Bool) → StepsFit (if b then steps.cleared d.word elements listed n else no_steps)
          by_test true = cleared_fit listed n le (omega arith)
          by_test false = no_steps_fit

      list_fits : (es : List TypedExpr) (by : CType) → (list_all (has_type d.word t f by) es && nat_le (length es) n) ≡ true → list_all (is_there_in has) es ≡ true
          → StepsFit (joined (steps.put_elements c elements 0 es) (steps.cleared_rest d.word elements (length es) n))
      list_fits es by s u =
          let p = both_so _ _ s in let le = at_most (length es) n p.1 in
          joined_fit (steps.put_elements c elements 0 es) (steps.cleared_rest d.word elements (length es) n) (put_elements_fit 0 es by (omega (arith, le)) p.0 u)
          (cleared_rest_fit (length es) le)

    -- the list of an array
    lists_fit : (temp offset : ℕ) (o : Option Object) (es : List TypedExpr) → offset + room_in d.word o ≤ 32000
        → fits_init d.word t f (kind_of o) (init.List es) ≡ true → list_all (is_there_in has) es ≡ true
        → StepsFit (joined (steps.put_elements c (local_in temp offset o) 0 es) (steps.cleared_rest d.word (local_in temp offset o) (length es) (length_of o)))
    lists_fit temp offset None es room s u = not_so s
    lists_fit temp offset (Some o) es room s u = by_length o.length room s
      where
        by_length : (l : Option ℕ) → offset + array_in d.word o.element l ≤ 32000 → fits_init d.word t f (kind_by o.element l) (init.List es) ≡ true
            → StepsFit (joined (steps.put_elements c (local_storage temp offset o.element l) 0 es) (steps.cleared_rest d.word (local_storage temp offset o.element l) (length es) (or_0 l)))
        by_length None room s = not_so s
        by_length (Some n) room s = list_fits offset n o.element room es o.element s u

    value_sound : (g : Kind) (e : TypedExpr) → fits_init d.word t f g (init.Value e) ≡ true → IsSound e
    value_sound missing e s = not_so s
    value_sound (scalar of) e s = (both_so _ _ s).0
    value_sound (array of n) e s = not_so s

    init_fit : (x : ℕ) (i : LocalInit) → fits_init d.word t f (kind_in t f (variable.Local x)) i ≡ true → init_there has i ≡ true
        → StepsFit (steps.init_steps c locals x i)
    init_fit x init.Absent s u = no_steps_fit
    init_fit x (init.Value e) s u =
        used_fit (naive c e).value (1 ∷ []) (λ r k. put_into (steps.storage_of_local c x) 0 r k) (value_of e (value_sound (kind_in t f (variable.Local x)) e s) u)
        (λ r k. put_into_fit d (steps.storage_of_local c x) 0 r k (storages_fit kept d.word t f statics frame (variable.Local x)))
    init_fit x (init.List es) s u = lists_fit _ (array_offset kept d.word f x) (slice_get f.locals x) es (array_room kept d.word f x frame) s u

    locals_fit : (ls : List Local) → fit_locals d.word t f ls ≡ true → locals_there has ls ≡ true → StepsFit (steps.locals_steps c locals ls)
    locals_fit [] s u = no_steps_fit
    locals_fit (l ∷ ls) s u =
        let p = both_so _ _ s in let v = both_so _ _ u in
        joined_fit (steps.init_steps c locals l.number l.init) (steps.locals_steps c locals ls) (init_fit l.number l.init p.0 v.0) (locals_fit ls p.1 v.1)

    evaluated_fit : (o : Option TypedExpr) → is_sound_or_absent d.word t f o ≡ true → option_there has o ≡ true → StepsFit (steps.evaluated c locals o)
    evaluated_fit None s u = no_steps_fit
    evaluated_fit (Some e) s u = dropped_fit (naive c e).value (value_of e s u)

    started_fit : (b : Start) → fits_start d.word t f b ≡ true → start_there has b ≡ true → StepsFit (steps.started c locals b)
    started_fit start.Absent s u = no_steps_fit
    started_fit (start.Value e) s u = dropped_fit (naive c e).value (value_of e s u)
    started_fit (start.Declared at ls) s u = locals_fit ls s u

    test_in_fits : (o : Option TypedExpr) → is_sound_or_absent d.word t f o ≡ true → option_there has o ≡ true → TestFits d size (steps.test_in c locals o)
    test_in_fits None s u sense target next k l = (tt, tt)
    test_in_fits (Some e) s u sense target next k l = test_of e s u sense target next k l

    -- ---- statements

    if_fits : (e : Test) (p : Steps) → TestFits d size e → StepsFit p → StepsFit (steps.if_steps c locals e p None)
    if_fits e p g h = record {
      ops = λ a k l.
          let l1 = l + 2 + e.labels in
          let o2 = p.ops a (k + e.temps) l1 in let last = Close Falls l ∷ [] in
          fit_append d (e.ops false l (l + 1) k (l + 2)) (o2 ++ last) (g false l (l + 1) k (l + 2)) (fit_append d o2 last (h.ops a (k + e.temps) l1) (tt, tt));
      cases = tt;
    }

    if_else_fits : (e : Test) (p q : Steps) → TestFits d size e → StepsFit p → StepsFit q → StepsFit (steps.if_steps c locals e p (Some q))
    if_else_fits e p q g h i = record {
      ops = λ a k l.
          let l1 = l + 3 + e.labels in let l2 = l1 + p.labels in
          let o2 = p.ops a (k + e.temps) l1 in let o3 = q.ops a (k + e.temps + p.temps) l2 in
          let last = Close Falls (l + 2) ∷ [] in let middle = Close (Jumps (l + 2)) l ∷ (o3 ++ last) in
          fit_append d (e.ops false l (l + 1) k (l + 3)) (o2 ++ middle) (g false l (l + 1) k (l + 3))
          (fit_append d o2 middle (h.ops a (k + e.temps) l1) (tt, fit_append d o3 last (i.ops a (k + e.temps + p.temps) l2) (tt, tt)));
      cases = tt;
    }

    while_fits : (e : Test) (p : Steps) → TestFits d size e → StepsFit p → StepsFit (steps.while_steps c locals e p)
    while_fits e p g h = record {
      ops = λ a k l.
          let b : Around = record { breaks = l; continues = l + 1 } in
          let l1 = l + 3 + e.labels in
          let o2 = p.ops b (k + e.temps) l1 in let last = Close (Jumps (l + 1)) l ∷ [] in
          (tt, fit_append d (e.ops false l (l + 2) k (l + 3)) (o2 ++ last) (g false l (l + 2) k (l + 3)) (fit_append d o2 last (h.ops b (k + e.temps) l1) (tt, tt)));
      cases = tt;
    }

    do_fits : (p : Steps) (e : Test) → StepsFit p → TestFits d size e → StepsFit (steps.do_steps c locals p e)
    do_fits p e h g = record {
      ops = λ a k l.
          let b : Around = record { breaks = l; continues = l + 2 } in
          let l1 = l + 3 + p.labels in
          let o2 = e.ops true (l + 1) l (k + p.temps) l1 in
          (tt, fit_append d (p.ops b k (l + 3)) (Close Falls (l + 2) ∷ o2) (h.ops b k (l + 3)) (tt, g true (l + 1) l (k + p.temps) l1));
      cases = tt;
    }

    for_fits : (first : Steps) (e : Test) (step p : Steps) → StepsFit first → TestFits d size e → StepsFit step → StepsFit p → StepsFit (steps.for_steps c locals first e step p)
    for_fits first e step p g h i j = record {
      ops = λ a k l.
          let b : Around = record { breaks = l; continues = l + 3 } in
          let k1 = k + first.temps in let k2 = k1 + e.temps in let k3 = k2 + p.temps in
          let l1 = l + 4 + first.labels in let l2 = l1 + e.labels in let l3 = l2 + p.labels in
          let o1 = first.ops a k (l + 4) in let o2 = e.ops false l (l + 2) k1 l1 in let o3 = p.ops b k2 l2 in let o4 = step.ops a k3 l3 in
          let last = Close (Jumps (l + 1)) l ∷ [] in
          let behind = Close Falls (l + 3) ∷ (o4 ++ last) in
          fit_append d o1 (Close Falls (l + 1) ∷ (o2 ++ (o3 ++ behind))) (g.ops a k (l + 4)) (
            tt,
            fit_append d o2 (o3 ++ behind) (h false l (l + 2) k1 l1)
                (fit_append d o3 behind (j.ops b k2 l2) (tt, fit_append d o4 last (i.ops a k3 l3) (tt, tt))),
          );
      cases = tt;
    }

    -- ---- switch

    dispatched_fit : (r base k l : ℕ) (cs : List (Option ℕ × ℕ)) → CasesFit cs → Fit d (steps.dispatched c locals r base k l cs)
    dispatched_fit r base k l [] g = tt
    dispatched_fit r base k l ((Some v, n) ∷ cs) g = (g.0, (tt, dispatched_fit r base (k + 1) (l + 1) cs g.1))
    dispatched_fit r base k l ((None, n) ∷ cs) g = dispatched_fit r base k l cs g

    switch_fits : (e : Value) (p : Steps) → ValueFits d size e → StepsFit p → StepsFit (steps.switch_steps c locals e p)
    switch_fits e p g h = record {
      ops = λ a k l.
          let n = steps.valued c locals p.cases in
          let base = l + 2 + n + e.labels in
          let b : Around = record { breaks = l; continues = a.continues } in
          let o2 = steps.dispatched c locals (e.result k) base (k + e.temps) (l + 2) p.cases in
          let o3 = p.ops b (k + e.temps + n) base in
          let last = Close Falls l ∷ [] in
          let behind = Close (Jumps (steps.otherwise c locals base l p.cases)) (l + 1) ∷ (o3 ++ last) in
          fit_append d (e.ops k (l + 2 + n)) (o2 ++ behind) (g k (l + 2 + n))
          (fit_append d o2 behind (dispatched_fit (e.result k) base (k + e.temps) (l + 2) p.cases h.cases)
          (tt, fit_append d o3 last (h.ops b (k + e.temps + n) base) (tt, tt)));
      cases = tt;
    }

    case_fits : (v : ℕ) (p : Steps) → v < 2 ^ d.word → StepsFit p → StepsFit (steps.labelled c locals (Some v) p)
    case_fits v p lt h = record { ops = λ a k l. (tt, h.ops a k (l + 1)); cases = (lt, cases_shifted 1 p.cases h.cases) }

    default_fits : (p : Steps) → StepsFit p → StepsFit (steps.labelled c locals None p)
    default_fits p h = record { ops = λ a k l. (tt, h.ops a k (l + 1)); cases = cases_shifted 1 p.cases h.cases }

    return_fits : (o : Option TypedExpr) → fits_return d.word t f o ≡ true → option_there has o ≡ true → StepsFit (steps.return_steps c locals o)
    return_fits None s u = record { ops = λ a k l. (tt, tt); cases = tt }
    return_fits (Some e) s u =
        joined_fit (used (naive c e).value [] (λ r k. set_result r ∷ [])) (steps.leaving c locals (λ a. code.Returns))
        (used_fit (naive c e).value [] (λ r k. set_result r ∷ []) (value_of e (both_so _ _ s).0 u) (λ r k. (tt, tt)))
        (record { ops = λ a k l. (tt, tt); cases = tt })

    -- ---- all of them

    record Related (p : Steps) (left : Left) (b : Bool) : Type 0 where
      steps_fit : left.sound ≡ true → b ≡ true → StepsFit p

    abbrev T : Type 0
    T = Three Steps Left Bool Related

    list_of_fits : (ss : List T) → (all_left (map (λ e. e.1) ss)).sound ≡ true → all_so (map (λ e. e.2) ss) ≡ true → StepsFit (all_joined (map (λ e. e.0) ss))
    list_of_fits [] s u = no_steps_fit
    list_of_fits (e ∷ ss) s u =
        let p = both_so _ _ s in let v = both_so _ _ u in
        joined_fit e.0 (all_joined (map (λ e. e.0) ss)) (e.3.steps_fit p.0 v.0) (list_of_fits ss p.1 v.1)

    node_related : (y : stat.Stat-F T)
        → Related (steps.node_steps c locals (map-Stat T Steps (λ e. e.0) y)) (left_by d.word t f (map-Stat T Left (λ e. e.1) y)) (expandable_by has d.word (map-Stat T Bool (λ e. e.2) y))
    node_related (stat.Block at ss) = record { steps_fit = λ s u. record { ops = (list_of_fits ss s u).ops; cases = tt } }
    node_related (stat.Declare at ls) = record { steps_fit = λ s u. locals_fit ls s u }
    node_related (stat.Evaluate at e) = record { steps_fit = λ s u. evaluated_fit e s u }
    node_related (stat.If at e a None) = record {
      steps_fit = λ s u. (
          let p = both_so _ _ s in let q = both_so _ _ p.1 in let v = both_so _ _ u in let w = both_so _ _ v.0 in
          if_fits (naive c e).test a.0 (test_of e p.0 w.0) (a.3.steps_fit q.0 w.1));
    }
    node_related (stat.If at e a (Some b)) = record {
      steps_fit = λ s u. (
          let p = both_so _ _ s in let q = both_so _ _ p.1 in let v = both_so _ _ u in let w = both_so _ _ v.0 in
          if_else_fits (naive c e).test a.0 b.0 (test_of e p.0 w.0) (a.3.steps_fit q.0 w.1) (b.3.steps_fit q.1 v.1));
    }
    node_related (stat.While at e a) = record {
      steps_fit = λ s u. (let p = both_so _ _ s in let v = both_so _ _ u in while_fits (naive c e).test a.0 (test_of e p.0 v.0) (a.3.steps_fit p.1 v.1));
    }
    node_related (stat.DoWhile at a e) = record {
      steps_fit = λ s u. (let p = both_so _ _ s in let v = both_so _ _ u in do_fits a.0 (naive c e).test (a.3.steps_fit p.1 v.0) (test_of e p.0 v.1));
    }
    node_related (stat.For at first test step a) = record {
      steps_fit = λ s u. (
          let p = both_so _ _ s in let q = both_so _ _ p.0 in let r = both_so _ _ q.0 in
          let v = both_so _ _ u in let w = both_so _ _ v.0 in let x = both_so _ _ w.0 in
          for_fits (steps.started c locals first) (steps.test_in c locals test) (steps.evaluated c locals step) a.0
          (started_fit first r.0 x.0) (test_in_fits test r.1 x.1) (evaluated_fit step q.1 w.1) (a.3.steps_fit p.1 v.1));
    }
    node_related (stat.Switch at e ss) = record {
      steps_fit = λ s u. (
          let p = both_so _ _ s in let v = both_so _ _ u in
          switch_fits (naive c e).value (all_joined (map (λ e. e.0) ss)) (value_of e p.0 v.0) (list_of_fits ss p.1 v.1));
    }
    node_related (stat.Case at v a) = record {
      steps_fit = λ s u. (let w = both_so _ _ u in case_fits v a.0 (below v (2 ^ d.word) w.0) (a.3.steps_fit s w.1));
    }
    node_related (stat.Default at a) = record { steps_fit = λ s u. default_fits a.0 (a.3.steps_fit s u) }
    node_related (stat.Break at) = record { steps_fit = λ s u. record { ops = λ a k l. (tt, tt); cases = tt } }
    node_related (stat.Continue at) = record { steps_fit = λ s u. record { ops = λ a k l. (tt, tt); cases = tt } }
    node_related (stat.Return at e) = record { steps_fit = λ s u. return_fits e s u }

    pub statement_fits : (s : Stat) → (left_of d.word t f s).sound ≡ true → fold-Stat Bool (expandable_by has d.word) s ≡ true → StepsFit (steps.steps_of c locals s)
    statement_fits s = (statements_relate Steps Left Bool Related (steps.node_steps c locals) (left_by d.word t f) (expandable_by has d.word) node_related s).steps_fit
