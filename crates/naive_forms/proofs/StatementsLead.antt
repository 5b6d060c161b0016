-- The code of a statement jumps to its own labels, and by `break` and `continue` to those around it; the labels of its cases are its own.
use Rattle.std.proofs.Common.{◌≡◌, ℕ, suc, ◌+◌, ◌*◌, ◌≤◌, List, [], ◌∷◌, ◌++◌, map, Option, Some, None, refl, subst, arith, true, false}
use Rattle.std.specs.List.{list_all}
use Rattle.std.specs.Prelude.{Bool, ◌||◌, length, max, slice_get, nat_lt, if◌then◌else◌}
use Rattle.rtl_word.specs.declared.Rel.TheVariants.{Ne}
use Rattle.c_tree.specs.declared.types.CType.{CType}
use Rattle.c_tree.specs.declared.typed.Variable.TheVariants as variable
use Rattle.c_tree.specs.declared.typed.Object.{Object}
use Rattle.c_tree.specs.declared.typed.TypedExpr.{TypedExpr}
use Rattle.c_tree.specs.declared.typed.LocalInit.{LocalInit}
use Rattle.c_tree.specs.declared.typed.LocalInit.TheVariants as init
use Rattle.c_tree.specs.declared.typed.Local.{Local}
use Rattle.c_tree.specs.declared.typed.Start.{Start}
use Rattle.c_tree.specs.declared.typed.Start.TheVariants as start
use Rattle.c_tree.specs.declared.typed.Stat.{Stat}
use Rattle.c_tree.specs.declared.typed.Stat.TheOpen as stat
use Rattle.c_tree.specs.declared.typed.Stat.TheFolds.{map-Stat}
use Rattle.c_tree.specs.declared.typed.Function.{Function}
use Rattle.c_tree.specs.declared.typed.Typed.{Typed}
use Rattle.c_limits.specs.Frames.{element_bytes}
use Rattle.c_limits.specs.Weights.{length_of}
use Rattle.c_limits.specs.Depths.{arguments_of, greatest, in_option, in_list, in_init, in_locals, in_start, in_statement, greatest_in}
use Rattle.c_meaning.specs.Expressions.{Kind, missing, scalar, array}
use Rattle.c_meaning.specs.Run.{kind_in}
use Rattle.naive_code.specs.Operations as code
use Rattle.naive_code.specs.Operations.{Op, Falls, Jumps, Branches, Close, constant, add, read_stack, set_result}
use Rattle.naive_code.specs.Storage.{Symbol, Frame, Storage, Temporary, Word, Elements, Missing}
use Rattle.naive_code.specs.Expressions.{Value, Test, Site, naive, put_into, put_at}
use Rattle.naive_code.specs.Statements as steps
use Rattle.naive_code.specs.Statements.{Around, Steps, no_steps, joined, all_joined, used, dropped, shifted}
use Rattle.naive_run.specs.Sound.{Left, left_by, left_of, checked, has_type, is_sound_or_absent, fits_init, fit_locals, fits_start, fits_return, all_left}
use Rattle.naive_counts.proofs.Folds.{Three, statements_relate}
use Rattle.naive_forms.proofs.Leading.{Open, Going, open_left, open_right, going_append}
use Rattle.naive_forms.proofs.ExpressionsLead.{both_so, left_of as lesser_left, right_of as lesser_right, ValueLeads, TestLeads, Led, put_goes, put_into_goes, expression_leads}

or_left : (a b : Bool) → a ≡ true → (a || b) ≡ true
or_left true b e = refl
or_left false b e = absurd (grind (arith, e))

or_right : (a b : Bool) → b ≡ true → (a || b) ≡ true
or_right true b e = refl
or_right false b e = e

module _ (source : Typed) (labels : ℕ → Type 0) (most : ℕ) where
  abbrev O : List Op → Type 0
  O = Open source labels most

  abbrev G : List Op → Type 0
  G = Going source labels most

  joins : (xs ys : List Op) → G xs → G ys → G (xs ++ ys)
  joins = going_append source labels most

  first : (xs ys : List Op) → O (xs ++ ys) → O xs
  first = open_left source labels most

  rest : (xs ys : List Op) → O (xs ++ ys) → O ys
  rest = open_right source labels most

  abbrev VL : Value → Type 0
  VL = ValueLeads source labels most

  abbrev TL : Test → Type 0
  TL = TestLeads source labels most

  -- the labels of cases, where the first label is given
  abbrev Cases : ℕ → List (Option ℕ × ℕ) → Type 0
  Cases l [] = Unit {0}
  Cases l (k ∷ ks) = labels (l + k.1) × Cases l ks

  -- what is left by a break or a continue needs a label to go to
  pub record Leading (p : Steps) (breaks continues : Bool) : Type 0 where
    pub ops : (a : Around) (t l : ℕ) → (breaks ≡ true → labels a.breaks) → (continues ≡ true → labels a.continues) → O (p.ops a t l)
        → G (p.ops a t l) × Cases l p.cases

  abbrev Simple : Steps → Type 0
  Simple p = Leading p false false

  weaker : (p : Steps) (b c d e : Bool) → (b ≡ true → d ≡ true) → (c ≡ true → e ≡ true) → Leading p b c → Leading p d e
  weaker p b c d e x y h = record { ops = λ a t l br co o. h.ops a t l (λ z. br (x z)) (λ z. co (y z)) o }

  cases_append : (l : ℕ) (xs ys : List (Option ℕ × ℕ)) → Cases l xs → Cases l ys → Cases l (xs ++ ys)
  cases_append l [] ys g h = h
  cases_append l (x ∷ xs) ys g h = (g.0, cases_append l xs ys g.1 h)

  cases_shifted : (l n m : ℕ) (xs : List (Option ℕ × ℕ)) → m ≡ l + n → Cases m xs → Cases l (map (shifted n) xs)
  cases_shifted l n m [] e h = tt
  cases_shifted l n m (x ∷ xs) e h =
      let same : m + x.1 ≡ l + (x.1 + n) = omega (arith, e) in
      (subst labels same h.0, cases_shifted l n m xs e h.1)

  no_steps_lead : Simple no_steps
  no_steps_lead = record { ops = λ a t l br co o. (tt, tt) }

  joined_lead : (p q : Steps) (b c d e : Bool) → Leading p b c → Leading q d e → Leading (joined p q) (b || d) (c || e)
  joined_lead p q b c d e g h = record {
    ops = λ a t l br co o.
        let o1 = p.ops a t l in let o2 = q.ops a (t + p.temps) (l + p.labels) in
        let x = g.ops a t l (λ z. br (or_left b d z)) (λ z. co (or_left c e z)) (first o1 o2 o) in
        let y = h.ops a (t + p.temps) (l + p.labels) (λ z. br (or_right b d z)) (λ z. co (or_right c e z)) (rest o1 o2 o) in
        (joins o1 o2 x.0 y.0, cases_append l p.cases (map (shifted p.labels) q.cases) x.1 (cases_shifted l p.labels (l + p.labels) q.cases refl y.1));
  }

  used_leads : (v : Value) (depths : List ℕ) (os : ℕ → ℕ → List Op) → VL v → ((r s : ℕ) → G (os r s)) → Simple (used v depths os)
  used_leads v depths os h g = record {
    ops = λ a t l br co o.
        let last = os (v.result t) (t + v.temps) in
        (joins (v.ops t l) last (h t l (first (v.ops t l) last o)) (g (v.result t) (t + v.temps)), tt);
  }

  dropped_leads : (v : Value) → VL v → Simple (dropped v)
  dropped_leads v h = record { ops = λ a t l br co o. (h t l o, tt) }

  module _ (w : ℕ) (f : Function) (c : Site) (locals : List Object) (two : 2 ≤ most) where
    led : (e : TypedExpr) → (checked w source f e).sound ≡ true → arguments_of e ≤ most → Led source labels most (naive c e)
    led = expression_leads source labels most w f c two

    -- ---- declarations

    put_element_leads : (s : Storage) (i : ℕ) (v : Value) → VL v → Simple (steps.put_element c.bits s i v)
    put_element_leads (Elements (Frame offset) of) i v h =
        used_leads v (1 ∷ 2 ∷ []) (λ r t. read_stack t ∷ constant (t + 1) (offset + i * element_bytes c.bits of) ∷ add t (t + 1) ∷ put_at of t r) h
        (λ r s. (refl, (refl, (refl, put_goes source labels most of s r))))
    put_element_leads (Elements (Symbol y) of) i v h = no_steps_lead
    put_element_leads (Temporary n) i v h = no_steps_lead
    put_element_leads (Word y) i v h = no_steps_lead
    put_element_leads Missing i v h = no_steps_lead

    put_elements_lead : (of : CType) (s : Storage) (i : ℕ) (es : List TypedExpr) → list_all (has_type w source f of) es ≡ true → in_list arguments_of es ≤ most
        → Simple (steps.put_elements c s i es)
    put_elements_lead of s i [] so le = no_steps_lead
    put_elements_lead of s i (e ∷ es) so le =
        let b = both_so _ _ so in
        let m = in_list arguments_of es in
        joined_lead (steps.put_element c.bits s i (naive c e).value) (steps.put_elements c s (suc i) es) false false false false
        (put_element_leads s i (naive c e).value (led e (both_so _ _ b.0).0 (lesser_left (arguments_of e) m most le)).value)
        (put_elements_lead of s (suc i) es b.1 (lesser_right (arguments_of e) m most le))

    cleared_leads : (s : Storage) (from to : ℕ) → Simple (steps.cleared c.bits s from to)
    cleared_leads (Elements (Frame offset) of) from to = record {
      ops = λ a t l br co o.
          let last = add t (t + 5) ∷ Close (Branches Ne t (t + 1) l) (l + 1) ∷ [] in
          ((refl, (refl, (refl, (refl, (refl, (refl, (refl, (refl, (tt, joins (put_at of t (t + 4)) last (put_goes source labels most of t (t + 4)) (refl, (o.0, tt))))))))))), tt);
    }
    cleared_leads (Elements (Symbol y) of) from to = no_steps_lead
    cleared_leads (Temporary n) from to = no_steps_lead
    cleared_leads (Word y) from to = no_steps_lead
    cleared_leads Missing from to = no_steps_lead

    cleared_rest_leads : (s : Storage) (listed size : ℕ) → Simple (steps.cleared_rest c.bits s listed size)
    cleared_rest_leads s listed size = by_test (nat_lt listed size)
      where
        by_test : (b : Bool) → Simple (if b then steps.cleared c.bits s listed size else no_steps)
        by_test true = cleared_leads s listed size
        by_test false = no_steps_lead

    init_leads : (x : ℕ) (kind : Kind) (i : LocalInit) → fits_init w source f kind i ≡ true → in_init arguments_of i ≤ most → Simple (steps.init_steps c locals x i)
    init_leads x kind init.Absent so le = no_steps_lead
    init_leads x (scalar of) (init.Value e) so le =
        used_leads (naive c e).value (1 ∷ []) (λ r t. put_into (steps.storage_of_local c x) 0 r t) (led e (both_so _ _ so).0 le).value
        (λ r s. put_into_goes source labels most (steps.storage_of_local c x) 0 r s)
    init_leads x missing (init.Value e) so le = absurd (grind (arith, so))
    init_leads x (array of n) (init.Value e) so le = absurd (grind (arith, so))
    init_leads x (array of n) (init.List es) so le =
        joined_lead (steps.put_elements c (steps.storage_of_local c x) 0 es)
        (steps.cleared_rest c.bits (steps.storage_of_local c x) (length es) (length_of (slice_get locals x))) false false false false
        (put_elements_lead of (steps.storage_of_local c x) 0 es (both_so _ _ so).0 le)
        (cleared_rest_leads (steps.storage_of_local c x) (length es) (length_of (slice_get locals x)))
    init_leads x missing (init.List es) so le = absurd (grind (arith, so))
    init_leads x (scalar of) (init.List es) so le = absurd (grind (arith, so))

    locals_lead : (ls : List Local) → fit_locals w source f ls ≡ true → in_locals arguments_of ls ≤ most → Simple (steps.locals_steps c locals ls)
    locals_lead [] so le = no_steps_lead
    locals_lead (x ∷ xs) so le =
        let b = both_so _ _ so in
        let m = in_init arguments_of x.init in let n = in_locals arguments_of xs in
        joined_lead (steps.init_steps c locals x.number x.init) (steps.locals_steps c locals xs) false false false false
        (init_leads x.number (kind_in source f (variable.Local x.number)) x.init b.0 (lesser_left m n most le)) (locals_lead xs b.1 (lesser_right m n most le))

    evaluated_leads : (e : Option TypedExpr) → is_sound_or_absent w source f e ≡ true → in_option arguments_of e ≤ most → Simple (steps.evaluated c locals e)
    evaluated_leads None so le = no_steps_lead
    evaluated_leads (Some e) so le = dropped_leads (naive c e).value (led e so le).value

    started_leads : (s : Start) → fits_start w source f s ≡ true → in_start arguments_of s ≤ most → Simple (steps.started c locals s)
    started_leads start.Absent so le = no_steps_lead
    started_leads (start.Value e) so le = dropped_leads (naive c e).value (led e so le).value
    started_leads (start.Declared at ls) so le = locals_lead ls so le

    test_in_leads : (e : Option TypedExpr) → is_sound_or_absent w source f e ≡ true → in_option arguments_of e ≤ most → TL (steps.test_in c locals e)
    test_in_leads None so le = λ sense target next t l to o. ((tt, tt), o.0)
    test_in_leads (Some e) so le = (led e so le).test

    -- ---- statements

    if_leads : (e : Test) (p : Steps) (b d : Bool) → TL e → Leading p b d → Leading (steps.if_steps c locals e p None) b d
    if_leads e p b d g h = record {
      ops = λ a t l br co o.
          let k = l + 2 + e.labels in
          let o1 = e.ops false l (l + 1) t (l + 2) in let o2 = p.ops a (t + e.temps) k in let last = Close Falls l ∷ [] in
          let p1 = rest o1 (o2 ++ last) o in let p2 = rest o2 last p1 in (
            joins o1 (o2 ++ last) (g false l (l + 1) t (l + 2) p2.0 (first o1 (o2 ++ last) o)).0
                (joins o2 last (h.ops a (t + e.temps) k br co (first o2 last p1)).0 (tt, tt)),
            tt,
          );
    }

    if_else_leads : (e : Test) (p q : Steps) (b d b2 d2 : Bool) → TL e → Leading p b d → Leading q b2 d2 → Leading (steps.if_steps c locals e p (Some q)) (b || b2) (d || d2)
    if_else_leads e p q b d b2 d2 g h i = record {
      ops = λ a t l br co o.
          let k1 = l + 3 + e.labels in let k2 = k1 + p.labels in
          let o1 = e.ops false l (l + 1) t (l + 3) in let o2 = p.ops a (t + e.temps) k1 in let o3 = q.ops a (t + e.temps + p.temps) k2 in
          let last = Close Falls (l + 2) ∷ [] in let middle = Close (Jumps (l + 2)) l ∷ (o3 ++ last) in
          let p1 = rest o1 (o2 ++ middle) o in let p2 = rest o2 middle p1 in let p3 = rest o3 last p2.1 in
          let x = h.ops a (t + e.temps) k1 (λ z. br (or_left b b2 z)) (λ z. co (or_left d d2 z)) (first o2 middle p1) in
          let y = i.ops a (t + e.temps + p.temps) k2 (λ z. br (or_right b b2 z)) (λ z. co (or_right d d2 z)) (first o3 last p2.1) in (
            joins o1 (o2 ++ middle) (g false l (l + 1) t (l + 3) p2.0 (first o1 (o2 ++ middle) o)).0
                (joins o2 middle x.0 (p3.0, joins o3 last y.0 (tt, tt))),
            tt,
          );
    }

    while_leads : (e : Test) (p : Steps) (b d : Bool) → TL e → Leading p b d → Simple (steps.while_steps c locals e p)
    while_leads e p b d g h = record {
      ops = λ a t l br co o.
          let around : Around = record { breaks = l; continues = l + 1 } in
          let k = l + 3 + e.labels in
          let o1 = e.ops false l (l + 2) t (l + 3) in let o2 = p.ops around (t + e.temps) k in let last = Close (Jumps (l + 1)) l ∷ [] in
          let p1 = rest o1 (o2 ++ last) o.1 in let p2 = rest o2 last p1 in (
            (
              tt,
              joins o1 (o2 ++ last) (g false l (l + 2) t (l + 3) p2.0 (first o1 (o2 ++ last) o.1)).0
                  (joins o2 last (h.ops around (t + e.temps) k (λ z. p2.0) (λ z. o.0) (first o2 last p1)).0 (o.0, tt)),
            ),
            tt,
          );
    }

    do_leads : (p : Steps) (e : Test) (b d : Bool) → Leading p b d → TL e → Simple (steps.do_steps c locals p e)
    do_leads p e b d h g = record {
      ops = λ a t l br co o.
          let around : Around = record { breaks = l; continues = l + 2 } in
          let k = l + 3 + p.labels in
          let o1 = p.ops around t (l + 3) in let o2 = e.ops true (l + 1) l (t + p.temps) k in
          let p1 = rest o1 (Close Falls (l + 2) ∷ o2) o.1 in
          let y = g true (l + 1) l (t + p.temps) k o.0 p1.1 in
          ((tt, joins o1 (Close Falls (l + 2) ∷ o2) (h.ops around t (l + 3) (λ z. y.1) (λ z. p1.0) (first o1 (Close Falls (l + 2) ∷ o2) o.1)).0 (tt, y.0)), tt);
    }

    for_leads : (begin : Steps) (e : Test) (step p : Steps) (b d : Bool) → Simple begin → TL e → Simple step → Leading p b d → Simple (steps.for_steps c locals begin e step p)
    for_leads begin e step p b d f g s h = record {
      ops = λ a t l br co o.
          let around : Around = record { breaks = l; continues = l + 3 } in
          let t1 = t + begin.temps in let t2 = t1 + e.temps in let t3 = t2 + p.temps in
          let l1 = l + 4 + begin.labels in let l2 = l1 + e.labels in let l3 = l2 + p.labels in
          let o1 = begin.ops a t (l + 4) in let o2 = e.ops false l (l + 2) t1 l1 in let o3 = p.ops around t2 l2 in let o4 = step.ops a t3 l3 in
          let last = Close (Jumps (l + 1)) l ∷ [] in
          let m3 = Close Falls (l + 3) ∷ (o4 ++ last) in let m2 = o3 ++ m3 in let m1 = Close Falls (l + 1) ∷ (o2 ++ m2) in
          let p1 = rest o1 m1 o in let p2 = rest o2 m2 p1.1 in let p3 = rest o3 m3 p2 in let p4 = rest o4 last p3.1 in
          let x = f.ops a t (l + 4) br co (first o1 m1 o) in
          let y = g false l (l + 2) t1 l1 p4.0 (first o2 m2 p1.1) in
          let z = h.ops around t2 l2 (λ z. p4.0) (λ z. p3.0) (first o3 m3 p2) in
          let v = s.ops a t3 l3 br co (first o4 last p3.1) in
          (joins o1 m1 x.0 (tt, joins o2 m2 y.0 (joins o3 m3 z.0 (tt, joins o4 last v.0 (p1.0, tt)))), tt);
    }

    -- ---- switch

    dispatched_goes : (r base t l : ℕ) (ks : List (Option ℕ × ℕ)) → Cases base ks → G (steps.dispatched c locals r base t l ks)
    dispatched_goes r base t l [] h = tt
    dispatched_goes r base t l ((Some v, k) ∷ ks) h = (refl, (h.0, dispatched_goes r base (t + 1) (l + 1) ks h.1))
    dispatched_goes r base t l ((None, k) ∷ ks) h = dispatched_goes r base t l ks h.1

    otherwise_in : (base behind : ℕ) (ks : List (Option ℕ × ℕ)) → labels behind → Cases base ks → labels (steps.otherwise c locals base behind ks)
    otherwise_in base behind [] p h = p
    otherwise_in base behind ((Some v, k) ∷ ks) p h = otherwise_in base behind ks p h.1
    otherwise_in base behind ((None, k) ∷ ks) p h = h.0

    switch_leads : (e : Value) (p : Steps) (b d : Bool) → VL e → Leading p b d → Leading (steps.switch_steps c locals e p) false d
    switch_leads e p b d g h = record {
      ops = λ a t l br co o.
          let n = steps.valued c locals p.cases in
          let base = l + 2 + n + e.labels in
          let around : Around = record { breaks = l; continues = a.continues } in
          let o1 = e.ops t (l + 2 + n) in
          let o2 = steps.dispatched c locals (e.result t) base (t + e.temps) (l + 2) p.cases in
          let o3 = p.ops around (t + e.temps + n) base in
          let last = Close Falls l ∷ [] in
          let m2 = Close (Jumps (steps.otherwise c locals base l p.cases)) (l + 1) ∷ (o3 ++ last) in
          let p1 = rest o1 (o2 ++ m2) o in let p2 = rest o2 m2 p1 in let p3 = rest o3 last p2.1 in
          let x = h.ops around (t + e.temps + n) base (λ z. p3.0) co (first o3 last p2.1) in (
            joins o1 (o2 ++ m2) (g t (l + 2 + n) (first o1 (o2 ++ m2) o))
                (joins o2 m2 (dispatched_goes (e.result t) base (t + e.temps) (l + 2) p.cases x.1)
                (otherwise_in base l p.cases p3.0 x.1, joins o3 last x.0 (tt, tt))),
            tt,
          );
    }

    labelled_leads : (v : Option ℕ) (p : Steps) (b d : Bool) → Leading p b d → Leading (steps.labelled c locals v p) b d
    labelled_leads v p b d h = record {
      ops = λ a t l br co o.
          let x = h.ops a t (l + 1) br co o.1 in
          let same : l ≡ l + 0 = omega arith in
          ((tt, x.0), (subst labels same o.0, cases_shifted l 1 (l + 1) p.cases refl x.1));
    }

    returns_lead : Simple (steps.leaving c locals (λ a. code.Returns))
    returns_lead = record { ops = λ a t l br co o. ((tt, tt), tt) }

    return_leads : (e : Option TypedExpr) → fits_return w source f e ≡ true → in_option arguments_of e ≤ most → Simple (steps.return_steps c locals e)
    return_leads None so le = returns_lead
    return_leads (Some e) so le =
        joined_lead (used (naive c e).value [] (λ r t. set_result r ∷ [])) (steps.leaving c locals (λ a. code.Returns)) false false false false
        (used_leads (naive c e).value [] (λ r t. set_result r ∷ []) (led e (both_so _ _ so).0 le).value (λ r s. (refl, tt))) returns_lead

    -- ---- all of them

    abbrev Fine : Steps → Left → ℕ → Type 0
    Fine p x m = x.sound ≡ true → m ≤ most → Leading p x.breaks x.continues

    abbrev T : Type 0
    T = Three Steps Left ℕ Fine

    list_leads : (ss : List T) → (all_left (map (λ e. e.1) ss)).sound ≡ true → greatest (map (λ e. e.2) ss) ≤ most
        → Leading (all_joined (map (λ e. e.0) ss)) (all_left (map (λ e. e.1) ss)).breaks (all_left (map (λ e. e.1) ss)).continues
    list_leads [] so le = no_steps_lead
    list_leads (s ∷ ss) so le =
        let b = both_so _ _ so in let m = greatest (map (λ e. e.2) ss) in let x = all_left (map (λ e. e.1) ss) in
        joined_lead s.0 (all_joined (map (λ e. e.0) ss)) s.1.breaks s.1.continues x.breaks x.continues
        (s.3 b.0 (lesser_left s.2 m most le)) (list_leads ss b.1 (lesser_right s.2 m most le))

    node_leads : (y : stat.Stat-F T)
        → Fine (steps.node_steps c locals (map-Stat T Steps (λ e. e.0) y)) (left_by w source f (map-Stat T Left (λ e. e.1) y)) (in_statement arguments_of (map-Stat T ℕ (λ e. e.2) y))
    node_leads (stat.Block at ss) so le = let h = list_leads ss so le in record { ops = λ a t l br co o. ((h.ops a t l br co o).0, tt) }
    node_leads (stat.Declare at ls) so le = locals_lead ls so le
    node_leads (stat.Evaluate at e) so le = evaluated_leads e so le
    node_leads (stat.If at e a None) so le =
        let s = both_so _ _ so in let r = both_so _ _ s.1 in
        let m = max a.2 0 in
        weaker _ a.1.breaks a.1.continues _ _ (or_left a.1.breaks false) (or_left a.1.continues false)
        (if_leads (naive c e).test a.0 a.1.breaks a.1.continues (led e s.0 (lesser_left (arguments_of e) m most le)).test
        (a.3 r.0 (lesser_left a.2 0 most (lesser_right (arguments_of e) m most le))))
    node_leads (stat.If at e a (Some b)) so le =
        let s = both_so _ _ so in let r = both_so _ _ s.1 in
        let m = max a.2 b.2 in let behind = lesser_right (arguments_of e) m most le in
        if_else_leads (naive c e).test a.0 b.0 a.1.breaks a.1.continues b.1.breaks b.1.continues (led e s.0 (lesser_left (arguments_of e) m most le)).test
        (a.3 r.0 (lesser_left a.2 b.2 most behind)) (b.3 r.1 (lesser_right a.2 b.2 most behind))
    node_leads (stat.While at e a) so le =
        let s = both_so _ _ so in
        while_leads (naive c e).test a.0 a.1.breaks a.1.continues (led e s.0 (lesser_left (arguments_of e) a.2 most le)).test (a.3 s.1 (lesser_right (arguments_of e) a.2 most le))
    node_leads (stat.DoWhile at a e) so le =
        let s = both_so _ _ so in
        do_leads a.0 (naive c e).test a.1.breaks a.1.continues (a.3 s.1 (lesser_right (arguments_of e) a.2 most le)) (led e s.0 (lesser_left (arguments_of e) a.2 most le)).test
    node_leads (stat.For at begin test step a) so le =
        let s = both_so _ _ so in let r = both_so _ _ s.0 in let q = both_so _ _ r.0 in
        let m1 = max (in_start arguments_of begin) (in_option arguments_of test) in let m2 = max (in_option arguments_of step) a.2 in
        let le1 = lesser_left m1 m2 most le in let le2 = lesser_right m1 m2 most le in
        for_leads (steps.started c locals begin) (steps.test_in c locals test) (steps.evaluated c locals step) a.0 a.1.breaks a.1.continues
        (started_leads begin q.0 (lesser_left (in_start arguments_of begin) (in_option arguments_of test) most le1))
        (test_in_leads test q.1 (lesser_right (in_start arguments_of begin) (in_option arguments_of test) most le1))
        (evaluated_leads step r.1 (lesser_left (in_option arguments_of step) a.2 most le2))
        (a.3 s.1 (lesser_right (in_option arguments_of step) a.2 most le2))
    node_leads (stat.Switch at e ss) so le =
        let s = both_so _ _ so in
        let m = greatest (map (λ x. x.2) ss) in let x = all_left (map (λ y. y.1) ss) in
        switch_leads (naive c e).value (all_joined (map (λ y. y.0) ss)) x.breaks x.continues (led e s.0 (lesser_right m (arguments_of e) most le)).value
        (list_leads ss s.1 (lesser_left m (arguments_of e) most le))
    node_leads (stat.Case at v a) so le = labelled_leads (Some v) a.0 a.1.breaks a.1.continues (a.3 so le)
    node_leads (stat.Default at a) so le = labelled_leads None a.0 a.1.breaks a.1.continues (a.3 so le)
    node_leads (stat.Break at) so le = record { ops = λ a t l br co o. ((br refl, tt), tt) }
    node_leads (stat.Continue at) so le = record { ops = λ a t l br co o. ((co refl, tt), tt) }
    node_leads (stat.Return at e) so le = return_leads e so le

    pub statement_leads : (s : Stat) → (left_of w source f s).sound ≡ true → greatest_in arguments_of s ≤ most
        → Leading (steps.steps_of c locals s) (left_of w source f s).breaks (left_of w source f s).continues
    statement_leads s so le = statements_relate Steps Left ℕ Fine (steps.node_steps c locals) (left_by w source f) (in_statement arguments_of) node_leads s so le
