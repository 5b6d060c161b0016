-- A lowered statement does what the statement does.
use Rattle.std.proofs.Common.{◌≡◌, ℕ, zero, suc, List, [], ◌∷◌, ◌++◌, map, length, Option, Some, None, Bool, true, false, if◌then◌else◌, refl, sym, ap, subst, ◌∙◌}
use denote.Hole.Carrier
use Rattle.c_tree.specs.declared.token.At.{At}
use Rattle.c_tree.specs.declared.typed.TypedExpr.{TypedExpr}
use Rattle.c_tree.specs.declared.typed.LocalInit.{LocalInit}
use Rattle.c_tree.specs.declared.typed.LocalInit.TheVariants as init
use Rattle.c_tree.specs.declared.typed.Local.{Local}
use Rattle.c_tree.specs.declared.typed.Start.{Start}
use Rattle.c_tree.specs.declared.typed.Start.TheVariants as start
use Rattle.c_tree.specs.declared.typed.Stat.{Stat}
use Rattle.c_tree.specs.declared.typed.Stat.TheOpen.{Stat-F, Block, Declare, Evaluate, If, While, DoWhile, For, Switch, Case, Default, Break, Continue, Return}
use Rattle.c_tree.specs.declared.typed.Stat.TheViews.{roll-Stat}
use Rattle.c_tree.specs.declared.typed.Stat.TheFolds.{map-Stat, fold-roll-Stat}
use Rattle.c_meaning.specs.Parts.{State, Part, then_do, give, fill}
use Rattle.c_meaning.specs.Expressions.{World, Calls, needed, meaning}
use Rattle.c_meaning.specs.Statements.{Flow, next, breaks, continues, returns, Does, Execution, plain, go_on, sequence, all_unset, numbers, declared, elements, initialise, declare, turned, tested, evaluated, turns, do_turns, started, among, from_label, or_none, or_default, returned, statement, execution}
use Rattle.c_tree.proofs.TypedFolds.{Both, stat_relates}
use Rattle.c_meaning.proofs.Expressions.{with_calls}
use Rattle.c_lowering.specs.Lowering.{Operators, lower_expr, lower_option, lower_init, lower_local, lower_start, lower_statement, lower_stat}
use Rattle.c_lowering.proofs.Following.{Way, Rel, All_rel, same_rel, then_rel, zero_rel}
use Rattle.c_lowering.proofs.Expressions.{Calls_rel, needed_below}
use Rattle.c_lowering.proofs.Lowered.{Helps, lowers_expr}

module _ (way : Way) where
  pub record Execution_rel (a b : Execution) : Type 0 where
    pub does : All_rel way a.does b.does
    pub labels : a.labels ≡ b.labels
    pub declares : a.declares ≡ b.declares

  plain_below : (f g : Does) → All_rel way f g → Execution_rel (plain f) (plain g)
  plain_below f g b = record { does = b; labels = refl; declares = refl }

  go_on_below : (f : Flow) (d e : Does) → All_rel way d e → All_rel way (go_on f d) (go_on f e)
  go_on_below next d e b s = b s
  go_on_below breaks d e b s = same_rel way _
  go_on_below continues d e b s = same_rel way _
  go_on_below (returns v) d e b s = same_rel way _

  turned_below : (f : Flow) (d e : Does) → All_rel way d e → All_rel way (turned f d) (turned f e)
  turned_below next d e b s = b s
  turned_below continues d e b s = b s
  turned_below breaks d e b s = same_rel way _
  turned_below (returns v) d e b s = same_rel way _

  abbrev lefts : List (Both Execution_rel) → List Execution
  lefts ss = map (λ e. e.0) ss

  abbrev rights : List (Both Execution_rel) → List Execution
  rights ss = map (λ e. e.1) ss

  sequence_below : (ss : List (Both Execution_rel)) → All_rel way (sequence (map (λ e. e.0) ss)) (sequence (map (λ e. e.1) ss))
  sequence_below [] s = same_rel way _
  sequence_below (a ∷ rest) s = then_rel way _ _ _ _ (a.2.does s) (λ f. go_on_below f _ _ (sequence_below rest))

  declared_same : (ss : List (Both Execution_rel)) → declared (map (λ e. e.0) ss) ≡ declared (map (λ e. e.1) ss)
  declared_same [] = refl
  declared_same (a ∷ rest) = ap (λ xs. xs ++ declared (map (λ e. e.0) rest)) a.2.declares ∙ ap (λ xs. a.1.declares ++ xs) (declared_same rest)

  block_below : (ss : List (Both Execution_rel)) (xs ys : List ℕ) → xs ≡ ys → (f g : Does) → All_rel way f g → All_rel way (λ s. f (all_unset xs s)) (λ s. g (all_unset ys s))
  block_below ss xs ys e f g b s = subst (λ zs. Rel way (f (all_unset xs s)) (g (all_unset zs s))) e (b (all_unset xs s))

  -- the statements from a label on, side by side

  abbrev from_both : Option ℕ → List (Both Execution_rel) → Option (List (Both Execution_rel))
  from_both l [] = None
  from_both l (a ∷ rest) = if among l a.0.labels then Some (a ∷ rest) else from_both l rest

  abbrev all_left : Option (List (Both Execution_rel)) → Option (List Execution)
  all_left None = None
  all_left (Some ss) = Some (map (λ e. e.0) ss)

  abbrev all_right : Option (List (Both Execution_rel)) → Option (List Execution)
  all_right None = None
  all_right (Some ss) = Some (map (λ e. e.1) ss)

  choose_left : (b : Bool) (ss : List (Both Execution_rel)) (o : Option (List (Both Execution_rel))) (p : Option (List Execution)) → p ≡ all_left o → (if b then Some (map (λ e. e.0) ss) else p) ≡ all_left (if b then Some ss else o)
  choose_left true ss o p e = refl
  choose_left false ss o p e = e

  choose_right : (b : Bool) (ss : List (Both Execution_rel)) (o : Option (List (Both Execution_rel))) (p : Option (List Execution)) → p ≡ all_right o → (if b then Some (map (λ e. e.1) ss) else p) ≡ all_right (if b then Some ss else o)
  choose_right true ss o p e = refl
  choose_right false ss o p e = e

  from_left : (l : Option ℕ) (ss : List (Both Execution_rel)) → from_label l (map (λ e. e.0) ss) ≡ all_left (from_both l ss)
  from_left l [] = refl
  from_left l (a ∷ rest) = choose_left (among l a.0.labels) (a ∷ rest) _ _ (from_left l rest)

  from_right : (l : Option ℕ) (ss : List (Both Execution_rel)) → from_label l (map (λ e. e.1) ss) ≡ all_right (from_both l ss)
  from_right l [] = refl
  from_right l (a ∷ rest) =
      ap (λ labels. if among l labels then Some (map (λ e. e.1) (a ∷ rest)) else from_label l (map (λ e. e.1) rest)) (sym a.2.labels)
      ∙ choose_right (among l a.0.labels) (a ∷ rest) _ _ (from_right l rest)

  or_none_below : (o : Option (List (Both Execution_rel))) → All_rel way (or_none (all_left o)) (or_none (all_right o))
  or_none_below None s = same_rel way _
  or_none_below (Some ss) s = sequence_below ss s

  or_default_below : (o p : Option (List (Both Execution_rel))) → All_rel way (or_default (all_left o) (all_left p)) (or_default (all_right o) (all_right p))
  or_default_below None p s = or_none_below p s
  or_default_below (Some ss) p s = sequence_below ss s

  labels_below : (v : ℕ) (ss : List (Both Execution_rel)) → All_rel way (or_default (from_label (Some v) (map (λ e. e.0) ss)) (from_label None (map (λ e. e.0) ss))) (or_default (from_label (Some v) (map (λ e. e.1) ss)) (from_label None (map (λ e. e.1) ss)))
  labels_below v ss s =
      subst (λ a. Rel way (or_default a (from_label None (map (λ e. e.0) ss)) s) (or_default (from_label (Some v) (map (λ e. e.1) ss)) (from_label None (map (λ e. e.1) ss)) s)) (sym (from_left (Some v) ss))
      (subst (λ a. Rel way (or_default (all_left (from_both (Some v) ss)) a s) (or_default (from_label (Some v) (map (λ e. e.1) ss)) (from_label None (map (λ e. e.1) ss)) s)) (sym (from_left None ss))
      (subst (λ a. Rel way (or_default (all_left (from_both (Some v) ss)) (all_left (from_both None ss)) s) (or_default a (from_label None (map (λ e. e.1) ss)) s)) (sym (from_right (Some v) ss))
      (subst (λ a. Rel way (or_default (all_left (from_both (Some v) ss)) (all_left (from_both None ss)) s) (or_default (all_right (from_both (Some v) ss)) a s)) (sym (from_right None ss))
      (or_default_below (from_both (Some v) ss) (from_both None ss) s))))

  turns_rel : (k : ℕ) (t t' : State → Part ℕ) (b b' p p' : Does) → All_rel way t t' → All_rel way b b' → All_rel way p p' → All_rel way (turns k t b p) (turns k t' b' p')
  turns_rel zero t t' b b' p p' ts bs ps s = then_rel way _ _ _ _ (ts s) (λ v s1. same_rel way _)
  turns_rel (suc k) t t' b b' p p' ts bs ps s =
      let ih = turns_rel k t t' b b' p p' ts bs ps in
      then_rel way _ _ _ _ (ts s) (λ v. zero_rel way v _ _ _ _ (λ s1. same_rel way _) (λ s1. then_rel way _ _ _ _ (bs s1) (λ f. turned_below f _ _ (λ s2. then_rel way _ _ _ _ (ps s2) (λ g. ih)))))

  do_turns_rel : (k : ℕ) (t t' : State → Part ℕ) (b b' : Does) → All_rel way t t' → All_rel way b b' → All_rel way (do_turns k t b) (do_turns k t' b')
  do_turns_rel zero t t' b b' ts bs s = same_rel way _
  do_turns_rel (suc k) t t' b b' ts bs s =
      let ih = do_turns_rel k t t' b b' ts bs in
      then_rel way _ _ _ _ (bs s) (λ f. turned_below f _ _ (λ s1. then_rel way _ _ _ _ (ts s1) (λ v. zero_rel way v _ _ _ _ (λ s2. same_rel way _) ih)))

  module _ (p : Operators) (n : ℕ) (c : World) (d : Calls) (calls : Calls_rel way c.call d) (helps : Helps p n way c.bits d) where
    abbrev w : World
    w = with_calls c d

    abbrev low : TypedExpr → TypedExpr
    low = lower_expr p n

    needs : (e : TypedExpr) → All_rel way (needed (meaning c e)) (needed (meaning w (low e)))
    needs e = needed_below way _ _ (lowers_expr p n way c d calls helps e)

    elements_rel : (x i : ℕ) (es : List TypedExpr) → All_rel way (elements c x i es) (elements w x i (map low es))
    elements_rel x i [] s = same_rel way _
    elements_rel x i (e ∷ es) s = then_rel way _ _ _ _ (needs e s) (λ v s1. elements_rel x (suc i) es _)

    as_many : (es : List TypedExpr) → length es ≡ length (map low es)
    as_many [] = refl
    as_many (e ∷ es) = ap suc (as_many es)

    initialise_rel : (x : ℕ) (i : LocalInit) → All_rel way (initialise c x i) (initialise w x (lower_init p n i))
    initialise_rel x init.Absent s = same_rel way _
    initialise_rel x (init.Value e) s = then_rel way _ _ _ _ (needs e s) (λ v s1. same_rel way _)
    initialise_rel x (init.List es) s =
        subst (λ k. Rel way (initialise c x (init.List es) s) (then_do (elements w x 0 (map low es) s) (λ f s1. give next (fill x k (Some 0) s1)))) (as_many es)
        (then_rel way _ _ _ _ (elements_rel x 0 es s) (λ f s1. same_rel way _))

    declare_rel : (ls : List Local) → All_rel way (declare c ls) (declare w (map (lower_local p n) ls))
    declare_rel [] s = same_rel way _
    declare_rel (l ∷ ls) s = then_rel way _ _ _ _ (initialise_rel l.number l.init s) (λ f. declare_rel ls)

    same_numbers : (ls : List Local) → numbers ls ≡ numbers (map (lower_local p n) ls)
    same_numbers [] = refl
    same_numbers (l ∷ ls) = ap (λ xs. l.number ∷ xs) (same_numbers ls)

    tested_rel : (e : Option TypedExpr) → All_rel way (tested c e) (tested w (lower_option p n e))
    tested_rel None s = same_rel way _
    tested_rel (Some e) s = needs e s

    evaluated_rel : (e : Option TypedExpr) → All_rel way (evaluated c e) (evaluated w (lower_option p n e))
    evaluated_rel None s = same_rel way _
    evaluated_rel (Some e) s = then_rel way _ _ _ _ ((lowers_expr p n way c d calls helps e).value s) (λ v s1. same_rel way _)

    started_rel : (x : Start) → All_rel way (started c x) (started w (lower_start p n x))
    started_rel start.Absent s = same_rel way _
    started_rel (start.Value e) s = evaluated_rel (Some e) s
    started_rel (start.Declared at ls) s =
        subst (λ xs. Rel way (started c (start.Declared at ls) s) (declare w (map (lower_local p n) ls) (all_unset xs s))) (same_numbers ls) (declare_rel ls (all_unset (numbers ls) s))

    returned_rel : (at : At) (e : Option TypedExpr) → All_rel way (returned c at e) (returned w at (lower_option p n e))
    returned_rel at None s = same_rel way _
    returned_rel at (Some e) s = then_rel way _ _ _ _ (needs e s) (λ v s1. same_rel way _)

    module _ (k : ℕ) where
      pub record Becomes (a : Execution) (b : Stat) : Type 0 where
        pub does : Execution_rel a (execution w k b)

      abbrev seen : Both Becomes → Both Execution_rel
      seen e = (e.0, execution w k e.1, e.2.does)

      rolled : (a : Execution) (y : Stat-F Stat) → Execution_rel a (statement w k (map-Stat Stat Execution (execution w k) y)) → Becomes a (roll-Stat y)
      rolled a y r = record { does = subst (Execution_rel a) (sym (fold-roll-Stat Execution (statement w k) y)) r }

      firsts : (ss : List (Both Becomes)) → map (λ e. e.0) (map seen ss) ≡ map (λ e. e.0) ss
      firsts [] = refl
      firsts (s ∷ ss) = ap (λ xs. s.0 ∷ xs) (firsts ss)

      seconds : (ss : List (Both Becomes)) → map (λ e. e.1) (map seen ss) ≡ map (execution w k) (map (λ e. e.1) ss)
      seconds [] = refl
      seconds (s ∷ ss) = ap (λ xs. execution w k s.1 ∷ xs) (seconds ss)

      block_rel : (at : At) (ss : List (Both Becomes)) → Execution_rel (statement c k (Block at (map (λ e. e.0) ss))) (statement w k (Block at (map (execution w k) (map (λ e. e.1) ss))))
      block_rel at ss =
          subst (λ xs. Execution_rel (statement c k (Block at xs)) (statement w k (Block at (map (execution w k) (map (λ e. e.1) ss))))) (firsts ss)
          (subst (λ ys. Execution_rel (statement c k (Block at (map (λ e. e.0) (map seen ss)))) (statement w k (Block at ys))) (seconds ss)
          (plain_below _ _ (block_below (map seen ss) _ _ (declared_same (map seen ss)) _ _ (sequence_below (map seen ss)))))

      switch_rel : (at : At) (e : TypedExpr) (ss : List (Both Becomes)) → Execution_rel (statement c k (Switch at e (map (λ e. e.0) ss))) (statement w k (Switch at (low e) (map (execution w k) (map (λ e. e.1) ss))))
      switch_rel at e ss =
          subst (λ xs. Execution_rel (statement c k (Switch at e xs)) (statement w k (Switch at (low e) (map (execution w k) (map (λ e. e.1) ss))))) (firsts ss)
          (subst (λ ys. Execution_rel (statement c k (Switch at e (map (λ e. e.0) (map seen ss)))) (statement w k (Switch at (low e) ys))) (seconds ss)
          (plain_below _ _ (λ s. then_rel way _ _ _ _ (needs e s) (λ v s1. then_rel way _ _ _ _ (block_below (map seen ss) _ _ (declared_same (map seen ss)) _ _ (labels_below v (map seen ss)) s1) (λ f s2. same_rel way _)))))

      statement_rel : (y : Stat-F (Both Becomes)) → Becomes (statement c k (map-Stat (Both Becomes) Execution (λ e. e.0) y)) (lower_statement p n (map-Stat (Both Becomes) Stat (λ e. e.1) y))
      unfolding roll-Stat denote.Hole.Carrier.roll
      statement_rel (Block at ss) = rolled _ (Block at (map (λ e. e.1) ss)) (block_rel at ss)
      statement_rel (Declare at ls) = rolled _ (Declare at (map (lower_local p n) ls)) (record { does = declare_rel ls; labels = refl; declares = same_numbers ls })
      statement_rel (Evaluate at e) = rolled _ (Evaluate at (lower_option p n e)) (plain_below _ _ (evaluated_rel e))
      statement_rel (If at e a None) = rolled _ (If at (low e) a.1 None) (plain_below _ _ (λ s. then_rel way _ _ _ _ (needs e s) (λ v. zero_rel way v _ _ _ _ (λ s1. same_rel way _) a.2.does.does)))
      statement_rel (If at e a (Some b)) = rolled _ (If at (low e) a.1 (Some b.1)) (plain_below _ _ (λ s. then_rel way _ _ _ _ (needs e s) (λ v. zero_rel way v _ _ _ _ b.2.does.does a.2.does.does)))
      statement_rel (While at e a) = rolled _ (While at (low e) a.1) (plain_below _ _ (turns_rel k _ _ _ _ _ _ (needs e) a.2.does.does (λ s. same_rel way _)))
      statement_rel (DoWhile at a e) = rolled _ (DoWhile at a.1 (low e)) (plain_below _ _ (do_turns_rel k _ _ _ _ (needs e) a.2.does.does))
      statement_rel (For at first test step a) =
          rolled _ (For at (lower_start p n first) (lower_option p n test) (lower_option p n step) a.1)
          (plain_below _ _ (λ s. then_rel way _ _ _ _ (started_rel first s) (λ f. turns_rel k _ _ _ _ _ _ (tested_rel test) a.2.does.does (evaluated_rel step))))
      statement_rel (Switch at e ss) = rolled _ (Switch at (low e) (map (λ e. e.1) ss)) (switch_rel at e ss)
      statement_rel (Case at v a) = rolled _ (Case at v a.1) (record { does = a.2.does.does; labels = ap (λ ls. Some v ∷ ls) a.2.does.labels; declares = refl })
      statement_rel (Default at a) = rolled _ (Default at a.1) (record { does = a.2.does.does; labels = ap (λ ls. None ∷ ls) a.2.does.labels; declares = refl })
      statement_rel (Break at) = rolled _ (Break at) (plain_below _ _ (λ s. same_rel way _))
      statement_rel (Continue at) = rolled _ (Continue at) (plain_below _ _ (λ s. same_rel way _))
      statement_rel (Return at e) = rolled _ (Return at (lower_option p n e)) (plain_below _ _ (returned_rel at e))

      pub lowers_stat : (b : Stat) → Execution_rel (execution c k b) (execution w k (lower_stat p n b))
      lowers_stat b = (stat_relates Execution Stat (statement c k) (lower_statement p n) Becomes statement_rel b).does
