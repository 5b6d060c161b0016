-- Where calls go further and loops may make more turns, statements do.
use Rattle.std.proofs.Common.{◌≡◌, ℕ, zero, suc, ◌≤◌, List, [], ◌∷◌, ◌++◌, map, Option, Some, None, Bool, true, false, if◌then◌else◌, refl, sym, ap, subst, ◌∙◌, arith}
use Rattle.c_tree.specs.declared.token.At.{At}
use Rattle.c_tree.specs.declared.typed.TypedExpr.{TypedExpr}
use Rattle.c_tree.specs.declared.typed.LocalInit.{LocalInit}
use Rattle.c_tree.specs.declared.typed.LocalInit.TheVariants as init
use Rattle.c_tree.specs.declared.typed.Local.{Local}
use Rattle.c_tree.specs.declared.typed.Start.{Start}
use Rattle.c_tree.specs.declared.typed.Start.TheVariants as start
use Rattle.c_tree.specs.declared.typed.Stat.{Stat}
use Rattle.c_tree.specs.declared.typed.Stat.TheOpen.{Stat-F, Block, Declare, Evaluate, If, While, DoWhile, For, Switch, Case, Default, Break, Continue, Return}
use Rattle.c_tree.specs.declared.typed.Stat.TheFolds.{map-Stat}
use Rattle.c_meaning.specs.Parts.{State, Part}
use Rattle.c_meaning.specs.Expressions.{World, Calls, needed, meaning}
use Rattle.c_meaning.specs.Statements.{Flow, next, breaks, continues, returns, Does, Execution, plain, go_on, sequence, all_unset, declared, elements, initialise, declare, turned, tested, evaluated, turns, do_turns, started, among, from_label, or_none, or_default, returned, statement, execution}
use Rattle.c_tree.proofs.TypedFolds.{Both, stat_relates}
use Rattle.c_meaning.proofs.Below.{Below, All_below, same, cut_below, then_below, zero_below}
use Rattle.c_meaning.proofs.Expressions.{Calls_below, with_calls, meaning_below, value_below}

pub record Execution_below (a b : Execution) : Type 0 where
  pub does : All_below a.does b.does
  pub labels : a.labels ≡ b.labels
  pub declares : a.declares ≡ b.declares

plain_below : (f g : Does) → All_below f g → Execution_below (plain f) (plain g)
plain_below f g b = record { does = b; labels = refl; declares = refl }

go_on_below : (f : Flow) (d e : Does) → All_below d e → All_below (go_on f d) (go_on f e)
go_on_below next d e b s = b s
go_on_below breaks d e b s = same _
go_on_below continues d e b s = same _
go_on_below (returns v) d e b s = same _

turned_below : (f : Flow) (d e : Does) → All_below d e → All_below (turned f d) (turned f e)
turned_below next d e b s = b s
turned_below continues d e b s = b s
turned_below breaks d e b s = same _
turned_below (returns v) d e b s = same _

abbrev lefts : List (Both Execution_below) → List Execution
lefts ss = map (λ e. e.0) ss

abbrev rights : List (Both Execution_below) → List Execution
rights ss = map (λ e. e.1) ss

sequence_below : (ss : List (Both Execution_below)) → All_below (sequence (map (λ e. e.0) ss)) (sequence (map (λ e. e.1) ss))
sequence_below [] s = same _
sequence_below (a ∷ rest) s = then_below _ _ _ _ (a.2.does s) (λ f. go_on_below f _ _ (sequence_below rest))

declared_same : (ss : List (Both Execution_below)) → declared (map (λ e. e.0) ss) ≡ declared (map (λ e. e.1) ss)
declared_same [] = refl
declared_same (a ∷ rest) = ap (λ xs. xs ++ declared (map (λ e. e.0) rest)) a.2.declares ∙ ap (λ xs. a.1.declares ++ xs) (declared_same rest)

block_below : (ss : List (Both Execution_below)) (xs ys : List ℕ) → xs ≡ ys → (f g : Does) → All_below f g → All_below (λ s. f (all_unset xs s)) (λ s. g (all_unset ys s))
block_below ss xs ys e f g b s = subst (λ zs. Below (f (all_unset xs s)) (g (all_unset zs s))) e (b (all_unset xs s))

-- the statements from a label on, side by side

abbrev from_both : Option ℕ → List (Both Execution_below) → Option (List (Both Execution_below))
from_both l [] = None
from_both l (a ∷ rest) = if among l a.0.labels then Some (a ∷ rest) else from_both l rest

abbrev all_left : Option (List (Both Execution_below)) → Option (List Execution)
all_left None = None
all_left (Some ss) = Some (map (λ e. e.0) ss)

abbrev all_right : Option (List (Both Execution_below)) → Option (List Execution)
all_right None = None
all_right (Some ss) = Some (map (λ e. e.1) ss)

choose_left : (b : Bool) (ss : List (Both Execution_below)) (o : Option (List (Both Execution_below))) (p : Option (List Execution)) → p ≡ all_left o → (if b then Some (map (λ e. e.0) ss) else p) ≡ all_left (if b then Some ss else o)
choose_left true ss o p e = refl
choose_left false ss o p e = e

choose_right : (b : Bool) (ss : List (Both Execution_below)) (o : Option (List (Both Execution_below))) (p : Option (List Execution)) → p ≡ all_right o → (if b then Some (map (λ e. e.1) ss) else p) ≡ all_right (if b then Some ss else o)
choose_right true ss o p e = refl
choose_right false ss o p e = e

from_left : (l : Option ℕ) (ss : List (Both Execution_below)) → from_label l (map (λ e. e.0) ss) ≡ all_left (from_both l ss)
from_left l [] = refl
from_left l (a ∷ rest) = choose_left (among l a.0.labels) (a ∷ rest) _ _ (from_left l rest)

from_right : (l : Option ℕ) (ss : List (Both Execution_below)) → from_label l (map (λ e. e.1) ss) ≡ all_right (from_both l ss)
from_right l [] = refl
from_right l (a ∷ rest) =
    ap (λ labels. if among l labels then Some (map (λ e. e.1) (a ∷ rest)) else from_label l (map (λ e. e.1) rest)) (sym a.2.labels)
    ∙ choose_right (among l a.0.labels) (a ∷ rest) _ _ (from_right l rest)

or_none_below : (o : Option (List (Both Execution_below))) → All_below (or_none (all_left o)) (or_none (all_right o))
or_none_below None s = same _
or_none_below (Some ss) s = sequence_below ss s

or_default_below : (o p : Option (List (Both Execution_below))) → All_below (or_default (all_left o) (all_left p)) (or_default (all_right o) (all_right p))
or_default_below None p s = or_none_below p s
or_default_below (Some ss) p s = sequence_below ss s

labels_below : (v : ℕ) (ss : List (Both Execution_below)) → All_below (or_default (from_label (Some v) (map (λ e. e.0) ss)) (from_label None (map (λ e. e.0) ss))) (or_default (from_label (Some v) (map (λ e. e.1) ss)) (from_label None (map (λ e. e.1) ss)))
labels_below v ss s =
    subst (λ a. Below (or_default a (from_label None (map (λ e. e.0) ss)) s) (or_default (from_label (Some v) (map (λ e. e.1) ss)) (from_label None (map (λ e. e.1) ss)) s)) (sym (from_left (Some v) ss))
    (subst (λ a. Below (or_default (all_left (from_both (Some v) ss)) a s) (or_default (from_label (Some v) (map (λ e. e.1) ss)) (from_label None (map (λ e. e.1) ss)) s)) (sym (from_left None ss))
    (subst (λ a. Below (or_default (all_left (from_both (Some v) ss)) (all_left (from_both None ss)) s) (or_default a (from_label None (map (λ e. e.1) ss)) s)) (sym (from_right (Some v) ss))
    (subst (λ a. Below (or_default (all_left (from_both (Some v) ss)) (all_left (from_both None ss)) s) (or_default (all_right (from_both (Some v) ss)) a s)) (sym (from_right None ss))
    (or_default_below (from_both (Some v) ss) (from_both None ss) s))))

-- ---- loops

module _ where
  turns_below : (k j : ℕ) → k ≤ j → (t t' : State → Part ℕ) (b b' p p' : Does) → All_below t t' → All_below b b' → All_below p p' → All_below (turns k t b p) (turns j t' b' p')
  turns_below zero zero le t t' b b' p p' ts bs ps s = then_below _ _ _ _ (ts s) (λ v s1. same _)
  turns_below zero (suc j) le t t' b b' p p' ts bs ps s = then_below _ _ _ _ (ts s) (λ v. zero_below v _ _ _ _ (λ s1. same _) (λ s1. cut_below _))
  turns_below (suc k) zero le t t' b b' p p' ts bs ps s = absurd (omega (arith, le))
  turns_below (suc k) (suc j) le t t' b b' p p' ts bs ps s =
      let ih = turns_below k j (omega (arith, le)) t t' b b' p p' ts bs ps in
      then_below _ _ _ _ (ts s) (λ v. zero_below v _ _ _ _ (λ s1. same _) (λ s1. then_below _ _ _ _ (bs s1) (λ f. turned_below f _ _ (λ s2. then_below _ _ _ _ (ps s2) (λ g. ih)))))

  do_turns_below : (k j : ℕ) → k ≤ j → (t t' : State → Part ℕ) (b b' : Does) → All_below t t' → All_below b b' → All_below (do_turns k t b) (do_turns j t' b')
  do_turns_below zero j le t t' b b' ts bs s = cut_below _
  do_turns_below (suc k) zero le t t' b b' ts bs s = absurd (omega (arith, le))
  do_turns_below (suc k) (suc j) le t t' b b' ts bs s =
      let ih = do_turns_below k j (omega (arith, le)) t t' b b' ts bs in
      then_below _ _ _ _ (bs s) (λ f. turned_below f _ _ (λ s1. then_below _ _ _ _ (ts s1) (λ v. zero_below v _ _ _ _ (λ s2. same _) ih)))

-- ---- statements

module _ (c : World) (d : Calls) (calls : Calls_below c.call d) where
  abbrev w : World
  w = with_calls c d

  needs : (e : TypedExpr) → All_below (needed (meaning c e)) (needed (meaning w e))
  needs e = value_below c d calls e

  elements_below : (x i : ℕ) (es : List TypedExpr) → All_below (elements c x i es) (elements w x i es)
  elements_below x i [] s = same _
  elements_below x i (e ∷ es) s = then_below _ _ _ _ (needs e s) (λ v s1. elements_below x (suc i) es _)

  initialise_below : (x : ℕ) (i : LocalInit) → All_below (initialise c x i) (initialise w x i)
  initialise_below x init.Absent s = same _
  initialise_below x (init.Value e) s = then_below _ _ _ _ (needs e s) (λ v s1. same _)
  initialise_below x (init.List es) s = then_below _ _ _ _ (elements_below x 0 es s) (λ f s1. same _)

  declare_below : (ls : List Local) → All_below (declare c ls) (declare w ls)
  declare_below [] s = same _
  declare_below (l ∷ ls) s = then_below _ _ _ _ (initialise_below l.number l.init s) (λ f. declare_below ls)

  tested_below : (e : Option TypedExpr) → All_below (tested c e) (tested w e)
  tested_below None s = same _
  tested_below (Some e) s = needs e s

  evaluated_below : (e : Option TypedExpr) → All_below (evaluated c e) (evaluated w e)
  evaluated_below None s = same _
  evaluated_below (Some e) s = then_below _ _ _ _ ((meaning_below c d calls e).value s) (λ v s1. same _)

  started_below : (x : Start) → All_below (started c x) (started w x)
  started_below start.Absent s = same _
  started_below (start.Value e) s = evaluated_below (Some e) s
  started_below (start.Declared at ls) s = declare_below ls _

  returned_below : (at : At) (e : Option TypedExpr) → All_below (returned c at e) (returned w at e)
  returned_below at None s = same _
  returned_below at (Some e) s = then_below _ _ _ _ (needs e s) (λ v s1. same _)

  module _ (n m : ℕ) (le : n ≤ m) where
    statement_below : (y : Stat-F (Both Execution_below)) → Execution_below (statement c n (map-Stat (Both Execution_below) Execution (λ e. e.0) y)) (statement w m (map-Stat (Both Execution_below) Execution (λ e. e.1) y))
    statement_below (Block at ss) = plain_below _ _ (block_below ss _ _ (declared_same ss) _ _ (sequence_below ss))
    statement_below (Declare at ls) = record { does = declare_below ls; labels = refl; declares = refl }
    statement_below (Evaluate at e) = plain_below _ _ (evaluated_below e)
    statement_below (If at e a None) = plain_below _ _ (λ s. then_below _ _ _ _ (needs e s) (λ v. zero_below v _ _ _ _ (λ s1. same _) a.2.does))
    statement_below (If at e a (Some b)) = plain_below _ _ (λ s. then_below _ _ _ _ (needs e s) (λ v. zero_below v _ _ _ _ b.2.does a.2.does))
    statement_below (While at e a) = plain_below _ _ (turns_below n m le _ _ _ _ _ _ (needs e) a.2.does (λ s. same _))
    statement_below (DoWhile at a e) = plain_below _ _ (do_turns_below n m le _ _ _ _ (needs e) a.2.does)
    statement_below (For at first test step a) = plain_below _ _ (λ s. then_below _ _ _ _ (started_below first s) (λ f. turns_below n m le _ _ _ _ _ _ (tested_below test) a.2.does (evaluated_below step)))
    statement_below (Switch at e ss) = plain_below _ _ (λ s. then_below _ _ _ _ (needs e s) (λ v s1. then_below _ _ _ _ (block_below ss _ _ (declared_same ss) _ _ (labels_below v ss) s1) (λ f s2. same _)))
    statement_below (Case at v a) = record { does = a.2.does; labels = ap (λ ls. Some v ∷ ls) a.2.labels; declares = refl }
    statement_below (Default at a) = record { does = a.2.does; labels = ap (λ ls. None ∷ ls) a.2.labels; declares = refl }
    statement_below (Break at) = plain_below _ _ (λ s. same _)
    statement_below (Continue at) = plain_below _ _ (λ s. same _)
    statement_below (Return at e) = plain_below _ _ (returned_below at e)

    pub execution_below : (b : Stat) → Execution_below (execution c n b) (execution w m b)
    execution_below = stat_relates Execution Execution (statement c n) (statement w m) Execution_below statement_below
