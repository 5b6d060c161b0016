-- Each statement's code does what the statement does.
use Rattle.std.proofs.Common.{◌≡◌, ℕ, ◌≤◌, List, [], ◌∷◌, map, Option, Some, None, refl, sym, subst}
use Rattle.std.specs.Prelude.{Bool, true, false, ◌&&◌, not, max}
use Rattle.md_shapes.specs.Shapes.{Frame as Fixed}
use Rattle.c_tree.specs.declared.types.CType.{CType}
use Rattle.c_tree.specs.declared.types.CType.TheVariants as type
use Rattle.c_tree.specs.declared.typed.TypedExpr.{TypedExpr}
use Rattle.c_tree.specs.declared.typed.Local.{Local}
use Rattle.c_tree.specs.declared.typed.Start.{Start}
use Rattle.c_tree.specs.declared.typed.Stat.{Stat}
use Rattle.c_tree.specs.declared.typed.Stat.TheOpen.{Stat-F, Block, Declare, Evaluate, If, While, DoWhile, For, Switch, Case, Default, Break, Continue, Return}
use Rattle.c_tree.specs.declared.typed.Stat.TheFolds.{map-Stat}
use Rattle.c_tree.specs.declared.typed.Function.{Function}
use Rattle.c_tree.specs.declared.typed.Typed.{Typed}
use Rattle.c_limits.specs.Depths.{arguments_of, greatest, in_statement, greatest_in, in_option, in_start, in_locals}
use Rattle.c_meaning.specs.Parts.{State, then_do, give, word}
use Rattle.c_meaning.specs.Expressions.{Calls as SourceCalls, World, needed, at_zero, meaning}
use Rattle.c_meaning.specs.Run.{is_main}
use Rattle.c_meaning.specs.Statements.{returns, Does as SourceDoes, Execution, nothing, plain, sequence, all_unset, numbers, declared, declare, tested, evaluated, turns, do_turns, started, from_label, or_default, left, or_else, statement, execution}
use Rattle.temp_machine.specs.Routines.{Image, Target}
use Rattle.naive_code.specs.Expressions.{Site, naive}
use Rattle.naive_code.specs.Statements.{Steps, no_steps, enclosed, all_joined, locals_steps, dropped, evaluated as evaluated_steps, started as started_steps, test_in, if_steps, while_steps, do_steps, for_steps, switch_steps, return_steps, node_steps, steps_of}
use Rattle.naive_run.specs.Sound.{alike, checked, Left, simple, both, all_left, or_simple, with, in_loop, in_switch, is_sound_or_absent, fits_start, fit_locals, left_by, left_of}
use Rattle.naive_step.proofs.Making.{Call as Active}
use Rattle.naive_assigned.proofs.Ready.{Ready, outgoing}
use Rattle.naive_values.proofs.Asked.{Any}
use Rattle.naive_calls.proofs.Calling.{CallsDo}
use Rattle.naive_assigns.proofs.Assigning.{world}
use Rattle.naive_nodes.proofs.Folds.{Four}
use Rattle.naive_nodes.proofs.Nodes.{both_so}
use Rattle.naive_statements.proofs.Asked.{StepsDo}
use Rattle.naive_statements.proofs.Simple.{dropped_does, break_does, continue_does, return_nothing, return_value, if_does, if_else_does}
use Rattle.naive_statements.proofs.Loops.{while_does}
use Rattle.naive_statements.proofs.DoWhile.{do_does}
use Rattle.naive_statements.proofs.For.{for_does}
use Rattle.naive_statements.proofs.Blocks.{nothing_does, block_does}
use Rattle.naive_switch.proofs.Entering.{Executes, unlabelled, labelled_executes, All_execute, all_do}
use Rattle.naive_switch.proofs.Switching.{switch_does}
use Rattle.naive_bodies.proofs.Folds.{four_statements}
use Rattle.naive_bodies.proofs.Leaving.{Leaves, Is_next, May, May_of, leaves_then, leaves_as, leaves_at_zero, may_first, may_second, next_may, declare_next, leaves_turns, leaves_do_turns, All_leave, sequence_leaves, switch_leaves}
use Rattle.naive_bodies.proofs.Initialising.{not_sound, Lists_do, here, Relates, relates, fewer_left, fewer_right, locals_cases, past_steps, locals_past, evaluated_past, started_past, held_or_tested}

not_so : (b : Bool) → not b ≡ true → b ≡ false
not_so true e = not_sound e
not_so false e = refl

-- types that count as one do so either way
other_way : (a b : CType) → alike a b ≡ true → alike b a ≡ true
other_way type.Schar type.Schar e = refl
other_way type.Schar _ e = not_sound e
other_way type.Uchar type.Uchar e = refl
other_way type.Uchar _ e = not_sound e
other_way type.Int type.Int e = refl
other_way type.Int type.Unsigned e = refl
other_way type.Int _ e = not_sound e
other_way type.Unsigned type.Int e = refl
other_way type.Unsigned type.Unsigned e = refl
other_way type.Unsigned _ e = not_sound e
other_way type.Void type.Void e = refl
other_way type.Void _ e = not_sound e

module _ (t : Target) (u : Image) (m : Fixed) (source : Typed) (f : Function) (k : Active) (ready : Ready t u m source f k) (n : ℕ) (call : SourceCalls) (calls : CallsDo t u m source f k ready n call) (most : ℕ) (le : n ≤ most)
    (lists : Lists_do t u m source f k ready n call) where
  abbrev W : World
  W = world t u m source f k ready n call

  abbrev S : Site
  S = here t u m source f k ready n call

  abbrev few_words : ℕ
  few_words = outgoing t u m source f k ready

  abbrev Runs : Execution → Steps → Type 0
  Runs = Executes t u m source f k ready n

  -- what relates a statement and its code, where it is sound and its calls have no more arguments than there are words for
  pub record Coded (e : Execution) (p : Steps) (l : Left) (arguments : ℕ) : Type 0 where
    pub executes : l.sound ≡ true → arguments ≤ few_words → Runs e p
    pub leaves : l.sound ≡ true → (s : State) → Leaves (May_of f l) (e.does s)

  abbrev Q : Type 0
  Q = Four Execution Steps Left ℕ Coded

  abbrev ex : Q → Execution
  ex x = x.0

  abbrev st : Q → Steps
  st x = x.1

  abbrev lf : Q → Left
  lf x = x.2

  abbrev expression : (e : TypedExpr) → Relates t u m source f k ready n call calls e
  expression = relates t u m source f k ready n call calls

  in_left : (a b : ℕ) → max a b ≤ few_words → a ≤ few_words
  in_left = fewer_left t u m source f k ready n call calls

  in_right : (a b : ℕ) → max a b ≤ few_words → b ≤ few_words
  in_right = fewer_right t u m source f k ready n call calls

  -- a statement without labels
  unlabelled_runs : (d : SourceDoes) (p : Steps) → p.cases ≡ [] → StepsDo t u m source f k ready n d p → Runs (plain d) p
  unlabelled_runs d p none does = unlabelled t u m source f k ready n (plain d) p refl none does

  -- ---- lists of statements

  all_run : (xs : List Q) → (all_left (map lf xs)).sound ≡ true → greatest (map (λ e. e.3) xs) ≤ few_words → All_execute t u m source f k ready n Q ex st xs
  all_run [] sound few = tt
  all_run (x ∷ xs) sound few =
      let p = both_so x.2.sound (all_left (map lf xs)).sound sound in
      (x.4.executes p.0 (in_left x.3 (greatest (map (λ e. e.3) xs)) few), all_run xs p.1 (in_right x.3 (greatest (map (λ e. e.3) xs)) few))

  all_leave : (xs : List Q) → (all_left (map lf xs)).sound ≡ true → All_leave f Q ex lf xs
  all_leave [] sound = tt
  all_leave (x ∷ xs) sound = let p = both_so x.2.sound (all_left (map lf xs)).sound sound in (x.4.leaves p.0, all_leave xs p.1)

  block_coded : (ss : List Q) → Coded (plain (λ s. sequence (map ex ss) (all_unset (declared (map ex ss)) s))) (enclosed (all_joined (map st ss))) (all_left (map lf ss)) (greatest (map (λ e. e.3) ss))
  block_coded ss = record {
    executes = λ sound few. unlabelled_runs _ (enclosed (all_joined (map st ss))) refl
        (block_does t u m source f k ready n (declared (map ex ss)) (sequence (map ex ss)) (all_joined (map st ss)) (all_do t u m source f k ready n Q ex st ss (all_run ss sound few)));
    leaves = λ sound s. sequence_leaves f Q ex lf ss (all_leave ss sound) (all_unset (declared (map ex ss)) s);
  }

  switch_coded : (e : TypedExpr) (ss : List Q)
      → Coded (plain (λ s. then_do (needed (meaning W e) s) (λ v s1. then_do (or_default (from_label (Some v) (map ex ss)) (from_label None (map ex ss)) (all_unset (declared (map ex ss)) s1)) left)))
      (switch_steps S f.locals (naive S e).value (all_joined (map st ss))) (with (checked t.word source f e).sound (in_switch (all_left (map lf ss)))) (max (greatest (map (λ e. e.3) ss)) (arguments_of e))
  switch_coded e ss = record {
    executes = λ sound few.
        let p = both_so (checked t.word source f e).sound (all_left (map lf ss)).sound sound in
        unlabelled_runs _ (switch_steps S f.locals (naive S e).value (all_joined (map st ss))) refl
        (switch_does t u m source f k ready n (meaning W e).of (meaning W e).value (naive S e).value (expression e).fresh ((expression e).value p.0 (in_right (greatest (map (λ e. e.3) ss)) (arguments_of e) few)) S f.locals Q ex st ss
        (all_run ss p.1 (in_left (greatest (map (λ e. e.3) ss)) (arguments_of e) few)) (declared (map ex ss)));
    leaves = λ sound s. leaves_then (May f false (all_left (map lf ss)).continues) (needed (meaning W e) s)
        (λ v s1. then_do (or_default (from_label (Some v) (map ex ss)) (from_label None (map ex ss)) (all_unset (declared (map ex ss)) s1)) left)
        (λ v s1. switch_leaves f Q ex lf (Some v) ss (all_leave ss (both_so (checked t.word source f e).sound (all_left (map lf ss)).sound sound).1) (all_unset (declared (map ex ss)) s1));
  }

  -- ---- declarations, expressions and returns

  declare_coded : (ls : List Local) → Coded (record { does = declare W ls; labels = []; declares = numbers ls }) (locals_steps S f.locals ls) (simple (fit_locals t.word source f ls)) (in_locals arguments_of ls)
  declare_coded ls = record {
    executes = λ sound few. unlabelled t u m source f k ready n _ (locals_steps S f.locals ls) refl (locals_cases S f.locals ls)
        (past_steps t u m source f k ready n (declare W ls) (locals_steps S f.locals ls) (declare_next W ls) (locals_past t u m source f k ready n call calls lists ls sound few));
    leaves = λ sound s. leaves_as (May f false false) Is_next (declare W ls s) (next_may f) (declare_next W ls s);
  }

  evaluate_coded : (o : Option TypedExpr) → Coded (plain (evaluated W o)) (evaluated_steps S f.locals o) (simple (is_sound_or_absent t.word source f o)) (in_option arguments_of o)
  evaluate_coded None = record { executes = λ sound few. unlabelled_runs (evaluated W None) no_steps refl (nothing_does t u m source f k ready n); leaves = λ sound s. tt }
  evaluate_coded (Some e) = record {
    executes = λ sound few. unlabelled_runs (evaluated W (Some e)) (dropped (naive S e).value) refl
        (dropped_does t u m source f k ready n (meaning W e).of (meaning W e).value (naive S e).value ((expression e).value sound few));
    leaves = λ sound s. leaves_then (May f false false) ((meaning W e).value s) (λ v. nothing) (λ v s1. tt);
  }

  -- ---- `if`

  module _ (e : TypedExpr) (a : Q) where
    abbrev sound_test : Bool
    sound_test = (checked t.word source f e).sound

    if_coded : Coded (plain (λ s. then_do (needed (meaning W e) s) (λ v. at_zero v (or_else None) a.0.does))) (if_steps S f.locals (naive S e).test a.1 None) (with sound_test (both a.2 (or_simple None))) (max (arguments_of e) (max a.3 0))
    if_coded = record {
      executes = λ sound few.
          let p = both_so sound_test (a.2.sound && true) sound in
          let inner = a.4.executes (both_so a.2.sound true p.1).0 (in_left a.3 0 (in_right (arguments_of e) (max a.3 0) few)) in
          unlabelled_runs _ (if_steps S f.locals (naive S e).test a.1 None) refl
          (if_does t u m source f k ready n f.locals Any (meaning W e).value (naive S e).test (expression e).opens ((expression e).test p.0 (in_left (arguments_of e) (max a.3 0) few)) a.0.does a.1 inner.does S);
      leaves = λ sound s. leaves_then (May_of f (both a.2 (or_simple None))) (needed (meaning W e) s) (λ v. at_zero v (or_else None) a.0.does)
          (λ v s1. leaves_at_zero (May_of f (both a.2 (or_simple None))) v (or_else None) a.0.does s1 tt (leaves_as (May_of f (both a.2 (or_simple None))) (May_of f a.2) (a.0.does s1) (may_first f a.2.breaks false a.2.continues false) (a.4.leaves (both_so a.2.sound true (both_so sound_test (a.2.sound && true) sound).1).0 s1)));
    }

    if_else_coded : (b : Q) → Coded (plain (λ s. then_do (needed (meaning W e) s) (λ v. at_zero v (or_else (Some b.0)) a.0.does))) (if_steps S f.locals (naive S e).test a.1 (Some b.1)) (with sound_test (both a.2 (or_simple (Some b.2))))
        (max (arguments_of e) (max a.3 b.3))
    if_else_coded b = record {
      executes = λ sound few.
          let p = both_so sound_test (a.2.sound && b.2.sound) sound in
          let r = both_so a.2.sound b.2.sound p.1 in
          let inner_few = in_right (arguments_of e) (max a.3 b.3) few in
          let yes = a.4.executes r.0 (in_left a.3 b.3 inner_few) in
          let otherwise = b.4.executes r.1 (in_right a.3 b.3 inner_few) in
          unlabelled_runs _ (if_steps S f.locals (naive S e).test a.1 (Some b.1)) refl
          (if_else_does t u m source f k ready n f.locals Any (meaning W e).value (naive S e).test (expression e).opens ((expression e).test p.0 (in_left (arguments_of e) (max a.3 b.3) few)) a.0.does a.1 yes.does S b.0.does b.1 otherwise.does);
      leaves = λ sound s. leaves_then (May_of f (both a.2 b.2)) (needed (meaning W e) s) (λ v. at_zero v (or_else (Some b.0)) a.0.does)
          (λ v s1. leaves_at_zero (May_of f (both a.2 b.2)) v (or_else (Some b.0)) a.0.does s1
          (leaves_as (May_of f (both a.2 b.2)) (May_of f b.2) (b.0.does s1) (may_second f a.2.breaks b.2.breaks a.2.continues b.2.continues) (b.4.leaves (both_so a.2.sound b.2.sound (both_so sound_test (a.2.sound && b.2.sound) sound).1).1 s1))
          (leaves_as (May_of f (both a.2 b.2)) (May_of f a.2) (a.0.does s1) (may_first f a.2.breaks b.2.breaks a.2.continues b.2.continues) (a.4.leaves (both_so a.2.sound b.2.sound (both_so sound_test (a.2.sound && b.2.sound) sound).1).0 s1)));
    }

    -- ---- loops

    while_coded : Coded (plain (turns most (needed (meaning W e)) a.0.does nothing)) (while_steps S f.locals (naive S e).test a.1) (with sound_test (in_loop a.2)) (max (arguments_of e) a.3)
    while_coded = record {
      executes = λ sound few.
          let p = both_so sound_test a.2.sound sound in
          let inner = a.4.executes p.1 (in_right (arguments_of e) a.3 few) in
          unlabelled_runs _ (while_steps S f.locals (naive S e).test a.1) refl
          (while_does t u m source f k ready n Any (meaning W e).value (naive S e).test ((expression e).test p.0 (in_left (arguments_of e) a.3 few)) a.0.does a.1 inner.does S f.locals most le);
      leaves = λ sound s. leaves_turns f a.2.breaks a.2.continues a.0.does (a.4.leaves (both_so sound_test a.2.sound sound).1) (needed (meaning W e)) nothing most s;
    }

    do_coded : Coded (plain (do_turns most (needed (meaning W e)) a.0.does)) (do_steps S f.locals a.1 (naive S e).test) (with sound_test (in_loop a.2)) (max (arguments_of e) a.3)
    do_coded = record {
      executes = λ sound few.
          let p = both_so sound_test a.2.sound sound in
          let inner = a.4.executes p.1 (in_right (arguments_of e) a.3 few) in
          unlabelled_runs _ (do_steps S f.locals a.1 (naive S e).test) refl
          (do_does t u m source f k ready n Any (meaning W e).value (naive S e).test (expression e).opens ((expression e).test p.0 (in_left (arguments_of e) a.3 few)) a.0.does a.1 inner.does S f.locals most le);
      leaves = λ sound s. leaves_do_turns f a.2.breaks a.2.continues a.0.does (a.4.leaves (both_so sound_test a.2.sound sound).1) (needed (meaning W e)) most s;
    }

  module _ (first : Start) (test step : Option TypedExpr) (a : Q) where
    abbrev sound_start : Bool
    sound_start = fits_start t.word source f first

    abbrev sound_test' : Bool
    sound_test' = is_sound_or_absent t.word source f test

    abbrev sound_step : Bool
    sound_step = is_sound_or_absent t.word source f step

    abbrev arguments_before : ℕ
    arguments_before = max (in_start arguments_of first) (in_option arguments_of test)

    abbrev arguments_in : ℕ
    arguments_in = max (in_option arguments_of step) a.3

    abbrev for_code : Steps
    for_code = for_steps S f.locals (started_steps S f.locals first) (test_in S f.locals test) (evaluated_steps S f.locals step) a.1

    for_runs : sound_start && sound_test' && sound_step && a.2.sound ≡ true → max arguments_before arguments_in ≤ few_words
        → StepsDo t u m source f k ready n (λ s. then_do (started W first s) (λ _. turns most (tested W test) a.0.does (evaluated W step))) for_code
    for_runs sound few =
        let p = both_so (sound_start && sound_test' && sound_step) a.2.sound sound in
        let r = both_so (sound_start && sound_test') sound_step p.0 in
        let z = both_so sound_start sound_test' r.0 in
        let before = in_left arguments_before arguments_in few in
        let inside = in_right arguments_before arguments_in few in
        let inner = a.4.executes p.1 (in_right (in_option arguments_of step) a.3 inside) in
        let begins = started_past t u m source f k ready n call calls lists first z.0 (in_left (in_start arguments_of first) (in_option arguments_of test) before) in
        let steps = evaluated_past t u m source f k ready n call calls lists step r.1 (in_left (in_option arguments_of step) a.3 inside) in
        let holds = held_or_tested t u m source f k ready n call calls lists test z.1 (in_right (in_start arguments_of first) (in_option arguments_of test) before) in
        subst (λ y. StepsDo t u m source f k ready n (λ s. then_do (started W first s) (λ _. turns most y a.0.does (evaluated W step))) for_code) (sym holds.2)
        (for_does t u m source f k ready n Any holds.0 (test_in S f.locals test) holds.1 a.0.does a.1 inner.does (started W first) (evaluated W step) (started_steps S f.locals first) (evaluated_steps S f.locals step) begins steps S f.locals most le)

    for_coded : Coded (plain (λ s. then_do (started W first s) (λ _. turns most (tested W test) a.0.does (evaluated W step)))) for_code (with (sound_start && sound_test' && sound_step) (in_loop a.2)) (max arguments_before arguments_in)
    for_coded = record {
      executes = λ sound few. unlabelled_runs _ for_code refl (for_runs sound few);
      leaves = λ sound s. leaves_then (May f false false) (started W first s) (λ _. turns most (tested W test) a.0.does (evaluated W step))
          (λ _ s1. leaves_turns f a.2.breaks a.2.continues a.0.does (a.4.leaves (both_so (sound_start && sound_test' && sound_step) a.2.sound sound).1) (tested W test) (evaluated W step) most s1);
    }

  -- ---- all of them

  node_coded : (y : Stat-F Q) → Coded (statement W most (map-Stat Q Execution (λ e. e.0) y)) (node_steps S f.locals (map-Stat Q Steps (λ e. e.1) y)) (left_by t.word source f (map-Stat Q Left (λ e. e.2) y))
      (in_statement arguments_of (map-Stat Q ℕ (λ e. e.3) y))
  node_coded (Block at ss) = block_coded ss
  node_coded (Declare at ls) = declare_coded ls
  node_coded (Evaluate at o) = evaluate_coded o
  node_coded (If at e a None) = if_coded e a
  node_coded (If at e a (Some b)) = if_else_coded e a b
  node_coded (While at e a) = while_coded e a
  node_coded (DoWhile at a e) = do_coded e a
  node_coded (For at first test step a) = for_coded first test step a
  node_coded (Switch at e ss) = switch_coded e ss
  node_coded (Case at v a) = record { executes = λ sound few. labelled_executes t u m source f k ready n S f.locals (Some v) a.0 a.1 (a.4.executes sound few); leaves = a.4.leaves }
  node_coded (Default at a) = record { executes = λ sound few. labelled_executes t u m source f k ready n S f.locals None a.0 a.1 (a.4.executes sound few); leaves = a.4.leaves }
  node_coded (Break at) = record { executes = λ sound few. unlabelled_runs _ _ refl (break_does t u m source f k ready n S f.locals); leaves = λ sound s. refl }
  node_coded (Continue at) = record { executes = λ sound few. unlabelled_runs _ _ refl (continue_does t u m source f k ready n S f.locals); leaves = λ sound s. refl }
  node_coded (Return at None) = record { executes = λ sound few. unlabelled_runs _ _ refl (return_nothing t u m source f k ready n S f.locals at); leaves = λ sound s. not_so (is_main f) sound }
  node_coded (Return at (Some e)) = record {
    executes = λ sound few.
        let p = both_so (checked t.word source f e).sound (alike (checked t.word source f e).of f.result) sound in
        unlabelled_runs _ (return_steps S f.locals (Some e)) refl
        (return_value t u m source f k ready n S f.locals (meaning W e).of (meaning W e).value (naive S e).value (other_way (meaning W e).of f.result (subst (λ z. alike z f.result ≡ true) (expression e).checked_of p.1))
        ((expression e).value p.0 few));
    leaves = λ sound s. leaves_then (May f false false) (needed (meaning W e) s) (λ v s1. give (returns (word v)) s1) (λ v s1. tt);
  }

  -- of a sound statement whose calls have no more arguments than there are words for, the code does what the source does
  pub statement_coded : (b : Stat) → Coded (execution W most b) (steps_of S f.locals b) (left_of t.word source f b) (greatest_in arguments_of b)
  statement_coded = four_statements Execution Steps Left ℕ (statement W most) (node_steps S f.locals) (left_by t.word source f) (in_statement arguments_of) Coded node_coded
