-- Declarations and what else stands before a loop, with the test of one (C11 6.7.9, 6.8.5.3).
use Rattle.std.proofs.Common.{◌≡◌, ℕ, suc, ◌≤◌, List, [], ◌∷◌, ◌++◌, map, Option, Some, None, Bool, true, false, if◌then◌else◌, refl, ap, ◌∙◌, subst, arith}
use Rattle.std.specs.Prelude.{nat_le, nat_lt, max, length, slice_get}
use Rattle.std.specs.List.{list_all}
use Rattle.md_shapes.specs.Shapes.{Frame as Fixed}
use Rattle.c_tree.specs.declared.types.CType.{CType}
use Rattle.c_tree.specs.declared.typed.Variable.TheVariants as variable
use Rattle.c_tree.specs.declared.typed.Object.{Object as Thing}
use Rattle.c_tree.specs.declared.typed.TypedExpr.{TypedExpr}
use Rattle.c_tree.specs.declared.typed.LocalInit.{LocalInit}
use Rattle.c_tree.specs.declared.typed.LocalInit.TheVariants as init
use Rattle.c_tree.specs.declared.typed.Local.{Local}
use Rattle.c_tree.specs.declared.typed.Start.{Start}
use Rattle.c_tree.specs.declared.typed.Start.TheVariants as start
use Rattle.c_tree.specs.declared.typed.Function.{Function}
use Rattle.c_tree.specs.declared.typed.Typed.{Typed}
use Rattle.c_limits.specs.Depths.{arguments_of, in_option, in_list, in_init, in_locals, in_start}
use Rattle.c_limits.specs.Weights.{length_of}
use Rattle.c_meaning.specs.Parts.{State, Part, then_do, give, demand, Gives, Cut, Fails, Value as Result, word}
use Rattle.c_meaning.specs.Expressions.{Kind, missing, scalar, array, Calls as SourceCalls, World, meaning}
use Rattle.c_meaning.specs.Run.{kind_in}
use Rattle.c_meaning.specs.Statements.{Flow, next, breaks, continues, returns, Does as SourceDoes, numbers, initialise, declare, tested, evaluated, started}
use Rattle.temp_machine.specs.Routines.{Image, Target}
use Rattle.naive_code.specs.Storage.{Storage, Temporary, Word, Elements, Missing, Symbol, Frame}
use Rattle.naive_code.specs.Expressions.{Value, Site, naive}
use Rattle.naive_code.specs.Statements.{Steps, shifted, no_steps, joined, put_element, put_elements, cleared, cleared_rest, storage_of_local, init_steps, locals_steps, evaluated as evaluated_steps, started as started_steps, test_in}
use Rattle.naive_code.specs.Functions.{site_of}
use Rattle.naive_run.specs.Sound.{checked, alike, has_type, fits_init, fit_locals, fits_start, is_sound_or_absent}
use Rattle.naive_step.proofs.Doing.{Does, comes, late, any, there}
use Rattle.naive_step.proofs.Making.{Call as Active}
use Rattle.naive_step.proofs.Ends.{Opens}
use Rattle.naive_assigned.proofs.Ready.{Ready, outgoing}
use Rattle.naive_assigned.proofs.Working.{rep_works}
use Rattle.naive_values.proofs.Asked.{Any, Tested_value, since_works}
use Rattle.naive_values.proofs.Composing.{to_does}
use Rattle.naive_tests.proofs.Tests.{works_opens}
use Rattle.naive_tests.proofs.Choosing.{falls_to}
use Rattle.naive_calls.proofs.Calling.{CallsDo}
use Rattle.naive_assigns.proofs.Assigning.{world}
use Rattle.naive_nodes.proofs.Nodes.{both_so, Related, left_few, right_few}
use Rattle.naive_nodes.proofs.Expressions.{expression_related}
use Rattle.naive_statements.proofs.Asked.{Past, After, StepsDo}
use Rattle.naive_statements.proofs.Loops.{Tests_false}
use Rattle.naive_statements.proofs.For.{PastDo, dropped_past}
use Rattle.naive_statements.proofs.Blocks.{unset_does, set_does}
use Rattle.naive_statements.proofs.Starts.{All_initialise, declare_does, begins_unset, evaluated_does}
use Rattle.naive_bodies.proofs.Leaving.{Leaves, Is_next}

pub not_sound : {A : Type 0} → false ≡ true → A
not_sound e = absurd (grind (arith, e))

-- ---- declarations have no labels

no_cases : (p q : Steps) → p.cases ≡ [] → q.cases ≡ [] → (joined p q).cases ≡ []
no_cases p q h g = ap (λ cs. cs ++ map (shifted p.labels) q.cases) h ∙ ap (map (shifted p.labels)) g

put_one_cases : (w : ℕ) (s : Storage) (i : ℕ) (v : Value) → (put_element w s i v).cases ≡ []
put_one_cases w (Elements (Frame offset) of) i v = refl
put_one_cases w (Elements (Symbol y) of) i v = refl
put_one_cases w (Temporary j) i v = refl
put_one_cases w (Word y) i v = refl
put_one_cases w Missing i v = refl

put_cases : (c : Site) (s : Storage) (i : ℕ) (es : List TypedExpr) → (put_elements c s i es).cases ≡ []
put_cases c s i [] = refl
put_cases c s i (e ∷ es) = no_cases (put_element c.bits s i (naive c e).value) (put_elements c s (suc i) es) (put_one_cases c.bits s i (naive c e).value) (put_cases c s (suc i) es)

clear_cases : (w : ℕ) (s : Storage) (from to : ℕ) → (cleared w s from to).cases ≡ []
clear_cases w (Elements (Frame offset) of) from to = refl
clear_cases w (Elements (Symbol y) of) from to = refl
clear_cases w (Temporary j) from to = refl
clear_cases w (Word y) from to = refl
clear_cases w Missing from to = refl

rest_cases : (w : ℕ) (s : Storage) (listed size : ℕ) → (cleared_rest w s listed size).cases ≡ []
rest_cases w s listed size = by_test (nat_lt listed size)
  where
    by_test : (b : Bool) → (if b then cleared w s listed size else no_steps).cases ≡ []
    by_test true = clear_cases w s listed size
    by_test false = refl

init_cases : (c : Site) (locals : List Thing) (x : ℕ) (i : LocalInit) → (init_steps c locals x i).cases ≡ []
init_cases c locals x init.Absent = refl
init_cases c locals x (init.Value e) = refl
init_cases c locals x (init.List es) =
    let place = storage_of_local c x in
    no_cases (put_elements c place 0 es) (cleared_rest c.bits place (length es) (length_of (slice_get locals x))) (put_cases c place 0 es) (rest_cases c.bits place (length es) (length_of (slice_get locals x)))

pub locals_cases : (c : Site) (locals : List Thing) (ls : List Local) → (locals_steps c locals ls).cases ≡ []
locals_cases c locals [] = refl
locals_cases c locals (l ∷ ls) = no_cases (init_steps c locals l.number l.init) (locals_steps c locals ls) (init_cases c locals l.number l.init) (locals_cases c locals ls)

module _ (t : Target) (u : Image) (m : Fixed) (source : Typed) (f : Function) (k : Active) (ready : Ready t u m source f k) (n : ℕ) where
  abbrev Past_do : SourceDoes → Steps → Type 0
  Past_do = PastDo t u m source f k ready n

  -- what is always run to its end is a statement
  pub past_steps : (e : SourceDoes) (p : Steps) → ((s : State) → Leaves Is_next (e s)) → Past_do e p → StepsDo t u m source f k ready n e p
  past_steps e p only does a first label b q c s fresh ops i at rep = at_end (e s) (only s) (does a first label b q c s fresh ops i at rep)
    where
      at_end : (x : Part Flow) → Leaves Is_next x → Does t u n c (λ fl s d. Past t u m source f k ready q c s d) x → Does t u n c (After t u m source f k ready a q c) x
      at_end (Gives out next s) h (comes _ _ _ d to p z) = comes out next s d to p z
      at_end (Gives out breaks s) h d = absurd h
      at_end (Gives out continues s) h d = absurd h
      at_end (Gives out (returns v) s) h d = absurd h
      at_end (Cut out) h (late _ l) = late out l
      at_end (Fails out why) h (any _ _) = any out why

  -- a test that is absent holds
  absent_holds : (site : Site) (locals : List Thing) → Tests_false t u m source f k ready n Any (λ s. give (word 1) s) (test_in site locals None)
  absent_holds site locals target onward first label p q c s fresh (r, one, last) i at rep =
      to_does t u m source f k ready n q (Opens c) (Tested_value t u m source f k ready Any false target first q c) c (give (word 1) s)
      (falls_to t u m source f k ready n onward p r q c i at one last) (λ d o. o.printed)
      (λ d j at' o.
      let works = works_opens t u m source f k ready n first first c d o in
      there t u n d (Tested_value t u m source f k ready Any false target first q c) (word 1) s (
        tt,
        record {
          inside = j;
          at = at';
          rep = rep_works t u m source f k ready first first c d fresh fresh works s rep;
          since = since_works t u m source f k ready first first first c d (omega arith) (omega arith) works;
        },
      ))

module _ (t : Target) (u : Image) (m : Fixed) (source : Typed) (f : Function) (k : Active) (ready : Ready t u m source f k) (n : ℕ) (call : SourceCalls) where
  abbrev W : World
  W = world t u m source f k ready n call

  abbrev pub here : Site
  here = site_of t.kept t.word source f

  -- what is asked of an array's list
  abbrev pub Lists_do : Type 0
  Lists_do = (x : ℕ) (of : CType) (size : ℕ) (es : List TypedExpr) → kind_in source f (variable.Local x) ≡ array of size
      → list_all (has_type t.word source f of) es ≡ true → nat_le (length es) size ≡ true → in_list arguments_of es ≤ outgoing t u m source f k ready
      → PastDo t u m source f k ready n (initialise W x (init.List es)) (init_steps here f.locals x (init.List es))

  module _ (calls : CallsDo t u m source f k ready n call) where
    abbrev few_words : ℕ
    few_words = outgoing t u m source f k ready

    abbrev Initialises : SourceDoes → Steps → Type 0
    Initialises = PastDo t u m source f k ready n

    -- an expression and its code
    abbrev pub Relates : TypedExpr → Type 0
    Relates e = Related t u m source f k ready n call calls (meaning W e) (naive here e) (checked t.word source f e) (arguments_of e)

    pub relates : (e : TypedExpr) → Relates e
    relates e = expression_related t u m source f k ready n call calls e

    pub fewer_left : (a b : ℕ) → max a b ≤ few_words → a ≤ few_words
    fewer_left = left_few t u m source f k ready n call calls

    pub fewer_right : (a b : ℕ) → max a b ≤ few_words → b ≤ few_words
    fewer_right = right_few t u m source f k ready n call calls

    module _ (lists : Lists_do) where
      init_past : (x : ℕ) (i : LocalInit) (g : Kind) → kind_in source f (variable.Local x) ≡ g → fits_init t.word source f g i ≡ true → in_init arguments_of i ≤ few_words
          → Initialises (initialise W x i) (init_steps here f.locals x i)
      init_past x init.Absent g kind fits few = unset_does t u m source f k ready n x
      init_past x (init.Value e) missing kind fits few = not_sound fits
      init_past x (init.Value e) (array of size) kind fits few = not_sound fits
      init_past x (init.Value e) (scalar of) kind fits few =
          let parts = both_so _ _ fits in
          let r = relates e in
          set_does t u m source f k ready n W x of (meaning W e).of (meaning W e).value (naive here e).value (1 ∷ []) refl refl kind (subst (λ z. alike z of ≡ true) r.checked_of parts.1) r.fresh (r.value parts.0 few)
      init_past x (init.List es) missing kind fits few = not_sound fits
      init_past x (init.List es) (scalar of) kind fits few = not_sound fits
      init_past x (init.List es) (array of size) kind fits few = let parts = both_so _ _ fits in lists x of size es kind parts.0 parts.1 few

      all_past : (ls : List Local) → fit_locals t.word source f ls ≡ true → in_locals arguments_of ls ≤ few_words → All_initialise t u m source f k ready n W here f.locals ls
      all_past [] fits few = tt
      all_past (l ∷ ls) fits few =
          let parts = both_so (fits_init t.word source f (kind_in source f (variable.Local l.number)) l.init) (fit_locals t.word source f ls) fits in (
            init_past l.number l.init (kind_in source f (variable.Local l.number)) refl parts.0 (fewer_left (in_init arguments_of l.init) (in_locals arguments_of ls) few),
            all_past ls parts.1 (fewer_right (in_init arguments_of l.init) (in_locals arguments_of ls) few),
          )

      pub locals_past : (ls : List Local) → fit_locals t.word source f ls ≡ true → in_locals arguments_of ls ≤ few_words → Initialises (declare W ls) (locals_steps here f.locals ls)
      locals_past ls fits few = declare_does t u m source f k ready n W here f.locals ls (all_past ls fits few)

      pub evaluated_past : (o : Option TypedExpr) → is_sound_or_absent t.word source f o ≡ true → in_option arguments_of o ≤ few_words → Initialises (evaluated W o) (evaluated_steps here f.locals o)
      evaluated_past None sound few = evaluated_does t u m source f k ready n W here f.locals None (λ e is. absurd (grind (arith, is)))
      evaluated_past (Some e) sound few = dropped_past t u m source f k ready n (meaning W e).of (meaning W e).value (naive here e).value ((relates e).value sound few)

      pub started_past : (i : Start) → fits_start t.word source f i ≡ true → in_start arguments_of i ≤ few_words → Initialises (started W i) (started_steps here f.locals i)
      started_past start.Absent fits few = evaluated_past None refl few
      started_past (start.Value e) fits few = evaluated_past (Some e) fits few
      started_past (start.Declared at ls) fits few = begins_unset t u m source f k ready n W here f.locals (numbers ls) (declare W ls) (locals_steps here f.locals ls) (locals_past ls fits few)

      -- the test of a loop
      pub held_or_tested : (o : Option TypedExpr) → is_sound_or_absent t.word source f o ≡ true → in_option arguments_of o ≤ few_words
          → (x : State → Part Result) × (Tests_false t u m source f k ready n Any x (test_in here f.locals o)) × (tested W o ≡ (λ s. then_do (x s) demand))
      held_or_tested None sound few = ((λ s. give (word 1) s), absent_holds t u m source f k ready n here f.locals, refl)
      held_or_tested (Some e) sound few = ((meaning W e).value, (λ target onward first label. (relates e).test sound few false target onward first label), refl)
