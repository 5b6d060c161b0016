-- A sound statement comes to no act 0.
use Rattle.std.proofs.Common.{◌≡◌, ℕ, zero, suc, Bool, true, false, if◌then◌else◌, Option, Some, None, List, [], ◌∷◌, map, length}
use Rattle.std.specs.Prelude.{⊤}
use Rattle.std.proofs.lemmas.Nat.{pow_pos}
use Rattle.rtl_word.specs.Words.{IsWordSize}
use Rattle.c_tree.proofs.TypedFolds.{Both, stat_relates}
use Rattle.c_tree.specs.declared.token.At.{At}
use Rattle.c_tree.specs.declared.typed.Variable.TheVariants as variable
use Rattle.c_tree.specs.declared.typed.TypedExpr.{TypedExpr}
use Rattle.c_tree.specs.declared.typed.LocalInit.{LocalInit}
use Rattle.c_tree.specs.declared.typed.LocalInit.TheVariants as init
use Rattle.c_tree.specs.declared.typed.Local.{Local}
use Rattle.c_tree.specs.declared.typed.Start.{Start}
use Rattle.c_tree.specs.declared.typed.Start.TheVariants as start
use Rattle.c_tree.specs.declared.typed.Stat.{Stat}
use Rattle.c_tree.specs.declared.typed.Stat.TheOpen.{Stat-F, Block, Declare, Evaluate, If, While, DoWhile, For, Switch, Case, Default, Break, Continue, Return}
use Rattle.c_tree.specs.declared.typed.Stat.TheFolds.{map-Stat}
use Rattle.c_meaning.specs.Parts.{State, Part, unset, then_do}
use Rattle.c_meaning.specs.Expressions.{World, needed, at_zero, meaning, type_in, as_object}
use Rattle.c_meaning.specs.Statements as m
use Rattle.c_meaning.specs.Statements.{Flow, next, breaks, continues, returns, Does, Execution, nothing, plain, go_on, sequence, all_unset, declared, initialised, elements, initialise, declare, numbers, turned, tested, evaluated, cut, turns, do_turns, started, among, from_label, or_none, or_default, left, or_else, returned, execution}
use Rattle.c_sound.specs.Sound.{Known, checked, all_sound, maybe_sound, init_sound, locals_sound, start_sound, all, statement, body_sound}
use Rattle.c_sound.proofs.Outcomes.{one_below, as_type_below}
use Rattle.c_sound.proofs.Fine.{left_of, right_of, Words, store_words, fill_words, Fine, then_fine, zero_fine, IsWord, IsValue}
use Rattle.c_sound.proofs.Expressions.{Calls_fine, known, meaning_agrees, needs}

abbrev pub IsFlow : ℕ → Flow → Type 0
IsFlow w next = ⊤
IsFlow w breaks = ⊤
IsFlow w continues = ⊤
IsFlow w (returns v) = IsValue w v

abbrev pub Does_fine : ℕ → Does → Type 0
Does_fine w d = (s : State) → Words w s → Fine w (IsFlow w) (d s)

-- where it is sound it comes to no act 0
pub record Runs (w : ℕ) (b : Bool) (x : Execution) : Type 0 where
  pub does : b ≡ true → Does_fine w x.does

plain_runs : (w : ℕ) (b : Bool) (d : Does) → (b ≡ true → Does_fine w d) → Runs w b (plain d)
plain_runs w b d f = record { does = f }

go_on_fine : (w : ℕ) (f : Flow) → IsFlow w f → (d : Does) → Does_fine w d → Does_fine w (go_on f d)
go_on_fine w next h d g s q = g s q
go_on_fine w breaks h d g s q = record { goes = (tt, q) }
go_on_fine w continues h d g s q = record { goes = (tt, q) }
go_on_fine w (returns v) h d g s q = record { goes = (h, q) }

turned_fine : (w : ℕ) (f : Flow) → IsFlow w f → (d : Does) → Does_fine w d → Does_fine w (turned f d)
turned_fine w next h d g s q = g s q
turned_fine w continues h d g s q = g s q
turned_fine w breaks h d g s q = record { goes = (tt, q) }
turned_fine w (returns v) h d g s q = record { goes = (h, q) }

left_fine : (w : ℕ) (f : Flow) → IsFlow w f → Does_fine w (left f)
left_fine w next h s q = record { goes = (tt, q) }
left_fine w breaks h s q = record { goes = (tt, q) }
left_fine w continues h s q = record { goes = (tt, q) }
left_fine w (returns v) h s q = record { goes = (h, q) }

-- ---- several statements

abbrev Each : ℕ → List Execution → Type 0
Each w [] = ⊤
Each w (a ∷ rest) = Does_fine w a.does × Each w rest

each_of : (w : ℕ) (ss : List (Both (Runs w))) → all (map (λ e. e.0) ss) ≡ true → Each w (map (λ e. e.1) ss)
each_of w [] e = tt
each_of w (a ∷ rest) e = (a.2.does (left_of _ _ e), each_of w rest (right_of _ _ e))

sequence_fine : (w : ℕ) (xs : List Execution) → Each w xs → Does_fine w (sequence xs)
sequence_fine w [] h s q = record { goes = (tt, q) }
sequence_fine w (a ∷ rest) h s q = then_fine w (IsFlow w) (IsFlow w) (a.does s) _ (h.0 s q) (λ f k s1 q1. go_on_fine w f k (sequence rest) (sequence_fine w rest h.1) s1 q1)

unset_words : (w : ℕ) (xs : List ℕ) (s : State) → Words w s → Words w (all_unset xs s)
unset_words w [] s q = q
unset_words w (x ∷ xs) s q = unset_words w xs (unset x s) (fill_words w x 0 None s q tt)

-- the statements from a label on
abbrev Found : ℕ → Option (List Execution) → Type 0
Found w None = ⊤
Found w (Some xs) = Each w xs

from_fine : (w : ℕ) (l : Option ℕ) (xs : List Execution) → Each w xs → Found w (from_label l xs)
from_fine w l [] h = tt
from_fine w l (a ∷ rest) h = by (among l a.labels) (from_fine w l rest h.1)
  where
    by : (b : Bool) → Found w (from_label l rest) → Found w (if b then Some (a ∷ rest) else from_label l rest)
    by true r = h
    by false r = r

or_none_fine : (w : ℕ) (o : Option (List Execution)) → Found w o → Does_fine w (or_none o)
or_none_fine w None h s q = record { goes = (tt, q) }
or_none_fine w (Some xs) h s q = sequence_fine w xs h s q

or_default_fine : (w : ℕ) (o p : Option (List Execution)) → Found w o → Found w p → Does_fine w (or_default o p)
or_default_fine w None p h k s q = or_none_fine w p k s q
or_default_fine w (Some xs) p h k s q = sequence_fine w xs h s q

-- ---- loops

abbrev Tests_fine : ℕ → (State → Part ℕ) → Type 0
Tests_fine w t = (s : State) → Words w s → Fine w (IsWord w) (t s)

nothing_fine : (w : ℕ) → Does_fine w nothing
nothing_fine w s q = record { goes = (tt, q) }

turns_fine : (w n : ℕ) (t : State → Part ℕ) (b p : Does) → Tests_fine w t → Does_fine w b → Does_fine w p → Does_fine w (turns n t b p)
turns_fine w zero t b p ts bs ps s q =
    then_fine w (IsWord w) (IsFlow w) (t s) _ (ts s q) (λ v h s1 q1. zero_fine w (IsFlow w) v nothing cut s1 (nothing_fine w s1 q1) (record { goes = tt }))
turns_fine w (suc n) t b p ts bs ps s q =
    let again : Does = λ s2. then_do (p s2) (λ f. turns n t b p) in
    let body : Does = λ s1. then_do (b s1) (λ f. turned f again) in
    let again_fine : Does_fine w again = λ s2 q2. then_fine w (IsFlow w) (IsFlow w) (p s2) _ (ps s2 q2) (λ f h s3 q3. turns_fine w n t b p ts bs ps s3 q3) in
    then_fine w (IsWord w) (IsFlow w) (t s) _ (ts s q) (λ v h s1 q1. zero_fine w (IsFlow w) v nothing body s1 (nothing_fine w s1 q1)
    (then_fine w (IsFlow w) (IsFlow w) (b s1) _ (bs s1 q1) (λ f k s2 q2. turned_fine w f k again again_fine s2 q2)))

do_turns_fine : (w n : ℕ) (t : State → Part ℕ) (b : Does) → Tests_fine w t → Does_fine w b → Does_fine w (do_turns n t b)
do_turns_fine w zero t b ts bs s q = record { goes = tt }
do_turns_fine w (suc n) t b ts bs s q =
    let again : Does = λ s1. then_do (t s1) (λ v. at_zero v nothing (do_turns n t b)) in
    let again_fine : Does_fine w again = λ s1 q1. then_fine w (IsWord w) (IsFlow w) (t s1) _ (ts s1 q1)
    (λ v h s2 q2. zero_fine w (IsFlow w) v nothing (do_turns n t b) s2 (nothing_fine w s2 q2) (do_turns_fine w n t b ts bs s2 q2)) in
    then_fine w (IsFlow w) (IsFlow w) (b s) _ (bs s q) (λ f k s1 q1. turned_fine w f k again again_fine s1 q1)

-- ---- statements

module _ (c : World) (n : ℕ) (z : IsWordSize c.bits) (calls : Calls_fine c.bits n c.call) where
  abbrev w : ℕ
  w = c.bits

  abbrev k : Known
  k = known c n z calls

  used : (e : TypedExpr) → (checked k e).sound ≡ true → Tests_fine w (needed (meaning c e))
  used e h s q = needs c n z calls e h s q

  initialised_words : (x i v : ℕ) (s : State) → Words w s → Words w (initialised c x i v s)
  initialised_words x i v s q = store_words w s (variable.Local x) i (Some (as_object c (variable.Local x) v)) q (as_type_below w (type_in (c.kind (variable.Local x))) v z)

  elements_fine : (x i : ℕ) (es : List TypedExpr) → all_sound k es ≡ true → Does_fine w (elements c x i es)
  elements_fine x i [] h s q = record { goes = (tt, q) }
  elements_fine x i (e ∷ es) h s q =
      then_fine w (IsWord w) (IsFlow w) (needed (meaning c e) s) _ (used e (left_of _ _ h) s q)
      (λ v l s1 q1. elements_fine x (suc i) es (right_of _ _ h) (initialised c x i v s1) (initialised_words x i v s1 q1))

  initialise_fine : (x : ℕ) (i : LocalInit) → init_sound k i ≡ true → Does_fine w (initialise c x i)
  initialise_fine x init.Absent h s q = record { goes = (tt, fill_words w x 0 None s q tt) }
  initialise_fine x (init.Value e) h s q =
      then_fine w (IsWord w) (IsFlow w) (needed (meaning c e) s) _ (used e h s q) (λ v l s1 q1. record { goes = (tt, initialised_words x 0 v s1 q1) })
  initialise_fine x (init.List es) h s q =
      then_fine w (IsFlow w) (IsFlow w) (elements c x 0 es s) _ (elements_fine x 0 es h s q)
      (λ f l s1 q1. record { goes = (tt, fill_words w x (length es) (Some 0) s1 q1 (pow_pos w)) })

  declare_fine : (ls : List Local) → locals_sound k ls ≡ true → Does_fine w (declare c ls)
  declare_fine [] h s q = record { goes = (tt, q) }
  declare_fine (l ∷ ls) h s q =
      then_fine w (IsFlow w) (IsFlow w) (initialise c l.number l.init s) _ (initialise_fine l.number l.init (left_of _ _ h) s q) (λ f j s1 q1. declare_fine ls (right_of _ _ h) s1 q1)

  tested_fine : (e : Option TypedExpr) → maybe_sound k e ≡ true → Tests_fine w (tested c e)
  tested_fine None h s q = record { goes = (one_below w z, q) }
  tested_fine (Some e) h s q = used e h s q

  evaluated_fine : (e : Option TypedExpr) → maybe_sound k e ≡ true → Does_fine w (evaluated c e)
  evaluated_fine None h s q = record { goes = (tt, q) }
  evaluated_fine (Some e) h s q = then_fine w (IsValue w) (IsFlow w) ((meaning c e).value s) _ ((meaning_agrees c n z calls e).value h s q) (λ v l s1 q1. nothing_fine w s1 q1)

  started_fine : (i : Start) → start_sound k i ≡ true → Does_fine w (started c i)
  started_fine start.Absent h s q = record { goes = (tt, q) }
  started_fine (start.Value e) h s q = evaluated_fine (Some e) h s q
  started_fine (start.Declared at ls) h s q = declare_fine ls h (all_unset (numbers ls) s) (unset_words w (numbers ls) s q)

  returned_fine : (at : At) (e : Option TypedExpr) → maybe_sound k e ≡ true → Does_fine w (returned c at e)
  returned_fine at None h s q = record { goes = (tt, q) }
  returned_fine at (Some e) h s q = then_fine w (IsWord w) (IsFlow w) (needed (meaning c e) s) _ (used e h s q) (λ v l s1 q1. record { goes = (l, q1) })

  block_fine : (ss : List (Both (Runs w))) → all (map (λ e. e.0) ss) ≡ true → Does_fine w (λ s. sequence (map (λ e. e.1) ss) (all_unset (declared (map (λ e. e.1) ss)) s))
  block_fine ss h s q = sequence_fine w (map (λ e. e.1) ss) (each_of w ss h) (all_unset (declared (map (λ e. e.1) ss)) s) (unset_words w (declared (map (λ e. e.1) ss)) s q)

  -- where its value has a label, from there on
  chosen_fine : (v : ℕ) (xs : List Execution) → Each w xs → Does_fine w (or_default (from_label (Some v) xs) (from_label None xs))
  chosen_fine v xs h = or_default_fine w (from_label (Some v) xs) (from_label None xs) (from_fine w (Some v) xs h) (from_fine w None xs h)

  module _ (bound : ℕ) where
    step : (y : Stat-F (Both (Runs w))) → Runs w (statement k (map-Stat (Both (Runs w)) Bool (λ e. e.0) y)) (m.statement c bound (map-Stat (Both (Runs w)) Execution (λ e. e.1) y))
    step (Block at ss) = plain_runs w _ _ (λ h. block_fine ss h)
    step (Declare at ls) = record { does = λ h. declare_fine ls h }
    step (Evaluate at e) = plain_runs w _ _ (λ h. evaluated_fine e h)
    step (If at e a None) = plain_runs w _ _ (λ h s q. then_fine w (IsWord w) (IsFlow w) (needed (meaning c e) s) _ (used e (left_of _ _ h) s q)
        (λ v l s1 q1. zero_fine w (IsFlow w) v (or_else None) a.1.does s1 (nothing_fine w s1 q1) (a.2.does (left_of _ _ (right_of _ _ h)) s1 q1)))
    step (If at e a (Some b)) = plain_runs w _ _ (λ h s q. then_fine w (IsWord w) (IsFlow w) (needed (meaning c e) s) _ (used e (left_of _ _ h) s q)
        (λ v l s1 q1. zero_fine w (IsFlow w) v (or_else (Some b.1)) a.1.does s1 (b.2.does (right_of _ _ (right_of _ _ h)) s1 q1) (a.2.does (left_of _ _ (right_of _ _ h)) s1 q1)))
    step (While at e a) = plain_runs w _ _ (λ h. turns_fine w bound (needed (meaning c e)) a.1.does nothing (used e (left_of _ _ h)) (a.2.does (right_of _ _ h)) (nothing_fine w))
    step (DoWhile at a e) = plain_runs w _ _ (λ h. do_turns_fine w bound (needed (meaning c e)) a.1.does (used e (right_of _ _ h)) (a.2.does (left_of _ _ h)))
    step (For at i t u a) = plain_runs w _ _ (λ h s q.
        (let g = right_of (start_sound k i) _ h in
        let j = right_of (maybe_sound k t) _ g in
        then_fine w (IsFlow w) (IsFlow w) (started c i s) _ (started_fine i (left_of (start_sound k i) _ h) s q)
        (λ f l s1 q1. turns_fine w bound (tested c t) a.1.does (evaluated c u) (tested_fine t (left_of (maybe_sound k t) _ g)) (a.2.does (right_of (maybe_sound k u) _ j))
        (evaluated_fine u (left_of (maybe_sound k u) _ j)) s1 q1)))
    step (Switch at e ss) = plain_runs w _ _ (λ h s q. then_fine w (IsWord w) (IsFlow w) (needed (meaning c e) s) _ (used e (left_of _ _ h) s q)
        (λ v l s1 q1. then_fine w (IsFlow w) (IsFlow w) _ _ (chosen_fine v (map (λ e. e.1) ss) (each_of w ss (right_of _ _ h)) (all_unset (declared (map (λ e. e.1) ss)) s1) (unset_words w (declared (map (λ e. e.1) ss)) s1 q1))
        (λ f j s2 q2. left_fine w f j s2 q2)))
    step (Case at v a) = record { does = a.2.does }
    step (Default at a) = record { does = a.2.does }
    step (Break at) = plain_runs w _ _ (λ h s q. record { goes = (tt, q) })
    step (Continue at) = plain_runs w _ _ (λ h s q. record { goes = (tt, q) })
    step (Return at e) = plain_runs w _ _ (λ h. returned_fine at e h)

    pub execution_runs : (b : Stat) → Runs w (body_sound k b) (execution c bound b)
    execution_runs = stat_relates Bool Execution (statement k) (m.statement c bound) (Runs w) step
