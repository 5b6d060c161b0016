-- What the temporary machine does by blocks, it does transfer by transfer.
use Rattle.std.proofs.Common.{◌≡◌, ℕ, zero, suc, ◌+◌, ◌≤◌, List, [], ◌∷◌, Option, Some, None, Result, Ok, Err, refl, sym, ap, subst, ◌∙◌, arith}
use Rattle.std.specs.Prelude.{slice_get, Bool, true, false}
use Rattle.behaviour.specs.Behaviour.{Behaviour, Running, Ended, Failed, IsPrefix}
use Rattle.behaviour.specs.Run.{NeverFails, Same, Reach, both_run, both_end}
use Rattle.behaviour.specs.Steps.{Move as Step, Goes, Stops, Fails, Machine, OnlyPrints, after, run_by, run, printed_after}
use Rattle.behaviour.proofs.Prefix.{prefix_refl, prefix_append, prefix_trans}
use Rattle.behaviour.proofs.Reaching.{reach_same}
use Rattle.behaviour.proofs.Stepping.{run_is_run, run_by_is_run}
use Rattle.rtl_tree.specs.Moves.{Move}
use Rattle.rtl_effect.specs.Views.{Stop, View}
use Rattle.rtl_effect.specs.Effects.{Done, effect}
use Rattle.rtl_norm_value.specs.Effect.{with_normal_jump}
use Rattle.temp_machine.specs.Routines.{Exit, Falls, Jumps, Branches, Calls, Returns, BasicBlock, Image, Target}
use Rattle.temp_machine.specs.Machine.{State, Waiting, printed_with, unless_halted, made, body_made, ended, callee_of, view_in, fits_stack, if_it_fits, entered, returned, waiting, called, exit_made, block_made, step, printed_in, routine_of, begin}
use Rattle.temp_machine.specs.Live.{Item, Transfer, End, item_in, item_of, item_at}
use Rattle.temp_machine.specs.Small.{Point, printed_at, first_point, entering, tested_at, item_made, small_step, small_machine}
use Rattle.temp_machine.specs.Laws.{TemporaryRunIsRun, BlocksAreSmall}

-- what is printed only grows

out_grows : (out : List ℕ) (b : Option ℕ) → IsPrefix out (printed_with out b)
out_grows out None = prefix_refl out
out_grows out (Some b) = prefix_append out _

module _ {A : Type 0} (show : A → List ℕ) where
  halted_grows : (out now : List ℕ) (h q : Option ℕ) (v : View) (next : View → List ℕ → Option ℕ → Step A) → IsPrefix out now
      → ((v : View) (o : List ℕ) (q : Option ℕ) → IsPrefix o (printed_after show (next v o q))) → IsPrefix out (printed_after show (unless_halted h v now q next))
  halted_grows out now None q v next here on = prefix_trans _ _ _ here (on v now q)
  halted_grows out now (Some n) q v next here on = here

  made_grows : (out : List ℕ) (x : Result Done Stop) (next : View → List ℕ → Option ℕ → Step A)
      → ((v : View) (o : List ℕ) (q : Option ℕ) → IsPrefix o (printed_after show (next v o q))) → IsPrefix out (printed_after show (made x out next))
  made_grows out (Err x) next on = prefix_refl _
  made_grows out (Ok d) next on = halted_grows out (printed_with out d.output) d.halt d.place d.view next (out_grows _ _) on

fits_grows : {A : Type 0} (show : A → List ℕ) (b : Bool) (out : List ℕ) (next : Step A) → IsPrefix out (printed_after show next)
    → IsPrefix out (printed_after show (if_it_fits b out next))
fits_grows show true out next g = g
fits_grows show false out next g = prefix_refl _

ended_grows : (out : List ℕ) (v : Option ℕ) → IsPrefix out (printed_after printed_in (ended out v))
ended_grows out None = prefix_refl _
ended_grows out (Some v) = prefix_refl _

module _ (t : Target) (p : Image) where
  abbrev Grows : List ℕ → Step State → Type 0
  Grows out x = IsPrefix out (printed_after printed_in x)

  called_grows : (f : Option ℕ) (s : State) (v : View) (out : List ℕ) → Grows out (called t p f s v out)
  called_grows None s v out = prefix_refl _
  called_grows (Some f) s v out =
      let callee = entered t p f (waiting t p s v out ∷ s.callers) s.top.base v.bytes v.input out in
      fits_grows printed_in (fits_stack t p callee) out (Goes callee) (prefix_refl _)

  returned_grows : (cs : List Waiting) (v : View) (out : List ℕ) → Grows out (returned t p cs v out)
  returned_grows [] v out = ended_grows out _
  returned_grows (c ∷ cs) v out = prefix_refl _

  exit_grows : (e : Exit) (s : State) (v : View) (out : List ℕ) → Grows out (exit_made t p e s v out)
  exit_grows Falls s v out = prefix_refl _
  exit_grows (Jumps ms) s v out = made_grows printed_in out (effect t.word (with_normal_jump t.word ms) v) _ (λ z o q. prefix_refl _)
  exit_grows (Branches ms) s v out = made_grows printed_in out (effect t.word (with_normal_jump t.word ms) v) _ (λ z o q. prefix_refl _)
  exit_grows (Calls ms) s v out = called_grows (callee_of t.word ms) s v out
  exit_grows Returns s v out = returned_grows s.callers v out

  body_grows : (rest : List (List Move)) (e : Exit) (s : State) (v : View) (out : List ℕ) → Grows out (body_made t.word rest v out (exit_made t p e s))
  body_grows [] e s v out = exit_grows e s v out
  body_grows (ms ∷ rest) e s v out = made_grows printed_in out (effect t.word ms v) _ (λ z o q. body_grows rest e s z o)

  block_grows : (b : Option BasicBlock) (s : State) → Grows s.printed (block_made t p b s)
  block_grows None s = prefix_refl _
  block_grows (Some b) s = body_grows b.body b.exit s (view_in t p s) s.printed

  pub only_blocks : OnlyPrints (step t p) printed_in
  only_blocks = record { at = λ s. fits_grows printed_in (fits_stack t p s) s.printed _ (block_grows (slice_get (routine_of t p s.top).blocks s.top.block) s) }

  entering_grows : (out : List ℕ) (x : Step State) → Grows out x → IsPrefix out (printed_after printed_at (entering t p x))
  entering_grows out (Goes s) g = g
  entering_grows out (Stops o status) g = g
  entering_grows out (Fails o why) g = g

  item_grows : (x : Option Item) (c : Point) → IsPrefix c.printed (printed_after printed_at (item_made t p x c))
  item_grows None c = prefix_refl _
  item_grows (Some (Transfer ms)) c = made_grows printed_at c.printed (effect t.word ms c.view) _ (λ v o q. prefix_refl _)
  item_grows (Some (End e)) c = entering_grows c.printed (exit_made t p e c.state c.view c.printed) (exit_grows e c.state c.view c.printed)

  tested_grows : (k : ℕ) (s : State) (out : List ℕ) (next : Step Point) → IsPrefix out (printed_after printed_at next) → IsPrefix out (printed_after printed_at (tested_at t p k s out next))
  tested_grows zero s out next g = fits_grows printed_at (fits_stack t p s) out next g
  tested_grows (suc k) s out next g = g

  pub only_small : OnlyPrints (small_step t p) printed_at
  only_small = record {
    at = λ c. tested_grows c.at c.state c.printed _ (item_grows (item_at (routine_of t p c.state.top) (record { block = c.state.top.block; at = c.at })) c);
  }

  abbrev M : Machine
  M = small_machine t p

  abbrev small_by : ℕ → Point → Behaviour
  small_by n c = run_by (small_step t p) printed_at n c

  abbrev blocks_by : ℕ → State → Behaviour
  blocks_by n s = run_by (step t p) printed_in n s

  -- the same at a greater or equal bound, transfer by transfer
  pub record Found (m : ℕ) (c : Point) (x : Behaviour) : Type 0 where
    pub bound : ℕ
    pub far : m ≤ bound
    pub is : small_by bound c ≡ x

  module _ (m : ℕ) (ih : (s : State) → Found m (first_point t p s) (blocks_by m s)) where
    end_found : (c : Point) (x : Step State) → small_step t p c ≡ entering t p x → Found (suc m) c (after x (blocks_by m))
    end_found c (Goes r) e = let i = ih r in record { bound = suc i.bound; far = omega (arith, i.far); is = ap (λ y. after y (small_by i.bound)) e ∙ i.is }
    end_found c (Stops out status) e = record { bound = suc m; far = omega arith; is = ap (λ y. after y (small_by m)) e }
    end_found c (Fails out why) e = record { bound = suc m; far = omega arith; is = ap (λ y. after y (small_by m)) e }

    module _ (s : State) (fits : fits_stack t p s ≡ true) where
      abbrev point : ℕ → View → List ℕ → Point
      point k v out = record { state = s; at = k; view = v; printed = out }

      untested : (k : ℕ) (out : List ℕ) (x : Step Point) → tested_at t p k s out x ≡ x
      untested zero out x = ap (λ b. if_it_fits b out x) fits
      untested (suc k) out x = refl

      small_is : (k : ℕ) (v : View) (out : List ℕ) (x : Option Item) → item_at (routine_of t p s.top) (record { block = s.top.block; at = k }) ≡ x
          → small_step t p (point k v out) ≡ item_made t p x (point k v out)
      small_is k v out x e = untested k out _ ∙ ap (λ y. item_made t p y (point k v out)) e

      module _ (e : Exit) where
        -- what stands in the block from position k on
        abbrev Rest : List (List Move) → ℕ → Type 0
        Rest rest k = (i n : ℕ) → n ≡ k + i → item_at (routine_of t p s.top) (record { block = s.top.block; at = n }) ≡ item_in rest e i

        halted_found : (rest : List (List Move)) (k : ℕ) (v : View) (out : List ℕ)
            → ((z : View) (o : List ℕ) → Found (suc m) (point (suc k) z o) (after (body_made t.word rest z o (exit_made t p e s)) (blocks_by m)))
            → (now : List ℕ) (h q : Option ℕ) (z : View) → small_step t p (point k v out) ≡ unless_halted h z now q (λ z o q. Goes (point (suc k) z o))
            → Found (suc m) (point k v out) (after (unless_halted h z now q (λ z o q. body_made t.word rest z o (exit_made t p e s))) (blocks_by m))
        halted_found rest k v out on now None q z is =
            let f = on z now in record { bound = suc f.bound; far = omega (arith, f.far); is = ap (λ y. after y (small_by f.bound)) is ∙ f.is }
        halted_found rest k v out on now (Some n) q z is = record { bound = suc m; far = omega arith; is = ap (λ y. after y (small_by m)) is }

        made_found : (rest : List (List Move)) (k : ℕ) (v : View) (out : List ℕ)
            → ((z : View) (o : List ℕ) → Found (suc m) (point (suc k) z o) (after (body_made t.word rest z o (exit_made t p e s)) (blocks_by m)))
            → (x : Result Done Stop) → small_step t p (point k v out) ≡ made x out (λ z o q. Goes (point (suc k) z o))
            → Found (suc m) (point k v out) (after (made x out (λ z o q. body_made t.word rest z o (exit_made t p e s))) (blocks_by m))
        made_found rest k v out on (Err x) is = record { bound = suc m; far = omega arith; is = ap (λ y. after y (small_by m)) is }
        made_found rest k v out on (Ok d) is = halted_found rest k v out on (printed_with out d.output) d.halt d.place d.view is

        body_found : (rest : List (List Move)) (k : ℕ) (v : View) (out : List ℕ) → Rest rest k
            → Found (suc m) (point k v out) (after (body_made t.word rest v out (exit_made t p e s)) (blocks_by m))
        body_found [] k v out h = end_found (point k v out) (exit_made t p e s v out) (small_is k v out (Some (End e)) (h 0 k (omega arith)))
        body_found (ms ∷ rest) k v out h =
            made_found rest k v out (λ z o. body_found rest (suc k) z o (λ i n at. h (suc i) n (omega (arith, at)))) (effect t.word ms v)
            (small_is k v out (Some (Transfer ms)) (h 0 k (omega arith)))

      block_found : (b : Option BasicBlock) → slice_get (routine_of t p s.top).blocks s.top.block ≡ b → Found (suc m) (first_point t p s) (after (block_made t p b s) (blocks_by m))
      block_found None is = record { bound = suc m; far = omega arith; is = ap (λ y. after y (small_by m)) (small_is 0 _ _ None (ap (λ o. item_of o 0) is)) }
      block_found (Some b) is =
          body_found b.exit b.body 0 (view_in t p s) s.printed (λ i n at. ap (λ o. item_of o n) is ∙ ap (λ j. item_in b.body b.exit j) (let z : n ≡ i = omega (arith, at) in z))

    step_found : (s : State) (b : Bool) → fits_stack t p s ≡ b → Found (suc m) (first_point t p s) (after (step t p s) (blocks_by m))
    step_found s true fits =
        subst (λ x. Found (suc m) (first_point t p s) (after (if_it_fits x s.printed (block_made t p (slice_get (routine_of t p s.top).blocks s.top.block) s)) (blocks_by m)))
        (sym fits) (block_found s fits (slice_get (routine_of t p s.top).blocks s.top.block) refl)
    step_found s false fits =
        subst (λ x. Found (suc m) (first_point t p s) (after (if_it_fits x s.printed (block_made t p (slice_get (routine_of t p s.top).blocks s.top.block) s)) (blocks_by m)))
        (sym fits) (record { bound = suc m; far = omega arith; is = ap (λ x. after (if_it_fits x s.printed (item_made t p (item_at (routine_of t p s.top) (record { block = s.top.block; at = 0 })) (first_point t p s))) (small_by m)) fits })

  pub blocks_found : (m : ℕ) (s : State) → Found m (first_point t p s) (blocks_by m s)
  blocks_found zero s = record { bound = 0; far = omega arith; is = refl }
  blocks_found (suc m) s = step_found m (blocks_found m) s (fits_stack t p s) refl

  reach_of : (m : ℕ) (s : State) (x : Behaviour) → blocks_by m s ≡ x → NeverFails (run M (first_point t p s)) → Found m (first_point t p s) x
      → Reach m (run M (first_point t p s)) (λ n. blocks_by n s)
  reach_of m s (Running out) e never f = both_run f.bound m out f.far (omega arith) f.is e
  reach_of m s (Ended out status) e never f = both_end f.bound m out status f.is e
  reach_of m s (Failed out why) e never f = absurd (never.at f.bound out why f.is)

  pub block_same : (s : State) → NeverFails (run M (first_point t p s)) → Same (run M (first_point t p s)) (λ n. blocks_by n s)
  block_same s never =
      reach_same _ _ (run_is_run M only_small (first_point t p s)) (run_by_is_run (step t p) printed_in only_blocks s) (λ m. reach_of m s _ refl never (blocks_found m s))

pub is_run : TemporaryRunIsRun
is_run t p input = run_by_is_run (step t p) printed_in (only_blocks t p) (begin t p input)

pub blocks_are_small : BlocksAreSmall
blocks_are_small t p input never = block_same t p (begin t p input) never
