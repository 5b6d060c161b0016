-- The linked program runs as the unit does.
use Rattle.std.proofs.Common.{◌≡◌, ℕ, suc, ◌+◌, ◌<◌, ◌≤◌, Bool, true, false, List, [], ◌∷◌, Option, Some, None, Result, Ok, Err, refl, sym, ap, subst, arith}
use Rattle.std.specs.Prelude.{nat_le, slice_get}
use Rattle.std.proofs.lemmas.Bool.{leb-true}
use Rattle.behaviour.specs.Behaviour.{Wild, IsPrefix}
use Rattle.behaviour.specs.Run.{NeverFails, Same, AreBytes}
use Rattle.behaviour.specs.Steps.{Move, Goes, Stops, Fails, printed_after, OnlyPrints, run, IsMatched, Simulates}
use Rattle.behaviour.proofs.Prefix.{prefix_refl}
use Rattle.behaviour.proofs.Stepping.{leads_one, leads_trans, leads_comes, comes_same_back, fails_one}
use Rattle.behaviour.proofs.Sameness.{same_trans, target_never_fails}
use Rattle.behaviour.proofs.Simulation.{simulation_same}
use Rattle.rtl_effect.specs.Views.{Stop, Traps, Wild as Unset, View}
use Rattle.rtl_effect.specs.Effects.{Done, effect}
use Rattle.rtl_effect.specs.Agree.{Tells, blank, word}
use Rattle.temp_machine.specs.Routines.{pushed}
use Rattle.temp_machine.specs.Machine.{State, entered, machine as unit_machine, step as unit_step, begin, first_byte, taken, if_it_fits, block_made, routine_of, printed_with}
use Rattle.temp_machine.proofs.Small.{only_blocks as unit_prints}
use Rattle.link_code.specs.Linked.{Transfer, Job, code, program}
use Rattle.link_code.specs.Runs.{IsLinkable}
use Rattle.link_code.proofs.Machine.{Mach, or_zero, ends, turned, turn, step, printed, machine, start, machine_runs}
use Rattle.behaviour.proofs.Stuttering.{stuttering_simulates}
use Rattle.link_code.proofs.Places.{Here, here_next, here_short, start_here, entry_here, function_named}
use Rattle.link_code.proofs.Wording.{Words, some_word}
use Rattle.link_code.proofs.Glue.{Glued, sets_stack}
use Rattle.link_code.proofs.Calls.{Entered, enters}
use Rattle.link_code.proofs.Frames.{pushed_small}
use Rattle.link_code.proofs.Ahead.{Ahead}
use Rattle.link_code.proofs.Steps.{size, Related, entered_related, step_ahead}

-- no turn takes back what was printed
module _ (j : Job) where
  out_grows : (out : List ℕ) (o : Option ℕ) → IsPrefix out (printed_with out o)
  out_grows out None = prefix_refl out
  out_grows out (Some b) = (b ∷ [], refl)

  ends_print : (h q : Option ℕ) (v : View) (out : List ℕ) (before : List ℕ) → IsPrefix before out → IsPrefix before (printed_after (printed j) (ends j h q v out))
  ends_print (Some n) q v out before p = p
  ends_print None (Some k) v out before p = p
  ends_print None None v out before p = p

  turned_prints : (m : Mach) (d : Result Done Stop) → IsPrefix m.out (printed_after (printed j) (turned j m d))
  turned_prints m (Ok d) = ends_print d.halt d.place d.view (printed_with m.out d.output) m.out (out_grows m.out d.output)
  turned_prints m (Err (Traps k)) = prefix_refl m.out
  turned_prints m (Err Unset) = prefix_refl m.out

  turn_prints : (m : Mach) (o : Option Transfer) → IsPrefix m.out (printed_after (printed j) (turn j m o))
  turn_prints m None = prefix_refl m.out
  turn_prints m (Some ms) = turned_prints m (effect j.t.word ms _)

  pub only_prints : OnlyPrints (step j) (printed j)
  only_prints = record { at = λ m. turn_prints m (slice_get (program j) m.place) }

module _ (j : Job) (is : IsLinkable j) where
  follows_of : (x : Move State) (n : ℕ) (m : Mach) → Ahead j is (Related j is) (size j is) false n x m → IsMatched (unit_machine j.t j.p) (machine j) (Related j is) (size j is) x n m
  follows_of (Goes s) n m a = a
  follows_of (Stops out status) n m a = a
  follows_of (Fails out why) n m a = a

  simulates : Simulates (unit_machine j.t j.p) (machine j) (Related j is)
  simulates = stuttering_simulates (unit_machine j.t j.p) (machine j) (Related j is) (size j is)
      (record { same_output = λ s m r. r.out; matches = λ s m r. follows_of (unit_step j.t j.p s) (size j is s) m (step_ahead j is s m r) })

  module _ (input : List ℕ) (fed : AreBytes input) (room : taken j.t j.p (begin j.t j.p input) ≤ j.t.stack) where
    main : ℕ
    main = j.p.main

    fits : (code j j.p.main).frame + (pushed j.t) ≤ j.t.memory
    fits = let p = pushed_small j is in let q = is.room in omega (arith, p, q, room)

    zero_or : (x : Option ℕ) (n : ℕ) → ((k : ℕ) → x ≡ Some k → k < 256) → or_zero x ≡ Some n → n < 256
    zero_or (Some k) n h e = h n e
    zero_or None n h e = let i : 0 ≡ n = cc in omega (arith, i)

    start_words : Words j is (start j input)
    start_words = record {
      regs = λ n x e. (let i : 0 ≡ x = cc in let s = some_word j is in omega (arith, i, s));
      bytes = λ a n e. zero_or (first_byte j.t j.p a) n (λ k. is.data_bytes a k) e;
      fed = fed;
    }

    abbrev first : Glued j is (start j input) 1 j.t.sp (Some j.t.memory) (start j input).bytes
    first = sets_stack j is (start j input) start_words _ 3 (start_here j)

    second_here : Here j first.to.place (j.glue.calling j.p.main ∷ j.glue.finish ∷ []) 3
    second_here = subst (λ p. Here j p (j.glue.calling j.p.main ∷ j.glue.finish ∷ []) 3) (sym first.place) (here_next j 0 j.glue.set_stack (j.glue.calling j.p.main ∷ j.glue.finish ∷ []) 3 (start_here j))

    entering : Entered j is j.t.link j.p.main j.t.memory (suc first.to.place) first.to
    entering = enters j is j.t.link refl is.links first.to first.words j.p.main j.t.memory (j.glue.finish ∷ []) 3 first.set (omega arith) is.memory_words fits (is.codes j.p.main is.main_stands)
        (let l = here_short j first.to.place _ _ 3 second_here in let q = is.short in omega (arith, l, q)) (j.glue.calling j.p.main) (is.glued.calling j.p.main) second_here (function_named j j.p.main is.main_stands) (entry_here j j.p.main is.main_stands)

    tells_zero : (x : Option ℕ) → Tells x (or_zero x)
    tells_zero (Some n) = word n
    tells_zero None = blank _

    begins : Related j is (begin j.t j.p input) entering.to
    begins = subst (λ o. Related j is (entered j.t j.p j.p.main [] j.t.memory (first_byte j.t j.p) input o) entering.to) first.out (entered_related j is j.p.main j.t.memory (suc first.to.place) first.to entering is.main_stands is.memory_words fits []
        ((let b = fits in omega (arith, b)), ap (λ p. suc p) first.place) (first_byte j.t j.p) (λ a. subst (Tells (first_byte j.t j.p a)) (sym (first.bytes a)) (tells_zero (first_byte j.t j.p a))) input (sym first.input))

    runs : NeverFails (run (unit_machine j.t j.p) (begin j.t j.p input)) → Same (run (unit_machine j.t j.p) (begin j.t j.p input)) (run (machine j) (start j input))
    runs never =
        let same = simulation_same (unit_machine j.t j.p) (machine j) (Related j is) simulates (unit_prints j.t j.p) (only_prints j) (begin j.t j.p input) entering.to begins never in
        same_trans _ _ _ same (comes_same_back (machine j) (only_prints j) (start j input) entering.to
        (leads_comes (machine j) (start j input) entering.to (leads_trans (machine j) (start j input) first.to entering.to (leads_one (machine j) (start j input) first.to first.goes) entering.leads)) (target_never_fails _ _ same))

  pub linked_runs : (input : List ℕ) → AreBytes input → NeverFails (run (unit_machine j.t j.p) (begin j.t j.p input)) → Same (run (unit_machine j.t j.p) (begin j.t j.p input)) (machine_runs j input)
  linked_runs input fed never = by (nat_le (taken j.t j.p (begin j.t j.p input)) j.t.stack) refl
    where
      by : (b : Bool) → nat_le (taken j.t j.p (begin j.t j.p input)) j.t.stack ≡ b → Same (run (unit_machine j.t j.p) (begin j.t j.p input)) (machine_runs j input)
      by true e = runs input fed (leb-true _ _ e) never
      by false e =
          absurd (never.at 1 [] Wild (fails_one (unit_machine j.t j.p) (begin j.t j.p input) [] Wild
          (ap (λ b. if_it_fits b [] (block_made j.t j.p (slice_get (routine_of j.t j.p (begin j.t j.p input).top).blocks 0) (begin j.t j.p input))) e)))
