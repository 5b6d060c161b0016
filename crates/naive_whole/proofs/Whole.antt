-- The run of a source and that of its naive code come as far as each bound with the same output, or end alike.
use Rattle.std.proofs.Common.{◌≡◌, ℕ, suc, List, refl, ap, ◌∙◌, arith}
use Rattle.behaviour.specs.Behaviour.{Ended}
use Rattle.behaviour.specs.Run.{NeverFails, Reach, both_run, both_end}
use Rattle.behaviour.specs.Steps.{Stops}
use Rattle.behaviour.proofs.Reaching.{reach_same}
use Rattle.behaviour.proofs.Sameness.{same_trans, target_never_fails}
use Rattle.behaviour.proofs.Stepping.{run_is_run, comes_then_ends}
use Rattle.c_tree.specs.declared.typed.Typed.{Typed}
use Rattle.c_meaning.specs.Parts.{State, Part, Gives, Cut, Fails, Value as Result}
use Rattle.c_meaning.specs.Settings.{setting_of}
use Rattle.c_meaning.specs.Run.{begin as start, seen, status_of}
use Rattle.c_meaning.proofs.Runs.{source_is_run}
use Rattle.temp_machine.specs.Routines.{Image, Target}
use Rattle.temp_machine.specs.Machine.{begin, temporary_run}
use Rattle.temp_machine.specs.Small.{Point, first_point, small_step, small_run}
use Rattle.temp_machine.proofs.Small.{only_small, blocks_are_small}
use Rattle.naive_run.specs.Law.{run_of, NaiveIsSame}
use Rattle.naive_step.proofs.Doing.{M, Does, comes, late, any}
use Rattle.naive_function.proofs.Whole.{main_does}
use Rattle.naive_whole.proofs.Start.{statics_stand}

module _ (t : Target) (u : Image) (source : Typed) (input : List ℕ) where
  abbrev first : Point
  first = first_point t u (begin t u input)

  -- where main's run ends, the machine stops with its status
  abbrev Stopped : Result → State → Point → Type 0
  Stopped v s e = small_step t u e ≡ Stops e.printed (status_of v)

  -- main isn't called by a step, so the machine is one call behind
  reaches : (d : ℕ) (x : Part Result) → run_of t source input (suc d) ≡ seen x → NeverFails (run_of t source input) → Does t u d first Stopped x
      → Reach d (run_of t source input) (small_run t u input)
  reaches d (Gives out v s) is never (comes _ _ _ e to printed stops) =
      let end = comes_then_ends (M t u) first e e.printed (status_of v) to stops in
      both_end (suc d) end.0 out (status_of v) is (end.1 ∙ ap (λ o. Ended o (status_of v)) printed)
  reaches d (Cut out) is never (late _ l) = both_run (suc d) l.0 out (omega arith) l.1 is l.2
  reaches d (Fails out why) is never (any _ _) = absurd (never.at (suc d) out why is)

pub naive_is_same : NaiveIsSame
naive_is_same t m source u fixed machine sound unit input bytes never =
    let statics = statics_stand t u m source machine.target.size unit input in
    let by_transfers = reach_same (run_of t source input) (small_run t u input) (source_is_run (setting_of t.kept t.word t.stack) source input) (run_is_run (M t u) (only_small t u) (first t u source input))
    (λ d. reaches t u source input d _ refl never (main_does t u m source fixed machine sound unit d (suc d) (omega arith) start input bytes statics)) in
    same_trans (run_of t source input) (small_run t u input) (temporary_run t u input) by_transfers
    (blocks_are_small t u input (target_never_fails (run_of t source input) (small_run t u input) by_transfers))
