-- The coloured code keeps the old one.
use Rattle.std.proofs.Common.{◌≡◌, ℕ, ◌+◌, ◌-◌, ◌<◌, ◌≤◌, ◌==◌, Bool, true, false, cond, List, [], length, Option, Some, None, refl, sym, ap, ◌∙◌, subst, arith}
use Rattle.std.specs.Prelude.{slice_index, slice_get}
use Rattle.std.proofs.lemmas.Bool.{leb-true}
use Rattle.std.proofs.lemmas.List.Elements.{recursion_from_All}
use Rattle.behaviour.specs.Run.{AreBytes, Keep}
use Rattle.behaviour.specs.Steps.{Lockstep}
use Rattle.behaviour.proofs.Simulation.{simulation_keep, lockstep_simulates}
use Rattle.rtl_effect.specs.Views.{Gone}
use Rattle.rtl_effect.proofs.SeenGrowth.{tells_self}
use Rattle.temp_machine.specs.Routines.{pushed}
use Rattle.temp_machine.specs.Machine.{State, is_between, begin, machine, temporary_run, unset_between, if_it_fits, fits_stack, block_made, taken_by}
use Rattle.temp_machine.proofs.Small.{only_blocks}
use Rattle.color_steps.specs.Laws.{KeepsColored}
use Rattle.color_steps.proofs.Tabled.{tabled_image}
use Rattle.color_steps.proofs.Frames.{Job, routine, bottom, pushed_small}
use Rattle.color_steps.proofs.States.{state, Related, related, fails, index_below}
use Rattle.color_steps.proofs.Ends.{enters}
use Rattle.color_steps.proofs.Steps.{step_alike, same_printed}

module _ (j : Job) where
  abbrev main : ℕ
  main = j.old.main

  abbrev bytes_of : List ℕ → ℕ → Option ℕ
  bytes_of xs a = cond (is_between j.t.base (j.t.base + length xs) a) (Some (slice_index xs (a - j.t.base))) None

  -- the first state, by the function that is started, its frame and the data
  abbrev first : ℕ → ℕ → List ℕ → List ℕ → State
  first f size xs input =
      state f 0 (j.t.memory - (size + pushed j.t)) []
      (record {
        regs = λ n. cond (n == j.t.sp) (Some (j.t.memory - (size + pushed j.t))) None;
        temps = λ n. None;
        flags = λ n. Gone;
        bytes = unset_between (j.t.memory - (size + pushed j.t)) j.t.memory (bytes_of xs);
        input = input;
      }) []

  size_is : (j.new.routines j.new.main).frame ≡ (routine j main).frame
  size_is = ap (λ f. (j.new.routines f).frame) j.is.colored.main ∙ (j.is.colored.routines main).frame

  first_is : (input : List ℕ) → begin j.t j.new input ≡ begin j.t j.old input
  first_is input =
      let f = j.is.colored.main in
      let size = size_is in
      let xs = j.is.colored.bytes in
      λ i. first (f i) (size i) (xs i) input

  bytes_small : (a x : ℕ) → bytes_of j.old.bytes a ≡ Some x → x < 256
  bytes_small a x e = by (is_between j.t.base (j.t.base + length j.old.bytes) a) e
    where
      by : (b : Bool) → cond b (Some (slice_index j.old.bytes (a - j.t.base))) None ≡ Some x → x < 256
      by true h = let k : slice_index j.old.bytes (a - j.t.base) ≡ x = cc in subst (λ (n : ℕ). n < 256) k (index_below 256 j.old.bytes (a - j.t.base) (omega arith) (recursion_from_All (λ b. b < 256) j.old.bytes j.is.image.bytes))
      by false h = absurd (let k : None ≡ Some x = h in cc)

  module _ (input : List ℕ) (fed : AreBytes input) where
    begun : taken_by j.t j.old (begin j.t j.old input).top + 0 ≤ j.t.stack → Related j (begin j.t j.old input) (begin j.t j.old input)
    begun room =
        related main 0 _ [] [] _ _ []
        (enters j main j.t.memory j.is.image.main fits j.is.target.words (omega arith) (bytes_of j.old.bytes) (bytes_of j.old.bytes) input input [] []
        (bottom (routine j main).params j.t.memory refl) (λ a. tells_self _) refl fed fed bytes_small bytes_small)
      where
        fits : (routine j main).frame + pushed j.t ≤ j.t.memory
        fits = let p = pushed_small j in let m = j.is.image.room in omega (arith, p, m, room)

    begin_by : (b : Bool) → fits_stack j.t j.old (begin j.t j.old input) ≡ b → Related j (begin j.t j.old input) (begin j.t j.old input)
    begin_by true e = begun (leb-true _ _ e)
    begin_by false e =
        fails (begin j.t j.old input) (begin j.t j.old input)
        (ap (λ b. if_it_fits b [] (block_made j.t j.old (slice_get (routine j main).blocks 0) (begin j.t j.old input))) e) refl

    begins : Related j (begin j.t j.old input) (begin j.t j.new input)
    begins = subst (λ s. Related j (begin j.t j.old input) s) (sym (first_is input)) (begin_by (fits_stack j.t j.old (begin j.t j.old input)) refl)

  lockstep : Lockstep (machine j.t j.old) (machine j.t j.new) (Related j)
  lockstep = record { same_output = same_printed j; moves = step_alike j }

  pub keep : Keep (temporary_run j.t j.new) (temporary_run j.t j.old)
  keep =
      simulation_keep (machine j.t j.old) (machine j.t j.new) (Related j) (lockstep_simulates (machine j.t j.old) (machine j.t j.new) (Related j) lockstep)
      (only_blocks j.t j.old) (only_blocks j.t j.new) (begin j.t j.old) (begin j.t j.new) begins

pub keeps_colored : KeepsColored
keeps_colored t old new colors seats live is = keep (record { t = t; old = old; new = new; seats = seats; live = live; is = tabled_image t old new colors seats live is })
