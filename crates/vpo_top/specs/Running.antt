-- What each outcome of a run says of the two files, and what is written of it.
use Rattle.std.specs.Prelude.{◌≡◌, ◌⊎◌, ℕ, ◌<◌, ◌≤◌, List, length, Option, ⊤}
use Rattle.vp_io.specs.declared.answers.Reason.{Reason}
use Rattle.vp_io.specs.declared.answers.Which.TheVariants.{Assembly, Input}
use Rattle.vp_io.specs.declared.answers.Outcome.{Outcome}
use Rattle.vp_io.specs.declared.answers.Outcome.TheVariants.{Done, FileTooLong, BadAssembly, ReadFault, WriteFault, Trapped, Spent}
use Rattle.asm_text.specs.Read.{IsCause}
use Rattle.machine_step.specs.declared.running.Stop.{Stop}
use Rattle.machine_step.specs.declared.running.Stop.TheVariants as stop
use Rattle.asm_run.specs.Runs.{IsAssemblyText, TextRunsTo}
use Rattle.vpo_top.specs.Judgement.{byte_limit}
use Rattle.vpo_top.specs.declared.running.Found.{Found}
use Rattle.vpo_top.specs.Commands.{OfMachine, IsAcceptedMachine, IsMachineOf, JudgesCheck, IsRefusalOfCheck}

-- the most bytes of an assembly text
abbrev pub assembly_limit : ℕ
assembly_limit = 67108864

-- a machine and a text that are to run were found in these bytes
pub record IsFoundIn (description text : List ℕ) (found : Found) : Type 0 where
  pub machine : IsMachineOf description found.machine
  pub short : length text ≤ assembly_limit
  pub is : found.text.items ≡ text

-- the bytes are short enough, and an assembly text of the machine
abbrev pub IsRunnable : List ℕ → List ℕ → Type 0
IsRunnable description text = (length text ≤ assembly_limit) × OfMachine description (λ d. IsAssemblyText d text)

-- the bytes are short enough, but no assembly text of the machine, for this reason
abbrev pub IsNotRunnable : List ℕ → List ℕ → Reason → Type 0
IsNotRunnable description text reason = (length text ≤ assembly_limit) × OfMachine description (λ d. IsCause d text reason)

-- where each outcome of a run comes, for what the two files hold: a description is judged before a text, and but for want of memory and
-- faults of the outside, just one of the refusals fits, or none
abbrev pub JudgesRun : List ℕ → List ℕ → Outcome → Type 0
JudgesRun description text (Done status) = IsRunnable description text
JudgesRun description text (Trapped kind place) = IsRunnable description text
JudgesRun description text (Spent steps) = IsRunnable description text
JudgesRun description text WriteFault = IsRunnable description text
JudgesRun description text (ReadFault Input) = IsRunnable description text
JudgesRun description text (ReadFault Assembly) = IsAcceptedMachine description
JudgesRun description text (FileTooLong Assembly) = IsAcceptedMachine description × (assembly_limit < length text)
JudgesRun description text (BadAssembly reason) = IsNotRunnable description text reason
JudgesRun description text outcome = JudgesCheck description outcome

-- the outcomes of a run that refuses its files
abbrev pub IsRefusalOfRun : Outcome → Type 0
IsRefusalOfRun (ReadFault Assembly) = ⊤
IsRefusalOfRun (FileTooLong Assembly) = ⊤
IsRefusalOfRun (BadAssembly reason) = ⊤
IsRefusalOfRun outcome = IsRefusalOfCheck outcome

-- the outcomes that a run of up to so many steps has, whatever is outside
abbrev pub IsOfRun : ℕ → Outcome → Type 0
IsOfRun steps (Done status) = ⊤
IsOfRun steps (Trapped kind place) = ⊤
IsOfRun steps (Spent n) = n ≡ steps
IsOfRun steps WriteFault = ⊤
IsOfRun steps (ReadFault Input) = ⊤
IsOfRun steps outcome = IsRefusalOfRun outcome

-- the outcome of a stop after up to so many steps
abbrev pub outcome_of : ℕ → Stop → Outcome
outcome_of steps (stop.Ended status) = Done status
outcome_of steps (stop.Trapped kind place) = Trapped kind place
outcome_of steps stop.Spent = Spent steps
outcome_of steps stop.ReadFault = ReadFault Input
outcome_of steps stop.WriteFault = WriteFault

-- the described machine, running the text's program on all that the input had left, comes to such a stop within the steps, with what was
-- written by then; a refusal says nothing of a run
abbrev pub IsRunOfFiles : List ℕ → List ℕ → Option (List ℕ) → ℕ → Option (List ℕ) → Option (List ℕ) → Outcome → Type 0
IsRunOfFiles description text left steps old new outcome =
    IsRefusalOfRun outcome ⊎ ((s : Stop) × (outcome ≡ outcome_of steps s) × OfMachine description (λ d. TextRunsTo d text left steps old new s))
