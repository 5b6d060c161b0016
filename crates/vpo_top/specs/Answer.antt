-- What the program owes for the words that it is given, over what lies outside before and after.
use Rattle.std.specs.Prelude.{◌≡◌, ◌↔◌, ℕ, zero, suc, true, false, List, Option, Some, None}
use Rattle.vp_io.specs.Files.{OfFile}
use Rattle.vp_io.specs.declared.answers.Outcome.{Outcome}
use Rattle.vp_io.specs.declared.answers.Outcome.TheVariants.{BadWords}
use Rattle.shipped.specs.declared.Shipped.{Shipped}
use Rattle.shipped.specs.declared.Shipped.TheVariants.{Pdp11, Mips}
use Rattle.vpo_top.specs.Outside.{Outside, FilesSeen, InputSeen, SinkSeen}
use Rattle.vpo_top.specs.Request.{Asked, names_a_file, ReadsNoInput}
use Rattle.vpo_top.specs.Request.Asked.{Check, Show, Cc, Run}
use Rattle.vpo_top.specs.Judgement.{OfFiles, IsRefusal}
use Rattle.vpo_top.specs.Compiling.{JudgesCompilation, IsOfCompilation}
use Rattle.vpo_top.specs.Headline.{IsWritten}
use Rattle.vpo_top.specs.Commands.{JudgesCheck, IsOfCheck, IsVerdictWritten, IsShown}
use Rattle.asm_run.specs.Runs.{TakesSome}
use Rattle.vpo_top.specs.Running.{IsRunOfFiles, JudgesRun, IsOfRun}
use Rattle.vpo_top.specs.Faults.{HasCause, CountsOnlyAsked}
use Rattle.vpo_top.specs.Messages.{IsReported}

-- check DESC
pub record IsCheck {F K : Type 0} (desc : List ℕ) (files : FilesSeen F) (old new : SinkSeen K) (outcome : Outcome) : Type 0 where
  -- what is written says that the description is accepted, as which machine, and with how many rows
  pub checked : OfFile files.told desc (λ text. IsVerdictWritten text old.written new.written outcome)
  -- each outcome comes exactly where the file gives cause for it
  pub judged : OfFile files.told desc (λ text. JudgesCheck text outcome)
  -- where the file isn't told, no other outcome comes all the same
  pub possible : IsOfCheck outcome

-- cc [--plain] DESC SRC
pub record IsCompilation {F K : Type 0} (desc src : List ℕ) (files : FilesSeen F) (old new : SinkSeen K) (outcome : Outcome) : Type 0 where
  -- what is compiled is an assembly text of the described machine that does what the source does
  pub headline : OfFiles files.told desc src (λ machine_text source_text. IsWritten machine_text source_text old.written new.written outcome)
  -- each outcome comes exactly where the files give cause for it
  pub judged : OfFiles files.told desc src (λ machine_text source_text. JudgesCompilation machine_text source_text outcome)
  -- where the files aren't told, no other outcome comes all the same
  pub possible : IsOfCompilation outcome

-- run [--steps N] DESC ASM
pub record IsExecution {F S K : Type 0} (steps : ℕ) (desc asm : List ℕ) (files : FilesSeen F) (before now : InputSeen S) (old new : SinkSeen K) (outcome : Outcome) : Type 0 where
  -- outcome and output are those of the machine's run of the text's program, on all that the input had left
  pub ran : OfFiles files.told desc asm (λ machine_text text. IsRunOfFiles machine_text text before.left steps old.written new.written outcome)
  -- each outcome comes exactly where the files give cause for it
  pub judged : OfFiles files.told desc asm (λ machine_text text. JudgesRun machine_text text outcome)
  -- where the files aren't told, no other outcome comes all the same
  pub possible : IsOfRun steps outcome
  -- of the input some first bytes are taken, and none by a refusal
  pub taken : TakesSome before.left now.left
  pub unread : IsRefusal outcome → now ≡ before

-- the machine of a number
abbrev pub machine_of : ℕ → Shipped
machine_of zero = Pdp11
machine_of (suc n) = Mips

-- each form of the words has its judge: there is no case for the rest
abbrev pub IsAnswer : {F S K E : Type 0} → Asked → Outside F S K E → Outside F S K E → Outcome → Type 0
IsAnswer (Check desc) before now outcome = IsCheck desc before.files before.output now.output outcome
IsAnswer (Show which) before now outcome = IsShown (machine_of which) before.output.written now.output.written outcome
IsAnswer (Cc false plain desc src) before now outcome = IsCompilation desc src before.files before.output now.output outcome
IsAnswer (Run steps desc asm) before now outcome =
    IsExecution steps desc asm before.files before.input now.input before.output now.output outcome
-- no words ask for dumps so far
IsAnswer (Cc true plain desc src) before now outcome = ⊥

abbrev pub IsAnswerTo : {F S K E : Type 0} → Option Asked → Outside F S K E → Outside F S K E → Outcome → Type 0
IsAnswerTo (Some request) before now outcome = IsAnswer request before now outcome
IsAnswerTo None before now outcome = outcome ≡ BadWords

-- what holds of each call, whatever is asked for
pub record IsAnswered {F S K E : Type 0} (wanted : Option Asked) (before now : Outside F S K E) (outcome : Outcome) : Type 0 where
  -- what is written, and when each outcome comes
  pub answer : IsAnswerTo wanted before now outcome
  -- words that ask for nothing, and no others, are refused as words
  pub bad_words : (outcome ≡ BadWords) ↔ (wanted ≡ None)
  -- a fault is answered only where the object's count rose
  pub cause : HasCause wanted before now outcome
  -- no fault is counted of a file that no word names; words without a name fetch none, and no file is changed
  pub fetched : CountsOnlyAsked wanted before.files.faults now.files.faults
  pub not_fetched : names_a_file wanted ≡ false → now.files ≡ before.files
  pub files_kept : now.files.told ≡ before.files.told
  -- a refusal, and want of memory, leave the output untouched
  pub untouched : IsRefusal outcome → now.output ≡ before.output
  pub input_kept : ReadsNoInput wanted → now.input ≡ before.input
  -- one line tells what the outcome is, where it isn't as asked
  pub reported : IsReported outcome before.errors now.errors
