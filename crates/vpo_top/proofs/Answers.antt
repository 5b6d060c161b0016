-- That words are answered, from what the command owes and what is reported.
use Rattle.std.proofs.Common.{◌≡◌, ℕ, Bool, false, List, Option, Some, None, refl, subst, sym}
use Rattle.vp_io.specs.declared.answers.Which.TheVariants.{Description, Text, Assembly, Input}
use Rattle.vp_io.specs.declared.answers.Outcome.{Outcome}
use Rattle.vp_io.specs.declared.answers.Outcome.TheVariants.{BadWords, ReadFault, WriteFault}
use Rattle.vpo_top.specs.Outside.{Outside}
use Rattle.vpo_top.specs.Request.{Asked, name_asked, names_a_file, compilation, ReadsNoInput}
use Rattle.vpo_top.specs.Request.Asked.{Check, Cc}
use Rattle.vpo_top.specs.Judgement.{IsRefusal}
use Rattle.vpo_top.specs.Compiling.{IsOfCompilation}
use Rattle.vpo_top.specs.Commands.{IsOfCheck}
use Rattle.vpo_top.specs.Messages.{IsReported}
use Rattle.vpo_top.specs.Faults.{HasReadCause, HasWriteCause, HasCause, RoseByName, CountsOnlyAsked}
use Rattle.vpo_top.specs.Answer.{IsAnswer, IsAnswered, IsCheck, IsCompilation}

-- a fault has its cause, where the input has no name
has_cause : {F S K E : Type 0} (wanted : Option Asked) (before now : Outside F S K E) (outcome : Outcome)
    → name_asked wanted Input ≡ None → HasReadCause wanted before.files.told before.files.faults now.files.faults outcome
    → HasWriteCause before.output.faults now.output.faults outcome → HasCause wanted before now outcome
has_cause wanted before now WriteFault unnamed read write = write
has_cause wanted before now (ReadFault Input) unnamed read write =
    let P : Option (List ℕ) → Type 0 = λ name. RoseByName name before.files.told before.files.faults now.files.faults in absurd (subst P unnamed read)
has_cause wanted before now (ReadFault Description) unnamed read write = read
has_cause wanted before now (ReadFault Text) unnamed read write = read
has_cause wanted before now (ReadFault Assembly) unnamed read write = read
has_cause wanted before now outcome unnamed read write = tt

-- a request of files was done and reported
record IsDone {F S K E : Type 0} (request : Asked) (before now : Outside F S K E) (outcome : Outcome) : Type 0 where
  answer : IsAnswer request before now outcome
  other : outcome ≡ BadWords → ⊥
  cause : HasCause (Some request) before now outcome
  fetched : CountsOnlyAsked (Some request) before.files.faults now.files.faults
  not_fetched : names_a_file (Some request) ≡ false → now.files ≡ before.files
  files_kept : now.files.told ≡ before.files.told
  untouched : IsRefusal outcome → now.output ≡ before.output
  input_kept : ReadsNoInput (Some request) → now.input ≡ before.input
  reported : IsReported outcome before.errors now.errors

answered : {F S K E : Type 0} (wanted : Option Asked) (request : Asked) (before now : Outside F S K E) (outcome told : Outcome)
    → wanted ≡ Some request → told ≡ outcome → IsDone request before now outcome → IsAnswered wanted before now told
answered wanted request before now outcome told is same done =
    let P : Option Asked → Type 0 = λ w. IsAnswered w before now told in
    let Q : Outcome → Type 0 = λ o. IsAnswered (Some request) before now o in
    subst P (sym is) (subst Q (sym same) (record {
      answer = done.answer;
      bad_words = ((λ bad. absurd (done.other bad)), (λ none. cc none));
      cause = done.cause;
      fetched = done.fetched;
      not_fetched = done.not_fetched;
      files_kept = done.files_kept;
      untouched = done.untouched;
      input_kept = done.input_kept;
      reported = done.reported;
    }))

pub check_answered : {F S K E : Type 0} (wanted : Option Asked) (desc : List ℕ) (before now : Outside F S K E) (outcome told : Outcome)
    → wanted ≡ Some (Check desc) → told ≡ outcome → IsCheck desc before.files before.output now.output outcome
    → HasReadCause (Some (Check desc)) before.files.told before.files.faults now.files.faults outcome
    → HasWriteCause before.output.faults now.output.faults outcome
    → CountsOnlyAsked (Some (Check desc)) before.files.faults now.files.faults → now.files.told ≡ before.files.told
    → (IsRefusal outcome → now.output ≡ before.output) → now.input ≡ before.input → IsReported outcome before.errors now.errors
    → IsAnswered wanted before now told
check_answered wanted desc before now outcome told is same answer read write fetched kept untouched input reported =
    answered wanted (Check desc) before now outcome told is same (record {
      answer = answer;
      other = λ bad. let P : Outcome → Type 0 = λ o. IsOfCheck o in subst P bad answer.possible;
      cause = has_cause (Some (Check desc)) before now outcome refl read write;
      fetched = fetched;
      not_fetched = λ unnamed. cc unnamed;
      files_kept = kept;
      untouched = untouched;
      input_kept = λ _. input;
      reported = reported;
    })

pub compilation_answered : {F S K E : Type 0} (wanted : Option Asked) (plain : Bool) (desc src : List ℕ) (before now : Outside F S K E) (outcome told : Outcome)
    → wanted ≡ compilation plain desc src → told ≡ outcome → IsCompilation desc src before.files before.output now.output outcome
    → HasReadCause (compilation plain desc src) before.files.told before.files.faults now.files.faults outcome
    → HasWriteCause before.output.faults now.output.faults outcome
    → CountsOnlyAsked (compilation plain desc src) before.files.faults now.files.faults → now.files.told ≡ before.files.told
    → (IsRefusal outcome → now.output ≡ before.output) → now.input ≡ before.input → IsReported outcome before.errors now.errors
    → IsAnswered wanted before now told
compilation_answered wanted plain desc src before now outcome told is same answer read write fetched kept untouched input reported =
    answered wanted (Cc false plain desc src) before now outcome told is same (record {
      answer = answer;
      other = λ bad. let P : Outcome → Type 0 = λ o. IsOfCompilation o in subst P bad answer.possible;
      cause = has_cause (compilation plain desc src) before now outcome refl read write;
      fetched = fetched;
      not_fetched = λ unnamed. cc unnamed;
      files_kept = kept;
      untouched = untouched;
      input_kept = λ _. input;
      reported = reported;
    })
