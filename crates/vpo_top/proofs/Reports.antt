-- What is reported of an outcome that isn't as asked.
use Rattle.std.proofs.Common.{◌≡◌, ℕ, refl}
use Rattle.vp_io.specs.declared.answers.Outcome.{Outcome}
use Rattle.vp_io.specs.declared.answers.Outcome.TheVariants.{Done, NoMemory, BadWords, FileTooLong, BadDescription, BadSource, BadAssembly, ReadFault, WriteFault, Trapped, Spent}
use Rattle.vpo_top.specs.Outside.{SinkSeen}
use Rattle.vpo_top.specs.Messages.{message, IsLineWritten, IsReported}

pub reported : {E : Type 0} (outcome : Outcome) (old new : SinkSeen E) → ((status : ℕ) → outcome ≡ Done status → ⊥)
    → IsLineWritten (message outcome) old.written new.written old.faults new.faults → IsReported outcome old new
reported (Done status) old new other is = absurd (other status refl)
reported NoMemory old new other is = is
reported BadWords old new other is = is
reported (FileTooLong which) old new other is = is
reported (BadDescription reason) old new other is = is
reported (BadSource reason) old new other is = is
reported (BadAssembly reason) old new other is = is
reported (ReadFault which) old new other is = is
reported WriteFault old new other is = is
reported (Trapped kind place) old new other is = is
reported (Spent steps) old new other is = is
