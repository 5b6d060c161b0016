-- What is owed for a run, from what the two files hold and what their program came to.
use Rattle.std.proofs.Common.{◌≡◌, inl, inr, ℕ, ◌<◌, List, length, Option, Some, None, sym, subst}
use Rattle.vp_io.specs.Files.{Told, OfFile, FaultCounts, CountsOnly, RoseBy}
use Rattle.vp_io.proofs.Counting.{rose_by_after}
use Rattle.vp_io.specs.declared.answers.Which.TheVariants.{Description, Text, Assembly, Input}
use Rattle.vp_io.specs.declared.answers.Outcome.{Outcome}
use Rattle.vp_io.specs.declared.answers.Outcome.TheVariants.{FileTooLong, ReadFault}
use Rattle.md_rows.specs.declared.description.RawDescription.{RawDescription}
use Rattle.md_verdict.specs.declared.accepted.Accepted.{Accepted}
use Rattle.md_verdict.specs.Verdict.{description_in}
use Rattle.vpo_top.specs.Request.{Asked}
use Rattle.vpo_top.specs.Request.Asked.{Run}
use Rattle.vpo_top.specs.Judgement.{IsFetchRefusal, OfFiles}
use Rattle.vpo_top.specs.Commands.{OfMachine, IsAcceptedMachine, IsMachineOf}
use Rattle.vpo_top.specs.Running.{assembly_limit, JudgesRun}
use Rattle.vpo_top.specs.Faults.{HasReadCause, HasFileCause}
use Rattle.vpo_top.proofs.Counts.{never_falls}

-- the text is not fetched
pub machine_accepted : (description : List ℕ) (m : Accepted) → IsMachineOf description m → IsAcceptedMachine description
machine_accepted description m is = (is.0, (is.1.said, is.1.is_accepted))

pub text_judged : (told told' : Told) (desc asm : List ℕ) (m : Accepted) (o : Outcome) → told' ≡ told → OfFile told desc (λ text. IsMachineOf text m)
    → IsFetchRefusal Assembly o → (o ≡ FileTooLong Assembly → OfFile told' asm (λ file. assembly_limit < length file))
    → OfFiles told desc asm (λ description text. JudgesRun description text o)
text_judged None told' desc asm m o same machine r long = tt
text_judged (Some files) told' desc asm m o same machine (inl e) long = subst (λ q. JudgesRun (files desc) (files asm) q) (sym e) tt
text_judged (Some files) told' desc asm m o same machine (inr (inl e)) long =
    subst (λ q. JudgesRun (files desc) (files asm) q) (sym e) (machine_accepted (files desc) m machine)
text_judged (Some files) told' desc asm m o same machine (inr (inr e)) long =
    subst (λ q. JudgesRun (files desc) (files asm) q) (sym e)
    (machine_accepted (files desc) m machine, subst (λ t. OfFile t asm (λ file. assembly_limit < length file)) same (long e))

pub text_cause : (steps : ℕ) (told told' : Told) (desc asm : List ℕ) (before mid now : FaultCounts) (o : Outcome) → told' ≡ told
    → CountsOnly desc before mid → IsFetchRefusal Assembly o → (o ≡ ReadFault Assembly → RoseBy told' asm mid now)
    → HasReadCause (Some (Run steps desc asm)) told before now o
text_cause steps told told' desc asm before mid now o same counts (inl e) cause =
    subst (λ q. HasReadCause (Some (Run steps desc asm)) told before now q) (sym e) tt
text_cause steps told told' desc asm before mid now o same counts (inr (inl e)) cause =
    subst (λ q. HasReadCause (Some (Run steps desc asm)) told before now q) (sym e)
    (rose_by_after told asm before mid now counts.total (never_falls desc before mid counts asm) (subst (λ t. RoseBy t asm mid now) same (cause e)))
text_cause steps told told' desc asm before mid now o same counts (inr (inr e)) cause =
    subst (λ q. HasReadCause (Some (Run steps desc asm)) told before now q) (sym e) tt

pub of_machine : (P : RawDescription → Type 0) (m : Accepted) (description : List ℕ) → IsMachineOf description m → P (description_in m) → OfMachine description P
of_machine P m description is p = (is.0, (is.1.said, is.1.is_accepted, subst P is.1.normal p))

pub file_cause : (wanted : Option Asked) (told : Told) (before now : FaultCounts) (o : Outcome) → HasReadCause wanted told before now o
    → HasFileCause wanted told before now o
file_cause wanted told before now (ReadFault Input) cause = tt
file_cause wanted told before now (ReadFault Description) cause = cause
file_cause wanted told before now (ReadFault Text) cause = cause
file_cause wanted told before now (ReadFault Assembly) cause = cause
file_cause wanted told before now _ cause = cause
