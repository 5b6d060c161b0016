-- What is owed for a compilation, from what the two files hold.
use Rattle.std.proofs.Common.{◌≡◌, inl, inr, Bool, ℕ, ◌<◌, ◌≤◌, List, length, Option, Some, None, refl, sym, subst}
use Rattle.std.specs.Io.KnownBytes.{Appends}
use Rattle.vp_io.specs.Contents.{AppendsPart}
use Rattle.vp_io.specs.Files.{Told, OfFile, FaultCounts, CountsOnly, RoseBy}
use Rattle.vp_io.proofs.Counting.{rose_by_after}
use Rattle.vp_io.specs.declared.answers.Which.TheVariants.{Text}
use Rattle.vp_io.specs.declared.answers.Outcome.{Outcome}
use Rattle.vp_io.specs.declared.answers.Outcome.TheVariants.{Done, NoMemory, FileTooLong, ReadFault, WriteFault}
use Rattle.md_rows.specs.declared.description.RawDescription.{RawDescription}
use Rattle.md_verdict.specs.declared.accepted.Accepted.{Accepted}
use Rattle.md_verdict.specs.Verdict.{description_in}
use Rattle.vpo_top.specs.Request.{compilation}
use Rattle.vpo_top.specs.Judgement.{byte_limit, IsFetchRefusal, OfFiles}
use Rattle.vpo_top.specs.Headline.{IsTextOf, IsWritten}
use Rattle.vpo_top.specs.Commands.{OfMachine, IsMachineOf}
use Rattle.vpo_top.specs.Compiling.{IsCompilable, JudgesCompilation}
use Rattle.vpo_top.specs.Faults.{HasReadCause}
use Rattle.vpo_top.proofs.Counts.{never_falls}
use Rattle.vpo_top.proofs.Runs.{machine_accepted, of_machine}

-- the source is not fetched
pub source_judged : (told told' : Told) (desc src : List ℕ) (m : Accepted) (o : Outcome) → told' ≡ told → OfFile told desc (λ text. IsMachineOf text m)
    → IsFetchRefusal Text o → (o ≡ FileTooLong Text → OfFile told' src (λ file. byte_limit < length file))
    → OfFiles told desc src (λ description source. JudgesCompilation description source o)
source_judged None told' desc src m o same machine r long = tt
source_judged (Some files) told' desc src m o same machine (inl e) long = subst (λ q. JudgesCompilation (files desc) (files src) q) (sym e) tt
source_judged (Some files) told' desc src m o same machine (inr (inl e)) long =
    subst (λ q. JudgesCompilation (files desc) (files src) q) (sym e) (machine_accepted (files desc) m machine)
source_judged (Some files) told' desc src m o same machine (inr (inr e)) long =
    subst (λ q. JudgesCompilation (files desc) (files src) q) (sym e)
    (machine_accepted (files desc) m machine, subst (λ t. OfFile t src (λ file. byte_limit < length file)) same (long e))

pub source_cause : (plain : Bool) (told told' : Told) (desc src : List ℕ) (before mid now : FaultCounts) (o : Outcome) → told' ≡ told
    → CountsOnly desc before mid → IsFetchRefusal Text o → (o ≡ ReadFault Text → RoseBy told' src mid now)
    → HasReadCause (compilation plain desc src) told before now o
source_cause plain told told' desc src before mid now o same counts (inl e) cause =
    subst (λ q. HasReadCause (compilation plain desc src) told before now q) (sym e) tt
source_cause plain told told' desc src before mid now o same counts (inr (inl e)) cause =
    subst (λ q. HasReadCause (compilation plain desc src) told before now q) (sym e)
    (rose_by_after told src before mid now counts.total (never_falls desc before mid counts src) (subst (λ t. RoseBy t src mid now) same (cause e)))
source_cause plain told told' desc src before mid now o same counts (inr (inr e)) cause =
    subst (λ q. HasReadCause (compilation plain desc src) told before now q) (sym e) tt

-- what holds of the machine and the source that were fetched holds by the files
pub found_both : (told told' : Told) (desc src : List ℕ) (m : Accepted) (source : List ℕ) (P : List ℕ → RawDescription → Type 0) → told' ≡ told
    → OfFile told desc (λ text. IsMachineOf text m) → OfFile told' src (λ file. source ≡ file) → length source ≤ byte_limit → P source (description_in m)
    → OfFiles told desc src (λ description file. (length file ≤ byte_limit) × OfMachine description (λ d. P file d))
found_both None told' desc src m source P same machine is short p = tt
found_both (Some files) told' desc src m source P same machine is short p =
    let here : source ≡ files src = subst (λ t. OfFile t src (λ file. source ≡ file)) same is in (
      subst (λ bytes. length bytes ≤ byte_limit) here short,
      of_machine (λ d. P (files src) d) m (files desc) machine (subst (λ bytes. P bytes (description_in m)) here p),
    )

pub memory_judged : (told : Told) (desc src : List ℕ) → OfFiles told desc src (λ description source. JudgesCompilation description source NoMemory)
memory_judged None desc src = tt
memory_judged (Some files) desc src = tt

-- a text was compiled, and written whole or in part
compilable : (description source text : List ℕ) → IsTextOf description source text → IsCompilable description source
compilable description source text is = (is.0, (is.1.0, (is.1.1.0, is.1.1.1, (is.1.1.2.tree, is.1.1.2.accepted))))

module _ (told : Told) (desc src text : List ℕ) where
  abbrev Compiled : Told → Type 0
  Compiled t = OfFiles t desc src (λ description source. IsTextOf description source text)

  pub done_judged : Compiled told → OfFiles told desc src (λ description source. JudgesCompilation description source (Done 0))
  done_judged is = by_files told is
    where
      by_files : (t : Told) → Compiled t → OfFiles t desc src (λ description source. JudgesCompilation description source (Done 0))
      by_files None is = tt
      by_files (Some files) is = (refl, compilable (files desc) (files src) text is)

  pub write_fault_judged : Compiled told → OfFiles told desc src (λ description source. JudgesCompilation description source WriteFault)
  write_fault_judged is = by_files told is
    where
      by_files : (t : Told) → Compiled t → OfFiles t desc src (λ description source. JudgesCompilation description source WriteFault)
      by_files None is = tt
      by_files (Some files) is = compilable (files desc) (files src) text is

  pub written_done : (old new : Option (List ℕ)) → Compiled told → Appends old new text
      → OfFiles told desc src (λ description source. IsWritten description source old new (Done 0))
  written_done old new is appends = by_files told is
    where
      by_files : (t : Told) → Compiled t → OfFiles t desc src (λ description source. IsWritten description source old new (Done 0))
      by_files None is = tt
      by_files (Some files) is = (text, is, appends)

  pub written_part : (old new : Option (List ℕ)) → Compiled told → AppendsPart old new text
      → OfFiles told desc src (λ description source. IsWritten description source old new WriteFault)
  written_part old new is part = by_files told is
    where
      by_files : (t : Told) → Compiled t → OfFiles t desc src (λ description source. IsWritten description source old new WriteFault)
      by_files None is = tt
      by_files (Some files) is = (text, is, part)
