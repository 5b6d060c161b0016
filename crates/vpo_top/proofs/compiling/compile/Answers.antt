use Rattle.std.proofs.Common.{refl}
use Rattle.vp_io.specs.declared.answers.Which.TheVariants.{Description, Text}
use Rattle.cc_text.specs.Sources.{IsRefusedFor}
use Rattle.cc_text.specs.Texts.{IsCompiledTo}
use Rattle.vpo_top.specs.Request.{compilation}
use Rattle.vpo_top.proofs.Counts.{one_counted, both_counted}
use Rattle.vpo_top.proofs.Compilations.{source_judged, source_cause, found_both, memory_judged}
use Rattle.vpo_top.proofs.compiling.compile.Goals as goal

pub returns-in_err-machine-clause-fetched : goal.returns-in_err-machine-clause-fetched
returns-in_err-machine-clause-fetched g c =
    one_counted (compilation c.args.plain c.args.description.now c.args.source.now) Description _ _ _ refl c.in_err-machine.ensures.fetched

pub returns-in-Err-clause-judged : goal.returns-in-Err-clause-judged
returns-in-Err-clause-judged g c =
    source_judged _ _ _ _ c.in_ok-machine.machine _ c.in_ok-machine.ensures.files_kept c.in_ok-machine.ensures.found c.in-Err.ensures.possible
    (λ is. c.in-Err.ensures.too_long (cc is))

pub returns-in-Err-clause-cause : goal.returns-in-Err-clause-cause
returns-in-Err-clause-cause g c =
    source_cause c.args.plain _ _ _ _ _ _ _ _ c.in_ok-machine.ensures.files_kept c.in_ok-machine.ensures.fetched c.in-Err.ensures.possible
    (λ is. c.in-Err.ensures.cause (cc is))

pub returns-in-Err-clause-fetched : goal.returns-in-Err-clause-fetched
returns-in-Err-clause-fetched g c =
    both_counted (compilation c.args.plain c.args.description.now c.args.source.now) Description Text _ _ _ _ _ refl refl
    c.in_ok-machine.ensures.fetched c.in-Err.ensures.fetched

pub returns-in-Ok-compile_text-clause-compiled : goal.returns-in-Ok-compile_text-clause-compiled
returns-in-Ok-compile_text-clause-compiled g c =
    found_both _ _ _ _ c.in_ok-machine.machine _ (λ file d. IsCompiledTo d file c.in-Ok-compile_text.text.items) c.in_ok-machine.ensures.files_kept
    c.in_ok-machine.ensures.found c.in-Ok.ensures.bytes c.in-Ok.ensures.short (rw c.deref.ensures.value at c.in-Ok-compile_text.ensures.compiled)

pub returns-in-Ok-compile_text-clause-fetched : goal.returns-in-Ok-compile_text-clause-fetched
returns-in-Ok-compile_text-clause-fetched g c =
    both_counted (compilation c.args.plain c.args.description.now c.args.source.now) Description Text _ _ _ _ _ refl refl
    c.in_ok-machine.ensures.fetched c.in-Ok.ensures.fetched

pub returns-in-Err-NoMemory-clause-judged : goal.returns-in-Err-NoMemory-clause-judged
returns-in-Err-NoMemory-clause-judged g c = memory_judged _ _ _

pub returns-in-Err-NoMemory-clause-fetched : goal.returns-in-Err-NoMemory-clause-fetched
returns-in-Err-NoMemory-clause-fetched g c =
    both_counted (compilation c.args.plain c.args.description.now c.args.source.now) Description Text _ _ _ _ _ refl refl
    c.in_ok-machine.ensures.fetched c.in-Ok.ensures.fetched

pub returns-clause-judged : goal.returns-clause-judged
returns-clause-judged g c =
    found_both _ _ _ _ c.in_ok-machine.machine _ (λ file d. IsRefusedFor d file c.in-Err-Bad.reason) c.in_ok-machine.ensures.files_kept
    c.in_ok-machine.ensures.found c.in-Ok.ensures.bytes c.in-Ok.ensures.short
    (rw c.deref.ensures.value at (rw c.in-Err-Bad.field-0-is at c.in-Err-Bad.ensures.refused))

pub returns-clause-fetched : goal.returns-clause-fetched
returns-clause-fetched g c =
    both_counted (compilation c.args.plain c.args.description.now c.args.source.now) Description Text _ _ _ _ _ refl refl
    c.in_ok-machine.ensures.fetched c.in-Ok.ensures.fetched
