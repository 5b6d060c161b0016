use Rattle.std.proofs.Common.{Some, refl}
use Rattle.vp_io.specs.declared.answers.Which.TheVariants.{Description, Assembly}
use Rattle.vpo_top.specs.Request.Asked.{Run}
use Rattle.vpo_top.proofs.Counts.{one_counted, both_counted}
use Rattle.vpo_top.proofs.Runs.{text_judged, text_cause}
use Rattle.vpo_top.proofs.running.find.Goals as goal

pub returns-in_err-machine-clause-fetched : goal.returns-in_err-machine-clause-fetched
returns-in_err-machine-clause-fetched g c = λ steps.
    one_counted (Some (Run steps c.args.description.now c.args.assembly.now)) Description _ _ _ refl c.in_err-machine.ensures.fetched

pub returns-in-Err-clause-judged : goal.returns-in-Err-clause-judged
returns-in-Err-clause-judged g c =
    text_judged _ _ _ _ c.in_ok-machine.machine _ c.in_ok-machine.ensures.files_kept c.in_ok-machine.ensures.found c.in-Err.ensures.possible
    (λ is. c.in-Err.ensures.too_long (cc is))

pub returns-in-Err-clause-cause : goal.returns-in-Err-clause-cause
returns-in-Err-clause-cause g c = λ steps.
    text_cause steps _ _ _ _ _ _ _ _ c.in_ok-machine.ensures.files_kept c.in_ok-machine.ensures.fetched c.in-Err.ensures.possible
    (λ is. c.in-Err.ensures.cause (cc is))

pub returns-in-Err-clause-fetched : goal.returns-in-Err-clause-fetched
returns-in-Err-clause-fetched g c = λ steps.
    both_counted (Some (Run steps c.args.description.now c.args.assembly.now)) Description Assembly _ _ _ _ _ refl refl
    c.in_ok-machine.ensures.fetched c.in-Err.ensures.fetched

pub returns-clause-fetched : goal.returns-clause-fetched
returns-clause-fetched g c = λ steps.
    both_counted (Some (Run steps c.args.description.now c.args.assembly.now)) Description Assembly _ _ _ _ _ refl refl
    c.in_ok-machine.ensures.fetched c.in-Ok.ensures.fetched
