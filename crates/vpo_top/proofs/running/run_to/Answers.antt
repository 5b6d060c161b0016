use Rattle.std.proofs.Common.{Some}
use Rattle.vpo_top.specs.Request.Asked.{Run}
use Rattle.vpo_top.proofs.Runs.{file_cause}
use Rattle.vpo_top.proofs.running.run_to.Goals as goal

pub returns-in-Err-clause-read_cause : goal.returns-in-Err-clause-read_cause
returns-in-Err-clause-read_cause g c =
    file_cause (Some (Run c.args.steps c.args.description.now c.args.assembly.now)) (g.F.Files.files c.args.files.now)
    (g.F.Files.faults c.args.files.now) (g.F.Files.faults c.find.new.files) c.in-Err.outcome (c.in-Err.ensures.cause c.args.steps)

pub returns-in-Err-clause-fetched : goal.returns-in-Err-clause-fetched
returns-in-Err-clause-fetched g c = c.in-Err.ensures.fetched c.args.steps

pub returns-in-Ok-run_text-clause-fetched : goal.returns-in-Ok-run_text-clause-fetched
returns-in-Ok-run_text-clause-fetched g c = c.in-Ok.ensures.fetched c.args.steps

pub returns-in-Err-NoMemory-clause-fetched : goal.returns-in-Err-NoMemory-clause-fetched
returns-in-Err-NoMemory-clause-fetched g c = c.in-Ok.ensures.fetched c.args.steps

pub returns-clause-fetched : goal.returns-clause-fetched
returns-clause-fetched g c = c.in-Ok.ensures.fetched c.args.steps
