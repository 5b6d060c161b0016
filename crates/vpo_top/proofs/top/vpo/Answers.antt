use Rattle.std.proofs.Common.{ap, refl}
use Rattle.vpo_top.specs.Outside.{sink_of}
use Rattle.vpo_top.specs.Request.{bytes_of_words}
use Rattle.vpo_top.proofs.Requests.{check_wanted, compilation_wanted}
use Rattle.vpo_top.proofs.Answers.{check_answered, compilation_answered}
use Rattle.vpo_top.proofs.top.vpo.Goals as goal

pub returns-in-Ok-Check : goal.returns-in-Ok-Check
returns-in-Ok-Check g c =
    check_answered _ c.as_str.result.now _ _ c.check_to.result _
    (check_wanted _ c.in-Ok-Check.field-0 c.in-Ok-Check.desc c.as_str.result.now c.in-Ok-Check.ensures (cc c.in-Ok-Check.field-0-is) c.as_str.ensures.value)
    c.report.ensures.same c.check_to.ensures.answer c.check_to.ensures.read_cause c.check_to.ensures.write_cause c.check_to.ensures.fetched
    c.check_to.ensures.files_kept (λ refusal. ap (sink_of g.K.Sink.written g.K.Sink.faults) (c.check_to.ensures.untouched refusal)) refl
    c.report.ensures.line

pub returns-in-Ok-Cc : goal.returns-in-Ok-Cc
returns-in-Ok-Cc g c =
    compilation_answered _ c.in-Ok-Cc.plain c.as_str-in-Ok-Cc.result.now c.as_str-in-Ok-Cc-2.result.now _ _ c.compile_to.result _
    (compilation_wanted (bytes_of_words c.args.words.now.items) c.in-Ok-Cc.field-0 c.in-Ok-Cc.field-0-0 c.in-Ok-Cc.plain
    c.in-Ok-Cc.desc c.in-Ok-Cc.src c.as_str-in-Ok-Cc.result.now c.as_str-in-Ok-Cc-2.result.now c.in-Ok-Cc.ensures
    (cc c.in-Ok-Cc.field-0-is) c.as_str-in-Ok-Cc.ensures.value c.as_str-in-Ok-Cc-2.ensures.value)
    c.report-in-Ok-Cc.ensures.same c.compile_to.ensures.answer c.compile_to.ensures.read_cause c.compile_to.ensures.write_cause
    c.compile_to.ensures.fetched c.compile_to.ensures.files_kept
    (λ refusal. ap (sink_of g.K.Sink.written g.K.Sink.faults) (c.compile_to.ensures.untouched refusal)) refl c.report-in-Ok-Cc.ensures.line
