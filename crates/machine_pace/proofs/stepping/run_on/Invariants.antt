use Rattle.std.proofs.Common.{◌≡◌, ◌≤◌, None}
use Rattle.std.specs.Prelude.{map}
use Rattle.machine_forms.specs.Forms.{moves_of}
use Rattle.machine_step.specs.Steps.{IsReady}
use Rattle.machine_step.specs.Runs.{AllRan}
use Rattle.machine_pace.proofs.stepping.run_on.Given as goal

abbrev pub invariant-loop-turn : goal.invariant-loop-turn
invariant-loop-turn g l = record {
  ready : IsReady g.W.Word.BITS l.m;
  goes : l.m.stopped ≡ None;
  ran : AllRan g.W.Word.BITS (map moves_of l.code) l.initial.m l.m (g.S.Source.left l.initial.source) (g.S.Source.left l.source)
      (g.K.Sink.written l.initial.sink) (g.K.Sink.written l.sink) (g.S.Source.ends l.initial.source) (g.S.Source.ends l.source) l.turn None;
  reads : g.S.Source.faults l.initial.source ≤ g.S.Source.faults l.source;
  writes : g.K.Sink.faults l.initial.sink ≤ g.K.Sink.faults l.sink;
}
