use Rattle.std.proofs.Common.{◌≡◌, ◌+◌, ◌≤◌, None, Some, subst, arith}
use Rattle.std.specs.Prelude.{map}
use Rattle.machine_forms.specs.Forms.{moves_of}
use Rattle.machine_step.specs.declared.running.Stop.TheVariants.{Spent, WriteFault}
use Rattle.machine_step.specs.Runs.{Ran}
use Rattle.machine_step.proofs.Whole.{all_ran}
use Rattle.machine_step.proofs.Joined.{none_ran, ran_then, ran_within, spent_ran, lost_ran}
use Rattle.machine_step.proofs.Settling.{causes_later, step_noted, step_stops}
use Rattle.machine_pace.proofs.stepping.run_on.Goals as goal

pub loop-turn-init : goal.loop-turn-init
loop-turn-init g c = record {
  ready = c.requires.ready;
  goes = c.requires.goes;
  ran = none_ran g.W.Word.BITS (map moves_of c.args.code.now) c.args.m.now (g.S.Source.left c.args.source.now) (g.K.Sink.written c.args.sink.now) (g.S.Source.ends c.args.source.now);
  reads = omega arith;
  writes = omega arith;
}

pub loop-turn-preserved : goal.loop-turn-preserved
loop-turn-preserved g c = record {
  ready = c.go.ensures.ready;
  goes = step_noted g.W.Word.BITS _ c.loop-turn.m c.go.new.m _ _ _ _ _ _ _ _ None c.in-None.ensures.step;
  ran = λ p is taken out turns h.
      ran_then g.W.Word.BITS (map moves_of c.args.code.now) p c.args.m.now c.loop-turn.m c.go.new.m (g.S.Source.left c.args.source.now) (g.S.Source.left c.loop-turn.source)
      (g.S.Source.left c.go.new.source) (g.K.Sink.written c.args.sink.now) (g.K.Sink.written c.loop-turn.sink) (g.K.Sink.written c.go.new.sink)
      (g.S.Source.ends c.args.source.now) (g.S.Source.ends c.loop-turn.source) (g.S.Source.ends c.go.new.source) taken out turns c.loop-turn.turn 1 None is
      (c.loop-turn.invariant.ran p is taken out turns h)
      (all_ran g.W.Word.BITS (map moves_of c.args.code.now) c.loop-turn.m c.go.new.m _ _ _ _ _ _ _ _ None c.loop-turn.invariant.ready.held.many
      c.loop-turn.invariant.ready.held.eight c.in-None.ensures.step);
  reads = omega (arith, c.loop-turn.invariant.reads, c.go.ensures.causes.reads_later);
  writes = omega (arith, c.loop-turn.invariant.writes, c.go.ensures.causes.writes_later);
}

pub returns-in-Some-clause-ran : goal.returns-in-Some-clause-ran
returns-in-Some-clause-ran g c = λ p is taken out turns h.
    let within : c.loop-turn.turn + 1 ≤ c.args.steps = omega arith in
    ran_within g.W.Word.BITS p c.args.m.now c.go.new.m (g.S.Source.left c.args.source.now) (g.S.Source.left c.go.new.source) (g.K.Sink.written c.args.sink.now)
    (g.K.Sink.written c.go.new.sink) (g.S.Source.ends c.args.source.now) (g.S.Source.ends c.go.new.source) taken out turns (c.loop-turn.turn + 1) c.args.steps c.in-Some.stop
    (step_stops g.W.Word.BITS _ c.loop-turn.m c.go.new.m _ _ _ _ _ _ _ _ c.in-Some.stop c.in-Some.ensures.step) within
    (ran_then g.W.Word.BITS (map moves_of c.args.code.now) p c.args.m.now c.loop-turn.m c.go.new.m (g.S.Source.left c.args.source.now) (g.S.Source.left c.loop-turn.source)
    (g.S.Source.left c.go.new.source) (g.K.Sink.written c.args.sink.now) (g.K.Sink.written c.loop-turn.sink) (g.K.Sink.written c.go.new.sink)
    (g.S.Source.ends c.args.source.now) (g.S.Source.ends c.loop-turn.source) (g.S.Source.ends c.go.new.source) taken out turns c.loop-turn.turn 1 (Some c.in-Some.stop) is
    (c.loop-turn.invariant.ran p is taken out turns h)
    (all_ran g.W.Word.BITS (map moves_of c.args.code.now) c.loop-turn.m c.go.new.m _ _ _ _ _ _ _ _ (Some c.in-Some.stop) c.loop-turn.invariant.ready.held.many
    c.loop-turn.invariant.ready.held.eight c.in-Some.ensures.step))

pub returns-in-Some-clause-causes : goal.returns-in-Some-clause-causes
returns-in-Some-clause-causes g c =
    causes_later (g.S.Source.faults c.args.source.now) (g.S.Source.faults c.loop-turn.source) (g.S.Source.faults c.go.new.source) (g.K.Sink.faults c.args.sink.now)
    (g.K.Sink.faults c.loop-turn.sink) (g.K.Sink.faults c.go.new.sink) (Some c.in-Some.stop) c.loop-turn.invariant.reads c.loop-turn.invariant.writes c.in-Some.ensures.causes

pub returns-in-Ok-clause-ran : goal.returns-in-Ok-clause-ran
returns-in-Ok-clause-ran g c = λ p is taken out turns h.
    let steps_are : c.loop-turn.turn + 0 ≡ c.args.steps = omega arith in
    subst
    (λ k. Ran g.W.Word.BITS p c.args.m.now (record c.loop-turn.m { waiting = c.flush.new.self; stopped = c.loop-turn.m.stopped }) (g.S.Source.left c.args.source.now)
    (g.S.Source.left c.loop-turn.source) (g.K.Sink.written c.args.sink.now) (g.K.Sink.written c.flush.new.sink) (g.S.Source.ends c.args.source.now)
    (g.S.Source.ends c.loop-turn.source) taken out turns k (Some Spent))
    steps_are
    (ran_then g.W.Word.BITS (map moves_of c.args.code.now) p c.args.m.now c.loop-turn.m (record c.loop-turn.m { waiting = c.flush.new.self; stopped = c.loop-turn.m.stopped })
    (g.S.Source.left c.args.source.now) (g.S.Source.left c.loop-turn.source) (g.S.Source.left c.loop-turn.source) (g.K.Sink.written c.args.sink.now)
    (g.K.Sink.written c.loop-turn.sink) (g.K.Sink.written c.flush.new.sink) (g.S.Source.ends c.args.source.now) (g.S.Source.ends c.loop-turn.source)
    (g.S.Source.ends c.loop-turn.source) taken out turns c.loop-turn.turn 0 (Some Spent) is (c.loop-turn.invariant.ran p is taken out turns h)
    (spent_ran g.W.Word.BITS (map moves_of c.args.code.now) c.loop-turn.m c.flush.new.self (g.S.Source.left c.loop-turn.source) (g.K.Sink.written c.loop-turn.sink)
    (g.K.Sink.written c.flush.new.sink) (g.S.Source.ends c.loop-turn.source) c.flush.ensures.none_waits c.in-Ok.ensures.all))

pub returns-in-Err-clause-ran : goal.returns-in-Err-clause-ran
returns-in-Err-clause-ran g c = λ p is taken out turns h.
    let steps_are : c.loop-turn.turn + 0 ≡ c.args.steps = omega arith in
    subst
    (λ k. Ran g.W.Word.BITS p c.args.m.now (record c.loop-turn.m { waiting = c.flush.new.self; stopped = Some WriteFault }) (g.S.Source.left c.args.source.now)
    (g.S.Source.left c.loop-turn.source) (g.K.Sink.written c.args.sink.now) (g.K.Sink.written c.flush.new.sink) (g.S.Source.ends c.args.source.now)
    (g.S.Source.ends c.loop-turn.source) taken out turns k (Some WriteFault))
    steps_are
    (ran_then g.W.Word.BITS (map moves_of c.args.code.now) p c.args.m.now c.loop-turn.m (record c.loop-turn.m { waiting = c.flush.new.self; stopped = Some WriteFault })
    (g.S.Source.left c.args.source.now) (g.S.Source.left c.loop-turn.source) (g.S.Source.left c.loop-turn.source) (g.K.Sink.written c.args.sink.now)
    (g.K.Sink.written c.loop-turn.sink) (g.K.Sink.written c.flush.new.sink) (g.S.Source.ends c.args.source.now) (g.S.Source.ends c.loop-turn.source)
    (g.S.Source.ends c.loop-turn.source) taken out turns c.loop-turn.turn 0 (Some WriteFault) is (c.loop-turn.invariant.ran p is taken out turns h)
    (lost_ran g.W.Word.BITS (map moves_of c.args.code.now) c.loop-turn.m c.flush.new.self (Some WriteFault) (g.S.Source.left c.loop-turn.source) (g.K.Sink.written c.loop-turn.sink)
    (g.K.Sink.written c.flush.new.sink) (g.S.Source.ends c.loop-turn.source) c.in-Err.ensures.part))
