-- What a sink in memory tells.
use Rattle.std.specs.Prelude.{ℕ, List, take}
use Rattle.vp_io.specs.declared.memory_sink.MemSink.{MemSink}

-- what was written
abbrev pub written_to : MemSink → List ℕ
written_to sink = take sink.used sink.room.items

-- how often a write has failed
abbrev pub sink_faults : MemSink → ℕ
sink_faults sink = sink.failing.faults
