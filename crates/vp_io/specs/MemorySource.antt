-- What a source in memory tells.
use Rattle.std.specs.Prelude.{ℕ, List, drop}
use Rattle.vp_io.specs.declared.memory_source.MemSource.{MemSource}
use Rattle.vp_io.specs.declared.memory_source.SafeSource.{SafeSource}

-- the bytes that are left
abbrev pub left_of : MemSource → List ℕ
left_of source = drop source.taken source.bytes.items

-- how often a read has failed
abbrev pub source_faults : MemSource → ℕ
source_faults source = source.failing.faults

-- how often a read has met the end
abbrev pub source_ends : MemSource → ℕ
source_ends source = source.ends

abbrev pub safe_left_of : SafeSource → List ℕ
safe_left_of source = drop source.taken source.bytes.items

abbrev pub safe_ends : SafeSource → ℕ
safe_ends source = source.ends
