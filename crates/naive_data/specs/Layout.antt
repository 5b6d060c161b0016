-- The objects of the file in memory: each behind the one before it, in whole words.
use Rattle.std.specs.Prelude.{ℕ, ◌+◌, ◌-◌, ◌*◌, List, [], ◌∷◌, ◌++◌, replicate, slice_get, unwrap_or}
use Rattle.std.specs.Int.{bytes_low_first}
use Rattle.std.specs.List.{flat_map, range_with_len}
use Rattle.c_tree.specs.declared.typed.Object.{Object}
use Rattle.c_tree.specs.declared.typed.Static.{Static}
use Rattle.c_limits.specs.Frames.{object_bytes}
use Rattle.c_meaning.specs.Operators.{as_type}
use Rattle.naive_run.specs.Law.{cell_bytes, element_count}

-- an element that isn't listed is 0 (C11 6.7.9p10)
abbrev pub value_at : ℕ → Static → ℕ → ℕ
value_at w s i = as_type w s.object.element (unwrap_or (slice_get s.init i) 0)

-- the low byte comes first
abbrev pub element_data : ℕ → Static → ℕ → List ℕ
element_data w s i = bytes_low_first 0 (cell_bytes w s.object) (value_at w s i)

-- what an object takes of its last word and doesn't use
abbrev pub filling : ℕ → Object → ℕ
filling w o = object_bytes w o - cell_bytes w o * element_count o

abbrev pub object_data : ℕ → Static → List ℕ
object_data w s = flat_map (element_data w s) (range_with_len 0 (element_count s.object)) ++ replicate (filling w s.object) 0

abbrev pub data_of : ℕ → List Static → List ℕ
data_of w ss = flat_map (object_data w) ss

abbrev pub size_of : ℕ → List Static → ℕ
size_of w [] = 0
size_of w (s ∷ ss) = object_bytes w s.object + size_of w ss

-- the addresses of objects, where the first has this one
abbrev pub addresses : ℕ → ℕ → List Static → List ℕ
addresses w a [] = []
addresses w a (s ∷ ss) = a ∷ addresses w (a + object_bytes w s.object) ss
