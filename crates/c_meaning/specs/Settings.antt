-- The run of a source on a machine.
use Rattle.std.specs.Prelude.{ℕ, List}
use Rattle.c_limits.specs.Frames.{call_bytes}
use Rattle.c_meaning.specs.Parts.{Setting}

-- words of w bits and so many bytes of stack, of which a call takes its frame and a word, where these registers are kept over calls
abbrev pub setting_of : (kept : List ℕ) → (w stack : ℕ) → Setting
setting_of kept w stack = record { bits = w; stack = stack; takes = call_bytes kept w }
