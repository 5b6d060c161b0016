-- The numbers of a function's frame, as the code has them.
use Rattle.std.specs.Prelude.{◌≡◌, ◌≤◌, ℕ, []}
use Rattle.c_tree.specs.declared.typed.Function.{Function}
use Rattle.c_limits.specs.Frames.{frame_bytes, frame_words}
use Rattle.naive_code.specs.Storage.{scalar_count, arrays_from}
use Rattle.naive_code.specs.Functions.{slots_of, first_home_of}
use Rattle.naive_expand.specs.declared.frames.Frame.{Frame}

pub record IsFrameOf (w : ℕ) (f : Function) (r : Frame) : Type 0 where
  pub scalars : r.scalars ≡ scalar_count f
  pub slots : r.slots ≡ slots_of f
  pub first_home : r.first_home ≡ first_home_of [] w f
  pub arrays : r.arrays ≡ arrays_from [] w f
  pub bytes : r.bytes ≡ frame_bytes [] w f

-- a frame within the limit on frames
pub record HasSmallFrame (w : ℕ) (f : Function) : Type 0 where
  pub words : frame_words [] f ≤ 16000
  pub bytes : frame_bytes [] w f ≤ 32000
