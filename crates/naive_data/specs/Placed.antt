-- What an image has of the objects of the file.
use Rattle.std.specs.Prelude.{◌≡◌, ℕ, ◌+◌, ◌*◌, ◌/◌, ◌^◌, ◌<◌, ◌≤◌, List, [], length, slice_get, slice_index, Some, All}
use Rattle.c_tree.specs.declared.typed.Static.{Static}
use Rattle.c_tree.specs.declared.typed.Typed.{Typed}
use Rattle.c_limits.specs.Frames.{object_bytes}
use Rattle.c_limits.specs.Limits.{limit_faults}
use Rattle.temp_machine.specs.Routines.{Image, Target}
use Rattle.naive_run.specs.Law.{HoldsStatic}
use Rattle.naive_data.specs.Layout.{size_of}

-- a whole number of words from where data begin, and not beyond their end
pub record IsAddress (t : Target) (u : Image) (address : ℕ) : Type 0 where
  pub count : ℕ
  pub multiple : address ≡ t.base + count * (t.word / 8)
  pub within : address ≤ t.base + length u.bytes

-- each object holds its values, at an address of its own, and the data have nothing else
pub record IsPlaced (t : Target) (u : Image) (ss : List Static) : Type 0 where
  pub count : length u.symbols ≡ length ss
  pub size : length u.bytes ≡ size_of t.word ss
  pub bytes : All (λ b. b < 256) u.bytes
  pub symbols : All (λ a. a < 2 ^ t.word) u.symbols
  pub places : All (IsAddress t u) u.symbols
  pub held : (x : ℕ) (s : Static) → slice_get ss x ≡ Some s → HoldsStatic t u x s
  pub apart : (x y : ℕ) (s r : Static) → x < y → slice_get ss x ≡ Some s → slice_get ss y ≡ Some r
      → slice_index u.symbols x + object_bytes t.word s.object ≤ slice_index u.symbols y

-- the objects of a source within the limits have room
abbrev pub HaveRoom : Type 0
HaveRoom = (kept : List ℕ) (w room : ℕ) (source : Typed) → limit_faults kept w room source ≡ [] → size_of w source.statics ≤ room
