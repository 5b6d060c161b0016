-- A sound image of a sound machine is linkable.
use Rattle.std.specs.Prelude.{◌≡◌, ℕ, ◌<◌, ◌^◌, [], length, Some, slice_get}
use Rattle.temp_machine.specs.Routines.{BasicBlock}
use Rattle.temp_machine.specs.Units.{IsTarget, IsImage}
use Rattle.link_code.specs.Linked.{Job, code, program}
use Rattle.link_code.specs.Runs.{Stands, BodyPlain, EndPlain, IsGlue, IsLinkable}

-- beside what holds of each machine and each image: no register is kept, each listed function is there, no temporary stands in it, its calls
-- are of listed functions, and the linked program is short
pub record IsSoundJob (j : Job) : Type 0 where
  pub target : IsTarget j.t
  pub image : IsImage j.t j.p
  pub none_kept : j.t.kept ≡ []
  pub glued : IsGlue j.t j.t.link j.glue
  pub main_stands : Stands j.p.main j.order
  pub there : (f : ℕ) → Stands f j.order → 0 < length (code j f).blocks
  pub bodies : (f : ℕ) → Stands f j.order → (i : ℕ) (b : BasicBlock) → slice_get (code j f).blocks i ≡ Some b → BodyPlain j.t b.body
  pub ends : (f : ℕ) → Stands f j.order → (i : ℕ) (b : BasicBlock) → slice_get (code j f).blocks i ≡ Some b → EndPlain j f b.exit
  pub short : length (program j) < 2 ^ j.t.word

abbrev pub SoundIsLinkable : Type 0
SoundIsLinkable = (j : Job) → IsSoundJob j → IsLinkable j
