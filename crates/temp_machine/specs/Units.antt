-- What holds of each machine and of each image that a pass is given or gives.
use Rattle.std.specs.Prelude.{◌≡◌, ◌≢◌, ℕ, ◌+◌, ◌%◌, ◌^◌, ◌<◌, ◌≤◌, true, false, List, length, Some, All, AllPairs}
use Rattle.rtl_word.specs.Words.{IsWordSize}
use Rattle.rtl_tree.specs.Moves.{Move}
use Rattle.temp_machine.specs.Routines.{Calls, Routine, Image, Target, word_bytes}
use Rattle.temp_machine.specs.Machine.{callee_of}
use Rattle.temp_machine.specs.Live.{Place, End, item_at}
use Rattle.temp_machine.specs.Whole.{HasLabel, IsWhole, IsFramed, IsStraight, outgoing_words}

-- the registers of the roles are different, and none of them is general; the kept ones are general and different
pub record IsTarget (t : Target) : Type 0 where
  pub size : IsWordSize t.word
  pub memory : t.memory < 2 ^ t.word
  pub words : t.memory % word_bytes t ≡ 0
  pub stack : t.general t.sp ≡ false
  pub result : t.general t.result ≡ false
  pub link : (z : ℕ) → t.link ≡ Some z → t.general z ≡ false
  pub stack_is_no_result : t.sp ≢ t.result
  pub stack_is_no_link : (z : ℕ) → t.link ≡ Some z → t.sp ≢ z
  pub result_is_no_link : (z : ℕ) → t.link ≡ Some z → t.result ≢ z
  pub kept : All (λ k. t.general k ≡ true) t.kept
  pub kept_differ : AllPairs (λ j k. j ≢ k) t.kept

-- a routine of its own: what holds of it alone
pub record IsSound (t : Target) (r : Routine) : Type 0 where
  pub whole : IsWhole t.word r
  pub framed : IsFramed t r
  pub straight : IsStraight t r

-- the data are bytes below what the stack may take, addresses are words; the routines that are there are sound, no label stands in two of them, and
-- a call has words for its arguments in its caller's frame
pub record IsImage (t : Target) (p : Image) : Type 0 where
  pub bytes : All (λ b. b < 256) p.bytes
  pub symbols : All (λ a. a < 2 ^ t.word) p.symbols
  pub room : t.base + length p.bytes + t.stack ≤ t.memory
  pub main : 0 < length (p.routines p.main).blocks
  pub routines : (f : ℕ) → 0 < length (p.routines f).blocks → IsSound t (p.routines f)
  pub labels : (f g l : ℕ) → f ≢ g → HasLabel (p.routines f) l → HasLabel (p.routines g) l → ⊥
  pub arguments : (f g : ℕ) (at : Place) (ms : List Move) → item_at (p.routines f) at ≡ Some (End (Calls ms)) → callee_of t.word ms ≡ Some g
      → (p.routines g).params ≤ outgoing_words t (p.routines f)
