-- What loads of homes, and stores to them, do one after the other.
use Rattle.std.specs.Prelude.{◌≡◌, ◌≢◌, ◌⊎◌, ℕ, ◌+◌, ◌*◌, ◌%◌, ◌<◌, ◌≤◌, true, List, [], ◌∷◌, slice_index, Some, None, Ok}
use Rattle.behaviour.specs.Run.{AreBytes}
use Rattle.rtl_tree.specs.declared.cells.Cell.TheVariants.{Hard, Temp, Pc, Input}
use Rattle.rtl_tree.specs.declared.cells.Lab.{Lab}
use Rattle.rtl_tree.specs.Moves.{Move}
use Rattle.rtl_effect.specs.Views.{View, word_at}
use Rattle.rtl_effect.specs.Effects.{Done, effect, next_in}
use Rattle.rtl_norm_value.specs.Kept.{IsWordView}
use Rattle.temp_machine.specs.Routines.{Routine, Target, word_bytes}
use Rattle.temp_machine.specs.Machine.{is_between}
use Rattle.temp_machine.specs.Tidy.{is_among}
use Rattle.temp_machine.specs.Units.{IsTarget}
use Rattle.temp_machine.specs.Whole.{IsFramed}
use Rattle.color_spilling.specs.Spilling.{home_offset, AreLoads, AreStores}

-- transfers that are made one after the other, and neither print nor end the run
pub data Passes (w : ℕ) : List (List Move) → View → View → Type 0 where
  over : (z : View) → Passes w [] z z
  more : (ms : List Move) (rest : List (List Move)) (z x : View) (d : Done) → effect w ms z ≡ Ok d → d.output ≡ None → d.halt ≡ None → Passes w rest d.view x
      → Passes w (ms ∷ rest) z x

-- what stays beside registers, temporaries, flags and bytes
pub record Stays (z x : View) : Type 0 where
  pub size : x.size ≡ z.size
  pub reach : (a : ℕ) → x.reach a ≡ z.reach a
  pub symbols : (n : ℕ) → x.symbols n ≡ z.symbols n
  pub labels : (l : Lab) → x.labels l ≡ z.labels l
  pub targets : (l : Lab) → x.targets l ≡ z.targets l
  pub places : (n : ℕ) → x.places n ≡ z.places n
  pub counter : x.cells Pc ≡ z.cells Pc
  pub input : x.input ≡ z.input

-- a frame of the routine lies in memory
pub record IsPlaced (t : Target) (r : Routine) (base : ℕ) : Type 0 where
  pub target : IsTarget t
  pub framed : IsFramed t r
  pub aligned : base % word_bytes t ≡ 0
  pub inside : base + r.frame ≤ t.memory

module _ (t : Target) (r : Routine) (base : ℕ) where
  abbrev pub home_address : ℕ → ℕ
  home_address k = base + home_offset t r k

  -- a view shows words, its stack register is the base of the frame, and the homes of the frame may be touched
  pub record IsReady (z : View) : Type 0 where
    pub stack : z.cells (Hard t.sp) ≡ Some base
    pub size : z.size ≡ t.memory
    pub reach : (a : ℕ) → is_between (base + r.first_home) (base + r.first_home + word_bytes t * r.slots) a ≡ true → z.reach a ≡ true
    pub words : IsWordView t.word z
    pub bytes : AreBytes z.input
    pub next : z.cells Input ≡ Some (next_in t.word z.input)

  module _ (register : ℕ → ℕ) where
    -- registers hold the words of the homes
    pub record IsLoaded (ks : List ℕ) (z x : View) : Type 0 where
      pub got : (k : ℕ) → is_among k ks ≡ true → x.cells (Hard (register k)) ≡ word_at z.bytes (home_address k) (word_bytes t)
      pub others : (n : ℕ) → ((k : ℕ) → is_among k ks ≡ true → register k ≢ n) → x.cells (Hard n) ≡ z.cells (Hard n)
      pub temps : (n : ℕ) → x.cells (Temp n) ≡ z.cells (Temp n)
      pub bytes : (a : ℕ) → x.bytes a ≡ z.bytes a
      pub stays : Stays z x

    -- homes hold the words of the registers
    pub record IsStored (ks : List ℕ) (z x : View) : Type 0 where
      pub got : (k n : ℕ) → is_among k ks ≡ true → z.cells (Hard (register k)) ≡ Some n → word_at x.bytes (home_address k) (word_bytes t) ≡ Some n
      pub registers : (n : ℕ) → x.cells (Hard n) ≡ z.cells (Hard n)
      pub temps : (n : ℕ) → x.cells (Temp n) ≡ z.cells (Temp n)
      pub elsewhere : (a : ℕ) → ((k : ℕ) → is_among k ks ≡ true → (a < home_address k) ⊎ (home_address k + word_bytes t ≤ a)) → x.bytes a ≡ z.bytes a
      pub stays : Stays z x

abbrev pub HaveHomes : Routine → List ℕ → Type 0
HaveHomes r ks = (k : ℕ) → is_among k ks ≡ true → slice_index r.homes k < r.slots

-- loads into different registers, none of which is the stack register
abbrev pub LoadsPass : Type 0
LoadsPass =
    (t : Target) (r : Routine) (base : ℕ) (register : ℕ → ℕ) (ks : List ℕ) (code : List (List Move)) (z : View) → IsPlaced t r base → HaveHomes r ks
    → AreLoads t r register ks code
    → ((j k : ℕ) → is_among j ks ≡ true → is_among k ks ≡ true → j ≢ k → register j ≢ register k) → ((k : ℕ) → is_among k ks ≡ true → register k ≢ t.sp)
    → IsReady t r base z → (x : View) × Passes t.word code z x × IsLoaded t r base register ks z x × IsReady t r base x

-- stores to different homes
abbrev pub StoresPass : Type 0
StoresPass =
    (t : Target) (r : Routine) (base : ℕ) (register : ℕ → ℕ) (ks : List ℕ) (code : List (List Move)) (z : View) → IsPlaced t r base → HaveHomes r ks
    → AreStores t r register ks code
    → ((j k : ℕ) → is_among j ks ≡ true → is_among k ks ≡ true → j ≢ k → slice_index r.homes j ≢ slice_index r.homes k)
    → IsReady t r base z → (x : View) × Passes t.word code z x × IsStored t r base register ks z x × IsReady t r base x
