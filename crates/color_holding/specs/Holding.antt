-- How the view of old code and that of coloured code hold together inside a body.
use Rattle.std.specs.Prelude.{◌≡◌, ℕ, ◌+◌, ◌*◌, ◌&&◌, Bool, true, false, List, Option, Some, None}
use Rattle.rtl_tree.specs.declared.cells.Cell.{Cell}
use Rattle.rtl_tree.specs.declared.cells.Cell.TheVariants.{Hard, Temp, Flag, Pc, Input}
use Rattle.rtl_tree.specs.declared.cells.Lab.{Lab}
use Rattle.rtl_effect.specs.Views.{View, word_at}
use Rattle.rtl_effect.specs.Effects.{next_in}
use Rattle.rtl_effect.specs.Agree.{Tells, Marks, Land}
use Rattle.rtl_norm_value.specs.Kept.{IsWordView}
use Rattle.temp_machine.specs.Routines.{Routine, Target, word_bytes}
use Rattle.temp_machine.specs.Cells.{has_temporaries}
use Rattle.temp_machine.specs.Machine.{is_between}
use Rattle.color_code.specs.Colors.{Seats}
use Rattle.color_spilling.specs.Passing.{home_address, IsReady}

-- the registers that don't stand in code with temporaries
abbrev pub is_free : Target → Routine → ℕ → Bool
is_free t r n = t.general n && has_temporaries r

-- what stands in each cell that is neither a register nor a temporary
abbrev pub plain_of : ℕ → List ℕ → Cell → Option ℕ
plain_of w input Pc = None
plain_of w input Input = Some (next_in w input)
plain_of w input _ = Some 0

abbrev pub is_plain : Cell → Bool
is_plain (Hard n) = false
is_plain (Temp n) = false
is_plain _ = true

abbrev pub IsPlainView : ℕ → View → Type 0
IsPlainView w v = (c : Cell) → is_plain c ≡ true → v.cells c ≡ plain_of w v.input c

module _ (t : Target) (r : Routine) (seats : Seats) (base : ℕ) where
  -- the homes of the frame, which code with temporaries can't touch
  abbrev pub is_home : ℕ → Bool
  is_home a = has_temporaries r && is_between (base + r.first_home) (base + r.first_home + word_bytes t * r.slots) a

  -- where a temporary is between two transfers
  abbrev pub where_is : Option ℕ → ℕ → View → Option ℕ
  where_is (Some c) k z = z.cells (Hard c)
  where_is None k z = word_at z.bytes (home_address t r base k) (word_bytes t)

  -- old view and new one: what is set and live in the old view is in the new one
  pub record Holds (live : Cell → Bool) (v z : View) : Type 0 where
    pub temps : (k : ℕ) → live (Temp k) ≡ true → Tells (v.cells (Temp k)) (where_is (seats k) k z)
    pub registers : (n : ℕ) → is_free t r n ≡ false → Tells (v.cells (Hard n)) (z.cells (Hard n))
    pub flags : (n : ℕ) → live (Flag n) ≡ true → Marks (v.flags n) (z.flags n)
    pub old_plain : IsPlainView t.word v
    pub new_plain : IsPlainView t.word z
    pub land : Land v z
    pub targets : (l : Lab) → v.targets l ≡ z.targets l
    pub places : (n : ℕ) → v.places n ≡ z.places n
    pub input : v.input ≡ z.input
    pub words : IsWordView t.word v
    pub ready : IsReady t r base z
    pub private : (a : ℕ) → is_home a ≡ true → v.reach a ≡ false
    pub blank : (a : ℕ) → is_home a ≡ true → v.bytes a ≡ None

  -- from one pair of views to another no byte changed that the old code can't touch, but for homes, and labels lead where they did
  pub record IsStill (v z x y : View) : Type 0 where
    pub old_reach : (a : ℕ) → x.reach a ≡ v.reach a
    pub new_reach : (a : ℕ) → y.reach a ≡ z.reach a
    pub old : (a : ℕ) → v.reach a ≡ false → x.bytes a ≡ v.bytes a
    pub new : (a : ℕ) → v.reach a ≡ false → is_home a ≡ false → y.bytes a ≡ z.bytes a
    pub targets : (l : Lab) → x.targets l ≡ v.targets l
