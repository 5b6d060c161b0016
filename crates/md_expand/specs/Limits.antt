-- The limits that the rules set to a row without modes.
use Rattle.std.specs.Prelude.{◌<◌, ◌≤◌, length, Option, Some, None}
use Rattle.std.specs.Global.{Vec}
use Rattle.md_text.specs.Expansion.{holes_in}
use Rattle.md_expand.specs.Seen.{all_shown}
use Rattle.md_expand.specs.declared.moves.Filled.{Filled}
use Rattle.md_expand.specs.declared.expanded.Expanded.{Expanded}

-- a transfer is there, and has one to six assignments
abbrev pub HasOneToSix : Option (Vec Filled) → Type 0
HasOneToSix None = ⊥
HasOneToSix (Some v) = (0 < length v.items) × (length v.items ≤ 6)

-- a row has at most eight holes, and one to six assignments
pub record IsWithinLimits (e : Expanded) : Type 0 where
  pub holes : length (holes_in (all_shown e.text.items)) ≤ 8
  pub transfer : HasOneToSix e.transfer
