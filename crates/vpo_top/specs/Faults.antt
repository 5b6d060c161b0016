-- The causes of faults: how the counts move, by what is asked for.
use Rattle.std.specs.Prelude.{◌≡◌, ◌≢◌, ℕ, ◌≤◌, List, Option, Some, None, ⊤}
use Rattle.vp_io.specs.Counts.{Rose}
use Rattle.vp_io.specs.Files.{Told, FaultCounts, RoseBy}
use Rattle.vp_io.specs.declared.answers.Which.{Which}
use Rattle.vp_io.specs.declared.answers.Which.TheVariants.{Input}
use Rattle.vp_io.specs.declared.answers.Outcome.{Outcome}
use Rattle.vp_io.specs.declared.answers.Outcome.TheVariants.{ReadFault, WriteFault}
use Rattle.vpo_top.specs.Request.{Asked, name_asked}
use Rattle.vpo_top.specs.Outside.{Outside}

-- the count of the fetches of this name rose; a file that isn't asked for has none
abbrev pub RoseByName : Option (List ℕ) → Told → FaultCounts → FaultCounts → Type 0
RoseByName (Some name) told before now = RoseBy told name before now
RoseByName None told before now = ⊥

-- a fault of a file comes only where the count of the fetches of its name rose
abbrev pub HasReadCause : Option Asked → Told → FaultCounts → FaultCounts → Outcome → Type 0
HasReadCause wanted told before now (ReadFault which) = RoseByName (name_asked wanted which) told before now
HasReadCause wanted told before now outcome = ⊤

-- and a fault of the input only where its count rose
abbrev pub HasInputCause : ℕ → ℕ → Outcome → Type 0
HasInputCause before now (ReadFault Input) = Rose before now
HasInputCause before now outcome = ⊤

-- what is said of files alone
abbrev pub HasFileCause : Option Asked → Told → FaultCounts → FaultCounts → Outcome → Type 0
HasFileCause wanted told before now (ReadFault Input) = ⊤
HasFileCause wanted told before now outcome = HasReadCause wanted told before now outcome

-- a write fault comes only where the count of the output rose
abbrev pub HasWriteCause : ℕ → ℕ → Outcome → Type 0
HasWriteCause before now WriteFault = Rose before now
HasWriteCause before now outcome = ⊤

-- a fault comes only where a count rose: that of the output, of the input, or of the fetches of the file's name
abbrev pub HasCause : {F S K E : Type 0} → Option Asked → Outside F S K E → Outside F S K E → Outcome → Type 0
HasCause wanted before now WriteFault = Rose before.output.faults now.output.faults
HasCause wanted before now (ReadFault Input) = Rose before.input.faults now.input.faults
HasCause wanted before now outcome = HasReadCause wanted before.files.told before.files.faults now.files.faults outcome

-- no count has fallen, and those of names that aren't asked for stand still
pub record CountsOnlyAsked (wanted : Option Asked) (before now : FaultCounts) : Type 0 where
  pub total : before.total ≤ now.total
  pub of_name : (name : List ℕ) → before.of name ≤ now.of name
  pub others : (other : List ℕ) → ((which : Which) → name_asked wanted which ≢ Some other) → now.of other ≡ before.of other
