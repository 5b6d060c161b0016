-- Labels by value.
use Rattle.std.specs.Prelude.{◌≡◌, ℕ, List, Option, nat_eq}
use Rattle.std.specs.Option.{option_eq}
use Rattle.std.specs.HashSet as bag
use Rattle.std.specs.HashSet.{HashSet}
use Rattle.c_typing.specs.Statements.{among}

-- the set has just the labels of the list
abbrev pub HoldsLabels : {S : Type 0} → List (Option ℕ) → HashSet (Option ℕ) S → Type 0
HoldsLabels labels set = (l : Option ℕ) → bag.contains (option_eq nat_eq) set l ≡ among l labels
