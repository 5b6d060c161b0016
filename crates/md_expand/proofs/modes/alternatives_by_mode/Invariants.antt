use Rattle.std.proofs.Common.{◌≡◌, ◌++◌, ℕ, List, map, drop}
use Rattle.md_text.specs.Declarations.{Declaration}
use Rattle.md_text.specs.Expansion.{alternatives_of, filling_of}
use Rattle.md_forms.specs.Seen.{declarations_of}
use Rattle.md_expand.specs.Fillings.{all_seen, listed}
use Rattle.md_expand.proofs.modes.alternatives_by_mode.Given as goal

abbrev pub invariant-loop-declaration : goal.invariant-loop-declaration
invariant-loop-declaration l =
    (w : ℕ) (ds : List Declaration) (name : List ℕ)
    → all_seen w ds (listed l.alternatives name) ++ map (filling_of w ds) (alternatives_of (declarations_of (drop l.declaration-index l.all)) name)
    ≡ map (filling_of w ds) (alternatives_of (declarations_of l.all) name)
