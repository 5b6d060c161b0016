use Rattle.std.proofs.Common.{◌≡◌, [], take, drop}
use Rattle.md_forms.specs.Seen.{declarations_of}
use Rattle.md_rules.specs.Least.{first_broken}
use Rattle.md_rules.specs.Tests.{test_of}
use Rattle.md_rules.proofs.lines.first_broken.Given as goal

abbrev pub invariant-loop-declaration : goal.invariant-loop-declaration
invariant-loop-declaration l =
    (l.known.before.now ≡ take l.declaration-index l.all)
    × (first_broken (test_of l.rule l.declared.width) (declarations_of (take l.declaration-index l.all)) (declarations_of (drop l.declaration-index l.all))
    ≡ first_broken (test_of l.rule l.declared.width) [] (declarations_of l.all))
