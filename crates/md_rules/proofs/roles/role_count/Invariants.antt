use Rattle.std.proofs.Common.{◌≡◌, ◌+◌, ◌≤◌, drop}
use Rattle.md_forms.specs.Seen.{declarations_of}
use Rattle.md_rules.specs.Roles.{role_count}
use Rattle.md_rules.proofs.roles.role_count.Given as goal

abbrev pub invariant-loop-declaration : goal.invariant-loop-declaration
invariant-loop-declaration l =
    (l.count ≤ l.declaration-index)
    × (l.count + role_count l.role (declarations_of (drop l.declaration-index l.declarations)) ≡ role_count l.role (declarations_of l.declarations))
