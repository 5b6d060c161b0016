use Rattle.std.proofs.Common.{◌≤◌, length, take}
use Rattle.md_text.specs.Expansion.{expansions_of}
use Rattle.std.specs.List.{flat_map}
use Rattle.md_forms.specs.Seen.{declarations_of}
use Rattle.md_expand.specs.Expanded.{AllExpanded}
use Rattle.md_expand.proofs.product.expand.Given as goal

abbrev pub invariant-loop-declaration : goal.invariant-loop-declaration
invariant-loop-declaration l = record {
  room : length l.rows.items ≤ l.limit;
  rows :
      AllExpanded
      (take l.limit (flat_map (λ d. expansions_of l.scope.width (declarations_of l.scope.all.now) d.line d.form) (declarations_of (take l.declaration-index l.scope.all.now)))) l.rows.items;
}
