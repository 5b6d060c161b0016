use Rattle.std.specs.declared.option.Option.TheVariants.{None}
use Rattle.md_forms.specs.Seen.{declared_of}
use Rattle.md_rules.specs.Broken.{IsFirst}
use Rattle.md_rules.proofs.told.first_told.Given as goal

abbrev pub invariant-loop-number : goal.invariant-loop-number
invariant-loop-number l = IsFirst l.low l.number (declared_of l.declared) None
