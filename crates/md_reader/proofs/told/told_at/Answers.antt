use Rattle.std.proofs.Common.{subst}
use Rattle.md_forms.specs.SeenRules.{rule_of}
use Rattle.md_rules.specs.Least.{IsLeast}
use Rattle.md_rules.specs.Broken.{BreaksBy}
use Rattle.md_reader.proofs.Joined.{told_alone, none_alone}
use Rattle.md_reader.proofs.told.told_at.Goals as goal

pub returns-in-Some : goal.returns-in-Some
returns-in-Some c = λ d p. told_alone d (record { rule = c.args.rule; line = c.in-Some.line }) (subst (IsLeast (BreaksBy (rule_of c.args.rule) d)) c.in-Some.is p)

pub returns-in-None : goal.returns-in-None
returns-in-None c = λ d p. none_alone d (rule_of c.args.rule) (subst (IsLeast (BreaksBy (rule_of c.args.rule) d)) c.in-None.is p)
