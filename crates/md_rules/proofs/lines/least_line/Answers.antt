use Rattle.std.specs.Prelude.{ℕ, IfOk}
use Rattle.std.specs.declared.option.Option.{Option}
use Rattle.std.specs.declared.result.Result.{Result}
use Rattle.std.specs.declared.result.Result.TheVariants.{Ok, Err}
use Rattle.md_forms.specs.Seen.{declarations_of}
use Rattle.md_rules.specs.Tests.{test_of}
use Rattle.md_rules.proofs.FirstBroken.{least_broken}
use Rattle.md_rules.proofs.lines.least_line.Goals as goal

if_ok_then : {E : Type 0} (P Q : Option ℕ → Type 0) (r : Result (Option ℕ) E) → ((o : Option ℕ) → P o → Q o) → IfOk r P → IfOk r Q
if_ok_then P Q (Ok o) f p = f o p
if_ok_then P Q (Err e) f p = tt

pub returns : goal.returns
returns c =
    let d = c.args.declared.now in
    if_ok_then _ _ c.first_broken.result (λ o e. least_broken (test_of c.args.rule d.width) (declarations_of d.all) d.last o c.requires.lines e)
    c.first_broken.ensures
