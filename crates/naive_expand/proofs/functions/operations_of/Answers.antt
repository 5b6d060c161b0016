use Rattle.std.proofs.Common.{◌+◌, [], ap, ◌∙◌}
use Rattle.c_limits.specs.Frames.{frame_bytes}
use Rattle.naive_expr.proofs.Values.{if_ok_then}
use Rattle.naive_expand.proofs.functions.operations_of.Goals as goal

pub returns-clause-operations : goal.returns-clause-operations
returns-clause-operations c =
    if_ok_then _ _ c.expand_function.result
    (λ out h w t is. h w c.args.pushed t (c.in_ok-enter.ensures.site w t is)
    (ap (λ n. n + c.args.pushed) (c.requires.frame.bytes ∙ ap (λ b. frame_bytes [] b c.args.f.now) is.bits)))
    c.expand_function.ensures
