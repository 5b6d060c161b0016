use Rattle.std.proofs.Common.{◌+◌, ◌≤◌, length, arith}
use Rattle.rtl_spelling.specs.Tokens.{spelled}
use Rattle.rtl_token.specs.Seen.{tokens_of}
use Rattle.rtl_token.proofs.Spans.{place_within}
use Rattle.rtl_token.proofs.places.place.Goals as goal

pub overflow_add-place : goal.overflow_add-place
overflow_add-place c =
    let within : c.loop-token.place + c.token_length-place.result ≤ length (spelled (tokens_of c.args.tokens.now)) =
    place_within c.args.tokens.now c.split_at.result.0.now c.saturating_sub.result c.loop-token.token-index c.loop-token.place
    c.token_length-place.result _ c.split_at.ensures.front c.loop-token-test.true c.loop-token.invariant c.token_length-place.ensures in
    omega (arith, c.requires)
