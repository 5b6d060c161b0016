use Rattle.std.proofs.Common.{◌≡◌, length, take}
use Rattle.rtl_spelling.specs.Tokens.{spelled}
use Rattle.rtl_token.specs.Seen.{tokens_of}
use Rattle.rtl_token.proofs.places.place.Given as goal

abbrev pub invariant-loop-token : goal.invariant-loop-token
invariant-loop-token l = l.place ≡ length (spelled (tokens_of (take l.token-index l.front)))
