-- The value so far is that of the digits so far.
use Rattle.std.proofs.Common.{◌≡◌, take}
use Rattle.c_lexer.specs.Constants.{number_of}
use Rattle.c_lexer.proofs.constants.number.Given as goal

abbrev pub invariant-loop-byte : goal.invariant-loop-byte
invariant-loop-byte l = l.value ≡ number_of l.base (take l.byte-index l.digits)
