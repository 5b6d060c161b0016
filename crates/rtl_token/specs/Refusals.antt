-- What a refusal tells.
use Rattle.std.specs.Prelude.{ℕ, List}
use Rattle.rtl_spelling.specs.Tokens.{Stuck}
use Rattle.rtl_token.specs.declared.fault.TextFault.{TextFault}
use Rattle.rtl_token.specs.declared.fault.TextFault.TheVariants as fault

-- of a text that can't be cut into tokens
abbrev pub RefusesTokens : List ℕ → TextFault → Type 0
RefusesTokens text fault.NoMemory = Unit {0}
RefusesTokens text (fault.BadToken p) = Stuck text p
RefusesTokens text _ = ⊥
