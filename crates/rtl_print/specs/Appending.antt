-- Bytes with the spelling of tokens behind them.
use Rattle.std.specs.Prelude.{ℕ, ◌≡◌, List, ◌++◌}
use Rattle.rtl_spelling.specs.Tokens.{Token, spelled}

pub record Appends (old new : List ℕ) (ts : List Token) : Type 0 where
  pub bytes : new ≡ old ++ spelled ts
