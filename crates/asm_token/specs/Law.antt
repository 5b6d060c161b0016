-- Laws of tokens.
use Rattle.std.specs.Prelude.{ℕ, Bool, ◌≡◌, List, IsTrue}
use Rattle.std.specs.List.{All}
use Rattle.asm_token.specs.Tokens.{Token, IsToken, Spells, IsGap}
use Rattle.asm_token.specs.Line.{line_of}

abbrev pub AtMostOneSpelled : Type 0
AtMostOneSpelled = (gap : ℕ → Bool) (bs : List ℕ) (ts us : List Token) → IsGap gap → Spells gap bs ts → Spells gap bs us → ts ≡ us

abbrev pub LineReadsBack : Type 0
LineReadsBack = (gap : ℕ → Bool) (ts : List Token) → IsTrue (gap 32) → All IsToken ts → Spells gap (line_of ts) ts
