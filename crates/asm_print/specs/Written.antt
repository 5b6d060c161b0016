-- The text that the writer gives for what lines say.
use Rattle.std.specs.Prelude.{ℕ, List, [], ◌∷◌, ◌++◌, codes, decimal}
use Rattle.std.specs.Fmt.{signed_decimal}
use Rattle.asm_token.specs.Line.{line_of}
use Rattle.asm_program.specs.TextLines.{Label, Block, Symbol, Said, TextBegins, DataBegins, Labelled, Byte, Others}

abbrev pub label_text : Label → List ℕ
label_text (Block b) = 76 ∷ decimal b
label_text (Symbol s) = 95 ∷ s

-- a line without its line feed; a tab stands before instructions and the directives of bytes
abbrev pub written : Said → List ℕ
written TextBegins = codes ".text"
written DataBegins = codes ".data"
written (Labelled l) = label_text l ++ 58 ∷ []
written (Byte z) = 9 ∷ (codes ".byte " ++ signed_decimal z)
written (Others ts) = 9 ∷ line_of ts
written _ = []

abbrev pub line_text : Said → List ℕ
line_text s = written s ++ 10 ∷ []

abbrev pub text_of : List Said → List ℕ
text_of [] = []
text_of (s ∷ ss) = line_text s ++ text_of ss
