-- The first line of a text, and what it says.
use Rattle.std.proofs.Common.{◌≡◌, ℕ, List, [], ◌∷◌, ap, subst}
use Rattle.std.specs.List.{AllZip}
use Rattle.asm_token.specs.Tokens.{Token}
use Rattle.asm_row.specs.Walk.{IsLine}
use Rattle.asm_program.specs.TextLines.{Said, Says, lines_of}
use Rattle.asm_program.specs.Law.{SaysOneThing}
use Rattle.asm_program.specs.Rules.{AreSaid}
use Rattle.asm_labels.specs.declared.saying.Said.{Said as Held}
use Rattle.asm_labels.specs.Seen.{IsSaid, OnOthers, seen}

-- the lines are what is said of the first line, and others
pub record Opens (lines : List Said) (line rest : List ℕ) (x : Held) : Type 0 where
  pub tokens : List Token
  pub behind : List Said
  pub are : lines ≡ seen x tokens ∷ behind
  pub on : OnOthers x (IsLine line tokens)
  pub others : AreSaid rest behind

module _ (once : SaysOneThing) (line rest : List ℕ) (x : Held) (s : IsSaid line x) where
  opens_by : (lines : List Said) → AllZip Says (line ∷ lines_of rest) lines → Opens lines line rest x
  opens_by [] a = absurd a
  opens_by (y ∷ ys) a =
      record { tokens = s.tokens; behind = ys; are = ap (λ (z : Said). z ∷ ys) (once line y (seen x s.tokens) a.0 s.says); on = s.are; others = a.1 }

  pub opens : (text : List ℕ) (lines : List Said) → lines_of text ≡ line ∷ lines_of rest → AreSaid text lines → Opens lines line rest x
  opens text lines e a = opens_by lines (subst (λ (ls : List (List ℕ)). AllZip Says ls lines) e a)
