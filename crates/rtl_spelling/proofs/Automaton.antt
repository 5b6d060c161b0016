-- An automaton with a stack of what is expected, which reads one token at a time.
use Rattle.std.proofs.Common.{◌≡◌, ◌≤◌, ◌<◌, false, refl, arith}
use Rattle.std.proofs.lemmas.Bool.{leb-true, le-leb, lt-leb}
use Rattle.std.specs.Prelude.{ℕ, zero, suc, nat_le, Bool, true, if◌then◌else◌, List, [], ◌∷◌, ◌++◌, Option, Some, None}
use Rattle.rtl_tree.specs.declared.expressions.BinOp.TheVariants.{Cmp}
use Rattle.rtl_spelling.specs.declared.signs.Sign.{Sign}
use Rattle.rtl_spelling.specs.declared.signs.Sign.TheVariants as sign
use Rattle.rtl_spelling.specs.declared.senses.Bank.{Bank}
use Rattle.rtl_spelling.specs.declared.senses.Bank.TheVariants.{Flag as FlagBank}
use Rattle.rtl_spelling.specs.declared.senses.Sense.{Sense}
use Rattle.rtl_spelling.specs.declared.senses.Sense.TheVariants as sense
use Rattle.rtl_spelling.specs.Tokens.{Token}
use Rattle.rtl_spelling.specs.Spelling.{Context}
use Rattle.rtl_spelling.specs.Senses.{sense_of, cell_at}
use Rattle.rtl_spelling.specs.Reading.{Read, gives, wrong, deep, is_sign, leaf_at, has_holes}

-- what is expected; trees and what is inside them carry the depth of the tree
pub data Symbol : Type 0 where
  ATree Inside Operator Tested AfterRelation : ℕ → Symbol
  Exactly : Sign → Symbol
  Index : Bank → Symbol
  HoleName Place Value After : Symbol

abbrev pub Stack : Type 0
Stack = List Symbol

-- the depth of the tree that the token begins, and what is expected in the symbol's place
abbrev pub Step : Type 0
Step = Option (ℕ × Stack)

abbrev pub below : Stack → Step → Step
below s None = None
below s (Some x) = Some (x.0, x.1 ++ s)

abbrev pub tree_step : Context → ℕ → Sense → Step
tree_step c d (sense.Number n) = Some (d, [])
tree_step c d (sense.Object k) = Some (d, [])
tree_step c d (sense.Label l) = Some (d, [])
tree_step c d (sense.Cell x) = Some (d, [])
tree_step c d (sense.Bank b) = Some (d, Exactly sign.LeftBracket ∷ Index b ∷ Exactly sign.RightBracket ∷ [])
tree_step c d (sense.Memory w) = Some (d, Exactly sign.LeftBracket ∷ ATree (suc d) ∷ Exactly sign.RightBracket ∷ [])
tree_step c d (sense.Sign sign.LeftParen) = Some (d, Inside d ∷ [])
tree_step c d (sense.Sign sign.Less) = if has_holes c.holes then Some (d, HoleName ∷ Exactly sign.Greater ∷ []) else None
tree_step c d _ = None

abbrev pub right_of : ℕ → Stack
right_of d = ATree (suc d) ∷ Exactly sign.RightParen ∷ []

abbrev pub operator_step : ℕ → Sense → Step
operator_step d (sense.Binary o) = Some (0, Exactly sign.Space ∷ right_of d)
operator_step d _ = None

abbrev pub tested_step : ℕ → Sense → Step
tested_step d (sense.Binary (Cmp r)) = Some (0, AfterRelation d ∷ [])
tested_step d s = operator_step d s

abbrev pub inside_step : Context → ℕ → Sense → Step
inside_step c d (sense.Unary o) = Some (0, Exactly sign.Space ∷ right_of d)
inside_step c d (sense.Bank FlagBank) = below (Exactly sign.Space ∷ Tested d ∷ []) (tree_step c (suc d) (sense.Bank FlagBank))
inside_step c d s = below (Exactly sign.Space ∷ Operator d ∷ []) (tree_step c (suc d) s)

abbrev pub place_step : Context → Sense → Step
place_step c (sense.Cell x) = tree_step c 1 (sense.Cell x)
place_step c (sense.Bank b) = tree_step c 1 (sense.Bank b)
place_step c (sense.Memory w) = tree_step c 1 (sense.Memory w)
place_step c (sense.Sign sign.Less) = tree_step c 1 (sense.Sign sign.Less)
place_step c _ = None

abbrev pub value_step : Context → Sense → Step
value_step c sense.Lost = Some (0, [])
value_step c s = tree_step c 1 s

-- a whole transfer
abbrev pub behind_place : Stack
behind_place = Exactly sign.Space ∷ Exactly sign.Equals ∷ Exactly sign.Space ∷ Value ∷ After ∷ []

abbrev pub start : Stack
start = Place ∷ behind_place

abbrev pub on_test : Bool → Stack → Step → Step
on_test b s o = if b then Some (0, s) else o

abbrev pub on_found : {A : Type 0} → Option A → Step
on_found (Some x) = Some (0, [])
on_found None = None

abbrev pub step : Context → Symbol → Token → Step
step c (ATree d) t = tree_step c d (sense_of c t)
step c (Inside d) t = inside_step c d (sense_of c t)
step c (Operator d) t = operator_step d (sense_of c t)
step c (Tested d) t = tested_step d (sense_of c t)
step c (AfterRelation d) t = on_test (is_sign sign.RightParen t) [] (on_test (is_sign sign.Space t) (right_of d) None)
step c (Exactly s) t = on_test (is_sign s t) [] None
step c (Index b) t = on_found (cell_at b t)
step c HoleName t = on_found (leaf_at c t)
step c Place t = place_step c (sense_of c t)
step c Value t = value_step c (sense_of c t)
step c After t = on_test (is_sign sign.End t) [] (on_test (is_sign sign.Semicolon t) (Exactly sign.Space ∷ start) None)

-- whether a tree may stand so deep; 0 is no tree
abbrev pub stands : ℕ → ℕ → Bool
stands most zero = true
stands most (suc d) = nat_le (suc d) most

abbrev pub followed : ℕ → Step → List Token → (Stack → Read (Unit {0})) → Read (Unit {0})
followed most None ts k = wrong ts
followed most (Some x) ts k = if stands most x.0 then k x.1 else deep ts

-- the automaton runs until nothing is expected
abbrev pub follow : Context → ℕ → Stack → List Token → Read (Unit {0})
follow c most [] ts = gives tt ts
follow c most (x ∷ s) [] = wrong []
follow c most (x ∷ s) (t ∷ ts) = followed most (step c x t) (t ∷ ts) (λ new. follow c most (new ++ s) ts)

-- ---- depths and steps

pub stood : (most d : ℕ) → stands most d ≡ true → d ≤ most
stood most zero h = omega arith
stood most (suc d) h = leb-true (suc d) most h

pub stand : (most d : ℕ) → d ≤ most → stands most d ≡ true
stand most zero h = refl
stand most (suc d) h = le-leb (suc d) most h

pub past : (most d : ℕ) → most < d → stands most d ≡ false
past most zero h = absurd (omega (arith, h))
past most (suc d) h = lt-leb (suc d) most h

abbrev pub some_step : ℕ → Stack → Step
some_step d s = Some (d, s)

abbrev pub new_of : Step → Stack
new_of (Some y) = y.1
new_of None = []

abbrev pub depth_of : Step → ℕ
depth_of (Some y) = y.0
depth_of None = 0
