-- What the text of a normal form is.
use Rattle.std.specs.Prelude.{◌≡◌, ℕ, List, Result, Ok, Err, Vec}
use Rattle.std.proofs.Common.{Global}
use Rattle.rtl_tree.specs.Moves.{Move}
use Rattle.rtl_norm.specs.Transfers.{norm_moves}
use Rattle.rtl_spelling.specs.Spelling.{Context}
use Rattle.rtl_spelling.specs.Printing.{text_of}
use Rattle.rtl_spelling.specs.Contract.{TextSays}
use Rattle.rtl_token.specs.declared.fault.TextFault.{TextFault}
use Rattle.rtl_token.specs.declared.fault.TextFault.TheVariants as fault

-- the text spells a well-formed transfer, and the bytes are the text of its normal form
pub record IsNormalTextOf (c : Context) (text bytes : List ℕ) : Type 0 where
  pub moves : List Move
  pub says : TextSays c text moves
  pub printed : bytes ≡ text_of c (norm_moves c.width moves)

-- what is answered of a text that spells these assignments: the text of their normal form
abbrev pub Prints : Context → List Move → Result (Vec ℕ Global) TextFault → Type 0
Prints c ms (Ok out) = out.items ≡ text_of c (norm_moves c.width ms)
Prints c ms (Err fault.NoMemory) = Unit {0}
Prints c ms (Err _) = ⊥
