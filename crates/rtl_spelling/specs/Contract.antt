-- What a reader of texts owes.
use Rattle.std.specs.Prelude.{ℕ, ◌≡◌, List, length, map, Some}
use Rattle.rtl_tree.specs.Moves.{Move}
use Rattle.rtl_tree.specs.WellFormed.{IsWellFormed}
use Rattle.rtl_spelling.specs.Tokens.{Token, spelled, Lexes}
use Rattle.rtl_spelling.specs.Spelling.{Context, Said, IsSpelled}
use Rattle.rtl_spelling.specs.Faults.{FormFault, DepthFault}

-- what is said where each place can be one
abbrev pub said_of : List Move → List Said
said_of ms = map (λ m. record { to = Some m.to; value = m.value }) ms

-- the text spells the assignments, within depth 32
pub record SpellsText (c : Context) (text : List ℕ) (ms : List Said) : Type 0 where
  pub tokens : List Token
  pub lexes : Lexes text tokens
  pub spelled_by : IsSpelled c ms tokens

-- the text is the spelling of a well-formed transfer
pub record TextSays (c : Context) (text : List ℕ) (ms : List Move) : Type 0 where
  pub spells : SpellsText c text (said_of ms)
  pub well_formed : IsWellFormed ms

-- the text spells assignments that are no well-formed transfer
pub record SaysIllFormed (c : Context) (text : List ℕ) : Type 0 where
  pub said : List Said
  pub spells : SpellsText c text said
  pub never : (ms : List Move) → said ≡ said_of ms → IsWellFormed ms → ⊥

-- the fault of form lies at byte p
pub record BadFormOf (c : Context) (text : List ℕ) (p : ℕ) : Type 0 where
  pub tokens : List Token
  pub before : List Token
  pub lexes : Lexes text tokens
  pub fault : FormFault c tokens before
  pub place : length (spelled before) ≡ p

-- the fault of depth lies at byte p
pub record TooDeepOf (c : Context) (text : List ℕ) (p : ℕ) : Type 0 where
  pub tokens : List Token
  pub before : List Token
  pub lexes : Lexes text tokens
  pub fault : DepthFault c tokens before
  pub place : length (spelled before) ≡ p
