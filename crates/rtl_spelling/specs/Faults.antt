-- Where tokens that spell no transfer go wrong.
use Rattle.std.specs.Prelude.{ℕ, ◌<◌, ◌≤◌, ◌≡◌, List, [], ◌∷◌, ◌++◌, length, None}
use Rattle.rtl_spelling.specs.declared.signs.Sign.TheVariants as sign
use Rattle.rtl_spelling.specs.Tokens.{Token, Word, Mark}
use Rattle.rtl_spelling.specs.Holes.{leaf_named}
use Rattle.rtl_spelling.specs.Spelling.{Context, Placed, tokens_in, Said, SpellsTransfer, AreWithin}

-- the spelling of some transfer, of any depth, begins with these tokens
pub record Begins (c : Context) (us : List Token) : Type 0 where
  pub said : List Said
  pub placed : List Placed
  pub after : List Token
  pub spells : SpellsTransfer c said placed
  pub begins : tokens_in placed ≡ us ++ after

-- behind these tokens stands the first one that continues no transfer
pub record FirstBad (c : Context) (ts before : List Token) (at : Token) (rest : List Token) : Type 0 where
  pub split : ts ≡ before ++ at ∷ rest
  pub goes : Begins c before
  pub stops : Begins c (before ++ at ∷ []) → ⊥

-- a token is the name in a whole hole that isn't open
pub record IsNameOfUnknown (c : Context) (before : List Token) (at : Token) (rest : List Token) : Type 0 where
  pub front : List Token
  pub name : List ℕ
  pub behind : List Token
  pub left : before ≡ front ++ Mark sign.Less ∷ []
  pub is : at ≡ Word name
  pub right : rest ≡ Mark sign.Greater ∷ behind
  pub unknown : leaf_named c.holes name ≡ None

-- behind these tokens stands the first that continues no transfer; of a whole hole that isn't open this is the first
pub data BadFormAt (c : Context) (ts before : List Token) : Type 0 where
  unexpected : (at : Token) (rest : List Token) → FirstBad c ts before at rest → (IsNameOfUnknown c before at rest → ⊥) → BadFormAt c ts before
  unknown_hole :
      (name : List ℕ) (rest : List Token) → ts ≡ before ++ Mark sign.Less ∷ Word name ∷ Mark sign.Greater ∷ rest
      → leaf_named c.holes name ≡ None → Begins c before → BadFormAt c ts before

-- behind these tokens stands the first that begins a tree at depth 33
pub record TooDeepAt (c : Context) (ts before : List Token) : Type 0 where
  pub said : List Said
  pub front : List Placed
  pub at : Placed
  pub after : List Placed
  pub rest : List Token
  pub spells : SpellsTransfer c said (front ++ at ∷ after)
  pub begins : tokens_in front ≡ before
  pub split : ts ≡ before ++ at.token ∷ rest
  pub deep : at.depth ≡ 33
  pub within : AreWithin 32 front

-- the fault is one of form: none of depth lies before it
pub record FormFault (c : Context) (ts before : List Token) : Type 0 where
  pub bad : BadFormAt c ts before
  pub first : (front : List Token) → TooDeepAt c ts front → length before ≤ length front

-- the fault is one of depth: none of form lies before it, or there
pub record DepthFault (c : Context) (ts before : List Token) : Type 0 where
  pub deep : TooDeepAt c ts before
  pub first : (front : List Token) → BadFormAt c ts front → length before < length front
