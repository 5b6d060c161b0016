-- Names and what they stand for (C11 6.2.1).
use Rattle.std.specs.Prelude.{ℕ, Option, Some, None, List, [], ◌∷◌, if◌then◌else◌}
use Rattle.std.specs.Str.{bytes_eq}
use Rattle.c_typing.specs.declared.names.Meaning.{Meaning}

-- a name that is declared
pub record Entry : Type 0 where
  pub name : List ℕ
  pub means : Meaning

-- what a name stands for: the last declaration of it counts, where the older ones stand first
abbrev pub or_else : Option Meaning → Option Meaning → Option Meaning
or_else (Some m) b = Some m
or_else None b = b

abbrev pub meaning : List Entry → List ℕ → Option Meaning
meaning [] name = None
meaning (e ∷ es) name = or_else (meaning es name) (if bytes_eq e.name name then Some e.means else None)
