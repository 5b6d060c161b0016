-- What names stand for, by a list of declarations and by a table.
use Rattle.std.specs.Prelude.{ℕ, ◌≡◌, Bool, true, false, nat_le, length, drop, Option, Some, None, List, [], ◌∷◌, ◌++◌, map, if◌then◌else◌}
use Rattle.std.specs.Str.{bytes_eq}
use Rattle.std.specs.Borrow.{Bor}
use Rattle.std.specs.HashMap.{HashMap, get_by}
use Rattle.c_typing.specs.declared.names.Meaning.{Meaning}
use Rattle.c_typing.specs.Scopes.{Entry, meaning}
use Rattle.c_names.specs.declared.entry.Known.{Known}
use Rattle.c_names.specs.declared.entry.Kept.{Kept}

abbrev pub known_at : {S : Type 0} → HashMap (Bor (List ℕ)) Known S → List ℕ → Option Known
known_at table name = get_by (λ k. bytes_eq name k.now) table

abbrev pub or_else : Option Known → Option Known → Option Known
or_else (Some k) b = Some k
or_else None b = b

-- the last declaration of a name counts
abbrev pub known_in : List Kept → List ℕ → Option Known
known_in [] name = None
known_in (e ∷ es) name = or_else (known_in es name) (if bytes_eq e.name.now name then Some e.known else None)

-- what each name stood for before its declaration, and the declaration's number, where others stand before the first
abbrev pub due_behind : List Kept → List Kept → List (Option Known × ℕ)
due_behind before [] = []
due_behind before (e ∷ es) = (known_in before e.name.now, length before) ∷ due_behind (before ++ e ∷ []) es

abbrev pub due_of : Kept → Option Known × ℕ
due_of e = (e.hidden, e.known.number)

abbrev pub Agrees : {S : Type 0} → List Kept → HashMap (Bor (List ℕ)) Known S → Type 0
Agrees es table = ((name : List ℕ) → known_at table name ≡ known_in es name) × (map due_of es ≡ due_behind [] es)

-- the declarations as the definition has them
abbrev pub entry_of : Kept → Entry
entry_of e = record { name = e.name.now; means = e.known.means }

abbrev pub entries_of : List Kept → List Entry
entries_of es = map entry_of es

abbrev pub means_of : Option Known → Option Meaning
means_of None = None
means_of (Some k) = Some k.means

-- declared behind the first ones
abbrev pub is_behind : ℕ → Option Known → Bool
is_behind start None = false
is_behind start (Some k) = nat_le start k.number

abbrev pub is_declared : Option Meaning → Bool
is_declared None = false
is_declared (Some m) = true

-- the same declarations, and more behind them
pub record Extends (before after : List Kept) : Type 0 where
  pub more : List Kept
  pub is : after ≡ before ++ more
