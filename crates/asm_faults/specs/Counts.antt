-- What is counted before a line, as the program holds it.
use Rattle.std.specs.Prelude.{◌≡◌, ℕ, ◌<◌, ◌≤◌, length, filter_map, List, Option, Some, None}
use Rattle.std.specs.HashSet.{HashSet, contains_by, hash_set_len}
use Rattle.std.specs.List.{list_any}
use Rattle.std.specs.Str.{bytes_eq}
use denote.Ref.{Bor}
use Rattle.asm_token.specs.Tokens.{Token}
use Rattle.asm_row.specs.Walk.{IsLine}
use Rattle.asm_program.specs.Places.{Position, symbol_in, magnitude, with_name, with_names}
use Rattle.asm_labels.specs.declared.saying.Said.{Said as Held}
use Rattle.asm_labels.specs.declared.saying.Said.TheVariants as held
use Rattle.asm_faults.specs.declared.positions.Standing.{Standing}

-- the set has these names, which are all different
pub record HoldsNames {S : Type 0} (names : List (List ℕ)) (set : HashSet (Bor (List ℕ)) S) : Type 0 where
  pub many : hash_set_len set ≡ length names
  pub each : (name : List ℕ) → contains_by (λ k. bytes_eq name k.now) set ≡ list_any (bytes_eq name) names

-- the program's account of a position: the names are in a set
pub record Shows (h : Standing) (p : Position) : Type 0 where
  pub line : p.line ≡ h.place.line
  pub part : p.part ≡ h.place.part
  pub count : p.count ≡ h.count
  pub reach : p.reach ≡ h.reach
  pub names : HoldsNames p.names h.names

-- far from the limits of the machine that counts
pub record IsSmall (h : Standing) : Type 0 where
  pub count : h.count ≤ 1000000
  pub reach : h.reach < 4294967296

-- a name is added, where there is one
abbrev pub with_some : List (List ℕ) → Option (List ℕ) → List (List ℕ)
with_some names None = names
with_some names (Some name) = with_name names name

-- the names of some tokens are added by adding to those that the set has those of the tokens that are left
pub record AreAdding {S : Type 0} (names : List (List ℕ)) (tokens : List Token) (rest : List ℕ) (set : HashSet (Bor (List ℕ)) S) : Type 0 where
  pub now : List (List ℕ)
  pub left : List Token
  pub holds : HoldsNames now set
  pub line : IsLine rest left
  pub same : with_names names (filter_map symbol_in tokens) ≡ with_names now (filter_map symbol_in left)

-- the bytes of a line of empty space
abbrev pub space_in : Held → ℕ
space_in (held.Space z) = magnitude z
space_in _ = 0
