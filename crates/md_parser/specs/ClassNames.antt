-- The names in a class's line.
use Rattle.std.specs.Prelude.{◌≡◌, ℕ, ◌≤◌, List, ◌∷◌, ◌++◌, length, flat_map, codes}
use Rattle.md_text.specs.Forms.{EachName}

-- the line has two names or more, with a space before each
pub record SpacesClass (line : List ℕ) (names : List (List ℕ)) : Type 0 where
  pub text : line ≡ codes "class" ++ flat_map (λ name. 32 ∷ name) names
  pub each : EachName names
  pub several : 2 ≤ length names
