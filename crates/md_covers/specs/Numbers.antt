-- The numbers of the shapes, and whether a row takes them all.
use Rattle.std.specs.Prelude.{◌≡◌, ◌⊎◌, ℕ, ◌<◌, ◌+◌, ◌-◌, ◌*◌, ◌/◌, ◌^◌, Bool, true, false, cond, ◌&&◌, List, [], ◌∷◌}
use Rattle.rtl_tree.specs.Trees.{Tree, Number, Load as LoadTree, Unary, Binary}
use Rattle.rtl_tree.specs.Moves.{Goal, ToCell}
use Rattle.rtl_tree.specs.declared.cells.Cell.TheVariants.{Flag}
use Rattle.md_rows.specs.declared.row.Hole.{Hole}
use Rattle.md_rows.specs.declared.row.Hole.TheVariants.{Num as NumHole}
use Rattle.md_match.specs.Searches.{goal_tree, traps_pass}
use Rattle.md_shapes.specs.declared.patterns.Pattern.{Pattern}
use Rattle.md_shapes.specs.declared.patterns.Pattern.TheVariants.{SetNumber, LoadHome, StoreHome, MoveStack, SaveLink, RestoreLink}
use Rattle.md_covers.specs.Ranges.{run_test}

-- a run of numbers: the first, how many there are, and the step
pub record Run : Type 0 where
  pub first : ℕ
  pub count : ℕ
  pub step : ℕ

pub record IsOf (run : Run) (n : ℕ) : Type 0 where
  pub place : ℕ
  pub within : place < run.count
  pub is : n ≡ run.first + place * run.step

-- each word
abbrev pub words : ℕ → Run
words w = record { first = 0; count = 2 ^ w; step = 1 }

-- the multiples of the bytes of a word, from the first on, up to a number
abbrev pub multiples : ℕ → ℕ → Run
multiples w most = record { first = w / 8; count = most / (w / 8); step = w / 8 }

-- the words of the same numbers below zero
abbrev pub negatives : ℕ → ℕ → Run
negatives w most = record { first = 2 ^ w - most; count = most / (w / 8); step = w / 8 }

-- the numbers of a shape: words, offsets in a frame, or what the stack register moves by
abbrev pub runs_of : ℕ → Pattern → List Run
runs_of w SetNumber = words w ∷ []
runs_of w LoadHome = multiples w 32255 ∷ []
runs_of w StoreHome = multiples w 32255 ∷ []
runs_of w SaveLink = multiples w 32255 ∷ []
runs_of w RestoreLink = multiples w 32255 ∷ []
runs_of w MoveStack = multiples w 32000 ∷ negatives w 32000 ∷ []
runs_of w p = []

abbrev pub IsOfSome : List Run → ℕ → Type 0
IsOfSome [] n = ⊥
IsOfSome (r ∷ rs) n = IsOf r n ⊎ IsOfSome rs n

-- a number of the shape; a shape that has none is the same for each
abbrev pub IsNumberOf : List Run → ℕ → Type 0
IsNumberOf [] n = Unit {0}
IsNumberOf (r ∷ rs) n = IsOfSome (r ∷ rs) n

abbrev pub has_runs : List Run → Bool
has_runs [] = false
has_runs (r ∷ rs) = true

abbrev pub first_number : List Run → ℕ
first_number [] = 0
first_number (r ∷ rs) = r.first

-- the last number of a run
abbrev pub end_of : Run → ℕ
end_of r = r.first + (r.count - 1) * r.step

-- whether a number hole has each of the words a, a + step, .., z
abbrev pub takes_between : ℕ → Hole → ℕ → ℕ → ℕ → Bool
takes_between w (NumHole low high inverted) a z step =
    cond inverted (run_test w low high (2 ^ w - 1 - z) (2 ^ w - 1 - a) step) (run_test w low high a z step)
takes_between w hole a z step = true

abbrev pub takes_run : ℕ → Hole → Run → Bool
takes_run w hole r = takes_between w hole r.first (end_of r) r.step

abbrev pub takes_runs : ℕ → Hole → List Run → Bool
takes_runs w hole [] = true
takes_runs w hole (r ∷ rs) = takes_run w hole r && takes_runs w hole rs

-- whether no number stands in a tree but in holes
abbrev pub is_open : Tree → Bool
is_open (Number n) = false
is_open (LoadTree w a) = is_open a
is_open (Unary o a) = is_open a
is_open (Binary o a b) = is_open a && is_open b
is_open _ = true

-- the same of an assignment; where it is to a flag, of the nodes of its value that can trap
abbrev pub is_open_move : Goal → Tree → Bool
is_open_move (ToCell (Flag k)) t = traps_pass is_open t
is_open_move to t = is_open (goal_tree to) && is_open t
