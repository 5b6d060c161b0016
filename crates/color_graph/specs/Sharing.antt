-- Which temporaries may share a register, while conflicts are gathered.
use Rattle.std.specs.Prelude.{◌≡◌, ◌↔◌, ◌⊎◌, ℕ, ◌<◌, ◌&&◌, ◌||◌, not, nat_lt, Bool, false, List, [], length, slice_get, Option, Some, None}
use Rattle.std.specs.Global.{Vec}
use Rattle.rtl_tree.specs.declared.cells.Cell.TheVariants.{Temp}
use Rattle.rtl_tree.specs.Moves.{Move}
use Rattle.rtl_tree.specs.Same.{same_cell}
use Rattle.temp_machine.specs.Cells.{some_set}
use Rattle.color_code.specs.Greedy.{Conflicts}
use Rattle.flow_live.specs.Rows.{has_temporary}
use Rattle.color_graph.specs.declared.graph.Graph.{Graph}

abbrev pub words_in : Option (Vec ℕ) → List ℕ
words_in (Some words) = words.items
words_in None = []

-- row i has a bit for j: nothing is known yet that parts them
abbrev pub may_share : List (Vec ℕ) → ℕ → ℕ → Bool
may_share rows i j = has_temporary (words_in (slice_get rows i)) j

-- a temporary is dead behind a transfer that doesn't set it
abbrev pub is_untouched : List ℕ → List Move → ℕ → Bool
is_untouched dead ms j = has_temporary dead j && not (some_set (same_cell (Temp j)) ms)

-- what is left of the rows behind a transfer: a temporary that it sets shares with untouched ones alone
abbrev pub still_shares : List ℕ → List Move → ℕ → ℕ → Bool
still_shares dead ms i j = not (some_set (same_cell (Temp i)) ms) || is_untouched dead ms j

-- a bit that falls just where something is the case
abbrev pub Falls : Bool → Bool → Type 0 → Type 0
Falls old new P = (new ≡ false) ↔ ((old ≡ false) ⊎ P)

-- of the first n temporaries just those for which P holds are parted
abbrev pub Parts : ℕ → (ℕ → ℕ → Type 0) → List (Vec ℕ) → List (Vec ℕ) → Type 0
Parts n P old new = (i j : ℕ) → i < n → j < n → Falls (may_share old i j) (may_share new i j) (P i j)

-- and of a row of temporaries
abbrev pub Drops : ℕ → (ℕ → Type 0) → List ℕ → List ℕ → Type 0
Drops n P old new = (i : ℕ) → i < n → Falls (has_temporary old i) (has_temporary new i) (P i)

-- two temporaries conflict where one of their rows parts them
abbrev pub are_apart : List (Vec ℕ) → ℕ → ℕ → Bool
are_apart rows i j = not (may_share rows i j && may_share rows j i)

abbrev pub conflicts_in : Graph → Conflicts
conflicts_in g = record {
  between = λ i j. nat_lt i (length g.rows.items) && (nat_lt j (length g.rows.items) && are_apart g.rows.items i j);
  over_call = λ i. nat_lt i (length g.rows.items) && not (has_temporary g.over_calls.items i);
}
