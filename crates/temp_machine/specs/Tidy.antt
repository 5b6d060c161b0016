-- Tidy code, and how much room code takes.
use Rattle.std.specs.Prelude.{◌≡◌, ℕ, suc, ◌+◌, ◌*◌, max, Bool, true, false, ◌==◌, if◌then◌else◌, List, [], ◌∷◌, ◌++◌, length, map, sum, Option, Some, None}
use Rattle.std.specs.List.{list_any}
use Rattle.rtl_tree.specs.declared.cells.Cell.TheVariants.{Temp, Flag}
use Rattle.rtl_tree.specs.Trees.{Tree, Read, Load, Unary, Binary}
use Rattle.rtl_tree.specs.Moves.{Goal, ToCell, ToMemory, Move}
use Rattle.temp_machine.specs.Routines.{Exit, Jumps, Branches, Calls, Returns, BasicBlock, Routine, Target, block_transfers}
use Rattle.temp_machine.specs.Cells.{some_read, some_set, is_temporary, is_hard_among, uses, has_temporaries}
use Rattle.temp_machine.specs.Live.{Place, Item, Transfer, End, item_at, IsLive, IsLiveAfter}

abbrev pub reads_temporary : List Move → Bool
reads_temporary ms = some_read is_temporary ms

abbrev pub sets_temporary : List Move → Bool
sets_temporary ms = some_set is_temporary ms

-- the transfer of a place, a call's among them
abbrev pub transfer_in : Item → Option (List Move)
transfer_in (Transfer ms) = Some ms
transfer_in (End (Jumps ms)) = Some ms
transfer_in (End (Branches ms)) = Some ms
transfer_in (End (Calls ms)) = Some ms
transfer_in (End _) = None

-- a transfer stands at a place
pub record HasTransfer (r : Routine) (p : Place) (ms : List Move) : Type 0 where
  pub item : Item
  pub at : item_at r p ≡ Some item
  pub is : transfer_in item ≡ Some ms

-- No flag is live after a transfer that sets a temporary or before one that reads one, so that loads and stores may lose flags there; no
-- jump sets a temporary; and where a temporary stands in the code no general register does.
pub record IsTidy (t : Target) (r : Routine) : Type 0 where
  pub after_set : (p : Place) (ms : List Move) (n : ℕ) → HasTransfer r p ms → sets_temporary ms ≡ true → IsLiveAfter t r (Flag n) p → ⊥
  pub before_read : (p : Place) (ms : List Move) (n : ℕ) → HasTransfer r p ms → reads_temporary ms ≡ true → IsLive t r (Flag n) p → ⊥
  pub jumps : (p : Place) (ms : List Move) → item_at r p ≡ Some (End (Jumps ms)) → sets_temporary ms ≡ false
  pub branches : (p : Place) (ms : List Move) → item_at r p ≡ Some (End (Branches ms)) → sets_temporary ms ≡ false
  pub registers : has_temporaries r ≡ true → uses (is_hard_among t.general) r ≡ false

-- the temporaries of a tree, from the left
abbrev pub temporaries_in : Tree → List ℕ
temporaries_in (Read (Temp n)) = n ∷ []
temporaries_in (Load w a) = temporaries_in a
temporaries_in (Unary o a) = temporaries_in a
temporaries_in (Binary o a b) = temporaries_in a ++ temporaries_in b
temporaries_in _ = []

abbrev pub goal_temporaries : Goal → List ℕ
goal_temporaries (ToCell (Temp n)) = n ∷ []
goal_temporaries (ToCell c) = []
goal_temporaries (ToMemory w a) = temporaries_in a

abbrev pub temporaries_of : List Move → List ℕ
temporaries_of [] = []
temporaries_of (m ∷ ms) = goal_temporaries m.to ++ (temporaries_in m.value ++ temporaries_of ms)

abbrev pub is_among : ℕ → List ℕ → Bool
is_among n ns = list_any (λ k. k == n) ns

-- how many different numbers stand in a list
abbrev pub count_different : List ℕ → ℕ
count_different [] = 0
count_different (n ∷ ns) = if is_among n ns then count_different ns else suc (count_different ns)

-- The room of a transfer: with each of its temporaries in a home it needs a load or store or both beside itself.
abbrev pub room_of : List Move → ℕ
room_of ms = max 5 (1 + 2 * count_different (temporaries_of ms))

abbrev pub transfers_of : List BasicBlock → List (List Move)
transfers_of [] = []
transfers_of (b ∷ bs) = block_transfers b ++ transfers_of bs

-- the number of transfers of a routine, those of the ends among them, and their room
abbrev pub transfer_count : Routine → ℕ
transfer_count r = length (transfers_of r.blocks)

abbrev pub room : Routine → ℕ
room r = sum (map room_of (transfers_of r.blocks))

abbrev pub one_if_return : Exit → ℕ
one_if_return Returns = 1
one_if_return _ = 0

abbrev pub return_count : Routine → ℕ
return_count r = sum (map (λ b. one_if_return b.exit) r.blocks)

-- beside its room a function needs entries and returns, counted once for the function and once for each return
abbrev pub padded_room : Target → Routine → ℕ
padded_room t r = room r + (4 + length t.kept) * (1 + return_count r)
