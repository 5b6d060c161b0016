-- What is dead before a transfer, an end and a block, where it is known what is dead behind it.
use Rattle.std.specs.Prelude.{◌≡◌, ℕ, ◌<◌, ◌&&◌, ◌||◌, not, nat_lt, nat_le, Bool, true, false, List, [], ◌∷◌, Option, Some, None, slice_get}
use Rattle.std.specs.List.{list_any}
use Rattle.rtl_tree.specs.declared.cells.Cell.{Cell}
use Rattle.rtl_tree.specs.declared.cells.Cell.TheVariants.{Hard, Flag}
use Rattle.rtl_tree.specs.Moves.{Goal, ToCell, Move}
use Rattle.rtl_tree.specs.Same.{same_cell}
use Rattle.rtl_tree.specs.Sets.{has_cell}
use Rattle.temp_machine.specs.Routines.{Exit, Falls, Jumps, Branches, Calls, Returns, BasicBlock, Routine, Target}
use Rattle.temp_machine.specs.Cells.{is_temporary, move_reads, some_set, uses}
use Rattle.temp_machine.specs.Live.{is_always_live, is_lost_by_call, Item, Transfer, End}
use Rattle.temp_machine.specs.Machine.{is_kept}
use Rattle.flow_live.specs.declared.kinds.Kind.{Kind}
use Rattle.flow_live.specs.declared.kinds.Kind.TheVariants.{Temporary, HighFlag}
use Rattle.flow_live.specs.declared.standing.Standing.{Standing}
use Rattle.flow_live.specs.declared.standing.Roles.{Roles}
use Rattle.flow_live.specs.declared.rows.Row.{Row}
use Rattle.flow_live.specs.Rows.{bits_in, has_bit}

-- flags that have no bit; no description has them
abbrev pub is_high_flag : Cell → Bool
is_high_flag (Flag n) = nat_le 8 n
is_high_flag _ = false

abbrev pub HasLowFlags : Routine → Type 0
HasLowFlags r = uses is_high_flag r ≡ false

-- whether the reads of an assignment count: those for a flag that is dead behind it don't
abbrev pub is_wanted : (ℕ → Bool) → Goal → Bool
is_wanted flags (ToCell (Flag n)) = not (nat_lt n 8 && flags n)
is_wanted flags g = true

abbrev pub moves_read : (ℕ → Bool) → Cell → List Move → Bool
moves_read flags c ms = list_any (λ m. is_wanted flags m.to && move_reads c m) ms

abbrev pub exit_takes : Target → (ℕ → Bool) → Exit → Cell → Bool
exit_takes t flags Falls c = false
exit_takes t flags (Jumps ms) c = moves_read flags c ms
exit_takes t flags (Branches ms) c = moves_read flags c ms
exit_takes t flags (Calls ms) c = moves_read (λ n. true) c ms
exit_takes t flags Returns c = same_cell c (Hard t.result)

abbrev pub exit_puts : Target → Exit → Cell → Bool
exit_puts t Falls c = false
exit_puts t (Jumps ms) c = some_set (same_cell c) ms
exit_puts t (Branches ms) c = some_set (same_cell c) ms
exit_puts t (Calls ms) c = some_set (same_cell c) ms || is_lost_by_call t c
exit_puts t Returns c = false

abbrev pub item_takes : Target → (ℕ → Bool) → Item → Cell → Bool
item_takes t flags (Transfer ms) c = moves_read flags c ms
item_takes t flags (End e) c = exit_takes t flags e c

abbrev pub item_puts : Target → Item → Cell → Bool
item_puts t (Transfer ms) c = some_set (same_cell c) ms
item_puts t (End e) c = exit_puts t e c

abbrev pub item_dead : Target → Routine → Item → (Cell → Bool) → Cell → Bool
item_dead t r x d c = (d c || item_puts t x c) && (not (item_takes t (λ n. d (Flag n)) x c) && not (is_always_live t r c))

-- before the transfers of a body with an end behind them
abbrev pub body_dead : Target → Routine → List (List Move) → Exit → (Cell → Bool) → Cell → Bool
body_dead t r [] e d = item_dead t r (End e) d
body_dead t r (ms ∷ rest) e d = item_dead t r (Transfer ms) (body_dead t r rest e d)

abbrev pub block_dead : Target → Routine → BasicBlock → (Cell → Bool) → Cell → Bool
block_dead t r b d = body_dead t r b.body b.exit d

-- what the rows say of the begins of blocks
abbrev pub dead_in : Option Row → Cell → Bool
dead_in (Some row) c = has_cell (bits_in row) c
dead_in None c = true

abbrev pub dead_at : List Row → ℕ → Cell → Bool
dead_at rows k c = dead_in (slice_get rows k) c

-- behind a block, where these come next
abbrev pub dead_at_all : List Row → List ℕ → Cell → Bool
dead_at_all rows [] c = true
dead_at_all rows (k ∷ ks) c = dead_at_all rows ks c && dead_at rows k c

abbrev pub dead_behind : Target → Routine → List Row → List ℕ → Cell → Bool
dead_behind t r rows [] c = true
dead_behind t r rows (k ∷ ks) c = dead_at_all rows (k ∷ ks) c && not (is_always_live t r c)

-- what a code has of two kinds of cells
abbrev pub of_kind : Kind → Cell → Bool
of_kind Temporary c = is_temporary c
of_kind HighFlag c = is_high_flag c

-- the roles of a machine's registers
pub record AreRolesOf (t : Target) (x : Roles) : Type 0 where
  pub stack : t.sp ≡ x.stack
  pub result : t.result ≡ x.result
  pub general : (n : ℕ) → n < 64 → has_bit x.general n ≡ t.general n
  pub kept : (n : ℕ) → n < 64 → has_bit x.kept n ≡ is_kept t n

-- the registers that are always live, those that a call spares, and that of the result
pub record Stands (t : Target) (r : Routine) (s : Standing) : Type 0 where
  pub always : (n : ℕ) → n < 64 → has_bit s.always n ≡ is_always_live t r (Hard n)
  pub spared : (n : ℕ) → n < 64 → has_bit s.spared n ≡ not (is_lost_by_call t (Hard n))
  pub result : s.result ≡ t.result
