-- Looks at the blocks of a code, from the last on.
use Rattle.std.proofs.Common.{◌≡◌, ◌⊎◌, inl, inr, ℕ, zero, suc, ◌<◌, ◌≤◌, Bool, true, false, List, [], ◌∷◌, length, refl, sym, ap, subst, ◌∙◌, arith}
use Rattle.std.specs.Prelude.{◌||◌, ◌++◌, slice_set, Contains}
use Rattle.std.proofs.lemmas.Option.{none-some, same_Some}
use Rattle.std.proofs.lemmas.List.{get_or-set_same, get_or-set_other}
use Rattle.rtl_tree.specs.Sets.{has_cell}
use Rattle.std.proofs.lemmas.Bool.{false≢true, both_ways, or_parts, cases_eq, false_from_ne_true}
use Rattle.rtl_tree.specs.declared.cells.Cell.{Cell}
use Rattle.temp_machine.specs.Routines.{Routine, Target}
use Rattle.temp_code.specs.declared.code.Code.{Code}
use Rattle.temp_code.specs.Routines.{routine_of}
use Rattle.flow_blocks.specs.declared.flows.Flow.{Flow}
use Rattle.flow_blocks.specs.Flows.{IsFlow, previous_at}
use Rattle.flow_live.specs.declared.rows.Row.{Row}
use Rattle.flow_live.specs.declared.settling.Settling.{Settling}
use Rattle.flow_live.specs.declared.standing.Standing.{Standing}
use Rattle.flow_live.specs.Walks.{HasLowFlags, Stands, dead_at}
use Rattle.flow_live.specs.Settled.{AreBegins, AreFull, FitsCode, HaveWords, IsSettling, LooksAt, is_waiting, total}
use Rattle.flow_live.specs.Rows.{bits_in, is_held}
use Rattle.flow_live.proofs.Closing.{sound_look, begins_settled, some_at}
use Rattle.flow_live.proofs.Stepping.{low_block, closed_step, still_keeps, fell_keeps, waiting_less}

-- what a call keeps of rows on the way
abbrev pub Keeps_settling : Code → Flow → Standing → Settling → Settling → Type 0
Keeps_settling code flow standing old new =
    (t : Target) (words : ℕ) → Stands t (routine_of code) standing → HasLowFlags (routine_of code)
    → IsFlow t.word (routine_of code) flow → IsSettling t (routine_of code) words old → IsSettling t (routine_of code) words new

-- the blocks from position `at` on were looked at
pub record Sweeps (code : Code) (flow : Flow) (standing : Standing) (at : ℕ) (old new : Settling) (fell : Bool) : Type 0 where
  pub within : at ≤ length code.blocks
  pub fits : FitsCode code new
  pub falls : fell ≡ true → total new.begins.items < total old.begins.items
  pub kept : fell ≡ false → total new.begins.items ≤ total old.begins.items
  pub clean : fell ≡ false → (j : ℕ) → at ≤ j → j < length code.blocks → is_waiting new.waiting.items j ≡ false
  pub goes : Keeps_settling code flow standing old new

pub sweeps_first : (code : Code) (flow : Flow) (standing : Standing) (s : Settling) → FitsCode code s → Sweeps code flow standing (length code.blocks) s s false
sweeps_first code flow standing s fits = record {
  within = omega arith;
  fits = fits;
  falls = λ e. absurd (false≢true e);
  kept = λ e. omega arith;
  clean = λ e j l m. absurd (omega (arith, l, m));
  goes = λ t words stands low is settling. settling;
}

-- one block more
pub sweeps_more : (code : Code) (flow : Flow) (standing : Standing) (at : ℕ) (old mid new : Settling) (fell here : Bool) → Sweeps code flow standing (suc at) old mid fell
    → FitsCode code new → (here ≡ true → total new.begins.items < total mid.begins.items) → (here ≡ false → total new.begins.items ≤ total mid.begins.items)
    → (here ≡ false → (j : ℕ) → (is_waiting mid.waiting.items j ≡ false) ⊎ (j ≡ at) → is_waiting new.waiting.items j ≡ false)
    → Keeps_settling code flow standing mid new → Sweeps code flow standing at old new (here || fell)
sweeps_more code flow standing at old mid new fell here s fits falls kept quiet goes = record {
  within = let l = s.within in omega (arith, l);
  fits = fits;
  falls = less;
  kept = λ e. let p = or_parts here fell e in let l = kept p.0 in let m = s.kept p.1 in omega (arith, l, m);
  clean = λ e j l m. let p = or_parts here fell e in quiet p.0 j (before p.1 j l m);
  goes = λ t words stands low is settling. goes t words stands low is (s.goes t words stands low is settling);
}
  where
    at_most : (b : Bool) → fell ≡ b → total mid.begins.items ≤ total old.begins.items
    at_most true e = let l = s.falls e in omega (arith, l)
    at_most false e = s.kept e

    less_by : (b : Bool) → here ≡ b → (b || fell) ≡ true → total new.begins.items < total old.begins.items
    less_by true e f = let l = falls e in let m = at_most fell refl in omega (arith, l, m)
    less_by false e f = let l = kept e in let m = s.falls f in omega (arith, l, m)

    less : (here || fell) ≡ true → total new.begins.items < total old.begins.items
    less e = less_by here refl e

    before : fell ≡ false → (j : ℕ) → at ≤ j → j < length code.blocks → (is_waiting mid.waiting.items j ≡ false) ⊎ (j ≡ at)
    before e j l m = by (cases_eq j at)
      where
        by : (j ≡ at) ⊎ (j ≡ at → ⊥) → (is_waiting mid.waiting.items j ≡ false) ⊎ (j ≡ at)
        by (inl f) = inr f
        by (inr ne) = inl (s.clean e j (omega (arith, l, ne)) m)

-- a look at a block where nothing fell out
pub step_still : (code : Code) (flow : Flow) (standing : Standing) (old new : Settling) (at : ℕ) → at < length (routine_of code).blocks
    → new.waiting.items ≡ slice_set old.waiting.items at false → length new.row.temporaries.items ≡ length old.row.temporaries.items
    → ((k : ℕ) (c : Cell) → dead_at new.begins.items k c ≡ dead_at old.begins.items k c)
    → ((t : Target) (words : ℕ) → Stands t (routine_of code) standing → IsFlow t.word (routine_of code) flow → HaveWords words old.begins.items
    → length old.row.temporaries.items ≡ words → LooksAt t (routine_of code) words at old.begins.items new.begins.items)
    → Keeps_settling code flow standing old new
step_still code flow standing old new at l marks row same looks t words stands low flows s = record {
  sized = look.sized;
  row = row ∙ s.row;
  sound = λ k c h e. s.sound k c h (sym (same k c) ∙ e);
  closed = closed_step t (routine_of code) words old.begins.items new.begins.items at old.waiting.items new.waiting.items look
      (λ j m e. (
        still_keeps t (routine_of code) words old.begins.items new.begins.items same j,
        waiting_less old.waiting.items at j (subst (λ (ws : List Bool). is_waiting ws j ≡ false) marks e),
      )) s.closed;
}
  where
    look : LooksAt t (routine_of code) words at old.begins.items new.begins.items
    look = looks t words stands flows s.sized s.row

-- and where something did, with its predecessors marked
pub step_fell : (code : Code) (flow : Flow) (standing : Standing) (old new : Settling) (at : ℕ) → at < length (routine_of code).blocks
    → length new.waiting.items ≡ length (routine_of code).blocks → length new.row.temporaries.items ≡ length old.row.temporaries.items
    → ((k : ℕ) → is_waiting (slice_set old.waiting.items at false) k ≡ true → is_waiting new.waiting.items k ≡ true)
    → ((k : ℕ) → k < length new.waiting.items → Contains (previous_at flow at) k → is_waiting new.waiting.items k ≡ true)
    → ((t : Target) (words : ℕ) → Stands t (routine_of code) standing → IsFlow t.word (routine_of code) flow → HaveWords words old.begins.items
    → length old.row.temporaries.items ≡ words → LooksAt t (routine_of code) words at old.begins.items new.begins.items)
    → Keeps_settling code flow standing old new
step_fell code flow standing old new at l long row marked set looks t words stands low flows s = record {
  sized = look.sized;
  row = row ∙ s.row;
  sound = let found = some_at (routine_of code).blocks at l in
      sound_look t (routine_of code) words old.begins.items new.begins.items at found.0 found.1 (low_block (routine_of code) low at found.0 found.1) look s.sound;
  closed = closed_step t (routine_of code) words old.begins.items new.begins.items at old.waiting.items new.waiting.items look
      (λ j m e. (
        fell_keeps t (routine_of code) words old.begins.items new.begins.items at flow new.waiting.items look flows l long set j m e,
        waiting_less old.waiting.items at j (unmarked j e),
      )) s.closed;
}
  where
    look : LooksAt t (routine_of code) words at old.begins.items new.begins.items
    look = looks t words stands flows s.sized s.row

    unmarked : (j : ℕ) → is_waiting new.waiting.items j ≡ false → is_waiting (slice_set old.waiting.items at false) j ≡ false
    unmarked j e = false_from_ne_true (is_waiting (slice_set old.waiting.items at false) j) (λ f. both_ways (is_waiting new.waiting.items j) e (marked j f))

-- at first each block waits, and all rows are full

pub settling_begun : (t : Target) (r : Routine) (words : ℕ) (s : Settling) → HaveWords words s.begins.items → length s.row.temporaries.items ≡ words → AreFull words s.begins.items
    → ((k : ℕ) → k < length r.blocks → is_waiting s.waiting.items k ≡ true) → IsSettling t r words s
settling_begun t r words s sized row full all = record {
  sized = sized;
  row = row;
  sound = λ k c h e. absurd (both_ways (dead_at s.begins.items k c) e (full k c h));
  closed = λ k l e. absurd (both_ways (is_waiting s.waiting.items k) e (all k l));
}

-- in the end none waits
pub settling_done : (t : Target) (r : Routine) (words : ℕ) (s : Settling) → IsSettling t r words s → ((k : ℕ) → k < length r.blocks → is_waiting s.waiting.items k ≡ false)
    → AreBegins t r words s.begins.items
settling_done t r words s settling none = begins_settled t r words s.begins.items settling.sound (λ k l. settling.closed k l (none k l))

-- rows and marks that are put in

pub words_push : (words : ℕ) (rows : List Row) (row : Row) → HaveWords words rows → length row.temporaries.items ≡ words → HaveWords words (rows ++ row ∷ [])
words_push words [] row sized e zero z h = subst (λ (x : Row). length x.temporaries.items ≡ words) (same_Some row z h) e
words_push words [] row sized e (suc k) z h = absurd (none-some z h)
words_push words (x ∷ xs) row sized e zero z h = sized 0 z h
words_push words (x ∷ xs) row sized e (suc k) z h = words_push words xs row (λ j y g. sized (suc j) y g) e k z h

pub full_push : (words : ℕ) (rows : List Row) (row : Row) → AreFull words rows → ((c : Cell) → is_held words c ≡ true → has_cell (bits_in row) c ≡ true) → AreFull words (rows ++ row ∷ [])
full_push words [] row full f zero c h = f c h
full_push words [] row full f (suc k) c h = refl
full_push words (x ∷ xs) row full f zero c h = full 0 c h
full_push words (x ∷ xs) row full f (suc k) c h = full_push words xs row (λ j y g. full (suc j) y g) f k c h

pub marked_more : (ws : List Bool) (at k : ℕ) → at < length ws → is_waiting ws k ≡ true → is_waiting (slice_set ws at true) k ≡ true
marked_more ws at k l e = by (cases_eq k at)
  where
    by : (k ≡ at) ⊎ (k ≡ at → ⊥) → is_waiting (slice_set ws at true) k ≡ true
    by (inl f) = ap (is_waiting (slice_set ws at true)) f ∙ get_or-set_same ws at true false l
    by (inr ne) = get_or-set_other ws at k true false ne ∙ e

pub marked_here : (ws : List Bool) (at : ℕ) → at < length ws → is_waiting (slice_set ws at true) at ≡ true
marked_here ws at l = get_or-set_same ws at true false l
