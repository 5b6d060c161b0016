-- The search as the code makes it: what is still to be compared stands in a list.
use Rattle.std.specs.Prelude.{ℕ, Bool, ◌+◌, List, drop, length, Option}
use Rattle.rtl_word.specs.Words.{IsWordSize}
use Rattle.rtl_tree.specs.Trees.{tree_of}
use Rattle.rtl_tree.specs.Moves.{Move}
use Rattle.md_match.specs.Slots.{Slots, fit_of}
use Rattle.md_match.specs.Find.{find, size}
use Rattle.md_match.specs.Searches.{Search, is_idle, match_all, moves_size}
use Rattle.md_match.specs.Does.{IsRow}
use Rattle.md_match.specs.declared.search.Task.{Task}
use Rattle.md_match.specs.declared.search.Todo.{Todo}
use Rattle.md_match.specs.declared.search.Todo.TheVariants.{Done, Pair'}

abbrev pub search_of : Task → Search
search_of t = record {
  fit = fit_of t.bits t.general t.holes.now;
  count = length t.holes.now;
  flags = t.flags;
  barred = t.barred;
  row = t.row.now;
}

-- what the assignments without a mark must be
abbrev pub idle_of : Task → Move → Bool
idle_of t = is_idle t.flags t.barred

-- goes on with what is left
abbrev pub rest : Search → List Move → Todo → Slots → Option Slots
rest t es (Done i used) s = match_all t (drop i es) used s
rest t es (Pair' r e p todo) s = find t.fit (tree_of r.now) (tree_of e.now) (rest t es todo) s

abbrev pub todo_size : List Move → Todo → ℕ
todo_size es (Done i used) = 1 + moves_size (drop i es)
todo_size es (Pair' r e p t) = 1 + size (tree_of e.now) + todo_size es t

pub record IsTask (t : Task) : Type 0 where
  pub size : IsWordSize t.bits
  pub row : IsRow t.holes.now t.row.now
