-- Trees that stand on the stack, and the search that compares a row with them.
use Rattle.std.specs.Prelude.{ℕ, ◌+◌, List, map, drop, length, Option}
use Rattle.rtl_word.specs.Words.{IsWordSize}
use Rattle.rtl_tree.specs.Trees.{Tree, Number as NumberTree, Symbol as SymbolTree, CodeLabel, Read, Load, Unary, Binary, tree_of}
use Rattle.rtl_tree.specs.Moves.{Goal, ToCell, ToMemory, Move}
use Rattle.md_match.specs.Slots.{Slots, fit_of}
use Rattle.md_match.specs.Find.{find, size}
use Rattle.md_match.specs.Searches.{Search, match_all, moves_size}
use Rattle.md_match.specs.Does.{IsRow}
use Rattle.md_shapes.specs.declared.drawing.Drawn.{Drawn}
use Rattle.md_shapes.specs.declared.drawing.Drawn.TheVariants.{Number, Symbol, Label, Cell, Mem', Un', Bin'}
use Rattle.md_shapes.specs.declared.drawing.DrawnPlace.{DrawnPlace}
use Rattle.md_shapes.specs.declared.drawing.DrawnPlace.TheVariants.{Cell as At, Mem as MemAt}
use Rattle.md_shapes.specs.declared.drawing.DrawnMove.{DrawnMove}
use Rattle.md_shapes.specs.declared.search.Subject.{Subject}
use Rattle.md_shapes.specs.declared.figures.Frame.{Frame}
use Rattle.md_shapes.specs.declared.search.Todo.{Todo}
use Rattle.md_shapes.specs.declared.search.Todo.TheVariants.{Done, Pair'}
use Rattle.md_shapes.specs.Shapes.{Frame as FrameOf}

abbrev pub drawn_tree : Drawn → Tree
drawn_tree (Number n) = NumberTree n
drawn_tree (Symbol n) = SymbolTree n
drawn_tree (Label l) = CodeLabel l
drawn_tree (Cell c) = Read c
drawn_tree (Mem' w p a) = Load w (drawn_tree a)
drawn_tree (Un' o p a) = Unary o (drawn_tree a)
drawn_tree (Bin' o p a q b) = Binary o (drawn_tree a) (drawn_tree b)

abbrev pub drawn_goal : DrawnPlace → Goal
drawn_goal (At c) = ToCell c
drawn_goal (MemAt w a) = ToMemory w (drawn_tree a.now)

abbrev pub drawn_move : DrawnMove → Move
drawn_move m = record { to = drawn_goal m.to; value = drawn_tree m.value }

-- a row against a shape: its other assignments may go to any flag, and name no general register by its number
abbrev pub search_of : Subject → Search
search_of t = record {
  fit = fit_of t.bits t.general t.holes.now;
  count = length t.holes.now;
  flags = 255;
  barred = t.general;
  row = t.row.now;
}

abbrev pub rest : Search → List DrawnMove → Todo → Slots → Option Slots
rest t es (Done i used) s = match_all t (map drawn_move (drop i es)) used s
rest t es (Pair' r e p todo) s = find t.fit (tree_of r.now) (drawn_tree e.now) (rest t es todo) s

abbrev pub todo_size : List DrawnMove → Todo → ℕ
todo_size es (Done i used) = 1 + moves_size (map drawn_move (drop i es))
todo_size es (Pair' r e p t) = 1 + size (drawn_tree e.now) + todo_size es t

pub record IsSubject (t : Subject) : Type 0 where
  pub size : IsWordSize t.bits
  pub row : IsRow t.holes.now t.row.now

abbrev pub frame_of : ℕ → Frame → FrameOf
frame_of w f = record { bits = w; stack = f.stack; result = f.result; link = f.link; memory = f.memory }
