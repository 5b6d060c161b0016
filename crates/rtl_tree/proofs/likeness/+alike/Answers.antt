use Rattle.std.proofs.Common.{rules}
use Rattle.rtl_tree.specs.Likeness.{equal, straight, crossed, loads, unaries}
use Rattle.rtl_tree.proofs.AlikeTrees.{of_load, of_unary, of_binary, to_number, of_number, to_symbol, of_symbol, to_label, of_label, to_read, of_read, to_any_number, of_any_number, to_any_name, of_any_name}
use Rattle.rtl_tree.proofs.likeness.+alike.Goals as goal

pub returns-then-ne : goal.returns-then-ne
returns-then-ne t c = search (rules, straight, crossed, loads, unaries, of_load, of_unary, of_binary) depth 7

pub returns-then-alike-2 : goal.returns-then-alike-2
returns-then-alike-2 t c = search (rules, straight, crossed, loads, unaries, of_load, of_unary, of_binary) depth 7

pub returns-then-eq : goal.returns-then-eq
returns-then-eq t c = search (rules, straight, crossed, loads, unaries, of_load, of_unary, of_binary) depth 7

pub returns-then-eq-2 : goal.returns-then-eq-2
returns-then-eq-2 t c = search (rules, straight, crossed, loads, unaries, of_load, of_unary, of_binary) depth 7

pub returns-then-alike-3 : goal.returns-then-alike-3
returns-then-alike-3 t c = search (rules, straight, crossed, loads, unaries, of_load, of_unary, of_binary) depth 7

pub returns-else-alike-3 : goal.returns-else-alike-3
returns-else-alike-3 t c = search (rules, straight, crossed, loads, unaries, of_load, of_unary, of_binary) depth 7

pub returns-in-Num-Num : goal.returns-in-Num-Num
returns-in-Num-Num t c = search (rules, to_number, of_number) depth 7

pub returns-in-Sym-Sym : goal.returns-in-Sym-Sym
returns-in-Sym-Sym t c = search (rules, to_symbol, of_symbol) depth 7

pub returns-in-Label-Label : goal.returns-in-Label-Label
returns-in-Label-Label t c = search (rules, to_label, of_label) depth 7

pub returns-in-Cell-Cell : goal.returns-in-Cell-Cell
returns-in-Cell-Cell t c = search (rules, to_read, of_read) depth 7

pub returns-in-NumHole-NumHole : goal.returns-in-NumHole-NumHole
returns-in-NumHole-NumHole t c = search (rules, to_any_number, of_any_number) depth 7

pub returns-in-NameHole-NameHole : goal.returns-in-NameHole-NameHole
returns-in-NameHole-NameHole t c = search (rules, to_any_name, of_any_name) depth 7

pub returns-in-Lost-Lost : goal.returns-in-Lost-Lost
returns-in-Lost-Lost t c = search (rules, equal)
