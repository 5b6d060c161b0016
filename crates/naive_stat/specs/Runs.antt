-- The code of statements as it is appended.
use Rattle.std.specs.Prelude.{List, map}
use Rattle.c_tree.specs.declared.typed.Object.{Object}
use Rattle.c_tree.specs.declared.typed.Stat.{Stat}
use Rattle.naive_code.specs.Expressions.{Site}
use Rattle.naive_code.specs.Statements as code
use Rattle.naive_expr.specs.declared.emission.Emitter.{Emitter}
use Rattle.naive_expr.specs.Emitted.{Adds}
use Rattle.naive_stat.specs.declared.statements.Around.{Around}

abbrev pub around_of : Around → code.Around
around_of a = record { breaks = a.breaks; continues = a.continues }

-- what a statement does was appended
abbrev pub Runs : (old new : Emitter) → code.Steps → code.Around → Type 0
Runs old new p a = Adds old new (p.ops a old.next_temp old.next_label) p.depths p.temps p.labels

-- the statements of a block
abbrev pub block_steps : Site → List Object → List Stat → code.Steps
block_steps c locals ss = code.all_joined (map (code.steps_of c locals) ss)
