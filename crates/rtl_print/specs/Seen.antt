-- What a transfer is printed by, without references.
use Rattle.std.specs.Prelude.{ℕ, []}
use Rattle.rtl_tree.specs.declared.c_names.Names.{Names}
use Rattle.rtl_spelling.specs.Spelling.{Context}
use Rattle.rtl_print.specs.declared.context.Context.{Context as Borrowing}

-- a printer fills no holes
abbrev pub printing_context : ℕ → Names → Context
printing_context w n = record { width = w; objects = n.objects; functions = n.functions; holes = [] }

abbrev pub context_of : Borrowing → Context
context_of c = printing_context c.bits c.names.now
