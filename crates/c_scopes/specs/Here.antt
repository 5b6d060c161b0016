-- What the state of the walk stands for.
use Rattle.std.specs.Prelude.{[]}
use Rattle.c_typing.specs.Statements.{Here}
use Rattle.c_names.specs.declared.names.Names.{Names}
use Rattle.c_names.specs.Known.{entries_of}
use Rattle.c_scopes.specs.declared.state.State.{State}

-- where names alone count
abbrev pub at_names : Names → Here
at_names n = record { names = entries_of n.entries.items; locals = []; labels = [] }

abbrev pub here_of : State → Here
here_of s = record { names = entries_of s.names.entries.items; locals = s.locals; labels = s.labels }
