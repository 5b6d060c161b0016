-- A scope that is left.
use Rattle.std.specs.Prelude.{ℕ, take}
use Rattle.c_typing.specs.Statements.{Here}

-- of the names that were declared before it those at the front stay; objects and labels are those of its end
abbrev pub left : ℕ → Here → Here → Here
left start h inner = record { names = take start h.names; locals = inner.locals; labels = inner.labels }
