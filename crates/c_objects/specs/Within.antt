-- What the functions of the file stand for.
use Rattle.std.specs.Prelude.{ℕ}
use Rattle.c_typing.specs.Expressions.{Within}
use Rattle.c_expressions.specs.Seen.{within}
use Rattle.c_objects.specs.declared.at.Functions.{Functions}

abbrev pub within_of : ℕ → Functions → Within
within_of bits f = within bits f.signatures.now f.included
