-- What the values of the walk over a file stand for.
use Rattle.std.specs.Prelude.{ℕ, Bool, [], List}
use Rattle.c_tree.specs.declared.types.CType.TheVariants as type
use Rattle.c_typing.specs.Functions.{Heading}
use Rattle.c_typing.specs.Program as spec
use Rattle.c_names.specs.Known.{entries_of}
use Rattle.c_functions.specs.declared.file.File.{File}
use Rattle.c_functions.specs.declared.parameters.Params.{Params}

abbrev pub file_of : File → spec.File
file_of f = record { names = entries_of f.names.entries.items; statics = f.statics; above = f.above; definitions = f.definitions; included = f.included }

abbrev pub params_of : Params → spec.Params
params_of p = record { names = entries_of p.names.entries.items; objects = p.objects }

-- a heading of which the name alone counts, and whether it defines
abbrev pub of_name : List ℕ → Bool → Heading
of_name n b = record { name = n; result = type.Void; params = []; defines = b }
