-- Types one by one.
use Rattle.std.specs.Prelude.{Bool, false, Option, Some, None}
use Rattle.c_tree.specs.declared.types.CType.{CType}
use Rattle.c_typing.specs.Types.{same_type}

abbrev pub is_type : CType → Option CType → Bool
is_type t None = false
is_type t (Some u) = same_type t u
