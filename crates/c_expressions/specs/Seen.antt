-- What the walk's values stand for.
use Rattle.std.specs.Prelude.{ℕ, List, Bool}
use Rattle.c_typing.specs.declared.names.Signature.{Signature}
use Rattle.c_typing.specs.Expressions.{Setting, Within}
use Rattle.c_names.specs.Known.{entries_of}
use Rattle.c_expressions.specs.declared.scene.Scene.{Scene}

abbrev pub within : ℕ → List Signature → Bool → Within
within bits ss included = record { signatures = ss; bits = bits; included = included }

abbrev pub setting_of : ℕ → Scene → Setting
setting_of bits s = record { names = entries_of s.names.now.entries.items; within = within bits s.signatures.now s.included }
