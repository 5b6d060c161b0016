-- The law of first instances.
use Rattle.std.specs.Prelude.{◌≡◌, List}
use Rattle.rtl_tree.specs.Moves.{Move}
use Rattle.rtl_tree.specs.Sets.{CellBits}
use Rattle.md_rows.specs.declared.description.RawDescription.{RawDescription}
use Rattle.md_rows.specs.declared.instance.Instance.{Instance}
use Rattle.recogniser.specs.Recognising.{IsFirst}

-- no two instances are the first that does a transfer
abbrev pub AtMostOneFirst : Type 0
AtMostOneFirst = (d : RawDescription) (dead : CellBits) (es : List Move) (i j : Instance) → IsFirst d dead es i → IsFirst d dead es j → i ≡ j
