use Rattle.rtl_tree.specs.Sets.{bits_of}
use Rattle.recogniser.specs.Searching.{HasBitsBelow}
use Rattle.recogniser.proofs.flags.flags_of.Given as goal

-- the bits so far
abbrev pub invariant-loop-flag : goal.invariant-loop-flag
invariant-loop-flag l = HasBitsBelow (bits_of l.fn.set).flags l.flags l.flag
