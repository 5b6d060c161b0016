-- The loop of `while(a)b=1;` among its operations.
use Rattle.std.specs.Prelude.{[], ◌∷◌, List}
use Rattle.rtl_word.specs.declared.Rel.TheVariants.{Eq}
use Rattle.naive_code.specs.Operations.{Jumps, Branches, Op, Close, copy, constant}
use Rattle.naive_code.specs.Worked.{stat_ops, while, name, assign, number}
use Rattle.naive_builder.specs.Appending.{opened}
use Rattle.naive_builder.specs.Finished.{AreOnce}
use Rattle.naive_loops.specs.Loops.{HasLoop}

abbrev pub operations : List Op
operations = stat_ops (while (name 0) (assign (name 1) (number 1)))

abbrev pub turn : List Op
turn = copy 4 0 ∷ constant 5 0 ∷ Close (Branches Eq 4 5 10) 12 ∷ constant 6 1 ∷ copy 1 6 ∷ []

-- the function's first block has label 9
pub record PremisesAreMet : Type 0 where
  pub once : AreOnce (9 ∷ opened operations)
  pub loop : HasLoop operations [] turn [] 11 (Jumps 11) 10
