-- Code as the temporary machine sees it: its transfers, without the instructions that make them.
use Rattle.std.specs.Prelude.{ℕ, zero, suc, ◌==◌, if◌then◌else◌, List, [], ◌∷◌, map}
use Rattle.std.specs.Str.{bytes_eq}
use Rattle.temp_machine.specs.Routines.{Exit, Falls, Jumps, Branches, Calls, Returns, BasicBlock, Routine, no_routine, Image}
use Rattle.temp_code.specs.declared.code.End.{End}
use Rattle.temp_code.specs.declared.code.End.TheVariants.{Fall, Jump, Branch, Call, Return}
use Rattle.temp_code.specs.declared.code.Block.{Block}
use Rattle.temp_code.specs.declared.code.Code.{Code}
use Rattle.temp_code.specs.declared.code.Unit.{Unit as Program}

abbrev pub exit_of : End → Exit
exit_of Fall = Falls
exit_of (Jump t) = Jumps t.what
exit_of (Branch t) = Branches t.what
exit_of (Call t) = Calls t.what
exit_of Return = Returns

abbrev pub block_of : Block → BasicBlock
block_of b = record { label = b.label; body = map (λ t. t.what) b.body; exit = exit_of b.end }

abbrev pub routine_of : Code → Routine
routine_of c = record {
  params = c.params;
  frame = c.frame;
  first_home = c.first_home;
  slots = c.slots;
  homes = c.homes;
  blocks = map block_of c.blocks;
}

-- the routine of a function: that of its first code
abbrev pub routine_in : List Code → ℕ → Routine
routine_in [] f = no_routine
routine_in (c ∷ cs) f = if c.function == f then routine_of c else routine_in cs f

-- the number of the function of a name
abbrev pub number_in : List (List ℕ) → List ℕ → ℕ
number_in [] name = zero
number_in (n ∷ ns) name = if bytes_eq n name then zero else suc (number_in ns name)

-- main
abbrev pub main_name : List ℕ
main_name = 109 ∷ 97 ∷ 105 ∷ 110 ∷ []

-- what the temporary machine runs
abbrev pub image_of : Program → Image
image_of u = record { routines = routine_in u.codes; main = number_in u.names.functions main_name; symbols = u.symbols; bytes = u.bytes }
