-- What some programs do, worked out by hand, at words of 16 bits and 8 bytes of memory.
use Rattle.std.specs.Prelude.{◌≡◌, List, [], ◌∷◌}
use Rattle.behaviour.specs.Behaviour.{Running, Ended, Failed, Trapped}
use Rattle.rtl_tree.specs.Trees.{Tree, Number, Read, Load, Unary, Binary}
use Rattle.rtl_tree.specs.Moves.{ToCell, Move}
use Rattle.rtl_tree.specs.declared.cells.Cell.{Cell}
use Rattle.rtl_tree.specs.declared.cells.Cell.TheVariants.{Hard, Flag, Pc, Input, Output, Halt}
use Rattle.rtl_tree.specs.declared.expressions.Width.TheVariants.{Byte}
use Rattle.rtl_tree.specs.declared.expressions.UnOp.TheVariants.{Test}
use Rattle.rtl_tree.specs.declared.expressions.BinOp.TheVariants.{Div}
use Rattle.rtl_word.specs.declared.Rel.TheVariants.{Eq}
use Rattle.machine_run.specs.Machine.{Code, machine_run}

-- an instruction of one assignment to a cell
abbrev sets : Cell → Tree → List Move
sets c t = record { to = ToCell c; value = t } ∷ []

-- a program of these instructions, with the bytes 7 and 200 at address 4
abbrev program : List (List Move) → Code
program transfers = record { word = 16; size = 8; base = 4; bytes = 7 ∷ 200 ∷ []; symbols = []; labels = []; transfers = transfers }

-- r[0] = IN; OUT = r[0]; r[0] = IN; OUT = r[0]; HALT = 259
abbrev reads_twice : Code
reads_twice = program (sets (Hard 0) (Read Input) ∷ sets Output (Read (Hard 0)) ∷ sets (Hard 0) (Read Input) ∷ sets Output (Read (Hard 0)) ∷ sets Halt (Number 259) ∷ [])

-- the input is one byte; behind it there is -1, whose low byte is printed
abbrev pub ReadsPastTheEnd : Type 0
ReadsPastTheEnd =
    (machine_run reads_twice (65 ∷ []) 0 ≡ Running [])
    × (machine_run reads_twice (65 ∷ []) 2 ≡ Running (65 ∷ []))
    × (machine_run reads_twice (65 ∷ []) 4 ≡ Running (65 ∷ 255 ∷ []))
    × (machine_run reads_twice (65 ∷ []) 5 ≡ Ended (65 ∷ 255 ∷ []) 3)
    × (machine_run reads_twice (65 ∷ []) 6 ≡ Ended (65 ∷ 255 ∷ []) 3)

-- memory holds the data at their address and 0 beside them: OUT = B[3]; OUT = B[4]; OUT = B[5]; OUT = B[6]
abbrev pub HoldsData : Type 0
HoldsData =
    machine_run (program (sets Output (Load Byte (Number 3)) ∷ sets Output (Load Byte (Number 4)) ∷ sets Output (Load Byte (Number 5)) ∷ sets Output (Load Byte (Number 6)) ∷ [])) [] 4
    ≡ Running (0 ∷ 7 ∷ 200 ∷ 0 ∷ [])

-- a trap keeps its place, and what was printed stays: OUT = 7; r[0] = (1 div r[1])
abbrev pub TrapKeepsPlace : Type 0
TrapKeepsPlace =
    machine_run (program (sets Output (Number 7) ∷ sets (Hard 0) (Binary Div (Number 1) (Read (Hard 1))) ∷ [])) [] 2
    ≡ Failed (7 ∷ []) (Trapped 1 1)

-- behind the last instruction, at a jump to 9, and in a program without instructions there is none
abbrev pub TrapsWithoutInstruction : Type 0
TrapsWithoutInstruction =
    (machine_run (program (sets Output (Number 7) ∷ [])) [] 2 ≡ Failed (7 ∷ []) (Trapped 6 1))
    × (machine_run (program (sets Pc (Number 9) ∷ [])) [] 2 ≡ Failed [] (Trapped 6 9))
    × (machine_run (program []) [] 1 ≡ Failed [] (Trapped 6 0))

-- no flag may be tested before it is set: r[0] = (f[0] == 0)
abbrev pub FlagsAreLost : Type 0
FlagsAreLost = machine_run (program (sets (Hard 0) (Unary (Test Eq) (Read (Flag 0))) ∷ [])) [] 1 ≡ Failed [] (Trapped 5 0)

-- the program counter reads as the number of the next instruction: OUT = PC; OUT = PC
abbrev pub CounterIsNext : Type 0
CounterIsNext = machine_run (program (sets Output (Read Pc) ∷ sets Output (Read Pc) ∷ [])) [] 2 ≡ Running (1 ∷ 2 ∷ [])
