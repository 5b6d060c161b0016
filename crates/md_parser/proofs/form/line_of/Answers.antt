use Rattle.md_parser.proofs.KindsOfLines.{for_bits}
use Rattle.md_parser.proofs.form.line_of.Goals as goal

pub returns-in-Version-clause-found : goal.returns-in-Version-clause-found
returns-in-Version-clause-found c = for_bits c.args.bits c.args.line.now c.version.result c.version.ensures.found

pub returns-in-MachineName-clause-found : goal.returns-in-MachineName-clause-found
returns-in-MachineName-clause-found c = for_bits c.args.bits c.args.line.now c.machine_name.result c.machine_name.ensures.found

pub returns-in-WordBits-clause-found : goal.returns-in-WordBits-clause-found
returns-in-WordBits-clause-found c = for_bits c.args.bits c.args.line.now c.word_bits.result c.word_bits.ensures.found

pub returns-in-MemorySize-clause-found : goal.returns-in-MemorySize-clause-found
returns-in-MemorySize-clause-found c = for_bits c.args.bits c.args.line.now c.memory_size.result c.memory_size.ensures.found

pub returns-in-DataBegin-clause-found : goal.returns-in-DataBegin-clause-found
returns-in-DataBegin-clause-found c = for_bits c.args.bits c.args.line.now c.data_begin.result c.data_begin.ensures.found

pub returns-in-StackSize-clause-found : goal.returns-in-StackSize-clause-found
returns-in-StackSize-clause-found c = for_bits c.args.bits c.args.line.now c.stack_size.result c.stack_size.ensures.found

pub returns-in-Register-clause-found : goal.returns-in-Register-clause-found
returns-in-Register-clause-found c = for_bits c.args.bits c.args.line.now c.register_line.result c.register_line.ensures.found

pub returns-in-Flag-clause-found : goal.returns-in-Flag-clause-found
returns-in-Flag-clause-found c = for_bits c.args.bits c.args.line.now c.flag_line.result c.flag_line.ensures.found

pub returns-in-Class-clause-found : goal.returns-in-Class-clause-found
returns-in-Class-clause-found c = for_bits c.args.bits c.args.line.now c.class_line.result c.class_line.ensures.found

pub returns-in-Mode-clause-refused : goal.returns-in-Mode-clause-refused
returns-in-Mode-clause-refused c = rw c.in-Mode.is c.mode_line.ensures.refused

pub returns-in-Row-clause-refused : goal.returns-in-Row-clause-refused
returns-in-Row-clause-refused c = rw c.in-Row.is c.row_line.ensures.refused
