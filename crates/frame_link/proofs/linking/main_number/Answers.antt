use Rattle.std.proofs.Common.{sym}
use Rattle.temp_code.specs.Routines.{main_name}
use Rattle.frame_link.proofs.Numbers.{number_there, number_is}
use Rattle.frame_link.proofs.linking.main_number.Goals as goal

pub unreachable-requires : goal.unreachable-requires
unreachable-requires c = c.in-None.ensures (number_there c.args.names.now.functions main_name c.requires)

pub returns : goal.returns
returns c = sym (number_is c.args.names.now.functions c.in-Some.number main_name c.len-count.ensures.names.different c.in-Some.ensures)
