use Rattle.naive_loops.proofs.Blocks.{built_has}
use Rattle.naive_loops.proofs.laws.built_has_loop.Goals as goal

pub returns : goal.returns
returns c w d m label os before inside behind first back next code checked fixed once has built =
    built_has w d m checked c.jumps_go.ensures c.branches_go.ensures c.flag_branches_go.ensures label before inside behind first back next os code once has built
