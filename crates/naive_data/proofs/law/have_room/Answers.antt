use Rattle.naive_data.proofs.Room.{have_room}
use Rattle.naive_data.proofs.law.have_room.Goals as goal

pub returns : goal.returns
returns c = have_room
