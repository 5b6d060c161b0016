use Rattle.md_check.proofs.checked.check.Goals as goal

pub reason_of_rows-requires : goal.reason_of_rows-requires
reason_of_rows-requires g c = record { sound = c.said_is_sound.ensures c.requires.said.text c.args.raw c.requires.said.says }

pub check_shapes-requires-clause-sound : goal.check_shapes-requires-clause-sound
check_shapes-requires-clause-sound g c = c.said_is_sound.ensures c.requires.said.text c.args.raw c.requires.said.says
