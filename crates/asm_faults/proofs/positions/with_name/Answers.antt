use Rattle.asm_faults.proofs.NameSets.{put}
use Rattle.asm_faults.proofs.positions.with_name.Goals as goal

pub returns : goal.returns
returns c ns h =
    put ns c.args.name.now c.args.names c.insert.new.self c.in_ok-insert.field-0 h c.in_ok-insert.ensures.added c.in_ok-insert.ensures.len
    (λ q. c.in_ok-insert.ensures.updates.0 (record { ref_ptr = (0, 0); now = q }))
