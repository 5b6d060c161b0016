use Rattle.std.proofs.Common.{ap, length}
use Rattle.vp_io.proofs.Bytes.{front_given, none_left}
use Rattle.vp_io.proofs.memory_source.MemSourceSource.read.Goals as goal

pub returns-clause-bytes : goal.returns-clause-bytes
returns-clause-bytes c =
    let bytes = c.args.self.now.bytes.items in
    let gave = c.copy_piece-count.ensures in
    let at = c.args.self.now.taken in (
      front_given bytes c.deref.result.now c.copy_piece-count.new.into at c.copy_piece-count.result c.deref.ensures.value gave.bytes,
      λ zero _. none_left bytes (length c.args.into.now) c.args.self.now.piece at c.copy_piece-count.result (length c.deref.result.now) gave.count (ap length c.deref.ensures.value) c.requires.room c.args.self.now.piece_is_some zero,
    )
