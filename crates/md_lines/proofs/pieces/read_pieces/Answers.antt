use Rattle.std.proofs.Common.{map, refl, rules}
use Rattle.md_lines.specs.Seen.{piece_of}
use Rattle.md_lines.proofs.PiecesRead.{space_taken, piece_taken, piece_shorter, no_more, no_pieces_read, read_to_end, no_items, some_items}
use Rattle.md_lines.proofs.pieces.read_pieces.Goals as goal

pub loop-first-preserved-then-first-eq32 : goal.loop-first-preserved-then-first-eq32
loop-first-preserved-then-first-eq32 c =
    space_taken c.args.text.now c.loop-first.rest.now c.in-Some.first.now (map piece_of c.loop-first.pieces.items) c.in-Some.ensures.value c.if-first-eq32.true c.loop-first.invariant

pub returns-in_default-piece_at-clause-refused : goal.returns-in_default-piece_at-clause-refused
returns-in_default-piece_at-clause-refused c = λ e ps s.
    no_more c.args.text.now c.loop-first.rest.now c.in-Some.first.now (map piece_of c.loop-first.pieces.items) c.in-Some.ensures.value c.if-first-eq32.false c.in_default-piece_at.ensures.none c.loop-first.invariant ps s

pub loop-first-smaller : goal.loop-first-smaller
loop-first-smaller c = piece_shorter c.loop-first.rest.now (piece_of c.in-Some-piece_at.piece) c.in-Some-piece_at.length c.in-Some-piece_at.ensures.found

pub loop-first-preserved : goal.loop-first-preserved
loop-first-preserved c =
    piece_taken c.args.text.now c.loop-first.rest.now c.in-Some-piece_at.piece c.in-Some-piece_at.length c.loop-first.pieces.items c.push.new.self.items
    c.in_ok-push.ensures.items c.in-Some-piece_at.ensures.found c.loop-first.invariant

pub returns-then-is_empty-clause-refused : goal.returns-then-is_empty-clause-refused
returns-then-is_empty-clause-refused c = λ e ps s.
    no_pieces_read c.args.text.now c.loop-first.rest.now (map piece_of c.loop-first.pieces.items) c.in_default.ensures.value
    (no_items c.loop-first.pieces.items (search rules)) c.loop-first.invariant ps s

pub returns-clause-found : goal.returns-clause-found
returns-clause-found c =
    read_to_end c.args.text.now c.loop-first.rest.now (map piece_of c.loop-first.pieces.items) c.in_default.ensures.value (some_items c.loop-first.pieces.items (search rules))
    (search rules) c.loop-first.invariant
