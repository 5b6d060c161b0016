use Rattle.std.proofs.Common.{List, refl, sym, subst}
use Rattle.c_tree.specs.declared.typed.Static.{Static}
use Rattle.temp_code.specs.declared.code.Unit.{Unit as Program}
use Rattle.temp_code.specs.Routines.{image_of}
use Rattle.naive_builder.specs.Appending.{fixed_in}
use Rattle.naive_data.specs.Placed.{IsPlaced}
use Rattle.naive_expand.specs.Codes.{machine_of}
use Rattle.naive_expand.proofs.Codes.{checked_word}
use Rattle.naive_expand.proofs.Whole.{has_room, aligned_at, room_at, naive_code}
use Rattle.naive_expand.proofs.units.expand.Goals as goal

pub place_statics-requires-clause-aligned : goal.place_statics-requires-clause-aligned
place_statics-requires-clause-aligned g c =
    let w = g.W.Word.BITS in
    let d = c.args.m.now in
    let room = has_room w d (fixed_in d c.new-rows.result) c.args.t.now c.targets_are_sound.ensures c.said_is_laid_out.ensures c.have_room.ensures c.word_bits.ensures.checked
    c.new-rows.ensures.frame c.requires in
    aligned_at d.base c.layout.result.base d.word w c.layout.ensures.base (checked_word w d c.word_bits.ensures.checked) room.aligned

pub place_statics-requires-clause-room : goal.place_statics-requires-clause-room
place_statics-requires-clause-room g c =
    let w = g.W.Word.BITS in
    let d = c.args.m.now in
    let room = has_room w d (fixed_in d c.new-rows.result) c.args.t.now c.targets_are_sound.ensures c.said_is_laid_out.ensures c.have_room.ensures c.word_bits.ensures.checked
    c.new-rows.ensures.frame c.requires in
    room_at c.args.t.now.statics c.as_slice.result.now d.base c.layout.result.base d.word w c.layout.ensures.base (checked_word w d c.word_bits.ensures.checked) c.as_slice.ensures
    room.word

pub returns : goal.returns
returns g c =
    let w = g.W.Word.BITS in
    let d = c.args.m.now in
    let m = fixed_in d c.new-rows.result in
    let room = has_room w d m c.args.t.now c.targets_are_sound.ensures c.said_is_laid_out.ensures c.have_room.ensures c.word_bits.ensures.checked
    c.new-rows.ensures.frame c.requires in
    let u : Program = record { codes = c.in_ok-codes.codes; symbols = c.in_ok-data.data.symbols; bytes = c.in_ok-data.data.bytes; names = c.in_ok-names.names } in
    let placed = subst (λ (ss : List Static). IsPlaced (machine_of d m) (image_of u) ss) c.as_slice.ensures
    (c.in_ok-data.ensures.placed (machine_of d m) (image_of u) (checked_word w d c.word_bits.ensures.checked) (sym c.layout.ensures.base) refl refl) in
    naive_code w d m c.args.t.now u
    (record { targets = c.targets_are_sound.ensures; labels = c.all_labels_are_once.ensures; same = c.naive_code_does_the_same.ensures; good = c.units_are_good.ensures })
    c.word_bits.ensures.checked c.new-rows.ensures.frame c.requires room c.in_ok-codes.ensures placed c.in_ok-names.ensures.functions c.in_ok-names.ensures.objects
