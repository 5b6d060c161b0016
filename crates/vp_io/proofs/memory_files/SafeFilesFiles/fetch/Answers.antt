use Rattle.std.proofs.Common.{◌≡◌, Some, None, position, sym, ap, ◌∙◌, subst}
use Rattle.vp_io.specs.Files.{Gives}
use Rattle.vp_io.specs.MemoryFiles.{has_name}
use Rattle.vp_io.proofs.Entries.{gives_none, bytes_at, same_place}
use Rattle.vp_io.proofs.memory_files.SafeFilesFiles.fetch.Goals as goal

pub returns-in_default-clause-bytes : goal.returns-in_default-clause-bytes
returns-in_default-clause-bytes c =
    gives_none c.args.self.now.entries.items c.args.name.now c.args.at c.args.into.now
    (same_place _ _ _ _ _ None c.place_of.ensures c.as_bytes.ensures.value c.deref.ensures.value c.in_default.is)

pub returns-clause-bytes : goal.returns-clause-bytes
returns-clause-bytes c =
    let entries = c.args.self.now.entries.items in
    let placed : position (has_name c.args.name.now) entries ≡ Some c.in-Some.place =
    same_place _ _ _ _ _ (Some c.in-Some.place) c.place_of.ensures c.as_bytes.ensures.value c.deref.ensures.value c.in-Some.is in
    subst (λ bytes. Gives bytes c.args.at c.file_piece.result c.file_piece.new.into)
    (c.deref-2.ensures.value ∙ ap (λ file. file.bytes.items) c.index.ensures ∙ sym (bytes_at entries c.args.name.now c.in-Some.place c.index.result.now placed))
    c.file_piece.ensures.gives
