use Rattle.std.proofs.Common.{◌≡◌, Some, None, position, length, arith, sym, ap, ◌∙◌, subst}
use Rattle.vp_io.specs.Files.{Gives}
use Rattle.vp_io.specs.MemoryFiles.{has_name}
use Rattle.vp_io.proofs.Entries.{gives_none, bytes_at, same_place, counts_only}
use Rattle.vp_io.proofs.memory_files.MemFilesFiles.fetch.Goals as goal

pub returns-in_default-clause-bytes : goal.returns-in_default-clause-bytes
returns-in_default-clause-bytes c =
    gives_none c.args.self.now.entries.items c.args.name.now c.args.at c.args.into.now
    (same_place _ _ _ _ _ None c.place_of.ensures c.as_bytes.ensures.value c.deref.ensures.value c.in_default.is)

pub returns-clause-bytes : goal.returns-clause-bytes
returns-clause-bytes c =
    let entries = c.args.self.now.entries.items in
    let placed : position (has_name c.args.name.now) entries ≡ Some c.in-Some.place =
    same_place _ _ _ _ _ (Some c.in-Some.place) c.place_of.ensures c.as_bytes.ensures.value c.deref.ensures.value c.in-Some.is in
    subst (λ bytes. Gives bytes c.args.at c.file_piece.result c.file_piece.new.into)
    (c.deref-2.ensures.value ∙ ap (λ file. file.bytes.items) c.index-2.ensures ∙ sym (bytes_at entries c.args.name.now c.in-Some.place c.index-2.result.now placed))
    c.file_piece.ensures.gives

pub returns-then-is_next-clause-counts : goal.returns-then-is_next-clause-counts
returns-then-is_next-clause-counts c =
    let fault = c.count_fault.ensures c.args.name.now (same_place _ _ _ _ _ (Some c.in-Some.place) c.place_of.ensures c.as_bytes.ensures.value (c.deref.ensures.value ∙ sym c.deref_mut.ensures.value) c.in-Some.is) in
    let counted = rw c.deref_mut.ensures.value at fault in
    counts_only c.args.self.now.entries.items c.count_fault.new.entries c.args.self.now.entries.len c.args.name.now _ _
    (omega (arith, c.count_fault.auto.entries, ap length c.deref_mut.ensures.value, c.args.self.now.entries.ok.0))
    (omega (arith, c.fault.ensures.later, c.is_next.ensures.faults)) counted
