use Rattle.std.proofs.Common.{◌≡◌, ◌+◌, ◌-◌, ◌≤◌, length, take}
use Rattle.vp_io.specs.Files.{OfFile, CountsOnly}
use Rattle.vp_io.proofs.fetching.fetch_whole.Given as goal

abbrev pub invariant-loop-text : goal.invariant-loop-text
invariant-loop-text g l = record {
  within : length l.text.items ≤ l.limit;
  room : length l.piece ≡ 4096;
  bytes : OfFile (g.F.Files.files l.fn.files) l.name (λ file. l.text.items ≡ take (length l.text.items) file);
  kept : g.F.Files.files l.files ≡ g.F.Files.files l.fn.files;
  counts : CountsOnly l.name (g.F.Files.faults l.fn.files) (g.F.Files.faults l.files);
  calls : g.F.Files.calls l.files ≤ g.F.Files.calls l.fn.files + length l.text.items;
}

abbrev pub decreases-loop-text : goal.decreases-loop-text
decreases-loop-text g l = l.limit + 1 - length l.text.items
