use Rattle.std.proofs.Common.{◌≡◌, ◌≤◌, ◌+◌, ◌∙◌, length, take, arith, length-append, ap}
use Rattle.std.proofs.lemmas.List.{length-take-le}
use Rattle.vp_io.proofs.Bytes.{file_more}
use Rattle.vp_io.proofs.fetching.fetch_whole.Goals as goal

pub loop-text-preserved : goal.loop-text-preserved
loop-text-preserved g c =
    let was = c.loop-text.invariant in
    let fetched = c.in_ok-count.ensures in
    let pushed = c.in_ok-extend_from_slice.ensures.items in
    let n = c.in_ok-count.count in
    let le : n ≤ length c.fetch.new.into = fetched.bound.0 in
    let longer : length c.extend_from_slice.new.self.items ≡ length c.loop-text.text.items + n =
    ap length pushed ∙ length-append c.loop-text.text.items (take n c.fetch.new.into) ∙ ap (λ k. length c.loop-text.text.items + k) (length-take-le n c.fetch.new.into le) in
    let at : c.len.result ≡ length c.loop-text.text.items = omega (arith, c.len.ensures, c.loop-text.text.ok.0) in
    let at2 : c.len-in-loop-text.result ≡ length c.loop-text.text.items = omega (arith, c.len-in-loop-text.ensures, c.loop-text.text.ok.0) in
    record {
      within = omega (arith, longer, was.within, c.if-count-limit.false, at2);
      room = c.fetch.auto.into ∙ was.room;
      bytes = file_more (g.F.Files.files c.args.files.now) (g.F.Files.files c.loop-text.files) was.kept c.args.name.now c.loop-text.text.items c.fetch.new.into c.extend_from_slice.new.self.items c.len.result n at le was.bytes fetched.bytes pushed;
      kept = fetched.kept ∙ was.kept;
      counts = record {
        total = omega (arith, was.counts.total, fetched.counts.total);
        of_name = omega (arith, was.counts.of_name, fetched.counts.of_name);
        others = λ other ne. fetched.counts.others other ne ∙ was.counts.others other ne;
      };
      calls = omega (arith, was.calls, fetched.call, longer, c.if-count-eq0.false);
    }
