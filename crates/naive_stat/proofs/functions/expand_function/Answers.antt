use Rattle.std.proofs.Common.{◌≡◌, length, arith}
use Rattle.naive_expr.specs.Seen.{site_of}
use Rattle.naive_stat.proofs.Entering.{function_made}
use Rattle.naive_stat.proofs.functions.expand_function.Goals as goal

pub returns : goal.returns
returns c = λ w pushed t site offset.
    let f = c.args.f.now in
    let count : c.in-Ok.count ≡ length f.params = omega (arith, c.in-Ok.ensures, c.len.ensures) in
    function_made w pushed t f c.args.label c.args.scalars c.word_bytes.result c.args.offset c.in-Ok.count c.is_main.result c.new-out.result c.push_entry.new.out c.expand_stat.new.out c.push_ending.new.out
    (site_of c.args.site.now) c.as_slice.result.now c.get.result.now c.new-out.ensures c.requires.scalars site c.word_bytes.ensures.bytes offset count c.as_slice.ensures c.get.ensures c.is_main.ensures
    c.in_ok-push_entry.ensures c.in_ok-expand_stat.ensures.steps c.in_ok-push_ending.ensures
