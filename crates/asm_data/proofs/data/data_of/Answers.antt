use Rattle.std.proofs.Common.{◌≡◌, ℕ, ◌+◌, ◌++◌, length, map, ap, subst, arith}
use Rattle.asm_row.proofs.Walking.{empty_text}
use Rattle.asm_program.specs.Programs.{object_of, bytes_after}
use Rattle.asm_program.specs.Rules.{word_bytes}
use Rattle.asm_labels.specs.Seen.{seen}
use Rattle.asm_labels.proofs.Opening.{opens}
use Rattle.asm_data.proofs.DataLines.{Meets, meets, number_fits, data_fits, data_more, at_end, word_positive}
use Rattle.asm_data.proofs.data.data_of.Goals as goal

pub bytes_after-requires-clause-number : goal.bytes_after-requires-clause-number
bytes_after-requires-clause-number c =
    let a = c.loop-rest.invariant.left c.requires.lines.0 c.requires.lines.1 in
    let o = opens c.says_one_thing.ensures c.split_line.result.0.now c.split_line.result.1.now c.said_on-said.result c.said_on-said.ensures c.loop-rest.rest.now a.left c.split_line.ensures.lines a.now.said in
    number_fits c.args.d.now c.said_on-said.result c.requires.lines.0 c.split_line.result.0.now c.split_line.result.1.now c.loop-rest.data.symbols.items c.loop-rest.data.bytes.items
    (meets c.args.d.now c.said_on-said.result c.requires.lines.0 c.loop-rest.rest.now c.split_line.result.0.now c.split_line.result.1.now c.loop-rest.data.symbols.items c.loop-rest.data.bytes.items a o)
    c.requires.size

pub with_symbol-requires : goal.with_symbol-requires
with_symbol-requires c =
    let a = c.loop-rest.invariant.left c.requires.lines.0 c.requires.lines.1 in
    let o = opens c.says_one_thing.ensures c.split_line.result.0.now c.split_line.result.1.now c.said_on-said.result c.said_on-said.ensures c.loop-rest.rest.now a.left c.split_line.ensures.lines a.now.said in
    let m : Meets c.args.d.now c.said_on-said.result c.requires.lines.0 c.split_line.result.0.now c.split_line.result.1.now c.loop-rest.data.symbols.items c.loop-rest.data.bytes.items =
    meets c.args.d.now c.said_on-said.result c.requires.lines.0 c.loop-rest.rest.now c.split_line.result.0.now c.split_line.result.1.now c.loop-rest.data.symbols.items c.loop-rest.data.bytes.items a o in
    let fits = data_fits c.args.d.now c.said_on-said.result c.requires.lines.0 c.split_line.result.0.now c.split_line.result.1.now c.loop-rest.data.symbols.items c.loop-rest.data.bytes.items m
    (word_positive c.args.d.now c.requires.size) in
    let same : length c.in_ok-bytes.bytes.items ≡ length (bytes_after (word_bytes c.args.d.now) c.loop-rest.data.bytes.items (seen c.said_on-said.result m.tokens)) = ap length (c.in_ok-bytes.ensures m.tokens) in
    record { address = omega (arith, fits, same, c.len.ensures, c.has_small_memory.ensures) }

pub loop-rest-preserved : goal.loop-rest-preserved
loop-rest-preserved c =
    let positive = word_positive c.args.d.now c.requires.size in
    record {
      small =
          let a = c.loop-rest.invariant.left c.requires.lines.0 c.requires.lines.1 in
          let o = opens c.says_one_thing.ensures c.split_line.result.0.now c.split_line.result.1.now c.said_on-said.result c.said_on-said.ensures c.loop-rest.rest.now a.left c.split_line.ensures.lines a.now.said in
          let m : Meets c.args.d.now c.said_on-said.result c.requires.lines.0 c.split_line.result.0.now c.split_line.result.1.now c.loop-rest.data.symbols.items c.loop-rest.data.bytes.items =
          meets c.args.d.now c.said_on-said.result c.requires.lines.0 c.loop-rest.rest.now c.split_line.result.0.now c.split_line.result.1.now c.loop-rest.data.symbols.items c.loop-rest.data.bytes.items a o in
          let fits = data_fits c.args.d.now c.said_on-said.result c.requires.lines.0 c.split_line.result.0.now c.split_line.result.1.now c.loop-rest.data.symbols.items c.loop-rest.data.bytes.items m positive in
          let same : length c.in_ok-bytes.bytes.items ≡ length (bytes_after (word_bytes c.args.d.now) c.loop-rest.data.bytes.items (seen c.said_on-said.result m.tokens)) = ap length (c.in_ok-bytes.ensures m.tokens) in
          omega (arith, fits, same, c.has_small_memory.ensures);
      left = λ lines t.
          let a = c.loop-rest.invariant.left lines t in
          let o = opens c.says_one_thing.ensures c.split_line.result.0.now c.split_line.result.1.now c.said_on-said.result c.said_on-said.ensures c.loop-rest.rest.now a.left c.split_line.ensures.lines a.now.said in
          let m : Meets c.args.d.now c.said_on-said.result lines c.split_line.result.0.now c.split_line.result.1.now c.loop-rest.data.symbols.items c.loop-rest.data.bytes.items =
          meets c.args.d.now c.said_on-said.result lines c.loop-rest.rest.now c.split_line.result.0.now c.split_line.result.1.now c.loop-rest.data.symbols.items c.loop-rest.data.bytes.items a o in
          let len : c.len.result ≡ length c.in_ok-bytes.bytes.items = omega (arith, c.len.ensures) in
          data_more c.args.d.now c.said_on-said.result lines c.split_line.result.0.now c.split_line.result.1.now c.loop-rest.data.symbols.items c.loop-rest.data.bytes.items m
          c.in_ok-bytes.bytes.items c.in_ok-symbols.symbols.items positive (c.in_ok-bytes.ensures m.tokens)
          (subst (λ (n : ℕ). c.in_ok-symbols.symbols.items ≡ c.loop-rest.data.symbols.items ++ map (λ o. o.1) (object_of (c.args.d.now.base + n) (seen c.said_on-said.result m.tokens))) len
          (c.in_ok-symbols.ensures m.tokens));
    }

pub returns : goal.returns
returns c lines t =
    let r = at_end c.args.d.now lines c.loop-rest.rest.now c.loop-rest.data.symbols.items c.loop-rest.data.bytes.items
    (empty_text c.loop-rest.rest.now c.is_empty.result c.is_empty.ensures c.loop-rest-test.false) (c.loop-rest.invariant.left lines t) in
    (r.bytes_are, r.symbols_are)
