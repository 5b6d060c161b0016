use Rattle.std.proofs.Common.{◌∙◌, ◌-◌, List, sym, subst}
use Rattle.std.specs.Prelude.{All}
use Rattle.md_rows.specs.declared.description.RawDescription.{RawDescription}
use Rattle.md_check.specs.Checking.{IsChecked}
use Rattle.temp_code.specs.declared.code.Code.{Code}
use Rattle.temp_shapes.proofs.Roles.{checked_size}
use Rattle.pass_driver.specs.Passes.{AreColored, IsReady}
use Rattle.pass_driver.proofs.Compiling.{are_ready, unit_colored, can_link, colored_realised, two_dumps}
use Rattle.pass_driver.proofs.driver.compile.Goals as goal

pub expand-requires : goal.expand-requires
expand-requires g c =
    let checked = subst (λ (d : RawDescription). IsChecked g.W.Word.BITS d) c.raw.ensures.description c.raw.ensures.checked in
    let o = c.requires.operators in
    c.typed_may_be_expanded.ensures c.args.m.now o.has c.requires.tokens c.requires.tree c.args.t.now (checked_size g.W.Word.BITS c.args.m.now c.said_is_sound.ensures checked)
    c.requires.spelled c.requires.typed c.requires.within (c.operators_are_there.ensures c.args.m.now o.has o.operators) (c.none_is_lacked.ensures o.has c.args.t.now o.lacks_none)

pub all_coloured-requires : goal.all_coloured-requires
all_coloured-requires g c =
    let checked = subst (λ (d : RawDescription). IsChecked g.W.Word.BITS d) c.raw.ensures.description c.raw.ensures.checked in
    record {
      ready = subst (λ (cs : List Code). All (IsReady c.args.m.now) cs) (sym c.as_slice-2.ensures)
          (are_ready c.colors_are_met.ensures g.W.Word.BITS c.args.m.now c.args.t.now c.in_ok-codes.field-0 checked c.in_ok-codes.ensures);
    }

pub link_frames-requires : goal.link_frames-requires
link_frames-requires g c =
    let checked = subst (λ (d : RawDescription). IsChecked g.W.Word.BITS d) c.raw.ensures.description c.raw.ensures.checked in
    let d = c.args.m.now in
    record {
      linkable = can_link c.units_are_linkable.ensures g.W.Word.BITS (d.memory - d.stack - d.base) d c.args.t.now c.in_ok-codes.field-0 c.in_ok-codes.ensures c.in_ok-codes-2.codes checked
          c.requires.within (subst (λ (cs : List Code). AreColored d cs c.in_ok-codes-2.codes) c.as_slice-2.ensures c.in_ok-codes-2.ensures);
    }

pub returns : goal.returns
returns g c =
    let checked = subst (λ (d : RawDescription). IsChecked g.W.Word.BITS d) c.raw.ensures.description c.raw.ensures.checked in
    let d = c.args.m.now in
    let n = c.in_ok-codes.ensures in
    let are = subst (λ (cs : List Code). AreColored d cs c.in_ok-codes-2.codes) c.as_slice-2.ensures c.in_ok-codes-2.ensures in
    record {
      printable = c.in_ok-program.ensures.printable;
      same = c.compiled_is_same.ensures g.W.Word.BITS d c.args.t.now c.in_ok-codes.field-0 _ c.in_ok-program.program checked (record {
        naive = n;
        room = d.memory - d.stack - d.base;
        within = c.requires.within;
        colored = unit_colored d c.args.t.now c.in_ok-codes.field-0 n c.in_ok-codes-2.codes are;
        linked = c.in_ok-program.ensures.linked;
      });
      realised = two_dumps d c.new-dumps.result c.push.new.self c.push-2.new.self c.in_ok-dump_of.field-0 c.in_ok-dump_of-2.field-0 c.in_ok-codes.field-0.codes c.in_ok-codes-2.codes
          c.new-dumps.ensures c.in_ok-push.ensures.ok c.in_ok-push-2.ensures.ok (c.in_ok-dump_of.ensures ∙ c.as_slice.ensures) (c.in_ok-dump_of-2.ensures ∙ c.as_slice-3.ensures)
          n.realised (colored_realised d n.frame c.in_ok-codes.field-0.codes c.in_ok-codes-2.codes (are n.frame n.fixed));
    }
