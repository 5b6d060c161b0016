use Rattle.std.proofs.Common.{◌≡◌, All, map, sym, subst}
use Rattle.md_rows.specs.declared.description.RawDescription.{RawDescription}
use Rattle.md_instances.specs.Instances.{IsOfDescription}
use Rattle.machine_forms.specs.Forms.{moves_of}
use Rattle.machine_step.specs.Steps.{IsCode}
use Rattle.machine_step.specs.Runs.{IsCodeOf}
use Rattle.rtl_machine.specs.Loading.{IsLoadable, code_of, linked_line}
use Rattle.rtl_machine.proofs.Loaded.{carried, code_ready, loaded_code}
use Rattle.rtl_machine.proofs.loading.code_in.Goals as goal

pub linked_lines-requires : goal.linked_lines-requires
linked_lines-requires g c = record {
  instances = subst (λ (d : RawDescription). All (IsOfDescription d) c.args.p.now.lines) (sym c.raw-d.ensures.description) c.requires.loadable.instances;
}

pub returns-clause-code : goal.returns-clause-code
returns-clause-code g c =
    let d = c.raw-d.result.now in
    let p = c.args.p.now in
    let loadable = subst (λ (x : RawDescription). IsLoadable x p) (sym c.raw-d.ensures.description) c.requires.loadable in
    carried (λ v. map moves_of v.items ≡ map (linked_line d p) p.lines) (λ v. IsCodeOf g.W.Word.BITS (code_of c.args.m.now p) (map moves_of v.items))
    (λ v e. subst (λ (x : RawDescription). IsCodeOf g.W.Word.BITS (code_of x p) (map moves_of v.items)) c.raw-d.ensures.description
    (loaded_code g.W.Word.BITS d p c.said_is_sound.ensures c.said_is_bounded.ensures c.raw-d.ensures.checked c.linked_lines.ensures.assembled loadable (map moves_of v.items) e))
    c.linked_lines.result c.linked_lines.ensures.code

pub returns-clause-ready : goal.returns-clause-ready
returns-clause-ready g c =
    let d = c.raw-d.result.now in
    let p = c.args.p.now in
    let loadable = subst (λ (x : RawDescription). IsLoadable x p) (sym c.raw-d.ensures.description) c.requires.loadable in
    carried (λ v. map moves_of v.items ≡ map (linked_line d p) p.lines) (λ v. IsCode g.W.Word.BITS (map moves_of v.items))
    (λ v e. code_ready g.W.Word.BITS d p c.said_is_sound.ensures c.said_is_bounded.ensures c.raw-d.ensures.checked c.linked_lines.ensures.assembled loadable (map moves_of v.items) e)
    c.linked_lines.result c.linked_lines.ensures.code
