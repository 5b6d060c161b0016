use Rattle.std.proofs.Common.{[], ◌∷◌, ◌-◌, ◌/◌, OnOk, subst, sym}
use Rattle.std.specs.Global.{Vec}
use Rattle.rtl_word.specs.Words.{IsWordSize}
use Rattle.md_rows.specs.declared.description.RawDescription.{RawDescription}
use Rattle.md_rows.specs.declared.instance.Instance.{Instance}
use Rattle.md_shapes.specs.declared.patterns.Pattern.TheVariants.{MoveStack, Return, RestoreLink}
use Rattle.link_lines.specs.Glue.{made, made_at, no_label}
use Rattle.link_lines.specs.Lines.{Writes}
use Rattle.temp_shapes.proofs.Roles.{checked_size}
use Rattle.link_lines.proofs.Numbers.{frame_numbers}
use Rattle.link_lines.proofs.Writing.{written_then, left_with, left_without, behind_fetch}
use Rattle.link_lines.proofs.steps.push_leave.Goals as goal
use Rattle.link_lines.proofs.steps.push_leave.Goals.{in-Some+in_ok-push_numbered, in_default}

pub push_numbered-requires-2-clause-number : goal.push_numbered-requires-2-clause-number
push_numbered-requires-2-clause-number g c =
    let f = c.requires.framed in
    let size = subst (λ (d : RawDescription). IsWordSize d.word) c.raw-d.ensures.description
    (checked_size g.W.Word.BITS c.raw-d.result.now c.said_is_sound.ensures c.raw-d.ensures.checked) in
    (frame_numbers c.args.m.now.word c.args.code.now.frame c.args.code.now.first_home c.args.code.now.slots size f.frame_words f.home_words f.short f.below_homes f.fits).up

pub returns : goal.returns
returns g c =
    let m = c.args.m.now in
    let t = c.args.rows.now in
    let code = c.args.code.now in
    let mid = c.match-rows.lines.items in
    let new = c.push_plain.new.lines.items in
    let behind =
    written_then m mid c.push_numbered-2.new.lines.items new (made_at m t MoveStack code.frame ∷ []) (made m t Return 0 no_label ∷ []) c.push_plain.result
    c.in_ok-push_numbered-2.ensures c.push_plain.ensures in
    elim c.match-rows.branch [
      | in-Some+in_ok-push_numbered w ↦
          left_with m t code c.args.lines.now.items mid new c.push_plain.result w.in-Some.field-0 w.in-Some.is
          (subst (λ (d : RawDescription). Writes m c.args.lines.now.items mid (made_at m t RestoreLink (code.first_home - d.word / 8) ∷ [])) c.raw-d.ensures.description
          (subst (λ (v : Vec Instance). Writes m c.args.lines.now.items v.items (made_at m t RestoreLink (code.first_home - c.raw-d.result.now.word / 8) ∷ [])) (sym w.lines-is)
          w.in_ok-push_numbered.ensures))
          behind
      | in_default w ↦
          left_without m t code c.args.lines.now.items mid new c.push_plain.result w.in_default.is
          (subst (λ (v : Vec Instance). OnOk c.push_plain.result (Writes m v.items new (behind_fetch m t code c.args.lines.now.items mid new c.push_plain.result))) w.lines-is behind)
    ]
