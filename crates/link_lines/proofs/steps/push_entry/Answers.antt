use Rattle.std.proofs.Common.{[], ◌∷◌, ◌-◌, ◌/◌, ◌^◌, ℕ, OnOk, subst}
use Rattle.md_rows.specs.declared.description.RawDescription.{RawDescription}
use Rattle.md_shapes.specs.declared.patterns.Pattern.TheVariants.{MoveStack, SaveLink}
use Rattle.link_lines.specs.Glue.{made_at}
use Rattle.link_lines.specs.Lines.{Writes}
use Rattle.link_lines.proofs.Writing.{entry_written}
use Rattle.link_lines.proofs.steps.push_entry.Goals as goal

pub returns-in-Some : goal.returns-in-Some
returns-in-Some g c =
    let m = c.args.m.now in
    let t = c.args.rows.now in
    let code = c.args.code.now in
    let old = c.args.lines.now.items in
    let mid = c.push_numbered.new.lines.items in
    let new = c.push_numbered-in-Some.new.lines.items in
    entry_written m t code old mid new c.push_numbered-in-Some.result c.in-Some.field-0 c.in-Some.is
    (subst (λ (d : RawDescription). Writes m old mid (made_at m t MoveStack (2 ^ d.word - code.frame) ∷ [])) c.raw.ensures.description
    (subst (λ (n : ℕ). Writes m old mid (made_at m t MoveStack n ∷ [])) c.below_zero-down.ensures c.in_ok-push_numbered.ensures))
    (subst (λ (d : RawDescription). OnOk c.push_numbered-in-Some.result (Writes m mid new (made_at m t SaveLink (code.first_home - d.word / 8) ∷ [])))
    c.raw.ensures.description c.push_numbered-in-Some.ensures)
