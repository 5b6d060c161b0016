use Rattle.std.proofs.Common.{ℕ, Some, refl, sym, subst}
use Rattle.vp_io.specs.declared.answers.Reason.{Reason}
use Rattle.md_rows.specs.declared.description.RawDescription.{RawDescription}
use Rattle.md_check.specs.Accepted.{MissingShape, MissesShape, Told}
use Rattle.md_check.specs.Checking.{AreReadRows, IsLeast, IsReason}
use Rattle.md_check.proofs.Telling.{sound_rows, read_rows, told_missing}
use Rattle.md_check.proofs.checked.check_shapes.Goals as goal

pub with_normal_forms-requires-clause-sound : goal.with_normal_forms-requires-clause-sound
with_normal_forms-requires-clause-sound g c = sound_rows g.W.Word.BITS c.args.raw c.requires.word c.requires.sound.rows

pub first_missing-requires-clause-rows : goal.first_missing-requires-clause-rows
first_missing-requires-clause-rows g c =
    subst (λ (d : RawDescription). AreReadRows g.W.Word.BITS d.rows) (sym c.in_ok-description.ensures)
    (read_rows g.W.Word.BITS c.args.raw c.requires.word c.requires.sound.rows)

pub returns-in-Some-clause-fault : goal.returns-in-Some-clause-fault
returns-in-Some-clause-fault g c =
    subst (λ (r : Reason). IsReason c.args.raw r) (sym c.reason.ensures)
    (record {
      rule = MissingShape;
      number = refl;
      column = refl;
      told = subst (λ (n : ℕ). Told c.args.raw MissingShape c.args.raw.last n) (sym c.from.ensures)
          (told_missing c.args.raw c.in-Some.shape c.requires.clear.apart c.requires.clear.enough
          (subst (λ (d : RawDescription). IsLeast (MissesShape d) (Some c.in-Some.shape)) c.in_ok-description.ensures c.in-Some.ensures));
    })
