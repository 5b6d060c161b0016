use Rattle.std.proofs.Common.{◌≡◌, Bool, true, false, sym, ◌∙◌, refl}
use Rattle.frame_link.proofs.Made.{is_tested}
use Rattle.frame_link.proofs.conditions.is_tested.Goals as goal
use Rattle.frame_link.proofs.conditions.is_tested.Goals.{then-are_lines, else-are_lines, then-are_labels, else-are_labels, then-are_addresses, else-are_addresses}

false_true : {A : Type 0} (b : Bool) → b ≡ false → b ≡ true → A
false_true b e f = absurd (never (sym e ∙ f))
  where
    never : false ≡ true → ⊥
    never e = cc

pub returns-then-are_apart : goal.returns-then-are_apart
returns-then-are_apart c = λ within.
    elim c.if-are_addresses.branch [
      | then-are_addresses w ↦
          (elim c.if-are_labels.branch [
            | then-are_labels v ↦
                (elim c.if-are_lines.branch [
                  | then-are_lines z ↦
                      is_tested c.args.d.now c.args.standing.now c.args.unit.now c.args.made.now.lines.items c.as_slice-lines.result.now c.args.made.now.labels.items
                      c.as_slice-labels.result.now v.as_slice.result.now v.as_slice-then-are_labels.result.now c.as_slice-lines.ensures.value c.as_slice-labels.ensures.value
                      v.as_slice.ensures v.as_slice-then-are_labels.ensures (z.if-are_lines.ensures refl) (z.are_labels.ensures (sym z.value-is ∙ v.if-are_labels.true))
                      (v.are_addresses.ensures (sym v.value-is ∙ w.if-are_addresses.true)) (w.are_apart.ensures (sym w.value-is ∙ c.if-are_apart.true))
                      (c.is_within.ensures.lines within) (c.is_within.ensures.names within)
                  | else-are_lines z ↦ false_true c.if-are_lines.value (z.value-is ∙ z.if-are_lines.false) v.if-are_labels.true
                ])
            | else-are_labels v ↦ false_true c.if-are_labels.value (v.value-is ∙ v.if-are_labels.false) w.if-are_addresses.true
          ])
      | else-are_addresses w ↦ false_true c.if-are_addresses.value (w.value-is ∙ w.if-are_addresses.false) c.if-are_apart.true
    ]
