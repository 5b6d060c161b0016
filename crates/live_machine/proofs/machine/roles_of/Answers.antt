use Rattle.std.proofs.Common.{refl, ap, ◌∙◌}
use Rattle.std.specs.Option.{unwrap_or}
use Rattle.md_rows.specs.declared.description.Role.TheVariants.{Stack, Result}
use Rattle.md_covers.specs.Covers.{first_with, general_bits}
use Rattle.live_machine.proofs.Described.{roles_are}
use Rattle.live_machine.proofs.machine.roles_of.Goals as goal

pub returns : goal.returns
returns c = λ w frame checked is.
    roles_are w c.args.d.now frame (record { stack = c.number_with-stack.result; result = c.number_with-result.result; general = c.general_bits-general.result; kept = 0 })
    c.said_is_limited.ensures c.general_bits_are_a_sum.ensures checked is
    (c.number_with-stack.ensures ∙ ap (λ x. unwrap_or (first_with Stack x) 0) c.as_slice-registers.ensures)
    (c.number_with-result.ensures ∙ ap (λ x. unwrap_or (first_with Result x) 0) c.as_slice-registers.ensures)
    (c.general_bits-general.ensures ∙ ap general_bits c.as_slice-registers.ensures) refl
