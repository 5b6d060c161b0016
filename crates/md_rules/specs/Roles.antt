-- The roles of registers.
use Rattle.std.specs.Prelude.{ℕ, Bool, false, List, count_by}
use Rattle.std.specs.Option.{option_map_or}
use Rattle.md_rows.specs.declared.description.Role.{Role}
use Rattle.md_rows.specs.declared.description.Role.TheVariants.{General, Result, Stack, Link, Other}
use Rattle.md_text.specs.Forms.{Form}
use Rattle.md_text.specs.Declarations.{Declaration, register_of, registers_in}
use Rattle.md_text.specs.Rules.{is_general, is_result, is_stack, is_link}

-- whether the second role is the first; nothing is asked of the others
abbrev pub is_role : Role → Role → Bool
is_role General role = is_general role
is_role Result role = is_result role
is_role Stack role = is_stack role
is_role Link role = is_link role
is_role Other role = false

-- whether a form declares a register of this role
abbrev pub declares_role : Role → Form → Bool
declares_role role form = option_map_or (λ r. is_role role r.role) (register_of form) false

-- how many registers have this role
abbrev pub role_count : Role → List Declaration → ℕ
role_count role ds = count_by (λ r. is_role role r.role) (registers_in ds)
