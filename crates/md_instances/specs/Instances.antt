-- Instances of a description.
use Rattle.md_rows.specs.declared.description.RawDescription.{RawDescription}
use Rattle.md_rows.specs.declared.row.Row.{Row}
use Rattle.md_rows.specs.declared.instance.Instance.{Instance}
use Rattle.md_rows.specs.Instances.{IsInstance}

-- an instance of the description: some row makes it one
abbrev pub IsOfDescription : RawDescription → Instance → Type 0
IsOfDescription d i = (row : Row) × IsInstance d i row
