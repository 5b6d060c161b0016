-- The transfers that linking adds, by the rows that were found.
use Rattle.std.specs.Prelude.{ℕ, ◌-◌, ◌/◌, ◌%◌, ◌==◌, nat_le, nat_lt, ◌&&◌, ◌||◌, if◌then◌else◌, Bool, false, List, [], ◌∷◌, map, Option, Some, None}
use Rattle.rtl_tree.specs.Moves.{Move}
use Rattle.rtl_tree.specs.declared.cells.Lab.{Lab}
use Rattle.rtl_tree.specs.declared.cells.Lab.TheVariants.{Block, Function}
use Rattle.md_rows.specs.declared.description.RawDescription.{RawDescription}
use Rattle.md_rows.specs.declared.instance.Instance.{Instance}
use Rattle.md_shapes.specs.declared.patterns.Pattern.{Pattern}
use Rattle.md_shapes.specs.declared.patterns.Pattern.TheVariants.{MoveStack, SetStack, Call, Return, SaveLink, RestoreLink, Halt}
use Rattle.md_shapes.specs.Shapes.{shape_moves}
use Rattle.md_shapes.specs.Drawings.{frame_of}
use Rattle.md_covers.specs.Numbers.{Run, runs_of}
use Rattle.temp_code.specs.declared.code.Unit.{Unit as Program}
use Rattle.temp_code.specs.Routines.{image_of}
use Rattle.temp_shapes.specs.declared.rows.ShapeRows.{ShapeRows}
use Rattle.temp_laws.specs.Conditions.{on_temporaries}
use Rattle.temp_laws.specs.Targets.{target_of}
use Rattle.rtl_machine.specs.Loading.{moves_of}
use Rattle.link_code.specs.Linked.{Glue, Job}
use Rattle.link_rows.specs.Added.{found}

-- whether a number is of a run
abbrev pub in_run : Run → ℕ → Bool
in_run r n = nat_le r.first n && ((n - r.first) % r.step == 0 && nat_lt ((n - r.first) / r.step) r.count)

abbrev pub in_runs : List Run → ℕ → Bool
in_runs [] n = false
in_runs (r ∷ rs) n = in_run r n || in_runs rs n

-- whether a number is one of a shape's
abbrev pub has_numbers : ℕ → Pattern → ℕ → Bool
has_numbers w p n = in_runs (runs_of w p) n

abbrev pub no_label : Lab
no_label = Block 0

-- the transfer of the instruction that was found; that of the shape where there is none
abbrev pub transfer_by : RawDescription → List Move → Option Instance → List Move
transfer_by d shape (Some i) = moves_of d i
transfer_by d shape None = shape

module _ (d : RawDescription) (t : ShapeRows) where
  abbrev pub shape_at : Pattern → ℕ → Lab → List Move
  shape_at p n l = shape_moves (frame_of d.word t.frame) p (on_temporaries 0 1 n 0 l)

  abbrev pub made : Pattern → ℕ → Lab → List Move
  made p n l = transfer_by d (shape_at p n l) (found d t p n l)

  -- at a number that the shape hasn't no line has it
  abbrev pub made_at : Pattern → ℕ → List Move
  made_at p n = if has_numbers d.word p n then made p n no_label else shape_at p n no_label

  abbrev pub glue_of : Glue
  glue_of = record {
    set_stack = made SetStack 0 no_label;
    move_stack = made_at MoveStack;
    calling = λ f. made Call 0 (Function f);
    going_back = made Return 0 no_label;
    save = made_at SaveLink;
    fetch = made_at RestoreLink;
    finish = made Halt 0 no_label;
  }

  -- a unit is linked with its codes in their order; a call keeps no register
  abbrev pub job_of : Program → Job
  job_of u = record {
    t = target_of d (frame_of d.word t.frame) [];
    p = image_of u;
    glue = glue_of;
    order = map (λ c. c.function) u.codes;
  }
