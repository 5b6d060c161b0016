-- The lines and labels of codes, code by code: no function is looked up.
use Rattle.std.specs.Prelude.{◌≡◌, ℕ, ◌+◌, true, List, [], ◌∷◌, ◌++◌, map, length, All}
use Rattle.rtl_tree.specs.declared.cells.Lab.TheVariants.{Block as BlockLabel, Function}
use Rattle.rtl_value.specs.declared.state.LabelAt.{LabelAt}
use Rattle.md_rows.specs.declared.description.RawDescription.{RawDescription}
use Rattle.md_rows.specs.declared.instance.Instance.{Instance}
use Rattle.md_shapes.specs.declared.patterns.Pattern.{Pattern}
use Rattle.md_shapes.specs.Shapes.{Frame, has_transfer}
use Rattle.md_shapes.specs.Drawings.{frame_of}
use Rattle.temp_machine.specs.Routines.{Target}
use Rattle.temp_code.specs.declared.code.End.{End}
use Rattle.temp_code.specs.declared.code.Block.{Block}
use Rattle.temp_code.specs.declared.code.Code.{Code}
use Rattle.temp_code.specs.Routines.{exit_of, block_of, routine_of}
use Rattle.temp_shapes.specs.declared.rows.ShapeRows.{ShapeRows}
use Rattle.temp_shapes.specs.Rows.{IsPatternCovered}
use Rattle.temp_laws.specs.Targets.{target_of}
use Rattle.md_instances.specs.Instances.{IsOfDescription}
use Rattle.rtl_machine.specs.Loading.{moves_of}
use Rattle.link_code.specs.Linked.{Transfer, entry, leave, end_lines, block_lines}
use Rattle.link_rows.specs.Added.{is_added}
use Rattle.link_lines.specs.Glue.{glue_of}

-- the shapes that linking adds are covered
abbrev pub AreAddedCovered : RawDescription → ShapeRows → Type 0
AreAddedCovered d t = (p : Pattern) → is_added p ≡ true → has_transfer (frame_of d.word t.frame) p ≡ true → IsPatternCovered d p

-- what lines make is put behind what the lines before make, and they are instances of the description
pub record Writes (d : RawDescription) (old new : List Instance) (ms : List Transfer) : Type 0 where
  pub moves : map (moves_of d) new ≡ map (moves_of d) old ++ ms
  pub rows : All (IsOfDescription d) old → All (IsOfDescription d) new

module _ (d : RawDescription) (t : ShapeRows) where
  abbrev pub frame : Frame
  frame = frame_of d.word t.frame

  abbrev pub target : Target
  target = target_of d frame []

  -- the start, which calls main
  abbrev pub start_of : ℕ → List Transfer
  start_of main = (glue_of d t).set_stack ∷ (glue_of d t).calling main ∷ (glue_of d t).finish ∷ []

  abbrev pub entry_of : Code → List Transfer
  entry_of c = entry target (glue_of d t) frame.link (routine_of c)

  abbrev pub leave_of : Code → List Transfer
  leave_of c = leave target (glue_of d t) frame.link (routine_of c)

  abbrev pub end_of_lines : Code → End → List Transfer
  end_of_lines c e = end_lines target (glue_of d t) frame.link (routine_of c) (exit_of e)

  abbrev pub block_of_lines : Code → Block → List Transfer
  block_of_lines c b = block_lines target (glue_of d t) frame.link (routine_of c) (block_of b)

  abbrev pub blocks_lines : Code → List Block → List Transfer
  blocks_lines c [] = []
  blocks_lines c (b ∷ bs) = block_of_lines c b ++ blocks_lines c bs

  -- the labels of blocks, the first of which stands at this line
  abbrev pub blocks_labels : ℕ → Code → List Block → List LabelAt
  blocks_labels n c [] = []
  blocks_labels n c (b ∷ bs) = record { label = BlockLabel b.label; at = n } ∷ blocks_labels (n + length (block_of_lines c b)) c bs

  abbrev pub lines_of_code : Code → List Transfer
  lines_of_code c = entry_of c ++ blocks_lines c c.blocks

  abbrev pub labels_of_code : ℕ → Code → List LabelAt
  labels_of_code n c = record { label = Function c.function; at = n } ∷ blocks_labels (n + length (entry_of c)) c c.blocks

  abbrev pub lines_of_codes : List Code → List Transfer
  lines_of_codes [] = []
  lines_of_codes (c ∷ cs) = lines_of_code c ++ lines_of_codes cs

  abbrev pub labels_of_codes : ℕ → List Code → List LabelAt
  labels_of_codes n [] = []
  labels_of_codes n (c ∷ cs) = labels_of_code n c ++ labels_of_codes (n + length (lines_of_code c)) cs
