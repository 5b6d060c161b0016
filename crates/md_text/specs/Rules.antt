-- The rules of what stands behind the heading, each as a test of a line's form under the declarations before it.
use Rattle.std.specs.Prelude.{◌≡◌, ℕ, suc, Bool, true, false, not, ◌&&◌, ◌||◌, ◌==◌, nat_lt, nat_le, max, List, [], ◌∷◌, ◌++◌, length, map, count_by, flat_map, Option, Some, None}
use Rattle.std.specs.List.{list_any, list_all}
use Rattle.std.specs.Char.{is_ascii_digit}
use Rattle.std.specs.Str.{bytes_eq}
use Rattle.asm_token.specs.Tokens.{Token, Name}
use Rattle.rtl_tree.specs.declared.cells.Cell.{Cell}
use Rattle.rtl_tree.specs.declared.cells.Cell.TheVariants.{Hard, Temp, Flag}
use Rattle.rtl_tree.specs.Trees.{Tree, Read, Load, Unary, Binary}
use Rattle.rtl_tree.specs.Moves.{Goal, ToCell, ToMemory, Move}
use Rattle.rtl_tree.specs.WellFormed.{IsWellFormed, depth}
use Rattle.rtl_spelling.specs.Spelling.{Said}
use Rattle.md_rows.specs.declared.description.Register.{Register}
use Rattle.md_rows.specs.declared.description.Role.{Role}
use Rattle.md_rows.specs.declared.description.Role.TheVariants.{General, Result, Stack, Link}
use Rattle.md_text.specs.Pieces.{Kind, Named, Piece, Literal, slots, slot_names, has_name, is_kind_word}
use Rattle.md_text.specs.Forms.{Form, RegisterLine, FlagLine, ClassLine, ModeLine, RowLine}
use Rattle.md_text.specs.Declarations.{Declaration, number_of, registers_in, flags_in, class_names, mode_names}
use Rattle.md_text.specs.Expansion.{Expanded, holes_in}

-- a name that stands already, or a number; modes may have several lines
abbrev pub is_declared_twice : List Declaration → Form → Bool
is_declared_twice before (RegisterLine k name role) = list_any (λ r. r.number == number_of k || bytes_eq r.name name) (registers_in before)
is_declared_twice before (FlagLine k name) = list_any (λ f. f.number == number_of k || bytes_eq f.name name) (flags_in before)
is_declared_twice before (ClassLine name registers) = is_kind_word name || (has_name (class_names before) name || has_name (mode_names before) name)
is_declared_twice before (ModeLine name text tree) = is_kind_word name || has_name (class_names before) name
is_declared_twice before _ = false

-- the cells of a tree
abbrev pub cells_in : Tree → List Cell
cells_in (Read c) = c ∷ []
cells_in (Load w a) = cells_in a
cells_in (Unary o a) = cells_in a
cells_in (Binary o a b) = cells_in a ++ cells_in b
cells_in _ = []

abbrev pub cells_of_goal : Goal → List Cell
cells_of_goal (ToCell c) = c ∷ []
cells_of_goal (ToMemory w a) = cells_in a

abbrev pub cells_of_place : Option Goal → List Cell
cells_of_place None = []
cells_of_place (Some goal) = cells_of_goal goal

abbrev pub cells_of_said : Said → List Cell
cells_of_said said = cells_of_place said.to ++ cells_in said.value

abbrev pub cells_of_move : Move → List Cell
cells_of_move m = cells_of_goal m.to ++ cells_in m.value

-- a register or flag that isn't declared
abbrev pub is_unknown_cell : List Declaration → Cell → Bool
is_unknown_cell before (Hard n) = not (list_any (λ r. r.number == n) (registers_in before))
is_unknown_cell before (Flag n) = not (list_any (λ f. f.number == n) (flags_in before))
is_unknown_cell before _ = false

-- a class or mode that isn't declared
abbrev pub is_unknown_kind : List Declaration → Kind → Bool
is_unknown_kind before (Named name) = not (has_name (class_names before) name || has_name (mode_names before) name)
is_unknown_kind before _ = false

-- a text has a hole for what isn't declared, or a hole's name or a cell is used that isn't declared
abbrev pub uses_unknown : List Declaration → List Piece → List (List ℕ) → List Cell → Bool
uses_unknown before text names cells =
    list_any (λ h. is_unknown_kind before h.kind) (slots text)
    || (list_any (λ name. not (has_name (slot_names text) name)) names || list_any (is_unknown_cell before) cells)

abbrev pub is_undeclared : List Declaration → Form → Bool
is_undeclared before (ClassLine name registers) = list_any (λ r. not (has_name (map (λ s. s.name) (registers_in before)) r)) registers
is_undeclared before (ModeLine name text tree) = uses_unknown before text tree.names (cells_in tree.tree)
is_undeclared before (RowLine text transfer) = uses_unknown before text transfer.names (flat_map cells_of_said transfer.moves)
is_undeclared before _ = false

-- `L` and digits, as the label of a block
abbrev pub is_block_label : List ℕ → Bool
is_block_label (c ∷ d ∷ ds) = c == 76 && list_all is_ascii_digit (d ∷ ds)
is_block_label _ = false

-- a name that labels, directives and symbols may have
abbrev pub is_reserved : List ℕ → Bool
is_reserved [] = false
is_reserved (c ∷ cs) = c == 95 || (c == 46 || is_block_label (c ∷ cs))

abbrev pub is_reserved_token : Token → Bool
is_reserved_token (Name name) = is_reserved name
is_reserved_token _ = false

abbrev pub is_reserved_piece : Piece → Bool
is_reserved_piece (Literal t) = is_reserved_token t
is_reserved_piece _ = false

-- a register or a token of a text has a reserved name
abbrev pub has_reserved_name : List Declaration → Form → Bool
has_reserved_name before (RegisterLine k name role) = is_reserved name
has_reserved_name before (ModeLine name text tree) = list_any is_reserved_piece text
has_reserved_name before (RowLine text transfer) = list_any is_reserved_piece text
has_reserved_name before _ = false

abbrev pub is_general : Role → Bool
is_general General = true
is_general _ = false

abbrev pub is_result : Role → Bool
is_result Result = true
is_result _ = false

abbrev pub is_stack : Role → Bool
is_stack Stack = true
is_stack _ = false

abbrev pub is_link : Role → Bool
is_link Link = true
is_link _ = false

-- one stack and one result register, at most one link register, and some general ones
abbrev pub has_roles : List Register → Bool
has_roles rs =
    count_by (λ r. is_stack r.role) rs == 1
    && (count_by (λ r. is_result r.role) rs == 1
    && (nat_le (count_by (λ r. is_link r.role) rs) 1 && nat_lt 0 (count_by (λ r. is_general r.role) rs)))

abbrev pub is_temporary : Cell → Bool
is_temporary (Temp n) = true
is_temporary _ = false

-- a row's transfer has places for its goals, is well formed, and has no temporary
pub record HasGoodTransfer (row : Expanded) : Type 0 where
  pub moves : List Move
  pub transfer : row.transfer ≡ Some moves
  pub well_formed : IsWellFormed moves
  pub no_temporary : list_any is_temporary (flat_map cells_of_move moves) ≡ false

-- a name stands twice
abbrev pub has_repetition : List (List ℕ) → Bool
has_repetition [] = false
has_repetition (name ∷ names) = has_name names name || has_repetition names

-- a hole stands twice in a text, or in the text alone
abbrev pub misuses_hole : List Piece → List (List ℕ) → Bool
misuses_hole text names = has_repetition (slot_names text) || list_any (λ name. not (has_name names name)) (slot_names text)

abbrev pub has_misused_hole : List Declaration → Form → Bool
has_misused_hole before (ModeLine name text tree) = misuses_hole text tree.names
has_misused_hole before (RowLine text transfer) = misuses_hole text transfer.names
has_misused_hole before _ = false

abbrev pub is_mode : List Declaration → Kind → Bool
is_mode before (Named name) = has_name (mode_names before) name
is_mode before _ = false

-- a hole for a mode stands in a mode
abbrev pub has_mode_in_mode : List Declaration → Form → Bool
has_mode_in_mode before (ModeLine name text tree) = list_any (λ h. is_mode before h.kind) (slots text)
has_mode_in_mode before _ = false

abbrev pub goal_depth : Goal → ℕ
goal_depth (ToCell c) = 1
goal_depth (ToMemory w a) = suc (depth a)

abbrev pub is_deep : Move → Bool
is_deep m = nat_lt 8 (max (goal_depth m.to) (depth m.value))

abbrev pub has_deep : Option (List Move) → Bool
has_deep None = false
has_deep (Some moves) = list_any is_deep moves

-- a row has more than eight holes, or trees of more than eight levels
abbrev pub is_too_large : Expanded → Bool
is_too_large row = nat_lt 8 (length (holes_in row.text)) || has_deep row.transfer
