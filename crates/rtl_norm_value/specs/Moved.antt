-- A jump that its normal form moves, where a label is not read as its place.
use Rattle.std.specs.Prelude.{◌≡◌, List, [], ◌∷◌, Some, None, Ok, Err}
use Rattle.rtl_tree.specs.Trees.{Number, CodeLabel, Binary}
use Rattle.rtl_tree.specs.Moves.{ToCell, Move}
use Rattle.rtl_tree.specs.declared.cells.Cell.TheVariants.{Pc}
use Rattle.rtl_tree.specs.declared.cells.Lab.TheVariants.{Block}
use Rattle.rtl_tree.specs.declared.expressions.BinOp.TheVariants.{Add}
use Rattle.rtl_effect.specs.Views.{View, Wild}
use Rattle.rtl_effect.specs.Effects.{Done, effect}
use Rattle.rtl_norm.specs.Transfers.{norm_moves}
use Rattle.rtl_norm_value.specs.Effect.{with_normal_jump}

-- PC = (L5 + 0), whose normal form is PC = L5
abbrev pub jump_past : List Move
jump_past = record { to = ToCell Pc; value = Binary Add (CodeLabel (Block 5)) (Number 0) } ∷ []

-- in code with temporaries a label is unset as a word, and no word is a place
abbrev pub as_code : View → View
as_code v = record v { labels = λ l. None; targets = λ l. Some 5; places = λ n. None }

-- a label is read as one place and jumps to another
abbrev pub astray : View → View
astray v = record v { labels = λ l. Some 3; targets = λ l. Some 5; places = λ n. Some n }

-- as it stands the jump is wild in such code, and its normal form goes to the label's block
abbrev pub WildAsItStands : Type 0
WildAsItStands =
    (v : View)
    → (effect 16 jump_past (as_code v) ≡ Err Wild)
    × ((d : Done) × (effect 16 (norm_moves 16 jump_past) (as_code v) ≡ Ok d) × (d.place ≡ Some 5))
    × ((d : Done) × (effect 16 (with_normal_jump 16 jump_past) (as_code v) ≡ Ok d) × (d.place ≡ Some 5))

-- where a label is read as another place, the normal form goes elsewhere
abbrev pub NormalFormMovesJump : Type 0
NormalFormMovesJump =
    (v : View)
    → ((d : Done) × (effect 16 jump_past (astray v) ≡ Ok d) × (d.place ≡ Some 3))
    × ((d : Done) × (effect 16 (norm_moves 16 jump_past) (astray v) ≡ Ok d) × (d.place ≡ Some 5))
