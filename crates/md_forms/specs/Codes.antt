-- How a proof stores trees and transfers with holes.
use Rattle.std.specs.Prelude.{ℕ, List, Option}
use Rattle.std.proofs.Common.{refl}
use Rattle.std.specs.Coded.{Coded, coded_list, coded_ℕ, coded_option, code_by, coded×}
use Rattle.rtl_tree.specs.Trees.{Tree}
use Rattle.rtl_tree.specs.Moves.{Goal}
use Rattle.rtl_tree.specs.Codes.{tree_code, goal_code}
use Rattle.rtl_spelling.specs.Spelling.{Said}
use Rattle.md_text.specs.Forms.{OpenTree, OpenTransfer}

abbrev pub names_code : Coded (List (List ℕ))
names_code = coded_list (coded_list coded_ℕ)

abbrev pub open_tree_code : Coded OpenTree
open_tree_code =
    code_by (List (List ℕ) × Tree) (coded× names_code tree_code)
    (λ t. (t.names, t.tree)) (λ p. record { names = p.0; tree = p.1 }) (λ _. refl)

abbrev pub said_code : Coded Said
said_code =
    code_by (Option Goal × Tree) (coded× (coded_option goal_code) tree_code)
    (λ s. (s.to, s.value)) (λ p. record { to = p.0; value = p.1 }) (λ _. refl)

abbrev pub open_transfer_code : Coded OpenTransfer
open_transfer_code =
    code_by (List (List ℕ) × List Said) (coded× names_code (coded_list said_code))
    (λ t. (t.names, t.moves)) (λ p. record { names = p.0; moves = p.1 }) (λ _. refl)
