-- The parts of lines of rows and modes.
use Rattle.std.proofs.Common.{◌≡◌, ℕ, List, ◌++◌, refl, sym, subst, ◌∙◌, codes}
use Rattle.std.proofs.lemmas.List.{append_cancel_left}
use Rattle.asm_token.specs.Tokens.{IsName}
use Rattle.md_text.specs.Pieces.{Piece, SpellsText}
use Rattle.md_text.specs.Forms.{OpenTree, OpenTransfer, SpellsTree, SpellsMoves, IsModeLine, IsRowLine}
use Rattle.md_text.proofs.Bytes.{name_lacks}
use Rattle.md_text.proofs.TextPieces.{pieces_lack_bar}
use Rattle.md_text.proofs.FormTexts.{bars_once}
use Rattle.md_lines.specs.Parts.{IsSplitAtBar}
use Rattle.md_parser.specs.Bars.{HasRowParts, HasModeParts}

-- rows

pub parts_of_row : (w : ℕ) (line : List ℕ) (ps : List Piece) (t : OpenTransfer) (h : IsRowLine w line ps t) → HasRowParts line h.shown h.meant
parts_of_row w line ps t h = record { text = h.text; first = pieces_lack_bar h.shown ps h.pieces_are.spells }

row_parts_once : (line a b x y : List ℕ) → HasRowParts line a x → HasRowParts line b y → (a ≡ b) × (x ≡ y)
row_parts_once line a b x y p q =
    bars_once a b x y p.first q.first (append_cancel_left (codes "row ") (a ++ (codes " | " ++ x)) (b ++ (codes " | " ++ y)) (sym p.text ∙ q.text))

pub no_row_text : (w : ℕ) (line shown meant : List ℕ) → HasRowParts line shown meant → ((ps : List Piece) → SpellsText shown ps → ⊥) → (ps : List Piece) (t : OpenTransfer) → IsRowLine w line ps t → ⊥
no_row_text w line shown meant p none ps t h =
    let P : List ℕ → Type 0 = λ bs. SpellsText bs ps in
    none ps (subst P (row_parts_once line h.shown shown h.meant meant (parts_of_row w line ps t h) p).0 h.pieces_are)

pub no_row_transfer : (w : ℕ) (line shown meant : List ℕ) → HasRowParts line shown meant → ((t : OpenTransfer) → SpellsMoves w meant t → ⊥) → (ps : List Piece) (t : OpenTransfer) → IsRowLine w line ps t → ⊥
no_row_transfer w line shown meant p none ps t h =
    let P : List ℕ → Type 0 = λ bs. SpellsMoves w bs t in
    none t (subst P (row_parts_once line h.shown shown h.meant meant (parts_of_row w line ps t h) p).1 h.transfer_is)

-- modes

mode_split : (line rest name shown meant : List ℕ) → line ≡ codes "mode " ++ rest → HasModeParts line name shown meant → IsSplitAtBar rest name (shown ++ (codes " | " ++ meant))
mode_split line rest name shown meant e h = record {
  text = append_cancel_left (codes "mode ") rest (name ++ (codes " | " ++ (shown ++ (codes " | " ++ meant)))) (sym e ∙ h.text);
  first = name_lacks 124 name refl h.named;
}

bar_once : (text a b x y : List ℕ) → IsSplitAtBar text a x → IsSplitAtBar text b y → (a ≡ b) × (x ≡ y)
bar_once text a b x y p q = bars_once a b x y p.first q.first (sym p.text ∙ q.text)

pub no_first_bar : (line rest : List ℕ) → line ≡ codes "mode " ++ rest → ((front back : List ℕ) → IsSplitAtBar rest front back → ⊥) → (name shown meant : List ℕ) → HasModeParts line name shown meant → ⊥
no_first_bar line rest e none name shown meant h = none name (shown ++ (codes " | " ++ meant)) (mode_split line rest name shown meant e h)

pub no_second_bar : (line rest front more : List ℕ) → line ≡ codes "mode " ++ rest → IsSplitAtBar rest front more → ((front back : List ℕ) → IsSplitAtBar more front back → ⊥) → (name shown meant : List ℕ) → HasModeParts line name shown meant → ⊥
no_second_bar line rest front more e p none name shown meant h =
    none shown meant (record { text = (bar_once rest front name more (shown ++ (codes " | " ++ meant)) p (mode_split line rest name shown meant e h)).1; first = h.first })

pub no_mode_name : (line rest front more : List ℕ) → line ≡ codes "mode " ++ rest → IsSplitAtBar rest front more → (IsName front → ⊥) → (name shown meant : List ℕ) → HasModeParts line name shown meant → ⊥
no_mode_name line rest front more e p none name shown meant h =
    none (subst IsName (sym (bar_once rest front name more (shown ++ (codes " | " ++ meant)) p (mode_split line rest name shown meant e h)).0) h.named)

pub parts_of_mode : (w : ℕ) (line name : List ℕ) (ps : List Piece) (t : OpenTree) (h : IsModeLine w line name ps t) → HasModeParts line name h.shown h.meant
parts_of_mode w line name ps t h = record { text = h.text; named = h.named; first = pieces_lack_bar h.shown ps h.pieces_are.spells }

record SameParts (m n a b x y : List ℕ) : Type 0 where
  name : m ≡ n
  shown : a ≡ b
  meant : x ≡ y

mode_parts_once : (line m n a b x y : List ℕ) → HasModeParts line m a x → HasModeParts line n b y → SameParts m n a b x y
mode_parts_once line m n a b x y p q =
    let texts = append_cancel_left (codes "mode ") (m ++ (codes " | " ++ (a ++ (codes " | " ++ x)))) (n ++ (codes " | " ++ (b ++ (codes " | " ++ y)))) (sym p.text ∙ q.text) in
    let first = bars_once m n (a ++ (codes " | " ++ x)) (b ++ (codes " | " ++ y)) (name_lacks 124 m refl p.named) (name_lacks 124 n refl q.named) texts in
    let second = bars_once a b x y p.first q.first first.1 in
    record { name = first.0; shown = second.0; meant = second.1 }

pub no_mode_text : (w : ℕ) (line name shown meant : List ℕ) → HasModeParts line name shown meant → ((ps : List Piece) → SpellsText shown ps → ⊥) → (n : List ℕ) (ps : List Piece) (t : OpenTree) → IsModeLine w line n ps t → ⊥
no_mode_text w line name shown meant p none n ps t h =
    let P : List ℕ → Type 0 = λ bs. SpellsText bs ps in
    none ps (subst P (mode_parts_once line n name h.shown shown h.meant meant (parts_of_mode w line n ps t h) p).shown h.pieces_are)

pub no_mode_tree : (w : ℕ) (line name shown meant : List ℕ) → HasModeParts line name shown meant → ((t : OpenTree) → SpellsTree w meant t → ⊥) → (n : List ℕ) (ps : List Piece) (t : OpenTree) → IsModeLine w line n ps t → ⊥
no_mode_tree w line name shown meant p none n ps t h =
    let P : List ℕ → Type 0 = λ bs. SpellsTree w bs t in
    none t (subst P (mode_parts_once line n name h.shown shown h.meant meant (parts_of_mode w line n ps t h) p).meant h.tree_is)
