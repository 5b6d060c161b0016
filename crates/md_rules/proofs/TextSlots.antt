-- Tests of the holes of a text, piece by piece.
use Rattle.std.proofs.Common.{◌≡◌, ℕ, Bool, ◌||◌, List, [], ◌∷◌, refl, ap, ◌∙◌}
use Rattle.std.specs.List.{list_any}
use Rattle.md_text.specs.Pieces.{Slot, slots, slot_names}
use Rattle.md_forms.specs.Seen.{piece_of, pieces_of, slot_of}
use Rattle.md_forms.specs.declared.pieces.Piece.{Piece}
use Rattle.md_forms.specs.declared.pieces.Piece.TheVariants.{Name, Number, Mark, Hole}
use Rattle.md_rules.specs.Slots.{is_slot_with}
use Rattle.md_rules.proofs.Lists.{list_any-map}

pub any_slot : (t : Slot → Bool) (ps : List Piece) → list_any t (slots (pieces_of ps)) ≡ list_any (λ p. is_slot_with t (piece_of p)) ps
any_slot t [] = refl
any_slot t (Name bytes ∷ ps) = any_slot t ps
any_slot t (Number z ∷ ps) = any_slot t ps
any_slot t (Mark b ∷ ps) = any_slot t ps
any_slot t (Hole h ∷ ps) = ap (λ b. t (slot_of h) || b) (any_slot t ps)

pub any_slot_name :
    (t : List ℕ → Bool) (ps : List Piece) → list_any t (slot_names (pieces_of ps)) ≡ list_any (λ p. is_slot_with (λ h. t h.name) (piece_of p)) ps
any_slot_name t ps = list_any-map t (λ h. h.name) (slots (pieces_of ps)) ∙ any_slot (λ h. t h.name) ps
