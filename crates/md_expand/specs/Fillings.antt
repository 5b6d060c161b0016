-- Fillings of the program as those of texts.
use Rattle.std.specs.Prelude.{ℕ, ◌+◌, List, [], ◌∷◌, map, length, if◌then◌else◌}
use Rattle.std.specs.Option.{option_map_or}
use Rattle.std.specs.Str.{bytes_eq}
use Rattle.std.specs.Borrow.{Bor}
use Rattle.std.specs.Global.{Vec}
use Rattle.std.specs.HashMap.{HashMap, get_by}
use Rattle.md_text.specs.Forms.{Form, ModeLine}
use Rattle.md_text.specs.Declarations.{Declaration}
use Rattle.md_text.specs.Expansion as text
use Rattle.md_forms.specs.Seen.{pieces_of}
use Rattle.md_expand.specs.declared.modes.Filling.{Filling}
use Rattle.md_expand.specs.declared.modes.Filling.TheVariants.{Itself, Alternative}

-- of an alternative the name of its mode doesn't matter
abbrev pub filling_seen : ℕ → List Declaration → Filling → text.Filling
filling_seen w ds (Itself h) = text.itself h
filling_seen w ds (Alternative pieces tree) = text.filling_of w ds (record { mode = []; text = pieces_of pieces.now; tree = tree.now })

-- the filling that a form gives for the mode of this name
abbrev pub alternative_named : ℕ → List Declaration → List ℕ → Form → List text.Filling
alternative_named w ds name (ModeLine mode pieces tree) =
    if bytes_eq mode name then text.filling_of w ds (record { mode = mode; text = pieces; tree = tree }) ∷ [] else []
alternative_named w ds name _ = []

-- the fillings under a name
abbrev pub listed : {S : Type 0} → HashMap (Bor (List ℕ)) (Vec Filling) S → List ℕ → List Filling
listed fillings name = option_map_or (λ v. v.items) (get_by (λ k. bytes_eq name k.now) fillings) []

abbrev pub all_seen : ℕ → List Declaration → List Filling → List text.Filling
all_seen w ds fs = map (filling_seen w ds) fs

-- how many holes fillings have together
abbrev pub hole_total : ℕ → List Declaration → List Filling → ℕ
hole_total w ds [] = 0
hole_total w ds (f ∷ fs) = length (text.holes_in (filling_seen w ds f).text) + hole_total w ds fs
