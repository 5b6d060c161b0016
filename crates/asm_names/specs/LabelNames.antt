-- The names of the labels of a text.
use Rattle.std.specs.Prelude.{◌≡◌, ℕ, ◌<◌, List, [], ◌∷◌, ◌++◌, length, Option, Some, None, Contains}
use Rattle.rtl_tree.specs.Names.{IsName}
use Rattle.rtl_tree.specs.declared.c_names.Names.{Names}
use Rattle.md_rows.specs.declared.description.RawDescription.{RawDescription}
use Rattle.asm_program.specs.declared.places.Part.{Part}
use Rattle.asm_program.specs.declared.places.Part.TheVariants.{Outside, InText, InData}
use Rattle.asm_program.specs.TextLines.{Symbol, Said, Labelled}
use Rattle.asm_program.specs.Places.{part_after}
use Rattle.asm_program.specs.Rules.{AreSaid, IsSound}

-- the C name of the label that a line is
abbrev pub label_name : Said → Option (List ℕ)
label_name (Labelled (Symbol s)) = Some s
label_name _ = None

-- a name that is met in a part, where it is the one that is wanted, before others
abbrev pub taken : Part → Part → Option (List ℕ) → List (List ℕ) → List (List ℕ)
taken wanted part None names = names
taken InText InText (Some x) names = x ∷ names
taken InData InData (Some x) names = x ∷ names
taken _ _ (Some x) names = names

-- the names of the labels that stand in a part, where the lines begin in another
abbrev pub names_in : Part → Part → List Said → List (List ℕ)
names_in wanted part [] = []
names_in wanted part (s ∷ ss) = taken wanted part (label_name s) (names_in wanted (part_after part s) ss)

-- the names of a text's labels, in order
pub record AreNamesOf (n : Names) (all : List Said) : Type 0 where
  pub objects : n.objects ≡ names_in InData Outside all
  pub functions : n.functions ≡ names_in InText Outside all

-- a text that keeps the rules
pub record IsSoundText (d : RawDescription) (text : List ℕ) (all : List Said) : Type 0 where
  pub said : AreSaid text all
  pub sound : IsSound d all

-- names with one more, which is met in a part
abbrev pub Adds : Part → Option (List ℕ) → Names → Names → Type 0
Adds part None old new = (new.objects ≡ old.objects) × (new.functions ≡ old.functions)
Adds InText (Some x) old new = (new.objects ≡ old.objects) × (new.functions ≡ old.functions ++ x ∷ [])
Adds InData (Some x) old new = (new.objects ≡ old.objects ++ x ∷ []) × (new.functions ≡ old.functions)
Adds Outside (Some x) old new = (new.objects ≡ old.objects) × (new.functions ≡ old.functions)

-- a name can be added
pub record IsNew (n : Names) (x : List ℕ) : Type 0 where
  pub name : IsName x
  pub object : Contains n.objects x → ⊥
  pub function : Contains n.functions x → ⊥
  pub objects : length n.objects < 65536
  pub functions : length n.functions < 65536

abbrev pub CanAdd : Names → Option (List ℕ) → Type 0
CanAdd n None = Unit {0}
CanAdd n (Some x) = IsNew n x
