-- Places that were opened, by what the code keeps of them.
use Rattle.std.specs.Prelude.{◌≡◌, ℕ, Bool, true, false, List, [], ◌∷◌}
use Rattle.naive_code.specs.Operations.{Op, copy}
use Rattle.naive_code.specs.Expressions.{Designated, element, opened, storage_in}
use Rattle.naive_expr.specs.declared.places.Opened.{Opened}
use Rattle.naive_expr.specs.Seen.{storage_of}

abbrev pub is_element : Designated → Bool
is_element (element s i) = true
is_element _ = false

-- how much deeper than the whole a value stands that is to be assigned
abbrev pub beside_by : Bool → ℕ
beside_by true = 1
beside_by false = 0

abbrev pub settled_by : Bool → (at value : ℕ) → List Op
settled_by true a v = copy a v ∷ []
settled_by false a v = []

abbrev pub settled_in_by : Bool → (at value : ℕ) → ℕ
settled_in_by true a v = a
settled_in_by false a v = v

-- the place was opened by temporaries from t on
pub record IsOpened (o : Opened) (p : Designated) (t : ℕ) : Type 0 where
  pub storage : storage_of o.storage ≡ storage_in p
  pub at : o.at ≡ (opened p).result t
  pub element : o.is_element ≡ is_element p
