-- A table of numbers under names.
use Rattle.std.specs.Prelude.{ℕ, Option, Some, None, List}
use Rattle.std.specs.Str.{bytes_eq}
use Rattle.std.specs.Borrow.{Bor}
use Rattle.std.specs.HashMap.{HashMap, get_by}

abbrev pub number_at : {S : Type 0} → HashMap (Bor (List ℕ)) ℕ S → List ℕ → Option ℕ
number_at table name = get_by (λ k. bytes_eq name k.now) table

abbrev pub first_of : Option ℕ → Option ℕ → Option ℕ
first_of (Some k) b = Some k
first_of None b = b
