use Rattle.std.proofs.Common.{◌≡◌, ℕ, List, Option, Some, None, sym}
use Rattle.std.specs.Prelude.{Contains, MatchOption, slice_get}
use Rattle.rtl_tree.specs.Names.{AreNames}
use Rattle.rtl_spelling.specs.Senses.{place_among}
use Rattle.rtl_spelling.proofs.Numbers.{place_among_at, place_among_none}
use Rattle.rtl_token.proofs.senses.place_among.Goals as goal

found : (ns : List (List ℕ)) (name : List ℕ) (r : Option ℕ) → AreNames ns → MatchOption r (Contains ns name → ⊥) (λ i. slice_get ns i ≡ Some name) → r ≡ place_among ns name
found ns name None h m = sym (place_among_none ns name m)
found ns name (Some i) h m = sym (place_among_at ns name i h.different m)

pub returns : goal.returns
returns c = found c.args.list.now c.args.name.now c.find.result c.len.ensures.names c.find.ensures
