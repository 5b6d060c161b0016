-- The cases of a switch, each with its label.
use Rattle.std.specs.Prelude.{ℕ, ◌+◌, List, [], ◌∷◌, map, Option, Some, None}
use Rattle.naive_code.specs.Operations.{Branches, Op, Close, constant}
use Rattle.naive_code.specs.Statements.{shifted}
use Rattle.rtl_word.specs.declared.Rel.TheVariants.{Eq}
use Rattle.naive_stat.specs.declared.cases.Case.{Case}

abbrev pub case_of : Case → Option ℕ × ℕ
case_of c = (c.value, c.label)

abbrev pub cases_of : List Case → List (Option ℕ × ℕ)
cases_of = map case_of

-- labels that are counted from one on
abbrev pub placed : ℕ → List (Option ℕ × ℕ) → List (Option ℕ × ℕ)
placed l = map (shifted l)

-- a comparison for each case that has a value, and where no case has it
abbrev pub compared : (value temp label : ℕ) → List (Option ℕ × ℕ) → List Op
compared r t l [] = []
compared r t l ((Some v, k) ∷ rest) = constant t v ∷ Close (Branches Eq r t k) l ∷ compared r (t + 1) (l + 1) rest
compared r t l ((None, k) ∷ rest) = compared r t l rest

abbrev pub default_of : (behind : ℕ) → List (Option ℕ × ℕ) → ℕ
default_of behind [] = behind
default_of behind ((Some v, k) ∷ rest) = default_of behind rest
default_of behind ((None, k) ∷ rest) = k
