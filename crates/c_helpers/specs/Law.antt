-- What the helpers compute.
use Rattle.std.specs.Prelude.{◌≡◌, ℕ, ◌^◌, ◌<◌, Some}
use Rattle.rtl_word.specs.Words.{IsWordSize}
use Rattle.c_helpers.specs.Code.{Helper, started, Ends, computes, IsHelper}
use Rattle.c_helpers.specs.declared.operator.Operator.{Operator}
use Rattle.c_helpers.specs.Operators.{given_by, helper_of}

-- w turns suffice for each of its loops, and it returns v
pub record Gives (w : ℕ) (h : Helper) (x y v : ℕ) : Type 0 where
  pub ends : Ends w h.code (started h x y)
  pub value : computes w h x y ≡ v

-- each helper returns what its operator gives, wherever that is defined
abbrev pub HelpersCompute : Type 0
HelpersCompute =
    (w : ℕ) → IsWordSize w → (o : Operator) (x y v : ℕ) → x < 2 ^ w → y < 2 ^ w
    → given_by w o x y ≡ Some v → Gives w (helper_of w o) x y v

-- a helper's numbers are words, and it names its parameters and its locals alone
abbrev pub HelpersFit : Type 0
HelpersFit = (w : ℕ) → IsWordSize w → (o : Operator) → IsHelper w (helper_of w o)
