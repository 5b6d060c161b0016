-- Which rules are broken, and which of them is told.
use Rattle.std.specs.Prelude.{ℕ, ◌≡◌, ◌⊎◌, Bool, ◌&&◌, ◌||◌, ◌==◌, nat_lt, if◌then◌else◌, Option, Some, None}
use Rattle.c_tree.specs.declared.token.At.{At}
use Rattle.c_typing.specs.declared.names.Fault.{Fault}

-- what a part of a program breaks: nothing, a rule at a place, or what two parts of it break
infixl 10 ◌also◌
pub data Faults : Type 0 where
  sound : Faults
  broken : ℕ → At → Faults
  ◌also◌ : Faults → Faults → Faults

-- the rule is broken at this place
abbrev pub Breaks : Faults → ℕ → At → Type 0
Breaks sound rule at = ⊥
Breaks (broken r a) rule at = (rule ≡ r) × (at ≡ a)
Breaks (f also g) rule at = Breaks f rule at ⊎ Breaks g rule at

-- the earlier place, and at one place the lesser rule
abbrev pub comes_before : Fault → Fault → Bool
comes_before a b = nat_lt a.at.line b.at.line || (a.at.line == b.at.line && (nat_lt a.at.column b.at.column || (a.at.column == b.at.column && nat_lt a.rule b.rule)))

abbrev pub fault : ℕ → At → Fault
fault r p = record { rule = r; at = p }

-- nothing else that is broken comes before it
pub record IsFirst (faults : Faults) (f : Fault) : Type 0 where
  pub breaks : Breaks faults f.rule f.at
  pub least : (rule : ℕ) (at : At) → Breaks faults rule at → comes_before (fault rule at) f ≡ Bool.false

-- the first of what was told before and what is broken here
abbrev pub note : Option Fault → Fault → Option Fault
note None f = Some f
note (Some g) f = Some (if comes_before g f then g else f)

abbrev pub notes : Option Fault → Faults → Option Fault
notes first sound = first
notes first (broken r p) = note first (fault r p)
notes first (f also g) = notes (notes first f) g

-- nothing is broken
abbrev pub clean : Faults → Bool
clean sound = Bool.true
clean (broken rule at) = Bool.false
clean (f also g) = clean f && clean g
