-- The rules of a text are those of what it declares.
use Rattle.std.proofs.Common.{◌≡◌, ℕ, ◌<◌, ◌≤◌, List, sym, subst, arith}
use Rattle.std.specs.declared.option.Option.TheVariants.{Some, None}
use Rattle.std.specs.Prelude.{IsErrOf}
use Rattle.std.specs.declared.result.Result.TheVariants.{Err}
use Rattle.vp_io.specs.declared.answers.Reason.{Reason}
use Rattle.md_rows.specs.declared.description.RawDescription.{RawDescription}
use Rattle.md_fault.specs.declared.MdFault.TheVariants.{Bad}
use Rattle.md_text.specs.Declarations.{Declared, Declares}
use Rattle.md_text.specs.Accepted.{Rule, BadByte, OtherVersion, NoForm, number_of, Breaks, DeclaresBad, Told, IsAccepted}
use Rattle.md_text.proofs.Declaring.{declared_once}
use Rattle.md_forms.specs.declared.rules.Told.{Told as Broken}
use Rattle.md_forms.specs.SeenRules.{rule_of}
use Rattle.md_parser.specs.FirstRules.{KeepsFirstRules}
use Rattle.md_rules.specs.Broken.{BreaksBy, IsFirst}
use Rattle.md_reader.specs.Refused.{IsRefused}

from_one : (r : Rule) → 1 ≤ number_of r
from_one BadByte = omega arith
from_one _ = omega arith

to_fourteen : (r : Rule) → number_of r < 15
to_fourteen BadByte = omega arith
to_fourteen _ = omega arith

there : (P : Declared → ℕ → Type 0) (text : List ℕ) (d : Declared) (line : ℕ) → Declares text d → P d line → DeclaresBad P text line
there P text d line p b = record { declared = d; declares = p; breaks = b }

here : (P : Declared → ℕ → Type 0) (text : List ℕ) (d : Declared) (line : ℕ) → Declares text d → DeclaresBad P text line → P d line
here P text d line p b = subst (λ e. P e line) (declared_once text b.declared d b.declares p) b.breaks

of_text : (text : List ℕ) (d : Declared) (line : ℕ) → Declares text d → (r : Rule) → BreaksBy r d line → Breaks r text line
of_text text d line p BadByte b = absurd b
of_text text d line p OtherVersion b = absurd b
of_text text d line p NoForm b = absurd b
of_text text d line p _ b = there _ text d line p b

of_declared : (text : List ℕ) (d : Declared) (line : ℕ) → Declares text d → KeepsFirstRules text → (r : Rule) → Breaks r text line → BreaksBy r d line
of_declared text d line p k BadByte b = k BadByte line (omega arith) b
of_declared text d line p k OtherVersion b = k OtherVersion line (omega arith) b
of_declared text d line p k NoForm b = k NoForm line (omega arith) b
of_declared text d line p k _ b = here _ text d line p b

not_less : (m n : ℕ) → m < n → n ≤ m → ⊥
not_less m n p q = omega arith

pub told : (text : List ℕ) (d : Declared) (t : Broken) → Declares text d → KeepsFirstRules text → IsFirst 1 15 d (Some t) → Told text (rule_of t.rule) t.line
told text d t p k first = record {
  broken = of_text text d t.line p (rule_of t.rule) first.broken;
  least_rule = λ r l lower b. first.least_rule r l (from_one r) lower (of_declared text d l p k r b);
  least_line = λ l lower b. not_less l t.line lower (first.least_line l (of_declared text d l p k (rule_of t.rule) b));
}

pub accepted : (text : List ℕ) (d : Declared) → Declares text d → KeepsFirstRules text → IsFirst 1 15 d None → IsAccepted text
accepted text d p k first = λ r line b. first r line (from_one r) (to_fourteen r) (of_declared text d line p k r b)

-- the reason that is given for what is told
pub refused :
    (text : List ℕ) (t : Broken) (given reason : Reason) → Told text (rule_of t.rule) t.line → given.line ≡ t.line → given.rule ≡ number_of (rule_of t.rule)
    → given.column ≡ 1 → given.detail ≡ 0 → IsErrOf {T = RawDescription} (Err (Bad given)) (Bad reason) → IsRefused text reason
refused text t given reason tells line rule column detail e =
    let same : given ≡ reason = cc in
    subst (IsRefused text) same
    (record { rule = rule_of t.rule; told = subst (Told text (rule_of t.rule)) (sym line) tells; number = rule; column = column; detail = detail })
