-- The roles of the registers of an accepted description, and the liveness on its machine.
use Rattle.std.proofs.Common.{◌≡◌, ◌≢◌, ℕ, ◌<◌, List, [], Option, Some, None, Result, Ok, Err, sym, ap, subst, ◌∙◌}
use Rattle.std.specs.Prelude.{◌==◌, All, AllPairs, IfOk}
use Rattle.std.specs.Option.{unwrap_or}
use Rattle.std.proofs.lemmas.Option.{none-some, same_Some}
use Rattle.std.proofs.lemmas.Nat.Bits.{bit_at-zero}
use Rattle.rtl_tree.specs.declared.memory.NoMemory.{NoMemory}
use Rattle.temp_machine.specs.Routines.{Target}
use Rattle.temp_code.specs.declared.code.Code.{Code}
use Rattle.temp_code.specs.Routines.{routine_of}
use Rattle.flow_blocks.specs.declared.flows.Flow.{Flow}
use Rattle.flow_blocks.specs.Flows.{IsFlow}
use Rattle.md_rows.specs.declared.description.RawDescription.{RawDescription}
use Rattle.md_rows.specs.declared.description.Register.{Register}
use Rattle.md_rows.specs.declared.description.Role.TheVariants.{Stack, Result as TheResult}
use Rattle.md_rows.specs.Instances.{general_set}
use Rattle.md_shapes.specs.Shapes.{Frame}
use Rattle.md_covers.specs.Covers.{first_with, frame_in, frame_with, general_bits}
use Rattle.md_said.specs.Limits.{SaidIsLimited}
use Rattle.md_check.specs.Checking.{IsChecked}
use Rattle.temp_laws.specs.Targets.{target_of}
use Rattle.flow_live.specs.declared.standing.Roles.{Roles}
use Rattle.flow_live.specs.declared.tables.Live.{Live}
use Rattle.flow_live.specs.Tables.{IsLiveness}
use Rattle.flow_live.specs.Rows.{has_bit}
use Rattle.flow_live.specs.Walks.{AreRolesOf}

abbrev pub BitsAreSum : Type 0
BitsAreSum = (rs : List Register) → All (λ r. r.number < 64) rs → AllPairs (λ r s. r.number ≢ s.number) rs → general_bits rs ≡ general_set rs

record Framed (s q : Option ℕ) (frame : Frame) : Type 0 where
  stack : frame.stack ≡ unwrap_or s 0
  result : frame.result ≡ unwrap_or q 0

framed : (d : RawDescription) (s q : Option ℕ) (frame : Frame) → frame_with d s q ≡ Some frame → Framed s q frame
framed d (Some s) (Some q) frame e =
    let f = same_Some _ frame e in record { stack = sym (ap (λ (x : Frame). x.stack) f); result = sym (ap (λ (x : Frame). x.result) f) }
framed d (Some s) None frame e = absurd (none-some frame e)
framed d None q frame e = absurd (none-some frame e)

sum_of : (w : ℕ) (d : RawDescription) → SaidIsLimited → BitsAreSum → IsChecked w d → general_bits d.registers ≡ general_set d.registers
sum_of w d limited sums c =
    let l = limited c.text c.said c.accepted.says in
    subst (λ (x : RawDescription). general_bits x.registers ≡ general_set x.registers) (sym c.normal) (sums c.said.registers l.numbers l.apart)

pub word_of : (w : ℕ) (d : RawDescription) → IsChecked w d → d.word ≡ w
word_of w d c = ap (λ (x : RawDescription). x.word) c.normal ∙ c.word

pub roles_are : (w : ℕ) (d : RawDescription) (frame : Frame) (x : Roles) → SaidIsLimited → BitsAreSum → IsChecked w d → frame_in d ≡ Some frame
    → x.stack ≡ unwrap_or (first_with Stack d.registers) 0 → x.result ≡ unwrap_or (first_with TheResult d.registers) 0 → x.general ≡ general_bits d.registers → x.kept ≡ 0
    → AreRolesOf (target_of d frame []) x
roles_are w d frame x limited sums c is stack result general kept =
    let f = framed d (first_with Stack d.registers) (first_with TheResult d.registers) frame is in
    record {
      stack = f.stack ∙ sym stack;
      result = f.result ∙ sym result;
      general = λ n l. ap (λ (g : ℕ). has_bit g n) (general ∙ sum_of w d limited sums c);
      kept = λ n l. ap (λ (g : ℕ). has_bit g n) kept ∙ ap (λ (b : ℕ). b == 1) (bit_at-zero n);
    }

-- what is told by roles is told by the description that has them
pub told_of : (w : ℕ) (d m : RawDescription) (roles : Roles) (c : Code) (f : Flow) → d ≡ m → IsChecked w d → IsFlow w (routine_of c) f
    → ((w : ℕ) (frame : Frame) → IsChecked w d → frame_in d ≡ Some frame → AreRolesOf (target_of d frame []) roles) → (r : Result Live NoMemory)
    → IfOk r (λ l. (t : Target) → AreRolesOf t roles → IsFlow t.word (routine_of c) f → IsLiveness t (routine_of c) l)
    → IfOk r (λ l. (frame : Frame) → frame_in m ≡ Some frame → IsLiveness (target_of m frame []) (routine_of c) l)
told_of w d m roles c f same checked flow are (Ok l) told =
    subst (λ (x : RawDescription). (frame : Frame) → frame_in x ≡ Some frame → IsLiveness (target_of x frame []) (routine_of c) l) same
    (λ frame is. told (target_of d frame []) (are w frame checked is) (subst (λ (n : ℕ). IsFlow n (routine_of c) f) (sym (word_of w d checked)) flow))
told_of w d m roles c f same checked flow are (Err e) told = tt
