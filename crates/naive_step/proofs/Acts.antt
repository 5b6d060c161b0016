-- What the transfers of shapes do at a point of a call.
use Rattle.std.proofs.Common.{◌≡◌, ◌≢◌, ℕ, suc, ◌+◌, ◌%◌, ◌/◌, List, [], ◌∷◌, ◌++◌, Option, Some, None, Result, Ok, Err, refl, sym, ap, ◌∙◌, subst, arith, true, false}
use Rattle.std.specs.Prelude.{◌==◌}
use Rattle.std.proofs.lemmas.Bool.Decides.{nat_tests}
use Rattle.behaviour.specs.Steps.{Comes}
use Rattle.rtl_tree.specs.declared.cells.Cell.TheVariants.{Hard, Temp, Pc, Input, Output}
use Rattle.rtl_tree.specs.declared.expressions.Width.{Width}
use Rattle.rtl_tree.specs.Trees.{Tree, Read}
use Rattle.rtl_tree.specs.Moves.{Move}
use Rattle.rtl_effect.specs.Views.{View, seen, touched, width_of}
use Rattle.rtl_effect.specs.Effects.{Done, Patch, effect, patched, view_after, next_in, rest_of, plain, is_input}
use Rattle.md_shapes.specs.Shapes.{Frame as Fixed, shape_moves, set_cell, store_at}
use Rattle.temp_machine.specs.Routines.{Image, Target}
use Rattle.temp_machine.specs.Machine.{printed_with}
use Rattle.temp_machine.specs.Live.{Place}
use Rattle.temp_machine.specs.Small.{Point}
use Rattle.naive_run.specs.Standing.{Shaped, HasShaped}
use Rattle.naive_step.proofs.Doing.{M}
use Rattle.naive_step.proofs.Making.{Call, Fits, Inside, At, Made, make, next, routine_in}

-- a temporary is set, or becomes unset
pub record SetsTemp (a : ℕ) (x : Option ℕ) (c d : Point) : Type 0 where
  pub temp : d.view.cells (Temp a) ≡ x
  pub others : (n : ℕ) → n ≢ a → d.view.cells (Temp n) ≡ c.view.cells (Temp n)
  pub regs : (n : ℕ) → d.view.cells (Hard n) ≡ c.view.cells (Hard n)
  pub bytes : (b : ℕ) → d.view.bytes b ≡ c.view.bytes b
  pub input : d.view.input ≡ c.view.input
  pub printed : d.printed ≡ c.printed

-- so many bytes are stored
pub record Stores (at count : ℕ) (x : Option ℕ) (c d : Point) : Type 0 where
  pub temps : (n : ℕ) → d.view.cells (Temp n) ≡ c.view.cells (Temp n)
  pub regs : (n : ℕ) → d.view.cells (Hard n) ≡ c.view.cells (Hard n)
  pub bytes : (b : ℕ) → d.view.bytes b ≡ patched (Some (record { at = at; count = count; value = x })) c.view.bytes b
  pub input : d.view.input ≡ c.view.input
  pub printed : d.printed ≡ c.printed

-- a register is set, the input from a byte on is left, and so much is printed
pub record SetsReg (a : ℕ) (x : Option ℕ) (rest : List ℕ) (c d : Point) : Type 0 where
  pub reg : d.view.cells (Hard a) ≡ x
  pub others : (n : ℕ) → n ≢ a → d.view.cells (Hard n) ≡ c.view.cells (Hard n)
  pub temps : (n : ℕ) → d.view.cells (Temp n) ≡ c.view.cells (Temp n)
  pub bytes : (b : ℕ) → d.view.bytes b ≡ c.view.bytes b
  pub input : d.view.input ≡ rest
  pub printed : d.printed ≡ c.printed

pub record Prints (x : ℕ) (c d : Point) : Type 0 where
  pub temps : (n : ℕ) → d.view.cells (Temp n) ≡ c.view.cells (Temp n)
  pub regs : (n : ℕ) → d.view.cells (Hard n) ≡ c.view.cells (Hard n)
  pub bytes : (b : ℕ) → d.view.bytes b ≡ c.view.bytes b
  pub input : d.view.input ≡ c.view.input
  pub printed : d.printed ≡ c.printed ++ x % 256 ∷ []

same_number : (n : ℕ) → (n == n) ≡ true
same_number n = grind (arith, nat_tests)

other_number : (n m : ℕ) → n ≢ m → (m == n) ≡ false
other_number n m ne = grind (arith, nat_tests, ne)

module _ (t : Target) (u : Image) (m : Fixed) (k : Call) (fits : Fits t u k) where
  -- a point at a place of the call, to which the machine comes, and of which something holds
  pub record Reached (q : Place) (P : Point → Type 0) (c : Point) : Type 0 where
    pub point : Point
    pub comes : Comes (M t u) c point
    pub inside : Inside t u k point
    pub at : At t u q point
    pub fact : P point

  abbrev found : (c : Point) → List Move → Option Patch → Option ℕ → Done
  found c ms p output = record { view = view_after t.word ms p c.view; place = c.view.cells Pc; output = output; halt = None }

  module _ (s : Shaped) (p q : Place) (c : Point) (has : HasShaped t.word m (routine_in t u k) s p q) (i : Inside t u k c) (h : At t u p c) where
    made_by : (ms : List Move) (d : Done) → shape_moves m s.pattern s.at ≡ ms → effect t.word ms c.view ≡ Ok d → d.halt ≡ None → Made t u k fits c p d
    made_by ms d is does none = make t u k fits c p (shape_moves m s.pattern s.at) has.transfer d i h has.at has.numbers has.does (ap (λ x. effect t.word x c.view) is ∙ does) none

    at_next : (d : Point) → At t u (next t u k fits p) d → At t u q d
    at_next d a = subst (λ r. At t u r d) (sym has.behind) a

    pub set_temp : (a : ℕ) (e : Tree) (x : Option ℕ) → shape_moves m s.pattern s.at ≡ set_cell (Temp a) e → is_input e ≡ false → seen t.word e c.view ≡ Ok x → Reached q (SetsTemp a x c) c
    set_temp a e x is quiet sees =
        let ms = set_cell (Temp a) e in
        let does : effect t.word ms c.view ≡ Ok (found c ms None None) = rw sees refl in
        let d = made_by ms (found c ms None None) is does refl in
        record {
          point = d.point;
          comes = d.comes;
          inside = d.inside;
          at = at_next d.point d.at;
          fact = record {
            temp = d.temps a ∙ (let z : (found c ms None None).view.cells (Temp a) ≡ x = rw (same_number a) (ap plain sees) in z);
            others = λ n ne. d.temps n ∙ (let z : (found c ms None None).view.cells (Temp n) ≡ c.view.cells (Temp n) = rw (other_number n a ne) refl in z);
            regs = d.regs;
            bytes = d.bytes;
            printed = d.printed;
            input = d.input ∙ (let z : (found c ms None None).view.input ≡ c.view.input = rw quiet refl in z);
          };
        }

    pub store : (width : Width) (e : Tree) (b a : ℕ) (x : Option ℕ) → shape_moves m s.pattern s.at ≡ store_at width e (Read (Temp b)) → seen t.word e c.view ≡ Ok (Some a) → c.view.cells (Temp b) ≡ x
        → touched (width_of t.word width) c.view (Some a) ≡ Ok a → Reached q (Stores a (width_of t.word width) x c) c
    store width e b a x is sees_a sees_x touches =
        let ms = store_at width e (Read (Temp b)) in
        let patch : Option Patch = Some (record { at = a; count = width_of t.word width; value = x }) in
        let does : effect t.word ms c.view ≡ Ok (found c ms patch None) = rw (sees_a, sees_x, touches) refl in
        let d = made_by ms (found c ms patch None) is does refl in
        record {
          point = d.point;
          comes = d.comes;
          inside = d.inside;
          at = at_next d.point d.at;
          fact = record {
            temps = d.temps;
            regs = d.regs;
            bytes = d.bytes;
            input = d.input;
            printed = d.printed;
          };
        }

    pub set_reg : (a b : ℕ) → shape_moves m s.pattern s.at ≡ set_cell (Hard a) (Read (Temp b)) → Reached q (SetsReg a (c.view.cells (Temp b)) c.view.input c) c
    set_reg a b is =
        let ms = set_cell (Hard a) (Read (Temp b)) in
        let d = made_by ms (found c ms None None) is refl refl in
        record {
          point = d.point;
          comes = d.comes;
          inside = d.inside;
          at = at_next d.point d.at;
          fact = record {
            reg = d.regs a ∙ (let z : (found c ms None None).view.cells (Hard a) ≡ c.view.cells (Temp b) = rw (same_number a) refl in z);
            others = λ n ne. d.regs n ∙ (let z : (found c ms None None).view.cells (Hard n) ≡ c.view.cells (Hard n) = rw (other_number n a ne) refl in z);
            temps = d.temps;
            bytes = d.bytes;
            input = d.input;
            printed = d.printed;
          };
        }

    -- the next byte of the input is taken
    pub take : (a : ℕ) → shape_moves m s.pattern s.at ≡ set_cell (Hard a) (Read Input) → Reached q (SetsReg a (Some (next_in t.word c.view.input)) (rest_of c.view.input) c) c
    take a is =
        let ms = set_cell (Hard a) (Read Input) in
        let d = made_by ms (found c ms None None) is refl refl in
        record {
          point = d.point;
          comes = d.comes;
          inside = d.inside;
          at = at_next d.point d.at;
          fact = record {
            reg = d.regs a ∙ (let z : (found c ms None None).view.cells (Hard a) ≡ Some (next_in t.word c.view.input) = rw (same_number a) i.shows.input in z);
            others = λ n ne. d.regs n ∙ (let z : (found c ms None None).view.cells (Hard n) ≡ c.view.cells (Hard n) = rw (other_number n a ne) refl in z);
            temps = d.temps;
            bytes = d.bytes;
            input = d.input;
            printed = d.printed;
          };
        }

    pub put : (a x : ℕ) → shape_moves m s.pattern s.at ≡ set_cell Output (Read (Hard a)) → c.view.cells (Hard a) ≡ Some x → Reached q (Prints x c) c
    put a x is holds =
        let ms = set_cell Output (Read (Hard a)) in
        let does : effect t.word ms c.view ≡ Ok (found c ms None (Some (x % 256))) = rw holds refl in
        let d = made_by ms (found c ms None (Some (x % 256))) is does refl in
        record {
          point = d.point;
          comes = d.comes;
          inside = d.inside;
          at = at_next d.point d.at;
          fact = record {
            temps = d.temps;
            regs = d.regs;
            bytes = d.bytes;
            input = d.input;
            printed = d.printed;
          };
        }
