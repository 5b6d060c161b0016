-- A coloured unit of naive codes is a coloured program.
use Rattle.std.proofs.Common.{◌≡◌, ℕ, ◌<◌, ◌==◌, if◌then◌else◌, Bool, true, false, List, [], ◌∷◌, length, Some, None, refl, sym, ap, subst, arith}
use Rattle.std.specs.Prelude.{All}
use Rattle.std.specs.List.{AllZip}
use Rattle.std.proofs.lemmas.List.Elements.{All-head, All-tail}
use Rattle.std.proofs.lemmas.Option.{none-some}
use Rattle.md_rows.specs.declared.description.RawDescription.{RawDescription}
use Rattle.md_shapes.specs.Shapes.{Frame}
use Rattle.md_covers.specs.Covers.{frame_in}
use Rattle.md_check.specs.Checking.{IsChecked}
use Rattle.temp_machine.specs.Routines.{Routine, no_routine, Target}
use Rattle.temp_machine.specs.Live.{Transfer}
use Rattle.temp_machine.specs.Units.{IsImage}
use Rattle.temp_code.specs.declared.code.Code.{Code}
use Rattle.temp_code.specs.declared.code.Unit.{Unit as Program}
use Rattle.temp_code.specs.Realised.{AreRealised}
use Rattle.temp_code.specs.Routines.{routine_of, routine_in, image_of, number_in, main_name}
use Rattle.temp_laws.specs.Targets.{target_of}
use Rattle.color_code.specs.Colors.{Seats}
use Rattle.color_registers.specs.Registers.{colors_of}
use Rattle.color_transfer.specs.Code.{IsColoredRoutine}
use Rattle.color_holding.specs.Places.{AreGeneral}
use Rattle.color_table.specs.Tables.{Table, IsColorable, AreCalm}
use Rattle.color_steps.specs.Laws.{IsColoredProgram, KeepsColored}
use Rattle.color_image.specs.Laws.{HasStraightSpills}
use Rattle.live_decided.specs.Decided.{LivenessIsDecided}
use Rattle.color_units.specs.Units.{IsColoredBySome, IsColoredUnit, ColorsAreGeneral}
use Rattle.naive_units.specs.Units.{IsGoodCode}
use Rattle.pass_driver.specs.Units.{UnitsAreKept}
use Rattle.pass_driver.proofs.Codes.{AreLaws, is_target, colorable, calm}

-- the laws that are cited
pub record Cited : Type 0 where
  pub codes : AreLaws
  pub general : ColorsAreGeneral
  pub decided : LivenessIsDecided

module _ (laws : Cited) (w : ℕ) (d : RawDescription) (frame : Frame) (count : ℕ) (checked : IsChecked w d) (fixed : frame_in d ≡ Some frame) where
  abbrev machine : Target
  machine = target_of d frame []

  abbrev pub Good : Code → Type 0
  Good = IsGoodCode [] d frame count

  -- what holds of a routine and of the coloured one in its place; it may be that neither is there
  pub record IsAt (old new : Routine) : Type 0 where
    pub seats : Seats
    pub colored : IsColoredRoutine machine seats old new
    pub general : AreGeneral machine seats
    pub straight : HasStraightSpills machine new
    pub colorable : 0 < length old.blocks → IsColorable machine old (colors_of d) seats
    pub calm : 0 < length old.blocks → (live : Table) → AreCalm machine old live

  none_at : IsAt no_routine no_routine
  none_at = record {
    seats = λ k. None;
    colored = record { params = refl; frame = refl; first_home = refl; slots = refl; homes = refl; blocks = tt; plain = refl };
    general = λ k c e. absurd (none-some c e);
    straight = λ p ms i s. absurd (none-some (Transfer ms) i);
    colorable = λ l. absurd (omega (arith, l));
    calm = λ l. absurd (omega (arith, l));
  }

  code_at : (b c : Code) → Good b → AreRealised d b → IsColoredBySome d machine b c → IsAt (routine_of b) (routine_of c)
  code_at b c good rows h = record {
    seats = h.seats;
    colored = h.code.routine;
    general = laws.general w d frame [] (routine_of b) h.seats checked h.coloring;
    straight = h.code.straight;
    colorable = λ l. colorable laws.codes w d frame count checked fixed b good rows h.seats h.coloring;
    calm = λ l. calm laws.codes w d frame count checked fixed b good rows;
  }

  first_of : (b c : Bool) (x y p q : Routine) → c ≡ b → IsAt x y → IsAt p q → IsAt (if b then x else p) (if c then y else q)
  first_of b c x y p q e h k = subst (λ z. IsAt (if b then x else p) (if z then y else q)) (sym e) (by b)
    where
      by : (b : Bool) → IsAt (if b then x else p) (if b then y else q)
      by true = h
      by false = k

  pub at_function : (f : ℕ) (old new : List Code) → All Good old → All (AreRealised d) old → AllZip (IsColoredBySome d machine) old new
      → IsAt (routine_in old f) (routine_in new f)
  at_function f [] [] good rows z = none_at
  at_function f (b ∷ bs) (c ∷ cs) good rows z =
      first_of (b.function == f) (c.function == f) (routine_of b) (routine_of c) (routine_in bs f) (routine_in cs f) (ap (λ n. n == f) z.0.code.function)
      (code_at b c (All-head Good b bs good) (All-head (AreRealised d) b bs rows) z.0)
      (at_function f bs cs (All-tail Good b bs good) (All-tail (AreRealised d) b bs rows) z.1)
  at_function f [] (c ∷ cs) good rows z = absurd z
  at_function f (b ∷ bs) [] good rows z = absurd z

  module _ (u v : Program) (image : IsImage machine (image_of u)) (good : All Good u.codes) (rows : All (AreRealised d) u.codes) (colored : IsColoredUnit d frame u v) where
    abbrev pub at : (f : ℕ) → IsAt (routine_in u.codes f) (routine_in v.codes f)
    at f = at_function f u.codes v.codes good rows colored.codes

    abbrev pub colors : ℕ → List ℕ
    colors f = colors_of d

    abbrev pub seats : ℕ → Seats
    seats f = (at f).seats

    abbrev pub live : ℕ → Table
    live f = (laws.decided machine (routine_in u.codes f)).0

    pub is_colored : IsColoredProgram machine (image_of u) (image_of v) colors seats live
    is_colored = record {
      none_kept = refl;
      target = is_target laws.codes w d frame count checked fixed;
      image = image;
      colored = record {
        routines = λ f. (at f).colored;
        main = ap (λ names. number_in names.functions main_name) colored.names;
        symbols = colored.symbols;
        bytes = colored.bytes;
      };
      general = λ f. (at f).general;
      colorable = λ f. (at f).colorable;
      exact = λ f l. (laws.decided machine (routine_in u.codes f)).1;
      calm = λ f l. (at f).calm l (live f);
    }

pub units_are_kept : Cited → KeepsColored → UnitsAreKept
units_are_kept laws keeps w d t u v checked n colored =
    let count = length t.functions in
    keeps (target_of d n.frame []) (image_of u) (image_of v) (colors laws w d n.frame count checked n.fixed u v n.good.image n.good.codes n.realised colored)
    (seats laws w d n.frame count checked n.fixed u v n.good.image n.good.codes n.realised colored)
    (live laws w d n.frame count checked n.fixed u v n.good.image n.good.codes n.realised colored)
    (is_colored laws w d n.frame count checked n.fixed u v n.good.image n.good.codes n.realised colored)
