-- The machine of a linked program with registers, flags and memory apart, an instruction a turn.
use Rattle.std.specs.Prelude.{ℕ, suc, List, [], Option, Some, None, true, slice_get, slice_index, Result, Ok, Err}
use Rattle.rtl_tree.specs.declared.cells.Cell.{Cell}
use Rattle.rtl_tree.specs.declared.cells.Cell.TheVariants.{Hard, Pc, Input}
use Rattle.behaviour.specs.Behaviour.{Trapped, Wild as WildRun}
use Rattle.behaviour.specs.Run.{Run}
use Rattle.behaviour.specs.Steps.{Move, Goes, Stops, Fails, Machine, run}
use Rattle.rtl_value.specs.declared.state.Trap.TheVariants.{Place}
use Rattle.rtl_effect.specs.Views.{Stop, Traps, Wild, Mark, Gone, View}
use Rattle.rtl_effect.specs.Effects.{next_in, Done, effect}
use Rattle.machine_run.specs.Machine.{trap_number}
use Rattle.temp_machine.specs.Machine.{printed_with, first_byte}
use Rattle.link_code.specs.Linked.{Transfer, Job, program}
use Rattle.link_code.proofs.Labels.{label_place}

pub record Mach : Type 0 where
  pub place : ℕ
  pub regs : ℕ → Option ℕ
  pub flags : ℕ → Mark
  pub bytes : ℕ → Option ℕ
  pub input : List ℕ
  pub out : List ℕ

abbrev pub or_zero : Option ℕ → Option ℕ
or_zero (Some n) = Some n
or_zero None = Some 0

module _ (j : Job) where
  abbrev pub cell_of : Mach → Cell → Option ℕ
  cell_of m (Hard n) = m.regs n
  cell_of m Pc = Some (suc m.place)
  cell_of m Input = Some (next_in j.t.word m.input)
  cell_of m _ = Some 0

  -- all may be touched, and a label is the number of an instruction
  abbrev pub view_of : Mach → View
  view_of m = record {
    cells = cell_of m;
    flags = m.flags;
    size = j.t.memory;
    bytes = m.bytes;
    reach = λ a. true;
    symbols = λ n. slice_index j.p.symbols n;
    labels = λ l. Some (label_place j l);
    targets = λ l. Some (label_place j l);
    places = λ n. Some n;
    input = m.input;
  }

  abbrev pub mach_with : View → ℕ → List ℕ → Mach
  mach_with v place out = record { place = place; regs = λ n. v.cells (Hard n); flags = v.flags; bytes = v.bytes; input = v.input; out = out }

  abbrev pub moved : Option ℕ → View → List ℕ → Move Mach
  moved (Some p) v out = Goes (mach_with v p out)
  moved None v out = Fails out WildRun

  abbrev pub ends : Option ℕ → Option ℕ → View → List ℕ → Move Mach
  ends (Some n) q v out = Stops out n
  ends None q v out = moved q v out

  abbrev pub turned : Mach → Result Done Stop → Move Mach
  turned m (Ok d) = ends d.halt d.place d.view (printed_with m.out d.output)
  turned m (Err (Traps k)) = Fails m.out (Trapped (trap_number k) m.place)
  turned m (Err Wild) = Fails m.out WildRun

  abbrev pub turn : Mach → Option Transfer → Move Mach
  turn m (Some ms) = turned m (effect j.t.word ms (view_of m))
  turn m None = Fails m.out (Trapped (trap_number Place) m.place)

  abbrev pub step : Mach → Move Mach
  step m = turn m (slice_get (program j) m.place)

  abbrev pub printed : Mach → List ℕ
  printed m = m.out

  abbrev pub machine : Machine
  machine = record { State = Mach; step = step; printed = printed }

  -- registers 0, flags lost, the data in memory and 0 elsewhere
  abbrev pub start : List ℕ → Mach
  start input = record { place = 0; regs = λ n. Some 0; flags = λ n. Gone; bytes = λ a. or_zero (first_byte j.t j.p a); input = input; out = [] }

  abbrev pub machine_runs : List ℕ → Run
  machine_runs input n = run machine (start input) n
