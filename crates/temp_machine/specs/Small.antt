-- The temporary machine a transfer a step, for proofs that go transfer by transfer.
use Rattle.std.specs.Prelude.{ℕ, zero, suc, List, Option, Some, None}
use Rattle.behaviour.specs.Behaviour.{Wild as WildRun}
use Rattle.behaviour.specs.Run.{Run}
use Rattle.behaviour.specs.Steps.{Move as Step, Goes, Stops, Fails, Machine, run}
use Rattle.rtl_effect.specs.Views.{View}
use Rattle.rtl_effect.specs.Effects.{effect}
use Rattle.temp_machine.specs.Routines.{Image, Target}
use Rattle.temp_machine.specs.Machine.{State, view_in, made, exit_made, fits_stack, if_it_fits, begin, routine_of}
use Rattle.temp_machine.specs.Live.{Item, Transfer, End, item_at}

-- a point inside a block: the state at the block's begin, how many transfers were made, and what they changed and printed
pub record Point : Type 0 where
  pub state : State
  pub at : ℕ
  pub view : View
  pub printed : List ℕ

abbrev pub printed_at : Point → List ℕ
printed_at c = c.printed

module _ (t : Target) (p : Image) where
  -- the begin of a block
  abbrev pub first_point : State → Point
  first_point s = record { state = s; at = 0; view = view_in t p s; printed = s.printed }

  abbrev pub entering : Step State → Step Point
  entering (Goes s) = Goes (first_point s)
  entering (Stops out status) = Stops out status
  entering (Fails out why) = Fails out why

  -- the stack is tested at the begin of a block
  abbrev pub tested_at : ℕ → State → List ℕ → Step Point → Step Point
  tested_at zero s out next = if_it_fits (fits_stack t p s) out next
  tested_at (suc k) s out next = next

  abbrev pub behind : Point → View → List ℕ → Point
  behind c v out = record { state = c.state; at = suc c.at; view = v; printed = out }

  abbrev pub item_made : Option Item → Point → Step Point
  item_made None c = Fails c.printed WildRun
  item_made (Some (Transfer ms)) c = made (effect t.word ms c.view) c.printed (λ v out label. Goes (behind c v out))
  item_made (Some (End e)) c = entering (exit_made t p e c.state c.view c.printed)

  -- one transfer, or the end of a block
  abbrev pub small_step : Point → Step Point
  small_step c = tested_at c.at c.state c.printed (item_made (item_at (routine_of t p c.state.top) (record { block = c.state.top.block; at = c.at })) c)

  abbrev pub small_machine : Machine
  small_machine = record { State = Point; step = small_step; printed = printed_at }

  abbrev pub small_run : List ℕ → Run
  small_run input n = run small_machine (first_point (begin t p input)) n
