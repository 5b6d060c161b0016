-- What a turn that neither prints nor ends comes to.
use Rattle.std.specs.Prelude.{ℕ, ◌≡◌, List, [], Option, Some, None, slice_set, Result, Ok, Err}
use Rattle.rtl_value.specs.declared.state.Trap.{Trap}
use Rattle.rtl_value.specs.declared.state.FlagPair.{FlagPair}
use Rattle.machine_turn.specs.declared.held.Held.{Held}
use Rattle.machine_turn.specs.Held.{state_of}
use Rattle.machine_turn.specs.Turn.{Made}
use Rattle.machine_effect.specs.Turns.{On, turned_by}
use Rattle.machine_forms.specs.declared.forms.FlagTo.{FlagTo}
use Rattle.machine_forms.specs.declared.forms.FlagTo.TheVariants.{Compared, Lost}
use Rattle.machine_forms.specs.declared.forms.FlagsTo.{FlagsTo}

-- all that was made is held, and the program goes on at a place; or the transfer traps, and nothing has changed
abbrev pub GoesAs : Result Made Trap → Held → Held → Result ℕ Trap → Type 0
GoesAs made old new (Ok place) = turned_by made (state_of old) ≡ On (state_of new) place []
GoesAs made old new (Err trap) = (made ≡ Err trap) × (new ≡ old)

-- flags with what becomes of one beside a value that is compared with a number
abbrev pub flag_in : FlagTo → ℕ → ℕ → List (Option FlagPair) → List (Option FlagPair)
flag_in (Compared n) x k fs = slice_set fs n (Some (record { left = x; right = k }))
flag_in (Lost n) x k fs = slice_set fs n None

-- of three, the first counts where they are one
abbrev pub flags_in : ℕ → FlagsTo → List (Option FlagPair) → List (Option FlagPair)
flags_in x f fs = flag_in (Compared f.first) x f.number (flag_in f.second x f.number (flag_in f.third x f.number fs))
