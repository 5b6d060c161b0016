-- A turn on what a machine holds is a turn of the definition.
use Rattle.std.proofs.Common.{◌≡◌, ℕ, zero, suc, ◌+◌, ◌<◌, Bool, true, false, List, [], ◌∷◌, ◌++◌, length, slice_index, Option, Some, None, Result, Ok, Err, refl, sym, ap, ◌∙◌, subst}
use Rattle.std.proofs.lemmas.List.Elements.{All-head, All-tail}
use Rattle.std.specs.Prelude.{slice_get, All}
use Rattle.behaviour.specs.Behaviour.{Trapped}
use Rattle.behaviour.specs.Steps.{Move as Turn, Goes, Stops, Fails}
use Rattle.rtl_tree.specs.Moves.{Move}
use Rattle.rtl_tree.specs.declared.cells.Cell.{Cell}
use Rattle.rtl_tree.specs.declared.cells.Cell.TheVariants.{Hard, Temp, Flag, Pc, Input, Output, Halt, Hole}
use Rattle.rtl_value.specs.declared.state.Trap.{Trap}
use Rattle.rtl_value.specs.declared.state.State.{State}
use Rattle.rtl_value.specs.Values.{cell_of}
use Rattle.rtl_effect.specs.Views.{View}
use Rattle.rtl_effect.specs.Effects.{takes, cell_after, next_in, rest_of, input_after, patched, Done, view_after, effect}
use Rattle.machine_run.specs.Machine.{Code, MachineState, byte_out, view_at, after_effect, turn_of, turn}
use Rattle.machine_turn.specs.declared.assigned.Stored.{Stored}
use Rattle.machine_turn.specs.Held.{IsCellRead}
use Rattle.machine_turn.specs.Turn.{word_given, Made, made_by, memory_with, IsStored}
use Rattle.machine_effect.specs.Turns.{at_place, after_made, halted_by, turned_by, turn_on, takes_at, bytes_taken, EndMeans}
use Rattle.machine_effect.specs.Standing.{Shows, Stands, TurnIs}
use Rattle.machine_effect.specs.Law.{IsMade, TurnIsTurn}
use Rattle.machine_effect.proofs.Storing.{stored_length, patch_shown}
use Rattle.machine_effect.proofs.Making.{patch_for, MadeAs, Comes, trapped, made, comes, effect_made, effect_traps}

-- the input that is left
input_left : (b : Bool) (given : Option ℕ) (more input : List ℕ) → input ≡ bytes_taken b given ++ more → EndMeans b given more → input_after b input ≡ more
input_left true (Some x) more input e h = ap rest_of e
input_left true None more input e h = ap rest_of (e ∙ h) ∙ sym h
input_left false given more input e h = e

-- what the program reads of the input is the word of the byte that was given
given_word : (w : ℕ) (b : Bool) (given : Option ℕ) (more : List ℕ) → EndMeans b given more → b ≡ true → next_in w (bytes_taken b given ++ more) ≡ word_given w given
given_word w true (Some x) more h e = refl
given_word w true None more h e = ap (next_in w) h
given_word w false given more h e = absurd (let k : false ≡ true = e in cc)

memory_size : (o : Option Stored) (m : List ℕ) → length (memory_with o m) ≡ length m
memory_size None m = refl
memory_size (Some b) m = stored_length b.count m b.at b.value

module _ (w : ℕ) (s : State) (v : View) (h : Shows w s v) where
  memory_shown : (o : Option Stored) (a : ℕ) → IsStored (length s.memory) o → a < length s.memory
      → patched (patch_for o) v.bytes a ≡ Some (slice_index (memory_with o s.memory) a)
  memory_shown None a i l = h.bytes a l
  memory_shown (Some b) a i l = patch_shown w s v h b.count b.at b.value a i l

  module _ (ms : List Move) (d : Made) (b : MadeAs w s v h ms d) where
    abbrev next_view : View
    next_view = view_after w ms (patch_for d.outcome.stored) v

    abbrev next_state : State
    next_state = at_place d.outcome.place (after_made d s)

    cells_shown : (c : Cell) → IsCellRead c → (view_at d.outcome.place next_view).cells c ≡ Some (cell_of w next_state c)
    cells_shown (Hard k) l = b.cells k l
    cells_shown (Temp k) l = ap (λ o. cell_after w o v (v.cells (Temp k))) (b.temps k) ∙ h.cells (Temp k) l
    cells_shown (Flag k) l = refl
    cells_shown Pc l = refl
    cells_shown Input l = absurd l
    cells_shown Output l = refl
    cells_shown Halt l = refl
    cells_shown (Hole k) l = refl

    shows_next : Shows w next_state (view_at d.outcome.place next_view)
    shows_next = record {
      cells = cells_shown;
      flags = b.flags;
      size = h.size ∙ sym (memory_size d.outcome.stored s.memory);
      bytes = λ a l. memory_shown d.outcome.stored a b.fits_memory (subst (λ n. a < n) (memory_size d.outcome.stored s.memory) l);
      reach = h.reach;
      symbols = h.symbols;
      labels = h.labels;
      targets = h.targets;
      places = h.places;
    }

module _ (w : ℕ) (s : State) (m : MachineState) (h : Shows w (at_place m.place s) (view_at m.place m.view)) (given : Option ℕ) (more : List ℕ) where
  abbrev here : View
  here = view_at m.place m.view

  abbrev now : State
  now = at_place m.place s

  halt_turn : (ms : List Move) (d : Made) (status : Option ℕ) → input_after (takes ms) m.view.input ≡ more → MadeAs w now here h ms d
      → effect w ms here ≡ Ok (record { view = view_after w ms (patch_for d.outcome.stored) here; place = Some d.outcome.place; output = d.outcome.printed; halt = status })
      → TurnIs w more m (after_effect m (effect w ms here)) (halted_by status d now)
  halt_turn ms d None i b e = (
    (record { place = d.outcome.place; view = view_after w ms (patch_for d.outcome.stored) here; printed = m.printed ++ byte_out d.outcome.printed }),
    (rw e refl),
    (record { place_is = refl; shows = shows_next w now here h ms d b; input_is = i; next = ap (λ input. Some (next_in w input)) i }),
    refl,
  )
  halt_turn ms d (Some status) i b e = rw e refl

  made_turn : (ms : List Move) (r : Result Made Trap) → input_after (takes ms) m.view.input ≡ more → Comes w now here h ms r
      → TurnIs w more m (after_effect m (effect w ms here)) (turned_by r now)
  made_turn ms r i (trapped c e) = rw (effect_traps w now here h ms c e) refl
  made_turn ms r i (made d e b) = halt_turn ms d d.outcome.status i b (effect_made w now here h ms d e b)

  line_turn : (o : Option (List Move)) → ((ms : List Move) → o ≡ Some ms → IsMade w ms) → length s.registers ≡ 64 → length s.flags ≡ 8
      → m.view.input ≡ bytes_taken (takes_at o) given ++ more → m.view.cells Input ≡ Some (next_in w (bytes_taken (takes_at o) given ++ more))
      → EndMeans (takes_at o) given more → TurnIs w more m (turn_of w o m) (turn_on w o given m.place s)
  line_turn None a many eight i n e = refl
  line_turn (Some ms) a many eight i n e =
      made_turn ms (made_by w given ms now) (input_left (takes ms) given more m.view.input i e)
      (comes w now here h (Unit {0}) given ms many eight (a ms refl)
      (λ t. n ∙ ap (λ x. Some x) (given_word w (takes ms) given more e t)))

abbrev some_of : Option (List Move) → List Move → List Move
some_of (Some ms) d = ms
some_of None d = d

some_is : (t ms : List Move) → Some t ≡ Some ms → t ≡ ms
some_is t ms e = ap (λ o. some_of o t) e

made_at : (w : ℕ) (ts : List (List Move)) → All (IsMade w) ts → (k : ℕ) (ms : List Move) → slice_get ts k ≡ Some ms → IsMade w ms
made_at w [] a k ms e = absurd (let n : None ≡ Some ms = e in cc)
made_at w (t ∷ ts) a zero ms e = subst (IsMade w) (some_is t ms e) (All-head (IsMade w) t ts a)
made_at w (t ∷ ts) a (suc k) ms e = made_at w ts (All-tail (IsMade w) t ts a) k ms e

pub turn_is_turn : TurnIsTurn
turn_is_turn p a place s many eight given more m st e =
    subst
    (λ k. Shows p.word (at_place k s) (view_at k m.view) → m.view.input ≡ bytes_taken (takes_at (slice_get p.transfers k)) given ++ more
    → m.view.cells Input ≡ Some (next_in p.word (bytes_taken (takes_at (slice_get p.transfers k)) given ++ more))
    → EndMeans (takes_at (slice_get p.transfers k)) given more
    → TurnIs p.word more m (turn p m) (turn_on p.word (slice_get p.transfers k) given k s))
    st.place_is
    (λ h i n en. line_turn p.word s m h given more (slice_get p.transfers m.place) (made_at p.word p.transfers a m.place) many eight i n en)
    st.shows st.input_is st.next e
