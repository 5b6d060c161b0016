-- The run of a linked program is that of the machine whose state holds a view and whose labels are a list.
use Rattle.std.proofs.Common.{◌≡◌, ℕ, zero, suc, ◌+◌, ◌-◌, ◌≤◌, ◌&&◌, Bool, true, false, cond, List, [], ◌∷◌, ◌++◌, length, arith, Option, Some, None, Result, refl, sym, ap, ◌∙◌, subst, append-nil}
use Rattle.std.specs.Prelude.{nat_le, nat_lt, slice_get, slice_index}
use Rattle.std.proofs.lemmas.Bool.{leb-true, ltb-false}
use Rattle.rtl_tree.specs.declared.cells.Cell.{Cell}
use Rattle.rtl_tree.specs.declared.cells.Cell.TheVariants.{Hard, Temp, Flag, Pc, Input, Output, Halt, Hole}
use Rattle.rtl_tree.specs.declared.cells.Lab.{Lab}
use Rattle.behaviour.specs.Run.{NeverFails, Same, AreBytes}
use Rattle.behaviour.specs.Steps.{Machine, MovesAlike, Lockstep}
use Rattle.behaviour.proofs.Simulation.{simulation_same, lockstep_simulates}
use Rattle.behaviour.proofs.Sameness.{same_trans, target_never_fails, keep_of_same}
use Rattle.machine_run.proofs.Runs.{only_prints as only_turns}
use Rattle.rtl_effect.specs.Views.{Stop, Traps, Wild, View}
use Rattle.rtl_effect.specs.Effects.{takes, next_in, input_after, Patch, view_after, Done, effect}
use Rattle.rtl_effect.specs.Agree.{Tells, word, Marks, gone, stops, gives, Alike, AgreeBy, Ground, AllWithin}
use Rattle.rtl_effect.proofs.EffectGrowth.{both_made, IsMade, effect_made, sight_after, Patches, same_all}
use Rattle.rtl_effect.proofs.SeenGrowth.{tells_self}
use Rattle.temp_machine.specs.Machine.{printed_with, first_byte, temporary_run}
use Rattle.link_code.proofs.Memory.{false_true}
use Rattle.machine_run.specs.Machine.{Code, MachineState, label_in, start_byte, view_at, byte_out, halted, after_effect, turn_of, turn, start as full_start, machine_run as full_run}
use Rattle.link_code.specs.Linked.{Transfer, Job, program}
use Rattle.link_code.specs.Runs.{is_no_temporary, IsLinkable, IsLinked, LinkedKeeps}
use Rattle.link_code.proofs.Labels.{label_place}
use Rattle.link_code.proofs.Listing.{labels_found}
use Rattle.link_code.proofs.Machine.{Mach, or_zero, view_of, mach_with, ends, turned, turn as small_turn, step, machine, start}
use Rattle.link_code.proofs.Running.{only_prints, linked_runs}

-- what the program's list of lines, labels and data owes
record Realises (j : Job) (p : Code) : Type 0 where
  pub bits : p.word ≡ j.t.word
  pub size : p.size ≡ j.t.memory
  pub lines : p.transfers ≡ program j
  pub symbols : (n : ℕ) → slice_index j.p.symbols n ≡ slice_index p.symbols n
  pub labels : (l : Lab) → label_place j l ≡ label_in p.labels l
  pub bytes : (a : ℕ) → or_zero (first_byte j.t j.p a) ≡ Some (start_byte p a)
  -- no temporary stands in a line
  pub flat : (k : ℕ) (ms : Transfer) → slice_get (program j) k ≡ Some ms → AllWithin is_no_temporary ms

slice_index_past : (xs : List ℕ) (n : ℕ) → length xs ≤ n → slice_index xs n ≡ 0
slice_index_past [] n h = refl
slice_index_past (x ∷ xs) zero h = absurd (omega (arith, h))
slice_index_past (x ∷ xs) (suc n) h = slice_index_past xs n (omega (arith, h))

abbrev inner : Cell → Bool
inner (Temp n) = false
inner Pc = false
inner c = true

module _ (j : Job) (p : Code) (real : Realises j p) where
  abbrev full : Machine
  full = record { State = MachineState; step = turn p; printed = λ s. s.printed }

  record Pair (m : Mach) (s : MachineState) : Type 0 where
    pub place : m.place ≡ s.place
    pub out : m.out ≡ s.printed
    pub cells : (c : Cell) → inner c ≡ true → Tells ((view_of j m).cells c) (s.view.cells c)
    pub flags : (n : ℕ) → Marks (m.flags n) (s.view.flags n)
    pub bytes : (a : ℕ) → Tells (m.bytes a) (s.view.bytes a)
    pub size : j.t.memory ≡ s.view.size
    pub reach : (a : ℕ) → s.view.reach a ≡ true
    pub symbols : (n : ℕ) → slice_index j.p.symbols n ≡ s.view.symbols n
    pub labels : (l : Lab) → Some (label_place j l) ≡ s.view.labels l
    pub targets : (l : Lab) → Some (label_place j l) ≡ s.view.targets l
    pub places : (n : ℕ) → Some n ≡ s.view.places n
    pub input : m.input ≡ s.view.input

  as_told : (x y : Option ℕ) → x ≡ y → Tells x y
  as_told x y e = subst (Tells x) e (tells_self x)

  module _ (m : Mach) (s : MachineState) (h : Pair m s) where
    abbrev z : View
    z = view_at s.place s.view

    cells_tell : (c : Cell) → is_no_temporary c ≡ true → Tells ((view_of j m).cells c) ((view_at s.place s.view).cells c)
    cells_tell (Hard n) on = h.cells (Hard n) refl
    cells_tell (Temp n) on = false_true on
    cells_tell Pc on = as_told _ _ (ap (λ k. Some (suc k)) h.place)
    cells_tell Input on = h.cells Input refl
    cells_tell (Flag n) on = h.cells (Flag n) refl
    cells_tell Output on = h.cells Output refl
    cells_tell Halt on = h.cells Halt refl
    cells_tell (Hole n) on = h.cells (Hole n) refl

    ground : Ground (view_of j m) z
    ground = record {
      bytes = h.bytes;
      size = h.size;
      reach = λ a e. h.reach a;
      symbols = h.symbols;
      labels = λ l. as_told _ _ (h.labels l);
      targets = h.targets;
      places = h.places;
      place = ap (λ k. Some (suc k)) h.place;
    }

    agrees : AgreeBy Alike is_no_temporary (view_of j m) z
    agrees = record {
      sight = record { cells = cells_tell; flags = λ n on. h.flags n; land = record { bytes = h.bytes; size = h.size; reach = λ a e. h.reach a; symbols = h.symbols; labels = λ l. as_told _ _ (h.labels l) } };
      input = h.input;
      on = ap (λ k. Some (suc k)) h.place;
    }

    shown : (o : Option ℕ) → printed_with m.out o ≡ s.printed ++ byte_out o
    shown None = h.out ∙ sym (append-nil s.printed)
    shown (Some b) = ap (λ xs. xs ++ b ∷ []) h.out

    module _ (ms : Transfer) (flat : AllWithin is_no_temporary ms) where
      after : (q q' : Option Patch) → Patches q q' → (k : ℕ) (o : Option ℕ)
          → Pair (mach_with j (view_after j.t.word ms q (view_of j m)) k (printed_with m.out o)) (record { place = k; view = view_after j.t.word ms q' z; printed = s.printed ++ byte_out o })
      after q q' same k o =
          let g = sight_after Alike is_no_temporary (view_of j m) z agrees j.t.word ms flat (same_all (view_of j m) z ground ms) is_no_temporary (λ c on n. on) (λ on. cells_tell Pc refl) q q' same in
          record {
            place = refl;
            out = shown o;
            cells = cells g.cells;
            flags = λ n. g.flags n refl;
            bytes = g.land.bytes;
            size = h.size;
            reach = h.reach;
            symbols = h.symbols;
            labels = h.labels;
            targets = h.targets;
            places = h.places;
            input = ap (input_after (takes ms)) h.input;
          }
        where
          cells : ((c : Cell) → is_no_temporary c ≡ true → Tells ((view_after j.t.word ms q (view_of j m)).cells c) ((view_after j.t.word ms q' z).cells c))
              → (c : Cell) → inner c ≡ true → Tells ((view_of j (mach_with j (view_after j.t.word ms q (view_of j m)) k (printed_with m.out o))).cells c) ((view_after j.t.word ms q' z).cells c)
          cells g (Hard n) on = g (Hard n) refl
          cells g (Temp n) on = false_true on
          cells g Pc on = false_true on
          cells g Input on = g Input refl
          cells g (Flag n) on = g (Flag n) refl
          cells g Output on = g Output refl
          cells g Halt on = g Halt refl
          cells g (Hole n) on = g (Hole n) refl

      alike : (d e : Result Done Stop) → IsMade Alike is_no_temporary (view_of j m) z agrees j.t.word ms flat (same_all (view_of j m) z ground ms) d e → MovesAlike Pair (turned j m d) (after_effect s e)
      alike d e (stops (Traps k) y) = tt
      alike d e (stops Wild y) = tt
      alike d e (gives x y (both_made o hh q q' a b same r is_patch w)) =
          subst (λ t. MovesAlike Pair (ends j hh q (view_after j.t.word ms a (view_of j m)) (printed_with m.out o)) (halted hh t (view_after j.t.word ms b z) (s.printed ++ byte_out o))) r (by hh q)
        where
          by : (hh q : Option ℕ) → MovesAlike Pair (ends j hh q (view_after j.t.word ms a (view_of j m)) (printed_with m.out o)) (halted hh q (view_after j.t.word ms b z) (s.printed ++ byte_out o))
          by (Some n) q = (shown o, refl)
          by None (Some k) = after a b same k o
          by None None = tt

    step_alike : MovesAlike Pair (step j m) (turn p s)
    step_alike =
        subst (λ w. MovesAlike Pair (step j m) (turn_of w (slice_get p.transfers s.place) s)) (sym real.bits)
        (subst (λ xs. MovesAlike Pair (step j m) (turn_of j.t.word (slice_get xs s.place) s)) (sym real.lines)
        (subst (λ k. MovesAlike Pair (step j m) (turn_of j.t.word (slice_get (program j) k) s)) h.place
        (by (slice_get (program j) m.place) refl)))
      where
        by : (o : Option Transfer) → slice_get (program j) m.place ≡ o → MovesAlike Pair (small_turn j m o) (turn_of j.t.word o s)
        by None e = tt
        by (Some ms) e =
            alike ms (real.flat m.place ms e) (effect j.t.word ms (view_of j m)) (effect j.t.word ms (view_at s.place s.view))
            (effect_made Alike is_no_temporary (view_of j m) (view_at s.place s.view) agrees j.t.word ms (real.flat m.place ms e) (same_all (view_of j m) (view_at s.place s.view) ground ms))

  lockstep : Lockstep (machine j) full Pair
  lockstep = record { same_output = λ m s h. h.out; moves = step_alike }

  begins : (input : List ℕ) → Pair (start j input) (full_start p input)
  begins input = record {
    place = refl;
    out = refl;
    cells = cells;
    flags = λ n. gone _;
    bytes = λ a. as_told _ _ (real.bytes a);
    size = sym real.size;
    reach = λ a. refl;
    symbols = real.symbols;
    labels = λ l. ap Some (real.labels l);
    targets = λ l. ap Some (real.labels l);
    places = λ n. refl;
    input = refl;
  }
    where
      cells : (c : Cell) → inner c ≡ true → Tells ((view_of j (start j input)).cells c) ((full_start p input).view.cells c)
      cells (Hard n) on = word 0
      cells (Temp n) on = false_true on
      cells Pc on = false_true on
      cells Input on = as_told _ _ (ap (λ w. Some (next_in w input)) (sym real.bits))
      cells (Flag n) on = word 0
      cells Output on = word 0
      cells Halt on = word 0
      cells (Hole n) on = word 0

  -- the routines' run is the whole machine's run
  full_runs : IsLinkable j → (input : List ℕ) → AreBytes input → NeverFails (temporary_run j.t j.p input) → Same (temporary_run j.t j.p input) (full_run p input)
  full_runs is input fed never =
      let first = linked_runs j is input fed never in
      same_trans _ _ _ first
      (simulation_same (machine j) full Pair (lockstep_simulates (machine j) full Pair lockstep) (only_prints j) (only_turns p) (start j input) (full_start p input) (begins input) (target_never_fails _ _ first))

-- the first byte of the data, or 0
started_byte : (j : Job) (p : Code) → p.base ≡ j.t.base → p.bytes ≡ j.p.bytes → (a : ℕ) → or_zero (first_byte j.t j.p a) ≡ Some (start_byte p a)
started_byte j p e f a = by (nat_le j.t.base a) (nat_lt a (j.t.base + length j.p.bytes)) refl refl ∙ (λ i. Some (cond (nat_le (sym e i) a) (slice_index (sym f i) (a - sym e i)) 0))
  where
    by : (x y : Bool) → nat_le j.t.base a ≡ x → nat_lt a (j.t.base + length j.p.bytes) ≡ y
        → or_zero (cond (x && y) (Some (slice_index j.p.bytes (a - j.t.base))) None) ≡ Some (cond x (slice_index j.p.bytes (a - j.t.base)) 0)
    by false y g h = refl
    by true true g h = refl
    by true false g h =
        let l : j.t.base ≤ a = leb-true _ _ g in
        let m : j.t.base + length j.p.bytes ≤ a = ltb-false _ _ h in
        ap Some (sym (slice_index_past j.p.bytes (a - j.t.base) (omega (arith, l, m))))

realised : (j : Job) (p : Code) → IsLinked j p → Realises j p
realised j p l = record {
  bits = l.bits;
  size = l.size;
  lines = l.lines;
  symbols = λ n. ap (λ xs. slice_index xs n) (sym l.symbols);
  labels = λ x. labels_found j x ∙ ap (λ xs. label_in xs x) (sym l.labels);
  bytes = started_byte j p l.base l.bytes;
  flat = l.flat;
}

pub linked_keeps : LinkedKeeps
linked_keeps j is p l = keep_of_same (full_run p) (temporary_run j.t j.p) (λ input fed never. full_runs j p (realised j p l) is input fed never)
