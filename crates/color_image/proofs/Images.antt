-- A coloured image is an image.
use Rattle.std.proofs.Common.{◌≡◌, ◌≢◌, ℕ, ◌+◌, ◌-◌, ◌^◌, ◌<◌, ◌≤◌, List, length, Some, All, sym, subst}
use Rattle.rtl_tree.specs.Moves.{Move}
use Rattle.temp_machine.specs.Routines.{Calls, Image, Target}
use Rattle.temp_machine.specs.Machine.{callee_of}
use Rattle.temp_machine.specs.Live.{Place, End, item_at}
use Rattle.temp_machine.specs.Tidy.{room}
use Rattle.temp_machine.specs.Whole.{HasLabel, outgoing_words}
use Rattle.temp_machine.specs.Units.{IsSound, IsImage}
use Rattle.color_code.specs.Colors.{Seats}
use Rattle.color_transfer.specs.Code.{IsColoredRoutine}
use Rattle.color_table.specs.Tables.{Table}
use Rattle.color_steps.specs.Laws.{IsColoredProgram}
use Rattle.color_image.specs.Laws.{HasStraightSpills, ColoredIsImage}
use Rattle.color_image.proofs.Routines.{length_same, label_was, call_stood, same_calls, outgoing_same, whole_on, framed_on, straight_still}

module _ (t : Target) (old new : Image) (colors : ℕ → List ℕ) (seats : ℕ → Seats) (live : ℕ → Table) (is : IsColoredProgram t old new colors seats live)
    (rooms : (f : ℕ) → room (old.routines f) ≤ 2 ^ 32 - 2) (spills : (f : ℕ) → HasStraightSpills t (new.routines f)) where
  colored : (f : ℕ) → IsColoredRoutine t (seats f) (old.routines f) (new.routines f)
  colored = is.colored.routines

  blocks_same : (f : ℕ) → length (new.routines f).blocks ≡ length (old.routines f).blocks
  blocks_same f = length_same t (seats f) (old.routines f) (new.routines f) (colored f)

  sound : (f : ℕ) → 0 < length (new.routines f).blocks → IsSound t (new.routines f)
  sound f stands =
      let s = is.image.routines f (subst (λ (n : ℕ). 0 < n) (blocks_same f) stands) in
      record {
        whole = whole_on t (seats f) (old.routines f) (new.routines f) (colored f) s.whole (rooms f);
        framed = framed_on t (seats f) (old.routines f) (new.routines f) (colored f) s.framed;
        straight = straight_still t (seats f) (old.routines f) (new.routines f) (colored f) is.target (is.general f) s.straight (spills f);
      }

  labels : (f g l : ℕ) → f ≢ g → HasLabel (new.routines f) l → HasLabel (new.routines g) l → ⊥
  labels f g l ne h k =
      is.image.labels f g l ne (label_was t (seats f) (old.routines f) (new.routines f) (colored f) l h) (label_was t (seats g) (old.routines g) (new.routines g) (colored g) l k)

  arguments : (f g : ℕ) (at : Place) (ms : List Move) → item_at (new.routines f) at ≡ Some (End (Calls ms)) → callee_of t.word ms ≡ Some g
      → (new.routines g).params ≤ outgoing_words t (new.routines f)
  arguments f g at ms i goes =
      let c = call_stood t (seats f) (old.routines f) (new.routines f) (colored f) at ms i in
      subst (λ (n : ℕ). n ≤ outgoing_words t (new.routines f)) (sym (colored g).params)
      (subst (λ (n : ℕ). (old.routines g).params ≤ n) (sym (outgoing_same t (seats f) (old.routines f) (new.routines f) (colored f)))
      (is.image.arguments f g c.0 ms c.1 goes))

  image : IsImage t new
  image = record {
    bytes = subst (λ xs. All (λ b. b < 256) xs) (sym is.colored.bytes) is.image.bytes;
    symbols = subst (λ xs. All (λ a. a < 2 ^ t.word) xs) (sym is.colored.symbols) is.image.symbols;
    room = subst (λ (xs : List ℕ). t.base + length xs + t.stack ≤ t.memory) (sym is.colored.bytes) is.image.room;
    main = subst (λ (f : ℕ). 0 < length (new.routines f).blocks) (sym is.colored.main) (subst (λ (n : ℕ). 0 < n) (sym (blocks_same old.main)) is.image.main);
    routines = sound;
    labels = labels;
    arguments = arguments;
  }

pub colored_is_image : ColoredIsImage
colored_is_image t old new colors seats live is rooms spills = record {
  image = image t old new colors seats live is rooms spills;
  plain = λ f. (is.colored.routines f).plain;
  calls = λ f. same_calls t (seats f) (old.routines f) (new.routines f) (is.colored.routines f);
}
