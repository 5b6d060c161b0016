-- When code does the operations of a function, place by place.
use Rattle.std.specs.Prelude.{◌≡◌, ◌⊎◌, ℕ, suc, ◌-◌, ◌==◌, if◌then◌else◌, List, [], ◌∷◌, Some, None, Ok, Contains, All}
use Rattle.rtl_word.specs.declared.Rel.{Rel}
use Rattle.rtl_tree.specs.declared.cells.Cell.TheVariants.{Temp}
use Rattle.rtl_tree.specs.declared.cells.Lab.TheVariants as label
use Rattle.rtl_tree.specs.declared.expressions.BinOp.TheVariants as op
use Rattle.rtl_tree.specs.Moves.{Move}
use Rattle.rtl_norm.specs.Transfers.{IsMoveFitting}
use Rattle.rtl_effect.specs.Views.{View}
use Rattle.rtl_effect.specs.Effects.{Done, effect}
use Rattle.rtl_norm_value.specs.Effect.{with_normal_jump}
use Rattle.rtl_norm_value.specs.Kept.{IsWordView}
use Rattle.md_filled.specs.Doing.{IsSameBut, DoesAs}
use Rattle.md_shapes.specs.declared.patterns.Pattern.{Pattern}
use Rattle.md_shapes.specs.declared.patterns.Pattern.TheVariants as shape
use Rattle.md_shapes.specs.Shapes.{Frame as Fixed, Open, shape_moves}
use Rattle.temp_machine.specs.Routines.{Falls, Jumps, Branches, Calls, Returns, Routine}
use Rattle.temp_machine.specs.Machine.{position, callee_of}
use Rattle.temp_machine.specs.Live.{Place, Transfer, End, item_at}
use Rattle.naive_code.specs.Operations as code
use Rattle.naive_code.specs.Operations.{Stop, Op, Make, Meet, Scale, Extend, Close, on_two, with_number}

-- wherever the one can be done on words, two others in turn do the same but for flags, and the first of them is not seen
pub record DoesInTwo (w : ℕ) (wanted first second : List Move) : Type 0 where
  pub does : (v : View) (d : Done) → IsWordView w v → effect w wanted v ≡ Ok d
      → (e f : Done) × (effect w first v ≡ Ok e) × (effect w second e.view ≡ Ok f) × (e.output ≡ None) × (e.halt ≡ None) × IsSameBut wanted d f

-- a transfer of a shape
pub record Shaped : Type 0 where
  pub pattern : Pattern
  pub at : Open

abbrev pub shaped : Pattern → Open → Shaped
shaped p o = record { pattern = p; at = o }

-- the exponent of 2 of a word's bytes
abbrev pub log_bytes : ℕ → ℕ
log_bytes w = if w == 16 then 1 else 2

-- a shift by it; or an addition to itself, twice where a word has four bytes
abbrev pub doubled : ℕ → ℕ → List Shaped
doubled w a = shaped (shape.Operate op.Add) (on_two a a) ∷ (if w == 16 then [] else shaped (shape.Operate op.Add) (on_two a a) ∷ [])

abbrev pub shifted : ℕ → ℕ → ℕ → List Shaped
shifted w a spare = shaped shape.SetNumber (with_number spare (log_bytes w)) ∷ shaped (shape.Operate op.Shl) (on_two a spare) ∷ []

-- up and down again; or through the lowest of the outgoing arguments
abbrev pub shifted_twice : ℕ → ℕ → ℕ → List Shaped
shifted_twice w a spare =
    shaped shape.SetNumber (with_number spare (w - 8)) ∷ shaped (shape.Operate op.Shl) (on_two a spare) ∷ shaped (shape.Operate op.Shr) (on_two a spare) ∷ []

abbrev pub stored_and_loaded : ℕ → ℕ → List Shaped
stored_and_loaded a spare =
    shaped shape.ReadStack (on_two spare spare) ∷ shaped shape.StoreByte (on_two spare a) ∷ shaped shape.LoadByte (on_two a spare) ∷ []

-- the ways to do an operation that ends no block
abbrev pub ways : ℕ → Op → List (List Shaped)
ways w (Make p o) = (shaped p o ∷ []) ∷ []
ways w (Meet a b) =
    (shaped (shape.Operate op.And) (on_two a b) ∷ []) ∷ (shaped shape.Complement (on_two b b) ∷ shaped shape.Clear (on_two a b) ∷ []) ∷ []
ways w (Scale a spare) = shifted w a spare ∷ doubled w a ∷ []
ways w (Extend a spare) = (shaped shape.ExtendByte (on_two a a) ∷ []) ∷ shifted_twice w a spare ∷ stored_and_loaded a spare ∷ []
ways w (Close stop l) = []

abbrev pub with_label : ℕ → Open
with_label l = record { a = Temp 0; b = Temp 0; number = 0; symbol = 0; label = label.Block l }

abbrev pub on_two_to : ℕ → ℕ → ℕ → Open
on_two_to a b l = record { a = Temp a; b = Temp b; number = 0; symbol = 0; label = label.Block l }

module _ (w : ℕ) (m : Fixed) (r : Routine) where
  abbrev pub wanted : Shaped → List Move
  wanted s = shape_moves m s.pattern s.at

  -- a transfer at a place does the shape's, whose numbers are words
  pub record HasShaped (s : Shaped) (p next : Place) : Type 0 where
    pub transfer : List Move
    pub at : item_at r p ≡ Some (Transfer transfer)
    pub numbers : All (IsMoveFitting w) (wanted s)
    pub does : DoesAs w (wanted s) transfer
    pub behind : next ≡ record { block = p.block; at = suc p.at }

  abbrev pub HasAll : List Shaped → Place → Place → Type 0
  HasAll [] p next = next ≡ p
  HasAll (s ∷ rest) p next = (q : Place) × HasShaped s p q × HasAll rest q next

  -- the end of a block at a place
  abbrev pub Ends : Stop → Place → Type 0
  Ends code.Falls p = item_at r p ≡ Some (End Falls)
  Ends (code.Jumps l) p =
      (ms : List Move) × (item_at r p ≡ Some (End (Jumps ms))) × DoesAs w (wanted (shaped shape.Jump (with_label l))) (with_normal_jump w ms)
  Ends (code.Branches rel a b l) p =
      (ms : List Move) × (item_at r p ≡ Some (End (Branches ms)))
      × DoesAs w (wanted (shaped (shape.Branch rel) (on_two_to a b l))) (with_normal_jump w ms)
  Ends (code.Calls f) p = (ms : List Move) × (item_at r p ≡ Some (End (Calls ms))) × (callee_of w ms ≡ Some f)
  Ends code.Returns p = item_at r p ≡ Some (End Returns)

  -- by a flag a branch is a comparison and a jump that tests it: the two do together what the branch does
  pub record EndsByFlag (rel : Rel) (a b l : ℕ) (p q : Place) : Type 0 where
    pub compares : List Move
    pub at : item_at r p ≡ Some (Transfer compares)
    pub behind : q ≡ record { block = p.block; at = suc p.at }
    pub jumps : List Move
    pub end : item_at r q ≡ Some (End (Branches jumps))
    pub does : DoesInTwo w (wanted (shaped (shape.Branch rel) (on_two_to a b l))) compares (with_normal_jump w jumps)

  abbrev pub IsClosed : Stop → Place → Place → Type 0
  IsClosed (code.Branches rel a b l) p q = (Ends (code.Branches rel a b l) p × (q ≡ p)) ⊎ EndsByFlag rel a b l p q
  IsClosed stop p q = Ends stop p × (q ≡ p)

  -- the code does an operation between two places; the block that is opened is the one of its label, and the next one
  abbrev pub One : Op → Place → Place → Type 0
  One (Close stop l) p next =
      (q : Place) × IsClosed stop p q × (position r.blocks l 0 ≡ suc p.block) × (next ≡ record { block = suc p.block; at = 0 })
  One o p next = (way : List Shaped) × Contains (ways w o) way × HasAll way p next

  -- the operations, in order
  abbrev pub Stands : List Op → Place → Place → Type 0
  Stands [] p next = next ≡ p
  Stands (o ∷ os) p next = (q : Place) × One o p q × Stands os q next
