-- Transfers that are put into the open block, as operations.
use Rattle.std.proofs.Common.{◌≡◌, ℕ, ◌<◌, ◌-◌, ◌^◌, false, List, [], ◌∷◌, ◌++◌, Result, Ok, Err, refl, sym, subst, ap, ◌∙◌, inl, inr, arith}
use Rattle.std.specs.Prelude.{Contains, IfOk}
use Rattle.std.proofs.lemmas.List.{append_assoc, append-nil}
use Rattle.rtl_word.specs.Words.{IsWordSize}
use Rattle.rtl_tree.specs.declared.memory.NoMemory.{NoMemory}
use Rattle.rtl_tree.specs.declared.cells.Cell.{Cell}
use Rattle.rtl_tree.specs.declared.cells.Cell.TheVariants.{Hard, Temp, Flag, Pc, Input, Output, Halt, Hole}
use Rattle.md_rows.specs.declared.description.RawDescription.{RawDescription}
use Rattle.md_shapes.specs.declared.patterns.Pattern.{Pattern}
use Rattle.md_shapes.specs.declared.patterns.Pattern.TheVariants.{SetNumber}
use Rattle.md_shapes.specs.Shapes.{Frame as Fixed, Open}
use Rattle.md_covers.specs.Numbers.{IsNumberOf, runs_of}
use Rattle.md_covers.specs.Covers.{IsGeneral}
use Rattle.temp_code.specs.declared.code.Transfer.{Transfer}
use Rattle.temp_code.specs.declared.code.End.{End}
use Rattle.temp_shapes.specs.declared.rows.ShapeRows.{ShapeRows}
use Rattle.temp_shapes.specs.Elementary.{IsTemporary, IsElementary, IsTransferOf}
use Rattle.temp_laws.specs.Doing.{ends_block}
use Rattle.naive_code.specs.Operations.{Stop, Op, Make, Close}
use Rattle.naive_run.specs.Standing.{Shaped, shaped, ways}
use Rattle.naive_builder.specs.declared.builder.Builder.{Builder}
use Rattle.naive_builder.specs.Covered.{AreOperands}
use Rattle.naive_builder.specs.Appending.{Emitted, emitted, fixed_in, with_transfers, with_end, IsMade, AllMade, IsEnd, AppendsOne, puts, closes, Appends, nothing, one_more, Emits, Puts}

-- ---- operands

general_of : (g : ℕ) (c : Cell) → IsTemporary c → IsGeneral g c
general_of g (Temp n) h = tt
general_of g (Hard n) h = absurd h
general_of g (Flag n) h = absurd h
general_of g Pc h = absurd h
general_of g Input h = absurd h
general_of g Output h = absurd h
general_of g Halt h = absurd h
general_of g (Hole n) h = absurd h

-- temporaries, with a number of the shape
pub operands_of : (d : RawDescription) (pattern : Pattern) (p q : Open) → p ≡ q → IsTemporary q.a → IsTemporary q.b → IsNumberOf (runs_of d.word pattern) q.number
    → AreOperands d pattern p
operands_of d pattern p q e a b n =
    subst (λ (x : Open). AreOperands d pattern x) (sym e) (record { fit = record { a = general_of _ q.a a; b = general_of _ q.b b; number = n }; a = a; b = b })

-- each word is a number of its shape
pub word_number : (w n : ℕ) → n < 2 ^ w → IsNumberOf (runs_of w SetNumber) n
word_number w n h = inl (record { place = n; within = h; is = omega arith })

-- so is what is less than the bits of a word
pub less_than_bits : (w n : ℕ) → IsWordSize w → n ≡ w → n - 8 < 2 ^ w
less_than_bits w n (inl e) h =
    let small : n - 8 < 2 ^ 16 = omega (arith, e, h) in
    subst (λ (k : ℕ). n - 8 < 2 ^ k) (sym e) small
less_than_bits w n (inr e) h =
    let small : n - 8 < 2 ^ 32 = omega (arith, e, h) in
    subst (λ (k : ℕ). n - 8 < 2 ^ k) (sym e) small

-- ---- transfers

pub made_by : (d : RawDescription) (rows : ShapeRows) (pattern : Pattern) (p : Open) (r : Result Transfer NoMemory) → AreOperands d pattern p
    → IfOk r (IsTransferOf d (fixed_in d rows) pattern p) → IfOk r (λ t. IsTemporary p.a → IsTemporary p.b → IsElementary d t)
    → IfOk r (IsMade d (fixed_in d rows) (shaped pattern p))
made_by d rows pattern p (Ok t) o h k = record { operands = o.fit; transfer = h; elementary = k o.a o.b }
made_by d rows pattern p (Err e) o h k = tt

pub made_at : (d : RawDescription) (rows : ShapeRows) (pattern : Pattern) (p q : Open) (t : Transfer) → p ≡ q → IsMade d (fixed_in d rows) (shaped pattern p) t
    → IsMade d (fixed_in d rows) (shaped pattern q) t
made_at d rows pattern p q t e h = subst (λ (x : Open). IsMade d (fixed_in d rows) (shaped pattern x) t) e h

all_made_then : (d : RawDescription) (m : Fixed) (ss : List Shaped) (ts : List Transfer) (rs : List Shaped) (us : List Transfer) → AllMade d m ss ts → AllMade d m rs us
    → AllMade d m (ss ++ rs) (ts ++ us)
all_made_then d m [] [] rs us h k = k
all_made_then d m (s ∷ ss) (t ∷ ts) rs us h k = (h.0, h.1, all_made_then d m ss ts rs us h.2 k)
all_made_then d m [] (t ∷ ts) rs us h k = absurd h
all_made_then d m (s ∷ ss) [] rs us h k = absurd h

-- one transfer that was made is put into the block
pub puts_one : (d : RawDescription) (rows : ShapeRows) (a b : Builder) (pattern : Pattern) (p q : Open) (t : Transfer) → p ≡ q → ends_block pattern ≡ false
    → IsMade d (fixed_in d rows) (shaped pattern p) t → emitted b ≡ with_transfers (emitted a) (t ∷ []) → Puts d rows a (shaped pattern q ∷ []) b
puts_one d rows a b pattern p q t e n h code =
    subst (λ (x : Open). Puts d rows a (shaped pattern x ∷ []) b) e (record { transfers = t ∷ []; made = (n, h, tt); code = code })

pub puts_then : (d : RawDescription) (rows : ShapeRows) (a b c : Builder) (ss rs : List Shaped) → Puts d rows a ss b → Puts d rows b rs c → Puts d rows a (ss ++ rs) c
puts_then d rows a b c ss rs h k = record {
  transfers = h.transfers ++ k.transfers;
  made = all_made_then d (fixed_in d rows) ss h.transfers rs k.transfers h.made k.made;
  code = k.code ∙ (ap (λ (s : Emitted). with_transfers s k.transfers) h.code
      ∙ ap (λ (ts : List Transfer). record { blocks = a.blocks; label = a.label; body = ts }) (append_assoc a.body h.transfers k.transfers));
}

-- ---- operations

appends_one : (d : RawDescription) (m : Fixed) (s t : Emitted) (o : Op) → AppendsOne d m s o t → Appends d m s (o ∷ []) t
appends_one d m s t o h = one_more s t t o [] h (nothing t)

-- the transfers of one of its ways do an operation
pub emits_way : (d : RawDescription) (rows : ShapeRows) (a b : Builder) (o : Op) (way : List Shaped) → Contains (ways d.word o) way → Puts d rows a way b
    → Emits d rows a (o ∷ []) b
emits_way d rows a b o way c h =
    subst (λ (s : Emitted). Appends d (fixed_in d rows) (emitted a) (o ∷ []) s) (sym h.code)
    (appends_one d (fixed_in d rows) (emitted a) (with_transfers (emitted a) h.transfers) o (puts (emitted a) o way h.transfers c h.made))

-- an operation of one transfer
pub emits_made : (d : RawDescription) (rows : ShapeRows) (a b : Builder) (pattern : Pattern) (p : Open) → Puts d rows a (shaped pattern p ∷ []) b
    → Emits d rows a (Make pattern p ∷ []) b
emits_made d rows a b pattern p h = emits_way d rows a b (Make pattern p) (shaped pattern p ∷ []) (0, omega arith, refl) h

-- the end of a block, behind the transfer that it needs
pub emits_end : (d : RawDescription) (rows : ShapeRows) (a b c : Builder) (stop : Stop) (l : ℕ) (ts : List Transfer) (e : End) → IsEnd d (fixed_in d rows) stop ts e
    → emitted b ≡ with_transfers (emitted a) ts → emitted c ≡ with_end (emitted b) e l → Emits d rows a (Close stop l ∷ []) c
emits_end d rows a b c stop l ts e h p q =
    subst (λ (s : Emitted). Appends d (fixed_in d rows) (emitted a) (Close stop l ∷ []) s) (sym (q ∙ ap (λ (s : Emitted). with_end s e l) p))
    (appends_one d (fixed_in d rows) (emitted a) (with_end (with_transfers (emitted a) ts) e l) (Close stop l) (closes (emitted a) stop l ts e h))

no_transfers : (s : Emitted) → s ≡ with_transfers s []
no_transfers s = ap (λ (ts : List Transfer). record { blocks = s.blocks; label = s.label; body = ts }) (sym (append-nil s.body))

-- one that needs none
pub emits_plain_end : (d : RawDescription) (rows : ShapeRows) (a b : Builder) (stop : Stop) (l : ℕ) (e : End) → IsEnd d (fixed_in d rows) stop [] e
    → emitted b ≡ with_end (emitted a) e l → Emits d rows a (Close stop l ∷ []) b
emits_plain_end d rows a b stop l e h p = emits_end d rows a a b stop l [] e h (no_transfers (emitted a)) p
