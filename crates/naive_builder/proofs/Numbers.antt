-- The numbers of the transfer of a shape inside a block are words.
use Rattle.std.proofs.Common.{◌≡◌, inl, inr, ℕ, ◌+◌, ◌-◌, ◌*◌, ◌/◌, ◌^◌, ◌<◌, ◌≤◌, false, refl, subst, sym, arith}
use Rattle.std.specs.Prelude.{All}
use Rattle.rtl_word.specs.Words.{IsWordSize}
use Rattle.rtl_word.proofs.Below.{by_size}
use Rattle.rtl_tree.specs.declared.cells.Lab.TheVariants as label
use Rattle.rtl_norm.specs.Transfers.{IsMoveFitting}
use Rattle.md_shapes.specs.declared.patterns.Pattern.{Pattern}
use Rattle.md_shapes.specs.declared.patterns.Pattern.TheVariants as shape
use Rattle.md_shapes.specs.Shapes.{Frame as Fixed, Open, shape_moves}
use Rattle.md_covers.specs.Numbers.{IsOf, IsNumberOf, runs_of}
use Rattle.temp_laws.specs.Doing.{ends_block}
use Rattle.naive_run.proofs.Fitting.{shape_fits}

-- a shape that leaves no number open is the same for each
abbrev without_number : Open → Open
without_number o = record { a = o.a; b = o.b; number = 0; symbol = o.symbol; label = o.label }

module _ (w : ℕ) (size : IsWordSize w) where
  zero_small : 0 < 2 ^ w
  zero_small = by_size (λ w. 0 < 2 ^ w) (omega arith) (omega arith) w size

  multiple_small : (n k most : ℕ) → most ≤ 32255 → k < most / (w / 8) → n ≡ w / 8 + k * (w / 8) → n < 2 ^ w
  multiple_small n k most le =
      by_size (λ w. k < most / (w / 8) → n ≡ w / 8 + k * (w / 8) → n < 2 ^ w) (λ h e. omega (arith, le, h, e)) (λ h e. omega (arith, le, h, e)) w size

  negative_small : (n k : ℕ) → k < 32000 / (w / 8) → n ≡ 2 ^ w - 32000 + k * (w / 8) → n < 2 ^ w
  negative_small n k = by_size (λ w. k < 32000 / (w / 8) → n ≡ 2 ^ w - 32000 + k * (w / 8) → n < 2 ^ w) (λ h e. omega (arith, h, e)) (λ h e. omega (arith, h, e)) w size

  word_small : (n : ℕ) → IsNumberOf (runs_of w shape.SetNumber) n → n < 2 ^ w
  word_small n (inl h) = let b = h.within in let e = h.is in omega (arith, b, e)
  word_small n (inr h) = absurd h

  offset_small : (n : ℕ) → IsNumberOf (runs_of w shape.LoadHome) n → n < 2 ^ w
  offset_small n (inl h) = multiple_small n h.place 32255 (omega arith) h.within h.is
  offset_small n (inr h) = absurd h

  moved_small : (n : ℕ) → IsNumberOf (runs_of w shape.MoveStack) n → n < 2 ^ w
  moved_small n (inl h) = multiple_small n h.place 32000 (omega arith) h.within h.is
  moved_small n (inr (inl h)) = negative_small n h.place h.within h.is
  moved_small n (inr (inr h)) = absurd h

  module _ (m : Fixed) (memory : m.memory < 2 ^ w) where
    -- no shape inside a block says how wide words are
    abbrev of_size : Fixed
    of_size = record { bits = w; stack = m.stack; result = m.result; link = m.link; memory = m.memory }

    fits : (p : Pattern) (o : Open) → o.number < 2 ^ w → All (IsMoveFitting w) (shape_moves of_size p o)
    fits = shape_fits w of_size size refl memory

    pub numbers_fit : (p : Pattern) (o : Open) → ends_block p ≡ false → IsNumberOf (runs_of w p) o.number → All (IsMoveFitting w) (shape_moves m p o)
    numbers_fit shape.Copy o e h = fits shape.Copy (without_number o) zero_small
    numbers_fit shape.SetNumber o e h = fits shape.SetNumber o (word_small o.number h)
    numbers_fit shape.SetSymbol o e h = fits shape.SetSymbol (without_number o) zero_small
    numbers_fit shape.Load o e h = fits shape.Load (without_number o) zero_small
    numbers_fit shape.Store o e h = fits shape.Store (without_number o) zero_small
    numbers_fit shape.LoadByte o e h = fits shape.LoadByte (without_number o) zero_small
    numbers_fit shape.StoreByte o e h = fits shape.StoreByte (without_number o) zero_small
    numbers_fit shape.LoadHome o e h = fits shape.LoadHome o (offset_small o.number h)
    numbers_fit shape.StoreHome o e h = fits shape.StoreHome o (offset_small o.number h)
    numbers_fit shape.StoreTop o e h = fits shape.StoreTop (without_number o) zero_small
    numbers_fit shape.ReadStack o e h = fits shape.ReadStack (without_number o) zero_small
    numbers_fit shape.MoveStack o e h = fits shape.MoveStack o (moved_small o.number h)
    numbers_fit shape.SetStack o e h = fits shape.SetStack (without_number o) zero_small
    numbers_fit (shape.Operate f) o e h = fits (shape.Operate f) (without_number o) zero_small
    numbers_fit shape.Complement o e h = fits shape.Complement (without_number o) zero_small
    numbers_fit shape.Clear o e h = fits shape.Clear (without_number o) zero_small
    numbers_fit shape.Jump o e h = absurd (grind (arith, e))
    numbers_fit (shape.Branch r) o e h = absurd (grind (arith, e))
    numbers_fit (shape.Compare j) o e h = fits (shape.Compare j) (without_number o) zero_small
    numbers_fit (shape.BranchByFlag r j) o e h = absurd (grind (arith, e))
    numbers_fit shape.Call o e h = absurd (grind (arith, e))
    numbers_fit shape.Return o e h = absurd (grind (arith, e))
    numbers_fit shape.SaveLink o e h = fits shape.SaveLink o (offset_small o.number h)
    numbers_fit shape.RestoreLink o e h = fits shape.RestoreLink o (offset_small o.number h)
    numbers_fit shape.TakeInput o e h = fits shape.TakeInput (without_number o) zero_small
    numbers_fit shape.PutOutput o e h = fits shape.PutOutput (without_number o) zero_small
    numbers_fit shape.Halt o e h = fits shape.Halt (without_number o) zero_small
    numbers_fit shape.ReadResult o e h = fits shape.ReadResult (without_number o) zero_small
    numbers_fit shape.SetResult o e h = fits shape.SetResult (without_number o) zero_small
    numbers_fit shape.ExtendByte o e h = fits shape.ExtendByte (without_number o) zero_small
