-- The numbers of a shape's transfer are words where the number that the shape leaves open is one.
use Rattle.std.proofs.Common.{◌≡◌, ℕ, ◌-◌, ◌/◌, ◌^◌, ◌<◌, [], ◌∷◌, Option, Some, None, subst, sym, arith}
use Rattle.std.specs.Prelude.{All}
use Rattle.std.proofs.lemmas.List.Elements.{All-cons, All-nil}
use Rattle.rtl_word.specs.Words.{IsWordSize}
use Rattle.rtl_word.proofs.Below.{by_size}
use Rattle.rtl_tree.specs.Moves.{Move}
use Rattle.rtl_norm.specs.Transfers.{IsMoveFitting}
use Rattle.rtl_tree.specs.declared.cells.Lab.{Lab}
use Rattle.md_shapes.specs.declared.patterns.Pattern.{Pattern}
use Rattle.md_shapes.specs.declared.patterns.Pattern.TheVariants as shape
use Rattle.md_shapes.specs.Shapes.{Frame as Fixed, Open, shape_moves, call_moves, return_moves, saved, restored, stack_plus}

module _ (w : ℕ) where
  one : (x : Move) → IsMoveFitting w x → All (IsMoveFitting w) (x ∷ [])
  one x h = All-cons (IsMoveFitting w) x [] h (All-nil (IsMoveFitting w))

  two : (x y : Move) → IsMoveFitting w x → IsMoveFitting w y → All (IsMoveFitting w) (x ∷ y ∷ [])
  two x y h g = All-cons (IsMoveFitting w) x (y ∷ []) h (one y g)

  three : (x y z : Move) → IsMoveFitting w x → IsMoveFitting w y → IsMoveFitting w z → All (IsMoveFitting w) (x ∷ y ∷ z ∷ [])
  three x y z h g i = All-cons (IsMoveFitting w) x (y ∷ z ∷ []) h (two y z g i)

  -- a word's bytes, and minus so many
  bytes_fit : (bits : ℕ) → IsWordSize w → bits ≡ w → bits / 8 < 2 ^ w
  bytes_fit bits size e = subst (λ b. b / 8 < 2 ^ w) (sym e) (by_size (λ w. w / 8 < 2 ^ w) (omega arith) (omega arith) w size)

  minus_fits : (bits : ℕ) → IsWordSize w → bits ≡ w → 2 ^ bits - bits / 8 < 2 ^ w
  minus_fits bits size e = subst (λ b. 2 ^ b - b / 8 < 2 ^ w) (sym e) (by_size (λ w. 2 ^ w - w / 8 < 2 ^ w) (omega arith) (omega arith) w size)

  module _ (m : Fixed) (size : IsWordSize w) (bits : m.bits ≡ w) (memory : m.memory < 2 ^ w) where
    call_fits : (link : Option ℕ) (l : Lab) → All (IsMoveFitting w) (call_moves m link l)
    call_fits (Some z) l = two _ _ (tt, tt) (tt, tt)
    call_fits None l = let h = minus_fits m.bits size bits in three _ _ _ ((tt, h), tt) (tt, (tt, h)) (tt, tt)

    return_fits : (link : Option ℕ) → All (IsMoveFitting w) (return_moves m link)
    return_fits (Some z) = one _ (tt, tt)
    return_fits None = two _ _ (tt, tt) (tt, (tt, bytes_fit m.bits size bits))

    saved_fits : (link : Option ℕ) (n : ℕ) → n < 2 ^ w → All (IsMoveFitting w) (saved link (stack_plus m n))
    saved_fits (Some z) n h = one _ ((tt, h), tt)
    saved_fits None n h = All-nil (IsMoveFitting w)

    restored_fits : (link : Option ℕ) (n : ℕ) → n < 2 ^ w → All (IsMoveFitting w) (restored link (stack_plus m n))
    restored_fits (Some z) n h = one _ (tt, (tt, h))
    restored_fits None n h = All-nil (IsMoveFitting w)

    pub shape_fits : (p : Pattern) (o : Open) → o.number < 2 ^ w → All (IsMoveFitting w) (shape_moves m p o)
    shape_fits shape.Copy o h = one _ (tt, tt)
    shape_fits shape.SetNumber o h = one _ (tt, h)
    shape_fits shape.SetSymbol o h = one _ (tt, tt)
    shape_fits shape.Load o h = one _ (tt, tt)
    shape_fits shape.Store o h = one _ (tt, tt)
    shape_fits shape.LoadByte o h = one _ (tt, tt)
    shape_fits shape.StoreByte o h = one _ (tt, tt)
    shape_fits shape.LoadHome o h = one _ (tt, (tt, h))
    shape_fits shape.StoreHome o h = one _ ((tt, h), tt)
    shape_fits shape.StoreTop o h = one _ (tt, tt)
    shape_fits shape.ReadStack o h = one _ (tt, tt)
    shape_fits shape.MoveStack o h = one _ (tt, (tt, h))
    shape_fits shape.SetStack o h = one _ (tt, memory)
    shape_fits (shape.Operate f) o h = one _ (tt, (tt, tt))
    shape_fits shape.Complement o h = one _ (tt, tt)
    shape_fits shape.Clear o h = one _ (tt, (tt, tt))
    shape_fits shape.Jump o h = one _ (tt, tt)
    shape_fits (shape.Branch r) o h = one _ (tt, ((tt, tt), tt))
    shape_fits (shape.Compare j) o h = one _ (tt, (tt, tt))
    shape_fits (shape.BranchByFlag r j) o h = one _ (tt, (tt, tt))
    shape_fits shape.Call o h = call_fits m.link o.label
    shape_fits shape.Return o h = return_fits m.link
    shape_fits shape.SaveLink o h = saved_fits m.link o.number h
    shape_fits shape.RestoreLink o h = restored_fits m.link o.number h
    shape_fits shape.TakeInput o h = one _ (tt, tt)
    shape_fits shape.PutOutput o h = one _ (tt, tt)
    shape_fits shape.Halt o h = one _ (tt, tt)
    shape_fits shape.ReadResult o h = one _ (tt, tt)
    shape_fits shape.SetResult o h = one _ (tt, tt)
    shape_fits shape.ExtendByte o h = one _ (tt, tt)
