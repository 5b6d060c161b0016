-- What each shape does, by its number.
use Rattle.std.specs.Prelude.{ℕ, ◌-◌, ◌==◌, ◌&&◌, if◌then◌else◌, List, [], ◌∷◌, slice_get, Option, Some, None}
use Rattle.rtl_word.specs.declared.Rel.TheVariants.{Eq}
use Rattle.rtl_tree.specs.declared.expressions.BinOp.TheVariants.{Add, Sub, Mul, Div, Divu, Rem, Remu, And, Or, Xor, Shl, Shr, Shru}
use Rattle.md_shapes.specs.declared.table.Shape.{Shape}
use Rattle.md_shapes.specs.declared.patterns.Pattern.{Pattern}
use Rattle.md_shapes.specs.declared.patterns.Pattern.TheVariants.{Copy, SetNumber, SetSymbol, Load, Store, LoadByte, StoreByte, LoadHome, StoreHome, StoreTop, ReadStack, MoveStack, SetStack, Operate, Complement, Clear, Jump, Branch, Compare, BranchByFlag, Call, Return, SaveLink, RestoreLink, TakeInput, PutOutput, Halt, ReadResult, SetResult, ExtendByte}

-- the first transfer of each shape, by number, from 1 on
abbrev pub first_patterns : List Pattern
first_patterns =
    Copy ∷ SetNumber ∷ SetSymbol ∷ Load ∷ Store ∷ LoadByte ∷ StoreByte ∷ LoadHome ∷ StoreHome
    ∷ StoreTop ∷ ReadStack ∷ MoveStack ∷ SetStack ∷ Operate Add ∷ Operate Sub ∷ Operate Or ∷ Complement ∷ Operate And
    ∷ Jump ∷ Branch Eq ∷ Call ∷ Return ∷ SaveLink ∷ RestoreLink ∷ TakeInput ∷ PutOutput ∷ Halt ∷ ReadResult ∷ SetResult
    ∷ Operate Mul ∷ Operate Div ∷ Operate Divu ∷ Operate Rem ∷ Operate Remu ∷ Operate Shl ∷ Operate Shr ∷ Operate Shru ∷ Operate Xor
    ∷ ExtendByte ∷ []

abbrev pub pattern_by : ℕ → Option Pattern
pattern_by n = if n == 0 then None else slice_get first_patterns (n - 1)

-- the two alternatives of shape 18 and the three transfers of shape 20 are told apart by the form
abbrev pub pattern_of : Shape → Option Pattern
pattern_of s =
    if s.number == 18 && s.form == 1 then Some Clear
    else if s.number == 20 && s.form == 0 then Some (Branch s.relation)
    else if s.number == 20 && s.form == 1 then Some (Compare s.flag)
    else if s.number == 20 then Some (BranchByFlag s.relation s.flag)
    else pattern_by s.number
