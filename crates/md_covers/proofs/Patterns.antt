-- Each shape is its example with other leaves, and the shapes with numbers are one assignment with one number.
use Rattle.std.proofs.Common.{◌≡◌, ℕ, zero, suc, ◌<◌, Bool, true, false, nat_lt, map, Option, Some, None, inl, inr, refl, sym, subst, arith}
use Rattle.std.proofs.lemmas.Bool.Decides.{nat_tests}
use Rattle.rtl_word.specs.Words.{IsWordSize}
use Rattle.rtl_tree.specs.Trees.{Tree, Number, Read, Load as LoadTree}
use Rattle.rtl_tree.specs.Moves.{ToCell, ToMemory}
use Rattle.rtl_tree.specs.declared.cells.Cell.{Cell}
use Rattle.rtl_tree.specs.declared.cells.Cell.TheVariants.{Hard, Temp}
use Rattle.rtl_tree.specs.declared.cells.Lab.{Lab}
use Rattle.md_shapes.specs.declared.patterns.Pattern.{Pattern}
use Rattle.md_shapes.specs.declared.patterns.Pattern.TheVariants.{Copy, SetNumber, SetSymbol, Load, Store, LoadByte, StoreByte, LoadHome, StoreHome, StoreTop, ReadStack, MoveStack, SetStack, Operate, Complement, Clear, Jump, Branch, Compare, BranchByFlag, Call, Return, SaveLink, RestoreLink, TakeInput, PutOutput, Halt, ReadResult, SetResult, ExtendByte}
use Rattle.md_shapes.specs.Shapes.{Frame, Open, shape_moves, example, has_transfer, has_link, stack_plus, saved, restored, call_moves, return_moves}
use Rattle.md_covers.specs.Numbers.{has_runs, runs_of}
use Rattle.md_covers.proofs.Changes.{Change, changed_move}
use Rattle.md_covers.proofs.OneRegister.{AtMostOne}
use Rattle.md_covers.proofs.Wide.{AreRuns}
use Rattle.md_covers.proofs.Ranged.{OneMove}

abbrev pub put_cell : Cell → Cell → Cell → Cell
put_cell a b (Temp zero) = a
put_cell a b (Temp (suc zero)) = b
put_cell a b c = c

abbrev pub put_number : Bool → ℕ → ℕ → ℕ
put_number true n m = n
put_number false n m = m

-- what takes a shape's example to the shape with these leaves
abbrev pub to_open : Bool → Open → Change
to_open ranged p = record { cell = put_cell p.a p.b; number = put_number ranged p.number; symbol = λ _. p.symbol; label = λ _. p.label }

saved_moved : (m : Frame) (p : Open) (n : ℕ) (link : Option ℕ)
    → saved link (stack_plus m p.number) ≡ map (changed_move (to_open true p)) (saved link (stack_plus m n))
saved_moved m p n (Some z) = refl
saved_moved m p n None = refl

restored_moved : (m : Frame) (p : Open) (n : ℕ) (link : Option ℕ)
    → restored link (stack_plus m p.number) ≡ map (changed_move (to_open true p)) (restored link (stack_plus m n))
restored_moved m p n (Some z) = refl
restored_moved m p n None = refl

call_moved : (m : Frame) (p : Open) (l : Lab) (link : Option ℕ) → call_moves m link p.label ≡ map (changed_move (to_open false p)) (call_moves m link l)
call_moved m p l (Some z) = refl
call_moved m p l None = refl

return_moved : (m : Frame) (p : Open) (link : Option ℕ) → return_moves m link ≡ map (changed_move (to_open false p)) (return_moves m link)
return_moved m p (Some z) = refl
return_moved m p None = refl

pub moved : (w : ℕ) (m : Frame) (pattern : Pattern) (p : Open) (n : ℕ)
    → shape_moves m pattern p ≡ map (changed_move (to_open (has_runs (runs_of w pattern)) p)) (shape_moves m pattern (example n))
moved w m Copy p n = refl
moved w m SetNumber p n = refl
moved w m SetSymbol p n = refl
moved w m Load p n = refl
moved w m Store p n = refl
moved w m LoadByte p n = refl
moved w m StoreByte p n = refl
moved w m LoadHome p n = refl
moved w m StoreHome p n = refl
moved w m StoreTop p n = refl
moved w m ReadStack p n = refl
moved w m MoveStack p n = refl
moved w m SetStack p n = refl
moved w m (Operate o) p n = refl
moved w m Complement p n = refl
moved w m Clear p n = refl
moved w m Jump p n = refl
moved w m (Branch r) p n = refl
moved w m (Compare j) p n = refl
moved w m (BranchByFlag r j) p n = refl
moved w m Call p n = call_moved m p (example n).label m.link
moved w m Return p n = return_moved m p m.link
moved w m SaveLink p n = saved_moved m p n m.link
moved w m RestoreLink p n = restored_moved m p n m.link
moved w m TakeInput p n = refl
moved w m PutOutput p n = refl
moved w m Halt p n = refl
moved w m ReadResult p n = refl
moved w m SetResult p n = refl
moved w m ExtendByte p n = refl

-- each assigns at most one register

call_one : (m : Frame) (l : Lab) (link : Option ℕ) → AtMostOne (call_moves m link l)
call_one m l (Some z) = inr (refl, tt)
call_one m l None = inl (refl, inr (refl, tt))

return_one : (m : Frame) (link : Option ℕ) → AtMostOne (return_moves m link)
return_one m (Some z) = inr tt
return_one m None = inl (refl, inr tt)

saved_at_most : (link : Option ℕ) (at : Tree) → AtMostOne (saved link at)
saved_at_most (Some z) at = inr tt
saved_at_most None at = tt

restored_at_most : (link : Option ℕ) (at : Tree) → AtMostOne (restored link at)
restored_at_most (Some z) at = inr tt
restored_at_most None at = tt

pub at_most_one : (m : Frame) (pattern : Pattern) (p : Open) → AtMostOne (shape_moves m pattern p)
at_most_one m Call p = call_one m p.label m.link
at_most_one m Return p = return_one m m.link
at_most_one m SaveLink p = saved_at_most m.link (stack_plus m p.number)
at_most_one m RestoreLink p = restored_at_most m.link (stack_plus m p.number)
at_most_one m _ p = inr tt

-- shapes with numbers

saved_one : (m : Frame) (n : ℕ) (link : Option ℕ) → has_link link ≡ true → OneMove (saved link (stack_plus m n)) n
saved_one m n (Some z) e =
    record { move = record { to = ToMemory _ (stack_plus m n); value = Read (Hard z) }; is = refl; flagless = refl; one = refl; sum = omega arith }
saved_one m n None e = let k : false ≡ true = e in cc

restored_one : (m : Frame) (n : ℕ) (link : Option ℕ) → has_link link ≡ true → OneMove (restored link (stack_plus m n)) n
restored_one m n (Some z) e =
    record { move = record { to = ToCell (Hard z); value = LoadTree _ (stack_plus m n) }; is = refl; flagless = refl; one = refl; sum = omega arith }
restored_one m n None e = let k : false ≡ true = e in cc

pub one_move : (w : ℕ) (m : Frame) (pattern : Pattern) → has_transfer m pattern ≡ true → has_runs (runs_of w pattern) ≡ true
    → (n : ℕ) → OneMove (shape_moves m pattern (example n)) n
one_move w m SetNumber t h n =
    record { move = record { to = ToCell (Temp 0); value = Number n }; is = refl; flagless = refl; one = refl; sum = omega arith }
one_move w m LoadHome t h n =
    record { move = record { to = ToCell (Temp 0); value = LoadTree _ (stack_plus m n) }; is = refl; flagless = refl; one = refl; sum = omega arith }
one_move w m StoreHome t h n =
    record { move = record { to = ToMemory _ (stack_plus m n); value = Read (Temp 0) }; is = refl; flagless = refl; one = refl; sum = omega arith }
one_move w m MoveStack t h n =
    record { move = record { to = ToCell (Hard m.stack); value = stack_plus m n }; is = refl; flagless = refl; one = refl; sum = omega arith }
one_move w m SaveLink t h n = saved_one m n m.link t
one_move w m RestoreLink t h n = restored_one m n m.link t
one_move w m _ t h n = let k : false ≡ true = h in cc

-- the numbers are words

below : (m n : ℕ) → nat_lt m n ≡ true → m < n
below m n e = grind (arith, nat_tests, e)

runs_16 : (pattern : Pattern) → AreRuns 16 (runs_of 16 pattern)
runs_16 SetNumber = (record { many = below _ _ refl; moves = below _ _ refl; words = below _ _ refl }, tt)
runs_16 LoadHome = (record { many = below _ _ refl; moves = below _ _ refl; words = below _ _ refl }, tt)
runs_16 StoreHome = (record { many = below _ _ refl; moves = below _ _ refl; words = below _ _ refl }, tt)
runs_16 SaveLink = (record { many = below _ _ refl; moves = below _ _ refl; words = below _ _ refl }, tt)
runs_16 RestoreLink = (record { many = below _ _ refl; moves = below _ _ refl; words = below _ _ refl }, tt)
runs_16 MoveStack = (
  record { many = below _ _ refl; moves = below _ _ refl; words = below _ _ refl },
  (record { many = below _ _ refl; moves = below _ _ refl; words = below _ _ refl }, tt),
)
runs_16 _ = tt

runs_32 : (pattern : Pattern) → AreRuns 32 (runs_of 32 pattern)
runs_32 SetNumber = (record { many = below _ _ refl; moves = below _ _ refl; words = below _ _ refl }, tt)
runs_32 LoadHome = (record { many = below _ _ refl; moves = below _ _ refl; words = below _ _ refl }, tt)
runs_32 StoreHome = (record { many = below _ _ refl; moves = below _ _ refl; words = below _ _ refl }, tt)
runs_32 SaveLink = (record { many = below _ _ refl; moves = below _ _ refl; words = below _ _ refl }, tt)
runs_32 RestoreLink = (record { many = below _ _ refl; moves = below _ _ refl; words = below _ _ refl }, tt)
runs_32 MoveStack = (
  record { many = below _ _ refl; moves = below _ _ refl; words = below _ _ refl },
  (record { many = below _ _ refl; moves = below _ _ refl; words = below _ _ refl }, tt),
)
runs_32 _ = tt

pub are_runs : (w : ℕ) → IsWordSize w → (pattern : Pattern) → AreRuns w (runs_of w pattern)
are_runs w (inl e) pattern = subst (λ x. AreRuns x (runs_of x pattern)) (sym e) (runs_16 pattern)
are_runs w (inr e) pattern = subst (λ x. AreRuns x (runs_of x pattern)) (sym e) (runs_32 pattern)
