-- The transfers of shapes assign no cell twice, and jump where no number says.
use Rattle.std.proofs.Common.{◌≡◌, ℕ, zero, suc, List, [], ◌∷◌, slice_get, Option, Some, None, refl, sym, subst, ap, ◌∙◌}
use Rattle.rtl_word.specs.declared.Rel.{Rel}
use Rattle.rtl_tree.specs.declared.cells.Cell.{Cell}
use Rattle.rtl_tree.specs.declared.cells.Cell.TheVariants.{Hard, Pc}
use Rattle.rtl_tree.specs.declared.cells.Lab.{Lab}
use Rattle.rtl_tree.specs.declared.expressions.Width.{Width}
use Rattle.rtl_tree.specs.Trees.{Tree}
use Rattle.rtl_tree.specs.Moves.{Goal, ToCell, ToMemory, Move}
use Rattle.md_shapes.specs.declared.patterns.Pattern.{Pattern}
use Rattle.md_shapes.specs.declared.patterns.Pattern.TheVariants as shape
use Rattle.md_shapes.specs.Shapes.{Frame, Open, shape_moves, call_moves, return_moves, saved, restored, stack_plus}
use Rattle.md_covers.specs.Covers.{IsGeneral}
use Rattle.md_filled.specs.Doing.{IsNumberless, IsSimple}

none_some : {A : Type 0} (x : A) → None ≡ Some x → ⊥
none_some x e = cc

some_same : {A : Type 0} (x y : A) → Some x ≡ Some y → x ≡ y
some_same x y e = cc

none : IsSimple []
none = record {
  once = λ i j m n c p q g h. absurd (none_some m p);
  one_store = λ i j m n d f a b p q g h. absurd (none_some m p);
  jump = λ i m p g. absurd (none_some m p);
}

pub at_one : (m x : Move) (i : ℕ) → slice_get (m ∷ []) i ≡ Some x → m ≡ x
at_one m x zero e = some_same m x e
at_one m x (suc i) e = absurd (none_some x e)

abbrev JumpsPlainly : Move → Type 0
JumpsPlainly m = m.to ≡ ToCell Pc → IsNumberless m.value

one : (m : Move) → JumpsPlainly m → IsSimple (m ∷ [])
one m k = record {
  once = λ i j x y c p q g h. sym (at_one m x i p) ∙ at_one m y j q;
  one_store = λ i j x y d f a b p q g h. sym (at_one m x i p) ∙ at_one m y j q;
  jump = λ i x p g. subst JumpsPlainly (at_one m x i p) k g;
}

-- assignments to different places
record Differ (m n : Move) : Type 0 where
  cells : (c : Cell) → m.to ≡ ToCell c → n.to ≡ ToCell c → ⊥
  stores : (d f : Width) (a b : Tree) → m.to ≡ ToMemory d a → n.to ≡ ToMemory f b → ⊥

-- one more in front of simple ones
abbrev AllDiffer : Move → List Move → Type 0
AllDiffer m [] = Unit {0}
AllDiffer m (n ∷ ns) = Differ m n × AllDiffer m ns

differs_at : (m : Move) (ns : List Move) (i : ℕ) (x : Move) → AllDiffer m ns → slice_get ns i ≡ Some x → Differ m x
differs_at m [] i x d e = absurd (none_some x e)
differs_at m (n ∷ ns) zero x d e = subst (Differ m) (some_same n x e) d.0
differs_at m (n ∷ ns) (suc i) x d e = differs_at m ns i x d.1 e

more_once : (m : Move) (ns : List Move) → AllDiffer m ns → IsSimple ns → (i j : ℕ) (x y : Move) (c : Cell) → slice_get (m ∷ ns) i ≡ Some x → slice_get (m ∷ ns) j ≡ Some y
    → x.to ≡ ToCell c → y.to ≡ ToCell c → x ≡ y
more_once m ns d s zero zero x y c p q g h = some_same x y (sym p ∙ q)
more_once m ns d s zero (suc j) x y c p q g h =
    absurd ((differs_at m ns j y d q).cells c (ap (λ (z : Move). z.to) (some_same m x p) ∙ g) h)
more_once m ns d s (suc i) zero x y c p q g h =
    absurd ((differs_at m ns i x d p).cells c (ap (λ (z : Move). z.to) (some_same m y q) ∙ h) g)
more_once m ns d s (suc i) (suc j) x y c p q g h = s.once i j x y c p q g h

more_store : (m : Move) (ns : List Move) → AllDiffer m ns → IsSimple ns → (i j : ℕ) (x y : Move) (e f : Width) (a b : Tree) → slice_get (m ∷ ns) i ≡ Some x
    → slice_get (m ∷ ns) j ≡ Some y → x.to ≡ ToMemory e a → y.to ≡ ToMemory f b → x ≡ y
more_store m ns d s zero zero x y e f a b p q g h = some_same x y (sym p ∙ q)
more_store m ns d s zero (suc j) x y e f a b p q g h =
    absurd ((differs_at m ns j y d q).stores e f a b (ap (λ (z : Move). z.to) (some_same m x p) ∙ g) h)
more_store m ns d s (suc i) zero x y e f a b p q g h =
    absurd ((differs_at m ns i x d p).stores f e b a (ap (λ (z : Move). z.to) (some_same m y q) ∙ h) g)
more_store m ns d s (suc i) (suc j) x y e f a b p q g h = s.one_store i j x y e f a b p q g h

more_jump : (m : Move) (ns : List Move) → JumpsPlainly m → IsSimple ns → (i : ℕ) (x : Move) → slice_get (m ∷ ns) i ≡ Some x → JumpsPlainly x
more_jump m ns k s zero x p = subst JumpsPlainly (some_same m x p) k
more_jump m ns k s (suc i) x p = s.jump i x p

more : (m : Move) (ns : List Move) → AllDiffer m ns → JumpsPlainly m → IsSimple ns → IsSimple (m ∷ ns)
more m ns d k s = record { once = more_once m ns d s; one_store = more_store m ns d s; jump = more_jump m ns k s }

hard_is_no_counter : (n : ℕ) (c : Cell) → (let g : Goal = ToCell (Hard n) in g ≡ ToCell c) → (let g : Goal = ToCell Pc in g ≡ ToCell c) → ⊥
hard_is_no_counter n c e f = cc

no_store : (c : Cell) (d : Width) (a : Tree) → (let g : Goal = ToCell c in g ≡ ToMemory d a) → ⊥
no_store c d a e = cc

no_cell : (d : Width) (a : Tree) (c : Cell) → (let g : Goal = ToMemory d a in g ≡ ToCell c) → ⊥
no_cell d a c e = cc

no_jump : (c : Cell) → (let g : Goal = ToCell c in g ≡ ToCell Pc) → c ≡ Pc
no_jump c e = cc

general_is_no_counter : (g : ℕ) (c : Cell) → IsGeneral g c → c ≡ Pc → ⊥
general_is_no_counter g c h e = subst (IsGeneral g) e h

calls : (m : Frame) (z : Option ℕ) (l : Lab) → IsSimple (call_moves m z l)
calls m (Some z) l =
    more _ _ (record { cells = λ c e f. hard_is_no_counter z c e f; stores = λ d f a b e h. no_store _ d a e }, tt) (λ e. absurd (hard_is_no_counter z Pc e refl))
    (one _ (λ e. tt))
calls m None l =
    more _ _ (
      record { cells = λ c e f. no_cell _ _ c e; stores = λ d f a b e h. no_store _ f b h },
      (record { cells = λ c e f. no_cell _ _ c e; stores = λ d f a b e h. no_store _ f b h }, tt),
    )
    (λ e. absurd (no_cell _ _ Pc e))
    (more _ _ (record { cells = λ c e f. hard_is_no_counter m.stack c e f; stores = λ d f a b e h. no_store _ d a e }, tt) (λ e. absurd (hard_is_no_counter m.stack Pc e refl))
    (one _ (λ e. tt)))

returns : (m : Frame) (z : Option ℕ) → IsSimple (return_moves m z)
returns m (Some z) = one _ (λ e. tt)
returns m None =
    more _ _ (record { cells = λ c e f. hard_is_no_counter m.stack c f e; stores = λ d f a b e h. no_store _ d a e }, tt) (λ e. tt)
    (one _ (λ e. absurd (hard_is_no_counter m.stack Pc e refl)))

saves : (z : Option ℕ) (at : Tree) → IsSimple (saved z at)
saves (Some z) at = one _ (λ e. absurd (no_cell _ _ Pc e))
saves None at = none

restores : (z : Option ℕ) (at : Tree) → IsSimple (restored z at)
restores (Some z) at = one _ (λ e. absurd (hard_is_no_counter z Pc e refl))
restores None at = none

-- what ends a block

pub jump_simple : (m : Frame) (p : Open) → IsSimple (shape_moves m shape.Jump p)
jump_simple m p = one _ (λ e. tt)

pub branch_simple : (m : Frame) (p : Open) (r : Rel) → IsSimple (shape_moves m (shape.Branch r) p)
branch_simple m p r = one _ (λ e. ((tt, tt), tt))

pub flag_branch_simple : (m : Frame) (p : Open) (r : Rel) (j : ℕ) → IsSimple (shape_moves m (shape.BranchByFlag r j) p)
flag_branch_simple m p r j = one _ (λ e. (tt, tt))

pub call_simple : (m : Frame) (p : Open) → IsSimple (shape_moves m shape.Call p)
call_simple m p = calls m m.link p.label

module _ (m : Frame) (g : ℕ) (p : Open) (a : IsGeneral g p.a) where
  sets_a : (t : Tree) → IsSimple (record { to = ToCell p.a; value = t } ∷ [])
  sets_a t = one _ (λ e. absurd (general_is_no_counter g p.a a (no_jump p.a e)))

  pub shape_simple : (q : Pattern) → IsSimple (shape_moves m q p)
  shape_simple shape.Copy = sets_a _
  shape_simple shape.SetNumber = sets_a _
  shape_simple shape.SetSymbol = sets_a _
  shape_simple shape.Load = sets_a _
  shape_simple shape.Store = one _ (λ e. absurd (no_cell _ _ Pc e))
  shape_simple shape.LoadByte = sets_a _
  shape_simple shape.StoreByte = one _ (λ e. absurd (no_cell _ _ Pc e))
  shape_simple shape.LoadHome = sets_a _
  shape_simple shape.StoreHome = one _ (λ e. absurd (no_cell _ _ Pc e))
  shape_simple shape.StoreTop = one _ (λ e. absurd (no_cell _ _ Pc e))
  shape_simple shape.ReadStack = sets_a _
  shape_simple shape.MoveStack = one _ (λ e. absurd (hard_is_no_counter m.stack Pc e refl))
  shape_simple shape.SetStack = one _ (λ e. absurd (hard_is_no_counter m.stack Pc e refl))
  shape_simple (shape.Operate o) = sets_a _
  shape_simple shape.Complement = sets_a _
  shape_simple shape.Clear = sets_a _
  shape_simple shape.Jump = jump_simple m p
  shape_simple (shape.Branch r) = branch_simple m p r
  shape_simple (shape.Compare j) = one _ (λ e. absurd (let k = no_jump _ e in cc))
  shape_simple (shape.BranchByFlag r j) = flag_branch_simple m p r j
  shape_simple shape.Call = call_simple m p
  shape_simple shape.Return = returns m m.link
  shape_simple shape.SaveLink = saves m.link (stack_plus m p.number)
  shape_simple shape.RestoreLink = restores m.link (stack_plus m p.number)
  shape_simple shape.TakeInput = one _ (λ e. absurd (hard_is_no_counter m.result Pc e refl))
  shape_simple shape.PutOutput = one _ (λ e. absurd (let k = no_jump _ e in cc))
  shape_simple shape.Halt = one _ (λ e. absurd (let k = no_jump _ e in cc))
  shape_simple shape.ReadResult = sets_a _
  shape_simple shape.SetResult = one _ (λ e. absurd (hard_is_no_counter m.result Pc e refl))
  shape_simple shape.ExtendByte = sets_a _
