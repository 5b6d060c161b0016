-- What the form of a line says of the trees in it.
use Rattle.std.proofs.Common.{◌≡◌, ℕ, suc, ◌<◌, ◌^◌, Bool, true, false, cond, ◌&&◌, List, [], ◌∷◌, ◌++◌, Option, Some, None, refl, sym, subst}
use Rattle.std.specs.List.{list_all}
use Rattle.std.specs.Str.{bytes_eq}
use Rattle.rtl_tree.specs.declared.cells.Cell.TheVariants.{Hole}
use Rattle.rtl_tree.specs.Trees.{Tree, Number, Symbol, CodeLabel, Read, Load, Unary, Binary, NoPair, AnyNumber, AnyName}
use Rattle.rtl_tree.specs.Moves.{Goal, ToCell, ToMemory}
use Rattle.rtl_spelling.specs.Holes.{Open, leaf_named}
use Rattle.rtl_spelling.specs.Spelling.{Placed, Said, Spells, number, symbol, function, block, cell, memory, unary, binary, test, hole, goal_of_leaf, SpellsPlace, to_cell, to_memory, to_hole, SpellsMove, value, lost, SpellsTransfer, last, more}
use Rattle.md_text.specs.Lines.{Line}
use Rattle.md_text.specs.Forms.{Form, Version, MachineName, WordBits, MemorySize, DataBegin, StackSize, RegisterLine, FlagLine, ClassLine, ModeLine, RowLine, HasForm, open_from, context, has_no_label, goal_has_no_label}
use Rattle.md_text.specs.Declarations.{Declaration, HaveForms}
use Rattle.md_text.specs.Heading.{has_bad_range, is_out_of_range}
use Rattle.md_said.proofs.Lists.{Each}
use Rattle.md_said.proofs.Unbroken.{Unbroken}

-- a tree as a line spells it: its numbers are words, and it names no symbol or label; a hole stands as a register hole
abbrev pub IsBase : ℕ → Tree → Type 0
IsBase w (Number n) = n < 2 ^ w
IsBase w (Symbol n) = ⊥
IsBase w (CodeLabel l) = ⊥
IsBase w (Read c) = Unit {0}
IsBase w (Load d a) = IsBase w a
IsBase w (Unary o a) = IsBase w a
IsBase w (Binary o a b) = IsBase w a × IsBase w b
IsBase w NoPair = Unit {0}
IsBase w (AnyNumber n) = ⊥
IsBase w (AnyName n) = ⊥

abbrev pub IsBaseGoal : ℕ → Option Goal → Type 0
IsBaseGoal w None = Unit {0}
IsBaseGoal w (Some (ToCell c)) = Unit {0}
IsBaseGoal w (Some (ToMemory d a)) = IsBase w a

abbrev pub IsBaseSaid : ℕ → Said → Type 0
IsBaseSaid w s = IsBaseGoal w s.to × IsBase w s.value

clash : false ≡ true → ⊥
clash e = cc

pub no_some : {A : Type 0} (x : A) → None ≡ Some x → ⊥
no_some x e = cc

pub some_same : {A : Type 0} (x y : A) → Some x ≡ Some y → x ≡ y
some_same x y e = cc

pub both_of : (a b : Bool) → (a && b) ≡ true → (a ≡ true) × (b ≡ true)
both_of true b h = (refl, h)
both_of false b h = absurd (clash h)

chosen : (P : Tree → Type 0) (b : Bool) (t leaf : Tree) (o : Option Tree) → P t → (o ≡ Some leaf → P leaf) → cond b (Some t) o ≡ Some leaf → P leaf
chosen P true t leaf o h k e = subst P (some_same t leaf e) h
chosen P false t leaf o h k e = k e

leaf_base : (w n : ℕ) (names : List (List ℕ)) (name : List ℕ) (leaf : Tree) → leaf_named (open_from n names) name ≡ Some leaf → IsBase w leaf
leaf_base w n [] name leaf e = absurd (no_some leaf e)
leaf_base w n (m ∷ names) name leaf e =
    chosen (IsBase w) (bytes_eq m name) (Read (Hole n)) leaf (leaf_named (open_from (suc n) names) name) tt
    (λ k. leaf_base w (suc n) names name leaf k) e

spelled_base : (w : ℕ) (names : List (List ℕ)) (d : ℕ) (t : Tree) (ps : List Placed) → Spells (context w names) d t ps → has_no_label t ≡ true → IsBase w t
spelled_base w names d t ps (number _ n lt) h = lt
spelled_base w names d t ps (symbol _ k name e) h = absurd (no_some name e)
spelled_base w names d t ps (function _ k name e) h = absurd (clash h)
spelled_base w names d t ps (block _ k lt) h = absurd (clash h)
spelled_base w names d t ps (cell _ x s) h = tt
spelled_base w names d t ps (memory _ v a qs s) h = spelled_base w names (suc d) a qs s h
spelled_base w names d t ps (unary _ o a qs b s) h = spelled_base w names (suc d) a qs s h
spelled_base w names d t ps (binary _ o a b qs rs s u) h =
    let k = both_of (has_no_label a) (has_no_label b) h in
    (spelled_base w names (suc d) a qs s k.0, spelled_base w names (suc d) b rs u k.1)
spelled_base w names d t ps (test _ r n lt) h = tt
spelled_base w names d t ps (hole _ name leaf e) h = leaf_base w 0 names name leaf e

goal_base : (w : ℕ) (t : Tree) → IsBase w t → IsBaseGoal w (goal_of_leaf t)
goal_base w (Read c) h = tt
goal_base w (Load d a) h = h
goal_base w (Number n) h = tt
goal_base w (Symbol n) h = tt
goal_base w (CodeLabel l) h = tt
goal_base w (Unary o a) h = tt
goal_base w (Binary o a b) h = tt
goal_base w NoPair h = tt
goal_base w (AnyNumber n) h = tt
goal_base w (AnyName n) h = tt

place_base : (w : ℕ) (names : List (List ℕ)) (g : Option Goal) (ps : List Placed) → SpellsPlace (context w names) g ps → goal_has_no_label g ≡ true → IsBaseGoal w g
place_base w names g ps (to_cell x s) h = tt
place_base w names g ps (to_memory d a qs s) h = spelled_base w names 2 a qs s h
place_base w names g ps (to_hole name leaf e) h = goal_base w leaf (leaf_base w 0 names name leaf e)

move_base : (w : ℕ) (names : List (List ℕ)) (m : Said) (ps : List Placed) → SpellsMove (context w names) m ps
    → (goal_has_no_label m.to && has_no_label m.value) ≡ true → IsBaseSaid w m
move_base w names m ps (value g t qs rs p s) h =
    let k = both_of (goal_has_no_label g) (has_no_label t) h in
    (place_base w names g qs p k.0, spelled_base w names 1 t rs s k.1)
move_base w names m ps (lost g qs p) h =
    let k = both_of (goal_has_no_label g) (has_no_label NoPair) h in
    (place_base w names g qs p k.0, tt)

transfer_base : (w : ℕ) (names : List (List ℕ)) (ms : List Said) (ps : List Placed) → SpellsTransfer (context w names) ms ps
    → list_all (λ m. goal_has_no_label m.to && has_no_label m.value) ms ≡ true → Each (IsBaseSaid w) ms
transfer_base w names ms ps (last m qs s) h =
    let k = both_of (goal_has_no_label m.to && has_no_label m.value) true h in
    (move_base w names m qs s k.0, tt)
transfer_base w names ms ps (more m ns qs rs s u) h =
    let k = both_of (goal_has_no_label m.to && has_no_label m.value) (list_all (λ n. goal_has_no_label n.to && has_no_label n.value) ns) h in
    (move_base w names m qs s k.0, transfer_base w names ns rs u k.1)

-- what a line says that has no range out of range
abbrev pub IsGoodForm : ℕ → Form → Type 0
IsGoodForm w (ModeLine name text tree) = (has_bad_range w text ≡ false) × IsBase w tree.tree
IsGoodForm w (RowLine text transfer) = (has_bad_range w text ≡ false) × Each (IsBaseSaid w) transfer.moves
IsGoodForm w _ = Unit {0}

form_good : (w : ℕ) (before : List Declaration) (line : List ℕ) (form : Form) → HasForm w line form → is_out_of_range w before form ≡ false → IsGoodForm w form
form_good w before line (ModeLine name text tree) h r =
    (r, spelled_base w tree.names 1 tree.tree h.tree_is.placed h.tree_is.spells h.tree_is.no_label)
form_good w before line (RowLine text transfer) h r =
    (r, transfer_base w transfer.names transfer.moves h.transfer_is.spelled.placed h.transfer_is.spelled.spells h.transfer_is.no_label)
form_good w before line Version h r = tt
form_good w before line (MachineName n) h r = tt
form_good w before line (WordBits z) h r = tt
form_good w before line (MemorySize z) h r = tt
form_good w before line (DataBegin z) h r = tt
form_good w before line (StackSize z) h r = tt
form_good w before line (RegisterLine k n role) h r = tt
form_good w before line (FlagLine k n) h r = tt
form_good w before line (ClassLine n ns) h r = tt

pub forms_good : (w : ℕ) (lines : List Line) (before ds : List Declaration) → HaveForms w lines ds → Unbroken (is_out_of_range w) before ds
    → Each (λ d. IsGoodForm w d.form) ds
forms_good w [] before [] h u = tt
forms_good w (l ∷ lines) before (d ∷ ds) h u =
    (form_good w before l.bytes d.form h.1 u.0, forms_good w lines (before ++ d ∷ []) ds h.2 u.1)
forms_good w [] before (d ∷ ds) h u = absurd h
forms_good w (l ∷ lines) before [] h u = absurd h
