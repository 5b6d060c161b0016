-- What stands in place of a row's holes: holes at their places, and trees whose holes are of the kinds that can stand there.
use Rattle.std.proofs.Common.{◌≡◌, ℕ, zero, suc, ◌+◌, ◌<◌, ◌^◌, ℤ, Bool, true, false, not, cond, ◌&&◌, ◌||◌, List, [], ◌∷◌, ◌++◌, length, map, flat_map, filter_map, Option, Some, None, slice_get, unwrap_or, option_map, option_and_then, refl, sym, subst, ap, arith, ◌∙◌}
use Rattle.std.specs.Prelude.{int_le}
use Rattle.std.specs.List.{list_any, cons_option}
use Rattle.std.specs.Str.{bytes_eq}
use Rattle.rtl_tree.specs.declared.cells.Cell.{Cell}
use Rattle.rtl_tree.specs.declared.cells.Cell.TheVariants.{Hard, Temp, Flag, Pc, Input, Output, Halt, Hole as HoleCell}
use Rattle.rtl_tree.specs.Trees.{Tree, Number, Symbol, CodeLabel, Read, Load, Unary, Binary, NoPair, AnyNumber, AnyName}
use Rattle.rtl_tree.specs.Moves.{Goal, ToCell, ToMemory, Move}
use Rattle.rtl_tree.specs.Sorts.{IsFitting}
use Rattle.rtl_spelling.specs.Holes.{Open, leaf_named}
use Rattle.rtl_spelling.specs.Spelling.{Said, goal_of_leaf}
use Rattle.md_rows.specs.declared.row.Hole.{Hole as RowHole}
use Rattle.md_rows.specs.declared.row.Hole.TheVariants.{Reg, Num, Sym, Label}
use Rattle.md_text.specs.Pieces.{Range, OfWord, Between, Kind, Named, Numbers, Symbols, Labels, Slot, Piece, Literal, Hole, slots, has_name}
use Rattle.md_text.specs.Forms.{OpenTransfer, Form, Version, MachineName, WordBits, MemorySize, DataBegin, StackSize, RegisterLine, FlagLine, ClassLine, ModeLine, RowLine}
use Rattle.md_text.specs.Declarations.{Declaration, Alternative, alternative_of, alternatives_in, mode_names}
use Rattle.md_text.specs.Heading.{is_legal_range, is_legal_kind, has_bad_range}
use Rattle.md_text.specs.Expansion.{Shown, Fixed, Vacant, low_end, high_end, taken_by, leaf_of, with_leaves, goal_with, move_to, move_with, all_there, leaves_by, holes_from, Filling, shown, filling_of, itself, alternatives_of, fillings, choices, hole_of, holes_in, replaced, meant, Expanded, transfer_with, expanded, expansions_of, expansions}
use Rattle.md_overlap.specs.Premises.{IsInOrder}
use Rattle.md_covers.specs.Covers.{is_register_hole, is_number_hole, is_name_hole}
use Rattle.md_said.proofs.Lists.{Each, each_by, each_append, each_map, each_flat_map, each_filter}
use Rattle.md_said.proofs.Forms.{IsBase, IsBaseGoal, IsBaseSaid, IsGoodForm, no_some, some_same, both_of}

-- the holes hs stand in the list of all from place n on
abbrev pub StandAt : ℕ → List RowHole → List RowHole → Type 0
StandAt n [] all = Unit {0}
StandAt n (h ∷ hs) all = (slice_get all n ≡ Some h) × StandAt (suc n) hs all

stand_on : (n : ℕ) (hs all : List RowHole) (x : RowHole) → StandAt n hs all → StandAt (suc n) hs (x ∷ all)
stand_on n [] all x h = tt
stand_on n (y ∷ hs) all x h = (h.0, stand_on (suc n) hs all x h.1)

pub stand_all : (hs : List RowHole) → StandAt 0 hs hs
stand_all [] = tt
stand_all (h ∷ hs) = (refl, stand_on 0 hs hs h (stand_all hs))

stand_first : (n : ℕ) (hs ks all : List RowHole) → StandAt n (hs ++ ks) all → StandAt n hs all
stand_first n [] ks all h = tt
stand_first n (x ∷ hs) ks all h = (h.0, stand_first (suc n) hs ks all h.1)

stand_last : (n : ℕ) (hs ks all : List RowHole) → StandAt n (hs ++ ks) all → StandAt (n + length hs) ks all
stand_last n [] ks all h = subst (λ (m : ℕ). StandAt m ks all) (let e : n ≡ n + 0 = omega arith in e) h
stand_last n (x ∷ hs) ks all h =
    subst (λ (m : ℕ). StandAt m ks all) (let e : suc n + length hs ≡ n + suc (length hs) = omega arith in e) (stand_last (suc n) hs ks all h.1)

-- trees

abbrev pub CellStands : List RowHole → Cell → Type 0
CellStands all (HoleCell h) = is_register_hole (slice_get all h) ≡ true
CellStands all _ = Unit {0}

-- each hole of a tree is one of all and can stand there, and the tree names no symbol or label
abbrev pub Stands : List RowHole → Tree → Type 0
Stands all (Number n) = Unit {0}
Stands all (Symbol n) = ⊥
Stands all (CodeLabel l) = ⊥
Stands all (Read c) = CellStands all c
Stands all (Load d a) = Stands all a
Stands all (Unary o a) = Stands all a
Stands all (Binary o a b) = Stands all a × Stands all b
Stands all NoPair = Unit {0}
Stands all (AnyNumber n) = is_number_hole (slice_get all n) ≡ true
Stands all (AnyName n) = is_name_hole (slice_get all n) ≡ true

-- and its numbers are words
abbrev pub IsGood : ℕ → List RowHole → Tree → Type 0
IsGood w all t = Stands all t × IsFitting w t

leaf_good : (w n : ℕ) (all : List RowHole) (h : RowHole) → slice_get all n ≡ Some h → IsGood w all (leaf_of h n)
leaf_good w n all (Reg class) e = (ap is_register_hole e, tt)
leaf_good w n all (Num low high inverted) e = (ap is_number_hole e, tt)
leaf_good w n all Sym e = (ap is_name_hole e, tt)
leaf_good w n all Label e = (ap is_name_hole e, tt)

get_good : (w : ℕ) (all : List RowHole) (leaves : List Tree) (n : ℕ) → Each (IsGood w all) leaves → IsGood w all (unwrap_or (slice_get leaves n) NoPair)
get_good w all [] n h = (tt, tt)
get_good w all (t ∷ leaves) zero h = h.0
get_good w all (t ∷ leaves) (suc n) h = get_good w all leaves n h.1

with_good : (w : ℕ) (all : List RowHole) (leaves : List Tree) (t : Tree) → Each (IsGood w all) leaves → IsBase w t → IsGood w all (with_leaves leaves t)
with_good w all leaves (Number n) h b = (tt, b)
with_good w all leaves (Symbol n) h b = absurd b
with_good w all leaves (CodeLabel l) h b = absurd b
with_good w all leaves (Read (HoleCell n)) h b = get_good w all leaves n h
with_good w all leaves (Read (Hard n)) h b = (tt, tt)
with_good w all leaves (Read (Temp n)) h b = (tt, tt)
with_good w all leaves (Read (Flag n)) h b = (tt, tt)
with_good w all leaves (Read Pc) h b = (tt, tt)
with_good w all leaves (Read Input) h b = (tt, tt)
with_good w all leaves (Read Output) h b = (tt, tt)
with_good w all leaves (Read Halt) h b = (tt, tt)
with_good w all leaves (Load d a) h b = with_good w all leaves a h b
with_good w all leaves (Unary o a) h b = with_good w all leaves a h b
with_good w all leaves (Binary o a c) h b =
    let x = with_good w all leaves a h b.0 in let y = with_good w all leaves c h b.1 in ((x.0, y.0), (x.1, y.1))
with_good w all leaves NoPair h b = (tt, tt)
with_good w all leaves (AnyNumber n) h b = absurd b
with_good w all leaves (AnyName n) h b = absurd b

cond_good : (w : ℕ) (all : List RowHole) (b : Bool) (t : Tree) (o : Option Tree) → IsGood w all t → IsGood w all (unwrap_or o NoPair)
    → IsGood w all (unwrap_or (cond b (Some t) o) NoPair)
cond_good w all true t o h k = h
cond_good w all false t o h k = k

named_good : (w : ℕ) (all : List RowHole) (holes : List Open) (name : List ℕ) → Each (λ o. IsGood w all o.leaf) holes
    → IsGood w all (unwrap_or (leaf_named holes name) NoPair)
named_good w all [] name h = (tt, tt)
named_good w all (o ∷ holes) name h =
    cond_good w all (bytes_eq o.name name) o.leaf (leaf_named holes name) h.0 (named_good w all holes name h.1)

leaves_good : (w : ℕ) (all : List RowHole) (holes : List Open) (names : List (List ℕ)) → Each (λ o. IsGood w all o.leaf) holes
    → Each (IsGood w all) (leaves_by holes names)
leaves_good w all holes [] h = tt
leaves_good w all holes (name ∷ names) h = (named_good w all holes name h, leaves_good w all holes names h)

-- the holes of a text without modes

abbrev taken : ℕ → List Declaration → List Slot → List RowHole
taken w ds hs = map (λ h. taken_by w ds h.kind) hs

taken_shown : (w : ℕ) (ds : List Declaration) (text : List Piece) → holes_in (map (shown w ds) text) ≡ taken w ds (slots text)
taken_shown w ds [] = refl
taken_shown w ds (Literal t ∷ text) = taken_shown w ds text
taken_shown w ds (Hole h ∷ text) = ap (λ (xs : List RowHole). taken_by w ds h.kind ∷ xs) (taken_shown w ds text)

from_good : (w n : ℕ) (ds : List Declaration) (hs : List Slot) (all : List RowHole) → StandAt n (taken w ds hs) all
    → Each (λ o. IsGood w all o.leaf) (holes_from w ds n hs)
from_good w n ds [] all h = tt
from_good w n ds (x ∷ hs) all h = (leaf_good w n all (taken_by w ds x.kind) h.0, from_good w (suc n) ds hs all h.1)

-- ranges

not_false : (b : Bool) → not b ≡ false → b ≡ true
not_false true h = refl
not_false false h = let q : true ≡ false = h in cc

neither : (a b : Bool) → (a || b) ≡ false → (a ≡ false) × (b ≡ false)
neither true b h = let q : true ≡ false = h in cc
neither false b h = (refl, h)

legal_each : (w : ℕ) (hs : List Slot) → list_any (λ h. not (is_legal_kind w h.kind)) hs ≡ false → Each (λ h. is_legal_kind w h.kind ≡ true) hs
legal_each w [] e = tt
legal_each w (h ∷ hs) e =
    let k = neither (not (is_legal_kind w h.kind)) (list_any (λ x. not (is_legal_kind w x.kind)) hs) e in
    (not_false (is_legal_kind w h.kind) k.0, legal_each w hs k.1)

taken_in_order : (w : ℕ) (ds : List Declaration) (kind : Kind) → is_legal_kind w kind ≡ true → IsInOrder (taken_by w ds kind)
taken_in_order w ds (Named name) h = tt
taken_in_order w ds (Numbers inverted OfWord) h = refl
taken_in_order w ds (Numbers inverted (Between low high)) h = (both_of (int_le low high) _ h).0
taken_in_order w ds Symbols h = tt
taken_in_order w ds Labels h = tt

taken_ordered : (w : ℕ) (ds : List Declaration) (hs : List Slot) → Each (λ h. is_legal_kind w h.kind ≡ true) hs → Each IsInOrder (taken w ds hs)
taken_ordered w ds hs h = each_map (λ h. is_legal_kind w h.kind ≡ true) IsInOrder (λ h. taken_by w ds h.kind) (λ s k. taken_in_order w ds s.kind k) hs h

-- fillings

pub record IsGoodFilling (w : ℕ) (f : Filling) : Type 0 where
  pub ranges : Each IsInOrder (holes_in f.text)
  pub tree : (n : ℕ) (all : List RowHole) → StandAt n (holes_in f.text) all → IsGood w all (f.tree n)

itself_good : (w : ℕ) (h : RowHole) → IsInOrder h → IsGoodFilling w (itself h)
itself_good w h o = record { ranges = (o, tt); tree = λ n all s. leaf_good w n all h s.0 }

abbrev IsGoodAlternative : ℕ → Alternative → Type 0
IsGoodAlternative w a = (has_bad_range w a.text ≡ false) × IsBase w a.tree.tree

mode_good : (w : ℕ) (ds : List Declaration) (a : Alternative) → IsGoodAlternative w a → IsGoodFilling w (filling_of w ds a)
mode_good w ds a h =
    let same = taken_shown w ds a.text in
    record {
      ranges = subst (Each IsInOrder) (sym same) (taken_ordered w ds (slots a.text) (legal_each w (slots a.text) h.0));
      tree = λ n all s. with_good w all (leaves_by (holes_from w ds n (slots a.text)) a.tree.names) a.tree.tree
          (leaves_good w all (holes_from w ds n (slots a.text)) a.tree.names
          (from_good w n ds (slots a.text) all (subst (λ (hs : List RowHole). StandAt n hs all) same s)))
          h.1;
    }

either_good : (w : ℕ) (b : Bool) (fs gs : List Filling) → Each (IsGoodFilling w) fs → Each (IsGoodFilling w) gs → Each (IsGoodFilling w) (cond b fs gs)
either_good w true fs gs h k = h
either_good w false fs gs h k = k

fillings_good : (w : ℕ) (ds : List Declaration) (kind : Kind) → Each (IsGoodAlternative w) (alternatives_in ds) → is_legal_kind w kind ≡ true
    → Each (IsGoodFilling w) (fillings w ds kind)
fillings_good w ds (Named name) a l =
    either_good w (has_name (mode_names ds) name) (map (filling_of w ds) (alternatives_of ds name)) (itself (taken_by w ds (Named name)) ∷ [])
    (each_map (IsGoodAlternative w) (IsGoodFilling w) (filling_of w ds) (λ x h. mode_good w ds x h) (alternatives_of ds name)
    (each_filter (IsGoodAlternative w) (λ x. bytes_eq x.mode name) (alternatives_in ds) a))
    (itself_good w (taken_by w ds (Named name)) tt, tt)
fillings_good w ds (Numbers inverted range) a l = (itself_good w (taken_by w ds (Numbers inverted range)) (taken_in_order w ds (Numbers inverted range) l), tt)
fillings_good w ds Symbols a l = (itself_good w Sym tt, tt)
fillings_good w ds Labels a l = (itself_good w Label tt, tt)

alternative_cons : (w : ℕ) (form : Form) (rest : List Alternative) → IsGoodForm w form → Each (IsGoodAlternative w) rest
    → Each (IsGoodAlternative w) (cons_option (alternative_of form) rest)
alternative_cons w (ModeLine name text tree) rest h k = (h, k)
alternative_cons w (RowLine text transfer) rest h k = k
alternative_cons w Version rest h k = k
alternative_cons w (MachineName n) rest h k = k
alternative_cons w (WordBits z) rest h k = k
alternative_cons w (MemorySize z) rest h k = k
alternative_cons w (DataBegin z) rest h k = k
alternative_cons w (StackSize z) rest h k = k
alternative_cons w (RegisterLine k n role) rest h m = m
alternative_cons w (FlagLine k n) rest h m = m
alternative_cons w (ClassLine n ns) rest h k = k

alternatives_good : (w : ℕ) (ds : List Declaration) → Each (λ d. IsGoodForm w d.form) ds → Each (IsGoodAlternative w) (alternatives_in ds)
alternatives_good w [] h = tt
alternatives_good w (d ∷ ds) h = alternative_cons w d.form (alternatives_in ds) h.0 (alternatives_good w ds h.1)

-- rows

abbrev AreFilled : ℕ → List Slot → List Filling → Type 0
AreFilled w [] [] = Unit {0}
AreFilled w (h ∷ hs) (f ∷ fs) = IsGoodFilling w f × AreFilled w hs fs
AreFilled w _ _ = ⊥

choices_good : (w : ℕ) (ds : List Declaration) (hs : List Slot) → Each (λ h. Each (IsGoodFilling w) (fillings w ds h.kind)) hs
    → Each (AreFilled w hs) (choices (map (λ h. fillings w ds h.kind) hs))
choices_good w ds [] h = (tt, tt)
choices_good w ds (x ∷ hs) h =
    each_flat_map (IsGoodFilling w) (AreFilled w (x ∷ hs)) (λ f. map (λ fs. f ∷ fs) (choices (map (λ h. fillings w ds h.kind) hs)))
    (λ f g. each_map (AreFilled w hs) (AreFilled w (x ∷ hs)) (λ fs. f ∷ fs) (λ fs k. (g, k)) (choices (map (λ h. fillings w ds h.kind) hs)) (choices_good w ds hs h.1))
    (fillings w ds x.kind) h.0

holes_cons : (o : Option RowHole) (xs ys : List RowHole) → cons_option o (xs ++ ys) ≡ cons_option o xs ++ ys
holes_cons None xs ys = refl
holes_cons (Some x) xs ys = refl

holes_append : (xs ys : List Shown) → holes_in (xs ++ ys) ≡ holes_in xs ++ holes_in ys
holes_append [] ys = refl
holes_append (x ∷ xs) ys = ap (cons_option (hole_of x)) (holes_append xs ys) ∙ holes_cons (hole_of x) (holes_in xs) (holes_in ys)

replaced_ordered : (w : ℕ) (text : List Piece) (fs : List Filling) → AreFilled w (slots text) fs → Each IsInOrder (holes_in (replaced text fs))
replaced_ordered w [] fs h = tt
replaced_ordered w (Literal t ∷ text) fs h = replaced_ordered w text fs h
replaced_ordered w (Hole x ∷ text) [] h = absurd h
replaced_ordered w (Hole x ∷ text) (f ∷ fs) h =
    subst (Each IsInOrder) (sym (holes_append f.text (replaced text fs)))
    (each_append IsInOrder (holes_in f.text) (holes_in (replaced text fs)) h.0.ranges (replaced_ordered w text fs h.1))

meant_good : (w n : ℕ) (all : List RowHole) (text : List Piece) (fs : List Filling) → AreFilled w (slots text) fs
    → StandAt n (holes_in (replaced text fs)) all → Each (λ o. IsGood w all o.leaf) (meant n (slots text) fs)
meant_good w n all [] fs h s = tt
meant_good w n all (Literal t ∷ text) fs h s = meant_good w n all text fs h s
meant_good w n all (Hole x ∷ text) [] h s = absurd h
meant_good w n all (Hole x ∷ text) (f ∷ fs) h s =
    let k = subst (λ (hs : List RowHole). StandAt n hs all) (holes_append f.text (replaced text fs)) s in (
      h.0.tree n all (stand_first n (holes_in f.text) (holes_in (replaced text fs)) all k),
      meant_good w (n + length (holes_in f.text)) all text fs h.1 (stand_last n (holes_in f.text) (holes_in (replaced text fs)) all k),
    )

abbrev pub IsGoodGoal : ℕ → List RowHole → Goal → Type 0
IsGoodGoal w all (ToCell c) = CellStands all c
IsGoodGoal w all (ToMemory d a) = IsGood w all a

abbrev pub IsGoodMove : ℕ → List RowHole → Move → Type 0
IsGoodMove w all m = IsGoodGoal w all m.to × IsGood w all m.value

leaf_goal : (w : ℕ) (all : List RowHole) (t : Tree) (g : Goal) → IsGood w all t → goal_of_leaf t ≡ Some g → IsGoodGoal w all g
leaf_goal w all (Read c) g h e = subst (IsGoodGoal w all) (let s : ToCell c ≡ g = cc in s) h.0
leaf_goal w all (Load d a) g h e = subst (IsGoodGoal w all) (let s : ToMemory d a ≡ g = cc in s) h
leaf_goal w all (Number n) g h e = absurd (no_some g e)
leaf_goal w all (Symbol n) g h e = absurd (no_some g e)
leaf_goal w all (CodeLabel l) g h e = absurd (no_some g e)
leaf_goal w all (Unary o a) g h e = absurd (no_some g e)
leaf_goal w all (Binary o a b) g h e = absurd (no_some g e)
leaf_goal w all NoPair g h e = absurd (no_some g e)
leaf_goal w all (AnyNumber n) g h e = absurd (no_some g e)
leaf_goal w all (AnyName n) g h e = absurd (no_some g e)

same_goal : (w : ℕ) (all : List RowHole) (x g : Goal) → IsGoodGoal w all x → Some x ≡ Some g → IsGoodGoal w all g
same_goal w all x g h e = subst (IsGoodGoal w all) (some_same x g e) h

goal_good : (w : ℕ) (all : List RowHole) (leaves : List Tree) (x g : Goal) → Each (IsGood w all) leaves → IsBaseGoal w (Some x)
    → goal_with leaves x ≡ Some g → IsGoodGoal w all g
goal_good w all leaves (ToCell (HoleCell n)) g h b e = leaf_goal w all (unwrap_or (slice_get leaves n) NoPair) g (get_good w all leaves n h) e
goal_good w all leaves (ToCell (Hard n)) g h b e = same_goal w all (ToCell (Hard n)) g tt e
goal_good w all leaves (ToCell (Temp n)) g h b e = same_goal w all (ToCell (Temp n)) g tt e
goal_good w all leaves (ToCell (Flag n)) g h b e = same_goal w all (ToCell (Flag n)) g tt e
goal_good w all leaves (ToCell Pc) g h b e = same_goal w all (ToCell Pc) g tt e
goal_good w all leaves (ToCell Input) g h b e = same_goal w all (ToCell Input) g tt e
goal_good w all leaves (ToCell Output) g h b e = same_goal w all (ToCell Output) g tt e
goal_good w all leaves (ToCell Halt) g h b e = same_goal w all (ToCell Halt) g tt e
goal_good w all leaves (ToMemory d a) g h b e = same_goal w all (ToMemory d (with_leaves leaves a)) g (with_good w all leaves a h b) e

moved_good : (w : ℕ) (all : List RowHole) (v : Tree) (o : Option Goal) (m : Move) → ((g : Goal) → o ≡ Some g → IsGoodGoal w all g) → IsGood w all v
    → option_map (move_to v) o ≡ Some m → IsGoodMove w all m
moved_good w all v None m f h e = absurd (no_some m e)
moved_good w all v (Some g) m f h e = subst (IsGoodMove w all) (some_same (move_to v g) m e) (f g refl, h)

move_good : (w : ℕ) (all : List RowHole) (leaves : List Tree) (to : Option Goal) (value : Tree) (m : Move) → Each (IsGood w all) leaves
    → IsBaseGoal w to → IsBase w value → option_map (move_to (with_leaves leaves value)) (option_and_then (goal_with leaves) to) ≡ Some m → IsGoodMove w all m
move_good w all leaves None value m h b v e = absurd (no_some m e)
move_good w all leaves (Some x) value m h b v e =
    moved_good w all (with_leaves leaves value) (goal_with leaves x) m (λ g k. goal_good w all leaves x g h b k) (with_good w all leaves value h v) e

some_list : {A : Type 0} (P : A → Type 0) (x : A) (o : Option (List A)) (ms : List A) → P x → ((xs : List A) → o ≡ Some xs → Each P xs)
    → option_map (λ xs. x ∷ xs) o ≡ Some ms → Each P ms
some_list P x None ms h f e = absurd (no_some ms e)
some_list P x (Some xs) ms h f e = subst (Each P) (some_same (x ∷ xs) ms e) (h, f xs refl)

there_good : {A : Type 0} (P : A → Type 0) (os : List (Option A)) (ms : List A) → Each (λ o. (x : A) → o ≡ Some x → P x) os → all_there os ≡ Some ms → Each P ms
there_good P [] ms h e = subst (Each P) (some_same [] ms e) tt
there_good P (None ∷ os) ms h e = absurd (no_some ms e)
there_good P (Some x ∷ os) ms h e = some_list P x (all_there os) ms (h.0 x refl) (λ xs k. there_good P os xs h.1 k) e

transfer_good : (w : ℕ) (all : List RowHole) (holes : List Open) (t : OpenTransfer) (ms : List Move) → Each (λ o. IsGood w all o.leaf) holes
    → Each (IsBaseSaid w) t.moves → transfer_with holes t ≡ Some ms → Each (IsGoodMove w all) ms
transfer_good w all holes t ms h b e =
    let leaves = leaves_by holes t.names in
    there_good (IsGoodMove w all) (map (move_with leaves) t.moves) ms
    (each_map (IsBaseSaid w) (λ o. (m : Move) → o ≡ Some m → IsGoodMove w all m) (move_with leaves)
    (λ s k m q. move_good w all leaves s.to s.value m (leaves_good w all holes t.names h) k.0 k.1 q) t.moves b)
    e

-- a row without modes has its ranges in order, and its transfer's holes at their places
pub record IsGoodRow (w : ℕ) (row : Expanded) : Type 0 where
  pub ranges : Each IsInOrder (holes_in row.text)
  pub moves : (ms : List Move) → row.transfer ≡ Some ms → Each (IsGoodMove w (holes_in row.text)) ms

expanded_good : (w line : ℕ) (text : List Piece) (t : OpenTransfer) (fs : List Filling) → AreFilled w (slots text) fs → Each (IsBaseSaid w) t.moves
    → IsGoodRow w (expanded line text t fs)
expanded_good w line text t fs h b =
    let all = holes_in (replaced text fs) in
    record {
      ranges = replaced_ordered w text fs h;
      moves = λ ms e. transfer_good w all (meant 0 (slots text) fs) t ms (meant_good w 0 all text fs h (stand_all all)) b e;
    }

expansions_good : (w line : ℕ) (ds : List Declaration) (form : Form) → Each (IsGoodAlternative w) (alternatives_in ds) → IsGoodForm w form
    → Each (IsGoodRow w) (expansions_of w ds line form)
expansions_good w line ds (RowLine text t) a h =
    each_map (AreFilled w (slots text)) (IsGoodRow w) (expanded line text t) (λ fs k. expanded_good w line text t fs k h.1)
    (choices (map (λ x. fillings w ds x.kind) (slots text)))
    (choices_good w ds (slots text)
    (each_by (λ x. is_legal_kind w x.kind ≡ true) (λ x. Each (IsGoodFilling w) (fillings w ds x.kind)) (λ x l. fillings_good w ds x.kind a l)
    (slots text) (legal_each w (slots text) h.0)))
expansions_good w line ds (ModeLine n x y) a h = tt
expansions_good w line ds Version a h = tt
expansions_good w line ds (MachineName n) a h = tt
expansions_good w line ds (WordBits z) a h = tt
expansions_good w line ds (MemorySize z) a h = tt
expansions_good w line ds (DataBegin z) a h = tt
expansions_good w line ds (StackSize z) a h = tt
expansions_good w line ds (RegisterLine k n role) a h = tt
expansions_good w line ds (FlagLine k n) a h = tt
expansions_good w line ds (ClassLine n ns) a h = tt

-- the rows of a description without modes
pub rows_good : (w : ℕ) (ds : List Declaration) → Each (λ d. IsGoodForm w d.form) ds → Each (IsGoodRow w) (expansions w ds)
rows_good w ds h =
    each_flat_map (λ d. IsGoodForm w d.form) (IsGoodRow w) (λ d. expansions_of w ds d.line d.form)
    (λ d k. expansions_good w d.line ds d.form (alternatives_good w ds h) k) ds h
