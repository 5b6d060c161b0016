-- The steps of the search for an assignment of the row.
use Rattle.std.proofs.Common.{◌≡◌, ℕ, suc, ◌+◌, ◌<◌, Bool, true, false, cond, Option, Some, None, List, ◌∷◌, length, drop, get_or, set, refl, sym, subst, ap, arith, drop-cons, ◌∙◌, is_some}
use Rattle.rtl_tree.specs.Trees.{Tree, Load, Read}
use Rattle.rtl_tree.specs.declared.cells.Cell.{Cell}
use Rattle.rtl_tree.specs.declared.cells.Cell.TheVariants.{Hard, Temp, Flag, Pc, Input, Output, Halt, Hole as RegisterHole}
use Rattle.rtl_tree.specs.declared.expressions.Width.{Width}
use Rattle.rtl_tree.specs.Moves.{Move, ToCell, ToMemory}
use Rattle.md_match.specs.Slots.{Slots, Fit, put}
use Rattle.md_match.specs.Find.{or_else, leaf}
use Rattle.md_match.specs.Searches.{Marks, pick, one, is_marked}

pick_step : (f : Fit) (rs : List Move) (j : ℕ) (e x : Move) (used : Marks) (k : Marks → Slots → Option Slots) (s : Slots) → j < length rs
    → pick f (drop j rs) j e used k s
    ≡ or_else (cond (is_marked used j) None (one f (get_or rs j x) e (k (set used j true)) s)) (pick f (drop (j + 1) rs) (j + 1) e used k s)
pick_step f rs j e x used k s h =
    let d : drop j rs ≡ get_or rs j x ∷ drop (suc j) rs = drop-cons rs j x h in
    let i : suc j ≡ j + 1 = omega arith in
    let a : drop (suc j) rs ≡ drop (j + 1) rs = ap (λ (n : ℕ). drop n rs) i in
    rw (d, a) refl

pub pick_skip : (f : Fit) (rs : List Move) (j : ℕ) (e x : Move) (used : Marks) (k : Marks → Slots → Option Slots) (s : Slots) → j < length rs
    → is_marked used j ≡ true → pick f (drop (j + 1) rs) (j + 1) e used k s ≡ pick f (drop j rs) j e used k s
pick_skip f rs j e x used k s h u = let p = pick_step f rs j e x used k s h in rw (p, u) refl

after_none : (b : Bool) (o y : Option Slots) → b ≡ false → is_some o ≡ false → y ≡ or_else (cond b None o) y
after_none true o y e n = let q : true ≡ false = e in cc
after_none false None y e n = refl
after_none false (Some t) y e n = let q : true ≡ false = n in cc

after_some : (b : Bool) (o y : Option Slots) → b ≡ false → is_some o ≡ true → o ≡ or_else (cond b None o) y
after_some true o y e n = let q : true ≡ false = e in cc
after_some false None y e n = let q : false ≡ true = n in cc
after_some false (Some t) y e n = refl

pub pick_pass : (f : Fit) (rs : List Move) (j : ℕ) (e x : Move) (used : Marks) (k : Marks → Slots → Option Slots) (s : Slots) (o : Option Slots) → j < length rs
    → is_marked used j ≡ false → o ≡ one f (get_or rs j x) e (k (set used j true)) s → is_some o ≡ false
    → pick f (drop (j + 1) rs) (j + 1) e used k s ≡ pick f (drop j rs) j e used k s
pick_pass f rs j e x used k s o h u q n =
    let p = pick_step f rs j e x used k s h in
    let a = after_none (is_marked used j) (one f (get_or rs j x) e (k (set used j true)) s) (pick f (drop (j + 1) rs) (j + 1) e used k s) u
    (subst (λ (z : Option Slots). is_some z ≡ false) q n) in
    a ∙ sym p

pub pick_take : (f : Fit) (rs : List Move) (j : ℕ) (e x : Move) (used : Marks) (k : Marks → Slots → Option Slots) (s : Slots) (o : Option Slots) → j < length rs
    → is_marked used j ≡ false → o ≡ one f (get_or rs j x) e (k (set used j true)) s → is_some o ≡ true
    → o ≡ pick f (drop j rs) j e used k s
pick_take f rs j e x used k s o h u q n =
    let p = pick_step f rs j e x used k s h in
    let a = after_some (is_marked used j) (one f (get_or rs j x) e (k (set used j true)) s) (pick f (drop (j + 1) rs) (j + 1) e used k s) u
    (subst (λ (z : Option Slots). is_some z ≡ true) q n) in
    q ∙ (a ∙ sym p)

-- a cell against a place of memory
pub cell_memory : (f : Fit) (c : Cell) (w : Width) (a : Tree) (s : Slots) → leaf f (Read c) (Load w a) s ≡ None
unfolding leaf put
cell_memory f (Hard n) w a s = refl
cell_memory f (Temp n) w a s = refl
cell_memory f (Flag n) w a s = refl
cell_memory f (RegisterHole n) w a s = refl
cell_memory f Pc w a s = refl
cell_memory f Input w a s = refl
cell_memory f Output w a s = refl
cell_memory f Halt w a s = refl

pub memory_cell : (f : Fit) (w : Width) (a e : Tree) (s : Slots) → leaf f (Load w a) e s ≡ None
unfolding leaf
memory_cell f w a e s = refl

pub mixed : (f : Fit) (r e : Move) (k : Slots → Option Slots) (s : Slots) (c : Cell) (w : Width) (a : Tree)
    → r.to ≡ ToCell c → e.to ≡ ToMemory w a → None ≡ one f r e k s
mixed f r e k s c w a p q =
    rw (p, q) (let x : leaf f (Read c) (Load w a) s ≡ None = cell_memory f c w a s in rw x refl)

pub mixed_too : (f : Fit) (r e : Move) (k : Slots → Option Slots) (s : Slots) (c : Cell) (w : Width) (a : Tree)
    → r.to ≡ ToMemory w a → e.to ≡ ToCell c → None ≡ one f r e k s
mixed_too f r e k s c w a p q =
    rw (p, q) (let x : leaf f (Load w a) (Read c) s ≡ None = memory_cell f w a (Read c) s in rw x refl)
