-- Which assignments of a transfer its lookups find.
use Rattle.std.proofs.Common.{◌≡◌, ℕ, zero, suc, Bool, true, false, List, [], ◌∷◌, slice_get, Option, Some, None, Result, Ok, Err, refl, sym, subst, ap, ◌∙◌, arith}
use Rattle.std.specs.Prelude.{if◌then◌else◌}
use Rattle.rtl_tree.specs.declared.cells.Cell.{Cell}
use Rattle.rtl_tree.specs.declared.expressions.Width.{Width}
use Rattle.rtl_tree.specs.Trees.{Tree}
use Rattle.rtl_tree.specs.Moves.{Goal, ToCell, ToMemory, Move}
use Rattle.rtl_tree.specs.Same.{same_cell}
use Rattle.rtl_tree.proofs.Equality.{same_cell-is, same_cell-own}
use Rattle.rtl_effect.specs.Views.{Stop, View, bind}
use Rattle.rtl_effect.specs.Effects.{assigned_by, assigned, Storing, storing_by, storing, is_input, takes, Fine, tested_by, tested}

-- an assignment of a transfer
pub record Among (ms : List Move) (m : Move) : Type 0 where
  pub place : ℕ
  pub is : slice_get ms place ≡ Some m

later : (x : Move) (ms : List Move) (m : Move) → Among ms m → Among (x ∷ ms) m
later x ms m a = record { place = suc a.place; is = a.is }

-- the assignment by which a cell is assigned a tree
pub record Assigns (ms : List Move) (c : Cell) (t : Tree) : Type 0 where
  pub move : Move
  pub among : Among ms move
  pub to : move.to ≡ ToCell c
  pub value : move.value ≡ t

assigns_later : (x : Move) (ms : List Move) (c : Cell) (t : Tree) → Assigns ms c t → Assigns (x ∷ ms) c t
assigns_later x ms c t a = record { move = a.move; among = later x ms a.move a.among; to = a.to; value = a.value }

pub assigned_from : (ms : List Move) (c : Cell) (t : Tree) → assigned ms c ≡ Some t → Assigns ms c t
assigned_from [] c t e = absurd (cc)
assigned_from (m ∷ ms) c t e = by (λ f. assigned_from ms c t f) m.to refl e
  where
    at : (assigned ms c ≡ Some t → Assigns ms c t) → (d : Cell) (b : Bool) → m.to ≡ ToCell d → same_cell d c ≡ b
        → (if b then Some m.value else assigned ms c) ≡ Some t → Assigns (m ∷ ms) c t
    at next d true g k f = record {
      move = m;
      among = record { place = 0; is = refl };
      to = g ∙ ap (λ (x : Cell). let y : Goal = ToCell x in y) (same_cell-is d c k);
      value = cc;
    }
    at next d false g k f = assigns_later m ms c t (next f)

    by : (assigned ms c ≡ Some t → Assigns ms c t) → (g : Goal) → m.to ≡ g → assigned_by g m.value c (assigned ms c) ≡ Some t → Assigns (m ∷ ms) c t
    by next (ToCell d) g f = at next d (same_cell d c) g refl f
    by next (ToMemory w a) g f = assigns_later m ms c t (next f)

-- a cell to which an assignment goes is assigned something
pub assigned_some : (ms : List Move) (c : Cell) (m : Move) → Among ms m → m.to ≡ ToCell c → assigned ms c ≡ None → ⊥
assigned_some ms c m a g e = go ms a.place a.is e
  where
    here : (to : Goal) (t : Tree) (rest : Option Tree) → to ≡ ToCell c → assigned_by to t c rest ≡ None → ⊥
    here to t rest g e =
        let k : assigned_by (ToCell c) t c rest ≡ None = subst (λ (x : Goal). assigned_by x t c rest ≡ None) g e in
        let s = same_cell-own c in
        let q : Some t ≡ None = sym (ap (λ (b : Bool). if b then Some t else rest) s) ∙ k in
        cc

    past : (to : Goal) (t : Tree) (rest : Option Tree) → assigned_by to t c rest ≡ None → rest ≡ None
    past (ToMemory w a) t rest e = e
    past (ToCell d) t rest e = cell (same_cell d c) e
      where
        cell : (b : Bool) → (if b then Some t else rest) ≡ None → rest ≡ None
        cell true f = cc
        cell false f = f

    go : (ns : List Move) (k : ℕ) → slice_get ns k ≡ Some m → assigned ns c ≡ None → ⊥
    go [] k i e = absurd (cc)
    go (n ∷ ns) zero i e =
        let same : n ≡ m = cc in here n.to n.value (assigned ns c) (ap (λ (x : Move). x.to) same ∙ g) e
    go (n ∷ ns) (suc k) i e = go ns k i (past n.to n.value (assigned ns c) e)

-- the assignment that stores
pub record Stores (ms : List Move) (s : Storing) : Type 0 where
  pub move : Move
  pub among : Among ms move
  pub to : move.to ≡ ToMemory s.width s.place
  pub value : move.value ≡ s.value

stores_later : (x : Move) (ms : List Move) (s : Storing) → Stores ms s → Stores (x ∷ ms) s
stores_later x ms s a = record { move = a.move; among = later x ms a.move a.among; to = a.to; value = a.value }

pub stored_from : (ms : List Move) (s : Storing) → storing ms ≡ Some s → Stores ms s
stored_from [] s e = absurd (cc)
stored_from (m ∷ ms) s e = by (λ f. stored_from ms s f) m.to refl e
  where
    by : (storing ms ≡ Some s → Stores ms s) → (g : Goal) → m.to ≡ g → storing_by g m.value (storing ms) ≡ Some s → Stores (m ∷ ms) s
    by next (ToCell d) g f = stores_later m ms s (next f)
    by next (ToMemory w a) g f =
        let same : (let x : Storing = record { width = w; place = a; value = m.value } in x ≡ s) = cc in
        record {
          move = m;
          among = record { place = 0; is = refl };
          to = g ∙ ap (λ (x : Storing). let y : Goal = ToMemory x.width x.place in y) same;
          value = ap (λ (x : Storing). x.value) same;
        }

pub record IsStore (g : Goal) : Type 0 where
  pub width : Width
  pub at : Tree
  pub is : g ≡ ToMemory width at

pub stored_some : (ms : List Move) (m : Move) → Among ms m → IsStore m.to → storing ms ≡ None → ⊥
stored_some ms m a g e = go ms a.place a.is e
  where
    here : (to : Goal) (t : Tree) (rest : Option Storing) → IsStore to → storing_by to t rest ≡ None → ⊥
    here to t rest g e =
        let k : storing_by (ToMemory g.width g.at) t rest ≡ None = subst (λ (x : Goal). storing_by x t rest ≡ None) g.is e in cc

    past : (to : Goal) (t : Tree) (rest : Option Storing) → storing_by to t rest ≡ None → rest ≡ None
    past (ToMemory w a) t rest e = cc
    past (ToCell d) t rest e = e

    go : (ns : List Move) (k : ℕ) → slice_get ns k ≡ Some m → storing ns ≡ None → ⊥
    go [] k i e = absurd (cc)
    go (n ∷ ns) zero i e = let same : n ≡ m = cc in here n.to n.value (storing ns) (subst (λ (x : Move). IsStore x.to) (sym same) g) e
    go (n ∷ ns) (suc k) i e = go ns k i (past n.to n.value (storing ns) e)

-- the assignment that takes the input
pub record Takes (ms : List Move) : Type 0 where
  pub move : Move
  pub among : Among ms move
  pub input : is_input move.value ≡ true

pub takes_from : (ms : List Move) → takes ms ≡ true → Takes ms
takes_from [] e = absurd (cc)
takes_from (m ∷ ms) e = by (λ f. takes_from ms f) (is_input m.value) refl e
  where
    behind : Takes ms → Takes (m ∷ ms)
    behind t = record { move = t.move; among = later m ms t.move t.among; input = t.input }

    by : (takes ms ≡ true → Takes ms) → (b : Bool) → is_input m.value ≡ b → (if b then true else takes ms) ≡ true → Takes (m ∷ ms)
    by next true k f = record { move = m; among = record { place = 0; is = refl }; input = k }
    by next false k f = behind (next f)

pub takes_some : (ms : List Move) (m : Move) → Among ms m → is_input m.value ≡ true → takes ms ≡ true
takes_some ms m a k = go ms a.place a.is
  where
    past : (b : Bool) (ns : List Move) → takes ns ≡ true → (if b then true else takes ns) ≡ true
    past true ns e = refl
    past false ns e = e

    go : (ns : List Move) (i : ℕ) → slice_get ns i ≡ Some m → takes ns ≡ true
    go [] i e = absurd (cc)
    go (n ∷ ns) zero e =
        let same : n ≡ m = cc in
        ap (λ (b : Bool). if b then true else takes ns) (ap (λ (x : Move). is_input x.value) same ∙ k)
    go (n ∷ ns) (suc i) e = past (is_input n.value) ns (go ns i e)

-- the tests of all assignments

fine_first : (u r : Fine) → bind u (λ x. r) ≡ Ok tt → (u ≡ Ok tt) × (r ≡ Ok tt)
fine_first (Ok x) r e = (refl, e)
fine_first (Err s) r e = absurd (grind (arith, e))

pub tested_each : (w : ℕ) (ms : List Move) (v : View) (m : Move) → tested w ms v ≡ Ok tt → Among ms m → tested_by w m.to m.value v ≡ Ok tt
tested_each w ms v m e a = go ms a.place a.is e
  where
    go : (ns : List Move) (i : ℕ) → slice_get ns i ≡ Some m → tested w ns v ≡ Ok tt → tested_by w m.to m.value v ≡ Ok tt
    go [] i k f = absurd (cc)
    go (n ∷ ns) zero k f =
        let same : n ≡ m = cc in
        subst (λ (x : Move). tested_by w x.to x.value v ≡ Ok tt) same (fine_first (tested_by w n.to n.value v) (tested w ns v) f).0
    go (n ∷ ns) (suc i) k f = go ns i k (fine_first (tested_by w n.to n.value v) (tested w ns v) f).1

pub tested_all : (w : ℕ) (ms : List Move) (v : View) → ((m : Move) → Among ms m → tested_by w m.to m.value v ≡ Ok tt) → tested w ms v ≡ Ok tt
tested_all w [] v h = refl
tested_all w (m ∷ ms) v h =
    ap (λ (u : Fine). bind u (λ x. tested w ms v)) (h m (record { place = 0; is = refl }))
    ∙ tested_all w ms v (λ n a. h n (later m ms n a))
