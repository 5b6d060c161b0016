-- A shape assigns at most one register, so no two registers that a row assigns become one where it does the shape.
use Rattle.std.proofs.Common.{◌≡◌, ◌⊎◌, ℕ, suc, Bool, true, false, List, [], ◌∷◌, set, slice_get, Option, Some, None, inl, inr, refl, sym, subst, ap, arith, ◌∙◌}
use Rattle.std.specs.Prelude.{AllPairs, filter_map}
use Rattle.std.specs.List.{cons_option}
use Rattle.std.proofs.lemmas.List.Kept.{AllPairs-cons}
use Rattle.rtl_tree.specs.Trees.{Read, Load}
use Rattle.rtl_tree.specs.Moves.{Goal, ToCell, ToMemory, Move}
use Rattle.rtl_tree.specs.Likeness.{IsAlike}
use Rattle.rtl_tree.proofs.AlikeTrees.{of_read, roots}
use Rattle.rtl_tree.specs.declared.cells.Cell.{Cell}
use Rattle.rtl_tree.specs.declared.cells.Cell.TheVariants.{Hard, Temp, Flag, Pc, Input, Output, Halt, Hole as RegisterHole}
use Rattle.rtl_tree.proofs.Equality.{and_left}
use Rattle.md_rows.specs.declared.instance.Bound.{Bound}
use Rattle.md_rows.specs.declared.instance.Bound.TheVariants.{Reg, Num, Sym, Label}
use Rattle.md_rows.specs.Instances.{filled, held_by, filled_goal, register_by, assigned_register}
use Rattle.md_match.specs.Searches.{Marks, no_marks, is_marked, goal_tree, is_flag_of, is_idle, names_none}
use Rattle.md_match.specs.Does.{IsAlikeMove, Takes, all_taken, taken, IsMarked, assigned}
use Rattle.md_match.proofs.Apart.{Different, from_at, kept_from}
use Rattle.md_covers.proofs.Changes.{Each, other_mark, same_or_not, no_mark, taken_by}

-- the register that a goal assigns once it is filled is the cell that its tree reads
pub record Reads (b : List Bound) (g : Goal) (c : Cell) : Type 0 where
  pub tree : filled b (goal_tree g) ≡ Read c
  pub register : assigned_register (ToCell c) ≡ Some c

cell_register : (d c : Cell) → assigned_register (ToCell d) ≡ Some c → (d ≡ c) × (assigned_register (ToCell c) ≡ Some c)
cell_register (Hard k) c e = let q : Hard k ≡ c = cc in (q, subst (λ x. assigned_register (ToCell x) ≡ Some x) q refl)
cell_register (Temp k) c e = let q : Temp k ≡ c = cc in (q, subst (λ x. assigned_register (ToCell x) ≡ Some x) q refl)
cell_register (Flag k) c e = let q : None ≡ Some c = e in cc
cell_register (RegisterHole k) c e = let q : None ≡ Some c = e in cc
cell_register Pc c e = let q : None ≡ Some c = e in cc
cell_register Input c e = let q : None ≡ Some c = e in cc
cell_register Output c e = let q : None ≡ Some c = e in cc
cell_register Halt c e = let q : None ≡ Some c = e in cc

hole_reads : (h : ℕ) (c : Cell) (o : Option Bound) → assigned_register (ToCell (register_by (RegisterHole h) o)) ≡ Some c
    → (held_by (Read (RegisterHole h)) o ≡ Read c) × (assigned_register (ToCell c) ≡ Some c)
hole_reads h c (Some (Reg d)) e = let x = cell_register d c e in (ap Read x.0, x.1)
hole_reads h c (Some (Num n)) e = let q : None ≡ Some c = e in cc
hole_reads h c (Some (Sym n)) e = let q : None ≡ Some c = e in cc
hole_reads h c (Some (Label n)) e = let q : None ≡ Some c = e in cc
hole_reads h c None e = let q : None ≡ Some c = e in cc

reads_of : (b : List Bound) (g : Goal) (c : Cell) → assigned_register (filled_goal b g) ≡ Some c → Reads b g c
reads_of b (ToCell (RegisterHole h)) c e = let x = hole_reads h c (slice_get b h) e in record { tree = x.0; register = x.1 }
reads_of b (ToCell (Hard k)) c e = let x = cell_register (Hard k) c e in record { tree = ap Read x.0; register = x.1 }
reads_of b (ToCell (Temp k)) c e = let x = cell_register (Temp k) c e in record { tree = ap Read x.0; register = x.1 }
reads_of b (ToCell (Flag k)) c e = let q : None ≡ Some c = e in cc
reads_of b (ToCell Pc) c e = let q : None ≡ Some c = e in cc
reads_of b (ToCell Input) c e = let q : None ≡ Some c = e in cc
reads_of b (ToCell Output) c e = let q : None ≡ Some c = e in cc
reads_of b (ToCell Halt) c e = let q : None ≡ Some c = e in cc
reads_of b (ToMemory w a) c e = let q : None ≡ Some c = e in cc

goal_read : (c : Cell) (g : Goal) → IsAlike (Read c) (goal_tree g) → g ≡ ToCell c
goal_read c (ToCell d) h = ap ToCell (sym (of_read c d h))
goal_read c (ToMemory w a) h = let q : false ≡ true = roots (Read c) (Load w a) h in cc

-- what a taken assignment assigns, the one that it takes assigns
assigns : (b : List Bound) (r e : Move) (c : Cell) → IsAlikeMove b r e → assigned b r ≡ Some c → assigned_register e.to ≡ Some c
assigns b r e c a s =
    let x = reads_of b r.to c s in
    let y = goal_read c e.to (subst (λ t. IsAlike t (goal_tree e.to)) x.tree a.place) in
    ap assigned_register y ∙ x.register

-- transfers that assign no register, or at most one

abbrev AssignsNone : Move → Type 0
AssignsNone e = assigned_register e.to ≡ None

abbrev pub AtMostOne : List Move → Type 0
AtMostOne [] = Unit {0}
AtMostOne (e ∷ es) = ((assigned_register e.to ≡ None) × AtMostOne es) ⊎ Each (λ m. assigned_register m.to ≡ None) es

none_taken : (row : List Move) (b : List Bound) (used left : Marks) (es : List Move) → Each AssignsNone es → Takes row b used es left
    → (k : ℕ) (m : Move) (c : Cell) → slice_get row k ≡ Some m → is_marked used k ≡ false → is_marked left k ≡ true → assigned b m ≡ Some c → ⊥
none_taken row b used left es n t k m c is u v a =
    let x = taken_by row b AssignsNone used left es n t k m is u v in
    let y = assigns b m x.by c x.alike a in
    let z : None ≡ Some c = sym x.kind ∙ y in cc

same_move : (row : List Move) (i j : ℕ) (r s : Move) → slice_get row i ≡ Some r → slice_get row j ≡ Some s → j ≡ i → s ≡ r
same_move row i j r s e f q = let x : slice_get row i ≡ Some s = subst (λ k. slice_get row k ≡ Some s) q f in cc

first_taken : (row : List Move) (b : List Bound) (e : Move) (es : List Move) (j : ℕ) (r : Move) (used left : Marks) → slice_get row j ≡ Some r
    → IsAlikeMove b r e → Takes row b (set used j true) es left → AtMostOne (e ∷ es)
    → (i k : ℕ) (m n : Move) (c d : Cell) → slice_get row i ≡ Some m → slice_get row k ≡ Some n → i ≡ j → (k ≡ j → ⊥)
    → is_marked used k ≡ false → is_marked left k ≡ true → assigned b m ≡ Some c → assigned b n ≡ Some d → ⊥
first_taken row b e es j r used left at a rest (inl o) i k m n c d p q y z u v s t =
    let same : m ≡ r = same_move row j i r m at p y in
    let x = assigns b r e c a (subst (λ x. assigned b x ≡ Some c) same s) in
    let w : None ≡ Some c = sym o.0 ∙ x in cc
first_taken row b e es j r used left at a rest (inr o) i k m n c d p q y z u v s t =
    none_taken row b (set used j true) left es o rest k n d q (other_mark used j k z u) v t

one_taken : (row : List Move) (b : List Bound) (used left : Marks) (es : List Move) → AtMostOne es → Takes row b used es left
    → (i k : ℕ) (m n : Move) (c d : Cell) → slice_get row i ≡ Some m → slice_get row k ≡ Some n → (i ≡ k → ⊥)
    → is_marked used i ≡ false → is_marked used k ≡ false → is_marked left i ≡ true → is_marked left k ≡ true
    → assigned b m ≡ Some c → assigned b n ≡ Some d → ⊥
one_taken row b _ _ _ o (all_taken used) i k m n c d p q df u1 u2 l1 l2 s t = let x : true ≡ false = sym l1 ∙ u1 in cc
one_taken row b _ _ _ o (taken e es j r used left at free a rest) i k m n c d p q df u1 u2 l1 l2 s t = elim (same_or_not i j) [
  | inl y ↦ first_taken row b e es j r used left at a rest o i k m n c d p q y (λ z. df (y ∙ sym z)) u2 l2 s t
  | inr y ↦ elim (same_or_not k j) [
    | inl z ↦ first_taken row b e es j r used left at a rest o k i n m d c q p z y u1 l1 t s
    | inr z ↦ elim o [
      | inl g ↦ one_taken row b (set used j true) left es g.1 rest i k m n c d p q df (other_mark used j i y u1) (other_mark used j k z u2) l1 l2 s t
      | inr g ↦ none_taken row b (set used j true) left es g rest i m c p (other_mark used j i y u1) l1 s
    ]
  ]
]

-- the registers that a row assigns

flag_none : (b : List Bound) (f : ℕ) (g : Goal) → is_flag_of f g ≡ true → assigned_register (filled_goal b g) ≡ None
flag_none b f (ToCell (Flag k)) e = refl
flag_none b f _ e = let q : false ≡ true = e in cc

marked_is : (marks : Marks) (k : ℕ) → (is_marked marks k ≡ false → ⊥) → is_marked marks k ≡ true
marked_is marks k n = by (is_marked marks k) refl
  where
    by : (o : Bool) → is_marked marks k ≡ o → is_marked marks k ≡ true
    by true e = e
    by false e = absurd (n e)

pairs_by : (f : Move → Option Cell) (r : Move) (rs : List Move)
    → ((j : ℕ) (s : Move) (c d : Cell) → slice_get rs j ≡ Some s → f r ≡ Some c → f s ≡ Some d → ⊥)
    → AllPairs Different (filter_map f rs) → (o : Option Cell) → f r ≡ o → AllPairs Different (cons_option o (filter_map f rs))
pairs_by f r rs n rest None q = rest
pairs_by f r rs n rest (Some c) q = AllPairs-cons Different c (filter_map f rs)
    (from_at (Different c) (filter_map f rs) (λ j d e. (let x = kept_from f rs j d e in absurd (n x.place x.move c d x.is q x.assigns)))) rest

none_pairs : (f : Move → Option Cell) (row : List Move)
    → ((i k : ℕ) (r s : Move) (c d : Cell) → (i ≡ k → ⊥) → slice_get row i ≡ Some r → slice_get row k ≡ Some s → f r ≡ Some c → f s ≡ Some d → ⊥)
    → AllPairs Different (filter_map f row)
none_pairs f [] n = λ i j d l m. absurd (omega (arith, m))
none_pairs f (r ∷ rs) n =
    pairs_by f r rs (λ j s c d e p q. n 0 (suc j) r s c d (λ z. omega (arith, z)) refl e p q)
    (none_pairs f rs (λ i k p q c d z e g u v. n (suc i) (suc k) p q c d (λ y. z (omega (arith, y))) e g u v)) (f r) refl

pub one_register : (g : ℕ) (row : List Move) (b : List Bound) (marks : Marks) (es : List Move) → AtMostOne es → Takes row b no_marks es marks
    → ((r : Move) → IsMarked row marks false r → is_idle 255 g r ≡ true) → AllPairs Different (filter_map (assigned b) row)
one_register g row b marks es o t idle = none_pairs (assigned b) row (λ i k r s c d z e f p q.
    one_taken row b no_marks marks es o t i k r s c d e f z (no_mark i) (no_mark k)
    (marked_is marks i (λ u. unmarked r i c e p u)) (marked_is marks k (λ u. unmarked s k d f q u)) p q)
  where
    unmarked : (r : Move) (i : ℕ) (c : Cell) → slice_get row i ≡ Some r → assigned b r ≡ Some c → is_marked marks i ≡ false → ⊥
    unmarked r i c e p u =
        let x = flag_none b 255 r.to (and_left (is_flag_of 255 r.to) (names_none g r.value) (idle r (record { place = i; is = e; marked = u }))) in
        let y : None ≡ Some c = sym x ∙ p in cc
