-- Lines that are written one behind the other, and the labels between them.
use Rattle.std.proofs.Common.{◌≡◌, ℕ, zero, suc, get_or, ◌+◌, ◌-◌, ◌/◌, ◌<◌, ◌^◌, Bool, true, if◌then◌else◌, List, [], ◌∷◌, ◌++◌, map, drop, length, Option, Some, None, Result, Ok, Err, refl, sym, ap, subst, ◌∙◌, arith, append_assoc}
use mathlib.Core.List.{map-append}
use Rattle.std.proofs.lemmas.List.{length-append, length-map}
use Rattle.std.specs.Prelude.{All, OnOk}
use Rattle.std.proofs.lemmas.List.Elements.{All-nil, All-cons, All-head, All-tail, All-append}
use Rattle.rtl_tree.specs.declared.memory.NoMemory.{NoMemory}
use Rattle.rtl_tree.specs.Moves.{Move}
use Rattle.rtl_tree.specs.declared.cells.Lab.{Lab}
use Rattle.md_rows.specs.declared.description.RawDescription.{RawDescription}
use Rattle.md_rows.specs.declared.instance.Instance.{Instance}
use Rattle.md_shapes.specs.declared.patterns.Pattern.{Pattern}
use Rattle.md_shapes.specs.declared.patterns.Pattern.TheVariants.{MoveStack, Return, SaveLink, RestoreLink}
use Rattle.md_instances.specs.Instances.{IsOfDescription}
use Rattle.md_shapes.specs.Shapes.{Frame, Open}
use Rattle.temp_shapes.specs.declared.rows.ShapeRows.{ShapeRows}
use Rattle.temp_shapes.specs.Instances.{IsInstanceOf}
use Rattle.rtl_tree.specs.declared.cells.Lab.TheVariants.{Block as BlockLabel, Function}
use Rattle.rtl_value.specs.declared.state.LabelAt.{LabelAt}
use Rattle.md_rows.specs.declared.row.Row.{Row}
use Rattle.temp_code.specs.declared.code.Transfer.{Transfer}
use Rattle.temp_code.specs.declared.code.Block.{Block}
use Rattle.temp_code.specs.declared.code.End.{End}
use Rattle.temp_code.specs.declared.code.Code.{Code}
use Rattle.temp_code.specs.Realised.{IsRealised, end_transfers, transfers_of}
use Rattle.temp_code.specs.Routines.{routine_of}
use Rattle.link_code.specs.Linked.{entry, leave}
use Rattle.rtl_machine.specs.Loading.{moves_of, moves_by}
use Rattle.link_rows.specs.Added.{found}
use Rattle.link_lines.specs.Glue.{glue_of, made, made_at, shape_at, no_label, has_numbers, transfer_by}
use Rattle.link_lines.specs.Lines.{Writes, target, entry_of, leave_of, end_of_lines, block_of_lines, blocks_lines, blocks_labels, lines_of_code, labels_of_code}

pub written_one : (d : RawDescription) (old new : List Instance) (i : Instance) (ms : List Move) → new ≡ old ++ i ∷ [] → ms ≡ moves_of d i → IsOfDescription d i
    → Writes d old new (ms ∷ [])
written_one d old new i ms e f h = record {
  moves = ap (map (moves_of d)) e ∙ (map-append (moves_of d) old (i ∷ []) ∙ ap (λ (m : List Move). map (moves_of d) old ++ m ∷ []) (sym f));
  rows = λ all. subst (All (IsOfDescription d)) (sym e) (All-append (IsOfDescription d) old (i ∷ []) all (All-cons (IsOfDescription d) i [] h (All-nil (IsOfDescription d))));
}

pub has_row : (d : RawDescription) (frame : Frame) (p : Pattern) (o : Open) (i : Instance) → IsInstanceOf d frame p o i → IsOfDescription d i
has_row d frame p o i h = (h.row, h.instance)

pub written_both : (d : RawDescription) (a b c : List Instance) (ms ns : List (List Move)) → Writes d a b ms → Writes d b c ns → Writes d a c (ms ++ ns)
written_both d a b c ms ns e f = record {
  moves = f.moves ∙ (ap (λ (xs : List (List Move)). xs ++ ns) e.moves ∙ append_assoc (map (moves_of d) a) ms ns);
  rows = λ all. f.rows (e.rows all);
}

pub written_then : (d : RawDescription) (a b c : List Instance) (ms ns : List (List Move)) (r : Result (Unit {0}) NoMemory) → Writes d a b ms → OnOk r (Writes d b c ns)
    → OnOk r (Writes d a c (ms ++ ns))
written_then d a b c ms ns (Ok x) e f = written_both d a b c ms ns e f
written_then d a b c ms ns (Err x) e f = tt

pub moved : (d : RawDescription) (a b c : List Instance) (ms : List (List Move)) → b ≡ a → Writes d b c ms → Writes d a c ms
moved d a b c ms e w = subst (λ (xs : List Instance). Writes d xs c ms) e w

pub made_is : (d : RawDescription) (t : ShapeRows) (p : Pattern) (n : ℕ) (l : Lab) (i : Instance) → found d t p n l ≡ Some i → made d t p n l ≡ moves_of d i
made_is d t p n l i e = ap (transfer_by d (shape_at d t p n l)) e

pub made_at_is : (d : RawDescription) (t : ShapeRows) (p : Pattern) (n : ℕ) (i : Instance) → has_numbers d.word p n ≡ true → found d t p n no_label ≡ Some i
    → made_at d t p n ≡ moves_of d i
made_at_is d t p n i h e =
    ap (λ (b : Bool). if b then made d t p n no_label else shape_at d t p n no_label) h ∙ made_is d t p n no_label i e

pub grown : (d : RawDescription) (old new : List Instance) (ms : List (List Move)) → Writes d old new ms → length new ≡ length old + length ms
grown d old new ms e =
    sym (length-map new (moves_of d)) ∙ (ap length e.moves ∙ (length-append (map (moves_of d) old) ms ∙ ap (λ (n : ℕ). n + length ms) (length-map old (moves_of d))))

pub drop_at : {A : Type 0} (xs : List A) (i : ℕ) (x : A) → i < length xs → drop i xs ≡ get_or xs i x ∷ drop (i + 1) xs
drop_at [] i x h = absurd (omega (arith, h))
drop_at (y ∷ xs) zero x h = refl
drop_at (y ∷ xs) (suc i) x h =
    drop_at xs i x (let q : suc i < suc (length xs) = h in omega arith)
    ∙ ap (λ (n : ℕ). get_or xs i x ∷ drop n (y ∷ xs)) (let q : suc (i + 1) ≡ suc i + 1 = omega arith in q)

-- one more block of a code
module _ (d : RawDescription) (t : ShapeRows) (c : Code) (bs : List Block) (i : ℕ) where
  module _ (x : Block) (within : i < length bs) where
    pub next_lines : (now one : List Instance) (whole : List (List Move)) → Writes d now one (block_of_lines d t c (get_or bs i x))
        → map (moves_of d) now ++ blocks_lines d t c (drop i bs) ≡ whole → map (moves_of d) one ++ blocks_lines d t c (drop (i + 1) bs) ≡ whole
    next_lines now one whole w h =
        ap (λ (xs : List (List Move)). xs ++ blocks_lines d t c (drop (i + 1) bs)) w.moves
        ∙ (append_assoc (map (moves_of d) now) (block_of_lines d t c (get_or bs i x)) (blocks_lines d t c (drop (i + 1) bs))
        ∙ subst (λ (ys : List Block). map (moves_of d) now ++ blocks_lines d t c ys ≡ whole) (drop_at bs i x within) h)

    pub next_labels : (now one : List Instance) (labels more whole : List LabelAt) → Writes d now one (block_of_lines d t c (get_or bs i x))
        → more ≡ labels ++ record { label = BlockLabel (get_or bs i x).label; at = length now } ∷ []
        → labels ++ blocks_labels d t (length now) c (drop i bs) ≡ whole → more ++ blocks_labels d t (length one) c (drop (i + 1) bs) ≡ whole
    next_labels now one labels more whole w e h =
        ap (λ (xs : List LabelAt). xs ++ blocks_labels d t (length one) c (drop (i + 1) bs)) e
        ∙ (append_assoc labels (record { label = BlockLabel (get_or bs i x).label; at = length now } ∷ []) (blocks_labels d t (length one) c (drop (i + 1) bs))
        ∙ (ap (λ (n : ℕ). labels ++ record { label = BlockLabel (get_or bs i x).label; at = length now } ∷ blocks_labels d t n c (drop (i + 1) bs))
        (grown d now one (block_of_lines d t c (get_or bs i x)) w)
        ∙ subst (λ (ys : List Block). labels ++ blocks_labels d t (length now) c ys ≡ whole) (drop_at bs i x within) h))

pub line_is : (d : RawDescription) (t : Transfer) → IsRealised d t → moves_of d t.by ≡ t.what
line_is d t h = ap (λ (r : Option Row). moves_by r t.by.binding) h.instance.has_row ∙ sym h.effects

pub transfer_row : (d : RawDescription) (t : Transfer) → IsRealised d t → IsOfDescription d t.by
transfer_row d t h = (h.row, h.instance)

-- what a body's instructions make is what its transfers say
pub body_lines : (d : RawDescription) (ts : List Transfer) → All (IsRealised d) ts → map (moves_of d) (map (λ t. t.by) ts) ≡ map (λ t. t.what) ts
body_lines d [] h = refl
body_lines d (t ∷ ts) h =
    ap (λ (m : List Move). m ∷ map (moves_of d) (map (λ t. t.by) ts)) (line_is d t (All-head (IsRealised d) t ts h)) ∙ ap (λ (ms : List (List Move)). t.what ∷ ms) (body_lines d ts (All-tail (IsRealised d) t ts h))

body_rows : (d : RawDescription) (ts : List Transfer) → All (IsRealised d) ts → All (IsOfDescription d) (map (λ t. t.by) ts)
body_rows d [] h = All-nil (IsOfDescription d)
body_rows d (t ∷ ts) h =
    All-cons (IsOfDescription d) t.by (map (λ t. t.by) ts) (transfer_row d t (All-head (IsRealised d) t ts h)) (body_rows d ts (All-tail (IsRealised d) t ts h))

body_written : (d : RawDescription) (old mid : List Instance) (ts : List Transfer) → All (IsRealised d) ts → mid ≡ old ++ map (λ t. t.by) ts
    → Writes d old mid (map (λ t. t.what) ts)
body_written d old mid ts h e = record {
  moves = ap (map (moves_of d)) e ∙ (map-append (moves_of d) old (map (λ t. t.by) ts) ∙ ap (λ (xs : List (List Move)). map (moves_of d) old ++ xs) (body_lines d ts h));
  rows = λ all. subst (All (IsOfDescription d)) (sym e) (All-append (IsOfDescription d) old (map (λ t. t.by) ts) all (body_rows d ts h));
}

first_part : {A : Type 0} (P : A → Type 0) (xs ys : List A) → All P (xs ++ ys) → All P xs
first_part P [] ys h = All-nil P
first_part P (x ∷ xs) ys h = All-cons P x xs (All-head P x (xs ++ ys) h) (first_part P xs ys (All-tail P x (xs ++ ys) h))

pub block_written : (d : RawDescription) (t : ShapeRows) (c : Code) (b : Block) (old mid new : List Instance) (r : Result (Unit {0}) NoMemory)
    → All (IsRealised d) (transfers_of b) → mid ≡ old ++ map (λ t. t.by) b.body → OnOk r (Writes d mid new (end_of_lines d t c b.end))
    → OnOk r (Writes d old new (block_of_lines d t c b))
block_written d t c b old mid new (Ok x) h e w =
    written_both d old mid new (map (λ t. t.what) b.body) (end_of_lines d t c b.end) (body_written d old mid b.body (first_part (IsRealised d) b.body _ h) e) w
block_written d t c b old mid new (Err x) h e w = tt

-- an end that is one transfer
pub end_written : (d : RawDescription) (t : ShapeRows) (c : Code) (e : End) (x : Transfer) (old new : List Instance) (r : Result (Unit {0}) NoMemory)
    → end_transfers e ≡ x ∷ [] → end_of_lines d t c e ≡ x.what ∷ [] → All (IsRealised d) (end_transfers e) → OnOk r (new ≡ old ++ x.by ∷ [])
    → OnOk r (Writes d old new (end_of_lines d t c e))
end_written d t c e x old new (Ok y) is makes h w =
    let one : IsRealised d x = All-head (IsRealised d) x [] (subst (All (IsRealised d)) is h) in
    subst (Writes d old new) (sym makes) (written_one d old new x.by x.what w (sym (line_is d x one)) (transfer_row d x one))
end_written d t c e x old new (Err y) is makes h w = tt

-- the lines of an entry and of a return, with a link register and without
module _ (d : RawDescription) (t : ShapeRows) (c : Code) (a b new : List Instance) (r : Result (Unit {0}) NoMemory) where
  pub entry_written : (z : ℕ) → t.frame.link ≡ Some z → Writes d a b (made_at d t MoveStack (2 ^ d.word - c.frame) ∷ [])
      → OnOk r (Writes d b new (made_at d t SaveLink (c.first_home - d.word / 8) ∷ [])) → OnOk r (Writes d a new (entry_of d t c))
  entry_written z e w h =
      subst (λ (l : Option ℕ). OnOk r (Writes d a new (entry (target d t) (glue_of d t) l (routine_of c)))) (sym e)
      (written_then d a b new (made_at d t MoveStack (2 ^ d.word - c.frame) ∷ []) (made_at d t SaveLink (c.first_home - d.word / 8) ∷ []) r w h)

  abbrev pub behind_fetch : List (List Move)
  behind_fetch = made_at d t MoveStack c.frame ∷ made d t Return 0 no_label ∷ []

  pub left_with : (z : ℕ) → t.frame.link ≡ Some z → Writes d a b (made_at d t RestoreLink (c.first_home - d.word / 8) ∷ [])
      → OnOk r (Writes d b new behind_fetch) → OnOk r (Writes d a new (leave_of d t c))
  left_with z e w h =
      subst (λ (l : Option ℕ). OnOk r (Writes d a new (leave (target d t) (glue_of d t) l (routine_of c)))) (sym e)
      (written_then d a b new (made_at d t RestoreLink (c.first_home - d.word / 8) ∷ []) behind_fetch r w h)

  pub left_without : t.frame.link ≡ None → OnOk r (Writes d a new behind_fetch) → OnOk r (Writes d a new (leave_of d t c))
  left_without e h = subst (λ (l : Option ℕ). OnOk r (Writes d a new (leave (target d t) (glue_of d t) l (routine_of c)))) (sym e) h

pub code_labelled : (d : RawDescription) (t : ShapeRows) (c : Code) (old mid : List Instance) (labels one two : List LabelAt) (r : Result (Unit {0}) NoMemory)
    → one ≡ labels ++ record { label = Function c.function; at = length old } ∷ [] → Writes d old mid (entry_of d t c)
    → OnOk r (two ≡ one ++ blocks_labels d t (length mid) c c.blocks) → OnOk r (two ≡ labels ++ labels_of_code d t (length old) c)
code_labelled d t c old mid labels one two (Ok x) e w h =
    h ∙ (ap (λ (xs : List LabelAt). xs ++ blocks_labels d t (length mid) c c.blocks) e
    ∙ (append_assoc labels (record { label = Function c.function; at = length old } ∷ []) (blocks_labels d t (length mid) c c.blocks)
    ∙ ap (λ (n : ℕ). labels ++ record { label = Function c.function; at = length old } ∷ blocks_labels d t n c c.blocks) (grown d old mid (entry_of d t c) w)))
code_labelled d t c old mid labels one two (Err x) e w h = tt

pub code_written : (d : RawDescription) (t : ShapeRows) (c : Code) (old mid new : List Instance) (r : Result (Unit {0}) NoMemory) → Writes d old mid (entry_of d t c)
    → OnOk r (Writes d mid new (blocks_lines d t c c.blocks)) → OnOk r (Writes d old new (lines_of_code d t c))
code_written d t c old mid new (Ok x) w h = written_both d old mid new (entry_of d t c) (blocks_lines d t c c.blocks) w h
code_written d t c old mid new (Err x) w h = tt
