-- The fillings of a mode, from declaration to declaration.
use Rattle.std.proofs.Common.{◌≡◌, ℕ, suc, ◌+◌, Bool, true, false, cond, List, [], ◌∷◌, ◌++◌, map, length, drop, get_or, refl, sym, ap, subst, ◌∙◌, append_assoc, append-nil, ◌<◌, ◌≢◌}
use Rattle.std.specs.Bool.{Decides}
use Rattle.std.specs.Borrow.{Bor}
use Rattle.std.specs.Global.{Vec}
use Rattle.std.specs.HashMap.{HashMap, get_by}
use Rattle.std.specs.List.{filter}
use Rattle.std.specs.Option.{option_map_or, unwrap_or}
use Rattle.std.specs.Prelude.{IfSome}
use Rattle.std.specs.Str.{bytes_eq}
use Rattle.std.specs.declared.option.Option.{Option}
use Rattle.std.specs.declared.option.Option.TheVariants.{Some, None}
use Rattle.std.proofs.lemmas.List.{drop_more, map-append}
use Rattle.std.proofs.lemmas.Slice.Eq.{bytes_eq-Decides}
use Rattle.md_text.specs.Pieces.{Kind, Named, Piece, Literal, Hole, slots, has_name}
use Rattle.md_text.specs.Forms.{OpenTree, Form, Version, MachineName, WordBits, MemorySize, DataBegin, StackSize, RegisterLine, FlagLine, ClassLine, ModeLine, RowLine}
use Rattle.md_text.specs.Declarations.{Declaration, Alternative as Said, alternatives_in, mode_names}
use Rattle.md_text.specs.Expansion as text
use Rattle.md_forms.specs.Seen.{pieces_of, declaration_of, declarations_of}
use Rattle.md_forms.specs.declared.pieces.Piece.{Piece as ReadPiece}
use Rattle.md_forms.specs.declared.declarations.Declaration.{Declaration as Read}
use Rattle.md_expand.specs.declared.modes.Filling.{Filling}
use Rattle.md_expand.specs.declared.modes.Filling.TheVariants.{Alternative}
use Rattle.md_expand.specs.Fillings.{alternative_named, listed, all_seen, filling_seen}

choose :
    (b : Bool) (w : ℕ) (ds : List Declaration) (a : Said) (rest : List Said)
    → map (text.filling_of w ds) (cond b (a ∷ rest) rest) ≡ cond b (text.filling_of w ds a ∷ []) [] ++ map (text.filling_of w ds) rest
choose true w ds a rest = refl
choose false w ds a rest = refl

first :
    (w : ℕ) (ds : List Declaration) (name : List ℕ) (form : Form) (line : ℕ) (rest : List Declaration)
    → map (text.filling_of w ds) (text.alternatives_of (record { line = line; form = form } ∷ rest) name)
    ≡ alternative_named w ds name form ++ map (text.filling_of w ds) (text.alternatives_of rest name)
first w ds name Version line rest = refl
first w ds name (MachineName n) line rest = refl
first w ds name (WordBits z) line rest = refl
first w ds name (MemorySize z) line rest = refl
first w ds name (DataBegin z) line rest = refl
first w ds name (StackSize z) line rest = refl
first w ds name (RegisterLine k n role) line rest = refl
first w ds name (FlagLine k n) line rest = refl
first w ds name (ClassLine n registers) line rest = refl
first w ds name (ModeLine n pieces tree) line rest =
    choose (bytes_eq n name) w ds (record { mode = n; text = pieces; tree = tree }) (text.alternatives_of rest name)
first w ds name (RowLine pieces transfer) line rest = refl

pub one_further :
    (w : ℕ) (ds : List Declaration) (name : List ℕ) (all : List Read) (i : ℕ) (d : Read) (done more : List text.Filling)
    → i < length all → d ≡ get_or all i d → more ≡ done ++ alternative_named w ds name (declaration_of d).form
    → more ++ map (text.filling_of w ds) (text.alternatives_of (declarations_of (drop (i + 1) all)) name)
    ≡ done ++ map (text.filling_of w ds) (text.alternatives_of (declarations_of (drop i all)) name)
one_further w ds name all i d done more lt at e =
    let rest = map (text.filling_of w ds) (text.alternatives_of (declarations_of (drop (i + 1) all)) name) in
    let split : drop i all ≡ d ∷ drop (i + 1) all = drop_more all i d lt ∙ ap (λ x. x ∷ drop (i + 1) all) (sym at) in
    ap (λ fs. fs ++ rest) e ∙ append_assoc done (alternative_named w ds name (declaration_of d).form) rest
    ∙ ap (λ fs. done ++ fs)
    (sym (ap (λ xs. map (text.filling_of w ds) (text.alternatives_of (declarations_of xs) name)) split
    ∙ first w ds name (declaration_of d).form d.line (declarations_of (drop (i + 1) all))))

abbrev pub is_some_item : {A : Type 0} → List A → Bool
is_some_item [] = false
is_some_item (x ∷ xs) = true

abbrev pub fillings_or : List text.Filling → List text.Filling → List text.Filling
fillings_or fs gs = cond (is_some_item fs) fs gs

step :
    (b : Bool) (w : ℕ) (ds : List Declaration) (name : List ℕ) (a : Said) (ys : List Said) → bytes_eq a.mode name ≡ b
    → has_name (map (λ a. a.mode) ys) name ≡ is_some_item (map (text.filling_of w ds) (filter (λ a. bytes_eq a.mode name) ys))
    → has_name (map (λ a. a.mode) (a ∷ ys)) name ≡ is_some_item (map (text.filling_of w ds) (filter (λ a. bytes_eq a.mode name) (a ∷ ys)))
step true w ds name a ys e rest = rw e refl
step false w ds name a ys e rest = rw e rest

some_named : (w : ℕ) (ds : List Declaration) (name : List ℕ) (ys : List Said) → has_name (map (λ a. a.mode) ys) name ≡ is_some_item (map (text.filling_of w ds) (filter (λ a. bytes_eq a.mode name) ys))
some_named w ds name [] = refl
some_named w ds name (a ∷ ys) = step (bytes_eq a.mode name) w ds name a ys refl (some_named w ds name ys)

-- a name is a mode's, if the mode has alternatives
is_mode_by :
    (w : ℕ) (ds : List Declaration) (name : List ℕ) → has_name (mode_names ds) name ≡ is_some_item (map (text.filling_of w ds) (text.alternatives_of ds name))
is_mode_by w ds name = some_named w ds name (alternatives_in ds)

by_mode : (b : Bool) (fs gs : List text.Filling) → b ≡ is_some_item fs → cond b fs gs ≡ cond (is_some_item fs) fs gs
by_mode b fs gs e = rw e refl

pub fillings_named :
    (w : ℕ) (ds : List Declaration) (name : List ℕ)
    → text.fillings w ds (Named name) ≡ fillings_or (map (text.filling_of w ds) (text.alternatives_of ds name)) (text.itself (text.taken_by w ds (Named name)) ∷ [])
fillings_named w ds name =
    by_mode (has_name (mode_names ds) name) (map (text.filling_of w ds) (text.alternatives_of ds name)) (text.itself (text.taken_by w ds (Named name)) ∷ []) (is_mode_by w ds name)

offered_none :
    (w : ℕ) (ds : List Declaration) (name : List ℕ) → [] ≡ map (text.filling_of w ds) (text.alternatives_of ds name)
    → text.itself (text.taken_by w ds (Named name)) ∷ [] ≡ text.fillings w ds (Named name)
offered_none w ds name same = sym (fillings_named w ds name ∙ ap (λ fs. fillings_or fs (text.itself (text.taken_by w ds (Named name)) ∷ [])) (sym same))

offered_some :
    (w : ℕ) (ds : List Declaration) (name : List ℕ) (found : List Filling) → found ≢ []
    → all_seen w ds found ≡ map (text.filling_of w ds) (text.alternatives_of ds name) → all_seen w ds found ≡ text.fillings w ds (Named name)
offered_some w ds name [] some same = absurd (some refl)
offered_some w ds name (x ∷ xs) some same = sym (fillings_named w ds name ∙ ap (λ fs. fillings_or fs (text.itself (text.taken_by w ds (Named name)) ∷ [])) (sym same))

-- what may stand in place of a hole whose kind is a name, where the alternatives of this name are known
pub offered :
    (w : ℕ) (ds : List Declaration) (kind : Kind) (name : List ℕ) (found : Option (Bor (List Filling)))
    → kind ≡ Named name → IfSome found (λ f. f.now ≢ [])
    → all_seen w ds (option_map_or (λ f. f.now) found []) ≡ map (text.filling_of w ds) (text.alternatives_of ds name)
    → option_map_or (λ f. all_seen w ds f.now) found (text.itself (text.taken_by w ds kind) ∷ []) ≡ text.fillings w ds kind
offered w ds kind name found is some same =
    subst (λ (k : Kind). option_map_or (λ f. all_seen w ds f.now) found (text.itself (text.taken_by w ds k) ∷ []) ≡ text.fillings w ds k) (sym is) (by found some same)
  where
    by :
        (found : Option (Bor (List Filling))) → IfSome found (λ f. f.now ≢ [])
        → all_seen w ds (option_map_or (λ f. f.now) found []) ≡ map (text.filling_of w ds) (text.alternatives_of ds name)
        → option_map_or (λ f. all_seen w ds f.now) found (text.itself (text.taken_by w ds (Named name)) ∷ []) ≡ text.fillings w ds (Named name)
    by None some same = offered_none w ds name same
    by (Some f) some same = offered_some w ds name f.now some same

pub as_many_holes : (w : ℕ) (ds : List Declaration) (ps : List Piece) → length (slots ps) ≡ length (text.holes_in (map (text.shown w ds) ps))
as_many_holes w ds [] = refl
as_many_holes w ds (Literal t ∷ ps) = as_many_holes w ds ps
as_many_holes w ds (Hole h ∷ ps) = ap suc (as_many_holes w ds ps)

abbrev pub items_or_none : Option (Vec Filling) → List Filling
items_or_none o = option_map_or (λ v. v.items) o []

pub items_taken : (o : Option (Vec Filling)) (new : Vec Filling) → new.items ≡ [] → (unwrap_or o new).items ≡ items_or_none o
items_taken None new e = e
items_taken (Some v) new e = refl

-- what is listed, once what is listed under a name was taken out and put back with one filling more
pub listed_with :
    (before between after : List ℕ → Option (Vec Filling)) (name : List ℕ) (v : Vec Filling) (f : Filling)
    → ((other : List ℕ) → between other ≡ cond (bytes_eq name other) None (before other))
    → ((other : List ℕ) → after other ≡ cond (bytes_eq name other) (Some v) (between other)) → v.items ≡ items_or_none (before name) ++ f ∷ []
    → (other : List ℕ) → items_or_none (after other) ≡ items_or_none (before other) ++ cond (bytes_eq name other) (f ∷ []) []
listed_with before between after name v f taken put pushed other = by (bytes_eq name other) (bytes_eq-Decides name other) (taken other) (put other)
  where
    by :
        (b : Bool) → Decides b (name ≡ other) → between other ≡ cond b None (before other) → after other ≡ cond b (Some v) (between other)
        → items_or_none (after other) ≡ items_or_none (before other) ++ cond b (f ∷ []) []
    by true d t e = ap items_or_none e ∙ pushed ∙ ap (λ n. items_or_none (before n) ++ f ∷ []) (d.0 refl)
    by false d t e = ap items_or_none (e ∙ t) ∙ sym (append-nil (items_or_none (before other)))

-- what is seen of the fillings of a name, once the alternative of a form is listed under its mode's
pub with_one :
    (w : ℕ) (ds : List Declaration) (name mode held : List ℕ) (pieces : List ReadPiece) (tree : OpenTree) (form : Form) (before after : List Filling)
    (p : Bor (List ReadPiece)) (t : Bor OpenTree)
    → form ≡ ModeLine mode (pieces_of pieces) tree → held ≡ mode → p.now ≡ pieces → t.now ≡ tree
    → after ≡ before ++ cond (bytes_eq held name) (Alternative p t ∷ []) [] → all_seen w ds after ≡ all_seen w ds before ++ alternative_named w ds name form
with_one w ds name mode held pieces tree form before after p t is same_name same_pieces same_tree e =
    let a : Said = record { mode = mode; text = pieces_of pieces; tree = tree } in
    let means : filling_seen w ds (Alternative p t) ≡ text.filling_of w ds a =
    ap (λ ps. text.filling_of w ds (record { mode = []; text = pieces_of ps; tree = t.now })) same_pieces
    ∙ ap (λ t. text.filling_of w ds (record { mode = []; text = pieces_of pieces; tree = t })) same_tree in
    ap (all_seen w ds) e ∙ map-append (filling_seen w ds) before (cond (bytes_eq held name) (Alternative p t ∷ []) [])
    ∙ ap (λ fs. all_seen w ds before ++ fs)
    (seen (bytes_eq held name) a (Alternative p t) means ∙ ap (λ m. cond (bytes_eq m name) (text.filling_of w ds a ∷ []) []) same_name ∙ ap (alternative_named w ds name) (sym is))
  where
    seen :
        (b : Bool) (a : Said) (f : Filling) → filling_seen w ds f ≡ text.filling_of w ds a
        → all_seen w ds (cond b (f ∷ []) []) ≡ cond b (text.filling_of w ds a ∷ []) []
    seen true a f means = ap (λ x. x ∷ []) means
    seen false a f means = refl
