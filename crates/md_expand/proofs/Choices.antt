-- The rows of a row line, choice by choice.
use Rattle.std.proofs.Common.{◌≡◌, ℕ, suc, ◌+◌, ◌<◌, ◌≤◌, List, [], ◌∷◌, ◌++◌, map, length, take, get_or, refl, sym, ap, ◌∙◌, subst, arith, append_assoc, append-nil, length-append}
use Rattle.std.specs.Prelude.{zero}
use Rattle.std.specs.Global.{Vec}
use Rattle.std.specs.List.{flat_map}
use Rattle.std.proofs.lemmas.List.{take_at, take_all, take_more, map-append, flat_map_more}
use Rattle.md_text.specs.Pieces.{Slot}
use Rattle.md_text.specs.Declarations.{Declaration}
use Rattle.md_text.specs.Expansion as text
use Rattle.md_forms.specs.Seen.{pieces_of, declaration_of, declarations_of}
use Rattle.md_forms.specs.declared.declarations.Declaration.{Declaration as Read}
use Rattle.md_expand.specs.declared.expanded.Expanded.{Expanded}
use Rattle.md_expand.specs.declared.modes.Filling.{Filling}
use Rattle.md_expand.specs.declared.product.Progress.{Progress}
use Rattle.md_expand.specs.declared.product.RowLine.{RowLine}
use Rattle.md_expand.specs.Expanded.{IsExpanded, AllExpanded}
use Rattle.md_expand.specs.Fillings.{filling_seen, all_seen}
use Rattle.md_expand.specs.Product.{rows_of, Writes}

pub same_length : (rows : List text.Expanded) (es : List Expanded) → AllExpanded rows es → length rows ≡ length es
same_length [] [] a = refl
same_length [] (e ∷ es) a = absurd a
same_length (r ∷ rows) [] a = absurd a
same_length (r ∷ rows) (e ∷ es) a = ap suc (same_length rows es a.1)

pub AllExpanded-push :
    (rows : List text.Expanded) (es : List Expanded) (r : text.Expanded) (e : Expanded) → AllExpanded rows es → IsExpanded r e
    → AllExpanded (rows ++ r ∷ []) (es ++ e ∷ [])
AllExpanded-push [] [] r e a i = (i, tt)
AllExpanded-push [] (f ∷ es) r e a i = absurd a
AllExpanded-push (s ∷ rows) [] r e a i = absurd a
AllExpanded-push (s ∷ rows) (f ∷ es) r e a i = (a.0, AllExpanded-push rows es r e a.1 i)

-- there is no room for more
pub full :
    (limit : ℕ) (done more : List text.Expanded) (es : List Expanded) → length es ≤ limit → limit ≤ length es → AllExpanded done es
    → AllExpanded (take limit (done ++ more)) es
full limit done more es most least a =
    let long : length done ≡ limit = omega (arith, same_length done es a) in
    subst (λ (rows : List text.Expanded). AllExpanded rows es) (sym (take_at done more limit long)) a

-- there is room for one more
pub one_row :
    (limit : ℕ) (done : List text.Expanded) (row : text.Expanded) (es more : List Expanded) (e : Expanded) → length es < limit → AllExpanded done es
    → IsExpanded row e → more ≡ es ++ e ∷ [] → AllExpanded (take limit (done ++ row ∷ [])) more
one_row limit done row es more e room a i same =
    let long : length (done ++ row ∷ []) ≤ limit = omega (arith, same_length done es a, length-append done (row ∷ [])) in
    subst (λ (rows : List text.Expanded). AllExpanded rows more) (sym (take_all limit (done ++ row ∷ []) long))
    (subst (AllExpanded (done ++ row ∷ [])) (sym same) (AllExpanded-push done es row e a i))

pub chosen_all :
    (w : ℕ) (ds : List Declaration) (row : RowLine) (chosen : List Filling)
    → rows_of w ds row chosen [] ≡ text.expanded row.line (pieces_of row.text.now) row.transfer.now (all_seen w ds chosen) ∷ []
chosen_all w ds row chosen =
    ap (λ fs. text.expanded row.line (pieces_of row.text.now) row.transfer.now fs ∷ []) (append-nil (all_seen w ds chosen))

take_again : {A : Type 0} (n : ℕ) (xs ys : List A) → take n (take n xs ++ ys) ≡ take n (xs ++ ys)
take_again zero xs ys = refl
take_again (suc n) [] ys = refl
take_again (suc n) (x ∷ xs) ys = ap (λ zs. x ∷ zs) (take_again n xs ys)

-- the rows of the first of the options
abbrev pub rows_by : ℕ → List Declaration → RowLine → List Filling → List Slot → List Filling → List text.Expanded
rows_by w ds row chosen others first = flat_map (λ f. rows_of w ds row (chosen ++ f ∷ []) others) first

pub one_option_more :
    (w : ℕ) (ds : List Declaration) (row : RowLine) (chosen : List Filling) (others : List Slot) (first : List Filling) (i : ℕ) (d : Filling)
    (limit : ℕ) (done : List text.Expanded) (es : List Expanded) → i < length first → d ≡ get_or first i d
    → AllExpanded (take limit (take limit (done ++ rows_by w ds row chosen others (take i first)) ++ rows_of w ds row (chosen ++ d ∷ []) others)) es
    → AllExpanded (take limit (done ++ rows_by w ds row chosen others (take (i + 1) first))) es
one_option_more w ds row chosen others first i d limit done es lt at a =
    let before = rows_by w ds row chosen others (take i first) in
    let here = rows_of w ds row (chosen ++ d ∷ []) others in
    let grown : rows_by w ds row chosen others (take (i + 1) first) ≡ before ++ here =
    ap (rows_by w ds row chosen others) (take_more first i d lt ∙ ap (λ x. take i first ++ x ∷ []) (sym at))
    ∙ sym (flat_map_more (λ f. rows_of w ds row (chosen ++ f ∷ []) others) [] (take i first) d) in
    let all : take limit (take limit (done ++ before) ++ here) ≡ take limit (done ++ rows_by w ds row chosen others (take (i + 1) first)) =
    take_again limit (done ++ before) here ∙ ap (take limit) (append_assoc done before here ∙ ap (λ xs. done ++ xs) (sym grown)) in
    subst (λ (rows : List text.Expanded). AllExpanded rows es) all a

map_map : {A B C : Type 0} (f : B → C) (g : A → B) (xs : List A) → map f (map g xs) ≡ map (λ x. f (g x)) xs
map_map f g [] = refl
map_map f g (x ∷ xs) = ap (λ ys. f (g x) ∷ ys) (map_map f g xs)

map_same : {A B : Type 0} (f g : A → B) (xs : List A) → ((x : A) → f x ≡ g x) → map f xs ≡ map g xs
map_same f g [] e = refl
map_same f g (x ∷ xs) e = ap (λ y. y ∷ map f xs) (e x) ∙ ap (λ ys. g x ∷ ys) (map_same f g xs e)

one_option :
    (w : ℕ) (ds : List Declaration) (row : RowLine) (chosen : List Filling) (others : List Slot) (f : Filling)
    → rows_of w ds row (chosen ++ f ∷ []) others
    ≡ map (λ fs. text.expanded row.line (pieces_of row.text.now) row.transfer.now (all_seen w ds chosen ++ fs)) (map (λ ys. filling_seen w ds f ∷ ys) (text.choices (map (λ h. text.fillings w ds h.kind) others)))
one_option w ds row chosen others f =
    let make = text.expanded row.line (pieces_of row.text.now) row.transfer.now in
    map_same (λ fs. make (all_seen w ds (chosen ++ f ∷ []) ++ fs)) (λ ys. make (all_seen w ds chosen ++ filling_seen w ds f ∷ ys)) (text.choices (map (λ h. text.fillings w ds h.kind) others))
    (λ ys. ap make (ap (λ xs. xs ++ ys) (map-append (filling_seen w ds) chosen (f ∷ [])) ∙ append_assoc (all_seen w ds chosen) (filling_seen w ds f ∷ []) ys))
    ∙ sym (map_map (λ fs. make (all_seen w ds chosen ++ fs)) (λ ys. filling_seen w ds f ∷ ys) (text.choices (map (λ h. text.fillings w ds h.kind) others)))

all_choices :
    (w : ℕ) (ds : List Declaration) (row : RowLine) (chosen : List Filling) (others : List Slot) (first : List Filling)
    → rows_by w ds row chosen others first
    ≡ map (λ fs. text.expanded row.line (pieces_of row.text.now) row.transfer.now (all_seen w ds chosen ++ fs))
    (flat_map (λ x. map (λ ys. x ∷ ys) (text.choices (map (λ h. text.fillings w ds h.kind) others))) (all_seen w ds first))
all_choices w ds row chosen others [] = refl
all_choices w ds row chosen others (f ∷ first) =
    let make = λ (fs : List text.Filling). text.expanded row.line (pieces_of row.text.now) row.transfer.now (all_seen w ds chosen ++ fs) in
    let cs = text.choices (map (λ h. text.fillings w ds h.kind) others) in
    ap (λ xs. xs ++ rows_by w ds row chosen others first) (one_option w ds row chosen others f)
    ∙ ap (λ xs. map make (map (λ ys. filling_seen w ds f ∷ ys) cs) ++ xs) (all_choices w ds row chosen others first)
    ∙ sym (map-append make (map (λ ys. filling_seen w ds f ∷ ys) cs) (flat_map (λ x. map (λ ys. x ∷ ys) cs) (all_seen w ds first)))

-- the rows with each of the fillings of a hole
pub all_fillings_taken :
    (w : ℕ) (ds : List Declaration) (row : RowLine) (chosen : List Filling) (h : Slot) (others : List Slot) (first : List Filling)
    → all_seen w ds first ≡ text.fillings w ds h.kind → rows_by w ds row chosen others first ≡ rows_of w ds row chosen (h ∷ others)
all_fillings_taken w ds row chosen h others first e =
    let make = λ (fs : List text.Filling). text.expanded row.line (pieces_of row.text.now) row.transfer.now (all_seen w ds chosen ++ fs) in
    all_choices w ds row chosen others first
    ∙ ap (λ (fs : List text.Filling). map make (flat_map (λ x. map (λ ys. x ∷ ys) (text.choices (map (λ h. text.fillings w ds h.kind) others))) fs)) e

pub none_yet : (limit : ℕ) (done : List text.Expanded) (es : List Expanded) → length es ≤ limit → AllExpanded done es → AllExpanded (take limit (done ++ [])) es
none_yet limit done es room a =
    let whole : take limit (done ++ []) ≡ done = ap (take limit) (append-nil done) ∙ take_all limit done (omega (arith, same_length done es a)) in
    subst (λ (rows : List text.Expanded). AllExpanded rows es) (sym whole) a

pub writes_no_more :
    (limit : ℕ) (rows : List text.Expanded) (p : Progress) → length p.rows.items ≤ limit → limit ≤ length p.rows.items → Writes limit rows p p
writes_no_more limit rows p room least = record {
  room = room;
  chosen = refl;
  adds = λ done a. full limit done rows p.rows.items room least a;
}

pub writes_none : (limit : ℕ) (p : Progress) → length p.rows.items ≤ limit → Writes limit [] p p
writes_none limit p room = record {
  room = room;
  chosen = refl;
  adds = λ done a. none_yet limit done p.rows.items room a;
}

pub writes_one_more :
    (w : ℕ) (ds : List Declaration) (row : RowLine) (others : List Slot) (first : List Filling) (i : ℕ) (d : Filling) (limit : ℕ) (p q r : Progress)
    → i < length first → d ≡ get_or first i d → Writes limit (rows_by w ds row p.chosen.items others (take i first)) p q
    → Writes limit (rows_of w ds row (q.chosen.items ++ d ∷ []) others) q r → Writes limit (rows_by w ds row p.chosen.items others (take (i + 1) first)) p r
writes_one_more w ds row others first i d limit p q r lt at before here = record {
  room = here.room;
  chosen = here.chosen ∙ before.chosen;
  adds = λ done a.
      let so_far = take limit (done ++ rows_by w ds row p.chosen.items others (take i first)) in
      one_option_more w ds row p.chosen.items others first i d limit done r.rows.items lt at
      (subst (λ (chosen : List Filling). AllExpanded (take limit (so_far ++ rows_of w ds row (chosen ++ d ∷ []) others)) r.rows.items) before.chosen
      (here.adds so_far (before.adds done a)));
}

pub writes_row :
    (w : ℕ) (ds : List Declaration) (row : RowLine) (others : List Slot) (chosen : List Filling) (limit : ℕ) (p : Progress) (more : Vec Expanded) (e : Expanded)
    → others ≡ [] → chosen ≡ p.chosen.items → length p.rows.items < limit
    → IsExpanded (text.expanded row.line (pieces_of row.text.now) row.transfer.now (all_seen w ds chosen)) e → more.items ≡ p.rows.items ++ e ∷ []
    → Writes limit (rows_of w ds row p.chosen.items others) p (record p { rows = more })
writes_row w ds row others chosen limit p more e last same room is grown = record {
  room = omega (arith, ap length grown, length-append p.rows.items (e ∷ []));
  chosen = refl;
  adds = λ done a.
      let whole = ap (rows_of w ds row p.chosen.items) last ∙ chosen_all w ds row p.chosen.items in
      subst (λ (rows : List text.Expanded). AllExpanded (take limit (done ++ rows)) more.items) (sym whole)
      (one_row limit done _ p.rows.items more.items e room a
      (subst (λ (fs : List Filling). IsExpanded (text.expanded row.line (pieces_of row.text.now) row.transfer.now (all_seen w ds fs)) e) same is) grown);
}

pub one_line_more :
    (f : Declaration → List text.Expanded) (all : List Read) (i : ℕ) (d : Read) (limit : ℕ) (es : List Expanded) → i < length all → d ≡ get_or all i d
    → AllExpanded (take limit (take limit (flat_map f (declarations_of (take i all))) ++ f (declaration_of d))) es
    → AllExpanded (take limit (flat_map f (declarations_of (take (i + 1) all)))) es
one_line_more f all i d limit es lt at a =
    let before = flat_map f (declarations_of (take i all)) in
    let grown : flat_map f (declarations_of (take (i + 1) all)) ≡ before ++ f (declaration_of d) =
    ap (λ xs. flat_map f (declarations_of xs)) (take_more all i d lt ∙ ap (λ x. take i all ++ x ∷ []) (sym at))
    ∙ ap (flat_map f) (map-append declaration_of (take i all) (d ∷ []))
    ∙ sym (flat_map_more f [] (declarations_of (take i all)) (declaration_of d)) in
    let whole : take limit (take limit before ++ f (declaration_of d)) ≡ take limit (flat_map f (declarations_of (take (i + 1) all))) =
    take_again limit before (f (declaration_of d)) ∙ ap (take limit) (sym grown) in
    subst (λ (rows : List text.Expanded). AllExpanded rows es) whole a

pub none_at_first : (limit : ℕ) (es : List Expanded) → es ≡ [] → AllExpanded (take limit []) es
none_at_first zero es e = subst (AllExpanded []) (sym e) tt
none_at_first (suc limit) es e = subst (AllExpanded []) (sym e) tt
