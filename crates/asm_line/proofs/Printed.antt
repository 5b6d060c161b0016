-- The line that is written: each piece has a token, and the line is no longer than the row's longest.
use Rattle.std.proofs.Common.{◌≡◌, ◌⊎◌, inl, inr, ℕ, zero, suc, ◌+◌, ◌-◌, ◌^◌, ◌<◌, ◌≤◌, max, ℤ, pos, negsuc, Bool, true, false, cond, ◌==◌, IsTrue, List, [], ◌∷◌, ◌++◌, length, map, drop, filter_map, Option, Some, None, option_map, is_some, slice_get, All, refl, sym, ap, subst, ◌∙◌, arith, append_assoc, length-append}
use Rattle.std.specs.Prelude.{nat_lt, decimal}
use Rattle.std.specs.Fmt.{signed_decimal}
use Rattle.std.specs.List.{cons_option}
use Rattle.std.proofs.lemmas.Bool.{and_parts, ltb-true, eqb-true}
use Rattle.std.proofs.lemmas.Fmt.{length-decimal-le}
use Rattle.std.proofs.lemmas.List.Elements.{All-head, All-tail, All-cons, All-nil}
use Rattle.rtl_word.specs.Words.{IsWordSize}
use Rattle.asm_token.specs.Tokens.{Token, Name as NameToken, Number as NumberToken, Mark as MarkToken, spelling}
use Rattle.asm_token.specs.Line.{is_word, space_between, after_token, line_of}
use Rattle.rtl_tree.specs.declared.cells.Cell.TheVariants.{Hard, Temp}
use Rattle.rtl_tree.specs.declared.cells.Lab.TheVariants.{Block as BlockLabel, Function as FunctionLabel}
use Rattle.rtl_tree.specs.declared.c_names.Names.{Names}
use Rattle.md_rows.specs.declared.description.Register.{Register}
use Rattle.md_rows.specs.declared.description.RawDescription.{RawDescription}
use Rattle.md_rows.specs.declared.row.Row.{Row}
use Rattle.md_rows.specs.declared.row.Hole.{Hole}
use Rattle.md_rows.specs.declared.row.Hole.TheVariants.{Reg as RegHole, Num as NumHole, Sym as SymHole, Label as LabelHole}
use Rattle.md_rows.specs.declared.row.Piece.{Piece}
use Rattle.md_rows.specs.declared.row.Piece.TheVariants.{Name, Num, Byte, Hole as HolePiece}
use Rattle.md_rows.specs.declared.instance.Bound.{Bound}
use Rattle.md_rows.specs.declared.instance.Instance.{Instance}
use Rattle.md_rows.specs.declared.instance.Bound.TheVariants.{Reg, Num as NumBound, Sym, Label}
use Rattle.md_rows.specs.Fits.{fits, is_in, printed, below_zero, turned, within}
use Rattle.md_rows.specs.Lines.{longest_name, piece_bytes, is_word as is_word_piece, space_bytes, bytes_after, longest_line}
use Rattle.md_rows.specs.Instances.{register_name, hole_token, piece_token, symbol_token, AllFit, general_set, HasTokens, IsInstance}
use Rattle.asm_line.specs.declared.writing.Before.{Before}
use Rattle.asm_line.specs.declared.writing.Before.TheVariants.{Start, FirstToken, Word, Mark}
use Rattle.asm_row.specs.Line.{naming_of, IsNamed, IsWritten}
use Rattle.asm_row.specs.Readable.{StandInOrder, HasNames, HaveNames, IsReadable}
use Rattle.asm_line.specs.Shown.{SomeFits, IsReady, IsRowWritten, token_in, tokens_in, gap_bytes, before_next, bytes_left}
use Rattle.asm_line.specs.Spacing.{separator, next_before, line_from}
use Rattle.asm_row.proofs.HoleValues.{no_item, same_item}
use Rattle.asm_row.proofs.Texts.{first_left, rest_left}

-- each piece has a token

some_map : {A B : Type 0} (f : A → B) (o : Option A) → IsTrue (is_some o) → IsTrue (is_some (option_map f o))
some_map f None h = h
some_map f (Some x) h = refl

pub some_at : {A : Type 0} (xs : List A) (i : ℕ) → i < length xs → IsTrue (is_some (slice_get xs i))
some_at [] i h = absurd (omega (arith, h))
some_at (x ∷ xs) zero h = refl
some_at (x ∷ xs) (suc i) h = some_at xs i (let k : suc i < suc (length xs) = h in omega arith)

false_true : {A : Type 0} → IsTrue false → A
false_true h = absurd (let q : false ≡ true = h in cc)

module _ (d : RawDescription) (n : Names) (g : ℕ) where
  hole_some : (h : Hole) (c : Bound) → IsTrue (fits d.word g h c) → HasNames d.registers h → IsNamed n c
      → IsTrue (is_some (hole_token d.word (naming_of d n) (Some h) (Some c)))
  hole_some (RegHole class) (Reg (Hard k)) f names k' =
      let both = and_parts (nat_lt k 64) (is_in class k) f in
      some_map NameToken (register_name d.registers k) (names k (ltb-true k 64 both.0) both.1)
  hole_some (RegHole class) (Reg (Temp t)) f names k' = absurd k'
  hole_some (NumHole low high inverted) (NumBound v) f names k' =
      some_map NumberToken (printed d.word low high inverted v) (and_parts (nat_lt v (2 ^ d.word)) (is_some (printed d.word low high inverted v)) f).1
  hole_some SymHole (Sym s) f names k' = some_map symbol_token (slice_get n.objects s) (some_at n.objects s k')
  hole_some LabelHole (Label (BlockLabel b)) f names k' = refl
  hole_some LabelHole (Label (FunctionLabel s)) f names k' = some_map symbol_token (slice_get n.functions s) (some_at n.functions s k')
  hole_some _ _ f names k' = false_true f

  module _ (all : List Hole) (b : List Bound) where
    abbrev HasToken : Piece → Type 0
    HasToken p = IsTrue (is_some (piece_token d.word (naming_of d n) all b p))

    piece_some : (j k : ℕ) (h : Hole) (hs : List Hole) (c : Bound) (bs : List Bound) → j ≡ k → drop k all ≡ h ∷ hs → drop k b ≡ c ∷ bs
        → IsTrue (is_some (hole_token d.word (naming_of d n) (Some h) (Some c))) → HasToken (HolePiece j)
    piece_some j k h hs c bs e dh db q =
        let first = ap (slice_get all) e ∙ first_left k all h hs dh in
        let second = ap (slice_get b) e ∙ first_left k b c bs db in
        subst (λ (o : Option Hole). IsTrue (is_some (hole_token d.word (naming_of d n) o (slice_get b j)))) (sym first)
        (subst (λ (o : Option Bound). IsTrue (is_some (hole_token d.word (naming_of d n) (Some h) o))) (sym second) q)

    text_some : (k : ℕ) (ps : List Piece) (hs : List Hole) (bs : List Bound) → StandInOrder k ps hs → drop k all ≡ hs → drop k b ≡ bs
        → AllFit d.word g hs bs → HaveNames d.registers hs → All (IsNamed n) bs → All HasToken ps
    text_some k [] hs bs s dh db f names a = All-nil HasToken
    text_some k (Name bytes ∷ ps) hs bs s dh db f names a = All-cons HasToken (Name bytes) ps refl (text_some k ps hs bs s dh db f names a)
    text_some k (Num z ∷ ps) hs bs s dh db f names a = All-cons HasToken (Num z) ps refl (text_some k ps hs bs s dh db f names a)
    text_some k (Byte c ∷ ps) hs bs s dh db f names a = All-cons HasToken (Byte c) ps refl (text_some k ps hs bs s dh db f names a)
    text_some k (HolePiece j ∷ ps) [] bs s dh db f names a = absurd s
    text_some k (HolePiece j ∷ ps) (h ∷ hs) [] s dh db f names a = absurd f
    text_some k (HolePiece j ∷ ps) (h ∷ hs) (c ∷ bs) s dh db f names a =
        All-cons HasToken (HolePiece j) ps
        (piece_some j k h hs c bs s.0 dh db (hole_some h c f.0 names.0 (All-head (IsNamed n) c bs a)))
        (text_some (suc k) ps hs bs s.1 (rest_left k all h hs dh) (rest_left k b c bs db) f.1 names.1 (All-tail (IsNamed n) c bs a))

pub each_has_token : (d : RawDescription) (n : Names) (row : Row) (b : List Bound) → StandInOrder 0 row.text row.holes → HaveNames d.registers row.holes
    → AllFit d.word (general_set d.registers) row.holes b → All (IsNamed n) b → All (λ p. IsTrue (is_some (token_in d n row b p))) row.text
each_has_token d n row b s names f a = text_some d n (general_set d.registers) row.holes b 0 row.text row.holes b s refl refl f names a

-- so the line has tokens

cons_some : {A : Type 0} (o : Option A) (xs : List A) → IsTrue (is_some o) → o ∷ map (λ x. Some x) xs ≡ map (λ x. Some x) (cons_option o xs)
cons_some None xs h = false_true h
cons_some (Some x) xs h = refl

all_tokens : {A B : Type 0} (f : A → Option B) (xs : List A) → All (λ x. IsTrue (is_some (f x))) xs → map f xs ≡ map (λ x. Some x) (filter_map f xs)
all_tokens f [] a = refl
all_tokens f (x ∷ xs) a =
    ap (λ ys. f x ∷ ys) (all_tokens f xs (All-tail (λ x. IsTrue (is_some (f x))) x xs a))
    ∙ cons_some (f x) (filter_map f xs) (All-head (λ x. IsTrue (is_some (f x))) x xs a)

pub has_tokens : (d : RawDescription) (n : Names) (row : Row) (b : List Bound) → All (λ p. IsTrue (is_some (token_in d n row b p))) row.text
    → HasTokens d.word (naming_of d n) row b (tokens_in d n row b row.text)
has_tokens d n row b a = all_tokens (token_in d n row b) row.text a

-- the line token by token is the line

kind_word : (t u : Token) (rest : List ℕ) → separator (cond (is_word t) Word Mark) u ++ rest ≡ space_between t u ++ rest
kind_word (NameToken bytes) u rest = refl
kind_word (NumberToken z) u rest = refl
kind_word (MarkToken c) u rest = refl

before_kind : (b : Bool) (u : Token) → next_before (cond b Word Mark) u ≡ cond (is_word u) Word Mark
before_kind true u = refl
before_kind false u = refl

from_after : (t : Token) (us : List Token) → line_from (cond (is_word t) Word Mark) us ≡ after_token t us
from_after t [] = refl
from_after t (u ∷ us) =
    kind_word t u (spelling u ++ line_from (next_before (cond (is_word t) Word Mark) u) us)
    ∙ ap (λ (b : Before). space_between t u ++ (spelling u ++ line_from b us)) (before_kind (is_word t) u)
    ∙ ap (λ (xs : List ℕ). space_between t u ++ (spelling u ++ xs)) (from_after u us)

append_nothing : (xs : List ℕ) → xs ++ [] ≡ xs
append_nothing [] = refl
append_nothing (x ∷ xs) = ap (λ (ys : List ℕ). x ∷ ys) (append_nothing xs)

pub line_from_start : (ts : List Token) → line_from Start ts ≡ line_of ts
line_from_start [] = refl
line_from_start (t ∷ []) = append_nothing (spelling t)
line_from_start (t ∷ u ∷ us) = ap (λ (xs : List ℕ). spelling t ++ (32 ∷ (spelling u ++ xs))) (from_after u us)

-- how long it is

module _ (rs : List Register) (holes : List Hole) where
  kind_left : (b : Bool) (ps : List Piece) → bytes_left rs holes (cond b Word Mark) ps ≡ bytes_after rs holes b ps
  kind_left b [] = refl
  kind_left true (p ∷ ps) = ap (λ (m : ℕ). space_bytes (is_word_piece p) + piece_bytes rs holes p + m) (kind_left (is_word_piece p) ps)
  kind_left false (p ∷ ps) = ap (λ (m : ℕ). 0 + piece_bytes rs holes p + m) (kind_left (is_word_piece p) ps)

  pub longest_left : (ps : List Piece) → 1 + bytes_left rs holes Start ps ≤ longest_line rs holes ps
  longest_left [] = omega arith
  longest_left (p ∷ []) = omega arith
  longest_left (p ∷ q ∷ qs) = omega (arith, kind_left (is_word_piece q) qs)

-- one token more

gap_is : (before : Before) (p : Piece) (t : Token) → is_word t ≡ is_word_piece p → length (separator before t) ≡ gap_bytes before p
gap_is Start p t e = refl
gap_is FirstToken p t e = refl
gap_is Word p t e = ap (λ (b : Bool). length {A = ℕ} (cond b (32 ∷ []) [])) e ∙ space_is (is_word_piece p) where
  space_is : (b : Bool) → length {A = ℕ} (cond b (32 ∷ []) []) ≡ space_bytes b
  space_is true = refl
  space_is false = refl
gap_is Mark p t e = refl

next_is : (before : Before) (p : Piece) (t : Token) → is_word t ≡ is_word_piece p → next_before before t ≡ before_next before p
next_is Start p t e = refl
next_is FirstToken p t e = ap (λ (b : Bool). cond b Word Mark) e
next_is Word p t e = ap (λ (b : Bool). cond b Word Mark) e
next_is Mark p t e = ap (λ (b : Bool). cond b Word Mark) e

pub room_before : (rs : List Register) (holes : List Hole) (out : List ℕ) (before : Before) (p : Piece) (ps : List Piece) (t : Token)
    → is_word t ≡ is_word_piece p → length (spelling t) ≤ piece_bytes rs holes p → length out + bytes_left rs holes before (p ∷ ps) ≤ 639
    → length out + length (separator before t) + length (spelling t) ≤ 640
room_before rs holes out before p ps t e short room = omega (arith, gap_is before p t e, short, room)

pub room_after : (rs : List Register) (holes : List Hole) (out : List ℕ) (before : Before) (p : Piece) (ps : List Piece) (t : Token)
    → is_word t ≡ is_word_piece p → length (spelling t) ≤ piece_bytes rs holes p → length out + bytes_left rs holes before (p ∷ ps) ≤ 639
    → length (out ++ (separator before t ++ spelling t)) + bytes_left rs holes (next_before before t) ps ≤ 639
room_after rs holes out before p ps t e short room =
    omega (arith, gap_is before p t e, ap (λ (b : Before). bytes_left rs holes b ps) (next_is before p t e), short, room, length-append out (separator before t ++ spelling t), length-append (separator before t) (spelling t))

pub line_after : {A : Type 0} (f : A → Option Token) (out : List ℕ) (before : Before) (p : A) (ps : List A) (t : Token) → f p ≡ Some t
    → (out ++ (separator before t ++ spelling t)) ++ line_from (next_before before t) (filter_map f ps) ≡ out ++ line_from before (filter_map f (p ∷ ps))
line_after f out before p ps t e =
    append_assoc out (separator before t ++ spelling t) (line_from (next_before before t) (filter_map f ps))
    ∙ ap (λ (xs : List ℕ). out ++ xs) (append_assoc (separator before t) (spelling t) (line_from (next_before before t) (filter_map f ps)))
    ∙ ap (λ (o : Option Token). out ++ line_from before (cons_option o (filter_map f ps))) (sym e)

-- the bytes of a token

max_left : (m n k : ℕ) → k ≤ m → k ≤ max m n
max_left m n k h = grind (arith, h)

max_right : (m n k : ℕ) → k ≤ n → k ≤ max m n
max_right m n k h = grind (arith, h)

longest_by : (b : Bool) (r : Register) (rs : List Register) (class k : ℕ) (name : List ℕ) → (b ≡ true → r.number ≡ k) → IsTrue (is_in class k)
    → (register_name rs k ≡ Some name → length name ≤ longest_name class rs) → cond b (Some r.name) (register_name rs k) ≡ Some name
    → length name ≤ longest_name class (r ∷ rs)
longest_by true r rs class k name p i rest e =
    max_left (cond (is_in class r.number) (length r.name) 0) (longest_name class rs) (length name)
    (subst (λ (b : Bool). length name ≤ cond b (length r.name) 0) (sym (subst (λ (m : ℕ). is_in class m ≡ true) (sym (p refl)) i))
    (let q = ap length (same_item r.name name e) in omega (arith, q)))
longest_by false r rs class k name p i rest e =
    max_right (cond (is_in class r.number) (length r.name) 0) (longest_name class rs) (length name) (rest e)

pub name_within : (rs : List Register) (class k : ℕ) (name : List ℕ) → IsTrue (is_in class k) → register_name rs k ≡ Some name → length name ≤ longest_name class rs
name_within [] class k name i e = absurd (no_item name e)
name_within (r ∷ rs) class k name i e = longest_by (r.number == k) r rs class k name (eqb-true r.number k) i (name_within rs class k name i) e

below_32 : (w : ℕ) → IsWordSize w → 2 ^ w ≤ 2 ^ 32
below_32 w (inl e) = subst (λ (x : ℕ). 2 ^ x ≤ 2 ^ 32) (sym e) (omega arith)
below_32 w (inr e) = subst (λ (x : ℕ). 2 ^ x ≤ 2 ^ 32) (sym e) (omega arith)

pos_short : (m : ℕ) → m < 2 ^ 32 → length (signed_decimal (pos m)) ≤ 11
pos_short m h = let k : length (decimal m) ≤ 10 = length-decimal-le 10 m (omega arith) (omega (arith, h)) (omega (arith, h)) in omega (arith, k)

neg_short : (m : ℕ) → m < 2 ^ 32 → length (signed_decimal (negsuc m)) ≤ 11
neg_short m h = let k : length (decimal (suc m)) ≤ 10 = length-decimal-le 10 (suc m) (omega arith) (omega (arith, h)) (omega (arith, h)) in omega (arith, k)

one_of_two : (b c : Bool) (x y p : ℤ) → cond b (Some x) (cond c (Some y) None) ≡ Some p → (x ≡ p) ⊎ (y ≡ p)
one_of_two true c x y p e = inl (same_item x p e)
one_of_two false true x y p e = inr (same_item y p e)
one_of_two false false x y p e = absurd (no_item p e)

turned_small : (w : ℕ) (inverted : Bool) (v : ℕ) → v < 2 ^ w → turned w inverted v < 2 ^ w
turned_small w true v h = omega arith
turned_small w false v h = h

pub number_short : (w : ℕ) (low high : ℤ) (inverted : Bool) (v : ℕ) (p : ℤ) → IsWordSize w → v < 2 ^ w → printed w low high inverted v ≡ Some p
    → length (signed_decimal p) ≤ 11
number_short w low high inverted v p size h e =
    let t = turned w inverted v in
    let most = below_32 w size in
    let small = turned_small w inverted v h in
    elim (one_of_two (within low high (pos t)) (within low high (below_zero w t)) (pos t) (below_zero w t) p e) [
      | inl q ↦ subst (λ (x : ℤ). length (signed_decimal x) ≤ 11) q (pos_short t (omega (arith, most, small)))
      | inr q ↦ subst (λ (x : ℤ). length (signed_decimal x) ≤ 11) q (neg_short (2 ^ w - suc t) (omega (arith, most, small)))
    ]

pub label_short : (m : ℕ) → m < 2 ^ 32 → length (76 ∷ decimal m) ≤ 64
label_short m h = let k : length (decimal m) ≤ 10 = length-decimal-le 10 m (omega arith) (omega (arith, h)) (omega (arith, h)) in omega (arith, k)

-- each value fits its hole

no_fit : (w g : ℕ) (o : Option Hole) → SomeFits w g o None
no_fit w g None = tt
no_fit w g (Some h) = tt

pub fits_at : (w g : ℕ) (hs : List Hole) (bs : List Bound) (k : ℕ) → AllFit w g hs bs → SomeFits w g (slice_get hs k) (slice_get bs k)
fits_at w g [] [] k f = tt
fits_at w g [] (b ∷ bs) k f = absurd f
fits_at w g (h ∷ hs) [] k f = absurd f
fits_at w g (h ∷ hs) (b ∷ bs) zero f = f.0
fits_at w g (h ∷ hs) (b ∷ bs) (suc k) f = fits_at w g hs bs k f.1

-- the whole line

pub at_start : (rs : List Register) (holes : List Hole) (out line : List ℕ) (ps : List Piece) → out ≡ [] → longest_line rs holes ps ≤ 640
    → (out ++ line ≡ line) × (length out + bytes_left rs holes Start ps ≤ 639)
at_start rs holes out line ps e short =
    (ap (λ (xs : List ℕ). xs ++ line) e, omega (arith, longest_left rs holes ps, short, ap length e))

pub row_written : (d : RawDescription) (n : Names) (row : Row) (b : List Bound) (out : List ℕ) → IsReady d n row b
    → out ≡ line_from Start (tokens_in d n row b row.text) → IsRowWritten d n row b out
row_written d n row b out r e = record {
  tokens = tokens_in d n row b row.text;
  has = has_tokens d n row b (each_has_token d n row b r.readable.in_order r.readable.named r.fit r.named);
  spelled = e ∙ line_from_start (tokens_in d n row b row.text);
}

pub ready : (d : RawDescription) (n : Names) (i : Instance) (r row : Row) → IsReadable d → IsInstance d i r → slice_get d.rows i.row ≡ Some row
    → All (IsNamed n) i.binding → IsReady d n row i.binding
ready d n i r row readable it e named =
    let same = same_item r row (sym it.has_row ∙ e) in
    record {
      size = readable.size;
      readable = readable.rows i.row row e;
      short = subst (λ (x : Row). longest_line d.registers x.holes x.text ≤ 640) same it.short;
      fit = subst (λ (x : Row). AllFit d.word (general_set d.registers) x.holes i.binding) same it.fit;
      named = named;
    }

pub written : (d : RawDescription) (n : Names) (i : Instance) (r row : Row) (out : List ℕ) → IsInstance d i r → slice_get d.rows i.row ≡ Some row
    → IsRowWritten d n row i.binding out → IsWritten d n i out
written d n i r row out it e w = record {
  tokens = w.tokens;
  line = record { row = row; is_instance = subst (IsInstance d i) (same_item r row (sym it.has_row ∙ e)) it; has = w.has };
  spelled = w.spelled;
}

pub some_row : (d e : RawDescription) (i : Instance) (r : Row) (place : ℕ) → e ≡ d → place ≡ i.row → IsInstance d i r → IsTrue (is_some (slice_get e.rows place))
some_row d e i r place p q it =
    subst (λ (o : Option Row). IsTrue (is_some o)) (sym (ap (λ (x : RawDescription). slice_get x.rows place) p ∙ ap (slice_get d.rows) q ∙ it.has_row)) refl

pub ready_at : (d e : RawDescription) (n : Names) (i : Instance) (r row : Row) (place : ℕ) (b : List Bound) → e ≡ d → place ≡ i.row → b ≡ i.binding → IsReadable e
    → IsInstance d i r → slice_get e.rows place ≡ Some row → All (IsNamed n) i.binding → IsReady e n row b
ready_at d e n i r row place b p q s readable it has named =
    subst (λ (xs : List Bound). IsReady e n row xs) (sym s)
    (ready e n i r row readable (subst (λ (x : RawDescription). IsInstance x i r) (sym p) it) (ap (slice_get e.rows) (sym q) ∙ has) named)

pub written_at : (d e : RawDescription) (n : Names) (i : Instance) (r row : Row) (place : ℕ) (b : List Bound) (out : List ℕ) → e ≡ d → place ≡ i.row → b ≡ i.binding
    → IsInstance d i r → slice_get e.rows place ≡ Some row → IsRowWritten e n row b out → IsWritten d n i out
written_at d e n i r row place b out p q s it has w =
    written d n i r row out it (ap (λ (x : RawDescription). slice_get x.rows i.row) (sym p) ∙ ap (slice_get e.rows) (sym q) ∙ has)
    (subst (λ (x : RawDescription). IsRowWritten x n row i.binding out) p (subst (λ (xs : List Bound). IsRowWritten e n row xs out) s w))
