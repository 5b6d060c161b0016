-- A line has at most one form.
use Rattle.std.proofs.Common.{◌≡◌, ℕ, ◌+◌, ◌*◌, ◌≤◌, zero, suc, ℤ, true, false, Ok, Err, cond, eqb, get_or, List, [], ◌∷◌, ◌++◌, length, refl, sym, ap, subst, ◌∙◌, arith, codes, eq-eqb}
use Rattle.std.proofs.lemmas.Bool.{le-leb}
use Rattle.std.proofs.lemmas.List.{append_assoc, append-nil, append_cancel_left, append_cancel_right, length-append}
use Rattle.std.proofs.lemmas.List.Elements.{All-nil, All-head, All-tail}
use Rattle.std.specs.Fmt.{signed_decimal}
use Rattle.std.specs.List.{flat_map}
use Rattle.std.specs.Str.{bytes_eq}
use Rattle.rtl_word.specs.Words.{IsWordSize}
use Rattle.rtl_tree.specs.Names.{AreNames}
use Rattle.rtl_tree.specs.Trees.{Tree}
use Rattle.rtl_spelling.specs.declared.signs.Sign.TheVariants as sign
use Rattle.rtl_spelling.specs.Tokens.{Token, Mark}
use Rattle.rtl_spelling.specs.Spelling.{IsContext, Placed, Said, IsSpelled, AreWithin, tokens_in}
use Rattle.rtl_spelling.specs.Reading.{Read, gives, tree, moves}
use Rattle.rtl_spelling.proofs.Automaton.{stands}
use Rattle.rtl_spelling.proofs.Traces.{Within}
use Rattle.rtl_spelling.proofs.Lexed.{at_most_one_lexed}
use Rattle.rtl_spelling.proofs.Complete.{reads_back, transfer_reads}
use Rattle.md_rows.specs.declared.description.Role.{Role}
use Rattle.md_rows.specs.declared.description.Role.TheVariants.{General, Result, Stack, Link, Other}
use Rattle.md_text.specs.Lines.{lacks}
use Rattle.md_text.specs.Pieces.{Piece, SpellsText}
use Rattle.md_text.specs.Forms.{OpenTree, OpenTransfer, SpellsTree, SpellsMoves, context, hole_names, Form, Version, MachineName, WordBits, MemorySize, DataBegin, StackSize, RegisterLine, FlagLine, ClassLine, ModeLine, RowLine, IsNameLine, IsNumberLine, IsRegisterLine, IsFlagLine, IsClassLine, IsModeLine, IsRowLine, EachName, role_word, HasForm}
use Rattle.md_text.proofs.Bytes.{lacks_both, number_lacks, name_lacks}
use Rattle.md_text.proofs.Splits.{same_front}
use Rattle.md_text.proofs.SlotTexts.{same_number}
use Rattle.md_text.proofs.TextPieces.{tail_of, pieces_once, pieces_lack_bar}

-- trees and transfers

no_names : AreNames []
no_names = record { names = All-nil _; different = λ i j d e l k. absurd (omega (arith, k)); many = omega arith }

is_context : (w : ℕ) (names : List (List ℕ)) → IsWordSize w → IsContext (context w names)
is_context w names h = record { size = h; objects = no_names; functions = no_names; apart = λ name c d. absurd (omega (arith, c.1)) }

depth_stands : (d : ℕ) → d ≤ 32 → stands 32 d ≡ true
depth_stands zero l = refl
depth_stands (suc d) l = le-leb (suc d) 32 l

within_32 : (ps : List Placed) → AreWithin 32 ps → Within 32 ps
within_32 [] h = tt
within_32 (p ∷ ps) h = (depth_stands p.depth (All-head (λ q. q.depth ≤ 32) p ps h), within_32 ps (All-tail (λ q. q.depth ≤ 32) p ps h))

-- what a reading gives
abbrev read_of : {A : Type 0} → A → Read A → A
read_of other (Ok x) = x.0
read_of other (Err e) = other

same_read : (t u : Tree) (us : List Token) → gives t us ≡ gives u us → t ≡ u
same_read t u us e = ap (read_of t) e

same_moves : (t u : List Said) (us : List Token) → gives t us ≡ gives u us → t ≡ u
same_moves t u us e = ap (read_of t) e

tree_reads : (w : ℕ) (bytes : List ℕ) (t : OpenTree) → IsWordSize w → (p : SpellsTree w bytes t) → tree (context w (hole_names p.tokens)) 32 p.tokens ≡ gives t.tree (Mark sign.End ∷ [])
tree_reads w bytes t h p =
    let read = reads_back (context w t.names) (is_context w t.names h) 32 1 t.tree p.placed p.spells 32 refl (within_32 p.placed p.within) (Mark sign.End ∷ []) in
    ap (λ names. tree (context w names) 32 p.tokens) (sym p.names) ∙ ap (tree (context w t.names) 32) p.split ∙ read

trees_once : (w : ℕ) (bytes : List ℕ) (t u : OpenTree) → IsWordSize w → SpellsTree w bytes t → SpellsTree w bytes u → t ≡ u
trees_once w bytes t u h p q =
    let same : p.tokens ≡ q.tokens = at_most_one_lexed bytes p.tokens q.tokens p.lexes q.lexes in
    let read = sym (tree_reads w bytes t h p) ∙ ap (λ ts. tree (context w (hole_names ts)) 32 ts) same ∙ tree_reads w bytes u h q in
    both t u (p.names ∙ ap hole_names same ∙ sym q.names) (same_read t.tree u.tree (Mark sign.End ∷ []) read)
  where
    both : (t u : OpenTree) → t.names ≡ u.names → t.tree ≡ u.tree → t ≡ u
    both t u a b = λ i. record { names = a i; tree = b i }

moves_read : (w : ℕ) (names : List (List ℕ)) (ts : List Token) (ms : List Said) (n : ℕ) → IsWordSize w → (p : IsSpelled (context w names) ms ts) → length p.placed ≤ n → moves (context w names) 31 n ts ≡ gives ms []
moves_read w names ts ms n h p l =
    ap (moves (context w names) 31 n) (sym (append-nil (tokens_in p.placed) ∙ p.tokens))
    ∙ transfer_reads (context w names) (is_context w names h) 31 ms p.placed p.spells (within_32 p.placed p.within) n l []

pub spelled_once : (w : ℕ) (names : List (List ℕ)) (ts : List Token) (ms ns : List Said) → IsWordSize w → IsSpelled (context w names) ms ts → IsSpelled (context w names) ns ts → ms ≡ ns
spelled_once w names ts ms ns h p q =
    let n : ℕ = length p.placed + length q.placed in
    same_moves ms ns [] (sym (moves_read w names ts ms n h p (omega arith)) ∙ moves_read w names ts ns n h q (omega arith))

transfers_once : (w : ℕ) (bytes : List ℕ) (t u : OpenTransfer) → IsWordSize w → SpellsMoves w bytes t → SpellsMoves w bytes u → t ≡ u
transfers_once w bytes t u h p q =
    let tokens : p.tokens ≡ q.tokens = at_most_one_lexed bytes p.tokens q.tokens p.lexes q.lexes in
    let names : t.names ≡ u.names = p.names ∙ ap hole_names tokens ∙ sym q.names in
    let P : List Token → Type 0 = λ ts. IsSpelled (context w t.names) t.moves ts in
    let Q : List (List ℕ) → Type 0 = λ ns. IsSpelled (context w ns) t.moves q.tokens in
    both t u names (spelled_once w u.names q.tokens t.moves u.moves h (subst Q names (subst P tokens p.spelled)) q.spelled)
  where
    both : (t u : OpenTransfer) → t.names ≡ u.names → t.moves ≡ u.moves → t ≡ u
    both t u a b = λ i. record { names = a i; moves = b i }

-- lines of one kind

names_once : (word line m n : List ℕ) → IsNameLine word line m → IsNameLine word line n → m ≡ n
names_once word line m n p q = append_cancel_left word m n (sym p.text ∙ q.text)

numbers_once : (word line : List ℕ) (y z : ℤ) → IsNumberLine word line y → IsNumberLine word line z → y ≡ z
numbers_once word line y z p q = same_number y z p.number q.number (append_cancel_left word (signed_decimal y) (signed_decimal z) (sym p.text ∙ q.text))

role_of : List ℕ → Role
role_of bytes =
    cond (bytes_eq bytes (codes "general")) General
    (cond (bytes_eq bytes (codes "result")) Result
    (cond (bytes_eq bytes (codes "stack")) Stack (cond (bytes_eq bytes (codes "link")) Link Other)))

role_back : (r : Role) → role_of (role_word r) ≡ r
unfolding role_of
role_back General = refl
role_back Result = refl
role_back Stack = refl
role_back Link = refl
role_back Other = refl

roles_once : (r s : Role) → role_word r ≡ role_word s → r ≡ s
roles_once r s e = sym (role_back r) ∙ ap role_of e ∙ role_back s

registers_once : (line : List ℕ) (j k : ℤ) (m n : List ℕ) (r s : Role) → IsRegisterLine line j m r → IsRegisterLine line k n s → RegisterLine j m r ≡ RegisterLine k n s
registers_once line j k m n r s p q =
    let a = append_cancel_left (codes "reg ") (signed_decimal j ++ 32 ∷ (m ++ 32 ∷ role_word r)) (signed_decimal k ++ 32 ∷ (n ++ 32 ∷ role_word s)) (sym p.text ∙ q.text) in
    let b = same_front 32 (signed_decimal j) (signed_decimal k) (m ++ 32 ∷ role_word r) (n ++ 32 ∷ role_word s) (number_lacks 32 j refl p.number) (number_lacks 32 k refl q.number) a in
    let c = same_front 32 m n (role_word r) (role_word s) (name_lacks 32 m refl p.named) (name_lacks 32 n refl q.named) b.1 in
    let number : j ≡ k = same_number j k p.number q.number b.0 in
    let name : m ≡ n = c.0 in
    let role : r ≡ s = roles_once r s c.1 in
    λ i. RegisterLine (number i) (name i) (role i)

flags_once : (line : List ℕ) (j k : ℤ) (m n : List ℕ) → IsFlagLine line j m → IsFlagLine line k n → FlagLine j m ≡ FlagLine k n
flags_once line j k m n p q =
    let a = append_cancel_left (codes "flag ") (signed_decimal j ++ 32 ∷ m) (signed_decimal k ++ 32 ∷ n) (sym p.text ∙ q.text) in
    let b = same_front 32 (signed_decimal j) (signed_decimal k) m n (number_lacks 32 j refl p.number) (number_lacks 32 k refl q.number) a in
    let number : j ≡ k = same_number j k p.number q.number b.0 in
    let name : m ≡ n = b.1 in
    λ i. FlagLine (number i) (name i)

-- names with a space behind each
abbrev pub ended : List (List ℕ) → List ℕ
ended [] = []
ended (name ∷ names) = name ++ 32 ∷ ended names

pub spaced_ended : (names : List (List ℕ)) → flat_map (λ name. 32 ∷ name) names ++ 32 ∷ [] ≡ 32 ∷ ended names
spaced_ended [] = refl
spaced_ended (name ∷ names) =
    ap (λ r. 32 ∷ r) (append_assoc name (flat_map (λ n. 32 ∷ n) names) (32 ∷ []) ∙ ap (λ r. name ++ r) (spaced_ended names))

pub ended_once : (ms ns : List (List ℕ)) → EachName ms → EachName ns → ended ms ≡ ended ns → ms ≡ ns
ended_once [] [] h k e = refl
ended_once [] (n ∷ ns) h k e = absurd (omega (arith, ap length e, length-append n (32 ∷ ended ns)))
ended_once (m ∷ ms) [] h k e = absurd (omega (arith, ap length e, length-append m (32 ∷ ended ms)))
ended_once (m ∷ ms) (n ∷ ns) h k e =
    let f = same_front 32 m n (ended ms) (ended ns) (name_lacks 32 m refl h.0) (name_lacks 32 n refl k.0) e in
    both m n ms ns f.0 (ended_once ms ns h.1 k.1 f.1)
  where
    both : (m n : List ℕ) (ms ns : List (List ℕ)) → m ≡ n → ms ≡ ns → m ∷ ms ≡ n ∷ ns
    both m n ms ns e f = cc

abbrev class_text : List ℕ → List (List ℕ) → List ℕ
class_text name registers = name ++ flat_map (λ register. 32 ∷ register) registers

class_ended : (name : List ℕ) (registers : List (List ℕ)) → class_text name registers ++ 32 ∷ [] ≡ ended (name ∷ registers)
class_ended name registers = append_assoc name (flat_map (λ register. 32 ∷ register) registers) (32 ∷ []) ∙ ap (λ r. name ++ r) (spaced_ended registers)

classes_once : (line m n : List ℕ) (rs ss : List (List ℕ)) → IsClassLine line m rs → IsClassLine line n ss → ClassLine m rs ≡ ClassLine n ss
classes_once line m n rs ss p q =
    let a = append_cancel_left (codes "class ") (class_text m rs) (class_text n ss) (sym p.text ∙ q.text) in
    let b = ended_once (m ∷ rs) (n ∷ ss) (p.named, p.each) (q.named, q.each) (sym (class_ended m rs) ∙ ap (λ r. r ++ 32 ∷ []) a ∙ class_ended n ss) in
    parts m n rs ss b
  where
    parts : (m n : List ℕ) (rs ss : List (List ℕ)) → m ∷ rs ≡ n ∷ ss → ClassLine m rs ≡ ClassLine n ss
    parts m n rs ss e = cc

-- the texts before the first ` | ` are the same, and what stands behind it
pub bars_once : (a b x y : List ℕ) → lacks 124 a ≡ true → lacks 124 b ≡ true → a ++ (codes " | " ++ x) ≡ b ++ (codes " | " ++ y) → (a ≡ b) × (x ≡ y)
bars_once a b x y h k e =
    let f = same_front 124 (a ++ 32 ∷ []) (b ++ 32 ∷ []) (32 ∷ x) (32 ∷ y) (lacks_both 124 a (32 ∷ []) h refl) (lacks_both 124 b (32 ∷ []) k refl)
    (append_assoc a (32 ∷ []) (124 ∷ (32 ∷ x)) ∙ e ∙ sym (append_assoc b (32 ∷ []) (124 ∷ (32 ∷ y)))) in
    (append_cancel_right a b (32 ∷ []) f.0, tail_of 32 32 x y f.1)

pub texts_once : (a b : List ℕ) (ps qs : List Piece) → SpellsText a ps → SpellsText b qs → a ≡ b → ps ≡ qs
texts_once a b ps qs p q e =
    let P : List ℕ → Type 0 = λ bs. SpellsText bs ps in
    pieces_once b ps qs (subst P e p).spells q.spells

rows_once : (w : ℕ) (line : List ℕ) (ps qs : List Piece) (t u : OpenTransfer) → IsWordSize w → IsRowLine w line ps t → IsRowLine w line qs u → RowLine ps t ≡ RowLine qs u
rows_once w line ps qs t u h p q =
    let a = append_cancel_left (codes "row ") (p.shown ++ (codes " | " ++ p.meant)) (q.shown ++ (codes " | " ++ q.meant)) (sym p.text ∙ q.text) in
    let b = bars_once p.shown q.shown p.meant q.meant (pieces_lack_bar p.shown ps p.pieces_are.spells) (pieces_lack_bar q.shown qs q.pieces_are.spells) a in
    let P : List ℕ → Type 0 = λ bs. SpellsMoves w bs t in
    let texts : ps ≡ qs = texts_once p.shown q.shown ps qs p.pieces_are q.pieces_are b.0 in
    let transfers : t ≡ u = transfers_once w q.meant t u h (subst P b.1 p.transfer_is) q.transfer_is in
    λ i. RowLine (texts i) (transfers i)

modes_once : (w : ℕ) (line m n : List ℕ) (ps qs : List Piece) (t u : OpenTree) → IsWordSize w → IsModeLine w line m ps t → IsModeLine w line n qs u → ModeLine m ps t ≡ ModeLine n qs u
modes_once w line m n ps qs t u h p q =
    let a = append_cancel_left (codes "mode ") (m ++ (codes " | " ++ (p.shown ++ (codes " | " ++ p.meant)))) (n ++ (codes " | " ++ (q.shown ++ (codes " | " ++ q.meant)))) (sym p.text ∙ q.text) in
    let b = bars_once m n (p.shown ++ (codes " | " ++ p.meant)) (q.shown ++ (codes " | " ++ q.meant)) (name_lacks 124 m refl p.named) (name_lacks 124 n refl q.named) a in
    let c = bars_once p.shown q.shown p.meant q.meant (pieces_lack_bar p.shown ps p.pieces_are.spells) (pieces_lack_bar q.shown qs q.pieces_are.spells) b.1 in
    let P : List ℕ → Type 0 = λ bs. SpellsTree w bs t in
    let name : m ≡ n = b.0 in
    let texts : ps ≡ qs = texts_once p.shown q.shown ps qs p.pieces_are q.pieces_are c.0 in
    let trees : t ≡ u = trees_once w q.meant t u h (subst P c.1 p.tree_is) q.tree_is in
    λ i. ModeLine (name i) (texts i) (trees i)

-- lines of different kinds

abbrev tag : List ℕ → ℕ
tag line = get_or line 0 0 + 256 * get_or line 1 0

abbrev tag_of : Form → ℕ
tag_of Version = tag (codes "vpo 1")
tag_of (MachineName name) = tag (codes "name ")
tag_of (WordBits z) = tag (codes "word ")
tag_of (MemorySize z) = tag (codes "memory ")
tag_of (DataBegin z) = tag (codes "data ")
tag_of (StackSize z) = tag (codes "stack ")
tag_of (RegisterLine k name role) = tag (codes "reg ")
tag_of (FlagLine k name) = tag (codes "flag ")
tag_of (ClassLine name registers) = tag (codes "class ")
tag_of (ModeLine name text tree) = tag (codes "mode ")
tag_of (RowLine text transfer) = tag (codes "row ")

tagged : (w : ℕ) (line : List ℕ) (f : Form) → HasForm w line f → tag line ≡ tag_of f
tagged w line Version h = ap tag h
tagged w line (MachineName name) h = ap tag h.text
tagged w line (WordBits z) h = ap tag h.text
tagged w line (MemorySize z) h = ap tag h.text
tagged w line (DataBegin z) h = ap tag h.text
tagged w line (StackSize z) h = ap tag h.text
tagged w line (RegisterLine k name role) h = ap tag h.text
tagged w line (FlagLine k name) h = ap tag h.text
tagged w line (ClassLine name registers) h = ap tag h.text
tagged w line (ModeLine name text tree) h = ap tag h.text
tagged w line (RowLine text transfer) h = ap tag h.text

apart : (m n : ℕ) → m ≡ n → eqb m n ≡ false → ⊥
apart m n e f = let g : eqb m n ≡ true = eq-eqb m n e in let no : true ≡ false → ⊥ = λ q. cc in no (sym g ∙ f)

-- forms with one tag are the same, where a line has both
of_kind : (w : ℕ) (line : List ℕ) (f g : Form) → IsWordSize w → HasForm w line f → HasForm w line g → tag_of f ≡ tag_of g → f ≡ g
of_kind w line Version Version h p q e = refl
of_kind w line Version g h p q e = absurd (apart (tag_of Version) (tag_of g) e refl)
of_kind w line (MachineName m) (MachineName n) h p q e = ap MachineName (names_once (codes "name ") line m n p q)
of_kind w line (MachineName m) g h p q e = absurd (apart (tag_of (MachineName m)) (tag_of g) e refl)
of_kind w line (WordBits y) (WordBits z) h p q e = ap WordBits (numbers_once (codes "word ") line y z p q)
of_kind w line (WordBits y) g h p q e = absurd (apart (tag_of (WordBits y)) (tag_of g) e refl)
of_kind w line (MemorySize y) (MemorySize z) h p q e = ap MemorySize (numbers_once (codes "memory ") line y z p q)
of_kind w line (MemorySize y) g h p q e = absurd (apart (tag_of (MemorySize y)) (tag_of g) e refl)
of_kind w line (DataBegin y) (DataBegin z) h p q e = ap DataBegin (numbers_once (codes "data ") line y z p q)
of_kind w line (DataBegin y) g h p q e = absurd (apart (tag_of (DataBegin y)) (tag_of g) e refl)
of_kind w line (StackSize y) (StackSize z) h p q e = ap StackSize (numbers_once (codes "stack ") line y z p q)
of_kind w line (StackSize y) g h p q e = absurd (apart (tag_of (StackSize y)) (tag_of g) e refl)
of_kind w line (RegisterLine j m r) (RegisterLine k n s) h p q e = registers_once line j k m n r s p q
of_kind w line (RegisterLine j m r) g h p q e = absurd (apart (tag_of (RegisterLine j m r)) (tag_of g) e refl)
of_kind w line (FlagLine j m) (FlagLine k n) h p q e = flags_once line j k m n p q
of_kind w line (FlagLine j m) g h p q e = absurd (apart (tag_of (FlagLine j m)) (tag_of g) e refl)
of_kind w line (ClassLine m rs) (ClassLine n ss) h p q e = classes_once line m n rs ss p q
of_kind w line (ClassLine m rs) g h p q e = absurd (apart (tag_of (ClassLine m rs)) (tag_of g) e refl)
of_kind w line (ModeLine m ps t) (ModeLine n qs u) h p q e = modes_once w line m n ps qs t u h p q
of_kind w line (ModeLine m ps t) g h p q e = absurd (apart (tag_of (ModeLine m ps t)) (tag_of g) e refl)
of_kind w line (RowLine ps t) (RowLine qs u) h p q e = rows_once w line ps qs t u h p q
of_kind w line (RowLine ps t) g h p q e = absurd (apart (tag_of (RowLine ps t)) (tag_of g) e refl)

pub forms_once : (w : ℕ) (line : List ℕ) (f g : Form) → IsWordSize w → HasForm w line f → HasForm w line g → f ≡ g
forms_once w line f g h p q = of_kind w line f g h p q (sym (tagged w line f p) ∙ tagged w line g q)
