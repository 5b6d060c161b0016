-- Labels and objects in the order of their places, and the text that is laid out by them.
use Rattle.std.proofs.Common.{◌≡◌, ℕ, suc, ◌+◌, ◌<◌, ◌≤◌, List, [], ◌∷◌, ◌++◌, length, map, All, Result, Ok, Err, refl, sym, ap, subst, ◌∙◌, arith, append_assoc}
use Rattle.std.specs.Prelude.{codes, IfOk}
use Rattle.std.specs.List.Sorted.{IsPermutation, IsNonDecreasingBy}
use Rattle.std.proofs.lemmas.List.Elements.{All-cons, All-nil}
use Rattle.std.proofs.lemmas.List.Sorted.{All-permutation}
use Rattle.rtl_tree.specs.declared.c_names.Names.{Names}
use Rattle.rtl_value.specs.declared.state.LabelAt.{LabelAt}
use Rattle.md_rows.specs.declared.description.RawDescription.{RawDescription}
use Rattle.md_rows.specs.declared.instance.Instance.{Instance}
use Rattle.asm_program.specs.TextLines.{Said, DataBegins}
use Rattle.asm_program.specs.Programs.{Assembled}
use Rattle.asm_print.specs.declared.stops.ObjectAt.{ObjectAt}
use Rattle.asm_print.specs.Written.{text_of}
use Rattle.asm_print.specs.Layout.{AreBetween, byte_lines, instruction_lines, label_stop, lines_for, numbered, object_stop, woven}
use Rattle.asm_print.specs.Law.{IsLaidOut}
use Rattle.asm_print.specs.Printable.{IsAddress}
use Rattle.asm_print.proofs.Appending.{between, text_append}

-- what a call answers, told otherwise
pub handed : {V E : Type 0} (P Q : V → Type 0) → ((x : V) → P x → Q x) → (r : Result V E) → IfOk r P → IfOk r Q
handed P Q f (Ok x) h = f x h
handed P Q f (Err e) h = tt

pub few_objects : (n : Names) (m : ℕ) (addresses : List ℕ) → m + length addresses ≤ length n.objects → All (λ o. o.object < length n.objects) (numbered m addresses)
few_objects n m [] h = All-nil (λ (o : ObjectAt). o.object < length n.objects)
few_objects n m (a ∷ addresses) h =
    All-cons (λ (o : ObjectAt). o.object < length n.objects) (record { object = m; at = a }) (numbered (m + 1) addresses) (omega (arith, h)) (few_objects n (m + 1) addresses (omega (arith, h)))

pub address_at : (P : ℕ → Type 0) (m : ℕ) (addresses : List ℕ) → All P addresses → All (λ o. P o.at) (numbered m addresses)
address_at P m [] h = All-nil (λ (o : ObjectAt). P o.at)
address_at P m (a ∷ addresses) h =
    All-cons (λ (o : ObjectAt). P o.at) (record { object = m; at = a }) (numbered (m + 1) addresses) (h 0 a (omega arith))
    (address_at P (m + 1) addresses (λ k d within. h (suc k) d (omega (arith, within))))

-- what a sort leaves

pub sorted_all : {A : Type 0} (P : A → Type 0) (xs seen sorted used : List A) → All P xs → seen ≡ xs → IsPermutation seen sorted → used ≡ sorted → All P used
sorted_all P xs seen sorted used h e s f = subst (All P) (sym f) (All-permutation P seen sorted s (subst (All P) (sym e) h))

pub labels_between : (n : Names) (count : ℕ) (ls seen sorted used : List LabelAt) → All (λ l. l.at ≤ count) ls → seen ≡ ls → IsPermutation seen sorted
    → IsNonDecreasingBy (λ (l : LabelAt). l.at) sorted → used ≡ sorted → (lines : ℕ) → lines ≡ count → AreBetween 0 lines (map (label_stop n) used)
labels_between n count ls seen sorted used h e s order f lines same =
    let most = sorted_all (λ (l : LabelAt). l.at ≤ count) ls seen sorted sorted h e s refl in
    subst (λ (m : ℕ). AreBetween 0 m (map (label_stop n) used)) (sym same)
    (subst (λ (xs : List LabelAt). AreBetween 0 count (map (label_stop n) xs)) (sym f)
    (between (label_stop n) 0 count sorted (omega arith) order (λ k d within. omega arith) most))

pub objects_between : (n : Names) (low high : ℕ) (symbols seen : List ℕ) (sorted used : List ObjectAt) → low ≤ high → All (λ a. low ≤ a) symbols → All (λ a. a ≤ high) symbols → seen ≡ symbols
    → IsPermutation (numbered 0 seen) sorted → IsNonDecreasingBy (λ (o : ObjectAt). o.at) sorted → used ≡ sorted → AreBetween low high (map (object_stop n) used)
objects_between n low high symbols seen sorted used h least most e s order f =
    let lows = sorted_all (λ (o : ObjectAt). low ≤ o.at) (numbered 0 seen) (numbered 0 seen) sorted sorted (address_at (λ a. low ≤ a) 0 seen (subst (All (λ a. low ≤ a)) (sym e) least)) refl s refl in
    let highs = sorted_all (λ (o : ObjectAt). o.at ≤ high) (numbered 0 seen) (numbered 0 seen) sorted sorted (address_at (λ a. a ≤ high) 0 seen (subst (All (λ a. a ≤ high)) (sym e) most)) refl s refl in
    subst (λ (xs : List ObjectAt). AreBetween low high (map (object_stop n) xs)) (sym f) (between (object_stop n) low high sorted h order lows highs)

pub data_between : (d e : RawDescription) (p : Assembled) (seen : List ℕ) (sorted used : List ObjectAt) (bytes : List ℕ) → All (IsAddress d p) p.symbols → e ≡ d → bytes ≡ p.bytes → seen ≡ p.symbols
    → IsPermutation (numbered 0 seen) sorted → IsNonDecreasingBy (λ (o : ObjectAt). o.at) sorted → used ≡ sorted → AreBetween e.base (e.base + length bytes) (map (object_stop p.names) used)
data_between d e p seen sorted used bytes a same b c s order f =
    subst (λ (x : RawDescription). AreBetween x.base (x.base + length bytes) (map (object_stop p.names) used)) (sym same)
    (subst (λ (xs : List ℕ). AreBetween d.base (d.base + length xs) (map (object_stop p.names) used)) (sym b)
    (objects_between p.names d.base (d.base + length p.bytes) p.symbols seen sorted used (omega arith) (λ k x within. lowest (a k x within)) (λ k x within. (a k x within).within) c s order f))
  where
    lowest : {address : ℕ} → IsAddress d p address → d.base ≤ address
    lowest h = let q = h.multiple in omega (arith, q)

joined : (a t b e : List ℕ) → ((a ++ t) ++ b) ++ e ≡ a ++ (t ++ (b ++ e))
joined a t b e = append_assoc (a ++ t) b e ∙ append_assoc a t (b ++ e)

pub laid : (d e : RawDescription) (p q : Assembled) (labels : List LabelAt) (objects : List ObjectAt) (lines : List Instance) (bytes first second third fourth : List ℕ) → q ≡ p → e ≡ d
    → IsPermutation q.labels labels → IsPermutation (numbered 0 q.symbols) objects → lines ≡ q.lines → bytes ≡ q.bytes
    → AreBetween 0 (length lines) (map (label_stop q.names) labels) → AreBetween e.base (e.base + length bytes) (map (object_stop q.names) objects)
    → first ≡ codes ".text\n" → second ≡ first ++ text_of (woven 0 (map (label_stop q.names) labels) (instruction_lines d q.names lines))
    → third ≡ second ++ codes ".data\n" → fourth ≡ third ++ text_of (woven e.base (map (object_stop q.names) objects) (byte_lines bytes)) → IsLaidOut d p fourth
laid d e p q labels objects lines bytes first second third fourth view same all_labels all_objects g h label_order object_order one two three four =
    let text : List Said = woven 0 (map (label_stop q.names) labels) (instruction_lines d q.names q.lines) in
    let stored : List Said = woven d.base (map (object_stop q.names) objects) (byte_lines q.bytes) in
    subst (λ (x : Assembled). IsLaidOut d x fourth) view (record {
      lines = lines_for d q labels objects;
      are_lines = record {
        labels = labels;
        objects = objects;
        all_labels = all_labels;
        all_objects = all_objects;
        label_order = subst (λ (xs : List Instance). AreBetween 0 (length xs) (map (label_stop q.names) labels)) g label_order;
        object_order =
            subst (λ (xs : List ℕ). AreBetween d.base (d.base + length xs) (map (object_stop q.names) objects)) h
            (subst (λ (x : RawDescription). AreBetween x.base (x.base + length bytes) (map (object_stop q.names) objects)) same object_order);
        are = refl;
      };
      text_is =
          four
          ∙ ap (λ (x : RawDescription). third ++ text_of (woven x.base (map (object_stop q.names) objects) (byte_lines bytes))) same
          ∙ ap (λ (xs : List ℕ). third ++ text_of (woven d.base (map (object_stop q.names) objects) (byte_lines xs))) h
          ∙ ap (λ (xs : List ℕ). xs ++ text_of stored) (three
          ∙ ap (λ (xs : List ℕ). xs ++ codes ".data\n") (two
          ∙ ap (λ (xs : List Instance). first ++ text_of (woven 0 (map (label_stop q.names) labels) (instruction_lines d q.names xs))) g
          ∙ ap (λ (xs : List ℕ). xs ++ text_of text) one))
          ∙ joined (codes ".text\n") (text_of text) (codes ".data\n") (text_of stored)
          ∙ ap (λ (xs : List ℕ). codes ".text\n" ++ xs) (sym (text_append text (DataBegins ∷ stored)));
    })
