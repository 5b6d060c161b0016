-- The lines of a program are a text of it.
use Rattle.std.proofs.Common.{◌≡◌, ◌≢◌, ◌⊎◌, inl, inr, ℕ, zero, suc, ◌+◌, ◌/◌, ◌<◌, ◌≤◌, Bool, true, false, pos, List, [], ◌∷◌, ◌++◌, length, map, filter_map, get_or, Option, Some, None, slice_get, All, AllPairs, Contains, refl, sym, ap, subst, ◌∙◌, arith, append_assoc, length-append}
use Rattle.std.specs.List.{AllZip, AllByRecursion, IsDistinct, cons_option}
use Rattle.std.specs.List.Sorted.{IsPermutation}
use Rattle.std.proofs.lemmas.List.{append-nil}
use Rattle.std.proofs.lemmas.List.Elements.{All-head, All-tail, All-cons, Contains-get_or}
use Rattle.std.proofs.lemmas.List.Sorted.{IsPermutation-map, IsPermutation-sym, Contains-permutation, All-permutation}
use Rattle.std.proofs.lemmas.Map.Keys.{IsDistinct-IsPermutation}
use Rattle.std.proofs.lemmas.Option.{slice_get_within, get_or_from_slice_get}
use Rattle.asm_token.specs.Tokens.{Token, IsToken}
use Rattle.asm_token.specs.Line.{line_of}
use Rattle.rtl_tree.specs.Names.{IsName, AreNames as AreCNames}
use Rattle.rtl_tree.specs.declared.cells.Lab.{Lab}
use Rattle.rtl_tree.specs.declared.cells.Lab.TheVariants as lab
use Rattle.rtl_tree.specs.declared.c_names.Names.{Names}
use Rattle.rtl_value.specs.declared.state.LabelAt.{LabelAt}
use Rattle.md_rows.specs.declared.description.RawDescription.{RawDescription}
use Rattle.md_rows.specs.declared.instance.Bound.{Bound}
use Rattle.md_rows.specs.declared.instance.Bound.TheVariants.{Label as LabelBound}
use Rattle.md_rows.specs.declared.instance.Instance.{Instance}
use Rattle.md_literals.specs.Literals.{HasLiterals}
use Rattle.asm_row.specs.Line.{IsNamed, HasNumber, IsLineOf}
use Rattle.asm_row.specs.Readable.{IsReadable}
use Rattle.asm_row.specs.Reading.{Value, Register_, Number, Object, Block as BlockValue, Function, AreValues}
use Rattle.asm_row.proofs.HoleValues.{no_item, same_item, one_place, IsBoundOf, bound_of}
use Rattle.asm_row.proofs.Unique.{line_reads, one_instance}
use Rattle.asm_program.specs.declared.places.Part.{Part}
use Rattle.asm_program.specs.declared.places.Part.TheVariants.{Outside, InText, InData}
use Rattle.asm_program.specs.TextLines.{Label, Block, Symbol, Said, Unreadable, TextBegins, DataBegins, Labelled, Byte, Others, Says}
use Rattle.asm_program.specs.Places.{Position, start, same_label, symbols_on, symbol_in}
use Rattle.asm_program.specs.Rules.{IsMade, IsPlaced, IsWithin, IsSound, StandsIn, AreSaid, is_dotted, word_bytes, name_limit}
use Rattle.asm_program.specs.Programs.{Assembled, IsLab, HasLabel, HasObject, instructions, instruction_of, text_labels, data_part, bytes_from, objects_from, IsLineIn, IsProgramOf, IsText, IsStanding, HasFunction, IsAssembled}
use Rattle.asm_program.specs.Law.{HaveNames}
use Rattle.asm_print.specs.declared.stops.ObjectAt.{ObjectAt}
use Rattle.asm_print.specs.Written.{written, text_of}
use Rattle.asm_print.specs.Layout.{Stop, numbered, label_of, object_label, label_stop, object_stop, tokens_of, instruction_lines, byte_lines, woven, AreBetween}
use Rattle.asm_print.specs.Law.{IsLaidOut}
use Rattle.asm_print.specs.Printable.{IsOf, IsAddress, function_in, labelled, IsProgramFor}
use Rattle.asm_print.proofs.Clean.{false_by, AreClean, written_lines, HasNoFeed, line_clean}
use Rattle.asm_print.proofs.Speaking.{IsGoodLabel, IsOwn, says_label, label_clean, says_text, says_data, says_byte, byte_clean, says_line, not_dotted}
use Rattle.asm_print.proofs.Instructions.{IsGoodLine, good_line, has_line, SomeNames, NamesValue, HasSymbolsOf}
use Rattle.asm_print.proofs.Weaving.{Weave, weave_of, AreInstructions, ArePlain, weave_text_labels, weave_instructions, weave_data_part, labels_on, stop_label, weave_labels, HasStop, weave_has, parts, parts_append, data_stays, weave_parts, Each, each_append, weave_each, AreInPlace, weave_in_text, weave_counts, weave_text_reaches}
use Rattle.asm_print.proofs.DataPart.{bytes_of, bytes_plain, AreAligned, objects_at, data_counts, weave_bytes, weave_objects, weave_reaches, weave_in_data}
use Rattle.asm_print.proofs.Ordered.{few_objects, address_at}
use Rattle.asm_print.proofs.Names.{name_or, some_name, name_is, length_map, all_contains, Has, has_left, has_right, no_more, HasKnownSymbols, names_after, names_known}
use Rattle.asm_print.proofs.Walking.{same_decides, itself, LabelsDiffer, differ_by, ahead, ahead_part, ahead_count, ahead_reach, ahead_names, IsFine, stands_in, walks}

-- names by their places

one_name : (xs : List (List ℕ)) (j k : ℕ) → AreCNames xs → j < length xs → k < length xs → name_or xs j ≡ name_or xs k → j ≡ k
one_name xs j k names h i e = one_place xs j k (name_or xs j) names (some_name xs j h) (some_name xs k i ∙ ap Some (sym e))

is_name : (xs : List (List ℕ)) (k : ℕ) → AreCNames xs → k < length xs → IsName (name_or xs k)
is_name xs k names h =
    subst IsName (get_or_from_slice_get xs k (name_or xs k) [] (some_name xs k h)) (names.names k [] h)

has_at : (xs : List (List ℕ)) (k : ℕ) (s : List ℕ) → slice_get xs k ≡ Some s → Has xs s
has_at [] k s e = absurd (no_item s e)
has_at (x ∷ xs) zero s e = inl (same_item x s e)
has_at (x ∷ xs) (suc k) s e = inr (has_at xs k s e)

-- lists

map_map : {A B C : Type 0} (f : B → C) (g : A → B) (xs : List A) → map f (map g xs) ≡ map (λ x. f (g x)) xs
map_map f g [] = refl
map_map f g (x ∷ xs) = ap (λ (ys : List _). f (g x) ∷ ys) (map_map f g xs)

record From {A B : Type 0} (f : A → B) (xs : List A) (y : B) : Type 0 where
  it : A
  has : Contains xs it
  is : f it ≡ y

later : {A : Type 0} (y : A) (xs : List A) (x : A) → Contains xs x → Contains (y ∷ xs) x
later y xs x c = (suc c.0, let within = c.1 in let q : suc c.0 < suc (length xs) = omega (arith, within) in q, c.2)

map_contains : {A B : Type 0} (f : A → B) (xs : List A) (k : ℕ) (x : A) → k < length xs → get_or xs k x ≡ x → Contains (map f xs) (f x)
map_contains f [] k x h e = absurd (omega (arith, h))
map_contains f (y ∷ xs) zero x h e = (0, let q : 0 < suc (length (map f xs)) = omega arith in q, ap f e)
map_contains f (y ∷ xs) (suc k) x h e = later (f y) (map f xs) (f x) (map_contains f xs k x (let q : suc k < suc (length xs) = h in omega arith) e)

from_contains : {A B : Type 0} (f : A → B) (xs : List A) (k : ℕ) (y : B) → k < length (map f xs) → get_or (map f xs) k y ≡ y → From f xs y
from_contains f [] k y h e = absurd (omega (arith, h))
from_contains f (x ∷ xs) zero y h e = record { it = x; has = (0, let q : 0 < suc (length xs) = omega arith in q, refl); is = e }
from_contains f (x ∷ xs) (suc k) y h e =
    let r = from_contains f xs k y (let q : suc k < suc (length (map f xs)) = h in omega arith) e in
    record { it = r.it; has = later x xs r.it r.has; is = r.is }

stop_at : {A : Type 0} (f : A → Stop) (xs : List A) (k : ℕ) (x : A) → k < length xs → get_or xs k x ≡ x → HasStop (map f xs) (f x).0
stop_at f [] k x h e = absurd (omega (arith, h))
stop_at f (y ∷ xs) zero x h e = inl (ap (λ z. (f z).0) e)
stop_at f (y ∷ xs) (suc k) x h e = inr (stop_at f xs k x (let q : suc k < suc (length xs) = h in omega arith) e)

each_map : {A : Type 0} (P : A → Type 0) (Q : Stop → Type 0) (f : A → Stop) → ((x : A) → P x → Q (f x)) → (xs : List A) → All P xs → Each Q (map f xs)
each_map P Q f g [] h = tt
each_map P Q f g (x ∷ xs) h = (g x (All-head P x xs h), each_map P Q f g xs (All-tail P x xs h))

each_of : {A : Type 0} (P : A → Type 0) (xs : List A) → All P xs → Each P xs
each_of P [] h = tt
each_of P (x ∷ xs) h = (All-head P x xs h, each_of P xs (All-tail P x xs h))

zip_written : (ss : List Said) → Each (λ s. Says (written s) s) ss → AllZip Says (map written ss) ss
zip_written [] h = tt
zip_written (s ∷ ss) h = (h.0, zip_written ss h.1)

bool_same : (a b : Bool) → (a ≡ true → b ≡ true) → (b ≡ true → a ≡ true) → a ≡ b
bool_same true b f g = sym (f refl)
bool_same false true f g = g refl
bool_same false false f g = refl

flips : (k l : Label) → same_label k l ≡ same_label l k
flips k l =
    bool_same (same_label k l) (same_label l k)
    (λ e. subst (λ (x : Label). same_label l x ≡ true) (sym (same_decides k l e)) (itself l))
    (λ e. subst (λ (x : Label). same_label k x ≡ true) (sym (same_decides l k e)) (itself k))

-- labels that differ

all_apart : (P : Label → Type 0) (xs ys : List Label) → AllByRecursion P xs → AllByRecursion P ys → AllByRecursion P (xs ++ ys)
all_apart P [] ys h k = k
all_apart P (x ∷ xs) ys h k = (h.0, all_apart P xs ys h.1 k)

distinct_append : (xs ys : List Label) → IsDistinct same_label xs → IsDistinct same_label ys → Each (λ x. AllByRecursion (λ y. same_label x y ≡ false) ys) xs → IsDistinct same_label (xs ++ ys)
unfolding IsDistinct
distinct_append [] ys h k e = k
distinct_append (x ∷ xs) ys h k e = (all_apart (λ y. same_label x y ≡ false) xs ys h.0 e.0, distinct_append xs ys h.1 k e.1)

same_block : (a b : ℕ) → Block a ≡ Block b → a ≡ b
same_block a b e = cc

same_symbol : (a b : List ℕ) → Symbol a ≡ Symbol b → a ≡ b
same_symbol a b e = cc

other_kind : (a : ℕ) (b : List ℕ) → Block a ≡ Symbol b → ⊥
other_kind a b e = cc

module _ (n : Names) (names : HaveNames n) where
  abbrev Named : LabelAt → Type 0
  Named l = HasFunction n l

  abbrev text_label : LabelAt → Label
  text_label l = label_of n l.label

  abbrev data_label : ObjectAt → Label
  data_label o = object_label n o.object

  one_label : (a b : Lab) → IsNamed n (LabelBound a) → IsNamed n (LabelBound b) → label_of n a ≡ label_of n b → a ≡ b
  one_label (lab.Block a) (lab.Block b) h k e = ap lab.Block (same_block a b e)
  one_label (lab.Block a) (lab.Function g) h k e = absurd (other_kind a (name_or n.functions g) e)
  one_label (lab.Function f) (lab.Block b) h k e = absurd (other_kind b (name_or n.functions f) (sym e))
  one_label (lab.Function f) (lab.Function g) h k e = ap lab.Function (one_name n.functions f g names.functions h k (same_symbol (name_or n.functions f) (name_or n.functions g) e))

  each_apart : (x : LabelAt) (ls : List LabelAt) → Named x → All Named ls → All (λ b. x.label ≢ b.label) ls → AllByRecursion (λ l. same_label (text_label x) l ≡ false) (map text_label ls)
  each_apart x [] h a p = tt
  each_apart x (y ∷ ls) h a p = (
    false_by (same_label (text_label x) (text_label y))
        (λ e. All-head (λ b. x.label ≢ b.label) y ls p (one_label x.label y.label h (All-head Named y ls a) (same_decides (text_label x) (text_label y) e))),
    each_apart x ls h (All-tail Named y ls a) (All-tail (λ b. x.label ≢ b.label) y ls p),
  )

  pub distinct_labels : (ls : List LabelAt) → AllPairs (λ a b. a.label ≢ b.label) ls → All Named ls → IsDistinct same_label (map text_label ls)
  unfolding IsDistinct
  distinct_labels [] h a = tt
  distinct_labels (x ∷ ls) h a = (
    each_apart x ls (All-head Named x ls a) (All-tail Named x ls a) (λ k e within. h 0 (suc k) e (omega arith) (omega (arith, within))),
    distinct_labels ls (λ i j e less within. h (suc i) (suc j) e (omega (arith, less)) (omega (arith, within))) (All-tail Named x ls a),
  )

  later_objects : (m j : ℕ) (addresses : List ℕ) → m < j → j + length addresses ≤ length n.objects → AllByRecursion (λ l. same_label (object_label n m) l ≡ false) (map data_label (numbered j addresses))
  later_objects m j [] h k = tt
  later_objects m j (a ∷ addresses) h k = (
    false_by (same_label (object_label n m) (object_label n j))
        (λ e.
        let q : m ≡ j = one_name n.objects m j names.objects (omega (arith, h, k)) (omega (arith, k)) (same_symbol (name_or n.objects m) (name_or n.objects j) (same_decides (object_label n m) (object_label n j) e)) in
        omega (arith, h, q)),
    later_objects m (j + 1) addresses (omega (arith, h)) (omega (arith, k)),
  )

  pub distinct_objects : (m : ℕ) (addresses : List ℕ) → m + length addresses ≤ length n.objects → IsDistinct same_label (map data_label (numbered m addresses))
  unfolding IsDistinct
  distinct_objects m [] h = tt
  distinct_objects m (a ∷ addresses) h = (later_objects m (m + 1) addresses (omega arith) (omega (arith, h)), distinct_objects (m + 1) addresses (omega (arith, h)))

  abbrev HasObjectName : ObjectAt → Type 0
  HasObjectName o = o.object < length n.objects

  module _ (apart : (name : List ℕ) → Contains n.objects name → Contains n.functions name → ⊥) where
    contains_name : (xs : List (List ℕ)) (k : ℕ) → k < length xs → Contains xs (name_or xs k)
    contains_name xs k h = (k, h, get_or_from_slice_get xs k (name_or xs k) (name_or xs k) (some_name xs k h))

    cross : (b : Lab) (o : ObjectAt) → IsNamed n (LabelBound b) → HasObjectName o → same_label (label_of n b) (data_label o) ≡ false
    cross (lab.Block b) o h k = refl
    cross (lab.Function f) o h k =
        false_by (same_label (Symbol (name_or n.functions f)) (data_label o))
        (λ e. let same = same_symbol (name_or n.functions f) (name_or n.objects o.object) (same_decides (Symbol (name_or n.functions f)) (data_label o) e) in
        apart (name_or n.functions f) (subst (Contains n.objects) (sym same) (contains_name n.objects o.object k)) (contains_name n.functions f h))

    cross_objects : (l : LabelAt) (os : List ObjectAt) → Named l → All HasObjectName os → AllByRecursion (λ y. same_label (text_label l) y ≡ false) (map data_label os)
    cross_objects l [] h a = tt
    cross_objects l (o ∷ os) h a = (cross l.label o h (All-head HasObjectName o os a), cross_objects l os h (All-tail HasObjectName o os a))

    pub cross_all : (ls : List LabelAt) (os : List ObjectAt) → All Named ls → All HasObjectName os → Each (λ x. AllByRecursion (λ y. same_label x y ≡ false) (map data_label os)) (map text_label ls)
    cross_all [] os a b = tt
    cross_all (l ∷ ls) os a b = (cross_objects l os (All-head Named l ls a) b, cross_all ls os (All-tail Named l ls a) b)

-- objects and their addresses

object_at : (m : ℕ) (addresses : List ℕ) (k j a : ℕ) → j ≡ m + k → slice_get addresses k ≡ Some a → Contains (numbered m addresses) (record { object = j; at = a })
object_at m [] k j a h e = absurd (no_item a e)
object_at m (x ∷ addresses) zero j a h e =
    (0, let q : 0 < suc (length (numbered (m + 1) addresses)) = omega arith in q, same (let q : m ≡ j = omega (arith, h) in q) (same_number x a e))
  where
    same_number : (b c : ℕ) → Some b ≡ Some c → b ≡ c
    same_number b c q = cc

    same : m ≡ j → x ≡ a → ◌≡◌ {A = ObjectAt} (record { object = m; at = x }) (record { object = j; at = a })
    same f g = λ i. record { object = f i; at = g i }
object_at m (x ∷ addresses) (suc k) j a h e =
    later (record { object = m; at = x }) (numbered (m + 1) addresses) (record { object = j; at = a }) (object_at (m + 1) addresses k j a (let q : j ≡ m + 1 + k = omega (arith, h) in q) e)

record Place (m : ℕ) (addresses : List ℕ) (o : ObjectAt) : Type 0 where
  place : ℕ
  object_is : o.object ≡ m + place
  has : slice_get addresses place ≡ Some o.at

place_of : (m : ℕ) (addresses : List ℕ) (k : ℕ) (o : ObjectAt) → k < length (numbered m addresses) → get_or (numbered m addresses) k o ≡ o → Place m addresses o
place_of m [] k o h e = absurd (omega (arith, h))
place_of m (a ∷ addresses) zero o h e =
    record {
      place = 0;
      object_is = ap (λ (x : ObjectAt). x.object) (sym e) ∙ (let q : m ≡ m + 0 = omega arith in q);
      has = ap (λ (x : ObjectAt). Some x.at) e;
    }
place_of m (a ∷ addresses) (suc k) o h e =
    let r = place_of (m + 1) addresses k o (let q : suc k < suc (length (numbered (m + 1) addresses)) = h in omega arith) e in
    let i = r.object_is in
    record { place = suc r.place; object_is = omega (arith, i); has = r.has }

own_line : (ts : List Token) → 0 < length ts → All IsOwn ts → is_dotted ts ≡ false
own_line [] h a = absurd (omega (arith, h))
own_line (t ∷ ts) h a = not_dotted t ts (All-head IsOwn t ts a)

says_tokens : (ts : List Token) → 0 < length ts → All IsToken ts → All IsOwn ts → length (line_of ts) ≤ 639 → Says (written (Others ts)) (Others ts)
says_tokens [] h a o s = absurd (omega (arith, h))
says_tokens (t ∷ ts) h a o s = says_line t ts a (All-head IsOwn t ts o) (All-tail IsOwn t ts o) s

same_tokens : (ts us : List Token) → Others ts ≡ Others us → ts ≡ us
same_tokens ts us e = cc

some_number : (xs : List ℕ) (k : ℕ) → k < length xs → (a : ℕ) × (slice_get xs k ≡ Some a)
some_number [] k h = absurd (omega (arith, h))
some_number (x ∷ xs) zero h = (x, refl)
some_number (x ∷ xs) (suc k) h = some_number xs k (let q : suc k < suc (length xs) = h in omega arith)

-- a function that has a label is among those that have one
labelled_has : (n : Names) (ls : List LabelAt) (k f at : ℕ) → k < length ls → get_or ls k (record { label = lab.Function f; at = at }) ≡ record { label = lab.Function f; at = at }
    → Has (map (name_or n.functions) (labelled ls)) (name_or n.functions f)
labelled_has n [] k f at h e = absurd (omega (arith, h))
labelled_has n (l ∷ ls) zero f at h e =
    subst (λ (o : Option ℕ). Has (map (name_or n.functions) (cons_option o (labelled ls))) (name_or n.functions f)) (sym (ap (λ (x : LabelAt). function_in x.label) e)) (inl refl)
labelled_has n (l ∷ ls) (suc k) f at h e =
    behind (function_in l.label) (labelled_has n ls k f at (let q : suc k < suc (length ls) = h in omega arith) e)
  where
    behind : (o : Option ℕ) → Has (map (name_or n.functions) (labelled ls)) (name_or n.functions f) → Has (map (name_or n.functions) (cons_option o (labelled ls))) (name_or n.functions f)
    behind None q = q
    behind (Some g) q = inr q

-- a symbol of a line is the name of a value
symbol_named : (vs : List Value) (ts : List Token) (x : List ℕ) → All (HasSymbolsOf vs) ts → Has (filter_map symbol_in ts) x → SomeNames x vs
symbol_named vs [] x a h = absurd h
symbol_named vs (t ∷ ts) x a h = pick (symbol_in t) refl h (λ k. symbol_named vs ts x (All-tail (HasSymbolsOf vs) t ts a) k)
  where
    pick : (o : Option (List ℕ)) → symbol_in t ≡ o → Has (cons_option o (filter_map symbol_in ts)) x → (Has (filter_map symbol_in ts) x → SomeNames x vs) → SomeNames x vs
    pick None e k f = f k
    pick (Some s) e (inl q) f = All-head (HasSymbolsOf vs) t ts a x (e ∙ ap Some q)
    pick (Some s) e (inr k) f = f k

-- what is known of an instruction of the program

module _ (d : RawDescription) (p : Assembled) (readable : IsReadable d) (literals : HasLiterals d) (names : HaveNames p.names) (assembled : IsAssembled p) (fit : IsProgramFor d p)
    (labels : List LabelAt) (objects : List ObjectAt) (all_labels : IsPermutation p.labels labels) (all_objects : IsPermutation (numbered 0 p.symbols) objects)
    (label_order : AreBetween 0 (length p.lines) (map (label_stop p.names) labels))
    (object_order : AreBetween d.base (d.base + length p.bytes) (map (object_stop p.names) objects)) where
  abbrev n : Names
  n = p.names

  abbrev text_stops : List Stop
  text_stops = map (label_stop n) labels

  abbrev data_stops : List Stop
  data_stops = map (object_stop n) objects

  abbrev text : List Said
  text = woven 0 text_stops (instruction_lines d n p.lines)

  abbrev stored : List Said
  stored = woven d.base data_stops (byte_lines p.bytes)

  abbrev all : List Said
  all = TextBegins ∷ (text ++ DataBegins ∷ stored)

  text_weave : Weave 0 text_stops (instruction_lines d n p.lines) text (length p.lines)
  text_weave = weave_of text_stops 0 (length p.lines) (instruction_lines d n p.lines) label_order (let e = length_map (λ i. Others (tokens_of d n i)) p.lines in omega (arith, e))

  data_weave : Weave d.base data_stops (byte_lines p.bytes) stored (d.base + length p.bytes)
  data_weave = weave_of data_stops d.base (d.base + length p.bytes) (byte_lines p.bytes) object_order (let e = length_map (λ b. Byte (pos b)) p.bytes in omega (arith, e))

  record LineFacts (i : Instance) : Type 0 where
    numbers : All HasNumber i.binding
    named : All (IsNamed n) i.binding
    standing : All (IsStanding p.labels) i.binding
    line : IsLineOf d n i (tokens_of d n i)
    good : IsGoodLine d n names.objects names.functions i (tokens_of d n i)

  facts_of : (is : List Instance) → All (IsOf d) is → All (λ i. All (IsNamed n) i.binding) is → All (λ i. All (IsStanding p.labels) i.binding) is → Each LineFacts is
  facts_of [] a b c = tt
  facts_of (i ∷ is) a b c =
      let it = All-head (IsOf d) i is a in
      let named = All-head (λ i. All (IsNamed n) i.binding) i is b in
      let line = has_line d n i it.row readable it.is_instance named in (
        record {
          numbers = it.numbers;
          named = named;
          standing = All-head (λ i. All (IsStanding p.labels) i.binding) i is c;
          line = line;
          good = good_line d n names.objects names.functions readable literals i it.row (tokens_of d n i) it.is_instance it.numbers line;
        },
        facts_of is (All-tail (IsOf d) i is a) (All-tail (λ i. All (IsNamed n) i.binding) i is b) (All-tail (λ i. All (IsStanding p.labels) i.binding) i is c),
      )

  facts : Each LineFacts p.lines
  facts = facts_of p.lines fit.lines assembled.named assembled.standing

  are_instructions : (is : List Instance) → Each LineFacts is → AreInstructions (instruction_lines d n is)
  are_instructions [] f = tt
  are_instructions (i ∷ is) f = (own_line (tokens_of d n i) f.0.good.some f.0.good.own, are_instructions is f.1)

  are_plain : (is : List Instance) → ArePlain (instruction_lines d n is)
  are_plain [] = tt
  are_plain (i ∷ is) = are_plain is

  text_is : AreInstructions (instruction_lines d n p.lines)
  text_is = are_instructions p.lines facts

  -- labels

  functions_named : All (HasFunction n) labels
  functions_named = All-permutation (HasFunction n) p.labels labels all_labels assembled.functions

  few : 0 + length p.symbols ≤ length n.objects
  few = let e = assembled.addresses in omega (arith, e)

  objects_named : All (λ o. o.object < length n.objects) objects
  objects_named = All-permutation (λ o. o.object < length n.objects) (numbered 0 p.symbols) objects all_objects (few_objects n 0 p.symbols few)

  labels_are : labels_on all ≡ map (text_label n names) labels ++ map (data_label n names) objects
  labels_are =
      weave_labels 0 (length p.lines) text_stops (instruction_lines d n p.lines) text text_weave (are_plain p.lines) (DataBegins ∷ stored)
      ∙ ap (λ (ls : List Label). map stop_label text_stops ++ ls) (ap labels_on (sym (append-nil stored))
      ∙ weave_labels d.base (d.base + length p.bytes) data_stops (byte_lines p.bytes) stored data_weave (bytes_plain p.bytes) []
      ∙ append-nil (map stop_label data_stops)
      ∙ map_map stop_label (object_stop n) objects)
      ∙ ap (λ (ls : List Label). ls ++ map (data_label n names) objects) (map_map stop_label (label_stop n) labels)

  differ : LabelsDiffer all
  differ =
      differ_by all (subst (IsDistinct same_label) (sym labels_are)
      (distinct_append (map (text_label n names) labels) (map (data_label n names) objects)
      (IsDistinct-IsPermutation same_label flips (map (text_label n names) p.labels) (map (text_label n names) labels) (IsPermutation-map (text_label n names) p.labels labels all_labels)
      (distinct_labels n names p.labels assembled.different assembled.functions))
      (IsDistinct-IsPermutation same_label flips (map (data_label n names) (numbered 0 p.symbols)) (map (data_label n names) objects)
      (IsPermutation-map (data_label n names) (numbered 0 p.symbols) objects all_objects) (distinct_objects n names 0 p.symbols few))
      (cross_all n names assembled.apart labels objects functions_named objects_named)))

  bytes_of_word : (word_bytes d ≡ 2) ⊎ (word_bytes d ≡ 4)
  bytes_of_word = elim readable.size [ inl e ↦ inl (ap (λ (w : ℕ). w / 8) e) | inr e ↦ inr (ap (λ (w : ℕ). w / 8) e) ]

  some_bytes : 0 < word_bytes d
  some_bytes = elim bytes_of_word [ inl e ↦ omega (arith, e) | inr e ↦ omega (arith, e) ]

  -- where labels stand

  stands_in_text : (l : Label) → HasStop text_stops l → StandsIn all l InText
  stands_in_text l h =
      let s = weave_has 0 (length p.lines) text_stops (instruction_lines d n p.lines) text text_weave (are_plain p.lines) l h in
      stands_in d some_bytes all (TextBegins ∷ s.before) l (s.behind ++ DataBegins ∷ stored) InText
      (ap (λ (xs : List Said). TextBegins ∷ (xs ++ DataBegins ∷ stored)) s.are ∙ ap (λ (xs : List Said). TextBegins ∷ xs) (append_assoc s.before (Labelled l ∷ s.behind) (DataBegins ∷ stored)))
      differ s.in_text

  stands_in_data : (l : Label) → HasStop data_stops l → StandsIn all l InData
  stands_in_data l h =
      let s = weave_has d.base (d.base + length p.bytes) data_stops (byte_lines p.bytes) stored data_weave (bytes_plain p.bytes) l h in
      stands_in d some_bytes all (TextBegins ∷ (text ++ DataBegins ∷ s.before)) l s.behind InData
      (ap (λ (xs : List Said). TextBegins ∷ (text ++ DataBegins ∷ xs)) s.are ∙ ap (λ (xs : List Said). TextBegins ∷ xs) (sym (append_assoc text (DataBegins ∷ s.before) (Labelled l ∷ s.behind))))
      differ
      (parts_append InText text (DataBegins ∷ s.before)
      ∙ ap (λ (q : Part). parts q (DataBegins ∷ s.before)) (weave_parts 0 (length p.lines) text_stops (instruction_lines d n p.lines) text text_weave (are_plain p.lines)) ∙ s.in_data)

  label_stands : (b : Lab) (at : ℕ) → Contains p.labels (record { label = b; at = at }) → HasStop text_stops (label_of n b)
  label_stands b at c =
      let l : LabelAt = record { label = b; at = at } in
      let r = Contains-permutation p.labels labels l all_labels c in
      stop_at (label_stop n) labels r.0 l r.1 r.2

  object_stands : (s : ℕ) (name : List ℕ) → slice_get n.objects s ≡ Some name → HasStop data_stops (Symbol name)
  object_stands s name e =
      let size = assembled.addresses in
      let within : s < length p.symbols = let q = slice_get_within n.objects s name e in omega (arith, q, size) in
      let address = some_number p.symbols s within in
      let o : ObjectAt = record { object = s; at = address.0 } in
      let r = Contains-permutation (numbered 0 p.symbols) objects o all_objects (object_at 0 p.symbols s s address.0 (let q : s ≡ 0 + s = omega arith in q) address.1) in
      subst (HasStop data_stops) (ap Symbol (name_is n.objects s name e)) (stop_at (object_stop n) objects r.0 o r.1 r.2)

  placed_by : (v : Value) (b : Bound) → IsBoundOf d n names.objects names.functions v b → IsStanding p.labels b → IsPlaced all v
  placed_by (Register_ k) b i s = tt
  placed_by (Number x) b i s = tt
  placed_by (Object name) b i s = stands_in_data (Symbol name) (object_stands i.0 name i.2)
  placed_by (BlockValue m) b i s = let c = subst (IsStanding p.labels) i s in stands_in_text (Block m) (label_stands (lab.Block m) c.0 c.1)
  placed_by (Function name) b i s =
      let c = subst (IsStanding p.labels) i.1 s in
      subst (λ (l : Label). StandsIn all l InText) (ap Symbol (name_is n.functions i.0 name i.2))
      (stands_in_text (label_of n (lab.Function i.0)) (label_stands (lab.Function i.0) c.0 c.1))

  placed_all : (bs : List Bound) (vs : List Value) → AreValues n bs vs → All (IsStanding p.labels) bs → All (IsPlaced all) vs
  placed_all [] [] a s = λ k e within. absurd (omega (arith, within))
  placed_all (b ∷ bs) (v ∷ vs) a s =
      All-cons (IsPlaced all) v vs (placed_by v b (bound_of d n names.objects names.functions b v a.0) (All-head (IsStanding p.labels) b bs s))
      (placed_all bs vs a.1 (All-tail (IsStanding p.labels) b bs s))
  placed_all [] (v ∷ vs) a s = absurd a
  placed_all (b ∷ bs) [] a s = absurd a

  made : (i : Instance) → LineFacts i → IsMade d all (tokens_of d n i)
  made i f = record { place = i.row; values = f.good.values; found = f.good.found; placed = placed_all i.binding f.good.values f.good.bound f.standing }

  -- names

  abbrev known : List (List ℕ)
  known = n.objects ++ map (name_or n.functions) (labelled p.labels)

  function_known : (f at : ℕ) → Contains p.labels (record { label = lab.Function f; at = at }) → Has known (name_or n.functions f)
  function_known f at c =
      has_right n.objects (map (name_or n.functions) (labelled p.labels)) (name_or n.functions f) (labelled_has n p.labels c.0 f at c.1 c.2)

  value_known : (x : List ℕ) (v : Value) (b : Bound) → IsBoundOf d n names.objects names.functions v b → IsStanding p.labels b → NamesValue x v → Has known x
  value_known x (Object name) b i s e =
      has_left n.objects (map (name_or n.functions) (labelled p.labels)) x (has_at n.objects i.0 x (i.2 ∙ ap Some e))
  value_known x (Function name) b i s e =
      let c = subst (IsStanding p.labels) i.1 s in
      subst (Has known) (name_is n.functions i.0 name i.2 ∙ e) (function_known i.0 c.0 c.1)
  value_known x (Register_ k) b i s e = absurd e
  value_known x (Number k) b i s e = absurd e
  value_known x (BlockValue m) b i s e = absurd e

  values_known : (x : List ℕ) (bs : List Bound) (vs : List Value) → AreValues n bs vs → All (IsStanding p.labels) bs → SomeNames x vs → Has known x
  values_known x [] [] a s h = absurd h
  values_known x (b ∷ bs) (v ∷ vs) a s (inl h) = value_known x v b (bound_of d n names.objects names.functions b v a.0) (All-head (IsStanding p.labels) b bs s) h
  values_known x (b ∷ bs) (v ∷ vs) a s (inr h) = values_known x bs vs a.1 (All-tail (IsStanding p.labels) b bs s) h
  values_known x [] (v ∷ vs) a s h = absurd a
  values_known x (b ∷ bs) [] a s h = absurd a

  line_known : (i : Instance) → LineFacts i → HasKnownSymbols known (Others (tokens_of d n i))
  line_known i f x h = values_known x i.binding f.good.values f.good.bound f.standing (symbol_named f.good.values (tokens_of d n i) x f.good.symbols h)

  -- what is known of each line

  record IsGoodSaid (s : Said) : Type 0 where
    says : Says (written s) s
    clean : HasNoFeed (written s)
    fine : IsFine d some_bytes all s
    symbols : HasKnownSymbols known s

  no_tokens : (s : Said) → ((ts : List Token) → s ≡ Others ts → ⊥) → s ≢ Unreadable → IsFine d some_bytes all s
  no_tokens s f r = record { readable = r; made = λ ts e. absurd (f ts e) }

  good_label : (l : Label) → IsGoodLabel l → ((x : List ℕ) → Has (symbols_on (Labelled l)) x → Has known x) → IsGoodSaid (Labelled l)
  good_label l h f = record { says = says_label l h; clean = label_clean l h; fine = no_tokens (Labelled l) (λ ts e. cc) (λ e. cc); symbols = f }

  good_byte : (b : ℕ) → b < 256 → IsGoodSaid (Byte (pos b))
  good_byte b h = record { says = says_byte b h; clean = byte_clean b h; fine = no_tokens (Byte (pos b)) (λ ts e. cc) (λ e. cc); symbols = λ x k. absurd k }

  good_instruction : (i : Instance) → LineFacts i → IsGoodSaid (Others (tokens_of d n i))
  good_instruction i f = record {
    says = says_tokens (tokens_of d n i) f.good.some f.good.tokens f.good.own f.good.short;
    clean = (refl, line_clean (tokens_of d n i) f.good.tokens);
    fine = record { readable = λ e. cc; made = λ ts e. subst (IsMade d all) (same_tokens (tokens_of d n i) ts e) (made i f) };
    symbols = line_known i f;
  }

  good_instructions : (is : List Instance) → Each LineFacts is → Each IsGoodSaid (instruction_lines d n is)
  good_instructions [] f = tt
  good_instructions (i ∷ is) f = (good_instruction i f.0, good_instructions is f.1)

  good_bytes : (bs : List ℕ) → Each (λ b. b < 256) bs → Each IsGoodSaid (byte_lines bs)
  good_bytes [] f = tt
  good_bytes (b ∷ bs) f = (good_byte b f.0, good_bytes bs f.1)

  only_name : (s x : List ℕ) → Has known s → Has (s ∷ []) x → Has known x
  only_name s x h (inl e) = subst (Has known) e h
  only_name s x h (inr k) = absurd k

  record LabelFacts (l : LabelAt) : Type 0 where
    named : HasFunction n l
    number : HasNumber (LabelBound l.label)
    known_as : Contains p.labels l

  good_text_label : (b : Lab) (at : ℕ) → IsNamed n (LabelBound b) → HasNumber (LabelBound b) → Contains p.labels (record { label = b; at = at }) → IsGoodSaid (Labelled (label_of n b))
  good_text_label (lab.Block m) at h k c = good_label (Block m) k (λ x q. absurd q)
  good_text_label (lab.Function f) at h k c =
      good_label (Symbol (name_or n.functions f)) (is_name n.functions f names.functions h) (λ x q. only_name (name_or n.functions f) x (function_known f at c) q)

  good_text_labels : Each (λ stop. IsGoodSaid (Labelled stop.0)) text_stops
  good_text_labels =
      each_map LabelFacts (λ stop. IsGoodSaid (Labelled stop.0)) (label_stop n) (λ l f. good_text_label l.label l.at f.named f.number f.known_as) labels
      (All-permutation LabelFacts p.labels labels all_labels
      (λ k e within. record { named = assembled.functions k e within; number = fit.blocks k e within; known_as = Contains-get_or p.labels k e within }))

  good_data_labels : Each (λ stop. IsGoodSaid (Labelled stop.0)) data_stops
  good_data_labels =
      each_map (λ o. o.object < length n.objects) (λ stop. IsGoodSaid (Labelled stop.0)) (object_stop n)
      (λ o h. good_label (Symbol (name_or n.objects o.object)) (is_name n.objects o.object names.objects h)
      (λ x q. only_name (name_or n.objects o.object) x (has_left n.objects (map (name_or n.functions) (labelled p.labels)) (name_or n.objects o.object) (has_at n.objects o.object (name_or n.objects o.object) (some_name n.objects o.object h))) q))
      objects objects_named

  small_bytes : Each (λ b. b < 256) p.bytes
  small_bytes = each_of (λ b. b < 256) p.bytes fit.bytes

  good_all : Each IsGoodSaid all
  good_all = (
    record { says = says_text; clean = (refl, (refl, (refl, (refl, (refl, tt))))); fine = no_tokens TextBegins (λ ts e. cc) (λ e. cc); symbols = λ x k. absurd k },
    each_append IsGoodSaid text (DataBegins ∷ stored)
        (weave_each IsGoodSaid 0 (length p.lines) text_stops (instruction_lines d n p.lines) text text_weave (good_instructions p.lines facts) good_text_labels) (
          record { says = says_data; clean = (refl, (refl, (refl, (refl, (refl, tt))))); fine = no_tokens DataBegins (λ ts e. cc) (λ e. cc); symbols = λ x k. absurd k },
          weave_each IsGoodSaid d.base (d.base + length p.bytes) data_stops (byte_lines p.bytes) stored data_weave (good_bytes p.bytes small_bytes) good_data_labels,
        ),
  )

  -- the whole text keeps the rules

  in_place : AreInPlace d.word Outside all
  in_place = (
    refl,
    weave_in_text d.word 0 (length p.lines) text_stops (instruction_lines d n p.lines) text text_weave text_is (DataBegins ∷ stored)
        (refl, weave_in_data d.word d.base (d.base + length p.bytes) data_stops (byte_lines p.bytes) stored data_weave p.bytes (bytes_of p.bytes) small_bytes),
  )

  abbrev end : Position
  end = ahead (word_bytes d) start all

  count_is : end.count ≡ length p.lines
  count_is =
      ahead_count (word_bytes d) start all
      ∙ weave_counts 0 (length p.lines) text_stops (instruction_lines d n p.lines) text text_weave text_is 0 (DataBegins ∷ stored)
      ∙ data_counts (0 + length (instruction_lines d n p.lines)) stored
      ∙ (let e = length_map (λ i. Others (tokens_of d n i)) p.lines in let q : 0 + length (instruction_lines d n p.lines) ≡ length p.lines = omega (arith, e) in q)

  aligned : AreAligned d.base (word_bytes d) data_stops
  aligned = stops_aligned objects (All-permutation (λ o. IsAddress d p o.at) (numbered 0 p.symbols) objects all_objects (address_at (IsAddress d p) 0 p.symbols fit.addresses))
    where
      stops_aligned : (os : List ObjectAt) → All (λ o. IsAddress d p o.at) os → AreAligned d.base (word_bytes d) (map (object_stop n) os)
      stops_aligned [] a = tt
      stops_aligned (o ∷ os) a =
          let h = All-head (λ x. IsAddress d p x.at) o os a in
          ((h.count, h.multiple), stops_aligned os (All-tail (λ x. IsAddress d p x.at) o os a))

  begin : d.base ≡ d.base + 0
  begin = omega arith

  reach_is : end.reach ≡ length p.bytes
  reach_is =
      ahead_reach (word_bytes d) start all
      ∙ weave_text_reaches (word_bytes d) 0 (length p.lines) text_stops (instruction_lines d n p.lines) text text_weave text_is 0 (DataBegins ∷ stored)
      ∙ weave_reaches (word_bytes d) d.base bytes_of_word d.base (d.base + length p.bytes) data_stops (byte_lines p.bytes) stored data_weave p.bytes (bytes_of p.bytes) aligned 0 begin
      ∙ (let q : 0 + length p.bytes ≡ length p.bytes = omega arith in q)

  symbols_of : (ss : List Said) → Each IsGoodSaid ss → Each (HasKnownSymbols known) ss
  symbols_of [] g = tt
  symbols_of (s ∷ ss) g = (g.0.symbols, symbols_of ss g.1)

  few_names : length end.names ≤ name_limit
  few_names =
      let a = names_known known [] all (record { apart = tt; known = λ x h. absurd h }) (symbols_of all good_all) in
      let most = no_more (names_after known [] all) known a.apart a.known in
      let same = ap length (ahead_names (word_bytes d) start known all) in
      let limit = fit.names in
      omega (arith, most, same, limit, length-append n.objects (map (name_or n.functions) (labelled p.labels)), length_map (name_or n.functions) (labelled p.labels))

  within : IsWithin d end
  within =
      let i = fit.instructions in
      let j = fit.statics in
      record { instructions = omega (arith, i, count_is); statics = omega (arith, j, reach_is); names = few_names }

  fine_of : (ss : List Said) → Each IsGoodSaid ss → Each (IsFine d some_bytes all) ss
  fine_of [] g = tt
  fine_of (s ∷ ss) g = (g.0.fine, fine_of ss g.1)

  says_of : (ss : List Said) → Each IsGoodSaid ss → Each (λ s. Says (written s) s) ss
  says_of [] g = tt
  says_of (s ∷ ss) g = (g.0.says, says_of ss g.1)

  clean_of : (ss : List Said) → Each IsGoodSaid ss → AreClean ss
  clean_of [] g = tt
  clean_of (s ∷ ss) g = (g.0.clean, clean_of ss g.1)

  outside : (q : Part) → q ≡ InData → q ≢ Outside
  outside q e f = no (sym e ∙ f)
    where
      no : InData ≡ Outside → ⊥
      no x = cc

  part_is : end.part ≡ InData
  part_is =
      ahead_part (word_bytes d) start all
      ∙ parts_append InText text (DataBegins ∷ stored)
      ∙ ap (λ (q : Part). parts q (DataBegins ∷ stored)) (weave_parts 0 (length p.lines) text_stops (instruction_lines d n p.lines) text text_weave (are_plain p.lines))
      ∙ data_stays stored

  sound : IsSound d all
  sound = record {
    last = end;
    walks = walks d some_bytes all [] all start refl refl differ in_place (fine_of all good_all) within;
    begun = outside end.part part_is;
  }

  said : AreSaid (text_of all) all
  said = subst (λ (ls : List (List ℕ)). AllZip Says ls all) (sym (written_lines all (clean_of all good_all))) (zip_written all (says_of all good_all))

  -- its program

  instructions_are : (is : List Instance) → filter_map instruction_of (instruction_lines d n is) ≡ map (tokens_of d n) is
  instructions_are [] = refl
  instructions_are (i ∷ is) = ap (λ (xs : List (List Token)). tokens_of d n i ∷ xs) (instructions_are is)

  no_instructions : (k e : ℕ) (stops : List Stop) (bs : List ℕ) → filter_map instruction_of (byte_lines bs) ≡ []
  no_instructions k e stops [] = refl
  no_instructions k e stops (b ∷ bs) = no_instructions k e stops bs

  all_instructions : instructions all ≡ map (tokens_of d n) p.lines
  all_instructions =
      weave_instructions 0 (length p.lines) text_stops (instruction_lines d n p.lines) text text_weave (DataBegins ∷ stored)
      ∙ ap (λ (xs : List (List Token)). filter_map instruction_of (instruction_lines d n p.lines) ++ xs)
      (ap (filter_map instruction_of) (sym (append-nil stored))
      ∙ weave_instructions d.base (d.base + length p.bytes) data_stops (byte_lines p.bytes) stored data_weave []
      ∙ append-nil (filter_map instruction_of (byte_lines p.bytes)) ∙ no_instructions 0 0 [] p.bytes)
      ∙ append-nil (filter_map instruction_of (instruction_lines d n p.lines)) ∙ instructions_are p.lines

  line_in : (i : Instance) → LineFacts i → IsLineIn d n (tokens_of d n i) i
  line_in i f = record {
    numbers = f.numbers;
    line = f.line;
    only = λ j m l.
        one_instance d readable n names.objects names.functions j i (tokens_of d n i) (line_reads d readable n names.objects names.functions j (tokens_of d n i) m l)
        (line_reads d readable n names.objects names.functions i (tokens_of d n i) f.numbers f.line);
  }

  zip_lines : (is : List Instance) → Each LineFacts is → AllZip (IsLineIn d n) (map (tokens_of d n) is) is
  zip_lines [] f = tt
  zip_lines (i ∷ is) f = (line_in i f.0, zip_lines is f.1)

  labels_at : text_labels 0 all ≡ text_stops
  labels_at = weave_text_labels 0 (length p.lines) text_stops (instruction_lines d n p.lines) text text_weave text_is (DataBegins ∷ stored) ∙ append-nil text_stops

  lab_label : (l : Label) (b : Lab) → IsLab n l b → label_of n b ≡ l
  lab_label (Block m) b e = ap (label_of n) e
  lab_label (Symbol s) (lab.Function f) e = ap Symbol (name_is n.functions f s e)
  lab_label (Symbol s) (lab.Block m) e = absurd e

  label_lab : (b : Lab) → IsNamed n (LabelBound b) → IsLab n (label_of n b) b
  label_lab (lab.Block m) h = refl
  label_lab (lab.Function f) h = some_name n.functions f h

  pair_of : {A B : Type 0} (a c : A) (b : B) → a ≡ c → ◌≡◌ {A = A × B} (a, b) (c, b)
  pair_of a c b e = ap (λ x. (x, b)) e

  to_label : (l : Label) (at : ℕ) → HasLabel p l at → Contains (text_labels 0 all) (l, at)
  to_label l at h =
      let it : LabelAt = record { label = h.label; at = at } in
      let r = Contains-permutation p.labels labels it all_labels h.has in
      subst (λ (xs : List Stop). Contains xs (l, at)) (sym labels_at)
      (subst (Contains text_stops) (pair_of (label_of n h.label) l at (lab_label l h.label h.is_label)) (map_contains (label_stop n) labels r.0 it r.1 r.2))

  from_label : (l : Label) (at : ℕ) → Contains (text_labels 0 all) (l, at) → HasLabel p l at
  from_label l at c =
      let has_stop = subst (λ (xs : List Stop). Contains xs (l, at)) labels_at c in
      let r = from_contains (label_stop n) labels has_stop.0 (l, at) has_stop.1 has_stop.2 in
      let has = Contains-permutation labels p.labels r.it (IsPermutation-sym p.labels labels all_labels) r.has in
      record {
        label = r.it.label;
        is_label = subst (λ (x : Label). IsLab n x r.it.label) (ap (λ (x : Stop). x.0) r.is) (label_lab r.it.label (all_contains (HasFunction n) p.labels r.it assembled.functions has));
        has = subst (λ (m : ℕ). Contains p.labels (record { label = r.it.label; at = m })) (ap (λ (x : Stop). x.1) r.is) has;
      }

  abbrev object_entry : ObjectAt → List ℕ × ℕ
  object_entry o = (name_or n.objects o.object, o.at)

  entries : (os : List ObjectAt) → objects_at (map (object_stop n) os) ≡ map object_entry os
  entries [] = refl
  entries (o ∷ os) = ap (λ (xs : List (List ℕ × ℕ)). object_entry o ∷ xs) (entries os)

  data_is : data_part all ≡ stored
  data_is = weave_data_part 0 (length p.lines) text_stops (instruction_lines d n p.lines) text text_weave text_is (DataBegins ∷ stored)

  objects_are : objects_from d.base (word_bytes d) [] (data_part all) ≡ map object_entry objects
  objects_are =
      ap (objects_from d.base (word_bytes d) []) data_is
      ∙ weave_objects (word_bytes d) d.base bytes_of_word d.base (d.base + length p.bytes) data_stops (byte_lines p.bytes) stored data_weave p.bytes (bytes_of p.bytes) aligned [] begin
      ∙ entries objects

  bytes_are : p.bytes ≡ bytes_from (word_bytes d) [] (data_part all)
  bytes_are =
      sym (ap (bytes_from (word_bytes d) []) data_is
      ∙ weave_bytes (word_bytes d) d.base bytes_of_word d.base (d.base + length p.bytes) data_stops (byte_lines p.bytes) stored data_weave p.bytes (bytes_of p.bytes) aligned [] begin)

  to_object : (name : List ℕ) (address : ℕ) → HasObject p name address → Contains (objects_from d.base (word_bytes d) [] (data_part all)) (name, address)
  to_object name address h =
      let it : ObjectAt = record { object = h.place; at = address } in
      let r = Contains-permutation (numbered 0 p.symbols) objects it all_objects (object_at 0 p.symbols h.place h.place address (let q : h.place ≡ 0 + h.place = omega arith in q) h.has_address) in
      subst (λ (xs : List (List ℕ × ℕ)). Contains xs (name, address)) (sym objects_are)
      (subst (Contains (map object_entry objects)) (pair_of (name_or n.objects h.place) name address (name_is n.objects h.place name h.has_name)) (map_contains object_entry objects r.0 it r.1 r.2))

  from_object : (name : List ℕ) (address : ℕ) → Contains (objects_from d.base (word_bytes d) [] (data_part all)) (name, address) → HasObject p name address
  from_object name address c =
      let has_entry = subst (λ (xs : List (List ℕ × ℕ)). Contains xs (name, address)) objects_are c in
      let r = from_contains object_entry objects has_entry.0 (name, address) has_entry.1 has_entry.2 in
      let at = Contains-permutation objects (numbered 0 p.symbols) r.it (IsPermutation-sym (numbered 0 p.symbols) objects all_objects) r.has in
      let q = place_of 0 p.symbols at.0 r.it at.1 at.2 in
      record {
        place = q.place;
        has_name =
            some_name n.objects q.place (let s = slice_get_within p.symbols q.place r.it.at q.has in let size = assembled.addresses in omega (arith, s, size))
            ∙ ap Some (ap (name_or n.objects) (let e = q.object_is in let f : q.place ≡ r.it.object = omega (arith, e) in f) ∙ ap (λ (x : List ℕ × ℕ). x.0) r.is);
        has_address = q.has ∙ ap (λ (x : List ℕ × ℕ). Some x.1) r.is;
      }

  program : IsProgramOf d all p
  program = record {
    lines = subst (λ (xs : List (List Token)). AllZip (IsLineIn d n) xs p.lines) (sym all_instructions) (zip_lines p.lines facts);
    labels = λ l at. (to_label l at, from_label l at);
    addresses = assembled.addresses;
    objects = λ name address. (to_object name address, from_object name address);
    bytes = bytes_are;
  }

  pub is_text : IsText d (text_of all) p
  is_text = record { saids = all; said = said; sound = sound; program = program }

pub lines_text : (d : RawDescription) (p : Assembled) (bytes : List ℕ) → IsReadable d → HasLiterals d → IsAssembled p → HaveNames p.names → IsProgramFor d p → IsLaidOut d p bytes
    → IsText d bytes p
lines_text d p bytes readable literals assembled names fit laid =
    let a = laid.are_lines in
    subst (λ (xs : List ℕ). IsText d xs p) (sym (laid.text_is ∙ ap text_of a.are))
    (is_text d p readable literals names assembled fit a.labels a.objects a.all_labels a.all_objects a.label_order a.object_order)
