-- The program of a text can be printed.
use Rattle.std.proofs.Common.{◌≡◌, ◌≢◌, ◌⊎◌, inl, inr, ℕ, zero, suc, ◌+◌, ◌-◌, ◌*◌, ◌/◌, ◌^◌, ◌<◌, ◌≤◌, ◌==◌, Bool, true, false, cond, ◌||◌, MatchBool, ℤ, pos, negsuc, List, [], ◌∷◌, ◌++◌, length, map, replicate, filter_map, get_or, Some, None, slice_get, unwrap_or, All, AllPairs, Contains, refl, sym, ap, subst, ◌∙◌, arith, length-append}
use Rattle.std.specs.Prelude.{codes}
use Rattle.std.specs.List.{AllZip, cons_option, list_any}
use Rattle.std.specs.Str.{bytes_eq}
use Rattle.std.proofs.Math.Nat.{mul_comm}
use Rattle.std.proofs.lemmas.Bool.{ltb-true}
use Rattle.std.proofs.lemmas.List.Elements.{All-head, All-tail, All-cons, All-nil, Contains-get_or}
use Rattle.std.proofs.lemmas.Option.{slice_get-get_or, slice_get_within, get_or_from_slice_get}
use Rattle.std.proofs.lemmas.Slice.Eq.{bytes_eq-Decides}
use Rattle.asm_token.specs.Tokens.{Token, Name, Number, Mark}
use Rattle.rtl_tree.specs.Names.{AreNames as AreCNames}
use Rattle.rtl_tree.specs.declared.cells.Lab.{Lab}
use Rattle.rtl_tree.specs.declared.cells.Lab.TheVariants as lab
use Rattle.rtl_tree.specs.declared.c_names.Names.{Names}
use Rattle.rtl_value.specs.declared.state.LabelAt.{LabelAt}
use Rattle.md_rows.specs.declared.description.RawDescription.{RawDescription}
use Rattle.md_rows.specs.declared.instance.Bound.TheVariants.{Label as LabelBound}
use Rattle.md_rows.specs.declared.instance.Instance.{Instance}
use Rattle.asm_row.specs.Line.{HasNumber, IsNamed}
use Rattle.asm_row.specs.Readable.{IsReadable}
use Rattle.asm_row.proofs.HoleValues.{one_place}
use Rattle.asm_data.proofs.Reach.{reaches as reach_bytes}
use Rattle.asm_program.specs.declared.places.Part.{Part}
use Rattle.asm_program.specs.declared.places.Part.TheVariants.{Outside, InText, InData}
use Rattle.asm_program.specs.TextLines.{Label, Block, Symbol, IsLabel, Said, Nothing, TextBegins, DataBegins, Labelled, Word, Byte, Space, Others, SayTokens, SaysLabel, Says, too_long, skipped, no_tokens, tokens, lines_of}
use Rattle.asm_program.specs.Places.{Position, start, after, part_after, count_after, aligned, magnitude, symbols_on, with_name, with_names}
use Rattle.asm_program.specs.Rules.{IsWithin, Walks, is_in_place, is_between, name_limit, word_bytes}
use Rattle.asm_program.specs.Programs.{Assembled, IsLineIn, IsText, IsAssembled, HasFunction, instruction_of, instructions, text_labels, data_part, low_bytes, residue, padded, bytes_after, bytes_from, object_of, objects_from}
use Rattle.asm_program.specs.Law.{HaveNames}
use Rattle.asm_print.specs.Printable.{IsOf, IsAddress, function_in, labelled, IsProgramFor}
use Rattle.asm_print.proofs.Weaving.{AreInPlace, Each, each_append, counts, reaches}
use Rattle.asm_print.proofs.Names.{some_name, length_map, all_contains, Has, NoneTwice, has_left, has_right, no_more, names_after}
use Rattle.asm_print.proofs.Walking.{ahead, ahead_count, ahead_reach, ahead_names}

clash : false ≡ true → ⊥
clash e = cc

-- instructions

module _ (d : RawDescription) (n : Names) where
  instances : (tss : List (List Token)) (is : List Instance) → AllZip (IsLineIn d n) tss is → All (IsOf d) is
  instances [] [] z = All-nil (IsOf d)
  instances [] (i ∷ is) z = absurd z
  instances (ts ∷ tss) [] z = absurd z
  instances (ts ∷ tss) (i ∷ is) z = All-cons (IsOf d) i is (record { row = z.0.line.row; is_instance = z.0.line.is_instance; numbers = z.0.numbers }) (instances tss is z.1)

  same_length : (tss : List (List Token)) (is : List Instance) → AllZip (IsLineIn d n) tss is → length tss ≡ length is
  same_length [] [] z = refl
  same_length [] (i ∷ is) z = absurd z
  same_length (ts ∷ tss) [] z = absurd z
  same_length (ts ∷ tss) (i ∷ is) z = ap suc (same_length tss is z.1)

-- where the lines lead

module _ (d : RawDescription) (all : List Said) where
  leads : (p : Position) (ss : List Said) (q : Position) → Walks d all p ss q → ahead (word_bytes d) p ss ≡ q
  leads p [] q w = w
  leads p (s ∷ ss) q w = leads (after (word_bytes d) p s) ss q w.1

  places : (p : Position) (ss : List Said) (q : Position) → Walks d all p ss q → AreInPlace d.word p.part ss
  places p [] q w = tt
  places p (s ∷ ss) q w = (w.0.in_place, places (after (word_bytes d) p s) ss q w.1)

  within_end : (p : Position) (ss : List Said) (q : Position) → IsWithin d p → Walks d all p ss q → IsWithin d q
  within_end p [] q h w = subst (IsWithin d) w h
  within_end p (s ∷ ss) q h w = within_end (after (word_bytes d) p s) ss q w.0.within w.1

  -- a text has a first line
  last_within : (ss : List Said) (q : Position) → Walks d all start ss q → q.part ≢ Outside → IsWithin d q
  last_within [] q w n = absurd (n (ap (λ (x : Position). x.part) (sym w)))
  last_within (s ∷ ss) q w n = within_end (after (word_bytes d) start s) ss q w.0.within w.1

instruction_count : (w : ℕ) (part : Part) (n : ℕ) (ss : List Said) → AreInPlace w part ss → counts part n ss ≡ n + length (filter_map instruction_of ss)
instruction_count w part n [] a = let e : n ≡ n + 0 = omega arith in e
instruction_count w Outside n (Others ts ∷ ss) a = absurd (clash a.0)
instruction_count w InData n (Others ts ∷ ss) a = absurd (clash a.0)
instruction_count w InText n (Others ts ∷ ss) a = let e = instruction_count w InText (n + 1) ss a.1 in omega (arith, e)
instruction_count w part n (s ∷ ss) a = ap (λ (m : ℕ). counts (part_after part s) m ss) (not_counted part s refl) ∙ instruction_count w (part_after part s) n ss a.1
  where
    not_counted : (q : Part) (t : Said) → instruction_of t ≡ None → count_after q n t ≡ n
    not_counted Outside t e = refl
    not_counted InData t e = refl
    not_counted InText (Others ts) e = absurd (cc)
    not_counted InText _ e = refl

-- how far the data reach

module _ (wb : ℕ) (some : 0 < wb) where
  data_reach : (bytes : List ℕ) (ss : List Said) → reaches wb InData (length bytes) ss ≡ length (bytes_from wb bytes ss)
  data_reach bytes [] = refl
  data_reach bytes (s ∷ ss) = ap (λ (k : ℕ). reaches wb InData k ss) (sym (reach_bytes wb bytes s some)) ∙ data_reach (bytes_after wb bytes s) ss

  text_reach : (w : ℕ) (ss : List Said) → AreInPlace w InText ss → reaches wb InText 0 ss ≡ length (bytes_from wb [] (data_part ss))
  text_reach w [] a = refl
  text_reach w (DataBegins ∷ ss) a = data_reach [] ss
  text_reach w (s ∷ ss) a = text_reach w ss a.1

  whole_reach : (w : ℕ) (ss : List Said) → AreInPlace w Outside ss → reaches wb Outside 0 ss ≡ length (bytes_from wb [] (data_part ss))
  whole_reach w [] a = refl
  whole_reach w (TextBegins ∷ ss) a = text_reach w ss a.1
  whole_reach w (DataBegins ∷ ss) a = absurd (clash a.0)
  whole_reach w (s ∷ ss) a = whole_reach w ss a.1

  -- bytes are below 256

  abbrev Small : ℕ → Type 0
  Small b = b < 256

  zeros : (n : ℕ) → Each Small (replicate n 0)
  zeros zero = tt
  zeros (suc n) = (omega arith, zeros n)

  low : (k n : ℕ) → Each Small (low_bytes k n)
  low zero n = tt
  low (suc k) n = (omega arith, low k (n / 256))

  one_byte : (z : ℤ) → is_between 128 256 z ≡ true → residue 256 z < 256
  one_byte (pos n) e = ltb-true n 256 e
  one_byte (negsuc n) e = omega arith

  after_small : (w : ℕ) (bytes : List ℕ) (s : Said) → is_in_place w InData s ≡ true → Each Small bytes → Each Small (bytes_after wb bytes s)
  after_small w bytes (Labelled l) e h = each_append Small bytes (replicate (aligned wb (length bytes) - length bytes) 0) h (zeros (aligned wb (length bytes) - length bytes))
  after_small w bytes (Word z) e h =
      each_append Small (padded wb bytes) (low_bytes wb (residue (256 ^ wb) z))
      (each_append Small bytes (replicate (aligned wb (length bytes) - length bytes) 0) h (zeros (aligned wb (length bytes) - length bytes))) (low wb (residue (256 ^ wb) z))
  after_small w bytes (Byte z) e h = each_append Small bytes (residue 256 z ∷ []) h (one_byte z e, tt)
  after_small w bytes (Space z) e h = each_append Small bytes (replicate (magnitude z) 0) h (zeros (magnitude z))
  after_small w bytes _ e h = h

  data_small : (w : ℕ) (bytes : List ℕ) (ss : List Said) → AreInPlace w InData ss → Each Small bytes → Each Small (bytes_from wb bytes ss)
  data_small w bytes [] a h = h
  data_small w bytes (s ∷ ss) a h = data_small w (bytes_after wb bytes s) ss a.1 (after_small w bytes s a.0 h)

  text_small : (w : ℕ) (ss : List Said) → AreInPlace w InText ss → Each Small (bytes_from wb [] (data_part ss))
  text_small w [] a = tt
  text_small w (DataBegins ∷ ss) a = data_small w [] ss a.1 tt
  text_small w (s ∷ ss) a = text_small w ss a.1

  whole_small : (w : ℕ) (ss : List Said) → AreInPlace w Outside ss → Each Small (bytes_from wb [] (data_part ss))
  whole_small w [] a = tt
  whole_small w (TextBegins ∷ ss) a = text_small w ss a.1
  whole_small w (DataBegins ∷ ss) a = absurd (clash a.0)
  whole_small w (s ∷ ss) a = whole_small w ss a.1

  -- objects stand at whole numbers of words, within the bytes

  grows : (bytes : List ℕ) (s : Said) → length bytes ≤ length (bytes_after wb bytes s)
  grows bytes (Labelled l) = omega (arith, length-append bytes (replicate (aligned wb (length bytes) - length bytes) 0))
  grows bytes (Word z) =
      omega (arith, length-append (padded wb bytes) (low_bytes wb (residue (256 ^ wb) z)), length-append bytes (replicate (aligned wb (length bytes) - length bytes) 0))
  grows bytes (Byte z) = omega (arith, length-append bytes (residue 256 z ∷ []))
  grows bytes (Space z) = omega (arith, length-append bytes (replicate (magnitude z) 0))
  grows bytes _ = omega arith

  all_grow : (bytes : List ℕ) (ss : List Said) → length bytes ≤ length (bytes_from wb bytes ss)
  all_grow bytes [] = omega arith
  all_grow bytes (s ∷ ss) = let a = grows bytes s in let b = all_grow (bytes_after wb bytes s) ss in omega (arith, a, b)

  module _ (base : ℕ) where
    record Stands (most address : ℕ) : Type 0 where
      count : ℕ
      multiple : address ≡ base + wb * count
      within : address ≤ base + most

    object_stands : (most : ℕ) (bytes : List ℕ) (s : Said) → length (bytes_after wb bytes s) ≤ most → Each (λ o. Stands most o.1) (object_of (base + length (bytes_after wb bytes s)) s)
    object_stands most bytes (Labelled (Symbol x)) h = (
      record {
        count = (length bytes + (wb - 1)) / wb;
        multiple = ap (λ (k : ℕ). base + k) (reach_bytes wb bytes (Labelled (Symbol x)) some);
        within = omega (arith, h);
      },
      tt,
    )
    object_stands most bytes (Labelled (Block b)) h = tt
    object_stands most bytes Nothing h = tt
    object_stands most bytes _ h = tt

    objects_stand : (bytes : List ℕ) (ss : List Said) → Each (λ o. Stands (length (bytes_from wb bytes ss)) o.1) (objects_from base wb bytes ss)
    objects_stand bytes [] = tt
    objects_stand bytes (s ∷ ss) =
        each_append (λ o. Stands (length (bytes_from wb bytes (s ∷ ss))) o.1) (object_of (base + length (bytes_after wb bytes s)) s) (objects_from base wb (bytes_after wb bytes s) ss)
        (object_stands (length (bytes_from wb bytes (s ∷ ss))) bytes s (all_grow (bytes_after wb bytes s) ss)) (objects_stand (bytes_after wb bytes s) ss)

each_contains : {A : Type 0} (P : A → Type 0) (xs : List A) (k : ℕ) (x : A) → Each P xs → k < length xs → get_or xs k x ≡ x → P x
each_contains P [] k x h i e = absurd (omega (arith, i))
each_contains P (y ∷ xs) zero x h i e = subst P e h.0
each_contains P (y ∷ xs) (suc k) x h i e = each_contains P xs k x h.1 (let q : suc k < suc (length xs) = i in omega arith) e

all_of : {A : Type 0} (P : A → Type 0) (xs : List A) → Each P xs → All P xs
all_of P [] h = All-nil P
all_of P (x ∷ xs) h = All-cons P x xs h.0 (all_of P xs h.1)

-- labels of blocks have numbers below 2 ^ 32

abbrev IsSmallBlock : Label → Type 0
IsSmallBlock (Block b) = b < 2 ^ 32
IsSmallBlock (Symbol s) = Unit {0}

small_label : (name : List ℕ) (l : Label) → IsLabel name l → IsSmallBlock l
small_label name (Block b) h = h.0
small_label name (Symbol s) h = tt

no_label : (l : Label) (a b c : Said) (x y : Bool) → (Labelled l ≡ a → ⊥) → (Labelled l ≡ b → ⊥) → (Labelled l ≡ c → ⊥) → Labelled l ≡ cond x a (cond y b c) → ⊥
no_label l a b c true y f g h e = f e
no_label l a b c false true f g h e = g e
no_label l a b c false false f g h e = h e

by_colon : (x : Bool) (name : List ℕ) (ts : List Token) (l : Label) → MatchBool x (SaysLabel name (Labelled l)) (Labelled l ≡ Others ts) → IsSmallBlock l
by_colon true name ts l h = small_label name l h
by_colon false name ts l h = absurd (cc)

tokens_small : (ts : List Token) (l : Label) → SayTokens ts (Labelled l) → IsSmallBlock l
tokens_small (Name name ∷ []) l h =
    absurd (no_label l TextBegins DataBegins (Others (Name name ∷ [])) (bytes_eq name (codes ".text")) (bytes_eq name (codes ".data")) (λ e. cc) (λ e. cc) (λ e. cc) h)
tokens_small (Name name ∷ (Number z ∷ [])) l h =
    absurd (no_label l (Word z) (Byte z) (cond (bytes_eq name (codes ".space")) (Space z) (Others (Name name ∷ (Number z ∷ [])))) (bytes_eq name (codes ".word")) (bytes_eq name (codes ".byte"))
    (λ e. cc) (λ e. cc) (λ e. last (bytes_eq name (codes ".space")) e) h)
  where
    last : (x : Bool) → Labelled l ≡ cond x (Space z) (Others (Name name ∷ (Number z ∷ []))) → ⊥
    last true e = cc
    last false e = cc
tokens_small (Name name ∷ (Mark c ∷ [])) l h = by_colon (c == 58) name (Name name ∷ (Mark c ∷ [])) l h
tokens_small (Name name ∷ (Name m ∷ ts)) l h = absurd (cc)
tokens_small (Name name ∷ (Number z ∷ (u ∷ us))) l h = absurd (cc)
tokens_small (Name name ∷ (Mark c ∷ (u ∷ us))) l h = absurd (cc)
tokens_small [] l h = absurd (cc)
tokens_small (Number z ∷ ts) l h = absurd (cc)
tokens_small (Mark c ∷ ts) l h = absurd (cc)

says_small : (line : List ℕ) (s : Said) → Says line s → (l : Label) → s ≡ Labelled l → IsSmallBlock l
says_small line s (too_long h) l e = absurd (cc)
says_small line s (skipped h k) l e = absurd (cc)
says_small line s (no_tokens h k n) l e = absurd (cc)
says_small line s (tokens ts t h k a q) l e = tokens_small ts l (subst (SayTokens ts) e q)

small_stops : (lines : List (List ℕ)) (ss : List Said) → AllZip Says lines ss → (k : ℕ) → Each (λ e. IsSmallBlock e.0) (text_labels k ss)
small_stops [] [] z k = tt
small_stops [] (s ∷ ss) z k = absurd z
small_stops (line ∷ lines) [] z k = absurd z
small_stops (line ∷ lines) (Labelled l ∷ ss) z k = (says_small line (Labelled l) z.0 l refl, small_stops lines ss z.1 k)
small_stops (line ∷ lines) (Others ts ∷ ss) z k = small_stops lines ss z.1 (suc k)
small_stops (line ∷ lines) (DataBegins ∷ ss) z k = tt
small_stops (line ∷ lines) (s ∷ ss) z k = small_stops lines ss z.1 k

-- the names of all labels

-- a line with this label
abbrev HasLabelLine : List Said → List ℕ → Type 0
HasLabelLine [] x = ⊥
HasLabelLine (s ∷ ss) x = (s ≡ Labelled (Symbol x)) ⊎ HasLabelLine ss x

has_of_any : (names : List (List ℕ)) (x : List ℕ) → list_any (bytes_eq x) names ≡ true → Has names x
has_of_any [] x e = absurd (clash e)
has_of_any (y ∷ ys) x e = pick (bytes_eq x y) refl e (λ f. has_of_any ys x f)
  where
    pick : (b : Bool) → bytes_eq x y ≡ b → (b || list_any (bytes_eq x) ys) ≡ true → (list_any (bytes_eq x) ys ≡ true → Has ys x) → Has (y ∷ ys) x
    pick true q e f = inl (sym ((bytes_eq-Decides x y).0 q))
    pick false q e f = inr (f e)

kept_name : (names : List (List ℕ)) (y x : List ℕ) → Has names x → Has (with_name names y) x
kept_name names y x h = by (list_any (bytes_eq y) names)
  where
    by : (b : Bool) → Has (cond b names (names ++ y ∷ [])) x
    by true = h
    by false = has_left names (y ∷ []) x h

kept_names : (names ys : List (List ℕ)) (x : List ℕ) → Has names x → Has (with_names names ys) x
kept_names names [] x h = h
kept_names names (y ∷ ys) x h = kept_names (with_name names y) ys x (kept_name names y x h)

put_name : (names : List (List ℕ)) (x : List ℕ) → Has (with_name names x) x
put_name names x = by (list_any (bytes_eq x) names) refl
  where
    by : (b : Bool) → list_any (bytes_eq x) names ≡ b → Has (cond b names (names ++ x ∷ [])) x
    by true e = has_of_any names x e
    by false e = has_right names (x ∷ []) x (inl refl)

symbols_kept : (all : List (List ℕ)) (names : List (List ℕ)) (ss : List Said) (x : List ℕ) → Has names x → Has (names_after all names ss) x
symbols_kept all names [] x h = h
symbols_kept all names (s ∷ ss) x h = symbols_kept all (with_names names (symbols_on s)) ss x (kept_names names (symbols_on s) x h)

symbols_found : (all : List (List ℕ)) (names : List (List ℕ)) (ss : List Said) (x : List ℕ) → HasLabelLine ss x → Has (names_after all names ss) x
symbols_found all names [] x h = absurd h
symbols_found all names (s ∷ ss) x (inl e) =
    symbols_kept all (with_names names (symbols_on s)) ss x (subst (λ (t : Said). Has (with_names names (symbols_on t)) x) (sym e) (put_name names x))
symbols_found all names (s ∷ ss) x (inr h) = symbols_found all (with_names names (symbols_on s)) ss x h

text_line : (k : ℕ) (ss : List Said) (x : List ℕ) (at : ℕ) (j : ℕ) → j < length (text_labels k ss) → get_or (text_labels k ss) j (Symbol x, at) ≡ (Symbol x, at) → HasLabelLine ss x
text_line k [] x at j h e = absurd (omega (arith, h))
text_line k (Labelled l ∷ ss) x at zero h e = inl (ap (λ (y : Label × ℕ). Labelled y.0) e)
text_line k (Labelled l ∷ ss) x at (suc j) h e = inr (text_line k ss x at j (let q : suc j < suc (length (text_labels k ss)) = h in omega arith) e)
text_line k (Others ts ∷ ss) x at j h e = inr (text_line (suc k) ss x at j h e)
text_line k (DataBegins ∷ ss) x at j h e = absurd (omega (arith, h))
text_line k (s ∷ ss) x at j h e = inr (text_line k ss x at j h e)

data_line : (base wb : ℕ) (bytes : List ℕ) (ss : List Said) (x : List ℕ) (a : ℕ) (j : ℕ) → j < length (objects_from base wb bytes ss) → get_or (objects_from base wb bytes ss) j (x, a) ≡ (x, a)
    → HasLabelLine ss x
data_line base wb bytes [] x a j h e = absurd (omega (arith, h))
data_line base wb bytes (Labelled (Symbol y) ∷ ss) x a zero h e = inl (ap (λ (z : List ℕ × ℕ). Labelled (Symbol z.0)) e)
data_line base wb bytes (Labelled (Symbol y) ∷ ss) x a (suc j) h e =
    inr (data_line base wb (bytes_after wb bytes (Labelled (Symbol y))) ss x a j
    (let q : suc j < suc (length (objects_from base wb (bytes_after wb bytes (Labelled (Symbol y))) ss)) = h in omega arith) e)
data_line base wb bytes (Labelled (Block b) ∷ ss) x a j h e = inr (data_line base wb (bytes_after wb bytes (Labelled (Block b))) ss x a j h e)
data_line base wb bytes (s ∷ ss) x a j h e = inr (data_line base wb (bytes_after wb bytes s) ss x a j h e)

part_line : (ss : List Said) (x : List ℕ) → HasLabelLine (data_part ss) x → HasLabelLine ss x
part_line [] x h = absurd h
part_line (DataBegins ∷ ss) x h = inr h
part_line (s ∷ ss) x h = inr (part_line ss x h)

-- different names

none_of : (xs ys : List (List ℕ)) → NoneTwice xs → NoneTwice ys → ((x : List ℕ) → Has xs x → Has ys x → ⊥) → NoneTwice (xs ++ ys)
none_of [] ys h k f = k
none_of (x ∷ xs) ys h k f = ((λ q. split xs q (h.0) (f x (inl refl))), none_of xs ys h.1 k (λ z q r. f z (inr q) r))
  where
    split : (zs : List (List ℕ)) → Has (zs ++ ys) x → (Has zs x → ⊥) → (Has ys x → ⊥) → ⊥
    split [] q g e = e q
    split (z ∷ zs) (inl q) g e = g (inl q)
    split (z ∷ zs) (inr q) g e = split zs q (λ r. g (inr r)) e

none_by : (xs : List (List ℕ)) → AllPairs (λ a b. a ≢ b) xs → NoneTwice xs
none_by [] h = tt
none_by (x ∷ xs) h = (apart xs (λ k e within. h 0 (suc k) e (omega arith) (omega (arith, within))), none_by xs (λ i j e less within. h (suc i) (suc j) e (omega (arith, less)) (omega (arith, within))))
  where
    apart : (ys : List (List ℕ)) → All (λ y. x ≢ y) ys → Has ys x → ⊥
    apart [] a q = q
    apart (y ∷ ys) a (inl q) = All-head (λ z. x ≢ z) y ys a (sym q)
    apart (y ∷ ys) a (inr q) = apart ys (All-tail (λ z. x ≢ z) y ys a) q

has_place : (xs : List (List ℕ)) (x : List ℕ) → Has xs x → (k : ℕ) × (k < length xs) × (slice_get xs k ≡ Some x)
has_place [] x h = absurd h
has_place (y ∷ xs) x (inl e) = (0, let q : 0 < suc (length xs) = omega arith in q, ap Some e)
has_place (y ∷ xs) x (inr h) = let r = has_place xs x h in (suc r.0, let i = r.1 in let q : suc r.0 < suc (length xs) = omega (arith, i) in q, r.2)

-- functions that have a label

module _ (n : Names) (functions : AreCNames n.functions) where
  abbrev name_of : ℕ → List ℕ
  name_of f = unwrap_or (slice_get n.functions f) []

  record Labelling (ls : List LabelAt) (x : List ℕ) : Type 0 where
    function : ℕ
    at : ℕ
    is : name_of function ≡ x
    has : Contains ls (record { label = lab.Function function; at = at })

  further : (l : LabelAt) (ls : List LabelAt) (x : List ℕ) → Labelling ls x → Labelling (l ∷ ls) x
  further l ls x h =
      record {
        function = h.function;
        at = h.at;
        is = h.is;
        has = (suc h.has.0, let i = h.has.1 in let q : suc h.has.0 < suc (length ls) = omega (arith, i) in q, h.has.2);
      }

  labelling : (ls : List LabelAt) (x : List ℕ) → Has (map name_of (labelled ls)) x → Labelling ls x
  labelling [] x h = absurd h
  labelling (l ∷ ls) x h = pick l.label l.at refl h (λ q. labelling ls x q)
    where
      pick : (b : Lab) (at : ℕ) → ◌≡◌ {A = LabelAt} l (record { label = b; at = at }) → Has (map name_of (cons_option (function_in b) (labelled ls))) x → (Has (map name_of (labelled ls)) x → Labelling ls x)
          → Labelling (l ∷ ls) x
      pick (lab.Block m) at e q f = further l ls x (f q)
      pick (lab.Function g) at e (inl q) f = record { function = g; at = at; is = q; has = (0, let i : 0 < suc (length ls) = omega arith in i, e) }
      pick (lab.Function g) at e (inr q) f = further l ls x (f q)

  abbrev Named : LabelAt → Type 0
  Named l = HasFunction n l

  one_function : (f g : ℕ) → f < length n.functions → g < length n.functions → name_of f ≡ name_of g → f ≡ g
  one_function f g h k e = one_place n.functions f g (name_of f) functions (some_name n.functions f h) (some_name n.functions g k ∙ ap Some (sym e))

  no_other : (f : ℕ) (ls : List LabelAt) → f < length n.functions → All Named ls → All (λ b. lab.Function f ≢ b.label) ls → Has (map name_of (labelled ls)) (name_of f) → ⊥
  no_other f [] i a h q = q
  no_other f (l ∷ ls) i a h q =
      pick l.label (All-head Named l ls a) (All-head (λ b. lab.Function f ≢ b.label) l ls h) q
      (λ r. no_other f ls i (All-tail Named l ls a) (All-tail (λ b. lab.Function f ≢ b.label) l ls h) r)
    where
      pick : (b : Lab) → IsNamed n (LabelBound b) → lab.Function f ≢ b → Has (map name_of (cons_option (function_in b) (labelled ls))) (name_of f)
          → (Has (map name_of (labelled ls)) (name_of f) → ⊥) → ⊥
      pick (lab.Block m) k e q r = r q
      pick (lab.Function g) k e (inl q) r = e (ap lab.Function (one_function f g i k (sym q)))
      pick (lab.Function g) k e (inr q) r = r q

  functions_differ : (ls : List LabelAt) → All Named ls → AllPairs (λ a b. a.label ≢ b.label) ls → NoneTwice (map name_of (labelled ls))
  functions_differ [] a h = tt
  functions_differ (l ∷ ls) a h =
      pick l.label (All-head Named l ls a) (λ k e within. h 0 (suc k) e (omega arith) (omega (arith, within)))
      (functions_differ ls (All-tail Named l ls a) (λ i j e less within. h (suc i) (suc j) e (omega (arith, less)) (omega (arith, within))))
    where
      pick : (b : Lab) → IsNamed n (LabelBound b) → All (λ c. b ≢ c.label) ls → NoneTwice (map name_of (labelled ls)) → NoneTwice (map name_of (cons_option (function_in b) (labelled ls)))
      pick (lab.Block m) k q r = r
      pick (lab.Function f) k q r = (no_other f ls k (All-tail Named l ls a) q, r)

module _ (d : RawDescription) (text : List ℕ) (p : Assembled) (readable : IsReadable d) (assembled : IsAssembled p) (names : HaveNames p.names) (t : IsText d text p) where
  bytes_of_word : (word_bytes d ≡ 2) ⊎ (word_bytes d ≡ 4)
  bytes_of_word = elim readable.size [ inl e ↦ inl (ap (λ (w : ℕ). w / 8) e) | inr e ↦ inr (ap (λ (w : ℕ). w / 8) e) ]

  some_bytes : 0 < word_bytes d
  some_bytes = elim bytes_of_word [ inl e ↦ omega (arith, e) | inr e ↦ omega (arith, e) ]

  abbrev saids : List Said
  saids = t.saids

  walks_all : Walks d saids start saids t.sound.last
  walks_all = t.sound.walks

  in_place : AreInPlace d.word Outside saids
  in_place = places d saids start saids t.sound.last walks_all

  last_is : ahead (word_bytes d) start saids ≡ t.sound.last
  last_is = leads d saids start saids t.sound.last walks_all

  limits : IsWithin d t.sound.last
  limits = last_within d saids saids t.sound.last walks_all t.sound.begun

  count_is : t.sound.last.count ≡ length p.lines
  count_is =
      ap (λ (q : Position). q.count) (sym last_is) ∙ ahead_count (word_bytes d) start saids ∙ instruction_count d.word Outside 0 saids in_place
      ∙ (let e = same_length d p.names (instructions saids) p.lines t.program.lines in let q : 0 + length (instructions saids) ≡ length p.lines = omega (arith, e) in q)

  reach_is : t.sound.last.reach ≡ length p.bytes
  reach_is =
      ap (λ (q : Position). q.reach) (sym last_is) ∙ ahead_reach (word_bytes d) start saids ∙ whole_reach (word_bytes d) some_bytes d.word saids in_place ∙ ap length (sym t.program.bytes)

  stands_at : (k : ℕ) (a : ℕ) → slice_get p.symbols k ≡ Some a → IsAddress d p a
  stands_at k a e =
      let size = t.program.addresses in
      let inside : k < length p.names.objects = let q = slice_get_within p.symbols k a e in omega (arith, q, size) in
      let name = unwrap_or (slice_get p.names.objects k) [] in
      let c = (t.program.objects name a).0 (record { place = k; has_name = some_name p.names.objects k inside; has_address = e }) in
      let s = each_contains (λ o. Stands (word_bytes d) some_bytes d.base (length (bytes_from (word_bytes d) [] (data_part saids))) o.1) (objects_from d.base (word_bytes d) [] (data_part saids)) c.0 (name, a)
      (objects_stand (word_bytes d) some_bytes d.base [] (data_part saids)) c.1 c.2 in
      let same = ap length t.program.bytes in
      let end = s.within in
      record { count = s.count; multiple = s.multiple ∙ ap (λ (m : ℕ). d.base + m) (mul_comm (word_bytes d) s.count); within = omega (arith, end, same) }

  object_has : (x : List ℕ) → Has p.names.objects x → Has t.sound.last.names x
  object_has x h =
      let r = has_place p.names.objects x h in
      let size = t.program.addresses in
      let inside : r.0 < length p.symbols = let q = r.1 in omega (arith, q, size) in
      let address = get_or p.symbols r.0 0 in
      let c = (t.program.objects x address).0 (record { place = r.0; has_name = r.2; has_address = slice_get-get_or p.symbols r.0 0 inside }) in
      subst (λ (xs : List (List ℕ)). Has xs x) (sym (ahead_names (word_bytes d) start [] saids) ∙ ap (λ (q : Position). q.names) last_is)
      (symbols_found [] [] saids x (part_line saids x (data_line d.base (word_bytes d) [] (data_part saids) x address c.0 c.1 c.2)))

  function_has : (x : List ℕ) → Has (map (name_of p.names names.functions) (labelled p.labels)) x → Has t.sound.last.names x
  function_has x h =
      let r = labelling p.names names.functions p.labels x h in
      let named : r.function < length p.names.functions = all_contains (HasFunction p.names) p.labels (record { label = lab.Function r.function; at = r.at }) assembled.functions r.has in
      let c = (t.program.labels (Symbol x) r.at).0 (record { label = lab.Function r.function; is_label = some_name p.names.functions r.function named ∙ ap Some r.is; has = r.has }) in
      subst (λ (xs : List (List ℕ)). Has xs x) (sym (ahead_names (word_bytes d) start [] saids) ∙ ap (λ (q : Position). q.names) last_is)
      (symbols_found [] [] saids x (text_line 0 saids x r.at c.0 c.1 c.2))

  abbrev all_names : List (List ℕ)
  all_names = p.names.objects ++ map (name_of p.names names.functions) (labelled p.labels)

  contains_has : (xs : List (List ℕ)) (x : List ℕ) → Has xs x → Contains xs x
  contains_has xs x h = let r = has_place xs x h in (r.0, r.1, get_or_from_slice_get xs r.0 x x r.2)

  different : NoneTwice all_names
  different =
      none_of p.names.objects (map (name_of p.names names.functions) (labelled p.labels)) (none_by p.names.objects names.objects.different)
      (functions_differ p.names names.functions p.labels assembled.functions assembled.different)
      (λ x h k.
      let r = labelling p.names names.functions p.labels x k in
      let named : r.function < length p.names.functions = all_contains (HasFunction p.names) p.labels (record { label = lab.Function r.function; at = r.at }) assembled.functions r.has in
      assembled.apart x (contains_has p.names.objects x h)
      (r.function, named, get_or_from_slice_get p.names.functions r.function x x (some_name p.names.functions r.function named ∙ ap Some r.is)))

  found_in : (xs : List (List ℕ)) (x : List ℕ) → Has (p.names.objects ++ xs) x → (Has xs x → Has t.sound.last.names x) → Has t.sound.last.names x
  found_in xs x h f = go p.names.objects h (λ q. object_has x q)
    where
      go : (os : List (List ℕ)) → Has (os ++ xs) x → (Has os x → Has t.sound.last.names x) → Has t.sound.last.names x
      go [] q g = f q
      go (o ∷ os) (inl q) g = g (inl q)
      go (o ∷ os) (inr q) g = go os q (λ r. g (inr r))

  few_names : length p.names.objects + length (labelled p.labels) ≤ name_limit
  few_names =
      let most = no_more all_names t.sound.last.names different (λ x h. found_in (map (name_of p.names names.functions) (labelled p.labels)) x h (function_has x)) in
      let limit = limits.names in
      omega (arith, most, limit, length-append p.names.objects (map (name_of p.names names.functions) (labelled p.labels)), length_map (name_of p.names names.functions) (labelled p.labels))

  block_small : (b : Lab) (at : ℕ) → Contains p.labels (record { label = b; at = at }) → HasNumber (LabelBound b)
  block_small (lab.Function f) at c = tt
  block_small (lab.Block m) at c =
      let e = (t.program.labels (Block m) at).0 (record { label = lab.Block m; is_label = refl; has = c }) in
      each_contains (λ e. IsSmallBlock e.0) (text_labels 0 saids) e.0 (Block m, at) (small_stops (lines_of text) saids t.said 0) e.1 e.2

  pub printable : IsProgramFor d p
  printable = record {
    lines = instances d p.names (instructions saids) p.lines t.program.lines;
    addresses = λ k e within. stands_at k (get_or p.symbols k e) (slice_get-get_or p.symbols k e within);
    instructions = (let i = limits.instructions in let e = count_is in omega (arith, i, e));
    statics = (let i = limits.statics in let e = reach_is in omega (arith, i, e));
    names = few_names;
    blocks = λ k e within. block_small (get_or p.labels k e).label (get_or p.labels k e).at (Contains-get_or p.labels k e within);
    bytes = subst (All (λ b. b < 256)) (sym t.program.bytes) (all_of (λ b. b < 256) (bytes_from (word_bytes d) [] (data_part saids)) (whole_small (word_bytes d) some_bytes d.word saids in_place));
  }
