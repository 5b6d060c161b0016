-- No longer front of a text spells a token than the one that is found.
use Rattle.std.proofs.Common.{◌≡◌, ℕ, ℤ, zero, suc, ◌+◌, ◌-◌, ◌<◌, ◌≤◌, ◌⊎◌, inl, inr, Bool, true, false, cond, ◌&&◌, ◌||◌, not, List, [], ◌∷◌, ◌++◌, Option, Some, None, Ok, Err, length, take, drop, get_or, refl, sym, ap, ◌∙◌, subst, arith, add-one, append_assoc, append-nil}
use Rattle.std.specs.Prelude.{if◌then◌else◌, ◌==◌, nat_lt, nat_le, slice_index, min, codes}
use Rattle.std.specs.List.{list_all, list_any, prefix_len}
use Rattle.std.specs.Str.{bytes_eq}
use Rattle.std.specs.Option.{option_map}
use Rattle.std.proofs.lemmas.Bool.{cases_lt, and_parts, eqb-true, ltb-true, ltb-false, leb-true}
use Rattle.std.proofs.lemmas.Bool.Decides.{nat_tests}
use Rattle.std.proofs.lemmas.List.Sums.{prefix_len-le-length}
use Rattle.std.proofs.lemmas.Slice.Eq.{bytes_eq-Decides}
use Rattle.std.proofs.lemmas.List.{length-take, length-take-le, length-append, take-append-drop, take_all, take_at}
use Rattle.c_tree.specs.declared.token.TokenKind.{TokenKind}
use Rattle.c_tree.specs.declared.token.TokenKind.TheVariants as kind
use Rattle.c_lexer.specs.declared.rule.Rule.{Rule}
use Rattle.c_lexer.specs.declared.rule.Rule.TheVariants.{Unknown, Misspelt, OpenComment, LongName}
use Rattle.c_lexer.specs.declared.bytes.ByteClass.{ByteClass}
use Rattle.c_lexer.specs.declared.bytes.ByteClass.TheVariants.{Blank, LineBlank, Digit, Octal, NameByte, NumberByte, Hexadecimal}
use Rattle.c_lexer.specs.Bytes.{is_in, is_letter, first, within}
use Rattle.c_lexer.specs.Words.{keywords, marks, is_one_of}
use Rattle.c_lexer.specs.Constants.{constant, unsuffixed, digits_only, number_of, is_x, is_u, character_value, signed_char}
use Rattle.c_lexer.specs.Pieces.{Found, gap, token, run, word, numeral, constant_or_not, character, character_or_not, content_len, slash, comment_or_not, close_at, include_or_not, include_len, mark, mark_or, piece_at}
use Rattle.c_lexer.specs.Tokens.{IsWord, IsNumeral, Spells, may_go_on, IsLongest, LongestMatch}

truth : (b : Bool) → (b ≡ true) ⊎ (b ≡ false)
truth true = inl refl
truth false = inr refl

-- which way a test went
chosen : {A : Type 0} (b : Bool) (x y z : A) → cond b x y ≡ z → ((b ≡ true) × (x ≡ z)) ⊎ ((b ≡ false) × (y ≡ z))
chosen true x y z e = inl (refl, e)
chosen false x y z e = inr (refl, e)

-- RUNS

run_on : (p : ℕ → Bool) (b : ℕ) (bytes : List ℕ) → p b ≡ true → run p (b ∷ bytes) ≡ b ∷ run p bytes
run_on p b bytes e =
    let longer : prefix_len p (b ∷ bytes) ≡ suc (prefix_len p bytes) = rw e (omega arith) in
    ap (λ n. take n (b ∷ bytes)) longer

run_off : (p : ℕ → Bool) (b : ℕ) (bytes : List ℕ) → p b ≡ false → run p (b ∷ bytes) ≡ []
run_off p b bytes e =
    let none : prefix_len p (b ∷ bytes) ≡ 0 = rw e refl in
    ap (λ n. take n (b ∷ bytes)) none

all_in_run : (p : ℕ → Bool) (bytes : List ℕ) → list_all p (run p bytes) ≡ true
all_in_run p [] = refl
all_in_run p (b ∷ bytes) = elim (truth (p b)) [
  | inl e ↦ let step : run p (b ∷ bytes) ≡ b ∷ run p bytes = run_on p b bytes e in rw step (rw e (all_in_run p bytes))
  | inr e ↦ let stop : run p (b ∷ bytes) ≡ [] = run_off p b bytes e in rw stop refl
]

-- a front whose bytes all pass is no longer than the run
front_in_run : (p : ℕ → Bool) (front after : List ℕ) → list_all p front ≡ true → length front ≤ prefix_len p (front ++ after)
front_in_run p [] after h = omega arith
front_in_run p (b ∷ front) after h =
    let parts = and_parts (p b) (list_all p front) h in
    let more : length front ≤ prefix_len p (front ++ after) = front_in_run p front after parts.1 in
    rw parts.0 (omega arith)

length-run : (p : ℕ → Bool) (bytes : List ℕ) → length (run p bytes) ≡ prefix_len p bytes
length-run p bytes = length-take-le (prefix_len p bytes) bytes (prefix_len-le-length p bytes)

first-run : (p : ℕ → Bool) (bytes : List ℕ) → p (first bytes) ≡ true → first (run p bytes) ≡ first bytes
first-run p [] h = refl
first-run p (b ∷ bytes) h = let step : run p (b ∷ bytes) ≡ b ∷ run p bytes = run_on p b bytes h in ap first step

take_run : (p : ℕ → Bool) (bytes : List ℕ) → take (length (run p bytes)) bytes ≡ run p bytes
take_run p bytes = ap (λ n. take n bytes) (length-run p bytes)

-- CLASSES OF FIRST BYTES

class_of : ℕ → ℕ
class_of b = if is_letter b then 1 else if within 48 57 b then 2 else if b == 39 then 3 else if b == 35 then 5 else 4

class_of_kind : TokenKind → ℕ
class_of_kind (kind.Name n) = 1
class_of_kind (kind.Keyword n) = 1
class_of_kind (kind.Number v d u) = 2
class_of_kind (kind.Character v) = 3
class_of_kind (kind.Mark m) = 4
class_of_kind kind.Include = 5
class_of_kind kind.End = 6

digit_class : (b : ℕ) → within 48 57 b ≡ true → class_of b ≡ 2
unfolding class_of
digit_class b h =
    let no : is_letter b ≡ false = grind (arith, nat_tests) in
    rw (no, h) refl

is_mark_like : List ℕ → Bool
is_mark_like m = (class_of (first m) == 4) && (nat_lt 0 (length m) && nat_le (length m) 3)

any_all : (q : List ℕ → Bool) (table : List (List ℕ)) (bytes : List ℕ) → list_all q table ≡ true → is_one_of table bytes ≡ true → q bytes ≡ true
any_all q [] bytes h k = absurd (cc)
any_all q (m ∷ table) bytes h k =
    let parts = and_parts (q m) (list_all q table) h in
    elim (truth (bytes_eq m bytes)) [
      | inl e ↦ let same : m ≡ bytes = (bytes_eq-Decides m bytes).0 e in ap q (sym same) ∙ parts.0
      | inr e ↦ any_all q table bytes parts.1 (rw e at k)
    ]

marks_like : list_all is_mark_like marks ≡ true
unfolding marks is_mark_like class_of
marks_like = refl

mark_like : (bytes : List ℕ) → is_one_of marks bytes ≡ true → is_mark_like bytes ≡ true
mark_like bytes h = any_all is_mark_like marks bytes marks_like h

-- what a spelling says of its first byte
record Begins (j : TokenKind) (front : List ℕ) : Type 0 where
  class : class_of (first front) ≡ class_of_kind j
  some : 0 < length front

begins : (j : TokenKind) (front : List ℕ) → Spells j front → Begins j front
unfolding class_of class_of_kind is_mark_like
begins (kind.Name n) [] s = absurd (cc (s.1.begins))
begins (kind.Name n) (b ∷ front) s = record { class = rw s.1.begins refl; some = omega arith }
begins (kind.Keyword n) [] s = absurd (cc (s.1.begins))
begins (kind.Keyword n) (b ∷ front) s = record { class = rw s.1.begins refl; some = omega arith }
begins (kind.Number v d u) [] s = absurd (cc (s.0.begins))
begins (kind.Number v d u) (b ∷ front) s = record { class = digit_class b s.0.begins; some = omega arith }
begins (kind.Character v) front s = rw s.spelled (record { class = refl; some = omega arith })
begins (kind.Mark m) front s =
    let parts = and_parts (class_of (first front) == 4) (nat_lt 0 (length front) && nat_le (length front) 3) (mark_like front s.1) in
    record { class = eqb-true _ _ parts.0; some = ltb-true _ _ (and_parts (nat_lt 0 (length front)) (nat_le (length front) 3) parts.1).0 }
begins kind.Include front s = rw s.spelled (record { class = refl; some = omega arith })
begins kind.End front s = absurd s

first_front : (text front after : List ℕ) → text ≡ front ++ after → 0 < length front → first front ≡ first text
first_front text [] after e h = absurd (omega arith)
first_front text (b ∷ front) after e h = ap first (sym e)

-- a front that spells a token begins with the class of the text
same_class : (text front after : List ℕ) (j : TokenKind) → text ≡ front ++ after → Spells j front → class_of_kind j ≡ class_of (first text)
same_class text front after j e s =
    let b = begins j front s in
    sym b.class ∙ ap class_of (first_front text front after e b.some)

-- WORDS

word_bound : (text front after : List ℕ) (j : TokenKind) → class_of (first text) ≡ 1 → text ≡ front ++ after → Spells j front →
    length front ≤ prefix_len (is_in NameByte) text
unfolding class_of_kind
word_bound text front after (kind.Name n) c e s = rw e (front_in_run (is_in NameByte) front after s.1.all)
word_bound text front after (kind.Keyword n) c e s = rw e (front_in_run (is_in NameByte) front after s.1.all)
word_bound text front after (kind.Number v d u) c e s = let k = same_class text front after (kind.Number v d u) e s in absurd (cc)
word_bound text front after (kind.Character v) c e s = let k = same_class text front after (kind.Character v) e s in absurd (cc)
word_bound text front after (kind.Mark m) c e s = let k = same_class text front after (kind.Mark m) e s in absurd (cc)
word_bound text front after kind.Include c e s = let k = same_class text front after kind.Include e s in absurd (cc)
word_bound text front after kind.End c e s = absurd s

number_bound : (text front after : List ℕ) (j : TokenKind) → class_of (first text) ≡ 2 → text ≡ front ++ after → Spells j front →
    length front ≤ prefix_len (is_in NumberByte) text
unfolding class_of_kind
number_bound text front after (kind.Number v d u) c e s = rw e (front_in_run (is_in NumberByte) front after s.0.all)
number_bound text front after (kind.Name n) c e s = let k = same_class text front after (kind.Name n) e s in absurd (cc)
number_bound text front after (kind.Keyword n) c e s = let k = same_class text front after (kind.Keyword n) e s in absurd (cc)
number_bound text front after (kind.Character v) c e s = let k = same_class text front after (kind.Character v) e s in absurd (cc)
number_bound text front after (kind.Mark m) c e s = let k = same_class text front after (kind.Mark m) e s in absurd (cc)
number_bound text front after kind.Include c e s = let k = same_class text front after kind.Include e s in absurd (cc)
number_bound text front after kind.End c e s = absurd s

found_pair : (x y : Option TokenKind × ℕ) → (let f : Found = Ok x in f) ≡ Ok y → x ≡ y
found_pair x y e = cc

found_token : (k j : TokenKind) (n m : ℕ) → (let f : Found = Ok (Some k, n) in f) ≡ Ok (Some j, m) → (k ≡ j) × (n ≡ m)
found_token k j n m e =
    let p = found_pair (Some k, n) (Some j, m) e in
    let q : (let o : Option TokenKind = Some k in o) ≡ Some j = ap (λ (v : Option TokenKind × ℕ). v.0) p in
    (cc, ap (λ (v : Option TokenKind × ℕ). v.1) p)

gap_no_token : (m n : ℕ) (k : TokenKind) → gap m ≡ Ok (Some k, n) → ⊥
gap_no_token m n k e =
    let q : (let o : Option TokenKind = None in o) ≡ Some k = ap (λ (v : Option TokenKind × ℕ). v.0) (found_pair (None, m) (Some k, n) e) in cc

found_is : (text : List ℕ) (k j : TokenKind) (n m : ℕ) → (let f : Found = Ok (Some k, n) in f) ≡ Ok (Some j, m) → IsLongest text k n → IsLongest text j m
found_is text k j n m e r = let p = found_token k j n m e in subst (λ m. IsLongest text j m) p.1 (subst (λ j. IsLongest text j n) p.0 r)

word_of : (text : List ℕ) → is_letter (first text) ≡ true → IsWord (run (is_in NameByte) text)
word_of text h =
    let name : is_in NameByte (first text) ≡ true = rw h refl in
    record { begins = ap is_letter (first-run (is_in NameByte) text name) ∙ h; all = all_in_run (is_in NameByte) text }

word_longest : (text : List ℕ) (k : TokenKind) (n : ℕ) → is_letter (first text) ≡ true → word (run (is_in NameByte) text) ≡ Ok (Some k, n) → IsLongest text k n
unfolding word class_of
word_longest text k n h e =
    let bytes = run (is_in NameByte) text in
    let class : class_of (first text) ≡ 1 = rw h refl in
    let bound = λ (front after : List ℕ) (j : TokenKind) (s : text ≡ front ++ after) (t : Spells j front).
    subst (λ m. length front ≤ m) (sym (length-run (is_in NameByte) text)) (word_bound text front after j class s t) in
    elim (chosen (nat_lt 63 (length bytes)) _ _ _ e) [
      | inl long ↦ absurd (cc (long.1))
      | inr short ↦
          let fits : length bytes ≤ 63 = ltb-false 63 (length bytes) short.0 in
          elim (chosen (is_one_of keywords bytes) _ _ _ short.1) [
            | inl key ↦ found_is text (kind.Keyword bytes) k (length bytes) n key.1 (record {
              spelled = rw (take_run (is_in NameByte) text) (refl, word_of text h, key.0, fits);
              longest = bound;
            })
            | inr name ↦ found_is text (kind.Name bytes) k (length bytes) n name.1 (record {
              spelled = rw (take_run (is_in NameByte) text) (refl, word_of text h, name.0, fits);
              longest = bound;
            })
          ]
    ]

-- NUMERALS

IsNumberKind : TokenKind → Type 0
IsNumberKind (kind.Number v d u) = Unit {0}
IsNumberKind _ = ⊥

is_number : (value : ℕ) (decimal unsigned : Bool) (k : TokenKind) → (let o : Option TokenKind = Some (kind.Number value decimal unsigned) in o) ≡ Some k → IsNumberKind k
unfolding IsNumberKind
is_number value decimal unsigned k e = let same : kind.Number value decimal unsigned ≡ k = cc in subst IsNumberKind same tt

digits_number : (class : ByteClass) (base : ℕ) (digits : List ℕ) (decimal unsigned : Bool) (k : TokenKind) →
    digits_only class base digits decimal unsigned ≡ Some k → IsNumberKind k
digits_number class base digits decimal unsigned k e =
    elim (chosen (nat_lt 0 (length digits) && list_all (is_in class) digits) _ _ _ e) [
      | inl p ↦ is_number (number_of base digits) decimal unsigned k p.1
      | inr p ↦ absurd (cc (p.1))
    ]

unsuffixed_number : (text : List ℕ) (unsigned : Bool) (k : TokenKind) → unsuffixed text unsigned ≡ Some k → IsNumberKind k
unsuffixed_number text unsigned k e =
    elim (chosen (first text == 48) _ _ _ e) [
      | inl p ↦ elim (chosen (is_x (first (drop 1 text))) _ _ _ p.1) [
        | inl q ↦ digits_number Hexadecimal 16 (drop 2 text) false unsigned k q.1
        | inr q ↦ digits_number Octal 8 text false unsigned k q.1
      ]
      | inr p ↦ digits_number Digit 10 text true unsigned k p.1
    ]

constant_number : (text : List ℕ) (k : TokenKind) → constant text ≡ Some k → IsNumberKind k
constant_number text k e =
    elim (chosen (is_u (slice_index text (length text - 1))) _ _ _ e) [
      | inl p ↦ unsuffixed_number (take (length text - 1) text) true k p.1
      | inr p ↦ unsuffixed_number text false k p.1
    ]

constant_found : (m : ℕ) (o : Option TokenKind) (k : TokenKind) (n : ℕ) → constant_or_not m o ≡ Ok (Some k, n) → (o ≡ Some k) × (m ≡ n)
constant_found m None k n e = absurd (cc)
constant_found m (Some j) k n e = let p = found_token j k m n e in (ap (λ v. Some v) p.0, p.1)

spells_number : (bytes : List ℕ) (k : TokenKind) → IsNumberKind k → IsNumeral bytes → constant bytes ≡ Some k → Spells k bytes
unfolding IsNumberKind
spells_number bytes (kind.Number v d u) h num e = (num, e)
spells_number bytes (kind.Name n) h num e = absurd h
spells_number bytes (kind.Keyword n) h num e = absurd h
spells_number bytes (kind.Character v) h num e = absurd h
spells_number bytes (kind.Mark m) h num e = absurd h
spells_number bytes kind.Include h num e = absurd h
spells_number bytes kind.End h num e = absurd h

number_byte : (b : ℕ) → within 48 57 b ≡ true → is_in NumberByte b ≡ true
number_byte b h = by (is_letter b)
  where
    by : (t : Bool) → ((t || within 48 57 b) || (b == 46)) ≡ true
    by true = refl
    by false = rw h refl

numeral_of : (text : List ℕ) → is_in Digit (first text) ≡ true → IsNumeral (run (is_in NumberByte) text)
numeral_of text h =
    let number : is_in NumberByte (first text) ≡ true = number_byte (first text) h in
    record { begins = ap (is_in Digit) (first-run (is_in NumberByte) text number) ∙ h; all = all_in_run (is_in NumberByte) text }

numeral_longest : (text : List ℕ) (k : TokenKind) (n : ℕ) → is_in Digit (first text) ≡ true → numeral (run (is_in NumberByte) text) ≡ Ok (Some k, n) → IsLongest text k n
unfolding numeral
numeral_longest text k n h e =
    let bytes = run (is_in NumberByte) text in
    let f = constant_found (length bytes) (constant bytes) k n e in
    subst (λ m. IsLongest text k m) f.1 (record {
      spelled = rw (take_run (is_in NumberByte) text) (spells_number bytes k (constant_number bytes k f.0) (numeral_of text h) f.0);
      longest = λ front after j s t.
          subst (λ m. length front ≤ m) (sym (length-run (is_in NumberByte) text)) (number_bound text front after j (digit_class (first text) h) s t);
    })

-- MARKS

mark_bound : (text front after : List ℕ) (j : TokenKind) → class_of (first text) ≡ 4 → text ≡ front ++ after → Spells j front →
    (is_one_of marks front ≡ true) × (length front ≤ 3)
unfolding class_of_kind is_mark_like
mark_bound text front after (kind.Mark m) c e s =
    let parts = and_parts (class_of (first front) == 4) (nat_lt 0 (length front) && nat_le (length front) 3) (mark_like front s.1) in
    (s.1, leb-true _ _ (and_parts (nat_lt 0 (length front)) (nat_le (length front) 3) parts.1).1)
mark_bound text front after (kind.Name n) c e s = let k = same_class text front after (kind.Name n) e s in absurd (cc)
mark_bound text front after (kind.Keyword n) c e s = let k = same_class text front after (kind.Keyword n) e s in absurd (cc)
mark_bound text front after (kind.Number v d u) c e s = let k = same_class text front after (kind.Number v d u) e s in absurd (cc)
mark_bound text front after (kind.Character v) c e s = let k = same_class text front after (kind.Character v) e s in absurd (cc)
mark_bound text front after kind.Include c e s = let k = same_class text front after kind.Include e s in absurd (cc)
mark_bound text front after kind.End c e s = absurd s

in_take : (text front after : List ℕ) (i : ℕ) → text ≡ front ++ after → length front ≤ i → length front ≤ length (take i text)
in_take text front after i e h =
    let whole : length text ≡ length front + length after = ap length e ∙ length-append front after in
    let taken : length (take i text) ≡ min i (length text) = length-take i text in
    omega arith

front_is : (text front after : List ℕ) (i : ℕ) → text ≡ front ++ after → length front ≡ i → take i text ≡ front
front_is text front after i e h = ap (take i) e ∙ take_at front after i h

-- a front that is a mark is no longer than the mark, if no longer front that is taken is one
no_longer : (text front after : List ℕ) (i : ℕ) → text ≡ front ++ after → is_one_of marks front ≡ true → length front ≤ suc i →
    is_one_of marks (take (suc i) text) ≡ false → length front ≤ i
no_longer text front after i e m h fails = elim (cases_lt i (length front)) [
  | inl long ↦
      let same : take (suc i) text ≡ front = front_is text front after (suc i) e (omega arith) in
      let yes : is_one_of marks (take (suc i) text) ≡ true = ap (is_one_of marks) same ∙ m in absurd (cc)
  | inr short ↦ short
]

take_taken : (i : ℕ) (text : List ℕ) → take (length (take i text)) text ≡ take i text
take_taken i text = elim (cases_lt i (length text)) [
  | inl h ↦ ap (λ n. take n text) (length-take-le i text (omega arith))
  | inr h ↦ let all : take i text ≡ text = take_all i text h in rw all (take_all (length text) text (omega arith))
]

mark_here : (text : List ℕ) (i : ℕ) → is_one_of marks (take i text) ≡ true →
    ((front after : List ℕ) → text ≡ front ++ after → is_one_of marks front ≡ true → length front ≤ 3 → length front ≤ i) →
    IsLongest text (kind.Mark (take i text)) (length (take i text))
unfolding class_of_kind
mark_here text i m bound =
    let spelled : Spells (kind.Mark (take i text)) (take (length (take i text)) text) = rw (take_taken i text) (refl, m) in
    let split : text ≡ take i text ++ drop i text = sym (take-append-drop i text) in
    let class : class_of (first text) ≡ 4 = sym (same_class text (take i text) (drop i text) (kind.Mark (take i text)) split (refl, m)) in
    record {
      spelled = spelled;
      longest = λ front after j e s.
          let b = mark_bound text front after j class e s in
          in_take text front after i e (bound front after e b.0 b.1);
    }

mark_longest : (text : List ℕ) (k : TokenKind) (n : ℕ) → mark text ≡ Ok (Some k, n) → IsLongest text k n
unfolding mark
mark_longest text k n e = elim (chosen (is_one_of marks (take 3 text)) _ _ _ e) [
  | inl p ↦ found_is text (kind.Mark (take 3 text)) k (length (take 3 text)) n p.1 (mark_here text 3 p.0 (λ front after s m h. h))
  | inr p ↦ elim (chosen (is_one_of marks (take 2 text)) _ _ _ p.1) [
    | inl q ↦ found_is text (kind.Mark (take 2 text)) k (length (take 2 text)) n q.1 (mark_here text 2 q.0
        (λ front after s m h. no_longer text front after 2 s m h p.0))
    | inr q ↦ elim (chosen (is_one_of marks (take 1 text)) _ _ _ q.1) [
      | inl r ↦ found_is text (kind.Mark (take 1 text)) k (length (take 1 text)) n r.1 (mark_here text 1 r.0
          (λ front after s m h. no_longer text front after 1 s m (no_longer text front after 2 s m h p.0) q.0))
      | inr r ↦ absurd (cc (r.1))
    ]
  ]
]

-- THE OTHERS

ends_itself : (k j : TokenKind) (n m : ℕ) → may_go_on k ≡ false → may_go_on j ≡ true → (let f : Found = Ok (Some k, n) in f) ≡ Ok (Some j, m) → ⊥
ends_itself k j n m h go e = let same = ap may_go_on (found_token k j n m e).0 in cc

value_ends : (m : ℕ) (o : Option ℕ) (k : TokenKind) (n : ℕ) → may_go_on k ≡ true → character_or_not m o ≡ Ok (Some k, n) → ⊥
value_ends m None k n go e = cc
value_ends m (Some v) k n go e = ends_itself (kind.Character (signed_char v)) k m n refl go e

character_ends : (bytes : List ℕ) (k : TokenKind) (n : ℕ) → may_go_on k ≡ true → character bytes ≡ Ok (Some k, n) → ⊥
unfolding character
character_ends bytes k n go e = elim (chosen (slice_index bytes (content_len bytes) == 39) _ _ _ e) [
  | inl p ↦ value_ends (content_len bytes + 2) (character_value (take (content_len bytes) bytes)) k n go p.1
  | inr p ↦ cc (p.1)
]

include_ends : (o : Option ℕ) (k : TokenKind) (n : ℕ) → may_go_on k ≡ true → include_or_not o ≡ Ok (Some k, n) → ⊥
include_ends None k n go e = cc
include_ends (Some m) k n go e = ends_itself kind.Include k m n refl go e

comment_no_token : (o : Option ℕ) (k : TokenKind) (n : ℕ) → comment_or_not o ≡ Ok (Some k, n) → ⊥
comment_no_token None k n e = cc
comment_no_token (Some m) k n e = gap_no_token (m + 4) n k e

slash_longest : (text : List ℕ) (k : TokenKind) (n : ℕ) → slash text ≡ Ok (Some k, n) → IsLongest text k n
unfolding slash
slash_longest text k n e = elim (chosen (slice_index text 1 == 47) _ _ _ e) [
  | inl p ↦ absurd (gap_no_token _ n k p.1)
  | inr p ↦ elim (chosen (slice_index text 1 == 42) _ _ _ p.1) [
    | inl q ↦ absurd (comment_no_token (close_at (drop 2 text)) k n q.1)
    | inr q ↦ mark_longest text k n q.1
  ]
]

pub longest_match : LongestMatch
unfolding piece_at
longest_match fresh text k n go e = elim (chosen (is_in Blank (first text)) _ _ _ e) [
  | inl p ↦ absurd (gap_no_token 1 n k p.1)
  | inr p ↦ elim (chosen (is_letter (first text)) _ _ _ p.1) [
    | inl q ↦ word_longest text k n q.0 q.1
    | inr q ↦ elim (chosen (is_in Digit (first text)) _ _ _ q.1) [
      | inl r ↦ numeral_longest text k n r.0 r.1
      | inr r ↦ elim (chosen (first text == 39) _ _ _ r.1) [
        | inl s ↦ absurd (character_ends (drop 1 text) k n go s.1)
        | inr s ↦ elim (chosen (first text == 47) _ _ _ s.1) [
          | inl t ↦ slash_longest text k n t.1
          | inr t ↦ elim (chosen ((first text == 35) && fresh) _ _ _ t.1) [
            | inl u ↦ absurd (include_ends (include_len (drop 1 text)) k n go u.1)
            | inr u ↦ mark_longest text k n u.1
          ]
        ]
      ]
    ]
  ]
]
