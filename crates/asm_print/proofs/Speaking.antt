-- What is written says what it was written for.
use Rattle.std.proofs.Common.{◌≡◌, inl, inr, ℕ, ◌^◌, ◌<◌, ◌≤◌, ◌==◌, ℤ, pos, Bool, true, false, cond, MatchBool, List, [], ◌∷◌, ◌++◌, length, refl, sym, ap, subst, ◌∙◌, arith, length-append, lit≤}
use Rattle.std.specs.Prelude.{decimal, codes}
use Rattle.std.specs.Fmt.{signed_decimal}
use Rattle.std.specs.Char.{is_ascii_digit}
use Rattle.std.specs.List.{All, AllPass}
use Rattle.std.specs.Str.{bytes_eq}
use Rattle.std.proofs.lemmas.Bool.{eqb-true}
use Rattle.std.proofs.lemmas.Bool.Decides.{nat_tests}
use Rattle.std.proofs.lemmas.Fmt.{length-decimal-le}
use Rattle.std.proofs.lemmas.List.{append-nil}
use Rattle.std.proofs.lemmas.List.Elements.{All-head, All-cons, All-nil, All-weaker}
use Rattle.std.proofs.lemmas.Slice.Eq.{bytes_eq-Decides}
use Rattle.asm_token.specs.Tokens.{Token, Name, Number, Mark, IsToken, spelling, is_name_byte, is_blank_or_tab, at_end, after_gap, one_token}
use Rattle.asm_token.specs.Line.{line_of, after_token}
use Rattle.asm_token.proofs.Bytes.{digit_is_name}
use Rattle.asm_token.proofs.Lengths.{token_nonempty}
use Rattle.asm_token.proofs.Front.{no_token}
use Rattle.asm_token.proofs.Steps.{blank_or_tab_is_gap}
use Rattle.asm_token.proofs.Lines.{longest_where_it_stands, line_reads_back}
use Rattle.rtl_tree.specs.Names.{IsName, IsNameByte}
use Rattle.asm_row.specs.Walk.{IsLine}
use Rattle.asm_program.specs.TextLines.{Label, Block, Symbol, IsLabel, TextBegins, DataBegins, Labelled, Byte, Others, SayTokens, SaysLabel, says_name, says_number, Says, tokens, is_skipped}
use Rattle.asm_program.specs.Rules.{begins_with, is_dotted}
use Rattle.asm_print.specs.Written.{label_text, written}
use Rattle.asm_print.proofs.Clean.{HasNoFeed, false_by, clash, clean_by, clean_append, decimal_digits, decimal_clean}

-- a line that begins with a token isn't skipped

neither : (x y z : Bool) → (x ≡ true → ⊥) → (z ≡ true → ⊥) → cond x y z ≡ false
neither true y z h k = absurd (h refl)
neither false y z h k = false_by z k

no_nil : (t : Token) (rest : List ℕ) → IsToken t → [] ≡ spelling t ++ rest → ⊥
no_nil t rest h e =
    let some = token_nonempty t h in
    let size : 0 ≡ length (spelling t ++ rest) = ap length e in
    absurd (omega (arith, some, size, length-append (spelling t) rest))

kept_text : (text : List ℕ) (t : Token) (rest : List ℕ) → IsToken t → text ≡ spelling t ++ rest → is_skipped text ≡ false
kept_text [] t rest h e = absurd (no_nil t rest h e)
kept_text (b ∷ bs) t rest h e =
    neither (is_blank_or_tab b) (is_skipped bs) (b == 42) (λ x. blank_or_tab_is_gap.apart b bs x t rest h e)
    (λ x. let star : b ≡ 42 = eqb-true b 42 x in
    no_token (42 ∷ bs) refl t rest h (subst (λ (c : ℕ). c ∷ bs ≡ spelling t ++ rest) star e))

pub kept_line : (t : Token) (ts : List Token) → IsToken t → is_skipped (line_of (t ∷ ts)) ≡ false
kept_line t [] h = kept_text (spelling t) t [] h (sym (append-nil (spelling t)))
kept_line t (u ∷ us) h = kept_text (line_of (t ∷ (u ∷ us))) t (32 ∷ (spelling u ++ after_token u us)) h refl

-- labels

abbrev pub IsGoodLabel : Label → Type 0
IsGoodLabel (Block b) = b < 2 ^ 32
IsGoodLabel (Symbol s) = IsName s

name_byte : (b : ℕ) → IsNameByte b → is_name_byte b ≡ true
name_byte b (inl e) = ap is_name_byte e
name_byte b (inr (inl h)) = grind (arith, nat_tests)
name_byte b (inr (inr (inl h))) = grind (arith, nat_tests)
name_byte b (inr (inr (inr h))) = grind (arith, nat_tests)

name_bytes : (name : List ℕ) → IsName name → AllPass is_name_byte name
name_bytes name h = All-weaker IsNameByte (λ b. is_name_byte b ≡ true) name_byte name h.bytes

pub name_is_token : (s : List ℕ) → IsName s → IsToken (Name (95 ∷ s))
name_is_token s h = (refl, name_bytes s h)

pub block_is_token : (b : ℕ) → b < 2 ^ 32 → IsToken (Name (76 ∷ decimal b))
block_is_token b h =
    (refl, All-weaker (λ y. is_ascii_digit y ≡ true) (λ y. is_name_byte y ≡ true) digit_is_name (decimal b) (decimal_digits b (omega (arith, h))))

label_token : (l : Label) → IsGoodLabel l → IsToken (Name (label_text l))
label_token (Block b) h = block_is_token b h
label_token (Symbol s) h = name_is_token s h

label_long : (l : Label) → IsGoodLabel l → length (label_text l) ≤ 64
label_long (Block b) h = let k : length (decimal b) ≤ 10 = length-decimal-le 10 b (omega arith) (omega (arith, h)) (omega (arith, h)) in omega (arith, k)
label_long (Symbol s) h = let k = h.long in omega (arith, k)

label_is : (l : Label) → IsGoodLabel l → IsLabel (label_text l) l
label_is (Block b) h = (h, refl)
label_is (Symbol s) h = (h, refl)

label_line : (l : Label) → IsGoodLabel l → IsLine (label_text l ++ 58 ∷ []) (Name (label_text l) ∷ (Mark 58 ∷ []))
label_line l h =
    let name : Token = Name (label_text l) in
    one_token name (58 ∷ []) (Mark 58 ∷ []) (label_token l h) (longest_where_it_stands name (58 ∷ []) (label_token l h) refl)
    (one_token (Mark 58) [] [] refl (longest_where_it_stands (Mark 58) [] refl tt) at_end)

pub says_label : (l : Label) → IsGoodLabel l → Says (written (Labelled l)) (Labelled l)
says_label l h =
    let long = label_long l h in
    tokens (Name (label_text l) ∷ (Mark 58 ∷ [])) (Labelled l) (omega (arith, long, length-append (label_text l) (58 ∷ [])))
    (kept_text (label_text l ++ 58 ∷ []) (Name (label_text l)) (58 ∷ []) (label_token l h) refl) (label_line l h) (label_is l h)

pub label_clean : (l : Label) → IsGoodLabel l → HasNoFeed (written (Labelled l))
label_clean (Block b) h = (refl, clean_append (decimal b) (58 ∷ []) (decimal_clean b (omega (arith, h))) (refl, tt))
label_clean (Symbol s) h = (refl, clean_append s (58 ∷ []) (clean_by is_name_byte refl s (name_bytes s h)) (refl, tt))

-- directives

abbrev Passes : ℕ → Type 0
Passes b = is_name_byte b ≡ true

four : (a b c d : ℕ) → Passes a → Passes b → Passes c → Passes d → AllPass is_name_byte (a ∷ (b ∷ (c ∷ (d ∷ []))))
four a b c d h i j k =
    All-cons Passes a (b ∷ (c ∷ (d ∷ []))) h (All-cons Passes b (c ∷ (d ∷ [])) i (All-cons Passes c (d ∷ []) j (All-cons Passes d [] k (All-nil Passes))))

one_name : (name : List ℕ) → IsToken (Name name) → IsLine name (Name name ∷ [])
one_name name h = line_reads_back is_blank_or_tab (Name name ∷ []) refl (All-cons IsToken (Name name) [] h (All-nil IsToken))

pub says_text : Says (written TextBegins) TextBegins
says_text = tokens (Name (codes ".text") ∷ []) TextBegins (lit≤ tt) refl (one_name (codes ".text") (refl, four 116 101 120 116 refl refl refl refl)) refl

pub says_data : Says (written DataBegins) DataBegins
says_data = tokens (Name (codes ".data") ∷ []) DataBegins (lit≤ tt) refl (one_name (codes ".data") (refl, four 100 97 116 97 refl refl refl refl)) refl

byte_token : IsToken (Name (codes ".byte"))
byte_token = (refl, four 98 121 116 101 refl refl refl refl)

byte_tokens : ℕ → List Token
byte_tokens b = Name (codes ".byte") ∷ (Number (pos b) ∷ [])

small_number : (b : ℕ) → b < 256 → IsToken (Number (pos b))
small_number b h = let k : b < 10 ^ 10 = omega (arith, h) in k

are_byte_tokens : (b : ℕ) → b < 256 → All IsToken (Name (codes ".byte") ∷ (Number (pos b) ∷ []))
are_byte_tokens b h =
    All-cons IsToken (Name (codes ".byte")) (Number (pos b) ∷ []) byte_token (All-cons IsToken (Number (pos b)) [] (small_number b h) (All-nil IsToken))

byte_written : (b : ℕ) → line_of (Name (codes ".byte") ∷ (Number (pos b) ∷ [])) ≡ codes ".byte " ++ signed_decimal (pos b)
byte_written b = ap (λ (xs : List ℕ). codes ".byte " ++ xs) (append-nil (signed_decimal (pos b)))

byte_short : (b : ℕ) → b < 256 → length (written (Byte (pos b))) ≤ 640
byte_short b h = let k : length (decimal b) ≤ 10 = length-decimal-le 10 b (omega arith) (omega (arith, h)) (omega (arith, h)) in omega (arith, k)

pub says_byte : (b : ℕ) → b < 256 → Says (written (Byte (pos b))) (Byte (pos b))
says_byte b h =
    let line : IsLine (codes ".byte " ++ signed_decimal (pos b)) (Name (codes ".byte") ∷ (Number (pos b) ∷ [])) =
    subst (λ (xs : List ℕ). IsLine xs (Name (codes ".byte") ∷ (Number (pos b) ∷ []))) (byte_written b)
    (line_reads_back is_blank_or_tab (Name (codes ".byte") ∷ (Number (pos b) ∷ [])) refl (are_byte_tokens b h))
    in
    tokens (Name (codes ".byte") ∷ (Number (pos b) ∷ [])) (Byte (pos b)) (byte_short b h) refl
    (after_gap 9 (codes ".byte " ++ signed_decimal (pos b)) (Name (codes ".byte") ∷ (Number (pos b) ∷ [])) refl line) refl

pub byte_clean : (b : ℕ) → b < 256 → HasNoFeed (written (Byte (pos b)))
byte_clean b h = clean_append (9 ∷ codes ".byte ") (decimal b) (refl, (refl, (refl, (refl, (refl, (refl, (refl, tt))))))) (decimal_clean b (omega (arith, h)))

-- instructions

-- no name in `.`, and no colon
abbrev pub IsOwn : Token → Type 0
IsOwn (Name name) = begins_with 46 name ≡ false
IsOwn (Number z) = Unit {0}
IsOwn (Mark c) = (c == 58) ≡ false

match_false : (b : Bool) (P Q : Type 0) → b ≡ false → Q → MatchBool b P Q
match_false true P Q e q = absurd (let n : true ≡ false = e in cc)
match_false false P Q e q = q

other_name : (name word : List ℕ) → begins_with 46 name ≡ false → begins_with 46 word ≡ true → bytes_eq name word ≡ false
other_name name word h k = false_by (bytes_eq name word) (λ e. clash (begins_with 46 word) k (subst (λ (xs : List ℕ). begins_with 46 xs ≡ false) ((bytes_eq-Decides name word).0 e) h))

past : {A : Type 0} (b : Bool) (x y : A) → b ≡ false → cond b x y ≡ y
past true x y e = absurd (let n : true ≡ false = e in cc)
past false x y e = refl

no_directive : (name : List ℕ) → begins_with 46 name ≡ false → says_name name ≡ Others (Name name ∷ [])
no_directive name h =
    past (bytes_eq name (codes ".text")) TextBegins (cond (bytes_eq name (codes ".data")) DataBegins (Others (Name name ∷ []))) (other_name name (codes ".text") h refl)
    ∙ past (bytes_eq name (codes ".data")) DataBegins (Others (Name name ∷ [])) (other_name name (codes ".data") h refl)

pub says_others : (t : Token) (ts : List Token) → IsOwn t → All IsOwn ts → SayTokens (t ∷ ts) (Others (t ∷ ts))
says_others (Name name) [] h a = sym (no_directive name h)
says_others (Name name) (Number z ∷ []) h a = sym (no_number name z h)
  where
    no_number : (name : List ℕ) (z : ℤ) → begins_with 46 name ≡ false → says_number name z ≡ Others (Name name ∷ (Number z ∷ []))
    no_number name z h = rw (other_name name (codes ".word") h refl) (rw (other_name name (codes ".byte") h refl) (rw (other_name name (codes ".space") h refl) refl))
says_others (Name name) (Mark c ∷ []) h a =
    match_false (c == 58) (SaysLabel name (Others (Name name ∷ (Mark c ∷ [])))) (Others (Name name ∷ (Mark c ∷ [])) ≡ Others (Name name ∷ (Mark c ∷ [])))
    (All-head IsOwn (Mark c) [] a) refl
says_others (Name name) (Name n ∷ ts) h a = refl
says_others (Name name) (Number z ∷ (u ∷ us)) h a = refl
says_others (Name name) (Mark c ∷ (u ∷ us)) h a = refl
says_others (Number z) ts h a = refl
says_others (Mark c) ts h a = refl

pub says_line : (t : Token) (ts : List Token) → All IsToken (t ∷ ts) → IsOwn t → All IsOwn ts → length (line_of (t ∷ ts)) ≤ 639 → Says (written (Others (t ∷ ts))) (Others (t ∷ ts))
says_line t ts h own others short =
    tokens (t ∷ ts) (Others (t ∷ ts)) (omega (arith, short)) (kept_line t ts (All-head IsToken t ts h))
    (after_gap 9 (line_of (t ∷ ts)) (t ∷ ts) refl (line_reads_back is_blank_or_tab (t ∷ ts) refl h)) (says_others t ts own others)

pub not_dotted : (t : Token) (ts : List Token) → IsOwn t → is_dotted (t ∷ ts) ≡ false
not_dotted (Name name) ts h = h
not_dotted (Number z) ts h = refl
not_dotted (Mark c) ts h = refl
