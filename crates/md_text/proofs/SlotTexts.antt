-- The kinds of holes differ in their texts.
use Rattle.std.proofs.Common.{◌≡◌, ℕ, zero, suc, ℤ, pos, negsuc, Bool, true, false, cond, not, ◌||◌, eqb, List, [], ◌∷◌, ◌++◌, get_or, refl, sym, ap, ◌∙◌, arith, codes, eq-eqb, append_assoc}
use Rattle.std.proofs.lemmas.Bool.{or_left, or_parts}
use Rattle.std.proofs.lemmas.Bool.Decides.{nat_tests}
use Rattle.std.proofs.lemmas.Fmt.{decimal_digit}
use Rattle.std.specs.Char.{is_ascii_digit}
use Rattle.std.specs.Fmt.{decimal, signed_decimal}
use Rattle.std.specs.Str.{bytes_eq}
use Rattle.asm_token.specs.Tokens.{Token, Number, IsToken, IsName, is_name_start, is_name_byte}
use Rattle.asm_token.proofs.Bytes.{nonzero_is_digit}
use Rattle.asm_token.proofs.Lengths.{Numeral, decimal_numeral}
use Rattle.asm_token.proofs.Steps.{same_token}
use Rattle.md_text.specs.Lines.{lacks}
use Rattle.md_text.specs.Pieces.{Range, OfWord, Between, Kind, Named, Numbers, Symbols, Labels, Slot, range_text, kind_text, slot_text, is_kind_word, IsRange, IsKind, IsSlot}
use Rattle.md_text.proofs.Bytes.{fails_other, lacks_both, is_number_byte, number_lacks, name_lacks}
use Rattle.md_text.proofs.Splits.{same_front}

-- the first byte of a number
abbrev is_number_start : ℕ → Bool
is_number_start b = is_ascii_digit b || eqb b 45

record NumberFront (bytes : List ℕ) : Type 0 where
  first : ℕ
  others : List ℕ
  is : bytes ≡ first ∷ others
  start : is_number_start first ≡ true

digits_front : (ds : List ℕ) → Numeral ds → NumberFront ds
digits_front ds n = record { first = n.first; others = n.others; is = n.is; start = or_left (is_ascii_digit n.first) (eqb n.first 45) (nonzero_is_digit n.first n.nonzero) }

number_front : (z : ℤ) → IsToken (Number z) → NumberFront (signed_decimal z)
number_front (pos zero) h = record { first = 48; others = []; is = decimal_digit 0 (omega arith); start = refl }
number_front (pos (suc n)) h = digits_front (decimal (suc n)) (decimal_numeral (suc n) (omega arith) h)
number_front (negsuc n) h = record { first = 45; others = decimal (suc n); is = refl; start = refl }

abbrev number_in : Token → ℤ
number_in (Number z) = z
number_in _ = pos 0

-- numbers differ in their texts
pub same_number : (y z : ℤ) → IsToken (Number y) → IsToken (Number z) → signed_decimal y ≡ signed_decimal z → y ≡ z
same_number y z h k e = let same : Number y ≡ Number z = same_token (Number y) (Number z) h k e in ap number_in same

-- a text by its first byte
abbrev tag : List ℕ → ℕ
tag bs =
    cond (bytes_eq bs (codes "word")) 0
    (cond (bytes_eq bs (codes "sym")) 1
    (cond (bytes_eq bs (codes "label")) 2
    (cond (eqb (get_or bs 0 0) 33) 3
    (cond (is_number_start (get_or bs 0 0)) 4 5))))

abbrev tag_of : Kind → ℕ
tag_of (Named name) = 5
tag_of (Numbers true range) = 3
tag_of (Numbers false OfWord) = 0
tag_of (Numbers false (Between low high)) = 4
tag_of Symbols = 1
tag_of Labels = 2

start_no_exclamation : (b : ℕ) → is_name_start b ≡ true → eqb b 33 ≡ false
start_no_exclamation b h = grind (arith, nat_tests)

start_no_number : (b : ℕ) → is_name_start b ≡ true → is_number_start b ≡ false
start_no_number b h = grind (arith, nat_tests)

not_true : (r : Bool) → not r ≡ true → r ≡ false
not_true true e = cc
not_true false e = refl

number_start_apart : (b c : ℕ) → is_number_start b ≡ true → is_number_start c ≡ false → eqb b c ≡ false
number_start_apart b c h k = not_true (eqb b c) (fails_other is_number_start c b k h)

number_tag : (c : ℕ) (cs : List ℕ) → is_number_start c ≡ true → tag (c ∷ cs) ≡ 4
number_tag c cs h =
    let a : eqb c 119 ≡ false = number_start_apart c 119 h refl in
    let b : eqb c 115 ≡ false = number_start_apart c 115 h refl in
    let d : eqb c 108 ≡ false = number_start_apart c 108 h refl in
    let e : eqb c 33 ≡ false = number_start_apart c 33 h refl in
    rw a (rw b (rw d (rw e (rw h refl))))

name_tag : (name : List ℕ) → IsName name → is_kind_word name ≡ false → tag name ≡ 5
name_tag [] h k = absurd h
name_tag (b ∷ bs) h k =
    let word = or_parts (bytes_eq (b ∷ bs) (codes "word")) (bytes_eq (b ∷ bs) (codes "sym") || bytes_eq (b ∷ bs) (codes "label")) k in
    let other = or_parts (bytes_eq (b ∷ bs) (codes "sym")) (bytes_eq (b ∷ bs) (codes "label")) word.1 in
    rw word.0 (rw other.0 (rw other.1 (rw (start_no_exclamation b h.0) (rw (start_no_number b h.0) refl))))

range_front : (low high : ℤ) → IsToken (Number low) → tag (range_text (Between low high)) ≡ 4
range_front low high h =
    let f = number_front low h in
    ap (λ ds. tag (ds ++ codes ".." ++ signed_decimal high)) f.is ∙ number_tag f.first (f.others ++ codes ".." ++ signed_decimal high) f.start

tag_is : (k : Kind) → IsKind k → tag (kind_text k) ≡ tag_of k
tag_is (Named name) h = name_tag name h.0 h.1
tag_is (Numbers true range) h = refl
tag_is (Numbers false OfWord) h = refl
tag_is (Numbers false (Between low high)) h = range_front low high h.0
tag_is Symbols h = refl
tag_is Labels h = refl

same_tag : (j k : Kind) → IsKind j → IsKind k → kind_text j ≡ kind_text k → tag_of j ≡ tag_of k
same_tag j k g h e = sym (tag_is j g) ∙ ap tag e ∙ tag_is k h

same_ends : (a b c d : ℤ) → IsRange (Between a b) → IsRange (Between c d) → range_text (Between a b) ≡ range_text (Between c d) → Between a b ≡ Between c d
same_ends a b c d g h e =
    let parts = same_front 46 (signed_decimal a) (signed_decimal c) (46 ∷ signed_decimal b) (46 ∷ signed_decimal d) (number_lacks 46 a refl g.0) (number_lacks 46 c refl h.0)
    (sym (append_assoc (signed_decimal a) (codes "..") (signed_decimal b)) ∙ e ∙ append_assoc (signed_decimal c) (codes "..") (signed_decimal d)) in
    let low : a ≡ c = same_number a c g.0 h.0 parts.0 in
    let back : signed_decimal b ≡ signed_decimal d = cc in
    let high : b ≡ d = same_number b d g.1 h.1 back in
    cc

-- a word is no number
word_range : (low high : ℤ) → IsToken (Number low) → codes "word" ≡ range_text (Between low high) → ⊥
word_range low high h e = let q : tag (codes "word") ≡ 4 = ap tag e ∙ range_front low high h in absurd (omega (arith, q))

pub same_range : (r s : Range) → IsRange r → IsRange s → range_text r ≡ range_text s → r ≡ s
same_range OfWord OfWord g h e = refl
same_range OfWord (Between c d) g h e = absurd (word_range c d h.0 e)
same_range (Between a b) OfWord g h e = absurd (word_range a b g.0 (sym e))
same_range (Between a b) (Between c d) g h e = same_ends a b c d g h e

other_tag : (m n : ℕ) → m ≡ n → eqb m n ≡ false → ⊥
other_tag m n e f = let g : eqb m n ≡ true = eq-eqb m n e in cc

same_kind : (j k : Kind) → IsKind j → IsKind k → kind_text j ≡ kind_text k → tag_of j ≡ tag_of k → j ≡ k
same_kind (Named m) (Named n) g h e t = ap Named e
same_kind (Named m) (Numbers true s) g h e t = absurd (other_tag 5 3 t refl)
same_kind (Named m) (Numbers false OfWord) g h e t = absurd (other_tag 5 0 t refl)
same_kind (Named m) (Numbers false (Between c d)) g h e t = absurd (other_tag 5 4 t refl)
same_kind (Named m) k g h e t = absurd (other_tag 5 (tag_of k) t refl)
same_kind (Numbers true r) (Numbers true s) g h e t =
    let tail : range_text r ≡ range_text s = cc in
    ap (Numbers true) (same_range r s g h tail)
same_kind (Numbers true r) (Numbers false OfWord) g h e t = absurd (other_tag 3 0 t refl)
same_kind (Numbers true r) (Numbers false (Between c d)) g h e t = absurd (other_tag 3 4 t refl)
same_kind (Numbers true r) k g h e t = absurd (other_tag 3 (tag_of k) t refl)
same_kind (Numbers false OfWord) (Numbers false OfWord) g h e t = refl
same_kind (Numbers false OfWord) (Numbers true s) g h e t = absurd (other_tag 0 3 t refl)
same_kind (Numbers false OfWord) (Numbers false (Between c d)) g h e t = absurd (other_tag 0 4 t refl)
same_kind (Numbers false OfWord) k g h e t = absurd (other_tag 0 (tag_of k) t refl)
same_kind (Numbers false (Between a b)) (Numbers false (Between c d)) g h e t = ap (Numbers false) (same_ends a b c d g h e)
same_kind (Numbers false (Between a b)) (Numbers true s) g h e t = absurd (other_tag 4 3 t refl)
same_kind (Numbers false (Between a b)) (Numbers false OfWord) g h e t = absurd (other_tag 4 0 t refl)
same_kind (Numbers false (Between a b)) k g h e t = absurd (other_tag 4 (tag_of k) t refl)
same_kind Symbols Symbols g h e t = refl
same_kind Symbols (Numbers true s) g h e t = absurd (other_tag 1 3 t refl)
same_kind Symbols (Numbers false OfWord) g h e t = absurd (other_tag 1 0 t refl)
same_kind Symbols (Numbers false (Between c d)) g h e t = absurd (other_tag 1 4 t refl)
same_kind Symbols k g h e t = absurd (other_tag 1 (tag_of k) t refl)
same_kind Labels Labels g h e t = refl
same_kind Labels (Numbers true s) g h e t = absurd (other_tag 2 3 t refl)
same_kind Labels (Numbers false OfWord) g h e t = absurd (other_tag 2 0 t refl)
same_kind Labels (Numbers false (Between c d)) g h e t = absurd (other_tag 2 4 t refl)
same_kind Labels k g h e t = absurd (other_tag 2 (tag_of k) t refl)

pub kinds_once : (j k : Kind) → IsKind j → IsKind k → kind_text j ≡ kind_text k → j ≡ k
kinds_once j k g h e = same_kind j k g h e (same_tag j k g h e)

-- a byte that no hole has inside
record IsFree (b : ℕ) : Type 0 where
  no_name : is_name_byte b ≡ false
  no_number : is_number_byte b ≡ false
  no_exclamation : eqb 33 b ≡ false
  no_dot : eqb 46 b ≡ false
  no_colon : eqb 58 b ≡ false
  no_word : lacks b (codes "word") ≡ true
  no_sym : lacks b (codes "sym") ≡ true
  no_label : lacks b (codes "label") ≡ true

range_lacks : (b : ℕ) (r : Range) → IsFree b → IsRange r → lacks b (range_text r) ≡ true
range_lacks b OfWord f h = f.no_word
range_lacks b (Between low high) f h =
    lacks_both b (signed_decimal low ++ codes "..") (signed_decimal high)
    (lacks_both b (signed_decimal low) (codes "..") (number_lacks b low f.no_number h.0) (rw f.no_dot refl))
    (number_lacks b high f.no_number h.1)

kind_lacks : (b : ℕ) (k : Kind) → IsFree b → IsKind k → lacks b (kind_text k) ≡ true
kind_lacks b (Named name) f h = name_lacks b name f.no_name h.0
kind_lacks b (Numbers true range) f h = rw f.no_exclamation (range_lacks b range f h)
kind_lacks b (Numbers false range) f h = range_lacks b range f h
kind_lacks b Symbols f h = f.no_sym
kind_lacks b Labels f h = f.no_label

slot_lacks : (b : ℕ) (h : Slot) → IsFree b → IsSlot h → lacks b (slot_text h) ≡ true
slot_lacks b h f k = lacks_both b h.name (58 ∷ kind_text h.kind) (name_lacks b h.name f.no_name k.named) (rw f.no_colon (kind_lacks b h.kind f k.kind))

greater_is_free : IsFree 62
greater_is_free = record { no_name = refl; no_number = refl; no_exclamation = refl; no_dot = refl; no_colon = refl; no_word = refl; no_sym = refl; no_label = refl }

bar_is_free : IsFree 124
bar_is_free = record { no_name = refl; no_number = refl; no_exclamation = refl; no_dot = refl; no_colon = refl; no_word = refl; no_sym = refl; no_label = refl }

pub slot_lacks_greater : (h : Slot) → IsSlot h → lacks 62 (slot_text h) ≡ true
slot_lacks_greater h k = slot_lacks 62 h greater_is_free k

pub slot_lacks_bar : (h : Slot) → IsSlot h → lacks 124 (slot_text h) ≡ true
slot_lacks_bar h k = slot_lacks 124 h bar_is_free k

-- a hole's text is of one hole
pub slots_once : (h k : Slot) → IsSlot h → IsSlot k → slot_text h ≡ slot_text k → h ≡ k
slots_once h k p q e =
    let parts = same_front 58 h.name k.name (kind_text h.kind) (kind_text k.kind) (name_lacks 58 h.name refl p.named) (name_lacks 58 k.name refl q.named) e in
    both h k parts.0 (kinds_once h.kind k.kind p.kind q.kind parts.1)
  where
    both : (h k : Slot) → h.name ≡ k.name → h.kind ≡ k.kind → h ≡ k
    both h k p q = λ i. record { name = p i; kind = q i }
