-- With which words a line doesn't begin.
use Rattle.std.proofs.Common.{◌≡◌, ◌≢◌, ℕ, ◌+◌, ◌<◌, zero, suc, List, [], ◌∷◌, ◌++◌, length, get_or, take, sym, ap, subst, ◌∙◌, arith, add-one}
use Rattle.md_parser.specs.declared.keywords.Keyword.{Keyword}
use Rattle.md_parser.specs.declared.keywords.Keyword.TheVariants.{Version, MachineName, WordBits, MemorySize, DataBegin, StackSize, Register, Flag, Class, Mode, Row}
use Rattle.md_parser.specs.Keywords.{keyword_text}

abbrev pub IsNot : List ℕ → Keyword → Type 0
IsNot line keyword = (rest : List ℕ) → line ≢ keyword_text keyword ++ rest

abbrev pub IsNone : List ℕ → List Keyword → Type 0
IsNone line [] = Unit {0}
IsNone line (k ∷ ks) = IsNot line k × IsNone line ks

abbrev pub keywords : List Keyword
keywords = Version ∷ MachineName ∷ WordBits ∷ MemorySize ∷ DataBegin ∷ StackSize ∷ Register ∷ Flag ∷ Class ∷ Mode ∷ Row ∷ []

one_none : (line : List ℕ) (ks : List Keyword) (i : ℕ) (d : Keyword) → i < length ks → IsNone line (take i ks) → IsNot line (get_or ks i d) → IsNone line (take (suc i) ks)
one_none line [] i d l h n = absurd (omega arith)
one_none line (k ∷ ks) zero d l h n = (n, tt)
one_none line (k ∷ ks) (suc i) d l h n = (h.0, one_none line ks i d (omega arith) h.1 n)

pub one_more : (line word : List ℕ) (ks : List Keyword) (i : ℕ) (d : Keyword) → i < length ks → IsNone line (take i ks) → word ≡ keyword_text (get_or ks i d) → ((rest : List ℕ) → line ≢ word ++ rest) → IsNone line (take (i + 1) ks)
one_more line word ks i d l h e n =
    subst (λ j. IsNone line (take j ks)) (sym (add-one i)) (one_none line ks i d l h (λ rest q. n rest (q ∙ ap (λ t. t ++ rest) (sym e))))
