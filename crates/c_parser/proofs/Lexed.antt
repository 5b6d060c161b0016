-- The tokens of a text have their end last, and nowhere else.
use Rattle.std.proofs.Common.{◌≡◌, ℕ, Bool, true, false, cond, List, [], ◌∷◌, Some, refl, ap, ◌∙◌}
use Rattle.std.specs.List.{All, list_all}
use Rattle.std.specs.Str.{bytes_eq}
use Rattle.std.proofs.lemmas.Bool.{and_parts}
use Rattle.std.proofs.lemmas.List.{map-append}
use Rattle.std.proofs.lemmas.List.Elements.{All-nil, All-cons, All-head, All-tail}
use Rattle.c_tree.specs.declared.token.Token.{Token}
use Rattle.c_tree.specs.declared.token.TokenKind.{TokenKind}
use Rattle.c_tree.specs.declared.token.TokenKind.TheVariants as kind
use Rattle.c_lexer.specs.Places.{place_of}
use Rattle.c_lexer.specs.Lexing.{start, token_at, tokens_of}
use Rattle.c_lexer.proofs.Ends.{IsNoEnd, no_end}
use Rattle.c_grammar.specs.declared.sign.Sign.{Sign}
use Rattle.c_grammar.specs.declared.sign.Sign.TheVariants as sign
use Rattle.c_grammar.specs.Words.{keywords, marks, sign_in, keyword_sign, mark_sign, word_of, a_sign, sign_of_word, Lexeme, lexemes}
use Rattle.c_parser.specs.Law.{LexedIsEnded}

-- WORDS

is_open : Sign → Bool
is_open sign.End = false
is_open _ = true

entry_open : List ℕ × Sign → Bool
entry_open entry = is_open entry.1

chosen_open : (b : Bool) (one two : Sign) → is_open one ≡ true → is_open two ≡ true → is_open (cond b one two) ≡ true
chosen_open true one two p q = p
chosen_open false one two p q = q

table_open : (table : List (List ℕ × Sign)) (text : List ℕ) → list_all entry_open table ≡ true → is_open (sign_in table text) ≡ true
unfolding is_open entry_open
table_open [] text h = refl
table_open (entry ∷ table) text h =
    let parts = and_parts (entry_open entry) (list_all entry_open table) h in
    chosen_open (bytes_eq entry.0 text) entry.1 (sign_in table text) parts.0 (table_open table text parts.1)

keyword_open : (text : List ℕ) → is_open (keyword_sign text) ≡ true
unfolding keywords keyword_sign is_open entry_open
keyword_open text = table_open keywords text refl

mark_open : (text : List ℕ) → is_open (mark_sign text) ≡ true
unfolding marks mark_sign is_open entry_open
mark_open text = table_open marks text refl

open_is_no_end : (s : Sign) → is_open s ≡ true → a_sign s ≡ a_sign sign.End → ⊥
unfolding is_open
open_is_no_end s h e = let same = ap (λ w. is_open (sign_of_word w)) e in cc

only_the_end : (k : TokenKind) → word_of k ≡ a_sign sign.End → k ≡ kind.End
only_the_end (kind.Name n) e = absurd (cc)
only_the_end (kind.Keyword n) e = absurd (open_is_no_end (keyword_sign n) (keyword_open n) e)
only_the_end (kind.Number v d u) e = absurd (cc)
only_the_end (kind.Character v) e = absurd (cc)
only_the_end (kind.Mark m) e = absurd (open_is_no_end (mark_sign m) (mark_open m) e)
only_the_end kind.Include e = let same = ap sign_of_word e in absurd (cc)
only_the_end kind.End e = refl

-- TOKENS

abbrev IsOther : Lexeme → Type 0
IsOther t = t.word ≡ a_sign sign.End → ⊥

others : (tokens : List Token) → All IsNoEnd tokens → All IsOther (lexemes tokens)
others [] all = All-nil IsOther
others (t ∷ tokens) all =
    All-cons IsOther (record { word = word_of t.kind; at = t.at }) (lexemes tokens) (λ e. All-head IsNoEnd t tokens all (only_the_end t.kind e))
    (others tokens (All-tail IsNoEnd t tokens all))

pub lexed_is_ended : LexedIsEnded
lexed_is_ended text tokens given = record {
  body = lexemes (tokens_of start given.pieces);
  at = place_of text;
  is = ap lexemes given.listed ∙ map-append _ (tokens_of start given.pieces) (token_at (place_of text) (Some kind.End));
  none = others (tokens_of start given.pieces) (no_end start given.pieces given.each);
}
