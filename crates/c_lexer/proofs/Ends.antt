-- Only the last token of a text is the end.
use Rattle.std.proofs.Common.{◌≡◌, ℕ, Bool, List, [], ◌∷◌, ◌++◌, Option, Some, None, Result, Ok, Err, refl, ap, ◌∙◌}
use Rattle.std.specs.List.{All}
use Rattle.std.proofs.lemmas.List.Elements.{All-nil, All-cons}
use Rattle.c_tree.specs.declared.token.At.{At}
use Rattle.c_tree.specs.declared.token.Token.{Token}
use Rattle.c_tree.specs.declared.token.TokenKind.{TokenKind}
use Rattle.c_tree.specs.declared.token.TokenKind.TheVariants as kind
use Rattle.c_lexer.specs.declared.rule.Rule.{Rule}
use Rattle.c_lexer.specs.declared.line.Line.{Line}
use Rattle.c_lexer.specs.declared.line.Line.TheVariants.{Fresh, Used, Included}
use Rattle.c_lexer.specs.Pieces.{Found, piece_at}
use Rattle.c_lexer.specs.Places.{place_of}
use Rattle.c_lexer.specs.Lexing.{Piece, Cursor, moved, is_fresh, taken, judged, next_piece, piece_behind, ArePieces, token_at, tokens_of}
use Rattle.c_lexer.proofs.Longest.{longest_match}

found_no_end : (fresh : Bool) (text : List ℕ) (n : ℕ) → piece_at fresh text ≡ Ok (Some kind.End, n) → ⊥
found_no_end fresh text n e = (longest_match fresh text kind.End n refl e).spelled

token_of : (o : Option TokenKind) (bytes : List ℕ) (p : Piece) →
    (let r : Result Piece (At × Rule) = Ok (record { bytes = bytes; token = o }) in r) ≡ Ok p → o ≡ p.token
token_of o bytes p e = let same : (let q : Piece = record { bytes = bytes; token = o } in q) ≡ p = cc in ap (λ (q : Piece). q.token) same

taken_token : (line : Line) (text : List ℕ) (o : Option TokenKind) (n : ℕ) (p : Piece) → taken line text o n ≡ Ok p → o ≡ p.token
taken_token Fresh text o n p e = token_of o _ p e
taken_token Used text o n p e = token_of o _ p e
taken_token (Included hash) text None n p e = token_of None _ p e
taken_token (Included hash) text (Some k) n p e = absurd (cc)

judged_no_end : (line : Line) (here : At) (text : List ℕ) (fresh : Bool) (f : Found) (p : Piece) → piece_at fresh text ≡ f →
    judged line here text f ≡ Ok p → p.token ≡ Some kind.End → ⊥
judged_no_end line here text fresh (Ok (o, n)) p is e h =
    let found : o ≡ Some kind.End = taken_token line text o n p e ∙ h in
    found_no_end fresh text n (is ∙ ap (λ (o : Option TokenKind). let f : Found = Ok (o, n) in f) found)
judged_no_end line here text fresh (Err rule) p is e h = cc

piece_no_end : (c : Cursor) (text : List ℕ) (p : Piece) → piece_behind c text ≡ Ok p → p.token ≡ Some kind.End → ⊥
unfolding next_piece
piece_no_end c text p e h = judged_no_end c.line (place_of c.before) text (is_fresh c.line) (piece_at (is_fresh c.line) text) p refl e h

abbrev pub IsNoEnd : Token → Type 0
IsNoEnd t = t.kind ≡ kind.End → ⊥

put : (at : At) (o : Option TokenKind) (tokens : List Token) → (o ≡ Some kind.End → ⊥) → All IsNoEnd tokens → All IsNoEnd (token_at at o ++ tokens)
put at None tokens other all = all
put at (Some k) tokens other all = All-cons IsNoEnd (record { kind = k; at = at }) tokens (λ e. other (ap (λ k. Some k) e)) all

pub no_end : (c : Cursor) (pieces : List Piece) → ArePieces c pieces [] → All IsNoEnd (tokens_of c pieces)
no_end c [] h = All-nil IsNoEnd
no_end c (p ∷ pieces) h = put (place_of c.before) p.token (tokens_of (moved c p) pieces) (piece_no_end c _ p h.0) (no_end (moved c p) pieces h.1)
