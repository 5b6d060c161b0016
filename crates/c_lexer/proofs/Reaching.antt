-- Reading on by one piece.
use Rattle.std.proofs.Common.{◌≡◌, ℕ, Bool, true, false, get_or, ◌+◌, ◌<◌, ◌≤◌, List, [], ◌∷◌, ◌++◌, Option, Some, None, Result, Ok, Err, length, refl, sym, ap, ◌∙◌, subst, arith, append_assoc, append-nil}
use Rattle.std.specs.Prelude.{fold, ◌==◌}
use Rattle.c_tree.specs.declared.token.At.{At}
use Rattle.c_tree.specs.declared.token.Token.{Token}
use Rattle.c_tree.specs.declared.token.TokenKind.{TokenKind}
use Rattle.c_tree.specs.declared.token.TokenKind.TheVariants as kind
use Rattle.c_lexer.specs.declared.rule.Rule.{Rule}
use Rattle.c_lexer.specs.declared.line.Line.{Line}
use Rattle.c_lexer.specs.declared.line.Line.TheVariants.{Fresh}
use Rattle.c_lexer.specs.Bytes.{first}
use Rattle.c_lexer.specs.Places.{place_of, place_behind}
use Rattle.c_lexer.specs.Lexing.{Piece, Cursor, start, moved, line_behind, next_piece, piece_behind, text_of, ArePieces, cursor_behind, token_at, tokens_of, AreTokens, IsBroken}
use Rattle.c_lexer.specs.declared.rule.Fault.{Fault}
use Rattle.c_lexer.specs.declared.rule.Fault.TheVariants as fault
use Rattle.c_lexer.specs.Gives.{Fails, IsFirstFault}
use Rattle.c_lexer.specs.Reached.{Reached}
use Rattle.c_lexer.proofs.Positions.{place_append}

text_push : (ps : List Piece) (p : Piece) (after : List ℕ) → text_of (ps ++ p ∷ []) ++ after ≡ text_of ps ++ (p.bytes ++ after)
text_push [] p after = ap (λ t. t ++ after) (append-nil p.bytes)
text_push (q ∷ ps) p after =
    append_assoc q.bytes (text_of (ps ++ p ∷ [])) after ∙ ap (λ t. q.bytes ++ t) (text_push ps p after)
    ∙ sym (append_assoc q.bytes (text_of ps) (p.bytes ++ after))

before_behind : (c : Cursor) (ps : List Piece) → (cursor_behind c ps).before ≡ c.before ++ text_of ps
before_behind c [] = sym (append-nil c.before)
before_behind c (p ∷ ps) = before_behind (moved c p) ps ∙ append_assoc c.before p.bytes (text_of ps)

cursor_push : (c : Cursor) (ps : List Piece) (p : Piece) → cursor_behind c (ps ++ p ∷ []) ≡ moved (cursor_behind c ps) p
cursor_push c [] p = refl
cursor_push c (q ∷ ps) p = cursor_push (moved c q) ps p

pieces_push : (c : Cursor) (ps : List Piece) (p : Piece) (after : List ℕ) →
    ArePieces c ps (p.bytes ++ after) → piece_behind (cursor_behind c ps) (p.bytes ++ after) ≡ Ok p → ArePieces c (ps ++ p ∷ []) after
pieces_push c [] p after each next = (next, tt)
pieces_push c (q ∷ ps) p after each next =
    (ap (λ t. piece_behind c (q.bytes ++ t)) (text_push ps p after) ∙ each.0, pieces_push (moved c q) ps p after each.1 next)

tokens_push : (c : Cursor) (ps : List Piece) (p : Piece) →
    tokens_of c (ps ++ p ∷ []) ≡ tokens_of c ps ++ token_at (place_of (cursor_behind c ps).before) p.token
tokens_push c [] p = append-nil (token_at (place_of c.before) p.token)
tokens_push c (q ∷ ps) p =
    ap (λ t. token_at (place_of c.before) q.token ++ t) (tokens_push (moved c q) ps p)
    ∙ sym (append_assoc (token_at (place_of c.before) q.token) (tokens_of (moved c q) ps) (token_at (place_of (cursor_behind (moved c q) ps).before) p.token))

-- where a cursor has come is where the reading is
record Stands (c : Cursor) (line : Line) (at : At) : Type 0 where
  line_is : line ≡ c.line
  at_is : at ≡ place_of c.before

stands : {text rest : List ℕ} {line : Line} {at : At} {tokens : List Token} (r : Reached text rest line at tokens) → Stands (cursor_behind start r.pieces) line at
stands r = record {
  line_is = r.line_is;
  at_is = r.at_is ∙ ap place_of (sym (before_behind start r.pieces));
}

pub reached_first : (text : List ℕ) → Reached text text Fresh (record { line = 1; column = 1 }) []
reached_first text = record { pieces = []; spelled = refl; each = tt; line_is = refl; at_is = refl; tokens_are = refl }

pub reached_more : {text rest : List ℕ} {line : Line} {at : At} {tokens : List Token} (p : Piece) (after : List ℕ) →
    Reached text rest line at tokens → next_piece line at rest ≡ Ok p → rest ≡ p.bytes ++ after →
    Reached text after (line_behind line at (first p.bytes) p.token) (fold place_behind at p.bytes) (tokens ++ token_at at p.token)
reached_more {text} {rest} {line} {at} {tokens} p after r next split =
    let s = stands r in
    let c : Cursor = cursor_behind start r.pieces in
    let here : piece_behind c (p.bytes ++ after) ≡ Ok p =
    ap (λ l. next_piece l (place_of c.before) (p.bytes ++ after)) (sym s.line_is) ∙ ap (λ a. next_piece line a (p.bytes ++ after)) (sym s.at_is)
    ∙ ap (next_piece line at) (sym split) ∙ next in
    record {
      pieces = r.pieces ++ p ∷ [];
      spelled = r.spelled ∙ ap (λ t. text_of r.pieces ++ t) split ∙ sym (text_push r.pieces p after);
      each = pieces_push start r.pieces p after (subst (ArePieces start r.pieces) split r.each) here;
      line_is =
          ap (λ l. line_behind l at (first p.bytes) p.token) s.line_is ∙ ap (λ a. line_behind c.line a (first p.bytes) p.token) s.at_is
          ∙ sym (ap (λ (d : Cursor). d.line) (cursor_push start r.pieces p));
      at_is =
          ap (λ a. fold place_behind a p.bytes) r.at_is ∙ place_append (text_of r.pieces) p.bytes
          ∙ ap place_of (ap (λ t. text_of r.pieces ++ t) (sym (append-nil p.bytes)) ∙ sym (text_push r.pieces p []) ∙ append-nil (text_of (r.pieces ++ p ∷ [])));
      tokens_are =
          ap (λ t. t ++ token_at at p.token) r.tokens_are ∙ ap (λ a. tokens_of start r.pieces ++ token_at a p.token) s.at_is
          ∙ sym (tokens_push start r.pieces p);
    }

pub tokens_reached : {text : List ℕ} {line : Line} {at : At} {tokens : List Token} →
    Reached text [] line at tokens → AreTokens text (tokens ++ token_at at (Some kind.End))
tokens_reached {text} {line} {at} {tokens} r =
    let whole : text ≡ text_of r.pieces = r.spelled ∙ append-nil (text_of r.pieces) in
    record {
      pieces = r.pieces;
      spelled = whole;
      each = r.each;
      listed =
          ap (λ t. t ++ token_at at (Some kind.End)) r.tokens_are
          ∙ ap (λ a. tokens_of start r.pieces ++ token_at a (Some kind.End)) (r.at_is ∙ ap place_of (sym whole));
    }

pub broken_reached : {text rest : List ℕ} {line : Line} {at : At} {tokens : List Token} (there : At) (rule : Rule) →
    Reached text rest line at tokens → (rest ≡ [] → ⊥) → next_piece line at rest ≡ Err (there, rule) → IsBroken text there rule
broken_reached {text} {rest} {line} {at} {tokens} there rule r some fails =
    let s = stands r in
    let c : Cursor = cursor_behind start r.pieces in
    record {
      pieces = r.pieces;
      rest = rest;
      spelled = r.spelled;
      each = r.each;
      broken = ap (λ l. next_piece l (place_of c.before) rest) (sym s.line_is) ∙ ap (λ a. next_piece line a rest) (sym s.at_is) ∙ fails;
      some = some;
    }

pub fault_reached : {text rest : List ℕ} {line : Line} {at : At} {tokens : List Token} (e : Fault) →
    Reached text rest line at tokens → (rest ≡ [] → ⊥) → Fails e (next_piece line at rest) → IsFirstFault text e
fault_reached fault.NoMemory r some fails = tt
fault_reached (fault.Breaks there rule) r some fails = broken_reached there rule r some fails

first_is : (bytes : List ℕ) → get_or bytes 0 0 ≡ first bytes
first_is [] = refl
first_is (b ∷ bytes) = refl

-- the same, as the loop has it
pub reached_by : {text rest : List ℕ} {line : Line} {at : At} {tokens : List Token} (bytes after : List ℕ) (token : Option TokenKind) (l : Line) (a : At) (ts : List Token) →
    Reached text rest line at tokens → next_piece line at rest ≡ Ok (record { bytes = bytes; token = token }) → rest ≡ bytes ++ after →
    l ≡ line_behind line at (get_or bytes 0 0) token → a ≡ fold place_behind at bytes → ts ≡ tokens ++ token_at at token →
    Reached text after l a ts
reached_by {text} {rest} {line} {at} {tokens} bytes after token l a ts r next split e f g =
    let more = reached_more (record { bytes = bytes; token = token }) after r next split in
    rw (e ∙ ap (λ b. line_behind line at b token) (first_is bytes), f, g) more

pub not_empty : (rest : List ℕ) (b : Bool) → b ≡ (length rest == 0) → b ≡ false → rest ≡ [] → ⊥
not_empty [] b e f z = cc
not_empty (x ∷ rest) b e f z = cc
