-- A text is read in one way at most.
use Rattle.std.proofs.Common.{◌≡◌, ℕ, Bool, true, false, ◌⊎◌, inl, inr, List, [], ◌∷◌, ◌++◌, Option, Some, None, Result, Ok, Err, length, refl, sym, ap, ◌∙◌, subst, append_assoc, append-nil}
use Rattle.vp_io.specs.declared.answers.Reason.{Reason}
use Rattle.c_tree.specs.declared.token.At.{At}
use Rattle.c_tree.specs.declared.token.Token.{Token}
use Rattle.c_tree.specs.declared.token.TokenKind.TheVariants as kind
use Rattle.c_lexer.specs.declared.rule.Rule.{Rule}
use Rattle.c_lexer.specs.declared.line.Line.{Line}
use Rattle.c_lexer.specs.declared.line.Line.TheVariants.{Fresh, Used, Included}
use Rattle.c_lexer.specs.Words.{marks}
use Rattle.c_lexer.specs.Pieces.{piece_at, mark}
use Rattle.c_lexer.specs.Places.{place_of}
use Rattle.c_lexer.specs.Lexing.{Piece, Cursor, start, moved, next_piece, piece_behind, text_of, ArePieces, cursor_behind, token_at, tokens_of, AreTokens, IsBroken}
use Rattle.c_lexer.specs.Outcome.{reason_of, IsReason, IsOutcome, OneOutcome}

cancel : (a x y : List ℕ) → a ++ x ≡ a ++ y → x ≡ y
cancel [] x y e = e
cancel (b ∷ a) x y e = cancel a x y (cc)

same_ok : (x y : Piece) → (let r : Result Piece (At × Rule) = Ok x in r) ≡ Ok y → x ≡ y
same_ok x y e = cc

same_fault : (x y : At × Rule) → (let r : Result Piece (At × Rule) = Err x in r) ≡ Err y → x ≡ y
same_fault x y e = cc

-- no piece stands at the end of a text
none_at_end : (line : Line) (here : At) (p : Piece) → next_piece line here [] ≡ Ok p → ⊥
unfolding next_piece piece_at mark marks
none_at_end Fresh here p e = cc
none_at_end Used here p e = cc
none_at_end (Included hash) here p e = cc

-- the reading stops at the end, or at a fault
abbrev Stops : Cursor → List ℕ → Type 0
Stops c rest = (rest ≡ []) ⊎ ((f : At × Rule) × (piece_behind c rest ≡ Err f))

never : (c : Cursor) (rest : List ℕ) (p : Piece) → Stops c rest → piece_behind c rest ≡ Ok p → ⊥
never c rest p (inl e) next = none_at_end c.line (place_of c.before) p (ap (piece_behind c) (sym e) ∙ next)
never c rest p (inr f) next = let e = f.1 in cc

record Same (ps qs : List Piece) (rest rest' : List ℕ) : Type 0 where
  pieces : ps ≡ qs
  behind : rest ≡ rest'

same_pieces : (c : Cursor) (ps qs : List Piece) (rest rest' : List ℕ) → ArePieces c ps rest → ArePieces c qs rest' →
    text_of ps ++ rest ≡ text_of qs ++ rest' → Stops (cursor_behind c ps) rest → Stops (cursor_behind c qs) rest' → Same ps qs rest rest'
same_pieces c [] [] rest rest' a b e s t = record { pieces = refl; behind = e }
same_pieces c [] (q ∷ qs) rest rest' a b e s t =
    absurd (never c rest q s (ap (piece_behind c) (e ∙ append_assoc q.bytes (text_of qs) rest') ∙ b.0))
same_pieces c (p ∷ ps) [] rest rest' a b e s t =
    absurd (never c rest' p t (ap (piece_behind c) (sym e ∙ append_assoc p.bytes (text_of ps) rest) ∙ a.0))
same_pieces c (p ∷ ps) (q ∷ qs) rest rest' a b e s t =
    let whole : p.bytes ++ (text_of ps ++ rest) ≡ q.bytes ++ (text_of qs ++ rest')
    = sym (append_assoc p.bytes (text_of ps) rest) ∙ e ∙ append_assoc q.bytes (text_of qs) rest' in
    let first : p ≡ q = same_ok p q (sym a.0 ∙ ap (piece_behind c) whole ∙ b.0) in
    let others : text_of ps ++ rest ≡ text_of qs ++ rest'
    = cancel p.bytes _ _ (whole ∙ ap (λ (r : Piece). r.bytes ++ (text_of qs ++ rest')) (sym first)) in
    let more = same_pieces (moved c p) ps qs rest rest' a.1 (subst (λ r. ArePieces (moved c r) qs rest') (sym first) b.1) others s
    (subst (λ r. Stops (cursor_behind (moved c r) qs) rest') (sym first) t) in
    record { pieces = ap (λ r. r ∷ ps) first ∙ ap (λ rs. q ∷ rs) more.pieces; behind = more.behind }

-- two readings of a text
of_tokens : (text : List ℕ) (ts us : List Token) (a : AreTokens text ts) (b : AreTokens text us) → ts ≡ us
of_tokens text ts us a b =
    let same = same_pieces start a.pieces b.pieces [] [] a.each b.each (ap (λ t. t ++ []) (sym a.spelled ∙ b.spelled)) (inl refl) (inl refl) in
    a.listed ∙ ap (λ ps. tokens_of start ps ++ token_at (place_of text) (Some kind.End)) same.pieces ∙ sym b.listed

not_both : (text : List ℕ) (ts : List Token) (at : At) (rule : Rule) → AreTokens text ts → IsBroken text at rule → ⊥
not_both text ts at rule a b =
    let same = same_pieces start a.pieces b.pieces [] b.rest a.each b.each (append-nil (text_of a.pieces) ∙ sym a.spelled ∙ b.spelled) (inl refl)
    (inr ((at, rule), b.broken)) in
    b.some (sym same.behind)

of_faults : (text : List ℕ) (at there : At) (rule other : Rule) → IsBroken text at rule → IsBroken text there other → (let f : At × Rule = (at, rule) in f) ≡ (there, other)
of_faults text at there rule other a b =
    let same = same_pieces start a.pieces b.pieces a.rest b.rest a.each b.each (sym a.spelled ∙ b.spelled)
    (inr ((at, rule), a.broken)) (inr ((there, other), b.broken)) in
    same_fault (at, rule) (there, other)
    (sym a.broken ∙ ap (λ ps. piece_behind (cursor_behind start ps) a.rest) same.pieces ∙ ap (piece_behind (cursor_behind start b.pieces)) same.behind
    ∙ b.broken)

pub one_outcome : OneOutcome
one_outcome text (Ok ts) (Ok us) a b = ap (λ v. Ok v) (of_tokens text ts us a b)
one_outcome text (Ok ts) (Err r) a b = absurd (not_both text ts b.at b.rule a b.broken)
one_outcome text (Err r) (Ok us) a b = absurd (not_both text us a.at a.rule b a.broken)
one_outcome text (Err r) (Err q) a b =
    ap (λ v. Err v) (a.told ∙ ap (λ (f : At × Rule). reason_of f.0 f.1) (of_faults text a.at b.at a.rule b.rule a.broken b.broken) ∙ sym b.told)
