-- Places, a byte more at a time.
use Rattle.std.proofs.Common.{◌≡◌, ℕ, ◌+◌, ◌<◌, ◌≤◌, Bool, true, false, cond, not, List, [], ◌∷◌, ◌++◌, length, reverse, refl, sym, ap, ◌∙◌, arith, append_assoc, append-nil}
use Rattle.std.specs.Prelude.{count_by, fold, ◌==◌, if◌then◌else◌}
use Rattle.std.specs.List.{prefix_len}
use Rattle.std.proofs.lemmas.List.{reverse-append}
use Rattle.std.proofs.lemmas.List.Sums.{sum_by_push}
use Rattle.c_tree.specs.declared.token.At.{At}
use Rattle.c_lexer.specs.Pieces.{is_line_feed}
use Rattle.c_lexer.specs.Places.{place_of, place_behind}

abbrev in_line : ℕ → Bool
in_line b = not (is_line_feed b)

at_is : {l m : ℕ} {c d : ℕ} → l ≡ m → c ≡ d → (let x : At = record { line = l; column = c } in x) ≡ (let y : At = record { line = m; column = d } in y)
at_is e f = cc

-- a byte more, where t tells that it is a line feed
one_more : (t : Bool) (lines bytes : ℕ) →
    (let x : At = if t then record { line = 1 + lines + 1; column = 1 } else record { line = 1 + lines; column = 1 + bytes + 1 } in x)
    ≡ (let y : At = record { line = 1 + (lines + cond t 1 0); column = 1 + cond (not t) (1 + bytes) 0 } in y)
one_more true lines bytes = at_is (omega arith) (omega arith)
one_more false lines bytes = at_is (omega arith) (omega arith)

place_push : (before : List ℕ) (b : ℕ) → place_behind (place_of before) b ≡ place_of (before ++ b ∷ [])
place_push before b =
    let lines : count_by is_line_feed (before ++ b ∷ []) ≡ count_by is_line_feed before + cond (is_line_feed b) 1 0
    = sum_by_push (λ x. cond (is_line_feed x) 1 0) before b in
    let columns : prefix_len in_line (reverse (before ++ b ∷ [])) ≡ prefix_len in_line (b ∷ reverse before)
    = ap (prefix_len in_line) (reverse-append before (b ∷ [])) in
    one_more (is_line_feed b) (count_by is_line_feed before) (prefix_len in_line (reverse before))
    ∙ at_is (ap (λ n. 1 + n) (sym lines)) (ap (λ n. 1 + n) (sym columns))

pub place_append : (before bytes : List ℕ) → fold place_behind (place_of before) bytes ≡ place_of (before ++ bytes)
place_append before [] = ap place_of (sym (append-nil before))
place_append before (b ∷ bytes) =
    ap (λ at. fold place_behind at bytes) (place_push before b) ∙ place_append (before ++ b ∷ []) bytes
    ∙ ap place_of (append_assoc before (b ∷ []) bytes)
