-- The tokens of a written line are read back.
use Rattle.std.proofs.Common.{◌≡◌, ℕ, Bool, true, false, ◌&&◌, cond, List, [], ◌∷◌, ◌++◌, length, refl, subst, arith}
use Rattle.std.proofs.lemmas.List.{append-nil}
use Rattle.std.proofs.lemmas.List.Elements.{All-head, All-tail}
use Rattle.std.specs.List.{All}
use Rattle.std.specs.Prelude.{IsTrue}
use Rattle.asm_token.specs.Tokens.{Token, Name, Number, Mark, IsToken, spelling, Longest, Spells, at_end, after_gap, one_token}
use Rattle.asm_token.specs.Length.{token_length}
use Rattle.asm_token.specs.Line.{is_word, space_between, after_token, line_of}
use Rattle.asm_token.proofs.Bytes.{mark_no_name}
use Rattle.asm_token.proofs.Lengths.{Stands, token_exactly}
use Rattle.asm_token.proofs.Front.{longest_at}

pub longest_where_it_stands : (t : Token) (more : List ℕ) → IsToken t → Stands t more → Longest t more
longest_where_it_stands t more h s =
    let same : token_length (spelling t ++ more) ≡ length (spelling t) = token_exactly t more h s in
    longest_at t more (omega arith)

stands_at_end : (t : Token) → Stands t []
stands_at_end (Name bs) = tt
stands_at_end (Number z) = tt
stands_at_end (Mark b) = tt

stands_at_space : (t : Token) (more : List ℕ) → Stands t (32 ∷ more)
stands_at_space (Name bs) more = refl
stands_at_space (Number z) more = refl
stands_at_space (Mark b) more = tt

stands_at_next : (t u : Token) (more : List ℕ) → IsToken u → Stands t (space_between t u ++ (spelling u ++ more))
stands_at_next (Name bs) (Name cs) more k = refl
stands_at_next (Name bs) (Number z) more k = refl
stands_at_next (Name bs) (Mark c) more k = mark_no_name c k
stands_at_next (Number y) (Name cs) more k = refl
stands_at_next (Number y) (Number z) more k = refl
stands_at_next (Number y) (Mark c) more k = mark_no_name c k
stands_at_next (Mark b) u more k = tt

stands_before : (t : Token) (ts : List Token) → All IsToken ts → Stands t (after_token t ts)
stands_before t [] h = stands_at_end t
stands_before t (u ∷ us) h = stands_at_next t u (after_token u us) (All-head IsToken u us h)

spaced : (gap : ℕ → Bool) (b : Bool) (bs : List ℕ) (ts : List Token) → IsTrue (gap 32) → Spells gap bs ts → Spells gap (cond b (32 ∷ []) [] ++ bs) ts
spaced gap true bs ts g h = after_gap 32 bs ts g h
spaced gap false bs ts g h = h

after_reads_back : (gap : ℕ → Bool) (t : Token) (ts : List Token) → IsTrue (gap 32) → All IsToken ts → Spells gap (after_token t ts) ts
after_reads_back gap t [] g h = at_end
after_reads_back gap t (u ∷ us) g h =
    let others : All IsToken us = All-tail IsToken u us h in
    let head : IsToken u = All-head IsToken u us h in
    spaced gap (is_word t && is_word u) (spelling u ++ after_token u us) (u ∷ us) g
    (one_token u (after_token u us) us head (longest_where_it_stands u (after_token u us) head (stands_before u us others)) (after_reads_back gap u us g others))

pub line_reads_back : (gap : ℕ → Bool) (ts : List Token) → IsTrue (gap 32) → All IsToken ts → Spells gap (line_of ts) ts
line_reads_back gap [] g h = at_end
line_reads_back gap (t ∷ []) g h =
    let head : IsToken t = All-head IsToken t [] h in
    let P : List ℕ → Type 0 = λ bs. Spells gap bs (t ∷ []) in
    subst P (append-nil (spelling t)) (one_token t [] [] head (longest_where_it_stands t [] head (stands_at_end t)) at_end)
line_reads_back gap (t ∷ (u ∷ us)) g h =
    let head : IsToken t = All-head IsToken t (u ∷ us) h in
    let others : All IsToken (u ∷ us) = All-tail IsToken t (u ∷ us) h in
    let next : IsToken u = All-head IsToken u us others in
    let last : All IsToken us = All-tail IsToken u us others in
    let rest : List ℕ = spelling u ++ after_token u us in
    one_token t (32 ∷ rest) (u ∷ us) head (longest_where_it_stands t (32 ∷ rest) head (stands_at_space t rest))
    (after_gap 32 rest (u ∷ us) g
    (one_token u (after_token u us) us next (longest_where_it_stands u (after_token u us) next (stands_before u us last)) (after_reads_back gap u us g last)))
