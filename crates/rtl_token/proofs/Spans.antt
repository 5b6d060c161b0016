-- How many bytes some tokens have.
use Rattle.std.proofs.Common.{◌≡◌, ℕ, suc, zero, ◌+◌, ◌<◌, ◌≤◌, List, [], ◌∷◌, length, get_or, take, arith, length-append}
use Rattle.rtl_spelling.specs.Tokens.{spelled, spelling}
use Rattle.rtl_token.specs.Seen.{token_of, tokens_of}
use Rattle.rtl_token.specs.declared.token.Token.{Token as Borrowed}

bytes_of : List Borrowed → ℕ
bytes_of ts = length (spelled (tokens_of ts))

more_bytes : (t : Borrowed) (ts : List Borrowed) → bytes_of (t ∷ ts) ≡ length (spelling (token_of t)) + bytes_of ts
unfolding bytes_of
more_bytes t ts = length-append (spelling (token_of t)) (spelled (tokens_of ts))

front_bytes : (ts : List Borrowed) (k : ℕ) → bytes_of (take k ts) ≤ bytes_of ts
unfolding bytes_of
front_bytes ts zero = omega arith
front_bytes [] (suc k) = omega arith
front_bytes (t ∷ ts) (suc k) = omega (arith, front_bytes ts k, more_bytes t ts, more_bytes t (take k ts))

next_bytes : (ts : List Borrowed) (i : ℕ) (d : Borrowed) → i < length ts → bytes_of (take i ts) + length (spelling (token_of (get_or ts i d))) ≤ bytes_of ts
unfolding bytes_of
next_bytes [] i d l = absurd (omega arith)
next_bytes (t ∷ ts) zero d l = omega (arith, more_bytes t ts)
next_bytes (t ∷ ts) (suc i) d l = omega (arith, next_bytes ts i d (omega arith), more_bytes t ts, more_bytes t (take i ts))

-- the place behind one more token of a front
pub place_within : (ts front : List Borrowed) (k i place n : ℕ) (d : Borrowed) → front ≡ take k ts → i < length front
    → place ≡ length (spelled (tokens_of (take i front))) → n ≡ length (spelling (token_of (get_or front i d))) → place + n ≤ length (spelled (tokens_of ts))
unfolding bytes_of
place_within ts front k i place n d e l p q =
    let a : bytes_of (take k ts) ≤ bytes_of ts = front_bytes ts k in
    let b : bytes_of front ≤ bytes_of ts = rw e a in
    let c : bytes_of (take i front) + length (spelling (token_of (get_or front i d))) ≤ bytes_of front = next_bytes front i d l in
    omega (arith, b, c)
