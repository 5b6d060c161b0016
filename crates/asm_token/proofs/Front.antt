-- The longest token with which a text begins.
use Rattle.std.proofs.Common.{◌≡◌, ℕ, ◌<◌, ◌≤◌, List, ◌++◌, length, drop, sym, ap, arith}
use Rattle.asm_token.specs.Tokens.{Token, IsToken, spelling, Longest, LongestToken, BeginsNoToken}
use Rattle.asm_token.specs.Length.{token_length}
use Rattle.asm_token.proofs.Lengths.{token_nonempty, token_at_most}

-- a token of the greatest length is the longest
pub longest_at : (t : Token) (rest : List ℕ) → token_length (spelling t ++ rest) ≤ length (spelling t) → Longest t rest
longest_at t rest l = record {
  at_least = λ u more h e.
      let most : length (spelling u) ≤ token_length (spelling t ++ rest) = rw e (token_at_most u more h) in
      omega arith;
}

pub longest_token : (text : List ℕ) (t : Token) (n : ℕ) → IsToken t → text ≡ spelling t ++ drop n text → length (spelling t) ≡ n → token_length text ≤ n → LongestToken text t n
longest_token text t n h e l m = record {
  is_token = h;
  spelled = e;
  bytes = l;
  longest = longest_at t (drop n text) (let same : token_length (spelling t ++ drop n text) ≡ token_length text = ap token_length (sym e) in omega arith);
}

pub no_token : (text : List ℕ) → token_length text ≡ 0 → BeginsNoToken text
no_token text z t rest h e =
    let most : length (spelling t) ≤ token_length text = rw e (token_at_most t rest h) in
    let some : 0 < length (spelling t) = token_nonempty t h in
    absurd (omega arith)
