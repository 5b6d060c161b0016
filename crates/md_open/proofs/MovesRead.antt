-- Assignments read one by one.
use Rattle.std.proofs.Common.{◌≡◌, ℕ, suc, Bool, true, false, cond, List, [], ◌∷◌, ◌++◌, Ok, Err, refl, sym, ap, ◌∙◌}
use Rattle.std.proofs.lemmas.List.{append_assoc}
use Rattle.rtl_spelling.specs.declared.signs.Sign.TheVariants as sign
use Rattle.rtl_spelling.specs.Tokens.{Token}
use Rattle.rtl_spelling.specs.Spelling.{Context, Said}
use Rattle.rtl_spelling.specs.Reading.{Read, ◌>>=◌, gives, head_of, rest_of, is_sign, expect, move, moves}
use Rattle.rtl_token.specs.declared.trouble.Trouble.{Trouble as Stop}
use Rattle.rtl_token.specs.declared.trouble.Trouble.TheVariants as stop
use Rattle.rtl_text.specs.Collected.{item}
use Rattle.rtl_token.specs.Gives.{Fails}
use Rattle.md_open.specs.Said.{adds}

-- the rest of the assignments behind one
abbrev others : Context → ℕ → Said × Bool → List Token → Read (List Said)
others c k x us = cond x.1 (gives (x.0 ∷ []) us) (moves c 31 k us >>= λ ms us. gives (x.0 ∷ ms) us)

behind_space : (c : Context) (k : ℕ) (m : Said) (read : Read (Unit {0}))
    → (read >>= λ _ us. moves c 31 k us >>= λ ms us. gives (m ∷ ms) us) ≡ ((read >>= λ _ us. gives (m, false) us) >>= others c k)
behind_space c k m (Ok x) = refl
behind_space c k m (Err e) = refl

behind_semicolon : (c : Context) (k : ℕ) (m : Said) (read : Read (Unit {0}))
    → (read >>= λ _ us. expect sign.Space us >>= λ _ us. moves c 31 k us >>= λ ms us. gives (m ∷ ms) us)
    ≡ ((read >>= λ _ us. expect sign.Space us >>= λ _ us. gives (m, false) us) >>= others c k)
behind_semicolon c k m (Ok x) = behind_space c k m (expect sign.Space x.1)
behind_semicolon c k m (Err e) = refl

behind_move : (c : Context) (k : ℕ) (m : Said) (us : List Token) (b : Bool)
    → cond b (gives (m ∷ []) (rest_of us)) (expect sign.Semicolon us >>= λ _ us. expect sign.Space us >>= λ _ us. moves c 31 k us >>= λ ms us. gives (m ∷ ms) us)
    ≡ (cond b (gives (m, true) (rest_of us)) (expect sign.Semicolon us >>= λ _ us. expect sign.Space us >>= λ _ us. gives (m, false) us) >>= others c k)
behind_move c k m us true = refl
behind_move c k m us false = behind_semicolon c k m (expect sign.Semicolon us)

from_move : (c : Context) (k : ℕ) (read : Read Said)
    → (read >>= λ m us. cond (is_sign sign.End (head_of us)) (gives (m ∷ []) (rest_of us))
    (expect sign.Semicolon us >>= λ _ us. expect sign.Space us >>= λ _ us. moves c 31 k us >>= λ ms us. gives (m ∷ ms) us))
    ≡ ((read >>= λ m us. cond (is_sign sign.End (head_of us)) (gives (m, true) (rest_of us))
    (expect sign.Semicolon us >>= λ _ us. expect sign.Space us >>= λ _ us. gives (m, false) us)) >>= others c k)
from_move c k (Ok x) = behind_move c k x.0 x.1 (is_sign sign.End (head_of x.1))
from_move c k (Err e) = refl

by_item : (c : Context) (n k : ℕ) (ts : List Token) → n ≡ suc k → moves c 31 n ts ≡ (item c ts >>= others c k)
by_item c n k ts s = ap (λ n. moves c 31 n ts) s ∙ from_move c k (move c 31 ts)

pub failed : (c : Context) (made : List Said) (n k : ℕ) (ts : List Token) (e : Stop) → n ≡ suc k → Fails e (item c ts) → Fails e (adds made (moves c 31 n ts))
failed c made n k ts stop.NoMemory s h = tt
failed c made n k ts (stop.Wrong w) s h = ap (adds made) (by_item c n k ts s ∙ ap (λ r. r >>= others c k) h)
failed c made n k ts (stop.Deep w) s h = ap (adds made) (by_item c n k ts s ∙ ap (λ r. r >>= others c k) h)

pub ended : (c : Context) (made more : List Said) (n k : ℕ) (ts us : List Token) (m : Said) (b : Bool) → n ≡ suc k → item c ts ≡ Ok ((m, b), us) → b ≡ true → more ≡ made ++ m ∷ []
    → adds made (moves c 31 n ts) ≡ Ok more
ended c made more n k ts us m b s h e p =
    let is : moves c 31 n ts ≡ Ok (m ∷ [], us) = by_item c n k ts s ∙ ap (λ r. r >>= others c k) h ∙ rw e in
    ap (adds made) is ∙ ap Ok (sym p)

with_first : (made more : List Said) (m : Said) (read : Read (List Said)) → more ≡ made ++ m ∷ [] → adds made (read >>= λ ms us. gives (m ∷ ms) us) ≡ adds more read
with_first made more m (Ok x) p = ap Ok (sym (append_assoc made (m ∷ []) x.0) ∙ ap (λ l. l ++ x.0) (sym p))
with_first made more m (Err e) p = refl

pub onward : (c : Context) (made more : List Said) (n k : ℕ) (ts us : List Token) (m : Said) (b : Bool) → n ≡ suc k → item c ts ≡ Ok ((m, b), us) → b ≡ false → more ≡ made ++ m ∷ []
    → adds made (moves c 31 n ts) ≡ adds more (moves c 31 k us)
onward c made more n k ts us m b s h e p =
    let is : moves c 31 n ts ≡ (moves c 31 k us >>= λ ms us. gives (m ∷ ms) us) = by_item c n k ts s ∙ ap (λ r. r >>= others c k) h ∙ rw e in
    ap (adds made) is ∙ with_first made more m (moves c 31 k us) p
