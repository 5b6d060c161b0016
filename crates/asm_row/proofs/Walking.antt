-- A text is read token by token.
use Rattle.std.proofs.Common.{◌≡◌, ℕ, suc, ◌+◌, ◌<◌, ◌≤◌, Bool, true, false, cond, ◌==◌, List, [], ◌∷◌, ◌-◌, length, take, drop, refl, sym, ap, subst, ◌∙◌, arith, length-append}
use Rattle.std.proofs.Math.Seq.{take-length}
use Rattle.std.proofs.lemmas.List.{length-drop}
use Rattle.std.specs.List.{prefix_len}
use Rattle.std.proofs.lemmas.Bool.{eqb-true}
use Rattle.asm_token.specs.Tokens.{Token, LongestToken, BeginsNoToken, Spells, at_end, after_gap, one_token, is_blank_or_tab, spelling}
use Rattle.asm_token.proofs.Lengths.{token_nonempty}
use Rattle.asm_token.proofs.Steps.{nothing_left, past_gap, past_token, no_tokens, blank_or_tab_is_gap}
use Rattle.asm_row.specs.Walk.{IsLine}
use Rattle.asm_token.specs.Seen.{token_of}
use Rattle.asm_row.specs.declared.tokens.Next.{Next}
use Rattle.asm_row.specs.declared.tokens.Next.TheVariants as next
use Rattle.asm_row.specs.Walk.{BeginsWithNoGap, IsToken, IsEnd, IsNext, LineOf}

abbrev pub gap : ℕ → Bool
gap = is_blank_or_tab

one_more : (m : ℕ) (b : ℕ) (bs : List ℕ) → drop (1 + m) (b ∷ bs) ≡ drop m bs
one_more m b bs = let e : 1 + m ≡ suc m = omega arith in ap (λ (k : ℕ). drop k (b ∷ bs)) e

-- a text without its first blanks and tabs

abbrev pub past : List ℕ → List ℕ
past text = drop (prefix_len gap text) text

pub record Trimmed (text rest : List ℕ) : Type 0 where
  pub forward : (ts : List Token) → IsLine text ts → IsLine rest ts
  pub back : (ts : List Token) → IsLine rest ts → IsLine text ts
  pub begins : BeginsWithNoGap rest
  pub shorter : length rest ≤ length text

trim_by : (c : Bool) (b : ℕ) (bs : List ℕ) → gap b ≡ c → Trimmed bs (past bs) → Trimmed (b ∷ bs) (drop (cond c (1 + prefix_len gap bs) 0) (b ∷ bs))
trim_by true b bs g t =
    subst (Trimmed (b ∷ bs)) (sym (one_more (prefix_len gap bs) b bs))
    (record {
      forward = λ ts h. t.forward ts (past_gap gap b bs (b ∷ bs) ts blank_or_tab_is_gap g h refl);
      back = λ ts h. after_gap b bs ts g (t.back ts h);
      begins = t.begins;
      shorter = omega (arith, t.shorter);
    })
trim_by false b bs g t = record { forward = λ ts h. h; back = λ ts h. h; begins = g; shorter = omega arith }

pub trimmed : (text : List ℕ) → Trimmed text (past text)
trimmed [] = record { forward = λ ts h. h; back = λ ts h. h; begins = tt; shorter = omega arith }
trimmed (b ∷ bs) = trim_by (gap b) b bs refl (trimmed bs)

-- what begins a text that begins with no gap

pub end_is : (text : List ℕ) → text ≡ [] → IsEnd text
end_is text e = record {
  empty = subst (λ (xs : List ℕ). IsLine xs []) (sym e) at_end;
  only = λ ts h. nothing_left gap text ts h e;
}

pub bad_is : (text : List ℕ) → BeginsWithNoGap text → BeginsNoToken text → 0 < length text → (ts : List Token) → IsLine text ts → ⊥
bad_is [] g none some ts h = omega (arith, some)
bad_is (b ∷ bs) g none some ts h = no_tokens gap b bs ts g none h

before_token : (text : List ℕ) (t : Token) (n : ℕ) (ts : List Token) → LongestToken text t n → Spells gap (drop n text) ts → Spells gap text (t ∷ ts)
before_token text t n ts l h =
    let P : List ℕ → Type 0 = λ ds. Spells gap ds (t ∷ ts) in
    subst P (sym l.spelled) (one_token t (drop n text) ts l.is_token l.longest h)

pub token_is : (text : List ℕ) (t : Token) (n : ℕ) → LongestToken text t n → IsToken text t (drop n text)
token_is text t n l =
    let some : 0 < length (spelling t) = token_nonempty t l.is_token in
    record {
      onward = λ us h. before_token text t n us l h;
      back = λ ts h. let k = past_token gap text t n ts blank_or_tab_is_gap l h in record { others = k.others; are = k.is; line = k.spelled };
      shorter = omega (arith, some, ap length l.spelled, length-append (spelling t) (drop n text));
    }

-- and of one that begins with a gap

pub end_before : (text rest : List ℕ) → Trimmed text rest → IsEnd rest → IsEnd text
end_before text rest t e = record { empty = t.back [] e.empty; only = λ ts h. e.only ts (t.forward ts h) }

pub bad_before : (text rest : List ℕ) → Trimmed text rest → ((ts : List Token) → IsLine rest ts → ⊥) → (ts : List Token) → IsLine text ts → ⊥
bad_before text rest t none ts h = none ts (t.forward ts h)

pub token_before : (text rest more : List ℕ) (u : Token) → Trimmed text rest → IsToken rest u more → IsToken text u more
token_before text rest more u t k = record {
  onward = λ us h. t.back (u ∷ us) (k.onward us h);
  back = λ ts h. k.back ts (t.forward ts h);
  shorter = omega (arith, t.shorter, k.shorter);
}

next_by : (text rest : List ℕ) (r : Next) → Trimmed text rest → IsNext rest r → IsNext text r
next_by text rest next.End t h = end_before text rest t h
next_by text rest next.Bad t h = bad_before text rest t h
next_by text rest (next.Token u more) t h = token_before text rest more.now (token_of u) t h

pub take_rest : (xs : List ℕ) (k : ℕ) → take (length xs - k) (drop k xs) ≡ drop k xs
take_rest xs k = subst (λ (m : ℕ). take m (drop k xs) ≡ drop k xs) (length-drop k xs) (take-length (drop k xs))

pub next_of : (text rest : List ℕ) (n : ℕ) (r : Next) → n ≡ prefix_len gap text → rest ≡ take (length text - n) (drop n text) → IsNext rest r → IsNext text r
next_of text rest n r e f h =
    let same : rest ≡ past text = f ∙ take_rest text n ∙ ap (λ (m : ℕ). drop m text) e in
    next_by text (past text) r (trimmed text) (subst (λ (xs : List ℕ). IsNext xs r) same h)

pub begins_by : (text : List ℕ) (n : ℕ) → n ≡ prefix_len gap text → BeginsWithNoGap (take (length text - n) (drop n text))
begins_by text n e =
    subst BeginsWithNoGap (sym (take_rest text n ∙ ap (λ (m : ℕ). drop m text) e)) (trimmed text).begins

pub empty_text : (xs : List ℕ) (b : Bool) → b ≡ (length xs == 0) → b ≡ true → xs ≡ []
empty_text [] b e f = refl
empty_text (x ∷ xs) b e f = absurd (omega (arith, eqb-true (suc (length xs)) 0 (sym e ∙ f)))

pub first_is : (text : List ℕ) (t : Token) (n : ℕ) → LongestToken text t n → IsToken text t (take (length text - n) (drop n text))
first_is text t n l = subst (IsToken text t) (sym (take_rest text n)) (token_is text t n l)

-- lines

pub line_from_end : (text : List ℕ) → IsEnd text → LineOf text
line_from_end text e = ([], e.empty)

pub line_onward : (text rest : List ℕ) (t : Token) → IsToken text t rest → LineOf rest → LineOf text
line_onward text rest t k l = (t ∷ l.0, k.onward l.0 l.1)

pub line_back : (text rest : List ℕ) (t : Token) → IsToken text t rest → LineOf text → LineOf rest
line_back text rest t k l = let s = k.back l.0 l.1 in (s.others, s.line)
