-- What the automaton's way says of its runs.
use Rattle.std.proofs.Common.{◌≡◌, ℕ, Bool, true, false, List, [], ◌∷◌, ◌++◌, length, Some, None, refl, sym, ap, subst, ◌∙◌, arith}
use Rattle.std.specs.Prelude.{cond}
use Rattle.std.specs.List.{AllByRecursion}
use Rattle.rtl_spelling.specs.Tokens.{Token}
use Rattle.rtl_spelling.specs.Spelling.{Context, Placed, tokens_in}
use Rattle.rtl_spelling.specs.Reading.{Read, gives, wrong, deep}
use Rattle.rtl_spelling.proofs.Automaton.{Symbol, Stack, Step, step, stands, some_step, new_of, depth_of, followed, follow}
use Rattle.rtl_spelling.proofs.Runs.{Run}

abbrev pub Within : ℕ → List Placed → Type 0
Within most ps = AllByRecursion (λ p. stands most p.depth ≡ true) ps

-- the stops of a way over tokens
pub data Trace (c : Context) (most : ℕ) (s : Stack) (ts : List Token) : Read (Unit {0}) → Type 0 where
  through : (ps : List Placed) (us : List Token) → ts ≡ tokens_in ps ++ us → Run c s ps [] → Within most ps → Trace c most s ts (gives tt us)
  stopped : (ps : List Placed) (x : Symbol) (r : Stack) (t : Token) (us : List Token) → ts ≡ tokens_in ps ++ t ∷ us → Run c s ps (x ∷ r) → Within most ps → step c x t ≡ None → Trace c most s ts (wrong (t ∷ us))
  at_end : (ps : List Placed) (x : Symbol) (r : Stack) → ts ≡ tokens_in ps → Run c s ps (x ∷ r) → Within most ps → Trace c most s ts (wrong [])
  too_deep : (ps : List Placed) (x : Symbol) (r new : Stack) (d : ℕ) (t : Token) (us : List Token) → ts ≡ tokens_in ps ++ t ∷ us → Run c s ps (x ∷ r) → Within most ps → step c x t ≡ Some (d, new) → stands most d ≡ false → Trace c most s ts (deep (t ∷ us))

module _ (c : Context) (most : ℕ) where
  -- one token more in front
  longer : (x : Symbol) (s new : Stack) (d : ℕ) (t : Token) (ts : List Token) (a : Read (Unit {0})) → step c x t ≡ Some (d, new) → stands most d ≡ true
      → Trace c most (new ++ s) ts a → Trace c most (x ∷ s) (t ∷ ts) a
  longer x s new d t ts _ e h (through ps us split run within) =
      through (record { token = t; depth = d } ∷ ps) us (ap (λ l. t ∷ l) split) (new, e, run) (h, within)
  longer x s new d t ts _ e h (stopped ps y r u us split run within stop) =
      stopped (record { token = t; depth = d } ∷ ps) y r u us (ap (λ l. t ∷ l) split) (new, e, run) (h, within) stop
  longer x s new d t ts _ e h (at_end ps y r split run within) =
      at_end (record { token = t; depth = d } ∷ ps) y r (ap (λ l. t ∷ l) split) (new, e, run) (h, within)
  longer x s new d t ts _ e h (too_deep ps y r n k u us split run within is below) =
      too_deep (record { token = t; depth = d } ∷ ps) y r n k u us (ap (λ l. t ∷ l) split) (new, e, run) (h, within) is below

  on_depth : (x : Symbol) (s new : Stack) (d : ℕ) (t : Token) (ts : List Token) (b : Bool) → step c x t ≡ Some (d, new) → stands most d ≡ b
      → Trace c most (new ++ s) ts (follow c most (new ++ s) ts) → Trace c most (x ∷ s) (t ∷ ts) (cond b (follow c most (new ++ s) ts) (deep (t ∷ ts)))
  on_depth x s new d t ts true e h k = longer x s new d t ts _ e h k
  on_depth x s new d t ts false e h k = too_deep [] x s new d t ts refl refl tt e h

  on_step : (x : Symbol) (s : Stack) (t : Token) (ts : List Token) (o : Step) → step c x t ≡ o → ((s : Stack) → Trace c most s ts (follow c most s ts))
      → Trace c most (x ∷ s) (t ∷ ts) (followed most o (t ∷ ts) (λ new. follow c most (new ++ s) ts))
  on_step x s t ts None e h = stopped [] x s t ts refl refl tt e
  on_step x s t ts (Some y) e h = on_depth x s y.1 y.0 t ts (stands most y.0) e refl (h (y.1 ++ s))

  pub traced : (s : Stack) (ts : List Token) → Trace c most s ts (follow c most s ts)
  traced [] ts = through [] ts refl refl tt
  traced (x ∷ s) [] = at_end [] x s refl refl tt
  traced (x ∷ s) (t ∷ ts) = on_step x s t ts (step c x t) refl (λ s. traced s ts)

  -- a run is followed as far as its trees may stand
  pub run_followed : (ps : List Placed) (s r : Stack) (us : List Token) → Run c s ps r → Within most ps → follow c most s (tokens_in ps ++ us) ≡ follow c most r us
  run_followed [] s r us h w = ap (λ s. follow c most s us) h
  run_followed (p ∷ ps) [] r us h w = absurd h
  run_followed (p ∷ ps) (x ∷ s) r us h w = rw (h.1, w.0) (run_followed ps (h.0 ++ s) r us h.2 w.1)

  pub deep_followed : (x : Symbol) (s new : Stack) (d : ℕ) (t : Token) (us : List Token) → step c x t ≡ Some (d, new) → stands most d ≡ false
      → follow c most (x ∷ s) (t ∷ us) ≡ deep (t ∷ us)
  deep_followed x s new d t us e h = rw (e, h) refl

-- the tokens determine a run
token_head : (p q : Placed) (ps qs : List Placed) → tokens_in (p ∷ ps) ≡ tokens_in (q ∷ qs) → (p.token ≡ q.token) × (tokens_in ps ≡ tokens_in qs)
token_head p q ps qs e = (cc, cc)

placed_same : (p q : Placed) → p.token ≡ q.token → p.depth ≡ q.depth → p ≡ q
placed_same p q e f = λ i. record { token = e i; depth = f i }

step_same : (a b : ℕ) (s r : Stack) → some_step a s ≡ some_step b r → (a ≡ b) × (s ≡ r)
step_same a b s r e = (ap depth_of e, ap new_of e)

pub run_alike : (c : Context) (ps qs : List Placed) (s a b : Stack) → Run c s ps a → Run c s qs b → tokens_in ps ≡ tokens_in qs → ps ≡ qs
run_alike c [] [] s a b h k e = refl
run_alike c [] (q ∷ qs) s a b h k e = absurd (omega (arith, ap length e))
run_alike c (p ∷ ps) [] s a b h k e = absurd (omega (arith, ap length e))
run_alike c (p ∷ ps) (q ∷ qs) [] a b h k e = absurd h
run_alike c (p ∷ ps) (q ∷ qs) (x ∷ s) a b h k e =
    let t = token_head p q ps qs e in
    let same = step_same p.depth q.depth h.0 k.0 (sym h.1 ∙ (ap (step c x) t.0 ∙ k.1)) in
    let rest : ps ≡ qs = run_alike c ps qs (h.0 ++ s) a b h.2 (subst (λ n. Run c (n ++ s) qs b) (sym same.1) k.2) t.1 in
    let first : p ≡ q = placed_same p q t.0 same.0 in
    λ i. first i ∷ rest i
