-- What the automaton passes over begins a spelling, and what begins one it passes over.
use Rattle.std.proofs.Common.{◌≡◌, ℕ, suc, ◌+◌, ◌≤◌, List, [], ◌∷◌, ◌++◌, None, Ok, Err, refl, sym, ap, subst, ◌∙◌, append_assoc, arith}
use Rattle.std.proofs.lemmas.List.{append-nil}
use Rattle.std.proofs.lemmas.List.Elements.{All-nil, All-cons, All-head, All-tail}
use Rattle.rtl_spelling.specs.Tokens.{Token}
use Rattle.rtl_spelling.specs.Spelling.{Context, IsContext, Placed, tokens_in, Said, SpellsTransfer, AreWithin}
use Rattle.rtl_spelling.specs.Faults.{Begins}
use Rattle.rtl_spelling.specs.Reading.{Read, ◌>>=◌, gives, transfer}
use Rattle.rtl_spelling.proofs.Automaton.{Symbol, Stack, step, start, stand, stood, new_of, follow}
use Rattle.rtl_spelling.proofs.Follow.{transfer_is}
use Rattle.rtl_spelling.proofs.Runs.{Run, run_append, transfer_run}
use Rattle.rtl_spelling.proofs.Completion.{start_may, run_may, Completes, completes}
use Rattle.rtl_spelling.proofs.Traces.{Within, run_followed, run_alike}
use Rattle.rtl_spelling.proofs.Sound.{Transferred, transfer_spelled}
use Rattle.rtl_spelling.proofs.Ends.{tokens_append}

-- ---- depths

pub within_from : (most : ℕ) (ps : List Placed) → Within most ps → AreWithin most ps
within_from most [] h = All-nil (λ (p : Placed). p.depth ≤ most)
within_from most (p ∷ ps) h = All-cons (λ (p : Placed). p.depth ≤ most) p ps (stood most p.depth h.0) (within_from most ps h.1)

pub within_to : (most : ℕ) (ps : List Placed) → AreWithin most ps → Within most ps
within_to most [] h = tt
within_to most (p ∷ ps) h =
    (stand most p.depth (All-head (λ (p : Placed). p.depth ≤ most) p ps h), within_to most ps (All-tail (λ (p : Placed). p.depth ≤ most) p ps h))

abbrev deepest : List Placed → ℕ
deepest [] = 0
deepest (p ∷ ps) = p.depth + deepest ps

within_deepest : (most : ℕ) (ps : List Placed) → deepest ps ≤ most → Within most ps
within_deepest most [] h = tt
within_deepest most (p ∷ ps) h = (stand most p.depth (omega (arith, h)), within_deepest most ps (omega (arith, h)))

-- ---- runs

pub run_split : (c : Context) (ps qs : List Placed) (a b : Stack) → Run c a (ps ++ qs) b → (s : Stack) × Run c a ps s × Run c s qs b
run_split c [] qs a b h = (a, refl, h)
run_split c (p ∷ ps) qs [] b h = absurd h
run_split c (p ∷ ps) qs (x ∷ a) b h = let r = run_split c ps qs (h.0 ++ a) b h.2 in (r.0, (h.0, h.1, r.1), r.2)

run_same : (c : Context) (ps : List Placed) (s a b : Stack) → Run c s ps a → Run c s ps b → a ≡ b
run_same c [] s a b h k = sym h ∙ k
run_same c (p ∷ ps) [] a b h k = absurd h
run_same c (p ∷ ps) (x ∷ s) a b h k =
    let same : h.0 ≡ k.0 = ap new_of (sym h.1 ∙ k.1) in
    run_same c ps (h.0 ++ s) a b h.2 (subst (λ n. Run c (n ++ s) ps b) (sym same) k.2)

-- the tokens determine where a run leads
pub run_end : (c : Context) (ps qs : List Placed) (s a b : Stack) → Run c s ps a → Run c s qs b → tokens_in ps ≡ tokens_in qs → a ≡ b
run_end c ps qs s a b h k e = run_same c ps s a b h (subst (λ qs. Run c s qs b) (sym (run_alike c ps qs s a b h k e)) k)

pub record Split (ps : List Placed) (us vs : List Token) : Type 0 where
  pub front : List Placed
  pub back : List Placed
  pub is : ps ≡ front ++ back
  pub first : tokens_in front ≡ us
  pub second : tokens_in back ≡ vs

pub split_tokens : (ps : List Placed) (us vs : List Token) → tokens_in ps ≡ us ++ vs → Split ps us vs
split_tokens ps [] vs e = record { front = []; back = ps; is = refl; first = refl; second = e }
split_tokens [] (u ∷ us) vs e = absurd cc
split_tokens (p ∷ ps) (u ∷ us) vs e =
    let rest : tokens_in ps ≡ us ++ vs = cc in
    let head : p.token ≡ u = cc in
    let r = split_tokens ps us vs rest in
    record { front = p ∷ r.front; back = r.back; is = ap (λ l. p ∷ l) r.is; first = λ i. head i ∷ r.first i; second = r.second }

-- ---- a whole run is a spelling

transfer_of : (c : Context) (f : ℕ) (ts : List Token) (r : Read (List Said)) → transfer c f ts ≡ r → (r >>= λ _ us. gives tt us) ≡ gives (tt {0}) []
    → (ms : List Said) × (transfer c f ts ≡ gives ms [])
transfer_of c f ts (Ok x) e h = (x.0, e ∙ ap (λ us. gives x.0 us) (ap rest_in h))
  where
    rest_in : Read (Unit {0}) → List Token
    rest_in (Ok x) = x.1
    rest_in (Err e) = []
transfer_of c f ts (Err t) e h = absurd cc

module _ (c : Context) (k : IsContext c) where
  whole_spelled : (ps : List Placed) → Run c start ps [] → (ms : List Said) × SpellsTransfer c ms ps
  whole_spelled ps h =
      let f : ℕ = deepest ps in
      let ts : List Token = tokens_in ps in
      let followed : follow c (suc f) start (ts ++ []) ≡ gives tt [] = run_followed c (suc f) ps start [] [] h (within_deepest (suc f) ps (omega arith)) in
      let read = transfer_of c f (ts ++ []) (transfer c f (ts ++ [])) refl (sym (transfer_is c f (ts ++ [])) ∙ followed) in
      let s : Transferred c k (ts ++ []) read.0 [] = transfer_spelled c k f (ts ++ []) [] read.0 read.1 in
      let tokens : tokens_in ps ≡ tokens_in s.placed = sym (append-nil ts) ∙ s.split ∙ append-nil (tokens_in s.placed) in
      let same : ps ≡ s.placed = run_alike c ps s.placed start [] [] h (transfer_run c k read.0 s.placed s.spells) tokens in
      (read.0, subst (SpellsTransfer c read.0) (sym same) s.spells)

  -- a spelling begins so
  pub record Begun (ps : List Placed) (s : Stack) : Type 0 where
    pub said : List Said
    pub after : List Placed
    pub spells : SpellsTransfer c said (ps ++ after)
    pub run : Run c s after []

  pub begun : (ps : List Placed) (s : Stack) → Run c start ps s → Begun ps s
  begun ps s h =
      let rest : Completes c s = completes c s (run_may c ps start s (start_may c) h) in
      let whole = whole_spelled (ps ++ rest.placed) (run_append c ps rest.placed start s [] h rest.run) in
      record { said = whole.0; after = rest.placed; spells = whole.1; run = rest.run }

  pub run_begins : (ps : List Placed) (s : Stack) (us : List Token) → Run c start ps s → tokens_in ps ≡ us → Begins c us
  run_begins ps s us h e =
      let b = begun ps s h in
      record { said = b.said; placed = ps ++ b.after; after = tokens_in b.after; spells = b.spells; begins = tokens_append ps b.after ∙ ap (λ l. l ++ tokens_in b.after) e }

  pub begins_run : (us : List Token) → Begins c us → (ps : List Placed) × (s : Stack) × Run c start ps s × (tokens_in ps ≡ us)
  begins_run us b =
      let p = split_tokens b.placed us b.after b.begins in
      let r = run_split c p.front p.back start [] (subst (λ ps. Run c start ps []) p.is (transfer_run c k b.said b.placed b.spells)) in
      (p.front, r.0, r.1, p.first)

  no_step : (x : Symbol) (r s : Stack) (t : Token) (ps : List Placed) → step c x t ≡ None → tokens_in ps ≡ t ∷ [] → Run c (x ∷ r) ps s → ⊥
  no_step x r s t [] e is h = absurd cc
  no_step x r s t (p ∷ ps) e is h = let same : p.token ≡ t = cc in absurd (let n : step c x p.token ≡ None = ap (step c x) same ∙ e in cc)

  -- where the automaton stops, nothing goes on
  pub stops : (ps : List Placed) (x : Symbol) (r : Stack) (t : Token) (us : List Token) → Run c start ps (x ∷ r) → step c x t ≡ None → tokens_in ps ≡ us → Begins c (us ++ t ∷ []) → ⊥
  stops ps x r t us h e is b =
      let run = begins_run (us ++ t ∷ []) b in
      let p = split_tokens run.0 us (t ∷ []) run.3 in
      let parts = run_split c p.front p.back start run.1 (subst (λ ps. Run c start ps run.1) p.is run.2) in
      let same : parts.0 ≡ x ∷ r = run_end c p.front ps start parts.0 (x ∷ r) parts.1 h (p.first ∙ sym is) in
      no_step x r run.1 t p.back e p.second (subst (λ s. Run c s p.back run.1) same parts.2)

pub fewer_begin : (c : Context) (us vs : List Token) → Begins c (us ++ vs) → Begins c us
fewer_begin c us vs b = record { said = b.said; placed = b.placed; after = vs ++ b.after; spells = b.spells; begins = b.begins ∙ append_assoc us vs b.after }
