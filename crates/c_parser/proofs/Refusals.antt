-- Tokens are refused for one reason at most, and for none where they are those of a tree.
use Rattle.std.proofs.Common.{◌⊎◌, inl, inr, ◌≡◌, ℕ, suc, ◌<◌, ◌≤◌, Bool, true, false, cond, nat_le, List, [], ◌∷◌, ◌++◌, length, get_or, Some, None, Ok, Err, refl, sym, ap, subst, ◌∙◌, append_assoc, arith}
use Rattle.std.proofs.Math.Seq.{get_or-append_seam}
use Rattle.std.proofs.lemmas.List.{append-nil, length-append}
use Rattle.std.proofs.lemmas.Bool.{leb-true, leb-false}
use Rattle.vp_io.specs.declared.answers.Reason.{Reason}
use Rattle.c_tree.specs.declared.token.At.{At}
use Rattle.c_tree.specs.declared.syntax.Syntax.{Syntax}
use Rattle.c_grammar.specs.Words.{Lexeme}
use Rattle.c_grammar.specs.Phrases.{Leaf}
use Rattle.c_grammar.specs.Spelling.{Spells, Spelled, Shallow, Begins, FirstBad, FirstDeep, leaves_of_program}
use Rattle.c_reading.specs.Parsers.{Wrong, Deep, Out}
use Rattle.c_parser.specs.Answers.{Breaks, no_program, too_deep, reason_of}
use Rattle.c_parser.specs.Law.{OneRefusal, NoTreeIsRefused, SpelledOrRefused}
use Rattle.c_parser.proofs.Machine as m
use Rattle.c_parser.proofs.Machine.{State, Next, Outcome, step, run, moved, settled, at_end}
use Rattle.c_parser.proofs.Whole.{shallow, ending, Ran, Stuck, outcome, read_spelled, stuck_at, sunk_at, never_behind}
use Rattle.c_parser.proofs.Nestings.{nestings, begun_depth, spells_length}

-- ---- fronts of tokens

spells_front : (x y : List Lexeme) (ls rs : List Leaf) → length x ≡ length ls → Spells (x ++ y) (ls ++ rs) → Spells x ls
spells_front [] y [] rs e s = tt
spells_front [] y (l ∷ ls) rs e s = absurd (omega (arith, e))
spells_front (t ∷ x) y [] rs e s = absurd (omega (arith, e))
spells_front (t ∷ x) y (l ∷ ls) rs e s = (s.0, s.1, spells_front x y ls rs (omega (arith, e)) s.2)

begins_front : (x y : List Lexeme) (ls rs : List Leaf) → length x ≡ length ls → Begins (x ++ y) (ls ++ rs) → Begins x ls
begins_front x y ls rs e b = record {
  tree = b.tree;
  rest = rs ++ b.rest;
  split = b.split ∙ append_assoc ls rs b.rest;
  spelled = spells_front x y ls rs e b.spelled;
  fits = b.fits;
}

-- the leaves of a front
leaves_front : (x y : List Lexeme) (ls : List Leaf) → Spells (x ++ y) ls → (f r : List Leaf) × (ls ≡ f ++ r) × (length x ≡ length f)
leaves_front [] y ls s = ([], ls, refl, refl)
leaves_front (t ∷ x) y [] s = absurd s
leaves_front (t ∷ x) y (l ∷ ls) s = let q = leaves_front x y ls s.2 in (l ∷ q.0, q.1, ap (λ k. l ∷ k) q.2, ap suc q.3)

front_begins : (x y : List Lexeme) (ls : List Leaf) → Begins (x ++ y) ls → (f : List Leaf) × Begins x f
front_begins x y ls b = let q = leaves_front x y ls b.spelled in (q.0, begins_front x y q.0 q.1 q.3 (subst (λ k. Begins (x ++ y) k) q.2 b))

-- of two fronts of a list the longer begins with the shorter
front_of : (a b r s : List Lexeme) → a ++ r ≡ b ++ s → length a ≤ length b → (more : List Lexeme) × (b ≡ a ++ more)
front_of [] b r s e h = (b, refl)
front_of (x ∷ a) [] r s e h = absurd (omega (arith, h))
front_of (x ∷ a) (y ∷ b) r s e h =
    let same : x ≡ y = cc in
    let rests : a ++ r ≡ b ++ s = cc in
    let q = front_of a b r s rests (omega (arith, h)) in
    (q.0, λ i. sym same i ∷ q.1 i)

same_spot : (a b r s : List Lexeme) (t u : Lexeme) → a ++ t ∷ r ≡ b ++ u ∷ s → length a ≡ length b → (a ≡ b) × (t ≡ u)
same_spot [] [] r s t u e h = (refl, cc)
same_spot [] (y ∷ b) r s t u e h = absurd (omega (arith, h))
same_spot (x ∷ a) [] r s t u e h = absurd (omega (arith, h))
same_spot (x ∷ a) (y ∷ b) r s t u e h =
    let same : x ≡ y = cc in
    let rests : a ++ t ∷ r ≡ b ++ u ∷ s = cc in
    let q = same_spot a b r s t u rests (omega (arith, h)) in
    ((λ i. same i ∷ q.0 i), q.1)

one_behind : (ts before rest : List Lexeme) (t : Lexeme) → ts ≡ before ++ t ∷ rest → ts ≡ (before ++ t ∷ []) ++ rest
one_behind ts before rest t e = e ∙ sym (append_assoc before (t ∷ []) rest)

-- ---- how far tokens lead

-- some program begins with a front of so many tokens, none of which stands too deep
record Leads (ts : List Lexeme) (n : ℕ) : Type 0 where
  front : List Lexeme
  rest : List Lexeme
  leaves : List Leaf
  split : ts ≡ front ++ rest
  begins : Begins front leaves
  shallow : Shallow leaves
  long : length front ≡ n

-- none begins with a longer one
abbrev Limit : List Lexeme → ℕ → Type 0
Limit ts n = (front rest : List Lexeme) (ls : List Leaf) → ts ≡ front ++ rest → Begins front ls → Shallow ls → length front ≤ n

within : (ts : List Lexeme) (n k : ℕ) → Leads ts n → Limit ts k → n ≤ k
within ts n k l limit = omega (arith, limit l.front l.rest l.leaves l.split l.begins l.shallow, l.long)

by_length : (n k : ℕ) → (k < n → ⊥) → n ≤ k
by_length n k none = by_test (nat_le n k) refl
  where
    by_test : (b : Bool) → nat_le n k ≡ b → n ≤ k
    by_test true h = leb-true n k h
    by_test false h = absurd (none (leb-false n k h))

bad_leads : (ts : List Lexeme) (at : At) (f : FirstBad ts at) → Leads ts (length f.before)
bad_leads ts at f = record { front = f.before; rest = f.bad ∷ f.rest; leaves = f.leaves; split = f.split; begins = f.goes; shallow = f.shallow; long = refl }

bad_limit : (ts : List Lexeme) (at : At) (f : FirstBad ts at) → Limit ts (length f.before)
bad_limit ts at f front rest ls split b low = by_length (length front) (length f.before) longer
  where
    longer : length f.before < length front → ⊥
    longer h =
        let q = front_of (f.before ++ f.bad ∷ []) front f.rest rest (sym (one_behind ts f.before f.rest f.bad f.split) ∙ split) (omega (arith, h, length-append f.before (f.bad ∷ []))) in
        let p = front_begins (f.before ++ f.bad ∷ []) q.0 ls (subst (λ l. Begins l ls) q.1 b) in
        f.stops p.0 p.1

deep_long : (ts : List Lexeme) (at : At) (f : FirstDeep ts at) → length f.before ≡ length f.leaves
deep_long ts at f = omega (arith, spells_length (f.before ++ f.deep ∷ []) (f.leaves ++ f.leaf ∷ []) f.goes.spelled, length-append f.before (f.deep ∷ []), length-append f.leaves (f.leaf ∷ []))

deep_leads : (ts : List Lexeme) (at : At) (f : FirstDeep ts at) → Leads ts (length f.before)
deep_leads ts at f = record { front = f.before; rest = f.deep ∷ f.rest; leaves = f.leaves; split = f.split; begins = begins_front f.before (f.deep ∷ []) f.leaves (f.leaf ∷ []) (deep_long ts at f) f.goes; shallow = f.shallow; long = refl }

-- a program that begins with more tokens has that one as deep
deep_token : (ts : List Lexeme) (at : At) (f : FirstDeep ts at) (front rest : List Lexeme) (ls : List Leaf) → ts ≡ front ++ rest → Begins front ls → length f.before < length front → (get_or ls (length f.before) f.leaf).nesting ≡ f.leaf.nesting
deep_token ts at f front rest ls split b h =
    let here = begun_depth front rest ls b (length f.before) f.leaf h in
    let there = begun_depth (f.before ++ f.deep ∷ []) f.rest (f.leaves ++ f.leaf ∷ []) f.goes (length f.before) f.leaf (omega (arith, length-append f.before (f.deep ∷ []))) in
    let last : get_or (f.leaves ++ f.leaf ∷ []) (length f.before) f.leaf ≡ f.leaf = ap (λ j. get_or (f.leaves ++ f.leaf ∷ []) j f.leaf) (deep_long ts at f) ∙ get_or-append_seam f.leaves f.leaf [] f.leaf in
    here
    ∙ ap (λ l. get_or (nestings l (m.program [])) (length f.before) 0) (sym split ∙ one_behind ts f.before f.rest f.deep f.split)
    ∙ sym there
    ∙ ap (λ (l : Leaf). l.nesting) last

deep_limit : (ts : List Lexeme) (at : At) (f : FirstDeep ts at) → Limit ts (length f.before)
deep_limit ts at f front rest ls split b low = by_length (length front) (length f.before) longer
  where
    longer : length f.before < length front → ⊥
    longer h =
        let few : (get_or ls (length f.before) f.leaf).nesting ≤ 200 = low (length f.before) f.leaf (omega (arith, h, spells_length front ls b.spelled)) in
        omega (arith, few, deep_token ts at f front rest ls split b h, f.passes)

-- ---- one reason

same_length : (ts : List Lexeme) (n k : ℕ) → Leads ts n → Limit ts n → Leads ts k → Limit ts k → n ≡ k
same_length ts n k l p q r = omega (arith, within ts n k l r, within ts k n q p)

bad_bad : (ts : List Lexeme) (a b : At) → FirstBad ts a → FirstBad ts b → a ≡ b
bad_bad ts a b f g =
    let n = same_length ts (length f.before) (length g.before) (bad_leads ts a f) (bad_limit ts a f) (bad_leads ts b g) (bad_limit ts b g) in
    let q = same_spot f.before g.before f.rest g.rest f.bad g.bad (sym f.split ∙ g.split) n in
    f.place ∙ ap (λ (t : Lexeme). t.at) q.1 ∙ sym g.place

deep_deep : (ts : List Lexeme) (a b : At) → FirstDeep ts a → FirstDeep ts b → a ≡ b
deep_deep ts a b f g =
    let n = same_length ts (length f.before) (length g.before) (deep_leads ts a f) (deep_limit ts a f) (deep_leads ts b g) (deep_limit ts b g) in
    let q = same_spot f.before g.before f.rest g.rest f.deep g.deep (sym f.split ∙ g.split) n in
    f.place ∙ ap (λ (t : Lexeme). t.at) q.1 ∙ sym g.place

bad_deep : (ts : List Lexeme) (a b : At) → FirstBad ts a → FirstDeep ts b → ⊥
bad_deep ts a b f g =
    let n = same_length ts (length f.before) (length g.before) (bad_leads ts a f) (bad_limit ts a f) (deep_leads ts b g) (deep_limit ts b g) in
    let q = same_spot f.before g.before f.rest g.rest f.bad g.deep (sym f.split ∙ g.split) n in
    let fronts : g.before ++ g.deep ∷ [] ≡ f.before ++ f.bad ∷ [] = λ i. sym q.0 i ++ sym q.1 i ∷ [] in
    f.stops (g.leaves ++ g.leaf ∷ []) (subst (λ l. Begins l (g.leaves ++ g.leaf ∷ [])) fronts g.goes)

pub one_refusal : OneRefusal
one_refusal ts x y (no_program a f i) (no_program b g j) = i ∙ ap (reason_of 5) (bad_bad ts a b f g) ∙ sym j
one_refusal ts x y (too_deep a f i) (too_deep b g j) = i ∙ ap (reason_of 6) (deep_deep ts a b f g) ∙ sym j
one_refusal ts x y (no_program a f i) (too_deep b g j) = absurd (bad_deep ts a b f g)
one_refusal ts x y (too_deep a f i) (no_program b g j) = absurd (bad_deep ts b a g f)

-- ---- a tree or a reason

whole_leads : (ts : List Lexeme) (tree : Syntax) → Spelled ts tree → Leads ts (length ts)
whole_leads ts tree s = record {
  front = ts;
  rest = [];
  leaves = leaves_of_program tree;
  split = sym (append-nil ts);
  begins = record { tree = tree; rest = []; split = sym (append-nil (leaves_of_program tree)); spelled = s.text; fits = s.fits };
  shallow = s.shallow;
  long = refl;
}

none_left : (ts before rest : List Lexeme) (t : Lexeme) → ts ≡ before ++ t ∷ rest → length ts ≤ length before → ⊥
none_left ts before rest t e h = omega (arith, h, ap length e, length-append before (t ∷ rest))

pub no_tree_is_refused : NoTreeIsRefused
no_tree_is_refused ts tree reason s (no_program a f i) = none_left ts f.before f.rest f.bad f.split (within ts (length ts) (length f.before) (whole_leads ts tree s) (bad_limit ts a f))
no_tree_is_refused ts tree reason s (too_deep a f i) = none_left ts f.before f.rest f.deep f.split (within ts (length ts) (length f.before) (whole_leads ts tree s) (deep_limit ts a f))

-- the machine has no bound that could run out
abbrev InBound : Outcome → Type 0
InBound (Ok p) = Unit {0}
InBound (Err (Wrong n)) = Unit {0}
InBound (Err (Deep n)) = Unit {0}
InBound (Err Out) = ⊥

end_in_bound : (s : State) → ((p : Syntax) × (s ≡ m.finished p)) ⊎ (at_end s ≡ Err (Wrong 0)) → InBound (at_end s)
end_in_bound s (inl f) = subst (λ z. InBound (at_end z)) (sym f.1) tt
end_in_bound s (inr un) = subst (λ v. InBound v) (sym un) tt

step_in_bound : (n : ℕ) (x : Next) (k : State → Outcome) → ((s : State) → InBound (k s)) → InBound (moved shallow n x k)
step_in_bound n None k each = tt
step_in_bound n (Some x) k each = by_test (shallow x.0)
  where
    by_test : (b : Bool) → InBound (cond b (k x.1) (Err (Deep n)))
    by_test true = each x.1
    by_test false = tt

both_in_bound : (a v : Outcome) → InBound a → InBound v → InBound (settled a v)
both_in_bound (Ok p) v h i = tt
both_in_bound (Err e) v h i = i

in_bound : (ts : List Lexeme) (s : State) → InBound (run shallow ts s)
in_bound [] s = end_in_bound s (ending s)
in_bound (t ∷ ts) s = both_in_bound (at_end s) (moved shallow (suc (length ts)) (step s t) (run shallow ts)) (end_in_bound s (ending s)) (step_in_bound (suc (length ts)) (step s t) (run shallow ts) (λ s2. in_bound ts s2))

pub spelled_or_refused : SpelledOrRefused
spelled_or_refused ts en = by_outcome (run shallow ts (m.program [])) (outcome ts) (in_bound ts (m.program []))
  where
    stuck : (j : ℕ) (k : Stuck ts j) (back : List Lexeme) → k.back ≡ back → (reason : Reason) × Breaks ts reason
    stuck j k [] e = absurd (never_behind ts j k en e)
    stuck j k (t ∷ rest) e = (reason_of 5 t.at, no_program t.at (stuck_at ts j k t rest e) refl)

    by_outcome : (v : Outcome) → Ran ts v → InBound v → ((tree : Syntax) × Spelled ts tree) ⊎ ((reason : Reason) × Breaks ts reason)
    by_outcome (Ok p) r i = inl (p, read_spelled ts p en r)
    by_outcome (Err (Wrong j)) r i = inr (stuck j r r.back refl)
    by_outcome (Err (Deep j)) r i = inr (reason_of 6 r.token.at, too_deep r.token.at (sunk_at ts j r) refl)
    by_outcome (Err Out) r i = absurd i
