-- How deep tokens stand is the same in each program that begins with them.
use Rattle.std.proofs.Common.{◌⊎◌, inl, inr, ◌≡◌, ℕ, zero, suc, ◌<◌, true, List, [], ◌∷◌, ◌++◌, length, map, get_or, Some, None, Err, refl, sym, ap, subst, ◌∙◌, append_assoc, arith}
use Rattle.std.proofs.lemmas.List.{append-nil, length-append, get_or-map, get_or_append_left}
use Rattle.c_tree.specs.declared.syntax.Syntax.{Syntax}
use Rattle.c_grammar.specs.Words.{Lexeme}
use Rattle.c_grammar.specs.Phrases.{Leaf}
use Rattle.c_grammar.specs.Grammar.{program}
use Rattle.c_grammar.specs.Spelling.{Spells, Begins, leaves_of_program}
use Rattle.c_reading.specs.Parsers.{Wrong}
use Rattle.c_parser.proofs.Machine as m
use Rattle.c_parser.proofs.Machine.{State, Next, step, run, moved, settled, at_end}
use Rattle.c_parser.proofs.Reached.{Taken, Spelt, Reached}
use Rattle.c_parser.proofs.Ends.{each_end}
use Rattle.c_parser.proofs.Whole.{all, okay, ok_same, accepts, Reaches, at_first, one_more, ending, made, made_spells, spells_append}

abbrev then_each : Next → (State → List ℕ) → List ℕ
then_each None k = []
then_each (Some x) k = x.0 ∷ k x.1

-- how deep each token stands, as the machine takes it
abbrev pub nestings : List Lexeme → State → List ℕ
nestings [] s = []
nestings (t ∷ ts) s = then_each (step s t) (nestings ts)

-- what the machine takes from a state to the end of a program
record Followed (xs : Taken) (ts : List Lexeme) (s : State) (p : Syntax) : Type 0 where
  taken : Taken
  nest : nestings ts s ≡ map (λ x. x.1) taken
  reached : Reached (xs ++ taken) (m.finished p)

at_the_end : (xs : Taken) (ts : List Lexeme) (q p : Syntax) → Reaches xs (m.finished q) → nestings ts (m.finished q) ≡ [] → okay q ≡ okay p → Followed xs ts (m.finished q) p
at_the_end xs ts q p r none e = record {
  taken = [];
  nest = none;
  reached = subst (λ l. Reached (xs ++ []) (m.finished l)) (ok_same q p e) (subst (λ l. Reached l (m.finished q)) (sym (append-nil xs)) r.reached);
}

one_on : (ts : List Lexeme) (xs : Taken) (s : State) (t : Lexeme) (p : Syntax) → Reaches xs s → at_end s ≡ Err (Wrong 0) → run all (t ∷ ts) s ≡ okay p → ((n : ℕ) (s2 : State) → step s t ≡ Some (n, s2) → run all ts s2 ≡ okay p → Followed (xs ++ (t, n) ∷ []) ts s2 p) → Followed xs (t ∷ ts) s p
one_on ts xs s t p r un e more = onward (step s t) refl (subst (λ a. settled a (moved all (suc (length ts)) (step s t) (run all ts)) ≡ okay p) un e)
  where
    onward : (x : Next) → step s t ≡ x → moved all (suc (length ts)) x (run all ts) ≡ okay p → Followed xs (t ∷ ts) s p
    onward None is h = absurd cc
    onward (Some x) is h = let f = more x.0 x.1 is h in record {
      taken = (t, x.0) ∷ f.taken;
      nest = ap (λ y. then_each y (nestings ts)) is ∙ ap (λ l. x.0 ∷ l) f.nest;
      reached = subst (λ l. Reached l (m.finished p)) (append_assoc xs ((t, x.0) ∷ []) f.taken) f.reached;
    }

follow_on : (ts : List Lexeme) (xs : Taken) (s : State) (t : Lexeme) (p : Syntax) → Reaches xs s → ((q : Syntax) × (s ≡ m.finished q)) ⊎ (at_end s ≡ Err (Wrong 0)) → run all (t ∷ ts) s ≡ okay p → ((n : ℕ) (s2 : State) → step s t ≡ Some (n, s2) → run all ts s2 ≡ okay p → Followed (xs ++ (t, n) ∷ []) ts s2 p) → Followed xs (t ∷ ts) s p
follow_on ts xs s t p r (inr un) e more = one_on ts xs s t p r un e more
follow_on ts xs s t p r (inl f) e more =
    subst (λ z. Followed xs (t ∷ ts) z p) (sym f.1)
    (at_the_end xs (t ∷ ts) f.0 p (subst (λ z. Reaches xs z) f.1 r) refl (let h : run all (t ∷ ts) (m.finished f.0) ≡ okay p = subst (λ z. run all (t ∷ ts) z ≡ okay p) f.1 e in h))

follow_nothing : (xs : Taken) (s : State) (p : Syntax) → Reaches xs s → ((q : Syntax) × (s ≡ m.finished q)) ⊎ (at_end s ≡ Err (Wrong 0)) → at_end s ≡ okay p → Followed xs [] s p
follow_nothing xs s p r (inr un) e = absurd (apart (sym un ∙ e))
  where
    apart : Err (Wrong 0) ≡ okay p → ⊥
    apart h = absurd cc
follow_nothing xs s p r (inl f) e =
    subst (λ z. Followed xs [] z p) (sym f.1)
    (at_the_end xs [] f.0 p (subst (λ z. Reaches xs z) f.1 r) refl (let h : at_end (m.finished f.0) ≡ okay p = subst (λ z. at_end z ≡ okay p) f.1 e in h))

follow : (ts : List Lexeme) (xs : Taken) (s : State) (p : Syntax) → Reaches xs s → run all ts s ≡ okay p → Followed xs ts s p
follow [] xs s p r e = follow_nothing xs s p r (ending s) e
follow (t ∷ ts) xs s p r e = follow_on ts xs s t p r (ending s) e (λ n s2 is h. follow ts (xs ++ (t, n) ∷ []) s2 p (one_more xs s t n s2 r is) h)

abbrev depths : List Leaf → List ℕ
depths = map (λ l. l.nesting)

spelt_depths : (xs : Taken) (ls : List Leaf) → Spelt xs ls → map (λ x. x.1) xs ≡ depths ls
spelt_depths [] [] s = refl
spelt_depths [] (l ∷ ls) s = absurd s
spelt_depths (x ∷ xs) [] s = absurd s
spelt_depths (x ∷ xs) (l ∷ ls) s = let e = spelt_depths xs ls s.3 in λ i. s.2 i ∷ e i

-- of a whole program
whole_depths : (p : Syntax) (ts : List Lexeme) → (program p).fits ≡ true → Spells ts (leaves_of_program p) → nestings ts (m.program []) ≡ depths (leaves_of_program p)
whole_depths p ts fits s =
    let f = follow ts [] (m.program []) p at_first (accepts p ts fits s) in
    let q = f.reached in
    let text : leaves_of_program p ≡ q.0.leaves = each_end p.parts p.end [] ∙ q.0.is [] ∙ append-nil q.0.leaves in
    f.nest ∙ spelt_depths f.taken q.0.leaves q.0.spells ∙ ap depths (sym text)

-- what stands behind a token doesn't count
front_depth : (us vs : List Lexeme) (s : State) (k : ℕ) → k < length us → get_or (nestings us s) k 0 ≡ get_or (nestings (us ++ vs) s) k 0
front_depth [] vs s k h = absurd (omega (arith, h))
front_depth (t ∷ us) vs s k h = onward (step s t) k h (λ s2 j. front_depth us vs s2 j)
  where
    onward : (x : Next) (k : ℕ) → k < suc (length us) → ((s2 : State) (j : ℕ) → j < length us → get_or (nestings us s2) j 0 ≡ get_or (nestings (us ++ vs) s2) j 0) → get_or (then_each x (nestings us)) k 0 ≡ get_or (then_each x (nestings (us ++ vs))) k 0
    onward None k h more = refl
    onward (Some x) zero h more = refl
    onward (Some x) (suc k) h more = more x.1 k (omega (arith, h))

pub spells_length : (ts : List Lexeme) (ls : List Leaf) → Spells ts ls → length ts ≡ length ls
spells_length [] [] s = refl
spells_length [] (l ∷ ls) s = absurd s
spells_length (t ∷ ts) [] s = absurd s
spells_length (t ∷ ts) (l ∷ ls) s = ap suc (spells_length ts ls s.2)

-- how deep a token of a program's beginning stands is how deep the machine has it, whatever follows
pub begun_depth : (us vs : List Lexeme) (ls : List Leaf) → Begins us ls → (k : ℕ) (d : Leaf) → k < length us → (get_or ls k d).nesting ≡ get_or (nestings (us ++ vs) (m.program [])) k 0
begun_depth us vs ls b k d h =
    let full : List Lexeme = us ++ made b.rest in
    let spelled : Spells full (leaves_of_program b.tree) = subst (λ l. Spells full l) (sym b.split) (spells_append us (made b.rest) ls b.rest b.spelled (made_spells b.rest)) in
    let whole : nestings full (m.program []) ≡ depths (ls ++ b.rest) = whole_depths b.tree full b.fits spelled ∙ ap depths b.split in
    let within : k < length ls = omega (arith, h, spells_length us ls b.spelled) in
    let more : k < length (ls ++ b.rest) = omega (arith, within, length-append ls b.rest) in
    ap (λ (l : Leaf). l.nesting) (sym (get_or_append_left ls b.rest d k within))
    ∙ sym (get_or-map (λ (l : Leaf). l.nesting) (ls ++ b.rest) k d 0 more)
    ∙ ap (λ l. get_or l k 0) (sym whole)
    ∙ sym (front_depth us (made b.rest) (m.program []) k h)
    ∙ front_depth us vs (m.program []) k h
