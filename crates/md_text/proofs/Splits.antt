-- How bytes fall into parts round a byte, and texts into lines.
use Rattle.std.proofs.Common.{◌≡◌, ℕ, true, not, eqb, List, [], ◌∷◌, ◌++◌, refl, sym, ◌∙◌, arith, rules}
use Rattle.std.proofs.lemmas.Bool.{and_parts}
use Rattle.std.proofs.lemmas.List.{append_assoc}
use Rattle.std.specs.List.{list_all}
use Rattle.md_text.specs.Lines.{lacks, is_one_line, text_of, FallsInto}

other_byte : (b c : ℕ) → not (eqb c b) ≡ true → c ≡ b → ⊥
other_byte b c h e = grind (arith, rules)

-- the first part is what stands before the first such byte
pub same_front : (b : ℕ) (f g k m : List ℕ) → lacks b f ≡ true → lacks b g ≡ true → f ++ b ∷ k ≡ g ++ b ∷ m → (f ≡ g) × (k ≡ m)
same_front b [] [] k m p q e = (refl, cc)
same_front b [] (c ∷ g) k m p q e = absurd (other_byte b c (and_parts (not (eqb c b)) (lacks b g) q).0 (sym cc))
same_front b (c ∷ f) [] k m p q e = absurd (other_byte b c (and_parts (not (eqb c b)) (lacks b f) p).0 cc)
same_front b (c ∷ f) (d ∷ g) k m p q e =
    let rest = same_front b f g k m (and_parts (not (eqb c b)) (lacks b f) p).1 (and_parts (not (eqb d b)) (lacks b g) q).1 cc in
    let same : c ≡ d = cc in
    let front : f ≡ g = rest.0 in
    (cc, rest.1)

-- bytes without b aren't bytes with b
pub no_such_byte : (b : ℕ) (f g k : List ℕ) → lacks b f ≡ true → f ≡ g ++ b ∷ k → ⊥
no_such_byte b [] [] k p e = let no : [] ≡ b ∷ k → ⊥ = λ q. cc in no e
no_such_byte b [] (c ∷ g) k p e = let no : [] ≡ c ∷ (g ++ b ∷ k) → ⊥ = λ q. cc in no e
no_such_byte b (c ∷ f) [] k p e = other_byte b c (and_parts (not (eqb c b)) (lacks b f) p).0 cc
no_such_byte b (c ∷ f) (d ∷ g) k p e = no_such_byte b f g k (and_parts (not (eqb c b)) (lacks b f) p).1 cc

pub line_first : (line rest : List ℕ) → (line ++ 10 ∷ []) ++ rest ≡ line ++ 10 ∷ rest
line_first line rest = append_assoc line (10 ∷ []) rest

-- a text with one more line in front
pub one_more_line : (line rest : List ℕ) (lines : List (List ℕ)) → text_of (line ∷ lines) ++ rest ≡ line ++ 10 ∷ (text_of lines ++ rest)
one_more_line line rest lines = append_assoc (line ++ 10 ∷ []) (text_of lines) rest ∙ line_first line (text_of lines ++ rest)

lines_once : (ls ms : List (List ℕ)) (r s : List ℕ) → list_all is_one_line ls ≡ true → list_all is_one_line ms ≡ true → is_one_line r ≡ true → is_one_line s ≡ true → text_of ls ++ r ≡ text_of ms ++ s → (ls ≡ ms) × (r ≡ s)
lines_once [] [] r s p q h k e = (refl, e)
lines_once [] (m ∷ ms) r s p q h k e = absurd (no_such_byte 10 r m (text_of ms ++ s) h (e ∙ one_more_line m s ms))
lines_once (l ∷ ls) [] r s p q h k e = absurd (no_such_byte 10 s l (text_of ls ++ r) k (sym e ∙ one_more_line l r ls))
lines_once (l ∷ ls) (m ∷ ms) r s p q h k e =
    let left = and_parts (is_one_line l) (list_all is_one_line ls) p in
    let right = and_parts (is_one_line m) (list_all is_one_line ms) q in
    let front = same_front 10 l m (text_of ls ++ r) (text_of ms ++ s) left.0 right.0 (sym (one_more_line l r ls) ∙ e ∙ one_more_line m s ms) in
    let others = lines_once ls ms r s left.1 right.1 h k front.1 in
    (both l m ls ms front.0 others.0, others.1)
  where
    both : (l m : List ℕ) (ls ms : List (List ℕ)) → l ≡ m → ls ≡ ms → l ∷ ls ≡ m ∷ ms
    both l m ls ms e f = cc

-- a text falls into lines in one way
pub falls_once : (text : List ℕ) (ls ms : List (List ℕ)) (r s : List ℕ) → FallsInto text ls r → FallsInto text ms s → (ls ≡ ms) × (r ≡ s)
falls_once text ls ms r s p q = lines_once ls ms r s p.each q.each p.unended q.unended (sym p.whole ∙ q.whole)
