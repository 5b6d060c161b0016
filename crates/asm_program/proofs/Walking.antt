-- What lines that keep the rules lead to, and that no line both keeps and breaks them.
use Rattle.std.proofs.Common.{◌≡◌, ℕ, Bool, true, false, List, [], ◌∷◌, ◌++◌, refl, sym, ap, subst, ◌∙◌}
use Rattle.std.specs.List.{AllZip, list_all}
use Rattle.std.proofs.lemmas.Bool.{and_parts}
use Rattle.md_rows.specs.declared.description.RawDescription.{RawDescription}
use Rattle.asm_program.specs.declared.places.Part.{Part}
use Rattle.asm_program.specs.declared.places.Part.TheVariants.{Outside}
use Rattle.asm_program.specs.declared.rules.Rule.{Rule}
use Rattle.asm_program.specs.declared.rules.Rule.TheVariants.{BadTokens, NoRow, StandsAlready, NotInPart, Misplaced, PassesLimit}
use Rattle.asm_program.specs.TextLines.{Said, Nothing, Says, too_long, skipped, no_tokens, tokens, is_skipped, lines_of}
use Rattle.asm_program.specs.Places.{Position, start, after, part_after}
use Rattle.asm_program.specs.Rules.{IsGood, Breaks, Walks, IsSound, IsBrokenAt, AreSaid, word_bytes, is_in_place}

not_both : (b : Bool) → b ≡ true → b ≡ false → ⊥
not_both b e f = cc

module _ (d : RawDescription) (all : List Said) where
  pub record Splits (p : Position) (xs ys : List Said) (q : Position) : Type 0 where
    pub middle : Position
    pub first : Walks d all p xs middle
    pub second : Walks d all middle ys q

  pub walks_split : (p : Position) (xs ys : List Said) (q : Position) → Walks d all p (xs ++ ys) q → Splits p xs ys q
  walks_split p [] ys q w = record { middle = p; first = refl; second = w }
  walks_split p (x ∷ xs) ys q w =
      let r = walks_split (after (word_bytes d) p x) xs ys q w.1 in
      record { middle = r.middle; first = (w.0, r.first); second = r.second }

  pub walks_once : (p : Position) (xs : List Said) (q r : Position) → Walks d all p xs q → Walks d all p xs r → q ≡ r
  walks_once p [] q r a b = sym a ∙ b
  walks_once p (x ∷ xs) q r a b = walks_once (after (word_bytes d) p x) xs q r a.1 b.1

  pub walks_more : (p : Position) (xs : List Said) (q : Position) (x : Said) → Walks d all p xs q → IsGood d all q x → Walks d all p (xs ++ x ∷ []) (after (word_bytes d) q x)
  walks_more p [] q x e g = (subst (λ (r : Position). IsGood d all r x) (sym e) g, ap (λ (r : Position). after (word_bytes d) r x) e)
  walks_more p (y ∷ xs) q x w g = (w.0, walks_more (after (word_bytes d) p y) xs q x w.1 g)

  pub keeps_none : (p : Position) (s : Said) → IsGood d all p s → (rule : Rule) → Breaks d all p s rule → ⊥
  keeps_none p s g BadTokens b = g.readable b
  keeps_none p s g NoRow b = let m = g.made b.tokens b.is_instruction in b.never m.place m.values m.found
  keeps_none p s g StandsAlready b = b.earlier (g.first b.label b.is_label)
  keeps_none p s g NotInPart b = b.elsewhere (g.made b.tokens b.is_instruction)
  keeps_none p s g Misplaced b = not_both (is_in_place d.word p.part s) g.in_place b
  keeps_none p s g PassesLimit b = b g.within

  -- the rule that is told is broken where the lines before it lead

  pub told_unsound : (line : ℕ) (rule : Rule) → IsBrokenAt d all line rule → IsSound d all → ⊥
  told_unsound line rule b sound =
      let r = walks_split start b.before (b.said ∷ b.behind) sound.last (subst (λ (xs : List Said). Walks d all start xs sound.last) b.are sound.walks) in
      let same : r.middle ≡ b.position = walks_once start b.before r.middle b.position r.first b.walks in
      keeps_none b.position b.said (subst (λ (p : Position). IsGood d all p b.said) same r.second.0) rule b.breaks

  -- nothing begins in a text of skipped lines alone

  stays : (line : List ℕ) (s : Said) (p : Position) → is_skipped line ≡ true → Says line s → IsGood d all p s → p.part ≡ Outside → part_after p.part s ≡ Outside
  stays line s p e (too_long h) g o = absurd (g.readable refl)
  stays line s p e (skipped h k) g o = ap (λ (x : Part). part_after x Nothing) o
  stays line s p e (no_tokens h k n) g o = absurd (not_both (is_skipped line) e k)
  stays line s p e (tokens ts t h k a q) g o = absurd (not_both (is_skipped line) e k)

  outside : (lines : List (List ℕ)) (ss : List Said) (p q : Position) → list_all is_skipped lines ≡ true → AllZip Says lines ss → Walks d all p ss q
      → p.part ≡ Outside → q.part ≡ Outside
  outside [] [] p q e a w o = ap (λ (r : Position). r.part) (sym w) ∙ o
  outside [] (s ∷ ss) p q e a w o = absurd a
  outside (line ∷ lines) [] p q e a w o = absurd a
  outside (line ∷ lines) (s ∷ ss) p q e a w o =
      let parts = and_parts (is_skipped line) (list_all is_skipped lines) e in
      outside lines ss (after (word_bytes d) p s) q parts.1 a.1 w.1 (stays line s p parts.0 a.0 w.0 o)

  pub blank_unsound : (text : List ℕ) → list_all is_skipped (lines_of text) ≡ true → AreSaid text all → IsSound d all → ⊥
  blank_unsound text e a sound = sound.begun (outside (lines_of text) all start sound.last e a sound.walks refl)
