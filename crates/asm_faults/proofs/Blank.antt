-- In a text with a line that isn't skipped the part of the text begins.
use Rattle.std.proofs.Common.{◌≡◌, ◌≢◌, ℕ, ◌==◌, ℤ, Bool, true, false, cond, ◌&&◌, MatchBool, List, [], ◌∷◌, refl, sym, subst}
use Rattle.std.specs.Prelude.{codes}
use Rattle.std.specs.Str.{bytes_eq}
use Rattle.asm_token.specs.Tokens.{Token, Name, Number, Mark}
use Rattle.std.specs.List.{AllZip, list_all}
use Rattle.md_rows.specs.declared.description.RawDescription.{RawDescription}
use Rattle.asm_program.specs.declared.places.Part.{Part}
use Rattle.asm_program.specs.declared.places.Part.TheVariants.{Outside, InText, InData}
use Rattle.asm_program.specs.TextLines.{Said, Nothing, Unreadable, TextBegins, DataBegins, Word, Byte, Space, Others, Says, too_long, skipped, no_tokens, tokens, is_skipped, lines_of, SaysLabel, SayTokens}
use Rattle.asm_program.specs.Places.{Position, start, after, part_after}
use Rattle.asm_program.specs.Rules.{IsSound, Walks, AreSaid, is_in_place, is_blank, word_bytes}

not_both : (b : Bool) → b ≡ true → b ≡ false → ⊥
not_both b e f = cc

-- a part that has begun stays
stays : (part : Part) (s : Said) → part ≢ Outside → part_after part s ≢ Outside
stays Outside s n e = n refl
stays InData s n e = cc
stays InText DataBegins n e = cc
stays InText Nothing n e = cc
stays InText _ n e = cc

-- outside the text `.text` alone is in its place
begins : (w : ℕ) (s : Said) → s ≢ Nothing → s ≢ Unreadable → is_in_place w Outside s ≡ true → part_after Outside s ≢ Outside
begins w TextBegins n r e f = cc
begins w Nothing n r e f = n refl
begins w Unreadable n r e f = r refl
begins w _ n r e f = absurd (cc)

name_says : (a b : Bool) (x : Said) → x ≢ Nothing → Nothing ≡ cond a TextBegins (cond b DataBegins x) → ⊥
name_says true b x n e = cc
name_says false true x n e = cc
name_says false false x n e = n (sym e)

number_says : (a b c : Bool) (z : ℤ) (x : Said) → x ≢ Nothing → Nothing ≡ cond a (Word z) (cond b (Byte z) (cond c (Space z) x)) → ⊥
number_says true b c z x n e = cc
number_says false true c z x n e = cc
number_says false false true z x n e = cc
number_says false false false z x n e = n (sym e)

label_says : (b : Bool) (name : List ℕ) (x : Said) → x ≢ Nothing → MatchBool b (SaysLabel name Nothing) (Nothing ≡ x) → ⊥
label_says true name x n h = h
label_says false name x n h = n (sym h)

others_are : (ts : List Token) → Others ts ≢ Nothing
others_are ts e = cc

nothing_said : (ts : List Token) → SayTokens ts Nothing → ⊥
nothing_said (Name name ∷ []) q = name_says (bytes_eq name (codes ".text")) (bytes_eq name (codes ".data")) (Others (Name name ∷ [])) (others_are (Name name ∷ [])) q
nothing_said (Name name ∷ (Number z ∷ [])) q =
    number_says (bytes_eq name (codes ".word")) (bytes_eq name (codes ".byte")) (bytes_eq name (codes ".space")) z (Others (Name name ∷ (Number z ∷ [])))
    (others_are (Name name ∷ (Number z ∷ []))) q
nothing_said (Name name ∷ (Mark c ∷ [])) q = label_says (c == 58) name (Others (Name name ∷ (Mark c ∷ []))) (others_are (Name name ∷ (Mark c ∷ []))) q
nothing_said _ q = absurd (cc)

says_some : (line : List ℕ) (s : Said) → is_skipped line ≡ false → Says line s → s ≢ Unreadable → s ≢ Nothing
says_some line s e (too_long h) r f = r refl
says_some line s e (skipped h k) r f = not_both (is_skipped line) k e
says_some line s e (no_tokens h k n) r f = r refl
says_some line s e (tokens ts t h k a q) r f = nothing_said ts (subst (λ (x : Said). SayTokens ts x) f q)

leaves_outside : (w : ℕ) (part : Part) (s : Said) → s ≢ Nothing → s ≢ Unreadable → is_in_place w part s ≡ true → part_after part s ≢ Outside
leaves_outside w Outside s n r e = begins w s n r e
leaves_outside w InText s n r e = stays InText s (λ f. cc)
leaves_outside w InData s n r e = stays InData s (λ f. cc)

pick : (b c : Bool) → (b && c) ≡ false → (R : Type 0) → (b ≡ false → R) → (c ≡ false → R) → R
pick true c e R f g = g e
pick false c e R f g = f refl

module _ (d : RawDescription) (all : List Said) where
  begun_stays : (ss : List Said) (p q : Position) → p.part ≢ Outside → Walks d all p ss q → q.part ≢ Outside
  begun_stays [] p q n w = subst (λ (r : Position). r.part ≢ Outside) w n
  begun_stays (s ∷ ss) p q n w = begun_stays ss (after (word_bytes d) p s) q (stays p.part s n) w.1

  begins_somewhere : (lines : List (List ℕ)) (ss : List Said) (p q : Position) → list_all is_skipped lines ≡ false → AllZip Says lines ss → Walks d all p ss q → q.part ≢ Outside
  begins_somewhere [] ss p q e a w = absurd (cc)
  begins_somewhere (line ∷ lines) [] p q e a w = absurd a
  begins_somewhere (line ∷ lines) (s ∷ ss) p q e a w =
      pick (is_skipped line) (list_all is_skipped lines) e (q.part ≢ Outside)
      (λ f. begun_stays ss (after (word_bytes d) p s) q (leaves_outside d.word p.part s (says_some line s f a.0 w.0.readable) w.0.readable w.0.in_place) w.1)
      (λ f. begins_somewhere lines ss (after (word_bytes d) p s) q f a.1 w.1)

  pub sound : (text : List ℕ) → is_blank text ≡ false → AreSaid text all → (last : Position) → Walks d all start all last → IsSound d all
  sound text e a last w = record { last = last; walks = w; begun = begins_somewhere (lines_of text) all start last e a w }
