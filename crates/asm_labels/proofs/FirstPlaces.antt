-- Where labels stand first, line by line.
use Rattle.std.proofs.Common.{◌≡◌, ℕ, suc, ◌+◌, Bool, true, false, cond, List, [], ◌∷◌, Option, Some, None, refl, sym, ap, subst, ◌∙◌, arith}
use Rattle.std.specs.List.{AllZip}
use Rattle.asm_token.specs.Tokens.{Token}
use Rattle.asm_program.specs.declared.places.Part.{Part}
use Rattle.asm_program.specs.declared.places.Place.{Place}
use Rattle.asm_program.specs.TextLines.{Label, Said, Says, lines_of}
use Rattle.asm_program.specs.Places.{first_from, first_place, is_label_line, part_after}
use Rattle.asm_program.specs.Rules.{AreSaid}
use Rattle.asm_labels.specs.declared.labels.Labels.{Labels}
use Rattle.asm_labels.specs.declared.saying.Said.{Said as Held}
use Rattle.asm_labels.specs.Seen.{IsSaid, seen}
use Rattle.asm_labels.specs.Tables.{AreLabelsOf, place_in, kept, or_later}

-- a line's label is kept, and the others come later
kept_first : (o : Option Place) (b : Bool) (q : Place) (r : Option Place) → or_later o (cond b (Some q) r) ≡ or_later (kept o b q) r
kept_first (Some p) b q r = refl
kept_first None true q r = refl
kept_first None false q r = refl

-- whatever is said of the rest, the labels of some reading of the text are those that are held and the later ones
pub record AreKept (text rest : List ℕ) (t : Labels) (place : Place) (ss : List Said) : Type 0 where
  pub all : List Said
  pub said : AreSaid text all
  pub each : (k : Label) → first_place all k ≡ or_later (place_in t k) (first_from place.line place.part k ss)

abbrev pub KeepsLabels : List ℕ → List ℕ → Labels → Place → Type 0
KeepsLabels text rest t place = (ss : List Said) → AreSaid rest ss → AreKept text rest t place ss

nothing_later : (o : Option Place) → or_later o None ≡ o
nothing_later (Some p) = refl
nothing_later None = refl

module _ (text line rest behind : List ℕ) (x : Held) (place : Place) where
  pub keeps_more : (t more : Labels) (n : Place) → lines_of rest ≡ line ∷ lines_of behind → IsSaid line x
      → ((ts : List Token) (k : Label) → place_in more k ≡ kept (place_in t k) (is_label_line k (seen x ts)) place)
      → n.line ≡ place.line + 1 → ((ts : List Token) → n.part ≡ part_after place.part (seen x ts))
      → KeepsLabels text rest t place → KeepsLabels text behind more n
  keeps_more t more n lines s updates e part h ss a =
      let r = h (seen x s.tokens ∷ ss) (subst (λ (ls : List (List ℕ)). AllZip Says ls (seen x s.tokens ∷ ss)) (sym lines) (s.says, a)) in
      record {
        all = r.all;
        said = r.said;
        each = λ k.
            r.each k
            ∙ kept_first (place_in t k) (is_label_line k (seen x s.tokens)) place (first_from (suc place.line) (part_after place.part (seen x s.tokens)) k ss)
            ∙ ap (λ (o : Option Place). or_later o (first_from (suc place.line) (part_after place.part (seen x s.tokens)) k ss)) (sym (updates s.tokens k))
            ∙ ap (λ (m : ℕ). or_later (place_in more k) (first_from m (part_after place.part (seen x s.tokens)) k ss)) (next place.line n.line e)
            ∙ ap (λ (q : Part). or_later (place_in more k) (first_from n.line q k ss)) (sym (part s.tokens));
      }
    where
      next : (k m : ℕ) → m ≡ k + 1 → suc k ≡ m
      next k m e = omega arith

pub at_end : (text rest : List ℕ) (t : Labels) (place : Place) → rest ≡ [] → KeepsLabels text rest t place → AreLabelsOf text t
at_end text rest t place e h =
    let r = h [] (subst (λ (xs : List ℕ). AreSaid xs []) (sym e) tt) in
    record { all = r.all; said = r.said; each = λ k. sym (r.each k ∙ nothing_later (place_in t k)) }
