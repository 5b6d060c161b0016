-- Labels of a text that keeps the rules differ.
use Rattle.std.proofs.Common.{◌≡◌, ◌≢◌, ℕ, suc, ◌+◌, ◌<◌, ◌≤◌, ◌⊎◌, inl, inr, List, [], ◌∷◌, ◌++◌, length, get_or, Option, Some, None, All, AllPairs, Contains, refl, sym, ap, subst, ◌∙◌, arith}
use Rattle.std.specs.List.{AllZip}
use Rattle.std.proofs.lemmas.List.Elements.{All-contains_itself, All-weaker, Contains-append_cases}
use Rattle.std.proofs.lemmas.List.Kept.{AllPairs-cons}
use Rattle.rtl_tree.specs.declared.c_names.Names.{Names}
use Rattle.rtl_tree.specs.declared.cells.Lab.{Lab}
use Rattle.rtl_value.specs.declared.state.LabelAt.{LabelAt}
use Rattle.md_rows.specs.declared.description.RawDescription.{RawDescription}
use Rattle.asm_program.specs.declared.places.Part.{Part}
use Rattle.asm_program.specs.declared.places.Part.TheVariants.{Outside, InText, InData}
use Rattle.asm_program.specs.declared.places.Place.{Place}
use Rattle.asm_program.specs.TextLines.{Label, Block, Symbol, Said, Nothing, Unreadable, TextBegins, DataBegins, Labelled, Mislabelled, Word, Byte, Space, Others}
use Rattle.asm_program.specs.Places.{Position, start, after, part_after}
use Rattle.asm_program.specs.Rules.{IsSound, StandsAt, Walks, word_bytes}
use Rattle.asm_program.specs.Programs.{IsLab, text_labels}
use Rattle.asm_names.specs.LabelNames.{AreNamesOf, names_in, taken}
use Rattle.asm_jumps.specs.LabelPlaces.{IsAt}
use Rattle.asm_text.proofs.Joined.{beside, contains_none, one_label, only}

abbrev IsTaken : Part → Part → List ℕ → List ℕ → Type 0
IsTaken wanted part y x = (part ≡ wanted) × (y ≡ x)

taken_first : (part : Part) (y x : List ℕ) (rest : List (List ℕ)) → Contains (y ∷ []) x ⊎ Contains rest x → IsTaken part part y x ⊎ Contains rest x
taken_first part y x rest (inl c) = inl (refl, only y x c)
taken_first part y x rest (inr c) = inr c

taken_cases : (wanted part : Part) (y x : List ℕ) (rest : List (List ℕ)) → Contains (taken wanted part (Some y) rest) x → IsTaken wanted part y x ⊎ Contains rest x
taken_cases InText InText y x rest c = taken_first InText y x rest (Contains-append_cases (y ∷ []) rest x c)
taken_cases InData InData y x rest c = taken_first InData y x rest (Contains-append_cases (y ∷ []) rest x c)
taken_cases Outside Outside y x rest c = inr c
taken_cases Outside InText y x rest c = inr c
taken_cases Outside InData y x rest c = inr c
taken_cases InText Outside y x rest c = inr c
taken_cases InText InData y x rest c = inr c
taken_cases InData Outside y x rest c = inr c
taken_cases InData InText y x rest c = inr c

module _ (d : RawDescription) (all : List Said) where
  record StandsFrom (l : Label) (line : ℕ) : Type 0 where
    at : ℕ
    from : line ≤ at
    stands : StandsAt all l at

  earlier : (l : Label) (line : ℕ) → StandsFrom l (line + 1) → StandsFrom l line
  earlier l line s = let h = s.from in record { at = s.at; from = omega (arith, h); stands = s.stands }

  same_line : (l : Label) (m k : ℕ) → StandsAt all l m → StandsAt all l k → m ≡ k
  same_line l m k a b = ap (λ (q : Place). q.line) (same _ _ (sym a.first ∙ b.first))
    where
      same : (p q : Place) → Some p ≡ Some q → p ≡ q
      same p q e = cc

  not_later : (l : Label) (line : ℕ) → StandsAt all l line → StandsFrom l (line + 1) → ⊥
  not_later l line a s = let e = same_line l line s.at a s.stands in let h = s.from in omega (arith, e, h)

  here : (l k : Label) (line : ℕ) → StandsAt all l line → l ≡ k → StandsFrom k line
  here l k line a e = record { at = line; from = omega arith; stands = subst (λ (x : Label). StandsAt all x line) e a }

  names_from : (wanted : Part) (ss : List Said) (p q : Position) (x : List ℕ) → Walks d all p ss q → Contains (names_in wanted p.part ss) x → StandsFrom (Symbol x) p.line
  names_from wanted [] p q x w c = absurd (contains_none x c)
  names_from wanted (Labelled (Symbol y) ∷ ss) p q x w c =
      pick (λ e. names_from wanted ss (after (word_bytes d) p (Labelled (Symbol y))) q x w.1 e)
      (taken_cases wanted p.part y x (names_in wanted (part_after p.part (Labelled (Symbol y))) ss) c)
    where
      pick : (Contains (names_in wanted (part_after p.part (Labelled (Symbol y))) ss) x → StandsFrom (Symbol x) (p.line + 1))
          → IsTaken wanted p.part y x ⊎ Contains (names_in wanted (part_after p.part (Labelled (Symbol y))) ss) x → StandsFrom (Symbol x) p.line
      pick f (inl t) = here (Symbol y) (Symbol x) p.line (w.0.first (Symbol y) refl) (ap Symbol t.1)
      pick f (inr e) = earlier (Symbol x) p.line (f e)
  names_from wanted (Labelled (Block b) ∷ ss) p q x w c = earlier (Symbol x) p.line (names_from wanted ss (after (word_bytes d) p (Labelled (Block b))) q x w.1 c)
  names_from wanted (Nothing ∷ ss) p q x w c = earlier (Symbol x) p.line (names_from wanted ss (after (word_bytes d) p Nothing) q x w.1 c)
  names_from wanted (Unreadable ∷ ss) p q x w c = earlier (Symbol x) p.line (names_from wanted ss (after (word_bytes d) p Unreadable) q x w.1 c)
  names_from wanted (TextBegins ∷ ss) p q x w c = earlier (Symbol x) p.line (names_from wanted ss (after (word_bytes d) p TextBegins) q x w.1 c)
  names_from wanted (DataBegins ∷ ss) p q x w c = earlier (Symbol x) p.line (names_from wanted ss (after (word_bytes d) p DataBegins) q x w.1 c)
  names_from wanted (Mislabelled ∷ ss) p q x w c = earlier (Symbol x) p.line (names_from wanted ss (after (word_bytes d) p Mislabelled) q x w.1 c)
  names_from wanted (Word z ∷ ss) p q x w c = earlier (Symbol x) p.line (names_from wanted ss (after (word_bytes d) p (Word z)) q x w.1 c)
  names_from wanted (Byte z ∷ ss) p q x w c = earlier (Symbol x) p.line (names_from wanted ss (after (word_bytes d) p (Byte z)) q x w.1 c)
  names_from wanted (Space z ∷ ss) p q x w c = earlier (Symbol x) p.line (names_from wanted ss (after (word_bytes d) p (Space z)) q x w.1 c)
  names_from wanted (Others ts ∷ ss) p q x w c = earlier (Symbol x) p.line (names_from wanted ss (after (word_bytes d) p (Others ts)) q x w.1 c)

  both_here : (part : Part) → part ≡ InText → part ≡ InData → ⊥
  both_here part e f = no (sym e ∙ f)
    where
      no : InText ≡ InData → ⊥
      no e = cc

  apart_from : (ss : List Said) (p q : Position) (x : List ℕ) → Walks d all p ss q → Contains (names_in InText p.part ss) x → Contains (names_in InData p.part ss) x → ⊥
  apart_from [] p q x w c e = contains_none x c
  apart_from (Labelled (Symbol y) ∷ ss) p q x w c e =
      pick (λ a b. apart_from ss (after (word_bytes d) p (Labelled (Symbol y))) q x w.1 a b)
      (taken_cases InText p.part y x (names_in InText (part_after p.part (Labelled (Symbol y))) ss) c)
      (taken_cases InData p.part y x (names_in InData (part_after p.part (Labelled (Symbol y))) ss) e)
    where
      stands : y ≡ x → StandsAt all (Symbol x) p.line
      stands t = subst (λ (z : List ℕ). StandsAt all (Symbol z) p.line) t (w.0.first (Symbol y) refl)

      pick : (Contains (names_in InText (part_after p.part (Labelled (Symbol y))) ss) x → Contains (names_in InData (part_after p.part (Labelled (Symbol y))) ss) x → ⊥)
          → IsTaken InText p.part y x ⊎ Contains (names_in InText (part_after p.part (Labelled (Symbol y))) ss) x
          → IsTaken InData p.part y x ⊎ Contains (names_in InData (part_after p.part (Labelled (Symbol y))) ss) x → ⊥
      pick f (inl a) (inl b) = both_here p.part a.0 b.0
      pick f (inl a) (inr b) = not_later (Symbol x) p.line (stands a.1) (names_from InData ss (after (word_bytes d) p (Labelled (Symbol y))) q x w.1 b)
      pick f (inr a) (inl b) = not_later (Symbol x) p.line (stands b.1) (names_from InText ss (after (word_bytes d) p (Labelled (Symbol y))) q x w.1 a)
      pick f (inr a) (inr b) = f a b
  apart_from (Labelled (Block b) ∷ ss) p q x w c e = apart_from ss (after (word_bytes d) p (Labelled (Block b))) q x w.1 c e
  apart_from (Nothing ∷ ss) p q x w c e = apart_from ss (after (word_bytes d) p Nothing) q x w.1 c e
  apart_from (Unreadable ∷ ss) p q x w c e = apart_from ss (after (word_bytes d) p Unreadable) q x w.1 c e
  apart_from (TextBegins ∷ ss) p q x w c e = apart_from ss (after (word_bytes d) p TextBegins) q x w.1 c e
  apart_from (DataBegins ∷ ss) p q x w c e = apart_from ss (after (word_bytes d) p DataBegins) q x w.1 c e
  apart_from (Mislabelled ∷ ss) p q x w c e = apart_from ss (after (word_bytes d) p Mislabelled) q x w.1 c e
  apart_from (Word z ∷ ss) p q x w c e = apart_from ss (after (word_bytes d) p (Word z)) q x w.1 c e
  apart_from (Byte z ∷ ss) p q x w c e = apart_from ss (after (word_bytes d) p (Byte z)) q x w.1 c e
  apart_from (Space z ∷ ss) p q x w c e = apart_from ss (after (word_bytes d) p (Space z)) q x w.1 c e
  apart_from (Others ts ∷ ss) p q x w c e = apart_from ss (after (word_bytes d) p (Others ts)) q x w.1 c e

  pub are_apart : (n : Names) → IsSound d all → AreNamesOf n all → (x : List ℕ) → Contains n.objects x → Contains n.functions x → ⊥
  are_apart n s a x c e =
      apart_from all start s.last x s.walks (subst (λ (xs : List (List ℕ)). Contains xs x) a.functions e) (subst (λ (xs : List (List ℕ)). Contains xs x) a.objects c)

  labels_from : (ss : List Said) (p q : Position) (k : ℕ) (e : Label × ℕ) → Walks d all p ss q → Contains (text_labels k ss) e → StandsFrom e.0 p.line
  labels_from [] p q k e w c = absurd (contains_none e c)
  labels_from (Labelled l ∷ ss) p q k e w c =
      pick (λ h. labels_from ss (after (word_bytes d) p (Labelled l)) q k e w.1 h) (Contains-append_cases ((l, k) ∷ []) (text_labels k ss) e c)
    where
      pick : (Contains (text_labels k ss) e → StandsFrom e.0 (p.line + 1)) → Contains ((l, k) ∷ []) e ⊎ Contains (text_labels k ss) e → StandsFrom e.0 p.line
      pick f (inl h) = here l e.0 p.line (w.0.first l refl) (ap (λ (x : Label × ℕ). x.0) (only (l, k) e h))
      pick f (inr h) = earlier e.0 p.line (f h)
  labels_from (DataBegins ∷ ss) p q k e w c = absurd (contains_none e c)
  labels_from (Others ts ∷ ss) p q k e w c = earlier e.0 p.line (labels_from ss (after (word_bytes d) p (Others ts)) q (suc k) e w.1 c)
  labels_from (Nothing ∷ ss) p q k e w c = earlier e.0 p.line (labels_from ss (after (word_bytes d) p Nothing) q k e w.1 c)
  labels_from (Unreadable ∷ ss) p q k e w c = earlier e.0 p.line (labels_from ss (after (word_bytes d) p Unreadable) q k e w.1 c)
  labels_from (TextBegins ∷ ss) p q k e w c = earlier e.0 p.line (labels_from ss (after (word_bytes d) p TextBegins) q k e w.1 c)
  labels_from (Mislabelled ∷ ss) p q k e w c = earlier e.0 p.line (labels_from ss (after (word_bytes d) p Mislabelled) q k e w.1 c)
  labels_from (Word z ∷ ss) p q k e w c = earlier e.0 p.line (labels_from ss (after (word_bytes d) p (Word z)) q k e w.1 c)
  labels_from (Byte z ∷ ss) p q k e w c = earlier e.0 p.line (labels_from ss (after (word_bytes d) p (Byte z)) q k e w.1 c)
  labels_from (Space z ∷ ss) p q k e w c = earlier e.0 p.line (labels_from ss (after (word_bytes d) p (Space z)) q k e w.1 c)

  abbrev AreDifferent : List LabelAt → Type 0
  AreDifferent ls = AllPairs (λ a b. a.label ≢ b.label) ls

  none_different : AreDifferent []
  none_different i j x h k = absurd (omega (arith, k))

  -- a label differs from all that stand later
  first_different : (n : Names) (l : Label) (k : ℕ) (ss : List Said) (p q : Position) (g : LabelAt) (gs : List LabelAt) → Walks d all p (Labelled l ∷ ss) q → IsLab n l g.label
      → AllZip (IsAt n) (text_labels k ss) gs → All (λ b. g.label ≢ b.label) gs
  first_different n l k ss p q g gs w is z =
      All-weaker (Contains gs) (λ b. g.label ≢ b.label)
      (λ b c e.
      let r = beside n (text_labels k ss) gs b z c in
      let same : l ≡ r.entry.0 = one_label n l r.entry.0 g.label is (subst (λ (t : Lab). IsLab n r.entry.0 t) (sym e) r.is.label) in
      not_later r.entry.0 p.line (subst (λ (x : Label). StandsAt all x p.line) same (w.0.first l refl))
      (labels_from ss (after (word_bytes d) p (Labelled l)) q k r.entry w.1 r.has))
      gs (All-contains_itself gs)

  different_by : (n : Names) (ss : List Said) (p q : Position) (k : ℕ) (ls : List LabelAt) → Walks d all p ss q → AllZip (IsAt n) (text_labels k ss) ls → AreDifferent ls
  different_by n [] p q k [] w z = none_different
  different_by n [] p q k (l ∷ ls) w z = absurd z
  different_by n (Labelled l ∷ ss) p q k [] w z = absurd z
  different_by n (Labelled l ∷ ss) p q k (g ∷ gs) w z =
      AllPairs-cons (λ a b. a.label ≢ b.label) g gs (first_different n l k ss p q g gs w z.0.label z.1) (different_by n ss (after (word_bytes d) p (Labelled l)) q k gs w.1 z.1)
  different_by n (DataBegins ∷ ss) p q k [] w z = none_different
  different_by n (DataBegins ∷ ss) p q k (l ∷ ls) w z = absurd z
  different_by n (Others ts ∷ ss) p q k ls w z = different_by n ss (after (word_bytes d) p (Others ts)) q (suc k) ls w.1 z
  different_by n (Nothing ∷ ss) p q k ls w z = different_by n ss (after (word_bytes d) p Nothing) q k ls w.1 z
  different_by n (Unreadable ∷ ss) p q k ls w z = different_by n ss (after (word_bytes d) p Unreadable) q k ls w.1 z
  different_by n (TextBegins ∷ ss) p q k ls w z = different_by n ss (after (word_bytes d) p TextBegins) q k ls w.1 z
  different_by n (Mislabelled ∷ ss) p q k ls w z = different_by n ss (after (word_bytes d) p Mislabelled) q k ls w.1 z
  different_by n (Word v ∷ ss) p q k ls w z = different_by n ss (after (word_bytes d) p (Word v)) q k ls w.1 z
  different_by n (Byte v ∷ ss) p q k ls w z = different_by n ss (after (word_bytes d) p (Byte v)) q k ls w.1 z
  different_by n (Space v ∷ ss) p q k ls w z = different_by n ss (after (word_bytes d) p (Space v)) q k ls w.1 z

  pub are_different : (n : Names) (ls : List LabelAt) → IsSound d all → AllZip (IsAt n) (text_labels 0 all) ls → AreDifferent ls
  are_different n ls s z = different_by n all start s.last 0 ls s.walks z
